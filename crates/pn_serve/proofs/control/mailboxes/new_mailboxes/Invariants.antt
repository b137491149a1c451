-- There is a mailbox for each number so far.
use Rattle.std.proofs.Common.{◌≡◌, length}
use Rattle.pn_serve.proofs.control.mailboxes.new_mailboxes.Given as goal

abbrev pub invariant-loop-number : goal.invariant-loop-number
invariant-loop-number l = length l.mailboxes.items ≡ l.number
