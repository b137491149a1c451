-- The commands so far were done.
use Rattle.std.proofs.Common.{◌≡◌, ℕ, List, Option}
use Rattle.pn_live.specs.LiveRegions.{tablets_in}
use Rattle.pn_serve.specs.Server.Events.{ToldAll}
use Rattle.pn_serve.specs.Server.Rounds.{RoundInputValue}
use Rattle.pn_serve.specs.declared.server.mailboxes.AtFault.{AtFault}
use Rattle.pn_serve.proofs.control.mailboxes.ControlMailboxes.obey_all.Given as goal

abbrev pub invariant-loop-mailbox : goal.invariant-loop-mailbox
invariant-loop-mailbox g l = record {
  told : (at_fault : AtFault) (names : List (List ℕ)) (waiting : Option RoundInputValue) → ToldAll at_fault names waiting l.fn.live l.live;
  same : tablets_in l.live ≡ tablets_in l.fn.live;
}
