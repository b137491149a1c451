-- The contents so far are pushed.
use Rattle.std.proofs.Common.{◌≡◌, ◌++◌, take}
use Rattle.pn_record.proofs.held_contents.push_all.Given as goal

abbrev pub invariant-loop-content : goal.invariant-loop-content
invariant-loop-content l = l.all.items ≡ l.initial.all.items ++ take l.content-index l.more
