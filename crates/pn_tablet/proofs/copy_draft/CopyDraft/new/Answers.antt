-- A draft begins without marks and without cells.
use Rattle.pn_tablet.proofs.Keeping.{draft-empty}
use Rattle.pn_tablet.proofs.copy_draft.CopyDraft.new.Goals as goal

pub invariant_of-result : goal.invariant_of-result
invariant_of-result c = draft-empty _ _ _ c.new.ensures c.new-2.ensures
