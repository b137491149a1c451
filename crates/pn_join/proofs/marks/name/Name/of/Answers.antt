-- The name is written over the first of its zeros.

use Rattle.std.proofs.Common.{ℕ, List, ◌++◌, subst, sym, length, drop, replicate}
use Rattle.pn_join.specs.Naming.{HoldsName}
use Rattle.pn_join.specs.declared.marks.name.TheConstants.{MAX_NAME_BYTES}
use Rattle.pn_join.proofs.NameText.{HoldsName-written}
use Rattle.pn_join.proofs.marks.name.Name.of.Goals as goal

pub invariant_of-result : goal.invariant_of-result
invariant_of-result c =
    subst (λ (written : List ℕ). HoldsName (written ++ drop (length c.args.text.now) (replicate MAX_NAME_BYTES 0)) (length c.args.text.now))
    (sym c.copy_from_slice.ensures.after) (HoldsName-written c.args.text.now c.requires.fits)
