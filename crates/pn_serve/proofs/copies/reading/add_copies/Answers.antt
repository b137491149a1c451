-- One copy more is added.
use Rattle.std.proofs.Common.{◌≡◌, ◌∷◌, List, Result, length, ap, subst, arith}
use Rattle.std.specs.Vec.Iter.{into_iter_items}
use Rattle.pn_tablet.specs.Copies.{TabletCopyValue}
use Rattle.pn_serve.specs.declared.copies.fault.CopiesFault.{CopiesFault}
use Rattle.pn_serve.proofs.CopyReads.{AddedSoFar, one_added}
use Rattle.pn_serve.proofs.copies.reading.add_copies.Goals as goal

pub loop-copy-preserved : goal.loop-copy-preserved
loop-copy-preserved c =
    let at = c.loop-copy in
    let left = into_iter_items c.next.new.self in
    let steps : into_iter_items at.copy-iterator ≡ c.in-Some.copy ∷ left = c.in-Some.ensures.steps.0 in
    let (copy, is, grown) = c.in_ok-add_copy.ensures.added in
    record {
      so_far = one_added c.args.read.items c.args.copies.now.items at.copies.items c.add_copy.new.copies.items c.in-Some.copy copy left
          (subst (λ (reads : List (Result TabletCopyValue CopiesFault)). AddedSoFar c.args.read.items c.args.copies.now.items at.copies.items reads) steps at.invariant.so_far) is grown;
      left = omega (arith, at.invariant.left, c.in-Some.ensures.steps.1, ap length steps);
    }
