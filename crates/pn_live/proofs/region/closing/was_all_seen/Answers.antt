-- Each reader knows no more than is published.
use Rattle.std.proofs.Common.{◌≡◌, ◌∷◌, length, sym, ap, subst, ◌∙◌, arith}
use Rattle.std.specs.List.{AllByRecursion}
use Rattle.std.specs.Vec.Iter.{into_iter_items}
use Rattle.pn_live.specs.Readers.{AreOfTablets, AllKnowPublished, LiveReaderValue, ReadsFrom}
use Rattle.pn_live.proofs.Learning.{tablet_readers_of_tablets}
use Rattle.pn_live.proofs.Appending.{nothing_left}
use Rattle.pn_live.proofs.region.closing.was_all_seen.Goals as goal

pub was_seen-requires : goal.was_seen-requires
was_seen-requires c =
    let at = c.loop-reader in
    let reader = c.in-Some.reader in
    let tablets = c.args.tablets.now in
    let steps : into_iter_items at.reader-iterator ≡ reader ∷ into_iter_items c.next.new.self = c.in-Some.ensures.steps.0 in
    let of = subst (AllByRecursion (ReadsFrom tablets)) steps at.invariant.of in
    subst (AreOfTablets tablets) (sym c.into_tablet_readers.ensures.tablet_readers) (tablet_readers_of_tablets tablets reader of.0 c.into_tablet_readers.ensures.ranges)

pub loop-reader-preserved : goal.loop-reader-preserved
loop-reader-preserved c =
    let at = c.loop-reader in
    let reader = c.in-Some.reader in
    let tablets = c.args.tablets.now in
    let steps : into_iter_items at.reader-iterator ≡ reader ∷ into_iter_items c.next.new.self = c.in-Some.ensures.steps.0 in
    let of = subst (AllByRecursion (ReadsFrom tablets)) steps at.invariant.of in
    let known : AllKnowPublished tablets reader.tablet_readers = subst (AllKnowPublished tablets) c.into_tablet_readers.ensures.tablet_readers (c.was_seen.ensures c.if-not-was_seen.false) in
    record {
      of = of.1;
      seen = λ rest. at.invariant.seen (subst (AllByRecursion (λ (r : LiveReaderValue). AllKnowPublished tablets r.tablet_readers)) (sym steps) (known, rest));
      left = omega (arith, at.invariant.left, c.in-Some.ensures.steps.1, ap length steps);
    }

pub returns : goal.returns
returns c every =
    let at = c.loop-reader in
    let none = c.in-None.ensures.steps in
    let items = into_iter_items at.reader-iterator in
    at.invariant.seen (subst (AllByRecursion (λ (r : LiveReaderValue). AllKnowPublished c.args.tablets.now r.tablet_readers)) (sym (nothing_left items (sym at.invariant.left ∙ none.0))) tt)
