-- One more new tablet.
use Rattle.std.proofs.Common.{List, map, length, sym, ap, subst, ◌∙◌, ◌+◌}
use Rattle.std.specs.List.{range_with_len}
use Rattle.std.proofs.lemmas.List.{length_push}
use Rattle.pn_tablet.specs.Layouts.{tablet_ends}
use Rattle.pn_live.specs.PublishedTablets.{PublishedTabletValue, AreNewTablets}
use Rattle.pn_live.proofs.Events.{opened_more}
use Rattle.pn_live.proofs.region.opening.open_tablets.Goals as goal

pub loop-number-preserved : goal.loop-number-preserved
loop-number-preserved g c =
    let was = c.loop-number in
    let grown = c.push_reserved.ensures.items in
    let layout = c.args.layout.now in
    record {
      new = subst (λ (ps : List PublishedTabletValue). AreNewTablets (map (tablet_ends layout) (range_with_len 0 (was.number + 1))) ps) (sym grown)
          (opened_more layout was.number was.tablets.items c.in-Ok.tablet was.invariant.new c.in-Ok.ensures);
      count = ap length grown ∙ (length_push was.tablets.items c.in-Ok.tablet ∙ ap (λ n. n + 1) was.invariant.count);
      capacity = c.push_reserved.ensures.capacity ∙ was.invariant.capacity;
    }
