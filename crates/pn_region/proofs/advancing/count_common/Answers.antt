-- One name more is counted, or is not one that all have.
use Rattle.std.proofs.Common.{length, map, sym, ap, ◌∙◌, arith}
use Rattle.std.specs.Int.{from_bool}
use Rattle.pn_region.specs.Recovery.{least_cover}
use Rattle.pn_region.proofs.Advanced.{all_have, passing, have_mapped, first_names, count_on}
use Rattle.pn_region.proofs.advancing.count_common.Goals as goal

pub loop-name-init : goal.loop-name-init
loop-name-init g c =
    let f = g.T.Covered.tablet in
    let tablets = c.args.tablets.now in
    let all = ap (passing (all_have (map f tablets))) (c.into_iter-name-iterator.ensures.into_iter_gives ∙ c.iter-name-items.ensures.all ∙ c.cover.ensures.cover)
    ∙ first_names f tablets c.in-Some.first.now (sym c.in-Some.ensures.value) c.cover.ensures.positions in
    record { counted = omega (arith, all); within = omega arith }

pub loop-name-preserved : goal.loop-name-preserved
loop-name-preserved g c =
    let tablets = map g.T.Covered.tablet c.args.tablets.now in
    let so_far = rw c.in-Some-2.ensures.steps at c.loop-name.invariant.counted in
    record {
      counted =
          count_on (all_have tablets) c.in-Some-2.name.now c.next.new.self c.loop-name.count c.from-is_common.result c.saturating_add-count.result (length (least_cover tablets))
          (c.from-is_common.ensures ∙ ap from_bool (c.have_all.ensures ∙ have_mapped g.T.Covered.tablet c.in-Some-2.name.now c.args.tablets.now)) c.saturating_add-count.ensures so_far;
      within = omega (arith, c.saturating_add-count.ensures);
    }

pub returns : goal.returns
returns g c =
    let none = ap (passing (all_have (map g.T.Covered.tablet c.args.tablets.now))) c.in-None.ensures.steps.0 in
    omega (arith, none, c.loop-name.invariant.counted, c.loop-name.invariant.within)
