-- One tablet more gives its copy, or is the first that gives none.
use Rattle.std.proofs.Common.{◌≡◌, ◌+◌, length, map, Ok, sym, ap, ◌∙◌, arith}
use Rattle.std.proofs.lemmas.List.{length_push, take_all}
use Rattle.pn_region.proofs.RoundSteps.{tablet_count}
use Rattle.pn_serve.specs.Copies.{copies_from}
use Rattle.pn_serve.proofs.CopyReads.{passed_on}
use Rattle.pn_serve.proofs.Recutting.{given_more, stops_giving}
use Rattle.pn_serve.proofs.copies.starting.copies_of.Goals as goal

pub loop-tablet-preserved : goal.loop-tablet-preserved
loop-tablet-preserved c =
    let was = c.loop-tablet in
    let one = c.in_ok-copy_of_tablet.field-0 in
    let grown = c.push_reserved.ensures.items in
    record {
      given = given_more c.args.region.now.state.tablets was.tablet was.copies.items one was.invariant.given c.in_ok-copy_of_tablet.ensures.given ∙ ap (map Ok) (sym grown);
      count = ap length grown ∙ length_push was.copies.items one ∙ ap (λ n. n + 1) was.invariant.count;
      capacity = c.push_reserved.ensures.capacity ∙ was.invariant.capacity;
    }

pub returns-in_err-copy_of_tablet-clause-fault : goal.returns-in_err-copy_of_tablet-clause-fault
returns-in_err-copy_of_tablet-clause-fault c =
    let was = c.loop-tablet in
    passed_on c.from_residual-in_err-copy_of_tablet.result c.in_err-copy_of_tablet.field-0.0 _ c.from_residual-in_err-copy_of_tablet.ensures.1
    (λ other. stops_giving c.args.region.now.state.tablets was.tablet was.copies.items c.in_err-copy_of_tablet.field-0.0 was.invariant.given was.invariant.count (c.in_err-copy_of_tablet.ensures.fault other))

pub returns-clause-given : goal.returns-clause-given
returns-clause-given c =
    let was = c.loop-tablet in
    let region = c.args.region.now.state in
    let count : length region.tablets ≡ length region.layout + 1 = tablet_count region.marks region.layout region.tablets c.layout.ensures.region.tablets in
    ap copies_from (sym (take_all was.tablet region.tablets (omega (arith, count, ap length c.layout.ensures.layout, c.count-count.ensures.count, c.loop-tablet-test.false)))) ∙ was.invariant.given
