-- A number of no tablet, or the copy of one.
use Rattle.std.proofs.Common.{◌+◌, ◌≤◌, length, ap, arith, slice_get}
use Rattle.pn_tablet.specs.Copies.{copy_of, is_memory}
use Rattle.pn_tablet.specs.Steps.{Answers}
use Rattle.pn_tablet.specs.Tablets.{TabletStateValue}
use Rattle.pn_serve.proofs.Relaying.{no_tablet, copied_nothing, tablet_there, answered_there, at_some}
use Rattle.pn_serve.proofs.machine.tablets.copy_tablet.Goals as goal

pub returns-then-tablet-count : goal.returns-then-tablet-count
returns-then-tablet-count c =
    let region = c.args.region.now in
    let past : length region.state.layout + 1 ≤ c.args.tablet = omega (arith, c.if-tablet-count.true, c.count.ensures.count, ap length c.layout.ensures.layout) in
    copied_nothing region c.args.need.now c.args.tablet (no_tablet region.state c.args.tablet c.layout.ensures.region past)

pub returns : goal.returns
returns c =
    let region = c.args.region.now in
    let need = c.args.need.now in
    let within : c.args.tablet ≤ length region.state.layout = omega (arith, c.if-tablet-count.false, c.count.ensures.count, ap length c.layout.ensures.layout) in
    let (state, there) = tablet_there region.state c.args.tablet c.layout.ensures.region within in
    answered_there region need c.args.tablet state there c.copy.result c.answer_copy.result
    (at_some (slice_get region.state.tablets c.args.tablet) state (λ (s : TabletStateValue). Answers is_memory c.copy.result (copy_of s need)) there c.copy.ensures.exact) c.answer_copy.ensures
