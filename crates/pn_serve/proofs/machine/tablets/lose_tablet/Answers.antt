-- A number of no tablet, or the loss of one.
use Rattle.std.proofs.Common.{◌+◌, ◌≤◌, length, ap, arith}
use Rattle.pn_serve.proofs.Relaying.{no_tablet, lost_nothing, tablet_there, lost_there}
use Rattle.pn_serve.proofs.machine.tablets.lose_tablet.Goals as goal

pub returns-then-tablet-count : goal.returns-then-tablet-count
returns-then-tablet-count c =
    let region = c.args.region.now in
    let past : length region.state.layout + 1 ≤ c.args.tablet = omega (arith, c.if-tablet-count.true, c.count.ensures.count, ap length c.layout.ensures.layout) in
    lost_nothing region c.args.tablet (no_tablet region.state c.args.tablet c.layout.ensures.region past)

pub returns : goal.returns
returns c =
    let region = c.args.region.now in
    let within : c.args.tablet ≤ length region.state.layout = omega (arith, c.if-tablet-count.false, c.count.ensures.count, ap length c.layout.ensures.layout) in
    let (state, there) = tablet_there region.state c.args.tablet c.layout.ensures.region within in
    lost_there region c.lose.new.self c.args.tablet state there c.lose.ensures.state c.lose.ensures.log
