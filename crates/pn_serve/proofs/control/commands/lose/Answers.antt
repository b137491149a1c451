-- A number of no tablet, or the loss of one.
use Rattle.std.proofs.Common.{◌<◌, ◌≤◌, length, ap, arith}
use Rattle.pn_serve.specs.declared.control.commands.WriterCommand.TheVariants as commands
use Rattle.pn_serve.proofs.Obeying.{out, still, lost_none, lost_it}
use Rattle.pn_serve.proofs.control.commands.lose.Goals as goal

pub returns-then-tablet-count-clause-obeys : goal.returns-then-tablet-count-clause-obeys
returns-then-tablet-count-clause-obeys g c =
    let live = c.args.live.now in
    let past : length live.layout < c.args.tablet = omega (arith, c.if-tablet-count.true, c.count.ensures.count, ap length c.layout.ensures.layout) in
    lost_none live c.args.tablet past c.layout.ensures.region

pub lose-requires : goal.lose-requires
lose-requires g c = omega (arith, c.if-tablet-count.false, c.count.ensures.count, ap length c.layout.ensures.layout)

pub returns-in-Ok-clause-obeys : goal.returns-in-Ok-clause-obeys
returns-in-Ok-clause-obeys g c =
    let live = c.args.live.now in
    let within : c.args.tablet ≤ length live.layout = omega (arith, c.if-tablet-count.false, c.count.ensures.count, ap length c.layout.ensures.layout) in
    lost_it live c.args.tablet c.lose.new.self within c.layout.ensures.region c.in-Ok.ensures.ok c.in-Ok.ensures.state

pub returns-in-Err-clause-obeys : goal.returns-in-Err-clause-obeys
returns-in-Err-clause-obeys g c = still c.args.live.now (commands.Lose c.args.tablet) c.lose.new.self _ c.in-Err.ensures.err (out c.args.live.now (commands.Lose c.args.tablet))
