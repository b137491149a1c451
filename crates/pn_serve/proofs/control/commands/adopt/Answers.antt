-- The copy's tablet took it, or says why not.
use Rattle.std.proofs.Common.{None, Some, subst}
use Rattle.pn_tablet.specs.Copies.{TabletCopyValue, IsCopy}
use Rattle.pn_serve.specs.declared.control.commands.WriterCommand.TheVariants as commands
use Rattle.pn_serve.proofs.Obeying.{still, for_copy, adopted_it, adopted_by_none, adopted_not}
use Rattle.pn_serve.proofs.control.commands.adopt.Goals as goal

pub returns-in_default-clause-obeys : goal.returns-in_default-clause-obeys
returns-in_default-clause-obeys g c = adopted_by_none c.args.live.now c.args.copy c.refuse.result (for_copy c.args.live.now None c.copy.view_is c.in_default.ensures) c.refuse.ensures

pub returns-in-Ok-clause-obeys : goal.returns-in-Ok-clause-obeys
returns-in-Ok-clause-obeys g c =
    adopted_it c.args.live.now c.args.copy c.adopt.new.self c.in-Some.tablet (subst (λ (x : TabletCopyValue). IsCopy x.range x.marks x.cells) c.copy.view_is c.copy.invariant)
    (for_copy c.args.live.now (Some c.in-Some.tablet) c.copy.view_is c.in-Some.ensures) c.in-Ok.ensures.ok

pub returns-in-Err-clause-obeys : goal.returns-in-Err-clause-obeys
returns-in-Err-clause-obeys g c =
    still c.args.live.now (commands.Adopt c.args.copy) c.adopt.new.self _ c.in-Err.ensures.err (adopted_not c.args.live.now c.args.copy c.in-Err.fault c.refuse-in-Err.result c.in-Err.ensures.refused c.refuse-in-Err.ensures)
