-- The marks advanced to those that were shown, or memory ran out.
use Rattle.pn_serve.specs.declared.control.commands.WriterCommand.TheVariants as commands
use Rattle.pn_serve.proofs.Obeying.{out, still, advanced_to, advanced_not}
use Rattle.pn_serve.proofs.control.commands.advance_to.Goals as goal

pub returns-in_default-clause-obeys : goal.returns-in_default-clause-obeys
returns-in_default-clause-obeys c = out c.args.live.now commands.Advance

pub returns-in-Ok-advance-clause-obeys : goal.returns-in-Ok-advance-clause-obeys
returns-in-Ok-advance-clause-obeys c = advanced_to c.args.live.now c.advance.new.self c.args.marks.now c.in-Ok.text c.requires c.in-Ok.ensures c.in-Ok-advance.ensures.ok

pub returns-in-Err-clause-obeys : goal.returns-in-Err-clause-obeys
returns-in-Err-clause-obeys c = still c.args.live.now commands.Advance c.advance.new.self _ c.in-Err.ensures.err (advanced_not c.args.live.now c.in-Err.fault c.refuse.result c.in-Err.ensures.refused c.refuse.ensures)
