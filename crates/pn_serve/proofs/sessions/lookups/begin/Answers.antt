-- A page, keys or a copy are begun; others are answered at once.
use Rattle.std.proofs.Common.{sym, subst}
use Rattle.pn_scan.specs.Paging.{Stays}
use Rattle.pn_protocol.specs.declared.command.Command.{Command}
use Rattle.pn_protocol.specs.Command.Meaning.{command_value}
use Rattle.pn_serve.specs.declared.machine.line_answers.LineOutcome.TheVariants.{Pending as Begun}
use Rattle.pn_serve.specs.Session.Resuming.{LooksTo}
use Rattle.pn_serve.proofs.GoingOn.{begins_keys, begins_page}
use Rattle.pn_serve.proofs.Knowing.{stays_preorder}
use Rattle.pn_serve.proofs.sessions.lookups.begin.Goals as goal

pub returns-in-Get-clause-begins : goal.returns-in-Get-clause-begins
returns-in-Get-clause-begins c =
    subst (λ (command : Command). LooksTo Stays c.args.reader.now (command_value command) c.args.reader.now (Begun c.keys.result)) (sym c.in-Get.is)
    (begins_keys Stays stays_preorder c.args.reader.now c.in-Get.keys.items c.keys.result c.keys.ensures.new)

pub returns-in-Scan-clause-begins : goal.returns-in-Scan-clause-begins
returns-in-Scan-clause-begins c =
    subst (λ (command : Command). LooksTo Stays c.args.reader.now (command_value command) c.args.reader.now (Begun c.page.result)) (sym c.in-Scan.is)
    (begins_page Stays stays_preorder c.args.reader.now c.in-Scan.query c.page.result c.page.ensures.new)
