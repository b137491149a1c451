-- The record that was found.
use Rattle.std.proofs.Common.{inl, refl, sym, subst, Option, Result}
use Rattle.pn_record.specs.Sets.{CellValue}
use Rattle.pn_scan.specs.declared.view.ScanFault.{ScanFault}
use Rattle.pn_protocol.specs.declared.reply.Reply.TheVariants.{Record}
use Rattle.pn_protocol.specs.Reply.Texts.{ShowsFound}
use Rattle.pn_protocol.specs.Reply.Records.{read_data}
use Rattle.pn_protocol.proofs.reply.answers.answer_read.Goals as goal

pub returns-in-Ok : goal.returns-in-Ok
returns-in-Ok c = subst (λ (found : Result (Option CellValue) ScanFault). ShowsFound (read_data c.args.key) found (Record c.args.key c.in-Ok.cell)) (sym c.in-Ok.is) (inl (refl, refl))
