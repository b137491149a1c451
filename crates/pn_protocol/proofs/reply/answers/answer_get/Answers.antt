-- The records that were found.
use Rattle.std.proofs.Common.{inl, refl, sym, subst, Global, Option, Result, Vec}
use Rattle.pn_record.specs.Sets.{CellValue}
use Rattle.pn_scan.specs.declared.view.ScanFault.{ScanFault}
use Rattle.pn_protocol.specs.declared.reply.Reply.TheVariants.{Records}
use Rattle.pn_protocol.specs.Reply.Texts.{ShowsFound}
use Rattle.pn_protocol.specs.Reply.Records.{get_data}
use Rattle.pn_protocol.proofs.reply.answers.answer_get.Goals as goal

pub returns-in-Ok : goal.returns-in-Ok
returns-in-Ok c =
    subst (λ (found : Result (Vec (Option CellValue) Global) ScanFault). ShowsFound (λ (cells : Vec (Option CellValue) Global). get_data c.args.keys.items cells.items) found (Records c.args.keys c.in-Ok.cells)) (sym c.in-Ok.is) (inl (refl, refl))
