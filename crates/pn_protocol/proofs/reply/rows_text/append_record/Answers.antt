-- The row, or null.
use Rattle.std.proofs.Common.{◌≡◌, Option, None, sym, ap, subst}
use Rattle.std.specs.Option.{option_copied}
use Rattle.pn_record.specs.Sets.{CellValue}
use Rattle.pn_protocol.specs.Reply.Making.{HasContent, MakesRecord}
use Rattle.pn_protocol.proofs.MadeRows.{null_made}
use Rattle.pn_protocol.proofs.reply.rows_text.append_record.Goals as goal

pub returns-in-None : goal.returns-in-None
returns-in-None c =
    let none : option_copied c.args.cell ≡ None = ap option_copied c.in-None.is in
    let content = subst (λ (cell : Option CellValue). HasContent c.args.content (c.args.key.now, cell)) none c.requires in
    subst (λ (cell : Option CellValue). MakesRecord (c.args.key.now, cell) c.args.content c.args.out.now c.append_text.new.out 0) (sym none)
    (null_made c.args.content c.args.key.now c.args.out.now c.append_text.new.out content c.append_text.ensures)
