-- What is left from each cursor.
use Rattle.std.proofs.Common.{[], refl, sym, subst}
use Rattle.pn_json.specs.Tokens.{MakesPiece}
use Rattle.pn_protocol.specs.declared.reply.rows_text.RowsCursor.{RowsCursor}
use Rattle.pn_protocol.specs.Reply.Making.{IsCursorOf, end_of, found_in, cursor_rest}
use Rattle.pn_protocol.proofs.MadeRows.{nothing_made}
use Rattle.pn_protocol.proofs.reply.rows_text.append_at.Goals as goal

pub append_from-requires : goal.append_from-requires
append_from-requires c = subst (IsCursorOf (found_in c.args.shown.now)) c.in-Record.is c.requires

pub returns-in-Record-clause-piece : goal.returns-in-Record-clause-piece
returns-in-Record-clause-piece c =
    let records = found_in c.args.shown.now in
    let end = end_of c.args.shown.now in
    subst (λ (cursor : RowsCursor). MakesPiece 65536 (cursor_rest records end cursor) (cursor_rest records end c.append_from.result) c.args.out.now c.append_from.new.out) (sym c.in-Record.is) c.append_from.ensures.piece

pub returns-in-End-clause-piece : goal.returns-in-End-clause-piece
returns-in-End-clause-piece c =
    subst (λ (cursor : RowsCursor). MakesPiece 65536 (cursor_rest (found_in c.args.shown.now) (end_of c.args.shown.now) cursor) [] c.args.out.now c.args.out.now) (sym c.in-End.is) (nothing_made [] c.args.out.now refl)
