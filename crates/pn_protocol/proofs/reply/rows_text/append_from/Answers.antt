-- A record, or the end.
use Rattle.std.proofs.Common.{sym, subst, arith}
use Rattle.std.proofs.lemmas.Option.{slice_get_within}
use Rattle.std.specs.Option.{option_copied}
use Rattle.std.specs.List.{slice_get}
use Rattle.pn_json.specs.Tokens.{MakesPiece}
use Rattle.pn_json.proofs.AppendedTexts.{appended_as}
use Rattle.serde_json.specs.Written.{comma_if}
use Rattle.pn_protocol.specs.declared.reply.rows_text.RowsCursor.{RowsCursor}
use Rattle.pn_protocol.specs.declared.reply.rows_text.RowsCursor.TheVariants.{Record}
use Rattle.pn_protocol.specs.Reply.Making.{Found, HasContent, IsCursorOf, end_of, found_in, cursor_rest}
use Rattle.pn_protocol.proofs.MadeRows.{at_found, end_made, cursor_after, record_made}
use Rattle.pn_protocol.proofs.reply.rows_text.append_from.Goals as goal

pub append_record-next-requires : goal.append_record-next-requires
append_record-next-requires c =
    let found : Found = (c.in-Some.key.now, option_copied c.in-Some.cell) in
    at_found (HasContent c.args.content) (slice_get (found_in c.args.shown.now) c.args.index) found (sym c.in-Some.ensures) c.requires

pub next_cursor-requires : goal.next_cursor-requires
next_cursor-requires c = omega (arith, slice_get_within (found_in c.args.shown.now) c.args.index (c.in-Some.key.now, option_copied c.in-Some.cell) (sym c.in-Some.ensures), c.recall_count.ensures)

pub returns-in-Some-clause-piece : goal.returns-in-Some-clause-piece
returns-in-Some-clause-piece c =
    let records = found_in c.args.shown.now in
    let end = end_of c.args.shown.now in
    let found : Found = (c.in-Some.key.now, option_copied c.in-Some.cell) in
    let comma = appended_as (λ i. comma_if (c.is_later_row.ensures i)) c.append_comma.ensures in
    subst (λ (cursor : RowsCursor). MakesPiece 65536 (cursor_rest records end (Record c.args.index c.args.content)) (cursor_rest records end cursor) c.args.out.now c.append_record-next.new.out) (sym c.next_cursor.ensures)
    (record_made records end c.args.index c.args.content c.append_record-next.result found c.args.out.now c.append_comma.new.out c.append_record-next.new.out (sym c.in-Some.ensures) comma c.append_record-next.ensures)

pub returns-in-Some-clause-cursor : goal.returns-in-Some-clause-cursor
returns-in-Some-clause-cursor c =
    let found : Found = (c.in-Some.key.now, option_copied c.in-Some.cell) in
    subst (IsCursorOf (found_in c.args.shown.now)) (sym c.next_cursor.ensures) (cursor_after (found_in c.args.shown.now) c.args.index c.append_record-next.result found (sym c.in-Some.ensures) c.append_record-next.ensures.next_is)

pub returns-in-None-clause-piece : goal.returns-in-None-clause-piece
returns-in-None-clause-piece c = end_made c.args.shown.now c.args.index c.args.content c.args.out.now c.append_text.new.out (sym c.in-None.ensures) (appended_as c.end.ensures c.append_text.ensures)
