-- A piece from the cursor that the text is at.
use Rattle.std.proofs.Common.{ℕ, List, subst}
use Rattle.pn_json.specs.Tokens.{MakesPiece}
use Rattle.pn_protocol.specs.Reply.Making.{end_of, found_in, cursor_rest}
use Rattle.pn_protocol.proofs.reply.rows_text.RowsText.append_piece.Goals as goal

pub invariant_of-self : goal.invariant_of-self
invariant_of-self c = c.append_at-self-inside.ensures.cursor

pub returns : goal.returns
returns c =
    let shown = c.self.inside.shown in
    subst (λ (left : List ℕ). MakesPiece 65536 left (cursor_rest (found_in shown) (end_of shown) c.append_at-self-inside.result) c.args.out.now c.append_at-self-inside.new.out) c.self.view_is c.append_at-self-inside.ensures.piece
