-- Nothing, or a piece of the rows or of the lines.
use Rattle.std.proofs.Common.{◌≤◌, sym, ap, subst, arith}
use Rattle.pn_json.specs.Tokens.{MakesPiece}
use Rattle.pn_json.proofs.AppendedTexts.{piece_within}
use Rattle.pn_protocol.specs.declared.reply.text.Rest.{Rest}
use Rattle.pn_protocol.specs.Reply.Texts.{rest_bytes}
use Rattle.pn_protocol.proofs.MadeRows.{nothing_made}
use Rattle.pn_protocol.proofs.reply.text.Rest.append_piece.Goals as goal

pub returns-in-Nothing : goal.returns-in-Nothing
returns-in-Nothing c = nothing_made (rest_bytes c.args.self.now) c.args.out.now (ap rest_bytes c.in-Nothing.is)

pub returns-in-Rows : goal.returns-in-Rows
returns-in-Rows c =
    subst (λ (rest : Rest). MakesPiece 65536 (rest_bytes rest) c.append_piece.new.self c.args.out.now c.append_piece.new.out) (sym c.in-Rows.is) c.append_piece.ensures

pub returns-in-Lines : goal.returns-in-Lines
returns-in-Lines c =
    let within : 60000 ≤ 65536 = omega arith in
    subst (λ (rest : Rest). MakesPiece 65536 (rest_bytes rest) c.append_line.new.self.left c.args.out.now c.append_line.new.out) (sym c.in-Lines.is) (piece_within within c.append_line.ensures.line)
