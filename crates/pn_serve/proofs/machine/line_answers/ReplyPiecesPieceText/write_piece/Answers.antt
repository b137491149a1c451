-- A piece of the text was made after what the buffer held.
use Rattle.std.proofs.Common.{arith, sym, ◌∙◌}
use Rattle.pn_serve.proofs.Lookups.{gives_none, gives_piece, true_false}
use Rattle.pn_serve.proofs.machine.line_answers.ReplyPiecesPieceText.write_piece.Goals as goal

pub returns-then-is_made-clause-gives : goal.returns-then-is_made-clause-gives
returns-then-is_made-clause-gives c = gives_none _ _

pub returns-clause-gives : goal.returns-clause-gives
returns-clause-gives c = gives_piece _ _ _ _ c.write_piece.ensures.whole (omega (arith, c.write_piece.ensures.some (λ none. true_false (sym (c.is_made.ensures.1 none) ∙ c.if-is_made.false)))) c.write_piece.ensures.capacity
