use Rattle.pn_line.proofs.LineLaws.{Splits-ended}
use Rattle.pn_line.proofs.line_buffer.take_piece.Goals as goal

pub returns-clause-splits : goal.returns-clause-splits
returns-clause-splits c = Splits-ended _ _ _ c.min.result _ c.in-Some.ensures c.append-2.ensures
