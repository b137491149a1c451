-- Another line is to come, or this was the last one.
use Rattle.std.proofs.Common.{refl, arith}
use Rattle.pn_serve.proofs.machine.adoption.AnnouncedText.gather.Goals as goal

pub returns-then-left-gt1 : goal.returns-then-left-gt1
returns-then-left-gt1 c = (omega arith, refl, c.append_line-text.ensures)

pub returns : goal.returns
returns c = (omega arith, c.append_line-text.ensures)
