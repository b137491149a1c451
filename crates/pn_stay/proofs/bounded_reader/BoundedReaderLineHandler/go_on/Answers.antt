-- A look goes on, or a line that was put off is asked again.
use Rattle.std.proofs.Common.{◌≤◌, subst, sym}
use Rattle.pn_lines.specs.Answers.{answer_left as engine_left, answer_of}
use Rattle.pn_serve.specs.Lines.{pieces_left}
use Rattle.pn_stay.specs.Looks.{LooksOrWaits, look_left}
use Rattle.pn_stay.specs.declared.bounded_reader.BoundedLookup.{BoundedLookup}
use Rattle.pn_stay.proofs.bounded_reader.BoundedReaderLineHandler.go_on.Goals as goal

pub returns-in-Under-clause-answers : goal.returns-in-Under-clause-answers
returns-in-Under-clause-answers c = λ was between ended line so_far moved.
    c.look_on.ensures.looks was between ended line (subst (λ (l : BoundedLookup). LooksOrWaits was ended line between l) c.in-Under.is so_far) moved

pub returns-in-Under-clause-nearer : goal.returns-in-Under-clause-nearer
returns-in-Under-clause-nearer c = λ some. subst (λ (l : BoundedLookup). engine_left look_left (answer_of pieces_left c.look_on.result.answer) ≤ look_left l)
    (sym c.in-Under.is) (c.look_on.ensures.nearer some)

pub returns-in-PutOff-clause-answers : goal.returns-in-PutOff-clause-answers
returns-in-PutOff-clause-answers c = λ was between ended line so_far moved.
    c.ask_again.ensures.asks was between ended line c.in-PutOff.weight (subst (λ (l : BoundedLookup). LooksOrWaits was ended line between l) c.in-PutOff.is so_far) moved

pub returns-in-PutOff-clause-nearer : goal.returns-in-PutOff-clause-nearer
returns-in-PutOff-clause-nearer c = λ some. subst (λ (l : BoundedLookup). engine_left look_left (answer_of pieces_left c.ask_again.result.answer) ≤ look_left l)
    (sym c.in-PutOff.is) c.ask_again.ensures.nearer
