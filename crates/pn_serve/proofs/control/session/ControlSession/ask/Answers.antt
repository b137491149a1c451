-- The writer's answer is the reply, or is shown by it.
use Rattle.std.proofs.Common.{inl, refl}
use Rattle.pn_serve.proofs.ControlSteps.{says_line}
use Rattle.pn_serve.proofs.control.session.ControlSession.ask.Goals as goal

pub returns-in-Some-Reply : goal.returns-in-Some-Reply
returns-in-Some-Reply g c = record { said = _; given = rw c.in-Some-Reply.field-0-is at c.in-Some-Reply.ensures; says = inl refl }

pub returns-in-Some-Found : goal.returns-in-Some-Found
returns-in-Some-Found g c = record { said = _; given = rw c.in-Some-Found.field-0-is at c.in-Some-Found.ensures; says = says_line _ _ _ c.notices_reply.ensures c.answer_text.ensures }
