-- The line was a command, or was announced.
use Rattle.std.proofs.Common.{refl, sym, ap, ◌∙◌, subst}
use Rattle.pn_live.specs.Readers.{LiveReaderValue}
use Rattle.pn_serve.specs.Control.Lines.{ControlState, after_step}
use Rattle.pn_serve.specs.Control.Steps.{StepsBy}
use Rattle.pn_serve.specs.Machine.Outcomes.{bytes_of, mode_of}
use Rattle.pn_serve.specs.Session.Resuming.{KnowsNoLess}
use Rattle.pn_serve.proofs.ControlLines.{answers_command, answers_more, answers_whole, knows_after, more_state}
use Rattle.pn_serve.proofs.ControlSteps.{steps_know}
use Rattle.pn_serve.proofs.Knowing.{knows_itself, knows_same}
use Rattle.pn_serve.proofs.control.handler.ControlHandler.answer_line.Goals as goal

pub returns-then-has_closed-clause-knows : goal.returns-then-has_closed-clause-knows
returns-then-has_closed-clause-knows g c = knows_itself _

pub returns-in-None-clause-answers : goal.returns-in-None-clause-answers
returns-in-None-clause-answers g c text here =
    let reader = ap (λ (s : ControlState). s.reader) c.self.view_is in
    let mode = sym (ap (λ (s : ControlState). s.mode) c.self.view_is) ∙ ap mode_of (sym c.take.ensures.value ∙ c.in-None.is) in
    answers_command c.args.self.now c.note.new.self text c.note.result (sym c.has_closed.ensures ∙ c.if-has_closed.false) c.args.line.now here mode c.step-step.new.reader c.step-step.result
    (subst (λ (r : LiveReaderValue). StepsBy r c.args.line.now c.step-step.new.reader c.step-step.result) reader c.step-step.ensures) c.note.ensures.state c.note.ensures.reply

pub returns-in-None-clause-knows : goal.returns-in-None-clause-knows
returns-in-None-clause-knows g c =
    let reader = ap (λ (s : ControlState). s.reader) c.self.view_is in
    knows_after c.args.self.now.reader c.note.new.self c.step-step.new.reader c.step-step.result
    (subst (λ (r : LiveReaderValue). KnowsNoLess r c.step-step.new.reader) reader (steps_know _ _ _ _ c.step-step.ensures)) c.note.ensures.state

pub returns-in-More-clause-answers : goal.returns-in-More-clause-answers
returns-in-More-clause-answers g c text here =
    let mode = sym (ap (λ (s : ControlState). s.mode) c.self.view_is) ∙ ap mode_of (sym c.take.ensures.value ∙ c.in-Some.is) in
    let gathers = c.in-More.ensures in
    answers_more c.args.self.now _ text _ (sym c.has_closed.ensures ∙ c.if-has_closed.false) c.args.line.now here c.in-Some.announced.left (bytes_of c.in-Some.announced.text) (bytes_of c.in-More.announced.text) mode gathers.0
    gathers.2 (more_state _ c.args.self.now _ _ _ c.self.view_is gathers.1) refl

pub returns-in-More-clause-knows : goal.returns-in-More-clause-knows
returns-in-More-clause-knows g c = knows_same _ _ (ap (λ (s : ControlState). s.reader) c.self.view_is)

pub returns-in-Text-clause-answers : goal.returns-in-Text-clause-answers
returns-in-Text-clause-answers g c text here =
    let reader = ap (λ (s : ControlState). s.reader) c.self.view_is in
    let mode = sym (ap (λ (s : ControlState). s.mode) c.self.view_is) ∙ ap mode_of (sym c.take.ensures.value ∙ c.in-Some.is) in
    let gathers = c.in-Text.ensures in
    answers_whole c.args.self.now c.note-in-Text.new.self text c.note-in-Text.result (sym c.has_closed.ensures ∙ c.if-has_closed.false) c.args.line.now here c.in-Some.announced.left (bytes_of c.in-Some.announced.text) (bytes_of c.in-Text.text) mode gathers.0
    gathers.1 c.adopt-step.result c.adopt-step.ensures (c.note-in-Text.ensures.state ∙ ap (λ (r : LiveReaderValue). after_step r c.adopt-step.result) reader) c.note-in-Text.ensures.reply

pub returns-in-Text-clause-knows : goal.returns-in-Text-clause-knows
returns-in-Text-clause-knows g c =
    knows_after c.args.self.now.reader c.note-in-Text.new.self c.self.inside.reader c.adopt-step.result (knows_same _ _ (ap (λ (s : ControlState). s.reader) c.self.view_is)) c.note-in-Text.ensures.state
