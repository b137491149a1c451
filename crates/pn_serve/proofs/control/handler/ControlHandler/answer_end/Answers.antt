-- The input ended in what was announced, in a command, or after a newline.
use Rattle.std.proofs.Common.{refl, sym, ap, ◌∙◌, subst, option_map}
use Rattle.pn_live.specs.Readers.{LiveReaderValue}
use Rattle.pn_serve.specs.declared.control.stop.StopSaid.{StopSaid}
use Rattle.pn_serve.specs.Control.Lines.{ControlState, after_step}
use Rattle.pn_serve.specs.Control.Steps.{StepsLast}
use Rattle.pn_serve.specs.Machine.Outcomes.{bytes_of, mode_of}
use Rattle.pn_serve.specs.Session.Resuming.{KnowsNoLess}
use Rattle.pn_serve.proofs.ControlLines.{ends_announced, ends_command, ends_nothing, knows_after, same_but}
use Rattle.pn_serve.proofs.ControlSteps.{last_knows}
use Rattle.pn_serve.proofs.Lookups.{no_length, some_length}
use Rattle.pn_serve.proofs.Knowing.{knows_itself, knows_same}
use Rattle.pn_serve.proofs.control.handler.ControlHandler.answer_end.Goals as goal

pub returns-then-has_closed-clause-knows : goal.returns-then-has_closed-clause-knows
returns-then-has_closed-clause-knows g c = knows_itself _

pub returns-in-Some-clause-ends : goal.returns-in-Some-clause-ends
returns-in-Some-clause-ends g c text here =
    let reader = ap (λ (s : ControlState). s.reader) c.self.view_is in
    let mode = sym (ap (λ (s : ControlState). s.mode) c.self.view_is) ∙ ap mode_of (sym c.take.ensures.value ∙ c.in-Some.is) in
    ends_announced c.args.self.now c.note.new.self text c.note.result (sym c.has_closed.ensures ∙ c.if-has_closed.false) c.args.part.now here c.in-Some.announced.left (bytes_of c.in-Some.announced.text) (bytes_of c.end-text.result) mode
    c.end-text.ensures c.adopt-step.result c.adopt-step.ensures (c.note.ensures.state ∙ ap (λ (r : LiveReaderValue). after_step r c.adopt-step.result) reader) c.note.ensures.reply

pub returns-in-Some-clause-knows : goal.returns-in-Some-clause-knows
returns-in-Some-clause-knows g c =
    knows_after c.args.self.now.reader c.note.new.self c.self.inside.reader c.adopt-step.result (knows_same _ _ (ap (λ (s : ControlState). s.reader) c.self.view_is)) c.note.ensures.state

pub returns-in-None-clause-ends : goal.returns-in-None-clause-ends
returns-in-None-clause-ends g c text here =
    let inside = c.self.inside in
    let none = sym c.take.ensures.value ∙ c.in-None.is in
    let mode = sym (ap (λ (s : ControlState). s.mode) c.self.view_is) ∙ ap mode_of none in
    let same = ap (λ waits. same_but inside.reader (option_map (λ (said : StopSaid). said.seconds) inside.stop) inside.is_over waits) (c.take.ensures.after ∙ sym none) ∙ c.self.view_is in
    ends_nothing c.args.self.now _ text _ (sym c.has_closed.ensures ∙ c.if-has_closed.false) c.args.part.now here mode (no_length c.args.part.now c.if-is_empty.ensures) same refl

pub returns-in-None-clause-knows : goal.returns-in-None-clause-knows
returns-in-None-clause-knows g c = knows_same _ _ (ap (λ (s : ControlState). s.reader) c.self.view_is)

pub returns-in-None-2-clause-ends : goal.returns-in-None-2-clause-ends
returns-in-None-2-clause-ends g c text here =
    let reader = ap (λ (s : ControlState). s.reader) c.self.view_is in
    let mode = sym (ap (λ (s : ControlState). s.mode) c.self.view_is) ∙ ap mode_of (sym c.take.ensures.value ∙ c.in-None-2.is) in
    ends_command c.args.self.now c.note-in-None-2.new.self text c.note-in-None-2.result (sym c.has_closed.ensures ∙ c.if-has_closed.false) c.args.part.now here mode
    (λ none. some_length c.args.part.now c.if-is_empty.ensures none) c.last_step-step.new.reader c.last_step-step.result
    (subst (λ (r : LiveReaderValue). StepsLast r c.args.part.now c.last_step-step.new.reader c.last_step-step.result) reader c.last_step-step.ensures) c.note-in-None-2.ensures.state c.note-in-None-2.ensures.reply

pub returns-in-None-2-clause-knows : goal.returns-in-None-2-clause-knows
returns-in-None-2-clause-knows g c =
    let reader = ap (λ (s : ControlState). s.reader) c.self.view_is in
    knows_after c.args.self.now.reader c.note-in-None-2.new.self c.last_step-step.new.reader c.last_step-step.result
    (subst (λ (r : LiveReaderValue). KnowsNoLess r c.last_step-step.new.reader) reader (last_knows _ _ _ _ c.last_step-step.ensures)) c.note-in-None-2.ensures.state
