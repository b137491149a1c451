-- Lines of control sessions, by what the program did.
use Rattle.std.proofs.Common.{◌≡◌, ◌≢◌, ℕ, ◌-◌, ◌<◌, ◌≤◌, Bool, true, false, List, [], ◌∷◌, ◌++◌, Option, None, Some, length, nat_le, refl, sym, ap, ◌∙◌, subst, option_map, arith}
use Rattle.std.proofs.lemmas.Bool.Decides.{nat_tests}
use Rattle.pn_line.specs.Line.{kept_bytes}
use Rattle.pn_line.proofs.LineLaws.{kept_bytes-kept_bytes, kept_bytes-nil}
use Rattle.pn_live.specs.Readers.{LiveReaderValue}
use Rattle.pn_protocol.specs.declared.reply.Reply.{Reply}
use Rattle.pn_protocol.specs.declared.reply.Reply.TheVariants.{Silent}
use Rattle.pn_serve.specs.Control.Lines.{ControlState, at_rest, is_closed, closed_by, after_step, reply_of, Adopts, TakesLine, AnswersIn, AnswersUnless, AnswersControl, EndsIn, EndsUnless, EndsControl}
use Rattle.pn_serve.specs.Control.Steps.{AdoptsText, StepsBy, StepsLast}
use Rattle.pn_serve.specs.Machine.Turns.{unless_call, with_line, IsJoined}
use Rattle.pn_serve.specs.Machine.Outcomes.{mode_of, Mode, awaits_command, announced}
use Rattle.pn_serve.specs.Session.Resuming.{KnowsNoLess}
use Rattle.pn_serve.specs.declared.control.steps.ControlStep.{ControlStep}
use Rattle.pn_serve.specs.declared.machine.adoption.AnnouncedText.{AnnouncedText}
use Rattle.pn_serve.specs.declared.control.steps.ControlStep.TheVariants.{Replies, Announces, Stops, Ends}
use Rattle.pn_serve.proofs.ControlSteps.{steps_so_far, lasts_so_far}
use Rattle.pn_serve.proofs.Lookups.{no_bytes}

-- a session that is not closed and waits for a command
not_closed : (stop : Option ℕ) (over : Bool) → closed_by stop over ≡ false → (stop ≡ None) × (over ≡ false)
not_closed None over goes = (refl, goes)
not_closed (Some seconds) over goes = absurd (cc)

pub rests : (state : ControlState) → is_closed state ≡ false → state.mode ≡ awaits_command → state ≡ at_rest state.reader
rests state goes waits =
    let (none, on) = not_closed state.stop state.over goes in λ i. record { reader = state.reader; mode = waits i; stop = none i; over = on i }

-- where another announced line is waited for
pub more_state : (was old : ControlState) (n left : ℕ) (joined : Option (List ℕ)) → was ≡ old → n ≡ left → record was { mode = announced n joined } ≡ record old { mode = announced left joined }
more_state was old n left joined is lefts = λ i. record { reader = (is i).reader; mode = announced (lefts i) joined; stop = (is i).stop; over = (is i).over }

-- a session that waits for these lines
abbrev pub same_but : LiveReaderValue → Option ℕ → Bool → Option AnnouncedText → ControlState
same_but reader stop over waits = record { reader = reader; mode = mode_of waits; stop = stop; over = over }

-- the reader after a step
pub reader_after : (reader : LiveReaderValue) (step : ControlStep) → (after_step reader step).reader ≡ reader
reader_after reader (Replies shown) = refl
reader_after reader (Announces lines) = refl
reader_after reader (Stops seconds) = refl
reader_after reader Ends = refl

pub knows_after : (old : LiveReaderValue) (new : ControlState) (reader : LiveReaderValue) (step : ControlStep) → KnowsNoLess old reader → new ≡ after_step reader step → KnowsNoLess old new.reader
knows_after old new reader step knows is = subst (KnowsNoLess old) (sym (ap (λ (s : ControlState). s.reader) is ∙ reader_after reader step)) knows

-- a line is added by its kept bytes
joined_kept : (came : Option (List ℕ)) (bytes text newline : List ℕ) (joined : Option (List ℕ)) → bytes ≡ kept_bytes text → IsJoined came bytes newline joined → IsJoined came text newline joined
joined_kept came bytes text newline joined is (outcome, joins) =
    (outcome, joins ∙ ap (λ (line : List ℕ). unless_call outcome (option_map (λ whole. whole ++ (line ++ newline)) came)) (ap kept_bytes is ∙ kept_bytes-kept_bytes text))

module _ (old new : ControlState) (text : List ℕ) (shown : Reply) where
  answers_open : (mode : Mode) → is_closed old ≡ false → old.mode ≡ mode → AnswersIn mode old text new shown → AnswersControl old text new shown
  answers_open mode goes is answers =
      subst (λ (b : Bool). AnswersUnless b old text new shown) (sym goes) (subst (λ (m : Mode). AnswersIn m old text new shown) (sym is) answers)

  ends_open : (mode : Mode) → is_closed old ≡ false → old.mode ≡ mode → EndsIn mode old text new shown → EndsControl old text new shown
  ends_open mode goes is ends =
      subst (λ (b : Bool). EndsUnless b old text new shown) (sym goes) (subst (λ (m : Mode). EndsIn m old text new shown) (sym is) ends)

  adopts_text : (came joined : Option (List ℕ)) → joined ≡ came → (step : ControlStep) → AdoptsText joined step → new ≡ after_step old.reader step → shown ≡ reply_of step → Adopts old came new shown
  adopts_text came joined is step adopts state replied = record {
    reader = old.reader;
    step = step;
    stepped = (refl, subst (λ (text : Option (List ℕ)). AdoptsText text step) is adopts);
    state = state;
    replied = replied;
  }

  module _ (goes : is_closed old ≡ false) (bytes : List ℕ) (here : bytes ≡ kept_bytes text) where
    -- a command
    pub answers_command : old.mode ≡ awaits_command → (reader : LiveReaderValue) (step : ControlStep) → StepsBy old.reader bytes reader step → new ≡ after_step reader step → shown ≡ reply_of step → AnswersControl old text new shown
    answers_command is reader step steps state replied =
        answers_open awaits_command goes is (record { reader = reader; step = step; stepped = steps_so_far old.reader reader bytes text step here steps; state = state; replied = replied })

    -- a line that was announced, and not the last one
    pub answers_more : (left : ℕ) (came joined : Option (List ℕ)) → old.mode ≡ announced left came → 1 < left → IsJoined came bytes (10 ∷ []) joined
        → new ≡ record old { mode = announced (left - 1) joined } → shown ≡ Silent → AnswersControl old text new shown
    answers_more left came joined is more joins state none =
        let (outcome, joined_is) = joined_kept came bytes text (10 ∷ []) joined here joins in
        let test : nat_le left 1 ≡ false = grind (arith, nat_tests, more) in
        answers_open (announced left came) goes is (
          outcome,
          subst (λ (b : Bool). TakesLine b old left (unless_call outcome (with_line came text (10 ∷ []))) new shown) (sym test)
              (state ∙ ap (λ (whole : Option (List ℕ)). record old { mode = announced (left - 1) whole }) joined_is, none),
        )

    -- the last one
    pub answers_whole : (left : ℕ) (came joined : Option (List ℕ)) → old.mode ≡ announced left came → left ≤ 1 → IsJoined came bytes (10 ∷ []) joined
        → (step : ControlStep) → AdoptsText joined step → new ≡ after_step old.reader step → shown ≡ reply_of step → AnswersControl old text new shown
    answers_whole left came joined is last joins step adopts state replied =
        let (outcome, joined_is) = joined_kept came bytes text (10 ∷ []) joined here joins in
        let test : nat_le left 1 ≡ true = grind (arith, nat_tests, last) in
        answers_open (announced left came) goes is (
          outcome,
          subst (λ (b : Bool). TakesLine b old left (unless_call outcome (with_line came text (10 ∷ []))) new shown) (sym test)
              (adopts_text (unless_call outcome (with_line came text (10 ∷ []))) joined joined_is step adopts state replied),
        )

    -- the input ended after a part of what was announced
    pub ends_announced : (left : ℕ) (came joined : Option (List ℕ)) → old.mode ≡ announced left came → IsJoined came bytes [] joined
        → (step : ControlStep) → AdoptsText joined step → new ≡ after_step old.reader step → shown ≡ reply_of step → EndsControl old text new shown
    ends_announced left came joined is joins step adopts state replied =
        let (outcome, joined_is) = joined_kept came bytes text [] joined here joins in
        ends_open (announced left came) goes is (outcome, adopts_text (unless_call outcome (with_line came text [])) joined joined_is step adopts state replied)

    -- or after a newline
    pub ends_nothing : old.mode ≡ awaits_command → bytes ≡ [] → new ≡ old → shown ≡ Silent → EndsControl old text new shown
    ends_nothing is none stays silent = ends_open awaits_command goes is (nothing text (no_bytes text (sym here ∙ none)))
      where
        nothing : (t : List ℕ) → t ≡ [] → EndsIn awaits_command old t new shown
        nothing [] empty = (stays, silent)
        nothing (b ∷ t) empty = absurd (omega (arith, ap length empty))

    -- or after a command without newline
    pub ends_command : old.mode ≡ awaits_command → bytes ≢ [] → (reader : LiveReaderValue) (step : ControlStep) → StepsLast old.reader bytes reader step → new ≡ after_step reader step → shown ≡ reply_of step → EndsControl old text new shown
    ends_command is some reader step steps state replied = ends_open awaits_command goes is (lasts text (λ none. some (here ∙ ap kept_bytes none ∙ kept_bytes-nil)) (lasts_so_far old.reader reader bytes text step here steps))
      where
        lasts : (t : List ℕ) → t ≢ [] → StepsLast old.reader t reader step → EndsIn awaits_command old t new shown
        lasts [] some last = absurd (some refl)
        lasts (b ∷ t) some last = record { reader = reader; step = step; stepped = last; state = state; replied = replied }
