-- Announced lines and the end of the input, by what the program did.
use Rattle.std.proofs.Common.{◌≡◌, ◌≢◌, ℕ, ◌-◌, ◌<◌, ◌≤◌, Bool, true, false, if◌then◌else◌, List, [], ◌∷◌, Option, Some, nat_le, inl, inr, refl, sym, ap, ◌∙◌, subst, arith}
use Rattle.std.specs.Prelude.{Ok, Err}
use Rattle.std.proofs.lemmas.Bool.Decides.{nat_tests}
use Rattle.pn_region.specs.Log.{LoggedRegion}
use Rattle.pn_serve.specs.declared.machine.adoption.AnnouncedText.{AnnouncedText}
use Rattle.pn_serve.specs.declared.machine.CommandStep.{CommandStep}
use Rattle.pn_serve.specs.declared.machine.CommandStep.TheVariants.{Obeyed, Announces}
use Rattle.pn_protocol.specs.declared.reply.Reply.{Reply}
use Rattle.pn_protocol.specs.declared.reply.Reply.TheVariants.{Silent, Refused}
use Rattle.pn_protocol.specs.declared.refusal.Refusal.{Refusal}
use Rattle.pn_protocol.specs.declared.refusal.Refusal.TheVariants.{TooLong, NotJson, BadShape, ReadOnly, OutOfRange, Memory}
use Rattle.pn_protocol.specs.Command.Lines.{command_at, is_too_long}
use Rattle.pn_protocol.specs.Command.Meaning.{CommandValue, adopt, copy, deliver, get, lose, marks, notices, read, relayout, scan, tablets}
use Rattle.pn_serve.specs.Machine.Turns.{unless_call, with_line, command_turn, turn_of, outcome_at, turn, last_command_turn, last_of, end_turn, IsReadUnless, TurnedBy, AnswersBy, ConcludesBy, Obeys, ComesTo, IsJoined, IsAlone, HandlesTo, LastsBy}
use Rattle.pn_serve.specs.Machine.Outcomes.{bytes_of, with_mode, IsAnswer, Outcome, done, line, call, round, announced, Machine, Turn, machine_over, refusal_turn, silent_turn}
use Rattle.pn_serve.specs.Machine.Doing.{text_adoption_turn}
use Rattle.pn_protocol.specs.Reply.Texts.{reply_text, is_refusal}
use Rattle.pn_serve.proofs.Turns.{read_whole, read_always, turned_read, turned_as, turned_always, turned_said, as_it_goes, as_said, within}

-- memory ran out where a call did, or in the next one
abbrev either_call : Outcome → Outcome → Outcome
either_call call next = call
either_call outcome next = next

either_read : (outcome next : Outcome) → IsReadUnless ⊥ next → IsReadUnless ⊥ (either_call outcome next)
either_read call next fits = tt
either_read done next fits = fits
either_read line next fits = fits
either_read (round flags) next fits = fits

whole_text : (outcome : Outcome) (text : Option (List ℕ)) → unless_call (read_whole outcome) text ≡ unless_call outcome text
whole_text done text = refl
whole_text line text = refl
whole_text call text = refl
whole_text (round flags) text = refl

twice : (outcome next : Outcome) (text : Option (List ℕ)) → unless_call (either_call outcome next) text ≡ unless_call next (unless_call outcome text)
twice call done text = refl
twice call line text = refl
twice call call text = refl
twice call (round flags) text = refl
twice done next text = refl
twice line next text = refl
twice (round flags) next text = refl

-- by one outcome a text that may be out of memory is adopted
adopted_by : (old new : LoggedRegion) (text : Option (List ℕ)) (reply : Reply) → ComesTo (text_adoption_turn old text) old new reply
    → TurnedBy ⊥ (λ outcome. text_adoption_turn old (unless_call outcome text)) (machine_over new) reply
adopted_by old new text reply (inl (machine, replied, refused)) = record { outcome = done; read = tt; machine_is = machine; replied = replied; refused = refused }
adopted_by old new text reply (inr (same, is)) = record {
  outcome = call;
  read = tt;
  machine_is = ap machine_over (sym same);
  replied = ap reply_text (sym is);
  refused = ap is_refusal (sym is);
}

-- a text is adopted after a line that may have run out of memory
adopted_after : (old new : LoggedRegion) (before text : Option (List ℕ)) (reply : Reply) (joined : (outcome : Outcome) × (text ≡ unless_call outcome before)) → ComesTo (text_adoption_turn old text) old new reply
    → TurnedBy ⊥ (λ outcome. text_adoption_turn old (unless_call outcome before)) (machine_over new) reply
adopted_after old new before text reply (outcome, is) comes =
    let by = adopted_by old new text reply comes in
    turned_as ⊥ (λ next. text_adoption_turn old (unless_call next text)) (λ next. text_adoption_turn old (unless_call next before)) (machine_over new) reply by (either_call outcome by.outcome) (either_read outcome by.outcome by.read)
    (ap (text_adoption_turn old) (twice outcome by.outcome before ∙ ap (unless_call by.outcome) (sym is)))

-- an announced line came
module _ (old : LoggedRegion) (lines : AnnouncedText) (bytes : List ℕ) where
  -- the text that it makes
  abbrev longer : Option (List ℕ)
  longer = with_line (bytes_of lines.text) bytes (10 ∷ [])

  tested : (outcome : Outcome) (test : Bool) → nat_le lines.left 1 ≡ test
      → turn (with_mode (Some lines) old) outcome bytes
      ≡ (if test then text_adoption_turn old (unless_call outcome longer) else silent_turn (record { mode = announced (lines.left - 1) (unless_call outcome longer); region = old.state; log = old.log }))
  tested outcome test is =
      ap (λ (b : Bool). if b then text_adoption_turn old (unless_call outcome longer) else silent_turn (record { mode = announced (lines.left - 1) (unless_call outcome longer); region = old.state; log = old.log })) is

  -- the last one
  pub came_last : (new : LoggedRegion) (text : Option (List ℕ)) (reply : Reply) → lines.left ≤ 1
      → IsJoined (bytes_of lines.text) bytes (10 ∷ []) text → ComesTo (text_adoption_turn old text) old new reply → AnswersBy ⊥ (with_mode (Some lines) old) bytes (machine_over new) reply
  came_last new text reply last joined comes =
      let by = adopted_after old new longer text reply joined comes in
      turned_as ⊥ (λ outcome. text_adoption_turn old (unless_call outcome longer)) (λ outcome. turn (with_mode (Some lines) old) outcome bytes) (machine_over new) reply by by.outcome by.read
      (tested by.outcome true (grind (arith, nat_tests, last)))

  -- not the last one
  pub came_on : (more : AnnouncedText) → 1 < lines.left → more.left ≡ lines.left - 1 → IsJoined (bytes_of lines.text) bytes (10 ∷ []) (bytes_of more.text)
      → AnswersBy ⊥ (with_mode (Some lines) old) bytes (with_mode (Some more) old) Silent
  came_on more on left (outcome, text) =
      let same = tested (read_whole outcome) false (grind (arith, nat_tests, on)) in
      let came : bytes_of more.text ≡ unless_call (read_whole outcome) longer = text ∙ sym (whole_text outcome longer) in record {
        outcome = read_whole outcome;
        read = read_always ⊥ outcome;
        machine_is = ap (λ (t : Turn). t.machine) same ∙ sym (λ i. record { mode = announced (left i) (came i); region = old.state; log = old.log });
        replied = ap (λ (t : Turn). t.reply) same;
        refused = ap (λ (t : Turn). t.refused) same;
      }

-- the input ended after a part of what was announced
pub came_part : (old new : LoggedRegion) (lines : AnnouncedText) (bytes : List ℕ) (text : Option (List ℕ)) (reply : Reply) → IsJoined (bytes_of lines.text) bytes [] text
    → ComesTo (text_adoption_turn old text) old new reply → ConcludesBy ⊥ (with_mode (Some lines) old) bytes (machine_over new) reply
came_part old new lines bytes text reply joined comes = adopted_after old new (with_line (bytes_of lines.text) bytes []) text reply joined comes

-- a line was announced, and so is not read as a command
pub answered_on : (may : Type 0) (waits : Option AnnouncedText) (lines : AnnouncedText) (old : LoggedRegion) (bytes : List ℕ) (new : Machine) (reply : Reply) → waits ≡ Some lines
    → AnswersBy ⊥ (with_mode (Some lines) old) bytes new reply → AnswersBy may (with_mode waits old) bytes new reply
answered_on may waits lines old bytes new reply is answers =
    subst (λ (w : Option AnnouncedText). AnswersBy may (with_mode w old) bytes new reply) (sym is)
    (turned_always may (λ outcome. turn (with_mode (Some lines) old) outcome bytes) new reply answers)

pub concluded_on : (may : Type 0) (waits : Option AnnouncedText) (lines : AnnouncedText) (old : LoggedRegion) (part : List ℕ) (new : Machine) (reply : Reply) → waits ≡ Some lines
    → ConcludesBy ⊥ (with_mode (Some lines) old) part new reply → ConcludesBy may (with_mode waits old) part new reply
concluded_on may waits lines old part new reply is concludes =
    subst (λ (w : Option AnnouncedText). ConcludesBy may (with_mode w old) part new reply) (sym is)
    (turned_always may (λ outcome. end_turn (with_mode (Some lines) old) outcome part) new reply concludes)

-- ---- the last command

-- a command that announces no lines
alone : (machine : Machine) (outcome : Outcome) (command : CommandValue) → IsAlone command → last_command_turn machine outcome command ≡ command_turn machine outcome command
alone machine outcome (adopt lines) is = absurd is
alone machine outcome (copy need tablet) is = refl
alone machine outcome (deliver deliveries) is = refl
alone machine outcome (get keys) is = refl
alone machine outcome (lose tablet) is = refl
alone machine outcome marks is = refl
alone machine outcome (notices since) is = refl
alone machine outcome (read key version) is = refl
alone machine outcome (relayout bounds) is = refl
alone machine outcome (scan query) is = refl
alone machine outcome tablets is = refl

as_last : (machine : Machine) (outcome : Outcome) (command : CommandValue) → last_of machine (read_whole outcome) (Ok command) ≡ last_command_turn machine (read_whole outcome) command
as_last machine done command = refl
as_last machine line command = refl
as_last machine call command = refl
as_last machine (round flags) command = refl

as_done : (machine : Machine) (outcome : Outcome) (command : CommandValue) → command_turn machine (read_whole outcome) command ≡ command_turn machine outcome command
as_done machine done command = refl
as_done machine line command = refl
as_done machine call command = refl
as_done machine (round flags) command = refl

-- a command that is not too long, as the last one
last_said : (old : LoggedRegion) (bytes : List ℕ) (command : CommandValue) (outcome : Outcome) → command_at bytes ≡ Ok command
    → last_of (machine_over old) (outcome_at (read_whole outcome) bytes) (command_at bytes) ≡ last_command_turn (machine_over old) (read_whole outcome) command
last_said old bytes command outcome said =
    ap (λ (o : Outcome). last_of (machine_over old) o (command_at bytes)) (as_it_goes (read_whole outcome) bytes (within bytes command said))
    ∙ ap (last_of (machine_over old) (read_whole outcome)) said ∙ as_last (machine_over old) outcome command

pub last_obeyed : (may : Type 0) (old new : LoggedRegion) (bytes : List ℕ) (command : CommandValue) (reply : Reply) → command_at bytes ≡ Ok command → IsAlone command → Obeys (machine_over old) command (machine_over new) reply → LastsBy may old bytes new reply
last_obeyed may old new bytes command reply said is obeys =
    turned_read may (λ outcome. command_turn (machine_over old) outcome command) (λ outcome. last_of (machine_over old) (outcome_at outcome bytes) (command_at bytes)) (machine_over new) reply obeys (read_whole obeys.outcome) (read_always may obeys.outcome)
    (last_said old bytes command obeys.outcome said ∙ alone (machine_over old) (read_whole obeys.outcome) command is ∙ as_done (machine_over old) obeys.outcome command)

pub last_adopted : (may : Type 0) (old new : LoggedRegion) (bytes : List ℕ) (lines : ℕ) (reply : Reply) → command_at bytes ≡ Ok (adopt lines) → ComesTo (text_adoption_turn old (Some [])) old new reply → LastsBy may old bytes new reply
last_adopted may old new bytes lines reply said comes =
    let by = adopted_by old new (Some []) reply comes in
    turned_as may (λ outcome. text_adoption_turn old (unless_call outcome (Some []))) (λ outcome. last_of (machine_over old) (outcome_at outcome bytes) (command_at bytes)) (machine_over new) reply by (read_whole by.outcome) (read_always may by.outcome)
    (last_said old bytes (adopt lines) by.outcome said ∙ ap (text_adoption_turn old) (whole_text by.outcome (Some [])))

-- the last line announces lines, of which none comes
pub last_announced : (may : Type 0) (old begun new : LoggedRegion) (bytes : List ℕ) (command : CommandValue) (lines : ℕ) (text : List ℕ) (reply : Reply) → command_at bytes ≡ Ok command
    → (command ≡ adopt lines) × (begun ≡ old) → text ≡ [] → ComesTo (text_adoption_turn begun (Some text)) begun new reply → LastsBy may old bytes new reply
last_announced may old begun new bytes command lines text reply said announces none comes =
    last_adopted may old new bytes lines reply (said ∙ ap Ok announces.0)
    (subst (λ (came : List ℕ). ComesTo (text_adoption_turn old (Some came)) old new reply) none
    (subst (λ (region : LoggedRegion). ComesTo (text_adoption_turn region (Some text)) region new reply) announces.1 comes))

-- memory ran out before a command was found
pub last_unread : (may : Type 0) (old : LoggedRegion) (bytes : List ℕ) → may → is_too_long bytes ≡ false → LastsBy may old bytes old (Refused Memory)
last_unread may old bytes out short =
    let same : last_of (machine_over old) (outcome_at line bytes) (command_at bytes) ≡ refusal_turn (machine_over old) Memory = ap (λ (o : Outcome). last_of (machine_over old) o (command_at bytes)) (as_it_goes line bytes short) in
    record { outcome = line; read = out; machine_is = ap (λ (t : Turn). t.machine) same; replied = ap (λ (t : Turn). t.reply) same; refused = ap (λ (t : Turn). t.refused) same }

-- the line was refused
pub last_fault : (may : Type 0) (old : LoggedRegion) (bytes : List ℕ) (refusal : Refusal) → command_at bytes ≡ Err refusal → LastsBy may old bytes old (Refused refusal)
last_fault may old bytes refusal said =
    let same : last_of (machine_over old) (outcome_at done bytes) (command_at bytes) ≡ refusal_turn (machine_over old) refusal =
    ap (λ (o : Outcome). last_of (machine_over old) o (command_at bytes)) (as_said (is_too_long bytes)) ∙ ap (last_of (machine_over old) done) said in
    record { outcome = done; read = tt; machine_is = ap (λ (t : Turn). t.machine) same; replied = ap (λ (t : Turn). t.reply) same; refused = ap (λ (t : Turn). t.refused) same }

-- it was refused, or memory ran out before a command was found
pub last_err : (may : Type 0) (old : LoggedRegion) (bytes : List ℕ) (refusal : Refusal) → (refusal ≢ Memory → command_at bytes ≡ Err refusal) → (refusal ≡ Memory → is_too_long bytes ≡ false) → (refusal ≡ Memory → may)
    → LastsBy may old bytes old (Refused refusal)
last_err may old bytes Memory is short out = last_unread may old bytes (out refl) (short refl)
last_err may old bytes TooLong is short out = last_fault may old bytes TooLong (is (λ same. cc))
last_err may old bytes NotJson is short out = last_fault may old bytes NotJson (is (λ same. cc))
last_err may old bytes (BadShape part) is short out = last_fault may old bytes (BadShape part) (is (λ same. cc))
last_err may old bytes ReadOnly is short out = last_fault may old bytes ReadOnly (is (λ same. cc))
last_err may old bytes (OutOfRange part) is short out = last_fault may old bytes (OutOfRange part) (is (λ same. cc))

-- ---- a command and the lines that it announces

pub begun_said : (may : Type 0) (old new : LoggedRegion) (bytes : List ℕ) (command : CommandValue) (begun : CommandStep) (reply : Reply) (lines : Option AnnouncedText) → command_at bytes ≡ Ok command
    → HandlesTo old command new begun → IsAnswer begun reply lines → AnswersBy may (machine_over old) bytes (with_mode lines new) reply
begun_said may old new bytes command (Obeyed told) reply lines said (alone, obeys) (same, none) =
    subst (λ (l : Option AnnouncedText). AnswersBy may (machine_over old) bytes (with_mode l new) reply) (sym none)
    (subst (λ (r : Reply). AnswersBy may (machine_over old) bytes (machine_over new) r) (sym same) (turned_said may bytes command old (machine_over new) told said obeys))
begun_said may old new bytes command (Announces count) reply lines said (adopts, stays) (none, mode) =
    let goes : turn (machine_over old) done bytes ≡ silent_turn (record { mode = announced count (Some []); region = old.state; log = old.log }) =
    ap (λ (o : Outcome). turn_of (machine_over old) o (command_at bytes)) (as_said (is_too_long bytes)) ∙ ap (turn_of (machine_over old) done) (said ∙ ap Ok adopts) in record {
      outcome = done;
      read = tt;
      machine_is = ap (λ (t : Turn). t.machine) goes ∙ sym (λ i. record { mode = mode i; region = (stays i).state; log = (stays i).log });
      replied = ap (λ (t : Turn). t.reply) goes ∙ ap reply_text (sym none);
      refused = ap (λ (t : Turn). t.refused) goes ∙ ap is_refusal (sym none);
    }
