-- Inputs with refused rounds that are repeated leave the regions of inputs without them.
use Rattle.std.proofs.Common.{◌≡◌, ◌≢◌, ℕ, false, List, [], ◌∷◌, refl, sym, ap, ◌∙◌, subst}
use Rattle.std.specs.Prelude.{Result, Ok, Err, Option, Some, None}
use Rattle.std.specs.List.{AllByRecursion}
use Rattle.std.specs.Result.{result_map_both}
use Rattle.pn_join.specs.Marks.{Positions}
use Rattle.pn_stream.specs.Brokers.{DeliveryValue}
use Rattle.pn_region.specs.Events.{RegionEvent}
use Rattle.pn_region.specs.Rounds.{new_marks, after_joins}
use Rattle.pn_region.specs.Regions.{RegionValue}
use Rattle.pn_region.specs.declared.fault.RoundFault.{RoundFault}
use Rattle.pn_protocol.specs.declared.refusal.Refusal.{Refusal}
use Rattle.pn_protocol.specs.Command.Lines.{command_at}
use Rattle.pn_protocol.specs.Command.Meaning.{CommandValue, adopt, copy, deliver, get, lose, marks, notices, read, relayout, scan, tablets}
use Rattle.pn_serve.specs.Machine.Turns.{unless_call, with_line, last_of, end_in, end_turn, turn_of, outcome_at, turn_in, turn}
use Rattle.pn_serve.specs.Machine.Doing.{delivery_turn, text_adoption_turn}
use Rattle.pn_serve.specs.Machine.Outcomes.{Outcome, done, line, call, round, Mode, awaits_command, announced, Machine, Turn, logged_region}
use Rattle.pn_serve.specs.Script.Events.{events_by, events_by_text, events_in}
use Rattle.pn_serve.specs.Script.Written.{InputEnd, machine_at_end, ToldLine, after_line}
use Rattle.pn_serve.specs.Script.Laws.{Delivers, IsAccepted, IsAcceptedAtEnd}
use Rattle.pn_serve.proofs.LineSteps.{Alike, said_steps, text_steps, line_steps}
use Rattle.pn_serve.proofs.RepeatedRounds.{LookAlike, RunsAhead, caught_up, equal_carries}

-- ---- machines with the same region, which wait for the same

abbrev pub Equal : RegionValue → RegionValue → Type 0
Equal a b = a ≡ b

abbrev pub Same : Machine → Machine → Type 0
Same m n = Alike Equal m n

abbrev Any : RegionEvent → Type 0
Any event = Unit {0}

any_events : (happens : List RegionEvent) → AllByRecursion Any happens
any_events [] = tt
any_events (event ∷ happens) = (tt, any_events happens)

pub same_then : (k m n : Machine) → Same k m → Same m n → Same k n
same_then k m n first second = record { region = first.region ∙ second.region; mode = first.mode ∙ second.mode }

module _ (m n : Machine) (same : Same m n) where
  said_same : (outcome : Outcome) (said : Result CommandValue Refusal) → Same (turn_of m outcome said).machine (turn_of n outcome said).machine
  said_same outcome said = (said_steps Equal Any equal_carries m n same outcome said (any_events (events_by m outcome said))).machines

  line_same : (text : ToldLine) → Same (after_line m text) (after_line n text)
  line_same text = (line_steps Equal Any equal_carries m n same text.outcome text.text (any_events (events_in m.mode m text.outcome text.text))).machines

  text_same : (text : Option (List ℕ)) → Same (text_adoption_turn (logged_region m) text).machine (text_adoption_turn (logged_region n) text).machine
  text_same text = (text_steps Equal Any equal_carries m n same text (any_events (events_by_text (logged_region m) text))).machines

  last_same : (outcome : Outcome) (said : Result CommandValue Refusal) → Same (last_of m outcome said).machine (last_of n outcome said).machine
  last_same line said = same
  last_same done (Ok (adopt lines)) = text_same (unless_call done (Some []))
  last_same call (Ok (adopt lines)) = text_same (unless_call call (Some []))
  last_same (round flags) (Ok (adopt lines)) = text_same (unless_call (round flags) (Some []))
  last_same done (Ok (copy need tablet)) = said_same done (Ok (copy need tablet))
  last_same call (Ok (copy need tablet)) = said_same call (Ok (copy need tablet))
  last_same (round flags) (Ok (copy need tablet)) = said_same (round flags) (Ok (copy need tablet))
  last_same done (Ok (deliver deliveries)) = said_same done (Ok (deliver deliveries))
  last_same call (Ok (deliver deliveries)) = said_same call (Ok (deliver deliveries))
  last_same (round flags) (Ok (deliver deliveries)) = said_same (round flags) (Ok (deliver deliveries))
  last_same done (Ok (get keys)) = same
  last_same call (Ok (get keys)) = same
  last_same (round flags) (Ok (get keys)) = same
  last_same done (Ok (lose tablet)) = said_same done (Ok (lose tablet))
  last_same call (Ok (lose tablet)) = said_same call (Ok (lose tablet))
  last_same (round flags) (Ok (lose tablet)) = said_same (round flags) (Ok (lose tablet))
  last_same done (Ok marks) = same
  last_same call (Ok marks) = same
  last_same (round flags) (Ok marks) = same
  last_same done (Ok (notices since)) = same
  last_same call (Ok (notices since)) = same
  last_same (round flags) (Ok (notices since)) = same
  last_same done (Ok (read key version)) = same
  last_same call (Ok (read key version)) = same
  last_same (round flags) (Ok (read key version)) = same
  last_same done (Ok (relayout bounds)) = said_same done (Ok (relayout bounds))
  last_same call (Ok (relayout bounds)) = said_same call (Ok (relayout bounds))
  last_same (round flags) (Ok (relayout bounds)) = said_same (round flags) (Ok (relayout bounds))
  last_same done (Ok (scan query)) = same
  last_same call (Ok (scan query)) = same
  last_same (round flags) (Ok (scan query)) = same
  last_same done (Ok tablets) = same
  last_same call (Ok tablets) = same
  last_same (round flags) (Ok tablets) = same
  last_same done (Err refusal) = same
  last_same call (Err refusal) = same
  last_same (round flags) (Err refusal) = same

  end_in_same : (mode : Mode) (outcome : Outcome) (part : List ℕ) → Same (end_in mode m outcome part).machine (end_in mode n outcome part).machine
  end_in_same awaits_command outcome [] = same
  end_in_same awaits_command outcome (b ∷ part) = last_same (outcome_at outcome (b ∷ part)) (command_at (b ∷ part))
  end_in_same (announced left came) outcome part = text_same (unless_call outcome (with_line came part []))

  ended_same : (end : Option InputEnd) → Same (machine_at_end m end) (machine_at_end n end)
  ended_same None = same
  ended_same (Some end) = subst (λ (mode : Mode). Same (end_turn m end.outcome end.part).machine (end_in mode n end.outcome end.part).machine) same.mode (end_in_same m.mode end.outcome end.part)

-- the machine after lines, and after an end
abbrev pub after_lines : Machine → List ToldLine → Machine
after_lines m [] = m
after_lines m (text ∷ lines) = after_lines (after_line m text) lines

abbrev pub finished : Machine → List ToldLine → Option InputEnd → Machine
finished m lines end = machine_at_end (after_lines m lines) end

pub finished_same : (m n : Machine) (lines : List ToldLine) (end : Option InputEnd) → Same m n → Same (finished m lines end) (finished n lines end)
finished_same m n [] end same = ended_same m n same end
finished_same m n (text ∷ lines) end same = finished_same (after_line m text) (after_line n text) lines end (line_same m n same text)

-- ---- what a `deliver` does

pub deliver_turn : (m : Machine) (text : List ℕ) (deliveries : List DeliveryValue) (outcome : Outcome) → Delivers m text deliveries → turn m outcome text ≡ turn_of m (outcome_at outcome text) (Ok (deliver deliveries))
deliver_turn m text deliveries outcome delivers =
    ap (λ (mode : Mode). turn_in mode m outcome text) delivers.waits ∙ ap (λ (said : Result CommandValue Refusal). turn_of m (outcome_at outcome text) said) delivers.says

last_as_line : (m : Machine) (outcome : Outcome) (deliveries : List DeliveryValue) → last_of m outcome (Ok (deliver deliveries)) ≡ turn_of m outcome (Ok (deliver deliveries))
last_as_line m done deliveries = refl
last_as_line m line deliveries = refl
last_as_line m call deliveries = refl
last_as_line m (round flags) deliveries = refl

deliver_end : (m : Machine) (part : List ℕ) (deliveries : List DeliveryValue) (outcome : Outcome) → part ≢ [] → Delivers m part deliveries → end_turn m outcome part ≡ turn_of m (outcome_at outcome part) (Ok (deliver deliveries))
deliver_end m [] deliveries outcome there delivers = absurd (there refl)
deliver_end m (b ∷ part) deliveries outcome there delivers =
    ap (λ (mode : Mode). end_in mode m outcome (b ∷ part)) delivers.waits
    ∙ ap (λ (said : Result CommandValue Refusal). last_of m (outcome_at outcome (b ∷ part)) said) delivers.says
    ∙ last_as_line m (outcome_at outcome (b ∷ part)) deliveries

abbrev pub round_of : Machine → List DeliveryValue → Result Positions RoundFault → Turn
round_of m deliveries right = delivery_turn m (result_map_both (after_joins m.region deliveries) (λ fault. fault) right)

-- ---- an accepted round

module _ (m n : Machine) (deliveries : List DeliveryValue) where
  -- a machine that ran ahead by this round is caught up with
  caught_by : (mode : m.mode ≡ n.mode) → RunsAhead deliveries m.region n.region → (right : Result Positions RoundFault) → new_marks m.region.marks deliveries ≡ right → (round_of m deliveries right).refused ≡ false
      → Same (round_of m deliveries right).machine (round_of n deliveries right).machine
  caught_by mode ahead (Ok last) is accepted = record { region = caught_up deliveries m.region n.region ahead last is; mode = mode }
  caught_by mode ahead (Err fault) is accepted = cc

  caught : (outcome : Outcome) → Alike (RunsAhead deliveries) m n → (turn_of m outcome (Ok (deliver deliveries))).refused ≡ false → Same (turn_of m outcome (Ok (deliver deliveries))).machine (turn_of n outcome (Ok (deliver deliveries))).machine
  caught done alike accepted =
      let at = new_marks m.region.marks deliveries in
      subst (λ (right : Result Positions RoundFault). Same (round_of m deliveries at).machine (round_of n deliveries right).machine)
      (ap (λ (marks : Positions). new_marks marks deliveries) alike.region.marks) (caught_by alike.mode alike.region at refl accepted)
  caught line alike accepted = cc
  caught call alike accepted = cc
  caught (round flags) alike accepted = cc

  -- it is accepted as well by a machine with the same marks
  too_by : (right : Result Positions RoundFault) → (round_of n deliveries right).refused ≡ (round_of m deliveries right).refused
  too_by (Ok last) = refl
  too_by (Err fault) = refl

  refused_too : (outcome : Outcome) → m.region.marks ≡ n.region.marks → (turn_of n outcome (Ok (deliver deliveries))).refused ≡ (turn_of m outcome (Ok (deliver deliveries))).refused
  refused_too done same =
      let at = new_marks m.region.marks deliveries in
      subst (λ (right : Result Positions RoundFault). (round_of n deliveries right).refused ≡ (round_of m deliveries at).refused) (ap (λ (marks : Positions). new_marks marks deliveries) same) (too_by at)
  refused_too line same = refl
  refused_too call same = refl
  refused_too (round flags) same = refl

  delivers_too : (text : List ℕ) → m.mode ≡ n.mode → Delivers m text deliveries → Delivers n text deliveries
  delivers_too text mode delivers = record { waits = sym mode ∙ delivers.waits; says = delivers.says }

  pub accepted_too : (text : ToldLine) → Alike LookAlike m n → IsAccepted m text deliveries → IsAccepted n text deliveries
  accepted_too text alike is =
      let delivers = delivers_too text.text alike.mode is.delivers in
      record {
        delivers = delivers;
        accepted = ap (λ (t : Turn). t.refused) (deliver_turn n text.text deliveries text.outcome delivers) ∙ refused_too (outcome_at text.outcome text.text) alike.region.marks
            ∙ sym (ap (λ (t : Turn). t.refused) (deliver_turn m text.text deliveries text.outcome is.delivers)) ∙ is.accepted;
      }

  pub accepted_at_end_too : (end : Option InputEnd) → Alike LookAlike m n → IsAcceptedAtEnd m end deliveries → IsAcceptedAtEnd n end deliveries
  accepted_at_end_too None alike is = absurd is
  accepted_at_end_too (Some end) alike is =
      let delivers = delivers_too end.part alike.mode is.delivers in
      record {
        there = is.there;
        delivers = delivers;
        accepted = ap (λ (t : Turn). t.refused) (deliver_end n end.part deliveries end.outcome is.there delivers) ∙ refused_too (outcome_at end.outcome end.part) alike.region.marks
            ∙ sym (ap (λ (t : Turn). t.refused) (deliver_end m end.part deliveries end.outcome is.there is.delivers)) ∙ is.accepted;
      }

  pub caught_line : (text : ToldLine) → Alike (RunsAhead deliveries) m n → IsAccepted m text deliveries → Same (after_line m text) (after_line n text)
  caught_line text alike is =
      let first = deliver_turn m text.text deliveries text.outcome is.delivers in
      let second = deliver_turn n text.text deliveries text.outcome (delivers_too text.text alike.mode is.delivers) in
      subst (λ (t : Turn). Same t.machine (after_line n text)) (sym first)
      (subst (λ (t : Turn). Same (turn_of m (outcome_at text.outcome text.text) (Ok (deliver deliveries))).machine t.machine) (sym second)
      (caught (outcome_at text.outcome text.text) alike (sym (ap (λ (t : Turn). t.refused) first) ∙ is.accepted)))

  pub caught_end : (end : Option InputEnd) → Alike (RunsAhead deliveries) m n → IsAcceptedAtEnd m end deliveries → Same (machine_at_end m end) (machine_at_end n end)
  caught_end None alike is = absurd is
  caught_end (Some end) alike is =
      let first = deliver_end m end.part deliveries end.outcome is.there is.delivers in
      let second = deliver_end n end.part deliveries end.outcome is.there (delivers_too end.part alike.mode is.delivers) in
      subst (λ (t : Turn). Same t.machine (machine_at_end n (Some end))) (sym first)
      (subst (λ (t : Turn). Same (turn_of m (outcome_at end.outcome end.part) (Ok (deliver deliveries))).machine t.machine) (sym second)
      (caught (outcome_at end.outcome end.part) alike (sym (ap (λ (t : Turn). t.refused) first) ∙ is.accepted)))
