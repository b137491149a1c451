-- Inputs without refused rounds that are repeated leave the same regions.
use Rattle.std.proofs.Common.{◌≡◌, ◌⊎◌, inl, inr, Bool, true, false, List, [], ◌∷◌, refl, sym, ap, ◌∙◌, subst}
use Rattle.std.specs.Prelude.{ℕ, Result, Ok, Err, Option}
use Rattle.pn_join.specs.Marks.{Positions}
use Rattle.pn_join.proofs.MarksFacts.{raised_marks-repeats}
use Rattle.pn_stream.specs.Brokers.{DeliveryValue}
use Rattle.pn_tablet.specs.Layouts.{Bounds}
use Rattle.pn_region.specs.Events.{RegionEvent, AllLeadTo, IsRound, AreRounds}
use Rattle.pn_region.specs.Rounds.{new_marks, joins}
use Rattle.pn_region.specs.Regions.{RegionValue, IsRegion, new_region, AllRise}
use Rattle.pn_region.specs.declared.fault.RoundFault.{RoundFault}
use Rattle.pn_region.proofs.EventSteps.{event_is, events_are}
use Rattle.pn_region.proofs.Events.{new_region_rises, event_rises}
use Rattle.pn_region.proofs.RoundEnds.{fit}
use Rattle.pn_protocol.specs.Command.Meaning.{deliver}
use Rattle.pn_serve.specs.Machine.Outcomes.{Outcome, done, line, call, round, Machine, Turn, new_machine}
use Rattle.pn_serve.specs.Machine.Turns.{after_part_with_marks, turn_of, outcome_at, turn}
use Rattle.pn_serve.specs.Script.Events.{events_in, events_of_input}
use Rattle.pn_serve.specs.Script.Written.{InputEnd, Input, machine_at_end, after_input, ToldLine, told_lines, after_line, first_outcome, later_outcomes, machine_after}
use Rattle.pn_serve.specs.Script.Laws.{IsRefused, IsRepeated, AreWithout, IsToldWithout, Told, machine_of}
use Rattle.pn_serve.proofs.Happened.{OneLeads, line_leads}
use Rattle.pn_serve.proofs.LineSteps.{Alike, line_steps}
use Rattle.pn_serve.proofs.PartRounds.{some_or_none}
use Rattle.pn_serve.proofs.RepeatedRounds.{LookAlike, alike_themselves, alike_then, partly_look, look_carries, RunsAhead, ahead_carries}
use Rattle.pn_serve.proofs.RepeatLaws.{Same, same_then, after_lines, finished, finished_same, deliver_turn, round_of, accepted_too, accepted_at_end_too, caught_line, caught_end}
use Rattle.pn_serve.proofs.ScriptLaws.{lead_after, new_one}

-- ---- a refused round

module _ (m : Machine) (deliveries : List DeliveryValue) where
  abbrev refused_turn : Outcome → Turn
  refused_turn outcome = turn_of m outcome (Ok (deliver deliveries))

  -- without a mark or a tablet that changed, or ahead in some tablets
  abbrev IsAhead : RegionValue → Type 0
  IsAhead region = (region ≡ m.region) ⊎ RunsAhead deliveries region m.region

  half_ahead : (flags : List Bool) (right : Result Positions RoundFault) → new_marks m.region.marks deliveries ≡ right → IsRegion m.region → AllRise m.region → IsAhead (after_part_with_marks m.region deliveries flags right)
  half_ahead flags (Err fault) is stands rise = inl refl
  half_ahead flags (Ok first) is stands rise = inr (record {
    base = m.region.marks;
    first = first;
    accepted = is;
    rise_base = rise.marks;
    below = raised_marks-repeats m.region.marks rise.marks;
    layout = refl;
    marks = refl;
    tablets = some_or_none flags m.region.tablets (joins m.region deliveries first) (fit m.region deliveries stands first);
    rise = rise;
  })

  abbrev Leaves : Turn → Type 0
  Leaves turned = Same turned.machine m ⊎ Alike (RunsAhead deliveries) turned.machine m

  done_by : (right : Result Positions RoundFault) → (round_of m deliveries right).refused ≡ true → Same (round_of m deliveries right).machine m
  done_by (Ok next) refused = cc
  done_by (Err fault) refused = record { region = refl; mode = refl }

  half_leaves : (region : RegionValue) (turned : Turn) → turned.machine.region ≡ region → turned.machine.mode ≡ m.mode → IsAhead region → Leaves turned
  half_leaves region turned is mode (inl same) = inl (record { region = is ∙ same; mode = mode })
  half_leaves region turned is mode (inr ahead) = inr (record { region = subst (λ (r : RegionValue). RunsAhead deliveries r m.region) (sym is) ahead; mode = mode })

  refused_leaves : (outcome : Outcome) → IsRegion m.region → AllRise m.region → (refused_turn outcome).refused ≡ true → Leaves (refused_turn outcome)
  refused_leaves done stands rise refused = inl (done_by (new_marks m.region.marks deliveries) refused)
  refused_leaves line stands rise refused = inl (record { region = refl; mode = refl })
  refused_leaves call stands rise refused = inl (record { region = refl; mode = refl })
  refused_leaves (round flags) stands rise refused = half_leaves _ (refused_turn (round flags)) refl refl (half_ahead flags (new_marks m.region.marks deliveries) refl stands rise)

  done_looks : (right : Result Positions RoundFault) → (round_of m deliveries right).refused ≡ true → Alike LookAlike (round_of m deliveries right).machine m
  done_looks (Ok next) refused = cc
  done_looks (Err fault) refused = record { region = alike_themselves m.region; mode = refl }

  refused_looks : (outcome : Outcome) → (refused_turn outcome).refused ≡ true → Alike LookAlike (refused_turn outcome).machine m
  refused_looks done refused = done_looks (new_marks m.region.marks deliveries) refused
  refused_looks line refused = record { region = alike_themselves m.region; mode = refl }
  refused_looks call refused = record { region = alike_themselves m.region; mode = refl }
  refused_looks (round flags) refused = record { region = partly_look m.region deliveries flags (new_marks m.region.marks deliveries); mode = refl }

  module _ (text : ToldLine) (is : IsRefused m text deliveries) where
    same_turn : turn m text.outcome text.text ≡ refused_turn (outcome_at text.outcome text.text)
    same_turn = deliver_turn m text.text deliveries text.outcome is.delivers

    refused_so : (refused_turn (outcome_at text.outcome text.text)).refused ≡ true
    refused_so = sym (ap (λ (t : Turn). t.refused) same_turn) ∙ is.refused

    line_leaves : IsRegion m.region → AllRise m.region → Leaves (turn m text.outcome text.text)
    line_leaves stands rise = subst Leaves (sym same_turn) (refused_leaves (outcome_at text.outcome text.text) stands rise refused_so)

    line_looks : Alike LookAlike (after_line m text) m
    line_looks = subst (λ (t : Turn). Alike LookAlike t.machine m) (sym same_turn) (refused_looks (outcome_at text.outcome text.text) refused_so)

look_then : (k m n : Machine) → Alike LookAlike k m → Alike LookAlike m n → Alike LookAlike k n
look_then k m n first second = record { region = alike_then k.region m.region n.region first.region second.region; mode = first.mode ∙ second.mode }

-- ---- a region whose marks and covers rise

pub record Stands (region : RegionValue) : Type 0 where
  pub is : IsRegion region
  pub rise : AllRise region

one_stands : (events : List RegionEvent) (old new : RegionValue) → OneLeads events old new → Stands old → Stands new
one_stands [] old new lead stands = subst Stands (sym lead) stands
one_stands (event ∷ []) old new lead stands = record { is = event_is event old new stands.is lead; rise = event_rises event old new stands.rise lead }
one_stands (event ∷ next ∷ later) old new lead stands = absurd lead

line_stands : (m : Machine) (text : ToldLine) → Stands m.region → Stands (after_line m text).region
line_stands m text stands = one_stands (events_in m.mode m text.outcome text.text) m.region (after_line m text).region (line_leads m text.outcome text.text stands.is) stands

-- ---- inputs

module _ (deliveries : List DeliveryValue) (end : Option InputEnd) where
  -- a machine that ran ahead is caught up with by the repeat
  runs : (lines : List ToldLine) (m n : Machine) → Alike (RunsAhead deliveries) m n → IsRepeated m lines end deliveries → Same (finished m lines end) (finished n lines end)
  runs [] m n ahead repeated = caught_end m n deliveries end ahead repeated
  runs (text ∷ lines) m n ahead (inl accepted) = finished_same (after_line m text) (after_line n text) lines end (caught_line m n deliveries text ahead accepted)
  runs (text ∷ lines) m n ahead (inr (rounds, later)) =
      runs lines (after_line m text) (after_line n text) (line_steps (RunsAhead deliveries) IsRound (ahead_carries deliveries) m n ahead text.outcome text.text rounds).machines later

  -- lines without other refused rounds still repeat it
  kept : (lines others : List ToldLine) (m n : Machine) → Alike LookAlike m n → IsRepeated m lines end deliveries → AreWithout m lines end others → IsRepeated n others end deliveries
  kept [] others m n alike repeated without = subst (λ (rest : List ToldLine). IsRepeated n rest end deliveries) (sym without) (accepted_at_end_too m n deliveries end alike repeated)
  kept (text ∷ lines) others m n alike (inl accepted) (inl (made, without)) = let clash : true ≡ false = sym made.refused.refused ∙ accepted.accepted in cc
  kept (text ∷ lines) others m n alike (inl accepted) (inr (rest, is, without)) = subst (λ (all : List ToldLine). IsRepeated n all end deliveries) (sym is) (inl (accepted_too m n deliveries text alike accepted))
  kept (text ∷ lines) others m n alike (inr (rounds, later)) (inl (made, without)) =
      kept lines others (after_line m text) n (look_then (after_line m text) m n (line_looks m made.deliveries text made.refused) alike) later without
  kept (text ∷ lines) others m n alike (inr (rounds, later)) (inr (rest, is, without)) =
      let step = line_steps LookAlike IsRound look_carries m n alike text.outcome text.text rounds in
      subst (λ (all : List ToldLine). IsRepeated n all end deliveries) (sym is)
      (inr (subst AreRounds (sym step.same) rounds, kept lines rest (after_line m text) (after_line n text) step.machines later without))

  -- a refused round that is repeated
  made_up_for : (lines : List ToldLine) (m : Machine) (text : ToldLine) → Stands m.region → IsRefused m text deliveries → IsRepeated (after_line m text) lines end deliveries → Same (finished (after_line m text) lines end) (finished m lines end)
  made_up_for lines m text stands refused repeated = elim (line_leaves m deliveries text refused stands.is stands.rise) [
    | inl same ↦ finished_same (after_line m text) m lines end same
    | inr ahead ↦ runs lines (after_line m text) m ahead repeated
  ]

look_itself : (m : Machine) → Alike LookAlike m m
look_itself m = record { region = alike_themselves m.region; mode = refl }

all_made_up : (end : Option InputEnd) (lines others : List ToldLine) (m : Machine) → Stands m.region → AreWithout m lines end others → Same (finished m lines end) (finished m others end)
all_made_up end [] others m stands without = subst (λ (rest : List ToldLine). Same (finished m [] end) (finished m rest end)) (sym without) (record { region = refl; mode = refl })
all_made_up end (text ∷ lines) others m stands (inl (made, without)) =
    let after = after_line m text in
    same_then (finished after lines end) (finished after others end) (finished m others end)
    (all_made_up end lines others after (line_stands m text stands) without)
    (made_up_for made.deliveries end others m text stands made.refused (kept made.deliveries end lines others after after (look_itself after) made.repeated without))
all_made_up end (text ∷ lines) others m stands (inr (rest, is, without)) =
    subst (λ (all : List ToldLine). Same (finished m (text ∷ lines) end) (finished m all end)) (sym is) (all_made_up end lines rest (after_line m text) (line_stands m text stands) without)

after_told : (m : Machine) (lines : List (List ℕ)) (outcomes : List Outcome) → after_lines m (told_lines lines outcomes) ≡ machine_after m lines outcomes
after_told m [] outcomes = refl
after_told m (text ∷ lines) outcomes = after_told (turn m (first_outcome outcomes) text).machine lines (later_outcomes outcomes)

finished_input : (m : Machine) (input : Input) → finished m (told_lines input.lines input.outcomes) input.end ≡ after_input m input
finished_input m input = ap (λ (k : Machine). machine_at_end k input.end) (after_told m input.lines input.outcomes)

-- ---- the laws

pub told_without : (one other : Told) → IsToldWithout one other → Same (machine_of one) (machine_of other)
told_without one other without =
    let m = new_machine (new_region one.layout) in
    let stands : Stands (new_region one.layout) = record { is = new_one one.layout one.lawful; rise = new_region_rises one.layout } in
    let lines = told_lines one.input.lines one.input.outcomes in
    let fewer = told_lines other.input.lines other.input.outcomes in
    subst (λ (bounds : Bounds). Same (machine_of one) (after_input (new_machine (new_region bounds)) other.input)) without.layout
    (subst (λ (k : Machine). Same k (after_input m other.input)) (finished_input m one.input)
    (subst (λ (k : Machine). Same (finished m lines one.input.end) k) (finished_input m other.input)
    (subst (λ (end : Option InputEnd). Same (finished m lines one.input.end) (finished m fewer end)) (sym without.end)
    (all_made_up one.input.end lines fewer m stands without.lines))))

events_rise : (events : List RegionEvent) (old new : RegionValue) → AllRise old → AllLeadTo events old new → AllRise new
events_rise [] old new rise lead = subst AllRise (sym lead) rise
events_rise (event ∷ events) old new rise lead = events_rise events lead.0 new (event_rises event old lead.0 rise lead.1) lead.2

told_stands : (told : Told) → Stands (machine_of told).region
told_stands told =
    let lead = lead_after (λ name. []) told.layout told.lawful told.input in
    record {
      is = events_are (events_of_input (new_region told.layout) told.input) (new_region told.layout) (machine_of told).region (new_one told.layout told.lawful) lead;
      rise = events_rise (events_of_input (new_region told.layout) told.input) (new_region told.layout) (machine_of told).region (new_region_rises told.layout) lead;
    }

pub line_without : (told : Told) (text : ToldLine) (deliveries : List DeliveryValue) (more : Input) → IsRefused (machine_of told) text deliveries
    → IsRepeated (after_line (machine_of told) text) (told_lines more.lines more.outcomes) more.end deliveries
    → Same (after_input (after_line (machine_of told) text) more) (after_input (machine_of told) more)
line_without told text deliveries more refused repeated =
    let m = machine_of told in
    subst (λ (k : Machine). Same k (after_input m more)) (finished_input (after_line m text) more)
    (subst (λ (k : Machine). Same (finished (after_line m text) (told_lines more.lines more.outcomes) more.end) k) (finished_input m more)
    (made_up_for deliveries more.end (told_lines more.lines more.outcomes) m text (told_stands told) refused repeated))
