-- Inputs without losses and adoptions.
use Rattle.std.proofs.Common.{◌≡◌, ℕ, ◌+◌, Bool, true, false, List, [], ◌∷◌, ◌++◌, length, refl, sym, subst}
use Rattle.std.specs.Prelude.{Result, Ok, Err, Option, Some, None, slice_get}
use Rattle.std.proofs.lemmas.List.Elements.{All-head, All-tail, All-nil, All-cons}
use Rattle.pn_line.specs.Text.{last_line}
use Rattle.pn_join.specs.Marks.{Positions}
use Rattle.pn_stream.specs.Brokers.{BrokerRecord, DeliveryValue}
use Rattle.pn_tablet.specs.Copies.{TabletCopyValue, copy_of}
use Rattle.pn_tablet.specs.Layouts.{Bounds, layout_of}
use Rattle.pn_tablet.specs.Tablets.{TabletStateValue}
use Rattle.pn_tablet.specs.declared.fault.CopyFault.{CopyFault}
use Rattle.pn_tablet.specs.declared.layout.LayoutFault.{LayoutFault}
use Rattle.pn_region.specs.Events as events
use Rattle.pn_region.specs.Events.{RegionEvent, taken_by, all_taken, LosesNothing, LoseNothing}
use Rattle.pn_region.specs.Rounds.{new_marks, round as taken_round}
use Rattle.pn_region.specs.Regions.{RegionValue, new_region}
use Rattle.pn_region.specs.Recovery.{after_relayout}
use Rattle.pn_region.specs.declared.fault.RelayoutFault.{RelayoutFault}
use Rattle.pn_region.specs.declared.fault.RoundFault.{RoundFault}
use Rattle.pn_protocol.specs.declared.refusal.Refusal.{Refusal}
use Rattle.pn_protocol.specs.Command.Meaning.{CommandValue, adopt, copy, deliver, get, lose, marks, notices, read, relayout, scan, tablets}
use Rattle.pn_protocol.specs.Command.Lines.{command_at}
use Rattle.pn_serve.specs.Machine.Doing.{delivery_turn, at_tablet, copy_reply_turn, copy_turn, relaid_turn, relayout_turn}
use Rattle.pn_serve.specs.Machine.Outcomes.{Outcome, done, line, call, round, Mode, awaits_command, Machine, Turn, new_machine}
use Rattle.pn_serve.specs.Machine.Turns.{last_of, end_in, end_turn, turn_of, outcome_at, turn_in, turn}
use Rattle.pn_serve.specs.Script.Events.{unless_refused, some_tablet, half_round_events, events_by, events_in, events_from, events_of_input, events_of_last, events_of_end, events_at_end, images_taken, NothingLost, Waits}
use Rattle.pn_serve.specs.Script.Written.{InputEnd, Input, line_at_end, all_lines, machine_at_end, KeepsTablets, NoLosses, first_outcome, later_outcomes, machine_after}

-- ---- of what loses nothing the record of brokers says nothing

taken_alike : (broker other : BrokerRecord) (event : RegionEvent) → LosesNothing event → taken_by broker event ≡ taken_by other event
taken_alike broker other (events.round deliveries) one = refl
taken_alike broker other (events.half_round deliveries) one = refl
taken_alike broker other (events.loss tablet) one = absurd one
taken_alike broker other (events.adoption given) one = absurd one
taken_alike broker other (events.relayout bounds) one = refl
taken_alike broker other events.advance one = refl

all_alike : (broker other : BrokerRecord) (happens : List RegionEvent) → LoseNothing happens → all_taken broker happens ≡ all_taken other happens
all_alike broker other [] none = refl
all_alike broker other (event ∷ happens) none = λ i. taken_alike broker other event none.0 i ++ all_alike broker other happens none.1 i

pub any_record : (bounds : Bounds) (broker other : BrokerRecord) (input : Input) → NothingLost (new_region bounds) input
    → images_taken broker (new_region bounds) input ≡ images_taken other (new_region bounds) input
any_record bounds broker other input none = all_alike broker other (events_of_input (new_region bounds) input) none

-- ---- lines that say no loss and no adoption

-- nothing was lost, and a command is waited for
pub record Plain (happens : List RegionEvent) (turn : Turn) : Type 0 where
  pub none : LoseNothing happens
  pub waits : turn.machine.mode ≡ awaits_command

shown_waits : (m : Machine) (tablet : ℕ) (right : Result TabletCopyValue CopyFault) → m.mode ≡ awaits_command → (copy_reply_turn m tablet right).machine.mode ≡ awaits_command
shown_waits m tablet (Ok given) waits = waits
shown_waits m tablet (Err fault) waits = waits

copy_waits : (m : Machine) (need : Positions) (tablet : ℕ) → m.mode ≡ awaits_command → (copy_turn m need tablet).machine.mode ≡ awaits_command
copy_waits m need tablet waits = at (slice_get m.region.tablets tablet)
  where
    at : (found : Option TabletStateValue) → (at_tablet m found (λ state. copy_reply_turn m tablet (copy_of state need))).machine.mode ≡ awaits_command
    at None = waits
    at (Some state) = shown_waits m tablet (copy_of state need) waits

quiet : (turn : Turn) → turn.machine.mode ≡ awaits_command → Plain [] turn
quiet turn waits = record { none = tt; waits = waits }

round_plain : (m : Machine) (deliveries : List DeliveryValue) (right : Result RegionValue RoundFault) → m.mode ≡ awaits_command → Plain (unless_refused (delivery_turn m right) (events.round deliveries)) (delivery_turn m right)
round_plain m deliveries (Ok after) waits = record { none = (tt, tt); waits = waits }
round_plain m deliveries (Err fault) waits = record { none = tt; waits = waits }

relaid_plain : (m : Machine) (asked : Bounds) (count : ℕ) (right : Result RegionValue RelayoutFault) → m.mode ≡ awaits_command → Plain (unless_refused (relaid_turn m count right) (events.relayout asked)) (relaid_turn m count right)
relaid_plain m asked count (Ok after) waits = record { none = (tt, tt); waits = waits }
relaid_plain m asked count (Err fault) waits = record { none = tt; waits = waits }

layout_plain : (m : Machine) (asked : Bounds) (right : Result Bounds LayoutFault) → m.mode ≡ awaits_command → Plain (unless_refused (relayout_turn m right) (events.relayout asked)) (relayout_turn m right)
layout_plain m asked (Ok bounds) waits = relaid_plain m asked (length bounds + 1) (after_relayout m.region bounds) waits
layout_plain m asked (Err fault) waits = record { none = tt; waits = waits }

half_loses : (deliveries : List DeliveryValue) (some : Bool) (right : Result Positions RoundFault) → LoseNothing (half_round_events deliveries some right)
half_loses deliveries true (Ok next) = (tt, tt)
half_loses deliveries true (Err fault) = tt
half_loses deliveries false (Ok next) = tt
half_loses deliveries false (Err fault) = tt

-- what no line says
abbrev Keeping : List ℕ → Type 0
Keeping text = KeepsTablets (command_at text)

module _ (m : Machine) (waits : m.mode ≡ awaits_command) where
  done_plain : (said : Result CommandValue Refusal) → KeepsTablets said → Plain (events_by m done said) (turn_of m done said)
  done_plain (Ok (adopt lines)) stay = absurd stay
  done_plain (Ok (copy need tablet)) stay = quiet _ (copy_waits m need tablet waits)
  done_plain (Ok (deliver deliveries)) stay = round_plain m deliveries (taken_round m.region deliveries) waits
  done_plain (Ok (get keys)) stay = quiet _ waits
  done_plain (Ok (lose tablet)) stay = absurd stay
  done_plain (Ok marks) stay = quiet _ waits
  done_plain (Ok (notices since)) stay = quiet _ waits
  done_plain (Ok (read key version)) stay = quiet _ waits
  done_plain (Ok (relayout bounds)) stay = layout_plain m bounds (layout_of bounds) waits
  done_plain (Ok (scan query)) stay = quiet _ waits
  done_plain (Ok tablets) stay = quiet _ waits
  done_plain (Err refusal) stay = quiet _ waits

  call_plain : (said : Result CommandValue Refusal) → KeepsTablets said → Plain (events_by m call said) (turn_of m call said)
  call_plain (Ok (adopt lines)) stay = absurd stay
  call_plain (Ok (copy need tablet)) stay = quiet _ waits
  call_plain (Ok (deliver deliveries)) stay = quiet _ waits
  call_plain (Ok (get keys)) stay = quiet _ waits
  call_plain (Ok (lose tablet)) stay = absurd stay
  call_plain (Ok marks) stay = quiet _ waits
  call_plain (Ok (notices since)) stay = quiet _ waits
  call_plain (Ok (read key version)) stay = quiet _ waits
  call_plain (Ok (relayout bounds)) stay = quiet _ waits
  call_plain (Ok (scan query)) stay = quiet _ waits
  call_plain (Ok tablets) stay = quiet _ waits
  call_plain (Err refusal) stay = quiet _ waits

  partly_plain : (flags : List Bool) (said : Result CommandValue Refusal) → KeepsTablets said → Plain (events_by m (round flags) said) (turn_of m (round flags) said)
  partly_plain flags (Ok (adopt lines)) stay = absurd stay
  partly_plain flags (Ok (copy need tablet)) stay = quiet _ (copy_waits m need tablet waits)
  partly_plain flags (Ok (deliver deliveries)) stay = record { none = half_loses deliveries (some_tablet flags m.region.tablets) (new_marks m.region.marks deliveries); waits = waits }
  partly_plain flags (Ok (get keys)) stay = quiet _ waits
  partly_plain flags (Ok (lose tablet)) stay = absurd stay
  partly_plain flags (Ok marks) stay = quiet _ waits
  partly_plain flags (Ok (notices since)) stay = quiet _ waits
  partly_plain flags (Ok (read key version)) stay = quiet _ waits
  partly_plain flags (Ok (relayout bounds)) stay = layout_plain m bounds (layout_of bounds) waits
  partly_plain flags (Ok (scan query)) stay = quiet _ waits
  partly_plain flags (Ok tablets) stay = quiet _ waits
  partly_plain flags (Err refusal) stay = quiet _ waits

  said_plain : (outcome : Outcome) (said : Result CommandValue Refusal) → KeepsTablets said → Plain (events_by m outcome said) (turn_of m outcome said)
  said_plain done said stay = done_plain said stay
  said_plain line said stay = quiet _ waits
  said_plain call said stay = call_plain said stay
  said_plain (round flags) said stay = partly_plain flags said stay

  line_plain : (outcome : Outcome) (text : List ℕ) → KeepsTablets (command_at text) → Plain (events_in m.mode m outcome text) (turn m outcome text)
  line_plain outcome text stay =
      subst (λ (mode : Mode). Plain (events_in mode m outcome text) (turn_in mode m outcome text)) (sym waits) (said_plain (outcome_at outcome text) (command_at text) stay)

  -- without its newline it does the same
  last_plain : (outcome : Outcome) (said : Result CommandValue Refusal) → KeepsTablets said → Plain (events_of_last m outcome said) (last_of m outcome said)
  last_plain line said stay = quiet _ waits
  last_plain done (Ok (adopt lines)) stay = absurd stay
  last_plain call (Ok (adopt lines)) stay = absurd stay
  last_plain (round flags) (Ok (adopt lines)) stay = absurd stay
  last_plain done (Ok (copy need tablet)) stay = done_plain (Ok (copy need tablet)) stay
  last_plain call (Ok (copy need tablet)) stay = call_plain (Ok (copy need tablet)) stay
  last_plain (round flags) (Ok (copy need tablet)) stay = partly_plain flags (Ok (copy need tablet)) stay
  last_plain done (Ok (deliver deliveries)) stay = done_plain (Ok (deliver deliveries)) stay
  last_plain call (Ok (deliver deliveries)) stay = call_plain (Ok (deliver deliveries)) stay
  last_plain (round flags) (Ok (deliver deliveries)) stay = partly_plain flags (Ok (deliver deliveries)) stay
  last_plain done (Ok (get keys)) stay = done_plain (Ok (get keys)) stay
  last_plain call (Ok (get keys)) stay = call_plain (Ok (get keys)) stay
  last_plain (round flags) (Ok (get keys)) stay = partly_plain flags (Ok (get keys)) stay
  last_plain done (Ok (lose tablet)) stay = done_plain (Ok (lose tablet)) stay
  last_plain call (Ok (lose tablet)) stay = call_plain (Ok (lose tablet)) stay
  last_plain (round flags) (Ok (lose tablet)) stay = partly_plain flags (Ok (lose tablet)) stay
  last_plain done (Ok marks) stay = done_plain (Ok marks) stay
  last_plain call (Ok marks) stay = call_plain (Ok marks) stay
  last_plain (round flags) (Ok marks) stay = partly_plain flags (Ok marks) stay
  last_plain done (Ok (notices since)) stay = done_plain (Ok (notices since)) stay
  last_plain call (Ok (notices since)) stay = call_plain (Ok (notices since)) stay
  last_plain (round flags) (Ok (notices since)) stay = partly_plain flags (Ok (notices since)) stay
  last_plain done (Ok (read key version)) stay = done_plain (Ok (read key version)) stay
  last_plain call (Ok (read key version)) stay = call_plain (Ok (read key version)) stay
  last_plain (round flags) (Ok (read key version)) stay = partly_plain flags (Ok (read key version)) stay
  last_plain done (Ok (relayout bounds)) stay = done_plain (Ok (relayout bounds)) stay
  last_plain call (Ok (relayout bounds)) stay = call_plain (Ok (relayout bounds)) stay
  last_plain (round flags) (Ok (relayout bounds)) stay = partly_plain flags (Ok (relayout bounds)) stay
  last_plain done (Ok (scan query)) stay = done_plain (Ok (scan query)) stay
  last_plain call (Ok (scan query)) stay = call_plain (Ok (scan query)) stay
  last_plain (round flags) (Ok (scan query)) stay = partly_plain flags (Ok (scan query)) stay
  last_plain done (Ok tablets) stay = done_plain (Ok tablets) stay
  last_plain call (Ok tablets) stay = call_plain (Ok tablets) stay
  last_plain (round flags) (Ok tablets) stay = partly_plain flags (Ok tablets) stay
  last_plain done (Err refusal) stay = quiet _ waits
  last_plain call (Err refusal) stay = quiet _ waits
  last_plain (round flags) (Err refusal) stay = quiet _ waits

  after_plain : (outcome : Outcome) (part : List ℕ) → NoLosses (last_line part) → Plain (events_of_end awaits_command m outcome part) (end_in awaits_command m outcome part)
  after_plain outcome [] stay = quiet _ waits
  after_plain outcome (b ∷ part) stay = last_plain (outcome_at outcome (b ∷ part)) (command_at (b ∷ part)) (All-head Keeping (b ∷ part) [] stay)

  end_plain : (outcome : Outcome) (part : List ℕ) → NoLosses (last_line part) → Plain (events_of_end m.mode m outcome part) (end_turn m outcome part)
  end_plain outcome part stay =
      subst (λ (mode : Mode). Plain (events_of_end mode m outcome part) (end_in mode m outcome part)) (sym waits) (after_plain outcome part stay)

  ended_plain : (end : Option InputEnd) → NoLosses (line_at_end end) → LoseNothing (events_at_end m end) × ((machine_at_end m end).mode ≡ awaits_command)
  ended_plain None stay = (tt, waits)
  ended_plain (Some end) stay = let plain = end_plain end.outcome end.part stay in (plain.none, plain.waits)

none_too : (first later : List RegionEvent) → LoseNothing first → LoseNothing later → LoseNothing (first ++ later)
none_too [] later none more = more
none_too (event ∷ first) later none more = (none.0, none_too first later none.1 more)

lines_plain : (m : Machine) (lines : List (List ℕ)) (outcomes : List Outcome) → m.mode ≡ awaits_command → NoLosses lines → LoseNothing (events_from m lines outcomes) × ((machine_after m lines outcomes).mode ≡ awaits_command)
lines_plain m [] outcomes waits stay = (tt, waits)
lines_plain m (text ∷ lines) outcomes waits stay =
    let outcome = first_outcome outcomes in
    let first = line_plain m waits outcome text (All-head Keeping text lines stay) in
    let later = lines_plain (turn m outcome text).machine lines (later_outcomes outcomes) first.waits (All-tail Keeping text lines stay) in
    (none_too (events_in m.mode m outcome text) (events_from (turn m outcome text).machine lines (later_outcomes outcomes)) first.none later.0, later.1)

-- what all lines of two lists keep, those of each keep
both_keep : (lines more : List (List ℕ)) → NoLosses (lines ++ more) → NoLosses lines × NoLosses more
both_keep [] more stay = (All-nil Keeping, stay)
both_keep (text ∷ lines) more stay =
    let rest = both_keep lines more (All-tail Keeping text (lines ++ more) stay) in
    (All-cons Keeping text lines (All-head Keeping text (lines ++ more) stay) rest.0, rest.1)

pub nothing_lost : (bounds : Bounds) (input : Input) → NoLosses (all_lines input) → NothingLost (new_region bounds) input × Waits (new_region bounds) input
nothing_lost bounds input stay =
    let first = new_machine (new_region bounds) in
    let keep = both_keep input.lines (line_at_end input.end) stay in
    let lines = lines_plain first input.lines input.outcomes refl keep.0 in
    let last = ended_plain (machine_after first input.lines input.outcomes) lines.1 input.end keep.1 in
    (none_too (events_from first input.lines input.outcomes) (events_at_end (machine_after first input.lines input.outcomes) input.end) lines.0 last.0, last.1)
