-- What happens by lines, and by the end, leads from the region before them to the region after them.
use Rattle.std.proofs.Common.{◌≡◌, ℕ, ◌+◌, ◌-◌, nat_le, Bool, true, false, if◌then◌else◌, List, [], ◌∷◌, ◌++◌, length, refl, sym, ap, subst}
use Rattle.std.specs.Prelude.{Result, Ok, Err, Option, Some, None, slice_get}
use Rattle.pn_join.specs.Marks.{Positions}
use Rattle.pn_stream.specs.Brokers.{DeliveryValue}
use Rattle.pn_tablet.specs.Copies.{TabletCopyValue, IsCopy, copy_of}
use Rattle.pn_tablet.specs.CopyReading.{copy_at}
use Rattle.pn_tablet.specs.Layouts.{Bounds, IsLayout, layout_of}
use Rattle.pn_tablet.specs.Tablets.{TabletStateValue}
use Rattle.pn_tablet.specs.declared.fault.CopyTextFault.{CopyTextFault}
use Rattle.pn_tablet.specs.declared.fault.CopyFault.{CopyFault}
use Rattle.pn_tablet.specs.declared.layout.LayoutFault.{LayoutFault}
use Rattle.pn_region.specs.Events as events
use Rattle.pn_region.specs.Events.{RegionEvent, LeadsTo, AllLeadTo}
use Rattle.pn_region.specs.Log.{LoggedRegion, with_break}
use Rattle.pn_region.specs.Rounds.{new_marks, IsHalfTaken, round as taken_round}
use Rattle.pn_region.specs.Recovery.{after_loss, after_adoption, after_relayout}
use Rattle.pn_region.specs.Regions.{RegionValue, IsRegion}
use Rattle.pn_tablet.specs.declared.fault.OpFault.{OpFault as AdoptFault}
use Rattle.pn_region.specs.declared.fault.RelayoutFault.{RelayoutFault}
use Rattle.pn_region.specs.declared.fault.RoundFault.{RoundFault}
use Rattle.pn_region.proofs.EventSteps.{events_are}
use Rattle.pn_json.specs.Tokens.{line_of}
use Rattle.pn_protocol.specs.declared.refusal.Refusal.{Refusal}
use Rattle.pn_protocol.specs.Command.Meaning.{CommandValue, adopt, copy, deliver, get, lose, marks, notices, read, relayout, scan, tablets}
use Rattle.pn_protocol.specs.Command.Lines.{command_at}
use Rattle.pn_serve.specs.Machine.Turns.{unless_call, with_line, after_part_with_marks, last_of, end_in, end_turn, turn_of, outcome_at, turn_in, turn}
use Rattle.pn_serve.specs.Machine.Doing.{delivery_turn, at_tablet, copy_reply_turn, copy_turn, loss_turn, adoption_turn, read_adoption_turn, text_adoption_turn, relaid_turn, relayout_turn}
use Rattle.pn_serve.specs.Machine.Outcomes.{Outcome, done, line, call, round, Mode, awaits_command, announced, Machine, Turn, logged_region, silent_turn}
use Rattle.pn_protocol.specs.Reply.Short.{lost_data}
use Rattle.pn_serve.specs.Script.Events.{unless_refused, some_tablet, half_round_events, events_by, events_by_copy, events_by_text, events_in, events_from, events_of_last, events_of_end, events_at_end, events_since}
use Rattle.pn_serve.specs.Script.Written.{InputEnd, Input, machine_at_end, after_input, first_outcome, later_outcomes, machine_after}
use Rattle.pn_serve.proofs.PartRounds.{partly_is, partly_none}
use Rattle.pn_serve.proofs.CopyTexts.{read_is}
use Rattle.pn_serve.proofs.Relaying.{lawful_bounds}

-- no event leads nowhere, and one event to what it leads to
abbrev pub OneLeads : List RegionEvent → RegionValue → RegionValue → Type 0
OneLeads [] old new = new ≡ old
OneLeads (event ∷ []) old new = LeadsTo event old new
OneLeads (event ∷ next ∷ later) old new = ⊥

all_lead : (events : List RegionEvent) (old new : RegionValue) → OneLeads events old new → AllLeadTo events old new
all_lead [] old new one = one
all_lead (event ∷ []) old new one = (new, one, refl)
all_lead (event ∷ next ∷ later) old new one = absurd one

-- a copy changes nothing
shown_stays : (m : Machine) (tablet : ℕ) (right : Result TabletCopyValue CopyFault) → (copy_reply_turn m tablet right).machine ≡ m
shown_stays m tablet (Ok given) = refl
shown_stays m tablet (Err fault) = refl

copy_stays : (m : Machine) (need : Positions) (tablet : ℕ) → (copy_turn m need tablet).machine.region ≡ m.region
copy_stays m need tablet = at (slice_get m.region.tablets tablet)
  where
    at : (found : Option TabletStateValue) → (at_tablet m found (λ state. copy_reply_turn m tablet (copy_of state need))).machine.region ≡ m.region
    at None = refl
    at (Some state) = ap (λ (n : Machine). n.region) (shown_stays m tablet (copy_of state need))

round_leads : (m : Machine) (deliveries : List DeliveryValue) (right : Result RegionValue RoundFault) → taken_round m.region deliveries ≡ right
    → OneLeads (unless_refused (delivery_turn m right) (events.round deliveries)) m.region (delivery_turn m right).machine.region
round_leads m deliveries (Ok after) is = is
round_leads m deliveries (Err fault) is = refl

half_leads : (region : RegionValue) (deliveries : List DeliveryValue) (flags : List Bool) (some : Bool) (right : Result Positions RoundFault) → some_tablet flags region.tablets ≡ some
    → new_marks region.marks deliveries ≡ right → IsRegion region → OneLeads (half_round_events deliveries some right) region (after_part_with_marks region deliveries flags right)
half_leads region deliveries flags false (Ok next) none found is = partly_none region deliveries flags (Ok next) none
half_leads region deliveries flags false (Err fault) none found is = refl
half_leads region deliveries flags true (Err fault) some found is = refl
half_leads region deliveries flags true (Ok next) some found is =
    subst (λ (right : Result Positions RoundFault). IsHalfTaken region deliveries (after_part_with_marks region deliveries flags right)) found (partly_is region deliveries flags is)

abbrev losing_found : Machine → ℕ → Option TabletStateValue → Turn
losing_found m tablet found = at_tablet m found (λ state. record { machine = record m { region = after_loss m.region tablet; log = with_break m.log }; reply = line_of (lost_data tablet); refused = false })

found_leads : (m : Machine) (tablet : ℕ) (found : Option TabletStateValue) → OneLeads (unless_refused (losing_found m tablet found) (events.loss tablet)) m.region (losing_found m tablet found).machine.region
found_leads m tablet None = refl
found_leads m tablet (Some state) = refl

loss_leads : (m : Machine) (tablet : ℕ) → OneLeads (unless_refused (loss_turn m tablet) (events.loss tablet)) m.region (loss_turn m tablet).machine.region
loss_leads m tablet = found_leads m tablet (slice_get m.region.tablets tablet)

relaid_leads : (m : Machine) (bounds : Bounds) (count : ℕ) (right : Result RegionValue RelayoutFault) → IsLayout bounds → after_relayout m.region bounds ≡ right
    → OneLeads (unless_refused (relaid_turn m count right) (events.relayout bounds)) m.region (relaid_turn m count right).machine.region
relaid_leads m bounds count (Ok after) lawful is = record { lawful = lawful; relaid = is }
relaid_leads m bounds count (Err fault) lawful is = refl

relaid_by : (m : Machine) (bounds : Bounds) (right : Result Bounds LayoutFault) → layout_of bounds ≡ right
    → OneLeads (unless_refused (relayout_turn m right) (events.relayout bounds)) m.region (relayout_turn m right).machine.region
relaid_by m bounds (Err fault) is = refl
relaid_by m bounds (Ok layout) is =
    let lawful = lawful_bounds bounds layout is in
    subst (λ (b : Bounds). OneLeads (unless_refused (relayout_turn m (Ok b)) (events.relayout bounds)) m.region (relayout_turn m (Ok b)).machine.region) (sym lawful.0)
    (relaid_leads m bounds (length bounds + 1) (after_relayout m.region bounds) lawful.1 refl)

relay_leads : (m : Machine) (bounds : Bounds) → OneLeads (unless_refused (relayout_turn m (layout_of bounds)) (events.relayout bounds)) m.region (relayout_turn m (layout_of bounds)).machine.region
relay_leads m bounds = relaid_by m bounds (layout_of bounds) refl

done_leads : (m : Machine) (said : Result CommandValue Refusal) → OneLeads (events_by m done said) m.region (turn_of m done said).machine.region
done_leads m (Ok (adopt lines)) = refl
done_leads m (Ok (copy need tablet)) = copy_stays m need tablet
done_leads m (Ok (deliver deliveries)) = round_leads m deliveries (taken_round m.region deliveries) refl
done_leads m (Ok (get keys)) = refl
done_leads m (Ok (lose tablet)) = loss_leads m tablet
done_leads m (Ok marks) = refl
done_leads m (Ok (notices since)) = refl
done_leads m (Ok (read key version)) = refl
done_leads m (Ok (relayout bounds)) = relay_leads m bounds
done_leads m (Ok (scan query)) = refl
done_leads m (Ok tablets) = refl
done_leads m (Err refusal) = refl

call_leads : (m : Machine) (said : Result CommandValue Refusal) → OneLeads (events_by m call said) m.region (turn_of m call said).machine.region
call_leads m (Ok (adopt lines)) = refl
call_leads m (Ok (copy need tablet)) = refl
call_leads m (Ok (deliver deliveries)) = refl
call_leads m (Ok (get keys)) = refl
call_leads m (Ok (lose tablet)) = loss_leads m tablet
call_leads m (Ok marks) = refl
call_leads m (Ok (notices since)) = refl
call_leads m (Ok (read key version)) = refl
call_leads m (Ok (relayout bounds)) = refl
call_leads m (Ok (scan query)) = refl
call_leads m (Ok tablets) = refl
call_leads m (Err refusal) = refl

partly_leads : (m : Machine) (flags : List Bool) (said : Result CommandValue Refusal) → IsRegion m.region → OneLeads (events_by m (round flags) said) m.region (turn_of m (round flags) said).machine.region
partly_leads m flags (Ok (adopt lines)) is = refl
partly_leads m flags (Ok (copy need tablet)) is = copy_stays m need tablet
partly_leads m flags (Ok (deliver deliveries)) is = half_leads m.region deliveries flags (some_tablet flags m.region.tablets) (new_marks m.region.marks deliveries) refl refl is
partly_leads m flags (Ok (get keys)) is = refl
partly_leads m flags (Ok (lose tablet)) is = loss_leads m tablet
partly_leads m flags (Ok marks) is = refl
partly_leads m flags (Ok (notices since)) is = refl
partly_leads m flags (Ok (read key version)) is = refl
partly_leads m flags (Ok (relayout bounds)) is = relay_leads m bounds
partly_leads m flags (Ok (scan query)) is = refl
partly_leads m flags (Ok tablets) is = refl
partly_leads m flags (Err refusal) is = refl

said_leads : (m : Machine) (outcome : Outcome) (said : Result CommandValue Refusal) → IsRegion m.region → OneLeads (events_by m outcome said) m.region (turn_of m outcome said).machine.region
said_leads m done said is = done_leads m said
said_leads m line said is = refl
said_leads m call said is = call_leads m said
said_leads m (round flags) said is = partly_leads m flags said is

adoption_leads : (old : LoggedRegion) (given : TabletCopyValue) (right : Result (ℕ × RegionValue) AdoptFault) → IsCopy given.range given.marks given.cells → after_adoption old.state given ≡ right
    → OneLeads (unless_refused (adoption_turn old right) (events.adoption given)) old.state (adoption_turn old right).machine.region
adoption_leads old given (Ok (tablet, after)) lawful is = record { tablet = tablet; lawful = lawful; adopted = is }
adoption_leads old given (Err fault) lawful is = refl

copy_leads : (old : LoggedRegion) (right : Result TabletCopyValue CopyTextFault) → ((given : TabletCopyValue) → right ≡ Ok given → IsCopy given.range given.marks given.cells)
    → OneLeads (events_by_copy old right) old.state (read_adoption_turn old right).machine.region
copy_leads old (Ok given) lawful = adoption_leads old given (after_adoption old.state given) (lawful given refl) refl
copy_leads old (Err fault) lawful = refl

text_leads : (old : LoggedRegion) (text : Option (List ℕ)) → OneLeads (events_by_text old text) old.state (text_adoption_turn old text).machine.region
text_leads old None = refl
text_leads old (Some text) = copy_leads old (copy_at text) (read_is text)

came_leads : (m : Machine) (left : ℕ) (text : Option (List ℕ)) (last : Bool)
    → OneLeads (if last then events_by_text (logged_region m) text else []) m.region (if last then text_adoption_turn (logged_region m) text else silent_turn (record m { mode = announced (left - 1) text })).machine.region
came_leads m left text true = text_leads (logged_region m) text
came_leads m left text false = refl

-- what happens by a line leads to the region after it
mode_leads : (mode : Mode) (m : Machine) (outcome : Outcome) (text : List ℕ) → IsRegion m.region → OneLeads (events_in mode m outcome text) m.region (turn_in mode m outcome text).machine.region
mode_leads awaits_command m outcome text is = said_leads m (outcome_at outcome text) (command_at text) is
mode_leads (announced left came) m outcome text is = came_leads m left (unless_call outcome (with_line came text (10 ∷ []))) (nat_le left 1)

pub line_leads : (m : Machine) (outcome : Outcome) (text : List ℕ) → IsRegion m.region → OneLeads (events_in m.mode m outcome text) m.region (turn m outcome text).machine.region
line_leads m outcome text is = mode_leads m.mode m outcome text is

-- what happens by a last line leads to the region after it
last_leads : (m : Machine) (outcome : Outcome) (said : Result CommandValue Refusal) → IsRegion m.region → OneLeads (events_of_last m outcome said) m.region (last_of m outcome said).machine.region
last_leads m line said is = refl
last_leads m done (Ok (adopt lines)) is = text_leads (logged_region m) (unless_call done (Some []))
last_leads m call (Ok (adopt lines)) is = text_leads (logged_region m) (unless_call call (Some []))
last_leads m (round flags) (Ok (adopt lines)) is = text_leads (logged_region m) (unless_call (round flags) (Some []))
last_leads m done (Ok (copy need tablet)) is = done_leads m (Ok (copy need tablet))
last_leads m call (Ok (copy need tablet)) is = call_leads m (Ok (copy need tablet))
last_leads m (round flags) (Ok (copy need tablet)) is = partly_leads m flags (Ok (copy need tablet)) is
last_leads m done (Ok (deliver deliveries)) is = done_leads m (Ok (deliver deliveries))
last_leads m call (Ok (deliver deliveries)) is = call_leads m (Ok (deliver deliveries))
last_leads m (round flags) (Ok (deliver deliveries)) is = partly_leads m flags (Ok (deliver deliveries)) is
last_leads m done (Ok (get keys)) is = done_leads m (Ok (get keys))
last_leads m call (Ok (get keys)) is = call_leads m (Ok (get keys))
last_leads m (round flags) (Ok (get keys)) is = partly_leads m flags (Ok (get keys)) is
last_leads m done (Ok (lose tablet)) is = done_leads m (Ok (lose tablet))
last_leads m call (Ok (lose tablet)) is = call_leads m (Ok (lose tablet))
last_leads m (round flags) (Ok (lose tablet)) is = partly_leads m flags (Ok (lose tablet)) is
last_leads m done (Ok marks) is = done_leads m (Ok marks)
last_leads m call (Ok marks) is = call_leads m (Ok marks)
last_leads m (round flags) (Ok marks) is = partly_leads m flags (Ok marks) is
last_leads m done (Ok (notices since)) is = done_leads m (Ok (notices since))
last_leads m call (Ok (notices since)) is = call_leads m (Ok (notices since))
last_leads m (round flags) (Ok (notices since)) is = partly_leads m flags (Ok (notices since)) is
last_leads m done (Ok (read key version)) is = done_leads m (Ok (read key version))
last_leads m call (Ok (read key version)) is = call_leads m (Ok (read key version))
last_leads m (round flags) (Ok (read key version)) is = partly_leads m flags (Ok (read key version)) is
last_leads m done (Ok (relayout bounds)) is = done_leads m (Ok (relayout bounds))
last_leads m call (Ok (relayout bounds)) is = call_leads m (Ok (relayout bounds))
last_leads m (round flags) (Ok (relayout bounds)) is = partly_leads m flags (Ok (relayout bounds)) is
last_leads m done (Ok (scan query)) is = done_leads m (Ok (scan query))
last_leads m call (Ok (scan query)) is = call_leads m (Ok (scan query))
last_leads m (round flags) (Ok (scan query)) is = partly_leads m flags (Ok (scan query)) is
last_leads m done (Ok tablets) is = done_leads m (Ok tablets)
last_leads m call (Ok tablets) is = call_leads m (Ok tablets)
last_leads m (round flags) (Ok tablets) is = partly_leads m flags (Ok tablets) is
last_leads m done (Err refusal) is = refl
last_leads m call (Err refusal) is = refl
last_leads m (round flags) (Err refusal) is = refl

-- what happens by the end of an input leads to the region after it
after_leads : (mode : Mode) (m : Machine) (outcome : Outcome) (part : List ℕ) → IsRegion m.region → OneLeads (events_of_end mode m outcome part) m.region (end_in mode m outcome part).machine.region
after_leads awaits_command m outcome [] is = refl
after_leads awaits_command m outcome (b ∷ part) is = last_leads m (outcome_at outcome (b ∷ part)) (command_at (b ∷ part)) is
after_leads (announced left came) m outcome part is = text_leads (logged_region m) (unless_call outcome (with_line came part []))

pub end_leads : (m : Machine) (outcome : Outcome) (part : List ℕ) → IsRegion m.region → OneLeads (events_of_end m.mode m outcome part) m.region (end_turn m outcome part).machine.region
end_leads m outcome part is = after_leads m.mode m outcome part is

ended_lead : (m : Machine) (end : Option InputEnd) → IsRegion m.region → AllLeadTo (events_at_end m end) m.region (machine_at_end m end).region
ended_lead m None is = refl
ended_lead m (Some end) is = all_lead (events_of_end m.mode m end.outcome end.part) m.region (end_turn m end.outcome end.part).machine.region (end_leads m end.outcome end.part is)

-- some events lead on from where others lead
lead_on : (first later : List RegionEvent) (old next new : RegionValue) → AllLeadTo first old next → AllLeadTo later next new → AllLeadTo (first ++ later) old new
lead_on [] later old next new lead more = subst (λ (r : RegionValue). AllLeadTo later r new) lead more
lead_on (event ∷ first) later old next new lead more = (lead.0, lead.1, lead_on first later lead.0 next new lead.2 more)

-- so do those of lines, one after another
lines_lead : (m : Machine) (lines : List (List ℕ)) (outcomes : List Outcome) → IsRegion m.region → AllLeadTo (events_from m lines outcomes) m.region (machine_after m lines outcomes).region
lines_lead m [] outcomes is = refl
lines_lead m (text ∷ lines) outcomes is =
    let outcome = first_outcome outcomes in
    let next = (turn m outcome text).machine in
    let leads = all_lead (events_in m.mode m outcome text) m.region next.region (line_leads m outcome text is) in
    lead_on (events_in m.mode m outcome text) (events_from next lines (later_outcomes outcomes)) m.region next.region (machine_after next lines (later_outcomes outcomes)).region
    leads (lines_lead next lines (later_outcomes outcomes) (events_are (events_in m.mode m outcome text) m.region next.region is leads))

-- so do those of an input
pub input_leads : (m : Machine) (input : Input) → IsRegion m.region → AllLeadTo (events_since m input) m.region (after_input m input).region
input_leads m input is =
    let before = machine_after m input.lines input.outcomes in
    let leads = lines_lead m input.lines input.outcomes is in
    lead_on (events_from m input.lines input.outcomes) (events_at_end before input.end) m.region before.region (after_input m input).region
    leads (ended_lead before input.end (events_are (events_from m input.lines input.outcomes) m.region before.region is leads))
