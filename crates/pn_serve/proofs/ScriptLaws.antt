-- The laws of inputs that `src/laws.rt` states.
use Rattle.std.proofs.Common.{◌≡◌, ◌⊎◌, inl, inr, ℕ, List, [], ◌∷◌, map, sym, ap, ◌∙◌, subst, refl}
use Rattle.std.specs.Prelude.{Result, Ok, Err}
use Rattle.std.specs.FinMap.{find}
use Rattle.pn_record.specs.Sets.{bytes_cmp}
use Rattle.pn_record.specs.Cells.{Entries, table_of}
use Rattle.pn_stream.specs.Brokers.{BrokerRecord}
use Rattle.pn_tablet.specs.Layouts.{Bounds, IsLayout}
use Rattle.pn_region.specs.Events.{RegionEvent, round, half_round, loss, adoption, relayout as other_layout, advance, LeadsTo, AllLeadTo, AreHonestEvents, LosesNothing, LoseNothing}
use Rattle.pn_region.specs.Reads.{HoldsStill, AllServe, ServesAt}
use Rattle.pn_region.specs.Regions.{RegionValue, IsRegion, new_region, all_cells}
use Rattle.pn_region.proofs.Advanced.{advances}
use Rattle.pn_region.proofs.EventImages.{taken_together, rounds_together, alike}
use Rattle.pn_region.proofs.FaithfulEvents.{events_faithful}
use Rattle.pn_region.proofs.EventSteps.{takes, events_are}
use Rattle.pn_region.proofs.Faith.{new_faithful}
use Rattle.pn_region.proofs.RoundSteps.{new_is}
use Rattle.pn_region.proofs.ReadLaws.{read_of_all, get_of_all, page_of_all}
use Rattle.pn_region.proofs.Relaying.{relays}
use Rattle.pn_region.proofs.KeptEvents.{event_record, events_record}
use Rattle.pn_region.proofs.RoundEnds.{new_serves, taken_serves, half_serves}
use Rattle.pn_region.proofs.KeptRecords.{itself_held}
use Rattle.pn_scan.specs.Pages.{first_page}
use Rattle.pn_scan.specs.Views.{unless_behind}
use Rattle.pn_scan.specs.Shown.{shown_rows}
use Rattle.pn_scan.specs.declared.view.ScanFault.{ScanFault}
use Rattle.serde_json.specs.Data.{Data}
use Rattle.pn_json.specs.Tokens.{line_of}
use Rattle.pn_protocol.specs.declared.refusal.Refusal.{Refusal}
use Rattle.pn_protocol.specs.declared.refusal.Refusal.TheVariants.{Memory}
use Rattle.pn_protocol.specs.Command.Meaning.{CommandValue, adopt, copy, deliver, get, lose, marks, notices, read, relayout, scan, tablets}
use Rattle.pn_protocol.specs.Command.Lines.{command_at}
use Rattle.pn_protocol.specs.Command.Lookups.{AsksForRecords}
use Rattle.pn_serve.specs.Machine.Doing.{found_data, lookup_turn}
use Rattle.pn_serve.specs.Machine.Outcomes.{Outcome, done, line, call, round as in_part, Mode, awaits_command, Machine, new_machine}
use Rattle.pn_serve.specs.Machine.Turns.{turn_of, outcome_at, turn_in, turn, last_of, end_in, end_turn}
use Rattle.pn_protocol.specs.Reply.Records.{read_data, get_data, scan_data}
use Rattle.pn_protocol.specs.Reply.Short.{refusal_data}
use Rattle.pn_serve.specs.Script.Events.{events_in, events_of_input, events_of_end, events_since, images_taken, NothingLost, AllHonest, Settled}
use Rattle.pn_serve.specs.Script.Written.{Input, after_input, region_after}
use Rattle.pn_serve.specs.Script.Laws.{Told, machine_of, records_of, images_of, TookTheSame, AwaitsCommand, reply_of, last_reply, AreAlike, IsNoOlder}
use Rattle.pn_serve.proofs.Happened.{OneLeads, line_leads, end_leads, input_leads}

-- a new region is one
pub new_one : (bounds : Bounds) → IsLayout bounds → IsRegion (new_region bounds)
new_one bounds lawful = new_is bounds (new_region bounds).tablets [] lawful refl refl

-- what loses nothing leaves tablets serving
event_serves : (event : RegionEvent) (old new : RegionValue) → LosesNothing event → LeadsTo event old new → AllServe old → AllServe new
event_serves (round deliveries) old new one leads serve =
    let took = takes old deliveries new leads in
    subst AllServe (sym took.is) (taken_serves old deliveries took.marks serve)
event_serves (half_round deliveries) old new one leads serve = half_serves old new deliveries serve leads
event_serves (loss n) old new one leads serve = absurd one
event_serves (adoption given) old new one leads serve = absurd one
event_serves (other_layout bounds) old new one leads serve = (relays old new bounds leads.relaid).serve
event_serves advance old new one leads serve = subst AllServe (sym (advances old new leads)) serve

events_serve : (events : List RegionEvent) (old new : RegionValue) → LoseNothing events → AllLeadTo events old new → AllServe old → AllServe new
events_serve [] old new none lead serve = subst AllServe (sym lead) serve
events_serve (event ∷ events) old new none lead serve = events_serve events lead.0 new none.1 lead.2 (event_serves event old lead.0 none.0 lead.1 serve)

-- an input of a new region
module _ (broker : BrokerRecord) (bounds : Bounds) (lawful : IsLayout bounds) (input : Input) where
  abbrev after : RegionValue
  after = region_after (new_region bounds) input

  pub lead_after : AllLeadTo (events_of_input (new_region bounds) input) (new_region bounds) after
  lead_after = input_leads (new_machine (new_region bounds)) input (new_one bounds lawful)

  pub after_is : IsRegion after
  after_is = events_are (events_of_input (new_region bounds) input) (new_region bounds) after (new_one bounds lawful) lead_after

  whole_serves : NothingLost (new_region bounds) input ⊎ (AllHonest broker (new_region bounds) input × AllServe after) → AllServe after
  whole_serves (inl none) = events_serve (events_of_input (new_region bounds) input) (new_region bounds) after none lead_after (new_serves bounds)
  whole_serves (inr honest) = honest.1

  pub serves : Settled broker (new_region bounds) input → AllServe after
  serves settled = whole_serves settled.whole

  pub held_records : Settled broker (new_region bounds) input → all_cells after ≡ table_of (images_taken broker (new_region bounds) input)
  held_records settled = elim settled.whole [
    | inl none ↦ rounds_together broker bounds (events_of_input (new_region bounds) input) after lawful lead_after none settled.retried
    | inr honest ↦ taken_together broker bounds (events_of_input (new_region bounds) input) after lawful lead_after honest.0 honest.1 settled.retried
  ]

-- regions that took the same images
module _ (broker : BrokerRecord) (one other : Told) (took : TookTheSame broker one other) where
  first_records : records_of one ≡ table_of (images_of broker one)
  first_records = held_records broker one.layout one.lawful one.input took.settled

  same_records : records_of one ≡ records_of other
  same_records =
      alike (machine_of one).region (machine_of other).region (images_of broker one) (images_of broker other)
      first_records (held_records broker other.layout other.lawful other.input took.settled_too) took.same

  -- both have the records of the images that either took
  pub both_records : (records_of one ≡ table_of (images_of broker one)) × (records_of other ≡ table_of (images_of broker one))
  both_records = (first_records, sym same_records ∙ first_records)

found_alike : {A : Type 0} (m n : Machine) (show : A → Data) (one other : Result A ScanFault) → one ≡ other → (lookup_turn m show one).reply ≡ (lookup_turn n show other).reply
found_alike m n show one other same = ap (λ right. line_of (found_data show right)) same

-- what holds of a region whose tablets serve
abbrev Holds : RegionValue → Type 0
Holds region = IsRegion region × AllServe region

look_alike : (m n : Machine) (said : Result CommandValue Refusal) → AsksForRecords said → Holds m.region → Holds n.region → all_cells m.region ≡ all_cells n.region → (turn_of m done said).reply ≡ (turn_of n done said).reply
look_alike m n (Ok (adopt lines)) looks is too same = absurd looks
look_alike m n (Ok (copy need tablet)) looks is too same = absurd looks
look_alike m n (Ok (deliver deliveries)) looks is too same = absurd looks
look_alike m n (Ok (get keys)) looks is too same =
    found_alike m n (get_data keys) _ _
    (get_of_all m.region is.0 is.1 keys ∙ ap (λ (cells : Entries). Ok (map (λ key. find bytes_cmp key cells) keys)) same ∙ sym (get_of_all n.region too.0 too.1 keys))
look_alike m n (Ok (lose tablet)) looks is too same = absurd looks
look_alike m n (Ok (notices since)) looks is too same = absurd looks
look_alike m n (Ok marks) looks is too same = absurd looks
look_alike m n (Ok (read key version)) looks is too same =
    found_alike m n (read_data key) _ _
    (read_of_all m.region is.0 is.1 key version ∙ ap (λ (cells : Entries). unless_behind version (find bytes_cmp key cells)) same ∙ sym (read_of_all n.region too.0 too.1 key version))
look_alike m n (Ok (relayout bounds)) looks is too same = absurd looks
look_alike m n (Ok (scan query)) looks is too same =
    found_alike m n scan_data _ _
    (page_of_all m.region is.0 is.1 query ∙ ap (λ (cells : Entries). Ok (first_page query (shown_rows query cells))) same ∙ sym (page_of_all n.region too.0 too.1 query))
look_alike m n (Ok tablets) looks is too same = absurd looks
look_alike m n (Err refusal) looks is too same = absurd looks

-- a line that asks for records is answered, or memory ran out
abbrev out_of_memory : List ℕ
out_of_memory = line_of (refusal_data Memory)

as_it_says : (m : Machine) (outcome : Outcome) (said : Result CommandValue Refusal) → AsksForRecords said → ((turn_of m outcome said).reply ≡ out_of_memory) ⊎ ((turn_of m outcome said).reply ≡ (turn_of m done said).reply)
as_it_says m done said asks = inr refl
as_it_says m line said asks = inl refl
as_it_says m call said asks = called said asks
  where
    called : (said : Result CommandValue Refusal) → AsksForRecords said → ((turn_of m call said).reply ≡ out_of_memory) ⊎ ((turn_of m call said).reply ≡ (turn_of m done said).reply)
    called (Ok (adopt lines)) asks = absurd asks
    called (Ok (copy need tablet)) asks = absurd asks
    called (Ok (deliver deliveries)) asks = absurd asks
    called (Ok (get keys)) asks = inl refl
    called (Ok (lose tablet)) asks = absurd asks
    called (Ok (notices since)) asks = absurd asks
    called (Ok marks) asks = absurd asks
    called (Ok (read key version)) asks = inl refl
    called (Ok (relayout bounds)) asks = absurd asks
    called (Ok (scan query)) asks = inl refl
    called (Ok tablets) asks = absurd asks
    called (Err refusal) asks = absurd asks
as_it_says m (in_part flags) said asks = partly said asks
  where
    partly : (said : Result CommandValue Refusal) → AsksForRecords said → ((turn_of m (in_part flags) said).reply ≡ out_of_memory) ⊎ ((turn_of m (in_part flags) said).reply ≡ (turn_of m done said).reply)
    partly (Ok (adopt lines)) asks = absurd asks
    partly (Ok (copy need tablet)) asks = absurd asks
    partly (Ok (deliver deliveries)) asks = absurd asks
    partly (Ok (get keys)) asks = inr refl
    partly (Ok (lose tablet)) asks = absurd asks
    partly (Ok (notices since)) asks = absurd asks
    partly (Ok marks) asks = absurd asks
    partly (Ok (read key version)) asks = inr refl
    partly (Ok (relayout bounds)) asks = absurd asks
    partly (Ok (scan query)) asks = inr refl
    partly (Ok tablets) asks = absurd asks
    partly (Err refusal) asks = absurd asks

-- without its newline it does the same
last_alike : (m : Machine) (outcome : Outcome) (said : Result CommandValue Refusal) → AsksForRecords said → (last_of m outcome said).reply ≡ (turn_of m outcome said).reply
last_alike m outcome (Ok (adopt lines)) asks = absurd asks
last_alike m outcome (Ok (copy need tablet)) asks = absurd asks
last_alike m outcome (Ok (deliver deliveries)) asks = absurd asks
last_alike m outcome (Ok (lose tablet)) asks = absurd asks
last_alike m outcome (Ok (notices since)) asks = absurd asks
last_alike m outcome (Ok marks) asks = absurd asks
last_alike m outcome (Ok (relayout bounds)) asks = absurd asks
last_alike m outcome (Ok tablets) asks = absurd asks
last_alike m outcome (Err refusal) asks = absurd asks
last_alike m done (Ok (get keys)) asks = refl
last_alike m line (Ok (get keys)) asks = refl
last_alike m call (Ok (get keys)) asks = refl
last_alike m (in_part flags) (Ok (get keys)) asks = refl
last_alike m done (Ok (read key version)) asks = refl
last_alike m line (Ok (read key version)) asks = refl
last_alike m call (Ok (read key version)) asks = refl
last_alike m (in_part flags) (Ok (read key version)) asks = refl
last_alike m done (Ok (scan query)) asks = refl
last_alike m line (Ok (scan query)) asks = refl
last_alike m call (Ok (scan query)) asks = refl
last_alike m (in_part flags) (Ok (scan query)) asks = refl

alike_if : {a b x y : List ℕ} → (a ≡ out_of_memory) ⊎ (a ≡ x) → (b ≡ out_of_memory) ⊎ (b ≡ y) → x ≡ y → AreAlike a b
alike_if (inl short) goes same = inl (inl short)
alike_if (inr went) (inl short) same = inl (inr short)
alike_if (inr went) (inr goes) same = inr (went ∙ same ∙ sym goes)

-- replies of a machine that waits for a command
replied : (m : Machine) (outcome : Outcome) (text : List ℕ) → m.mode ≡ awaits_command → (turn m outcome text).reply ≡ (turn_of m (outcome_at outcome text) (command_at text)).reply
replied m outcome text waits = ap (λ (mode : Mode). (turn_in mode m outcome text).reply) waits

module _ (m n : Machine) (waits : m.mode ≡ awaits_command) (waits_too : n.mode ≡ awaits_command) (same : (said : Result CommandValue Refusal) → AsksForRecords said → (turn_of m done said).reply ≡ (turn_of n done said).reply) (went goes : Outcome) where
  said_alike : (text : List ℕ) → AsksForRecords (command_at text) → AreAlike (turn_of m (outcome_at went text) (command_at text)).reply (turn_of n (outcome_at goes text) (command_at text)).reply
  said_alike text asks = alike_if (as_it_says m (outcome_at went text) (command_at text) asks) (as_it_says n (outcome_at goes text) (command_at text) asks) (same (command_at text) asks)

  turns_alike : (text : List ℕ) → AsksForRecords (command_at text) → AreAlike (turn m went text).reply (turn n goes text).reply
  turns_alike text asks =
      subst (λ (r : List ℕ). AreAlike r (turn n goes text).reply) (sym (replied m went text waits))
      (subst (λ (r : List ℕ). AreAlike (turn_of m (outcome_at went text) (command_at text)).reply r) (sym (replied n goes text waits_too)) (said_alike text asks))

  ends_in : (text : List ℕ) → AsksForRecords (command_at text) → AreAlike (end_in awaits_command m went text).reply (end_in awaits_command n goes text).reply
  ends_in [] asks = inr refl
  ends_in (b ∷ part) asks =
      let text = b ∷ part in
      subst (λ (r : List ℕ). AreAlike r (end_in awaits_command n goes text).reply) (sym (last_alike m (outcome_at went text) (command_at text) asks))
      (subst (λ (r : List ℕ). AreAlike (turn_of m (outcome_at went text) (command_at text)).reply r) (sym (last_alike n (outcome_at goes text) (command_at text) asks)) (said_alike text asks))

  ends_alike : (text : List ℕ) → AsksForRecords (command_at text) → AreAlike (end_turn m went text).reply (end_turn n goes text).reply
  ends_alike text asks =
      subst (λ (r : List ℕ). AreAlike r (end_turn n goes text).reply) (sym (ap (λ (mode : Mode). (end_in mode m went text).reply) waits))
      (subst (λ (r : List ℕ). AreAlike (end_in awaits_command m went text).reply r) (sym (ap (λ (mode : Mode). (end_in mode n goes text).reply) waits_too)) (ends_in text asks))

pub same_replies : (broker : BrokerRecord) (one other : Told) → TookTheSame broker one other → AwaitsCommand one → AwaitsCommand other
    → (text : List ℕ) (went goes : Outcome) → AsksForRecords (command_at text)
    → AreAlike (reply_of one went text) (reply_of other goes text) × AreAlike (last_reply one went text) (last_reply other goes text)
same_replies broker one other took waits waits_too text went goes asks =
    let m = machine_of one in
    let n = machine_of other in
    let holds : Holds m.region = (after_is broker one.layout one.lawful one.input, serves broker one.layout one.lawful one.input took.settled) in
    let holds_too : Holds n.region = (after_is broker other.layout other.lawful other.input, serves broker other.layout other.lawful other.input took.settled_too) in
    let same : (said : Result CommandValue Refusal) → AsksForRecords said → (turn_of m done said).reply ≡ (turn_of n done said).reply =
    λ said looks. look_alike m n said looks holds holds_too (same_records broker one other took) in
    (turns_alike m n waits waits_too same went goes text asks, ends_alike m n waits waits_too same went goes text asks)

-- an event makes no record older whose tablet serves before and after it
one_held : (events : List RegionEvent) (old new : RegionValue) (key : List ℕ) → IsRegion old → OneLeads events old new → ServesAt old key → ServesAt new key
    → HoldsStill (find bytes_cmp key (all_cells old)) (find bytes_cmp key (all_cells new))
one_held [] old new key is lead serves serves_too =
    subst (λ (r : RegionValue). HoldsStill (find bytes_cmp key (all_cells old)) (find bytes_cmp key (all_cells r))) (sym lead) (itself_held (find bytes_cmp key (all_cells old)))
one_held (event ∷ []) old new key is lead serves serves_too = event_record event old new key is lead serves serves_too
one_held (event ∷ next ∷ later) old new key is lead serves serves_too = absurd lead

pub line_held : (told : Told) (outcome : Outcome) (text key : List ℕ) → IsNoOlder (machine_of told).region (turn (machine_of told) outcome text).machine.region key
line_held told outcome text key serves_before serves_after =
    let before = machine_of told in
    let is = after_is (λ name. []) told.layout told.lawful told.input in
    one_held (events_in before.mode before outcome text) before.region (turn before outcome text).machine.region key is (line_leads before outcome text is) serves_before serves_after

pub end_held : (told : Told) (outcome : Outcome) (part key : List ℕ) → IsNoOlder (machine_of told).region (end_turn (machine_of told) outcome part).machine.region key
end_held told outcome part key serves_before serves_after =
    let before = machine_of told in
    let is = after_is (λ name. []) told.layout told.lawful told.input in
    one_held (events_of_end before.mode before outcome part) before.region (end_turn before outcome part).machine.region key is (end_leads before outcome part is) serves_before serves_after

pub input_held : (broker : BrokerRecord) (told : Told) (more : Input) (key : List ℕ)
    → AreHonestEvents broker (events_of_input (new_region told.layout) told.input) → AreHonestEvents broker (events_since (machine_of told) more)
    → IsNoOlder (machine_of told).region (after_input (machine_of told) more).region key
input_held broker told more key honest honest_too serves_before serves_after =
    let before = machine_of told in
    let region = new_region told.layout in
    let is = after_is broker told.layout told.lawful told.input in
    events_record broker (events_since before more) before.region (after_input before more).region key is
    (events_faithful broker (events_of_input region told.input) region before.region (new_one told.layout told.lawful) (new_faithful broker told.layout) honest (lead_after broker told.layout told.lawful told.input))
    honest_too (input_leads before more is) serves_before serves_after
