-- Rounds, commands of control sessions and starts from copies are events of the region, by which marks never fall.
use Rattle.std.proofs.Common.{◌≡◌, ℕ, Bool, true, false, List, [], ◌∷◌, Option, None, Some, refl, sym, ap, subst, ◌∙◌, IfSome, arith, ◌++◌, map}
use Rattle.std.specs.Prelude.{Contains}
use Rattle.std.specs.FinMap.{find}
use Rattle.std.proofs.lemmas.List.Elements.{Contains-append_left, All-weaker, Contains-append_right}
use Rattle.std.specs.List.{All}
use Rattle.pn_join.specs.Marks.{Positions, Reaches, position_of}
use Rattle.pn_record.specs.Prelude.{bytes_cmp}
use Rattle.pn_record.specs.Cells.{table_of}
use Rattle.pn_record.specs.declared.records.Image.{Image}
use Rattle.pn_tablet.specs.Copies.{TabletCopyValue}
use Rattle.pn_tablet.specs.Layouts.{Bounds, IsLayout}
use Rattle.pn_stream.specs.Brokers.{BrokerRecord, up_to, DeliveryValue}
use Rattle.pn_apply.specs.Reducing.{images_in, ranges}
use Rattle.pn_region.specs.Events.{RegionEvent, AllLeadTo, AreHonestEvents, round, half_round, loss, adoption, relayout, advance, LeadsTo, all_left, all_taken, AreHonestCopies, start_events}
use Rattle.pn_region.specs.Laws.{AreFaithful, AreIn}
use Rattle.pn_region.specs.Reads.{HoldsStill, AllServe, ServesAt}
use Rattle.pn_region.specs.Regions.{RegionValue, IsRegion, all_cells, new_region}
use Rattle.pn_region.proofs.EventImages.{taken_together}
use Rattle.pn_region.proofs.KeptEvents.{events_record}
use Rattle.pn_region.proofs.Advanced.{advances, marks_rise}
use Rattle.pn_region.proofs.EventSteps.{adopts, event_is, takes}
use Rattle.pn_region.proofs.MarkLaws.{next_reaches}
use Rattle.pn_region.proofs.Relaying.{relays}
use Rattle.pn_region.proofs.Starting.{has_what_it_took}
use Rattle.pn_live.specs.LiveRegions.{LiveRegionValue, core, StartsLive}
use Rattle.pn_live.proofs.Events.{new_core, starts_from}
use Rattle.pn_serve.specs.Control.Commands.{event_by, with_event}
use Rattle.pn_serve.specs.Server.Events.{AllDone, WriterEvent, gathered, tried, taken, told, ToldAll, DidHonestly, region_events}
use Rattle.pn_serve.specs.Server.Rounds.{RoundInputValue, Continues}
use Rattle.pn_serve.specs.declared.control.commands.WriterCommand.{WriterCommand}
use Rattle.pn_serve.specs.declared.server.mailboxes.AtFault.{AtFault}
use Rattle.pn_serve.proofs.Obeying.{leads_first}
use Rattle.pn_serve.specs.declared.server.rounds.RoundInput.{RoundInput}
use Rattle.pn_serve.specs.declared.control.commands.WriterCommand.TheVariants as commands

-- Rounds of streams and commands of control sessions are events of the region.

-- what was done leads where its events lead
pub done_leads : (at_fault : AtFault) (names : List (List ℕ)) (waiting : Option RoundInputValue) (old : LiveRegionValue) (events : List WriterEvent) (left : List (List ℕ)) (waits : Option RoundInputValue) (new : LiveRegionValue)
    → AllDone at_fault names waiting old events left waits new → AllLeadTo (region_events events) (core old) (core new)
done_leads at_fault names waiting old [] left waits new all = ap core all.2
done_leads at_fault names waiting old (gathered input ∷ later) left waits new all = done_leads at_fault all.0 (Some input) old later left waits new all.4
done_leads at_fault names waiting old (tried input ∷ later) left waits new all =
    subst (λ (live : LiveRegionValue). AllLeadTo (region_events later) (core live) (core new)) all.3 (done_leads at_fault names waiting all.0 later left waits new all.4)
done_leads at_fault names waiting old (taken input ∷ later) left waits new all = (core all.0, all.2.1.taken, done_leads at_fault names None all.0 later left waits new all.3)
done_leads at_fault names waiting old (told asked said ∷ later) left waits new all =
    leads_first (event_by asked said) old all.0 (region_events later) (core new) all.1.left (done_leads at_fault names waiting all.0 later left waits new all.2)

-- a command leaves no images in some tablets alone
left_by_event : (asked : WriterCommand) (text : List ℕ) (refused : Bool) (later : List RegionEvent) → all_left (with_event (event_by asked (record { text = text; refused = refused })) later) ≡ all_left later
left_by_event asked text true later = refl
left_by_event (commands.Adopt copy) text false later = refl
left_by_event commands.Advance text false later = refl
left_by_event (commands.Lose tablet) text false later = refl
left_by_event commands.Marks text false later = refl
left_by_event (commands.Notices since) text false later = refl
left_by_event commands.Tablets text false later = refl

-- rounds and commands leave none
none_left : (events : List WriterEvent) → all_left (region_events events) ≡ []
none_left [] = refl
none_left (gathered input ∷ later) = none_left later
none_left (tried input ∷ later) = none_left later
none_left (taken input ∷ later) = none_left later
none_left (told asked said ∷ later) = left_by_event asked said.text said.refused (region_events later) ∙ none_left later

-- so all that may be left was taken
pub left_taken : (broker : BrokerRecord) (events : List WriterEvent) → AreIn (all_left (region_events events)) (all_taken broker (region_events events))
left_taken broker events =
    let taken = all_taken broker (region_events events) in
    subst (λ (images : List Image). AreIn images taken) (sym (none_left events)) (λ image there. Contains-append_left [] taken image there)

-- so a region whose tablets all serve has the records of what it took
pub done_records : (broker : BrokerRecord) (live : LiveRegionValue) (did : DidHonestly broker live) → AllServe (core live) → all_cells (core live) ≡ table_of (all_taken broker (region_events did.events))
done_records broker live did serve =
    let events = region_events did.events in
    let leads : AllLeadTo events (new_region did.bounds) (core live) =
    subst (λ (r : RegionValue). AllLeadTo events r (core live)) (new_core did.bounds did.opened did.is_new) (done_leads did.at_fault did.names None did.opened did.events did.left did.waits live did.done) in
    taken_together broker did.bounds events (core live) did.lawful leads did.honest serve (left_taken broker did.events)

-- and a record that is served before and after is still held
pub done_served : (broker : BrokerRecord) (at_fault : AtFault) (names : List (List ℕ)) (waiting : Option RoundInputValue) (old : LiveRegionValue) (events : List WriterEvent) (left : List (List ℕ)) (waits : Option RoundInputValue) (new : LiveRegionValue) (key : List ℕ)
    → IsRegion (core old) → AreFaithful broker (core old).tablets → AllDone at_fault names waiting old events left waits new → AreHonestEvents broker (region_events events)
    → ServesAt (core old) key → ServesAt (core new) key → HoldsStill (find bytes_cmp key (all_cells (core old))) (find bytes_cmp key (all_cells (core new)))
done_served broker at_fault names waiting old events left waits new key is faithful all honest =
    events_record broker (region_events events) (core old) (core new) key is faithful honest (done_leads at_fault names waiting old events left waits new all)

-- Marks never fall, so what continues them does so later too.

same_reaches : (marks need : Positions) → marks ≡ need → Reaches marks need
same_reaches marks need same name =
    let here = ap (λ (m : Positions). position_of m name) same in
    omega (arith, here)

event_reaches : (event : RegionEvent) (old new : RegionValue) → IsRegion old → LeadsTo event old new → Reaches new.marks old.marks
event_reaches (round deliveries) old new is leads =
    let took = takes old deliveries new leads in
    subst (λ (r : RegionValue). Reaches r.marks old.marks) (sym took.is) (next_reaches old.marks took.marks deliveries took.accepted)
event_reaches (half_round deliveries) old new is leads = same_reaches new.marks old.marks leads.1
event_reaches (loss tablet) old new is leads = same_reaches new.marks old.marks (ap (λ (r : RegionValue). r.marks) leads)
event_reaches (adoption copy) old new is leads = same_reaches new.marks old.marks (ap (λ (r : RegionValue). r.marks) (adopts old copy leads.tablet new leads.adopted).is)
event_reaches (relayout bounds) old new is leads = same_reaches new.marks old.marks (ap (λ (r : RegionValue). r.marks) (relays old new bounds leads.relaid).is)
event_reaches advance old new is leads = subst (λ (r : RegionValue). Reaches r.marks old.marks) (sym (advances old new leads)) (marks_rise old is)

all_reach : (events : List RegionEvent) (old new : RegionValue) → IsRegion old → AllLeadTo events old new → Reaches new.marks old.marks
all_reach [] old new is lead = same_reaches new.marks old.marks (ap (λ (r : RegionValue). r.marks) lead)
all_reach (event ∷ events) old new is lead = λ name.
    let first = event_reaches event old lead.0 is lead.1 name in
    let rest = all_reach events lead.0 new (event_is event old lead.0 is lead.1) lead.2 name in
    omega (arith, first, rest)

-- commands let no mark fall
pub told_reaches : (at_fault : AtFault) (names : List (List ℕ)) (waiting : Option RoundInputValue) (old new : LiveRegionValue) → IsRegion (core old) → ToldAll at_fault names waiting old new → Reaches new.marks old.marks
told_reaches at_fault names waiting old new is all =
    all_reach (region_events all.events) (core old) (core new) is (done_leads at_fault names waiting old all.events names waiting new all.done)

pub reaches_itself : (marks : Positions) → Reaches marks marks
reaches_itself marks = same_reaches marks marks refl

-- what continues marks continues those that reach them
pub continue_on : (marks next : Positions) (deliveries : List DeliveryValue) → Reaches next marks → All (Continues marks) deliveries → All (Continues next) deliveries
continue_on marks next deliveries reaches all =
    All-weaker (Continues marks) (Continues next) (λ delivery was.
    let further = reaches delivery.stream in
    omega (arith, was, further)) deliveries all

-- so does an input that waits
pub waits_on : (waiting : Option RoundInput) (marks next : Positions) → Reaches next marks → IfSome waiting (λ input. All (Continues marks) input.deliveries.items) → IfSome waiting (λ input. All (Continues next) input.deliveries.items)
waits_on None marks next reaches all = tt
waits_on (Some input) marks next reaches all = continue_on marks next input.deliveries.items reaches all

-- What is done after a start from copies, as events of the region.

-- a start leaves no images in some tablets alone
left_of_start : (copies : List TabletCopyValue) (later : List RegionEvent) → all_left (start_events copies ++ later) ≡ all_left later
left_of_start [] later = refl
left_of_start (copy ∷ copies) later = left_of_start copies later

-- and takes no less than what follows
taken_after_start : (broker : BrokerRecord) (copies : List TabletCopyValue) (later : List RegionEvent) (image : Image) → Contains (all_taken broker later) image → Contains (all_taken broker (start_events copies ++ later)) image
taken_after_start broker [] later image there = there
taken_after_start broker (copy ∷ copies) later image there =
    Contains-append_right (images_in copy.range (up_to broker copy.marks)) (all_taken broker (start_events copies ++ later)) image (taken_after_start broker copies later image there)

pub started_leaves : (broker : BrokerRecord) (copies : List TabletCopyValue) (bounds : Bounds) (at_fault : AtFault) (names : List (List ℕ)) (started : LiveRegionValue) (events : List WriterEvent) (left : List (List ℕ)) (waits : Option RoundInputValue) (live : LiveRegionValue)
    → IsLayout bounds → map (λ (copy : TabletCopyValue). copy.range) copies ≡ ranges bounds → StartsLive copies bounds started → AreHonestCopies broker copies
    → AllDone at_fault names None started events left waits live → AreHonestEvents broker (region_events events) → AllServe (core live)
    → all_cells (core live) ≡ table_of (all_taken broker (start_events copies ++ region_events events))
started_leaves broker copies bounds at_fault names started events left waits live lawful own starts honest all more serve =
    has_what_it_took broker copies bounds (region_events events) (core started) (core live) (starts_from copies bounds started lawful own starts) honest
    (done_leads at_fault names None started events left waits live all) more serve
    (subst (λ (images : List Image). AreIn images (all_taken broker (start_events copies ++ region_events events))) (sym (left_of_start copies (region_events events)))
    (λ image there. taken_after_start broker copies (region_events events) image (left_taken broker events image there)))
