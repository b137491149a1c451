-- What a server holds whose streams and copies were honest.
use Rattle.std.proofs.Common.{◌≡◌, List, [], ◌∷◌, ◌++◌, Option, None, Some, refl, sym, ap, ◌∙◌, subst}
use Rattle.std.specs.Prelude.{Contains}
use Rattle.std.specs.List.{AllByRecursion}
use Rattle.std.proofs.lemmas.List.Elements.{Contains-append_right}
use Rattle.pn_record.specs.Cells.{table_of, SameImages}
use Rattle.pn_record.specs.declared.records.Image.{Image}
use Rattle.pn_stream.specs.Brokers.{BrokerRecord, IsHonest, up_to, DeliveryValue}
use Rattle.pn_tablet.specs.Copies.{TabletCopyValue}
use Rattle.pn_apply.specs.Reducing.{images_in}
use Rattle.pn_region.specs.Events.{RegionEvent, round, AllLeadTo, AreHonestEvents, start_events, all_left, all_taken}
use Rattle.pn_region.specs.Laws.{AreFaithful, AreIn}
use Rattle.pn_region.specs.Regions.{IsRegion, all_cells, new_region}
use Rattle.pn_region.specs.Reads.{AllServe}
use Rattle.pn_region.proofs.EventImages.{alike, taken_together}
use Rattle.pn_region.proofs.EventSteps.{events_are}
use Rattle.pn_region.proofs.Faith.{new_faithful}
use Rattle.pn_region.proofs.FaithfulEvents.{events_faithful}
use Rattle.pn_region.proofs.Starting.{has_what_it_took, later_faithful, lead_on}
use Rattle.pn_live.specs.PublishedTablets.{AreHonestTablets}
use Rattle.pn_live.specs.LiveRegions.{LiveRegionValue, core}
use Rattle.pn_live.proofs.Events.{new_core, starts_from}
use Rattle.pn_serve.specs.Control.Commands.{event_by, with_event}
use Rattle.pn_serve.specs.Script.Events.{Settled}
use Rattle.pn_serve.specs.Script.Laws.{Told, images_of, machine_of, records_of}
use Rattle.pn_serve.specs.Server.Events.{BringAll, IsCommand, WriterEvent, gathered, tried, taken, told, region_events}
use Rattle.pn_serve.proofs.EventsDone.{done_leads, left_taken}
use Rattle.pn_serve.proofs.HonestStreams.{did_honest, kept_honest}
use Rattle.pn_serve.proofs.ScriptLaws.{held_records, new_one}
use Rattle.pn_serve.proofs.SentEvents.{did_honestly, honest_events}
use Rattle.pn_stay.specs.Servers.{Begins, LivedHonestly, deeds, first_events, images_lived}

-- ---- events one after another

with_both : (event : Option RegionEvent) (first later : List RegionEvent) → with_event event (first ++ later) ≡ with_event event first ++ later
with_both None first later = refl
with_both (Some event) first later = refl

-- the events of both are those of the first, and then those of the second
both_events : (first later : List WriterEvent) → region_events (first ++ later) ≡ region_events first ++ region_events later
both_events [] later = refl
both_events (gathered input ∷ first) later = both_events first later
both_events (tried input ∷ first) later = both_events first later
both_events (taken input ∷ first) later = ap (λ (events : List RegionEvent). round input.deliveries ∷ events) (both_events first later)
both_events (told asked said ∷ first) later =
    ap (with_event (event_by asked said)) (both_events first later) ∙ with_both (event_by asked said) (region_events first) (region_events later)

all_both : (Q : WriterEvent → Type 0) (first later : List WriterEvent) → AllByRecursion Q first → AllByRecursion Q later → AllByRecursion Q (first ++ later)
all_both Q [] later one two = two
all_both Q (event ∷ first) later one two = (one.0, all_both Q first later one.1 two)

-- commands bring no deliveries
none_brought : (P : DeliveryValue → Type 0) (events : List WriterEvent) → AllByRecursion IsCommand events → BringAll P events
none_brought P [] alone = tt
none_brought P (gathered input ∷ later) alone = absurd alone.0
none_brought P (tried input ∷ later) alone = absurd alone.0
none_brought P (taken input ∷ later) alone = absurd alone.0
none_brought P (told asked said ∷ later) alone = (tt, none_brought P later alone.1)

-- a start leaves no images in some tablets alone, and takes no less than what follows
left_of_start : (copies : List TabletCopyValue) (later : List RegionEvent) → all_left (start_events copies ++ later) ≡ all_left later
left_of_start [] later = refl
left_of_start (copy ∷ copies) later = left_of_start copies later

taken_after_start : (broker : BrokerRecord) (copies : List TabletCopyValue) (later : List RegionEvent) (image : Image) → Contains (all_taken broker later) image
    → Contains (all_taken broker (start_events copies ++ later)) image
taken_after_start broker [] later image there = there
taken_after_start broker (copy ∷ copies) later image there =
    Contains-append_right (images_in copy.range (up_to broker copy.marks)) (all_taken broker (start_events copies ++ later)) image
    (taken_after_start broker copies later image there)

-- ---- a server

module _ (broker : BrokerRecord) (live : LiveRegionValue) (lived : LivedHonestly broker live) where
  commands_honest : AreHonestEvents broker (region_events lived.told.events)
  commands_honest = honest_events broker lived.told.events (none_brought (IsHonest broker) lived.told.events lived.told.alone) lived.adopts_later

  deeds_honest : AreHonestEvents broker (region_events (deeds lived))
  deeds_honest =
      let commands = none_brought (IsHonest broker) lived.told.events lived.told.alone in
      honest_events broker (deeds lived)
      (all_both _ lived.ran.events lived.told.events lived.ran.brought commands)
      (all_both _ lived.ran.events lived.told.events lived.adopts lived.adopts_later)

  read_leads : AllLeadTo (region_events lived.ran.events) (core lived.started) (core lived.read)
  read_leads = done_leads _ lived.names None lived.started lived.ran.events lived.ran.left lived.ran.waits lived.read lived.ran.done

  deeds_lead : AllLeadTo (region_events (deeds lived)) (core lived.started) (core live)
  deeds_lead =
      subst (λ (events : List RegionEvent). AllLeadTo events (core lived.started) (core live)) (sym (both_events lived.ran.events lived.told.events))
      (lead_on (region_events lived.ran.events) (region_events lived.told.events) (core lived.started) (core lived.read) (core live) read_leads
      (done_leads _ [] None lived.read lived.told.events [] None live lived.told.done))

  -- what it has, however it began
  all_there : (copies : Option (List TabletCopyValue)) → Begins broker lived.layout copies lived.started → AllServe (core live)
      → all_cells (core live) ≡ table_of (all_taken broker (first_events copies ++ region_events (deeds lived)))
  all_there None begins serve =
      taken_together broker lived.layout (region_events (deeds lived)) (core live) lived.lawful
      (subst (λ region. AllLeadTo (region_events (deeds lived)) region (core live)) (new_core lived.layout lived.started begins) deeds_lead)
      deeds_honest serve (left_taken broker (deeds lived))
  all_there (Some copies) begins serve =
      let events = region_events (deeds lived) in
      has_what_it_took broker copies lived.layout events (core lived.started) (core live)
      (starts_from copies lived.layout lived.started lived.lawful begins.0 begins.1)
      begins.2 deeds_lead deeds_honest serve
      (subst (λ (images : List Image). AreIn images (all_taken broker (start_events copies ++ events))) (sym (left_of_start copies events))
      (λ image there. taken_after_start broker copies events image (left_taken broker (deeds lived) image there)))

  all_faithful : (copies : Option (List TabletCopyValue)) → Begins broker lived.layout copies lived.started → AreFaithful broker (core live).tablets
  all_faithful None begins =
      events_faithful broker (region_events (deeds lived)) (new_region lived.layout) (core live) (new_one lived.layout lived.lawful)
      (new_faithful broker lived.layout)
      deeds_honest (subst (λ region. AllLeadTo (region_events (deeds lived)) region (core live)) (new_core lived.layout lived.started begins) deeds_lead)
  all_faithful (Some copies) begins =
      later_faithful broker copies lived.layout (region_events (deeds lived)) (core lived.started) (core live)
      (starts_from copies lived.layout lived.started lived.lawful begins.0 begins.1) begins.2 deeds_lead deeds_honest

  all_published : (copies : Option (List TabletCopyValue)) → Begins broker lived.layout copies lived.started → copies ≡ None
      → AreHonestTablets broker live.tablets
  all_published None begins new =
      let read = did_honestly broker lived.layout _ lived.names lived.started lived.read lived.end lived.ran lived.lawful begins lived.adopts in
      let first : IsRegion (core lived.started) = subst IsRegion (sym (new_core lived.layout lived.started begins)) (new_one lived.layout lived.lawful) in
      let is = events_are (region_events lived.ran.events) (core lived.started) (core lived.read) first read_leads in
      kept_honest broker _ [] None lived.read lived.told.events [] None live is (did_honest broker lived.read read) lived.told.done commands_honest
  all_published (Some copies) begins new = absurd (cc)

  -- its tablets are faithful
  pub lived_faithful : AreFaithful broker (core live).tablets
  lived_faithful = all_faithful lived.copies lived.begins

  -- all that a new one published is honest
  pub lived_published : lived.copies ≡ None → AreHonestTablets broker live.tablets
  lived_published = all_published lived.copies lived.begins

  -- where all tablets serve, it has the records of what it took
  pub lived_records : AllServe (core live) → all_cells (core live) ≡ table_of (images_lived lived)
  lived_records = all_there lived.copies lived.begins

-- two that took the same images have the same records
pub lived_alike : (broker : BrokerRecord) (one other : LiveRegionValue) (lived : LivedHonestly broker one) (lives : LivedHonestly broker other)
    → AllServe (core one) → AllServe (core other) → SameImages (images_lived lived) (images_lived lives) → all_cells (core one) ≡ all_cells (core other)
lived_alike broker one other lived lives serve serves same =
    alike (core one) (core other) (images_lived lived) (images_lived lives) (lived_records broker one lived serve) (lived_records broker other lives serves)
    same

-- so have a server and a script
pub lived_as_told : (broker : BrokerRecord) (live : LiveRegionValue) (lived : LivedHonestly broker live) (script : Told) → AllServe (core live)
    → Settled broker (new_region script.layout) script.input → SameImages (images_lived lived) (images_of broker script)
    → all_cells (core live) ≡ records_of script
lived_as_told broker live lived script serve settled same =
    alike (core live) (machine_of script).region (images_lived lived) (images_of broker script)
    (lived_records broker live lived serve) (held_records broker script.layout script.lawful script.input settled) same
