-- What honest publishers give, and what is published of regions that took it stays honest.
use Rattle.std.proofs.Common.{◌≡◌, ℕ, zero, suc, ◌+◌, pred, List, [], ◌∷◌, ◌++◌, length, take, drop, Option, None, Some, refl, sym, ap, ◌∙◌, subst, arith, append_assoc, map, Bool, true, false}
use Rattle.std.specs.Prelude.{Ok, slice_get}
use Rattle.std.specs.List.{AllByRecursion}
use mathlib.Core.List.{IsPrefix}
use Rattle.pn_line.specs.Text.{text_of}
use Rattle.pn_line.proofs.TextLaws.{text_of-append}
use Rattle.pn_join.specs.Marks.{Positions}
use Rattle.pn_record.specs.Cells.{table_of}
use Rattle.pn_record.specs.declared.records.Image.{Image}
use Rattle.pn_tablet.specs.Tablets.{empty_tablet}
use Rattle.pn_tablet.specs.Layouts.{Bounds, IsLayout, Ends}
use Rattle.pn_tablet.specs.declared.state.TabletOp.{TabletOp}
use Rattle.pn_stream.specs.Batches.{Batch}
use Rattle.pn_stream.specs.Brokers.{AreHonest, BrokerRecord, IsHonest, up_to, DeliveryValue}
use Rattle.pn_stream.specs.Streams.{InStep, Run}
use Rattle.pn_stream.specs.declared.fault.StreamFault.{StreamFault}
use Rattle.pn_apply.specs.Reducing.{ranges}
use Rattle.pn_region.specs.Events.{round as round_of, AreHonestEvents, RegionEvent, loss, adoption, advance}
use Rattle.pn_region.specs.Laws.{HasImages}
use Rattle.pn_region.specs.Regions.{RegionValue, IsRegion, all_cells, new_region, AllRise}
use Rattle.pn_region.specs.Rounds.{round}
use Rattle.pn_region.proofs.EventSteps.{event_is, takes}
use Rattle.pn_region.proofs.Faith.{round_up_to}
use Rattle.pn_region.proofs.RoundSteps.{new_is}
use Rattle.pn_region.proofs.Events.{event_rises, new_region_rises}
use Rattle.pn_region.proofs.TakenImages.{new_has, together}
use Rattle.pn_live.specs.LiveRegions.{LiveRegionValue, core, LeadsLive}
use Rattle.pn_live.proofs.Events.{new_core, all_lead}
use Rattle.pn_live.specs.Readers.{AllKnowPublished, AreOfTablets, TabletReaderValue}
use Rattle.pn_live.specs.PublishedTablets.{AreHonestTablets, IsHonestList, PublishedTabletValue}
use Rattle.pn_live.proofs.HonestLists.{adoption_honest, advance_honest, loss_honest, opened_honest, round_honest}
use Rattle.pn_live.proofs.Prefixes.{begins_on}
use Rattle.pn_serve.specs.Server.Events.{AllDone, WriterEvent, gathered, tried, taken, told, TookHonestly, region_events, DidHonestly, AreOfStreams}
use Rattle.pn_serve.specs.Server.Publishers.{ArePublished, IsHonestPublisher}
use Rattle.pn_serve.specs.Server.Rounds.{RoundInputValue}
use Rattle.pn_serve.specs.declared.server.mailboxes.AtFault.{AtFault}
use Rattle.pn_serve.specs.Control.Commands.{IsAfter, event_by, with_event}
use Rattle.pn_serve.specs.declared.control.commands.WriterCommand.{WriterCommand}
use Rattle.pn_serve.specs.declared.control.commands.WriterCommand.TheVariants as commands

-- What honest publishers give, and what regions hold that took it.

-- ---- publishers

drop_at : {X : Type 0} (xs : List X) (n : ℕ) (x : X) → slice_get xs n ≡ Some x → drop n xs ≡ x ∷ drop (n + 1) xs
drop_at [] n x is = absurd (cc)
drop_at (y ∷ xs) zero x is = let same : y ≡ x = cc in ap (λ z. z ∷ xs) same
drop_at (y ∷ xs) (suc n) x is = let more : suc (n + 1) ≡ suc n + 1 = omega arith in drop_at xs n x is ∙ ap (λ (k : ℕ). x ∷ drop k (y ∷ xs)) more

run_is : (broker : BrokerRecord) (name : List ℕ) (position : ℕ) (lines : List (List ℕ)) (images : List Image) → ArePublished broker name lines → InStep position lines images
    → images ≡ take (length images) (drop position (broker name))
run_is broker name position [] [] published run = refl
run_is broker name position [] (image ∷ images) published run = absurd run
run_is broker name position (line ∷ lines) [] published run = absurd run
run_is broker name position (line ∷ lines) (image ∷ images) published run =
    let at : pred (position + 1) ≡ position = omega arith in
    let here : slice_get (broker name) position ≡ Some image = subst (λ (n : ℕ). slice_get (broker name) n ≡ Some image) at (published.0 (position + 1, image) run.0 run.1) in
    ap (λ (more : List Image). image ∷ more) (run_is broker name (position + 1) lines images published.1 run.2)
    ∙ sym (ap (take (suc (length images))) (drop_at (broker name) position image here))

-- messages of an honest publisher are honest
pub run_is_honest : (broker : BrokerRecord) (name text rest : List ℕ) (position : ℕ) (images : List Image) → IsHonestPublisher broker name text → Run position text images rest
    → IsHonest broker (record { stream = name; first = position + 1; images = images })
run_is_honest broker name text rest position images honest run =
    let at : position ≡ pred (position + 1) = omega arith in (
      omega arith,
      subst (λ (n : ℕ). images ≡ take (length images) (drop n (broker name))) at (run_is broker name position run.lines images (honest run.lines rest run.text_is) run.in_step),
    )

-- what is read of an honest publisher is honest
pub batch_is_honest : (broker : BrokerRecord) (name text part : List ℕ) (least most position : ℕ) (images : List Image) (fault : Option StreamFault) (left : Option (List ℕ)) → IsHonestPublisher broker name text
    → Batch least most position text images fault part left → IsHonest broker (record { stream = name; first = position + 1; images = images })
batch_is_honest broker name text part least most position images fault left honest batch = run_is_honest broker name text batch.rest position images honest batch.run

later_published : (broker : BrokerRecord) (name : List ℕ) (lines more : List (List ℕ)) → ArePublished broker name (lines ++ more) → ArePublished broker name more
later_published broker name [] more published = published
later_published broker name (line ∷ lines) more published = later_published broker name lines more published.1

-- what is left of its text is honest
pub rest_is_honest : (broker : BrokerRecord) (name text rest : List ℕ) (position : ℕ) (images : List Image) → IsHonestPublisher broker name text → Run position text images rest → IsHonestPublisher broker name rest
rest_is_honest broker name text rest position images honest run more last is =
    later_published broker name run.lines more
    (honest (run.lines ++ more) last (
    run.text_is ∙ ap (λ (t : List ℕ). text_of run.lines ++ t) is
    ∙ sym (append_assoc (text_of run.lines) (text_of more) last)
    ∙ ap (λ (t : List ℕ). t ++ last) (sym (text_of-append run.lines more))
    ))

-- ---- regions

-- a region that has exactly what was published up to its marks
pub record Holds (broker : BrokerRecord) (region : RegionValue) : Type 0 where
  pub is : IsRegion region
  pub has : HasImages region (up_to broker region.marks)
  pub rise : AllRise region

one_round : (broker : BrokerRecord) (old new : RegionValue) (deliveries : List DeliveryValue) → Holds broker old → AreHonest broker deliveries → round old deliveries ≡ Ok new → Holds broker new
one_round broker old new deliveries holds honest leads =
    let took = takes old deliveries new leads in
    record {
      is = event_is (round_of deliveries) old new holds.is leads;
      has = subst (λ (r : RegionValue). HasImages r (up_to broker r.marks)) (sym took.is) (round_up_to broker old deliveries took.marks holds.is holds.has honest took.accepted);
      rise = event_rises (round_of deliveries) old new holds.rise leads;
    }

all_rounds : (broker : BrokerRecord) (at_fault : AtFault) (names : List (List ℕ)) (waiting : Option RoundInputValue) (old : LiveRegionValue) (events : List WriterEvent) (left : List (List ℕ)) (waits : Option RoundInputValue) (new : LiveRegionValue)
    → Holds broker (core old) → AreOfStreams events → AreHonestEvents broker (region_events events) → AllDone at_fault names waiting old events left waits new → Holds broker (core new)
all_rounds broker at_fault names waiting old [] left waits new holds alone honest all = subst (λ (live : LiveRegionValue). Holds broker (core live)) (sym all.2) holds
all_rounds broker at_fault names waiting old (gathered input ∷ later) left waits new holds alone honest all = all_rounds broker at_fault all.0 (Some input) old later left waits new holds alone.1 honest all.4
all_rounds broker at_fault names waiting old (tried input ∷ later) left waits new holds alone honest all =
    all_rounds broker at_fault names waiting all.0 later left waits new (subst (λ (live : LiveRegionValue). Holds broker (core live)) (sym all.3) holds) alone.1 honest all.4
all_rounds broker at_fault names waiting old (taken input ∷ later) left waits new holds alone honest all =
    all_rounds broker at_fault names None all.0 later left waits new (one_round broker (core old) (core all.0) input.deliveries holds honest.0 all.2.1.taken) alone.1 honest.1 all.3
all_rounds broker at_fault names waiting old (told asked said ∷ later) left waits new holds alone honest all = absurd alone.0

pub new_holds : (broker : BrokerRecord) (bounds : Bounds) → IsLayout bounds → Holds broker (new_region bounds)
new_holds broker bounds lawful = record { is = new_is bounds (map empty_tablet (ranges bounds)) [] lawful refl refl; has = new_has bounds; rise = new_region_rises bounds }

taken_holds : (broker : BrokerRecord) (live : LiveRegionValue) → TookHonestly broker live → Holds broker (core live)
taken_holds broker live took =
    let did = took.did in
    all_rounds broker did.at_fault did.names None did.opened did.events did.left did.waits live
    (subst (Holds broker) (sym (new_core did.bounds did.opened did.is_new)) (new_holds broker did.bounds did.lawful)) took.alone did.honest did.done

-- a live region has what was published up to its marks
pub has_published : (broker : BrokerRecord) (live : LiveRegionValue) → TookHonestly broker live → HasImages (core live) (up_to broker live.marks)
has_published broker live took = (taken_holds broker live took).has

-- its records are those
pub records_published : (broker : BrokerRecord) (live : LiveRegionValue) → TookHonestly broker live → all_cells (core live) ≡ table_of (up_to broker live.marks)
records_published broker live took =
    let holds = taken_holds broker live took in together (core live) (up_to broker live.marks) holds.is.lawful holds.has

-- two that took as much hold the same
pub records_alike : (broker : BrokerRecord) (one other : LiveRegionValue) → TookHonestly broker one → TookHonestly broker other → one.marks ≡ other.marks → all_cells (core one) ≡ all_cells (core other)
records_alike broker one other took takes same =
    records_published broker one took ∙ ap (λ (marks : Positions). table_of (up_to broker marks)) same ∙ sym (records_published broker other takes)

-- What is published of a live region stays honest, through rounds and commands, and so does what its readers saw of it.

-- a live region of which all that is published is honest
record PublishedHonestly (broker : BrokerRecord) (live : LiveRegionValue) : Type 0 where
  is : IsRegion (core live)
  honest : AreHonestTablets broker live.tablets

module _ (broker : BrokerRecord) where
  still_region : (event : RegionEvent) (old new : LiveRegionValue) → IsRegion (core old) → LeadsLive event old new → IsRegion (core new)
  still_region event old new is did =
      let (next, leads, same) = all_lead (event ∷ []) old new (old, new, refl, did, refl) in
      subst IsRegion (sym same) (event_is event (core old) next is leads)

  -- a command keeps it so
  after_command : (asked : WriterCommand) (text : List ℕ) (refused : Bool) (old new : LiveRegionValue) (later : List RegionEvent) → PublishedHonestly broker old
      → AreHonestEvents broker (with_event (event_by asked (record { text = text; refused = refused })) later) → IsAfter (event_by asked (record { text = text; refused = refused })) old new
      → PublishedHonestly broker new × AreHonestEvents broker later
  after_command asked text true old new later so honest same = (subst (PublishedHonestly broker) (sym same) so, honest)
  after_command (commands.Adopt copy) text false old new later so honest did =
      (record { is = still_region (adoption copy) old new so.is did; honest = adoption_honest broker old new so.is so.honest copy did.0 honest.0 did.1 }, honest.1)
  after_command commands.Advance text false old new later so honest did = (record { is = still_region advance old new so.is did; honest = advance_honest broker old new so.honest did }, honest.1)
  after_command (commands.Lose tablet) text false old new later so honest did =
      (record { is = still_region (loss tablet) old new so.is did; honest = loss_honest broker old new so.is so.honest tablet did }, honest.1)
  after_command commands.Marks text false old new later so honest same = (subst (PublishedHonestly broker) (sym same) so, honest)
  after_command (commands.Notices since) text false old new later so honest same = (subst (PublishedHonestly broker) (sym same) so, honest)
  after_command commands.Tablets text false old new later so honest same = (subst (PublishedHonestly broker) (sym same) so, honest)

  all_calls : (at_fault : AtFault) (names : List (List ℕ)) (waiting : Option RoundInputValue) (old : LiveRegionValue) (events : List WriterEvent) (left : List (List ℕ)) (waits : Option RoundInputValue) (new : LiveRegionValue)
      → PublishedHonestly broker old → AreHonestEvents broker (region_events events) → AllDone at_fault names waiting old events left waits new → PublishedHonestly broker new
  all_calls at_fault names waiting old [] left waits new so honest all = subst (PublishedHonestly broker) (sym all.2) so
  all_calls at_fault names waiting old (gathered input ∷ later) left waits new so honest all = all_calls at_fault all.0 (Some input) old later left waits new so honest all.4
  all_calls at_fault names waiting old (tried input ∷ later) left waits new so honest all =
      let still : PublishedHonestly broker all.0 = subst (PublishedHonestly broker) (sym all.3) (record { is = so.is; honest = so.honest }) in
      all_calls at_fault names waiting all.0 later left waits new still honest all.4
  all_calls at_fault names waiting old (taken input ∷ later) left waits new so honest all =
      let took = all.2.1 in
      let still : PublishedHonestly broker all.0 = record {
        is = event_is (round_of input.deliveries) (core old) (core all.0) so.is took.taken;
        honest = round_honest broker old all.0 so.is so.honest input.deliveries honest.0 took.taken took.published;
      } in
      all_calls at_fault names None all.0 later left waits new still honest.1 all.3
  all_calls at_fault names waiting old (told asked said ∷ later) left waits new so honest all =
      let (still, further) = after_command asked said.text said.refused old all.0 (region_events later) so honest all.1.left in
      all_calls at_fault names waiting all.0 later left waits new still further all.2

  pub kept_honest : (at_fault : AtFault) (names : List (List ℕ)) (waiting : Option RoundInputValue) (old : LiveRegionValue) (events : List WriterEvent) (left : List (List ℕ)) (waits : Option RoundInputValue) (new : LiveRegionValue)
      → IsRegion (core old) → AreHonestTablets broker old.tablets → AllDone at_fault names waiting old events left waits new → AreHonestEvents broker (region_events events) → AreHonestTablets broker new.tablets
  kept_honest at_fault names waiting old events left waits new is was all honest =
      (all_calls at_fault names waiting old events left waits new (record { is = is; honest = was }) honest all).honest

  -- from new on
  pub did_honest : (live : LiveRegionValue) → DidHonestly broker live → AreHonestTablets broker live.tablets
  did_honest live did =
      let is : IsRegion (core did.opened) = subst IsRegion (sym (new_core did.bounds did.opened did.is_new)) (new_holds broker did.bounds did.lawful).is in
      kept_honest did.at_fault did.names None did.opened did.events did.left did.waits live is
      (opened_honest broker (ranges did.bounds) did.opened.tablets did.is_new.tablets) did.done did.honest

  -- what begins an honest list is honest
  pub seen_honest : (tablets : List PublishedTabletValue) (readers : List TabletReaderValue) → AreHonestTablets broker tablets → AreOfTablets tablets readers → AllKnowPublished tablets readers
      → AllByRecursion (λ reader. IsHonestList broker reader.range reader.seen) readers
  seen_honest [] [] honest own know = tt
  seen_honest [] (reader ∷ readers) honest own know = absurd own
  seen_honest (tablet ∷ tablets) [] honest own know = absurd own
  seen_honest (tablet ∷ tablets) (reader ∷ readers) honest own know = (
    subst (λ (range : Ends). IsHonestList broker range reader.seen) (sym own.0.range)
        (λ (first : List TabletOp) (begins : IsPrefix first reader.seen). honest.0 first (begins_on first reader.seen tablet.list begins know.0.seen)),
    seen_honest tablets readers honest.1 own.1 know.1,
  )

  pub readers_honest : (live : LiveRegionValue) (readers : List TabletReaderValue) → DidHonestly broker live → AreOfTablets live.tablets readers → AllKnowPublished live.tablets readers
      → AllByRecursion (λ reader. IsHonestList broker reader.range reader.seen) readers
  readers_honest live readers did own know = seen_honest live.tablets readers (did_honest live did) own know
