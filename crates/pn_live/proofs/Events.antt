-- New live regions, started or not from copies, and their calls as events of a region.
use Rattle.std.proofs.Common.{◌≡◌, ℕ, ◌+◌, List, [], ◌∷◌, ◌++◌, map, refl, sym, ap, ◌∙◌, subst, arith, ◌⊎◌, inr, inl, Result, Ok, Err}
use Rattle.std.specs.Prelude.{MatchResult}
use Rattle.std.specs.List.{AllByRecursion, range_with_len}
use Rattle.std.proofs.lemmas.List.FromFn.{map-range_with_len_more}
use Rattle.logbook.specs.Pages.{Book}
use Rattle.pn_record.specs.Cells.{table_of}
use Rattle.pn_record.specs.declared.records.Image.{Image}
use Rattle.pn_tablet.specs.Layouts.{Bounds, IsLayout, tablet_ends, Ends}
use Rattle.pn_tablet.specs.Tablets.{empty_tablet}
use Rattle.pn_tablet.specs.declared.state.TabletOp.TheVariants.{Lose}
use Rattle.pn_tablet.specs.Copies.{TabletCopyValue}
use Rattle.pn_tablet.specs.Steps.{Refuses, is_memory}
use Rattle.pn_tablet.specs.declared.fault.OpFault.{OpFault as AdoptFault}
use Rattle.pn_tablet.specs.declared.fault.OpFault.TheVariants as op
use Rattle.pn_stream.specs.Brokers.{BrokerRecord}
use Rattle.pn_apply.specs.Reducing.{ranges}
use Rattle.pn_region.specs.Regions.{AreRegionMarks, IsLawfulRegion, RegionValue, new_region, all_cells}
use Rattle.pn_region.proofs.RoundSteps.{new_is}
use Rattle.pn_region.specs.Events.{RegionEvent, round, half_round, loss, adoption, relayout, advance, LeadsTo, AllLeadTo, AreHonestEvents, all_taken, all_left, IsRound, AreRounds, LosesNothing, LoseNothing, StartsFrom, start_events}
use Rattle.pn_region.specs.Laws.{AreIn}
use Rattle.pn_region.specs.Log.{LoggedRegion, with_break}
use Rattle.pn_region.specs.Reads.{AllServe}
use Rattle.pn_region.proofs.EventImages.{taken_together, rounds_together}
use Rattle.pn_region.specs.Recovery.{after_adoption}
use Rattle.pn_live.specs.LiveRegions.{LiveRegionValue, core, tablets_in, IsNewLive, IsReaderIn, LeadsLive, AllLeadLive, with_op_at, Advances, StartsLive, StopsAt}
use Rattle.pn_live.specs.PublishedTablets.{PublishedTabletValue, IsNewTablet, AreNewTablets, state_at}
use Rattle.pn_live.specs.Readers.{LiveReaderValue, new_reader_of, IsNewReader, Tablets, TabletReaderValue}
use Rattle.pn_live.proofs.Rounds.{core_after}
use Rattle.pn_live.specs.declared.fault.StartFault.{StartFault}
use Rattle.pn_live.specs.declared.fault.StartFault.TheVariants.{Adopt as NotAdopted}

-- New live tablets, and their first readers.

pub new_more : (rs : List Ends) (ps : List PublishedTabletValue) (r : Ends) (p : PublishedTabletValue) → AreNewTablets rs ps → IsNewTablet r p → AreNewTablets (rs ++ r ∷ []) (ps ++ p ∷ [])
new_more [] [] r p new one = (one, tt)
new_more [] (q ∷ ps) r p new one = absurd new
new_more (s ∷ rs) [] r p new one = absurd new
new_more (s ∷ rs) (q ∷ ps) r p new one = (new.0, new_more rs ps r p new.1 one)

-- one new tablet more of a layout
pub opened_more : (bounds : Bounds) (n : ℕ) (ps : List PublishedTabletValue) (p : PublishedTabletValue) → AreNewTablets (map (tablet_ends bounds) (range_with_len 0 n)) ps → IsNewTablet (tablet_ends bounds n) p
    → AreNewTablets (map (tablet_ends bounds) (range_with_len 0 (n + 1))) (ps ++ p ∷ [])
opened_more bounds n ps p new one =
    subst (λ (rs : List Ends). AreNewTablets rs (ps ++ p ∷ [])) (sym (map-range_with_len_more (tablet_ends bounds) 0 n n (omega arith)))
    (new_more (map (tablet_ends bounds) (range_with_len 0 n)) ps (tablet_ends bounds n) p new one)

pub new_ranges : (rs : List Ends) (ps : List PublishedTabletValue) → AreNewTablets rs ps → map (λ (p : PublishedTabletValue). p.range) ps ≡ rs
new_ranges [] [] new = refl
new_ranges [] (p ∷ ps) new = absurd new
new_ranges (r ∷ rs) [] new = absurd new
new_ranges (r ∷ rs) (p ∷ ps) new = λ i. new.0.0 i ∷ new_ranges rs ps new.1 i

new_state : (r : Ends) (p : PublishedTabletValue) → IsNewTablet r p → state_at p ≡ empty_tablet r
new_state r p new = ap (λ ops. state_at (record p { list = ops })) new.1 ∙ ap empty_tablet new.0

pub new_states : (rs : List Ends) (ps : List PublishedTabletValue) → AreNewTablets rs ps → map state_at ps ≡ map empty_tablet rs
new_states [] [] new = refl
new_states [] (p ∷ ps) new = absurd new
new_states (r ∷ rs) [] new = absurd new
new_states (r ∷ rs) (p ∷ ps) new = λ i. new_state r p new.0 i ∷ new_states rs ps new.1 i

pub new_lawful : (live : LiveRegionValue) → IsLayout live.layout → AreNewTablets (ranges live.layout) live.tablets → live.marks ≡ [] → IsLawfulRegion (core live)
new_lawful live lawful new none = record {
  is_region = new_is live.layout (map state_at live.tablets) live.marks lawful (new_states (ranges live.layout) live.tablets new) none;
  are_marks = subst AreRegionMarks (sym none) (record { few = omega arith; positions = refl });
}

-- new readers are of their tablets and ranges
pub opened_books : (ps : List PublishedTabletValue) → map (λ (w : TabletReaderValue). w.book) (map new_reader_of ps) ≡ map (λ (p : PublishedTabletValue). p.book) ps
opened_books [] = refl
opened_books (p ∷ ps) = ap (λ (rest : List Book). p.book ∷ rest) (opened_books ps)

pub opened_ranges : (ps : List PublishedTabletValue) → map (λ (w : TabletReaderValue). w.range) (map new_reader_of ps) ≡ map (λ (p : PublishedTabletValue). p.range) ps
opened_ranges [] = refl
opened_ranges (p ∷ ps) = ap (λ (rest : List Ends). p.range ∷ rest) (opened_ranges ps)

opened_new : (rs : List Ends) (ps : List PublishedTabletValue) → AreNewTablets rs ps → AllByRecursion (λ (w : TabletReaderValue). (w.seen ≡ []) × (w.learnt ≡ [])) (map new_reader_of ps)
opened_new [] [] new = tt
opened_new [] (p ∷ ps) new = absurd new
opened_new (r ∷ rs) [] new = absurd new
opened_new (r ∷ rs) (p ∷ ps) new = ((new.0.1, new.0.1), opened_new rs ps new.1)

-- a reader of new tablets is new
pub new_reader : (live : LiveRegionValue) (reader : LiveReaderValue) → AreNewTablets (ranges live.layout) live.tablets → reader.layout ≡ live.layout → reader.tablet_readers ≡ map new_reader_of live.tablets
    → IsNewReader (tablets_in live) reader
new_reader live reader new layout is = (
  (λ i. record { layout = layout i; books = (ap (map (λ (w : TabletReaderValue). w.book)) is ∙ opened_books live.tablets) i }),
  subst (λ (ws : List TabletReaderValue). AllByRecursion (λ (w : TabletReaderValue). (w.seen ≡ []) × (w.learnt ≡ [])) ws) (sym is) (opened_new (ranges live.layout) live.tablets new),
)

pub new_readers : (live : LiveRegionValue) (bounds : Bounds) (tablets : List PublishedTabletValue) (readers : List LiveReaderValue) → AreNewTablets (ranges live.layout) live.tablets → live.layout ≡ bounds → live.tablets ≡ tablets
    → AllByRecursion (λ (reader : LiveReaderValue). (reader.layout ≡ bounds) × (reader.tablet_readers ≡ map new_reader_of tablets)) readers → AllByRecursion (IsNewReader (tablets_in live)) readers
new_readers live bounds tablets [] new same here all = tt
new_readers live bounds tablets (reader ∷ readers) new same here all =
    (new_reader live reader new (all.0.0 ∙ sym same) (all.0.1 ∙ ap (map new_reader_of) (sym here)), new_readers live bounds tablets readers new same here all.1)

-- Calls of a live region are events of a region, and what they take is there when it is closed.

pub new_core : (bounds : Bounds) (live : LiveRegionValue) → IsNewLive bounds live → core live ≡ new_region bounds
new_core bounds live new = λ i. record { layout = new.layout i; tablets = new_states (ranges bounds) live.tablets new.tablets i; marks = new.marks i }

-- a call that did an event leads where the event does
one_leads : (event : RegionEvent) (old new : LiveRegionValue) → LeadsLive event old new → LeadsTo event (core old) (core new)
one_leads (round deliveries) old new did = did.0
one_leads (half_round deliveries) old new did = absurd did
one_leads (loss tablet) old new did = ap core did ∙ core_after old tablet Lose (with_op_at tablet Lose old.tablets) refl (with_break old.log)
one_leads (adoption copy) old new did = record { tablet = did.1.tablet; lawful = did.0; adopted = did.1.adopted }
one_leads (relayout bounds) old new did = absurd did
one_leads advance old new did = did.advanced

pub all_lead : (events : List RegionEvent) (old new : LiveRegionValue) → AllLeadLive events old new → AllLeadTo events (core old) (core new)
all_lead [] old new same = same
all_lead (event ∷ events) old new did =
    (core did.1, subst (λ (r : RegionValue). LeadsTo event r (core did.1)) did.2 (one_leads event did.0 did.1 did.3), all_lead events did.1 new did.4)

-- rounds lose nothing
round_loses_nothing : (event : RegionEvent) → IsRound event → LosesNothing event
round_loses_nothing (round deliveries) is = tt
round_loses_nothing (half_round deliveries) is = tt
round_loses_nothing (loss tablet) is = absurd is
round_loses_nothing (adoption copy) is = absurd is
round_loses_nothing (relayout bounds) is = absurd is
round_loses_nothing advance is = absurd is

rounds_lose_nothing : (events : List RegionEvent) → AreRounds events → LoseNothing events
rounds_lose_nothing [] are = tt
rounds_lose_nothing (event ∷ events) are = (round_loses_nothing event are.0, rounds_lose_nothing events are.1)

-- no call leaves images in some tablets alone
none_left : (events : List RegionEvent) (old new : LiveRegionValue) → AllLeadLive events old new → all_left events ≡ []
none_left [] old new led = refl
none_left (round deliveries ∷ events) old new led = none_left events led.1 new led.4
none_left (half_round deliveries ∷ events) old new led = absurd led.3
none_left (loss tablet ∷ events) old new led = none_left events led.1 new led.4
none_left (adoption copy ∷ events) old new led = none_left events led.1 new led.4
none_left (relayout bounds ∷ events) old new led = absurd led.3
none_left (advance ∷ events) old new led = none_left events led.1 new led.4

module _ (broker : BrokerRecord) (bounds : Bounds) (events : List RegionEvent) (opened live : LiveRegionValue) (closed : LoggedRegion)
    (lawful : IsLayout bounds) (new : IsNewLive bounds opened) (led : AllLeadLive events opened live) (is : closed.state ≡ core live) where
  leads : AllLeadTo events (new_region bounds) closed.state
  leads =
      subst (λ (r : RegionValue). AllLeadTo events r closed.state) (new_core bounds opened new)
      (subst (λ (r : RegionValue). AllLeadTo events (core opened) r) (sym is) (all_lead events opened live led))

  none_more : AreIn (all_left events) (all_taken broker events)
  none_more = subst (λ (left : List Image). AreIn left (all_taken broker events)) (sym (none_left events opened live led)) (λ image there. absurd (omega (arith, there.1)))

  pub honest_calls : AreHonestEvents broker events → AllServe closed.state → all_cells closed.state ≡ table_of (all_taken broker events)
  honest_calls honest serve = taken_together broker bounds events closed.state lawful leads honest serve none_more

  pub round_calls : AreRounds events → all_cells closed.state ≡ table_of (all_taken broker events)
  round_calls are = rounds_together broker bounds events closed.state lawful leads (rounds_lose_nothing events are) none_more

-- Live regions that start from copies.

-- wherever the copies that are left lead from here, all copies lead from the start
abbrev pub LeadOn : List TabletCopyValue → LiveRegionValue → List TabletCopyValue → LiveRegionValue → Type 0
LeadOn left live all start = (new : LiveRegionValue) → AllLeadLive (start_events left) live new → AllLeadLive (start_events all) start new

-- one copy more is adopted
pub one_more : (copy : TabletCopyValue) (left all : List TabletCopyValue) (live after start : LiveRegionValue) → LeadsLive (adoption copy) live after → LeadOn (copy ∷ left) live all start → LeadOn left after all start
one_more copy left all live after start leads on new lead = on new (live, after, refl, leads, lead)

-- once none is left, the marks advance
pub at_last : (all : List TabletCopyValue) (live after start : LiveRegionValue) → Advances live after → LeadOn [] live all start → AllLeadLive (start_events all) start after
at_last all live after start advances on = on after (live, after, refl, advances, refl)

-- wherever the copies that are left stop from here, all copies stop from the start
abbrev pub StopOn : List TabletCopyValue → LiveRegionValue → List TabletCopyValue → LiveRegionValue → Type 0
StopOn left live all start = (fault : StartFault) → StopsAt left (core live) fault → StopsAt all (core start) fault

-- after a copy, or its refusal
abbrev StopsBy : List TabletCopyValue → StartFault → Result (ℕ × RegionValue) AdoptFault → Type 0
StopsBy left fault right = MatchResult right (λ taken. (fault ≡ NotAdopted op.Memory) ⊎ StopsAt left taken.1 fault) (λ refusal. fault ≡ NotAdopted refusal)

pub one_stop : (copy : TabletCopyValue) (left all : List TabletCopyValue) (live after start : LiveRegionValue) → LeadsLive (adoption copy) live after → StopOn (copy ∷ left) live all start → StopOn left after all start
one_stop copy left all live after start leads on fault stops = on fault (subst (StopsBy left fault) (sym leads.1.adopted) (inr stops))

-- a copy that is refused stops there
pub not_adopted : (copy : TabletCopyValue) (left : List TabletCopyValue) (live : LiveRegionValue) (fault : AdoptFault) → Refuses is_memory fault (after_adoption (core live) copy) → StopsAt (copy ∷ left) (core live) (NotAdopted fault)
not_adopted copy left live fault is = by_fault fault (after_adoption (core live) copy) is where
  refused : (fault : AdoptFault) (right : Result (ℕ × RegionValue) AdoptFault) → right ≡ Err fault → StopsBy left (NotAdopted fault) right
  refused fault (Ok taken) is = cc
  refused fault (Err refusal) is =
      let same : refusal ≡ fault = cc in
      ap NotAdopted (sym same)

  by_fault : (fault : AdoptFault) (right : Result (ℕ × RegionValue) AdoptFault) → Refuses is_memory fault right → StopsBy left (NotAdopted fault) right
  by_fault op.Memory (Ok taken) is = inl refl
  by_fault op.Memory (Err refusal) is = cc
  by_fault op.WrongRange right is = refused op.WrongRange right is
  by_fault (op.TooOld stream has needs) right is = refused (op.TooOld stream has needs) right is

-- a live region that starts is a region that does
pub starts_from : (copies : List TabletCopyValue) (bounds : Bounds) (live : LiveRegionValue) → IsLayout bounds → map (λ (copy : TabletCopyValue). copy.range) copies ≡ ranges bounds → StartsLive copies bounds live
    → StartsFrom copies bounds (core live)
starts_from copies bounds live lawful own starts = record {
  lawful = lawful;
  own = own;
  lead = subst (λ (r : RegionValue). AllLeadTo (start_events copies) r (core live)) (new_core bounds starts.opened starts.is_new) (all_lead (start_events copies) starts.opened live starts.lead);
}

-- readers of the tablets are those of a live region that has them
pub still_read : (tablets : Tablets) (live : LiveRegionValue) (readers : List LiveReaderValue) → tablets_in live ≡ tablets → AllByRecursion (IsNewReader tablets) readers → AllByRecursion (IsReaderIn live) readers
still_read tablets live [] same all = tt
still_read tablets live (reader ∷ readers) same all = (all.0.0 ∙ sym same, still_read tablets live readers same all.1)
