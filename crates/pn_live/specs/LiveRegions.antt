-- The state of a live region, what its calls do to it, and how it starts from copies.
use Rattle.std.specs.Prelude.{◌≡◌, List, [], map, ℕ, zero, suc, ◌∷◌, Ok, ◌⊎◌, Result, MatchResult}
use Rattle.logbook.specs.Pages.{Book}
use Rattle.pn_join.specs.Marks.{Positions}
use Rattle.pn_tablet.specs.Layouts.{Bounds}
use Rattle.pn_tablet.specs.Copies.{TabletCopyValue, IsCopy}
use Rattle.pn_tablet.specs.declared.fault.Shortfall.{Shortfall}
use Rattle.pn_tablet.specs.declared.state.TabletOp.{TabletOp}
use Rattle.pn_tablet.specs.declared.state.TabletOp.TheVariants.{Adopt, Lose}
use Rattle.pn_tablet.specs.declared.fault.OpFault.{OpFault as AdoptFault}
use Rattle.pn_tablet.specs.declared.fault.OpFault.TheVariants.{TooOld, Memory}
use Rattle.pn_tablet.specs.Steps.{Refuses}
use Rattle.pn_stream.specs.Brokers.{DeliveryValue}
use Rattle.pn_apply.specs.Reducing.{ranges}
use Rattle.pn_region.specs.Regions.{RegionValue}
use Rattle.pn_region.specs.Rounds.{joins}
use Rattle.pn_region.specs.declared.notices.Entry.{Entry}
use Rattle.pn_region.specs.Recovery.{after_advance, is_no_advance as is_memory, after_adoption}
use Rattle.pn_region.specs.Log.{with_break}
use Rattle.pn_region.specs.Events.{RegionEvent, round, half_round, loss, adoption, relayout, advance, start_events}
use Rattle.pn_region.specs.declared.fault.AdvanceFault.{AdvanceFault}
use Rattle.pn_region.specs.Rounds as rounds
use Rattle.pn_live.specs.PublishedTablets.{PublishedTabletValue, AreNewTablets, books_of, state_at, with_ops, with_op}
use Rattle.pn_live.specs.Readers.{LiveReaderValue, Tablets, tablets_of}
use Rattle.pn_live.specs.declared.fault.StartFault.{StartFault}
use Rattle.pn_live.specs.declared.fault.StartFault.TheVariants.{Open, Adopt as NotAdopted, Advance}

-- The state of a live region, and what its rounds publish.

-- a layout, a live tablet for each of its ranges, marks, the entries of the log, and the tablets that rounds published, in that order
pub record LiveRegionValue : Type 0 where
  pub layout : Bounds
  pub tablets : List PublishedTabletValue
  pub marks : Positions
  pub log : List Entry
  pub order : List Book

-- the region that it is: each tablet has the state of what is published
abbrev pub core : LiveRegionValue → RegionValue
core live = record { layout = live.layout; tablets = map state_at live.tablets; marks = live.marks }

-- a live region with nothing taken or published
pub record IsNewLive (bounds : Bounds) (live : LiveRegionValue) : Type 0 where
  pub layout : live.layout ≡ bounds
  pub tablets : AreNewTablets (ranges bounds) live.tablets
  pub marks : live.marks ≡ []
  pub log : live.log ≡ []
  pub order : live.order ≡ []

-- which tablets it has
abbrev pub tablets_in : LiveRegionValue → Tablets
tablets_in live = record { layout = live.layout; books = books_of live.tablets }

-- the reader is one of the region's
abbrev pub IsReaderIn : LiveRegionValue → LiveReaderValue → Type 0
IsReaderIn live reader = tablets_of reader ≡ tablets_in live

-- the live tablets after a round: the join of each is published
abbrev pub tablets_after_round : LiveRegionValue → List DeliveryValue → Positions → List PublishedTabletValue
tablets_after_round live deliveries marks = with_ops live.tablets (joins (core live) deliveries marks)

-- Losses and adoptions of live tablets, and marks that advance.

-- the tablets after one operation more of the tablet of this number
abbrev pub with_op_at : ℕ → TabletOp → List PublishedTabletValue → List PublishedTabletValue
with_op_at number op [] = []
with_op_at zero op (tablet ∷ tablets) = with_op tablet op ∷ tablets
with_op_at (suc number) op (tablet ∷ tablets) = tablet ∷ with_op_at number op tablets

-- the live region after one operation more of the tablet of this number, and a break in the log
abbrev pub after_op_at : LiveRegionValue → ℕ → TabletOp → LiveRegionValue
after_op_at live number op = record live { tablets = with_op_at number op live.tablets; log = with_break live.log }

-- the copy is adopted as in a region, and the adoption is published of that tablet
pub record Adopts (copy : TabletCopyValue) (old new : LiveRegionValue) : Type 0 where
  pub tablet : ℕ
  pub adopted : after_adoption (core old) copy ≡ Ok (tablet, core new)
  pub published : new ≡ after_op_at old tablet (Adopt copy)

-- the marks advance as a region's do, and nothing else changes
pub record Advances (old new : LiveRegionValue) : Type 0 where
  pub advanced : after_advance (core old) ≡ Ok (core new)
  pub rest : new ≡ record old { marks = new.marks }

-- the fault that names what a copy lacks
abbrev pub too_old : Shortfall → AdoptFault
too_old short = TooOld short.stream short.has short.wanted

-- What calls do to a live region, as events of the region that it is.

-- a call did the event: it took a round, lost a tablet, adopted a copy, or advanced the marks
abbrev pub LeadsLive : RegionEvent → LiveRegionValue → LiveRegionValue → Type 0
LeadsLive (round deliveries) old new = (rounds.round (core old) deliveries ≡ Ok (core new)) × (new.tablets ≡ tablets_after_round old deliveries new.marks)
LeadsLive (half_round deliveries) old new = ⊥
LeadsLive (loss tablet) old new = new ≡ after_op_at old tablet Lose
LeadsLive (adoption copy) old new = IsCopy copy.range copy.marks copy.cells × Adopts copy old new
LeadsLive (relayout bounds) old new = ⊥
LeadsLive advance old new = Advances old new

-- calls did the events, one after another; other calls may lie between, which published nothing and kept the marks
abbrev pub AllLeadLive : List RegionEvent → LiveRegionValue → LiveRegionValue → Type 0
AllLeadLive [] old new = core new ≡ core old
AllLeadLive (event ∷ events) old new =
    (before : LiveRegionValue) × (after : LiveRegionValue) × (core before ≡ core old) × LeadsLive event before after × AllLeadLive events after new

-- Live regions that start from copies.

-- a new live region of the layout adopted each copy, and then its marks advanced
pub record StartsLive (copies : List TabletCopyValue) (bounds : Bounds) (live : LiveRegionValue) : Type 0 where
  pub opened : LiveRegionValue
  pub is_new : IsNewLive bounds opened
  pub lead : AllLeadLive (start_events copies) opened live

-- the advance is refused so, or memory ran out where it is not
abbrev pub IsAdvanceFault : StartFault → Result RegionValue AdvanceFault → Type 0
IsAdvanceFault (Advance fault) right = Refuses is_memory fault right
IsAdvanceFault _ right = ⊥

-- the first copy that the region refuses is refused so, or else the advance; memory may run out at a copy before that
abbrev pub StopsAt : List TabletCopyValue → RegionValue → StartFault → Type 0
StopsAt [] region fault = IsAdvanceFault fault (after_advance region)
StopsAt (copy ∷ copies) region fault =
    MatchResult (after_adoption region copy) (λ taken. (fault ≡ NotAdopted Memory) ⊎ StopsAt copies taken.1 fault) (λ refusal. fault ≡ NotAdopted refusal)

-- a start stops so, unless nothing was opened
abbrev pub StopsStart : List TabletCopyValue → RegionValue → StartFault → Type 0
StopsStart copies region (Open fault) = Unit {0}
StopsStart copies region fault = StopsAt copies region fault
