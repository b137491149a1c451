-- Regions that start from copies, why they do not, and what they give in another layout.
use Rattle.std.proofs.Common.{◌≡◌, ◌≢◌, List, Err, inl, inr, map, ℕ, suc, arith, ◌+◌, Bool, false, cond, not, nat_lt, [], ◌∷◌, ◌++◌, length, take, drop, slice_get, Option, None, Some, Result, Ok, ◌⊎◌, refl, sym, ap, ap₂, ◌∙◌, subst}
use Rattle.std.specs.Prelude.{MatchResult, IsSomeAnd}
use Rattle.std.specs.List.Sorted.{IsPermutation, IsSortedByKey}
use Rattle.std.specs.Option.{option_cmp, option_to_list}
use Rattle.std.specs.List.{AllByRecursion, flat_map, position_or_len}
use Rattle.std.proofs.lemmas.Bool.Decides.{nat_tests}
use Rattle.std.proofs.lemmas.List.{append_assoc, map-append, take-append-drop}
use Rattle.std.proofs.lemmas.List.Elements.{All-from_recursion, recursion_from_All}
use Rattle.std.proofs.lemmas.List.Sorted.{All-permutation}
use Rattle.pn_json.proofs.AppendedTexts.{taken_next}
use Rattle.pn_record.specs.Sets.{bytes_cmp}
use Rattle.pn_tablet.specs.Copies.{TabletCopyValue, copy_from, copy_of, copy_shortfall, unless_behind}
use Rattle.pn_tablet.specs.Layouts.{layout_with, Bounds, IsLayout, Ends}
use Rattle.pn_tablet.specs.declared.layout.CutFault.{CutFault}
use Rattle.pn_tablet.specs.declared.fault.OpFault.{OpFault}
use Rattle.pn_tablet.specs.Steps.{Refuses, is_memory}
use Rattle.pn_tablet.specs.declared.fault.CopyFault.{CopyFault}
use Rattle.pn_tablet.specs.Tablets.{TabletStateValue}
use Rattle.pn_tablet.specs.declared.fault.Shortfall.{Shortfall}
use Rattle.pn_tablet.specs.declared.state.Status.{Status}
use Rattle.pn_tablet.specs.declared.state.Status.TheVariants.{Recovering, Serving}
use Rattle.pn_tablet.specs.declared.layout.CutFault.TheVariants as cut
use Rattle.pn_tablet.specs.declared.fault.OpFault.TheVariants as adopt
use Rattle.pn_stream.specs.Brokers.{BrokerRecord}
use Rattle.pn_apply.specs.Reducing.{ranges}
use Rattle.pn_region.specs.Regions.{new_region, RegionValue, all_cells}
use Rattle.pn_region.specs.Recovery.{after_advance, after_adoption, after_relayout, first_recovering, is_memory as is_no_relayout, is_recovering, made_of, with_layout, with_layout_unless}
use Rattle.pn_region.specs.Events.{AllLeadTo, IsAdoption, relayout, IsHonestCopy, AreHonestCopies, start_events}
use Rattle.pn_region.specs.Laws.{AreFaithful}
use Rattle.pn_region.specs.Reads.{AllServe}
use Rattle.pn_region.specs.declared.fault.RelayoutFault.{RelayoutFault}
use Rattle.pn_region.specs.declared.fault.RelayoutFault.TheVariants.{StillRecovering}
use Rattle.pn_region.proofs.FaithfulEvents.{given_is_honest}
use Rattle.pn_region.proofs.Relaying.{relays, same_records}
use Rattle.pn_region.proofs.Starting.{later_faithful, started_is}
use Rattle.pn_region.specs.declared.fault.AdvanceFault.TheVariants as advance
use Rattle.pn_live.specs.LiveRegions.{StopsStart, StopsAt}
use Rattle.pn_live.specs.declared.fault.StartFault.{StartFault}
use Rattle.pn_live.specs.declared.fault.StartFault.TheVariants.{Adopt, Advance, Open}
use Rattle.pn_live.proofs.Adopting.{StopsOnly, all_adopted}
use Rattle.pn_serve.specs.Copies.{NoRefusal, StopsOpen, cut_fault, start_fault, AreRecut, IsShortAt, StopsGiving, copies_from}
use Rattle.pn_serve.specs.declared.copies.fault.CopiesFault.{CopiesFault}

-- Why a live region does not start from copies.

-- the copies are those of no layout
pub cut_stops : (copies ordered : List TabletCopyValue) (fault : CutFault) → IsPermutation copies ordered → IsSortedByKey (λ (copy : TabletCopyValue). copy.range.0) (option_cmp bytes_cmp) ordered
    → (fault ≢ cut.Memory → layout_with (map (λ (copy : TabletCopyValue). copy.range) ordered) ≡ Err fault) → StopsOpen copies (cut_fault fault)
cut_stops copies ordered cut.TooMany same order exact = record { ordered = ordered; same = same; order = order; fault_is = exact (λ is. cc) }
cut_stops copies ordered (cut.NoCopy key) same order exact = record { ordered = ordered; same = same; order = order; fault_is = exact (λ is. cc) }
cut_stops copies ordered (cut.TwoCopies key) same order exact = record { ordered = ordered; same = same; order = order; fault_is = exact (λ is. cc) }
cut_stops copies ordered cut.Memory same order exact = tt

never : (fault : OpFault) → fault ≢ adopt.Memory → StopsOnly (Adopt fault) → ⊥
never fault other (inl is) = other (cc)
never fault other (inr (inl is)) = cc
never fault other (inr (inr is)) = cc

-- no copy of a tablet is refused
pub not_refused : (ordered : List TabletCopyValue) (bounds : Bounds) (fault : StartFault) → map (λ (copy : TabletCopyValue). copy.range) ordered ≡ ranges bounds
    → StopsStart ordered (new_region bounds) fault → NoRefusal fault
not_refused ordered bounds (Open fault) own stops = tt
not_refused ordered bounds (Adopt adopt.WrongRange) own stops = never adopt.WrongRange (λ is. cc) (all_adopted ordered bounds (Adopt adopt.WrongRange) own stops)
not_refused ordered bounds (Adopt (adopt.TooOld stream has needs)) own stops = never (adopt.TooOld stream has needs) (λ is. cc) (all_adopted ordered bounds (Adopt (adopt.TooOld stream has needs)) own stops)
not_refused ordered bounds (Adopt adopt.Memory) own stops = tt
not_refused ordered bounds (Advance fault) own stops = tt

-- the region of a layout does not start
pub start_stops : (copies ordered : List TabletCopyValue) (bounds : Bounds) (fault : StartFault) → IsPermutation copies ordered → IsLayout bounds
    → map (λ (copy : TabletCopyValue). copy.range) ordered ≡ ranges bounds → StopsStart ordered (new_region bounds) fault → StopsOpen copies (start_fault fault)
start_stops copies ordered bounds (Advance advance.TooManyStreams) same lawful own stops =
    record { ordered = ordered; same = same; bounds = bounds; lawful = lawful; own = own; stops = stops }
start_stops copies ordered bounds (Advance advance.Memory) same lawful own stops = tt
start_stops copies ordered bounds (Open fault) same lawful own stops = tt
start_stops copies ordered bounds (Adopt fault) same lawful own stops = tt

-- Regions that start from copies without being served, and what they give in another layout.

-- wherever the copies that are left lead from here, all copies lead from the start
abbrev pub LeadOn : List TabletCopyValue → RegionValue → List TabletCopyValue → RegionValue → Type 0
LeadOn left region all start = (new : RegionValue) → AllLeadTo (start_events left) region new → AllLeadTo (start_events all) start new

-- wherever the copies that are left stop from here, all copies stop from the start
abbrev pub StopOn : List TabletCopyValue → RegionValue → List TabletCopyValue → RegionValue → Type 0
StopOn left region all start = (fault : StartFault) → StopsAt left region fault → StopsAt all start fault

-- one copy more is adopted
pub one_more : (copy : TabletCopyValue) (left all : List TabletCopyValue) (region after start : RegionValue) → IsAdoption copy region after → LeadOn (copy ∷ left) region all start → LeadOn left after all start
one_more copy left all region after start leads on new lead = on new (after, leads, lead)

-- once none is left, the marks advance
pub at_last : (all : List TabletCopyValue) (region after start : RegionValue) → after_advance region ≡ Ok after → LeadOn [] region all start → AllLeadTo (start_events all) start after
at_last all region after start advances on = on after (after, advances, refl)

-- after a copy, or its refusal
abbrev StopsBy : List TabletCopyValue → StartFault → Result (ℕ × RegionValue) OpFault → Type 0
StopsBy left fault right = MatchResult right (λ taken. (fault ≡ Adopt adopt.Memory) ⊎ StopsAt left taken.1 fault) (λ refusal. fault ≡ Adopt refusal)

pub one_stop : (copy : TabletCopyValue) (left all : List TabletCopyValue) (region after start : RegionValue) → IsAdoption copy region after → StopOn (copy ∷ left) region all start → StopOn left after all start
one_stop copy left all region after start leads on fault stops = on fault (subst (StopsBy left fault) (sym leads.adopted) (inr stops))

-- a copy that is refused stops there
pub not_adopted : (copy : TabletCopyValue) (left : List TabletCopyValue) (region : RegionValue) (fault : OpFault) → Refuses is_memory fault (after_adoption region copy) → StopsAt (copy ∷ left) region (Adopt fault)
not_adopted copy left region fault is = by_fault fault (after_adoption region copy) is where
  refused : (fault : OpFault) (right : Result (ℕ × RegionValue) OpFault) → right ≡ Err fault → StopsBy left (Adopt fault) right
  refused fault (Ok taken) is = cc
  refused fault (Err refusal) is =
      let same : refusal ≡ fault = cc in
      ap Adopt (sym same)

  by_fault : (fault : OpFault) (right : Result (ℕ × RegionValue) OpFault) → Refuses is_memory fault right → StopsBy left (Adopt fault) right
  by_fault adopt.Memory (Ok taken) is = inl refl
  by_fault adopt.Memory (Err refusal) is = cc
  by_fault adopt.WrongRange right is = refused adopt.WrongRange right is
  by_fault (adopt.TooOld stream has needs) right is = refused (adopt.TooOld stream has needs) right is

-- ---- a region that serves changes its layout

one_more_than : (n : ℕ) → 1 + n ≡ suc n
one_more_than n = omega arith

none_recovers : (ts : List TabletStateValue) → AllByRecursion (λ (t : TabletStateValue). t.status ≡ Serving) ts → position_or_len (λ (t : TabletStateValue). is_recovering t.status) ts ≡ length ts
none_recovers [] serve = refl
none_recovers (t ∷ ts) serve =
    ap (λ (status : Status). cond (not (is_recovering status)) (1 + position_or_len (λ (u : TabletStateValue). is_recovering u.status) ts) 0) serve.0
    ∙ ap (λ (n : ℕ). 1 + n) (none_recovers ts serve.1)
    ∙ one_more_than (length ts)

not_below : (n m : ℕ) → n ≡ m → nat_lt n m ≡ false
not_below n m same = grind (arith, same, nat_tests)

none_first : (ts : List TabletStateValue) → AllByRecursion (λ (t : TabletStateValue). t.status ≡ Serving) ts → first_recovering ts ≡ None
none_first ts serve =
    let first = position_or_len (λ (t : TabletStateValue). is_recovering t.status) ts in
    ap (λ (below : Bool). cond below (Some first) None) (not_below first (length ts) (none_recovers ts serve))

-- a region that serves is not refused another layout for a tablet that recovers
pub relays_always : (region : RegionValue) (bounds : Bounds) (n : ℕ) → AllServe region → Refuses is_no_relayout (StillRecovering n) (after_relayout region bounds) → ⊥
relays_always region bounds n serve refused =
    differ (sym (ap (with_layout_unless region bounds) (none_first region.tablets serve)) ∙ refused)
  where
    differ : ◌≡◌ {A = Result RegionValue RelayoutFault} (Ok (with_layout region bounds)) (Err (StillRecovering n)) → ⊥
    differ same = cc

-- ---- what the tablets of a region give

taken_more : (ts : List TabletStateValue) (n : ℕ) (t : TabletStateValue) → slice_get ts n ≡ Some t → take (n + 1) ts ≡ take n ts ++ t ∷ []
taken_more ts n t there = sym (taken_next ts n) ∙ ap (λ (found : Option TabletStateValue). take n ts ++ option_to_list found) there

-- one tablet more gives its copy
pub given_more : (ts : List TabletStateValue) (n : ℕ) (copies : List TabletCopyValue) (copy : TabletCopyValue) → copies_from (take n ts) ≡ map Ok copies
    → IsSomeAnd (slice_get ts n) (λ t. copy_of t [] ≡ Ok copy) → copies_from (take (n + 1) ts) ≡ map Ok (copies ++ copy ∷ [])
given_more ts n copies copy so is = by_found (slice_get ts n) refl is where
  by_found : (found : Option TabletStateValue) → slice_get ts n ≡ found → IsSomeAnd found (λ t. copy_of t [] ≡ Ok copy) → copies_from (take (n + 1) ts) ≡ map Ok (copies ++ copy ∷ [])
  by_found None there is = absurd is
  by_found (Some t) there is =
      ap copies_from (taken_more ts n t there)
      ∙ map-append (λ (u : TabletStateValue). copy_of u []) (take n ts) (t ∷ [])
      ∙ ap₂ (λ (one more : List (Result TabletCopyValue CopyFault)). one ++ more) so (ap (λ (r : Result TabletCopyValue CopyFault). r ∷ []) is)
      ∙ sym (map-append Ok copies (copy ∷ []))

-- the first tablet that gives no copy
pub stops_giving : (ts : List TabletStateValue) (n : ℕ) (copies : List TabletCopyValue) (fault : CopiesFault) → copies_from (take n ts) ≡ map Ok copies → length copies ≡ n
    → IsSomeAnd (slice_get ts n) (λ t. IsShortAt n (copy_of t []) fault) → StopsGiving ts fault
stops_giving ts n copies fault so count is = by_found (slice_get ts n) refl is where
  later : List (Result TabletCopyValue CopyFault)
  later = copies_from (drop (n + 1) ts)

  by_found : (found : Option TabletStateValue) → slice_get ts n ≡ found → IsSomeAnd found (λ t. IsShortAt n (copy_of t []) fault) → StopsGiving ts fault
  by_found None there is = absurd is
  by_found (Some t) there is = record {
    before = copies;
    short = copy_of t [];
    later = later;
    given =
        ap copies_from (sym (take-append-drop (n + 1) ts))
        ∙ map-append (λ (u : TabletStateValue). copy_of u []) (take (n + 1) ts) (drop (n + 1) ts)
        ∙ ap (λ (some : List TabletStateValue). copies_from some ++ later) (taken_more ts n t there)
        ∙ ap (λ (some : List (Result TabletCopyValue CopyFault)). some ++ later) (map-append (λ (u : TabletStateValue). copy_of u []) (take n ts) (t ∷ []))
        ∙ append_assoc (copies_from (take n ts)) (copy_of t [] ∷ []) later
        ∙ ap (λ (some : List (Result TabletCopyValue CopyFault)). some ++ copy_of t [] ∷ later) so;
    is_short = subst (λ (k : ℕ). IsShortAt k (copy_of t []) fault) (sym count) is;
  }

-- a copy of the tablet's range and cells
record IsOf (t : TabletStateValue) (copy : TabletCopyValue) : Type 0 where
  pub range : copy.range ≡ t.range
  pub cells : copy.cells ≡ t.cells

of_by : (t : TabletStateValue) (short : Option Shortfall) (copy : TabletCopyValue) → unless_behind short (record { range = t.range; marks = t.cover; cells = t.cells }) ≡ Ok copy → IsOf t copy
of_by t None copy is =
    let same : record { range = t.range; marks = t.cover; cells = t.cells } ≡ copy = cc in
    subst (IsOf t) same (record { range = refl; cells = refl })
of_by t (Some short) copy is = cc

of_status : (t : TabletStateValue) (status : Status) (copy : TabletCopyValue) → copy_from status t [] ≡ Ok copy → IsOf t copy
of_status t Serving copy is = of_by t (copy_shortfall t []) copy is
of_status t (Recovering need) copy is = cc

is_of : (t : TabletStateValue) (copy : TabletCopyValue) → copy_of t [] ≡ Ok copy → IsOf t copy
is_of t copy is = of_status t t.status copy is

ranges_given : (ts : List TabletStateValue) (copies : List TabletCopyValue) → copies_from ts ≡ map Ok copies → map (λ (copy : TabletCopyValue). copy.range) copies ≡ map (λ (t : TabletStateValue). t.range) ts
ranges_given [] [] is = refl
ranges_given [] (copy ∷ copies) is = cc
ranges_given (t ∷ ts) [] is = cc
ranges_given (t ∷ ts) (copy ∷ copies) is =
    let head : copy_of t [] ≡ Ok copy = cc in
    let tail : copies_from ts ≡ map Ok copies = cc in
    ap₂ (λ (r : Ends) (rs : List Ends). r ∷ rs) (is_of t copy head).range (ranges_given ts copies tail)

cells_given : (ts : List TabletStateValue) (copies : List TabletCopyValue) → copies_from ts ≡ map Ok copies → flat_map (λ (copy : TabletCopyValue). copy.cells) copies ≡ flat_map (λ (t : TabletStateValue). t.cells) ts
cells_given [] [] is = refl
cells_given [] (copy ∷ copies) is = cc
cells_given (t ∷ ts) [] is = cc
cells_given (t ∷ ts) (copy ∷ copies) is =
    let head : copy_of t [] ≡ Ok copy = cc in
    let tail : copies_from ts ≡ map Ok copies = cc in
    ap₂ (λ one more. one ++ more) (is_of t copy head).cells (cells_given ts copies tail)

honest_given : (broker : BrokerRecord) (ts : List TabletStateValue) (copies : List TabletCopyValue) → AreFaithful broker ts → copies_from ts ≡ map Ok copies → AreHonestCopies broker copies
honest_given broker [] [] faithful is = tt
honest_given broker [] (copy ∷ copies) faithful is = cc
honest_given broker (t ∷ ts) [] faithful is = cc
honest_given broker (t ∷ ts) (copy ∷ copies) faithful is =
    let head : copy_of t [] ≡ Ok copy = cc in
    let tail : copies_from ts ≡ map Ok copies = cc in
    (given_is_honest broker t [] copy faithful.0 head, honest_given broker ts copies faithful.1 tail)

made_ranges : (ts : List TabletStateValue) (rs : List Ends) → map (λ (t : TabletStateValue). t.range) (map (made_of ts) rs) ≡ rs
made_ranges ts [] = refl
made_ranges ts (r ∷ rs) = ap (λ (more : List Ends). r ∷ more) (made_ranges ts rs)

-- honest in one order, honest in another
honest_ordered : (broker : BrokerRecord) (copies ordered : List TabletCopyValue) → IsPermutation copies ordered → AreHonestCopies broker copies → AreHonestCopies broker ordered
honest_ordered broker copies ordered same honest =
    recursion_from_All (IsHonestCopy broker) ordered (All-permutation (IsHonestCopy broker) copies ordered same (All-from_recursion (IsHonestCopy broker) copies honest))

module _ (copies recut : List TabletCopyValue) (bounds : Bounds) (is : AreRecut copies bounds recut) where
  pub recut_ranges : map (λ (copy : TabletCopyValue). copy.range) recut ≡ ranges bounds
  recut_ranges =
      ranges_given is.given.relaid.tablets recut is.given.given
      ∙ ap (λ (r : RegionValue). map (λ (t : TabletStateValue). t.range) r.tablets) (relays is.started is.given.relaid bounds is.given.relays).is
      ∙ made_ranges is.started.tablets (ranges bounds)

  pub recut_records : IsLayout bounds → flat_map (λ (copy : TabletCopyValue). copy.cells) recut ≡ all_cells is.started
  recut_records lawful =
      cells_given is.given.relaid.tablets recut is.given.given
      ∙ ap all_cells (relays is.started is.given.relaid bounds is.given.relays).is
      ∙ same_records is.started bounds lawful (started_is is.ordered is.own is.started is.starts)

  pub recut_honest : (broker : BrokerRecord) → IsLayout bounds → AreHonestCopies broker copies → AreHonestCopies broker recut
  recut_honest broker lawful honest =
      honest_given broker is.given.relaid.tablets recut
      (later_faithful broker is.ordered is.own (relayout bounds ∷ []) is.started is.given.relaid is.starts (honest_ordered broker copies is.ordered is.same honest)
      (is.given.relaid, record { lawful = lawful; relaid = is.given.relays }, refl) (tt, tt)) is.given.given
