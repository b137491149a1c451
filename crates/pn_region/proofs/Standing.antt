-- The tablet of a key has its cell, and what a view of a region reads by its looks.
use Rattle.std.proofs.Common.{◌≡◌, ℕ, zero, suc, ◌+◌, ◌<◌, ◌≤◌, true, false, List, [], ◌∷◌, length, Some, refl, sym, ap, ◌∙◌, arith, Bool, cond, map, Option, None, subst, IsTrue, ◌++◌, take, drop, Result, Ok, Err, IsOk}
use Rattle.std.specs.Prelude.{filter, IsErrOf}
use Rattle.std.proofs.lemmas.List.FromFn.{length-map-range_with_len, get_or-map-range_with_len}
use Rattle.std.proofs.lemmas.Option.{slice_get_read}
use Rattle.std.proofs.lemmas.List.{map-append, take-append-drop, take_all}
use Rattle.pn_json.specs.Answers.{ShowsUnless}
use Rattle.pn_tablet.proofs.LayoutFacts.{key_in_tablet, tablet_of_within}
use Rattle.pn_tablet.specs.declared.state.Status.{Status}
use Rattle.pn_scan.specs.Queries.{QueryValue}
use Rattle.pn_scan.specs.Pages.{Look, visited, cells_in, refusal_by, PageValue, unless}
use Rattle.pn_scan.specs.Views.{IsStateOf, IsFoundIn, Looks, IsGet, cells_of_keys, IsScan}
use Rattle.pn_scan.specs.declared.view.ScanFault.{ScanFault}
use Rattle.pn_scan.proofs.Settled.{Stand, page_settled, page_begun}
use Rattle.pn_scan.specs.declared.view.ScanFault.TheVariants as fault
use Rattle.pn_region.proofs.Common.{slice_get, IsSome, find, Positions, bytes_cmp, Bounds, tablet_of, tablet_ends, Ends, in_range, TabletStateValue, ranges, RegionValue, AreTabletsOf, IsRegion, all_cells, AllByRecursion, range_with_len, option_or, lie_in, Serving, Recovering, refusal, first_refusal, IsTabletOf, look_for, all_looks, CellValue, first_page, get_in, page_in}
use Rattle.pn_region.proofs.Pieces.{Outside, Apart, ranges_apart, cells_of, none_outside, found_after, found_before, none_there}
use Rattle.pn_region.proofs.RoundSteps.{tablet_count}
use Rattle.pn_region.specs.Reads.{IsThere, BeginsToRead}

-- The tablet of a key has its cell.

-- a key of one of the others is not in the range
outside_of : (range : Ends) (others : List Ends) (n : ℕ) (other : Ends) (key : List ℕ) → Outside range others → slice_get others n ≡ Some other → in_range other key ≡ true → in_range range key ≡ false
outside_of range [] n other key outside there lies = cc
outside_of range (first ∷ others) zero other key outside there lies =
    let same : first ≡ other = cc in
    outside.0 key (ap (λ (ends : Ends). in_range ends key) same ∙ lies)
outside_of range (first ∷ others) (suc n) other key outside there lies = outside_of range others n other key outside.1 there lies

-- the tablet of a range that has the key has the cell that is found in all
found_there : (marks : Positions) (key : List ℕ) (rs : List Ends) (ts : List TabletStateValue) (n : ℕ) (r : Ends) (t : TabletStateValue) → Apart rs → AreTabletsOf marks rs ts
    → slice_get rs n ≡ Some r → in_range r key ≡ true → slice_get ts n ≡ Some t → find bytes_cmp key t.cells ≡ find bytes_cmp key (cells_of ts)
found_there marks key [] [] n r t apart are at lies there = cc
found_there marks key [] (u ∷ ts) n r t apart are at lies there = absurd are
found_there marks key (q ∷ rs) [] n r t apart are at lies there = absurd are
found_there marks key (q ∷ rs) (u ∷ ts) zero r t apart are at lies there =
    let same : q ≡ r = cc in
    let same_tablet : t ≡ u = cc in
    ap (λ (tablet : TabletStateValue). find bytes_cmp key tablet.cells) same_tablet
    ∙ sym (found_before key u.cells (cells_of ts) (none_there marks q rs ts apart.0 are.1 key (ap (λ (ends : Ends). in_range ends key) same ∙ lies)))
found_there marks key (q ∷ rs) (u ∷ ts) (suc n) r t apart are at lies there =
    found_there marks key rs ts n r t apart.1 are.1 at lies there
    ∙ sym (found_after key u.cells (cells_of ts) (none_outside q u.cells key are.0.inside (outside_of q rs n r key apart.0 at lies)))

pub range_at : (bounds : Bounds) (n : ℕ) → n ≤ length bounds → slice_get (ranges bounds) n ≡ Some (tablet_ends bounds n)
range_at bounds n within =
    slice_get_read (ranges bounds) (length bounds + 1) n (tablet_ends bounds n) (sym (length-map-range_with_len (tablet_ends bounds) 0 (length bounds + 1)))
    (omega (arith, within)) (sym (get_or-map-range_with_len (tablet_ends bounds) 0 (length bounds + 1) n n (tablet_ends bounds n) (omega (arith, within)) (omega arith)))

pub has_its_cell : (region : RegionValue) (key : List ℕ) (tablet : TabletStateValue) → IsRegion region → slice_get region.tablets (tablet_of region.layout key) ≡ Some tablet
    → find bytes_cmp key tablet.cells ≡ find bytes_cmp key (all_cells region)
has_its_cell region key tablet is there =
    let n = tablet_of region.layout key in
    found_there region.marks key (ranges region.layout) region.tablets n (tablet_ends region.layout n) tablet (ranges_apart region.layout is.lawful) is.tablets
    (range_at region.layout n (tablet_of_within region.layout key)) (key_in_tablet region.layout key is.lawful.rising) there

pub some_within : (ts : List TabletStateValue) (n : ℕ) → n < length ts → IsSome (slice_get ts n)
some_within [] n within = absurd (omega (arith, within))
some_within (t ∷ ts) zero within = refl
some_within (t ∷ ts) (suc n) within = some_within ts n (omega (arith, within))

-- there is such a tablet
pub has_tablet : (region : RegionValue) (key : List ℕ) → IsRegion region → IsSome (slice_get region.tablets (tablet_of region.layout key))
has_tablet region key is =
    some_within region.tablets (tablet_of region.layout key)
    (omega (arith, tablet_count region.marks region.layout region.tablets is.tablets, tablet_of_within region.layout key))

-- The tablets of a region, found in their present states.

state_from : (marks : Positions) (rs : List Ends) (ts : List TabletStateValue) (n : ℕ) (r : Ends) (t : TabletStateValue) → AreTabletsOf marks rs ts → slice_get rs n ≡ Some r → slice_get ts n ≡ Some t → IsTabletOf marks r t
state_from marks [] [] n r t are at there = cc
state_from marks [] (u ∷ ts) n r t are at there = absurd are
state_from marks (q ∷ rs) [] n r t are at there = absurd are
state_from marks (q ∷ rs) (u ∷ ts) zero r t are at there =
    let same : q ≡ r = cc in
    let same_tablet : u ≡ t = cc in
    subst (λ (ends : Ends). IsTabletOf marks ends t) same (subst (IsTabletOf marks q) same_tablet are.0)
state_from marks (q ∷ rs) (u ∷ ts) (suc n) r t are at there = state_from marks rs ts n r t are.1 at there

-- no tablet that exists answers that an entry was refused
abbrev Entered : Look → Type 0
Entered look = IsSome look.1

status_entered : (n : ℕ) (status : Status) → refusal_by n status ≡ Some fault.NoEntry → ⊥
status_entered n Serving refused = cc
status_entered n (Recovering need) refused = cc

look_entered : (n : ℕ) (found : Option TabletStateValue) → IsSome found → refusal (n, found) ≡ Some fault.NoEntry → ⊥
look_entered n None there refused = cc
look_entered n (Some state) there refused = status_entered n state.status refused

never : (looks : List Look) → AllByRecursion Entered looks → first_refusal looks ≡ Some fault.NoEntry → ⊥
never [] all refused = cc
never (look ∷ looks) all refused =
    elim (refusal look) as (λ o. (o ≡ Some fault.NoEntry → ⊥) → option_or o (first_refusal looks) ≡ Some fault.NoEntry → ⊥) [
      | None ↦ λ entered later. never looks all.1 later
      | Some first ↦ λ entered here. entered here
    ] (look_entered look.0 look.1 all.0) refused

entered_kept : (p : Look → Bool) (looks : List Look) → AllByRecursion Entered looks → AllByRecursion Entered (filter p looks)
entered_kept p [] all = tt
entered_kept p (look ∷ looks) all =
    elim (p look) as (λ b. AllByRecursion Entered (cond b (look ∷ filter p looks) (filter p looks))) [
      | true ↦ (all.0, entered_kept p looks all.1)
      | false ↦ entered_kept p looks all.1
    ]

module _ (region : RegionValue) (is : IsRegion region) where
  -- a tablet is that of its number
  pub state_at : (n : ℕ) (t : TabletStateValue) → n ≤ length region.layout → slice_get region.tablets n ≡ Some t → IsStateOf region.layout n t
  state_at n t within there =
      let tablet = state_from region.marks (ranges region.layout) region.tablets n _ t is.tablets (range_at region.layout n within) there in
      record { range = tablet.range; inside = subst (λ (ends : Ends). IsTrue (lie_in ends t.cells)) (sym tablet.range) tablet.inside; spelled = tablet.spelled }

  found_at : (n : ℕ) (found : Option TabletStateValue) → n ≤ length region.layout → slice_get region.tablets n ≡ found → IsFoundIn region.layout (n, found)
  found_at n None within there = tt
  found_at n (Some t) within there = state_at n t within there

  abbrev looks_from : ℕ → ℕ → List Look
  looks_from a n = map (λ tablet. (tablet, slice_get region.tablets tablet)) (range_with_len a n)

  found_from : (a n : ℕ) → a + n ≤ length region.layout + 1 → AllByRecursion (IsFoundIn region.layout) (looks_from a n)
  found_from a zero within = tt
  found_from a (suc n) within = (found_at a (slice_get region.tablets a) (omega (arith, within)) refl, found_from (a + 1) n (omega (arith, within)))

  pub all_found : AllByRecursion (IsFoundIn region.layout) (all_looks region)
  all_found = found_from 0 (length region.layout + 1) (omega arith)

  some_at : (n : ℕ) → n ≤ length region.layout → IsSome (slice_get region.tablets n)
  some_at n within = some_within region.tablets n (omega (arith, within, tablet_count region.marks region.layout region.tablets is.tablets))

  entered_from : (a n : ℕ) → a + n ≤ length region.layout + 1 → AllByRecursion Entered (looks_from a n)
  entered_from a zero within = tt
  entered_from a (suc n) within = (some_at a (omega (arith, within)), entered_from (a + 1) n (omega (arith, within)))

  entered_keys : (keys : List (List ℕ)) → AllByRecursion Entered (map (look_for region) keys)
  entered_keys [] = tt
  entered_keys (key ∷ keys) = (has_tablet region key is, entered_keys keys)

  pub keys_entered : (keys : List (List ℕ)) → first_refusal (map (look_for region) keys) ≡ Some fault.NoEntry → ⊥
  keys_entered keys refused = never (map (look_for region) keys) (entered_keys keys) refused

  pub page_entered : (query : QueryValue) → first_refusal (visited region.layout query (all_looks region)) ≡ Some fault.NoEntry → ⊥
  page_entered query refused =
      never (visited region.layout query (all_looks region))
      (entered_kept _ _ (entered_kept _ (all_looks region) (entered_from 0 (length region.layout + 1) (omega arith)))) refused

-- What a view of a region reads, by its looks.

err_value : {A : Type 0} (o : Option ScanFault) (a : A) (why : ScanFault) → unless o a ≡ Err why → o ≡ Some why
err_value None a why is = cc
err_value (Some w) a why is = cc

-- a refusal among the first looks is the first of all
first_of : (seen more : List Look) (why : ScanFault) → first_refusal seen ≡ Some why → first_refusal (seen ++ more) ≡ Some why
first_of [] more why refused = cc
first_of (look ∷ seen) more why refused =
    elim (refusal look) as (λ o. option_or o (first_refusal seen) ≡ Some why → option_or o (first_refusal (seen ++ more)) ≡ Some why) [
      | None ↦ λ later. first_of seen more why later
      | Some first ↦ λ here. here
    ] refused

got_each : (region : RegionValue) (keys : List (List ℕ)) → cells_of_keys keys (map (look_for region) keys) ≡ map (λ key. find bytes_cmp key (cells_in (look_for region key).1)) keys
got_each region [] = refl
got_each region (key ∷ keys) = ap (λ (l : List (Option CellValue)). find bytes_cmp key (cells_in (look_for region key).1) ∷ l) (got_each region keys)

-- looks into the tablets of keys, in their present states
for_keys : (region : RegionValue) (seen : List Look) (keys : List (List ℕ)) → Stand region.tablets seen → map (λ look. look.0) seen ≡ map (tablet_of region.layout) keys → seen ≡ map (look_for region) keys
for_keys region [] [] stand order = refl
for_keys region [] (key ∷ keys) stand order = cc
for_keys region (look ∷ seen) [] stand order = cc
for_keys region (look ∷ seen) (key ∷ keys) stand order =
    let first : look.0 ≡ tablet_of region.layout key = cc in
    let others : map (λ (l : Look). l.0) seen ≡ map (tablet_of region.layout) keys = cc in
    λ i. (first i, (sym stand.0 ∙ ap (slice_get region.tablets) first) i) ∷ for_keys region seen keys stand.1 others i

-- what a get answered, by looks into the tablets of the first keys
module _ (region : RegionValue) (keys : List (List ℕ)) (seen : List Look) (stands : seen ≡ map (look_for region) (take (length seen) keys)) where
  same_answer : length seen ≡ length keys → get_in region keys ≡ unless (first_refusal seen) (cells_of_keys keys seen)
  same_answer whole =
      let all : seen ≡ map (look_for region) keys = stands ∙ ap (map (look_for region)) (ap (λ n. take n keys) whole ∙ take_all (length keys) keys (omega arith)) in
      let got = ap (cells_of_keys keys) all ∙ got_each region keys in
      λ i. unless (first_refusal (sym all i)) (sym got i)

  all_got : (cells : List (Option CellValue)) → length seen ≡ length keys → unless (first_refusal seen) (cells_of_keys keys seen) ≡ Ok cells → get_in region keys ≡ Ok cells
  all_got cells whole right = same_answer whole ∙ right

  all_read : length seen ≡ length keys → IsOk (unless (first_refusal seen) (cells_of_keys keys seen)) → IsOk (get_in region keys)
  all_read whole right = subst (λ (answer : Result (List (Option CellValue)) ScanFault). IsOk answer) (sym (same_answer whole)) right

  get_refused : (why : ScanFault) → unless (first_refusal seen) (cells_of_keys keys seen) ≡ Err why → get_in region keys ≡ Err why
  get_refused why right =
      let more = map (look_for region) (drop (length seen) keys) in
      let parts : map (look_for region) keys ≡ seen ++ more =
      ap (map (look_for region)) (sym (take-append-drop (length seen) keys)) ∙ map-append (look_for region) (take (length seen) keys) (drop (length seen) keys) ∙ ap (λ (l : List Look). l ++ more) (sym stands) in
      ap (λ (o : Option ScanFault). unless o (map (λ key. find bytes_cmp key (cells_in (look_for region key).1)) keys))
      (ap first_refusal parts ∙ first_of seen more why (err_value (first_refusal seen) (cells_of_keys keys seen) why right))

module _ {V : Type 0} (region_of : V → RegionValue) {looks : V → Look → V → Type 0} (steps : (old new : V) (look : Look) → looks old look new → (new ≡ old) × IsThere (region_of old) look) where
  -- what was found is the state there
  all_stand : (old new : V) (seen : List Look) → Looks looks old seen new → Stand (region_of old).tablets seen
  all_stand old new [] looked = tt
  all_stand old new (look ∷ seen) looked =
      let step = steps old looked.0 look looked.1 in
      (step.1.stands, subst (λ (v : V). Stand (region_of v).tablets seen) step.0 (all_stand looked.0 new seen looked.2))

  module _ {A : Type 0} (old new : V) (seen : List Look) where
    get_stands : (keys : List (List ℕ)) (show : A → List (Option CellValue)) (answer : Result A ScanFault) → IsGet looks (region_of old).layout keys old new show answer seen → seen ≡ map (look_for (region_of old)) (take (length seen) keys)
    get_stands keys show answer got = for_keys (region_of old) seen (take (length seen) keys) (all_stand old new seen got.looked) got.order

    pub get_tells : (keys : List (List ℕ)) (show : A → List (Option CellValue)) (answer : Result A ScanFault) → IsGet looks (region_of old).layout keys old new show answer seen → ShowsUnless fault.Memory show answer (get_in (region_of old) keys)
    get_tells keys show (Ok cells) got = all_got (region_of old) keys seen (get_stands keys show (Ok cells) got) (show cells) got.whole got.answers
    get_tells keys show (Err fault.Memory) got = λ other. absurd (other refl)
    get_tells keys show (Err (fault.Recovering t)) got = λ other. get_refused (region_of old) keys seen (get_stands keys show (Err (fault.Recovering t)) got) (fault.Recovering t) got.answers
    get_tells keys show (Err (fault.Behind has)) got = λ other. get_refused (region_of old) keys seen (get_stands keys show (Err (fault.Behind has)) got) (fault.Behind has) got.answers
    get_tells keys show (Err fault.NoEntry) got = λ other. get_refused (region_of old) keys seen (get_stands keys show (Err fault.NoEntry) got) fault.NoEntry got.answers

    -- out of memory, it had read every key
    pub get_read : (keys : List (List ℕ)) (show : A → List (Option CellValue)) (answer : Result A ScanFault) → IsGet looks (region_of old).layout keys old new show answer seen → (IsErrOf answer fault.Memory → length seen ≡ length keys)
        → IsErrOf answer fault.Memory → IsOk (get_in (region_of old) keys)
    get_read keys show answer got whole is =
        let failed = subst (λ (a : Result A ScanFault). IsGet looks (region_of old).layout keys old new show a seen) is got in
        all_read (region_of old) keys seen (get_stands keys show (Err fault.Memory) failed) (whole is) failed.answers

    pub page_tells : IsRegion (region_of old) → (query : QueryValue) (show : A → PageValue) (answer : Result A ScanFault) → IsScan looks (region_of old).layout query old new show answer (first_page query) seen → ShowsUnless fault.Memory show answer (page_in (region_of old) query)
    page_tells is query show answer scan =
        page_settled (region_of old).tablets looks (region_of old).layout query old new show answer seen is.lawful (all_found (region_of old) is) (all_stand old new seen scan.looked) scan

    pub page_begins : IsRegion (region_of old) → (query : QueryValue) (show : A → PageValue) (answer : Result A ScanFault) → IsScan looks (region_of old).layout query old new show answer (first_page query) seen
        → IsErrOf answer fault.Memory → BeginsToRead (region_of old) query
    page_begins is query show answer scan =
        page_begun (region_of old).tablets looks (region_of old).layout query old new show answer seen is.lawful (all_stand old new seen scan.looked) scan
