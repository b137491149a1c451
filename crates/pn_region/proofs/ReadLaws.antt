-- The laws of reads of regions, and of the pages of an unchanged one.
use Rattle.std.proofs.Common.{◌≡◌, ◌≢◌, ℕ, zero, suc, ◌+◌, true, false, cond, List, [], ◌∷◌, ◌++◌, length, map, slice_get, Option, Some, None, Ok, Err, refl, sym, ap, ◌∙◌, arith, zero-add, ◌<◌, subst, append-nil, IsTrue}
use Rattle.pn_join.proofs.Rising.{Rising, Rising-from_sorted}
use Rattle.pn_json.specs.Answers.{◌>>=◌}
use Rattle.pn_tablet.specs.Steps.{version_at}
use Rattle.pn_tablet.specs.declared.state.Status.{Status}
use Rattle.pn_scan.specs.Queries.{QueryValue}
use Rattle.pn_scan.specs.Shown.{shown_rows}
use Rattle.pn_scan.specs.Pages.{Look, cells_in, refusal_by, unless, PageValue}
use Rattle.pn_scan.specs.Views.{reaches, unless_behind, read_of, ArePages, left_by, rows_of, rows_left}
use Rattle.pn_scan.specs.declared.view.ScanFault.{ScanFault}
use Rattle.pn_scan.proofs.WalkLaws.{page_of_cells, IsCutFrom, all_walked, page_cut, walked, walk_ends, AllAfter, cut_rise}
use Rattle.pn_scan.specs.declared.view.ScanFault.TheVariants as fault
use Rattle.pn_region.specs.Reads.{read_in, IsAnswered, IsAnsweredOf, ArePagesOf}
use Rattle.pn_region.proofs.Common.{IsSome, AllByRecursion, flat_map, range_with_len, find, option_or, Entries, bytes_cmp, Stamp, CellValue, tablet_of, TabletStateValue, Serving, Recovering, refusal, first_refusal, first_page, RegionValue, IsRegion, all_cells, look_for, all_looks, get_in, page_in, AllServe, is_sorted}
use Rattle.pn_region.proofs.Standing.{has_tablet, has_its_cell, keys_entered, page_entered}
use Rattle.pn_region.proofs.RoundSteps.{tablet_count}
use Rattle.pn_region.proofs.Pieces.{cells_of}
use Rattle.pn_region.proofs.TakenImages.{all_rising}

-- The laws of reads of regions.

not_behind : (wanted : Option Stamp) (cell : Option CellValue) → unless_behind wanted cell ≢ Err fault.NoEntry
not_behind wanted cell =
    elim (reaches wanted (version_at cell)) as (λ b. cond b (Ok cell) (Err (fault.Behind (version_at cell))) ≢ Err fault.NoEntry) [
      | true ↦ λ is. cc
      | false ↦ λ is. cc
    ]

by_status : (key : List ℕ) (wanted : Option Stamp) (n : ℕ) (status : Status) (cells : Entries) → (unless (refusal_by n status) (find bytes_cmp key cells) >>= unless_behind wanted) ≢ Err fault.NoEntry
by_status key wanted n Serving cells is = not_behind wanted (find bytes_cmp key cells) is
by_status key wanted n (Recovering need) cells is = cc

-- a tablet that exists refuses no entry
pub read_entered : (key : List ℕ) (wanted : Option Stamp) (n : ℕ) (found : Option TabletStateValue) → IsSome found → read_of key wanted (n, found) ≢ Err fault.NoEntry
read_entered key wanted n None there is = cc
read_entered key wanted n (Some state) there is = by_status key wanted n state.status state.cells is

err_value : {A : Type 0} (o : Option ScanFault) (a : A) → unless o a ≡ Err fault.NoEntry → o ≡ Some fault.NoEntry
err_value None a is = cc
err_value (Some w) a is = cc

not_memory : fault.NoEntry ≢ fault.Memory
not_memory is = cc

pub no_read_entry : (region : RegionValue) (key : List ℕ) (wanted : Option Stamp) → IsRegion region → read_in region key wanted ≢ Err fault.NoEntry
no_read_entry region key wanted is = read_entered key wanted (tablet_of region.layout key) (slice_get region.tablets (tablet_of region.layout key)) (has_tablet region key is)

pub no_get_entry : (region : RegionValue) (keys : List (List ℕ)) → IsRegion region → get_in region keys ≢ Err fault.NoEntry
no_get_entry region keys is refused = keys_entered region is keys (err_value _ _ refused)

pub no_page_entry : (region : RegionValue) (query : QueryValue) → IsRegion region → page_in region query ≢ Err fault.NoEntry
no_page_entry region query is refused = page_entered region is query (err_value _ _ refused)

-- so is an answer that is the right one
pub get_entered : (region : RegionValue) (keys : List (List ℕ)) → IsRegion region → (fault.NoEntry ≢ fault.Memory → get_in region keys ≡ Err fault.NoEntry) → ⊥
get_entered region keys is right = no_get_entry region keys is (right not_memory)

pub scan_entered : (region : RegionValue) (query : QueryValue) → IsRegion region → (fault.NoEntry ≢ fault.Memory → page_in region query ≡ Err fault.NoEntry) → ⊥
scan_entered region query is right = no_page_entry region query is (right not_memory)

serving_at : (ts : List TabletStateValue) (n : ℕ) → AllByRecursion (λ tablet. tablet.status ≡ Serving) ts → IsSome (slice_get ts n) → (t : TabletStateValue) × (slice_get ts n ≡ Some t) × (t.status ≡ Serving)
serving_at [] n serve there = cc
serving_at (t ∷ ts) zero serve there = (t, refl, serve.0)
serving_at (t ∷ ts) (suc n) serve there = serving_at ts n serve.1 there

-- tablets in their order, each at its number
together_from : (get : ℕ → Option TabletStateValue) (a : ℕ) (ts : List TabletStateValue) → ((k : ℕ) → get (a + k) ≡ slice_get ts k) → flat_map (λ (look : Look). cells_in look.1) (map (λ n. (n, get n)) (range_with_len a (length ts))) ≡ cells_of ts
together_from get a [] at = refl
together_from get a (t ∷ ts) at =
    let start : a ≡ a + 0 = omega arith in
    let first : get a ≡ Some t = ap get start ∙ at 0 in
    let rest = together_from get (a + 1) ts (λ k. let e : (a + 1) + k ≡ a + suc k = omega arith in ap get e ∙ at (suc k)) in
    λ i. cells_in (first i) ++ rest i

none_from : (get : ℕ → Option TabletStateValue) (a : ℕ) (ts : List TabletStateValue) → ((k : ℕ) → get (a + k) ≡ slice_get ts k) → AllByRecursion (λ tablet. tablet.status ≡ Serving) ts → first_refusal (map (λ n. (n, get n)) (range_with_len a (length ts))) ≡ None
none_from get a [] at serve = refl
none_from get a (t ∷ ts) at serve =
    let start : a ≡ a + 0 = omega arith in
    let first : get a ≡ Some t = ap get start ∙ at 0 in
    let here : refusal (a, get a) ≡ None = ap (λ (found : Option TabletStateValue). refusal (a, found)) first ∙ ap (refusal_by a) serve.0 in
    let rest = none_from get (a + 1) ts (λ k. let e : (a + 1) + k ≡ a + suc k = omega arith in ap get e ∙ at (suc k)) serve.1 in
    λ i. option_or (here i) (rest i)

module _ (region : RegionValue) (is : IsRegion region) where
  count : length region.tablets ≡ length region.layout + 1
  count = tablet_count region.marks region.layout region.tablets is.tablets

  -- all looks find the cells of all tablets
  pub all_together : flat_map (λ (look : Look). cells_in look.1) (all_looks region) ≡ all_cells region
  all_together =
      ap (λ (n : ℕ). flat_map (λ (look : Look). cells_in look.1) (map (λ (tablet : ℕ). (tablet, slice_get region.tablets tablet)) (range_with_len 0 n))) (sym count)
      ∙ together_from (slice_get region.tablets) 0 region.tablets (λ k. ap (slice_get region.tablets) (zero-add k))

  module _ (serve : AllServe region) where
    pub none_recovering : first_refusal (all_looks region) ≡ None
    none_recovering =
        ap (λ (n : ℕ). first_refusal (map (λ (tablet : ℕ). (tablet, slice_get region.tablets tablet)) (range_with_len 0 n))) (sym count)
        ∙ none_from (slice_get region.tablets) 0 region.tablets (λ k. ap (slice_get region.tablets) (zero-add k)) serve

    -- what is found of a key's tablet
    cell_there : (key : List ℕ) → (refusal (look_for region key) ≡ None) × (find bytes_cmp key (cells_in (look_for region key).1) ≡ find bytes_cmp key (all_cells region))
    cell_there key =
        let n = tablet_of region.layout key in
        let there = serving_at region.tablets n serve (has_tablet region key is) in
        (ap (λ (found : Option TabletStateValue). refusal (n, found)) there.1 ∙ ap (refusal_by n) there.2, ap (λ (found : Option TabletStateValue). find bytes_cmp key (cells_in found)) there.1 ∙ has_its_cell region key there.0 is there.1)

    pub read_of_all : (key : List ℕ) (wanted : Option Stamp) → read_in region key wanted ≡ unless_behind wanted (find bytes_cmp key (all_cells region))
    read_of_all key wanted = let there = cell_there key in λ i. unless (there.0 i) (there.1 i) >>= unless_behind wanted

    none_of_keys : (keys : List (List ℕ)) → first_refusal (map (look_for region) keys) ≡ None
    none_of_keys [] = refl
    none_of_keys (key ∷ keys) = let there = cell_there key in λ i. option_or (there.0 i) (none_of_keys keys i)

    found_of_keys : (keys : List (List ℕ)) → map (λ key. find bytes_cmp key (cells_in (look_for region key).1)) keys ≡ map (λ key. find bytes_cmp key (all_cells region)) keys
    found_of_keys [] = refl
    found_of_keys (key ∷ keys) = let there = cell_there key in λ i. there.1 i ∷ found_of_keys keys i

    pub get_of_all : (keys : List (List ℕ)) → get_in region keys ≡ Ok (map (λ key. find bytes_cmp key (all_cells region)) keys)
    get_of_all keys = λ i. unless (none_of_keys keys i) (found_of_keys keys i)

    pub page_of_all : (query : QueryValue) → page_in region query ≡ Ok (first_page query (shown_rows query (all_cells region)))
    page_of_all query =
        page_of_cells region.layout query (all_looks region) none_recovering
        ∙ ap (λ (cells : Entries). Ok (first_page query (shown_rows query cells))) all_together

-- The pages of an unchanged region.

module _ (region : RegionValue) (is : IsRegion region) where
  rises : Rising bytes_cmp (flat_map (λ (look : Look). cells_in look.1) (all_looks region))
  rises = Rising-from_sorted bytes_cmp _ (subst (λ (cells : Entries). IsTrue (is_sorted bytes_cmp cells)) (sym (all_together region is)) (all_rising region is))

  pub pages_walked : (query : QueryValue) (pages : List PageValue) → 0 < query.limit → ArePagesOf region (Some query) pages → left_by (Some query) pages ≡ None → rows_of pages ≡ shown_rows query (all_cells region)
  pages_walked query pages some are none =
      sym (append-nil (rows_of pages))
      ∙ ap (λ (left : Option QueryValue). rows_of pages ++ rows_left (all_looks region) left) (sym none)
      ∙ walked (all_looks region) rises region.layout query pages some are
      ∙ ap (shown_rows query) (all_together region is)

  pub pages_end : (query : QueryValue) → AllServe region → 0 < query.limit → (pages : List PageValue) × ArePagesOf region (Some query) pages × (left_by (Some query) pages ≡ None)
  pages_end query serve some = walk_ends region.layout (all_looks region) rises (none_recovering region is serve) query some

module _ (region : RegionValue) (is : IsRegion region) where
  -- a page that the region answers is the first of the rows of its cells
  page_of_all_cells : (query : QueryValue) (page : PageValue) → page_in region query ≡ Ok page → IsCutFrom (all_cells region) query page
  page_of_all_cells query page answered =
      subst (λ (cells : Entries). IsCutFrom cells query page) (all_together region is) (page_cut region.layout (all_looks region) query page answered)

-- while cells stay the same, pages have all rows
pub pages_of_cells : (cells : Entries) (query : QueryValue) (pages : List PageValue) → 0 < query.limit → ArePages (IsAnsweredOf cells) (Some query) pages → left_by (Some query) pages ≡ None → rows_of pages ≡ shown_rows query cells
pages_of_cells cells query [] some are none = absurd (cc)
pages_of_cells cells query (page ∷ pages) some are none =
    let (region, is, same, answered) = are.0 in
    let rises : Rising bytes_cmp cells = subst (Rising bytes_cmp) same (Rising-from_sorted bytes_cmp (all_cells region) (all_rising region is)) in
    all_walked cells rises (IsAnsweredOf cells)
    (λ asked next it. subst (λ (es : Entries). IsCutFrom es asked next) it.2 (page_of_all_cells it.0 it.1 asked next it.3))
    query (page ∷ pages) some are none

-- and keys rise in any case
pub answered_rise : (query : QueryValue) (pages : List PageValue) → 0 < query.limit → ArePages IsAnswered (Some query) pages → Rising bytes_cmp (rows_of pages) × AllAfter query.after (rows_of pages)
answered_rise query pages some are =
    cut_rise IsAnswered
    (λ asked page it. (all_cells it.0, Rising-from_sorted bytes_cmp (all_cells it.0) (all_rising it.0 it.1), page_of_all_cells it.0 it.1 asked page it.2))
    (Some query) pages some are
