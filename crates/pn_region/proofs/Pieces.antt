-- Maps whose keys lie in ranges that are apart, one after another; ranges that meet; and images that spell such maps.
use Rattle.std.proofs.Common.{◌≡◌, ℕ, zero, suc, ◌+◌, ◌<◌, ◌≤◌, true, false, List, [], ◌∷◌, length, map, refl, arith, Bool, cond, ◌++◌, Option, Some, None, sym, ap, ◌∙◌, not, ◌&&◌, Less, Equal, Greater, is_lt, ◌-◌, take, drop, get_or, subst, append-nil, IsTrue}
use Rattle.std.specs.Prelude.{zip, slice_range}
use Rattle.std.specs.List.{filter_map}
use Rattle.std.proofs.lemmas.List.Elements.{filter_map-append, filter-append}
use Rattle.std.proofs.lemmas.Bool.{and_parts}
use Rattle.std.proofs.lemmas.Cmp.{nat_list_cmp_total}
use Rattle.std.proofs.lemmas.Grind.{flat_map-append}
use Rattle.std.proofs.lemmas.List.{take_all, take_more}
use Rattle.std.specs.FinMap.{keys}
use Rattle.pn_join.proofs.Rising.{Rising, Rising-from_sorted, sorted_from_Rising, Rising-prefix}
use Rattle.pn_record.proofs.Sorted.{first_true, second_true, is_less}
use Rattle.pn_record.proofs.CellMaps.{tied_keys}
use Rattle.pn_record.specs.Sets.{CellValue}
use Rattle.pn_record.specs.Limits.{ContentValue}
use Rattle.pn_record.specs.Cells.{spell_cell, adds}
use Rattle.pn_tablet.proofs.LayoutFacts.{tablet_of_key}
use Rattle.pn_tablet.specs.Steps.{change_of}
use Rattle.pn_tablet.specs.Layouts.{is_below, is_from, is_before, are_ends, meet}
use Rattle.pn_apply.proofs.Tables.{entries_that, sorted_that}
use Rattle.pn_apply.proofs.ReduceLaws.{range_joins}
use Rattle.pn_region.proofs.Common.{range_with_len, Ends, in_range, Bounds, IsLayout, tablet_ends, ranges, eq_by_cmp, flat_map, find, Positions, bytes_cmp, Entries, TabletStateValue, lie_in, changes, Change, AreTabletsOf, is_sorted, Image, Stamp, spell, table_of, images_in}

-- The ranges of a layout have no key in common.

-- no key of the others is in the range
abbrev pub Outside : Ends → List Ends → Type 0
Outside range [] = Unit {0}
Outside range (other ∷ others) = ((key : List ℕ) → in_range other key ≡ true → in_range range key ≡ false) × Outside range others

-- no two have a key in common
abbrev pub Apart : List Ends → Type 0
Apart [] = Unit {0}
Apart (range ∷ others) = Outside range others × Apart others

module _ (bounds : Bounds) (lawful : IsLayout bounds) where
  outside_one : (t a : ℕ) → t < a → a ≤ length bounds → (key : List ℕ) → in_range (tablet_ends bounds a) key ≡ true → in_range (tablet_ends bounds t) key ≡ false
  outside_one t a before within key lies =
      elim (in_range (tablet_ends bounds t) key) as (λ b. in_range (tablet_ends bounds t) key ≡ b → b ≡ false) [
        | true ↦ λ too. absurd (omega (arith, before, tablet_of_key bounds key a lawful.rising within lies, tablet_of_key bounds key t lawful.rising (omega (arith, before, within)) too))
        | false ↦ λ no. refl
      ] refl

  outside_from : (t a n : ℕ) → t < a → a + n ≤ length bounds + 1 → Outside (tablet_ends bounds t) (map (tablet_ends bounds) (range_with_len a n))
  outside_from t a zero before within = tt
  outside_from t a (suc n) before within = (outside_one t a before (omega (arith, within)), outside_from t (a + 1) n (omega (arith, before)) (omega (arith, within)))

  apart_from : (a n : ℕ) → a + n ≤ length bounds + 1 → Apart (map (tablet_ends bounds) (range_with_len a n))
  apart_from a zero within = tt
  apart_from a (suc n) within = (outside_from a (a + 1) n (omega arith) (omega (arith, within)), apart_from (a + 1) n (omega (arith, within)))

  pub ranges_apart : Apart (ranges bounds)
  ranges_apart = apart_from 0 (length bounds + 1) (omega arith)

-- Maps whose keys lie in ranges that are apart, one after another.

-- the cells of tablets together
abbrev pub cells_of : List TabletStateValue → Entries
cells_of tablets = flat_map (λ tablet. tablet.cells) tablets

outside_first : (t : Bool) (range : Ends) (key : List ℕ) (e : List ℕ × CellValue) (rest : Option CellValue)
    → eq_by_cmp bytes_cmp key e.0 ≡ t → in_range range e.0 ≡ true → in_range range key ≡ false → rest ≡ None → cond t (Some e.1) rest ≡ None
outside_first true range key e rest tied inside outside none =
    let no : true ≡ false = sym (ap (in_range range) (tied_keys key e.0 tied) ∙ inside) ∙ outside in cc
outside_first false range key e rest apart inside outside none = none

-- a key outside the range is not found
pub none_outside : (range : Ends) (es : Entries) (key : List ℕ) → lie_in range es ≡ true → in_range range key ≡ false → find bytes_cmp key es ≡ None
none_outside range [] key inside outside = refl
none_outside range (e ∷ es) key inside outside =
    outside_first (eq_by_cmp bytes_cmp key e.0) range key e (find bytes_cmp key es) refl (first_true (in_range range e.0) (lie_in range es) inside) outside
    (none_outside range es key (second_true (in_range range e.0) (lie_in range es) inside) outside)

-- what is not found in the first is found in the other, or not at all
pub found_after : (key : List ℕ) (es more : Entries) → find bytes_cmp key es ≡ None → find bytes_cmp key (es ++ more) ≡ find bytes_cmp key more
found_after key [] more none = refl
found_after key (e ∷ es) more none =
    elim (eq_by_cmp bytes_cmp key e.0) as (λ t. cond t (Some e.1) (find bytes_cmp key es) ≡ None → cond t (Some e.1) (find bytes_cmp key (es ++ more)) ≡ find bytes_cmp key more) [
      | true ↦ λ there. cc
      | false ↦ λ later. found_after key es more later
    ] none

-- what is not found in the other is found in the first, or not at all
pub found_before : (key : List ℕ) (es more : Entries) → find bytes_cmp key more ≡ None → find bytes_cmp key (es ++ more) ≡ find bytes_cmp key es
found_before key [] more none = none
found_before key (e ∷ es) more none = ap (λ (rest : Option CellValue). cond (eq_by_cmp bytes_cmp key e.0) (Some e.1) rest) (found_before key es more none)

-- a key of a range is not in one that is apart from it
pub not_in : (range other : Ends) (key : List ℕ) → (in_range other key ≡ true → in_range range key ≡ false) → in_range range key ≡ true → in_range other key ≡ false
not_in range other key apart lies =
    elim (in_range other key) as (λ b. in_range other key ≡ b → b ≡ false) [
      | true ↦ λ too. let no : true ≡ false = sym lies ∙ apart too in cc
      | false ↦ λ no. refl
    ] refl

-- a key of a range is not found in tablets of others
pub none_there : (marks : Positions) (range : Ends) (others : List Ends) (tablets : List TabletStateValue) → Outside range others → AreTabletsOf marks others tablets
    → (key : List ℕ) → in_range range key ≡ true → find bytes_cmp key (cells_of tablets) ≡ None
none_there marks range [] [] outside are key lies = refl
none_there marks range [] (t ∷ ts) outside are key lies = absurd are
none_there marks range (r ∷ rs) [] outside are key lies = absurd are
none_there marks range (r ∷ rs) (t ∷ ts) outside are key lies =
    found_after key t.cells (cells_of ts) (none_outside r t.cells key are.0.inside (not_in range r key (outside.0 key) lies))
    ∙ none_there marks range rs ts outside.1 are.1 key lies

-- the two have the same cells at the keys of the ranges
abbrev AreAlike : Entries → Entries → List Ends → Type 0
AreAlike before other [] = Unit {0}
AreAlike before other (r ∷ rs) = ((key : List ℕ) → in_range r key ≡ true → find bytes_cmp key before ≡ find bytes_cmp key other) × AreAlike before other rs

alike_after : (range : Ends) (others : List Ends) (es more : Entries) → lie_in range es ≡ true → Outside range others → AreAlike (es ++ more) more others
alike_after range [] es more inside outside = tt
alike_after range (r ∷ rs) es more inside outside =
    ((λ key lies. found_after key es more (none_outside range es key inside (outside.0 key lies))), alike_after range rs es more inside outside.1)

with_change : Option Change → List Change → List Change
with_change None changes = changes
with_change (Some change) changes = change ∷ changes

-- the changes of keys in a range, from maps that are alike there
changes_alike : (range : Ends) (before other after : Entries) → lie_in range after ≡ true
    → ((key : List ℕ) → in_range range key ≡ true → find bytes_cmp key before ≡ find bytes_cmp key other) → changes before after ≡ changes other after
changes_alike range before other [] inside alike = refl
changes_alike range before other (e ∷ es) inside alike =
    let here = alike e.0 (first_true (in_range range e.0) (lie_in range es) inside) in
    let later = changes_alike range before other es (second_true (in_range range e.0) (lie_in range es) inside) alike in
    filter_map-append (λ entry. change_of (find bytes_cmp entry.0 before) entry) (e ∷ []) es
    ∙ (λ i. filter_map (λ entry. change_of (here i) e) (e ∷ []) ++ later i)
    ∙ sym (filter_map-append (λ entry. change_of (find bytes_cmp entry.0 other) entry) (e ∷ []) es)

changes_after : (marks : Positions) (rs : List Ends) (before other : Entries) (tablets : List TabletStateValue) → AreTabletsOf marks rs tablets → AreAlike before other rs
    → changes before (cells_of tablets) ≡ changes other (cells_of tablets)
changes_after marks [] before other [] are alike = refl
changes_after marks [] before other (t ∷ ts) are alike = absurd are
changes_after marks (r ∷ rs) before other [] are alike = absurd are
changes_after marks (r ∷ rs) before other (t ∷ ts) are alike =
    filter_map-append (λ entry. change_of (find bytes_cmp entry.0 before) entry) t.cells (cells_of ts)
    ∙ (λ i. changes_alike r before other t.cells are.0.inside alike.0 i ++ changes_after marks rs before other ts are.1 alike.1 i)
    ∙ sym (filter_map-append (λ entry. change_of (find bytes_cmp entry.0 other) entry) t.cells (cells_of ts))

-- what changes in all tablets together is what changes in each
pub changes_by_tablet : (marks later : Positions) (rs : List Ends) (ts us : List TabletStateValue) → Apart rs → AreTabletsOf marks rs ts → AreTabletsOf later rs us
    → changes (cells_of ts) (cells_of us) ≡ flat_map (λ each. changes each.0.cells each.1.cells) (zip ts us)
changes_by_tablet marks later [] [] [] apart are too = refl
changes_by_tablet marks later [] [] (u ∷ us) apart are too = absurd too
changes_by_tablet marks later [] (t ∷ ts) us apart are too = absurd are
changes_by_tablet marks later (r ∷ rs) [] us apart are too = absurd are
changes_by_tablet marks later (r ∷ rs) (t ∷ ts) [] apart are too = absurd too
changes_by_tablet marks later (r ∷ rs) (t ∷ ts) (u ∷ us) apart are too =
    let whole = t.cells ++ cells_of ts in
    filter_map-append (λ entry. change_of (find bytes_cmp entry.0 whole) entry) u.cells (cells_of us)
    ∙ (λ i. changes_alike r whole t.cells u.cells too.0.inside (λ key lies. found_before key t.cells (cells_of ts) (none_there marks r rs ts apart.0 are.1 key lies)) i
    ++ (changes_after later rs whole (cells_of ts) us too.1 (alike_after r rs t.cells (cells_of ts) are.0.inside apart.0)
    ∙ changes_by_tablet marks later rs ts us apart.1 are.1 too.1) i)

-- Ranges that have a key in common meet.

from_above : (from to key : List ℕ) → not (is_below key from) ≡ true → is_below key to ≡ true → is_below from to ≡ true
from_above from to key above below =
    elim (bytes_cmp from key) as (λ o. bytes_cmp from key ≡ o → is_below from to ≡ true) [
      | Less ↦ λ is. ap is_lt (nat_list_cmp_total.trans from key to is (is_less (bytes_cmp key to) below))
      | Equal ↦ λ is. ap is_lt (nat_list_cmp_total.congr from key to is) ∙ below
      | Greater ↦ λ is.
          let back = nat_list_cmp_total.antisymm key from in
          cc
    ] refl

-- an end that a key has reached is before one that it has not
in_order : (from to : Option (List ℕ)) (key : List ℕ) → is_from from key ≡ true → is_before to key ≡ true → are_ends (from, to) ≡ true
in_order None to key above below = refl
in_order (Some from) None key above below = refl
in_order (Some from) (Some to) key above below = from_above from to key above below

both_pass : (x y : Bool) → x ≡ true → y ≡ true → (x && y) ≡ true
both_pass true y passes passes_too = passes_too
both_pass false y passes passes_too = cc

pub both_in_meet : (a b : Ends) (key : List ℕ) → in_range a key ≡ true → in_range b key ≡ true → meet a b ≡ true
both_in_meet a b key lies lies_too =
    let own = and_parts _ _ lies in
    let other = and_parts _ _ lies_too in
    both_pass (are_ends (a.0, b.1)) (are_ends (b.0, a.1)) (in_order a.0 b.1 key own.0 other.1) (in_order b.0 a.1 key other.0 own.1)

-- The cells of tablets in a range, one tablet after another.

-- one tablet more has its own cells more
pub cells_more : (r : Ends) (ts : List TabletStateValue) (i : ℕ) (t : TabletStateValue) → i < length ts → get_or ts i t ≡ t
    → entries_that (in_range r) (cells_of (take (i + 1) ts)) ≡ entries_that (in_range r) (cells_of (take i ts)) ++ entries_that (in_range r) t.cells
cells_more r ts i t within is =
    let more : take (i + 1) ts ≡ take i ts ++ t ∷ [] = take_more ts i t within ∙ ap (λ (u : TabletStateValue). take i ts ++ u ∷ []) is in
    ap (λ (us : List TabletStateValue). entries_that (in_range r) (cells_of us)) more
    ∙ ap (entries_that (in_range r)) (flat_map-append (λ (u : TabletStateValue). u.cells) (take i ts) (t ∷ []) ∙ ap (λ (es : Entries). cells_of (take i ts) ++ es) (append-nil t.cells))
    ∙ filter-append (λ (e : List ℕ × CellValue). in_range r e.0) (cells_of (take i ts)) t.cells

-- a tablet whose range does not meet the range has none there
none_kept : (r own : Ends) (es : Entries) → meet own r ≡ false → lie_in own es ≡ true → entries_that (in_range r) es ≡ []
none_kept r own [] apart inside = refl
none_kept r own (e ∷ es) apart inside =
    let here = first_true (in_range own e.0) (lie_in own es) inside in
    let later = none_kept r own es apart (second_true (in_range own e.0) (lie_in own es) inside) in
    elim (in_range r e.0) as (λ b. in_range r e.0 ≡ b → cond b (e ∷ entries_that (in_range r) es) (entries_that (in_range r) es) ≡ []) [
      | true ↦ λ lies.
          let both = both_in_meet own r e.0 here lies in
          cc
      | false ↦ λ outside. later
    ] refl

pub cells_skipped : (r : Ends) (ts : List TabletStateValue) (i : ℕ) (t : TabletStateValue) → i < length ts → get_or ts i t ≡ t → meet t.range r ≡ false → lie_in t.range t.cells ≡ true
    → entries_that (in_range r) (cells_of (take (i + 1) ts)) ≡ entries_that (in_range r) (cells_of (take i ts))
cells_skipped r ts i t within is apart inside =
    cells_more r ts i t within is
    ∙ ap (λ (es : Entries). entries_that (in_range r) (cells_of (take i ts)) ++ es) (none_kept r t.range t.cells apart inside)
    ∙ append-nil (entries_that (in_range r) (cells_of (take i ts)))

first_and_rest : (i : ℕ) (ts : List TabletStateValue) → take i ts ++ drop i ts ≡ ts
first_and_rest zero ts = refl
first_and_rest (suc i) [] = refl
first_and_rest (suc i) (t ∷ ts) = ap (λ (rest : List TabletStateValue). t ∷ rest) (first_and_rest i ts)

-- the cells of the first tablets rise where those of all do
pub first_rise : (r : Ends) (ts : List TabletStateValue) (i : ℕ) → IsTrue (is_sorted bytes_cmp (cells_of ts)) → IsTrue (is_sorted bytes_cmp (entries_that (in_range r) (cells_of (take i ts))))
first_rise r ts i rise =
    let parts : cells_of ts ≡ cells_of (take i ts) ++ cells_of (drop i ts) =
    ap cells_of (sym (first_and_rest i ts)) ∙ flat_map-append (λ (u : TabletStateValue). u.cells) (take i ts) (drop i ts) in
    sorted_that (in_range r) (cells_of (take i ts))
    (sorted_from_Rising bytes_cmp (cells_of (take i ts))
    (Rising-prefix bytes_cmp (cells_of (take i ts)) (cells_of (drop i ts)) (subst (Rising bytes_cmp) parts (Rising-from_sorted bytes_cmp (cells_of ts) rise))))

-- a whole slice
pub whole_slice : (es : Entries) (n : ℕ) → n ≡ length es → slice_range es 0 n ≡ es
whole_slice es n is = take_all (n - 0) es (omega (arith, is))

-- with those of one tablet more they rise too
pub more_rise : (r : Ends) (ts : List TabletStateValue) (i : ℕ) (t : TabletStateValue) → i < length ts → t ≡ get_or ts i t → (so_far : Entries) → so_far ≡ entries_that (in_range r) (cells_of (take i ts))
    → IsTrue (is_sorted bytes_cmp (cells_of ts)) → IsTrue (is_sorted bytes_cmp (so_far ++ entries_that (in_range r) t.cells))
more_rise r ts i t within is so_far before rise =
    subst (λ (es : Entries). IsTrue (is_sorted bytes_cmp es)) (cells_more r ts i t within (sym is) ∙ ap (λ (es : Entries). es ++ entries_that (in_range r) t.cells) (sym before)) (first_rise r ts (i + 1) rise)

-- The images that spell a map whose keys lie in a range.

-- images of one key are in its range
own_images : (range : Ends) (key : List ℕ) (version : Stamp) (contents : List ContentValue) → in_range range key ≡ true
    → images_in range (map (λ shown. record { key = key; version = version; content = shown }) contents) ≡ map (λ shown. record { key = key; version = version; content = shown }) contents
own_images range key version [] lies = refl
own_images range key version (shown ∷ contents) lies =
    let image : Image = record { key = key; version = version; content = shown } in
    let rest = map (λ (shown : ContentValue). record { key = key; version = version; content = shown }) contents in
    ap (λ (b : Bool). cond b (image ∷ images_in range rest) (images_in range rest)) lies ∙ ap (λ (images : List Image). image ∷ images) (own_images range key version contents lies)

-- what spells a map in the range lies there
pub spelled_inside : (range : Ends) (es : Entries) → lie_in range es ≡ true → images_in range (spell es) ≡ spell es
spelled_inside range [] inside = refl
spelled_inside range (e ∷ es) inside =
    filter-append (λ (image : Image). in_range range image.key) (spell_cell e) (spell es)
    ∙ (λ i. own_images range e.0 e.1.0 (keys e.1.1) (first_true (in_range range e.0) (lie_in range es) inside) i
    ++ spelled_inside range es (second_true (in_range range e.0) (lie_in range es) inside) i)

-- a map in the range that takes the cells of images there
pub taken_inside : (range : Ends) (es : Entries) (images : List Image) → es ≡ table_of (spell es) → lie_in range es ≡ true
    → adds es (spell (table_of (images_in range images))) ≡ table_of (images_in range (spell es ++ images))
taken_inside range es images spelled inside =
    ap (λ (m : Entries). adds m (spell (table_of (images_in range images)))) (spelled ∙ ap table_of (sym (spelled_inside range es inside)))
    ∙ range_joins range (spell es) images
