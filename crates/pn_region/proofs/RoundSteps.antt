-- What a round makes of tablets, of new regions, and how many changes there are.
use Rattle.std.proofs.Common.{◌≡◌, Bool, List, [], ◌∷◌, ◌++◌, map, if◌then◌else◌, Ok, Err, refl, sym, ap, ◌∙◌, subst, arith, ◌⊎◌, inl, inr, ℕ, zero, suc, ◌+◌, ◌<◌, length, get_or, ◌≤◌, true}
use Rattle.std.specs.Prelude.{zip, Vec}
use Rattle.std.proofs.lemmas.List.{length-map, map-append, length-append}
use Rattle.std.proofs.lemmas.List.FromFn.{length-map-range_with_len, map-range_with_len_more}
use Rattle.std.specs.declared.alloc.Global.{Global}
use Rattle.std.proofs.lemmas.List.Folds.{flat_map-map}
use Rattle.pn_join.proofs.MarksFacts.{position_of-raised_marks}
use Rattle.pn_record.specs.Cells.{adds}
use Rattle.pn_record.proofs.CellLists.{both, cells-append}
use Rattle.pn_record.proofs.CellMaps.{rising-table_of, Holds-table_of, cells-spelled}
use Rattle.pn_tablet.specs.Steps.{with_join}
use Rattle.pn_tablet.proofs.Keeping.{spelled_adds, spelled_nil}
use Rattle.pn_tablet.proofs.Changed.{few_changes}
use Rattle.pn_apply.proofs.ReduceLaws.{cells_inside}
use Rattle.pn_region.proofs.Common.{flat_map, Positions, Reaches, raised_marks, Image, spell, Entries, table_of, Ends, TabletStateValue, lie_in, after_step, tablet_after, changes, Change, TabletOp, WrongRange, all_stepped, all_changes, AreOldOrStepped, images_in, join_in, IsTabletOf, AreTabletsOf, Some, slice_get, range_with_len, Bounds, IsLayout, tablet_ends, empty_tablet, ranges, IsRegion, find, is_sorted, bytes_cmp, joined_cells}
use Rattle.pn_region.proofs.Pieces.{Apart, cells_of, changes_by_tablet, taken_inside}

-- What a round makes of tablets.

pub same_list : {A : Type 0} (xs : List A) → map (λ x. x) xs ≡ xs
same_list [] = refl
same_list (x ∷ xs) = ap (λ rest. x ∷ rest) (same_list xs)

pub own_ranges : (marks : Positions) (rs : List Ends) (ts : List TabletStateValue) → AreTabletsOf marks rs ts → map (λ (t : TabletStateValue). t.range) ts ≡ rs
own_ranges marks [] [] are = refl
own_ranges marks [] (t ∷ ts) are = absurd are
own_ranges marks (r ∷ rs) [] are = absurd are
own_ranges marks (r ∷ rs) (t ∷ ts) are = λ i. are.0.range i ∷ own_ranges marks rs ts are.1 i

-- the marks that a round may leave are reached once they are taken
pub new_reached : (cover marks : Positions) → Reaches (raised_marks cover marks) marks
new_reached cover marks name = omega (arith, position_of-raised_marks cover marks name)

pub old_reached : (cover marks old : Positions) → Reaches cover old → Reaches (raised_marks cover marks) old
old_reached cover marks old reach name = omega (arith, position_of-raised_marks cover marks name, reach name)

-- a reach that reaches the cover does so once both are raised
pub both_reached : (reach cover marks : Positions) → Reaches reach cover → Reaches (raised_marks reach marks) (raised_marks cover marks)
both_reached reach cover marks reached name = omega (arith, position_of-raised_marks reach marks name, position_of-raised_marks cover marks name, reached name)

module _ (marks : Positions) (images : List Image) where
  abbrev join : Ends → TabletOp
  join = join_in marks images

  abbrev cells_in : Ends → Entries
  cells_in range = table_of (images_in range images)

  -- the join in a tablet's range is taken
  pub is_taken : (old : Positions) (r : Ends) (t : TabletStateValue) → IsTabletOf old r t → tablet_after t (join r) ≡ with_join t (cells_in r) marks
  is_taken old r t is =
      ap (λ (b : Bool). after_step t (if b then Ok (with_join t (cells_in r) marks) else Err WrongRange)) (ap (λ (range : Ends). lie_in range (cells_in r)) is.range ∙ cells_inside r images)

  -- and the tablet stays one of its range
  one_taken : (old later : Positions) (r : Ends) (t : TabletStateValue) → IsTabletOf old r t → Reaches (raised_marks t.cover marks) later → IsTabletOf later r (tablet_after t (join r))
  one_taken old later r t is reach =
      subst (IsTabletOf later r) (sym (is_taken old r t is)) (record {
        range = is.range;
        inside = ap (lie_in r) (taken_inside r t.cells images is.spelled is.inside) ∙ cells_inside r (spell t.cells ++ images);
        spelled = spelled_adds t.cells (spell (cells_in r));
        covered = reach;
        reached = both_reached t.reach t.cover marks is.reached;
      })

  pub all_taken : (old : Positions) (rs : List Ends) (ts : List TabletStateValue) → AreTabletsOf old rs ts → AreTabletsOf marks rs (all_stepped ts (map join rs))
  all_taken old [] [] are = tt
  all_taken old [] (t ∷ ts) are = absurd are
  all_taken old (r ∷ rs) [] are = absurd are
  all_taken old (r ∷ rs) (t ∷ ts) are = (one_taken old marks r t are.0 (new_reached t.cover marks), all_taken old rs ts are.1)

  half_one : (old : Positions) (r : Ends) (t u : TabletStateValue) → IsTabletOf old r t → (u ≡ t) ⊎ (u ≡ tablet_after t (join r)) → IsTabletOf old r u
  half_one old r t u is (inl same) = subst (IsTabletOf old r) (sym same) is
  half_one old r t u is (inr taken) = subst (IsTabletOf old r) (sym taken) (one_taken old old r t is (old_reached t.cover marks old is.covered))

  pub half_taken : (old : Positions) (rs : List Ends) (ts us : List TabletStateValue) → AreTabletsOf old rs ts → AreOldOrStepped ts (map join rs) us → AreTabletsOf old rs us
  half_taken old [] [] [] are half = tt
  half_taken old [] [] (u ∷ us) are half = absurd half
  half_taken old [] (t ∷ ts) us are half = absurd are
  half_taken old (r ∷ rs) [] us are half = absurd are
  half_taken old (r ∷ rs) (t ∷ ts) [] are half = absurd half
  half_taken old (r ∷ rs) (t ∷ ts) (u ∷ us) are half = (half_one old r t u are.0 half.0, half_taken old rs ts us are.1 half.1)

  changes_of_joins : (old : Positions) (rs : List Ends) (ts : List TabletStateValue) → AreTabletsOf old rs ts
      → flat_map (λ (list : List Change). list) (all_changes ts (map join rs)) ≡ flat_map (λ each. changes each.0.cells each.1.cells) (zip ts (all_stepped ts (map join rs)))
  changes_of_joins old [] [] are = refl
  changes_of_joins old [] (t ∷ ts) are = absurd are
  changes_of_joins old (r ∷ rs) [] are = absurd are
  changes_of_joins old (r ∷ rs) (t ∷ ts) are = ap (λ (rest : List Change). changes t.cells (tablet_after t (join r)).cells ++ rest) (changes_of_joins old rs ts are.1)

  -- the changes of each tablet, one after another, are those of all cells together
  pub changes_together : (old : Positions) (rs : List Ends) (ts : List TabletStateValue) → Apart rs → AreTabletsOf old rs ts
      → flat_map (λ (list : List Change). list) (all_changes ts (map join rs)) ≡ changes (cells_of ts) (cells_of (all_stepped ts (map join rs)))
  changes_together old rs ts apart are =
      changes_of_joins old rs ts are ∙ sym (changes_by_tablet old marks rs ts (all_stepped ts (map join rs)) apart are (all_taken old rs ts are))

-- Regions that have taken nothing.

pub empty_ones : (rs : List Ends) → AreTabletsOf [] rs (map empty_tablet rs)
empty_ones [] = tt
empty_ones (r ∷ rs) = (record { range = refl; inside = refl; spelled = spelled_nil; covered = λ name. omega arith; reached = λ name. omega arith }, empty_ones rs)

-- there are as many tablets as ranges
pub tablet_count : (marks : Positions) (bounds : Bounds) (ts : List TabletStateValue) → AreTabletsOf marks (ranges bounds) ts → length ts ≡ length bounds + 1
tablet_count marks bounds ts are =
    sym (length-map ts (λ (t : TabletStateValue). t.range)) ∙ ap length (own_ranges marks (ranges bounds) ts are) ∙ length-map-range_with_len (tablet_ends bounds) 0 (length bounds + 1)

pub new_is : (layout : Bounds) (ts : List TabletStateValue) (marks : Positions) → IsLayout layout → ts ≡ map empty_tablet (ranges layout) → marks ≡ [] → IsRegion (record { layout = layout; tablets = ts; marks = marks })
new_is layout ts marks lawful empty none =
    subst (λ (tablets : List TabletStateValue). IsRegion (record { layout = layout; tablets = tablets; marks = marks })) (sym empty)
    (subst (λ (m : Positions). IsRegion (record { layout = layout; tablets = map empty_tablet (ranges layout); marks = m })) (sym none)
    (record { lawful = lawful; tablets = empty_ones (ranges layout) }))

-- one more of what is made for each range
pub range_more : {A : Type 0} (made : Ends → A) (bounds : Bounds) (n : ℕ) (xs : List A) (x : A) → xs ≡ map made (map (tablet_ends bounds) (range_with_len 0 n)) → x ≡ made (tablet_ends bounds n)
    → xs ++ x ∷ [] ≡ map made (map (tablet_ends bounds) (range_with_len 0 (n + 1)))
range_more made bounds n xs x so_far one =
    (λ i. so_far i ++ one i ∷ [])
    ∙ sym (map-append made (map (tablet_ends bounds) (range_with_len 0 n)) (tablet_ends bounds n ∷ []))
    ∙ ap (map made) (sym (map-range_with_len_more (tablet_ends bounds) 0 n n (omega arith)))

-- one more empty tablet
pub empty_more : (bounds : Bounds) (n : ℕ) (ts : List TabletStateValue) (t : TabletStateValue) (ends : Ends) → ts ≡ map empty_tablet (map (tablet_ends bounds) (range_with_len 0 n)) → t ≡ empty_tablet ends → ends ≡ tablet_ends bounds n
    → ts ++ t ∷ [] ≡ map empty_tablet (map (tablet_ends bounds) (range_with_len 0 (n + 1)))
empty_more bounds n ts t ends so_far empty at = range_more empty_tablet bounds n ts t so_far (empty ∙ ap empty_tablet at)

pub tablet_at : (ts : List TabletStateValue) (n : ℕ) (t : TabletStateValue) → n < length ts → t ≡ get_or ts n t → slice_get ts n ≡ Some t
tablet_at [] n t within is = absurd (omega arith)
tablet_at (u ∷ ts) zero t within is = ap Some (sym is)
tablet_at (u ∷ ts) (suc n) t within is = tablet_at ts n t (omega arith) is

-- There are at most as many changes as joined entries.

-- what lists of changes hold together
pub all_told : (ts : List TabletStateValue) (joins : List TabletOp) (lists : List (Vec Change Global)) → map (λ (list : Vec Change Global). list.items) lists ≡ all_changes (map (λ t. t) ts) joins
    → flat_map (λ (list : Vec Change Global). list.items) lists ≡ flat_map (λ (list : List Change). list) (all_changes ts joins)
all_told ts joins lists told =
    sym (flat_map-map (λ (list : List Change). list) (λ (list : Vec Change Global). list.items) lists)
    ∙ ap (flat_map (λ (list : List Change). list)) (told ∙ ap (λ (tablets : List TabletStateValue). all_changes tablets joins) (same_list ts))

found_adds : (old : Entries) (images : List Image) (key : List ℕ) → old ≡ table_of (spell old)
    → find bytes_cmp key (adds old (spell (table_of images))) ≡ both (find bytes_cmp key old) (find bytes_cmp key (table_of images))
unfolding adds
found_adds old images key spelled =
    Holds-table_of (spell old ++ spell (table_of images)) key
    ∙ cells-append (spell old) (spell (table_of images)) key
    ∙ (λ i. both (sym (ap (find bytes_cmp key) spelled ∙ Holds-table_of (spell old) key) i) ((cells-spelled images key ∙ sym (Holds-table_of images key)) i))

rising_adds : (old : Entries) (images : List Image) → is_sorted bytes_cmp (adds old images) ≡ true
unfolding adds
rising_adds old images = rising-table_of (spell old ++ images)

module _ (marks : Positions) (images : List Image) where
  -- a tablet changes no more cells than its join has
  few_in : (old : Positions) (r : Ends) (t : TabletStateValue) → IsTabletOf old r t
      → length (changes t.cells (tablet_after t (join_in marks images r)).cells) ≤ length (table_of (images_in r images))
  few_in old r t is =
      let more = table_of (images_in r images) in
      subst (λ (after : TabletStateValue). length (changes t.cells after.cells) ≤ length more) (sym (is_taken marks images old r t is))
      (few_changes t.cells more (adds t.cells (spell more)) (record {
        rises = rising-table_of (images_in r images);
        rising = rising_adds t.cells (spell more);
        joined = λ key. found_adds t.cells (images_in r images) key is.spelled;
      }))

  -- so do all together
  pub few_together : (old : Positions) (rs : List Ends) (ts : List TabletStateValue) → AreTabletsOf old rs ts
      → length (flat_map (λ (list : List Change). list) (all_changes ts (map (join_in marks images) rs))) ≤ length (flat_map joined_cells (map (join_in marks images) rs))
  few_together old [] [] are = omega arith
  few_together old [] (t ∷ ts) are = absurd are
  few_together old (r ∷ rs) [] are = absurd are
  few_together old (r ∷ rs) (t ∷ ts) are =
      let ops = map (join_in marks images) rs in
      let here = changes t.cells (tablet_after t (join_in marks images r)).cells in
      omega (
        arith,
        few_in old r t are.0,
        few_together old rs ts are.1,
        length-append here (flat_map (λ (list : List Change). list) (all_changes ts ops)),
        length-append (table_of (images_in r images)) (flat_map joined_cells ops),
      )
