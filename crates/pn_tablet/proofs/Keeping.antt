-- What operations keep of every tablet, and what drafts of copies become by a mark and by an image more.
use Rattle.std.proofs.Common.{◌≡◌, ℕ, Bool, true, false, cond, List, [], ◌∷◌, ◌++◌, Option, Some, None, refl, sym, ap, ◌∙◌, subst, ◌-◌, ◌==◌, is_some, max, Result, Ok, Err, OnOk, IsTrue, Less, Equal, Greater, Ordering, unwrap_or, arith}
use Rattle.std.specs.Ordering.{eq_by_cmp, is_lt, is_eq, ordering_reverse}
use Rattle.std.specs.List.{AllByRecursion, list_all}
use Rattle.std.specs.FinMap.{find, put, is_sorted}
use Rattle.std.proofs.lemmas.Bool.{and_parts, and_from}
use Rattle.std.proofs.lemmas.Cmp.{nat_list_cmp_total}
use Rattle.std.specs.Option.{option_map_or}
use Rattle.std.specs.FinMap.Entries.{by_order}
use Rattle.pn_join.specs.Marks.{Positions, are_positions, name_cmp, is_position, raised_marks}
use Rattle.pn_join.specs.Tables.{optional_joined}
use Rattle.pn_join.proofs.MarksFacts.{are_positions-raised_marks}
use Rattle.pn_record.specs.declared.records.Image.{Image}
use Rattle.pn_record.specs.Sets.{bytes_cmp, CellValue, cell_joined, set_of}
use Rattle.pn_record.specs.Cells.{spell, Holds, Entries, table_of, adds}
use Rattle.pn_record.proofs.Sorted.{both_true, first_true, second_true}
use Rattle.pn_record.proofs.CellMaps.{tied_keys, Holds-one, spelled_table, table_of-nil, Holds-table_of, rising-table_of, held_adds}
use Rattle.pn_record.proofs.Differing.{IsAt, each_at}
use Rattle.pn_record.proofs.CellLists.{both, cells-append}
use Rattle.pn_tablet.specs.Layouts.{Ends, in_range}
use Rattle.pn_tablet.specs.Tablets.{needed, lie_in, HasNeed, IsTablet}
use Rattle.pn_tablet.proofs.Changed.{Joins}
use Rattle.pn_tablet.specs.declared.state.Status.{Status}
use Rattle.pn_tablet.specs.declared.state.Status.TheVariants.{Recovering}
use Rattle.pn_tablet.specs.Copies.{IsCopy, DraftValue, IsDraft, with_last}
use Rattle.pn_tablet.specs.CopyReading.{with_mark, with_image, finish}
use Rattle.pn_tablet.specs.CopyTexts.{comes_after}

-- What operations keep of every tablet.

pub spelled_adds : (old : Entries) (images : List Image) → adds old images ≡ table_of (spell (adds old images))
unfolding adds
spelled_adds old images = spelled_table (spell old ++ images)

pub spelled_nil : [] ≡ table_of (spell [])
spelled_nil = sym table_of-nil

inside_first : (t : Bool) (range : Ends) (key : List ℕ) (e : List ℕ × CellValue) (cell : CellValue) (rest : Option CellValue)
    → eq_by_cmp bytes_cmp key e.0 ≡ t → in_range range e.0 ≡ true → (rest ≡ Some cell → in_range range key ≡ true)
    → cond t (Some e.1) rest ≡ Some cell → in_range range key ≡ true
inside_first true range key e cell rest tied inside later there = ap (in_range range) (tied_keys key e.0 tied) ∙ inside
inside_first false range key e cell rest apart inside later there = later there

-- a key that is found lies in the range
found_inside : (range : Ends) (es : Entries) (key : List ℕ) (cell : CellValue) → lie_in range es ≡ true → find bytes_cmp key es ≡ Some cell → in_range range key ≡ true
found_inside range [] key cell inside there = cc
found_inside range (e ∷ es) key cell inside there =
    inside_first (eq_by_cmp bytes_cmp key e.0) range key e cell (find bytes_cmp key es) refl (first_true (in_range range e.0) (lie_in range es) inside)
    (λ here. found_inside range es key cell (second_true (in_range range e.0) (lie_in range es) inside) here) there

-- so does a key of either
either_inside : (range : Ends) (key : List ℕ) (cell : CellValue) (old more : Option CellValue) → ((c : CellValue) → old ≡ Some c → in_range range key ≡ true)
    → ((c : CellValue) → more ≡ Some c → in_range range key ≡ true) → Some cell ≡ optional_joined cell_joined old more → in_range range key ≡ true
either_inside range key cell None None inside inside_too is = cc
either_inside range key cell None (Some c) inside inside_too is = inside_too c refl
either_inside range key cell (Some c) more inside inside_too is = inside c refl

all_inside : (range : Ends) (table es : Entries) → AllByRecursion (IsAt table) es → ((e : List ℕ × CellValue) → IsAt table e → in_range range e.0 ≡ true) → lie_in range es ≡ true
all_inside range table [] at inside = refl
all_inside range table (e ∷ es) at inside = both_true (in_range range e.0) (lie_in range es) (inside e at.0) (all_inside range table es at.1 inside)

-- what is joined of keys in the range has keys in the range
pub joined_inside : (range : Ends) (old more new : Entries) → Joins old more new → lie_in range old ≡ true → lie_in range more ≡ true → lie_in range new ≡ true
joined_inside range old more new joins inside inside_too =
    all_inside range new new (each_at new joins.rising)
    (λ e at. either_inside range e.0 e.1 (find bytes_cmp e.0 old) (find bytes_cmp e.0 more)
    (λ c. found_inside range old e.0 c inside) (λ c. found_inside range more e.0 c inside_too) (sym at ∙ joins.joined e.0))

-- what a tablet takes keeps it a tablet
pub kept : {range : Ends} {old more new : Entries} {reach farther copied : Positions} {status next : Status} {spare : Option Positions}
    → IsTablet range old reach status spare → lie_in range more ≡ true → Joins old more new → new ≡ adds old (spell more)
    → copied ≡ farther → are_positions (needed next) ≡ true → IsTablet range new farther next (Some copied)
kept {range = range} {old = old} {more = more} {new = new} was inside joins is same needs = record {
  inside = joined_inside range old more new joins was.inside inside;
  spelled = is ∙ spelled_adds old (spell more) ∙ ap (λ m. table_of (spell m)) (sym is);
  needed_positions = needs;
  has_need = same;
}

pub emptied : (cells : Entries) → cells ≡ [] → cells ≡ table_of (spell cells)
emptied cells none = none ∙ spelled_nil ∙ ap (λ m. table_of (spell m)) (sym none)

-- a loss takes the spare copy of the reach as the need
pub lost_spare : {range : Ends} {old new : Entries} {reach need : Positions} {status : Status} {spare after : Option Positions}
    → IsTablet range old reach status spare → are_positions reach ≡ true → new ≡ [] → spare ≡ Some need → after ≡ None → IsTablet range new reach (Recovering need) after
lost_spare {range = range} {new = new} {reach = reach} {need = need} {status = status} was positions none some taken =
    let same : need ≡ reach = subst (λ s. HasNeed s reach status) some was.has_need in
    record {
      inside = subst (λ m. lie_in range m ≡ true) (sym none) refl;
      spelled = emptied new none;
      needed_positions = ap are_positions same ∙ positions;
      has_need = subst (λ s. HasNeed s reach (Recovering need)) (sym taken) (ap Recovering same);
    }

-- a loss right after another keeps its need
pub lost_again : {range : Ends} {old new : Entries} {reach : Positions} {status : Status} {spare after : Option Positions}
    → IsTablet range old reach status spare → new ≡ [] → spare ≡ None → after ≡ None → IsTablet range new reach status after
lost_again {range = range} {new = new} {reach = reach} {status = status} was none some taken = record {
  inside = subst (λ m. lie_in range m ≡ true) (sym none) refl;
  spelled = emptied new none;
  needed_positions = was.needed_positions;
  has_need = subst (λ s. HasNeed s reach status) (sym taken) (subst (λ s. HasNeed s reach status) some was.has_need);
}

-- What drafts of copies become by a mark and by an image more.

-- ---- marks

-- a name that comes after all others
abbrev pub is_after_all : Positions → List ℕ → Bool
is_after_all marks name = list_all (λ other. is_lt (name_cmp other.0 name)) marks

reversed : (o : Ordering) → is_lt o ≡ true → ordering_reverse o ≡ Greater
reversed Less is = refl
reversed Equal is = absurd (cc)
reversed Greater is = absurd (cc)

greater : (name other : List ℕ) → is_lt (name_cmp other name) ≡ true → name_cmp name other ≡ Greater
greater name other less = nat_list_cmp_total.antisymm name other ∙ reversed (name_cmp other name) less

find-after : (marks : Positions) (name : List ℕ) → is_after_all marks name ≡ true → find name_cmp name marks ≡ None
find-after [] name after = refl
find-after (mark ∷ marks) name after =
    let parts = and_parts (is_lt (name_cmp mark.0 name)) (is_after_all marks name) after in
    ap (λ o. cond (is_eq o) (Some mark.1) (find name_cmp name marks)) (greater name mark.0 parts.0) ∙ find-after marks name parts.1

put-after : (marks : Positions) (name : List ℕ) (n : ℕ) → is_after_all marks name ≡ true → put name_cmp name n marks ≡ marks ++ (name, n) ∷ []
put-after [] name n after = refl
put-after (mark ∷ marks) name n after =
    let parts = and_parts (is_lt (name_cmp mark.0 name)) (is_after_all marks name) after in
    ap (λ o. by_order o ((name, n) ∷ mark ∷ marks) ((mark.0, n) ∷ marks) (mark ∷ put name_cmp name n marks)) (greater name mark.0 parts.0)
    ∙ ap (λ l. mark ∷ l) (put-after marks name n parts.1)

-- a mark after all others is the last one
pub raised_marks-after : (marks : Positions) (name : List ℕ) (n : ℕ) → is_after_all marks name ≡ true → raised_marks marks ((name, n) ∷ []) ≡ marks ++ (name, n) ∷ []
raised_marks-after marks name n after =
    ap (λ (o : Option ℕ). put name_cmp name (max (unwrap_or o 0) n) marks) (find-after marks name after)
    ∙ ap (λ m. put name_cmp name m marks) (zero_max n) ∙ put-after marks name n after
  where
    zero_max : (n : ℕ) → max 0 n ≡ n
    zero_max n = omega arith

-- ---- images

-- the table is that of the images that spell it, so it holds them
holds_own : (cells : Entries) → cells ≡ table_of (spell cells) → Holds cells (spell cells)
holds_own cells spelled = subst (λ table. Holds table (spell cells)) (sym spelled) (Holds-table_of (spell cells))

adds_joins : (cells : Entries) (image : Image) → cells ≡ table_of (spell cells) → Joins cells ((image.key, (image.version, set_of (image.content ∷ []))) ∷ []) (adds cells (image ∷ []))
unfolding adds
adds_joins cells image spelled = record {
  rises = refl;
  rising = rising-table_of (spell cells ++ image ∷ []);
  joined = λ key.
      Holds-table_of (spell cells ++ image ∷ []) key ∙ cells-append (spell cells) (image ∷ []) key
      ∙ (λ i. both (sym (holds_own cells spelled key) i) (sym (Holds-one image key) i));
}

pub spelled-with_last : (cells : Entries) (last : Option Image) → cells ≡ table_of (spell cells) → with_last cells last ≡ table_of (spell (with_last cells last))
spelled-with_last cells None spelled = spelled
spelled-with_last cells (Some image) spelled = spelled_adds cells (image ∷ [])

-- an image of a key in the range keeps the cells in it
inside-adds : (range : Ends) (cells : Entries) (image : Image) → cells ≡ table_of (spell cells) → lie_in range cells ≡ true → in_range range image.key ≡ true → lie_in range (adds cells (image ∷ [])) ≡ true
inside-adds range cells image spelled inside here =
    joined_inside range cells ((image.key, (image.version, set_of (image.content ∷ []))) ∷ []) (adds cells (image ∷ [])) (adds_joins cells image spelled) inside (and_from (in_range range image.key) true here refl)

-- an image that was taken into the cells
pub taken : {E : Type 0} (result : Result (Unit {0}) E) (old new : Entries) (image : Image) → old ≡ table_of (spell old)
    → OnOk result ((images : List Image) → Holds old images → Holds new (images ++ image ∷ [])) → OnOk result (IsTrue (is_sorted bytes_cmp new)) → OnOk result (new ≡ adds old (image ∷ []))
taken (Ok u) old new image spelled held rising = held_adds old new (image ∷ []) rising (held (spell old) (holds_own old spelled))
taken (Err e) old new image spelled held rising = tt

-- ---- what holds of all drafts

pub draft-empty : (range : Ends) (marks : Positions) (cells : Entries) → marks ≡ [] → cells ≡ [] → IsDraft range marks cells None
draft-empty range marks cells no_marks no_cells = record {
  inside = subst (λ m. lie_in range m ≡ true) (sym no_cells) refl;
  spelled = no_cells ∙ spelled_nil ∙ ap (λ m. table_of (spell m)) (sym no_cells);
  positions = ap are_positions no_marks;
}

pub draft-mark : (range : Ends) (marks new : Positions) (cells : Entries) (last : Option Image) (name : List ℕ) (n : ℕ)
    → IsDraft range marks cells last → is_position n ≡ true → new ≡ raised_marks marks ((name, n) ∷ []) → IsDraft range new cells last
draft-mark range marks new cells last name n was position is = record {
  inside = was.inside;
  spelled = was.spelled;
  positions = ap are_positions is ∙ are_positions-raised_marks marks ((name, n) ∷ []) was.positions (and_from (is_position n) true position refl);
}

pub draft-image : (range : Ends) (marks : Positions) (cells new : Entries) (last : Option Image) (image : Image)
    → IsDraft range marks cells last → in_range range image.key ≡ true → new ≡ with_last cells last → IsDraft range marks new (Some image)
draft-image range marks cells new last image was here is = record {
  inside = subst (λ m. lie_in range (adds m (image ∷ [])) ≡ true) (sym is) (inside-adds range (with_last cells last) image (spelled-with_last cells last was.spelled) was.inside here);
  spelled = is ∙ spelled-with_last cells last was.spelled ∙ ap (λ m. table_of (spell m)) (sym is);
  positions = was.positions;
}

pub draft-copy : (range : Ends) (marks : Positions) (cells new : Entries) (last : Option Image) → IsDraft range marks cells last → new ≡ with_last cells last → IsCopy range marks new
draft-copy range marks cells new last was is = record {
  inside = subst (λ m. lie_in range m ≡ true) (sym is) was.inside;
  positions = was.positions;
}

-- ---- what each step comes to

pub marked : (n : ℕ) (draft : DraftValue) (name : List ℕ) (position : ℕ) (new : Positions) → is_some draft.last ≡ false → is_after_all draft.marks name ≡ true
    → new ≡ raised_marks draft.marks ((name, position) ∷ []) → with_mark n draft (name, position) ≡ Ok (record draft { marks = new })
marked n draft name position new no_image after is =
    let last : new ≡ draft.marks ++ (name, position) ∷ [] = is ∙ raised_marks-after draft.marks name position after in
    rw (no_image, after, last) refl

pub imaged : (n : ℕ) (draft : DraftValue) (image : Image) (new : Entries) → in_range draft.range image.key ≡ true → option_map_or (λ last. comes_after last image) draft.last true ≡ true
    → new ≡ draft.cells → with_image n draft image ≡ Ok (record draft { cells = adds new (image ∷ []); last = Some image })
imaged n draft image new here after is = rw (here, after, is) refl

pub closed : (n : ℕ) (draft : DraftValue) (count : ℕ) (over : Bool) (new : Entries) → (count == n - 2) ≡ true → over ≡ true → new ≡ draft.cells
    → finish n draft count over ≡ Ok (record { range = draft.range; marks = draft.marks; cells = new })
closed n draft count over new counts is_over is = rw (counts, is_over, is) refl
