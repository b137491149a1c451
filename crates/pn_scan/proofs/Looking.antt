-- Walks over some of the records of a tablet, which are resumed over the others.
use Rattle.std.proofs.Common.{◌≡◌, ℕ, zero, suc, ◌+◌, ◌-◌, ◌*◌, ◌^◌, ◌<◌, ◌≤◌, ◌⊎◌, Bool, true, false, not, ◌&&◌, ◌||◌, cond, List, [], ◌∷◌, ◌++◌, length, take, drop, max, Option, Some, None, nat_lt, refl, sym, ap, ◌∙◌, subst, inl, inr, arith, append-nil, append_assoc, length-drop}
use Rattle.std.specs.FinMap.{keys}
use Rattle.std.specs.List.{list_any}
use Rattle.std.specs.Prelude.{slice_range}
use Rattle.std.proofs.lemmas.List.{take-append-drop, drop-drop}
use Rattle.std.proofs.lemmas.List.Elements.{filter-append}
use Rattle.pn_join.proofs.Rising.{Below, Rising}
use Rattle.pn_record.specs.Cells.{Entries}
use Rattle.pn_record.specs.Limits.{ContentValue}
use Rattle.pn_record.specs.Sets.{bytes_cmp, CellValue}
use Rattle.pn_tablet.specs.Layouts.{is_below, is_from, is_before}
use Rattle.pn_scan.specs.Queries.{shows, QueryValue}
use Rattle.pn_scan.specs.Paging.{walk_answer}
use Rattle.pn_scan.specs.Shown.{is_after, is_asked, is_shown, is_shown_from, rows_from, shown_rows, contents_work, records_work, shows_from}
use Rattle.pn_scan.proofs.Walking.{NoneBelow, lesser_at, not_asked, hidden_first, shown_first, and_first, and_mid, none_past, from_there}

module _ {A : Type 0} where
  -- one record more
  dropped_suc : (n : ℕ) (es : List A) (e : A) (more : List A) → drop n es ≡ e ∷ more → drop (suc n) es ≡ more
  dropped_suc zero [] e more is = cc
  dropped_suc zero (x ∷ es) e more is = cc
  dropped_suc (suc n) [] e more is = cc
  dropped_suc (suc n) (x ∷ es) e more is = dropped_suc n es e more is

  pub dropped_more : (n : ℕ) (es : List A) (e : A) (more : List A) → e ∷ more ≡ drop n es → more ≡ drop (n + 1) es
  dropped_more n es e more is = let one : suc n ≡ n + 1 = omega arith in sym (dropped_suc n es e more (sym is)) ∙ ap (λ k. drop k es) one

  -- what stands after an index stands below the end
  pub stands_below : (n : ℕ) (es : List A) (e : A) (more : List A) → e ∷ more ≡ drop n es → n < length es
  stands_below n es e more is = omega (arith, length-drop n es, ap (λ (l : List A). length l) is)

pub shown-append : (q : QueryValue) (xs ys : Entries) → shown_rows q (xs ++ ys) ≡ shown_rows q xs ++ shown_rows q ys
shown-append q xs ys = filter-append (is_shown q) xs ys

shown-parts : (q : QueryValue) (n : ℕ) (es : Entries) → shown_rows q es ≡ shown_rows q (take n es) ++ shown_rows q (drop n es)
shown-parts q n es = ap (shown_rows q) (sym (take-append-drop n es)) ∙ shown-append q (take n es) (drop n es)

not_true : (b : Bool) → not b ≡ true → b ≡ false
not_true true is = cc
not_true false is = refl

-- where none is below the end of a query, none is shown
none_from : (q : QueryValue) (to : List ℕ) (es : Entries) → q.to ≡ Some to → NoneBelow (Some to) es → shown_rows q es ≡ []
none_from q to [] is above = refl
none_from q to (e ∷ es) is above =
    let past : is_before q.to e.0 ≡ false = ap (λ end. is_before end e.0) is ∙ not_true (is_below e.0 to) above.0 in
    hidden_first q e es (not_asked q e (and_mid (is_from q.from e.0) _ _ past)) ∙ none_from q to es is above.1

-- from the index of the end of a query on, none is shown
pub none_from_end : (q : QueryValue) (to : List ℕ) (es : Entries) (n : ℕ) → q.to ≡ Some to → Rising bytes_cmp es → n ≡ lesser_at (Some to) es → shown_rows q (drop n es) ≡ []
none_from_end q to es n is rising at = none_from q to (drop n es) is (from_there (Some to) es n rising (omega (arith, at)))

none_in : (xs ys : Entries) → xs ++ ys ≡ [] → ys ≡ []
none_in [] ys none = none
none_in (x ∷ xs) ys none = cc

none_later_on : (q : QueryValue) (n : ℕ) (es : Entries) → shown_rows q es ≡ [] → shown_rows q (drop n es) ≡ []
none_later_on q n es none = none_in (shown_rows q (take n es)) (shown_rows q (drop n es)) (sym (shown-parts q n es) ∙ none)

-- what stands past a part that goes to the end of the query, or past it, is not shown
hidden_past : (q : QueryValue) (es : Entries) (i end to : ℕ) → shown_rows q (drop end es) ≡ [] → to ≡ max end i → shown_rows q (drop (to - i) (drop i es)) ≡ []
hidden_past q es i end to none is =
    let size : i + (to - i) ≡ end + (to - end) = omega arith in
    let past : drop (to - i) (drop i es) ≡ drop (to - end) (drop end es) = drop-drop (to - i) i es ∙ ap (λ k. drop k es) size ∙ sym (drop-drop (to - end) end es) in
    ap (shown_rows q) past ∙ none_later_on q (to - end) (drop end es) none

-- from the first content on it is as from none
pub rows_whole : (q : QueryValue) (es : Entries) → rows_from q 0 es ≡ shown_rows q es
rows_whole q [] = refl
rows_whole q (e ∷ es) = refl

-- a first record that is not shown, and one that is
hidden_from : (q : QueryValue) (seen : ℕ) (e : List ℕ × CellValue) (es : Entries) → is_shown_from q seen e ≡ false → rows_from q seen (e ∷ es) ≡ shown_rows q es
hidden_from q seen e es hidden = ap (λ b. cond b (e ∷ shown_rows q es) (shown_rows q es)) hidden

pub hidden_step : (q : QueryValue) (seen : ℕ) (e : List ℕ × CellValue) (es left rows all : Entries) → left ≡ e ∷ es → is_shown_from q seen e ≡ false → rows ++ rows_from q seen left ≡ all → rows ++ rows_from q 0 es ≡ all
hidden_step q seen e es left rows all step hidden was =
    ap (λ (l : Entries). rows ++ l) (rows_whole q es ∙ sym (hidden_from q seen e es hidden)) ∙ ap (λ (l : Entries). rows ++ rows_from q seen l) (sym step) ∙ was

pub shown_step : (q : QueryValue) (seen : ℕ) (e : List ℕ × CellValue) (es left rows more all : Entries) → left ≡ e ∷ es → is_shown_from q seen e ≡ true → more ≡ rows ++ e ∷ [] → rows ++ rows_from q seen left ≡ all → more ++ rows_from q 0 es ≡ all
shown_step q seen e es left rows more all step shown is was =
    ap (λ (l : Entries). l ++ rows_from q 0 es) is
    ∙ append_assoc rows (e ∷ []) (rows_from q 0 es)
    ∙ ap (λ (l : Entries). rows ++ e ∷ l) (rows_whole q es)
    ∙ ap (λ b. rows ++ cond b (e ∷ shown_rows q es) (shown_rows q es)) (sym shown)
    ∙ ap (λ (l : Entries). rows ++ rows_from q seen l) (sym step)
    ∙ was

-- a first record that is shown, and the row that has no room
pub shown_there : (q : QueryValue) (seen : ℕ) (e : List ℕ × CellValue) (es left rows all : Entries) → left ≡ e ∷ es → is_shown_from q seen e ≡ true → rows ++ rows_from q seen left ≡ all → rows ++ e ∷ shown_rows q es ≡ all
shown_there q seen e es left rows all step shown was =
    ap (λ b. rows ++ cond b (e ∷ shown_rows q es) (shown_rows q es)) (sym shown) ∙ ap (λ (l : Entries). rows ++ rows_from q seen l) (sym step) ∙ was

-- within a record whose contents so far do not show it
pub seen_step : (q : QueryValue) (seen end : ℕ) (e : List ℕ × CellValue) (es left now rows all : Entries) → left ≡ e ∷ es → now ≡ left → is_shown_from q end e ≡ is_shown_from q seen e → rows ++ rows_from q seen left ≡ all → rows ++ rows_from q end now ≡ all
seen_step q seen end e es left now rows all step is same was =
    ap (λ (l : Entries). rows ++ rows_from q end l) (is ∙ step)
    ∙ ap (λ b. rows ++ cond b (e ∷ shown_rows q es) (shown_rows q es)) same
    ∙ ap (λ (l : Entries). rows ++ rows_from q seen l) (sym step)
    ∙ was

not_asked_from : (q : QueryValue) (seen : ℕ) (e : List ℕ × CellValue) → is_asked q e.0 ≡ false → is_shown_from q seen e ≡ false
not_asked_from q seen e outside = ap (λ b. b && shows_from q.conditions seen (keys e.1.1)) outside

-- past the end of the query none is shown
pub past_rows : (q : QueryValue) (seen : ℕ) (e : List ℕ × CellValue) (es left rows all : Entries) → left ≡ e ∷ es → is_before q.to e.0 ≡ false → Rising bytes_cmp left → rows ++ rows_from q seen left ≡ all → rows ++ [] ≡ all
past_rows q seen e es left rows all step past rising was =
    let outside : is_asked q e.0 ≡ false = and_mid (is_from q.from e.0) _ (is_after q.after e.0) past in
    let others = sym (hidden_first q e es (not_asked q e outside)) ∙ none_past q e es past (subst (λ (l : Entries). Rising bytes_cmp l) step rising) in
    ap (λ (l : Entries). rows ++ l) (sym (hidden_from q seen e es (not_asked_from q seen e outside) ∙ others)) ∙ ap (λ (l : Entries). rows ++ rows_from q seen l) (sym step) ∙ was

-- at the end of the records none is left
pub no_rows : (q : QueryValue) (seen : ℕ) (left rows all : Entries) → left ≡ [] → rows ++ rows_from q seen left ≡ all → rows ++ [] ≡ all
no_rows q seen left rows all none was = ap (λ (l : Entries). rows ++ rows_from q seen l) (sym none) ∙ was

-- contents that do not show a record from the first on do not from a later one on
or_right : (a b : Bool) → (a || b) ≡ false → b ≡ false
or_right true b is = cc
or_right false b is = is

none_after : (p : ContentValue → Bool) (n : ℕ) (xs : List ContentValue) → list_any p xs ≡ false → list_any p (drop n xs) ≡ false
none_after p zero xs none = none
none_after p (suc n) [] none = refl
none_after p (suc n) (x ∷ xs) none = none_after p n xs (or_right (p x) (list_any p xs) none)

and_later : (a b c : Bool) → (b ≡ false → c ≡ false) → (a && b) ≡ false → (a && c) ≡ false
and_later true b c later none = later none
and_later false b c later none = refl

hidden_later : (q : QueryValue) (seen : ℕ) (e : List ℕ × CellValue) → is_shown q e ≡ false → is_shown_from q seen e ≡ false
hidden_later q seen e hidden = and_later (is_asked q e.0) _ _ (none_after (λ content. shows q.conditions content.0) seen (keys e.1.1)) hidden

-- where no record is shown, none is from a later content on
none_from_there : (q : QueryValue) (seen : ℕ) (es : Entries) → shown_rows q es ≡ [] → rows_from q seen es ≡ []
none_from_there q seen [] none = refl
none_from_there q seen (e ∷ es) none =
    elim (is_shown q e) as (λ b. is_shown q e ≡ b → rows_from q seen (e ∷ es) ≡ []) [
      | true ↦ λ shown. let some = sym (shown_first q e es shown) ∙ none in cc
      | false ↦ λ hidden. hidden_from q seen e es (hidden_later q seen e hidden) ∙ sym (hidden_first q e es hidden) ∙ none
    ] refl

-- the first records show what all show, where the others show none
front_shows : (q : QueryValue) (n : ℕ) (es : Entries) → shown_rows q (drop n es) ≡ [] → shown_rows q (take n es) ≡ shown_rows q es
front_shows q n es none = sym (shown-parts q n es ∙ ap (λ (rows : Entries). shown_rows q (take n es) ++ rows) none ∙ append-nil (shown_rows q (take n es)))

front_from : (q : QueryValue) (seen n : ℕ) (es : Entries) → shown_rows q (drop n es) ≡ [] → rows_from q seen (take n es) ≡ rows_from q seen es
front_from q seen zero es none = sym (none_from_there q seen es none)
front_from q seen (suc n) [] none = refl
front_from q seen (suc n) (e ∷ es) none = ap (λ (l : Entries). cond (is_shown_from q seen e) (e ∷ l) l) (front_shows q n es none)

-- the same rows come to the same answer
pub same_answer : (q : QueryValue) (room before after : ℕ) (rows rest others more : Entries) → rows ++ rows_from q before rest ≡ others ++ rows_from q after more
    → walk_answer q (record { rows = rows; rest = rest; seen = before; room = room }) ≡ walk_answer q (record { rows = others; rest = more; seen = after; room = room })
same_answer q room before after rows rest others more is = ap (λ (all : Entries). (take room all, nat_lt room (length all))) is

-- a walk from the first record that may be shown comes to the same
pub begun_answer : (q : QueryValue) (cells : Entries) (index room : ℕ) (rows : Entries) → rows ≡ [] → shown_rows q (drop index cells) ≡ shown_rows q cells
    → walk_answer q (record { rows = rows; rest = drop index cells; seen = 0; room = room }) ≡ walk_answer q (record { rows = []; rest = cells; seen = 0; room = room })
begun_answer q cells index room rows none shown =
    same_answer q room 0 0 rows (drop index cells) [] cells (λ i. none i ++ (rows_whole q (drop index cells) ∙ shown ∙ sym (rows_whole q cells)) i)

-- over the part that was taken
pub slice_answer : (q : QueryValue) (cells rest : Entries) (index seen end to room : ℕ) (rows : Entries) → rest ≡ slice_range cells index to → shown_rows q (drop end cells) ≡ [] → to ≡ max end index
    → walk_answer q (record { rows = rows; rest = rest; seen = seen; room = room }) ≡ walk_answer q (record { rows = rows; rest = drop index cells; seen = seen; room = room })
slice_answer q cells rest index seen end to room rows is none at =
    same_answer q room seen seen rows rest rows (drop index cells)
    (ap (λ (l : Entries). rows ++ l) (ap (rows_from q seen) is ∙ front_from q seen (to - index) (drop index cells) (hidden_past q cells index end to none at)))

-- how far a walk came: it is not before its beginning, and is past it where it did something
pub went : (from at seen now done most : ℕ) → ((at ≡ from) × (now ≡ seen) × (done ≡ 0)) ⊎ (from < at) → most ≤ done → 0 < most → (from < at) ⊎ (seen < now)
went from at seen now done most (inl same) all some = absurd (omega (arith, same.2, all, some))
went from at seen now done most (inr less) all some = inl less

pub not_back : (from at seen now done : ℕ) → ((at ≡ from) × (now ≡ seen) × (done ≡ 0)) ⊎ (from < at) → from ≤ at
not_back from at seen now done (inl same) = omega (arith, same.0)
not_back from at seen now done (inr less) = omega (arith, less)

pub went_within : (from at seen now done end work : ℕ) → ((at ≡ from) × (now ≡ seen) × (done ≡ 0)) ⊎ (from < at) → work ≡ done + 1 → (work ≤ 1 → now < end) → (from < at) ⊎ (seen < end)
went_within from at seen now done end work (inl same) is nearer = let one : work ≤ 1 = omega (arith, is, same.2) in inr (omega (arith, same.1, nearer one))
went_within from at seen now done end work (inr less) is nearer = inl less

-- a look gets nearer by records, or by contents of the first one
pub nearer_part : (size index end seen now : ℕ) → end < size → index ≤ end → seen < 2 ^ 64 → (index < end) ⊎ (seen < now)
    → suc (size - end) * 2 ^ 64 - now < suc (size - index) * 2 ^ 64 - seen
nearer_part size index end seen now within back few (inl less) = omega (arith, within, back, few, less)
nearer_part size index end seen now within back few (inr less) = omega (arith, within, back, few, less)

-- what was looked at, record by record
pub work_step : (q : QueryValue) (seen : ℕ) (e : List ℕ × CellValue) (es left : Entries) → left ≡ e ∷ es
    → records_work q.conditions seen left ≡ 1 + contents_work q.conditions (drop seen (keys e.1.1)) + records_work q.conditions 0 es
work_step q seen e es left step = ap (λ (l : Entries). records_work q.conditions seen l) step

-- the key is between the ends, and one content does
pub asked_there : (a b c s t : Bool) → b ≡ true → s ≡ t → (a && c && s) ≡ ((a && b && c) && t)
asked_there true true true s t p r = r
asked_there true true false s t p r = refl
asked_there false true c s t p r = refl
asked_there a false c s t p r = cc
