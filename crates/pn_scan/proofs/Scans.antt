-- A page that looks into one tablet after another, from its beginning to its last row.
use Rattle.std.proofs.Common.{◌≡◌, ℕ, zero, suc, ◌+◌, ◌<◌, [], ◌++◌, take, Option, refl, sym, ◌∙◌, subst, arith, ◌-◌, List, ◌∷◌, length, slice_get, Some, None, ap, ◌≤◌, Bool, true, false, drop, Ok, append-nil, length-append}
use Rattle.std.specs.Prelude.{IfSome}
use Rattle.std.specs.List.{last_or, AllByRecursion, flat_map}
use Rattle.std.specs.Option.{option_or}
use Rattle.std.proofs.Math.Seq.{take-append-add}
use Rattle.std.proofs.lemmas.List.{take_all, take-append-le, take-append-drop, length-take}
use Rattle.std.proofs.lemmas.List.Elements.{filter-append}
use Rattle.std.proofs.lemmas.Grind.{flat_map-append}
use Rattle.pn_record.specs.Cells.{Entries}
use Rattle.pn_tablet.specs.Layouts.{Bounds}
use Rattle.pn_tablet.specs.Steps.{IsRight}
use Rattle.pn_scan.specs.Pages.{Look, cells_in, rows_in, refusal, first_refusal, unless}
use Rattle.pn_scan.specs.Paging.{IsNewWalk, IsOnPage, rows_to_come}
use Rattle.pn_scan.specs.Queries.{QueryValue}
use Rattle.pn_scan.specs.WalkValues.{PageWalkValue, PartWalkValue}
use Rattle.pn_scan.specs.Shown.{is_shown, shown_rows}
use Rattle.pn_scan.specs.Views.{IsFoundIn, Looks, GoesOn}
use Rattle.pn_scan.specs.declared.view.ScanFault.{ScanFault}
use Rattle.pn_scan.proofs.Continuing.{AllFew}

-- A page of which nothing was looked for is as far as no look leads.

abbrev no_rows : Entries
no_rows = []

none_taken : (n : ℕ) → take n no_rows ≡ []
none_taken zero = refl
none_taken (suc n) = refl

pub new_page : {V : Type 0} (looks : V → Look → V → Type 0) (bounds : Bounds) (query : QueryValue) (walk : PageWalkValue) → IsNewWalk bounds query walk → IsOnPage looks bounds query walk []
new_page looks bounds query walk new = record {
  made = tt;
  visit = record {
    found = tt;
    order = refl;
    only = λ n inside. absurd (omega (arith, inside));
  };
  none_refused = refl;
  to_come = new.2;
  rows_are = (λ i. new.0 i ++ rows_to_come query (new.1 i)) ∙ sym (none_taken (query.limit + 1));
  begun = subst (λ (o : Option PartWalkValue). IfSome o (λ part. 0 < 0)) (sym new.1) tt;
}

-- The last of the rows of a page.

last_at : {A : Type 0} (o : Option A) (x : A) (xs : List A) → last_or o (x ∷ xs) ≡ slice_get (x ∷ xs) (length xs)
last_at o x [] = refl
last_at o x (y ∷ ys) = last_at (Some x) y ys

-- the last item is that at the last index
pub last_index : {A : Type 0} (xs : List A) → last_or None xs ≡ slice_get xs (length xs - 1)
last_index [] = refl
last_index (x ∷ xs) = let e : length xs ≡ suc (length xs) - 1 = omega arith in last_at None x xs ∙ ap (slice_get (x ∷ xs)) e

-- The looks of a page, one after another.

-- one look more
pub looks_more : {V : Type 0} (looks : V → Look → V → Type 0) (old between new : V) (seen : List Look) (look : Look) → Looks looks old seen between → looks between look new → Looks looks old (seen ++ look ∷ []) new
looks_more looks old between new [] look before last = (new, subst (λ v. looks v look new) before last, refl)
looks_more looks old between new (first ∷ seen) look before last = (before.0, before.1, looks_more looks before.0 between new seen look before.2 last)

pub found_more : (bounds : Bounds) (seen : List Look) (look : Look) → AllByRecursion (IsFoundIn bounds) seen → IsFoundIn bounds look → AllByRecursion (IsFoundIn bounds) (seen ++ look ∷ [])
found_more bounds [] look before last = (last, tt)
found_more bounds (first ∷ seen) look before last = (before.0, found_more bounds seen look before.1 last)

pub rows-append : (query : QueryValue) (seen others : List Look) → rows_in query (seen ++ others) ≡ rows_in query seen ++ rows_in query others
rows-append query seen others =
    ap (shown_rows query) (flat_map-append (λ (look : Look). cells_in look.1) seen others)
    ∙ filter-append (is_shown query) (flat_map (λ (look : Look). cells_in look.1) seen) (flat_map (λ (look : Look). cells_in look.1) others)

-- the rows of one look more
pub rows_more : (query : QueryValue) (seen : List Look) (look : Look) → rows_in query (seen ++ look ∷ []) ≡ rows_in query seen ++ shown_rows query (cells_in look.1)
rows_more query seen look = rows-append query seen (look ∷ []) ∙ ap (λ (es : Entries). rows_in query seen ++ shown_rows query es) (append-nil (cells_in look.1))

pub or_none : {A : Type 0} (o p : Option A) → option_or o p ≡ None → (o ≡ None) × (p ≡ None)
or_none None p none = (refl, none)
or_none (Some x) p none = cc

or_nothing : {A : Type 0} (o : Option A) → option_or o None ≡ o
or_nothing None = refl
or_nothing (Some x) = refl

pub none_refused_front : (n : ℕ) (seen : List Look) → first_refusal seen ≡ None → first_refusal (take n seen) ≡ None
none_refused_front zero seen none = refl
none_refused_front (suc n) [] none = refl
none_refused_front (suc n) (look ∷ seen) none =
    let parts = or_none (refusal look) (first_refusal seen) none in
    λ i. option_or (parts.0 i) (none_refused_front n seen parts.1 i)

-- where none was refused before, the last look decides
pub refused_last : (seen : List Look) (look : Look) → first_refusal seen ≡ None → first_refusal (seen ++ look ∷ []) ≡ refusal look
refused_last [] look none = or_nothing (refusal look)
refused_last (first ∷ seen) look none =
    let parts = or_none (refusal first) (first_refusal seen) none in
    ap (λ (o : Option ScanFault). option_or o (first_refusal (seen ++ look ∷ []))) parts.0 ∙ refused_last seen look parts.1

few_front : (query : QueryValue) (n : ℕ) (seen : List Look) → length (rows_in query (take n seen)) ≤ length (rows_in query seen)
few_front query n seen =
    let all : rows_in query seen ≡ rows_in query (take n seen) ++ rows_in query (drop n seen) = ap (rows_in query) (sym (take-append-drop n seen)) ∙ rows-append query (take n seen) (drop n seen) in
    let size = ap (λ (es : Entries). length es) all ∙ length-append (rows_in query (take n seen)) (rows_in query (drop n seen)) in
    omega (arith, size)

goes_on_before : (query : QueryValue) (n : ℕ) (seen : List Look) → GoesOn query seen → GoesOn query (take n seen)
goes_on_before query n seen on = record { none_refused = none_refused_front n seen on.none_refused; few = omega (arith, few_front query n seen, on.few) }

pub goes_on_more : (query : QueryValue) (seen : List Look) (look : Look) (n : ℕ) → GoesOn query seen → n < length (seen ++ look ∷ []) → GoesOn query (take n (seen ++ look ∷ []))
goes_on_more query seen look n on inside =
    let short : n ≤ length seen = omega (arith, length-append seen (look ∷ []), inside) in
    subst (GoesOn query) (sym (take-append-le n seen (look ∷ []) short)) (goes_on_before query n seen on)

pub few_more : (query : QueryValue) (seen : List Look) (look : Look) → GoesOn query seen → AllFew query (seen ++ look ∷ [])
few_more query seen look on k inside = (goes_on_more query seen look k on inside).few

pub is_right_too : {A B : Type 0} (memory : Bool) (why : ScanFault) (o : Option ScanFault) (a : A) (b : B) → IsRight memory why (unless o a) → IsRight memory why (unless o b)
is_right_too true why None a b right = refl
is_right_too true why (Some w) a b right = right
is_right_too false why None a b right = cc
is_right_too false why (Some w) a b right = cc

pub ok_value : {A : Type 0} (o : Option ScanFault) (a b : A) → unless o a ≡ Ok b → (o ≡ None) × (b ≡ a)
ok_value None a b is = (refl, cc)
ok_value (Some w) a b is = cc

-- the rows with those of one tablet more are the first of all
pub after_front : (limit : ℕ) (rows shown all : Entries) → length rows ≤ limit → all ≡ rows ++ shown → rows ++ take (limit + 1 - length rows) shown ≡ take (limit + 1) all
after_front limit rows shown all few is =
    let room : length rows + (limit + 1 - length rows) ≡ limit + 1 = omega arith in
    sym (take-append-add rows shown (limit + 1 - length rows)) ∙ ap (λ n. take n (rows ++ shown)) room ∙ ap (λ (es : Entries). take (limit + 1) es) (sym is)

pub all_taken : (limit : ℕ) (all : Entries) → length (take (limit + 1) all) ≤ limit → take (limit + 1) all ≡ all
all_taken limit all few = take_all (limit + 1) all (omega (arith, length-take (limit + 1) all, few))

pub more_left : (limit : ℕ) (all : Entries) → limit < length (take (limit + 1) all) → limit < length all
more_left limit all more = omega (arith, length-take (limit + 1) all, more)

pub some_seen : (query : QueryValue) (n : ℕ) (seen : List Look) → n < length (take (query.limit + 1) (rows_in query seen)) → 0 < length seen
some_seen query n [] some = absurd (omega (arith, length-take (query.limit + 1) (rows_in query []), some))
some_seen query n (look ∷ seen) some = omega arith
