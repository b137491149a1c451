-- How many cells are deleted once a join's changes are put, and what is weighed one by one.
use Rattle.std.proofs.Common.{◌≡◌, ℕ, ◌+◌, ◌<◌, ◌≤◌, List, get_or, length, take, map, sym, ap, ◌∙◌, arith, suc, Bool, true, false, not, cond, T, [], ◌∷◌, count_by, Option, Some, None, Less, Equal, Greater, is_eq, refl, subst}
use Rattle.std.specs.List.{sum_by, AllZip}
use Rattle.std.proofs.lemmas.List.{get_or-map, length-map, take_all}
use Rattle.std.proofs.lemmas.List.Sums.{sum_by_more, sum_by-cons, count_by-le-length}
use Rattle.std.specs.FinMap.{find, put, is_sorted}
use Rattle.std.specs.FinMap.Entries.{by_order, find-put, same_entries}
use Rattle.std.proofs.lemmas.Cmp.{nat_list_cmp_total}
use Rattle.std.proofs.lemmas.Map.Lookups.{exact_bytes}
use Rattle.pn_join.specs.TableChanges.{Changes, AreChanges, AreValid, those_there, puts}
use Rattle.pn_join.specs.Tables.{IsTable, optional_joined}
use Rattle.pn_join.specs.declared.table.change.TableChange.{TableChange}
use Rattle.pn_join.proofs.Changing.{puts_joined, valid_changes}
use Rattle.pn_join.proofs.Puts.{IsTable-put}
use Rattle.pn_join.proofs.Rising.{Below, Rising, Rising-from_sorted}
use Rattle.pn_record.specs.Cells.{Entries}
use Rattle.pn_record.specs.Sets.{bytes_cmp, CellValue, HasContents, cell_joined}
use Rattle.pn_record.proofs.CellMaps.{find-joined}
use Rattle.pn_tablet.specs.Tablets.{is_deleted, was_deleted, deleted_in}

-- What is weighed one by one.

-- one more is weighed
pub weight_more : {X Y : Type 0} (weigh : X → ℕ) (f : Y → X) (ys : List Y) (i : ℕ) (y : Y) → y ≡ get_or ys i y → i < length ys
    → sum_by weigh (take (i + 1) (map f ys)) ≡ sum_by weigh (take i (map f ys)) + weigh (f y)
weight_more {X = X} weigh f ys i y here inside =
    let within : i < length (map f ys) = omega (arith, length-map ys f) in
    let at_i : get_or (map f ys) i (f y) ≡ f y = get_or-map f ys i y (f y) inside ∙ ap f (sym here) in
    sum_by_more weigh (map f ys) i (f y) within ∙ ap (λ (x : X). sum_by weigh (take i (map f ys)) + weigh x) at_i

-- all are weighed
pub weight_all : {X Y : Type 0} (weigh : X → ℕ) (f : Y → X) (ys : List Y) (i : ℕ) → length ys ≤ i → sum_by weigh (take i (map f ys)) ≡ sum_by weigh (map f ys)
weight_all {X = X} weigh f ys i past =
    let short : length (map f ys) ≤ i = omega (arith, past, length-map ys f) in
    ap (λ (l : List X). sum_by weigh l) (take_all i (map f ys) short)

-- the same of what is weighed as it is
pub own_more : {X : Type 0} (weigh : X → ℕ) (xs : List X) (i : ℕ) (x : X) → x ≡ get_or xs i x → i < length xs
    → sum_by weigh (take (i + 1) xs) ≡ sum_by weigh (take i xs) + weigh x
own_more {X = X} weigh xs i x here inside = sum_by_more weigh xs i x inside ∙ ap (λ (y : X). sum_by weigh (take i xs) + weigh y) (sym here)

pub own_all : {X : Type 0} (weigh : X → ℕ) (xs : List X) (i : ℕ) → length xs ≤ i → sum_by weigh (take i xs) ≡ sum_by weigh xs
own_all {X = X} weigh xs i past = ap (λ (l : List X). sum_by weigh l) (take_all i xs past)

-- How many cells are deleted once a join's changes are put.

abbrev ReturnedChanges : Type 0
ReturnedChanges = List (TableChange (List ℕ) CellValue)

-- one if so
abbrev pub one : Bool → ℕ
one t = cond t 1 0

-- how many changes bring a deleted cell, and how many take one away
abbrev pub come : ReturnedChanges → ℕ
come table_changes = count_by (λ change. is_deleted change.after) table_changes

abbrev pub gone : ReturnedChanges → ℕ
gone table_changes = count_by (λ change. was_deleted change.before) table_changes

-- the first cell, and those after it
pub first_counted : (e : List ℕ × CellValue) (es : Entries) → deleted_in (e ∷ es) ≡ one (is_deleted e.1) + deleted_in es
first_counted e es = sum_by-cons (λ f. one (is_deleted f.1)) e es

pub few_deleted : (es : Entries) → deleted_in es ≤ length es
few_deleted es = count_by-le-length (λ e. is_deleted e.1) es

one_of_both : (t : Bool) → one t + one (not t) ≡ 1
one_of_both true = refl
one_of_both false = refl

one_more : (a b n m l x y : ℕ) → a + b ≡ 1 → n + m ≡ l → x ≡ a + n → y ≡ b + m → x + y ≡ suc l
one_more a b n m l x y s t p q = omega arith

-- those that are deleted, and those that are not, are all
pub both_counted : (es : Entries) → deleted_in es + count_by (λ e. not (is_deleted e.1)) es ≡ length es
both_counted [] = refl
both_counted (e ∷ es) =
    one_more (one (is_deleted e.1)) (one (not (is_deleted e.1))) (deleted_in es) (count_by (λ e. not (is_deleted e.1)) es) (length es) (deleted_in (e ∷ es)) (count_by (λ e. not (is_deleted e.1)) (e ∷ es))
    (one_of_both (is_deleted e.1)) (both_counted es) (first_counted e es) (sum_by-cons (λ f. one (not (is_deleted f.1))) e es)

-- a key below others is not found among them
missing : (key first : List ℕ) (es : Entries) → bytes_cmp key first ≡ Less → Below bytes_cmp first es → find bytes_cmp key es ≡ None
missing key first [] less below = refl
missing key first (e ∷ es) less below =
    ap (λ r. cond (is_eq r) (Some e.1) (find bytes_cmp key es)) (nat_list_cmp_total.trans key first e.0 less below.0) ∙ missing key first es less below.1

in_front : (c n x : ℕ) → x ≡ c + n → 0 + x ≡ c + n
in_front c n x p = omega arith

in_place : (a c n x y : ℕ) → x ≡ c + n → y ≡ a + n → a + x ≡ c + y
in_place a c n x y p q = omega arith

behind : (a w c n m x y : ℕ) → w + m ≡ c + n → x ≡ a + m → y ≡ a + n → w + x ≡ c + y
behind a w c n m x y s p q = omega arith

-- a put replaces the cell that was at the key
put_counted : (key : List ℕ) (cell : CellValue) (es : Entries) → Rising bytes_cmp es → one (was_deleted (find bytes_cmp key es)) + deleted_in (put bytes_cmp key cell es) ≡ one (is_deleted cell) + deleted_in es
put_counted key cell [] rising = in_front (one (is_deleted cell)) (deleted_in []) (deleted_in ((key, cell) ∷ [])) (first_counted (key, cell) [])
put_counted key cell (e ∷ es) rising =
    elim (bytes_cmp key e.0) as (λ r. bytes_cmp key e.0 ≡ r → one (was_deleted (cond (is_eq r) (Some e.1) (find bytes_cmp key es))) + deleted_in (by_order r ((key, cell) ∷ e ∷ es) ((e.0, cell) ∷ es) (e ∷ put bytes_cmp key cell es)) ≡ one (is_deleted cell) + deleted_in (e ∷ es)) [
      | Less ↦ λ p. subst (λ (o : Option CellValue). one (was_deleted o) + deleted_in ((key, cell) ∷ e ∷ es) ≡ one (is_deleted cell) + deleted_in (e ∷ es)) (sym (missing key e.0 es p rising.0))
          (in_front (one (is_deleted cell)) (deleted_in (e ∷ es)) (deleted_in ((key, cell) ∷ e ∷ es)) (first_counted (key, cell) (e ∷ es)))
      | Equal ↦ λ p. in_place (one (is_deleted e.1)) (one (is_deleted cell)) (deleted_in es) (deleted_in ((e.0, cell) ∷ es)) (deleted_in (e ∷ es)) (first_counted (e.0, cell) es) (first_counted e es)
      | Greater ↦ λ p. behind (one (is_deleted e.1)) (one (was_deleted (find bytes_cmp key es))) (one (is_deleted cell)) (deleted_in es) (deleted_in (put bytes_cmp key cell es)) (deleted_in (e ∷ put bytes_cmp key cell es)) (deleted_in (e ∷ es))
          (put_counted key cell es rising.1) (first_counted e (put bytes_cmp key cell es)) (first_counted e es)
    ] refl

abbrev Each : Entries → Entries → List (Option (TableChange (List ℕ) CellValue)) → Type 0
Each old es made = AllZip (Changes bytes_cmp (λ cell. cell) cell_joined HasContents old) es made

-- changes alter nothing at a lesser key
puts_above : (key : List ℕ) (old es : Entries) (made : List (Option (TableChange (List ℕ) CellValue))) → Below bytes_cmp key es → Each old es made
    → find bytes_cmp key (puts bytes_cmp old (those_there made)) ≡ find bytes_cmp key old
puts_above key old [] [] below all = refl
puts_above key old [] (m ∷ ms) below all = absurd all
puts_above key old (e ∷ es) [] below all = absurd all
puts_above key old (e ∷ es) (None ∷ ms) below all = puts_above key old es ms below.1 all.1
puts_above key old (e ∷ es) (Some change ∷ ms) below all =
    let others : Entries = puts bytes_cmp old (those_there ms) in
    find-put bytes_cmp nat_list_cmp_total key change.key change.after others
    ∙ ap (λ r. cond (is_eq r) (Some change.after) (find bytes_cmp key others)) (ap (λ (other : List ℕ). bytes_cmp key other) all.0.key ∙ below.0)
    ∙ puts_above key old es ms below.1 all.1

puts_table : (old : Entries) (table_changes : ReturnedChanges) → IsTable bytes_cmp HasContents old → AreValid HasContents table_changes → IsTable bytes_cmp HasContents (puts bytes_cmp old table_changes)
puts_table old [] table valid = table
puts_table old (change ∷ table_changes) table valid =
    IsTable-put bytes_cmp nat_list_cmp_total HasContents change.key change.after (puts bytes_cmp old table_changes) valid.0 (puts_table old table_changes table valid.1)

one_change : (w c g k n before after x y : ℕ) → w + n ≡ c + after → g + after ≡ k + before → x ≡ w + g → y ≡ c + k → x + n ≡ y + before
one_change w c g k n before after x y s t p q = omega arith

-- the changes that bring a deleted cell and those that take one away are all that the count changes by
puts_counted : (old es : Entries) (made : List (Option (TableChange (List ℕ) CellValue))) → IsTable bytes_cmp HasContents old → Rising bytes_cmp es → Each old es made
    → gone (those_there made) + deleted_in (puts bytes_cmp old (those_there made)) ≡ come (those_there made) + deleted_in old
puts_counted old [] [] table rising all = refl
puts_counted old [] (m ∷ ms) table rising all = absurd all
puts_counted old (e ∷ es) [] table rising all = absurd all
puts_counted old (e ∷ es) (None ∷ ms) table rising all = puts_counted old es ms table rising.1 all.1
puts_counted old (e ∷ es) (Some change ∷ ms) table rising all =
    let table_changes : ReturnedChanges = those_there ms in
    let others : Entries = puts bytes_cmp old table_changes in
    let put_last : Entries = put bytes_cmp change.key change.after others in
    let below : Below bytes_cmp change.key es = subst (λ (key : List ℕ). Below bytes_cmp key es) (sym all.0.key) rising.0 in
    let before : find bytes_cmp change.key others ≡ change.before = puts_above change.key old es ms below all.1 ∙ ap (λ (key : List ℕ). find bytes_cmp key old) all.0.key ∙ sym all.0.before in
    let valid : AreValid HasContents table_changes = valid_changes bytes_cmp (λ cell. cell) cell_joined HasContents old es ms all.1 in
    let rise : Rising bytes_cmp others = Rising-from_sorted bytes_cmp others (puts_table old table_changes table valid).rising in
    one_change (one (was_deleted change.before)) (one (is_deleted change.after)) (gone table_changes) (come table_changes) (deleted_in put_last) (deleted_in old) (deleted_in others) (gone (change ∷ table_changes)) (come (change ∷ table_changes))
    (subst (λ (o : Option CellValue). one (was_deleted o) + deleted_in put_last ≡ one (is_deleted change.after) + deleted_in others) before (put_counted change.key change.after others rise))
    (puts_counted old es ms table rising.1 all.1)
    (sum_by-cons (λ (c : TableChange (List ℕ) CellValue). one (was_deleted c.before)) change table_changes)
    (sum_by-cons (λ (c : TableChange (List ℕ) CellValue). one (is_deleted c.after)) change table_changes)

-- a join changes the count by what its changes bring and take away
pub joined_count : (old more new : Entries) (table_changes : ReturnedChanges) → IsTable bytes_cmp HasContents old → IsTable bytes_cmp HasContents more
    → AreChanges bytes_cmp (λ cell. cell) cell_joined HasContents old more table_changes → is_sorted bytes_cmp new ≡ true
    → ((key : List ℕ) → find bytes_cmp key new ≡ optional_joined cell_joined (find bytes_cmp key old) (find bytes_cmp key more))
    → gone table_changes + deleted_in new ≡ come table_changes + deleted_in old
joined_count old more new table_changes table others are rising joined =
    let made : ReturnedChanges = those_there are.made in
    let valid : AreValid HasContents table_changes = subst (AreValid HasContents) (sym are.are) (valid_changes bytes_cmp (λ cell. cell) cell_joined HasContents old more are.made are.each) in
    let is : new ≡ puts bytes_cmp old table_changes =
    same_entries bytes_cmp nat_list_cmp_total exact_bytes new (puts bytes_cmp old table_changes) (subst T (sym rising) tt) (subst T (sym (puts_table old table_changes table valid).rising) tt)
    (λ q. joined q ∙ sym (find-joined old more (puts bytes_cmp old table_changes) (puts_joined bytes_cmp nat_list_cmp_total (λ cell. cell) cell_joined HasContents old more table_changes others are) q)) in
    subst (λ (es : Entries). gone table_changes + deleted_in es ≡ come table_changes + deleted_in old) (sym is)
    (subst (λ (list : ReturnedChanges). gone list + deleted_in (puts bytes_cmp old list) ≡ come list + deleted_in old) (sym are.are)
    (puts_counted old more are.made table (Rising-from_sorted bytes_cmp more others.rising) are.each))
