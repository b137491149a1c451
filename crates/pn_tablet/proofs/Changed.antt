-- The changes that a join of tables reports are the changes of the cells.
use Rattle.std.proofs.Common.{◌≡◌, ℕ, List, IsTrue, suc, ◌≤◌, length, Bool, true, false, not, cond, [], ◌∷◌, map, filter, Option, Some, None, refl, sym, ap, ◌∙◌, subst, arith, ◌≢◌, option_map}
use Rattle.std.specs.FinMap.{find, is_sorted}
use Rattle.std.specs.List.{AllByRecursion, filter_map, cons_option, AllZip}
use Rattle.pn_join.specs.Tables.{optional_joined}
use Rattle.pn_join.specs.TableChanges.{Changes, those_there, AreChanges}
use Rattle.pn_join.specs.declared.table.change.TableChange.{TableChange}
use Rattle.pn_record.specs.Sets.{bytes_cmp, cell_joined, CellValue, Stamp, HasContents}
use Rattle.pn_record.specs.Cells.{Entries, same_at}
use Rattle.pn_record.proofs.Differing.{IsAt, each_at, units, differs, same_chosen, same_at-itself, same_at-another}
use Rattle.pn_tablet.specs.Steps.{version_at, change_of, change_by, changes, reported_change}
use Rattle.pn_tablet.specs.declared.change.Change.{Change}

-- Cells that are the join of others.

-- cells in key order, and the join of them and others key by key
pub record Joins (old more new : Entries) : Type 0 where
  pub rises : IsTrue (is_sorted bytes_cmp more)
  pub rising : IsTrue (is_sorted bytes_cmp new)
  pub joined : (key : List ℕ) → find bytes_cmp key new ≡ optional_joined cell_joined (find bytes_cmp key old) (find bytes_cmp key more)

-- The changes of the joined keys are those of the whole table.

-- what is made of the keys that pass
split : (g : List ℕ → Change) (t : Bool) (e : List ℕ × CellValue) (rest : List Change) (others : Entries)
    → rest ≡ map (λ u. g u.0) (units others) → cons_option (cond t (Some (g e.0)) None) rest ≡ map (λ u. g u.0) (units (cond t (e ∷ others) others))
split g true e rest others is = ap (λ r. g e.0 ∷ r) is
split g false e rest others is = is

gathered : (table es : Entries) (d : List ℕ → Bool) (g : List ℕ → Change) (f : List ℕ × CellValue → Option Change)
    → AllByRecursion (IsAt table) es → ((e : List ℕ × CellValue) → IsAt table e → f e ≡ cond (d e.0) (Some (g e.0)) None)
    → filter_map f es ≡ map (λ u. g u.0) (units (filter (λ (e : List ℕ × CellValue). d e.0) es))
gathered table [] d g f at is = refl
gathered table (e ∷ es) d g f at is =
    ap (λ o. cons_option o (filter_map f es)) (is e at.0)
    ∙ split g (d e.0) e (filter_map f es) (filter (λ (e : List ℕ × CellValue). d e.0) es) (gathered table es d g f at.1 is)

-- the version of a cell that is there
stamp_of : Option CellValue → Stamp
stamp_of None = (0, 0)
stamp_of (Some cell) = cell.0

abbrev change_at : Option CellValue → Option CellValue → List ℕ → Change
change_at before after key = record { key = key; before = version_at before; after = stamp_of after }

flipped : (t : Bool) (change : Change) → cond t None (Some change) ≡ cond (not t) (Some change) None
flipped true change = refl
flipped false change = refl

from_entry : (before : Option CellValue) (e : List ℕ × CellValue) (after : Option CellValue) → after ≡ Some e.1
    → change_of before e ≡ cond (not (same_at before after)) (Some (change_at before after e.0)) None
unfolding stamp_of
from_entry before e after is =
    flipped (same_at before (Some e.1)) (change_at before (Some e.1) e.0)
    ∙ ap (λ o. cond (not (same_at before o)) (Some (change_at before o e.0)) None) (sym is)

from_joined : (before : Option CellValue) (e : List ℕ × CellValue) (after : Option CellValue) → after ≡ optional_joined cell_joined before (Some e.1)
    → change_by before e ≡ cond (not (same_at before after)) (Some (change_at before after e.0)) None
from_joined None e after is = from_entry None e after is
from_joined (Some cell) e after is = from_entry (Some cell) (e.0, cell_joined cell e.1) after is

-- the changes of the joined keys are those of the whole table
pub joined_changes : (old more new : Entries) → Joins old more new → filter_map (λ entry. change_by (find bytes_cmp entry.0 old) entry) more ≡ changes old new
joined_changes old more new joins =
    let g : List ℕ → Change = λ key. change_at (find bytes_cmp key old) (find bytes_cmp key new) key in
    gathered more more (differs old new) g (λ entry. change_by (find bytes_cmp entry.0 old) entry) (each_at more joins.rises)
    (λ e at. from_joined (find bytes_cmp e.0 old) e (find bytes_cmp e.0 new) (joins.joined e.0 ∙ ap (optional_joined cell_joined (find bytes_cmp e.0 old)) at))
    ∙ ap (map (λ u. g u.0)) (sym (same_chosen old more new joins.rising joins.rises joins.joined))
    ∙ sym (gathered new new (differs old new) g (λ entry. change_of (find bytes_cmp entry.0 old) entry) (each_at new joins.rising)
    (λ e at. from_entry (find bytes_cmp e.0 old) e (find bytes_cmp e.0 new) at))

fewer : {A B : Type 0} (o : Option B) (rest : List B) (xs : List A) → length rest ≤ length xs → length (cons_option o rest) ≤ suc (length xs)
fewer None rest xs below = omega arith
fewer (Some b) rest xs below = omega arith

few_kept : {A B : Type 0} (f : A → Option B) (xs : List A) → length (filter_map f xs) ≤ length xs
few_kept f [] = omega arith
few_kept f (x ∷ xs) = fewer (f x) (filter_map f xs) xs (few_kept f xs)

-- at most as many as joined cells
pub few_changes : (old more new : Entries) → Joins old more new → length (changes old new) ≤ length more
few_changes old more new joins =
    subst (λ (list : List Change). length list ≤ length more) (joined_changes old more new joins)
    (few_kept (λ entry. change_by (find bytes_cmp entry.0 old) entry) more)

abbrev Joint : Entries → List ℕ × CellValue → Option (TableChange (List ℕ) CellValue) → Type 0
Joint old = Changes bytes_cmp (λ cell. cell) cell_joined HasContents old

some_is : {A : Type 0} (a b : A) → Some a ≡ Some b → a ≡ b
some_is a b is = cc

abbrev unless_same : CellValue → List ℕ → Bool → Option Change
unless_same cell key same = cond same None (Some (record { key = key; before = version_at (Some cell); after = cell.0 }))

-- a cell that stays the same is no change
no_change : (cell after : CellValue) (key : List ℕ) → after ≡ cell → change_of (Some cell) (key, after) ≡ None
no_change cell after key is =
    ap (λ (a : CellValue). change_of (Some cell) (key, a)) is
    ∙ ap (unless_same cell key) (same_at-itself (Some cell))

none_reported : (before : Option CellValue) (e : List ℕ × CellValue) → optional_joined cell_joined (option_map (λ cell. cell) before) (Some e.1) ≡ option_map (λ cell. cell) before → change_by before e ≡ None
none_reported None e is = let never : Some e.1 ≡ None = is in cc
none_reported (Some cell) e is = no_change cell (cell_joined cell e.1) e.0 (some_is (cell_joined cell e.1) cell is)

reported_after : (before : Option CellValue) (e : List ℕ × CellValue) (after : CellValue) → Some after ≡ optional_joined cell_joined (option_map (λ cell. cell) before) (Some e.1) → change_of before (e.0, after) ≡ change_by before e
reported_after None e after is = ap (λ (a : CellValue). change_of None (e.0, a)) (some_is after e.1 is)
reported_after (Some cell) e after is = ap (λ (a : CellValue). change_of (Some cell) (e.0, a)) (some_is after (cell_joined cell e.1) is)

-- a cell that differs is a change
one_change : (change : TableChange (List ℕ) CellValue) → Some change.after ≢ change.before → Some (reported_change change) ≡ change_of change.before (change.key, change.after)
one_change change differs = sym (ap (λ same. cond same None (Some (reported_change change))) (same_at-another change.before change.after differs))

one_reported : (old : Entries) (e : List ℕ × CellValue) (change : TableChange (List ℕ) CellValue) → Joint old e (Some change) → Some (reported_change change) ≡ change_by (find bytes_cmp e.0 old) e
one_reported old e change is =
    one_change change (λ same. is.differs (ap (option_map (λ cell. cell)) same))
    ∙ ap (λ (before : Option CellValue). change_of before (change.key, change.after)) is.before
    ∙ ap (λ (key : List ℕ). change_of (find bytes_cmp e.0 old) (key, change.after)) is.key
    ∙ reported_after (find bytes_cmp e.0 old) e change.after is.after

all_reported : (old more : Entries) (made : List (Option (TableChange (List ℕ) CellValue))) → AllZip (Joint old) more made → map reported_change (those_there made) ≡ filter_map (λ entry. change_by (find bytes_cmp entry.0 old) entry) more
all_reported old [] [] all = refl
all_reported old [] (m ∷ ms) all = absurd all
all_reported old (e ∷ es) [] all = absurd all
all_reported old (e ∷ es) (None ∷ ms) all =
    all_reported old es ms all.1
    ∙ ap (λ o. cons_option o (filter_map (λ entry. change_by (find bytes_cmp entry.0 old) entry) es)) (sym (none_reported (find bytes_cmp e.0 old) e all.0))
all_reported old (e ∷ es) (Some change ∷ ms) all =
    ap (λ o. cons_option o (map reported_change (those_there ms))) (one_reported old e change all.0)
    ∙ ap (cons_option (change_by (find bytes_cmp e.0 old) e)) (all_reported old es ms all.1)

-- the changes that a join reports are those of the joined cells
pub reported_changes : (old more : Entries) (table_changes : List (TableChange (List ℕ) CellValue)) → AreChanges bytes_cmp (λ cell. cell) cell_joined HasContents old more table_changes → map reported_change table_changes ≡ filter_map (λ entry. change_by (find bytes_cmp entry.0 old) entry) more
reported_changes old more table_changes are = ap (map reported_change) are.are ∙ all_reported old more are.made are.each

few_there : (old more : Entries) (made : List (Option (TableChange (List ℕ) CellValue))) → AllZip (Joint old) more made → length (those_there made) ≤ length more
few_there old [] [] all = omega arith
few_there old [] (m ∷ ms) all = absurd all
few_there old (e ∷ es) [] all = absurd all
few_there old (e ∷ es) (None ∷ ms) all = omega (arith, few_there old es ms all.1)
few_there old (e ∷ es) (Some change ∷ ms) all = omega (arith, few_there old es ms all.1)

-- no more changes than joined cells
pub few_reported : (old more : Entries) (table_changes : List (TableChange (List ℕ) CellValue)) → AreChanges bytes_cmp (λ cell. cell) cell_joined HasContents old more table_changes → length table_changes ≤ length more
few_reported old more table_changes are = omega (arith, ap length are.are, few_there old more are.made are.each)
