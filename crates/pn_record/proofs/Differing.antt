-- Which keys differ once a table is joined to another, and that no record is older then.
use Rattle.std.proofs.Common.{◌≡◌, ◌≢◌, ℕ, Bool, true, false, not, ◌&&◌, cond, List, [], ◌∷◌, map, filter, Option, Some, None, refl, sym, ap, ◌∙◌, subst, ◌++◌}
use Rattle.std.specs.declared.cmp.Ordering.{Ordering}
use Rattle.std.specs.declared.cmp.Ordering.TheVariants.{Less, Equal, Greater}
use Rattle.std.specs.Cmp.Lexicographic.{pointwise}
use Rattle.std.specs.Ordering.{eq_by_cmp, is_eq, is_lt, is_gt}
use Rattle.std.specs.Option.{option_map}
use Rattle.std.specs.List.{AllByRecursion}
use Rattle.std.specs.FinMap.{find, is_sorted, keys}
use Rattle.std.specs.FinMap.Entries.{below_all, same_entries, where_key, find-where_key, is_sorted-where_key}
use Rattle.std.proofs.lemmas.Cmp.{nat_list_cmp_total, tied_itself, eq_by_cmp_equiv, lists_equiv}
use Rattle.std.proofs.lemmas.Map.Lookups.{exact_bytes}
use lib.Dec.{T}
use Rattle.pn_join.specs.Tables.{optional_joined}
use Rattle.pn_record.specs.Sets.{bytes_cmp, version_cmp, content_cmp, CellValue, set_of, cell_joined}
use Rattle.pn_record.specs.Laws.{version_cmp_total, version_cmp-exact, content_cmp_total, tied_lists, set_of-keys, by_versions, joined-less, joined-equal, joined-greater}
use Rattle.pn_record.specs.Cells.{Entries, table_of, same_cell, same_at, cells, NotOlder}
use Rattle.pn_record.proofs.Sorted.{both_true, first_true, second_true, is_less}
use Rattle.pn_record.specs.declared.records.Image.{Image}
use Rattle.pn_record.proofs.CellLists.{both, cells-append}
use Rattle.pn_record.proofs.CellMaps.{Holds-table_of}

-- Which keys differ once a table is joined to another: those that differ among what is joined.

same_cell-itself : (a : CellValue) → same_cell a a ≡ true
same_cell-itself a =
    both_true (eq_by_cmp version_cmp a.0 a.0) (pointwise (eq_by_cmp content_cmp) (keys a.1) (keys a.1))
    ((eq_by_cmp_equiv version_cmp_total).refl a.0) ((lists_equiv (eq_by_cmp_equiv content_cmp_total)).refl (keys a.1))

pub same_at-itself : (o : Option CellValue) → same_at o o ≡ true
same_at-itself None = refl
same_at-itself (Some a) = same_cell-itself a

is_tie : (r : Ordering) → is_eq r ≡ true → r ≡ Equal
is_tie Less tied = cc
is_tie Equal tied = refl
is_tie Greater tied = cc

same_cell-equal : (a b : CellValue) → same_cell a b ≡ true → a ≡ b
same_cell-equal a b is =
    let version : a.0 ≡ b.0 = version_cmp-exact a.0 b.0 (is_tie (version_cmp a.0 b.0) (first_true (eq_by_cmp version_cmp a.0 b.0) (pointwise (eq_by_cmp content_cmp) (keys a.1) (keys b.1)) is)) in
    let listed : keys a.1 ≡ keys b.1 = tied_lists (keys a.1) (keys b.1) (second_true (eq_by_cmp version_cmp a.0 b.0) (pointwise (eq_by_cmp content_cmp) (keys a.1) (keys b.1)) is) in
    let contents : a.1 ≡ b.1 = sym (set_of-keys a.1) ∙ ap set_of listed ∙ set_of-keys b.1 in
    λ i. (version i, contents i)

unless_true : (t : Bool) → (t ≡ true → ⊥) → t ≡ false
unless_true true never = absurd (never refl)
unless_true false never = refl

-- a cell that is another than before
pub same_at-another : (before : Option CellValue) (after : CellValue) → Some after ≢ before → same_at before (Some after) ≡ false
same_at-another None after another = refl
same_at-another (Some cell) after another = unless_true (same_cell cell after) (λ is. another (ap Some (sym (same_cell-equal cell after is))))

-- the entry is what the table has at its key
abbrev pub IsAt : Entries → List ℕ × CellValue → Type 0
IsAt table e = find bytes_cmp e.0 table ≡ Some e.1

-- a key above another does not tie with it
apart : (k q : List ℕ) → bytes_cmp k q ≡ Less → eq_by_cmp bytes_cmp q k ≡ false
apart k q less = (eq_by_cmp_equiv nat_list_cmp_total).symm q k ∙ ap is_eq less

lifted : (e : List ℕ × CellValue) (table es : Entries) → below_all bytes_cmp e.0 es ≡ true → AllByRecursion (IsAt table) es → AllByRecursion (IsAt (e ∷ table)) es
lifted e table [] below at = tt
lifted e table (f ∷ es) below at = (
  ap (λ t. cond t (Some e.1) (find bytes_cmp f.0 table)) (apart e.0 f.0 (is_less _ (first_true (is_lt (bytes_cmp e.0 f.0)) (below_all bytes_cmp e.0 es) below))) ∙ at.0,
  lifted e table es (second_true (is_lt (bytes_cmp e.0 f.0)) _ below) at.1,
)

-- each entry of a table is what the table has at its key
pub each_at : (table : Entries) → is_sorted bytes_cmp table ≡ true → AllByRecursion (IsAt table) table
each_at [] rising = tt
each_at (e ∷ es) rising = (
  ap (λ r. cond (is_eq r) (Some e.1) (find bytes_cmp e.0 es)) (tied_itself nat_list_cmp_total e.0),
  lifted e es es (first_true (below_all bytes_cmp e.0 es) (is_sorted bytes_cmp es) rising) (each_at es (second_true (below_all bytes_cmp e.0 es) _ rising)),
)

-- the keys alone
abbrev pub units : Entries → List (List ℕ × Unit {0})
units es = map (λ (e : List ℕ × CellValue). (e.0, tt)) es

here : Option CellValue → Option (Unit {0})
here o = option_map (λ (c : CellValue). tt) o

here-cond : (t : Bool) (a b : Option CellValue) → here (cond t a b) ≡ cond t (here a) (here b)
unfolding here
here-cond true a b = refl
here-cond false a b = refl

find-units : (q : List ℕ) (es : Entries) → find bytes_cmp q (units es) ≡ here (find bytes_cmp q es)
unfolding here
find-units q [] = refl
find-units q (e ∷ es) = ap (cond (eq_by_cmp bytes_cmp q e.0) (Some tt)) (find-units q es) ∙ sym (here-cond (eq_by_cmp bytes_cmp q e.0) (Some e.1) (find bytes_cmp q es))

below-units : (k : List ℕ) (es : Entries) → below_all bytes_cmp k (units es) ≡ below_all bytes_cmp k es
below-units k [] = refl
below-units k (e ∷ es) = ap (λ b. is_lt (bytes_cmp k e.0) && b) (below-units k es)

sorted-units : (es : Entries) → is_sorted bytes_cmp (units es) ≡ is_sorted bytes_cmp es
sorted-units [] = refl
sorted-units (e ∷ es) = λ i. below-units e.0 es i && sorted-units es i

-- the entries whose keys have another cell in the new table than in the old one
abbrev pub differs : Entries → Entries → List ℕ → Bool
differs old new key = not (same_at (find bytes_cmp key old) (find bytes_cmp key new))

abbrev pub chosen : Entries → Entries → Entries → Entries
chosen old new es = filter (λ (e : List ℕ × CellValue). differs old new e.0) es

module _ (old more new : Entries) (rising : is_sorted bytes_cmp new ≡ true) (rises : is_sorted bytes_cmp more ≡ true) (joined : (key : List ℕ) → find bytes_cmp key new ≡ optional_joined cell_joined (find bytes_cmp key old) (find bytes_cmp key more)) where
  -- a key that nothing is joined at stays
  stays : (key : List ℕ) → find bytes_cmp key more ≡ None → differs old new key ≡ false
  stays key none =
      ap (λ o. not (same_at (find bytes_cmp key old) o)) (joined key ∙ ap (optional_joined cell_joined (find bytes_cmp key old)) none ∙ joined_none (find bytes_cmp key old))
      ∙ ap not (same_at-itself (find bytes_cmp key old))
    where
      joined_none : (o : Option CellValue) → optional_joined cell_joined o None ≡ o
      joined_none None = refl
      joined_none (Some a) = refl

  found : (t : Bool) (o a b : Option CellValue) → (b ≡ None → t ≡ false) → a ≡ optional_joined cell_joined o b → cond t (here a) None ≡ cond t (here b) None
  unfolding here
  found false o a b none is = refl
  found true o a None none is = cc (none refl)
  found true None a (Some b) none is = ap here is
  found true (Some o) a (Some b) none is = ap here is

  find-chosen : (es : Entries) (q : List ℕ) → find bytes_cmp q (units (chosen old new es)) ≡ cond (differs old new q) (here (find bytes_cmp q es)) None
  unfolding here
  find-chosen es q =
      find-units q (where_key bytes_cmp (differs old new) es)
      ∙ ap here (find-where_key bytes_cmp (differs old new) q (λ x tied. ap (differs old new) (sym (exact_bytes q x tied))) es)
      ∙ here-cond (differs old new q) (find bytes_cmp q es) None

  sorted-chosen : (es : Entries) → is_sorted bytes_cmp es ≡ true → T (is_sorted bytes_cmp (units (chosen old new es)))
  sorted-chosen es is = subst T (sym (sorted-units (where_key bytes_cmp (differs old new) es))) (is_sorted-where_key bytes_cmp (differs old new) es (subst T (sym is) tt))

  -- the keys that differ in the whole table are those that differ among what is joined
  pub same_chosen : units (chosen old new new) ≡ units (chosen old new more)
  same_chosen = same_entries bytes_cmp nat_list_cmp_total exact_bytes (units (chosen old new new)) (units (chosen old new more)) (sorted-chosen new rising) (sorted-chosen more rises)
      (λ q. find-chosen new q ∙ found (differs old new q) (find bytes_cmp q old) (find bytes_cmp q new) (find bytes_cmp q more) (stays q) (joined q) ∙ sym (find-chosen more q))

-- A record is not older once another cell is joined to it.

not_above : (a b : CellValue) → is_gt (version_cmp a.0 (cell_joined a b).0) ≡ false
not_above a b = by_versions a.0 b.0
    (λ e. ap (λ (c : CellValue). is_gt (version_cmp a.0 c.0)) (joined-less a b e) ∙ ap is_gt e)
    (λ e. ap (λ (c : CellValue). is_gt (version_cmp a.0 c.0)) (joined-equal a b e) ∙ ap is_gt (tied_itself version_cmp_total a.0))
    (λ e. ap (λ (c : CellValue). is_gt (version_cmp a.0 c.0)) (joined-greater a b e) ∙ ap is_gt (tied_itself version_cmp_total a.0))

pub joined_not_older : (was more : Option CellValue) → NotOlder was (both was more)
joined_not_older None more = tt
joined_not_older (Some a) None = ap is_gt (tied_itself version_cmp_total a.0)
joined_not_older (Some a) (Some b) = not_above a b

-- further images leave no record older
pub held_not_older : (images more : List Image) (key : List ℕ) → NotOlder (find bytes_cmp key (table_of images)) (find bytes_cmp key (table_of (images ++ more)))
held_not_older images more key =
    subst (λ (o : Option CellValue). NotOlder o (find bytes_cmp key (table_of (images ++ more)))) (sym (Holds-table_of images key))
    (subst (NotOlder (cells images key)) (sym (Holds-table_of (images ++ more) key ∙ cells-append images more key)) (joined_not_older (cells images key) (cells more key)))
