-- Tables as the finite maps of lists of images.
use Rattle.std.proofs.Common.{◌≡◌, ℕ, ◌<◌, Bool, true, false, cond, List, [], ◌∷◌, ◌++◌, map, length, Option, Some, None, refl, sym, ap, ◌∙◌, rules, arith, ◌||◌, IsTrue, subst}
use Rattle.std.specs.declared.cmp.Ordering.TheVariants.{Less, Equal, Greater}
use Rattle.std.specs.Ordering.{eq_by_cmp, is_lt, is_eq}
use Rattle.std.specs.Option.{option_map}
use Rattle.std.specs.Str.{bytes_eq}
use Rattle.std.specs.Cmp.Rules.{comparing}
use Rattle.std.specs.List.{AllByRecursion, filter_map, list_any, cons_option}
use Rattle.std.specs.FinMap.{find, is_sorted, keys, get, entries, entries_sorted, get-from_entries, get-entries}
use Rattle.std.specs.FinMap.Entries.{below_all, same_entries}
use Rattle.std.proofs.lemmas.Cmp.{eq_by_cmp_equiv, tied_itself, nat_list_cmp_total}
use Rattle.std.proofs.lemmas.Map.Lookups.{exact_bytes}
use lib.Dec.{T}
use Rattle.pn_join.specs.Tables.{contents_at, key_by_key}
use Rattle.pn_record.specs.declared.records.Image.{Image}
use Rattle.pn_record.specs.Limits.{ContentValue}
use Rattle.pn_record.specs.Sets.{bytes_cmp, content_cmp, Stamp, CellValue, HasContents, set_of, cell_joined, Contents, union}
use Rattle.pn_record.specs.Laws.{version_cmp_total, content_cmp_total, set_of-append, set_of-keys, either, get-union, some-set_of, set_of-one, joined-equal, by_versions, joined-less, joined-greater}
use Rattle.pn_record.specs.Cells.{Holds, cell_of, cells, images_of, spell, spell_cell, cells_map, Entries as MapEntries, table_of, adds}
use Rattle.pn_record.proofs.Sorted.{first_true, second_true, is_less}
use Rattle.pn_record.proofs.CellLists.{both, cells-append, cell_of-cons}

-- What the entries of a table hold of lists of images.

-- entries of a table of cells
abbrev pub Entries : Type 0
Entries = List (List ℕ × CellValue)

option_map-same : {A : Type 0} (o : Option A) → option_map (λ x. x) o ≡ o
option_map-same None = refl
option_map-same (Some x) = refl

-- what a table that means the join of two has at a key
pub find-joined : (old other new : Entries) → contents_at bytes_cmp (λ cell. cell) new ≡ key_by_key cell_joined (contents_at bytes_cmp (λ cell. cell) old) (contents_at bytes_cmp (λ cell. cell) other) → (key : List ℕ) → find bytes_cmp key new ≡ both (find bytes_cmp key old) (find bytes_cmp key other)
find-joined old other new is key =
    sym (option_map-same (find bytes_cmp key new)) ∙ (λ i. is i key)
    ∙ (λ i. both (option_map-same (find bytes_cmp key old) i) (option_map-same (find bytes_cmp key other) i))

pub Holds-joined : (old other new : Entries) → contents_at bytes_cmp (λ cell. cell) new ≡ key_by_key cell_joined (contents_at bytes_cmp (λ cell. cell) old) (contents_at bytes_cmp (λ cell. cell) other) → (taken more : List Image) → Holds old taken → Holds other more → Holds new (taken ++ more)
Holds-joined old other new is taken more held held_too key =
    find-joined old other new is key ∙ (λ i. both (held key i) (held_too key i)) ∙ sym (cells-append taken more key)

same_test : (a b : List ℕ) → bytes_eq a b ≡ eq_by_cmp bytes_cmp a b
same_test a b = search (comparing, rules)

-- the test of a key in a list of images is that of a key in a table
pub same_key : (a b : List ℕ) → bytes_eq a b ≡ eq_by_cmp bytes_cmp b a
same_key a b = same_test a b ∙ (eq_by_cmp_equiv nat_list_cmp_total).symm a b

-- one entry with the cell of one image
pub Holds-one : (image : Image) → Holds ((image.key, (image.version, set_of (image.content ∷ []))) ∷ []) (image ∷ [])
Holds-one image key =
    ap (λ t. cond t (Some (image.version, set_of (image.content ∷ []))) None) (sym (same_key image.key key))
    ∙ elim (bytes_eq image.key key) as (λ t. cond t (Some (image.version, set_of (image.content ∷ []))) None ≡ cell_of (cond t (image ∷ []) [])) [
      | true ↦ sym (cell_of-cons image [])
      | false ↦ refl
    ]

-- a key below all others is not found
pub not_found : (key : List ℕ) (es : Entries) → below_all bytes_cmp key es ≡ true → find bytes_cmp key es ≡ None
not_found key [] below = refl
not_found key (e ∷ es) below =
    let less = is_less _ (first_true (is_lt (bytes_cmp key e.0)) (below_all bytes_cmp key es) below) in
    ap (λ r. cond (is_eq r) (Some e.1) (find bytes_cmp key es)) less ∙ not_found key es (second_true (is_lt (bytes_cmp key e.0)) _ below)

-- images of one key are all of a key's images, or none
filter-alike : (key : List ℕ) (t : Bool) (f : ContentValue → Image) → ((shown : ContentValue) → bytes_eq (f shown).key key ≡ t) → (contents : List ContentValue) → images_of key (map f contents) ≡ cond t (map f contents) []
filter-alike key true f alike [] = refl
filter-alike key false f alike [] = refl
filter-alike key true f alike (c ∷ contents) =
    ap (λ b. cond b (f c ∷ images_of key (map f contents)) (images_of key (map f contents))) (alike c) ∙ ap (λ rest. f c ∷ rest) (filter-alike key true f alike contents)
filter-alike key false f alike (c ∷ contents) =
    ap (λ b. cond b (f c ∷ images_of key (map f contents)) (images_of key (map f contents))) (alike c) ∙ filter-alike key false f alike contents

-- the cell of images of one version is their contents
cell_of-version : (key : List ℕ) (version : Stamp) (first : ContentValue) (contents : List ContentValue) → cell_of (map (λ (shown : ContentValue). record { key = key; version = version; content = shown }) (first ∷ contents)) ≡ Some (version, set_of (first ∷ contents))
cell_of-version key version first [] = cell_of-cons (record { key = key; version = version; content = first }) []
cell_of-version key version first (next ∷ contents) =
    let image : ContentValue → Image = λ shown. record { key = key; version = version; content = shown } in
    cell_of-cons (image first) (map image (next ∷ contents))
    ∙ ap (both (Some (version, set_of (first ∷ [])))) (cell_of-version key version next contents)
    ∙ ap Some (joined-equal (version, set_of (first ∷ [])) (version, set_of (next ∷ contents)) (tied_itself version_cmp_total version) ∙ ap (λ s. (version, s)) (sym (set_of-append (first ∷ []) (next ∷ contents))))

cell_of-spelled : (key : List ℕ) (version : Stamp) (contents : List ContentValue) → 0 < length contents → cell_of (map (λ (shown : ContentValue). record { key = key; version = version; content = shown }) contents) ≡ Some (version, set_of contents)
cell_of-spelled key version [] some = absurd (omega arith)
cell_of-spelled key version (first ∷ contents) some = cell_of-version key version first contents

cells-spell_cell : (key : List ℕ) (e : List ℕ × CellValue) → HasContents e.1 → cells (spell_cell e) key ≡ cond (eq_by_cmp bytes_cmp key e.0) (Some e.1) None
cells-spell_cell key e some =
    let image : ContentValue → Image = λ shown. record { key = e.0; version = e.1.0; content = shown } in
    ap cell_of (filter-alike key (bytes_eq e.0 key) image (λ shown. refl) (keys e.1.1))
    ∙ elim (bytes_eq e.0 key) as (λ t. cell_of (cond t (map image (keys e.1.1)) []) ≡ cond t (Some e.1) None) [
      | true ↦ cell_of-spelled e.0 e.1.0 (keys e.1.1) some ∙ ap (λ s. Some (e.1.0, s)) (set_of-keys e.1.1)
      | false ↦ refl
    ]
    ∙ ap (λ t. cond t (Some e.1) None) (same_key e.0 key)

chosen : (t : Bool) (cell : CellValue) (rest : Option CellValue) → (t ≡ true → rest ≡ None) → cond t (Some cell) rest ≡ both (cond t (Some cell) None) rest
chosen true cell rest none = ap (both (Some cell)) (sym (none refl))
chosen false cell rest none = refl

pub tied_keys : (key other : List ℕ) → eq_by_cmp bytes_cmp key other ≡ true → key ≡ other
tied_keys key other tied = exact_bytes key other (elim (bytes_cmp key other) as (λ r. is_eq r ≡ true → r ≡ Equal) [ Less ↦ λ e. cc | Equal ↦ λ e. refl | Greater ↦ λ e. cc ] tied)

-- a table holds the images that spell it
pub Holds-spell : (es : Entries) → is_sorted bytes_cmp es ≡ true → AllByRecursion (λ e. HasContents e.1) es → Holds es (spell es)
Holds-spell [] rising some key = refl
Holds-spell (e ∷ es) rising some key =
    let below = first_true (below_all bytes_cmp e.0 es) (is_sorted bytes_cmp es) rising in
    let rest = Holds-spell es (second_true (below_all bytes_cmp e.0 es) _ rising) some.1 key in
    chosen (eq_by_cmp bytes_cmp key e.0) e.1 (find bytes_cmp key es) (λ tied. ap (λ k. find bytes_cmp k es) (tied_keys key e.0 tied) ∙ not_found e.0 es below)
    ∙ (λ i. both (sym (cells-spell_cell key e some.0) i) (rest i))
    ∙ sym (cells-append (spell_cell e) (spell es) key)

-- the entry that an image makes of the cells of a list
abbrev entry : List Image → Image → Option (List ℕ × CellValue)
entry all image = option_map (λ (cell : CellValue). (image.key, cell)) (cells all image.key)

abbrev made : List Image → List Image → MapEntries
made all images = filter_map (entry all) images

-- some image has the key
abbrev has_key : List ℕ → List Image → Bool
has_key key images = list_any (λ (image : Image). bytes_eq image.key key) images

cond-same : {A : Type 0} (b : Bool) (x : A) → cond b x x ≡ x
cond-same true x = refl
cond-same false x = refl

-- a key that is tested twice: nothing is found for it where its cell is none
skipped : (b h : Bool) (at rest : Option CellValue) → (b ≡ true → at ≡ None) → rest ≡ cond h at None → rest ≡ cond (b || h) at None
skipped true h at rest none is = is ∙ ap (λ (o : Option CellValue). cond h o None) (none refl) ∙ cond-same h None ∙ sym (none refl)
skipped false h at rest none is = is

taken : (b h : Bool) (cell : CellValue) (at rest : Option CellValue) → (b ≡ true → at ≡ Some cell) → rest ≡ cond h at None → cond b (Some cell) rest ≡ cond (b || h) at None
taken true h cell at rest some is = sym (some refl)
taken false h cell at rest some is = is

same_bytes : (a b : List ℕ) → bytes_eq a b ≡ true → b ≡ a
same_bytes a b same = tied_keys b a (sym (same_key a b) ∙ same)

-- what the entries that a list makes have at a key
found : (all images : List Image) (key : List ℕ) → find bytes_cmp key (made all images) ≡ cond (has_key key images) (cells all key) None
found all [] key = refl
found all (image ∷ images) key =
    let rest = found all images key in
    let b = bytes_eq image.key key in
    let here : b ≡ true → cells all key ≡ cells all image.key = λ same. ap (cells all) (same_bytes image.key key same) in
    elim (cells all image.key) as (λ o. cells all image.key ≡ o → find bytes_cmp key (cons_option (option_map (λ (cell : CellValue). (image.key, cell)) o) (made all images)) ≡ cond (b || has_key key images) (cells all key) None) [
      | None ↦ λ none. skipped b (has_key key images) (cells all key) (find bytes_cmp key (made all images)) (λ same. here same ∙ none) rest
      | Some cell ↦ λ some.
          ap (λ t. cond t (Some cell) (find bytes_cmp key (made all images))) (sym (same_key image.key key))
          ∙ taken b (has_key key images) cell (cells all key) (find bytes_cmp key (made all images)) (λ same. here same ∙ some) rest
    ] refl

-- no image has a key that none has
without : (key : List ℕ) (images : List Image) → has_key key images ≡ false → images_of key images ≡ []
without key [] none = refl
without key (image ∷ images) none =
    ap (λ t. cond t (image ∷ images_of key images) (images_of key images)) (neither_first (bytes_eq image.key key) (has_key key images) none)
    ∙ without key images (neither_second (bytes_eq image.key key) (has_key key images) none)
  where
    neither_first : (a b : Bool) → (a || b) ≡ false → a ≡ false
    neither_first true b e = e
    neither_first false b e = refl

    neither_second : (a b : Bool) → (a || b) ≡ false → b ≡ false
    neither_second true b e = cc
    neither_second false b e = e

-- the map of a list has at each key its cell
pub get-cells_map : (images : List Image) (key : List ℕ) → get (cells_map images) key ≡ cells images key
get-cells_map images key =
    get-from_entries nat_list_cmp_total (made images images) key ∙ found images images key
    ∙ elim (has_key key images) as (λ h. has_key key images ≡ h → cond h (cells images key) None ≡ cells images key) [
      | true ↦ λ some. refl
      | false ↦ λ none. sym (ap cell_of (without key images none))
    ] refl

pub Holds-table_of : (images : List Image) → Holds (table_of images) images
unfolding table_of
Holds-table_of images key = sym (get-entries (cells_map images) key) ∙ get-cells_map images key

true_from : (b : Bool) → T b → b ≡ true
true_from true t = refl
true_from false t = absurd t

pub rising-table_of : (images : List Image) → IsTrue (is_sorted bytes_cmp (table_of images))
unfolding table_of
rising-table_of images = true_from _ (entries_sorted (cells_map images))

-- a table that holds a list is the table of the list
pub held_table : (table : MapEntries) (images : List Image) → IsTrue (is_sorted bytes_cmp table) → Holds table images → table ≡ table_of images
held_table table images rising held =
    same_entries bytes_cmp nat_list_cmp_total exact_bytes table (table_of images) (subst T (sym rising) tt) (subst T (sym (rising-table_of images)) tt)
    (λ key. held key ∙ sym (Holds-table_of images key))

some_from_find : (es : List (ContentValue × Unit {0})) (q : ContentValue) → find content_cmp q es ≡ Some tt → 0 < length (map (λ (e : ContentValue × Unit {0}). e.0) es)
some_from_find [] q there = cc
some_from_find (e ∷ es) q there = omega arith

some_from_get : (a : Contents) (q : ContentValue) → get a q ≡ Some tt → 0 < length (keys a)
some_from_get a q there = some_from_find (entries a) q (sym (get-entries a q) ∙ there)

find_first : (es : List (ContentValue × Unit {0})) → 0 < length (map (λ (e : ContentValue × Unit {0}). e.0) es) → (q : ContentValue) × (find content_cmp q es ≡ Some tt)
find_first [] some = absurd (omega arith)
find_first (e ∷ es) some = (e.0, ap (λ r. cond (is_eq r) (Some e.1) (find content_cmp e.0 es)) (tied_itself content_cmp_total e.0))

some-union : (a b : Contents) → 0 < length (keys a) → 0 < length (keys (union a b))
some-union a b some =
    let first = find_first (entries a) some in
    some_from_get (union a b) first.0 (get-union a b first.0 ∙ ap (λ o. either o (get b first.0)) (get-entries a first.0 ∙ first.1))

some-joined : (a b : CellValue) → HasContents a → HasContents b → HasContents (cell_joined a b)
some-joined a b some some_too = by_versions a.0 b.0
    (λ e. subst HasContents (sym (joined-less a b e)) some_too)
    (λ e. subst HasContents (sym (joined-equal a b e)) (some-union a.1 b.1 some))
    (λ e. subst HasContents (sym (joined-greater a b e)) some)

-- where there is a cell, it has contents
abbrev AnyHas : Option CellValue → Type 0
AnyHas None = Unit {0}
AnyHas (Some cell) = HasContents cell

any-both : (a : CellValue) (o : Option CellValue) → HasContents a → AnyHas o → AnyHas (both (Some a) o)
any-both a None some any = some
any-both a (Some b) some any = some-joined a b some any

any-cell_of : (images : List Image) → AnyHas (cell_of images)
any-cell_of [] = tt
any-cell_of (image ∷ images) =
    subst AnyHas (sym (cell_of-cons image images)) (any-both (image.version, set_of (image.content ∷ [])) (cell_of images) (some-set_of (image.content ∷ []) (set_of-one image.content)) (any-cell_of images))

-- what has contents at each key has them in each entry
all_have : (es : MapEntries) → is_sorted bytes_cmp es ≡ true → ((key : List ℕ) → AnyHas (find bytes_cmp key es)) → AllByRecursion (λ (e : List ℕ × CellValue). HasContents e.1) es
all_have [] rising any = tt
all_have (e ∷ es) rising any = (
  subst AnyHas (ap (λ r. cond (is_eq r) (Some e.1) (find bytes_cmp e.0 es)) (tied_itself nat_list_cmp_total e.0)) (any e.0),
  all_have es (second_true (below_all bytes_cmp e.0 es) _ rising) (λ key. rest key (eq_by_cmp bytes_cmp key e.0) refl),
)
  where
    below : below_all bytes_cmp e.0 es ≡ true
    below = first_true (below_all bytes_cmp e.0 es) (is_sorted bytes_cmp es) rising

    rest : (key : List ℕ) (t : Bool) → eq_by_cmp bytes_cmp key e.0 ≡ t → AnyHas (find bytes_cmp key es)
    rest key true tied = subst AnyHas (sym (ap (λ k. find bytes_cmp k es) (tied_keys key e.0 tied) ∙ not_found e.0 es below)) tt
    rest key false apart = subst AnyHas (ap (λ t. cond t (Some e.1) (find bytes_cmp key es)) apart) (any key)

pub have-table_of : (images : List Image) → AllByRecursion (λ (e : List ℕ × CellValue). HasContents e.1) (table_of images)
have-table_of images = all_have (table_of images) (rising-table_of images) (λ key. subst AnyHas (sym (Holds-table_of images key)) (any-cell_of (images_of key images)))

-- lists with the same cells have the same table
pub same_cells_table : (images others : List Image) → ((key : List ℕ) → cells images key ≡ cells others key) → table_of images ≡ table_of others
same_cells_table images others same = held_table (table_of images) others (rising-table_of images) (λ key. Holds-table_of images key ∙ same key)

-- the table of a list that takes more images is the table of both lists
pub adds-table_of : (images more : List Image) → adds (table_of images) more ≡ table_of (images ++ more)
unfolding adds
adds-table_of images more =
    let table = table_of images in
    let spelled = Holds-spell table (rising-table_of images) (have-table_of images) in
    same_cells_table (spell table ++ more) (images ++ more) (λ key.
    cells-append (spell table) more key ∙ ap (λ c. both c (cells more key)) (sym (spelled key) ∙ Holds-table_of images key) ∙ sym (cells-append images more key))

-- a table that joins what holds the images has taken them
pub held_adds : (old new : MapEntries) (images : List Image) → IsTrue (is_sorted bytes_cmp new) → Holds new (spell old ++ images) → new ≡ adds old images
unfolding adds
held_adds old new images rising held = held_table new (spell old ++ images) rising held

pub table_of-nil : table_of [] ≡ []
table_of-nil = sym (held_table [] [] refl (λ key. refl))

-- the images that spell the table of a list have the cells of the list
pub cells-spelled : (images : List Image) (key : List ℕ) → cells (spell (table_of images)) key ≡ cells images key
cells-spelled images key =
    sym (Holds-spell (table_of images) (rising-table_of images) (have-table_of images) key) ∙ Holds-table_of images key

-- the table of a list is the table of the images that spell it
pub spelled_table : (images : List Image) → table_of images ≡ table_of (spell (table_of images))
spelled_table images = same_cells_table images (spell (table_of images)) (λ key. sym (cells-spelled images key))
