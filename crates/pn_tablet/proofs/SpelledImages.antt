-- The images that spell the cells of a table: they are those that rise.
use Rattle.std.proofs.Common.{◌≡◌, ℕ, Bool, true, false, List, [], ◌∷◌, ◌++◌, map, T, refl, ap, ◌∙◌, ◌⊎◌, inl, inr, ◌<◌, ◌||◌, length, Ordering, Less, Equal, Greater, sym, arith}
use Rattle.std.proofs.lemmas.Bool.{and_parts, and_from, or_left, or_right}
use Rattle.std.proofs.lemmas.Cmp.{tied_itself}
use Rattle.std.specs.FinMap.{entries, entries_sorted, is_sorted, keys}
use Rattle.std.specs.FinMap.Entries.{below_all}
use Rattle.std.specs.List.{list_all, flat_map, AllByRecursion}
use Rattle.std.specs.Ordering.{is_lt, is_eq, eq_by_cmp}
use Rattle.pn_join.specs.Tables.{IsTable}
use Rattle.pn_join.proofs.Rising.{Below, Rising, Below-trans, sorted_from_Rising}
use Rattle.pn_record.specs.declared.records.Image.{Image}
use Rattle.pn_record.specs.Cells.{spell, spell_cell, Entries, table_of}
use Rattle.pn_record.specs.Limits.{ContentValue}
use Rattle.pn_record.specs.Sets.{bytes_cmp, version_cmp, content_cmp, Stamp, Contents, HasContents, as_entries, CellValue, set_of}
use Rattle.pn_record.specs.Laws.{bytes_cmp_total, version_cmp_total, content_cmp_total, version_cmp-exact, keys-set_of, some-set_of}
use Rattle.pn_record.proofs.CellMaps.{held_table, Holds-spell, tied_keys}
use Rattle.pn_tablet.specs.CopyTexts.{comes_after, images_rise}
use Rattle.pn_tablet.specs.Layouts.{Ends, in_range}
use Rattle.pn_tablet.specs.Tablets.{lie_in}

-- The images that spell the cells of a table.

-- a table is that of the images that spell it
pub spelled_own : (cells : Entries) → IsTable bytes_cmp HasContents cells → cells ≡ table_of (spell cells)
spelled_own cells table = held_table cells (spell cells) table.rising (Holds-spell cells table.rising table.contents)

-- ---- they lie in the range

all_then : (range : Ends) (images more : List Image) → list_all (λ (image : Image). in_range range image.key) images ≡ true → list_all (λ (image : Image). in_range range image.key) more ≡ true → list_all (λ (image : Image). in_range range image.key) (images ++ more) ≡ true
all_then range [] more first second = second
all_then range (image ∷ images) more first second =
    let parts = and_parts (in_range range image.key) (list_all (λ (i : Image). in_range range i.key) images) first in
    and_from _ _ parts.0 (all_then range images more parts.1 second)

cell_inside : (range : Ends) (key : List ℕ) (version : Stamp) (contents : List ContentValue) → in_range range key ≡ true
    → list_all (λ (image : Image). in_range range image.key) (map (λ (shown : ContentValue). record { key = key; version = version; content = shown }) contents) ≡ true
cell_inside range key version [] inside = refl
cell_inside range key version (shown ∷ contents) inside = and_from _ _ inside (cell_inside range key version contents inside)

pub spell_inside : (range : Ends) (cells : Entries) → lie_in range cells ≡ true → list_all (λ (image : Image). in_range range image.key) (spell cells) ≡ true
spell_inside range [] inside = refl
spell_inside range (e ∷ cells) inside =
    let parts = and_parts (in_range range e.0) (lie_in range cells) inside in
    all_then range (spell_cell e) (spell cells) (cell_inside range e.0 e.1.0 (keys e.1.1) parts.0) (spell_inside range cells parts.1)

-- ---- they rise

-- the first of the images, if there is one, has a greater key
abbrev Above : List ℕ → List Image → Type 0
Above key [] = Unit {0}
Above key (image ∷ images) = is_lt (bytes_cmp key image.key) ≡ true

first_rises : (image : Image) (rest : List Image) → Above image.key rest → images_rise rest ≡ true → images_rise (image ∷ rest) ≡ true
first_rises image [] above rise = refl
first_rises image (next ∷ rest) above rise = and_from (comes_after image next) (images_rise (next ∷ rest)) (or_left (is_lt (bytes_cmp image.key next.key)) _ above) rise

same_rises : (key : List ℕ) (version : Stamp) (a b : ContentValue) → is_lt (content_cmp a b) ≡ true
    → comes_after (record { key = key; version = version; content = a }) (record { key = key; version = version; content = b }) ≡ true
same_rises key version a b less =
    or_right (is_lt (bytes_cmp key key)) _
    (and_from (eq_by_cmp bytes_cmp key key) _ (ap is_eq (tied_itself bytes_cmp_total key))
    (and_from (eq_by_cmp version_cmp version version) (is_lt (content_cmp a b)) (ap is_eq (tied_itself version_cmp_total version)) less))

cell_rises : (key : List ℕ) (version : Stamp) (contents : List ContentValue) (rest : List Image) → is_sorted content_cmp (as_entries contents) ≡ true → Above key rest → images_rise rest ≡ true
    → images_rise (map (λ (shown : ContentValue). record { key = key; version = version; content = shown }) contents ++ rest) ≡ true
cell_rises key version [] rest sorted above rise = rise
cell_rises key version (a ∷ []) rest sorted above rise = first_rises (record { key = key; version = version; content = a }) rest above rise
cell_rises key version (a ∷ b ∷ contents) rest sorted above rise =
    let parts = and_parts (below_all content_cmp a (as_entries (b ∷ contents))) (is_sorted content_cmp (as_entries (b ∷ contents))) sorted in
    let below = and_parts (is_lt (content_cmp a b)) (below_all content_cmp a (as_entries contents)) parts.0 in
    and_from _ _ (same_rises key version a b below.0) (cell_rises key version (b ∷ contents) rest parts.1 above rise)

true_from : (b : Bool) → T b → b ≡ true
true_from true holds = refl
true_from false holds = absurd holds

repaired : (es : List (ContentValue × Unit {0})) → as_entries (map (λ (e : ContentValue × Unit {0}). e.0) es) ≡ es
repaired [] = refl
repaired (e ∷ es) = ap (λ rest. e ∷ rest) (repaired es)

keys_sorted : (contents : Contents) → is_sorted content_cmp (as_entries (keys contents)) ≡ true
keys_sorted contents = ap (is_sorted content_cmp) (repaired (entries contents)) ∙ true_from _ (entries_sorted contents)

above_cell : (key other : List ℕ) (version : Stamp) (contents : List ContentValue) (rest : List Image) → is_lt (bytes_cmp key other) ≡ true → Above key rest
    → Above key (map (λ (shown : ContentValue). record { key = other; version = version; content = shown }) contents ++ rest)
above_cell key other version [] rest less above = above
above_cell key other version (shown ∷ contents) rest less above = less

above_spell : (key : List ℕ) (cells : Entries) → below_all bytes_cmp key cells ≡ true → Above key (spell cells)
above_spell key [] below = tt
above_spell key (e ∷ cells) below =
    let parts = and_parts (is_lt (bytes_cmp key e.0)) (below_all bytes_cmp key cells) below in
    above_cell key e.0 e.1.0 (keys e.1.1) (spell cells) parts.0 (above_spell key cells parts.1)

pub spell_rises : (cells : Entries) → is_sorted bytes_cmp cells ≡ true → images_rise (spell cells) ≡ true
spell_rises [] sorted = refl
spell_rises (e ∷ cells) sorted =
    let parts = and_parts (below_all bytes_cmp e.0 cells) (is_sorted bytes_cmp cells) sorted in
    cell_rises e.0 e.1.0 (keys e.1.1) (spell cells) (keys_sorted e.1.1) (above_spell e.0 cells parts.0) (spell_rises cells parts.1)

-- Images that rise are those that spell their table.

-- images of one key and version
abbrev Group : Type 0
Group = List ℕ × (Stamp × List ContentValue)

abbrev of_group : Group → List Image
of_group g = map (λ (shown : ContentValue). record { key = g.0; version = g.1.0; content = shown }) g.1.1

abbrev all_of : List Group → List Image
all_of groups = flat_map of_group groups

abbrev entry : Group → List ℕ × CellValue
entry g = (g.0, (g.1.0, set_of g.1.1))

-- the contents of each rise, and the keys of all
abbrev Good : List Group → Type 0
Good [] = Unit {0}
Good (g ∷ groups) = Rising content_cmp (as_entries g.1.1) × (0 < length g.1.1) × Below bytes_cmp g.0 (map entry groups) × Good groups

spelled_groups : (groups : List Group) → Good groups → spell (map entry groups) ≡ all_of groups
spelled_groups [] good = refl
spelled_groups (g ∷ groups) good =
    ap (λ (contents : List ContentValue). map (λ (shown : ContentValue). record { key = g.0; version = g.1.0; content = shown }) contents ++ spell (map entry groups))
    (keys-set_of g.1.1 (sorted_from_Rising content_cmp (as_entries g.1.1) good.0))
    ∙ ap (λ images. of_group g ++ images) (spelled_groups groups good.3)

groups_rise : (groups : List Group) → Good groups → Rising bytes_cmp (map entry groups)
groups_rise [] good = tt
groups_rise (g ∷ groups) good = (good.2, groups_rise groups good.3)

groups_have : (groups : List Group) → Good groups → AllByRecursion (λ (e : List ℕ × CellValue). HasContents e.1) (map entry groups)
groups_have [] good = tt
groups_have (g ∷ groups) good = (
  some-set_of g.1.1 (record { rising = sorted_from_Rising content_cmp (as_entries g.1.1) good.0; some = good.1 }),
  groups_have groups good.3,
)

groups_table : (groups : List Group) → Good groups → IsTable bytes_cmp HasContents (map entry groups)
groups_table groups good = record { rising = sorted_from_Rising bytes_cmp (map entry groups) (groups_rise groups good); contents = groups_have groups good }

-- ---- from images to groups

either_true : (a b : Bool) → (a || b) ≡ true → (a ≡ true) ⊎ (b ≡ true)
either_true true b is = inl refl
either_true false b is = inr is

less_from : (o : Ordering) → is_lt o ≡ true → o ≡ Less
less_from Less is = refl
less_from Equal is = absurd (cc)
less_from Greater is = absurd (cc)

equal_from : (o : Ordering) → is_eq o ≡ true → o ≡ Equal
equal_from Less is = absurd (cc)
equal_from Equal is = refl
equal_from Greater is = absurd (cc)

abbrev Grouped : List Image → Type 0
Grouped images = (groups : List Group) × Good groups × (all_of groups ≡ images)

grown_front : (image next : Image) (rest : List Image) (key : List ℕ) (version : Stamp) (c : ContentValue) (cs : List ContentValue) (groups : List Group)
    → Good ((key, (version, c ∷ cs)) ∷ groups) → all_of ((key, (version, c ∷ cs)) ∷ groups) ≡ next ∷ rest → key ≡ next.key → is_lt (bytes_cmp image.key next.key) ≡ true → Grouped (image ∷ next ∷ rest)
grown_front image next rest key version c cs groups good is same less =
    let before : bytes_cmp image.key key ≡ Less = ap (bytes_cmp image.key) same ∙ less_from _ less in (
      (image.key, (image.version, image.content ∷ [])) ∷ (key, (version, c ∷ cs)) ∷ groups,
      ((tt, tt), omega arith, (before, Below-trans bytes_cmp bytes_cmp_total image.key key (map entry groups) before good.2), good),
      ap (λ images. image ∷ images) is,
    )

grown_first : (image next : Image) (rest : List Image) (key : List ℕ) (version : Stamp) (c : ContentValue) (cs : List ContentValue) (groups : List Group)
    → Good ((key, (version, c ∷ cs)) ∷ groups) → all_of ((key, (version, c ∷ cs)) ∷ groups) ≡ next ∷ rest → key ≡ image.key → version ≡ image.version → content_cmp image.content c ≡ Less → Grouped (image ∷ next ∷ rest)
grown_first image next rest key version c cs groups good is same_key same_version less = (
  (key, (version, image.content ∷ c ∷ cs)) ∷ groups,
  (((less, Below-trans content_cmp content_cmp_total image.content c (as_entries cs) less good.0.0), good.0), omega arith, good.2, good.3),
  (λ i. record { key = same_key i; version = same_version i; content = image.content } ∷ is i),
)

grown : (image next : Image) (rest : List Image) (groups : List Group) → comes_after image next ≡ true → Good groups → all_of groups ≡ next ∷ rest → Grouped (image ∷ next ∷ rest)
grown image next rest [] after good is = absurd (cc)
grown image next rest ((key, (version, [])) ∷ groups) after good is = absurd (omega (arith, good.1))
grown image next rest ((key, (version, c ∷ cs)) ∷ groups) after good is =
    let first : record { key = key; version = version; content = c } ≡ next = cc in
    elim (either_true (is_lt (bytes_cmp image.key next.key)) _ after) as (λ _. Grouped (image ∷ next ∷ rest)) [
      | inl less ↦ grown_front image next rest key version c cs groups good is (ap (λ (i : Image). i.key) first) less
      | inr alike ↦
          let keys_same = and_parts (eq_by_cmp bytes_cmp image.key next.key) _ alike in
          let versions_same = and_parts (eq_by_cmp version_cmp image.version next.version) (is_lt (content_cmp image.content next.content)) keys_same.1 in
          grown_first image next rest key version c cs groups good is
          (ap (λ (i : Image). i.key) first ∙ sym (tied_keys image.key next.key keys_same.0))
          (ap (λ (i : Image). i.version) first ∙ sym (version_cmp-exact image.version next.version (equal_from _ versions_same.0)))
          (ap (λ (i : Image). content_cmp image.content i.content) first ∙ less_from _ versions_same.1)
    ]

grouped : (images : List Image) → images_rise images ≡ true → Grouped images
grouped [] rise = ([], tt, refl)
grouped (image ∷ []) rise = ((image.key, (image.version, image.content ∷ [])) ∷ [], ((tt, tt), omega arith, tt, tt), refl)
grouped (image ∷ next ∷ rest) rise =
    let parts = and_parts (comes_after image next) (images_rise (next ∷ rest)) rise in
    let r = grouped (next ∷ rest) parts.1 in
    grown image next rest r.0 parts.0 r.1 r.2

-- images that rise are those that spell their table
pub spelled_again : (images : List Image) → images_rise images ≡ true → spell (table_of images) ≡ images
spelled_again images rise =
    let r = grouped images rise in
    let spells = spelled_groups r.0 r.1 ∙ r.2 in
    ap spell (sym (spelled_own (map entry r.0) (groups_table r.0 r.1) ∙ ap table_of spells)) ∙ spells
