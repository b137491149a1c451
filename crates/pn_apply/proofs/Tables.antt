-- The table of the images whose keys pass a test, cut into the ranges of a layout.
use Rattle.std.proofs.Common.{◌≡◌, ℕ, Bool, true, false, cond, List, [], ◌∷◌, filter, Option, Some, None, refl, sym, ap, ◌∙◌, zero, suc, ◌+◌, not, ◌&&◌, ◌++◌, map, length, slice_get, Less, append-nil, add-one, ◌<◌, take, get_or, subst}
use Rattle.std.specs.Ordering.{eq_by_cmp, is_lt}
use Rattle.std.specs.List.{list_all, AllByRecursion, flat_map, range_with_len}
use Rattle.std.specs.Str.{bytes_eq}
use Rattle.std.specs.FinMap.{find, is_sorted}
use Rattle.std.specs.FinMap.Entries.{below_all}
use Rattle.std.proofs.lemmas.Cmp.{nat_list_cmp_total}
use Rattle.std.specs.List.Sorted.{IsStrictlySortedBy}
use Rattle.std.proofs.lemmas.List.{take_more}
use Rattle.std.proofs.lemmas.List.Elements.{filter-append}
use Rattle.std.proofs.lemmas.List.Concat.{flat_map-append}
use Rattle.pn_record.specs.declared.records.Image.{Image}
use Rattle.pn_record.specs.Sets.{bytes_cmp, CellValue}
use Rattle.pn_record.specs.Cells.{cell_of, cells, images_of, Holds, Entries, table_of}
use Rattle.pn_record.proofs.Sorted.{both_true, first_true, second_true, is_less}
use Rattle.pn_record.proofs.CellMaps.{same_key, tied_keys, held_table, rising-table_of, Holds-table_of}
use Rattle.pn_tablet.specs.Layouts.{Ends, is_below, is_from, in_range, Bounds, IsLayout, tablet_ends}
use Rattle.pn_tablet.proofs.LayoutFacts.{not_below}
use Rattle.pn_stream.specs.Brokers.{DeliveryValue}
use Rattle.pn_apply.specs.Reducing.{ranges, all_images, images_in}

-- The table of the images whose keys pass a test: the entries of the whole table that pass it.

abbrev pub entries_that : (List ℕ → Bool) → Entries → Entries
entries_that test es = filter (λ (e : List ℕ × CellValue). test e.0) es

abbrev pub images_that : (List ℕ → Bool) → List Image → List Image
images_that test images = filter (λ (image : Image). test image.key) images

cond-same : {A : Type 0} (b : Bool) (x : A) → cond b x x ≡ x
cond-same true x = refl
cond-same false x = refl

taken_entry : (t pass : Bool) (x : CellValue) (all rest : Option CellValue) → (t ≡ true → pass ≡ true) → rest ≡ cond pass all None → cond t (Some x) rest ≡ cond pass (cond t (Some x) all) None
taken_entry true pass x all rest same is = ap (λ (k : Bool). cond k (Some x) None) (sym (same refl))
taken_entry false pass x all rest same is = is

skipped_entry : (t pass : Bool) (x : CellValue) (all rest : Option CellValue) → (t ≡ true → pass ≡ false) → rest ≡ cond pass all None → rest ≡ cond pass (cond t (Some x) all) None
skipped_entry true pass x all rest same is = is ∙ ap (λ (k : Bool). cond k all None) (same refl) ∙ ap (λ (k : Bool). cond k (Some x) None) (sym (same refl))
skipped_entry false pass x all rest same is = is

-- a key is found where it passes
find_that : (test : List ℕ → Bool) (key : List ℕ) (es : Entries) → find bytes_cmp key (entries_that test es) ≡ cond (test key) (find bytes_cmp key es) None
find_that test key [] = sym (cond-same (test key) None)
find_that test key (e ∷ es) =
    let t = eq_by_cmp bytes_cmp key e.0 in
    let all = find bytes_cmp key es in
    let rest = find bytes_cmp key (entries_that test es) in
    elim (test e.0) as (λ b. test e.0 ≡ b → find bytes_cmp key (cond b (e ∷ entries_that test es) (entries_that test es)) ≡ cond (test key) (cond t (Some e.1) all) None) [
      | true ↦ λ is. taken_entry t (test key) e.1 all rest (λ tied. ap test (tied_keys key e.0 tied) ∙ is) (find_that test key es)
      | false ↦ λ is. skipped_entry t (test key) e.1 all rest (λ tied. ap test (tied_keys key e.0 tied) ∙ is) (find_that test key es)
    ] refl

taken_image : (t pass : Bool) (x : Image) (all rest : List Image) → (t ≡ true → pass ≡ true) → rest ≡ cond pass all [] → cond t (x ∷ rest) rest ≡ cond pass (cond t (x ∷ all) all) []
taken_image true pass x all rest same is =
    ap (λ (xs : List Image). x ∷ xs) (is ∙ ap (λ (k : Bool). cond k all []) (same refl)) ∙ ap (λ (k : Bool). cond k (x ∷ all) []) (sym (same refl))
taken_image false pass x all rest same is = is

skipped_image : (t pass : Bool) (x : Image) (all rest : List Image) → (t ≡ true → pass ≡ false) → rest ≡ cond pass all [] → rest ≡ cond pass (cond t (x ∷ all) all) []
skipped_image true pass x all rest same is = is ∙ ap (λ (k : Bool). cond k all []) (same refl) ∙ ap (λ (k : Bool). cond k (x ∷ all) []) (sym (same refl))
skipped_image false pass x all rest same is = is

same_bytes : (a b : List ℕ) → bytes_eq a b ≡ true → b ≡ a
same_bytes a b same = tied_keys b a (sym (same_key a b) ∙ same)

-- a key has its images where it passes
images_of_that : (test : List ℕ → Bool) (key : List ℕ) (images : List Image) → images_of key (images_that test images) ≡ cond (test key) (images_of key images) []
images_of_that test key [] = sym (cond-same (test key) [])
images_of_that test key (image ∷ images) =
    let t = bytes_eq image.key key in
    let all = images_of key images in
    let rest = images_of key (images_that test images) in
    elim (test image.key) as (λ b. test image.key ≡ b → images_of key (cond b (image ∷ images_that test images) (images_that test images)) ≡ cond (test key) (cond t (image ∷ all) all) []) [
      | true ↦ λ is. taken_image t (test key) image all rest (λ tied. ap test (same_bytes image.key key tied) ∙ is) (images_of_that test key images)
      | false ↦ λ is. skipped_image t (test key) image all rest (λ tied. ap test (same_bytes image.key key tied) ∙ is) (images_of_that test key images)
    ] refl

cell_of-cond : (b : Bool) (images : List Image) → cell_of (cond b images []) ≡ cond b (cell_of images) None
cell_of-cond true images = refl
cell_of-cond false images = refl

cells_that : (test : List ℕ → Bool) (images : List Image) (key : List ℕ) → cells (images_that test images) key ≡ cond (test key) (cells images key) None
cells_that test images key = ap cell_of (images_of_that test key images) ∙ cell_of-cond (test key) (images_of key images)

below_that : (test : List ℕ → Bool) (key : List ℕ) (es : Entries) → below_all bytes_cmp key es ≡ true → below_all bytes_cmp key (entries_that test es) ≡ true
below_that test key [] below = refl
below_that test key (e ∷ es) below =
    let first = first_true (is_lt (bytes_cmp key e.0)) (below_all bytes_cmp key es) below in
    let rest = below_that test key es (second_true (is_lt (bytes_cmp key e.0)) (below_all bytes_cmp key es) below) in
    elim (test e.0) as (λ b. below_all bytes_cmp key (cond b (e ∷ entries_that test es) (entries_that test es)) ≡ true) [
      | true ↦ both_true (is_lt (bytes_cmp key e.0)) (below_all bytes_cmp key (entries_that test es)) first rest
      | false ↦ rest
    ]

-- what passes of rising entries rises
pub sorted_that : (test : List ℕ → Bool) (es : Entries) → is_sorted bytes_cmp es ≡ true → is_sorted bytes_cmp (entries_that test es) ≡ true
sorted_that test [] rising = refl
sorted_that test (e ∷ es) rising =
    let below = below_that test e.0 es (first_true (below_all bytes_cmp e.0 es) (is_sorted bytes_cmp es) rising) in
    let rest = sorted_that test es (second_true (below_all bytes_cmp e.0 es) (is_sorted bytes_cmp es) rising) in
    elim (test e.0) as (λ b. is_sorted bytes_cmp (cond b (e ∷ entries_that test es) (entries_that test es)) ≡ true) [
      | true ↦ both_true (below_all bytes_cmp e.0 (entries_that test es)) (is_sorted bytes_cmp (entries_that test es)) below rest
      | false ↦ rest
    ]

pub table_that : (test : List ℕ → Bool) (images : List Image) → table_of (images_that test images) ≡ entries_that test (table_of images)
table_that test images =
    sym (held_table (entries_that test (table_of images)) (images_that test images) (sorted_that test (table_of images) (rising-table_of images))
    (λ key. find_that test key (table_of images) ∙ ap (λ (c : Option CellValue). cond (test key) c None) (Holds-table_of images key) ∙ sym (cells_that test images key)))

-- what passes passes
pub all_that : (test : List ℕ → Bool) (es : Entries) → list_all (λ (e : List ℕ × CellValue). test e.0) (entries_that test es) ≡ true
all_that test [] = refl
all_that test (e ∷ es) =
    elim (test e.0) as (λ b. test e.0 ≡ b → list_all (λ (x : List ℕ × CellValue). test x.0) (cond b (e ∷ entries_that test es) (entries_that test es)) ≡ true) [
      | true ↦ λ is. both_true (test e.0) (list_all (λ (x : List ℕ × CellValue). test x.0) (entries_that test es)) is (all_that test es)
      | false ↦ λ is. all_that test es
    ] refl

-- Rising entries cut into the ranges of a layout are there one range after another.

-- the ranges one after another, where the first begins at an end
abbrev cuts : Option (List ℕ) → Bounds → List Ends
cuts from [] = (from, None) ∷ []
cuts from (b ∷ bs) = (from, Some b) ∷ cuts (Some b) bs

abbrev ends_at : Option (List ℕ) → Bounds → ℕ → Ends
ends_at from bs zero = (from, slice_get bs 0)
ends_at from bs (suc t) = (slice_get bs t, slice_get bs (suc t))

ends_later : (from : Option (List ℕ)) (b : List ℕ) (bs : Bounds) (t : ℕ) → ends_at from (b ∷ bs) (suc t) ≡ ends_at (Some b) bs t
ends_later from b bs zero = refl
ends_later from b bs (suc t) = refl

first_ends : (bs : Bounds) (t : ℕ) → tablet_ends bs t ≡ ends_at None bs t
first_ends bs zero = refl
first_ends bs (suc t) = refl

shifted : {A : Type 0} (f : ℕ → A) (a n : ℕ) → map f (range_with_len (a + 1) n) ≡ map (λ t. f (suc t)) (range_with_len a n)
shifted f a zero = refl
shifted f a (suc n) = λ i. f (add-one a i) ∷ shifted f (a + 1) n i

cut_at : (from : Option (List ℕ)) (bs : Bounds) → map (ends_at from bs) (range_with_len 0 (suc (length bs))) ≡ cuts from bs
cut_at from [] = refl
cut_at from (b ∷ bs) =
    ap (λ (rest : List Ends). (from, Some b) ∷ rest)
    (shifted (ends_at from (b ∷ bs)) 0 (suc (length bs))
    ∙ ap (λ (f : ℕ → Ends). map f (range_with_len 0 (suc (length bs)))) (λ i t. ends_later from b bs t i)
    ∙ cut_at (Some b) bs)

ranges_are : (bs : Bounds) → ranges bs ≡ cuts None bs
ranges_are bs =
    ap (λ (f : ℕ → Ends). map f (range_with_len 0 (length bs + 1))) (λ i t. first_ends bs t i)
    ∙ ap (λ (n : ℕ). map (ends_at None bs) (range_with_len 0 n)) (add-one (length bs))
    ∙ cut_at None bs

-- the end is below all bounds
abbrev Follows : Option (List ℕ) → Bounds → Type 0
Follows None bs = Unit {0}
Follows (Some from) bs = AllByRecursion (λ other. bytes_cmp from other ≡ Less) bs

begins : (from : Option (List ℕ)) (b : List ℕ) (bs : Bounds) (key : List ℕ) → Follows from (b ∷ bs) → is_below key b ≡ false → is_from from key ≡ true
begins None b bs key follows above = refl
begins (Some f) b bs key follows above = ap not (not_below key f b follows.0 above)

above_later : (key other bound : List ℕ) → is_below key other ≡ true → is_below key bound ≡ false → is_below other bound ≡ false
above_later key other bound rises above =
    elim (is_below other bound) as (λ t. is_below other bound ≡ t → t ≡ false) [
      | true ↦ λ is. sym (ap is_lt (nat_list_cmp_total.trans key other bound (is_less (bytes_cmp key other) rises) (is_less (bytes_cmp other bound) is))) ∙ above
      | false ↦ λ is. refl
    ] refl

and_false : (x : Bool) → (x && false) ≡ false
and_false true = refl
and_false false = refl

and_true : (x : Bool) → (x && true) ≡ x
and_true true = refl
and_true false = refl

-- after a key that is not below a bound no key is below it
none_below : (test : List ℕ → Bool) (b key : List ℕ) (es : Entries) → is_below key b ≡ false → below_all bytes_cmp key es ≡ true → entries_that (λ k. test k && is_below k b) es ≡ []
none_below test b key [] above below = refl
none_below test b key (e ∷ es) above below =
    let rest = entries_that (λ k. test k && is_below k b) es in
    let here = above_later key e.0 b (first_true (is_lt (bytes_cmp key e.0)) (below_all bytes_cmp key es) below) above in
    ap (λ (t : Bool). cond (test e.0 && t) (e ∷ rest) rest) here ∙ ap (λ (t : Bool). cond t (e ∷ rest) rest) (and_false (test e.0))
    ∙ none_below test b key es above (second_true (is_lt (bytes_cmp key e.0)) (below_all bytes_cmp key es) below)

low_step : (x : Bool) (e : List ℕ × CellValue) (lows highs all : Entries) → lows ++ highs ≡ all → cond (x && true) (e ∷ lows) lows ++ highs ≡ cond x (e ∷ all) all
low_step true e lows highs all is = ap (λ (rest : Entries). e ∷ rest) is
low_step false e lows highs all is = is

high_step : (x : Bool) (e : List ℕ × CellValue) (lows highs all : Entries) → x ≡ true → lows ≡ [] → lows ++ highs ≡ all → cond (x && false) (e ∷ lows) lows ++ (e ∷ highs) ≡ cond x (e ∷ all) all
high_step true e lows highs all passes none is = ap (λ (l : Entries). l ++ (e ∷ highs)) none ∙ ap (λ (rest : Entries). e ∷ rest) (ap (λ (l : Entries). l ++ highs) (sym none) ∙ is)
high_step false e lows highs all passes none is = cc

-- a range cut at a bound in it
cut : (from : Option (List ℕ)) (b : List ℕ) (bs : Bounds) (es : Entries) → Follows from (b ∷ bs) → is_sorted bytes_cmp es ≡ true
    → entries_that (λ k. is_from from k && is_below k b) es ++ entries_that (λ k. not (is_below k b)) es ≡ entries_that (λ k. is_from from k) es
cut from b bs [] follows rising = refl
cut from b bs (e ∷ es) follows rising =
    let lows = entries_that (λ k. is_from from k && is_below k b) es in
    let highs = entries_that (λ k. not (is_below k b)) es in
    let all = entries_that (λ k. is_from from k) es in
    let rest = cut from b bs es follows (second_true (below_all bytes_cmp e.0 es) (is_sorted bytes_cmp es) rising) in
    let below = first_true (below_all bytes_cmp e.0 es) (is_sorted bytes_cmp es) rising in
    elim (is_below e.0 b) as (λ t. is_below e.0 b ≡ t → cond (is_from from e.0 && t) (e ∷ lows) lows ++ cond (not t) (e ∷ highs) highs ≡ cond (is_from from e.0) (e ∷ all) all) [
      | true ↦ λ is. low_step (is_from from e.0) e lows highs all rest
      | false ↦ λ is. high_step (is_from from e.0) e lows highs all (begins from b bs e.0 follows is) (none_below (λ k. is_from from k) b e.0 es is below) rest
    ] refl

pieces : (from : Option (List ℕ)) (bs : Bounds) (es : Entries) → Follows from bs → IsStrictlySortedBy bytes_cmp bs → is_sorted bytes_cmp es ≡ true
    → flat_map (λ (range : Ends). entries_that (in_range range) es) (cuts from bs) ≡ entries_that (λ k. is_from from k) es
unfolding IsStrictlySortedBy
pieces from [] es follows rising sorted = append-nil (entries_that (in_range (from, None)) es) ∙ ap (λ (test : List ℕ → Bool). entries_that test es) (λ i k. and_true (is_from from k) i)
pieces from (b ∷ bs) es follows rising sorted =
    ap (λ (rest : Entries). entries_that (in_range (from, Some b)) es ++ rest) (pieces (Some b) bs es rising.0 rising.1 sorted) ∙ cut from b bs es follows sorted

kept_all : (es : Entries) → entries_that (λ _. true) es ≡ es
kept_all [] = refl
kept_all (e ∷ es) = ap (λ (rest : Entries). e ∷ rest) (kept_all es)

pub all_pieces : (bs : Bounds) (es : Entries) → IsLayout bs → is_sorted bytes_cmp es ≡ true → flat_map (λ (range : Ends). entries_that (in_range range) es) (ranges bs) ≡ es
all_pieces bs es lawful sorted =
    ap (flat_map (λ (range : Ends). entries_that (in_range range) es)) (ranges_are bs) ∙ pieces None bs es tt lawful.rising sorted ∙ kept_all es

-- The parts of shares in a range.

-- the images of one share more
pub images_more : (range : Ends) (shares : List DeliveryValue) (n : ℕ) (share : DeliveryValue) → n < length shares → share ≡ get_or shares n share
    → images_in range (all_images (take (n + 1) shares)) ≡ images_in range (all_images (take n shares)) ++ images_in range share.images
images_more range shares n share within is =
    ap (λ (ds : List DeliveryValue). images_in range (all_images ds)) (take_more shares n share within ∙ ap (λ (d : DeliveryValue). take n shares ++ d ∷ []) (sym is))
    ∙ ap (images_in range) (flat_map-append (λ (d : DeliveryValue). d.images) (take n shares) (share ∷ []) ∙ ap (λ (xs : List Image). all_images (take n shares) ++ xs) (append-nil share.images))
    ∙ filter-append (λ (image : Image). in_range range image.key) (all_images (take n shares)) share.images

-- the entries of a table in a range hold the images there
pub held_part : (range : Ends) (images : List Image) (whole part : Entries) → whole ≡ table_of images → part ≡ entries_that (in_range range) whole → Holds part (images_in range images)
held_part range images whole part is cut =
    subst (λ (es : Entries). Holds es (images_in range images)) (table_that (in_range range) images ∙ sym (cut ∙ ap (entries_that (in_range range)) is)) (Holds-table_of (images_in range images))
