-- Images that become entries one after another, in key order or not.
use Rattle.std.proofs.Common.{◌≡◌, List, [], ◌∷◌, ◌++◌, map, reverse, sym, ap, ◌∙◌, ℕ, zero, suc, ◌+◌, ◌<◌, false, length, get_or, set, Option, is_lt, Less, Equal, Greater, refl, subst, arith}
use Rattle.std.proofs.lemmas.List.{append_assoc, append-nil, reverse-append, reverse-reverse, length-map, map-set}
use Rattle.std.proofs.lemmas.Cmp.{nat_list_cmp_total}
use Rattle.std.proofs.lemmas.List.Sorted.{ranks_by, Contains-permutation, IsPermutation-sym}
use Rattle.std.specs.List.{AllByRecursion, swap}
use Rattle.std.specs.List.Sorted.{IsPermutation, IsSortedByKey, SwapsInRange, apply_swaps}
use Rattle.std.specs.FinMap.{find, put}
use Rattle.std.specs.FinMap.Entries.{by_order}
use Rattle.pn_join.specs.Indices.{AreUpTo}
use Rattle.pn_join.specs.PutInLeaves.{IsPutOf}
use Rattle.pn_join.proofs.ListFacts.{each_of, each_weaker, each_by_both}
use Rattle.pn_join.proofs.Puts.{joins_new}
use Rattle.pn_record.specs.declared.records.Image.{Image}
use Rattle.pn_record.specs.Cells.{Entries, SameImages, cells}
use Rattle.pn_record.specs.Sets.{bytes_cmp, CellValue, HasContents, cell_joined}
use Rattle.pn_record.proofs.CellLists.{both, both-assoc, cells-append, cells-same}
use Rattle.pn_record.proofs.CellMaps.{Holds-one, find-joined}
use Rattle.pn_apply.specs.Reducing.{AreMade, entry_of, joined_at}

-- Images that become entries one after another.

-- the last of the images that are left becomes the next entry
pub made_more : (images rest old : List Image) (image : Image) (entries : Entries) → old ≡ rest ++ image ∷ [] → AreMade images old entries → AreMade images rest (entries ++ entry_of image ∷ [])
made_more images rest old image entries is made =
    append_assoc entries (entry_of image ∷ []) (map entry_of (reverse rest))
    ∙ sym (ap (λ (xs : List Image). entries ++ map entry_of xs) (ap reverse is ∙ reverse-append rest (image ∷ [])))
    ∙ made

-- no entry is made yet, where all images are left, last first
pub none_made : (images left : List Image) → left ≡ reverse images → AreMade images left []
none_made images left is = ap (λ (xs : List Image). map entry_of (reverse xs)) is ∙ ap (map entry_of) (reverse-reverse images)

-- all entries are made, where no image is left
pub all_made : (images left : List Image) (entries : Entries) → left ≡ [] → AreMade images left entries → entries ≡ map entry_of images
all_made images left entries none made = sym (ap (λ (xs : List Image). entries ++ map entry_of (reverse xs)) none ∙ append-nil entries) ∙ made

-- Entries in key order that join one after another, and entries in another order.

abbrev pub Entry : Type 0
Entry = List ℕ × CellValue

-- no key is less than one before it
abbrev pub Ascends : Entries → Type 0
Ascends [] = Unit {0}
Ascends (e ∷ es) = AllByRecursion (λ (f : Entry). is_lt (bytes_cmp f.0 e.0) ≡ false) es × Ascends es

pub ascends_from_sorted : (es : Entries) → IsSortedByKey (λ (e : Entry). e.0) bytes_cmp es → Ascends es
ascends_from_sorted [] sorted = tt
ascends_from_sorted (e ∷ []) sorted = (tt, tt)
ascends_from_sorted (e ∷ f ∷ es) sorted =
    let first : is_lt (bytes_cmp f.0 e.0) ≡ false = sorted 0 e (omega arith) (omega arith) in
    let rest : Ascends (f ∷ es) = ascends_from_sorted (f ∷ es) (λ k d ge lt. later_sorted k d (omega (arith, lt))) in
    ((first, each_weaker (λ (g : Entry). is_lt (bytes_cmp g.0 f.0) ≡ false) (λ (g : Entry). is_lt (bytes_cmp g.0 e.0) ≡ false) (λ g above. (ranks_by nat_list_cmp_total (λ (x : Entry). x.0)).chain g f e above first) es rest.0), rest)
  where
    later_sorted : (k : ℕ) (d : Entry) → suc k + 1 < length (e ∷ f ∷ es) → is_lt (bytes_cmp (get_or (f ∷ es) (k + 1) d).0 (get_or (f ∷ es) k d).0) ≡ false
    later_sorted k d lt =
        let next : suc k + 1 ≡ suc (k + 1) = omega arith in
        subst (λ (n : ℕ). is_lt (bytes_cmp (get_or (e ∷ f ∷ es) n d).0 (get_or (e ∷ f ∷ es) (suc k) d).0) ≡ false) next (sorted (suc k) d (omega arith) lt)

-- no key is above one that is put, if none was
up_to_put : (bound key : List ℕ) (v : CellValue) (es : Entries) → is_lt (bytes_cmp bound key) ≡ false → AreUpTo bytes_cmp bound es → AreUpTo bytes_cmp bound (put bytes_cmp key v es)
up_to_put bound key v [] is up = (is, tt)
up_to_put bound key v (e ∷ es) is up =
    elim (bytes_cmp key e.0) as (λ r. AreUpTo bytes_cmp bound (by_order r ((key, v) ∷ e ∷ es) ((e.0, v) ∷ es) (e ∷ put bytes_cmp key v es))) [
      | Less ↦ (is, up)
      | Equal ↦ up
      | Greater ↦ (up.0, up_to_put bound key v es is up.1)
    ]

-- no entry of these is above one of those that are left, which are in order
pub record Follow (joined left : Entries) : Type 0 where
  pub up_to : AllByRecursion (λ (e : Entry). AreUpTo bytes_cmp e.0 joined) left
  pub order : Ascends left

pub all_follow : (left : Entries) → Ascends left → Follow [] left
all_follow left order = record { up_to = each_of (λ (e : Entry). AreUpTo {X = CellValue} bytes_cmp e.0 []) (λ e. tt) left; order = order }

module _ {key : List ℕ} {cell : CellValue} {old new : Entries} (is : IsPutOf bytes_cmp (λ (c : CellValue). c) cell_joined HasContents key cell old new) where
  pub next_follow : (rest : Entries) → Follow old ((key, cell) ∷ rest) → Follow new rest
  next_follow rest follow = record {
    up_to = each_by_both (λ (e : Entry). AreUpTo bytes_cmp e.0 old) (λ (e : Entry). is_lt (bytes_cmp e.0 key) ≡ false) (λ (e : Entry). AreUpTo bytes_cmp e.0 new)
        (λ e up above. subst (AreUpTo bytes_cmp e.0) (sym is.put) (up_to_put e.0 key is.value old above up)) rest follow.up_to.1 follow.order.0;
    order = follow.order.1;
  }

  -- the cells so far and those of the entries that are left, with one more joined
  pub next_joined : (rest all : Entries) (q : List ℕ) → both (find bytes_cmp q old) (joined_at ((key, cell) ∷ rest) q) ≡ joined_at all q → both (find bytes_cmp q new) (joined_at rest q) ≡ joined_at all q
  next_joined rest all q joined =
      ap (λ (c : Option CellValue). both c (joined_at rest q)) (find-joined old ((key, cell) ∷ []) new (joins_new is nat_list_cmp_total) q)
      ∙ both-assoc (find bytes_cmp q old) (find bytes_cmp q ((key, cell) ∷ [])) (joined_at rest q)
      ∙ joined

-- the entries of images join to the cells of the images
joined_images : (images : List Image) (key : List ℕ) → joined_at (map entry_of images) key ≡ cells images key
joined_images [] key = refl
joined_images (image ∷ images) key =
    (λ i. both (Holds-one image key i) (joined_images images key i)) ∙ sym (cells-append (image ∷ []) images key)

module _ {X Y : Type 0} (f : X → Y) where
  get_or_mapped : (xs : List X) (i : ℕ) (d : X) → get_or (map f xs) i (f d) ≡ f (get_or xs i d)
  get_or_mapped [] i d = refl
  get_or_mapped (x ∷ xs) zero d = refl
  get_or_mapped (x ∷ xs) (suc i) d = get_or_mapped xs i d

  swap_mapped : (xs : List X) (i j : ℕ) → map f (swap xs i j) ≡ swap (map f xs) i j
  swap_mapped [] i j = refl
  swap_mapped (d ∷ xs) i j =
      map-set f (set (d ∷ xs) i (get_or (d ∷ xs) j d)) j (get_or (d ∷ xs) i d)
      ∙ (λ k. set ((map-set f (d ∷ xs) i (get_or (d ∷ xs) j d) ∙ ap (set (map f (d ∷ xs)) i) (sym (get_or_mapped (d ∷ xs) j d))) k) j (sym (get_or_mapped (d ∷ xs) i d) k))

  swaps_mapped : (xs : List X) (moves : List (ℕ × ℕ)) → map f (apply_swaps xs moves) ≡ apply_swaps (map f xs) moves
  swaps_mapped xs [] = refl
  swaps_mapped xs (m ∷ moves) = swap_mapped (apply_swaps xs moves) m.0 m.1 ∙ ap (λ (ys : List Y). swap ys m.0 m.1) (swaps_mapped xs moves)

-- in any order, the entries of images join to the cells of the images
pub joined_in_any_order : (images : List Image) (entries : Entries) → IsPermutation (map entry_of images) entries → (key : List ℕ) → joined_at entries key ≡ cells images key
joined_in_any_order images entries same key =
    let others = apply_swaps images same.moves in
    let moved : IsPermutation images others = record {
      moves = same.moves;
      below = subst (λ (n : ℕ). SwapsInRange n same.moves) (length-map images entry_of) same.below;
      is = refl;
    } in
    let alike : SameImages others images = λ image. (Contains-permutation others images image (IsPermutation-sym images others moved), Contains-permutation images others image moved) in
    ap (λ (es : Entries). joined_at es key) (same.is ∙ sym (swaps_mapped entry_of images same.moves))
    ∙ joined_images others key
    ∙ cells-same others images alike key
