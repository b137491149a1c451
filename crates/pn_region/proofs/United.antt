-- Images of tablets, as far as they lie in their ranges, and the tablets that are made of the old ones.
use Rattle.std.proofs.Common.{◌≡◌, ℕ, zero, suc, true, false, cond, List, [], ◌∷◌, ◌++◌, slice_get, Some, refl, sym, ap, ◌∙◌, subst, arith, append_assoc, append-nil, Contains}
use Rattle.std.proofs.lemmas.List.Elements.{Contains-append_left, Contains-append_right, filter-append}
use Rattle.pn_apply.proofs.Tables.{entries_that, table_that}
use Rattle.pn_region.specs.Recovery.{made_of}
use Rattle.pn_region.proofs.Common.{AllByRecursion, Positions, Image, table_of, Ends, in_range, TabletStateValue, images_in, ranges, RegionValue, AreTabletsOf, IsRegion}
use Rattle.pn_region.proofs.Pieces.{Outside, Apart, ranges_apart, not_in}
use Rattle.pn_region.proofs.KeptRecords.{from_images_in, to_images_in}
use Rattle.pn_region.proofs.TakenImages.{by_part, cells_each, pieces_of, together}

-- of the images in a range none is in one that is apart from it
none_both : (r q : Ends) (images : List Image) → ((key : List ℕ) → in_range q key ≡ true → in_range r key ≡ false) → images_in r (images_in q images) ≡ []
none_both r q [] apart = refl
none_both r q (image ∷ images) apart =
    elim (in_range q image.key) as (λ b. in_range q image.key ≡ b → images_in r (cond b (image ∷ images_in q images) (images_in q images)) ≡ []) [
      | true ↦ λ lies. ap (λ b. cond b (image ∷ images_in r (images_in q images)) (images_in r (images_in q images))) (apart image.key lies) ∙ none_both r q images apart
      | false ↦ λ no. none_both r q images apart
    ] refl

-- those in a range are all in it
again_in : (r : Ends) (images : List Image) → images_in r (images_in r images) ≡ images_in r images
again_in r [] = refl
again_in r (image ∷ images) =
    elim (in_range r image.key) as (λ b. in_range r image.key ≡ b → images_in r (cond b (image ∷ images_in r images) (images_in r images)) ≡ cond b (image ∷ images_in r images) (images_in r images)) [
      | true ↦ λ lies. ap (λ b. cond b (image ∷ images_in r (images_in r images)) (images_in r (images_in r images))) lies ∙ ap (λ rest. image ∷ rest) (again_in r images)
      | false ↦ λ no. again_in r images
    ] refl

-- none of the images is in any of the ranges
abbrev NoneIn : List Image → List Ends → Type 0
NoneIn images [] = Unit {0}
NoneIn images (r ∷ rs) = (images_in r images ≡ []) × NoneIn images rs

no_images : (rs : List Ends) → NoneIn [] rs
no_images [] = tt
no_images (r ∷ rs) = (refl, no_images rs)

none_more : (r : Ends) (rs : List Ends) (images more : List Image) → Outside r rs → NoneIn images rs → NoneIn (images ++ images_in r more) rs
none_more r [] images more outside none = tt
none_more r (q ∷ rs) images more outside none = (
  filter-append (λ (image : Image). in_range q image.key) images (images_in r more)
      ∙ (λ i. none.0 i ++ none_both q r more (λ key lies. not_in r q key (outside.0 key) lies) i),
  none_more r rs images more outside.1 none.1,
)

module _ (P : TabletStateValue → Type 0) (images : (t : TabletStateValue) → P t → List Image) where
  -- the images of each tablet that lie in its range
  abbrev pub united : (ts : List TabletStateValue) → AllByRecursion P ts → List Image
  united [] all = []
  united (t ∷ ts) all = images_in t.range (images t all.0) ++ united ts all.1

  -- an image of theirs is one of a tablet's, in its range
  pub record IsOf (ts : List TabletStateValue) (image : Image) : Type 0 where
    pub n : ℕ
    pub tablet : TabletStateValue
    pub at : slice_get ts n ≡ Some tablet
    pub is : P tablet
    pub there : Contains (images tablet is) image
    pub lies : in_range tablet.range image.key ≡ true

  pub from_united : (ts : List TabletStateValue) (all : AllByRecursion P ts) (image : Image) → Contains (united ts all) image → IsOf ts image
  from_united [] all image there = absurd (omega (arith, there.1))
  from_united (t ∷ ts) all image there =
      by_part (images_in t.range (images t all.0)) (united ts all.1) image
      (λ own.
      let found = from_images_in t.range (images t all.0) image own in
      record { n = 0; tablet = t; at = refl; is = all.0; there = found.there; lies = found.lies })
      (λ other.
      let later = from_united ts all.1 image other in
      record { n = suc later.n; tablet = later.tablet; at = later.at; is = later.is; there = later.there; lies = later.lies })
      there

  pub to_united : (ts : List TabletStateValue) (all : AllByRecursion P ts) (n : ℕ) (t : TabletStateValue) → slice_get ts n ≡ Some t → (image : Image) → ((p : P t) → Contains (images t p) image) → in_range t.range image.key ≡ true
      → Contains (united ts all) image
  to_united [] all n t at image there lies = cc
  to_united (u ∷ ts) all zero t at image there lies =
      let same : t ≡ u = cc in
      Contains-append_left (images_in u.range (images u all.0)) (united ts all.1) image
      (to_images_in u.range (images u all.0) image (subst (λ (v : TabletStateValue). (p : P v) → Contains (images v p) image) same there all.0)
      (ap (λ (v : TabletStateValue). in_range v.range image.key) (sym same) ∙ lies))
  to_united (u ∷ ts) all (suc n) t at image there lies =
      Contains-append_right (images_in u.range (images u all.0)) (united ts all.1) image (to_united ts all.1 n t at image there lies)

  module _ (marks : Positions) (own : (t : TabletStateValue) (p : P t) → t.cells ≡ table_of (images_in t.range (images t p))) where
    none_of_others : (r : Ends) (rs : List Ends) (ts : List TabletStateValue) (all : AllByRecursion P ts) → Outside r rs → AreTabletsOf marks rs ts → images_in r (united ts all) ≡ []
    none_of_others r [] [] all outside are = refl
    none_of_others r [] (t ∷ ts) all outside are = absurd are
    none_of_others r (q ∷ rs) [] all outside are = absurd are
    none_of_others r (q ∷ rs) (t ∷ ts) all outside are =
        filter-append (λ (image : Image). in_range r image.key) (images_in t.range (images t all.0)) (united ts all.1)
        ∙ (λ i. none_both r t.range (images t all.0) (λ key lies. outside.0 key (ap (λ (ends : Ends). in_range ends key) (sym are.0.range) ∙ lies)) i
        ++ none_of_others r rs ts all.1 outside.1 are.1 i)

    -- in its range, each tablet has just its own
    united_pieces : (rs : List Ends) (ts : List TabletStateValue) (all : AllByRecursion P ts) (before : List Image) → Apart rs → AreTabletsOf marks rs ts → NoneIn before rs → cells_each ts ≡ pieces_of (before ++ united ts all) rs
    united_pieces [] [] all before apart are none = refl
    united_pieces [] (t ∷ ts) all before apart are none = absurd are
    united_pieces (r ∷ rs) [] all before apart are none = absurd are
    united_pieces (r ∷ rs) (t ∷ ts) all before apart are none =
        let mine = images t all.0 in
        let ranged : images_in t.range mine ≡ images_in r mine = ap (λ (ends : Ends). images_in ends mine) are.0.range in
        let whole : before ++ united (t ∷ ts) all ≡ (before ++ images_in r mine) ++ united ts all.1 =
        (λ i. before ++ (ranged i ++ united ts all.1)) ∙ sym (append_assoc before (images_in r mine) (united ts all.1)) in
        let here : images_in r (before ++ united (t ∷ ts) all) ≡ images_in r mine =
        ap (images_in r) whole
        ∙ filter-append (λ (image : Image). in_range r image.key) (before ++ images_in r mine) (united ts all.1)
        ∙ (λ i. filter-append (λ (image : Image). in_range r image.key) before (images_in r mine) i ++ none_of_others r rs ts all.1 apart.0 are.1 i)
        ∙ append-nil (images_in r before ++ images_in r (images_in r mine))
        ∙ (λ i. none.0 i ++ again_in r mine i) in
        λ i. (own t all.0 ∙ ap table_of (ranged ∙ sym here)) i
        ∷ (united_pieces rs ts all.1 (before ++ images_in r mine) apart.1 are.1 (none_more r rs before mine apart.0 none.1)
        ∙ ap (λ (more : List Image). pieces_of more rs) (sym whole)) i

  -- the new tablet has the cells of them all, where each tablet has those of its own
  pub united_cells : (region : RegionValue) (all : AllByRecursion P region.tablets) → IsRegion region → ((t : TabletStateValue) (p : P t) → t.cells ≡ table_of (images_in t.range (images t p)))
      → (r : Ends) → (made_of region.tablets r).cells ≡ table_of (images_in r (united region.tablets all))
  united_cells region all is own r =
      ap (entries_that (in_range r))
      (together region (united region.tablets all) is.lawful
      (united_pieces region.marks own (ranges region.layout) region.tablets all [] (ranges_apart region.layout is.lawful) is.tablets (no_images (ranges region.layout))))
      ∙ sym (table_that (in_range r) (united region.tablets all))
