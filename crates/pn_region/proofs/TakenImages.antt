-- The images that the tablets of a region have, one by one and together, and the cells of those.
use Rattle.std.proofs.Common.{◌≡◌, ℕ, zero, suc, true, slice_get, Some, List, [], ◌∷◌, ◌++◌, map, refl, sym, ap, ◌∙◌, subst, ◌⊎◌, inl, inr, Contains, Bool, false, cond, append-nil, IsTrue}
use Rattle.std.proofs.lemmas.List.Elements.{Contains-append_left, Contains-append_right, Contains-append_cases, filter-append}
use Rattle.std.proofs.lemmas.List.Folds.{flat_map-map}
use Rattle.std.specs.FinMap.{keys}
use Rattle.std.proofs.lemmas.Grind.{flat_map-append}
use Rattle.pn_record.specs.Cells.{adds, spell_cell}
use Rattle.pn_record.proofs.CellLists.{cells-same}
use Rattle.pn_record.proofs.CellMaps.{table_of-nil, same_cells_table, rising-table_of}
use Rattle.pn_record.specs.Limits.{ContentValue}
use Rattle.pn_record.proofs.Sorted.{first_true, second_true}
use Rattle.pn_tablet.specs.Steps.{IsSpelled}
use Rattle.pn_apply.proofs.ReduceLaws.{range_joins, cells_cut, same_in}
use Rattle.pn_region.specs.Laws.{IsBetween, HoldsBetween, AllHoldBetween}
use Rattle.pn_region.specs.Rounds.{after_joins}
use Rattle.pn_region.proofs.Common.{AllByRecursion, Positions, DeliveryValue, Image, spell, Entries, table_of, Bounds, Ends, in_range, tablet_after, TabletStateValue, empty_tablet, all_stepped, AreOldOrStepped, all_images, images_in, join_in, ranges, HasImages, AreIn, HasBetween, RegionValue, IsTabletOf, AreTabletsOf, IsRegion, new_region, IsHalfTaken, flat_map, SameImages, IsLayout, all_cells, is_sorted, bytes_cmp, Stamp, lie_in}
use Rattle.pn_region.proofs.RoundEnds.{half_so, left_as}
use Rattle.pn_region.proofs.KeptRecords.{from_images_in, to_images_in}
use Rattle.pn_region.proofs.RoundSteps.{is_taken}
use Rattle.pn_region.proofs.Pieces.{Outside, Apart, ranges_apart, cells_of, not_in, spelled_inside}

-- The images that the tablets of a region have.

-- the cells of each tablet
abbrev pub cells_each : List TabletStateValue → List Entries
cells_each tablets = map (λ tablet. tablet.cells) tablets

-- the cells of images in each range
abbrev pub pieces_of : List Image → List Ends → List Entries
pieces_of images ranges = map (λ range. table_of (images_in range images)) ranges

none_at_first : (rs : List Ends) → cells_each (map empty_tablet rs) ≡ pieces_of [] rs
none_at_first [] = refl
none_at_first (r ∷ rs) = λ i. sym table_of-nil i ∷ none_at_first rs i

-- a new region has the cells of no image
pub new_has : (bounds : Bounds) → HasImages (new_region bounds) []
new_has bounds = none_at_first (ranges bounds)

none_between : (rs : List Ends) → AllHoldBetween [] [] rs (map empty_tablet rs)
none_between [] = tt
none_between (r ∷ rs) = (([], record { all = λ image there. there; no_others = λ image there. there }, sym table_of-nil), none_between rs)

pub new_between : (bounds : Bounds) → HasBetween [] [] (new_region bounds)
new_between bounds = none_between (ranges bounds)

pub heads : {A : Type 0} (x y : A) (xs ys : List A) → x ∷ xs ≡ y ∷ ys → x ≡ y
heads x y xs ys is = cc

pub tails : {A : Type 0} (x y : A) (xs ys : List A) → x ∷ xs ≡ y ∷ ys → xs ≡ ys
tails x y xs ys is = cc

pub either_one : {A B P : Type 0} → (A → P) → (B → P) → A ⊎ B → P
either_one first second (inl one) = first one
either_one first second (inr other) = second other

-- what is in one list or in the other
pub by_part : {P : Type 0} (xs ys : List Image) (image : Image) → (Contains xs image → P) → (Contains ys image → P) → Contains (xs ++ ys) image → P
by_part xs ys image first second there = either_one first second (Contains-append_cases xs ys image there)

-- images of which each list has those of the other in a range make the same cells there
pub alike_in : (range : Ends) (images others : List Image) → ((image : Image) → Contains images image → in_range range image.key ≡ true → Contains others image)
    → ((image : Image) → Contains others image → in_range range image.key ≡ true → Contains images image) → table_of (images_in range images) ≡ table_of (images_in range others)
alike_in range images others to from =
    same_cells_table (images_in range images) (images_in range others) (cells-same (images_in range images) (images_in range others) (λ image. (
      λ there.
          let is = from_images_in range images image there in
          to_images_in range others image (to image is.there is.lies) is.lies,
      λ there.
          let is = from_images_in range others image there in
          to_images_in range images image (from image is.there is.lies) is.lies,
    )))

-- what is true of all is true of the one at an index
pub one_of : (P : TabletStateValue → Type 0) (ts : List TabletStateValue) (n : ℕ) (t : TabletStateValue) → AllByRecursion P ts → slice_get ts n ≡ Some t → P t
one_of P [] n t all there = cc
one_of P (u ∷ ts) zero t all there =
    let same : u ≡ t = cc in
    subst P same all.0
one_of P (u ∷ ts) (suc n) t all there = one_of P ts n t all.1 there

module _ (sure maybe images more : List Image) (between : IsBetween sure maybe images) where
  sure_more : IsBetween (sure ++ more) maybe (images ++ more)
  sure_more = record {
    all = λ image.
        by_part sure more image (λ there. Contains-append_left images more image (between.all image there)) (Contains-append_right images more image);
    no_others = λ image.
        by_part images more image
        (λ there. by_part sure maybe image
        (λ one. Contains-append_left (sure ++ more) maybe image (Contains-append_left sure more image one))
        (Contains-append_right (sure ++ more) maybe image) (between.no_others image there))
        (λ there. Contains-append_left (sure ++ more) maybe image (Contains-append_right sure more image there));
  }

  wider : AreIn images (sure ++ (maybe ++ more))
  wider image there =
      by_part sure maybe image (Contains-append_left sure (maybe ++ more) image)
      (λ one. Contains-append_right sure (maybe ++ more) image (Contains-append_left maybe more image one)) (between.no_others image there)

  maybe_none : IsBetween sure (maybe ++ more) images
  maybe_none = record { all = between.all; no_others = wider }

  maybe_all : IsBetween sure (maybe ++ more) (images ++ more)
  maybe_all = record {
    all = λ image there. Contains-append_left images more image (between.all image there);
    no_others = λ image.
        by_part images more image (wider image) (λ there. Contains-append_right sure (maybe ++ more) image (Contains-append_right maybe more image there));
  }

module _ (marks old : Positions) (images : List Image) where
  -- a tablet that has the cells of images in its range takes those of more
  one_takes : (taken : List Image) (r : Ends) (t : TabletStateValue) → IsTabletOf old r t → t.cells ≡ table_of (images_in r taken) → (tablet_after t (join_in marks images r)).cells ≡ table_of (images_in r (taken ++ images))
  one_takes taken r t is has =
      ap (λ (after : TabletStateValue). after.cells) (is_taken marks images old r t is)
      ∙ ap (λ (cells : Entries). adds cells (spell (table_of (images_in r images)))) has ∙ range_joins r taken images

  all_take : (taken : List Image) (rs : List Ends) (ts : List TabletStateValue) → AreTabletsOf old rs ts → cells_each ts ≡ pieces_of taken rs → cells_each (all_stepped ts (map (join_in marks images) rs)) ≡ pieces_of (taken ++ images) rs
  all_take taken [] [] are has = refl
  all_take taken [] (t ∷ ts) are has = absurd are
  all_take taken (r ∷ rs) [] are has = absurd are
  all_take taken (r ∷ rs) (t ∷ ts) are has =
      let here = heads t.cells (table_of (images_in r taken)) (cells_each ts) (pieces_of taken rs) has in
      let later = tails t.cells (table_of (images_in r taken)) (cells_each ts) (pieces_of taken rs) has in
      λ i. one_takes taken r t are.0 here i ∷ all_take taken rs ts are.1 later i

  all_surely : (sure maybe : List Image) (rs : List Ends) (ts : List TabletStateValue) → AreTabletsOf old rs ts → AllHoldBetween sure maybe rs ts → AllHoldBetween (sure ++ images) maybe rs (all_stepped ts (map (join_in marks images) rs))
  all_surely sure maybe [] [] are has = tt
  all_surely sure maybe [] (t ∷ ts) are has = absurd are
  all_surely sure maybe (r ∷ rs) [] are has = absurd are
  all_surely sure maybe (r ∷ rs) (t ∷ ts) are has =
      ((has.0.0 ++ images, sure_more sure maybe has.0.0 images has.0.1, one_takes has.0.0 r t are.0 has.0.2), all_surely sure maybe rs ts are.1 has.1)

  one_perhaps : (sure maybe : List Image) (r : Ends) (t u : TabletStateValue) → IsTabletOf old r t → HoldsBetween sure maybe r t.cells → (u ≡ t) ⊎ (u ≡ tablet_after t (join_in marks images r)) → HoldsBetween sure (maybe ++ images) r u.cells
  one_perhaps sure maybe r t u is has (inl same) = (has.0, maybe_none sure maybe has.0 images has.1, ap (λ (after : TabletStateValue). after.cells) same ∙ has.2)
  one_perhaps sure maybe r t u is has (inr took) =
      (has.0 ++ images, maybe_all sure maybe has.0 images has.1, ap (λ (after : TabletStateValue). after.cells) took ∙ one_takes has.0 r t is has.2)

  all_perhaps : (sure maybe : List Image) (rs : List Ends) (ts us : List TabletStateValue) → AreTabletsOf old rs ts → AllHoldBetween sure maybe rs ts → AreOldOrStepped ts (map (join_in marks images) rs) us → AllHoldBetween sure (maybe ++ images) rs us
  all_perhaps sure maybe [] [] [] are has half = tt
  all_perhaps sure maybe [] [] (u ∷ us) are has half = absurd half
  all_perhaps sure maybe [] (t ∷ ts) us are has half = absurd are
  all_perhaps sure maybe (r ∷ rs) [] us are has half = absurd are
  all_perhaps sure maybe (r ∷ rs) (t ∷ ts) [] are has half = absurd half
  all_perhaps sure maybe (r ∷ rs) (t ∷ ts) (u ∷ us) are has half = (one_perhaps sure maybe r t u are.0 has.0 half.0, all_perhaps sure maybe rs ts us are.1 has.1 half.1)

none_perhaps : (sure maybe more : List Image) (rs : List Ends) (ts : List TabletStateValue) → AllHoldBetween sure maybe rs ts → AllHoldBetween sure (maybe ++ more) rs ts
none_perhaps sure maybe more [] [] has = tt
none_perhaps sure maybe more [] (t ∷ ts) has = absurd has
none_perhaps sure maybe more (r ∷ rs) [] has = absurd has
none_perhaps sure maybe more (r ∷ rs) (t ∷ ts) has = ((has.0.0, maybe_none sure maybe has.0.0 more has.0.1, has.0.2), none_perhaps sure maybe more rs ts has.1)

-- a round takes its images
pub round_takes : (region : RegionValue) (deliveries : List DeliveryValue) (marks : Positions) (taken : List Image) → IsRegion region → HasImages region taken → HasImages (after_joins region deliveries marks) (taken ++ all_images deliveries)
round_takes region deliveries marks taken is has = all_take marks region.marks (all_images deliveries) taken (ranges region.layout) region.tablets is.tablets has

pub round_surely_takes : (region : RegionValue) (deliveries : List DeliveryValue) (marks : Positions) (sure maybe : List Image) → IsRegion region → HasBetween sure maybe region → HasBetween (sure ++ all_images deliveries) maybe (after_joins region deliveries marks)
round_surely_takes region deliveries marks sure maybe is has = all_surely marks region.marks (all_images deliveries) sure maybe (ranges region.layout) region.tablets is.tablets has

-- a round that ran out of memory may have taken them
pub round_may_take : (old new : RegionValue) (deliveries : List DeliveryValue) (sure maybe : List Image) → IsRegion old → HasBetween sure maybe old → IsHalfTaken old deliveries new → HasBetween sure (maybe ++ all_images deliveries) new
round_may_take old new deliveries sure maybe is has left =
    left_as old new deliveries (HasBetween sure (maybe ++ all_images deliveries)) left
    (half_so old new deliveries (AllHoldBetween sure (maybe ++ all_images deliveries) (ranges old.layout))
    (none_perhaps sure maybe (all_images deliveries) (ranges old.layout) old.tablets has)
    (λ marks half. all_perhaps marks old.marks (all_images deliveries) sure maybe (ranges old.layout) old.tablets new.tablets is.tablets has half) left)

-- All tablets together have the cells of all images.

pub together : (region : RegionValue) (images : List Image) → IsLayout region.layout → HasImages region images → all_cells region ≡ table_of images
together region images lawful has =
    sym (flat_map-map (λ (cells : Entries). cells) (λ (tablet : TabletStateValue). tablet.cells) region.tablets)
    ∙ ap (flat_map (λ (cells : Entries). cells)) has
    ∙ flat_map-map (λ (cells : Entries). cells) (λ (range : Ends). table_of (images_in range images)) (ranges region.layout)
    ∙ cells_cut region.layout images lawful

sure_or : (sure maybe : List Image) (image : Image) → AreIn maybe sure → Contains sure image ⊎ Contains maybe image → Contains sure image
sure_or sure maybe image are (inl there) = there
sure_or sure maybe image are (inr there) = are image there

-- images that have all of the sure ones, and none but those, are these
same_sure : (sure maybe images : List Image) → AreIn maybe sure → IsBetween sure maybe images → SameImages images sure
same_sure sure maybe images are between image =
    ((λ there. sure_or sure maybe image are (Contains-append_cases sure maybe image (between.no_others image there))), between.all image)

all_sure : (sure maybe : List Image) (rs : List Ends) (ts : List TabletStateValue) → AreIn maybe sure → AllHoldBetween sure maybe rs ts → cells_each ts ≡ pieces_of sure rs
all_sure sure maybe [] [] are has = refl
all_sure sure maybe [] (t ∷ ts) are has = absurd has
all_sure sure maybe (r ∷ rs) [] are has = absurd has
all_sure sure maybe (r ∷ rs) (t ∷ ts) are has =
    λ i. (has.0.2 ∙ same_in r has.0.0 sure (same_sure sure maybe has.0.0 are has.0.1)) i ∷ all_sure sure maybe rs ts are has.1 i

-- where all that may be there is sure to be, each tablet has the cells of the sure images
pub surely_has : (region : RegionValue) (sure maybe : List Image) → AreIn maybe sure → HasBetween sure maybe region → HasImages region sure
surely_has region sure maybe are has = all_sure sure maybe (ranges region.layout) region.tablets are has

pub surely_together : (region : RegionValue) (sure maybe : List Image) → IsLayout region.layout → HasBetween sure maybe region → AreIn maybe sure → all_cells region ≡ table_of sure
surely_together region sure maybe lawful has are = together region sure lawful (surely_has region sure maybe are has)

-- The cells of all tablets are those of the images that spell them.

-- images of a key outside a range are not in it
no_images : (range : Ends) (key : List ℕ) (version : Stamp) (contents : List ContentValue) → in_range range key ≡ false
    → images_in range (map (λ shown. record { key = key; version = version; content = shown }) contents) ≡ []
no_images range key version [] outside = refl
no_images range key version (shown ∷ contents) outside =
    let image : Image = record { key = key; version = version; content = shown } in
    let rest = map (λ (shown : ContentValue). record { key = key; version = version; content = shown }) contents in
    ap (λ (b : Bool). cond b (image ∷ images_in range rest) (images_in range rest)) outside ∙ no_images range key version contents outside

-- nor is what spells cells that lie in another range
spelled_outside : (range other : Ends) (es : Entries) → ((key : List ℕ) → in_range other key ≡ true → in_range range key ≡ false) → lie_in other es ≡ true → images_in range (spell es) ≡ []
spelled_outside range other [] apart inside = refl
spelled_outside range other (e ∷ es) apart inside =
    filter-append (λ (image : Image). in_range range image.key) (spell_cell e) (spell es)
    ∙ (λ i. no_images range e.0 e.1.0 (keys e.1.1) (apart e.0 (first_true (in_range other e.0) (lie_in other es) inside)) i
    ++ spelled_outside range other es apart (second_true (in_range other e.0) (lie_in other es) inside) i)

spell-append : (es others : Entries) → spell (es ++ others) ≡ spell es ++ spell others
spell-append es others = flat_map-append spell_cell es others

-- what spells the cells of all tablets has in each range what spells its own
none_of_others : (marks : Positions) (range : Ends) (rs : List Ends) (ts : List TabletStateValue) → Outside range rs → AreTabletsOf marks rs ts → images_in range (spell (cells_of ts)) ≡ []
none_of_others marks range [] [] outside are = refl
none_of_others marks range [] (t ∷ ts) outside are = absurd are
none_of_others marks range (r ∷ rs) [] outside are = absurd are
none_of_others marks range (r ∷ rs) (t ∷ ts) outside are =
    ap (images_in range) (spell-append t.cells (cells_of ts))
    ∙ filter-append (λ (image : Image). in_range range image.key) (spell t.cells) (spell (cells_of ts))
    ∙ (λ i. spelled_outside range r t.cells outside.0 are.0.inside i ++ none_of_others marks range rs ts outside.1 are.1 i)

-- images in a range that is apart from the others make no difference to them
after_first : (range : Ends) (rs : List Ends) (es : Entries) (images : List Image) → Outside range rs → lie_in range es ≡ true → pieces_of (spell es ++ images) rs ≡ pieces_of images rs
after_first range [] es images outside inside = refl
after_first range (r ∷ rs) es images outside inside =
    let here : images_in r (spell es ++ images) ≡ images_in r images =
    filter-append (λ (image : Image). in_range r image.key) (spell es) images
    ∙ ap (λ (own : List Image). own ++ images_in r images) (spelled_outside r range es (λ key lies. not_in range r key (outside.0 key) lies) inside) in
    λ i. table_of (here i) ∷ after_first range rs es images outside.1 inside i

own_pieces : (marks : Positions) (rs : List Ends) (ts : List TabletStateValue) → Apart rs → AreTabletsOf marks rs ts → cells_each ts ≡ pieces_of (spell (cells_of ts)) rs
own_pieces marks [] [] apart are = refl
own_pieces marks [] (t ∷ ts) apart are = absurd are
own_pieces marks (r ∷ rs) [] apart are = absurd are
own_pieces marks (r ∷ rs) (t ∷ ts) apart are =
    let all : spell (cells_of (t ∷ ts)) ≡ spell t.cells ++ spell (cells_of ts) = spell-append t.cells (cells_of ts) in
    let here : images_in r (spell (cells_of (t ∷ ts))) ≡ spell t.cells =
    ap (images_in r) all
    ∙ filter-append (λ (image : Image). in_range r image.key) (spell t.cells) (spell (cells_of ts))
    ∙ (λ i. spelled_inside r t.cells are.0.inside i ++ none_of_others marks r rs ts apart.0 are.1 i)
    ∙ append-nil (spell t.cells) in
    λ i. (are.0.spelled ∙ ap table_of (sym here)) i
    ∷ (own_pieces marks rs ts apart.1 are.1 ∙ sym (ap (λ (images : List Image). pieces_of images rs) all ∙ after_first r rs t.cells (spell (cells_of ts)) apart.0 are.0.inside)) i

own_images : (region : RegionValue) → IsRegion region → HasImages region (spell (all_cells region))
own_images region is = own_pieces region.marks (ranges region.layout) region.tablets (ranges_apart region.layout is.lawful) is.tablets

pub all_spelled : (region : RegionValue) → IsRegion region → IsSpelled (all_cells region)
all_spelled region is = together region (spell (all_cells region)) is.lawful (own_images region is)

pub all_rising : (region : RegionValue) → IsRegion region → IsTrue (is_sorted bytes_cmp (all_cells region))
all_rising region is = ap (is_sorted bytes_cmp) (all_spelled region is) ∙ rising-table_of (spell (all_cells region))
