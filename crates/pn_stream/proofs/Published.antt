-- Which images come up to marks, and at which positions those of honest deliveries are.
use Rattle.std.proofs.Common.{◌≡◌, ℕ, zero, suc, ◌+◌, ◌-◌, ◌<◌, ◌≤◌, pred, true, false, cond, List, [], ◌∷◌, ◌++◌, length, get_or, Option, Some, None, is_some, unwrap_or, refl, sym, ap, ◌∙◌, subst, arith, ◌⊎◌, inl, inr, Contains}
use Rattle.std.specs.Prelude.{take, drop}
use Rattle.std.specs.Ordering.{eq_by_cmp}
use Rattle.std.specs.List.{flat_map}
use Rattle.std.specs.FinMap.{find}
use Rattle.std.proofs.lemmas.List.{length-take, length-drop, get_or-take, get_or-drop}
use Rattle.std.proofs.lemmas.List.Elements.{Contains-append_left, Contains-append_right, Contains-append_cases}
use Rattle.pn_join.specs.Marks.{Positions, name_cmp, position_of}
use Rattle.pn_record.specs.declared.records.Image.{Image}
use Rattle.pn_record.proofs.CellMaps.{tied_keys}
use Rattle.pn_stream.specs.Brokers.{DeliveryValue, BrokerRecord, up_to, IsHonest}

-- the image is in the list before the index n
pub record Stands (images : List Image) (n : ℕ) (image : Image) : Type 0 where
  pub at : ℕ
  pub below : at < n
  pub within : at < length images
  pub is : get_or images at image ≡ image

stands : (n : ℕ) (images : List Image) (image : Image) → Contains (take n images) image → Stands images n image
stands n images image there =
    let taken = length-take n images in
    record {
      at = there.0;
      below = omega (arith, there.1, taken);
      within = omega (arith, there.1, taken);
      is = sym (get_or-take n images there.0 image (omega (arith, there.1, taken))) ∙ there.2;
    }

is_taken : (n : ℕ) (images : List Image) (image : Image) → Stands images n image → Contains (take n images) image
is_taken n images image stands =
    (stands.at, omega (arith, stands.below, stands.within, length-take n images), get_or-take n images stands.at image stands.below ∙ stands.is)

pub wider : (n more : ℕ) (images : List Image) (image : Image) → n ≤ more → Stands images n image → Stands images more image
wider n more images image up stands = record {
  at = stands.at;
  below = omega (arith, stands.below, up);
  within = stands.within;
  is = stands.is;
}

-- what a part has the whole has
pub in_part : {A : Type 0} (f : A → List Image) (parts : List A) (k : ℕ) (part : A) (image : Image) → k < length parts → get_or parts k part ≡ part → Contains (f part) image → Contains (flat_map f parts) image
in_part f [] k part image within is there = absurd (omega (arith, within))
in_part f (first ∷ parts) zero part image within is there =
    Contains-append_left (f first) (flat_map f parts) image (subst (λ one. Contains (f one) image) (sym is) there)
in_part f (first ∷ parts) (suc k) part image within is there =
    Contains-append_right (f first) (flat_map f parts) image (in_part f parts k part image (omega (arith, within)) is there)

-- the part that has the image
pub record Part {A : Type 0} (f : A → List Image) (parts : List A) (image : Image) : Type 0 where
  pub part : A
  pub listed : Contains parts part
  pub there : Contains (f part) image

later_part : {A : Type 0} (f : A → List Image) (first : A) (parts : List A) (image : Image) → Part f parts image → Part f (first ∷ parts) image
later_part f first parts image found = record {
  part = found.part;
  listed = (suc found.listed.0, omega (arith, found.listed.1), found.listed.2);
  there = found.there;
}

either_part : {A : Type 0} (f : A → List Image) (first : A) (parts : List A) (image : Image) → Contains (f first) image ⊎ Part f parts image → Part f (first ∷ parts) image
either_part f first parts image (inl there) = record { part = first; listed = (0, omega arith, refl); there = there }
either_part f first parts image (inr found) = later_part f first parts image found

second_so : {A B C : Type 0} → (B → C) → A ⊎ B → A ⊎ C
second_so f (inl a) = inl a
second_so f (inr b) = inr (f b)

-- what the whole has a part has
pub part_of : {A : Type 0} (f : A → List Image) (parts : List A) (image : Image) → Contains (flat_map f parts) image → Part f parts image
part_of f [] image there = absurd (omega (arith, there.1))
part_of f (first ∷ parts) image there =
    either_part f first parts image (second_so (part_of f parts image) (Contains-append_cases (f first) (flat_map f parts) image there))

found : (o : Option ℕ) (n : ℕ) → n < unwrap_or o 0 → is_some o ≡ true
found None n below = absurd (omega (arith, below))
found (Some p) n below = refl

named : (f : List ℕ → List Image) (name : List ℕ) (marks : Positions) (image : Image) → is_some (find name_cmp name marks) ≡ true → Contains (f name) image → Contains (flat_map (λ mark. f mark.0) marks) image
named f name [] image some there = cc
named f name (e ∷ es) image some there =
    elim (eq_by_cmp name_cmp name e.0) as (λ b. eq_by_cmp name_cmp name e.0 ≡ b → is_some (cond b (Some e.1) (find name_cmp name es)) ≡ true → Contains (f e.0 ++ flat_map (λ mark. f mark.0) es) image) [
      | true ↦ λ tied so. Contains-append_left (f e.0) (flat_map (λ mark. f mark.0) es) image (subst (λ one. Contains (f one) image) (tied_keys name e.0 tied) there)
      | false ↦ λ apart so. Contains-append_right (f e.0) (flat_map (λ mark. f mark.0) es) image (named f name es image so there)
    ] refl some

-- the image has a position in a stream that the marks have reached
pub record Published (broker : BrokerRecord) (marks : Positions) (image : Image) : Type 0 where
  pub stream : List ℕ
  pub stands : Stands (broker stream) (position_of marks stream) image

pub is_up_to : (broker : BrokerRecord) (marks : Positions) (stream : List ℕ) (image : Image) → Stands (broker stream) (position_of marks stream) image → Contains (up_to broker marks) image
is_up_to broker marks stream image stands =
    named (λ name. take (position_of marks name) (broker name)) stream marks image (found (find name_cmp stream marks) stands.at stands.below)
    (is_taken (position_of marks stream) (broker stream) image stands)

pub published : (broker : BrokerRecord) (marks : Positions) (image : Image) → Contains (up_to broker marks) image → Published broker marks image
published broker marks image there =
    let found = part_of (λ (mark : List ℕ × ℕ). take (position_of marks mark.0) (broker mark.0)) marks image there in
    record { stream = found.part.0; stands = stands (position_of marks found.part.0) (broker found.part.0) image found.there }

pred_is : (n : ℕ) → 1 ≤ n → n ≡ suc (pred n)
pred_is zero some = absurd (omega (arith, some))
pred_is (suc n) some = refl

module _ (broker : BrokerRecord) (delivery : DeliveryValue) (image : Image) (honest : IsHonest broker delivery) where
  abbrev before : ℕ
  before = pred delivery.first

  abbrev stream : List Image
  stream = broker delivery.stream

  -- an image of an honest delivery has one of its positions
  pub brings : Contains delivery.images image → Stands stream (pred (delivery.first + length delivery.images)) image
  brings there =
      let here = stands (length delivery.images) (drop before stream) image (subst (λ images. Contains images image) honest.1 there) in
      let first = pred_is delivery.first honest.0 in
      let last = pred_is (delivery.first + length delivery.images) (omega (arith, honest.0)) in
      record {
        at = before + here.at;
        below = omega (arith, here.below, first, last);
        within = omega (arith, here.within, length-drop before stream);
        is = sym (get_or-drop before stream here.at image) ∙ here.is;
      }

  -- and the image at one of its positions is in the delivery
  pub is_brought : (at : ℕ) → delivery.first ≤ at + 1 → at + 1 < delivery.first + length delivery.images → at < length stream → get_or stream at image ≡ image → Contains delivery.images image
  is_brought at from to within is =
      let first = pred_is delivery.first honest.0 in
      let index : before + (at - before) ≡ at = omega (arith, first, from) in
      subst (λ images. Contains images image) (sym honest.1)
      (is_taken (length delivery.images) (drop before stream) image (record {
        at = at - before;
        below = omega (arith, first, from, to);
        within = omega (arith, first, from, within, length-drop before stream);
        is = get_or-drop before stream (at - before) image ∙ ap (λ p. get_or stream p image) index ∙ is;
      }))
