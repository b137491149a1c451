-- Rounds of honest deliveries keep tablets faithful.
use Rattle.std.proofs.Common.{◌≡◌, ℕ, ◌+◌, ◌<◌, ◌≤◌, true, false, nat_lt, List, [], ◌∷◌, ◌++◌, map, length, get_or, refl, sym, ap, ◌∙◌, subst, arith, ◌⊎◌, inl, inr, Contains}
use Rattle.std.proofs.lemmas.Bool.Decides.{nat_tests}
use Rattle.std.proofs.lemmas.List.Elements.{Contains-append_left, Contains-append_right}
use Rattle.pn_join.proofs.MarksFacts.{position_of-raised_marks}
use Rattle.pn_record.specs.Cells.{adds}
use Rattle.pn_record.proofs.CellMaps.{table_of-nil}
use Rattle.pn_stream.proofs.Published.{Stands, wider, in_part, part_of, is_up_to, published, brings, is_brought}
use Rattle.pn_tablet.specs.Steps.{with_join}
use Rattle.pn_apply.proofs.ReduceLaws.{range_joins, same_in}
use Rattle.pn_tablet.specs.Tablets.{needed}
use Rattle.pn_region.specs.Rounds as rounds
use Rattle.pn_region.proofs.Common.{Ok, Err, MatchResult, Positions, Reaches, position_of, raised_marks, Image, spell, SameImages, Entries, table_of, DeliveryValue, BrokerRecord, up_to, AreHonest, Bounds, Ends, in_range, tablet_after, TabletStateValue, empty_tablet, AreOldOrStepped, all_images, images_in, join_in, ranges, IsFaithful, AreFaithful, HasImages, new_marks, last_position, RegionValue, IsTabletOf, AreTabletsOf, IsRegion, new_region, joins, IsHalfTaken}
use Rattle.pn_region.proofs.MarkLaws.{not_skipped, next_has_last, next_reaches, up_to_more}
use Rattle.pn_region.proofs.RoundEnds.{taken_half}
use Rattle.pn_region.proofs.RoundSteps.{is_taken}
use Rattle.pn_region.proofs.TakenImages.{by_part, pieces_of, round_takes}

one_empty : (broker : BrokerRecord) (r : Ends) → IsFaithful broker (empty_tablet r)
one_empty broker r = record {
  images = [];
  cells = sym table_of-nil;
  published = λ image there. absurd (omega (arith, there.1));
  all = λ image there lies. absurd (omega (arith, there.1));
}

all_empty : (broker : BrokerRecord) (rs : List Ends) → AreFaithful broker (map empty_tablet rs)
all_empty broker [] = tt
all_empty broker (r ∷ rs) = (one_empty broker r, all_empty broker rs)

-- a new region's tablets are faithful, whatever was published
pub new_faithful : (broker : BrokerRecord) (bounds : Bounds) → AreFaithful broker (new_region bounds).tablets
new_faithful broker bounds = all_empty broker (ranges bounds)

pub left_so : {A B C : Type 0} → (A → C) → A ⊎ B → C ⊎ B
left_so f (inl a) = inl (f a)
left_so f (inr b) = inr b

module _ (broker : BrokerRecord) (marks next : Positions) (deliveries : List DeliveryValue) (honest : AreHonest broker deliveries) (accepted : new_marks marks deliveries ≡ Ok next) where
  abbrev images : List Image
  images = all_images deliveries

  -- what was brought is among the images up to marks that reach the new ones
  pub brought : (reached : Positions) → Reaches reached next → (image : Image) → Contains images image → Contains (up_to broker reached) image
  brought reached reaches image there =
      let found = part_of (λ (delivery : DeliveryValue). delivery.images) deliveries image there in
      let stands = brings broker found.part image (honest found.part found.listed) found.there in
      let last : last_position found.part ≤ position_of next found.part.stream = next_has_last marks next deliveries found.part accepted found.listed (omega (arith, found.there.1)) in
      is_up_to broker reached found.part.stream image
      (wider (last_position found.part) (position_of reached found.part.stream) (broker found.part.stream) image (omega (arith, last, reaches found.part.stream)) stands)

  -- what is past the old marks, up to the new ones, was brought
  pub was_brought : (stream : List ℕ) (image : Image) (at : ℕ) → position_of marks stream < at + 1 → at + 1 ≤ position_of next stream → at < length (broker stream) → get_or (broker stream) at image ≡ image → Contains images image
  was_brought stream image at past up within is =
      let has = not_skipped marks next deliveries stream (at + 1) accepted past up in
      in_part (λ (delivery : DeliveryValue). delivery.images) deliveries has.there.0 has.delivery image has.there.1 has.there.2
      (is_brought broker has.delivery image (honest has.delivery has.there) at has.from has.before
      (subst (λ name. at < length (broker name)) (sym has.stream) within)
      (subst (λ name. get_or (broker name) at image ≡ image) (sym has.stream) is))

  same_to_next : SameImages (up_to broker marks ++ images) (up_to broker next)
  same_to_next image = (
    by_part (up_to broker marks) images image
        (λ there.
        let old = published broker marks image there in
        is_up_to broker next old.stream image
        (wider (position_of marks old.stream) (position_of next old.stream) (broker old.stream) image (next_reaches marks next deliveries accepted old.stream) old.stands))
        (brought next (λ name. omega arith) image),
    λ there.
        let new = published broker next image there in
        old_or_new image new.stream new.stands,
  )
    where
      old_or_new : (image : Image) (stream : List ℕ) → Stands (broker stream) (position_of next stream) image → Contains (up_to broker marks ++ images) image
      old_or_new image stream stands =
          elim (nat_lt stands.at (position_of marks stream)) as (λ b. nat_lt stands.at (position_of marks stream) ≡ b → Contains (up_to broker marks ++ images) image) [
            | true ↦ λ before.
                Contains-append_left (up_to broker marks) images image
                (is_up_to broker marks stream image (record { at = stands.at; below = grind (arith, nat_tests); within = stands.within; is = stands.is }))
            | false ↦ λ past.
                let reached : position_of marks stream ≤ stands.at = grind (arith, nat_tests) in
                Contains-append_right (up_to broker marks) images image
                (was_brought stream image stands.at (omega (arith, reached)) (omega (arith, stands.below)) stands.within stands.is)
          ] refl

  module _ (r : Ends) (t : TabletStateValue) (of : IsTabletOf marks r t) (faithful : IsFaithful broker t) where
    -- the images up to the raised cover: those up to the old one, and those that were brought
    up_to_raised : (image : Image) (stream : List ℕ) → Stands (broker stream) (position_of (raised_marks t.cover next) stream) image → in_range t.range image.key ≡ true
        → Contains (faithful.images ++ images) image ⊎ Contains (up_to broker (needed t.status)) image
    up_to_raised image stream stands lies =
        elim (nat_lt stands.at (position_of t.cover stream)) as (λ b. nat_lt stands.at (position_of t.cover stream) ≡ b → Contains (faithful.images ++ images) image ⊎ Contains (up_to broker (needed t.status)) image) [
          | true ↦ λ before.
              left_so (Contains-append_left faithful.images images image)
              (faithful.all image (is_up_to broker t.cover stream image (record { at = stands.at; below = grind (arith, nat_tests); within = stands.within; is = stands.is })) lies)
          | false ↦ λ past.
              let reached : position_of t.cover stream ≤ stands.at = grind (arith, nat_tests) in
              inl (Contains-append_right faithful.images images image
              (was_brought stream image stands.at (omega (arith, reached, of.covered stream))
              (omega (arith, reached, stands.below, position_of-raised_marks t.cover next stream)) stands.within stands.is))
        ] refl

    one_keeps : IsFaithful broker (with_join t (table_of (images_in r images)) next)
    one_keeps = record {
      images = faithful.images ++ images;
      cells =
          ap (λ (cells : Entries). adds cells (spell (table_of (images_in r images)))) (faithful.cells ∙ ap (λ (range : Ends). table_of (images_in range faithful.images)) of.range)
          ∙ range_joins r faithful.images images
          ∙ ap (λ (range : Ends). table_of (images_in range (faithful.images ++ images))) (sym of.range);
      published = λ image.
          by_part faithful.images images image
          (λ there. up_to_more broker (raised_marks t.reach next) t.reach (λ name. omega (arith, position_of-raised_marks t.reach next name)) image (faithful.published image there))
          (brought (raised_marks t.reach next) (λ name. omega (arith, position_of-raised_marks t.reach next name)) image);
      all = λ image there lies.
          let new = published broker (raised_marks t.cover next) image there in
          up_to_raised image new.stream new.stands lies;
    }

    stepped_keeps : IsFaithful broker (tablet_after t (join_in next images r))
    stepped_keeps = subst (IsFaithful broker) (sym (is_taken next images marks r t of)) one_keeps

    one_half : (u : TabletStateValue) → (u ≡ t) ⊎ (u ≡ tablet_after t (join_in next images r)) → IsFaithful broker u
    one_half u (inl same) = subst (IsFaithful broker) (sym same) faithful
    one_half u (inr took) = subst (IsFaithful broker) (sym took) stepped_keeps

  all_half : (rs : List Ends) (ts us : List TabletStateValue) → AreTabletsOf marks rs ts → AreFaithful broker ts → AreOldOrStepped ts (map (join_in next images) rs) us → AreFaithful broker us
  all_half [] [] [] are faithful half = tt
  all_half [] [] (u ∷ us) are faithful half = absurd half
  all_half [] (t ∷ ts) us are faithful half = absurd are
  all_half (r ∷ rs) [] us are faithful half = absurd are
  all_half (r ∷ rs) (t ∷ ts) [] are faithful half = absurd half
  all_half (r ∷ rs) (t ∷ ts) (u ∷ us) are faithful half = (one_half r t are.0 faithful.0 u half.0, all_half rs ts us are.1 faithful.1 half.1)

-- a round of honest deliveries keeps tablets faithful
pub round_keeps : (broker : BrokerRecord) (region : RegionValue) (deliveries : List DeliveryValue) (marks : Positions) → IsRegion region → AreFaithful broker region.tablets → AreHonest broker deliveries
    → new_marks region.marks deliveries ≡ Ok marks → AreFaithful broker (rounds.after_joins region deliveries marks).tablets
round_keeps broker region deliveries marks is faithful honest accepted =
    all_half broker region.marks marks deliveries honest accepted (ranges region.layout) region.tablets (rounds.after_joins region deliveries marks).tablets is.tablets faithful (taken_half region deliveries is marks)

-- and so does one that ran out of memory
pub half_keeps : (broker : BrokerRecord) (old new : RegionValue) (deliveries : List DeliveryValue) → IsRegion old → AreFaithful broker old.tablets → AreHonest broker deliveries
    → IsHalfTaken old deliveries new → AreFaithful broker new.tablets
half_keeps broker old new deliveries is faithful honest left =
    elim (new_marks old.marks deliveries) as (λ right. new_marks old.marks deliveries ≡ right → MatchResult right (λ marks. AreOldOrStepped old.tablets (joins old deliveries marks) new.tablets) (λ fault. new.tablets ≡ old.tablets) → AreFaithful broker new.tablets) [
      | Ok marks ↦ λ accepted half. all_half broker old.marks marks deliveries honest accepted (ranges old.layout) old.tablets new.tablets is.tablets faithful half
      | Err fault ↦ λ refused same. subst (AreFaithful broker) (sym same) faithful
    ] refl left.2

same_pieces : (some others : List Image) (rs : List Ends) → SameImages some others → pieces_of some rs ≡ pieces_of others rs
same_pieces some others [] same = refl
same_pieces some others (r ∷ rs) same = λ i. same_in r some others same i ∷ same_pieces some others rs same i

-- where a region has just the images up to its marks, it has just those up to its new ones
pub round_up_to : (broker : BrokerRecord) (region : RegionValue) (deliveries : List DeliveryValue) (marks : Positions) → IsRegion region → HasImages region (up_to broker region.marks) → AreHonest broker deliveries
    → new_marks region.marks deliveries ≡ Ok marks → HasImages (rounds.after_joins region deliveries marks) (up_to broker marks)
round_up_to broker region deliveries marks is has honest accepted =
    round_takes region deliveries marks (up_to broker region.marks) is has
    ∙ same_pieces (up_to broker region.marks ++ all_images deliveries) (up_to broker marks) (ranges region.layout) (same_to_next broker region.marks marks deliveries honest accepted)
