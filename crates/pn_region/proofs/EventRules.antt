-- What holds of each tablet after honest events, where rules say how it goes on in each of them.
use Rattle.std.proofs.Common.{◌≡◌, ℕ, zero, suc, ◌<◌, Bool, true, false, if◌then◌else◌, List, [], ◌∷◌, ◌++◌, map, length, slice_get, Option, None, Some, Ok, Err, refl, sym, ap, ◌∙◌, subst, arith, ◌⊎◌, inl, inr, Contains}
use Rattle.std.specs.Option.{option_and_then}
use Rattle.std.proofs.lemmas.List.{append_assoc}
use Rattle.std.proofs.lemmas.List.Elements.{Contains-append_left}
use Rattle.pn_tablet.specs.Steps.{with_join}
use Rattle.pn_tablet.specs.Steps as steps
use Rattle.pn_tablet.proofs.JoinLaws.{one_range}
use Rattle.pn_region.specs.Events.{RegionEvent, round, half_round, loss, adoption, relayout, advance, LeadsTo, AllLeadTo, IsHonestEvent, AreHonestEvents, IsHonestCopy, taken_by, all_taken, left_by, all_left}
use Rattle.pn_region.specs.Recovery.{made_of}
use Rattle.pn_region.proofs.Common.{MatchResult, AllByRecursion, Positions, Image, table_of, BrokerRecord, up_to, AreHonest, DeliveryValue, TabletCopyValue, need_shortfall, Ends, in_range, recovering_tablet, after_step, tablet_after, TabletStateValue, same_range, WrongRange, Shortfall, Lose, Adopt, Serving, all_stepped, AreOldOrStepped, all_images, images_in, join_in, ranges, AreIn, new_marks, tablets_after_op, RegionValue, IsTabletOf, AreTabletsOf, IsRegion, joins, AllServe}
use Rattle.pn_region.proofs.Advanced.{advances}
use Rattle.pn_region.proofs.Pieces.{Outside, Apart, ranges_apart}
use Rattle.pn_region.proofs.EventSteps.{adopts, takes, event_is}
use Rattle.pn_region.proofs.KeptRecords.{from_images_in}
use Rattle.pn_region.proofs.OneTablet.{found_at, found_within}
use Rattle.pn_region.proofs.Relaying.{relays}
use Rattle.pn_region.proofs.RoundSteps.{is_taken}

pub none : {P : Type 0} (image : Image) → Contains [] image → P
none image there = absurd (omega (arith, there.1))

first_part : (images : List Image) (image : Image) → Contains images image → Contains (images ++ []) image
first_part images image there = Contains-append_left images [] image there

-- how what holds of a tablet, by the images taken and those that may have been left, goes on
pub record Rules (broker : BrokerRecord) (T : List Image → List Image → TabletStateValue → Type 0) : Type 0 where
  -- where nothing in its range is taken
  pub itself : (taken left more maybe : List Image) (t : TabletStateValue) → ((image : Image) → Contains more image → in_range t.range image.key ≡ true → ⊥) → T taken left t → T (taken ++ more) (left ++ maybe) t
  -- in an honest round
  pub takes : (marks next : Positions) (deliveries : List DeliveryValue) → AreHonest broker deliveries → new_marks marks deliveries ≡ Ok next
      → (taken left more maybe : List Image) (r : Ends) (t : TabletStateValue) → IsTabletOf marks r t → AreIn more (all_images deliveries) → AreIn (all_images deliveries) (more ++ maybe)
      → T taken left t → T (taken ++ more) (left ++ maybe) (with_join t (table_of (images_in r (all_images deliveries))) next)
  -- in a loss
  pub loses : (taken left : List Image) (t : TabletStateValue) → T taken left t → T (taken ++ []) (left ++ []) (recovering_tablet t)
  -- in the adoption of an honest copy
  pub adopts : (copy : TabletCopyValue) → IsHonestCopy broker copy → (taken left : List Image) (t : TabletStateValue) → t.range ≡ copy.range → need_shortfall t.status copy.marks ≡ None
      → T taken left t → T (taken ++ images_in copy.range (up_to broker copy.marks)) (left ++ []) (record (with_join t copy.cells copy.marks) { status = Serving })
  -- where it is made of others
  pub relays : (region : RegionValue) → IsRegion region → AllServe region → (taken left : List Image) → AllByRecursion (T taken left) region.tablets → (r : Ends) → T (taken ++ []) (left ++ []) (made_of region.tablets r)

both_ways : (b : Bool) → b ≡ true → b ≡ false → ⊥
both_ways true is is_not = cc
both_ways false is is_not = cc

module _ (broker : BrokerRecord) (T : List Image → List Image → TabletStateValue → Type 0) (rules : Rules broker T) (taken left : List Image) where
  module _ (marks next : Positions) (deliveries : List DeliveryValue) (honest : AreHonest broker deliveries) (accepted : new_marks marks deliveries ≡ Ok next) where
    abbrev images : List Image
    images = all_images deliveries

    took_it : (more maybe : List Image) (r : Ends) (t : TabletStateValue) → IsTabletOf marks r t → AreIn more images → AreIn images (more ++ maybe) → T taken left t → T (taken ++ more) (left ++ maybe) (tablet_after t (join_in next images r))
    took_it more maybe r t is of to holds = subst (T (taken ++ more) (left ++ maybe)) (sym (is_taken next images marks r t is)) (rules.takes marks next deliveries honest accepted taken left more maybe r t is of to holds)

    all_round : (rs : List Ends) (ts : List TabletStateValue) → AreTabletsOf marks rs ts → AllByRecursion (T taken left) ts → AllByRecursion (T (taken ++ images) (left ++ [])) (all_stepped ts (map (join_in next images) rs))
    all_round [] [] are all = tt
    all_round [] (t ∷ ts) are all = absurd are
    all_round (r ∷ rs) [] are all = absurd are
    all_round (r ∷ rs) (t ∷ ts) are all = (took_it images [] r t are.0 (λ image there. there) (first_part images) all.0, all_round rs ts are.1 all.1)

    one_half : (r : Ends) (t u : TabletStateValue) → IsTabletOf marks r t → T taken left t → (u ≡ t) ⊎ (u ≡ tablet_after t (join_in next images r)) → T (taken ++ []) (left ++ images) u
    one_half r t u is holds (inl same) = subst (T (taken ++ []) (left ++ images)) (sym same) (rules.itself taken left [] images t (λ image there lies. none image there) holds)
    one_half r t u is holds (inr took) = subst (T (taken ++ []) (left ++ images)) (sym took) (took_it [] images r t is (λ image there. none image there) (λ image there. there) holds)

    all_half : (rs : List Ends) (ts us : List TabletStateValue) → AreTabletsOf marks rs ts → AllByRecursion (T taken left) ts → AreOldOrStepped ts (map (join_in next images) rs) us → AllByRecursion (T (taken ++ []) (left ++ images)) us
    all_half [] [] [] are all half = tt
    all_half [] [] (u ∷ us) are all half = absurd half
    all_half [] (t ∷ ts) us are all half = absurd are
    all_half (r ∷ rs) [] us are all half = absurd are
    all_half (r ∷ rs) (t ∷ ts) [] are all half = absurd half
    all_half (r ∷ rs) (t ∷ ts) (u ∷ us) are all half = (one_half r t u are.0 all.0 half.0, all_half rs ts us are.1 all.1 half.1)

  all_same : (maybe : List Image) (ts : List TabletStateValue) → AllByRecursion (T taken left) ts → AllByRecursion (T (taken ++ []) (left ++ maybe)) ts
  all_same maybe [] all = tt
  all_same maybe (t ∷ ts) all = (rules.itself taken left [] maybe t (λ image there lies. none image there) all.0, all_same maybe ts all.1)

  lost_at : (n : ℕ) (ts : List TabletStateValue) → AllByRecursion (T taken left) ts → AllByRecursion (T (taken ++ []) (left ++ [])) (tablets_after_op n Lose ts)
  lost_at n [] all = tt
  lost_at zero (t ∷ ts) all = (rules.loses taken left t all.0, all_same [] ts all.1)
  lost_at (suc n) (t ∷ ts) all = (rules.itself taken left [] [] t (λ image there lies. none image there) all.0, lost_at n ts all.1)

  all_made : (region : RegionValue) → IsRegion region → AllServe region → AllByRecursion (T taken left) region.tablets → (rs : List Ends) → AllByRecursion (T (taken ++ []) (left ++ [])) (map (made_of region.tablets) rs)
  all_made region is serve all [] = tt
  all_made region is serve all (r ∷ rs) = (rules.relays region is serve taken left all r, all_made region is serve all rs)

  module _ (copy : TabletCopyValue) (honest : IsHonestCopy broker copy) (marks : Positions) where
    abbrev more : List Image
    more = images_in copy.range (up_to broker copy.marks)

    -- the tablet of this number has the copy's range, and lacks nothing of it
    abbrev Fits : TabletStateValue → Type 0
    Fits t = (same_range t.range copy.range ≡ true) × (need_shortfall t.status copy.marks ≡ None)

    stepped_is : (t : TabletStateValue) → Fits t → tablet_after t (Adopt copy) ≡ record (with_join t copy.cells copy.marks) { status = Serving }
    stepped_is t fits =
        ap (λ (b : Bool). after_step t (if b then steps.with_copy t copy (need_shortfall t.status copy.marks) else Err WrongRange)) fits.0
        ∙ ap (λ (short : Option Shortfall). after_step t (steps.with_copy t copy short)) fits.1

    adopted_one : (t : TabletStateValue) → Fits t → T taken left t → T (taken ++ more) (left ++ []) (tablet_after t (Adopt copy))
    adopted_one t fits holds =
        subst (T (taken ++ more) (left ++ [])) (sym (stepped_is t fits)) (rules.adopts copy honest taken left t (one_range t.range copy.range fits.0) fits.1 holds)

    -- a tablet of another range
    other_one : (t : TabletStateValue) → ((key : List ℕ) → in_range t.range key ≡ true → in_range copy.range key ≡ true → ⊥) → T taken left t → T (taken ++ more) (left ++ []) t
    other_one t apart holds = rules.itself taken left more [] t (λ image there lies. apart image.key lies (from_images_in copy.range (up_to broker copy.marks) image there).lies) holds

    others : (range : Ends) (rs : List Ends) (ts : List TabletStateValue) → copy.range ≡ range → AreTabletsOf marks rs ts → Outside range rs → AllByRecursion (T taken left) ts → AllByRecursion (T (taken ++ more) (left ++ [])) ts
    others range [] [] ranged are outside all = tt
    others range [] (t ∷ ts) ranged are outside all = absurd are
    others range (r ∷ rs) [] ranged are outside all = absurd are
    others range (r ∷ rs) (t ∷ ts) ranged are outside all = (
      other_one t
          (λ key lies lies_too.
          both_ways (in_range range key) (ap (λ (ends : Ends). in_range ends key) (sym ranged) ∙ lies_too)
          (outside.0 key (ap (λ (ends : Ends). in_range ends key) (sym are.0.range) ∙ lies))) all.0,
      others range rs ts ranged are.1 outside.1 all.1,
    )

    outside_found : (range : Ends) (n : ℕ) (rs : List Ends) (ts : List TabletStateValue) → AreTabletsOf marks rs ts → Outside range rs → ((t : TabletStateValue) → slice_get ts n ≡ Some t → Fits t) → n < length ts
        → (key : List ℕ) → in_range range key ≡ true → in_range copy.range key ≡ true → ⊥
    outside_found range n [] [] are outside fits within key lies lies_too = omega (arith, within)
    outside_found range n [] (t ∷ ts) are outside fits within key lies lies_too = absurd are
    outside_found range n (r ∷ rs) [] are outside fits within key lies lies_too = absurd are
    outside_found range zero (r ∷ rs) (t ∷ ts) are outside fits within key lies lies_too =
        let ranged = one_range t.range copy.range (fits t refl).0 in
        both_ways (in_range range key) lies (outside.0 key (ap (λ (ends : Ends). in_range ends key) (sym are.0.range ∙ ranged) ∙ lies_too))
    outside_found range (suc n) (r ∷ rs) (t ∷ ts) are outside fits within key lies lies_too = outside_found range n rs ts are.1 outside.1 fits (omega (arith, within)) key lies lies_too

    adopted_at : (n : ℕ) (rs : List Ends) (ts : List TabletStateValue) → AreTabletsOf marks rs ts → Apart rs → ((t : TabletStateValue) → slice_get ts n ≡ Some t → Fits t) → n < length ts
        → AllByRecursion (T taken left) ts → AllByRecursion (T (taken ++ more) (left ++ [])) (tablets_after_op n (Adopt copy) ts)
    adopted_at n [] [] are apart fits within all = tt
    adopted_at n [] (t ∷ ts) are apart fits within all = absurd are
    adopted_at n (r ∷ rs) [] are apart fits within all = absurd are
    adopted_at zero (r ∷ rs) (t ∷ ts) are apart fits within all =
        let ranged = one_range t.range copy.range (fits t refl).0 in
        (adopted_one t (fits t refl) all.0, others r rs ts (sym ranged ∙ are.0.range) are.1 apart.0 all.1)
    adopted_at (suc n) (r ∷ rs) (t ∷ ts) are apart fits within all = (
      other_one t
          (λ key lies lies_too.
          outside_found r n rs ts are.1 apart.0 fits (omega (arith, within)) key (ap (λ (ends : Ends). in_range ends key) (sym are.0.range) ∙ lies) lies_too) all.0,
      adopted_at n rs ts are.1 apart.1 fits (omega (arith, within)) all.1,
    )

  event_goes_on : (event : RegionEvent) (old new : RegionValue) → IsRegion old → IsHonestEvent broker event → LeadsTo event old new → AllByRecursion (T taken left) old.tablets
      → AllByRecursion (T (taken ++ taken_by broker event) (left ++ left_by event)) new.tablets
  event_goes_on (round deliveries) old new is honest leads all =
      let took = takes old deliveries new leads in
      subst (λ (r : RegionValue). AllByRecursion (T (taken ++ all_images deliveries) (left ++ [])) r.tablets) (sym took.is)
      (all_round old.marks took.marks deliveries honest took.accepted (ranges old.layout) old.tablets is.tablets all)
  event_goes_on (half_round deliveries) old new is honest leads all =
      elim (new_marks old.marks deliveries) as (λ right. new_marks old.marks deliveries ≡ right
      → MatchResult right (λ marks. AreOldOrStepped old.tablets (joins old deliveries marks) new.tablets) (λ fault. new.tablets ≡ old.tablets)
      → AllByRecursion (T (taken ++ []) (left ++ all_images deliveries)) new.tablets) [
        | Ok marks ↦ λ accepted half. all_half old.marks marks deliveries honest accepted (ranges old.layout) old.tablets new.tablets is.tablets all half
        | Err fault ↦ λ refused same. subst (AllByRecursion (T (taken ++ []) (left ++ all_images deliveries))) (sym same) (all_same (all_images deliveries) old.tablets all)
      ] refl leads.2
  event_goes_on (loss n) old new is honest leads all = subst (λ (r : RegionValue). AllByRecursion (T (taken ++ []) (left ++ [])) r.tablets) (sym leads) (lost_at n old.tablets all)
  event_goes_on (adoption copy) old new is honest leads all =
      let known = adopts old copy leads.tablet new leads.adopted in
      subst (λ (r : RegionValue). AllByRecursion (T (taken ++ images_in copy.range (up_to broker copy.marks)) (left ++ [])) r.tablets) (sym known.is)
      (adopted_at copy honest old.marks leads.tablet (ranges old.layout) old.tablets is.tablets (ranges_apart old.layout is.lawful)
      (λ t there. (found_at old copy leads.tablet t known.found there, sym (ap (option_and_then (λ (state : TabletStateValue). need_shortfall state.status copy.marks)) there) ∙ known.lacks_none))
      (found_within old copy leads.tablet known.found) all)
  event_goes_on (relayout bounds) old new is honest leads all =
      let laid = relays old new bounds leads.relaid in
      subst (λ (r : RegionValue). AllByRecursion (T (taken ++ []) (left ++ [])) r.tablets) (sym laid.is) (all_made old is laid.served all (ranges bounds))
  event_goes_on advance old new is honest leads all = subst (λ (r : RegionValue). AllByRecursion (T (taken ++ []) (left ++ [])) r.tablets) (sym (advances old new leads)) (all_same [] old.tablets all)

-- so it goes on in honest events
pub events_go_on : (broker : BrokerRecord) (T : List Image → List Image → TabletStateValue → Type 0) → Rules broker T → (events : List RegionEvent) (old new : RegionValue) (taken left : List Image)
    → IsRegion old → AreHonestEvents broker events → AllLeadTo events old new → AllByRecursion (T taken left) old.tablets
    → AllByRecursion (T (taken ++ all_taken broker events) (left ++ all_left events)) new.tablets
events_go_on broker T rules [] old new taken left is honest lead all =
    subst (λ (r : RegionValue). AllByRecursion (T (taken ++ []) (left ++ [])) r.tablets) (sym lead) (all_same broker T rules taken left [] old.tablets all)
events_go_on broker T rules (event ∷ events) old new taken left is honest lead all =
    subst (λ (images : List Image). AllByRecursion (T images (left ++ all_left (event ∷ events))) new.tablets) (append_assoc taken (taken_by broker event) (all_taken broker events))
    (subst (λ (images : List Image). AllByRecursion (T ((taken ++ taken_by broker event) ++ all_taken broker events) images) new.tablets) (append_assoc left (left_by event) (all_left events))
    (events_go_on broker T rules events lead.0 new (taken ++ taken_by broker event) (left ++ left_by event) (event_is event old lead.0 is lead.1) honest.1 lead.2
    (event_goes_on broker T rules taken left event old lead.0 is honest.0 lead.1 all)))
