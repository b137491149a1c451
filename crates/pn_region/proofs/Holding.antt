-- The images to which the reach and the cover of a tablet come, and tablets that hold what was taken.
use Rattle.std.proofs.Common.{◌≡◌, ℕ, ◌<◌, ◌≤◌, true, false, nat_lt, List, [], ◌++◌, length, get_or, refl, sym, ap, ◌∙◌, arith, ◌⊎◌, inl, inr, Contains, ◌∷◌, None, subst}
use Rattle.std.proofs.lemmas.Bool.Decides.{nat_tests}
use Rattle.std.proofs.lemmas.List.Elements.{Contains-append_left, Contains-append_right}
use Rattle.pn_join.proofs.MarksFacts.{position_of-raised_marks}
use Rattle.pn_record.specs.Cells.{adds}
use Rattle.pn_record.proofs.CellMaps.{table_of-nil}
use Rattle.pn_tablet.specs.Steps.{with_join}
use Rattle.pn_tablet.specs.Tablets.{needed}
use Rattle.pn_tablet.specs.declared.state.Status.{Status}
use Rattle.pn_stream.proofs.Published.{Stands, is_up_to, published}
use Rattle.pn_apply.proofs.ReduceLaws.{range_joins}
use Rattle.pn_region.specs.Recovery.{made_of}
use Rattle.pn_region.specs.Events.{CoverTells, CoversTell, HoldsTaken, IsHonestCopy}
use Rattle.pn_region.proofs.Common.{Ok, Positions, Reaches, position_of, raised_marks, Image, table_of, BrokerRecord, up_to, AreHonest, DeliveryValue, TabletCopyValue, Ends, in_range, recovering_tablet, TabletStateValue, Serving, all_images, images_in, AreIn, new_marks, RegionValue, IsTabletOf, IsRegion, AllByRecursion, spell, Entries, need_shortfall, AllServe}
use Rattle.pn_region.proofs.EventRules.{none, Rules}
use Rattle.pn_region.proofs.Faith.{brought, was_brought, left_so}
use Rattle.pn_region.proofs.KeptRecords.{from_images_in, to_images_in}
use Rattle.pn_region.proofs.Relaying.{part_at}
use Rattle.pn_region.proofs.TakenImages.{either_one, by_part, one_of}
use Rattle.pn_region.proofs.MarkLaws.{up_to_more}
use Rattle.pn_region.proofs.FaithfulEvents.{need_reached, none_lacked}
use Rattle.pn_region.proofs.United.{united, from_united, to_united, united_cells}

-- The images to which the reach and the cover of a tablet come.

-- what was taken or left before was so after more
pub among_more : (taken left more maybe : List Image) (image : Image) → Contains (taken ++ left) image → Contains ((taken ++ more) ++ (left ++ maybe)) image
among_more taken left more maybe image =
    by_part taken left image
    (λ there. Contains-append_left (taken ++ more) (left ++ maybe) image (Contains-append_left taken more image there))
    (λ there. Contains-append_right (taken ++ more) (left ++ maybe) image (Contains-append_left left maybe image there))

-- so is what came
pub among_new : (taken left more maybe : List Image) (image : Image) → Contains (more ++ maybe) image → Contains ((taken ++ more) ++ (left ++ maybe)) image
among_new taken left more maybe image =
    by_part more maybe image
    (λ there. Contains-append_left (taken ++ more) (left ++ maybe) image (Contains-append_right taken more image there))
    (λ there. Contains-append_right (taken ++ more) (left ++ maybe) image (Contains-append_right left maybe image there))

-- where nothing more was taken
pub without_none : (images : List Image) (image : Image) → Contains (images ++ []) image → Contains images image
without_none images image = by_part images [] image (λ there. there) (none image)

-- a reach and a cover that are raised by what was taken
tells_more : (broker : BrokerRecord) (taken left more maybe : List Image) (t u : TabletStateValue) → u.range ≡ t.range → Reaches u.reach t.reach → CoverTells broker taken left t
    → ((image : Image) → Contains more image → in_range t.range image.key ≡ true → Contains (up_to broker u.reach) image)
    → ((image : Image) → Contains (up_to broker u.cover) image → in_range t.range image.key ≡ true → Contains (up_to broker t.cover) image ⊎ Contains (more ++ maybe) image)
    → CoverTells broker (taken ++ more) (left ++ maybe) u
tells_more broker taken left more maybe t u range reach tells added from = record {
  all = λ image there lies.
      let inside = ap (λ (ends : Ends). in_range ends image.key) (sym range) ∙ lies in
      by_part taken more image (λ old. up_to_more broker u.reach t.reach reach image (tells.all image old inside)) (λ new. added image new inside) there;
  no_others = λ image there lies.
      let inside = ap (λ (ends : Ends). in_range ends image.key) (sym range) ∙ lies in
      either_one (λ old. among_more taken left more maybe image (tells.no_others image old inside)) (among_new taken left more maybe image) (from image there inside);
}

second_so : {A B C : Type 0} → (B → C) → A ⊎ B → A ⊎ C
second_so f (inl a) = inl a
second_so f (inr b) = inr (f b)

-- the raised cover reaches what the old one did, and positions past that, up to the marks
beyond : (broker : BrokerRecord) (cover marks : Positions) (more : List Image)
    → ((image : Image) (stream : List ℕ) (at : ℕ) → position_of cover stream ≤ at → at < position_of marks stream → at < length (broker stream) → get_or (broker stream) at image ≡ image → Contains more image)
    → (image : Image) → Contains (up_to broker (raised_marks cover marks)) image → Contains (up_to broker cover) image ⊎ Contains more image
beyond broker cover marks more past image there =
    let new = published broker (raised_marks cover marks) image there in
    by_place new.stream new.stands
  where
    by_place : (stream : List ℕ) → Stands (broker stream) (position_of (raised_marks cover marks) stream) image → Contains (up_to broker cover) image ⊎ Contains more image
    by_place stream stands =
        elim (nat_lt stands.at (position_of cover stream)) as (λ b. nat_lt stands.at (position_of cover stream) ≡ b → Contains (up_to broker cover) image ⊎ Contains more image) [
          | true ↦ λ before. inl (is_up_to broker cover stream image (record { at = stands.at; below = grind (arith, nat_tests); within = stands.within; is = stands.is }))
          | false ↦ λ ahead.
              let reached : position_of cover stream ≤ stands.at = grind (arith, nat_tests) in
              inr (past image stream stands.at reached (omega (arith, reached, stands.below, position_of-raised_marks cover marks stream)) stands.within stands.is)
        ] refl

-- the reach and the cover of a tablet that takes a round
round_tells : (broker : BrokerRecord) (marks next : Positions) (deliveries : List DeliveryValue) → AreHonest broker deliveries → new_marks marks deliveries ≡ Ok next
    → (taken left more maybe : List Image) (r : Ends) (t : TabletStateValue) → IsTabletOf marks r t → AreIn more (all_images deliveries) → AreIn (all_images deliveries) (more ++ maybe)
    → CoverTells broker taken left t → CoverTells broker (taken ++ more) (left ++ maybe) (with_join t (table_of (images_in r (all_images deliveries))) next)
round_tells broker marks next deliveries honest accepted taken left more maybe r t is of to tells =
    tells_more broker taken left more maybe t (with_join t (table_of (images_in r (all_images deliveries))) next) refl (λ name. omega (arith, position_of-raised_marks t.reach next name)) tells
    (λ image there lies. brought broker marks next deliveries honest accepted (raised_marks t.reach next) (λ name. omega (arith, position_of-raised_marks t.reach next name)) image (of image there))
    (λ image there lies.
    beyond broker t.cover next (more ++ maybe)
    (λ one stream at past below within given.
    to one (was_brought broker marks next deliveries honest accepted stream one at (omega (arith, past, is.covered stream)) (omega (arith, below)) within given))
    image there)

-- those of one that adopts a copy of its range
adopted_tells : (broker : BrokerRecord) (copy : TabletCopyValue) (taken left : List Image) (t : TabletStateValue) → t.range ≡ copy.range → CoverTells broker taken left t
    → CoverTells broker (taken ++ images_in copy.range (up_to broker copy.marks)) (left ++ []) (record (with_join t copy.cells copy.marks) { status = Serving })
adopted_tells broker copy taken left t ranged tells =
    let more = images_in copy.range (up_to broker copy.marks) in
    tells_more broker taken left more [] t (record (with_join t copy.cells copy.marks) { status = Serving }) refl (λ name. omega (arith, position_of-raised_marks t.reach copy.marks name)) tells
    (λ image there lies.
    up_to_more broker (raised_marks t.reach copy.marks) copy.marks (λ name. omega (arith, position_of-raised_marks t.reach copy.marks name)) image (from_images_in copy.range (up_to broker copy.marks) image there).there)
    (λ image there lies.
    second_so
    (λ copied. Contains-append_left more [] image (to_images_in copy.range (up_to broker copy.marks) image copied (ap (λ (ends : Ends). in_range ends image.key) (sym ranged) ∙ lies)))
    (beyond broker t.cover copy.marks (up_to broker copy.marks)
    (λ one stream at past below within is. is_up_to broker copy.marks stream one (record { at = at; below = below; within = within; is = is }))
    image there))

-- those of one that is made of others
made_tells : (broker : BrokerRecord) (region : RegionValue) → IsRegion region → (taken left : List Image) → CoversTell broker taken left region.tablets → (r : Ends) → CoverTells broker (taken ++ []) (left ++ []) (made_of region.tablets r)
made_tells broker region is taken left tell r = record {
  all = λ image there lies.
      let part = part_at region is r image.key lies in
      let tells = one_of (CoverTells broker taken left) region.tablets part.1.n part.0 tell part.1.there in
      up_to_more broker (made_of region.tablets r).reach part.0.reach part.1.reach image (tells.all image (without_none taken image there) part.1.lies);
  no_others = λ image there lies.
      let part = part_at region is r image.key lies in
      let tells = one_of (CoverTells broker taken left) region.tablets part.1.n part.0 tell part.1.there in
      among_more taken left [] [] image (tells.no_others image (up_to_more broker part.0.cover (made_of region.tablets r).cover part.1.cover image there) part.1.lies);
}

pub cover_rules : (broker : BrokerRecord) → Rules broker (CoverTells broker)
cover_rules broker = record {
  itself = λ taken left more maybe t apart tells.
      tells_more broker taken left more maybe t t refl (λ name. omega arith) tells (λ image there lies. absurd (apart image there lies)) (λ image there lies. inl there);
  takes = round_tells broker;
  loses = λ taken left t tells.
      tells_more broker taken left [] [] t (recovering_tablet t) refl (λ name. omega arith) tells (λ image there lies. none image there) (λ image there lies. inl there);
  adopts = λ copy honest taken left t ranged lacks tells. adopted_tells broker copy taken left t ranged tells;
  relays = λ region is serve taken left tell r. made_tells broker region is taken left tell r;
}

-- Tablets that hold what was taken.

module _ (broker : BrokerRecord) (taken left : List Image) where
  -- a tablet that holds what was taken lacks nothing of it where it serves
  pub holds_all : (t : TabletStateValue) (holds : HoldsTaken broker taken left t) → t.status ≡ Serving → (image : Image) → Contains taken image → in_range t.range image.key ≡ true → Contains holds.images image
  holds_all t holds serves image there lies =
      none_lacked broker image
      (subst (λ (status : Status). Contains holds.images image ⊎ Contains (up_to broker (needed status)) image) serves (holds.all image there lies))

  -- where nothing in its range is taken
  itself_holds : (more maybe : List Image) (t : TabletStateValue) → ((image : Image) → Contains more image → in_range t.range image.key ≡ true → ⊥) → HoldsTaken broker taken left t → HoldsTaken broker (taken ++ more) (left ++ maybe) t
  itself_holds more maybe t apart holds = record {
    images = holds.images;
    cells = holds.cells;
    all = λ image there lies. by_part taken more image (λ old. holds.all image old lies) (λ new. absurd (apart image new lies)) there;
    no_others = λ image there lies. among_more taken left more maybe image (holds.no_others image there lies);
  }

  -- in a round
  round_holds : (deliveries : List DeliveryValue) (marks next : Positions) (more maybe : List Image) (r : Ends) (t : TabletStateValue) → IsTabletOf marks r t → AreIn more (all_images deliveries) → AreIn (all_images deliveries) (more ++ maybe)
      → HoldsTaken broker taken left t → HoldsTaken broker (taken ++ more) (left ++ maybe) (with_join t (table_of (images_in r (all_images deliveries))) next)
  round_holds deliveries marks next more maybe r t is of to holds =
      let images = all_images deliveries in
      record {
        images = holds.images ++ images;
        cells =
            ap (λ (cells : Entries). adds cells (spell (table_of (images_in r images)))) (holds.cells ∙ ap (λ (range : Ends). table_of (images_in range holds.images)) is.range)
            ∙ range_joins r holds.images images
            ∙ ap (λ (range : Ends). table_of (images_in range (holds.images ++ images))) (sym is.range);
        all = λ image there lies.
            by_part taken more image (λ old. left_so (Contains-append_left holds.images images image) (holds.all image old lies)) (λ new. inl (Contains-append_right holds.images images image (of image new))) there;
        no_others = λ image there lies.
            by_part holds.images images image (λ old. among_more taken left more maybe image (holds.no_others image old lies)) (λ new. among_new taken left more maybe image (to image new)) there;
      }

  -- in a loss: what was taken is up to the reach, which is the need
  lost_holds : (t : TabletStateValue) → CoverTells broker taken left t → HoldsTaken broker (taken ++ []) (left ++ []) (recovering_tablet t)
  lost_holds t tells = record {
    images = [];
    cells = sym table_of-nil;
    all = λ image there lies. inr (tells.all image (without_none taken image there) lies);
    no_others = λ image there lies. none image there;
  }

  -- in the adoption of an honest copy
  module _ (copy : TabletCopyValue) (honest : IsHonestCopy broker copy) (t : TabletStateValue) (ranged : t.range ≡ copy.range) (lacks : need_shortfall t.status copy.marks ≡ None) (holds : HoldsTaken broker taken left t) where
    abbrev copied : List Image
    copied = up_to broker copy.marks

    abbrev more : List Image
    more = images_in copy.range copied

    not_needed : (image : Image) → Contains holds.images image ⊎ Contains (up_to broker (needed t.status)) image → Contains (holds.images ++ copied) image
    not_needed image (inl there) = Contains-append_left holds.images copied image there
    not_needed image (inr needs) = Contains-append_right holds.images copied image (up_to_more broker copy.marks (needed t.status) (need_reached t.status copy.marks lacks) image needs)

    adopted_holds : HoldsTaken broker (taken ++ more) (left ++ []) (record (with_join t copy.cells copy.marks) { status = Serving })
    adopted_holds = record {
      images = holds.images ++ copied;
      cells =
          (λ i. adds (holds.cells i) (spell ((honest ∙ ap (λ (range : Ends). table_of (images_in range copied)) (sym ranged)) i)))
          ∙ range_joins t.range holds.images copied;
      all = λ image there lies.
          inl (by_part taken more image (λ old. not_needed image (holds.all image old lies)) (λ new. Contains-append_right holds.images copied image (from_images_in copy.range copied image new).there) there);
      no_others = λ image there lies.
          by_part holds.images copied image (λ old. among_more taken left more [] image (holds.no_others image old lies))
          (λ new. among_new taken left more [] image
          (Contains-append_left more [] image (to_images_in copy.range copied image new (ap (λ (ends : Ends). in_range ends image.key) (sym ranged) ∙ lies)))) there;
    }

  -- in a tablet that is made of others
  module _ (region : RegionValue) (is : IsRegion region) (serve : AllServe region) (hold : AllByRecursion (HoldsTaken broker taken left) region.tablets) where
    abbrev own : (t : TabletStateValue) → HoldsTaken broker taken left t → List Image
    own t holds = holds.images

    abbrev all_own : List Image
    all_own = united (HoldsTaken broker taken left) own region.tablets hold

    made_holds : (r : Ends) → HoldsTaken broker (taken ++ []) (left ++ []) (made_of region.tablets r)
    made_holds r = record {
      images = all_own;
      cells = united_cells (HoldsTaken broker taken left) own region hold is (λ t holds. holds.cells) r;
      all = λ image there lies.
          let part = part_at region is r image.key lies in
          let serves = one_of (λ (t : TabletStateValue). t.status ≡ Serving) region.tablets part.1.n part.0 serve part.1.there in
          inl (to_united (HoldsTaken broker taken left) own region.tablets hold part.1.n part.0 part.1.there image (λ holds. holds_all part.0 holds serves image (without_none taken image there) part.1.lies) part.1.lies);
      no_others = λ image there lies.
          let of = from_united (HoldsTaken broker taken left) own region.tablets hold image there in
          among_more taken left [] [] image (of.is.no_others image of.there of.lies);
    }

-- its reach and its cover tell what was taken, and it holds that
pub record IsTold (broker : BrokerRecord) (taken left : List Image) (t : TabletStateValue) : Type 0 where
  pub tells : CoverTells broker taken left t
  pub holds : HoldsTaken broker taken left t

pub all_tell : (broker : BrokerRecord) (taken left : List Image) (ts : List TabletStateValue) → AllByRecursion (IsTold broker taken left) ts → AllByRecursion (CoverTells broker taken left) ts
all_tell broker taken left [] told = tt
all_tell broker taken left (t ∷ ts) told = (told.0.tells, all_tell broker taken left ts told.1)

pub all_hold : (broker : BrokerRecord) (taken left : List Image) (ts : List TabletStateValue) → AllByRecursion (IsTold broker taken left) ts → AllByRecursion (HoldsTaken broker taken left) ts
all_hold broker taken left [] told = tt
all_hold broker taken left (t ∷ ts) told = (told.0.holds, all_hold broker taken left ts told.1)

pub all_told : (broker : BrokerRecord) (taken left : List Image) (ts : List TabletStateValue) → AllByRecursion (CoverTells broker taken left) ts → AllByRecursion (HoldsTaken broker taken left) ts → AllByRecursion (IsTold broker taken left) ts
all_told broker taken left [] tell hold = tt
all_told broker taken left (t ∷ ts) tell hold = (record { tells = tell.0; holds = hold.0 }, all_told broker taken left ts tell.1 hold.1)

pub told_rules : (broker : BrokerRecord) → Rules broker (IsTold broker)
told_rules broker =
    let covers = cover_rules broker in
    record {
      itself = λ taken left more maybe t apart told. record {
        tells = covers.itself taken left more maybe t apart told.tells;
        holds = itself_holds broker taken left more maybe t apart told.holds;
      };
      takes = λ marks next deliveries honest accepted taken left more maybe r t is of to told. record {
        tells = covers.takes marks next deliveries honest accepted taken left more maybe r t is of to told.tells;
        holds = round_holds broker taken left deliveries marks next more maybe r t is of to told.holds;
      };
      loses = λ taken left t told. record { tells = covers.loses taken left t told.tells; holds = lost_holds broker taken left t told.tells };
      adopts = λ copy honest taken left t ranged lacks told. record {
        tells = covers.adopts copy honest taken left t ranged lacks told.tells;
        holds = adopted_holds broker taken left copy honest t ranged lacks told.holds;
      };
      relays = λ region is serve taken left told r. record {
        tells = covers.relays region is serve taken left (all_tell broker taken left region.tablets told) r;
        holds = made_holds broker taken left region is serve (all_hold broker taken left region.tablets told) r;
      };
    }
