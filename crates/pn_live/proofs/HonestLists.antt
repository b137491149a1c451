-- Published lists stay honest, and readers of honest lists find no less after a loss.
use Rattle.std.proofs.Common.{◌≡◌, ◌⊎◌, ℕ, zero, suc, Bool, true, false, if◌then◌else◌, List, [], ◌∷◌, ◌++◌, fold, map, refl, sym, ap, ◌∙◌, subst, inl, inr, ⊎_elim, Ok, Err, IsTrue, Contains, arith}
use Rattle.std.specs.FinMap.{find}
use Rattle.std.specs.Prelude.{Option, Some}
use mathlib.Core.List.{IsPrefix}
use Rattle.pn_join.specs.Marks.{Positions, Reaches}
use Rattle.pn_record.specs.declared.records.Image.{Image}
use Rattle.pn_record.specs.Cells.{Entries, table_of}
use Rattle.pn_record.proofs.CellMaps.{table_of-nil}
use Rattle.pn_record.specs.Sets.{bytes_cmp, CellValue, set_of}
use Rattle.pn_stream.specs.Brokers.{BrokerRecord, up_to, AreHonest, DeliveryValue}
use Rattle.pn_tablet.specs.Copies.{TabletCopyValue, IsCopy}
use Rattle.pn_tablet.specs.Layouts.{Ends, in_range}
use Rattle.pn_tablet.specs.Steps.{tablet_after, after_step, with_join, state_of}
use Rattle.pn_tablet.specs.Tablets.{TabletStateValue, empty_tablet, lie_in}
use Rattle.pn_tablet.specs.declared.fault.OpFault.TheVariants.{WrongRange}
use Rattle.pn_tablet.specs.declared.state.TabletOp.{TabletOp}
use Rattle.pn_tablet.specs.declared.state.TabletOp.TheVariants.{Lose, Adopt}
use Rattle.pn_tablet.specs.declared.state.Status.TheVariants.{Serving}
use Rattle.pn_tablet.proofs.TabletLaws.{never_falls}
use Rattle.pn_apply.specs.Reducing.{all_images, images_in, join_in}
use Rattle.pn_apply.proofs.ReduceLaws.{cells_inside}
use Rattle.pn_region.specs.Events.{round, loss, adoption, IsHonestCopy}
use Rattle.pn_region.specs.Laws.{IsFaithful, AreFaithful}
use Rattle.pn_region.specs.Reads.{HoldsStill}
use Rattle.pn_region.specs.Rounds.{new_marks, joins}
use Rattle.pn_region.specs.Regions.{IsRegion}
use Rattle.pn_region.specs.Rounds as rounds
use Rattle.pn_region.proofs.Faith.{brought}
use Rattle.pn_region.proofs.FaithfulEvents.{serving_has_all, event_faithful}
use Rattle.pn_region.proofs.KeptRecords.{more_in, to_images_in, more_held}
use Rattle.pn_region.proofs.RoundSteps.{new_reached}
use Rattle.pn_region.proofs.MarkLaws.{up_to_more}
use Rattle.pn_live.specs.PublishedTablets.{IsHonestList, AreHonestTablets, PublishedTabletValue, state_at, AreNewTablets, with_op, with_ops, note_of}
use Rattle.pn_live.specs.Laws.{HasImage}
use Rattle.pn_live.specs.LiveRegions.{LiveRegionValue, core, tablets_after_round, with_op_at, after_op_at, Adopts, Advances}
use Rattle.pn_live.specs.Readers.{TabletReaderValue, Finds, Learns, KnowsMore}
use Rattle.pn_live.proofs.ListLaws.{fold_on, range_kept, one_reach, has_image, found_alone}
use Rattle.pn_live.proofs.Rounds.{core_after}
use Rattle.pn_live.proofs.Prefixes.{begins_itself, begins_on}

-- what begins a list with one element more begins the list, or is the whole
begins_or_whole : {A : Type 0} (first list : List A) (x : A) → IsPrefix first (list ++ x ∷ []) → IsPrefix first list ⊎ (first ≡ list ++ x ∷ [])
begins_or_whole [] list x p = inl (list, refl)
begins_or_whole (a ∷ first) [] x (more, is) = inr (nothing_more first more (cc is) (cc is))
  where
    nothing_more : (first more : List _) → a ≡ x → first ++ more ≡ [] → a ∷ first ≡ x ∷ []
    nothing_more [] more same none = ap (λ (y : _). y ∷ []) same
    nothing_more (b ∷ first) more same none = absurd (cc none)
begins_or_whole (a ∷ first) (y ∷ list) x (more, is) =
    let same : a ≡ y = cc is in
    let rest : first ++ more ≡ list ++ x ∷ [] = cc is in
    ⊎_elim
    (λ (early : IsPrefix first list). inl (early.0, λ i. same i ∷ early.1 i))
    (λ (whole : first ≡ list ++ x ∷ []). inr (λ i. same i ∷ whole i))
    (begins_or_whole first list x (more, rest))

-- each tablet is as it was, or has one operation more
abbrev EachGrows : List PublishedTabletValue → List PublishedTabletValue → Type 0
EachGrows [] [] = Unit {0}
EachGrows (old ∷ olds) (new ∷ news) = ((new ≡ old) ⊎ ((op : TabletOp) × (new ≡ with_op old op))) × EachGrows olds news
EachGrows _ _ = ⊥

none_grow : (ps : List PublishedTabletValue) → EachGrows ps ps
none_grow [] = tt
none_grow (p ∷ ps) = (inl refl, none_grow ps)

all_grow : (ps : List PublishedTabletValue) (ops : List TabletOp) → EachGrows ps (with_ops ps ops)
all_grow [] ops = tt
all_grow (p ∷ ps) [] = none_grow (p ∷ ps)
all_grow (p ∷ ps) (op ∷ ops) = (inr (op, refl), all_grow ps ops)

one_grows : (n : ℕ) (op : TabletOp) (ps : List PublishedTabletValue) → EachGrows ps (with_op_at n op ps)
one_grows n op [] = tt
one_grows zero op (p ∷ ps) = (inr (op, refl), none_grow ps)
one_grows (suc n) op (p ∷ ps) = (inl refl, one_grows n op ps)

module _ (broker : BrokerRecord) where
  abbrev IsHonestTablet : PublishedTabletValue → Type 0
  IsHonestTablet tablet = IsHonestList broker tablet.range tablet.list

  -- the states of honest lists are faithful
  now_faithful : (ps : List PublishedTabletValue) → AreHonestTablets broker ps → AreFaithful broker (map state_at ps)
  now_faithful [] honest = tt
  now_faithful (p ∷ ps) honest = (honest.0 p.list (begins_itself p.list), now_faithful ps honest.1)

  one_grown : (old new : PublishedTabletValue) → (new ≡ old) ⊎ ((op : TabletOp) × (new ≡ with_op old op)) → IsHonestTablet old → IsFaithful broker (state_at new) → IsHonestTablet new
  one_grown old new (inl same) honest faithful = subst IsHonestTablet (sym same) honest
  one_grown old new (inr (op, more)) honest faithful =
      let now : IsFaithful broker (state_at (with_op old op)) = subst (λ (p : PublishedTabletValue). IsFaithful broker (state_at p)) more faithful in
      let whole : IsHonestTablet (with_op old op) =
      λ first p. ⊎_elim (λ (early : IsPrefix first old.list). honest first early)
      (λ (is : first ≡ old.list ++ op ∷ []). subst (λ (l : List TabletOp). IsFaithful broker (state_of old.range l)) (sym is) now)
      (begins_or_whole first old.list op p) in
      subst IsHonestTablet (sym more) whole

  grown : (olds news : List PublishedTabletValue) → EachGrows olds news → AreHonestTablets broker olds → AreFaithful broker (map state_at news) → AreHonestTablets broker news
  grown [] [] grows honest faithful = tt
  grown [] (new ∷ news) grows honest faithful = absurd grows
  grown (old ∷ olds) [] grows honest faithful = absurd grows
  grown (old ∷ olds) (new ∷ news) grows honest faithful = (one_grown old new grows.0 honest.0 faithful.0, grown olds news grows.1 honest.1 faithful.1)

  -- what is published of a new live region
  pub opened_honest : (rs : List Ends) (ps : List PublishedTabletValue) → AreNewTablets rs ps → AreHonestTablets broker ps
  opened_honest [] [] are = tt
  opened_honest [] (p ∷ ps) are = absurd are
  opened_honest (r ∷ rs) [] are = absurd are
  opened_honest (r ∷ rs) (p ∷ ps) are = (
    λ first begins.
        let none : first ≡ [] = nothing first begins.0 (begins.1 ∙ are.0.1) in
        subst (λ (l : List TabletOp). IsFaithful broker (state_of p.range l)) (sym none) (empty_faithful p.range),
    opened_honest rs ps are.1,
  )
    where
      nothing : (first more : List TabletOp) → first ++ more ≡ [] → first ≡ []
      nothing [] more is = refl
      nothing (op ∷ first) more is = absurd (cc is)

      empty_faithful : (range : Ends) → IsFaithful broker (empty_tablet range)
      empty_faithful range = record { images = []; cells = sym table_of-nil; published = λ image there. absurd (omega (arith, there.1)); all = λ image there lies. absurd (omega (arith, there.1)) }

  module _ (old new : LiveRegionValue) (is : IsRegion (core old)) (honest : AreHonestTablets broker old.tablets) where
    pub round_honest : (deliveries : List DeliveryValue) → AreHonest broker deliveries → rounds.round (core old) deliveries ≡ Ok (core new) → new.tablets ≡ tablets_after_round old deliveries new.marks → AreHonestTablets broker new.tablets
    round_honest deliveries brings leads all =
        grown old.tablets new.tablets (subst (EachGrows old.tablets) (sym all) (all_grow old.tablets (joins (core old) deliveries new.marks))) honest
        (event_faithful broker (round deliveries) (core old) (core new) is (now_faithful old.tablets honest) brings leads)

    pub loss_honest : (n : ℕ) → new ≡ after_op_at old n Lose → AreHonestTablets broker new.tablets
    loss_honest n now =
        let tablets : new.tablets ≡ with_op_at n Lose old.tablets = ap (λ (l : LiveRegionValue). l.tablets) now in
        grown old.tablets new.tablets (subst (EachGrows old.tablets) (sym tablets) (one_grows n Lose old.tablets)) honest
        (event_faithful broker (loss n) (core old) (core new) is (now_faithful old.tablets honest) tt
        (ap core now ∙ core_after old n Lose (with_op_at n Lose old.tablets) refl []))

    pub adoption_honest : (copy : TabletCopyValue) → IsCopy copy.range copy.marks copy.cells → IsHonestCopy broker copy → Adopts copy old new → AreHonestTablets broker new.tablets
    adoption_honest copy lawful gives adopts =
        let tablets : new.tablets ≡ with_op_at adopts.tablet (Adopt copy) old.tablets = ap (λ (l : LiveRegionValue). l.tablets) adopts.published in
        grown old.tablets new.tablets (subst (EachGrows old.tablets) (sym tablets) (one_grows adopts.tablet (Adopt copy) old.tablets)) honest
        (event_faithful broker (adoption copy) (core old) (core new) is (now_faithful old.tablets honest) gives
        (record { tablet = adopts.tablet; lawful = lawful; adopted = adopts.adopted }))

  -- marks that advance publish nothing
  pub advance_honest : (old new : LiveRegionValue) → AreHonestTablets broker old.tablets → Advances old new → AreHonestTablets broker new.tablets
  advance_honest old new honest does = subst (AreHonestTablets broker) (sym (ap (λ (l : LiveRegionValue). l.tablets) does.rest)) honest

  -- operations lower no cover
  covers_on : (t : TabletStateValue) (ops : List TabletOp) → Reaches (fold tablet_after t ops).cover t.cover
  covers_on t [] name = omega arith
  covers_on t (op ∷ ops) name = omega (arith, never_falls t op name, covers_on (tablet_after t op) ops name)

  -- a serving tablet has all images up to its cover
  found_all : (later last : TabletReaderValue) (now : TabletStateValue) → Finds later now last → IsHonestList broker last.range last.seen → now.status ≡ Serving
      → now.cells ≡ table_of (images_in last.range (up_to broker now.cover))
  found_all later last now found honest serves =
      let faithful = subst (IsFaithful broker) (sym found.state) (honest last.seen (begins_itself last.seen)) in
      let range : now.range ≡ last.range = ap (λ (t : TabletStateValue). t.range) found.state ∙ range_kept (empty_tablet last.range) last.seen in
      let reached : Reaches now.cover now.reach =
      subst (λ (t : TabletStateValue). Reaches t.cover t.reach) (sym found.state) (one_reach last.range last.seen) in
      serving_has_all broker now faithful serves reached ∙ ap (λ (r : Ends). table_of (images_in r (up_to broker now.cover))) range

  -- a longer list leads to no smaller cover
  cover_begins : (range : Ends) (first list : List TabletOp) → IsPrefix first list → Reaches (state_of range list).cover (state_of range first).cover
  cover_begins range first list begins =
      subst (λ (t : TabletStateValue). Reaches t.cover (state_of range first).cover)
      (sym (ap (state_of range) (sym begins.1) ∙ fold_on (empty_tablet range) first begins.0)) (covers_on (state_of range first) begins.0)

  pub never_back_across : (first seen later last : TabletReaderValue) (was now : TabletStateValue) → Finds first was seen → KnowsMore seen later → Finds later now last
      → IsHonestList broker last.range last.seen → was.status ≡ Serving → now.status ≡ Serving → (key : List ℕ) → HoldsStill (find bytes_cmp key was.cells) (find bytes_cmp key now.cells)
  never_back_across first seen later last was now found more found_later honest serves serves_too key =
      let begins = begins_on seen.seen later.seen last.seen more.seen found_later.seen in
      let range : last.range ≡ seen.range = ap (λ (w : TabletReaderValue). w.range) found_later.same ∙ more.range in
      let honest_first : IsHonestList broker seen.range seen.seen =
      λ early p. subst (λ (r : Ends). IsFaithful broker (state_of r early)) range (honest early (begins_on early seen.seen last.seen p begins)) in
      let had = found_all first seen was found honest_first serves in
      let has = found_all later last now found_later honest serves_too ∙ ap (λ (r : Ends). table_of (images_in r (up_to broker now.cover))) range in
      let is : now ≡ state_of seen.range last.seen = found_later.state ∙ ap (λ (r : Ends). state_of r last.seen) range in
      let reach : Reaches now.cover was.cover =
      subst (λ (t : TabletStateValue). Reaches now.cover t.cover) (sym found.state)
      (subst (λ (t : TabletStateValue). Reaches t.cover (state_of seen.range seen.seen).cover) (sym is) (cover_begins seen.range seen.seen last.seen begins)) in
      subst (λ (cells : Entries). HoldsStill (find bytes_cmp key cells) (find bytes_cmp key now.cells)) (sym had)
      (subst (λ (cells : Entries). HoldsStill (find bytes_cmp key (table_of (images_in seen.range (up_to broker was.cover)))) (find bytes_cmp key cells)) (sym has)
      (more_held (images_in seen.range (up_to broker was.cover)) (images_in seen.range (up_to broker now.cover)) key
      (more_in seen.range (up_to broker was.cover) (up_to broker now.cover) (up_to_more broker now.cover was.cover reach))))

  -- a join raises the cover to its marks
  joined_cover : (t : TabletStateValue) (cells : Entries) (marks : Positions) (b : Bool) → b ≡ true → Reaches (after_step t (if b then Ok (with_join t cells marks) else Err WrongRange)).cover marks
  joined_cover t cells marks true inside = new_reached t.cover marks
  joined_cover t cells marks false inside = absurd (cc inside)

  join_reaches : (t : TabletStateValue) (marks : Positions) (images : List Image) (range : Ends) → t.range ≡ range → Reaches (tablet_after t (join_in marks images range)).cover marks
  join_reaches t marks images range ranged =
      joined_cover t (table_of (images_in range images)) marks (lie_in t.range (table_of (images_in range images)))
      (subst (λ (r : Ends). lie_in r (table_of (images_in range images)) ≡ true) (sym ranged) (cells_inside range images))

  pub not_missed_across : (tablet : PublishedTabletValue) (old marks : Positions) (deliveries : List DeliveryValue) (reader learnt later last : TabletReaderValue) (now : TabletStateValue)
      → AreHonest broker deliveries → new_marks old deliveries ≡ Ok marks
      → reader.range ≡ tablet.range → Learns reader (note_of (with_op tablet (join_in marks (all_images deliveries) tablet.range))) learnt
      → KnowsMore learnt later → Finds later now last → IsHonestList broker last.range last.seen → now.status ≡ Serving
      → (image : Image) → Contains (all_images deliveries) image → IsTrue (in_range tablet.range image.key) → HasImage image (find bytes_cmp image.key now.cells)
  not_missed_across tablet old marks deliveries reader learnt later last now brings accepted ranged learns more found honest serves image there lies =
      let op = join_in marks (all_images deliveries) tablet.range in
      let with_new = tablet.list ++ op ∷ [] in
      let begins : IsPrefix with_new last.seen = begins_on with_new later.learnt last.seen (begins_on with_new learnt.learnt later.learnt learns.note more.learnt) found.learnt in
      let range : last.range ≡ tablet.range = ap (λ (w : TabletReaderValue). w.range) found.same ∙ (more.range ∙ (ap (λ (w : TabletReaderValue). w.range) learns.same ∙ ranged)) in
      let is : now ≡ state_of tablet.range last.seen = found.state ∙ ap (λ (r : Ends). state_of r last.seen) range in
      let first : Reaches (state_of tablet.range with_new).cover marks =
      subst (λ (t : TabletStateValue). Reaches t.cover marks) (sym (fold_on (empty_tablet tablet.range) tablet.list (op ∷ [])))
      (join_reaches (state_of tablet.range tablet.list) marks (all_images deliveries) tablet.range (range_kept (empty_tablet tablet.range) tablet.list)) in
      let on = cover_begins tablet.range with_new last.seen begins in
      let reach : Reaches now.cover marks =
      subst (λ (t : TabletStateValue). Reaches t.cover marks) (sym is) (λ name. omega (arith, first name, on name)) in
      let has = found_all later last now found honest serves ∙ ap (λ (r : Ends). table_of (images_in r (up_to broker now.cover))) range in
      let up = brought broker old marks deliveries brings accepted now.cover reach image there in
      let listed = to_images_in tablet.range (up_to broker now.cover) image up lies in
      has_image image (find bytes_cmp image.key now.cells)
      (subst (λ (cells : Entries). HoldsStill (Some (image.version, set_of (image.content ∷ []))) (find bytes_cmp image.key cells)) (sym has)
      (subst (λ (o : Option CellValue). HoldsStill o (find bytes_cmp image.key (table_of (images_in tablet.range (up_to broker now.cover))))) (found_alone image)
      (more_held (image ∷ []) (images_in tablet.range (up_to broker now.cover)) image.key (only image (images_in tablet.range (up_to broker now.cover)) listed))))
    where
      only : (image : Image) (images : List Image) → Contains images image → (one : Image) → Contains (image ∷ []) one → Contains images one
      only image images there one (zero, within, is) = subst (Contains images) is there
      only image images there one (suc n, within, is) = absurd (omega (arith, within))
