-- Honest events keep tablets faithful, and these give honest copies.
use Rattle.std.proofs.Common.{◌≡◌, ℕ, ◌≤◌, Bool, true, false, nat_lt, if◌then◌else◌, List, [], ◌++◌, Option, None, Some, refl, sym, ap, ◌∙◌, subst, arith, ◌⊎◌, inl, inr, Contains, zero, suc, ◌∷◌, map, slice_get}
use Rattle.std.specs.Option.{option_or}
use Rattle.std.proofs.lemmas.Bool.Decides.{nat_tests}
use Rattle.std.proofs.lemmas.List.Elements.{Contains-append_left, Contains-append_right}
use Rattle.pn_join.proofs.MarksFacts.{position_of-raised_marks}
use Rattle.pn_record.specs.Cells.{adds}
use Rattle.pn_record.proofs.CellMaps.{table_of-nil}
use Rattle.pn_tablet.specs.Copies.{unless_behind, copy_shortfall, copy_from, copy_of}
use Rattle.pn_tablet.specs.Tablets.{needed, first_shortfall}
use Rattle.pn_tablet.specs.Steps.{with_join, with_copy}
use Rattle.pn_tablet.specs.declared.state.Status.{Status}
use Rattle.pn_tablet.specs.declared.fault.OpFault.{OpFault}
use Rattle.pn_tablet.proofs.TabletLaws.{nothing_short, adopted}
use Rattle.pn_tablet.proofs.JoinLaws.{one_range}
use Rattle.pn_tablet.specs.Layouts.{meet}
use Rattle.pn_stream.proofs.Published.{Stands, is_up_to, published}
use Rattle.pn_apply.proofs.ReduceLaws.{range_joins}
use Rattle.pn_region.specs.Events.{IsHonestCopy, RegionEvent, round, half_round, loss, adoption, relayout, advance, LeadsTo, AllLeadTo, IsHonestEvent, AreHonestEvents}
use Rattle.pn_region.proofs.Common.{Result, Ok, Err, Positions, Reaches, position_of, raised_marks, Image, spell, table_of, BrokerRecord, up_to, TabletCopyValue, need_shortfall, Ends, in_range, recovering_tablet, step, TabletStateValue, same_range, Serving, Recovering, Shortfall, Adopt, WrongRange, images_in, IsFaithful, AllByRecursion, after_step, tablet_after, Lose, ranges, AreFaithful, tablets_after_op, RegionValue, IsRegion, AllServe}
use Rattle.pn_region.proofs.TakenImages.{by_part, alike_in, one_of}
use Rattle.pn_region.proofs.MarkLaws.{up_to_more}
use Rattle.pn_region.specs.Recovery.{made_of, parts_of}
use Rattle.pn_region.proofs.Advanced.{advances}
use Rattle.pn_region.proofs.EventSteps.{adopts, takes, event_is}
use Rattle.pn_region.proofs.Faith.{round_keeps, half_keeps}
use Rattle.pn_region.proofs.KeptRecords.{from_images_in, to_images_in}
use Rattle.pn_region.proofs.Pieces.{both_in_meet}
use Rattle.pn_region.proofs.PartMarks.{kept_at, greatest_above, reaches_reach}
use Rattle.pn_region.proofs.Relaying.{relays, part_at}
use Rattle.pn_region.proofs.United.{united, from_united, to_united, united_cells}

-- A loss, and an honest copy that is adopted, leave faithful tablets, and these give honest copies.

-- a tablet that was lost may lack all up to its need
pub lost_faithful : (broker : BrokerRecord) (t : TabletStateValue) → Reaches t.reach t.cover → IsFaithful broker (recovering_tablet t)
lost_faithful broker t reached = record {
  images = [];
  cells = sym table_of-nil;
  published = λ image there. absurd (omega (arith, there.1));
  all = λ image there lies. inr (up_to_more broker t.reach t.cover reached image there);
}

pub was_so : (b : Bool) (right : Result TabletStateValue OpFault) (after : TabletStateValue) → (if b then right else Err WrongRange) ≡ Ok after → b ≡ true
was_so true right after is = refl
was_so false right after is = cc

-- marks that lack nothing of what a tablet needs reach it
pub need_reached : (status : Status) (marks : Positions) → need_shortfall status marks ≡ None → Reaches marks (needed status)
need_reached Serving marks none name = omega arith
need_reached (Recovering need) marks none name = nothing_short marks need none name

module _ (broker : BrokerRecord) (t : TabletStateValue) (copy : TabletCopyValue) (faithful : IsFaithful broker t) (honest : IsHonestCopy broker copy) (ranged : t.range ≡ copy.range) (reaches : Reaches copy.marks (needed t.status)) where
  abbrev copied : List Image
  copied = up_to broker copy.marks

  abbrev cover : Positions
  cover = raised_marks t.cover copy.marks

  abbrev reach : Positions
  reach = raised_marks t.reach copy.marks

  -- what the tablet lacked the copy has
  not_lacking : (image : Image) → Contains faithful.images image ⊎ Contains (up_to broker (needed t.status)) image → Contains (faithful.images ++ copied) image
  not_lacking image (inl there) = Contains-append_left faithful.images copied image there
  not_lacking image (inr lacked) = Contains-append_right faithful.images copied image (up_to_more broker copy.marks (needed t.status) reaches image lacked)

  up_to_cover : (image : Image) (stream : List ℕ) → Stands (broker stream) (position_of cover stream) image → in_range t.range image.key ≡ true → Contains (faithful.images ++ copied) image
  up_to_cover image stream stands lies =
      elim (nat_lt stands.at (position_of t.cover stream)) as (λ b. nat_lt stands.at (position_of t.cover stream) ≡ b → Contains (faithful.images ++ copied) image) [
        | true ↦ λ before.
            not_lacking image
            (faithful.all image (is_up_to broker t.cover stream image (record { at = stands.at; below = grind (arith, nat_tests); within = stands.within; is = stands.is })) lies)
        | false ↦ λ past.
            let beyond : position_of t.cover stream ≤ stands.at = grind (arith, nat_tests) in
            Contains-append_right faithful.images copied image
            (is_up_to broker copy.marks stream image (record { at = stands.at; below = omega (arith, beyond, stands.below, position_of-raised_marks t.cover copy.marks stream); within = stands.within; is = stands.is }))
      ] refl

  taken_faithful : IsFaithful broker (record (with_join t copy.cells copy.marks) { status = Serving })
  taken_faithful = record {
    images = faithful.images ++ copied;
    cells =
        (λ i. adds (faithful.cells i) (spell ((honest ∙ ap (λ (range : Ends). table_of (images_in range copied)) (sym ranged)) i)))
        ∙ range_joins t.range faithful.images copied;
    published = λ image.
        by_part faithful.images copied image
        (λ there. up_to_more broker reach t.reach (λ name. omega (arith, position_of-raised_marks t.reach copy.marks name)) image (faithful.published image there))
        (up_to_more broker reach copy.marks (λ name. omega (arith, position_of-raised_marks t.reach copy.marks name)) image);
    all = λ image there lies.
        let new = published broker cover image there in
        inl (up_to_cover image new.stream new.stands lies);
  }

-- an honest copy that is adopted keeps a tablet faithful
pub adopted_faithful : (broker : BrokerRecord) (t after : TabletStateValue) (copy : TabletCopyValue) → IsFaithful broker t → IsHonestCopy broker copy → step t (Adopt copy) ≡ Ok after → IsFaithful broker after
adopted_faithful broker t after copy faithful honest is =
    let known = adopted t copy after is in
    let ranged = one_range t.range copy.range (was_so (same_range t.range copy.range) (with_copy t copy (need_shortfall t.status copy.marks)) after is) in
    subst (IsFaithful broker) (sym known.taken) (taken_faithful broker t copy faithful honest ranged (need_reached t.status copy.marks known.reaches))

pub none_lacked : (broker : BrokerRecord) (image : Image) {A : Type 0} → A ⊎ Contains (up_to broker []) image → A
none_lacked broker image (inl there) = there
none_lacked broker image (inr lacked) = absurd (omega (arith, lacked.1))

-- a faithful tablet that serves lacks nothing in its range up to its cover
pub serving_lacks_none : (broker : BrokerRecord) (t : TabletStateValue) (faithful : IsFaithful broker t) → t.status ≡ Serving → (image : Image) → Contains (up_to broker t.cover) image → in_range t.range image.key ≡ true → Contains faithful.images image
serving_lacks_none broker t faithful serves image there lies =
    none_lacked broker image
    (subst (λ (status : Status). Contains faithful.images image ⊎ Contains (up_to broker (needed status)) image) serves (faithful.all image there lies))

-- where its cover is its reach, it has the cells of all images up to there
pub serving_has_all : (broker : BrokerRecord) (t : TabletStateValue) → IsFaithful broker t → t.status ≡ Serving → Reaches t.cover t.reach → t.cells ≡ table_of (images_in t.range (up_to broker t.cover))
serving_has_all broker t faithful serves reach =
    faithful.cells
    ∙ alike_in t.range faithful.images (up_to broker t.cover)
    (λ image there lies. up_to_more broker t.cover t.reach reach image (faithful.published image there))
    (serving_lacks_none broker t faithful serves)

-- where nothing of both is lacked, nothing of the second is
none_of_both : (first second : Option Shortfall) → option_or first second ≡ None → second ≡ None
none_of_both None second none = none
none_of_both (Some short) second none = cc

given_by : (broker : BrokerRecord) (t : TabletStateValue) (short : Option Shortfall) (copy : TabletCopyValue) → (short ≡ None → t.cells ≡ table_of (images_in t.range (up_to broker t.cover)))
    → unless_behind short (record { range = t.range; marks = t.cover; cells = t.cells }) ≡ Ok copy → IsHonestCopy broker copy
given_by broker t None copy has is =
    let same : record { range = t.range; marks = t.cover; cells = t.cells } ≡ copy = cc in
    subst (IsHonestCopy broker) same (has refl)
given_by broker t (Some short) copy has is = cc

by_status : (broker : BrokerRecord) (t : TabletStateValue) (need : Positions) (copy : TabletCopyValue) (status : Status) → t.status ≡ status → IsFaithful broker t → copy_from status t need ≡ Ok copy → IsHonestCopy broker copy
by_status broker t need copy Serving serves faithful is =
    given_by broker t (copy_shortfall t need) copy
    (λ none. serving_has_all broker t faithful serves (nothing_short t.cover t.reach (none_of_both (first_shortfall t.cover need) (first_shortfall t.cover t.reach) none))) is
by_status broker t need copy (Recovering lacked) recovers faithful is = cc

-- so the copy that it gives is honest
pub given_is_honest : (broker : BrokerRecord) (t : TabletStateValue) (need : Positions) (copy : TabletCopyValue) → IsFaithful broker t → copy_of t need ≡ Ok copy → IsHonestCopy broker copy
given_is_honest broker t need copy faithful is = by_status broker t need copy t.status refl faithful is

-- Honest events keep tablets faithful.

-- tablets that are made of faithful ones
module _ (broker : BrokerRecord) (region : RegionValue) (is : IsRegion region) (faithful : AreFaithful broker region.tablets) (serve : AllServe region) where
  abbrev own : (t : TabletStateValue) → IsFaithful broker t → List Image
  own t one = one.images

  abbrev all_own : List Image
  all_own = united (IsFaithful broker) own region.tablets faithful

  made_faithful : (r : Ends) → IsFaithful broker (made_of region.tablets r)
  made_faithful r = record {
    images = images_in r all_own;
    cells =
        united_cells (IsFaithful broker) own region faithful is (λ t one. one.cells) r
        ∙ alike_in r all_own (images_in r all_own) (λ image there lies. to_images_in r all_own image there lies) (λ image there lies. (from_images_in r all_own image there).there);
    published = λ image there.
        let inside = from_images_in r all_own image there in
        let of = from_united (IsFaithful broker) own region.tablets faithful image inside.there in
        let kept = kept_at (λ (t : TabletStateValue). meet t.range r) region.tablets of.n of.tablet of.at (both_in_meet of.tablet.range r image.key of.lies inside.lies) in
        up_to_more broker (made_of region.tablets r).reach of.tablet.reach (greatest_above (parts_of region.tablets r) kept.0 of.tablet kept.1) image (of.is.published image of.there);
    all = λ image there lies.
        let part = part_at region is r image.key lies in
        let serves = one_of (λ (t : TabletStateValue). t.status ≡ Serving) region.tablets part.1.n part.0 serve part.1.there in
        let lower = up_to_more broker part.0.cover (made_of region.tablets r).cover part.1.cover image there in
        inl (to_images_in r all_own image
        (to_united (IsFaithful broker) own region.tablets faithful part.1.n part.0 part.1.there image (λ one. serving_lacks_none broker part.0 one serves image lower part.1.lies) part.1.lies) lies);
  }

  all_made : (rs : List Ends) → AreFaithful broker (map (made_of region.tablets) rs)
  all_made [] = tt
  all_made (r ∷ rs) = (made_faithful r, all_made rs)

-- faithful tablets stay faithful
module _ (broker : BrokerRecord) where
  lost_at : (n : ℕ) (ts : List TabletStateValue) → AllByRecursion (λ (t : TabletStateValue). Reaches t.reach t.cover) ts → AreFaithful broker ts → AreFaithful broker (tablets_after_op n Lose ts)
  lost_at n [] reached faithful = tt
  lost_at zero (t ∷ ts) reached faithful = (lost_faithful broker t reached.0, faithful.1)
  lost_at (suc n) (t ∷ ts) reached faithful = (faithful.0, lost_at n ts reached.1 faithful.1)

  adopted_or_not : (t : TabletStateValue) (copy : TabletCopyValue) → IsHonestCopy broker copy → IsFaithful broker t → IsFaithful broker (tablet_after t (Adopt copy))
  adopted_or_not t copy honest faithful =
      elim (step t (Adopt copy)) as (λ right. step t (Adopt copy) ≡ right → IsFaithful broker (after_step t right)) [
        | Ok after ↦ λ is. adopted_faithful broker t after copy faithful honest is
        | Err refusal ↦ λ is. faithful
      ] refl

  adopted_at : (n : ℕ) (copy : TabletCopyValue) (ts : List TabletStateValue) → IsHonestCopy broker copy → AreFaithful broker ts → AreFaithful broker (tablets_after_op n (Adopt copy) ts)
  adopted_at n copy [] honest faithful = tt
  adopted_at zero copy (t ∷ ts) honest faithful = (adopted_or_not t copy honest faithful.0, faithful.1)
  adopted_at (suc n) copy (t ∷ ts) honest faithful = (faithful.0, adopted_at n copy ts honest faithful.1)

  pub event_faithful : (event : RegionEvent) (old new : RegionValue) → IsRegion old → AreFaithful broker old.tablets → IsHonestEvent broker event → LeadsTo event old new → AreFaithful broker new.tablets
  event_faithful (round deliveries) old new is faithful honest leads =
      let took = takes old deliveries new leads in
      subst (λ (r : RegionValue). AreFaithful broker r.tablets) (sym took.is) (round_keeps broker old deliveries took.marks is faithful honest took.accepted)
  event_faithful (half_round deliveries) old new is faithful honest leads = half_keeps broker old new deliveries is faithful honest leads
  event_faithful (loss n) old new is faithful honest leads =
      subst (λ (r : RegionValue). AreFaithful broker r.tablets) (sym leads) (lost_at n old.tablets (reaches_reach old.marks (ranges old.layout) old.tablets is.tablets) faithful)
  event_faithful (adoption copy) old new is faithful honest leads =
      subst (λ (r : RegionValue). AreFaithful broker r.tablets) (sym (adopts old copy leads.tablet new leads.adopted).is) (adopted_at leads.tablet copy old.tablets honest faithful)
  event_faithful (relayout bounds) old new is faithful honest leads =
      let laid = relays old new bounds leads.relaid in
      subst (λ (r : RegionValue). AreFaithful broker r.tablets) (sym laid.is) (all_made broker old is faithful laid.served (ranges bounds))
  event_faithful advance old new is faithful honest leads = subst (λ (r : RegionValue). AreFaithful broker r.tablets) (sym (advances old new leads)) faithful

  pub events_faithful : (events : List RegionEvent) (old new : RegionValue) → IsRegion old → AreFaithful broker old.tablets → AreHonestEvents broker events → AllLeadTo events old new → AreFaithful broker new.tablets
  events_faithful [] old new is faithful honest lead = subst (λ (r : RegionValue). AreFaithful broker r.tablets) (sym lead) faithful
  events_faithful (event ∷ events) old new is faithful honest lead =
      events_faithful events lead.0 new (event_is event old lead.0 is lead.1) (event_faithful event old lead.0 is faithful honest.0 lead.1) honest.1 lead.2

  pub faithful_at : (n : ℕ) (ts : List TabletStateValue) (t : TabletStateValue) → AreFaithful broker ts → slice_get ts n ≡ Some t → IsFaithful broker t
  faithful_at n ts t faithful there = one_of (IsFaithful broker) ts n t faithful there
