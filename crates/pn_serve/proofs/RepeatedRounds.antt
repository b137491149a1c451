-- Regions of which one took part of a round that the other did not, until the round is repeated.
use Rattle.std.proofs.Common.{◌≡◌, ◌⊎◌, inl, inr, Bool, true, false, if◌then◌else◌, List, [], ◌∷◌, map, refl, sym, ap, ◌∙◌, subst}
use Rattle.std.specs.Prelude.{Result, Ok, Err}
use Rattle.pn_join.specs.Marks.{Positions}
use Rattle.pn_record.specs.declared.records.Image.{Image}
use Rattle.pn_record.specs.Cells.{Entries, table_of}
use Rattle.pn_stream.specs.Brokers.{DeliveryValue}
use Rattle.pn_tablet.specs.Steps.{Rise, after_step, tablet_after}
use Rattle.pn_tablet.specs.Layouts.{Bounds, Ends}
use Rattle.pn_tablet.specs.Steps as steps
use Rattle.pn_tablet.specs.Tablets.{TabletStateValue, lie_in}
use Rattle.pn_tablet.specs.declared.fault.OpFault.TheVariants.{WrongRange}
use Rattle.pn_tablet.specs.declared.state.TabletOp.TheVariants.{Join, Adopt}
use Rattle.pn_apply.specs.Applying.{all_stepped, AreOldOrStepped}
use Rattle.pn_apply.specs.Reducing.{all_images, images_in, join_in, joins_of, ranges}
use Rattle.pn_region.specs.Rounds.{new_marks, after_joins, joins}
use Rattle.pn_region.specs.Recovery.{after_loss, after_op, with_layout}
use Rattle.pn_region.specs.Regions.{RegionValue, AllRise}
use Rattle.pn_region.specs.Events.{IsRound}
use Rattle.pn_region.specs.declared.fault.RoundFault.{RoundFault}
use Rattle.pn_region.proofs.Repeats.{MarksRise, tablets_rise, all_rise, all_joins_rise, all_on, made_up}
use Rattle.pn_region.proofs.MarkLaws.{IsBelow, below_then, new_rise, new_above, new_both}
use Rattle.pn_serve.specs.Machine.Turns.{some_after, after_part_with_marks}
use Rattle.pn_serve.proofs.LineSteps.{SameFace, SameFaces, Carries}

-- ---- joins leave the ranges of tablets, and what they need

join_face : (t : TabletStateValue) (cells : Entries) (marks : Positions) → SameFace (tablet_after t (Join cells marks)) t
join_face t cells marks = by (lie_in t.range cells)
  where
    by : (b : Bool) → SameFace (after_step t (if b then Ok (steps.with_join t cells marks) else Err WrongRange)) t
    by true = (refl, refl)
    by false = (refl, refl)

both_faces : (s t u v : TabletStateValue) → SameFace s t → SameFace u v → SameFace t v → SameFace s u
both_faces s t u v first second same = (first.0 ∙ same.0 ∙ sym second.0, first.1 ∙ same.1 ∙ sym second.1)

faces_themselves : (ts : List TabletStateValue) → SameFaces ts ts
faces_themselves [] = tt
faces_themselves (t ∷ ts) = ((refl, refl), faces_themselves ts)

faces_then : (ts us vs : List TabletStateValue) → SameFaces ts us → SameFaces us vs → SameFaces ts vs
faces_then [] [] [] first second = tt
faces_then [] [] (v ∷ vs) first second = absurd second
faces_then [] (u ∷ us) vs first second = absurd first
faces_then (t ∷ ts) [] vs first second = absurd first
faces_then (t ∷ ts) (u ∷ us) [] first second = absurd second
faces_then (t ∷ ts) (u ∷ us) (v ∷ vs) first second = ((first.0.0 ∙ second.0.0, first.0.1 ∙ second.0.1), faces_then ts us vs first.1 second.1)

module _ (marks : Positions) (images : List Image) where
  one_face : (r : Ends) (t u : TabletStateValue) → SameFace t u → SameFace (tablet_after t (join_in marks images r)) (tablet_after u (join_in marks images r))
  one_face r t u same = both_faces (tablet_after t (join_in marks images r)) t (tablet_after u (join_in marks images r)) u (join_face t (table_of (images_in r images)) marks) (join_face u (table_of (images_in r images)) marks) same

  all_faces : (rs : List Ends) (ts us : List TabletStateValue) → SameFaces ts us → SameFaces (all_stepped ts (map (join_in marks images) rs)) (all_stepped us (map (join_in marks images) rs))
  all_faces rs [] [] same = tt
  all_faces rs [] (u ∷ us) same = absurd same
  all_faces rs (t ∷ ts) [] same = absurd same
  all_faces [] (t ∷ ts) (u ∷ us) same = tt
  all_faces (r ∷ rs) (t ∷ ts) (u ∷ us) same = (one_face r t u same.0, all_faces rs ts us same.1)

  flag_face : (flag : Bool) (r : Ends) (t u : TabletStateValue) → SameFace t u → SameFace (if flag then tablet_after t (join_in marks images r) else t) (if flag then tablet_after u (join_in marks images r) else u)
  flag_face true r t u same = one_face r t u same
  flag_face false r t u same = same

  some_faces : (flags : List Bool) (rs : List Ends) (ts us : List TabletStateValue) → SameFaces ts us → SameFaces (some_after flags ts (map (join_in marks images) rs)) (some_after flags us (map (join_in marks images) rs))
  some_faces [] rs ts us same = same
  some_faces (flag ∷ flags) rs [] [] same = tt
  some_faces (flag ∷ flags) rs [] (u ∷ us) same = absurd same
  some_faces (flag ∷ flags) rs (t ∷ ts) [] same = absurd same
  some_faces (flag ∷ flags) [] (t ∷ ts) (u ∷ us) same = same
  some_faces (flag ∷ flags) (r ∷ rs) (t ∷ ts) (u ∷ us) same = (flag_face flag r t u same.0, some_faces flags rs ts us same.1)

  some_themselves : (flags : List Bool) (rs : List Ends) (ts : List TabletStateValue) → SameFaces (some_after flags ts (map (join_in marks images) rs)) ts
  some_themselves [] rs ts = faces_themselves ts
  some_themselves (flag ∷ flags) rs [] = tt
  some_themselves (flag ∷ flags) [] (t ∷ ts) = faces_themselves (t ∷ ts)
  some_themselves (true ∷ flags) (r ∷ rs) (t ∷ ts) = (join_face t (table_of (images_in r images)) marks, some_themselves flags rs ts)
  some_themselves (false ∷ flags) (r ∷ rs) (t ∷ ts) = ((refl, refl), some_themselves flags rs ts)

  half_faces : (rs : List Ends) (ts us : List TabletStateValue) → AreOldOrStepped ts (map (join_in marks images) rs) us → SameFaces us ts
  half_faces [] [] [] half = tt
  half_faces [] [] (u ∷ us) half = absurd half
  half_faces [] (t ∷ ts) us half = absurd half
  half_faces (r ∷ rs) [] us half = absurd half
  half_faces (r ∷ rs) (t ∷ ts) [] half = absurd half
  half_faces (r ∷ rs) (t ∷ ts) (u ∷ us) half = (one half.0, half_faces rs ts us half.1)
    where
      one : (u ≡ t) ⊎ (u ≡ tablet_after t (join_in marks images r)) → SameFace u t
      one (inl same) = (ap (λ (x : TabletStateValue). x.range) same, ap (λ (x : TabletStateValue). x.status) same)
      one (inr took) = subst (λ (x : TabletStateValue). SameFace x t) (sym took) (join_face t (table_of (images_in r images)) marks)

-- ---- regions that look alike: their layout, their marks, and the faces of their tablets

pub record LookAlike (a b : RegionValue) : Type 0 where
  pub layout : a.layout ≡ b.layout
  pub marks : a.marks ≡ b.marks
  pub faces : SameFaces a.tablets b.tablets

pub alike_themselves : (a : RegionValue) → LookAlike a a
alike_themselves a = record { layout = refl; marks = refl; faces = faces_themselves a.tablets }

pub alike_then : (a b c : RegionValue) → LookAlike a b → LookAlike b c → LookAlike a c
alike_then a b c first second = record { layout = first.layout ∙ second.layout; marks = first.marks ∙ second.marks; faces = faces_then a.tablets b.tablets c.tablets first.faces second.faces }

module _ (a b : RegionValue) (deliveries : List DeliveryValue) (next : Positions) (alike : LookAlike a b) where
  look_takes : LookAlike (after_joins a deliveries next) (after_joins b deliveries next)
  look_takes = record {
    layout = alike.layout;
    marks = refl;
    faces = subst (λ (layout : Bounds). SameFaces (all_stepped a.tablets (joins a deliveries next)) (all_stepped b.tablets (joins_of layout next (all_images deliveries)))) alike.layout (all_faces next (all_images deliveries) (ranges a.layout) a.tablets b.tablets alike.faces);
  }

  look_takes_some : (flags : List Bool) → LookAlike (after_part_with_marks a deliveries flags (Ok next)) (after_part_with_marks b deliveries flags (Ok next))
  look_takes_some flags = record {
    layout = alike.layout;
    marks = alike.marks;
    faces = subst (λ (layout : Bounds). SameFaces (some_after flags a.tablets (joins a deliveries next)) (some_after flags b.tablets (joins_of layout next (all_images deliveries)))) alike.layout (some_faces next (all_images deliveries) flags (ranges a.layout) a.tablets b.tablets alike.faces);
  }

-- a round that some tablets took
pub partly_look : (a : RegionValue) (deliveries : List DeliveryValue) (flags : List Bool) (right : Result Positions RoundFault) → LookAlike (after_part_with_marks a deliveries flags right) a
partly_look a deliveries flags (Ok next) = record { layout = refl; marks = refl; faces = some_themselves next (all_images deliveries) flags (ranges a.layout) a.tablets }
partly_look a deliveries flags (Err fault) = alike_themselves a

pub look_carries : Carries LookAlike IsRound
look_carries = record {
  faces = λ a b alike. alike.faces;
  marks = λ a b alike. alike.marks;
  takes = λ a b deliveries next alike is. look_takes a b deliveries next alike;
  takes_some = λ a b deliveries flags next alike is. look_takes_some a b deliveries next alike flags;
  loses = λ a b tablet alike one. absurd one;
  adopts = λ a b given tablet alike one. absurd one;
  relays = λ a b bounds alike one. absurd one;
}

-- ---- regions of which one took part of a round

module _ (deliveries : List DeliveryValue) where
  -- the first took part of a round with these deliveries, and after it both took the same
  pub record RunsAhead (a b : RegionValue) : Type 0 where
    pub base : Positions
    pub first : Positions
    pub accepted : new_marks base deliveries ≡ Ok first
    pub rise_base : Rise base
    pub below : IsBelow base b.marks
    pub layout : a.layout ≡ b.layout
    pub marks : a.marks ≡ b.marks
    pub tablets : AreOldOrStepped b.tablets (map (join_in first (all_images deliveries)) (ranges b.layout)) a.tablets
    pub rise : AllRise b

  module _ (a b : RegionValue) (ahead : RunsAhead a b) where
    rise_first : Rise ahead.first
    rise_first = new_rise ahead.base ahead.first deliveries ahead.accepted ahead.rise_base

    tablets_were : MarksRise b.tablets
    tablets_were = tablets_rise b ahead.rise

    module _ (more : List DeliveryValue) (next : Positions) (is : new_marks a.marks more ≡ Ok next) where
      is_too : new_marks b.marks more ≡ Ok next
      is_too = ap (λ (at : Positions). new_marks at more) (sym ahead.marks) ∙ is

      rise_next : Rise next
      rise_next = new_rise b.marks next more is_too ahead.rise.marks

      abbrev Both : List TabletStateValue → List TabletStateValue → Type 0
      Both ts us = AreOldOrStepped ts (map (join_in ahead.first (all_images deliveries)) (ranges b.layout)) us

      ahead_takes : RunsAhead (after_joins a more next) (after_joins b more next)
      ahead_takes = record {
        base = ahead.base;
        first = ahead.first;
        accepted = ahead.accepted;
        rise_base = ahead.rise_base;
        below = below_then ahead.base b.marks next ahead.rise_base ahead.below (new_above b.marks next more is_too ahead.rise.marks);
        layout = ahead.layout;
        marks = refl;
        tablets = subst (λ (layout : Bounds). Both (all_stepped b.tablets (joins b more next)) (all_stepped a.tablets (joins_of layout next (all_images more)))) (sym ahead.layout) (
            all_on ahead.first (all_images deliveries) rise_first next (all_images more) rise_next (ranges b.layout) b.tablets a.tablets tablets_were ahead.tablets);
        rise = all_rise (after_joins b more next) rise_next (all_joins_rise next (all_images more) (ranges b.layout) b.tablets tablets_were);
      }

      some_on : (flags : List Bool) (rs : List Ends) (ts us : List TabletStateValue) → MarksRise ts → AreOldOrStepped ts (map (join_in ahead.first (all_images deliveries)) rs) us
          → AreOldOrStepped (some_after flags ts (map (join_in next (all_images more)) rs)) (map (join_in ahead.first (all_images deliveries)) rs) (some_after flags us (map (join_in next (all_images more)) rs))
      some_on [] rs ts us rise half = half
      some_on (flag ∷ flags) [] [] [] rise half = tt
      some_on (flag ∷ flags) [] [] (u ∷ us) rise half = absurd half
      some_on (flag ∷ flags) [] (t ∷ ts) us rise half = absurd half
      some_on (flag ∷ flags) (r ∷ rs) [] us rise half = absurd half
      some_on (flag ∷ flags) (r ∷ rs) (t ∷ ts) [] rise half = absurd half
      some_on (true ∷ flags) (r ∷ rs) (t ∷ ts) (u ∷ us) rise half =
          ((all_on ahead.first (all_images deliveries) rise_first next (all_images more) rise_next (r ∷ []) (t ∷ []) (u ∷ []) (rise.0, tt) (half.0, tt)).0, some_on flags rs ts us rise.1 half.1)
      some_on (false ∷ flags) (r ∷ rs) (t ∷ ts) (u ∷ us) rise half = (half.0, some_on flags rs ts us rise.1 half.1)

      some_rise : (flags : List Bool) (rs : List Ends) (ts : List TabletStateValue) → MarksRise ts → MarksRise (some_after flags ts (map (join_in next (all_images more)) rs))
      some_rise [] rs ts rise = rise
      some_rise (flag ∷ flags) rs [] rise = tt
      some_rise (flag ∷ flags) [] (t ∷ ts) rise = rise
      some_rise (true ∷ flags) (r ∷ rs) (t ∷ ts) rise = ((all_joins_rise next (all_images more) (r ∷ []) (t ∷ []) (rise.0, tt)).0, some_rise flags rs ts rise.1)
      some_rise (false ∷ flags) (r ∷ rs) (t ∷ ts) rise = (rise.0, some_rise flags rs ts rise.1)

      ahead_takes_some : (flags : List Bool) → RunsAhead (after_part_with_marks a more flags (Ok next)) (after_part_with_marks b more flags (Ok next))
      ahead_takes_some flags = record {
        base = ahead.base;
        first = ahead.first;
        accepted = ahead.accepted;
        rise_base = ahead.rise_base;
        below = ahead.below;
        layout = ahead.layout;
        marks = ahead.marks;
        tablets = subst (λ (layout : Bounds). Both (some_after flags b.tablets (joins b more next)) (some_after flags a.tablets (joins_of layout next (all_images more)))) (sym ahead.layout) (
            some_on flags (ranges b.layout) b.tablets a.tablets tablets_were ahead.tablets);
        rise = all_rise (after_part_with_marks b more flags (Ok next)) ahead.rise.marks (some_rise flags (ranges b.layout) b.tablets tablets_were);
      }

    -- the round itself makes both the same
    pub caught_up : (last : Positions) → new_marks a.marks deliveries ≡ Ok last → after_joins a deliveries last ≡ after_joins b deliveries last
    caught_up last is =
        let again = is_too deliveries last is in
        let rise_last = rise_next deliveries last is in
        let above = new_both ahead.base b.marks ahead.first last deliveries ahead.accepted again ahead.rise_base ahead.rise.marks ahead.below in
        let made = made_up ahead.first (all_images deliveries) rise_first last rise_last above (ranges b.layout) b.tablets a.tablets tablets_were ahead.tablets in
        (λ i. record { layout = ahead.layout i; tablets = all_stepped a.tablets (joins_of (ahead.layout i) last (all_images deliveries)); marks = last })
        ∙ (λ i. record { layout = b.layout; tablets = made i; marks = last })

  ahead_look : (a b : RegionValue) → RunsAhead a b → LookAlike a b
  ahead_look a b ahead = record { layout = ahead.layout; marks = ahead.marks; faces = half_faces ahead.first (all_images deliveries) (ranges b.layout) b.tablets a.tablets ahead.tablets }

  pub ahead_carries : Carries RunsAhead IsRound
  ahead_carries = record {
    faces = λ a b ahead. (ahead_look a b ahead).faces;
    marks = λ a b ahead. ahead.marks;
    takes = λ a b more next ahead is. ahead_takes a b ahead more next is;
    takes_some = λ a b more flags next ahead is. ahead_takes_some a b ahead more next is flags;
    loses = λ a b tablet ahead one. absurd one;
    adopts = λ a b given tablet ahead one. absurd one;
    relays = λ a b bounds ahead one. absurd one;
  }

-- ---- equal regions

pub equal_carries : Carries (λ a b. a ≡ b) (λ event. Unit {0})
equal_carries = record {
  faces = λ a b same. subst (λ (r : RegionValue). SameFaces a.tablets r.tablets) same (faces_themselves a.tablets);
  marks = λ a b same. ap (λ (r : RegionValue). r.marks) same;
  takes = λ a b deliveries next same is. ap (λ (r : RegionValue). after_joins r deliveries next) same;
  takes_some = λ a b deliveries flags next same is. ap (λ (r : RegionValue). after_part_with_marks r deliveries flags (Ok next)) same;
  loses = λ a b tablet same any. ap (λ (r : RegionValue). after_loss r tablet) same;
  adopts = λ a b given tablet same any. ap (λ (r : RegionValue). after_op r tablet (Adopt given)) same;
  relays = λ a b bounds same any. ap (λ (r : RegionValue). with_layout r bounds) same;
}
