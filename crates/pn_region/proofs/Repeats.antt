-- A round that ran out of memory, after which some tablets took a join that others lack, and its repeat.
use Rattle.std.proofs.Common.{◌≡◌, Bool, true, false, if◌then◌else◌, List, [], ◌∷◌, map, refl, sym, ap, ◌∙◌, subst, ◌⊎◌, inl, inr}
use Rattle.std.specs.Result.{result_map_both}
use Rattle.pn_join.proofs.MarksFacts.{is_sorted-raised_marks, raised_marks-repeats}
use Rattle.pn_tablet.specs.Steps.{Rise, with_join}
use Rattle.pn_tablet.proofs.JoinLaws.{joins_commute, later_join_alone}
use Rattle.pn_region.specs.Regions.{AllRise}
use Rattle.pn_region.proofs.Common.{Ok, Err, AllByRecursion, Positions, raised_marks, Image, Entries, table_of, Ends, lie_in, TabletStateValue, after_step, tablet_after, Join, WrongRange, all_stepped, AreOldOrStepped, images_in, join_in, RegionValue, Result, MatchResult, Bounds, DeliveryValue, all_images, ranges, new_marks, IsHalfTaken, RoundFault}
use Rattle.pn_region.specs.Events.{RegionEvent, round, half_round, loss, adoption, relayout, advance, LeadsTo, AllLeadTo, IsRound, AreRounds}
use Rattle.pn_region.proofs.EventSteps.{takes}
use Rattle.pn_region.proofs.MarkLaws.{IsBelow, below_then, new_rise, new_above, new_both}
use Rattle.pn_region.specs.Rounds as rounds

-- Tablets of which some took a join that the others lack, and what further joins make of both.

-- the names of its cover rise, and those of its reach
pub record BothRise (t : TabletStateValue) : Type 0 where
  pub cover : Rise t.cover
  pub reach : Rise t.reach

-- those of all tablets do
abbrev pub MarksRise : List TabletStateValue → Type 0
MarksRise tablets = AllByRecursion BothRise tablets

both_rise : (ts : List TabletStateValue) → AllByRecursion (λ (t : TabletStateValue). Rise t.cover) ts → AllByRecursion (λ (t : TabletStateValue). Rise t.reach) ts → MarksRise ts
both_rise [] covers reaches = tt
both_rise (t ∷ ts) covers reaches = (record { cover = covers.0; reach = reaches.0 }, both_rise ts covers.1 reaches.1)

covers_rise : (ts : List TabletStateValue) → MarksRise ts → AllByRecursion (λ (t : TabletStateValue). Rise t.cover) ts
covers_rise [] rise = tt
covers_rise (t ∷ ts) rise = (rise.0.cover, covers_rise ts rise.1)

reaches_rise : (ts : List TabletStateValue) → MarksRise ts → AllByRecursion (λ (t : TabletStateValue). Rise t.reach) ts
reaches_rise [] rise = tt
reaches_rise (t ∷ ts) rise = (rise.0.reach, reaches_rise ts rise.1)

pub tablets_rise : (region : RegionValue) → AllRise region → MarksRise region.tablets
tablets_rise region rise = both_rise region.tablets rise.covers rise.reaches

pub all_rise : (region : RegionValue) → Rise region.marks → MarksRise region.tablets → AllRise region
all_rise region marks rise = record { marks = marks; covers = covers_rise region.tablets rise; reaches = reaches_rise region.tablets rise }

rises_by : (t : TabletStateValue) (cells : Entries) (marks : Positions) (b : Bool) → BothRise t → BothRise (with_join t cells marks) → BothRise (after_step t (if b then Ok (with_join t cells marks) else Err WrongRange))
rises_by t cells marks true was is = is
rises_by t cells marks false was is = was

pub taking_rises : (t : TabletStateValue) (cells : Entries) (marks : Positions) → BothRise t → BothRise (with_join t cells marks)
taking_rises t cells marks rise = record { cover = is_sorted-raised_marks t.cover marks rise.cover; reach = is_sorted-raised_marks t.reach marks rise.reach }

join_rises : (t : TabletStateValue) (cells : Entries) (marks : Positions) → BothRise t → BothRise (tablet_after t (Join cells marks))
join_rises t cells marks rise = rises_by t cells marks (lie_in t.range cells) rise (taking_rises t cells marks rise)

pub all_joins_rise : (marks : Positions) (images : List Image) (rs : List Ends) (ts : List TabletStateValue) → MarksRise ts → MarksRise (all_stepped ts (map (join_in marks images) rs))
all_joins_rise marks images rs [] rise = tt
all_joins_rise marks images [] (t ∷ ts) rise = tt
all_joins_rise marks images (r ∷ rs) (t ∷ ts) rise = (join_rises t (table_of (images_in r images)) marks rise.0, all_joins_rise marks images rs ts rise.1)

pub half_joins_rise : (marks : Positions) (images : List Image) (rs : List Ends) (ts us : List TabletStateValue) → MarksRise ts → AreOldOrStepped ts (map (join_in marks images) rs) us → MarksRise us
half_joins_rise marks images [] [] [] rise half = tt
half_joins_rise marks images [] [] (u ∷ us) rise half = absurd half
half_joins_rise marks images [] (t ∷ ts) us rise half = absurd half
half_joins_rise marks images (r ∷ rs) [] us rise half = absurd half
half_joins_rise marks images (r ∷ rs) (t ∷ ts) [] rise half = absurd half
half_joins_rise marks images (r ∷ rs) (t ∷ ts) (u ∷ us) rise half = (one half.0, half_joins_rise marks images rs ts us rise.1 half.1)
  where
    one : (u ≡ t) ⊎ (u ≡ tablet_after t (join_in marks images r)) → BothRise u
    one (inl same) = subst BothRise (sym same) rise.0
    one (inr took) = subst BothRise (sym took) (join_rises t (table_of (images_in r images)) marks rise.0)

module _ (first : Positions) (images : List Image) (rise_first : Rise first) where
  -- a further join
  module _ (marks : Positions) (more : List Image) (rise_marks : Rise marks) where
    one_on : (r : Ends) (t u : TabletStateValue) → BothRise t → (u ≡ t) ⊎ (u ≡ tablet_after t (join_in first images r))
        → (tablet_after u (join_in marks more r) ≡ tablet_after t (join_in marks more r)) ⊎ (tablet_after u (join_in marks more r) ≡ tablet_after (tablet_after t (join_in marks more r)) (join_in first images r))
    one_on r t u rise (inl same) = inl (ap (λ (x : TabletStateValue). tablet_after x (join_in marks more r)) same)
    one_on r t u rise (inr took) =
        inr (ap (λ (x : TabletStateValue). tablet_after x (join_in marks more r)) took ∙ joins_commute t (table_of (images_in r images)) (table_of (images_in r more)) first marks rise.cover rise.reach rise_first rise_marks)

    pub all_on : (rs : List Ends) (ts us : List TabletStateValue) → MarksRise ts → AreOldOrStepped ts (map (join_in first images) rs) us
        → AreOldOrStepped (all_stepped ts (map (join_in marks more) rs)) (map (join_in first images) rs) (all_stepped us (map (join_in marks more) rs))
    all_on [] [] [] rise half = tt
    all_on [] [] (u ∷ us) rise half = absurd half
    all_on [] (t ∷ ts) us rise half = absurd half
    all_on (r ∷ rs) [] us rise half = absurd half
    all_on (r ∷ rs) (t ∷ ts) [] rise half = absurd half
    all_on (r ∷ rs) (t ∷ ts) (u ∷ us) rise half = (one_on r t u rise.0 half.0, all_on rs ts us rise.1 half.1)

    -- a further join that some tablets took
    pub half_on : (rs : List Ends) (ts us vs : List TabletStateValue) → MarksRise ts → AreOldOrStepped ts (map (join_in first images) rs) us → AreOldOrStepped us (map (join_in marks more) rs) vs
        → (ws : List TabletStateValue) × AreOldOrStepped ts (map (join_in marks more) rs) ws × AreOldOrStepped ws (map (join_in first images) rs) vs
    half_on [] [] [] [] rise half next = ([], tt, tt)
    half_on [] [] [] (v ∷ vs) rise half next = absurd next
    half_on [] [] (u ∷ us) vs rise half next = absurd half
    half_on [] (t ∷ ts) us vs rise half next = absurd half
    half_on (r ∷ rs) [] us vs rise half next = absurd half
    half_on (r ∷ rs) (t ∷ ts) [] vs rise half next = absurd half
    half_on (r ∷ rs) (t ∷ ts) (u ∷ us) [] rise half next = absurd next
    half_on (r ∷ rs) (t ∷ ts) (u ∷ us) (v ∷ vs) rise half next =
        let rest = half_on rs ts us vs rise.1 half.1 next.1 in
        let here = one next.0 in
        (here.0 ∷ rest.0, (here.1, rest.1), (here.2, rest.2))
      where
        one : (v ≡ u) ⊎ (v ≡ tablet_after u (join_in marks more r))
            → (w : TabletStateValue) × ((w ≡ t) ⊎ (w ≡ tablet_after t (join_in marks more r))) × ((v ≡ w) ⊎ (v ≡ tablet_after w (join_in first images r)))
        one (inl same) = (t, inl refl, subst (λ (x : TabletStateValue). (x ≡ t) ⊎ (x ≡ tablet_after t (join_in first images r))) (sym same) half.0)
        one (inr took) = (
          tablet_after t (join_in marks more r),
          inr refl,
          subst (λ (x : TabletStateValue). (x ≡ tablet_after t (join_in marks more r)) ⊎ (x ≡ tablet_after (tablet_after t (join_in marks more r)) (join_in first images r))) (sym took) (one_on r t u rise.0 half.0),
        )

  -- the same join again, with later marks, makes all the same
  pub made_up : (last : Positions) → Rise last → raised_marks first last ≡ last → (rs : List Ends) (ts us : List TabletStateValue) → MarksRise ts → AreOldOrStepped ts (map (join_in first images) rs) us
      → all_stepped us (map (join_in last images) rs) ≡ all_stepped ts (map (join_in last images) rs)
  made_up last rise_last below [] [] [] rise half = refl
  made_up last rise_last below [] [] (u ∷ us) rise half = absurd half
  made_up last rise_last below [] (t ∷ ts) us rise half = absurd half
  made_up last rise_last below (r ∷ rs) [] us rise half = absurd half
  made_up last rise_last below (r ∷ rs) (t ∷ ts) [] rise half = absurd half
  made_up last rise_last below (r ∷ rs) (t ∷ ts) (u ∷ us) rise half = λ i. one half.0 i ∷ made_up last rise_last below rs ts us rise.1 half.1 i
    where
      one : (u ≡ t) ⊎ (u ≡ tablet_after t (join_in first images r)) → tablet_after u (join_in last images r) ≡ tablet_after t (join_in last images r)
      one (inl same) = ap (λ (x : TabletStateValue). tablet_after x (join_in last images r)) same
      one (inr took) =
          ap (λ (x : TabletStateValue). tablet_after x (join_in last images r)) took
          ∙ later_join_alone t (table_of (images_in r images)) first last rise.0.cover rise.0.reach below

-- A round that ran out of memory, and its repeat.

-- the same layout and marks, and tablets of which some took the failed round's join, and others as they are without it
pub record RunsAhead (first : Positions) (images : List Image) (region ahead : RegionValue) : Type 0 where
  pub same : ahead ≡ record { layout = region.layout; tablets = ahead.tablets; marks = region.marks }
  pub tablets : AreOldOrStepped region.tablets (map (join_in first images) (ranges region.layout)) ahead.tablets
  pub rise : AllRise region

-- a region that the event leads to, over which the other runs ahead, and whose marks are not below the ones before
pub record Catches (first : Positions) (images : List Image) (event : RegionEvent) (old ahead : RegionValue) : Type 0 where
  pub new : RegionValue
  pub leads : LeadsTo event old new
  pub runs : RunsAhead first images new ahead
  pub below : IsBelow old.marks new.marks

module _ (first : Positions) (images : List Image) (rise_first : Rise first) (layout : Bounds) (ts us : List TabletStateValue) (marks : Positions)
    (half : AreOldOrStepped ts (map (join_in first images) (ranges layout)) us) (rise : AllRise (record { layout = layout; tablets = ts; marks = marks })) where
  abbrev old : RegionValue
  old = record { layout = layout; tablets = ts; marks = marks }

  abbrev ahead : RegionValue
  ahead = record { layout = layout; tablets = us; marks = marks }

  round_catches : (deliveries : List DeliveryValue) (new : RegionValue) → rounds.round ahead deliveries ≡ Ok new → Catches first images (round deliveries) old new
  round_catches deliveries new leads =
      let took = takes ahead deliveries new leads in
      let rise_next = new_rise marks took.marks deliveries took.accepted rise.marks in
      let runs : RunsAhead first images (rounds.after_joins old deliveries took.marks) (rounds.after_joins ahead deliveries took.marks) =
      record {
        same = refl;
        tablets = all_on first images rise_first took.marks (all_images deliveries) rise_next (ranges layout) ts us (tablets_rise old rise) half;
        rise = all_rise (rounds.after_joins old deliveries took.marks) rise_next (all_joins_rise took.marks (all_images deliveries) (ranges layout) ts (tablets_rise old rise));
      } in
      record {
        new = rounds.after_joins old deliveries took.marks;
        leads = ap (result_map_both (rounds.after_joins old deliveries) (λ fault. fault)) took.accepted;
        runs = subst (RunsAhead first images (rounds.after_joins old deliveries took.marks)) (sym took.is) runs;
        below = new_above marks took.marks deliveries took.accepted rise.marks;
      }

  half_by : (deliveries : List DeliveryValue) (vs : List TabletStateValue) (right : Result Positions RoundFault) → new_marks marks deliveries ≡ right
      → MatchResult right (λ next. AreOldOrStepped us (rounds.joins ahead deliveries next) vs) (λ fault. vs ≡ us)
      → Catches first images (half_round deliveries) old (record { layout = layout; tablets = vs; marks = marks })
  half_by deliveries vs (Ok next) accepted left =
      let rise_next = new_rise marks next deliveries accepted rise.marks in
      let on = half_on first images rise_first next (all_images deliveries) rise_next (ranges layout) ts us vs (tablets_rise old rise) half left in
      record {
        new = record { layout = layout; tablets = on.0; marks = marks };
        leads = (refl, refl, subst (λ (right : Result Positions RoundFault). MatchResult right (λ next. AreOldOrStepped ts (rounds.joins old deliveries next) on.0) (λ fault. on.0 ≡ ts)) (sym accepted) on.1);
        runs = record { same = refl; tablets = on.2; rise = all_rise (record { layout = layout; tablets = on.0; marks = marks }) rise.marks (half_joins_rise next (all_images deliveries) (ranges layout) ts on.0 (tablets_rise old rise) on.1) };
        below = raised_marks-repeats marks rise.marks;
      }
  half_by deliveries vs (Err fault) refused left = record {
    new = old;
    leads = (refl, refl, subst (λ (right : Result Positions RoundFault). MatchResult right (λ next. AreOldOrStepped ts (rounds.joins old deliveries next) ts) (λ fault. ts ≡ ts)) (sym refused) refl);
    runs = record { same = refl; tablets = subst (AreOldOrStepped ts (map (join_in first images) (ranges layout))) (sym left) half; rise = rise };
    below = raised_marks-repeats marks rise.marks;
  }

  half_catches : (deliveries : List DeliveryValue) (new : RegionValue) → IsHalfTaken ahead deliveries new → Catches first images (half_round deliveries) old new
  half_catches deliveries new left =
      subst (Catches first images (half_round deliveries) old) (λ i. record { layout = sym left.0 i; tablets = new.tablets; marks = sym left.1 i })
      (half_by deliveries new.tablets (new_marks marks deliveries) refl left.2)

  event_catches : (event : RegionEvent) (new : RegionValue) → IsRound event → LeadsTo event ahead new → Catches first images event old new
  event_catches (round deliveries) new is leads = round_catches deliveries new leads
  event_catches (half_round deliveries) new is leads = half_catches deliveries new leads
  event_catches (loss n) new is leads = absurd is
  event_catches (adoption copy) new is leads = absurd is
  event_catches (relayout bounds) new is leads = absurd is
  event_catches advance new is leads = absurd is

-- rounds lead from each of two such regions to two such regions
module _ (first : Positions) (images : List Image) (rise_first : Rise first) where
  all_catch : (events : List RegionEvent) (region further later : RegionValue) → AreRounds events → RunsAhead first images region further → AllLeadTo events further later
      → (other : RegionValue) × AllLeadTo events region other × RunsAhead first images other later × IsBelow region.marks other.marks
  all_catch [] region further later are runs lead = (region, refl, subst (RunsAhead first images region) (sym lead) runs, raised_marks-repeats region.marks runs.rise.marks)
  all_catch (event ∷ events) region further later are runs lead =
      let leads = subst (λ (r : RegionValue). LeadsTo event r lead.0) runs.same lead.1 in
      let step = event_catches first images rise_first region.layout region.tablets further.tablets region.marks runs.tablets runs.rise event lead.0 are.0 leads in
      let rest = all_catch events step.new lead.0 later are.1 step.runs lead.2 in
      (rest.0, (step.new, step.leads, rest.1), rest.2, below_then region.marks step.new.marks rest.0.marks runs.rise.marks step.below rest.3)

-- ---- the failed round is accepted at last

module _ (start failed later end : RegionValue) (deliveries : List DeliveryValue) (events : List RegionEvent) (rise : AllRise start) (are : AreRounds events)
    (lead : AllLeadTo events failed later) (is : rounds.round later deliveries ≡ Ok end) where
  abbrev MakesUp : Type 0
  MakesUp = (other : RegionValue) × AllLeadTo events start other × (rounds.round other deliveries ≡ Ok end)

  accepted_first : (first : Positions) → new_marks start.marks deliveries ≡ Ok first → RunsAhead first (all_images deliveries) start failed → MakesUp
  accepted_first first accepted runs =
      let rise_first = new_rise start.marks first deliveries accepted rise.marks in
      let (other, leads, both, below) = all_catch first (all_images deliveries) rise_first events start failed later are runs lead in
      let took = takes later deliveries end is in
      let again : new_marks other.marks deliveries ≡ Ok took.marks = ap (λ (r : RegionValue). new_marks r.marks deliveries) (sym both.same) ∙ took.accepted in
      let rise_last = new_rise other.marks took.marks deliveries again both.rise.marks in
      let above = new_both start.marks other.marks first took.marks deliveries accepted again rise.marks both.rise.marks below in
      let made : rounds.after_joins later deliveries took.marks ≡ rounds.after_joins other deliveries took.marks =
      ap (λ (r : RegionValue). rounds.after_joins r deliveries took.marks) both.same
      ∙ (λ i. record { layout = other.layout; tablets = made_up first (all_images deliveries) rise_first took.marks rise_last above (ranges other.layout) other.tablets later.tablets (tablets_rise other both.rise) both.tablets i; marks = took.marks }) in
      (other, leads, ap (result_map_both (rounds.after_joins other deliveries) (λ fault. fault)) again ∙ ap Ok (sym made ∙ sym took.is))

  by_marks : (right : Result Positions RoundFault) → new_marks start.marks deliveries ≡ right → failed ≡ record { layout = start.layout; tablets = failed.tablets; marks = start.marks }
      → MatchResult right (λ marks. AreOldOrStepped start.tablets (rounds.joins start deliveries marks) failed.tablets) (λ fault. failed.tablets ≡ start.tablets) → MakesUp
  by_marks (Ok first) accepted same left = accepted_first first accepted (record { same = same; tablets = left; rise = rise })
  by_marks (Err fault) refused same left =
      let unchanged : failed ≡ start = same ∙ (λ i. record { layout = start.layout; tablets = left i; marks = start.marks }) in
      (later, subst (λ (r : RegionValue). AllLeadTo events r later) unchanged lead, is)

  pub makes_up : IsHalfTaken start deliveries failed → MakesUp
  makes_up left = by_marks (new_marks start.marks deliveries) refl (λ i. record { layout = left.0 i; tablets = failed.tablets; marks = left.1 i }) left.2
