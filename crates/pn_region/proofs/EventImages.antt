-- The images that a region has after events, and that no tablet took a stream past the marks.
use Rattle.std.proofs.Common.{◌≡◌, List, [], ◌∷◌, ◌++◌, map, refl, sym, ap, ◌∙◌, subst, Contains, Ok, arith}
use Rattle.std.proofs.lemmas.List.{append-nil, append_assoc}
use Rattle.pn_join.proofs.MarksFacts.{position_of-raised_marks}
use Rattle.pn_record.proofs.CellLists.{cells-same}
use Rattle.pn_record.proofs.CellMaps.{table_of-nil, same_cells_table}
use Rattle.pn_region.specs.Events.{RegionEvent, round, half_round, loss, adoption, relayout, advance, LeadsTo, AllLeadTo, AreHonestEvents, taken_by, all_taken, left_by, all_left, CoversTell, HoldsTaken, HoldTaken, LosesNothing, LoseNothing}
use Rattle.pn_region.proofs.Advanced.{advances}
use Rattle.pn_region.proofs.Common.{AllByRecursion, Positions, Image, SameImages, table_of, BrokerRecord, Bounds, IsLayout, Ends, TabletStateValue, empty_tablet, Serving, all_images, images_in, ranges, AreIn, HasBetween, RegionValue, AreTabletsOf, IsRegion, new_region, all_cells, AllServe, Reaches, up_to, DeliveryValue, tablet_after, all_stepped, join_in, IsFaithful, AreFaithful, HasImages, new_marks, IsTabletOf}
use Rattle.pn_region.proofs.Holding.{cover_rules, holds_all, all_hold, all_told, told_rules}
use Rattle.pn_region.proofs.EventRules.{none, events_go_on}
use Rattle.pn_region.proofs.EventSteps.{takes, event_is, events_are}
use Rattle.pn_region.proofs.Relaying.{relaid_between, relays}
use Rattle.pn_region.proofs.RoundSteps.{new_is, is_taken}
use Rattle.pn_region.proofs.TakenImages.{by_part, alike_in, cells_each, pieces_of, new_between, round_surely_takes, round_may_take, together, surely_together}
use Rattle.pn_region.specs.Regions.{NoneAhead}
use Rattle.pn_region.specs.Rounds.{after_joins}
use Rattle.pn_region.proofs.Faith.{new_faithful}
use Rattle.pn_region.proofs.FaithfulEvents.{serving_has_all, events_faithful}
use Rattle.pn_region.proofs.MarkLaws.{next_reaches, up_to_more}

-- The images that a region has after events.

none_told : (broker : BrokerRecord) (rs : List Ends) → CoversTell broker [] [] (map empty_tablet rs)
none_told broker [] = tt
none_told broker (r ∷ rs) = (record { all = λ image there lies. none image there; no_others = λ image there lies. none image there }, none_told broker rs)

pub new_tells : (broker : BrokerRecord) (bounds : Bounds) → CoversTell broker [] [] (new_region bounds).tablets
new_tells broker bounds = none_told broker (ranges bounds)

none_held : (broker : BrokerRecord) (rs : List Ends) → HoldTaken broker [] [] (map empty_tablet rs)
none_held broker [] = tt
none_held broker (r ∷ rs) =
    (record { images = []; cells = sym table_of-nil; all = λ image there lies. none image there; no_others = λ image there lies. none image there }, none_held broker rs)

pub new_holds : (broker : BrokerRecord) (bounds : Bounds) → HoldTaken broker [] [] (new_region bounds).tablets
new_holds broker bounds = none_held broker (ranges bounds)

-- after honest events each reach has come to what was taken
pub events_tell : (broker : BrokerRecord) (events : List RegionEvent) (old new : RegionValue) (taken left : List Image) → IsRegion old → AreHonestEvents broker events → AllLeadTo events old new → CoversTell broker taken left old.tablets
    → CoversTell broker (taken ++ all_taken broker events) (left ++ all_left events) new.tablets
events_tell broker events old new taken left is honest lead tell = events_go_on broker _ (cover_rules broker) events old new taken left is honest lead tell

-- and each tablet holds it
pub events_hold : (broker : BrokerRecord) (events : List RegionEvent) (old new : RegionValue) (taken left : List Image) → IsRegion old → AreHonestEvents broker events → AllLeadTo events old new → CoversTell broker taken left old.tablets
    → HoldTaken broker taken left old.tablets → HoldTaken broker (taken ++ all_taken broker events) (left ++ all_left events) new.tablets
events_hold broker events old new taken left is honest lead tell hold =
    all_hold broker (taken ++ all_taken broker events) (left ++ all_left events) new.tablets
    (events_go_on broker _ (told_rules broker) events old new taken left is honest lead (all_told broker taken left old.tablets tell hold))

sure_of : (taken left : List Image) → AreIn left taken → (image : Image) → Contains (taken ++ left) image → Contains taken image
sure_of taken left are image there = by_part taken left image (λ one. one) (are image) there

-- a tablet that serves then has just the images that were taken
one_has : (broker : BrokerRecord) (taken left : List Image) (t : TabletStateValue) → AreIn left taken → t.status ≡ Serving → HoldsTaken broker taken left t → t.cells ≡ table_of (images_in t.range taken)
one_has broker taken left t are serves holds =
    holds.cells
    ∙ alike_in t.range holds.images taken (λ image there lies. sure_of taken left are image (holds.no_others image there lies)) (holds_all broker taken left t holds serves)

all_have : (broker : BrokerRecord) (taken left : List Image) (marks : Positions) (rs : List Ends) (ts : List TabletStateValue) → AreIn left taken → AreTabletsOf marks rs ts
    → AllByRecursion (λ (t : TabletStateValue). t.status ≡ Serving) ts → HoldTaken broker taken left ts → cells_each ts ≡ pieces_of taken rs
all_have broker taken left marks [] [] are is serve hold = refl
all_have broker taken left marks [] (t ∷ ts) are is serve hold = absurd is
all_have broker taken left marks (r ∷ rs) [] are is serve hold = absurd is
all_have broker taken left marks (r ∷ rs) (t ∷ ts) are is serve hold =
    λ i. (one_has broker taken left t are serve.0 hold.0 ∙ ap (λ (range : Ends). table_of (images_in range taken)) is.0.range) i
    ∷ all_have broker taken left marks rs ts are is.1 serve.1 hold.1 i

-- the cells of all tablets are those of the images that events took
pub taken_together : (broker : BrokerRecord) (bounds : Bounds) (events : List RegionEvent) (region : RegionValue) → IsLayout bounds → AllLeadTo events (new_region bounds) region → AreHonestEvents broker events → AllServe region
    → AreIn (all_left events) (all_taken broker events) → all_cells region ≡ table_of (all_taken broker events)
taken_together broker bounds events region lawful lead honest serve are =
    let first = new_is bounds (new_region bounds).tablets [] lawful refl refl in
    let is = events_are events (new_region bounds) region first lead in
    together region (all_taken broker events) is.lawful
    (all_have broker (all_taken broker events) (all_left events) region.marks (ranges region.layout) region.tablets are is.tablets serve
    (events_hold broker events (new_region bounds) region [] [] first honest lead (new_tells broker bounds) (new_holds broker bounds)))

-- without losses and adoptions, events need not be honest
event_between : (broker : BrokerRecord) (event : RegionEvent) (old new : RegionValue) (sure maybe : List Image) → IsRegion old → LosesNothing event → LeadsTo event old new → HasBetween sure maybe old
    → HasBetween (sure ++ taken_by broker event) (maybe ++ left_by event) new
event_between broker (round deliveries) old new sure maybe is one leads has =
    let took = takes old deliveries new leads in
    subst (λ (images : List Image). HasBetween (sure ++ all_images deliveries) images new) (sym (append-nil maybe))
    (subst (HasBetween (sure ++ all_images deliveries) maybe) (sym took.is) (round_surely_takes old deliveries took.marks sure maybe is has))
event_between broker (half_round deliveries) old new sure maybe is one leads has =
    subst (λ (images : List Image). HasBetween images (maybe ++ all_images deliveries) new) (sym (append-nil sure)) (round_may_take old new deliveries sure maybe is has leads)
event_between broker (loss n) old new sure maybe is one leads has = absurd one
event_between broker (adoption copy) old new sure maybe is one leads has = absurd one
event_between broker (relayout bounds) old new sure maybe is one leads has =
    let laid = relays old new bounds leads.relaid in
    subst (λ (images : List Image). HasBetween (sure ++ []) images new) (sym (append-nil maybe))
    (subst (λ (images : List Image). HasBetween images maybe new) (sym (append-nil sure)) (subst (HasBetween sure maybe) (sym laid.is) (relaid_between old bounds sure maybe is has)))
event_between broker advance old new sure maybe is one leads has =
    subst (λ (images : List Image). HasBetween (sure ++ []) images new) (sym (append-nil maybe))
    (subst (λ (images : List Image). HasBetween images maybe new) (sym (append-nil sure)) (subst (HasBetween sure maybe) (sym (advances old new leads)) has))

rounds_between : (broker : BrokerRecord) (events : List RegionEvent) (old new : RegionValue) (sure maybe : List Image) → IsRegion old → LoseNothing events → AllLeadTo events old new → HasBetween sure maybe old
    → HasBetween (sure ++ all_taken broker events) (maybe ++ all_left events) new
rounds_between broker [] old new sure maybe is rounds lead has =
    subst (λ (images : List Image). HasBetween (sure ++ []) images new) (sym (append-nil maybe))
    (subst (λ (images : List Image). HasBetween images maybe new) (sym (append-nil sure)) (subst (HasBetween sure maybe) (sym lead) has))
rounds_between broker (event ∷ events) old new sure maybe is rounds lead has =
    subst (λ (images : List Image). HasBetween images (maybe ++ all_left (event ∷ events)) new) (append_assoc sure (taken_by broker event) (all_taken broker events))
    (subst (λ (images : List Image). HasBetween ((sure ++ taken_by broker event) ++ all_taken broker events) images new) (append_assoc maybe (left_by event) (all_left events))
    (rounds_between broker events lead.0 new (sure ++ taken_by broker event) (maybe ++ left_by event) (event_is event old lead.0 is lead.1) rounds.1 lead.2
    (event_between broker event old lead.0 sure maybe is rounds.0 lead.1 has)))

pub rounds_together : (broker : BrokerRecord) (bounds : Bounds) (events : List RegionEvent) (region : RegionValue) → IsLayout bounds → AllLeadTo events (new_region bounds) region → LoseNothing events
    → AreIn (all_left events) (all_taken broker events) → all_cells region ≡ table_of (all_taken broker events)
rounds_together broker bounds events region lawful lead rounds are =
    let first = new_is bounds (new_region bounds).tablets [] lawful refl refl in
    surely_together region (all_taken broker events) (all_left events) (events_are events (new_region bounds) region first lead).lawful
    (rounds_between broker events (new_region bounds) region [] [] first rounds lead (new_between bounds)) are

-- the same images make the same cells
pub alike : (one other : RegionValue) (images others : List Image) → all_cells one ≡ table_of images → all_cells other ≡ table_of others → SameImages images others → all_cells one ≡ all_cells other
alike one other images others is is_too same = is ∙ same_cells_table images others (cells-same images others same) ∙ sym is_too

-- Regions in which no tablet took a stream past the marks.

none_of : (rs : List Ends) → AllByRecursion (λ (t : TabletStateValue). Reaches [] t.reach) (map empty_tablet rs)
none_of [] = tt
none_of (r ∷ rs) = ((λ name. omega arith), none_of rs)

pub new_none : (bounds : Bounds) → NoneAhead (new_region bounds)
new_none bounds = none_of (ranges bounds)

module _ (old next : Positions) (images : List Image) (rise : Reaches next old) where
  one_taken : (r : Ends) (t : TabletStateValue) → IsTabletOf old r t → Reaches old t.reach → Reaches next (tablet_after t (join_in next images r)).reach
  one_taken r t is ahead =
      subst (λ (u : TabletStateValue). Reaches next u.reach) (sym (is_taken next images old r t is))
      (λ name. omega (arith, position_of-raised_marks t.reach next name, ahead name, rise name))

  all_reached : (rs : List Ends) (ts : List TabletStateValue) → AreTabletsOf old rs ts → AllByRecursion (λ (t : TabletStateValue). Reaches old t.reach) ts
      → AllByRecursion (λ (t : TabletStateValue). Reaches next t.reach) (all_stepped ts (map (join_in next images) rs))
  all_reached [] [] are ahead = tt
  all_reached [] (t ∷ ts) are ahead = absurd are
  all_reached (r ∷ rs) [] are ahead = absurd are
  all_reached (r ∷ rs) (t ∷ ts) are ahead = (one_taken r t are.0 ahead.0, all_reached rs ts are.1 ahead.1)

-- rounds keep it so
pub round_none : (region : RegionValue) (deliveries : List DeliveryValue) (marks : Positions) → IsRegion region → NoneAhead region → new_marks region.marks deliveries ≡ Ok marks → NoneAhead (after_joins region deliveries marks)
round_none region deliveries marks is ahead accepted =
    all_reached region.marks marks (all_images deliveries) (next_reaches region.marks marks deliveries accepted) (ranges region.layout) region.tablets is.tablets ahead

-- then tablets that are faithful and serve have the images up to the marks
module _ (broker : BrokerRecord) (marks : Positions) where
  one_agrees : (r : Ends) (t : TabletStateValue) → IsTabletOf marks r t → IsFaithful broker t → t.status ≡ Serving → Reaches marks t.reach → t.cells ≡ table_of (images_in r (up_to broker marks))
  one_agrees r t is faithful serves ahead =
      serving_has_all broker t faithful serves (λ name. omega (arith, ahead name, is.covered name))
      ∙ alike_in t.range (up_to broker t.cover) (up_to broker marks)
      (λ image there lies. up_to_more broker marks t.cover (λ name. omega (arith, is.reached name, ahead name)) image there)
      (λ image there lies. up_to_more broker t.cover marks is.covered image there)
      ∙ ap (λ (range : Ends). table_of (images_in range (up_to broker marks))) is.range

  all_agree : (rs : List Ends) (ts : List TabletStateValue) → AreTabletsOf marks rs ts → AreFaithful broker ts → AllByRecursion (λ (t : TabletStateValue). t.status ≡ Serving) ts
      → AllByRecursion (λ (t : TabletStateValue). Reaches marks t.reach) ts → cells_each ts ≡ pieces_of (up_to broker marks) rs
  all_agree [] [] are faithful serve ahead = refl
  all_agree [] (t ∷ ts) are faithful serve ahead = absurd are
  all_agree (r ∷ rs) [] are faithful serve ahead = absurd are
  all_agree (r ∷ rs) (t ∷ ts) are faithful serve ahead =
      λ i. one_agrees r t are.0 faithful.0 serve.0 ahead.0 i ∷ all_agree rs ts are.1 faithful.1 serve.1 ahead.1 i

module _ (broker : BrokerRecord) (bounds : Bounds) (events : List RegionEvent) (region : RegionValue) (lawful : IsLayout bounds) (lead : AllLeadTo events (new_region bounds) region)
    (honest : AreHonestEvents broker events) (serve : AllServe region) (ahead : NoneAhead region) where
  first : IsRegion (new_region bounds)
  first = new_is bounds (new_region bounds).tablets [] lawful refl refl

  is : IsRegion region
  is = events_are events (new_region bounds) region first lead

  pub marked_images : HasImages region (up_to broker region.marks)
  marked_images =
      all_agree broker region.marks (ranges region.layout) region.tablets is.tablets
      (events_faithful broker events (new_region bounds) region first (new_faithful broker bounds) honest lead) serve ahead

  pub marked_cells : all_cells region ≡ table_of (up_to broker region.marks)
  marked_cells = together region (up_to broker region.marks) is.lawful marked_images

-- regions with the same marks have the same records
pub marked_alike : (broker : BrokerRecord) (bounds others : Bounds) (events more : List RegionEvent) (one other : RegionValue)
    → IsLayout bounds → AllLeadTo events (new_region bounds) one → AreHonestEvents broker events → AllServe one → NoneAhead one
    → IsLayout others → AllLeadTo more (new_region others) other → AreHonestEvents broker more → AllServe other → NoneAhead other
    → Reaches one.marks other.marks → Reaches other.marks one.marks → all_cells one ≡ all_cells other
marked_alike broker bounds others events more one other lawful lead honest serve ahead lawful_too lead_too honest_too serve_too ahead_too reach reach_too =
    alike one other (up_to broker one.marks) (up_to broker other.marks)
    (marked_cells broker bounds events one lawful lead honest serve ahead)
    (marked_cells broker others more other lawful_too lead_too honest_too serve_too ahead_too)
    (λ image. (up_to_more broker other.marks one.marks reach_too image, up_to_more broker one.marks other.marks reach image))
