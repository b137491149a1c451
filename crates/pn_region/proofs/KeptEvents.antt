-- Over honest events the tablet of a key keeps its record, in a region whose tablets serve.
use Rattle.std.proofs.Common.{◌≡◌, ℕ, zero, suc, true, List, [], ◌∷◌, map, slice_get, Option, Some, refl, sym, ap, ◌∙◌, subst, arith, ◌⊎◌, inl, inr, false, None, IsTrue}
use Rattle.std.specs.Prelude.{IsSomeAnd}
use Rattle.std.specs.Ordering.{is_lt, is_gt}
use Rattle.std.specs.declared.cmp.Ordering.{Ordering}
use Rattle.std.specs.declared.cmp.Ordering.TheVariants.{Less, Equal, Greater}
use Rattle.pn_record.proofs.CellLists.{both}
use Rattle.pn_record.specs.Cells.{NotOlder}
use Rattle.pn_record.specs.Sets.{version_cmp}
use Rattle.pn_record.proofs.Differing.{joined_not_older}
use Rattle.pn_tablet.proofs.LayoutFacts.{key_in_tablet, tablet_of_within}
use Rattle.pn_region.specs.Events.{RegionEvent, round, half_round, loss, adoption, relayout, advance, LeadsTo, AllLeadTo, IsHonestEvent, AreHonestEvents, IsHonestCopy, KeepsLayout}
use Rattle.pn_region.specs.Reads.{HoldsStill, ServesAt}
use Rattle.pn_region.proofs.Advanced.{advances}
use Rattle.pn_region.proofs.Common.{find, Positions, Image, bytes_cmp, CellValue, BrokerRecord, TabletCopyValue, tablet_of, tablet_ends, Ends, in_range, tablet_after, TabletStateValue, TabletOp, Join, Lose, Adopt, Serving, Recovering, AreOldOrStepped, all_images, join_in, ranges, IsFaithful, AreFaithful, tablets_after_op, RegionValue, AreTabletsOf, IsRegion, Stamp, all_cells}
use Rattle.pn_region.proofs.Events.{by_layout, at_key, same_number, one_found, relaid_at, IsRelaidAt, found_at_key, spelled_at, event_held}
use Rattle.pn_region.proofs.EventSteps.{adopts, takes, event_is, Each, each_at, events_are}
use Rattle.pn_region.proofs.RoundEnds.{half_so, taken_half}
use Rattle.pn_region.proofs.KeptRecords.{NeedsAll, Has, Keeps, Brings, one_keeps, kept_itself, kept_held, copy_brings}
use Rattle.pn_region.proofs.Standing.{range_at, has_its_cell}
use Rattle.pn_region.proofs.TakenImages.{one_of}
use Rattle.pn_region.specs.Rounds as rounds

-- Over honest events the tablet of a key keeps its record.

-- ---- what an honest event does to each tablet

module _ (broker : BrokerRecord) where
  -- the operation brings an honest copy, or none
  abbrev pub IsHonestOp : TabletOp → Type 0
  IsHonestOp (Adopt copy) = IsHonestCopy broker copy
  IsHonestOp _ = Unit {0}

  -- the tablet is as it was, or took such an operation
  abbrev pub Bears : TabletStateValue → TabletStateValue → Type 0
  Bears t u = (u ≡ t) ⊎ ((op : TabletOp) × IsHonestOp op × (u ≡ tablet_after t op))

  bear_itself : (ts : List TabletStateValue) → Each Bears ts ts
  bear_itself [] = tt
  bear_itself (t ∷ ts) = (inl refl, bear_itself ts)

  module _ (marks : Positions) (images : List Image) where
    half_bears : (r : Ends) (t u : TabletStateValue) → (u ≡ t) ⊎ (u ≡ tablet_after t (join_in marks images r)) → Bears t u
    half_bears r t u (inl same) = inl same
    half_bears r t u (inr took) = inr (join_in marks images r, tt, took)

    halves_bear : (rs : List Ends) (ts us : List TabletStateValue) → AreOldOrStepped ts (map (join_in marks images) rs) us → Each Bears ts us
    halves_bear [] [] [] half = tt
    halves_bear [] [] (u ∷ us) half = absurd half
    halves_bear [] (t ∷ ts) us half = absurd half
    halves_bear (r ∷ rs) [] us half = absurd half
    halves_bear (r ∷ rs) (t ∷ ts) [] half = absurd half
    halves_bear (r ∷ rs) (t ∷ ts) (u ∷ us) half = (half_bears r t u half.0, halves_bear rs ts us half.1)

  one_bears : (n : ℕ) (op : TabletOp) (ts : List TabletStateValue) → IsHonestOp op → Each Bears ts (tablets_after_op n op ts)
  one_bears n op [] honest = tt
  one_bears zero op (t ∷ ts) honest = (inr (op, honest, refl), bear_itself ts)
  one_bears (suc n) op (t ∷ ts) honest = (inl refl, one_bears n op ts honest)

  each_bears : (event : RegionEvent) (old new : RegionValue) → IsRegion old → KeepsLayout event → IsHonestEvent broker event → LeadsTo event old new → Each Bears old.tablets new.tablets
  each_bears (round deliveries) old new is keeps honest leads =
      let took = takes old deliveries new leads in
      subst (λ (r : RegionValue). Each Bears old.tablets r.tablets) (sym took.is)
      (halves_bear took.marks (all_images deliveries) (ranges old.layout) old.tablets (rounds.after_joins old deliveries took.marks).tablets (taken_half old deliveries is took.marks))
  each_bears (half_round deliveries) old new is keeps honest leads =
      half_so old new deliveries (Each Bears old.tablets) (bear_itself old.tablets) (λ marks half. halves_bear marks (all_images deliveries) (ranges old.layout) old.tablets new.tablets half) leads
  each_bears (loss n) old new is keeps honest leads = subst (λ (r : RegionValue). Each Bears old.tablets r.tablets) (sym leads) (one_bears n Lose old.tablets tt)
  each_bears (adoption copy) old new is keeps honest leads =
      subst (λ (r : RegionValue). Each Bears old.tablets r.tablets) (sym (adopts old copy leads.tablet new leads.adopted).is) (one_bears leads.tablet (Adopt copy) old.tablets honest)
  each_bears (relayout bounds) old new is keeps honest leads = absurd keeps
  each_bears advance old new is keeps honest leads = subst (λ (r : RegionValue). Each Bears old.tablets r.tablets) (sym (advances old new leads)) (bear_itself old.tablets)

-- ---- the record of a key

range_there : (marks : Positions) (rs : List Ends) (ts : List TabletStateValue) (n : ℕ) (r : Ends) (t : TabletStateValue) → AreTabletsOf marks rs ts → slice_get rs n ≡ Some r → slice_get ts n ≡ Some t → t.range ≡ r
range_there marks [] [] n r t are at there = cc
range_there marks [] (u ∷ ts) n r t are at there = absurd are
range_there marks (q ∷ rs) [] n r t are at there = absurd are
range_there marks (q ∷ rs) (u ∷ ts) zero r t are at there =
    let same : q ≡ r = cc in
    let same_tablet : u ≡ t = cc in
    ap (λ (tablet : TabletStateValue). tablet.range) (sym same_tablet) ∙ are.0.range ∙ same
range_there marks (q ∷ rs) (u ∷ ts) (suc n) r t are at there = range_there marks rs ts n r t are.1 at there

-- the key lies in the range of its tablet
lies_at : (region : RegionValue) (key : List ℕ) (t : TabletStateValue) → IsRegion region → at_key region key ≡ Some t → in_range t.range key ≡ true
lies_at region key t is there =
    let n = tablet_of region.layout key in
    ap (λ (range : Ends). in_range range key) (range_there region.marks (ranges region.layout) region.tablets n (tablet_ends region.layout n) t is.tablets (range_at region.layout n (tablet_of_within region.layout key)) there)
    ∙ key_in_tablet region.layout key is.lawful.rising

module _ (broker : BrokerRecord) (key : List ℕ) (was : Option CellValue) (from : Positions) (brings : (copy : TabletCopyValue) → IsHonestCopy broker copy → Brings key was from (Adopt copy)) where
  op_brings : (op : TabletOp) → IsHonestOp broker op → Brings key was from op
  op_brings (Join cells marks) honest = tt
  op_brings Lose honest = tt
  op_brings (Adopt copy) honest = brings copy honest

  bears_keeps : (old : RegionValue) (t u : TabletStateValue) → IsRegion old → at_key old key ≡ Some t → Bears broker t u → Keeps key was from t → Keeps key was from u
  bears_keeps old t u is there (inl same) keeps = subst (Keeps key was from) (sym same) keeps
  bears_keeps old t u is there (inr took) keeps =
      subst (Keeps key was from) (sym took.2)
      (one_keeps key was from t took.0 (lies_at old key t is there) (spelled_at old.marks (ranges old.layout) old.tablets (tablet_of old.layout key) t is.tablets there) (op_brings took.0 took.1) keeps)

  relaid_has : (t u : TabletStateValue) → IsRelaidAt key t u → Has key was t.cells ⊎ NeedsAll from t.status → Has key was u.cells ⊎ NeedsAll from u.status
  relaid_has t u laid (inl has) = inl (subst (λ (found : Option CellValue). both was found ≡ found) (sym laid.cell) has)
  relaid_has t u laid (inr needs) = let both_ways : Serving ≡ Recovering needs.need = sym laid.served ∙ needs.is in cc

  relaid_keeps : (t u : TabletStateValue) → IsRelaidAt key t u → Keeps key was from t → Keeps key was from u
  relaid_keeps t u laid keeps = record { reach = λ name. omega (arith, laid.reach name, keeps.reach name); has = relaid_has t u laid keeps.has }

  event_keeps : (event : RegionEvent) (old new : RegionValue) (t u : TabletStateValue) → IsRegion old → IsHonestEvent broker event → LeadsTo event old new → at_key old key ≡ Some t → at_key new key ≡ Some u → Keeps key was from t → Keeps key was from u
  event_keeps event old new t u =
      by_layout (λ event. IsRegion old → IsHonestEvent broker event → LeadsTo event old new → at_key old key ≡ Some t → at_key new key ≡ Some u → Keeps key was from t → Keeps key was from u)
      (λ event same is honest leads there there_too.
      bears_keeps old t u is there
      (each_at (Bears broker) old.tablets new.tablets (tablet_of old.layout key) t u (each_bears broker event old new is same honest leads) there (same_number event old new key u same leads there_too)))
      (λ bounds is honest leads there there_too. relaid_keeps t u (relaid_at old new bounds key t u is leads there there_too))
      event

  events_keep : (events : List RegionEvent) (old new : RegionValue) (t u : TabletStateValue) → IsRegion old → AreHonestEvents broker events → AllLeadTo events old new → at_key old key ≡ Some t → at_key new key ≡ Some u → Keeps key was from t → Keeps key was from u
  events_keep [] old new t u is honest lead there there_too keeps =
      subst (Keeps key was from) (one_found t u (at_key old key) there (ap (λ (r : RegionValue). at_key r key) (sym lead) ∙ there_too)) keeps
  events_keep (event ∷ events) old new t u is honest lead there there_too keeps =
      let next = event_is event old lead.0 is lead.1 in
      let mid = found_at_key lead.0 key next in
      events_keep events lead.0 new mid.0 u next honest.1 lead.2 mid.1 there_too (event_keeps event old lead.0 t mid.0 is honest.0 lead.1 there mid.1 keeps)

-- a faithful tablet's record is still held where the key's tablet serves after honest events, whatever was between
pub events_held : (broker : BrokerRecord) (events : List RegionEvent) (old new : RegionValue) (key : List ℕ) (t u : TabletStateValue) → IsRegion old → AreFaithful broker old.tablets → AreHonestEvents broker events → AllLeadTo events old new
    → at_key old key ≡ Some t → at_key new key ≡ Some u → u.status ≡ Serving → HoldsStill (find bytes_cmp key t.cells) (find bytes_cmp key u.cells)
events_held broker events old new key t u is faithful honest lead there there_too serves =
    let was = find bytes_cmp key t.cells in
    let own = one_of (IsFaithful broker) old.tablets (tablet_of old.layout key) t faithful there in
    kept_held key was t.reach u serves
    (events_keep broker key was t.reach (λ copy honest_too. copy_brings broker key t copy own honest_too) events old new t u is honest lead there there_too (kept_itself key t))

-- Records of a region whose tablets serve.

below_not_above : (order : Ordering) → IsTrue (is_lt order) → is_gt order ≡ false
below_not_above Less below = refl
below_not_above Equal below = refl
below_not_above Greater below = cc

-- a record that is still held is not older
pub not_older : (was now : Option CellValue) → HoldsStill was now → NotOlder was now
not_older None now held = tt
not_older (Some was) None held = absurd held
not_older (Some was) (Some now) (inl below) = below_not_above (version_cmp was.0 now.0) below
not_older (Some was) (Some now) (inr same) = subst (λ (version : Stamp). is_gt (version_cmp was.0 version) ≡ false) (sym same.0) (joined_not_older (Some was) None)

record Served (found : Option TabletStateValue) : Type 0 where
  pub tablet : TabletStateValue
  pub there : found ≡ Some tablet
  pub serves : tablet.status ≡ Serving

served : (found : Option TabletStateValue) → IsSomeAnd found (λ tablet. tablet.status ≡ Serving) → Served found
served None serves = absurd serves
served (Some tablet) serves = record { tablet = tablet; there = refl; serves = serves }

held_by : (old new : RegionValue) (t u : TabletStateValue) (key : List ℕ) → IsRegion old → IsRegion new → at_key old key ≡ Some t → at_key new key ≡ Some u
    → HoldsStill (find bytes_cmp key t.cells) (find bytes_cmp key u.cells) → HoldsStill (find bytes_cmp key (all_cells old)) (find bytes_cmp key (all_cells new))
held_by old new t u key is is_too there there_too held =
    subst (λ (o : Option CellValue). HoldsStill o (find bytes_cmp key (all_cells new))) (has_its_cell old key t is there)
    (subst (HoldsStill (find bytes_cmp key t.cells)) (has_its_cell new key u is_too there_too) held)

-- a record whose tablet serves after an event is still held
pub event_record : (event : RegionEvent) (old new : RegionValue) (key : List ℕ) → IsRegion old → LeadsTo event old new → ServesAt old key → ServesAt new key
    → HoldsStill (find bytes_cmp key (all_cells old)) (find bytes_cmp key (all_cells new))
event_record event old new key is leads serves serves_too =
    let before = served (at_key old key) serves in
    let after = served (at_key new key) serves_too in
    held_by old new before.tablet after.tablet key is (event_is event old new is leads) before.there after.there
    (event_held event old new key before.tablet after.tablet is leads before.there after.there after.serves)

pub events_record : (broker : BrokerRecord) (events : List RegionEvent) (old new : RegionValue) (key : List ℕ) → IsRegion old → AreFaithful broker old.tablets → AreHonestEvents broker events → AllLeadTo events old new
    → ServesAt old key → ServesAt new key → HoldsStill (find bytes_cmp key (all_cells old)) (find bytes_cmp key (all_cells new))
events_record broker events old new key is faithful honest lead serves serves_too =
    let before = served (at_key old key) serves in
    let after = served (at_key new key) serves_too in
    held_by old new before.tablet after.tablet key is (events_are events old new is lead) before.there after.there
    (events_held broker events old new key before.tablet after.tablet is faithful honest lead before.there after.there after.serves)
