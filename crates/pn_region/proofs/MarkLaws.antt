-- What new marks have taken: after deliveries one after another, and where others are raised to them.
use Rattle.std.proofs.Common.{Contains, ◌≡◌, ℕ, zero, suc, ◌+◌, ◌<◌, ◌≤◌, max, pred, Bool, true, false, cond, nat_lt, is_eq, List, [], ◌∷◌, length, get_or, Some, None, unwrap_or, refl, sym, ap, ◌∙◌, subst, arith, ◌++◌, take, drop}
use Rattle.std.specs.Prelude.{fold}
use Rattle.std.proofs.lemmas.Bool.Decides.{nat_tests}
use Rattle.std.proofs.lemmas.Cmp.{nat_list_cmp_total, tied_itself}
use Rattle.std.proofs.lemmas.List.Elements.{filter-append}
use Rattle.std.proofs.lemmas.List.{take_more}
use Rattle.pn_join.proofs.MarksFacts.{position_of-raised_marks, is_sorted-raised_marks, raised_marks-commutes, raised_marks-associates, raised_marks-repeats}
use Rattle.pn_record.proofs.CellMaps.{tied_keys}
use Rattle.pn_tablet.specs.Steps.{Rise}
use Rattle.pn_stream.proofs.Published.{wider, is_up_to, published}
use Rattle.pn_region.proofs.Common.{Positions, Reaches, position_of, Image, BrokerRecord, up_to, Result, Ok, Err, eq_by_cmp, name_cmp, DeliveryValue, with_images, last_position, with_delivery, leaves_gap, marks_after, of_few_streams, new_marks, RoundFault, Gap, TooManyStreams, raised_marks, with_deliveries}
use Rattle.pn_region.specs.Laws.{HasPosition}
use Rattle.pn_region.specs.Rounds.{brings}

-- Marks that reach others have all images that those have.

-- marks that reach others have all images that those have
pub up_to_more : (broker : BrokerRecord) (marks others : Positions) → Reaches marks others → (image : Image) → Contains (up_to broker others) image → Contains (up_to broker marks) image
up_to_more broker marks others reach image there =
    let old = published broker others image there in
    is_up_to broker marks old.stream image (wider (position_of others old.stream) (position_of marks old.stream) (broker old.stream) image (reach old.stream) old.stands)

-- What new marks have taken.

-- the gap that it leaves
abbrev pub gap_of : Positions → DeliveryValue → RoundFault
gap_of m d = Gap d.stream (position_of m d.stream + 1) d.first

-- what is not refused goes on
pub accepted : (b : Bool) (fault : RoundFault) (rest : Result Positions RoundFault) (next : Positions) → cond b (Err fault) rest ≡ Ok next → (b ≡ false) × (rest ≡ Ok next)
accepted true fault rest next is = cc
accepted false fault rest next is = (refl, is)

-- deliveries one after another are refused for a gap alone
pub only_gaps : (fault : RoundFault) → ((d : DeliveryValue) (m : Positions) → gap_of m d ≡ fault → ⊥) → (ds : List DeliveryValue) (m : Positions) → marks_after m ds ≡ Err fault → ⊥
only_gaps fault other [] m is = cc
only_gaps fault other (d ∷ ds) m is =
    elim (leaves_gap m d) as (λ b. cond b (Err (gap_of m d)) (marks_after (with_delivery m d) ds) ≡ Err fault → ⊥) [
      | true ↦ λ gap. other d m cc
      | false ↦ λ rest. only_gaps fault other ds (with_delivery m d) rest
    ] is

-- marks that are of few streams are those after all deliveries
pub few : (right : Result Positions RoundFault) (next : Positions) → of_few_streams right ≡ Ok next → right ≡ Ok next
few (Ok marks) next is = (accepted (nat_lt 16 (length marks)) TooManyStreams (Ok marks) next is).1
few (Err fault) next is = is

further : (first : DeliveryValue) (ds : List DeliveryValue) (name : List ℕ) (p : ℕ) → HasPosition ds name p → HasPosition (first ∷ ds) name p
further first ds name p has = record {
  delivery = has.delivery;
  there = (suc has.there.0, omega (arith, has.there.1), has.there.2);
  stream = has.stream;
  from = has.from;
  before = has.before;
}

below_pred : (p n : ℕ) → 0 < p → p ≤ pred n → p < n
below_pred p zero some within = absurd (omega (arith, some, within))
below_pred p (suc n) some within = omega (arith, within)

-- a position that a stream's own delivery takes
own_position : (m : Positions) (d : DeliveryValue) (ds : List DeliveryValue) (name : List ℕ) (p : ℕ) → d.stream ≡ name → leaves_gap m d ≡ false → position_of m name < p → p ≤ last_position d → HasPosition (d ∷ ds) name p
own_position m d ds name p same joins below within =
    let wanted : position_of m d.stream ≡ position_of m name = ap (position_of m) same in
    record {
      delivery = d;
      there = (0, omega arith, refl);
      stream = same;
      from = grind (arith, nat_tests);
      before = below_pred p (d.first + length d.images) (omega (arith, below)) within;
    }

-- a position that one delivery takes
one_position : (m : Positions) (d : DeliveryValue) (ds : List DeliveryValue) (name : List ℕ) (p : ℕ) → leaves_gap m d ≡ false → position_of m name < p → p ≤ position_of (with_delivery m d) name → HasPosition (d ∷ ds) name p
one_position m d ds name p joins below within =
    elim (eq_by_cmp name_cmp name d.stream) as (λ b. eq_by_cmp name_cmp name d.stream ≡ b → position_of (with_delivery m d) name ≡ max (position_of m name) (unwrap_or (cond b (Some (last_position d)) None) 0) → HasPosition (d ∷ ds) name p) [
      | true ↦ λ tied most. own_position m d ds name p (sym (tied_keys name d.stream tied)) joins below (omega (arith, below, within, most))
      | false ↦ λ apart most. absurd (omega (arith, below, within, most))
    ] refl (position_of-raised_marks m ((d.stream, last_position d) ∷ []) name)

-- each position that marks have gone past is in a delivery
pub none_skipped : (ds : List DeliveryValue) (m next : Positions) (name : List ℕ) (p : ℕ) → marks_after m (with_images ds) ≡ Ok next → position_of m name < p → p ≤ position_of next name → HasPosition ds name p
none_skipped [] m next name p is below within =
    let same : m ≡ next = cc in
    absurd (omega (arith, below, within, ap (λ (marks : Positions). position_of marks name) same))
none_skipped (d ∷ ds) m next name p is below within =
    elim (brings d) as (λ b. marks_after m (cond b (d ∷ with_images ds) (with_images ds)) ≡ Ok next → HasPosition (d ∷ ds) name p) [
      | true ↦ λ all.
          let passed = accepted (leaves_gap m d) (gap_of m d) (marks_after (with_delivery m d) (with_images ds)) next all in
          elim (nat_lt (position_of (with_delivery m d) name) p) as (λ b. nat_lt (position_of (with_delivery m d) name) p ≡ b → HasPosition (d ∷ ds) name p) [
            | true ↦ λ more. further d ds name p (none_skipped ds (with_delivery m d) next name p passed.1 (grind (arith, nat_tests)) within)
            | false ↦ λ enough. one_position m d ds name p passed.0 below (grind (arith, nat_tests))
          ] refl
      | false ↦ λ rest. further d ds name p (none_skipped ds m next name p rest below within)
    ] is

pub not_skipped : (marks next : Positions) (deliveries : List DeliveryValue) (name : List ℕ) (p : ℕ) → new_marks marks deliveries ≡ Ok next → position_of marks name < p → p ≤ position_of next name → HasPosition deliveries name p
not_skipped marks next deliveries name p is below within = none_skipped deliveries marks next name p (few (marks_after marks (with_images deliveries)) next is) below within

marked_reach : (m : Positions) (d : DeliveryValue) → Reaches (with_delivery m d) m
marked_reach m d name = omega (arith, position_of-raised_marks m ((d.stream, last_position d) ∷ []) name)

marked_last : (m : Positions) (d : DeliveryValue) → last_position d ≤ position_of (with_delivery m d) d.stream
marked_last m d =
    let own : unwrap_or (cond (eq_by_cmp name_cmp d.stream d.stream) (Some (last_position d)) None) 0 ≡ last_position d = ap (λ r. unwrap_or (cond (is_eq r) (Some (last_position d)) None) 0) (tied_itself nat_list_cmp_total d.stream) in
    omega (arith, own, position_of-raised_marks m ((d.stream, last_position d) ∷ []) d.stream)

-- marks never fall
pub never_fall : (ds : List DeliveryValue) (m next : Positions) → marks_after m (with_images ds) ≡ Ok next → Reaches next m
never_fall [] m next is name =
    let same : m ≡ next = cc in
    omega (arith, ap (λ (marks : Positions). position_of marks name) same)
never_fall (d ∷ ds) m next is name =
    elim (brings d) as (λ b. marks_after m (cond b (d ∷ with_images ds) (with_images ds)) ≡ Ok next → position_of m name ≤ position_of next name) [
      | true ↦ λ all. omega (arith, marked_reach m d name, never_fall ds (with_delivery m d) next (accepted (leaves_gap m d) (gap_of m d) (marks_after (with_delivery m d) (with_images ds)) next all).1 name)
      | false ↦ λ rest. never_fall ds m next rest name
    ] is

-- what has images brings some
pub some_brings : (d : DeliveryValue) → 0 < length d.images → brings d ≡ true
some_brings d some = grind (arith, nat_tests)

-- marks reach the last position of each delivery that has images
pub last_taken : (ds : List DeliveryValue) (m next : Positions) (k : ℕ) (d : DeliveryValue) → k < length ds → get_or ds k d ≡ d → 0 < length d.images → marks_after m (with_images ds) ≡ Ok next → last_position d ≤ position_of next d.stream
last_taken [] m next k d within at some is = absurd (omega (arith, within))
last_taken (first ∷ ds) m next zero d within at some is =
    let brought : brings first ≡ true = ap brings at ∙ some_brings d some in
    let all : marks_after m (first ∷ with_images ds) ≡ Ok next = ap (λ (b : Bool). marks_after m (cond b (first ∷ with_images ds) (with_images ds))) (sym brought) ∙ is in
    let rest = (accepted (leaves_gap m first) (gap_of m first) (marks_after (with_delivery m first) (with_images ds)) next all).1 in
    subst (λ (one : DeliveryValue). last_position one ≤ position_of next one.stream) at
    (omega (arith, marked_last m first, never_fall ds (with_delivery m first) next rest first.stream))
last_taken (first ∷ ds) m next (suc k) d within at some is =
    elim (brings first) as (λ b. marks_after m (cond b (first ∷ with_images ds) (with_images ds)) ≡ Ok next → last_position d ≤ position_of next d.stream) [
      | true ↦ λ all. last_taken ds (with_delivery m first) next k d (omega (arith, within)) at some (accepted (leaves_gap m first) (gap_of m first) (marks_after (with_delivery m first) (with_images ds)) next all).1
      | false ↦ λ rest. last_taken ds m next k d (omega (arith, within)) at some rest
    ] is

pub next_reaches : (marks next : Positions) (deliveries : List DeliveryValue) → new_marks marks deliveries ≡ Ok next → Reaches next marks
next_reaches marks next deliveries is = never_fall deliveries marks next (few (marks_after marks (with_images deliveries)) next is)

pub next_has_last : (marks next : Positions) (deliveries : List DeliveryValue) (delivery : DeliveryValue) → new_marks marks deliveries ≡ Ok next → Contains deliveries delivery → 0 < length delivery.images
    → last_position delivery ≤ position_of next delivery.stream
next_has_last marks next deliveries delivery is there some =
    last_taken deliveries marks next there.0 delivery there.1 there.2 some (few (marks_after marks (with_images deliveries)) next is)

-- Marks after deliveries, one after another.

step_on : (b : Bool) (fault : RoundFault) (rest more after : Result Positions RoundFault) (n : Positions) → (rest ≡ Ok n → more ≡ after) → cond b (Err fault) rest ≡ Ok n → cond b (Err fault) more ≡ after
step_on true fault rest more after n next is = cc
step_on false fault rest more after n next is = next is

-- further deliveries go on from the marks of those before
pub marks_on : (m n : Positions) (ds more : List DeliveryValue) → marks_after m ds ≡ Ok n → marks_after m (ds ++ more) ≡ marks_after n more
marks_on m n [] more is = cc
marks_on m n (d ∷ ds) more is =
    step_on (leaves_gap m d) (Gap d.stream (position_of m d.stream + 1) d.first) (marks_after (with_delivery m d) ds) (marks_after (with_delivery m d) (ds ++ more)) (marks_after n more) n
    (marks_on (with_delivery m d) n ds more) is

gap_on : (b : Bool) (gap fault : RoundFault) (rest more : Result Positions RoundFault) → (rest ≡ Err fault → more ≡ Err fault) → cond b (Err gap) rest ≡ Err fault → cond b (Err gap) more ≡ Err fault
gap_on true gap fault rest more next is = is
gap_on false gap fault rest more next is = next is

-- the first gap stays the first
pub gap_stays : (m : Positions) (ds more : List DeliveryValue) (fault : RoundFault) → marks_after m ds ≡ Err fault → marks_after m (ds ++ more) ≡ Err fault
gap_stays m [] more fault is = cc
gap_stays m (d ∷ ds) more fault is =
    gap_on (leaves_gap m d) (Gap d.stream (position_of m d.stream + 1) d.first) fault (marks_after (with_delivery m d) ds) (marks_after (with_delivery m d) (ds ++ more))
    (gap_stays (with_delivery m d) ds more fault) is

-- the marks after one more delivery
pub marks_more : (m n after : Positions) (ds : List DeliveryValue) (i : ℕ) (d : DeliveryValue) → i < length ds → marks_after m (with_images (take i ds)) ≡ Ok n → marks_after n (with_images (get_or ds i d ∷ [])) ≡ Ok after
    → marks_after m (with_images (take (i + 1) ds)) ≡ Ok after
marks_more m n after ds i d within so_far next =
    ap (λ (xs : List DeliveryValue). marks_after m (with_images xs)) (take_more ds i d within)
    ∙ ap (marks_after m) (filter-append brings (take i ds) (get_or ds i d ∷ []))
    ∙ marks_on m n (with_images (take i ds)) (with_images (get_or ds i d ∷ [])) so_far
    ∙ next

split_at : (ds : List DeliveryValue) (i : ℕ) → take i ds ++ drop i ds ≡ ds
split_at ds zero = refl
split_at [] (suc i) = refl
split_at (d ∷ ds) (suc i) = ap (λ rest. d ∷ rest) (split_at ds i)

-- a gap that is met is that of all deliveries
pub gap_met : (m n : Positions) (ds : List DeliveryValue) (i : ℕ) (d : DeliveryValue) (fault : RoundFault) → i < length ds → marks_after m (with_images (take i ds)) ≡ Ok n → marks_after n (with_images (get_or ds i d ∷ [])) ≡ Err fault
    → new_marks m ds ≡ Err fault
gap_met m n ds i d fault within so_far next =
    ap of_few_streams
    (ap (λ (xs : List DeliveryValue). marks_after m (with_images xs)) (sym (split_at ds (i + 1)))
    ∙ ap (marks_after m) (filter-append brings (take (i + 1) ds) (drop (i + 1) ds))
    ∙ gap_stays m (with_images (take (i + 1) ds)) (with_images (drop (i + 1) ds)) fault
    (ap (λ (xs : List DeliveryValue). marks_after m (with_images xs)) (take_more ds i d within)
    ∙ ap (marks_after m) (filter-append brings (take i ds) (get_or ds i d ∷ []))
    ∙ marks_on m n (with_images (take i ds)) (with_images (get_or ds i d ∷ [])) so_far
    ∙ next))

-- Marks that others are raised to, and marks after deliveries.

-- the others have each position of the marks, or a greater one
abbrev pub IsBelow : Positions → Positions → Type 0
IsBelow marks others = raised_marks marks others ≡ others

below_raised : (a x : Positions) → Rise a → IsBelow a (raised_marks a x)
below_raised a x rise = sym (raised_marks-associates a a x rise) ∙ ap (λ m. raised_marks m x) (raised_marks-repeats a rise)

pub below_then : (a b c : Positions) → Rise a → IsBelow a b → IsBelow b c → IsBelow a c
below_then a b c rise first second = ap (raised_marks a) (sym second) ∙ sym (raised_marks-associates a b c rise) ∙ ap (λ m. raised_marks m c) first ∙ second

-- it stays so where both are raised
below_both : (a b x : Positions) → Rise a → Rise b → Rise x → IsBelow a b → IsBelow (raised_marks a x) (raised_marks b x)
below_both a b x rise rise_too rise_x below =
    let own : raised_marks x (raised_marks b x) ≡ raised_marks b x =
    raised_marks-commutes x (raised_marks b x) rise_x (is_sorted-raised_marks b x rise_too) ∙ raised_marks-associates b x x rise_too ∙ ap (raised_marks b) (raised_marks-repeats x rise_x) in
    raised_marks-associates a x (raised_marks b x) rise ∙ ap (raised_marks a) own ∙ sym (raised_marks-associates a b x rise) ∙ ap (λ m. raised_marks m x) below

pub marked_rise : (ds : List DeliveryValue) (m : Positions) → Rise m → Rise (fold with_delivery m ds)
marked_rise [] m rise = rise
marked_rise (d ∷ ds) m rise = marked_rise ds (with_delivery m d) (is_sorted-raised_marks m ((d.stream, last_position d) ∷ []) rise)

pub marked_above : (ds : List DeliveryValue) (m : Positions) → Rise m → IsBelow m (fold with_delivery m ds)
marked_above [] m rise = raised_marks-repeats m rise
marked_above (d ∷ ds) m rise =
    let more = (d.stream, last_position d) ∷ [] in
    below_then m (with_delivery m d) (fold with_delivery (with_delivery m d) ds) rise (below_raised m more rise) (marked_above ds (with_delivery m d) (is_sorted-raised_marks m more rise))

pub marked_both : (ds : List DeliveryValue) (a b : Positions) → Rise a → Rise b → IsBelow a b → IsBelow (fold with_delivery a ds) (fold with_delivery b ds)
marked_both [] a b rise rise_too below = below
marked_both (d ∷ ds) a b rise rise_too below =
    let more = (d.stream, last_position d) ∷ [] in
    marked_both ds (with_delivery a d) (with_delivery b d) (is_sorted-raised_marks a more rise) (is_sorted-raised_marks b more rise_too) (below_both a b more rise rise_too refl below)

marks_are : (ds : List DeliveryValue) (m next : Positions) → marks_after m ds ≡ Ok next → next ≡ fold with_delivery m ds
marks_are [] m next is = cc
marks_are (d ∷ ds) m next is = marks_are ds (with_delivery m d) next (accepted (leaves_gap m d) (gap_of m d) (marks_after (with_delivery m d) ds) next is).1

-- new marks are those after all deliveries
pub new_are : (marks next : Positions) (deliveries : List DeliveryValue) → new_marks marks deliveries ≡ Ok next → next ≡ with_deliveries marks deliveries
new_are marks next deliveries is = marks_are (with_images deliveries) marks next (few (marks_after marks (with_images deliveries)) next is)

module _ (marks next : Positions) (deliveries : List DeliveryValue) (is : new_marks marks deliveries ≡ Ok next) (rise : Rise marks) where
  pub new_rise : Rise next
  new_rise = subst Rise (sym (new_are marks next deliveries is)) (marked_rise (with_images deliveries) marks rise)

  pub new_above : IsBelow marks next
  new_above = subst (IsBelow marks) (sym (new_are marks next deliveries is)) (marked_above (with_images deliveries) marks rise)

-- marks that are above others are so after the same deliveries
pub new_both : (a b next later : Positions) (deliveries : List DeliveryValue) → new_marks a deliveries ≡ Ok next → new_marks b deliveries ≡ Ok later → Rise a → Rise b → IsBelow a b → IsBelow next later
new_both a b next later deliveries is is_too rise rise_too below =
    let first = new_are a next deliveries is in
    let second = new_are b later deliveries is_too in
    (λ i. raised_marks (first i) (second i)) ∙ marked_both (with_images deliveries) a b rise rise_too below ∙ sym second
