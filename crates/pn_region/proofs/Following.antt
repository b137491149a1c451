-- Marks that follow one delivery more, and how many streams they have.
use Rattle.std.proofs.Common.{◌≡◌, ℕ, ◌+◌, ◌-◌, ◌<◌, ◌≤◌, ◌^◌, min, max, Bool, true, false, T, cond, not, eqb, nat_lt, List, [], ◌∷◌, length, map, take, get_or, Some, None, unwrap_or, is_some, fold, refl, sym, ap, ◌∙◌, subst, arith, ◌||◌, Option, IsTrue, is_eq}
use Rattle.std.specs.Int.{from_bool}
use Rattle.std.specs.Str.{bytes_eq}
use Rattle.std.specs.FinMap.Entries.{length-put, is_some-find}
use Rattle.std.proofs.lemmas.Bool.{and_parts, and_from, eqb-true, false_from_ne_true}
use Rattle.std.proofs.lemmas.Bool.Decides.{nat_tests}
use Rattle.std.proofs.lemmas.Cmp.{nat_list_cmp_total, eq_by_cmp_equiv}
use Rattle.std.proofs.lemmas.List.{get_or-map, length-map, take-map, take_more}
use Rattle.std.proofs.lemmas.List.Elements.{filter-append}
use Rattle.std.proofs.lemmas.List.Sums.{fold-append}
use Rattle.std.specs.List.{IsDistinct, list_any}
use Rattle.std.proofs.lemmas.List.Folds.{list_any-append}
use Rattle.std.proofs.lemmas.Map.Keys.{IsDistinct-cons}
use Rattle.std.proofs.lemmas.Map.Made.{length-from_keys}
use Rattle.pn_join.specs.Marks.{is_position}
use Rattle.pn_join.proofs.MarksFacts.{position_of-raised_marks, is_sorted-raised_marks, are_positions-raised_marks, find-raised_marks}
use Rattle.pn_join.specs.Tables.{optional_joined}
use Rattle.pn_join.proofs.Rising.{Below, Rising, Rising-from_sorted}
use Rattle.pn_record.proofs.CellMaps.{same_key}
use Rattle.pn_tablet.proofs.LayoutFacts.{is_so, is_not}
use Rattle.pn_tablet.specs.Steps.{Refuses}
use Rattle.pn_stream.specs.Brokers.{are_positions as fit}
use Rattle.pn_region.specs.Rounds.{brings, last_of, last_of_stream, is_memory}
use Rattle.pn_region.proofs.Common.{Ok, Err, eq_by_cmp, find, is_sorted, Positions, name_cmp, position_of, are_positions, DeliveryValue, with_images, last_position, with_delivery, with_deliveries, leaves_gap, marks_after, of_few_streams, new_marks, TooManyStreams, AllByRecursion, RoundFault, Gap, Memory}
use Rattle.pn_region.proofs.MarkLaws.{gap_of, only_gaps, accepted}
use Rattle.pn_region.specs.Laws.{named, stream_count}

-- Marks that follow one delivery more.

-- the marks after one more delivery
pub marked_more : (m : Positions) (ds : List DeliveryValue) (i : ℕ) (d : DeliveryValue) → i < length ds → with_deliveries m (take (i + 1) ds) ≡ with_deliveries (with_deliveries m (take i ds)) (get_or ds i d ∷ [])
marked_more m ds i d within =
    ap (with_deliveries m) (take_more ds i d within)
    ∙ ap (fold with_delivery m) (filter-append brings (take i ds) (get_or ds i d ∷ []))
    ∙ fold-append with_delivery m (with_images (take i ds)) (with_images (get_or ds i d ∷ []))

-- the marks after one more batch
pub batch_more : {B : Type 0} (f : B → DeliveryValue) (m : Positions) (bs : List B) (i : ℕ) (b : B) → i < length bs → b ≡ get_or bs i b
    → with_deliveries m (map f (take (i + 1) bs)) ≡ with_deliveries (with_deliveries m (map f (take i bs))) (f b ∷ [])
batch_more f m bs i b within is =
    let there : get_or (map f bs) i (f b) ≡ f b = get_or-map f bs i b (f b) within ∙ ap f (sym is) in
    ap (with_deliveries m) (sym (take-map f (i + 1) bs))
    ∙ marked_more m (map f bs) i (f b) (omega (arith, within, length-map bs f))
    ∙ (λ j. with_deliveries (with_deliveries m (take-map f i bs j)) (there j ∷ []))

found_name : (m : Positions) (name : List ℕ) → are_positions m ≡ true → is_some (find name_cmp name m) ≡ not (eqb (position_of m name) 0)
found_name [] name lawful = refl
found_name (e ∷ es) name lawful =
    let parts = and_parts (is_position e.1) (are_positions es) lawful in
    let some : not (eqb e.1 0) ≡ true = grind (arith, nat_tests) in
    elim (eq_by_cmp name_cmp name e.0) as (λ b. is_some (cond b (Some e.1) (find name_cmp name es)) ≡ not (eqb (unwrap_or (cond b (Some e.1) (find name_cmp name es)) 0) 0)) [
      | true ↦ sym some
      | false ↦ found_name es name parts.1
    ]

counted_by : (b new : Bool) (n : ℕ) → b ≡ not new → cond b n (n + 1) ≡ n + from_bool new
counted_by true new n is = let known : new ≡ false = is_not new (sym is) in omega (arith, ap from_bool known)
counted_by false new n is = let known : new ≡ true = is_so new (sym is) in omega (arith, ap from_bool known)

-- one stream more or none, where the count stops at what a number holds
pub streams_more : (streams old more total result : ℕ) → streams ≡ min old (2 ^ 64 - 1) → total ≡ old + more → result ≡ min (streams + more) (2 ^ 64 - 1) → result ≡ min total (2 ^ 64 - 1)
streams_more streams old more total result is grown added = omega (arith, is, grown, added)

-- names that are compared
same_stream : (name : List ℕ) (d : DeliveryValue) (own : List ℕ) → own ≡ d.stream → bytes_eq own name ≡ eq_by_cmp name_cmp name d.stream
same_stream name d own is = same_key own name ∙ ap (λ (s : List ℕ). eq_by_cmp name_cmp name s) is

from_not : (b t : Bool) → b ≡ not t → not b ≡ t
from_not b true is = ap not is
from_not b false is = ap not is

pub other_stream : (name : List ℕ) (d : DeliveryValue) (own : List ℕ) (b : Bool) → b ≡ not (bytes_eq own name) → own ≡ d.stream → b ≡ true → None ≡ last_of_stream name d
other_stream name d own b is same differs =
    ap (λ (t : Bool). cond t (last_of d) None) (sym (ap not differs) ∙ from_not b (bytes_eq own name) is ∙ same_stream name d own same)

pub own_stream : (name : List ℕ) (d : DeliveryValue) (own : List ℕ) (b : Bool) → b ≡ not (bytes_eq own name) → own ≡ d.stream → b ≡ false → last_of d ≡ last_of_stream name d
own_stream name d own b is same equal =
    ap (λ (t : Bool). cond t (last_of d) None) (sym (ap not equal) ∙ from_not b (bytes_eq own name) is ∙ same_stream name d own same)

-- a count that is not 0
pub some_count : (n count : ℕ) → n ≡ count → (n ≡ 0 → ⊥) → eqb count 0 ≡ false
some_count n count is some = false_from_ne_true (eqb count 0) (λ none. some (is ∙ eqb-true count 0 none))

module _ (m : Positions) (d : DeliveryValue) where
  -- a delivery without images changes nothing
  pub idle : brings d ≡ false → with_deliveries m (d ∷ []) ≡ m
  idle none = ap (λ (b : Bool). fold with_delivery m (cond b (d ∷ []) [])) none

  pub idle_after : brings d ≡ false → marks_after m (with_images (d ∷ [])) ≡ Ok (with_deliveries m (d ∷ []))
  idle_after none = ap (λ (b : Bool). marks_after m (cond b (d ∷ []) [])) none ∙ ap Ok (sym (idle none))

  pub idle_count : brings d ≡ false → length (with_deliveries m (d ∷ [])) ≡ length m + from_bool false
  idle_count none = ap length (idle none) ∙ omega arith

  -- one with images takes its stream on
  pub taken : brings d ≡ true → with_deliveries m (d ∷ []) ≡ with_delivery m d
  taken some = ap (λ (b : Bool). fold with_delivery m (cond b (d ∷ []) [])) some

  pub taken_after : brings d ≡ true → leaves_gap m d ≡ false → marks_after m (with_images (d ∷ [])) ≡ Ok (with_deliveries m (d ∷ []))
  taken_after some joins =
      ap (λ (b : Bool). marks_after m (cond b (d ∷ []) [])) some
      ∙ ap (λ (b : Bool). cond b (Err (gap_of m d)) (Ok (with_delivery m d))) joins
      ∙ ap Ok (sym (taken some))

  pub gap_after : brings d ≡ true → leaves_gap m d ≡ true → marks_after m (with_images (d ∷ [])) ≡ Err (gap_of m d)
  gap_after some gap =
      ap (λ (b : Bool). marks_after m (cond b (d ∷ []) [])) some
      ∙ ap (λ (b : Bool). cond b (Err (gap_of m d)) (Ok (with_delivery m d))) gap

  -- the marks have a name more where the stream was not there
  pub taken_count : is_sorted name_cmp m ≡ true → are_positions m ≡ true → brings d ≡ true → length (with_deliveries m (d ∷ [])) ≡ length m + from_bool (eqb (position_of m d.stream) 0)
  taken_count rising lawful some =
      ap length (taken some)
      ∙ length-put name_cmp nat_list_cmp_total d.stream (max (position_of m d.stream) (last_position d)) m (subst T (sym rising) tt)
      ∙ counted_by (is_some (find name_cmp d.stream m)) (eqb (position_of m d.stream) 0) (length m) (found_name m d.stream lawful)

  -- the position of a stream after the delivery
  pub mark_more : (name : List ℕ) → position_of (with_deliveries m (d ∷ [])) name ≡ max (position_of m name) (unwrap_or (last_of_stream name d) 0)
  mark_more name =
      elim (brings d) as (λ b. position_of (fold with_delivery m (cond b (d ∷ []) [])) name ≡ max (position_of m name) (unwrap_or (cond (eq_by_cmp name_cmp name d.stream) (cond b (Some (last_position d)) None) None) 0)) [
        | true ↦ position_of-raised_marks m ((d.stream, last_position d) ∷ []) name
        | false ↦ none (eq_by_cmp name_cmp name d.stream)
      ]
    where
      none : (b : Bool) → position_of m name ≡ max (position_of m name) (unwrap_or (cond b None None) 0)
      none true = omega arith
      none false = omega arith

-- the marks after deliveries rise
pub marked_rising : (m : Positions) (d : DeliveryValue) → is_sorted name_cmp m ≡ true → is_sorted name_cmp (with_deliveries m (d ∷ [])) ≡ true
marked_rising m d rising =
    elim (brings d) as (λ b. is_sorted name_cmp (fold with_delivery m (cond b (d ∷ []) [])) ≡ true) [
      | true ↦ is_sorted-raised_marks m ((d.stream, last_position d) ∷ []) rising
      | false ↦ rising
    ]

-- the last position of a delivery is that of a message
pub last_lawful : (first count : ℕ) → fit first count ≡ true → eqb count 0 ≡ false → is_position (first + count - 1) ≡ true
last_lawful first count lawful some = grind (arith, nat_tests)

pub marked_positions : (m : Positions) (d : DeliveryValue) → are_positions m ≡ true → fit d.first (length d.images) ≡ true → are_positions (with_deliveries m (d ∷ [])) ≡ true
marked_positions m d lawful own =
    elim (brings d) as (λ b. brings d ≡ b → are_positions (fold with_delivery m (cond b (d ∷ []) [])) ≡ true) [
      | true ↦ λ some.
          let last : is_position (last_position d) ≡ true = grind (arith, nat_tests) in
          are_positions-raised_marks m ((d.stream, last_position d) ∷ []) lawful (and_from (is_position (last_position d)) true last refl)
      | false ↦ λ none. lawful
    ] refl

-- with what all deliveries leave, the round is accepted or refused
pub accepted_marks : (m : Positions) (ds : List DeliveryValue) → marks_after m (with_images ds) ≡ Ok (with_deliveries m ds) → length (with_deliveries m ds) ≤ 16 → new_marks m ds ≡ Ok (with_deliveries m ds)
accepted_marks m ds is few =
    let no_more : nat_lt 16 (length (with_deliveries m ds)) ≡ false = grind (arith, nat_tests) in
    ap of_few_streams is ∙ ap (λ (b : Bool). cond b (Err TooManyStreams) (Ok (with_deliveries m ds))) no_more

pub too_many_marks : (m : Positions) (ds : List DeliveryValue) → marks_after m (with_images ds) ≡ Ok (with_deliveries m ds) → 16 < length (with_deliveries m ds) → new_marks m ds ≡ Err TooManyStreams
too_many_marks m ds is many =
    let more : nat_lt 16 (length (with_deliveries m ds)) ≡ true = grind (arith, nat_tests) in
    ap of_few_streams is ∙ ap (λ (b : Bool). cond b (Err TooManyStreams) (Ok (with_deliveries m ds))) more

-- How many streams new marks have.

abbrev names_of : Positions → List (List ℕ)
names_of marks = map (λ mark. mark.0) marks

abbrev streams_of : List DeliveryValue → List (List ℕ)
streams_of deliveries = map (λ delivery. delivery.stream) deliveries

abbrev has_name : List (List ℕ) → List ℕ → Bool
has_name names name = list_any (eq_by_cmp name_cmp name) names

apart : (name : List ℕ) (es : Positions) → Below name_cmp name es → AllByRecursion (λ other. eq_by_cmp name_cmp name other ≡ false) (names_of es)
apart name [] below = tt
apart name (e ∷ es) below = (ap is_eq below.0, apart name es below.1)

-- names that rise are all different
each_once : (es : Positions) → Rising name_cmp es → IsDistinct (eq_by_cmp name_cmp) (names_of es)
unfolding IsDistinct
each_once [] rising = tt
each_once (e ∷ es) rising = IsDistinct-cons (eq_by_cmp name_cmp) e.0 (names_of es) (apart e.0 es rising.0) (each_once es rising.1)

joined_is : (a : Option ℕ) (b : Bool) (n : ℕ) → is_some (optional_joined max a (cond b (Some n) None)) ≡ (is_some a || b)
joined_is None true n = refl
joined_is None false n = refl
joined_is (Some m) true n = refl
joined_is (Some m) false n = refl

either_side : (a b c : Bool) → ((a || b) || c) ≡ (a || (b || c))
either_side true b c = refl
either_side false b c = refl

-- marks after a delivery have its name besides
one_more : (m : Positions) (d : DeliveryValue) (name : List ℕ) → has_name (names_of (with_delivery m d)) name ≡ (has_name (names_of m) name || eq_by_cmp name_cmp name d.stream)
one_more m d name =
    sym (is_some-find name_cmp name (with_delivery m d))
    ∙ ap is_some (find-raised_marks m ((d.stream, last_position d) ∷ []) name)
    ∙ joined_is (find name_cmp name m) (eq_by_cmp name_cmp name d.stream) (last_position d)
    ∙ ap (λ b. b || eq_by_cmp name_cmp name d.stream) (is_some-find name_cmp name m)

marked_rises : (m : Positions) (d : DeliveryValue) → IsTrue (is_sorted name_cmp m) → IsTrue (is_sorted name_cmp (with_delivery m d))
marked_rises m d rising = is_sorted-raised_marks m ((d.stream, last_position d) ∷ []) rising

-- marks that rise do so after deliveries
still_rise : (ds : List DeliveryValue) (m next : Positions) → IsTrue (is_sorted name_cmp m) → marks_after m ds ≡ Ok next → IsTrue (is_sorted name_cmp next)
still_rise [] m next rising is =
    let same : m ≡ next = cc in
    subst (λ (marks : Positions). IsTrue (is_sorted name_cmp marks)) same rising
still_rise (d ∷ ds) m next rising is =
    still_rise ds (with_delivery m d) next (marked_rises m d rising) (accepted (leaves_gap m d) (gap_of m d) (marks_after (with_delivery m d) ds) next is).1

-- they have the names of the marks before, and those of the deliveries
have_both : (ds : List DeliveryValue) (m next : Positions) (name : List ℕ) → marks_after m ds ≡ Ok next → has_name (names_of next) name ≡ (has_name (names_of m) name || has_name (streams_of ds) name)
have_both [] m next name is =
    let same : m ≡ next = cc in
    ap (λ (marks : Positions). has_name (names_of marks) name) (sym same) ∙ or_none (has_name (names_of m) name)
  where
    or_none : (b : Bool) → b ≡ (b || false)
    or_none true = refl
    or_none false = refl
have_both (d ∷ ds) m next name is =
    have_both ds (with_delivery m d) next name (accepted (leaves_gap m d) (gap_of m d) (marks_after (with_delivery m d) ds) next is).1
    ∙ ap (λ b. b || has_name (streams_of ds) name) (one_more m d name)
    ∙ either_side (has_name (names_of m) name) (eq_by_cmp name_cmp name d.stream) (has_name (streams_of ds) name)

-- so there are as many as these name
counted : (ds : List DeliveryValue) (m next : Positions) → IsTrue (is_sorted name_cmp m) → marks_after m (with_images ds) ≡ Ok next → length next ≡ stream_count m ds
counted ds m next rising is =
    sym (length-map next (λ mark. mark.0))
    ∙ length-from_keys (eq_by_cmp_equiv nat_list_cmp_total) (names_of next) (named m ds)
    (each_once next (Rising-from_sorted name_cmp next (still_rise (with_images ds) m next rising is)))
    (λ name. have_both (with_images ds) m next name is ∙ sym (list_any-append (eq_by_cmp name_cmp name) (names_of m) (streams_of (with_images ds))))

no_more : (n : ℕ) (b : Bool) → nat_lt 16 n ≡ b → b ≡ false → n ≤ 16
no_more n b is holds = grind (arith, nat_tests)

-- new marks name exactly the streams, at most 16
pub few_streams : (marks next : Positions) (deliveries : List DeliveryValue) → IsTrue (is_sorted name_cmp marks) → new_marks marks deliveries ≡ Ok next → (length next ≡ stream_count marks deliveries) × (stream_count marks deliveries ≤ 16)
few_streams marks next deliveries rising is =
    elim (marks_after marks (with_images deliveries)) as (λ r. marks_after marks (with_images deliveries) ≡ r → of_few_streams r ≡ Ok next → (length next ≡ stream_count marks deliveries) × (stream_count marks deliveries ≤ 16)) [
      | Ok all ↦ λ after few.
          let passed = accepted (nat_lt 16 (length all)) TooManyStreams (Ok all) next few in
          let same : all ≡ next = cc in
          let as_many = counted deliveries marks all rising after in
          (ap length (sym same) ∙ as_many, omega (arith, no_more (length all) (nat_lt 16 (length all)) refl passed.0, as_many))
      | Err fault ↦ λ after few. cc
    ] refl is

more : (b : Bool) (marks : Positions) → cond b (Err TooManyStreams) (Ok marks) ≡ Err TooManyStreams → b ≡ true
more true marks is = refl
more false marks is = cc

-- too many streams are more than 16
pub many_streams : (marks : Positions) (deliveries : List DeliveryValue) → IsTrue (is_sorted name_cmp marks) → new_marks marks deliveries ≡ Err TooManyStreams → 16 < stream_count marks deliveries
many_streams marks deliveries rising is =
    elim (marks_after marks (with_images deliveries)) as (λ r. marks_after marks (with_images deliveries) ≡ r → of_few_streams r ≡ Err TooManyStreams → 16 < stream_count marks deliveries) [
      | Ok all ↦ λ after many.
          let so = more (nat_lt 16 (length all)) all many in
          let as_many = counted deliveries marks all rising after in
          grind (arith, nat_tests)
      | Err fault ↦ λ after many. absurd (only_gaps TooManyStreams (λ d m same. cc) (with_images deliveries) marks (after ∙ many))
    ] refl is

-- marks never answer out of memory
pub never_memory : (marks : Positions) (deliveries : List DeliveryValue) → new_marks marks deliveries ≡ Err Memory → ⊥
never_memory marks deliveries is =
    elim (marks_after marks (with_images deliveries)) as (λ r. marks_after marks (with_images deliveries) ≡ r → of_few_streams r ≡ Err Memory → ⊥) [
      | Ok all ↦ λ after wants.
          elim (nat_lt 16 (length all)) as (λ b. cond b (Err TooManyStreams) (Ok all) ≡ Err Memory → ⊥) [ true ↦ λ no. cc | false ↦ λ no. cc ] wants
      | Err fault ↦ λ after wants. only_gaps Memory (λ d m same. cc) (with_images deliveries) marks (after ∙ wants)
    ] refl is

-- the fault that marks answer is not out of memory
pub refused_right : (marks : Positions) (deliveries : List DeliveryValue) (fault : RoundFault) → new_marks marks deliveries ≡ Err fault → Refuses is_memory fault (new_marks marks deliveries)
refused_right marks deliveries (Gap stream wanted got) is = is
refused_right marks deliveries TooManyStreams is = is
refused_right marks deliveries Memory is = absurd (never_memory marks deliveries is)
