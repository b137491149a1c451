-- The first gap of deliveries, and what checked marks say of a round.
use Rattle.std.proofs.Common.{◌≡◌, inl, inr, ℕ, zero, suc, ◌+◌, ◌<◌, ◌≤◌, pred, Bool, true, false, cond, nat_lt, List, [], ◌∷◌, ◌++◌, length, refl, sym, ap, ◌∙◌, arith, map, subst}
use Rattle.std.specs.Prelude.{IsOk}
use Rattle.std.proofs.lemmas.Bool.Decides.{nat_tests}
use Rattle.std.proofs.lemmas.List.Elements.{filter-append}
use Rattle.std.proofs.lemmas.List.{map-id}
use Rattle.std.specs.Result.{result_map_both}
use Rattle.pn_tablet.specs.Steps.{Refuses}
use Rattle.pn_region.proofs.Common.{Result, Ok, Err, Positions, position_of, DeliveryValue, with_images, last_position, with_delivery, leaves_gap, marks_after, of_few_streams, new_marks, RoundFault, Gap, TooManyStreams, RegionValue, Memory}
use Rattle.pn_region.proofs.MarkLaws.{gap_of, only_gaps, accepted, few, none_skipped, never_fall, some_brings, last_taken}
use Rattle.pn_region.specs.Laws.{WasTaken, HasNoGap, IsGap}
use Rattle.pn_region.specs.Rounds.{brings, is_memory, after_joins, round, Leaves}
use Rattle.pn_region.specs.Log.{refused_log}
use Rattle.pn_region.specs.declared.notices.Entry.{Entry}
use Rattle.pn_region.proofs.Following.{never_memory}

-- The first gap of deliveries.

-- the position is one that the marks have reached by these deliveries
taken_up_to : (ds : List DeliveryValue) (m n : Positions) (name : List ℕ) (p : ℕ) → marks_after m (with_images ds) ≡ Ok n → p ≤ position_of n name → WasTaken m ds name p
taken_up_to ds m n name p is within =
    elim (nat_lt (position_of m name) p) as (λ b. nat_lt (position_of m name) p ≡ b → WasTaken m ds name p) [
      | true ↦ λ more. inr (none_skipped ds m n name p is (grind (arith, nat_tests)) within)
      | false ↦ λ enough. inl (grind (arith, nat_tests))
    ] refl

at_most_pred : (p n : ℕ) → p < n → p ≤ pred n
at_most_pred p zero below = absurd (omega (arith, below))
at_most_pred p (suc n) below = omega (arith, below)

has_images : (first count p : ℕ) → first ≤ p → p < first + count → 0 < count
has_images first count p from before = omega (arith, from, before)

-- and no other was taken
taken_is_reached : (ds : List DeliveryValue) (m n : Positions) (name : List ℕ) (p : ℕ) → marks_after m (with_images ds) ≡ Ok n → WasTaken m ds name p → p ≤ position_of n name
taken_is_reached ds m n name p is (inl within) = omega (arith, within, never_fall ds m n is name)
taken_is_reached ds m n name p is (inr has) =
    let last : last_position has.delivery ≤ position_of n has.delivery.stream =
    last_taken ds m n has.there.0 has.delivery has.there.1 has.there.2
    (has_images has.delivery.first (length has.delivery.images) p has.from has.before) is in
    let same : position_of n has.delivery.stream ≡ position_of n name = ap (position_of n) has.stream in
    let within : p ≤ last_position has.delivery = at_most_pred p (has.delivery.first + length has.delivery.images) has.before in
    omega (arith, last, same, within)

-- deliveries are taken one part after another
record Parts (m : Positions) (front rest : List DeliveryValue) (next : Positions) : Type 0 where
  reached : Positions
  so_far : marks_after m front ≡ Ok reached
  then_on : marks_after reached rest ≡ Ok next

in_parts : (front rest : List DeliveryValue) (m next : Positions) → marks_after m (front ++ rest) ≡ Ok next → Parts m front rest next
in_parts [] rest m next is = record { reached = m; so_far = refl; then_on = is }
in_parts (d ∷ front) rest m next is =
    let passed = accepted (leaves_gap m d) (gap_of m d) (marks_after (with_delivery m d) (front ++ rest)) next is in
    let parts = in_parts front rest (with_delivery m d) next passed.1 in
    record {
      reached = parts.reached;
      so_far = ap (λ (b : Bool). cond b (Err (gap_of m d)) (marks_after (with_delivery m d) front)) passed.0 ∙ parts.so_far;
      then_on = parts.then_on;
    }

brought : (before after : List DeliveryValue) (d : DeliveryValue) → 0 < length d.images → with_images (before ++ d ∷ after) ≡ with_images before ++ d ∷ with_images after
brought before after d some =
    filter-append brings before (d ∷ after)
    ∙ ap (λ (b : Bool). with_images before ++ cond b (d ∷ with_images after) (with_images after)) (some_brings d some)

-- where all deliveries are taken there is no gap
no_gap : (ds : List DeliveryValue) (m n : Positions) → marks_after m (with_images ds) ≡ Ok n → HasNoGap m ds
no_gap ds m n is before d after p cut some below =
    let parts = in_parts (with_images before) (d ∷ with_images after) m n
    (ap (marks_after m) (sym (ap with_images cut ∙ brought before after d some)) ∙ is) in
    let passed = accepted (leaves_gap parts.reached d) (gap_of parts.reached d) (marks_after (with_delivery parts.reached d) (with_images after)) n parts.then_on in
    taken_up_to before m parts.reached d.stream p parts.so_far (no_gap_reaches (position_of parts.reached d.stream) d.first p passed.0 below)
  where
    no_gap_reaches : (mark first p : ℕ) → nat_lt (mark + 1) first ≡ false → p < first → p ≤ mark
    no_gap_reaches mark first p joins below = grind (arith, nat_tests)

pub none_is_told : (marks next : Positions) (deliveries : List DeliveryValue) → new_marks marks deliveries ≡ Ok next → HasNoGap marks deliveries
none_is_told marks next deliveries is = no_gap deliveries marks next (few (marks_after marks (with_images deliveries)) next is)

too_many_after_all : (right : Result Positions RoundFault) (P : Type 0) → (right ≡ Err TooManyStreams → P) → ((n : Positions) → right ≡ Ok n → P) → of_few_streams right ≡ Err TooManyStreams → P
too_many_after_all (Ok n) P never all is = all n refl
too_many_after_all (Err fault) P never all is = never is

pub too_many_leave_none : (marks : Positions) (deliveries : List DeliveryValue) → new_marks marks deliveries ≡ Err TooManyStreams → HasNoGap marks deliveries
too_many_leave_none marks deliveries is =
    too_many_after_all (marks_after marks (with_images deliveries)) (HasNoGap marks deliveries)
    (λ never. absurd (only_gaps TooManyStreams (λ d m same. cc) (with_images deliveries) marks never))
    (λ n all. no_gap deliveries marks n all)
    is

-- a delivery that leaves a gap after those that were taken
record Met (m : Positions) (ds : List DeliveryValue) (fault : RoundFault) : Type 0 where
  before : List DeliveryValue
  delivery : DeliveryValue
  after : List DeliveryValue
  reached : Positions
  parts : ds ≡ before ++ delivery ∷ after
  so_far : marks_after m (with_images before) ≡ Ok reached
  brings_some : brings delivery ≡ true
  leaves : leaves_gap reached delivery ≡ true
  fault_is : gap_of reached delivery ≡ fault

-- the gap after a delivery that is taken or has no images
gap_after : (m next : Positions) (d : DeliveryValue) (ds : List DeliveryValue) (fault : RoundFault)
    → ((before : List DeliveryValue) (n : Positions) → marks_after next (with_images before) ≡ Ok n → marks_after m (with_images (d ∷ before)) ≡ Ok n)
    → Met next ds fault → Met m (d ∷ ds) fault
gap_after m next d ds fault on met = record {
  before = d ∷ met.before;
  delivery = met.delivery;
  after = met.after;
  reached = met.reached;
  parts = ap (λ (rest : List DeliveryValue). d ∷ rest) met.parts;
  so_far = on met.before met.reached met.so_far;
  brings_some = met.brings_some;
  leaves = met.leaves;
  fault_is = met.fault_is;
}

-- the first gap is met after deliveries that are taken
first_met : (ds : List DeliveryValue) (m : Positions) (fault : RoundFault) → marks_after m (with_images ds) ≡ Err fault → Met m ds fault
first_met [] m fault is = absurd cc
first_met (d ∷ ds) m fault is =
    elim (brings d) as (λ b. brings d ≡ b → marks_after m (cond b (d ∷ with_images ds) (with_images ds)) ≡ Err fault → Met m (d ∷ ds) fault) [
      | true ↦ λ some all.
          elim (leaves_gap m d) as (λ b. leaves_gap m d ≡ b → cond b (Err (gap_of m d)) (marks_after (with_delivery m d) (with_images ds)) ≡ Err fault → Met m (d ∷ ds) fault) [
            | true ↦ λ gap now. record {
              before = [];
              delivery = d;
              after = ds;
              reached = m;
              parts = refl;
              so_far = refl;
              brings_some = some;
              leaves = gap;
              fault_is = cc;
            }
            | false ↦ λ joins rest. gap_after m (with_delivery m d) d ds fault
                (λ before n is.
                ap (λ (b : Bool). marks_after m (cond b (d ∷ with_images before) (with_images before))) some
                ∙ ap (λ (b : Bool). cond b (Err (gap_of m d)) (marks_after (with_delivery m d) (with_images before))) joins
                ∙ is)
                (first_met ds (with_delivery m d) fault rest)
          ] refl all
      | false ↦ λ none rest. gap_after m m d ds fault
          (λ before n is. ap (λ (b : Bool). marks_after m (cond b (d ∷ with_images before) (with_images before))) none ∙ is)
          (first_met ds m fault rest)
    ] refl is

brings_images : (d : DeliveryValue) → brings d ≡ true → 0 < length d.images
brings_images d some = grind (arith, nat_tests)

-- what is met is a gap
met_is_gap : (m : Positions) (ds : List DeliveryValue) (stream : List ℕ) (wanted got : ℕ) → Met m ds (Gap stream wanted got) → IsGap m ds stream wanted got
met_is_gap m ds stream wanted got met =
    let fault : gap_of met.reached met.delivery ≡ Gap stream wanted got = met.fault_is in
    let stream_is : stream ≡ met.delivery.stream = cc in
    let wanted_is : position_of met.reached met.delivery.stream + 1 ≡ wanted = cc in
    let got_is : got ≡ met.delivery.first = cc in
    let mark_is : position_of met.reached stream ≡ position_of met.reached met.delivery.stream = ap (position_of met.reached) stream_is in
    record {
      before = met.before;
      delivery = met.delivery;
      after = met.after;
      parts = met.parts;
      brings = brings_images met.delivery met.brings_some;
      stream_is = stream_is;
      got_is = got_is;
      first = no_gap met.before m met.reached met.so_far;
      below = λ p less. taken_up_to met.before m met.reached stream p met.so_far (omega (arith, less, wanted_is, mark_is));
      missing = λ taken. omega (arith, taken_is_reached met.before m met.reached stream wanted met.so_far taken, wanted_is, mark_is);
      past = starts_past (position_of met.reached met.delivery.stream) wanted met.delivery.first got met.leaves wanted_is got_is;
    }
  where
    starts_past : (mark wanted first got : ℕ) → nat_lt (mark + 1) first ≡ true → mark + 1 ≡ wanted → got ≡ first → wanted < got
    starts_past mark wanted first got past w g = grind (arith, nat_tests)

gap_after_all : (right : Result Positions RoundFault) (stream : List ℕ) (wanted got : ℕ) → of_few_streams right ≡ Err (Gap stream wanted got) → right ≡ Err (Gap stream wanted got)
gap_after_all (Ok n) stream wanted got is = absurd (no_gap_in (nat_lt 16 (length n)) n is)
  where
    no_gap_in : (b : Bool) (n : Positions) → cond b (Err TooManyStreams) (Ok n) ≡ Err (Gap stream wanted got) → ⊥
    no_gap_in true n is = cc
    no_gap_in false n is = cc
gap_after_all (Err fault) stream wanted got is = is

pub gap_is_missing : (marks : Positions) (deliveries : List DeliveryValue) (stream : List ℕ) (wanted got : ℕ) → new_marks marks deliveries ≡ Err (Gap stream wanted got) → IsGap marks deliveries stream wanted got
gap_is_missing marks deliveries stream wanted got is =
    met_is_gap marks deliveries stream wanted got
    (first_met deliveries marks (Gap stream wanted got) (gap_after_all (marks_after marks (with_images deliveries)) stream wanted got is))

-- What the marks that were checked say of a round.

-- deliveries stand for themselves
pub themselves : (marks : Positions) (deliveries : List DeliveryValue) → new_marks marks deliveries ≡ new_marks marks (map (λ delivery. delivery) deliveries)
themselves marks deliveries = ap (new_marks marks) (sym (map-id deliveries))

module _ (old : RegionValue) (deliveries : List DeliveryValue) where
  -- where the marks have no fault, the round has none
  pub round_passes : (next : Positions) → new_marks old.marks deliveries ≡ Ok next → IsOk (round old deliveries)
  round_passes next is = subst (λ (r : Result Positions RoundFault). IsOk (result_map_both (after_joins old deliveries) (λ fault. fault) r)) (sym is) refl

  -- the fault of the marks is that of the round, and never out of memory
  pub round_refused : (fault : RoundFault) → new_marks old.marks deliveries ≡ Err fault → Refuses is_memory fault (round old deliveries)
  round_refused (Gap stream wanted got) is = ap (result_map_both (after_joins old deliveries) (λ fault. fault)) is
  round_refused TooManyStreams is = ap (result_map_both (after_joins old deliveries) (λ fault. fault)) is
  round_refused Memory is = absurd (never_memory old.marks deliveries is)

  -- and it changes nothing
  pub left_alone : (fault : RoundFault) → new_marks old.marks deliveries ≡ Err fault → Leaves fault old deliveries old
  left_alone (Gap stream wanted got) is = refl
  left_alone TooManyStreams is = refl
  left_alone Memory is = absurd (never_memory old.marks deliveries is)

  -- so the log has no break
  pub unbroken : (log : List Entry) (fault : RoundFault) → new_marks old.marks deliveries ≡ Err fault → log ≡ refused_log log fault
  unbroken log (Gap stream wanted got) is = refl
  unbroken log TooManyStreams is = refl
  unbroken log Memory is = absurd (never_memory old.marks deliveries is)

  passes : (r : Result Positions RoundFault) → IsOk r → IsOk (result_map_both (after_joins old deliveries) (λ fault. fault) r)
  passes (Ok next) is = refl
  passes (Err fault) is = cc

  -- what refuses the marks refuses the round
  pub refuses_round : (fault : RoundFault) → Refuses is_memory fault (new_marks old.marks (map (λ delivery. delivery) deliveries)) → Refuses is_memory fault (round old deliveries)
  refuses_round (Gap stream wanted got) is = round_refused (Gap stream wanted got) (themselves old.marks deliveries ∙ is)
  refuses_round TooManyStreams is = round_refused TooManyStreams (themselves old.marks deliveries ∙ is)
  refuses_round Memory is = passes (new_marks old.marks deliveries) (subst (λ (r : Result Positions RoundFault). IsOk r) (sym (themselves old.marks deliveries)) is)
