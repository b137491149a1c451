-- Lists that begin others: what was tried and published begins what comes later, so each step keeps its rule.
use Rattle.std.proofs.Common.{◌≡◌, ◌≤◌, List, [], ◌∷◌, ◌++◌, length, take, refl, ap, sym, ◌∙◌, arith, append_assoc, ℕ, suc, subst, length-append, ⊎_elim, ◌⊎◌, inl, inr, zero, ◌+◌, ◌<◌, ◌==◌, Bool, true, false, Option, ◌≢◌, set, Some, None, IfSome, fold}
use Rattle.std.proofs.lemmas.List.{append-nil}
use Rattle.std.proofs.lemmas.Bool.Decides.{nat_tests}
use mathlib.Core.List.{IsPrefix}
use prog.Atomic.{either}
use Rattle.logbook.specs.Pages.{Cell, cell, keeps, no_nib, step, Moves, Goes}
use mathlib.Core.Option.{some}
use lib.ListN.{get_elem?}
use Rattle.crossbeam_utils.specs.Register.{Admits, Turns, TurnsAt, Forks, Merges}
use Rattle.atomic_table.proofs.Lists.{at_set, at_snoc}
use Rattle.pn_tablet.specs.Steps.{tablet_after, state_of}
use Rattle.pn_tablet.specs.Tablets.{TabletStateValue, empty_tablet}
use Rattle.pn_tablet.specs.declared.state.TabletOp.{TabletOp}
use Rattle.pn_region.proofs.Events.{range_stays}
use Rattle.pn_live.specs.declared.attempt.Attempt.{Attempt}
use Rattle.pn_live.specs.Attempts.{settled_from, tried_from, settled_of, tried_of, Follows, Chained, AreLawful, MayFollow, one_more, well_ended, IsKept, Adds}
use Rattle.pn_live.specs.declared.published_state.PublishedState.{PublishedState}
use Rattle.pn_live.specs.Orders.{list_of, IsLater, AllBefore, GoesOn}

-- Lists that begin others.

pub begins_itself : {A : Type 0} (xs : List A) → IsPrefix xs xs
begins_itself [] = ([], refl)
begins_itself (x ∷ xs) = (let r = begins_itself xs in r.0, ap (λ ys. x ∷ ys) (begins_itself xs).1)

pub begins_more : {A : Type 0} (xs ys : List A) → IsPrefix xs (xs ++ ys)
begins_more xs ys = (ys, refl)

pub begins_on : {A : Type 0} (xs ys zs : List A) → IsPrefix xs ys → IsPrefix ys zs → IsPrefix xs zs
begins_on xs ys zs p q = (p.0 ++ q.0, sym (append_assoc xs p.0 q.0) ∙ (ap (λ w. w ++ q.0) p.1 ∙ q.1))

-- of two lists that begin a third, the shorter begins the longer
pub shorter_begins : {A : Type 0} (xs ys zs : List A) → IsPrefix xs zs → IsPrefix ys zs → length xs ≤ length ys → IsPrefix xs ys
shorter_begins [] ys zs p q le = (ys, refl)
shorter_begins (x ∷ xs) [] zs p q le = absurd (omega arith)
shorter_begins (x ∷ xs) (y ∷ ys) [] p q le = absurd (cc (p.1))
shorter_begins (x ∷ xs) (y ∷ ys) (z ∷ zs) p q le =
    let heads : x ≡ y = cc (p.1, q.1) in
    let rest = shorter_begins xs ys zs (p.0, cc (p.1)) (q.0, cc (q.1)) (omega arith) in
    (rest.0, cc (heads, rest.1))

-- a list that begins one that is no longer is that one
pub begins_no_more : {A : Type 0} (xs ys : List A) → IsPrefix xs ys → length ys ≤ length xs → xs ≡ ys
begins_no_more [] [] p le = refl
begins_no_more [] (y ∷ ys) p le = absurd (omega arith)
begins_no_more (x ∷ xs) [] p le = absurd (cc (p.1))
begins_no_more (x ∷ xs) (y ∷ ys) p le =
    let rest = begins_no_more xs ys (p.0, cc (p.1)) (omega arith) in cc (p.1, rest)

pub begins_of_take : {A : Type 0} (xs ys : List A) → take (length xs) ys ≡ xs → IsPrefix xs ys
begins_of_take [] ys e = (ys, refl)
begins_of_take (x ∷ xs) [] e = absurd (cc e)
begins_of_take (x ∷ xs) (y ∷ ys) e = let r = begins_of_take xs ys (cc e) in (r.0, cc (e, r.1))

pub take_of_begins : {A : Type 0} (xs ys : List A) → IsPrefix xs ys → take (length xs) ys ≡ xs
take_of_begins [] [] p = refl
take_of_begins [] (y ∷ ys) p = refl
take_of_begins (x ∷ xs) [] p = absurd (cc (p.1))
take_of_begins (x ∷ xs) (y ∷ ys) p =
    let r = take_of_begins xs ys (p.0, cc (p.1)) in cc (p.1, r)

-- What an early attempt settles begins what a later one tries.

up_to_or_more : (a b : ℕ) → (a ≤ b) ⊎ (suc b ≤ a)
up_to_or_more zero b = inl (omega arith)
up_to_or_more (suc a) zero = inr (omega arith)
up_to_or_more (suc a) (suc b) = ⊎_elim (λ (le : a ≤ b). inl (omega (arith, le))) (λ (more : suc b ≤ a). inr (omega (arith, more))) (up_to_or_more a b)

module _ {O : Type 0} where
  pub settled_last : (s : List O) (xs : List (Attempt O)) (e : Attempt O) → settled_from s (xs ++ e ∷ []) ≡ e.settled
  settled_last s [] e = refl
  settled_last s (x ∷ xs) e = settled_last x.settled xs e

  pub tried_last : (t : List O) (xs : List (Attempt O)) (e : Attempt O) → tried_from t (xs ++ e ∷ []) ≡ e.tried
  tried_last t [] e = refl
  tried_last t (x ∷ xs) e = tried_last x.tried xs e

  pub chained_more : (s t : List O) (xs : List (Attempt O)) (e : Attempt O) → Chained s t xs → Follows (settled_from s xs) (tried_from t xs) e → Chained s t (xs ++ e ∷ [])
  chained_more s t [] e c f = (f, tt)
  chained_more s t (x ∷ xs) e c f = (c.0, chained_more x.settled x.tried xs e c.1 f)

  pub chained_front : (s t : List O) (xs ys : List (Attempt O)) → Chained s t (xs ++ ys) → Chained s t xs
  chained_front s t [] ys c = tt
  chained_front s t (x ∷ xs) ys c = (c.0, chained_front x.settled x.tried xs ys c.1)

  pub settled_stays : (s t : List O) (xs ys : List (Attempt O)) → Chained s t (xs ++ ys) → IsPrefix (settled_from s xs) (settled_from s (xs ++ ys))
  settled_stays s t [] [] c = begins_itself s
  settled_stays s t [] (y ∷ ys) c = begins_on s y.settled (settled_from y.settled ys) c.0.stays (settled_stays y.settled y.tried [] ys c.1)
  settled_stays s t (x ∷ xs) ys c = settled_stays x.settled x.tried xs ys c.1

  pub settled_begins : (s t : List O) (xs ys : List (Attempt O)) → IsPrefix s t → Chained s t (xs ++ ys) → IsPrefix (settled_from s xs) (tried_from t (xs ++ ys))
  settled_begins s t [] [] st c = st
  settled_begins s t [] (y ∷ ys) st c = begins_on s y.settled (tried_from y.tried ys) c.0.stays (settled_begins y.settled y.tried [] ys c.0.goes_on c.1)
  settled_begins s t (x ∷ xs) ys st c = settled_begins x.settled x.tried xs ys c.0.goes_on c.1

  pub next_begins : (s t : List O) (xs : List (Attempt O)) (e : Attempt O) → Chained s t (xs ++ e ∷ []) → IsPrefix e.settled (tried_from t xs)
  next_begins s t [] e c = c.0.was_tried
  next_begins s t (x ∷ xs) e c = next_begins x.settled x.tried xs e c.1

  lawful_front : (xs zs : List (Attempt O)) → IsPrefix xs zs → AreLawful zs → AreLawful xs
  lawful_front xs zs p c = chained_front [] [] xs p.0 (subst AreLawful (sym p.1) c)

  one_after : (learnt shown : List (Attempt O)) → (p : IsPrefix shown learnt) → AreLawful learnt → length learnt ≡ suc (length shown) → IsPrefix (settled_of learnt) (tried_of shown)
  one_after learnt shown ([], is) c n = absurd (omega (arith, ap length is, length-append shown []))
  one_after learnt shown (e ∷ [], is) c n =
      let b = next_begins [] [] shown e (subst AreLawful (sym is) c) in
      subst (λ xs. IsPrefix (settled_of xs) (tried_of shown)) is (subst (λ xs. IsPrefix xs (tried_of shown)) (sym (settled_last [] shown e)) b)
  one_after learnt shown (e ∷ x ∷ xs, is) c n = absurd (omega (arith, ap length is, length-append shown (e ∷ x ∷ xs)))

  -- what is settled begins what is tried at most one attempt earlier
  pub learnt_begins_shown : (learnt shown both : List (Attempt O)) → AreLawful both → IsPrefix learnt both → IsPrefix shown both → length learnt ≤ suc (length shown)
      → IsPrefix (settled_of learnt) (tried_of shown)
  learnt_begins_shown learnt shown both c p q le = ⊎_elim
      (λ (few : length learnt ≤ length shown).
      let r = shorter_begins learnt shown both p q few in
      subst (λ xs. IsPrefix (settled_of learnt) (tried_of xs)) r.1 (settled_begins [] [] learnt r.0 (begins_itself []) (subst AreLawful (sym r.1) (lawful_front shown both q c))))
      (λ (more : suc (length shown) ≤ length learnt).
      one_after learnt shown (shorter_begins shown learnt both q p (omega (arith, more))) (lawful_front learnt both p c) (omega (arith, le, more)))
      (up_to_or_more (length learnt) (length shown))

  -- what fewer attempts settle begins what more settle
  pub settled_in_longer : (xs ys both : List (Attempt O)) → AreLawful both → IsPrefix xs both → IsPrefix ys both → length xs ≤ length ys → IsPrefix (settled_of xs) (settled_of ys)
  settled_in_longer xs ys both c p q le =
      let r = shorter_begins xs ys both p q le in
      subst (λ zs. IsPrefix (settled_of xs) (settled_of zs)) r.1 (settled_stays [] [] xs r.0 (subst AreLawful (sym r.1) (lawful_front ys both q c)))

  pub one_more_follows : (xs : List (Attempt O)) (op : O) → take (length (settled_of xs)) (tried_of xs) ≡ settled_of xs → MayFollow xs (one_more xs op)
  one_more_follows xs op on = record { stays = begins_itself (settled_of xs); was_tried = begins_of_take (settled_of xs) (tried_of xs) on; goes_on = begins_more (settled_of xs) (op ∷ []) }

  pub well_ended_follows : (xs : List (Attempt O)) → take (length (settled_of xs)) (tried_of xs) ≡ settled_of xs → MayFollow xs (well_ended xs)
  well_ended_follows xs on = record { stays = begins_of_take (settled_of xs) (tried_of xs) on; was_tried = begins_itself (tried_of xs); goes_on = begins_itself (tried_of xs) }

-- The exchange that adds an attempt keeps the rule of the book.

module _ {O : Type 0} where
  abbrev shown : List (Attempt O) → List (Attempt O)
  shown log = []

  abbrev moved : List (Attempt O) → List (Attempt O) → ℕ → Type 0
  moved xs ys n = Unit {0}

  abbrev Going : List (Attempt O) → Option ℕ → Attempt O → ℕ → List Cell → List (Attempt O) → Type 0
  Going v a e old cells log = Goes IsKept shown moved 0 (v, (no_nib, a)) (λ n. either (n == old) (old + 1) n) (Adds (step 0 old (old + 1) e) (v, (no_nib, a))) cells log

  goes : (log v : List (Attempt O)) (a : Option ℕ) (e : Attempt O) (old : ℕ) → length v ≡ old → MayFollow v e → AreLawful log → IsPrefix v log
      → (b : Bool) → (length log == old) ≡ b → Going v a e old ((length log, true) ∷ (0, true) ∷ []) log
  goes log v a e old len may lawful pre true is =
      let here : length log ≡ old = grind (arith, nat_tests) in
      let same : v ≡ log = begins_no_more v log pre (omega (arith, here, len)) in
      let n : either (length log == old) (old + 1) (length log) ≡ length (log ++ e ∷ []) = rw is (omega (arith, here, length-append log (e ∷ []))) in (
        keeps,
        e ∷ [],
        a,
        tt,
        record { words = ap (λ (k : ℕ). (k, true) ∷ (0, true) ∷ []) n; lawful = chained_more [] [] log e lawful (subst (λ xs. MayFollow xs e) same may) },
        inl (refl, refl),
        rw is (ap (λ w. w ++ e ∷ []) (sym same)),
      )
  goes log v a e old len may lawful pre false is =
      let all : log ++ [] ≡ log = append-nil log in
      let n : either (length log == old) (old + 1) (length log) ≡ length (log ++ []) = rw is (ap length (sym all)) in (
        keeps,
        [],
        a,
        tt,
        record { words = ap (λ (k : ℕ). (k, true) ∷ (0, true) ∷ []) n; lawful = subst AreLawful (sym all) lawful },
        inl (refl, refl),
        rw is (ap length (sym all)),
      )

  -- the exchange adds the attempt to those that were seen, or leaves the book as it is
  pub adds_moves : (v : List (Attempt O)) (a : Option ℕ) (e : Attempt O) (old : ℕ) → length v ≡ old → MayFollow v e
      → Moves IsKept shown moved 0 (v, (no_nib, a)) (λ n. either (n == old) (old + 1) n) (Adds (step 0 old (old + 1) e) (v, (no_nib, a)))
  adds_moves v a e old len may cs log kept pre away =
      let P : List Cell → Type 0 = λ c. (0 < length c) × ((cell c 0).1 ≡ true) × Going v a e old c log in
      subst P (sym kept.words) (omega arith, refl, goes log v a e old len may kept.lawful pre (length log == old) refl)

-- Each step of a live tablet's pair keeps its rule.

pub later_itself : (x : PublishedState) → IsLater x x
later_itself x = record { book = refl; range = refl; begins = begins_itself (list_of x) }

pub later_on : (x y z : PublishedState) → IsLater x y → IsLater y z → IsLater x z
later_on x y z a b = record { book = b.book ∙ a.book; range = b.range ∙ a.range; begins = begins_on (list_of x) (list_of y) (list_of z) a.begins b.begins }

view_later : (x y : PublishedState) (v : Option PublishedState) → ((seen : PublishedState) → v ≡ Some seen → IsLater seen x) → IsLater x y → IfSome v (λ seen. IsLater seen y)
view_later x y None all later = tt
view_later x y (Some seen) all later = later_on seen x y (all seen refl) later

pub admits : Admits AllBefore None
admits x views h index seen at = ⊎_elim (h index seen) (λ (e : None ≡ Some seen). absurd (cc e)) (at_snoc views None (Some seen) index at)

-- a publication or an entry, of something later
pub turns_at : (index : ℕ) (v : Option PublishedState) (x y : PublishedState) → IsLater x y → TurnsAt AllBefore index v x y GoesOn
turns_at index v x y later views h at = (
  Some y,
  (λ j u e. ⊎_elim
      (λ (t : (j ≡ index) × (Some y ≡ Some u)). let same : y ≡ u = cc (t.1) in subst (λ z. IsLater z y) same (later_itself y))
      (λ (t : (j ≢ index) × (get_elem? views j ≡ some (Some u))). later_on u x y (h j u t.1) later)
      (at_set views index j (Some y) (Some u) e)),
  (view_later x y v (λ seen is. h index seen (at ∙ ap some is)) later, refl),
)

pub turns : (index : ℕ) (v : Option PublishedState) → Turns AllBefore index v (λ x. x) GoesOn
turns index v x = turns_at index v x x (later_itself x)

pub forks : (index : ℕ) (v : Option PublishedState) → Forks AllBefore index v v v
forks index v x views h at j u e = ⊎_elim
    (λ (old : get_elem? (set views index v) j ≡ some (Some u)). ⊎_elim
    (λ (t : (j ≡ index) × (v ≡ Some u)). h index u (at ∙ ap some t.1))
    (λ (t : (j ≢ index) × (get_elem? views j ≡ some (Some u))). h j u t.1)
    (at_set views index j v (Some u) old))
    (λ (new : v ≡ Some u). h index u (at ∙ ap some new))
    (at_snoc (set views index v) v (Some u) j e)

pub merges : (index : ℕ) (v : Option PublishedState) (other : ℕ) (w : Option PublishedState) → Merges AllBefore index v other w w None
merges index v other w x views h at apart there j u e = ⊎_elim
    (λ (t : (j ≡ other) × (None ≡ Some u)). absurd (cc (t.1)))
    (λ (t : (j ≢ other) × (get_elem? (set views index w) j ≡ some (Some u))). ⊎_elim
    (λ (s : (j ≡ index) × (w ≡ Some u)). later_than u s.1)
    (λ (s : (j ≢ index) × (get_elem? views j ≡ some (Some u))). h j u s.1)
    (at_set views index j w (Some u) t.1))
    (at_set (set views index w) other j None (Some u) e)
  where
    later_than : (u : PublishedState) → w ≡ Some u → IsLater u x
    later_than u is = ⊎_elim
        (λ (t : (other ≡ index) × (w ≡ w)). absurd (apart t.0))
        (λ (t : (other ≢ index) × (get_elem? views other ≡ some w)). h other u (t.1 ∙ ap some is))
        (at_set views index other w w there)

-- States and histories with one operation more.

pub fold_last : {A B : Type 0} (f : A → B → A) (x : A) (ys : List B) (y : B) → fold f x (ys ++ y ∷ []) ≡ f (fold f x ys) y
fold_last f x [] y = refl
fold_last f x (z ∷ ys) y = fold_last f (f x z) ys y

pub replayed_more : (s n : TabletStateValue) (before after : List TabletOp) (op : TabletOp) → s ≡ state_of s.range before → n ≡ tablet_after s op → after ≡ before ++ op ∷ [] → n ≡ state_of n.range after
replayed_more s n before after op is next more =
    let same : n.range ≡ s.range = ap (λ (t : TabletStateValue). t.range) next ∙ range_stays s op in
    let here : n ≡ state_of s.range (before ++ op ∷ []) = next ∙ (ap (λ t. tablet_after t op) is ∙ sym (fold_last tablet_after (empty_tablet s.range) before op)) in
    here ∙ (ap (λ ops. state_of s.range ops) (sym more) ∙ ap (λ r. state_of r after) (sym same))

pub later_by : (x y : PublishedState) (op : TabletOp) → y.position.seen.book ≡ x.position.seen.book → y.state ≡ tablet_after x.state op → list_of y ≡ list_of x ++ op ∷ [] → IsLater x y
later_by x y op book next more = record {
  book = book;
  range = ap (λ (t : TabletStateValue). t.range) next ∙ range_stays x.state op;
  begins = subst (λ l. IsPrefix (list_of x) l) (sym more) (begins_more (list_of x) (op ∷ []));
}

-- an entry finds a state that extends the one before, if there was one
pub goes_on_from : (v w : Option PublishedState) (old x y : PublishedState) → v ≡ Some old → GoesOn v x y w → IsLater old y
goes_on_from v w old x y is on = subst (λ u. IfSome u (λ seen. IsLater seen y)) is on.0

-- what extends the state found last extends what was seen
pub begins_later : (s f n : PublishedState) → take (length (list_of s)) (list_of f) ≡ list_of s → IsLater f n → IsPrefix (list_of s) (list_of n)
begins_later s f n on later = begins_on (list_of s) (list_of f) (list_of n) (begins_of_take (list_of s) (list_of f) on) later.begins

pub still_on : (s f n : PublishedState) → take (length (list_of s)) (list_of f) ≡ list_of s → IsLater f n → take (length (list_of s)) (list_of n) ≡ list_of s
still_on s f n on later = take_of_begins (list_of s) (list_of n) (begins_later s f n on later)
