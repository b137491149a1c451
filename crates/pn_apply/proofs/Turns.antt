-- Items and tablets of which the first ones are worked.
use Rattle.std.proofs.Common.{◌≡◌, ℕ, zero, suc, ◌<◌, ◌≤◌, List, [], ◌∷◌, length, map, get_or, refl, ap, inl, inr, arith, ◌+◌, ◌++◌, take, drop, set, sym, ◌∙◌, subst, add-one}
use Rattle.std.specs.Prelude.{Result, Ok, Err, OnErr, ◌⊎◌}
use Rattle.pn_tablet.specs.Tablets.{TabletStateValue}
use Rattle.pn_tablet.specs.Steps.{tablet_after, HasPositions}
use Rattle.pn_tablet.specs.declared.state.TabletOp.{TabletOp}
use Rattle.pn_apply.specs.Applying.{IsJoinIn, AreJoinsIn, HavePositions, all_stepped, AreOldOrStepped, IsSomeOld, Each, EachOf, OneOf, IsKept}

-- Tablets of which the first ones have taken their operations.

abbrev pub prefix_stepped : ℕ → List TabletStateValue → List TabletOp → List TabletStateValue
prefix_stepped zero ts ops = ts
prefix_stepped (suc n) [] ops = []
prefix_stepped (suc n) (t ∷ ts) [] = t ∷ ts
prefix_stepped (suc n) (t ∷ ts) (op ∷ ops) = tablet_after t op ∷ prefix_stepped n ts ops

-- what is read of a mapped list
pub mapped_at : {A B : Type 0} (f : A → B) (xs : List A) (n : ℕ) (d : A) (e : B) → n < length xs → get_or (map f xs) n e ≡ f (get_or xs n d)
mapped_at f [] n d e within = absurd (omega arith)
mapped_at f (x ∷ xs) zero d e within = refl
mapped_at f (x ∷ xs) (suc n) d e within = mapped_at f xs n d e (omega arith)

pub same_length : (ts : List TabletStateValue) (ops : List TabletOp) → AreJoinsIn ts ops → length ts ≡ length ops
same_length [] [] fit = refl
same_length [] (op ∷ ops) fit = absurd fit
same_length (t ∷ ts) [] fit = absurd fit
same_length (t ∷ ts) (op ∷ ops) fit = ap suc (same_length ts ops fit.1)

-- the operation at an index is a join in the range of the tablet there
pub join_at : (ts : List TabletStateValue) (ops : List TabletOp) (n : ℕ) (t : TabletStateValue) (op : TabletOp) → AreJoinsIn ts ops → n < length ops → IsJoinIn (get_or ts n t) (get_or ops n op)
join_at [] [] n t op fit within = absurd (omega arith)
join_at [] (o ∷ ops) n t op fit within = absurd fit
join_at (u ∷ ts) [] n t op fit within = absurd fit
join_at (u ∷ ts) (o ∷ ops) zero t op fit within = fit.0
join_at (u ∷ ts) (o ∷ ops) (suc n) t op fit within = join_at ts ops n t op fit.1 (omega arith)

-- the positions that it brings are those of messages
pub positions_at : (ops : List TabletOp) (n : ℕ) (op : TabletOp) → HavePositions ops → n < length ops → HasPositions (get_or ops n op)
positions_at [] n op have within = absurd (omega arith)
positions_at (o ∷ ops) zero op have within = have.0
positions_at (o ∷ ops) (suc n) op have within = positions_at ops n op have.1 (omega arith)

-- where there is a tablet and none has changed, one is as it was
pub all_old : (ts : List TabletStateValue) → 0 < length ts → IsSomeOld ts ts
all_old [] some = absurd (omega arith)
all_old (t ∷ ts) some = inl refl

-- in the end all have
pub stepped_whole : (ts : List TabletStateValue) (ops : List TabletOp) (n : ℕ) → AreJoinsIn ts ops → length ops ≤ n → prefix_stepped n ts ops ≡ all_stepped ts ops
stepped_whole [] [] zero fit past = refl
stepped_whole [] [] (suc n) fit past = refl
stepped_whole [] (o ∷ ops) n fit past = absurd fit
stepped_whole (u ∷ ts) [] n fit past = absurd fit
stepped_whole (u ∷ ts) (o ∷ ops) zero fit past = absurd (omega arith)
stepped_whole (u ∷ ts) (o ∷ ops) (suc n) fit past = ap (λ rest. tablet_after u o ∷ rest) (stepped_whole ts ops n fit.1 (omega arith))

-- at any time each is as it was or as its operation leaves it
pub old_or_stepped : (ts : List TabletStateValue) (ops : List TabletOp) (n : ℕ) → AreJoinsIn ts ops → AreOldOrStepped ts ops (prefix_stepped n ts ops)
old_or_stepped [] [] zero fit = tt
old_or_stepped [] [] (suc n) fit = tt
old_or_stepped [] (o ∷ ops) n fit = absurd fit
old_or_stepped (u ∷ ts) [] n fit = absurd fit
old_or_stepped (u ∷ ts) (o ∷ ops) zero fit = (inl refl, old_or_stepped ts ops zero fit.1)
old_or_stepped (u ∷ ts) (o ∷ ops) (suc n) fit = (inr refl, old_or_stepped ts ops n fit.1)

-- a fact that always holds also holds after an error
pub on_err : {T E : Type 0} (r : Result T E) {P : Type 0} → P → OnErr r P
on_err (Ok x) holds = tt
on_err (Err e) holds = holds

-- Items of which the first ones are worked.

-- the number one further on
pub next_number : (n k : ℕ) → n + 1 + k ≡ n + suc k
next_number n k = omega arith

-- what holds for each member holds for the one at an index
pub each_at : {A : Type 0} (holds : ℕ → A → Type 0) (n : ℕ) (xs : List A) (k : ℕ) (d : A) → Each holds n xs → k < length xs → holds (n + k) (get_or xs k d)
each_at holds n [] k d all within = absurd (omega (arith, within))
each_at holds n (x ∷ xs) zero d all within = subst (λ (m : ℕ). holds m x) (omega arith) all.0
each_at holds n (x ∷ xs) (suc k) d all within = subst (λ (m : ℕ). holds m (get_or xs k d)) (next_number n k) (each_at holds (n + 1) xs k d all.1 (omega (arith, within)))

pub each_low : {A : Type 0} (holds : ℕ → A → Type 0) (n : ℕ) (xs ys : List A) → Each holds n (xs ++ ys) → Each holds n xs
each_low holds n [] ys all = tt
each_low holds n (x ∷ xs) ys all = (all.0, each_low holds (n + 1) xs ys all.1)

pub each_high : {A : Type 0} (holds : ℕ → A → Type 0) (n : ℕ) (xs ys : List A) → Each holds n (xs ++ ys) → Each holds (n + length xs) ys
each_high holds n [] ys all = subst (λ (m : ℕ). Each holds m ys) (omega arith) all
each_high holds n (x ∷ xs) ys all = subst (λ (m : ℕ). Each holds m ys) (next_number n (length xs)) (each_high holds (n + 1) xs ys all.1)

-- what holds for both parts holds for the whole
pub each_joined : {A B : Type 0} (holds : ℕ → A → B → Type 0) (n : ℕ) (xs us : List A) (ys vs : List B) → EachOf holds n xs ys → EachOf holds (n + length xs) us vs → EachOf holds n (xs ++ us) (ys ++ vs)
each_joined holds n [] us [] vs low high = subst (λ (m : ℕ). EachOf holds m us vs) (omega arith) high
each_joined holds n [] us (y ∷ ys) vs low high = absurd low
each_joined holds n (x ∷ xs) us [] vs low high = absurd low
each_joined holds n (x ∷ xs) us (y ∷ ys) vs low high = (low.0, each_joined holds (n + 1) xs us ys vs low.1 (subst (λ (m : ℕ). EachOf holds m us vs) (sym (next_number n (length xs))) high))

pub each_count : {A B : Type 0} (holds : ℕ → A → B → Type 0) (n : ℕ) (xs : List A) (ys : List B) → EachOf holds n xs ys → length ys ≡ length xs
each_count holds n [] [] all = refl
each_count holds n [] (y ∷ ys) all = absurd all
each_count holds n (x ∷ xs) [] all = absurd all
each_count holds n (x ∷ xs) (y ∷ ys) all = ap suc (each_count holds (n + 1) xs ys all.1)

-- what is weaker holds too
pub each_weaker : {A B : Type 0} (holds less : ℕ → A → B → Type 0) (n : ℕ) (xs : List A) (ys : List B) → ((m : ℕ) (x : A) (y : B) → holds m x y → less m x y) → EachOf holds n xs ys → EachOf less n xs ys
each_weaker holds less n [] [] weaker all = tt
each_weaker holds less n [] (y ∷ ys) weaker all = absurd all
each_weaker holds less n (x ∷ xs) [] weaker all = absurd all
each_weaker holds less n (x ∷ xs) (y ∷ ys) weaker all = (weaker n x y all.0, each_weaker holds less (n + 1) xs ys weaker all.1)

pub one_low : {A : Type 0} (holds : A → A → Type 0) (xs us ys vs : List A) → OneOf holds xs ys → OneOf holds (xs ++ us) (ys ++ vs)
one_low holds [] us ys vs one = absurd one
one_low holds (x ∷ xs) us [] vs one = absurd one
one_low holds (x ∷ xs) us (y ∷ ys) vs (inl is) = inl is
one_low holds (x ∷ xs) us (y ∷ ys) vs (inr one) = inr (one_low holds xs us ys vs one)

pub one_high : {A : Type 0} (holds : A → A → Type 0) (xs us ys vs : List A) → length ys ≡ length xs → OneOf holds us vs → OneOf holds (xs ++ us) (ys ++ vs)
one_high holds [] us [] vs same one = one
one_high holds [] us (y ∷ ys) vs same one = absurd (omega (arith, same))
one_high holds (x ∷ xs) us [] vs same one = absurd (omega (arith, same))
one_high holds (x ∷ xs) us (y ∷ ys) vs same one = inr (one_high holds xs us ys vs (omega (arith, same)) one)

-- the first items are worked, and the later ones are as they were
abbrev pub Halfway : {I : Type 0} → (ℕ → I → I → Type 0) → ℕ → ℕ → List I → List I → Type 0
Halfway turns n zero old now = now ≡ old
Halfway turns n (suc k) (p ∷ old) (q ∷ now) = turns n p q × Halfway turns (n + 1) k old now
Halfway turns n (suc k) _ _ = ⊥

module _ {I : Type 0} (turns : ℕ → I → I → Type 0) where
  pub half_count : (n k : ℕ) (old now : List I) → Halfway turns n k old now → length now ≡ length old
  half_count n zero old now half = ap length half
  half_count n (suc k) [] now half = absurd half
  half_count n (suc k) (p ∷ old) [] half = absurd half
  half_count n (suc k) (p ∷ old) (q ∷ now) half = ap suc (half_count (n + 1) k old now half.1)

  -- the next item is as it was
  pub half_next : (n k : ℕ) (old now : List I) (d : I) → Halfway turns n k old now → get_or now k d ≡ get_or old k d
  half_next n zero old now d half = ap (λ (xs : List I). get_or xs 0 d) half
  half_next n (suc k) [] now d half = absurd half
  half_next n (suc k) (p ∷ old) [] d half = absurd half
  half_next n (suc k) (p ∷ old) (q ∷ now) d half = half_next (n + 1) k old now d half.1

  -- one more item is worked
  half_suc : (n k : ℕ) (old now : List I) (d q : I) → Halfway turns n k old now → k < length old → turns (n + k) (get_or old k d) q → Halfway turns n (suc k) old (set now k q)
  half_suc n zero [] now d q half within turned = absurd (omega (arith, within))
  half_suc n zero (p ∷ old) [] d q half within turned = absurd (omega (arith, ap length half))
  half_suc n zero (p ∷ old) (r ∷ now) d q half within turned = (subst (λ (m : ℕ). turns m p q) (omega arith) turned, ap (drop 1) half)
  half_suc n (suc k) [] now d q half within turned = absurd half
  half_suc n (suc k) (p ∷ old) [] d q half within turned = absurd half
  half_suc n (suc k) (p ∷ old) (r ∷ now) d q half within turned =
      (half.0, half_suc (n + 1) k old now d q half.1 (omega (arith, within)) (subst (λ (m : ℕ). turns m (get_or old k d) q) (sym (next_number n k)) turned))

  pub half_more : (n k : ℕ) (old now : List I) (d q : I) → Halfway turns n k old now → k < length old → turns (n + k) (get_or old k d) q → Halfway turns n (k + 1) old (set now k q)
  half_more n k old now d q half within turned = subst (λ (m : ℕ). Halfway turns n m old (set now k q)) (sym (add-one k)) (half_suc n k old now d q half within turned)

  -- in the end all are
  pub half_whole : (n k : ℕ) (old now : List I) → length old ≤ k → Halfway turns n k old now → EachOf turns n old now
  half_whole n zero [] [] past half = tt
  half_whole n zero [] (q ∷ now) past half = absurd (omega (arith, ap length half))
  half_whole n zero (p ∷ old) now past half = absurd (omega (arith, past))
  half_whole n (suc k) [] now past half = absurd half
  half_whole n (suc k) (p ∷ old) [] past half = absurd half
  half_whole n (suc k) (p ∷ old) (q ∷ now) past half = (half.0, half_whole (n + 1) k old now (omega (arith, past)) half.1)

-- where memory runs out at an item, each is worked or kept
module _ {I : Type 0} (turns : ℕ → I → I → Type 0) (kept : I → I → Type 0) where
  abbrev tried : ℕ → I → I → Type 0
  tried n p q = turns n p q ⊎ IsKept kept p q

  pub all_kept : (n : ℕ) (old : List I) → EachOf tried n old old
  all_kept n [] = tt
  all_kept n (p ∷ old) = (inr (inl refl), all_kept (n + 1) old)

  pub one_kept : (old : List I) → (length old ≡ 0 → ⊥) → OneOf (IsKept kept) old old
  one_kept [] some = absurd (some refl)
  one_kept (p ∷ old) some = inl (inl refl)

  pub half_failed : (n k : ℕ) (old now : List I) (d q : I) → Halfway turns n k old now → k < length old → kept (get_or old k d) q → EachOf tried n old (set now k q)
  half_failed n zero [] now d q half within fails = absurd (omega (arith, within))
  half_failed n zero (p ∷ old) [] d q half within fails = absurd (omega (arith, ap length half))
  half_failed n zero (p ∷ old) (r ∷ now) d q half within fails = (inr (inr fails), subst (EachOf tried (n + 1) old) (sym (ap (drop 1) half)) (all_kept (n + 1) old))
  half_failed n (suc k) [] now d q half within fails = absurd half
  half_failed n (suc k) (p ∷ old) [] d q half within fails = absurd half
  half_failed n (suc k) (p ∷ old) (r ∷ now) d q half within fails = (inl half.0, half_failed (n + 1) k old now d q half.1 (omega (arith, within)) fails)

  pub half_kept : (n k : ℕ) (old now : List I) (d q : I) → Halfway turns n k old now → k < length old → kept (get_or old k d) q → OneOf (IsKept kept) old (set now k q)
  half_kept n zero [] now d q half within fails = absurd (omega (arith, within))
  half_kept n zero (p ∷ old) [] d q half within fails = absurd (omega (arith, ap length half))
  half_kept n zero (p ∷ old) (r ∷ now) d q half within fails = inl (inr fails)
  half_kept n (suc k) [] now d q half within fails = absurd half
  half_kept n (suc k) (p ∷ old) [] d q half within fails = absurd half
  half_kept n (suc k) (p ∷ old) (r ∷ now) d q half within fails = inr (half_kept (n + 1) k old now d q half.1 (omega (arith, within)) fails)

-- what is made of the first items
module _ {I M : Type 0} (makes : ℕ → I → M → Type 0) where
  made_suc : (n k : ℕ) (old : List I) (all : List M) (d : I) (m : M) → EachOf makes n (take k old) all → k < length old → makes (n + k) (get_or old k d) m → EachOf makes n (take (suc k) old) (all ++ m ∷ [])
  made_suc n zero [] all d m so_far within made = absurd (omega (arith, within))
  made_suc n zero (p ∷ old) [] d m so_far within made = (subst (λ (k : ℕ). makes k p m) (omega arith) made, tt)
  made_suc n zero (p ∷ old) (x ∷ all) d m so_far within made = absurd so_far
  made_suc n (suc k) [] all d m so_far within made = absurd (omega (arith, within))
  made_suc n (suc k) (p ∷ old) [] d m so_far within made = absurd so_far
  made_suc n (suc k) (p ∷ old) (x ∷ all) d m so_far within made =
      (so_far.0, made_suc (n + 1) k old all d m so_far.1 (omega (arith, within)) (subst (λ (j : ℕ). makes j (get_or old k d) m) (sym (next_number n k)) made))

  pub made_more : (n k : ℕ) (old : List I) (all : List M) (d : I) (m : M) → EachOf makes n (take k old) all → k < length old → makes (n + k) (get_or old k d) m → EachOf makes n (take (k + 1) old) (all ++ m ∷ [])
  made_more n k old all d m so_far within made = subst (λ (j : ℕ). EachOf makes n (take j old) (all ++ m ∷ [])) (sym (add-one k)) (made_suc n k old all d m so_far within made)

  pub made_whole : (n k : ℕ) (old : List I) (all : List M) → length old ≤ k → EachOf makes n (take k old) all → EachOf makes n old all
  made_whole n zero [] all past so_far = so_far
  made_whole n zero (p ∷ old) all past so_far = absurd (omega (arith, past))
  made_whole n (suc k) [] all past so_far = so_far
  made_whole n (suc k) (p ∷ old) [] past so_far = absurd so_far
  made_whole n (suc k) (p ∷ old) (x ∷ all) past so_far = (so_far.0, made_whole (n + 1) k old all (omega (arith, past)) so_far.1)

-- the next item, which is worked under its tablet's number
module _ {I : Type 0} (turns : ℕ → I → I → Type 0) (n k : ℕ) (old now : List I) (half : Halfway turns n k old now) (within : k < length old) (t : ℕ) (number : t ≡ n + k) (p : I) (read : p ≡ get_or now k p) where
  as_before : p ≡ get_or old k p
  as_before = read ∙ half_next turns n k old now p half

  pub next_fits : (fits : ℕ → I → Type 0) → Each fits n old → fits t p
  next_fits fits all = subst (λ (m : ℕ). fits m p) (sym number) (subst (fits (n + k)) (sym as_before) (each_at fits n old k p all within))

  pub next_turned : (q : I) → turns t p q → Halfway turns n (k + 1) old (set now k q)
  next_turned q turned = half_more turns n k old now p q half within (subst (λ (x : I). turns (n + k) x q) as_before (subst (λ (m : ℕ). turns m p q) number turned))

  pub next_made : {M : Type 0} (makes : ℕ → I → M → Type 0) (all : List M) (m : M) → EachOf makes n (take k old) all → makes t p m → EachOf makes n (take (k + 1) old) (all ++ m ∷ [])
  next_made makes all m so_far made = made_more makes n k old all p m so_far within (subst (λ (x : I). makes (n + k) x m) as_before (subst (λ (j : ℕ). makes j p m) number made))

  pub next_failed : (kept : I → I → Type 0) (q : I) → kept p q → EachOf (λ m x y. turns m x y ⊎ IsKept kept x y) n old (set now k q)
  next_failed kept q fails = half_failed turns kept n k old now p q half within (subst (λ (x : I). kept x q) as_before fails)

  pub next_kept : (kept : I → I → Type 0) (q : I) → kept p q → OneOf (IsKept kept) old (set now k q)
  next_kept kept q fails = half_kept turns kept n k old now p q half within (subst (λ (x : I). kept x q) as_before fails)
