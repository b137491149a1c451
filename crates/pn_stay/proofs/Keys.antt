-- What is done for the clients of one key after another: inputs end, quarters end, and the slowest are ended.
use Rattle.std.proofs.Common.{◌≡◌, ◌≢◌, ◌<◌, ◌≤◌, ◌+◌, ℕ, sym, ◌∙◌, subst, ⊎_elim, arith, Bool, Option, None, length, ap, refl, ◌⊎◌, inl, inr, true, false, Some, max}
use Rattle.std.proofs.Math.Nat.{eq-or-lt_of_le, ne_of_lt}
use Rattle.std.proofs.lemmas.List.{get_or_past}
use Rattle.std.specs.Option.{option_map}
use Rattle.std.proofs.lemmas.Bool.{cases_lt}
use Rattle.slab.specs.Slab.{Slab}
use Rattle.pn_stay.specs.Loops.{ending_at, IsEnding, idle_at, EndsQuarter, unread_at, unread_in}
use Rattle.pn_stay.specs.declared.connection.Connection.{Connection}
use Rattle.pn_stay.specs.Unread.{IdleTimeoutValue, EndsAt, EndsLongest, UnreadValue, quiet_in, EndsDeaf, aged, is_deaf}
use Rattle.pn_stay.specs.declared.unread.TheConstants.{QUIET_QUARTERS}

-- What is done for the clients of one key after another.

module _ {A : Type 0} (R : A → A → Type 0) (key : ℕ) (first was now : ℕ → A) (others : (other : ℕ) → other ≢ key → now other ≡ was other) where
  -- it was done for the keys below, and is done for this one
  pub done_more : ((k : ℕ) → k < key → R (first k) (was k)) → was key ≡ first key → R (was key) (now key) → (k : ℕ) → k < key + 1 → R (first k) (now k)
  done_more done same here k below =
      let within : k ≤ key = omega (arith, below) in
      ⊎_elim
      (λ is. subst (λ (n : ℕ). R (first n) (now n)) (sym is) (subst (λ (b : A). R b (now key)) same here))
      (λ less. subst (λ (a : A). R (first k) a) (sym (others k (ne_of_lt less))) (done k less))
      (eq-or-lt_of_le within)

  more : (k : ℕ) → key + 1 ≤ k → key < k
  more k above = omega (arith, above)

  -- those above are as they were
  pub rest_less : ((k : ℕ) → key ≤ k → was k ≡ first k) → (k : ℕ) → key + 1 ≤ k → now k ≡ first k
  rest_less rest k above =
      let over : key ≤ k = omega (arith, above) in
      others k (λ same. ne_of_lt (more k above) (sym same)) ∙ rest k over

-- The inputs of the clients of one key after another end.

-- a key past the slots has no client, and gets none
pub ending_past : (connections : Slab Connection) (key : ℕ) → length connections.slots ≤ key → ending_at connections key ≡ None
ending_past connections key past = ap (option_map (λ (connection : Connection). connection.is_ending)) (get_or_past connections.slots key None past)

pub none_ending : (before after : Option Bool) → before ≡ None → after ≡ before → IsEnding after
none_ending before after none same = subst IsEnding (sym (same ∙ none)) tt

module _ (key : ℕ) (was now : ℕ → Option Bool) (others : (other : ℕ) → other ≢ key → now other ≡ was other) where
  -- those of the keys below have ended, and that of this one ends
  pub ends_more : ((k : ℕ) → k < key → IsEnding (was k)) → IsEnding (now key) → (k : ℕ) → k < key + 1 → IsEnding (now k)
  ends_more ended here k below =
      let within : k ≤ key = omega (arith, below) in
      ⊎_elim
      (λ is. subst (λ (n : ℕ). IsEnding (now n)) (sym is) here)
      (λ less. subst IsEnding (sym (others k (ne_of_lt less))) (ended k less))
      (eq-or-lt_of_le within)

  more_inputs : (k : ℕ) → key + 1 ≤ k → key < k
  more_inputs k above = omega (arith, above)

  -- those above are as they were
  pub inputs_left : (first : ℕ → Option Bool) → ((k : ℕ) → key ≤ k → was k ≡ first k) → (k : ℕ) → key + 1 ≤ k → now k ≡ first k
  inputs_left first rest k above =
      let over : key ≤ k = omega (arith, above) in
      others k (λ same. ne_of_lt (more_inputs k above) (sym same)) ∙ rest k over

-- A quarter ends for the clients of one key after another.

-- a key past the slots has no client, and gets none
pub idle_past : (connections : Slab Connection) (key : ℕ) → length connections.slots ≤ key → idle_at connections key ≡ None
idle_past connections key past = ap (option_map (λ (connection : Connection). connection.idle)) (get_or_past connections.slots key None past)

pub none_in_quarter : (most : ℕ) (before after : Option IdleTimeoutValue) → before ≡ None → after ≡ before → EndsQuarter most before after
none_in_quarter most before after none same =
    subst (λ (a : Option IdleTimeoutValue). EndsQuarter most before a) (sym same)
    (subst (λ (b : Option IdleTimeoutValue). EndsQuarter most b b) (sym none) (record { dropped = λ is. refl; older = λ is. refl }))

module _ (most key : ℕ) (first was now : ℕ → Option IdleTimeoutValue) (others : (other : ℕ) → other ≢ key → now other ≡ was other) where
  -- it has ended for the keys below, and ends for this one
  pub ended_more : ((k : ℕ) → k < key → EndsQuarter most (first k) (was k)) → was key ≡ first key → EndsQuarter most (was key) (now key)
      → (k : ℕ) → k < key + 1 → EndsQuarter most (first k) (now k)
  ended_more ended same here k below =
      let within : k ≤ key = omega (arith, below) in
      ⊎_elim
      (λ is. subst (λ (n : ℕ). EndsQuarter most (first n) (now n)) (sym is) (subst (λ (b : Option IdleTimeoutValue). EndsQuarter most b (now key)) same here))
      (λ less. subst (λ (a : Option IdleTimeoutValue). EndsQuarter most (first k) a) (sym (others k (ne_of_lt less))) (ended k less))
      (eq-or-lt_of_le within)

  more_quarters : (k : ℕ) → key + 1 ≤ k → key < k
  more_quarters k above = omega (arith, above)

  -- those above are as they were
  pub quarters_left : ((k : ℕ) → key ≤ k → was k ≡ first k) → (k : ℕ) → key + 1 ≤ k → now k ≡ first k
  quarters_left rest k above =
      let over : key ≤ k = omega (arith, above) in
      others k (λ same. ne_of_lt (more_quarters k above) (sym same)) ∙ rest k over

-- Clients that took nothing for longest are ended.

-- none is ended
pub ends_none : (clients : ℕ → Option UnreadValue) → EndsLongest clients clients
ends_none clients key = inl refl

-- who stays took nothing for no longer
pub stays_less : (longest : ℕ) (before after : Option UnreadValue) → EndsAt longest before after → quiet_in after ≤ quiet_in before
stays_less longest before after (inl same) = omega (arith, ap quiet_in same)
stays_less longest before after (inr ended) = omega (arith, ap quiet_in ended.0)

-- those are ended that took nothing for longest
pub ends_longest : (longest : ℕ) (before after : ℕ → Option UnreadValue) → ((key : ℕ) → quiet_in (before key) ≤ longest)
    → ((key : ℕ) → EndsAt longest (before key) (after key)) → EndsLongest before after
ends_longest longest before after most ends key = by (ends key)
  where
    by : EndsAt longest (before key) (after key) → (after key ≡ before key)
        ⊎ ((after key ≡ None) × (QUIET_QUARTERS ≤ quiet_in (before key)) × ((other : ℕ) → quiet_in (after other) ≤ quiet_in (before key)))
    by (inl same) = inl same
    by (inr ended) = inr (
      ended.0,
      omega (arith, ended.1, ended.2),
      λ other. omega (arith, ended.1, stays_less longest (before other) (after other) (ends other), most other),
    )

-- again and again
module _ (first between last : ℕ → Option UnreadValue) (before : EndsLongest first between) (after : EndsLongest between last) where
  less : (other : ℕ) → quiet_in (last other) ≤ quiet_in (between other)
  less other = by (after other)
    where
      by : (last other ≡ between other) ⊎ ((last other ≡ None) × (QUIET_QUARTERS ≤ quiet_in (between other))
          × ((k : ℕ) → quiet_in (last k) ≤ quiet_in (between other))) → quiet_in (last other) ≤ quiet_in (between other)
      by (inl same) = omega (arith, ap quiet_in same)
      by (inr ended) = omega (arith, ap quiet_in ended.0)

  pub ends_on : EndsLongest first last
  ends_on key = by (before key) (after key)
    where
      by : (between key ≡ first key) ⊎ ((between key ≡ None) × (QUIET_QUARTERS ≤ quiet_in (first key))
          × ((k : ℕ) → quiet_in (between k) ≤ quiet_in (first key)))
          → (last key ≡ between key) ⊎ ((last key ≡ None) × (QUIET_QUARTERS ≤ quiet_in (between key)) × ((k : ℕ) → quiet_in (last k) ≤ quiet_in (between key)))
          → (last key ≡ first key) ⊎ ((last key ≡ None) × (QUIET_QUARTERS ≤ quiet_in (first key)) × ((k : ℕ) → quiet_in (last k) ≤ quiet_in (first key)))
      by (inl same) (inl stays) = inl (stays ∙ same)
      by (inl same) (inr ended) =
          let long = ap quiet_in same in
          inr (ended.0, omega (arith, long, ended.1), λ k. omega (arith, long, ended.2 k))
      by (inr gone) (inl stays) = inr (stays ∙ gone.0, gone.1, λ k. omega (arith, gone.2 k, less k))
      by (inr gone) (inr ended) = absurd (omega (arith, ap quiet_in gone.0, ended.1))

-- What clients have not taken, key by key.

-- a key past the slots has no client
pub unread_past : (connections : Slab Connection) (key : ℕ) → length connections.slots ≤ key → unread_at connections key ≡ None
unread_past connections key past = ap unread_in (get_or_past connections.slots key None past)

pub deaf_none : (before after : Option UnreadValue) → before ≡ None → after ≡ before → EndsDeaf before after
deaf_none before after none same = subst (λ (b : Option UnreadValue). EndsDeaf b after) (sym none) (same ∙ none)

pub same_told : {a b : Bool} → Some a ≡ Some b → a ≡ b
same_told is = cc

not_true : (b : Bool) → ¬ (b ≡ true) → b ≡ false
not_true true isnt = absurd (isnt refl)
not_true false isnt = refl

-- by whether the client is deaf once it is a quarter older
pub deaf_by : (before between after : Option UnreadValue) (told : Option Bool) → between ≡ option_map aged before → told ≡ option_map is_deaf between
    → (told ≡ Some true → after ≡ None) → (told ≡ Some false → after ≡ between) → (told ≡ None → after ≡ between) → EndsDeaf before after
deaf_by None between after told is tells dropped older none = none (tells ∙ ap (option_map is_deaf) is) ∙ is
deaf_by (Some unread) between after told is tells dropped older none =
    let told_is : told ≡ Some (is_deaf (aged unread)) = tells ∙ ap (option_map is_deaf) is in (
      λ deaf. dropped (told_is ∙ ap (λ (b : Bool). Some b) deaf),
      λ isnt. older (told_is ∙ ap (λ (b : Bool). Some b) (not_true (is_deaf (aged unread)) isnt)) ∙ is,
    )

module _ (quiet : ℕ → ℕ) (key longest here next : ℕ) (is : next ≡ max longest here) (at : here ≡ quiet key) where
  -- none below took none for longer
  pub most_more : ((k : ℕ) → k < key → quiet k ≤ longest) → (k : ℕ) → k < key + 1 → quiet k ≤ next
  most_more most k below =
      let within : k ≤ key = omega (arith, below) in
      ⊎_elim (λ same. omega (arith, is, at, ap quiet same)) (λ less. omega (arith, is, most k less)) (eq-or-lt_of_le within)

  -- a client took none for so long
  pub some_more : (longest ≡ 0) ⊎ ((k : ℕ) × (quiet k ≡ longest)) → (next ≡ 0) ⊎ ((k : ℕ) × (quiet k ≡ next))
  some_more some =
      ⊎_elim
      (λ below. inr (key, omega (arith, is, at, below)))
      (λ over.
      let same : longest ≡ next = omega (arith, is, over) in
      subst (λ (n : ℕ). (n ≡ 0) ⊎ ((k : ℕ) × (quiet k ≡ n))) same some)
      (cases_lt longest here)
