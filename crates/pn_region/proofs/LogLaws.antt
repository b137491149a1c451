-- The laws of logs: what one keeps, and its changes after a number.
use Rattle.std.proofs.Common.{◌≡◌, inr, ℕ, ◌+◌, ◌-◌, min, List, [], ◌∷◌, ◌++◌, length, drop, refl, sym, ap, ◌∙◌, subst, arith, append_assoc, append-nil, length-append, length-drop, drop-drop, ◌⊎◌, inl, ◌<◌, ◌≤◌, nat_le, Bool, true, false, ◌&&◌, if◌then◌else◌, slice_get, Vec, Option, Some, None, option_map, Contains}
use Rattle.std.proofs.lemmas.List.{drop-append-le, map-append, drop-map, drop_more, length-map}
use Rattle.std.specs.declared.alloc.Global.{Global}
use Rattle.std.proofs.Math.Seq.{drop-append-add, drop-append_seam}
use Rattle.std.proofs.lemmas.Bool.{and_parts, leb-true, cases_lt}
use Rattle.std.proofs.lemmas.Bool.Decides.{nat_tests}
use Rattle.std.proofs.lemmas.Option.{slice_get_within, get_or_from_slice_get}
use Rattle.std.proofs.lemmas.List.Elements.{Contains-append_left, Contains-append_right, Contains-push}
use Rattle.circular_buffer.specs.Buffer.{Buffer, buffer, keep_last}
use Rattle.pn_tablet.specs.declared.change.Change.{Change}
use Rattle.pn_region.specs.declared.notices.Entry.{Entry}
use Rattle.pn_region.specs.declared.notices.Entry.TheVariants.{Changed, Break}
use Rattle.pn_region.specs.Log.{AreKept, kept_with, IsLog, entries_of, changes_in, is_recent, changes_after, notices_from, last_of, IsSince}
use Rattle.pn_region.specs.declared.notices.TheConstants.{MAX_NOTICES, LAST_NUMBER}
use Rattle.pn_region.specs.declared.notices.Notice.{Notice}
use Rattle.pn_region.specs.declared.notices.Since.TheVariants.{Notices, Missed}

-- What a log keeps, as it grows.

-- to keep the last ones of what was kept and one more is to keep the last ones of all
pub kept_more : {X : Type 0} (n : ℕ) (xs : List X) (x : X) → keep_last n (keep_last n xs ++ x ∷ []) ≡ keep_last n (xs ++ x ∷ [])
kept_more n xs x =
    let m = length xs - n in
    let whole : drop m xs ++ x ∷ [] ≡ drop m (xs ++ x ∷ []) = sym (drop-append-le m xs (x ∷ []) (omega arith)) in
    let long = length-append xs (x ∷ []) in
    let left = length-drop m (xs ++ x ∷ []) in
    ap (λ l. drop (length l - n) l) whole
    ∙ drop-drop (length (drop m (xs ++ x ∷ [])) - n) m (xs ++ x ∷ [])
    ∙ ap (λ k. drop k (xs ++ x ∷ [])) (omega arith)

changed_more : (changes : List Change) (change : Change) (before entries : List Entry) → entries ≡ before ++ entries_of changes → entries ++ Changed change ∷ [] ≡ before ++ entries_of (changes ++ change ∷ [])
changed_more changes change before entries parts =
    ap (λ es. es ++ Changed change ∷ []) parts ∙ append_assoc before (entries_of changes) (Changed change ∷ []) ∙ ap (λ es. before ++ es) (sym (map-append Changed changes (change ∷ [])))

-- one more entry
kept_on : (entries : List Entry) (kept : List Change) (entry : Entry) → AreKept entries kept → AreKept (entries ++ entry ∷ []) (kept_with entry MAX_NOTICES kept)
kept_on entries kept (Changed change) are = record {
  before = are.before;
  later = are.later ++ change ∷ [];
  parts = changed_more are.later change are.before entries are.parts;
  is_cut = are.is_cut;
  last = ap (λ l. keep_last MAX_NOTICES (l ++ change ∷ [])) are.last ∙ kept_more MAX_NOTICES are.later change;
}
kept_on entries kept Break are = record {
  before = entries ++ Break ∷ [];
  later = [];
  parts = sym (append-nil (entries ++ Break ∷ []));
  is_cut = inr (entries, refl);
  last = refl;
}

pub goes_on : (entries more : List Entry) (last next : ℕ) (kept left : Buffer Change) (entry : Entry) → IsLog entries last kept
    → more ≡ entries ++ entry ∷ [] → next ≡ min (last + 1) (LAST_NUMBER + 1) → left ≡ buffer (kept_with entry kept.capacity kept.items) kept.capacity
    → IsLog more next left
goes_on entries more last next kept left entry is are number keeps =
    let long = length-append entries (entry ∷ []) in
    let count = ap length are in
    record {
      number = omega (arith, is.number);
      capacity = ap (λ b. b.capacity) keeps ∙ is.capacity;
      are_kept = λ few.
          subst (λ es. AreKept es left.items) (sym are)
          (subst (AreKept (entries ++ entry ∷ [])) (sym (ap (λ b. b.items) keeps ∙ ap (λ n. kept_with entry n kept.items) is.capacity))
          (kept_on entries kept.items entry (is.are_kept (omega arith))));
    }

-- The changes of a log after a number.

-- entries of changes are these changes, and with a break among them entries are none
all_in : (changes : List Change) → changes_in (entries_of changes) ≡ Some changes
all_in [] = refl
all_in (change ∷ changes) = ap (option_map (λ (l : List Change). change ∷ l)) (all_in changes)

pub broken : (before after : List Entry) → changes_in (before ++ Break ∷ after) ≡ None
broken [] after = refl
broken (Changed change ∷ before) after = ap (option_map (λ (l : List Change). change ∷ l)) (broken before after)
broken (Break ∷ before) after = refl

module _ (entries : List Entry) (kept : List Change) (are : AreKept entries kept) where
  count : length entries ≡ length are.before + length are.later
  count = ap length are.parts ∙ length-append are.before (entries_of are.later) ∙ ap (λ k. length are.before + k) (length-map are.later Changed)

  kept_count : length kept ≡ length are.later - (length are.later - MAX_NOTICES)
  kept_count = ap length are.last ∙ length-drop (length are.later - MAX_NOTICES) are.later

  few_kept : length kept ≤ MAX_NOTICES
  few_kept = omega (arith, kept_count)

  -- the changes kept from an index on are those after a number
  told : (n index : ℕ) → index ≤ length kept → n + length kept ≡ length entries + index → changes_in (drop n entries) ≡ Some (drop index kept)
  told n index within at =
      let m = n - length are.before in
      let reached : n ≡ length are.before + m = omega (arith, count, kept_count) in
      let passed : (length are.later - MAX_NOTICES) + index ≡ m = omega (arith, count, kept_count) in
      (λ i. changes_in (drop (reached i) (are.parts i)))
      ∙ ap changes_in (drop-append-add are.before (entries_of are.later) m ∙ drop-map Changed m are.later)
      ∙ all_in (drop m are.later)
      ∙ ap Some (sym (ap (drop index) are.last ∙ drop-drop index (length are.later - MAX_NOTICES) are.later ∙ ap (λ k. drop k are.later) passed))

  -- after a lower number there is a break
  untold : (n : ℕ) → n + length kept < length entries → length entries ≤ n + MAX_NOTICES → changes_in (drop n entries) ≡ None
  untold n below recent =
      let lower : n < length are.before = omega (arith, count, kept_count) in
      elim are.is_cut [
        | inl none ↦ let never : ⊥ = omega (arith, lower, ap length none) in absurd never
        | inr cut ↦
            let within : n ≤ length cut.0 = omega (arith, lower, ap length cut.1, length-append cut.0 (Break ∷ [])) in
            let parts : entries ≡ cut.0 ++ Break ∷ entries_of are.later =
            are.parts ∙ ap (λ (es : List Entry). es ++ entries_of are.later) cut.1 ∙ append_assoc cut.0 (Break ∷ []) (entries_of are.later) in
            ap (λ (es : List Entry). changes_in (drop n es)) parts
            ∙ ap changes_in (drop-append-le n cut.0 (Break ∷ entries_of are.later) within)
            ∙ broken (drop n cut.0) (entries_of are.later)
      ]

pub le_true : (m n : ℕ) → m ≤ n → nat_le m n ≡ true
le_true m n few = grind (arith, nat_tests)

pub unless : {A : Type 0} (b : Bool) (value : Option A) → (b ≡ true → value ≡ None) → (if b then value else None) ≡ None
unless true value none = none refl
unless false value none = refl

-- the number that a log has is the last that was given
pub last_given : (entries : List Entry) (last next : ℕ) (kept : Buffer Change) → IsLog entries last kept → next ≡ min last LAST_NUMBER → next ≡ last_of entries
last_given entries last next kept is at = omega (arith, is.number)

module _ (entries : List Entry) (last n : ℕ) (kept : Buffer Change) (is : IsLog entries last kept) where
  pub known : (index : ℕ) → last ≤ LAST_NUMBER → index ≤ length kept.items → n + length kept.items ≡ last + index
      → changes_after entries n ≡ Some (drop index kept.items)
  known index given within at =
      let are = is.are_kept (omega (arith, is.number)) in
      let all : last ≡ length entries = omega (arith, is.number) in
      let few = few_kept entries kept.items are in
      let recent : is_recent entries n ≡ true =
      λ i. le_true n (length entries) (omega arith) i && le_true (length entries) (n + MAX_NOTICES) (omega arith) i && le_true (length entries) LAST_NUMBER (omega arith) i in
      ap (λ b. if b then changes_in (drop n entries) else None) recent ∙ told entries kept.items are n index within (at ∙ ap (λ k. k + index) all)

  gone : n ≤ length entries → length entries ≤ n + MAX_NOTICES → length entries ≤ LAST_NUMBER → (LAST_NUMBER < last) ⊎ ((last < n) ⊎ (n + length kept.items < last))
      → changes_in (drop n entries) ≡ None
  gone there recent given (inl over) = let never : ⊥ = omega (arith, is.number) in absurd never
  gone there recent given (inr (inl past)) = let never : ⊥ = omega (arith, is.number) in absurd never
  gone there recent given (inr (inr lower)) = untold entries kept.items (is.are_kept given) n (omega (arith, is.number)) recent

  pub unknown : (LAST_NUMBER < last) ⊎ ((last < n) ⊎ (n + length kept.items < last)) → changes_after entries n ≡ None
  unknown why = unless (is_recent entries n) (changes_in (drop n entries)) (λ (yet : is_recent entries n ≡ true).
      let parts = and_parts (nat_le n (length entries) && nat_le (length entries) (n + MAX_NOTICES)) (nat_le (length entries) LAST_NUMBER) yet in
      let first = and_parts (nat_le n (length entries)) (nat_le (length entries) (n + MAX_NOTICES)) parts.0 in
      gone (leb-true n (length entries) first.0) (leb-true (length entries) (n + MAX_NOTICES) first.1) (leb-true (length entries) LAST_NUMBER parts.1) why)

  -- so the answers are those of the log
  pub tells : (next index most : ℕ) (list : Vec Notice Global) → next ≡ last_of entries → most ≡ length kept.items
      → (last ≤ LAST_NUMBER) × (index ≤ most) × (n + most ≡ last + index) → list.items ≡ notices_from n (drop index kept.items) → IsSince entries n (Notices next list)
  tells next index most list at all is_index told = (
    at,
    ap (option_map (notices_from n)) (known index is_index.0 (omega (arith, is_index.1)) (omega (arith, is_index.2))) ∙ ap Some (sym told),
  )

  pub misses : (next most : ℕ) → next ≡ last_of entries → most ≡ length kept.items → (LAST_NUMBER < last) ⊎ ((last < n) ⊎ (n + most < last)) → IsSince entries n (Missed next)
  misses next most at all why = (at, unknown (subst (λ k. (LAST_NUMBER < last) ⊎ ((last < n) ⊎ (n + k < last))) all why))

-- one more change is numbered
drop_got : {X : Type 0} (xs : List X) (i : ℕ) (x : X) → slice_get xs i ≡ Some x → drop i xs ≡ x ∷ drop (i + 1) xs
drop_got xs i x got = drop_more xs i x (slice_get_within xs i x got) ∙ ap (λ y. y ∷ drop (i + 1) xs) (get_or_from_slice_get xs i x x got)

pub told_more : (xs : List Change) (index number : ℕ) (x : Change) (list all : List Notice) → slice_get xs index ≡ Some x → list ++ notices_from number (drop index xs) ≡ all
    → (list ++ record { number = number + 1; change = x } ∷ []) ++ notices_from (number + 1) (drop (index + 1) xs) ≡ all
told_more xs index number x list all got told =
    append_assoc list (record { number = number + 1; change = x } ∷ []) (notices_from (number + 1) (drop (index + 1) xs))
    ∙ ap (λ rest. list ++ notices_from number rest) (sym (drop_got xs index x got)) ∙ told

-- The laws of logs.

-- entries that are changes
exact : (es : List Entry) (changes : List Change) → changes_in es ≡ Some changes → es ≡ entries_of changes
exact [] changes is = let none : [] ≡ changes = cc in ap entries_of none
exact (Changed change ∷ es) changes is =
    elim (changes_in es) as (λ o. changes_in es ≡ o → option_map (λ (l : List Change). change ∷ l) o ≡ Some changes → Changed change ∷ es ≡ entries_of changes) [
      | None ↦ λ rest all. let never : ⊥ = cc in absurd never
      | Some others ↦ λ rest all. let same : change ∷ others ≡ changes = cc in ap (λ (l : List Entry). Changed change ∷ l) (exact es others rest) ∙ ap entries_of same
    ] refl is
exact (Break ∷ es) changes is = let never : ⊥ = cc in absurd never

-- entries that are none have a break
has_break : (es : List Entry) → changes_in es ≡ None → Contains es Break
has_break [] is = let never : ⊥ = cc in absurd never
has_break (Changed change ∷ es) is =
    elim (changes_in es) as (λ o. changes_in es ≡ o → option_map (λ (l : List Change). change ∷ l) o ≡ None → Contains (Changed change ∷ es) Break) [
      | None ↦ λ rest all. Contains-append_right (Changed change ∷ []) es Break (has_break es rest)
      | Some others ↦ λ rest all. let never : ⊥ = cc in absurd never
    ] refl is
has_break (Break ∷ es) is = Contains-append_left (Break ∷ []) es Break (Contains-push [] Break)

when : {A : Type 0} (b : Bool) (value : Option A) (x : A) → (if b then value else None) ≡ Some x → (b ≡ true) × (value ≡ Some x)
when true value x is = (refl, is)
when false value x is = let never : ⊥ = cc in absurd never

pub record IsRecent (entries : List Entry) (n : ℕ) : Type 0 where
  pub there : n ≤ length entries
  pub near : length entries ≤ n + MAX_NOTICES
  pub given : length entries ≤ LAST_NUMBER

recent : (entries : List Entry) (n : ℕ) → is_recent entries n ≡ true → IsRecent entries n
recent entries n yet =
    let parts = and_parts (nat_le n (length entries) && nat_le (length entries) (n + MAX_NOTICES)) (nat_le (length entries) LAST_NUMBER) yet in
    let first = and_parts (nat_le n (length entries)) (nat_le (length entries) (n + MAX_NOTICES)) parts.0 in record {
      there = leb-true n (length entries) first.0;
      near = leb-true (length entries) (n + MAX_NOTICES) first.1;
      given = leb-true (length entries) LAST_NUMBER parts.1;
    }

module _ (entries : List Entry) (n : ℕ) (changes : List Change) (is : changes_after entries n ≡ Some changes) where
  pub told_recent : IsRecent entries n
  told_recent = recent entries n (when (is_recent entries n) (changes_in (drop n entries)) changes is).0

  pub told_entries : drop n entries ≡ entries_of changes
  told_entries = exact (drop n entries) changes (when (is_recent entries n) (changes_in (drop n entries)) changes is).1

  told_count : length entries ≡ n + length changes
  told_count =
      let count = ap length told_entries ∙ length-map changes Changed in
      omega (arith, told_recent.there, length-drop n entries, count)

  pub told_last : last_of entries ≡ n + length changes
  told_last = omega (arith, told_recent.given, told_count)

  pub told_few : length changes ≤ MAX_NOTICES
  told_few = omega (arith, told_recent.near, told_count)

-- two answers, one after the other
pub both_told : (entries more : List Entry) (n : ℕ) (first second : List Change) → changes_after entries n ≡ Some first → changes_after (entries ++ more) (last_of entries) ≡ Some second
    → drop n (entries ++ more) ≡ entries_of (first ++ second)
both_told entries more n first second one two =
    let at : last_of entries ≡ length entries = omega (arith, (told_recent entries n first one).given) in
    let later : more ≡ entries_of second = sym (drop-append_seam entries more) ∙ ap (λ k. drop k (entries ++ more)) (sym at) ∙ told_entries (entries ++ more) (last_of entries) second two in
    drop-append-le n entries more (told_recent entries n first one).there
    ∙ (λ i. told_entries entries n first one i ++ later i)
    ∙ sym (map-append Changed first second)

pub numbers_go_on : (n : ℕ) (first second : List Change) → notices_from n (first ++ second) ≡ notices_from n first ++ notices_from (n + length first) second
numbers_go_on n [] second = ap (λ k. notices_from k second) (omega arith)
numbers_go_on n (change ∷ first) second =
    let on : n + 1 + length first ≡ n + length (change ∷ first) = omega arith in
    ap (λ rest. record { number = n + 1; change = change } ∷ rest) (numbers_go_on (n + 1) first second ∙ ap (λ k. notices_from (n + 1) first ++ notices_from k second) on)

-- no answer reaches over a break
pub below_break : (before after : List Entry) (n : ℕ) (changes : List Change) → changes_after (before ++ Break ∷ after) n ≡ Some changes → length before < n
below_break before after n changes is = elim (cases_lt (length before) n) [
  | inl past ↦ past
  | inr below ↦
      let none = ap changes_in (drop-append-le n before (Break ∷ after) below) ∙ broken (drop n before) after in
      let some = (when (is_recent (before ++ Break ∷ after) n) (changes_in (drop n (before ++ Break ∷ after))) changes is).1 in
      let never : ⊥ = cc in absurd never
]

pub break_after : (entries : List Entry) (n : ℕ) → changes_after entries n ≡ None → n ≤ length entries → length entries ≤ n + MAX_NOTICES → length entries ≤ LAST_NUMBER
    → Contains (drop n entries) Break
break_after entries n none there near given =
    let yet : is_recent entries n ≡ true =
    λ i. le_true n (length entries) there i && le_true (length entries) (n + MAX_NOTICES) near i && le_true (length entries) LAST_NUMBER given i in
    has_break (drop n entries) (ap (λ (b : Bool). if b then changes_in (drop n entries) else None) (sym yet) ∙ none)

pub over : (entries : List Entry) (n : ℕ) → LAST_NUMBER < length entries → (changes_after entries n ≡ None) × (last_of entries ≡ LAST_NUMBER)
over entries n past = (
  unless (is_recent entries n) (changes_in (drop n entries)) (λ (yet : is_recent entries n ≡ true). let never : ⊥ = omega (arith, (recent entries n yet).given) in absurd never),
  omega arith,
)
