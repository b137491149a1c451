-- The laws of tablets that `src/laws.rt` states, and what an adopted copy brings back.
use Rattle.std.proofs.Common.{◌≡◌, ℕ, ◌≤◌, true, false, cond, List, [], ◌∷◌, Option, Some, None, unwrap_or, refl, arith, Bool, if◌then◌else◌, ◌++◌, Result, Ok, Err, sym, subst, zero, suc, ◌+◌, ◌<◌, not, ◌||◌, nat_lt, length, fold, slice_get, Contains, ap, ◌∙◌}
use Rattle.std.proofs.lemmas.Bool.{and_parts}
use Rattle.std.proofs.lemmas.Bool.Decides.{nat_tests}
use Rattle.std.specs.FinMap.{find}
use Rattle.std.specs.Ordering.{eq_by_cmp}
use Rattle.std.specs.Option.{option_map, option_and_then}
use Rattle.std.specs.List.{list_any, position, position_or_len}
use Rattle.pn_join.specs.Marks.{Positions, Reaches, are_positions, is_position, name_cmp, raised_marks, position_of, falls_short}
use Rattle.pn_join.proofs.MarksFacts.{are_positions-raised_marks, position_of-raised_marks, same_marks, reached}
use Rattle.pn_record.specs.declared.records.Image.{Image}
use Rattle.pn_record.specs.Sets.{bytes_cmp, CellValue}
use Rattle.pn_record.specs.Cells.{cells, spell, Entries, table_of, adds, NotOlder}
use Rattle.pn_record.proofs.Differing.{joined_not_older, held_not_older}
use Rattle.pn_record.proofs.CellLists.{both, both-assoc, both-comm, cells-append, all_absorbed}
use Rattle.pn_record.proofs.CellMaps.{Holds-table_of, cells-spelled}
use Rattle.pn_tablet.specs.Steps.{Rise, IsSpelled, AreJoins, Grows, with_join, with_copy, step, after_step, tablet_after, recovering_tablet}
use Rattle.pn_tablet.specs.Tablets.{IsCoverage, TabletStateValue, lie_in, same_range, need_shortfall, first_shortfall}
use Rattle.pn_tablet.specs.Copies.{TabletCopyValue}
use Rattle.pn_tablet.specs.declared.state.Status.TheVariants.{Serving, Recovering}
use Rattle.pn_tablet.specs.declared.fault.Shortfall.{Shortfall}
use Rattle.pn_tablet.specs.declared.state.TabletOp.{TabletOp}
use Rattle.pn_tablet.specs.declared.state.TabletOp.TheVariants.{Join, Lose, Adopt}
use Rattle.pn_tablet.specs.declared.fault.OpFault.{OpFault}
use Rattle.pn_tablet.specs.declared.fault.OpFault.TheVariants.{WrongRange}
use Rattle.pn_tablet.specs.declared.state.Status.{Status}

-- How covers and reaches rise.

-- a position that is there is not 0
abbrev IsSet : Option ℕ → Type 0
IsSet None = Unit {0}
IsSet (Some n) = 1 ≤ n

all_set : (marks : Positions) (name : List ℕ) → are_positions marks ≡ true → IsSet (find name_cmp name marks)
all_set [] name are = tt
all_set (e ∷ es) name are =
    let parts = and_parts (is_position e.1) (are_positions es) are in
    let here : 1 ≤ e.1 = grind (arith, nat_tests) in
    elim (eq_by_cmp name_cmp name e.0) as (λ b. IsSet (cond b (Some e.1) (find name_cmp name es))) [
      | true ↦ here
      | false ↦ all_set es name parts.1
    ]

same_set : (a b : Option ℕ) → IsSet a → IsSet b → unwrap_or a 0 ≤ unwrap_or b 0 → unwrap_or b 0 ≤ unwrap_or a 0 → a ≡ b
same_set None None one other le ge = refl
same_set None (Some n) one other le ge = absurd (omega (arith, other, ge))
same_set (Some m) None one other le ge = absurd (omega (arith, one, le))
same_set (Some m) (Some n) one other le ge = let same : m ≡ n = omega (arith, le, ge) in λ i. Some (same i)

-- marks that reach each other are the same
pub same_reached : (a b : Positions) → Rise a → Rise b → are_positions a ≡ true → are_positions b ≡ true → Reaches a b → Reaches b a → a ≡ b
same_reached a b rising rises are are_too reaches reached =
    same_marks a b rising rises (λ name. same_set (find name_cmp name a) (find name_cmp name b) (all_set a name are) (all_set b name are_too) (reached name) (reaches name))

-- a reach and its cover that are raised by the same marks
pub both_raised : (cover reach marks : Positions) → IsCoverage cover reach → are_positions marks ≡ true → IsCoverage (raised_marks cover marks) (raised_marks reach marks)
both_raised cover reach marks was are = record {
  positions = are_positions-raised_marks cover marks was.positions are;
  reach_positions = are_positions-raised_marks reach marks was.reach_positions are;
  reached = λ name. omega (arith, position_of-raised_marks cover marks name, position_of-raised_marks reach marks name, was.reached name);
}

-- The laws of tablets that `src/laws.rt` states.

-- what holds before a step and after one that is taken holds after the step
by_step : (P : TabletStateValue → Type 0) (t : TabletStateValue) (r : Result TabletStateValue OpFault) → P t → ((after : TabletStateValue) → r ≡ Ok after → P after) → P (after_step t r)
by_step P t (Ok after) was taken = taken after refl
by_step P t (Err refusal) was taken = was

passed : (b : Bool) (right : Result TabletStateValue OpFault) (after : TabletStateValue) → (if b then right else Err WrongRange) ≡ Ok after → right ≡ Ok after
passed true right after is = is
passed false right after is = cc

-- the state after a join that is taken
joined_is : (t : TabletStateValue) (cells : Entries) (marks : Positions) (after : TabletStateValue) → step t (Join cells marks) ≡ Ok after → after ≡ with_join t cells marks
joined_is t cells marks after is = let taken = passed (lie_in t.range cells) (Ok (with_join t cells marks)) after is in cc

-- what is known of an adoption that is taken
pub record Adopted (t : TabletStateValue) (copy : TabletCopyValue) (after : TabletStateValue) : Type 0 where
  pub reaches : need_shortfall t.status copy.marks ≡ None
  pub taken : after ≡ record (with_join t copy.cells copy.marks) { status = Serving }

adopted_by : (t : TabletStateValue) (copy : TabletCopyValue) (short : Option Shortfall) (after : TabletStateValue) → need_shortfall t.status copy.marks ≡ short → with_copy t copy short ≡ Ok after → Adopted t copy after
adopted_by t copy None after none is = record { reaches = none; taken = cc }
adopted_by t copy (Some short) after some is = cc

pub adopted : (t : TabletStateValue) (copy : TabletCopyValue) (after : TabletStateValue) → step t (Adopt copy) ≡ Ok after → Adopted t copy after
adopted t copy after is =
    adopted_by t copy (need_shortfall t.status copy.marks) after refl (passed (same_range t.range copy.range) (with_copy t copy (need_shortfall t.status copy.marks)) after is)

-- raised marks reach what they were
raised_reaches : (a b : Positions) → Reaches (raised_marks a b) a
raised_reaches a b name = let is = position_of-raised_marks a b name in subst (λ n. position_of a name ≤ n) (sym is) (omega arith)

same_reaches : (a : Positions) → Reaches a a
same_reaches a name = omega arith

pub never_falls : (t : TabletStateValue) (op : TabletOp) → Reaches (tablet_after t op).cover t.cover
never_falls t (Join cells marks) =
    by_step (λ after. Reaches after.cover t.cover) t (step t (Join cells marks)) (same_reaches t.cover)
    (λ after is. subst (λ a. Reaches a.cover t.cover) (sym (joined_is t cells marks after is)) (raised_reaches t.cover marks))
never_falls t Lose = same_reaches t.cover
never_falls t (Adopt copy) =
    by_step (λ after. Reaches after.cover t.cover) t (step t (Adopt copy)) (same_reaches t.cover)
    (λ after is. subst (λ a. Reaches a.cover t.cover) (sym (adopted t copy after is).taken) (raised_reaches t.cover copy.marks))

pub reach_never_falls : (t : TabletStateValue) (op : TabletOp) → Reaches (tablet_after t op).reach t.reach
reach_never_falls t (Join cells marks) =
    by_step (λ after. Reaches after.reach t.reach) t (step t (Join cells marks)) (same_reaches t.reach)
    (λ after is. subst (λ a. Reaches a.reach t.reach) (sym (joined_is t cells marks after is)) (raised_reaches t.reach marks))
reach_never_falls t Lose = same_reaches t.reach
reach_never_falls t (Adopt copy) =
    by_step (λ after. Reaches after.reach t.reach) t (step t (Adopt copy)) (same_reaches t.reach)
    (λ after is. subst (λ a. Reaches a.reach t.reach) (sym (adopted t copy after is).taken) (raised_reaches t.reach copy.marks))

itself_not_older : (o : Option CellValue) → NotOlder o o
itself_not_older None = tt
itself_not_older (Some cell) = joined_not_older (Some cell) None

added_not_older : (own : Entries) (images : List Image) (key : List ℕ) → IsSpelled own → NotOlder (find bytes_cmp key own) (find bytes_cmp key (adds own images))
unfolding adds
added_not_older own images key spelled =
    subst (λ m. NotOlder (find bytes_cmp key m) (find bytes_cmp key (table_of (spell own ++ images)))) (sym spelled) (held_not_older (spell own) images key)

pub never_older : (t : TabletStateValue) (op : TabletOp) → IsSpelled t.cells → (op ≡ Lose → ⊥) → (key : List ℕ) → NotOlder (find bytes_cmp key t.cells) (find bytes_cmp key (tablet_after t op).cells)
never_older t (Join cells marks) spelled not_lost key =
    by_step (λ after. NotOlder (find bytes_cmp key t.cells) (find bytes_cmp key after.cells)) t (step t (Join cells marks)) (itself_not_older (find bytes_cmp key t.cells))
    (λ after is. subst (λ a. NotOlder (find bytes_cmp key t.cells) (find bytes_cmp key a.cells)) (sym (joined_is t cells marks after is)) (added_not_older t.cells (spell cells) key spelled))
never_older t Lose spelled not_lost key = absurd (not_lost refl)
never_older t (Adopt copy) spelled not_lost key =
    by_step (λ after. NotOlder (find bytes_cmp key t.cells) (find bytes_cmp key after.cells)) t (step t (Adopt copy)) (itself_not_older (find bytes_cmp key t.cells))
    (λ after is. subst (λ a. NotOlder (find bytes_cmp key t.cells) (find bytes_cmp key a.cells)) (sym (adopted t copy after is).taken) (added_not_older t.cells (spell copy.cells) key spelled))

pub never_older_served : (t : TabletStateValue) (op : TabletOp) → IsSpelled t.cells → (tablet_after t op).status ≡ Serving → (key : List ℕ) → NotOlder (find bytes_cmp key t.cells) (find bytes_cmp key (tablet_after t op).cells)
never_older_served t (Join cells marks) spelled serves key = never_older t (Join cells marks) spelled (λ e. cc) key
never_older_served t Lose spelled serves key = cc
never_older_served t (Adopt copy) spelled serves key = never_older t (Adopt copy) spelled (λ e. cc) key

-- What a copy that is adopted after a loss brings back.

-- joins leave the status as it is
status_left : (t : TabletStateValue) (cells : Entries) (marks : Positions) (b : Bool) → (after_step t (if b then Ok (with_join t cells marks) else Err WrongRange)).status ≡ t.status
status_left t cells marks true = refl
status_left t cells marks false = refl

joins_leave : (t : TabletStateValue) (status : Status) (ops : List TabletOp) → t.status ≡ status → AreJoins ops → (fold tablet_after t ops).status ≡ status
joins_leave t status [] is joins = is
joins_leave t status (Join cells marks ∷ ops) is joins =
    joins_leave (tablet_after t (Join cells marks)) status ops (status_left t cells marks (lie_in t.range cells) ∙ is) joins.1
joins_leave t status (Lose ∷ ops) is joins = absurd joins.0
joins_leave t status (Adopt copy ∷ ops) is joins = absurd joins.0

module _ {X Y : Type 0} (p : X → Bool) (f : X → Y) where
  there : (xs : List X) (i : ℕ) → i < length xs → option_map f (slice_get xs i) ≡ None → ⊥
  there [] i inside none = omega arith
  there (x ∷ xs) zero inside none = cc
  there (x ∷ xs) (suc i) inside none = there xs i (omega arith) none

  first_fails : (x : X) (xs : List X) (t : Bool) → p x ≡ t → suc (length xs) ≤ cond (not t) (1 + position_or_len p xs) 0
      → (length xs ≤ position_or_len p xs → list_any p xs ≡ false) → (t || list_any p xs) ≡ false
  first_fails x xs true is past rest = absurd (omega arith)
  first_fails x xs false is past rest = rest (omega arith)

  all_fail : (xs : List X) → length xs ≤ position_or_len p xs → list_any p xs ≡ false
  all_fail [] past = refl
  all_fail (x ∷ xs) past = first_fails x xs (p x) refl past (all_fail xs)

  found_by : (xs : List X) (t : Bool) → nat_lt (position_or_len p xs) (length xs) ≡ t
      → option_map f (option_and_then (slice_get xs) (cond t (Some (position_or_len p xs)) None)) ≡ None → list_any p xs ≡ false
  found_by xs true is none = absurd (there xs (position_or_len p xs) (grind (arith, nat_tests)) none)
  found_by xs false is none = all_fail xs (grind (arith, nat_tests))

  -- where no first one is found none passes
  pub none_found : (xs : List X) → option_map f (option_and_then (slice_get xs) (position p xs)) ≡ None → list_any p xs ≡ false
  none_found xs none = found_by xs (nat_lt (position_or_len p xs) (length xs)) refl none

-- marks that lack nothing of a need reach it
pub nothing_short : (marks need : Positions) → first_shortfall marks need ≡ None → Reaches marks need
nothing_short marks need none =
    reached marks need (none_found (falls_short marks) (λ wanted. record { stream = wanted.0; has = position_of marks wanted.0; wanted = wanted.1 }) need none)

-- the lost cell is back once the images of the copy are joined, which has all that was lost
brought_back : (x s y : Option CellValue) → both x y ≡ y → NotOlder x (both s y)
brought_back x s y absorbed =
    subst (NotOlder x) (sym (both-assoc x s y) ∙ ap (λ c. both c y) (both-comm x s) ∙ both-assoc s x y ∙ ap (both s) absorbed) (joined_not_older x (both s y))

copied_back : (own : Entries) (was images : List Image) → ((image : Image) → Contains was image → Contains images image)
    → (key : List ℕ) → NotOlder (find bytes_cmp key (table_of was)) (find bytes_cmp key (adds own (spell (table_of images))))
unfolding adds
copied_back own was images all key =
    let s = cells (spell own) key in
    let now : find bytes_cmp key (table_of (spell own ++ spell (table_of images))) ≡ both s (cells images key) =
    Holds-table_of (spell own ++ spell (table_of images)) key ∙ cells-append (spell own) (spell (table_of images)) key ∙ ap (both s) (cells-spelled images key) in
    subst (λ o. NotOlder o (find bytes_cmp key (table_of (spell own ++ spell (table_of images))))) (sym (Holds-table_of was key))
    (subst (NotOlder (cells was key)) (sym now) (brought_back (cells was key) s (cells images key) (all_absorbed key was images all)))

pub adoption_brings_back : (upto : Positions → List Image) → Grows upto → (t after : TabletStateValue) (joins : List TabletOp) (copy : TabletCopyValue) → AreJoins joins
    → Rise t.reach → Rise copy.marks → (images : List Image) → t.cells ≡ table_of images → ((image : Image) → Contains images image → Contains (upto t.reach) image)
    → copy.cells ≡ table_of (upto copy.marks)
    → step (fold tablet_after (tablet_after t Lose) joins) (Adopt copy) ≡ Ok after
    → (key : List ℕ) → NotOlder (find bytes_cmp key t.cells) (find bytes_cmp key after.cells)
adoption_brings_back upto grows t after joins copy are g h images was held copied is key =
    let before = fold tablet_after (recovering_tablet t) joins in
    let known = adopted before copy after is in
    let needs : before.status ≡ Recovering t.reach = joins_leave (recovering_tablet t) (Recovering t.reach) joins refl are in
    let reaches = nothing_short copy.marks t.reach (ap (λ status. need_shortfall status copy.marks) (sym needs) ∙ known.reaches) in
    subst (λ m. NotOlder (find bytes_cmp key m) (find bytes_cmp key after.cells)) (sym was)
    (subst (λ (a : TabletStateValue). NotOlder (find bytes_cmp key (table_of images)) (find bytes_cmp key a.cells)) (sym known.taken)
    (subst (λ m. NotOlder (find bytes_cmp key (table_of images)) (find bytes_cmp key (adds before.cells (spell m)))) (sym copied)
    (copied_back before.cells images (upto copy.marks) (λ image there. grows copy.marks t.reach h g reaches image (held image there)) key)))
