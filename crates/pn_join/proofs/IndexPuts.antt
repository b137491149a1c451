-- What is put at the index of a key is put at the key.
use Rattle.std.proofs.Common.{◌≡◌, ℕ, zero, suc, ◌+◌, ◌-◌, ◌<◌, ◌≤◌, List, [], ◌∷◌, ◌++◌, length, map, reverse, get_or, Option, Some, None, Result, Ok, Err, IfSome, IsTrue, option_map, Ordering, Less, Equal, Greater, refl, sym, ap, ◌∙◌, subst, arith}
use Rattle.std.proofs.lemmas.List.{reverse-append, reverse-reverse}
use Rattle.std.specs.List.{AllByRecursion}
use Rattle.std.specs.Cmp.{IsTotalOrder}
use Rattle.std.specs.FinMap.{find, put}
use Rattle.std.specs.FinMap.Entries.{by_order}
use Rattle.pn_join.specs.Edits.{changes_in, put_edit, put_in_turn, puts_in, AreEditsWithin, AreIndexed, InOrder, RiseByKey, StopsBefore}
use Rattle.pn_join.specs.Indices.{later, index_of}
use Rattle.pn_join.specs.PutAt.{place, from_start, put_at, content_at, IsAmong, MayPutAt, IsJoinedAt}
use Rattle.pn_join.specs.PutInLeaves.{IsPutOf}
use Rattle.pn_join.specs.TableChanges.{puts}
use Rattle.pn_join.specs.Tables.{IsTable, optional_joined}
use Rattle.pn_join.specs.declared.table.edit.Edit.{Edit}
use Rattle.pn_join.proofs.Rising.{by_index, found_at_gap, gap_within, tie_within, Below, Rising, Rising-from_sorted, flipped}
use Rattle.pn_join.proofs.Lasts.{last_one, last_next}
use Rattle.pn_join.proofs.Places.{content_at_tie}
use Rattle.pn_join.proofs.PutAtFacts.{put_in_turn-append}
use Rattle.pn_join.proofs.Puts.{IsTable-put}

module _ {K X : Type 0} (cmp : K → K → Ordering) (key : K) where
  put_by : (v : X) (e : K × X) (es : List (K × X)) (r : Ordering) → cmp key e.0 ≡ r → put cmp key v (e ∷ es) ≡ by_order r ((key, v) ∷ e ∷ es) ((e.0, v) ∷ es) (e ∷ put cmp key v es)
  put_by v e es r p = ap (λ r. by_order r ((key, v) ∷ e ∷ es) ((e.0, v) ∷ es) (e ∷ put cmp key v es)) p

  put_later : (v : X) (e : K × X) (es : List (K × X)) (r : Result ℕ ℕ) → put_at (later r) key v (e ∷ es) ≡ e ∷ put_at r key v es
  put_later v e es (Ok i) = refl
  put_later v e es (Err i) = refl

  -- a content put at the index of its key
  pub put_at_key : (v : X) (es : List (K × X)) → put_at (index_of cmp key es) key v es ≡ put cmp key v es
  put_at_key v es =
      by_index cmp key (λ es r. put_at r key v es ≡ put cmp key v es) refl
      (λ e es p. sym (put_by v e es Less p))
      (λ e es p. sym (put_by v e es Equal p))
      (λ e es p r h. put_later v e es r ∙ ap (λ fs. e ∷ fs) h ∙ sym (put_by v e es Greater p)) es

  pub among_of : (es : List (K × X)) (r : Result ℕ ℕ) → r ≡ index_of cmp key es → IsAmong (length es) r
  among_of es (Ok i) is = tie_within cmp key es i is
  among_of es (Err i) is = gap_within cmp key es i is

  pub place_within : (es : List (K × X)) (r : Result ℕ ℕ) → r ≡ index_of cmp key es → place r ≤ length es
  place_within es (Ok i) is = omega (arith, tie_within cmp key es i is)
  place_within es (Err i) is = gap_within cmp key es i is

  module _ (o : IsTotalOrder cmp) where
    content_found : (es : List (K × X)) → Rising cmp es → (r : Result ℕ ℕ) → r ≡ index_of cmp key es → content_at r es ≡ find cmp key es
    content_found es h (Ok i) is = content_at_tie cmp key es i is
    content_found es h (Err i) is = sym (found_at_gap cmp key o es h i is)

    -- a key may be put at its index
    pub may_put : (valid : X → Type 0) (es : List (K × X)) (r : Result ℕ ℕ) → IsTable cmp valid es → r ≡ index_of cmp key es → MayPutAt cmp valid r key es
    may_put valid es r table is = record {
      among = among_of es r is;
      table = λ v is_valid. rw (ap (λ r. put_at r key v es) is ∙ put_at_key v es) (IsTable-put cmp o valid key v es is_valid table);
    }

    -- a join at the index of a key is one at the key
    pub joined_at_key : {M : Type 0} (meaning : X → M) (joined : M → M → M) (valid : X → Type 0) (content : X) (old new : List (K × X)) (r : Result ℕ ℕ) → Rising cmp old → r ≡ index_of cmp key old → IsJoinedAt meaning joined valid r key content old new → IsPutOf cmp meaning joined valid key content old new
    joined_at_key meaning joined valid content old new r rising at is = record {
      value = is.value;
      put = is.put ∙ ap (λ r. put_at r key is.value old) at ∙ put_at_key is.value old;
      means = is.means ∙ ap (λ x. optional_joined joined (option_map meaning x) (Some (meaning content))) (content_found old rising r at);
      is_valid = is.is_valid;
    }

    -- an entry put at a greater key does not move the index
    index_stays : (k : K) (v : X) (es : List (K × X)) → cmp key k ≡ Less → index_of cmp key (put cmp k v es) ≡ index_of cmp key es
    index_stays k v [] p = ap (λ r. by_order r (Err 0) (Ok 0) (later (Err 0))) p
    index_stays k v (e ∷ es) p =
        elim (cmp k e.0) as (λ r. cmp k e.0 ≡ r → index_of cmp key (by_order r ((k, v) ∷ e ∷ es) ((e.0, v) ∷ es) (e ∷ put cmp k v es)) ≡ index_of cmp key (e ∷ es)) [
          | Less ↦ λ q.
              ap (λ r. by_order r (Err 0) (Ok 0) (later (index_of cmp key (e ∷ es)))) p
              ∙ sym (ap (λ r. by_order r (Err 0) (Ok 0) (later (index_of cmp key es))) (o.trans key k e.0 p q))
          | Equal ↦ λ q. refl
          | Greater ↦ λ q. ap (λ i. by_order (cmp key e.0) (Err 0) (Ok 0) (later i)) (index_stays k v es p)
        ] refl

from_none : (r : Result ℕ ℕ) → from_start 0 r ≡ r
from_none (Ok i) = let same : i - 0 ≡ i = omega arith in ap Ok same
from_none (Err i) = let same : i - 0 ≡ i = omega arith in ap Err same

module _ {K C : Type 0} (cmp : K → K → Ordering) (o : IsTotalOrder cmp) where
  abbrev entries_of : List (Edit K C) → List (K × C)
  entries_of edits = map (λ edit. (edit.change.key, edit.change.after)) edits

  -- puts at greater keys do not move the index
  index_stays_all : (key : K) (es : List (K × C)) (edits : List (Edit K C)) → Below cmp key (entries_of edits) → index_of cmp key (puts cmp es (changes_in edits)) ≡ index_of cmp key es
  index_stays_all key es [] below = refl
  index_stays_all key es (e ∷ edits) below = index_stays cmp key o e.change.key e.change.after (puts cmp es (changes_in edits)) below.0 ∙ index_stays_all key es edits below.1

  -- edits put in turn, the last first, are puts at their keys
  turn_is_puts : (es : List (K × C)) (edits : List (Edit K C)) → AreIndexed cmp es edits → Rising cmp (entries_of edits) → put_in_turn 0 es (reverse edits) ≡ puts cmp es (changes_in edits)
  turn_is_puts es [] at rising = refl
  turn_is_puts es (e ∷ edits) at rising =
      let now = puts cmp es (changes_in edits) in
      ap (put_in_turn 0 es) (reverse-append (e ∷ []) edits)
      ∙ put_in_turn-append 0 es (reverse edits) (e ∷ [])
      ∙ ap (λ x. put_edit 0 x e) (turn_is_puts es edits at.1 rising.1)
      ∙ ap (λ r. put_at r e.change.key e.change.after now) (from_none e.index ∙ at.0 ∙ sym (index_stays_all e.change.key es edits rising.0))
      ∙ put_at_key cmp e.change.key e.change.after now

  none_left : (left : List (Edit K C)) → StopsBefore 0 left → left ≡ []
  none_left [] stops = refl
  none_left (e ∷ left) stops = absurd (stop left e stops) where
    stop : (left : List (Edit K C)) (e : Edit K C) → StopsBefore 0 (e ∷ left) → ⊥
    stop [] e stops = omega (arith, subst (λ o. IfSome o (λ edit. place edit.index < 0)) (last_one e) stops)
    stop (d ∷ left) e stops = stop left d (subst (λ o. IfSome o (λ edit. place edit.index < 0)) (last_next e d left) stops)

  -- all edits of a table
  pub all_put : (es : List (K × C)) (edits left mine : List (Edit K C)) → AreIndexed cmp es edits → RiseByKey cmp edits → edits ≡ left ++ reverse mine → StopsBefore 0 left → put_in_turn 0 es mine ≡ puts cmp es (changes_in edits)
  all_put es edits left mine at rising parted stops =
      let whole : edits ≡ reverse mine = parted ∙ ap (λ l. l ++ reverse mine) (none_left left stops) in
      ap (put_in_turn 0 es) (sym (ap reverse whole ∙ reverse-reverse mine))
      ∙ turn_is_puts es edits at (Rising-from_sorted cmp (entries_of edits) rising)

  index_up : (key k : K) (es : List (K × C)) → cmp key k ≡ Less → place (index_of cmp key es) ≤ place (index_of cmp k es)
  index_up key k [] p = omega arith
  index_up key k (e ∷ es) p =
      elim (cmp key e.0) as (λ r. cmp key e.0 ≡ r → place (by_order r (Err 0) (Ok 0) (later (index_of cmp key es))) ≤ place (index_of cmp k (e ∷ es))) [
        | Less ↦ λ q. omega arith
        | Equal ↦ λ q. omega arith
        | Greater ↦ λ q.
            let above = o.trans e.0 key k (flipped o key e.0 q) p in
            rw (ap (λ r. place (by_order r (Err 0) (Ok 0) (later (index_of cmp k es)))) (flipped o e.0 k above)) (up (index_of cmp key es) (index_of cmp k es) (index_up key k es p))
      ] refl where
        up : (r s : Result ℕ ℕ) → place r ≤ place s → place (later r) ≤ place (later s)
        up (Ok i) (Ok j) le = omega (arith, le)
        up (Ok i) (Err j) le = omega (arith, le)
        up (Err i) (Ok j) le = omega (arith, le)
        up (Err i) (Err j) le = omega (arith, le)

  -- the edits of a table lie among its entries, in order
  pub edits_within : (es : List (K × C)) (edits : List (Edit K C)) → AreIndexed cmp es edits → Rising cmp (entries_of edits) → AreEditsWithin (length es) edits
  edits_within es edits at rising = record { order = ordered edits at rising; among = each edits at } where
    each : (edits : List (Edit K C)) → AreIndexed cmp es edits → AllByRecursion (λ edit. IsAmong (length es) edit.index) edits
    each [] at = tt
    each (e ∷ edits) at = (among_of cmp e.change.key es e.index at.0, each edits at.1)

    above : (e : Edit K C) (edits : List (Edit K C)) → e.index ≡ index_of cmp e.change.key es → AreIndexed cmp es edits → Below cmp e.change.key (entries_of edits) → AllByRecursion (λ later. place e.index ≤ place later.index) edits
    above e [] is at below = tt
    above e (d ∷ edits) is at below = (rw (is, at.0) (index_up e.change.key d.change.key es below.0), above e edits is at.1 below.1)

    ordered : (edits : List (Edit K C)) → AreIndexed cmp es edits → Rising cmp (entries_of edits) → InOrder edits
    ordered [] at rising = tt
    ordered (e ∷ edits) at rising = (above e edits at.0 at.1 rising.0, ordered edits at.1 rising.1)

  -- the same, counted from the first entry
  pub edits_within_root : (es : List (K × C)) (edits : List (Edit K C)) → AreIndexed cmp es edits → RiseByKey cmp edits → AreEditsWithin (0 + length es) edits
  edits_within_root es edits at rising =
      let same : length es ≡ 0 + length es = omega arith in
      rw (← same) (edits_within es edits at (Rising-from_sorted cmp (entries_of edits) rising))
