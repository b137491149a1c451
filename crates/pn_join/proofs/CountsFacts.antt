-- Counts up to the end of each node: how they rise, move, and are made anew.
use Rattle.std.proofs.Common.{◌≡◌, ℕ, zero, suc, ◌+◌, ◌-◌, ◌^◌, ◌<◌, ◌≤◌, List, [], ◌∷◌, length, map, get_or, set, take, refl, sym, ap, ◌∙◌, arith, ◌++◌, insert, drop, Some, None, unwrap_or, Option, take-append-drop}
use Rattle.std.specs.List.Sorted.{IsNonDecreasingBy}
use Rattle.pn_join.specs.Counts.{entry_ends, leaf_ends, end_before, moved_from, CanMove, AreCounts, recounted, MayRecount}
use Rattle.pn_join.specs.NodeLeaves.{in_nodes, entries_in}
use Rattle.pn_join.specs.declared.table.counts.Sizes.{Sizes}
use Rattle.pn_join.proofs.NodeFacts.{length-in_nodes, all_in_nodes, take_whole}
use Rattle.pn_join.proofs.Lasts.{get-mapped, length-mapped, map-push}
use Rattle.pn_join.specs.Leaves.{all_entries, AreEntryCounts}
use Rattle.pn_join.proofs.LeafListIndices.{counts_rise, end_at, length-counts}
use Rattle.pn_join.specs.Rows.{inserted_at}
use Rattle.std.proofs.lemmas.List.{length-append, take_more}
use Rattle.pn_join.proofs.NodeGrowth.{all_append, in_nodes-push}
use Rattle.pn_join.proofs.LeafFacts.{all_push, pushed_counts}

-- the count before a node, but the first
pub end_before_at : (f : Sizes → ℕ) (ends : List Sizes) (i : ℕ) (d : Sizes) → (i ≡ 0 → ⊥) → i ≤ length ends → f (get_or ends (i - 1) d) ≡ end_before i (map f ends)
end_before_at f ends zero d some le = absurd (some refl)
end_before_at f ends (suc i) d some le =
    let at : suc i - 1 ≡ i = omega arith in
    ap (λ k. f (get_or ends k d)) at ∙ get-mapped f ends i d 0 (omega (arith, le))

pub no_end_before : (i : ℕ) (ns : List ℕ) → i ≡ 0 → end_before i ns ≡ 0
no_end_before zero ns is = refl
no_end_before (suc i) ns is = absurd (omega (arith, is))

-- the count before a node is that of the items before it
pub counted_before : {A : Type 0} (lists : List (List A)) (ends : List ℕ) → AreEntryCounts lists ends → (i : ℕ) → i ≤ length lists → end_before i ends ≡ length (all_entries (take i lists))
counted_before lists ends are zero le = refl
counted_before lists ends are (suc i) le =
    let none : 0 + length (all_entries (take (suc i) lists)) ≡ length (all_entries (take (suc i) lists)) = omega arith in
    ap (λ es. get_or es i 0) are.each ∙ end_at 0 lists i (omega (arith, le)) 0 ∙ none

-- what rises by its counts
pub rises : (f : Sizes → ℕ) (ends : List Sizes) (ns : List ℕ) → map f ends ≡ ns → IsNonDecreasingBy (λ n. n) ns → IsNonDecreasingBy f ends
rises f ends ns same rise i j d le lt =
    let first : f (get_or ends i d) ≡ get_or ns i (f d) = get-mapped f ends i d (f d) (omega (arith, le, lt)) ∙ ap (λ xs. get_or xs i (f d)) same in
    let second : f (get_or ends j d) ≡ get_or ns j (f d) = get-mapped f ends j d (f d) lt ∙ ap (λ xs. get_or xs j (f d)) same in
    let up = rise i j (f d) le (omega (arith, lt, ap length same, length-mapped f ends)) in
    omega (arith, first, second, up)

module _ {A : Type 0} (nodes : List (List (List A))) (ends : List Sizes) (are : AreCounts nodes ends) where
  pub entries_rise : IsNonDecreasingBy (λ end. end.entries) ends
  entries_rise = rises (λ end. end.entries) ends _ are.entries.each (counts_rise 0 (in_nodes nodes))

  pub leaves_rise : IsNonDecreasingBy (λ end. end.leaves) ends
  leaves_rise = rises (λ end. end.leaves) ends _ are.leaves.each (counts_rise 0 nodes)

  pub length-ends : length ends ≡ length nodes
  length-ends = omega (arith, length-mapped (λ (end : Sizes). end.leaves) ends, ap length are.leaves.each, length-counts 0 nodes)

pub moved_next : (i was is : ℕ) (ns : List ℕ) (now : ℕ) → i < length ns → now ≡ (get_or ns i 0 - was) + is → moved_from (suc i) was is (set ns i now) ≡ moved_from i was is ns
moved_next i was is [] now lt at = refl
moved_next zero was is (n ∷ ns) now lt at = ap (λ m. m ∷ moved_from 0 was is ns) at
moved_next (suc i) was is (n ∷ ns) now lt at = ap (λ ms. n ∷ ms) (moved_next i was is ns now (omega (arith, lt)) at)

pub can_next : (i was is : ℕ) (ns : List ℕ) (now : ℕ) → CanMove i was is ns → CanMove (suc i) was is (set ns i now)
can_next i was is [] now can = tt
can_next zero was is (n ∷ ns) now can = can.2
can_next (suc i) was is (n ∷ ns) now can = can_next i was is ns now can

pub can_here : (i was is : ℕ) (ns : List ℕ) → CanMove i was is ns → i < length ns → (was ≤ get_or ns i 0) × ((get_or ns i 0 - was) + is < 2 ^ 64)
can_here i was is [] can lt = absurd (omega (arith, lt))
can_here zero was is (n ∷ ns) can lt = (can.0, can.1)
can_here (suc i) was is (n ∷ ns) can lt = can_here i was is ns can (omega (arith, lt))

pub moved_past : (i was is : ℕ) (ns : List ℕ) → length ns ≤ i → moved_from i was is ns ≡ ns
moved_past i was is [] le = refl
moved_past zero was is (n ∷ ns) le = absurd (omega (arith, le))
moved_past (suc i) was is (n ∷ ns) le = ap (λ ms. n ∷ ms) (moved_past i was is ns (omega (arith, le)))

pub moved_nowhere : (i was is : ℕ) (ns : List ℕ) → was ≡ is → CanMove i was is ns → moved_from i was is ns ≡ ns
moved_nowhere i was is [] same can = refl
moved_nowhere zero was is (n ∷ ns) same can =
    let at : (n - was) + is ≡ n = omega (arith, same, can.0) in
    ap (λ m. m ∷ moved_from 0 was is ns) at ∙ ap (λ ms. n ∷ ms) (moved_nowhere 0 was is ns same can.2)
moved_nowhere (suc i) was is (n ∷ ns) same can = ap (λ ms. n ∷ ms) (moved_nowhere i was is ns same can)

-- no sum of the counts wraps
pub sum_fits : (i front : ℕ) (back : Option ℕ) (ns : List ℕ) → i < length ns → MayRecount i front back ns → (end_before i ns + front) + unwrap_or back 0 < 2 ^ 64
sum_fits i front back ns lt may =
    let here = can_here i (get_or ns i 0) ((end_before i ns + front) + unwrap_or back 0) ns may lt in
    omega (arith, here.0, here.1)

-- the ends may be moved from where the node was to where it is
pub may_move : (i was is front : ℕ) (back : Option ℕ) (ns : List ℕ) → MayRecount i front back ns → was ≡ get_or ns i 0 → is ≡ (end_before i ns + front) + unwrap_or back 0 → CanMove i was is ns
may_move i was is front back ns may had has = rw (had, has) may

pub moved_to : (i was is to : ℕ) (ns moved : List ℕ) → moved ≡ moved_from i was is ns → was ≡ get_or ns i 0 → is ≡ to → moved ≡ moved_from i (get_or ns i 0) to ns
moved_to i was is to ns moved moves had has = moves ∙ ap (λ w. moved_from i w is ns) had ∙ ap (λ n. moved_from i (get_or ns i 0) n ns) has

-- a node alone
pub alone_counted : (i was is front : ℕ) (ns moved : List ℕ) → moved ≡ moved_from i was is ns → was ≡ get_or ns i 0 → is ≡ end_before i ns + front → moved ≡ recounted i front None ns
alone_counted i was is front ns moved moves had has = moved_to i was is (end_before i ns + front) ns moved moves had has

-- a node, and one after it
pub both_counted : (i was is front back end : ℕ) (ns moved new : List ℕ) → moved ≡ moved_from i was is ns → was ≡ get_or ns i 0 → end ≡ end_before i ns + front → is ≡ end + back → new ≡ insert moved i end → new ≡ recounted i front (Some back) ns
both_counted i was is front back end ns moved new moves had at has added =
    added
    ∙ ap (λ es. insert es i end) (moved_to i was is ((end_before i ns + front) + back) ns moved moves had (has ∙ ap (λ n. n + back) at))
    ∙ ap (λ n. insert (moved_from i (get_or ns i 0) ((end_before i ns + front) + back) ns) i n) at

module _ {A : Type 0} where
  pub inserted_none : (xs : List A) (j : ℕ) → xs ≡ inserted_at j [] xs
  inserted_none [] zero = refl
  inserted_none [] (suc j) = refl
  inserted_none (x ∷ xs) zero = refl
  inserted_none (x ∷ xs) (suc j) = ap (λ ys. x ∷ ys) (inserted_none xs j)

  pub inserted_one : (xs : List A) (j : ℕ) (x : A) → insert xs j x ≡ inserted_at j (x ∷ []) xs
  inserted_one [] zero x = refl
  inserted_one [] (suc j) x = refl
  inserted_one (y ∷ ys) zero x = refl
  inserted_one (y ∷ ys) (suc j) x = ap (λ zs. y ∷ zs) (inserted_one ys j x)

  -- those before what is inserted stay
  pub there_before : (xs : List A) (i j : ℕ) (more : List A) (d : A) → i < length xs → i < j → get_or (inserted_at j more xs) i d ≡ get_or xs i d
  there_before [] i j more d lt le = absurd (omega (arith, lt))
  there_before (x ∷ xs) i zero more d lt le = absurd (omega (arith, le))
  there_before (x ∷ xs) zero (suc j) more d lt le = refl
  there_before (x ∷ xs) (suc i) (suc j) more d lt le = there_before xs i j more d (omega (arith, lt)) (omega (arith, le))

module _ {A : Type 0} (nodes : List (List (List A))) where
  -- the first nodes are counted
  pub record Counted (count entries leaves : ℕ) (ends : List Sizes) : Type 0 where
    pub counts : AreCounts (take count nodes) ends
    pub entries_are : entries ≡ length (all_entries (in_nodes (take count nodes)))
    pub leaves_are : leaves ≡ length (all_entries (take count nodes))

  pub none_counted : Counted 0 0 0 []
  none_counted = record {
    counts = record { entries = record { each = refl; fits = omega arith }; leaves = record { each = refl; fits = omega arith } };
    entries_are = refl;
    leaves_are = refl;
  }

  within : (n : ℕ) → (length (all_entries (take n nodes)) ≤ length (all_entries nodes)) × (length (all_entries (in_nodes (take n nodes))) ≤ length (entries_in nodes))
  within n =
      let whole = take-append-drop n nodes in
      let parts = ap (λ ns. length (all_entries ns)) (sym whole) ∙ ap length (all_append (take n nodes) (drop n nodes)) in
      let entries = ap (λ ns. length (entries_in ns)) (sym whole) ∙ ap (λ ls. length (all_entries ls)) (all_append (take n nodes) (drop n nodes)) ∙ ap length (all_append (all_entries (take n nodes)) (all_entries (drop n nodes))) in (
        omega (arith, parts, length-append (all_entries (take n nodes)) (all_entries (drop n nodes))),
        omega (arith, entries, length-append (entries_in (take n nodes)) (entries_in (drop n nodes)), ap length (all_in_nodes (take n nodes))),
      )

  module _ (count entries leaves : ℕ) (ends : List Sizes) (h : Counted count entries leaves ends) (node : List (List A)) (lt : count < length nodes) (at : node ≡ get_or nodes count node) (fits : length (entries_in nodes) < 2 ^ 64) (few : length (all_entries nodes) < 2 ^ 64) where
    next : take (count + 1) nodes ≡ take count nodes ++ node ∷ []
    next = take_more nodes count node lt ∙ ap (λ n. take count nodes ++ n ∷ []) (sym at)

    entries_next : length (all_entries (in_nodes (take (count + 1) nodes))) ≡ entries + length (all_entries node)
    entries_next =
        omega (arith, ap (λ ns. length (all_entries (in_nodes ns))) next, ap (λ es. length (all_entries es)) (in_nodes-push (take count nodes) node), ap length (all_push (in_nodes (take count nodes)) (all_entries node)), length-append (all_entries (in_nodes (take count nodes))) (all_entries node), h.entries_are)

    leaves_next : length (all_entries (take (count + 1) nodes)) ≡ leaves + length node
    leaves_next = omega (arith, ap (λ ns. length (all_entries ns)) next, ap length (all_push (take count nodes) node), length-append (all_entries (take count nodes)) node, h.leaves_are)

    pub sums_fit : (entries + length (all_entries node) < 2 ^ 64) × (leaves + length node < 2 ^ 64)
    sums_fit = (omega (arith, entries_next, (within (count + 1)).1, fits), omega (arith, leaves_next, (within (count + 1)).0, few))

    pub one_counted : (end : Sizes) → end.entries ≡ entries + length (all_entries node) → end.leaves ≡ leaves + length node → Counted (count + 1) end.entries end.leaves (ends ++ end ∷ [])
    one_counted end is are = record {
      counts = rw next (record {
        entries = rw (in_nodes-push (take count nodes) node, map-push (λ (e : Sizes). e.entries) ends end)
            (pushed_counts (in_nodes (take count nodes)) (all_entries node) (entry_ends ends) end.entries h.counts.entries (omega (arith, is, h.entries_are)) (omega (arith, is, sums_fit.0)));
        leaves = rw (map-push (λ (e : Sizes). e.leaves) ends end)
            (pushed_counts (take count nodes) node (leaf_ends ends) end.leaves h.counts.leaves (omega (arith, are, h.leaves_are)) (omega (arith, are, sums_fit.1)));
      });
      entries_are = omega (arith, is, entries_next);
      leaves_are = omega (arith, are, leaves_next);
    }

  pub all_counted : (count entries leaves : ℕ) (ends : List Sizes) → Counted count entries leaves ends → length nodes ≤ count → AreCounts nodes ends
  all_counted count entries leaves ends h le = rw (take_whole nodes count le) at h.counts
