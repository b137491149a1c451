-- What a change of one node makes of a row's entries, leaves and counts.
use Rattle.std.proofs.Common.{◌≡◌, ℕ, zero, suc, ◌+◌, ◌^◌, ◌<◌, ◌≤◌, List, [], ◌∷◌, ◌++◌, length, get_or, set, take, drop, Some, option_map, Ordering, refl, sym, ap, ◌∙◌, arith, append_assoc, ◌-◌, map, insert, Option, None, unwrap_or, subst}
use Rattle.std.proofs.lemmas.List.{length-append}
use Rattle.pn_join.specs.NodeLeaves.{in_nodes}
use Rattle.pn_join.specs.Leaves.{all_entries, counts_after, AreEntryCounts}
use Rattle.pn_join.specs.PutInLeaves.{ReindicesOneLeaf, ChangesOneLeaf}
use Rattle.std.specs.Option.{option_to_list}
use Rattle.pn_join.specs.Counts.{entry_ends, leaf_ends, end_before, moved_from, recounted, entry_count, leaf_count, CanMove, MayRecount, CanRecount, AreCounts, AreRecounted}
use Rattle.pn_join.specs.Nodes.{both}
use Rattle.pn_join.specs.Rows.{inserted_at}
use Rattle.pn_join.specs.declared.table.counts.Sizes.{Sizes}
use Rattle.pn_join.proofs.NodeFacts.{at_node, length-in_nodes, take_nodes, drop_nodes}
use Rattle.pn_join.proofs.NodeGrowth.{all_append}
use Rattle.pn_join.proofs.LeafListIndices.{end_at}

module _ {A : Type 0} where
  -- all items, with those of one list replaced
  pub all_with : (list : List (List A)) (i : ℕ) (x : List A) → i < length list → all_entries (set list i x) ≡ all_entries (take i list) ++ (x ++ all_entries (drop (suc i) list))
  all_with [] i x lt = absurd (omega (arith, lt))
  all_with (l ∷ ls) zero x lt = refl
  all_with (l ∷ ls) (suc i) x lt = ap (λ es. l ++ es) (all_with ls i x (omega (arith, lt))) ∙ sym (append_assoc l (all_entries (take i ls)) (x ++ all_entries (drop (suc i) ls)))

  pub all_around : (list : List (List A)) (i : ℕ) → i < length list → all_entries list ≡ all_entries (take i list) ++ (get_or list i [] ++ all_entries (drop (suc i) list))
  all_around [] i lt = absurd (omega (arith, lt))
  all_around (l ∷ ls) zero lt = refl
  all_around (l ∷ ls) (suc i) lt = ap (λ es. l ++ es) (all_around ls i (omega (arith, lt))) ∙ sym (append_assoc l (all_entries (take i ls)) (get_or ls i [] ++ all_entries (drop (suc i) ls)))

  pub in_nodes-set : (nodes : List (List (List A))) (i : ℕ) (node : List (List A)) → in_nodes (set nodes i node) ≡ set (in_nodes nodes) i (all_entries node)
  in_nodes-set [] i node = refl
  in_nodes-set (b ∷ bs) zero node = refl
  in_nodes-set (b ∷ bs) (suc i) node = ap (λ es. all_entries b ∷ es) (in_nodes-set bs i node)

module _ {A : Type 0} where
  pub reindices : (old new : List (List A)) → 0 < length old → ChangesOneLeaf old new → ReindicesOneLeaf old new
  reindices [] new some one = absurd (omega (arith, some))
  reindices (l ∷ ls) new some one = one

  pub changes : (old new : List (List A)) → 0 < length old → ReindicesOneLeaf old new → ChangesOneLeaf old new
  changes [] new some one = absurd (omega (arith, some))
  changes (l ∷ ls) new some one = one

  -- where one leaf is changed or cut in two, there is at most one more
  pub changes_grow : (old new : List (List A)) → ChangesOneLeaf old new → (length old ≤ length new) × (length new ≤ length old + 1)
  changes_grow [] new one = (omega (arith, one), omega (arith, one))
  changes_grow (l ∷ ls) new one =
      let was : length (l ∷ ls) ≡ length (one.before ++ one.was ∷ one.after) = ap length one.old_leaves in
      let is : length new ≡ length (one.before ++ (one.is ++ one.after)) = ap length one.new_leaves in
      let first = length-append one.before (one.was ∷ one.after) in
      let second = length-append one.before (one.is ++ one.after) in
      let third = length-append one.is one.after in
      (omega (arith, was, is, first, second, third, one.one_or_two.0), omega (arith, was, is, first, second, third, one.one_or_two.1))

  module _ (before old new after : List (List A)) (one : ReindicesOneLeaf old new) where
    was_between : before ++ (old ++ after) ≡ (before ++ one.before) ++ one.was ∷ (one.after ++ after)
    was_between =
        ap (λ ls. before ++ (ls ++ after)) one.old_leaves
        ∙ ap (λ ls. before ++ ls) (append_assoc one.before (one.was ∷ one.after) after)
        ∙ sym (append_assoc before one.before (one.was ∷ (one.after ++ after)))

    is_between : before ++ (new ++ after) ≡ (before ++ one.before) ++ (one.is ++ (one.after ++ after))
    is_between =
        ap (λ ls. before ++ (ls ++ after)) one.new_leaves
        ∙ ap (λ ls. before ++ ls) (append_assoc one.before (one.is ++ one.after) after)
        ∙ ap (λ ls. before ++ (one.before ++ ls)) (append_assoc one.is one.after after)
        ∙ sym (append_assoc before one.before (one.is ++ (one.after ++ after)))

    pub reindices_between : ReindicesOneLeaf (before ++ (old ++ after)) (before ++ (new ++ after))
    reindices_between = record {
      before = before ++ one.before;
      after = one.after ++ after;
      was = one.was;
      is = one.is;
      one_or_two = one.one_or_two;
      old_leaves = was_between;
      new_leaves = is_between;
    }

  -- a change of one leaf of a node is one of the whole list
  pub one_of_all : (nodes : List (List (List A))) (i : ℕ) (node : List (List A)) → i < length nodes → 0 < length (get_or nodes i []) → ChangesOneLeaf (get_or nodes i []) node → ChangesOneLeaf (all_entries nodes) (all_entries (set nodes i node))
  one_of_all nodes i node lt some one =
      let old = get_or nodes i [] in
      let around = all_around nodes i lt in
      let long : 0 < length (all_entries nodes) = omega (arith, ap length around, some, length-between (all_entries (take i nodes)) old (all_entries (drop (suc i) nodes))) in
      changes (all_entries nodes) (all_entries (set nodes i node)) long
      (rw (around, all_with nodes i node lt) (reindices_between (all_entries (take i nodes)) old node (all_entries (drop (suc i) nodes)) (reindices old node some one))) where
        length-between : {B : Type 0} (xs ys zs : List B) → length ys ≤ length (xs ++ (ys ++ zs))
        length-between [] [] zs = omega arith
        length-between [] (y ∷ ys) zs = omega (arith, length-between [] ys zs)
        length-between (x ∷ xs) ys zs = omega (arith, length-between xs ys zs)

module _ {A : Type 0} where
  -- all counts after a list that changed, `k` further
  all_moved : (was is k : ℕ) (lists : List (List A)) → counts_after (is + k) lists ≡ moved_from 0 was is (counts_after (was + k) lists)
  all_moved was is k [] = refl
  all_moved was is k (l ∷ ls) =
      let first : (is + k) + length l ≡ (((was + k) + length l) - was) + is = omega arith in
      let next : (is + k) + length l ≡ is + (k + length l) = omega arith in
      let same : was + (k + length l) ≡ (was + k) + length l = omega arith in
      ap (λ n. n ∷ counts_after ((is + k) + length l) ls) first
      ∙ ap (λ ns. ((((was + k) + length l) - was) + is) ∷ ns)
      (ap (λ n. counts_after n ls) next ∙ all_moved was is (k + length l) ls ∙ ap (λ n. moved_from 0 was is (counts_after n ls)) same)

  all_can_move : (was is k : ℕ) (lists : List (List A)) → (is + k) + length (all_entries lists) < 2 ^ 64 → CanMove 0 was is (counts_after (was + k) lists)
  all_can_move was is k [] fits = tt
  all_can_move was is k (l ∷ ls) fits =
      let long = length-append l (all_entries ls) in
      let same : was + (k + length l) ≡ (was + k) + length l = omega arith in
      (omega arith, omega (arith, fits, long), rw (← same) (all_can_move was is (k + length l) ls (omega (arith, fits, long))))

  -- the counts where one list is replaced
  pub moved_counts : (m : ℕ) (lists : List (List A)) (i : ℕ) (x : List A) (was is : ℕ) → i < length lists → was ≡ (m + length (all_entries (take i lists))) + length (get_or lists i []) → is ≡ (m + length (all_entries (take i lists))) + length x → counts_after m (set lists i x) ≡ moved_from i was is (counts_after m lists)
  moved_counts m [] i x was is lt at to = absurd (omega (arith, lt))
  moved_counts m (l ∷ ls) zero x was is lt at to =
      let was_is : m + length l ≡ was + 0 = omega (arith, at) in
      let is_is : m + length x ≡ is + 0 = omega (arith, to) in
      let first : m + length x ≡ ((was + 0) - was) + is = omega (arith, to) in
      ap (λ n. n ∷ counts_after (m + length x) ls) first
      ∙ ap (λ ns. (((was + 0) - was) + is) ∷ ns) (ap (λ n. counts_after n ls) is_is ∙ all_moved was is 0 ls)
      ∙ ap (λ n. moved_from 0 was is (n ∷ counts_after n ls)) (sym was_is)
  moved_counts m (l ∷ ls) (suc i) x was is lt at to =
      let long = length-append l (all_entries (take i ls)) in
      ap (λ ns. (m + length l) ∷ ns) (moved_counts (m + length l) ls i x was is (omega (arith, lt)) (omega (arith, at, long)) (omega (arith, to, long)))

  can_move : (m : ℕ) (lists : List (List A)) (i : ℕ) (x : List A) (was is : ℕ) → i < length lists → was ≡ (m + length (all_entries (take i lists))) + length (get_or lists i []) → is ≡ (m + length (all_entries (take i lists))) + length x → m + length (all_entries (set lists i x)) < 2 ^ 64 → CanMove i was is (counts_after m lists)
  can_move m [] i x was is lt at to fits = absurd (omega (arith, lt))
  can_move m (l ∷ ls) zero x was is lt at to fits =
      let long = length-append x (all_entries ls) in
      let was_is : was + 0 ≡ m + length l = omega (arith, at) in
      (omega (arith, at), omega (arith, at, to, fits, long), rw (← was_is) (all_can_move was is 0 ls (omega (arith, to, fits, long))))
  can_move m (l ∷ ls) (suc i) x was is lt at to fits =
      let long = length-append l (all_entries (take i ls)) in
      can_move (m + length l) ls i x was is (omega (arith, lt)) (omega (arith, at, long)) (omega (arith, to, long)) (omega (arith, fits, length-append l (all_entries (set ls i x))))

  -- the counts where one list becomes two
  divided_counts : (m : ℕ) (lists : List (List A)) (i j : ℕ) (x y : List A) (end : ℕ) → i < length lists → j ≡ suc i → end ≡ (m + length (all_entries (take i lists))) + length x → counts_after m (inserted_at j (y ∷ []) (set lists i x)) ≡ insert (counts_after m (set lists i (x ++ y))) i end
  divided_counts m [] i j x y end lt next at = absurd (omega (arith, lt))
  divided_counts m (l ∷ ls) zero j x y end lt next at =
      let first : m + length x ≡ end = omega (arith, at) in
      let second : (m + length x) + length y ≡ m + length (x ++ y) = omega (arith, length-append x y) in
      ap (λ k. counts_after m (inserted_at k (y ∷ []) (x ∷ ls))) next
      ∙ ap (λ n. (m + length x) ∷ n ∷ counts_after n ls) second
      ∙ ap (λ n. n ∷ (m + length (x ++ y)) ∷ counts_after (m + length (x ++ y)) ls) first
  divided_counts m (l ∷ ls) (suc i) j x y end lt next at =
      let long = length-append l (all_entries (take i ls)) in
      ap (λ k. counts_after m (inserted_at k (y ∷ []) (l ∷ set ls i x))) next
      ∙ ap (λ ns. (m + length l) ∷ ns) (divided_counts (m + length l) ls i (suc i) x y end (omega (arith, lt)) refl (omega (arith, at, long)))

  pub all_inserted : (lists : List (List A)) (i j : ℕ) (x y : List A) → i < length lists → j ≡ suc i → all_entries (inserted_at j (y ∷ []) (set lists i x)) ≡ all_entries (set lists i (x ++ y))
  all_inserted [] i j x y lt next = absurd (omega (arith, lt))
  all_inserted (l ∷ ls) zero j x y lt next =
      ap (λ k. all_entries (inserted_at k (y ∷ []) (x ∷ ls))) next ∙ assoc x where
        assoc : (es : List A) → es ++ (y ++ all_entries ls) ≡ (es ++ y) ++ all_entries ls
        assoc [] = refl
        assoc (e ∷ es) = ap (λ rest. e ∷ rest) (assoc es)
  all_inserted (l ∷ ls) (suc i) j x y lt next =
      ap (λ k. all_entries (inserted_at k (y ∷ []) (l ∷ set ls i x))) next ∙ ap (λ es. l ++ es) (all_inserted ls i (suc i) x y (omega (arith, lt)) refl)

  none_inserted : (lists : List (List A)) (j : ℕ) → inserted_at j [] lists ≡ lists
  none_inserted [] zero = refl
  none_inserted [] (suc j) = refl
  none_inserted (l ∷ ls) zero = refl
  none_inserted (l ∷ ls) (suc j) = ap (λ rest. l ∷ rest) (none_inserted ls j)

  module _ (lists : List (List A)) (ends : List ℕ) (are : AreEntryCounts lists ends) (i : ℕ) (lt : i < length lists) where
    -- the count up to the end of a list
    end_is : get_or ends i 0 ≡ (0 + length (all_entries (take i lists))) + length (get_or lists i [])
    end_is = ap (λ es. get_or es i 0) are.each ∙ end_at 0 lists i lt 0 ∙ with_own lists i lt where
      with_own : (ls : List (List A)) (j : ℕ) → j < length ls → 0 + length (all_entries (take (suc j) ls)) ≡ (0 + length (all_entries (take j ls))) + length (get_or ls j [])
      with_own [] j le = absurd (omega (arith, le))
      with_own (l ∷ ls) zero le = omega (arith, length-append l [])
      with_own (l ∷ ls) (suc j) le = omega (arith, with_own ls j (omega (arith, le)), length-append l (all_entries (take (suc j) ls)), length-append l (all_entries (take j ls)))

    pub start_is : end_before i ends ≡ 0 + length (all_entries (take i lists))
    start_is = from i lt where
      from : (j : ℕ) → j < length lists → end_before j ends ≡ 0 + length (all_entries (take j lists))
      from zero le = omega arith
      from (suc j) le = ap (λ es. get_or es j 0) are.each ∙ end_at 0 lists j (omega (arith, le)) 0

    pub may_recount : (front : ℕ) (back : Option ℕ) (x : List A) → front + unwrap_or back 0 ≡ length x → length (all_entries (set lists i x)) < 2 ^ 64 → MayRecount i front back ends
    may_recount front back x is fits =
        let to : (end_before i ends + front) + unwrap_or back 0 ≡ (0 + length (all_entries (take i lists))) + length x = omega (arith, start_is, is) in
        subst (λ es. CanMove i (get_or ends i 0) ((end_before i ends + front) + unwrap_or back 0) es) (sym are.each) (can_move 0 lists i x (get_or ends i 0) ((end_before i ends + front) + unwrap_or back 0) lt end_is to (omega (arith, fits)))

    moved_ends : (x : List A) (to : ℕ) → to ≡ (0 + length (all_entries (take i lists))) + length x → moved_from i (get_or ends i 0) to ends ≡ counts_after 0 (set lists i x)
    moved_ends x to is = ap (moved_from i (get_or ends i 0) to) are.each ∙ sym (moved_counts 0 lists i x (get_or ends i 0) to lt end_is is)

    -- the list and the one after it are counted
    pub recounted_ends : (front : List A) (back : Option (List A)) (new : List ℕ) → new ≡ recounted i (length front) (option_map length back) ends → length (all_entries (inserted_at (i + 1) (option_to_list back) (set lists i front))) < 2 ^ 64 → AreEntryCounts (inserted_at (i + 1) (option_to_list back) (set lists i front)) new
    recounted_ends front None new is fits = record {
      each = is ∙ moved_ends front (end_before i ends + length front) (omega (arith, start_is)) ∙ ap (counts_after 0) (sym (none_inserted (set lists i front) (i + 1)));
      fits = fits;
    }
    recounted_ends front (Some back) new is fits =
        let next : i + 1 ≡ suc i = omega arith in
        let start : end_before i ends + length front ≡ (0 + length (all_entries (take i lists))) + length front = omega (arith, start_is) in
        record {
          each = is
              ∙ ap (λ es. insert es i (end_before i ends + length front)) (moved_ends (front ++ back) ((end_before i ends + length front) + length back) (omega (arith, start_is, length-append front back)))
              ∙ sym (divided_counts 0 lists i (i + 1) front back (end_before i ends + length front) lt next start);
          fits = fits;
        }

module _ {A : Type 0} where
  in_nodes-append : (nodes more : List (List (List A))) → in_nodes (nodes ++ more) ≡ in_nodes nodes ++ in_nodes more
  in_nodes-append [] more = refl
  in_nodes-append (n ∷ ns) more = ap (λ es. all_entries n ∷ es) (in_nodes-append ns more)

  in_nodes-if : (back : Option (List (List A))) → in_nodes (option_to_list back) ≡ option_to_list (option_map all_entries back)
  in_nodes-if None = refl
  in_nodes-if (Some b) = refl

  pub in_nodes-inserted : (nodes : List (List (List A))) (i : ℕ) (front : List (List A)) (back : Option (List (List A))) → in_nodes (inserted_at (i + 1) (option_to_list back) (set nodes i front)) ≡ inserted_at (i + 1) (option_to_list (option_map all_entries back)) (set (in_nodes nodes) i (all_entries front))
  in_nodes-inserted nodes i front back =
      let now = set nodes i front in
      in_nodes-append (take (i + 1) now) (option_to_list back ++ drop (i + 1) now)
      ∙ ap (λ es. in_nodes (take (i + 1) now) ++ es) (in_nodes-append (option_to_list back) (drop (i + 1) now) ∙ ap (λ es. es ++ in_nodes (drop (i + 1) now)) (in_nodes-if back))
      ∙ ap (λ es. es ++ (option_to_list (option_map all_entries back) ++ in_nodes (drop (i + 1) now))) (sym (take_nodes (i + 1) now))
      ∙ ap (λ es. take (i + 1) (in_nodes now) ++ (option_to_list (option_map all_entries back) ++ es)) (sym (drop_nodes (i + 1) now))
      ∙ ap (λ es. inserted_at (i + 1) (option_to_list (option_map all_entries back)) es) (in_nodes-set nodes i front)

  count_both : (front : List (List A)) (back : Option (List (List A))) → length (all_entries front) + unwrap_or (entry_count back) 0 ≡ length (all_entries (both front back))
  count_both front None = omega (arith, ap length (all_append front []), length-append (all_entries front) [])
  count_both front (Some back) = omega (arith, ap length (all_append front back), length-append (all_entries front) (all_entries back))

  count_leaves : (front : List (List A)) (back : Option (List (List A))) → length front + unwrap_or (leaf_count back) 0 ≡ length (both front back)
  count_leaves front None = omega (arith, length-append front [])
  count_leaves front (Some back) = omega (arith, length-append front back)

  module _ (nodes : List (List (List A))) (ends : List Sizes) (are : AreCounts nodes ends) (i : ℕ) (lt : i < length nodes) (front : List (List A)) (back : Option (List (List A))) where
    within : i < length (in_nodes nodes)
    within = omega (arith, lt, length-in_nodes nodes)

    -- a node and the one after it may be counted
    pub can_recount : length (all_entries (set (in_nodes nodes) i (all_entries (both front back)))) < 2 ^ 64 → length (all_entries (set nodes i (both front back))) < 2 ^ 64 → CanRecount i front back ends
    can_recount fits few = record {
      entries = may_recount (in_nodes nodes) (entry_ends ends) are.entries i within (length (all_entries front)) (entry_count back) (all_entries (both front back)) (count_both front back) fits;
      leaves = may_recount nodes (leaf_ends ends) are.leaves i lt (length front) (leaf_count back) (both front back) (count_leaves front back) few;
    }

    entry_counts_are : (b : Option (List (List A))) → entry_count b ≡ option_map length (option_map all_entries b)
    entry_counts_are None = refl
    entry_counts_are (Some b) = refl

    -- the row's counts once they are counted
    pub now_counted : (new_ends : List Sizes) → AreRecounted i front back ends new_ends → length (all_entries (in_nodes (inserted_at (i + 1) (option_to_list back) (set nodes i front)))) < 2 ^ 64 → length (all_entries (inserted_at (i + 1) (option_to_list back) (set nodes i front))) < 2 ^ 64 → AreCounts (inserted_at (i + 1) (option_to_list back) (set nodes i front)) new_ends
    now_counted new_ends new fits few = record {
      entries = rw (in_nodes-inserted nodes i front back) (recounted_ends (in_nodes nodes) (entry_ends ends) are.entries i within (all_entries front) (option_map all_entries back) (entry_ends new_ends)
          (new.entries ∙ ap (λ b. recounted i (length (all_entries front)) b (entry_ends ends)) (entry_counts_are back))
          (rw (in_nodes-inserted nodes i front back) at fits));
      leaves = recounted_ends nodes (leaf_ends ends) are.leaves i lt front back (leaf_ends new_ends) new.leaves few;
    }
