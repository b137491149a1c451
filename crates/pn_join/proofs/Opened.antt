-- Nodes that are taken out of a row and opened for edits, the last first.
use Rattle.std.proofs.Common.{◌≡◌, ℕ, zero, suc, ◌+◌, ◌-◌, ◌<◌, ◌≤◌, List, [], ◌∷◌, ◌++◌, length, reverse, get_or, set, take, drop, Option, Some, None, Result, Ok, Err, IfSome, true, false, leb, min, option_map, Ordering, refl, sym, ap, ◌∙◌, subst, arith, append_assoc}
use Rattle.std.specs.List.{AllByRecursion, prefix_len}
use Rattle.std.proofs.lemmas.Bool.Decides.{nat_tests}
use Rattle.std.proofs.lemmas.List.{length-append, length-reverse, reverse-append}
use Rattle.pn_join.specs.NodeLeaves.{in_nodes, entries_in}
use Rattle.pn_join.specs.Edits.{put_in_turn, AreEditsWithin, InOrder, StopsBefore}
use Rattle.pn_join.specs.Leaves.{all_entries, counts_after, last_of}
use Rattle.pn_join.specs.Openings.{AreOpened, IsOpened}
use Rattle.pn_join.specs.PutAt.{place, from_start, IsAmong}
use Rattle.pn_join.specs.Rows.{filled, AreTaken, GoDown, IsTaken, NoneShrinks}
use Rattle.pn_join.specs.declared.table.edit.Edit.{Edit}
use Rattle.pn_join.specs.declared.table.row.opening.Taken.{Taken}
use Rattle.pn_join.proofs.NodeFacts.{all_in_nodes, at_node, length-in_nodes}
use Rattle.pn_join.proofs.ListFacts.{each_back, each_prefix, each_append}
use Rattle.pn_join.proofs.Lasts.{last_one, last_next, last_push, set_same, set_twice, set_apart, get_before_set, take_before_set, get_taken, length-set}
use Rattle.pn_join.proofs.NodeAt.{ComesInto, comes_into}
use Rattle.pn_join.proofs.PutAtFacts.{ComeInto, put_in_turn-inside, put_in_turn-append, put_in_turn-grows}
use Rattle.pn_join.proofs.RowFacts.{all_around, all_with, in_nodes-set}

-- the taken nodes stand at this index or after it
abbrev pub NotBelow : {O : Type 0} → ℕ → List (Taken O) → Type 0
NotBelow index taken = AllByRecursion (λ one. index ≤ one.index) taken

module _ {O A : Type 0} (content : O → A) where
  -- one more node, taken after all others
  pub filled_push : (taken : List (Taken O)) (one : Taken O) (nodes : List A) → filled content (taken ++ one ∷ []) nodes ≡ filled content taken (set nodes one.index (content one.node))
  filled_push [] one nodes = refl
  filled_push (t ∷ ts) one nodes = ap (λ ns. set ns t.index (content t.node)) (filled_push ts one nodes)

  -- a node before those that are taken stays
  pub filled_set : (taken : List (Taken O)) (i : ℕ) (x : A) (nodes : List A) → NotBelow (suc i) taken → filled content taken (set nodes i x) ≡ set (filled content taken nodes) i x
  filled_set [] i x nodes below = refl
  filled_set (t ∷ ts) i x nodes below =
      ap (λ ns. set ns t.index (content t.node)) (filled_set ts i x nodes below.1)
      ∙ set_apart (filled content ts nodes) i t.index x (content t.node) (omega (arith, below.0))

  pub filled_get : (taken : List (Taken O)) (i : ℕ) (d : A) (nodes : List A) → NotBelow (suc i) taken → get_or (filled content taken nodes) i d ≡ get_or nodes i d
  filled_get [] i d nodes below = refl
  filled_get (t ∷ ts) i d nodes below = get_before_set (filled content ts nodes) i t.index (content t.node) d (omega (arith, below.0)) ∙ filled_get ts i d nodes below.1

  pub length-filled : (taken : List (Taken O)) (nodes : List A) → length (filled content taken nodes) ≡ length nodes
  length-filled [] nodes = refl
  length-filled (t ∷ ts) nodes = length-set (filled content ts nodes) t.index (content t.node) ∙ length-filled ts nodes

module _ {O : Type 0} where
  pub go_down_push : (taken : List (Taken O)) (n : ℕ) (one : Taken O) → GoDown n taken → one.index < n → NotBelow (suc one.index) taken → GoDown n (taken ++ one ∷ [])
  go_down_push [] n one down lt below = (lt, tt)
  go_down_push (t ∷ ts) n one down lt below = (down.0, go_down_push ts t.index one down.1 (omega (arith, below.0)) below.1)

  not_below_less : (taken : List (Taken O)) (i j : ℕ) → i ≤ j → NotBelow j taken → NotBelow i taken
  not_below_less [] i j le h = tt
  not_below_less (t ∷ ts) i j le h = (omega (arith, le, h.0), not_below_less ts i j le h.1)

  pub not_below_push : (taken : List (Taken O)) (i j : ℕ) (one : Taken O) → i ≤ j → NotBelow j taken → i ≡ one.index → NotBelow i (taken ++ one ∷ [])
  not_below_push taken i j one le h at = each_append (λ t. i ≤ t.index) taken (one ∷ []) (not_below_less taken i j le h) (omega (arith, at), tt)

-- edits of a node lie among its entries
fit_one : (first count end : ℕ) (last index : Result ℕ ℕ) → place index ≤ place last → place last ≤ first + count → (place last ≡ first + count → place last ≡ end) → IsAmong end index → IsAmong (first + count) index
fit_one first count end last (Ok i) le most at among = fit i le among where
  fit : (i : ℕ) → i ≤ place last → i < end → i < first + count
  fit i le among =
      elim (leb (first + count) (place last)) as (λ b. leb (first + count) (place last) ≡ b → i < first + count) [
        | true ↦ λ p.
            let ge : first + count ≤ place last = grind (arith, nat_tests) in
            omega (arith, among, at (omega (arith, ge, most)), ge, most)
        | false ↦ λ p.
            let lt : place last < first + count = grind (arith, nat_tests) in
            omega (arith, lt, le)
      ] refl
fit_one first count end last (Err i) le most at among = omega (arith, le, most)

-- a place counted from a start
pub place_from : (start : ℕ) (index : Result ℕ ℕ) → place (from_start start index) ≡ place index - start
place_from start (Ok i) = refl
place_from start (Err i) = refl

module _ {K C : Type 0} where
  abbrev Place : Edit K C → ℕ
  Place edit = place edit.index

  -- the last edit, if there is one, has the greatest index
  up_to_last : (edits : List (Edit K C)) (last : Edit K C) → InOrder edits → last_of edits ≡ Some last → AllByRecursion (λ edit. Place edit ≤ Place last) edits
  up_to_last [] last order is = tt
  up_to_last (e ∷ []) last order is =
      let same : e ≡ last = some_is (sym (last_one e) ∙ is) in
      (subst (λ x. Place e ≤ Place x) same (omega arith), tt) where
        some_is : {x y : Edit K C} → Some x ≡ Some y → x ≡ y
        some_is p = cc
  up_to_last (e ∷ d ∷ edits) last order is =
      let rest = up_to_last (d ∷ edits) last order.1 (sym (last_next e d edits) ∙ is) in
      (omega (arith, order.0.0, rest.0), rest)

  order_prefix : (edits more : List (Edit K C)) → InOrder (edits ++ more) → InOrder edits
  order_prefix [] more order = tt
  order_prefix (e ∷ edits) more order = (each_prefix (λ later. Place e ≤ Place later) edits more order.0, order_prefix edits more order.1)

  pub first_within : (count : ℕ) (edits more : List (Edit K C)) → AreEditsWithin count (edits ++ more) → AreEditsWithin count edits
  first_within count edits more are = record { order = order_prefix edits more are.order; among = each_prefix (λ edit. IsAmong count edit.index) edits more are.among }

  each_reversed : (P : Edit K C → Type 0) (edits : List (Edit K C)) → AllByRecursion P (reverse edits) → AllByRecursion P edits
  each_reversed P [] h = tt
  each_reversed P (e ∷ edits) h =
      let both = subst (AllByRecursion P) (reverse-append (e ∷ []) edits) h in
      ((each_back P (reverse edits) (e ∷ []) both).0, each_reversed P edits (each_prefix P (reverse edits) (e ∷ []) both))

  fit_all : (first count end : ℕ) (last : Result ℕ ℕ) (edits : List (Edit K C)) → AllByRecursion (λ edit. Place edit ≤ place last) edits → place last ≤ first + count → (place last ≡ first + count → place last ≡ end) → AllByRecursion (λ edit. IsAmong end edit.index) edits → AllByRecursion (λ edit. IsAmong (first + count) edit.index) edits
  fit_all first count end last [] les most at among = tt
  fit_all first count end last (e ∷ edits) les most at among = (fit_one first count end last e.index les.0 most at among.0, fit_all first count end last edits les.1 most at among.1)

  pub fit_node : (first count end : ℕ) (edits : List (Edit K C)) (last : Edit K C) → last_of edits ≡ Some last → Place last ≤ first + count → (Place last ≡ first + count → Place last ≡ end) → AreEditsWithin end edits → AreEditsWithin (first + count) edits
  fit_node first count end edits last is most at are = record {
    order = are.order;
    among = fit_all first count end last.index edits (up_to_last edits last are.order is) most at are.among;
  }

  into : (first count : ℕ) (edits : List (Edit K C)) → AllByRecursion (λ edit. first ≤ Place edit) edits → AllByRecursion (λ edit. IsAmong (first + count) edit.index) edits → AllByRecursion (ComeInto first count) edits
  into first count [] from among = tt
  into first count (e ∷ edits) from among = ((from.0, one e.index from.0 among.0), into first count edits from.1 among.1) where
    one : (index : Result ℕ ℕ) → first ≤ place index → IsAmong (first + count) index → IsAmong count (from_start first index)
    one (Ok i) le lt = omega (arith, le, lt)
    one (Err i) le lt = omega (arith, le, lt)

  -- the edits that a node takes off come into it
  pub all_into : (first count : ℕ) (edits left mine : List (Edit K C)) → AreEditsWithin (first + count) edits → edits ≡ left ++ reverse mine → AllByRecursion (λ edit. first ≤ Place edit) mine → AllByRecursion (ComeInto first count) mine
  all_into first count edits left mine are parted from =
      into first count mine from (each_reversed (λ edit. IsAmong (first + count) edit.index) mine
      (each_back (λ edit. IsAmong (first + count) edit.index) left (reverse mine) (rw parted at are.among)))

  -- a node takes at least the last edit off
  pub fewer : (first : ℕ) (edits left mine : List (Edit K C)) (last : Edit K C) → edits ≡ left ++ reverse mine → last_of edits ≡ Some last → first ≤ Place last → StopsBefore first left → length left < length edits
  fewer first edits left [] last parted is le stops =
      let same : left ≡ edits = sym (parted ∙ nothing left) in
      absurd (omega (arith, le, subst (λ o. IfSome o (λ edit. Place edit < first)) is (subst (StopsBefore first) same stops))) where
        nothing : (es : List (Edit K C)) → es ++ reverse [] ≡ es
        nothing [] = refl
        nothing (e ∷ es) = ap (λ ds. e ∷ ds) (nothing es)
  fewer first edits left (m ∷ mine) last parted is le stops = omega (arith, ap length parted, length-append left (reverse (m ∷ mine)), length-reverse (m ∷ mine))

  -- edits put into one of several lists are put into all
  step_entries : (lists : List (List (K × C))) (i : ℕ) (start first : ℕ) (es x : List (K × C)) (mine : List (Edit K C)) → i < length lists → es ≡ get_or lists i [] → first ≡ start + length (all_entries (take i lists)) → AllByRecursion (ComeInto first (length es)) mine → x ≡ put_in_turn first es mine → all_entries (set lists i x) ≡ put_in_turn start (all_entries lists) mine
  step_entries lists i start first es x mine lt here at come is =
      let before = all_entries (take i lists) in
      let after = all_entries (drop (suc i) lists) in
      all_with lists i x lt
      ∙ ap (λ y. before ++ (y ++ after)) (is ∙ ap (λ n. put_in_turn n es mine) at)
      ∙ sym (put_in_turn-inside mine start before es after (rw (← at) come))
      ∙ ap (λ all. put_in_turn start all mine) (ap (λ y. before ++ (y ++ after)) here ∙ sym (all_around lists i lt))

  last_has : (P : Edit K C → Type 0) (edits : List (Edit K C)) (last : Edit K C) → last_of edits ≡ Some last → AllByRecursion P edits → P last
  last_has P [] last is h = cc
  last_has P (e ∷ []) last is h = let same : e ≡ last = some_is (sym (last_one e) ∙ is) in subst P same h.0 where
    some_is : {x y : Edit K C} → Some x ≡ Some y → x ≡ y
    some_is p = cc
  last_has P (e ∷ d ∷ edits) last is h = last_has P (d ∷ edits) last (sym (last_next e d edits) ∙ is) h.1

  -- the last edit, by its place
  pub last_there : (edits : List (Edit K C)) (index : ℕ) → option_map (λ edit. place edit.index) (last_of edits) ≡ Some index → (last : Edit K C) × (last_of edits ≡ Some last) × (place last.index ≡ index)
  last_there edits index is = by (last_of edits) is refl where
    by : (o : Option (Edit K C)) → option_map (λ edit. place edit.index) o ≡ Some index → last_of edits ≡ o → (last : Edit K C) × (last_of edits ≡ Some last) × (place last.index ≡ index)
    by None is same = cc
    by (Some last) is same = (last, same, same_index is) where
      same_index : {x y : ℕ} → Some x ≡ Some y → x ≡ y
      same_index p = cc

module _ {K C O : Type 0} (was : O → List (List (K × C))) (becomes : O → List (K × C)) (start : ℕ) (nodes : List (List (List (K × C)))) (edits : List (Edit K C)) where
  -- the nodes opened so far, the last first, and the edits that are left
  pub record OpenedSoFar (now : List (List (List (K × C)))) (taken : List (Taken O)) (left : List (Edit K C)) : Type 0 where
    pub limit : ℕ
    pub inside : limit ≤ length nodes
    pub same : filled was taken now ≡ nodes
    pub down : GoDown (length now) taken
    pub above : NotBelow limit taken
    pub grow : NoneShrinks was becomes taken
    pub mine : List (Edit K C)
    pub parted : edits ≡ left ++ reverse mine
    pub from : AllByRecursion (λ edit. start ≤ place edit.index) mine
    pub has : all_entries (filled becomes taken (in_nodes now)) ≡ put_in_turn start (entries_in nodes) mine
    pub untouched : (i : ℕ) → i ≤ limit → take i (filled becomes taken (in_nodes now)) ≡ take i (in_nodes nodes)
    pub stops : (last : Edit K C) → last_of left ≡ Some last → (i : ℕ) → i < length nodes → start + length (all_entries (take i (in_nodes nodes))) ≤ place last.index → i < limit

  pub none_opened : OpenedSoFar nodes [] edits
  none_opened = record {
    limit = length nodes;
    inside = omega arith;
    same = refl;
    down = tt;
    above = tt;
    grow = tt;
    mine = [];
    parted = sym (nothing edits);
    from = tt;
    has = all_in_nodes nodes;
    untouched = λ i le. refl;
    stops = λ last is i lt le. lt;
  } where
    nothing : (es : List (Edit K C)) → es ++ [] ≡ es
    nothing [] = refl
    nothing (e ∷ es) = ap (λ ds. e ∷ ds) (nothing es)

  pub are_taken : (now : List (List (List (K × C)))) (taken : List (Taken O)) (left : List (Edit K C)) → OpenedSoFar now taken left → AreTaken was becomes nodes now taken
  are_taken now taken left h = record { same = h.same; down = h.down; grow = h.grow }

  -- the edits that are left lie among the entries
  pub left_within : (count : ℕ) (now : List (List (List (K × C)))) (taken : List (Taken O)) (left : List (Edit K C)) → AreEditsWithin count edits → OpenedSoFar now taken left → AreEditsWithin count left
  left_within count now taken left are h = first_within count left (reverse h.mine) (rw h.parted at are)

  pub all_opened : (now : List (List (List (K × C)))) (taken : List (Taken O)) (left : List (Edit K C)) → OpenedSoFar now taken left → StopsBefore start left → AreOpened start (entries_in nodes) edits left (all_entries (filled becomes taken (in_nodes now)))
  all_opened now taken left h stops = record { mine = h.mine; parted = h.parted; from = h.from; stops = stops; has = h.has }

  -- the node that the last edit comes into
  pub last_comes : (now : List (List (List (K × C)))) (taken : List (Taken O)) (left : List (Edit K C)) → OpenedSoFar now taken left → AreEditsWithin (start + length (entries_in nodes)) edits → 0 < length nodes → (last : Edit K C) → last_of left ≡ Some last → start ≤ place last.index → (i at : ℕ) → at ≡ prefix_len (λ end. leb end (place last.index - start)) (counts_after 0 (in_nodes nodes)) → i ≡ min at (length nodes - 1) → ComesInto (in_nodes nodes) i (from_start start last.index)
  last_comes now taken left h are some last is from i at found most =
      let entries : length (entries_in nodes) ≡ length (all_entries (in_nodes nodes)) = ap length (sym (all_in_nodes nodes)) in
      let among = local last.index from (last_has (λ edit. IsAmong (start + length (entries_in nodes)) edit.index) left last is (left_within (start + length (entries_in nodes)) now taken left are h).among) in
      comes_into (in_nodes nodes) (omega (arith, some, length-in_nodes nodes)) i at (from_start start last.index) (rw entries at among)
      (found ∙ ap (λ n. prefix_len (λ end. leb end n) (counts_after 0 (in_nodes nodes))) (sym (place_from start last.index)))
      (omega (arith, most, length-in_nodes nodes)) where
        local : (index : Result ℕ ℕ) → start ≤ place index → IsAmong (start + length (entries_in nodes)) index → IsAmong (length (entries_in nodes)) (from_start start index)
        local (Ok j) le lt = omega (arith, le, lt)
        local (Err j) le lt = omega (arith, le, lt)

  -- the last edit, and the node that it comes into
  pub next_comes : (now : List (List (List (K × C)))) (taken : List (Taken O)) (left : List (Edit K C)) → OpenedSoFar now taken left → AreEditsWithin (start + length (entries_in nodes)) edits → 0 < length nodes → (index : ℕ) → start ≤ index → option_map (λ edit. place edit.index) (last_of left) ≡ Some index → (i at : ℕ) → at ≡ prefix_len (λ end. leb end (index - start)) (counts_after 0 (in_nodes nodes)) → i ≡ min at (length nodes - 1) → (last : Edit K C) × (last_of left ≡ Some last) × (start ≤ place last.index) × (place last.index ≡ index) × ComesInto (in_nodes nodes) i (from_start start last.index)
  next_comes now taken left h are some index from is i at found most =
      let there = last_there left index is in
      let same : place there.0.index ≡ index = there.2 in
      let later : start ≤ place there.0.index = omega (arith, same, from) in
      (there.0, there.1, later, same, last_comes now taken left h are some there.0 there.1 later i at (found ∙ ap (λ n. prefix_len (λ end. leb end (n - start)) (counts_after 0 (in_nodes nodes))) (sym same)) most)

  module _ (now : List (List (List (K × C)))) (taken : List (Taken O)) (left : List (Edit K C)) (h : OpenedSoFar now taken left) (last : Edit K C) (is : last_of left ≡ Some last) (from : start ≤ place last.index) (i : ℕ) (come : ComesInto (in_nodes nodes) i (from_start start last.index)) where
    pub node_within : i < length nodes
    node_within = omega (arith, come.within, length-in_nodes nodes)

    starts : start + length (all_entries (take i (in_nodes nodes))) ≤ place last.index
    starts = omega (arith, come.starts, place_from start last.index, from)

    below : i < h.limit
    below = h.stops last is i node_within starts

    apart : NotBelow (suc i) taken
    apart = not_below_less taken (suc i) h.limit (omega (arith, below)) h.above

    -- the node has the leaves that it had
    pub node_is : get_or now i [] ≡ get_or nodes i []
    node_is = sym (filled_get was taken i [] now apart) ∙ ap (λ ns. get_or ns i []) h.same

    pub now_long : length now ≡ length nodes
    now_long = sym (length-filled was taken now) ∙ ap length h.same

    -- its edits lie among its entries
    pub node_edits : (end : ℕ) → end ≡ start + length (all_entries (in_nodes nodes)) → AreEditsWithin end left → AreEditsWithin ((start + length (all_entries (take i (in_nodes nodes)))) + length (all_entries (get_or now i []))) left
    node_edits end at are =
        let first = start + length (all_entries (take i (in_nodes nodes))) in
        let entries : get_or (in_nodes nodes) i [] ≡ all_entries (get_or now i []) = at_node nodes i ∙ ap all_entries (sym node_is) in
        let most : place last.index ≤ first + length (all_entries (get_or now i [])) = omega (arith, come.before_end, place_from start last.index, from, ap length entries) in
        let end_at : place last.index ≡ first + length (all_entries (get_or now i [])) → place last.index ≡ end = λ e. omega (arith, come.at_end (omega (arith, e, ap length entries, place_from start last.index)), place_from start last.index, from, at) in
        fit_node first (length (all_entries (get_or now i []))) end left last is most end_at are

    module _ (left_now : List (Edit K C)) (new : List (List (List (K × C)))) (new_taken : List (Taken O)) (step : IsTaken was becomes i (start + length (all_entries (take i (in_nodes nodes)))) left left_now now new taken new_taken) (are : AreEditsWithin ((start + length (all_entries (take i (in_nodes nodes)))) + length (all_entries (get_or now i []))) left) where
      in_now : i < length now
      in_now = omega (arith, node_within, now_long)

      now_same : filled was new_taken new ≡ nodes
      now_same =
          ap (λ ts. filled was ts new) step.added ∙ filled_push was taken step.one new
          ∙ ap (filled was taken) (
          ap (λ ns. set ns step.one.index (was step.one.node)) step.replaced
          ∙ ap (λ j. set (set now i step.hole) j (was step.one.node)) step.at
          ∙ set_twice now i step.hole (was step.one.node)
          ∙ ap (set now i) step.opened.had
          ∙ set_same now i [] in_now)
          ∙ h.same

      now_becomes : filled becomes new_taken (in_nodes new) ≡ set (filled becomes taken (in_nodes now)) i (becomes step.one.node)
      now_becomes =
          ap (λ ts. filled becomes ts (in_nodes new)) step.added ∙ filled_push becomes taken step.one (in_nodes new)
          ∙ ap (filled becomes taken) (
          ap (λ ns. set (in_nodes ns) step.one.index (becomes step.one.node)) step.replaced
          ∙ ap (λ j. set (in_nodes (set now i step.hole)) j (becomes step.one.node)) step.at
          ∙ ap (λ ns. set ns i (becomes step.one.node)) (in_nodes-set now i step.hole)
          ∙ set_twice (in_nodes now) i (all_entries step.hole) (becomes step.one.node))
          ∙ filled_set becomes taken i (becomes step.one.node) (in_nodes now) apart

      now_has : all_entries (filled becomes new_taken (in_nodes new)) ≡ put_in_turn start (entries_in nodes) (h.mine ++ step.opened.mine)
      now_has =
          let lists = filled becomes taken (in_nodes now) in
          let long : i < length lists = omega (arith, length-filled becomes taken (in_nodes now), length-in_nodes now, in_now) in
          let here : all_entries (get_or now i []) ≡ get_or lists i [] =
          ap all_entries node_is ∙ sym (at_node nodes i) ∙ sym (get_taken (in_nodes nodes) i []) ∙ ap (λ ls. get_or ls i []) (sym (h.untouched (suc i) (omega (arith, below)))) ∙ get_taken lists i [] in
          let at : (start + length (all_entries (take i (in_nodes nodes)))) ≡ start + length (all_entries (take i lists)) = ap (λ ls. start + length (all_entries ls)) (sym (h.untouched i (omega (arith, below)))) in
          ap all_entries now_becomes
          ∙ step_entries lists i start (start + length (all_entries (take i (in_nodes nodes)))) (all_entries (get_or now i [])) (becomes step.one.node) step.opened.mine long here at
          (all_into (start + length (all_entries (take i (in_nodes nodes)))) (length (all_entries (get_or now i []))) left left_now step.opened.mine are step.opened.parted step.opened.from)
          step.opened.has
          ∙ ap (λ all. put_in_turn start all step.opened.mine) h.has
          ∙ sym (put_in_turn-append start (entries_in nodes) h.mine step.opened.mine)

      now_untouched : (j : ℕ) → j ≤ i → take j (filled becomes new_taken (in_nodes new)) ≡ take j (in_nodes nodes)
      now_untouched j le =
          ap (take j) now_becomes ∙ take_before_set (filled becomes taken (in_nodes now)) j i (becomes step.one.node) le ∙ h.untouched j (omega (arith, le, below))

      now_parted : edits ≡ left_now ++ reverse (h.mine ++ step.opened.mine)
      now_parted =
          h.parted ∙ ap (λ l. l ++ reverse h.mine) step.opened.parted ∙ append_assoc left_now (reverse step.opened.mine) (reverse h.mine)
          ∙ ap (λ r. left_now ++ r) (sym (reverse-append h.mine step.opened.mine))

      later : (edits : List (Edit K C)) → AllByRecursion (λ edit. start + length (all_entries (take i (in_nodes nodes))) ≤ place edit.index) edits → AllByRecursion (λ edit. start ≤ place edit.index) edits
      later [] from = tt
      later (e ∷ es) from = (omega (arith, from.0), later es from.1)

      now_stops : (end : Edit K C) → last_of left_now ≡ Some end → (j : ℕ) → j < length nodes → start + length (all_entries (take j (in_nodes nodes))) ≤ place end.index → j < i
      now_stops end at j lt le =
          let before : place end.index < start + length (all_entries (take i (in_nodes nodes))) = subst (λ o. IfSome o (λ edit. place edit.index < start + length (all_entries (take i (in_nodes nodes))))) at step.opened.stops in
          less (in_nodes nodes) i j (omega (arith, le, before)) where
            less : (lists : List (List (K × C))) (i j : ℕ) → length (all_entries (take j lists)) < length (all_entries (take i lists)) → j < i
            less lists zero zero lt = absurd (omega (arith, lt))
            less lists zero (suc j) lt = absurd (omega (arith, lt))
            less [] (suc i) zero lt = omega arith
            less [] (suc i) (suc j) lt = absurd (omega (arith, lt))
            less (l ∷ ls) (suc i) zero lt = omega arith
            less (l ∷ ls) (suc i) (suc j) lt = omega (arith, less ls i j (omega (arith, lt, length-append l (all_entries (take i ls)), length-append l (all_entries (take j ls)))))

      no_less : length (all_entries (was step.one.node)) ≤ length (becomes step.one.node)
      no_less =
          omega (arith, ap (λ n. length (all_entries n)) step.opened.had, ap length step.opened.has, (put_in_turn-grows step.opened.mine (start + length (all_entries (take i (in_nodes nodes)))) (all_entries (get_or now i []))).0)

      pub one_opened : OpenedSoFar new new_taken left_now
      one_opened = record {
        limit = i;
        inside = omega (arith, node_within);
        same = now_same;
        down = subst (GoDown (length new)) (sym step.added) (
            rw (ap length step.replaced ∙ length-set now i step.hole) (go_down_push taken (length now) step.one h.down (omega (arith, step.at, in_now)) (rw step.at apart)));
        above = subst (NotBelow i) (sym step.added) (not_below_push taken i h.limit step.one (omega (arith, below)) h.above (sym step.at));
        grow = subst (NoneShrinks was becomes) (sym step.added) (each_append (λ one. length (all_entries (was one.node)) ≤ length (becomes one.node)) taken (step.one ∷ []) h.grow (no_less, tt));
        mine = h.mine ++ step.opened.mine;
        parted = now_parted;
        from = each_append (λ edit. start ≤ place edit.index) h.mine step.opened.mine h.from (later step.opened.mine step.opened.from);
        has = now_has;
        untouched = now_untouched;
        stops = now_stops;
      }

-- a row is open where its nodes are
pub row_opened : {K C : Type 0} (start : ℕ) (nodes : List (List (List (K × C)))) (edits left : List (Edit K C)) (row : List (List (List (K × C))) × List (K × C)) → row.0 ≡ nodes → AreOpened start (entries_in nodes) edits left row.1 → IsOpened (λ (opened : List (List (List (K × C))) × List (K × C)). all_entries opened.0) (λ opened. opened.1) start (all_entries nodes) edits left row
row_opened start nodes edits left row is h = record { mine = h.mine; parted = h.parted; from = h.from; stops = h.stops; had = ap all_entries is; has = h.has }
