-- Open nodes that are put back into their row one after another, the last first.
use Rattle.std.proofs.Common.{◌≡◌, ℕ, zero, suc, ◌+◌, ◌^◌, ◌<◌, ◌≤◌, List, [], ◌∷◌, ◌++◌, length, get_or, set, take, drop, Option, Some, None, unwrap_or, option_map, Ordering, refl, sym, ap, ◌∙◌, subst, arith}
use Rattle.std.specs.List.{AllByRecursion}
use Rattle.std.specs.Option.{option_to_list}
use Rattle.std.proofs.lemmas.List.{length-append}
use Rattle.pn_join.specs.NodeLeaves.{in_nodes, entries_in, AreNodes}
use Rattle.pn_join.specs.Counts.{AreCounts}
use Rattle.pn_join.specs.Leaves.{all_entries, IsLeaf, IsLeafList}
use Rattle.pn_join.specs.Nodes.{both, AreParts}
use Rattle.pn_join.specs.Rows.{filled, inserted_at, GoDown, IsFinished, MayFinish, NoneShrinks}
use Rattle.pn_join.specs.Tables.{IsTable}
use Rattle.pn_join.specs.declared.table.counts.Sizes.{Sizes}
use Rattle.pn_join.specs.declared.table.row.opening.Taken.{Taken}
use Rattle.pn_join.proofs.NodeFacts.{all_in_nodes, length-in_nodes}
use Rattle.pn_join.proofs.NodeGrowth.{all_append}
use Rattle.pn_join.proofs.CountsFacts.{length-ends}
use Rattle.pn_join.proofs.ListFacts.{each_prefix}
use Rattle.pn_join.proofs.PutAtFacts.{IsTable-inside}
use Rattle.pn_join.proofs.SliceFacts.{IsTable-prefix}
use Rattle.pn_join.proofs.Lasts.{set_twice, set_apart, length-set}
use Rattle.pn_join.proofs.Opened.{length-filled, filled_push}
use Rattle.pn_join.proofs.PutBack.{all_put_back, whole_back, leaves_few, put_back_some, put_back_sizes, set_sizes}
use Rattle.pn_join.proofs.RowFacts.{can_recount, now_counted, in_nodes-inserted, all_with, in_nodes-set}

module _ {A : Type 0} where
  set_in_front : (xs : List A) (i j : ℕ) (x : A) (more : List A) → i < j → j ≤ length xs → set (inserted_at j more xs) i x ≡ inserted_at j more (set xs i x)
  set_in_front xs i zero x more lt le = absurd (omega (arith, lt))
  set_in_front [] i (suc j) x more lt le = absurd (omega (arith, le))
  set_in_front (y ∷ ys) zero (suc j) x more lt le = refl
  set_in_front (y ∷ ys) (suc i) (suc j) x more lt le = ap (λ zs. y ∷ zs) (set_in_front ys i j x more (omega (arith, lt)) (omega (arith, le)))

  length-inserted : (xs : List A) (j : ℕ) (more : List A) → length (inserted_at j more xs) ≡ length xs + length more
  length-inserted [] zero more = omega (arith, length-append more [])
  length-inserted [] (suc j) more = omega (arith, length-append more [])
  length-inserted (y ∷ ys) zero more = omega (arith, length-append more (y ∷ ys))
  length-inserted (y ∷ ys) (suc j) more = omega (arith, length-inserted ys j more)

go_down_more : {O : Type 0} (taken : List (Taken O)) (n m : ℕ) → n ≤ m → GoDown n taken → GoDown m taken
go_down_more [] n m le h = tt
go_down_more (t ∷ ts) n m le h = (omega (arith, le, h.0), h.1)

module _ {O A : Type 0} (content : O → A) where
  -- nodes before the one that is replaced, and what comes after it, do not meddle
  pub filled_inserted : (taken : List (Taken O)) (i j : ℕ) (x : A) (more nodes : List A) → GoDown i taken → j ≡ suc i → i < length nodes → filled content taken (inserted_at j more (set nodes i x)) ≡ inserted_at j more (set (filled content taken nodes) i x)
  filled_inserted [] i j x more nodes down at lt = refl
  filled_inserted (t ∷ ts) i j x more nodes down at lt =
      let rest = filled content ts nodes in
      ap (λ ns. set ns t.index (content t.node)) (filled_inserted ts i j x more nodes (go_down_more ts t.index i (omega (arith, down.0)) down.1) at lt)
      ∙ set_in_front (set rest i x) t.index j (content t.node) more (omega (arith, down.0, at)) (omega (arith, at, lt, length-set rest i x, length-filled content ts nodes))
      ∙ ap (inserted_at j more) (sym (set_apart rest t.index i (content t.node) x down.0))

-- the lists are no longer than the others, each
abbrev NoLonger : {A : Type 0} → List (List A) → List (List A) → Type 0
NoLonger [] ys = Unit {0}
NoLonger (x ∷ xs) [] = ⊥
NoLonger (x ∷ xs) (y ∷ ys) = (length x ≤ length y) × NoLonger xs ys

module _ {A : Type 0} where
  not_longer_same : (xs : List (List A)) → NoLonger xs xs
  not_longer_same [] = tt
  not_longer_same (x ∷ xs) = (omega arith, not_longer_same xs)

  not_longer_set : (xs ys : List (List A)) (i : ℕ) (x y : List A) → NoLonger xs ys → length x ≤ length y → NoLonger (set xs i x) (set ys i y)
  not_longer_set [] ys i x y h le = tt
  not_longer_set (z ∷ zs) [] i x y h le = absurd h
  not_longer_set (z ∷ zs) (w ∷ ws) zero x y h le = (le, h.1)
  not_longer_set (z ∷ zs) (w ∷ ws) (suc i) x y h le = (h.0, not_longer_set zs ws i x y h.1 le)

  no_more_entries : (xs ys : List (List A)) → NoLonger xs ys → length (all_entries xs) ≤ length (all_entries ys)
  no_more_entries [] ys h = omega arith
  no_more_entries (x ∷ xs) [] h = absurd h
  no_more_entries (x ∷ xs) (y ∷ ys) h = omega (arith, h.0, no_more_entries xs ys h.1, length-append x (all_entries xs), length-append y (all_entries ys))

module _ {K C O : Type 0} (was : O → List (List (K × C))) (becomes : O → List (K × C)) where
  in_nodes-filled : (taken : List (Taken O)) (nodes : List (List (List (K × C)))) → in_nodes (filled was taken nodes) ≡ filled (λ node. all_entries (was node)) taken (in_nodes nodes)
  in_nodes-filled [] nodes = refl
  in_nodes-filled (t ∷ ts) nodes = in_nodes-set (filled was ts nodes) t.index (was t.node) ∙ ap (λ ns. set ns t.index (all_entries (was t.node))) (in_nodes-filled ts nodes)

  not_longer_filled : (taken : List (Taken O)) (lists : List (List (K × C))) → NoneShrinks was becomes taken → NoLonger (filled (λ node. all_entries (was node)) taken lists) (filled becomes taken lists)
  not_longer_filled [] lists grow = not_longer_same lists
  not_longer_filled (t ∷ ts) lists grow = not_longer_set (filled (λ node. all_entries (was node)) ts lists) (filled becomes ts lists) t.index (all_entries (was t.node)) (becomes t.node) (not_longer_filled ts lists grow.1) grow.0

  -- the nodes put back so far, and those that are left
  pub record Finishing (total : List (K × C)) (taken : List (Taken O)) (now : List (List (List (K × C)))) (ends : List Sizes) : Type 0 where
    pub some : AllByRecursion (λ node. 0 < length node) (filled was taken now)
    pub sizes : AllByRecursion (λ leaf. IsLeaf leaf) (all_entries (filled was taken now))
    pub counts : AreCounts (filled was taken now) ends
    pub down : GoDown (length now) taken
    pub grow : NoneShrinks was becomes taken
    pub whole : all_entries (filled becomes taken (in_nodes now)) ≡ total

  -- where none is left, the row is whole
  pub all_finished : (cmp : K → K → Ordering) (valid : C → Type 0) (total : List (K × C)) (now : List (List (List (K × C)))) (ends : List Sizes) → Finishing total [] now ends → IsTable cmp valid total → AreNodes cmp valid now × (entries_in now ≡ total)
  all_finished cmp valid total now ends h table =
      let is : entries_in now ≡ total = sym (all_in_nodes now) ∙ h.whole in
      (record { some = h.some; leaf_list = record { sizes = h.sizes; table = rw is table } }, is)

  module _ (total : List (K × C)) (fits : length total < 2 ^ 64) (one : Taken O) (rest : List (Taken O)) (now : List (List (List (K × C)))) (ends : List Sizes) (h : Finishing total (one ∷ rest) now ends) where
    pub within : one.index < length now
    within = h.down.0

    among : one.index < length (filled was (one ∷ rest) now)
    among = omega (arith, within, length-filled was (one ∷ rest) now)

    -- the entries once this node is put back
    mixed : length (all_entries (set (in_nodes (filled was (one ∷ rest) now)) one.index (becomes one.node))) < 2 ^ 64
    mixed =
        let lists = filled (λ node. all_entries (was node)) rest (in_nodes now) in
        let here : set (in_nodes (filled was (one ∷ rest) now)) one.index (becomes one.node) ≡ set lists one.index (becomes one.node) =
        ap (λ ns. set ns one.index (becomes one.node)) (in_nodes-set (filled was rest now) one.index (was one.node))
        ∙ set_twice (in_nodes (filled was rest now)) one.index (all_entries (was one.node)) (becomes one.node)
        ∙ ap (λ ns. set ns one.index (becomes one.node)) (in_nodes-filled rest now) in
        let less = no_more_entries (set lists one.index (becomes one.node)) (filled becomes (one ∷ rest) (in_nodes now))
        (not_longer_set lists (filled becomes rest (in_nodes now)) one.index (becomes one.node) (becomes one.node) (not_longer_filled rest (in_nodes now) h.grow.1) (omega arith)) in
        omega (arith, less, fits, ap length h.whole, ap (λ ns. length (all_entries ns)) here)

    few : (new : List (List (K × C))) → all_entries new ≡ becomes one.node → AllByRecursion (λ leaf. IsLeaf leaf) new → length (all_entries (set (filled was (one ∷ rest) now) one.index new)) < 2 ^ 64
    few new is sizes =
        let nodes = filled was (one ∷ rest) now in
        let at_most = leaves_few (all_entries (set nodes one.index new)) (set_sizes nodes one.index new among h.sizes sizes) in
        let same : length (all_entries (all_entries (set nodes one.index new))) ≡ length (all_entries (set (in_nodes nodes) one.index (becomes one.node))) =
        ap length (sym (all_in_nodes (set nodes one.index new))) ∙ ap (λ ns. length (all_entries ns)) (in_nodes-set nodes one.index new) ∙ ap (λ es. length (all_entries (set (in_nodes nodes) one.index es))) is in
        omega (arith, at_most, same, mixed)

    -- the node may be put back
    pub may_finish : MayFinish one.index (becomes one.node) ends
    may_finish front back is parts =
        can_recount (filled was (one ∷ rest) now) ends h.counts one.index among front back
        (rw is mixed) (few (both front back) is parts.sizes)

    module _ (new : List (List (List (K × C)))) (new_ends : List Sizes) (done : IsFinished one.index (becomes one.node) now new ends new_ends) where
      next : one.index + 1 ≡ suc one.index
      next = omega arith

      now_filled : filled was rest new ≡ inserted_at (one.index + 1) (option_to_list done.back) (set (filled was (one ∷ rest) now) one.index done.front)
      now_filled =
          ap (filled was rest) done.inserted
          ∙ filled_inserted was rest one.index (one.index + 1) done.front (option_to_list done.back) now h.down.1 next within
          ∙ ap (inserted_at (one.index + 1) (option_to_list done.back)) (sym (set_twice (filled was rest now) one.index (was one.node) done.front))

      now_whole : all_entries (filled becomes rest (in_nodes new)) ≡ total
      now_whole =
          let lists = filled becomes rest (in_nodes now) in
          let long : one.index < length (in_nodes now) = omega (arith, within, length-in_nodes now) in
          let inside : one.index < length lists = omega (arith, long, length-filled becomes rest (in_nodes now)) in
          ap (λ ns. all_entries (filled becomes rest (in_nodes ns))) done.inserted
          ∙ ap (λ ns. all_entries (filled becomes rest ns)) (in_nodes-inserted now one.index done.front done.back)
          ∙ ap all_entries (filled_inserted becomes rest one.index (one.index + 1) (all_entries done.front) (option_to_list (option_map all_entries done.back)) (in_nodes now) h.down.1 next long)
          ∙ all_put_back lists one.index (all_entries done.front) (option_map all_entries done.back) inside
          ∙ ap (λ es. all_entries (take one.index lists) ++ (es ++ all_entries (drop (suc one.index) lists))) (whole_back done.front done.back ∙ done.put)
          ∙ sym (all_with lists one.index (becomes one.node) inside)
          ∙ h.whole

      fits_now : length (all_entries (in_nodes (inserted_at (one.index + 1) (option_to_list done.back) (set (filled was (one ∷ rest) now) one.index done.front)))) < 2 ^ 64
      fits_now =
          let nodes = filled was (one ∷ rest) now in
          let long : one.index < length (in_nodes nodes) = omega (arith, among, length-in_nodes nodes) in
          let same : all_entries (in_nodes (inserted_at (one.index + 1) (option_to_list done.back) (set nodes one.index done.front))) ≡ all_entries (set (in_nodes nodes) one.index (becomes one.node)) =
          ap all_entries (in_nodes-inserted nodes one.index done.front done.back)
          ∙ all_put_back (in_nodes nodes) one.index (all_entries done.front) (option_map all_entries done.back) long
          ∙ ap (λ es. all_entries (take one.index (in_nodes nodes)) ++ (es ++ all_entries (drop (suc one.index) (in_nodes nodes)))) (whole_back done.front done.back ∙ done.put)
          ∙ sym (all_with (in_nodes nodes) one.index (becomes one.node) long) in
          omega (arith, mixed, ap length same)

      few_now : length (all_entries (inserted_at (one.index + 1) (option_to_list done.back) (set (filled was (one ∷ rest) now) one.index done.front))) < 2 ^ 64
      few_now =
          let nodes = filled was (one ∷ rest) now in
          omega (arith, few (both done.front done.back) done.put done.parts.sizes, ap length (all_put_back nodes one.index done.front done.back among), ap length (all_with nodes one.index (both done.front done.back) among))

      pub one_finished : Finishing total rest new new_ends
      one_finished =
          let nodes = filled was (one ∷ rest) now in
          record {
            some = rw now_filled (put_back_some nodes one.index done.front done.back h.some done.parts);
            sizes = rw now_filled (put_back_sizes nodes one.index done.front done.back among h.sizes done.parts);
            counts = rw now_filled (now_counted nodes ends h.counts one.index among done.front done.back new_ends done.counts fits_now few_now);
            down = go_down_more rest one.index (length new) (omega (arith, ap length done.inserted, length-inserted (set now one.index done.front) (one.index + 1) (option_to_list done.back), length-set now one.index done.front, within)) h.down.1;
            grow = h.grow.1;
            whole = now_whole;
          }

    -- its entries are part of a table
    pub one_table : (cmp : K → K → Ordering) (valid : C → Type 0) → IsTable cmp valid total → IsTable cmp valid (becomes one.node)
    one_table cmp valid table =
        let lists = filled becomes rest (in_nodes now) in
        let inside : one.index < length lists = omega (arith, within, length-in_nodes now, length-filled becomes rest (in_nodes now)) in
        IsTable-inside cmp valid (all_entries (take one.index lists)) (becomes one.node) (all_entries (drop (suc one.index) lists))
        (rw (sym (all_with lists one.index (becomes one.node) inside) ∙ h.whole) table)

    pub one_fits : length (becomes one.node) < 2 ^ 64
    one_fits =
        let lists = filled becomes rest (in_nodes now) in
        let inside : one.index < length lists = omega (arith, within, length-in_nodes now, length-filled becomes rest (in_nodes now)) in
        let before = all_entries (take one.index lists) in
        let after = all_entries (drop (suc one.index) lists) in
        omega (arith, fits, ap length (sym (all_with lists one.index (becomes one.node) inside) ∙ h.whole), length-append before (becomes one.node ++ after), length-append (becomes one.node) after)

    pub node_and_end : (one.index < length now) × (one.index < length ends)
    node_and_end = (within, omega (arith, among, length-ends (filled was (one ∷ rest) now) ends h.counts))

-- the front of a node that is put back is the leaves of a table
module _ {K C : Type 0} (cmp : K → K → Ordering) (valid : C → Type 0) where
  front_there : {A : Type 0} (nodes : List (List (List A))) (i j : ℕ) (front : List (List A)) (more : List (List (List A))) → i < length nodes → j ≡ suc i → get_or (inserted_at j more (set nodes i front)) i [] ≡ front
  front_there [] i j front more lt at = absurd (omega (arith, lt))
  front_there (n ∷ ns) zero j front more lt at = ap (λ k. get_or (inserted_at k more (front ∷ ns)) 0 []) at
  front_there (n ∷ ns) (suc i) j front more lt at = ap (λ k. get_or (inserted_at k more (n ∷ set ns i front)) (suc i) []) at ∙ front_there ns i (suc i) front more (omega (arith, lt)) refl

  pub front_list : (i : ℕ) (entries : List (K × C)) (nodes new : List (List (List (K × C)))) (ends new_ends : List Sizes) → i < length nodes → IsTable cmp valid entries → IsFinished i entries nodes new ends new_ends → IsLeafList cmp valid (get_or new i [])
  front_list i entries nodes new ends new_ends lt table done =
      let next : i + 1 ≡ suc i = omega arith in
      let here : get_or new i [] ≡ done.front = ap (λ ns. get_or ns i []) done.inserted ∙ front_there nodes i (i + 1) done.front (option_to_list done.back) lt next in
      rw here (record {
        sizes = each_prefix (λ leaf. IsLeaf leaf) done.front (unwrap_or done.back []) done.parts.sizes;
        table = IsTable-prefix cmp valid (all_entries done.front) (all_entries (unwrap_or done.back [])) (rw (← all_append done.front (unwrap_or done.back []), done.put) table);
      })

module _ {O : Type 0} where
  each_below : (taken : List (Taken O)) (one : Taken O) (n : ℕ) → GoDown n (taken ++ one ∷ []) → one.index < n
  each_below [] one n down = down.0
  each_below (t ∷ ts) one n down = omega (arith, each_below ts one t.index down.1, down.0)

  first_down : (taken : List (Taken O)) (one : Taken O) (n : ℕ) → GoDown n (taken ++ one ∷ []) → GoDown n taken
  first_down [] one n down = tt
  first_down (t ∷ ts) one n down = (down.0, first_down ts one t.index down.1)

  pub last_below : (taken rest : List (Taken O)) (one : Taken O) (n : ℕ) → taken ≡ rest ++ one ∷ [] → GoDown n taken → one.index < n
  last_below taken rest one n is down = each_below rest one n (rw is at down)

  pub rest_down : (taken rest : List (Taken O)) (one : Taken O) (n : ℕ) → taken ≡ rest ++ one ∷ [] → GoDown n taken → GoDown n rest
  rest_down taken rest one n is down = first_down rest one n (rw is at down)

  pub put_back : {A : Type 0} (was : O → A) (taken rest : List (Taken O)) (one : Taken O) (nodes : List A) (node : A) → taken ≡ rest ++ one ∷ [] → node ≡ was one.node → filled was rest (set nodes one.index node) ≡ filled was taken nodes
  put_back was taken rest one nodes node is same =
      ap (λ x. filled was rest (set nodes one.index x)) same ∙ sym (filled_push was rest one nodes) ∙ ap (λ ts. filled was ts nodes) (sym is)
