-- Entries that become leaves one after another, where those that are left stand last first.
use Rattle.std.proofs.Common.{◌≡◌, ℕ, ◌<◌, List, [], ◌∷◌, ◌++◌, length, reverse, take, drop, Ordering, sym, ap, ◌∙◌, arith, append-nil, append_assoc, take-append-drop}
use Rattle.std.specs.List.{AllByRecursion}
use Rattle.std.proofs.lemmas.List.{length-append, length-reverse, reverse-append}
use Rattle.pn_join.specs.NodeLeaves.{entries_in}
use Rattle.pn_join.specs.Leaves.{all_entries, IsLeaf, IsLeafList}
use Rattle.pn_join.specs.Tables.{IsTable}
use Rattle.pn_join.proofs.NodeFacts.{some_entries, some_leaves}
use Rattle.pn_join.proofs.NodeGrowth.{entries_push}
use Rattle.pn_join.proofs.SliceFacts.{IsTable-prefix}

module _ {A : Type 0} where
  -- those that go, and those that stay
  pub reversed_parts : (left : List A) (n : ℕ) → reverse (drop n left) ++ reverse (take n left) ≡ reverse left
  reversed_parts left n = sym (reverse-append (take n left) (drop n left)) ∙ ap reverse (take-append-drop n left)

  -- the entries so far and those that are left, where the next become a leaf or a node
  pub still_parted : (now part rest left whole : List A) → part ++ rest ≡ left → now ++ left ≡ whole → (now ++ part) ++ rest ≡ whole
  still_parted now part rest left whole next parted = append_assoc now part rest ∙ ap (λ es. now ++ es) next ∙ parted

  -- the same, where the next become a node after all others
  pub next_node : (list new : List (List (List A))) (node made : List (List A)) (rest left whole : List A) → new ≡ list ++ node ∷ [] → node ≡ made → all_entries made ++ rest ≡ left → entries_in list ++ left ≡ whole → entries_in new ++ rest ≡ whole
  next_node list new node made rest left whole pushed is next parted =
      let all : entries_in new ≡ entries_in list ++ all_entries node = ap entries_in pushed ∙ entries_push list node in
      ap (λ es. es ++ rest) all ∙ still_parted (entries_in list) (all_entries node) rest left whole (ap (λ es. es ++ rest) (ap all_entries is) ∙ next) parted

  -- what is taken off is no longer left
  pub fewer_left : (part rest left : List A) → part ++ reverse rest ≡ reverse left → 0 < length part → length rest < length left
  fewer_left part rest left is some = omega (arith, some, ap length is, length-append part (reverse rest), length-reverse rest, length-reverse left)

  -- leaves have entries
  pub made_has : (leaves : List (List A)) → AllByRecursion (λ leaf. IsLeaf leaf) leaves → 0 < length leaves → 0 < length (all_entries leaves)
  made_has [] sizes some = absurd (omega (arith, some))
  made_has (l ∷ ls) sizes some = omega (arith, sizes.0.0, length-append l (all_entries ls))

  -- where none is left, the entries so far are all
  pub all_are : (now rest whole : List A) → now ++ reverse rest ≡ whole → length rest ≡ 0 → now ≡ whole
  all_are now [] whole parted none = sym (append-nil now) ∙ parted
  all_are now (e ∷ rest) whole parted none = absurd (omega (arith, none))

module _ {K X : Type 0} (cmp : K → K → Ordering) (valid : X → Type 0) where
  -- the entries so far and the next part are a table
  pub part_table : (now part made rest left whole : List (K × X)) → part ≡ made → made ++ rest ≡ left → now ++ left ≡ whole → IsTable cmp valid whole → IsTable cmp valid (now ++ part)
  part_table now part made rest left whole is next parted table =
      IsTable-prefix cmp valid (now ++ part) rest (rw (still_parted now part rest left whole (ap (λ es. es ++ rest) is ∙ next) parted) table)

  -- leaves of a table have entries
  pub have_entries : (leaves : List (List (K × X))) → IsLeafList cmp valid leaves → 0 < length leaves → 0 < length (all_entries leaves)
  have_entries leaves leaf_list some = some_entries leaves some (some_leaves cmp valid leaves leaf_list)
