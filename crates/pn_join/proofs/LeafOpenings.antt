-- Leaves that are opened for edits, and the edits put into them.
use Rattle.std.proofs.Common.{◌≡◌, ℕ, ◌+◌, ◌^◌, ◌<◌, ◌≤◌, List, [], ◌∷◌, ◌++◌, length, reverse, Option, Some, None, IfSome, Result, Ok, Err, refl, sym, ap, ◌∙◌, subst, arith, append-nil, append_assoc, zero, suc, map, get_or, set, take, IsTrue, Ordering}
use Rattle.std.specs.List.{AllByRecursion}
use Rattle.std.specs.Option.{option_to_list}
use Rattle.std.proofs.lemmas.List.{length-append, length-reverse, reverse-append, take_more}
use Rattle.pn_join.specs.Edits.{put_edit, put_in_turn, AreEditsWithin, AreFor, StopsBefore, changes_in, put_of, puts_in, AreIndexed, RiseByKey}
use Rattle.pn_join.specs.Leaves.{all_entries}
use Rattle.pn_join.specs.Nodes.{leaf_of}
use Rattle.pn_join.specs.Openings.{IsOpening, IsOpeningFor}
use Rattle.pn_join.specs.PutAt.{place, from_start, IsAmong}
use Rattle.pn_join.specs.declared.table.edit.Edit.{Edit}
use Rattle.pn_join.specs.declared.table.node.Opening.{Opening}
use Rattle.pn_join.specs.declared.table.node.Opening.TheVariants.{Open, Full, NoMemory}
use Rattle.pn_join.proofs.ListFacts.{each_append, each_weaker}
use Rattle.pn_join.proofs.LeafFacts.{all_leaf_of}
use Rattle.pn_join.proofs.Opened.{all_into}
use Rattle.pn_join.proofs.PutAtFacts.{ComeInto, among_more, put_in_turn-grows}
use Rattle.std.specs.FinMap.{put, is_sorted}
use Rattle.pn_join.specs.Indices.{index_of}
use Rattle.pn_join.specs.TableChanges.{AreValid, puts}
use Rattle.pn_join.specs.declared.table.change.TableChange.{TableChange}

module _ {K C : Type 0} where
  -- the edits taken off are for the leaf
  pub for_leaf : (start count : ℕ) (edits left mine : List (Edit K C)) → AreEditsWithin (start + count) edits → edits ≡ left ++ reverse mine → AllByRecursion (λ edit. start ≤ place edit.index) mine → AreFor start count mine
  for_leaf start count edits left mine are parted from =
      each_weaker (ComeInto start count) (λ (edit : Edit K C). IsAmong count (from_start start edit.index)) (λ edit come. come.1) mine (all_into start count edits left mine are parted from)

  -- they still are where the leaf grows
  pub for_more : (start n m : ℕ) (edits : List (Edit K C)) → n ≤ m → AreFor start n edits → AreFor start m edits
  for_more start n m edits le h =
      each_weaker (λ (edit : Edit K C). IsAmong n (from_start start edit.index)) (λ (edit : Edit K C). IsAmong m (from_start start edit.index)) (λ edit is. among_more n m (from_start start edit.index) le is) edits h

  -- the first edit is taken off, or none is there
  pub first_off : (edits left : List (Edit K C)) (first : Option (Edit K C)) → edits ≡ left ++ option_to_list first → edits ≡ left ++ reverse (option_to_list first ++ [])
  first_off edits left None is = is
  first_off edits left (Some edit) is = is

  -- one more edit is taken off
  pub next_off : (edits left rest mine : List (Edit K C)) (edit : Edit K C) → edits ≡ left ++ reverse mine → left ≡ rest ++ edit ∷ [] → edits ≡ rest ++ reverse (mine ++ edit ∷ [])
  next_off edits left rest mine edit parted is =
      parted ∙ ap (λ l. l ++ reverse mine) is ∙ append_assoc rest (edit ∷ []) (reverse mine) ∙ ap (λ r. rest ++ r) (sym (reverse-append mine (edit ∷ [])))

  -- all edits put fit
  pub turn_fits : (es : List (K × C)) (edits left mine : List (Edit K C)) → edits ≡ left ++ reverse mine → length es + length edits < 2 ^ 64 → length (put_in_turn 0 es mine) < 2 ^ 64
  turn_fits es edits left mine parted fits = omega (arith, fits, (put_in_turn-grows mine 0 es).1, ap length parted, length-append left (reverse mine), length-reverse mine)

  -- a node that is open for the edits that were taken off
  pub opening_of : {T O : Type 0} (leaves : T → List (List (K × C))) (was : O → List (List (K × C))) (becomes : O → List (K × C)) (start : ℕ) (node : List (List (K × C))) (edits left mine : List (Edit K C)) (result : Opening T O) → edits ≡ left ++ reverse mine → AllByRecursion (λ edit. start ≤ place edit.index) mine → StopsBefore start left → IsOpeningFor leaves was becomes start node mine result → IsOpening leaves was becomes start node edits left result
  opening_of leaves was becomes start node edits left mine (Open opened) parted from stops is = record { mine = mine; parted = parted; from = from; stops = stops; had = is.0; has = is.1 }
  opening_of leaves was becomes start node edits left mine (Full same) parted from stops is = is
  opening_of leaves was becomes start node edits left mine (NoMemory same) parted from stops is = is

  -- the entries of a leaf, with edits put
  pub turn_of_leaf : (start : ℕ) (es : List (K × C)) (mine : List (Edit K C)) → put_in_turn start es mine ≡ put_in_turn start (all_entries (leaf_of es)) mine
  turn_of_leaf start es mine = ap (λ xs. put_in_turn start xs mine) (sym (all_leaf_of es))

  -- the edits after the first
  pub for_back : (start n : ℕ) (first more : List (Edit K C)) → AreFor start n (first ++ more) → AreFor start n more
  for_back start n [] more h = h
  for_back start n (e ∷ first) more h = for_back start n first more h.1

  pub from_first : (start : ℕ) (first : Option (Edit K C)) → IfSome first (λ edit. start ≤ place edit.index) → AllByRecursion (λ (edit : Edit K C). start ≤ place edit.index) (option_to_list first ++ [])
  from_first start None h = tt
  from_first start (Some edit) h = (h, tt)

  -- one more edit is taken off after the first
  pub next_off_more : (edits left rest first more new : List (Edit K C)) (edit : Edit K C) → edits ≡ left ++ reverse (first ++ more) → left ≡ rest ++ edit ∷ [] → new ≡ more ++ edit ∷ [] → edits ≡ rest ++ reverse (first ++ new)
  next_off_more edits left rest first more new edit parted is added =
      next_off edits left rest (first ++ more) edit parted is
      ∙ ap (λ es. rest ++ reverse es) (append_assoc first more (edit ∷ []) ∙ ap (λ es. first ++ es) (sym added))

  pub from_more : (start : ℕ) (first more new : List (Edit K C)) (edit : Edit K C) → new ≡ more ++ edit ∷ [] → AllByRecursion (λ (e : Edit K C). start ≤ place e.index) (first ++ more) → start ≤ place edit.index → AllByRecursion (λ (e : Edit K C). start ≤ place e.index) (first ++ new)
  from_more start [] more new edit added h le = subst (AllByRecursion (λ (e : Edit K C). start ≤ place e.index)) (sym added) (each_append (λ (e : Edit K C). start ≤ place e.index) more (edit ∷ []) h (le, tt))
  from_more start (f ∷ first) more new edit added h le = (h.0, from_more start first more new edit added h.1 le)

  -- no more edits are taken off
  pub opening_off : {T O : Type 0} (leaves : T → List (List (K × C))) (was : O → List (List (K × C))) (becomes : O → List (K × C)) (start : ℕ) (node : List (List (K × C))) (edits left now mine : List (Edit K C)) (result : Opening T O) → edits ≡ left ++ reverse mine → AllByRecursion (λ (edit : Edit K C). start ≤ place edit.index) mine → left ≡ now ++ [] → StopsBefore start now → IsOpeningFor leaves was becomes start node mine result → IsOpening leaves was becomes start node edits now result
  opening_off leaves was becomes start node edits left now mine result parted from same stops is =
      opening_of leaves was becomes start node edits now mine result (parted ∙ ap (λ l. l ++ reverse mine) (same ∙ append-nil now)) from stops is

-- what an edit puts: an index, a key and a content
abbrev PutOf : Type 0 → Type 0 → Type 0
PutOf K C = Result ℕ ℕ × (K × C)

module _ {K C : Type 0} where
  abbrev all_put : (K → K → Ordering) → List (K × C) → List (PutOf K C) → List (K × C)
  all_put cmp es [] = es
  all_put cmp es (p ∷ ps) = put cmp p.1.0 p.1.1 (all_put cmp es ps)

  puts_by : (cmp : K → K → Ordering) (es : List (K × C)) (edits : List (Edit K C)) → puts cmp es (changes_in edits) ≡ all_put cmp es (puts_in edits)
  puts_by cmp es [] = refl
  puts_by cmp es (e ∷ edits) = ap (put cmp e.change.key e.change.after) (puts_by cmp es edits)

  pub same_puts : (cmp : K → K → Ordering) (es : List (K × C)) (new old : List (Edit K C)) → puts_in new ≡ puts_in old → puts cmp es (changes_in new) ≡ puts cmp es (changes_in old)
  same_puts cmp es new old same = puts_by cmp es new ∙ ap (all_put cmp es) same ∙ sym (puts_by cmp es old)

  module _ (P : PutOf K C → Type 0) where
    each_put : (edits : List (Edit K C)) → AllByRecursion (λ edit. P (put_of edit)) edits → AllByRecursion P (puts_in edits)
    each_put [] h = tt
    each_put (e ∷ edits) h = (h.0, each_put edits h.1)

    each_edit : (edits : List (Edit K C)) → AllByRecursion P (puts_in edits) → AllByRecursion (λ edit. P (put_of edit)) edits
    each_edit [] h = tt
    each_edit (e ∷ edits) h = (h.0, each_edit edits h.1)

  pub same_indexed : (cmp : K → K → Ordering) (es : List (K × C)) (new old : List (Edit K C)) → puts_in new ≡ puts_in old → AreIndexed cmp es old → AreIndexed cmp es new
  same_indexed cmp es new old same h = each_edit (λ p. p.0 ≡ index_of cmp p.1.0 es) new (subst (AllByRecursion (λ p. p.0 ≡ index_of cmp p.1.0 es)) (sym same) (each_put (λ p. p.0 ≡ index_of cmp p.1.0 es) old h))

  entries_by : (edits : List (Edit K C)) → map (λ edit. (edit.change.key, edit.change.after)) edits ≡ map (λ (p : PutOf K C). p.1) (puts_in edits)
  entries_by [] = refl
  entries_by (e ∷ edits) = ap (λ es. (e.change.key, e.change.after) ∷ es) (entries_by edits)

  pub same_rise : (cmp : K → K → Ordering) (new old : List (Edit K C)) → puts_in new ≡ puts_in old → RiseByKey cmp old → RiseByKey cmp new
  same_rise cmp new old same h = subst (λ es. IsTrue (is_sorted cmp es)) (sym (entries_by new ∙ ap (map (λ (p : PutOf K C). p.1)) same ∙ sym (entries_by old))) h

  valid_of : (valid : C → Type 0) (edits : List (Edit K C)) → AreValid valid (changes_in edits) → AllByRecursion (λ (edit : Edit K C). valid edit.change.after) edits
  valid_of valid [] h = tt
  valid_of valid (e ∷ edits) h = (h.0, valid_of valid edits h.1)

  of_valid : (valid : C → Type 0) (edits : List (Edit K C)) → AllByRecursion (λ (edit : Edit K C). valid edit.change.after) edits → AreValid valid (changes_in edits)
  of_valid valid [] h = tt
  of_valid valid (e ∷ edits) h = (h.0, of_valid valid edits h.1)

  pub same_valid : (valid : C → Type 0) (new old : List (Edit K C)) → puts_in new ≡ puts_in old → AreValid valid (changes_in old) → AreValid valid (changes_in new)
  same_valid valid new old same h = of_valid valid new (each_edit (λ p. valid p.1.1) new (subst (AllByRecursion (λ p. valid p.1.1)) (sym same) (each_put (λ p. valid p.1.1) old (valid_of valid old h))))

  -- one more edit whose change is taken
  pub one_taken : (edits : List (Edit K C)) (k : ℕ) (edit : Edit K C) → k < length edits → changes_in (take (k + 1) edits) ≡ changes_in (take k edits) ++ (get_or edits k edit).change ∷ []
  one_taken [] k edit lt = absurd (omega (arith, lt))
  one_taken (e ∷ edits) zero edit lt = refl
  one_taken (e ∷ edits) (suc k) edit lt =
      let next : suc k + 1 ≡ suc (k + 1) = omega arith in
      ap (λ n. changes_in (take n (e ∷ edits))) next ∙ ap (λ cs. e.change ∷ cs) (one_taken edits k edit (omega (arith, lt)))

  pub puts_set : (edits : List (Edit K C)) (i : ℕ) (new was : Edit K C) → put_of new ≡ put_of (get_or edits i was) → puts_in (set edits i new) ≡ puts_in edits
  puts_set [] i new was is = refl
  puts_set (e ∷ edits) zero new was is = ap (λ p. p ∷ puts_in edits) is
  puts_set (e ∷ edits) (suc i) new was is = ap (λ ps. put_of e ∷ ps) (puts_set edits i new was is)

pub above_set : {A : Type 0} (xs : List A) (i j : ℕ) (x d : A) → i < j → get_or (set xs i x) j d ≡ get_or xs j d
above_set [] i j x d lt = refl
above_set (y ∷ ys) zero zero x d lt = absurd (omega (arith, lt))
above_set (y ∷ ys) zero (suc j) x d lt = refl
above_set (y ∷ ys) (suc i) zero x d lt = absurd (omega (arith, lt))
above_set (y ∷ ys) (suc i) (suc j) x d lt = above_set ys i j x d (omega (arith, lt))
