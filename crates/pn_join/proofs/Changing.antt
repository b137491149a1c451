-- Putting the changed contents, one after another, is joining with the other table.
use Rattle.std.proofs.Common.{◌≡◌, true, false, cond, List, [], ◌∷◌, ◌++◌, length, Option, Some, None, option_map, Ordering, is_eq, refl, sym, ap, ◌∙◌, arith, map, IfSome, append-nil, append_assoc}
use Rattle.std.specs.List.{AllByRecursion, AllZip}
use Rattle.std.specs.Option.{option_to_list}
use Rattle.std.specs.Cmp.{IsTotalOrder}
use Rattle.std.proofs.lemmas.Cmp.{tied_itself}
use Rattle.std.specs.FinMap.{find, put}
use Rattle.std.specs.FinMap.Entries.{find-put}
use Rattle.pn_join.specs.TableChanges.{Changes, AreChanges, AreValid, those_there, puts}
use Rattle.pn_join.specs.Tables.{IsTable, contents_at, optional_joined, key_by_key}
use Rattle.pn_join.specs.declared.table.change.TableChange.{TableChange}
use Rattle.pn_join.proofs.Rising.{not_found_below, Below, Rising, Below-tied, Rising-from_sorted, flipped, sorted_from_Rising}
use Rattle.pn_join.proofs.Puts.{contents_at-put, contents_at-same, tie, IsTable-put}
use Rattle.pn_join.specs.NodeLeaves.{entries_in}
use Rattle.pn_join.specs.Edits.{changes_in, AreIndexed, RiseByKey}
use Rattle.pn_join.specs.Indices.{index_of}
use Rattle.pn_join.specs.declared.table.edit.Edit.{Edit}
use Rattle.pn_join.proofs.ListFacts.{each_back, each_append}

-- a list that has no length has no items
pub none_left : {A : Type 0} (xs : List A) → length xs ≡ 0 → xs ≡ []
none_left [] is = refl
none_left (x ∷ xs) is = absurd (omega (arith, is))

pub those_push : {A : Type 0} (xs : List (Option A)) (x : Option A) → those_there (xs ++ x ∷ []) ≡ those_there xs ++ option_to_list x
those_push [] None = refl
those_push [] (Some a) = refl
those_push (None ∷ xs) x = those_push xs x
those_push (Some a ∷ xs) x = ap (λ ys. a ∷ ys) (those_push xs x)

pub zip_push : {A B : Type 0} (R : A → B → Type 0) (xs : List A) (ys : List B) (x : A) (y : B) → AllZip R xs ys → R x y → AllZip R (xs ++ x ∷ []) (ys ++ y ∷ [])
zip_push R [] [] x y all is = (is, tt)
zip_push R [] (b ∷ bs) x y all is = absurd all
zip_push R (a ∷ rest) [] x y all is = absurd all
zip_push R (a ∷ rest) (b ∷ bs) x y all is = (all.0, zip_push R rest bs x y all.1 is)

pub valid_changes : {K C M : Type 0} (cmp : K → K → Ordering) (meaning : C → M) (joined : M → M → M) (valid : C → Type 0) (now entries : List (K × C)) (made : List (Option (TableChange K C))) → AllZip (Changes cmp meaning joined valid now) entries made → AreValid valid (those_there made)
valid_changes cmp meaning joined valid now [] [] all = tt
valid_changes cmp meaning joined valid now [] (m ∷ ms) all = absurd all
valid_changes cmp meaning joined valid now (e ∷ es) [] all = absurd all
valid_changes cmp meaning joined valid now (e ∷ es) (None ∷ ms) all = valid_changes cmp meaning joined valid now es ms all.1
valid_changes cmp meaning joined valid now (e ∷ es) (Some change ∷ ms) all = (all.0.is_valid, valid_changes cmp meaning joined valid now es ms all.1)

module _ {K C M : Type 0} (cmp : K → K → Ordering) (o : IsTotalOrder cmp) (meaning : C → M) (joined : M → M → M) (valid : C → Type 0) where
  abbrev Each : List (K × C) → List (K × C) → List (Option (TableChange K C)) → Type 0
  Each now entries made = AllZip (Changes cmp meaning joined valid now) entries made

  alone : (a : Option M) → optional_joined joined a None ≡ a
  alone None = refl
  alone (Some a) = refl

  -- what the content at a key means
  abbrev at : K → List (K × C) → Option M
  at q entries = option_map meaning (find cmp q entries)

  -- an entry that comes first, at another key or at this one
  first_apart : (q : K) (e : K × C) (es : List (K × C)) → is_eq (cmp q e.0) ≡ false → find cmp q (e ∷ es) ≡ find cmp q es
  first_apart q e es p = ap (λ b. cond b (Some e.1) (find cmp q es)) p

  first_tied : (q : K) (e : K × C) (es : List (K × C)) → is_eq (cmp q e.0) ≡ true → find cmp q (e ∷ es) ≡ Some e.1
  first_tied q e es p = ap (λ b. cond b (Some e.1) (find cmp q es)) p

  none_later : (q : K) (e : K × C) (es : List (K × C)) → is_eq (cmp q e.0) ≡ true → Below cmp e.0 es → find cmp q es ≡ None
  none_later q e es p below = not_found_below cmp q es (Below-tied cmp o q e.0 es (tie (cmp q e.0) p) below)

  one_at : (q : K) (e : K × C) → is_eq (cmp q e.0) ≡ true → at q (e ∷ []) ≡ Some (meaning e.1)
  one_at q e p = ap (option_map meaning) (first_tied q e [] p)

  -- what is at a key after all changes
  after_all : (own entries : List (K × C)) (made : List (Option (TableChange K C))) → Rising cmp entries → Each own entries made → (q : K) → at q (puts cmp own (those_there made)) ≡ optional_joined joined (at q own) (at q entries)
  after_all own [] [] rising all q = sym (alone (at q own))
  after_all own [] (m ∷ ms) rising all q = absurd all
  after_all own (e ∷ es) [] rising all q = absurd all
  after_all own (e ∷ es) (None ∷ ms) rising all q =
      elim (is_eq (cmp q e.0)) as (λ b. is_eq (cmp q e.0) ≡ b → at q (puts cmp own (those_there ms)) ≡ optional_joined joined (at q own) (at q (e ∷ es))) [
        | true ↦ λ p.
            let same = contents_at-same cmp o meaning joined e.0 e.1 own all.0 in
            after_all own es ms rising.1 all.1 q
            ∙ ap (λ x. optional_joined joined (at q own) (option_map meaning x)) (none_later q e es p rising.0) ∙ alone (at q own)
            ∙ ap (λ contents. contents q) same
            ∙ ap (optional_joined joined (at q own)) (one_at q e p ∙ sym (ap (option_map meaning) (first_tied q e es p)))
        | false ↦ λ p. after_all own es ms rising.1 all.1 q ∙ ap (λ x. optional_joined joined (at q own) (option_map meaning x)) (sym (first_apart q e es p))
      ] refl
  after_all own (e ∷ es) (Some change ∷ ms) rising all q =
      let now = puts cmp own (those_there ms) in
      let put_now : at q (put cmp change.key change.after now) ≡ option_map meaning (cond (is_eq (cmp q e.0)) (Some change.after) (find cmp q now)) =
      ap (λ k. at q (put cmp k change.after now)) all.0.key ∙ ap (option_map meaning) (find-put cmp o q e.0 change.after now) in
      put_now ∙ elim (is_eq (cmp q e.0)) as (λ b. is_eq (cmp q e.0) ≡ b → option_map meaning (cond b (Some change.after) (find cmp q now)) ≡ optional_joined joined (at q own) (at q (e ∷ es))) [
        | true ↦ λ p.
            let put_own : at q (put cmp e.0 change.after own) ≡ Some (meaning change.after) =
            ap (option_map meaning) (find-put cmp o q e.0 change.after own ∙ ap (λ b. cond b (Some change.after) (find cmp q own)) p) in
            let means = contents_at-put cmp o meaning joined e.0 change.after e.1 own all.0.after in
            sym put_own ∙ ap (λ contents. contents q) means
            ∙ ap (optional_joined joined (at q own)) (one_at q e p ∙ sym (ap (option_map meaning) (first_tied q e es p)))
        | false ↦ λ p. after_all own es ms rising.1 all.1 q ∙ ap (λ x. optional_joined joined (at q own) (option_map meaning x)) (sym (first_apart q e es p))
      ] refl

  -- putting the changes of another table's entries is joining with it
  pub puts_joined : (own other : List (K × C)) (changes : List (TableChange K C)) → IsTable cmp valid other → AreChanges cmp meaning joined valid own other changes → contents_at cmp meaning (puts cmp own changes) ≡ key_by_key joined (contents_at cmp meaning own) (contents_at cmp meaning other)
  puts_joined own other changes others are =
      ap (λ cs. contents_at cmp meaning (puts cmp own cs)) are.are
      ∙ (λ i q. after_all own other are.made (Rising-from_sorted cmp other others.rising) are.each q i)

  -- a table stays one
  pub puts_table : (own : List (K × C)) (changes : List (TableChange K C)) → IsTable cmp valid own → AreValid valid changes → IsTable cmp valid (puts cmp own changes)
  puts_table own [] table are = table
  puts_table own (change ∷ changes) table are = IsTable-put cmp o valid change.key change.after (puts cmp own changes) are.0 (puts_table own changes table are.1)

-- a reported change differs from what was there
module _ {K C M : Type 0} (cmp : K → K → Ordering) (o : IsTotalOrder cmp) (meaning : C → M) (joined : M → M → M) (valid : C → Type 0) where
  abbrev IsAt : List (K × C) → K × C → Type 0
  IsAt entries e = find cmp e.0 entries ≡ Some e.1

  found_after : (e : K × C) (entries es : List (K × C)) → Below cmp e.0 es → AllByRecursion (IsAt entries) es → AllByRecursion (IsAt (e ∷ entries)) es
  found_after e entries [] below at = tt
  found_after e entries (f ∷ es) below at = (
    ap (λ r. cond (is_eq r) (Some e.1) (find cmp f.0 entries)) (flipped o e.0 f.0 below.0) ∙ at.0,
    found_after e entries es below.1 at.1,
  )

  each_found : (es : List (K × C)) → Rising cmp es → AllByRecursion (IsAt es) es
  each_found [] rising = tt
  each_found (e ∷ es) rising = (
    ap (λ r. cond (is_eq r) (Some e.1) (find cmp e.0 es)) (tied_itself o e.0),
    found_after e es es rising.0 (each_found es rising.1),
  )

  module _ (own other : List (K × C)) (same : contents_at cmp meaning own ≡ key_by_key joined (contents_at cmp meaning own) (contents_at cmp meaning other)) where
    none_made : (es : List (K × C)) (made : List (Option (TableChange K C))) → AllByRecursion (IsAt other) es → AllZip (Changes cmp meaning joined valid own) es made → those_there made ≡ []
    none_made [] [] at all = refl
    none_made [] (m ∷ ms) at all = absurd all
    none_made (e ∷ es) [] at all = absurd all
    none_made (e ∷ es) (None ∷ ms) at all = none_made es ms at.1 all.1
    none_made (e ∷ es) (Some change ∷ ms) at all = absurd (all.0.differs
        (all.0.after
        ∙ ap (λ c. optional_joined joined (option_map meaning (find cmp e.0 own)) (option_map meaning c)) (sym at.0)
        ∙ sym (ap (λ contents. contents e.0) same)
        ∙ ap (option_map meaning) (sym all.0.before)))

  -- a join that changes no content tells of none
  pub nothing_told : (own other : List (K × C)) (changes : List (TableChange K C)) → IsTable cmp valid other → AreChanges cmp meaning joined valid own other changes → contents_at cmp meaning own ≡ key_by_key joined (contents_at cmp meaning own) (contents_at cmp meaning other) → changes ≡ []
  nothing_told own other changes others are same =
      are.are ∙ none_made own other same other are.made (each_found other (Rising-from_sorted cmp other others.rising)) are.each

in_push : {K C : Type 0} (edits : List (Edit K C)) (made : Option (Edit K C)) → changes_in (edits ++ option_to_list made) ≡ changes_in edits ++ option_to_list (option_map (λ e. e.change) made)
in_push [] None = refl
in_push [] (Some d) = refl
in_push (e ∷ es) made = ap (λ cs. e.change ∷ cs) (in_push es made)

module _ {K C M : Type 0} (cmp : K → K → Ordering) (meaning : C → M) (joined : M → M → M) (valid : C → Type 0) (root : List (List (List (K × C)))) (other : List (K × C)) where
  -- the edits so far, and the other's remaining entries
  pub record EditsSoFar (left : List (K × C)) (edits : List (Edit K C)) : Type 0 where
    pub done : List (K × C)
    pub parted : other ≡ done ++ left
    pub changes : AreChanges cmp meaning joined valid (entries_in root) done (changes_in edits)
    pub indexed : AreIndexed cmp (entries_in root) edits

  pub no_edits : EditsSoFar other []
  no_edits = record { done = []; parted = refl; changes = record { made = []; each = tt; are = refl }; indexed = tt }

  -- the edit is that of its key
  abbrev IsIndexed : Edit K C → Type 0
  IsIndexed edit = edit.index ≡ index_of cmp edit.change.key (entries_in root)

  indexed_if : (made : Option (Edit K C)) → IfSome made IsIndexed → AllByRecursion IsIndexed (option_to_list made)
  indexed_if None is = tt
  indexed_if (Some edit) is = (is, tt)

  pub one_more : (e : K × C) (left : List (K × C)) (edits : List (Edit K C)) (made : Option (Edit K C)) → EditsSoFar (e ∷ left) edits → Changes cmp meaning joined valid (entries_in root) e (option_map (λ d. d.change) made) → IfSome made IsIndexed → EditsSoFar left (edits ++ option_to_list made)
  one_more e left edits made h changes indexed = record {
    done = h.done ++ e ∷ [];
    parted = h.parted ∙ sym (append_assoc h.done (e ∷ []) left);
    changes = record {
      made = h.changes.made ++ option_map (λ d. d.change) made ∷ [];
      each = zip_push (Changes cmp meaning joined valid (entries_in root)) h.done h.changes.made e (option_map (λ d. d.change) made) h.changes.each changes;
      are = in_push edits made ∙ ap (λ cs. cs ++ option_to_list (option_map (λ d. d.change) made)) h.changes.are ∙ sym (those_push h.changes.made (option_map (λ d. d.change) made));
    };
    indexed = each_append IsIndexed edits (option_to_list made) h.indexed (indexed_if made indexed);
  }

  pub left_valid : (e : K × C) (left : List (K × C)) (edits : List (Edit K C)) → IsTable cmp valid other → EditsSoFar (e ∷ left) edits → valid e.1
  left_valid e left edits table h = (each_back (λ x. valid x.1) h.done (e ∷ left) (rw h.parted at table.contents)).0

  pub all_edits : (edits : List (Edit K C)) → EditsSoFar [] edits → AreChanges cmp meaning joined valid (entries_in root) other (changes_in edits) × AreIndexed cmp (entries_in root) edits
  all_edits edits h = (rw (h.parted ∙ append-nil h.done) h.changes, h.indexed)

-- changes rise by their keys, as the entries do
module _ {K C M : Type 0} (cmp : K → K → Ordering) (meaning : C → M) (joined : M → M → M) (valid : C → Type 0) (old : List (K × C)) where
  abbrev changed : List (TableChange K C) → List (K × C)
  changed changes = map (λ change. (change.key, change.after)) changes

  below_made : (k : K) (es : List (K × C)) (made : List (Option (TableChange K C))) → Below cmp k es → AllZip (Changes cmp meaning joined valid old) es made → Below cmp k (changed (those_there made))
  below_made k [] [] below all = tt
  below_made k [] (m ∷ ms) below all = absurd all
  below_made k (e ∷ es) [] below all = absurd all
  below_made k (e ∷ es) (None ∷ ms) below all = below_made k es ms below.1 all.1
  below_made k (e ∷ es) (Some change ∷ ms) below all = (ap (cmp k) all.0.key ∙ below.0, below_made k es ms below.1 all.1)

  made_rise : (es : List (K × C)) (made : List (Option (TableChange K C))) → Rising cmp es → AllZip (Changes cmp meaning joined valid old) es made → Rising cmp (changed (those_there made))
  made_rise [] [] rising all = tt
  made_rise [] (m ∷ ms) rising all = absurd all
  made_rise (e ∷ es) [] rising all = absurd all
  made_rise (e ∷ es) (None ∷ ms) rising all = made_rise es ms rising.1 all.1
  made_rise (e ∷ es) (Some change ∷ ms) rising all = (rw all.0.key (below_made e.0 es ms rising.0 all.1), made_rise es ms rising.1 all.1)

  of_edits : (edits : List (Edit K C)) → changed (changes_in edits) ≡ map (λ edit. (edit.change.key, edit.change.after)) edits
  of_edits [] = refl
  of_edits (e ∷ es) = ap (λ cs. (e.change.key, e.change.after) ∷ cs) (of_edits es)

  pub edits_rise : (other : List (K × C)) (edits : List (Edit K C)) → IsTable cmp valid other → AreChanges cmp meaning joined valid old other (changes_in edits) → RiseByKey cmp edits
  edits_rise other edits table are =
      sorted_from_Rising cmp _ (rw (sym (of_edits edits) ∙ ap changed are.are) (made_rise other are.made (Rising-from_sorted cmp other table.rising) are.each))
