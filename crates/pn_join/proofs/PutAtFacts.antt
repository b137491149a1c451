-- Contents put at an index among the entries of a part of a list.
use Rattle.std.proofs.Common.{◌≡◌, ℕ, zero, suc, ◌+◌, ◌-◌, ◌<◌, ◌≤◌, List, [], ◌∷◌, ◌++◌, length, get_or, slice_get, set, insert, option_map, Option, Some, Result, Ok, Err, Ordering, refl, sym, ap, ◌∙◌, subst, arith}
use Rattle.std.specs.List.{AllByRecursion}
use Rattle.pn_join.specs.Edits.{put_edit, put_in_turn}
use Rattle.pn_join.specs.PutAt.{place, from_start, put_at, content_at, IsAmong, MayPutAt, IsJoinedAt}
use Rattle.pn_join.specs.Tables.{IsTable, optional_joined}
use Rattle.pn_join.specs.declared.table.edit.Edit.{Edit}
use Rattle.pn_join.proofs.NodeGrowth.{IsTable-back}
use Rattle.pn_join.proofs.SliceFacts.{IsTable-prefix}

module _ {A : Type 0} where
  pub set_after : (before es : List A) (i : ℕ) (x : A) → length before ≤ i → set (before ++ es) i x ≡ before ++ set es (i - length before) x
  set_after [] es i x le = let same : i ≡ i - 0 = omega arith in ap (λ n. set es n x) same
  set_after (b ∷ bs) es zero x le = absurd (omega (arith, le))
  set_after (b ∷ bs) es (suc i) x le =
      let same : i - length bs ≡ suc i - length (b ∷ bs) = omega arith in
      ap (λ ys. b ∷ ys) (set_after bs es i x (omega (arith, le)) ∙ ap (λ n. bs ++ set es n x) same)

  pub set_before : (es after : List A) (i : ℕ) (x : A) → i < length es → set (es ++ after) i x ≡ set es i x ++ after
  set_before [] after i x lt = absurd (omega (arith, lt))
  set_before (e ∷ es) after zero x lt = refl
  set_before (e ∷ es) after (suc i) x lt = ap (λ ys. e ∷ ys) (set_before es after i x (omega (arith, lt)))

  pub get_after : (before es : List A) (i : ℕ) (d : A) → length before ≤ i → get_or (before ++ es) i d ≡ get_or es (i - length before) d
  get_after [] es i d le = let same : i ≡ i - 0 = omega arith in ap (λ n. get_or es n d) same
  get_after (b ∷ bs) es zero d le = absurd (omega (arith, le))
  get_after (b ∷ bs) es (suc i) d le =
      let same : i - length bs ≡ suc i - length (b ∷ bs) = omega arith in
      get_after bs es i d (omega (arith, le)) ∙ ap (λ n. get_or es n d) same

  pub get_before : (es after : List A) (i : ℕ) (d : A) → i < length es → get_or (es ++ after) i d ≡ get_or es i d
  get_before [] after i d lt = absurd (omega (arith, lt))
  get_before (e ∷ es) after zero d lt = refl
  get_before (e ∷ es) after (suc i) d lt = get_before es after i d (omega (arith, lt))

  pub slice_after : (before es : List A) (i : ℕ) → length before ≤ i → slice_get (before ++ es) i ≡ slice_get es (i - length before)
  slice_after [] es i le = let same : i ≡ i - 0 = omega arith in ap (λ n. slice_get es n) same
  slice_after (b ∷ bs) es zero le = absurd (omega (arith, le))
  slice_after (b ∷ bs) es (suc i) le =
      let same : i - length bs ≡ suc i - length (b ∷ bs) = omega arith in
      slice_after bs es i (omega (arith, le)) ∙ ap (λ n. slice_get es n) same

  pub slice_before : (es after : List A) (i : ℕ) → i < length es → slice_get (es ++ after) i ≡ slice_get es i
  slice_before [] after i lt = absurd (omega (arith, lt))
  slice_before (e ∷ es) after zero lt = refl
  slice_before (e ∷ es) after (suc i) lt = slice_before es after i (omega (arith, lt))

  insert_first : (es : List A) (x : A) → insert es 0 x ≡ x ∷ es
  insert_first [] x = refl
  insert_first (e ∷ es) x = refl

  pub insert_after : (before es : List A) (i : ℕ) (x : A) → length before ≤ i → insert (before ++ es) i x ≡ before ++ insert es (i - length before) x
  insert_after [] es i x le = let same : i ≡ i - 0 = omega arith in ap (λ n. insert es n x) same
  insert_after (b ∷ bs) es zero x le = absurd (omega (arith, le))
  insert_after (b ∷ bs) es (suc i) x le =
      let same : i - length bs ≡ suc i - length (b ∷ bs) = omega arith in
      ap (λ ys. b ∷ ys) (insert_after bs es i x (omega (arith, le)) ∙ ap (λ n. bs ++ insert es n x) same)

  pub insert_before : (es after : List A) (i : ℕ) (x : A) → i ≤ length es → insert (es ++ after) i x ≡ insert es i x ++ after
  insert_before [] after zero x le = insert_first after x
  insert_before [] after (suc i) x le = absurd (omega (arith, le))
  insert_before (e ∷ es) after zero x le = refl
  insert_before (e ∷ es) after (suc i) x le = ap (λ ys. e ∷ ys) (insert_before es after i x (omega (arith, le)))

  pub length_set : (xs : List A) (i : ℕ) (x : A) → length (set xs i x) ≡ length xs
  length_set [] i x = refl
  length_set (y ∷ ys) zero x = refl
  length_set (y ∷ ys) (suc i) x = ap suc (length_set ys i x)

  pub length_insert : (xs : List A) (i : ℕ) (x : A) → length (insert xs i x) ≡ suc (length xs)
  length_insert [] zero x = refl
  length_insert [] (suc i) x = refl
  length_insert (y ∷ ys) zero x = refl
  length_insert (y ∷ ys) (suc i) x = ap suc (length_insert ys i x)

pub among_more : (n m : ℕ) (index : Result ℕ ℕ) → n ≤ m → IsAmong n index → IsAmong m index
among_more n m (Ok i) le h = omega (arith, le, h)
among_more n m (Err i) le h = omega (arith, le, h)

-- an index counted from one start and then from another
pub from_both : (start n : ℕ) (index : Result ℕ ℕ) → from_start n (from_start start index) ≡ from_start (start + n) index
from_both start n (Ok i) = let same : (i - start) - n ≡ i - (start + n) = omega arith in ap Ok same
from_both start n (Err i) = let same : (i - start) - n ≡ i - (start + n) = omega arith in ap Err same

module _ {K C : Type 0} where
  pub put_at-inside : (before es after : List (K × C)) (index : Result ℕ ℕ) (key : K) (content : C) → length before ≤ place index → IsAmong (length es) (from_start (length before) index) → put_at index key content (before ++ (es ++ after)) ≡ before ++ (put_at (from_start (length before) index) key content es ++ after)
  put_at-inside before es after (Ok i) key content le lt =
      let n = i - length before in
      let same : get_or (before ++ (es ++ after)) i (key, content) ≡ get_or es n (key, content) = get_after before (es ++ after) i (key, content) le ∙ get_before es after n (key, content) lt in
      ap (λ (e : K × C). set (before ++ (es ++ after)) i (e.0, content)) same
      ∙ set_after before (es ++ after) i ((get_or es n (key, content)).0, content) le
      ∙ ap (λ ys. before ++ ys) (set_before es after n ((get_or es n (key, content)).0, content) lt)
  put_at-inside before es after (Err i) key content le lt =
      insert_after before (es ++ after) i (key, content) le
      ∙ ap (λ ys. before ++ ys) (insert_before es after (i - length before) (key, content) lt)

  pub put_at-grows : (index : Result ℕ ℕ) (key : K) (content : C) (es : List (K × C)) → (length es ≤ length (put_at index key content es)) × (length (put_at index key content es) ≤ length es + 1)
  put_at-grows (Ok i) key content es = let same = length_set es i ((get_or es i (key, content)).0, content) in (omega (arith, same), omega (arith, same))
  put_at-grows (Err i) key content es = let same = length_insert es i (key, content) in (omega (arith, same), omega (arith, same))

  pub content_at-inside : (before es after : List (K × C)) (index : Result ℕ ℕ) → length before ≤ place index → IsAmong (length es) (from_start (length before) index) → content_at index (before ++ (es ++ after)) ≡ content_at (from_start (length before) index) es
  content_at-inside before es after (Ok i) le lt =
      ap (option_map (λ (e : K × C). e.1)) (slice_after before (es ++ after) i le ∙ slice_before es after (i - length before) lt)
  content_at-inside before es after (Err i) le lt = refl

  -- edits of a part of the entries
  abbrev pub ComeInto : ℕ → ℕ → Edit K C → Type 0
  ComeInto start count edit = (start ≤ place edit.index) × IsAmong count (from_start start edit.index)

  put_edit-inside : (start : ℕ) (before es after : List (K × C)) (edit : Edit K C) → ComeInto (start + length before) (length es) edit → put_edit start (before ++ (es ++ after)) edit ≡ before ++ (put_edit (start + length before) es edit ++ after)
  put_edit-inside start before es after edit into =
      let same = from_both start (length before) edit.index in
      put_at-inside before es after (from_start start edit.index) edit.change.key edit.change.after (later edit.index into.0) (rw same into.1)
      ∙ ap (λ index. before ++ (put_at index edit.change.key edit.change.after es ++ after)) same where
        later : (index : Result ℕ ℕ) → start + length before ≤ place index → length before ≤ place (from_start start index)
        later (Ok i) le = omega (arith, le)
        later (Err i) le = omega (arith, le)

  come_still : (edits : List (Edit K C)) (start n m : ℕ) → n ≤ m → AllByRecursion (ComeInto start n) edits → AllByRecursion (ComeInto start m) edits
  come_still [] start n m le h = tt
  come_still (e ∷ es) start n m le h = ((h.0.0, among_more n m (from_start start e.index) le h.0.1), come_still es start n m le h.1)

  pub put_in_turn-inside : (edits : List (Edit K C)) (start : ℕ) (before es after : List (K × C)) → AllByRecursion (ComeInto (start + length before) (length es)) edits → put_in_turn start (before ++ (es ++ after)) edits ≡ before ++ (put_in_turn (start + length before) es edits ++ after)
  put_in_turn-inside [] start before es after into = refl
  put_in_turn-inside (e ∷ edits) start before es after into =
      let now = put_edit (start + length before) es e in
      let grown = put_at-grows (from_start (start + length before) e.index) e.change.key e.change.after es in
      ap (λ all. put_in_turn start all edits) (put_edit-inside start before es after e into.0)
      ∙ put_in_turn-inside edits start before now after (come_still edits (start + length before) (length es) (length now) grown.0 into.1)

  pub put_in_turn-grows : (edits : List (Edit K C)) (start : ℕ) (es : List (K × C)) → (length es ≤ length (put_in_turn start es edits)) × (length (put_in_turn start es edits) ≤ length es + length edits)
  put_in_turn-grows [] start es = (omega arith, omega arith)
  put_in_turn-grows (e ∷ edits) start es =
      let grown = put_at-grows (from_start start e.index) e.change.key e.change.after es in
      let more = put_in_turn-grows edits start (put_edit start es e) in
      (omega (arith, grown.0, more.0), omega (arith, grown.1, more.1))

  pub put_in_turn-append : (start : ℕ) (es : List (K × C)) (edits more : List (Edit K C)) → put_in_turn start es (edits ++ more) ≡ put_in_turn start (put_in_turn start es edits) more
  put_in_turn-append start es [] more = refl
  put_in_turn-append start es (e ∷ edits) more = put_in_turn-append start (put_edit start es e) edits more

module _ {K C : Type 0} (cmp : K → K → Ordering) (valid : C → Type 0) (before es after : List (K × C)) where
  -- a part of a table
  pub IsTable-inside : IsTable cmp valid (before ++ (es ++ after)) → IsTable cmp valid es
  IsTable-inside table = IsTable-prefix cmp valid es after (IsTable-back cmp valid before (es ++ after) table)

  pub may_put-inside : (index : Result ℕ ℕ) (key : K) → length before ≤ place index → IsAmong (length es) (from_start (length before) index) → MayPutAt cmp valid index key (before ++ (es ++ after)) → MayPutAt cmp valid (from_start (length before) index) key es
  may_put-inside index key le among may = record {
    among = among;
    table = λ content is.
        let now = put_at (from_start (length before) index) key content es in
        IsTable-prefix cmp valid now after (IsTable-back cmp valid before (now ++ after) (rw (put_at-inside before es after index key content le among) at (may.table content is)));
  }

-- a join into a part of the entries is one into all
pub joined-inside : {K C M : Type 0} (meaning : C → M) (joined : M → M → M) (valid : C → Type 0) (index : Result ℕ ℕ) (key : K) (content : C) (before old new after : List (K × C)) → length before ≤ place index → IsAmong (length old) (from_start (length before) index) → IsJoinedAt meaning joined valid (from_start (length before) index) key content old new → IsJoinedAt meaning joined valid index key content (before ++ (old ++ after)) (before ++ (new ++ after))
joined-inside meaning joined valid index key content before old new after le among is = record {
  value = is.value;
  put = ap (λ es. before ++ (es ++ after)) is.put ∙ sym (put_at-inside before old after index key is.value le among);
  means = is.means ∙ ap (λ o. optional_joined joined (option_map meaning o) (Some (meaning content))) (sym (content_at-inside before old after index le among));
  is_valid = is.is_valid;
}
