-- The order of members changes nothing of what a value is.
use Rattle.std.proofs.Common.{◌≡◌, ℕ, List, [], length, Option, Some, None, option_map, option_and_then, Ordering, Less, Equal, Greater, nat_cmp, is_eq, refl, sym, ap, ◌∙◌, append-nil}
use Rattle.std.proofs.lemmas.Bool.{le-ltb}
use Rattle.std.proofs.lemmas.Str.{is_utf8-from_IsUtf8}
use Rattle.std.proofs.lemmas.Cmp.{nat_list_cmp_total}
use Rattle.std.proofs.lemmas.Map.Text.{is_eq-slice_cmp}
use Rattle.std.proofs.lemmas.Slice.Eq.{bytes_eq-Decides}
use Rattle.std.specs.Cmp.Lexicographic.{slice_cmp}
use Rattle.std.specs.Ordering.{ordering_reverse}
use Rattle.json.specs.Json as json
use Rattle.json.specs.Lex.{tokens}
use Rattle.json.specs.Tree.{json_tokens}
use Rattle.json.proofs.Printed.Trees.{value-json_tokens}
use Rattle.serde_json.specs.Data.{Data, array, object, item, Members, no_members, member, put}
use Rattle.serde_json.specs.Read.{of_json, of_items, of_members, read, max_depth}
use Rattle.pn_record.specs.Reordered.{Spells, IsReordered, same, in_array, in_object, ItemsReordered, MembersReordered, swap, then}
use Rattle.pn_record.specs.Reordered as moved
use Rattle.pn_record.specs.Reading.{reading, value_at}

abbrev cmp : List ℕ → List ℕ → Ordering
cmp = slice_cmp nat_cmp

names_tied : (k l : List ℕ) → cmp k l ≡ Equal → k ≡ l
names_tied k l is = (bytes_eq-Decides k l).0 (sym (is_eq-slice_cmp k l) ∙ ap is_eq is)

above : (k l : List ℕ) → cmp k l ≡ Less → cmp l k ≡ Greater
above k l less = nat_list_cmp_total.antisymm l k ∙ ap ordering_reverse less

below : (k l : List ℕ) → cmp k l ≡ Greater → cmp l k ≡ Less
below k l greater = nat_list_cmp_total.antisymm l k ∙ ap ordering_reverse greater

put_less : (k x : List ℕ) (d f : Data) (ms : Members) → cmp k x ≡ Less → put k d (member x f ms) ≡ member k d (member x f ms)
put_less k x d f ms is = rw is refl

put_equal : (k x : List ℕ) (d f : Data) (ms : Members) → cmp k x ≡ Equal → put k d (member x f ms) ≡ member x d ms
put_equal k x d f ms is = rw is refl

put_greater : (k x : List ℕ) (d f : Data) (ms : Members) → cmp k x ≡ Greater → put k d (member x f ms) ≡ member x f (put k d ms)
put_greater k x d f ms is = rw is refl

-- both before the rest
both_first : (k l : List ℕ) (d e : Data) (ms : Members) (o : Ordering) → cmp k l ≡ o → (k ≡ l → ⊥) → put k d ms ≡ member k d ms → put l e ms ≡ member l e ms → put k d (member l e ms) ≡ put l e (member k d ms)
both_first k l d e ms Less is apart first second = put_less k l d e ms is ∙ sym (put_greater l k e d ms (above k l is) ∙ ap (member k d) second)
both_first k l d e ms Equal is apart first second = absurd (apart (names_tied k l is))
both_first k l d e ms Greater is apart first second = put_greater k l d e ms is ∙ ap (member l e) first ∙ sym (put_less l k e d ms (below k l is))

-- the first before the rest, the second at its head or later
first_before : (k l x : List ℕ) (d e f : Data) (ms rest : Members) → cmp k x ≡ Less → cmp k l ≡ Less → put l e (member x f ms) ≡ rest → put k d rest ≡ member k d rest → put k d (put l e (member x f ms)) ≡ put l e (put k d (member x f ms))
first_before k l x d e f ms rest before less is stays =
    ap (put k d) is ∙ stays ∙ ap (member k d) (sym is) ∙ sym (ap (put l e) (put_less k x d f ms before) ∙ put_greater l k e d (member x f ms) (above k l less))

module _ (k l x : List ℕ) (d e f : Data) (ms : Members) (apart : k ≡ l → ⊥) where
  less_less : cmp k x ≡ Less → cmp l x ≡ Less → put k d (put l e (member x f ms)) ≡ put l e (put k d (member x f ms))
  less_less one two =
      ap (put k d) (put_less l x e f ms two) ∙ both_first k l d e (member x f ms) (cmp k l) refl apart (put_less k x d f ms one) (put_less l x e f ms two) ∙ sym (ap (put l e) (put_less k x d f ms one))

  less_equal : cmp k x ≡ Less → cmp l x ≡ Equal → put k d (put l e (member x f ms)) ≡ put l e (put k d (member x f ms))
  less_equal one two =
      let same_name : l ≡ x = names_tied l x two in
      first_before k l x d e f ms (member x e ms) one (ap (cmp k) same_name ∙ one) (put_equal l x e f ms two) (put_less k x d e ms one)

  less_greater : cmp k x ≡ Less → cmp l x ≡ Greater → put k d (put l e (member x f ms)) ≡ put l e (put k d (member x f ms))
  less_greater one two =
      first_before k l x d e f ms (member x f (put l e ms)) one (nat_list_cmp_total.trans k x l one (below l x two)) (put_greater l x e f ms two) (put_less k x d f (put l e ms) one)

  equal_greater : cmp k x ≡ Equal → cmp l x ≡ Greater → put k d (put l e (member x f ms)) ≡ put l e (put k d (member x f ms))
  equal_greater one two =
      ap (put k d) (put_greater l x e f ms two) ∙ put_equal k x d f (put l e ms) one ∙ sym (ap (put l e) (put_equal k x d f ms one) ∙ put_greater l x e d ms two)

  greater_greater : cmp k x ≡ Greater → cmp l x ≡ Greater → put k d (put l e ms) ≡ put l e (put k d ms) → put k d (put l e (member x f ms)) ≡ put l e (put k d (member x f ms))
  greater_greater one two deeper =
      ap (put k d) (put_greater l x e f ms two) ∙ put_greater k x d f (put l e ms) one ∙ ap (member x f) deeper ∙ sym (ap (put l e) (put_greater k x d f ms one) ∙ put_greater l x e f (put k d ms) two)

put_member : (k l x : List ℕ) (d e f : Data) (ms : Members) (apart : k ≡ l → ⊥) (o p : Ordering) → cmp k x ≡ o → cmp l x ≡ p → put k d (put l e ms) ≡ put l e (put k d ms)
    → put k d (put l e (member x f ms)) ≡ put l e (put k d (member x f ms))
put_member k l x d e f ms apart Less Less one two deeper = less_less k l x d e f ms apart one two
put_member k l x d e f ms apart Less Equal one two deeper = less_equal k l x d e f ms apart one two
put_member k l x d e f ms apart Less Greater one two deeper = less_greater k l x d e f ms apart one two
put_member k l x d e f ms apart Equal Less one two deeper = sym (less_equal l k x e d f ms (λ is. apart (sym is)) two one)
put_member k l x d e f ms apart Equal Equal one two deeper = absurd (apart (names_tied k x one ∙ sym (names_tied l x two)))
put_member k l x d e f ms apart Equal Greater one two deeper = equal_greater k l x d e f ms apart one two
put_member k l x d e f ms apart Greater Less one two deeper = sym (less_greater l k x e d f ms (λ is. apart (sym is)) two one)
put_member k l x d e f ms apart Greater Equal one two deeper = sym (equal_greater l k x e d f ms (λ is. apart (sym is)) two one)
put_member k l x d e f ms apart Greater Greater one two deeper = greater_greater k l x d e f ms apart one two deeper

-- members of different names may be put in either order
pub put-put : (k l : List ℕ) (d e : Data) (ms : Members) → (k ≡ l → ⊥) → put k d (put l e ms) ≡ put l e (put k d ms)
put-put k l d e no_members apart = both_first k l d e no_members (cmp k l) refl apart refl refl
put-put k l d e (member x f ms) apart = put_member k l x d e f ms apart (cmp k x) (cmp l x) refl refl (put-put k l d e ms apart)

chained : {A B : Type 0} (o p : Option A) (f g : A → Option B) → o ≡ p → ((a : A) → f a ≡ g a) → option_and_then f o ≡ option_and_then g p
chained None p f g is alike = rw (← is) refl
chained (Some a) p f g is alike = rw (← is) (alike a)

crossed : {A B : Type 0} (o p : Option A) (f g : A → A → Option B) → ((a b : A) → f a b ≡ g b a) → option_and_then (λ a. option_and_then (λ b. f a b) p) o ≡ option_and_then (λ b. option_and_then (λ a. g b a) o) p
crossed None None f g alike = refl
crossed None (Some b) f g alike = refl
crossed (Some a) None f g alike = refl
crossed (Some a) (Some b) f g alike = alike a b

mutual
  -- a value is the same in any order of its members
  pub of_json-reordered : {j k : json.Json} → IsReordered j k → of_json j ≡ of_json k
  of_json-reordered same = refl
  of_json-reordered (in_array items) = ap (option_map array) (of_items-reordered items)
  of_json-reordered (in_object members) = ap (option_map object) (of_members-reordered members no_members)

  of_items-reordered : {js ks : json.Items} → ItemsReordered js ks → of_items js ≡ of_items ks
  of_items-reordered moved.no_items = refl
  of_items-reordered (moved.item {j = j} {k = k} {js = js} {ks = ks} first rest) =
      chained (of_json j) (of_json k) _ _ (of_json-reordered first) (λ d. ap (option_map (item d)) (of_items-reordered rest))

  of_members-reordered : {ms ns : json.Members} → MembersReordered ms ns → (found : Members) → of_members ms found ≡ of_members ns found
  of_members-reordered moved.no_members found = refl
  of_members-reordered (moved.member {name = name} {j = j} {k = k} first rest) found =
      chained (of_json j) (of_json k) _ _ (of_json-reordered first) (λ d. of_members-reordered rest (put name d found))
  of_members-reordered (swap {name = name} {other = other} {j = j} {k = k} {ms = ms} apart) found =
      crossed (of_json j) (of_json k) _ _ (λ d e. ap (of_members ms) (put-put other name e d found (λ is. apart (sym is))))
  of_members-reordered (then first second) found = of_members-reordered first found ∙ of_members-reordered second found

pub read-spelled : (line : List ℕ) (value : json.Json) → Spells line value → read line ≡ of_json value
read-spelled line value is =
    let parsed : json.value max_depth (tokens line) ≡ Some (value, []) = ap (json.value max_depth) (is.tokens_are ∙ sym (append-nil (json_tokens value))) ∙ value-json_tokens value max_depth [] is.shallow in
    rw parsed refl

-- lines of values that differ in order alone are of one value
pub value_at-reordered : (one other : List ℕ) (value changed : json.Json) → Spells one value → Spells other changed → IsReordered value changed → value_at one ≡ value_at other
unfolding value_at reading
value_at-reordered one other value changed first second order =
    let read_same : read one ≡ read other = read-spelled one value first ∙ of_json-reordered order ∙ sym (read-spelled other changed second) in
    rw (le-ltb 65536 (length one) first.short, le-ltb 65536 (length other) second.short, is_utf8-from_IsUtf8 one first.text, is_utf8-from_IsUtf8 other second.text, read_same) refl
