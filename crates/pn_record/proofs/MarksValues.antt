-- Members of objects, put in by rising names, and marks as their JSON: what is read is marks, and marks are read.
use Rattle.std.proofs.Common.{◌≡◌, List, [], ◌∷◌, length, suc, IsTrue, Less, string_bytes, string_cmp, nat_cmp, refl, ap, String, Global, ℕ, zero, ◌+◌, ◌<◌, get_or, take, map, ◌++◌, true, Ordering, Equal, Greater, sym, ◌∙◌, subst, append-nil, add-one, arith, max, Bool, false, not, cond, ◌&&◌, Some, None, unwrap_or, is_some, Result, Ok, Err, IfOk}
use Rattle.std.proofs.lemmas.Bool.{and_from, and_parts}
use Rattle.std.specs.Cmp.Lexicographic.{slice_cmp}
use Rattle.std.specs.FinMap.Entries.{below_all}
use Rattle.std.specs.List.{AllByRecursion, list_all}
use Rattle.std.specs.List.Sorted.{IsStrictlySortedBy}
use Rattle.std.specs.Map.{keys_of}
use Rattle.std.proofs.lemmas.Cmp.{nat_list_cmp_total}
use Rattle.std.proofs.lemmas.List.{append_assoc, get_or-map, get_or_at, length-append, length-map, take_at}
use Rattle.std.specs.FinMap.{is_sorted}
use Rattle.std.specs.Ordering.{is_lt, ordering_reverse}
use Rattle.std.proofs.lemmas.Map.Lookups.{exact_bytes}
use Rattle.std.specs.Option.{ok_or}
use Rattle.serde_json.specs.View.{members_view}
use Rattle.serde_json.specs.declared.value.Value.{Value}
use Rattle.serde_json.specs.Data.{Data, Members, member, no_members, number, unsigned, put, object}
use Rattle.serde_json.specs.Find.{as_object}
use Rattle.pn_join.specs.Marks.{Positions, name_cmp, is_position, are_positions}
use Rattle.pn_join.specs.Naming.{is_name}
use Rattle.pn_join.specs.Tables.{contents_at, key_by_key}
use Rattle.pn_join.proofs.JoinSteps.{not_found_before, contents_at_push}
use Rattle.pn_join.proofs.Puts.{same_tables}
use Rattle.pn_join.proofs.Rising.{Rising, Rising-from_sorted, sorted_from_Rising, Rising-prefix}
use Rattle.pn_json.specs.Answers.{IsUnless}
use Rattle.pn_json.specs.Members.{whole_number}
use Rattle.pn_json.proofs.LookUps.{bind_ok, ok_or_ok, number_from_whole, object_from_as_object}
use Rattle.pn_record.specs.Limits.{names_rise}
use Rattle.pn_record.specs.Grammar.{fields_of}
use Rattle.pn_record.specs.Marks.{positions_data, IsMarks, is_mark, all_whole, positions_of, positions_in, marks_in}
use Rattle.pn_record.specs.Showing.{shown_field, shown_value}
use Rattle.pn_record.specs.Writing.{value_data, fields_data}
use Rattle.pn_record.specs.declared.content.Value.{Value as FieldContent}
use Rattle.pn_record.specs.declared.fault.ImageFault.{ImageFault}
use Rattle.pn_record.specs.declared.fault.ImageFault.TheVariants.{Memory, BadShape, OutOfRange}
use Rattle.pn_record.specs.declared.fault.Member.TheVariants.{At}

-- The fields of an object's members.

-- each member is one field
pub fields_count : (entries : List (String Global × Value)) → length (fields_of (members_view entries)) ≡ length entries
fields_count [] = refl
fields_count (entry ∷ entries) = ap suc (fields_count entries)

below_names : (name : String Global) (entries : List (String Global × Value)) → AllByRecursion (λ other. string_cmp name other ≡ Less) (keys_of entries)
    → IsTrue (below_all (slice_cmp nat_cmp) (string_bytes name) (fields_of (members_view entries)))
below_names name [] below = refl
below_names name (entry ∷ entries) below = rw below.0 (below_names name entries below.1)

-- the names of an ordered map's fields rise
pub fields_rise : (entries : List (String Global × Value)) → IsStrictlySortedBy string_cmp (keys_of entries) → IsTrue (names_rise (fields_of (members_view entries)))
unfolding IsStrictlySortedBy
fields_rise [] ordered = refl
fields_rise (entry ∷ entries) ordered = and_from _ _ (below_names entry.0 entries ordered.0) (fields_rise entries ordered.1)

-- Members that are put in one after another, by rising names.

less : (o : Ordering) → is_lt o ≡ true → o ≡ Less
less Less h = refl
less Equal h = cc
less Greater h = cc

module _ {X : Type 0} where
  below_at : (name : List ℕ) (entries : List (List ℕ × X)) (i : ℕ) (entry : List ℕ × X) → i < length entries → entry ≡ get_or entries i entry → IsTrue (below_all (slice_cmp nat_cmp) name entries) → slice_cmp nat_cmp name entry.0 ≡ Less
  below_at name [] i entry within is below = absurd (omega arith)
  below_at name (first ∷ entries) zero entry within is below =
      ap (λ (e : List ℕ × X). slice_cmp nat_cmp name e.0) is ∙ less _ (and_parts _ _ below).0
  below_at name (first ∷ entries) (suc i) entry within is below =
      below_at name entries i entry (omega arith) is (and_parts _ _ below).1

  -- an entry put to those of lesser keys is the last
  pub put_next : (value : X → Data) (all : List (List ℕ × X) → Members) → all [] ≡ no_members → ((e : List ℕ × X) (es : List (List ℕ × X)) → all (e ∷ es) ≡ member e.0 (value e.1) (all es))
      → (entries : List (List ℕ × X)) (i : ℕ) (entry : List ℕ × X) → i < length entries → entry ≡ get_or entries i entry → IsTrue (is_sorted (slice_cmp nat_cmp) entries) → put entry.0 (value entry.1) (all (take i entries)) ≡ all (take (suc i) entries)
  put_next value all none more [] i entry within is rising = absurd (omega arith)
  put_next value all none more (first ∷ entries) zero entry within is rising =
      ap (put entry.0 (value entry.1)) none ∙ ap (λ (e : List ℕ × X). member e.0 (value e.1) no_members) is ∙ sym (more first [] ∙ ap (member first.0 (value first.1)) none)
  put_next value all none more (first ∷ entries) (suc i) entry within is rising =
      let parts = and_parts _ _ rising in
      let below : slice_cmp nat_cmp first.0 entry.0 ≡ Less = below_at first.0 entries i entry (omega arith) is parts.0 in
      let above : slice_cmp nat_cmp entry.0 first.0 ≡ Greater = nat_list_cmp_total.antisymm entry.0 first.0 ∙ ap ordering_reverse below in
      ap (put entry.0 (value entry.1)) (more first (take i entries))
      ∙ rw above (ap (member first.0 (value first.1)) (put_next value all none more entries i entry (omega arith) is parts.1))
      ∙ sym (more first (take (suc i) entries))

-- the same of the fields that a program holds
pub put_next_shown : (fields : List (String Global × FieldContent)) (i : ℕ) (field : String Global × FieldContent) → i < length fields → field ≡ get_or fields i field → IsTrue (names_rise (map shown_field fields))
    → put (string_bytes field.0) (value_data (shown_value field.1)) (fields_data (take i (map shown_field fields))) ≡ fields_data (take (i + 1) (map shown_field fields))
put_next_shown fields i field within is rising =
    let inside : i < length (map shown_field fields) = simp length-map within in
    let here : shown_field field ≡ get_or (map shown_field fields) i (shown_field field) = ap shown_field is ∙ sym (get_or-map shown_field fields i field (shown_field field) within) in
    rw add-one (put_next value_data fields_data refl (λ e es. refl) (map shown_field fields) i (shown_field field) inside here rising)

-- the members after all entries were put to them, one after another
abbrev pub put_all : Members → Positions → Members
put_all members [] = members
put_all members (mark ∷ marks) = put_all (put mark.0 (number (unsigned mark.1)) members) marks

-- marks by rising names, put to those before them, are the members of all
pub put_behind : (front back : Positions) → IsTrue (is_sorted name_cmp (front ++ back)) → put_all (positions_data front) back ≡ positions_data (front ++ back)
put_behind front [] rising = ap positions_data (sym (append-nil front))
put_behind front (mark ∷ back) rising =
    let marks = front ++ mark ∷ back in
    let within : length front < length marks = simp length-append (omega arith) in
    let here : mark ≡ get_or marks (length front) mark = sym (get_or_at front mark back mark (length front) refl) in
    let whole : (front ++ mark ∷ []) ++ back ≡ marks = append_assoc front (mark ∷ []) back in
    let before : take (length front) marks ≡ front = take_at front (mark ∷ back) (length front) refl in
    let behind : take (suc (length front)) marks ≡ front ++ mark ∷ [] =
    ap (take (suc (length front))) (sym whole) ∙ take_at (front ++ mark ∷ []) back (suc (length front)) (simp length-append (omega arith)) in
    let next = put_next (λ n. number (unsigned n)) positions_data refl (λ e es. refl) marks (length front) mark within here rising in
    ap (λ (ms : Members). put_all ms back) (ap (λ (f : Positions). put mark.0 (number (unsigned mark.1)) (positions_data f)) (sym before) ∙ next ∙ ap positions_data behind)
    ∙ put_behind (front ++ mark ∷ []) back (subst (λ (ms : Positions). IsTrue (is_sorted name_cmp ms)) (sym whole) rising)
    ∙ ap positions_data whole

-- Marks and their JSON: what is read is marks, and marks are read.

whole_again : (marks : Positions) → all_whole (positions_data marks) ≡ true
whole_again [] = refl
whole_again (mark ∷ marks) = whole_again marks

positions_again : (marks : Positions) → positions_of (positions_data marks) ≡ marks
positions_again [] = refl
positions_again (mark ∷ marks) = ap (λ ms. mark ∷ ms) (positions_again marks)

-- the JSON of marks is read as them
pub marks_again : (d : Data) (marks : Positions) → IsMarks d marks → marks_in d ≡ Ok marks
unfolding marks_in
marks_again d marks is =
    ap marks_in is.value ∙ (rw (whole_again marks, positions_again marks, is.fits) refl)

number_again : (d : Data) → is_some (whole_number d) ≡ true → number (unsigned (unwrap_or (whole_number d) 0)) ≡ d
number_again d is =
    elim (whole_number d) as (λ o. whole_number d ≡ o → is_some o ≡ true → number (unsigned (unwrap_or o 0)) ≡ d) [
      | Some n ↦ λ p _. sym (number_from_whole d n p)
      | None ↦ λ p h. cc
    ] refl is

data_again : (ms : Members) → all_whole ms ≡ true → positions_data (positions_of ms) ≡ ms
data_again no_members is = refl
data_again (member name d ms) is =
    let parts = and_parts (is_some (whole_number d)) (all_whole ms) is in
    rw (number_again d parts.0, data_again ms parts.1) refl

tested : (whole fits : Bool) (found marks : Positions) → (cond (not whole) (Err (BadShape At)) (cond fits (Ok found) (Err (OutOfRange At)))) ≡ Ok marks → (whole ≡ true) × (fits ≡ true) × (found ≡ marks)
tested true true found marks is = (refl, refl, cc)
tested true false found marks is = absurd (cc)
tested false fits found marks is = absurd (cc)

-- what is read is marks
pub marks_found : (d : Data) (marks : Positions) → marks_in d ≡ Ok marks → IsMarks d marks
unfolding marks_in
marks_found d marks is =
    let found = bind_ok (ok_or (as_object d) (BadShape At)) positions_in marks is in
    let ms = found.0 in
    let parts = tested (all_whole ms) (list_all is_mark (positions_of ms)) (positions_of ms) marks found.2 in
    record {
      value = object_from_as_object d ms (ok_or_ok (as_object d) (BadShape At) ms found.1) ∙ ap object (sym (data_again ms parts.0) ∙ ap positions_data parts.2);
      fits = subst (λ (m : Positions). list_all is_mark m ≡ true) parts.2 parts.1;
    }

-- an answer that is right is marks
pub answer_marks : (d : Data) (answer : Result Positions ImageFault) → IsUnless Memory answer (marks_in d) → IfOk answer (λ marks. IsMarks d marks)
answer_marks d (Ok marks) gives = marks_found d marks gives
answer_marks d (Err fault) gives = tt

same_below : (name : List ℕ) (ms : Members) → below_all name_cmp name (fields_of ms) ≡ below_all name_cmp name (positions_of ms)
same_below name no_members = refl
same_below name (member other d ms) = ap (λ b. is_lt (name_cmp name other) && b) (same_below name ms)

same_rise : (ms : Members) → names_rise (fields_of ms) ≡ is_sorted name_cmp (positions_of ms)
same_rise no_members = refl
same_rise (member name d ms) = λ i. same_below name ms i && same_rise ms i

-- the names of an ordered map's members rise
pub positions_rise : (entries : List (String Global × Value)) → IsStrictlySortedBy string_cmp (keys_of entries) → IsTrue (is_sorted name_cmp (positions_of (members_view entries)))
positions_rise entries ordered = sym (same_rise (members_view entries)) ∙ fields_rise entries ordered

-- names and positions that fit are marks
pub marks_fit : (marks : Positions) → IsTrue (list_all (λ mark. is_name mark.0) marks) → IsTrue (are_positions marks) → IsTrue (list_all is_mark marks)
marks_fit [] names positions = refl
marks_fit (mark ∷ marks) names positions =
    let named = and_parts (is_name mark.0) (list_all (λ m. is_name m.0) marks) names in
    let placed = and_parts (is_position mark.1) (are_positions marks) positions in
    and_from _ _ (and_from _ _ named.0 placed.0) (marks_fit marks named.1 placed.1)

-- a mark joined after those of lesser names is the last
pub mark_pushed : (old : Positions) (mark : List ℕ × ℕ) (rest new : Positions) → IsTrue (is_sorted name_cmp (old ++ mark ∷ rest)) → IsTrue (is_sorted name_cmp new)
    → contents_at name_cmp (λ position. position) new ≡ key_by_key max (contents_at name_cmp (λ position. position) old) (contents_at name_cmp (λ position. position) (mark ∷ [])) → new ≡ old ++ mark ∷ []
mark_pushed old mark rest new rising risen is =
    let rises : Rising name_cmp (old ++ mark ∷ rest) = Rising-from_sorted name_cmp _ rising in
    let front : Rising name_cmp (old ++ mark ∷ []) = Rising-prefix name_cmp (old ++ mark ∷ []) rest (subst (Rising name_cmp) (sym (append_assoc old (mark ∷ []) rest)) rises) in
    same_tables name_cmp (λ position. position) nat_list_cmp_total (λ x y tied. exact_bytes x y tied) (λ x y same. same) new (old ++ mark ∷ []) risen (sorted_from_Rising name_cmp _ front)
    (is ∙ sym (contents_at_push name_cmp nat_list_cmp_total (λ position. position) max old mark (not_found_before name_cmp nat_list_cmp_total old mark rest rises)))
