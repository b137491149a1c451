-- A value is read as a condition exactly where it is the JSON of it, and its number, if it has one, has 64 bits.
use Rattle.std.proofs.Common.{◌≡◌, ◌↔◌, ◌⊎◌, inl, inr, ℤ, pos, negsuc, ◌^◌, ℕ, Bool, true, false, cond, List, [], ◌∷◌, map, codes, Option, Some, None, option_map, option_and_then, Ok, IsTrue, nat_lt, refl, sym, ap, ◌∙◌}
use Rattle.std.proofs.lemmas.Bool.{and_from, and_parts}
use Rattle.std.proofs.lemmas.Slice.Eq.{bytes_eq-Decides}
use Rattle.std.specs.List.{list_all}
use Rattle.std.specs.Option.{ok_or, option_or}
use Rattle.std.specs.Str.{bytes_eq}
use Rattle.serde_json.specs.Data.{unsigned, negative, float, Data, null, boolean, number, string, array, object, Items, no_items, item}
use Rattle.serde_json.specs.Find.{as_str, as_array}
use Rattle.serde_json.specs.View.{items_of}
use Rattle.pn_json.specs.Answers.{◌>>=◌}
use Rattle.pn_json.specs.Members.{each_in}
use Rattle.pn_json.proofs.LookUps.{bind_ok, ok_or_ok, and_then_some, string_from_as_str, array_from_as_array}
use Rattle.pn_record.specs.Grammar.{value_in}
use Rattle.pn_record.specs.Limits.{FieldValue, number_value, text_value, is_number, is_value}
use Rattle.pn_record.specs.Writing.{value_data}
use Rattle.pn_record.proofs.ShapeParts.{field_value, value_from, value_in-value_data}
use Rattle.pn_scan.specs.Queries.{ConditionValue, has, eq, lt, gt, prefix, is_condition, number_fits, operand_fits}
use Rattle.pn_scan.specs.QueryReading.{parts_data, condition_data, conditions_data, lone_condition, prefix_condition, comparing_condition, lone_in, comparing_in, condition_in, condition_at, conditions_at}
use Rattle.pn_scan.specs.declared.query_json.QueryFault.TheVariants.{BadShape}

-- ---- numbers

in_range : (b : Bool) (z : ℤ) (value : FieldValue) → is_number z ≡ b → option_map number_value (cond b (Some z) None) ≡ Some value → number_fits value ≡ true
in_range true z value small is = let e : number_value z ≡ value = cc is in ap number_fits (sym e) ∙ small
in_range false z value small is = absurd (cc)

-- a number that is read has 64 bits
number_read : (d : Data) (value : FieldValue) → value_in d ≡ Some value → number_fits value ≡ true
number_read null value is = absurd (cc)
number_read (boolean b) value is = absurd (cc)
number_read (number (unsigned n)) value is = in_range (nat_lt n (2 ^ 63)) (pos n) value refl is
number_read (number (negative (pos n))) value is = absurd (cc)
number_read (number (negative (negsuc n))) value is = in_range (nat_lt n (2 ^ 63)) (negsuc n) value refl is
number_read (number (float x)) value is = absurd (cc)
number_read (string s) value is = let e : text_value s ≡ value = cc is in ap number_fits (sym e)
number_read (array ds) value is = absurd (cc)
number_read (object ms) value is = absurd (cc)

-- and is read again of its JSON
value_read : (value : FieldValue) → number_fits value ≡ true → value_in (value_data value) ≡ Some value
value_read (number_value z) fits = value_in-value_data (number_value z) fits
value_read (text_value text) fits = refl

value_fits : (value : FieldValue) → is_value value ≡ true → number_fits value ≡ true
value_fits (number_value z) is = is
value_fits (text_value text) is = refl

condition_fits : (c : ConditionValue) → is_condition c ≡ true → operand_fits c ≡ true
condition_fits (has field) is = refl
condition_fits (eq field value) is = value_fits value (field_value (field, value) is)
condition_fits (lt field value) is = value_fits value (field_value (field, value) is)
condition_fits (gt field value) is = value_fits value (field_value (field, value) is)
condition_fits (prefix field text) is = refl

-- the numbers of conditions that keep the limits have 64 bits
pub conditions_fit : (cs : List ConditionValue) → list_all is_condition cs ≡ true → list_all operand_fits cs ≡ true
conditions_fit [] all = refl
conditions_fit (c ∷ cs) all =
    let parts = and_parts (is_condition c) (list_all is_condition cs) all in
    and_from (operand_fits c) (list_all operand_fits cs) (condition_fits c parts.0) (conditions_fit cs parts.1)

-- ---- words

word_by : (text name : List ℕ) (b : Bool) (hit other : Option ConditionValue) (c : ConditionValue) → bytes_eq text name ≡ b → cond b hit other ≡ Some c → ((text ≡ name) × (hit ≡ Some c)) ⊎ (other ≡ Some c)
word_by text name true hit other c same is = inl ((bytes_eq-Decides text name).0 same, is)
word_by text name false hit other c same is = inr is

-- these parts are those of the condition
abbrev Whole : List ℕ → List ℕ → Option FieldValue → ConditionValue → Type 0
Whole word field value c = (parts_data word field value ≡ condition_data c) × (operand_fits c ≡ true)

same_word : (text name field : List ℕ) (value : Option FieldValue) (c : ConditionValue) → text ≡ name → Whole name field value c → Whole text field value c
same_word text name field value c same whole = (ap (λ t. parts_data t field value) same ∙ whole.0, whole.1)

same_condition : (word field : List ℕ) (value : Option FieldValue) (hit c : ConditionValue) → Some hit ≡ Some c → Whole word field value hit → Whole word field value c
same_condition word field value hit c is whole = let e : hit ≡ c = cc is in (whole.0 ∙ ap condition_data e, ap operand_fits (sym e) ∙ whole.1)

lone_whole : (text field : List ℕ) (c : ConditionValue) → lone_condition text field ≡ Some c → Whole text field None c
lone_whole text field c is = elim (word_by text (codes "has") _ (Some (has field)) None c refl is) [
  | inl found ↦ same_word text (codes "has") field None c found.0 (same_condition (codes "has") field None (has field) c found.1 (refl, refl))
  | inr none ↦ absurd (cc)
]

prefix_whole : (field : List ℕ) (value : FieldValue) (c : ConditionValue) → prefix_condition field value ≡ Some c → Whole (codes "prefix") field (Some value) c
prefix_whole field (number_value z) c is = absurd (cc)
prefix_whole field (text_value text) c is = same_condition (codes "prefix") field (Some (text_value text)) (prefix field text) c is (refl, refl)

comparing_whole : (text field : List ℕ) (value : FieldValue) (c : ConditionValue) → number_fits value ≡ true → comparing_condition text field value ≡ Some c → Whole text field (Some value) c
comparing_whole text field value c fits is = elim (word_by text (codes "eq") _ (Some (eq field value)) _ c refl is) [
  | inl found ↦ same_word text (codes "eq") field (Some value) c found.0 (same_condition (codes "eq") field (Some value) (eq field value) c found.1 (refl, fits))
  | inr not_eq ↦ elim (word_by text (codes "lt") _ (Some (lt field value)) _ c refl not_eq) [
    | inl found ↦ same_word text (codes "lt") field (Some value) c found.0 (same_condition (codes "lt") field (Some value) (lt field value) c found.1 (refl, fits))
    | inr not_lt ↦ elim (word_by text (codes "gt") _ (Some (gt field value)) _ c refl not_lt) [
      | inl found ↦ same_word text (codes "gt") field (Some value) c found.0 (same_condition (codes "gt") field (Some value) (gt field value) c found.1 (refl, fits))
      | inr not_gt ↦ elim (word_by text (codes "prefix") _ (prefix_condition field value) None c refl not_gt) [
        | inl found ↦ same_word text (codes "prefix") field (Some value) c found.0 (prefix_whole field value c found.1)
        | inr none ↦ absurd (cc)
      ]
    ]
  ]
]

-- ---- conditions

-- the value is the JSON of the condition, whose number, if it has one, has 64 bits
abbrev IsJson : Data → ConditionValue → Type 0
IsJson d c = (d ≡ condition_data c) × (operand_fits c ≡ true)

lone_found : (items : Items) (c : ConditionValue) → lone_in items ≡ Some c → IsJson (array items) c
lone_found no_items c is = absurd (cc)
lone_found (item a no_items) c is = absurd (cc)
lone_found (item word (item field no_items)) c is =
    let w = and_then_some (as_str word) (λ w. option_and_then (lone_condition w) (as_str field)) c is in
    let f = and_then_some (as_str field) (lone_condition w.0) c w.2 in
    let whole = lone_whole w.0 f.0 c f.2 in
    let same : array (item word (item field no_items)) ≡ parts_data w.0 f.0 None = λ i. array (item (string_from_as_str word w.0 w.1 i) (item (string_from_as_str field f.0 f.1 i) no_items)) in
    (same ∙ whole.0, whole.1)
lone_found (item a (item b (item d ds))) c is = absurd (cc)

comparing_found : (items : Items) (c : ConditionValue) → comparing_in items ≡ Some c → IsJson (array items) c
comparing_found no_items c is = absurd (cc)
comparing_found (item a no_items) c is = absurd (cc)
comparing_found (item a (item b no_items)) c is = absurd (cc)
comparing_found (item word (item field (item value no_items))) c is =
    let w = and_then_some (as_str word) (λ w. option_and_then (λ f. option_and_then (comparing_condition w f) (value_in value)) (as_str field)) c is in
    let f = and_then_some (as_str field) (λ f. option_and_then (comparing_condition w.0 f) (value_in value)) c w.2 in
    let v = and_then_some (value_in value) (comparing_condition w.0 f.0) c f.2 in
    let whole = comparing_whole w.0 f.0 v.0 c (number_read value v.0 v.1) v.2 in
    let same : array (item word (item field (item value no_items))) ≡ parts_data w.0 f.0 (Some v.0) =
    λ i. array (item (string_from_as_str word w.0 w.1 i) (item (string_from_as_str field f.0 f.1 i) (item (value_from value v.0 v.1 i) no_items))) in
    (same ∙ whole.0, whole.1)
comparing_found (item a (item b (item d (item e ds)))) c is = absurd (cc)

either_found : (items : Items) (o : Option ConditionValue) (c : ConditionValue) → lone_in items ≡ o → option_or o (comparing_in items) ≡ Some c → IsJson (array items) c
either_found items None c lone is = comparing_found items c is
either_found items (Some found) c lone is = lone_found items c (lone ∙ is)

-- what a condition is read of is its JSON
condition_found : (d : Data) (c : ConditionValue) → condition_in d ≡ Some c → IsJson d c
condition_found d c is =
    let items = and_then_some (as_array d) (λ parts. option_or (lone_in parts) (comparing_in parts)) c is in
    let found = either_found items.0 _ c refl items.2 in
    (array_from_as_array d items.0 items.1 ∙ found.0, found.1)

-- a condition's JSON is read as the condition
condition_again : (c : ConditionValue) → operand_fits c ≡ true → condition_in (condition_data c) ≡ Some c
condition_again (has field) fits = refl
condition_again (eq field value) fits = ap (option_and_then (comparing_condition (codes "eq") field)) (value_read value fits)
condition_again (lt field value) fits = ap (option_and_then (comparing_condition (codes "lt") field)) (value_read value fits)
condition_again (gt field value) fits = ap (option_and_then (comparing_condition (codes "gt") field)) (value_read value fits)
condition_again (prefix field text) fits = refl

-- ---- lists of them

each_found : (ds : Items) (cs : List ConditionValue) → each_in condition_at ds ≡ Ok cs → (ds ≡ items_of (map condition_data cs)) × (list_all operand_fits cs ≡ true)
each_found no_items [] is = (refl, refl)
each_found no_items (c ∷ cs) is = absurd (cc)
each_found (item d ds) cs is =
    let first = bind_ok (condition_at d) (λ c. each_in condition_at ds >>= (λ cs. Ok (c ∷ cs))) cs is in
    let rest = bind_ok (each_in condition_at ds) (λ cs. Ok (first.0 ∷ cs)) cs first.2 in
    let whole : first.0 ∷ rest.0 ≡ cs = cc rest.2 in
    let one = condition_found d first.0 (ok_or_ok (condition_in d) BadShape first.0 first.1) in
    let more = each_found ds rest.0 rest.1 in
    ((λ i. item (one.0 i) (more.0 i)) ∙ ap (λ cs. items_of (map condition_data cs)) whole, ap (list_all operand_fits) (sym whole) ∙ and_from (operand_fits first.0) (list_all operand_fits rest.0) one.1 more.1)

pub each_again : (cs : List ConditionValue) → list_all operand_fits cs ≡ true → each_in condition_at (items_of (map condition_data cs)) ≡ Ok cs
each_again [] fit = refl
each_again (c ∷ cs) fit = let parts = and_parts (operand_fits c) (list_all operand_fits cs) fit in rw (condition_again c parts.0, each_again cs parts.1) refl

pub conditions_found : (d : Data) (cs : List ConditionValue) → conditions_at d ≡ Ok cs → (d ≡ conditions_data cs) × (list_all operand_fits cs ≡ true)
conditions_found d cs is =
    let items = bind_ok (ok_or (as_array d) BadShape) (each_in condition_at) cs is in
    let each = each_found items.0 cs items.2 in
    (array_from_as_array d items.0 (ok_or_ok (as_array d) BadShape items.0 items.1) ∙ ap array each.0, each.1)

-- a value is read as conditions exactly where it is their JSON
pub conditions_alone : (d : Data) (cs : List ConditionValue) → conditions_at d ≡ Ok cs ↔ ((d ≡ conditions_data cs) × IsTrue (list_all operand_fits cs))
conditions_alone d cs = (conditions_found d cs, (λ is. rw is.0 (each_again cs is.1)))
