-- The query of a JSON value, and its JSON: first the shapes of its members and of its conditions, then their limits.
use Rattle.std.specs.Prelude.{ℕ, if◌then◌else◌, List, codes, Option, Some, None, [], option_and_then, Result, Ok, ◌∷◌, map, ◌≡◌, ◌⊎◌, Err, Bool, true, ◌&&◌, nat_le, length, is_some, IsTrue, IfSome}
use Rattle.std.specs.Str.{bytes_eq}
use Rattle.std.specs.Option.{ok_or, option_or, option_to_list}
use Rattle.std.specs.List.{flat_map, list_all}
use Rattle.serde_json.specs.Data.{Data, Items, no_items, item, number, string, array, object, unsigned, no_members, member, null, boolean}
use Rattle.serde_json.specs.Find.{as_str, as_array, get, as_object}
use Rattle.serde_json.specs.View.{items_of, view}
use Rattle.json.specs.Token.{Token}
use Rattle.serde_json.specs.declared.value.Value.{Value}
use Rattle.pn_json.specs.Answers.{◌>>=◌}
use Rattle.pn_json.specs.Members.{each_in, whole_number, no_others}
use Rattle.pn_json.specs.Tokens.{value_tokens}
use Rattle.pn_record.specs.Limits.{FieldValue, number_value, text_value}
use Rattle.pn_record.specs.Grammar.{value_in}
use Rattle.pn_record.specs.Writing.{value_data}
use Rattle.pn_record.specs.Showing.{shown_ref}
use Rattle.pn_record.specs.declared.value_ref.ValueRef.{ValueRef}
use Rattle.pn_tablet.specs.Layouts.{key_data}
use Rattle.pn_scan.specs.Queries.{ConditionValue, has, eq, lt, gt, prefix, QueryValue, is_query, OwnCondition, is_condition, shown_condition}
use Rattle.pn_scan.specs.declared.query_json.QueryFault.{QueryFault}
use Rattle.pn_scan.specs.declared.query_json.QueryFault.TheVariants.{BadShape, OutOfRange}
use Rattle.pn_scan.specs.declared.query.TheConstants.{USUAL_PAGE, MAX_CONDITIONS}

-- The words of conditions, and what they ask.

-- the condition of a word without a value
abbrev pub lone_condition : List ℕ → List ℕ → Option ConditionValue
lone_condition word field = if bytes_eq word (codes "has") then Some (has field) else None

-- the condition that a field begins with a text; a number is no text
abbrev pub prefix_condition : List ℕ → FieldValue → Option ConditionValue
prefix_condition field (number_value z) = None
prefix_condition field (text_value text) = Some (prefix field text)

-- the condition of a word with a value
abbrev pub comparing_condition : List ℕ → List ℕ → FieldValue → Option ConditionValue
comparing_condition word field value =
    if bytes_eq word (codes "eq") then Some (eq field value) else
    (if bytes_eq word (codes "lt") then Some (lt field value) else
    (if bytes_eq word (codes "gt") then Some (gt field value) else
    (if bytes_eq word (codes "prefix") then prefix_condition field value else None)))

-- The conditions of JSON values.

-- the condition of two parts, a word and a field's name
abbrev pub lone_in : Items → Option ConditionValue
lone_in no_items = None
lone_in (item a no_items) = None
lone_in (item word (item field no_items)) =
    option_and_then (λ w. option_and_then (lone_condition w) (as_str field)) (as_str word)
lone_in (item a (item b (item c ds))) = None

-- the condition of three parts, of which the third is a text, or a whole number of 64 bits with a sign
abbrev pub comparing_in : Items → Option ConditionValue
comparing_in no_items = None
comparing_in (item a no_items) = None
comparing_in (item a (item b no_items)) = None
comparing_in (item word (item field (item value no_items))) =
    option_and_then (λ w. option_and_then (λ f. option_and_then (comparing_condition w f) (value_in value)) (as_str field)) (as_str word)
comparing_in (item a (item b (item c (item d ds)))) = None

-- the condition that an array spells: a word, a field's name, and a value after any word but `has`
abbrev pub condition_in : Data → Option ConditionValue
condition_in d = option_and_then (λ parts. option_or (lone_in parts) (comparing_in parts)) (as_array d)

-- the condition of a value, or the fault
abbrev pub condition_at : Data → Result ConditionValue QueryFault
condition_at d = ok_or (condition_in d) BadShape

-- the conditions of an array, or the fault
abbrev pub conditions_at : Data → Result (List ConditionValue) QueryFault
conditions_at d = do
  items ← ok_or (as_array d) BadShape
  each_in condition_at items

-- the conditions, or none where the member is absent
abbrev pub conditions_in : Option Data → Result (List ConditionValue) QueryFault
conditions_in None = Ok []
conditions_in (Some d) = conditions_at d

-- The JSON of queries.

-- an array of a word, a field's name, and a value, if there is one
abbrev pub parts_data : List ℕ → List ℕ → Option FieldValue → Data
parts_data word field value = array (items_of (string word ∷ string field ∷ map value_data (option_to_list value)))

-- the word of a condition, the field's name, and the value, if it has one
abbrev pub condition_data : ConditionValue → Data
condition_data (has field) = parts_data (codes "has") field None
condition_data (eq field value) = parts_data (codes "eq") field (Some value)
condition_data (lt field value) = parts_data (codes "lt") field (Some value)
condition_data (gt field value) = parts_data (codes "gt") field (Some value)
condition_data (prefix field value) = parts_data (codes "prefix") field (Some (text_value value))

-- an array of the conditions
abbrev pub conditions_data : List ConditionValue → Data
conditions_data conditions = array (items_of (map condition_data conditions))

-- all five members
abbrev pub query_data : QueryValue → Data
query_data query =
    object (member (codes "after") (key_data query.after)
    (member (codes "from") (key_data query.from)
    (member (codes "limit") (number (unsigned query.limit))
    (member (codes "to") (key_data query.to)
    (member (codes "where") (conditions_data query.conditions) no_members)))))

-- The query of a JSON value: first the shapes of its members, then their limits.

-- the names of a query's members
abbrev pub query_members : List (List ℕ)
query_members = codes "after" ∷ codes "from" ∷ codes "limit" ∷ codes "to" ∷ codes "where" ∷ []

-- a key, or none where the value is null
abbrev pub key_of : Data → Result (Option (List ℕ)) QueryFault
key_of null = Ok None
key_of (string key) = Ok (Some key)
key_of (boolean b) = Err BadShape
key_of (number n) = Err BadShape
key_of (array ds) = Err BadShape
key_of (object ms) = Err BadShape

-- a key, or none where the member is absent or null
abbrev pub key_in : Option Data → Result (Option (List ℕ)) QueryFault
key_in None = Ok None
key_in (Some d) = key_of d

-- the limit, which is the usual one where the member is absent
abbrev pub limit_in : Option Data → Result ℕ QueryFault
limit_in None = Ok USUAL_PAGE
limit_in (Some d) = ok_or (whole_number d) BadShape

-- the query that the value has the shape of; no limit is checked
unfoldable pub shape_in : Data → Result QueryValue QueryFault
shape_in d = do
  members ← ok_or (as_object d) BadShape
  after ← key_in (get (codes "after") d)
  from ← key_in (get (codes "from") d)
  limit ← limit_in (get (codes "limit") d)
  to ← key_in (get (codes "to") d)
  conditions ← conditions_in (get (codes "where") d)
  named ← no_others query_members BadShape members
  Ok (record { from = from; to = to; after = after; conditions = conditions; limit = limit })

-- the query of a value, or its first fault; every shape comes before the limits
unfoldable pub query_in : Data → Result QueryValue QueryFault
query_in d = do
  query ← shape_in d
  if is_query query then Ok query else Err OutOfRange

-- a member is this value, or absent where that is usual
abbrev pub IsGiven : Option Data → Data → Type 0 → Type 0
IsGiven which value usual = (which ≡ Some value) ⊎ ((which ≡ None) × usual)

-- Parts of queries that are borrowed from a value.

-- the conditions among values
abbrev pub conditions_among : List Value → List ConditionValue
conditions_among values = flat_map (λ value. option_to_list (condition_in (view value))) values

-- each value has the shape of a condition
abbrev pub are_conditions : List Value → Bool
are_conditions values = list_all (λ value. is_some (condition_in (view value))) values

-- the condition keeps its limits, if there is one
abbrev pub may_fit : Option ConditionValue → Bool
may_fit None = true
may_fit (Some condition) = is_condition condition

-- each condition among values keeps its limits
abbrev pub all_fit : List Value → Bool
all_fit values = list_all (λ value. may_fit (condition_in (view value))) values

-- the values are conditions, and `fit` whether they keep the limits; `made`, unless none, are those conditions
pub record AreParsed (values : List Value) (fit : Bool) (made : Option (List OwnCondition)) : Type 0 where
  pub all : IsTrue (are_conditions values)
  pub fits : fit ≡ (nat_le (length values) MAX_CONDITIONS && all_fit values)
  pub shown : IfSome made (λ conditions. map shown_condition conditions ≡ conditions_among values)

-- the tokens of a value, if there is one
abbrev pub operand_tokens : Option ValueRef → List Token
operand_tokens value = flat_map (λ v. value_tokens (value_data (shown_ref v))) (option_to_list value)
