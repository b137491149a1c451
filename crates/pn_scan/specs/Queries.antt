-- Queries, their conditions and their limits, and which fields meet the conditions.
use Rattle.std.specs.Prelude.{ℕ, Bool, true, ◌&&◌, nat_le, List, [], length, Option, Some, String, string_bytes, false, ◌==◌, int_lt, None}
use Rattle.std.specs.Borrow.{Bor}
use Rattle.std.specs.List.{list_all, starts_with}
use Rattle.std.specs.declared.alloc.Global.{Global}
use Rattle.std.specs.Str.{bytes_eq}
use Rattle.std.specs.FinMap.{find}
use Rattle.std.specs.Ordering.{int_eq}
use Rattle.pn_record.specs.Limits.{FieldValue, number_value, text_value, is_number, is_field, Field}
use Rattle.pn_record.specs.Showing.{shown_ref, shown_value}
use Rattle.pn_record.specs.declared.content.Value.{Value}
use Rattle.pn_record.specs.declared.value_ref.ValueRef.{ValueRef}
use Rattle.pn_record.specs.Sets.{bytes_cmp}
use Rattle.pn_tablet.specs.Layouts.{is_end, is_below}
use Rattle.pn_scan.specs.declared.condition.Condition.{Condition}
use Rattle.pn_scan.specs.declared.condition.Condition.TheVariants.{Has, Eq, Lt, Gt, Prefix}
use Rattle.pn_scan.specs.declared.query.TheConstants.{MAX_CONDITIONS, MAX_PAGE_ROWS}

-- Queries, their conditions and their limits.

-- a condition on the field of a name: it is there, or its value is equal, less or greater, or begins with this text
pub data ConditionValue : Type 0 where
  has : List ℕ → ConditionValue
  eq : List ℕ → FieldValue → ConditionValue
  lt : List ℕ → FieldValue → ConditionValue
  gt : List ℕ → FieldValue → ConditionValue
  prefix : List ℕ → List ℕ → ConditionValue

-- keys at least `from`, below `to` and above `after`, whose records meet all conditions
pub record QueryValue : Type 0 where
  pub from : Option (List ℕ)
  pub to : Option (List ℕ)
  pub after : Option (List ℕ)
  pub conditions : List ConditionValue
  pub limit : ℕ

-- a condition with texts of its own
abbrev pub OwnCondition : Type 0
OwnCondition = Condition (String Global) Value

-- a condition whose texts are borrowed
abbrev pub BorrowedCondition : Type 0
BorrowedCondition = Condition (Bor (List ℕ)) ValueRef

-- the condition as contracts show it
abbrev pub shown_condition : OwnCondition → ConditionValue
shown_condition (Has field) = has (string_bytes field)
shown_condition (Eq field value) = eq (string_bytes field) (shown_value value)
shown_condition (Lt field value) = lt (string_bytes field) (shown_value value)
shown_condition (Gt field value) = gt (string_bytes field) (shown_value value)
shown_condition (Prefix field value) = prefix (string_bytes field) (string_bytes value)

-- the borrowed condition as contracts show it
abbrev pub shown_condition_ref : BorrowedCondition → ConditionValue
shown_condition_ref (Has field) = has field.now
shown_condition_ref (Eq field value) = eq field.now (shown_ref value)
shown_condition_ref (Lt field value) = lt field.now (shown_ref value)
shown_condition_ref (Gt field value) = gt field.now (shown_ref value)
shown_condition_ref (Prefix field value) = prefix field.now value.now

-- the field's name and the value keep the limits of fields
abbrev pub is_condition : ConditionValue → Bool
is_condition (has field) = is_field (field, text_value [])
is_condition (eq field value) = is_field (field, value)
is_condition (lt field value) = is_field (field, value)
is_condition (gt field value) = is_field (field, value)
is_condition (prefix field value) = is_field (field, text_value value)

-- the value, where it is a number, has 64 bits
abbrev pub number_fits : FieldValue → Bool
number_fits (number_value z) = is_number z
number_fits (text_value text) = true

-- its value, where that is a number, has 64 bits
abbrev pub operand_fits : ConditionValue → Bool
operand_fits (has field) = true
operand_fits (eq field value) = number_fits value
operand_fits (lt field value) = number_fits value
operand_fits (gt field value) = number_fits value
operand_fits (prefix field value) = true

-- a limit of 1 to 1,000 rows
abbrev pub is_limit : ℕ → Bool
is_limit limit = nat_le 1 limit && nat_le limit MAX_PAGE_ROWS

-- a limit of a page, and at most 16 conditions, each within its limits
abbrev pub query_fits : List ConditionValue → ℕ → Bool
query_fits conditions limit = is_limit limit && nat_le (length conditions) MAX_CONDITIONS && list_all is_condition conditions

-- the keys, the conditions and the limit keep the limits
abbrev pub is_query : QueryValue → Bool
is_query query = is_end query.after && is_end query.from && is_end query.to && query_fits query.conditions query.limit

-- the query for the records after a key
abbrev pub query_after : QueryValue → List ℕ → QueryValue
query_after query last = record { from = query.from; to = query.to; after = Some last; conditions = query.conditions; limit = query.limit }

-- Which fields meet the conditions of a query.

-- the name of a condition's field
abbrev pub field_of : ConditionValue → List ℕ
field_of (has name) = name
field_of (eq name value) = name
field_of (lt name value) = name
field_of (gt name value) = name
field_of (prefix name value) = name

-- two equal numbers, or two equal texts
abbrev pub are_equal : FieldValue → FieldValue → Bool
are_equal (number_value a) (number_value b) = int_eq a b
are_equal (number_value a) (text_value b) = false
are_equal (text_value a) (number_value b) = false
are_equal (text_value a) (text_value b) = bytes_eq a b

-- a number before a number by value, a text before a text by bytes, and nothing else
abbrev pub comes_before : FieldValue → FieldValue → Bool
comes_before (number_value a) (number_value b) = int_lt a b
comes_before (number_value a) (text_value b) = false
comes_before (text_value a) (number_value b) = false
comes_before (text_value a) (text_value b) = is_below a b

-- a text that begins with another; a number is none
abbrev pub begins_with : FieldValue → List ℕ → Bool
begins_with (number_value z) start = false
begins_with (text_value text) start = starts_with ◌==◌ text start

-- a value is as the condition asks
abbrev pub is_met : ConditionValue → FieldValue → Bool
is_met (has name) value = true
is_met (eq name asked) value = are_equal value asked
is_met (lt name asked) value = comes_before value asked
is_met (gt name asked) value = comes_before asked value
is_met (prefix name asked) value = begins_with value asked

-- the field has a value, and it is as the condition asks
abbrev pub is_met_by : ConditionValue → Option FieldValue → Bool
is_met_by condition None = false
is_met_by condition (Some value) = is_met condition value

-- the fields have the one that a condition names, and its value is as the condition asks
abbrev pub meets : List Field → ConditionValue → Bool
meets fields condition = is_met_by condition (find bytes_cmp (field_of condition) fields)

-- a content has fields, and they meet every condition
abbrev pub shows : List ConditionValue → Option (List Field) → Bool
shows conditions None = false
shows conditions (Some fields) = list_all (meets fields) conditions
