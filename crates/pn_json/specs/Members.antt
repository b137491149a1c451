-- The members of values, each by its kind.
use Rattle.std.specs.Prelude.{ℕ, ℤ, pos, negsuc, ◌^◌, nat_lt, Bool, true, ◌&&◌, if◌then◌else◌, List, [], ◌∷◌, map, Option, Some, None, option_map, option_and_then, unwrap_or, Result, Ok, Err}
use Rattle.std.specs.Borrow.{Bor}
use Rattle.std.specs.List.{list_any}
use Rattle.std.specs.Option.{ok_or}
use Rattle.std.specs.Str.{bytes_eq}
use Rattle.serde_json.specs.Data.{Num, unsigned, negative, float, Data, Items, no_items, item, Members, no_members, member}
use Rattle.serde_json.specs.Find.{as_number, as_str, as_u64}
use Rattle.serde_json.specs.View.{view}
use Rattle.serde_json.specs.declared.value.Value.{Value}
use Rattle.pn_json.specs.Answers.{◌>>=◌}

-- the data of an optional borrowed value
abbrev pub seen : Option (Bor Value) → Option Data
seen value = option_map (λ v. view v.now) value

-- a whole number, below 2^64
abbrev pub whole_number : Data → Option ℕ
whole_number d = option_and_then as_u64 (as_number d)

-- the whole number, if it fits 64 bits with a sign
abbrev pub signed_in : Num → Option ℤ
signed_in (unsigned n) = if nat_lt n (2 ^ 63) then Some (pos n) else None
signed_in (negative (pos n)) = None
signed_in (negative (negsuc n)) = if nat_lt n (2 ^ 63) then Some (negsuc n) else None
signed_in (float x) = None

-- a whole number, from -2^63 on and below 2^63
abbrev pub signed_number : Data → Option ℤ
signed_number d = option_and_then signed_in (as_number d)

-- the content of a value of a kind, or the fault if it is absent or of another kind
abbrev pub member_as : {A F : Type 0} → (Data → Option A) → F → Option Data → Result A F
member_as kind fault d = ok_or (option_and_then kind d) fault

-- the text that the data is, or the empty one
abbrev pub text_at : Option Data → List ℕ
text_at d = unwrap_or (option_and_then as_str d) []

-- each item as read, or the fault of the first that has one
abbrev pub each_in : {A F : Type 0} → (Data → Result A F) → Items → Result (List A) F
each_in read no_items = Ok []
each_in read (item d ds) = do
  value ← read d
  values ← each_in read ds
  Ok (value ∷ values)

-- each member has one of the names
abbrev pub only_named : List (List ℕ) → Members → Bool
only_named names no_members = true
only_named names (member name d ms) = list_any (bytes_eq name) names && only_named names ms

-- the fault if a member has another name
abbrev pub no_others : {F : Type 0} → List (List ℕ) → F → Members → Result (Unit {0}) F
no_others names fault ms = if only_named names ms then Ok tt else Err fault

-- the bytes of an optional borrowed text
abbrev pub seen_text : Option (Bor (List ℕ)) → Option (List ℕ)
seen_text text = option_map (λ t. t.now) text

-- borrowed texts
abbrev pub texts : List (Bor (List ℕ)) → List (List ℕ)
texts names = map (λ name. name.now) names
