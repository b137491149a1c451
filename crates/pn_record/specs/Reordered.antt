-- JSON values that differ only in the order of members.
use Rattle.std.specs.Prelude.{◌≡◌, ◌≤◌, ℕ, List, length, IsUtf8}
use Rattle.json.specs.Lex.{tokens}
use Rattle.json.specs.Tree.{json_tokens, depth}
use Rattle.json.specs.Json as json
use Rattle.pn_record.specs.Limits.{max_line_bytes}

mutual
  -- equal values, except for the order of members
  pub data IsReordered : json.Json → json.Json → Type 0 where
    same : {j : json.Json} → IsReordered j j
    in_array : {js ks : json.Items} → ItemsReordered js ks → IsReordered (json.array js) (json.array ks)
    in_object : {ms ns : json.Members} → MembersReordered ms ns → IsReordered (json.object ms) (json.object ns)

  -- one item after another
  pub data ItemsReordered : json.Items → json.Items → Type 0 where
    no_items : ItemsReordered json.no_items json.no_items
    item : {j k : json.Json} {js ks : json.Items} → IsReordered j k → ItemsReordered js ks → ItemsReordered (json.item j js) (json.item k ks)

  -- neighbours of different names may change places, any number of times
  pub data MembersReordered : json.Members → json.Members → Type 0 where
    no_members : MembersReordered json.no_members json.no_members
    member : {name : List ℕ} {j k : json.Json} {ms ns : json.Members} → IsReordered j k → MembersReordered ms ns → MembersReordered (json.member name j ms) (json.member name k ns)
    swap : {name other : List ℕ} {j k : json.Json} {ms : json.Members} → (name ≡ other → ⊥) → MembersReordered (json.member name j (json.member other k ms)) (json.member other k (json.member name j ms))
    then : {ms ns os : json.Members} → MembersReordered ms ns → MembersReordered ns os → MembersReordered ms os

-- the line spells the value, with any white space
pub record Spells (line : List ℕ) (value : json.Json) : Type 0 where
  pub short : length line ≤ max_line_bytes
  pub text : IsUtf8 line
  pub tokens_are : tokens line ≡ json_tokens value
  pub shallow : depth value ≤ 127
