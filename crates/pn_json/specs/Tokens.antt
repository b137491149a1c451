-- Values as the tokens and the lines that are written for them, and text that is added to a buffer.
use Rattle.std.specs.Prelude.{◌≡◌, ℕ, ◌+◌, ◌<◌, ◌≤◌, ◌⊎◌, List, [], ◌++◌, length, Vec, vec_capacity, ◌∷◌}
use Rattle.std.specs.declared.alloc.Global.{Global}
use Rattle.std.specs.List.{flat_map}
use Rattle.serde_json.specs.Data.{Data}
use Rattle.serde_json.specs.Written.{compact_text, outline}
use Rattle.json.specs.Token.{Token, key}
use Rattle.json.specs.Tree.{json_tokens}
use Rattle.json.specs.Written.{Written}

-- Text that is added to a buffer.

-- the text was added if the buffer had room for it, and the buffer's capacity did not shrink
pub record AppendsText (old new : Vec ℕ Global) (text : List ℕ) : Type 0 where
  pub items : length old.items + length text ≤ vec_capacity old → new.items ≡ old.items ++ text
  pub capacity : vec_capacity old ≤ vec_capacity new

-- a piece of what was left was added, which has at most `most` bytes, and at least one if anything was left
pub record MakesPiece (most : ℕ) (left rest : List ℕ) (old new : Vec ℕ Global) : Type 0 where
  pub piece : List ℕ
  pub appended : AppendsText old new piece
  pub split : left ≡ piece ++ rest
  pub short : length piece ≤ most
  pub some : (left ≡ []) ⊎ (0 < length piece)

-- Values as lines.

-- a value as a line: its compact text, ended by a newline
unfoldable pub line_of : Data → List ℕ
line_of value = compact_text value ++ 10 ∷ []

-- Values as the tokens that are written for them.

-- the tokens of a value
abbrev pub value_tokens : Data → List Token
value_tokens value = json_tokens (outline value)

-- the tokens of several values
abbrev pub values_tokens : List Data → List Token
values_tokens values = flat_map value_tokens values

-- the tokens of a member: its name, and its value
abbrev pub member_tokens : List ℕ → Data → List Token
member_tokens name value = key name ∷ value_tokens value

-- nothing is written yet
pub record IsBegun (line : Written) : Type 0 where
  pub before : line.before ≡ []
  pub tokens : line.tokens ≡ []

-- one value was written, and nothing else
pub record HasValue (line : Written) (value : Data) : Type 0 where
  pub before : line.before ≡ []
  pub tokens : line.tokens ≡ value_tokens value

-- these tokens were added
pub record Appends (old new : Written) (added : List Token) : Type 0 where
  pub before : new.before ≡ old.before
  pub tokens : new.tokens ≡ old.tokens ++ added
