-- Which bytes are a name, and how it is held.
use Rattle.std.specs.Prelude.{◌≡◌, ℕ, ◌-◌, ◌≤◌, Bool, ◌&&◌, ◌||◌, nat_le, ◌==◌, IsTrue, List, ◌++◌, length, take, replicate}
use Rattle.std.specs.List.{list_all}
use Rattle.pn_join.specs.declared.marks.name.TheConstants.{MAX_NAME_BYTES}

-- `a` to `z`, `0` to `9`, or `-`
abbrev pub is_name_byte : ℕ → Bool
is_name_byte b = (nat_le 97 b && nat_le b 122) || (nat_le 48 b && nat_le b 57) || b == 45

-- at least one such byte, and not too many
abbrev pub is_name : List ℕ → Bool
is_name bytes = nat_le 1 (length bytes) && nat_le (length bytes) MAX_NAME_BYTES && list_all is_name_byte bytes

-- a name and the zeros after it, as many bytes as the longest name has
abbrev pub padded_name : List ℕ → List ℕ
padded_name name = name ++ replicate (MAX_NAME_BYTES - length name) 0

-- the first bytes are a name, and zeros come after it
pub record HoldsName (array : List ℕ) (count : ℕ) : Type 0 where
  pub within : count ≤ MAX_NAME_BYTES
  pub named : IsTrue (is_name (take count array))
  pub bytes : padded_name (take count array) ≡ array
  pub len : length (take count array) ≡ count
