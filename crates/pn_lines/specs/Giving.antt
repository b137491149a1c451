-- The first line at hand of a text, and what is given of one.
use Rattle.std.specs.Prelude.{◌≡◌, ◌<◌, ◌≤◌, ℕ, ◌+◌, Bool, true, false, List, [], ◌∷◌, ◌++◌, length, take, Vec, vec_capacity}
use Rattle.std.specs.declared.alloc.Global.{Global}
use Rattle.pn_line.specs.Line.{IsUnbroken}
use Rattle.pn_line.specs.declared.line_buffer.TheConstants.{MAX_KEPT_BYTES, MAX_LINE_BYTES}
use Rattle.pn_lines.specs.declared.finding.Found.{Found}
use Rattle.pn_lines.specs.declared.finding.Found.TheVariants.{Line, Long, Last, Part}

-- The first line at hand.

-- the first newline is here
pub record NewlineAt (bytes : List ℕ) (at : ℕ) : Type 0 where
  pub below : at < length bytes
  pub before : IsUnbroken (take at bytes)
  pub newline : take (at + 1) bytes ≡ take at bytes ++ 10 ∷ []

-- the first line ends here; or it is too long, the last, or a part of one
abbrev pub FindsLine : List ℕ → Bool → Found → Type 0
FindsLine bytes last (Line at) = NewlineAt bytes at × (at ≤ MAX_LINE_BYTES)
FindsLine bytes last Long = IsUnbroken (take MAX_KEPT_BYTES bytes) × (MAX_KEPT_BYTES ≤ length bytes)
FindsLine bytes last Last = IsUnbroken bytes × (length bytes ≤ MAX_LINE_BYTES) × (last ≡ true)
FindsLine bytes last Part = IsUnbroken bytes × (length bytes ≤ MAX_LINE_BYTES) × (last ≡ false)

-- What is given of a text.

-- some bytes were added after what a buffer held, which keeps its memory
pub record Adds (old new : Vec ℕ Global) : Type 0 where
  pub given : List ℕ
  pub items : new.items ≡ old.items ++ given
  pub capacity : vec_capacity old ≤ vec_capacity new

-- the first bytes of what was left were added, and the others are left
pub record Gives (was now : List ℕ) (old new : Vec ℕ Global) : Type 0 where
  pub given : List ℕ
  pub items : new.items ≡ old.items ++ given
  pub split : was ≡ given ++ now
  pub capacity : vec_capacity old ≤ vec_capacity new
