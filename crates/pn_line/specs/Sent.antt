-- Which bytes were written and which wait, why a write fails, and a source and a sink of which one call fails.
use Rattle.std.specs.Prelude.{◌≡◌, ℕ, List, ◌++◌, Option}
use Rattle.std.specs.Io.KnownBytes.{Appends}
use Rattle.std.specs.IoError.{error_kind}
use Rattle.std.specs.declared.io.ErrorKind.TheVariants.{WouldBlock as would_block}
use Rattle.pn_line.specs.declared.sink.WriteFault.{WriteFault}
use Rattle.pn_line.specs.declared.sink.WriteFault.TheVariants.{Failed, TookNothing}

-- Which bytes were written, and which wait.

-- a prefix of these bytes was written, and nothing else
pub record AppendsPrefix (old new : Option (List ℕ)) (bs : List ℕ) : Type 0 where
  pub sent : List ℕ
  pub back : List ℕ
  pub appends : Appends old new sent
  pub whole : sent ++ back ≡ bs

-- a prefix of the bytes that waited and these was written, and the rest waits
pub record Sends (old new : Option (List ℕ)) (waited waits bs : List ℕ) : Type 0 where
  pub sent : List ℕ
  pub appends : Appends old new sent
  pub whole : sent ++ waits ≡ waited ++ bs

-- Why a write fails.

-- the writer takes nothing for now
abbrev pub WouldBlock : WriteFault → Type 0
WouldBlock (Failed error) = error_kind error ≡ would_block
WouldBlock TookNothing = ⊥

-- A source and a sink of which one call fails.

-- the bytes left, and which poll fails, counted from 1 for the next; 0 for none
pub record FailingSourceValue : Type 0 where
  pub left : List ℕ
  pub fails_at : ℕ

-- the bytes taken, how many of them were flushed, the most bytes of one write, and which call fails, counted from 1
-- for the next; 0 for none
pub record FailingSinkValue : Type 0 where
  pub contents : List ℕ
  pub flushed : ℕ
  pub most : ℕ
  pub fails_at : ℕ
