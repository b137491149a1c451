-- Replies to lines, how a handler answers by them, and what may become of it between two units of its work.
use Rattle.std.specs.Prelude.{ℕ, ◌+◌, Bool, true, false, List, [], ◌∷◌, ◌++◌}
use Rattle.pn_lines.specs.declared.handler.EndedBy.{EndedBy}

-- Replies to lines: their bytes, and how many are refusals.

-- a reply: its text, and whether it refuses its line
pub record Replied : Type 0 where
  pub text : List ℕ
  pub refused : Bool

-- 1 for what is so
abbrev pub one_if : Bool → ℕ
one_if false = 0
one_if true = 1

-- the bytes of replies
abbrev pub texts_of : List Replied → List ℕ
texts_of [] = []
texts_of (replied ∷ replies) = replied.text ++ texts_of replies

-- how many of them are refusals
abbrev pub refusals_of : List Replied → ℕ
refusals_of [] = 0
refusals_of (replied ∷ replies) = one_if replied.refused + refusals_of replies

-- How a handler answers lines, by relations.

-- what may become of a handler between two units of its work; the state before, what ended a line, the line, the state after and the
-- reply; the same of a line that was begun, with what is to be gone on with; and that no further line is answered
pub record Handling (V G : Type 0) : Type 1 where
  pub moves : V → V → Type 0
  pub answers : V → EndedBy → List ℕ → V → Replied → Type 0
  pub goes : V → EndedBy → List ℕ → V → G → Type 0
  pub closed : V → Type 0

-- a handler's relations
abbrev pub by : {V G : Type 0} → (V → V → Type 0) → (V → EndedBy → List ℕ → V → Replied → Type 0)
    → (V → EndedBy → List ℕ → V → G → Type 0) → (V → Type 0) → Handling V G
by moves answers goes closed = record { moves = moves; answers = answers; goes = goes; closed = closed }

module _ {V G : Type 0} (handling : Handling V G) where
  -- a line was answered, after what came between
  pub record Answers (was : V) (ended : EndedBy) (line : List ℕ) (now : V) (replied : Replied) : Type 0 where
    pub between : V
    pub moved : handling.moves was between
    pub answered : handling.answers between ended line now replied

  -- an answer that is given up leaves its line with a reply
  abbrev pub GivesUp : Type 0
  GivesUp = (was between now : V) (ended : EndedBy) (line : List ℕ) (pending : G)
      → handling.goes was ended line between pending → handling.moves between now → (replied : Replied) × Answers was ended line now replied

-- What may become of a handler between two units of its work.

-- nothing may become of it, and what may twice may once
pub record IsPreorder {V : Type 0} (moves : V → V → Type 0) : Type 0 where
  pub stays : (v : V) → moves v v
  pub goes_on : (a b c : V) → moves a b → moves b c → moves a c
