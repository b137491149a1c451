-- What is taken from the front of bytes that are held, and what a read of pieces takes.
use Rattle.std.proofs.Common.{◌≡◌, ◌≢◌, ◌<◌, ℕ, Bool, true, Option, None, Some, List, [], ◌∷◌, ◌++◌, IfOk, IfSome, refl, ◌∙◌, subst, ◌+◌, ◌-◌, ◌≤◌, length, take, drop, sym, ap, arith, length-append, zero, suc, min, append_assoc}
use Rattle.std.specs.Prelude.{Result, Ok, Err, IfErr, OnOk}
use Rattle.std.specs.Io.KnownBytes.{Keeps, prepend_known, ReadConsumes}
use Rattle.std.proofs.lemmas.List.{drop-drop, drop-take, drop_at, length-take-le, take-append-drop}
use Rattle.std.proofs.Math.Nat.{min-le_left}
use Rattle.std.proofs.Math.Seq.{take-append_seam}
use Rattle.pn_line.specs.Line.{LineBufferValue, Takes, TakesPiece, newline_after}
use Rattle.pn_line.specs.declared.line_buffer.Piece.{Piece}
use Rattle.pn_stay.specs.Fakes.{IsPaused, bytes_of, first_piece, pieces_after, with_later}

-- An input of which something is held.

cons_nil : (b : ℕ) (bs : List ℕ) → b ∷ bs ≡ [] → ⊥
cons_nil b bs is = cc

-- some bytes and others are not none
some_first : (held rest : List ℕ) → held ≢ [] → held ++ rest ≢ []
some_first [] rest some = absurd (some refl)
some_first (b ∷ held) rest some = cons_nil b (held ++ rest)

-- something is left of an input of which something is held
pub more_left : {E : Type 0} (result : Result Bool E) (first held : List ℕ) (was now : Option (List ℕ)) → IfOk result (λ more. more ≡ true → held ≢ [])
    → Keeps (prepend_known first was) (prepend_known held now)
    → result ≡ Ok true → IfSome (prepend_known first was) (λ rest. rest ≢ [])
more_left {E} result first held was now more kept is =
    left was now kept (subst (λ (r : Result Bool E). IfOk r (λ more. more ≡ true → held ≢ [])) is more refl)
  where
    left : (was now : Option (List ℕ)) → Keeps (prepend_known first was) (prepend_known held now) → held ≢ []
        → IfSome (prepend_known first was) (λ rest. rest ≢ [])
    left None now kept some = tt
    left (Some xs) None kept some = absurd kept
    left (Some xs) (Some ys) kept some = λ none. some_first held ys some (kept ∙ none)

-- What is taken from the front of bytes that are held.

-- the bytes between two places, as a slice shows them
pub slice_within : (shown all : List ℕ) (start end : ℕ) → shown ≡ all → start ≤ end → take (end - start) (drop start shown) ≡ drop start (take end all)
slice_within shown all start end same within =
    let whole : start + (end - start) ≡ end = omega (arith, within) in
    ap (λ (l : List ℕ). take (end - start) (drop start l)) same ∙ sym (drop-take start (end - start) all) ∙ ap (λ (n : ℕ). drop start (take n all)) whole

-- the rest of a line's bytes is what the buffer then holds
pub rest_front : (old new : LineBufferValue) (all : List ℕ) (start used : ℕ) (shown shows now after : List ℕ) → shown ≡ now → drop start all ≡ now
    → Takes old new (Some shown) (Some shows) after
    → used ≡ new.count - old.count + length after → drop (start + used) all ≡ shows
rest_front old new all start used shown shows now after same is takes used_is =
    let grown : new.count ≡ old.count + length takes.taken = ap (λ (l : LineBufferValue). l.count) takes.line in
    let count : length (takes.taken ++ after) ≡ used = omega (arith, length-append takes.taken after, grown, used_is) in
    sym (drop-drop used start all) ∙ ap (λ (l : List ℕ). drop used l) (is ∙ sym same ∙ takes.source) ∙ drop_at (takes.taken ++ after) shows used count

pub TakesPiece-front : (piece : Piece) (old new : LineBufferValue) (all : List ℕ) (start used : ℕ) (shown shows now : List ℕ) → shown ≡ now
    → drop start all ≡ now → TakesPiece piece old new (Some shown) (Some shows)
    → used ≡ new.count - old.count + length (newline_after piece) → TakesPiece piece old new (Some now) (Some (drop (start + used) all))
TakesPiece-front piece old new all start used shown shows now same is taken used_is =
    let rest = rest_front old new all start used shown shows now (newline_after piece) same is taken.takes used_is in
    subst (λ (l : List ℕ). TakesPiece piece old new (Some now) (Some l)) (sym rest) (subst (λ (l : List ℕ). TakesPiece piece old new (Some l) (Some shows)) same taken)

-- What a read of pieces takes, in bytes.

bytes-with_later : (rest : List ℕ) (later : List (List ℕ)) → bytes_of (with_later rest later) ≡ rest ++ bytes_of later
bytes-with_later [] later = refl
bytes-with_later (byte ∷ rest) later = refl

-- the bytes that were taken, and those that are left
bytes_after : (count : ℕ) (pieces : List (List ℕ)) → count ≤ length (first_piece pieces)
    → bytes_of pieces ≡ take count (first_piece pieces) ++ bytes_of (pieces_after count pieces)
bytes_after zero [] few = refl
bytes_after (suc count) [] few = absurd (omega (arith, few))
bytes_after count (piece ∷ later) few =
    ap (λ (l : List ℕ). l ++ bytes_of later) (sym (take-append-drop count piece)) ∙ append_assoc (take count piece) (drop count piece) (bytes_of later)
    ∙ ap (λ (l : List ℕ). take count piece ++ l) (sym (bytes-with_later (drop count piece) later))

-- the bytes that a read copied
copied_front : (count : ℕ) (piece after now : List ℕ) → count ≤ length piece → now ≡ take count piece ++ after → take count now ≡ take count piece
copied_front count piece after now few copied =
    ap (take count) copied ∙ subst (λ (n : ℕ). take n (take count piece ++ after) ≡ take count piece) (length-take-le count piece few)
    (take-append_seam (take count piece) after)

-- no byte is taken only where none is left
none_left : (count : ℕ) (pieces : List (List ℕ)) → (IsPaused pieces → ⊥) → length (first_piece pieces) ≡ 0 → bytes_of (pieces_after count pieces) ≡ []
none_left count [] comes none = refl
none_left count ([] ∷ later) comes none = absurd (comes refl)
none_left count ((byte ∷ rest) ∷ later) comes none = absurd (omega (arith, none))

-- a read of pieces is one of their bytes
pub reads_bytes : {E : Type 0} (result : Result ℕ E) (old new : List (List ℕ)) (buf now : List ℕ) (Waits : E → Type 0)
    → IfOk result (λ count. count ≡ min (length (first_piece old)) (length buf))
    → IfOk result (λ count. now ≡ take count (first_piece old) ++ drop count buf) → IfOk result (λ count. new ≡ pieces_after count old)
    → OnOk result (IsPaused old → ⊥)
    → IfErr result (λ error. Waits error × (old ≡ [] ∷ new)) → ReadConsumes (Some (bytes_of old)) (Some (bytes_of new)) result now
reads_bytes (Ok count) old new buf now Waits is copied left comes waits =
    let few : count ≤ length (first_piece old) = omega (arith, is, min-le_left (length (first_piece old)) (length buf)) in
    let source : bytes_of old ≡ take count now ++ bytes_of new =
    bytes_after count old few ∙ ap (λ (l : List ℕ). l ++ bytes_of (pieces_after count old))
    (sym (copied_front count (first_piece old) (drop count buf) now few copied))
    ∙ ap (λ (p : List (List ℕ)). take count now ++ bytes_of p) (sym left) in (
      source,
      λ none room.
          let same : length now ≡ length buf = ap length (copied ∙ ap (λ (n : ℕ). take n (first_piece old) ++ drop n buf) none) in
          let empty : length (first_piece old) ≡ 0 = omega (arith, is, none, room, same) in
          ap bytes_of left ∙ none_left count old comes empty,
    )
reads_bytes (Err error) old new buf now Waits is copied left comes waits = sym (ap bytes_of waits.1)
