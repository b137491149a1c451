-- What stays known of a line as it grows, and as it is taken one piece after another.
use Rattle.std.proofs.Common.{◌≡◌, ℕ, zero, suc, ◌+◌, ◌-◌, ◌<◌, ◌≤◌, min, List, [], ◌∷◌, ◌++◌, length, take, refl, sym, ap, ◌∙◌, arith, append-nil, append_assoc, length-append, ◌≢◌, Option, None, Some, OnSome, subst, eq-eqb, eqb-true, get_or-take}
use Rattle.std.proofs.lemmas.List.{take_min, take_all, take-take, length-take, take_more}
use Rattle.std.proofs.lemmas.List.Elements.{All-nil, All-append, All-from_get_or}
use Rattle.std.specs.Io.KnownBytes.{Consumes}
use Rattle.std.proofs.KnownBytes.{Consumes-nil, Consumes-trans}
use Rattle.memchr.specs.Find.{IsFirstByte, is_byte}
use Rattle.pn_line.specs.Line.{LineBufferValue, with_bytes, so_far, kept_bytes, max_kept, Takes, Splits, IsUnbroken}
use Rattle.pn_line.specs.declared.line_buffer.TheConstants.{MAX_LINE_BYTES, MAX_KEPT_BYTES}

-- What stays known of a line as it grows.

-- two lines that keep the same bytes and as many bytes
same_line : (f g : List ℕ) (m n : ℕ) → f ≡ g → m ≡ n → (let r : LineBufferValue = record { bytes = f; count = m } in r) ≡ record { bytes = g; count = n }
same_line f g m n fronts counts = cc

-- a line that takes what its capacity allows
pub with_bytes-filled : (line : LineBufferValue) (bs new : List ℕ) (m : ℕ) → m ≡ min (length bs) (max_kept - length line.bytes) → new ≡ line.bytes ++ take m bs
    → record { bytes = new; count = line.count + length bs } ≡ with_bytes line bs
with_bytes-filled line bs new m least filled =
    let free = max_kept - length line.bytes in
    let turned : min (length bs) free ≡ min free (length bs) = omega arith in
    let taken : take m bs ≡ take free bs = ap (λ k. take k bs) (least ∙ turned) ∙ take_min free bs in
    same_line _ _ _ _ (filled ∙ ap (λ l. line.bytes ++ l) taken) refl

-- no byte more
pub with_bytes-nil : (line : LineBufferValue) → with_bytes line [] ≡ line
with_bytes-nil line = same_line _ _ _ _ (ap (λ l. line.bytes ++ l) (take_all (max_kept - length line.bytes) [] (omega arith)) ∙ append-nil line.bytes) (omega arith)

-- the first bytes of two lists, one after the other
take-append_split : (n : ℕ) (a b : List ℕ) → take n (a ++ b) ≡ take n a ++ take (n - length a) b
take-append_split zero a b = let none : zero - length a ≡ zero = omega arith in sym (ap (λ k. take k b) none)
take-append_split (suc n) [] b = let all : suc n ≡ suc n - zero = omega arith in ap (λ k. take k b) all
take-append_split (suc n) (x ∷ a) b =
    let next : n - length a ≡ suc n - suc (length a) = omega arith in
    ap (λ l. x ∷ l) (take-append_split n a b ∙ ap (λ k. take n a ++ take k b) next)

-- some bytes and then others
pub with_bytes-append : (line : LineBufferValue) (a b : List ℕ) → with_bytes (with_bytes line a) b ≡ with_bytes line (a ++ b)
with_bytes-append line a b =
    let free = max_kept - length line.bytes in
    let left : max_kept - length (line.bytes ++ take free a) ≡ free - length a =
    omega (arith, length-append line.bytes (take free a), length-take free a) in
    same_line _ _ _ _
    (append_assoc line.bytes (take free a) _ ∙ ap (λ k. line.bytes ++ (take free a ++ take k b)) left ∙ ap (λ l. line.bytes ++ l) (sym (take-append_split free a b)))
    (omega (arith, length-append a b))

-- a whole line that goes on
pub so_far-append : (line bs : List ℕ) → with_bytes (so_far line) bs ≡ so_far (line ++ bs)
so_far-append line bs =
    let left : max_kept - length (take max_kept line) ≡ max_kept - length line = omega (arith, length-take max_kept line) in
    same_line _ _ _ _
    (ap (λ k. take max_kept line ++ take k bs) left ∙ sym (take-append_split max_kept line bs))
    (omega (arith, length-append line bs))

-- a line that is not too long is kept whole
pub kept_bytes-short : (line : List ℕ) → length line ≤ MAX_LINE_BYTES → kept_bytes line ≡ line
unfolding max_kept
kept_bytes-short line short = take_all MAX_KEPT_BYTES line (omega arith)

-- of no byte none is kept
pub kept_bytes-nil : kept_bytes [] ≡ []
kept_bytes-nil = take_all max_kept [] (omega arith)

-- of a line that is too long more is kept than a line may have
pub length-kept_bytes_long : (line : List ℕ) → MAX_LINE_BYTES < length line → length (kept_bytes line) ≡ MAX_KEPT_BYTES
unfolding max_kept
length-kept_bytes_long line long = length-take MAX_KEPT_BYTES line ∙ omega arith

-- what is kept of what is kept
pub kept_bytes-kept_bytes : (line : List ℕ) → kept_bytes (kept_bytes line) ≡ kept_bytes line
kept_bytes-kept_bytes line = take-take max_kept max_kept line (omega arith)

-- How what was taken for a line joins, one piece after another.

-- before the first piece nothing is taken
pub Takes-none : (line : LineBufferValue) (a : Option (List ℕ)) → Takes line line a a []
Takes-none line a = record { taken = []; unbroken = All-nil (λ b. b ≢ 10); line = sym (with_bytes-nil line); source = Consumes-nil a }

-- some bytes of the line, and then others with what is after them
pub Takes-trans : {l m n : LineBufferValue} {a b c : Option (List ℕ)} {after : List ℕ} → Takes l m a b [] → Takes m n b c after → Takes l n a c after
Takes-trans {l = l} {a = a} {b = b} {c = c} {after = after} first second =
    let P : List ℕ → Type 0 = Consumes a c in
    record {
      taken = first.taken ++ second.taken;
      unbroken = All-append (λ b. b ≢ 10) _ _ first.unbroken second.unbroken;
      line = second.line ∙ ap (λ line. with_bytes line second.taken) first.line ∙ with_bytes-append l first.taken second.taken;
      source = subst P (ap (λ l. l ++ (second.taken ++ after)) (append-nil first.taken) ∙ sym (append_assoc first.taken second.taken after))
          (Consumes-trans a b c _ _ first.source second.source);
    }

-- what holds of known bytes holds where both parts of them are known
pub known_before : (P : Type 0) (first between : Option (List ℕ)) (bs : List ℕ) → Consumes first between bs → OnSome between P → OnSome first P
known_before P None between bs consumed holds = tt
known_before P (Some xs) None bs consumed holds = absurd consumed
known_before P (Some xs) (Some ys) bs consumed holds = holds

-- of known bytes nothing is asked
pub on_any : (known : Option (List ℕ)) → OnSome known (Unit {0})
on_any None = tt
on_any (Some bytes) = tt

-- What a search for a newline says of the bytes before it.

-- before the first newline there is none
IsUnbroken-before : (hay : List ℕ) (at : ℕ) → IsFirstByte (is_byte 10) hay (Some at) → IsUnbroken (take at hay)
IsUnbroken-before hay at found =
    All-from_get_or (λ b. b ≢ 10) (take at hay) 0
    (λ k below is.
    let before : k < at = omega (arith, length-take at hay) in
    found.0.before k (omega arith) before (eq-eqb _ _ (sym (get_or-take at hay k 0 before) ∙ is)))

-- the bytes before the first newline go to the line
pub Splits-ended : (line new : LineBufferValue) (shown : List ℕ) (m at : ℕ) → IsFirstByte (is_byte 10) (take m shown) (Some at) → new ≡ with_bytes line (take at (take m shown))
    → Splits line new (take (at + 1) shown) (10 ∷ [])
Splits-ended line new shown m at found grown =
    let window = take m shown in
    let below : at + 1 ≤ m = omega (arith, found.0.high, length-take m shown) in
    record {
      taken = take at window;
      unbroken = IsUnbroken-before window at found;
      line = grown;
      whole = sym (take-take (at + 1) m shown below) ∙ take_more window at 0 found.0.high ∙ ap (λ b. take at window ++ b ∷ []) (eqb-true _ _ found.1);
    }
