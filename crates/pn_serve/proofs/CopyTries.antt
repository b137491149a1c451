-- How much of a text is read after a faulty line.
use Rattle.std.proofs.Common.{Bool, Option, Some, ◌≡◌, ℕ, ◌+◌, ◌-◌, ◌*◌, ◌/◌, ◌^◌, ◌<◌, ◌≤◌, true, false, List, [], ◌∷◌, ◌++◌, length, min, max, take, drop, sym, ap, ◌∙◌, subst, ⊎_elim, append-nil, arith, length-append}
use Rattle.std.proofs.lemmas.Bool.{cases_lt}
use Rattle.std.proofs.lemmas.List.{take-append-drop, take-append-le}
use Rattle.std.proofs.Math.Seq.{take-append-add, take-append_seam}
use Rattle.pn_line.specs.Line.{max_line_bytes}
use Rattle.pn_tablet.specs.CopyReading.{copy_at}
use Rattle.pn_serve.specs.Copies.Faulty.{EndsSoon, has_faulty_line}
use Rattle.pn_serve.specs.Copies.Cutting.{AddsLine, AddsNone, AddsPart}
use Rattle.pn_serve.specs.declared.copies.reading.TheConstants.{FIRST_BYTES, PART}
use Rattle.pn_serve.proofs.CopyCuts.{faulty_still}
use Rattle.pn_serve.proofs.CopyTexts.{Gathered}

-- the fronts of the text that have faulty lines are long beside what it is to have at the next look
pub record IsTried (due : ℕ) (text : List ℕ) : Type 0 where
  pub waits : length text < due
  pub grown : due ≤ max FIRST_BYTES (2 * length text)
  pub fronts : (front more : List ℕ) → text ≡ front ++ more → has_faulty_line (copy_at front) ≡ true → due ≤ max FIRST_BYTES (2 * PART * length front)

-- a front of a text that is no longer than another one is a front of that
inside : (text line front more : List ℕ) → text ++ line ≡ front ++ more → length front ≤ length text → text ≡ front ++ drop (length front) text
inside text line front more is short =
    let first : take (length front) text ≡ front = sym (take-append-le (length front) text line short) ∙ ap (take (length front)) is ∙ take-append_seam front more in
    sym (take-append-drop (length front) text) ∙ ap (λ (l : List ℕ). l ++ drop (length front) text) first

longer_front : (text front more : List ℕ) (k : ℕ) → text ≡ front ++ more → length front ≤ k → take k text ≡ front ++ take (k - length front) more
longer_front text front more k is short =
    let sum : k ≡ length front + (k - length front) = omega arith in
    ap (λ n. take n text) sum ∙ ap (take (length front + (k - length front))) is ∙ take-append-add front more (k - length front)

pub tried-none : (due : ℕ) → due ≡ FIRST_BYTES → IsTried due []
tried-none due is = record {
  waits = omega (arith, is);
  grown = omega (arith, is);
  fronts = λ front more same faulty. omega (arith, is);
}

-- a line more, at which nothing was looked at
pub tried-wait : (due : ℕ) (text line : List ℕ) → IsTried due text → length (text ++ line) < due → IsTried due (text ++ line)
tried-wait due text line tried waits = record {
  waits = waits;
  grown = let all = length-append text line in let so = tried.grown in omega (arith, all, so);
  fronts = λ front more same faulty.
      ⊎_elim
      (λ (long : length text < length front). let so = tried.grown in omega (arith, long, so))
      (λ (short : length front ≤ length text). tried.fronts front (drop (length front) text) (inside text line front more same short) faulty)
      (cases_lt (length text) (length front));
}

-- a line more, and then its front was looked at, and was right
pub tried-look : (due : ℕ) (text : List ℕ) → due ≡ min (length text * 2) (2 ^ 64 - 1) → 0 < length text → length text < 2 ^ 64 - 1 → has_faulty_line (copy_at (take (length text / PART) text)) ≡ false → IsTried due text
tried-look due text is some few right = record {
  waits = omega (arith, is, some, few);
  grown = omega (arith, is);
  fronts = λ front more same faulty.
      ⊎_elim
      (λ (long : length text / PART < length front). omega (arith, is, long))
      (λ (short : length front ≤ length text / PART).
      let still : has_faulty_line (copy_at (take (length text / PART) text)) ≡ true =
      ap (λ (t : List ℕ). has_faulty_line (copy_at t)) (longer_front text front more (length text / PART) same short) ∙ faulty_still front (take (length text / PART - length front) more) faulty in
      absurd (cc))
      (cases_lt (length text / PART) (length front));
}

-- the text that is cut out with a line more
pub ends_soon : (due : ℕ) (text line : List ℕ) → IsTried due text → length line ≤ max_line_bytes + 1 → EndsSoon (text ++ line)
ends_soon due text line tried short front more same faulty =
    let all = length-append text line in
    ⊎_elim
    (λ (long : length text < length front). omega (arith, all, long, short))
    (λ (within : length front ≤ length text).
    let so = tried.fronts front (drop (length front) text) (inside text line front more same within) faulty in
    let waits = tried.waits in
    omega (arith, all, short, so, waits))
    (cases_lt (length text) (length front))

-- ---- lines that are read

module _ (due : ℕ) (bytes text new : List ℕ) (count : ℕ) (left leaves : Option (List ℕ)) (so_far : Gathered bytes text count left) (tried : IsTried due text) where
  pub soon-line : (ends : Bool) → ((rest : List ℕ) → left ≡ Some rest → AddsLine ends text new rest leaves) → EndsSoon new
  soon-line ends adds =
      let line = adds so_far.rest so_far.leaves_is in
      let short = line.line_is.short in
      let size = length-append line.line (10 ∷ []) in
      subst EndsSoon (sym line.text_is) (ends_soon due text (line.line ++ 10 ∷ []) tried (omega (arith, short, size)))

  pub soon-part : ((rest : List ℕ) → left ≡ Some rest → AddsPart text new rest leaves) → EndsSoon new
  soon-part adds =
      let part = adds so_far.rest so_far.leaves_is in
      let short = part.short in
      subst EndsSoon (sym part.text_is) (ends_soon due text so_far.rest tried (omega (arith, short)))

  pub soon-none : ((rest : List ℕ) → left ≡ Some rest → AddsNone text new rest leaves) → EndsSoon new
  soon-none adds =
      let none = adds so_far.rest so_far.leaves_is in
      subst EndsSoon (append-nil text ∙ sym none.text_is) (ends_soon due text [] tried (omega arith))

  pub tried-line : (next : ℕ) → ((rest : List ℕ) → left ≡ Some rest → AddsLine false text new rest leaves) → 0 < length new → length new < 2 ^ 64 - 1
      → (due ≤ length new → has_faulty_line (copy_at (take (length new / PART) new)) ≡ false) → (due ≤ length new → next ≡ min (length new * 2) (2 ^ 64 - 1)) → (length new < due → next ≡ due) → IsTried next new
  tried-line next adds some few right later waits =
      let line = adds so_far.rest so_far.leaves_is in
      ⊎_elim
      (λ (before : length new < due).
      let size : length (text ++ (line.line ++ 10 ∷ [])) < due = subst (λ (t : List ℕ). length t < due) line.text_is before in
      subst (λ n. IsTried n new) (sym (waits before)) (subst (IsTried due) (sym line.text_is) (tried-wait due text (line.line ++ 10 ∷ []) tried size)))
      (λ (now : due ≤ length new). tried-look next new (later now) some few (right now))
      (cases_lt (length new) due)
