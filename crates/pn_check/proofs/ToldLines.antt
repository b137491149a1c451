-- What is told of lines, which are made a piece at a time and read as their first bytes are.
use Rattle.std.proofs.Common.{◌≡◌, ℕ, ◌<◌, Bool, true, if◌then◌else◌, List, length, inl, inr, Result, Ok, Err, ap, sym, subst, ◌∙◌, arith, ◌≤◌, false, [], drop, length-drop, ◌+◌, ◌∷◌, ◌++◌, Option, None, Some, option_map, unwrap_or, cond, refl, append-nil, length-append}
use Rattle.std.specs.Prelude.{nat_lt, IsTrue, nat_le, filter, is_some}
use Rattle.std.specs.Option.{ok_or}
use Rattle.std.proofs.lemmas.Bool.{cases_lt}
use Rattle.std.proofs.lemmas.Bool.Decides.{nat_tests, leb_tells}
use Rattle.std.proofs.lemmas.List.{drop_all}
use Rattle.std.specs.List.{flat_map}
use Rattle.std.proofs.lemmas.Grind.{flat_map-append}
use Rattle.std.proofs.lemmas.List.Elements.{filter-append}
use Rattle.serde_json.specs.Data.{Data}
use Rattle.pn_line.specs.Line.{kept_bytes, max_line_bytes}
use Rattle.pn_line.proofs.LineLaws.{kept_bytes-short, length-kept_bytes_long}
use Rattle.pn_json.specs.Tokens.{line_of}
use Rattle.pn_record.specs.Reading.{reading, value_at}
use Rattle.pn_record.specs.declared.fault.ImageFault.{ImageFault}
use Rattle.pn_record.specs.declared.fault.ImageFault.TheVariants.{NotJson, TooLong}
use Rattle.pn_lines.specs.Handling.{Replied, one_if}
use Rattle.pn_check.specs.Told.{told, told_read, name_read, told_data, fault_at}
use Rattle.pn_check.specs.Checking.{replied_of, all_told, counted, is_refused, line_told, next, numbered, refused}

-- A line is read as its first bytes are.

value-long : (line : List ℕ) → 65536 < length line → value_at line ≡ Err TooLong
unfolding value_at
value-long line long =
    let test : nat_lt max_line_bytes (length line) ≡ true = grind (arith, nat_tests) in
    ap (λ (b : Bool). if b then Err TooLong else ok_or (reading line) NotJson) test

value-kept : (line : List ℕ) → value_at (kept_bytes line) ≡ value_at line
value-kept line = elim (cases_lt 65536 (length line)) [
  | inl long ↦ value-long (kept_bytes line) (omega (arith, length-kept_bytes_long line long)) ∙ sym (value-long line long)
  | inr short ↦ ap value_at (kept_bytes-short line short)
]

-- what is reported of a line is reported of its first bytes
pub told-kept : (number : ℕ) (bytes line : List ℕ) → bytes ≡ kept_bytes line → told number bytes ≡ told number line
told-kept number bytes line is = ap (told number) is ∙ ap (told_read number) (value-kept line)

-- A text that is made a piece at a time.

-- all is made exactly where nothing is left
pub all_made : (text : List ℕ) (made size : ℕ) → size ≡ length text → (IsTrue (nat_le size made) → drop made text ≡ []) × (drop made text ≡ [] → IsTrue (nat_le size made))
all_made text made size is =
    (λ holds. drop_all made text (omega (arith, is, le_of size made holds)), λ none. le_then size made (omega (arith, is, ap length none, length-drop made text)))
  where
    le_of : (a b : ℕ) → IsTrue (nat_le a b) → a ≤ b
    le_of a b holds = elim (leb_tells a b) [
      | inl is ↦ is.1
      | inr other ↦ absurd (let never : false ≡ true = sym other.0 ∙ holds in cc)
    ]

    le_then : (a b : ℕ) → a ≤ b → IsTrue (nat_le a b)
    le_then a b le = elim (leb_tells a b) [
      | inl is ↦ is.0
      | inr other ↦ absurd (omega (arith, le, other.1))
    ]

-- What is reported of lines, one after another.

-- ---- one line

-- a reply of a fault, if there is one
replied_text : (fault : Option ImageFault) (tell : ImageFault → List ℕ) (show : ℕ × List ℕ → List ℕ) (line : ℕ × List ℕ) → show line ≡ unwrap_or (option_map tell fault) []
    → (replied_of (option_map tell fault)).text ≡ flat_map show (cond (is_some fault) (line ∷ []) [])
replied_text None tell show line is = refl
replied_text (Some fault) tell show line is = sym (append-nil (tell fault)) ∙ ap (λ (l : List ℕ). l ++ []) (sym is)

replied_refusal : (fault : Option ImageFault) (tell : ImageFault → List ℕ) (line : ℕ × List ℕ)
    → one_if (replied_of (option_map tell fault)).refused ≡ length (cond (is_some fault) (line ∷ []) [])
replied_refusal None tell line = refl
replied_refusal (Some fault) tell line = refl

-- the reply to a line
pub reply_text : (count : ℕ) (line : List ℕ) → (replied_of (told (next count) line)).text ≡ all_told count (line ∷ [])
reply_text count line =
    replied_text (fault_at line) (λ fault. line_of (told_data fault (next count) (name_read fault (value_at line)))) line_told (next count, line) refl

pub reply_refuses : (count : ℕ) (line : List ℕ) → one_if (replied_of (told (next count) line)).refused ≡ length (refused count (line ∷ []))
reply_refuses count line =
    replied_refusal (fault_at line) (λ fault. line_of (told_data fault (next count) (name_read fault (value_at line)))) (next count, line)

-- ---- some lines and then others

pub counted-append : (count : ℕ) (lines more : List (List ℕ)) → counted count (lines ++ more) ≡ counted (counted count lines) more
counted-append count [] more = refl
counted-append count (line ∷ lines) more = counted-append (next count) lines more

numbered-append : (count : ℕ) (lines more : List (List ℕ)) → numbered count (lines ++ more) ≡ numbered count lines ++ numbered (counted count lines) more
numbered-append count [] more = refl
numbered-append count (line ∷ lines) more = ap (λ (l : List (ℕ × List ℕ)). (next count, line) ∷ l) (numbered-append (next count) lines more)

pub refused-append : (count : ℕ) (lines more : List (List ℕ)) → refused count (lines ++ more) ≡ refused count lines ++ refused (counted count lines) more
refused-append count lines more = ap (filter is_refused) (numbered-append count lines more) ∙ filter-append is_refused (numbered count lines) (numbered (counted count lines) more)

pub told-append : (count : ℕ) (lines more : List (List ℕ)) → all_told count (lines ++ more) ≡ all_told count lines ++ all_told (counted count lines) more
told-append count lines more = ap (flat_map line_told) (refused-append count lines more) ∙ flat_map-append line_told (refused count lines) (refused (counted count lines) more)

pub many-append : (count : ℕ) (lines more : List (List ℕ)) → length (refused count (lines ++ more)) ≡ length (refused count lines) + length (refused (counted count lines) more)
many-append count lines more = ap length (refused-append count lines more) ∙ length-append (refused count lines) (refused (counted count lines) more)
