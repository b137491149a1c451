-- The value of a line, and lines of images: what is read is an image's line, and an image's line is read.
use Rattle.std.proofs.Common.{◌≡◌, ◌≢◌, ◌⊎◌, inl, inr, ℕ, ◌≤◌, List, length, Bool, true, false, cond, Option, Some, None, Result, Ok, Err, IfOk, IfErr, IsErrOf, ◌↔◌, refl, sym, ap, ◌∙◌, subst, ltb}
use Rattle.std.proofs.lemmas.Bool.{le-ltb, ltb-false}
use Rattle.std.proofs.lemmas.Str.{is_utf8-from_IsUtf8, IsUtf8-from_is_utf8}
use Rattle.std.specs.Option.{ok_or}
use Rattle.std.specs.Str.{IsUtf8, is_utf8}
use Rattle.serde_json.specs.Data.{Data}
use Rattle.serde_json.specs.Read.{read}
use Rattle.serde_json.specs.View.{view}
use Rattle.serde_json.specs.declared.value.Value.{Value}
use Rattle.json.specs.Lex.{tokens}
use Rattle.pn_json.specs.Answers.{◌>>=◌, ShowsUnless, IsUnless}
use Rattle.pn_json.proofs.LookUps.{no_fault, ok_or_ok, right_same}
use Rattle.pn_record.specs.Reading.{reading, value_at, IsLine, image_at, body_rises, IsImage, IsImageLine}
use Rattle.pn_record.specs.Grammar.{IsOfValue, image_in, ranges_in}
use Rattle.pn_record.specs.declared.fault.ImageFault.{ImageFault}
use Rattle.pn_record.specs.declared.fault.ImageFault.TheVariants.{TooLong, NotJson, Memory}
use Rattle.pn_record.specs.Writing.{image_data}
use Rattle.pn_record.specs.declared.records.Image.{Image}
use Rattle.pn_record.proofs.SameImage.{image_from_ranges, image_again}

-- The value of a line, from what `serde_json` says of its bytes, and lines of values that spell something.

-- what `serde_json` reads is the value
pub value_at-read : (line : List ℕ) (d : Data) → length line ≤ 65536 → IsUtf8 line → read line ≡ Some d → value_at line ≡ Ok d
unfolding value_at reading
value_at-read line d fits text is = rw (le-ltb 65536 (length line) fits, is_utf8-from_IsUtf8 line text, is) refl

none_either_way : {A E : Type 0} (b : Bool) (o : Option A) (e : E) → (b ≡ true → o ≡ None) → ok_or (cond b o None) e ≡ Err e
none_either_way true o e none = rw (none refl) refl
none_either_way false o e none = refl

-- what it reads no value in has none
pub value_at-refused : (line : List ℕ) → length line ≤ 65536 → (IsUtf8 line → read line ≡ None) → value_at line ≡ Err NotJson
unfolding value_at reading
value_at-refused line fits none =
    rw (le-ltb 65536 (length line) fits) (none_either_way (is_utf8 line) (read line) NotJson (λ e. none (IsUtf8-from_is_utf8 line e)))

-- why it was refused is right, unless memory ran out
pub refused_right : {A : Type 0} (memory : Type 0) (fault : ImageFault) (right : Result A ImageFault) → ((memory × (fault ≡ Memory)) ⊎ ((¬ memory) × (fault ≡ NotJson))) → (¬ memory → right ≡ Err NotJson) → fault ≢ Memory → right ≡ Err fault
refused_right memory fault right (inl ran_out) refused other = absurd (other ran_out.1)
refused_right memory fault right (inr not_json) refused other = refused not_json.0 ∙ ap Err (sym not_json.1)

-- nor is it the length
pub refused_short : (memory : Type 0) (fault : ImageFault) → ((memory × (fault ≡ Memory)) ⊎ ((¬ memory) × (fault ≡ NotJson))) → fault ≢ TooLong
refused_short memory fault (inl ran_out) is = let both = ran_out.1 in cc
refused_short memory fault (inr not_json) is = let both = not_json.1 in cc

-- ---- lines of values that spell something

module _ {A : Type 0} (IsSpelled : Data → A → Type 0) where
  -- a line whose value spells it
  pub line_found : (line : List ℕ) (d : Data) (meant : A) → value_at line ≡ Ok d → IsSpelled d meant → IsLine IsSpelled line meant
  unfolding value_at
  line_found line d meant value is =
      let parts = no_fault (ltb 65536 (length line)) TooLong (ok_or (reading line) NotJson) d value in
      record { short = ltb-false _ _ parts.0; value = d; read = ok_or_ok (reading line) NotJson d parts.1; spelled = is }

  -- the same of what was answered
  pub answer_found : (line : List ℕ) (d : Data) (answer : Result A ImageFault) → value_at line ≡ Ok d → IfOk answer (λ meant. IsSpelled d meant) → IfOk answer (λ meant. IsLine IsSpelled line meant)
  answer_found line d (Ok meant) value is = line_found line d meant value is
  answer_found line d (Err fault) value is = tt

  module _ (reads : Data → Result A ImageFault) (again : (d : Data) (meant : A) → IsSpelled d meant → reads d ≡ Ok meant) where
    -- such a line is read as what it spells
    pub line_again : (line : List ℕ) (meant : A) → IsLine IsSpelled line meant → (value_at line >>= reads) ≡ Ok meant
    unfolding value_at
    line_again line meant is = rw (le-ltb 65536 (length line) is.short, is.read) (again is.value meant is.spelled)

    same_ok : (a b : A) → ◌≡◌ {A = Result A ImageFault} (Ok a) (Ok b) → a ≡ b
    same_ok a b is = cc

    -- and no line spells two
    pub line_unique : (line : List ℕ) (one other : A) → IsLine IsSpelled line one → IsLine IsSpelled line other → one ≡ other
    line_unique line one other first second = same_ok one other (sym (line_again line one first) ∙ line_again line other second)

-- ---- what was answered of what was read

fault_same : {A : Type 0} (fault other : ImageFault) → ◌≡◌ {A = Result A ImageFault} (Err fault) (Err other) → fault ≡ other
fault_same fault other is = cc

not_long : {A : Type 0} (answer : Result A ImageFault) → IfErr answer IsOfValue → answer ≡ Err TooLong → ⊥
not_long (Ok meant) faults is = cc
not_long {A = A} (Err fault) faults is = subst IsOfValue (fault_same {A = A} fault TooLong is) faults

module _ {A : Type 0} (IsSpelled : Data → A → Type 0) (reads : Data → Result A ImageFault) (line : List ℕ) where
  -- what was found in the value was found in the line
  pub found_in_line : (read : Result Value ImageFault) (answer : Result A ImageFault) → ShowsUnless Memory view read (value_at line)
      → IfOk read (λ value. IfOk answer (λ meant. IsSpelled (view value) meant)) → IfErr read (λ fault. answer ≡ Err fault) → IfOk answer (λ meant. IsLine IsSpelled line meant)
  found_in_line (Ok value) answer exact found unread = answer_found IsSpelled line (view value) answer exact found
  found_in_line (Err fault) answer exact found unread = subst (λ (a : Result A ImageFault). IfOk a (λ meant. IsLine IsSpelled line meant)) (sym unread) tt

  -- what is right of the value is right of the line
  pub right_of_line : (read : Result Value ImageFault) (answer : Result A ImageFault) → ShowsUnless Memory view read (value_at line)
      → IfOk read (λ value. IsUnless Memory answer (reads (view value))) → IfErr read (λ fault. answer ≡ Err fault) → IsUnless Memory answer (value_at line >>= reads)
  right_of_line (Ok value) answer exact right unread = right_same Memory (λ (meant : A). meant) answer (reads (view value)) (value_at line >>= reads) right (ap (λ (r : Result Data ImageFault). r >>= reads) (sym exact))
  right_of_line (Err fault) answer exact right unread =
      subst (λ (a : Result A ImageFault). IsUnless Memory a (value_at line >>= reads)) (sym unread) (λ other. ap (λ (r : Result Data ImageFault). r >>= reads) (exact other))

  -- and the line is too long where it was too long to be read
  pub long_by_reading : (long : Type 0) (read : Result Value ImageFault) (answer : Result A ImageFault) → (IsErrOf read TooLong ↔ long)
      → IfOk read (λ value. IfErr answer IsOfValue) → IfErr read (λ fault. answer ≡ Err fault) → IsErrOf answer TooLong ↔ long
  long_by_reading long (Ok value) answer too_long faults unread = (λ is. absurd (not_long answer faults is), λ over. let read_long = too_long.1 over in cc)
  long_by_reading long (Err fault) answer too_long faults unread =
      (λ is. too_long.0 (ap Err (fault_same {A = A} fault TooLong (sym unread ∙ is))), λ over. unread ∙ ap Err (fault_same {A = Value} fault TooLong (too_long.1 over)))

-- Lines of images: what is read is an image's line, and an image's line is read.

-- a shape that breaks no range is an image
pub image_found : (d : Data) (image : Image) → d ≡ image_data image → body_rises image.content.0 ≡ true → ranges_in image ≡ Ok tt → IsImage d image
image_found d image is rise fits = record { value = is; limits = image_from_ranges image fits rise }

-- an image's line is read as the image
pub image_line_again : (line : List ℕ) (image : Image) → IsImageLine line image → image_at line ≡ Ok image
unfolding image_at
image_line_again line image is = line_again IsImage image_in image_again line image is

pub image_at-value_at : (one other : List ℕ) → value_at one ≡ value_at other → image_at one ≡ image_at other
unfolding image_at
image_at-value_at one other same = ap (λ r. r >>= image_in) same

-- lines of the same tokens have one value
pub value_at-tokens : (one other : List ℕ) → length one ≤ 65536 → length other ≤ 65536 → IsUtf8 one → IsUtf8 other → tokens one ≡ tokens other → value_at one ≡ value_at other
unfolding value_at reading
value_at-tokens one other short_one short_other text_one text_other same =
    rw (le-ltb 65536 (length one) short_one, le-ltb 65536 (length other) short_other, is_utf8-from_IsUtf8 one text_one, is_utf8-from_IsUtf8 other text_other, same) refl
