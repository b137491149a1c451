-- What is read of a copy's lines in chunks is what is read of them one by one.
use Rattle.std.proofs.Common.{◌≡◌, ℕ, false, suc, ◌+◌, ◌-◌, ◌≤◌, List, [], ◌∷◌, ◌++◌, ◌⊎◌, inl, inr, length, drop, All, Result, Ok, Err, refl, sym, ap, ◌∙◌, subst, append_assoc, append-nil, length-append, arith}
use Rattle.std.proofs.Math.Seq.{drop-append_seam, drop-append-add}
use Rattle.std.proofs.lemmas.List.{drop-append-le, drop_all}
use Rattle.std.proofs.lemmas.List.Elements.{All-head, All-tail, All-nil, All-cons, All-append}
use Rattle.pn_line.specs.Line.{IsUnbroken}
use Rattle.pn_line.specs.Text.{text_of}
use Rattle.pn_line.proofs.TextLaws.{text_of-nil, text_of-append}
use Rattle.pn_json.specs.Answers.{◌>>=◌}
use Rattle.pn_record.specs.declared.records.Image.{Image}
use Rattle.pn_tablet.specs.Copies.{TabletCopyValue, DraftValue}
use Rattle.pn_tablet.specs.CopyReading.{IsMarkOrImage, IsLineOf, BeginsWith, AddsLine, says_end, line_at, pieces_of, with_line, with_lines, read_on}
use Rattle.pn_tablet.specs.CopyTexts.{AreLines}
use Rattle.pn_tablet.specs.declared.copy.Form.{Form}
use Rattle.pn_tablet.specs.declared.copy_line.CopyLine.{CopyLine}
use Rattle.pn_tablet.specs.declared.copy_line.CopyLine.TheVariants.{Mark, Record, End}
use Rattle.pn_tablet.specs.declared.fault.CopyTextFault.{CopyTextFault}
use Rattle.pn_tablet.specs.declared.fault.CopyTextFault.TheVariants.{BadLine}
use Rattle.pn_tablet.proofs.CopySteps.{pieces_of-text, pieces_of-some, read_on-cons, then_ok, then_err, mark_position}
use Rattle.pn_tablet.proofs.CopyTextFacts.{some_then, text_cut, joined, joined-cons, joined-pieces_of, unbroken-pieces_of}
use Rattle.pn_tablet.proofs.CopyValues.{line_at-again, line_at-found}

-- ---- one line after another

then_same : {A B E : Type 0} (read : Result A E) (next other : A → Result B E) → ((a : A) → next a ≡ other a) → (read >>= next) ≡ (read >>= other)
then_same (Ok a) next other same = same a
then_same (Err fault) next other same = refl

then_then : {A B C E : Type 0} (read : Result A E) (next : A → Result B E) (last : B → Result C E) → ((read >>= next) >>= last) ≡ (read >>= (λ a. next a >>= last))
then_then (Ok a) next last = refl
then_then (Err fault) next last = refl

pub with_lines-nil : (n : ℕ) (draft : DraftValue) → with_lines n draft [] ≡ Ok draft
unfolding with_lines
with_lines-nil n draft = refl

pub with_lines-cons : (n : ℕ) (draft : DraftValue) (says : CopyLine) (more : List CopyLine) → with_lines n draft (says ∷ more) ≡ (with_line n draft says >>= (λ longer. with_lines (n + 1) longer more))
unfolding with_lines
with_lines-cons n draft says more = refl

-- a line that is taken, and one that has a fault
pub with_lines-ok : (n : ℕ) (draft longer : DraftValue) (says : CopyLine) (more : List CopyLine) → with_line n draft says ≡ Ok longer → with_lines n draft (says ∷ more) ≡ with_lines (n + 1) longer more
with_lines-ok n draft longer says more is = with_lines-cons n draft says more ∙ then_ok (with_line n draft says) (λ d. with_lines (n + 1) d more) longer is

pub with_lines-err : (n : ℕ) (draft : DraftValue) (says : CopyLine) (more : List CopyLine) (fault : CopyTextFault) → with_line n draft says ≡ Err fault → with_lines n draft (says ∷ more) ≡ Err fault
with_lines-err n draft says more fault is = with_lines-cons n draft says more ∙ rw is refl

-- the lines that say marks and images are read as these are added
module _ (form : Form) (rest : List ℕ) where
  line_taken : (line : List ℕ) (lines : List (List ℕ)) (n : ℕ) (draft : DraftValue) (says : CopyLine) (more : List CopyLine)
      → read_on form n draft (line ∷ (lines ++ pieces_of rest)) ≡ (with_line n draft says >>= (λ longer. read_on form (n + 1) longer (lines ++ pieces_of rest)))
      → ((longer : DraftValue) → read_on form (n + 1) longer (lines ++ pieces_of rest) ≡ (with_lines (n + 1) longer more >>= (λ last. read_on form (n + 1 + length more) last (pieces_of rest))))
      → read_on form n draft (line ∷ (lines ++ pieces_of rest)) ≡ (with_lines n draft (says ∷ more) >>= (λ last. read_on form (n + suc (length more)) last (pieces_of rest)))
  line_taken line lines n draft says more first later =
      let next : DraftValue → Result TabletCopyValue CopyTextFault = λ longer. read_on form (n + 1) longer (lines ++ pieces_of rest) in
      let end : DraftValue → Result TabletCopyValue CopyTextFault = λ last. read_on form (n + suc (length more)) last (pieces_of rest) in
      let number : n + 1 + length more ≡ n + suc (length more) = omega arith in
      first
      ∙ then_same (with_line n draft says) next (λ longer. with_lines (n + 1) longer more >>= end)
      (λ longer. later longer ∙ ap (λ (m : ℕ). with_lines (n + 1) longer more >>= (λ last. read_on form m last (pieces_of rest))) number)
      ∙ sym (then_then (with_line n draft says) (λ longer. with_lines (n + 1) longer more) end)
      ∙ ap (λ (added : Result DraftValue CopyTextFault). added >>= end) (sym (with_lines-cons n draft says more))

  pub lines_read : (lines : List (List ℕ)) (n : ℕ) (draft : DraftValue) (says : List CopyLine) → AreLines form lines says → All IsMarkOrImage says
      → read_on form n draft (lines ++ pieces_of rest) ≡ (with_lines n draft says >>= (λ last. read_on form (n + length says) last (pieces_of rest)))
  lines_read [] n draft [] are kinds =
      let same : n ≡ n + 0 = omega arith in
      ap (λ (m : ℕ). read_on form m draft (pieces_of rest)) same
      ∙ ap (λ (added : Result DraftValue CopyTextFault). added >>= (λ last. read_on form (n + 0) last (pieces_of rest))) (sym (with_lines-nil n draft))
  lines_read [] n draft (says ∷ more) are kinds = absurd are
  lines_read (line ∷ lines) n draft [] are kinds = absurd are
  lines_read (line ∷ lines) n draft (Mark name position ∷ more) are kinds =
      let (piece, others, some) = some_then lines rest in
      line_taken line lines n draft (Mark name position) more
      (read_on-cons form n draft line piece (lines ++ pieces_of rest) others some
      ∙ then_ok _ _ (Mark name position) (line_at-again (BadLine n) form line (Mark name position) are.0))
      (λ longer. lines_read lines (n + 1) longer more are.1 (All-tail IsMarkOrImage (Mark name position) more kinds))
  lines_read (line ∷ lines) n draft (Record image ∷ more) are kinds =
      let (piece, others, some) = some_then lines rest in
      line_taken line lines n draft (Record image) more
      (read_on-cons form n draft line piece (lines ++ pieces_of rest) others some
      ∙ then_ok _ _ (Record image) (line_at-again (BadLine n) form line (Record image) are.0))
      (λ longer. lines_read lines (n + 1) longer more are.1 (All-tail IsMarkOrImage (Record image) more kinds))
  lines_read (line ∷ lines) n draft (End count ∷ more) are kinds = absurd (All-head IsMarkOrImage (End count) more kinds)

pub none_left : (says : List CopyLine) → length says ≡ 0 → says ≡ []
none_left [] none = refl
none_left (line ∷ says) none = absurd (omega (arith, none))

-- a line that says a mark or an image
mark_said : (form : Form) (fault : CopyTextFault) (line name : List ℕ) (position : ℕ) → line_at form fault line ≡ Ok (Mark name position) → IsLineOf form line (Mark name position)
mark_said form fault line name position is = (line_at-found fault form line (Mark name position) is, mark_position form fault line name position is)

image_said : (form : Form) (fault : CopyTextFault) (line : List ℕ) (image : Image) → line_at form fault line ≡ Ok (Record image) → IsLineOf form line (Record image)
image_said form fault line image is = (line_at-found fault form line (Record image) is, tt)

-- a line that does not say the end
pub line_said : (form : Form) (fault : CopyTextFault) (line : List ℕ) (says : CopyLine) → line_at form fault line ≡ Ok says → says_end says ≡ false → IsLineOf form line says
line_said form fault line (Mark name position) is other = mark_said form fault line name position is
line_said form fault line (Record image) is other = image_said form fault line image is
line_said form fault line (End count) is other = absurd (cc)

-- ---- the first lines of a text

module _ (form : Form) (text : List ℕ) (says : List CopyLine) (rest : List ℕ) (is : BeginsWith form text says rest) where
  -- the text is read as what its first lines say is added, and then the rest
  pub begun : (draft : DraftValue) → read_on form 2 draft (pieces_of text) ≡ (with_lines 2 draft says >>= (λ longer. read_on form (2 + length says) longer (pieces_of rest)))
  begun draft =
      ap (read_on form 2 draft) (ap pieces_of is.text_is ∙ pieces_of-text is.lines rest is.unbroken)
      ∙ lines_read form rest is.lines 2 draft says is.lines_are is.kinds

  -- what the first lines say is added, and the reading goes on
  pub taken_then : (draft longer : DraftValue) (number : ℕ) (after : List ℕ) → with_lines 2 draft says ≡ Ok longer → number ≡ 2 + length says → after ≡ rest → read_on form 2 draft (pieces_of text) ≡ read_on form number longer (pieces_of after)
  taken_then draft longer number after added count same =
      begun draft ∙ then_ok (with_lines 2 draft says) (λ last. read_on form (2 + length says) last (pieces_of rest)) longer added
      ∙ (λ i. read_on form (sym count i) longer (pieces_of (sym same i)))

  -- or one of them has a fault
  pub refused_then : (draft : DraftValue) (fault : CopyTextFault) → with_lines 2 draft says ≡ Err fault → read_on form 2 draft (pieces_of text) ≡ Err fault
  refused_then draft fault added = begun draft ∙ then_err (with_lines 2 draft says) (λ last. read_on form (2 + length says) last (pieces_of rest)) fault added

  -- the rest is what is left after the bytes of the lines
  pub left : drop (length text - length rest) text ≡ rest
  left =
      let all : length text ≡ length (text_of is.lines) + length rest = ap length is.text_is ∙ length-append (text_of is.lines) rest in
      let taken : length text - length rest ≡ length (text_of is.lines) = omega (arith, all) in
      ap (λ n. drop n text) taken ∙ ap (drop (length (text_of is.lines))) is.text_is ∙ drop-append_seam (text_of is.lines) rest

-- nothing is read yet
pub none_read : (form : Form) (text : List ℕ) (says : List CopyLine) → says ≡ [] → BeginsWith form text says text
none_read form text says none = record {
  lines = [];
  text_is = ap (λ t. t ++ text) (sym text_of-nil);
  unbroken = All-nil IsUnbroken;
  lines_are = subst (AreLines form []) (sym none) tt;
  kinds = subst (All IsMarkOrImage) (sym none) (All-nil IsMarkOrImage);
}

-- the first line of a text, cut off
cut_off : (text line rest : List ℕ) → pieces_of text ≡ line ∷ pieces_of rest → IsUnbroken line × (text ≡ line ++ 10 ∷ rest)
cut_off text line rest cut =
    let (piece, more, some) = pieces_of-some rest in (
      All-head IsUnbroken line (pieces_of rest) (subst (All IsUnbroken) cut (unbroken-pieces_of text)),
      sym (joined-pieces_of text) ∙ ap joined cut ∙ joined-cons line (pieces_of rest) more piece some ∙ ap (λ t. line ++ 10 ∷ t) (joined-pieces_of rest),
    )

are_append : (form : Form) (lines others : List (List ℕ)) (says more : List CopyLine) → AreLines form lines says → AreLines form others more → AreLines form (lines ++ others) (says ++ more)
are_append form [] others [] more first second = second
are_append form [] others (said ∷ says) more first second = absurd first
are_append form (line ∷ lines) others [] more first second = absurd first
are_append form (line ∷ lines) others (said ∷ says) more first second = (first.0, are_append form lines others says more first.1 second)

-- one line more is read
pub one_read : (form : Form) (text rest line after : List ℕ) (says new : List CopyLine) → BeginsWith form text says rest → pieces_of rest ≡ line ∷ pieces_of after → AddsLine form line says new → BeginsWith form text new after
one_read form text rest line after says new was cut adds =
    let off = cut_off rest line after cut in
    record {
      lines = was.lines ++ line ∷ [];
      text_is = was.text_is ∙ ap (λ t. text_of was.lines ++ t) off.1 ∙ sym (text_cut was.lines line after);
      unbroken = All-append IsUnbroken was.lines (line ∷ []) was.unbroken (All-cons IsUnbroken line [] off.0 (All-nil IsUnbroken));
      lines_are = subst (AreLines form (was.lines ++ line ∷ [])) (sym adds.grown) (are_append form was.lines (line ∷ []) says (adds.said ∷ []) was.lines_are (adds.line_is.0, tt));
      kinds = subst (All IsMarkOrImage) (sym adds.grown) (All-append IsMarkOrImage says (adds.said ∷ []) was.kinds (All-cons IsMarkOrImage adds.said [] adds.line_is.1 (All-nil IsMarkOrImage)));
    }

-- ---- one chunk after another

module _ (form : Form) (low high : List ℕ) (one other : List CopyLine) (taken : ℕ) where
  -- of the first chunk, lines are left
  first_alone : taken ≤ length low → BeginsWith form low one (drop taken low) → BeginsWith form (low ++ high) one (drop taken (low ++ high))
  first_alone within first = record {
    lines = first.lines;
    text_is = ap (λ t. t ++ high) first.text_is ∙ append_assoc (text_of first.lines) (drop taken low) high ∙ ap (λ t. text_of first.lines ++ t) (sym (drop-append-le taken low high within));
    unbroken = first.unbroken;
    lines_are = first.lines_are;
    kinds = first.kinds;
  }

  -- it was read whole, and the lines of the second follow
  both_read : (second : ℕ) → length low ≤ taken → BeginsWith form low one (drop taken low) → BeginsWith form high other (drop second high)
      → BeginsWith form (low ++ high) (one ++ other) (drop (length low + second) (low ++ high))
  both_read second whole first next =
      let all : low ≡ text_of first.lines = first.text_is ∙ ap (λ t. text_of first.lines ++ t) (drop_all taken low whole) ∙ append-nil (text_of first.lines) in
      record {
        lines = first.lines ++ next.lines;
        text_is = ap (λ t. low ++ t) next.text_is ∙ sym (append_assoc low (text_of next.lines) (drop second high)) ∙ ap (λ t. (t ++ text_of next.lines) ++ drop second high) all
            ∙ ap (λ t. t ++ drop second high) (sym (text_of-append first.lines next.lines)) ∙ ap (λ t. text_of (first.lines ++ next.lines) ++ t) (sym (drop-append-add low high second));
        unbroken = All-append IsUnbroken first.lines next.lines first.unbroken next.unbroken;
        lines_are = are_append form first.lines next.lines one other first.lines_are next.lines_are;
        kinds = All-append IsMarkOrImage one other first.kinds next.kinds;
      }

-- what was read of both chunks, put together
pub put_together : (form : Form) (text low high : List ℕ) (one other all : List CopyLine) (long first second taken : ℕ) → text ≡ low ++ high → long ≡ length low
    → first ≤ length low → BeginsWith form low one (drop first low) → second ≤ length high → BeginsWith form high other (drop second high)
    → ((all ≡ one) × (taken ≡ first)) ⊎ ((long ≤ first) × (all ≡ one ++ other) × (taken ≡ long + second))
    → (taken ≤ length text) × BeginsWith form text all (drop taken text)
put_together form text low high one other all long first second taken whole count within front also back result =
    let sum : length text ≡ length low + length high = ap length whole ∙ length-append low high in
    elim result [
      | inl alone ↦ (omega (arith, sum, within, alone.1), rw (whole, alone.0, alone.1) (first_alone form low high one other first within front))
      | inr both ↦
          let (all_read, grown, at) = both in
          (omega (arith, sum, also, count, at), rw (whole, grown, at, count) (both_read form low high one other first second (omega (arith, all_read, count)) front back))
    ]
