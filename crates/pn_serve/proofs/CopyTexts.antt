-- The texts of copies: a line more, what ends a text, and what a text is read as.
use Rattle.std.proofs.Common.{◌≡◌, ◌≢◌, ℕ, ◌≤◌, Bool, true, false, Option, Some, OnSome, List, [], ◌∷◌, ◌++◌, length, refl, sym, ap, ◌∙◌, subst, append_assoc, arith, ◌+◌, All, inl, inr, cond}
use Rattle.std.specs.Prelude.{Ok}
use Rattle.std.proofs.lemmas.List.Elements.{All-nil, All-cons, All-append}
use Rattle.std.specs.Io.KnownBytes.{IsAtEnd}
use Rattle.std.proofs.lemmas.List.{length_push}
use Rattle.std.specs.List.{list_all}
use Rattle.std.proofs.lemmas.Bool.{and_parts, and_from}
use Rattle.pn_line.specs.Line.{LineBufferValue, max_line_bytes, so_far, ReadsTo, IsUnbroken, Takes}
use Rattle.pn_line.specs.declared.reading.BoundedEnd.TheVariants.{EndOfInput, Newline, TooLong}
use Rattle.pn_line.proofs.TextLaws.{ReadsPart, ReadsPart-from_takes, text_of-read_end, text_of-nil, text_of-push}
use Rattle.pn_line.proofs.LineLaws.{kept_bytes-short}
use Rattle.pn_line.specs.Text.{text_of}
use Rattle.pn_join.specs.Marks.{Positions, is_position, are_positions}
use Rattle.pn_join.specs.Naming.{is_name}
use Rattle.pn_record.specs.declared.records.Image.{Image}
use Rattle.pn_record.specs.Cells.{Entries, table_of}
use Rattle.pn_tablet.specs.CopyReading.{copy_at}
use Rattle.pn_tablet.specs.Copies.{TabletCopyValue, IsCopy}
use Rattle.pn_tablet.specs.CopyTexts.{AreLines}
use Rattle.pn_tablet.specs.Layouts.{Ends, in_range}
use Rattle.pn_tablet.specs.Tablets.{lie_in}
use Rattle.pn_tablet.proofs.CopyGrammar.{lines_with}
use Rattle.pn_tablet.proofs.CopyTextFacts.{text_found}
use Rattle.pn_apply.specs.Reducing.{images_in}
use Rattle.pn_apply.proofs.ReduceLaws.{cells_inside}
use Rattle.pn_serve.specs.Copies.Cutting.{begins_end, AreCuts, CopyCutValue, IsCut, IsLineThat, TextLeft, line_number, Adds, AddsLine, AddsNone, AddsPart}
use Rattle.pn_serve.specs.declared.copies.texts.AddedLine.{AddedLine}
use Rattle.pn_serve.specs.declared.copies.texts.AddedLine.TheVariants.{End, Line}
use Rattle.pn_serve.specs.Copies.Faulty.{IsCutAtFault, has_faulty_line}

-- What a line that was read adds to the text of a copy.

-- what reading a line says of known bytes
known : (bytes : List ℕ) (line : LineBufferValue) (left leaves : Option (List ℕ)) (after : List ℕ) → left ≡ Some bytes → Takes (so_far []) line left leaves after → ReadsPart [] bytes line leaves after
known bytes line left leaves after is takes = ReadsPart-from_takes [] bytes (All-nil (λ b. b ≢ 10)) (subst (λ (from : Option (List ℕ)). Takes (so_far []) line from leaves after) is takes)

-- a line that is short is kept whole
whole : (line : LineBufferValue) (taken : List ℕ) → line ≡ so_far taken → line.count ≤ max_line_bytes → (line.bytes ≡ taken) × (length taken ≤ max_line_bytes)
whole line taken is short =
    let count : line.count ≡ length taken = ap (λ (l : LineBufferValue). l.count) is in
    let few : length taken ≤ max_line_bytes = omega (arith, count, short) in
    (ap (λ (l : LineBufferValue). l.bytes) is ∙ kept_bytes-short taken few, few)

pub adds-line : (ends more : Bool) (old new bytes : List ℕ) (line : LineBufferValue) (left leaves : Option (List ℕ)) → left ≡ Some bytes
    → ReadsTo (Newline more) (so_far []) line left leaves → new ≡ (old ++ line.bytes) ++ 10 ∷ [] → begins_end line.bytes ≡ ends → AddsLine ends old new bytes leaves
adds-line ends more old new bytes line left leaves is reads text_is begins =
    let part = known bytes line left leaves (10 ∷ []) is reads.0 in
    let all = whole line part.taken part.line reads.1 in
    record {
      line = part.taken;
      rest = part.rest;
      line_is = record { unbroken = part.unbroken; short = all.1; begins = sym (ap begins_end all.0) ∙ begins };
      text_is = text_is ∙ ap (λ l. (old ++ l) ++ 10 ∷ []) all.0 ∙ append_assoc old part.taken (10 ∷ []);
      bytes_are = part.text_is;
      leaves_is = part.leaves_is;
    }

pub adds-part : (old new bytes : List ℕ) (line : LineBufferValue) (left leaves : Option (List ℕ)) → left ≡ Some bytes
    → ReadsTo EndOfInput (so_far []) line left leaves → new ≡ old ++ line.bytes → AddsPart old new bytes leaves
adds-part old new bytes line left leaves is reads text_is =
    let part = known bytes line left leaves [] is reads.0 in
    let all = whole line part.taken part.line reads.2 in
    let at_end : IsAtEnd leaves = subst (λ (from : Option (List ℕ)). OnSome from (IsAtEnd leaves)) is reads.1 in
    let bytes_are : bytes ≡ part.taken = text_of-read_end [] bytes leaves part at_end in
    let none : part.rest ≡ [] = subst IsAtEnd part.leaves_is at_end in
    record {
      unbroken = subst IsUnbroken (sym bytes_are) part.unbroken;
      short = subst (λ (b : List ℕ). length b ≤ max_line_bytes) (sym bytes_are) all.1;
      text_is = text_is ∙ ap (λ l. old ++ l) (all.0 ∙ sym bytes_are);
      leaves_is = part.leaves_is ∙ ap Some none;
    }

pub adds-none : (old new bytes : List ℕ) (line : LineBufferValue) (left leaves : Option (List ℕ)) → left ≡ Some bytes
    → ReadsTo TooLong (so_far []) line left leaves → new ≡ old → AddsNone old new bytes leaves
adds-none old new bytes line left leaves is reads text_is =
    let part = known bytes line left leaves reads.0.0 is reads.0.1 in
    let count : line.count ≡ length part.taken = ap (λ (l : LineBufferValue). l.count) part.line in
    record {
      long = part.taken;
      after = reads.0.0;
      rest = part.rest;
      unbroken = part.unbroken;
      is_long = omega (arith, count, reads.1);
      text_is = text_is;
      bytes_are = part.text_is;
      leaves_is = part.leaves_is;
    }

-- which line was added
pub adds-by : (old new bytes : List ℕ) (leaves : Option (List ℕ)) (begins : Bool) (added : AddedLine) → (begins ≡ true → added ≡ End) → (begins ≡ false → added ≡ Line)
    → AddsLine begins old new bytes leaves → Adds added old new bytes leaves
adds-by old new bytes leaves true added end inner line = subst (λ (a : AddedLine). Adds a old new bytes leaves) (sym (end refl)) line
adds-by old new bytes leaves false added end inner line = subst (λ (a : AddedLine). Adds a old new bytes leaves) (sym (inner refl)) line

-- The texts of copies: a line more, and what ends a text.

-- these whole lines were read onto the text, and the rest is left
pub record Gathered (bytes text : List ℕ) (count : ℕ) (leaves : Option (List ℕ)) : Type 0 where
  pub before : List (List ℕ)
  pub rest : List ℕ
  pub inner : All (IsLineThat false) before
  pub text_is : text ≡ text_of before
  pub lines_are : count ≡ length before
  pub bytes_are : bytes ≡ text ++ rest
  pub leaves_is : leaves ≡ Some rest

pub gathered-none : (bytes : List ℕ) (leaves : Option (List ℕ)) → leaves ≡ Some bytes → Gathered bytes [] 0 leaves
gathered-none bytes leaves is = record { before = []; rest = bytes; inner = All-nil (IsLineThat false); text_is = sym text_of-nil; lines_are = refl; bytes_are = refl; leaves_is = is }

-- the bytes before a line, the line and the rest
line_on : (text line rest : List ℕ) → text ++ (line ++ 10 ∷ rest) ≡ (text ++ (line ++ 10 ∷ [])) ++ rest
line_on text line rest = ap (λ l. text ++ l) (sym (append_assoc line (10 ∷ []) rest)) ∙ sym (append_assoc text (line ++ 10 ∷ []) rest)

pub gathered-line : (bytes text new : List ℕ) (count : ℕ) (left leaves : Option (List ℕ)) → Gathered bytes text count left
    → ((rest : List ℕ) → left ≡ Some rest → AddsLine false text new rest leaves) → Gathered bytes new (count + 1) leaves
gathered-line bytes text new count left leaves so_far adds =
    let line = adds so_far.rest so_far.leaves_is in
    record {
      before = so_far.before ++ line.line ∷ [];
      rest = line.rest;
      inner = All-append (IsLineThat false) so_far.before _ so_far.inner (All-cons (IsLineThat false) line.line [] line.line_is (All-nil (IsLineThat false)));
      text_is = line.text_is ∙ ap (λ t. t ++ (line.line ++ 10 ∷ [])) so_far.text_is ∙ sym (text_of-push so_far.before line.line);
      lines_are = ap (λ n. n + 1) so_far.lines_are ∙ sym (length_push so_far.before line.line);
      bytes_are = so_far.bytes_are ∙ ap (λ r. text ++ r) line.bytes_are ∙ line_on text line.line line.rest ∙ ap (λ t. t ++ line.rest) (sym line.text_is);
      leaves_is = line.leaves_is;
    }

-- a text was cut out, and the rest is left
abbrev pub Leaves : ℕ → List ℕ → CopyCutValue → ℕ → Option (List ℕ) → Type 0
Leaves next bytes cut later leaves =
    (rest : List ℕ) × (leaves ≡ Some rest) × IsCut (record { next = next; bytes = bytes }) cut (record { next = later; bytes = rest })

pub cut-end : (next : ℕ) (bytes text new : List ℕ) (count : ℕ) (left leaves : Option (List ℕ)) (first later : ℕ) → Gathered bytes text count left
    → ((rest : List ℕ) → left ≡ Some rest → AddsLine true text new rest leaves) → first ≡ next → later ≡ line_number (first + (count + 1))
    → Leaves next bytes (record { text = new; first = first; lines = count + 1; is_too_long = false }) later leaves
cut-end next bytes text new count left leaves first later so_far adds first_is later_is =
    let line = adds so_far.rest so_far.leaves_is in (
      line.rest,
      line.leaves_is,
      record {
        first_is = first_is;
        next_is = later_is ∙ ap (λ n. line_number (n + (count + 1))) first_is;
        way = inl (record {
          before = so_far.before;
          last = line.line;
          inner = so_far.inner;
          ends = line.line_is;
          text_is = line.text_is ∙ ap (λ t. t ++ (line.line ++ 10 ∷ [])) so_far.text_is ∙ sym (text_of-push so_far.before line.line);
          lines_are = ap (λ n. n + 1) so_far.lines_are;
          whole = refl;
          bytes_are = so_far.bytes_are ∙ ap (λ r. text ++ r) line.bytes_are ∙ line_on text line.line line.rest ∙ ap (λ t. t ++ line.rest) (sym line.text_is);
        });
      },
    )

pub cut-part : (next : ℕ) (bytes text new : List ℕ) (count : ℕ) (left leaves : Option (List ℕ)) (first later : ℕ) → Gathered bytes text count left
    → ((rest : List ℕ) → left ≡ Some rest → AddsPart text new rest leaves) → first ≡ next → later ≡ line_number (first + count)
    → Leaves next bytes (record { text = new; first = first; lines = count; is_too_long = false }) later leaves
cut-part next bytes text new count left leaves first later so_far adds first_is later_is =
    let part = adds so_far.rest so_far.leaves_is in (
      [],
      part.leaves_is,
      record {
        first_is = first_is;
        next_is = later_is ∙ ap (λ n. line_number (n + count)) first_is;
        way = inr (inl (record {
          before = so_far.before;
          part = so_far.rest;
          inner = so_far.inner;
          part_unbroken = part.unbroken;
          part_short = part.short;
          text_is = part.text_is ∙ ap (λ t. t ++ so_far.rest) so_far.text_is;
          lines_are = so_far.lines_are;
          whole = refl;
          bytes_are = so_far.bytes_are ∙ sym part.text_is;
          rest_is = refl;
        }));
      },
    )

pub cut-long : (next : ℕ) (bytes text new : List ℕ) (count : ℕ) (left leaves : Option (List ℕ)) (first later : ℕ) → Gathered bytes text count left
    → ((rest : List ℕ) → left ≡ Some rest → AddsNone text new rest leaves) → first ≡ next → later ≡ line_number (first + count)
    → Leaves next bytes (record { text = new; first = first; lines = count; is_too_long = true }) later leaves
cut-long next bytes text new count left leaves first later so_far adds first_is later_is =
    let none = adds so_far.rest so_far.leaves_is in (
      none.rest,
      none.leaves_is,
      record {
        first_is = first_is;
        next_is = later_is ∙ ap (λ n. line_number (n + count)) first_is;
        way = inr (inr (record {
          before = so_far.before;
          long = none.long;
          after = none.after;
          inner = so_far.inner;
          unbroken = none.unbroken;
          is_long = none.is_long;
          text_is = none.text_is ∙ so_far.text_is;
          lines_are = so_far.lines_are;
          cut_off = refl;
          bytes_are = so_far.bytes_are ∙ ap (λ r. text ++ r) none.bytes_are ∙ ap (λ t. t ++ (none.long ++ (none.after ++ none.rest))) (sym none.text_is);
        }));
      },
    )

-- a text was cut at a fault, and the rest is left
pub cut-faulty : (next : ℕ) (bytes text new : List ℕ) (count : ℕ) (left leaves : Option (List ℕ)) (cut : CopyCutValue) → Gathered bytes text count left
    → ((rest : List ℕ) → left ≡ Some rest → AddsLine false text new rest leaves) → cut.first ≡ next → cut.text ≡ new → has_faulty_line (copy_at new) ≡ true
    → (rest : List ℕ) × (leaves ≡ Some rest) × IsCutAtFault (record { next = next; bytes = bytes }) cut
cut-faulty next bytes text new count left leaves cut so_far adds first_is text_is faulty =
    let all = gathered-line bytes text new count left leaves so_far adds in (
      all.rest,
      all.leaves_is,
      record {
        before = all.before;
        rest = all.rest;
        inner = all.inner;
        first_is = first_is;
        text_is = text_is ∙ all.text_is;
        bytes_are = all.bytes_are ∙ ap (λ t. t ++ all.rest) (sym text_is);
        faulty = subst (λ (t : List ℕ). has_faulty_line (copy_at t) ≡ true) (sym text_is) faulty;
      },
    )

-- a list of no length is empty
pub nothing : (xs : List ℕ) → length xs ≡ 0 → xs ≡ []
nothing [] none = refl
nothing (x ∷ xs) none = absurd (omega (arith, none))

-- nothing was left
pub none-left : (bytes text new : List ℕ) (count : ℕ) (left leaves : Option (List ℕ)) → Gathered bytes text count left
    → ((rest : List ℕ) → left ≡ Some rest → AddsPart text new rest leaves) → new ≡ [] → (bytes ≡ []) × (leaves ≡ Some [])
none-left bytes text new count left leaves so_far adds none =
    let part = adds so_far.rest so_far.leaves_is in
    (so_far.bytes_are ∙ sym part.text_is ∙ none, part.leaves_is)

-- one text more is cut out
pub cuts-push : (left : TextLeft) (cuts : List CopyCutValue) (between : TextLeft) (cut : CopyCutValue) (later : TextLeft) → AreCuts left cuts between → IsCut between cut later
    → AreCuts left (cuts ++ cut ∷ []) later
cuts-push left [] between cut later are is = (later, subst (λ (from : TextLeft). IsCut from cut later) (sym are) is, refl)
cuts-push left (first ∷ cuts) between cut later are is = (are.0, are.1, cuts-push are.0 cuts between cut later are.2 is)

pub cuts-append : (left : TextLeft) (cuts : List CopyCutValue) (between : TextLeft) (more : List CopyCutValue) (later : TextLeft) → AreCuts left cuts between → AreCuts between more later
    → AreCuts left (cuts ++ more) later
cuts-append left [] between more later are on = subst (λ (from : TextLeft). AreCuts from more later) (sym are) on
cuts-append left (first ∷ cuts) between more later are on = (are.0, are.1, cuts-append are.0 cuts between more later are.2 on)

-- A text that is read as a copy gives what a copy is.

-- images that all lie in a range are those in it
all_in : (range : Ends) (images : List Image) → list_all (λ (image : Image). in_range range image.key) images ≡ true → images_in range images ≡ images
all_in range [] inside = refl
all_in range (image ∷ images) inside =
    let parts = and_parts (in_range range image.key) (list_all (λ (i : Image). in_range range i.key) images) inside in
    ap (λ (b : Bool). cond b (image ∷ images_in range images) (images_in range images)) parts.0 ∙ ap (λ (rest : List Image). image ∷ rest) (all_in range images parts.1)

-- the marks of lines that are read have positions
read_marks : (form : _) (lines : List (List ℕ)) (marks : Positions) (images : List Image) (count : ℕ) → AreLines form lines (lines_with marks images count) → are_positions marks ≡ true
read_marks form lines [] images count are = refl
read_marks form [] (mark ∷ marks) images count are = absurd are
read_marks form (line ∷ lines) (mark ∷ marks) images count are =
    and_from (is_position mark.1) (are_positions marks) (and_parts (is_name mark.0) (is_position mark.1) are.0.spelled.1).1 (read_marks form lines marks images count are.1)

pub read_is : (text : List ℕ) (copy : TabletCopyValue) → copy_at text ≡ Ok copy → IsCopy copy.range copy.marks copy.cells
read_is text copy is =
    let found = text_found text copy is in
    let own : table_of (images_in copy.range found.images) ≡ copy.cells = ap table_of (all_in copy.range found.images found.inside) ∙ sym found.cells in record {
      inside = subst (λ (cells : Entries). lie_in copy.range cells ≡ true) own (cells_inside copy.range found.images);
      positions = read_marks found.form found.lines copy.marks found.images (length copy.marks + length found.images) found.lines_are;
    }
