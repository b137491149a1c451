-- A line of a copy's text that is at fault is so whatever follows, so a text cut there has the fault of the whole.
use Rattle.std.proofs.Common.{◌≡◌, ℕ, Bool, true, List, [], ◌++◌, inl, inr, Result, Ok, Err, refl, ap, ◌∙◌, subst, take, drop, append_assoc, ◌≢◌, ◌+◌, ◌-◌, ◌<◌, ◌≤◌, false, ◌∷◌, All, length, map, sym, ap₂, ⊎_elim, append-nil, arith}
use Rattle.std.proofs.lemmas.List.{take-append-drop}
use Rattle.std.proofs.lemmas.Bool.{cases_lt}
use Rattle.std.proofs.lemmas.List.Elements.{All-append, All-cons, All-head, All-nil, All-tail}
use Rattle.pn_line.specs.Line.{max_line_bytes, IsUnbroken}
use Rattle.pn_line.specs.Text.{text_of}
use Rattle.pn_line.proofs.TextLaws.{text_of-push}
use Rattle.pn_json.specs.Answers.{IsUnless}
use Rattle.pn_tablet.specs.Copies.{TabletCopyValue}
use Rattle.pn_tablet.specs.CopyTexts.{IsCut, Reaches, HasBadLine, HasFall, LeavesRange}
use Rattle.pn_tablet.specs.CopyReading.{copy_at, pieces_of}
use Rattle.pn_tablet.specs.declared.fault.CopyTextFault.{CopyTextFault}
use Rattle.pn_tablet.proofs.FirstFaults.{bad_line, not_rising, outside_range}
use Rattle.pn_tablet.proofs.CopyTextFacts.{joined, joined-pieces_of, unbroken-pieces_of}
use Rattle.pn_tablet.specs.declared.fault.CopyTextFault.TheVariants as text_fault
use Rattle.pn_serve.specs.Copies.Faulty.{has_faulty_line, is_of_line, AreCutsToFault, IsCutAtFault}
use Rattle.pn_serve.specs.declared.copies.fault.CopiesFault.{CopiesFault}
use Rattle.pn_serve.specs.declared.copies.fault.CopiesFault.TheVariants.{Memory, Line}
use Rattle.pn_serve.specs.Copies.Cutting.{AreCuts, CopyCutValue, IsCut as IsCutText, IsLineThat, TextLeft, begins_end, line_number}
use Rattle.pn_serve.specs.Copies.Reading.{AreRead, copy_in_cut, read_in, told_in}

-- A line of a copy's text that is at fault is so whatever follows the text.

module _ (text more : List ℕ) where
  -- the line is there still, and more comes after it
  cut_on : (lines : List (List ℕ)) (line rest : List ℕ) → IsCut text lines line rest → IsCut (text ++ more) lines line (rest ++ more)
  cut_on lines line rest cut = record { text_is = ap (λ t. t ++ more) cut.text_is ∙ append_assoc _ rest more; unbroken = cut.unbroken }

  reaches_on : (n : ℕ) → Reaches text n → Reaches (text ++ more) n
  reaches_on n at = record {
    lines = at.lines;
    line = at.line;
    rest = at.rest ++ more;
    cut = cut_on at.lines at.line at.rest at.cut;
    number = at.number;
    form = at.form;
    range = at.range;
    marks = at.marks;
    images = at.images;
    begin = at.begin;
  }

  bad_on : (n : ℕ) → HasBadLine text n → HasBadLine (text ++ more) n
  unfolding reaches_on
  bad_on n (inl first) = inl (first.0, (first.1.0, first.1.1 ++ more, cut_on [] first.1.0 first.1.1 first.1.2, first.1.3))
  bad_on n (inr later) = inr (reaches_on n later.0, later.1)

  outside_on : (n : ℕ) → LeavesRange text n → LeavesRange (text ++ more) n
  unfolding reaches_on
  outside_on n outside = (reaches_on n outside.0, outside.1, outside.2, outside.3)

  fall_on : (n : ℕ) → HasFall text n → HasFall (text ++ more) n
  unfolding reaches_on
  fall_on n falls = (reaches_on n falls.0, falls.1, falls.2, falls.3)

  -- the text has the same fault, whatever follows
  pub fault_stays : (fault : CopyTextFault) → is_of_line fault ≡ true → copy_at text ≡ Err fault → copy_at (text ++ more) ≡ Err fault
  fault_stays (text_fault.BadLine n) of_line is = (bad_line (text ++ more) n).1 (bad_on n ((bad_line text n).0 is))
  fault_stays (text_fault.OutsideRange n) of_line is = (outside_range (text ++ more) n).1 (outside_on n ((outside_range text n).0 is))
  fault_stays (text_fault.NotRising n) of_line is = (not_rising (text ++ more) n).1 (fall_on n ((not_rising text n).0 is))
  fault_stays text_fault.Truncated of_line is = absurd (cc)
  fault_stays text_fault.BadEnd of_line is = absurd (cc)
  fault_stays text_fault.Memory of_line is = absurd (cc)

-- the fault of a faulty line
pub fault_of : (read : Result TabletCopyValue CopyTextFault) → has_faulty_line read ≡ true → (fault : CopyTextFault) × (read ≡ Err fault) × (is_of_line fault ≡ true)
fault_of (Ok copy) is = absurd (cc)
fault_of (Err fault) is = (fault, refl, is)

pub faulty_still : (text more : List ℕ) → has_faulty_line (copy_at text) ≡ true → has_faulty_line (copy_at (text ++ more)) ≡ true
faulty_still text more is =
    let (fault, found, of_line) = fault_of (copy_at text) is in
    ap has_faulty_line (fault_stays text more fault of_line found) ∙ of_line

-- and so is a text with such a front
pub front_faulty : (text : List ℕ) (k : ℕ) (result : Result Bool CopiesFault) → IsUnless Memory result (Ok (has_faulty_line (copy_at (take k text)))) → result ≡ Ok true
    → has_faulty_line (copy_at text) ≡ true
front_faulty text k (Err fault) found is = absurd (cc)
front_faulty text k (Ok is_faulty) found is =
    let front : has_faulty_line (copy_at (take k text)) ≡ true = cc in
    subst (λ (t : List ℕ). has_faulty_line (copy_at t) ≡ true) (take-append-drop k text) (faulty_still (take k text) (drop k text) front)

-- A text that is cut at a fault stands for the whole text of its copy, which has the same fault.

-- the whole text of the next copy, which begins with this front
record WholeText (left : TextLeft) (front : List ℕ) : Type 0 where
  cut : CopyCutValue
  later : TextLeft
  is_cut : IsCutText left cut later
  more : List ℕ
  text_is : cut.text ≡ front ++ more

-- a line more, and the rest
with_line : (before : List (List ℕ)) (line rest : List ℕ) → text_of before ++ (line ++ 10 ∷ rest) ≡ text_of (before ++ line ∷ []) ++ rest
with_line before line rest =
    ap (λ (l : List ℕ). text_of before ++ l) (sym (append_assoc line (10 ∷ []) rest)) ∙ sym (append_assoc (text_of before) (line ++ 10 ∷ []) rest)
    ∙ ap (λ (l : List ℕ). l ++ rest) (sym (text_of-push before line))

module _ (next : ℕ) (bytes : List ℕ) where
  abbrev from : TextLeft
  from = record { next = next; bytes = bytes }

  -- up to this last part
  to_part : (before : List (List ℕ)) (part : List ℕ) → All (IsLineThat false) before → IsUnbroken part → length part ≤ max_line_bytes → bytes ≡ text_of before ++ part → WholeText from (text_of before)
  to_part before part inner unbroken short is = record {
    cut = record { text = text_of before ++ part; first = next; lines = length before; is_too_long = false };
    later = record { next = line_number (next + length before); bytes = [] };
    is_cut = record {
      first_is = refl;
      next_is = refl;
      way = inr (inl (record {
        before = before;
        part = part;
        inner = inner;
        part_unbroken = unbroken;
        part_short = short;
        text_is = refl;
        lines_are = refl;
        whole = refl;
        bytes_are = is;
        rest_is = refl;
      }));
    };
    more = part;
    text_is = refl;
  }

  -- up to this line, which is too long
  to_long : (before : List (List ℕ)) (long after : List ℕ) → All (IsLineThat false) before → IsUnbroken long → max_line_bytes < length long → bytes ≡ text_of before ++ (long ++ after) → WholeText from (text_of before)
  to_long before long after inner unbroken is_long is = record {
    cut = record { text = text_of before; first = next; lines = length before; is_too_long = true };
    later = record { next = line_number (next + length before); bytes = [] };
    is_cut = record {
      first_is = refl;
      next_is = refl;
      way = inr (inr (record {
        before = before;
        long = long;
        after = after;
        inner = inner;
        unbroken = unbroken;
        is_long = is_long;
        text_is = refl;
        lines_are = refl;
        cut_off = refl;
        bytes_are = is ∙ ap (λ (l : List ℕ). text_of before ++ (long ++ l)) (sym (append-nil after));
      }));
    };
    more = [];
    text_is = sym (append-nil (text_of before));
  }

  -- up to this line, which begins as an end does
  to_end : (before : List (List ℕ)) (line rest : List ℕ) → All (IsLineThat false) before → IsLineThat true line → bytes ≡ text_of before ++ (line ++ 10 ∷ rest) → WholeText from (text_of before)
  to_end before line rest inner ends is = record {
    cut = record { text = text_of (before ++ line ∷ []); first = next; lines = length before + 1; is_too_long = false };
    later = record { next = line_number (next + (length before + 1)); bytes = rest };
    is_cut = record {
      first_is = refl;
      next_is = refl;
      way = inl (record {
        before = before;
        last = line;
        inner = inner;
        ends = ends;
        text_is = refl;
        lines_are = refl;
        whole = refl;
        bytes_are = is ∙ with_line before line rest;
      });
    };
    more = line ++ 10 ∷ [];
    text_is = text_of-push before line;
  }

  -- on from these pieces
  walk : (pieces before : List (List ℕ)) → All (IsLineThat false) before → All IsUnbroken pieces → bytes ≡ text_of before ++ joined pieces → WholeText from (text_of before)
  walk [] before inner unbroken is = to_part before [] inner (All-nil (λ b. b ≢ 10)) (omega arith) is
  walk (part ∷ []) before inner unbroken is =
      let here : IsUnbroken part = All-head IsUnbroken part [] unbroken in
      ⊎_elim
      (λ (long : max_line_bytes < length part). to_long before part [] inner here long (is ∙ ap (λ (l : List ℕ). text_of before ++ l) (sym (append-nil part))))
      (λ (short : length part ≤ max_line_bytes). to_part before part inner here short is)
      (cases_lt max_line_bytes (length part))
  walk (line ∷ piece ∷ pieces) before inner unbroken is =
      let here : IsUnbroken line = All-head IsUnbroken line (piece ∷ pieces) unbroken in
      let rest = joined (piece ∷ pieces) in
      ⊎_elim
      (λ (long : max_line_bytes < length line). to_long before line (10 ∷ rest) inner here long is)
      (λ (short : length line ≤ max_line_bytes).
      (elim (begins_end line) as (λ (ends : Bool). begins_end line ≡ ends → WholeText from (text_of before)) [
        | true ↦ λ ends. to_end before line rest inner (record { unbroken = here; short = short; begins = ends }) is
        | false ↦ λ no.
            let one : IsLineThat false line = record { unbroken = here; short = short; begins = no } in
            let inside : All (IsLineThat false) (before ++ line ∷ []) = All-append (IsLineThat false) before (line ∷ []) inner (All-cons (IsLineThat false) line [] one (All-nil (IsLineThat false))) in
            let found = walk (piece ∷ pieces) (before ++ line ∷ []) inside (All-tail IsUnbroken line (piece ∷ pieces) unbroken) (is ∙ with_line before line rest) in
            record { cut = found.cut; later = found.later; is_cut = found.is_cut; more = line ++ 10 ∷ found.more; text_is = found.text_is ∙ sym (with_line before line found.more) }
      ]) refl)
      (cases_lt max_line_bytes (length line))

-- the fault of a line is the same for two texts that begin at one line
told_alike : (one other : CopyCutValue) (fault : CopyTextFault) → is_of_line fault ≡ true → one.first ≡ other.first
    → ◌≡◌ {A = Result TabletCopyValue CopiesFault} (Err (told_in one fault)) (Err (told_in other fault))
told_alike one other (text_fault.BadLine n) of_line same = ap (λ first. Err (Line (line_number (first + (n - 1))) (text_fault.BadLine n))) same
told_alike one other (text_fault.OutsideRange n) of_line same = ap (λ first. Err (Line (line_number (first + (n - 1))) (text_fault.OutsideRange n))) same
told_alike one other (text_fault.NotRising n) of_line same = ap (λ first. Err (Line (line_number (first + (n - 1))) (text_fault.NotRising n))) same
told_alike one other text_fault.Truncated of_line same = absurd (cc)
told_alike one other text_fault.BadEnd of_line same = absurd (cc)
told_alike one other text_fault.Memory of_line same = absurd (cc)

whole_text : (left : TextLeft) (cut : CopyCutValue) → IsCutAtFault left cut → (whole : CopyCutValue) × (later : TextLeft) × IsCutText left whole later × (copy_in_cut whole ≡ copy_in_cut cut)
whole_text left cut at =
    let bytes_are : left.bytes ≡ text_of at.before ++ joined (pieces_of at.rest) =
    at.bytes_are ∙ ap (λ (t : List ℕ). t ++ at.rest) at.text_is ∙ ap (λ (l : List ℕ). text_of at.before ++ l) (sym (joined-pieces_of at.rest)) in
    let found = walk left.next left.bytes (pieces_of at.rest) at.before at.inner (unbroken-pieces_of at.rest) bytes_are in
    let (fault, is, of_line) = fault_of (copy_at cut.text) at.faulty in
    let text : found.cut.text ≡ cut.text ++ found.more = found.text_is ∙ ap (λ (t : List ℕ). t ++ found.more) (sym at.text_is) in
    let same : copy_at found.cut.text ≡ Err fault = ap copy_at text ∙ fault_stays cut.text found.more fault of_line is in (
      found.cut,
      found.later,
      found.is_cut,
      ap (read_in found.cut) same ∙ told_alike found.cut cut fault of_line (found.is_cut.first_is ∙ sym at.first_is) ∙ sym (ap (read_in cut) is),
    )

-- whole texts of the same copies and faults
pub record AreWhole (left : TextLeft) (texts : List CopyCutValue) : Type 0 where
  pub cuts : List CopyCutValue
  pub last : TextLeft
  pub are_cuts : AreCuts left cuts last
  pub same : map copy_in_cut cuts ≡ map copy_in_cut texts

pub are_whole : (left : TextLeft) (texts : List CopyCutValue) (later : TextLeft) → AreCutsToFault left texts later → AreWhole left texts
are_whole left [] later are = record { cuts = []; last = later; are_cuts = are; same = refl }
are_whole left (cut ∷ texts) later (inl whole) =
    let rest = are_whole whole.0 texts later whole.2 in
    record {
      cuts = cut ∷ rest.cuts;
      last = rest.last;
      are_cuts = (whole.0, whole.1, rest.are_cuts);
      same = ap (λ (l : List (Result TabletCopyValue CopiesFault)). copy_in_cut cut ∷ l) rest.same;
    }
are_whole left (cut ∷ texts) later (inr faulty) =
    let (whole, last, is, same) = whole_text left cut faulty.1 in
    record {
      cuts = whole ∷ [];
      last = last;
      are_cuts = (last, is, refl);
      same = ap₂ (λ (r : Result TabletCopyValue CopiesFault) (rs : List CopyCutValue). r ∷ map copy_in_cut rs) same (sym faulty.0);
    }

-- what was read of texts was read of others with the same copies and faults
pub read_alike : (cuts texts : List CopyCutValue) (reads : List (Result TabletCopyValue CopiesFault)) → map copy_in_cut cuts ≡ map copy_in_cut texts → AreRead texts reads → AreRead cuts reads
read_alike [] [] reads same are = are
read_alike [] (text ∷ texts) reads same are = absurd (cc)
read_alike (cut ∷ cuts) [] reads same are = absurd (cc)
read_alike (cut ∷ cuts) (text ∷ texts) [] same are = absurd are
read_alike (cut ∷ cuts) (text ∷ texts) (read ∷ reads) same are =
    let first : copy_in_cut cut ≡ copy_in_cut text = cc in
    let later : map copy_in_cut cuts ≡ map copy_in_cut texts = cc in
    (subst (λ (right : Result TabletCopyValue CopiesFault). IsUnless Memory read right) (sym first) are.0, read_alike cuts texts reads later are.1)

-- where all were read, none was cut at a fault
pub none_faulty : (left : TextLeft) (texts : List CopyCutValue) (later : TextLeft) (added : List TabletCopyValue) → AreCutsToFault left texts later → AreRead texts (map Ok added) → AreCuts left texts later
none_faulty left [] later added are reads = are
none_faulty left (cut ∷ texts) later [] are reads = absurd reads
none_faulty left (cut ∷ texts) later (copy ∷ added) (inl whole) reads = (whole.0, whole.1, none_faulty whole.0 texts later added whole.2 reads.1)
none_faulty left (cut ∷ texts) later (copy ∷ added) (inr faulty) reads =
    let (fault, is, of_line) = fault_of (copy_at cut.text) faulty.1.faulty in
    let no : ◌≡◌ {A = Result TabletCopyValue CopiesFault} (Err (told_in cut fault)) (Ok copy) = sym (ap (read_in cut) is) ∙ reads.0 in
    absurd (cc)

pub to_fault : (left : TextLeft) (cuts : List CopyCutValue) (later : TextLeft) → AreCuts left cuts later → AreCutsToFault left cuts later
to_fault left [] later are = are
to_fault left (cut ∷ cuts) later are = inl (are.0, are.1, to_fault are.0 cuts later are.2)

-- the last text was cut at a fault
pub faulty-push : (left : TextLeft) (cuts : List CopyCutValue) (between : TextLeft) (cut : CopyCutValue) (later : TextLeft) → AreCuts left cuts between → IsCutAtFault between cut
    → AreCutsToFault left (cuts ++ cut ∷ []) later
faulty-push left [] between cut later are is = inr (refl, subst (λ (from : TextLeft). IsCutAtFault from cut) (sym are) is)
faulty-push left (first ∷ cuts) between cut later are is = inl (are.0, are.1, faulty-push are.0 cuts between cut later are.2 is)
