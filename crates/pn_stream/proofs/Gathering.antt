-- Lines that are taken from a text, one after another, and the batch that their messages are.
use Rattle.std.proofs.Common.{◌≡◌, ◌≢◌, ℕ, ◌+◌, ◌<◌, ◌≤◌, Bool, true, false, All, OnSome, List, [], ◌∷◌, ◌++◌, length, Option, None, Some, IfSome, inl, inr, refl, sym, ap, ◌∙◌, subst, arith, append_assoc, append-nil}
use Rattle.std.proofs.lemmas.List.Elements.{All-head, All-tail}
use Rattle.pn_line.specs.Line.{LineBufferValue, ReadsTo, HasShown}
use Rattle.pn_line.specs.Text.{text_of}
use Rattle.pn_line.specs.declared.reading.BoundedEnd.TheVariants.{Newline}
use Rattle.pn_line.proofs.TextLaws.{text_of-nil, text_of-append, text_of-push}
use Rattle.pn_record.specs.declared.records.Image.{Image}
use Rattle.pn_stream.specs.Batches.{Batch, Ends, IsPart, Gathered, IsNextLine, IsRead, IsWhole, LinesSoFar, StopsAt, first_fault}
use Rattle.pn_stream.specs.Streams.{IsOfText, Refuses, Stands, FirstLine, NoLine, IsLeft}
use Rattle.pn_stream.specs.declared.fault.StreamFault.{StreamFault}
use Rattle.pn_stream.specs.declared.fault.StreamFault.TheVariants.{Read, LineTooLong, BadMessage, OutOfStep, Memory, Failed}
use Rattle.pn_stream.specs.declared.lines.NextLine.{NextLine}
use Rattle.pn_stream.proofs.Runs.{none_shown, on_rest}
use Rattle.pn_stream.proofs.SameBatch.{begins, same_batch}
use Rattle.pn_stream.proofs.Steps.{IsPart-more, TakesLine}
use Rattle.pn_stream.proofs.ChunkLaws.{InStep-length, all_in_step, fault_of_line, fewer_images}

-- ---- the next line

-- a line that was read to its newline is whole
pub whole_line : (more : Bool) (line new : LineBufferValue) (left leaves : Option (List ℕ)) → IsPart line → ReadsTo (Newline more) line new left leaves → IsWhole new.bytes
whole_line more line new left leaves is reads =
    let part = IsPart-more line new left leaves (10 ∷ []) is reads.0 reads.1 in
    record { unbroken = part.part.unbroken; short = part.part.short }

-- the line that was taken
pub line_taken : (part line now : List ℕ) (next : NextLine) (left leaves : Option (List ℕ)) → IfSome left (λ text. TakesLine (part ++ text) line leaves) → next.line ≡ line → now ≡ []
    → IfSome left (λ text. IsNextLine (part ++ text) (Some next) now leaves)
line_taken part line now next None leaves takes is none = tt
line_taken part line now next (Some text) leaves takes is none =
    (takes.rest, subst (λ (l : List ℕ). FirstLine (part ++ text) l takes.rest) (sym is) takes.first, (takes.rest, takes.leaves_is, ap (λ t. t ++ takes.rest) (sym none)))

-- a fault that follows whatever message is due
pub at_any : (part : List ℕ) (fault : StreamFault) (left : Option (List ℕ)) → ((wanted : ℕ) → IfSome left (λ text. Stands wanted (part ++ text) fault)) → IfSome left (λ text. (wanted : ℕ) → Stands wanted (part ++ text) fault)
at_any part fault None stands = tt
at_any part fault (Some text) stands = stands

-- memory may run out anywhere
pub memory_at_any : (part : List ℕ) (left : Option (List ℕ)) → IfSome left (λ text. (wanted : ℕ) → Stands wanted (part ++ text) Memory)
memory_at_any part None = tt
memory_at_any part (Some text) = λ wanted. tt

-- ---- one line after another

-- what a search for lines starts with
pub lines_none : (part : List ℕ) (lines : List (List ℕ)) (left : Option (List ℕ)) → lines ≡ [] → IfSome left (λ text. LinesSoFar (part ++ text) lines part left)
lines_none part lines None none = tt
lines_none part lines (Some text) none = rw none (record { rest = part ++ text; text_is = ap (λ t. t ++ (part ++ text)) (sym text_of-nil); is_left = (text, refl, refl) })

-- one line more
pub lines_more : (front part now : List ℕ) (lines : List (List ℕ)) (next : NextLine) (first left leaves : Option (List ℕ))
    → IfSome first (λ text. LinesSoFar (front ++ text) lines part left) → IfSome left (λ text. IsNextLine (part ++ text) (Some next) now leaves)
    → IfSome first (λ text. LinesSoFar (front ++ text) (lines ++ next.line ∷ []) now leaves)
lines_more front part now lines next None left leaves so told = tt
lines_more front part now lines next (Some text) left leaves so told =
    let (more, at, is_left) = on_rest so.rest part left (λ (t : List ℕ). IsNextLine t (Some next) now leaves) so.is_left told in
    record {
      rest = more;
      text_is = so.text_is ∙ ap (λ t. text_of lines ++ t) at.text_is
          ∙ ap (λ t. text_of lines ++ t) (sym (append_assoc next.line (10 ∷ []) more))
          ∙ sym (append_assoc (text_of lines) (next.line ++ 10 ∷ []) more)
          ∙ ap (λ t. t ++ more) (sym (text_of-push lines next.line));
      is_left = is_left;
    }

-- a newline that was seen after the next line is in the text
pub seen_on : (P : Type 0) (front part : List ℕ) (lines : List (List ℕ)) (first left : Option (List ℕ)) → IfSome first (λ text. LinesSoFar (front ++ text) lines part left) → OnSome left P → OnSome first P
seen_on P front part lines None left so shown = tt
seen_on P front part lines (Some text) left so shown =
    let told : OnSome (Some so.is_left.0) P = subst (λ (l : Option (List ℕ)). OnSome l P) so.is_left.1 shown in told

-- no whole line is left: none was seen, and there are too few
pub gathered_end : (least most : ℕ) (front part now : List ℕ) (lines : List (List ℕ)) (more : Bool) (first left leaves : Option (List ℕ)) → length lines ≤ most → (more ≡ false → length lines < least)
    → OnSome first (HasShown more left) → IfSome first (λ text. LinesSoFar (front ++ text) lines part left) → IfSome left (λ text. IsNextLine (part ++ text) None now leaves)
    → IfSome first (λ text. Gathered least most (front ++ text) lines None now leaves)
gathered_end least most front part now lines more None left leaves within few shown so next = tt
gathered_end least most front part now lines true (Some text) left leaves within few shown so next =
    let (none, _) = on_rest so.rest part left (λ (t : List ℕ). NoLine t × IsLeft t now leaves) so.is_left next in
    absurd (none_shown so.rest part so.is_left.0 left so.is_left.1 so.is_left.2 shown none)
gathered_end least most front part now lines false (Some text) left leaves within few shown so next =
    let (none, is_left) = on_rest so.rest part left (λ (t : List ℕ). NoLine t × IsLeft t now leaves) so.is_left next in
    record { rest = so.rest; within = within; text_is = so.text_is; ends = λ position. (inr (few refl, none), is_left) }

-- there are enough
pub gathered_enough : (least most : ℕ) (front part : List ℕ) (lines : List (List ℕ)) (first left : Option (List ℕ)) → least ≤ length lines → length lines ≤ most → part ≡ []
    → IfSome first (λ text. LinesSoFar (front ++ text) lines part left) → IfSome first (λ text. Gathered least most (front ++ text) lines None part left)
gathered_enough least most front part lines None left enough within taken so = tt
gathered_enough least most front part lines (Some text) left enough within taken so =
    record { rest = so.rest; within = within; text_is = so.text_is; ends = λ position. (inl (enough, taken), so.is_left) }

-- a fault follows
pub gathered_fault : (least most : ℕ) (front part now : List ℕ) (lines : List (List ℕ)) (fault : StreamFault) (first left leaves : Option (List ℕ)) → length lines < most
    → IfSome first (λ text. LinesSoFar (front ++ text) lines part left) → IfSome left (λ text. (wanted : ℕ) → Stands wanted (part ++ text) fault)
    → IfSome first (λ text. Gathered least most (front ++ text) lines (Some fault) now leaves)
gathered_fault least most front part now lines fault None left leaves few so stands = tt
gathered_fault least most front part now lines fault (Some text) left leaves few so stands =
    let at : (wanted : ℕ) → Stands wanted so.rest fault = on_rest so.rest part left (λ (t : List ℕ). (wanted : ℕ) → Stands wanted t fault) so.is_left stands in
    record { rest = so.rest; within = omega (arith, few); text_is = so.text_is; ends = λ position. (few, at (position + length lines + 1)) }

-- memory ran out
pub gathered_memory : (least most : ℕ) (front part now : List ℕ) (lines : List (List ℕ)) (first left leaves : Option (List ℕ)) → length lines < most
    → IfSome first (λ text. LinesSoFar (front ++ text) lines part left) → IfSome first (λ text. Gathered least most (front ++ text) lines (Some Memory) now leaves)
gathered_memory least most front part now lines None left leaves few so = tt
gathered_memory least most front part now lines (Some text) left leaves few so =
    record { rest = so.rest; within = omega (arith, few); text_is = so.text_is; ends = λ position. (few, tt) }

-- ---- the batch of the lines' messages

some_same : (fault other : StreamFault) → ◌≡◌ {A = Option StreamFault} (Some fault) (Some other) → fault ≡ other
some_same fault other is = cc

all_after : (front back : List (List ℕ)) → All IsWhole (front ++ back) → All IsWhole back
all_after [] back whole = whole
all_after (line ∷ front) back whole = all_after front back (All-tail IsWhole line (front ++ back) whole)

-- all lines are read: the batch ends as they do
pub Batch-whole : (least most position : ℕ) (text : List ℕ) (lines : List (List ℕ)) (images : List Image) (end : Option StreamFault) (part : List ℕ) (left : Option (List ℕ))
    → Gathered least most text lines end part left → IsRead position lines images None → Batch least most position text images end part left
Batch-whole least most position text lines images end part left gathered read =
    let all = all_in_step position lines images read in
    let count : length images ≡ length lines = InStep-length position lines images all in
    record {
      rest = gathered.rest;
      within = omega (arith, count, gathered.within);
      run = record { lines = lines; in_step = all; text_is = gathered.text_is };
      ends = subst (λ (n : ℕ). Ends least most n position gathered.rest end part left) (sym count) (gathered.ends position);
    }

-- a line is refused before the end of the text
refused_stands : (wanted : ℕ) (text line : List ℕ) (lines : List (List ℕ)) (rest : List ℕ) (fault : StreamFault) → IsWhole line → text ≡ text_of (line ∷ lines) ++ rest → Refuses wanted line fault → Stands wanted text fault
refused_stands wanted text line lines rest Memory whole is refused = tt
refused_stands wanted text line lines rest Read whole is refused = absurd refused
refused_stands wanted text line lines rest LineTooLong whole is refused = absurd refused
refused_stands wanted text line lines rest Failed whole is refused = absurd refused
refused_stands wanted text line lines rest (BadMessage at fault) whole is refused =
    record { line = line; rest = text_of lines ++ rest; first = begins text line lines rest whole.unbroken is; short = whole.short; refused = refused }
refused_stands wanted text line lines rest (OutOfStep named got) whole is refused =
    record { line = line; rest = text_of lines ++ rest; first = begins text line lines rest whole.unbroken is; short = whole.short; refused = refused }

stopped_stands : (wanted : ℕ) (lines : List (List ℕ)) (rest : List ℕ) (fault : StreamFault) → All IsWhole lines → StopsAt wanted lines (Some fault) → Stands wanted (text_of lines ++ rest) fault
stopped_stands wanted [] rest fault whole stops = absurd stops
stopped_stands wanted (line ∷ lines) rest fault whole stops = refused_stands wanted (text_of (line ∷ lines) ++ rest) line lines rest fault (All-head IsWhole line lines whole) refl stops

-- a line is refused: the batch ends there
pub Batch-refused : (least most position : ℕ) (text : List ℕ) (lines : List (List ℕ)) (images : List Image) (end : Option StreamFault) (fault : StreamFault) (part : List ℕ) (left : Option (List ℕ))
    → All IsWhole lines → Gathered least most text lines end part left → IsRead position lines images (Some fault) → Batch least most position text images (Some fault) part left
Batch-refused least most position text lines images end fault part left whole gathered read =
    let fewer : length images < length lines = fewer_images position lines images fault read in
    let back : All IsWhole read.back = all_after read.front read.back (subst (λ (ls : List (List ℕ)). All IsWhole ls) read.lines_are whole) in
    record {
      rest = text_of read.back ++ gathered.rest;
      within = omega (arith, fewer, gathered.within);
      run = record {
        lines = read.front;
        in_step = read.in_step;
        text_is = gathered.text_is ∙ ap (λ ls. text_of ls ++ gathered.rest) read.lines_are ∙ ap (λ t. t ++ gathered.rest) (text_of-append read.front read.back)
            ∙ append_assoc (text_of read.front) (text_of read.back) gathered.rest;
      };
      ends = (omega (arith, fewer, gathered.within), stopped_stands (position + length images + 1) read.back gathered.rest fault back read.stops);
    }

-- what is read of lines, as a batch of the text that begins with them
pub batch_read : (least most position : ℕ) (front : List ℕ) (lines : List (List ℕ)) (images : List Image) (fault end : Option StreamFault) (part : List ℕ) (first left : Option (List ℕ))
    → All IsWhole lines → IfSome first (λ text. Gathered least most (front ++ text) lines end part left) → IsRead position lines images fault
    → IfSome first (λ text. Batch least most position (front ++ text) images (first_fault fault end) part left)
batch_read least most position front lines images fault end part None left whole gathered read = tt
batch_read least most position front lines images None end part (Some text) left whole gathered read = Batch-whole least most position (front ++ text) lines images end part left gathered read
batch_read least most position front lines images (Some fault) end part (Some text) left whole gathered read =
    Batch-refused least most position (front ++ text) lines images end fault part left whole gathered read

-- a failure of the source ended the lines, and not a message
pub read_failure : (position : ℕ) (lines : List (List ℕ)) (images : List Image) (fault end : Option StreamFault) (may_fail : Type 0)
    → IsRead position lines images fault → (end ≡ Some Read → may_fail) → first_fault fault end ≡ Some Read → may_fail
read_failure position lines images None end may_fail read failed is = failed is
read_failure position lines images (Some fault) end may_fail read failed is = absurd ((fault_of_line position lines images fault read).0 (some_same fault Read is))

-- a reader that had failed reads no messages
pub no_failure : (position : ℕ) (lines : List (List ℕ)) (images : List Image) (fault end : Option StreamFault)
    → IsRead position lines images fault → end ≢ Some Failed → first_fault fault end ≢ Some Failed
no_failure position lines images None end read stays is = stays is
no_failure position lines images (Some fault) end read stays is = (fault_of_line position lines images fault read).1 (some_same fault Failed is)

-- memory ran out for one of the messages, or for a line
pub gives_up : (fault end : Option StreamFault) (may_give_up : Type 0) → (fault ≡ Some Memory → may_give_up) → (end ≡ Some Memory → may_give_up)
    → first_fault fault end ≡ Some Memory → may_give_up
gives_up None end may_give_up read lines is = lines is
gives_up (Some fault) end may_give_up read lines is = read is

-- what is read of lines, as the batch of their text
module _ (position : ℕ) (lines : List (List ℕ)) where
  taken_whole : Gathered (length lines) (length lines) (text_of lines) lines None [] (Some [])
  taken_whole = record {
    rest = [];
    within = omega arith;
    text_is = sym (append-nil (text_of lines));
    ends = λ at. (inl (omega arith, refl), ([], refl, refl));
  }

  as_batch : (images : List Image) (fault : Option StreamFault) → All IsWhole lines → IsRead position lines images fault
      → Batch (length lines) (length lines) position (text_of lines) images fault [] (Some [])
  as_batch images None whole read = Batch-whole _ _ position _ lines images None [] (Some []) taken_whole read
  as_batch images (Some fault) whole read = Batch-refused _ _ position _ lines images None fault [] (Some []) whole taken_whole read

-- lines are read in one way
pub same_read : (position : ℕ) (lines : List (List ℕ)) (one other : List Image) (fault next : Option StreamFault) → All IsWhole lines → IsRead position lines one fault → IsRead position lines other next
    → IsOfText fault → IsOfText next → (one ≡ other) × (fault ≡ next)
same_read position lines one other fault next whole first second of_text told =
    same_batch (length lines) position (text_of lines) one other fault next [] [] (Some []) (Some []) (as_batch position lines one fault whole first) (as_batch position lines other next whole second) of_text told
