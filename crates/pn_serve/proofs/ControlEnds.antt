-- Where control sessions end, one run of the engine for lines after another.
use Rattle.std.proofs.Common.{◌≡◌, ◌≢◌, ℕ, List, [], ◌∷◌, ◌++◌, Option, None, Some, refl, ap, ◌∙◌, subst, sym, inl, inr, append_assoc}
use Rattle.std.specs.Prelude.{Result, Ok, Err, IfSome, IsErrOf}
use Rattle.std.specs.Io.KnownBytes.{Appends}
use Rattle.std.proofs.KnownBytes.{Appends-nil, Appends-trans}
use Rattle.std.proofs.lemmas.List.Elements.{All-append}
use Rattle.pn_line.specs.Text.{LinesRead, PartRead, text_of}
use Rattle.pn_line.specs.Line.{IsUnbroken}
use Rattle.pn_line.specs.Sent.{AppendsPrefix}
use Rattle.pn_line.proofs.TextLaws.{LinesRead-none, text_of-append}
use Rattle.pn_line.proofs.SentLaws.{AppendsPrefix-after}
use Rattle.pn_lines.specs.Driving as engine
use Rattle.pn_lines.specs.Driving.{CanEnd, HasEnded, IsEndless, IsFull, Start, Stopped, start_at}
use Rattle.pn_lines.specs.declared.driver.LinesFault.{LinesFault}
use Rattle.pn_lines.specs.declared.driver.LinesFault.TheVariants as fault
use Rattle.pn_lines.specs.declared.engine.Counts.{Counts}
use Rattle.pn_live.specs.Readers.{LiveReaderValue}
use Rattle.pn_protocol.specs.Reply.Texts.{reply_text}
use Rattle.pn_protocol.specs.declared.reply.Reply.{Reply}
use Rattle.pn_serve.specs.Control.Lines.{AnsweredAll, AnsweredSome, ControlEnds, Endless, EndsScript as EndsIn, uncounted, HasClosed, controls, ControlState, at_rest, AnswersControl, EndsControl}
use Rattle.pn_serve.specs.Lines.{Ended, texts_of, counts_of, AllAnswer, Broken, Cut}
use Rattle.pn_serve.specs.Script.Written.{parts_of}
use Rattle.pn_serve.specs.Session.Resuming.{KnowsNoLess}
use Rattle.pn_serve.specs.declared.script.Counts as runs
use Rattle.pn_serve.specs.declared.script.RunFault.TheVariants.{Read, Write, Memory}
use Rattle.pn_serve.specs.declared.script.TheConstants.{MAX_LINES}
use Rattle.pn_serve.proofs.Ending.{cut_alone, ended_alone, stopped_alone}
use Rattle.pn_serve.proofs.Serving.{parts-text, OnTold, of_known}

-- ---- lines that were answered, and then more

all_append : (was : ControlState) (lines : List (List ℕ)) (replies : List Reply) (between : ControlState) (more : List (List ℕ)) (later : List Reply) (now : ControlState)
    → AllAnswer AnswersControl was lines replies between → AllAnswer AnswersControl between more later now → AllAnswer AnswersControl was (lines ++ more) (replies ++ later) now
all_append was [] [] between more later now first second = subst (λ (s : ControlState). AllAnswer AnswersControl s more later now) first second
all_append was [] (reply ∷ replies) between more later now first second = absurd first
all_append was (line ∷ lines) [] between more later now first second = absurd first
all_append was (line ∷ lines) (reply ∷ replies) between more later now first second = (first.0, first.1, all_append first.0 lines replies between more later now first.2 second)

texts_append : (replies later : List Reply) → texts_of (replies ++ later) ≡ texts_of replies ++ texts_of later
texts_append [] later = refl
texts_append (reply ∷ replies) later =
    ap (λ (t : List ℕ). reply_text reply ++ t) (texts_append replies later) ∙ sym (append_assoc (reply_text reply) (texts_of replies) (texts_of later))

texts_last : (replies later : List Reply) (last : List ℕ) → texts_of (replies ++ later) ++ last ≡ texts_of replies ++ (texts_of later ++ last)
texts_last replies later last = ap (λ (t : List ℕ). t ++ last) (texts_append replies later) ∙ append_assoc (texts_of replies) (texts_of later) last

module _ (start : Start ControlState) (script : List ℕ) (since : Start ControlState) (before : AnsweredSome start script since.left since.written since.machine) where
  text_on : (lines : List (List ℕ)) (later : List ℕ) → before.read.rest ≡ text_of lines ++ later → script ≡ text_of (before.lines ++ lines) ++ later
  text_on lines later is =
      before.read.text_is ∙ ap (λ (t : List ℕ). text_of before.lines ++ t) is ∙ sym (append_assoc (text_of before.lines) (text_of lines) later)
      ∙ ap (λ (t : List ℕ). t ++ later) (sym (text_of-append before.lines lines))

  part_on : (left : Option (List ℕ)) (lines : List (List ℕ)) (part : List ℕ) → PartRead before.read.rest left lines part → PartRead script left (before.lines ++ lines) part
  part_on left lines part read = record {
    rest = read.rest;
    unbroken = All-append IsUnbroken before.lines lines before.read.unbroken read.unbroken;
    part_unbroken = read.part_unbroken;
    text_is = text_on lines (part ++ read.rest) read.text_is;
    left_is = read.left_is;
  }

  lines_on : (left : Option (List ℕ)) (lines : List (List ℕ)) → LinesRead before.read.rest left lines → LinesRead script left (before.lines ++ lines)
  lines_on left lines read = record {
    rest = read.rest;
    unbroken = All-append IsUnbroken before.lines lines before.read.unbroken read.unbroken;
    text_is = text_on lines read.rest read.text_is;
    left_is = read.left_is;
  }

  parts_on : parts_of script ≡ (before.lines ++ (parts_of before.read.rest).0, (parts_of before.read.rest).1)
  parts_on = ap parts_of before.read.text_is ∙ parts-text before.lines before.read.rest before.read.unbroken

  module _ (left written : Option (List ℕ)) (state : ControlState) where
    wrote_on : (later : List Reply) → Appends since.written written (texts_of later) → Appends start.written written (texts_of (before.replies ++ later))
    wrote_on later wrote = subst (λ (t : List ℕ). Appends start.written written t) (sym (texts_append before.replies later)) (Appends-trans start.written since.written written _ _ before.wrote wrote)

    some_on : AnsweredSome since before.read.rest left written state → AnsweredSome start script left written state
    some_on is = record {
      lines = before.lines ++ is.lines;
      read = lines_on left is.lines is.read;
      replies = before.replies ++ is.replies;
      made = all_append start.machine before.lines before.replies since.machine is.lines is.replies state before.made is.made;
      wrote = wrote_on is.replies is.wrote;
    }

    all_on : (counts : runs.Counts) → Ended AnswersControl EndsControl since before.read.rest left written state counts → AnsweredAll start script left written state
    all_on counts is =
        let made = all_append start.machine before.lines before.replies since.machine (parts_of before.read.rest).0 is.replies is.reached before.made is.made in record {
          replies = before.replies ++ is.replies;
          reached = is.reached;
          made = subst (λ (l : List (List ℕ)). AllAnswer AnswersControl start.machine l (before.replies ++ is.replies) is.reached) (sym (ap (λ (p : List (List ℕ) × List ℕ). p.0) parts_on)) made;
          last = is.last;
          ended = subst (λ (p : List ℕ). EndsControl is.reached p state is.last) (sym (ap (λ (p : List (List ℕ) × List ℕ). p.1) parts_on)) is.ended;
          wrote = subst (λ (t : List ℕ). Appends start.written written t) (sym (texts_last before.replies is.replies (reply_text is.last))) (Appends-trans start.written since.written written _ _ before.wrote is.wrote);
          at_end = is.at_end;
        }

    broken_on : Broken AnswersControl EndsControl since before.read.rest left written state → Broken AnswersControl EndsControl start script left written state
    broken_on is = record {
      lines = before.lines ++ is.lines;
      part = is.part;
      read = part_on left is.lines is.part is.read;
      replies = before.replies ++ is.replies;
      made = all_append start.machine before.lines before.replies since.machine is.lines is.replies state before.made is.made;
      wrote = wrote_on is.replies is.wrote;
    }

    cut_on : Cut AnswersControl EndsControl since before.read.rest left written state → Cut AnswersControl EndsControl start script left written state
    cut_on is = record {
      lines = before.lines ++ is.lines;
      part = is.part;
      read = part_on left is.lines is.part is.read;
      replies = before.replies ++ is.replies;
      reached = is.reached;
      made = all_append start.machine before.lines before.replies since.machine is.lines is.replies is.reached before.made is.made;
      last = is.last;
      ended = is.ended;
      prefix = subst (λ (t : List ℕ). AppendsPrefix start.written written t) (sym (texts_last before.replies is.replies is.last)) (AppendsPrefix-after start.written since.written written (texts_of before.replies) before.wrote is.prefix);
    }

-- ---- a run after what was answered before

-- where no part of the next line was read
whole_lines : {text : List ℕ} {left : Option (List ℕ)} {lines : List (List ℕ)} {part : List ℕ} → part ≡ [] → PartRead text left lines part → LinesRead text left lines
whole_lines {lines = lines} none read = record {
  rest = read.rest;
  unbroken = read.unbroken;
  text_is = read.text_is ∙ ap (λ (p : List ℕ). text_of lines ++ (p ++ read.rest)) none;
  left_is = read.left_is;
}

module _ (start : Start ControlState) (script : List ℕ) (left written : Option (List ℕ)) (state : ControlState) (before : AnsweredSome start script left written state) (leaves wrote : Option (List ℕ)) (now : ControlState) where
  abbrev since : Start ControlState
  since = start_at state left written

  -- the lines of a run that stopped between two lines
  some_of : (so : List (List ℕ) → List ℕ → Type 0) (is : Stopped controls so since before.read.rest leaves wrote now) → is.part ≡ [] → AnsweredSome start script leaves wrote now
  unfolding stopped_alone
  some_of so is none =
      let broken = stopped_alone (λ state. state) AnswersControl EndsControl (λ _ _ _ _ _. ⊥) HasClosed since before.read.rest leaves wrote now so is in
      some_on start script since before leaves wrote now record { lines = broken.lines; read = whole_lines none broken.read; replies = broken.replies; made = broken.made; wrote = broken.wrote }

  -- the line after them has no end
  endless_of : Stopped controls (IsEndless MAX_LINES) since before.read.rest leaves wrote now → Endless start script leaves wrote now
  unfolding broken_on stopped_alone
  endless_of is = record {
    broken = broken_on start script since before leaves wrote now (stopped_alone (λ state. state) AnswersControl EndsControl (λ _ _ _ _ _. ⊥) HasClosed since before.read.rest leaves wrote now (IsEndless MAX_LINES) is);
    long = is.is_so.1;
  }

  -- where the session ends with its run
  ends_of : (ended : Result Counts LinesFault) → ended ≢ Err fault.TooManyLines → (ended ≡ Err fault.Closed → HasClosed now) → engine.EndsBy controls MAX_LINES since leaves wrote now ended → EndsIn start script leaves wrote now (uncounted ended)
  ends_of (Ok counts) other shut is =
      inl (all_on start script since before leaves wrote now (counts_of counts) (ended_alone (λ state. state) AnswersControl EndsControl (λ _ _ _ _ _. ⊥) HasClosed since before.read.rest leaves wrote now counts
      (of_known left before.read.rest (λ (s : List ℕ). engine.Ended controls MAX_LINES since s leaves wrote now counts) before.read.left_is is)))
  ends_of (Err fault.Read) other shut is =
      broken_on start script since before leaves wrote now (stopped_alone (λ state. state) AnswersControl EndsControl (λ _ _ _ _ _. ⊥) HasClosed since before.read.rest leaves wrote now (λ lines part. Unit {0})
      (of_known left before.read.rest (λ (s : List ℕ). Stopped controls (λ lines part. Unit {0}) since s leaves wrote now) before.read.left_is is))
  ends_of (Err fault.Write) other shut is =
      cut_on start script since before leaves wrote now (cut_alone (λ state. state) AnswersControl EndsControl (λ _ _ _ _ _. ⊥) HasClosed since before.read.rest leaves wrote now
      (of_known left before.read.rest (λ (s : List ℕ). engine.Cut controls since s leaves wrote now) before.read.left_is is))
  ends_of (Err fault.TooManyLines) other shut is = absurd (other refl)
  ends_of (Err fault.EndlessLine) other shut is = endless_of (of_known left before.read.rest (λ (s : List ℕ). Stopped controls (IsEndless MAX_LINES) since s leaves wrote now) before.read.left_is is)
  ends_of (Err fault.Closed) other shut is =
      let stopped = of_known left before.read.rest (λ (s : List ℕ). Stopped controls (λ lines part. part ≡ []) since s leaves wrote now) before.read.left_is is in
      inr (shut refl, some_of (λ lines part. part ≡ []) stopped stopped.is_so)

  -- as many lines as a run may have were answered
  full_of : engine.EndsBy controls MAX_LINES since leaves wrote now (Err fault.TooManyLines) → AnsweredSome start script leaves wrote now
  full_of is =
      let stopped = of_known left before.read.rest (λ (s : List ℕ). Stopped controls (IsFull MAX_LINES leaves) since s leaves wrote now) before.read.left_is is in
      some_of (IsFull MAX_LINES leaves) stopped stopped.is_so.1

-- what was answered so far, where the bytes of the input are known
abbrev pub SoFar : Start ControlState → Option (List ℕ) → Option (List ℕ) → ControlState → Type 0
SoFar start left written state = IfSome start.left (λ script. AnsweredSome start script left written state)

-- before the first line
pub none_so_far : (state : ControlState) (left written : Option (List ℕ)) → SoFar (start_at state left written) left written state
none_so_far state None written = tt
none_so_far state (Some script) written = some
  where
    some : AnsweredSome (start_at state (Some script) written) script (Some script) written state
    some = record { lines = []; read = LinesRead-none script; replies = []; made = refl; wrote = Appends-nil written }

module _ (start : Start ControlState) (left written : Option (List ℕ)) (state : ControlState) (before : SoFar start left written state) (leaves wrote : Option (List ℕ)) (now : ControlState) where
  -- another run begins
  pub more_so_far : HasEnded controls MAX_LINES (start_at state left written) leaves wrote now (Err fault.TooManyLines) → SoFar start leaves wrote now
  more_so_far is =
      OnTold start.left _ _ (λ script some. full_of start script left written state some leaves wrote now
      (subst (λ (s : ControlState). engine.EndsBy controls MAX_LINES (start_at state left written) leaves wrote s (Err fault.TooManyLines)) (sym is.moved) is.ends_by)) before

  -- the session ends with the run
  pub session_ends : (ended : Result Counts LinesFault) → ended ≢ Err fault.TooManyLines → (ended ≡ Err fault.Closed → HasClosed now) → HasEnded controls MAX_LINES (start_at state left written) leaves wrote now ended → ControlEnds start leaves wrote now (uncounted ended)
  session_ends ended other shut is =
      OnTold start.left _ _ (λ script some. ends_of start script left written state some leaves wrote now ended other shut
      (subst (λ (s : ControlState). engine.EndsBy controls MAX_LINES (start_at state left written) leaves wrote s ended) (sym is.moved) is.ends_by)) before

-- ---- why a session may end so

module _ (read write end closed : Type 0) where
  -- a session that was closed
  pub session_shut : (ended : Result Counts LinesFault) → CanEnd read write end closed ended → ended ≡ Err fault.Closed → closed
  session_shut (Ok counts) can is = absurd (cc)
  session_shut (Err fault.Read) can is = absurd (cc)
  session_shut (Err fault.Write) can is = absurd (cc)
  session_shut (Err fault.TooManyLines) can is = absurd (cc)
  session_shut (Err fault.EndlessLine) can is = absurd (cc)
  session_shut (Err fault.Closed) can is = can

-- out of memory is no end of a session
pub no_memory : (ended : Result Counts LinesFault) → IsErrOf (uncounted ended) Memory → ⊥
no_memory (Ok counts) is = cc
no_memory (Err fault.Read) is = cc
no_memory (Err fault.Write) is = cc
no_memory (Err fault.TooManyLines) is = cc
no_memory (Err fault.EndlessLine) is = cc
no_memory (Err fault.Closed) is = cc

-- what the reader knows that is given back
pub client_knows : (reader now : LiveReaderValue) (old new : ControlState) → old ≡ at_rest reader → KnowsNoLess old.reader new.reader → now ≡ new.reader → KnowsNoLess reader now
client_knows reader now old new is knows same =
    subst (λ (r : LiveReaderValue). KnowsNoLess reader r) (sym same) (subst (λ (s : ControlState). KnowsNoLess s.reader new.reader) is knows)
