-- What the steps of an engine do to where it stands.
use Rattle.std.proofs.Common.{◌≡◌, ◌≢◌, ◌+◌, ◌-◌, ◌≤◌, ◌^◌, ℕ, Bool, List, [], ◌∷◌, ◌++◌, length, min, inl, refl, sym, ap, ◌∙◌, subst, arith, append_assoc, append-nil, length-append}
use Rattle.std.proofs.lemmas.List.Elements.{All-nil, All-cons, All-append}
use Rattle.pn_line.specs.Text.{text_of}
use Rattle.pn_line.proofs.TextLaws.{text_of-push}
use Rattle.pn_lines.specs.Answers.{AnswerValue, AnswersBy, done, pending}
use Rattle.pn_lines.specs.Engines.{EngineValue, after_answer, with_refusal}
use Rattle.pn_lines.specs.Handling.{IsPreorder, Replied, one_if, refusals_of, texts_of, Answers, GivesUp, Handling}
use Rattle.pn_lines.specs.Standing.{AllAnswer, IsAsked, IsLine, Position, StageAt, Stands, StandsBy}
use Rattle.pn_lines.specs.declared.engine.state.LinesEnd.TheVariants as end
use Rattle.pn_lines.specs.declared.engine.state.Stage.{Stage}
use Rattle.pn_lines.specs.declared.engine.state.Stage.TheVariants.{Reading, Pending, Ended}
use Rattle.pn_lines.specs.declared.handler.EndedBy.{EndedBy}
use Rattle.pn_lines.specs.declared.handler.EndedBy.TheVariants.{Newline, Input}

pub texts_of-append : (xs ys : List Replied) → texts_of (xs ++ ys) ≡ texts_of xs ++ texts_of ys
texts_of-append [] ys = refl
texts_of-append (x ∷ xs) ys = ap (λ (l : List ℕ). x.text ++ l) (texts_of-append xs ys) ∙ sym (append_assoc x.text (texts_of xs) (texts_of ys))

pub refusals_of-append : (xs ys : List Replied) → refusals_of (xs ++ ys) ≡ refusals_of xs + refusals_of ys
refusals_of-append [] ys = omega arith
refusals_of-append (x ∷ xs) ys = omega (arith, refusals_of-append xs ys)

-- one reply more
texts_of-push : (xs : List Replied) (x : Replied) → texts_of (xs ++ x ∷ []) ≡ texts_of xs ++ x.text
texts_of-push xs x = texts_of-append xs (x ∷ []) ∙ ap (λ (l : List ℕ). texts_of xs ++ l) (append-nil x.text)

pub no_length : {A : Type 0} (xs : List A) → length xs ≤ 0 → xs ≡ []
no_length [] short = refl
no_length (x ∷ xs) short = absurd (omega (arith, short))

module _ {V G : Type 0} (handling : Handling V G) where
  -- one line more was answered
  pub AllAnswer-push : (was : V) (lines : List (List ℕ)) (replies : List Replied) (between now : V) (line : List ℕ) (replied : Replied) → AllAnswer handling was lines replies between
      → Answers handling between Newline line now replied → AllAnswer handling was (lines ++ line ∷ []) (replies ++ replied ∷ []) now
  AllAnswer-push was [] [] between now line replied made one = (now, subst (λ (v : V). Answers handling v Newline line now replied) made one, refl)
  AllAnswer-push was [] (r ∷ replies) between now line replied made one = absurd made
  AllAnswer-push was (l ∷ lines) [] between now line replied made one = absurd made
  AllAnswer-push was (l ∷ lines) (r ∷ replies) between now line replied made one = (made.0, made.1, AllAnswer-push made.0 lines replies between now line replied made.2 one)

  given_at : (stage : Stage G) (count most : ℕ) (left more : List ℕ) (at : Position V) (replies : List Replied) → length more ≤ length left → StageAt handling stage count most left at replies → StageAt handling stage count most more at replies
  given_at (Reading dropped) count most left more at replies less is = is
  given_at (Pending g ended) count most left more at replies less is = (is.0, is.1, no_length more (omega (arith, less, ap length is.2)))
  given_at (Ended end.Input) count most left more at replies less is = is
  given_at (Ended end.Closed) count most left more at replies less is = is
  given_at (Ended end.TooManyLines) count most left more at replies less is = is
  given_at (Ended end.EndlessLine) count most left more at replies less is = is

  -- text that was to be made was given
  pub Stands-given : (start : V) (taken given gave ahead left : List ℕ) (last : Bool) (machine : V) (run : EngineValue G) → gave ++ left ≡ given ++ run.left → length left ≤ length run.left → Stands handling start taken given ahead last machine run
      → Stands handling start taken gave ahead last machine (record run { left = left })
  Stands-given start taken given gave ahead left last machine run same less is = record {
    lines = is.lines;
    rest = is.rest;
    taken_is = is.taken_is;
    are_lines = is.are_lines;
    few = is.few;
    replies = is.replies;
    reached = is.reached;
    made = is.made;
    more = is.more;
    texts = same ∙ is.texts;
    refused = is.refused;
    stage = given_at run.stage run.counts.lines run.most run.left left (record { lines = is.lines; rest = is.rest; ahead = ahead; last = last; reached = is.reached; now = machine }) is.more less is.stage;
  }

  -- a line, or the last part, was taken and has this answer
  abbrev pub StandsAsked : EndedBy → AnswerValue G → V → List ℕ → List ℕ → List ℕ → Bool → V → EngineValue G → Type 0
  StandsAsked ended answer start taken given ahead last machine run =
      StandsBy handling (λ (at : Position V) (more : List Replied). IsAsked handling ended answer run.counts.lines at × (more ≡ [])) start taken given ahead last machine run

  module _ (start : V) (taken given ahead : List ℕ) (last : Bool) (machine : V) (run : EngineValue G) where
    -- what was given is the replies so far
    given_is : (replies more : List Replied) → run.left ≡ [] → more ≡ [] → given ++ run.left ≡ texts_of replies ++ texts_of more → given ≡ texts_of replies
    given_is replies more made none texts =
        sym (append-nil given) ∙ ap (λ (l : List ℕ). given ++ l) (sym made) ∙ texts ∙ ap (λ (l : List Replied). texts_of replies ++ texts_of l) none ∙ append-nil (texts_of replies)

    refused_is : (replies more : List Replied) (replied : Replied) → more ≡ [] → run.counts.refused ≡ min (refusals_of replies + refusals_of more) (2 ^ 64 - 1)
        → (with_refusal replied.refused run.counts).refused ≡ min (refusals_of replies + one_if replied.refused) (2 ^ 64 - 1)
    refused_is replies more replied none refused = let nothing : refusals_of more ≡ 0 = ap refusals_of none in omega arith

    -- its answer was taken
    pub Stands-answered : (ended : EndedBy) (answer : AnswerValue G) → run.left ≡ [] → StandsAsked ended answer start taken given ahead last machine run
        → Stands handling start taken given ahead last machine (after_answer answer ended run)
    Stands-answered ended (pending g) made is = record {
      lines = is.lines;
      rest = is.rest;
      taken_is = is.taken_is;
      are_lines = is.are_lines;
      few = is.few;
      replies = is.replies;
      reached = is.reached;
      made = is.made;
      more = is.more;
      texts = is.texts;
      refused = is.refused;
      stage = (is.stage.0, is.stage.1, made);
    }
    Stands-answered Input (done replied) made is =
        let all = given_is is.replies is.more made is.stage.1 is.texts in
        let count = refused_is is.replies is.more replied is.stage.1 is.refused in
        record {
          lines = is.lines;
          rest = is.rest;
          taken_is = is.taken_is;
          are_lines = is.are_lines;
          few = is.few;
          replies = is.replies;
          reached = is.reached;
          made = is.made;
          more = replied ∷ [];
          texts = ap (λ (l : List ℕ). l ++ replied.text) all ∙ ap (λ (l : List ℕ). texts_of is.replies ++ l) (sym (append-nil replied.text));
          refused = omega (arith, count);
          stage = (replied, is.stage.0, refl);
        }
    Stands-answered Newline (done replied) made is =
        let all = given_is is.replies is.more made is.stage.1 is.texts in
        let count = refused_is is.replies is.more replied is.stage.1 is.refused in
        let asked = is.stage.0 in
        record {
          lines = is.lines ++ asked.line ∷ [];
          rest = [];
          taken_is = is.taken_is ∙ ap (λ (l : List ℕ). text_of is.lines ++ l) asked.rest_is ∙ sym (text_of-push is.lines asked.line) ∙ sym (append-nil (text_of (is.lines ++ asked.line ∷ [])));
          are_lines = All-append IsLine is.lines (asked.line ∷ []) is.are_lines (All-cons IsLine asked.line [] asked.is_line (All-nil IsLine));
          few = is.few;
          replies = is.replies ++ replied ∷ [];
          reached = asked.between;
          made = AllAnswer-push start is.lines is.replies is.reached asked.between asked.line replied is.made (record { between = asked.first; moved = asked.moved; answered = asked.answered });
          more = [];
          texts = ap (λ (l : List ℕ). l ++ replied.text) all ∙ sym (texts_of-push is.replies replied) ∙ sym (append-nil (texts_of (is.replies ++ replied ∷ [])));
          refused = omega (arith, count, refusals_of-append is.replies (replied ∷ []));
          stage = (
            record {
              moved = asked.goes_on;
              unbroken = All-nil (λ (b : ℕ). b ≢ 10);
              dropped_is = refl;
              counted = inl (refl, asked.counted ∙ sym (length-append is.lines (asked.line ∷ [])));
            },
            refl,
          );
        }

    -- what is gone on with has an answer
    pub Asked-pending : IsPreorder handling.moves → (now : V) (g : G) (ended : EndedBy) (answer : AnswerValue G)
        → ((was between : V) (line : List ℕ) → handling.goes was ended line between g → handling.moves between machine → AnswersBy handling was ended line now answer)
        → Stands handling start taken given ahead last machine (record run { stage = Pending g ended }) → StandsAsked ended answer start taken given ahead last now run
    Asked-pending steady now g ended answer goes is =
        let asked = is.stage.0 in
        record {
          lines = is.lines;
          rest = is.rest;
          taken_is = is.taken_is;
          are_lines = is.are_lines;
          few = is.few;
          replies = is.replies;
          reached = is.reached;
          made = is.made;
          more = is.more;
          texts = is.texts;
          refused = is.refused;
          stage = (
            record {
              line = asked.line;
              first = asked.first;
              between = now;
              rest_is = asked.rest_is;
              is_line = asked.is_line;
              moved = asked.moved;
              answered = goes asked.first asked.between asked.line asked.answered asked.goes_on;
              goes_on = steady.stays now;
              counted = asked.counted;
              over = asked.over;
            },
            is.stage.1,
          );
        }

    -- an answer that is given up has a reply
    pub Stands-given_up : IsPreorder handling.moves → GivesUp handling → (g : G) (ended : EndedBy) → Stands handling start taken given ahead last machine (record run { stage = Pending g ended })
        → (replied : Replied) × Stands handling start taken given ahead last machine (after_answer (done replied) ended run)
    Stands-given_up steady gives_up g ended is =
        let asked = is.stage.0 in
        let up = gives_up asked.first asked.between machine ended asked.line g asked.answered asked.goes_on in (
          up.0,
          Stands-answered ended (done up.0) is.stage.2
              (record {
                lines = is.lines;
                rest = is.rest;
                taken_is = is.taken_is;
                are_lines = is.are_lines;
                few = is.few;
                replies = is.replies;
                reached = is.reached;
                made = is.made;
                more = is.more;
                texts = is.texts;
                refused = is.refused;
                stage = (
                  record {
                    line = asked.line;
                    first = up.1.between;
                    between = machine;
                    rest_is = asked.rest_is;
                    is_line = asked.is_line;
                    moved = steady.goes_on is.reached asked.first up.1.between asked.moved up.1.moved;
                    answered = up.1.answered;
                    goes_on = steady.stays machine;
                    counted = asked.counted;
                    over = asked.over;
                  },
                  is.stage.1,
                );
              }),
        )

    -- the handler moved
    moved_at : IsPreorder handling.moves → (now : V) → handling.moves machine now → (stage : Stage G) (lines : List (List ℕ)) (rest : List ℕ) (reached : V) (more : List Replied)
        → StageAt handling stage run.counts.lines run.most run.left (record { lines = lines; rest = rest; ahead = ahead; last = last; reached = reached; now = machine }) more
        → StageAt handling stage run.counts.lines run.most run.left (record { lines = lines; rest = rest; ahead = ahead; last = last; reached = reached; now = now }) more
    moved_at steady now moves (Reading dropped) lines rest reached more is =
        (record { moved = steady.goes_on reached machine now is.0.moved moves; unbroken = is.0.unbroken; dropped_is = is.0.dropped_is; counted = is.0.counted }, is.1)
    moved_at steady now moves (Pending g ended) lines rest reached more is =
        (record { line = is.0.line; first = is.0.first; between = is.0.between; rest_is = is.0.rest_is; is_line = is.0.is_line; moved = is.0.moved; answered = is.0.answered; goes_on = steady.goes_on is.0.between machine now is.0.goes_on moves; counted = is.0.counted; over = is.0.over }, is.1, is.2)
    moved_at steady now moves (Ended end.Input) lines rest reached more is =
        (is.0, record { line = is.1.line; first = is.1.first; between = is.1.between; rest_is = is.1.rest_is; is_line = is.1.is_line; moved = is.1.moved; answered = is.1.answered; goes_on = steady.goes_on is.1.between machine now is.1.goes_on moves; counted = is.1.counted; over = is.1.over }, is.2)
    moved_at steady now moves (Ended end.Closed) lines rest reached more is =
        (record { stopped = is.0.stopped; moved = is.0.moved; is_so = is.0.is_so; goes_on = steady.goes_on is.0.stopped machine now is.0.goes_on moves; unbroken = is.0.unbroken }, is.1)
    moved_at steady now moves (Ended end.TooManyLines) lines rest reached more is =
        (record { stopped = is.0.stopped; moved = is.0.moved; is_so = is.0.is_so; goes_on = steady.goes_on is.0.stopped machine now is.0.goes_on moves; unbroken = is.0.unbroken }, is.1)
    moved_at steady now moves (Ended end.EndlessLine) lines rest reached more is =
        (record { stopped = is.0.stopped; moved = is.0.moved; is_so = is.0.is_so; goes_on = steady.goes_on is.0.stopped machine now is.0.goes_on moves; unbroken = is.0.unbroken }, is.1)

    pub Stands-moved : IsPreorder handling.moves → (now : V) → handling.moves machine now → Stands handling start taken given ahead last machine run → Stands handling start taken given ahead last now run
    Stands-moved steady now moves is = record {
      lines = is.lines;
      rest = is.rest;
      taken_is = is.taken_is;
      are_lines = is.are_lines;
      few = is.few;
      replies = is.replies;
      reached = is.reached;
      made = is.made;
      more = is.more;
      texts = is.texts;
      refused = is.refused;
      stage = moved_at steady now moves run.stage is.lines is.rest is.reached is.more is.stage;
    }
