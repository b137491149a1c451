-- A whole input that comes in pieces and is answered in turns, with whatever becomes of the handler between them.
use Rattle.std.proofs.Common.{◌≡◌, ◌≢◌, ℕ, Bool, List, [], ◌∷◌, ◌++◌, All, refl, sym, ap, ◌∙◌, subst, append_assoc, append-nil, ◌⊎◌, true, false, true≢false, Option, None, Some, IfSome, OnSome, inl, inr, ⊎_elim}
use Rattle.std.specs.Prelude.{Ok}
use Rattle.std.proofs.lemmas.List.Elements.{All-head, All-tail}
use Rattle.std.specs.Io.KnownBytes.{Appends, Consumes, IsAtEnd}
use Rattle.std.proofs.KnownBytes.{Appends-nil, Appends-trans}
use Rattle.pn_line.specs.Line.{IsUnbroken}
use Rattle.pn_line.specs.Text.{text_of}
use Rattle.pn_line.proofs.TextLaws.{text_of-cons, text_of-nil}
use Rattle.pn_lines.specs.Engines.{EngineValue}
use Rattle.pn_lines.specs.Handling.{Replied, texts_of, Answers, Handling, IsPreorder}
use Rattle.pn_lines.specs.Standing.{AllAnswer, IsLine, StageAt, Stands}
use Rattle.pn_lines.specs.declared.engine.state.Stage.{Stage}
use Rattle.pn_lines.specs.declared.engine.state.Stage.TheVariants.{Ended}
use Rattle.pn_lines.specs.declared.handler.EndedBy.{EndedBy}
use Rattle.pn_lines.specs.declared.handler.EndedBy.TheVariants.{Newline, Input}
use Rattle.pn_lines.specs.Driving.{IsReading, Ended as HasAnswered, HasEnded, Start, start_at}
use Rattle.pn_lines.specs.Turns.{IsKept, Rests, TurnValue, is_last, new_turns, Finishes, Follows, Moment, Moved, Moves, Turned, at}
use Rattle.pn_lines.specs.declared.turns.Pause.{Pause}
use Rattle.pn_lines.specs.declared.turns.SourceState.{SourceState}
use Rattle.pn_lines.specs.declared.turns.SourceState.TheVariants.{Open, AtEnd, Failed}
use Rattle.pn_lines.specs.declared.turns.TurnOutcome.{TurnOutcome}
use Rattle.pn_lines.specs.declared.turns.TurnOutcome.TheVariants.{Goes, Ended as Over, Failed as Broken}
use Rattle.pn_lines.proofs.Ending.{Ends-all}
use Rattle.pn_lines.proofs.Reading.{Stands-new}
use Rattle.pn_lines.proofs.Standing.{Stands-moved}
use Rattle.pn_lines.specs.declared.engine.state.LinesEnd.TheVariants as end

-- What is given does not depend on how the input came in pieces, nor on when there was room.

-- a newline breaks what it stands in
broken : (xs ys : List ℕ) → IsUnbroken (xs ++ 10 ∷ ys) → ⊥
broken [] ys unbroken = All-head (λ (b : ℕ). b ≢ 10) 10 ys unbroken refl
broken (x ∷ xs) ys unbroken = broken xs ys (All-tail (λ (b : ℕ). b ≢ 10) x (xs ++ 10 ∷ ys) unbroken)

-- the first newline is at one place
same_line : (xs ys more also : List ℕ) → IsUnbroken xs → IsUnbroken ys → xs ++ 10 ∷ more ≡ ys ++ 10 ∷ also → (xs ≡ ys) × (more ≡ also)
same_line [] [] more also first second is = let all : 10 ∷ more ≡ 10 ∷ also = is in (refl, cc)
same_line [] (y ∷ ys) more also first second is =
    let all : 10 ∷ more ≡ y ∷ (ys ++ 10 ∷ also) = is in
    let head : y ≡ 10 = cc in
    absurd (All-head (λ (b : ℕ). b ≢ 10) y ys second head)
same_line (x ∷ xs) [] more also first second is =
    let all : x ∷ (xs ++ 10 ∷ more) ≡ 10 ∷ also = is in
    let head : x ≡ 10 = cc in
    absurd (All-head (λ (b : ℕ). b ≢ 10) x xs first head)
same_line (x ∷ xs) (y ∷ ys) more also first second is =
    let all : x ∷ (xs ++ 10 ∷ more) ≡ y ∷ (ys ++ 10 ∷ also) = is in
    let head : x ≡ y = cc in
    let tail : xs ++ 10 ∷ more ≡ ys ++ 10 ∷ also = cc in
    let rest = same_line xs ys more also (All-tail (λ (b : ℕ). b ≢ 10) x xs first) (All-tail (λ (b : ℕ). b ≢ 10) y ys second) tail in
    (ap (λ (b : ℕ). b ∷ xs) head ∙ ap (λ (l : List ℕ). y ∷ l) rest.0, rest.1)

-- a text has its lines in one way
pub same_lines : (lines others : List (List ℕ)) (part rest : List ℕ) → All IsLine lines → All IsLine others → IsUnbroken part → IsUnbroken rest → text_of lines ++ part ≡ text_of others ++ rest → (lines ≡ others) × (part ≡ rest)
same_lines [] [] part rest first second unbroken whole is = (refl, ap (λ (l : List ℕ). l ++ part) (sym text_of-nil) ∙ is ∙ ap (λ (l : List ℕ). l ++ rest) text_of-nil)
same_lines [] (b ∷ others) part rest first second unbroken whole is =
    let all : part ≡ b ++ 10 ∷ (text_of others ++ rest) = ap (λ (l : List ℕ). l ++ part) (sym text_of-nil) ∙ is ∙ ap (λ (l : List ℕ). l ++ rest) (text_of-cons b others) ∙ append_assoc b (10 ∷ text_of others) rest in
    absurd (broken b (text_of others ++ rest) (subst IsUnbroken all unbroken))
same_lines (a ∷ lines) [] part rest first second unbroken whole is =
    let all : rest ≡ a ++ 10 ∷ (text_of lines ++ part) = ap (λ (l : List ℕ). l ++ rest) (sym text_of-nil) ∙ sym is ∙ ap (λ (l : List ℕ). l ++ part) (text_of-cons a lines) ∙ append_assoc a (10 ∷ text_of lines) part in
    absurd (broken a (text_of lines ++ part) (subst IsUnbroken all whole))
same_lines (a ∷ lines) (b ∷ others) part rest first second unbroken whole is =
    let left : text_of (a ∷ lines) ++ part ≡ a ++ 10 ∷ (text_of lines ++ part) = ap (λ (l : List ℕ). l ++ part) (text_of-cons a lines) ∙ append_assoc a (10 ∷ text_of lines) part in
    let right : text_of (b ∷ others) ++ rest ≡ b ++ 10 ∷ (text_of others ++ rest) = ap (λ (l : List ℕ). l ++ rest) (text_of-cons b others) ∙ append_assoc b (10 ∷ text_of others) rest in
    let head = All-head IsLine a lines first in
    let other = All-head IsLine b others second in
    let line = same_line a b (text_of lines ++ part) (text_of others ++ rest) head.unbroken other.unbroken (sym left ∙ is ∙ right) in
    let more = same_lines lines others part rest (All-tail IsLine a lines first) (All-tail IsLine b others second) unbroken whole line.1 in
    (ap (λ (l : List ℕ). l ∷ lines) line.0 ∙ ap (λ (ls : List (List ℕ)). b ∷ ls) more.0, more.1)

module _ {V G : Type 0} (handling : Handling V G) where
  -- its answers are functions of the line, and nothing becomes of it between them
  pub record IsDetermined : Type 0 where
    pub same : (was now also : V) (ended : EndedBy) (line : List ℕ) (a b : Replied) → handling.answers was ended line now a → handling.answers was ended line also b → (now ≡ also) × (a ≡ b)
    pub stays : (a b : V) → handling.moves a b → b ≡ a

  module _ (determined : IsDetermined) where
    same_answer : (was now also : V) (ended : EndedBy) (line : List ℕ) (a b : Replied) → Answers handling was ended line now a → Answers handling was ended line also b → (now ≡ also) × (a ≡ b)
    same_answer was now also ended line a b first second =
        determined.same was now also ended line a b
        (subst (λ (v : V). handling.answers v ended line now a) (determined.stays was first.between first.moved) first.answered)
        (subst (λ (v : V). handling.answers v ended line also b) (determined.stays was second.between second.moved) second.answered)

    pub same_answers : (was : V) (lines : List (List ℕ)) (replies others : List Replied) (now also : V) → AllAnswer handling was lines replies now → AllAnswer handling was lines others also → (replies ≡ others) × (now ≡ also)
    same_answers was [] [] [] now also first second = (refl, first ∙ sym second)
    same_answers was [] [] (b ∷ others) now also first second = absurd second
    same_answers was [] (a ∷ replies) others now also first second = absurd first
    same_answers was (l ∷ lines) [] others now also first second = absurd first
    same_answers was (l ∷ lines) (a ∷ replies) [] now also first second = absurd second
    same_answers was (l ∷ lines) (a ∷ replies) (b ∷ others) now also first second =
        let one = same_answer was first.0 second.0 Newline l a b first.1 second.1 in
        let more = same_answers second.0 lines replies others now also (subst (λ (v : V). AllAnswer handling v lines replies now) one.0 first.2) second.2 in
        (ap (λ (r : Replied). r ∷ replies) one.1 ∙ ap (λ (rs : List Replied). b ∷ rs) more.0, more.1)

    -- two ways to the end of the same input gave the same
    pub same_given : (start : V) (taken given gave ahead also : List ℕ) (last close : Bool) (machine other : V) (run ran : EngineValue G) → run.stage ≡ Ended end.Input → ran.stage ≡ Ended end.Input → run.left ≡ [] → ran.left ≡ []
        → Stands handling start taken given ahead last machine run → Stands handling start taken gave also close other ran → given ≡ gave
    same_given start taken given gave ahead also last close machine other run ran ended over made done first second =
        let one = subst (λ (s : Stage G). StageAt handling s run.counts.lines run.most run.left (record { lines = first.lines; rest = first.rest; ahead = ahead; last = last; reached = first.reached; now = machine }) first.more) ended first.stage in
        let two = subst (λ (s : Stage G). StageAt handling s ran.counts.lines ran.most ran.left (record { lines = second.lines; rest = second.rest; ahead = also; last = close; reached = second.reached; now = other }) second.more) over second.stage in
        let rest_one : first.rest ≡ one.1.line = one.1.rest_is ∙ append-nil one.1.line in
        let rest_two : second.rest ≡ two.1.line = two.1.rest_is ∙ append-nil two.1.line in
        let lines = same_lines first.lines second.lines first.rest second.rest first.are_lines second.are_lines (subst IsUnbroken (sym rest_one) one.1.is_line.unbroken) (subst IsUnbroken (sym rest_two) two.1.is_line.unbroken) (sym first.taken_is ∙ second.taken_is) in
        let replies = same_answers start second.lines first.replies second.replies first.reached second.reached (subst (λ (ls : List (List ℕ)). AllAnswer handling start ls first.replies first.reached) lines.0 first.made) second.made in
        let line : one.1.line ≡ two.1.line = sym rest_one ∙ lines.1 ∙ rest_two in
        let asked_one : Answers handling second.reached Input two.1.line one.1.between one.0 =
        subst (λ (l : List ℕ). Answers handling second.reached Input l one.1.between one.0) line
        (subst (λ (v : V). Answers handling v Input one.1.line one.1.between one.0) replies.1 (record { between = one.1.first; moved = one.1.moved; answered = one.1.answered })) in
        let asked_two : Answers handling second.reached Input two.1.line two.1.between two.0 = record { between = two.1.first; moved = two.1.moved; answered = two.1.answered } in
        let last_same = same_answer second.reached one.1.between two.1.between Input two.1.line one.0 two.0 asked_one asked_two in
        let texts_one : given ≡ texts_of first.replies ++ texts_of (one.0 ∷ []) = sym (append-nil given) ∙ ap (λ (l : List ℕ). given ++ l) (sym made) ∙ first.texts ∙ ap (λ (rs : List Replied). texts_of first.replies ++ texts_of rs) one.2 in
        let texts_two : gave ≡ texts_of second.replies ++ texts_of (two.0 ∷ []) = sym (append-nil gave) ∙ ap (λ (l : List ℕ). gave ++ l) (sym done) ∙ second.texts ∙ ap (λ (rs : List Replied). texts_of second.replies ++ texts_of rs) two.2 in
        texts_one ∙ ap (λ (rs : List Replied). texts_of rs ++ texts_of (one.0 ∷ [])) replies.0 ∙ ap (λ (r : Replied). texts_of second.replies ++ texts_of (r ∷ [])) last_same.1 ∙ sym texts_two

-- A whole input that is answered in turns, with whatever becomes of the handler between them.

-- what came last ends the source
last_at_end : (state : SourceState) → is_last state ≡ true → state ≡ AtEnd
last_at_end Open last = absurd (true≢false (sym last))
last_at_end AtEnd last = refl
last_at_end Failed last = absurd (true≢false (sym last))

not_ended : Open ≡ AtEnd → ⊥
not_ended ended = cc

-- what is left after some bytes came
left_after : (rest came : List ℕ) (leaves : Option (List ℕ)) → Consumes (Some rest) leaves came → (later : List ℕ) × (leaves ≡ Some later) × (rest ≡ came ++ later)
left_after rest came None comes = absurd comes
left_after rest came (Some later) comes = (later, refl, comes)

end_is : (rest later : List ℕ) (leaves : Option (List ℕ)) → leaves ≡ Some later → OnSome (Some rest) (IsAtEnd leaves) → later ≡ []
end_is rest later leaves is done = subst IsAtEnd is done

-- the bytes in their order, before and after some were taken
pieces_are : (input taken unread rest came later took left : List ℕ) → input ≡ taken ++ (unread ++ rest) → rest ≡ came ++ later → unread ++ came ≡ took ++ left → input ≡ (taken ++ took) ++ (left ++ later)
pieces_are input taken unread rest came later took left whole more split =
    whole ∙ ap (λ (l : List ℕ). taken ++ (unread ++ l)) more ∙ ap (λ (l : List ℕ). taken ++ l) (sym (append_assoc unread came later) ∙ ap (λ (l : List ℕ). l ++ later) split ∙ append_assoc took left later)
    ∙ sym (append_assoc taken took (left ++ later))

module _ {V G : Type 0} (handling : Handling V G) (steady : IsPreorder handling.moves) where
  -- nothing was read
  pub Follows-new : (machine : V) (input : List ℕ) (written : Option (List ℕ)) (most : ℕ) → Follows handling (start_at machine (Some input) written) input (at (Some input) written machine (new_turns most))
  Follows-new machine input written most = record {
    taken = [];
    rest = input;
    out = [];
    input_is = refl;
    left_is = refl;
    wrote = Appends-nil written;
    at_end = λ ended. absurd (not_ended ended);
    stands = Stands-new handling steady machine most;
  }

  pub Follows-begun : (machine : V) (left written : Option (List ℕ)) (kept : TurnValue G) → kept ≡ new_turns kept.engine.most → IfSome left (λ (bytes : List ℕ). Follows handling (start_at machine left written) bytes (at left written machine kept))
  Follows-begun machine None written kept new = tt
  Follows-begun machine (Some input) written kept new =
      subst (λ (k : TurnValue G). Follows handling (start_at machine (Some input) written) input (at (Some input) written machine k)) (sym new) (Follows-new machine input written kept.engine.most)

  module _ (start : Start V) (input : List ℕ) where
    -- a turn
    pub Follows-turn : (moved : Moved) (old new : Moment V G) → Moves handling moved old new → Follows handling start input old → Follows handling start input new
    Follows-turn moved old new moves is =
        let after = left_after is.rest moved.came new.left (subst (λ (l : Option (List ℕ)). Consumes l new.left moved.came) is.left_is moves.comes) in
        record {
          taken = is.taken ++ moved.took;
          rest = after.0;
          out = is.out ++ moved.went;
          input_is = pieces_are input is.taken old.kept.unread is.rest moved.came after.0 moved.took new.kept.unread is.input_is after.2 moves.unread;
          left_is = after.1;
          wrote = Appends-trans start.written old.written new.written is.out moved.went is.wrote moves.goes;
          at_end = λ ended.
              ⊎_elim
              (λ (before : (old.kept.source ≡ AtEnd) × (moved.came ≡ [])). sym (ap (λ (l : List ℕ). l ++ after.0) before.1) ∙ sym after.2 ∙ is.at_end before.0)
              (λ (done : OnSome old.left (IsAtEnd new.left)). end_is is.rest after.0 new.left after.1 (subst (λ (l : Option (List ℕ)). OnSome l (IsAtEnd new.left)) is.left_is done))
              (moves.ends ended);
          stands = moves.stands start.machine is.taken is.out is.stands;
        }

    -- the handler answers others in between
    pub Follows-moved : (now : V) (old : Moment V G) → handling.moves old.machine now → Follows handling start input old → Follows handling start input (record old { machine = now })
    Follows-moved now old moves is = record {
      taken = is.taken;
      rest = is.rest;
      out = is.out;
      input_is = is.input_is;
      left_is = is.left_is;
      wrote = is.wrote;
      at_end = is.at_end;
      stands = Stands-moved handling start.machine is.taken (is.out ++ old.kept.replies) old.kept.unread (is_last old.kept.source) old.machine old.kept.engine steady now moves is.stands;
    }

    -- all was answered and written
    module _ (now : Moment V G) (over : now.kept.engine.stage ≡ Ended end.Input) (none : now.kept.replies ≡ []) (made : now.kept.engine.left ≡ []) (is : Follows handling start input now) where
      ended_at : (now.kept.unread ≡ []) × (is_last now.kept.source ≡ true)
      ended_at =
          let run = now.kept.engine in
          let asked = subst (λ (s : Stage G). StageAt handling s run.counts.lines run.most run.left (record { lines = is.stands.lines; rest = is.stands.rest; ahead = now.kept.unread; last = is_last now.kept.source; reached = is.stands.reached; now = now.machine }) is.stands.more) over is.stands.stage in
          asked.1.over

      nothing_left : is.rest ≡ []
      nothing_left = is.at_end (last_at_end now.kept.source ended_at.1)

      all_taken : is.taken ≡ input
      all_taken = sym (is.input_is ∙ ap (λ (l : List ℕ). is.taken ++ (l ++ is.rest)) ended_at.0 ∙ ap (λ (l : List ℕ). is.taken ++ l) nothing_left ∙ append-nil is.taken)

      -- it ends as the driver that waits ends
      pub Follows-ended : (most : ℕ) → start.left ≡ Some input → most ≡ now.kept.engine.most → HasEnded handling most start now.left now.written now.machine (Ok now.kept.engine.counts)
      Follows-ended most told same =
          let run = now.kept.engine in
          let replies = now.kept.replies in
          let stands = subst (λ (b : Bool). Stands handling start.machine is.taken (is.out ++ replies) [] b now.machine run) ended_at.1
          (subst (λ (l : List ℕ). Stands handling start.machine is.taken (is.out ++ replies) l (is_last now.kept.source) now.machine run) ended_at.0 is.stands) in
          Ends-all handling start most now.left now.written replies now.machine run over none made same steady
          (subst (λ (l : Option (List ℕ)). IfSome l (λ (bytes : List ℕ). IsReading handling start bytes now.left now.written replies true now.machine run)) (sym told)
          (record {
            taken = is.taken;
            rest = is.rest;
            out = is.out;
            input_is = is.input_is ∙ ap (λ (l : List ℕ). is.taken ++ (l ++ is.rest)) ended_at.0;
            left_is = is.left_is;
            wrote = is.wrote;
            stands = stands;
            at_end = λ last. nothing_left;
          }))

  -- two ways to the end of the same input wrote the same
  pub Follows-same : IsDetermined handling → (start also : Start V) (input : List ℕ) (now other : Moment V G) → start.machine ≡ also.machine → now.kept.engine.stage ≡ Ended end.Input → other.kept.engine.stage ≡ Ended end.Input
      → now.kept.replies ≡ [] → other.kept.replies ≡ [] → now.kept.engine.left ≡ [] → other.kept.engine.left ≡ [] → (one : Follows handling start input now) (two : Follows handling also input other) → one.out ≡ two.out
  Follows-same determined start also input now other same over ended none nothing made done one two =
      let first = subst (λ (l : List ℕ). Stands handling start.machine l (one.out ++ now.kept.replies) now.kept.unread (is_last now.kept.source) now.machine now.kept.engine) (all_taken start input now over none made one) one.stands in
      let second = subst (λ (v : V). Stands handling v input (two.out ++ other.kept.replies) other.kept.unread (is_last other.kept.source) other.machine other.kept.engine) (sym same)
      (subst (λ (l : List ℕ). Stands handling also.machine l (two.out ++ other.kept.replies) other.kept.unread (is_last other.kept.source) other.machine other.kept.engine) (all_taken also input other ended nothing done two) two.stands) in
      let given = same_given handling determined start.machine input (one.out ++ now.kept.replies) (two.out ++ other.kept.replies) now.kept.unread other.kept.unread (is_last now.kept.source) (is_last other.kept.source) now.machine other.machine now.kept.engine other.kept.engine over ended made done first second in
      sym (append-nil one.out) ∙ ap (λ (l : List ℕ). one.out ++ l) (sym none) ∙ given ∙ ap (λ (l : List ℕ). two.out ++ l) nothing ∙ append-nil two.out

-- what holds of known bytes leads to what holds of them then
if_known : (known : Option (List ℕ)) (P Q : List ℕ → Type 0) → ((bytes : List ℕ) → P bytes → Q bytes) → IfSome known P → IfSome known Q
if_known None P Q then is = tt
if_known (Some bytes) P Q then is = then bytes is

pub some_is : {A : Type 0} (x y : A) → Some x ≡ Some y → x ≡ y
some_is x y is = cc

kept_engine : {G : Type 0} (outcome : TurnOutcome) (reached kept : TurnValue G) → IsKept outcome reached kept → kept.engine ≡ reached.engine
kept_engine (Goes pause) reached kept is = ap (λ (k : TurnValue _). k.engine) is
kept_engine (Over end) reached kept is = is.0
kept_engine (Broken fault) reached kept is = is.0

module _ {V G : Type 0} (handling : Handling V G) (left : G → ℕ) (steady : IsPreorder handling.moves) (start : Start V) where
  -- a turn after which it goes on
  pub Follows-pending : (known : Option (List ℕ)) (old new : Moment V G) (pause : Pause) → Turned handling left old new (Goes pause) → IfSome known (λ (bytes : List ℕ). Follows handling start bytes old)
      → IfSome known (λ (bytes : List ℕ). Follows handling start bytes new)
  Follows-pending known old new pause turned is =
      if_known known (λ (bytes : List ℕ). Follows handling start bytes old) (λ (bytes : List ℕ). Follows handling start bytes new)
      (λ bytes follows. subst (λ (k : TurnValue G). Follows handling start bytes (record new { kept = k })) (sym turned.kept) (Follows-turn handling steady start bytes turned.moved old (at new.left new.written new.machine turned.reached) turned.moves follows)) is

  -- others have the handler in between
  pub Follows-between : (known : Option (List ℕ)) (old : Moment V G) (now : V) → handling.moves old.machine now → IfSome known (λ (bytes : List ℕ). Follows handling start bytes old)
      → IfSome known (λ (bytes : List ℕ). Follows handling start bytes (record old { machine = now }))
  Follows-between known old now moves is =
      if_known known (λ (bytes : List ℕ). Follows handling start bytes old) (λ (bytes : List ℕ). Follows handling start bytes (record old { machine = now }))
      (λ bytes follows. Follows-moved handling steady start bytes now old moves follows) is

  -- a turn after which it does not
  pub Follows-finished : (old new : Moment V G) (outcome : TurnOutcome) → Turned handling left old new outcome → IfSome start.left (λ (bytes : List ℕ). Follows handling start bytes old)
      → Finishes handling start new.left new.written new.machine new.kept.engine outcome
  Follows-finished old new outcome turned is =
      if_known start.left (λ (bytes : List ℕ). Follows handling start bytes old)
      (λ (bytes : List ℕ). (reached : TurnValue G) × Rests reached outcome × (new.kept.engine ≡ reached.engine) × Follows handling start bytes (at new.left new.written new.machine reached))
      (λ bytes follows. (turned.reached, turned.rests, kept_engine outcome turned.reached new.kept turned.kept, Follows-turn handling steady start bytes turned.moved old (at new.left new.written new.machine turned.reached) turned.moves follows)) is

  -- the same where all was answered
  ended_by : (known : Option (List ℕ)) → start.left ≡ known → (new : Moment V G)
      → IfSome known (λ (bytes : List ℕ). (reached : TurnValue G) × Rests reached (Over end.Input) × (new.kept.engine ≡ reached.engine) × Follows handling start bytes (at new.left new.written new.machine reached))
      → HasEnded handling new.kept.engine.most start new.left new.written new.machine (Ok new.kept.engine.counts)
  ended_by None told new is = record {
    reached = new.machine;
    moved = steady.stays new.machine;
    ends_by = subst (λ (l : Option (List ℕ)). IfSome l (λ (bytes : List ℕ). HasAnswered handling new.kept.engine.most start bytes new.left new.written new.machine new.kept.engine.counts)) (sym told) tt;
  }
  ended_by (Some bytes) told new is =
      subst (λ (e : EngineValue G). HasEnded handling e.most start new.left new.written new.machine (Ok e.counts)) (sym is.2)
      (Follows-ended handling steady start bytes (at new.left new.written new.machine is.0) is.1.1.0 is.1.0 is.1.1.1 is.3 is.0.engine.most told refl)

  pub Follows-over : (new : Moment V G) (outcome : TurnOutcome) → outcome ≡ Over end.Input → Finishes handling start new.left new.written new.machine new.kept.engine outcome
      → HasEnded handling new.kept.engine.most start new.left new.written new.machine (Ok new.kept.engine.counts)
  Follows-over new outcome over is = ended_by start.left refl new (subst (λ (o : TurnOutcome). Finishes handling start new.left new.written new.machine new.kept.engine o) over is)
