-- What a driver has read and written after each line.
use Rattle.std.proofs.Common.{◌≡◌, ◌≤◌, ℕ, Bool, Option, List, [], ◌∷◌, ◌++◌, length, Vec, refl, sym, ap, ◌∙◌, subst, arith, append_assoc, append-nil, length-append, ◌≢◌, ◌⊎◌, ◌+◌, ◌<◌, true, false, None, Some, IfSome, OnSome, inl, inr}
use Rattle.std.specs.Prelude.{Result, Ok, Err, OnErr}
use Rattle.std.proofs.KnownBytes.{Appends-nil, Appends-trans, Consumes-kept, Consumes-nil}
use Rattle.std.specs.Io.KnownBytes.{Appends, IsAtEnd, Keeps}
use Rattle.std.specs.declared.alloc.Global.{Global}
use Rattle.std.proofs.lemmas.List.Elements.{All-nil}
use Rattle.pn_line.specs.Sent.{AppendsPrefix}
use Rattle.pn_line.specs.Line.{LineBufferValue, so_far, Takes}
use Rattle.pn_line.specs.declared.line_buffer.TheConstants.{ENDLESS}
use Rattle.pn_line.proofs.TextLaws.{ReadsPart-from_takes, text_of-nil}
use Rattle.pn_line.proofs.LineLaws.{with_bytes-nil}
use Rattle.pn_lines.specs.Driving.{Fails, SameLines, Writes, IsAfter, IsReading, Reads, Start, start_at}
use Rattle.pn_lines.specs.Engines.{EngineValue, dropping, new_engine, stage_after, with_lines, pending_left}
use Rattle.pn_lines.specs.Giving.{Gives}
use Rattle.pn_lines.specs.Handling.{Handling, IsPreorder}
use Rattle.pn_lines.specs.Standing.{Stands, count_by, count_of, IsLine, IsOver, newline_of, Asks}
use Rattle.pn_lines.specs.declared.handler.EndedBy.{EndedBy}
use Rattle.pn_lines.specs.declared.handler.EndedBy.TheVariants.{Newline, Input}
use Rattle.pn_lines.proofs.Standing.{Stands-given, Stands-answered}
use Rattle.pn_lines.specs.declared.engine.state.Stage.{Stage}
use Rattle.pn_lines.specs.declared.engine.state.Stage.TheVariants.{Reading, Pending, Ended as HasStopped}
use Rattle.pn_lines.proofs.Steps.{after_same}
use Rattle.pn_lines.proofs.Taking.{Asked-line}
use Rattle.pn_lines.specs.declared.engine.state.LinesEnd.TheVariants as end

-- Writing on.

module _ {V G : Type 0} (handling : Handling V G) where
  given_as : (start : V) (taken given gave ahead : List ℕ) (last : Bool) (machine : V) (run : EngineValue G) → given ≡ gave → Stands handling start taken given ahead last machine run → Stands handling start taken gave ahead last machine run
  given_as start taken given gave ahead last machine run same is = subst (λ (l : List ℕ). Stands handling start taken l ahead last machine run) same is

  -- nothing was written
  pub Writes-none : (before : Option (List ℕ)) (waited : List ℕ) (machine : V) (run : EngineValue G) → Writes handling before before waited waited machine machine run run
  Writes-none before waited machine run = record {
    sent = [];
    appends = Appends-nil before;
    stands = λ start taken out ahead last is. given_as start taken (out ++ waited) ((out ++ []) ++ waited) ahead last machine run (ap (λ (l : List ℕ). l ++ waited) (sym (append-nil out))) is;
  }

  -- the first bytes of what waits were written
  pub Writes-sent : (before after : Option (List ℕ)) (waited waits sent : List ℕ) (machine : V) (run : EngineValue G) → Appends before after sent → sent ++ waits ≡ waited → Writes handling before after waited waits machine machine run run
  Writes-sent before after waited waits sent machine run appends whole = record {
    sent = sent;
    appends = appends;
    stands = λ start taken out ahead last is.
        given_as start taken (out ++ waited) ((out ++ sent) ++ waits) ahead last machine run (ap (λ (l : List ℕ). out ++ l) (sym whole) ∙ sym (append_assoc out sent waits)) is;
  }

  -- text was given
  pub Writes-gave : (before : Option (List ℕ)) (old now : Vec ℕ Global) (machine : V) (run new : EngineValue G) → Gives run.left new.left old now → new ≡ record run { left = new.left } → Writes handling before before old.items now.items machine machine run new
  Writes-gave before old now machine run new gives others = record {
    sent = [];
    appends = Appends-nil before;
    stands = λ start taken out ahead last is.
        let left : ((out ++ []) ++ (old.items ++ gives.given)) ++ new.left ≡ (out ++ old.items) ++ (gives.given ++ new.left) = simp (append_assoc, append-nil) in
        let same : ((out ++ []) ++ now.items) ++ new.left ≡ (out ++ old.items) ++ run.left = ap (λ (l : List ℕ). ((out ++ []) ++ l) ++ new.left) gives.items ∙ left ∙ ap (λ (l : List ℕ). (out ++ old.items) ++ l) (sym gives.split) in
        let less : length new.left ≤ length run.left = omega (arith, ap length gives.split, length-append gives.given new.left) in
        subst (λ (r : EngineValue G). Stands handling start taken ((out ++ []) ++ now.items) ahead last machine r) (sym others)
        (Stands-given handling start taken (out ++ old.items) ((out ++ []) ++ now.items) ahead new.left last machine run same less is);
  }

  -- the handler and the engine went on
  pub Writes-went : (before : Option (List ℕ)) (waited : List ℕ) (was now : V) (old new : EngineValue G)
      → ((start : V) (taken given ahead : List ℕ) (last : Bool) → Stands handling start taken given ahead last was old → Stands handling start taken given ahead last now new) → Writes handling before before waited waited was now old new
  Writes-went before waited was now old new went = record {
    sent = [];
    appends = Appends-nil before;
    stands = λ start taken out ahead last is.
        given_as start taken (out ++ waited) ((out ++ []) ++ waited) ahead last now new (ap (λ (l : List ℕ). l ++ waited) (sym (append-nil out))) (went start taken (out ++ waited) ahead last is);
  }

  -- one after another
  pub Writes-then : (a b c : Option (List ℕ)) (waited between waits : List ℕ) (was mid now : V) (old step new : EngineValue G) → Writes handling a b waited between was mid old step → Writes handling b c between waits mid now step new
      → Writes handling a c waited waits was now old new
  Writes-then a b c waited between waits was mid now old step new first second = record {
    sent = first.sent ++ second.sent;
    appends = Appends-trans a b c first.sent second.sent first.appends second.appends;
    stands = λ start taken out ahead last is.
        given_as start taken (((out ++ first.sent) ++ second.sent) ++ waits) ((out ++ (first.sent ++ second.sent)) ++ waits) ahead last now new (ap (λ (l : List ℕ). l ++ waits) (append_assoc out first.sent second.sent))
        (second.stands start taken (out ++ first.sent) ahead last (first.stands start taken out ahead last is));
  }

  -- the sink failed as what waits was written
  pub Fails-sent : (a b c : Option (List ℕ)) (waited waits : List ℕ) (was now : V) (old new : EngineValue G) → Writes handling a b waited waits was now old new → AppendsPrefix b c waits → (new.left ≡ [] → ⊥) → Fails handling a c waited was now old new
  Fails-sent a b c waited waits was now old new writes prefix some = record {
    waits = prefix.back;
    writes = Writes-then a b c waited waits prefix.back was now now old new new writes (Writes-sent b c waits prefix.back prefix.sent now new prefix.appends prefix.whole);
    some = some;
  }

  -- it failed later
  pub Fails-then : (a b c : Option (List ℕ)) (waited between : List ℕ) (was mid now : V) (old step new : EngineValue G) → Writes handling a b waited between was mid old step → Fails handling b c between mid now step new → Fails handling a c waited was now old new
  Fails-then a b c waited between was mid now old step new first fails = record {
    waits = fails.waits;
    writes = Writes-then a b c waited between fails.waits was mid now old step new first fails.writes;
    some = fails.some;
  }

-- lines stay as they are counted
pub SameLines-trans : {G : Type 0} (a b c : EngineValue G) → SameLines a b → SameLines b c → SameLines a c
SameLines-trans a b c first second = record { lines = second.lines ∙ first.lines; most = second.most ∙ first.most }

pub SameLines-left : {G : Type 0} (run new : EngineValue G) → new ≡ record run { left = new.left } → SameLines run new
SameLines-left {G = G} run new is = record { lines = ap (λ (r : EngineValue G). r.counts.lines) is; most = ap (λ (r : EngineValue G). r.most) is }

-- what holds where there was an error
pub on_fault : {T E : Type 0} (result : Result T E) (P : Type 0) → P → OnErr result P
on_fault (Ok done) P holds = tt
on_fault (Err fault) P holds = holds

-- how many lines a line counts for
pub count_by-length : (ended : EndedBy) (line : List ℕ) → count_by ended (length line) ≡ count_of ended line
count_by-length Newline line = refl
count_by-length Input [] = refl
count_by-length Input (b ∷ line) = refl

-- what holds where bytes are known holds of them
on_told : (left : Option (List ℕ)) (P Q : List ℕ → Type 0) → ((bytes : List ℕ) → P bytes → Q bytes) → IfSome left P → IfSome left Q
on_told None P Q f holds = tt
on_told (Some bytes) P Q f holds = f bytes holds

-- nothing was read
pub Takes-kept : (left leaves : Option (List ℕ)) → Keeps left leaves → Takes (so_far []) (so_far []) left leaves []
Takes-kept left leaves kept = record {
  taken = [];
  unbroken = All-nil (λ (b : ℕ). b ≢ 10);
  line = sym (with_bytes-nil (so_far []));
  source = Consumes-kept left left leaves [] (Consumes-nil left) kept;
}

pub Takes-same : (left : Option (List ℕ)) → Takes (so_far []) (so_far []) left left []
Takes-same left = record { taken = []; unbroken = All-nil (λ (b : ℕ). b ≢ 10); line = sym (with_bytes-nil (so_far [])); source = Consumes-nil left }

-- once the last part is answered, no more is taken
pub after_all : {G : Type 0} (left : G → ℕ) (ended : EndedBy) (stage : Stage G) → IsAfter ended stage → pending_left left stage ≡ 0 → stage ≡ stage_after ended
after_all left ended (Reading dropped) is none = cc
after_all left ended (Pending g of) is none = absurd (omega (arith, none))
after_all left ended (HasStopped end.Input) is none = cc
after_all left ended (HasStopped end.Closed) is none = absurd is
after_all left ended (HasStopped end.TooManyLines) is none = absurd is
after_all left ended (HasStopped end.EndlessLine) is none = absurd is

ends_here : (left leaves : Option (List ℕ)) (rest more : List ℕ) → left ≡ Some rest → leaves ≡ Some more → OnSome left (IsAtEnd leaves) → more ≡ []
ends_here left leaves rest more is leaves_is closing =
    let known : OnSome (Some rest) (IsAtEnd leaves) = subst (λ (l : Option (List ℕ)). OnSome l (IsAtEnd leaves)) is closing in
    let over : IsAtEnd (Some more) = subst (λ (l : Option (List ℕ)). IsAtEnd l) leaves_is known in
    over

-- where an engine reads, it stands whether more will come or not
Stands-last : {V G : Type 0} (handling : Handling V G) (start : V) (taken given ahead : List ℕ) (last close : Bool) (machine : V) (run : EngineValue G) → Stands handling start taken given ahead last machine (dropping 0 run) → Stands handling start taken given ahead close machine (dropping 0 run)
Stands-last handling start taken given ahead last close machine run is = record {
  lines = is.lines;
  rest = is.rest;
  taken_is = is.taken_is;
  are_lines = is.are_lines;
  few = is.few;
  replies = is.replies;
  reached = is.reached;
  made = is.made;
  more = is.more;
  texts = is.texts;
  refused = is.refused;
  stage = (record { moved = is.stage.0.moved; unbroken = is.stage.0.unbroken; dropped_is = is.stage.0.dropped_is; counted = is.stage.0.counted }, is.stage.1);
}

module _ {V G : Type 0} (handling : Handling V G) (start : Start V) where
  -- what was written and waits changed as it was written
  pub Reads-writes : (left before after : Option (List ℕ)) (waited waits : List ℕ) (last : Bool) (was now : V) (old new : EngineValue G) → Writes handling before after waited waits was now old new → Reads handling start left before waited last was old
      → Reads handling start left after waits last now new
  Reads-writes left before after waited waits last was now old new writes reads =
      on_told start.left (λ (input : List ℕ). IsReading handling start input left before waited last was old) (λ (input : List ℕ). IsReading handling start input left after waits last now new)
      (λ input is. record {
        taken = is.taken;
        rest = is.rest;
        out = is.out ++ writes.sent;
        input_is = is.input_is;
        left_is = is.left_is;
        wrote = Appends-trans start.written before after is.out writes.sent is.wrote writes.appends;
        stands = writes.stands start.machine is.taken is.out [] last is.stands;
        at_end = is.at_end;
      }) reads

  -- a line was read and asked
  pub Reads-line : (left leaves written : Option (List ℕ)) (replies : List ℕ) (last : Bool) (was now : V) (old new : EngineValue G) (line : LineBufferValue) (ended : EndedBy) → IsPreorder handling.moves → old.stage ≡ Reading 0 → old.left ≡ []
      → (old.counts.lines < old.most) ⊎ ((ended ≡ Input) × (line.count ≡ 0)) → line.count < ENDLESS → Takes (so_far []) line left leaves (newline_of ended) → IsOver ended [] last → (last ≡ true → OnSome left (IsAtEnd leaves))
      → ((text : List ℕ) → line ≡ so_far text → Asks handling ended text was now (with_lines (count_of ended text) old) new) → Reads handling start left written replies false was old → Reads handling start leaves written replies last now new
  Reads-line left leaves written replies last was now old new line ended steady reading made few short takes over closes asks reads =
      on_told start.left (λ (input : List ℕ). IsReading handling start input left written replies false was old) (λ (input : List ℕ). IsReading handling start input leaves written replies last now new)
      (λ input is.
      let known : Takes (so_far []) line (Some is.rest) leaves (newline_of ended) = subst (λ (l : Option (List ℕ)). Takes (so_far []) line l leaves (newline_of ended)) is.left_is takes in
      let part = ReadsPart-from_takes [] is.rest (All-nil (λ (b : ℕ). b ≢ 10)) known in
      let text = part.taken in
      let asked = asks text part.line in
      let count : line.count ≡ length text = ap (λ (l : LineBufferValue). l.count) part.line in
      let stands = subst (λ (s : Stage G). Stands handling start.machine is.taken (is.out ++ replies) [] false was (record old { stage = s })) reading is.stands in
      let fits = fits_in text ended few count stands.few in
      let taken = Asked-line handling start.machine is.taken (is.out ++ replies) [] [] last was old now text ended asked.answer steady (record { unbroken = part.unbroken; short = omega (arith, count, short) }) over fits asked.answered (Stands-last handling start.machine is.taken (is.out ++ replies) [] false last was old stands) in
      let has = asked.has ∙ after_same handling asked.answer ended (with_lines (count_of ended text) old) in
      record {
        taken = is.taken ++ (text ++ newline_of ended);
        rest = part.rest;
        out = is.out;
        input_is = is.input_is ∙ ap (λ (l : List ℕ). is.taken ++ l) (part.text_is ∙ sym (append_assoc text (newline_of ended) part.rest)) ∙ sym (append_assoc is.taken (text ++ newline_of ended) part.rest);
        left_is = part.leaves_is;
        wrote = is.wrote;
        stands = subst (λ (r : EngineValue G). Stands handling start.machine (is.taken ++ (text ++ newline_of ended)) (is.out ++ replies) [] last now r) (sym has)
            (Stands-answered handling start.machine (is.taken ++ (text ++ newline_of ended)) (is.out ++ replies) [] last now (with_lines (count_of ended text) (dropping 0 old)) ended asked.answer made taken);
        at_end = λ closing. ends_here left leaves is.rest part.rest is.left_is part.leaves_is (closes closing);
      }) reads
    where
      fits_in : (text : List ℕ) (of : EndedBy) → (old.counts.lines < old.most) ⊎ ((of ≡ Input) × (line.count ≡ 0)) → line.count ≡ length text → old.counts.lines ≤ old.most → old.counts.lines + count_of of text ≤ old.most
      fits_in text Newline (inl below) count most = omega (arith, below)
      fits_in text Newline (inr none) count most = cc
      fits_in [] Input few count most = omega (arith, most)
      fits_in (b ∷ text) Input (inl below) count most = omega (arith, below)
      fits_in (b ∷ text) Input (inr none) count most = absurd (omega (arith, none.1, count))

  -- all that waited was written
  pub Reads-sent : (left before after : Option (List ℕ)) (waited waits : List ℕ) (last : Bool) (machine : V) (run : EngineValue G) → waits ≡ [] → Appends before after waited → Reads handling start left before waited last machine run
      → Reads handling start left after waits last machine run
  Reads-sent left before after waited waits last machine run none sent reads =
      Reads-writes left before after waited waits last machine machine run run (Writes-sent handling before after waited waits waited machine run sent (ap (λ (l : List ℕ). waited ++ l) none ∙ append-nil waited)) reads

  -- a prefix of it was
  pub Reads-cut : (left before after : Option (List ℕ)) (waited : List ℕ) (last : Bool) (machine : V) (run : EngineValue G) (prefix : AppendsPrefix before after waited) → Reads handling start left before waited last machine run
      → Reads handling start left after prefix.back last machine run
  Reads-cut left before after waited last machine run prefix reads =
      Reads-writes left before after waited prefix.back last machine machine run run (Writes-sent handling before after waited prefix.back prefix.sent machine run prefix.appends prefix.whole) reads

-- more will come, so the input is not at its end
pub not_last : (P : Type 0) → false ≡ true → P
not_last P same = let no : ⊥ = cc in absurd no

module _ {V G : Type 0} (handling : Handling V G) (steady : IsPreorder handling.moves) (machine : V) where
  -- before the first line
  pub Stands-new : (most : ℕ) → Stands handling machine [] [] [] false machine (new_engine most)
  Stands-new most = record {
    lines = [];
    rest = [];
    taken_is = ap (λ (l : List ℕ). l ++ []) (sym text_of-nil);
    are_lines = All-nil IsLine;
    few = omega arith;
    replies = [];
    reached = machine;
    made = refl;
    more = [];
    texts = refl;
    refused = omega arith;
    stage = (record { moved = steady.stays machine; unbroken = All-nil (λ (b : ℕ). b ≢ 10); dropped_is = refl; counted = inl (refl, refl) }, refl);
  }

  pub Reads-new : (left written : Option (List ℕ)) (replies : List ℕ) (run : EngineValue G) → replies ≡ [] → run ≡ new_engine run.most → Reads handling (start_at machine left written) left written replies false machine run
  Reads-new None written replies run none new = tt
  Reads-new (Some input) written replies run none new = record {
    taken = [];
    rest = input;
    out = [];
    input_is = refl;
    left_is = refl;
    wrote = Appends-nil written;
    stands = subst (λ (l : List ℕ). Stands handling machine [] l [] false machine run) (sym none) (subst (λ (r : EngineValue G). Stands handling machine [] [] [] false machine r) (sym new) (Stands-new run.most));
    at_end = λ same. not_last (input ≡ []) same;
  }
