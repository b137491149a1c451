-- What was read of a publisher's input, one look after another, and what a stream's thread hands over of it.
use Rattle.std.proofs.Common.{◌≡◌, ℕ, ◌+◌, ◌<◌, ◌≤◌, max, min, pred, List, [], ◌++◌, length, Option, None, Some, IfSome, inl, inr, refl, sym, ap, ◌∙◌, subst, arith, length-append, nat_le, true, ◌∷◌}
use Rattle.std.specs.Prelude.{Result, Ok, Err, IfOk, MatchResult}
use Rattle.std.proofs.lemmas.Bool.{and_parts}
use Rattle.std.specs.Coded.{Coded-set, coded_list, le_prop, ×_prop}
use Rattle.std.proofs.Math.Logic.{∥∥₁_elim}
use Rattle.pn_join.specs.declared.marks.TheConstants.{LAST_POSITION}
use Rattle.pn_join.specs.Marks.{is_position}
use Rattle.pn_record.specs.declared.records.Image.{Image}
use Rattle.pn_tablet.specs.Proofs.{image_code}
use Rattle.pn_stream.specs.Batches.{Stream, Batch, SoFar}
use Rattle.pn_stream.specs.Brokers.{DeliveryValue, BrokerRecord, IsHonest}
use Rattle.pn_stream.specs.Calls.{Begins, Lacks}
use Rattle.pn_stream.specs.Streams.{Run, NoLine, IsLeft, InStep}
use Rattle.pn_stream.specs.declared.fault.StreamFault.{StreamFault}
use Rattle.pn_stream.proofs.Runs.{Run-append, Run-none, SoFar-none, on_rest}
use Rattle.pn_stream.specs.declared.reader.TheConstants.{MAX_MESSAGES}
use Rattle.pn_serve.specs.declared.server.messages.RoundMessages.{RoundMessages}
use Rattle.pn_serve.specs.declared.server.publisher_input.Given.TheVariants.{Messages as of_messages, Ended}
use Rattle.pn_serve.specs.declared.server.publishers.PublisherEnd.{PublisherEnd}
use Rattle.pn_serve.specs.declared.server.publishers.PublisherEnd.TheVariants.{End, Fault}
use Rattle.pn_serve.specs.Server.Publishers.{IsAllMessages, IsReadUpTo, BeginsWithin, EndsInput, Gives, IsUpTo, line_after, start_of, IsReaderFrom, AreHonestPublishers, IsOfPublisher, IsSent, MaySend, WasRead, IsSentReport}
use Rattle.pn_serve.specs.declared.server.reporting.StreamEnd.{StreamEnd}
use Rattle.pn_serve.specs.declared.server.reports.Report.{Report}
use Rattle.pn_serve.proofs.HonestStreams.{rest_is_honest, run_is_honest}
use Rattle.pn_serve.specs.declared.server.reports.Report.TheVariants as reports

-- What was read of a publisher's input, one look after another.

none_yet : (position : ℕ) (part : List ℕ) (left : Option (List ℕ)) → IfSome left (λ text. SoFar position (part ++ text) [] part left) → IfSome left (λ text. IsReadUpTo position (part ++ text) position part left)
none_yet position part None so = tt
none_yet position part (Some text) so = record { images = []; read = so; last_is = omega arith }

-- nothing is read yet
nothing : (position : ℕ) (part : List ℕ) (left : Option (List ℕ)) → IfSome left (λ text. IsReadUpTo position (part ++ text) position part left)
nothing position part left = none_yet position part left (SoFar-none position part [] left refl)

-- once more messages were read
one_more : (least most position last : ℕ) (front part now : List ℕ) (images : List Image) (first left leaves : Option (List ℕ)) (fault : Option StreamFault) → fault ≡ None
    → IfSome first (λ text. IsReadUpTo position (front ++ text) last part left) → IfSome left (λ text. Batch least most last (part ++ text) images fault now leaves)
    → IfSome first (λ text. IsReadUpTo position (front ++ text) (last + length images) now leaves)
one_more least most position last front part now images None left leaves fault none read batch = tt
one_more least most position last front part now images (Some text) left leaves (Some fault) none read batch = let waits = none in cc
one_more least most position last front part now images (Some text) left leaves None none read batch =
    let more = on_rest read.read.rest part left (λ (t : List ℕ). Batch least most last t images None now leaves) read.read.is_left batch in
    let run : Run (position + length read.images) read.read.rest images more.rest = subst (λ (n : ℕ). Run n read.read.rest images more.rest) read.last_is more.run in
    record {
      images = read.images ++ images;
      read = record { rest = more.rest; run = Run-append position (front ++ text) read.read.rest more.rest read.images images read.read.run run; is_left = more.ends.1 };
      last_is = omega (arith, read.last_is, length-append read.images images);
    }

-- once no whole line was found after some messages
all_messages : (position last : ℕ) (front part now : List ℕ) (first left leaves : Option (List ℕ)) → IfSome first (λ text. IsReadUpTo position (front ++ text) last part left)
    → IfSome left (λ text. Batch 1 MAX_MESSAGES last (part ++ text) [] None now leaves) → IfSome first (λ text. IsAllMessages position (front ++ text) last)
all_messages position last front part now None left leaves read batch = tt
all_messages position last front part now (Some text) left leaves read batch =
    let more = on_rest read.read.rest part left (λ (t : List ℕ). Batch 1 MAX_MESSAGES last t [] None now leaves) read.read.is_left batch in
    let run : Run (position + length read.images) read.read.rest [] more.rest = subst (λ (n : ℕ). Run n read.read.rest [] more.rest) read.last_is more.run in
    record {
      images = read.images ++ [];
      rest = more.rest;
      run = Run-append position (front ++ text) read.read.rest more.rest read.images [] read.read.run run;
      last_is = omega (arith, read.last_is, length-append read.images []);
      no_line = elim more.ends.0 [
        | inl enough ↦ absurd (omega (arith, enough.0))
        | inr few ↦ few.1
      ];
    }

-- where there is no whole line at all
no_messages : (position last : ℕ) (front now : List ℕ) (first leaves : Option (List ℕ)) → last ≡ position → IfSome first (λ text. NoLine (front ++ text) × IsLeft (front ++ text) now leaves)
    → IfSome first (λ text. IsAllMessages position (front ++ text) last)
no_messages position last front now None leaves is lacks = tt
no_messages position last front now (Some text) leaves is lacks =
    record { images = []; rest = front ++ text; run = Run-none position (front ++ text); last_is = omega (arith, is); no_line = lacks.0 }

-- messages in step were read of a publisher's input, from its first one on, unless a fault waits
pub record WasReadBy {S : Type 0} (left : S → Option (List ℕ)) (before : Option ℕ) (old : Stream S) (now : Option ℕ) (new : Stream S) : Type 0 where
  pub begins : BeginsWithin before now old.position
  pub read : new.fault ≡ None → (old.fault ≡ None)
      × IfSome (left old.source) (λ text. IsReadUpTo (start_of before now old.position) (old.part ++ text) new.position new.part (left new.source))
  pub nothing_yet : now ≡ None → new ≡ old

module _ {S : Type 0} (left : S → Option (List ℕ)) where
  -- before the first look
  pub read_none : (before : Option ℕ) (stream : Stream S) → WasReadBy left before stream before stream
  read_none (Some before) stream =
      record { begins = refl; read = λ none. (none, nothing stream.position stream.part (left stream.source)); nothing_yet = λ no. absurd (cc) }
  read_none None stream =
      record { begins = tt; read = λ none. (none, nothing stream.position stream.part (left stream.source)); nothing_yet = λ no. refl }

  next_ones : (before : Option ℕ) (first old new : Stream S) (messages : RoundMessages) (from : ℕ) (next : Option ℕ) → WasReadBy left before first (Some from) old
      → Gives left (Some from) old (of_messages messages) next new → WasReadBy left before first next new
  next_ones before first old new messages from next was gives =
      let same : next ≡ Some from = gives.0 in
      let start : start_of before (Some from) first.position ≡ start_of before next first.position = ap (λ (n : Option ℕ). start_of before n first.position) (sym same) in
      record {
        begins = subst (λ (n : Option ℕ). BeginsWithin before n first.position) (sym same) was.begins;
        read = λ none.
            let so = was.read gives.1.0 in (
              so.0,
              subst (λ (n : ℕ). IfSome (left first.source) (λ text. IsReadUpTo n (first.part ++ text) new.position new.part (left new.source))) start
                  (subst (λ (n : ℕ). IfSome (left first.source) (λ text. IsReadUpTo (start_of before (Some from) first.position) (first.part ++ text) n new.part (left new.source))) (sym gives.1.2)
                  (one_more 1 MAX_MESSAGES (start_of before (Some from) first.position) old.position first.part old.part new.part messages.delivery.images (left first.source) (left old.source) (left new.source) new.fault none so.1 gives.1.3)),
            );
        nothing_yet = λ no. let some = sym same ∙ no in absurd (cc);
      }

  first_one : (old new : Stream S) (messages : RoundMessages) (next : Option ℕ) → Gives left None old (of_messages messages) next new → WasReadBy left None old next new
  first_one old new messages next gives =
      let begins : Begins left old new messages.delivery = gives.2 in
      let from = pred new.position in
      let least = begins.least in
      let at : from + length messages.delivery.images ≡ new.position = omega (arith, begins.one, least) in
      let read : IfSome (left old.source) (λ text. IsReadUpTo from (old.part ++ text) new.position new.part (left new.source)) =
      subst (λ (n : ℕ). IfSome (left old.source) (λ text. IsReadUpTo from (old.part ++ text) n new.part (left new.source))) at
      (one_more 1 1 from from old.part old.part new.part messages.delivery.images (left old.source) (left old.source) (left new.source) None refl (nothing from old.part (left old.source)) begins.batch)
      in
      subst (λ (n : Option ℕ). WasReadBy left None old n new) (sym gives.1) (record {
        begins = omega (arith, begins.most, least);
        read = λ none. (gives.0, read);
        nothing_yet = λ no. absurd (cc);
      })

  -- once more messages were given
  pub read_on : (before : Option ℕ) (first old new : Stream S) (messages : RoundMessages) (now next : Option ℕ) → WasReadBy left before first now old
      → Gives left now old (of_messages messages) next new → WasReadBy left before first next new
  read_on before first old new messages (Some from) next was gives = next_ones before first old new messages from next was gives
  read_on (Some before) first old new messages None next was gives = let no = was.begins in absurd (cc)
  read_on None first old new messages None next was gives =
      let same = was.nothing_yet refl in
      subst (λ (o : Stream S). Gives left None o (of_messages messages) next new → WasReadBy left None first next new) (sym same)
      (first_one first new messages next) gives

  -- positions rise, but that the first message may have any one
  pub last_more : (before : Option ℕ) (first old new : Stream S) (messages : RoundMessages) (now next : Option ℕ) (was last : ℕ) → WasReadBy left before first now old
      → Gives left now old (of_messages messages) next new → first.position ≤ was → last ≡ max was old.position → max last new.position ≡ max was new.position
  last_more before first old new messages (Some from) next was last so gives within is = omega (arith, gives.1.2, is)
  last_more before first old new messages None next was last so gives within is =
      let same : old.position ≡ first.position = ap (λ (s : Stream S). s.position) (so.nothing_yet refl) in omega (arith, same, within, is)

  -- messages that were given are those up to the position
  pub up_to : (old new : Stream S) (messages : RoundMessages) (now next : Option ℕ) → Gives left now old (of_messages messages) next new → new.name ≡ old.name → IsUpTo new messages.delivery
  up_to old new messages (Some from) next gives name =
      let first : messages.delivery.first ≡ min (old.position + 1) LAST_POSITION = ap (λ (d : DeliveryValue). d.first) gives.1.1 in
      (ap (λ (d : DeliveryValue). d.stream) gives.1.1 ∙ sym name, λ within. omega (arith, first, gives.1.2, within))
  up_to old new messages None next gives name =
      let begins : Begins left old new messages.delivery = gives.2 in
      let first : messages.delivery.first ≡ new.position = ap (λ (d : DeliveryValue). d.first) begins.value in
      (ap (λ (d : DeliveryValue). d.stream) begins.value ∙ sym name, λ within. omega (arith, first, begins.one))

  -- how the input ended
  pub ends_input : (before : Option ℕ) (first old new : Stream S) (end : PublisherEnd) (now next : Option ℕ) → WasReadBy left before first now old
      → Gives left now old (Ended end) next new → EndsInput left before first end next new
  ends_input before first old new End (Some from) next was gives =
      let same : next ≡ Some from = gives.0 in
      let so = was.read gives.1.0 in
      let all = all_messages (start_of before (Some from) first.position) old.position first.part old.part new.part (left first.source) (left old.source) (left new.source) so.1 gives.1.3 in
      subst (λ (n : Option ℕ). EndsInput left before first End n new) (sym same) (
        so.0,
        was.begins,
        subst (λ (n : ℕ). IfSome (left first.source) (λ text. IsAllMessages (start_of before (Some from) first.position) (first.part ++ text) n)) (sym gives.1.2) all,
      )
  ends_input (Some before) first old new End None next was gives = let no = was.begins in absurd (cc)
  ends_input None first old new End None next was gives =
      let same : next ≡ None = gives.1 in
      let at : old ≡ first = was.nothing_yet refl in
      let lacks : Lacks left first new = subst (λ (o : Stream S). Lacks left o new) at gives.2 in
      let fault : first.fault ≡ None = subst (λ (o : Stream S). o.fault ≡ None) at gives.0 in
      subst (λ (n : Option ℕ). EndsInput left None first End n new) (sym same)
      (fault, tt, no_messages first.position new.position first.part new.part (left first.source) (left new.source) lacks.position lacks.none)
  ends_input before first old new (Fault fault position line) (Some from) next was gives =
      let same : next ≡ Some from = gives.0 in
      let at : new.position ≡ old.position = gives.1.1 in
      subst (λ (n : Option ℕ). EndsInput left before first (Fault fault position line) n new) (sym same)
      (gives.1.2 ∙ ap (λ (n : ℕ). n + 1) (sym at), gives.1.3 ∙ ap (λ (n : ℕ). line_after (Some from) n) (sym at))
  ends_input before first old new (Fault fault position line) None next was gives =
      let same : next ≡ None = gives.0 in
      let at : new.position ≡ old.position = gives.2 in
      subst (λ (n : Option ℕ). EndsInput left before first (Fault fault position line) n new) (sym same)
      (gives.3 ∙ ap (λ (n : ℕ). n + 1) (sym at), gives.4)

-- what holds of how an input ended, where it is answered
pub on_end : {E : Type 0} (answer : Result PublisherEnd E) (end : PublisherEnd) (P : PublisherEnd → Type 0) → IfOk answer (λ ended. ended ≡ end) → P end → IfOk answer P
on_end (Err error) end P same holds = tt
on_end (Ok ended) end P same holds = subst P (sym same) holds

-- What the thread of a stream hands over was read of what a publisher of the stream may send, and so it is honest where they are.

within_positions : (n : ℕ) → is_position n ≡ true → n ≤ LAST_POSITION
within_positions n is = grind (arith, (and_parts (nat_le 1 n) (nat_le n LAST_POSITION) is).1)

-- the first of some messages in step has a position of a stream
first_within : (position : ℕ) (lines : List (List ℕ)) (images : List Image) → InStep position lines images → 1 ≤ length images → position + 1 ≤ LAST_POSITION
first_within position [] [] step some = absurd (omega (arith, some))
first_within position [] (image ∷ images) step some = absurd step
first_within position (line ∷ lines) [] step some = absurd step
first_within position (line ∷ lines) (image ∷ images) step some = within_positions (position + 1) step.1.spelled.position

module _ {S : Type 0} (left : S → Option (List ℕ)) (sends : List ℕ → List ℕ → Type 0) where
  -- a new reader of a source is of the publisher that may send what that has left
  pub begun : (name : List ℕ) (last : ℕ) (source : S) (reader : Stream S) → IsReaderFrom name last reader → reader.source ≡ source → MaySend sends name (left source) → IsOfPublisher sends left reader
  begun name last source reader is same may = (
    may.0,
    ap left same ∙ may.1,
    subst (λ (n : List ℕ). sends n (reader.part ++ may.0)) (sym is.0) (subst (λ (part : List ℕ). sends name (part ++ may.0)) (sym is.2) may.2),
  )

  first_read : (first new : Stream S) (messages : RoundMessages) (next : Option ℕ) → IsUpTo new messages.delivery → new.name ≡ first.name → IsOfPublisher sends left first
      → Gives left None first (of_messages messages) next new → WasRead sends messages.delivery
  first_read first new messages next up same of gives =
      let begins : Begins left first new messages.delivery = gives.2 in
      let text = first.part ++ of.0 in
      let batch : Batch 1 1 (pred new.position) text messages.delivery.images None new.part (left new.source) =
      subst (λ (l : Option (List ℕ)). IfSome l (λ rest. Batch 1 1 (pred new.position) (first.part ++ rest) messages.delivery.images None new.part (left new.source))) of.1 begins.batch in
      let first_at : messages.delivery.first ≡ new.position = ap (λ (d : DeliveryValue). d.first) begins.value in
      let least = begins.least in
      let at : pred new.position ≡ pred new.position + 0 = omega arith in
      record {
        text = text;
        sent = subst (λ (n : List ℕ). sends n text) (sym (up.0 ∙ same)) of.2;
        start = pred new.position;
        before = [];
        from = text;
        skipped = Run-none (pred new.position) text;
        rest = batch.rest;
        run = subst (λ (n : ℕ). Run n text messages.delivery.images batch.rest) at batch.run;
        first_is = omega (arith, first_at, least);
      }

  -- messages that a publisher gives were read of its text
  pub was_read : (before : Option ℕ) (first old new : Stream S) (messages : RoundMessages) (now next : Option ℕ) → WasReadBy left before first now old → Gives left now old (of_messages messages) next new
      → IsUpTo new messages.delivery → new.name ≡ first.name → IsOfPublisher sends left first → WasRead sends messages.delivery
  was_read before first old new messages (Some from) next was gives up same of =
      let start = start_of before (Some from) first.position in
      let text = first.part ++ of.0 in
      let so : IsReadUpTo start text old.position old.part (left old.source) =
      subst (λ (l : Option (List ℕ)). IfSome l (λ rest. IsReadUpTo start (first.part ++ rest) old.position old.part (left old.source))) of.1 (was.read gives.1.0).1 in
      let more =
      on_rest so.read.rest old.part (left old.source) (λ (t : List ℕ). Batch 1 MAX_MESSAGES old.position t messages.delivery.images new.fault new.part (left new.source)) so.read.is_left gives.1.3 in
      let first_at : messages.delivery.first ≡ min (old.position + 1) LAST_POSITION = ap (λ (d : DeliveryValue). d.first) gives.1.1 in
      let within = first_within old.position more.run.lines messages.delivery.images more.run.in_step messages.fit.0 in
      let at = so.last_is in
      record {
        text = text;
        sent = subst (λ (n : List ℕ). sends n text) (sym (up.0 ∙ same)) of.2;
        start = start;
        before = so.images;
        from = so.read.rest;
        skipped = so.read.run;
        rest = more.rest;
        run = subst (λ (n : ℕ). Run n so.read.rest messages.delivery.images more.rest) at more.run;
        first_is = omega (arith, first_at, within, at);
      }
  was_read (Some before) first old new messages None next was gives up same of = let no = was.begins in absurd (cc)
  was_read None first old new messages None next was gives up same of =
      let none = was.nothing_yet refl in
      subst (λ (o : Stream S). Gives left None o (of_messages messages) next new → WasRead sends messages.delivery) (sym none) (first_read first new messages next up same of) gives

-- the last report of a stream has no messages
pub no_messages_sent : (known : Type 0) (sends : List ℕ → List ℕ → Type 0) (ended : Result StreamEnd (List ℕ)) (report : Report)
    → MatchResult ended (λ end. report ≡ reports.End end.name) (λ name. report ≡ reports.Fault name) → IsSentReport known sends report
no_messages_sent known sends (Ok end) report is = subst (IsSentReport known sends) (sym is) tt
no_messages_sent known sends (Err name) report is = subst (IsSentReport known sends) (sym is) tt

-- what was read of what publishers may send is honest, where all that they may send is
pub read_is_honest : (broker : BrokerRecord) (sends : List ℕ → List ℕ → Type 0) (delivery : DeliveryValue) → AreHonestPublishers broker sends → WasRead sends delivery → IsHonest broker delivery
read_is_honest broker sends delivery honest read =
    let rest = rest_is_honest broker delivery.stream read.text read.from read.start read.before (honest delivery.stream read.text read.sent) read.skipped in
    let is = run_is_honest broker delivery.stream read.from read.rest (read.start + length read.before) delivery.images rest read.run in
    subst (λ (n : ℕ). IsHonest broker (record { stream = delivery.stream; first = n; images = delivery.images })) (sym read.first_is) is

honest-prop : (broker : BrokerRecord) (delivery : DeliveryValue) → IsProp (IsHonest broker delivery)
honest-prop broker delivery = ×_prop le_prop (Coded-set (coded_list image_code) _ _)

pub sent_is_honest : (broker : BrokerRecord) (known : Type 0) (sends : List ℕ → List ℕ → Type 0) → known → AreHonestPublishers broker sends → (delivery : DeliveryValue) → IsSent known sends delivery → IsHonest broker delivery
sent_is_honest broker known sends is honest delivery sent = ∥∥₁_elim sent (honest-prop broker delivery) (λ read. read_is_honest broker sends delivery honest (read is))
