-- Each mailbox was asked once.
use Rattle.std.proofs.Common.{◌≡◌, List, map, ℕ, ◌∷◌, [], ◌++◌, length, refl, sym, ap, ◌∙◌, subst, arith, length-append, append_assoc}
use Rattle.std.specs.Prelude.{vec_capacity}
use Rattle.std.specs.List.{All}
use Rattle.std.specs.Vec.Iter.{into_iter_items}
use Rattle.std.proofs.lemmas.List.Elements.{All-nil, All-same}
use Rattle.pn_serve.specs.Server.Messages.{FitRound}
use Rattle.pn_serve.specs.Server.Rounds.{IsInputOf, Note, value_of, Continues, RoundInputValue}
use Rattle.pn_serve.specs.Server.Publishers.{IsSent}
use Rattle.pn_serve.specs.declared.server.mailboxes.StreamMailbox.{StreamMailbox}
use Rattle.pn_serve.proofs.Gatherings.{asked_none, asked_on, asked_off, sent_on, map_push}
use Rattle.pn_serve.proofs.server.rounds.gather.Goals as goal

pub loop-stream-init : goal.loop-stream-init
loop-stream-init g c =
    let none = c.in-Ok.ensures.none in
    let deliveries = ap (λ (v : RoundInputValue). v.deliveries) none in
    let few = ap (λ (v : RoundInputValue). length v.deliveries) none in
    let left_none : c.replace-streams.new.dest.items ≡ [] = cc (c.replace-streams.ensures.after, c.in-Ok.ensures.left) in
    let left_few = ap length left_none in
    let given : into_iter_items c.into_iter-stream-iterator.result ≡ c.replace-streams.result.items = c.into_iter-stream-iterator.ensures.into_iter_gives.0 in
    let count = c.args.mailboxes.now.streams.ok.0 in
    let capacity_left : vec_capacity c.replace-streams.new.dest ≡ vec_capacity c.in-Ok.left = cc (c.replace-streams.ensures.after) in
    record {
      gathered = asked_none c.args.marks.now (value_of c.in-Ok.input) (map (λ (s : StreamMailbox g.row.M.Denot g.M.Sending). s.name) c.replace-streams.new.dest.items) none (ap (map (λ (s : StreamMailbox g.row.M.Denot g.M.Sending). s.name)) left_none);
      all = cc (given, c.replace-streams.ensures.value);
      fit = All-same FitRound _ [] deliveries (All-nil FitRound);
      continues = All-same (Continues c.args.marks.now) _ [] deliveries (All-nil (Continues c.args.marks.now));
      sent = All-same (IsSent g.M.Sending.known g.M.Sending.sends) _ [] deliveries (All-nil (IsSent g.M.Sending.known g.M.Sending.sends));
      few = omega (arith, few);
      few_left = omega (arith, left_few);
      capacity = omega (arith, c.in-Ok.ensures.capacity, c.len.ensures, count);
      capacity_left = omega (arith, capacity_left, c.in-Ok.ensures.capacity_left, c.len.ensures, count);
      at_fault = refl;
    }

pub loop-stream-preserved-then-add_report : goal.loop-stream-preserved-then-add_report
loop-stream-preserved-then-add_report g c =
    let name = λ (s : StreamMailbox g.row.M.Denot g.M.Sending). s.name in
    let marks = c.args.marks.now in
    let so_far = c.loop-stream.invariant in
    let yielded = c.loop-stream.yielded in
    let stream = c.in-Some.stream in
    let note : Note = record { name = stream.name; report = c.take-report.result } in
    let left = c.loop-stream.mailboxes.streams.items in
    let length_is = length-append yielded (stream ∷ []) in
    let one = c.add_report.ensures.one in
    let on = asked_on (map name yielded) marks (value_of c.loop-stream.input) (map name left) note so_far.gathered c.take-report.ensures.own (sym c.add_report.ensures.goes_on ∙ c.if-add_report.true) in
    let pushed : map name c.push_reserved.new.self.items ≡ map name left ++ stream.name ∷ [] = ap (map name) c.push_reserved.ensures.items ∙ map_push name left stream in
    let len = c.push_reserved.ensures.len in
    record {
      gathered =
          subst (λ (names : List (List ℕ)). IsInputOf names marks (value_of c.add_report.new.input) (map name c.push_reserved.new.self.items)) (sym (map_push name yielded stream))
          (subst (λ (names : List (List ℕ)). IsInputOf (map name yielded ++ stream.name ∷ []) marks (value_of c.add_report.new.input) names) (sym pushed)
          (subst (λ (input : RoundInputValue). IsInputOf (map name yielded ++ stream.name ∷ []) marks input (map name left ++ stream.name ∷ [])) (sym c.add_report.ensures.added) on));
      all =
          append_assoc yielded (stream ∷ []) (into_iter_items c.next.new.self)
          ∙ ap (λ more. yielded ++ more) (sym c.in-Some.ensures.steps.0) ∙ so_far.all;
      fit = c.add_report.ensures.fit so_far.fit;
      continues = c.add_report.ensures.continues so_far.continues;
      sent =
          subst (λ (input : RoundInputValue). All (IsSent g.M.Sending.known g.M.Sending.sends) input.deliveries) (sym c.add_report.ensures.added)
          (sent_on g.M.Sending.known g.M.Sending.sends marks (value_of c.loop-stream.input) stream.name c.take-report.result so_far.sent c.take-report.ensures.sent);
      few = omega (arith, one, so_far.few, length_is);
      few_left = omega (arith, so_far.few_left, len, length_is);
      capacity = c.add_report.ensures.capacity ∙ so_far.capacity;
      capacity_left = c.push_reserved.ensures.capacity ∙ so_far.capacity_left;
      at_fault = so_far.at_fault;
    }

pub loop-stream-preserved-else-add_report : goal.loop-stream-preserved-else-add_report
loop-stream-preserved-else-add_report g c =
    let name = λ (s : StreamMailbox g.row.M.Denot g.M.Sending). s.name in
    let marks = c.args.marks.now in
    let so_far = c.loop-stream.invariant in
    let yielded = c.loop-stream.yielded in
    let stream = c.in-Some.stream in
    let note : Note = record { name = stream.name; report = c.take-report.result } in
    let left = c.loop-stream.mailboxes.streams.items in
    let length_is = length-append yielded (stream ∷ []) in
    let one = c.add_report.ensures.one in
    let off = asked_off (map name yielded) marks (value_of c.loop-stream.input) (map name left) note so_far.gathered c.take-report.ensures.own (sym c.add_report.ensures.goes_on ∙ c.if-add_report.false) in
    record {
      gathered =
          subst (λ (names : List (List ℕ)). IsInputOf names marks (value_of c.add_report.new.input) (map name left)) (sym (map_push name yielded stream))
          (subst (λ (input : RoundInputValue). IsInputOf (map name yielded ++ stream.name ∷ []) marks input (map name left)) (sym c.add_report.ensures.added) off);
      all =
          append_assoc yielded (stream ∷ []) (into_iter_items c.next.new.self)
          ∙ ap (λ more. yielded ++ more) (sym c.in-Some.ensures.steps.0) ∙ so_far.all;
      fit = c.add_report.ensures.fit so_far.fit;
      continues = c.add_report.ensures.continues so_far.continues;
      sent =
          subst (λ (input : RoundInputValue). All (IsSent g.M.Sending.known g.M.Sending.sends) input.deliveries) (sym c.add_report.ensures.added)
          (sent_on g.M.Sending.known g.M.Sending.sends marks (value_of c.loop-stream.input) stream.name c.take-report.result so_far.sent c.take-report.ensures.sent);
      few = omega (arith, one, so_far.few, length_is);
      few_left = omega (arith, so_far.few_left, length_is);
      capacity = c.add_report.ensures.capacity ∙ so_far.capacity;
      capacity_left = so_far.capacity_left;
      at_fault = so_far.at_fault;
    }

pub loop-stream-preserved : goal.loop-stream-preserved
loop-stream-preserved g c =
    let name = λ (s : StreamMailbox g.row.M.Denot g.M.Sending). s.name in
    let marks = c.args.marks.now in
    let so_far = c.loop-stream.invariant in
    let yielded = c.loop-stream.yielded in
    let stream = c.in-Some.stream in
    let note : Note = record { name = stream.name; report = c.take-report.result } in
    let left = c.loop-stream.mailboxes.streams.items in
    let length_is = length-append yielded (stream ∷ []) in
    let one = c.add_report.ensures.one in
    let off = asked_off (map name yielded) marks (value_of c.loop-stream.input) (map name left) note so_far.gathered c.take-report.ensures.own (sym c.add_report.ensures.goes_on ∙ c.if-add_report.false) in
    record {
      gathered =
          subst (λ (names : List (List ℕ)). IsInputOf names marks (value_of c.add_report.new.input) (map name left)) (sym (map_push name yielded stream))
          (subst (λ (input : RoundInputValue). IsInputOf (map name yielded ++ stream.name ∷ []) marks input (map name left)) (sym c.add_report.ensures.added) off);
      all =
          append_assoc yielded (stream ∷ []) (into_iter_items c.next.new.self)
          ∙ ap (λ more. yielded ++ more) (sym c.in-Some.ensures.steps.0) ∙ so_far.all;
      fit = c.add_report.ensures.fit so_far.fit;
      continues = c.add_report.ensures.continues so_far.continues;
      sent =
          subst (λ (input : RoundInputValue). All (IsSent g.M.Sending.known g.M.Sending.sends) input.deliveries) (sym c.add_report.ensures.added)
          (sent_on g.M.Sending.known g.M.Sending.sends marks (value_of c.loop-stream.input) stream.name c.take-report.result so_far.sent c.take-report.ensures.sent);
      few = omega (arith, one, so_far.few, length_is);
      few_left = omega (arith, so_far.few_left, length_is);
      capacity = c.add_report.ensures.capacity ∙ so_far.capacity;
      capacity_left = so_far.capacity_left;
      at_fault = so_far.at_fault;
    }
