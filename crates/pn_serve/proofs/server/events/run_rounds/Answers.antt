-- Each round or try, and the commands before it, go on from what was done before.
use Rattle.std.proofs.Common.{◌≡◌, ◌≢◌, [], None, Some, map, refl, sym, ap, subst, ◌∙◌}
use Rattle.std.specs.Prelude.{Ok}
use Rattle.pn_live.specs.LiveRegions.{LiveRegionValue}
use Rattle.pn_serve.specs.Server.Publishers.{IsSent}
use Rattle.pn_serve.specs.Server.Rounds.{StopsAt, TakesRound, waiting_value}
use Rattle.pn_serve.specs.declared.server.events.ReadingEnd.TheVariants.{StreamsEnded, Stopped}
use Rattle.pn_serve.specs.declared.server.mailboxes.AtFault.{AtFault}
use Rattle.pn_serve.specs.declared.server.mailboxes.StreamMailbox.{StreamMailbox}
use Rattle.pn_serve.proofs.EventsRead.{DoesRounds, all_read, as_answer, as_fault, does_round, more_told, none_yet, nothing_yet, one_more, one_round, ran_on, ran_up_to, read_up_to, such_input, such_waits}
use Rattle.pn_serve.proofs.EventsDone.{waits_on}
use Rattle.pn_serve.proofs.RoundsRead.{no_names, none_waits}
use Rattle.pn_serve.proofs.server.events.run_rounds.Goals as goal

pub loop-init : goal.loop-init
loop-init g c =
    let names = map (λ (s : StreamMailbox g.row.M.Denot g.M.Sending). s.name) c.args.mailboxes.now.streams.items in
    record {
      so_far = nothing_yet (IsSent g.M.Sending.known g.M.Sending.sends) c.args.mailboxes.now.at_fault names c.args.live.now;
      alone = λ none. none_yet (IsSent g.M.Sending.known g.M.Sending.sends) c.args.mailboxes.now.at_fault names c.args.live.now;
      continues = tt;
      sent = tt;
      same = refl;
      at_fault = refl;
    }

pub take_round-requires-clause-continues : goal.take_round-requires-clause-continues
take_round-requires-clause-continues g c = λ lifetimes among. waits_on c.loop.waiting c.loop.live.marks c.obey_all.new.live.marks c.obey_all.ensures.rise c.loop.invariant.continues

pub take_round-requires-clause-sent : goal.take_round-requires-clause-sent
take_round-requires-clause-sent g c = λ lifetimes among. c.loop.invariant.sent

pub loop-preserved-then-not-has_report : goal.loop-preserved-then-not-has_report
loop-preserved-then-not-has_report g c =
    let name = λ (s : StreamMailbox g.row.M.Denot g.M.Sending). s.name in
    let at_fault = c.args.mailboxes.now.at_fault in
    let names = map name c.args.mailboxes.now.streams.items in
    let still = map name c.loop.mailboxes.streams.items in
    let waiting = waiting_value c.loop.waiting in
    let so_far = c.loop.invariant in
    record {
      so_far = more_told (IsSent g.M.Sending.known g.M.Sending.sends) at_fault names c.args.live.now still waiting c.loop.live c.obey_all.new.live so_far.so_far (c.obey_all.ensures.told at_fault still waiting);
      alone = λ none. subst (λ (live : LiveRegionValue). DoesRounds (IsSent g.M.Sending.known g.M.Sending.sends) at_fault names None c.args.live.now still waiting live) (sym (c.obey_all.ensures.alone none)) (so_far.alone none);
      continues = waits_on c.loop.waiting c.loop.live.marks c.obey_all.new.live.marks c.obey_all.ensures.rise so_far.continues;
      sent = so_far.sent;
      same = c.obey_all.ensures.same ∙ so_far.same;
      at_fault = so_far.at_fault;
    }

pub loop-preserved : goal.loop-preserved
loop-preserved g c =
    let name = λ (s : StreamMailbox g.row.M.Denot g.M.Sending). s.name in
    let at_fault = c.args.mailboxes.now.at_fault in
    let names = map name c.args.mailboxes.now.streams.items in
    let streams = c.loop.mailboxes.streams.items in
    let still = map name streams in
    let waiting = waiting_value c.loop.waiting in
    let left = map name c.take_round.new.mailboxes.streams.items in
    let waits = waiting_value c.take_round.new.waiting in
    let so_far = c.loop.invariant in
    let some : waiting ≡ None → still ≢ [] = λ none empty. c.has_ended.ensures.more c.if-has_ended.false (none_waits c.loop.waiting none) (no_names name streams empty) in
    let taken = subst (λ (fault : AtFault). TakesRound (IsSent g.M.Sending.known g.M.Sending.sends) fault still waiting c.obey_all.new.live left waits c.take_round.new.live (Ok c.in_ok-is_taken.is_taken)) so_far.at_fault c.in_ok-is_taken.ensures.round in
    let does =
    does_round (IsSent g.M.Sending.known g.M.Sending.sends) at_fault c.obey_all.new.live still waiting left waits c.take_round.new.live c.in_ok-is_taken.is_taken some taken in
    let told = more_told (IsSent g.M.Sending.known g.M.Sending.sends) at_fault names c.args.live.now still waiting c.loop.live c.obey_all.new.live so_far.so_far (c.obey_all.ensures.told at_fault still waiting) in
    record {
      so_far = one_round (IsSent g.M.Sending.known g.M.Sending.sends) at_fault names c.args.live.now still waiting c.obey_all.new.live left waits c.take_round.new.live told does;
      alone = λ none.
          one_more (IsSent g.M.Sending.known g.M.Sending.sends) at_fault names c.args.live.now still waiting c.obey_all.new.live left waits c.take_round.new.live
          (subst (λ (live : LiveRegionValue). DoesRounds (IsSent g.M.Sending.known g.M.Sending.sends) at_fault names None c.args.live.now still waiting live) (sym (c.obey_all.ensures.alone none)) (so_far.alone none)) does;
      continues = c.in_ok-is_taken.ensures.continues;
      sent = such_input (IsSent g.M.Sending.known g.M.Sending.sends) c.take_round.new.waiting (such_waits (IsSent g.M.Sending.known g.M.Sending.sends) at_fault c.obey_all.new.live still waiting left waits c.take_round.new.live c.in_ok-is_taken.is_taken taken);
      same = c.in_ok-is_taken.ensures.same ∙ c.obey_all.ensures.same ∙ so_far.same;
      at_fault = c.in_ok-is_taken.ensures.at_fault ∙ so_far.at_fault;
    }

pub returns-in_err-is_taken-clause-runs : goal.returns-in_err-is_taken-clause-runs
returns-in_err-is_taken-clause-runs g c =
    let name = λ (s : StreamMailbox g.row.M.Denot g.M.Sending). s.name in
    let at_fault = c.args.mailboxes.now.at_fault in
    let names = map name c.args.mailboxes.now.streams.items in
    let still = map name c.loop.mailboxes.streams.items in
    let waiting = waiting_value c.loop.waiting in
    let so_far = c.loop.invariant in
    let fault = c.in_err-is_taken.field-0.0 in
    let told = more_told (IsSent g.M.Sending.known g.M.Sending.sends) at_fault names c.args.live.now still waiting c.loop.live c.obey_all.new.live so_far.so_far (c.obey_all.ensures.told at_fault still waiting) in
    as_fault (IsSent g.M.Sending.known g.M.Sending.sends) at_fault names c.args.live.now c.take_round.new.live fault c.from_residual.result c.from_residual.ensures.1
    (ran_up_to (IsSent g.M.Sending.known g.M.Sending.sends) at_fault names c.args.live.now still waiting c.obey_all.new.live c.take_round.new.live fault told
    (subst (λ (a : AtFault). StopsAt (IsSent g.M.Sending.known g.M.Sending.sends) a still waiting c.obey_all.new.live c.take_round.new.live fault) so_far.at_fault c.in_err-is_taken.ensures.round))

pub returns-in_err-is_taken-clause-alone : goal.returns-in_err-is_taken-clause-alone
returns-in_err-is_taken-clause-alone g c = λ none.
    let name = λ (s : StreamMailbox g.row.M.Denot g.M.Sending). s.name in
    let at_fault = c.args.mailboxes.now.at_fault in
    let names = map name c.args.mailboxes.now.streams.items in
    let still = map name c.loop.mailboxes.streams.items in
    let waiting = waiting_value c.loop.waiting in
    let so_far = c.loop.invariant in
    let fault = c.in_err-is_taken.field-0.0 in
    as_answer (IsSent g.M.Sending.known g.M.Sending.sends) at_fault names c.args.live.now c.take_round.new.live fault c.from_residual.result c.from_residual.ensures.1
    (read_up_to (IsSent g.M.Sending.known g.M.Sending.sends) at_fault names c.args.live.now still waiting c.obey_all.new.live c.take_round.new.live fault
    (subst (λ (live : LiveRegionValue). DoesRounds (IsSent g.M.Sending.known g.M.Sending.sends) at_fault names None c.args.live.now still waiting live) (sym (c.obey_all.ensures.alone none)) (so_far.alone none))
    (subst (λ (a : AtFault). StopsAt (IsSent g.M.Sending.known g.M.Sending.sends) a still waiting c.obey_all.new.live c.take_round.new.live fault) so_far.at_fault c.in_err-is_taken.ensures.round))

pub returns-in-Some-find_stop-clause-runs : goal.returns-in-Some-find_stop-clause-runs
returns-in-Some-find_stop-clause-runs g c =
    let name = λ (s : StreamMailbox g.row.M.Denot g.M.Sending). s.name in
    ran_on (IsSent g.M.Sending.known g.M.Sending.sends) c.args.mailboxes.now.at_fault (map name c.args.mailboxes.now.streams.items) c.args.live.now (map name c.loop.mailboxes.streams.items) (waiting_value c.loop.waiting) c.loop.live
    (Stopped c.in-Some-find_stop.asked) c.loop.invariant.so_far tt

pub returns-in-Some-find_stop-clause-alone : goal.returns-in-Some-find_stop-clause-alone
returns-in-Some-find_stop-clause-alone g c = λ none.
    let never : None ≡ Some c.in-Some-find_stop.asked = sym (c.find_stop.ensures none) ∙ c.in-Some-find_stop.is in
    absurd (cc)

pub returns-then-has_ended-clause-runs : goal.returns-then-has_ended-clause-runs
returns-then-has_ended-clause-runs g c =
    let name = λ (s : StreamMailbox g.row.M.Denot g.M.Sending). s.name in
    let ended = c.has_ended.ensures.ended c.if-has_ended.true in
    ran_on (IsSent g.M.Sending.known g.M.Sending.sends) c.args.mailboxes.now.at_fault (map name c.args.mailboxes.now.streams.items) c.args.live.now (map name c.loop.mailboxes.streams.items) (waiting_value c.loop.waiting) c.loop.live
    StreamsEnded c.loop.invariant.so_far (ap (map name) ended.1, ap waiting_value ended.0)

pub returns-then-has_ended-clause-alone : goal.returns-then-has_ended-clause-alone
returns-then-has_ended-clause-alone g c = λ none.
    let name = λ (s : StreamMailbox g.row.M.Denot g.M.Sending). s.name in
    let ended = c.has_ended.ensures.ended c.if-has_ended.true in
    all_read (IsSent g.M.Sending.known g.M.Sending.sends) c.args.mailboxes.now.at_fault (map name c.args.mailboxes.now.streams.items) c.args.live.now (map name c.loop.mailboxes.streams.items) (waiting_value c.loop.waiting) c.loop.live (c.loop.invariant.alone none)
    (ap (map name) ended.1) (ap waiting_value ended.0)
