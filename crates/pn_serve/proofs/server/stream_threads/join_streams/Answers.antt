-- A thread's fault names its stream.
use Rattle.std.proofs.Common.{[], ◌∷◌, ◌++◌, map, sym, ap, ◌∙◌, subst, append_assoc, All, Ok}
use Rattle.std.specs.Vec.Iter.{into_iter_items}
use Rattle.std.proofs.lemmas.List.Elements.{All-push}
use Rattle.pn_serve.specs.Server.Reports.{NamesOne, names_of}
use Rattle.pn_serve.specs.Server.Publishers.{IsTakenWhole}
use Rattle.pn_serve.proofs.Gatherings.{map_push, passed_on, named_by, taken_by, is_one}
use Rattle.pn_serve.proofs.server.stream_threads.join_streams.Goals as goal

pub returns-in_err-check_whole-clause-named : goal.returns-in_err-check_whole-clause-named
returns-in_err-check_whole-clause-named g c =
    let names = names_of (map (λ thread. thread.promise.0.value) c.args.threads.items) in
    let rest = into_iter_items c.next.new.self in
    let all = ap (λ more. c.loop-thread.yielded ++ more) (sym c.in-Some.ensures.steps.0) ∙ c.loop-thread.invariant.all in
    let one = is_one {S = g.row.S.Denot} (λ thread. thread.promise.0.value) c.args.threads.items c.loop-thread.yielded rest c.in-Some.thread all in
    let named = named_by g.S.Source.left c.in-Some.thread.promise.0.value c.join.result c.in_err-check_whole.field-0.0 c.join.ensures c.in_err-check_whole.ensures.named in
    passed_on (NamesOne names) c.in_err-check_whole.field-0.0 c.from_residual.result c.from_residual.ensures.1 (subst (NamesOne names) (sym named) one)

pub loop-thread-preserved : goal.loop-thread-preserved
loop-thread-preserved g c =
    let left = g.S.Source.left in
    let stream = c.in-Some.thread.promise.0.value in
    let taken : IsTakenWhole left c.args.marks.now stream = taken_by left c.args.marks.now stream c.join.result (Ok tt) c.join.ensures c.in_ok-check_whole.ensures.taken c.in_ok-check_whole.ensures.whole in
    record {
      taken =
          subst (λ streams. All (IsTakenWhole left c.args.marks.now) streams) (sym (map_push (λ thread. thread.promise.0.value) c.loop-thread.yielded c.in-Some.thread))
          (All-push (IsTakenWhole left c.args.marks.now) (map (λ thread. thread.promise.0.value) c.loop-thread.yielded) stream c.loop-thread.invariant.taken taken);
      all =
          append_assoc c.loop-thread.yielded (c.in-Some.thread ∷ []) (into_iter_items c.next.new.self)
          ∙ ap (λ more. c.loop-thread.yielded ++ more) (sym c.in-Some.ensures.steps.0) ∙ c.loop-thread.invariant.all;
    }
