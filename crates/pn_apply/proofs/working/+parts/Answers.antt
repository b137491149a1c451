-- What both parts make is what the whole makes.
use Rattle.std.proofs.Common.{length, ap, arith, rules}
use Rattle.std.proofs.lemmas.List.{length-append}
use Rattle.pn_apply.proofs.Turns.{on_err, all_kept, one_kept}
use Rattle.pn_apply.proofs.Applied.{whole_fits, whole_worked, low_span, high_span}
use Rattle.pn_apply.proofs.working.+parts.Goals as goal

pub work_span-returns-in_err-results : goal.work_span-returns-in_err-results
work_span-returns-in_err-results g t c =
    let work = c.args.task.now.work.now in
    record {
      ok = search rules;
      made = search rules;
      err = on_err c.from_residual.result (all_kept (g.W.TabletWork.turns work) (g.W.TabletWork.kept work) c.args.span.first c.args.items.now);
      left = on_err c.from_residual.result (one_kept (g.W.TabletWork.turns work) (g.W.TabletWork.kept work) c.args.items.now (λ none. let fits = c.in_err-results.ensures.succeeds none in cc));
    }

pub work_span-work_parts-front-requires-clause-low : goal.work_span-work_parts-front-requires-clause-low
work_span-work_parts-front-requires-clause-low g t c κs within =
    low_span (g.W.TabletWork.fits c.args.task.now.work.now) c.args.items.now c.split_at_mut-low.result.0.now c.split_at_mut-low.result.1.now c.args.span
    c.split_at_mut-low.ensures.value c.requires.fit c.requires.span
    c.cut-index.result.0 c.cut-index.ensures.firsts.0 (omega (arith, c.cut-index.ensures.enough.0, c.split_at_mut-low.ensures.front_len))

pub work_span-work_parts-front-requires-clause-high : goal.work_span-work_parts-front-requires-clause-high
work_span-work_parts-front-requires-clause-high g t c κs within =
    let low = c.split_at_mut-low.result.0.now in
    let high = c.split_at_mut-low.result.1.now in
    high_span (g.W.TabletWork.fits c.args.task.now.work.now) c.args.items.now low high c.args.span
    c.split_at_mut-low.ensures.value c.requires.fit c.requires.span
    c.cut-index.result.1 (omega (arith, c.cut-index.ensures.firsts.1, c.split_at_mut-low.ensures.front_len))
    (omega (arith, c.cut-index.ensures.enough.1, c.split_at_mut-low.ensures.front_len, ap length c.split_at_mut-low.ensures.value, length-append low high))

pub work_span-join_results-requires-clause-capacity : goal.work_span-join_results-requires-clause-capacity
work_span-join_results-requires-clause-capacity g t c =
    let work = c.args.task.now.work.now in
    whole_fits (g.W.TabletWork.turns work) (g.W.TabletWork.makes work) (g.W.TabletWork.kept work) c.args.span.first c.args.items.now c.split_at_mut-low.result.0.now c.split_at_mut-low.result.1.now
    c.work_parts-front.new.low c.work_parts-front.new.high c.work_parts-front.result.0 c.work_parts-front.result.1 c.split_at_mut-low.ensures.value
    c.cut-index.result.0.first c.cut-index.result.1.first c.cut-index.ensures.firsts.0 (omega (arith, c.cut-index.ensures.firsts.1, c.split_at_mut-low.ensures.front_len))
    c.work_parts-front.ensures.low c.work_parts-front.ensures.high _ c.in_ok-results.ensures.capacity

pub work_span-returns : goal.work_span-returns
work_span-returns g t c =
    let work = c.args.task.now.work.now in
    whole_worked (g.W.TabletWork.turns work) (g.W.TabletWork.makes work) (g.W.TabletWork.kept work) c.args.span.first c.args.items.now c.split_at_mut-low.result.0.now c.split_at_mut-low.result.1.now
    c.work_parts-front.new.low c.work_parts-front.new.high c.work_parts-front.result.0 c.work_parts-front.result.1 c.split_at_mut-low.ensures.value
    c.cut-index.result.0.first c.cut-index.result.1.first c.cut-index.ensures.firsts.0 (omega (arith, c.cut-index.ensures.firsts.1, c.split_at_mut-low.ensures.front_len))
    c.work_parts-front.ensures.low c.work_parts-front.ensures.high c.join_results.result c.join_results.ensures.both c.join_results.ensures.err c.join_results.ensures.ok
