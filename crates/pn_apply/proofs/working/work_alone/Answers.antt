-- Each item is worked under its tablet's number.
use Rattle.std.proofs.Common.{◌≡◌, ◌+◌, ◌++◌, [], ◌∷◌, length, take, get_or, sym, subst, ap, ◌∙◌, rules}
use Rattle.std.proofs.lemmas.List.{length_push}
use Rattle.pn_apply.specs.Applying.{EachOf}
use Rattle.pn_apply.proofs.Turns.{on_err, half_whole, made_whole, all_kept, one_kept, next_fits, next_turned, next_made, next_failed, next_kept}
use Rattle.pn_apply.proofs.working.work_alone.Goals as goal

pub work-requires : goal.work-requires
work-requires g c =
    let was = c.loop-index in
    let item = get_or was.items was.index c.index-items-index.result in
    next_fits (g.W.TabletWork.turns c.args.task.now.work.now) c.args.span.first was.index c.args.items.now was.items was.invariant.items c.loop-index-test.true
    c.enter-entered.result.tablet c.enter-entered.ensures item (ap (get_or was.items was.index) c.index-items-index.is)
    (g.W.TabletWork.fits c.args.task.now.work.now) c.requires.fit

pub loop-index-preserved : goal.loop-index-preserved
loop-index-preserved g c =
    let was = c.loop-index in
    let work = c.args.task.now.work.now in
    let item = get_or was.items was.index c.index-items-index.result in
    let read = ap (get_or was.items was.index) c.index-items-index.is in
    let made = c.in_ok-work.field-0 in
    let grown : c.push_reserved.new.self.items ≡ was.results.items ++ made ∷ [] = c.push_reserved.ensures.items in
    record {
      items = next_turned (g.W.TabletWork.turns work) c.args.span.first was.index c.args.items.now was.items was.invariant.items c.loop-index-test.true
          c.enter-entered.result.tablet c.enter-entered.ensures item read c.work.new.item c.in_ok-work.ensures.ok;
      made = subst (EachOf (g.W.TabletWork.makes work) c.args.span.first (take (was.index + 1) c.args.items.now)) (sym grown)
          (next_made (g.W.TabletWork.turns work) c.args.span.first was.index c.args.items.now was.items was.invariant.items c.loop-index-test.true
          c.enter-entered.result.tablet c.enter-entered.ensures item read (g.W.TabletWork.makes work) was.results.items made was.invariant.made c.in_ok-work.ensures.made);
      count = ap length grown ∙ length_push was.results.items made ∙ ap (λ n. n + 1) was.invariant.count;
      capacity = c.push_reserved.ensures.capacity ∙ was.invariant.capacity;
    }

pub returns-in_err-results : goal.returns-in_err-results
returns-in_err-results g c =
    let work = c.args.task.now.work.now in
    record {
      ok = search rules;
      made = search rules;
      err = on_err c.from_residual.result (all_kept (g.W.TabletWork.turns work) (g.W.TabletWork.kept work) c.args.span.first c.args.items.now);
      left = on_err c.from_residual.result (one_kept (g.W.TabletWork.turns work) (g.W.TabletWork.kept work) c.args.items.now (λ none. let fits = c.in_err-results.ensures.succeeds none in cc));
    }

pub returns-in_err-work : goal.returns-in_err-work
returns-in_err-work g c =
    let was = c.loop-index in
    let work = c.args.task.now.work.now in
    let item = get_or was.items was.index c.index-items-index.result in
    let read = ap (get_or was.items was.index) c.index-items-index.is in
    record {
      ok = search rules;
      made = search rules;
      err = on_err c.from_residual-in_err-work.result
          (next_failed (g.W.TabletWork.turns work) c.args.span.first was.index c.args.items.now was.items was.invariant.items c.loop-index-test.true
          c.enter-entered.result.tablet c.enter-entered.ensures item read (g.W.TabletWork.kept work) c.work.new.item c.in_err-work.ensures.err);
      left = on_err c.from_residual-in_err-work.result
          (next_kept (g.W.TabletWork.turns work) c.args.span.first was.index c.args.items.now was.items was.invariant.items c.loop-index-test.true
          c.enter-entered.result.tablet c.enter-entered.ensures item read (g.W.TabletWork.kept work) c.work.new.item c.in_err-work.ensures.err);
    }

pub returns : goal.returns
returns g c =
    let work = c.args.task.now.work.now in
    record {
      ok = half_whole (g.W.TabletWork.turns work) c.args.span.first c.loop-index.index c.args.items.now c.loop-index.items c.loop-index-test.false c.loop-index.invariant.items;
      made = made_whole (g.W.TabletWork.makes work) c.args.span.first c.loop-index.index c.args.items.now c.loop-index.results.items c.loop-index-test.false c.loop-index.invariant.made;
      err = tt;
      left = tt;
    }
