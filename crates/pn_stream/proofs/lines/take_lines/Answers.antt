-- Each line that is taken makes the text before the rest longer; what ends it ends the lines.
use Rattle.std.proofs.Common.{◌≡◌, ◌+◌, ◌<◌, ◌≤◌, false, [], ◌∷◌, ◌++◌, length, refl, sym, ap, ◌∙◌, rules, arith}
use Rattle.std.proofs.lemmas.List.{length_push}
use Rattle.std.proofs.lemmas.List.Elements.{All-nil, All-push}
use Rattle.pn_stream.specs.Batches.{IsWhole}
use Rattle.pn_stream.specs.declared.fault.StreamFault.TheVariants.{Memory}
use Rattle.pn_stream.proofs.Runs.{passed_on, shown_none}
use Rattle.pn_stream.proofs.Gathering.{lines_none, lines_more, seen_on, gathered_end, gathered_enough, gathered_fault, gathered_memory}
use Rattle.pn_stream.proofs.lines.take_lines.Goals as goal

pub returns-in_err-line-clause-err : goal.returns-in_err-line-clause-err
returns-in_err-line-clause-err g c =
    let none : length c.args.lines.now.items ≡ 0 = ap length c.requires.none in
    let few : length c.args.lines.now.items < c.args.size.most = omega (arith, none, c.requires.some, c.requires.few) in
    passed_on c.from_residual.result c.in_err-line.field-0.0 _ c.from_residual.ensures.1
    (rw c.in_err-line.ensures.memory (gathered_memory _ _ _ _ _ _ _ _ _ few (lines_none _ _ _ c.requires.none)))

pub lines-init : goal.lines-init
lines-init g c =
    let none : length c.args.lines.now.items ≡ 0 = ap length c.requires.none in
    record {
      within = omega (arith, none);
      whole = rw c.requires.none (All-nil IsWhole);
      part = c.in_ok-line.ensures.part;
      taken = λ some. absurd (omega (arith, none, some));
      none_held = c.take_line.ensures.taken;
      shown = shown_none _;
      so_far = lines_none _ _ _ c.requires.none;
    }

pub returns-in_err-next-clause-err : goal.returns-in_err-next-clause-err
returns-in_err-next-clause-err g c =
    let few : length c.lines.lines.items < c.args.size.most = search (rules, arith) in
    rw (sym c.in_ok-line.ensures.front) (passed_on c.from_residual-in_err-next.result c.in_err-next.field-0.0 _ c.from_residual-in_err-next.ensures.1 (gathered_fault _ _ _ _ _ _ _ _ _ _ few c.lines.invariant.so_far c.in_err-next.ensures.stands))

pub lines-preserved : goal.lines-preserved
lines-preserved g c =
    let few : length c.lines.lines.items < c.args.size.most = search (rules, arith) in
    let grown : c.push_one.new.list.items ≡ c.lines.lines.items ++ c.in-Some.next.line ∷ [] = search rules in
    let count : length c.push_one.new.list.items ≡ length c.lines.lines.items + 1 = ap length grown ∙ length_push _ _ in
    record {
      within = omega (arith, count, few);
      whole = rw grown (All-push IsWhole _ _ c.lines.invariant.whole (rw c.in-Some.is at c.in_ok-next.ensures.whole));
      part = c.in_ok-next.ensures.part;
      taken = λ some. (rw c.in-Some.is at c.in_ok-next.ensures.taken) refl;
      none_held = c.lines.invariant.none_held;
      shown = seen_on _ _ _ _ _ _ c.lines.invariant.so_far (rw c.in-Some.is at c.in_ok-next.ensures.more);
      so_far = rw grown (lines_more _ _ _ _ c.in-Some.next _ _ _ c.lines.invariant.so_far (rw c.in-Some.is at c.in_ok-next.ensures.next));
    }

pub returns-in_err-push_one-in-Some-clause-err : goal.returns-in_err-push_one-in-Some-clause-err
returns-in_err-push_one-in-Some-clause-err g c =
    let few : length c.lines.lines.items < c.args.size.most = search (rules, arith) in
    let same : c.push_one.new.list.items ≡ c.lines.lines.items = search rules in
    rw (sym c.in_ok-line.ensures.front) (passed_on c.from_residual-in_err-push_one-in-Some.result Memory _ c.from_residual-in_err-push_one-in-Some.ensures.1 (rw same (gathered_memory _ _ _ _ _ _ _ _ _ few c.lines.invariant.so_far)))

pub returns-in-None-clause-ok : goal.returns-in-None-clause-ok
returns-in-None-clause-ok g c =
    let few : c.lines.more ≡ false → length c.lines.lines.items < c.args.size.least = search (rules, arith) in
    rw (sym c.in_ok-line.ensures.front) (gathered_end _ _ _ _ _ _ c.lines.more _ _ _ c.lines.invariant.within few c.lines.invariant.shown c.lines.invariant.so_far (rw c.in-None.is at c.in_ok-next.ensures.next))

pub returns-clause-ok : goal.returns-clause-ok
returns-clause-ok g c =
    let enough : c.args.size.least ≤ length c.lines.lines.items = search (rules, arith) in
    let taken = c.lines.invariant.taken (omega (arith, enough, c.requires.some)) in
    rw (sym c.in_ok-line.ensures.front) (gathered_enough _ _ _ _ _ _ _ enough c.lines.invariant.within taken c.lines.invariant.so_far)
