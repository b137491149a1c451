-- Each look counts one tablet more.
use Rattle.std.proofs.Common.{◌≡◌, ◌+◌, ◌∷◌, ◌++◌, [], List, Some, length, sym, ap, ◌∙◌, subst, arith}
use Rattle.std.proofs.lemmas.List.{length_push}
use Rattle.pn_live.specs.Lookups.{IsCounted}
use Rattle.pn_protocol.specs.declared.reply.stats.TabletStats.{TabletStats}
use Rattle.pn_serve.specs.Control.Steps.{AreCounted}
use Rattle.pn_serve.proofs.ControlSteps.{one_counted, counted_knows, counted_layout}
use Rattle.pn_serve.proofs.control.steps.count_tablets.Goals as goal

pub counts-requires : goal.counts-requires
counts-requires c =
    let same = counted_layout 0 c.loop-tablet.stats.items c.args.reader.now c.loop-tablet.reader c.loop-tablet.invariant.counted in
    omega (arith, c.loop-tablet-test.true, c.count-count.ensures.count, ap length c.layout.ensures, ap length same)

pub returns-in_default-counts-clause-same : goal.returns-in_default-counts-clause-same
returns-in_default-counts-clause-same c =
    c.counts.ensures.same ∙ (counted_knows 0 c.loop-tablet.stats.items c.args.reader.now c.loop-tablet.reader c.loop-tablet.invariant.counted).tablets

pub loop-tablet-preserved : goal.loop-tablet-preserved
loop-tablet-preserved c =
    let was = c.loop-tablet in
    let grown = c.push_reserved.ensures.items in
    let found = c.in-Some.ensures.counts in
    let number : was.tablet ≡ 0 + length was.stats.items = omega (arith, was.invariant.len) in
    record {
      counted = subst (λ (items : List TabletStats). AreCounted c.args.reader.now 0 items c.counts.new.self)
          (sym (grown ∙ ap (λ (stats : TabletStats). was.stats.items ++ stats ∷ []) c.stats_of.ensures))
          (one_counted 0 was.stats.items c.args.reader.now was.reader c.counts.new.self c.in-Some.counts found.0 was.invariant.counted
          (subst (λ n. IsCounted was.reader c.counts.new.self (Some c.in-Some.counts) (n, found.0)) number found.1));
      len = ap length grown ∙ length_push was.stats.items c.stats_of.result ∙ ap (λ n. n + 1) was.invariant.len;
      capacity = omega (arith, was.invariant.capacity, c.push_reserved.ensures.capacity);
    }

pub returns-clause-same : goal.returns-clause-same
returns-clause-same c = (counted_knows 0 c.loop-tablet.stats.items c.args.reader.now c.loop-tablet.reader c.loop-tablet.invariant.counted).tablets
