-- One more tablet is published.
use Rattle.std.proofs.Common.{◌≡◌, ◌++◌, ◌∷◌, [], List, length, map, inl, inr, Ok, sym, ap, subst, ◌∙◌, ◌≤◌, arith}
use Rattle.std.proofs.lemmas.List.{take_all}
use Rattle.std.specs.Vec.Iter.{into_iter_items}
use Rattle.pn_tablet.specs.Steps.{step}
use Rattle.pn_apply.specs.Applying.{all_stepped}
use Rattle.pn_live.specs.PublishedTablets.{PublishedTabletValue, books_of, state_at, with_op}
use Rattle.pn_live.proofs.Appending.{tablet_within, publishes_well, brings_positions, one_appended, next_book, all_first, count_stepped, same_count, nothing_left, past_of, rest_of}
use Rattle.pn_live.proofs.region.rounds.publish_tablets.Goals as goal

pub bounds-tablets-number : goal.bounds-tablets-number
bounds-tablets-number g c =
    let at = c.loop-next in
    tablet_within c.args.tablets.now c.args.operations.items c.requires.joins at.number at.tablets at.invariant.done
    (sym c.in-Some.ensures.steps.0.0 ∙ at.invariant.rest) (sym c.in-Some.ensures.steps.1.0 ∙ at.invariant.ops)

pub publish-requires-clause-positions : goal.publish-requires-clause-positions
publish-requires-clause-positions g c =
    let at = c.loop-next in
    brings_positions c.args.tablets.now c.args.operations.items c.requires.joins at.number at.tablets at.invariant.done
    (sym c.in-Some.ensures.steps.0.0 ∙ at.invariant.rest) (sym c.in-Some.ensures.steps.1.0 ∙ at.invariant.ops) c.requires.positions

pub publish-requires-clause-next : goal.publish-requires-clause-next
publish-requires-clause-next g c =
    let at = c.loop-next in
    subst (λ (p : PublishedTabletValue). step (state_at p) c.in-Some.operation ≡ Ok c.in-Some.next) c.index-tablets-number.is
    (publishes_well c.args.tablets.now c.args.operations.items c.requires.joins at.number at.tablets at.invariant.done
    (sym c.in-Some.ensures.steps.0.0 ∙ at.invariant.rest) (sym c.in-Some.ensures.steps.1.0 ∙ at.invariant.ops) c.index-tablets-number.result c.index-tablets-number.is)

pub loop-next-preserved : goal.loop-next-preserved
loop-next-preserved g c =
    let at = c.loop-next in
    let olds = c.args.tablets.now in
    let ops = c.args.operations.items in
    let left = sym c.in-Some.ensures.steps.0.0 ∙ at.invariant.rest in
    let ops_left = sym c.in-Some.ensures.steps.1.0 ∙ at.invariant.ops in
    record {
      done = one_appended olds ops c.requires.joins at.number at.tablets at.invariant.done left ops_left c.index-tablets-number.result c.publish.new.self c.index-tablets-number.is
          (c.publish.ensures.list ∙ ap (λ (p : PublishedTabletValue). with_op p c.in-Some.operation) (sym c.index-tablets-number.is));
      order = c.publish.ensures.order
          ∙ ap (λ (p : PublishedTabletValue). at.order ++ p.book ∷ []) (sym c.index-tablets-number.is)
          ∙ next_book olds ops c.requires.joins at.number at.tablets at.invariant.done left ops_left c.index-tablets-number.result c.index-tablets-number.is c.args.order.now at.order at.invariant.order;
      rest = rest_of (all_stepped (map state_at olds) ops) at.number c.in-Some.next (into_iter_items c.next.new.self.a) left;
      left = omega (arith, at.invariant.left, c.in-Some.ensures.steps.0.1, ap length c.in-Some.ensures.steps.0.0);
      ops = rest_of ops at.number c.in-Some.operation (into_iter_items c.next.new.self.b) ops_left;
      ops_left = omega (arith, at.invariant.ops_left, c.in-Some.ensures.steps.1.1, ap length c.in-Some.ensures.steps.1.0);
    }

pub returns : goal.returns
returns g c =
    let at = c.loop-next in
    let olds = c.args.tablets.now in
    let ops = c.args.operations.items in
    let same = same_count olds ops c.requires.joins in
    let past : length olds ≤ at.number = elim c.in-None.ensures.steps [
      | inl (it, ended) ↦ omega (arith, past_of (all_stepped (map state_at olds) ops) at.number (sym (nothing_left (into_iter_items at.next-iterator.a) (sym at.invariant.left ∙ ended.0)) ∙ at.invariant.rest), count_stepped olds ops same)
      | inr (it, ended) ↦ omega (arith, past_of ops at.number (sym (nothing_left (into_iter_items at.next-iterator.b) (sym at.invariant.ops_left ∙ ended.0)) ∙ at.invariant.ops), same)
    ] in
    record {
      tablets = all_first at.number olds ops at.tablets at.invariant.done past;
      order = at.invariant.order ∙ ap (λ (ts : List PublishedTabletValue). c.args.order.now ++ books_of ts) (take_all at.number olds past);
    }
