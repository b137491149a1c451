-- The next state extends the published one, which lacks the operation.
use Rattle.std.proofs.Common.{rules, ◌≡◌, ◌++◌, ◌∷◌, [], sym, ap, subst, ◌∙◌, Some, IfSome, List, length, take}
use Rattle.pn_tablet.specs.Steps.{after_step}
use Rattle.pn_tablet.specs.declared.state.TabletOp.{TabletOp}
use Rattle.pn_live.specs.declared.published_state.PublishedState.{PublishedState}
use Rattle.pn_live.specs.Attempts.{tried_of, Lacks}
use Rattle.pn_live.specs.Orders.{list_of}
use Rattle.pn_live.proofs.Prefixes.{begins_itself, take_of_begins, replayed_more, later_by}
use Rattle.pn_live.proofs.live_tablet.LiveTablet.with_next.Goals as goal

pub invariant_of-shown : goal.invariant_of-shown
invariant_of-shown g c =
    let t = c.args.self in
    let shown = t.writer.desk.shown.value in
    let op = c.args.operation in record {
      replayed = replayed_more shown.state c.args.next (list_of shown) (tried_of c.again-position.result.seen.log) op shown.replayed
          (sym (ap (after_step shown.state) c.requires.next))
          (ap (λ s. tried_of s.seen.log) c.again-position.ensures ∙ c.begin_attempt-latest.ensures.tried ∙ ap (λ ops. ops ++ op ∷ []) (sym t.lists.1));
    }

pub show-requires : goal.show-requires
show-requires g c =
    let t = c.args.self in
    let shown = t.writer.desk.shown.value in
    let op = c.args.operation in
    later_by shown _ op
    (ap (λ s. s.seen.book) c.again-position.ensures ∙ c.begin_attempt-latest.ensures.book ∙ sym t.books.1)
    (sym (ap (after_step shown.state) c.requires.next))
    (ap (λ s. tried_of s.seen.log) c.again-position.ensures ∙ c.begin_attempt-latest.ensures.tried ∙ ap (λ ops. ops ++ op ∷ []) (sym t.lists.1))

pub invariant_of-result : goal.invariant_of-result
invariant_of-result g c =
    let t = c.args.self in
    let old = t.writer.desk.shown.value in
    let new = c.show.new.writer.desk in record {
      counter_is = search rules;
      books = search rules;
      viewed = c.show.ensures.shown.1 ∙ ap Some (sym c.show.ensures.shown.0);
      lacking =
          subst (λ (s : PublishedState). IfSome c.join_of.result (λ join. Lacks new.spare.value.state join s.state)) (sym c.show.ensures.shown.0)
          (subst (λ (s : PublishedState). IfSome c.join_of.result (λ join. Lacks s.state join c.args.next)) (sym c.show.ensures.spare)
          (c.join_of.ensures old.state c.args.next c.requires.next));
      lists = search rules;
      goes_on =
          subst (λ (ops : List TabletOp). take (length ops) (tried_of c.end_attempt-latest.result.seen.log) ≡ ops) (c.end_attempt-latest.ensures.tried ∙ sym c.end_attempt-latest.ensures.settled)
          (take_of_begins _ _ (begins_itself (tried_of c.end_attempt-latest.result.seen.log)));
    }
