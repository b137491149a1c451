use Rattle.std.proofs.Common.{[], ◌∷◌, ap, ◌∙◌, sym, subst}
use Rattle.pn_join.specs.Tables.{contents_at, key_by_key}
use Rattle.pn_join.proofs.JoinSteps.{none_joined, one_joined, valid_next}
use Rattle.pn_join.proofs.table.Table.join_with.Goals as goal

pub loop-key-init : goal.loop-key-init
loop-key-init g c =
    let cmp = g.K.Ord.cmp in
    let o = g.met.K.Ord.total in
    let meaning = g.C.Join.meaning in
    let joined = g.C.Join.joined in
    let laws = g.met.C.Join.laws in
    let valid = g.C.Join.valid in
    let own = c.args.self.now in
    let other = c.args.other.now in
    rw (c.in_ok-joined.ensures, c.into_iter-key-iterator.ensures.into_iter_gives, c.iter-key-items.ensures.all) (record {
      joins = none_joined cmp o meaning joined laws valid own other;
      table = c.recall_table.ensures;
    })

pub join_entry-requires : goal.join_entry-requires
join_entry-requires g c =
    let cmp = g.K.Ord.cmp in
    let o = g.met.K.Ord.total in
    let meaning = g.C.Join.meaning in
    let joined = g.C.Join.joined in
    let laws = g.met.C.Join.laws in
    let valid = g.C.Join.valid in
    let own = c.args.self.now in
    let other = c.args.other.now in
    let so_far = rw c.in-Some.ensures.steps at c.loop-key.invariant.joins in
    subst valid (sym c.in_ok-dup-2.ensures) (valid_next cmp o meaning joined laws valid own other c.iter-key-items.ensures.table (c.in-Some.key.now, c.in-Some.content.now) c.next.new.self c.loop-key.joined so_far)

pub loop-key-preserved : goal.loop-key-preserved
loop-key-preserved g c =
    let cmp = g.K.Ord.cmp in
    let o = g.met.K.Ord.total in
    let meaning = g.C.Join.meaning in
    let joined = g.C.Join.joined in
    let laws = g.met.C.Join.laws in
    let valid = g.C.Join.valid in
    let own = c.args.self.now in
    let other = c.args.other.now in
    let so_far = rw c.in-Some.ensures.steps at c.loop-key.invariant.joins in
    let step = c.in_ok-join_entry.ensures.ok ∙ ap (λ x. key_by_key joined (contents_at cmp meaning c.loop-key.joined) (contents_at cmp meaning (x ∷ []))) (λ i. (c.in_ok-dup.ensures i, c.in_ok-dup-2.ensures i)) in
    record {
      joins = one_joined cmp o meaning joined laws valid own other c.iter-key-items.ensures.table (c.in-Some.key.now, c.in-Some.content.now) c.next.new.self c.loop-key.joined c.join_entry.new.self so_far step;
      table = c.in_ok-join_entry.ensures.table;
    }
