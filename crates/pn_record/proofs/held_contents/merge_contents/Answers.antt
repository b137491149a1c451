-- Each step gathers the lesser of the two firsts.
use Rattle.std.proofs.Common.{List, ◌++◌, sym, ap, ◌∙◌, subst}
use Rattle.pn_record.specs.Limits.{ContentValue}
use Rattle.pn_record.specs.Sets.{set_of}
use Rattle.pn_record.proofs.Sorted.{MergedSoFar, begun, loop_less, loop_equal, loop_greater, ended}
use Rattle.pn_record.proofs.held_contents.merge_contents.Goals as goal

pub loop-x-init : goal.loop-x-init
loop-x-init c =
    subst (λ (all : List ContentValue). MergedSoFar all c.args.ours.now c.args.theirs.now c.args.ours.now c.args.theirs.now) (sym c.new-all.ensures.items)
    (begun c.args.ours.now c.args.theirs.now c.requires.our_contents c.requires.their_contents)

pub loop-x-preserved-in_ok-push-in-Less : goal.loop-x-preserved-in_ok-push-in-Less
loop-x-preserved-in_ok-push-in-Less c =
    loop_less c.loop-x.all.items c.loop-x.left.now c.loop-x.right.now c.args.ours.now c.args.theirs.now c.in-Some-Some.x.now c.in-Some-Some.y.now c.in-Some-Some.xs.now c.in-Some-Some.ys.now c.in-Some-Some.ensures.cases.0 c.in-Some-Some.ensures'.cases.0 c.loop-x.invariant
    c.push.new.self.items c.in_ok-dup-in-Less.field-0 c.in_ok-push-in-Less.ensures.items c.in_ok-dup-in-Less.ensures (sym c.in-Less.ensures)

pub loop-x-preserved-in_ok-push-in-Equal : goal.loop-x-preserved-in_ok-push-in-Equal
loop-x-preserved-in_ok-push-in-Equal c =
    loop_equal c.loop-x.all.items c.loop-x.left.now c.loop-x.right.now c.args.ours.now c.args.theirs.now c.in-Some-Some.x.now c.in-Some-Some.y.now c.in-Some-Some.xs.now c.in-Some-Some.ys.now c.in-Some-Some.ensures.cases.0 c.in-Some-Some.ensures'.cases.0 c.loop-x.invariant
    c.push-in-Equal.new.self.items c.in_ok-dup-in-Equal.field-0 c.in_ok-push-in-Equal.ensures.items c.in_ok-dup-in-Equal.ensures (sym c.in-Equal.ensures)

pub loop-x-preserved : goal.loop-x-preserved
loop-x-preserved c =
    loop_greater c.loop-x.all.items c.loop-x.left.now c.loop-x.right.now c.args.ours.now c.args.theirs.now c.in-Some-Some.x.now c.in-Some-Some.y.now c.in-Some-Some.xs.now c.in-Some-Some.ys.now c.in-Some-Some.ensures.cases.0 c.in-Some-Some.ensures'.cases.0 c.loop-x.invariant
    c.push-in-Greater.new.self.items c.in_ok-dup-in-Greater.field-0 c.in_ok-push-in-Greater.ensures.items c.in_ok-dup-in-Greater.ensures (sym c.in-Greater.ensures)

pub returns-clause-both : goal.returns-clause-both
returns-clause-both c =
    ap set_of (c.in_ok-push_all-2.ensures ∙ ap (λ (l : List ContentValue). l ++ c.loop-x.right.now) c.in_ok-push_all.ensures)
    ∙ ended c.loop-x.all.items c.loop-x.left.now c.loop-x.right.now c.args.ours.now c.args.theirs.now c.loop-x.invariant
