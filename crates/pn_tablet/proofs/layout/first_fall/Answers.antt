-- Each bound is compared with the one before it.
use Rattle.std.proofs.Common.{◌≡◌, ◌+◌, ◌-◌, ◌<◌, ◌≤◌, true, false, suc, length, get_or, Some, sym, ap, ◌∙◌, arith}
use Rattle.pn_tablet.specs.Layouts.{is_below}
use Rattle.pn_tablet.proofs.LayoutFacts.{fall_from, fall_from-zero, falls_here, rises_here, no_fall_after, not_less, is_less_from}
use Rattle.pn_tablet.proofs.layout.first_fall.Goals as goal

pub loop-index-init : goal.loop-index-init
loop-index-init c = fall_from-zero c.args.bounds.now

pub returns-then-ge : goal.returns-then-ge
returns-then-ge c =
    let j = c.loop-index.index - 1 in
    let a = c.index-bounds-index.result in
    let b = c.index-bounds-index-in-loop-index.result in
    let after : suc j ≡ c.loop-index.index = omega arith in
    let next : b ≡ get_or c.args.bounds.now (suc j) b = c.index-bounds-index-in-loop-index.is ∙ ap (λ k. get_or c.args.bounds.now k b) (sym after) in
    let inside : suc j < length c.args.bounds.now = omega arith in
    let above : is_below a b ≡ false = not_less _ (sym c.ge.ensures ∙ c.if-ge.true) in
    ap Some (sym after) ∙ sym (c.loop-index.invariant ∙ falls_here c.args.bounds.now j a b c.index-bounds-index.is next inside above)

pub loop-index-preserved : goal.loop-index-preserved
loop-index-preserved c =
    let j = c.loop-index.index - 1 in
    let a = c.index-bounds-index.result in
    let b = c.index-bounds-index-in-loop-index.result in
    let after : suc j ≡ c.loop-index.index = omega arith in
    let more : suc j ≡ c.loop-index.index + 1 - 1 = omega arith in
    let next : b ≡ get_or c.args.bounds.now (suc j) b = c.index-bounds-index-in-loop-index.is ∙ ap (λ k. get_or c.args.bounds.now k b) (sym after) in
    let inside : suc j < length c.args.bounds.now = omega arith in
    let below : is_below a b ≡ true = is_less_from _ (sym c.ge.ensures ∙ c.if-ge.false) in
    c.loop-index.invariant ∙ rises_here c.args.bounds.now j a b c.index-bounds-index.is next inside below ∙ ap (λ k. fall_from k c.args.bounds.now) more

pub returns : goal.returns
returns c =
    let past : length c.args.bounds.now ≤ suc (c.loop-index.index - 1) = omega arith in
    sym (c.loop-index.invariant ∙ no_fall_after c.args.bounds.now (c.loop-index.index - 1) past)
