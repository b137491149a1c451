-- A table that is cut is whole again.
use Rattle.std.proofs.Common.{◌≡◌, ◌-◌, ◌++◌, take, drop, slice_range, ap, ◌∙◌, arith, take-append-drop}
use Rattle.std.proofs.lemmas.List.{take_rest}
use Rattle.test_calls.proofs.joins.cut_at.Goals as goal

pub followed_by-requires-clause-rising : goal.followed_by-requires-clause-rising
followed_by-requires-clause-rising c =
    let all = c.args.table.now in
    let index = c.min-index.result in
    let back = slice_range all index c.len-count.result in
    let same : index - 0 ≡ index = omega arith in
    let whole : c.in_ok-front.front ++ back ≡ all =
    ap (λ es. es ++ back) c.in_ok-front.ensures ∙ ap (λ n. take n all ++ back) same
    ∙ ap (λ n. take index all ++ take (n - index) (drop index all)) c.len-count.ensures.count
    ∙ ap (λ es. take index all ++ es) (take_rest all index) ∙ take-append-drop index all in
    rw whole c.len-count.ensures.rising
