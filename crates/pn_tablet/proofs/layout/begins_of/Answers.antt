-- One more range has its bound after those before it.
use Rattle.std.proofs.Common.{◌≡◌, ℕ, ◌+◌, ◌<◌, List, [], ◌∷◌, ◌++◌, length, map, take, Option, None, option_copied, sym, ap, ap₂, ◌∙◌, arith}
use Rattle.std.proofs.lemmas.List.{map-append, take_more}
use Rattle.pn_tablet.specs.Copies.{TabletCopyValue}
use Rattle.pn_tablet.specs.Layouts.{begins_of, Bounds, Ends}
use Rattle.pn_tablet.specs.declared.copy.TabletCopy.{TabletCopy}
use Rattle.pn_tablet.proofs.CutRanges.{begins-append, begins-one}
use Rattle.pn_tablet.proofs.layout.begins_of.Goals as goal

abbrev range_of : TabletCopy → Ends
range_of copy = copy.range

pub loop-copy-preserved : goal.loop-copy-preserved
loop-copy-preserved c =
    let copies = c.args.copies.now in
    let n = c.loop-copy.copy-index in
    let copy = c.copy-item.result in
    let within : n < length copies = omega (arith, c.loop-copy-test.true) in
    let more : take (n + 1) copies ≡ take n copies ++ copy ∷ [] = take_more copies n copy within ∙ ap (λ (x : TabletCopy). take n copies ++ x ∷ []) (sym c.copy-item.is) in
    let ranges : map range_of (take (n + 1) copies) ≡ map range_of (take n copies) ++ copy.range ∷ [] = ap (map range_of) more ∙ map-append range_of (take n copies) (copy ∷ []) in
    let begin : option_copied c.from.result ≡ copy.range.0 = c.from.ensures.from ∙ ap (λ (x : TabletCopyValue). x.range.0) c.copy.view_is in
    c.in_ok-add_begin.ensures
    ∙ ap₂ (λ (bounds : Bounds) (end : Option (List ℕ)). bounds ++ begins_of ((end, None) ∷ [])) c.loop-copy.invariant begin
    ∙ sym (ap begins_of ranges ∙ begins-append (map range_of (take n copies)) (copy.range ∷ []) ∙ ap (λ (bounds : Bounds). begins_of (map range_of (take n copies)) ++ bounds) (begins-one copy.range))
