-- It holds nothing where all was taken.
use Rattle.std.proofs.Common.{◌≡◌, length, drop, take, sym, ap, ◌∙◌, arith}
use Rattle.std.proofs.lemmas.Bool.{eqb-true, eq-eqb}
use Rattle.std.proofs.lemmas.List.{drop_all, length-drop, length-take-le}
use Rattle.pn_stay.proofs.input_buffer.InputBuffer.is_empty.Goals as goal

pub returns : goal.returns
returns c =
    let start = c.self.inside.start in
    let end = c.self.inside.end in
    let held = take end c.self.inside.bytes.items in
    let count : length held ≡ end = length-take-le end c.self.inside.bytes.items (omega (arith, c.self.invariant)) in (
      λ taken. sym c.self.view_is ∙ drop_all _ held (omega (arith, eqb-true _ _ taken, count)),
      λ none.
          let left : length (drop start held) ≡ 0 = ap length (c.self.view_is ∙ none) in
          eq-eqb _ _ (omega (arith, left, length-drop start held, count, c.self.invariant)),
    )
