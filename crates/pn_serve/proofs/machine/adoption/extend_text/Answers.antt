-- The line's first bytes and its newline come after the text.
use Rattle.std.proofs.Common.{◌≡◌, List, ℕ, ◌++◌, length, min, take, refl, ap, ◌∙◌, append_assoc, arith}
use Rattle.std.proofs.lemmas.List.{take_min}
use Rattle.pn_line.specs.Line.{kept_bytes, max_kept}
use Rattle.pn_serve.proofs.machine.adoption.extend_text.Goals as goal

limit : max_kept ≡ 65537
unfolding max_kept
limit = refl

pub returns : goal.returns
returns c =
    let text = c.args.text.items in
    let line = c.args.line.now in
    let least : c.min-kept.result ≡ min max_kept (length line) = omega (arith, limit, c.min-kept.ensures) in
    let first : take c.min-kept.result line ≡ kept_bytes line = ap (λ n. take n line) least ∙ take_min max_kept line in
    let came = c.in_ok-extend_from_slice.ensures.items ∙ ap (λ (bytes : List ℕ). text ++ bytes) first in
    c.in_ok-extend_from_slice-2.ensures.items ∙ ap (λ (bytes : List ℕ). bytes ++ c.args.newline.now) came ∙ append_assoc text (kept_bytes line) c.args.newline.now
