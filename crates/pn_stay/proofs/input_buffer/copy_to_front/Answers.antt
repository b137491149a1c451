-- The bytes are the first, and the others after them stay.
use Rattle.std.proofs.Common.{ℕ, List, ◌++◌, length, take, drop, ap, ◌∙◌}
use Rattle.std.proofs.Math.Seq.{take-append_seam}
use Rattle.pn_stay.proofs.input_buffer.copy_to_front.Goals as goal

pub returns-clause-front : goal.returns-clause-front
returns-clause-front c =
    let bytes = c.args.bytes.now in
    let others = c.args.others.now in
    ap (λ (first : List ℕ). take (length bytes) (first ++ drop (length bytes) others)) c.copy_from_slice.ensures.after
    ∙ take-append_seam bytes (drop (length bytes) others)
