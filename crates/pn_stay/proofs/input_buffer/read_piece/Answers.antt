-- A read brings no more than it has room for, and it has some.
use Rattle.std.proofs.Common.{◌≡◌, ◌∙◌, length, arith}
use Rattle.std.proofs.lemmas.List.{length-take-le}
use Rattle.pn_lines.specs.declared.turns.input.TheConstants.{READ_SIZE}
use Rattle.pn_stay.proofs.input_buffer.read_piece.Goals as goal

pub returns-clause-end : goal.returns-clause-end
returns-clause-end g c =
    let room : length c.read_some.new.buf ≡ READ_SIZE = c.read_some.auto.buf ∙ length-take-le READ_SIZE c.args.bytes.now c.requires.size in
    λ none. c.in_ok-count.ensures.bytes.1 none (omega (arith, room))

pub returns-clause-few : goal.returns-clause-few
returns-clause-few g c =
    let room : length c.read_some.new.buf ≡ READ_SIZE = c.read_some.auto.buf ∙ length-take-le READ_SIZE c.args.bytes.now c.requires.size in
    omega (arith, c.in_ok-count.ensures.bound.0, room)
