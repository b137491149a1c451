-- What is written is what the clamp leaves.
use Rattle.std.proofs.Common.{ℕ, List, Option, ap, arith, ◌∙◌}
use Rattle.std.specs.Prelude.{option_and_then, unwrap_or}
use Rattle.pn_arguments.specs.Commands.{number_in}
use Rattle.pn_arguments.proofs.options.numbers_are_as_written.Goals as goal

abbrev said : Option (List ℕ) → ℕ
said text = unwrap_or (option_and_then number_in text) 1

pub returns-clause-written : goal.returns-clause-written
returns-clause-written c = λ name text number most options one is low high.
    let same = ap said one ∙ ap (λ (o : Option ℕ). unwrap_or o 1) is in omega (arith, same, low, high)

pub returns-clause-absent : goal.returns-clause-absent
returns-clause-absent c = λ name most options none some. let same = ap said none in omega (arith, same, some)

pub returns-clause-in_range : goal.returns-clause-in_range
returns-clause-in_range c = λ name most options some. (omega arith, omega (arith, some))
