-- The text that was found of an option is the first of its row.
use Rattle.std.proofs.Common.{List, ℕ, [], Option, ap, ◌∙◌}
use Rattle.std.specs.Prelude.{unwrap_or}
use Rattle.clap.proofs.WalkLemmas.{first_value-rows}
use Rattle.clap.specs.Matches.{found_of}
use Rattle.pn_arguments.proofs.options.option_text.Goals as goal

pub returns-in-Some : goal.returns-in-Some
returns-in-Some c = ap (λ (o : Option (List ℕ)). unwrap_or o []) (c.in-Some.ensures ∙ first_value-rows (found_of c.args.options.now) c.args.name.now)

pub returns-in-None : goal.returns-in-None
returns-in-None c = ap (λ (o : Option (List ℕ)). unwrap_or o []) (c.in-None.ensures ∙ first_value-rows (found_of c.args.options.now) c.args.name.now)
