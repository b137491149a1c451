-- The arguments that were found are those of the row.
use Rattle.std.proofs.Common.{List, ℕ, [], Option, codes, ap, ◌∙◌}
use Rattle.std.specs.Prelude.{get_or, unwrap_or}
use Rattle.clap.proofs.WalkLemmas.{raw_values-rows}
use Rattle.clap.specs.Matches.{found_of}
use Rattle.pn_arguments.proofs.faults.stream_word.Goals as goal

-- the text of an index among those that may be there
abbrev chosen : ℕ → Option (List (List ℕ)) → List ℕ
chosen index words = get_or (unwrap_or words []) index []

pub returns-in-Some : goal.returns-in-Some
returns-in-Some c =
    c.word_of.ensures ∙ ap (chosen c.args.index) (c.in-Some.ensures ∙ raw_values-rows (found_of c.args.options.now) (codes "streams"))

pub returns-in-None : goal.returns-in-None
returns-in-None c = ap (chosen c.args.index) (c.in-None.ensures ∙ raw_values-rows (found_of c.args.options.now) (codes "streams"))
