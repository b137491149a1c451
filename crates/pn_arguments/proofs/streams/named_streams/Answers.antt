-- The arguments that were found are those of the row.
use Rattle.std.proofs.Common.{◌≡◌, Bool, List, ℕ, [], Option, Ok, Vec, Global, map, codes, refl, sym, ap, subst, ◌∙◌}
use Rattle.std.specs.Prelude.{unwrap_or}
use Rattle.clap.proofs.WalkLemmas.{raw_values-rows}
use Rattle.clap.specs.Matches.{found_of}
use Rattle.pn_json.specs.Answers.{ShowsUnless}
use Rattle.pn_arguments.specs.OptionTexts.{stream_value, streams_in}
use Rattle.pn_arguments.specs.declared.faults.OptionFault.TheVariants as fault
use Rattle.pn_serve.specs.declared.server.publishers.StreamPath.{StreamPath}
use Rattle.pn_arguments.proofs.streams.named_streams.Goals as goal

pub returns-in-Some : goal.returns-in-Some
returns-in-Some c =
    subst (λ (words : List (List ℕ)). ShowsUnless fault.Memory (λ (streams : Vec (List ℕ × StreamPath) Global). map stream_value streams.items)
    c.streams_of.result (streams_in c.args.stays words))
    (ap (λ (o : Option (List (List ℕ))). unwrap_or o []) (c.in-Some.ensures ∙ raw_values-rows (found_of c.args.options.now) (codes "streams")))
    c.streams_of.ensures

no_streams : (stays : Bool) → streams_in stays [] ≡ Ok []
unfolding streams_in
no_streams stays = refl

pub returns-in-None : goal.returns-in-None
returns-in-None c =
    let none = ap (λ (o : Option (List (List ℕ))). unwrap_or o []) (c.in-None.ensures ∙ raw_values-rows (found_of c.args.options.now) (codes "streams")) in
    ap (streams_in c.args.stays) (sym none) ∙ no_streams c.args.stays
    ∙ ap (λ (streams : List (List ℕ × StreamPath)). Ok (map stream_value streams)) (sym c.new.ensures.items)
