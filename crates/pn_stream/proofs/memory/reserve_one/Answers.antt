-- The list is the same one through all attempts and keeps what it has.
use Rattle.std.proofs.Common.{◌≡◌, refl, rules, of_calls}
use Rattle.pn_stream.proofs.Runs.{attempts_keep}
use Rattle.pn_stream.proofs.memory.reserve_one.Goals as goal

pub returns-clause-room : goal.returns-clause-room
returns-clause-room g c =
    let list = attempts_keep c.make_in_memory.result c.make_in_memory.ensures.made c.make_in_memory.ensures.failed (λ first f. first.0.ghost_name ≡ f.0.ghost_name) refl (λ f answer h s same. search (rules, of_calls)) in
    search (rules, of_calls, list)

pub returns-clause-items : goal.returns-clause-items
returns-clause-items g c =
    let (list, items) = attempts_keep c.make_in_memory.result c.make_in_memory.ensures.made c.make_in_memory.ensures.failed (λ first f. (first.0.ghost_name ≡ f.0.ghost_name) × (f.0.now.items ≡ first.0.now.items)) (refl, refl)
    (λ f answer h s same. search (rules, of_calls)) in
    search (rules, list, items)
