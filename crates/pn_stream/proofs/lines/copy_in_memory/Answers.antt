-- Each attempt copies the same bytes.
use Rattle.std.proofs.Common.{◌≡◌, rules, of_calls}
use Rattle.pn_stream.proofs.Runs.{makes_anew}
use Rattle.pn_stream.proofs.lines.copy_in_memory.Goals as goal

pub returns-clause-copy : goal.returns-clause-copy
returns-clause-copy g c =
    makes_anew _ _ _ (λ line. line ≡ c.args.bytes.now) c.make_in_memory.ensures.made (λ f answer h s. search (rules, of_calls)) (λ line h s. search (rules, of_calls))
