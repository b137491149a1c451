-- Shares stand for themselves.
use Rattle.std.proofs.Common.{List, subst}
use Rattle.std.specs.Prelude.{Ok, IfOk, IfErr, ◌≡◌}
use Rattle.std.proofs.lemmas.List.{map-id}
use Rattle.pn_stream.specs.Brokers.{DeliveryValue}
use Rattle.pn_tablet.specs.Steps.{Refuses}
use Rattle.pn_region.specs.Rounds.{is_memory, new_marks}
use Rattle.pn_live.proofs.region.rounds.marks_after.Goals as goal

pub returns-clause-ok : goal.returns-clause-ok
returns-clause-ok c =
    subst (λ (ds : List DeliveryValue). IfOk c.next_marks.result (λ next. new_marks c.args.marks.now ds ≡ Ok next)) (map-id c.args.shares.now) c.next_marks.ensures.ok

pub returns-clause-refused : goal.returns-clause-refused
returns-clause-refused c =
    subst (λ (ds : List DeliveryValue). IfErr c.next_marks.result (λ fault. Refuses is_memory fault (new_marks c.args.marks.now ds))) (map-id c.args.shares.now) c.next_marks.ensures.refused
