-- The join of tables holds the lists of both.
use Rattle.std.proofs.lemmas.Result.{on_ok_weaker}
use Rattle.pn_record.proofs.CellMaps.{find-joined, Holds-joined, Holds-spell, held_adds}
use Rattle.pn_record.proofs.records.join_records.Goals as goal

pub returns-clause-lists : goal.returns-clause-lists
returns-clause-lists c = on_ok_weaker c.join_from.result (λ is. Holds-joined c.args.records.now c.args.other.now c.join_from.new.self is) c.join_from.ensures.ok

pub returns-clause-spelled : goal.returns-clause-spelled
returns-clause-spelled c =
    let valid = c.join_from.ensures.are_valid in
    on_ok_weaker c.join_from.result (λ is. Holds-joined c.args.records.now c.args.other.now c.join_from.new.self is _ _
    (Holds-spell c.args.records.now valid.0.rising valid.0.contents)
    (Holds-spell c.args.other.now valid.1.rising valid.1.contents)) c.join_from.ensures.ok

pub returns-clause-added : goal.returns-clause-added
returns-clause-added c =
    let valid = c.join_from.ensures.are_valid in
    on_ok_weaker c.join_from.result (λ is. λ more held. held_adds c.args.records.now c.join_from.new.self more valid.2.rising
    (Holds-joined c.args.records.now c.args.other.now c.join_from.new.self is _ more (Holds-spell c.args.records.now valid.0.rising valid.0.contents) held)) c.join_from.ensures.ok

pub returns-clause-joined : goal.returns-clause-joined
returns-clause-joined c = on_ok_weaker c.join_from.result (λ is. find-joined c.args.records.now c.args.other.now c.join_from.new.self is) c.join_from.ensures.ok

pub returns-clause-rising : goal.returns-clause-rising
returns-clause-rising c = (c.join_from.ensures.are_valid.2.rising, c.join_from.ensures.are_valid.1.rising)
