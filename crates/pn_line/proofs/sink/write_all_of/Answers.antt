use Rattle.pn_line.proofs.SentLaws.{goes_on}
use Rattle.pn_line.proofs.sink.write_all_of.Goals as goal

pub loop-rest-preserved : goal.loop-rest-preserved
loop-rest-preserved g c =
    let (done, sent, whole) = c.loop-rest.invariant in
    goes_on _ _ _ _ done _ _ sent whole c.in_ok-count.ensures.written
