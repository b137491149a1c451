-- The JSON that was written is read as the query.
use Rattle.pn_scan.proofs.SameQuery.{query_written}
use Rattle.pn_scan.proofs.query_json.query_value.Goals as goal

pub returns-clause-reads_back : goal.returns-clause-reads_back
returns-clause-reads_back c = query_written _ c.args.query.now c.in_ok-value.ensures.value c.in_ok-value.ensures.limits
