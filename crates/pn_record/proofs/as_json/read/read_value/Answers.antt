use Rattle.pn_record.proofs.ImageLines.{value_at-read, value_at-refused, refused_right}
use Rattle.pn_record.proofs.as_json.read.read_value.Goals as goal

pub returns-in-Ok-clause-exact : goal.returns-in-Ok-clause-exact
returns-in-Ok-clause-exact c =
    value_at-read _ _ c.if-line-gt-MAX_LINE_BYTES.false c.in-Ok.ensures.ok.0 c.in-Ok.ensures.ok.1

pub returns-in-Err-clause-exact : goal.returns-in-Err-clause-exact
returns-in-Err-clause-exact c =
    refused_right _ _ _ c.fault_of.ensures (λ other. value_at-refused _ c.if-line-gt-MAX_LINE_BYTES.false (c.in-Err.ensures.err other))
