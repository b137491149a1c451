-- One line more is a message in step, until one is refused.
use Rattle.std.proofs.Common.{◌≡◌, ◌+◌, length, ap, ◌∙◌, rules, arith}
use Rattle.std.proofs.lemmas.List.{length_push}
use Rattle.pn_stream.proofs.ChunkLaws.{read_none, read_more, read_all, read_until}
use Rattle.pn_stream.proofs.Runs.{passed_on}
use Rattle.pn_stream.proofs.chunks.push_messages.Goals as goal

pub loop-line-init : goal.loop-line-init
loop-line-init c = record {
  in_step = read_none c.args.position c.args.lines.now c.args.images.now.items c.requires.none;
  count = ap length c.requires.none;
}

pub loop-line-preserved : goal.loop-line-preserved
loop-line-preserved c =
    let was = c.loop-line in
    let adds = c.in_ok-push_message.ensures.ok in
    let due : c.args.position + c.len.result + 1 ≡ c.args.position + length was.images.items + 1 = search (rules, arith) in
    record {
      in_step = read_more c.args.position c.args.lines.now was.images.items c.push_message.new.images.items was.line-index (c.args.position + c.len.result + 1) c.line-item.result
          c.requires.lines.0 c.loop-line-test.true c.line-item.is due was.invariant.in_step (rw c.bytes.ensures at adds);
      count = ap length adds.grown ∙ length_push _ _ ∙ ap (λ n. n + 1) was.invariant.count;
    }

pub returns-in_err-push_message-clause-err : goal.returns-in_err-push_message-clause-err
returns-in_err-push_message-clause-err c =
    let was = c.loop-line in
    let due : c.args.position + c.len.result + 1 ≡ c.args.position + length was.images.items + 1 = search (rules, arith) in
    passed_on c.from_residual.result c.in_err-push_message.field-0.0 _ c.from_residual.ensures.1
    (rw c.in_err-push_message.ensures.kept
    (read_until c.args.position c.args.lines.now was.images.items was.line-index (c.args.position + c.len.result + 1) c.line-item.result c.in_err-push_message.field-0.0
    c.loop-line-test.true c.line-item.is due was.invariant.in_step (rw c.bytes.ensures at c.in_err-push_message.ensures.err)))

pub returns-clause-ok : goal.returns-clause-ok
returns-clause-ok c = read_all c.args.position c.args.lines.now c.loop-line.images.items c.loop-line.line-index c.loop-line-test.false c.loop-line.invariant.in_step
