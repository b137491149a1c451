-- Each text was read by a call.
use Rattle.std.proofs.Common.{◌≡◌, length, rules}
use Rattle.pn_serve.proofs.CopyReads.{all_read}
use Rattle.pn_serve.proofs.copies.reading.read_each.Goals as goal

pub returns-clause-read : goal.returns-clause-read
returns-clause-read g c =
    let same : length c.in_ok-map_vec.field-0.items ≡ length c.args.texts.items = search rules in
    all_read _ _ _ _ (λ cut read call. search rules) same c.in_ok-map_vec.ensures.each
