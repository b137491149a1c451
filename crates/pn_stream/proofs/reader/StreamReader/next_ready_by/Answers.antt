-- A fault with no message before it is at the start of the text.
use Rattle.std.proofs.Common.{◌≡◌, length, rules}
use Rattle.std.proofs.lemmas.Result.{err_from_is_err_and}
use Rattle.pn_stream.proofs.Runs.{Stands-first}
use Rattle.pn_stream.proofs.reader.StreamReader.next_ready_by.Goals as goal

pub returns-in_err-settle-clause-call : goal.returns-in_err-settle-clause-call
returns-in_err-settle-clause-call g c =
    let empty : length c.take_by-images.result.0.items ≡ 0 = search rules in
    let p = err_from_is_err_and c.from_residual.result c.from_residual.ensures.1 in
    rw (p.1, p.2) (record {
      gives = tt;
      stops = record {
        first = λ none. Stands-first _ _ _ _ _ _ _ _ _ empty (rw c.in_err-settle.ensures.err.0 at c.take_by-images.ensures.run);
        read = search rules;
        not_failed = search rules;
        position = search rules;
        failed = search rules;
      };
      waited = search rules;
      name = search rules;
      part = search rules;
    })
