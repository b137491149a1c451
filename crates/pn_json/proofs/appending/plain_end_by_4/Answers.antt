-- A vector of bytes that are all plain, and one with a byte that needs an escape.
use Rattle.std.proofs.Common.{sym, ap, ◌∙◌, arith}
use lib.Count.{count_trailing_zeros}
use Rattle.pn_json.proofs.AppendedTexts.{run_ends, run_goes_on, run_within}
use Rattle.pn_json.proofs.appending.plain_end_by_4.Goals as goal

pub returns-then-stops-ne0-clause-value : goal.returns-then-stops-ne0-clause-value
returns-then-stops-ne0-clause-value c =
    let stops = c.stops_of_4-stops in
    let run = run_ends c.args.bytes.now c.loop-end.end 4 (omega arith) (omega arith) (omega (arith, stops.ensures)) ∙ ap (count_trailing_zeros 64) (sym stops.ensures) in
    omega (arith, run, c.loop-end.invariant.0)

pub returns-then-stops-ne0-clause-within : goal.returns-then-stops-ne0-clause-within
returns-then-stops-ne0-clause-within c =
    let stops = c.stops_of_4-stops in
    let run = run_ends c.args.bytes.now c.loop-end.end 4 (omega arith) (omega arith) (omega (arith, stops.ensures)) ∙ ap (count_trailing_zeros 64) (sym stops.ensures) in
    omega (arith, run, run_within c.args.bytes.now c.loop-end.end c.loop-end.invariant.1)

pub loop-end-preserved : goal.loop-end-preserved
loop-end-preserved c =
    let run = run_goes_on c.args.bytes.now c.loop-end.end 4 (omega arith) (omega (arith, c.stops_of_4-stops.ensures)) in
    (omega (arith, run, c.loop-end.invariant.0), omega arith)
