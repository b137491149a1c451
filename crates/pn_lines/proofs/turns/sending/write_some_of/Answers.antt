-- More of the bytes were written.
use Rattle.std.proofs.Common.{◌≡◌, ◌+◌, ◌-◌, ◌++◌, ℕ, List, length, take, drop, sym, ap, ◌∙◌, subst, arith}
use Rattle.std.proofs.KnownBytes.{Appends-trans}
use Rattle.std.proofs.Math.Seq.{take-add}
use Rattle.std.proofs.lemmas.List.{length-drop}
use Rattle.std.specs.Io.KnownBytes.{Appends}
use Rattle.pn_lines.proofs.Steps.{slice_rest}
use Rattle.pn_lines.proofs.turns.sending.write_some_of.Goals as goal

pub writes-preserved : goal.writes-preserved
writes-preserved g c =
    let bytes = c.args.bytes.now in
    let count = c.writes.count in
    let more = c.in-Ok.more in
    let first = g.W.Sink.contents c.args.output.now in
    let after = g.W.Sink.contents c.write_some.new.self in
    let rest = take (length bytes - count) (drop count bytes) in
    let same : rest ≡ drop count bytes = slice_rest bytes count in
    let all : take count bytes ++ take more rest ≡ take (count + more) bytes = ap (λ (l : List ℕ). take count bytes ++ take more l) same ∙ sym (take-add count more bytes) in
    record {
      written = subst (λ (l : List ℕ). Appends first after l) all (Appends-trans first (g.W.Sink.contents c.writes.output) after (take count bytes) (take more rest) c.writes.invariant.written c.in-Ok.ensures.written);
      within = omega (arith, c.in-Ok.ensures.within, ap length same, length-drop count bytes, c.writes.invariant.within);
    }
