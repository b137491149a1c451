-- The texts so far were cut out one after another.
use Rattle.std.proofs.Common.{◌≡◌, ℕ, Some, List, length}
use Rattle.pn_serve.specs.Copies.Cutting.{AreCuts}
use Rattle.pn_serve.proofs.copies.texts.CopyTexts.next_texts.Given as goal

abbrev pub invariant-loop : goal.invariant-loop
invariant-loop g l = record {
  cuts : (bytes : List ℕ) → g.S.Source.left l.initial.self.source ≡ Some bytes
      → (rest : List ℕ) × (g.S.Source.left l.self.source ≡ Some rest)
      × AreCuts (record { next = l.initial.self.next; bytes = bytes }) l.texts.items (record { next = l.self.next; bytes = rest });
  count : length l.texts.items ≡ l.counter;
}
