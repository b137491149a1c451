-- Whole lines were read onto the text, none of which begins as an end does.
use Rattle.std.proofs.Common.{◌≡◌, ◌≤◌, ℕ, Some, List, length}
use Rattle.pn_serve.proofs.CopyTexts.{Gathered}
use Rattle.pn_serve.proofs.CopyTries.{IsTried}
use Rattle.pn_serve.proofs.copies.texts.CopyTexts.next_text.Given as goal

abbrev pub invariant-loop-lines : goal.invariant-loop-lines
invariant-loop-lines g l = record {
  gathered : (bytes : List ℕ) → g.S.Source.left l.initial.self.source ≡ Some bytes → Gathered bytes l.text.items l.lines (g.S.Source.left l.self.source);
  tried : (bytes : List ℕ) → g.S.Source.left l.initial.self.source ≡ Some bytes → IsTried l.front.due l.text.items;
  next : l.self.next ≡ l.initial.self.next;
  few : l.lines ≤ length l.text.items;
}
