-- The need is reached exactly if no entry of it falls short.
use Rattle.std.proofs.Common.{◌≡◌, Bool, true, false, not, IsTrue, sym, ap, ◌∙◌}
use Rattle.pn_join.specs.Marks.{name_cmp}
use Rattle.pn_join.proofs.MarksFacts.{reached, none_short}
use Rattle.pn_join.proofs.Rising.{Rising-from_sorted}
use Rattle.pn_join.proofs.marks.Table+StreamName+Highest.reaches.Goals as goal

is_not : (b : Bool) → IsTrue (not b) → b ≡ false
is_not true h = cc
is_not false h = cc

pub returns : goal.returns
returns c = (
  λ is. reached c.args.self.now c.args.need.now (sym c.falls_short_of.ensures.short ∙ is_not _ is),
  λ reach. ap not (c.falls_short_of.ensures.short ∙ none_short c.args.self.now c.args.need.now (Rising-from_sorted name_cmp _ c.falls_short_of.ensures.rising) reach),
)
