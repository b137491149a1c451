-- Where memory has run out nothing is reported.
use Rattle.std.proofs.Common.{inl, refl}
use Rattle.pn_check.proofs.checker.Checker.check.Goals as goal

pub returns-then-self : goal.returns-then-self
returns-then-self c = λ text is. inl (c.if-self.true, refl)
