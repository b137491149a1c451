-- A checker may stay as it is twice, and begins no line.
use Rattle.std.proofs.Common.{refl, ◌∙◌}
use Rattle.pn_lines.specs.Handling.{GivesUp, IsPreorder}
use Rattle.pn_check.specs.Checking.{Stays, checks}
use Rattle.pn_check.specs.declared.checker.Checker.{Checker}

pub checks_steadily : IsPreorder Stays × IsPreorder {V = Checker} (λ old new. Unit {0}) × GivesUp checks
checks_steadily = (
  record { stays = λ v. refl; goes_on = λ a b c first second. second ∙ first },
  record { stays = λ v. tt; goes_on = λ a b c first second. tt },
  λ was between now ended line pending begun moved. absurd begun,
)
