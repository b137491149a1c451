-- What is gone on with leaves less.
use Rattle.std.proofs.Common.{◌≡◌, ◌<◌, ℕ, Bool, true, false, refl, arith}
use Rattle.std.specs.Prelude.{IsFalse, IsTrue}
use Rattle.pn_lines.specs.Engines.{is_pending, pending_left}
use Rattle.pn_lines.specs.declared.engine.state.Stage.{Stage}
use Rattle.pn_lines.specs.declared.engine.state.Stage.TheVariants.{Reading, Pending, Ended}
use Rattle.pn_lines.proofs.engine.LineEngine.go_further.Goals as goal

nearer : {A G : Type 0} (left : G → ℕ) (result : Bool) (stage now : Stage G) → (IsTrue result → pending_left left now < pending_left left stage) → (IsFalse result → A × (pending_left left stage ≡ 0))
    → is_pending stage ≡ true → pending_left left now < pending_left left stage
nearer left true stage now less none pending = less refl
nearer left false (Reading dropped) now less none pending = absurd (cc)
nearer left false (Pending g ended) now less none pending = absurd (omega (arith, (none refl).1))
nearer left false (Ended end) now less none pending = absurd (cc)

pub returns-clause-nearer : goal.returns-clause-nearer
returns-clause-nearer g c = λ made. nearer g.M.LineHandler.left c.resume.result _ _ c.resume.ensures.nearer c.resume.ensures.none

pub returns-then-has_text-clause-stands : goal.returns-then-has_text-clause-stands
returns-then-has_text-clause-stands g c = λ start taken given ahead last is. is

pub returns-clause-stands : goal.returns-clause-stands
returns-clause-stands g c = c.resume.ensures.stands
