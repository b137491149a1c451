-- The laws of joining.
use Rattle.std.specs.Prelude.{◌≡◌}

-- joining is commutative, associative and idempotent
pub record JoinLaws {M : Type 0} (joined : M → M → M) : Type 0 where
  pub commutes : (a b : M) → joined a b ≡ joined b a
  pub associates : (a b c : M) → joined (joined a b) c ≡ joined a (joined b c)
  pub repeats : (a : M) → joined a a ≡ a
