-- No key was read.
use Rattle.std.proofs.Common.{◌≡◌, ◌≤◌, ℕ, length, refl, subst, arith}
use Rattle.std.specs.Prelude.{IfOk, vec_capacity}
use Rattle.pn_live.proofs.Getting.{of_hand}
use Rattle.pn_scan.proofs.Getting.{Cells, capacity_made, none_at_hand}
use Rattle.pn_live.proofs.get_walk.GetWalk.new.Goals as goal

pub returns : goal.returns
returns c =
    let made = c.with_capacity.ensures in
    record { keys_are = refl; none_read = refl; cells_are = of_hand c.ok-cells.result _ (none_at_hand c.with_capacity.result c.ok-cells.result c.ok-cells.ensures.value made.items) }

pub invariant_of-result : goal.invariant_of-result
invariant_of-result c =
    let made = c.with_capacity.ensures in
    let size : c.len.result ≡ length c.args.keys.items = omega (arith, c.len.ensures, c.args.keys.ok.0) in
    let wide = subst (λ (n : ℕ). IfOk c.with_capacity.result (λ (cells : Cells). n ≤ vec_capacity cells)) size made.capacity in
    (omega arith, capacity_made c.with_capacity.result c.ok-cells.result (length c.args.keys.items) c.ok-cells.ensures.value wide made.len)
