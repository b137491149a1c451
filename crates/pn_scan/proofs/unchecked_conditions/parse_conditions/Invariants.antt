-- The values so far are conditions, which keep the limits or not, and those that were made are they.
use Rattle.std.proofs.Common.{◌≡◌, ◌&&◌, nat_le, map, length, take, IsTrue, IfSome}
use Rattle.pn_scan.specs.Queries.{shown_condition}
use Rattle.pn_scan.specs.declared.query.TheConstants.{MAX_CONDITIONS}
use Rattle.pn_scan.specs.QueryReading.{conditions_among, are_conditions, all_fit}
use Rattle.pn_scan.proofs.unchecked_conditions.parse_conditions.Given as goal

abbrev pub invariant-loop-value : goal.invariant-loop-value
invariant-loop-value l = record {
  all : IsTrue (are_conditions (take l.value-index l.values));
  fits : l.fit ≡ (nat_le (length l.values) MAX_CONDITIONS && all_fit (take l.value-index l.values));
  shown : IfSome l.made (λ made. map shown_condition made.items ≡ conditions_among (take l.value-index l.values));
}
