-- One more end is moved.
use Rattle.std.proofs.Common.{◌≡◌, ◌+◌, ◌-◌, ◌<◌, ◌≤◌, suc, length, get_or, set, ap, ◌∙◌, sym, arith}
use Rattle.pn_join.specs.Counts.{entry_ends, leaf_ends, moved_from}
use Rattle.pn_join.specs.declared.table.counts.Sizes.{Sizes}
use Rattle.pn_join.proofs.CountsFacts.{can_here, can_next, moved_next, moved_nowhere, moved_past}
use Rattle.pn_join.proofs.Lasts.{get-mapped, length-mapped, map-set}
use Rattle.pn_join.proofs.table.counts.move_ends.Goals as goal

pub returns-then-was-is-2-clause-entries : goal.returns-then-was-is-2-clause-entries
returns-then-was-is-2-clause-entries c =
    let same : c.args.was.entries ≡ c.args.is.entries = omega arith in
    sym (moved_nowhere c.args.from c.args.was.entries c.args.is.entries (entry_ends c.args.ends.now.items) same c.requires.entries)

pub returns-then-was-is-2-clause-leaves : goal.returns-then-was-is-2-clause-leaves
returns-then-was-is-2-clause-leaves c =
    let same : c.args.was.leaves ≡ c.args.is.leaves = omega arith in
    sym (moved_nowhere c.args.from c.args.was.leaves c.args.is.leaves (leaf_ends c.args.ends.now.items) same c.requires.leaves)

pub overflow_sub-end : goal.overflow_sub-end
overflow_sub-end c =
    let now = c.loop-index in
    let ends = now.ends.items in
    let lt : now.index < length ends = omega (arith, c.loop-index-test.true, c.len.ensures, now.ends.ok.0) in
    let within : now.index < length (entry_ends ends) = omega (arith, lt, length-mapped (λ (e : Sizes). e.entries) ends) in
    let here : c.index-end.result.now.entries ≡ get_or (entry_ends ends) now.index 0 = ap (λ (e : Sizes). e.entries) c.index-end.ensures ∙ get-mapped (λ (e : Sizes). e.entries) ends now.index c.index-end.result.now 0 lt in
    let can = can_here now.index c.args.was.entries c.args.is.entries (entry_ends ends) now.invariant.may_entries within in
    omega (arith, here, can.0)

pub overflow_add-end : goal.overflow_add-end
overflow_add-end c =
    let now = c.loop-index in
    let ends = now.ends.items in
    let lt : now.index < length ends = omega (arith, c.loop-index-test.true, c.len.ensures, now.ends.ok.0) in
    let within : now.index < length (entry_ends ends) = omega (arith, lt, length-mapped (λ (e : Sizes). e.entries) ends) in
    let here : c.index-end.result.now.entries ≡ get_or (entry_ends ends) now.index 0 = ap (λ (e : Sizes). e.entries) c.index-end.ensures ∙ get-mapped (λ (e : Sizes). e.entries) ends now.index c.index-end.result.now 0 lt in
    let can = can_here now.index c.args.was.entries c.args.is.entries (entry_ends ends) now.invariant.may_entries within in
    omega (arith, here, can.1)

pub overflow_sub-end-in-loop-index : goal.overflow_sub-end-in-loop-index
overflow_sub-end-in-loop-index c =
    let now = c.loop-index in
    let ends = now.ends.items in
    let lt : now.index < length ends = omega (arith, c.loop-index-test.true, c.len.ensures, now.ends.ok.0) in
    let within : now.index < length (leaf_ends ends) = omega (arith, lt, length-mapped (λ (e : Sizes). e.leaves) ends) in
    let here : c.index-end.result.now.leaves ≡ get_or (leaf_ends ends) now.index 0 = ap (λ (e : Sizes). e.leaves) c.index-end.ensures ∙ get-mapped (λ (e : Sizes). e.leaves) ends now.index c.index-end.result.now 0 lt in
    let can = can_here now.index c.args.was.leaves c.args.is.leaves (leaf_ends ends) now.invariant.may_leaves within in
    omega (arith, here, can.0)

pub overflow_add-end-in-loop-index : goal.overflow_add-end-in-loop-index
overflow_add-end-in-loop-index c =
    let now = c.loop-index in
    let ends = now.ends.items in
    let lt : now.index < length ends = omega (arith, c.loop-index-test.true, c.len.ensures, now.ends.ok.0) in
    let within : now.index < length (leaf_ends ends) = omega (arith, lt, length-mapped (λ (e : Sizes). e.leaves) ends) in
    let here : c.index-end.result.now.leaves ≡ get_or (leaf_ends ends) now.index 0 = ap (λ (e : Sizes). e.leaves) c.index-end.ensures ∙ get-mapped (λ (e : Sizes). e.leaves) ends now.index c.index-end.result.now 0 lt in
    let can = can_here now.index c.args.was.leaves c.args.is.leaves (leaf_ends ends) now.invariant.may_leaves within in
    omega (arith, here, can.1)

pub loop-index-preserved : goal.loop-index-preserved
loop-index-preserved c =
    let now = c.loop-index in
    let ends = now.ends.items in
    let i = now.index in
    let was = c.args.was in
    let is = c.args.is in
    let end : Sizes = record { entries = c.index-end.result.now.entries - was.entries + is.entries; leaves = c.index-end.result.now.leaves - was.leaves + is.leaves } in
    let next : i + 1 ≡ suc i = omega arith in
    let lt : i < length ends = omega (arith, c.loop-index-test.true, c.len.ensures, now.ends.ok.0) in
    let lt_entries : i < length (entry_ends ends) = omega (arith, lt, length-mapped (λ (e : Sizes). e.entries) ends) in
    let here_entries : c.index-end.result.now.entries ≡ get_or (entry_ends ends) i 0 = ap (λ (e : Sizes). e.entries) c.index-end.ensures ∙ get-mapped (λ (e : Sizes). e.entries) ends i c.index-end.result.now 0 lt in
    let put_entries : entry_ends (set ends i end) ≡ set (entry_ends ends) i end.entries = map-set (λ (e : Sizes). e.entries) ends i end in
    let lt_leaves : i < length (leaf_ends ends) = omega (arith, lt, length-mapped (λ (e : Sizes). e.leaves) ends) in
    let here_leaves : c.index-end.result.now.leaves ≡ get_or (leaf_ends ends) i 0 = ap (λ (e : Sizes). e.leaves) c.index-end.ensures ∙ get-mapped (λ (e : Sizes). e.leaves) ends i c.index-end.result.now 0 lt in
    let put_leaves : leaf_ends (set ends i end) ≡ set (leaf_ends ends) i end.leaves = map-set (λ (e : Sizes). e.leaves) ends i end in
    record {
      entries = ap (λ n. moved_from n was.entries is.entries (entry_ends (set ends i end))) next
          ∙ ap (moved_from (suc i) was.entries is.entries) put_entries
          ∙ moved_next i was.entries is.entries (entry_ends ends) end.entries lt_entries (ap (λ n. (n - was.entries) + is.entries) here_entries) ∙ now.invariant.entries;
      leaves = ap (λ n. moved_from n was.leaves is.leaves (leaf_ends (set ends i end))) next
          ∙ ap (moved_from (suc i) was.leaves is.leaves) put_leaves
          ∙ moved_next i was.leaves is.leaves (leaf_ends ends) end.leaves lt_leaves (ap (λ n. (n - was.leaves) + is.leaves) here_leaves) ∙ now.invariant.leaves;
      may_entries = rw (next, put_entries) (can_next i was.entries is.entries (entry_ends ends) end.entries now.invariant.may_entries);
      may_leaves = rw (next, put_leaves) (can_next i was.leaves is.leaves (leaf_ends ends) end.leaves now.invariant.may_leaves);
      len = now.invariant.len;
      capacity = now.invariant.capacity;
    }

pub returns-clause-entries : goal.returns-clause-entries
returns-clause-entries c =
    let now = c.loop-index in
    let past : length (entry_ends now.ends.items) ≤ now.index = omega (arith, c.loop-index-test.false, now.ends.ok.0, length-mapped (λ (end : Sizes). end.entries) now.ends.items) in
    sym (moved_past now.index c.args.was.entries c.args.is.entries (entry_ends now.ends.items) past) ∙ now.invariant.entries

pub returns-clause-leaves : goal.returns-clause-leaves
returns-clause-leaves c =
    let now = c.loop-index in
    let past : length (leaf_ends now.ends.items) ≤ now.index = omega (arith, c.loop-index-test.false, now.ends.ok.0, length-mapped (λ (end : Sizes). end.leaves) now.ends.items) in
    sym (moved_past now.index c.args.was.leaves c.args.is.leaves (leaf_ends now.ends.items) past) ∙ now.invariant.leaves
