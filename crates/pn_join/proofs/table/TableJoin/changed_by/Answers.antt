use Rattle.std.proofs.Common.{◌≡◌, true, false, [], length, vec_len, sym, ap, ◌∙◌, arith, rules}
use Rattle.std.specs.Bool.{◌==◌}
use Rattle.pn_join.specs.TableChanges.{AreChanges, puts}
use Rattle.pn_join.specs.Tables.{contents_at, key_by_key}
use Rattle.pn_join.proofs.Changing.{none_left, nothing_told, puts_joined}
use Rattle.pn_join.proofs.table.TableJoin.changed_by.Goals as goal

pub returns-then-is_empty-clause-joined : goal.returns-then-is_empty-clause-joined
returns-then-is_empty-clause-joined g c =
    let cmp = g.K.Ord.cmp in
    let meaning = g.C.Join.meaning in
    let joined = g.C.Join.joined in
    let valid = g.C.Join.valid in
    let own = c.args.self.now in
    let other = c.args.other.now in
    let changes = c.in_ok-changes.changes.items in
    let zero : vec_len c.in_ok-changes.changes ≡ 0 = search rules in
    let none : changes ≡ [] = none_left changes (omega (arith, zero, c.in_ok-changes.changes.ok.0)) in
    let told : AreChanges cmp meaning joined valid own other changes = rw c.in_ok-joined.ensures at c.in_ok-changes.ensures.changes in
    ap (λ cs. contents_at cmp meaning (puts cmp own cs)) (sym none)
    ∙ puts_joined cmp g.met.K.Ord.total meaning joined valid own other changes c.in_ok-changes.ensures.tables.1 told

pub returns-clause-differs : goal.returns-clause-differs
returns-clause-differs g c = λ same.
    let cmp = g.K.Ord.cmp in
    let meaning = g.C.Join.meaning in
    let joined = g.C.Join.joined in
    let valid = g.C.Join.valid in
    let own = c.args.self.now in
    let other = c.args.other.now in
    let changes = c.in_ok-changes.changes.items in
    let told : AreChanges cmp meaning joined valid own other changes = rw c.in_ok-joined.ensures at c.in_ok-changes.ensures.changes in
    let joins : contents_at cmp meaning c.join_with_changes.new.self ≡ key_by_key joined (contents_at cmp meaning own) (contents_at cmp meaning other) = rw c.in_ok-joined.ensures at c.in_ok-changes.ensures.ok in
    let none : changes ≡ [] = nothing_told cmp g.met.K.Ord.total meaning joined valid own other changes c.in_ok-changes.ensures.tables.1 told (sym same ∙ joins) in
    let zero : vec_len c.in_ok-changes.changes ≡ 0 = omega (arith, ap length none, c.in_ok-changes.changes.ok.0) in
    let never : true ≡ false = sym (ap (λ n. n == 0) zero) ∙ sym c.is_empty.ensures ∙ c.if-is_empty.false in
    cc
