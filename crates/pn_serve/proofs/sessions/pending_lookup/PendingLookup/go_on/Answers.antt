-- A page, a get and a copy that are resumed.
use Rattle.std.proofs.Common.{◌≤◌, sym, subst, arith}
use Rattle.pn_scan.specs.Paging.{Stays}
use Rattle.pn_serve.specs.declared.sessions.pending_lookup.PendingLookup.{PendingLookup}
use Rattle.pn_serve.specs.Session.Resuming.{answer_left, KnowsNoLess, CountsUnits, LooksOn, pending_left}
use Rattle.pn_serve.proofs.GoingOn.{copy_nearer, copy_on, keys_nearer, keys_on, only_looks_know, page_nearer, page_on, copy_counted, keys_counted, page_counted, page_few}
use Rattle.pn_serve.proofs.Knowing.{knows_itself, moves_knows, stays_knows, knows_preorder, stays_preorder}
use Rattle.pn_serve.proofs.sessions.pending_lookup.PendingLookup.go_on.Goals as goal

pub returns-in-Page-clause-alone : goal.returns-in-Page-clause-alone
returns-in-Page-clause-alone c =
    λ was between command on moved.
    page_on Stays stays_preorder stays_knows was between c.args.reader.now c.go_on-step.new.view moved command c.in-Page.query c.in-Page.walk c.go_on-step.result c.page_answer.result
    (subst (λ (pending : PendingLookup). LooksOn Stays was command between pending) c.in-Page.is on) c.go_on-step.ensures.goes c.page_answer.ensures

pub returns-in-Page-clause-shared : goal.returns-in-Page-clause-shared
returns-in-Page-clause-shared c =
    λ was between command on moved.
    page_on KnowsNoLess knows_preorder moves_knows was between c.args.reader.now c.go_on-step.new.view moved command c.in-Page.query c.in-Page.walk c.go_on-step.result c.page_answer.result
    (subst (λ (pending : PendingLookup). LooksOn KnowsNoLess was command between pending) c.in-Page.is on) c.go_on-step.ensures.goes c.page_answer.ensures

pub returns-in-Page-clause-nearer : goal.returns-in-Page-clause-nearer
returns-in-Page-clause-nearer c = λ some.
    subst (λ (pending : PendingLookup). answer_left c.page_answer.result ≤ pending_left pending) (sym c.in-Page.is)
    (page_nearer c.in-Page.query c.in-Page.walk c.go_on-step.result c.page_answer.result c.page_answer.ensures c.go_on-step.ensures.nearer c.recall_few.ensures)

pub returns-in-Page-clause-knows : goal.returns-in-Page-clause-knows
returns-in-Page-clause-knows c = only_looks_know c.args.reader.now c.go_on-step.new.view c.go_on-step.ensures.looked

pub returns-in-Keys-clause-alone : goal.returns-in-Keys-clause-alone
returns-in-Keys-clause-alone c =
    λ was between command on moved.
    keys_on Stays stays_preorder stays_knows was between c.args.reader.now c.go_on-walk.new.reader moved command c.in-Keys.walk c.go_on-walk.result c.keys_answer.result
    (subst (λ (pending : PendingLookup). LooksOn Stays was command between pending) c.in-Keys.is on) c.go_on-walk.ensures.goes c.keys_answer.ensures.answers

pub returns-in-Keys-clause-shared : goal.returns-in-Keys-clause-shared
returns-in-Keys-clause-shared c =
    λ was between command on moved.
    keys_on KnowsNoLess knows_preorder moves_knows was between c.args.reader.now c.go_on-walk.new.reader moved command c.in-Keys.walk c.go_on-walk.result c.keys_answer.result
    (subst (λ (pending : PendingLookup). LooksOn KnowsNoLess was command between pending) c.in-Keys.is on) c.go_on-walk.ensures.goes c.keys_answer.ensures.answers

pub returns-in-Keys-clause-nearer : goal.returns-in-Keys-clause-nearer
returns-in-Keys-clause-nearer c = λ some.
    subst (λ (pending : PendingLookup). answer_left c.keys_answer.result ≤ pending_left pending) (sym c.in-Keys.is)
    (keys_nearer c.in-Keys.walk c.max-most.result c.go_on-walk.result c.keys_answer.result (omega (arith, c.max-most.ensures)) c.go_on-walk.ensures.left c.keys_answer.ensures.some c.keys_answer.ensures.fault)

pub returns-in-Keys-clause-knows : goal.returns-in-Keys-clause-knows
returns-in-Keys-clause-knows c = only_looks_know c.args.reader.now c.go_on-walk.new.reader c.go_on-walk.ensures.looked

pub returns-in-Copy-clause-alone : goal.returns-in-Copy-clause-alone
returns-in-Copy-clause-alone c =
    λ was between command on moved.
    copy_on Stays stays_preorder stays_knows was between c.args.reader.now c.args.reader.now moved command c.in-Copy.count c.lines_in.result c.go_on.result c.copy_answer.result
    (subst (λ (pending : PendingLookup). LooksOn Stays was command between pending) c.in-Copy.is on) c.go_on.ensures (c.copy_answer.ensures c.lines_in.result c.in-Copy.count c.go_on.ensures)

pub returns-in-Copy-clause-shared : goal.returns-in-Copy-clause-shared
returns-in-Copy-clause-shared c =
    λ was between command on moved.
    copy_on KnowsNoLess knows_preorder moves_knows was between c.args.reader.now c.args.reader.now moved command c.in-Copy.count c.lines_in.result c.go_on.result c.copy_answer.result
    (subst (λ (pending : PendingLookup). LooksOn KnowsNoLess was command between pending) c.in-Copy.is on) c.go_on.ensures (c.copy_answer.ensures c.lines_in.result c.in-Copy.count c.go_on.ensures)

pub returns-in-Copy-clause-nearer : goal.returns-in-Copy-clause-nearer
returns-in-Copy-clause-nearer c = λ some.
    subst (λ (pending : PendingLookup). answer_left c.copy_answer.result ≤ pending_left pending) (sym c.in-Copy.is)
    (copy_nearer c.in-Copy.count c.lines_in.result c.go_on.result c.copy_answer.result (omega (arith, c.lines_in.ensures, some)) c.go_on.ensures (c.copy_answer.ensures c.lines_in.result c.in-Copy.count c.go_on.ensures))

pub returns-in-Copy-clause-knows : goal.returns-in-Copy-clause-knows
returns-in-Copy-clause-knows c = knows_itself c.args.reader.now

pub returns-in-Page-clause-few : goal.returns-in-Page-clause-few
returns-in-Page-clause-few c = page_few c.args.units c.units_by-used.result c.in-Page.query c.in-Page.walk c.go_on-step.result c.units_by-used.ensures c.go_on-step.ensures.few

pub returns-in-Page-clause-counted : goal.returns-in-Page-clause-counted
returns-in-Page-clause-counted c =
    subst (λ (pending : PendingLookup). CountsUnits c.page_answer.result pending c.units_by-used.result) (sym c.in-Page.is)
    (page_counted c.args.units c.units_by-used.result _ _ c.in-Page.query c.in-Page.walk c.go_on-step.result c.page_answer.result c.page_answer.ensures c.units_by-used.ensures c.go_on-step.ensures.few)

pub returns-in-Keys-clause-few : goal.returns-in-Keys-clause-few
returns-in-Keys-clause-few c = omega (arith, c.count_keys-used.ensures, c.max-most.ensures)

pub returns-in-Keys-clause-counted : goal.returns-in-Keys-clause-counted
returns-in-Keys-clause-counted c =
    subst (λ (pending : PendingLookup). CountsUnits c.keys_answer.result pending c.count_keys-used.result) (sym c.in-Keys.is)
    (keys_counted c.in-Keys.walk c.max-most.result c.count_keys-used.result c.go_on-walk.result c.keys_answer.result (omega (arith, c.count_keys-used.ensures, c.left.ensures.left)) c.go_on-walk.ensures.few c.go_on-walk.ensures.left c.keys_answer.ensures.some c.keys_answer.ensures.fault)

pub returns-in-Copy-clause-few : goal.returns-in-Copy-clause-few
returns-in-Copy-clause-few c = omega arith

pub returns-in-Copy-clause-counted : goal.returns-in-Copy-clause-counted
returns-in-Copy-clause-counted c =
    subst (λ (pending : PendingLookup). CountsUnits c.copy_answer.result pending c.args.units) (sym c.in-Copy.is)
    (copy_counted c.in-Copy.count c.args.units c.lines_in.result c.go_on.result c.copy_answer.result c.lines_in.ensures c.go_on.ensures (c.copy_answer.ensures c.lines_in.result c.in-Copy.count c.go_on.ensures))
