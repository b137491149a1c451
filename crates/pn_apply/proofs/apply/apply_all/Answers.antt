-- What is worked has taken its operation.
use Rattle.std.proofs.Common.{arith}
use Rattle.pn_apply.proofs.Applied.{reads_all, fit_all, applied_ok, applied_changes, applied_err, applied_left}
use Rattle.pn_apply.proofs.apply.apply_all.Goals as goal

pub work_all-requires-clause-fit : goal.work_all-requires-clause-fit
work_all-requires-clause-fit g c κs within = fit_all g.S.Slot.tablet c.args.operations.now 0 c.args.slots.now c.args.operations.now (reads_all g.S.Slot.tablet c.args.operations.now) (omega arith) c.requires.joins c.requires.positions

pub returns-clause-ok : goal.returns-clause-ok
returns-clause-ok g c = applied_ok g.S.Slot.tablet c.args.operations.now c.args.slots.now c.work_all.new.items c.work_all.result c.requires.joins c.work_all.ensures

pub returns-clause-changes : goal.returns-clause-changes
returns-clause-changes g c = applied_changes g.S.Slot.tablet c.args.operations.now c.args.slots.now c.work_all.new.items c.work_all.result c.requires.joins c.work_all.ensures

pub returns-clause-err : goal.returns-clause-err
returns-clause-err g c = applied_err g.S.Slot.tablet c.args.operations.now c.args.slots.now c.work_all.new.items c.work_all.result c.requires.joins c.work_all.ensures

pub returns-clause-left : goal.returns-clause-left
returns-clause-left g c = applied_left g.S.Slot.tablet c.args.operations.now c.args.slots.now c.work_all.new.items c.work_all.result c.requires.joins c.work_all.ensures
