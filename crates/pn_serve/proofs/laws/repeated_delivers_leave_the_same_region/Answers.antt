-- The last refused round is taken out first, and then those before it.
use Rattle.pn_serve.specs.Script.Laws.{machine_of}
use Rattle.pn_serve.proofs.RepeatScripts.{told_without}
use Rattle.pn_serve.proofs.SameReplies.{same_line, same_end}
use Rattle.pn_serve.proofs.laws.repeated_delivers_leave_the_same_region.Goals as goal

pub returns-clause-region : goal.returns-clause-region
returns-clause-region c = λ one other without. (told_without one other without).region

pub returns-clause-mode : goal.returns-clause-mode
returns-clause-mode c = λ one other without. (told_without one other without).mode

pub returns-clause-replies : goal.returns-clause-replies
returns-clause-replies c = λ one other outcome text without free.
    let same = told_without one other without in
    (same_line (machine_of one) (machine_of other) same outcome text free, same_end (machine_of one) (machine_of other) same outcome text free)
