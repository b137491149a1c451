-- Of no marks each stream stands at 0.
use Rattle.std.proofs.Common.{[], refl}
use Rattle.pn_serve.proofs.server.shown_mark.ShownMark.new.Goals as goal

pub new-requires : goal.new-requires
new-requires c = ∣ record { marks = []; name = []; is = refl } ∣₁
