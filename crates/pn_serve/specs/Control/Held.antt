-- What the mailbox of a control session holds.
use Rattle.std.specs.Prelude.{Bool, true, false}
use Rattle.pn_serve.specs.declared.control.held_command.HeldCommand.{HeldCommand}
use Rattle.pn_serve.specs.declared.control.held_command.HeldCommand.TheVariants.{Nothing, Asked, Taken, Answered, Closed}

-- whether the session waits: the writer has not taken its command yet, or does it
abbrev pub is_unanswered : HeldCommand → Bool
is_unanswered Nothing = false
is_unanswered (Asked command) = true
is_unanswered Taken = true
is_unanswered (Answered answer) = false
is_unanswered Closed = false
