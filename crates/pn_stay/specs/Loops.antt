-- Connections of an event loop, what its clients have not taken, and whether a call of a socket has failed.
use Rattle.std.specs.Prelude.{◌≡◌, ◌≢◌, ◌⊎◌, ℕ, Bool, true, Result, Ok, Err, ◌≤◌, Option, None, Some, IfSome}
use Rattle.std.specs.IoError.{error_kind}
use Rattle.std.specs.declared.io.Error.{Error}
use Rattle.std.specs.declared.io.ErrorKind.TheVariants.{WouldBlock}
use Rattle.std.specs.Option.{option_map}
use Rattle.slab.specs.Slab.{Slab, get}
use Rattle.pn_stay.specs.Unread.{IdleTimeoutValue, after_quarter, UnreadValue, quiet_in}
use Rattle.pn_stay.specs.declared.connection.Connection.{Connection}

-- Whether a call of a socket has failed.

-- after a read or a write a call has failed where one had before, or where this one gave an error that is no wait
abbrev pub NotesFailure : Bool → Result ℕ Error → Bool → Type 0
NotesFailure was (Ok count) now = now ≡ was
NotesFailure was (Err error) now = ((error_kind error ≡ WouldBlock) × (now ≡ was)) ⊎ ((error_kind error ≢ WouldBlock) × (now ≡ true))

-- Connections of an event loop.

-- for how long the client of a key is idle, if it has one
abbrev pub idle_at : Slab Connection → ℕ → Option IdleTimeoutValue
idle_at connections key = option_map (λ connection. connection.idle) (get connections key)

-- whether the input of the client of a key ends after what has come of it, if it has one
abbrev pub ending_at : Slab Connection → ℕ → Option Bool
ending_at connections key = option_map (λ connection. connection.is_ending) (get connections key)

-- the input of a client, if there is one, ends after what has come of it
abbrev pub IsEnding : Option Bool → Type 0
IsEnding ending = IfSome ending (λ is_ending. is_ending ≡ true)

-- the idle time of a client, if there is one, once a quarter of a second more is over
abbrev pub quarter_later : Option IdleTimeoutValue → Option IdleTimeoutValue
quarter_later = option_map after_quarter

-- there is a client that is idle for at least `most` quarters
abbrev pub IsIdleFor : ℕ → Option IdleTimeoutValue → Type 0
IsIdleFor most None = ⊥
IsIdleFor most (Some timeout) = most ≤ timeout.quarters

-- as a quarter ends, a client that is idle for at least `most` quarters is dropped, and another is a quarter older
pub record EndsQuarter (most : ℕ) (before after : Option IdleTimeoutValue) : Type 0 where
  pub dropped : IsIdleFor most (quarter_later before) → after ≡ None
  pub older : ¬ (IsIdleFor most (quarter_later before)) → after ≡ quarter_later before

-- What the clients of an event loop have not taken.

-- what the client of a key has not taken, if there is one and replies wait for it
abbrev pub unread_in : Option Connection → Option UnreadValue
unread_in None = None
unread_in (Some connection) = connection.unread

abbrev pub unread_at : Slab Connection → ℕ → Option UnreadValue
unread_at connections key = unread_in (get connections key)

-- for how many quarters the client of a key took no byte, where its reply weighs something
abbrev pub quiet_at : Slab Connection → ℕ → ℕ
quiet_at connections key = quiet_in (unread_at connections key)
