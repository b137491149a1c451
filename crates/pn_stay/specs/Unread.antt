-- For how long a client was idle, what it has not taken of its replies, and which clients are ended for it.
use Rattle.std.specs.Prelude.{ℕ, ◌+◌, Bool, true, false, min, if◌then◌else◌, ◌≡◌, ◌==◌, ◌⊎◌, ◌≤◌, ◌||◌, nat_le, Option, None, Some}
use Rattle.pn_stay.specs.declared.unread.TheConstants.{DEAF_QUARTERS, QUIET_QUARTERS}

-- For how many quarters of a second a client was idle.

-- how many quarters, and whether the client was active in the one that is not over
pub record IdleTimeoutValue : Type 0 where
  pub quarters : ℕ
  pub has_moved : Bool

-- the timeout of a client that has just come
abbrev pub new_idle_timeout : IdleTimeoutValue
new_idle_timeout = record { quarters = 0; has_moved = true }

-- the timeout once the quarter is over
abbrev pub after_quarter : IdleTimeoutValue → IdleTimeoutValue
after_quarter timeout = record { quarters = if timeout.has_moved then 0 else min (timeout.quarters + 1) 4294967295; has_moved = false }

-- What a client has not taken of its replies, and which clients are ended for it.

-- for how long the client takes no byte, and what the records weigh that its reply keeps
pub record UnreadValue : Type 0 where
  pub quiet : IdleTimeoutValue
  pub weight : ℕ

-- replies begin to wait for a client
abbrev pub new_unread : ℕ → UnreadValue
new_unread weight = record { quiet = new_idle_timeout; weight = weight }

-- after a turn in which the client took a byte, or none
abbrev pub after_turn : Bool → ℕ → UnreadValue → UnreadValue
after_turn taken weight unread = record { quiet = record unread.quiet { has_moved = unread.quiet.has_moved || taken }; weight = weight }

-- once a quarter of a second more is over
abbrev pub aged : UnreadValue → UnreadValue
aged unread = record unread { quiet = after_quarter unread.quiet }

-- the client took no byte for half a minute
abbrev pub is_deaf : UnreadValue → Bool
is_deaf unread = nat_le DEAF_QUARTERS unread.quiet.quarters

-- for how many quarters of a second a client took no byte, where its reply weighs something
abbrev pub quiet_of : UnreadValue → ℕ
quiet_of unread = if unread.weight == 0 then 0 else unread.quiet.quarters

-- the limit is passed, and the client took no byte for longest, and for a second at least
abbrev pub IsEnded : ℕ → ℕ → Bool → Type 0
IsEnded quarters longest past = (past ≡ true) × (quarters ≡ longest) × (QUIET_QUARTERS ≤ longest)

-- what the records weigh that a reply keeps, if one waits
abbrev pub weight_in : Option UnreadValue → ℕ
weight_in None = 0
weight_in (Some unread) = unread.weight

-- for how many quarters a client took no byte, if there is one whose reply weighs something
abbrev pub quiet_in : Option UnreadValue → ℕ
quiet_in None = 0
quiet_in (Some unread) = quiet_of unread

-- as a quarter ends, a client that is deaf then is dropped, and another is a quarter older
abbrev pub EndsDeaf : Option UnreadValue → Option UnreadValue → Type 0
EndsDeaf None after = after ≡ None
EndsDeaf (Some unread) after = (is_deaf (aged unread) ≡ true → after ≡ None) × (¬ (is_deaf (aged unread) ≡ true) → after ≡ Some (aged unread))

-- a client is as it was; or it was ended, that took no byte for so long, which is a second at least
abbrev pub EndsAt : ℕ → Option UnreadValue → Option UnreadValue → Type 0
EndsAt longest before after = (after ≡ before) ⊎ ((after ≡ None) × (quiet_in before ≡ longest) × (QUIET_QUARTERS ≤ longest))

-- each client is as it was; or it was ended, that took no byte for a second at least, and for no less time than any that stays
abbrev pub EndsLongest : (ℕ → Option UnreadValue) → (ℕ → Option UnreadValue) → Type 0
EndsLongest before after = (key : ℕ)
    → (after key ≡ before key) ⊎ ((after key ≡ None) × (QUIET_QUARTERS ≤ quiet_in (before key))
    × ((other : ℕ) → quiet_in (after other) ≤ quiet_in (before key)))
