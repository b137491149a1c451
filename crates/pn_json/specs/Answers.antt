-- Chains of checks in which the first fault decides, and results compared with the right ones.
use Rattle.std.specs.Prelude.{◌≡◌, ◌≢◌, Result, Ok, Err}

-- the result of the second on the value of the first, or the first's fault
infixl 10 ◌>>=◌
abbrev pub ◌>>=◌ : {A B F : Type 0} → Result A F → (A → Result B F) → Result B F
(Ok value) >>= next = next value
(Err fault) >>= next = Err fault

-- the fault under another name
abbrev pub fault_as : {A F G : Type 0} → (F → G) → Result A F → Result A G
fault_as name (Ok value) = Ok value
fault_as name (Err fault) = Err (name fault)

-- the result, as a contract shows it, is the right one
abbrev pub Shows : {A B F : Type 0} → (A → B) → Result A F → Result B F → Type 0
Shows show (Ok value) right = right ≡ Ok (show value)
Shows show (Err fault) right = right ≡ Err fault

-- the result, as a contract shows it, is the right one, unless it is this fault, which means out of memory
abbrev pub ShowsUnless : {A B F : Type 0} → F → (A → B) → Result A F → Result B F → Type 0
ShowsUnless memory show (Ok value) right = right ≡ Ok (show value)
ShowsUnless memory show (Err fault) right = fault ≢ memory → right ≡ Err fault

-- the result is the right one, unless it is this fault, which means out of memory
abbrev pub IsUnless : {A F : Type 0} → F → Result A F → Result A F → Type 0
IsUnless memory answer right = ShowsUnless memory (λ value. value) answer right
