-- When a count of faults moves.
use Rattle.std.specs.Prelude.{◌≡◌, ◌≤◌, ◌+◌, ◌-◌, ◌^◌, ℕ, min, Result, Ok, Err}
use Rattle.property_keys.specs.Counts.{counted}
use Rattle.hc_outside.specs.declared.Fault.{Fault}
use Rattle.hc_outside.specs.declared.Fault.TheVariants.{Failed, NoMemory}

-- a count of faults rose; at the end of its type it stands still
abbrev pub Rose : ℕ → ℕ → Type 0
Rose before now = min (before + 1) (2 ^ 64 - 1) ≤ now

-- the count never falls, and rose
pub record Rises (before now : ℕ) : Type 0 where
  pub later : before ≤ now
  pub rose : Rose before now

-- Failed is answered only where the count rose; every other answer leaves the count as it was
abbrev pub HasCause : {T : Type 0} → ℕ → ℕ → Result T Fault → Type 0
HasCause before now (Ok value) = now ≡ before
HasCause before now (Err Failed) = Rises before now
HasCause before now (Err NoMemory) = now ≡ before

-- a count of the calls that answered Ok; it stands still at the end of its type
abbrev pub CountsAnswer : {T E : Type 0} → ℕ → Result T E → ℕ → Type 0
CountsAnswer before (Ok value) now = now ≡ counted before
CountsAnswer before (Err fault) now = now ≡ before
