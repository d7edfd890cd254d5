-- The calls of an object in memory: they are numbered from 1, and those in a list fail.
use Rattle.std.specs.Prelude.{◌==◌, ℕ, List, Bool}
use Rattle.std.specs.List.{list_any}
use Rattle.property_keys.specs.Counts.{counted}

-- the numbers of the calls that are to fail, how many calls were made, and how many of them failed
pub record CallCount : Type 0 where
  pub failing : List ℕ
  pub made : ℕ
  pub faults : ℕ

-- a number stands in a list
abbrev pub has_call : List ℕ → ℕ → Bool
has_call calls n = list_any (λ call. call == n) calls

-- the next call is to fail
abbrev pub next_fails : CallCount → Bool
next_fails c = has_call c.failing (counted c.made)

-- no call was made yet
abbrev pub no_calls : List ℕ → CallCount
no_calls failing = record { failing = failing; made = 0; faults = 0 }

-- one more call was made
abbrev pub with_call : CallCount → CallCount
with_call c = record { failing = c.failing; made = counted c.made; faults = c.faults }

-- one more call was made, and it failed
abbrev pub with_fault : CallCount → CallCount
with_fault c = record { failing = c.failing; made = counted c.made; faults = counted c.faults }
