-- What the contracts see of each implementation.
use Rattle.std.specs.Prelude.{ℕ, List, Option}
use Rattle.hc_outside.specs.Calls.{CallCount}

-- files in memory: names with bytes, what is left of each begun file in the order of the ids, the names asked for, the number of reads, and the calls
pub record FilesState : Type 0 where
  pub named : List (List ℕ × List ℕ)
  pub left : List (List ℕ)
  pub asked : List (List ℕ)
  pub reads : ℕ
  pub calls : CallCount

-- a sink in memory: the bytes held, how many writes and how many flushes answered Ok, and the calls
pub record SinkState : Type 0 where
  pub bytes : List ℕ
  pub writes : ℕ
  pub flushes : ℕ
  pub calls : CallCount

-- the files of a system: how many were begun, the names asked for, the number of reads, and how often the system failed
pub record RealState : Type 0 where
  pub opened : ℕ
  pub asked : List (List ℕ)
  pub reads : ℕ
  pub count : ℕ

-- an adapter over a writer: the bytes that the writer holds, where it tells them, how many writes and how many flushes answered Ok, and how often it failed
pub record StdState : Type 0 where
  pub bytes : Option (List ℕ)
  pub writes : ℕ
  pub flushes : ℕ
  pub count : ℕ

-- a sink that never fails: the bytes held, and how many writes and how many flushes answered Ok
pub record NeverState : Type 0 where
  pub bytes : List ℕ
  pub writes : ℕ
  pub flushes : ℕ
