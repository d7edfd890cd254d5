-- Steps that are counted in turn.
use Rattle.std.proofs.Common.{◌≡◌, ◌+◌, ◌≤◌, ℕ, Result, Ok, Err, OnErr, arith}
use Rattle.property_keys.specs.Counts.{TakesAtMost, counted}
use Rattle.slot_storage.specs.Steps.{counted_times}

pub in_turn : (a b count : ℕ) → counted_times b (counted_times a count) ≡ counted_times (a + b) count
in_turn a b count = omega arith

pub one_more : (a count : ℕ) → counted (counted_times a count) ≡ counted_times (a + 1) count
one_more a count = omega arith

pub none_counted : (count : ℕ) → counted_times 0 count ≡ count
none_counted count = omega arith

pub at_most : (a most count : ℕ) → a ≤ most → TakesAtMost most count (counted_times a count)
at_most a most count le = record { later = omega arith; bound = omega arith }

pub twice_counted : (a count : ℕ) → counted_times a (counted (counted count)) ≡ counted_times (2 + a) count
twice_counted a count = omega arith

-- the steps of a front of the words
pub front_counted : (i most count now : ℕ) → now ≡ counted_times i count → i ≤ most → TakesAtMost most count now
front_counted i most count now e le = record { later = omega arith; bound = omega arith }

pub always : {T E P : Type 0} (r : Result T E) → P → OnErr r P
always (Ok x) p = tt
always (Err e) p = p
