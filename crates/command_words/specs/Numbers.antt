-- The numbers of the command.
use Rattle.std.specs.Prelude.{◌+◌, ◌*◌, ◌-◌, ◌&&◌, ℕ, List, [], ◌∷◌, Option, Some, None, length, nat_le, if◌then◌else◌}

-- the number that these decimal digits spell behind n
abbrev pub number_from : ℕ → List ℕ → Option ℕ
number_from n [] = Some n
number_from n (digit ∷ digits) =
    if nat_le 48 digit && nat_le digit 57 then number_from (10 * n + (digit - 48)) digits else None

-- one to eight decimal digits, without a sign
abbrev pub number_of : List ℕ → Option ℕ
number_of text = if nat_le 1 (length text) && nat_le (length text) 8 then number_from 0 text else None

-- a number that is not below the least nor above the most
abbrev pub within : ℕ → ℕ → Option ℕ → Option ℕ
within least most None = None
within least most (Some n) = if nat_le least n && nat_le n most then Some n else None
