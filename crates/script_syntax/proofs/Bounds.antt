-- Lines and columns fit a machine word.
use Rattle.std.proofs.Common.{◌≡◌, ◌==◌, ◌∷◌, ◌+◌, ◌*◌, ◌≤◌, ◌<◌, ◌^◌, [], ℕ, suc, Bool, true, false, List, length, take, drop, sum_by, if◌then◌else◌, ap, arith, length-take-le, length-drop, lit≤, IsUtf8, chars}
use Rattle.std.specs.List.{fold}
use Rattle.std.specs.Char.{len_utf8}
use Rattle.std.proofs.lemmas.Str.{len_utf8_bounds, length-le-encodes, encodes-chars}
use Rattle.es_source.specs.Places.{ends_line, ended_lines, last_line}
use Rattle.script_syntax.specs.Positions.{position_after}
use Rattle.script_syntax.specs.declared.positions.Position.{Position}

chosen_ended : (ends : Bool) (m n : ℕ) → m ≤ n → (if ends then suc m else m) ≤ suc n
chosen_ended true m n le = omega arith
chosen_ended false m n le = omega arith

ended_few : (cs : List ℕ) → ended_lines cs ≤ length cs
ended_few [] = lit≤ tt
ended_few (c ∷ cs) = chosen_ended (ends_line c cs) (ended_lines cs) (length cs) (ended_few cs)

bytes_from : (start : ℕ) (cs : List ℕ) → fold (λ a x. a + len_utf8 x) start cs ≤ start + 4 * length cs
bytes_from start [] = omega arith
bytes_from start (c ∷ cs) = omega (arith, bytes_from (start + len_utf8 c) cs, (len_utf8_bounds c).1)

bytes_few : (cs : List ℕ) → sum_by len_utf8 cs ≤ 4 * length cs
bytes_few cs = omega (arith, bytes_from 0 cs)

chosen_bytes : (whole : Bool) (xs ys : List ℕ) (n : ℕ) → sum_by len_utf8 xs ≤ 4 * suc n → sum_by len_utf8 ys ≤ 4 * n → sum_by len_utf8 (if whole then xs else ys) ≤ 4 * suc n
chosen_bytes true xs ys n a b = a
chosen_bytes false xs ys n a b = omega (arith, b)

last_few : (cs : List ℕ) → sum_by len_utf8 (last_line cs) ≤ 4 * length cs
last_few [] = lit≤ tt
last_few (c ∷ cs) = chosen_bytes (ended_lines (c ∷ cs) == 0) (c ∷ cs) (last_line cs) (length cs) (bytes_few (c ∷ cs)) (last_few cs)

-- what a place and the rest after it come to
pub record Fitting (p : Position) (rest : List ℕ) : Type 0 where
  pub line : p.place.line + length rest < 2 ^ 32
  pub column : p.place.column + 4 * length rest < 2 ^ 32

pub fitting : (p : Position) (cs : List ℕ) (at : ℕ) → p ≡ position_after (take at cs) → length cs ≤ 2 ^ 22 → at ≤ length cs → Fitting p (drop at cs)
fitting p cs at e few within =
    let lines : p.place.line ≡ 1 + ended_lines (take at cs) = ap (λ (q : Position). q.place.line) e in
    let columns : p.place.column ≡ 1 + sum_by len_utf8 (last_line (take at cs)) = ap (λ (q : Position). q.place.column) e in
    record {
      line = omega (arith, ended_few (take at cs), length-take-le at cs within, length-drop at cs);
      column = omega (arith, last_few (take at cs), length-take-le at cs within, length-drop at cs);
    }

-- a text has no more characters than bytes
pub chars_few : (bytes : List ℕ) → IsUtf8 bytes → length (chars bytes) ≤ length bytes
chars_few bytes utf8 = omega (arith, length-le-encodes (chars bytes), ap length (encodes-chars bytes utf8))
