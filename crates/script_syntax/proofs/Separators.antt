-- A scanner that has passed some characters of a gap goes on as the gap does.
use Rattle.std.proofs.Common.{◌≡◌, ◌∙◌, ◌∷◌, ◌+◌, ◌≤◌, ◌<◌, [], ℕ, zero, suc, true, false, List, length, drop, codes, nat_eq, Option, Some, None, option_map, Result, Ok, Err, refl, sym, ap, arith, length-drop}
use Rattle.std.proofs.lemmas.Bool.{false≢true}
use Rattle.std.proofs.lemmas.List.{drop-drop, drop_all, drop_more}
use Rattle.std.specs.List.{starts_with}
use Rattle.es_source.specs.Gaps.{to_comment_end, separator_length, one_more, after_separator, gap_from, gap_of}

-- so many characters more
abbrev pub later_by : ℕ → Option ℕ → Option ℕ
later_by n found = option_map (λ m. n + m) found

later_one : (n : ℕ) (found : Option ℕ) → later_by n (option_map suc found) ≡ later_by (n + 1) found
later_one n None = refl
later_one n (Some m) = ap (λ k. Some k) (omega arith)

comment_here : (cs : List ℕ) → starts_with nat_eq cs (codes "*/") ≡ true → to_comment_end cs ≡ Some 2
comment_here [] e = absurd (false≢true e)
comment_here (c ∷ cs) e = rw e refl

comment_skip : (ds : List ℕ) (c : ℕ) (rest : List ℕ) → ds ≡ c ∷ rest → starts_with nat_eq ds (codes "*/") ≡ false → to_comment_end ds ≡ option_map suc (to_comment_end rest)
comment_skip ds c rest e other =
    let here : starts_with nat_eq (c ∷ rest) (codes "*/") ≡ false = sym (ap (λ cs. starts_with nat_eq cs (codes "*/")) e) ∙ other in
    ap to_comment_end e ∙ rw here refl

pub comment_found : (cs : List ℕ) (i : ℕ) → later_by i (to_comment_end (drop i cs)) ≡ to_comment_end cs → starts_with nat_eq (drop i cs) (codes "*/") ≡ true
    → Some (i + 2) ≡ to_comment_end cs
comment_found cs i at here = sym (ap (λ found. later_by i found) (comment_here (drop i cs) here)) ∙ at

pub comment_later : (cs : List ℕ) (i : ℕ) → i < length cs → later_by i (to_comment_end (drop i cs)) ≡ to_comment_end cs → starts_with nat_eq (drop i cs) (codes "*/") ≡ false
    → later_by (i + 1) (to_comment_end (drop (i + 1) cs)) ≡ to_comment_end cs
comment_later cs i lt at other =
    sym (later_one i (to_comment_end (drop (i + 1) cs))) ∙ sym (ap (λ found. later_by i found) (comment_skip _ _ _ (drop_more cs i 0 lt) other)) ∙ at

-- so many characters more, whatever is found
abbrev pub shifted : ℕ → Result ℕ ℕ → Result ℕ ℕ
shifted n (Ok m) = Ok (n + m)
shifted n (Err m) = Err (n + m)

shifted_zero : (found : Result ℕ ℕ) → shifted 0 found ≡ found
shifted_zero (Ok m) = ap (λ k. Ok k) (omega arith)
shifted_zero (Err m) = ap (λ k. Err k) (omega arith)

shifted_one : (n : ℕ) (found : Result ℕ ℕ) → one_more (shifted n found) ≡ shifted (suc n) found
shifted_one n (Ok m) = ap (λ k. Ok k) (omega arith)
shifted_one n (Err m) = ap (λ k. Err k) (omega arith)

shifted_twice : (m n : ℕ) (found : Result ℕ ℕ) → shifted m (shifted n found) ≡ shifted (m + n) found
shifted_twice m n (Ok k) = ap (λ k. Ok k) (omega arith)
shifted_twice m n (Err k) = ap (λ k. Err k) (omega arith)

gap_pass : (n : ℕ) (cs : List ℕ) → n ≤ length cs → gap_from n cs ≡ shifted n (gap_from 0 (drop n cs))
gap_pass zero [] le = refl
gap_pass zero (c ∷ cs) le = sym (shifted_zero (gap_from 0 (c ∷ cs)))
gap_pass (suc n) [] le = absurd (omega arith)
gap_pass (suc n) (c ∷ cs) le = ap one_more (gap_pass n cs (omega arith)) ∙ shifted_one n (gap_from 0 (drop n cs))

-- one separator of the gap
gap_one : (cs : List ℕ) (k : ℕ) → separator_length cs ≡ Some (suc k) → suc k ≤ length cs → gap_from 0 cs ≡ shifted (suc k) (gap_from 0 (drop (suc k) cs))
gap_one [] k e le = absurd (omega arith)
gap_one (c ∷ cs) k e le =
    ap (after_separator (λ passing. gap_from passing cs)) e ∙ ap one_more (gap_pass k cs (omega arith)) ∙ shifted_one k (gap_from 0 (drop k cs))

gap_none : (cs : List ℕ) → 0 < length cs → separator_length cs ≡ Some 0 → gap_from 0 cs ≡ Ok 0
gap_none [] lt e = refl
gap_none (c ∷ cs) lt e = ap (after_separator (λ passing. gap_from passing cs)) e

gap_open : (cs : List ℕ) → 0 < length cs → separator_length cs ≡ None → gap_from 0 cs ≡ Err 0
gap_open [] lt e = absurd (omega arith)
gap_open (c ∷ cs) lt e = ap (after_separator (λ passing. gap_from passing cs)) e

pub gap_goes : (cs : List ℕ) (p k : ℕ) → shifted p (gap_from 0 (drop p cs)) ≡ gap_of cs → separator_length (drop p cs) ≡ Some k → 0 < k → k ≤ length (drop p cs)
    → shifted (p + k) (gap_from 0 (drop (p + k) cs)) ≡ gap_of cs
gap_goes cs p zero at e lt le = absurd (omega arith)
gap_goes cs p (suc k) at e lt le =
    sym (shifted_twice p (suc k) _ ∙ ap (λ ds. shifted (p + suc k) (gap_from 0 ds)) (drop-drop (suc k) p cs))
    ∙ sym (ap (shifted p) (gap_one (drop p cs) k e le)) ∙ at

pub gap_stops : (cs : List ℕ) (p : ℕ) → shifted p (gap_from 0 (drop p cs)) ≡ gap_of cs → p < length cs → separator_length (drop p cs) ≡ Some 0 → Ok p ≡ gap_of cs
gap_stops cs p at lt e = ap (λ k. Ok k) (omega arith) ∙ sym (ap (shifted p) (gap_none (drop p cs) (rw (length-drop p cs) (omega arith)) e)) ∙ at

pub gap_fails : (cs : List ℕ) (p : ℕ) → shifted p (gap_from 0 (drop p cs)) ≡ gap_of cs → p < length cs → separator_length (drop p cs) ≡ None → Err p ≡ gap_of cs
gap_fails cs p at lt e = ap (λ k. Err k) (omega arith) ∙ sym (ap (shifted p) (gap_open (drop p cs) (rw (length-drop p cs) (omega arith)) e)) ∙ at

pub gap_ends : (cs : List ℕ) (p : ℕ) → shifted p (gap_from 0 (drop p cs)) ≡ gap_of cs → length cs ≤ p → Ok p ≡ gap_of cs
gap_ends cs p at le = ap (λ k. Ok k) (omega arith) ∙ sym (ap (λ ds. shifted p (gap_from 0 ds)) (drop_all p cs le)) ∙ at
