-- The lines of one number more.
use Rattle.std.proofs.Common.{◌≡◌, ◌∙◌, ◌+◌, ◌++◌, [], ℕ, List, zero, suc, refl, sym, ap, append_assoc, append-nil, arith}
use Rattle.script_generator.specs.Generated.{addition, declaration, lines_from, lines_of}

lines_more : (k n : ℕ) → lines_from k (suc n) ≡ lines_from k n ++ lines_of (k + n)
lines_more k zero =
    let same : k ≡ k + 0 = omega arith in
    append-nil (lines_of k) ∙ ap lines_of same
lines_more k (suc n) =
    let same : suc k + n ≡ k + suc n = omega arith in
    ap (λ x. lines_of k ++ x) (lines_more (suc k) n) ∙ sym (append_assoc (lines_of k) (lines_from (suc k) n) (lines_of (suc k + n)))
    ∙ ap (λ m. (lines_of k ++ lines_from (suc k) n) ++ lines_of m) same

pub lines_pushed : (head old middle new : List ℕ) (before k : ℕ) → k ≡ before + 1 → old ≡ head ++ lines_from 1 before → middle ≡ old ++ declaration k
    → new ≡ middle ++ addition k → new ≡ head ++ lines_from 1 (before + 1)
lines_pushed head old middle new before k next so_far first second =
    let number : k ≡ 1 + before = omega (arith, next) in
    let longer : suc before ≡ before + 1 = omega arith in
    let step : lines_from 1 before ++ lines_of (1 + before) ≡ lines_from 1 (before + 1) = sym (lines_more 1 before) ∙ ap (lines_from 1) longer in
    second ∙ ap (λ x. x ++ addition k) (first ∙ ap (λ x. x ++ declaration k) so_far)
    ∙ append_assoc (head ++ lines_from 1 before) (declaration k) (addition k)
    ∙ append_assoc head (lines_from 1 before) (lines_of k)
    ∙ ap (λ m. head ++ (lines_from 1 before ++ lines_of m)) number
    ∙ ap (λ x. head ++ x) step
