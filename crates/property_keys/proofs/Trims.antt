-- What `trimmed` gives, by the parts of a text.
use Rattle.std.proofs.Common.{◌≡◌, ◌∙◌, ◌<◌, ◌≤◌, ◌-◌, ◌++◌, ◌∷◌, [], ℕ, true, false, List, length, length-append, suc, zero, get_or, refl, sym, ap, arith}
use Rattle.std.proofs.Math.Seq.{drop-append_seam, take-append_seam}
use Rattle.std.proofs.lemmas.Bool.{and_parts}
use Rattle.std.proofs.lemmas.List.{append-nil, get_or-append_right, get_or_append_left}
use Rattle.std.proofs.lemmas.List.Sums.{prefix_len_is, suffix_len_is}
use Rattle.std.specs.List.{list_all, prefix_len, suffix_len}
use Rattle.property_keys.specs.Blanks.{is_blank, trimmed, without_leading_blanks, without_trailing_blanks}

-- only blanks
abbrev pub AllBlank : List ℕ → Type 0
AllBlank units = list_all is_blank units ≡ true

blank_at : (units : List ℕ) (k : ℕ) → AllBlank units → k < length units → is_blank (get_or units k 0) ≡ true
blank_at [] k a lt = absurd (omega arith)
blank_at (x ∷ xs) zero a lt = (and_parts (is_blank x) (list_all is_blank xs) a).0
blank_at (x ∷ xs) (suc k) a lt = blank_at xs k (and_parts (is_blank x) (list_all is_blank xs) a).1 (omega arith)

in_front : (xs ys : List ℕ) (k : ℕ) → k < length xs → get_or (xs ++ ys) k 0 ≡ get_or xs k 0
in_front xs ys k lt = get_or_append_left xs ys 0 k lt

behind : (xs ys : List ℕ) (k : ℕ) → length xs ≤ k → get_or (xs ++ ys) k 0 ≡ get_or ys (k - length xs) 0
behind xs ys k le = get_or-append_right xs ys (length xs) k 0 refl le

leading : (blanks rest : List ℕ) → AllBlank blanks → (0 < length rest → is_blank (get_or rest 0 0) ≡ false)
    → without_leading_blanks (blanks ++ rest) ≡ rest
leading blanks rest a first =
    let n : prefix_len is_blank (blanks ++ rest) ≡ length blanks = prefix_len_is is_blank (blanks ++ rest) (length blanks) 0
    (omega (arith, length-append blanks rest))
    (λ k lt. ap is_blank (in_front blanks rest k lt) ∙ blank_at blanks k a lt)
    (λ lt. ap is_blank (behind blanks rest (length blanks) (omega arith) ∙ ap (λ i. get_or rest i 0) (omega arith)) ∙ first (omega (arith, length-append blanks rest))) in
    rw n (drop-append_seam blanks rest)

trailing : (body blanks : List ℕ) → AllBlank blanks → (0 < length body → is_blank (get_or body (length body - 1) 0) ≡ false)
    → without_trailing_blanks (body ++ blanks) ≡ body
trailing body blanks a last =
    let n : suffix_len is_blank (body ++ blanks) ≡ length (body ++ blanks) - length body = suffix_len_is is_blank (body ++ blanks) (length body) 0
    (omega (arith, length-append body blanks))
    (λ k le lt. ap is_blank (behind body blanks k le) ∙ blank_at blanks (k - length body) a (omega (arith, length-append body blanks)))
    (λ some. ap is_blank (in_front body blanks (length body - 1) (omega arith)) ∙ last some) in
    let m : length (body ++ blanks) - suffix_len is_blank (body ++ blanks) ≡ length body = omega (arith, n, length-append body blanks) in
    rw m (take-append_seam body blanks)

-- blanks on both sides of a body that neither begins nor ends with one
pub trimmed-between : (before body after : List ℕ) → AllBlank before → AllBlank after
    → 0 < length body → is_blank (get_or body 0 0) ≡ false → is_blank (get_or body (length body - 1) 0) ≡ false → trimmed (before ++ (body ++ after)) ≡ body
trimmed-between before body after a b some first last =
    ap without_trailing_blanks (leading before (body ++ after) a (λ _. ap is_blank (in_front body after 0 some) ∙ first))
    ∙ trailing body after b (λ _. last)

pub trimmed-blank : (blanks : List ℕ) → AllBlank blanks → trimmed blanks ≡ []
trimmed-blank blanks a =
    ap trimmed (sym (append-nil blanks)) ∙ ap without_trailing_blanks (leading blanks [] a (λ some. absurd (omega arith)))
