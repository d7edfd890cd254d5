-- Words that are holes, and blocks that are filled with them.
use Rattle.std.proofs.Common.{◌≡◌, ◌<◌, ◌≤◌, ◌+◌, ◌-◌, ◌++◌, ◌∷◌, [], ℕ, suc, zero, List, None, length, length-append, get_or, set, take, drop, map, replicate, refl, sym, ap, ◌∙◌, arith, append_assoc}
use Rattle.std.proofs.lemmas.List.{drop_more, set_at, replicate_more, length-replicate, length-take-le}
use Rattle.elements_kinds.specs.declared.kinds.Class.{Class}
use Rattle.elements_kinds.specs.declared.kinds.Class.TheVariants as class
use Rattle.elements_kinds.specs.Words.{decoded, hole_of}

pub decoded-hole : (c : Class) → decoded c (hole_of c) ≡ None
decoded-hole class.Smi = refl
decoded-hole class.Whole = refl
decoded-hole class.Tagged = refl

pub map-holes : (c : Class) (n : ℕ) → map (decoded c) (replicate n (hole_of c)) ≡ replicate n None
map-holes c zero = refl
map-holes c (suc n) = λ t. decoded-hole c t ∷ map-holes c n t

-- one more word is filled
pub filled : (block : List ℕ) (from i word : ℕ) → from ≤ i → i < length block
    → set (take from block ++ replicate (i - from) word ++ drop i block) i word ≡ take from block ++ replicate ((i + 1) - from) word ++ drop (i + 1) block
filled block from i word le lt =
    let front : List ℕ = take from block ++ replicate (i - from) word in
    let n : length front ≡ i = omega (arith, length-append (take from block) (replicate (i - from) word), length-replicate (i - from) word, length-take-le from block (omega arith)) in
    let more : (i - from) + 1 ≡ (i + 1) - from = omega arith in
    ap (λ rest. set (front ++ rest) i word) (drop_more block i 0 lt)
    ∙ set_at front (get_or block i 0) (drop (i + 1) block) word i n
    ∙ sym (append_assoc front (word ∷ []) (drop (i + 1) block))
    ∙ ap (λ xs. xs ++ drop (i + 1) block)
    (append_assoc (take from block) (replicate (i - from) word) (word ∷ []) ∙ ap (λ xs. take from block ++ xs) (replicate_more (i - from) word ∙ ap (λ k. replicate k word) more))
