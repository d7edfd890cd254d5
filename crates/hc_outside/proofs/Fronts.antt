-- What is appended in parts.
use Rattle.std.proofs.Common.{◌≡◌, ◌<◌, ◌++◌, ◌∷◌, ◌∙◌, [], ℕ, List, Option, Some, None, length, take, drop, get_or, zero, suc, refl, sym, ap, arith, append_assoc, flat_map, take-append-drop, append-nil}
use Rattle.std.specs.Io.KnownBytes.{Appends, Keeps}
use Rattle.hc_outside.specs.Sinks.{AppendsFront}

-- a whole part, and then a front of the next one
pub front_after : (a b c : Option (List ℕ)) (pre part post all : List ℕ) → all ≡ pre ++ part ++ post
    → Appends a b pre → AppendsFront b c part → AppendsFront a c all
front_after None b c pre part post all e whole front = tt
front_after (Some xs) None c pre part post all e whole front = absurd whole
front_after (Some xs) (Some ys) None pre part post all e whole front = front
front_after (Some xs) (Some ys) (Some zs) pre part post all e whole front =
    (pre ++ front.0, front.1 ++ post, e ∙ ap (λ p. pre ++ p ++ post) front.2 ∙ simp append_assoc, front.3 ∙ ap (λ p. p ++ front.0) whole ∙ append_assoc xs pre front.0)

-- all of it, and then a call that keeps what is held
pub front_kept : (a b c : Option (List ℕ)) (all : List ℕ) → Appends a b all → Keeps b c → AppendsFront a c all
front_kept None b c all whole kept = tt
front_kept (Some xs) None c all whole kept = absurd whole
front_kept (Some xs) (Some ys) None all whole kept = kept
front_kept (Some xs) (Some ys) (Some zs) all whole kept = (all, [], simp append-nil, kept ∙ whole)

-- a whole part after a whole part
pub whole_after : (a b c : Option (List ℕ)) (pre part : List ℕ) → Appends a b pre → Appends b c part → Appends a c (pre ++ part)
whole_after None b c pre part first next = tt
whole_after (Some xs) None c pre part first next = absurd first
whole_after (Some xs) (Some ys) None pre part first next = next
whole_after (Some xs) (Some ys) (Some zs) pre part first next = next ∙ ap (λ p. p ++ part) first ∙ append_assoc xs pre part

-- the parts before one, that one, and those after it
pub flat_map_at : {X : Type 0} (f : X → List ℕ) (xs : List X) (i : ℕ) (x : X) → i < length xs → x ≡ get_or xs i x
    → flat_map f xs ≡ flat_map f (take i xs) ++ f x ++ flat_map f (drop (suc i) xs)
flat_map_at f [] i x h e = absurd (omega arith)
flat_map_at f (y ∷ ys) zero x h e = rw e refl
flat_map_at f (y ∷ ys) (suc i) x h e =
    let rest : flat_map f ys ≡ flat_map f (take i ys) ++ f x ++ flat_map f (drop (suc i) ys) = flat_map_at f ys i x (omega arith) e in
    ap (λ r. f y ++ r) rest ∙ simp append_assoc

-- the next n bytes of the rest
pub cut_rest : (bytes part rest : List ℕ) (n : ℕ) → bytes ≡ part ++ rest → bytes ≡ (part ++ take n rest) ++ drop n rest
cut_rest bytes part rest n e = e ∙ ap (λ r. part ++ r) (sym (take-append-drop n rest)) ∙ sym (append_assoc part (take n rest) (drop n rest))
