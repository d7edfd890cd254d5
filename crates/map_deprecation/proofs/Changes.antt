-- The changes between two lists of entries, entry by entry.
use Rattle.std.proofs.Common.{◌≡◌, ◌<◌, ℕ, zero, suc, ◌+◌, List, [], ◌∷◌, ◌++◌, length, get_or, take, ap, sym, ◌∙◌, arith, append_assoc, add-one}
use Rattle.std.proofs.lemmas.List.{append-nil, length-map, take_all}
use Rattle.map_store.specs.declared.entries.Entry.{Entry}
use Rattle.map_store.specs.Views.{no_entry}
use Rattle.transition_tree.specs.Paths.{bare}
use Rattle.map_deprecation.specs.Moves.{AreOfOnePath, change_of, moves_of}

-- maps of one path have as many entries
pub same_count : (es fs : List Entry) → AreOfOnePath es fs → length es ≡ length fs
same_count es fs e = sym (length-map es bare) ∙ ap (λ (xs : List Entry). length xs) e ∙ length-map fs bare

moves-suc : (es fs : List Entry) (i : ℕ) → i < length es → i < length fs → moves_of (take (suc i) es) (take (suc i) fs) ≡ moves_of (take i es) (take i fs) ++ change_of (get_or es i no_entry) (get_or fs i no_entry)
moves-suc [] fs i b c = absurd (omega arith)
moves-suc (e ∷ es) [] i b c = absurd (omega arith)
moves-suc (e ∷ es) (f ∷ fs) zero b c = append-nil (change_of e f)
moves-suc (e ∷ es) (f ∷ fs) (suc i) b c =
    ap (λ ms. change_of e f ++ ms) (moves-suc es fs i (omega arith) (omega arith)) ∙ sym (append_assoc (change_of e f) (moves_of (take i es) (take i fs)) (change_of (get_or es i no_entry) (get_or fs i no_entry)))

pub moves_more : (es fs : List Entry) (i : ℕ) → i < length es → i < length fs → moves_of (take (i + 1) es) (take (i + 1) fs) ≡ moves_of (take i es) (take i fs) ++ change_of (get_or es i no_entry) (get_or fs i no_entry)
moves_more es fs i b c = rw add-one (moves-suc es fs i b c)

pub moves_all : (es fs : List Entry) (n : ℕ) → n ≡ length es → n ≡ length fs → moves_of (take n es) (take n fs) ≡ moves_of es fs
moves_all es fs n b c = λ i. moves_of (take_all n es (omega arith) i) (take_all n fs (omega arith) i)
