-- The table of punctuators.
use Rattle.std.proofs.Common.{◌≡◌, ◌∙◌, ◌∷◌, ◌+◌, ◌*◌, ◌≤◌, ◌<◌, ◌^◌, ◌&&◌, [], ℕ, zero, suc, get_or, drop, map, Bool, true, false, cond, List, length, nat_eq, nat_lt, nat_le, Err, refl, sym, ap, arith, length-append, true≢false, lit≤, add-one}
use Rattle.std.specs.Prelude.{fold}
use Rattle.std.specs.List.{list_all, starts_with}
use Rattle.std.specs.Char.Escape.{encode_utf16}
use Rattle.std.proofs.lemmas.Bool.{and_parts, leb-true, le-leb}
use Rattle.es_source.specs.Forms.{units_of, is_short, punctuators, longer_at, longest_punctuator, punctuator_at}
use Rattle.script_syntax.specs.Stops.{Scans, Makes}
use Rattle.script_syntax.specs.declared.stop.TokenStop.{TokenStop}
use Rattle.script_syntax.specs.declared.stop.TokenStop.TheVariants.{Bad, NoMemory}

chosen_short : (choice : Bool) (best next : List ℕ) → length best ≤ 3 → length next ≤ 3 → length (cond choice next best) ≤ 3
chosen_short true best next a b = b
chosen_short false best next a b = a

fold_short : (cs : List ℕ) (table : List (List ℕ)) (best : List ℕ) → list_all (λ p. nat_le (length p) 3) table ≡ true → length best ≤ 3
    → length (fold (longer_at cs) best table) ≤ 3
fold_short cs [] best all le = le
fold_short cs (p ∷ ps) best all le =
    let parts = and_parts (nat_le (length p) 3) (list_all (λ p. nat_le (length p) 3) ps) all in
    fold_short cs ps (longer_at cs best p) parts.1
    (chosen_short (starts_with nat_eq cs p && nat_lt (length best) (length p)) best p le (leb-true (length p) 3 parts.0))

units_double : (cs : List ℕ) → length (units_of cs) ≤ 2 * length cs
units_double [] = omega arith
units_double (c ∷ cs) = omega (arith, length-append (encode_utf16 c) (units_of cs), two c, units_double cs)
  where
    pair : (b : Bool) (u v w : ℕ) → length (cond b (u ∷ []) (v ∷ w ∷ [])) ≤ 2
    pair true u v w = lit≤ tt
    pair false u v w = lit≤ tt

    two : (c : ℕ) → length (encode_utf16 c) ≤ 2
    two c = pair (nat_lt c 0x1_0000) c _ _

-- a punctuator is never too long
pub punctuator_short : (cs : List ℕ) → is_short (units_of (longest_punctuator cs)) ≡ true
unfolding longest_punctuator
punctuator_short cs =
    let three : length (fold (longer_at cs) [] punctuators) ≤ 3 = fold_short cs punctuators [] refl (lit≤ tt) in
    le-leb _ (2 ^ 20) (omega (arith, units_double (fold (longer_at cs) [] punctuators)))

pub punctuator_stops : (stop : TokenStop) (cs longest : List ℕ) → longest ≡ longest_punctuator cs → Makes (units_of longest) (Err stop)
    → Scans (punctuator_at cs) (Err stop)
punctuator_stops Bad cs longest e over = absurd (true≢false (sym (punctuator_short cs) ∙ sym (ap (λ l. is_short (units_of l)) e) ∙ over))
punctuator_stops NoMemory cs longest e over = tt

entry_next : {X : Type 0} (f : List ℕ → List ℕ → List ℕ) (g : X → List ℕ) (table : List X) (best : List ℕ) (i : ℕ) (d : X) → i < length table
    → fold f (f best (g (get_or table i d))) (drop (suc i) (map g table)) ≡ fold f best (drop i (map g table))
entry_next f g [] best i d lt = absurd (omega arith)
entry_next f g (x ∷ xs) best zero d lt = refl
entry_next f g (x ∷ xs) best (suc i) d lt = entry_next f g xs best i d (omega arith)

-- one entry of a table more
pub fold_next : {X : Type 0} (f : List ℕ → List ℕ → List ℕ) (g : X → List ℕ) (table : List X) (best : List ℕ) (i : ℕ) (d : X) → i < length table
    → fold f (f best (g (get_or table i d))) (drop (i + 1) (map g table)) ≡ fold f best (drop i (map g table))
fold_next f g table best i d lt = rw add-one (entry_next f g table best i d lt)
