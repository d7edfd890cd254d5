-- One character more moves a place by that character alone, and by whether a CR stands before it.
use Rattle.std.proofs.Common.{◌≡◌, ◌==◌, ◌&&◌, ◌∙◌, ◌++◌, ◌∷◌, ◌+◌, ◌<◌, [], ℕ, suc, Bool, true, false, not, List, sum_by, if◌then◌else◌, refl, sym, ap, arith}
use Rattle.std.proofs.lemmas.List.Sums.{sum_by-append}
use Rattle.std.proofs.lemmas.Bool.{eqb-true, ne_eqb, false≢true}
use Rattle.std.specs.Char.{len_utf8}
use Rattle.property_keys.specs.Blanks.{is_line_terminator}
use Rattle.es_source.specs.Places.{ends_line, ended_lines, last_line, place_after}
use Rattle.script_syntax.specs.Positions.{ends_in_return, position_after}
use Rattle.script_syntax.specs.declared.positions.Position.{Position}

-- whether a character ends a line of its own, by what stands before it
abbrev pub ends_after : List ℕ → ℕ → Bool
ends_after cs c = is_line_terminator c && not (ends_in_return cs && (c == 0xA))

and_false : (e : Bool) → (e && false) ≡ false
and_false true = refl
and_false false = refl

-- one line more where the test holds
abbrev more : Bool → ℕ → ℕ
more ends n = if ends then suc n else n

-- two tests in either order
either_order : (x y : Bool) (n : ℕ) → more x (more y n) ≡ more y (more x n)
either_order true true n = refl
either_order true false n = refl
either_order false y n = refl

-- a CR and an LF after it end one line
as_one : (x y a b e : Bool) → (a ≡ true → x ≡ true) → (b ≡ true → y ≡ true)
    → more (x && not (a && b)) (more (y && not (e && false)) 0) ≡ more (y && not (a && b)) (more (x && not (a && false)) 0)
as_one x y true true e p q = rw (and_false e, p refl, q refl) refl
as_one x y true false e p q = rw (and_false e) (either_order (x && not false) (y && not false) 0)
as_one x y false b e p q = rw (and_false e) (either_order (x && not false) (y && not false) 0)

return_ends : (c : ℕ) → (c == 0xD) ≡ true → is_line_terminator c ≡ true
return_ends c e = rw (eqb-true c 0xD e) refl

feed_ends : (c : ℕ) → (c == 0xA) ≡ true → is_line_terminator c ≡ true
feed_ends c e = rw (eqb-true c 0xA e) refl

pub ended_push : (cs : List ℕ) (c : ℕ) → ended_lines (cs ++ c ∷ []) ≡ (if ends_after cs c then suc (ended_lines cs) else ended_lines cs)
ended_push [] c = rw (and_false (c == 0xD)) refl
ended_push (d ∷ []) c = as_one (is_line_terminator d) (is_line_terminator c) (d == 0xD) (c == 0xA) (c == 0xD) (return_ends d) (feed_ends c)
ended_push (d ∷ e ∷ es) c =
    ap (λ n. more (ends_line d (e ∷ es)) n) (ended_push (e ∷ es) c)
    ∙ either_order (ends_line d (e ∷ es)) (ends_after (e ∷ es) c) (ended_lines (e ∷ es))

pub return_push : (cs : List ℕ) (c : ℕ) → ends_in_return (cs ++ c ∷ []) ≡ (c == 0xD)
return_push [] c = refl
return_push (d ∷ []) c = refl
return_push (d ∷ e ∷ es) c = return_push (e ∷ es) c

more_positive : (ends : Bool) (n : ℕ) → 0 < n → 0 < more ends n
more_positive true n lt = omega arith
more_positive false n lt = lt

-- characters that end in a CR end a line
return_ended : (cs : List ℕ) → ends_in_return cs ≡ true → 0 < ended_lines cs
return_ended [] e = absurd (false≢true e)
return_ended (c ∷ []) e = rw (return_ends c e, and_false (c == 0xD)) (omega arith)
return_ended (c ∷ d ∷ ds) e = more_positive (ends_line c (d ∷ ds)) (ended_lines (d ∷ ds)) (return_ended (d ∷ ds) e)

positive_test : (n : ℕ) → 0 < n → (n == 0) ≡ false
positive_test n lt = ne_eqb n 0 (λ e. omega arith)

-- a line terminator ends a line, if not by itself then with the CR before it
terminator_ended : (cs : List ℕ) (c : ℕ) → is_line_terminator c ≡ true → 0 < ended_lines (cs ++ c ∷ [])
terminator_ended cs c lt = by (ends_in_return cs) refl
  where
    by : (b : Bool) → ends_in_return cs ≡ b → 0 < ended_lines (cs ++ c ∷ [])
    by true e =
        let before : 0 < ended_lines cs = return_ended cs e in
        rw (ended_push cs c) (more_positive (ends_after cs c) (ended_lines cs) before)
    by false e = rw (ended_push cs c, lt, e) (omega arith)

none_ended : (cs : List ℕ) (c : ℕ) → is_line_terminator c ≡ false → ended_lines (cs ++ c ∷ []) ≡ ended_lines cs
none_ended cs c other = rw (ended_push cs c, other) refl

last_ends : (cs : List ℕ) (c : ℕ) → is_line_terminator c ≡ true → last_line (cs ++ c ∷ []) ≡ []
last_ends [] c ends = rw (positive_test (ended_lines (c ∷ [])) (terminator_ended [] c ends)) refl
last_ends (d ∷ ds) c ends = rw (positive_test (ended_lines (d ∷ (ds ++ c ∷ []))) (terminator_ended (d ∷ ds) c ends)) (last_ends ds c ends)

one_longer : (ended : Bool) (c d : ℕ) (ds more less : List ℕ) → more ≡ less ++ c ∷ []
    → (if ended then d ∷ (ds ++ c ∷ []) else more) ≡ (if ended then d ∷ ds else less) ++ c ∷ []
one_longer true c d ds more less e = refl
one_longer false c d ds more less e = e

last_stays : (cs : List ℕ) (c : ℕ) → is_line_terminator c ≡ false → last_line (cs ++ c ∷ []) ≡ last_line cs ++ c ∷ []
last_stays [] c other = rw (none_ended [] c other) refl
last_stays (d ∷ ds) c other =
    rw (none_ended (d ∷ ds) c other)
    (one_longer (ended_lines (d ∷ ds) == 0) c d ds (last_line (ds ++ c ∷ [])) (last_line ds) (last_stays ds c other))

sum_push : (f : ℕ → ℕ) (xs : List ℕ) (x : ℕ) → sum_by f (xs ++ x ∷ []) ≡ sum_by f xs + f x
sum_push f xs x = sum_by-append f xs (x ∷ []) ∙ omega arith

same_position : (l m c d : ℕ) (r s : Bool) → l ≡ m → c ≡ d → r ≡ s
    → ◌≡◌ {A = Position} (record { place = record { line = l; column = c }; after_return = r }) (record { place = record { line = m; column = d }; after_return = s })
same_position l m c d r s p q e = λ i. record { place = record { line = p i; column = q i }; after_return = e i }

ended_count : (one : Bool) (n : ℕ) → 1 + (if not one then suc n else n) ≡ 1 + n + (if one then 0 else 1)
ended_count true n = omega arith
ended_count false n = omega arith

-- the place after one character more
pub past_terminator : (cs : List ℕ) (c : ℕ) → is_line_terminator c ≡ true
    → position_after (cs ++ c ∷ []) ≡ record { place = record { line = (place_after cs).line + (if ends_in_return cs && (c == 0xA) then 0 else 1); column = 1 }; after_return = c == 0xD }
past_terminator cs c ends =
    let lines : ended_lines (cs ++ c ∷ []) ≡ (if not (ends_in_return cs && (c == 0xA)) then suc (ended_lines cs) else ended_lines cs) = rw (ended_push cs c, ends) refl in
    same_position _ _ _ _ _ _
    (ap (λ n. 1 + n) lines ∙ ended_count (ends_in_return cs && (c == 0xA)) (ended_lines cs))
    (ap (λ l. 1 + sum_by len_utf8 l) (last_ends cs c ends))
    (return_push cs c)

pub past_other : (cs : List ℕ) (c : ℕ) → is_line_terminator c ≡ false
    → position_after (cs ++ c ∷ []) ≡ record { place = record { line = (place_after cs).line; column = (place_after cs).column + len_utf8 c }; after_return = false }
past_other cs c other =
    let bytes : sum_by len_utf8 (last_line (cs ++ c ∷ [])) ≡ sum_by len_utf8 (last_line cs) + len_utf8 c = rw (last_stays cs c other) (sum_push len_utf8 (last_line cs) c) in
    same_position _ _ _ _ _ _
    (ap (λ n. 1 + n) (none_ended cs c other))
    (ap (λ n. 1 + n) bytes ∙ omega arith)
    (return_push cs c ∙ no_return c other)
  where
    no_return : (c : ℕ) → is_line_terminator c ≡ false → (c == 0xD) ≡ false
    no_return c other = by (c == 0xD) refl
      where
        by : (b : Bool) → (c == 0xD) ≡ b → b ≡ false
        by true e = absurd (false≢true (sym other ∙ return_ends c e))
        by false e = refl

-- the same of a place that a scanner holds
pub held_other : (p : Position) (cs : List ℕ) (c k : ℕ) → p ≡ position_after cs → is_line_terminator c ≡ false → k ≡ len_utf8 c
    → ◌≡◌ {A = Position} (record { place = record { line = p.place.line; column = p.place.column + k }; after_return = false }) (position_after (cs ++ c ∷ []))
held_other p cs c k at other e =
    same_position _ _ _ _ _ _ (ap (λ (q : Position). q.place.line) at) (λ i. (at i).place.column + e i) refl ∙ sym (past_other cs c other)

pub held_feed : (p : Position) (cs : List ℕ) (c : ℕ) → p ≡ position_after cs → p.after_return ≡ true → c ≡ 0xA
    → ◌≡◌ {A = Position} (record { place = record { line = p.place.line; column = 1 }; after_return = false }) (position_after (cs ++ c ∷ []))
held_feed p cs c at follows feed =
    let follows_here : ends_in_return cs ≡ true = sym (ap (λ (q : Position). q.after_return) at) ∙ follows in
    same_position _ _ _ _ _ _ (ap (λ (q : Position). q.place.line) at ∙ rw (follows_here, feed) (omega arith)) refl (rw feed refl)
    ∙ sym (past_terminator cs c (rw feed refl))

pub held_line : (p : Position) (cs : List ℕ) (c : ℕ) → p ≡ position_after cs → is_line_terminator c ≡ true → (p.after_return && (c == 0xA)) ≡ false
    → ◌≡◌ {A = Position} (record { place = record { line = p.place.line + 1; column = 1 }; after_return = c == 0xD }) (position_after (cs ++ c ∷ []))
held_line p cs c at ends alone =
    let alone_here : (ends_in_return cs && (c == 0xA)) ≡ false = sym (ap (λ (q : Position). q.after_return && (c == 0xA)) at) ∙ alone in
    same_position _ _ _ _ _ _ (ap (λ (q : Position). q.place.line + 1) at ∙ rw alone_here refl) refl refl
    ∙ sym (past_terminator cs c ends)
