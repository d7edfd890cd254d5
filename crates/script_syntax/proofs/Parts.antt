-- A scanner that has passed some parts of a text goes on as the text does.
use Rattle.std.proofs.Common.{◌≡◌, ◌==◌, ◌∙◌, ◌++◌, ◌∷◌, ◌+◌, ◌≤◌, ◌<◌, [], ℕ, zero, suc, false, List, length, drop, get_or, Option, Some, None, option_map, Err, refl, sym, ap, arith, append_assoc, length-drop, subst}
use Rattle.script_syntax.proofs.Units.{too_many}
use Rattle.std.proofs.lemmas.List.{drop-drop, drop_more}
use Rattle.es_source.specs.Forms.{is_short}
use Rattle.es_source.specs.Texts.{part_at, units_for, with_part, after_part, text_from}
use Rattle.script_syntax.specs.Stops.{IsBadText, ScansText, Adds}
use Rattle.script_syntax.specs.declared.stop.TokenStop.{TokenStop}
use Rattle.script_syntax.specs.declared.stop.TokenStop.TheVariants.{Bad, NoMemory}

-- so many characters more, and these code units before the others
abbrev pub after_front : ℕ → List ℕ → Option (ℕ × List ℕ) → Option (ℕ × List ℕ)
after_front n units text = option_map (λ t. (n + t.0, units ++ t.1)) text

same_text : (m n : ℕ) (us vs : List ℕ) → m ≡ n → us ≡ vs → ◌≡◌ {A = Option (ℕ × List ℕ)} (Some (m, us)) (Some (n, vs))
same_text m n us vs p q = λ i. Some (p i, q i)

front_none : (text : Option (ℕ × List ℕ)) → text ≡ after_front 0 [] text
front_none None = refl
front_none (Some t) = same_text _ _ _ _ (omega arith) refl

one_longer : (n : ℕ) (units : List ℕ) (text : Option (ℕ × List ℕ)) → with_part units (after_front n [] text) ≡ after_front (suc n) units text
one_longer n units None = refl
one_longer n units (Some t) = same_text _ _ _ _ (omega arith) refl

front_twice : (m n : ℕ) (us vs : List ℕ) (text : Option (ℕ × List ℕ)) → after_front m us (after_front n vs text) ≡ after_front (m + n) (us ++ vs) text
front_twice m n us vs None = refl
front_twice m n us vs (Some t) = same_text _ _ _ _ (omega arith) (sym (append_assoc us vs t.1))

text_pass : (quote n : ℕ) (cs : List ℕ) → n ≤ length cs → text_from quote n cs ≡ after_front n [] (text_from quote 0 (drop n cs))
text_pass quote zero cs le = front_none (text_from quote 0 cs)
text_pass quote (suc n) [] le = absurd (omega arith)
text_pass quote (suc n) (c ∷ cs) le = ap (with_part []) (text_pass quote n cs (omega arith)) ∙ one_longer n [] (text_from quote 0 (drop n cs))

-- one part of the text
part_one : (quote k c : ℕ) (point : Option ℕ) (cs : List ℕ) → (c == quote) ≡ false → part_at (c ∷ cs) ≡ Some (suc k, point) → k ≤ length cs
    → text_from quote 0 (c ∷ cs) ≡ after_front (suc k) (units_for point) (text_from quote 0 (drop k cs))
part_one quote k c point cs other part le =
    rw other (ap (after_part (λ passing. text_from quote passing cs)) part ∙ ap (with_part (units_for point)) (text_pass quote k cs le))
    ∙ one_longer k (units_for point) (text_from quote 0 (drop k cs))

-- a part stands where a scanner has come, with all before it passed
pub record PartHere (quote p k : ℕ) (point : Option ℕ) (cs units : List ℕ) : Type 0 where
  pub found : after_front p units (text_from quote 0 (drop p cs)) ≡ text_from quote 0 cs
  pub below : p < length cs
  pub other : (get_or cs p 0 == quote) ≡ false
  pub part : part_at (drop p cs) ≡ Some (k, point)
  pub positive : 0 < k
  pub within : k ≤ length (drop p cs)

here : (quote p k : ℕ) (point : Option ℕ) (cs units : List ℕ) → PartHere quote p k point cs units
    → text_from quote 0 (drop p cs) ≡ after_front k (units_for point) (text_from quote 0 (drop (p + k) cs))
here quote p zero point cs units at = absurd (omega (arith, at.positive))
here quote p (suc k) point cs units at =
    let cut : drop p cs ≡ get_or cs p 0 ∷ drop (p + 1) cs = drop_more cs p 0 at.below in
    let part : part_at (get_or cs p 0 ∷ drop (p + 1) cs) ≡ Some (suc k, point) = sym (ap part_at cut) ∙ at.part in
    let within : k ≤ length (drop (p + 1) cs) = omega (arith, at.within, length-drop p cs, length-drop (p + 1) cs) in
    let rest : drop k (drop (p + 1) cs) ≡ drop (p + suc k) cs = drop-drop k (p + 1) cs ∙ ap (λ n. drop n cs) (omega arith) in
    ap (text_from quote 0) cut
    ∙ part_one quote k (get_or cs p 0) point (drop (p + 1) cs) at.other part within
    ∙ ap (λ ds. after_front (suc k) (units_for point) (text_from quote 0 ds)) rest

pub text_goes : (quote p k : ℕ) (point : Option ℕ) (cs units : List ℕ) → PartHere quote p k point cs units → (new : List ℕ) → new ≡ units ++ units_for point
    → after_front (p + k) new (text_from quote 0 (drop (p + k) cs)) ≡ text_from quote 0 cs
text_goes quote p k point cs units at new e =
    ap (λ us. after_front (p + k) us (text_from quote 0 (drop (p + k) cs))) e
    ∙ sym (front_twice p k units (units_for point) (text_from quote 0 (drop (p + k) cs)))
    ∙ sym (ap (after_front p units) (here quote p k point cs units at)) ∙ at.found

past_limit : (n : ℕ) (units : List ℕ) (text : Option (ℕ × List ℕ)) → is_short units ≡ false → IsBadText (after_front n units text)
past_limit n units None over = tt
past_limit n units (Some t) over = too_many units t.1 over

pub text_stops : (quote p k : ℕ) (point : Option ℕ) (cs units : List ℕ) → PartHere quote p k point cs units → (T : Type 0) (stop : TokenStop) (new : List ℕ)
    → Adds {T = T} units (units_for point) new (Err stop) → ScansText (text_from quote 0 cs) (Err stop)
text_stops quote p k point cs units at T Bad new over =
    subst IsBadText (text_goes quote p k point cs units at (units ++ units_for point) refl)
    (past_limit (p + k) (units ++ units_for point) (text_from quote 0 (drop (p + k) cs)) over)
text_stops quote p k point cs units at T NoMemory new over = tt
