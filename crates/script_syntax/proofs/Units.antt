-- Code units, and their limit.
use Rattle.std.proofs.Common.{◌≡◌, ◌∙◌, ◌++◌, ◌∷◌, ◌<◌, ◌^◌, [], ℕ, zero, suc, false, List, length, take, drop, get_or, Err, sym, ap, arith, append_assoc, length-append}
use Rattle.std.proofs.lemmas.Bool.{leb-false, lt-leb}
use Rattle.std.specs.Char.Escape.{encode_utf16}
use Rattle.es_source.specs.Forms.{units_of, is_short}
use Rattle.script_syntax.specs.Stops.{Makes, Adds}
use Rattle.script_syntax.specs.declared.stop.TokenStop.{TokenStop}
use Rattle.script_syntax.specs.declared.stop.TokenStop.TheVariants.{Bad, NoMemory}

-- more code units than too many are too many
pub too_many : (units more : List ℕ) → is_short units ≡ false → is_short (units ++ more) ≡ false
too_many units more e =
    let lt : 2 ^ 20 < length units = leb-false (length units) (2 ^ 20) e in
    lt-leb (length (units ++ more)) (2 ^ 20) (omega (arith, length-append units more))

-- the characters before one, that one, and those after it
pub units_at : (cs : List ℕ) (i c : ℕ) → i < length cs → c ≡ get_or cs i c → units_of cs ≡ (units_of (take i cs) ++ encode_utf16 c) ++ units_of (drop (suc i) cs)
units_at [] i c lt e = absurd (omega arith)
units_at (d ∷ ds) zero c lt e = ap (λ x. encode_utf16 x ++ units_of ds) (sym e)
units_at (d ∷ ds) (suc i) c lt e = ap (λ us. encode_utf16 d ++ us) (units_at ds i c (omega arith) e) ∙ simp append_assoc

pub stops_within : (T : Type 0) (stop : TokenStop) (cs : List ℕ) (i c p : ℕ) (units new : List ℕ) → i < length cs → c ≡ get_or cs i c → p ≡ c → units ≡ units_of (take i cs)
    → Adds {T = T} units (encode_utf16 p) new (Err stop) → Makes (units_of cs) (Err stop)
stops_within T Bad cs i c p units new lt e same held over =
    let past : is_short (units_of (take i cs) ++ encode_utf16 c) ≡ false = sym (λ j. is_short (held j ++ encode_utf16 (same j))) ∙ over in
    ap is_short (units_at cs i c lt e) ∙ too_many _ (units_of (drop (suc i) cs)) past
stops_within T NoMemory cs i c p units new lt e same held over = tt
