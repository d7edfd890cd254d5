-- What a scanner answers, beside what the definition gives. Want of memory is free, and every other answer is the definition's.
use Rattle.std.specs.Prelude.{◌≡◌, ◌++◌, ℕ, List, false, Option, Some, None, Result, Ok, Err}
use Rattle.es_source.specs.Forms.{is_short}
use Rattle.es_source.specs.declared.token.TokenKind.{TokenKind}
use Rattle.script_syntax.specs.declared.stop.TokenStop.{TokenStop}
use Rattle.script_syntax.specs.declared.stop.TokenStop.TheVariants.{Bad, NoMemory}

-- the token of a form, and Bad exactly where the form has none
abbrev pub Scans : Option (TokenKind × ℕ) → Result (TokenKind × ℕ) TokenStop → Type 0
Scans wanted (Ok form) = wanted ≡ Some form
Scans wanted (Err Bad) = wanted ≡ None
Scans wanted (Err NoMemory) = Unit {0}

-- these code units, and Bad exactly where they are more than 2^20
abbrev pub Makes : List ℕ → Result (List ℕ) TokenStop → Type 0
Makes wanted (Ok units) = units ≡ wanted
Makes wanted (Err Bad) = is_short wanted ≡ false
Makes wanted (Err NoMemory) = Unit {0}

-- these code units after others, and Bad exactly where they would be more than 2^20 in all
abbrev pub Adds : {T : Type 0} → List ℕ → List ℕ → List ℕ → Result T TokenStop → Type 0
Adds old wanted new (Ok done) = new ≡ old ++ wanted
Adds old wanted new (Err Bad) = is_short (old ++ wanted) ≡ false
Adds old wanted new (Err NoMemory) = Unit {0}

-- the rest of a text, and Bad exactly where it is none or has more than 2^20 code units
abbrev pub IsBadText : Option (ℕ × List ℕ) → Type 0
IsBadText None = Unit {0}
IsBadText (Some text) = is_short text.1 ≡ false

abbrev pub ScansText : Option (ℕ × List ℕ) → Result (List ℕ × ℕ) TokenStop → Type 0
ScansText wanted (Ok text) = wanted ≡ Some (text.1, text.0)
ScansText wanted (Err Bad) = IsBadText wanted
ScansText wanted (Err NoMemory) = Unit {0}
