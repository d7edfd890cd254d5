-- A line of print. Its texts stand with one space between them, and a line feed behind.
use Rattle.std.specs.Prelude.{ℕ, List, [], ◌∷◌, ◌++◌, encode_utf8_all}
use Rattle.std.specs.Char.Utf16.{utf16_lossy_chars}
use Rattle.property_keys.specs.declared.values.Value.{Value}
use Rattle.property_keys.specs.declared.values.Value.TheVariants as value
use Rattle.es_model.specs.World.{Lists, units_of}
use Rattle.es_model.specs.Program.{Program, done, look, print}
use Rattle.es_model.specs.programs.Errors.{undefined}

-- a text in UTF-8, with U+FFFD for each surrogate that has no partner. A line has texts alone
abbrev pub text_bytes : Lists → Value → List ℕ
text_bytes l (value.Text t) = encode_utf8_all (utf16_lossy_chars (units_of l t))
text_bytes l other = []

abbrev pub texts_bytes : Lists → List Value → List ℕ
texts_bytes l [] = []
texts_bytes l (t ∷ []) = text_bytes l t
texts_bytes l (t ∷ u ∷ ts) = text_bytes l t ++ 32 ∷ texts_bytes l (u ∷ ts)

unfoldable pub line_bytes : Lists → List Value → List ℕ
line_bytes l line = texts_bytes l line ++ 10 ∷ []

-- the line is printed, and the answer is undefined
abbrev pub print_line : List Value → Program
print_line line = look (λ l. print (line_bytes l line) (done undefined))
