-- The first fault of a file. Each phase goes over the whole file: length, decoding and tokens, grammar, static rules.
use Rattle.std.specs.Prelude.{◌≡◌, ℕ, List, map, Option, Some, None, Ok, Err}
use Rattle.es_source.specs.declared.faults.SourceFault.{SourceFault}
use Rattle.es_source.specs.declared.token.Token.{Token}
use Rattle.es_source.specs.Reading.{Reading, reading_of}
use Rattle.script_grammar.specs.declared.leaf.Leaf.{Leaf}
use Rattle.script_grammar.specs.Completed.{Derives, HasGrammarFault}
use Rattle.script_grammar.specs.Scripts.{leaf_of}
use Rattle.script_grammar.specs.Tree.{ParseTree}
use Rattle.script_rules.specs.Faults.{static_fault}

abbrev pub leaves_of : List Token → List Leaf
leaves_of tokens = map leaf_of tokens

-- the first fault of these bytes is that, or they have none
pub data HasFirstFault : List ℕ → Option SourceFault → Type 0 where
  -- of length, of decoding or of tokens
  at_tokens : {bytes : List ℕ} {f : SourceFault} → reading_of bytes ≡ Err f → HasFirstFault bytes (Some f)
  -- of the grammar
  at_grammar : {bytes : List ℕ} {f : SourceFault} (r : Reading) → reading_of bytes ≡ Ok r → HasGrammarFault r (Some f) → HasFirstFault bytes (Some f)
  -- of the static rules, or none
  at_rules : {bytes : List ℕ} {f : Option SourceFault} (r : Reading) (x : ParseTree)
      → reading_of bytes ≡ Ok r
      → Derives r.tokens x
      → static_fault (leaves_of r.tokens) x ≡ f
      → HasFirstFault bytes f
