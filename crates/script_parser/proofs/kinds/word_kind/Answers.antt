use Rattle.std.proofs.Common.{◌∙◌, List, ℕ, Bor, ap, map}
use Rattle.script_grammar.specs.declared.kinds.Kind.{Kind}
use Rattle.script_grammar.specs.Kinds.{kind_in, kinds_of_words}
use Rattle.script_parser.proofs.kinds.word_kind.Goals as goal

pub returns : goal.returns
unfolding kinds_of_words
returns c =
    c.kind_in.ensures ∙ ap (λ (table : List (Bor (List ℕ) × Kind)). kind_in (map (λ row. (row.0.now, row.1)) table) c.args.units.now) c.as_slice.ensures
