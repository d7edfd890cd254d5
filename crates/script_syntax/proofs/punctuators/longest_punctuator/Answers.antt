use Rattle.std.proofs.Common.{◌∙◌, [], List, ℕ, Bor, ap, map}
use Rattle.std.specs.Prelude.{fold}
use Rattle.es_source.specs.Forms.{longer_at, longest_punctuator}
use Rattle.script_syntax.proofs.punctuators.longest_punctuator.Goals as goal

pub returns-clause-value : goal.returns-clause-value
unfolding longest_punctuator
returns-clause-value c =
    c.longest_of.ensures.value ∙ ap (λ (table : List (Bor (List ℕ))). fold (longer_at c.args.rest.now) [] (map (λ p. p.now) table)) c.as_slice.ensures
