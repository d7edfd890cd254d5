use Rattle.std.proofs.Common.{◌∙◌}
use Rattle.es_source.specs.Characters.{is_digit_of}
use Rattle.script_syntax.proofs.Digits.{take_run}
use Rattle.script_syntax.proofs.numbers.digits_at.Goals as goal

pub returns-clause-value : goal.returns-clause-value
returns-clause-value c = c.split_at.ensures.front ∙ take_run (is_digit_of c.args.base) c.args.rest.now c.digit_count.result c.digit_count.ensures.value
