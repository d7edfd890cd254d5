use Rattle.std.proofs.Common.{refl}
use Rattle.std.proofs.Math.Utf8.{encode}
use Rattle.std.specs.Char.Utf16.{utf16_chars}
use Rattle.es_model.specs.Changes.{printed_more}
use Rattle.es_model.specs.Weights.{renewed}
use Rattle.es_serve.specs.Lines.{line_bytes}
use Rattle.es_serve.specs.Serve.{model}
use Rattle.small_worlds.proofs.requests.lines_are_printed.Goals as goal

pub returns-clause-line_has_texts : goal.returns-clause-line_has_texts
unfolding model renewed printed_more line_bytes utf16_chars encode
returns-clause-line_has_texts c = refl

pub returns-clause-line_is_last : goal.returns-clause-line_is_last
unfolding model renewed printed_more line_bytes utf16_chars encode
returns-clause-line_is_last c = refl
