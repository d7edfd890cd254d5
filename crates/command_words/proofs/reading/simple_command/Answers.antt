use Rattle.std.proofs.Common.{ap, ap₂, true, ◌∙◌}
use Rattle.clap.specs.Words.{with_rule}
use Rattle.clap.specs.Simple.{App, on_top, app_of_fields}
use Rattle.command_words.specs.Command.{the_command}
use Rattle.command_words.proofs.reading.simple_command.Goals as goal

pub returns : goal.returns
unfolding the_command
returns c =
    let first = c.in_ok-arg.ensures.shape c.option_named-budget.ensures.local ∙ ap₂ with_rule c.new.ensures.app c.option_named-budget.ensures.rule in
    let second = c.in_ok-arg-2.ensures.shape c.option_named-generate.ensures.local ∙ ap₂ with_rule first c.option_named-generate.ensures.rule in
    let third = c.in_ok-command.ensures.shape c.new-file.ensures.optional.1 ∙ ap₂ with_rule second c.new-file.ensures.rule in
    ap app_of_fields c.no_binary_name.ensures ∙ ap (on_top (λ s. record s { no_binary_name = true })) third
