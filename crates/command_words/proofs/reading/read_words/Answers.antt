use Rattle.std.proofs.Common.{ap, ap₂, sym, subst, codes, false, refl, inl, inr, ◌≡◌, ◌∙◌}
use Rattle.clap.specs.Words.{fault_of, first_of, found_of, is_simple, is_simple_and_free, kind_of, matches_of}
use Rattle.clap.proofs.WalkLemmas.{first_value-rows}
use Rattle.command_words.specs.Command.{is_free_of_faults, takes_words}
use Rattle.command_words.specs.declared.orders.WordsStop.TheVariants as stop
use Rattle.command_words.proofs.CommandIs.{command_is_free, command_is_simple, faults_show, map_same}
use Rattle.command_words.proofs.reading.read_words.Goals as goal

pub returns-in-Ok-try_get_matches_from-clause-taken : goal.returns-in-Ok-try_get_matches_from-clause-taken
returns-in-Ok-try_get_matches_from-clause-taken c =
    let command = c.in-Ok.ensures in
    ap is_free_of_faults (sym (ap₂ fault_of command (map_same c.args.words.now))
    ∙ c.in-Ok-try_get_matches_from.ensures.kinds (ap is_simple_and_free command ∙ command_is_free))

pub returns-in-Ok-try_get_matches_from-clause-budget : goal.returns-in-Ok-try_get_matches_from-clause-budget
returns-in-Ok-try_get_matches_from-clause-budget c =
    let command = c.in-Ok.ensures in
    let rows = (c.in-Ok-try_get_matches_from.ensures.matches (ap is_simple command ∙ command_is_simple)).0 ∙ ap₂ matches_of command (map_same c.args.words.now) in
    c.get_str-budget.ensures ∙ first_value-rows (found_of c.in-Ok-try_get_matches_from.matches) (codes "budget") ∙ ap (first_of (codes "budget")) rows

pub returns-in-Ok-try_get_matches_from-clause-generate : goal.returns-in-Ok-try_get_matches_from-clause-generate
returns-in-Ok-try_get_matches_from-clause-generate c =
    let command = c.in-Ok.ensures in
    let rows = (c.in-Ok-try_get_matches_from.ensures.matches (ap is_simple command ∙ command_is_simple)).0 ∙ ap₂ matches_of command (map_same c.args.words.now) in
    c.get_str-generate.ensures ∙ first_value-rows (found_of c.in-Ok-try_get_matches_from.matches) (codes "generate") ∙ ap (first_of (codes "generate")) rows

pub returns-in-Ok-try_get_matches_from-clause-file : goal.returns-in-Ok-try_get_matches_from-clause-file
returns-in-Ok-try_get_matches_from-clause-file c =
    let command = c.in-Ok.ensures in
    let rows = (c.in-Ok-try_get_matches_from.ensures.matches (ap is_simple command ∙ command_is_simple)).0 ∙ ap₂ matches_of command (map_same c.args.words.now) in
    c.get_str-file.ensures ∙ first_value-rows (found_of c.in-Ok-try_get_matches_from.matches) (codes "file") ∙ ap (first_of (codes "file")) rows

pub returns-in-Err-clause-usage : goal.returns-in-Err-clause-usage
returns-in-Err-clause-usage c = λ usage.
    let command = c.in-Ok.ensures in
    let is_usage : c.stop_of.result ≡ stop.Usage = cc in
    let faults = ap₂ fault_of command (map_same c.args.words.now) in
    let kinds = c.in-Err.ensures.kinds (ap is_simple_and_free command ∙ command_is_free) in
    elim kinds [
      | inl memory ↦ absurd (c.stop_of.ensures.usage.0 is_usage memory)
      | inr among ↦ ap is_free_of_faults (sym faults) ∙ faults_show _ _ among
    ]
