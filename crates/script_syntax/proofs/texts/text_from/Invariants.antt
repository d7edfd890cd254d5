use Rattle.std.proofs.Common.{◌≡◌, ◌≤◌, ◌-◌, length, drop}
use Rattle.es_source.specs.Texts.{text_from}
use Rattle.script_syntax.proofs.Parts.{after_front}
use Rattle.script_syntax.proofs.texts.text_from.Given as goal

abbrev pub invariant-parts : goal.invariant-parts
invariant-parts l = record {
  within : l.passed ≤ length l.rest;
  found : after_front l.passed l.units (text_from l.quote 0 (drop l.passed l.rest)) ≡ text_from l.quote 0 l.rest;
}

abbrev pub decreases-parts : goal.decreases-parts
decreases-parts l = length l.rest - l.passed
