-- Lemmas on the reading of a script, phase by phase.
use Rattle.std.proofs.Common.{◌≡◌, ◌∙◌, ℕ, List, Result, Ok, Err, sym, ap}
use Rattle.es_source.specs.Reading.{Reading, reading_of}
use Rattle.es_tree.specs.Tree.{Tree as Checked}
use Rattle.script_checker.specs.Contract.{Checks}
use Rattle.script_grammar.specs.declared.leaf.Leaf.{Leaf}
use Rattle.script_grammar.specs.Scripts.{Parts}
use Rattle.script_parser.specs.Contract.{IsScript, IsSoundScript}
use Rattle.script_rules.specs.Faults.{static_fault}
use Rattle.script_rules.specs.FirstFault.{at_tokens, at_grammar, at_rules}
use Rattle.script_checker.specs.Made.{checked_tree}
use Rattle.script_syntax.specs.Readings.{GivesReading}
use Rattle.es_source.specs.declared.stop.ReadStop.{ReadStop}
use Rattle.es_source.specs.declared.stop.ReadStop.TheVariants.{Fault, NoMemory}
use Rattle.script_host.specs.Reading.{ReadsScript}

pub tokens_stop : (bytes : List ℕ) (stop : ReadStop) → GivesReading (reading_of bytes) (Err stop) → ReadsScript bytes (Err stop)
tokens_stop bytes (Fault f) read = at_tokens read
tokens_stop bytes NoMemory read = tt

pub grammar_stops : (bytes : List ℕ) (r : Reading) (stop : ReadStop) → reading_of bytes ≡ Ok r → IsSoundScript r (Err stop) → ReadsScript bytes (Err stop)
grammar_stops bytes r (Fault f) ok has = at_grammar r ok has
grammar_stops bytes r NoMemory ok has = tt

pub rules_end : (bytes : List ℕ) (r : Reading) (s : Parts) (result : Result Checked ReadStop) → reading_of bytes ≡ Ok r → IsScript r s → Checks s result
    → ReadsScript bytes result
rules_end bytes r s (Ok tree) ok script checked =
    let checks = checked script.1.0 script.1.1 in (
      r,
      script.1.0,
      ok,
      script.1.2,
      ap (λ (leaves : List Leaf). static_fault leaves script.1.0) (sym script.0) ∙ checks.0,
      checks.1 ∙ ap (λ (leaves : List Leaf). checked_tree leaves script.1.0) script.0,
    )
rules_end bytes r s (Err (Fault f)) ok script checked =
    at_rules r script.1.0 ok script.1.2 (ap (λ (leaves : List Leaf). static_fault leaves script.1.0) (sym script.0) ∙ checked script.1.0 script.1.1)
rules_end bytes r s (Err NoMemory) ok script checked = tt
