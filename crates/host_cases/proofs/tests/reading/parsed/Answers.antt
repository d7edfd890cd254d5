use Rattle.std.proofs.Common.{Result, Ok, Err, IfOk}
use Rattle.es_source.specs.Reading.{Reading}
use Rattle.es_source.specs.declared.stop.ReadStop.{ReadStop}
use Rattle.script_grammar.specs.Scripts.{Parts}
use Rattle.script_parser.specs.Contract.{Parses}
use Rattle.script_rules.specs.Arena.{IsPart}
use Rattle.script_rules.proofs.Parts.{is_part}
use Rattle.host_cases.proofs.tests.reading.parsed.Goals as goal

-- the root of what the parser gives is a part
root_part : (r : Reading) (o : Result Parts ReadStop) → Parses r o → IfOk o (λ (s : Parts). IsPart s.nodes s.root)
root_part r (Ok s) p = let script = p.0 in is_part s.nodes s.root script.1.0 script.1.1
root_part r (Err e) p = tt

pub returns-in-Ok : goal.returns-in-Ok
returns-in-Ok c = root_part _ c.parse.result c.parse.ensures
