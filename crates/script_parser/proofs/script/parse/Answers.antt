use Rattle.std.proofs.Common.{arith, ap, ◌∙◌}
use Rattle.script_grammar.specs.Scripts.{Parts}
use Rattle.script_parser.proofs.Whole.{behind_next, parses_refused, parses_deep, parses_cut, parses_whole}
use Rattle.script_parser.proofs.script.parse.Goals as goal

pub returns-in-Refused : goal.returns-in-Refused
returns-in-Refused c =
    parses_refused c.loop-i.parser c.read_at.new.self c.args.tokens.now c.loop-i.i c.at.result.now c.at-in-Refused.result.now c.in_ok-read_at.field-0 c.fault_at.result c.loop-i.invariant c.at.ensures
    c.in-Refused.is c.in_ok-read_at.ensures c.at-in-Refused.ensures c.fault_at.ensures

pub returns-in-Deep : goal.returns-in-Deep
returns-in-Deep c =
    parses_deep c.loop-i.parser c.read_at.new.self c.args.tokens.now c.loop-i.i c.at.result.now c.at-in-Deep.result.now c.in_ok-read_at.field-0 c.fault_at-in-Deep.result c.loop-i.invariant c.at.ensures
    c.in-Deep.is c.in_ok-read_at.ensures c.at-in-Deep.ensures c.fault_at-in-Deep.ensures

pub loop-i-preserved : goal.loop-i-preserved
loop-i-preserved c =
    behind_next c.loop-i.parser c.read_at.new.self c.args.tokens.now.tokens c.loop-i.i c.at.result.now c.in_ok-read_at.field-0 c.loop-i.invariant c.at.ensures c.in-Taken.is c.in_ok-read_at.ensures

pub returns-in_ok-leaves-in-Some : goal.returns-in_ok-leaves-in-Some
returns-in_ok-leaves-in-Some c =
    parses_whole c.loop-i.parser c.end.new.self c.args.tokens.now c.loop-i.i c.in-Some.root c.in_ok-root.field-0 c.new.result c.loop-i.invariant (omega arith) c.in-Some.is c.in_ok-root.ensures
    (ap (λ (p : Parts). p.leaves) c.new.ensures ∙ c.in_ok-leaves-in-Some.ensures)
    (ap (λ (p : Parts). p.nodes) c.new.ensures ∙ ap (λ v. v.items) c.into_nodes.ensures)
    (ap (λ (p : Parts). p.root) c.new.ensures)

pub returns-in-None : goal.returns-in-None
returns-in-None c =
    parses_cut c.loop-i.parser c.end.new.self c.args.tokens.now c.loop-i.i c.in_ok-root.field-0 c.fault_at_end.result c.loop-i.invariant (omega arith) c.in-None.is c.in_ok-root.ensures c.fault_at_end.ensures
