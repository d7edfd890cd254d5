use Rattle.std.proofs.Common.{◌≡◌, drop, flat_map, true}
use Rattle.es_source.specs.declared.faults.FaultCode.TheVariants as code
use Rattle.script_rules.specs.Faults.{fault_where, least}
use Rattle.script_rules.specs.Order.{earlier}
use Rattle.script_rules.proofs.faults.duplicates.least_at.Given as goal

abbrev pub invariant-loop-token : goal.invariant-loop-token
invariant-loop-token l =
    earlier l.found (least (flat_map (fault_where true l.script.leaves code.Duplicate) (drop l.token-index l.tokens)))
    ≡ least (flat_map (fault_where true l.script.leaves code.Duplicate) l.tokens)
