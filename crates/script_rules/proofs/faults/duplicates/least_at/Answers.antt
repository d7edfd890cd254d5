use Rattle.std.proofs.Common.{arith, true, refl}
use Rattle.es_source.specs.declared.faults.FaultCode.TheVariants as code
use Rattle.script_rules.specs.Faults.{fault_where}
use Rattle.script_rules.proofs.Seen.{next_found}
use Rattle.script_rules.proofs.faults.duplicates.least_at.Goals as goal

pub loop-token-preserved : goal.loop-token-preserved
loop-token-preserved c =
    next_found (fault_where true c.args.script.now.leaves code.Duplicate) c.args.tokens.now c.loop-token.token-index _ 0 c.loop-token.found c.fault_where.result c.earlier-found.result
    (omega arith) refl c.fault_where.ensures c.earlier-found.ensures c.loop-token.invariant
