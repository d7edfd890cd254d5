use Rattle.std.proofs.Common.{arith, refl}
use Rattle.script_rules.specs.declared.manner.Manner.TheVariants as manner
use Rattle.script_rules.proofs.Seen.{goes_over}
use Rattle.script_rules.proofs.faults.duplicates.duplicates.Goals as goal

pub loop-d-preserved : goal.loop-d-preserved
loop-d-preserved c =
    goes_over c.args.script.now.leaves c.args.declared.now c.loop-d.d-index _ (record { name = 0; manner = manner.Let }) c.loop-d.seen.entries c.insert.new.self.entries
    c.loop-d.found c.fault_where.result c.earlier-found.result c.clash_with-is_fault.result c.in_ok-units.units _ c.copied-before.result c.stronger.result
    c.loop-d.invariant (omega arith) refl c.in_ok-units.ensures c.copied-before.ensures c.get.ensures.value c.clash_with-is_fault.ensures c.stronger.ensures
    c.fault_where.ensures c.earlier-found.ensures c.in-Ok.ensures.updates.0
