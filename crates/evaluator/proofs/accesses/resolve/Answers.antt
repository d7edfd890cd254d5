use Rattle.std.proofs.Common.{sym, subst}
use Rattle.es_model.specs.Changes.{Interning, changed}
use Rattle.evaluator.specs.Contexts.{context}
use Rattle.evaluator.specs.Plans.{Plans, purpose_program}
use Rattle.evaluator.specs.References.{resolve_bound}
use Rattle.evaluator.proofs.Joining.{text_stage}
use Rattle.evaluator.proofs.Planned.{plans_then}
use Rattle.evaluator.proofs.Belonging.{sound_interned, text_there}
use Rattle.evaluator.proofs.accesses.resolve.Goals as goal

pub returns-clause-plans : goal.returns-clause-plans
returns-clause-plans g c = λ w h.
    let here = context c.args.script.now c.args.body c.args.cells.now in
    let named = c.args.named.now in
    let goes = c.in_ok-name.ensures.ok w h in
    subst (λ s. Plans here here c.args.heap.now c.resolve_bound.new.heap w s c.resolve_bound.result)
    (sym (text_stage named.name (λ t. resolve_bound here t named.binding (purpose_program here c.args.purpose)) w c.in_ok-name.name c.intern.ensures.short (c.in_ok-name.ensures.number w h)))
    (plans_then here here c.args.heap.now c.intern.new.heap c.resolve_bound.new.heap w (changed (Interning named.name) w) _ c.resolve_bound.result goes
    (c.resolve_bound.ensures.plans (changed (Interning named.name) w) goes.stands))

pub returns-clause-named : goal.returns-clause-named
returns-clause-named g c = λ w v hw sound hv running.
    let named = c.args.named.now in
    let goes = c.in_ok-name.ensures.ok w hw in
    let known = text_there named.name c.args.heap.now c.intern.new.heap c.resolve_bound.new.heap w v c.in_ok-name.name (c.in_ok-name.ensures.number w hw) goes c.resolve_bound.ensures.retains hv in
    c.resolve_bound.ensures.named (changed (Interning named.name) w) v goes.stands (sound_interned w named.name c.intern.ensures.short sound) hv known running
