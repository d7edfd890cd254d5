use Rattle.std.proofs.Common.{◌≡◌, Some, slice_get, refl, sym, subst}
use Rattle.slack_tracking.specs.declared.OriginKind.TheVariants.{Literal}
use Rattle.es_tree.specs.Tree.{Tree}
use Rattle.es_model.specs.declared.kinds.ObjectKind.TheVariants.{Ordinary}
use Rattle.es_model.specs.Changes.{Making, changed}
use Rattle.es_model.specs.World.{World}
use Rattle.object_heap.specs.Origins.{BeginsWith, origin_at, origin_in}
use Rattle.object_heap.specs.Stands.{Goes, goes_then}
use Rattle.evaluator.specs.Contexts.{context}
use Rattle.evaluator.specs.Literals.{object_literal, properties_at, properties_from}
use Rattle.evaluator.specs.References.{prototype_of}
use Rattle.es_model.specs.declared.intrinsics.Class.TheVariants.{Object}
use Rattle.evaluator.proofs.Defining.{plans_same}
use Rattle.evaluator.proofs.LiteralOrigins.{object_stage, origin_is}
use Rattle.evaluator.proofs.Belonging.{object_there}
use Rattle.evaluator.proofs.literals.object_literal.Goals as goal

pub returns-clause-plans : goal.returns-clause-plans
returns-clause-plans g c = λ w same h.
    let script = c.args.script.now in
    let here = context script c.args.body c.args.cells.now in
    let facts = c.literal-facts.result.now in
    let id = c.in_ok-origin.origin in
    let o = c.in_ok-object.object in
    let a = c.args.heap.now in
    let b = c.origin_for.new.self in
    let d = c.make.new.self in
    let begins : BeginsWith w.script (Literal facts.place) c.literal_places-places.result =
    (c.args.literal.0, facts, subst (λ (s : Tree). slice_get s.literals c.args.literal.0 ≡ Some facts) (sym same) c.literal-facts.ensures, refl, c.literal_places-places.ensures) in
    let one : Goes a b w w = c.in_ok-origin.ensures.ok w h begins in
    let x = origin_in w.script (origin_at b id) in
    let u : World = changed (Making Ordinary x (Some (prototype_of Object))) w in
    let two : Goes b d w u = subst (λ p. Goes b d w (changed (Making Ordinary x (Some p)) w)) c.object-proto.ensures (c.in_ok-object.ensures.ok w one.stands) in
    plans_same here a d c.properties_from.new.heap w u (object_literal here c.args.node c.args.literal) (properties_from here o (properties_at here c.args.node)) c.properties_from.result (goes_then a b d w w u one two)
    (object_stage here c.args.node c.args.literal w o x (origin_is script w.script c.args.literal facts (origin_at b id) same c.literal-facts.ensures c.in_ok-origin.ensures.kind) (c.in_ok-object.ensures.object w one.stands))
    (c.properties_from.ensures.plans u two.stands)

pub returns-clause-named : goal.returns-clause-named
returns-clause-named g c = λ w v same h hv.
    let script = c.args.script.now in
    let facts = c.literal-facts.result.now in
    let id = c.in_ok-origin.origin in
    let a = c.args.heap.now in
    let b = c.origin_for.new.self in
    let d = c.make.new.self in
    let begins : BeginsWith w.script (Literal facts.place) c.literal_places-places.result =
    (c.args.literal.0, facts, subst (λ (s : Tree). slice_get s.literals c.args.literal.0 ≡ Some facts) (sym same) c.literal-facts.ensures, refl, c.literal_places-places.ensures) in
    let one : Goes a b w w = c.in_ok-origin.ensures.ok w h begins in
    let x = origin_in w.script (origin_at b id) in
    let u : World = changed (Making Ordinary x (Some (prototype_of Object))) w in
    let two : Goes b d w u = subst (λ p. Goes b d w (changed (Making Ordinary x (Some p)) w)) c.object-proto.ensures (c.in_ok-object.ensures.ok w one.stands) in
    let known = object_there d c.properties_from.new.heap w v x (Some (prototype_of Object)) c.in_ok-object.object (c.in_ok-object.ensures.object w one.stands) two.stands c.properties_from.ensures.retains hv in
    c.properties_from.ensures.named u v two.stands hv known
