-- The origin of a literal's objects: the literal at its place. Over plain variables.
use Rattle.std.proofs.Common.{◌≡◌, ℕ, suc, Some, List, [], ◌∷◌, cond, slice_get, refl, sym, ◌∙◌, ap}
use Rattle.property_keys.specs.declared.identifiers.ObjectId.{ObjectId}
use Rattle.slack_tracking.specs.declared.OriginKind.{OriginKind}
use Rattle.slack_tracking.specs.declared.OriginKind.TheVariants as origin
use Rattle.es_tree.specs.declared.facts.LiteralFacts.{LiteralFacts}
use Rattle.es_tree.specs.declared.numbers.LiteralNo.{LiteralNo}
use Rattle.es_tree.specs.declared.numbers.NodeId.{NodeId}
use Rattle.es_tree.specs.Tree.{Tree}
use Rattle.es_model.specs.declared.intrinsics.Class.TheVariants as class
use Rattle.es_model.specs.declared.kinds.ObjectKind.TheVariants as kind_of
use Rattle.es_model.specs.Changes.{Making, changed}
use Rattle.es_model.specs.Events.{Origin, OfLiteral}
use Rattle.es_model.specs.Stages.{stage_of}
use Rattle.es_model.specs.World.{World, new_object}
use Rattle.object_heap.specs.Origins.{literal_at, origin_in}
use Rattle.evaluator.specs.Contexts.{Context}
use Rattle.evaluator.specs.Literals.{first_at, is_at, literal_origin, object_literal, origin_of, properties_at, properties_from}
use Rattle.evaluator.specs.References.{prototype_of}

first_literal : (ls : List LiteralFacts) (facts : LiteralFacts) → literal_at ls facts.place ≡ first_at ls facts
first_literal [] facts = refl
first_literal (l ∷ ls) facts = ap (λ (n : ℕ). cond (is_at l facts) 0 (suc n)) (first_literal ls facts)

pub origin_is : (script running : Tree) (n : LiteralNo) (facts : LiteralFacts) (kind : OriginKind) → running ≡ script → slice_get script.literals n.0 ≡ Some facts → kind ≡ origin.Literal facts.place →
    origin_in running kind ≡ literal_origin script n
origin_is script running n facts kind same e is =
    ap (λ k. origin_in running k) is ∙ ap (λ (s : Tree). origin_in s (origin.Literal facts.place)) same ∙ ap (λ (i : ℕ). OfLiteral (record { 0 = i })) (first_literal script.literals facts)
    ∙ ap (λ f. origin_of script.literals n f) (sym e)

-- a literal's object is made, and then its property definitions come
pub object_stage : (here : Context) (n : NodeId) (literal : LiteralNo) (w : World) (o : ObjectId) (x : Origin) → x ≡ literal_origin here.script literal → o ≡ new_object w.lists →
    stage_of (object_literal here n literal) w ≡ stage_of (properties_from here o (properties_at here n)) (changed (Making kind_of.Ordinary x (Some (prototype_of class.Object))) w)
object_stage here n literal w o x e is =
    ap (λ (y : Origin). stage_of (properties_from here (new_object w.lists) (properties_at here n)) (changed (Making kind_of.Ordinary y (Some (prototype_of class.Object))) w)) (sym e)
    ∙ ap (λ (z : ObjectId). stage_of (properties_from here z (properties_at here n)) (changed (Making kind_of.Ordinary x (Some (prototype_of class.Object))) w)) (sym is)
