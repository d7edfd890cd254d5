-- The rounds of the walk up the prototypes.
use Rattle.std.proofs.Common.{◌≡◌, ℕ, suc, ◌-◌, Bool, false, Option, Result, Ok, Err, refl, ap, sym, subst, ◌∙◌}
use Rattle.property_keys.specs.declared.identifiers.ObjectId.{ObjectId}
use Rattle.es_model.specs.declared.answers.Stop.{Stop}
use Rattle.es_model.specs.declared.answers.Turn.{Turn}
use Rattle.es_model.specs.declared.answers.Turn.TheVariants.{Done}
use Rattle.es_model.specs.World.{World}
use Rattle.es_model.specs.Changes.{charged}
use Rattle.es_model.specs.Stages.{Stage, stage_of}
use Rattle.ordinary_object.specs.Ordinary.{set_prototype_round}
use Rattle.object_heap.specs.Stands.{HeapView, Goes, goes_then}
use Rattle.object_heap.specs.Stops.{Stops, stops_then}
use Rattle.ordinary_object.specs.declared.frame.OrdinaryFrame.{OrdinaryFrame}
use Rattle.ordinary_object.specs.declared.rounds.Round.{Round}
use Rattle.ordinary_object.specs.declared.rounds.Round.TheVariants.{On, Over}
use Rattle.ordinary_object.specs.Rests.{program_after}
use Rattle.ordinary_object.specs.Rounds.{IsRound, flag_answer}

abbrev pub round_at : ℕ → ObjectId → Option ObjectId → Option ObjectId → World → Stage
round_at left o u at v = stage_of (set_prototype_round left o u at) v

-- from the world where the walk began, a world where it stands now
abbrev pub Stands_at : HeapView → HeapView → World → Stage → ℕ → ObjectId → Option ObjectId → Option ObjectId → Type 0
Stands_at a b w s left o u at = (v : World) × Goes a b w v × (s ≡ round_at left o u at v)

stopped : (a b c : HeapView) (w v : World) (s t : Stage) (r : Result (Turn OrdinaryFrame) Stop) → Goes a b w v → s ≡ t → Stops program_after b c v t r → Stops program_after a c w s r
stopped a b c w v s t r g e h = subst (λ x. Stops program_after a c w x r) (sym e) (stops_then program_after a b c w v t r g h)

pub falls : (a b c : HeapView) (w v : World) (left : ℕ) (o : ObjectId) (u : Option ObjectId) (s t : Stage) (r : Result Round Stop) (stop : Stop) → Goes a b w v → s ≡ t → r ≡ Err stop → IsRound b c v left o u t r → Stops program_after a c w s (Err stop)
falls a b c w v left o u s t r stop g e i h = stopped a b c w v s t (Err stop) g e (subst (λ x. IsRound b c v left o u t x) i h)

pub over : (a b c : HeapView) (w v : World) (left : ℕ) (o : ObjectId) (u : Option ObjectId) (s t : Stage) (r : Result Round Stop) (is_set : Bool) → Goes a b w v → s ≡ t → r ≡ Ok (Over is_set) → IsRound b c v left o u t r → Stops program_after a c w s (Ok (Done (flag_answer is_set)))
over a b c w v left o u s t r is_set g e i h = stopped a b c w v s t (Ok (Done (flag_answer is_set))) g e (subst (λ x. IsRound b c v left o u t x) i h)

pub on : (a b c : HeapView) (w v : World) (left : ℕ) (o : ObjectId) (u : Option ObjectId) (s t : Stage) (r : Result Round Stop) (at : Option ObjectId) → Goes a b w v → s ≡ t → r ≡ Ok (On at) → IsRound b c v left o u t r → Stands_at a c w s left o u at
on a b c w v left o u s t r at g e i h =
    let k : IsRound b c v left o u t (Ok (On at)) = subst (λ x. IsRound b c v left o u t x) i h in
    (charged v 1, goes_then a b c w v (charged v 1) g k.0, e ∙ k.1)

-- no round is left
pub ends : (a c : HeapView) (w : World) (s : Stage) (left : ℕ) (o : ObjectId) (u at : Option ObjectId) → left ≡ 0 → Stands_at a c w s left o u at → Stops program_after a c w s (Ok (Done (flag_answer false)))
ends a c w s left o u at z h =
    let (v, g, e) = h in
    subst (λ x. Stops program_after a c w x (Ok (Done (flag_answer false)))) (sym (e ∙ ap (λ n. round_at n o u at v) z)) (refl, g)

pub one_less : (a c : HeapView) (w : World) (s : Stage) (left : ℕ) (o : ObjectId) (u at : Option ObjectId) → left ≡ suc (left - 1) → Stands_at a c w s left o u at → Stands_at a c w s (suc (left - 1)) o u at
one_less a c w s left o u at e h = subst (λ n. Stands_at a c w s n o u at) e h
