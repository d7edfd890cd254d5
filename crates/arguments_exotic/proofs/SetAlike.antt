-- OrdinarySet of an arguments object: what it does with a stored property does not depend on the value of that.
use Rattle.std.proofs.Common.{◌≡◌, Option, Some, None, Result, refl, sym, ap, subst}
use Rattle.property_keys.specs.declared.identifiers.ObjectId.{ObjectId}
use Rattle.property_keys.specs.declared.keys.PropKey.{PropKey}
use Rattle.property_keys.specs.declared.values.Value.{Value}
use Rattle.descriptors.specs.declared.property.Complete.{Complete}
use Rattle.descriptors.specs.declared.property.Complete.TheVariants.{Stored, Accessor}
use Rattle.es_model.specs.declared.answers.Stop.{Stop}
use Rattle.es_model.specs.declared.answers.Turn.{Turn}
use Rattle.es_model.specs.declared.kinds.CellNo.{CellNo}
use Rattle.es_model.specs.declared.requests.Request.TheVariants.{Write}
use Rattle.es_model.specs.Changes.{SettingCell, changed}
use Rattle.es_model.specs.Fits.{IsKnownRequest}
use Rattle.es_model.specs.Stages.{stage_of, world_at}
use Rattle.es_model.specs.World.{Lists, World, own, proto}
use Rattle.es_model.proofs.Growing.{grows-changed}
use Rattle.es_model.proofs.KnownLater.{key-later, known-later, object-later}
use Rattle.object_heap.specs.Stands.{HeapView}
use Rattle.object_heap.specs.Stops.{Stops}
use Rattle.object_heap.specs.Turns.{KeepsNamed, world_after}
use Rattle.ordinary_object.specs.Names.{names_of}
use Rattle.ordinary_object.specs.Ordinary.{ordinary_set, ordinary_set_with_own_descriptor}
use Rattle.ordinary_object.specs.Rests.{program_after}
use Rattle.ordinary_object.specs.declared.frame.OrdinaryFrame.{OrdinaryFrame}
use Rattle.arguments_exotic.specs.Arguments.{mapped, set_ordinary, with_parameter}
use Rattle.arguments_exotic.specs.Turns.{StopsAt}
use Rattle.arguments_exotic.specs.declared.parameter.Parameter.{Parameter}

pub same_descriptor : (l : Lists) (p : Option Parameter) (found : Option Complete) (up : Option ObjectId) (k : PropKey) (v receiver : Value) →
    ordinary_set_with_own_descriptor (with_parameter l p found) up k v receiver ≡ ordinary_set_with_own_descriptor found up k v receiver
same_descriptor l None found up k v receiver = refl
same_descriptor l (Some p) None up k v receiver = refl
same_descriptor l (Some p) (Some (Stored x flags)) up k v receiver = refl
same_descriptor l (Some p) (Some (Accessor get set enumerable configurable)) up k v receiver = refl

same-stage : (args : ObjectId) (k : PropKey) (v receiver : Value) (w : World) → stage_of (set_ordinary args k v receiver) w ≡ stage_of (ordinary_set args k v receiver) w
same-stage args k v receiver w =
    ap (λ p. stage_of p w) (same_descriptor w.lists (mapped w.lists args k) (own w.lists args k) (proto w.lists args) k v receiver)

pub as_ordinary : (old new : HeapView) (args : ObjectId) (k : PropKey) (v receiver : Value) (r : Result (Turn OrdinaryFrame) Stop) →
    StopsAt old new (ordinary_set args k v receiver) r → StopsAt old new (set_ordinary args k v receiver) r
as_ordinary old new args k v receiver r h = λ w stands. subst (λ s. Stops program_after old new w s r) (sym (same-stage args k v receiver w)) (h w stands)

pub named_as_ordinary : (w : World) (args : ObjectId) (k : PropKey) (v receiver : Value) (r : Result (Turn OrdinaryFrame) Stop) →
    KeepsNamed names_of (world_after (ordinary_set args k v receiver) w) r → KeepsNamed names_of (world_after (set_ordinary args k v receiver) w) r
named_as_ordinary w args k v receiver r h = subst (λ s. KeepsNamed names_of (world_at s) r) (sym (same-stage args k v receiver w)) h

-- what a write names is there after the value was written to a parameter
pub write_later : (w : World) (c : CellNo) (x : Value) (args : ObjectId) (k : PropKey) (v receiver : Value) →
    IsKnownRequest w.lists (Write args k v receiver None) → IsKnownRequest (changed (SettingCell c x) w).lists (Write args k v receiver None)
write_later w c x args k v receiver h =
    let l : Lists = (changed (SettingCell c x) w).lists in
    let g = grows-changed (SettingCell c x) w in
    (object-later w.lists l g args h.0, key-later w.lists l g k h.1, known-later w.lists l g v h.2, known-later w.lists l g receiver h.3)
