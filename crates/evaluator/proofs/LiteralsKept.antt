-- Primary expressions keep worlds sound.
use Rattle.std.proofs.Common.{Option, Some, None, List, [], ◌∷◌, ◌++◌, refl, arith}
use Rattle.std.proofs.lemmas.List.{length-append}
use Rattle.property_keys.specs.declared.identifiers.ObjectId.{ObjectId}
use Rattle.property_keys.specs.declared.keys.PropKey.{PropKey}
use Rattle.property_keys.specs.declared.values.Value.{Value}
use Rattle.property_keys.specs.declared.values.Value.TheVariants as value
use Rattle.descriptors.specs.declared.fields.Descriptor.{Descriptor}
use Rattle.es_tree.specs.declared.names.Named.{Named}
use Rattle.es_tree.specs.declared.numbers.LiteralNo.{LiteralNo}
use Rattle.es_tree.specs.declared.numbers.NodeId.{NodeId}
use Rattle.es_tree.specs.declared.primaries.Key.{Key}
use Rattle.es_tree.specs.declared.primaries.Key.TheVariants as key
use Rattle.es_tree.specs.declared.primaries.Primary.{Primary}
use Rattle.es_tree.specs.declared.primaries.Primary.TheVariants as primary
use Rattle.es_tree.specs.declared.primaries.Property.{Property}
use Rattle.es_tree.specs.declared.primaries.Property.TheVariants as property
use Rattle.es_model.specs.declared.intrinsics.Class.TheVariants as class
use Rattle.es_model.specs.declared.intrinsics.Intrinsic.TheVariants as intrinsic
use Rattle.es_model.specs.declared.kinds.ObjectKind.TheVariants as kind_of
use Rattle.es_model.specs.declared.requests.Request.TheVariants.{SetProto}
use Rattle.es_model.specs.declared.running.FunctionName.{FunctionName}
use Rattle.es_model.specs.declared.running.FunctionName.TheVariants as given_name
use Rattle.es_model.specs.declared.running.NamePrefix.{NamePrefix}
use Rattle.es_model.specs.declared.running.NamePrefix.TheVariants as name_prefix
use Rattle.es_model.specs.Events.{Origin}
use Rattle.es_model.specs.Objects.{new_object_of}
use Rattle.es_model.specs.World.{Lists, World, new_object}
use Rattle.es_model.specs.Changes.{Change, Defining, Making, changed, made, with_objects}
use Rattle.es_model.specs.Program.{Program}
use Rattle.es_model.specs.Known.{IfThere, IsObject, IsKnown, IsKnownKey, IsKnownDescriptor}
use Rattle.es_model.specs.Sound.{IsSound}
use Rattle.es_model.specs.Kept.{IsKnownName, IsLater}
use Rattle.es_model.proofs.Keeping.{later_none, later_then}
use Rattle.es_model.proofs.SharedKept.{later-changed}
use Rattle.es_model.proofs.ArrayLengths.{IsNoArray, no_array-later, no_array-leaves}
use Rattle.es_model.proofs.SoundArrays.{made-no_array}
use Rattle.es_model.proofs.SoundChanges.{sound-defining, sound-making}
use Rattle.es_model.proofs.SoundErrors.{noted-objects}
use Rattle.evaluator.specs.Accesses.{read_reference}
use Rattle.evaluator.specs.Contexts.{Context, normal}
use Rattle.evaluator.specs.Literals.{getter, key_converted, key_valued, literal_origin, object_literal, plain, primary_program, properties_at, properties_from, property_key, property_then, property_valued, proto_answered, proto_of, proto_valued, setter, shorthand_keyed, value_keyed}
use Rattle.evaluator.specs.References.{prototype_of}
use Rattle.evaluator.specs.Values.{whole_of}
use Rattle.evaluator.proofs.AccessesKept.{key_asked-kept, read_reference-kept}
use Rattle.evaluator.proofs.ElementsKept.{array-kept}
use Rattle.evaluator.proofs.FunctionsKept.{make_function-kept}
use Rattle.evaluator.proofs.ReferencesKept.{get_value-kept, resolve-kept}
use Rattle.evaluator.proofs.WordsKept.{Keeps, done-kept, look-kept, change-kept, IsHere, OnEnd, OnKey, Onward, asked-kept, evaluated-kept, flag-kept, here-stays, key-kept, key-stays, onward-stays, or_out-kept, text-kept, value-kept, whole-known, with_key-kept}

-- ---- object literals

-- what a definition makes of a value that is there is known
abbrev pub MakesKnown : (Value → Descriptor) → Type 0
MakesKnown made = (l : Lists) (v : Value) → IsKnown l v → IsKnownDescriptor l (made v)

plain-known : MakesKnown plain
plain-known l v h = record { value = h; get = tt; set = tt; sound = refl }

getter-known : MakesKnown getter
getter-known l value.Undefined h = record { value = tt; get = tt; set = tt; sound = refl }
getter-known l value.Null h = record { value = tt; get = tt; set = tt; sound = refl }
getter-known l (value.Bool x) h = record { value = tt; get = tt; set = tt; sound = refl }
getter-known l (value.Whole n) h = record { value = tt; get = tt; set = tt; sound = refl }
getter-known l (value.Text t) h = record { value = tt; get = tt; set = tt; sound = refl }
getter-known l (value.Symbol s) h = record { value = tt; get = tt; set = tt; sound = refl }
getter-known l (value.Object o) h = record { value = tt; get = h; set = tt; sound = refl }

setter-known : MakesKnown setter
setter-known l value.Undefined h = record { value = tt; get = tt; set = tt; sound = refl }
setter-known l value.Null h = record { value = tt; get = tt; set = tt; sound = refl }
setter-known l (value.Bool x) h = record { value = tt; get = tt; set = tt; sound = refl }
setter-known l (value.Whole n) h = record { value = tt; get = tt; set = tt; sound = refl }
setter-known l (value.Text t) h = record { value = tt; get = tt; set = tt; sound = refl }
setter-known l (value.Symbol s) h = record { value = tt; get = tt; set = tt; sound = refl }
setter-known l (value.Object o) h = record { value = tt; get = tt; set = h; sound = refl }

pub property_valued-kept : (w : World) (o : ObjectId) (k : PropKey) (made : Value → Descriptor) (next : Program) → IsNoArray w.lists o → IsKnownKey w.lists k → MakesKnown made → Onward w next → OnEnd w (property_valued o k made next)
property_valued-kept w o k made next object key makes f = λ c v sv l known. value-kept v _ c sv known (λ x h.
    let d : Change = Defining o k (made x) in
    let later : IsNoArray v.lists o = no_array-later w.lists v.lists l.lists o object in
    look-kept v _ (change-kept v d _ (f (changed d v) (sound-defining v o k (made x) sv later.there (key-stays w v l k key) (makes v.lists x h) (no_array-leaves v.lists o k (made x).value later.other)) (later_then w v (changed d v) l (later-changed d v)))))

pub key_converted-kept : (w : World) (next : PropKey → Program) → OnKey w next → OnEnd w (key_converted next)
key_converted-kept w next f = λ c v sv l known. key-kept v next c sv known (λ k key. f k v sv l key)

pub key_valued-kept : (w : World) (next : PropKey → Program) → OnKey w next → OnEnd w (key_valued next)
key_valued-kept w next f = λ c v sv l known. value-kept v _ c sv known (λ x there.
    key_asked-kept v x (key_converted next) sv there (key_converted-kept v next (λ k u su later key. f k u su (later_then w v u l later) key)))

property_key-kept : (w : World) (here : Context) (name : Key) (next : PropKey → Program) → IsSound w → IsHere w here → OnKey w next → Keeps (property_key here name next) w
property_key-kept w here (key.Fixed units) next s h f = with_key-kept w units next s f
property_key-kept w here (key.Computed n) next s h f = evaluated-kept w here None n (key_valued next) s h tt (key_valued-kept w next f)

pub value_keyed-kept : (w : World) (here : Context) (o : ObjectId) (before : NamePrefix) (made : Value → Descriptor) (v : NodeId) (next : Program) → IsHere w here → IsNoArray w.lists o → MakesKnown made → Onward w next →
    OnKey w (value_keyed here o before made v next)
value_keyed-kept w here o before made v next h object makes f = λ k u su l key.
    evaluated-kept u here (Some (given_name.Key before k)) v (property_valued o k made next) su (here-stays w u l here h) key
    (property_valued-kept u o k made next (no_array-later w.lists u.lists l.lists o object) key makes (onward-stays w u l next f))

proto_answered-kept : (w : World) (next : Program) → Onward w next → OnEnd w (proto_answered next)
proto_answered-kept w next f = λ c v sv l known. flag-kept v _ c sv known (λ succeeded. f v sv l)

proto_of-kept : (w : World) (o : ObjectId) (next : Program) (v : Value) → IsSound w → IsObject w.lists o → IsKnown w.lists v → Onward w next → Keeps (proto_of o next v) w
proto_of-kept w o next (value.Object p) s there known f = asked-kept w (SetProto o (Some p)) (proto_answered next) s (there, known) (proto_answered-kept w next f)
proto_of-kept w o next value.Null s there known f = asked-kept w (SetProto o None) (proto_answered next) s (there, tt) (proto_answered-kept w next f)
proto_of-kept w o next value.Undefined s there known f = f w s (later_none w)
proto_of-kept w o next (value.Bool x) s there known f = f w s (later_none w)
proto_of-kept w o next (value.Whole n) s there known f = f w s (later_none w)
proto_of-kept w o next (value.Text t) s there known f = f w s (later_none w)
proto_of-kept w o next (value.Symbol y) s there known f = f w s (later_none w)

pub proto_valued-kept : (w : World) (o : ObjectId) (next : Program) → IsNoArray w.lists o → Onward w next → OnEnd w (proto_valued o next)
proto_valued-kept w o next object f = λ c v sv l known. value-kept v (proto_of o next) c sv known (λ x k. proto_of-kept v o next x sv (no_array-later w.lists v.lists l.lists o object).there k (onward-stays w v l next f))

shorthand_keyed-kept : (w : World) (here : Context) (o : ObjectId) (named : Named) (next : Program) → IsHere w here → IsNoArray w.lists o → Onward w next → OnKey w (shorthand_keyed here o named next)
shorthand_keyed-kept w here o named next h object f = λ k u su l key.
    resolve-kept u here named _ su (here-stays w u l here h) (λ ref x sx later known.
    let all : IsLater w x = later_then w u x l later in
    get_value-kept x here ref (property_valued o k plain next) sx known
    (property_valued-kept x o k plain next (no_array-later w.lists x.lists all.lists o object) (key-stays u x later k key) plain-known (onward-stays w x all next f)))

pub property_then-kept : (w : World) (here : Context) (o : ObjectId) (p : Property) (next : Program) → IsSound w → IsHere w here → IsNoArray w.lists o → Onward w next → Keeps (property_then here o p next) w
property_then-kept w here o (property.Value name v) next s h object f = property_key-kept w here name (value_keyed here o name_prefix.Nothing plain v next) s h (value_keyed-kept w here o name_prefix.Nothing plain v next h object plain-known f)
property_then-kept w here o (property.Shorthand named) next s h object f = with_key-kept w named.name (shorthand_keyed here o named next) s (shorthand_keyed-kept w here o named next h object f)
property_then-kept w here o (property.Prototype v) next s h object f = evaluated-kept w here None v (proto_valued o next) s h tt (proto_valued-kept w o next object f)
property_then-kept w here o (property.Method name m) next s h object f =
    property_key-kept w here name (value_keyed here o name_prefix.Nothing plain m next) s h (value_keyed-kept w here o name_prefix.Nothing plain m next h object plain-known f)
property_then-kept w here o (property.Getter name m) next s h object f =
    property_key-kept w here name (value_keyed here o name_prefix.Get getter m next) s h (value_keyed-kept w here o name_prefix.Get getter m next h object getter-known f)
property_then-kept w here o (property.Setter name m) next s h object f =
    property_key-kept w here name (value_keyed here o name_prefix.Set setter m next) s h (value_keyed-kept w here o name_prefix.Set setter m next h object setter-known f)

pub properties-kept : (w : World) (here : Context) (o : ObjectId) (ps : List Property) → IsSound w → IsHere w here → IsNoArray w.lists o → Keeps (properties_from here o ps) w
properties-kept w here o [] s h object = done-kept w _ s object.there
properties-kept w here o (p ∷ ps) s h object =
    property_then-kept w here o p (properties_from here o ps) s h object (λ v sv l. properties-kept v here o ps sv (here-stays w v l here h) (no_array-later w.lists v.lists l.lists o object))

pub object-there : (w : World) (origin : Origin) (p : Option ObjectId) → IsObject (changed (Making kind_of.Ordinary origin p) w).lists (new_object w.lists)
unfolding changed made
object-there w origin p =
    let n = length-append w.lists.objects (new_object_of kind_of.Ordinary p ∷ []) in
    let same = noted-objects (with_objects w (w.lists.objects ++ new_object_of kind_of.Ordinary p ∷ [])) p in omega arith

object-kept : (w : World) (here : Context) (n : NodeId) (literal : LiteralNo) → IsSound w → IsHere w here → Keeps (object_literal here n literal) w
object-kept w here n literal s h =
    let origin : Origin = literal_origin here.script literal in
    let p : Option ObjectId = Some (prototype_of class.Object) in
    let v : World = changed (Making kind_of.Ordinary origin p) w in
    look-kept w _ (change-kept w _ _ (properties-kept v here (new_object w.lists) (properties_at here n) (sound-making w kind_of.Ordinary origin p s tt tt (s.intact.start (intrinsic.Prototype class.Object)).0 refl)
    (here-stays w v (later-changed (Making kind_of.Ordinary origin p) w) here h) (made-no_array w kind_of.Ordinary origin p refl)))

-- ---- each primary expression

pub primary-kept : (w : World) (here : Context) (name : Option FunctionName) (n : NodeId) (p : Primary) → IsSound w → IsHere w here → IfThere (IsKnownName w.lists) name → Keeps (primary_program here name n p) w
primary-kept w here name n primary.This s h known = done-kept w _ s h.0.this
primary-kept w here name n (primary.Name named) s h known = resolve-kept w here named (read_reference here) s h (λ ref v sv l there. read_reference-kept v here ref sv there)
primary-kept w here name n (primary.Number x) s h known = or_out-kept w (whole_of x) _ s (whole-known x) (λ m whole. (done-kept w _ s whole))
primary-kept w here name n (primary.Text units) s h known = text-kept w units _ s (λ t v sv l there. done-kept v (normal (value.Text t)) sv there)
primary-kept w here name n primary.Null s h known = done-kept w _ s tt
primary-kept w here name n (primary.Bool x) s h known = done-kept w _ s tt
primary-kept w here name n (primary.Array elements) s h known = array-kept w here n s h
primary-kept w here name n (primary.Object literal properties) s h known = object-kept w here n literal s h
primary-kept w here name n (primary.Function f) s h known = make_function-kept w here name f s h known
primary-kept w here name n (primary.Method f) s h known = make_function-kept w here name f s h known
