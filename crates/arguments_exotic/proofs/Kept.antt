-- The methods of arguments objects keep worlds sound.
use Rattle.std.proofs.Common.{◌≡◌, Bool, true, false, Option, Some, None, refl, sym, subst, true≢false}
use Rattle.property_keys.specs.declared.identifiers.ObjectId.{ObjectId}
use Rattle.property_keys.specs.declared.keys.PropKey.{PropKey}
use Rattle.property_keys.specs.declared.values.Value.{Value}
use Rattle.descriptors.specs.declared.fields.Descriptor.{Descriptor}
use Rattle.descriptors.specs.Kinds.{is_accessor_descriptor}
use Rattle.es_tree.specs.declared.numbers.SiteId.{SiteId}
use Rattle.es_model.specs.declared.kinds.ObjectKind.{ObjectKind}
use Rattle.es_model.specs.declared.kinds.ObjectKind.TheVariants as kind_of
use Rattle.es_model.specs.declared.requests.Request.{Request}
use Rattle.es_model.specs.declared.requests.Request.TheVariants.{GetOwn, Define, Has, Read, Write, Delete, Keys, Proto, SetProto, Extensible, Prevent, Call, Construct, Work, Print}
use Rattle.es_model.specs.Changes.{Defining, Deleting, SettingCell, Unmapping, changed}
use Rattle.es_model.specs.Fits.{IsKnownRequest}
use Rattle.es_model.specs.Kept.{FitsTask, IsKept}
use Rattle.es_model.specs.Known.{IfThere, IsKnown, IsKnownDescriptor, IsKnownKey, IsObject}
use Rattle.es_model.specs.Objects.{is_array, is_proxy}
use Rattle.es_model.specs.Program.{Of, Task, done}
use Rattle.es_model.specs.Sound.{IsSound}
use Rattle.es_model.specs.World.{Lists, World, allows, deletes, kind, own, proto}
use Rattle.es_model.specs.programs.Errors.{flag}
use Rattle.es_model.proofs.ArrayLengths.{no_array-leaves}
use Rattle.es_model.proofs.Growing.{grows-changed}
use Rattle.es_model.proofs.KnownLater.{descriptor-later, key-later, known-later, object-later}
use Rattle.es_model.proofs.SoundChanges.{sound-cell_set, sound-defining, sound-deleting}
use Rattle.es_model.proofs.SoundErrors.{kept-if}
use Rattle.object_heap.specs.Turns.{KeepsFor}
use Rattle.ordinary_object.proofs.KeptKeys.{keys-kept}
use Rattle.ordinary_object.proofs.KeptProtos.{set_proto-kept}
use Rattle.ordinary_object.proofs.KeptReads.{extensible-kept, get-kept, get_proto-kept, has-kept}
use Rattle.ordinary_object.proofs.KeptWrites.{define-kept, delete-kept, prevent-kept, set-kept}
use Rattle.arguments_exotic.specs.Arguments.{arguments_program, define_by, delete_by, forbids_writing, get_by, mapped, mapped_for, new_arg_desc, parameter_defined, set_by, set_ordinary, unmap, unmap_unwritable, value_defined}
use Rattle.arguments_exotic.specs.Serving.{IsForArguments, is_arguments}
use Rattle.arguments_exotic.specs.declared.parameter.Parameter.{Parameter}
use Rattle.arguments_exotic.proofs.Parameters.{new_arg_desc-known, own_property-known, parameter-known}
use Rattle.arguments_exotic.proofs.SetAlike.{same_descriptor}
use Rattle.arguments_exotic.proofs.Unmapped.{sound-unmapping}

-- what the task takes
abbrev TakesFlag : Task → Type 0
TakesFlag t = (l : Lists) (b : Bool) → FitsTask t l (flag b)

unmap-kept : (t : Task) → TakesFlag t → (w : World) (args : ObjectId) (p : Parameter) → IsSound w → IsKept (FitsTask t) (unmap args p) w
unmap-kept t takes w args p s = (sound-unmapping w args p.index s, takes (changed (Unmapping args p.index) w).lists true)

-- ---- [[DefineOwnProperty]]

unwritable-kept : (t : Task) → TakesFlag t → (w : World) (args : ObjectId) (p : Parameter) (d : Descriptor) → IsSound w → IsKept (FitsTask t) (unmap_unwritable args p d) w
unwritable-kept t takes w args p d s = kept-if (FitsTask t) w (forbids_writing d) (unmap args p) (done (flag true)) (unmap-kept t takes w args p s) (s, takes w.lists true)

value-kept : (t : Task) → TakesFlag t → (w : World) (args : ObjectId) (p : Parameter) (d : Descriptor) (v : Option Value) → IsSound w → IfThere (IsKnown w.lists) v → IsKept (FitsTask t) (value_defined args p d v) w
value-kept t takes w args p d None s known = unwritable-kept t takes w args p d s
value-kept t takes w args p d (Some v) s known = unwritable-kept t takes (changed (SettingCell p.cell v) w) args p d (sound-cell_set w p.cell v s known)

defined-kept : (t : Task) → TakesFlag t → (w : World) (args : ObjectId) (p : Parameter) (d : Descriptor) → IsSound w → IsKnownDescriptor w.lists d → IsKept (FitsTask t) (parameter_defined args p d) w
defined-kept t takes w args p d s known =
    kept-if (FitsTask t) w (is_accessor_descriptor d) (unmap args p) (value_defined args p d d.value) (unmap-kept t takes w args p s) (value-kept t takes w args p d d.value s known.value)

define_by-kept : (w : World) (o : ObjectId) (k : PropKey) (d : Descriptor) (p : Option Parameter) → IsSound w → IsObject w.lists o → IsKnownKey w.lists k → IsKnownDescriptor w.lists d → is_array (kind w.lists o) ≡ false →
    IsKept (FitsTask (Of (Define o k d))) (define_by o k d p) w
define_by-kept w o k d None s there key known other = define-kept w o k d s there key known other
define_by-kept w o k d (Some p) s there key known other =
    let e : Descriptor = new_arg_desc w.lists p d in
    let u : World = changed (Defining o k e) w in
    let su : IsSound u = sound-defining w o k e s there key (new_arg_desc-known w p d s known) (no_array-leaves w.lists o k e.value other) in
    kept-if (FitsTask (Of (Define o k d))) u (allows w.lists o k e) (parameter_defined o p d) (done (flag false))
    (defined-kept (Of (Define o k d)) (λ l b. (tt, tt)) u o p d su (descriptor-later w.lists u.lists (grows-changed (Defining o k e) w) d known)) (su, (tt, tt))

-- ---- [[Get]]

get_by-kept : (w : World) (o : ObjectId) (site : Option SiteId) (k : PropKey) (r : Value) (p : Option Parameter) → IsSound w → IsObject w.lists o → IsKnownKey w.lists k → IsKnown w.lists r →
    IsKept (FitsTask (Of (Read o k r site))) (get_by o k r p) w
get_by-kept w o site k r None s there key receiver = get-kept w o site k r s there key receiver
get_by-kept w o site k r (Some p) s there key receiver = (s, (tt, parameter-known w p s))

-- ---- [[Set]]

set_ordinary-kept : (w : World) (o : ObjectId) (k : PropKey) (v r : Value) (site : Option SiteId) → IsSound w → IsObject w.lists o → IsKnownKey w.lists k → IsKnown w.lists v → IsKnown w.lists r →
    IsKept (FitsTask (Of (Write o k v r site))) (set_ordinary o k v r) w
set_ordinary-kept w o k v r site s there key known receiver =
    subst (λ p. IsKept (FitsTask (Of (Write o k v r site))) p w) (sym (same_descriptor w.lists (mapped w.lists o k) (own w.lists o k) (proto w.lists o) k v r)) (set-kept w o k v r site s there key known receiver)

set_by-kept : (w : World) (o : ObjectId) (k : PropKey) (v r : Value) (site : Option SiteId) (p : Option Parameter) → IsSound w → IsObject w.lists o → IsKnownKey w.lists k → IsKnown w.lists v → IsKnown w.lists r →
    IsKept (FitsTask (Of (Write o k v r site))) (set_by o k v r p) w
set_by-kept w o k v r site None s there key known receiver = set_ordinary-kept w o k v r site s there key known receiver
set_by-kept w o k v r site (Some p) s there key known receiver =
    let u : World = changed (SettingCell p.cell v) w in
    let g = grows-changed (SettingCell p.cell v) w in
    set_ordinary-kept u o k v r site (sound-cell_set w p.cell v s known) (object-later w.lists u.lists g o there) (key-later w.lists u.lists g k key) (known-later w.lists u.lists g v known) (known-later w.lists u.lists g r receiver)

-- ---- [[Delete]]

delete_by-kept : (w : World) (o : ObjectId) (k : PropKey) (p : Option Parameter) → IsSound w → IsKept (FitsTask (Of (Delete o k))) (delete_by o k p) w
delete_by-kept w o k None s = delete-kept w o k s
delete_by-kept w o k (Some p) s =
    let u : World = changed (Deleting o k) w in
    let su : IsSound u = sound-deleting w o k s in
    kept-if (FitsTask (Of (Delete o k))) u (deletes w.lists o k) (unmap o p) (done (flag false)) (unmap-kept (Of (Delete o k)) (λ l b. (tt, tt)) u o p su) (su, (tt, tt))

-- ---- every request

no-array : (k : ObjectKind) → is_arguments k ≡ true → is_array k ≡ false
no-array (kind_of.Arguments cells) e = refl
no-array kind_of.Array e = absurd (true≢false (sym e))
no-array kind_of.Ordinary e = refl
no-array (kind_of.Function function constructor strict) e = refl
no-array (kind_of.Builtin row constructor proxy) e = refl
no-array (kind_of.Text t) e = refl
no-array (kind_of.Wrapper v) e = refl
no-array kind_of.Error e = refl
no-array (kind_of.Proxy target handler callable constructor) e = refl

no-proxy : (k : ObjectKind) → is_arguments k ≡ true → is_proxy k ≡ false
no-proxy (kind_of.Arguments cells) e = refl
no-proxy (kind_of.Proxy target handler callable constructor) e = absurd (true≢false (sym e))
no-proxy kind_of.Array e = refl
no-proxy kind_of.Ordinary e = refl
no-proxy (kind_of.Function function constructor strict) e = refl
no-proxy (kind_of.Builtin row constructor proxy) e = refl
no-proxy (kind_of.Text t) e = refl
no-proxy (kind_of.Wrapper v) e = refl
no-proxy kind_of.Error e = refl

pub arguments_kept : (q : Request) (w : World) → IsSound w → IsKnownRequest w.lists q → IsForArguments w.lists q → KeepsFor (Of q) (arguments_program q) w
arguments_kept (GetOwn o k) w s h p = (s, (tt, own_property-known w o k s h.0))
arguments_kept (Define o k d) w s h p = define_by-kept w o k d (mapped w.lists o k) s h.0 h.1 h.2 (no-array (kind w.lists o) p)
arguments_kept (Has o k) w s h p = has-kept w o k s h.0 h.1
arguments_kept (Read o k r site) w s h p = get_by-kept w o site k r (mapped w.lists o k) s h.0 h.1 h.2
arguments_kept (Write o k x r site) w s h p = set_by-kept w o k x r site (mapped_for w.lists o k r) s h.0 h.1 h.2 h.3
arguments_kept (Delete o k) w s h p = delete_by-kept w o k (mapped w.lists o k) s
arguments_kept (Keys o) w s h p = keys-kept w o s h
arguments_kept (Proto o) w s h p = get_proto-kept w o s h
arguments_kept (SetProto o v) w s h p = set_proto-kept w o v s h.0 h.1 (no-proxy (kind w.lists o) p)
arguments_kept (Extensible o) w s h p = extensible-kept w o s
arguments_kept (Prevent o) w s h p = prevent-kept w o s
arguments_kept (Call f this arguments) w s h p = (s, tt)
arguments_kept (Construct f arguments target) w s h p = (s, tt)
arguments_kept (Work operation operands) w s h p = (s, tt)
arguments_kept (Print line) w s h p = (s, tt)
