-- What follows a question by one of the words of ReturnIfAbrupt.
use Rattle.std.proofs.Common.{◌≡◌, Bool, Option, Some, None, List, refl}
use Rattle.std.specs.List.{AllByRecursion}
use Rattle.property_keys.specs.declared.identifiers.ObjectId.{ObjectId}
use Rattle.property_keys.specs.declared.keys.PropKey.{PropKey}
use Rattle.property_keys.specs.declared.values.Value.{Value}
use Rattle.property_keys.specs.declared.values.Value.TheVariants as value
use Rattle.descriptors.specs.declared.fields.Descriptor.{Descriptor}
use Rattle.descriptors.specs.declared.property.Complete.{Complete}
use Rattle.es_model.specs.declared.answers.Reply.{Reply}
use Rattle.es_model.specs.declared.answers.Reply.TheVariants as reply
use Rattle.es_model.specs.declared.requests.Request.{Request}
use Rattle.es_model.specs.Completions.{Completion, Normal, Break, Continue, Return, Throw}
use Rattle.es_model.specs.World.{Lists, World}
use Rattle.es_model.specs.Program.{Program, Task}
use Rattle.es_model.proofs.SoundErrors.{throw-fits}
use Rattle.es_model.specs.programs.Abrupt.{value_in, property_in, keys_in, key_in, proto_in, list_in, wanted_in, fitting, taken, go_on}
use Rattle.es_model.specs.Known.{IsObject, IfThere, IsKnown, IsKnownKey, IsKnownComplete, IsKnownDescriptor, AreKnown}
use Rattle.es_model.specs.Fits.{Fits, FitsRequest, IsKnownReply, IsKnownCompletion}
use Rattle.es_model.specs.Sound.{IsSound}
use Rattle.es_model.specs.Kept.{FitsTask, IsKept}

fitting-kept : {A : Type 0} (P : Lists → Completion → Type 0) (w : World) (next : A → Program) (found : Option A) → IsSound w → P w.lists (Throw value.Undefined) → ((x : A) → found ≡ Some x → IsKept P (next x) w) → IsKept P (go_on next (fitting found)) w
fitting-kept P w next (Some x) s u h = h x refl
fitting-kept P w next None s u h = (s, u)

-- after a question
pub answer-kept : {A : Type 0} (started : Task) (q : Request) (w : World) (kind : Reply → Option A) (next : A → Program) (c : Completion) → IsSound w → Fits w.lists q c →
    ((r : Reply) (x : A) → kind r ≡ Some x → FitsRequest q r × IsKnownReply w.lists r → IsKept (FitsTask started) (next x) w) → IsKept (FitsTask started) (go_on next (taken kind c)) w
answer-kept started q w kind next (Normal r) s fit h = fitting-kept (FitsTask started) w next (kind r) s (throw-fits started w.lists value.Undefined tt) (λ x e. h r x e fit)
answer-kept started q w kind next Break s fit h = absurd fit
answer-kept started q w kind next Continue s fit h = absurd fit
answer-kept started q w kind next (Return v) s fit h = absurd fit
answer-kept started q w kind next (Throw v) s fit h = (s, throw-fits started w.lists v fit)

-- after a part of a running body, whose end may be the end
pub part-kept : {A : Type 0} (P : Lists → Completion → Type 0) (w : World) (kind : Reply → Option A) (next : A → Program) (c : Completion) → ((d : Completion) → IsKnownCompletion w.lists d → P w.lists d) → IsSound w → IsKnownCompletion w.lists c →
    ((r : Reply) (x : A) → kind r ≡ Some x → IsKnownReply w.lists r → IsKept P (next x) w) → IsKept P (go_on next (taken kind c)) w
part-kept P w kind next (Normal r) all s known h = fitting-kept P w next (kind r) s (all (Throw value.Undefined) tt) (λ x e. h r x e known)
part-kept P w kind next Break all s known h = (s, all Break known)
part-kept P w kind next Continue all s known h = (s, all Continue known)
part-kept P w kind next (Return v) all s known h = (s, all (Return v) known)
part-kept P w kind next (Throw v) all s known h = (s, all (Throw v) known)

-- ---- what is taken from a known reply is known

each-reply : (M : Reply → Type 0) → ((v : Value) → M (reply.Value v)) → ((b : Bool) → M (reply.Flag b)) → ((c : Option Complete) → M (reply.Property c)) → ((ks : List PropKey) → M (reply.Keys ks)) → ((k : PropKey) → M (reply.Key k)) →
    ((p : Option ObjectId) → M (reply.Proto p)) → ((vs : List Value) → M (reply.List vs)) → ((d : Descriptor) → M (reply.Wanted d)) → (r : Reply) → M r
each-reply M v b c ks k p vs d (reply.Value x) = v x
each-reply M v b c ks k p vs d (reply.Flag x) = b x
each-reply M v b c ks k p vs d (reply.Property x) = c x
each-reply M v b c ks k p vs d (reply.Keys x) = ks x
each-reply M v b c ks k p vs d (reply.Key x) = k x
each-reply M v b c ks k p vs d (reply.Proto x) = p x
each-reply M v b c ks k p vs d (reply.List x) = vs x
each-reply M v b c ks k p vs d (reply.Wanted x) = d x

pub value-there : (l : Lists) (r : Reply) → IsKnownReply l r → IfThere (IsKnown l) (value_in r)
value-there l r = each-reply (λ x. IsKnownReply l x → IfThere (IsKnown l) (value_in x)) (λ x h. h) (λ x h. tt) (λ x h. tt) (λ x h. tt) (λ x h. tt) (λ x h. tt) (λ x h. tt) (λ x h. tt) r

pub property-there : (l : Lists) (r : Reply) → IsKnownReply l r → IfThere (IfThere (IsKnownComplete l)) (property_in r)
property-there l r = each-reply (λ x. IsKnownReply l x → IfThere (IfThere (IsKnownComplete l)) (property_in x)) (λ x h. tt) (λ x h. tt) (λ x h. h) (λ x h. tt) (λ x h. tt) (λ x h. tt) (λ x h. tt) (λ x h. tt) r

pub keys-there : (l : Lists) (r : Reply) → IsKnownReply l r → IfThere (AllByRecursion (IsKnownKey l)) (keys_in r)
keys-there l r = each-reply (λ x. IsKnownReply l x → IfThere (AllByRecursion (IsKnownKey l)) (keys_in x)) (λ x h. tt) (λ x h. tt) (λ x h. tt) (λ x h. h) (λ x h. tt) (λ x h. tt) (λ x h. tt) (λ x h. tt) r

pub key-there : (l : Lists) (r : Reply) → IsKnownReply l r → IfThere (IsKnownKey l) (key_in r)
key-there l r = each-reply (λ x. IsKnownReply l x → IfThere (IsKnownKey l) (key_in x)) (λ x h. tt) (λ x h. tt) (λ x h. tt) (λ x h. tt) (λ x h. h) (λ x h. tt) (λ x h. tt) (λ x h. tt) r

pub proto-there : (l : Lists) (r : Reply) → IsKnownReply l r → IfThere (IfThere (IsObject l)) (proto_in r)
proto-there l r = each-reply (λ x. IsKnownReply l x → IfThere (IfThere (IsObject l)) (proto_in x)) (λ x h. tt) (λ x h. tt) (λ x h. tt) (λ x h. tt) (λ x h. tt) (λ x h. h) (λ x h. tt) (λ x h. tt) r

pub list-there : (l : Lists) (r : Reply) → IsKnownReply l r → IfThere (AreKnown l) (list_in r)
list-there l r = each-reply (λ x. IsKnownReply l x → IfThere (AreKnown l) (list_in x)) (λ x h. tt) (λ x h. tt) (λ x h. tt) (λ x h. tt) (λ x h. tt) (λ x h. tt) (λ x h. h) (λ x h. tt) r

pub wanted-there : (l : Lists) (r : Reply) → IsKnownReply l r → IfThere (IsKnownDescriptor l) (wanted_in r)
wanted-there l r = each-reply (λ x. IsKnownReply l x → IfThere (IsKnownDescriptor l) (wanted_in x)) (λ x h. tt) (λ x h. tt) (λ x h. tt) (λ x h. tt) (λ x h. tt) (λ x h. tt) (λ x h. tt) (λ x h. h) r
