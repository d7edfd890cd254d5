-- The program of every request whose object has the ordinary methods keeps worlds sound.
use Rattle.std.proofs.Common.{◌≡◌, ◌&&◌, Bool, true, false, refl, sym, true≢false}
use Rattle.std.specs.Prelude.{not}
use Rattle.es_model.specs.declared.kinds.ObjectKind.{ObjectKind}
use Rattle.es_model.specs.declared.kinds.ObjectKind.TheVariants as kind_of
use Rattle.es_model.specs.declared.requests.Request.{Request}
use Rattle.es_model.specs.declared.requests.Request.TheVariants.{GetOwn, Define, Has, Read, Write, Delete, Keys, Proto, SetProto, Extensible, Prevent, Call, Construct, Work, Print}
use Rattle.es_model.specs.Objects.{is_array, is_proxy}
use Rattle.es_model.specs.World.{World, kind}
use Rattle.es_model.specs.Program.{Of}
use Rattle.es_model.specs.Fits.{IsKnownRequest}
use Rattle.es_model.specs.Sound.{IsSound}
use Rattle.ordinary_object.specs.Ordinary.{ordinary_program}
use Rattle.ordinary_object.specs.Serving.{is_ordinary, IsForOrdinary}
use Rattle.ordinary_object.proofs.KeptKeys.{keys-kept}
use Rattle.ordinary_object.proofs.KeptReads.{get_own-kept, get_proto-kept, extensible-kept, has-kept, get-kept}
use Rattle.ordinary_object.proofs.KeptWrites.{define-kept, delete-kept, prevent-kept, set-kept}
use Rattle.ordinary_object.proofs.KeptProtos.{set_proto-kept}
use Rattle.object_heap.specs.Turns.{KeepsFor}

no-proxy : (k : ObjectKind) → is_ordinary k ≡ true → is_proxy k ≡ false
no-proxy kind_of.Ordinary e = refl
no-proxy (kind_of.Function function constructor strict) e = refl
no-proxy (kind_of.Builtin row constructor proxy) e = refl
no-proxy kind_of.Array e = refl
no-proxy (kind_of.Text t) e = refl
no-proxy (kind_of.Wrapper v) e = refl
no-proxy (kind_of.Arguments cells) e = refl
no-proxy kind_of.Error e = refl
no-proxy (kind_of.Proxy target handler callable constructor) e = absurd (true≢false (sym e))

no-array : (ordinary array : Bool) → (ordinary && not array) ≡ true → array ≡ false
no-array ordinary false e = refl
no-array true true e = absurd (true≢false (sym e))
no-array false true e = absurd (true≢false (sym e))

pub ordinary_kept : (q : Request) (w : World) → IsSound w → IsKnownRequest w.lists q → IsForOrdinary w.lists q → KeepsFor (Of q) (ordinary_program q) w
ordinary_kept (GetOwn o k) w s h p = get_own-kept w o k s h.0
ordinary_kept (Define o k d) w s h p = define-kept w o k d s h.0 h.1 h.2 (no-array (is_ordinary (kind w.lists o)) (is_array (kind w.lists o)) p)
ordinary_kept (Has o k) w s h p = has-kept w o k s h.0 h.1
ordinary_kept (Read o k r site) w s h p = get-kept w o site k r s h.0 h.1 h.2
ordinary_kept (Write o k x r site) w s h p = set-kept w o k x r site s h.0 h.1 h.2 h.3
ordinary_kept (Delete o k) w s h p = delete-kept w o k s
ordinary_kept (Keys o) w s h p = keys-kept w o s h
ordinary_kept (Proto o) w s h p = get_proto-kept w o s h
ordinary_kept (SetProto o v) w s h p = set_proto-kept w o v s h.0 h.1 (no-proxy (kind w.lists o) p)
ordinary_kept (Extensible o) w s h p = extensible-kept w o s
ordinary_kept (Prevent o) w s h p = prevent-kept w o s
ordinary_kept (Call f this arguments) w s h p = (s, tt)
ordinary_kept (Construct f arguments target) w s h p = (s, tt)
ordinary_kept (Work operation operands) w s h p = (s, tt)
ordinary_kept (Print line) w s h p = (s, tt)
