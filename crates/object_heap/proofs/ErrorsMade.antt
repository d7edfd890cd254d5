-- A new error object with its message is what the changes of the model come to, since the name of the message is known to every heap.
use Rattle.std.proofs.Common.{◌≡◌, ℕ, zero, suc, arith, true, false, None, List, [], ◌∷◌, ◌++◌, length, get_or, refl, ap, sym, ◌∙◌, subst}
use Rattle.std.specs.Prelude.{codes}
use Rattle.std.proofs.Math.ListN.{set}
use Rattle.property_keys.specs.declared.identifiers.ObjectId.{ObjectId}
use Rattle.property_keys.specs.declared.identifiers.TextId.{TextId}
use Rattle.property_keys.specs.declared.keys.PropKey.{PropKey}
use Rattle.property_keys.specs.declared.keys.PropKey.TheVariants.{Name}
use Rattle.property_keys.specs.declared.values.Value.TheVariants as value
use Rattle.descriptors.specs.declared.property.Complete.{Complete}
use Rattle.descriptors.specs.declared.property.Complete.TheVariants as complete
use Rattle.descriptors.specs.Validation.{verdict_of}
use Rattle.es_model.specs.declared.kinds.ErrorKind.{ErrorKind}
use Rattle.es_model.specs.declared.kinds.ObjectKind.TheVariants as kind_of
use Rattle.es_model.specs.declared.start_texts.StartText.TheVariants as start_text
use Rattle.es_model.specs.StartTexts.{text_of}
use Rattle.es_model.specs.Objects.{new_object_of}
use Rattle.es_model.specs.Events.{OfError}
use Rattle.es_model.specs.World.{World, number_of, text_place, own, extensible}
use Rattle.es_model.specs.Changes.{Defining, changed, text_known, added, applied}
use Rattle.es_model.specs.programs.Errors.{error_proto, hidden}
use Rattle.object_heap.specs.Seen.{Seen, seen, seen_at, put_seen, seen_added, find_seen, no_seen}
use Rattle.object_heap.specs.Stands.{HeapView, StandsFor, Goes, goes_then}
use Rattle.object_heap.specs.Errors.{name_known, error_number, error_put, error_made}
use Rattle.object_heap.specs.Tables.{IsTable}
use Rattle.object_heap.proofs.Standing.{count-stands, texts-stand, own-stands, extensible-stands, find-new}
use Rattle.object_heap.proofs.Change.{goes-interned, goes-making, goes-added}
use Rattle.object_heap.proofs.TextNumbers.{message-stays}

abbrev pub message_key : PropKey
message_key = Name (text_of start_text.Message)

abbrev pub message_of : TextId → Complete
message_of t = complete.Stored (value.Text t) (record { writable = true; enumerable = false; configurable = true })

abbrev pub new_error : ErrorKind → Seen
new_error kind = seen (new_object_of kind_of.Error (error_proto kind))

at-end : (ss : List Seen) (s : Seen) (i : ℕ) → i ≡ length ss → get_or (ss ++ s ∷ []) i no_seen ≡ s
at-end [] s i e = rw e refl
at-end (y ∷ ss) s zero e = absurd (omega arith)
at-end (y ∷ ss) s (suc i) e = at-end ss s i (omega arith)

set-end : (ss : List Seen) (s x : Seen) (i : ℕ) → i ≡ length ss → set (ss ++ s ∷ []) i x ≡ ss ++ x ∷ []
set-end [] s x i e = rw e refl
set-end (y ∷ ss) s x zero e = absurd (omega arith)
set-end (y ∷ ss) s x (suc i) e = ap (λ xs. y ∷ xs) (set-end ss s x i (omega arith))

pub error-is : (heap : HeapView) (w : World) → StandsFor heap w → record { 0 = length heap.objects } ≡ error_number w
unfolding changed text_known
error-is heap w h = ap (λ n. record { 0 = n }) (count-stands heap w h)

name-is : (heap : HeapView) (w : World) → IsTable heap.texts → StandsFor heap w → number_of w.lists (codes "message") ≡ text_of start_text.Message
unfolding number_of
name-is heap w t h = ap (λ ts. record { 0 = text_place ts (codes "message") }) (sym (texts-stand heap w h)) ∙ ap (λ n. record { 0 = n }) t.message

-- the message is a new property of an object that takes properties
defined-is : (heap : HeapView) (w : World) (e : ObjectId) (text : TextId) (kind : ErrorKind) → StandsFor heap w → seen_at heap.objects e ≡ new_error kind →
    changed (Defining e message_key (hidden (value.Text text))) w ≡ added w e message_key (message_of text)
unfolding changed
defined-is heap w e text kind h is =
    let n : own w.lists e message_key ≡ None = sym (own-stands heap w e message_key h) ∙ ap (λ s. find_seen s message_key) is ∙ find-new kind_of.Error (error_proto kind) message_key in
    let x : extensible w.lists e ≡ true = sym (extensible-stands heap w e h) ∙ ap (λ (s : Seen). s.extensible) is in
    λ t. applied w e message_key (n t) (verdict_of (x t) (hidden (value.Text text)) (n t))

pub error-goes : (old new : HeapView) (kind : ErrorKind) (text : TextId) → IsTable old.texts → new ≡ record old { objects = old.objects ++ seen_added (new_error kind) message_key (message_of text) ∷ [] } →
    (w : World) → StandsFor old w → Goes old new w (error_made w kind text)
error-goes old new kind text table is w h =
    let s = new_error kind in
    let c = message_of text in
    let mid : HeapView = record old { objects = old.objects ++ s ∷ [] } in
    let e = error_number w in
    let named : Goes old old w (name_known w) = goes-interned old old (codes "message") (ap (λ ts. record old { texts = ts }) (sym (message-stays old.texts table))) w h in
    let put : Goes old mid (name_known w) (error_put w kind) = goes-making old mid kind_of.Error (error_proto kind) refl (name_known w) OfError named.stands in
    let n : e.0 ≡ length old.objects = sym (count-stands old (name_known w) named.stands) in
    let at : seen_at mid.objects e ≡ s = at-end old.objects s e.0 n in
    let none : find_seen (seen_at mid.objects e) message_key ≡ None = ap (λ x. find_seen x message_key) at ∙ find-new kind_of.Error (error_proto kind) message_key in
    let same : new ≡ record mid { objects = put_seen mid.objects e (seen_added (seen_at mid.objects e) message_key c) } =
    is ∙ ap (λ ss. record old { objects = ss }) (sym (ap (λ x. put_seen mid.objects e (seen_added x message_key c)) at ∙ set-end old.objects s (seen_added s message_key c) e.0 n)) in
    let more = goes-added mid new e message_key c none same (error_put w kind) put.stands in
    let key : error_made w kind text ≡ added (error_put w kind) e message_key c =
    ap (λ k. changed (Defining e (Name k) (hidden (value.Text text))) (error_put w kind)) (name-is old w table h) ∙ defined-is mid (error_put w kind) e text kind put.stands at in
    subst (λ v. Goes old new w v) (sym key) (goes_then old mid new w (error_put w kind) (added (error_put w kind) e message_key c) (goes_then old old mid w (name_known w) (error_put w kind) named put) more)
