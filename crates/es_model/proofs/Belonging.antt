-- What a frame keeps stays there while lists grow.
use Rattle.std.proofs.Common.{ap, ◌∙◌, arith, subst, sym}
use Rattle.property_keys.specs.declared.identifiers.SymbolId.{SymbolId}
use Rattle.es_model.specs.declared.answers.Reply.{Reply}
use Rattle.es_model.specs.declared.answers.Reply.TheVariants as reply
use Rattle.es_model.specs.Completions.{Completion, Normal, Break, Continue, Return, Throw}
use Rattle.es_model.specs.World.{Lists}
use Rattle.es_model.specs.Changes.{changed}
use Rattle.es_model.specs.Outcomes.{world_of}
use Rattle.es_model.specs.Servers.{Programs, model_by}
use Rattle.es_model.specs.Grows.{Grows}
use Rattle.es_model.specs.Known.{IsObject, IsSymbol, IsKnown, IsKnownKey, IsKnownComplete}
use Rattle.es_model.specs.Fits.{IsKnownReply}
use Rattle.es_model.specs.Fits.{IsKnownCompletion}
use Rattle.es_model.specs.Belongs.{FrameName, NamesObject, NamesKind, NamesValue, NamesKey, NamesProperty, NamesDescriptor, NamesCompletion, NamesText, NamesSymbol, NamesCell, NamesNode, NamesFunction, NamesSite, NamesTop, HasName, HasNames, NamesStay, ChangesKeepNames, KeepsNames}
use Rattle.es_model.proofs.Growing.{grows-changed}
use Rattle.es_model.proofs.Carried.{model-grows, model-script}
use Rattle.es_model.proofs.Rests.{leaves-changed}
use Rattle.es_tree.specs.Tree.{Tree}
use Rattle.es_model.proofs.KnownLater.{all-map, there-map, object-later, text-later, cell-later, known-later, key-later, complete-later, descriptor-later}

symbol-later : (l l' : Lists) → Grows l l' → (s : SymbolId) → IsSymbol l s → IsSymbol l' s
symbol-later l l' g s b = let x = g.symbols in omega arith

pub reply-later : (l l' : Lists) → Grows l l' → (r : Reply) → IsKnownReply l r → IsKnownReply l' r
reply-later l l' g (reply.Value v) h = known-later l l' g v h
reply-later l l' g (reply.Flag b) h = tt
reply-later l l' g (reply.Property c) h = there-map (IsKnownComplete l) (IsKnownComplete l') (complete-later l l' g) c h
reply-later l l' g (reply.Keys ks) h = all-map (IsKnownKey l) (IsKnownKey l') (key-later l l' g) ks h
reply-later l l' g (reply.Key k) h = key-later l l' g k h
reply-later l l' g (reply.Proto p) h = there-map (IsObject l) (IsObject l') (object-later l l' g) p h
reply-later l l' g (reply.List vs) h = all-map (IsKnown l) (IsKnown l') (known-later l l' g) vs h
reply-later l l' g (reply.Wanted d) h = descriptor-later l l' g d h

completion-later : (l l' : Lists) → Grows l l' → (c : Completion) → IsKnownCompletion l c → IsKnownCompletion l' c
completion-later l l' g (Normal r) h = reply-later l l' g r h
completion-later l l' g Break h = tt
completion-later l l' g Continue h = tt
completion-later l l' g (Return v) h = known-later l l' g v h
completion-later l l' g (Throw v) h = known-later l l' g v h

name-later : (script : Tree) (l l' : Lists) → Grows l l' → (name : FrameName) → HasName script l name → HasName script l' name
name-later script l l' g (NamesObject o) h = object-later l l' g o h
name-later script l l' g (NamesKind o test) h = (object-later l l' g o h.0, ap test (g.kinds o h.0) ∙ h.1)
name-later script l l' g (NamesValue v) h = known-later l l' g v h
name-later script l l' g (NamesKey k) h = key-later l l' g k h
name-later script l l' g (NamesProperty c) h = complete-later l l' g c h
name-later script l l' g (NamesDescriptor d) h = descriptor-later l l' g d h
name-later script l l' g (NamesCompletion c) h = completion-later l l' g c h
name-later script l l' g (NamesText t) h = text-later l l' g t h
name-later script l l' g (NamesSymbol s) h = symbol-later l l' g s h
name-later script l l' g (NamesCell c) h = cell-later l l' g c h
name-later script l l' g (NamesNode n) h = h
name-later script l l' g (NamesFunction f) h = h
name-later script l l' g (NamesSite s) h = h
name-later script l l' g NamesTop h = let x = g.cells in omega arith

pub names-stay : NamesStay
names-stay script names l l' g h = all-map (HasName script l) (HasName script l') (name-later script l l' g) names h

pub changes-keep_names : ChangesKeepNames
changes-keep_names names op w h =
    subst (λ script. HasNames script (changed op w).lists names) (sym (leaves-changed op w).script) (names-stay w.script names w.lists (changed op w).lists (grows-changed op w) h)

pub model-keeps_names : (programs : Programs) → KeepsNames (model_by programs)
model-keeps_names programs names n t w h =
    let v = world_of (model_by programs n t w) in
    subst (λ script. HasNames script v.lists names) (sym (model-script programs n t w)) (names-stay w.script names w.lists v.lists (model-grows programs n t w) h)
