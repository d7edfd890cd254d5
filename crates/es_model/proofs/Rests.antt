-- A change touches neither the turns, nor the script, nor what was printed.
use Rattle.std.proofs.Common.{◌≡◌, ℕ, ◌-◌, Bool, true, false, cond, Option, Some, None, List, [], ◌∷◌, ◌++◌, refl, ◌&&◌}
use Rattle.std.specs.Prelude.{not}
use Rattle.property_keys.specs.declared.identifiers.ObjectId.{ObjectId}
use Rattle.property_keys.specs.declared.keys.PropKey.{PropKey}
use Rattle.property_keys.specs.declared.values.Value.{Value}
use Rattle.property_keys.specs.Values.{same_value}
use Rattle.descriptors.specs.declared.property.Complete.{Complete}
use Rattle.descriptors.specs.declared.property.Complete.TheVariants as complete
use Rattle.descriptors.specs.declared.validation.Verdict.{Verdict}
use Rattle.descriptors.specs.declared.validation.Verdict.TheVariants as verdict
use Rattle.descriptors.specs.Validation.{is_configurable}
use Rattle.es_model.specs.declared.kinds.ObjectKind.{ObjectKind}
use Rattle.es_model.specs.Objects.{new_object_of, is_proxy, revoked_kind, unmapped_kind}
use Rattle.es_model.specs.Events.{Event, Origin, Made, MadePrototype}
use Rattle.es_model.specs.World.{World, own, proto, kind, extensible, definition, new_object}
use Rattle.es_model.specs.Changes.{Change, Defining, Storing, Deleting, SettingProto, Preventing, Making, Revoking, Unmapping, Interning, MakingSymbol, MakingCell, SettingCell, Constructing, Accessing, noted, with_objects, is_there, added, replaced, removed, applied, stored_at, deleted_at, prototype_noted, made, with_proto, same_proto, closed, with_kind, text_known, symbol_made, cell_made, cell_set, construction_noted, access_noted, changed, charged, printed_more}

pub record Leaves (w v : World) : Type 0 where
  pub turns : v.turns ≡ w.turns
  pub script : v.script ≡ w.script
  pub printed : v.printed ≡ w.printed

leaves : (w : World) → Leaves w w
leaves w = record { turns = refl; script = refl; printed = refl }

leaves-cond : (w a b : World) (t : Bool) → Leaves w a → Leaves w b → Leaves w (cond t a b)
leaves-cond w a b true p q = p
leaves-cond w a b false p q = q

leaves-added : (w : World) (o : ObjectId) (k : PropKey) (c : Complete) → Leaves w (added w o k c)
unfolding added
leaves-added w o k c = record { turns = refl; script = refl; printed = refl }

leaves-replaced : (w : World) (o : ObjectId) (k : PropKey) (old c : Complete) → Leaves w (replaced w o k old c)
unfolding replaced
leaves-replaced w o k old c = record { turns = refl; script = refl; printed = refl }

leaves-removed : (w : World) (o : ObjectId) (k : PropKey) → Leaves w (removed w o k)
unfolding removed
leaves-removed w o k = record { turns = refl; script = refl; printed = refl }

leaves-applied : (w : World) (o : ObjectId) (k : PropKey) (now : Option Complete) (v : Verdict) → Leaves w (applied w o k now v)
leaves-applied w o k now verdict.Refuse = leaves w
leaves-applied w o k now verdict.Keep = leaves w
leaves-applied w o k None (verdict.Apply c) = leaves-added w o k c
leaves-applied w o k (Some old) (verdict.Apply c) = leaves-replaced w o k old c

leaves-stored : (w : World) (o : ObjectId) (k : PropKey) (v : Value) (now : Option Complete) → Leaves w (stored_at w o k v now)
leaves-stored w o k v None = leaves w
leaves-stored w o k v (Some (complete.Stored x flags)) =
    leaves-cond w w (replaced w o k (complete.Stored x flags) (complete.Stored v flags)) (same_value v x) (leaves w) (leaves-replaced w o k (complete.Stored x flags) (complete.Stored v flags))
leaves-stored w o k v (Some (complete.Accessor get set e c)) = leaves w

leaves-deleted : (w : World) (o : ObjectId) (k : PropKey) (now : Option Complete) → Leaves w (deleted_at w o k now)
leaves-deleted w o k None = leaves w
leaves-deleted w o k (Some c) = leaves-cond w (removed w o k) w (is_configurable c) (leaves-removed w o k) (leaves w)

leaves-prototype : (w v : World) (p : Option ObjectId) → Leaves w v → Leaves w (prototype_noted v p)
leaves-prototype w v None h = h
leaves-prototype w v (Some p) h = leaves-cond w v (noted v (MadePrototype p)) (is_proxy (kind v.lists p)) h (record { turns = h.turns; script = h.script; printed = h.printed })

leaves-noted : (w v : World) (e : Event) → Leaves w v → Leaves w (noted v e)
leaves-noted w v e h = record { turns = h.turns; script = h.script; printed = h.printed }

leaves-made : (w : World) (k : ObjectKind) (origin : Origin) (p : Option ObjectId) → Leaves w (made w k origin p)
unfolding made
leaves-made w k origin p =
    let v : World = with_objects w (w.lists.objects ++ new_object_of k p ∷ []) in
    leaves-cond w v (noted (prototype_noted v p) (Made (new_object w.lists) origin p)) (is_proxy k)
    (record { turns = refl; script = refl; printed = refl })
    (leaves-noted w (prototype_noted v p) (Made (new_object w.lists) origin p) (leaves-prototype w v p (record { turns = refl; script = refl; printed = refl })))

leaves-proto : (w : World) (o : ObjectId) (p : Option ObjectId) → Leaves w (with_proto w o p)
unfolding with_proto
leaves-proto w o p = record { turns = refl; script = refl; printed = refl }

leaves-closed : (w : World) (o : ObjectId) → Leaves w (closed w o)
unfolding closed
leaves-closed w o = record { turns = refl; script = refl; printed = refl }

leaves-kind : (w : World) (o : ObjectId) (k : ObjectKind) → Leaves w (with_kind w o k)
unfolding with_kind
leaves-kind w o k = record { turns = refl; script = refl; printed = refl }

pub leaves-changed : (op : Change) (w : World) → Leaves w (changed op w)
unfolding changed text_known symbol_made cell_made cell_set construction_noted access_noted
leaves-changed (Defining o k d) w = leaves-applied w o k (own w.lists o k) (definition w.lists o k d)
leaves-changed (Storing o k v) w = leaves-stored w o k v (own w.lists o k)
leaves-changed (Deleting o k) w = leaves-deleted w o k (own w.lists o k)
leaves-changed (SettingProto o p) w =
    leaves-cond w (with_proto w o p) w (is_there w.lists o && not (is_proxy (kind w.lists o)) && not (same_proto (proto w.lists o) p)) (leaves-proto w o p) (leaves w)
leaves-changed (Preventing o) w = leaves-cond w (closed w o) w (extensible w.lists o) (leaves-closed w o) (leaves w)
leaves-changed (Making k origin p) w = leaves-made w k origin p
leaves-changed (Revoking o) w = leaves-kind w o (revoked_kind (kind w.lists o))
leaves-changed (Unmapping o i) w = leaves-kind w o (unmapped_kind (kind w.lists o) i)
leaves-changed (Interning text) w = record { turns = refl; script = refl; printed = refl }
leaves-changed (MakingSymbol d) w = record { turns = refl; script = refl; printed = refl }
leaves-changed (MakingCell v) w = record { turns = refl; script = refl; printed = refl }
leaves-changed (SettingCell c v) w = record { turns = refl; script = refl; printed = refl }
leaves-changed (Constructing f) w = record { turns = refl; script = refl; printed = refl }
leaves-changed (Accessing site way o k) w = record { turns = refl; script = refl; printed = refl }

pub charged-turns : (w : World) (n : ℕ) → (charged w n).turns ≡ w.turns - n
unfolding charged
charged-turns w n = refl

pub charged-script : (w : World) (n : ℕ) → (charged w n).script ≡ w.script
unfolding charged
charged-script w n = refl

pub printed-turns : (w : World) (bytes : List ℕ) → (printed_more w bytes).turns ≡ w.turns
unfolding printed_more
printed-turns w bytes = refl

pub printed-script : (w : World) (bytes : List ℕ) → (printed_more w bytes).script ≡ w.script
unfolding printed_more
printed-script w bytes = refl

pub charged-printed : (w : World) (n : ℕ) → (charged w n).printed ≡ w.printed
unfolding charged
charged-printed w n = refl

pub printed-more : (w : World) (bytes : List ℕ) → (printed_more w bytes).printed ≡ w.printed ++ bytes
unfolding printed_more
printed-more w bytes = refl
