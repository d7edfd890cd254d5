-- Changes keep worlds sound, where what they name is known. (SettingProto: see SoundCycles.)
use Rattle.std.proofs.Common.{◌≡◌, ℕ, Bool, true, false, cond, Option, Some, None, List, [], ◌∷◌, ◌++◌, IsTrue, refl, sym, subst}
use Rattle.std.specs.Prelude.{not, slice_set}
use Rattle.std.specs.List.{list_any}
use Rattle.std.specs.Str.{bytes_eq}
use Rattle.property_keys.specs.declared.identifiers.ObjectId.{ObjectId}
use Rattle.property_keys.specs.declared.identifiers.TextId.{TextId}
use Rattle.property_keys.specs.declared.keys.PropKey.{PropKey}
use Rattle.property_keys.specs.declared.values.Value.{Value}
use Rattle.property_keys.specs.Texts.{interned}
use Rattle.property_keys.specs.Values.{same_value}
use Rattle.descriptors.specs.declared.fields.Descriptor.{Descriptor}
use Rattle.descriptors.specs.declared.property.Complete.{Complete}
use Rattle.descriptors.specs.declared.property.Complete.TheVariants as complete
use Rattle.descriptors.specs.declared.validation.Verdict.{Verdict}
use Rattle.descriptors.specs.declared.validation.Verdict.TheVariants as verdict
use Rattle.descriptors.specs.Validation.{is_configurable}
use Rattle.es_model.specs.declared.kinds.CellNo.{CellNo}
use Rattle.es_model.specs.declared.kinds.ObjectKind.{ObjectKind}
use Rattle.es_tree.specs.declared.numbers.FunctionNo.{FunctionNo}
use Rattle.es_tree.specs.declared.numbers.SiteId.{SiteId}
use Rattle.es_model.specs.Objects.{Object, object_at, with_properties, add_property, replace_property, remove_property, same_key, new_object_of, is_array, is_proxy}
use Rattle.es_model.specs.Events.{Event, Origin, Way, Made, MadePrototype}
use Rattle.es_model.specs.World.{World, own, kind, extensible, definition, new_object}
use Rattle.es_model.specs.Changes.{Defining, Storing, Deleting, Preventing, Making, Interning, MakingSymbol, MakingCell, SettingCell, Constructing, Accessing, noted, with_objects, with_object, added, replaced, removed, applied, stored_at, deleted_at, prototype_noted, made, closed, text_known, symbol_made, cell_made, cell_set, construction_noted, access_noted, changed}
use Rattle.es_model.specs.Known.{IsObject, IsText, IfThere, IsKnown, IsKnownKey, IsKnownComplete, IsKnownProperty, IsKnownDescriptor}
use Rattle.es_model.specs.Sound.{IsKnownKind, IsLengthProperty, IsRightKind, IsShort, IsSound, length_key}
use Rattle.es_model.proofs.ArrayLengths.{same_key-eq, IsLengthVerdict, LeavesLength, length-added, length-removed, length-replaced, length-fixed, length-verdict}
use Rattle.es_model.proofs.Growing.{grows-put, grows-changed}
use Rattle.es_model.proofs.KnownLater.{all-map, there-map, known-later, text-later}
use Rattle.es_model.proofs.SoundReads.{own-known}
use Rattle.es_model.proofs.SoundPut.{chains-put, sound-put, sound-others}
use Rattle.es_model.proofs.SoundProperties.{all-cond, all-append, all-set, all-filter, known-replaced, distinct-replaced, distinct-filter, distinct-added, IsKnownVerdict, verdict-known}
use Rattle.es_model.proofs.SoundNew.{sound-new, one-each}

pub sound-noted : (w : World) (e : Event) → IsSound w → IsSound (noted w e)
sound-noted w e s = record { intact = s.intact; kinds = s.kinds; arrays = s.arrays }

pub sound-cond : (b : Bool) (v w : World) → IsSound v → IsSound w → IsSound (cond b v w)
sound-cond true v w h h' = h
sound-cond false v w h h' = h'

-- ---- properties

sound-added : (w : World) (o : ObjectId) (k : PropKey) (c : Complete) → IsSound w → IsKnownKey w.lists k → IsKnownComplete w.lists c → own w.lists o k ≡ None → IsSound (added w o k c)
unfolding added
sound-added w o k c s key known absent =
    let x : Object = object_at w.lists.objects o in
    let x' : Object = with_properties x (add_property x.properties k c) in
    sound-noted (with_object w o x') _ (sound-put w o x' s (grows-put w o x' refl) (chains-put w o x' refl s.intact.chains)
    (λ there. let old = s.intact.objects o there in
    (record { slots = old.slots; proto = old.proto; properties = all-append (IsKnownProperty w.lists) x.properties (record { key = k; complete = c }) (key, known) old.properties; distinct = distinct-added x.properties k c absent old.distinct }, s.kinds o there, λ array. length-added x.properties k c (length_key w.lists) (s.arrays o there array))))

-- what an Array object has under a key that is `length`
length-under : (w : World) (o : ObjectId) (k : PropKey) → IsObject w.lists o → IsSound w → IsTrue (is_array (kind w.lists o)) → IsTrue (same_key k (length_key w.lists)) → IsLengthProperty (own w.lists o k)
length-under w o k there s array same = subst (λ key. IsLengthProperty (own w.lists o key)) (sym (same_key-eq k (length_key w.lists) same)) (s.arrays o there array)

-- what a property is replaced by may stand for the length of an Array object
abbrev FitsLength : World → ObjectId → PropKey → Complete → Type 0
FitsLength w o k c = IsTrue (is_array (kind w.lists o)) → IsTrue (same_key k (length_key w.lists)) → IsLengthProperty (Some c)

sound-replaced : (w : World) (o : ObjectId) (k : PropKey) (before c : Complete) → IsSound w → IsKnownComplete w.lists c → FitsLength w o k c → IsSound (replaced w o k before c)
unfolding replaced
sound-replaced w o k before c s known fits =
    let x : Object = object_at w.lists.objects o in
    let x' : Object = with_properties x (replace_property x.properties k c) in
    sound-noted (with_object w o x') _ (sound-put w o x' s (grows-put w o x' refl) (chains-put w o x' refl s.intact.chains)
    (λ there. let old = s.intact.objects o there in
    (record { slots = old.slots; proto = old.proto; properties = known-replaced w.lists x.properties k c known old.properties; distinct = distinct-replaced x.properties k c old.distinct }, s.kinds o there, λ array. length-replaced x.properties k c (length_key w.lists) (fits array) (s.arrays o there array))))

sound-removed : (w : World) (o : ObjectId) (k : PropKey) (c : Complete) → IsSound w → own w.lists o k ≡ Some c → is_configurable c ≡ true → IsSound (removed w o k)
unfolding removed
sound-removed w o k c s e free =
    let x : Object = object_at w.lists.objects o in
    let x' : Object = with_properties x (remove_property x.properties k) in
    sound-noted (with_object w o x') _ (sound-put w o x' s (grows-put w o x' refl) (chains-put w o x' refl s.intact.chains)
    (λ there. let old = s.intact.objects o there in (
      record { slots = old.slots; proto = old.proto; properties = all-filter (IsKnownProperty w.lists) (λ p. not (same_key p.key k)) x.properties old.properties; distinct = distinct-filter (λ p. not (same_key p.key k)) x.properties old.distinct },
      s.kinds o there,
      λ array. length-removed x.properties k (length_key w.lists) (λ same. length-fixed (own w.lists o k) c (length-under w o k there s array same) e free) (s.arrays o there array),
    )))

sound-applied : (w : World) (o : ObjectId) (k : PropKey) (now : Option Complete) (v : Verdict) → IsSound w → IsKnownKey w.lists k → own w.lists o k ≡ now → IsKnownVerdict w.lists v →
    (IsTrue (is_array (kind w.lists o)) → IsTrue (same_key k (length_key w.lists)) → IsLengthVerdict v) → IsSound (applied w o k now v)
sound-applied w o k now verdict.Refuse s key e h fits = s
sound-applied w o k now verdict.Keep s key e h fits = s
sound-applied w o k None (verdict.Apply c) s key e h fits = sound-added w o k c s key h e
sound-applied w o k (Some before) (verdict.Apply c) s key e h fits = sound-replaced w o k before c s h fits

-- what a definition makes of the length of an Array object is one, where it leaves it
defines-length : (w : World) (o : ObjectId) (k : PropKey) (d : Descriptor) → IsSound w → IsObject w.lists o → LeavesLength w.lists o k d.value →
    IsTrue (is_array (kind w.lists o)) → IsTrue (same_key k (length_key w.lists)) → IsLengthVerdict (definition w.lists o k d)
defines-length w o k d s there leaves array same =
    length-verdict (extensible w.lists o) d (own w.lists o k) (length-under w o k there s array same) (leaves array same)

pub sound-defining : (w : World) (o : ObjectId) (k : PropKey) (d : Descriptor) → IsSound w → IsObject w.lists o → IsKnownKey w.lists k → IsKnownDescriptor w.lists d → LeavesLength w.lists o k d.value → IsSound (changed (Defining o k d) w)
unfolding changed
sound-defining w o k d s there key h leaves =
    sound-applied w o k (own w.lists o k) (definition w.lists o k d) s key refl (verdict-known w.lists (extensible w.lists o) d (own w.lists o k) h (own-known w o k s there)) (defines-length w o k d s there leaves)

sound-stored : (w : World) (o : ObjectId) (k : PropKey) (v : Value) (now : Option Complete) → IsSound w → IsKnown w.lists v → own w.lists o k ≡ now → IsObject w.lists o → LeavesLength w.lists o k (Some v) → IsSound (stored_at w o k v now)
sound-stored w o k v None s h e there leaves = s
sound-stored w o k v (Some (complete.Stored x flags)) s h e there leaves =
    sound-cond (same_value v x) w (replaced w o k (complete.Stored x flags) (complete.Stored v flags)) s (sound-replaced w o k (complete.Stored x flags) (complete.Stored v flags) s h
    (λ array same. (leaves array same, (subst IsLengthProperty e (length-under w o k there s array same)).1)))
sound-stored w o k v (Some (complete.Accessor get set enumerable configurable)) s h e there leaves = s

pub sound-storing : (w : World) (o : ObjectId) (k : PropKey) (v : Value) → IsSound w → IsKnown w.lists v → IsObject w.lists o → LeavesLength w.lists o k (Some v) → IsSound (changed (Storing o k v) w)
unfolding changed
sound-storing w o k v s h there leaves = sound-stored w o k v (own w.lists o k) s h refl there leaves

sound-where : (b : Bool) (v w : World) → (b ≡ true → IsSound v) → IsSound w → IsSound (cond b v w)
sound-where true v w h h' = h refl
sound-where false v w h h' = h'

sound-deleted : (w : World) (o : ObjectId) (k : PropKey) (now : Option Complete) → IsSound w → own w.lists o k ≡ now → IsSound (deleted_at w o k now)
sound-deleted w o k None s e = s
sound-deleted w o k (Some c) s e = sound-where (is_configurable c) (removed w o k) w (sound-removed w o k c s e) s

pub sound-deleting : (w : World) (o : ObjectId) (k : PropKey) → IsSound w → IsSound (changed (Deleting o k) w)
unfolding changed
sound-deleting w o k s = sound-deleted w o k (own w.lists o k) s refl

-- ---- objects

sound-closed : (w : World) (o : ObjectId) → IsSound w → IsSound (closed w o)
unfolding closed
sound-closed w o s =
    let x' : Object = record (object_at w.lists.objects o) { extensible = false } in
    sound-noted (with_object w o x') _ (sound-put w o x' s (grows-put w o x' refl) (chains-put w o x' refl s.intact.chains)
    (λ there. let old = s.intact.objects o there in (record { slots = old.slots; proto = old.proto; properties = old.properties; distinct = old.distinct }, s.kinds o there, s.arrays o there)))

pub sound-preventing : (w : World) (o : ObjectId) → IsSound w → IsSound (changed (Preventing o) w)
unfolding changed
sound-preventing w o s = sound-cond (extensible w.lists o) (closed w o) w (sound-closed w o s) s

sound-prototype : (w : World) (p : Option ObjectId) → IsSound w → IsSound (prototype_noted w p)
sound-prototype w None s = s
sound-prototype w (Some p) s = sound-cond (is_proxy (kind w.lists p)) w (noted w (MadePrototype p)) s (sound-noted w (MadePrototype p) s)

pub sound-making : (w : World) (k : ObjectKind) (origin : Origin) (p : Option ObjectId) → IsSound w → IsKnownKind w.lists k → IsRightKind w.script w.lists (new_object w.lists) k → IfThere (IsObject w.lists) p → is_array k ≡ false → IsSound (changed (Making k origin p) w)
unfolding changed made
sound-making w k origin p s slots right known other =
    let v : World = with_objects w (w.lists.objects ++ new_object_of k p ∷ []) in
    let new : IsSound v = sound-new w k p s slots right known other in
    sound-cond (is_proxy k) v (noted (prototype_noted v p) (Made (new_object w.lists) origin p)) new (sound-noted (prototype_noted v p) _ (sound-prototype v p new))

-- ---- texts, Symbols, cells

pub sound-interning : (w : World) (text : List ℕ) → IsSound w → IsShort text → IsSound (changed (Interning text) w)
unfolding changed text_known
sound-interning w text s short =
    let v : World = record w { lists = record w.lists { texts = interned w.lists.texts text } } in
    let g = grows-changed (Interning text) w in
    sound-others w v s g refl refl
    (all-map (IfThere (IsKnown w.lists)) (IfThere (IsKnown v.lists)) (there-map (IsKnown w.lists) (IsKnown v.lists) (known-later w.lists v.lists g)) w.lists.cells s.intact.cells)
    (all-map (IfThere (IsText w.lists)) (IfThere (IsText v.lists)) (there-map (IsText w.lists) (IsText v.lists) (text-later w.lists v.lists g)) w.lists.symbols s.intact.descriptions)
    (one-each w.lists.texts text s.intact.texts)
    (all-cond IsShort (list_any (bytes_eq text) w.lists.texts) w.lists.texts (w.lists.texts ++ text ∷ []) s.intact.lengths (all-append IsShort w.lists.texts text short s.intact.lengths))

pub sound-symbol : (w : World) (d : Option TextId) → IsSound w → IfThere (IsText w.lists) d → IsSound (changed (MakingSymbol d) w)
unfolding changed symbol_made
sound-symbol w d s h =
    let v : World = record w { lists = record w.lists { symbols = w.lists.symbols ++ d ∷ [] } } in
    let g = grows-changed (MakingSymbol d) w in
    sound-others w v s g refl refl
    (all-map (IfThere (IsKnown w.lists)) (IfThere (IsKnown v.lists)) (there-map (IsKnown w.lists) (IsKnown v.lists) (known-later w.lists v.lists g)) w.lists.cells s.intact.cells)
    (all-append (IfThere (IsText v.lists)) w.lists.symbols d h s.intact.descriptions) s.intact.texts s.intact.lengths

pub sound-cell : (w : World) (x : Option Value) → IsSound w → IfThere (IsKnown w.lists) x → IsSound (changed (MakingCell x) w)
unfolding changed cell_made
sound-cell w x s h =
    let v : World = record w { lists = record w.lists { cells = w.lists.cells ++ x ∷ [] } } in
    let g = grows-changed (MakingCell x) w in
    let f = there-map (IsKnown w.lists) (IsKnown v.lists) (known-later w.lists v.lists g) in
    sound-others w v s g refl refl
    (all-append (IfThere (IsKnown v.lists)) w.lists.cells x (f x h) (all-map (IfThere (IsKnown w.lists)) (IfThere (IsKnown v.lists)) f w.lists.cells s.intact.cells)) s.intact.descriptions s.intact.texts s.intact.lengths

pub sound-cell_set : (w : World) (c : CellNo) (x : Value) → IsSound w → IsKnown w.lists x → IsSound (changed (SettingCell c x) w)
unfolding changed cell_set
sound-cell_set w c x s h =
    let v : World = record w { lists = record w.lists { cells = slice_set w.lists.cells c.0 (Some x) } } in
    let g = grows-changed (SettingCell c x) w in
    let f = there-map (IsKnown w.lists) (IsKnown v.lists) (known-later w.lists v.lists g) in
    sound-others w v s g refl refl
    (all-set (IfThere (IsKnown v.lists)) w.lists.cells c.0 (Some x) (known-later w.lists v.lists g x h) (all-map (IfThere (IsKnown w.lists)) (IfThere (IsKnown v.lists)) f w.lists.cells s.intact.cells)) s.intact.descriptions s.intact.texts s.intact.lengths

-- ---- events alone

pub sound-constructing : (w : World) (f : FunctionNo) → IsSound w → IsSound (changed (Constructing f) w)
unfolding changed construction_noted
sound-constructing w f s = sound-noted w _ s

pub sound-accessing : (w : World) (site : SiteId) (way : Way) (o : ObjectId) (k : PropKey) → IsSound w → IsSound (changed (Accessing site way o k) w)
unfolding changed access_noted
sound-accessing w site way o k s = sound-noted w _ s
