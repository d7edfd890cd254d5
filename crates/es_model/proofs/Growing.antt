-- No algorithm takes anything away, or gives an object another kind.
use Rattle.std.proofs.Common.{◌≡◌, ℕ, zero, suc, Bool, true, false, cond, Option, Some, None, List, [], ◌∷◌, ◌++◌, get_or, slice_get, refl, ap, ◌∙◌, arith, ◌&&◌}
use Rattle.std.specs.Prelude.{not}
use Rattle.std.specs.List.{list_any}
use Rattle.std.specs.Str.{bytes_eq}
use Rattle.std.proofs.Math.ListN.{set, get_or-append}
use Rattle.std.proofs.lemmas.List.{length-set, length-append}
use Rattle.std.proofs.lemmas.Option.{slice_get_within, slice_get-get_or, get_or_from_slice_get}
use Rattle.property_keys.specs.declared.identifiers.ObjectId.{ObjectId}
use Rattle.property_keys.specs.declared.identifiers.TextId.{TextId}
use Rattle.property_keys.specs.declared.keys.PropKey.{PropKey}
use Rattle.property_keys.specs.declared.values.Value.{Value}
use Rattle.property_keys.specs.Values.{same_value}
use Rattle.descriptors.specs.declared.property.Complete.{Complete}
use Rattle.descriptors.specs.declared.property.Complete.TheVariants as complete
use Rattle.descriptors.specs.declared.validation.Verdict.{Verdict}
use Rattle.descriptors.specs.declared.validation.Verdict.TheVariants as verdict
use Rattle.descriptors.specs.Validation.{is_configurable}
use Rattle.es_model.specs.declared.kinds.CellNo.{CellNo}
use Rattle.es_model.specs.declared.kinds.ObjectKind.{ObjectKind}
use Rattle.es_model.specs.declared.kinds.ObjectKind.TheVariants as kind_of
use Rattle.es_model.specs.Objects.{Object, object_at, no_object, new_object_of, is_proxy, revoked_kind, unmapped_kind}
use Rattle.es_model.specs.Events.{Origin, Made, MadePrototype}
use Rattle.es_model.specs.World.{Lists, World, own, proto, kind, extensible, definition, new_object}
use Rattle.es_model.specs.Changes.{Change, Defining, Storing, Deleting, SettingProto, Preventing, Making, Revoking, Unmapping, Interning, MakingSymbol, MakingCell, SettingCell, Constructing, Accessing, noted, with_objects, with_object, is_there, added, replaced, removed, applied, stored_at, deleted_at, prototype_noted, made, with_proto, same_proto, closed, with_kind, text_known, symbol_made, cell_made, cell_set, construction_noted, access_noted, changed, charged, printed_more}
use Rattle.es_model.specs.Grows.{Grows, fixed_kind}

pub grows_none : (l : Lists) → Grows l l
grows_none l = record { objects = omega arith; kinds = λ o b. refl; texts = λ i units h. h; symbols = omega arith; cells = omega arith }

pub grows_then : (a b c : Lists) → Grows a b → Grows b c → Grows a c
grows_then a b c p q = record {
  objects = let x = p.objects in let y = q.objects in omega arith;
  kinds = λ o h. q.kinds o (let x = p.objects in omega arith) ∙ p.kinds o h;
  texts = λ i units h. q.texts i units (p.texts i units h);
  symbols = let x = p.symbols in let y = q.symbols in omega arith;
  cells = let x = p.cells in let y = q.cells in omega arith;
}

grows-cond : (w a b : World) (t : Bool) → Grows w.lists a.lists → Grows w.lists b.lists → Grows w.lists (cond t a b).lists
grows-cond w a b true p q = p
grows-cond w a b false p q = q

kinds-set : (os : List Object) (i j : ℕ) (x : Object) → fixed_kind x.kind ≡ fixed_kind (get_or os i no_object).kind → fixed_kind (get_or (set os i x) j no_object).kind ≡ fixed_kind (get_or os j no_object).kind
kinds-set [] i j x e = refl
kinds-set (y ∷ os) zero zero x e = e
kinds-set (y ∷ os) zero (suc j) x e = refl
kinds-set (y ∷ os) (suc i) zero x e = refl
kinds-set (y ∷ os) (suc i) (suc j) x e = kinds-set os i j x e

pub grows-put : (w : World) (o : ObjectId) (x : Object) → fixed_kind x.kind ≡ fixed_kind (object_at w.lists.objects o).kind → Grows w.lists (with_object w o x).lists
grows-put w o x e = record {
  objects = let k = length-set w.lists.objects o.0 x in omega arith;
  kinds = λ q b. kinds-set w.lists.objects o.0 q.0 x e;
  texts = λ i units h. h;
  symbols = omega arith;
  cells = omega arith;
}

stays-append : (xs ys : List (List ℕ)) (i : ℕ) (x : List ℕ) → slice_get xs i ≡ Some x → slice_get (xs ++ ys) i ≡ Some x
stays-append xs ys i x h =
    let b = slice_get_within xs i x h in
    let n = length-append xs ys in
    slice_get-get_or (xs ++ ys) i x (omega arith) ∙ ap (λ t. Some t) (get_or-append xs ys x i b ∙ get_or_from_slice_get xs i x x h)

stays-interned : (known : Bool) (ts : List (List ℕ)) (units : List ℕ) (i : ℕ) (x : List ℕ) → slice_get ts i ≡ Some x → slice_get (cond known ts (ts ++ units ∷ [])) i ≡ Some x
stays-interned false ts units i x h = stays-append ts (units ∷ []) i x h
stays-interned true ts units i x h = h

grows-added : (w : World) (o : ObjectId) (k : PropKey) (c : Complete) → Grows w.lists (added w o k c).lists
unfolding added
grows-added w o k c = grows-put w o _ refl

grows-replaced : (w : World) (o : ObjectId) (k : PropKey) (old c : Complete) → Grows w.lists (replaced w o k old c).lists
unfolding replaced
grows-replaced w o k old c = grows-put w o _ refl

grows-removed : (w : World) (o : ObjectId) (k : PropKey) → Grows w.lists (removed w o k).lists
unfolding removed
grows-removed w o k = grows-put w o _ refl

grows-proto : (w : World) (o : ObjectId) (p : Option ObjectId) → Grows w.lists (with_proto w o p).lists
unfolding with_proto
grows-proto w o p = grows-put w o _ refl

grows-closed : (w : World) (o : ObjectId) → Grows w.lists (closed w o).lists
unfolding closed
grows-closed w o = grows-put w o _ refl

grows-kind : (w : World) (o : ObjectId) (k : ObjectKind) → fixed_kind k ≡ fixed_kind (kind w.lists o) → Grows w.lists (with_kind w o k).lists
unfolding with_kind
grows-kind w o k e = grows-put w o _ e

pub fixed-revoked : (k : ObjectKind) → fixed_kind (revoked_kind k) ≡ fixed_kind k
fixed-revoked kind_of.Ordinary = refl
fixed-revoked (kind_of.Function function constructor strict) = refl
fixed-revoked (kind_of.Builtin row constructor proxy) = refl
fixed-revoked kind_of.Array = refl
fixed-revoked (kind_of.Text t) = refl
fixed-revoked (kind_of.Wrapper v) = refl
fixed-revoked (kind_of.Arguments cells) = refl
fixed-revoked kind_of.Error = refl
fixed-revoked (kind_of.Proxy target handler callable constructor) = refl

pub fixed-unmapped : (k : ObjectKind) (i : ℕ) → fixed_kind (unmapped_kind k i) ≡ fixed_kind k
fixed-unmapped kind_of.Ordinary i = refl
fixed-unmapped (kind_of.Function function constructor strict) i = refl
fixed-unmapped (kind_of.Builtin row constructor proxy) i = refl
fixed-unmapped kind_of.Array i = refl
fixed-unmapped (kind_of.Text t) i = refl
fixed-unmapped (kind_of.Wrapper v) i = refl
fixed-unmapped (kind_of.Arguments cells) i = refl
fixed-unmapped kind_of.Error i = refl
fixed-unmapped (kind_of.Proxy target handler callable constructor) i = refl

grows-applied : (w : World) (o : ObjectId) (k : PropKey) (now : Option Complete) (v : Verdict) → Grows w.lists (applied w o k now v).lists
grows-applied w o k now verdict.Refuse = grows_none w.lists
grows-applied w o k now verdict.Keep = grows_none w.lists
grows-applied w o k None (verdict.Apply c) = grows-added w o k c
grows-applied w o k (Some old) (verdict.Apply c) = grows-replaced w o k old c

grows-stored : (w : World) (o : ObjectId) (k : PropKey) (v : Value) (now : Option Complete) → Grows w.lists (stored_at w o k v now).lists
grows-stored w o k v None = grows_none w.lists
grows-stored w o k v (Some (complete.Stored x flags)) =
    grows-cond w w (replaced w o k (complete.Stored x flags) (complete.Stored v flags)) (same_value v x) (grows_none w.lists) (grows-replaced w o k (complete.Stored x flags) (complete.Stored v flags))
grows-stored w o k v (Some (complete.Accessor get set e c)) = grows_none w.lists

grows-deleted : (w : World) (o : ObjectId) (k : PropKey) (now : Option Complete) → Grows w.lists (deleted_at w o k now).lists
grows-deleted w o k None = grows_none w.lists
grows-deleted w o k (Some c) = grows-cond w (removed w o k) w (is_configurable c) (grows-removed w o k) (grows_none w.lists)

grows-prototype : (w v : World) (p : Option ObjectId) → Grows w.lists v.lists → Grows w.lists (prototype_noted v p).lists
grows-prototype w v None h = h
grows-prototype w v (Some p) h = grows-cond w v (noted v (MadePrototype p)) (is_proxy (kind v.lists p)) h h

pub grows-last : (w : World) (x : Object) → Grows w.lists (with_objects w (w.lists.objects ++ x ∷ [])).lists
grows-last w x = record {
  objects = let n = length-append w.lists.objects (x ∷ []) in omega arith;
  kinds = λ o b. ap (λ (y : Object). fixed_kind y.kind) (get_or-append w.lists.objects (x ∷ []) no_object o.0 b);
  texts = λ i units h. h;
  symbols = omega arith;
  cells = omega arith;
}

grows-made : (w : World) (k : ObjectKind) (origin : Origin) (p : Option ObjectId) → Grows w.lists (made w k origin p).lists
unfolding made
grows-made w k origin p =
    let x : Object = new_object_of k p in
    let v : World = with_objects w (w.lists.objects ++ x ∷ []) in
    grows-cond w v (noted (prototype_noted v p) (Made (new_object w.lists) origin p)) (is_proxy k) (grows-last w x) (grows-prototype w v p (grows-last w x))

grows-text : (w : World) (units : List ℕ) → Grows w.lists (text_known w units).lists
unfolding text_known
grows-text w units = record { objects = omega arith; kinds = λ o b. refl; texts = λ i x h. stays-interned (list_any (bytes_eq units) w.lists.texts) w.lists.texts units i x h; symbols = omega arith; cells = omega arith }

grows-symbol : (w : World) (d : Option TextId) → Grows w.lists (symbol_made w d).lists
unfolding symbol_made
grows-symbol w d = record { objects = omega arith; kinds = λ o b. refl; texts = λ i x h. h; symbols = let n = length-append w.lists.symbols (d ∷ []) in omega arith; cells = omega arith }

grows-cell : (w : World) (v : Option Value) → Grows w.lists (cell_made w v).lists
unfolding cell_made
grows-cell w v = record { objects = omega arith; kinds = λ o b. refl; texts = λ i x h. h; symbols = omega arith; cells = let n = length-append w.lists.cells (v ∷ []) in omega arith }

grows-set : (w : World) (c : CellNo) (v : Value) → Grows w.lists (cell_set w c v).lists
unfolding cell_set
grows-set w c v = record { objects = omega arith; kinds = λ o b. refl; texts = λ i x h. h; symbols = omega arith; cells = let n = length-set w.lists.cells c.0 (Some v) in omega arith }

pub grows-changed : (op : Change) (w : World) → Grows w.lists (changed op w).lists
unfolding changed construction_noted access_noted
grows-changed (Defining o k d) w = grows-applied w o k (own w.lists o k) (definition w.lists o k d)
grows-changed (Storing o k v) w = grows-stored w o k v (own w.lists o k)
grows-changed (Deleting o k) w = grows-deleted w o k (own w.lists o k)
grows-changed (SettingProto o p) w =
    grows-cond w (with_proto w o p) w (is_there w.lists o && not (is_proxy (kind w.lists o)) && not (same_proto (proto w.lists o) p)) (grows-proto w o p) (grows_none w.lists)
grows-changed (Preventing o) w = grows-cond w (closed w o) w (extensible w.lists o) (grows-closed w o) (grows_none w.lists)
grows-changed (Making k origin p) w = grows-made w k origin p
grows-changed (Revoking o) w = grows-kind w o (revoked_kind (kind w.lists o)) (fixed-revoked (kind w.lists o))
grows-changed (Unmapping o i) w = grows-kind w o (unmapped_kind (kind w.lists o) i) (fixed-unmapped (kind w.lists o) i)
grows-changed (Interning text) w = grows-text w text
grows-changed (MakingSymbol d) w = grows-symbol w d
grows-changed (MakingCell v) w = grows-cell w v
grows-changed (SettingCell c v) w = grows-set w c v
grows-changed (Constructing f) w = grows_none w.lists
grows-changed (Accessing site way o k) w = grows_none w.lists

pub grows-charged : (w : World) (n : ℕ) → Grows w.lists (charged w n).lists
unfolding charged
grows-charged w n = grows_none w.lists

pub grows-printed : (w : World) (bytes : List ℕ) → Grows w.lists (printed_more w bytes).lists
unfolding printed_more
grows-printed w bytes = grows_none w.lists
