-- What it means for one field that it stands there with the wanted value.
use Rattle.std.proofs.Common.{◌≡◌, Bool, true, false, not, ◌&&◌, Option, Some, None, refl, ap, unwrap_or, is_some}
use Rattle.std.specs.Bool.{beq, Decides}
use Rattle.property_keys.specs.declared.values.Value.{Value}
use Rattle.property_keys.specs.declared.values.Value.TheVariants as value
use Rattle.property_keys.specs.declared.identifiers.ObjectId.{ObjectId}
use Rattle.property_keys.specs.Values.{same_value}
use Rattle.property_keys.proofs.SameValues.{equal_from_same, same_itself, Decides-same_value}
use Rattle.descriptors.specs.Sameness.{differs, stands}
use Rattle.descriptors.specs.Kinds.{is_function_field}
use Rattle.descriptors.specs.Completion.{function_or, value_of_function}

-- a field that stands there replaces nothing
pub unwrap_or-stands : {A : Type 0} {same : A → A → Bool} → ((a b : A) → Decides (same a b) (a ≡ b)) → (field : Option A) (here : A)
    → stands same field (Some here) ≡ true → unwrap_or field here ≡ here
unwrap_or-stands decides None here e = refl
unwrap_or-stands decides (Some wanted) here e = (decides wanted here).0 e

pub stands-unwrap_or : {A : Type 0} {same : A → A → Bool} → ((a b : A) → Decides (same a b) (a ≡ b)) → (field : Option A) (here : A)
    → unwrap_or field here ≡ here → stands same field (Some here) ≡ true
stands-unwrap_or decides None here e = refl
stands-unwrap_or decides (Some wanted) here e = (decides wanted here).1 e

-- no field stands where there is none
pub is_some-stands : {A : Type 0} (same : A → A → Bool) (field : Option A) → stands same field None ≡ true → is_some field ≡ false
is_some-stands same None e = refl
is_some-stands same (Some wanted) e = cc

pub stands-absent : {A : Type 0} (same : A → A → Bool) (field here : Option A) → is_some field ≡ false → stands same field here ≡ true
stands-absent same None here e = refl
stands-absent same (Some wanted) here e = cc

pub differs-stands : {A : Type 0} (same : A → A → Bool) (field : Option A) (here : A)
    → stands same field (Some here) ≡ true → differs same field here ≡ false
differs-stands same None here e = refl
differs-stands same (Some wanted) here e = ap not e

pub stands-differs : {A : Type 0} (same : A → A → Bool) (field : Option A) (here : A)
    → differs same field here ≡ false → stands same field (Some here) ≡ true
stands-differs same None here e = refl
stands-differs same (Some wanted) here e = not_false (same wanted here) e
  where
    not_false : (b : Bool) → not b ≡ false → b ≡ true
    not_false true h = refl
    not_false false h = cc

-- a field that was made of the wanted one
pub stands-made : {A : Type 0} {same : A → A → Bool} → ((a b : A) → Decides (same a b) (a ≡ b)) → (field : Option A) (given : A)
    → stands same field (Some (unwrap_or field given)) ≡ true
stands-made decides None given = refl
stands-made decides (Some wanted) given = (decides wanted wanted).1 refl

-- ---- the same of a getter or setter

pub function_or-stands : (field : Option Value) (here : Option ObjectId)
    → stands same_value field (Some (value_of_function here)) ≡ true → function_or field here ≡ here
function_or-stands None here e = refl
function_or-stands (Some (value.Object id)) (Some here) e = let same = equal_from_same (value.Object id) (value.Object here) e in cc
function_or-stands (Some (value.Object id)) None e = cc
function_or-stands (Some value.Undefined) None e = refl
function_or-stands (Some value.Undefined) (Some here) e = cc
function_or-stands (Some wanted) None e = let same = equal_from_same wanted value.Undefined e in cc
function_or-stands (Some wanted) (Some here) e = let same = equal_from_same wanted (value.Object here) e in cc

pub stands-function_or : (field : Option Value) (here : Option ObjectId)
    → is_function_field field ≡ true → function_or field here ≡ here → stands same_value field (Some (value_of_function here)) ≡ true
stands-function_or None here h e = refl
stands-function_or (Some value.Undefined) None h e = refl
stands-function_or (Some value.Undefined) (Some here) h e = cc
stands-function_or (Some (value.Object id)) None h e = cc
stands-function_or (Some (value.Object id)) (Some here) h e =
    (Decides-same_value (value.Object id) (value.Object here)).1 (cc)
stands-function_or (Some other) here h e = cc

pub stands-made_function : (field : Option Value) (given : Option ObjectId)
    → is_function_field field ≡ true → stands same_value field (Some (value_of_function (function_or field given))) ≡ true
stands-made_function None given h = refl
stands-made_function (Some value.Undefined) given h = refl
stands-made_function (Some (value.Object id)) given h = same_itself (value.Object id)
stands-made_function (Some other) given h = cc

-- ---- flags

pub not_raised : (here : Bool) (field : Option Bool) → stands beq field (Some here) ≡ true → (not here && unwrap_or field false) ≡ false
not_raised true field h = refl
not_raised false None h = refl
not_raised false (Some false) h = refl
not_raised false (Some true) h = cc

-- a flag that is down and is not to be raised
pub stands_down : (field : Option Bool) → unwrap_or field false ≡ false → stands beq field (Some false) ≡ true
stands_down None h = refl
stands_down (Some false) h = refl
stands_down (Some true) h = cc
