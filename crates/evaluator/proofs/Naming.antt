-- Names of functions are put together, over plain variables.
use Rattle.std.proofs.Common.{◌≡◌, ◌≤◌, ◌<◌, ℕ, Bool, true, false, Option, Some, None, List, [], ◌+◌, ◌++◌, length, length-append, nat_le, is_some, take, IfSome, sym, ◌∙◌, ap, arith, append_assoc, cond, refl}
use Rattle.std.proofs.lemmas.Bool.{false≢true}
use Rattle.std.proofs.lemmas.Bool.Decides.{nat_tests}
use Rattle.std.proofs.lemmas.List.{append-nil, length-take-le, take_all}
use Rattle.property_keys.specs.Limits.{most_units}
use Rattle.property_keys.specs.declared.identifiers.TextId.{TextId}
use Rattle.property_keys.specs.declared.keys.PropKey.{PropKey}
use Rattle.es_model.specs.declared.running.NamePrefix.{NamePrefix}
use Rattle.es_model.specs.Changes.{Interning, changed}
use Rattle.es_model.specs.Program.{intern}
use Rattle.es_model.specs.Stages.{stage_of}
use Rattle.es_model.specs.World.{World, number_of}
use Rattle.object_heap.specs.Stands.{HeapView, Goes, StandsFor}
use Rattle.evaluator.specs.Errors.{text_too_long}
use Rattle.evaluator.specs.Lists.{Appends}
use Rattle.evaluator.specs.Plans.{named_world}
use Rattle.evaluator.specs.Entering.{Makes}
use Rattle.evaluator.specs.Functions.{name_units, prefix_units, with_name}
use Rattle.evaluator.proofs.Joining.{text_stage}

-- nothing behind a text
pub appends_none : (a : List ℕ) (fits : Bool) → nat_le (length a) most_units ≡ fits → Appends a [] a fits
appends_none a fits h = record {
  limit = (let same : length a + 0 ≡ length a = omega arith in ap (λ n. nat_le n most_units) same ∙ h);
  units = λ e. sym (append-nil a);
}

-- some code units, and then others
pub appends_then : (a x b y c : List ℕ) (fits : Bool) → Appends a x b true → Appends b y c fits → Appends a (x ++ y) c fits
appends_then a x b y c fits p q =
    let made : b ≡ a ++ x = p.units refl in
    let same : length a + length (x ++ y) ≡ length b + length y = (let l = length-append x y in let m = ap length made in let k = length-append a x in omega arith) in record {
      limit = ap (λ n. nat_le n most_units) same ∙ q.limit;
      units = λ e. q.units e ∙ ap (λ l. l ++ y) made ∙ append_assoc a x y;
    }

-- where the first are too many, so are all
pub appends_stop : (a x b y c : List ℕ) → Appends a x b false → Appends a (x ++ y) c false
appends_stop a x b y c p = record {
  limit = (let l = length-append x y in let h = p.limit in grind (arith, nat_tests, l, h));
  units = λ e. absurd (false≢true e);
}

-- all of them are behind the others
pub appends_all : (a more b : List ℕ) (n : ℕ) (fits : Bool) → b ≡ a ++ take n more → length more ≤ n → nat_le (length b) most_units ≡ fits → Appends a more b fits
appends_all a more b n fits e past h =
    let made : b ≡ a ++ more = e ∙ ap (λ l. a ++ l) (take_all n more past) in
    let same : length a + length more ≡ length b = (let l = length-append a more in let m = ap length made in omega arith) in
    record { limit = ap (λ k. nat_le k most_units) same ∙ h; units = λ _. made }

-- so many of them fill the text, and more are left
pub appends_full : (a more b c : List ℕ) (n : ℕ) → b ≡ a ++ take n more → n < length more → length b ≡ most_units → Appends a more c false
appends_full a more b c n e left full =
    let some : length (take n more) ≡ n = length-take-le n more (omega arith) in
    let made : length b ≡ length a + length (take n more) = ap length e ∙ length-append a (take n more) in
    let over : most_units < length a + length more = omega arith in
    record { limit = grind (arith, nat_tests, over); units = λ is. absurd (false≢true is) }

-- ---- a name that a key gives, or none where it is too long

pub name_made : (a b : HeapView) (w : World) (before : NamePrefix) (k : PropKey) (x : Option TextId) →
    nat_le (length (prefix_units before ++ name_units w.lists k)) most_units ≡ is_some x → IfSome x (λ id. (v : World) → StandsFor a v → id ≡ number_of v.lists (prefix_units before ++ name_units v.lists k)) →
    Goes a b w (named_world w before k x) → StandsFor a w → Makes a b w (with_name before k) x
name_made a b w before k (Some id) fits number goes h = (
  changed (Interning (prefix_units before ++ name_units w.lists k)) w,
  goes,
  λ next. text_stage (prefix_units before ++ name_units w.lists k) next w id fits (number w h),
)
name_made a b w before k None long number goes h = (
  goes,
  λ next. ap (λ (c : Bool). stage_of (cond c (intern (prefix_units before ++ name_units w.lists k) next) text_too_long) w) long,
)
