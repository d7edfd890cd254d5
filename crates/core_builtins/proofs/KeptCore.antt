-- The programs of the built-in functions keep worlds sound.
use Rattle.std.proofs.Common.{ℕ, ℤ, pos, Bool, true, false, Option, Some, None, List, [], ◌∷◌, slice_get, refl, subst, arith}
use Rattle.std.proofs.lemmas.Int.{ints}
use Rattle.std.proofs.lemmas.List.{length-append}
use Rattle.std.specs.Prelude.{codes, nat_abs}
use Rattle.property_keys.specs.declared.identifiers.ObjectId.{ObjectId}
use Rattle.property_keys.specs.declared.identifiers.SymbolId.{SymbolId}
use Rattle.property_keys.specs.declared.identifiers.TextId.{TextId}
use Rattle.property_keys.specs.declared.keys.PropKey.TheVariants.{Name}
use Rattle.property_keys.specs.declared.values.Value.{Value}
use Rattle.property_keys.specs.declared.values.Value.TheVariants as value
use Rattle.property_keys.specs.Wholes.{IsWhole}
use Rattle.es_model.specs.declared.builtin_functions.BuiltinFunction.{BuiltinFunction}
use Rattle.es_model.specs.declared.builtin_functions.BuiltinFunction.TheVariants as function
use Rattle.es_model.specs.declared.intrinsics.Class.{Class}
use Rattle.es_model.specs.declared.intrinsics.Class.TheVariants as class
use Rattle.es_model.specs.declared.intrinsics.Intrinsic.{Intrinsic}
use Rattle.es_model.specs.declared.intrinsics.Intrinsic.TheVariants as intrinsic
use Rattle.es_model.specs.declared.kinds.ErrorKind.{ErrorKind}
use Rattle.es_model.specs.declared.kinds.ErrorKind.TheVariants as error
use Rattle.es_model.specs.declared.requests.Operation.TheVariants as operation
use Rattle.es_model.specs.declared.requests.Request.{Request}
use Rattle.es_model.specs.declared.requests.Request.TheVariants.{GetOwn, Define, Has, Read, Write, Delete, Keys, Proto, SetProto, Extensible, Prevent, Call, Construct, Work, Print}
use Rattle.es_model.specs.Changes.{MakingSymbol, changed, symbol_made as making_symbol}
use Rattle.es_model.specs.Completions.{Completion}
use Rattle.es_model.specs.Fits.{IsKnownRequest}
use Rattle.es_model.specs.Kept.{FitsTask, IsKept}
use Rattle.es_model.specs.Known.{AreKnown, IfThere, IsKnown, IsObject, IsSymbol, IsText}
use Rattle.es_model.specs.Program.{Of, Program, Task, ask, done, intern}
use Rattle.es_model.specs.Sound.{IsSound}
use Rattle.es_model.specs.StartWorld.{all_intrinsics}
use Rattle.es_model.specs.World.{Lists, World, description, kind, new_symbol, number_of}
use Rattle.es_model.specs.programs.Converting.{to_number}
use Rattle.es_model.specs.programs.Errors.{not_a_function, throw_error, unfit}
use Rattle.es_model.specs.programs.Testing.{as_object, is_callable, is_truth}
use Rattle.es_model.specs.programs.Abrupt.{list_in}
use Rattle.es_model.specs.programs.Texts.{to_string}
use Rattle.es_model.proofs.Abrupt.{answer-kept, list-there}
use Rattle.es_model.proofs.ArrayLengths.{IsNoArray, no_array-later}
use Rattle.es_model.proofs.KnownLater.{known-later, object-later, text-later}
use Rattle.es_model.proofs.SharedKept.{IsNumberAnswer, flag-kept, get_named-kept, has_named-kept, not_function-kept, not_object-kept, then_whole-kept, to_number-kept, value-kept}
use Rattle.es_model.proofs.SoundChanges.{sound-symbol}
use Rattle.es_model.proofs.SoundErrors.{error-kept, kept-if, throw-fits}
use Rattle.object_heap.specs.Turns.{KeepsFor}
use Rattle.function_objects.proofs.Constructed.{prototype_kept}
use Rattle.core_builtins.specs.Answers.{first_given, first_of, gives, gives_text, gives_joined, inner_value, rest_of, second_of, three_joined}
use Rattle.core_builtins.specs.Booleans.{boolean_text, gives_boolean, with_boolean}
use Rattle.core_builtins.specs.Constructed.{create_wrapper, wrapper_given, wrapper_made}
use Rattle.core_builtins.specs.Core.{call_of, call_program, construct_of, constructor_called, constructor_constructed, core_program, function_called, intrinsic_called, intrinsic_constructed, prototype_called, row_called, row_of, row_constructed}
use Rattle.core_builtins.specs.Errors.{cause_by, cause_given, cause_had, cause_is_there, cause_put, error_constructed, error_given, error_made, install_cause, message_given, message_put, with_message}
use Rattle.core_builtins.specs.ErrorTexts.{message_asked, message_got, message_text_given, name_got, name_text_given, shown, shown_by, text_of_error, with_colon, with_message_text, with_name_text}
use Rattle.core_builtins.specs.Functions.{gives_flag, apply_with, call_with, list_given}
use Rattle.core_builtins.specs.Numbers.{gives_number, number_called_by, number_constructed_by, number_given, number_to_wrap, with_number, wrap_number}
use Rattle.core_builtins.specs.Radices.{is_radix, radix_given, radix_text, radix_units, with_radix}
use Rattle.core_builtins.specs.Symbols.{described, description_given, description_value, descriptive_of, descriptive_string, gives_description, gives_symbol, symbol_made, symbol_of, with_description, with_symbol}
use Rattle.core_builtins.proofs.RadixDigits.{radix-short}
use Rattle.core_builtins.proofs.KeptWords.{OnText, TakesObject, TakesValue, description-known, first-known, first_given-known, inner-known, intern-kept, join-kept, make_error-kept, put_named-kept, rest-known, second-known, then_text-kept, to_string-kept, wrapper_made-kept, wrong-kept}

unfit-kept : (t : Task) (w : World) → IsSound w → IsKept (FitsTask t) unfit w
unfit-kept t w s = (s, throw-fits t w.lists value.Undefined tt)

-- ---- Boolean and Number objects

create_wrapper-kept : (t : Task) → TakesObject t → (w : World) (c : Class) (v : Value) (target : ObjectId) → IsSound w → IsKnown w.lists v → IsObject w.lists target → IsKept (FitsTask t) (create_wrapper c v target) w
unfolding create_wrapper
create_wrapper-kept t takes w c v target s known there =
    get_named-kept (FitsTask t) w target (codes "prototype") (wrapper_given c v target) s there (omega arith) refl (λ d u su l fit.
    prototype_kept (FitsTask t) u (Read target (Name (number_of w.lists (codes "prototype"))) (value.Object target) None) c target (wrapper_made v) done d su fit
    (λ p x sx m p-there. wrapper_made-kept t takes x v p sx (known-later u.lists x.lists m.lists v (known-later w.lists u.lists l.lists v known)) p-there)
    (λ e x sx m e-known. (sx, throw-fits t x.lists e e-known)))

-- ---- Boolean

with_boolean-kept : (t : Task) (w : World) (next : Bool → Program) (v : Value) → IsSound w → ((b : Bool) → IsKept (FitsTask t) (next b) w) → IsKept (FitsTask t) (with_boolean next v) w
with_boolean-kept t w next value.Undefined s h = wrong-kept t w s
with_boolean-kept t w next value.Null s h = wrong-kept t w s
with_boolean-kept t w next (value.Bool b) s h = h b
with_boolean-kept t w next (value.Whole n) s h = wrong-kept t w s
with_boolean-kept t w next (value.Text x) s h = wrong-kept t w s
with_boolean-kept t w next (value.Symbol x) s h = wrong-kept t w s
with_boolean-kept t w next (value.Object o) s h = wrong-kept t w s

boolean_text-kept : (t : Task) → TakesValue t → (w : World) (b : Bool) → IsSound w → IsKept (FitsTask t) (boolean_text b) w
boolean_text-kept t takes w true s = intern-kept t w (codes "true") (λ x. gives (value.Text x)) s (omega arith) (λ x u su l known. (su, takes u.lists (value.Text x) known))
boolean_text-kept t takes w false s = intern-kept t w (codes "false") (λ x. gives (value.Text x)) s (omega arith) (λ x u su l known. (su, takes u.lists (value.Text x) known))

-- ---- Number

with_number-kept : (t : Task) (w : World) (next : ℤ → Program) (v : Value) → IsSound w → IsKnown w.lists v → ((n : ℤ) → IsWhole n → IsKept (FitsTask t) (next n) w) → IsKept (FitsTask t) (with_number next v) w
with_number-kept t w next value.Undefined s known h = wrong-kept t w s
with_number-kept t w next value.Null s known h = wrong-kept t w s
with_number-kept t w next (value.Bool b) s known h = wrong-kept t w s
with_number-kept t w next (value.Whole n) s known h = h n known
with_number-kept t w next (value.Text x) s known h = wrong-kept t w s
with_number-kept t w next (value.Symbol x) s known h = wrong-kept t w s
with_number-kept t w next (value.Object o) s known h = wrong-kept t w s

number_given-kept : (t : Task) → TakesValue t → (w : World) (c : Completion) → IsSound w → IsNumberAnswer w.lists c → IsKept (FitsTask t) (number_given c) w
number_given-kept t takes w c s fit = then_whole-kept t w gives_number c s fit (λ n whole. (s, takes w.lists (value.Whole n) whole))

zero-whole : IsWhole (pos 0)
zero-whole = (omega (arith, ints), omega (arith, ints))

number_called-kept : (t : Task) → TakesValue t → (w : World) (v : Option Value) → IsSound w → IfThere (IsKnown w.lists) v → IsKept (FitsTask t) (number_called_by v) w
number_called-kept t takes w None s known = (s, takes w.lists (value.Whole (pos 0)) zero-whole)
number_called-kept t takes w (Some v) s known = to_number-kept (FitsTask t) w v number_given s known (λ c u su l fit. number_given-kept t takes u c su fit)

number_constructed-kept : (t : Task) → TakesObject t → (w : World) (target : ObjectId) (v : Option Value) → IsSound w → IfThere (IsKnown w.lists) v → IsObject w.lists target → IsKept (FitsTask t) (number_constructed_by target v) w
number_constructed-kept t takes w target None s known there = create_wrapper-kept t takes w class.Number (value.Whole (pos 0)) target s zero-whole there
number_constructed-kept t takes w target (Some v) s known there =
    to_number-kept (FitsTask t) w v (number_to_wrap target) s known (λ c u su l fit.
    then_whole-kept t u (wrap_number target) c su fit (λ n whole. create_wrapper-kept t takes u class.Number (value.Whole n) target su whole (object-later w.lists u.lists l.lists target there)))

radix_text-kept : (t : Task) → TakesValue t → (w : World) (x radix : ℤ) → IsSound w → IsKept (FitsTask t) (radix_text x radix) w
radix_text-kept t takes w x radix s =
    kept-if (FitsTask t) w (is_radix radix) (gives_text (radix_units (nat_abs radix) x)) (throw_error error.RangeError (codes "invalid radix"))
    (intern-kept t w (radix_units (nat_abs radix) x) (λ y. gives (value.Text y)) s (radix-short (nat_abs radix) x) (λ y u su l known. (su, takes u.lists (value.Text y) known)))
    (error-kept t w error.RangeError (codes "invalid radix") s (omega arith))

asked_radix-kept : (t : Task) → TakesValue t → (w : World) (v : Value) (x : ℤ) → IsSound w → IsKnown w.lists v → IsKept (FitsTask t) (to_number v (radix_given x)) w
asked_radix-kept t takes w v x s known =
    to_number-kept (FitsTask t) w v (radix_given x) s known (λ c u su l fit. then_whole-kept t u (radix_text x) c su fit (λ n whole. radix_text-kept t takes u x n su))

with_radix-kept : (t : Task) → TakesValue t → (w : World) (v : Value) (x : ℤ) → IsSound w → IsKnown w.lists v → IsKept (FitsTask t) (with_radix v x) w
with_radix-kept t takes w value.Undefined x s known = radix_text-kept t takes w x (pos 10) s
with_radix-kept t takes w value.Null x s known = asked_radix-kept t takes w value.Null x s known
with_radix-kept t takes w (value.Bool b) x s known = asked_radix-kept t takes w (value.Bool b) x s known
with_radix-kept t takes w (value.Whole n) x s known = asked_radix-kept t takes w (value.Whole n) x s known
with_radix-kept t takes w (value.Text y) x s known = asked_radix-kept t takes w (value.Text y) x s known
with_radix-kept t takes w (value.Symbol y) x s known = asked_radix-kept t takes w (value.Symbol y) x s known
with_radix-kept t takes w (value.Object o) x s known = asked_radix-kept t takes w (value.Object o) x s known

-- ---- Symbol

symbol-there : (w : World) (d : Option TextId) → IsSymbol (changed (MakingSymbol d) w).lists (new_symbol w.lists)
unfolding changed making_symbol
symbol-there w d = let n = length-append w.lists.symbols (d ∷ []) in omega arith

symbol_made-kept : (t : Task) → TakesValue t → (w : World) (d : Option TextId) → IsSound w → IfThere (IsText w.lists) d → IsKept (FitsTask t) (symbol_made d) w
symbol_made-kept t takes w d s known =
    (sound-symbol w d s known, takes (changed (MakingSymbol d) w).lists (value.Symbol (new_symbol w.lists)) (symbol-there w d))

asked-symbol : (t : Task) → TakesValue t → (w : World) (v : Value) → IsSound w → IsKnown w.lists v → IsKept (FitsTask t) (to_string v description_given) w
asked-symbol t takes w v s known = to_string-kept t w v description_given s known (λ c u su l fit. then_text-kept t u described c su fit (λ x there. symbol_made-kept t takes u (Some x) su there))

symbol_of-kept : (t : Task) → TakesValue t → (w : World) (v : Value) → IsSound w → IsKnown w.lists v → IsKept (FitsTask t) (symbol_of v) w
symbol_of-kept t takes w value.Undefined s known = symbol_made-kept t takes w None s tt
symbol_of-kept t takes w value.Null s known = asked-symbol t takes w value.Null s known
symbol_of-kept t takes w (value.Bool b) s known = asked-symbol t takes w (value.Bool b) s known
symbol_of-kept t takes w (value.Whole n) s known = asked-symbol t takes w (value.Whole n) s known
symbol_of-kept t takes w (value.Text x) s known = asked-symbol t takes w (value.Text x) s known
symbol_of-kept t takes w (value.Symbol x) s known = asked-symbol t takes w (value.Symbol x) s known
symbol_of-kept t takes w (value.Object o) s known = asked-symbol t takes w (value.Object o) s known

with_symbol-kept : (t : Task) (w : World) (next : SymbolId → Program) (v : Value) → IsSound w → IsKnown w.lists v → ((x : SymbolId) → IsSymbol w.lists x → IsKept (FitsTask t) (next x) w) → IsKept (FitsTask t) (with_symbol next v) w
with_symbol-kept t w next value.Undefined s known h = wrong-kept t w s
with_symbol-kept t w next value.Null s known h = wrong-kept t w s
with_symbol-kept t w next (value.Bool b) s known h = wrong-kept t w s
with_symbol-kept t w next (value.Whole n) s known h = wrong-kept t w s
with_symbol-kept t w next (value.Text x) s known h = wrong-kept t w s
with_symbol-kept t w next (value.Symbol x) s known h = h x known
with_symbol-kept t w next (value.Object o) s known h = wrong-kept t w s

description_value-kept : (t : Task) → TakesValue t → (w : World) (d : Option TextId) → IsSound w → IfThere (IsText w.lists) d → IsKept (FitsTask t) (gives (description_value d)) w
description_value-kept t takes w None s known = (s, takes w.lists value.Undefined tt)
description_value-kept t takes w (Some x) s known = (s, takes w.lists (value.Text x) known)

-- a text that is the answer
text-kept : (t : Task) → TakesValue t → (w : World) → OnText t w (λ x. gives (value.Text x))
text-kept t takes w = λ x u su l known. (su, takes u.lists (value.Text x) known)

three_joined-kept : (t : Task) → TakesValue t → (w : World) (x y z : TextId) → IsSound w → IsKept (FitsTask t) (three_joined x y z) w
three_joined-kept t takes w x y z s =
    join-kept t w x y (λ start. gives_joined start z) s (λ start u su l known. join-kept t u start z (λ whole. gives (value.Text whole)) su (text-kept t takes u))

descriptive_of-kept : (t : Task) → TakesValue t → (w : World) (x : TextId) → IsSound w → IsKept (FitsTask t) (descriptive_of x) w
descriptive_of-kept t takes w x s =
    intern-kept t w (codes "Symbol(") (λ a. intern (codes ")") (λ e. three_joined a x e)) s (omega arith) (λ a u su l known.
    intern-kept t u (codes ")") (λ e. three_joined a x e) su (omega arith) (λ e v sv m there. three_joined-kept t takes v a x e sv))

with_description-kept : (t : Task) → TakesValue t → (w : World) (d : Option TextId) → IsSound w → IsKept (FitsTask t) (with_description d descriptive_of) w
with_description-kept t takes w None s = intern-kept t w [] descriptive_of s (omega arith) (λ x u su l known. descriptive_of-kept t takes u x su)
with_description-kept t takes w (Some x) s = descriptive_of-kept t takes w x s

-- ---- Function

-- the function's own answer is the answer
call_with-kept : (g this : Value) (vs : List Value) (w : World) (f receiver : Value) (list : List Value) → IsSound w → IsKnown w.lists f → IsKnown w.lists receiver → AreKnown w.lists list →
    IsKept (FitsTask (Of (Call g this vs))) (call_with f receiver list) w
call_with-kept g this vs w f receiver list s fk rk lk = (s, (fk, rk, lk), λ c u su l fit. (su, fit))

apply_list-kept : (g this : Value) (vs : List Value) (w : World) (f receiver list : Value) → IsSound w → IsKnown w.lists f → IsKnown w.lists receiver → IsKnown w.lists list →
    IsKept (FitsTask (Of (Call g this vs))) (ask (Work operation.ListFromArrayLike (list ∷ [])) (list_given f receiver)) w
apply_list-kept g this vs w f receiver list s fk rk lk = (
  s,
  (refl, (lk, tt)),
  λ c u su l fit. answer-kept (Of (Call g this vs)) (Work operation.ListFromArrayLike (list ∷ [])) u list_in (call_with f receiver) c su fit (λ r xs e k.
      call_with-kept g this vs u f receiver xs su (known-later w.lists u.lists l.lists f fk) (known-later w.lists u.lists l.lists receiver rk)
      (subst (IfThere (AreKnown u.lists)) e (list-there u.lists r k.1))),
)

apply_with-kept : (g this : Value) (vs : List Value) (w : World) (f receiver list : Value) → IsSound w → IsKnown w.lists f → IsKnown w.lists receiver → IsKnown w.lists list →
    IsKept (FitsTask (Of (Call g this vs))) (apply_with f receiver list) w
apply_with-kept g this vs w f receiver value.Undefined s fk rk lk = call_with-kept g this vs w f receiver [] s fk rk tt
apply_with-kept g this vs w f receiver value.Null s fk rk lk = call_with-kept g this vs w f receiver [] s fk rk tt
apply_with-kept g this vs w f receiver (value.Bool b) s fk rk lk = apply_list-kept g this vs w f receiver (value.Bool b) s fk rk lk
apply_with-kept g this vs w f receiver (value.Whole n) s fk rk lk = apply_list-kept g this vs w f receiver (value.Whole n) s fk rk lk
apply_with-kept g this vs w f receiver (value.Text x) s fk rk lk = apply_list-kept g this vs w f receiver (value.Text x) s fk rk lk
apply_with-kept g this vs w f receiver (value.Symbol x) s fk rk lk = apply_list-kept g this vs w f receiver (value.Symbol x) s fk rk lk
apply_with-kept g this vs w f receiver (value.Object o) s fk rk lk = apply_list-kept g this vs w f receiver (value.Object o) s fk rk lk

-- ---- Error

cause_put-kept : (t : Task) → TakesObject t → (w : World) (e : ObjectId) (v : Value) → IsSound w → IsNoArray w.lists e → IsKnown w.lists v → IsKept (FitsTask t) (cause_put e v) w
cause_put-kept t takes w e v s plain known =
    put_named-kept t w e (codes "cause") v (gives (value.Object e)) s plain known (omega arith) refl (λ u su l. (su, takes u.lists e (no_array-later w.lists u.lists l.lists e plain).there))

cause_is_there-kept : (t : Task) → TakesObject t → (w : World) (e options : ObjectId) (b : Bool) → IsSound w → IsNoArray w.lists e → IsObject w.lists options → IsKept (FitsTask t) (cause_is_there e options b) w
cause_is_there-kept t takes w e options true s plain known =
    get_named-kept (FitsTask t) w options (codes "cause") (cause_given e) s known (omega arith) refl (λ c u su l fit.
    value-kept t (Read options (Name (number_of w.lists (codes "cause"))) (value.Object options) None) u (cause_put e) c su fit (λ v vk. cause_put-kept t takes u e v su (no_array-later w.lists u.lists l.lists e plain) vk))
cause_is_there-kept t takes w e options false s plain known = (s, takes w.lists e plain.there)

cause_by-kept : (t : Task) → TakesObject t → (w : World) (e : ObjectId) (options : Option ObjectId) → IsSound w → IsNoArray w.lists e → IfThere (IsObject w.lists) options → IsKept (FitsTask t) (cause_by e options) w
cause_by-kept t takes w e (Some options) s plain known =
    has_named-kept (FitsTask t) w options (codes "cause") (cause_had e options) s known (omega arith) refl (λ c u su l fit.
    flag-kept t (Has options (Name (number_of w.lists (codes "cause")))) u (cause_is_there e options) c su fit (λ b. cause_is_there-kept t takes u e options b su (no_array-later w.lists u.lists l.lists e plain) (object-later w.lists u.lists l.lists options known)))
cause_by-kept t takes w e None s plain known = (s, takes w.lists e plain.there)

as_object-known : (l : Lists) (v : Value) → IsKnown l v → IfThere (IsObject l) (as_object v)
as_object-known l value.Undefined known = tt
as_object-known l value.Null known = tt
as_object-known l (value.Bool b) known = tt
as_object-known l (value.Whole n) known = tt
as_object-known l (value.Text x) known = tt
as_object-known l (value.Symbol x) known = tt
as_object-known l (value.Object o) known = known

install_cause-kept : (t : Task) → TakesObject t → (w : World) (e : ObjectId) (options : Value) → IsSound w → IsNoArray w.lists e → IsKnown w.lists options → IsKept (FitsTask t) (install_cause e options) w
install_cause-kept t takes w e options s plain known = cause_by-kept t takes w e (as_object options) s plain (as_object-known w.lists options known)

message_put-kept : (t : Task) → TakesObject t → (w : World) (e : ObjectId) (options : Value) (x : TextId) → IsSound w → IsNoArray w.lists e → IsKnown w.lists options → IsText w.lists x → IsKept (FitsTask t) (message_put e options x) w
message_put-kept t takes w e options x s plain known text =
    put_named-kept t w e (codes "message") (value.Text x) (install_cause e options) s plain text (omega arith) refl (λ u su l.
    install_cause-kept t takes u e options su (no_array-later w.lists u.lists l.lists e plain) (known-later w.lists u.lists l.lists options known))

asked_message-kept : (t : Task) → TakesObject t → (w : World) (e : ObjectId) (message options : Value) → IsSound w → IsNoArray w.lists e → IsKnown w.lists message → IsKnown w.lists options →
    IsKept (FitsTask t) (to_string message (message_given e options)) w
asked_message-kept t takes w e message options s plain mk ok =
    to_string-kept t w message (message_given e options) s mk (λ c u su l fit. then_text-kept t u (message_put e options) c su fit (λ x text.
    message_put-kept t takes u e options x su (no_array-later w.lists u.lists l.lists e plain) (known-later w.lists u.lists l.lists options ok) text))

with_message-kept : (t : Task) → TakesObject t → (w : World) (e : ObjectId) (message options : Value) → IsSound w → IsNoArray w.lists e → IsKnown w.lists message → IsKnown w.lists options →
    IsKept (FitsTask t) (with_message e message options) w
with_message-kept t takes w e value.Undefined options s plain mk ok = install_cause-kept t takes w e options s plain ok
with_message-kept t takes w e value.Null options s plain mk ok = asked_message-kept t takes w e value.Null options s plain mk ok
with_message-kept t takes w e (value.Bool b) options s plain mk ok = asked_message-kept t takes w e (value.Bool b) options s plain mk ok
with_message-kept t takes w e (value.Whole n) options s plain mk ok = asked_message-kept t takes w e (value.Whole n) options s plain mk ok
with_message-kept t takes w e (value.Text x) options s plain mk ok = asked_message-kept t takes w e (value.Text x) options s plain mk ok
with_message-kept t takes w e (value.Symbol x) options s plain mk ok = asked_message-kept t takes w e (value.Symbol x) options s plain mk ok
with_message-kept t takes w e (value.Object o) options s plain mk ok = asked_message-kept t takes w e (value.Object o) options s plain mk ok

error_made-kept : (t : Task) → TakesObject t → (w : World) (message options : Value) (p : ObjectId) → IsSound w → IsKnown w.lists message → IsKnown w.lists options → IsObject w.lists p →
    IsKept (FitsTask t) (error_made message options p) w
error_made-kept t takes w message options p s mk ok there =
    make_error-kept t w p (λ e. with_message e message options) s there (λ e u su l plain.
    with_message-kept t takes u e message options su plain (known-later w.lists u.lists l.lists message mk) (known-later w.lists u.lists l.lists options ok))

error_constructed-kept : (t : Task) → TakesObject t → (w : World) (k : ErrorKind) (vs : List Value) (target : ObjectId) → IsSound w → AreKnown w.lists vs → IsObject w.lists target →
    IsKept (FitsTask t) (error_constructed k vs target) w
error_constructed-kept t takes w k vs target s known there =
    let message : Value = first_of vs in
    let options : Value = second_of vs in
    get_named-kept (FitsTask t) w target (codes "prototype") (error_given k target message options) s there (omega arith) refl (λ c u su l fit.
    prototype_kept (FitsTask t) u (Read target (Name (number_of w.lists (codes "prototype"))) (value.Object target) None) (class.Error k) target (error_made message options) done c su fit
    (λ p x sx m p-there. error_made-kept t takes x message options p sx
    (known-later u.lists x.lists m.lists message (known-later w.lists u.lists l.lists message (first-known w.lists vs known)))
    (known-later u.lists x.lists m.lists options (known-later w.lists u.lists l.lists options (second-known w.lists vs known))) p-there)
    (λ e x sx m e-known. (sx, throw-fits t x.lists e e-known)))

-- ---- Error.prototype.toString

with_colon-kept : (t : Task) → TakesValue t → (w : World) (name message : TextId) → IsSound w → IsKept (FitsTask t) (with_colon name message) w
with_colon-kept t takes w name message s =
    intern-kept t w (codes ": ") (λ colon. three_joined name colon message) s (omega arith) (λ colon u su l known. three_joined-kept t takes u name colon message su)

shown_by-kept : (t : Task) → TakesValue t → (w : World) (a b : Bool) (name message : TextId) → IsSound w → IsText w.lists name → IsText w.lists message → IsKept (FitsTask t) (shown_by a b name message) w
shown_by-kept t takes w false b name message s nk mk = (s, takes w.lists (value.Text message) mk)
shown_by-kept t takes w true false name message s nk mk = (s, takes w.lists (value.Text name) nk)
shown_by-kept t takes w true true name message s nk mk = with_colon-kept t takes w name message s

shown-kept : (t : Task) → TakesValue t → (w : World) (name message : TextId) → IsSound w → IsText w.lists name → IsText w.lists message → IsKept (FitsTask t) (shown name message) w
shown-kept t takes w name message s nk mk = shown_by-kept t takes w (is_truth w.lists (value.Text name)) (is_truth w.lists (value.Text message)) name message s nk mk

asked_shown-kept : (t : Task) → TakesValue t → (w : World) (name : TextId) (v : Value) → IsSound w → IsText w.lists name → IsKnown w.lists v → IsKept (FitsTask t) (to_string v (message_text_given name)) w
asked_shown-kept t takes w name v s nk vk =
    to_string-kept t w v (message_text_given name) s vk (λ c u su l fit. then_text-kept t u (shown name) c su fit (λ x known. shown-kept t takes u name x su (text-later w.lists u.lists l.lists name nk) known))

with_message_text-kept : (t : Task) → TakesValue t → (w : World) (name : TextId) (v : Value) → IsSound w → IsText w.lists name → IsKnown w.lists v → IsKept (FitsTask t) (with_message_text name v) w
with_message_text-kept t takes w name value.Undefined s nk vk = intern-kept t w [] (shown name) s (omega arith) (λ x u su l known. shown-kept t takes u name x su (text-later w.lists u.lists l.lists name nk) known)
with_message_text-kept t takes w name value.Null s nk vk = asked_shown-kept t takes w name value.Null s nk vk
with_message_text-kept t takes w name (value.Bool b) s nk vk = asked_shown-kept t takes w name (value.Bool b) s nk vk
with_message_text-kept t takes w name (value.Whole n) s nk vk = asked_shown-kept t takes w name (value.Whole n) s nk vk
with_message_text-kept t takes w name (value.Text x) s nk vk = asked_shown-kept t takes w name (value.Text x) s nk vk
with_message_text-kept t takes w name (value.Symbol x) s nk vk = asked_shown-kept t takes w name (value.Symbol x) s nk vk
with_message_text-kept t takes w name (value.Object o) s nk vk = asked_shown-kept t takes w name (value.Object o) s nk vk

message_asked-kept : (t : Task) → TakesValue t → (w : World) (o : ObjectId) (name : TextId) → IsSound w → IsObject w.lists o → IsText w.lists name → IsKept (FitsTask t) (message_asked o name) w
message_asked-kept t takes w o name s there nk =
    get_named-kept (FitsTask t) w o (codes "message") (message_got name) s there (omega arith) refl (λ c u su l fit.
    value-kept t (Read o (Name (number_of w.lists (codes "message"))) (value.Object o) None) u (with_message_text name) c su fit (λ v vk. with_message_text-kept t takes u name v su (text-later w.lists u.lists l.lists name nk) vk))

asked_name-kept : (t : Task) → TakesValue t → (w : World) (o : ObjectId) (v : Value) → IsSound w → IsObject w.lists o → IsKnown w.lists v → IsKept (FitsTask t) (to_string v (name_text_given o)) w
asked_name-kept t takes w o v s there vk =
    to_string-kept t w v (name_text_given o) s vk (λ c u su l fit. then_text-kept t u (message_asked o) c su fit (λ x known. message_asked-kept t takes u o x su (object-later w.lists u.lists l.lists o there) known))

with_name_text-kept : (t : Task) → TakesValue t → (w : World) (o : ObjectId) (v : Value) → IsSound w → IsObject w.lists o → IsKnown w.lists v → IsKept (FitsTask t) (with_name_text o v) w
with_name_text-kept t takes w o value.Undefined s there vk =
    intern-kept t w (codes "Error") (message_asked o) s (omega arith) (λ x u su l known. message_asked-kept t takes u o x su (object-later w.lists u.lists l.lists o there) known)
with_name_text-kept t takes w o value.Null s there vk = asked_name-kept t takes w o value.Null s there vk
with_name_text-kept t takes w o (value.Bool b) s there vk = asked_name-kept t takes w o (value.Bool b) s there vk
with_name_text-kept t takes w o (value.Whole n) s there vk = asked_name-kept t takes w o (value.Whole n) s there vk
with_name_text-kept t takes w o (value.Text x) s there vk = asked_name-kept t takes w o (value.Text x) s there vk
with_name_text-kept t takes w o (value.Symbol x) s there vk = asked_name-kept t takes w o (value.Symbol x) s there vk
with_name_text-kept t takes w o (value.Object p) s there vk = asked_name-kept t takes w o (value.Object p) s there vk

text_of_error-kept : (t : Task) → TakesValue t → (w : World) (o : Option ObjectId) → IsSound w → IfThere (IsObject w.lists) o → IsKept (FitsTask t) (text_of_error o) w
text_of_error-kept t takes w (Some o) s there =
    get_named-kept (FitsTask t) w o (codes "name") (name_got o) s there (omega arith) refl (λ c u su l fit.
    value-kept t (Read o (Name (number_of w.lists (codes "name"))) (value.Object o) None) u (with_name_text o) c su fit (λ v vk. with_name_text-kept t takes u o v su (object-later w.lists u.lists l.lists o there) vk))
text_of_error-kept t takes w None s there = not_object-kept t w s

-- ---- calls

takes_value : (g this : Value) (vs : List Value) → TakesValue (Of (Call g this vs))
takes_value g this vs l v known = (tt, known)

takes_object : (g this : Value) (vs : List Value) → TakesObject (Of (Call g this vs))
takes_object g this vs l o there = (tt, there)

constructor_called-kept : (g this : Value) (c : Class) (f : ObjectId) (vs : List Value) (w : World) → IsSound w → IsObject w.lists f → AreKnown w.lists vs → IsKept (FitsTask (Of (Call g this vs))) (constructor_called c f vs) w
constructor_called-kept g this class.Object f vs w s there known = unfit-kept (Of (Call g this vs)) w s
constructor_called-kept g this class.Function f vs w s there known = wrong-kept (Of (Call g this vs)) w s
constructor_called-kept g this class.Array f vs w s there known = unfit-kept (Of (Call g this vs)) w s
constructor_called-kept g this class.String f vs w s there known = unfit-kept (Of (Call g this vs)) w s
constructor_called-kept g this class.Number f vs w s there known = number_called-kept (Of (Call g this vs)) (takes_value g this vs) w (first_given vs) s (first_given-known w.lists vs known)
constructor_called-kept g this class.Boolean f vs w s there known = (s, (tt, tt))
constructor_called-kept g this class.Symbol f vs w s there known = symbol_of-kept (Of (Call g this vs)) (takes_value g this vs) w (first_of vs) s (first-known w.lists vs known)
constructor_called-kept g this (class.Error k) f vs w s there known = error_constructed-kept (Of (Call g this vs)) (takes_object g this vs) w k vs f s known there

prototype_called-kept : (g this : Value) (vs : List Value) (c : Class) (w : World) → IsSound w → IsKept (FitsTask (Of (Call g this vs))) (prototype_called c) w
prototype_called-kept g this vs class.Object w s = unfit-kept (Of (Call g this vs)) w s
prototype_called-kept g this vs class.Function w s = (s, (tt, tt))
prototype_called-kept g this vs class.Array w s = unfit-kept (Of (Call g this vs)) w s
prototype_called-kept g this vs class.String w s = unfit-kept (Of (Call g this vs)) w s
prototype_called-kept g this vs class.Number w s = unfit-kept (Of (Call g this vs)) w s
prototype_called-kept g this vs class.Boolean w s = unfit-kept (Of (Call g this vs)) w s
prototype_called-kept g this vs class.Symbol w s = unfit-kept (Of (Call g this vs)) w s
prototype_called-kept g this vs (class.Error k) w s = unfit-kept (Of (Call g this vs)) w s

symbol-given : (g this receiver : Value) (vs : List Value) (w : World) (next : SymbolId → Program) → IsSound w → IsKnown w.lists receiver → ((x : SymbolId) → IsSymbol w.lists x → IsKept (FitsTask (Of (Call g this vs))) (next x) w) →
    IsKept (FitsTask (Of (Call g this vs))) (with_symbol next (inner_value w.lists receiver)) w
symbol-given g this receiver vs w next s known h = with_symbol-kept (Of (Call g this vs)) w next (inner_value w.lists receiver) s (inner-known w receiver s known) h

function_called-kept : (g this : Value) (vs : List Value) (b : BuiltinFunction) (w : World) → IsSound w → IsKnown w.lists this → AreKnown w.lists vs → IsKept (FitsTask (Of (Call g this vs))) (function_called b this vs) w
function_called-kept g this vs function.FunctionCall w s rk known =
    kept-if (FitsTask (Of (Call g this vs))) w (is_callable w.lists this) (call_with this (first_of vs) (rest_of vs)) not_a_function
    (call_with-kept g this vs w this (first_of vs) (rest_of vs) s rk (first-known w.lists vs known) (rest-known w.lists vs known)) (not_function-kept (Of (Call g this vs)) w s)
function_called-kept g this vs function.FunctionApply w s rk known =
    kept-if (FitsTask (Of (Call g this vs))) w (is_callable w.lists this) (apply_with this (first_of vs) (second_of vs)) not_a_function
    (apply_with-kept g this vs w this (first_of vs) (second_of vs) s rk (first-known w.lists vs known) (second-known w.lists vs known)) (not_function-kept (Of (Call g this vs)) w s)
function_called-kept g this vs function.FunctionHasInstance w s rk known = (
  s,
  (refl, (rk, (first-known w.lists vs known, tt))),
  λ c u su l fit. flag-kept (Of (Call g this vs)) (Work operation.OrdinaryHasInstance (this ∷ first_of vs ∷ [])) u gives_flag c su fit (λ b. (su, (tt, tt))),
)
function_called-kept g this vs function.NumberToString w s rk known =
    with_number-kept (Of (Call g this vs)) w (with_radix (first_of vs)) (inner_value w.lists this) s (inner-known w this s rk) (λ n whole.
    with_radix-kept (Of (Call g this vs)) (takes_value g this vs) w (first_of vs) n s (first-known w.lists vs known))
function_called-kept g this vs function.NumberValueOf w s rk known =
    with_number-kept (Of (Call g this vs)) w gives_number (inner_value w.lists this) s (inner-known w this s rk) (λ n whole. (s, (tt, whole)))
function_called-kept g this vs function.BooleanToString w s rk known =
    with_boolean-kept (Of (Call g this vs)) w boolean_text (inner_value w.lists this) s (λ b. boolean_text-kept (Of (Call g this vs)) (takes_value g this vs) w b s)
function_called-kept g this vs function.BooleanValueOf w s rk known = with_boolean-kept (Of (Call g this vs)) w gives_boolean (inner_value w.lists this) s (λ b. (s, (tt, tt)))
function_called-kept g this vs function.SymbolToString w s rk known =
    symbol-given g this this vs w descriptive_string s rk (λ x there. with_description-kept (Of (Call g this vs)) (takes_value g this vs) w (description w.lists x) s)
function_called-kept g this vs function.SymbolValueOf w s rk known = symbol-given g this this vs w gives_symbol s rk (λ x there. (s, (tt, there)))
function_called-kept g this vs function.SymbolDescription w s rk known =
    symbol-given g this this vs w gives_description s rk (λ x there. description_value-kept (Of (Call g this vs)) (takes_value g this vs) w (description w.lists x) s (description-known w x s))
function_called-kept g this vs function.SymbolToPrimitive w s rk known = symbol-given g this this vs w gives_symbol s rk (λ x there. (s, (tt, there)))
function_called-kept g this vs function.ErrorToString w s rk known = text_of_error-kept (Of (Call g this vs)) (takes_value g this vs) w (as_object this) s (as_object-known w.lists this rk)

intrinsic_called-kept : (g this : Value) (vs : List Value) (i : Option Intrinsic) (f : ObjectId) (w : World) → IsSound w → IsObject w.lists f → IsKnown w.lists this → AreKnown w.lists vs →
    IsKept (FitsTask (Of (Call g this vs))) (intrinsic_called i f this vs) w
intrinsic_called-kept g this vs (Some (intrinsic.Constructor c)) f w s there rk known = constructor_called-kept g this c f vs w s there known
intrinsic_called-kept g this vs (Some (intrinsic.Prototype c)) f w s there rk known = prototype_called-kept g this vs c w s
intrinsic_called-kept g this vs (Some intrinsic.ThrowTypeError) f w s there rk known = wrong-kept (Of (Call g this vs)) w s
intrinsic_called-kept g this vs (Some (intrinsic.Function b)) f w s there rk known = function_called-kept g this vs b w s rk known
intrinsic_called-kept g this vs (Some intrinsic.Global) f w s there rk known = unfit-kept (Of (Call g this vs)) w s
intrinsic_called-kept g this vs (Some intrinsic.Proxy) f w s there rk known = unfit-kept (Of (Call g this vs)) w s
intrinsic_called-kept g this vs (Some intrinsic.Reflect) f w s there rk known = unfit-kept (Of (Call g this vs)) w s
intrinsic_called-kept g this vs (Some intrinsic.Print) f w s there rk known = unfit-kept (Of (Call g this vs)) w s
intrinsic_called-kept g this vs None f w s there rk known = unfit-kept (Of (Call g this vs)) w s

pub row_called-kept : (g this : Value) (vs : List Value) (row : ℕ) (f : ObjectId) (w : World) → IsSound w → IsObject w.lists f → IsKnown w.lists this → AreKnown w.lists vs →
    IsKept (FitsTask (Of (Call g this vs))) (row_called row f this vs) w
row_called-kept g this vs row f w s there rk known = intrinsic_called-kept g this vs (slice_get all_intrinsics row) f w s there rk known

-- ---- constructions

takes_new : (f : ObjectId) (vs : List Value) (target : ObjectId) → TakesObject (Of (Construct f vs target))
takes_new f vs target l o there = (tt, there)

constructor_constructed-kept : (f : ObjectId) (vs : List Value) (target : ObjectId) (c : Class) (w : World) → IsSound w → AreKnown w.lists vs → IsObject w.lists target →
    IsKept (FitsTask (Of (Construct f vs target))) (constructor_constructed c vs target) w
constructor_constructed-kept f vs target class.Object w s known there = unfit-kept (Of (Construct f vs target)) w s
constructor_constructed-kept f vs target class.Function w s known there = wrong-kept (Of (Construct f vs target)) w s
constructor_constructed-kept f vs target class.Array w s known there = unfit-kept (Of (Construct f vs target)) w s
constructor_constructed-kept f vs target class.String w s known there = unfit-kept (Of (Construct f vs target)) w s
constructor_constructed-kept f vs target class.Number w s known there = number_constructed-kept (Of (Construct f vs target)) (takes_new f vs target) w target (first_given vs) s (first_given-known w.lists vs known) there
constructor_constructed-kept f vs target class.Boolean w s known there =
    create_wrapper-kept (Of (Construct f vs target)) (takes_new f vs target) w class.Boolean (value.Bool (is_truth w.lists (first_of vs))) target s tt there
constructor_constructed-kept f vs target class.Symbol w s known there = wrong-kept (Of (Construct f vs target)) w s
constructor_constructed-kept f vs target (class.Error k) w s known there = error_constructed-kept (Of (Construct f vs target)) (takes_new f vs target) w k vs target s known there

intrinsic_constructed-kept : (f : ObjectId) (vs : List Value) (target : ObjectId) (i : Option Intrinsic) (w : World) → IsSound w → AreKnown w.lists vs → IsObject w.lists target →
    IsKept (FitsTask (Of (Construct f vs target))) (intrinsic_constructed i vs target) w
intrinsic_constructed-kept f vs target (Some (intrinsic.Constructor c)) w s known there = constructor_constructed-kept f vs target c w s known there
intrinsic_constructed-kept f vs target (Some (intrinsic.Prototype c)) w s known there = unfit-kept (Of (Construct f vs target)) w s
intrinsic_constructed-kept f vs target (Some intrinsic.ThrowTypeError) w s known there = unfit-kept (Of (Construct f vs target)) w s
intrinsic_constructed-kept f vs target (Some (intrinsic.Function b)) w s known there = unfit-kept (Of (Construct f vs target)) w s
intrinsic_constructed-kept f vs target (Some intrinsic.Global) w s known there = unfit-kept (Of (Construct f vs target)) w s
intrinsic_constructed-kept f vs target (Some intrinsic.Proxy) w s known there = unfit-kept (Of (Construct f vs target)) w s
intrinsic_constructed-kept f vs target (Some intrinsic.Reflect) w s known there = unfit-kept (Of (Construct f vs target)) w s
intrinsic_constructed-kept f vs target (Some intrinsic.Print) w s known there = unfit-kept (Of (Construct f vs target)) w s
intrinsic_constructed-kept f vs target None w s known there = unfit-kept (Of (Construct f vs target)) w s

pub row_constructed-kept : (f : ObjectId) (vs : List Value) (target : ObjectId) (row : ℕ) (w : World) → IsSound w → AreKnown w.lists vs → IsObject w.lists target →
    IsKept (FitsTask (Of (Construct f vs target))) (row_constructed row vs target) w
row_constructed-kept f vs target row w s known there = intrinsic_constructed-kept f vs target (slice_get all_intrinsics row) w s known there

-- ---- every request

call_of-kept : (g this : Value) (vs : List Value) (row : Option ℕ) (f : ObjectId) (w : World) → IsSound w → IsObject w.lists f → IsKnown w.lists this → AreKnown w.lists vs →
    IsKept (FitsTask (Of (Call g this vs))) (call_of row f this vs) w
call_of-kept g this vs (Some row) f w s there rk known = row_called-kept g this vs row f w s there rk known
call_of-kept g this vs None f w s there rk known = unfit-kept (Of (Call g this vs)) w s

call-kept : (f this : Value) (vs : List Value) (w : World) → IsSound w → IsKnown w.lists f → IsKnown w.lists this → AreKnown w.lists vs → IsKept (FitsTask (Of (Call f this vs))) (call_program f this vs) w
call-kept value.Undefined this vs w s fk rk known = unfit-kept (Of (Call value.Undefined this vs)) w s
call-kept value.Null this vs w s fk rk known = unfit-kept (Of (Call value.Null this vs)) w s
call-kept (value.Bool b) this vs w s fk rk known = unfit-kept (Of (Call (value.Bool b) this vs)) w s
call-kept (value.Whole n) this vs w s fk rk known = unfit-kept (Of (Call (value.Whole n) this vs)) w s
call-kept (value.Text x) this vs w s fk rk known = unfit-kept (Of (Call (value.Text x) this vs)) w s
call-kept (value.Symbol x) this vs w s fk rk known = unfit-kept (Of (Call (value.Symbol x) this vs)) w s
call-kept (value.Object f) this vs w s fk rk known = call_of-kept (value.Object f) this vs (row_of (kind w.lists f)) f w s fk rk known

construct_of-kept : (f : ObjectId) (vs : List Value) (target : ObjectId) (row : Option ℕ) (w : World) → IsSound w → AreKnown w.lists vs → IsObject w.lists target →
    IsKept (FitsTask (Of (Construct f vs target))) (construct_of row vs target) w
construct_of-kept f vs target (Some row) w s known there = row_constructed-kept f vs target row w s known there
construct_of-kept f vs target None w s known there = unfit-kept (Of (Construct f vs target)) w s

pub core_kept : (q : Request) (w : World) → IsSound w → IsKnownRequest w.lists q → KeepsFor (Of q) (core_program q) w
core_kept (GetOwn o k) w s h = (s, tt)
core_kept (Define o k d) w s h = (s, tt)
core_kept (Has o k) w s h = (s, tt)
core_kept (Read o k r site) w s h = (s, tt)
core_kept (Write o k x r site) w s h = (s, tt)
core_kept (Delete o k) w s h = (s, tt)
core_kept (Keys o) w s h = (s, tt)
core_kept (Proto o) w s h = (s, tt)
core_kept (SetProto o v) w s h = (s, tt)
core_kept (Extensible o) w s h = (s, tt)
core_kept (Prevent o) w s h = (s, tt)
core_kept (Call f this vs) w s h = call-kept f this vs w s h.0 h.1 h.2
core_kept (Construct f vs target) w s h = construct_of-kept f vs target (row_of (kind w.lists f)) w s h.1 h.2
core_kept (Work op operands) w s h = (s, tt)
core_kept (Print line) w s h = (s, tt)
