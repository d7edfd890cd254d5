-- The next round of an algorithm, or its end, where so many rounds are left.
use Rattle.std.proofs.Common.{◌≡◌, ℕ, suc, false, Some, List, Result, Ok, refl, sym, subst}
use Rattle.property_keys.specs.declared.identifiers.ObjectId.{ObjectId}
use Rattle.property_keys.specs.declared.values.Value.{Value}
use Rattle.descriptors.specs.declared.fields.Descriptor.{Descriptor}
use Rattle.es_model.specs.declared.answers.Stop.{Stop}
use Rattle.es_model.specs.declared.answers.Completion.TheVariants as answer
use Rattle.es_model.specs.declared.answers.Reply.TheVariants as reply
use Rattle.es_model.specs.declared.answers.Turn.{Turn}
use Rattle.es_model.specs.declared.answers.Turn.TheVariants.{Done}
use Rattle.es_model.specs.Completions.{Completion}
use Rattle.es_model.specs.Program.{Program}
use Rattle.object_heap.specs.Stands.{HeapView, goes_none}
use Rattle.plain_builtins.specs.ArrayLikes.{elements_left, gives_all, get_element}
use Rattle.plain_builtins.specs.Comparisons.{says}
use Rattle.plain_builtins.specs.Counting.{IsAfterFirst}
use Rattle.plain_builtins.specs.Instances.{instance_round, prototype_by}
use Rattle.es_model.specs.programs.Testing.{as_object}
use Rattle.plain_builtins.specs.Printing.{print_left}
use Rattle.plain_builtins.specs.Turns.{StopsAt}
use Rattle.plain_builtins.specs.WantedFields.{fields_left}
use Rattle.plain_builtins.specs.declared.words.Collected.{Collected}
use Rattle.plain_builtins.specs.declared.words.Field.{Field}
use Rattle.plain_builtins.specs.declared.frame.Listing.{Listing}
use Rattle.plain_builtins.specs.declared.frame.PlainFrame.{PlainFrame}

pub no_element : (old new : HeapView) (f : Listing) (r : Result (Turn PlainFrame) Stop) → f.left ≡ 0 →
    StopsAt old new (gives_all f.collected) r → StopsAt old new (elements_left f.left f.length f.object f.collected) r
no_element old new f r e h = subst (λ n. StopsAt old new (elements_left n f.length f.object f.collected) r) (sym e) h

pub an_element : (old new : HeapView) (left fewer n : ℕ) (o : ObjectId) (all : Collected) (r : Result (Turn PlainFrame) Stop) → left ≡ suc fewer →
    StopsAt old new (elements_left (suc fewer) n o all) r → StopsAt old new (elements_left left n o all) r
an_element old new left fewer n o all r e h = subst (λ m. StopsAt old new (elements_left m n o all) r) (sym e) h

pub same_index : (old new : HeapView) (o : ObjectId) (i j : ℕ) (next : Completion → Program) (r : Result (Turn PlainFrame) Stop) → i ≡ j →
    StopsAt old new (get_element o i next) r → StopsAt old new (get_element o j next) r
same_index old new o i j next r e h = subst (λ n. StopsAt old new (get_element o n next) r) e h

pub no_round : (old : HeapView) (left : ℕ) (p x : ObjectId) → left ≡ 0 → StopsAt old old (instance_round left p x) (Ok (Done (answer.Normal (reply.Flag false))))
no_round old left p x e =
    let ended : StopsAt old old (says false) (Ok (Done (answer.Normal (reply.Flag false)))) = λ w h. (refl, goes_none old w h) in
    subst (λ n. StopsAt old old (instance_round n p x) (Ok (Done (answer.Normal (reply.Flag false))))) (sym e) ended

pub a_round : (old new : HeapView) (left fewer : ℕ) (p x : ObjectId) (r : Result (Turn PlainFrame) Stop) → left ≡ suc fewer →
    StopsAt old new (instance_round (suc fewer) p x) r → StopsAt old new (instance_round left p x) r
a_round old new left fewer p x r e h = subst (λ n. StopsAt old new (instance_round n p x) r) (sym e) h

pub same_collected : (old new : HeapView) (left n : ℕ) (o : ObjectId) (a b : Collected) (r : Result (Turn PlainFrame) Stop) → a ≡ b →
    StopsAt old new (elements_left left n o a) r → StopsAt old new (elements_left left n o b) r
same_collected old new left n o a b r e h = subst (λ x. StopsAt old new (elements_left left n o x) r) e h

pub same_fields : (old new : HeapView) (fs gs : List Field) (o : ObjectId) (d : Descriptor) (r : Result (Turn PlainFrame) Stop) → fs ≡ gs →
    StopsAt old new (fields_left gs o d) r → StopsAt old new (fields_left fs o d) r
same_fields old new fs gs o d r e h = subst (λ x. StopsAt old new (fields_left x o d) r) (sym e) h

pub same_arguments : (old new : HeapView) (vs us line : List Value) (r : Result (Turn PlainFrame) Stop) → vs ≡ us →
    StopsAt old new (print_left us line) r → StopsAt old new (print_left vs line) r
same_arguments old new vs us line r e h = subst (λ x. StopsAt old new (print_left x line) r) (sym e) h

pub same_line : (old new : HeapView) (vs line more : List Value) (r : Result (Turn PlainFrame) Stop) → more ≡ line →
    StopsAt old new (print_left vs more) r → StopsAt old new (print_left vs line) r
same_line old new vs line more r e h = subst (λ x. StopsAt old new (print_left vs x) r) e h

pub first_round : (old new : HeapView) (v : Value) (p x : ObjectId) (fewer : ℕ) (r : Result (Turn PlainFrame) Stop) → Some p ≡ as_object v → IsAfterFirst fewer →
    StopsAt old new (instance_round (suc fewer) p x) r → StopsAt old new (prototype_by (as_object v) x) r
unfolding IsAfterFirst
first_round old new v p x fewer r e n h =
    subst (λ o. StopsAt old new (prototype_by o x) r) e (subst (λ m. StopsAt old new (instance_round m p x) r) (sym n) h)
