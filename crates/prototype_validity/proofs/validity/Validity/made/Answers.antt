use Rattle.std.proofs.Common.{◌≡◌, ◌++◌, ◌∷◌, [], ℕ, true, cond, List, Option, Some, length, refl, sym, ap, subst, ◌∙◌, arith}
use Rattle.std.specs.HashMap.{get}
use Rattle.std.specs.Str.{bytes_eq}
use Rattle.std.proofs.lemmas.Slice.Eq.{bytes_eq-Decides}
use Rattle.property_keys.specs.declared.identifiers.ObjectId.{ObjectId}
use Rattle.prototype_validity.specs.declared.cell.Cell.{Cell}
use Rattle.prototype_validity.specs.Cells.{HasNoCell, new_cell, includes}
use Rattle.prototype_validity.specs.Registered.{IsListed}
use Rattle.prototype_validity.specs.Sound.{IsSoundRegistry}
use Rattle.prototype_validity.proofs.Standing.{sound_grown, sound_newest, sound_entered}
use Rattle.prototype_validity.proofs.validity.Validity.made.Goals as goal

pub invariant_of-self-2 : goal.invariant_of-self-2
invariant_of-self-2 c =
    let chain = c.args.chain.now in
    let cells = c.self.inside.cells.items in
    let keyed : c.in_ok-key.key ≡ chain = c.in_ok-key.ensures in
    let owned : c.in_ok-own.own ≡ chain = c.in_ok-own.ensures in
    let n : c.len-number.result ≡ length cells = omega arith in
    let none : HasNoCell cells chain = subst (λ cs. HasNoCell cs chain) (sym c.self.view_is) c.requires in
    let old : List ℕ → Option ℕ = λ q. get bytes_eq c.self.inside.newest q in
    let now : List ℕ → Option ℕ = λ q. get bytes_eq c.insert.new.self q in
    let update : (q : List ℕ) → now q ≡ cond (bytes_eq chain q) (Some (length cells)) (old q) =
    λ q. c.in-Ok.ensures.updates.0 q ∙ (λ t. cond (bytes_eq (keyed t) q) (Some (n t)) (old q)) in
    let grown : IsSoundRegistry old c.add_to_each.new.registry cells =
    sound_grown _ _ _ c.self.invariant old c.add_to_each.new.registry (λ q. refl) c.in_ok-add_to_each.ensures.kept in
    let newest : IsSoundRegistry now c.add_to_each.new.registry cells = sound_newest _ _ _ grown chain (length cells) now none update in
    let at : now chain ≡ Some (length cells) = update chain ∙ ap (λ b. cond b (Some (length cells)) (old chain)) ((bytes_eq-Decides chain chain).1 refl) in
    let lists : (o : ObjectId) → includes o.0 chain ≡ true → IsListed c.add_to_each.new.registry o (length cells) =
    λ o inc. subst (λ k. IsListed c.add_to_each.new.registry o k) n (c.in_ok-add_to_each.ensures.listed o inc) in
    let P : List Cell → Type 0 = λ cs. IsSoundRegistry now c.add_to_each.new.registry cs in
    subst P (sym (c.in-Ok-push.ensures.items ∙ ap (λ ch. cells ++ new_cell ch ∷ []) owned))
    (sound_entered _ _ _ newest chain at lists (omega arith))
