use Rattle.std.proofs.Common.{◌≡◌, ◌+◌, ℕ, List, Option, refl, sym, ap, subst, ◌∙◌, arith}
use Rattle.std.specs.HashMap.{get}
use Rattle.std.specs.Str.{bytes_eq}
use Rattle.prototype_validity.specs.declared.cell.Cell.{Cell}
use Rattle.prototype_validity.specs.declared.registry.Registry.{Registry}
use Rattle.prototype_validity.specs.declared.validity.Validity.TheInside.{Inside}
use Rattle.prototype_validity.specs.Cells.{after_change}
use Rattle.prototype_validity.specs.Registered.{count_of, cell_at}
use Rattle.prototype_validity.specs.Sound.{IsSoundRegistry}
use Rattle.prototype_validity.proofs.Standing.{Dropped, dropped_none, dropped_more, dropped_nothing, dropped_all, dropped_same, none_from_not, sound_changed}
use Rattle.prototype_validity.proofs.validity.Validity.changed.Goals.{in-Some, in_default}
use Rattle.prototype_validity.proofs.validity.Validity.changed.Goals as goal

pub loop-place-init : goal.loop-place-init
loop-place-init c = record { registry = refl; newest = refl; dropped = dropped_none _ _ _ }

pub loop-place-preserved : goal.loop-place-preserved
loop-place-preserved c =
    let at : c.cell.result ≡ cell_at c.forget-count.new.self c.args.object c.loop-place.place =
    c.cell.ensures ∙ ap (λ r. cell_at r c.args.object c.loop-place.place) c.loop-place.invariant.registry in
    elim c.match-cell.branch [
      | in-Some w ↦ record {
        registry = ap (λ (i : Inside). i.registry) w.self-inside-is ∙ c.loop-place.invariant.registry;
        newest = ap (λ (i : Inside). i.newest) w.self-inside-is ∙ c.loop-place.invariant.newest;
        dropped = subst (λ (i : Inside). Dropped c.forget-count.new.self c.self.inside.cells.items i.cells.items c.args.object (c.loop-place.place + 1)) (sym w.self-inside-is)
            (dropped_more _ _ _ _ c.args.object c.loop-place.place _ c.loop-place.invariant.dropped (sym at ∙ w.in-Some.is) w.drop_hold.ensures);
      }
      | in_default w ↦ record {
        registry = ap (λ (i : Inside). i.registry) w.self-inside-is ∙ c.loop-place.invariant.registry;
        newest = ap (λ (i : Inside). i.newest) w.self-inside-is ∙ c.loop-place.invariant.newest;
        dropped = subst (λ (i : Inside). Dropped c.forget-count.new.self c.self.inside.cells.items i.cells.items c.args.object (c.loop-place.place + 1)) (sym w.self-inside-is)
            (dropped_nothing _ _ _ c.args.object c.loop-place.place c.loop-place.invariant.dropped (sym at ∙ none_from_not c.cell.result w.in_default.not-Some));
      }
    ]

all : (c : goal.After-loop-place) → c.loop-place.self-inside.cells.items ≡ after_change c.self.inside.cells.items c.args.object.0
all c =
    let whole : c.loop-place.place ≡ count_of c.self.inside.registry c.args.object = omega (arith, c.forget-count.ensures.count) in
    dropped_all _ c.self.inside.registry _ _ c.args.object c.self.invariant
    (dropped_same c.self.inside.registry c.forget-count.new.self _ _ c.args.object _ c.forget-count.ensures.cells
    (subst (λ n. Dropped c.forget-count.new.self c.self.inside.cells.items c.loop-place.self-inside.cells.items c.args.object n) whole c.loop-place.invariant.dropped))

pub invariant_of-self : goal.invariant_of-self
invariant_of-self c =
    let P : (List ℕ → Option ℕ) → Registry → List Cell → Type 0 = λ f r cs. IsSoundRegistry f r cs in
    let old : List ℕ → Option ℕ = λ chain. get bytes_eq c.self.inside.newest chain in
    let now : List ℕ → Option ℕ = λ chain. get bytes_eq c.loop-place.self-inside.newest chain in
    let same : now ≡ old = λ t chain. get bytes_eq (c.loop-place.invariant.newest t) chain in
    subst (λ f. P f c.loop-place.self-inside.registry c.loop-place.self-inside.cells.items) (sym same)
    (subst (λ r. P old r c.loop-place.self-inside.cells.items) (sym c.loop-place.invariant.registry)
    (subst (λ cs. P old c.forget-count.new.self cs) (sym (all c)) (sound_changed _ _ _ _ c.args.object c.self.invariant c.forget-count.ensures.others)))

pub returns : goal.returns
returns c = all c ∙ ap (λ cs. after_change cs c.args.object.0) c.self.view_is
