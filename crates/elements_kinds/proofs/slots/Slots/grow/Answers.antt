use Rattle.std.proofs.Common.{◌-◌, ◌++◌, ℕ, List, None, length, map, replicate, ap, sym, ◌∙◌}
use Rattle.std.proofs.lemmas.List.{map-append, length-map}
use Rattle.std.proofs.lemmas.Result.{on_ok_weaker}
use Rattle.elements_kinds.specs.Properties.{Held}
use Rattle.elements_kinds.specs.Words.{decoded}
use Rattle.elements_kinds.proofs.Holes.{map-holes}
use Rattle.elements_kinds.proofs.slots.Slots.grow.Goals as goal

pub returns-clause-ok : goal.returns-clause-ok
returns-clause-ok g c =
    let k = c.self.inside.class in
    let b : List ℕ = c.self.inside.block in
    on_ok_weaker c.grow_with.result (λ e.
    ap (map (decoded k)) e
    ∙ map-append (decoded k) b (replicate (c.args.n - length b) c.hole-word.result)
    ∙ ap (λ w. map (decoded k) b ++ map (decoded k) (replicate (c.args.n - length b) w)) c.hole-word.ensures
    ∙ ap (λ ws. map (decoded k) b ++ ws) (map-holes k (c.args.n - length b))
    ∙ ap (λ n. map (decoded k) b ++ replicate (c.args.n - n) None) (sym (length-map b (decoded k)))
    ∙ ap (λ (h : Held). h.values ++ replicate (c.args.n - length h.values) None) c.self.view_is) c.grow_with.ensures.ok
