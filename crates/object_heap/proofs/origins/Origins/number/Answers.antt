use Rattle.std.proofs.Common.{ap, sym, ◌∙◌, arith}
use Rattle.object_heap.specs.Origins.{with_origin}
use Rattle.object_heap.proofs.OriginNumbers.{kinds-after, with_origin-there}
use Rattle.object_heap.proofs.origins.Origins.number.Goals.{in-Ok, in-Err}
use Rattle.object_heap.proofs.origins.Origins.number.Goals as goal

pub returns-then-place-len-clause-ok : goal.returns-then-place-len-clause-ok
returns-then-place-len-clause-ok c =
    let ks = c.self.inside.kinds.keys in
    let p = rw (← c.self.view_is) at c.place_of-place.ensures in
    let n = c.len.ensures.len in
    let b = c.if-place-len.true in
    sym (ap (λ xs. with_origin xs c.args.kind) (sym c.self.view_is) ∙ with_origin-there ks c.args.kind (omega arith) ∙ c.self.view_is)

pub returns-clause-ok : goal.returns-clause-ok
returns-clause-ok c =
    let ks = c.self.inside.kinds.keys in
    let p = rw (← c.self.view_is) at c.place_of-place.ensures in
    let n = c.len.ensures.len in
    let b = c.if-place-len.false in
    elim c.match-insert_full.branch [
      | in-Ok w ↦ rw w.result-is (kinds-after ks _ c.args.kind (omega arith) w.in-Ok.ensures.keys ∙ ap (λ xs. with_origin xs c.args.kind) c.self.view_is)
      | in-Err w ↦ rw w.result-is tt
    ]
