use Rattle.std.proofs.Common.{◌++◌, ap, ◌∙◌}
use Rattle.property_keys.specs.Texts.{interned, text_at}
use Rattle.es_model.specs.World.{number_of}
use Rattle.object_heap.specs.Stands.{HeapView}
use Rattle.object_heap.proofs.Standing.{texts-stand}
use Rattle.object_heap.proofs.Change.{goes-interned}
use Rattle.object_heap.proofs.Retaining.{retains-interned, retains-same}
use Rattle.object_heap.proofs.TextCalls.{units-stand}
use Rattle.object_heap.proofs.TextNumbers.{number-stands, table-numbered}
use Rattle.object_heap.proofs.Views.{by_texts}
use Rattle.std.proofs.lemmas.Result.{err_from_is_err_and}
use Rattle.object_heap.proofs.heap.Heap.concat.Goals as goal

pub returns-in_err-id-clause-too_long : goal.returns-in_err-id-clause-too_long
returns-in_err-id-clause-too_long c = λ w h.
    let ts = c.self.inside.texts in
    let v = ap (λ (x : HeapView). x.texts) c.self.view_is in
    let a = units-stand ts _ w c.args.a c.known-first.result v c.known-first.ensures.same h in
    let b = units-stand ts _ w c.args.b c.known-second.result v c.known-second.ensures.same h in
    let p = err_from_is_err_and c.from_residual.result c.from_residual.ensures.1 in
    rw (p.1, p.2, ← a, ← b) c.in_err-id.ensures.too_long

pub returns-in_err-id-clause-retains : goal.returns-in_err-id-clause-retains
returns-in_err-id-clause-retains c = retains-same _ _ (by_texts (λ ts. ts) c.self.view_is c.in_err-id.ensures.text)

pub invariant_of-self-2 : goal.invariant_of-self-2
invariant_of-self-2 c = table-numbered _ _ _ _ c.in_ok-id.ensures.text c.self.invariant

pub returns-clause-number : goal.returns-clause-number
returns-clause-number c = λ w h.
    let ts = c.self.inside.texts in
    let v = ap (λ (x : HeapView). x.texts) c.self.view_is in
    let a = units-stand ts _ w c.args.a c.known-first.result v c.known-first.ensures.same h in
    let b = units-stand ts _ w c.args.b c.known-second.result v c.known-second.ensures.same h in
    number-stands _ _ _ _ w.lists c.in_ok-id.ensures.text (c.self.invariant).one (v ∙ texts-stand _ w h) ∙ (λ t. number_of w.lists (a t ++ b t))

pub returns-clause-ok : goal.returns-clause-ok
returns-clause-ok c = λ w h.
    let ts = c.self.inside.texts in
    let v = ap (λ (x : HeapView). x.texts) c.self.view_is in
    let a = units-stand ts _ w c.args.a c.known-first.result v c.known-first.ensures.same h in
    let b = units-stand ts _ w c.args.b c.known-second.result v c.known-second.ensures.same h in
    let u = text_at ts c.known-first.result.0 ++ text_at ts c.known-second.result.0 in
    rw (← a, ← b) (goes-interned c.args.self.now _ u (by_texts (λ xs. interned xs u) c.self.view_is (c.in_ok-id.ensures.text).table) w h)

pub returns-clause-too_long : goal.returns-clause-too_long
returns-clause-too_long c = λ w h.
    let ts = c.self.inside.texts in
    let v = ap (λ (x : HeapView). x.texts) c.self.view_is in
    let a = units-stand ts _ w c.args.a c.known-first.result v c.known-first.ensures.same h in
    let b = units-stand ts _ w c.args.b c.known-second.result v c.known-second.ensures.same h in
    rw (← a, ← b) c.in_ok-id.ensures.too_long

pub returns-clause-retains : goal.returns-clause-retains
returns-clause-retains c =
    let ts = c.self.inside.texts in
    let u = text_at ts c.known-first.result.0 ++ text_at ts c.known-second.result.0 in
    retains-interned _ _ u (by_texts (λ xs. interned xs u) c.self.view_is (c.in_ok-id.ensures.text).table)
