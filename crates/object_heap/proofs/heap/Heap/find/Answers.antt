use Rattle.std.proofs.Common.{◌↔◌, List, ℕ, ap, ◌∙◌, subst}
use Rattle.std.specs.Prelude.{IsNone}
use Rattle.property_keys.specs.Texts.{IsNumberOf, IsUnknown}
use Rattle.object_heap.specs.Stands.{HeapView}
use Rattle.object_heap.specs.Tables.{IsTable}
use Rattle.object_heap.proofs.Standing.{texts-stand}
use Rattle.object_heap.proofs.TextCalls.{if-some, known-goes, known-number}
use Rattle.object_heap.proofs.heap.Heap.find.Goals as goal

pub returns-clause-number : goal.returns-clause-number
returns-clause-number c =
    let heap = c.args.self.now in
    let units = c.args.units.now in
    let v = ap (λ (h : HeapView). h.texts) c.self.view_is in
    let table : IsTable heap.texts = subst (λ ts. IsTable ts) v c.self.invariant in
    if-some c.find.result (λ id (p : IsNumberOf c.self.inside.texts units id.0) w h. let q = subst (λ ts. IsNumberOf ts units id.0) v p in known-number heap w units id table q.known q.names h) c.find.ensures.found

pub returns-clause-known : goal.returns-clause-known
returns-clause-known c =
    let heap = c.args.self.now in
    let units = c.args.units.now in
    let v = ap (λ (h : HeapView). h.texts) c.self.view_is in
    if-some c.find.result (λ id (p : IsNumberOf c.self.inside.texts units id.0) w h. let q = subst (λ ts. IsNumberOf ts units id.0) v p in known-goes heap w units id q.known q.names h) c.find.ensures.found

pub returns-clause-none : goal.returns-clause-none
returns-clause-none c = λ w h.
    let v = ap (λ (x : HeapView). x.texts) c.self.view_is ∙ texts-stand c.args.self.now w h in
    subst (λ (ts : List (List ℕ)). IsNone c.find.result ↔ IsUnknown ts c.args.units.now) v c.find.ensures.none
