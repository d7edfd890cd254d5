use Rattle.std.proofs.Common.{◌∙◌, ap, sym}
use Rattle.property_keys.specs.declared.identifiers.TextId.{TextId}
use Rattle.property_keys.specs.Keys.{text_of_key}
use Rattle.property_keys.specs.Texts.{text_at}
use Rattle.object_heap.proofs.Standing.{texts-stand}
use Rattle.object_heap.proofs.TextCalls.{known-number, known-goes}
use Rattle.object_heap.proofs.Retaining.{retains_none}
use Rattle.object_heap.proofs.heap.Heap.key_text.Goals as goal

pub returns-in-Name-clause-number : goal.returns-in-Name-clause-number
returns-in-Name-clause-number c = λ w h.
    let e = c.known.ensures.same ∙ ap (λ ts. text_at ts c.in-Name.text.0) (texts-stand _ w h) ∙ sym (ap (λ k. text_of_key w.lists.texts k) c.in-Name.is) in
    known-number c.args.self.now w _ c.known.result c.known.ensures.table c.known.ensures.known e h

pub returns-in-Name-clause-ok : goal.returns-in-Name-clause-ok
returns-in-Name-clause-ok c = λ w h.
    let e = c.known.ensures.same ∙ ap (λ ts. text_at ts c.in-Name.text.0) (texts-stand _ w h) ∙ sym (ap (λ k. text_of_key w.lists.texts k) c.in-Name.is) in
    known-goes c.args.self.now w _ c.known.result c.known.ensures.known e h

pub returns-in-Name-clause-retains : goal.returns-in-Name-clause-retains
returns-in-Name-clause-retains c = retains_none _

pub returns-in-Sym-clause-number : goal.returns-in-Sym-clause-number
returns-in-Sym-clause-number c = λ w h.
    let e = c.known-in-Sym.ensures.same ∙ ap (λ (n : TextId). text_at (c.args.self.now).texts n.0) c.number.ensures ∙ (c.known-in-Sym.ensures.table).empty ∙ sym (ap (λ k. text_of_key w.lists.texts k) c.in-Sym.is) in
    known-number c.args.self.now w _ c.known-in-Sym.result c.known-in-Sym.ensures.table c.known-in-Sym.ensures.known e h

pub returns-in-Sym-clause-ok : goal.returns-in-Sym-clause-ok
returns-in-Sym-clause-ok c = λ w h.
    let e = c.known-in-Sym.ensures.same ∙ ap (λ (n : TextId). text_at (c.args.self.now).texts n.0) c.number.ensures ∙ (c.known-in-Sym.ensures.table).empty ∙ sym (ap (λ k. text_of_key w.lists.texts k) c.in-Sym.is) in
    known-goes c.args.self.now w _ c.known-in-Sym.result c.known-in-Sym.ensures.known e h

pub returns-in-Sym-clause-retains : goal.returns-in-Sym-clause-retains
returns-in-Sym-clause-retains c = retains_none _
