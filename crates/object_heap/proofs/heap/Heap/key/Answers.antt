use Rattle.std.proofs.Common.{◌≡◌, ◌≤◌, ℕ, zero, suc, List, [], ◌∷◌, length, refl, ap, sym, ◌∙◌, arith}
use Rattle.std.specs.Option.{option_map_or}
use Rattle.property_keys.specs.declared.keys.PropKey.TheVariants.{Index, Name}
use Rattle.property_keys.specs.Keys.{key_of}
use Rattle.property_keys.proofs.ArrayIndices.{array_index_of-no_number}
use Rattle.property_keys.specs.Texts.{text_at}
use Rattle.object_heap.specs.Stands.{HeapView}
use Rattle.object_heap.proofs.Standing.{texts-stand}
use Rattle.object_heap.proofs.heap.Heap.key.Goals as goal

text-past : (ts : List (List ℕ)) (i : ℕ) → length ts ≤ i → text_at ts i ≡ []
text-past [] i b = refl
text-past (t ∷ ts) zero b = absurd (omega arith)
text-past (t ∷ ts) (suc i) b = text-past ts i (omega arith)

pub returns-then-text-len : goal.returns-then-text-len
returns-then-text-len c = λ w h.
    c.key.ensures.key ∙ ap (λ ts. key_of (text_at ts c.args.text.0) c.args.text) (ap (λ (v : HeapView). v.texts) c.self.view_is ∙ texts-stand _ w h)

pub returns-else-text-len : goal.returns-else-text-len
returns-else-text-len c = λ w h.
    let few = ap length (ap (λ (v : HeapView). v.texts) c.self.view_is ∙ texts-stand _ w h) in
    let none = ap (λ i. option_map_or Index i (Name c.args.text)) (array_index_of-no_number [] refl) in
    sym (ap (λ u. key_of u c.args.text) (text-past w.lists.texts c.args.text.0 (omega (arith, few, c.len.ensures, c.if-text-len.false))) ∙ none)
