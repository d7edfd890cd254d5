-- A part of a heap is replaced, as its fields and as callers see it.
use Rattle.std.proofs.Common.{◌≡◌, ℕ, Option, List, ap, ◌∙◌}
use Rattle.property_keys.specs.declared.identifiers.TextId.{TextId}
use Rattle.property_keys.specs.declared.values.Value.{Value}
use Rattle.slack_tracking.specs.declared.OriginKind.{OriginKind}
use Rattle.object_heap.specs.Seen.{Seen}
use Rattle.object_heap.specs.Stands.{HeapView}

pub by_objects : (f : List Seen → List Seen) {view old : HeapView} {os : List Seen} → view ≡ old → os ≡ f view.objects → record view { objects = os } ≡ record old { objects = f old.objects }
by_objects f {view = view} v e = ap (λ xs. record view { objects = xs }) e ∙ ap (λ (h : HeapView). record h { objects = f h.objects }) v

pub by_texts : (f : List (List ℕ) → List (List ℕ)) {view old : HeapView} {ts : List (List ℕ)} → view ≡ old → ts ≡ f view.texts → record view { texts = ts } ≡ record old { texts = f old.texts }
by_texts f {view = view} v e = ap (λ xs. record view { texts = xs }) e ∙ ap (λ (h : HeapView). record h { texts = f h.texts }) v

pub by_symbols : (f : List (Option TextId) → List (Option TextId)) {view old : HeapView} {ss : List (Option TextId)} → view ≡ old → ss ≡ f view.symbols → record view { symbols = ss } ≡ record old { symbols = f old.symbols }
by_symbols f {view = view} v e = ap (λ xs. record view { symbols = xs }) e ∙ ap (λ (h : HeapView). record h { symbols = f h.symbols }) v

pub by_cells : (f : List (Option Value) → List (Option Value)) {view old : HeapView} {cs : List (Option Value)} → view ≡ old → cs ≡ f view.cells → record view { cells = cs } ≡ record old { cells = f old.cells }
by_cells f {view = view} v e = ap (λ xs. record view { cells = xs }) e ∙ ap (λ (h : HeapView). record h { cells = f h.cells }) v

pub by_turns : (f : ℕ → ℕ) {view old : HeapView} {n : ℕ} → view ≡ old → n ≡ f view.turns → record view { turns = n } ≡ record old { turns = f old.turns }
by_turns f {view = view} v e = ap (λ n. record view { turns = n }) e ∙ ap (λ (h : HeapView). record h { turns = f h.turns }) v

pub by_origins : (f : List OriginKind → List OriginKind) {view old : HeapView} {ks : List OriginKind} → view ≡ old → ks ≡ f view.origins → record view { origins = ks } ≡ record old { origins = f old.origins }
by_origins f {view = view} v e = ap (λ ks. record view { origins = ks }) e ∙ ap (λ (h : HeapView). record h { origins = f h.origins }) v
