-- A scope is entered: cells over plain variables.
use Rattle.std.proofs.Common.{◌≡◌, ◌≤◌, ℕ, zero, suc, None, List, [], ◌∷◌, ◌++◌, length, length-append, take, drop, refl, sym, ◌∙◌, ap, subst, arith, append_assoc}
use Rattle.std.proofs.Math.Seq.{take-append_seam, take-length}
use Rattle.std.proofs.lemmas.List.{append-nil, take-append-drop, take-append-le}
use Rattle.es_model.specs.declared.kinds.CellNo.{CellNo}
use Rattle.es_model.specs.World.{World, new_cell}
use Rattle.es_model.specs.Changes.{MakingCell, changed}
use Rattle.es_model.specs.Program.{Program}
use Rattle.es_model.specs.Stages.{stage_of}
use Rattle.object_heap.specs.Stands.{HeapView, StandsFor, Goes, goes_none, goes_then}
use Rattle.evaluator.specs.Scopes.{fresh_cells, make_cells, world_with}

pub cells_stage : (n : ℕ) (cells : List CellNo) (k : List CellNo → Program) (w : World) → stage_of (make_cells n cells k) w ≡ stage_of (k (cells ++ fresh_cells n w)) (world_with n w)
unfolding world_with fresh_cells
cells_stage zero cells k w = ap (λ e. stage_of (k e) w) (sym (append-nil cells))
cells_stage (suc n) cells k w =
    cells_stage n (cells ++ new_cell w.lists ∷ []) k (changed (MakingCell None) w)
    ∙ ap (λ e. stage_of (k e) (world_with n (changed (MakingCell None) w))) (append_assoc cells (new_cell w.lists ∷ []) (fresh_cells n (changed (MakingCell None) w)))

-- so many cells are still to be made
abbrev pub Made : HeapView → HeapView → World → ℕ → ℕ → List CellNo → List CellNo → Type 0
Made a b w n left start cells = (v : World) × Goes a b w v × (world_with n w ≡ world_with left v) × (start ++ fresh_cells n w ≡ cells ++ fresh_cells left v)

pub made_none : (a : HeapView) (w : World) (n : ℕ) (cells : List CellNo) → StandsFor a w → Made a a w n n cells cells
made_none a w n cells h = (w, goes_none a w h, refl, refl)

pub made_one : (a b c : HeapView) (w : World) (n left less : ℕ) (start cells new : List CellNo) (cell : CellNo) → Made a b w n left start cells → left ≡ suc less →
    ((v : World) → StandsFor b v → cell ≡ new_cell v.lists) → ((v : World) → StandsFor b v → Goes b c v (changed (MakingCell None) v)) → new ≡ cells ++ cell ∷ [] → Made a c w n less start new
unfolding world_with fresh_cells
made_one a b c w n left less start cells new cell (v, g, e, f) one is goes pushed =
    let u : World = changed (MakingCell None) v in (
      u,
      goes_then a b c w v u g (goes v g.stands),
      e ∙ ap (λ m. world_with m v) one,
      f ∙ ap (λ m. cells ++ fresh_cells m v) one ∙ ap (λ x. cells ++ x ∷ fresh_cells less u) (sym (is v g.stands)) ∙ sym (append_assoc cells (cell ∷ []) (fresh_cells less u)) ∙ ap (λ l. l ++ fresh_cells less u) (sym pushed),
    )

pub made_goes : (a b : HeapView) (w : World) (n left : ℕ) (start cells : List CellNo) → Made a b w n left start cells → left ≡ 0 → Goes a b w (world_with n w)
unfolding world_with
made_goes a b w n left start cells (v, g, e, f) none = subst (λ x. Goes a b w x) (sym (e ∙ ap (λ m. world_with m v) none)) g

pub made_cells : (a b : HeapView) (w : World) (n left : ℕ) (start cells : List CellNo) → Made a b w n left start cells → left ≡ 0 → cells ≡ start ++ fresh_cells n w
unfolding fresh_cells
made_cells a b w n left start cells (v, g, e, f) none = sym (append-nil cells) ∙ ap (λ m. cells ++ fresh_cells m v) (sym none) ∙ sym f

-- what was there stays in front
pub record HasFront (old new : List CellNo) : Type 0 where
  pub longer : length old ≤ length new
  pub front : take (length old) new ≡ old

pub front_none : (cells : List CellNo) → HasFront cells cells
front_none cells = record { longer = omega arith; front = take-length cells }

pub front_one : (start cells new : List CellNo) (cell : CellNo) → HasFront start cells → new ≡ cells ++ cell ∷ [] → HasFront start new
front_one start cells new cell f e = record {
  longer = (let l = length-append cells (cell ∷ []) in let m = ap length e in let low = f.longer in omega arith);
  front = ap (take (length start)) e ∙ take-append-le (length start) cells (cell ∷ []) f.longer ∙ f.front;
}

-- the same where more cells came behind
pub front_more : (old pushed new : List CellNo) (cell : CellNo) → pushed ≡ old ++ cell ∷ [] → take (length pushed) new ≡ pushed → take (length old) new ≡ old
front_more old pushed new cell is front =
    let rest : List CellNo = drop (length pushed) new in
    let whole : new ≡ pushed ++ rest = sym (take-append-drop (length pushed) new) ∙ ap (λ l. l ++ rest) front in
    let longer : length old ≤ length pushed = (let l = length-append old (cell ∷ []) in let m = ap length is in omega arith) in
    ap (take (length old)) whole ∙ take-append-le (length old) pushed rest longer ∙ ap (take (length old)) is ∙ take-append_seam old (cell ∷ [])
