-- A walk along a path, and the way back.
use Rattle.std.proofs.Common.{◌≡◌, ℕ, ◌+◌, ◌<◌, ◌≤◌, List, [], ◌∷◌, ◌++◌, length, get_or, take, drop, reverse, ap, sym, subst, ◌∙◌, append_assoc}
use Rattle.std.proofs.lemmas.List.{append-nil, reverse-append, take-append-drop, take_all, take_more}
use Rattle.map_store.specs.declared.MapId.{MapId}
use Rattle.map_store.specs.Views.{MapsView}
use Rattle.transition_tree.specs.declared.paths.Step.{Step}
use Rattle.transition_tree.specs.Rows.{Row, TreeView, after, onward, row_of}
use Rattle.transition_tree.specs.Together.{BelongTogether, CameBy, IsLiveAt, IsRoot, LacksLive}
use Rattle.transition_tree.proofs.Belonging.{lacks-onward, onward-nil, onward-push}

module _ (tree : TreeView) (ms : MapsView) (row : Row) (path : List Step) where
  pub walk-start : (at : MapId) → IsLiveAt tree ms row at → IsLiveAt tree ms (onward row (take 0 path)) at
  walk-start at h = subst (λ (r : Row). IsLiveAt tree ms r at) (sym (onward-nil row)) h

  step-on : (at : MapId) (i : ℕ) (s : Step) → row_of tree at ≡ onward row (take i path) → i < length path → s ≡ get_or path i s → after (row_of tree at) s ≡ onward row (take (i + 1) path)
  step-on at i s here b is =
      ap (λ (r : Row). after r s) here ∙ sym (onward-push row (take i path) s)
      ∙ ap (onward row) (ap (λ (x : Step). take i path ++ x ∷ []) is ∙ sym (take_more path i s b))

  pub walk-step : (at next : MapId) (i : ℕ) (s : Step) → IsLiveAt tree ms (onward row (take i path)) at → i < length path → s ≡ get_or path i s → IsLiveAt tree ms (after (row_of tree at) s) next
      → IsLiveAt tree ms (onward row (take (i + 1) path)) next
  walk-step at next i s here b is h = subst (λ (r : Row). IsLiveAt tree ms r next) (step-on at i s here.here b is) h

  pub walk-ends : (at : MapId) (i : ℕ) → length path ≤ i → IsLiveAt tree ms (onward row (take i path)) at → IsLiveAt tree ms (onward row path) at
  walk-ends at i b h = subst (λ (p : List Step). IsLiveAt tree ms (onward row p) at) (take_all i path b) h

  pub walk-fails : BelongTogether tree ms → (at : MapId) (i : ℕ) (s : Step) → IsLiveAt tree ms (onward row (take i path)) at → i < length path → s ≡ get_or path i s → LacksLive tree ms (after (row_of tree at) s)
      → LacksLive tree ms (onward row path)
  walk-fails b at i s here lt is lacks =
      let whole : onward (onward row (take (i + 1) path)) (drop (i + 1) path) ≡ onward row path =
      (λ t. record row { path = append_assoc row.path (take (i + 1) path) (drop (i + 1) path) t }) ∙ ap (onward row) (take-append-drop (i + 1) path) in
      subst (λ (r : Row). LacksLive tree ms r) whole
      (lacks-onward tree ms b (onward row (take (i + 1) path)) (subst (λ (r : Row). LacksLive tree ms r) (step-on at i s here.here lt is) lacks) (drop (i + 1) path))

-- ---- the steps from a map up to its root, the last one first

pub back-start : (path : List Step) → path ≡ path ++ reverse []
back-start path = sym (append-nil path)

pub back-step : (tree : TreeView) (at parent : MapId) (s : Step) (whole back : List Step) → whole ≡ (row_of tree at).path ++ reverse back → CameBy tree at parent s → whole ≡ (row_of tree parent).path ++ reverse (back ++ s ∷ [])
back-step tree at parent s whole back e came =
    e ∙ ap (λ (r : Row). r.path ++ reverse back) came.row ∙ append_assoc (row_of tree parent).path (s ∷ []) (reverse back)
    ∙ ap (λ (p : List Step). (row_of tree parent).path ++ p) (sym (reverse-append back (s ∷ [])))

pub back-end : (tree : TreeView) (at : MapId) (whole back : List Step) → whole ≡ (row_of tree at).path ++ reverse back → IsRoot tree at → reverse back ≡ whole
back-end tree at whole back e root = sym (e ∙ ap (λ (p : List Step). p ++ reverse back) root.0)
