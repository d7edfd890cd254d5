-- The cells of the names of a scope (ECMA-262, 9.1, 14.2.3), made in the order in which the standard makes bindings.
use Rattle.std.specs.Prelude.{ℕ, zero, suc, Option, Some, None, List, [], ◌∷◌, ◌++◌}
use Rattle.property_keys.specs.declared.values.Value.{Value}
use Rattle.es_tree.specs.declared.names.Binding.{Binding}
use Rattle.es_tree.specs.declared.names.Binding.TheVariants as binding
use Rattle.es_tree.specs.declared.names.Named.{Named}
use Rattle.es_model.specs.declared.kinds.CellNo.{CellNo}
use Rattle.es_model.specs.World.{World, new_cell}
use Rattle.es_model.specs.Changes.{MakingCell, SettingCell, changed}
use Rattle.es_model.specs.Program.{Program, change, make_cell}
use Rattle.evaluator.specs.Contexts.{Context, with_cells}
use Rattle.evaluator.specs.References.{cell_at}

-- so many cells without a value behind these
abbrev pub make_cells : ℕ → List CellNo → (List CellNo → Program) → Program
make_cells zero cells next = next cells
make_cells (suc n) cells next = make_cell None (λ c. make_cells n (cells ++ c ∷ []) next)

-- a scope of so many names is entered
abbrev pub enter_scope : Context → ℕ → (Context → Program) → Program
enter_scope here names next = make_cells names here.cells (λ cells. next (with_cells here cells))

-- a scope of one name with its value, or of none (14.15.2)
abbrev pub enter_with : Context → Option Named → Value → (Context → Program) → Program
enter_with here None v next = next here
enter_with here (Some named) v next = make_cell (Some v) (λ c. next (with_cells here (here.cells ++ c ∷ [])))

-- InitializeBinding (9.1.1.1.4). A name that is declared is one of the script's scope or of the running body
abbrev pub bound_cell : Context → Binding → CellNo
bound_cell here (binding.Top c constant) = record { 0 = c }
bound_cell here (binding.Own place constant) = cell_at here place
bound_cell here other = cell_at here 0

abbrev pub initialise : Context → Binding → Value → Program → Program
initialise here bound v next = change (SettingCell (bound_cell here bound) v) next

-- ---- the world after so many cells, and those cells

unfoldable pub world_with : ℕ → World → World
world_with zero w = w
world_with (suc n) w = world_with n (changed (MakingCell None) w)

unfoldable pub fresh_cells : ℕ → World → List CellNo
fresh_cells zero w = []
fresh_cells (suc n) w = new_cell w.lists ∷ fresh_cells n (changed (MakingCell None) w)
