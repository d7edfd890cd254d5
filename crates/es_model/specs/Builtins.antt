-- The built-in functions, by their rows: the one place where a stage that builds more of them adds rows. First stand the rows of the start objects, each at the
-- object's number.
use Rattle.std.specs.Prelude.{ℕ, Bool, false, Option, Some, None, List, map, slice_index_or}
use Rattle.es_model.specs.declared.kinds.ObjectKind.{ObjectKind}
use Rattle.es_model.specs.declared.kinds.ObjectKind.TheVariants as kind_of
use Rattle.es_model.specs.declared.intrinsics.Intrinsic.{Intrinsic}
use Rattle.es_model.specs.StartTable.{start_kind}
use Rattle.es_model.specs.StartWorld.{all_intrinsics}

-- whether the function constructs, and whether it is a revoke function (28.2.2.1)
pub record BuiltinFacts : Type 0 where
  pub constructs : Bool
  pub revokes : Bool

-- no start object is a revoke function
abbrev pub facts_of : ObjectKind → Option BuiltinFacts
facts_of (kind_of.Builtin row constructor proxy) = Some (record { constructs = constructor; revokes = false })
facts_of other = None

abbrev pub start_row : Intrinsic → Option BuiltinFacts
start_row i = facts_of (start_kind i)

-- at the number of a start object that is no function is no row
abbrev pub builtin_rows : List (Option BuiltinFacts)
builtin_rows = map start_row all_intrinsics

-- what is known of the function of a row, if there is one
abbrev pub builtin_facts : ℕ → Option BuiltinFacts
builtin_facts row = slice_index_or builtin_rows row None
