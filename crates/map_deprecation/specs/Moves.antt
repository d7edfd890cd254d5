-- What changes between the fields of two maps of one path.
use Rattle.std.specs.Prelude.{◌≡◌, Bool, true, false, List, [], ◌∷◌, ◌++◌, map, if◌then◌else◌}
use Rattle.map_store.specs.declared.entries.Entry.{Entry}
use Rattle.map_store.specs.declared.entries.Representation.{Representation}
use Rattle.map_store.specs.declared.entries.Representation.TheVariants as representation
use Rattle.transition_tree.specs.Paths.{bare}
use Rattle.map_deprecation.specs.declared.moves.Move.{Move}

abbrev pub AreOfOnePath : List Entry → List Entry → Type 0
AreOfOnePath es fs = map bare es ≡ map bare fs

abbrev pub same_representation : Representation → Representation → Bool
same_representation representation.None representation.None = true
same_representation representation.Smi representation.Smi = true
same_representation representation.Whole representation.Whole = true
same_representation representation.Ref representation.Ref = true
same_representation representation.Tagged representation.Tagged = true
same_representation representation.Pair representation.Pair = true
same_representation a b = false

abbrev pub change_of : Entry → Entry → List Move
change_of e f =
    if same_representation e.representation f.representation then []
    else record { place = e.place; old = e.representation; new = f.representation } ∷ []

abbrev pub moves_of : List Entry → List Entry → List Move
moves_of [] fs = []
moves_of (e ∷ es) [] = []
moves_of (e ∷ es) (f ∷ fs) = change_of e f ++ moves_of es fs
