-- Laws over the world in which a run begins.
use Rattle.std.specs.Prelude.{◌≡◌, ℕ, Some, length, slice_get}
use Rattle.es_model.specs.declared.intrinsics.Intrinsic.{Intrinsic}
use Rattle.es_model.specs.declared.start_texts.StartText.{StartText}
use Rattle.es_model.specs.declared.start_texts.StartText.TheVariants as start_text
use Rattle.es_model.specs.declared.start_texts.WellKnown.{WellKnown}
use Rattle.es_tree.specs.Tree.{Tree}
use Rattle.es_model.specs.World.{text_place}
use Rattle.es_model.specs.StartObjects.{start_number, start_objects}
use Rattle.es_model.specs.StartTexts.{symbol_number, text_number, text_of, units_of_start, start_texts, start_symbols}
use Rattle.es_model.specs.StartWorld.{start_lists, start_object, start_world}
use Rattle.es_model.specs.Sound.{IsSound}

-- ---- order

-- each start object stands at its number, and there are no others
abbrev pub ObjectsAreInOrder : Type 0
ObjectsAreInOrder =
    ((i : Intrinsic) → slice_get start_lists.objects (start_number i) ≡ Some (start_object i))
    × (length start_lists.objects ≡ start_objects)

-- each well-known Symbol stands at its number, with its description
abbrev pub SymbolsAreInOrder : Type 0
SymbolsAreInOrder = (s : WellKnown) → slice_get start_symbols (symbol_number s) ≡ Some (Some (text_of (start_text.Description s)))

-- each start text stands at its number, and is found there
abbrev pub TextsAreInOrder : Type 0
TextsAreInOrder =
    (t : StartText) → (slice_get start_texts (text_number t) ≡ Some (units_of_start t)) × (text_place start_texts (units_of_start t) ≡ text_number t)

-- ---- soundness

-- a run begins in a sound world
abbrev pub StartIsSound : Type 0
StartIsSound = (script : Tree) (turns : ℕ) → IsSound (start_world script turns)
