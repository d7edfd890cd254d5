-- The table of Symbols (ECMA-262, 6.1.5): the list of their descriptions, in which a Symbol's place is its number.
use Rattle.std.specs.Prelude.{◌≡◌, ◌++◌, ◌∷◌, [], List, Option, Ok, Err, Result, length}
use Rattle.property_keys.specs.declared.identifiers.SymbolId.{SymbolId}
use Rattle.property_keys.specs.declared.identifiers.TextId.{TextId}

-- a new Symbol stands last; after an error the table is as before
abbrev pub MakesSymbol : {E : Type 0} → List (Option TextId) → List (Option TextId) → Option TextId → Result SymbolId E → Type 0
MakesSymbol old new description (Ok symbol) = (symbol.0 ≡ length old) × (new ≡ old ++ description ∷ [])
MakesSymbol old new description (Err fault) = new ≡ old
