-- A text of a line, behind a space where it is not the first.
use Rattle.std.specs.Prelude.{ℕ, zero, suc, List, ◌∷◌}
use Rattle.property_keys.specs.declared.values.Value.{Value}
use Rattle.es_model.specs.World.{Lists}
use Rattle.es_serve.specs.Lines.{text_bytes}

abbrev pub separated : Lists → ℕ → Value → List ℕ
separated l zero t = text_bytes l t
separated l (suc n) t = 32 ∷ text_bytes l t
