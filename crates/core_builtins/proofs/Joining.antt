-- Texts that are joined, over plain variables.
use Rattle.std.proofs.Common.{◌≡◌, cond, Bool, Option, Some, ◌+◌, ◌++◌, length, nat_le, is_some, sym, ◌∙◌, ap}
use Rattle.property_keys.specs.declared.identifiers.TextId.{TextId}
use Rattle.property_keys.specs.Limits.{most_units}
use Rattle.es_model.specs.Changes.{Interning, changed}
use Rattle.es_model.specs.Program.{Program, intern}
use Rattle.es_model.specs.Stages.{stage_of}
use Rattle.es_model.specs.World.{World, number_of, units_of}
use Rattle.es_model.specs.programs.Texts.{join, text_too_long}

-- where both fit into one text, its number is taken
pub joined_stage : (a b : TextId) (next : TextId → Program) (w : World) (x : Option TextId) (id : TextId) → x ≡ Some id →
    nat_le (length (units_of w.lists a) + length (units_of w.lists b)) most_units ≡ is_some x → id ≡ number_of w.lists (units_of w.lists a ++ units_of w.lists b) →
    stage_of (join a b next) w ≡ stage_of (next id) (changed (Interning (units_of w.lists a ++ units_of w.lists b)) w)
joined_stage a b next w x id found fits number =
    ap (λ (c : Bool). stage_of (cond c (intern (units_of w.lists a ++ units_of w.lists b) next) text_too_long) w) (fits ∙ ap is_some found)
    ∙ ap (λ i. stage_of (next i) (changed (Interning (units_of w.lists a ++ units_of w.lists b)) w)) (sym number)
