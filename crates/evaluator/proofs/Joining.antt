-- Texts and their keys, over plain variables.
use Rattle.std.proofs.Common.{◌≡◌, ◌&&◌, ℕ, Bool, true, cond, Option, Some, None, List, [], ◌+◌, ◌++◌, length, nat_le, is_some, sym, ◌∙◌, ap, lit<}
use Rattle.std.proofs.lemmas.Fmt.{decimal_digit}
use Rattle.std.specs.Option.{option_map_or}
use Rattle.std.specs.Str.{bytes_eq}
use Rattle.property_keys.specs.declared.identifiers.TextId.{TextId}
use Rattle.property_keys.specs.declared.keys.PropKey.TheVariants.{Index, Name}
use Rattle.property_keys.specs.Keys.{key_of, most_index}
use Rattle.es_model.specs.Changes.{Interning, changed}
use Rattle.es_model.specs.Program.{Program, intern}
use Rattle.property_keys.specs.Limits.{most_units}
use Rattle.es_model.specs.Stages.{stage_of}
use Rattle.es_model.specs.World.{World, number_of, units_of}
use Rattle.evaluator.specs.Errors.{join, make_text, text_too_long}

-- the empty text is no array index
pub empty_key : (t : TextId) → key_of [] t ≡ Name t
empty_key t = ap (λ (digits : List ℕ). option_map_or Index (cond (nat_le 0 most_index && bytes_eq [] digits) (Some 0) None) (Name t)) (decimal_digit 0 (lit< tt))

-- where a text is short enough, its number is taken
pub text_stage : (units : List ℕ) (next : TextId → Program) (w : World) (id : TextId) → nat_le (length units) most_units ≡ true → id ≡ number_of w.lists units →
    stage_of (make_text units next) w ≡ stage_of (next id) (changed (Interning units) w)
text_stage units next w id short number =
    ap (λ (c : Bool). stage_of (cond c (intern units next) text_too_long) w) short ∙ ap (λ i. stage_of (next i) (changed (Interning units) w)) (sym number)

-- where both fit into one text, its number is taken
pub joined_stage : (a b : TextId) (next : TextId → Program) (w : World) (x : Option TextId) (id : TextId) → x ≡ Some id →
    nat_le (length (units_of w.lists a) + length (units_of w.lists b)) most_units ≡ is_some x → id ≡ number_of w.lists (units_of w.lists a ++ units_of w.lists b) →
    stage_of (join a b next) w ≡ stage_of (next id) (changed (Interning (units_of w.lists a ++ units_of w.lists b)) w)
joined_stage a b next w x id found fits number =
    ap (λ (c : Bool). stage_of (cond c (intern (units_of w.lists a ++ units_of w.lists b) next) text_too_long) w) (fits ∙ ap is_some found)
    ∙ ap (λ i. stage_of (next i) (changed (Interning (units_of w.lists a ++ units_of w.lists b)) w)) (sym number)
