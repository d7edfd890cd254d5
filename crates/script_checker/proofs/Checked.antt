-- What the machine makes of a script is the script's tree.
use Rattle.std.proofs.Common.{◌≡◌, ◌∙◌, ap, sym, refl, subst, ℕ, Bool, List, [], None}
use Rattle.es_tree.specs.Tree.{IsTree}
use Rattle.script_grammar.specs.declared.leaf.Leaf.{Leaf}
use Rattle.script_grammar.specs.Tree.{ParseTree}
use Rattle.script_rules.specs.declared.role.Role.TheVariants as role
use Rattle.script_rules.specs.declared.scope.Scope.{Scope}
use Rattle.script_rules.specs.Chains.{Enters, names_in}
use Rattle.script_rules.specs.Names.{declared_in}
use Rattle.script_rules.specs.Scopes.{script_scope}
use Rattle.script_checker.specs.declared.machine.Machine.{Machine}
use Rattle.script_checker.specs.declared.tasks.Setting.{Setting}
use Rattle.script_checker.specs.Driving.{tree_from}
use Rattle.script_checker.specs.Machine.{Visit, after, around_of, state}
use Rattle.script_checker.specs.Own.{is_strict}
use Rattle.script_checker.specs.Made.{Around, around_script, checked_tree, made, nothing_made}
use Rattle.script_checker.specs.Making.{HasRoom}
use Rattle.script_checker.proofs.Good.{good_script}

-- the script's scope is the first one
pub around_entered : (leaves : List Leaf) (x : ParseTree) (old new : List (List Scope)) (s : Scope) (set : Setting) → old ≡ [] → Enters old new None s set.scope → s ≡ script_scope leaves (declared_in x)
    → set.strict ≡ is_strict leaves x → set.role ≡ role.Plain → around_of new set ≡ around_script leaves x
around_entered leaves x old new s set none e is strict plain = rw (e.chains, e.last, none, is, strict, plain) refl

module _ (leaves : List Leaf) (x : ParseTree) (m : Machine) (a : Around) (names : ℕ) (strict : Bool) (is : a ≡ around_script leaves x) (ends : state m.values m.maker ≡ after leaves (Visit a x) (state [] nothing_made))
    (count : names ≡ names_in a.scopes) (same : strict ≡ a.strict) where
  is_made : m.maker ≡ (made leaves (around_script leaves x) x nothing_made).made
  is_made = ap (λ s. s.made) ends ∙ ap (λ b. (made leaves b x nothing_made).made) is

  -- it is the tree of the definition
  pub whole : tree_from m names strict ≡ checked_tree leaves x
  whole = rw (ap (λ s. s.values) ends, is_made, count, same, is) refl

  pub good : HasRoom m.maker → IsTree (tree_from m names strict)
  good room = subst IsTree (sym whole) (good_script leaves x (subst HasRoom is_made room))
