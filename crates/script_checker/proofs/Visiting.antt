-- Each kind of label is visited by its plan.
use Rattle.std.proofs.Common.{◌≡◌, refl, ℕ, List, [], ◌∷◌, Option, arith}
use Rattle.script_grammar.specs.declared.labels.Atom.{Atom}
use Rattle.script_grammar.specs.declared.labels.Wrap.{Wrap}
use Rattle.script_grammar.specs.declared.labels.Pair.{Pair}
use Rattle.script_grammar.specs.declared.labels.Triple.{Triple}
use Rattle.script_grammar.specs.declared.labels.Quad.{Quad}
use Rattle.script_grammar.specs.Scripts.{Parts}
use Rattle.script_grammar.specs.Tree.{first_token}
use Rattle.script_grammar.specs.Tree.{ParseTree as parse_tree}
use Rattle.script_rules.specs.Arena.{IsPair, IsPart, IsQuad, IsTriple, IsWrap, tree_at}
use Rattle.script_checker.specs.declared.machine.Machine.{Machine}
use Rattle.script_checker.specs.declared.tasks.StackedPart.{StackedPart}
use Rattle.script_checker.specs.declared.tasks.Setting.{Setting}
use Rattle.script_checker.specs.declared.tasks.Task.TheVariants as task
use Rattle.script_checker.specs.declared.made_parts.MadeParts.{MadeParts}
use Rattle.script_checker.specs.Driving.{AreTasks, Does}
use Rattle.script_checker.specs.Firsts.{for_first, pair_first, triple_first, wrap_first}
use Rattle.script_checker.specs.Machine.{around_of, below, entry, on_top, state, top}
use Rattle.script_checker.specs.Made.{Made, PartWithMade, after_triple, atom_made, before_pair, before_triple, for_made, in_for, in_pair, in_triple, in_wrap, pair_made, part, place_of, triple_made, wrap_made}
use Rattle.script_checker.specs.Settings.{Opened}
use Rattle.script_checker.specs.Spots.{IsKnown}
use Rattle.script_checker.proofs.Entering.{around_later, known_later}
use Rattle.script_checker.proofs.Steps.{for_less, for_steps, made_done, pair_less, pair_steps, triple_less, triple_steps, visited, wrap_less, wrap_steps}

pub wrap_visited : (s : Parts) (old new : Machine) (n x : ℕ) (a inner : Setting) (f : Wrap) → AreTasks s.nodes old.scopes old.tasks → IsKnown old.scopes a → IsPart s.nodes n
    → IsWrap s.nodes n f x → Opened old.scopes new.scopes (in_wrap s.leaves (around_of old.scopes a) f (tree_at s.nodes x)) inner
    → new.tasks ≡ task.Visit x inner ∷ task.Finish n a inner ∷ old.tasks → new.values ≡ old.values → new.maker ≡ old.maker → Does s old new (task.Visit n a)
wrap_visited s old new n x a inner f h k p w o ts vs ms =
    visited s old new n a (task.Visit x inner ∷ task.Finish n a inner ∷ []) h (record {
      grown = o.grown;
      tasks = ts;
      good = ((w.part, o.known), ((p, known_later old.scopes new.scopes a o.grown k, o.known), tt));
      steps = wrap_steps s.leaves (around_of old.scopes a) (around_of new.scopes a) (around_of new.scopes inner) f (tree_at s.nodes x) (tree_at s.nodes n) w.is (around_later old.scopes new.scopes a o.grown k) o.around;
      less = wrap_less s.leaves (around_of old.scopes a) f (tree_at s.nodes x) (tree_at s.nodes n) w.is;
      values = vs;
      maker = ms;
    })

pub pair_visited : (s : Parts) (old new : Machine) (n x y : ℕ) (a inner first : Setting) (f : Pair) → AreTasks s.nodes old.scopes old.tasks → IsKnown old.scopes a → IsPart s.nodes n
    → IsPair s.nodes n f x y → Opened old.scopes new.scopes (in_pair s.leaves (around_of old.scopes a) f (tree_at s.nodes x) (tree_at s.nodes y)) inner
    → around_of new.scopes first ≡ before_pair (around_of new.scopes a) (around_of new.scopes inner) f → IsKnown new.scopes first
    → new.tasks ≡ task.Visit x first ∷ task.Visit y inner ∷ task.Finish n a inner ∷ old.tasks → new.values ≡ old.values → new.maker ≡ old.maker → Does s old new (task.Visit n a)
pair_visited s old new n x y a inner first f h k p w o e l ts vs ms =
    visited s old new n a (task.Visit x first ∷ task.Visit y inner ∷ task.Finish n a inner ∷ []) h (record {
      grown = o.grown;
      tasks = ts;
      good = ((w.first, l), ((w.second, o.known), ((p, known_later old.scopes new.scopes a o.grown k, o.known), tt)));
      steps =
          pair_steps s.leaves (around_of old.scopes a) (around_of new.scopes a) (around_of new.scopes inner) (around_of new.scopes first) f (tree_at s.nodes x) (tree_at s.nodes y) (tree_at s.nodes n)
          w.is (around_later old.scopes new.scopes a o.grown k) o.around e;
      less = pair_less s.leaves (around_of old.scopes a) f (tree_at s.nodes x) (tree_at s.nodes y) (tree_at s.nodes n) w.is;
      values = vs;
      maker = ms;
    })

pub triple_visited : (s : Parts) (old new : Machine) (n x y z : ℕ) (a inner first last : Setting) (f : Triple) → AreTasks s.nodes old.scopes old.tasks → IsKnown old.scopes a → IsPart s.nodes n
    → IsTriple s.nodes n f x y z → Opened old.scopes new.scopes (in_triple s.leaves (around_of old.scopes a) f (tree_at s.nodes y) (tree_at s.nodes z)) inner
    → around_of new.scopes first ≡ before_triple (around_of new.scopes a) f → IsKnown new.scopes first → around_of new.scopes last ≡ after_triple (around_of new.scopes inner) f → IsKnown new.scopes last
    → new.tasks ≡ task.Visit x first ∷ task.Visit y inner ∷ task.Visit z last ∷ task.Finish n a inner ∷ old.tasks → new.values ≡ old.values → new.maker ≡ old.maker → Does s old new (task.Visit n a)
triple_visited s old new n x y z a inner first last f h k p w o e l e' l' ts vs ms =
    visited s old new n a (task.Visit x first ∷ task.Visit y inner ∷ task.Visit z last ∷ task.Finish n a inner ∷ []) h (record {
      grown = o.grown;
      tasks = ts;
      good = ((w.first, l), ((w.second, o.known), ((w.third, l'), ((p, known_later old.scopes new.scopes a o.grown k, o.known), tt))));
      steps =
          triple_steps s.leaves (around_of old.scopes a) (around_of new.scopes a) (around_of new.scopes inner) (around_of new.scopes first) (around_of new.scopes last) f
          (tree_at s.nodes x) (tree_at s.nodes y) (tree_at s.nodes z) (tree_at s.nodes n) w.is (around_later old.scopes new.scopes a o.grown k) o.around e e';
      less = triple_less s.leaves (around_of old.scopes a) f (tree_at s.nodes x) (tree_at s.nodes y) (tree_at s.nodes z) (tree_at s.nodes n) w.is;
      values = vs;
      maker = ms;
    })

pub for_visited : (s : Parts) (old new : Machine) (n x y z w : ℕ) (a inner : Setting) (f : Quad) → AreTasks s.nodes old.scopes old.tasks → IsKnown old.scopes a → IsPart s.nodes n
    → IsQuad s.nodes n f x y z w → Opened old.scopes new.scopes (in_for s.leaves (around_of old.scopes a) (tree_at s.nodes x)) inner
    → new.tasks ≡ task.Visit x inner ∷ task.Visit y inner ∷ task.Visit z inner ∷ task.Visit w inner ∷ task.Finish n a inner ∷ old.tasks → new.values ≡ old.values → new.maker ≡ old.maker
    → Does s old new (task.Visit n a)
for_visited s old new n x y z w a inner f h k p q o ts vs ms =
    visited s old new n a (task.Visit x inner ∷ task.Visit y inner ∷ task.Visit z inner ∷ task.Visit w inner ∷ task.Finish n a inner ∷ []) h (record {
      grown = o.grown;
      tasks = ts;
      good = ((q.first, o.known), ((q.second, o.known), ((q.third, o.known), ((q.fourth, o.known), ((p, known_later old.scopes new.scopes a o.grown k, o.known), tt)))));
      steps =
          for_steps s.leaves (around_of old.scopes a) (around_of new.scopes a) (around_of new.scopes inner) f
          (tree_at s.nodes x) (tree_at s.nodes y) (tree_at s.nodes z) (tree_at s.nodes w) (tree_at s.nodes n) q.is (around_later old.scopes new.scopes a o.grown k) o.around;
      less = for_less s.leaves (around_of old.scopes a) f (tree_at s.nodes x) (tree_at s.nodes y) (tree_at s.nodes z) (tree_at s.nodes w) (tree_at s.nodes n) q.is;
      values = vs;
      maker = ms;
    })

-- ---- what is made, on top of what was there

on_top_is : (es es' : List StackedPart) (first first' : Option ℕ) (v : MadeParts) (m : Made) (r : PartWithMade) → es' ≡ entry v first' ∷ es → first' ≡ first → part v m ≡ r → state es' m ≡ on_top es first r
on_top_is es es' first first' v m r e f g = rw (e, f, ← g) refl

pub atom_done : (s : Parts) (old new : Machine) (n : ℕ) (a : Setting) (f : Atom) (first : Option ℕ) (v : MadeParts) → AreTasks s.nodes old.scopes old.tasks → tree_at s.nodes n ≡ parse_tree.Atom f
    → first ≡ first_token (parse_tree.Atom f) → part v new.maker ≡ atom_made s.leaves (around_of old.scopes a) (place_of s.leaves first) f old.maker → new.values ≡ entry v first ∷ old.values
    → new.tasks ≡ old.tasks → new.scopes ≡ old.scopes → Does s old new (task.Visit n a)
atom_done s old new n a f first v h is e p vs ts cs =
    made_done s old new (task.Visit n a) h (rw is (omega arith)) (record {
      tasks = ts;
      scopes = cs;
      state = rw (is, ← e) (on_top_is old.values new.values first first v new.maker _ vs refl p);
    })

pub wrap_done : (s : Parts) (old new : Machine) (n x : ℕ) (a inner : Setting) (f : Wrap) (e : StackedPart) (first : Option ℕ) (v : MadeParts) → AreTasks s.nodes old.scopes old.tasks → tree_at s.nodes n ≡ parse_tree.Wrap f (tree_at s.nodes x)
    → e ≡ top old.values → first ≡ wrap_first f e.first
    → part v new.maker ≡ wrap_made s.leaves (around_of old.scopes a) (around_of old.scopes inner) (place_of s.leaves first) f e.value old.maker → new.values ≡ entry v first ∷ below old.values
    → new.tasks ≡ old.tasks → new.scopes ≡ old.scopes → Does s old new (task.Finish n a inner)
wrap_done s old new n x a inner f e first v h is te fe p vs ts cs =
    made_done s old new (task.Finish n a inner) h (omega arith) (record {
      tasks = ts;
      scopes = cs;
      state = rw (is, ← te, ← fe) (on_top_is (below old.values) new.values first first v new.maker _ vs refl p);
    })

pub pair_done : (s : Parts) (old new : Machine) (n x y : ℕ) (a inner : Setting) (f : Pair) (d e : StackedPart) (first : Option ℕ) (v : MadeParts) → AreTasks s.nodes old.scopes old.tasks
    → tree_at s.nodes n ≡ parse_tree.Pair f (tree_at s.nodes x) (tree_at s.nodes y) → d ≡ top old.values → e ≡ top (below old.values) → first ≡ pair_first f e.first
    → part v new.maker ≡ pair_made s.leaves (around_of old.scopes a) (around_of old.scopes inner) (place_of s.leaves first) f (tree_at s.nodes x) (tree_at s.nodes y) e.value d.value old.maker
    → new.values ≡ entry v first ∷ below (below old.values) → new.tasks ≡ old.tasks → new.scopes ≡ old.scopes → Does s old new (task.Finish n a inner)
pair_done s old new n x y a inner f d e first v h is td te fe p vs ts cs =
    made_done s old new (task.Finish n a inner) h (omega arith) (record {
      tasks = ts;
      scopes = cs;
      state = rw (is, ← td, ← te, ← fe) (on_top_is (below (below old.values)) new.values first first v new.maker _ vs refl p);
    })

pub triple_done : (s : Parts) (old new : Machine) (n x y z : ℕ) (a inner : Setting) (f : Triple) (b d e : StackedPart) (first : Option ℕ) (v : MadeParts) → AreTasks s.nodes old.scopes old.tasks
    → tree_at s.nodes n ≡ parse_tree.Triple f (tree_at s.nodes x) (tree_at s.nodes y) (tree_at s.nodes z) → b ≡ top old.values → d ≡ top (below old.values) → e ≡ top (below (below old.values)) → first ≡ triple_first f e.first
    → part v new.maker ≡ triple_made s.leaves (around_of old.scopes inner) (place_of s.leaves first) f (tree_at s.nodes z) e.value d.value b.value old.maker
    → new.values ≡ entry v first ∷ below (below (below old.values)) → new.tasks ≡ old.tasks → new.scopes ≡ old.scopes → Does s old new (task.Finish n a inner)
triple_done s old new n x y z a inner f b d e first v h is tb td te fe p vs ts cs =
    made_done s old new (task.Finish n a inner) h (omega arith) (record {
      tasks = ts;
      scopes = cs;
      state = rw (is, ← tb, ← td, ← te, ← fe) (on_top_is (below (below (below old.values))) new.values first first v new.maker _ vs refl p);
    })

pub for_done : (s : Parts) (old new : Machine) (n x y z w : ℕ) (a inner : Setting) (f : Quad) (b c d e : StackedPart) (first : Option ℕ) (v : MadeParts) → AreTasks s.nodes old.scopes old.tasks
    → tree_at s.nodes n ≡ parse_tree.Quad f (tree_at s.nodes x) (tree_at s.nodes y) (tree_at s.nodes z) (tree_at s.nodes w)
    → b ≡ top old.values → c ≡ top (below old.values) → d ≡ top (below (below old.values)) → e ≡ top (below (below (below old.values))) → first ≡ for_first f
    → part v new.maker ≡ for_made (around_of old.scopes inner) (place_of s.leaves first) e.value d.value c.value b.value old.maker
    → new.values ≡ entry v first ∷ below (below (below (below old.values))) → new.tasks ≡ old.tasks → new.scopes ≡ old.scopes → Does s old new (task.Finish n a inner)
for_done s old new n x y z w a inner f b c d e first v h is tb tc td te fe p vs ts cs =
    made_done s old new (task.Finish n a inner) h (omega arith) (record {
      tasks = ts;
      scopes = cs;
      state = rw (is, ← tb, ← tc, ← td, ← te, ← fe) (on_top_is (below (below (below (below old.values)))) new.values first first v new.maker _ vs refl p);
    })
