-- Own code is gone over part by part.
use Rattle.std.proofs.Common.{◌≡◌, ◌<◌, ◌∙◌, ◌++◌, ap, sym, refl, ℕ, suc, ◌+◌, Bool, true, false, ◌||◌, List, [], ◌∷◌, flat_map, append_assoc, append-nil, arith}
use Rattle.std.specs.List.{list_any}
use Rattle.std.proofs.lemmas.Grind.{flat_map-append}
use Rattle.property_keys.specs.Texts.{interned}
use Rattle.script_grammar.specs.declared.leaf.Leaf.{Leaf}
use Rattle.script_grammar.specs.declared.labels.Atom.{Atom}
use Rattle.script_grammar.specs.declared.labels.Atom.TheVariants as atom
use Rattle.script_grammar.specs.declared.labels.Pair.{Pair}
use Rattle.script_grammar.specs.declared.labels.Pair.TheVariants as pair
use Rattle.script_grammar.specs.declared.labels.Triple.{Triple}
use Rattle.script_grammar.specs.declared.labels.Triple.TheVariants as triple
use Rattle.script_grammar.specs.declared.node.ParseNode.{ParseNode}
use Rattle.script_grammar.specs.Tree.{ParseTree}
use Rattle.script_grammar.specs.Tree.{ParseTree as parse_tree}
use Rattle.script_rules.specs.Arena.{ArePart, tree_at, trees_at}
use Rattle.script_checker.specs.Own.{assigned_name, names_arguments, names_of_this, with_each}
use Rattle.script_checker.specs.OwnWalk.{GoesOver, assigned_here, own_in_pair, own_in_triple, own_parts, size, sizes, uses_here}

-- ---- or, over lists

or_assoc : (a b c : Bool) → ((a || b) || c) ≡ (a || (b || c))
or_assoc true b c = refl
or_assoc false b c = refl

or_false : (a : Bool) → (a || false) ≡ a
or_false true = refl
or_false false = refl

any_append : (p : ParseTree → Bool) (xs ys : List ParseTree) → list_any p (xs ++ ys) ≡ (list_any p xs || list_any p ys)
any_append p [] ys = refl
any_append p (x ∷ xs) ys = ap (λ b. p x || b) (any_append p xs ys) ∙ sym (or_assoc (p x) (list_any p xs) (list_any p ys))

each_append : (seen xs ys : List (List ℕ)) → with_each seen (xs ++ ys) ≡ with_each (with_each seen xs) ys
each_append seen [] ys = refl
each_append seen (x ∷ xs) ys = each_append (interned seen x) xs ys

-- ---- a part says what it says itself and what its own parts say

any2 : (a b : Bool) → (a || b) ≡ (a || (b || false))
any2 a b = ap (λ c. a || c) (sym (or_false b))

any3 : (a b c : Bool) → (a || b || c) ≡ (a || (b || (c || false)))
any3 a b c = or_assoc a b c ∙ ap (λ d. a || (b || d)) (sym (or_false c))

any4 : (a b c d : Bool) → (a || b || c || d) ≡ (a || (b || (c || (d || false))))
any4 a b c d = or_assoc (a || b) c d ∙ or_assoc a b (c || d) ∙ ap (λ e. a || (b || (c || e))) (sym (or_false d))

uses_atom : (leaves : List Leaf) (f : Atom) → names_arguments leaves (parse_tree.Atom f) ≡ (uses_here leaves (parse_tree.Atom f) || false)
uses_atom leaves atom.Nothing = refl
uses_atom leaves (atom.This i) = refl
uses_atom leaves (atom.Null i) = refl
uses_atom leaves (atom.Bool b i) = refl
uses_atom leaves (atom.Name i) = sym (or_false _)
uses_atom leaves (atom.Number i) = refl
uses_atom leaves (atom.Text i) = refl
uses_atom leaves atom.Hole = refl
uses_atom leaves (atom.Shorthand i) = sym (or_false _)
uses_atom leaves (atom.Key i) = refl
uses_atom leaves (atom.Binding i) = refl
uses_atom leaves (atom.Empty i) = refl
uses_atom leaves (atom.Break i) = refl
uses_atom leaves (atom.Continue i) = refl
uses_atom leaves (atom.Return i) = refl

uses_pair : (leaves : List Leaf) (f : Pair) (x y : ParseTree) → names_arguments leaves (parse_tree.Pair f x y) ≡ list_any (names_arguments leaves) (own_in_pair f x y)
uses_pair leaves pair.And x y = any2 _ _
uses_pair leaves pair.Comma x y = any2 _ _
uses_pair leaves (pair.Assign op) x y = any2 _ _
uses_pair leaves (pair.Short op) x y = any2 _ _
uses_pair leaves (pair.Binary op) x y = any2 _ _
uses_pair leaves (pair.Index square) x y = any2 _ _
uses_pair leaves pair.Call x y = any2 _ _
uses_pair leaves (pair.New i) x y = any2 _ _
uses_pair leaves (pair.Function i) x y = refl
uses_pair leaves (pair.NamedFunction i name) x y = refl
uses_pair leaves (pair.DeclaredFunction i name) x y = refl
uses_pair leaves pair.Property x y = any2 _ _
uses_pair leaves (pair.Getter i) x y = sym (or_false _)
uses_pair leaves (pair.Setter i parameter) x y = sym (or_false _)
uses_pair leaves (pair.If i) x y = any2 _ _
uses_pair leaves (pair.While i) x y = any2 _ _

uses_triple : (leaves : List Leaf) (f : Triple) (x y z : ParseTree) → names_arguments leaves (parse_tree.Triple f x y z) ≡ list_any (names_arguments leaves) (own_in_triple f x y z)
uses_triple leaves triple.Conditional x y z = any3 (names_arguments leaves x) (names_arguments leaves y) (names_arguments leaves z)
uses_triple leaves (triple.IfElse i) x y z = any3 (names_arguments leaves x) (names_arguments leaves y) (names_arguments leaves z)
uses_triple leaves triple.Method x y z = sym (or_false _)
uses_triple leaves (triple.Try i) x y z = any3 (names_arguments leaves x) (names_arguments leaves y) (names_arguments leaves z)

uses_is : (leaves : List Leaf) (x : ParseTree) → names_arguments leaves x ≡ (uses_here leaves x || list_any (names_arguments leaves) (own_parts x))
uses_is leaves (parse_tree.Atom f) = uses_atom leaves f
uses_is leaves (parse_tree.Wrap f x) = sym (or_false _)
uses_is leaves (parse_tree.Pair f x y) = uses_pair leaves f x y
uses_is leaves (parse_tree.Triple f x y z) = uses_triple leaves f x y z
uses_is leaves (parse_tree.Quad f x y z w) = any4 (names_arguments leaves x) (names_arguments leaves y) (names_arguments leaves z) (names_arguments leaves w)

-- ---- the same of names

all1 : (a : List (List ℕ)) → a ≡ a ++ []
all1 a = sym (append-nil a)

all2 : (a b : List (List ℕ)) → a ++ b ≡ a ++ (b ++ [])
all2 a b = ap (λ c. a ++ c) (sym (append-nil b))

all3 : (a b c : List (List ℕ)) → a ++ b ++ c ≡ a ++ (b ++ (c ++ []))
all3 a b c = append_assoc a b c ∙ ap (λ d. a ++ (b ++ d)) (sym (append-nil c))

all4 : (a b c d : List (List ℕ)) → a ++ b ++ c ++ d ≡ a ++ (b ++ (c ++ (d ++ [])))
all4 a b c d = append_assoc (a ++ b) c d ∙ append_assoc a b (c ++ d) ∙ ap (λ e. a ++ (b ++ (c ++ e))) (sym (append-nil d))

names_pair : (leaves : List Leaf) (f : Pair) (x y : ParseTree) → names_of_this leaves (parse_tree.Pair f x y) ≡ assigned_here leaves (parse_tree.Pair f x y) ++ flat_map (names_of_this leaves) (own_in_pair f x y)
names_pair leaves pair.And x y = all2 _ _
names_pair leaves pair.Comma x y = all2 _ _
names_pair leaves (pair.Assign op) x y = all3 (assigned_name leaves op x) (names_of_this leaves x) (names_of_this leaves y)
names_pair leaves (pair.Short op) x y = all2 _ _
names_pair leaves (pair.Binary op) x y = all2 _ _
names_pair leaves (pair.Index square) x y = all2 _ _
names_pair leaves pair.Call x y = all2 _ _
names_pair leaves (pair.New i) x y = all2 _ _
names_pair leaves (pair.Function i) x y = refl
names_pair leaves (pair.NamedFunction i name) x y = refl
names_pair leaves (pair.DeclaredFunction i name) x y = refl
names_pair leaves pair.Property x y = all2 _ _
names_pair leaves (pair.Getter i) x y = all1 _
names_pair leaves (pair.Setter i parameter) x y = all1 _
names_pair leaves (pair.If i) x y = all2 _ _
names_pair leaves (pair.While i) x y = all2 _ _

names_triple : (leaves : List Leaf) (f : Triple) (x y z : ParseTree) → names_of_this leaves (parse_tree.Triple f x y z) ≡ flat_map (names_of_this leaves) (own_in_triple f x y z)
names_triple leaves triple.Conditional x y z = all3 (names_of_this leaves x) (names_of_this leaves y) (names_of_this leaves z)
names_triple leaves (triple.IfElse i) x y z = all3 (names_of_this leaves x) (names_of_this leaves y) (names_of_this leaves z)
names_triple leaves triple.Method x y z = all1 _
names_triple leaves (triple.Try i) x y z = all3 (names_of_this leaves x) (names_of_this leaves y) (names_of_this leaves z)

names_are : (leaves : List Leaf) (x : ParseTree) → names_of_this leaves x ≡ assigned_here leaves x ++ flat_map (names_of_this leaves) (own_parts x)
names_are leaves (parse_tree.Atom f) = refl
names_are leaves (parse_tree.Wrap f x) = all1 _
names_are leaves (parse_tree.Pair f x y) = names_pair leaves f x y
names_are leaves (parse_tree.Triple f x y z) = names_triple leaves f x y z
names_are leaves (parse_tree.Quad f x y z w) = all4 (names_of_this leaves x) (names_of_this leaves y) (names_of_this leaves z) (names_of_this leaves w)

-- ---- one part more

pub goes_over : (leaves : List Leaf) (ns : List ParseNode) (body n : ℕ) (rest rest' : List ℕ) (names : List (List ℕ)) (arguments : Bool)
    → GoesOver leaves ns body (n ∷ rest) names arguments → ArePart ns rest' → trees_at ns rest' ≡ own_parts (tree_at ns n) ++ trees_at ns rest
    → GoesOver leaves ns body rest' (with_each names (assigned_here leaves (tree_at ns n))) (arguments || uses_here leaves (tree_at ns n))
goes_over leaves ns body n rest rest' names arguments g parts e =
    let x = tree_at ns n in
    let own = own_parts x in
    let is = names_of_this leaves in
    let uses = names_arguments leaves in
    record {
      parts = parts;
      names =
          ap (λ (ts : List ParseTree). with_each (with_each names (assigned_here leaves x)) (flat_map is ts)) e
          ∙ ap (λ (us : List (List ℕ)). with_each (with_each names (assigned_here leaves x)) us) (flat_map-append is own (trees_at ns rest))
          ∙ each_append (with_each names (assigned_here leaves x)) (flat_map is own) (flat_map is (trees_at ns rest))
          ∙ ap (λ (us : List (List ℕ)). with_each us (flat_map is (trees_at ns rest))) (sym (each_append names (assigned_here leaves x) (flat_map is own)) ∙ ap (with_each names) (sym (names_are leaves x)))
          ∙ sym (each_append names (is x) (flat_map is (trees_at ns rest)))
          ∙ g.names;
      arguments =
          ap (λ (ts : List ParseTree). (arguments || uses_here leaves x) || list_any uses ts) e
          ∙ ap (λ b. (arguments || uses_here leaves x) || b) (any_append uses own (trees_at ns rest))
          ∙ or_assoc arguments (uses_here leaves x) (list_any uses own || list_any uses (trees_at ns rest))
          ∙ ap (λ b. arguments || b) (sym (or_assoc (uses_here leaves x) (list_any uses own) (list_any uses (trees_at ns rest))))
          ∙ ap (λ b. arguments || (b || list_any uses (trees_at ns rest))) (sym (uses_is leaves x))
          ∙ g.arguments;
    }

-- ---- what is left grows smaller

sizes_append : (xs ys : List ParseTree) → sizes (xs ++ ys) ≡ sizes xs + sizes ys
sizes_append [] ys = omega arith
sizes_append (x ∷ xs) ys = omega (arith, sizes_append xs ys)

less_pair : (f : Pair) (x y : ParseTree) → sizes (own_in_pair f x y) < suc (size x + size y)
less_pair pair.And x y = omega arith
less_pair pair.Comma x y = omega arith
less_pair (pair.Assign op) x y = omega arith
less_pair (pair.Short op) x y = omega arith
less_pair (pair.Binary op) x y = omega arith
less_pair (pair.Index square) x y = omega arith
less_pair pair.Call x y = omega arith
less_pair (pair.New i) x y = omega arith
less_pair (pair.Function i) x y = omega arith
less_pair (pair.NamedFunction i name) x y = omega arith
less_pair (pair.DeclaredFunction i name) x y = omega arith
less_pair pair.Property x y = omega arith
less_pair (pair.Getter i) x y = omega arith
less_pair (pair.Setter i parameter) x y = omega arith
less_pair (pair.If i) x y = omega arith
less_pair (pair.While i) x y = omega arith

less_triple : (f : Triple) (x y z : ParseTree) → sizes (own_in_triple f x y z) < suc (size x + size y + size z)
less_triple triple.Conditional x y z = omega arith
less_triple (triple.IfElse i) x y z = omega arith
less_triple triple.Method x y z = omega arith
less_triple (triple.Try i) x y z = omega arith

less : (x : ParseTree) → sizes (own_parts x) < size x
less (parse_tree.Atom f) = omega arith
less (parse_tree.Wrap f x) = omega arith
less (parse_tree.Pair f x y) = less_pair f x y
less (parse_tree.Triple f x y z) = less_triple f x y z
less (parse_tree.Quad f x y z w) = omega arith

pub smaller : (ns : List ParseNode) (n : ℕ) (rest rest' : List ℕ) → trees_at ns rest' ≡ own_parts (tree_at ns n) ++ trees_at ns rest → sizes (trees_at ns rest') < sizes (trees_at ns (n ∷ rest))
smaller ns n rest rest' e = omega (arith, ap sizes e, sizes_append (own_parts (tree_at ns n)) (trees_at ns rest), less (tree_at ns n))
