-- The tree of any part is a good one, where what stood before it is.
use Rattle.std.proofs.Common.{◌≡◌, ◌<◌, ◌≤◌, ◌++◌, ap, sym, refl, subst, ℕ, ◌+◌, Bool, true, false, if◌then◌else◌, List, [], ◌∷◌, length, length-append, flat_map, Option, Some, None, arith}
use Rattle.std.specs.List.{AllByRecursion}
use Rattle.es_tree.specs.declared.body.Body.{Body}
use Rattle.es_tree.specs.declared.expressions.Access.TheVariants as access
use Rattle.es_tree.specs.declared.expressions.Operator.TheVariants as operator
use Rattle.es_tree.specs.declared.facts.LiteralFacts.{LiteralFacts}
use Rattle.es_tree.specs.declared.node.Node.{Node}
use Rattle.es_tree.specs.declared.node.Node.TheVariants as node
use Rattle.es_tree.specs.declared.numbers.NodeId.{NodeId}
use Rattle.es_tree.specs.declared.numbers.SiteId.{SiteId}
use Rattle.es_source.specs.declared.place.Place.{Place}
use Rattle.es_tree.specs.declared.primaries.Primary.TheVariants as primary
use Rattle.es_tree.specs.declared.primaries.Property.{Property}
use Rattle.es_tree.specs.declared.primaries.Property.TheVariants as property
use Rattle.es_tree.specs.declared.statements.Block.{Block}
use Rattle.es_tree.specs.declared.statements.Declared.{Declared}
use Rattle.es_tree.specs.declared.statements.Statement.TheVariants as statement
use Rattle.es_tree.specs.Tree.{IsBody, IsTree, NamesKnown, catch_children, key_children, last_children, optional, property_children, target_children}
use Rattle.script_grammar.specs.declared.leaf.Leaf.{Leaf}
use Rattle.script_grammar.specs.declared.labels.Atom.{Atom}
use Rattle.script_grammar.specs.declared.labels.Atom.TheVariants as atom
use Rattle.script_grammar.specs.declared.labels.Wrap.{Wrap}
use Rattle.script_grammar.specs.declared.labels.Wrap.TheVariants as wrap
use Rattle.script_grammar.specs.declared.labels.Pair.{Pair}
use Rattle.script_grammar.specs.declared.labels.Pair.TheVariants as pair
use Rattle.script_grammar.specs.declared.labels.Triple.{Triple}
use Rattle.script_grammar.specs.declared.labels.Triple.TheVariants as triple
use Rattle.script_grammar.specs.Tree.{ParseTree}
use Rattle.script_grammar.specs.Tree.{ParseTree as parse_tree}
use Rattle.script_rules.specs.declared.role.Role.{Role}
use Rattle.script_rules.specs.Chains.{names_in}
use Rattle.script_checker.specs.declared.made_parts.MadePart.{MadePart}
use Rattle.script_checker.specs.declared.made_parts.MadePart.TheVariants as made_part
use Rattle.script_checker.specs.declared.made_parts.MadeParts.{MadeParts}
use Rattle.script_checker.specs.declared.made_parts.MadeParts.TheVariants as made_parts
use Rattle.script_checker.specs.Made.{Around, Made, PartWithMade, accessed, add_literal, add_node, add_site, add_site_where, after_triple, around_script, atom_made, before_pair, before_triple, block_made, body_of, checked_tree, comma_made, declaration_made, expression_made, for_made, function_made, in_for, in_pair, in_triple, in_wrap, is_front, is_part, is_read, is_target_role, is_written, made, method_added, method_function, name_made, named, next_function, next_node, nothing_made, one, pair_made, part, place_in, place_of, property_of, script_body, script_tree, sets_prototype, site_where, triple_made, with_object, with_operator, with_primary, with_statement, with_two, wrap_made}
use Rattle.script_checker.specs.Making.{HasRoom}
use Rattle.script_checker.specs.Values.{binds_in, block_of, elements_in, front_of, functions_in, item_of, key_of, node_of, nodes_in, optional_block, optional_catch, optional_node, parts_of, properties_in, target_of}
use Rattle.script_checker.proofs.Known.{AllHold, AllName, Below, Functions, Good, GoodPart, Holds, IsThere, KnownItem, KnownItems, KnownValue, Names, Reaches, add_node_good, after_others, all_later, all_more, below_append, bodies_later, further, item_later, items_later, names_later, node_reaches, node_there, ordered, stays, there_below, unchanged, value_later, with_node_good, with_one_good}

-- ---- parts of one kind

optional_there : (m : Made) (x : MadePart) → KnownItem m x → IsThere m (optional_node x)
optional_there m made_part.Nothing k = tt
optional_there m (made_part.Node n) k = k
optional_there m made_part.Hole k = tt
optional_there m (made_part.Name n) k = tt
optional_there m (made_part.Bind d) k = tt
optional_there m (made_part.Key y) k = tt
optional_there m (made_part.Property p) k = tt
optional_there m (made_part.Block b) k = tt
optional_there m (made_part.Catch c) k = tt
optional_there m (made_part.Function f own) k = tt

item_known : (m : Made) (v : MadeParts) → KnownValue m v → KnownItem m (item_of v)
item_known m (made_parts.One x) k = k
item_known m (made_parts.Many xs) k = tt

parts_known : (m : Made) (v : MadeParts) → KnownValue m v → KnownItems m (parts_of v)
parts_known m (made_parts.One x) k = tt
parts_known m (made_parts.Many xs) k = k

front_known : (m : Made) (v : MadeParts) → KnownValue m v → KnownItems m (front_of v)
front_known m (made_parts.One x) k = (k, tt)
front_known m (made_parts.Many xs) k = k

node_known : (m : Made) (v : MadeParts) → KnownValue m v → IsThere m (node_of v)
node_known m v k = optional_there m (item_of v) (item_known m v k)

target_below : (m : Made) (x : MadePart) → KnownItem m x → Below (length m.nodes) (target_children (target_of x))
target_below m made_part.Nothing k = tt
target_below m (made_part.Node n) k = (k, tt)
target_below m made_part.Hole k = tt
target_below m (made_part.Name n) k = tt
target_below m (made_part.Bind d) k = tt
target_below m (made_part.Key y) k = tt
target_below m (made_part.Property p) k = tt
target_below m (made_part.Block b) k = tt
target_below m (made_part.Catch c) k = tt
target_below m (made_part.Function f own) k = tt

key_below : (m : Made) (x : MadePart) → KnownItem m x → Below (length m.nodes) (key_children (key_of x))
key_below m made_part.Nothing k = tt
key_below m (made_part.Node n) k = tt
key_below m made_part.Hole k = tt
key_below m (made_part.Name n) k = tt
key_below m (made_part.Bind d) k = tt
key_below m (made_part.Key y) k = k
key_below m (made_part.Property p) k = tt
key_below m (made_part.Block b) k = tt
key_below m (made_part.Catch c) k = tt
key_below m (made_part.Function f own) k = tt

block_below : (m : Made) (x : MadePart) → KnownItem m x → Below (length m.nodes) (block_of x).items
block_below m made_part.Nothing k = tt
block_below m (made_part.Node n) k = tt
block_below m made_part.Hole k = tt
block_below m (made_part.Name n) k = tt
block_below m (made_part.Bind d) k = tt
block_below m (made_part.Key y) k = tt
block_below m (made_part.Property p) k = tt
block_below m (made_part.Block b) k = k
block_below m (made_part.Catch c) k = tt
block_below m (made_part.Function f own) k = tt

last_below : (m : Made) (x : MadePart) → KnownItem m x → Below (length m.nodes) (last_children (optional_block x))
last_below m made_part.Nothing k = tt
last_below m (made_part.Node n) k = tt
last_below m made_part.Hole k = tt
last_below m (made_part.Name n) k = tt
last_below m (made_part.Bind d) k = tt
last_below m (made_part.Key y) k = tt
last_below m (made_part.Property p) k = tt
last_below m (made_part.Block b) k = k
last_below m (made_part.Catch c) k = tt
last_below m (made_part.Function f own) k = tt

catch_below : (m : Made) (x : MadePart) → KnownItem m x → Below (length m.nodes) (catch_children (optional_catch x))
catch_below m made_part.Nothing k = tt
catch_below m (made_part.Node n) k = tt
catch_below m made_part.Hole k = tt
catch_below m (made_part.Name n) k = tt
catch_below m (made_part.Bind d) k = tt
catch_below m (made_part.Key y) k = tt
catch_below m (made_part.Property p) k = tt
catch_below m (made_part.Block b) k = tt
catch_below m (made_part.Catch c) k = k
catch_below m (made_part.Function f own) k = tt

-- ---- lists

nodes_below : (m : Made) (xs : List MadePart) → KnownItems m xs → Below (length m.nodes) (nodes_in xs)
nodes_below m [] k = tt
nodes_below m (made_part.Nothing ∷ xs) k = nodes_below m xs k.1
nodes_below m (made_part.Node n ∷ xs) k = (k.0, nodes_below m xs k.1)
nodes_below m (made_part.Hole ∷ xs) k = nodes_below m xs k.1
nodes_below m (made_part.Name n ∷ xs) k = nodes_below m xs k.1
nodes_below m (made_part.Bind d ∷ xs) k = nodes_below m xs k.1
nodes_below m (made_part.Key y ∷ xs) k = nodes_below m xs k.1
nodes_below m (made_part.Property p ∷ xs) k = nodes_below m xs k.1
nodes_below m (made_part.Block b ∷ xs) k = nodes_below m xs k.1
nodes_below m (made_part.Catch c ∷ xs) k = nodes_below m xs k.1
nodes_below m (made_part.Function f own ∷ xs) k = nodes_below m xs k.1

elements_below : (m : Made) (xs : List MadePart) → KnownItems m xs → Below (length m.nodes) (flat_map optional (elements_in xs))
elements_below m [] k = tt
elements_below m (x ∷ xs) k =
    below_append (optional (optional_node x)) (flat_map optional (elements_in xs)) (length m.nodes)
    (there_below m (optional_node x) (optional_there m x k.0)) (elements_below m xs k.1)

binds_below : (m : Made) (xs : List MadePart) → KnownItems m xs → Below (length m.nodes) (flat_map (λ (d : Declared). optional d.value) (binds_in xs))
binds_below m [] k = tt
binds_below m (made_part.Nothing ∷ xs) k = binds_below m xs k.1
binds_below m (made_part.Node n ∷ xs) k = binds_below m xs k.1
binds_below m (made_part.Hole ∷ xs) k = binds_below m xs k.1
binds_below m (made_part.Name n ∷ xs) k = binds_below m xs k.1
binds_below m (made_part.Bind d ∷ xs) k =
    below_append (optional d.value) (flat_map (λ (e : Declared). optional e.value) (binds_in xs)) (length m.nodes) k.0 (binds_below m xs k.1)
binds_below m (made_part.Key y ∷ xs) k = binds_below m xs k.1
binds_below m (made_part.Property p ∷ xs) k = binds_below m xs k.1
binds_below m (made_part.Block b ∷ xs) k = binds_below m xs k.1
binds_below m (made_part.Catch c ∷ xs) k = binds_below m xs k.1
binds_below m (made_part.Function f own ∷ xs) k = binds_below m xs k.1

properties_below : (m : Made) (xs : List MadePart) → KnownItems m xs → Below (length m.nodes) (flat_map property_children (properties_in xs))
properties_below m [] k = tt
properties_below m (made_part.Nothing ∷ xs) k = properties_below m xs k.1
properties_below m (made_part.Node n ∷ xs) k = properties_below m xs k.1
properties_below m (made_part.Hole ∷ xs) k = properties_below m xs k.1
properties_below m (made_part.Name n ∷ xs) k = properties_below m xs k.1
properties_below m (made_part.Bind d ∷ xs) k = properties_below m xs k.1
properties_below m (made_part.Key y ∷ xs) k = properties_below m xs k.1
properties_below m (made_part.Property p ∷ xs) k =
    below_append (property_children p) (flat_map property_children (properties_in xs)) (length m.nodes) k.0 (properties_below m xs k.1)
properties_below m (made_part.Block b ∷ xs) k = properties_below m xs k.1
properties_below m (made_part.Catch c ∷ xs) k = properties_below m xs k.1
properties_below m (made_part.Function f own ∷ xs) k = properties_below m xs k.1

functions_there : (m : Made) (xs : List MadePart) → KnownItems m xs → Functions (length m.functions) (functions_in xs)
functions_there m [] k = tt
functions_there m (made_part.Nothing ∷ xs) k = functions_there m xs k.1
functions_there m (made_part.Node n ∷ xs) k = functions_there m xs k.1
functions_there m (made_part.Hole ∷ xs) k = functions_there m xs k.1
functions_there m (made_part.Name n ∷ xs) k = functions_there m xs k.1
functions_there m (made_part.Bind d ∷ xs) k = functions_there m xs k.1
functions_there m (made_part.Key y ∷ xs) k = functions_there m xs k.1
functions_there m (made_part.Property p ∷ xs) k = functions_there m xs k.1
functions_there m (made_part.Block b ∷ xs) k = functions_there m xs k.1
functions_there m (made_part.Catch c ∷ xs) k = functions_there m xs k.1
functions_there m (made_part.Function f own ∷ xs) k = (k.0, functions_there m xs k.1)

-- ---- sites, literals and functions more

more_of : (m m' : Made) → Good m → Reaches m m' → m'.nodes ≡ m.nodes → m'.places ≡ m.places → m'.functions ≡ m.functions → m'.bodies ≡ m.bodies → Good m'
more_of m m' g r ns ps fs bs = record {
  places = omega (arith, ap length ns, ap length ps, g.places);
  functions = omega (arith, ap length fs, ap length bs, g.functions);
  ordered = rw ns g.ordered;
  names = subst (λ (all : List Node). AllName m' all) (sym ns) (all_later m.nodes m m' r g.names);
  bodies = subst (λ (all : List Body). AllHold m' all) (sym bs) (bodies_later m.bodies m m' r g.bodies);
}

site_reaches : (place : Place) (w : Bool) (m : Made) → Reaches m (add_site place w m)
site_reaches place w m = record {
  nodes = omega arith;
  functions = omega arith;
  literals = omega arith;
  sites = omega (arith, length-append m.sites (record { place = place; write = w } ∷ []));
}

-- a site where there is one, with the number that it has then
pub record GoodSite (m m' : Made) (o : Option SiteId) : Type 0 where
  pub good : Good m'
  pub reaches : Reaches m m'
  pub nodes : m'.nodes ≡ m.nodes
  pub site : elim o as (λ (x : Option SiteId). Type 0) [ None ↦ Unit {0} | Some s ↦ s.0 < length m'.sites ]

site_good : (has : Bool) (place : Place) (w : Bool) (m : Made) → Good m → GoodSite m (add_site_where has place w m) (site_where has m)
site_good true place w m g = record {
  good = more_of m (add_site place w m) g (site_reaches place w m) refl refl refl refl;
  reaches = site_reaches place w m;
  nodes = refl;
  site = omega (arith, length-append m.sites (record { place = place; write = w } ∷ []));
}
site_good false place w m g = record { good = g; reaches = stays m; nodes = refl; site = tt }

site_kept : (o : Option SiteId) (k l : ℕ) → k ≤ l → elim o as (λ (x : Option SiteId). Type 0) [ None ↦ Unit {0} | Some s ↦ s.0 < k ] → elim o as (λ (x : Option SiteId). Type 0) [ None ↦ Unit {0} | Some s ↦ s.0 < l ]
site_kept None k l le h = tt
site_kept (Some s) k l le h = omega arith

member_good : (place token : Place) (r : Role) (n : NodeId) (u : List ℕ) (m : Made) → Good m → n.0 < length m.nodes
    → GoodPart m (accessed place token r (λ read write. access.Member n u read write) m)
member_good place token r n u m g h =
    let m' = add_site_where (is_read r) token false m in
    let m'' = add_site_where (is_written r) token true m' in
    let a : GoodSite m m' (site_where (is_read r) m) = site_good (is_read r) token false m g in
    let b : GoodSite m' m'' (site_where (is_written r) m') = site_good (is_written r) token true m' a.good in
    let there : n.0 < length m''.nodes = omega (arith, ap length a.nodes, ap length b.nodes) in
    after_others m m'' _ (further m m' m'' a.reaches b.reaches)
    (with_node_good place (node.Access (access.Member n u (site_where (is_read r) m) (site_where (is_written r) m'))) m'' b.good (there, tt)
    (site_kept (site_where (is_read r) m) (length m'.sites) (length m''.sites) b.reaches.sites a.site, b.site))

index_good : (place token : Place) (r : Role) (n k : NodeId) (m : Made) → Good m → n.0 < length m.nodes → k.0 < length m.nodes
    → GoodPart m (accessed place token r (λ read write. access.Index n k read write) m)
index_good place token r n k m g h i =
    let m' = add_site_where (is_read r) token false m in
    let m'' = add_site_where (is_written r) token true m' in
    let a : GoodSite m m' (site_where (is_read r) m) = site_good (is_read r) token false m g in
    let b : GoodSite m' m'' (site_where (is_written r) m') = site_good (is_written r) token true m' a.good in
    let there : n.0 < length m''.nodes = omega (arith, ap length a.nodes, ap length b.nodes) in
    let there' : k.0 < length m''.nodes = omega (arith, ap length a.nodes, ap length b.nodes) in
    after_others m m'' _ (further m m' m'' a.reaches b.reaches)
    (with_node_good place (node.Access (access.Index n k (site_where (is_read r) m) (site_where (is_written r) m'))) m'' b.good (there, (there', tt))
    (site_kept (site_where (is_read r) m) (length m'.sites) (length m''.sites) b.reaches.sites a.site, b.site))

object_good : (place : Place) (xs : List MadePart) (m : Made) → Good m → KnownItems m xs → GoodPart m (with_object place xs m)
object_good place xs m g k =
    let l : LiteralFacts = record { place = place; definitions = length xs } in
    let m' = add_literal place (length xs) m in
    let more = length-append m.literals (l ∷ []) in
    let r : Reaches m m' = record { nodes = omega arith; functions = omega arith; literals = omega arith; sites = omega arith } in
    after_others m m' _ r
    (with_node_good place (node.Primary (primary.Object (record { 0 = length m.literals }) (properties_in xs))) m' (more_of m m' g r refl refl refl refl)
    (properties_below m xs k) (omega arith))

-- ---- functions

record GoodFunction (m m' : Made) : Type 0 where
  good : Good m'
  reaches : Reaches m m'
  nodes : m'.nodes ≡ m.nodes
  there : length m.functions < length m'.functions

function_good : (leaves : List Leaf) (inner : Around) (place : Place) (constructs : Bool) (own : Option ℕ) (count : ℕ) (code : ParseTree) (xs : List MadePart) (m : Made)
    → Good m → KnownItems m xs → GoodFunction m (function_made leaves inner place constructs own count code xs m)
function_good leaves inner place constructs own count code xs m g k =
    let m' = function_made leaves inner place constructs own count code xs m in
    let b = body_of leaves own inner.scopes code xs in
    let fs : length m'.functions ≡ length m.functions + 1 = length-append m.functions _ in
    let bs : length m'.bodies ≡ length m.bodies + 1 = length-append m.bodies (b ∷ []) in
    let r : Reaches m m' = record { nodes = omega arith; functions = omega arith; literals = omega arith; sites = omega arith } in
    record {
      good = record {
        places = g.places;
        functions = omega (arith, g.functions);
        ordered = g.ordered;
        names = names_all m m' r m.nodes g.names;
        bodies = all_more (Holds m') m.bodies b (bodies_later m.bodies m m' r g.bodies) (record {
          items = nodes_below m xs k;
          declared = functions_there m' xs (items_later xs m m' r k);
        });
      };
      reaches = r;
      nodes = refl;
      there = omega arith;
    }
  where
    names_all : (m m' : Made) → Reaches m m' → (ns : List Node) → AllByRecursion (Names m) ns → AllByRecursion (Names m') ns
    names_all m m' r [] h = tt
    names_all m m' r (n ∷ ns) h = (names_later n m m' r h.0, names_all m m' r ns h.1)

expression_good : (leaves : List Leaf) (inner : Around) (place : Place) (own : Option ℕ) (count : ℕ) (code : ParseTree) (xs : List MadePart) (m : Made)
    → Good m → KnownItems m xs → GoodPart m (expression_made leaves inner place own count code xs m)
expression_good leaves inner place own count code xs m g k =
    let m' = function_made leaves inner place true own count code xs m in
    let f : GoodFunction m m' = function_good leaves inner place true own count code xs m g k in
    after_others m m' _ f.reaches (with_node_good place (node.Primary (primary.Function (next_function m))) m' f.good tt f.there)

declaration_good : (leaves : List Leaf) (a inner : Around) (place : Place) (name count : ℕ) (code : ParseTree) (xs : List MadePart) (m : Made)
    → Good m → KnownItems m xs → GoodPart m (declaration_made leaves a inner place name count code xs m)
declaration_good leaves a inner place name count code xs m g k =
    let m' = function_made leaves inner place true (Some name) count code xs m in
    let f : GoodFunction m m' = function_good leaves inner place true (Some name) count code xs m g k in
    record { good = f.good; value = f.there; reaches = f.reaches }

record GoodMethod (m m' : Made) (n : NodeId) : Type 0 where
  good : Good m'
  reaches : Reaches m m'
  there : n.0 < length m'.nodes

method_good : (leaves : List Leaf) (inner : Around) (place : Place) (count : ℕ) (code : ParseTree) (xs : List MadePart) (m : Made)
    → Good m → KnownItems m xs → GoodMethod m (method_added leaves inner place count code xs m) (next_node (method_function leaves inner place count code xs m))
method_good leaves inner place count code xs m g k =
    let m' = method_function leaves inner place count code xs m in
    let n = node.Primary (primary.Method (next_function m)) in
    let f : GoodFunction m m' = function_good leaves inner place false None count code xs m g k in
    record {
      good = add_node_good place n m' f.good tt f.there;
      reaches = further m m' (add_node place n m') f.reaches (node_reaches place n m');
      there = node_there place n m';
    }

-- ---- one label each

name_good : (leaves : List Leaf) (a : Around) (place : Place) (i : ℕ) (m : Made) → Good m → GoodPart m (name_made leaves a place i m)
name_good leaves a place i m g = pick (is_target_role a.role)
  where
    pick : (b : Bool) → GoodPart m (if◌then◌else◌ b (one (made_part.Name (named leaves a.scopes i)) m) (with_primary place (primary.Name (named leaves a.scopes i)) m))
    pick true = unchanged m (made_parts.One (made_part.Name (named leaves a.scopes i))) g tt
    pick false = with_node_good place (node.Primary (primary.Name (named leaves a.scopes i))) m g tt tt

atom_good : (leaves : List Leaf) (a : Around) (place : Place) (f : Atom) (m : Made) → Good m → GoodPart m (atom_made leaves a place f m)
atom_good leaves a place atom.Nothing m g = unchanged m (made_parts.One made_part.Nothing) g tt
atom_good leaves a place (atom.This i) m g = with_node_good place (node.Primary primary.This) m g tt tt
atom_good leaves a place (atom.Null i) m g = with_node_good place (node.Primary primary.Null) m g tt tt
atom_good leaves a place (atom.Bool b i) m g = with_node_good place (node.Primary (primary.Bool b)) m g tt tt
atom_good leaves a place (atom.Name i) m g = name_good leaves a place i m g
atom_good leaves a place (atom.Number i) m g = with_node_good place _ m g tt tt
atom_good leaves a place (atom.Text i) m g = with_node_good place _ m g tt tt
atom_good leaves a place atom.Hole m g = unchanged m (made_parts.One made_part.Hole) g tt
atom_good leaves a place (atom.Shorthand i) m g = unchanged m (made_parts.One (made_part.Property (property.Shorthand (named leaves a.scopes i)))) g tt
atom_good leaves a place (atom.Key i) m g = unchanged m _ g tt
atom_good leaves a place (atom.Binding i) m g = unchanged m (made_parts.One (made_part.Bind (record { named = named leaves a.scopes i; value = None }))) g tt
atom_good leaves a place (atom.Empty i) m g = with_node_good place (node.Statement statement.Empty) m g tt tt
atom_good leaves a place (atom.Break i) m g = with_node_good place (node.Statement statement.Break) m g tt tt
atom_good leaves a place (atom.Continue i) m g = with_node_good place (node.Statement statement.Continue) m g tt tt
atom_good leaves a place (atom.Return i) m g = with_node_good place (node.Statement (statement.Return None)) m g tt tt

block_good : (place : Place) (r : Role) (count : ℕ) (xs : List MadePart) (m : Made) → Good m → KnownItems m xs → GoodPart m (block_made place r count xs m)
block_good place r count xs m g k = pick (is_part r)
  where
    b : Block
    b = record { names = count; items = nodes_in xs }

    pick : (p : Bool) → GoodPart m (if◌then◌else◌ p (one (made_part.Block b) m) (with_statement place (statement.Block b) m))
    pick true = unchanged m (made_parts.One (made_part.Block b)) g (nodes_below m xs k)
    pick false = with_node_good place (node.Statement (statement.Block b)) m g (nodes_below m xs k) tt

wrap_good : (leaves : List Leaf) (a inner : Around) (place : Place) (f : Wrap) (x : MadeParts) (m : Made) → Good m → KnownValue m x → GoodPart m (wrap_made leaves a inner place f x m)
wrap_good leaves a inner place (wrap.Parenthesis i) x m g k = unchanged m x g k
wrap_good leaves a inner place (wrap.Unary op i) x m g k =
    with_one_good (node_of x) m _ g (node_known m x k) (λ n h. with_node_good place (node.Operator (operator.Unary op n)) m g (h, tt) tt)
wrap_good leaves a inner place (wrap.Update up before i) x m g k =
    with_node_good place (node.Operator (operator.Update up before (target_of (item_of x)))) m g (target_below m (item_of x) (item_known m x k)) tt
wrap_good leaves a inner place (wrap.Member dot word) x m g k =
    with_one_good (node_of x) m _ g (node_known m x k) (λ n h. member_good place (place_of leaves (Some dot)) a.role n _ m g h)
wrap_good leaves a inner place (wrap.Array i) xs m g k =
    with_node_good place (node.Primary (primary.Array (elements_in (parts_of xs)))) m g (elements_below m (parts_of xs) (parts_known m xs k)) tt
wrap_good leaves a inner place (wrap.Object i) xs m g k = object_good place (parts_of xs) m g (parts_known m xs k)
wrap_good leaves a inner place (wrap.Computed i) x m g k =
    with_one_good (node_of x) m _ g (node_known m x k) (λ n h. unchanged m (made_parts.One (made_part.Key _)) g (h, tt))
wrap_good leaves a inner place (wrap.Binding i) x m g k = unchanged m (made_parts.One (made_part.Bind _)) g (there_below m (node_of x) (node_known m x k))
wrap_good leaves a inner place (wrap.Lexical constant i) xs m g k =
    with_node_good place (node.Statement (statement.Lexical constant (binds_in (parts_of xs)))) m g (binds_below m (parts_of xs) (parts_known m xs k)) tt
wrap_good leaves a inner place (wrap.Block i) xs m g k = block_good place a.role _ (parts_of xs) m g (parts_known m xs k)
wrap_good leaves a inner place wrap.Evaluate x m g k =
    with_one_good (node_of x) m _ g (node_known m x k) (λ n h. with_node_good place (node.Statement (statement.Expression n)) m g (h, tt) tt)
wrap_good leaves a inner place (wrap.Return i) x m g k =
    with_node_good place (node.Statement (statement.Return (node_of x))) m g (there_below m (node_of x) (node_known m x k)) tt
wrap_good leaves a inner place (wrap.Throw i) x m g k =
    with_one_good (node_of x) m _ g (node_known m x k) (λ n h. with_node_good place (node.Statement (statement.Throw n)) m g (h, tt) tt)
wrap_good leaves a inner place wrap.Catch x m g k = unchanged m (made_parts.One (made_part.Catch _)) g (block_below m (item_of x) (item_known m x k))
wrap_good leaves a inner place (wrap.CatchName i) x m g k = unchanged m (made_parts.One (made_part.Catch _)) g (block_below m (item_of x) (item_known m x k))

items_append : (m : Made) (xs : List MadePart) (x : MadePart) → KnownItems m xs → KnownItem m x → KnownItems m (xs ++ x ∷ [])
items_append m xs x k h = all_more (KnownItem m) xs x k h

comma_good : (place : Place) (r : Role) (xs : List MadePart) (m : Made) → Good m → KnownItems m xs → GoodPart m (comma_made place r xs m)
comma_good place r xs m g k = pick (is_front r)
  where
    pick : (p : Bool) → GoodPart m (if◌then◌else◌ p (part (made_parts.Many xs) m) (with_operator place (operator.Comma (nodes_in xs)) m))
    pick true = unchanged m (made_parts.Many xs) g k
    pick false = with_node_good place (node.Operator (operator.Comma (nodes_in xs))) m g (nodes_below m xs k) tt

property_good : (b : Bool) (name : MadePart) (n : NodeId) (m : Made) → Good m → KnownItem m name → n.0 < length m.nodes → GoodPart m (one (made_part.Property (property_of b name n)) m)
property_good true name n m g k h = unchanged m (made_parts.One (made_part.Property (property.Prototype n))) g (h, tt)
property_good false name n m g k h =
    unchanged m (made_parts.One (made_part.Property (property.Value (key_of name) n))) g (below_append (key_children (key_of name)) (n ∷ []) (length m.nodes) (key_below m name k) (h, tt))

two_good : (x y : MadeParts) (m : Made) (f : NodeId → NodeId → PartWithMade) → Good m → KnownValue m x → KnownValue m y
    → ((l n : NodeId) → l.0 < length m.nodes → n.0 < length m.nodes → GoodPart m (f l n)) → GoodPart m (with_two (node_of x) (node_of y) m f)
two_good x y m f g k j all =
    with_one_good (node_of x) m _ g (node_known m x k) (λ l h. with_one_good (node_of y) m (λ n. f l n) g (node_known m y j) (λ n i. all l n h i))

accessor_good : (m m' : Made) (n : NodeId) (p : Property) (name : MadePart) → GoodMethod m m' n → KnownItem m name → property_children p ≡ key_children (key_of name) ++ n ∷ []
    → GoodPart m (one (made_part.Property p) m')
accessor_good m m' n p name d k e = record {
  good = d.good;
  value = rw e (below_append (key_children (key_of name)) (n ∷ []) (length m'.nodes) (key_below m' name (item_later name m m' d.reaches k)) (d.there, tt));
  reaches = d.reaches;
}

call_below : (m : Made) (n : NodeId) (q : MadeParts) → n.0 < length m.nodes → KnownValue m q → Below (length m.nodes) (n ∷ nodes_in (parts_of q))
call_below m n q h k = (h, nodes_below m (parts_of q) (parts_known m q k))

pair_good : (leaves : List Leaf) (a inner : Around) (place : Place) (f : Pair) (x y : ParseTree) (r q : MadeParts) (m : Made) → Good m → KnownValue m r → KnownValue m q
    → GoodPart m (pair_made leaves a inner place f x y r q m)
pair_good leaves a inner place pair.And x y r q m g k j = unchanged m (made_parts.Many _) g (items_append m (parts_of r) (item_of q) (parts_known m r k) (item_known m q j))
pair_good leaves a inner place pair.Comma x y r q m g k j = comma_good place a.role _ m g (items_append m (front_of r) (item_of q) (front_known m r k) (item_known m q j))
pair_good leaves a inner place (pair.Assign op) x y r q m g k j =
    with_one_good (node_of q) m _ g (node_known m q j) (λ n h.
    with_node_good place (node.Operator (operator.Assign op (target_of (item_of r)) n)) m g
    (below_append (target_children (target_of (item_of r))) (n ∷ []) (length m.nodes) (target_below m (item_of r) (item_known m r k)) (h, tt)) tt)
pair_good leaves a inner place (pair.Short op) x y r q m g k j =
    two_good r q m _ g k j (λ l n h i. with_node_good place (node.Operator (operator.Short op l n)) m g (h, (i, tt)) tt)
pair_good leaves a inner place (pair.Binary op) x y r q m g k j =
    two_good r q m _ g k j (λ l n h i. with_node_good place (node.Operator (operator.Binary op l n)) m g (h, (i, tt)) tt)
pair_good leaves a inner place (pair.Index square) x y r q m g k j =
    two_good r q m _ g k j (λ l n h i. index_good place (place_of leaves (Some square)) a.role l n m g h i)
pair_good leaves a inner place pair.Call x y r q m g k j =
    with_one_good (node_of r) m _ g (node_known m r k) (λ n h. with_node_good place (node.Access (access.Call n (nodes_in (parts_of q)))) m g (call_below m n q h j) tt)
pair_good leaves a inner place (pair.New w) x y r q m g k j =
    with_one_good (node_of r) m _ g (node_known m r k) (λ n h. with_node_good place (node.Access (access.New n (nodes_in (parts_of q)))) m g (call_below m n q h j) tt)
pair_good leaves a inner place (pair.Function i) x y r q m g k j = expression_good leaves inner place None _ y (parts_of q) m g (parts_known m q j)
pair_good leaves a inner place (pair.NamedFunction i name) x y r q m g k j = expression_good leaves inner place (Some name) _ y (parts_of q) m g (parts_known m q j)
pair_good leaves a inner place (pair.DeclaredFunction i name) x y r q m g k j = declaration_good leaves a inner place name _ y (parts_of q) m g (parts_known m q j)
pair_good leaves a inner place pair.Property x y r q m g k j =
    with_one_good (node_of q) m _ g (node_known m q j) (λ n h. property_good (sets_prototype leaves x) (item_of r) n m g (item_known m r k) h)
pair_good leaves a inner place (pair.Getter i) x y r q m g k j =
    accessor_good m _ _ _ (item_of r) (method_good leaves inner place 0 y (parts_of q) m g (parts_known m q j)) (item_known m r k) refl
pair_good leaves a inner place (pair.Setter i parameter) x y r q m g k j =
    accessor_good m _ _ _ (item_of r) (method_good leaves inner place 1 y (parts_of q) m g (parts_known m q j)) (item_known m r k) refl
pair_good leaves a inner place (pair.If w) x y r q m g k j =
    two_good r q m _ g k j (λ l n h i. with_node_good place (node.Statement (statement.If l n None)) m g (h, (i, tt)) tt)
pair_good leaves a inner place (pair.While w) x y r q m g k j =
    two_good r q m _ g k j (λ l n h i. with_node_good place (node.Statement (statement.While l n)) m g (h, (i, tt)) tt)

triple_good : (leaves : List Leaf) (inner : Around) (place : Place) (f : Triple) (z : ParseTree) (r q p : MadeParts) (m : Made) → Good m → KnownValue m r → KnownValue m q → KnownValue m p
    → GoodPart m (triple_made leaves inner place f z r q p m)
triple_good leaves inner place triple.Conditional z r q p m g k j i =
    with_one_good (node_of r) m _ g (node_known m r k) (λ c h.
    with_one_good (node_of q) m _ g (node_known m q j) (λ l h'.
    with_one_good (node_of p) m _ g (node_known m p i) (λ n h''. with_node_good place (node.Operator (operator.Conditional c l n)) m g (h, (h', (h'', tt))) tt)))
triple_good leaves inner place (triple.IfElse w) z r q p m g k j i =
    two_good r q m _ g k j (λ l n h h'.
    with_node_good place (node.Statement (statement.If l n (node_of p))) m g (h, (h', there_below m (node_of p) (node_known m p i))) tt)
triple_good leaves inner place triple.Method z r q p m g k j i =
    accessor_good m _ _ _ (item_of r) (method_good leaves inner place _ z (parts_of p) m g (parts_known m p i)) (item_known m r k) refl
triple_good leaves inner place (triple.Try w) z r q p m g k j i =
    with_node_good place (node.Statement (statement.Try (block_of (item_of r)) (optional_catch (item_of q)) (optional_block (item_of p)))) m g
    (below_append ((block_of (item_of r)).items ++ catch_children (optional_catch (item_of q))) (last_children (optional_block (item_of p))) (length m.nodes)
    (below_append (block_of (item_of r)).items (catch_children (optional_catch (item_of q))) (length m.nodes) (block_below m (item_of r) (item_known m r k)) (catch_below m (item_of q) (item_known m q j)))
    (last_below m (item_of p) (item_known m p i))) tt

for_good : (inner : Around) (place : Place) (r q p o : MadeParts) (m : Made) → Good m → KnownValue m r → KnownValue m q → KnownValue m p → KnownValue m o → GoodPart m (for_made inner place r q p o m)
for_good inner place r q p o m g k j i h =
    with_one_good (node_of o) m _ g (node_known m o h) (λ n b.
    with_node_good place (node.Statement (statement.For _ (node_of r) (node_of q) (node_of p) n)) m g
    (below_append (optional (node_of r) ++ optional (node_of q) ++ optional (node_of p)) (n ∷ []) (length m.nodes)
    (below_append (optional (node_of r) ++ optional (node_of q)) (optional (node_of p)) (length m.nodes)
    (below_append (optional (node_of r)) (optional (node_of q)) (length m.nodes) (there_below m (node_of r) (node_known m r k)) (there_below m (node_of q) (node_known m q j)))
    (there_below m (node_of p) (node_known m p i))) (b, tt)) tt)

-- ---- the tree of any part

pub good_made : (x : ParseTree) (leaves : List Leaf) (a : Around) (m : Made) → Good m → GoodPart m (made leaves a x m)
good_made (parse_tree.Atom f) leaves a m g = atom_good leaves a (place_in leaves (parse_tree.Atom f)) f m g
good_made (parse_tree.Wrap f x) leaves a m g =
    let inner = in_wrap leaves a f x in
    let r = made leaves inner x m in
    let h : GoodPart m r = good_made x leaves inner m g in
    after_others m r.made _ h.reaches (wrap_good leaves a inner (place_in leaves (parse_tree.Wrap f x)) f r.value r.made h.good h.value)
good_made (parse_tree.Pair f x y) leaves a m g =
    let inner = in_pair leaves a f x y in
    let r = made leaves (before_pair a inner f) x m in
    let q = made leaves inner y r.made in
    let h : GoodPart m r = good_made x leaves (before_pair a inner f) m g in
    let i : GoodPart r.made q = good_made y leaves inner r.made h.good in
    after_others m q.made _ (further m r.made q.made h.reaches i.reaches)
    (pair_good leaves a inner (place_in leaves (parse_tree.Pair f x y)) f x y r.value q.value q.made i.good (value_later r.value r.made q.made i.reaches h.value) i.value)
good_made (parse_tree.Triple f x y z) leaves a m g =
    let inner = in_triple leaves a f y z in
    let r = made leaves (before_triple a f) x m in
    let q = made leaves inner y r.made in
    let p = made leaves (after_triple inner f) z q.made in
    let h : GoodPart m r = good_made x leaves (before_triple a f) m g in
    let i : GoodPart r.made q = good_made y leaves inner r.made h.good in
    let j : GoodPart q.made p = good_made z leaves (after_triple inner f) q.made i.good in
    let on = further r.made q.made p.made i.reaches j.reaches in
    after_others m p.made _ (further m r.made p.made h.reaches on)
    (triple_good leaves inner (place_in leaves (parse_tree.Triple f x y z)) f z r.value q.value p.value p.made j.good
    (value_later r.value r.made p.made on h.value) (value_later q.value q.made p.made j.reaches i.value) j.value)
good_made (parse_tree.Quad f x y z w) leaves a m g =
    let inner = in_for leaves a x in
    let r = made leaves inner x m in
    let q = made leaves inner y r.made in
    let p = made leaves inner z q.made in
    let o = made leaves inner w p.made in
    let h : GoodPart m r = good_made x leaves inner m g in
    let i : GoodPart r.made q = good_made y leaves inner r.made h.good in
    let j : GoodPart q.made p = good_made z leaves inner q.made i.good in
    let l : GoodPart p.made o = good_made w leaves inner p.made j.good in
    let third = further q.made p.made o.made j.reaches l.reaches in
    let second = further r.made q.made o.made i.reaches third in
    after_others m o.made _ (further m r.made o.made h.reaches second)
    (for_good inner (place_in leaves (parse_tree.Quad f x y z w)) r.value q.value p.value o.value o.made l.good
    (value_later r.value r.made o.made second h.value) (value_later q.value q.made o.made third i.value) (value_later p.value p.made o.made l.reaches j.value) l.value)

-- ---- the script

nothing_good : Good nothing_made
nothing_good = record { places = refl; functions = refl; ordered = tt; names = tt; bodies = tt }

any_code : (m : Made) (code : Body) (strict : Bool) (ns : List Node) → AllByRecursion (Names m) ns → AllByRecursion (NamesKnown (script_tree m code strict)) ns
any_code m code strict [] h = tt
any_code m code strict (n ∷ ns) h = (h.0, any_code m code strict ns h.1)

any_body : (m : Made) (code : Body) (strict : Bool) (bs : List Body) → AllHold m bs → AllByRecursion (IsBody (script_tree m code strict)) bs
any_body m code strict [] h = tt
any_body m code strict (b ∷ bs) h = (record { items = h.0.items; declared = h.0.declared }, any_body m code strict bs h.1)

-- what was made and room for it, with the script's own code, is a good tree
pub script_good : (m : Made) (count : ℕ) (strict : Bool) (v : MadeParts) → HasRoom m → Good m → KnownValue m v → IsTree (script_tree m (script_body count (parts_of v)) strict)
script_good m count strict v room g k =
    let code = script_body count (parts_of v) in
    record {
      counted = record { nodes = room.nodes; functions = room.functions; literals = room.literals; sites = room.sites; places = g.places; bodies = g.functions };
      ordered = ordered m.nodes g.ordered;
      known = any_code m code strict m.nodes g.names;
      bodies = any_body m code strict m.bodies g.bodies;
      script = record { items = nodes_below m (parts_of v) (parts_known m v k); declared = functions_there m (parts_of v) (parts_known m v k) };
    }

pub good_script : (leaves : List Leaf) (items : ParseTree) → let r = made leaves (around_script leaves items) items nothing_made in HasRoom r.made → IsTree (checked_tree leaves items)
good_script leaves items room =
    let inner = around_script leaves items in
    let r = made leaves inner items nothing_made in
    let g : GoodPart nothing_made r = good_made items leaves inner nothing_made nothing_good in
    script_good r.made (names_in inner.scopes) inner.strict r.value room g.good g.value
