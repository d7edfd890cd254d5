-- What is made names only what was made before.
use Rattle.std.proofs.Common.{◌≡◌, ◌<◌, ◌≤◌, ◌++◌, subst, ℕ, suc, zero, ◌+◌, false, List, [], ◌∷◌, length, length-append, Option, Some, None, slice_get, arith}
use Rattle.std.specs.List.{AllByRecursion}
use Rattle.es_tree.specs.declared.body.Body.{Body}
use Rattle.es_tree.specs.declared.body.DeclaredFunction.{DeclaredFunction}
use Rattle.es_tree.specs.declared.expressions.Access.{Access}
use Rattle.es_tree.specs.declared.expressions.Access.TheVariants as access
use Rattle.es_tree.specs.declared.node.Node.{Node}
use Rattle.es_tree.specs.declared.node.Node.TheVariants as node
use Rattle.es_tree.specs.declared.numbers.NodeId.{NodeId}
use Rattle.es_tree.specs.declared.numbers.SiteId.{SiteId}
use Rattle.es_source.specs.declared.place.Place.{Place}
use Rattle.es_tree.specs.declared.primaries.Primary.{Primary}
use Rattle.es_tree.specs.declared.primaries.Primary.TheVariants as primary
use Rattle.es_tree.specs.Tree.{IsBody, IsOrdered, NamesKnown, children_of, empty_body, key_children, optional, property_children}
use Rattle.script_checker.specs.declared.made_parts.MadePart.{MadePart}
use Rattle.script_checker.specs.declared.made_parts.MadePart.TheVariants as made_part
use Rattle.script_checker.specs.declared.made_parts.MadeParts.{MadeParts}
use Rattle.script_checker.specs.declared.made_parts.MadeParts.TheVariants as made_parts
use Rattle.script_checker.specs.Made.{Made, PartWithMade, add_node, part, script_tree, with_node, with_one}

-- ---- there is at least as much of each

pub record Reaches (m m' : Made) : Type 0 where
  pub nodes : length m.nodes ≤ length m'.nodes
  pub functions : length m.functions ≤ length m'.functions
  pub literals : length m.literals ≤ length m'.literals
  pub sites : length m.sites ≤ length m'.sites

pub stays : (m : Made) → Reaches m m
stays m = record { nodes = omega arith; functions = omega arith; literals = omega arith; sites = omega arith }

pub further : (m m' m'' : Made) → Reaches m m' → Reaches m' m'' → Reaches m m''
further m m' m'' p q = record { nodes = omega arith; functions = omega arith; literals = omega arith; sites = omega arith }

-- ---- numbers of nodes that are there

abbrev pub Below : ℕ → List NodeId → Type 0
Below count ns = AllByRecursion (λ (n : NodeId). n.0 < count) ns

pub below_later : (ns : List NodeId) (k l : ℕ) → k ≤ l → Below k ns → Below l ns
below_later [] k l le b = tt
below_later (n ∷ ns) k l le b = (omega arith, below_later ns k l le b.1)

pub below_append : (xs ys : List NodeId) (k : ℕ) → Below k xs → Below k ys → Below k (xs ++ ys)
below_append [] ys k a b = b
below_append (x ∷ xs) ys k a b = (a.0, below_append xs ys k a.1 b)

abbrev pub IsThere : Made → Option NodeId → Type 0
IsThere m None = Unit {0}
IsThere m (Some n) = n.0 < length m.nodes

pub there_below : (m : Made) (o : Option NodeId) → IsThere m o → Below (length m.nodes) (optional o)
there_below m None h = tt
there_below m (Some n) h = (h, tt)

-- ---- parts whose numbers are there

abbrev pub KnownItem : Made → MadePart → Type 0
KnownItem m (made_part.Node n) = n.0 < length m.nodes
KnownItem m (made_part.Bind d) = Below (length m.nodes) (optional d.value)
KnownItem m (made_part.Key k) = Below (length m.nodes) (key_children k)
KnownItem m (made_part.Property p) = Below (length m.nodes) (property_children p)
KnownItem m (made_part.Block b) = Below (length m.nodes) b.items
KnownItem m (made_part.Catch c) = Below (length m.nodes) c.block.items
KnownItem m (made_part.Function f own) = f.0 < length m.functions
KnownItem m other = Unit {0}

abbrev pub KnownItems : Made → List MadePart → Type 0
KnownItems m xs = AllByRecursion (KnownItem m) xs

abbrev pub KnownValue : Made → MadeParts → Type 0
KnownValue m (made_parts.One x) = KnownItem m x
KnownValue m (made_parts.Many xs) = KnownItems m xs

pub item_later : (x : MadePart) (m m' : Made) → Reaches m m' → KnownItem m x → KnownItem m' x
item_later made_part.Nothing m m' r k = tt
item_later (made_part.Node n) m m' r k = omega arith
item_later made_part.Hole m m' r k = tt
item_later (made_part.Name n) m m' r k = tt
item_later (made_part.Bind d) m m' r k = below_later (optional d.value) (length m.nodes) (length m'.nodes) r.nodes k
item_later (made_part.Key y) m m' r k = below_later (key_children y) (length m.nodes) (length m'.nodes) r.nodes k
item_later (made_part.Property p) m m' r k = below_later (property_children p) (length m.nodes) (length m'.nodes) r.nodes k
item_later (made_part.Block b) m m' r k = below_later b.items (length m.nodes) (length m'.nodes) r.nodes k
item_later (made_part.Catch c) m m' r k = below_later c.block.items (length m.nodes) (length m'.nodes) r.nodes k
item_later (made_part.Function f own) m m' r k = omega arith

pub items_later : (xs : List MadePart) (m m' : Made) → Reaches m m' → KnownItems m xs → KnownItems m' xs
items_later [] m m' r k = tt
items_later (x ∷ xs) m m' r k = (item_later x m m' r k.0, items_later xs m m' r k.1)

pub value_later : (v : MadeParts) (m m' : Made) → Reaches m m' → KnownValue m v → KnownValue m' v
value_later (made_parts.One x) m m' r k = item_later x m m' r k
value_later (made_parts.Many xs) m m' r k = items_later xs m m' r k

-- ---- nodes, each of which names only what is there

abbrev pub Names : Made → Node → Type 0
Names m n = NamesKnown (script_tree m empty_body false) n

site_later : (o : Option SiteId) (k l : ℕ) → k ≤ l → elim o as (λ (x : Option SiteId). Type 0) [ None ↦ Unit {0} | Some s ↦ s.0 < k ] → elim o as (λ (x : Option SiteId). Type 0) [ None ↦ Unit {0} | Some s ↦ s.0 < l ]
site_later None k l le h = tt
site_later (Some s) k l le h = omega arith

access_later : (a : Access) (m m' : Made) → Reaches m m' → Names m (node.Access a) → Names m' (node.Access a)
access_later (access.Member base name read write) m m' r h = (site_later read (length m.sites) (length m'.sites) r.sites h.0, site_later write (length m.sites) (length m'.sites) r.sites h.1)
access_later (access.Index base index read write) m m' r h = (site_later read (length m.sites) (length m'.sites) r.sites h.0, site_later write (length m.sites) (length m'.sites) r.sites h.1)
access_later (access.Call callee arguments) m m' r h = tt
access_later (access.New callee arguments) m m' r h = tt

primary_later : (p : Primary) (m m' : Made) → Reaches m m' → Names m (node.Primary p) → Names m' (node.Primary p)
primary_later primary.This m m' r h = tt
primary_later (primary.Name n) m m' r h = tt
primary_later (primary.Number n) m m' r h = tt
primary_later (primary.Text u) m m' r h = tt
primary_later primary.Null m m' r h = tt
primary_later (primary.Bool b) m m' r h = tt
primary_later (primary.Array es) m m' r h = tt
primary_later (primary.Object literal ps) m m' r h = omega arith
primary_later (primary.Function f) m m' r h = omega arith
primary_later (primary.Method f) m m' r h = omega arith

pub names_later : (n : Node) (m m' : Made) → Reaches m m' → Names m n → Names m' n
names_later (node.Statement s) m m' r h = tt
names_later (node.Operator o) m m' r h = tt
names_later (node.Access a) m m' r h = access_later a m m' r h
names_later (node.Primary p) m m' r h = primary_later p m m' r h

abbrev pub AllName : Made → List Node → Type 0
AllName m ns = AllByRecursion (Names m) ns

pub all_later : (ns : List Node) (m m' : Made) → Reaches m m' → AllName m ns → AllName m' ns
all_later [] m m' r h = tt
all_later (n ∷ ns) m m' r h = (names_later n m m' r h.0, all_later ns m m' r h.1)

-- ---- bodies

abbrev pub Functions : ℕ → List DeclaredFunction → Type 0
Functions count fs = AllByRecursion (λ (d : DeclaredFunction). d.function.0 < count) fs

functions_later : (fs : List DeclaredFunction) (k l : ℕ) → k ≤ l → Functions k fs → Functions l fs
functions_later [] k l le h = tt
functions_later (f ∷ fs) k l le h = (omega arith, functions_later fs k l le h.1)

abbrev pub Holds : Made → Body → Type 0
Holds m b = IsBody (script_tree m empty_body false) b

body_later : (b : Body) (m m' : Made) → Reaches m m' → Holds m b → Holds m' b
body_later b m m' r h = record {
  items = below_later b.items (length m.nodes) (length m'.nodes) r.nodes h.items;
  declared = functions_later b.declared (length m.functions) (length m'.functions) r.functions h.declared;
}

abbrev pub AllHold : Made → List Body → Type 0
AllHold m bs = AllByRecursion (Holds m) bs

pub bodies_later : (bs : List Body) (m m' : Made) → Reaches m m' → AllHold m bs → AllHold m' bs
bodies_later [] m m' r h = tt
bodies_later (b ∷ bs) m m' r h = (body_later b m m' r h.0, bodies_later bs m m' r h.1)

-- ---- one more at the end

pub all_more : {A : Type 0} (P : A → Type 0) (xs : List A) (x : A) → AllByRecursion P xs → P x → AllByRecursion P (xs ++ x ∷ [])
all_more P [] x h p = (p, tt)
all_more P (y ∷ xs) x h p = (h.0, all_more P xs x h.1 p)

-- each child's number is below its parent's, where the first node has this number
abbrev pub Ordered : ℕ → List Node → Type 0
Ordered k [] = Unit {0}
Ordered k (n ∷ ns) = Below k (children_of n) × Ordered (suc k) ns

ordered_more : (ns : List Node) (k : ℕ) (n : Node) → Ordered k ns → Below (k + length ns) (children_of n) → Ordered k (ns ++ n ∷ [])
ordered_more [] k n o b = (below_later (children_of n) (k + 0) k (omega arith) b, tt)
ordered_more (x ∷ ns) k n o b = (o.0, ordered_more ns (suc k) n o.1 (below_later (children_of n) (k + suc (length ns)) (suc k + length ns) (omega arith) b))

ordered_at : (ns : List Node) (k i : ℕ) (p : Node) → Ordered k ns → slice_get ns i ≡ Some p → Below (k + i) (children_of p)
ordered_at [] k i p o e = absurd (cc e)
ordered_at (x ∷ ns) k zero p o e =
    let same : x ≡ p = cc in
    subst (λ (y : Node). Below (k + 0) (children_of y)) same (below_later (children_of x) k (k + 0) (omega arith) o.0)
ordered_at (x ∷ ns) k (suc i) p o e = below_later (children_of p) (suc k + i) (k + suc i) (omega arith) (ordered_at ns (suc k) i p o.1 e)

pub ordered : (ns : List Node) → Ordered 0 ns → IsOrdered ns
ordered ns o i p e = below_later (children_of p) (0 + i) i (omega arith) (ordered_at ns 0 i p o e)

-- ---- what was made is good

pub record Good (m : Made) : Type 0 where
  pub places : length m.places ≡ length m.nodes
  pub functions : length m.bodies ≡ length m.functions
  pub ordered : Ordered 0 m.nodes
  pub names : AllName m m.nodes
  pub bodies : AllHold m m.bodies

pub record GoodPart (m : Made) (r : PartWithMade) : Type 0 where
  pub good : Good r.made
  pub value : KnownValue r.made r.value
  pub reaches : Reaches m r.made

-- after others
pub after_others : (m m' : Made) (r : PartWithMade) → Reaches m m' → GoodPart m' r → GoodPart m r
after_others m m' r p g = record { good = g.good; value = g.value; reaches = further m m' r.made p g.reaches }

pub unchanged : (m : Made) (v : MadeParts) → Good m → KnownValue m v → GoodPart m (part v m)
unchanged m v g k = record { good = g; value = k; reaches = stays m }

pub add_node_good : (place : Place) (n : Node) (m : Made) → Good m → Below (length m.nodes) (children_of n) → Names m n → Good (add_node place n m)
add_node_good place n m g b h =
    let m' = add_node place n m in
    let r : Reaches m m' = record { nodes = omega (arith, length-append m.nodes (n ∷ [])); functions = omega arith; literals = omega arith; sites = omega arith } in
    record {
      places = omega (arith, length-append m.nodes (n ∷ []), length-append m.places (place ∷ []), g.places);
      functions = g.functions;
      ordered = ordered_more m.nodes 0 n g.ordered (below_later (children_of n) (length m.nodes) (0 + length m.nodes) (omega arith) b);
      names = all_more (Names m') m.nodes n (all_later m.nodes m m' r g.names) (names_later n m m' r h);
      bodies = bodies_later m.bodies m m' r g.bodies;
    }

pub node_reaches : (place : Place) (n : Node) (m : Made) → Reaches m (add_node place n m)
node_reaches place n m = record { nodes = omega (arith, length-append m.nodes (n ∷ [])); functions = omega arith; literals = omega arith; sites = omega arith }

pub node_there : (place : Place) (n : Node) (m : Made) → length m.nodes < length (add_node place n m).nodes
node_there place n m = omega (arith, length-append m.nodes (n ∷ []))

pub with_node_good : (place : Place) (n : Node) (m : Made) → Good m → Below (length m.nodes) (children_of n) → Names m n → GoodPart m (with_node place n m)
with_node_good place n m g b h = record {
  good = add_node_good place n m g b h;
  value = node_there place n m;
  reaches = node_reaches place n m;
}

pub with_one_good : (o : Option NodeId) (m : Made) (f : NodeId → PartWithMade) → Good m → IsThere m o → ((n : NodeId) → n.0 < length m.nodes → GoodPart m (f n)) → GoodPart m (with_one o m f)
with_one_good None m f g h all = unchanged m (made_parts.One made_part.Nothing) g tt
with_one_good (Some n) m f g h all = all n h
