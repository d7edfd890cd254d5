-- What each label of a part adds to a walk.
use Rattle.std.specs.Prelude.{◌≡◌, ◌<◌, ℕ, ◌+◌, Bool, true, List, [], ◌∷◌, ◌++◌, length, Option, Some, None}
use Rattle.es_source.specs.declared.faults.SourceFault.{SourceFault}
use Rattle.script_grammar.specs.declared.leaf.Leaf.{Leaf}
use Rattle.script_grammar.specs.declared.node.ParseNode.{ParseNode}
use Rattle.script_grammar.specs.declared.labels.Wrap.{Wrap}
use Rattle.script_grammar.specs.declared.labels.Wrap.TheVariants as wrap
use Rattle.script_grammar.specs.declared.labels.Pair.{Pair}
use Rattle.script_grammar.specs.declared.labels.Pair.TheVariants as pair
use Rattle.script_grammar.specs.Tree.{ParseTree}
use Rattle.script_rules.specs.declared.manner.Declared.{Declared}
use Rattle.script_rules.specs.declared.scope.Scope.{Scope}
use Rattle.script_rules.specs.declared.scope_entry.ScopeId.{ScopeId}
use Rattle.script_rules.specs.declared.faults.code.Code.{Code}
use Rattle.script_rules.specs.declared.faults.code.Parameters.{Parameters}
use Rattle.script_rules.specs.declared.faults.code.Parameters.TheVariants as parameters
use Rattle.script_rules.specs.declared.faults.walk.Walk.{Walk}
use Rattle.script_rules.specs.Arena.{tree_at, IsPart}
use Rattle.script_rules.specs.Chains.{chain_at}
use Rattle.script_rules.specs.Scopes.{function_scope}
use Rattle.script_rules.specs.Names.{declared_in, parameters_in}
use Rattle.script_rules.specs.Faults.{Around, faults, binding_faults, catch_names, delete_faults, duplicates, function_around}
use Rattle.script_rules.specs.Faults.{own_units, return_faults, second_prototypes, setter_names, target_faults}
use Rattle.script_rules.specs.Walks.{Visits, size_at}

abbrev pub around_in : List (List Scope) → ScopeId → Bool → Around
around_in chains id looping = record { scopes = chain_at chains id.0; in_loop = looping }

-- a known scope with the scopes around it
pub record HasChain (chains : List (List Scope)) (id : ScopeId) (s : List Scope) : Type 0 where
  pub known : id.0 < length chains
  pub chain : chain_at chains id.0 ≡ s

-- these faults were found, and a scope was entered
pub record OpensScope
    (leaves : List Leaf) (ns : List ParseNode) (old new : Walk) (found : List SourceFault) (outer : ScopeId) (s : Scope) (id : ScopeId) : Type 0 where
  pub visits : Visits leaves ns old new found 0
  pub has : HasChain new.scopes id (s ∷ chain_at old.scopes outer.0)

-- ---- own faults of labels that make no scope

abbrev pub own_of_wrap : List Leaf → Around → Wrap → ParseTree → List SourceFault
own_of_wrap leaves a (wrap.Unary op i) e = delete_faults leaves op i e
own_of_wrap leaves a (wrap.Update increment prefix i) e = target_faults leaves e
own_of_wrap leaves a (wrap.Object i) properties = second_prototypes leaves properties
own_of_wrap leaves a (wrap.Binding i) e = binding_faults leaves i
own_of_wrap leaves a (wrap.Return i) e = return_faults leaves a i
own_of_wrap leaves a other e = []

abbrev pub own_of_pair : List Leaf → Pair → ParseTree → List SourceFault
own_of_pair leaves (pair.Assign op) target = target_faults leaves target
own_of_pair leaves other x = []

-- own faults of a catch with a parameter
abbrev pub own_of_catch : List Leaf → ℕ → ParseTree → List SourceFault
own_of_catch leaves i block = binding_faults leaves i ++ duplicates leaves (catch_names i block)

-- ---- parts that may be left out

abbrev pub optional_faults : List Leaf → List ParseNode → Around → Option ℕ → List SourceFault
optional_faults leaves ns a None = []
optional_faults leaves ns a (Some n) = faults leaves a (tree_at ns n)

abbrev pub optional_size : List ParseNode → Option ℕ → ℕ
optional_size ns None = 0
optional_size ns (Some n) = size_at ns n

abbrev pub IsOptionalPart : List ParseNode → Option ℕ → Type 0
IsOptionalPart ns None = Unit {0}
IsOptionalPart ns (Some n) = IsPart ns n

abbrev pub optional_binding : List Leaf → Option ℕ → List SourceFault
optional_binding leaves None = []
optional_binding leaves (Some i) = binding_faults leaves i

-- ---- functions of all kinds

abbrev pub parameters_of : List ParseNode → Parameters → List Declared
parameters_of ns parameters.Nothing = []
parameters_of ns (parameters.One i) = setter_names i
parameters_of ns (parameters.Listed n) = parameters_in (tree_at ns n)

abbrev pub list_of : Parameters → Option ℕ
list_of parameters.Nothing = None
list_of (parameters.One i) = None
list_of (parameters.Listed n) = Some n

abbrev pub around_code : List Leaf → List ParseNode → Around → Code → Around
around_code leaves ns a c = function_around leaves a c.callee (parameters_of ns c.parameters) (tree_at ns c.body)

abbrev pub own_of_code : List Leaf → List ParseNode → Code → List SourceFault
own_of_code leaves ns c = optional_binding leaves c.bound ++ duplicates leaves (parameters_of ns c.parameters ++ declared_in (tree_at ns c.body))

abbrev pub scope_of_code : List Leaf → List ParseNode → Code → Scope
scope_of_code leaves ns c = function_scope leaves (own_units leaves c.callee) (parameters_of ns c.parameters) (declared_in (tree_at ns c.body))

abbrev pub code_faults : List Leaf → List ParseNode → Around → Code → List SourceFault
code_faults leaves ns a c =
    optional_faults leaves ns a c.key ++ own_of_code leaves ns c
    ++ optional_faults leaves ns (around_code leaves ns a c) (list_of c.parameters) ++ faults leaves (around_code leaves ns a c) (tree_at ns c.body)

abbrev pub code_size : List ParseNode → Code → ℕ
code_size ns c = optional_size ns c.key + optional_size ns (list_of c.parameters) + size_at ns c.body

pub record IsCode (ns : List ParseNode) (c : Code) : Type 0 where
  pub key : IsOptionalPart ns c.key
  pub list : IsOptionalPart ns (list_of c.parameters)
  pub body : IsPart ns c.body

-- the function that a label with two parts stands for
abbrev pub code_of_pair : Pair → ℕ → ℕ → Option Code
code_of_pair (pair.Function i) x y = Some (record { key = None; bound = None; callee = None; parameters = parameters.Listed x; body = y })
code_of_pair (pair.NamedFunction i name) x y = Some (record { key = None; bound = Some name; callee = Some name; parameters = parameters.Listed x; body = y })
code_of_pair (pair.DeclaredFunction i name) x y = Some (record { key = None; bound = Some name; callee = None; parameters = parameters.Listed x; body = y })
code_of_pair (pair.Getter i) x y = Some (record { key = Some x; bound = None; callee = None; parameters = parameters.Nothing; body = y })
code_of_pair (pair.Setter i parameter) x y =
    Some (record { key = Some x; bound = Some parameter; callee = None; parameters = parameters.One parameter; body = y })
code_of_pair other x y = None

-- whether the second part stands in a loop
abbrev pub loops : Pair → Bool → Bool
loops (pair.While i) in_loop = true
loops other in_loop = in_loop
