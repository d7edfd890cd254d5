-- What the steps of a visit come to.
use Rattle.std.proofs.Common.{◌≡◌, ◌<◌, ◌++◌, ◌∙◌, ap, sym, refl, ℕ, ◌+◌, Bool, true, false, List, [], ◌∷◌, length, Option, Some, None, zero-add, append-nil, append_assoc, arith}
use Rattle.es_source.specs.declared.faults.SourceFault.{SourceFault}
use Rattle.script_grammar.specs.declared.leaf.Leaf.{Leaf}
use Rattle.script_grammar.specs.declared.node.ParseNode.{ParseNode}
use Rattle.script_grammar.specs.Tree.{ParseTree}
use Rattle.script_rules.specs.declared.scope.Scope.{Scope}
use Rattle.script_rules.specs.declared.scope_entry.ScopeId.{ScopeId}
use Rattle.script_rules.specs.declared.faults.walk.Task.{Task}
use Rattle.script_rules.specs.declared.faults.walk.Walk.{Walk}
use Rattle.script_rules.specs.Chains.{chain_at}
use Rattle.script_rules.specs.Faults.{Around, binding_faults, duplicates, faults, least, looping, own_units, setter_names, within}
use Rattle.script_grammar.specs.declared.labels.Wrap.{Wrap}
use Rattle.script_grammar.specs.declared.labels.Wrap.TheVariants as wrap
use Rattle.script_grammar.specs.Tree.{ParseTree as parse_tree}
use Rattle.script_rules.specs.declared.faults.code.Code.{Code}
use Rattle.script_grammar.specs.declared.labels.Pair.{Pair}
use Rattle.script_grammar.specs.declared.labels.Pair.TheVariants as pair
use Rattle.script_grammar.specs.declared.labels.Triple.{Triple}
use Rattle.script_grammar.specs.declared.labels.Triple.TheVariants as triple
use Rattle.script_rules.specs.declared.faults.code.Parameters.TheVariants as parameters
use Rattle.script_rules.specs.Arena.{tree_at, IsPart}
use Rattle.script_rules.specs.Visits.{OpensScope, HasChain, around_in, IsCode, around_code, optional_binding, parameters_of, code_faults, code_of_pair, code_size, list_of, loops, optional_faults, optional_size, own_of_code, own_of_pair, own_of_wrap, scope_of_code}
use Rattle.script_rules.specs.declared.manner.Declared.{Declared}
use Rattle.script_rules.specs.declared.manner.Manner.TheVariants as manner
use Rattle.script_rules.specs.Names.{declared_as, declared_in}
use Rattle.script_rules.specs.Scopes.{function_scope}
use Rattle.script_rules.specs.Walks.{Visits, around_task, size_at}
use Rattle.script_rules.proofs.Walks.{still, then_visits, as_visits}
use Rattle.script_rules.proofs.Steps.{here, onto}

module _ (leaves : List Leaf) (ns : List ParseNode) where
  -- one part within a scope that was opened
  pub inside : (a b c : Walk) (task : Task) (x : ParseTree) (n : ℕ) (own : List SourceFault) (fault : Option SourceFault) (made s : Scope) (id : ScopeId)
      → fault ≡ least own → made ≡ s → ((found : List SourceFault) → fault ≡ least found → OpensScope leaves ns a b found task.scope made id)
      → Visits leaves ns b c (faults leaves (around_in b.scopes id task.in_loop) x) n
      → Visits leaves ns a c (own ++ faults leaves (within s (around_task a.scopes task)) x) n
  inside a b c task x n own fault made s id is e opens v =
      let o : OpensScope leaves ns a b own task.scope s id = rw (← e) (opens own is) in
      as_visits leaves ns a c _ _ (0 + n) n (onto leaves ns a b c own 0 n id (s ∷ chain_at a.scopes task.scope.0) task.in_loop x o.visits o.has v) refl (zero-add n)

  -- one part in the same scope
  pub beside : (a b c : Walk) (task : Task) (x : ParseTree) (n : ℕ) (own : List SourceFault) → task.scope.0 < length a.scopes → Visits leaves ns a b own 0
      → Visits leaves ns b c (faults leaves (around_in b.scopes task.scope task.in_loop) x) n
      → Visits leaves ns a c (own ++ faults leaves (around_task a.scopes task) x) n
  beside a b c task x n own known v w =
      as_visits leaves ns a c _ _ (0 + n) n
      (onto leaves ns a b c own 0 n task.scope (chain_at a.scopes task.scope.0) task.in_loop x v (still leaves ns a b own 0 v task.scope _ (here a.scopes task.scope known)) w) refl (zero-add n)

  -- two parts in the same scope
  pub both : (a b c d : Walk) (task : Task) (x y : ParseTree) (m n : ℕ) (looping : Bool) (own : List SourceFault) → task.scope.0 < length a.scopes → Visits leaves ns a b own 0
      → Visits leaves ns b c (faults leaves (around_in b.scopes task.scope task.in_loop) x) m
      → Visits leaves ns c d (faults leaves (around_in c.scopes task.scope looping) y) n
      → Visits leaves ns a d (own ++ faults leaves (around_task a.scopes task) x ++ faults leaves (around_in a.scopes task.scope looping) y) (m + n)
  both a b c d task x y m n looping own known v w u =
      let h = still leaves ns a b own 0 v task.scope _ (here a.scopes task.scope known) in
      let k = still leaves ns b c _ m w task.scope _ h in
      onto leaves ns a c d _ m n task.scope (chain_at a.scopes task.scope.0) looping y (beside a b c task x m own known v w) k u

  onto_optional : (a b c : Walk) (f : List SourceFault) (m : ℕ) (id : ScopeId) (s : List Scope) (looping : Bool) (part : Option ℕ) → Visits leaves ns a b f m → HasChain b.scopes id s
      → Visits leaves ns b c (optional_faults leaves ns (around_in b.scopes id looping) part) (optional_size ns part)
      → Visits leaves ns a c (f ++ optional_faults leaves ns (record { scopes = s; in_loop = looping }) part) (m + optional_size ns part)
  onto_optional a b c f m id s looping None v h w = then_visits leaves ns a b f m v c [] 0 w
  onto_optional a b c f m id s looping (Some x) v h w = onto leaves ns a b c f m (size_at ns x) id s looping (tree_at ns x) v h w

  code_counted : (k l n : ℕ) → k + 0 + l + n ≡ k + l + n
  code_counted k l n = omega arith

  pub code_visited : (a b c d e : Walk) (task : Task) (code : Code) (id : ScopeId) → task.scope.0 < length a.scopes
      → Visits leaves ns a b (optional_faults leaves ns (around_in a.scopes task.scope task.in_loop) code.key) (optional_size ns code.key)
      → OpensScope leaves ns b c (own_of_code leaves ns code) task.scope (scope_of_code leaves ns code) id
      → Visits leaves ns c d (optional_faults leaves ns (around_in c.scopes id false) (list_of code.parameters)) (optional_size ns (list_of code.parameters))
      → Visits leaves ns d e (faults leaves (around_in d.scopes id false) (tree_at ns code.body)) (size_at ns code.body)
      → Visits leaves ns a e (code_faults leaves ns (around_task a.scopes task) code) (code_size ns code)
  code_visited a b c d e task code id known v o w u =
      let s = scope_of_code leaves ns code in
      let chain : s ∷ chain_at b.scopes task.scope.0 ≡ s ∷ chain_at a.scopes task.scope.0 =
      ap (λ (t : List Scope). s ∷ t) (still leaves ns a b _ _ v task.scope _ (here a.scopes task.scope known)).chain in
      let h : HasChain c.scopes id (s ∷ chain_at a.scopes task.scope.0) = record { known = o.has.known; chain = o.has.chain ∙ chain } in
      let opened = then_visits leaves ns a b _ _ v c (own_of_code leaves ns code) 0 o.visits in
      let listed = onto_optional a c d _ _ id (s ∷ chain_at a.scopes task.scope.0) false (list_of code.parameters) opened h w in
      let k = still leaves ns c d _ _ w id _ h in
      as_visits leaves ns a e _ _ _ (code_size ns code)
      (onto leaves ns a d e _ _ (size_at ns code.body) id (s ∷ chain_at a.scopes task.scope.0) false (tree_at ns code.body) listed k u)
      refl (code_counted (optional_size ns code.key) (optional_size ns (list_of code.parameters)) (size_at ns code.body))

  for_counted : (n m k l : ℕ) → 0 + n + m + k + l ≡ n + m + k + l
  for_counted n m k l = omega arith

  -- the parts of a `for`
  pub for_visited : (a b c d e f : Walk) (task : Task) (x y z w : ParseTree) (n m k l : ℕ) (own : List SourceFault) (fault : Option SourceFault) (made s : Scope) (id : ScopeId)
      → fault ≡ least own → made ≡ s → ((found : List SourceFault) → fault ≡ least found → OpensScope leaves ns a b found task.scope made id)
      → Visits leaves ns b c (faults leaves (around_in b.scopes id task.in_loop) x) n
      → Visits leaves ns c d (faults leaves (around_in c.scopes id task.in_loop) y) m
      → Visits leaves ns d e (faults leaves (around_in d.scopes id task.in_loop) z) k
      → Visits leaves ns e f (faults leaves (around_in e.scopes id true) w) l
      → Visits leaves ns a f (own ++ faults leaves (within s (around_task a.scopes task)) x ++ faults leaves (within s (around_task a.scopes task)) y
      ++ faults leaves (within s (around_task a.scopes task)) z ++ faults leaves (looping (within s (around_task a.scopes task))) w) (n + m + k + l)
  for_visited a b c d e f task x y z w n m k l own fault made s id is eq opens v₁ v₂ v₃ v₄ =
      let o : OpensScope leaves ns a b own task.scope s id = rw (← eq) (opens own is) in
      let chain = s ∷ chain_at a.scopes task.scope.0 in
      let h₂ = still leaves ns b c _ n v₁ id chain o.has in
      let h₃ = still leaves ns c d _ m v₂ id chain h₂ in
      let h₄ = still leaves ns d e _ k v₃ id chain h₃ in
      let w₁ = onto leaves ns a b c own 0 n id chain task.in_loop x o.visits o.has v₁ in
      let w₂ = onto leaves ns a c d _ _ m id chain task.in_loop y w₁ h₂ v₂ in
      let w₃ = onto leaves ns a d e _ _ k id chain task.in_loop z w₂ h₃ v₃ in
      as_visits leaves ns a f _ _ _ (n + m + k + l) (onto leaves ns a e f _ _ l id chain true w w₃ h₄ v₄) refl (for_counted n m k l)

-- ---- what labels without a scope of their own have

pub wrap_faults : (leaves : List Leaf) (a : Around) (f : Wrap) (x : ParseTree) → ((i : ℕ) → f ≡ wrap.Block i → ⊥) → ((i : ℕ) → f ≡ wrap.CatchName i → ⊥)
    → own_of_wrap leaves a f x ++ faults leaves a x ≡ faults leaves a (parse_tree.Wrap f x)
wrap_faults leaves a (wrap.Block i) x p q = absurd (p i refl)
wrap_faults leaves a (wrap.CatchName i) x p q = absurd (q i refl)
wrap_faults leaves a _ x p q = refl

none_between : (f g : List SourceFault) → f ++ [] ++ g ≡ f ++ g
none_between f g = ap (λ (h : List SourceFault). h ++ g) (append-nil f)

none_behind : (f b d g : List SourceFault) → f ++ (b ++ d) ++ [] ++ g ≡ f ++ b ++ d ++ g
none_behind f b d g = none_between (f ++ (b ++ d)) g ∙ ap (λ (h : List SourceFault). h ++ g) (sym (append_assoc f b d))

same_code : (c d : Code) → Some c ≡ Some d → c ≡ d
same_code c d e = cc

-- the faults of the functions that have two parts
pub code_faults_of : (leaves : List Leaf) (ns : List ParseNode) (a : Around) (f : Pair) (x y : ℕ) (c : Code) → Some c ≡ code_of_pair f x y
    → code_faults leaves ns a c ≡ faults leaves a (parse_tree.Pair f (tree_at ns x) (tree_at ns y))
code_faults_of leaves ns a (pair.Function i) x y c e = rw (same_code _ _ e) refl
code_faults_of leaves ns a (pair.NamedFunction i name) x y c e = rw (same_code _ _ e) refl
code_faults_of leaves ns a (pair.DeclaredFunction i name) x y c e = rw (same_code _ _ e) refl
code_faults_of leaves ns a (pair.Getter i) x y c e =
    let d : Code = record { key = Some x; bound = None; callee = None; parameters = parameters.Nothing; body = y } in
    rw (same_code _ _ e) (none_between (faults leaves a (tree_at ns x) ++ own_of_code leaves ns d) (faults leaves (around_code leaves ns a d) (tree_at ns y)))
code_faults_of leaves ns a (pair.Setter i parameter) x y c e =
    let d : Code = record { key = Some x; bound = Some parameter; callee = None; parameters = parameters.One parameter; body = y } in
    rw (same_code _ _ e) (none_behind (faults leaves a (tree_at ns x)) (binding_faults leaves parameter) (duplicates leaves (setter_names parameter ++ declared_in (tree_at ns y)))
    (faults leaves (around_code leaves ns a d) (tree_at ns y)))
code_faults_of leaves ns a _ x y c e = absurd (cc e)

pub code_size_of : (ns : List ParseNode) (f : Pair) (x y : ℕ) (c : Code) → Some c ≡ code_of_pair f x y → code_size ns c ≡ size_at ns x + size_at ns y
code_size_of ns (pair.Function i) x y c e = rw (same_code _ _ e) (omega arith)
code_size_of ns (pair.NamedFunction i name) x y c e = rw (same_code _ _ e) (omega arith)
code_size_of ns (pair.DeclaredFunction i name) x y c e = rw (same_code _ _ e) (omega arith)
code_size_of ns (pair.Getter i) x y c e = rw (same_code _ _ e) (omega arith)
code_size_of ns (pair.Setter i parameter) x y c e = rw (same_code _ _ e) (omega arith)
code_size_of ns _ x y c e = absurd (cc e)

pub is_code : (ns : List ParseNode) (f : Pair) (x y : ℕ) (c : Code) → Some c ≡ code_of_pair f x y → IsPart ns x → IsPart ns y → IsCode ns c
is_code ns (pair.Function i) x y c e p q = rw (same_code _ _ e) (record { key = tt; list = p; body = q })
is_code ns (pair.NamedFunction i name) x y c e p q = rw (same_code _ _ e) (record { key = tt; list = p; body = q })
is_code ns (pair.DeclaredFunction i name) x y c e p q = rw (same_code _ _ e) (record { key = tt; list = p; body = q })
is_code ns (pair.Getter i) x y c e p q = rw (same_code _ _ e) (record { key = p; list = tt; body = q })
is_code ns (pair.Setter i parameter) x y c e p q = rw (same_code _ _ e) (record { key = p; list = tt; body = q })
is_code ns _ x y c e p q = absurd (cc e)

pub pair_faults : (leaves : List Leaf) (a : Around) (f : Pair) (i j : ℕ) (x y : ParseTree) → None ≡ code_of_pair f i j
    → own_of_pair leaves f x ++ faults leaves a x ++ faults leaves (record { scopes = a.scopes; in_loop = loops f a.in_loop }) y ≡ faults leaves a (parse_tree.Pair f x y)
pair_faults leaves a (pair.Function k) i j x y e = absurd (cc e)
pair_faults leaves a (pair.NamedFunction k name) i j x y e = absurd (cc e)
pair_faults leaves a (pair.DeclaredFunction k name) i j x y e = absurd (cc e)
pair_faults leaves a (pair.Getter k) i j x y e = absurd (cc e)
pair_faults leaves a (pair.Setter k parameter) i j x y e = absurd (cc e)
pair_faults leaves a _ i j x y e = refl

-- the names of a function, as the calls that read them say
pub code_opened : (leaves : List Leaf) (ns : List ParseNode) (a b : Walk) (outer : ScopeId) (c : Code) (id : ScopeId) (fault : Option SourceFault) (made : Scope) (ps ds qs es : List Declared)
    → fault ≡ least (optional_binding leaves c.bound ++ duplicates leaves (ps ++ ds)) → made ≡ function_scope leaves (own_units leaves c.callee) qs es
    → ps ≡ parameters_of ns c.parameters → ds ≡ declared_in (tree_at ns c.body) → qs ≡ parameters_of ns c.parameters → es ≡ declared_in (tree_at ns c.body)
    → ((found : List SourceFault) → fault ≡ least found → OpensScope leaves ns a b found outer made id)
    → OpensScope leaves ns a b (own_of_code leaves ns c) outer (scope_of_code leaves ns c) id
code_opened leaves ns a b outer c id fault made ps ds qs es is eq p d q e opens =
    let scope : made ≡ scope_of_code leaves ns c = eq ∙ rw (q, e) refl in
    rw (← scope) (opens (own_of_code leaves ns c) (is ∙ rw (p, d) refl))

pub triple_faults : (leaves : List Leaf) (a : Around) (f : Triple) (x y z : ParseTree) → (f ≡ triple.Method → ⊥) → faults leaves a x ++ faults leaves a y ++ faults leaves a z ≡ faults leaves a (parse_tree.Triple f x y z)
triple_faults leaves a triple.Method x y z p = absurd (p refl)
triple_faults leaves a _ x y z p = refl

pub catch_parameter : (p : Declared) (ds : List Declared) → p.manner ≡ manner.Catch → p ∷ ds ≡ declared_as manner.Catch p.name ∷ ds
catch_parameter p ds e = λ i. record { name = p.name; manner = e i } ∷ ds
