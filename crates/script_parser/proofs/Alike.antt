-- Two algebras of values that agree make the machine agree.
use Rattle.std.proofs.Common.{suc, ◌≡◌, ℕ, Bool, true, false, not, ◌&&◌, cond, List, [], ◌∷◌, Option, Some, None, refl, subst, ap}
use Rattle.es_tree.specs.declared.expressions.ShortOperator.TheVariants as short_operator
use Rattle.es_tree.specs.declared.expressions.UnaryOperator.{UnaryOperator}
use Rattle.script_grammar.specs.declared.kinds.NameRole.{NameRole}
use Rattle.script_grammar.specs.declared.kinds.NameRole.TheVariants as role
use Rattle.script_grammar.specs.declared.kinds.Word.TheVariants as words
use Rattle.script_grammar.specs.declared.kinds.Bracket.TheVariants as brackets
use Rattle.script_grammar.specs.declared.kinds.Mark.TheVariants as marks
use Rattle.script_grammar.specs.declared.kinds.Kind.TheVariants as kinds
use Rattle.script_grammar.specs.declared.kinds.Level.{Level}
use Rattle.script_grammar.specs.declared.kinds.Level.TheVariants as levels
use Rattle.script_grammar.specs.declared.labels.Pair.{Pair}
use Rattle.script_grammar.specs.declared.labels.Atom.TheVariants as atom
use Rattle.script_grammar.specs.declared.labels.Wrap.TheVariants as wrap
use Rattle.script_grammar.specs.declared.labels.Pair.TheVariants as pair
use Rattle.script_grammar.specs.declared.sign.Sign.{Sign}
use Rattle.script_grammar.specs.declared.sign.Sign.TheVariants.{Token as of, Inserted as put}
use Rattle.script_grammar.specs.declared.act.Act.{Act}
use Rattle.script_grammar.specs.declared.act.Act.TheVariants as act_kinds
use Rattle.script_grammar.specs.declared.symbol.Terminal.{Terminal}
use Rattle.script_grammar.specs.declared.symbol.Terminal.TheVariants as terminals
use Rattle.script_grammar.specs.declared.symbol.Listing.{Listing}
use Rattle.script_grammar.specs.declared.symbol.Listing.TheVariants as listings
use Rattle.script_grammar.specs.declared.symbol.Expected.{Expected}
use Rattle.script_grammar.specs.declared.symbol.Expected.TheVariants as expectation
use Rattle.script_grammar.specs.declared.symbol.Tail.{Tail}
use Rattle.script_grammar.specs.declared.symbol.Tail.TheVariants as tails
use Rattle.script_grammar.specs.declared.symbol.Loose.{Loose}
use Rattle.script_grammar.specs.declared.symbol.Loose.TheVariants as loose_kind
use Rattle.script_grammar.specs.declared.symbol.Stage.{Stage}
use Rattle.script_grammar.specs.declared.symbol.Stage.TheVariants as stages
use Rattle.script_grammar.specs.declared.symbol.Symbol.{Symbol}
use Rattle.script_grammar.specs.declared.symbol.Symbol.TheVariants as symbols
use Rattle.script_grammar.specs.Kinds.{prefix_of, infix_of, is_word, is_key}
use Rattle.script_grammar.specs.Grammar.{is_end}
use Rattle.script_grammar.specs.Machine.{Outcome, Fail, Next, Algebra, takes, keeps, fits, closing, is_comma, same_line, ends_key, below}
use Rattle.script_grammar.specs.Machine as grammar_machine
use Rattle.script_parser.specs.Settling as settling

abbrev pub Like : {S U : Type 0} → (S → U → Type 0) → Outcome S → Outcome U → Type 0
Like R Fail Fail = Unit {0}
Like R (Next γ s n) (Next δ u j) = (γ ≡ δ) × (n ≡ j) × R s u
Like R _ _ = ⊥

module _ (S U : Type 0) (alg : Algebra S) (bet : Algebra U) (R : S → U → Type 0) (acts : (f : Act) (s : S) (u : U) → R s u → R (alg.act f s) (bet.act f u)) (targets : (s : S) (u : U) → R s u → alg.target s ≡ bet.target u) (plains : (s : S) (u : U) → R s u → alg.plain s ≡ bet.plain u) where
  both : (c : Bool) (x o : Outcome S) (x' o' : Outcome U) → Like R x x' → Like R o o' → Like R (cond c x o) (cond c x' o')
  both true x o x' o' h i = h
  both false x o x' o' h i = i

  -- where both tests are one
  same_test : (c c' : Bool) (x o : Outcome S) (x' o' : Outcome U) → c ≡ c' → Like R x x' → Like R o o' → Like R (cond c x o) (cond c' x' o')
  same_test c c' x o x' o' h i j = subst (λ (d : Bool). Like R (cond c x o) (cond d x' o')) h (both c x o x' o' i j)

  expect_like : (c : Bool) (γ : List Symbol) (d : ℕ) (s : S) (u : U) → R s u → Like R (cond c (Next γ s d) Fail) (cond c (Next γ u d) Fail)
  expect_like c γ d s u r = both c (Next γ s d) Fail (Next γ u d) Fail (refl, refl, r) tt

  primary_like : (d : ℕ) (γ : List Symbol) (s : S) (u : U) (x : Sign) → R s u → Like R (grammar_machine.at_primary S alg d γ s x) (grammar_machine.at_primary U bet d γ u x)
  primary_like d γ s u (of (kinds.Name n) i a) r = (refl, refl, acts _ s u r)
  primary_like d γ s u (of kinds.Number i a) r = (refl, refl, acts _ s u r)
  primary_like d γ s u (of kinds.Text i a) r = (refl, refl, acts _ s u r)
  primary_like d γ s u (of (kinds.Word words.This) i a) r = (refl, refl, acts _ s u r)
  primary_like d γ s u (of (kinds.Word words.Null) i a) r = (refl, refl, acts _ s u r)
  primary_like d γ s u (of (kinds.Word words.True) i a) r = (refl, refl, acts _ s u r)
  primary_like d γ s u (of (kinds.Word words.False) i a) r = (refl, refl, acts _ s u r)
  primary_like d γ s u (of (kinds.Bracket brackets.Open) i a) r = (refl, refl, r)
  primary_like d γ s u (of (kinds.Bracket brackets.SquareOpen) i a) r = (refl, refl, acts _ s u r)
  primary_like d γ s u (of (kinds.Bracket brackets.BraceOpen) i a) r = (refl, refl, acts _ s u r)
  primary_like d γ s u (of (kinds.Word words.Function) i a) r = (refl, refl, r)
  primary_like d γ s u (of (kinds.Word words.New) i a) r = (refl, refl, r)
  primary_like d γ s u _ r = tt

  left_like : (d : ℕ) (γ : List Symbol) (s : S) (u : U) (x : Sign) → R s u → Like R (grammar_machine.at_left S alg d γ s x) (grammar_machine.at_left U bet d γ u x)
  left_like d γ s u x r = primary_like d (symbols.Tail tails.Left d ∷ symbols.Tail tails.Update d ∷ γ) s u x r

  prefixed_like : (d : ℕ) (γ : List Symbol) (s : S) (u : U) (x : Sign) (i : ℕ) (p : Option UnaryOperator) → R s u → Like R (grammar_machine.prefixed S alg d γ s x i p) (grammar_machine.prefixed U bet d γ u x i p)
  prefixed_like d γ s u x i (Some op) r = (refl, refl, r)
  prefixed_like d γ s u x i None r = left_like d γ s u x r

  unary_like : (d : ℕ) (γ : List Symbol) (s : S) (u : U) (x : Sign) → R s u → Like R (grammar_machine.at_unary S alg d γ s x) (grammar_machine.at_unary U bet d γ u x)
  unary_like d γ s u (of (kinds.Update up) i a) r = (refl, refl, r)
  unary_like d γ s u (of kind i a) r = prefixed_like d γ s u (of kind i a) i (prefix_of kind) r
  unary_like d γ s u put r = tt

  operand_like : (n : Level) (p : Bool) (d : ℕ) (γ : List Symbol) (s : S) (u : U) (x : Sign) → R s u → Like R (grammar_machine.at_operand S alg n p d γ s x) (grammar_machine.at_operand U bet n p d γ u x)
  operand_like n p d γ s u x r = unary_like d (below n p d γ) s u x r

  assign_like : (p : Bool) (d : ℕ) (γ : List Symbol) (s : S) (u : U) (x : Sign) → R s u → Like R (grammar_machine.at_assign S alg p d γ s x) (grammar_machine.at_assign U bet p d γ u x)
  assign_like p d γ s u x r = operand_like levels.Or p (suc d) (symbols.Tail (tails.Level levels.Or p) (suc d) ∷ symbols.Tail (tails.Short p) (suc d) ∷ symbols.Tail (tails.Conditional p) (suc d) ∷ symbols.Tail (tails.Assign p) (suc d) ∷ γ) s u x r

  expr_like : (p : Bool) (d : ℕ) (γ : List Symbol) (s : S) (u : U) (x : Sign) → R s u → Like R (grammar_machine.at_expr S alg p d γ s x) (grammar_machine.at_expr U bet p d γ u x)
  expr_like p d γ s u x r = assign_like p d (symbols.Tail (tails.Expression p) d ∷ γ) s u x r

  block_like : (d : ℕ) (γ : List Symbol) (s : S) (u : U) (x : Sign) → R s u → Like R (grammar_machine.at_block S alg d γ s x) (grammar_machine.at_block U bet d γ u x)
  block_like d γ s u (of (kinds.Bracket brackets.BraceOpen) i a) r = (refl, refl, acts _ s u r)
  block_like d γ s u _ r = tt

  body_like : (d : ℕ) (γ : List Symbol) (s : S) (u : U) (x : Sign) → R s u → Like R (grammar_machine.at_body S alg d γ s x) (grammar_machine.at_body U bet d γ u x)
  body_like d γ s u (of (kinds.Bracket brackets.BraceOpen) i a) r = (refl, refl, acts _ s u r)
  body_like d γ s u _ r = tt

  params_like : (d : ℕ) (γ : List Symbol) (s : S) (u : U) (x : Sign) → R s u → Like R (grammar_machine.at_params S alg d γ s x) (grammar_machine.at_params U bet d γ u x)
  params_like d γ s u (of (kinds.Bracket brackets.Open) i a) r = (refl, refl, acts _ s u r)
  params_like d γ s u _ r = tt

  statement_like : (d : ℕ) (γ : List Symbol) (s : S) (u : U) (x : Sign) → R s u → Like R (grammar_machine.at_statement S alg d γ s x) (grammar_machine.at_statement U bet d γ u x)
  statement_like d γ s u (of (kinds.Bracket brackets.BraceOpen) i a) r = (refl, refl, acts _ s u r)
  statement_like d γ s u (of (kinds.Mark marks.Semicolon) i a) r = (refl, refl, acts _ s u r)
  statement_like d γ s u (of (kinds.Word words.If) i a) r = (refl, refl, r)
  statement_like d γ s u (of (kinds.Word words.While) i a) r = (refl, refl, r)
  statement_like d γ s u (of (kinds.Word words.For) i a) r = (refl, refl, r)
  statement_like d γ s u (of (kinds.Word words.Break) i a) r = (refl, refl, acts _ s u r)
  statement_like d γ s u (of (kinds.Word words.Continue) i a) r = (refl, refl, acts _ s u r)
  statement_like d γ s u (of (kinds.Word words.Return) i a) r = (refl, refl, r)
  statement_like d γ s u (of (kinds.Word words.Throw) i a) r = (refl, refl, r)
  statement_like d γ s u (of (kinds.Word words.Try) i a) r = (refl, refl, r)
  statement_like d γ s u (of (kinds.Word words.Function) i a) r = tt
  statement_like d γ s u x r = expr_like false (suc d) (symbols.Take (terminals.Semicolon false) (suc d) ∷ symbols.Do (act_kinds.Wrap wrap.Evaluate) ∷ γ) s u x r

  bind_like : (c h : Bool) (d : ℕ) (γ : List Symbol) (s : S) (u : U) (x : Sign) → R s u → Like R (grammar_machine.at_bind S alg c h d γ s x) (grammar_machine.at_bind U bet c h d γ u x)
  bind_like c h d γ s u (of (kinds.Name n) i a) r = (refl, refl, r)
  bind_like c h d γ s u _ r = tt

  item_like : (h : Bool) (d : ℕ) (γ : List Symbol) (s : S) (u : U) (x : Sign) → R s u → Like R (grammar_machine.at_item S alg h d γ s x) (grammar_machine.at_item U bet h d γ u x)
  item_like true d γ s u (of (kinds.Word words.Function) i a) r = (refl, refl, r)
  item_like false d γ s u (of (kinds.Word words.Function) i a) r = tt
  item_like true d γ s u (of (kinds.Word words.Let) i a) r = (refl, refl, acts _ s u r)
  item_like false d γ s u (of (kinds.Word words.Let) i a) r = (refl, refl, acts _ s u r)
  item_like true d γ s u (of (kinds.Word words.Const) i a) r = (refl, refl, acts _ s u r)
  item_like false d γ s u (of (kinds.Word words.Const) i a) r = (refl, refl, acts _ s u r)
  item_like true d γ s u x r = statement_like d γ s u x r
  item_like false d γ s u x r = statement_like d γ s u x r

  maybe_like : (p : Bool) (n : Terminal) (d : ℕ) (γ : List Symbol) (s : S) (u : U) (x : Sign) → R s u → Like R (grammar_machine.at_maybe S alg p n d γ s x) (grammar_machine.at_maybe U bet p n d γ u x)
  maybe_like p n d γ s u x r = both (fits n x) (Next γ (grammar_machine.none S alg s) d) (grammar_machine.at_expr S alg p d (symbols.Take n d ∷ γ) s x) (Next γ (grammar_machine.none U bet u) d) (grammar_machine.at_expr U bet p d (symbols.Take n d ∷ γ) u x)
      (refl, refl, acts _ s u r) (expr_like p d (symbols.Take n d ∷ γ) s u x r)

  first_like : (d : ℕ) (γ : List Symbol) (s : S) (u : U) (x : Sign) → R s u → Like R (grammar_machine.at_first S alg d γ s x) (grammar_machine.at_first U bet d γ u x)
  first_like d γ s u (of (kinds.Word words.Let) i a) r = (refl, refl, acts _ s u r)
  first_like d γ s u (of (kinds.Word words.Const) i a) r = (refl, refl, acts _ s u r)
  first_like d γ s u x r = maybe_like true (terminals.Semicolon true) d γ s u x r

  part_like : (n : Expected) (d : ℕ) (γ : List Symbol) (s : S) (u : U) (x : Sign) → R s u → Like R (grammar_machine.at_part S alg n d γ s x) (grammar_machine.at_part U bet n d γ u x)
  part_like expectation.Statement d γ s u x r = statement_like d γ s u x r
  part_like expectation.Block d γ s u x r = block_like d γ s u x r
  part_like expectation.Body d γ s u x r = body_like d γ s u x r
  part_like expectation.Parameters d γ s u x r = params_like d γ s u x r
  part_like (expectation.Expression p) d γ s u x r = expr_like p d γ s u x r
  part_like (expectation.Assign p) d γ s u x r = assign_like p d γ s u x r
  part_like expectation.Unary d γ s u x r = unary_like d γ s u x r
  part_like (expectation.Operand n p) d γ s u x r = operand_like n p d γ s u x r
  part_like (expectation.Callee i) d γ s u x r = primary_like d (symbols.Loose (loose_kind.Callee i) d ∷ γ) s u x r
  part_like expectation.Target d γ s u x r = primary_like d (symbols.Loose loose_kind.Target d ∷ γ) s u x r
  part_like (expectation.Binding c h) d γ s u x r = bind_like c h d γ s u x r
  part_like expectation.First d γ s u x r = first_like d γ s u x r
  part_like (expectation.Maybe p n) d γ s u x r = maybe_like p n d γ s u x r
  part_like (expectation.Thrown i) d γ s u x r =
      both (same_line x) (grammar_machine.at_expr S alg false d (symbols.Take (terminals.Semicolon false) d ∷ symbols.Do (act_kinds.Wrap (wrap.Throw i)) ∷ γ) s x) Fail (grammar_machine.at_expr U bet false d (symbols.Take (terminals.Semicolon false) d ∷ symbols.Do (act_kinds.Wrap (wrap.Throw i)) ∷ γ) u x) Fail
      (expr_like false d (symbols.Take (terminals.Semicolon false) d ∷ symbols.Do (act_kinds.Wrap (wrap.Throw i)) ∷ γ) s u x r) tt

  after_left_like : (again : Symbol) (d : ℕ) (γ : List Symbol) (s : S) (u : U) (x : Sign) → R s u → Like R (grammar_machine.after_left S alg again d γ s x) (grammar_machine.after_left U bet again d γ u x)
  after_left_like again d γ s u (of (kinds.Mark marks.Dot) i a) r = (refl, refl, r)
  after_left_like again d γ s u (of (kinds.Bracket brackets.SquareOpen) i a) r = (refl, refl, r)
  after_left_like again d γ s u (of (kinds.Bracket brackets.Open) i a) r = (refl, refl, acts _ s u r)
  after_left_like again d γ s u _ r = tt

  after_callee_like : (j d : ℕ) (γ : List Symbol) (s : S) (u : U) (x : Sign) → R s u → Like R (grammar_machine.after_callee S alg j d γ s x) (grammar_machine.after_callee U bet j d γ u x)
  after_callee_like j d γ s u (of (kinds.Mark marks.Dot) i a) r = (refl, refl, r)
  after_callee_like j d γ s u (of (kinds.Bracket brackets.SquareOpen) i a) r = (refl, refl, r)
  after_callee_like j d γ s u (of (kinds.Bracket brackets.Open) i a) r = (refl, refl, acts _ s u r)
  after_callee_like j d γ s u _ r = tt

  after_update_like : (d : ℕ) (γ : List Symbol) (s : S) (u : U) (x : Sign) → R s u → Like R (grammar_machine.after_update S alg d γ s x) (grammar_machine.after_update U bet d γ u x)
  after_update_like d γ s u (of (kinds.Update up) i false) r =
      same_test (alg.target s) (bet.target u) (Next γ (alg.act (act_kinds.Wrap (wrap.Update up false i)) s) d) Fail (Next γ (bet.act (act_kinds.Wrap (wrap.Update up false i)) u) d) Fail
      (targets s u r) (refl, refl, acts _ s u r) tt
  after_update_like d γ s u _ r = tt

  joined_like : (n : Level) (p : Bool) (d : ℕ) (γ : List Symbol) (s : S) (u : U) (f : Option (Level × Pair)) → R s u → Like R (grammar_machine.joined S alg n p d γ s f) (grammar_machine.joined U bet n p d γ u f)
  joined_like n p d γ s u (Some f) r = (refl, refl, r)
  joined_like n p d γ s u None r = tt

  after_level_like : (n : Level) (p : Bool) (d : ℕ) (γ : List Symbol) (s : S) (u : U) (x : Sign) → R s u → Like R (grammar_machine.after_level S alg n p d γ s x) (grammar_machine.after_level U bet n p d γ u x)
  after_level_like n p d γ s u (of kind i a) r = joined_like n p d γ s u (infix_of kind) r
  after_level_like n p d γ s u put r = tt

  after_short_like : (p : Bool) (d : ℕ) (γ : List Symbol) (s : S) (u : U) (x : Sign) → R s u → Like R (grammar_machine.after_short S alg p d γ s x) (grammar_machine.after_short U bet p d γ u x)
  after_short_like p d γ s u (of (kinds.Short short_operator.Coalesce) i a) r =
      same_test (alg.plain s) (bet.plain u) (Next (symbols.Part (expectation.Operand levels.And p) d ∷ symbols.Do (act_kinds.Pair (pair.Short short_operator.Coalesce)) ∷ symbols.Tail (tails.Short p) d ∷ γ) s d) Fail (Next (symbols.Part (expectation.Operand levels.And p) d ∷ symbols.Do (act_kinds.Pair (pair.Short short_operator.Coalesce)) ∷ symbols.Tail (tails.Short p) d ∷ γ) u d) Fail
      (plains s u r) (refl, refl, r) tt
  after_short_like p d γ s u _ r = tt

  after_cond_like : (p : Bool) (d : ℕ) (γ : List Symbol) (s : S) (u : U) (x : Sign) → R s u → Like R (grammar_machine.after_cond S alg p d γ s x) (grammar_machine.after_cond U bet p d γ u x)
  after_cond_like p d γ s u (of (kinds.Mark marks.Question) i a) r = (refl, refl, r)
  after_cond_like p d γ s u _ r = tt

  after_assign_like : (p : Bool) (d : ℕ) (γ : List Symbol) (s : S) (u : U) (x : Sign) → R s u → Like R (grammar_machine.after_assign S alg p d γ s x) (grammar_machine.after_assign U bet p d γ u x)
  after_assign_like p d γ s u (of (kinds.Assign op) i a) r =
      same_test (alg.target s) (bet.target u) (Next (symbols.Part (expectation.Assign p) d ∷ symbols.Do (act_kinds.Pair (pair.Assign op)) ∷ γ) s d) Fail (Next (symbols.Part (expectation.Assign p) d ∷ symbols.Do (act_kinds.Pair (pair.Assign op)) ∷ γ) u d) Fail
      (targets s u r) (refl, refl, r) tt
  after_assign_like p d γ s u _ r = tt

  after_expr_like : (p : Bool) (d : ℕ) (γ : List Symbol) (s : S) (u : U) (x : Sign) → R s u → Like R (grammar_machine.after_expr S alg p d γ s x) (grammar_machine.after_expr U bet p d γ u x)
  after_expr_like p d γ s u (of (kinds.Mark marks.Comma) i a) r = (refl, refl, r)
  after_expr_like p d γ s u _ r = tt

  continue_like : (n : Tail) (d : ℕ) (γ : List Symbol) (s : S) (u : U) (x : Sign) → R s u → Like R (grammar_machine.continue S alg n d γ s x) (grammar_machine.continue U bet n d γ u x)
  continue_like tails.Left d γ s u x r = after_left_like (symbols.Tail tails.Left d) d γ s u x r
  continue_like tails.Update d γ s u x r = after_update_like d γ s u x r
  continue_like (tails.Level n p) d γ s u x r = after_level_like n p d γ s u x r
  continue_like (tails.Short p) d γ s u x r = after_short_like p d γ s u x r
  continue_like (tails.Conditional p) d γ s u x r = after_cond_like p d γ s u x r
  continue_like (tails.Assign p) d γ s u x r = after_assign_like p d γ s u x r
  continue_like (tails.Expression p) d γ s u x r = after_expr_like p d γ s u x r

  key_like : (d : ℕ) (γ : List Symbol) (s : S) (u : U) (x : Sign) → R s u → Like R (grammar_machine.at_key S alg d γ s x) (grammar_machine.at_key U bet d γ u x)
  key_like d γ s u (of (kinds.Bracket brackets.SquareOpen) i a) r = (refl, refl, r)
  key_like d γ s u (of kind i a) r = both (is_key kind) (Next γ (alg.act (act_kinds.Atom (atom.Key i)) s) d) Fail (Next γ (bet.act (act_kinds.Atom (atom.Key i)) u) d) Fail (refl, refl, acts _ s u r) tt
  key_like d γ s u put r = tt

  prop_like : (d : ℕ) (γ : List Symbol) (s : S) (u : U) (x : Sign) → R s u → Like R (grammar_machine.at_prop S alg d γ s x) (grammar_machine.at_prop U bet d γ u x)
  prop_like d γ s u (of (kinds.Name n) i a) r = (refl, refl, r)
  prop_like d γ s u x r = key_like d (symbols.Stage stages.AfterKey d ∷ γ) s u x r

  after_key_like : (d : ℕ) (γ : List Symbol) (s : S) (u : U) (x : Sign) → R s u → Like R (grammar_machine.after_key S alg d γ s x) (grammar_machine.after_key U bet d γ u x)
  after_key_like d γ s u (of (kinds.Mark marks.Colon) i a) r = (refl, refl, r)
  after_key_like d γ s u (of (kinds.Bracket brackets.Open) i a) r = (refl, refl, acts _ s u r)
  after_key_like d γ s u _ r = tt

  accessor_like : (n : NameRole) (i d : ℕ) (γ : List Symbol) (s : S) (u : U) (x : Sign) → R s u → Like R (grammar_machine.at_accessor S alg n i d γ s x) (grammar_machine.at_accessor U bet n i d γ u x)
  accessor_like role.Get i d γ s u x r = key_like d (symbols.Take terminals.Open (suc d) ∷ symbols.Take terminals.Close (suc d) ∷ symbols.Part expectation.Body (suc d) ∷ symbols.Do (act_kinds.Pair (pair.Getter i)) ∷ γ) s u x r
  accessor_like role.Set i d γ s u x r = key_like d (symbols.Take terminals.Open (suc d) ∷ symbols.Stage (stages.SetterName i) (suc d) ∷ γ) s u x r
  accessor_like role.Plain i d γ s u x r = tt

  after_prop_like : (n : NameRole) (i d : ℕ) (γ : List Symbol) (s : S) (u : U) (x : Sign) → R s u → Like R (grammar_machine.after_prop S alg n i d γ s x) (grammar_machine.after_prop U bet n i d γ u x)
  after_prop_like n i d γ s u x r =
      both (ends_key x) (grammar_machine.after_key S alg d γ (alg.act (act_kinds.Atom (atom.Key i)) s) x) (grammar_machine.at_accessor S alg n i d γ s x) (grammar_machine.after_key U bet d γ (bet.act (act_kinds.Atom (atom.Key i)) u) x) (grammar_machine.at_accessor U bet n i d γ u x)
      (after_key_like d γ (alg.act (act_kinds.Atom (atom.Key i)) s) (bet.act (act_kinds.Atom (atom.Key i)) u) x (acts _ s u r)) (accessor_like n i d γ s u x r)

  go_on_like : (n : Loose) (d : ℕ) (γ : List Symbol) (s : S) (u : U) (x : Sign) → R s u → Like R (grammar_machine.go_on S alg n d γ s x) (grammar_machine.go_on U bet n d γ u x)
  go_on_like (loose_kind.Items h) d γ s u x r = item_like h d (symbols.Do (act_kinds.Pair pair.And) ∷ symbols.Loose (loose_kind.Items h) d ∷ γ) s u x r
  go_on_like (loose_kind.Else i) d γ s u x r = (refl, refl, r)
  go_on_like (loose_kind.Finally i) d γ s u x r = (refl, refl, r)
  go_on_like (loose_kind.Callee i) d γ s u x r = after_callee_like i d γ s u x r
  go_on_like loose_kind.Target d γ s u x r = after_left_like (symbols.Loose loose_kind.Target d) d γ s u x r
  go_on_like (loose_kind.Binding c h i) d γ s u x r = (refl, refl, r)
  go_on_like (loose_kind.Property n i) d γ s u x r = after_prop_like n i d γ s u x r

  pub may_leave_like : (n : Loose) (s : S) (u : U) → R s u → grammar_machine.may_leave S alg n s ≡ grammar_machine.may_leave U bet n u
  may_leave_like loose_kind.Target s u r = targets s u r
  may_leave_like (loose_kind.Binding c h i) s u r = refl
  may_leave_like (loose_kind.Items h) s u r = refl
  may_leave_like (loose_kind.Else i) s u r = refl
  may_leave_like (loose_kind.Finally i) s u r = refl
  may_leave_like (loose_kind.Callee i) s u r = refl
  may_leave_like (loose_kind.Property n i) s u r = refl

  pub leave_like : (n : Loose) (s : S) (u : U) → R s u → R (grammar_machine.leave S alg n s) (grammar_machine.leave U bet n u)
  leave_like (loose_kind.Items h) s u r = r
  leave_like (loose_kind.Else i) s u r = acts _ s u r
  leave_like (loose_kind.Finally i) s u r = acts _ _ _ (acts _ s u r)
  leave_like (loose_kind.Callee i) s u r = acts _ _ _ (acts _ s u r)
  leave_like loose_kind.Target s u r = r
  leave_like (loose_kind.Binding c h i) s u r = acts _ s u r
  leave_like (loose_kind.Property n i) s u r = acts _ s u r

  param_like : (d : ℕ) (γ : List Symbol) (s : S) (u : U) (x : Sign) → R s u → Like R (grammar_machine.at_param S alg d γ s x) (grammar_machine.at_param U bet d γ u x)
  param_like d γ s u (of (kinds.Name n) i a) r = (refl, refl, acts _ s u r)
  param_like d γ s u _ r = tt

  member_like : (n : Listing) (d : ℕ) (γ : List Symbol) (s : S) (u : U) (x : Sign) → R s u → Like R (grammar_machine.at_member S alg n d γ s x) (grammar_machine.at_member U bet n d γ u x)
  member_like listings.Arguments d γ s u x r = assign_like false d γ s u x r
  member_like listings.Parameters d γ s u x r = param_like d γ s u x r
  member_like listings.Properties d γ s u x r = prop_like d γ s u x r

  word_like : (dot d : ℕ) (γ : List Symbol) (s : S) (u : U) (x : Sign) → R s u → Like R (grammar_machine.on_word S alg dot d γ s x) (grammar_machine.on_word U bet dot d γ u x)
  word_like dot d γ s u (of kind i a) r = both (is_word kind) (Next γ (alg.act (act_kinds.Wrap (wrap.Member dot i)) s) d) Fail (Next γ (bet.act (act_kinds.Wrap (wrap.Member dot i)) u) d) Fail (refl, refl, acts _ s u r) tt
  word_like dot d γ s u put r = tt

  after_try_like : (j d : ℕ) (γ : List Symbol) (s : S) (u : U) (x : Sign) → R s u → Like R (grammar_machine.after_try S alg j d γ s x) (grammar_machine.after_try U bet j d γ u x)
  after_try_like j d γ s u (of (kinds.Word words.Catch) i a) r = (refl, refl, r)
  after_try_like j d γ s u (of (kinds.Word words.Finally) i a) r = (refl, refl, acts _ s u r)
  after_try_like j d γ s u _ r = tt

  after_catch_like : (d : ℕ) (γ : List Symbol) (s : S) (u : U) (x : Sign) → R s u → Like R (grammar_machine.after_catch S alg d γ s x) (grammar_machine.after_catch U bet d γ u x)
  after_catch_like d γ s u (of (kinds.Bracket brackets.Open) i a) r = (refl, refl, r)
  after_catch_like d γ s u x r = block_like d (symbols.Do (act_kinds.Wrap wrap.Catch) ∷ γ) s u x r

  catch_name_like : (d : ℕ) (γ : List Symbol) (s : S) (u : U) (x : Sign) → R s u → Like R (grammar_machine.catch_name S alg d γ s x) (grammar_machine.catch_name U bet d γ u x)
  catch_name_like d γ s u (of (kinds.Name n) i a) r = (refl, refl, r)
  catch_name_like d γ s u _ r = tt

  function_name_like : (j d : ℕ) (γ : List Symbol) (s : S) (u : U) (x : Sign) → R s u → Like R (grammar_machine.function_name S alg j d γ s x) (grammar_machine.function_name U bet j d γ u x)
  function_name_like j d γ s u (of (kinds.Name n) i a) r = (refl, refl, r)
  function_name_like j d γ s u _ r = tt

  after_function_like : (j d : ℕ) (γ : List Symbol) (s : S) (u : U) (x : Sign) → R s u → Like R (grammar_machine.after_function S alg j d γ s x) (grammar_machine.after_function U bet j d γ u x)
  after_function_like j d γ s u (of (kinds.Name n) i a) r = (refl, refl, r)
  after_function_like j d γ s u x r = params_like d (symbols.Part expectation.Body d ∷ symbols.Do (act_kinds.Pair (pair.Function j)) ∷ γ) s u x r

  setter_name_like : (j d : ℕ) (γ : List Symbol) (s : S) (u : U) (x : Sign) → R s u → Like R (grammar_machine.setter_name S alg j d γ s x) (grammar_machine.setter_name U bet j d γ u x)
  setter_name_like j d γ s u (of (kinds.Name n) i a) r = (refl, refl, r)
  setter_name_like j d γ s u _ r = tt

  elements_like : (d : ℕ) (γ : List Symbol) (s : S) (u : U) (x : Sign) → R s u → Like R (grammar_machine.more_elements S alg d γ s x) (grammar_machine.more_elements U bet d γ u x)
  elements_like d γ s u x r =
      both (fits terminals.SquareClose x) (Next γ s d)
      (cond (is_comma x) (Next (symbols.Stage stages.Elements d ∷ γ) (alg.act (act_kinds.Pair pair.And) (alg.act (act_kinds.Atom atom.Hole) s)) d) (grammar_machine.at_assign S alg false d (symbols.Do (act_kinds.Pair pair.And) ∷ symbols.Stage stages.AfterElement d ∷ γ) s x))
      (Next γ u d)
      (cond (is_comma x) (Next (symbols.Stage stages.Elements d ∷ γ) (bet.act (act_kinds.Pair pair.And) (bet.act (act_kinds.Atom atom.Hole) u)) d) (grammar_machine.at_assign U bet false d (symbols.Do (act_kinds.Pair pair.And) ∷ symbols.Stage stages.AfterElement d ∷ γ) u x))
      (refl, refl, r)
      (both (is_comma x) (Next (symbols.Stage stages.Elements d ∷ γ) (alg.act (act_kinds.Pair pair.And) (alg.act (act_kinds.Atom atom.Hole) s)) d) (grammar_machine.at_assign S alg false d (symbols.Do (act_kinds.Pair pair.And) ∷ symbols.Stage stages.AfterElement d ∷ γ) s x)
      (Next (symbols.Stage stages.Elements d ∷ γ) (bet.act (act_kinds.Pair pair.And) (bet.act (act_kinds.Atom atom.Hole) u)) d) (grammar_machine.at_assign U bet false d (symbols.Do (act_kinds.Pair pair.And) ∷ symbols.Stage stages.AfterElement d ∷ γ) u x)
      (refl, refl, acts _ _ _ (acts _ s u r)) (assign_like false d (symbols.Do (act_kinds.Pair pair.And) ∷ symbols.Stage stages.AfterElement d ∷ γ) s u x r))

  -- the end, or a comma, or nothing else
  rest_like : (c c' : Bool) (γ δ : List Symbol) (d : ℕ) (s s' : S) (u u' : U) → R s u → R s' u'
      → Like R (cond c (Next γ s' d) (cond c' (Next δ s d) Fail)) (cond c (Next γ u' d) (cond c' (Next δ u d) Fail))
  rest_like true c' γ δ d s s' u u' r r' = (refl, refl, r')
  rest_like false c' γ δ d s s' u u' r r' = expect_like c' δ d s u r

  stage_like : (n : Stage) (d : ℕ) (γ : List Symbol) (s : S) (u : U) (x : Sign) → R s u → Like R (grammar_machine.at_stage S alg n d γ s x) (grammar_machine.at_stage U bet n d γ u x)
  stage_like (stages.Word i) d γ s u x r = word_like i d γ s u x r
  stage_like (stages.Listed n) d γ s u x r =
      both (fits (closing n) x) (Next γ s d) (grammar_machine.at_member S alg n d (symbols.Do (act_kinds.Pair pair.And) ∷ symbols.Stage (stages.Rest n) d ∷ γ) s x) (Next γ u d) (grammar_machine.at_member U bet n d (symbols.Do (act_kinds.Pair pair.And) ∷ symbols.Stage (stages.Rest n) d ∷ γ) u x)
      (refl, refl, r) (member_like n d (symbols.Do (act_kinds.Pair pair.And) ∷ symbols.Stage (stages.Rest n) d ∷ γ) s u x r)
  stage_like (stages.Rest n) d γ s u x r = rest_like (fits (closing n) x) (is_comma x) γ (symbols.Stage (stages.Listed n) d ∷ γ) d s s u u r r
  stage_like stages.Elements d γ s u x r = elements_like d γ s u x r
  stage_like stages.AfterElement d γ s u x r = rest_like (fits terminals.SquareClose x) (is_comma x) γ (symbols.Stage stages.Elements d ∷ γ) d s s u u r r
  stage_like (stages.AfterReturn i) d γ s u x r =
      both (is_end false x) (Next γ (alg.act (act_kinds.Atom (atom.Return i)) s) d) (cond (same_line x) (grammar_machine.at_expr S alg false d (symbols.Take (terminals.Semicolon false) d ∷ symbols.Do (act_kinds.Wrap (wrap.Return i)) ∷ γ) s x) Fail)
      (Next γ (bet.act (act_kinds.Atom (atom.Return i)) u) d) (cond (same_line x) (grammar_machine.at_expr U bet false d (symbols.Take (terminals.Semicolon false) d ∷ symbols.Do (act_kinds.Wrap (wrap.Return i)) ∷ γ) u x) Fail)
      (refl, refl, acts _ s u r)
      (both (same_line x) (grammar_machine.at_expr S alg false d (symbols.Take (terminals.Semicolon false) d ∷ symbols.Do (act_kinds.Wrap (wrap.Return i)) ∷ γ) s x) Fail (grammar_machine.at_expr U bet false d (symbols.Take (terminals.Semicolon false) d ∷ symbols.Do (act_kinds.Wrap (wrap.Return i)) ∷ γ) u x) Fail
      (expr_like false d (symbols.Take (terminals.Semicolon false) d ∷ symbols.Do (act_kinds.Wrap (wrap.Return i)) ∷ γ) s u x r) tt)
  stage_like (stages.AfterTry i) d γ s u x r = after_try_like i d γ s u x r
  stage_like stages.AfterCatch d γ s u x r = after_catch_like d γ s u x r
  stage_like stages.CatchName d γ s u x r = catch_name_like d γ s u x r
  stage_like (stages.MoreBindings c h i) d γ s u x r =
      rest_like (is_end h x) (is_comma x) γ (symbols.Part (expectation.Binding c h) d ∷ symbols.Do (act_kinds.Pair pair.And) ∷ symbols.Stage (stages.MoreBindings c h i) d ∷ γ) d s _ u _ r (acts (act_kinds.Wrap (wrap.Lexical c i)) s u r)
  stage_like (stages.FunctionName i) d γ s u x r = function_name_like i d γ s u x r
  stage_like (stages.AfterFunction i) d γ s u x r = after_function_like i d γ s u x r
  stage_like stages.AfterKey d γ s u x r = after_key_like d γ s u x r
  stage_like (stages.SetterName i) d γ s u x r = setter_name_like i d γ s u x r

  pub step_like : (γ : List Symbol) (s : S) (u : U) (x : Sign) → R s u → Like R (grammar_machine.step S alg γ s x) (grammar_machine.step U bet γ u x)
  step_like [] s u x r = tt
  step_like (symbols.Part n d ∷ γ) s u x r = part_like n d γ s u x r
  step_like (symbols.Stage n d ∷ γ) s u x r = stage_like n d γ s u x r
  step_like (symbols.Take n d ∷ γ) s u x r = expect_like (fits n x) γ d s u r
  step_like (symbols.Tail n d ∷ γ) s u x r = both (takes n x) (grammar_machine.continue S alg n d γ s x) (grammar_machine.step S alg γ s x) (grammar_machine.continue U bet n d γ u x) (grammar_machine.step U bet γ u x) (continue_like n d γ s u x r) (step_like γ s u x r)
  step_like (symbols.Loose n d ∷ γ) s u x r =
      both (keeps n x) (grammar_machine.go_on S alg n d γ s x) (cond (grammar_machine.may_leave S alg n s) (grammar_machine.step S alg γ (grammar_machine.leave S alg n s) x) Fail) (grammar_machine.go_on U bet n d γ u x) (cond (grammar_machine.may_leave U bet n u) (grammar_machine.step U bet γ (grammar_machine.leave U bet n u) x) Fail)
      (go_on_like n d γ s u x r)
      (same_test (grammar_machine.may_leave S alg n s) (grammar_machine.may_leave U bet n u) (grammar_machine.step S alg γ (grammar_machine.leave S alg n s) x) Fail (grammar_machine.step U bet γ (grammar_machine.leave U bet n u) x) Fail
      (may_leave_like n s u r) (step_like γ (grammar_machine.leave S alg n s) (grammar_machine.leave U bet n u) x (leave_like n s u r)) tt)
  step_like (symbols.Do f ∷ γ) s u x r = step_like γ (alg.act f s) (bet.act f u) x (acts f s u r)

  -- What is left alone at a token is the same.
  pub loose_like : (z : Symbol) (s : S) (u : U) (x : Sign) → R s u → settling.loose S alg z s x ≡ settling.loose U bet z u x
  loose_like (symbols.Tail n d) s u x r = refl
  loose_like (symbols.Loose n d) s u x r = ap (λ (c : Bool). not (keeps n x) && c) (may_leave_like n s u r)
  loose_like (symbols.Do f) s u x r = refl
  loose_like (symbols.Part n d) s u x r = refl
  loose_like (symbols.Stage n d) s u x r = refl
  loose_like (symbols.Take n d) s u x r = refl

  pub drops_like : (z : Symbol) (s : S) (u : U) → R s u → R (settling.drops S alg z s) (settling.drops U bet z u)
  drops_like (symbols.Loose n d) s u r = leave_like n s u r
  drops_like (symbols.Do f) s u r = acts f s u r
  drops_like (symbols.Tail n d) s u r = r
  drops_like (symbols.Part n d) s u r = r
  drops_like (symbols.Stage n d) s u r = r
  drops_like (symbols.Take n d) s u r = r
