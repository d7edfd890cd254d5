use Rattle.std.proofs.Common.{◌≡◌, ◌+◌, ℕ, suc, Some, List, [], ◌∷◌, ◌++◌, take, slice_get, ap, sym, ◌∙◌, arith}
use Rattle.std.proofs.Math.Seq.{take-suc}
use Rattle.std.proofs.lemmas.Option.{slice_get_within, get_or_from_slice_get}
use Rattle.property_keys.specs.declared.values.Value.{Value}
use Rattle.plain_builtins.proofs.arguments.Arguments.of.Goals as goal

-- one value more
taken : (l : List Value) (n m : ℕ) (x : Value) → m ≡ n + 1 → slice_get l n ≡ Some x → take n l ++ x ∷ [] ≡ take m l
taken l n m x e s =
    let next : suc n ≡ m = omega arith in
    ap (λ y. take n l ++ y ∷ []) (sym (get_or_from_slice_get l n x x s)) ∙ sym (take-suc l n x (slice_get_within l n x s)) ∙ ap (λ k. take k l) next

pub copied-preserved : goal.copied-preserved
copied-preserved c = (
  omega (arith, c.len.ensures, c.copied-test.true),
  c.in-Ok.ensures.items ∙ ap (λ xs. xs ++ c.at.result.now ∷ []) c.copied.invariant.1 ∙ taken c.args.values.now c.copied.n (c.copied.n + 1) c.at.result.now (omega arith) c.at.ensures,
)
