use Rattle.std.proofs.Common.{◌≡◌, ◌≤◌, [], length, arith, sym, subst}
use Rattle.std.proofs.lemmas.Bool.Decides.{nat_tests}
use Rattle.std.proofs.lemmas.List.{get_or_past}
use Rattle.property_keys.specs.declared.keys.PropKey.TheVariants.{Name}
use Rattle.property_keys.specs.Keys.{key_of}
use Rattle.property_keys.specs.Texts.{text_at}
use Rattle.evaluator.proofs.Joining.{empty_key}
use Rattle.evaluator.proofs.texts.key_of.Goals as goal

pub returns-else-text-len : goal.returns-else-text-len
returns-else-text-len c = λ w h.
    let same : c.texts_ref-texts.result.now ≡ w.lists.texts = c.texts_ref-texts.ensures w h in
    let past : length w.lists.texts ≤ c.args.text.0 = subst (λ ts. length ts ≤ c.args.text.0) same (grind (arith, nat_tests, c.len.ensures, c.if-text-len.false)) in
    let empty : text_at w.lists.texts c.args.text.0 ≡ [] = get_or_past w.lists.texts c.args.text.0 [] past in
    subst (λ u. Name c.args.text ≡ key_of u c.args.text) (sym empty) (sym (empty_key c.args.text))
