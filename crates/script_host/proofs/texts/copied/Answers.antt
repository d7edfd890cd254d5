use Rattle.std.proofs.Common.{◌≡◌, ◌++◌, ◌∷◌, ◌∙◌, [], ap, sym, take, get_or, rules}
use Rattle.std.proofs.lemmas.List.{take_more}
use Rattle.std.proofs.lemmas.Option.{get_or_from_slice_get, slice_get_within}
use Rattle.script_host.proofs.texts.copied.Goals as goal

pub loop-i-preserved : goal.loop-i-preserved
loop-i-preserved c =
    let text = c.args.text.now in
    let i = c.loop-i.i in
    let pushed : c.push.new.self.items ≡ take i text ++ c.unit.result ∷ [] = search rules in
    let unit : get_or text i 0 ≡ c.unit.result = get_or_from_slice_get text i c.unit.result 0 c.unit.ensures in
    pushed ∙ sym (take_more text i 0 (slice_get_within text i c.unit.result c.unit.ensures) ∙ ap (λ u. take i text ++ u ∷ []) unit)
