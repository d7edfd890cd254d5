use Rattle.std.proofs.Common.{◌+◌, ◌<◌, arith, ap, sym, ◌∙◌}
use Rattle.std.proofs.lemmas.Option.{slice_get_within}
use Rattle.property_keys.specs.Texts.{interned}
use Rattle.es_model.specs.StartTexts.{all_start_texts}
use Rattle.object_heap.proofs.StartLists.{start-text, nothing-left}
use Rattle.object_heap.proofs.starting.start_texts.Goals as goal

pub loop-text-preserved : goal.loop-text-preserved
loop-text-preserved c =
    let s = sym c.start_text.ensures ∙ c.in-Some.is in
    let b : c.loop-text.n < 37 = slice_get_within all_start_texts c.loop-text.n c.in-Some.text s in
    let units = c.in_ok-units.ensures ∙ c.as_bytes.ensures.value ∙ c.text.ensures in
    (omega arith, start-text c.loop-text.n (c.loop-text.n + 1) (omega arith) c.loop-text.texts c.intern.new.self c.in-Some.text s c.loop-text.invariant.1 ((c.in_ok-intern.ensures).table ∙ ap (λ u. interned c.loop-text.texts u) units))

pub loop-text-smaller : goal.loop-text-smaller
loop-text-smaller c =
    let s = sym c.start_text.ensures ∙ c.in-Some.is in
    let b : c.loop-text.n < 37 = slice_get_within all_start_texts c.loop-text.n c.in-Some.text s in
    omega arith

pub returns : goal.returns
returns c = nothing-left c.loop-text.n c.loop-text.texts (sym c.start_text.ensures ∙ c.in_default.is) c.loop-text.invariant.1
