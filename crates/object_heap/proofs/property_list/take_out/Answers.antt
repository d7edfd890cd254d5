use Rattle.std.proofs.Common.{rules, not}
use Rattle.std.proofs.lemmas.Fn.{filter_same}
use Rattle.es_model.specs.declared.owned.OwnProperty.{OwnProperty}
use Rattle.es_model.specs.Objects.{same_key}
use Rattle.object_heap.proofs.property_list.take_out.Goals as goal

pub returns : goal.returns
returns c = filter_same _ (λ (p : OwnProperty). not (same_key p.key c.args.key)) _ (λ x b f' h. search rules) _ _ c.retain.ensures.filtered
