use Rattle.std.proofs.Common.{◌∙◌, ap, sym}
use Rattle.script_rules.specs.Faults.{static_fault}
use Rattle.script_rules.proofs.Parts.{is_part, tree_is}
use Rattle.script_checker.specs.Made.{checked_tree}
use Rattle.script_checker.proofs.checking.check.Goals as goal

pub static_fault-requires : goal.static_fault-requires
static_fault-requires c = is_part c.args.script.nodes c.args.script.root c.requires.0 c.requires.1

pub checked_tree-requires : goal.checked_tree-requires
checked_tree-requires c = is_part c.args.script.nodes c.args.script.root c.requires.0 c.requires.1

pub returns-in-Some : goal.returns-in-Some
returns-in-Some c =
    let s = c.args.script in
    λ x stands. ap (static_fault s.leaves) (sym (tree_is s.nodes s.root x stands)) ∙ sym c.in_ok-fault.ensures ∙ c.in-Some.is

pub returns : goal.returns
returns c =
    let s = c.args.script in
    λ x stands. let is = tree_is s.nodes s.root x stands in (
      ap (static_fault s.leaves) (sym is) ∙ sym c.in_ok-fault.ensures ∙ c.in-None.is,
      c.in_ok-checked_tree-in-None.ensures ∙ ap (checked_tree s.leaves) is,
    )
