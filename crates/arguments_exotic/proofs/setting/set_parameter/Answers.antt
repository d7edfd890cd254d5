use Rattle.es_model.specs.Changes.{SettingCell, changed}
use Rattle.arguments_exotic.proofs.SetAlike.{write_later}
use Rattle.arguments_exotic.proofs.setting.set_parameter.Goals as goal

pub returns-clause-named : goal.returns-clause-named
returns-clause-named g c = λ w stands known.
    c.set_ordinary.ensures.named (changed (SettingCell c.args.parameter.cell c.args.value) w) (c.set_cell.ensures.goes w stands).stands
    (write_later w c.args.parameter.cell c.args.value c.args.object c.args.key c.args.value c.args.receiver known)
