use Rattle.std.proofs.Common.{arith, ◌≡◌, ◌<◌, length, ap}
use Rattle.hc_outside.specs.States.{RealState}
use Rattle.hc_outside.proofs.Places.{below_from_member}
use Rattle.hc_outside.proofs.real_files.RealFilesFiles.read.Goals as goal

pub index_mut-opened-requires : goal.index_mut-opened-requires
index_mut-opened-requires g c =
    let within : c.args.file.0 < c.args.self.now.opened = below_from_member c.args.self.now.opened c.args.file.0 c.requires in
    let same : length c.self.inside.opened.items ≡ c.args.self.now.opened = ap (λ (s : RealState). s.opened) c.self.view_is in
    omega arith
