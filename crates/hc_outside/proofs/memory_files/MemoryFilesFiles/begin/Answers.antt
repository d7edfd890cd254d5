use Rattle.std.proofs.Common.{◌<◌, ◌≡◌, ◌∙◌, length, ap}
use Rattle.hc_outside.specs.States.{FilesState}
use Rattle.hc_outside.proofs.Places.{below_from_member, slice_get-append_left}
use Rattle.hc_outside.proofs.memory_files.MemoryFilesFiles.begin.Goals as goal

pub returns-clause-others : goal.returns-clause-others
returns-clause-others c = λ i before.
    let within : i < length c.args.self.now.left = below_from_member (length c.args.self.now.left) i before in
    let base : c.reserve.new.self.items ≡ c.args.self.now.left = c.reserve.ensures.items ∙ ap (λ (s : FilesState). s.left) c.self.view_is in
    let all = rw c.unwrap.ensures at c.push-3.ensures.items in
    rw (all, base) (slice_get-append_left _ _ i within)
