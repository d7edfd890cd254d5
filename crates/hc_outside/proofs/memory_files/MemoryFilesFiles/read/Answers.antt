use Rattle.std.proofs.Common.{arith, rules, [], ◌<◌, ◌≡◌, ◌∙◌, ◌++◌, ◌+◌, List, ℕ, ap, sym, subst, length, take, get_or, slice_get, slice_set, length-append, take-append-drop}
use Rattle.std.specs.Io.KnownBytes.{Consumes}
use Rattle.std.proofs.lemmas.List.{get_or_read}
use Rattle.hc_outside.specs.States.{FilesState}
use Rattle.hc_outside.proofs.Places.{below_from_member, slice_get-set_other, consumes_at, end_at, nothing}
use Rattle.hc_outside.proofs.memory_files.MemoryFilesFiles.read.Goals as goal

pub index_mut-unread-requires : goal.index_mut-unread-requires
index_mut-unread-requires c =
    let within : c.args.file.0 < length c.args.self.now.left = below_from_member (length c.args.self.now.left) c.args.file.0 c.requires in
    let same : length c.self.inside.unread.items ≡ length c.args.self.now.left = ap (λ (s : FilesState). length s.left) c.self.view_is in
    omega arith

pub returns-clause-state : goal.returns-clause-state
returns-clause-state c =
    let within : c.args.file.0 < length c.args.self.now.left = below_from_member (length c.args.self.now.left) c.args.file.0 c.requires in
    let same : length c.self.inside.unread.items ≡ length c.args.self.now.left = ap (λ (s : FilesState). length s.left) c.self.view_is in
    let item : c.index_mut-unread.result.now ≡ get_or c.self.inside.unread.items c.args.file.0 [] = get_or_read c.self.inside.unread.items c.args.file.0 c.index_mut-unread.result.now (omega arith) c.index_mut-unread.ensures.value [] in
    rw (← c.self.view_is, ← item) (search rules)

pub returns-clause-bytes : goal.returns-clause-bytes
returns-clause-bytes c =
    let within : c.args.file.0 < length c.args.self.now.left = below_from_member (length c.args.self.now.left) c.args.file.0 c.requires in
    let same : c.self.inside.unread.items ≡ c.args.self.now.left = ap (λ (s : FilesState). s.left) c.self.view_is in
    let there : c.args.file.0 < length c.self.inside.unread.items = rw same within in
    let xs = c.self.inside.unread.items in
    let i = c.args.file.0 in
    let old = c.index_mut-unread.result.now in
    let new = c.read.new.self in
    let front = take c.read.result c.read.new.part in
    let cut : old ≡ front ++ new = rw (c.read.ensures.front, c.read.ensures.rest) (sym (take-append-drop c.read.result old)) in
    let lens : length old ≡ length front + length new = ap length cut ∙ length-append front new in (
      subst (λ (ys : List (List ℕ)). Consumes (slice_get ys i) (slice_get (slice_set xs i new) i) front) same (consumes_at xs i old new front there c.index_mut-unread.ensures.value cut),
      λ none room. end_at xs i new there (nothing new (omega (arith, c.read.ensures.count))),
    )

pub returns-clause-others : goal.returns-clause-others
returns-clause-others c = λ i ne.
    slice_get-set_other c.self.inside.unread.items c.args.file.0 i c.read.new.self ne ∙ ap (λ (s : FilesState). slice_get s.left i) c.self.view_is
