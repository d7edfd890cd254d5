-- What is left of an algorithm where a frame waits, one line for each crate of frames. The tree is that of the script that runs.
use Rattle.es_tree.specs.Tree.{Tree}
use Rattle.es_model.specs.Frames.{program_rest}
use Rattle.es_model.specs.Unwinding.{Rest}
use Rattle.core_builtins.specs.Rests as core
use Rattle.evaluator.specs.Machine as evaluator
use Rattle.ordinary_object.specs.Rests as ordinary
use Rattle.plain_builtins.specs.Rests as plain
use Rattle.dispatcher.specs.declared.frames.Frame.{Frame}
use Rattle.dispatcher.specs.declared.frames.Frame.TheVariants.{Ordinary, Plain, Core, Running}

abbrev pub frame_rest : Tree → Rest Frame
frame_rest script (Ordinary f) S n c w = program_rest ordinary.program_after f S n c w
frame_rest script (Plain f) S n c w = program_rest plain.program_after f S n c w
frame_rest script (Core f) S n c w = program_rest core.program_after f S n c w
frame_rest script (Running f) S n c w = evaluator.eval_rest script f S n c w
