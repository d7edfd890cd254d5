use Rattle.std.proofs.Common.{refl}
use Rattle.small_sources.specs.Bytes.{ill_formed_rows}
use Rattle.small_sources.proofs.Computing.{bytes_hold, decoding}
use Rattle.small_sources.proofs.tokens.bytes_are_decoded.Goals as goal

pub returns : goal.returns
unfolding decoding
returns c = bytes_hold ill_formed_rows refl
