-- What the simple command is, computed.
use Rattle.std.proofs.Common.{◌≡◌, true, false, refl, List, [], ◌∷◌, map, ap}
use Rattle.clap.specs.Words.{IsAmong, Kinds, is_simple, is_simple_and_free}
use Rattle.clap.specs.declared.error.kind.ErrorKind.{ErrorKind}
use Rattle.clap.proofs.OnLiterals.{clap_on_literals}
use Rattle.command_words.specs.Command.{is_free_of_faults, the_command}

pub command_is_simple : is_simple the_command ≡ true
unfolding the_command clap_on_literals
command_is_simple = refl

pub command_is_free : is_simple_and_free the_command ≡ true
unfolding the_command clap_on_literals
command_is_free = refl

pub map_same : {X : Type 0} (xs : List X) → map (λ x. x) xs ≡ xs
map_same [] = refl
map_same (x ∷ xs) = ap (λ ys. x ∷ ys) (map_same xs)

-- where there is a kind among them, there are faults
pub faults_show : (kind : ErrorKind) (kinds : Kinds) → IsAmong kind kinds → is_free_of_faults kinds ≡ false
faults_show kind [] among = absurd among
faults_show kind (k ∷ kinds) among = refl
