-- The hashing of the tables that a run fills.
use Rattle.std.specs.Prelude.{ℕ, List, fold}
use Rattle.std.specs.Hash as fed
use Rattle.std.specs.Hash.DefaultHasher as sip
use Rattle.property_keys.specs.declared.hashing.RunHashing.{RunHashing}

-- the key that bytes give: their SipHash-1-3 with both keys 0
abbrev pub key_of_bytes : List ℕ → ℕ
key_of_bytes bytes = sip.finish (sip.write sip.initial bytes)

-- the hashers begin with the key
abbrev pub hashing_of : List ℕ → RunHashing
hashing_of bytes = record { start = fold sip.write sip.initial (fed.u64 (key_of_bytes bytes)) }
