-- What the calls promise that make the tree of a script. Want of memory is free.
use Rattle.std.specs.Prelude.{◌≡◌, ◌<◌, ◌^◌, true, false, length, Result, Ok, Err, Option}
use Rattle.es_tree.specs.declared.numbers.SiteId.{SiteId}
use Rattle.es_source.specs.declared.place.Place.{Place}
use Rattle.script_rules.specs.declared.role.Role.{Role}
use Rattle.script_checker.specs.declared.made_parts.MadeParts.{MadeParts}
use Rattle.script_checker.specs.Made.{Made, PartWithMade, part, add_site_where, is_read, is_written, site_where}

-- there are fewer than 2^32 of each
pub record HasRoom (m : Made) : Type 0 where
  pub nodes : length m.nodes < 2 ^ 32
  pub functions : length m.functions < 2 ^ 32
  pub literals : length m.literals < 2 ^ 32
  pub sites : length m.sites < 2 ^ 32

-- what was made is that, and the answer is that
abbrev pub Adds : {T E : Type 0} → Made → T → Made → Result T E → Type 0
Adds wanted answer new (Ok x) = (new ≡ wanted) × (x ≡ answer)
Adds wanted answer new (Err e) = Unit {0}

-- a part became that, with all that was made
abbrev pub Makes : {E : Type 0} → PartWithMade → Made → Result MadeParts E → Type 0
Makes wanted new (Ok v) = part v new ≡ wanted
Makes wanted new (Err e) = Unit {0}

-- the sites of an access, read first
abbrev pub HasSites : {E : Type 0} → Place → Role → Made → Made → Result (Option SiteId × Option SiteId) E → Type 0
HasSites token r old new (Ok sites) =
    (sites.0 ≡ site_where (is_read r) old) × (sites.1 ≡ site_where (is_written r) (add_site_where (is_read r) token false old))
    × (new ≡ add_site_where (is_written r) token true (add_site_where (is_read r) token false old))
HasSites token r old new (Err e) = Unit {0}
