-- A pack, as what a station holds: the source that it stands for, and what a lookup in it lists.
use Rattle.std.specs.Prelude.{ℕ, ◌≤◌, ◌<◌, List, Option, Some, None, Result, Ok, Err}
use Rattle.tonekit_core.specs.declared.Rejection.{Rejection}
use Rattle.spec_arithmetic.specs.Files.{Out, loaded, refused}
use Rattle.spec_pack.specs.Pack.{PackRead, load_pack}
use Rattle.tonekit_pack.specs.Held.{records_of}
use Rattle.tonekit_pack.specs.declared.Pack.{Pack}
use Rattle.tonekit_expect.specs.Pieces as lookup
use Rattle.spec_lookup.specs.Source.{Source, source_of_pack}
use Rattle.spec_lookup.specs.declared.Listing.{Listing}

-- what a pack that was read from these bytes stands for
abbrev pub source_in : List ℕ → Pack → Source
source_in s p = source_of_pack s (records_of p)

-- what the bytes of a pack hold, or why they are none
abbrev pub source_or : List ℕ → Out PackRead → Result Source Rejection
source_or s (loaded st end) = Ok (source_of_pack s st)
source_or s (refused r place) = Err (record { why = r; place = place })

abbrev pub load_source : List ℕ → Result Source Rejection
load_source s = source_or s (load_pack s)

-- the pack that was read, if one was
abbrev pub pack_in : Out PackRead → Option PackRead
pack_in (loaded st end) = Some st
pack_in (refused r place) = None

-- a listing of one to four components that can be read
pub record Short (s : List ℕ) (l : Listing) : Type 0 where
  pub some : 1 ≤ l.count
  pub few : l.count ≤ 4
  pub each : (j : ℕ) → j < l.count → lookup.Listed s l j
