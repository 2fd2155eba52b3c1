-- What the reader's struct and answer stand for.
use Rattle.std.specs.Prelude.{ℕ, ◌<◌, ◌≡◌, List, get_or, Option, None, Result}
use Rattle.tonekit_core.specs.declared.Rejection.{Rejection}
use Rattle.tonekit_pack.specs.declared.Pack.{Pack}
use Rattle.tonekit_pack.specs.declared.Loaded.{Loaded}
use Rattle.tonekit_bytes.specs.Places.{in_order}
use Rattle.tonekit_pack.specs.Kinds.{last_of}
use Rattle.spec_pack.specs.Pack.{PackRead, parent_of}
use Rattle.tonekit_pack.specs.Format.{answer}
use Rattle.spec_arithmetic.specs.Files.{Out}

-- of each array as many entries as were read
abbrev pub records_of : Pack → PackRead
records_of p = record {
  last = last_of p.last;
  tones = in_order p.tones.at p.tones.count;
  accents = in_order p.accents.at p.accents.count;
  firsts = in_order p.firstrule p.accents.count;
  rules = in_order p.rules.at p.rules.count;
  parts = p.parts;
  total = p.total;
}

-- what the reader answers
abbrev pub answered : Result (Loaded Pack) Rejection → Out PackRead
answered = answer records_of

-- of each accent of a pack the place of its parent, or none
abbrev pub PlacesOfParents : List ℕ → Pack → List (Option ℕ) → Type 0
PlacesOfParents s p up = (i : ℕ) → i < p.accents.count → get_or up i None ≡ parent_of s (records_of p) i
