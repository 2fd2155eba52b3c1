-- What contracts of the lookup name beside its definitions: pieces of those, and what it is asked with.
use Rattle.std.specs.Prelude.{ℕ, ◌+◌, ◌-◌, ◌*◌, ◌≤◌, ◌<◌, ◌≡◌, cond, List, Option, Some, eqb, min, length, get_or, Float}
use Rattle.tonekit_core.specs.declared.layout.TheConstants.{CITATION_FORM, PART_SIZE}
use Rattle.spec_arithmetic.specs.Whole.{whole_part}
use Rattle.spec_lookup.specs.declared.Winner.{Winner}
use Rattle.spec_lookup.specs.declared.Context.{Context}
use Rattle.spec_lookup.specs.declared.Listing.{Listing}
use Rattle.spec_lookup.specs.Knots.{Knots}
use Rattle.spec_lookup.specs.Lookup.{better_of, tone_knots_at, part_knots_at}

-- a turn of the loop over an accent's rules
abbrev pub best_turn : List ℕ → List ℕ → Context → ℕ → Option ℕ → Option ℕ
best_turn s rules c k best = better_of s c best (get_or rules k 0)

-- the rule at offset r, of accent i
abbrev pub won : ℕ → ℕ → Winner
won i r = record { accent = i; rule = r }

-- a winner is the rule of one of n accents, at an offset as offsets are held
abbrev pub WithinPack : ℕ → Option Winner → Type 0
WithinPack n w = (x : Winner) → w ≡ Some x → (x.accent < n) × (x.rule < 65536)

-- the knot at or before a position, but never the last one
abbrev pub knot_before : Float → ℕ → ℕ
knot_before x last = min (whole_part x) (last - 1)

-- the knots of component j
abbrev pub knots_of : List ℕ → Listing → ℕ → List Float
knots_of s l j =
    cond (eqb l.name.form CITATION_FORM) (tone_knots_at s l.at) (part_knots_at s (l.at + PART_SIZE * j))

-- component j can be read, as in each listing that a pack that loads gives: it stands within the bytes, and its knots are in their ranges
pub record Listed (s : List ℕ) (l : Listing) (j : ℕ) : Type 0 where
  pub inside : l.at + PART_SIZE * j + PART_SIZE ≤ length s
  pub few : j < 4
  pub curve : Knots (knots_of s l j)
