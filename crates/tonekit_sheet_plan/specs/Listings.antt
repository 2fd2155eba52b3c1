-- The curves of a context, found again from their owner and the record that they stand in.
use Rattle.std.specs.Prelude.{Option}
use Rattle.std.specs.Prelude.{ℕ, ◌-◌, ◌≤◌, ◌<◌, ◌≡◌, cond, List, Some, eqb}
use Rattle.tonekit_core.specs.declared.layout.TheConstants.{CITATION_FORM, RULE_KIND, RULE_SIZE}
use Rattle.spec_arithmetic.specs.Fields.{byte_at}
use Rattle.spec_lookup.specs.Lookup.{rule_listing, citation}
use Rattle.tonekit_expect.specs.Pieces.{Listed}
use Rattle.spec_lookup.specs.Source.{Carried, components}
use Rattle.spec_lookup.specs.declared.Listing.{Listing}

-- all that the components of a listing carry
abbrev pub carried_by : List ℕ → Listing → List Carried
carried_by s l = components s l l.count

-- the record of a listing: a citation's tone, else the rule before the parts
abbrev pub record_of : Listing → ℕ
record_of l = cond (eqb l.name.form CITATION_FORM) l.at (l.at - RULE_SIZE)

-- a rule's record; any other record of a listing is a tone's
unfoldable pub listing_from : List ℕ → ℕ → ℕ → Listing
listing_from s owner o = cond (eqb (byte_at s o) RULE_KIND) (rule_listing s owner o) (citation owner o)

-- a listing that is found again, and whose components can be read
pub record Kept (s : List ℕ) (l : Listing) : Type 0 where
  pub near : record_of l < 65536
  pub behind : (l.name.form ≡ CITATION_FORM → ⊥) → RULE_SIZE ≤ l.at
  pub same : listing_from s l.name.owner (record_of l) ≡ l
  pub some : 1 ≤ l.count
  pub few : l.count ≤ 4
  pub each : (j : ℕ) → j < l.count → Listed s l j

-- what a lookup gives is such a listing, or nothing
abbrev pub LookKept : List ℕ → Option Listing → Type 0
LookKept s x = (l : Listing) → x ≡ Some l → Kept s l
