-- A pack's tones and listings, as what a station holds: its tones are its records', and a listing's name is that of its first component. Assumes nothing.
use Rattle.std.specs.Prelude.{Some, None}
use Rattle.std.proofs.Common.{Bool, ℕ, ◌+◌, ◌≤◌, ◌<◌, ◌≡◌, ap, ◌∙◌, List, [], length, get_or, arith}
use Rattle.std.proofs.lemmas.List.{length-map}
use Rattle.spec_arithmetic.specs.Fields.{byte_at, f32_at}
use Rattle.tonekit_pack.specs.declared.Pack.{Pack}
use Rattle.tonekit_bytes.specs.Places.{in_order}
use Rattle.tonekit_bytes.proofs.InOrder.{order_length, order_get}
use Rattle.spec_lookup.specs.Source.{Carried, components, tone_at, source_of_pack, absent_tone}
use Rattle.spec_lookup.specs.declared.Listing.{Listing}
use Rattle.tonekit_expect.proofs.Carried.{named, components_at, components_length}
use Rattle.tonekit_inventory.specs.Fields.{region_at, region_in, tail_at}
use Rattle.tonekit_inventory.specs.OfPack.{source_in}
use Rattle.spec_judgement.specs.Gather.{region_of, entry_of, named_of}
use Rattle.std.proofs.lemmas.List.{get_or-map}
use Rattle.tonekit_inventory.proofs.Going.{first_named}

-- ---- a listing's name is that of its first component
nothing_carried : Carried
nothing_carried = record { owner = 0; form = 0; label = 0; part = 0; weight = 0; points = [] }

pub listing_named : (s : List ℕ) (l : Listing) → 1 ≤ l.count → named_of (components s l l.count) ≡ Some (record { name = l.name; count = l.count })
listing_named s l h =
    let n = named s l 0 in
    first_named (components s l l.count) nothing_carried (rw (components_length s l l.count) h)
    ∙ rw (components_length s l l.count, components_at s l nothing_carried l.count 0 h, n.owner, n.form, n.label)

-- ---- a tone's values in its record
pub region_is : (s : List ℕ) (o : ℕ) → region_in (region_at s (o + 47)) ≡ region_of (tone_at 47 7 s o)
unfolding region_at region_in
region_is s o =
    let a : o + 47 + 1 ≡ o + 48 = omega arith in
    let b : o + 47 + 5 ≡ o + 52 = omega arith in
    rw (a, b)

module _ (s : List ℕ) (p : Pack) where
  pub tones_many : length (source_in s p).tones ≡ p.tones.count
  unfolding source_of_pack
  tones_many = length-map (in_order p.tones.at p.tones.count) (tone_at 47 7 s) ∙ order_length p.tones.at p.tones.count

  module _ (t : ℕ) (h : t < p.tones.count) (last : Bool) where
    abbrev at : ℕ
    at = get_or p.tones.at t 0

    tone_is : get_or (source_in s p).tones t absent_tone ≡ tone_at 47 7 s at
    unfolding source_of_pack
    tone_is =
        get_or-map (tone_at 47 7 s) (in_order p.tones.at p.tones.count) t 0 absent_tone (rw order_length h)
        ∙ ap (tone_at 47 7 s) (order_get p.tones.at p.tones.count t h)

    pub entry_is : record { number = byte_at s (at + 1); prior = f32_at s (at + 2); region = region_in (region_at s (at + 47)); tail = tail_at 7 last s (at + 56); listing = None }
        ≡ entry_of last (get_or (source_in s p).tones t absent_tone) None
    unfolding tail_at
    entry_is = rw (tone_is, region_is)
