-- Worked examples, computed: tone 1 with a citation and tone 2 with a mixture of two stand in slots 0, 4 and 5; a tone that nothing is given for has no listing;
-- accent 5 is held and accent 6 is not, nor is tone 7.
use Rattle.std.specs.Prelude.{ℕ, ◌≡◌, refl, true, false, cond, Some, None, List, [], ◌∷◌, ◌++◌, eqb, replicate}
use Rattle.std.proofs.Math.Option.{Option, none, some}
use Rattle.std.specs.Float.Ieee.{of_bits}
use Rattle.tonekit_core.specs.Loop.{turns, range}
use Rattle.spec_lookup.specs.Source.{Tone, Accent, Carried, Source, accent_in, tone_in}
use Rattle.spec_lookup.specs.declared.Context.{Context}
use Rattle.spec_judgement.specs.declared.Slot.{Slot}
use Rattle.tonekit_entries.specs.declared.ToneEntry.{ToneEntry}
use Rattle.tonekit_entries.specs.declared.Region.{Region}
use Rattle.spec_judgement.specs.declared.Tolerance.{Tolerance}
use Rattle.spec_judgement.specs.Inventory.{Inventory, Listings}
use Rattle.spec_judgement.specs.Gather.{f32, with_tone, put_in, slotted, listings, gathered}

-- bits: 1, a half, a quarter, 2 and 4
abbrev one : ℕ
one = 0x3f80_0000

abbrev half : ℕ
half = 0x3f00_0000

abbrev quarter : ℕ
quarter = 0x3e80_0000

abbrev two : ℕ
two = 0x4000_0000

abbrev four : ℕ
four = 0x4080_0000

abbrev first : Tone
first = record { number = 1; prior = half; flag = 0; from = 0; to = 0; tail_final = 0; tail_elsewhere = 0 }

-- with a tail: 4 at the end of a phrase, a half elsewhere
abbrev second : Tone
second = record { number = 2; prior = quarter; flag = 1; from = one; to = two; tail_final = four; tail_elsewhere = half }

abbrev third : Tone
third = record { number = 3; prior = one; flag = 0; from = 0; to = 0; tail_final = 0; tail_elsewhere = 0 }

abbrev citation : Carried
citation = record { owner = 5; form = 1; label = 0; part = 0; weight = one; points = replicate 10 two }

-- part n of a rule of accent 9, with one point ten times
abbrev part : ℕ → ℕ → ℕ → Carried
part n weight point = record { owner = 9; form = 3; label = 700; part = n; weight = weight; points = replicate 10 point }

abbrev looked : ℕ → Option (List Carried)
looked tone =
    cond (eqb tone 1) (some (citation ∷ []))
    (cond (eqb tone 2) (some (part 0 half one ∷ part 1 quarter four ∷ [])) none)

abbrev fifth : Accent
fifth = record { number = 5; contour = half; onset = one; offset = two; turning = four }

abbrev ninth : Accent
ninth = record { number = 9; contour = one; onset = half; offset = half; turning = half }

abbrev held : List Tone → Source
held tones = record { settings = record { temperature = one; threshold = half }; tones = tones; accents = fifth ∷ ninth ∷ []; look = λ c. looked c.tone }

-- whatever tone the context has
abbrev here : Context
here = record { accent = 5; tone = 7; prev = 0; last = true }

abbrev its_region : Region
its_region = record { from = f32 one; to = f32 two }

-- the two tones' entries, the second's with this tail, and that of the third, for which nothing is given
abbrev cited : ToneEntry
cited = record { number = 1; prior = f32 half; region = None; tail = f32 0; listing = Some (record { name = record { owner = 5; form = 1; label = 0 }; count = 1 }) }

abbrev mixed : ℕ → ToneEntry
mixed tail = record { number = 2; prior = f32 quarter; region = Some its_region; tail = f32 tail; listing = Some (record { name = record { owner = 9; form = 3; label = 700 }; count = 2 }) }

abbrev unlisted : ToneEntry
unlisted = record { number = 3; prior = f32 one; region = None; tail = f32 0; listing = None }

abbrev both : ℕ → Inventory
both tail = record { items = cited ∷ mixed tail ∷ [] }

abbrev blank_slot : Slot
blank_slot = record { weight = f32 0; points = replicate 10 (f32 0) }

-- a slot of a weight, with one point ten times
abbrev slot : ℕ → ℕ → Slot
slot weight point = record { weight = f32 weight; points = replicate 10 (f32 point) }

abbrev both_listed : ℕ → Listings
both_listed tail = record {
  inventory = both tail;
  slots = record { list = slot one two ∷ (replicate 3 blank_slot ++ (slot half one ∷ slot quarter four ∷ replicate 26 blank_slot)) };
}

two_tones : listings (held (first ∷ second ∷ [])) here ≡ both_listed four
unfolding listings range turns slotted with_tone put_in of_bits
two_tones = refl

-- tone 3 has nothing, and the tone behind it is there
abbrev around : Inventory
around = record { items = cited ∷ unlisted ∷ mixed four ∷ [] }

none_for_third : listings (held (first ∷ third ∷ second ∷ [])) here ≡ record {
  inventory = around;
  slots = record { list = slot one two ∷ (replicate 7 blank_slot ++ (slot half one ∷ slot quarter four ∷ replicate 22 blank_slot)) };
}
unfolding listings range turns slotted with_tone put_in of_bits
none_for_third = refl

-- what stood before is part of the context: after tone 1 the third tone has what `looked` gives for 1
after_first : (listings (record (held (third ∷ [])) { look = λ c. looked c.prev }) (record here { prev = 1 })).inventory
    ≡ record { items = record unlisted { listing = cited.listing } ∷ [] }
unfolding listings range turns slotted with_tone put_in of_bits
after_first = refl

-- under a held accent, after nothing
abbrev fifths : Tolerance
fifths = record { contour = f32 half; onset = f32 one; offset = f32 two; turning = f32 four }

under_fifth : gathered (held (first ∷ second ∷ [])) here
    ≡ record { prev = true; settings = record { temperature = f32 one; threshold = f32 half }; tolerance = Some fifths; listed = both_listed four }
unfolding gathered accent_in tone_in listings range turns slotted with_tone put_in of_bits
under_fifth = refl

-- under an accent that is not held, after a tone that is not, and not at the end of a phrase
under_none : gathered (held (first ∷ second ∷ [])) (record { accent = 6; tone = 1; prev = 7; last = false })
    ≡ record { prev = false; settings = record { temperature = f32 one; threshold = f32 half }; tolerance = None; listed = both_listed half }
unfolding gathered accent_in tone_in listings range turns slotted with_tone put_in of_bits
under_none = refl

-- and after one that is
after_second : (gathered (held (first ∷ second ∷ [])) (record { accent = 5; tone = 1; prev = 2; last = false })).prev ≡ true
unfolding gathered tone_in
after_second = refl

-- "Tolerances are the graded accent's, also for inherited rules": the rule is accent 9's
owner_elsewhere : (gathered (held (second ∷ [])) here).tolerance ≡ Some fifths
unfolding gathered accent_in of_bits
owner_elsewhere = refl
