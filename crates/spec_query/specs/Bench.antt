-- Worked queries, by computing: one that loads, and one refusal of each number with its place.
use Rattle.std.specs.Prelude.{ℕ, ◌≡◌, refl, Bool, true, false, List, [], ◌∷◌, ◌++◌, pos, take, drop, replicate, Ok, Err, Some, None}
use Rattle.std.specs.Float.{fin, binary32}
use Rattle.std.specs.Float.Ieee.{of_bits, lt}
use Rattle.tonekit_core.specs.Loop.{turns, range, turns_to, range_to}
use Rattle.tonekit_core.specs.declared.Refusal.TheVariants.{Misplaced, CutShort, Overrun, Crowded, BadQuery}
use Rattle.spec_query.specs.Query.{variant_fine, variants_fine, record_verdict, frame_verdict, fields_of, read_query, load_query, check_query, frames_of, variant_tone, variant_weight}
use Rattle.spec_query.specs.declared.Query.{Query}
use Rattle.spec_query.specs.Frames.{frame_at}

-- a fixed record: final, the high byte of the issues, the variant count and variants, the two bytes of the frame count
abbrev fixed : ℕ → ℕ → ℕ → List ℕ → ℕ → ℕ → List ℕ
fixed last issues variants slots low high = 48 ∷ 1 ∷ 1 ∷ 0 ∷ last ∷ (replicate 17 0 ++ (issues ∷ variants ∷ (slots ++ (low ∷ high ∷ []))))

abbrev unused : List ℕ
unused = replicate 20 0

-- a first variant of tone 0 and weight −0
abbrev minus_zero : List ℕ
minus_zero = 0 ∷ 0 ∷ 0 ∷ 0 ∷ 128 ∷ replicate 15 0

abbrev plain : ℕ → List ℕ
plain count = fixed 0 0 0 unused count 0

-- a frame's kind, flag and four bytes of hz; voiced_p is 1
abbrev frame : ℕ → ℕ → List ℕ → List ℕ
frame kind flag hz = kind ∷ flag ∷ (hz ++ (0 ∷ 0 ∷ 128 ∷ 63 ∷ []))

abbrev a110 : List ℕ
a110 = 0 ∷ 0 ∷ 220 ∷ 66 ∷ []

abbrev voiced : List ℕ
voiced = frame 50 1 a110

-- kind 55, and a query's fixed record with it
abbrev cold : List ℕ
cold = 55 ∷ []

abbrev cold_plain : ℕ → List ℕ
cold_plain count = plain count ++ cold

loads : (check_query (plain 1 ++ voiced) ≡ Ok tt) × (check_query (plain 0) ≡ Ok tt) × (check_query (fixed 1 3 1 minus_zero 0 0) ≡ Ok tt)
unfolding check_query load_query read_query record_verdict variants_fine variant_fine frame_verdict fields_of turns range turns_to range_to
loads = (refl, refl, refl)

-- 1: another kind, of the record and of a frame
misplaced : (check_query (49 ∷ plain 0) ≡ Err (record { why = Misplaced; place = 0 })) × (check_query (plain 1 ++ frame 51 1 a110) ≡ Err (record { why = Misplaced; place = 46 }))
unfolding check_query load_query read_query record_verdict variants_fine variant_fine frame_verdict fields_of turns range turns_to range_to
misplaced = (refl, refl)

-- kind 55 is due once, straight behind the fixed record, also where no frame is counted
cold_loads : (check_query (cold_plain 1 ++ voiced) ≡ Ok tt) × (check_query (cold_plain 0) ≡ Ok tt)
unfolding check_query load_query read_query record_verdict variants_fine variant_fine frame_verdict fields_of turns range turns_to range_to
cold_loads = (refl, refl)

-- 1: a second one, one behind a frame where another is due, another kind behind it; 2: no frame behind it, at its end; 3: one behind the last frame, a second
-- one where no frame is counted, a frame there; 10: a frame's flag behind it, at the frame
cold_refused : (check_query (cold_plain 1 ++ (cold ++ voiced)) ≡ Err (record { why = Misplaced; place = 47 }))
    × (check_query (plain 2 ++ (voiced ++ (cold ++ voiced))) ≡ Err (record { why = Misplaced; place = 56 }))
    × (check_query (cold_plain 1 ++ frame 51 1 a110) ≡ Err (record { why = Misplaced; place = 47 }))
    × (check_query (cold_plain 1) ≡ Err (record { why = CutShort; place = 47 }))
    × (check_query (cold_plain 1 ++ take 9 voiced) ≡ Err (record { why = CutShort; place = 47 }))
    × (check_query (plain 1 ++ (voiced ++ cold)) ≡ Err (record { why = Overrun; place = 56 }))
    × (check_query (cold_plain 1 ++ (voiced ++ cold)) ≡ Err (record { why = Overrun; place = 57 }))
    × (check_query (cold_plain 0 ++ cold) ≡ Err (record { why = Overrun; place = 47 }))
    × (check_query (cold_plain 0 ++ voiced) ≡ Err (record { why = Overrun; place = 47 }))
    × (check_query (cold_plain 1 ++ frame 50 2 a110) ≡ Err (record { why = BadQuery; place = 47 }))
unfolding check_query load_query read_query record_verdict variants_fine variant_fine frame_verdict fields_of turns range turns_to range_to
cold_refused = (refl, refl, refl, refl, refl, refl, refl, refl, refl, refl)

-- 2: no input, a record cut by a byte, before 4 in one record; a frame that is missing (at the input's end), a frame cut by a byte (at its offset)
cut : (check_query [] ≡ Err (record { why = CutShort; place = 0 }))
    × (check_query (take 45 (plain 0)) ≡ Err (record { why = CutShort; place = 0 }))
    × (check_query (take 45 (fixed 0 0 5 unused 0 0)) ≡ Err (record { why = CutShort; place = 0 }))
    × (check_query (plain 2 ++ voiced) ≡ Err (record { why = CutShort; place = 56 }))
    × (check_query (plain 2 ++ (voiced ++ take 9 voiced)) ≡ Err (record { why = CutShort; place = 56 }))
unfolding check_query load_query read_query record_verdict variants_fine variant_fine frame_verdict fields_of turns range turns_to range_to
cut = (refl, refl, refl, refl, refl)

-- 3: a byte behind; after 10 in a frame
overrun : (check_query (plain 1 ++ (voiced ++ (0 ∷ []))) ≡ Err (record { why = Overrun; place = 56 }))
    × (check_query (plain 1 ++ (frame 50 2 a110 ++ (0 ∷ []))) ≡ Err (record { why = BadQuery; place = 46 }))
unfolding check_query load_query read_query record_verdict variants_fine variant_fine frame_verdict fields_of turns range turns_to range_to
overrun = (refl, refl)

-- 4: five variants; 1,025 frames; before 10 in one record
crowded : (check_query (fixed 0 0 5 unused 0 0) ≡ Err (record { why = Crowded; place = 0 }))
    × (check_query (fixed 0 0 0 unused 1 4) ≡ Err (record { why = Crowded; place = 0 }))
    × (check_query (fixed 2 0 5 unused 0 0) ≡ Err (record { why = Crowded; place = 0 }))
unfolding check_query load_query read_query record_verdict variants_fine variant_fine frame_verdict fields_of turns range turns_to range_to
crowded = (refl, refl, refl)

-- 10: final 2; issue bit 10; an unused variant that is not zero bytes; a frame's flag 2
bad : (check_query (fixed 2 0 0 unused 0 0) ≡ Err (record { why = BadQuery; place = 0 }))
    × (check_query (fixed 0 4 0 unused 0 0) ≡ Err (record { why = BadQuery; place = 0 }))
    × (check_query (fixed 0 0 0 minus_zero 0 0) ≡ Err (record { why = BadQuery; place = 0 }))
    × (check_query (plain 2 ++ (voiced ++ frame 50 2 a110)) ≡ Err (record { why = BadQuery; place = 56 }))
unfolding check_query load_query read_query record_verdict variants_fine variant_fine frame_verdict fields_of turns range turns_to range_to
bad = (refl, refl, refl, refl)

-- a query of so many frames, without kind 55 and with it
abbrev counting : Bool → ℕ → Query
counting cold count = record (fields_of []) { count = count; cold = cold }

-- behind kind 55 the frames begin a byte later
frames_behind : (frames_of (plain 1 ++ voiced) (counting false 1) ≡ voiced) × (frames_of (cold_plain 1 ++ voiced) (counting true 1) ≡ voiced)
unfolding fields_of
frames_behind = (refl, refl)

-- 110 Hz; flag 0; 0, −1, infinite and no number of Hz; past the end
frames : (frame_at (frames_of (plain 1 ++ voiced) (counting false 1)) 0 ≡ Some (record { hz = fin false 55 (pos 1); voiced_p = fin false 1 (pos 0) }))
    × (frame_at (frame 50 0 a110) 0 ≡ None)
    × (frame_at (frame 50 1 (0 ∷ 0 ∷ 0 ∷ 0 ∷ [])) 0 ≡ None)
    × (frame_at (frame 50 1 (0 ∷ 0 ∷ 128 ∷ 191 ∷ [])) 0 ≡ None)
    × (frame_at (frame 50 1 (0 ∷ 0 ∷ 128 ∷ 127 ∷ [])) 0 ≡ None)
    × (frame_at (frame 50 1 (0 ∷ 0 ∷ 192 ∷ 127 ∷ [])) 0 ≡ None)
    × (frame_at voiced 1 ≡ None)
unfolding frame_at fields_of of_bits lt
frames = (refl, refl, refl, refl, refl, refl, refl)

-- every field of both records, from bytes that are their own offsets behind the kind
abbrev record48 : List ℕ
record48 =
    48 ∷ 1 ∷ 2 ∷ 3 ∷ 4 ∷ 5 ∷ 6 ∷ 7 ∷ 8 ∷ 9 ∷ 10 ∷ 11 ∷ 12 ∷ 13 ∷ 14 ∷ 15 ∷ 16 ∷ 17 ∷ 18 ∷ 19 ∷ 20 ∷ 21 ∷ 22 ∷
    23 ∷ 24 ∷ 25 ∷ 26 ∷ 27 ∷ 28 ∷ 29 ∷ 30 ∷ 31 ∷ 32 ∷ 33 ∷ 34 ∷ 35 ∷ 36 ∷ 37 ∷ 38 ∷ 39 ∷ 40 ∷ 41 ∷ 42 ∷ 43 ∷ 44 ∷ 45 ∷ []

fields48 : (fields_of record48
    ≡ record {
      accent = 1;
      tone = 2;
      prev = 3;
      last = true;
      start = 0x0807_0605;
      end = 0x0c0b_0a09;
      floor = of_bits binary32 0x100f_0e0d;
      ceil = of_bits binary32 0x1413_1211;
      issues = 0x1615;
      variants = 23;
      count = 0x2d2c;
      cold = false;
    })
    × (variant_tone record48 0 ≡ 24) × (variant_weight record48 0 ≡ of_bits binary32 0x1c1b_1a19)
    × (variant_tone record48 3 ≡ 39) × (variant_weight record48 3 ≡ of_bits binary32 0x2b2a_2928)
unfolding fields_of
fields48 = (refl, refl, refl, refl, refl)

-- the same of a query that ends no phrase: one byte is 0, that of `last`
abbrev within48 : List ℕ
within48 = take 4 record48 ++ (0 ∷ drop 5 record48)

cold48 : (fields_of (record48 ++ cold)).cold ≡ true
unfolding fields_of
cold48 = refl

not_last48 : (fields_of within48).last ≡ false
unfolding fields_of
not_last48 = refl

-- the second of two frames
abbrev record50 : List ℕ
record50 = 50 ∷ 1 ∷ 2 ∷ 3 ∷ 4 ∷ 5 ∷ 6 ∷ 7 ∷ 8 ∷ 9 ∷ []

fields50 : frame_at (replicate 10 0 ++ record50) 1 ≡ Some (record { hz = of_bits binary32 0x0504_0302; voiced_p = of_bits binary32 0x0908_0706 })
unfolding frame_at of_bits lt
fields50 = refl
