-- Worked cases for a judgement and its record, by computing.
use Rattle.std.specs.Prelude.{ℕ, ◌+◌, ◌≡◌, refl, true, Option, Some, None, is_some, List, [], ◌∷◌, ◌++◌, map, length, replicate, Float}
use Rattle.std.specs.Float.{binary32, binary64}
use Rattle.std.specs.Float.Ieee.{is_nan, eq, neg, add, sub, mul, div, lt, le, round, of_int, of_bits, to_bits}
use Rattle.tonekit_core.specs.Loop.{turns, range}
use Rattle.spec_arithmetic.specs.Narrow.{narrowed}
use Rattle.spec_arithmetic.specs.Log.{ln_of, log_by, parts_of, centred, series, log_horner}
use Rattle.spec_arithmetic.specs.Exp.{exp_of, exp_by, rest, exp_series, exp_horner, floor_of}
use Rattle.spec_arithmetic.specs.Pick.{greater}
use Rattle.tonekit_core.specs.declared.layout.TheConstants.{JUDGEMENT_SIZE, JUDGEMENT_EXPECTED, JUDGEMENT_TONE_COUNT, JUDGEMENT_LOGLIK, JUDGEMENT_LLR, JUDGEMENT_DISTANCED}
use Rattle.tonekit_core.specs.declared.layout.TheConstants.{JUDGEMENT_DISTANCE, JUDGEMENT_OWNER, JUDGEMENT_FORM, JUDGEMENT_LABEL, JUDGEMENT_PART, JUDGEMENT_HEARD}
use Rattle.tonekit_core.specs.declared.layout.TheConstants.{JUDGEMENT_DELTA_COUNT, JUDGEMENT_FIRST_DELTA, JUDGEMENT_SECOND_DELTA, DELTA_AMOUNT, JUDGEMENT_MEASURED, JUDGEMENT_ISSUES}
use Rattle.spec_arithmetic.specs.Fields.{byte_at, u16_at, u32_at, f32s_bytes}
use Rattle.spec_arithmetic.specs.Constants.{one64, zero64, zero32}
use Rattle.spec_judgement.specs.Score.{add_to, value_of, excused, point_weight, squares_of, end_term, ends_of, distance_of, no_mixing, mixed, mix_turn}
use Rattle.spec_judgement.specs.ScoreBench.{shaped, plain}
use Rattle.spec_judgement.specs.DeltasBench.{raised, more, three}
use Rattle.spec_judgement.specs.Deltas.{no_deltas}
use Rattle.tonekit_core.specs.declared.DeltaKind.TheVariants.{EndLower, WiderRange}
use Rattle.tonekit_core.specs.declared.Measured.TheVariants.{Partial}
use Rattle.tonekit_core.specs.declared.layout.TheConstants.{SINGLE_FORM, MIXTURE_FORM}
use Rattle.tonekit_core.specs.declared.Name.{Name}
use Rattle.tonekit_entries.specs.declared.Region.{Region}
use Rattle.tonekit_entries.specs.declared.ToneEntry.{ToneEntry}
use Rattle.spec_judgement.specs.declared.ToneJudgement.{ToneJudgement}
use Rattle.spec_judgement.specs.Inventory.{Inventory}
use Rattle.spec_judgement.specs.Judge.{component_at, weighed, part_mixing, ranked, ranking_of, heard_of, advice_of, nearest_at, not_measured}
use Rattle.spec_judgement.specs.Record.{nearest_bytes, score_bytes, one_bytes, delta_bytes, judgement_bytes}

-- "Tone 1, accent 1 with a citation, eight voiced frames of 110 Hz, floor NaN: hexadecimal 31 01 01 00 24 74 C9, 54 zero bytes, 02 40 00"
pub floor_nan : judgement_bytes 1 1 (not_measured 1)
    ≡ (0x31 ∷ 0x01 ∷ 0x01 ∷ 0x00 ∷ 0x24 ∷ 0x74 ∷ 0xc9 ∷ []) ++ (replicate 54 0 ++ (0x02 ∷ 0x40 ∷ 0x00 ∷ []))
unfolding judgement_bytes not_measured nearest_bytes score_bytes one_bytes delta_bytes f32s_bytes range turns narrowed round neg of_bits to_bits
floor_nan = refl

-- f32's greatest value is the same number in both formats
pub greatest_32 : of_bits binary64 0x47ef_ffff_e000_0000 ≡ of_bits binary32 0x7f7f_ffff
unfolding of_bits
greatest_32 = refl

-- "Two tones of equal score, threshold 0.25: the first is heard"
abbrev half : Float
half = of_bits binary32 0x3f00_0000

abbrev quarter : Float
quarter = of_bits binary32 0x3e80_0000

abbrev zero : Float
zero = of_bits binary32 0

abbrev likely : ℕ → ToneEntry
likely number = record { number = number; prior = half; region = None; tail = zero32; listing = None }

abbrev two_tones : Inventory
two_tones = record { items = likely 7 ∷ likely 9 ∷ [] }

pub equal_tones : heard_of two_tones quarter (ranking_of two_tones (zero ∷ zero ∷ [])) ≡ Some 7
unfolding heard_of ranking_of ranked range turns add_to value_of ln_of exp_of is_nan eq neg add sub mul div lt le round of_int of_bits log_by parts_of centred series log_horner exp_by rest exp_series exp_horner floor_of
equal_tones = refl

-- of a tone at 0 and one at −100 the first is as good as certain: e^(−100) adds nothing to 1 in f64
pub likelier_tone : heard_of two_tones one64 (ranking_of two_tones (zero ∷ of_bits binary32 0xc2c8_0000 ∷ [])) ≡ Some 7
unfolding heard_of ranking_of ranked range turns add_to value_of ln_of exp_of is_nan eq neg add sub mul div lt le round of_int of_bits log_by parts_of centred series log_horner exp_by rest exp_series exp_horner floor_of
likelier_tone = refl

-- a component's region is that of its own tone: a shape that is 1 high throughout and unvoiced, where the second tone has a region, has the two ends' distance
abbrev regional : Option Region → ToneEntry
regional region = record (likely 7) { region = region }

pub own_region : (component_at (shaped (replicate 10 one64) zero) plain (record { items = regional None ∷ regional (Some (record { from = zero; to = one64 })) ∷ [] })
    (record { list = replicate 32 (record { weight = one64; points = replicate 10 zero }) }) 1 0).distance
    ≡ one64
unfolding distance_of ends_of end_term squares_of point_weight excused greater range turns is_nan add sub mul div lt le round of_int of_bits
own_region = refl

-- "drops products not above 0": a half is kept
pub half_kept : is_some (weighed plain no_mixing 0 half zero64).best ≡ true
unfolding weighed mix_turn mixed lt le of_bits
half_kept = refl

-- "`expect` weighs variants in f32": 2^−100 times 2^−100 is 0 there, and is dropped
pub weighed_in_f32 : (part_mixing plain (λ t j. record { weight = of_bits binary32 0x0d80_0000; distance = zero64 }) 1 0 (of_bits binary32 0x0d80_0000) no_mixing).best ≡ None
unfolding part_mixing weighed mix_turn mixed range turns mul lt le round of_bits
weighed_in_f32 = refl

-- no advice under LowSnr, bit 1
pub no_advice : advice_of (raised more zero) plain (record { contour = half; onset = half; offset = half; turning = half }) (replicate 10 three) 2 ≡ no_deltas
unfolding advice_of
no_advice = refl

-- a tone whose listing has this form
abbrev of_form : ℕ → ToneEntry
of_form form = record { number = 1; prior = half; region = None; tail = zero32; listing = Some (record { name = record { owner = 1; form = form; label = 0 }; count = 4 }) }

-- a part counts from 0, in a mixture alone
pub third_part : (nearest_at (of_form MIXTURE_FORM) 6 half).part ≡ 2
unfolding nearest_at
third_part = refl

pub single_part : (nearest_at (of_form SINGLE_FORM) 4 half).part ≡ 0
unfolding nearest_at
single_part = refl

-- ---- every field of the record: bytes that are their own offsets behind the kind, but for the distance's flag, the deltas' count and kinds, and measured
abbrev f32 : ℕ → Float
f32 bits = of_bits binary32 bits

abbrev judgement49 : ToneJudgement
judgement49 = record {
  loglik =
      f32 0x0605_0403 ∷ f32 0x0a09_0807 ∷ f32 0x0e0d_0c0b ∷ f32 0x1211_100f ∷
      f32 0x1615_1413 ∷ f32 0x1a19_1817 ∷ f32 0x1e1d_1c1b ∷ f32 0x2221_201f ∷ [];
  llr = f32 0x2625_2423;
  nearest = Some (record { distance = f32 0x2b2a_2928; name = record { owner = 44; form = 45; label = 0x2f2e }; part = 48 });
  heard = Some 49;
  deltas = record {
    first = Some (record { z = f32 0; kind = WiderRange; amount = f32 0x3736_3534 });
    second = Some (record { z = f32 0; kind = EndLower; amount = f32 0x3c3b_3a39 });
  };
  measured = Partial;
  issues = 0x3f3e;
}

abbrev record49 : List ℕ
record49 =
    49 ∷ 1 ∷ 2 ∷ 3 ∷ 4 ∷ 5 ∷ 6 ∷ 7 ∷ 8 ∷ 9 ∷ 10 ∷ 11 ∷ 12 ∷ 13 ∷ 14 ∷ 15 ∷ 16 ∷ 17 ∷ 18 ∷ 19 ∷ 20 ∷ 21 ∷ 22 ∷ 23 ∷ 24 ∷
    25 ∷ 26 ∷ 27 ∷ 28 ∷ 29 ∷ 30 ∷ 31 ∷ 32 ∷ 33 ∷ 34 ∷ 35 ∷ 36 ∷ 37 ∷ 38 ∷ 1 ∷ 40 ∷ 41 ∷ 42 ∷ 43 ∷ 44 ∷ 45 ∷ 46 ∷ 47 ∷ 48 ∷ 49 ∷
    2 ∷ 7 ∷ 52 ∷ 53 ∷ 54 ∷ 55 ∷ 4 ∷ 57 ∷ 58 ∷ 59 ∷ 60 ∷ 1 ∷ 62 ∷ 63 ∷ []

pub fields49 : judgement_bytes 1 2 judgement49 ≡ record49
unfolding judgement_bytes nearest_bytes score_bytes one_bytes delta_bytes f32s_bytes round of_bits to_bits
fields49 = refl

-- read by the names of their offsets
pub names49 : (map (byte_at record49) (JUDGEMENT_EXPECTED ∷ JUDGEMENT_TONE_COUNT ∷ JUDGEMENT_DISTANCED ∷ JUDGEMENT_OWNER ∷ JUDGEMENT_FORM ∷ [])
    ≡ 1 ∷ 2 ∷ 1 ∷ 44 ∷ 45 ∷ [])
    × (map (byte_at record49) (JUDGEMENT_PART ∷ JUDGEMENT_HEARD ∷ JUDGEMENT_DELTA_COUNT ∷ JUDGEMENT_FIRST_DELTA ∷ JUDGEMENT_SECOND_DELTA ∷ [])
    ≡ 48 ∷ 49 ∷ 2 ∷ 7 ∷ 4 ∷ [])
    × (map (u32_at record49) (JUDGEMENT_LOGLIK ∷ JUDGEMENT_LLR ∷ JUDGEMENT_DISTANCE ∷ (JUDGEMENT_FIRST_DELTA + DELTA_AMOUNT) ∷ [])
    ≡ 0x0605_0403 ∷ 0x2625_2423 ∷ 0x2b2a_2928 ∷ 0x3736_3534 ∷ [])
    × (byte_at record49 JUDGEMENT_MEASURED ≡ 1) × (u16_at record49 JUDGEMENT_LABEL ≡ 0x2f2e) × (u16_at record49 JUDGEMENT_ISSUES ≡ 0x3f3e)
    × (length record49 ≡ JUDGEMENT_SIZE) × (JUDGEMENT_DISTANCED ≡ 39) × (JUDGEMENT_MEASURED ≡ 61)
names49 = (refl, refl, refl, refl, refl, refl, refl, refl, refl)
