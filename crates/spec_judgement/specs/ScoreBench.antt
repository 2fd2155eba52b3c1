-- Worked cases of the definitions, by computing.
use Rattle.std.specs.Prelude.{◌≡◌, refl, true, false, Some, None, is_some, List, ◌∷◌, replicate, Float}
use Rattle.std.specs.Float.{nan, inf, binary32, binary64}
use Rattle.std.specs.Float.Ieee.{is_nan, eq, neg, add, sub, mul, div, lt, le, round, of_int, of_bits}
use Rattle.tonekit_core.specs.Loop.{turns, range}
use Rattle.spec_shape.specs.declared.ToneShape.{ToneShape}
use Rattle.spec_judgement.specs.declared.Scoring.{Scoring}
use Rattle.spec_arithmetic.specs.Narrow.{narrowed}
use Rattle.spec_arithmetic.specs.Pick.{greater}
use Rattle.spec_arithmetic.specs.Log.{ln_of, log_by, parts_of, centred, series, log_horner}
use Rattle.spec_arithmetic.specs.Exp.{exp_of, exp_by, rest, exp_series, exp_horner, floor_of}
use Rattle.spec_judgement.specs.Score.{million, neg_inf, widen_for, clamp_log, empty, add_to, value_of, excused, point_weight, scoring_of, squares_of, no_mixing, mixed, mix_turn}
use Rattle.spec_arithmetic.specs.Constants.{zero64, one64, zero32}

-- LowSnr is bit 1, TooShort bit 3
pub widened_low_snr : widen_for 2 ≡ of_bits binary32 0x3fc0_0000
unfolding widen_for
widened_low_snr = refl

pub not_widened_short : widen_for 8 ≡ of_bits binary32 0x3f80_0000
unfolding widen_for
not_widened_short = refl

-- a NaN reads as the lower bound, infinities as the bounds
pub clamped_nan : clamp_log nan ≡ neg million
unfolding clamp_log is_nan narrowed round neg of_bits
clamped_nan = refl

pub clamped_infinity : clamp_log (inf false) ≡ million
unfolding clamp_log is_nan lt narrowed round neg of_bits
clamped_infinity = refl

-- the sum of nothing, of −infinity, and of 0 twice, which is the logarithm of 2
pub of_nothing : value_of empty ≡ neg_inf
unfolding value_of lt of_bits
of_nothing = refl

pub of_minus_infinity : add_to empty neg_inf ≡ empty
unfolding add_to eq of_bits
of_minus_infinity = refl

pub of_two : value_of (add_to (add_to empty zero64) zero64) ≡ of_bits binary64 0x3fe6_2e42_fefa_39ef
unfolding value_of add_to ln_of exp_of is_nan eq neg add sub mul div lt le round of_int of_bits log_by parts_of centred series log_horner exp_by rest exp_series exp_horner floor_of
of_two = refl

-- both ends belong to a region: point 9 of one that ends at 1, voiced 0.25
pub at_region_end : point_weight (Some (record { from = of_bits binary32 0x3f00_0000; to = of_bits binary32 0x3f80_0000 })) 9 (of_bits binary32 0x3e80_0000) ≡ zero64
unfolding point_weight excused lt le div round of_int of_bits
at_region_end = refl

-- no region: at least 0.25
pub unvoiced : point_weight None 9 zero32 ≡ of_bits binary32 0x3e80_0000
unfolding point_weight excused greater is_nan lt of_bits
unvoiced = refl

-- and its start: point 1 of one that starts at 1 / 9 in f32, which is above 1 / 9 in f64
pub at_region_start : point_weight (Some (record { from = of_bits binary32 0x3de3_8e39; to = of_bits binary32 0x3f80_0000 })) 1 (of_bits binary32 0x3e80_0000) ≡ zero64
unfolding point_weight excused lt le div round of_int of_bits
at_region_start = refl

-- a greater score scales the sum before it: e^(0 − 800) is 0
pub rescaled : add_to (add_to empty zero64) (of_bits binary64 0x4089_0000_0000_0000) ≡ record { max = of_bits binary64 0x4089_0000_0000_0000; sum = one64 }
unfolding add_to exp_of eq neg add sub mul lt round of_bits is_nan le div of_int
rescaled = refl

-- under TooShort, bit 3, the contour is no evidence
pub ends_alone : (scoring_of zero32 (record { contour = zero32; onset = zero32; offset = zero32; turning = zero32 }) 8).contour ≡ false
unfolding scoring_of
ends_alone = refl

-- a shape of this contour, each point so much voiced; and tolerances of 1
abbrev pub shaped : List Float → Float → ToneShape
shaped contour voiced = record {
  contour = contour;
  weights = replicate 10 voiced;
  mean = zero32;
  slope = zero32;
  curvature = zero32;
  turning = None;
  range = zero32;
  duration = zero32;
  fraction = zero32;
  confidence = zero32;
  frames = 8;
}

abbrev pub plain : Scoring
plain = record { widen = one64; contour = true; temperature = one64; sigmacontour = one64; sigmaonset = one64; sigmaoffset = one64; logsigma = zero64 }

-- a difference d of 1 − 2^−27 − 2^−50, weighed 3 / 4: (w d) d is not w (d d)
pub weighed_first : (squares_of (shaped (one64 ∷ replicate 9 zero32) (of_bits binary32 0x3f40_0000)) None (of_bits binary32 0x3200_0001 ∷ replicate 9 zero32)).weighted
    ≡ of_bits binary64 0x3fe7_ffff_f9ff_fff4
unfolding squares_of point_weight excused greater range turns add sub mul lt is_nan round of_bits
weighed_first = refl

-- a component of weight a half is scored
pub half_scored : is_some (mix_turn plain no_mixing 0 (of_bits binary32 0x3f00_0000) zero64).best ≡ true
unfolding mix_turn mixed le of_bits
half_scored = refl
