-- register.rs, `cold_register`: a speaker's register from one query's own frames. The operations are the Rust's, in its order.
use Rattle.std.specs.Prelude.{ℕ, ◌+◌, ◌-◌, Bool, cond, List, [], ◌∷◌, ◌++◌, min, length, get_or, Float, Option, Some, None}
use Rattle.std.specs.Option.{option_map_or}
use Rattle.std.specs.Ordering.{is_gt}
use Rattle.std.specs.Float.{nan, binary32, binary64, total_cmp}
use Rattle.std.specs.Float.Ieee.{add, sub, mul, lt, le, of_bits}
use Rattle.tonekit_core.specs.Loop.{while, range}
use Rattle.tonekit_core.specs.Words.{with_issue}
use Rattle.tonekit_core.specs.declared.MeasureIssue.TheVariants.{ColdStartRegister}
use Rattle.spec_arithmetic.specs.Constants.{half, whole64}
use Rattle.spec_arithmetic.specs.Magnitude.{magnitude}
use Rattle.spec_arithmetic.specs.Narrow.{narrowed}
use Rattle.spec_arithmetic.specs.Whole.{whole_part}
use Rattle.spec_query.specs.Frames.{frame_at}
use Rattle.spec_query.specs.declared.Query.{Query}
use Rattle.spec_shape.specs.Chao.{hz_to_st}
use Rattle.spec_shape.specs.declared.Percentiles.{Percentiles}
use Rattle.spec_shape.specs.declared.Register.{Register}

-- "the semitones of all its voiced frames, whatever its span, narrowed to f32"
unfoldable pub voiced_st : List ℕ → ℕ → List Float
voiced_st frames count = range (λ i l. option_map_or (λ v. l ++ (narrowed (hz_to_st v.hz) ∷ [])) (frame_at frames i) l) 0 count []

-- `v.sort_by(f64::total_cmp)`
unfoldable pub insert : Float → List Float → List Float
insert x [] = x ∷ []
insert x (y ∷ l) = cond (is_gt (total_cmp x y)) (y ∷ insert x l) (x ∷ (y ∷ l))

unfoldable pub ascending : List Float → List Float
ascending [] = []
ascending (x ∷ l) = insert x (ascending l)

-- percentile p of an ascending list, between its closest ranks
unfoldable pub percentile : List Float → Float → Float
percentile sorted p =
    let rank = mul binary64 p (whole64 (length sorted - 1)) in
    let lo = whole_part rank in
    let hi = min (lo + 1) (length sorted - 1) in
    add binary64 (get_or sorted lo nan) (mul binary64 (sub binary64 rank (whole64 lo)) (sub binary64 (get_or sorted hi nan) (get_or sorted lo nan)))

-- 0.05 and 0.95; the Rust's test that a value is finite is left out, since a frame's semitones always are
unfoldable pub p5_p50_p95 : List Float → Option Percentiles
p5_p50_p95 [] = None
p5_p50_p95 (x ∷ l) =
    let sorted = ascending (x ∷ l) in
    Some
    (record {
      p5 = percentile sorted (of_bits binary64 0x3fa9_9999_9999_999a);
      p50 = percentile sorted half;
      p95 = percentile sorted (of_bits binary64 0x3fee_6666_6666_6666);
    })

-- COLD_MARGIN_ST, which is half of MIN_SPAN_ST too, in f64; MIN_SPAN_ST and EPSILON in f32
abbrev pub two : Float
two = whole64 2

abbrev pub min_span : Float
min_span = of_bits binary32 0x4080_0000

abbrev pub epsilon : Float
epsilon = of_bits binary32 0x3400_0000

-- whether a register is at least 4 st wide, "as `f32` subtraction sees it", and whether it is narrower: of a NaN neither holds
abbrev pub wide : Register → Bool
wide r = le min_span (sub binary32 r.ceil r.floor)

abbrev pub narrow : Register → Bool
narrow r = lt (sub binary32 r.ceil r.floor) min_span

-- the middle of a register, 4 st about it, and what each end is pushed by, and pushed
abbrev pub middle : Register → Float
middle r = mul binary64 half (add binary64 r.floor r.ceil)

abbrev pub about : Float → Register → Register
about mid r = record r { floor = narrowed (sub binary64 mid two); ceil = narrowed (add binary64 mid two) }

abbrev pub step_of : Float → Float
step_of mid = mul binary32 (narrowed (add binary64 (magnitude mid) two)) epsilon

abbrev pub pushed : Float → Register → Register
pushed step r = record r { floor = sub binary32 r.floor step; ceil = add binary32 r.ceil step }

-- `while ceil - floor < 4`, with at most 1,000 turns; a theorem says that its own test ends it, within one
abbrev pub widened : Float → Register → Register
widened mid r = while narrow (pushed (step_of mid)) 1000 (about mid r)

unfoldable pub at_least_min_span : Register → Register
at_least_min_span r = cond (wide r) r (widened (middle r) r)

-- `hz_to_st` of FALLBACK_HZ: 90, 150 and 250 Hz
unfoldable pub fallback_register : Register
fallback_register = record { floor = narrowed (hz_to_st (whole64 90)); median = narrowed (hz_to_st (whole64 150)); ceil = narrowed (hz_to_st (whole64 250)) }

abbrev pub of_percentiles : Percentiles → Register
of_percentiles p = record { floor = narrowed (sub binary64 p.p5 two); median = narrowed p.p50; ceil = narrowed (add binary64 p.p95 two) }

unfoldable pub cold_register : List Float → Register
cold_register st = option_map_or (λ p. at_least_min_span (of_percentiles p)) (p5_p50_p95 st) fallback_register

-- the query as it is measured, of the frames that its bytes hold: under kind 55 "floor and ceiling from `cold_register`", and "ColdStartRegister among the
-- issues"; its own floor and ceiling are not looked at
abbrev pub registered : Register → Query → Query
registered r q = record q { floor = r.floor; ceil = r.ceil; issues = with_issue q.issues ColdStartRegister }

unfoldable pub in_register : List ℕ → Query → Query
in_register frames q = cond q.cold (registered (cold_register (voiced_st frames q.count)) q) q
