-- score.rs: calibrated likelihoods of one shape under weighted components. The operations are the Rust's, in its order; sums begin at +0.
use Rattle.std.specs.Prelude.{ℕ, Bool, false, cond, not, ◌&&◌, ◌||◌, Option, Some, None, List, pos, get_or, Float}
use Rattle.std.specs.Option.{option_map_or}
use Rattle.std.specs.Float.{nan, binary32, binary64}
use Rattle.std.specs.Float.Ieee.{is_nan, neg, add, sub, mul, div, lt, le, eq, of_int, of_bits}
use Rattle.tonekit_core.specs.Loop.{range}
use Rattle.tonekit_core.specs.Words.{has_issue}
use Rattle.tonekit_core.specs.declared.MeasureIssue.TheVariants.{LowSnr, Clipped, ColdStartRegister, TooShort}
use Rattle.spec_arithmetic.specs.Constants.{zero64, zero32, one64, half}
use Rattle.spec_arithmetic.specs.Pick.{greater}
use Rattle.spec_arithmetic.specs.Narrow.{narrowed}
use Rattle.spec_arithmetic.specs.Log.{ln_of}
use Rattle.spec_arithmetic.specs.Exp.{exp_of}
use Rattle.spec_shape.specs.declared.ToneShape.{ToneShape}
use Rattle.spec_judgement.specs.declared.Tolerance.{Tolerance}
use Rattle.tonekit_entries.specs.declared.Region.{Region}
use Rattle.spec_judgement.specs.declared.Scoring.{Scoring}
use Rattle.spec_judgement.specs.declared.LogSumExp.{LogSumExp}
use Rattle.spec_judgement.specs.declared.Mixture.{Mixture}
use Rattle.spec_judgement.specs.declared.Mixture.TheVariants.{Scored, Nothing}
use Rattle.spec_judgement.specs.declared.Squares.{Squares}
use Rattle.spec_judgement.specs.declared.Lead.{Lead}
use Rattle.spec_judgement.specs.declared.Mixing.{Mixing}

-- LOG_CLAMP, 1,000,000
abbrev pub million : Float
million = of_bits binary64 0x412e_8480_0000_0000

abbrev pub neg_inf : Float
neg_inf = of_bits binary64 0xfff0_0000_0000_0000

-- `widen_for`: 1.5 under LowSnr, Clipped or ColdStartRegister, else 1
abbrev pub poor : ℕ → Bool
poor issues = has_issue issues LowSnr || (has_issue issues Clipped || has_issue issues ColdStartRegister)

unfoldable pub widen_for : ℕ → Float
widen_for issues = cond (poor issues) (of_bits binary32 0x3fc0_0000) (of_bits binary32 0x3f80_0000)

-- the tolerances widened, and the logarithm of their product, which is one number for every component of a judgement
unfoldable pub scoring_of : Float → Tolerance → ℕ → Scoring
scoring_of temperature t issues =
    let widen = widen_for issues in
    let sc = mul binary64 t.contour widen in
    let so = mul binary64 t.onset widen in
    let sf = mul binary64 t.offset widen in
    record {
      widen = widen;
      contour = not (has_issue issues TooShort);
      temperature = temperature;
      sigmacontour = sc;
      sigmaonset = so;
      sigmaoffset = sf;
      logsigma = ln_of (mul binary64 (mul binary64 sc so) sf);
    }

-- `clamp_log`: an f32 within ±1,000,000; NaN reads as the lower bound
unfoldable pub clamp_log : Float → Float
clamp_log v =
    cond (is_nan v) (narrowed (neg million))
    (cond (lt v (neg million)) (narrowed (neg million)) (cond (lt million v) (narrowed million) (narrowed v)))

-- `LogSumExp`
abbrev pub empty : LogSumExp
empty = record { max = neg_inf; sum = zero64 }

unfoldable pub add_to : LogSumExp → Float → LogSumExp
add_to s v =
    cond (eq v neg_inf) s
    (cond (lt s.max v)
    (record { max = v; sum = add binary64 (mul binary64 s.sum (exp_of (sub binary64 s.max v))) one64 })
    (record { max = s.max; sum = add binary64 s.sum (exp_of (sub binary64 v s.max)) }))

unfoldable pub value_of : LogSumExp → Float
value_of s = cond (lt zero64 s.sum) (add binary64 s.max (ln_of s.sum)) neg_inf

-- inside the region of the component's tone, if it has one, a point voiced less than 0.5 has no weight; every other point at least 0.25. Point k stands at
-- k / 9, in f32
unfoldable pub excused : Option Region → ℕ → Float → Bool
excused None k voiced = false
excused (Some r) k voiced =
    let ninths = div binary32 (of_int binary32 (pos k)) (of_bits binary32 0x4110_0000) in
    lt voiced (of_bits binary32 0x3f00_0000) && (le r.from ninths && le ninths r.to)

unfoldable pub point_weight : Option Region → ℕ → Float → Float
point_weight r k voiced = cond (excused r k voiced) zero64 (greater voiced (of_bits binary32 0x3e80_0000))

-- `weighted_mean_square` of a component's ten points: Σ w r² and Σ w
unfoldable pub squares_of : ToneShape → Option Region → List Float → Squares
squares_of x r ten =
    let w = λ (k : ℕ). point_weight r k (get_or x.weights k nan) in
    let d = λ (k : ℕ). sub binary64 (get_or x.contour k nan) (get_or ten k nan) in
    range (λ k s. record { weighted = add binary64 s.weighted (mul binary64 (mul binary64 (w k) (d k)) (d k)); total = add binary64 s.total (w k) }) 0 10
    (record { weighted = zero64; total = zero64 })

-- ½ (Δ / σ)²
unfoldable pub end_term : Float → Float → Float
end_term d sigma = div binary64 (mul binary64 (mul binary64 half d) d) (mul binary64 sigma sigma)

-- the ends' share of d²
unfoldable pub ends_of : ToneShape → Scoring → List Float → Float
ends_of x s ten =
    let onset = sub binary64 (get_or x.contour 0 nan) (get_or ten 0 nan) in
    let offset = sub binary64 (get_or x.contour 9 nan) (get_or ten 9 nan) in
    add binary64 (end_term onset s.sigmaonset) (end_term offset s.sigmaoffset)

-- d² of the component with these points: the ends, and the contour where it is evidence
unfoldable pub distance_of : ToneShape → Scoring → Option Region → List Float → Float
distance_of x s r ten =
    let ends = ends_of x s ten in
    let q = squares_of x r ten in
    cond (s.contour && lt zero64 q.total)
    (add binary64 ends (div binary64 (div binary64 q.weighted q.total) (mul binary64 s.sigmacontour s.sigmacontour)))
    ends

-- log p(x | c) from d²
unfoldable pub log_of : Scoring → Float → Float
log_of s d2 = sub binary64 (mul binary64 (neg half) d2) s.logsigma

-- `mixture`: components i with weights and squared distances; a component of weight not above 0 is passed over, the first of equal scores is the best
abbrev pub no_mixing : Mixing
no_mixing = record { total = empty; best = None }

abbrev pub led : Option Lead → Lead → Lead
led None next = next
led (Some best) next = cond (lt best.score next.score) next best

unfoldable pub mixed : Mixing → ℕ → Float → Float → Mixing
mixed m i score d2 = record {
  total = add_to m.total score;
  best = Some (led m.best (record { score = score; index = i; distance = d2 }));
}

unfoldable pub mix_turn : Scoring → Mixing → ℕ → Float → Float → Mixing
mix_turn s m i weight d2 = cond (le weight zero32) m (mixed m i (add binary64 (ln_of weight) (log_of s d2)) d2)

abbrev pub mixture_of : Mixing → Mixture
mixture_of m = option_map_or (λ best. Scored (value_of m.total) best.index best.distance) m.best Nothing

-- the mixture's log-likelihood, −infinity where there is nothing to score; calibrated
abbrev pub mixture_log : Mixture → Float
mixture_log (Scored ll i d2) = ll
mixture_log Nothing = neg_inf

unfoldable pub calibrate : Scoring → Float → Float
calibrate s ll = clamp_log (div binary64 ll s.temperature)
