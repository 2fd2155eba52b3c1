-- What `clamp_log` returns is an f32, lies within ±1,000,000 and is no NaN, whatever it is given. Assumes nothing.
use Rattle.std.proofs.Common.{◌≡◌, refl, Bool, true, false, cond, T, Float}
use Rattle.std.specs.Float.{nan, inf, binary32}
use Rattle.std.specs.Float.Ieee.{is_nan, neg, lt, le, round, of_bits}
use lib.Ieee.{fin, fits}
use lib.Ieee.Fits.{cond-fits}
use lib.Ieee.Scale.{finite}
use Rattle.spec_arithmetic.specs.Narrow.{narrowed}
use Rattle.spec_arithmetic.specs.Bounds.{In}
use Rattle.tonekit_float.proofs.Narrowing.{narrow_fits}
use Rattle.tonekit_float.proofs.Order.{no, not-lt→le}
use Rattle.tonekit_float.proofs.Nans.{finite_number}
use Rattle.tonekit_float.proofs.Bounds.{in_finite, in_wider, in_narrow}
use Rattle.spec_arithmetic.specs.Constants.{zero32}
use Rattle.spec_judgement.specs.Score.{million, clamp_log}

abbrev pub Bounded : Float → Type 0
Bounded v = In (neg million) million v

pub bounded_number : {v : Float} → Bounded v → is_nan v ≡ false
unfolding of_bits neg
bounded_number {v} b = finite_number v (in_finite {lo = neg million} {hi = million} tt b)

pub bounded_zero : Bounded zero32
unfolding of_bits neg le
bounded_zero = record { low = tt; high = tt }

pub bounded_lowest : Bounded (narrowed (neg million))
unfolding narrowed round of_bits neg le
bounded_lowest = record { low = tt; high = tt }

highest : Bounded (narrowed million)
unfolding narrowed round of_bits neg le
highest = record { low = tt; high = tt }

-- between the bounds: finite, and narrowing keeps the order
real : (v : Float) → is_nan v ≡ false → lt v (neg million) ≡ false → lt million v ≡ false → T (finite v)
unfolding is_nan lt of_bits neg
real nan e f g = absurd (no e)
real (inf true) e f g = absurd (no f)
real (inf false) e f g = absurd (no g)
real (fin s m k) e f g = tt

inner : (v : Float) → T (finite v) → lt v (neg million) ≡ false → lt million v ≡ false → Bounded (narrowed v)
unfolding narrowed round of_bits neg le
inner v r f g =
    in_wider {lo = narrowed (neg million)} {hi = narrowed million} {x = narrowed v} tt
    (in_narrow {a = neg million} {b = million} {x = v} tt (record { low = not-lt→le v (neg million) r tt f; high = not-lt→le million v tt r g }))

ways : (v : Float) (n l h : Bool) → is_nan v ≡ n → lt v (neg million) ≡ l → lt million v ≡ h
    → Bounded (cond n (narrowed (neg million)) (cond l (narrowed (neg million)) (cond h (narrowed million) (narrowed v))))
ways v true l h e f g = bounded_lowest
ways v false true h e f g = bounded_lowest
ways v false false true e f g = highest
ways v false false false e f g = inner v (real v e f g) f g

pub clamp_bounded : (v : Float) → Bounded (clamp_log v)
unfolding clamp_log
clamp_bounded v = ways v (is_nan v) (lt v (neg million)) (lt million v) refl refl refl

pub clamp_fits : (v : Float) → T (fits binary32 (clamp_log v))
unfolding clamp_log
clamp_fits v =
    cond-fits binary32 (is_nan v) _ _ (narrow_fits (neg million))
    (cond-fits binary32 (lt v (neg million)) _ _ (narrow_fits (neg million))
    (cond-fits binary32 (lt million v) _ _ (narrow_fits million) (narrow_fits v)))
