-- Demand 2's last sentence, "Every log-likelihood is within ±1,000,000, never NaN", of what a station writes, and the same of ±1,000,100: statements on the
-- definitions that the contracts of `judge` and `judge_sheet` cite. They ask nothing of pack, sheet, query or buffer. proofs/Demand2.antt proves them.
use Rattle.std.specs.Prelude.{ℕ, ◌+◌, ◌*◌, ◌<◌, ◌≡◌, refl, true, false, Result, Ok, List, T, length, take, Float}
use Rattle.std.specs.Float.{binary32, binary64}
use Rattle.std.specs.Float.Ieee.{is_nan, neg, le, of_bits}
use Rattle.tonekit_core.specs.declared.layout.TheConstants.{F32_SIZE, JUDGEMENT_SIZE, JUDGEMENT_LOGLIK, JUDGEMENT_LLR}
use Rattle.tonekit_core.specs.Calls.{Outcome, written, Delivers}
use Rattle.tonekit_core.specs.declared.Rejection.{Rejection}
use Rattle.spec_arithmetic.specs.Fields.{f32_at}
use Rattle.spec_judgement.specs.Score.{million}
use Rattle.spec_judgement.specs.Judgement.{judge_outcome}
use Rattle.spec_sheet.specs.JudgeSheet.{judge_sheet_outcome}

-- 1,000,100
abbrev pub million_100 : Float
million_100 = of_bits binary64 0x412e_8548_0000_0000

-- "within ±1,000,000, never NaN", of any bound
pub record Within (bound x : Float) : Type 0 where
  pub low : T (le (neg bound) x)
  pub high : T (le x bound)
  pub number : is_nan x ≡ false

-- a judgement's bytes: 64, and the eight log-likelihoods and the llr in them, read as f32s, are so
pub record BoundedRecord (bound : Float) (bs : List ℕ) : Type 0 where
  pub size : length bs ≡ JUDGEMENT_SIZE
  pub loglik : (k : ℕ) → k < 8 → Within bound (f32_at bs (JUDGEMENT_LOGLIK + F32_SIZE * k))
  pub llr : Within bound (f32_at bs JUDGEMENT_LLR)

-- what `judge` makes of any pack and any query, and `judge_sheet` of any sheet and any query, where it is bytes
abbrev pub OutcomesWithin : Float → Type 0
OutcomesWithin bound =
    (held q bs : List ℕ)
    → (judge_outcome held q ≡ written bs → BoundedRecord bound bs)
    × (judge_sheet_outcome held q ≡ written bs → BoundedRecord bound bs)

-- a call that owes this outcome, lent any buffer: where it answers that it wrote n bytes, the buffer's first n are such a record
abbrev pub LeavesBounded : Float → Outcome → Type 0
LeavesBounded bound o = (before after : List ℕ) (a : Result ℕ Rejection) (n : ℕ) → Delivers o before a after → a ≡ Ok n → BoundedRecord bound (take n after)

abbrev pub BuffersWithin : Float → Type 0
BuffersWithin bound = (held q : List ℕ) → LeavesBounded bound (judge_outcome held q) × LeavesBounded bound (judge_sheet_outcome held q)

-- a tail is added to a log-likelihood and the sum clamped, so ±1,000,000 holds with tails too
abbrev pub OutcomesBounded : Type 0
OutcomesBounded = OutcomesWithin million

abbrev pub BuffersBounded : Type 0
BuffersBounded = BuffersWithin million

-- "demand 2's bound is then ±1,000,100", with tails: it follows
abbrev pub OutcomesBoundedTailed : Type 0
OutcomesBoundedTailed = OutcomesWithin million_100

abbrev pub BuffersBoundedTailed : Type 0
BuffersBoundedTailed = BuffersWithin million_100

-- ---- worked: −1,000,000 and 1,000,000 are within, the f32 next to each is not, nor is a NaN
pub lowest_within : Within million (of_bits binary32 0xc974_2400)
unfolding of_bits neg le is_nan
lowest_within = record { low = tt; high = tt; number = refl }

pub highest_within : Within million (of_bits binary32 0x4974_2400)
unfolding of_bits neg le is_nan
highest_within = record { low = tt; high = tt; number = refl }

pub lower : le (neg million) (of_bits binary32 0xc974_2401) ≡ false
unfolding of_bits neg le
lower = refl

pub higher : le (of_bits binary32 0x4974_2401) million ≡ false
unfolding of_bits neg le
higher = refl

pub no_number : is_nan (of_bits binary32 0x7fc0_0000) ≡ true
unfolding of_bits is_nan
no_number = refl

-- 1,000,100 and its negative are within the bound with tails, and the f32 next to each is not
pub lowest_tailed_within : Within million_100 (of_bits binary32 0xc974_2a40)
unfolding of_bits neg le is_nan
lowest_tailed_within = record { low = tt; high = tt; number = refl }

pub highest_tailed_within : Within million_100 (of_bits binary32 0x4974_2a40)
unfolding of_bits neg le is_nan
highest_tailed_within = record { low = tt; high = tt; number = refl }

pub lower_tailed : le (neg million_100) (of_bits binary32 0xc974_2a41) ≡ false
unfolding of_bits neg le
lower_tailed = refl

pub higher_tailed : le (of_bits binary32 0x4974_2a41) million_100 ≡ false
unfolding of_bits neg le
higher_tailed = refl
