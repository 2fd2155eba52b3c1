-- The bits of issues: none is 0, and std's operators on a u16 test and set them.
use Rattle.std.proofs.Common.{◌≡◌, refl, cond, not, eqb, nat_eq, ne_eqb, ℕ, zero, suc, ◌+◌, ◌*◌, ◌/◌, ◌%◌, ◌<◌, arith, bit_and, bit_or}
use Rattle.std.specs.Int.Bits.{or_add_and}
use Rattle.std.proofs.lemmas.Nat.Bits.{and_pow}
use Rattle.tonekit_core.specs.Words.{issue_bit, has_issue, with_issue}
use Rattle.tonekit_core.specs.declared.MeasureIssue.{MeasureIssue}
use Rattle.tonekit_core.specs.declared.MeasureIssue.TheVariants as issue

pub bit_pos : (i : MeasureIssue) → 0 < issue_bit i
bit_pos issue.Unvoiced = omega arith
bit_pos issue.LowSnr = omega arith
bit_pos issue.Clipped = omega arith
bit_pos issue.TooShort = omega arith
bit_pos issue.ColdStartRegister = omega arith
bit_pos issue.InvalidRegister = omega arith
bit_pos issue.InvalidEvidence = omega arith
bit_pos issue.NoNucleus = omega arith
bit_pos issue.Unpitched = omega arith
bit_pos issue.CreakyTail = omega arith

-- what `&` gives: the bit itself, or nothing
bit_read : (issues : ℕ) (i : MeasureIssue) → bit_and issues (issue_bit i) ≡ issues / issue_bit i % 2 * issue_bit i
bit_read issues issue.Unvoiced = and_pow issues 0
bit_read issues issue.LowSnr = and_pow issues 1
bit_read issues issue.Clipped = and_pow issues 2
bit_read issues issue.TooShort = and_pow issues 3
bit_read issues issue.ColdStartRegister = and_pow issues 4
bit_read issues issue.InvalidRegister = and_pow issues 5
bit_read issues issue.InvalidEvidence = and_pow issues 6
bit_read issues issue.NoNucleus = and_pow issues 7
bit_read issues issue.Unpitched = and_pow issues 8
bit_read issues issue.CreakyTail = and_pow issues 9

-- a digit of two, and what it stands for
told : (d b : ℕ) → d < 2 → 0 < b → not (nat_eq (d * b) 0) ≡ eqb d 1
told zero b l p = let e : 0 * b ≡ 0 = omega arith in rw e refl
told (suc zero) zero l p = absurd (omega (arith, p))
told (suc zero) (suc b) l p = rw (ne_eqb (1 * suc b) 0 (λ q. omega (arith, q))) refl
told (suc (suc d)) b l p = absurd (omega (arith, l))

added : (a r d b : ℕ) → d < 2 → r + d * b ≡ a + b → r ≡ cond (eqb d 1) a (a + b)
added a r zero b l e = omega (arith, e)
added a r (suc zero) b l e = omega (arith, e)
added a r (suc (suc d)) b l e = absurd (omega (arith, l))

-- `&` tests an issue's bit
pub set_bit : (issues bit : ℕ) (i : MeasureIssue) → bit ≡ issue_bit i → not (nat_eq (bit_and issues bit) 0) ≡ has_issue issues i
set_bit issues bit i e = rw (e, bit_read issues i) (told (issues / issue_bit i % 2) (issue_bit i) (omega arith) (bit_pos i))

-- `|` gives the union with it
pub united : (issues bit : ℕ) (i : MeasureIssue) → bit ≡ issue_bit i → bit_or issues bit ≡ with_issue issues i
unfolding with_issue
united issues bit i e =
    rw e (added issues (bit_or issues (issue_bit i)) (issues / issue_bit i % 2) (issue_bit i) (omega arith)
    (rw (← bit_read issues i) (or_add_and issues (issue_bit i))))
