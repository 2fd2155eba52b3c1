-- `whole_below` meets its contract: below 0 the depth, and else the whole part.
use Rattle.std.proofs.Common.{arith, pos, sym, ap, ◌∙◌, w64, ◌≤ℤ◌, neg_ℤ, ℤ, subst, le→leb}
use mir.Facts.{to_z_pos}
use lib.Ieee.{of_bits}
use Rattle.tonekit_float.proofs.Order.{no}
use Rattle.tonekit_log.proofs.Turns.{Up, upward}
use Rattle.tonekit_log.proofs.whole_below.Goals as goal
use Rattle.tonekit_log.proofs.whole_below.Goals.{Else-t}

up : (c : Else-t) → Up c.args.t
unfolding of_bits
up c = upward c.args.t c.requires.low c.requires.high (no c.if-t.false)

pub truncating_f64_to_u64-requires : goal.truncating_f64_to_u64-requires
truncating_f64_to_u64-requires c = let t = up (goal.at.truncating_f64_to_u64-requires c).Else-t in record { lower_bound = t.low; upper_bound = t.high }

pub overflow_cast-result-else-t : goal.overflow_cast-result-else-t
overflow_cast-result-else-t c =
    let few = (up (goal.at.overflow_cast-result-else-t c).Else-t).few in
    let e = c.truncating_f64_to_u64.ensures in
    record { sfits = omega arith }

pub returns-else-t : goal.returns-else-t
returns-else-t c =
    let t = up (goal.at.returns-else-t c).Else-t in
    let e = c.truncating_f64_to_u64.ensures in
    let few = t.few in
    let is = to_z_pos w64 {n = c.truncating_f64_to_u64.result} (omega arith) in
    record { value = is ∙ ap pos e ∙ sym t.floor; range = subst (λ (z : ℤ). (neg_ℤ (pos 1022) ≤ℤ z) × (z ≤ℤ pos 1022)) (sym is) (record { le = tt }, record { le = le→leb c.truncating_f64_to_u64.result 1022 (omega arith) }) }
