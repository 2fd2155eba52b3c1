-- A record's fields, and the tests of their ranges, are the same where it stands in a pack and by its own bytes. Assumes nothing.
use Rattle.std.proofs.Common.{ℕ, ◌+◌, ◌*◌, ◌≤◌, ◌<◌, ◌≡◌, refl, ◌∙◌, ap, Bool, true, ◌&&◌, List, arith, length}
use lib.Ieee.{binary32, of_bits}
use Rattle.tonekit_core.proofs.LoopLaws.{range_same}
use Rattle.spec_arithmetic.specs.Fields.{byte_at, u32_at, f32_at}
use Rattle.tonekit_bytes.proofs.Stands.{Stands, field32}
use Rattle.spec_pack.specs.Ranges.{slot_fine, knots_fine, region_fine, tails_fine, tolerances_fine}
use Rattle.tonekit_ranges.proofs.SlotTurn.{slot_turn}
use Rattle.spec_pack.specs.Pack.{size_of, settings_verdict, tone_fine, tail_verdict, accent_fine, rule_fine, part_fine}

module _ (s : List ℕ) (at : ℕ) (r : List ℕ) (h : Stands s at r) where
  -- the field at k of r; o is its offset in s, in whatever way that is written
  pub byte_same : (o k : ℕ) → o ≡ at + k → k < length r → byte_at s o ≡ byte_at r k
  byte_same o k e l = ap (byte_at s) e ∙ h.byte k l

  pub u32_same : (o k : ℕ) → o ≡ at + k → k + 4 ≤ length r → u32_at s o ≡ u32_at r k
  u32_same o k e l = ap (u32_at s) e ∙ field32 h k l

  pub f32_same : (o k : ℕ) → o ≡ at + k → k + 4 ≤ length r → f32_at s o ≡ f32_at r k
  f32_same o k e l = ap (of_bits binary32) (u32_same o k e l)

  -- the ranges of a run of fields
  slot_same : (o k n j : ℕ) → o ≡ at + k → k + 40 ≤ length r → j < 10 → slot_fine s o n j ≡ slot_fine r k n j
  unfolding slot_fine
  slot_same o k n j e l b = rw (u32_same (o + 4 * j) (k + 4 * j) (omega arith) (omega arith))

  knots_same : (o k n : ℕ) → o ≡ at + k → k + 40 ≤ length r → knots_fine s o n ≡ knots_fine r k n
  unfolding knots_fine
  knots_same o k n e l = range_same (slot_turn s o n) (slot_turn r k n) 0 10 true (omega arith) (λ j y b. ap (λ (x : Bool). y && x) (slot_same o k n j e l b))

  region_same : (o k : ℕ) → o ≡ at + k → k + 9 ≤ length r → region_fine s o ≡ region_fine r k
  unfolding region_fine
  region_same o k e l = rw (byte_same o k e (omega arith), u32_same (o + 1) (k + 1) (omega arith) (omega arith), u32_same (o + 5) (k + 5) (omega arith) (omega arith))

  tolerances_same : (o k : ℕ) → o ≡ at + k → k + 16 ≤ length r → tolerances_fine s o ≡ tolerances_fine r k
  unfolding tolerances_fine
  tolerances_same o k e l =
      rw (
        u32_same o k e (omega arith),
        u32_same (o + 4) (k + 4) (omega arith) (omega arith),
        u32_same (o + 8) (k + 8) (omega arith) (omega arith),
        u32_same (o + 12) (k + 12) (omega arith) (omega arith),
      )

  -- the ranges of a record of each kind
  pub settings_same : length r ≡ size_of 1 → settings_verdict s at ≡ settings_verdict r 0
  unfolding settings_verdict size_of
  settings_same n = rw (u32_same (at + 1) 1 refl (omega arith), u32_same (at + 5) 5 refl (omega arith))

  pub tone_same : length r ≡ size_of 2 → tone_fine s at ≡ tone_fine r 0
  unfolding size_of
  tone_same n =
      rw (
        byte_same (at + 1) 1 refl (omega arith),
        u32_same (at + 2) 2 refl (omega arith),
        byte_same (at + 6) 6 refl (omega arith),
        knots_same (at + 7) 7 (byte_at r 6) refl (omega arith),
        region_same (at + 47) 47 refl (omega arith),
      )

  pub tail_same : length r ≡ size_of 7 → tail_verdict s at ≡ tail_verdict r 0
  unfolding tail_verdict tails_fine size_of
  tail_same n = rw (u32_same (at + 1) 1 refl (omega arith), u32_same (at + 5) 5 refl (omega arith))

  pub accent_same : length r ≡ size_of 3 → accent_fine 3 s at ≡ accent_fine 3 r 0
  unfolding size_of
  accent_same n = rw (byte_same (at + 1) 1 refl (omega arith), tolerances_same (at + 3) 3 refl (omega arith))

  pub rule_same : length r ≡ size_of 4 → rule_fine s at ≡ rule_fine r 0
  unfolding size_of
  rule_same n = rw (byte_same (at + 5) 5 refl (omega arith), byte_same (at + 6) 6 refl (omega arith))

  pub part_same : (single : Bool) → length r ≡ size_of 5 → part_fine single s at ≡ part_fine single r 0
  unfolding size_of
  part_same single n = rw (u32_same (at + 1) 1 refl (omega arith), byte_same (at + 5) 5 refl (omega arith), knots_same (at + 6) 6 (byte_at r 5) refl (omega arith))
