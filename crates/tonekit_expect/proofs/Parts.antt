-- The parts that follow a rule, one by one.
use Rattle.std.proofs.Common.{ℕ, zero, suc, ◌+◌, ◌-◌, ◌<◌, ◌≡◌, List, arith, sub-one, eq-eqb}
use Rattle.spec_arithmetic.specs.Fields.{byte_at}
use Rattle.spec_pack.specs.Pack.{parts_from}

pub parts_hit : (n : ℕ) (s : List ℕ) (o : ℕ) → 0 < n → byte_at s o ≡ 5 → parts_from n s o ≡ suc (parts_from (n - 1) s (o + 46))
unfolding parts_from
parts_hit zero s o l h = absurd (omega arith)
parts_hit (suc n) s o l h = rw (sub-one, eq-eqb (byte_at s o) 5 h)
