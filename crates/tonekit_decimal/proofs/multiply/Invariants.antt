use Rattle.std.proofs.Common.{◌≡◌, ◌≤◌, ◌++◌, take, drop}
use Rattle.tonekit_decimal.specs.Digits.{mul_add}
use Rattle.tonekit_decimal.proofs.multiply.Given as goal

abbrev pub invariant-loop-digit : goal.invariant-loop-digit
invariant-loop-digit l =
    (l.carry ≤ 4294967296) × (take l.digit-index l.digits ++ mul_add l.k l.carry (drop l.digit-index l.digits) ≡ mul_add l.k l.c l.initial.digits)
