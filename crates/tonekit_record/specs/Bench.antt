-- Worked cases for a record by its fields, by computing.
use Rattle.std.specs.Prelude.{ℕ, ◌≡◌, refl, Some, None, [], ◌∷◌, Float}
use Rattle.std.specs.Float.{binary32}
use Rattle.std.specs.Float.Ieee.{round, of_bits, to_bits}
use Rattle.spec_arithmetic.specs.Fields.{f32s_bytes}
use Rattle.tonekit_core.specs.declared.DeltaKind.TheVariants.{EndLower}
use Rattle.spec_judgement.specs.Record.{nearest_bytes}
use Rattle.tonekit_record.specs.declared.JudgementFields.{JudgementFields}
use Rattle.tonekit_record.specs.Fields.{written_scores, written_delta, written_deltas, fields_bytes}

abbrev f32 : ℕ → Float
f32 bits = of_bits binary32 bits

-- fields that no judgement has: a flag of 0 before a distance, an amount without a kind, and a measured of 61. The bytes behind the
-- kind are their own offsets, but for the flag, the deltas' count and kinds
abbrev odd : JudgementFields
odd = record {
  loglik =
      f32 0x0605_0403 ∷ f32 0x0a09_0807 ∷ f32 0x0e0d_0c0b ∷ f32 0x1211_100f ∷
      f32 0x1615_1413 ∷ f32 0x1a19_1817 ∷ f32 0x1e1d_1c1b ∷ f32 0x2221_201f ∷ [];
  llr = f32 0x2625_2423;
  distanced = 0;
  nearest = record { distance = f32 0x2b2a_2928; name = record { owner = 44; form = 45; label = 0x2f2e }; part = 48 };
  heard = 49;
  first = record { kind = None; amount = f32 0x3736_3534 };
  second = record { kind = Some EndLower; amount = f32 0x3c3b_3a39 };
  measured = 61;
  issues = 0x3f3e;
}

pub odd_fields : fields_bytes 1 2 odd
    ≡ 49 ∷ 1 ∷ 2 ∷ 3 ∷ 4 ∷ 5 ∷ 6 ∷ 7 ∷ 8 ∷ 9 ∷ 10 ∷ 11 ∷ 12 ∷ 13 ∷ 14 ∷ 15 ∷ 16 ∷ 17 ∷ 18 ∷ 19 ∷ 20 ∷ 21 ∷ 22 ∷ 23 ∷ 24 ∷
    25 ∷ 26 ∷ 27 ∷ 28 ∷ 29 ∷ 30 ∷ 31 ∷ 32 ∷ 33 ∷ 34 ∷ 35 ∷ 36 ∷ 37 ∷ 38 ∷ 0 ∷ 40 ∷ 41 ∷ 42 ∷ 43 ∷ 44 ∷ 45 ∷ 46 ∷ 47 ∷ 48 ∷ 49 ∷
    1 ∷ 0 ∷ 52 ∷ 53 ∷ 54 ∷ 55 ∷ 4 ∷ 57 ∷ 58 ∷ 59 ∷ 60 ∷ 61 ∷ 62 ∷ 63 ∷ []
unfolding fields_bytes written_scores written_delta written_deltas nearest_bytes f32s_bytes round of_bits to_bits
odd_fields = refl
