-- Document 01's bench cases, "Proved together", and its worked example.
use Rattle.std.proofs.Common.{ℕ, ◌≤◌, ◌≡◌, true, List, [], ◌∷◌, ◌++◌, pos, negsuc, replicate, Float}
use lib.Ieee.{binary32, binary64, of_int, of_bits}
use Rattle.tonekit_core.specs.Calls.{written}
use Rattle.tonekit_core.specs.declared.Refusal.TheVariants.{BadVariant}
use Rattle.std.specs.Prelude.{Some, None, Ok, Err}
use Rattle.tonekit_core.specs.declared.DeltaKind.TheVariants.{StartLower}
use Rattle.spec_arithmetic.specs.Root.{root_of}
use Rattle.spec_arithmetic.specs.RootBench as root
use Rattle.spec_shape.specs.Chao.{hz_to_st, width_of, st_to_chao}
use Rattle.spec_shape.specs.FitBench as chao
use Rattle.spec_lookup.specs.Knots.{expanded}
use Rattle.spec_lookup.specs.Bench as knots
use Rattle.spec_query.specs.declared.Query.{Query}
use Rattle.spec_judgement.specs.Deltas.{no_deltas}
use Rattle.spec_judgement.specs.DeltasBench as deltas
use Rattle.spec_judgement.specs.Inventory.{Inventory}
use Rattle.spec_judgement.specs.Judge.{ranking_of, heard_of}
use Rattle.tonekit_entries.specs.declared.ToneEntry.{ToneEntry}
use Rattle.spec_judgement.specs.declared.Tolerance.{Tolerance}
use Rattle.spec_judgement.specs.JudgeBench as heard
use Rattle.spec_judgement.specs.Target.{variants_good}
use Rattle.spec_judgement.specs.TargetBench as variants
use Rattle.spec_judgement.specs.Judgement.{tones_verdict, query_verdict, judge_outcome}
use Rattle.spec_judgement.specs.Bench as station
use Rattle.tonekit_station.proofs.Ways.{bad_variant}

-- whole numbers, and f32s by their bits
abbrev whole : ℕ → Float
whole n = of_int binary64 (pos n)

abbrev bits : ℕ → Float
bits n = of_bits binary32 n

-- a query's bytes whose two variants weigh 0.5, and 0.5 and so many times 2^−24
abbrev weighing : ℕ → List ℕ
weighing n = variants.variants (0 ∷ 0 ∷ 0 ∷ 0x3f ∷ []) (n ∷ 0 ∷ 0 ∷ 0x3f ∷ [])

-- two tones that are as likely before anything is heard
abbrev toned : ℕ → ToneEntry
toned number = record { number = number; prior = bits 0x3f00_0000; region = None; tail = bits 0; listing = None }

abbrev two_tones : Inventory
two_tones = record { items = toned 7 ∷ toned 9 ∷ [] }

pub record Together : Type 0 where
  -- "55 Hz is 0 semitones, 110 is 12, 27.5 is −12."
  pub hz_55 : hz_to_st (whole 55) ≡ whole 0
  pub hz_110 : hz_to_st (whole 110) ≡ whole 12
  pub hz_27_5 : hz_to_st (of_bits binary64 0x403b_8000_0000_0000) ≡ of_int binary64 (negsuc 11)
  -- "Register 0 to 12: 6 gives 3; 5 to 5: 7 gives 3."
  pub register_0_12 : st_to_chao (whole 0) (width_of (whole 0) (whole 12)) (whole 6) ≡ whole 3
  pub register_5_5 : st_to_chao (whole 5) (width_of (whole 5) (whole 5)) (whole 7) ≡ whole 3
  -- "Knots [2] and [2, 2]: all 2."
  pub one_knot : expanded (bits 0x4000_0000 ∷ []) ≡ replicate 10 (bits 0x4000_0000)
  pub two_knots : expanded (bits 0x4000_0000 ∷ bits 0x4000_0000 ∷ []) ≡ replicate 10 (bits 0x4000_0000)
  -- "Root of 2: 0x3FF6A09E667F3BCD."
  pub root_of_2 : root_of (of_bits binary64 0x4000_0000_0000_0000) ≡ of_bits binary64 0x3ff6_a09e_667f_3bcd
  -- "Variants 0.5 and 0.5+2^−20 pass; 0.5 and 0.5+2^−19 give 15."
  pub slack_passes : variants_good (weighing 16) 2 ≡ true
  pub slack_past : (voiced : ℕ) (t : Tolerance) (i : Inventory) (q : Query) → 3 ≤ voiced → tones_verdict i ≡ Ok tt
      → q.variants ≡ 2 → query_verdict voiced (Some t) true i (weighing 32) q ≡ Err BadVariant
  -- "Onset tolerance 0.5, unwidened: 0.5 high gives no delta, 0.75 StartLower."
  pub half_high : deltas.advice (bits 0x3f00_0000) (bits 0) ≡ no_deltas
  pub three_quarters_high : deltas.advice (bits 0x3f40_0000) (bits 0)
      ≡ record { first = Some (record { z = bits 0x3fc0_0000; kind = StartLower; amount = bits 0x3f40_0000 }); second = None }
  -- "Two tones of equal score, threshold 0.25: the first is heard."
  pub equal_tones : heard_of two_tones (bits 0x3e80_0000) (ranking_of two_tones (bits 0 ∷ bits 0 ∷ [])) ≡ Some 7
  -- "Tone 1, accent 1 with a citation, eight voiced frames of 110 Hz, floor NaN: hexadecimal 31 01 01 00 24 74 C9, 54 zero bytes, 02 40 00."
  pub floor_nan : judge_outcome station.pack station.unmeasured
      ≡ written ((0x31 ∷ 0x01 ∷ 0x01 ∷ 0x00 ∷ 0x24 ∷ 0x74 ∷ 0xc9 ∷ []) ++ (replicate 54 0 ++ (0x02 ∷ 0x40 ∷ 0x00 ∷ [])))

pub together : Together
together = record {
  hz_55 = chao.at_55;
  hz_110 = chao.at_110;
  hz_27_5 = chao.at_27_5;
  register_0_12 = chao.register_0_12;
  register_5_5 = chao.register_5_5;
  one_knot = knots.one_knot;
  two_knots = knots.two_knots;
  root_of_2 = root.root_of_two;
  slack_passes = variants.slack_passes;
  slack_past = λ voiced t i q enough listed two. bad_variant voiced i (weighing 32) q enough listed t (rw two variants.slack_past);
  half_high = deltas.half_high;
  three_quarters_high = deltas.three_quarters_high;
  equal_tones = heard.equal_tones;
  floor_nan = station.floor_nan;
}
