-- Worked examples, computed: the bytes of a small pack as it is written, with a child before its parent and behind it, that both are read, and that both are
-- turned back alike at End.
use Rattle.std.specs.Prelude.{ℕ, ◌≡◌, refl, List, [], ◌∷◌, ◌++◌, replicate}
use Rattle.std.proofs.Common.{inl, inr, arith}
use Rattle.std.proofs.lemmas.List.Elements.{All-nil, All-cons}
use Rattle.std.specs.Float.Ieee.{lt, le, of_bits}
use Rattle.tonekit_core.specs.Loop.{range, turns, range_to, turns_to, loop_to, loop_on}
use Rattle.tonekit_core.specs.declared.Refusal.TheVariants.{Misplaced, Loose, EndlessChain}
use Rattle.spec_arithmetic.specs.Files.{Out, loaded, refused}
use Rattle.spec_arithmetic.specs.Places.{index_of}
use Rattle.spec_pack.specs.Ranges.{above_zero, probability_fine, knot_fine, weight_fine, slot_fine, knots_fine, region_fine, tail_fine, tails_fine, tolerances_fine}
use Rattle.spec_pack.specs.Pack.{PackRead, due_after, size_of, holds, zero_or_held, settings_verdict, tone_verdict, tail_verdict, accent_verdict, rule_verdict, part_verdict, body_verdict, record_verdict, added, parents_held, chain_ends, chains_end, end_verdict, read_pack}
use Rattle.tonekit_records.specs.Records.{records_bytes}
use Rattle.tonekit_records.specs.Bench.{settings, tone, tail, context_tone, accent, rule, part, second_part}
use Rattle.tonekit_any_order.specs.Layout.{Block, Layout, blocks_records, end_offset, layout_bytes, IsToneOrTail, IsRuleOrPart, IsBlock, IsLayout, InOtherOrder}

-- ---- a pack of two tones, of which the first has a tail, and two accents: 8, with one rule of two parts, and 7, with one rule of one part
-- label 8; tone 4 after tone 4; single, of weight 1 and knot 1
abbrev single : List ℕ
single = 4 ∷ 8 ∷ 0 ∷ 4 ∷ 4 ∷ 0 ∷ 2 ∷ []

abbrev lone_part : List ℕ
lone_part = 5 ∷ 0 ∷ 0 ∷ 128 ∷ 63 ∷ 1 ∷ 0 ∷ 0 ∷ 128 ∷ 63 ∷ replicate 36 0

abbrev eight : ℕ → Block
eight parent = record { accent = accent 8 parent; rules = rule ∷ part ∷ second_part ∷ [] }

abbrev seven : ℕ → Block
seven parent = record { accent = accent 7 parent; rules = single ∷ lone_part ∷ [] }

-- with these accents, and this behind it
abbrev pack : List Block → List ℕ → Layout
pack blocks behind = record { settings = settings; tones = tone ∷ tail ∷ context_tone ∷ []; blocks = blocks; behind = behind }

-- the child first, and its parent first: each accent takes its rules along, and each rule its parts
child_first : layout_bytes (pack (eight 7 ∷ seven 0 ∷ []) [])
    ≡ settings ++ (tone ++ (tail ++ (context_tone ++ (accent 8 7 ++ (rule ++ (part ++ (second_part ++ (accent 7 0 ++ (single ++ (lone_part ++ (6 ∷ [])))))))))))
unfolding records_bytes blocks_records
child_first = refl

parent_first : layout_bytes (pack (seven 0 ∷ eight 7 ∷ []) (1 ∷ []))
    ≡ settings ++ (tone ++ (tail ++ (context_tone ++ (accent 7 0 ++ (single ++ (lone_part ++ (accent 8 7 ++ (rule ++ (part ++ (second_part ++ (6 ∷ 1 ∷ [])))))))))))
unfolding records_bytes blocks_records
parent_first = refl

-- where End stands
end_at : end_offset (pack (eight 7 ∷ seven 0 ∷ []) (1 ∷ [])) ≡ 320
unfolding records_bytes blocks_records
end_at = refl

-- ---- the one is the other in another order
of_kind : (eight_parent seven_parent : ℕ) (behind : List ℕ) → IsLayout (pack (eight eight_parent ∷ seven seven_parent ∷ []) behind)
unfolding size_of
of_kind e s behind = record {
  settings = record { begins = refl; whole = refl };
  tones =
      All-cons IsToneOrTail tone (tail ∷ context_tone ∷ []) (inl (record { begins = refl; whole = refl }))
      (All-cons IsToneOrTail tail (context_tone ∷ []) (inr (record { begins = refl; whole = refl }))
      (All-cons IsToneOrTail context_tone [] (inl (record { begins = refl; whole = refl })) (All-nil IsToneOrTail)));
  blocks =
      All-cons IsBlock (eight e) (seven s ∷ [])
      (record {
        accent = record { begins = refl; whole = refl };
        rules =
            All-cons IsRuleOrPart rule (part ∷ second_part ∷ []) (inl (record { begins = refl; whole = refl }))
            (All-cons IsRuleOrPart part (second_part ∷ []) (inr (record { begins = refl; whole = refl }))
            (All-cons IsRuleOrPart second_part [] (inr (record { begins = refl; whole = refl })) (All-nil IsRuleOrPart)));
      })
      (All-cons IsBlock (seven s) []
      (record {
        accent = record { begins = refl; whole = refl };
        rules =
            All-cons IsRuleOrPart single (lone_part ∷ []) (inl (record { begins = refl; whole = refl }))
            (All-cons IsRuleOrPart lone_part [] (inr (record { begins = refl; whole = refl })) (All-nil IsRuleOrPart));
      })
      (All-nil IsBlock));
}

-- by one exchange, of the first and the second
pub turned : (behind : List ℕ) → InOtherOrder (layout_bytes (pack (eight 7 ∷ seven 0 ∷ []) behind)) (layout_bytes (pack (seven 0 ∷ eight 7 ∷ []) behind))
turned behind = record {
  layout = pack (eight 7 ∷ seven 0 ∷ []) behind;
  other = seven 0 ∷ eight 7 ∷ [];
  is_layout = of_kind 7 0 behind;
  order = record { moves = (0, 1) ∷ []; below = (omega arith, omega arith, tt); is = refl };
  one_is = refl;
  other_is = refl;
}

-- ---- both are read, each by its own offsets
unfoldable read : List Block → Out PackRead
unfolding records_bytes blocks_records read_pack record_verdict due_after size_of body_verdict settings_verdict tone_verdict tail_verdict accent_verdict rule_verdict part_verdict holds zero_or_held added parents_held chain_ends chains_end end_verdict index_of range_to turns_to above_zero probability_fine knot_fine weight_fine slot_fine knots_fine region_fine tail_fine tails_fine tolerances_fine range turns loop_to loop_on lt le of_bits
read blocks = read_pack (layout_bytes (pack blocks (1 ∷ [])))

abbrev held : List ℕ → List ℕ → ℕ → PackRead
held accents rules parts = record { last = 5; tones = 9 ∷ 74 ∷ []; accents = accents; firsts = 0 ∷ 1 ∷ []; rules = rules; parts = parts; total = 3 }

both_load : (read (eight 7 ∷ seven 0 ∷ []) ≡ loaded (held (130 ∷ 248 ∷ []) (149 ∷ 267 ∷ []) 1) 321)
    × (read (seven 0 ∷ eight 7 ∷ []) ≡ loaded (held (130 ∷ 202 ∷ []) (149 ∷ 221 ∷ []) 2) 321)
unfolding read
both_load = (refl, refl)

-- and turned back alike: a parent that is not there, and a ring
both_loose : (read (eight 9 ∷ seven 0 ∷ []) ≡ refused Loose 320) × (read (seven 0 ∷ eight 9 ∷ []) ≡ refused Loose 320)
unfolding read
both_loose = (refl, refl)

both_endless : (read (eight 7 ∷ seven 8 ∷ []) ≡ refused EndlessChain 320) × (read (seven 8 ∷ eight 7 ∷ []) ≡ refused EndlessChain 320)
unfolding read
both_endless = (refl, refl)

-- but an End that is not due is not told so: a rule without a part is told where the record behind it stands
abbrev bare : Block
bare = record { accent = accent 7 0; rules = single ∷ [] }

not_due : (read (eight 7 ∷ bare ∷ []) ≡ refused Misplaced 274) × (read (bare ∷ eight 7 ∷ []) ≡ refused Misplaced 156)
unfolding read
not_due = (refl, refl)
