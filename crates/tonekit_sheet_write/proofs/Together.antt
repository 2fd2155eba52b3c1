-- The whole sheet of a pack: its parts one behind the other, its length, and what the writer answers. Assumes nothing.
use Rattle.std.proofs.Common.{ℕ, ◌+◌, ◌-◌, ◌*◌, ◌≤◌, ◌<◌, ◌≡◌, refl, ◌∙◌, ap, ap₂, List, [], ◌∷◌, ◌++◌, arith, length, get_or, length-append}
use Rattle.tonekit_core.specs.declared.layout.TheConstants.{SHEET_TONE_STEP, SHEET_ACCENT_SIZE, SHEET_ROW_SIZE, SHEET_END_KIND, SHEET_END_SIZE}
use Rattle.tonekit_core.specs.Layout.{sheet_row_at}
use Rattle.tonekit_bytes.proofs.InOrder.{order_length}
use Rattle.tonekit_pack.specs.Held.{records_of}
use Rattle.tonekit_pack.specs.declared.Pack.{Pack}
use Rattle.spec_lookup.specs.Source.{Carried, tone_at, accent_at, settings_at, source_of_pack, absent_tone}
use Rattle.spec_sheet.specs.Pieces.{piecewise, Wrote}
use Rattle.tonekit_sheet.proofs.Gather.{gather_length, gather_more, gather_none, joined, room_first, room_then}
use Rattle.spec_sheet.specs.Sheet.{view_of, absent_accent, settings_bytes, tone_bytes, accent_bytes, row_count, rows_of, lists_of, bytes_with, sheet}
use Rattle.tonekit_sheet.specs.Parts.{row_piece}
use Rattle.tonekit_sheet_plan.specs.Rows.{pack_view, Ordered}
use Rattle.tonekit_sheet_plan.proofs.Views.{view_tones, view_sorted, view_rows}
use Rattle.tonekit_sheet_write.specs.Pieces.{settings_made, tone_made, accent_made, records_part, planned_list, lists_part}
use Rattle.tonekit_sheet_write.proofs.Bytes.{made_is}

module _ (s : List ℕ) (p : Pack) (os : List ℕ) (n : ℕ) (its : List (List Carried)) where
  -- the six parts, one behind the other
  abbrev pub A : List ℕ
  A = settings_made s 0

  abbrev pub B : List ℕ
  B = records_part tone_made s (records_of p).tones

  abbrev pub C : List ℕ
  C = records_part accent_made s os

  abbrev pub D : List ℕ
  D = piecewise (row_piece (pack_view s (records_of p)) its) 0 (row_count n p.tones.count)

  abbrev pub E : List ℕ
  E = lists_part its

  abbrev pub F : List ℕ
  F = SHEET_END_KIND ∷ []

  abbrev pub Whole : List ℕ
  Whole = bytes_with (pack_view s (records_of p)) its

  module _ (o : Ordered s (records_of p) os) (e : length os ≡ n) where
    settings_are : (pack_view s (records_of p)).settings ≡ settings_at s 0
    unfolding view_of source_of_pack
    settings_are = refl

    rows_are : rows_of (pack_view s (records_of p)) ≡ row_count n p.tones.count
    rows_are = view_rows s (records_of p) os o ∙ ap₂ row_count e (order_length p.tones.at p.tones.count)

    parts : Whole ≡ A ++ (B ++ (C ++ (D ++ (E ++ F))))
    unfolding bytes_with
    parts =
        let v = pack_view s (records_of p) in
        ap₂ (λ (x y : List ℕ). x ++ y) (ap settings_bytes settings_are)
        (ap₂ (λ (x y : List ℕ). x ++ y) (made_is (tone_at 47 7 s) absent_tone tone_bytes (records_of p).tones (view_tones s (records_of p)))
        (ap₂ (λ (x y : List ℕ). x ++ y) (made_is (accent_at 3 s) absent_accent accent_bytes os (view_sorted s (records_of p) os o))
        (ap (λ (d : ℕ). piecewise (row_piece v its) 0 d ++ (E ++ F)) rows_are)))

    -- what stands before a row past the last, the lists, and the end
    pub sheet_length : (r o z : ℕ) → r ≡ row_count n p.tones.count → o ≡ sheet_row_at p.tones.count n r → z ≡ length E → o + z + SHEET_END_SIZE ≡ length Whole
    sheet_length r o z h at k =
        let t = order_length p.tones.at p.tones.count in
        let b : length B ≡ SHEET_TONE_STEP * (length (records_of p).tones - 0) = gather_length (λ i. tone_made s (get_or (records_of p).tones i 0)) SHEET_TONE_STEP (λ i. refl) 0 (length (records_of p).tones) in
        let c : length C ≡ SHEET_ACCENT_SIZE * (length os - 0) = gather_length (λ i. accent_made s (get_or os i 0)) SHEET_ACCENT_SIZE (λ i. refl) 0 (length os) in
        let d : length D ≡ SHEET_ROW_SIZE * (row_count n p.tones.count - 0) = gather_length (row_piece (pack_view s (records_of p)) its) SHEET_ROW_SIZE (λ i. refl) 0 (row_count n p.tones.count) in
        omega
        (arith, e, t, ap length parts, length-append A (B ++ (C ++ (D ++ (E ++ F)))), length-append B (C ++ (D ++ (E ++ F))), length-append C (D ++ (E ++ F)), length-append D (E ++ F), length-append E F)

    -- each part has its room, and the parts written are the whole
    module _ (o₀ : List ℕ) (h : 0 + length Whole ≤ length o₀) where
      room₀ : 0 + length (A ++ (B ++ (C ++ (D ++ (E ++ F))))) ≤ length o₀
      room₀ = omega (arith, h, ap length parts)

      pub first : 0 + length A ≤ length o₀
      first = room_first A (B ++ (C ++ (D ++ (E ++ F)))) 0 (length o₀) room₀

      module _ {o₁ : List ℕ} {r₁ : ℕ} (w₁ : Wrote A 0 o₀ o₁ r₁) where
        room₁ : r₁ + length (B ++ (C ++ (D ++ (E ++ F)))) ≤ length o₁
        room₁ = room_then (B ++ (C ++ (D ++ (E ++ F)))) w₁ room₀

        pub second : r₁ + length B ≤ length o₁
        second = room_first B (C ++ (D ++ (E ++ F))) r₁ (length o₁) room₁

        module _ {o₂ : List ℕ} {r₂ : ℕ} (w₂ : Wrote B r₁ o₁ o₂ r₂) where
          room₂ : r₂ + length (C ++ (D ++ (E ++ F))) ≤ length o₂
          room₂ = room_then (C ++ (D ++ (E ++ F))) w₂ room₁

          pub third : r₂ + length C ≤ length o₂
          third = room_first C (D ++ (E ++ F)) r₂ (length o₂) room₂

          module _ {o₃ : List ℕ} {r₃ : ℕ} (w₃ : Wrote C r₂ o₂ o₃ r₃) where
            room₃ : r₃ + length (D ++ (E ++ F)) ≤ length o₃
            room₃ = room_then (D ++ (E ++ F)) w₃ room₂

            pub fourth : r₃ + length D ≤ length o₃
            fourth = room_first D (E ++ F) r₃ (length o₃) room₃

            module _ {o₄ : List ℕ} {r₄ : ℕ} (w₄ : Wrote D r₃ o₃ o₄ r₄) where
              room₄ : r₄ + length (E ++ F) ≤ length o₄
              room₄ = room_then (E ++ F) w₄ room₃

              pub fifth : r₄ + length E ≤ length o₄
              fifth = room_first E F r₄ (length o₄) room₄

              module _ {o₅ : List ℕ} {r₅ : ℕ} (w₅ : Wrote E r₄ o₄ o₅ r₅) where
                pub last : r₅ + SHEET_END_SIZE ≤ length o₅
                last = room_then F w₅ room₄

                pub all_written : {o₆ : List ℕ} {r₆ : ℕ} → Wrote F r₅ o₅ o₆ r₆ → Wrote Whole 0 o₀ o₆ r₆
                all_written w₆ = rw parts (joined w₁ (joined w₂ (joined w₃ (joined w₄ (joined w₅ w₆)))))

-- ---- the sum of the lists' lengths
module _ (its : List (List Carried)) where
  abbrev left : ℕ → ℕ
  left i = length (piecewise (planned_list its) i (length its))

  pub sum_on : (i total m : ℕ) → total + left i ≡ length (lists_part its) → i < length its → m ≡ length (planned_list its i) → total + m + left (i + 1) ≡ length (lists_part its)
  sum_on i total m e h k = omega (arith, e, gather_more (planned_list its) i (length its) h, k)

  pub sum_end : (i total : ℕ) → total + left i ≡ length (lists_part its) → length its ≤ i → total ≡ length (lists_part its)
  sum_end i total e h = omega (arith, e, gather_none (planned_list its) i (length its) h)

-- ---- the lists planned are those of the sheet
pub sheet_is : (s : List ℕ) (p : Pack) (its : List (List Carried)) → its ≡ lists_of (pack_view s (records_of p)) → bytes_with (pack_view s (records_of p)) its ≡ sheet (source_of_pack s (records_of p))
unfolding sheet
sheet_is s p its e = ap (bytes_with (pack_view s (records_of p))) e
