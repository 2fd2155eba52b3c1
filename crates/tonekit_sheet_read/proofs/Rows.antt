-- What is due at a row's places. Assumes nothing.
use Rattle.std.proofs.Common.{ℕ, zero, suc, ◌+◌, ◌-◌, ◌*◌, ◌/◌, ◌%◌, ◌≤◌, ◌<◌, ◌≡◌, ◌&&◌, List, arith, sub-one, eqb}
use Rattle.spec_arithmetic.specs.Fields.{byte_at}
use Rattle.spec_sheet.specs.Sheet.{row_count}
use Rattle.spec_sheet.specs.Reader.{rows_due, row_at, prev_due, row_due}
use Rattle.tonekit_sheet_read.specs.declared.Sheet.{Sheet}
use Rattle.tonekit_sheet_read.specs.Held.{records_of}
use Rattle.tonekit_bytes.proofs.Stepped.{stepped_length, stepped_get}
use Rattle.tonekit_sheet.proofs.RowPlaces.{rows_few, some_tone, Places, row_places}

pub prev_some : (s : List ℕ) (st : Sheet) (p : ℕ) → 0 < p → p ≤ st.tones → prev_due s (records_of st) p ≡ byte_at s (9 + 24 * (p - 1) + 1)
prev_some s st zero h l = absurd (omega arith)
prev_some s st (suc p) h l = rw (sub-one, stepped_get 9 24 st.tones p (omega arith))

pub due_count : (st : Sheet) → rows_due (records_of st) ≡ row_count st.accents st.tones
due_count st = simp stepped_length

pub due_few : (st : Sheet) → rows_due (records_of st) ≤ 576
due_few st = rw (due_count st) (rows_few st.accents st.tones st.few_accents st.few_tones)

module _ (st : Sheet) (r : ℕ) (h : r < rows_due (records_of st)) where
  below : r < row_count st.accents st.tones
  below = rw (due_count st) at h

  pub a_tone : 1 ≤ st.tones
  a_tone = some_tone st.accents st.tones r below

  -- a row that is due has its accent, tone and prev
  pub places : Places st.accents st.tones r
  places = row_places st.accents st.tones r a_tone below

  -- the row due, with each number read at its offset
  pub row_due_at : (s : List ℕ) (o : ℕ) → o ≡ row_at (records_of st) r
      → row_due s (records_of st) r
      ≡ (eqb (byte_at s (o + 1)) (byte_at s (9 + 24 * st.tones + 18 * (r / (st.tones * (st.tones + 1))) + 1))
      && (eqb (byte_at s (o + 2)) (byte_at s (9 + 24 * (r / (st.tones + 1) % st.tones) + 1))
      && eqb (byte_at s (o + 3)) (prev_due s (records_of st) (r % (st.tones + 1)))))
  unfolding row_due
  row_due_at s o e =
      rw (e, stepped_length 9 24 st.tones, stepped_get (9 + 24 * st.tones) 18 st.accents (r / (st.tones * (st.tones + 1))) places.accent, stepped_get 9 24 st.tones (r / (st.tones + 1) % st.tones) places.tone)
