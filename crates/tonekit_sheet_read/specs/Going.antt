-- What the reader's loop keeps: from here it gives what it gives of the whole, and its place is the one that the counts give.
use Rattle.std.specs.Prelude.{ℕ, ◌+◌, ◌*◌, ◌≤◌, ◌≡◌, List, length, Err}
use Rattle.tonekit_core.specs.declared.layout.TheConstants.{TAIL_SIZE, SHEET_TONE_KIND}
use Rattle.std.proofs.Common.{refl}
use Rattle.tonekit_core.specs.declared.Refusal.{Refusal}
use Rattle.spec_arithmetic.specs.Files.{judged, refused}
use Rattle.tonekit_bytes.specs.Onward as onward
use Rattle.tonekit_bytes.specs.Onward.{Onward}
use Rattle.spec_sheet.specs.Reader.{SheetRead, rows_due, due_next, size_of, body_verdict, record_verdict, sheet_reader, read_sheet}
use Rattle.tonekit_sheet.specs.Kinds.{reached}
use Rattle.tonekit_sheet_read.specs.declared.Sheet.{Sheet}
use Rattle.tonekit_sheet_read.specs.Held.{records_of}

-- where the counts put the next record, with a tail for each tone
abbrev pub place_of : SheetRead → ℕ
place_of st = 9 + 24 * length st.tones + 18 * length st.accents + 6 * st.rows + 7 * length st.lists + 45 * st.total

-- before the first record all counts are 0; behind a tone, its tail is still to come; later kinds have come only after the earlier ones, and lists only
-- after all rows
pub record InPlace (at : ℕ) (st : SheetRead) : Type 0 where
  pub first : st.last ≡ 0 → at ≡ 0
  pub place : 1 ≤ reached st.last → (st.last ≡ SHEET_TONE_KIND → ⊥) → at ≡ place_of st
  pub bare : st.last ≡ SHEET_TONE_KIND → at + TAIL_SIZE ≡ place_of st
  pub no_tones : reached st.last ≤ 17 → length st.tones ≡ 0
  pub no_accents : reached st.last ≤ 18 → length st.accents ≡ 0
  pub no_rows : reached st.last ≤ 19 → st.rows ≡ 0
  pub no_lists : reached st.last ≤ 20 → (length st.lists ≡ 0) × (st.total ≡ 0) × (st.due ≡ 0)
  pub few_rows : st.rows ≤ rows_due st
  pub all_rows : 21 ≤ reached st.last → st.rows ≡ rows_due st

-- from here the reader gives what it gives of the whole
pub record Going (s : List ℕ) (st : Sheet) (at : ℕ) : Type 0 where
  pub placed : InPlace at (records_of st)
  pub onward : Onward sheet_reader s at (records_of st)

-- the verdict of a record is its tests in their order
pub judges : (s : List ℕ) (o : ℕ) (st : SheetRead) → record_verdict s o st ≡ judged (due_next st) size_of (λ k. body_verdict k s o st) s o
unfolding record_verdict
judges s o st = refl

-- a record that is refused ends the reading
pub refuses : (s : List ℕ) (st : Sheet) (at : ℕ) → Going s st at → (r : Refusal) → record_verdict s at (records_of st) ≡ Err r → refused r at ≡ read_sheet s
unfolding read_sheet
refuses s st at g r v = onward.refuses sheet_reader s at (records_of st) g.onward r v
