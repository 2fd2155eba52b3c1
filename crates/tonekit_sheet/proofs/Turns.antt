-- The reader of sheets: its records have bytes and are whole, so that the limit of turns never ends the reading; and what a sheet's end shows. Assumes nothing.
use Rattle.std.proofs.Common.{ℕ, ◌≤◌, ◌<◌, ◌≡◌, refl, List, length}
use Rattle.std.specs.Prelude.{Option, Some, None}
use Rattle.tonekit_core.specs.declared.Refusal.{Refusal}
use Rattle.tonekit_core.specs.declared.Refusal.TheVariants.{Loose, Unordered}
use Rattle.spec_arithmetic.specs.Files.{Out, loaded}
use Rattle.tonekit_bytes.proofs.Files as files
use Rattle.tonekit_bytes.proofs.Files.{Steady, run, not_loaded, same_loaded, single}
use Rattle.spec_sheet.specs.Reader.{SheetRead, finished, loose_row, accent_down, row_wrong, list_wrong, refused_at, sheet_reader, read_sheet, load_sheet}
use Rattle.tonekit_sheet.proofs.Records.{sound, size_pos}

pub steady : Steady sheet_reader
steady = record { some = size_pos; whole = λ s at st v. (sound s at st v).whole }

pub limit_idle : (s : List ℕ) (d : Out SheetRead) (n : ℕ) → length s < n → run sheet_reader s d n 0 sheet_reader.start.st ≡ read_sheet s
unfolding read_sheet
limit_idle s d n h = files.limit_idle sheet_reader steady refl s d n h

-- ---- the end: nothing loose, and nothing out of order
pub record Finished (s : List ℕ) (st : SheetRead) (e : ℕ) (fin : SheetRead) (end : ℕ) : Type 0 where
  pub same : st ≡ fin
  pub ends : e ≡ end
  pub rows_held : loose_row s st ≡ None
  pub accents_up : accent_down s st ≡ None
  pub rows_right : row_wrong s st ≡ None
  pub lists_right : list_wrong s st ≡ None

-- nothing was refused here
passes : (r : Refusal) (f : Option ℕ) (out : Out SheetRead) (st : SheetRead) (e : ℕ) → refused_at r f out ≡ loaded st e → (f ≡ None) × (out ≡ loaded st e)
passes r (Some o) out st e h = not_loaded r o e st h
passes r None out st e h = (refl, h)

pub finished_is : (s : List ℕ) (st : SheetRead) (e : ℕ) (fin : SheetRead) (end : ℕ) → finished s st e ≡ loaded fin end → Finished s st e fin end
unfolding finished
finished_is s st e fin end h =
    let p = passes Loose (loose_row s st) _ fin end h in
    let a = passes Unordered (accent_down s st) _ fin end p.1 in
    let b = passes Unordered (row_wrong s st) _ fin end a.1 in
    let c = passes Unordered (list_wrong s st) (loaded st e) fin end b.1 in
    let l = same_loaded st fin e end c.1 in
    record { same = l.0; ends = l.1; rows_held = p.0; accents_up = a.0; rows_right = b.0; lists_right = c.0 }

-- an input that loads as one sheet is a sheet at its front, and nothing behind it
pub loads_alone : (s : List ℕ) (st : SheetRead) (e : ℕ) → load_sheet s ≡ loaded st e → (read_sheet s ≡ loaded st e) × (length s ≤ e)
unfolding load_sheet
loads_alone s st e h = single s (read_sheet s) st e h
