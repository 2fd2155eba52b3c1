-- The sheet of a source within its limits loads, and the reader has every record where it was written. Assumes nothing.
use Rattle.std.proofs.Common.{ℕ, ◌+◌, ◌*◌, ◌≤◌, ◌≡◌, refl, sym, ap, ◌∙◌, subst, List, [], mul-pos, arith, length, get_or, le-ltb, Ok}
use Rattle.tonekit_core.specs.declared.Refusal.TheVariants.{CutShort}
use Rattle.spec_lookup.specs.Source.{Carried, Source}
use Rattle.spec_sheet.specs.Sheet.{View, view_of, rows_of, lists_of, sheet}
use Rattle.spec_arithmetic.specs.Files.{Out, loaded, refused}
use Rattle.spec_sheet.specs.Reader.{SheetRead, size_of, due_next, body_verdict, read_sheet, load_sheet, check_sheet, sheet_reader}
use Rattle.tonekit_sheet.specs.Sheetable.{Sheetable}
use Rattle.tonekit_sheet_laws.proofs.Place.{components_before, tone_at, accent_at, row_at, list_at, read_to, last_of, st_of_view, st_of}
use Rattle.tonekit_bytes.proofs.Stands.{kind}
use Rattle.tonekit_sheet_laws.proofs.Offsets.{before_none, before_all}
use Rattle.tonekit_sheet_laws.proofs.Laid.{Laid, laid}
use Rattle.tonekit_sheet_laws.proofs.Sheetables.{ViewSheetable, view_sheetable}
use Rattle.tonekit_sheet_laws.proofs.Turns.{Passes, Reach, then, over}
use Rattle.tonekit_sheet_laws.proofs.Tones.{through_tones}
use Rattle.tonekit_sheet_laws.proofs.Accents.{through_accents}
use Rattle.tonekit_sheet_laws.proofs.Rows.{through_rows}
use Rattle.tonekit_sheet_laws.proofs.Lists.{ten, all_there, through_lists}
use Rattle.tonekit_sheet_laws.proofs.Finished.{nothing_found}

-- the same reading, from a place and a state that come to the same
from : {s : List ℕ} {d : Out SheetRead} {a b : ℕ} {x y : SheetRead} (c : ℕ) (z : SheetRead) → Reach s d a x b y → a ≡ c → x ≡ z → Reach s d c z b y
from {s} {d} {a} {b} {x} {y} c z r e f = subst (λ (w : SheetRead). Reach s d c w b y) f (subst (λ (n : ℕ). Reach s d n x b y) e r)

module _ (s : List ℕ) (src : Source) (v : View) (sheetable : ViewSheetable src v) (laid : Laid s v (lists_of v)) where
  abbrev lists : List (List Carried)
  lists = lists_of v

  abbrev d : Out SheetRead
  d = refused CutShort (length s)

  abbrev end : ℕ
  end = list_at v lists (length lists)

  abbrev at_end : SheetRead
  at_end = read_to v lists (last_of 20 22 (length lists)) (length v.tones) (length v.accents) (rows_of v) (length lists) 0 (components_before lists (length lists))

  some_rows : 1 ≤ rows_of v
  some_rows =
      let t = length v.tones in
      mul-pos {m = length v.accents} {n = t * (t + 1)} sheetable.some_accents (mul-pos {m = t} {n = t + 1} sheetable.some_tones (omega arith))

  through : Reach s d 0 sheet_reader.start.st end at_end
  through =
      let t = length v.tones in
      let a = length v.accents in
      then (through_tones s d src v sheetable laid)
      (then (from (tone_at t) (read_to v lists 24 t 0 0 0 0 0) (through_accents s d src v sheetable laid) (omega arith) refl)
      (then (from (accent_at v a) (read_to v lists 19 t a 0 0 0 0) (through_rows s d src v sheetable laid some_rows) (omega arith) refl)
      (from (row_at v (rows_of v)) (read_to v lists 20 t a (rows_of v) 0 0 0) (through_lists s d src v sheetable laid) (omega (arith, before_none lists)) (rw (before_none lists)))))

  end_pass : Passes s end at_end 23 1
  unfolding size_of due_next body_verdict
  end_pass = record {
    kind = kind laid.finish (omega arith);
    sized = refl;
    some = omega arith;
    whole = laid.finish.fits;
    due = all_there s d src v sheetable laid (length lists);
    body = refl;
  }

  reads : read_sheet s ≡ loaded at_end (length s)
  unfolding read_sheet
  reads =
      let r = through.go (length s + 1) (omega arith) in
      r.2 ∙ over s d end at_end r.0 end_pass r.1 ∙ nothing_found s d src v sheetable laid _ _ (end + 1) ∙ ap (loaded at_end) (sym laid.size)

  pub loads : load_sheet s ≡ loaded (st_of_view v lists) (length s)
  unfolding load_sheet st_of_view
  loads = rw (reads, le-ltb (length s) (length s) (omega arith), before_all lists)

-- where its records stand
pub sheet_laid : (src : Source) → Sheetable src → Laid (sheet src) (view_of src) (lists_of (view_of src))
unfolding sheet
sheet_laid src sheetable = laid (view_of src) (lists_of (view_of src)) (λ i h. ten src (get_or (lists_of (view_of src)) i []) ((view_sheetable src sheetable).lists i h))

pub round : (src : Source) → Sheetable src → load_sheet (sheet src) ≡ loaded (st_of src) (length (sheet src))
unfolding st_of
round src sheetable = loads (sheet src) src (view_of src) (view_sheetable src sheetable) (sheet_laid src sheetable)

-- so it loads
pub sheet_loads : (src : Source) → Sheetable src → check_sheet (sheet src) ≡ Ok tt
unfolding check_sheet
sheet_loads src sheetable = rw (round src sheetable)
