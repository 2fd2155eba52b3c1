-- What is written from a draft.
use Rattle.std.specs.Prelude.{ℕ, List}
use Rattle.tonekit_pack.specs.Held.{records_of}
use Rattle.spec_lookup.specs.Source.{Carried}
use Rattle.spec_sheet.specs.Pieces.{piecewise}
use Rattle.spec_sheet.specs.Sheet.{View, row_count, bytes_with}
use Rattle.tonekit_sheet.specs.Parts.{row_piece}
use Rattle.tonekit_sheet_plan.specs.Rows.{pack_view}
use Rattle.tonekit_sheet_plan.specs.Plans.{planned_by}
use Rattle.tonekit_sheet_write.specs.declared.draft.Draft.{Draft}

-- what a pack's sheet is made of, and the lists that are planned
abbrev pub view_of : Draft → View
view_of d = pack_view d.rows.view.bytes.now (records_of d.rows.view.pack)

abbrev pub lists_of : Draft → List (List Carried)
lists_of d = planned_by d.plan.now

-- row r, all rows, and the whole sheet, by the lists that are planned
abbrev pub row_of : Draft → ℕ → List ℕ
row_of d r = row_piece (view_of d) (lists_of d) r

abbrev pub rows_of : Draft → List ℕ
rows_of d = piecewise (row_of d) 0 (row_count d.rows.accents.count d.rows.view.pack.tones.count)

abbrev pub sheet_of : Draft → List ℕ
sheet_of d = bytes_with (view_of d) (lists_of d)
