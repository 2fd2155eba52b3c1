-- `row_place` meets its contract: the sum, and its bound.
use Rattle.std.proofs.Common.{arith}
use Rattle.tonekit_bytes.proofs.Stepped.{stepped_length}
use Rattle.tonekit_sheet_inventory.proofs.Rows.{row_few, tones_few}
use Rattle.tonekit_sheet_inventory.proofs.HeldSheet.row_place.Goals as goal

pub overflow_mul-result : goal.overflow_mul-result
overflow_mul-result c = let a = c.args in omega (arith, tones_few a.self.now.view.sheet.accents a.self.now.view.sheet.tones a.a a.t a.p (omega arith) (omega arith) (omega arith) (omega arith) (omega arith))

pub overflow_add-result : goal.overflow_add-result
overflow_add-result c = let a = c.args in omega (arith, tones_few a.self.now.view.sheet.accents a.self.now.view.sheet.tones a.a a.t a.p (omega arith) (omega arith) (omega arith) (omega arith) (omega arith))

pub overflow_mul-result-2 : goal.overflow_mul-result-2
overflow_mul-result-2 c = let a = c.args in omega (arith, row_few a.self.now.view.sheet.accents a.self.now.view.sheet.tones a.a a.t a.p (omega arith) (omega arith) (omega arith) (omega arith) (omega arith))

pub overflow_add-result-3 : goal.overflow_add-result-3
overflow_add-result-3 c = let a = c.args in omega (arith, row_few a.self.now.view.sheet.accents a.self.now.view.sheet.tones a.a a.t a.p (omega arith) (omega arith) (omega arith) (omega arith) (omega arith))

pub returns : goal.returns
returns c = let a = c.args in (simp stepped_length, row_few a.self.now.view.sheet.accents a.self.now.view.sheet.tones a.a a.t a.p (omega arith) (omega arith) (omega arith) (omega arith) (omega arith))
