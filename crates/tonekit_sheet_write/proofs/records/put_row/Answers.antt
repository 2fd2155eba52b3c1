use Rattle.std.proofs.Common.{arith, refl, length-set}
use Rattle.tonekit_sheet_write.proofs.records.put_row.Goals as goal

pub returns : goal.returns
returns c = refl

pub bounds-out-1 : goal.bounds-out-1
bounds-out-1 c = simp length-set (omega arith)

pub bounds-out-2 : goal.bounds-out-2
bounds-out-2 c = simp length-set (omega arith)

pub bounds-out-3 : goal.bounds-out-3
bounds-out-3 c = simp length-set (omega arith)

pub bounds-out-4 : goal.bounds-out-4
bounds-out-4 c = simp length-set (omega arith)

pub bounds-out-5 : goal.bounds-out-5
bounds-out-5 c = simp length-set (omega arith)

pub shape_of-out : goal.shape_of-out
shape_of-out c = simp length-set
