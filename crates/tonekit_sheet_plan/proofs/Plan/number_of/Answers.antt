use Rattle.tonekit_sheet_plan.proofs.Memo.{number_none}
use Rattle.tonekit_sheet_plan.proofs.Plan.number_of.Goals as goal

pub returns-in-None : goal.returns-in-None
returns-in-None c = rw c.in-None.is (number_none _)
