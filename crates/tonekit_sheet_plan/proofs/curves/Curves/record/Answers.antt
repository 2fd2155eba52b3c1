use Rattle.std.proofs.Common.{arith, eq-eqb, ne_eqb}
use Rattle.tonekit_sheet_plan.proofs.curves.Curves.record.Goals as goal

pub overflow_cast-result : goal.overflow_cast-result
overflow_cast-result c = record { fits = rw (eq-eqb _ _ c.if-self-eq-CITATION_FORM.true) at c.args.self.kept.near }

pub overflow_sub-result : goal.overflow_sub-result
overflow_sub-result c = omega (arith, c.args.self.kept.behind c.if-self-eq-CITATION_FORM.false)

pub returns-then-self-eq-CITATION_FORM : goal.returns-then-self-eq-CITATION_FORM
returns-then-self-eq-CITATION_FORM c = rw (eq-eqb _ _ c.if-self-eq-CITATION_FORM.true)

pub returns-else-self-eq-CITATION_FORM : goal.returns-else-self-eq-CITATION_FORM
returns-else-self-eq-CITATION_FORM c = rw (ne_eqb _ _ c.if-self-eq-CITATION_FORM.false)
