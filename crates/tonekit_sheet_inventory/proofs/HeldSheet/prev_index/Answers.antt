-- `prev_index` meets its contract, by the ways through its code.
use Rattle.std.proofs.Common.{sym, ◌∙◌, arith, eq-eqb, ne_eqb}
use Rattle.tonekit_bytes.proofs.Searched.{index_found}
use Rattle.tonekit_bytes.proofs.Stepped.{stepped_length}
use Rattle.tonekit_sheet_inventory.proofs.HeldSheet.prev_index.Goals as goal

pub returns-then-n-eq0 : goal.returns-then-n-eq0
returns-then-n-eq0 c = rw (eq-eqb _ _ c.if-n-eq0.true)

pub returns : goal.returns
returns c = rw (ne_eqb _ _ c.if-n-eq0.false, sym c.tone_index.ensures ∙ c.in_ok-p.was)

pub returns-in_err-p : goal.returns-in_err-p
returns-in_err-p c = rw (c.from_residual.ensures, ne_eqb _ _ c.if-n-eq0.false, sym c.tone_index.ensures ∙ c.in_err-p.was)

pub overflow_add-result : goal.overflow_add-result
overflow_add-result c =
    omega (arith, (index_found _ _ _ _ (sym c.tone_index.ensures ∙ c.in_ok-p.was)).inside, stepped_length 9 24 c.args.self.now.view.sheet.tones, c.args.self.now.view.sheet.few_tones)
