-- The search stops at an accent whose number is not above that of the one before it. Assumes nothing.
use Rattle.std.proofs.Common.{le-ltb, arith, ◌+◌, ◌*◌}
use Rattle.tonekit_core.proofs.LoopLaws.{to_stop}
use Rattle.tonekit_bytes.proofs.Stepped.{stepped_length, stepped_get}
use Rattle.tonekit_sheet_read.proofs.SheetView.accent_down.Goals as goal

pub returns-then-not-before-n : goal.returns-then-not-before-n
returns-then-not-before-n c =
    let st = c.args.self.now.sheet in
    to_stop _ _ c.loop-i.invariant.2 (rw stepped_length (omega arith)) (simp (stepped_get (9 + 24 * st.tones) 18 st.accents c.loop-i.i (omega arith), ← c.sheet_accent_at-o.ensures, ← c.byte_at-n.ensures, le-ltb _ _ c.if-not-before-n.true))
