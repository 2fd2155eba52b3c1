-- `widen_for` meets its contract: a count of up to three, rounded up in fours, is 1 exactly if one of the issues is there.
use Rattle.std.proofs.Common.{◌≡◌, refl, Bool, true, false, cond, ◌||◌, ◌+◌, ◌/◌, pos}
use Rattle.std.specs.Float.{binary32}
use Rattle.std.specs.Float.Ieee.{add, mul, round, of_int, of_bits}
use Rattle.std.specs.Int.{from_bool}
use Rattle.tonekit_core.specs.Words.{has_issue}
use Rattle.tonekit_core.specs.declared.MeasureIssue.TheVariants.{LowSnr, Clipped, ColdStartRegister}
use Rattle.spec_judgement.specs.Score.{widen_for}
use Rattle.tonekit_score.proofs.widen_for.Goals as goal

-- 1 + 0.5 × b for each of the eight, by computing
formed : (low clipped cold : Bool)
    → add binary32 (of_bits binary32 0x3f80_0000)
    (mul binary32 (of_bits binary32 0x3f00_0000) (of_int binary32 (pos ((from_bool low + from_bool clipped + from_bool cold + 3) / 4))))
    ≡ cond (low || (clipped || cold)) (of_bits binary32 0x3fc0_0000) (of_bits binary32 0x3f80_0000)
unfolding add mul round of_int of_bits
formed false false false = refl
formed false false true = refl
formed false true false = refl
formed false true true = refl
formed true false false = refl
formed true false true = refl
formed true true false = refl
formed true true true = refl

pub returns : goal.returns
unfolding widen_for
returns c =
    let there = has_issue c.args.issues in
    rw (c.from-4.ensures, c.from.ensures, c.from-2.ensures, c.from-3.ensures, c.has_issue.ensures, c.has_issue-2.ensures, c.has_issue-3.ensures)
    (formed (there LowSnr) (there Clipped) (there ColdStartRegister))
