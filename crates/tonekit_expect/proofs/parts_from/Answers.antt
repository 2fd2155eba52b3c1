use Rattle.std.proofs.Common.{◌≡◌, ◌+◌, ◌-◌, ◌*◌, sym, ◌∙◌, arith}
use Rattle.spec_pack.specs.Pack.{parts_from}
use Rattle.tonekit_pack.proofs.Loads.{parts_miss, parts_none}
use Rattle.tonekit_expect.proofs.Parts.{parts_hit}
use Rattle.tonekit_expect.proofs.parts_from.Goals as goal

pub loop-n-preserved : goal.loop-n-preserved
loop-n-preserved c =
    let s = c.args.s.now in
    let o = c.args.o in
    let n = c.loop-n.n in
    let left : 4 - (n + 1) ≡ 4 - n - 1 = omega arith in
    let on : o + 46 * (n + 1) ≡ o + 46 * n + 46 = omega arith in
    let h = parts_hit (4 - n) s (o + 46 * n) (omega arith) (sym c.byte_at.ensures ∙ c.if-byte_at-ne-PART_KIND.false) in
    (omega arith, rw (left, on) (omega (arith, c.loop-n.invariant.1, h)))

pub returns-then-byte_at-ne-PART_KIND : goal.returns-then-byte_at-ne-PART_KIND
returns-then-byte_at-ne-PART_KIND c =
    let s = c.args.s.now in
    let o = c.args.o in
    let n = c.loop-n.n in
    omega (arith, c.loop-n.invariant.1, parts_miss (4 - n) s (o + 46 * n) (λ e. c.if-byte_at-ne-PART_KIND.true (c.byte_at.ensures ∙ e)))

pub returns : goal.returns
returns c =
    let l = c.loop-n in
    let s = c.args.s.now in
    let o = c.args.o in
    let all : 4 ≡ l.n = omega arith in
    let none : 4 - l.n ≡ 0 = omega arith in
    let e : parts_from (4 - l.n) s (o + 46 * l.n) ≡ 0 = rw none (parts_none s (o + 46 * l.n)) in
    omega (arith, l.invariant.1, e)
