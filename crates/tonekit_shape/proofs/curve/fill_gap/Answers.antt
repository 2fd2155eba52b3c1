-- `fill_gap` meets its contract: a turn over the gap is a turn over the curve.
use Rattle.std.proofs.Common.{arith, add-zero, ◌∙◌, length-set, ◌+◌, ◌-◌, ◌≡◌, ◌<◌, length, drop, length-take-le, length-drop}
use Rattle.tonekit_core.proofs.LoopLaws.{again, ended}
use Rattle.tonekit_shape.proofs.Gap.{fill_turn, joined_whole, gap_turn}
use Rattle.tonekit_shape.proofs.curve.fill_gap.Goals as goal

pub loop-k-init : goal.loop-k-init
loop-k-init c = record {
  many = length-take-le (c.args.j - (c.args.prev + 1)) (drop (c.args.prev + 1) c.args.curve.now) (omega (arith, c.requires.0, c.requires.1, length-drop (c.args.prev + 1) c.args.curve.now));
  left = rw (joined_whole c.args.prev c.args.j c.args.curve.now, add-zero);
}

pub loop-k-preserved : goal.loop-k-preserved
loop-k-preserved c =
    let l = c.loop-k in
    let h : l.k < length l.value-items = omega (arith, c.loop-k-test.true, l.auto.value-items) in
    let e : c.args.prev + 1 + (l.k + 1) ≡ c.args.prev + 1 + l.k + 1 = omega arith in
    record {
      many = length-set l.value-items l.k _ ∙ l.invariant.many;
      left =
          rw e (again (fill_turn c.args.prev c.args.j) l.invariant.left (omega (arith, h, l.invariant.many))
          (gap_turn c.args.prev c.args.j c.args.curve.now l.value-items c.requires.0 c.requires.1 l.invariant.many l.k _ h
          (rw (c.f64_of.ensures, c.f64_of-in-loop-k.ensures))));
    }

pub returns : goal.returns
returns c = ended (fill_turn c.args.prev c.args.j) c.loop-k.invariant.left (omega (arith, c.loop-k-test.false, c.loop-k.invariant.many))
