-- `list_wrong` meets its contract: from each list on, those left give what all give, whatever row the next use is looked for from. Assumes nothing.
use Rattle.std.proofs.Common.{sym, ap, ◌∙◌, arith, length, length-append, eq-eqb, ne_eqb}
use Rattle.std.proofs.lemmas.List.{length-take-le}
use Rattle.tonekit_bytes.proofs.InOrder.{order_length}
use Rattle.spec_sheet.specs.Reader.{list_wrong}
use Rattle.tonekit_core.proofs.LoopLaws.{to_again, to_stop, to_ended}
use Rattle.tonekit_sheet_read.specs.Held.{records_of}
use Rattle.tonekit_sheet_read.proofs.Lists.{list_turn_at}
use Rattle.tonekit_sheet_read.proofs.Marks.{marked_more, marked_part}
use Rattle.tonekit_sheet_read.proofs.SheetView.list_wrong.Goals as goal

pub loop-i-init : goal.loop-i-init
unfolding list_wrong
loop-i-init c = record {
  few =
      let lists = c.args.self.now.sheet.lists in
      omega (arith, ap length c.offsets-lists.ensures, order_length lists.at lists.count);
  inside = omega arith;
  slots = rw c.new-marks.ensures;
  marked = λ i h. absurd (omega arith);
  rest = rw c.offsets-lists.ensures;
}

pub returns-then-from-i : goal.returns-then-from-i
returns-then-from-i c =
    to_stop _ _ c.loop-i.invariant.rest c.loop-i-test.true
    (list_turn_at c.args.self.now.bytes.now (records_of c.args.self.now.sheet) c.offsets-lists.result.now c.offsets-lists.ensures c.loop-i.i _ c.loop-i-test.true c.from-o.ensures
    ∙ rw (← c.byte_at.ensures, ← c.from.ensures, ne_eqb _ _ c.if-from-i.true))

pub returns-in_default : goal.returns-in_default
returns-in_default c =
    to_stop _ _ c.loop-i.invariant.rest c.loop-i-test.true
    (list_turn_at c.args.self.now.bytes.now (records_of c.args.self.now.sheet) c.offsets-lists.result.now c.offsets-lists.ensures c.loop-i.i _ c.loop-i-test.true c.from-o.ensures
    ∙ rw (← c.byte_at.ensures, ← c.from.ensures, eq-eqb _ _ c.if-from-i.false, ← c.use_of.ensures.1, c.in_default.is))

pub repeated-requires : goal.repeated-requires
repeated-requires c =
    let l = c.loop-i in
    let os = c.offsets-lists.result.now in
    let here = length-take-le l.i os (omega arith) in
    rw c.as_slice.ensures.value (here ∙ sym l.invariant.slots, marked_part c.args.self.now.bytes.now os l.marks.items l.i (omega arith) l.invariant.slots l.invariant.marked, c.mark_at-mark.ensures)

pub returns-then-repeated : goal.returns-then-repeated
returns-then-repeated c =
    to_stop _ _ c.loop-i.invariant.rest c.loop-i-test.true
    (list_turn_at c.args.self.now.bytes.now (records_of c.args.self.now.sheet) c.offsets-lists.result.now c.offsets-lists.ensures c.loop-i.i _ c.loop-i-test.true c.from-o.ensures
    ∙ rw (← c.byte_at.ensures, ← c.from.ensures, eq-eqb _ _ c.if-from-i.false, ← c.use_of.ensures.1, ← c.repeated.ensures, c.if-repeated.true, c.in-Some.is))

pub loop-i-preserved : goal.loop-i-preserved
loop-i-preserved c =
    let l = c.loop-i in
    record {
      few = l.invariant.few;
      inside = omega (arith, c.in-Some.ensures.0);
      slots = rw c.push.ensures.items (simp length-append (omega (arith, l.invariant.slots)));
      marked = rw c.push.ensures.items (marked_more c.args.self.now.bytes.now c.offsets-lists.result.now l.marks.items l.i c.mark_at-mark.result l.invariant.slots l.invariant.marked (rw c.from-o.ensures at c.mark_at-mark.ensures));
      rest = to_again _ _ l.invariant.rest c.loop-i-test.true
          (list_turn_at c.args.self.now.bytes.now (records_of c.args.self.now.sheet) c.offsets-lists.result.now c.offsets-lists.ensures l.i _ c.loop-i-test.true c.from-o.ensures
          ∙ rw (← c.byte_at.ensures, ← c.from.ensures, eq-eqb _ _ c.if-from-i.false, ← c.use_of.ensures.1, ← c.repeated.ensures, c.if-repeated.false, c.in-Some.is));
    }

pub returns : goal.returns
returns c = to_ended _ _ c.loop-i.invariant.rest (omega arith)
