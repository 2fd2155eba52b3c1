use Rattle.std.proofs.Common.{ℕ, ◌∙◌, ◌≡◌, true, refl, sym, IfSome, is_some}
use Rattle.std.specs.Prelude.{Option, Some, None}
use Rattle.tonekit_sheet_plan.proofs.Memo.{marked, way_known, way_found, way_room, way_new, right_found, right_new}
use Rattle.tonekit_sheet_plan.proofs.Plan.note_listing.Goals as goal
use Rattle.tonekit_sheet_plan.proofs.Plan.note_listing.Goals.{then-len-j, else-len-j}

-- what holds of the number that the memo has
known : {P : ℕ → Type 0} (o : Option ℕ) → IfSome o P → is_some o ≡ true → (n : ℕ) × P n
known (Some n) p e = (n, p)
known None p e = absurd (cc)

pub returns-then-is_some : goal.returns-then-is_some
returns-then-is_some c =
    let p = c.args.self.now in
    let k = known c.known_at.result (rw c.record-at.ensures at c.known_at.ensures) (sym c.is_some.ensures ∙ c.if-is_some.true) in
    record { bytes = refl; same = way_known p.bytes.now p.lists.items p.memo.items c.args.l p.sane c.requires.1 k.1 }

pub enter-requires : goal.enter-requires
enter-requires c =
    let p = c.args.self.now in (
      way_room p.bytes.now p.lists.items p.memo.items c.args.l p.sane c.requires.1 c.place_of-j.ensures.place (rw c.len.ensures.value at c.if-len-j.true) c.requires.0,
      rw c.record-at.ensures (marked p.bytes.now c.args.l c.requires.1 c.mark-mark.ensures),
    )

pub remember-requires : goal.remember-requires
remember-requires c =
    let p = c.args.self.now in
    elim c.if-len-j.branch [
      | then-len-j w ↦
          rw (w.self-is, w.enter.ensures.0, w.enter.ensures.1, c.record-at.ensures)
          (right_new p.bytes.now p.lists.items p.memo.items c.args.l p.sane c.requires.1 c.place_of-j.ensures.place (rw c.len.ensures.value at w.if-len-j.true) c.mark-mark.result)
      | else-len-j w ↦
          rw (w.self-is, c.record-at.ensures)
          (right_found p.bytes.now p.lists.items p.memo.items c.args.l p.sane c.requires.1 c.place_of-j.ensures.place (rw c.len.ensures.value at w.if-len-j.false))
    ]

pub returns : goal.returns
returns c =
    let p = c.args.self.now in
    elim c.if-len-j.branch [
      | then-len-j w ↦
          record {
            bytes = c.remember.ensures.0 ∙ rw w.self-is w.enter.ensures.0;
            same =
                rw (c.remember.ensures.0, c.remember.ensures.1, w.self-is, w.enter.ensures.0, w.enter.ensures.1, c.record-at.ensures)
                (way_new p.bytes.now p.lists.items p.memo.items c.args.l p.sane c.requires.1 c.place_of-j.ensures.place (rw c.len.ensures.value at w.if-len-j.true) c.mark-mark.result);
          }
      | else-len-j w ↦
          record {
            bytes = c.remember.ensures.0 ∙ rw w.self-is refl;
            same =
                rw (c.remember.ensures.0, c.remember.ensures.1, w.self-is)
                (way_found p.bytes.now p.lists.items p.memo.items c.args.l p.sane c.requires.1 c.place_of-j.ensures.place (rw c.len.ensures.value at w.if-len-j.false));
          }
    ]
