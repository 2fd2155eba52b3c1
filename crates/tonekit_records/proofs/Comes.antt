-- Whole records with End behind them: they read and End is due, or one of them is turned back where it stands, or End is not due (`comes`). So a pack that is
-- turned back at End, and not because End is not due, has records that read. Assumes nothing.
use Rattle.std.proofs.Common.{ℕ, ◌+◌, ◌-◌, ◌≤◌, ◌<◌, ◌≡◌, refl, sym, ◌∙◌, ap, ap₂, ◌⊎◌, inl, inr, ⊎_elim, true, false, List, [], ◌∷◌, ◌++◌, append_assoc, arith, length, drop, length-append}
use Rattle.tonekit_core.specs.declared.Refusal.{Refusal}
use Rattle.tonekit_core.specs.declared.Refusal.TheVariants.{Misplaced, CutShort}
use Rattle.std.specs.Prelude.{Ok, Err}
use Rattle.spec_arithmetic.specs.Fields.{byte_at}
use Rattle.spec_arithmetic.specs.Files.{Out, refused}
use Rattle.spec_pack.specs.Pack.{PackRead, due_after, size_of, added, pack_reader, read_pack}
use Rattle.tonekit_core.proofs.Split.{split}
use Rattle.tonekit_bytes.proofs.Files.{by_verdict, run, run_refused, run_on}
use Rattle.tonekit_bytes.proofs.Stands.{stands_front}
use Rattle.tonekit_pack.proofs.Records.{size_pos}
use Rattle.tonekit_pack.proofs.Turns.{limit_idle}
use Rattle.tonekit_records.specs.Records.{Tally, no_tally, kind, body_verdict_of, record_verdict_of, tallied, ReadsOn, none, more, records_bytes}
use Rattle.tonekit_records.proofs.OwnBytes.{byte_same}
use Rattle.tonekit_records.proofs.Tallies.{TallyOf, tally_start, verdict_same, tally_next}
use Rattle.tonekit_records.proofs.Loading.{fine_due, drop_behind}

-- whole records, none of them End
abbrev pub WholeRecords : List (List ℕ) → Type 0
WholeRecords [] = Unit
WholeRecords (r ∷ rs) = (length r ≡ size_of (kind r)) × (kind r ≡ 6 → ⊥) × WholeRecords rs

-- what such records are from an offset on, after the tally t, where o is the reader's answer and End stands behind them
pub data Comes (t : Tally) (rs : List (List ℕ)) (at : ℕ) (o : Out PackRead) : Type 0 where
  reads : {u : Tally} → ReadsOn t rs u → due_after u.last 6 ≡ true → Comes t rs at o
  stops : (q : Refusal) (place : ℕ) → o ≡ refused q place → (q ≡ Misplaced) ⊎ (place < at + length (records_bytes rs)) → Comes t rs at o

undue : (t : Tally) → due_after t.last 6 ≡ false → record_verdict_of (6 ∷ []) t ≡ Err Misplaced
unfolding record_verdict_of body_verdict_of
undue t d = rw d

-- a record more in front, which is fine
one_more : {t : Tally} {r : List ℕ} {rs : List (List ℕ)} {at : ℕ} {o p : Out PackRead} → length r ≡ size_of (kind r) → (kind r ≡ 6 → ⊥) → record_verdict_of r t ≡ Ok tt
    → o ≡ p → Comes (tallied r t) rs (at + length r) p → Comes t (r ∷ rs) at o
unfolding records_bytes
one_more w n fine e (reads x due) = reads (more w n fine x) due
one_more {r = r} {rs = rs} w n fine e (stops q place h x) = stops q place (e ∙ h) (⊎_elim inl (λ l. inr (omega (arith, length-append r (records_bytes rs)))) x)

module _ (s : List ℕ) (d : Out PackRead) (tail : List ℕ) where
  run_comes : (rs : List (List ℕ)) → WholeRecords rs → (f at : ℕ) (st : PackRead) (t : Tally) → TallyOf s st t
      → drop at s ≡ records_bytes rs ++ (6 ∷ tail) → at ≤ length s → length rs < f → Comes t rs at (run pack_reader s d f at st)
  unfolding records_bytes size_of
  run_comes [] w f at st t o e l h =
      let g = stands_front s at (6 ∷ []) tail e l in
      let v = verdict_same s at st (6 ∷ []) t g refl o (omega arith) in
      split (due_after t.last 6) (λ due. reads none due) (λ no. stops Misplaced at (run_refused pack_reader s d f at st (omega arith) Misplaced (v ∙ undue t no)) (inl refl))
  run_comes (r ∷ rs) w f at st t o e l h =
      let behind = records_bytes rs ++ (6 ∷ tail) in
      let e1 : drop at s ≡ r ++ behind = e ∙ append_assoc r (records_bytes rs) (6 ∷ tail) in
      let g = stands_front s at r behind e1 l in
      let some : 0 < length r = omega (arith, w.0, size_pos (kind r)) in
      let v = verdict_same s at st r t g w.0 o some in
      let k : byte_at s at ≡ kind r = byte_same s at r g at 0 (omega arith) some in
      by_verdict (record_verdict_of r t)
      (λ fine. let was-due : due_after st.last (kind r) ≡ true = ap (λ z. due_after z (kind r)) o.last ∙ fine_due r t fine in
      let goes = run_on pack_reader s d f at st (omega arith) (v ∙ fine) (λ z. w.1 (sym k ∙ z)) in
      let q : at + size_of (byte_at s at) ≡ at + length r = ap (λ z. at + z) (ap size_of k ∙ sym w.0) in
      let on = goes ∙ ap₂ (λ a b. run pack_reader s d (f - 1) a (added b at st)) q k in
      let next = tally_next s at st r t g w.0 o was-due w.1 in
      one_more w.0 w.1 fine on (run_comes rs w.2 (f - 1) (at + length r) (added (kind r) at st) (tallied r t) next (drop_behind s at r behind e1) g.fits (omega arith)))
      (λ q bad. stops q at (run_refused pack_reader s d f at st (omega arith) q (v ∙ bad)) (inr (omega (arith, length-append r (records_bytes rs)))))

pub comes : (rs : List (List ℕ)) (tail : List ℕ) → WholeRecords rs → Comes no_tally rs 0 (read_pack (records_bytes rs ++ (6 ∷ tail)))
comes rs tail w =
    let s = records_bytes rs ++ (6 ∷ tail) in
    let d : Out PackRead = refused CutShort 0 in
    let n = length s + length rs + 1 in
    as_read (sym (limit_idle s d n (omega arith))) (run_comes s d tail rs w n 0 pack_reader.start.st no_tally (tally_start s) refl (omega arith) (omega arith))
  where
    as_read : {o p : Out PackRead} → p ≡ o → Comes no_tally rs 0 o → Comes no_tally rs 0 p
    as_read e (reads x due) = reads x due
    as_read e (stops q place h x) = stops q place (e ∙ h) x
