-- Demand 2's bound on what a station writes: `outcomes_bounded` and `buffers_bounded`, as specs/Demand2.antt states them, and of ±1,000,100
-- `outcomes_bounded_tailed` and `buffers_bounded_tailed`, which follow. Assumes nothing.
use Rattle.std.proofs.Common.{ℕ, ◌≡◌, sym, ◌∙◌, subst, List, ◌++◌, leb, length, drop, Float}
use Rattle.std.specs.Float.Ieee.{neg, le, of_bits}
use lib.Seq.{take-append_seam}
use Rattle.tonekit_core.specs.Calls.{Outcome, refused, written, answer_in, buffer_after}
use Rattle.tonekit_core.proofs.Calls.{Writes}
use Rattle.std.specs.Prelude.{Result, Ok, Err}
use Rattle.tonekit_core.specs.declared.Rejection.{Rejection}
use Rattle.tonekit_core.specs.declared.Refusal.TheVariants.{ShortBuffer}
use Rattle.tonekit_core.proofs.Split.{split}
use Rattle.tonekit_float.proofs.Bounds.{in_wider}
use Rattle.tonekit_score.proofs.Bounds.{Bounded, bounded_number}
use Rattle.tonekit_judge.proofs.Bounds.{judgement_length, loglik_read, llr_read}
use Rattle.spec_judgement.specs.Score.{million}
use Rattle.spec_judgement.specs.Judgement.{judge_outcome}
use Rattle.spec_sheet.specs.JudgeSheet.{judge_sheet_outcome}
use Rattle.tonekit_station.proofs.Written.{Records, judge_writes, judge_sheet_writes}
use Rattle.tonekit_demand.specs.Demand2.{million_100, Within, BoundedRecord, LeavesBounded, OutcomesBounded, BuffersBounded, OutcomesBoundedTailed, BuffersBoundedTailed}

within : {x : Float} → Bounded x → Within million x
within b = record { low = b.low; high = b.high; number = bounded_number b }

-- the record of every judgement
records : Records (BoundedRecord million)
records x settings t l g issues expected tones = record {
  size = judgement_length x settings t l g issues expected tones;
  loglik = λ k h. within (loglik_read x settings t l g issues expected tones k h);
  llr = within (llr_read x settings t l g issues expected tones);
}

judge_bounded : (p q : List ℕ) → Writes (BoundedRecord million) (judge_outcome p q)
judge_bounded = judge_writes (BoundedRecord million) records

judge_sheet_bounded : (p q : List ℕ) → Writes (BoundedRecord million) (judge_sheet_outcome p q)
judge_sheet_bounded = judge_sheet_writes (BoundedRecord million) records

pub outcomes_bounded : OutcomesBounded
outcomes_bounded p q bs = (λ e. subst (Writes (BoundedRecord million)) e (judge_bounded p q), λ e. subst (Writes (BoundedRecord million)) e (judge_sheet_bounded p q))

-- ---- a lent buffer
leaves : (o : Outcome) → Writes (BoundedRecord million) o → LeavesBounded million o
unfolding answer_in buffer_after
leaves (refused r place) h before after a n d w =
    let no : ◌≡◌ {A = Result ℕ Rejection} (Ok n) (Err (record { why = r; place = place })) = sym w ∙ d.answer in
    cc
leaves (written bs) h before after a n d w =
    split (leb (length bs) (length before))
    (λ t.
    let e : ◌≡◌ {A = Result ℕ Rejection} (Ok n) (Ok (length bs)) = sym w ∙ rw t at d.answer in
    let m : n ≡ length bs = cc in
    let f : after ≡ bs ++ drop (length bs) before = rw t at d.buffer in
    rw (m, f, take-append_seam bs (drop (length bs) before)) h)
    (λ t.
    let no : ◌≡◌ {A = Result ℕ Rejection} (Ok n) (Err (record { why = ShortBuffer; place = length bs })) = sym w ∙ rw t at d.answer in
    cc)

pub buffers_bounded : BuffersBounded
buffers_bounded p q = (leaves (judge_outcome p q) (judge_bounded p q), leaves (judge_sheet_outcome p q) (judge_sheet_bounded p q))

-- ---- within ±1,000,000 is within ±1,000,100
wider : {x : Float} → Within million x → Within million_100 x
unfolding of_bits neg le
wider {x} w =
    let b = in_wider {lo = neg million} {hi = million} {lo' = neg million_100} {hi' = million_100} {x = x} tt (record { low = w.low; high = w.high }) in
    record { low = b.low; high = b.high; number = w.number }

wider_record : {bs : List ℕ} → BoundedRecord million bs → BoundedRecord million_100 bs
wider_record b = record { size = b.size; loglik = λ k h. wider (b.loglik k h); llr = wider b.llr }

pub outcomes_bounded_tailed : OutcomesBoundedTailed
outcomes_bounded_tailed p q bs =
    let o = outcomes_bounded p q bs in
    (λ e. wider_record (o.0 e), λ e. wider_record (o.1 e))

pub buffers_bounded_tailed : BuffersBoundedTailed
buffers_bounded_tailed p q =
    let o = buffers_bounded p q in
    (λ before after a n d w. wider_record (o.0 before after a n d w), λ before after a n d w. wider_record (o.1 before after a n d w))
