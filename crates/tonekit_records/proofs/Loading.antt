-- A pack loads exactly if its records read, one after the other, and the tests at End pass (`loads_exactly`): from records to the reader's answer (`reads_end`,
-- `reads_load`, `reads_refused`), and back (`load_reads`). Assumes nothing.
use Rattle.std.proofs.Common.{ℕ, zero, suc, ◌+◌, ◌-◌, ◌≤◌, ◌<◌, ◌≡◌, refl, sym, ◌∙◌, ap, ap₂, ◌↔◌, true, List, [], ◌∷◌, ◌++◌, append_assoc, arith, eqb, eqb-true, length, take, drop, take-append-drop, length-append, length-drop, length-take-le, drop-cons, get_or-drop, get_or-take, drop-drop}
use borrow.Author.Tests.{eqb-false}
use lib.Seq.{drop-append_seam}
use Rattle.tonekit_core.specs.declared.Refusal.{Refusal}
use Rattle.tonekit_core.specs.declared.Refusal.TheVariants.{Misplaced, CutShort}
use Rattle.std.specs.Prelude.{Ok, Err}
use Rattle.spec_arithmetic.specs.Fields.{byte_at}
use Rattle.spec_arithmetic.specs.Files.{Out, loaded, refused}
use Rattle.spec_pack.specs.Pack.{PackRead, due_after, size_of, record_verdict, added, end_verdict, ended, pack_reader, read_pack}
use Rattle.tonekit_core.proofs.Split.{split}
use Rattle.tonekit_bytes.proofs.Files.{not_fine, by_verdict, run, run_refused, run_end, run_on, not_loaded, same_loaded, no_turns}
use Rattle.tonekit_pack.proofs.Records.{sound, size_pos}
use Rattle.tonekit_pack.proofs.Turns.{limit_idle}
use Rattle.tonekit_records.specs.Records.{Tally, no_tally, kind, body_verdict_of, record_verdict_of, tallied, ReadsOn, none, more, records_bytes, added_all}
use Rattle.tonekit_bytes.proofs.Stands.{stands_front}
use Rattle.tonekit_records.proofs.OwnBytes.{byte_same}
use Rattle.tonekit_records.proofs.Tallies.{TallyOf, tally_start, verdict_same, tally_next}

-- ---- one record
-- a record that is fine was due, and its body is fine
pub fine_due : (r : List ℕ) (t : Tally) → record_verdict_of r t ≡ Ok tt → due_after t.last (kind r) ≡ true
unfolding record_verdict_of
fine_due r t e = split (due_after t.last (kind r)) (λ d. d) (λ d. not_fine Misplaced (rw d at e))

pub fine_body : (r : List ℕ) (t : Tally) → record_verdict_of r t ≡ Ok tt → body_verdict_of r t ≡ Ok tt
unfolding record_verdict_of
fine_body r t e = rw (fine_due r t e) at e

-- End is fine where it is due
end_fine : (t : Tally) → due_after t.last 6 ≡ true → record_verdict_of (6 ∷ []) t ≡ Ok tt
unfolding record_verdict_of body_verdict_of
end_fine t d = rw d

-- what follows a record stands behind it
pub drop_behind : (s : List ℕ) (at : ℕ) (r tail : List ℕ) → drop at s ≡ r ++ tail → drop (at + length r) s ≡ tail
drop_behind s at r tail e = sym (drop-drop (length r) at s) ∙ ap (drop (length r)) e ∙ drop-append_seam r tail

-- ---- from records to the reader's answer
module _ (s : List ℕ) (d : Out PackRead) (tail : List ℕ) where
  run_reads : {t u : Tally} {rs : List (List ℕ)} → ReadsOn t rs u → (f at : ℕ) (st : PackRead) → TallyOf s st t
      → drop at s ≡ records_bytes rs ++ (6 ∷ tail) → at ≤ length s → length rs < f → due_after u.last 6 ≡ true
      → run pack_reader s d f at st ≡ ended (at + length (records_bytes rs)) (added_all st at rs) (end_verdict s (added_all st at rs))
  unfolding records_bytes added_all size_of
  run_reads {t} none f at st o e l h due =
      let g = stands_front s at (6 ∷ []) tail e l in
      let v = verdict_same s at st (6 ∷ []) t g refl o (omega arith) ∙ end_fine t due in
      let z : at ≡ at + 0 = omega arith in
      run_end pack_reader s d f at st (omega arith) v (byte_same s at (6 ∷ []) g at 0 (omega arith) (omega arith)) ∙ ap (λ a. ended a st (end_verdict s st)) z
  run_reads {t} {u} (more {r = r} {rs = rs} w n fine x) f at st o e l h due =
      let behind = records_bytes rs ++ (6 ∷ tail) in
      let e1 : drop at s ≡ r ++ behind = e ∙ append_assoc r (records_bytes rs) (6 ∷ tail) in
      let g = stands_front s at r behind e1 l in
      let some : 0 < length r = omega (arith, w, size_pos (kind r)) in
      let v = verdict_same s at st r t g w o some ∙ fine in
      let k : byte_at s at ≡ kind r = byte_same s at r g at 0 (omega arith) some in
      let was-due : due_after st.last (kind r) ≡ true = ap (λ z. due_after z (kind r)) o.last ∙ fine_due r t fine in
      let goes = run_on pack_reader s d f at st (omega arith) v (λ z. n (sym k ∙ z)) in
      let q : at + size_of (byte_at s at) ≡ at + length r = ap (λ z. at + z) (ap size_of k ∙ sym w) in
      let ih = run_reads x (f - 1) (at + length r) (added (kind r) at st) (tally_next s at st r t g w o was-due n) (drop_behind s at r behind e1) g.fits (omega arith) due in
      let fin = added_all (added (kind r) at st) (at + length r) rs in
      let z : at + length r + length (records_bytes rs) ≡ at + length (r ++ records_bytes rs) = omega (arith, length-append r (records_bytes rs)) in
      goes ∙ ap₂ (λ a b. run pack_reader s d (f - 1) a (added b at st)) q k ∙ ih ∙ ap (λ a. ended a fin (end_verdict s fin)) z

-- of records that read, with End behind them, the reader's answer is what the tests at End say
module _ {u : Tally} {rs : List (List ℕ)} (tail : List ℕ) (x : ReadsOn no_tally rs u) (due : due_after u.last 6 ≡ true) where
  abbrev whole : List ℕ
  whole = records_bytes rs ++ (6 ∷ tail)

  abbrev all : PackRead
  all = added_all pack_reader.start.st 0 rs

  pub reads_end : read_pack whole ≡ ended (length (records_bytes rs)) all (end_verdict whole all)
  reads_end =
      let d : Out PackRead = refused CutShort 0 in
      let n = length whole + length rs + 1 in
      let z : 0 + length (records_bytes rs) ≡ length (records_bytes rs) = omega arith in
      sym (limit_idle whole d n (omega arith)) ∙ run_reads whole d tail x n 0 pack_reader.start.st (tally_start whole) refl (omega arith) (omega arith) due
      ∙ ap (λ a. ended a all (end_verdict whole all)) z

  -- they are a pack if those pass, and turned back at End if not
  pub reads_load : end_verdict whole all ≡ Ok tt → read_pack whole ≡ loaded all (length (records_bytes rs) + 1)
  reads_load h = reads_end ∙ ap (ended (length (records_bytes rs)) all) h

  pub reads_refused : (q : Refusal) → end_verdict whole all ≡ Err q → read_pack whole ≡ refused q (length (records_bytes rs))
  reads_refused q h = reads_end ∙ ap (ended (length (records_bytes rs)) all) h

-- ---- and back
-- from an offset on, and from the state and the tally there, s is records that read, and End, which ends at e; then the reader has read what fin says, and the
-- tests at End pass
pub record AsRecords (s : List ℕ) (at : ℕ) (st : PackRead) (t : Tally) (fin : PackRead) (e : ℕ) : Type 0 where
  pub records : List (List ℕ)
  pub tally : Tally
  pub reads : ReadsOn t records tally
  pub due : due_after tally.last 6 ≡ true
  pub bytes : drop at s ≡ records_bytes records ++ (6 ∷ drop e s)
  pub end : at + length (records_bytes records) + 1 ≡ e
  pub held : added_all st at records ≡ fin
  pub ending : end_verdict s fin ≡ Ok tt

-- the bytes of the record at an offset
module _ (s : List ℕ) (at : ℕ) (inside : at < length s) (whole : at + size_of (byte_at s at) ≤ length s) where
  abbrev here : List ℕ
  here = take (size_of (byte_at s at)) (drop at s)

  kind_here : kind here ≡ byte_at s at
  kind_here =
      let p = size_pos (byte_at s at) in
      let z : at + 0 ≡ at = omega arith in
      get_or-take (size_of (byte_at s at)) (drop at s) 0 0 (omega arith) ∙ get_or-drop at s 0 0 ∙ ap (byte_at s) z

  size_here : length here ≡ size_of (byte_at s at)
  size_here = length-take-le (size_of (byte_at s at)) (drop at s) (omega (arith, length-drop at s))

  cut_here : drop at s ≡ here ++ drop (at + size_of (byte_at s at)) s
  cut_here = sym (take-append-drop (size_of (byte_at s at)) (drop at s)) ∙ ap (λ x. here ++ x) (drop-drop (size_of (byte_at s at)) at s)

-- at End, and at a record before it
at_end : (s : List ℕ) (at : ℕ) (st : PackRead) (t : Tally) (fin : PackRead) (e : ℕ) → at < length s → byte_at s at ≡ 6 → due_after t.last 6 ≡ true
    → ended at st (end_verdict s st) ≡ loaded fin e → AsRecords s at st t fin e
unfolding records_bytes added_all
at_end s at st t fin e l k due h =
    by_verdict (end_verdict s st)
    (λ v. let same = same_loaded st fin (at + 1) e (sym (ap (ended at st) v) ∙ h) in
    let a : at + 1 ≡ e = same.1 in
    let z : suc at ≡ e = omega arith in
    let b : at + 0 + 1 ≡ e = omega arith in
    record {
      records = [];
      tally = t;
      reads = none;
      due = due;
      bytes = drop-cons s at 0 l ∙ ap₂ (λ x y. x ∷ drop y s) k z;
      end = b;
      held = same.0;
      ending = ap (end_verdict s) (sym same.0) ∙ v;
    })
    (λ q v. not_loaded q at e fin (sym (ap (ended at st) v) ∙ h))

onward : (s : List ℕ) (at : ℕ) (st : PackRead) (t : Tally) (fin : PackRead) (e : ℕ) (r : List ℕ) → length r ≡ size_of (kind r) → (kind r ≡ 6 → ⊥) → record_verdict_of r t ≡ Ok tt
    → drop at s ≡ r ++ drop (at + length r) s → AsRecords s (at + length r) (added (kind r) at st) (tallied r t) fin e → AsRecords s at st t fin e
unfolding records_bytes added_all
onward s at st t fin e r w n fine c x =
    let z : at + length (r ++ records_bytes x.records) + 1 ≡ e = omega (arith, length-append r (records_bytes x.records), x.end) in
    record {
      records = r ∷ x.records;
      tally = x.tally;
      reads = more w n fine x.reads;
      due = x.due;
      bytes = c ∙ ap (λ y. r ++ y) x.bytes ∙ sym (append_assoc r (records_bytes x.records) (6 ∷ drop e s));
      end = z;
      held = x.held;
      ending = x.ending;
    }

-- f turns from an offset on that end with a pack
load_from : (f : ℕ) (s : List ℕ) (r : Refusal) (place at : ℕ) (st : PackRead) (t : Tally) (fin : PackRead) (e : ℕ) → TallyOf s st t → at ≤ length s
    → run pack_reader s (refused r place) f at st ≡ loaded fin e → AsRecords s at st t fin e
load_from zero s r place at st t fin e o l h = no_turns pack_reader s at st fin r place e h
load_from (suc f) s r place at st t fin e o l h =
    by_verdict (record_verdict s at st)
    (λ v. let ok = sound s at st v in
    let rec = here s at ok.inside ok.whole in
    let k = kind_here s at ok.inside ok.whole in
    let n = size_here s at ok.inside ok.whole in
    let w : length rec ≡ size_of (kind rec) = n ∙ ap size_of (sym k) in
    let c = cut_here s at ok.inside ok.whole in
    let g = stands_front s at rec (drop (at + size_of (byte_at s at)) s) c l in
    let some : 0 < length rec = omega (arith, n, size_pos (byte_at s at)) in
    let fine : record_verdict_of rec t ≡ Ok tt = sym (verdict_same s at st rec t g w o some) ∙ v in
    let d = fine_due rec t fine in
    split (eqb (byte_at s at) 6)
    (λ b. let is : byte_at s at ≡ 6 = eqb-true (byte_at s at) 6 b in
    at_end s at st t fin e ok.inside is (ap (due_after t.last) (sym (k ∙ is)) ∙ d) (sym (run_end pack_reader s (refused r place) (suc f) at st (omega arith) v is) ∙ h))
    (λ b. let is : byte_at s at ≡ 6 → ⊥ = eqb-false (byte_at s at) 6 b in
    let no : kind rec ≡ 6 → ⊥ = λ z. is (sym k ∙ z) in
    let was-due : due_after st.last (kind rec) ≡ true = ap (λ z. due_after z (kind rec)) o.last ∙ d in
    let p : suc f - 1 ≡ f = omega arith in
    let q : at + size_of (byte_at s at) ≡ at + length rec = ap (λ z. at + z) (sym n) in
    let goes : run pack_reader s (refused r place) f (at + length rec) (added (kind rec) at st) ≡ loaded fin e =
    sym (ap₂ (λ a b. run pack_reader s (refused r place) f a (added b at st)) q (sym k)) ∙ (ap (λ m. run pack_reader s (refused r place) m (at + size_of (byte_at s at)) (added (byte_at s at) at st)) (sym p) ∙ (sym (run_on pack_reader s (refused r place) (suc f) at st (omega arith) v is) ∙ h)) in
    onward s at st t fin e rec w no fine (c ∙ ap (λ a. rec ++ drop a s) q)
    (load_from f s r place (at + length rec) (added (kind rec) at st) (tallied rec t) fin e (tally_next s at st rec t g w o was-due no) g.fits goes)))
    (λ q v. not_loaded q at e fin (sym (run_refused pack_reader s (refused r place) (suc f) at st (omega arith) q v) ∙ h))

pub load_reads : (s : List ℕ) (st : PackRead) (e : ℕ) → read_pack s ≡ loaded st e → AsRecords s 0 pack_reader.start.st no_tally st e
unfolding read_pack
load_reads s st e h = load_from (length s + 1) s CutShort (length s) 0 pack_reader.start.st no_tally st e (tally_start s) (omega arith) h

-- ---- both
pub loads_exactly : (s : List ℕ) (st : PackRead) (e : ℕ) → (read_pack s ≡ loaded st e) ↔ AsRecords s 0 pack_reader.start.st no_tally st e
loads_exactly s st e = (
  load_reads s st e,
  λ x. let z : length (records_bytes x.records) + 1 ≡ e = omega (arith, x.end) in
      ap read_pack x.bytes ∙ reads_load (drop e s) x.reads x.due (ap₂ end_verdict (sym x.bytes) x.held ∙ x.ending) ∙ ap₂ loaded x.held z,
)
