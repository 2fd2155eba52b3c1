-- The reader of files of records: what a record that is fine shows, what one turn of a reading is, that the limit of turns never ends it, that inputs
-- in which records say the same are read the same, and what a single file is. Assumes nothing.
use Rattle.std.proofs.Common.{ℕ, zero, suc, ◌+◌, ◌-◌, ◌≤◌, ◌<◌, ◌≡◌, refl, sym, ◌∙◌, Bool, true, List, arith, length, eqb, leb, ltb, ne_eqb, eqb-true, eq-eqb, leb-false, ltb-false}
use borrow.Author.Tests.{eqb-false}
use Rattle.tonekit_core.specs.Loop.{loop_to, loop_on, loop_stop}
use Rattle.tonekit_core.proofs.LoopLaws.{loop_again}
use Rattle.tonekit_core.specs.declared.Refusal.{Refusal}
use Rattle.tonekit_core.specs.declared.Refusal.TheVariants.{Misplaced, CutShort, Overrun}
use Rattle.std.specs.Prelude.{Result, Ok, Err}
use Rattle.tonekit_core.proofs.Split.{split}
use Rattle.spec_arithmetic.specs.Fields.{byte_at}
use Rattle.spec_arithmetic.specs.Files.{judged, Out, loaded, refused, Reader, read, single_file}
use Rattle.tonekit_bytes.specs.Onward.{Onward, record_turn}

pub not_fine : {P : Type 0} (r : Refusal) → ◌≡◌ {A = Result Unit Refusal} (Err r) (Ok tt) → P
not_fine r h = absurd (cc)

pub by_verdict : {P : Type 0} (v : Result Unit Refusal) → (v ≡ Ok tt → P) → ((r : Refusal) → v ≡ Err r → P) → P
by_verdict (Ok u) f g = f refl
by_verdict (Err r) f g = g r refl

-- a record whose tests in their order pass
pub record Fine (due : ℕ → Bool) (size : ℕ → ℕ) (tests : ℕ → Result Unit Refusal) (s : List ℕ) (at : ℕ) : Type 0 where
  pub inside : at < length s
  pub whole : at + size (byte_at s at) ≤ length s
  pub in_turn : due (byte_at s at) ≡ true
  pub body : tests (byte_at s at) ≡ Ok tt

pub fine : (due : ℕ → Bool) (size : ℕ → ℕ) (tests : ℕ → Result Unit Refusal) (s : List ℕ) (at : ℕ) → judged due size tests s at ≡ Ok tt → Fine due size tests s at
fine due size tests s at h =
    split (leb (length s) at) (λ a. not_fine CutShort (rw a at h))
    (λ a. split (due (byte_at s at))
    (λ d. split (ltb (length s) (at + size (byte_at s at))) (λ l. not_fine CutShort (rw (a, d, l) at h))
    (λ l. record { inside = leb-false _ _ a; whole = ltb-false _ _ l; in_turn = d; body = rw (a, d, l) at h }))
    (λ d. not_fine Misplaced (rw (a, d) at h)))

pub not_loaded : {P S : Type 0} (r : Refusal) (place e : ℕ) (st : S) → refused r place ≡ loaded st e → P
not_loaded r place e st h = absurd cc

pub same_loaded : {S : Type 0} (a b : S) (d e : ℕ) → loaded a d ≡ loaded b e → (a ≡ b) × (d ≡ e)
same_loaded a b d e h = (cc, cc)

-- ---- the reading
module _ {S : Type 0} (f : Reader S) (s : List ℕ) (d : Out S) where
  -- the rest of it, from a place on
  abbrev pub run : ℕ → ℕ → S → Out S
  run n at st = loop_to (record_turn f s) d n (record { at = at; st = st })

  pub no_turn : (at : ℕ) (st : S) → run 0 at st ≡ d
  unfolding loop_to loop_on
  no_turn at st = refl

  -- what one turn is
  module _ (n at : ℕ) (st : S) (some : 0 < n) where
    pub run_refused : (r : Refusal) → f.verdict s at st ≡ Err r → run n at st ≡ refused r at
    run_refused r v = sym (loop_stop (record_turn f s) d refl some (rw v))

    pub run_end : f.verdict s at st ≡ Ok tt → byte_at s at ≡ f.end → run n at st ≡ f.finish s at st
    run_end v e = sym (loop_stop (record_turn f s) d refl some (rw (v, eq-eqb (byte_at s at) f.end e)))

    pub run_on : f.verdict s at st ≡ Ok tt → (byte_at s at ≡ f.end → ⊥) → run n at st ≡ run (n - 1) (at + f.size (byte_at s at)) (f.added s at st)
    run_on v e = sym (loop_again (record_turn f s) d refl some (rw (v, ne_eqb (byte_at s at) f.end e)))

-- every record has at least one byte, and one that is fine is whole
pub record Steady {S : Type 0} (f : Reader S) : Type 0 where
  pub some : (k : ℕ) → 1 ≤ f.size k
  pub whole : (s : List ℕ) (at : ℕ) (st : S) → f.verdict s at st ≡ Ok tt → at + f.size (byte_at s at) ≤ length s

module _ {S : Type 0} (f : Reader S) (w : Steady f) (s : List ℕ) (d c : Out S) where
  -- two readings from one place, each with turns enough, are one
  limits_agree : (n m at : ℕ) (st : S) → length s < n + at → length s < m + at → at ≤ length s → run f s d n at st ≡ run f s c m at st
  limits_agree zero m at st h k l = absurd (omega arith)
  limits_agree (suc n) zero at st h k l = absurd (omega arith)
  limits_agree (suc n) (suc m) at st h k l =
      by_verdict (f.verdict s at st)
      (λ v. split (eqb (byte_at s at) f.end)
      (λ e. run_end f s d (suc n) at st (omega arith) v (eqb-true _ _ e) ∙ sym (run_end f s c (suc m) at st (omega arith) v (eqb-true _ _ e)))
      (λ e. let p : suc n - 1 ≡ n = omega arith in
      let q : suc m - 1 ≡ m = omega arith in
      let o : 1 ≤ f.size (byte_at s at) = w.some (byte_at s at) in
      rw (run_on f s d (suc n) at st (omega arith) v (eqb-false _ _ e), run_on f s c (suc m) at st (omega arith) v (eqb-false _ _ e), p, q)
      (limits_agree n m (at + f.size (byte_at s at)) (f.added s at st) (omega arith) (omega arith) (w.whole s at st v))))
      (λ r v. run_refused f s d (suc n) at st (omega arith) r v ∙ sym (run_refused f s c (suc m) at st (omega arith) r v))

-- the limit of turns never ends the reading: with any more turns, and whatever stands for too few, it gives the same
pub limit_idle : {S : Type 0} (f : Reader S) → Steady f → f.start.at ≡ 0 → (s : List ℕ) (d : Out S) (n : ℕ) → length s < n
    → run f s d n 0 f.start.st ≡ read f s
limit_idle f w z s d n h = limits_agree f w s d (refused CutShort (length s)) n (length s + 1) 0 f.start.st (omega arith) (omega arith) (omega arith) ∙ rw z refl

-- a reading that gives what it gives of the whole, from its first place to the next and to its end
pub begins : {S : Type 0} (f : Reader S) → f.start.at ≡ 0 → (s : List ℕ) (st : S) → st ≡ f.start.st → Onward f s 0 st
begins f z s st e = record { inside = omega arith; fuel = length s + 1; enough = omega arith; same = rw (e, ← z) refl }

module _ {S : Type 0} (f : Reader S) (s : List ℕ) (at : ℕ) (st : S) (g : Onward f s at st) (v : f.verdict s at st ≡ Ok tt) where
  pub ends : byte_at s at ≡ f.end → f.finish s at st ≡ read f s
  ends e = sym (run_end f s (refused CutShort (length s)) g.fuel at st (omega (arith, g.inside, g.enough)) v e) ∙ g.same

  pub goes : Steady f → (byte_at s at ≡ f.end → ⊥) → Onward f s (at + f.size (byte_at s at)) (f.added s at st)
  goes w n = record {
    inside = w.whole s at st v;
    fuel = g.fuel - 1;
    enough = omega (arith, w.some (byte_at s at), g.inside, g.enough);
    same = sym (run_on f s (refused CutShort (length s)) g.fuel at st (omega (arith, g.inside, g.enough)) v n) ∙ g.same;
  }

-- where the reading goes on to a file's end, the record here is fine
pub record Accepted {S : Type 0} (f : Reader S) (s : List ℕ) (d : Out S) (n at : ℕ) (st fin : S) (e : ℕ) : Type 0 where
  pub passes : f.verdict s at st ≡ Ok tt
  pub ended : byte_at s at ≡ f.end → f.finish s at st ≡ loaded fin e
  pub goes : (byte_at s at ≡ f.end → ⊥) → run f s d n (at + f.size (byte_at s at)) (f.added s at st) ≡ loaded fin e

pub accepted : {S : Type 0} (f : Reader S) (s : List ℕ) (d : Out S) (n at : ℕ) (st fin : S) (e : ℕ) → run f s d (suc n) at st ≡ loaded fin e
    → Accepted f s d n at st fin e
accepted f s d n at st fin e h =
    by_verdict (f.verdict s at st)
    (λ v. record {
      passes = v;
      ended = λ k. sym (run_end f s d (suc n) at st (omega arith) v k) ∙ h;
      goes = λ k. let q : suc n - 1 ≡ n = omega arith in rw q at (sym (run_on f s d (suc n) at st (omega arith) v k) ∙ h);
    })
    (λ r v. not_loaded r at e fin (sym (run_refused f s d (suc n) at st (omega arith) r v) ∙ h))

pub no_turns : {P S : Type 0} (f : Reader S) (s : List ℕ) (at : ℕ) (st fin : S) (r : Refusal) (place e : ℕ) → run f s (refused r place) 0 at st ≡ loaded fin e → P
no_turns f s at st fin r place e h = not_loaded r place e fin (sym (no_turn f s (refused r place) at st) ∙ h)

-- of a file that is read: what P keeps from record to record, where the rest of the reading goes on to the file's end, gives Q at its End
module _ {S Q : Type 0} (f : Reader S) (s : List ℕ) (fin : S) (e : ℕ) (P : ℕ → S → Type 0)
    (keep : (n at : ℕ) (st : S) → P at st → f.verdict s at st ≡ Ok tt → (byte_at s at ≡ f.end → ⊥)
    → run f s (refused CutShort (length s)) n (at + f.size (byte_at s at)) (f.added s at st) ≡ loaded fin e → P (at + f.size (byte_at s at)) (f.added s at st))
    (close : (at : ℕ) (st : S) → P at st → f.verdict s at st ≡ Ok tt → byte_at s at ≡ f.end → f.finish s at st ≡ loaded fin e → Q) where
  keeps : (n at : ℕ) (st : S) → run f s (refused CutShort (length s)) n at st ≡ loaded fin e → P at st → Q
  keeps zero at st h p = no_turns f s at st fin CutShort (length s) e h
  keeps (suc n) at st h p =
      let a = accepted f s (refused CutShort (length s)) n at st fin e h in
      split (eqb (byte_at s at) f.end)
      (λ b. let k = eqb-true (byte_at s at) f.end b in close at st p a.passes k (a.ended k))
      (λ b. let k : byte_at s at ≡ f.end → ⊥ = eqb-false (byte_at s at) f.end b in
      let g = a.goes k in
      keeps n (at + f.size (byte_at s at)) (f.added s at st) g (keep n at st p a.passes k g))

  pub read_keeps : read f s ≡ loaded fin e → P f.start.at f.start.st → Q
  read_keeps h p = keeps (length s + 1) f.start.at f.start.st h p

-- two inputs in which each record that is reached says the same, where P holds of each place that is
pub record Alike {S : Type 0} (f : Reader S) (t s : List ℕ) (P : ℕ → S → Type 0) : Type 0 where
  pub kind : (at : ℕ) (st : S) → P at st → byte_at t at ≡ byte_at s at
  pub verdict : (at : ℕ) (st : S) → P at st → f.verdict t at st ≡ f.verdict s at st
  pub added : (at : ℕ) (st : S) → P at st → f.added t at st ≡ f.added s at st
  pub finish : (at : ℕ) (st : S) → P at st → f.verdict s at st ≡ Ok tt → byte_at s at ≡ f.end → f.finish t at st ≡ f.finish s at st
  pub goes : (at : ℕ) (st : S) → P at st → f.verdict s at st ≡ Ok tt → (byte_at s at ≡ f.end → ⊥) → P (at + f.size (byte_at s at)) (f.added s at st)

module _ {S : Type 0} (f : Reader S) (t s : List ℕ) (P : ℕ → S → Type 0) (a : Alike f t s P) where
  run_same : (d : Out S) (n at : ℕ) (st : S) → P at st → run f t d n at st ≡ run f s d n at st
  run_same d zero at st p = no_turn f t d at st ∙ sym (no_turn f s d at st)
  run_same d (suc n) at st p =
      let same = a.verdict at st p in
      let here = a.kind at st p in
      by_verdict (f.verdict s at st)
      (λ v. split (eqb (byte_at s at) f.end)
      (λ e. let k = eqb-true (byte_at s at) f.end e in
      run_end f t d (suc n) at st (omega arith) (same ∙ v) (here ∙ k) ∙ a.finish at st p v k ∙ sym (run_end f s d (suc n) at st (omega arith) v k))
      (λ e. let k : byte_at s at ≡ f.end → ⊥ = eqb-false (byte_at s at) f.end e in
      let q : suc n - 1 ≡ n = omega arith in
      rw (run_on f t d (suc n) at st (omega arith) (same ∙ v) (λ x. k (sym here ∙ x)), run_on f s d (suc n) at st (omega arith) v k, q, here, a.added at st p)
      (run_same d n (at + f.size (byte_at s at)) (f.added s at st) (a.goes at st p v k))))
      (λ r v. run_refused f t d (suc n) at st (omega arith) r (same ∙ v) ∙ sym (run_refused f s d (suc n) at st (omega arith) r v))

  -- are read the same
  pub read_same : Steady f → f.start.at ≡ 0 → P 0 f.start.st → read f t ≡ read f s
  read_same w z p =
      let d = refused CutShort 0 in
      let m = length t + length s + 1 in
      sym (limit_idle f w z t d m (omega arith)) ∙ run_same d m 0 f.start.st p ∙ limit_idle f w z s d m (omega arith)

-- ---- a single file
-- an input that loads as one is a file at its front, and nothing behind it
pub single : {S : Type 0} (s : List ℕ) (o : Out S) (st : S) (e : ℕ) → single_file s o ≡ loaded st e → (o ≡ loaded st e) × (length s ≤ e)
single s (loaded fin at) st e h =
    split (ltb at (length s))
    (λ b. not_loaded Overrun at e st (rw b at h))
    (λ b. let q : loaded fin at ≡ loaded st e = rw b at h in
    (q, omega (arith, ltb-false at (length s) b, (same_loaded fin st at e q).1)))
single s (refused r place) st e h = not_loaded r place e st h

-- inputs that both go on behind a file, or both end with it
pub single_same : {S : Type 0} (t s : List ℕ) (o : Out S) → ((st : S) (e : ℕ) → o ≡ loaded st e → ltb e (length t) ≡ ltb e (length s)) → single_file t o ≡ single_file s o
single_same t s (loaded st e) h = rw (h st e refl) refl
single_same t s (refused r place) h = refl
