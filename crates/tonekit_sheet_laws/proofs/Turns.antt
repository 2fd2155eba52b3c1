-- The reader goes on from one place to the next, record by record. Assumes nothing.
use Rattle.std.proofs.Common.{ℕ, ◌+◌, ◌-◌, ◌≤◌, ◌<◌, ◌≡◌, refl, sym, ◌∙◌, subst, Bool, true, false, List, arith, length, ne_eqb, le-ltb, Ok}
use borrow.Author.Tests.{lt-leb}
use Rattle.tonekit_core.specs.Loop.{loop_stop}
use Rattle.tonekit_core.proofs.LoopLaws.{loop_again}
use Rattle.spec_arithmetic.specs.Fields.{byte_at}
use Rattle.spec_arithmetic.specs.Files.{Out}
use Rattle.tonekit_bytes.proofs.Files.{run}
use Rattle.spec_pack.specs.Pack.{in_turn}
use Rattle.spec_sheet.specs.Reader.{SheetRead, size_of, due_next, body_verdict, record_verdict, added, finished, sheet_reader}
use Rattle.tonekit_bytes.specs.Onward.{record_turn}

-- each test in turn passes
pub all_pass : (crowded fine new held : Bool) → crowded ≡ false → fine ≡ true → new ≡ true → held ≡ true → in_turn crowded fine new held ≡ Ok tt
all_pass crowded fine new held c f n h = rw (c, f, n, h)

-- the record at `at`, of kind k and so many bytes, is whole, due and fine
pub record Passes (s : List ℕ) (at : ℕ) (st : SheetRead) (k size : ℕ) : Type 0 where
  pub kind : byte_at s at ≡ k
  pub sized : size_of k ≡ size
  pub some : 1 ≤ size
  pub whole : at + size ≤ length s
  pub due : due_next st k ≡ true
  pub body : body_verdict k s at st ≡ Ok tt

pub passes_verdict : {s : List ℕ} {at : ℕ} {st : SheetRead} {k size : ℕ} → Passes s at st k size → record_verdict s at st ≡ Ok tt
unfolding record_verdict
passes_verdict {s} {at} {st} {k} {size} p =
    let w : at + size_of k ≤ length s = omega (arith, p.sized, p.whole) in
    rw (lt-leb (length s) at (omega (arith, p.some, p.whole)), p.kind, p.due, le-ltb (length s) (at + size_of k) w, p.body)

-- with turns enough, the reading from a is the reading from b, with turns enough
pub record Reach (s : List ℕ) (d : Out SheetRead) (a : ℕ) (x : SheetRead) (b : ℕ) (y : SheetRead) : Type 0 where
  pub go : (n : ℕ) → length s < n + a → (m : ℕ) × (length s < m + b) × (run sheet_reader s d n a x ≡ run sheet_reader s d m b y)

pub stay : (s : List ℕ) (d : Out SheetRead) (a : ℕ) (x : SheetRead) → Reach s d a x a x
stay s d a x = record { go = λ n h. (n, h, refl) }

pub then : {s : List ℕ} {d : Out SheetRead} {a b c : ℕ} {x y z : SheetRead} → Reach s d a x b y → Reach s d b y c z → Reach s d a x c z
then p q = record {
  go = λ n h. let u = p.go n h in
      let v = q.go u.0 u.1 in
      (v.0, v.1, u.2 ∙ v.2);
}

-- one record
pub one : (s : List ℕ) (d : Out SheetRead) (at : ℕ) (st : SheetRead) (k size : ℕ) → Passes s at st k size → (k ≡ 23 → ⊥) → Reach s d at st (at + size) (added k at (byte_at s (at + 6)) st)
one s d at st k size p ne = record {
  go = λ n h. let some : 0 < n = omega (arith, p.some, p.whole) in (
    n - 1,
    omega (arith, p.some),
    sym (loop_again (record_turn sheet_reader s) d {t = record { at = at + size; st = added k at (byte_at s (at + 6)) st }} refl some
        (rw (passes_verdict p, p.kind, ne_eqb k 23 ne, p.sized))),
  );
}

pub one_to : {s : List ℕ} (d : Out SheetRead) {at : ℕ} {st : SheetRead} {k size : ℕ} (b : ℕ) (y : SheetRead) → Passes s at st k size → (k ≡ 23 → ⊥) → at + size ≡ b → added k at (byte_at s (at + 6)) st ≡ y
    → Reach s d at st b y
one_to {s} d {at} {st} {k} {size} b y p ne e f = subst (λ (c : ℕ). Reach s d at st c y) e (subst (λ (z : SheetRead). Reach s d at st (at + size) z) f (one s d at st k size p ne))

-- the end
pub over : (s : List ℕ) (d : Out SheetRead) (at : ℕ) (st : SheetRead) (n : ℕ) → Passes s at st 23 1 → length s < n + at → run sheet_reader s d n at st ≡ finished s st (at + 1)
over s d at st n p h =
    let some : 0 < n = omega (arith, p.whole) in
    sym (loop_stop (record_turn sheet_reader s) d refl some (rw (passes_verdict p, p.kind)))
