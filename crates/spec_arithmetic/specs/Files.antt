-- Files of records up to an End: the tests of a record in their order, the reader of such files, and an input that is one file and nothing more.
use Rattle.std.specs.Prelude.{ℕ, ◌+◌, Bool, cond, not, List, eqb, leb, ltb, length, Result, Ok, Err}
use Rattle.tonekit_core.specs.Loop.{Turn, next, stop, loop_to}
use Rattle.tonekit_core.specs.declared.Refusal.{Refusal}
use Rattle.tonekit_core.specs.declared.Refusal.TheVariants.{Misplaced, CutShort, Overrun}
use Rattle.tonekit_core.specs.declared.Rejection.{Rejection}
use Rattle.spec_arithmetic.specs.Fields.{byte_at}

-- "in each 1, 2, 4, 5, 6, 7"; past the input's end a due record is missing: 2. Which kinds are due, how long each is, and the tests of its own
abbrev pub judged : (ℕ → Bool) → (ℕ → ℕ) → (ℕ → Result Unit Refusal) → List ℕ → ℕ → Result Unit Refusal
judged due size tests s o =
    cond (leb (length s) o) (Err CutShort)
    (cond (not (due (byte_at s o))) (Err Misplaced)
    (cond (ltb (length s) (o + size (byte_at s o))) (Err CutShort)
    (tests (byte_at s o))))

-- what was read of a file, and where it ends; or the refusal and its place
pub data Out (S : Type 0) : Type 0 where
  loaded : S → ℕ → Out S
  refused : Refusal → ℕ → Out S

-- a place in the file: the offset of the record due, and what stood before it
pub record Here (S : Type 0) : Type 0 where
  pub at : ℕ
  pub st : S

-- a format: where its files begin; what is said of the record at an offset, its bytes by its kind, and what has been read with it;
-- the kind that ends a file, and what is said of the file with its End at an offset
pub record Reader (S : Type 0) : Type 0 where
  pub start : Here S
  pub verdict : List ℕ → ℕ → S → Result Unit Refusal
  pub size : ℕ → ℕ
  pub added : List ℕ → ℕ → S → S
  pub end : ℕ
  pub finish : List ℕ → ℕ → S → Out S

-- a record that is refused ends the reading, and so does an End; else the next record is due
abbrev pub on_verdict : {S : Type 0} → Reader S → List ℕ → Here S → Result Unit Refusal → Turn (Here S) (Out S)
on_verdict f s h (Err r) = stop (refused r h.at)
on_verdict f s h (Ok u) =
    cond (eqb (byte_at s h.at) f.end) (stop (f.finish s h.at h.st))
    (next (record { at = h.at + f.size (byte_at s h.at); st = f.added s h.at h.st }))

-- a file at the front of a longer input. A record has at least one byte, so there are no more turns than bytes, and one for what is missing
abbrev pub read : {S : Type 0} → Reader S → List ℕ → Out S
read f s = loop_to (λ h. on_verdict f s h (f.verdict s h.at h.st)) (refused CutShort (length s)) (length s + 1) f.start

-- a single file: 3 at the first byte behind it
abbrev pub single_file : {S : Type 0} → List ℕ → Out S → Out S
single_file s (loaded st e) = cond (ltb e (length s)) (refused Overrun e) (loaded st e)
single_file s (refused r place) = refused r place

-- a check of it: it loads, or its refusal and place
abbrev pub said : {S : Type 0} → Out S → Result Unit Rejection
said (loaded st e) = Ok tt
said (refused r place) = Err (record { why = r; place = place })
