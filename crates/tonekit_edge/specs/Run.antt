-- What a program's work does: a call is lent the bytes that were read and what it may write into.
use Rattle.std.specs.Prelude.{◌≡◌, ℕ, List}
use denote.Ref.{Bor, MutBor}
use denote.Param.Members.{Shared}

-- at a `&` to the bytes and a `&mut` to out, f may give m and leave out' there
pub record AnswersAt {F B : Type 0} (g : Shared F (Bor (List ℕ) × (MutBor B × Unit {0})) (ℕ × (MutBor B × Unit {0}))) (f : F) (bytes : List ℕ) (out : B) (m : ℕ) (out' : B) : Type 0 where
  pub shown : Bor (List ℕ)
  pub shows : shown.now ≡ bytes
  pub lent : MutBor B
  pub lends : lent.now ≡ out
  pub left : MutBor B
  pub met : g.post f (shown, (lent, tt)) (m, (left, tt))
  pub leaves : left.now ≡ out'
