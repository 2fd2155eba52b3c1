-- The components of a sheet's list, read one after the other: what each turn stores is one more of the run, and the list's name is that of its first. Assumes nothing.
use Rattle.std.proofs.Common.{ℕ, zero, suc, ◌+◌, ◌*◌, ◌≤◌, ◌<◌, ◌≡◌, refl, sym, ap, ◌∙◌, List, [], ◌∷◌, ◌++◌, map, arith, add-one, Float, length, get_or, set, ap₂, ext_get_or}
use lib.Ieee.{nan}
use lib.ListN.{get_or-append}
use Rattle.std.specs.Prelude.{Some}
use Rattle.spec_judgement.specs.declared.Slot.{Slot}
use Rattle.spec_arithmetic.specs.Fields.{byte_at, f32_at}
use Rattle.spec_judgement.specs.declared.Slots.{Slots}
use Rattle.spec_judgement.specs.Gather.{f32, named_of, put_in}
use Rattle.tonekit_inventory.specs.Fields.{slot_of}
use Rattle.tonekit_inventory.proofs.Going.{first_named}
use Rattle.tonekit_inventory.proofs.Slots.{run_none, run_more}
use Rattle.spec_sheet.specs.FromSheet.{bits_at, carried_at, carried_from}
use Rattle.spec_sheet.specs.Sheet.{absent_carried}
use Rattle.tonekit_sheet_inverse.proofs.Pieces.{carried_length}
use Rattle.tonekit_sheet_inventory.specs.Look.{name_at}

-- ---- ten points, each read at its place
point_read : (s : List ℕ) (n i o : ℕ) → i < n → get_or (map f32 (bits_at s o n)) i nan ≡ f32_at s (o + 4 * i)
unfolding bits_at
point_read s zero i o h = absurd (omega arith)
point_read s (suc n) zero o h = let e : o + 4 * 0 ≡ o = omega arith in rw e refl
point_read s (suc n) (suc i) o h = let e : o + 4 * suc i ≡ o + 4 + 4 * i = omega arith in rw e (point_read s n i (o + 4) (omega arith))

pub ten_are : (s : List ℕ) (o : ℕ) (xs : List Float) → length xs ≡ 10 → ((i : ℕ) → i < 10 → get_or xs i nan ≡ f32_at s (o + 4 * i)) → xs ≡ map f32 (bits_at s o 10)
unfolding bits_at
ten_are s o xs n each = ext_get_or nan xs (map f32 (bits_at s o 10)) n (λ i h. each i (omega (arith, n)) ∙ sym (point_read s 10 i o (omega (arith, n))))

module _ (s : List ℕ) (o : ℕ) where
  none : carried_from s o 0 ≡ []
  unfolding carried_from
  none = refl

  grows : (j : ℕ) → carried_from s o (j + 1) ≡ carried_from s o j ++ (carried_at s o j ∷ [])
  unfolding carried_from
  grows j = rw add-one

  slot_is : (j : ℕ) → record { weight = f32_at s (o + 7 + 45 * j + 1); points = map f32 (bits_at s (o + 7 + 45 * j + 5) 10) } ≡ slot_of (carried_at s o j)
  unfolding carried_at
  slot_is j = refl

  -- ---- the name
  first_is : (n : ℕ) → get_or (carried_from s o (suc n)) 0 absent_carried ≡ carried_at s o 0
  unfolding carried_from
  first_is zero = refl
  first_is (suc n) =
      get_or-append (carried_from s o (suc n)) (carried_at s o (suc n) ∷ []) absent_carried 0 (omega (arith, carried_length s o (suc n))) ∙ first_is n

  first_of : (n : ℕ) → 1 ≤ n → get_or (carried_from s o n) 0 absent_carried ≡ carried_at s o 0
  first_of zero h = absurd (omega arith)
  first_of (suc n) h = first_is n

  pub list_named : 1 ≤ byte_at s (o + 6) → named_of (carried_from s o (byte_at s (o + 6))) ≡ Some (name_at s o)
  unfolding name_at carried_at
  list_named h =
      let n = byte_at s (o + 6) in
      first_named (carried_from s o n) absent_carried (rw (carried_length s o n) h)
      ∙ rw (carried_length s o n, first_of n h)

-- ---- the slots of a tone, of a list's run of components
module _ (s : List ℕ) (o t : ℕ) (s₀ : Slots) where
  pub put_none : s₀ ≡ put_in t (carried_from s o 0) s₀
  put_none = run_none (carried_from s o) (carried_at s o) (none s o) (grows s o) t s₀

  pub put_one : (j : ℕ) (x : Float) → x ≡ f32_at s (o + 7 + 45 * j + 1) → (xs : List Float) → xs ≡ map f32 (bits_at s (o + 7 + 45 * j + 5) 10) → {out : Slots} → out ≡ put_in t (carried_from s o j) s₀
      → record { list = set out.list (4 * t + j) (record { weight = x; points = xs }) } ≡ put_in t (carried_from s o (j + 1)) s₀
  put_one j x ex xs exs {out} e =
      ap (λ (y : Slot). record { list = set out.list (4 * t + j) y }) (ap₂ (λ (w : Float) (p : List Float). record { weight = w; points = p }) ex exs ∙ slot_is s o j)
      ∙ run_more (carried_from s o) (carried_at s o) (none s o) (grows s o) t j s₀ e
