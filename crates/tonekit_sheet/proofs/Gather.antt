-- Laws by which a proof follows a loop that writes one piece for each turn. Assumes nothing.
use Rattle.std.specs.Prelude.{◌≡◌, refl, List, [], ◌++◌}
use Rattle.std.proofs.Common.{sym, ◌∙◌, ap}
use Prim.Native.Nat.{ℕ, zero, suc, ◌+◌, ◌-◌, ◌*◌, ◌<◌, ◌≤◌}
use Rattle.std.proofs.Math.Nat.{add_comm, mul-suc}
use native.Mathlib.Omega.{arith}
use Rattle.std.proofs.Math.ListN.{length, length-append}
use Rattle.std.proofs.lemmas.List.Edits.{sets}
use Rattle.std.proofs.Math.Seq.{length-sets}
use Rattle.tonekit_bytes.proofs.Write.{sets_append}
use Rattle.spec_sheet.specs.Pieces.{pieces, piecewise, Wrote}

module _ (f : ℕ → List ℕ) where
  pub gather_done : (i hi : ℕ) → hi ≤ i → piecewise f i hi ≡ []
  unfolding pieces piecewise
  gather_done i hi h = let e : hi - i ≡ 0 = omega arith in rw e

  pub gather_step : (i hi : ℕ) → i < hi → piecewise f i hi ≡ f i ++ piecewise f (i + 1) hi
  unfolding pieces piecewise
  gather_step i hi h = let e : hi - i ≡ suc (hi - (i + 1)) = omega arith in rw e

  pub gather_more : (i hi : ℕ) → i < hi → length (piecewise f i hi) ≡ length (f i) + length (piecewise f (i + 1) hi)
  gather_more i hi h = ap length (gather_step i hi h) ∙ length-append (f i) (piecewise f (i + 1) hi)

  pub gather_none : (i hi : ℕ) → hi ≤ i → length (piecewise f i hi) ≡ 0
  gather_none i hi h = ap length (gather_done i hi h)

  -- each piece has n bytes
  module _ (n : ℕ) (each : (i : ℕ) → length (f i) ≡ n) where
    pieces_length : (k i : ℕ) → length (pieces f k i) ≡ n * k
    unfolding pieces
    pieces_length zero i = omega arith
    pieces_length (suc k) i =
        length-append (f i) (pieces f k (i + 1))
        ∙ (let a : length (f i) ≡ n = each i in
        let b : length (pieces f k (i + 1)) ≡ n * k = pieces_length k (i + 1) in
        let d : n * suc k ≡ n + n * k = mul-suc n k ∙ add_comm (n * k) n in
        omega arith)

    pub gather_length : (lo hi : ℕ) → length (piecewise f lo hi) ≡ n * (hi - lo)
    unfolding piecewise
    gather_length lo hi = pieces_length (hi - lo) lo

-- two runs of bytes, one after the other
pub joined : {a b : List ℕ} {at r q : ℕ} {l m n : List ℕ} → Wrote a at l m r → Wrote b r m n q → Wrote (a ++ b) at l n q
joined {a} {b} {at} {r} {q} {l} {m} {n} v w = record {
  place = let e : length (a ++ b) ≡ length a + length b = length-append a b in omega (arith, v.place, w.place);
  same = w.same ∙ ap (λ (x : List ℕ). sets x r b) v.same ∙ sets_append l at a b r v.place;
}

-- what the loop of a writer keeps: what is left, written from o on, gives what all of bs gives, written at `at`
pub record Writing (f : ℕ → List ℕ) (hi at : ℕ) (bs before out : List ℕ) (i o : ℕ) : Type 0 where
  pub few : i ≤ hi
  pub place : o + length (piecewise f i hi) ≡ at + length bs
  pub size : length out ≡ length before
  pub same : sets out o (piecewise f i hi) ≡ sets before at bs

module _ (f : ℕ → List ℕ) where
  pub write_begun : (lo hi at : ℕ) (out : List ℕ) → lo ≤ hi → Writing f hi at (piecewise f lo hi) out out lo at
  write_begun lo hi at out h = record { few = h; place = refl; size = refl; same = refl }

  module _ {hi at : ℕ} {bs before out : List ℕ} {i o : ℕ} (w : Writing f hi at bs before out i o) where
    pub write_room : i < hi → at + length bs ≤ length before → o + length (f i) ≤ length out
    write_room h l = omega (arith, gather_more f i hi h, w.place, w.size)

    pub write_next : i < hi → {out' : List ℕ} {o' : ℕ} → Wrote (f i) o out out' o' → Writing f hi at bs before out' (i + 1) o'
    write_next h {out'} {o'} t =
        let g : piecewise f i hi ≡ f i ++ piecewise f (i + 1) hi = gather_step f i hi h in
        record {
          few = omega arith;
          place = omega (arith, gather_more f i hi h, w.place, t.place);
          size = ap length t.same ∙ length-sets out o (f i) ∙ w.size;
          same =
              ap (λ (x : List ℕ). sets x o' (piecewise f (i + 1) hi)) t.same
              ∙ sets_append out o (f i) (piecewise f (i + 1) hi) o' t.place
              ∙ ap (sets out o) (sym g)
              ∙ w.same;
        }

    pub write_ended : hi ≤ i → Wrote bs at before out o
    write_ended h =
        let g : piecewise f i hi ≡ [] = gather_done f i hi h in
        record { place = omega (arith, gather_none f i hi h, w.place); same = ap (sets out o) (sym g) ∙ w.same }

-- the room of a run of bytes is that of its parts
pub room_first : (a b : List ℕ) (at n : ℕ) → at + length (a ++ b) ≤ n → at + length a ≤ n
room_first a b at n h = omega (arith, length-append a b)

pub room_then : {a : List ℕ} (b : List ℕ) {at r : ℕ} {l m : List ℕ} → Wrote a at l m r → at + length (a ++ b) ≤ length l → r + length b ≤ length m
room_then {a} b {at} {r} {l} {m} w h = omega (arith, length-append a b, w.place, ap length w.same ∙ length-sets l at a)
