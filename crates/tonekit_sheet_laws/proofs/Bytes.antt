-- Pieces of bytes one behind the other, where they stand in others. Assumes nothing.
use Rattle.std.proofs.Common.{ℕ, zero, suc, ◌+◌, ◌-◌, ◌*◌, ◌≤◌, ◌<◌, ◌≡◌, ap, ◌∙◌, List, [], ◌++◌, append_assoc, arith, length, length-append}
use Rattle.tonekit_bytes.proofs.Stands.{Stands, stands_first, stands_then}
use Rattle.spec_sheet.specs.Pieces.{piecewise}
use Rattle.tonekit_sheet.proofs.Gather.{gather_done, gather_step, gather_length}

-- ---- pieces
module _ (f : ℕ → List ℕ) where
  cut : (k i hi : ℕ) → i + k ≤ hi → piecewise f i hi ≡ piecewise f i (i + k) ++ piecewise f (i + k) hi
  cut zero i hi h = let e : i + 0 ≡ i = omega arith in rw (e, gather_done f i i (omega arith))
  cut (suc k) i hi h =
      let e : i + suc k ≡ i + 1 + k = omega arith in
      rw (gather_step f i hi (omega arith), e, gather_step f i (i + 1 + k) (omega arith), append_assoc)
      (ap (λ (x : List ℕ). f i ++ x) (cut k (i + 1) hi (omega arith)))

  -- piece i, with the pieces before it
  pub piece_stands : {s : List ℕ} {o : ℕ} (n i p : ℕ) → i < n → p ≡ o + length (piecewise f 0 i) → Stands s o (piecewise f 0 n) → Stands s p (f i)
  piece_stands {s} {o} n i p h e w =
      let z : 0 + i ≡ i = omega arith in
      let c : piecewise f 0 n ≡ piecewise f 0 i ++ (f i ++ piecewise f (i + 1) n) =
      rw z at (cut i 0 n (omega arith)) ∙ ap (λ (x : List ℕ). piecewise f 0 i ++ x) (gather_step f i n h) in
      stands_first (f i) (piecewise f (i + 1) n) (stands_then (piecewise f 0 i) (f i ++ piecewise f (i + 1) n) p e (rw c at w))

  -- where each has m bytes
  pub even_stands : {s : List ℕ} {o : ℕ} (m n i : ℕ) → ((j : ℕ) → length (f j) ≡ m) → i < n → Stands s o (piecewise f 0 n) → Stands s (o + m * i) (f i)
  even_stands {s} {o} m n i l h w =
      let z : i - 0 ≡ i = omega arith in
      let g : length (piecewise f 0 i) ≡ m * i = rw z at (gather_length f m l 0 i) in
      piece_stands n i (o + m * i) h (rw g) w

  pub gather_next : (i : ℕ) → length (piecewise f 0 (i + 1)) ≡ length (piecewise f 0 i) + length (f i)
  gather_next i =
      let z : 0 + i ≡ i = omega arith in
      rw (rw z at (cut i 0 (i + 1) (omega arith)), gather_step f i (i + 1) (omega arith), gather_done f (i + 1) (i + 1) (omega arith))
      (length-append (piecewise f 0 i) (f i ++ []) ∙ (let y : length (f i ++ []) ≡ length (f i) + 0 = length-append (f i) [] in omega arith))

-- two runs of pieces are the same where each piece is
pub gather_same : (f g : ℕ → List ℕ) (n : ℕ) → ((i : ℕ) → i < n → f i ≡ g i) → piecewise f 0 n ≡ piecewise g 0 n
gather_same f g n h = go n 0 (omega arith)
  where
    go : (k i : ℕ) → i + k ≡ n → piecewise f i n ≡ piecewise g i n
    go zero i e = rw (gather_done f i n (omega arith), gather_done g i n (omega arith))
    go (suc k) i e = rw (gather_step f i n (omega arith), gather_step g i n (omega arith), h i (omega arith), go k (i + 1) (omega arith))
