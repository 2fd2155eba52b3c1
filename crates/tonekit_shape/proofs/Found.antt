-- What an extent keeps while frames are looked at, and what one of 3 voiced frames is (`enough_found`). Assumes nothing.
use Rattle.std.proofs.Common.{ℕ, ◌+◌, ◌-◌, ap, min, leb, leb-true, leb-false, ◌≤◌, ◌<◌, ◌≡◌, refl, Bool, true, false, cond, List, arith, eqb, eqb-true}
use borrow.Author.Tests.{eqb-false}
use Rattle.spec_shape.specs.Chao.{voiced}
use Rattle.spec_shape.specs.declared.Extent.{Extent}
use Rattle.spec_shape.specs.Extract.{extent_of, frames_in}
use Rattle.tonekit_core.specs.Loop.{range, turns}
use Rattle.tonekit_core.proofs.LoopLaws.{range_keeps}
use Rattle.tonekit_core.proofs.Split.{split}
use Rattle.tonekit_shape.specs.Promises.{Voiced3, extent_turn}

-- the frames below i are looked at, of count frames
pub record Found (count i : ℕ) (e : Extent) : Type 0 where
  pub few : e.count ≤ i
  pub ordered : e.first ≤ e.last
  pub counted : e.count ≤ frames_in e
  pub inside : 0 < e.count → (e.last < i) × (e.last < count)

pub found_none : (count i : ℕ) → Found count i (record { count = 0; first = 0; last = 0 })
found_none count i = record { few = omega arith; ordered = omega arith; counted = omega arith; inside = λ h. absurd (omega arith) }

module _ (count i : ℕ) (e : Extent) (below : i < count) (F : Found count i e) where
  later : Found count (i + 1) e
  later =
      let f = F.few in
      record { few = omega arith; ordered = F.ordered; counted = F.counted; inside = λ h. let k = F.inside h in let a = k.0 in (omega arith, k.1) }

  first_one : e.count ≡ 0 → Found count (i + 1) (record { count = e.count + 1; first = i; last = i })
  first_one z = record { few = omega arith; ordered = omega arith; counted = omega arith; inside = λ h. (omega arith, below) }

  one_more : 0 < e.count → Found count (i + 1) (record { count = e.count + 1; first = e.first; last = i })
  one_more z =
      let f = F.few in
      let o = F.ordered in
      let c = F.counted in
      let k = (F.inside z).0 in
      record { few = omega arith; ordered = omega arith; counted = omega arith; inside = λ h. (omega arith, below) }

  of_first : (b : Bool) → eqb e.count 0 ≡ b → Found count (i + 1) (record { count = e.count + 1; first = cond b i e.first; last = i })
  of_first true h = first_one (eqb-true e.count 0 h)
  of_first false h = one_more (let n = eqb-false e.count 0 h in omega arith)

  of_voiced : (b : Bool) → Found count (i + 1) (cond b (record { count = e.count + 1; first = cond (eqb e.count 0) i e.first; last = i }) e)
  of_voiced true = of_first (eqb e.count 0) refl
  of_voiced false = later

  pub found_more : (frames : List ℕ) → Found count (i + 1) (extent_turn frames i e)
  found_more frames = of_voiced (voiced frames i)

-- an extent of 3 voiced frames or more, of any span of a query, has a shape
module _ (frames : List ℕ) (count start end : ℕ) where
  abbrev extent : Extent
  extent = extent_of frames count start end

  none_of : min end count ≤ start → extent ≡ record { count = 0; first = 0; last = 0 }
  unfolding extent_of range turns
  none_of h = let e : min end count - start ≡ 0 = omega arith in rw e

  found_in : start ≤ min end count → Found count (min end count) extent
  unfolding extent_of
  found_in h =
      range_keeps (extent_turn frames) (Found count) start (min end count) _ h
      (λ i e l f. found_more count i e (omega arith) f frames) (found_none count start)

  pub enough_found : count ≤ 1024 → 3 ≤ extent.count → Voiced3 extent
  enough_found most three =
      split (leb start (min end count))
      (λ t.
      let f = found_in (leb-true start (min end count) t) in
      let i = f.inside (omega arith) in
      record { enough = three; ordered = f.ordered; counted = f.counted; inside = omega (arith, i.1) })
      (λ t.
      let n = ap (λ (e : Extent). e.count) (none_of (let k = leb-false start (min end count) t in omega arith)) in
      absurd (omega (arith, three, n)))
