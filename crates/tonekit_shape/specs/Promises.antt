-- What the code promises of extents and lists, beside the definitions.
use Rattle.std.specs.Prelude.{ℕ, ◌+◌, ◌-◌, ◌≤◌, ◌<◌, ◌≡◌, cond, List, [], ◌∷◌, ◌++◌, eqb, length, get_or, Float}
use Rattle.std.specs.Option.{option_map_or}
use Rattle.std.specs.Float.{nan, binary32}
use Rattle.std.specs.Float.Ieee.{add}
use Rattle.tonekit_core.specs.declared.layout.TheConstants.{SHAPE_KIND}
use Rattle.spec_arithmetic.specs.Fields.{le32}
use Rattle.spec_query.specs.Frames.{frame_at}
use Rattle.spec_shape.specs.Chao.{voiced}
use Rattle.tonekit_fit.specs.Steps.{semitones_of}
use Rattle.spec_shape.specs.declared.Extent.{Extent}
use Rattle.spec_shape.specs.Extract.{extent_of, frames_in, list_of, mean_with}

-- the extent with frame i, where that is voiced
abbrev pub extent_turn : List ℕ → ℕ → Extent → Extent
extent_turn frames i e =
    cond (voiced frames i) (record { count = e.count + 1; first = cond (eqb e.count 0) i e.first; last = i }) e

-- what is found lies among the frames
pub record Extended (frames : List ℕ) (count start end : ℕ) (e : Extent) : Type 0 where
  pub is : e ≡ extent_of frames count start end
  pub ordered : e.first ≤ e.last
  pub counted : e.count ≤ frames_in e
  pub inside : 0 < e.count → e.last < count

-- an extent that has a shape: at least 3 voiced frames, in a query of at most 1,024
pub record Voiced3 (e : Extent) : Type 0 where
  pub enough : 3 ≤ e.count
  pub ordered : e.first ≤ e.last
  pub counted : e.count ≤ frames_in e
  pub inside : e.last < 1024

-- the semitones of frame j from the first on
abbrev pub semitone : List ℕ → ℕ → ℕ → Float
semitone frames first j = semitones_of (frame_at frames (first + j))

-- a sum and frame i's voiced_p, where that is voiced
abbrev pub confidence_added : List ℕ → ℕ → Float → Float
confidence_added frames i t = option_map_or (λ v. add binary32 t v.voiced_p) (frame_at frames i) t

-- where R says what each of ten places may hold, l holds what each function gives that gives the same
abbrev pub Lists : (ℕ → Float → Type 0) → List Float → Type 0
Lists R l = (f : ℕ → Float) → ((k : ℕ) (x : Float) → k < 10 → R k x → x ≡ f k) → l ≡ list_of f 10

-- the smoothed curve
abbrev pub smoothed : List Float → List Float
smoothed l = list_of (λ j. mean_with l j (get_or l (j - 1) nan)) (length l)

-- the shape record's kind and span
abbrev pub span_bytes : ℕ → ℕ → List ℕ
span_bytes start end = (SHAPE_KIND ∷ []) ++ (le32 start ++ le32 end)
