-- Parts of spec_query's definitions under names of their own, for contracts and proofs. There they are written out.
use Rattle.std.specs.Prelude.{ℕ, ◌+◌, Bool, ◌&&◌, List, eqb, Result, Ok}
use Rattle.tonekit_core.specs.Loop.{Turn, range_to}
use Rattle.tonekit_core.specs.declared.layout.TheConstants.{FRAME_VOICED, FRAME_HZ}
use Rattle.tonekit_core.specs.declared.Rejection.{Rejection}
use Rattle.spec_arithmetic.specs.Fields.{byte_at, f32_at}
use Rattle.spec_query.specs.declared.Query.{Query}
use Rattle.spec_query.specs.Query.{frame_verdict, fields_of, cold_at, frames_from, after_frame}
use Rattle.spec_query.specs.Frames.{pitch}

-- so many frames in order, behind what stands before them
abbrev pub frame_turn : List ℕ → ℕ → ℕ → Turn ℕ (Result Query Rejection)
frame_turn s i at = after_frame at (frame_verdict s at)

abbrev pub read_frames : List ℕ → ℕ → Result Query Rejection
read_frames s count = range_to (frame_turn s) (λ at. Ok (fields_of s)) 0 count (frames_from (cold_at s))

-- whether the frame at an offset is voiced
abbrev pub voiced_at : List ℕ → ℕ → Bool
voiced_at frames at = eqb (byte_at frames (at + FRAME_VOICED)) 1 && pitch (f32_at frames (at + FRAME_HZ))
