-- A frame as document 01 has it: "Where the voiced flag is 0, hz is ignored"; "frames with non-finite or non-positive hz are unvoiced".
use Rattle.std.specs.Prelude.{ℕ, ◌+◌, ◌*◌, Bool, false, cond, ◌&&◌, List, eqb, pos, Float, Option, Some, None}
use Rattle.std.specs.Float.{inf, fin}
use Rattle.std.specs.Float.Ieee.{lt}
use Rattle.tonekit_core.specs.declared.layout.TheConstants.{FRAME_SIZE, FRAME_VOICED, FRAME_HZ, FRAME_VOICED_P}
use Rattle.spec_arithmetic.specs.Fields.{byte_at, f32_at}
use Rattle.spec_query.specs.declared.Voiced.{Voiced}

-- above 0 and finite
abbrev pub pitch : Float → Bool
pitch hz = lt (fin false 0 (pos 0)) hz && lt hz (inf false)

-- frame i of the part that holds the frames, if it is voiced: its hz and voiced_p
unfoldable pub frame_at : List ℕ → ℕ → Option Voiced
frame_at frames i =
    cond (eqb (byte_at frames (FRAME_SIZE * i + FRAME_VOICED)) 1 && pitch (f32_at frames (FRAME_SIZE * i + FRAME_HZ)))
    (Some (record { hz = f32_at frames (FRAME_SIZE * i + FRAME_HZ); voiced_p = f32_at frames (FRAME_SIZE * i + FRAME_VOICED_P) })) None
