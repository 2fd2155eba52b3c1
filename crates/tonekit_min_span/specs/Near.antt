-- Where semitones may lie.
use Rattle.std.specs.Prelude.{ℕ, true, false, pos, Float}
use Rattle.std.specs.Float.{fin}
use Rattle.spec_arithmetic.specs.Bounds.{In}

-- x lies from −n to n
abbrev pub Around : ℕ → Float → Type 0
Around n x = In (fin true n (pos 0)) (fin false n (pos 0)) x

-- an end of a register that may be widened: within 8,190 semitones of 55 Hz
abbrev pub Near : Float → Type 0
Near x = Around 8190 x
