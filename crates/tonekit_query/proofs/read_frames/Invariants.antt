use Rattle.std.proofs.Common.{ℕ, ◌+◌, ◌*◌, ◌≡◌, Ok}
use Rattle.tonekit_core.specs.Loop.{range_to}
use Rattle.spec_query.specs.Query.{fields_of, cold_at, frames_from}
use Rattle.tonekit_query.specs.Parts.{frame_turn, read_frames}
use Rattle.tonekit_query.proofs.read_frames.Given as goal

abbrev pub invariant-loop : goal.invariant-loop
invariant-loop l =
    (l.at ≡ frames_from (cold_at l.query) + 10 * l.counter)
    × (range_to (frame_turn l.query) (λ (a : ℕ). Ok (fields_of l.query)) l.counter l.count l.at ≡ read_frames l.query l.count)
