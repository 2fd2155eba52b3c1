-- From what a call owes of an outcome to what a program tells of it, in a buffer in which every outcome has room. Assumes nothing.
use Rattle.std.proofs.Common.{ℕ, ◌≤◌, ◌≡◌, ◌∙◌, ap, List, ◌++◌, arith, length, drop, length-append, length-drop, le-leb}
use Rattle.std.proofs.Common.{Result, Ok}
use lib.Seq.{sets, sets-eq}
use Rattle.tonekit_core.specs.Calls.{Outcome, written, refused, answer_in, buffer_after, Delivers}
use Rattle.tonekit_core.specs.declared.layout.TheConstants.{REFUSAL_SIZE}
use Rattle.tonekit_core.proofs.Calls.{Writes}
use Rattle.tonekit_core.specs.declared.Rejection.{Rejection}
use Rattle.tonekit_report.specs.Report.{refusal_bytes, Told, told_count, told_buffer}

-- so much room is enough for what an outcome writes
abbrev pub HasRoom : ℕ → Outcome → Type 0
HasRoom room o = Writes (λ bs. length bs ≤ room) o

-- a buffer is as long as it was with bytes at its front
front_length : (bs held : List ℕ) → length bs ≤ length held → length (bs ++ drop (length bs) held) ≡ length held
front_length bs held h = omega (arith, h, length-append bs (drop (length bs) held), length-drop (length bs) held)

-- so a short buffer, 9, is never told
pub tells : (room : ℕ) (o : Outcome) (held mid out : List ℕ) (a : Result ℕ Rejection) (n : ℕ) → length held ≡ room → REFUSAL_SIZE ≤ room → HasRoom room o
    → Delivers o held a mid → n ≡ told_count a → out ≡ told_buffer mid a → Told o held n out
unfolding answer_in buffer_after
tells room (written bs) held mid out a n k h f d c b =
    let f : length bs ≤ length held = omega (arith, k, f) in
    let e : a ≡ Ok (length bs) = d.answer ∙ rw (le-leb (length bs) (length held) f) in
    let m : mid ≡ bs ++ drop (length bs) held = d.buffer ∙ rw (le-leb (length bs) (length held) f) in
    record { count = c ∙ ap told_count e; buffer = b ∙ ap (told_buffer mid) e ∙ m; same = ap length (b ∙ ap (told_buffer mid) e ∙ m) ∙ front_length bs held f }
tells room (refused r place) held mid out a n k h f d c b =
    let bs = refusal_bytes r place in
    let r : REFUSAL_SIZE ≤ length held = omega (arith, k, h) in
    let m = b ∙ ap (told_buffer mid) d.answer ∙ ap (λ (l : List ℕ). sets l 0 bs) d.buffer ∙ sets-eq bs held 0 r in
    record { count = c ∙ ap told_count d.answer; buffer = m; same = ap length m ∙ front_length bs held r }
