-- An input that loads as one pack is a pack at its front, and nothing behind it. Assumes nothing.
use Rattle.std.proofs.Common.{ℕ, ◌≤◌, ◌≡◌, List, length}
use Rattle.spec_arithmetic.specs.Files.{loaded}
use Rattle.tonekit_bytes.proofs.Files.{single}
use Rattle.spec_pack.specs.Pack.{PackRead, read_pack, load_pack}

pub loads_alone : (s : List ℕ) (st : PackRead) (e : ℕ) → load_pack s ≡ loaded st e → (read_pack s ≡ loaded st e) × (length s ≤ e)
unfolding load_pack
loads_alone s st e h = single s (read_pack s) st e h
