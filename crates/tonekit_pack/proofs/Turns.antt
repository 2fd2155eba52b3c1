-- The reader of packs: its records have bytes and are whole, so that the limit of turns never ends the reading. Assumes nothing.
use Rattle.std.proofs.Common.{ℕ, ◌<◌, ◌≡◌, refl, List, length}
use Rattle.spec_arithmetic.specs.Files.{Out}
use Rattle.tonekit_bytes.proofs.Files as files
use Rattle.tonekit_bytes.proofs.Files.{Steady, run}
use Rattle.spec_pack.specs.Pack.{PackRead, pack_reader, read_pack}
use Rattle.tonekit_pack.proofs.Records.{sound, size_pos}

pub steady : Steady pack_reader
steady = record { some = size_pos; whole = λ s at st v. (sound s at st v).whole }

pub limit_idle : (s : List ℕ) (d : Out PackRead) (n : ℕ) → length s < n → run pack_reader s d n 0 pack_reader.start.st ≡ read_pack s
unfolding read_pack
limit_idle s d n h = files.limit_idle pack_reader steady refl s d n h
