-- What the reader's loop keeps: from here it gives what it gives of the whole, and its place is near enough for a u16.
use Rattle.std.specs.Prelude.{ℕ, ◌+◌, ◌*◌, ◌≤◌, ◌≡◌, List, cond, eqb, length, Err}
use Rattle.tonekit_core.specs.declared.layout.TheConstants.{TONE_KIND, TAIL_KIND}
use Rattle.std.proofs.Common.{refl}
use Rattle.tonekit_core.specs.declared.Refusal.{Refusal}
use Rattle.tonekit_pack.specs.declared.Pack.{Pack}
use Rattle.spec_arithmetic.specs.Files.{judged, refused}
use Rattle.tonekit_bytes.specs.Onward as onward
use Rattle.tonekit_bytes.specs.Onward.{Onward}
use Rattle.spec_pack.specs.Pack.{PackRead, due_after, size_of, body_verdict, record_verdict, pack_reader, read_pack}
use Rattle.tonekit_pack.specs.Held.{records_of}

-- how far a pack is read, by its last kind: a tail is a tone's
abbrev pub reached : ℕ → ℕ
reached last = cond (eqb last TAIL_KIND) TONE_KIND last

-- a place is behind one settings record and the records counted, each tone with a tail; before the first accent, behind tones alone, and behind a tone
-- that may have no tail yet
pub record Near (at : ℕ) (st : PackRead) : Type 0 where
  pub first : st.last ≡ 0 → at ≡ 0
  pub early : reached st.last ≤ 2 → at ≤ 9 + 65 * length st.tones
  pub bare : st.last ≡ 2 → at ≤ 65 * length st.tones
  pub near : at ≤ 9 + 65 * length st.tones + 19 * length st.accents + 7 * length st.rules + 46 * st.total

-- from here the reader gives what it gives of the whole
pub record Going (s : List ℕ) (st : Pack) (at : ℕ) : Type 0 where
  pub near : Near at (records_of st)
  pub onward : Onward pack_reader s at (records_of st)

-- the verdict of a record is its tests in their order
pub judges : (s : List ℕ) (o : ℕ) (st : PackRead) → record_verdict s o st ≡ judged (due_after st.last) size_of (λ k. body_verdict k s o st) s o
unfolding record_verdict
judges s o st = refl

-- a record that is refused ends the reading
pub refuses : (s : List ℕ) (st : Pack) (at : ℕ) → Going s st at → (r : Refusal) → record_verdict s at (records_of st) ≡ Err r → refused r at ≡ read_pack s
unfolding read_pack
refuses s st at g r v = onward.refuses pack_reader s at (records_of st) g.onward r v
