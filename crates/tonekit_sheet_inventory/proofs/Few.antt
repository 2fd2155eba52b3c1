-- A sheet that loads has at most eight tones, and each of its lists at most four components. Assumes nothing.
use Rattle.std.proofs.Common.{ℕ, ◌+◌, ◌≤◌, ◌<◌, ◌≡◌, List, arith, length, get_or, length-append}
use Rattle.std.specs.Prelude.{Ok}
use Rattle.spec_arithmetic.specs.Fields.{byte_at}
use Rattle.tonekit_pack.proofs.Each.{Each, each_snoc}
use Rattle.spec_arithmetic.specs.Files.{loaded}
use Rattle.spec_sheet.specs.Reader.{SheetRead, body_verdict, added, sheet_reader, read_sheet}
use Rattle.tonekit_sheet.proofs.Records.{Due, settings, tone, tail, accent, row, list, component, finish, sound, tone_room, list_room}
use Rattle.tonekit_sheet.proofs.Turns.{finished_is}
use Rattle.tonekit_bytes.proofs.Files.{read_keeps}

abbrev Short : List ℕ → List ℕ → ℕ → Type 0
Short s before o = byte_at s (o + 6) ≤ 4

-- of the tones and lists read so far
record Fews (s : List ℕ) (st : SheetRead) : Type 0 where
  tones : length st.tones ≤ 8
  lists : Each (Short s) st.lists

module _ (s : List ℕ) (at : ℕ) (st : SheetRead) where
  keep : {k : ℕ} (count : ℕ) → Due st k → body_verdict k s at st ≡ Ok tt → Fews s st → Fews s (added k at count st)
  unfolding added
  keep count (settings z) b p = record { tones = p.tones; lists = p.lists }
  keep count (tone l u v) b p = record { tones = simp length-append (omega (arith, tone_room s at st b)); lists = p.lists }
  keep count (tail l u) b p = record { tones = p.tones; lists = p.lists }
  keep count (accent l u v) b p = record { tones = p.tones; lists = p.lists }
  keep count (row l u m) b p = record { tones = p.tones; lists = p.lists }
  keep count (list c) b p = record { tones = p.tones; lists = each_snoc (Short s) st.lists at p.lists (list_room s at st b).count }
  keep count (component d) b p = record { tones = p.tones; lists = p.lists }
  keep count (finish c) b p = record { tones = p.tones; lists = p.lists }

module _ (s : List ℕ) (st : SheetRead) (e : ℕ) (h : read_sheet s ≡ loaded st e) where
  few : Fews s st
  unfolding read_sheet
  few =
      read_keeps sheet_reader s st e (λ at x. Fews s x)
      (λ n at x p v k g. let ok = sound s at x v in keep s at x (byte_at s (at + 6)) ok.due ok.body p)
      (λ at x p v k g. rw (← (finished_is s x (at + 1) st e g).same) p)
      h (record { tones = omega arith; lists = λ i l. absurd (omega arith) })

  pub tones_few : length st.tones ≤ 8
  tones_few = few.tones

  pub lists_few : (i : ℕ) → i < length st.lists → byte_at s (get_or st.lists i 0 + 6) ≤ 4
  lists_few = few.lists
