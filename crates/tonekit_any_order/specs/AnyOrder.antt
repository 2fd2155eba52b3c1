-- "A pack whose accents, each with its rules, are written in any other order gives the same sheet": what is proved of such packs, over their bytes.
use Rattle.std.specs.Prelude.{ℕ, ◌≡◌, ◌⊎◌, List, length}
use Rattle.tonekit_core.specs.Calls.{answer_in, buffer_after}
use Rattle.tonekit_core.specs.declared.Refusal.{Refusal}
use Rattle.tonekit_core.specs.declared.Refusal.TheVariants.{Loose, EndlessChain}
use Rattle.spec_arithmetic.specs.Files.{Out, loaded, refused}
use Rattle.spec_pack.specs.Pack.{PackRead, read_pack}
use Rattle.spec_lookup.specs.declared.Context.{Context}
use Rattle.spec_lookup.specs.Source.{source_of_pack}
use Rattle.spec_sheet.specs.Sheet.{sheet}
use Rattle.spec_sheet.specs.Outcome.{sheet_outcome}
use Rattle.tonekit_any_order.specs.Layout.{Layout, IsLayout, layout_bytes, end_offset, InOtherOrder}

-- every pack that loads is written so: it has its settings, tones, accents with their rules, and End
abbrev pub EveryPack : Type 0
EveryPack = (s : List ℕ) (st : PackRead) (e : ℕ) → read_pack s ≡ loaded st e → (p : Layout) × IsLayout p × (s ≡ layout_bytes p)

-- of two such packs each is the other in another order, so all that follows goes both ways
abbrev pub OtherWay : Type 0
OtherWay = (s t : List ℕ) → InOtherOrder s t → InOtherOrder t s

-- if one loads, so does the other; as it stands in a longer input, and as a whole input
abbrev pub LoadsAlike : (List ℕ → Out PackRead) → Type 0
LoadsAlike reads = (s t : List ℕ) → InOtherOrder s t → (st : PackRead) (e : ℕ) → reads s ≡ loaded st e → (fin : PackRead) × (reads t ≡ loaded fin e)

-- they have the same sheet, and every lookup gives the same
abbrev pub SameSheet : Type 0
SameSheet =
    (s t : List ℕ) → InOtherOrder s t → (st fin : PackRead) (d e : ℕ) → read_pack s ≡ loaded st d → read_pack t ≡ loaded fin e
    → sheet (source_of_pack s st) ≡ sheet (source_of_pack t fin)

abbrev pub SameLookups : Type 0
SameLookups =
    (s t : List ℕ) → InOtherOrder s t → (st fin : PackRead) (d e : ℕ) → read_pack s ≡ loaded st d → read_pack t ≡ loaded fin e
    → (c : Context) → (source_of_pack s st).look c ≡ (source_of_pack t fin).look c

-- the two refusals that the tests at End give, of parents and of chains
abbrev pub OfParents : Refusal → Type 0
OfParents r = (r ≡ Loose) ⊎ (r ≡ EndlessChain)

-- a pack that is turned back with one of them at its End is turned back with it there in any order
abbrev pub RefusedAlike : (List ℕ → Out PackRead) → Type 0
RefusedAlike reads =
    (s t : List ℕ) (x : InOtherOrder s t) (r : Refusal) → OfParents r → reads s ≡ refused r (end_offset x.layout) → reads t ≡ refused r (end_offset x.layout)

-- so what is made of them is the same, byte for byte, where the first is a pack, or is turned back so
pub data ComesToEnd (p : Layout) (o : Out PackRead) : Type 0 where
  loads : (st : PackRead) (e : ℕ) → o ≡ loaded st e → ComesToEnd p o
  turned_back : (r : Refusal) → OfParents r → o ≡ refused r (end_offset p) → ComesToEnd p o

abbrev pub SameOutcome : Type 0
SameOutcome = (s t : List ℕ) (x : InOtherOrder s t) → ComesToEnd x.layout (read_pack s) → sheet_outcome s ≡ sheet_outcome t

-- and whatever buffer the call that writes a sheet is lent, it answers the same and leaves the same in it
abbrev pub SameAnswer : Type 0
SameAnswer =
    (s t : List ℕ) (x : InOtherOrder s t) → ComesToEnd x.layout (read_pack s) → (held : List ℕ)
    → (answer_in (length held) (sheet_outcome s) ≡ answer_in (length held) (sheet_outcome t)) × (buffer_after held (sheet_outcome s) ≡ buffer_after held (sheet_outcome t))
