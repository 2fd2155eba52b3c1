-- The mark of a list of a sheet, from its weights and points.
use Rattle.std.specs.Prelude.{ℕ, ◌+◌, ◌*◌, ◌<◌, ◌≡◌, List, get_or}
use Rattle.tonekit_core.specs.Loop.{range}
use Rattle.tonekit_core.specs.declared.layout.TheConstants.{F32_SIZE, SHEET_LIST_SIZE, SHEET_LIST_COUNT, SHEET_COMPONENT_WEIGHT}
use Rattle.spec_arithmetic.specs.Fields.{byte_at, u32_at}
use Rattle.tonekit_sheet.specs.Marks.{mixed}

-- the weight of a list's first component
abbrev pub first_weight : ℕ
first_weight = SHEET_LIST_SIZE + SHEET_COMPONENT_WEIGHT

-- eleven numbers of four bytes for each component, from its weight on
abbrev pub mark_turn : List ℕ → ℕ → ℕ → ℕ → ℕ
mark_turn s o k m = mixed m (u32_at s (o + (first_weight + F32_SIZE * k)))

unfoldable pub mark_at : List ℕ → ℕ → ℕ
mark_at s o = range (mark_turn s o) 0 (11 * byte_at s (o + SHEET_LIST_COUNT)) 0

-- these are the marks of the first n lists
abbrev pub Marked : List ℕ → List ℕ → List ℕ → ℕ → Type 0
Marked s at marks n = (i : ℕ) → i < n → get_or marks i 0 ≡ mark_at s (get_or at i 0)
