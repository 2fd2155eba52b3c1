-- What a station holds that was read from a sheet.
use Rattle.std.specs.Prelude.{ℕ, zero, suc, ◌+◌, ◌*◌, cond, List, [], ◌∷◌, ◌++◌, Option as Found, Some, None, option_map, map, eqb, length, get_or}
use Rattle.std.proofs.Math.Option.{Option, none, some}
use Rattle.tonekit_core.specs.declared.layout.TheConstants.{F32_SIZE, SHEET_TONE_REGION, SHEET_TAIL_KIND}
use Rattle.tonekit_core.specs.declared.layout.TheConstants.{SHEET_ACCENT_CONTOUR, SHEET_ROW_LIST, SHEET_ROW_FINAL_LIST}
use Rattle.tonekit_core.specs.declared.layout.TheConstants.{SHEET_LIST_SIZE, SHEET_LIST_OWNER, SHEET_LIST_FORM, SHEET_LIST_LABEL, SHEET_LIST_COUNT}
use Rattle.tonekit_core.specs.declared.layout.TheConstants.{SHEET_COMPONENT_SIZE, SHEET_COMPONENT_WEIGHT, SHEET_COMPONENT_POINTS}
use Rattle.spec_arithmetic.specs.Fields.{byte_at, u16_at, u32_at}
use Rattle.spec_arithmetic.specs.Places.{index_of}
use Rattle.spec_lookup.specs.Source.{Carried, Source, settings_at, tone_at, accent_at}
use Rattle.spec_lookup.specs.declared.Context.{Context}
use Rattle.spec_sheet.specs.Reader.{SheetRead, row_at}

-- n numbers of four bytes from an offset on
unfoldable pub bits_at : List ℕ → ℕ → ℕ → List ℕ
bits_at s o zero = []
bits_at s o (suc n) = u32_at s o ∷ bits_at s (o + F32_SIZE) n

-- component j of the list at o
unfoldable pub carried_at : List ℕ → ℕ → ℕ → Carried
carried_at s o j = record {
  owner = byte_at s (o + SHEET_LIST_OWNER);
  form = byte_at s (o + SHEET_LIST_FORM);
  label = u16_at s (o + SHEET_LIST_LABEL);
  part = cond (eqb (byte_at s (o + SHEET_LIST_FORM)) 3) j 0;
  weight = u32_at s (o + SHEET_LIST_SIZE + SHEET_COMPONENT_SIZE * j + SHEET_COMPONENT_WEIGHT);
  points = bits_at s (o + SHEET_LIST_SIZE + SHEET_COMPONENT_SIZE * j + SHEET_COMPONENT_POINTS) 10;
}

-- its first n components
unfoldable pub carried_from : List ℕ → ℕ → ℕ → List Carried
carried_from s o zero = []
carried_from s o (suc n) = carried_from s o n ++ (carried_at s o n ∷ [])

-- what a list number stands for: "0 nothing", else the list at that place, from 1
abbrev pub list_numbered : List ℕ → SheetRead → ℕ → Option (List Carried)
list_numbered s st zero = none
list_numbered s st (suc i) = let o = get_or st.lists i 0 in some (carried_from s o (byte_at s (o + SHEET_LIST_COUNT)))

-- a lookup by position: the row of an accent, a tone and what stood before it, and of its two lists the one for this place in the phrase
abbrev pub prev_found : List ℕ → SheetRead → ℕ → Found ℕ
prev_found s st n = cond (eqb n 0) (Some 0) (option_map (λ p. p + 1) (index_of s st.tones n))

abbrev pub look_placed : List ℕ → SheetRead → Context → Found ℕ → Found ℕ → Found ℕ → Option (List Carried)
look_placed s st c (Some a) (Some t) (Some p) =
    let row = row_at st ((a * length st.tones + t) * (length st.tones + 1) + p) in
    list_numbered s st (byte_at s (row + cond c.last SHEET_ROW_FINAL_LIST SHEET_ROW_LIST))
look_placed s st c None t p = none
look_placed s st c (Some a) None p = none
look_placed s st c (Some a) (Some t) None = none

unfoldable pub look_sheet : List ℕ → SheetRead → Context → Option (List Carried)
look_sheet s st c = look_placed s st c (index_of s st.accents c.accent) (index_of s st.tones c.tone) (prev_found s st c.prev)

unfoldable pub source_of_sheet : List ℕ → SheetRead → Source
source_of_sheet s st = record { settings = settings_at s 0; tones = map (tone_at SHEET_TONE_REGION SHEET_TAIL_KIND s) st.tones; accents = map (accent_at SHEET_ACCENT_CONTOUR s) st.accents; look = look_sheet s st }
