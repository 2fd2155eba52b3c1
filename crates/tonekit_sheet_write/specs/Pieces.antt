-- The pieces of a pack's sheet, as they are written.
use Rattle.std.specs.Prelude.{ℕ, ◌+◌, ◌*◌, ◌≤◌, ◌≡◌, List, [], ◌∷◌, ◌++◌, length, get_or}
use Rattle.std.proofs.lemmas.List.Edits.{sets}
use Rattle.tonekit_core.specs.declared.layout.TheConstants.{ACCENT_CONTOUR, TONE_REGION, TAIL_KIND}
use Rattle.tonekit_core.specs.declared.layout.TheConstants.{SHEET_LIST_KIND, SHEET_LIST_SIZE, SHEET_COMPONENT_SIZE}
use Rattle.spec_arithmetic.specs.Fields.{le16}
use Rattle.spec_lookup.specs.Lookup.{component_of}
use Rattle.spec_lookup.specs.Source.{Carried, carried, settings_at, tone_at, accent_at}
use Rattle.spec_lookup.specs.declared.Listing.{Listing}
use Rattle.spec_sheet.specs.Sheet.{settings_bytes, tail_bytes, tone_bytes, accent_bytes}
use Rattle.tonekit_sheet.specs.Parts.{list_piece, component_bytes}
use Rattle.spec_sheet.specs.Pieces.{piecewise}

-- what is lent has room for these bytes at a place
abbrev pub Lent : List ℕ → ℕ → List ℕ → Type 0
Lent bs at out = at + length bs ≤ length out

-- these bytes stand at its front, and what is behind them is as it was
abbrev pub Fronted : List ℕ → List ℕ → List ℕ → Type 0
Fronted bs before after = after ≡ sets before 0 bs

-- what is made of the settings, a tone and an accent that stand at an offset in the pack
abbrev pub settings_made : List ℕ → ℕ → List ℕ
settings_made s o = settings_bytes (settings_at s o)

abbrev pub tone_made : List ℕ → ℕ → List ℕ
tone_made s o = tone_bytes (tone_at TONE_REGION TAIL_KIND s o)

abbrev pub accent_made : List ℕ → ℕ → List ℕ
accent_made s o = accent_bytes (accent_at ACCENT_CONTOUR s o)

-- and of the tail that may follow the tone that stands there
abbrev pub tail_made : List ℕ → ℕ → List ℕ
tail_made s o = tail_bytes (tone_at TONE_REGION TAIL_KIND s o)

-- what is made of the records at these offsets, one behind the other
abbrev pub records_part : (List ℕ → ℕ → List ℕ) → List ℕ → List ℕ → List ℕ
records_part made s os = piecewise (λ i. made s (get_or os i 0)) 0 (length os)

-- the head of a listing's list, under a number
abbrev pub head_of : ℕ → Listing → List ℕ
head_of n l = (SHEET_LIST_KIND ∷ n ∷ l.name.owner ∷ l.name.form ∷ []) ++ (le16 l.name.label ++ (l.count ∷ []))

-- the most bytes that a list takes: it has at most four components
abbrev pub list_most : ℕ
list_most = SHEET_LIST_SIZE + SHEET_COMPONENT_SIZE * 4

-- component j of a listing, and all of them
abbrev pub component_piece : List ℕ → Listing → ℕ → List ℕ
component_piece s l j = component_bytes (carried (component_of s l j))

abbrev pub components_part : List ℕ → Listing → List ℕ
components_part s l = piecewise (component_piece s l) 0 l.count

-- list i of those that are planned, and all of them
abbrev pub planned_list : List (List Carried) → ℕ → List ℕ
planned_list its i = list_piece its i

abbrev pub lists_part : List (List Carried) → List ℕ
lists_part its = piecewise (planned_list its) 0 (length its)
