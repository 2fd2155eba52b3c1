-- The kinds of a sheet's records, by the numbers of document 01's section Sheet.
use Rattle.std.specs.Prelude.{ℕ, cond, eqb, Option, Some, None, Result, Ok, Err}
use Rattle.tonekit_core.specs.declared.layout.TheConstants.{SHEET_SETTINGS_KIND, SHEET_TONE_KIND, SHEET_TAIL_KIND, SHEET_ACCENT_KIND, SHEET_ROW_KIND}
use Rattle.tonekit_core.specs.declared.layout.TheConstants.{SHEET_LIST_KIND, SHEET_COMPONENT_KIND, SHEET_END_KIND}
use Rattle.tonekit_core.specs.declared.Refusal.{Refusal}
use Rattle.tonekit_core.specs.declared.Refusal.TheVariants.{Misplaced}
use Rattle.tonekit_sheet.specs.declared.Kind.{Kind}
use Rattle.tonekit_sheet.specs.declared.Kind.TheVariants as kind

abbrev pub number : Kind → ℕ
number kind.Settings = SHEET_SETTINGS_KIND
number kind.Tone = SHEET_TONE_KIND
number kind.Tail = SHEET_TAIL_KIND
number kind.Accent = SHEET_ACCENT_KIND
number kind.Row = SHEET_ROW_KIND
number kind.List = SHEET_LIST_KIND
number kind.Component = SHEET_COMPONENT_KIND
number kind.End = SHEET_END_KIND

-- the kind that has this number; a record that begins with another byte is misplaced
abbrev pub kind_of : ℕ → Result Kind Refusal
kind_of n =
    cond (eqb n SHEET_SETTINGS_KIND) (Ok kind.Settings)
    (cond (eqb n SHEET_TONE_KIND) (Ok kind.Tone)
    (cond (eqb n SHEET_TAIL_KIND) (Ok kind.Tail)
    (cond (eqb n SHEET_ACCENT_KIND) (Ok kind.Accent)
    (cond (eqb n SHEET_ROW_KIND) (Ok kind.Row)
    (cond (eqb n SHEET_LIST_KIND) (Ok kind.List)
    (cond (eqb n SHEET_COMPONENT_KIND) (Ok kind.Component)
    (cond (eqb n SHEET_END_KIND) (Ok kind.End) (Err Misplaced))))))))

-- the number of the last kind, 0 where there is none
abbrev pub last_of : Option Kind → ℕ
last_of None = 0
last_of (Some k) = number k

-- how far a sheet is read, by its last kind: a tail is a tone's
abbrev pub reached : ℕ → ℕ
reached last = cond (eqb last SHEET_TAIL_KIND) SHEET_TONE_KIND last
