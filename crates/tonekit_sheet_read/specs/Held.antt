-- What the reader's struct and answer stand for.
use Rattle.std.specs.Prelude.{ℕ, ◌≤◌, ◌<◌, ◌≡◌, Result}
use Rattle.tonekit_core.specs.declared.Rejection.{Rejection}
use Rattle.tonekit_core.specs.declared.layout.TheConstants.{SETTINGS_SIZE, SHEET_TONE_KIND, SHEET_TONE_STEP, SHEET_ACCENT_KIND, SHEET_ACCENT_SIZE, SHEET_ROW_KIND}
use Rattle.tonekit_core.specs.declared.layout.TheConstants.{SHEET_LIST_KIND, SHEET_COMPONENT_KIND}
use Rattle.tonekit_core.specs.Layout.{sheet_tone_at, sheet_accent_at}
use Rattle.tonekit_bytes.specs.Places.{in_order, stepped}
use Rattle.tonekit_pack.specs.declared.Loaded.{Loaded}
use Rattle.tonekit_pack.specs.Format.{answer}
use Rattle.tonekit_sheet_read.specs.declared.Sheet.{Sheet}
use Rattle.tonekit_sheet.specs.Kinds.{last_of}
use Rattle.spec_arithmetic.specs.Files.{Out}
use Rattle.spec_sheet.specs.Reader.{SheetRead}

-- tones, each with its tail, and accents stand one behind the other, after the settings
abbrev pub records_of : Sheet → SheetRead
records_of p = record {
  last = last_of p.last;
  tones = stepped SETTINGS_SIZE SHEET_TONE_STEP p.tones;
  accents = stepped (sheet_tone_at p.tones) SHEET_ACCENT_SIZE p.accents;
  rows = p.rows;
  lists = in_order p.lists.at p.lists.count;
  due = p.due;
  total = p.total;
}

abbrev pub answered : Result (Loaded Sheet) Rejection → Out SheetRead
answered = answer records_of

-- the record of kind k at o, a list of so many components, may follow what was read: it stands where it is shown to, and there is room for it
pub record Follows (k o count : ℕ) (p : Sheet) : Type 0 where
  pub tone : k ≡ SHEET_TONE_KIND → (o ≡ sheet_tone_at p.tones) × (p.tones < 8) × (p.accents ≡ 0)
  pub accent : k ≡ SHEET_ACCENT_KIND → (o ≡ sheet_accent_at p.tones p.accents) × (p.accents < 8)
  pub row : k ≡ SHEET_ROW_KIND → p.rows < 576
  pub list : k ≡ SHEET_LIST_KIND → (o < 65536) × (p.lists.count < 128) × (count ≤ 4)
  pub component : k ≡ SHEET_COMPONENT_KIND → (1 ≤ p.due) × (p.total < 192)
