-- What every Sheet keeps, for lemmas that take it as one fact. Assumes nothing.
use Rattle.std.specs.Prelude.{◌≤◌, ◌≡◌, length}
use Rattle.tonekit_sheet_read.specs.declared.Sheet.{Sheet}

-- what every Sheet keeps: the format's limits, and the length of its array
pub record WithinLimits (p : Sheet) : Type 0 where
  pub few_tones : p.tones ≤ 8
  pub few_accents : p.accents ≤ 8
  pub few_rows : p.rows ≤ 576
  pub few_lists : p.lists.count ≤ 128
  pub few_due : p.due ≤ 4
  pub few_in_all : p.total ≤ 192
  pub list_slots : length p.lists.at ≡ 128

pub within_limits : (p : Sheet) → WithinLimits p
within_limits p = record {
  few_tones = p.few_tones;
  few_accents = p.few_accents;
  few_rows = p.few_rows;
  few_lists = p.lists.few;
  few_due = p.few_due;
  few_in_all = p.few_in_all;
  list_slots = p.lists.slots;
}
