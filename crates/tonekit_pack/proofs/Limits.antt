-- What a pack's type says of it, as one record. Assumes nothing.
use Rattle.std.specs.Prelude.{ℕ, ◌≤◌, ◌≡◌, length, get_or}
use Rattle.tonekit_pack.specs.declared.Pack.{Pack}

-- the counts keep document 01's limits, the arrays have the length of theirs, and no accent has more rules before it than there can be
pub record WithinLimits (p : Pack) : Type 0 where
  pub few_tones : p.tones.count ≤ 8
  pub few_accents : p.accents.count ≤ 8
  pub few_rules : p.rules.count ≤ 64
  pub few_parts : p.parts ≤ 4
  pub few_in_all : p.total ≤ 128
  pub tone_slots : length p.tones.at ≡ 8
  pub accent_slots : length p.accents.at ≡ 8
  pub first_slots : length p.firstrule ≡ 8
  pub rule_slots : length p.rules.at ≡ 64
  pub few_before : (i : ℕ) → get_or p.firstrule i 0 ≤ 64

pub within_limits : (p : Pack) → WithinLimits p
within_limits p = record {
  few_tones = p.tones.few;
  few_accents = p.accents.few;
  few_rules = p.rules.few;
  few_parts = p.few_parts;
  few_in_all = p.few_in_all;
  tone_slots = p.tones.slots;
  accent_slots = p.accents.slots;
  first_slots = p.first_slots;
  rule_slots = p.rules.slots;
  few_before = p.few_before;
}
