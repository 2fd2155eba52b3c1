-- A record's kind and the byte that it begins with.
use Rattle.std.specs.Prelude.{ℕ, cond, eqb, Option, Some, None, Result, Ok, Err}
use Rattle.tonekit_core.specs.declared.layout.TheConstants.{SETTINGS_KIND, TONE_KIND, TAIL_KIND, ACCENT_KIND, RULE_KIND, PART_KIND, END_KIND}
use Rattle.tonekit_core.specs.declared.Refusal.{Refusal}
use Rattle.tonekit_core.specs.declared.Refusal.TheVariants.{Misplaced}
use Rattle.tonekit_pack.specs.declared.kind.Kind.{Kind}
use Rattle.tonekit_pack.specs.declared.kind.Kind.TheVariants.{Settings, Tone, Tail, Accent, Rule, Part, End}

abbrev pub number : Kind → ℕ
number Settings = SETTINGS_KIND
number Tone = TONE_KIND
number Tail = TAIL_KIND
number Accent = ACCENT_KIND
number Rule = RULE_KIND
number Part = PART_KIND
number End = END_KIND

abbrev pub kind_of : ℕ → Result Kind Refusal
kind_of n =
    cond (eqb n SETTINGS_KIND) (Ok Settings)
    (cond (eqb n TONE_KIND) (Ok Tone)
    (cond (eqb n TAIL_KIND) (Ok Tail)
    (cond (eqb n ACCENT_KIND) (Ok Accent)
    (cond (eqb n RULE_KIND) (Ok Rule)
    (cond (eqb n PART_KIND) (Ok Part)
    (cond (eqb n END_KIND) (Ok End) (Err Misplaced)))))))

-- the last kind that was read, 0 before the first record
abbrev pub last_of : Option Kind → ℕ
last_of None = 0
last_of (Some k) = number k
