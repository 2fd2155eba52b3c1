-- What a pack says, with no word of where it says it: settings, tones with their citations, and accents, each with its parent and its rules. Document 01's
-- lookup goes by numbers here.
use Rattle.std.specs.Prelude.{ℕ, zero, suc, ◌+◌, ◌-◌, Bool, true, false, cond, not, ◌&&◌, List, [], ◌∷◌, map, eqb, ltb, length, get_or, Result, Ok, Err}
use Rattle.std.proofs.Math.Option.{Option, none, some}
use Rattle.tonekit_core.specs.declared.layout.TheConstants.{ACCENT_CONTOUR, TONE_REGION, TAIL_KIND}
use Rattle.tonekit_core.specs.declared.layout.TheConstants.{TONE_KNOT_COUNT, ACCENT_PARENT, RULE_SIZE, RULE_TONE, RULE_PREV, RULE_FINAL}
use Rattle.tonekit_core.specs.declared.Refusal.{Refusal}
use Rattle.tonekit_core.specs.declared.Refusal.TheVariants.{Loose, EndlessChain}
use Rattle.tonekit_core.specs.Loop.{fold}
use Rattle.spec_arithmetic.specs.Fields.{byte_at}
use Rattle.spec_arithmetic.specs.Places.{number_at}
use Rattle.spec_pack.specs.Pack.{PackRead, parts_from}
use Rattle.spec_lookup.specs.declared.Context.{Context}
use Rattle.spec_lookup.specs.Lookup.{final_of, meets, stated, to_rule, rule_listing, citation}
use Rattle.spec_lookup.specs.Source.{Settings, Tone, Accent, Carried, Source, components, settings_at, tone_at, accent_at}
use Rattle.tonekit_records.specs.Records.{zero_or_among}

-- what a rule asks for, and the components that it gives: its parts, under the number of the accent whose rule it is
pub record Rule : Type 0 where
  pub tone : ℕ
  pub prev : ℕ
  pub final : ℕ
  pub gives : List Carried

-- an accent with its tolerances, its parent's number, and its rules in order
pub record BookAccent : Type 0 where
  pub accent : Accent
  pub parent : ℕ
  pub rules : List Rule

-- a tone, and its citation under the number of each graded accent; none if the tone is for contexts only
pub record BookTone : Type 0 where
  pub tone : Tone
  pub cited : ℕ → Option (List Carried)

pub record Book : Type 0 where
  pub settings : Settings
  pub tones : List BookTone
  pub accents : List BookAccent

-- ---- the lookup in a book
-- the first with number n
unfoldable pub first_with : {A : Type 0} → (A → ℕ) → List A → ℕ → Option A
first_with number [] n = none
first_with number (a ∷ more) n = cond (eqb (number a) n) (some a) (first_with number more n)

abbrev pub book_accent_in : List BookAccent → ℕ → Option BookAccent
book_accent_in accents n = first_with (λ (a : BookAccent). a.accent.number) accents n

abbrev pub book_tone_in : List BookTone → ℕ → Option BookTone
book_tone_in tones n = first_with (λ (t : BookTone). t.tone.number) tones n

-- whether a rule matches, and how many conditions it states
unfoldable pub rule_matches : Context → Rule → Bool
rule_matches c r = meets r.tone c.tone && (meets r.prev c.prev && meets r.final (final_of c))

unfoldable pub conditions : Rule → ℕ
conditions r = stated r.tone + stated r.prev + stated r.final

-- "its most specific one (conditions stated), the first among equals"
abbrev pub states_more : Option Rule → Rule → Bool
states_more none r = true
states_more (some b) r = ltb (conditions b) (conditions r)

unfoldable pub better_rule : Context → Option Rule → Rule → Option Rule
unfolding rule_matches conditions
better_rule c best r = cond (rule_matches c r && states_more best r) (some r) best

unfoldable pub best_of : Context → List Rule → Option Rule
unfolding better_rule
best_of c rules = fold (better_rule c) none rules

-- "from the graded accent up its parents, the first accent with any matching rule": what its best rule gives, or what the parent's does
abbrev pub given_or : Option Rule → Option (List Carried) → Option (List Carried)
given_or none above = above
given_or (some r) above = some r.gives

abbrev pub from_parent : (BookAccent → Option (List Carried)) → Option BookAccent → Option (List Carried)
from_parent f none = none
from_parent f (some a) = f a

-- at most n accents
unfoldable pub climb : List BookAccent → Context → ℕ → BookAccent → Option (List Carried)
unfolding best_of first_with
climb accents c zero a = none
climb accents c (suc n) a = given_or (best_of c a.rules) (from_parent (climb accents c n) (book_accent_in accents a.parent))

-- "If none matches on the chain, the tone's citation; if context only, nothing."
abbrev pub or_citation : ℕ → BookTone → Option (List Carried) → Option (List Carried)
or_citation n t none = t.cited n
or_citation n t (some cs) = some cs

-- once accent and tone are found
abbrev pub look_with : List BookAccent → Context → Option BookAccent → Option BookTone → Option (List Carried)
look_with accents c none t = none
look_with accents c (some a) none = none
look_with accents c (some a) (some t) = or_citation c.accent t (climb accents c (length accents) a)

unfoldable pub look_in : Book → Context → Option (List Carried)
unfolding climb first_with
look_in b c = look_with b.accents c (book_accent_in b.accents c.accent) (book_tone_in b.tones c.tone)

-- what a station with the book holds
unfoldable pub source_of : Book → Source
unfolding look_in
source_of b = record { settings = b.settings; tones = map (λ (t : BookTone). t.tone) b.tones; accents = map (λ (a : BookAccent). a.accent) b.accents; look = look_in b }

-- ---- the tests at a pack's End
abbrev pub accent_numbers : List BookAccent → List ℕ
accent_numbers accents = map (λ (a : BookAccent). a.accent.number) accents

abbrev pub accent_parents : List BookAccent → List ℕ
accent_parents accents = map (λ (a : BookAccent). a.parent) accents

-- "A parent may now be any accent of the file": of these parents each is 0, or one of these numbers
unfoldable pub parents_among : List ℕ → List ℕ → Bool
parents_among numbers [] = true
parents_among numbers (p ∷ more) = zero_or_among numbers p && parents_among numbers more

-- "Every chain must reach an accent with no parent": a walk of at most n accents, from a up its parents, does
abbrev pub or_reaches : (BookAccent → Bool) → Option BookAccent → Bool
or_reaches on none = true
or_reaches on (some a) = on a

unfoldable pub reaches_end : List BookAccent → ℕ → BookAccent → Bool
reaches_end accents zero a = false
reaches_end accents (suc n) a = or_reaches (reaches_end accents n) (book_accent_in accents a.parent)

-- from each of these, within as many steps as there are accents
unfoldable pub all_reach_end : List BookAccent → List BookAccent → Bool
all_reach_end accents [] = true
all_reach_end accents (a ∷ more) = reaches_end accents (length accents) a && all_reach_end accents more

-- what is said at the End of a pack with these accents
unfoldable pub ending_of : List BookAccent → Result Unit Refusal
ending_of accents =
    cond (not (parents_among (accent_numbers accents) (accent_parents accents))) (Err Loose) (cond (not (all_reach_end accents accents)) (Err EndlessChain) (Ok tt))

-- ---- the book of a pack that was read
-- f i, f (i + 1), .. , k of them
unfoldable pub tabulate : {A : Type 0} → (ℕ → A) → ℕ → ℕ → List A
tabulate f zero i = []
tabulate f (suc k) i = f i ∷ tabulate f k (i + 1)

-- the tone with the tail behind it, and the rule with the parts behind it, of the records at an offset
abbrev pub book_tone_at : List ℕ → ℕ → BookTone
book_tone_at s o = record { tone = tone_at TONE_REGION TAIL_KIND s o; cited = λ n. cond (eqb (byte_at s (o + TONE_KNOT_COUNT)) 0) none (some (components s (citation n o) 1)) }

abbrev pub rule_at : List ℕ → ℕ → ℕ → Rule
rule_at s owner o = record { tone = byte_at s (o + RULE_TONE); prev = byte_at s (o + RULE_PREV); final = byte_at s (o + RULE_FINAL); gives = components s (rule_listing s owner o) (parts_from 4 s (o + RULE_SIZE)) }

-- tone i and accent i of the pack
abbrev pub pack_tone : List ℕ → PackRead → ℕ → BookTone
pack_tone s st i = book_tone_at s (get_or st.tones i 0)

abbrev pub pack_accent : List ℕ → PackRead → ℕ → BookAccent
pack_accent s st i =
    let o = get_or st.accents i 0 in
    record { accent = accent_at ACCENT_CONTOUR s o; parent = byte_at s (o + ACCENT_PARENT); rules = tabulate (λ k. rule_at s (number_at s o) (get_or st.rules k 0)) (to_rule st i - get_or st.firsts i 0) (get_or st.firsts i 0) }

unfoldable pub book_of : List ℕ → PackRead → Book
unfolding tabulate
book_of s st = record {
  settings = settings_at s 0;
  tones = tabulate (pack_tone s st) (length st.tones) 0;
  accents = tabulate (pack_accent s st) (length st.accents) 0;
}
