-- Document 01's section Lookup, on a pack that was read: which curves a context takes. Names follow `expect.rs`.
use Rattle.std.specs.Prelude.{ℕ, ◌+◌, ◌*◌, Bool, true, cond, ◌&&◌, ◌||◌, List, Option, Some, None, eqb, ltb, length, get_or, Float}
use Rattle.tonekit_core.specs.Loop.{Turn, next, stop, range, loop_to}
use Rattle.tonekit_core.specs.declared.layout.TheConstants.{CITATION_FORM, MIXTURE_FORM, RULE_SIZE, RULE_LABEL, RULE_TONE, RULE_PREV, RULE_FINAL, RULE_FORM}
use Rattle.tonekit_core.specs.declared.layout.TheConstants.{TONE_KNOT_COUNT, TONE_KNOTS, PART_SIZE, PART_WEIGHT, PART_KNOT_COUNT, PART_KNOTS}
use Rattle.spec_arithmetic.specs.Fields.{byte_at, u16_at, f32_at}
use Rattle.spec_arithmetic.specs.Places.{number_at, index_of}
use Rattle.spec_arithmetic.specs.Constants.{one32}
use Rattle.spec_pack.specs.Pack.{PackRead, parent_of, parts_from}
use Rattle.spec_lookup.specs.Knots.{knots_at, expanded}
use Rattle.spec_lookup.specs.declared.Winner.{Winner}
use Rattle.spec_lookup.specs.declared.Context.{Context}
use Rattle.spec_lookup.specs.declared.Listing.{Listing}
use Rattle.spec_lookup.specs.declared.Component.{Component}

-- a rule's final that asks for this phrase position: 1 is no, 2 is yes
abbrev pub final_of : Context → ℕ
final_of c = cond c.last 2 1

-- `matches`: a condition of 0 is any
unfoldable pub meets : ℕ → ℕ → Bool
meets c x = eqb c 0 || eqb c x

unfoldable pub matches : List ℕ → Context → ℕ → Bool
matches s c r = meets (byte_at s (r + RULE_TONE)) c.tone && (meets (byte_at s (r + RULE_PREV)) c.prev && meets (byte_at s (r + RULE_FINAL)) (final_of c))

-- `specificity`: "conditions stated"
abbrev pub stated : ℕ → ℕ
stated c = cond (eqb c 0) 0 1

unfoldable pub specificity : List ℕ → ℕ → ℕ
specificity s r = stated (byte_at s (r + RULE_TONE)) + stated (byte_at s (r + RULE_PREV)) + stated (byte_at s (r + RULE_FINAL))

-- "its most specific one (conditions stated), the first among equals": a later rule must state more
abbrev pub more_than : List ℕ → Option ℕ → ℕ → Bool
more_than s None r = true
more_than s (Some b) r = ltb (specificity s b) (specificity s r)

unfoldable pub better_of : List ℕ → Context → Option ℕ → ℕ → Option ℕ
better_of s c best r = cond (matches s c r && more_than s best r) (Some r) best

-- the rules of accent i: from those that stood before it to those before the next accent
abbrev pub to_rule : PackRead → ℕ → ℕ
to_rule st i = cond (ltb (i + 1) (length st.accents)) (get_or st.firsts (i + 1) 0) (length st.rules)

-- the best of them that match
unfoldable pub best_rule : List ℕ → PackRead → Context → ℕ → Option ℕ
best_rule s st c i = range (λ k best. better_of s c best (get_or st.rules k 0)) (get_or st.firsts i 0) (to_rule st i) None

-- "from the graded accent up its parents, the first accent with any matching rule gives its most specific one"
abbrev pub to_parent : Option ℕ → Turn ℕ (Option Winner)
to_parent None = stop None
to_parent (Some j) = next j

abbrev pub or_parent : List ℕ → PackRead → ℕ → Option ℕ → Turn ℕ (Option Winner)
or_parent s st i (Some r) = stop (Some (record { accent = i; rule = r }))
or_parent s st i None = to_parent (parent_of s st i)

unfoldable pub climb_turn : List ℕ → PackRead → Context → ℕ → Turn ℕ (Option Winner)
climb_turn s st c i = or_parent s st i (best_rule s st c i)

-- `find_rule`: a walk of at most as many steps as there are accents
unfoldable pub find_rule : List ℕ → PackRead → Context → ℕ → Option Winner
find_rule s st c i = loop_to (climb_turn s st c) None (length st.accents) i

-- the rule at r, under the number of the accent whose it is, with the parts that follow it
abbrev pub rule_listing : List ℕ → ℕ → ℕ → Listing
rule_listing s owner r = record {
  name = record { owner = owner; form = byte_at s (r + RULE_FORM); label = u16_at s (r + RULE_LABEL) };
  at = r + RULE_SIZE;
  count = parts_from 4 s (r + RULE_SIZE);
}

-- "A citation has form 1, the graded accent as owner, label 0": that of the tone's record at o
abbrev pub citation : ℕ → ℕ → Listing
citation owner o = record { name = record { owner = owner; form = CITATION_FORM; label = 0 }; at = o; count = 1 }

-- "If none matches on the chain, the tone's citation; if context only, nothing."
abbrev pub listed : List ℕ → PackRead → Context → ℕ → Option Winner → Option Listing
listed s st c o (Some w) = Some (rule_listing s (number_at s (get_or st.accents w.accent 0)) w.rule)
listed s st c o None = cond (eqb (byte_at s (o + TONE_KNOT_COUNT)) 0) None (Some (citation c.accent o))

-- the lookup, once accent and tone are found at their places
abbrev pub look_at : List ℕ → PackRead → Context → Option ℕ → Option ℕ → Option Listing
look_at s st c (Some i) (Some t) = listed s st c (get_or st.tones t 0) (find_rule s st c i)
look_at s st c None t = None
look_at s st c (Some i) None = None

unfoldable pub look_up : List ℕ → PackRead → Context → Option Listing
look_up s st c = look_at s st c (index_of s st.accents c.accent) (index_of s st.tones c.tone)

-- the knots of the tone's record at o, and of the part's
abbrev pub tone_knots_at : List ℕ → ℕ → List Float
tone_knots_at s o = knots_at s (o + TONE_KNOTS) (byte_at s (o + TONE_KNOT_COUNT))

abbrev pub part_knots_at : List ℕ → ℕ → List Float
part_knots_at s o = knots_at s (o + PART_KNOTS) (byte_at s (o + PART_KNOT_COUNT))

-- component j of a listing. A citation has weight 1 and its knots in the tone's record; a part has both in its own. "Part number": its place in a mixture
unfoldable pub component_of : List ℕ → Listing → ℕ → Component
component_of s l j =
    cond (eqb l.name.form CITATION_FORM) (record { name = l.name; part = 0; weight = one32; points = expanded (tone_knots_at s l.at) })
    (record {
      name = l.name;
      part = cond (eqb l.name.form MIXTURE_FORM) j 0;
      weight = f32_at s (l.at + PART_SIZE * j + PART_WEIGHT);
      points = expanded (part_knots_at s (l.at + PART_SIZE * j));
    })
