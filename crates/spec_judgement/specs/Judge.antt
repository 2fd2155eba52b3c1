-- `judge` of score.rs: a function of settings, tones, the graded accent's tolerances and the inventory's listings.
use Rattle.std.specs.Prelude.{ℕ, ◌+◌, ◌*◌, ◌/◌, ◌%◌, Bool, cond, ◌&&◌, Option, Some, None, option_and_then, List, [], ◌++◌, eqb, length, get_or, set, replicate, take, Float}
use Rattle.std.specs.List.{list_all}
use Rattle.std.specs.Float.{nan, binary32, binary64}
use Rattle.std.specs.Float.Ieee.{neg, add, sub, mul, lt, le, of_bits}
use Rattle.std.specs.Float.Ieee.Scale.{finite}
use Rattle.tonekit_core.specs.Loop.{range}
use Rattle.tonekit_core.specs.Words.{has_issue}
use Rattle.tonekit_core.specs.declared.MeasureIssue.TheVariants.{LowSnr, TooShort}
use Rattle.tonekit_core.specs.declared.layout.TheConstants.{MIXTURE_FORM}
use Rattle.tonekit_core.specs.declared.Measured.TheVariants.{Full, Partial, NotMeasured}
use Rattle.spec_arithmetic.specs.Pick.{lesser}
use Rattle.spec_arithmetic.specs.Narrow.{narrowed}
use Rattle.spec_arithmetic.specs.Root.{root_of}
use Rattle.spec_arithmetic.specs.Log.{ln_of}
use Rattle.spec_arithmetic.specs.Exp.{exp_of}
use Rattle.spec_shape.specs.declared.ToneShape.{ToneShape}
use Rattle.spec_arithmetic.specs.Constants.{zero64, zero32}
use Rattle.spec_judgement.specs.Score.{million, empty, add_to, value_of, distance_of, no_mixing, led, mix_turn, mixture_of, mixture_log, calibrate, clamp_log, scoring_of}
use Rattle.spec_judgement.specs.Inventory.{Inventory, Targets, Listings, count_in, name_in, entry_at, slot_at, target_at}
use Rattle.spec_judgement.specs.Tail.{tail_loglik, target_tail_loglik, with_tail}
use Rattle.spec_judgement.specs.declared.Settings.{Settings}
use Rattle.spec_judgement.specs.declared.Tolerance.{Tolerance}
use Rattle.spec_judgement.specs.declared.Scoring.{Scoring}
use Rattle.spec_judgement.specs.declared.Mixture.{Mixture}
use Rattle.spec_judgement.specs.declared.Mixture.TheVariants.{Scored, Nothing}
use Rattle.spec_judgement.specs.declared.Mixing.{Mixing}
use Rattle.spec_judgement.specs.declared.Lead.{Lead}
use Rattle.spec_judgement.specs.declared.LogSumExp.{LogSumExp}
use Rattle.spec_judgement.specs.Deltas.{no_deltas, deltas_of}
use Rattle.spec_judgement.specs.declared.Deltas.{Deltas}
use Rattle.spec_judgement.specs.declared.Ranking.{Ranking}
use Rattle.tonekit_entries.specs.declared.ToneEntry.{ToneEntry}
use Rattle.spec_judgement.specs.declared.Slot.{Slot}
use Rattle.spec_judgement.specs.declared.Slots.{Slots}
use Rattle.spec_judgement.specs.declared.Component.{Component}
use Rattle.spec_judgement.specs.declared.Target.{Target}
use Rattle.spec_judgement.specs.declared.Nearest.{Nearest}
use Rattle.spec_judgement.specs.declared.ToneJudgement.{ToneJudgement}

-- component j of tone t as mixtures take it: its weight, and d² with that tone's region
abbrev pub component_at : ToneShape → Scoring → Inventory → Slots → ℕ → ℕ → Component
component_at x s i slots t j = record {
  weight = (slot_at slots (4 * t + j)).weight;
  distance = distance_of x s (entry_at i t).region (slot_at slots (4 * t + j)).points;
}

-- the mixture of tone t, which has n components; here and below c gives each component
unfoldable pub tone_mixing : Scoring → (ℕ → ℕ → Component) → ℕ → ℕ → Mixing
tone_mixing s c n t = range (λ j m. mix_turn s m (4 * t + j) (c t j).weight (c t j).distance) 0 n no_mixing

-- the calibrated log-likelihoods under every tone, each with its tail's, the unused 0
unfoldable pub loglik_at : Scoring → (ℕ → ℕ → Component) → ℕ → ℕ → Float
loglik_at s c n t = calibrate s (mixture_log (mixture_of (tone_mixing s c n t)))

unfoldable pub logliks : Scoring → Inventory → (ℕ → ℕ → Component) → ℕ → List Float
logliks s i c issues =
    let ll = λ (t : ℕ). loglik_at s c (count_in (entry_at i t).listing) t in
    range (λ t lls. set lls t (with_tail (ll t) (tail_loglik (entry_at i t) issues))) 0 (length i.items) (replicate 8 zero32)

-- background and posterior: score = ln prior + log-likelihood; the first of equal scores is the top
unfoldable pub ranked : Ranking → ℕ → Float → Ranking
ranked r t score = record {
  background = add_to r.background score;
  top = Some (led r.top (record { score = score; index = t; distance = zero64 }));
}

unfoldable pub ranking_of : Inventory → List Float → Ranking
ranking_of i ll =
    range (λ t r. ranked r t (add binary64 (ln_of (entry_at i t).prior) (get_or ll t nan))) 0 (length i.items) (record { background = empty; top = None })

-- heard: the top tone, where its posterior reaches the threshold
unfoldable pub heard_of : Inventory → Float → Ranking → Option ℕ
heard_of i threshold r =
    let posterior = λ (top : Lead). exp_of (sub binary64 top.score (value_of r.background)) in
    option_and_then (λ top. cond (le threshold (posterior top)) (Some (entry_at i top.index).number) None) r.top

-- "`expect` weighs variants in f32 and drops products not above 0"
unfoldable pub weighed : Scoring → Mixing → ℕ → Float → Float → Mixing
weighed s m slot product d2 = cond (lt zero32 product) (mix_turn s m slot product d2) m

-- the n components of one of the target's tones, after those of the tones before it
unfoldable pub part_mixing : Scoring → (ℕ → ℕ → Component) → ℕ → ℕ → Float → Mixing → Mixing
part_mixing s c n t weight m = range (λ j m. weighed s m (4 * t + j) (mul binary32 (c t j).weight weight) (c t j).distance) 0 n m

unfoldable pub target_mixing : Scoring → Inventory → (ℕ → ℕ → Component) → Targets → Mixing
target_mixing s i c g =
    let part = λ (target : Target). part_mixing s c (count_in (entry_at i target.place).listing) target.place target.weight in
    range (λ k m. part (target_at g k) m) 0 (length g.items) no_mixing

-- the target, with its tail's, against the background, both calibrated
unfoldable pub llr_of : Scoring → Mixture → Float → LogSumExp → Float
llr_of s m tail background = clamp_log (sub binary64 (with_tail (calibrate s (mixture_log m)) tail) (value_of background))

-- what is said where there is no best component, with the target's tail
unfoldable pub plain_of : Scoring → Float → Inventory → (ℕ → ℕ → Component) → Mixture → Float → ℕ → ToneJudgement
plain_of s threshold i c m tail issues =
    let ll = logliks s i c issues in
    let r = ranking_of i ll in
    record {
      loglik = ll;
      llr = llr_of s m tail r.background;
      nearest = None;
      heard = heard_of i threshold r;
      deltas = no_deltas;
      measured = cond (eqb issues 0) Full Partial;
      issues = issues;
    }

-- √d², "uncalibrated"; at most f32's greatest value, here as an f64
unfoldable pub distance_from : Float → Float
distance_from d2 = narrowed (lesser (root_of d2) (of_bits binary64 0x47ef_ffff_e000_0000))

-- deltas: "none under `LowSnr`, and only onset/offset ones under `TooShort`"
unfoldable pub advice_of : ToneShape → Scoring → Tolerance → List Float → ℕ → Deltas
advice_of x s t points issues =
    cond (has_issue issues LowSnr) no_deltas (deltas_of x points t s.widen (has_issue issues TooShort))

-- what is said of the best component of the target, which stands at a slot of that tone's entry; the part is its place in its rule, where that is a mixture
unfoldable pub nearest_at : ToneEntry → ℕ → Float → Nearest
nearest_at e slot d2 = record {
  distance = distance_from d2;
  name = name_in e.listing;
  part = cond (eqb (name_in e.listing).form MIXTURE_FORM) (slot % 4) 0;
}

-- the best component, and the deltas against it; nothing of these where there is nothing to score
unfoldable pub with_best : ToneShape → Scoring → Tolerance → Listings → ToneJudgement → Mixture → ToneJudgement
with_best x s t l j Nothing = j
with_best x s t l j (Scored ll slot d2) = record j {
  nearest = Some (nearest_at (entry_at l.inventory (slot / 4)) slot d2);
  deltas = advice_of x s t (slot_at l.slots slot).points j.issues;
}

-- a judgement of a usable shape
unfoldable pub judged_of : ToneShape → Scoring → Float → Tolerance → Listings → (ℕ → ℕ → Component) → Targets → ℕ → ToneJudgement
judged_of x s threshold t l c g issues =
    let m = mixture_of (target_mixing s l.inventory c g) in
    with_best x s t l (plain_of s threshold l.inventory c m (target_tail_loglik l.inventory g issues) issues) m

-- the first ten of a list, which a shape's have
abbrev pub ten_of : List Float → List Float
ten_of xs = take 10 (xs ++ replicate 10 nan)

-- `check_shape`: usable where every point of the contour and every weight is finite
unfoldable pub usable : ToneShape → Bool
usable x = list_all finite (ten_of x.contour) && list_all finite (ten_of x.weights)

-- a shape that is not usable: every log-likelihood −1,000,000; "not measured puts InvalidEvidence only", which is bit 6
unfoldable pub not_measured : ℕ → ToneJudgement
not_measured tones = record {
  loglik = range (λ t ll. set ll t (narrowed (neg million))) 0 tones (replicate 8 zero32);
  llr = zero32;
  nearest = None;
  heard = None;
  deltas = no_deltas;
  measured = NotMeasured;
  issues = 64;
}

unfoldable pub judgement_of : ToneShape → Settings → Tolerance → Listings → Targets → ℕ → ToneJudgement
judgement_of x settings t l g issues =
    let s = scoring_of settings.temperature t issues in
    let c = component_at x s l.inventory l.slots in
    cond (usable x) (judged_of x s settings.threshold t l c g issues) (not_measured (length l.inventory.items))
