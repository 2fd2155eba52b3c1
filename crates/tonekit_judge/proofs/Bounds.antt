-- Every log-likelihood of a judgement and its llr are f32s within ±1,000,000 and no NaN; so are they as its record's 64 bytes are read:
-- for every input. Assumes nothing.
use Rattle.std.proofs.Common.{ℕ, zero, suc, ◌+◌, ◌*◌, ◌<◌, ◌≡◌, refl, sym, subst, ◌∙◌, cond, List, [], ◌∷◌, ◌++◌, le_of_suc-le-suc, not-suc-le-zero, arith, T, length, get_or, set, replicate, length-set, Float}
use Rattle.std.specs.Float.{nan, binary32}
use Rattle.std.specs.Float.Ieee.{neg}
use lib.Ieee.{fits}
use lib.Ieee.Bits.{of_bits-fits}
use Rattle.tonekit_core.specs.Loop.{range}
use Rattle.tonekit_core.specs.Words.{measured_number}
use Rattle.tonekit_core.specs.declared.layout.TheConstants.{F32_SIZE, JUDGEMENT_SIZE, JUDGEMENT_LOGLIK, JUDGEMENT_LLR}
use Rattle.tonekit_core.proofs.LoopLaws.{range_keeps}
use Rattle.spec_arithmetic.specs.Narrow.{narrowed}
use Rattle.tonekit_float.proofs.Narrowing.{narrow_fits}
use Rattle.spec_arithmetic.specs.Fields.{f32_at, f32_bytes, f32s_bytes}
use Rattle.tonekit_bytes.proofs.Stands.{Stands, stands_whole, stands_first, stands_then, f32_back, floats_stand}
use Rattle.tonekit_bytes.proofs.Write.{f32s_length}
use Rattle.spec_shape.specs.declared.ToneShape.{ToneShape}
use Rattle.spec_arithmetic.specs.Constants.{zero32}
use Rattle.spec_judgement.specs.Score.{million, clamp_log, calibrate, scoring_of, mixture_of}
use Rattle.spec_judgement.specs.declared.Settings.{Settings}
use Rattle.spec_judgement.specs.declared.Tolerance.{Tolerance}
use Rattle.spec_judgement.specs.declared.Scoring.{Scoring}
use Rattle.spec_judgement.specs.declared.Mixture.{Mixture}
use Rattle.spec_judgement.specs.declared.Mixture.TheVariants.{Scored, Nothing}
use Rattle.tonekit_score.proofs.Bounds.{Bounded, bounded_zero, bounded_lowest, clamp_bounded, clamp_fits}
use Rattle.spec_judgement.specs.Inventory.{Inventory, Targets, Listings, entry_at}
use Rattle.spec_judgement.specs.Tail.{tail_loglik, target_tail_loglik, with_tail}
use Rattle.tonekit_tail.proofs.Bounds.{with_tail_keeps}
use Rattle.spec_judgement.specs.Judge.{component_at, loglik_at, logliks, target_mixing, llr_of, plain_of, with_best, judged_of, usable, not_measured, judgement_of}
use Rattle.tonekit_judge.specs.Terms.{count_at}
use Rattle.tonekit_judge.proofs.Turns.{loglik_turn, lowest_turn}
use Rattle.spec_judgement.specs.Record.{score_bytes, delta_bytes, judgement_bytes}
use Rattle.spec_judgement.specs.declared.Component.{Component}
use Rattle.spec_judgement.specs.declared.ToneJudgement.{ToneJudgement}
use Rattle.tonekit_judge.proofs.Cells.{by_bool}
use Rattle.tonekit_record.proofs.Parts.{head_bytes, tail_bytes, record_length}

-- ---- what holds of 0, of the lowest and of every clamped number, holds of every log-likelihood and of the llr
pub data Every (P : Float → Type 0) : List Float → Type 0 where
  none : Every P []
  more : {x : Float} {xs : List Float} → P x → Every P xs → Every P (x ∷ xs)

pub record Throughout (P : Float → Type 0) (j : ToneJudgement) : Type 0 where
  pub eight : length j.loglik ≡ 8
  pub logliks : Every P j.loglik
  pub llr : P j.llr

module _ (P : Float → Type 0) (p-zero : P zero32) (p-lowest : P (narrowed (neg million))) (p-clamp : (v : Float) → P (clamp_log v)) where
  abbrev Eight : List Float → Type 0
  Eight l = Every P l × (length l ≡ 8)

  every_set : {l : List Float} (i : ℕ) (v : Float) → P v → Every P l → Every P (set l i v)
  every_set i v b none = none
  every_set zero v b (more h e) = more b e
  every_set (suc i) v b (more h e) = more h (every_set i v b e)

  zeros : Eight (replicate 8 zero32)
  zeros =
      let z = p-zero in
      (more z (more z (more z (more z (more z (more z (more z (more z none))))))), refl)

  eight_set : (i : ℕ) (v : Float) (l : List Float) → P v → Eight l → Eight (set l i v)
  eight_set i v l b p = (every_set i v b p.0, length-set l i v ∙ p.1)

  loglik_holds : (s : Scoring) (d : ℕ → ℕ → Component) (n t : ℕ) → P (loglik_at s d n t)
  unfolding loglik_at calibrate
  loglik_holds s d n t = p-clamp _

  tailed_holds : (s : Scoring) (d : ℕ → ℕ → Component) (n t : ℕ) (tail : Float) → P (with_tail (loglik_at s d n t) tail)
  tailed_holds s d n t tail = with_tail_keeps P p-clamp (loglik_at s d n t) (loglik_holds s d n t) tail

  logliks_eight : (s : Scoring) (i : Inventory) (d : ℕ → ℕ → Component) (issues : ℕ) → Eight (logliks s i d issues)
  unfolding logliks
  logliks_eight s i d issues =
      range_keeps (loglik_turn s i d issues) (λ j ll. Eight ll) 0 (length i.items) (replicate 8 zero32) (omega arith)
      (λ t ll h p. eight_set t _ ll (tailed_holds s d (count_at i t) t (tail_loglik (entry_at i t) issues)) p) zeros

  lowest_eight : (tones : ℕ) → Eight (range lowest_turn 0 tones (replicate 8 zero32))
  lowest_eight tones =
      range_keeps lowest_turn (λ j ll. Eight ll) 0 tones (replicate 8 zero32) (omega arith)
      (λ t ll h p. eight_set t _ ll p-lowest p) zeros

  plain_holds : (s : Scoring) (threshold : Float) (i : Inventory) (d : ℕ → ℕ → Component) (m : Mixture) (tail : Float) (issues : ℕ)
      → Throughout P (plain_of s threshold i d m tail issues)
  unfolding plain_of llr_of
  plain_holds s threshold i d m tail issues =
      let p = logliks_eight s i d issues in
      record { eight = p.1; logliks = p.0; llr = p-clamp _ }

  best_holds : (x : ToneShape) (s : Scoring) (t : Tolerance) (l : Listings) (j : ToneJudgement) (m : Mixture)
      → Throughout P j → Throughout P (with_best x s t l j m)
  unfolding with_best
  best_holds x s t l j Nothing p = p
  best_holds x s t l j (Scored ll slot d2) p = record { eight = p.eight; logliks = p.logliks; llr = p.llr }

  judged_holds : (x : ToneShape) (s : Scoring) (threshold : Float) (t : Tolerance) (l : Listings) (d : ℕ → ℕ → Component) (g : Targets) (issues : ℕ)
      → Throughout P (judged_of x s threshold t l d g issues)
  unfolding judged_of
  judged_holds x s threshold t l d g issues =
      let m = mixture_of (target_mixing s l.inventory d g) in
      let tail = target_tail_loglik l.inventory g issues in
      best_holds x s t l (plain_of s threshold l.inventory d m tail issues) m
      (plain_holds s threshold l.inventory d m tail issues)

  lowest_holds : (tones : ℕ) → Throughout P (not_measured tones)
  unfolding not_measured
  lowest_holds tones = record { eight = (lowest_eight tones).1; logliks = (lowest_eight tones).0; llr = p-zero }

  pub judgement_holds : (x : ToneShape) (settings : Settings) (t : Tolerance) (l : Listings) (g : Targets) (issues : ℕ)
      → Throughout P (judgement_of x settings t l g issues)
  unfolding judgement_of
  judgement_holds x settings t l g issues =
      let s = scoring_of settings.temperature t issues in
      let d = component_at x s l.inventory l.slots in
      by_bool (λ b. Throughout P (cond b (judged_of x s settings.threshold t l d g issues) (not_measured (length l.inventory.items)))) (usable x)
      (judged_holds x s settings.threshold t l d g issues) (lowest_holds (length l.inventory.items))

-- ---- a judgement's record, read
abbrev Held32 : Float → Type 0
Held32 x = T (fits binary32 x)

-- a bounded f32 is bounded as it is read from its bytes
read_bounded : {x y : Float} → Bounded x → y ≡ x → Bounded y
read_bounded b e = subst Bounded (sym e) b

-- every one of a run of floats
pub every_at : {P : Float → Type 0} {l : List Float} → Every P l → (k : ℕ) → k < length l → P (get_or l k nan)
every_at none k h = absurd (not-suc-le-zero h)
every_at (more b e) zero h = b
every_at (more b e) (suc k) h = every_at e k (le_of_suc-le-suc h)

module _ (expected tones : ℕ) (j : ToneJudgement) (b : Throughout Bounded j) (f : Throughout Held32 j) where
  abbrev behind : List ℕ
  behind = score_bytes j ++ (delta_bytes j.deltas ++ tail_bytes (measured_number j.measured) j.issues)

  floats_there : Stands (judgement_bytes expected tones j) JUDGEMENT_LOGLIK (f32s_bytes j.loglik ++ behind)
  unfolding judgement_bytes
  floats_there = stands_then (head_bytes expected tones) (f32s_bytes j.loglik ++ behind) JUDGEMENT_LOGLIK refl (stands_whole _)

  llr_there : Stands (judgement_bytes expected tones j) JUDGEMENT_LLR (f32_bytes j.llr)
  unfolding score_bytes
  llr_there =
      stands_first (f32_bytes j.llr) _ (stands_first (score_bytes j) _
      (stands_then (f32s_bytes j.loglik) behind JUDGEMENT_LLR (omega (arith, f32s_length j.loglik, b.eight)) floats_there))

  loglik_bounded : (k : ℕ) → k < length j.loglik → Bounded (f32_at (judgement_bytes expected tones j) (JUDGEMENT_LOGLIK + F32_SIZE * k))
  loglik_bounded k l =
      read_bounded (every_at b.logliks k l)
      (f32_back _ (every_at f.logliks k l) (floats_stand j.loglik k l (stands_first (f32s_bytes j.loglik) behind floats_there)))

  llr_bounded : Bounded (f32_at (judgement_bytes expected tones j) JUDGEMENT_LLR)
  llr_bounded = read_bounded b.llr (f32_back j.llr f.llr llr_there)

-- ---- every judgement, of any shape against anything
module _ (x : ToneShape) (settings : Settings) (t : Tolerance) (l : Listings) (g : Targets) (issues expected tones : ℕ) where
  abbrev bounds : Throughout Bounded (judgement_of x settings t l g issues)
  bounds = judgement_holds Bounded bounded_zero bounded_lowest clamp_bounded x settings t l g issues

  abbrev f32s : Throughout Held32 (judgement_of x settings t l g issues)
  f32s = judgement_holds Held32 (of_bits-fits binary32 0) (narrow_fits (neg million)) clamp_fits x settings t l g issues

  abbrev bytes : List ℕ
  bytes = judgement_bytes expected tones (judgement_of x settings t l g issues)

  pub eight_logliks : length (judgement_of x settings t l g issues).loglik ≡ 8
  eight_logliks = bounds.eight

  pub judgement_length : length bytes ≡ JUDGEMENT_SIZE
  judgement_length = record_length expected tones _ bounds.eight

  pub loglik_read : (k : ℕ) → k < 8 → Bounded (f32_at bytes (JUDGEMENT_LOGLIK + F32_SIZE * k))
  loglik_read k h = loglik_bounded expected tones _ bounds f32s k (omega (arith, bounds.eight))

  pub llr_read : Bounded (f32_at bytes JUDGEMENT_LLR)
  llr_read = llr_bounded expected tones _ bounds f32s
