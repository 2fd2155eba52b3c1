-- A cold query's records: `cold_measured` and `cold_shaped`, as specs/Cold.antt states them. Assumes nothing.
use Rattle.std.proofs.Common.{ℕ, ◌+◌, ◌/◌, ◌%◌, ◌≤◌, ◌<◌, ◌≡◌, refl, ◌∙◌, ap, subst, Bool, true, false, cond, List, ◌++◌, eqb, eqb-true, ne_eqb, ltb, length, arith}
use borrow.Author.Tests.{eqb-false}
use Rattle.std.specs.Option.{option_map_or}
use Rattle.std.specs.Result.{result_ok}
use Rattle.std.specs.Prelude.{Result, Ok, Err}
use Rattle.tonekit_core.specs.Calls.{Outcome, refused, written}
use Rattle.tonekit_core.specs.Words.{has_issue, with_issue, measured_number}
use Rattle.tonekit_core.specs.declared.layout.TheConstants.{JUDGEMENT_MEASURED, JUDGEMENT_ISSUES, SHAPE_ISSUES}
use Rattle.tonekit_core.specs.declared.Measured.TheVariants.{Full, Partial}
use Rattle.tonekit_core.specs.declared.MeasureIssue.TheVariants.{TooShort, ColdStartRegister}
use Rattle.tonekit_core.specs.declared.Refusal.TheVariants.{Unvoiced, UnknownTone}
use Rattle.tonekit_core.specs.declared.Refusal.{Refusal}
use Rattle.tonekit_core.proofs.Calls.{Writes}
use Rattle.tonekit_core.proofs.Split.{split}
use Rattle.spec_arithmetic.specs.Fields.{byte_at, u16_at, f32s_bytes}
use Rattle.tonekit_bytes.proofs.Back.{le16_back}
use Rattle.tonekit_bytes.proofs.Stands.{Stands, stands_whole, stands_then, field16}
use Rattle.tonekit_bytes.proofs.Write.{f32s_length}
use Rattle.spec_query.specs.Query.{load_query, frames_of}
use Rattle.spec_query.specs.declared.Query.{Query}
use Rattle.tonekit_query.proofs.Laws.{Holds, load_reads, read_holds}
use Rattle.spec_shape.specs.Extract.{extent_of, list_of, shape_of}
use Rattle.spec_shape.specs.Register.{in_register}
use Rattle.spec_shape.specs.Record.{united, fit_bytes, measure_bytes, shape_bytes, shape_outcome}
use Rattle.spec_shape.specs.declared.Extent.{Extent}
use Rattle.spec_shape.specs.declared.ToneShape.{ToneShape}
use Rattle.tonekit_shape.proofs.Found.{enough_found}
use Rattle.tonekit_register.proofs.Laws.{query_sound}
use Rattle.tonekit_measured.proofs.Measured.{always_measured}
use Rattle.spec_lookup.specs.Source.{Source, source_of_pack}
use Rattle.spec_judgement.specs.Inventory.{Targets}
use Rattle.spec_judgement.specs.Judge.{judgement_of}
use Rattle.spec_judgement.specs.Record.{judgement_bytes, score_bytes, delta_bytes}
use Rattle.spec_judgement.specs.declared.Tolerance.{Tolerance}
use Rattle.spec_judgement.specs.declared.ToneJudgement.{ToneJudgement}
use Rattle.spec_judgement.specs.Gather.{Gathering, gathered}
use Rattle.spec_judgement.specs.Target.{targets_of}
use Rattle.spec_judgement.specs.Judgement.{query_verdict, unless, judge_gathered, judgement, on_pack, judge_outcome}
use Rattle.spec_arithmetic.specs.Files.{Out}
use Rattle.spec_arithmetic.specs.Files as files
use Rattle.spec_pack.specs.Pack.{PackRead, load_pack}
use Rattle.spec_sheet.specs.Reader.{load_sheet}
use Rattle.spec_sheet.specs.Reader as sheet
use Rattle.spec_sheet.specs.FromSheet.{source_of_sheet}
use Rattle.spec_sheet.specs.JudgeSheet.{on_sheet, judge_sheet_outcome}
use Rattle.tonekit_record.proofs.Parts.{head_bytes, tail_bytes, scores_length, deltas_length}
use Rattle.tonekit_judge.proofs.Bounds.{eight_logliks}
use Rattle.tonekit_station.specs.Asks.{context_of}
use Rattle.tonekit_station.proofs.Ways.{enough_voiced}
use Rattle.tonekit_demand.specs.Cold.{ColdRecord, ColdMeasured, ColdShaped}

abbrev Cold : ℕ → Type 0
Cold issues = has_issue issues ColdStartRegister ≡ true

-- ---- ColdStartRegister among issues
-- TooShort joins them and takes none away
cold_united : (issues n : ℕ) → Cold issues → Cold (united issues n)
unfolding united with_issue
cold_united issues n e =
    split (ltb n 8)
    (λ t. split (has_issue issues TooShort)
    (λ u. rw (t, u) e)
    (λ u. let k = eqb-true (issues / 16 % 2) 1 e in let o = eqb-false (issues / 8 % 2) 1 u in let m : (issues + 8) / 16 % 2 ≡ 1 = omega arith in rw (t, u, m)))
    (λ t. rw t e)

united_most : (issues n : ℕ) → united issues n ≤ issues + 8
unfolding united with_issue
united_most issues n =
    split (ltb n 8)
    (λ t. split (has_issue issues TooShort) (λ u. rw (t, u) (omega arith)) (λ u. rw (t, u) (omega arith)))
    (λ t. rw t (omega arith))

some_issue : (issues : ℕ) → Cold issues → eqb issues 0 ≡ false
some_issue issues e = ne_eqb issues 0 (λ z. let k = eqb-true (issues / 16 % 2) 1 e in absurd (omega arith))

-- ---- a judgement's last bytes, read
module _ (expected tones : ℕ) (j : ToneJudgement) (eight : length j.loglik ≡ 8) where
  ends : Stands (judgement_bytes expected tones j) JUDGEMENT_MEASURED (tail_bytes (measured_number j.measured) j.issues)
  unfolding judgement_bytes
  ends =
      let end = tail_bytes (measured_number j.measured) j.issues in
      let behind = delta_bytes j.deltas ++ end in
      stands_then (delta_bytes j.deltas) end JUDGEMENT_MEASURED (omega (arith, deltas_length j.deltas))
      (stands_then (score_bytes j) behind 50 (omega (arith, scores_length j))
      (stands_then (f32s_bytes j.loglik) (score_bytes j ++ behind) 35 (omega (arith, f32s_length j.loglik, eight))
      (stands_then (head_bytes expected tones) (f32s_bytes j.loglik ++ (score_bytes j ++ behind)) 3 refl (stands_whole _))))

  measured_read : byte_at (judgement_bytes expected tones j) JUDGEMENT_MEASURED ≡ measured_number j.measured
  measured_read = ends.byte 0 (omega arith)

  issues_read : j.issues < 65536 → u16_at (judgement_bytes expected tones j) JUDGEMENT_ISSUES ≡ j.issues
  issues_read h = field16 ends 1 (omega arith) ∙ le16_back j.issues h

-- ---- the issues of a cold query
joins : (issues : ℕ) → Cold (with_issue issues ColdStartRegister) × (with_issue issues ColdStartRegister ≤ issues + 16)
unfolding with_issue
joins issues =
    split (has_issue issues ColdStartRegister)
    (λ t. rw t (t, omega arith))
    (λ t. let k = eqb-false (issues / 16 % 2) 1 t in let m : (issues + 16) / 16 % 2 ≡ 1 = omega arith in rw (t, m) (refl, omega arith))

cold_joined : (frames : List ℕ) (q : Query) → q.cold ≡ true → Cold (in_register frames q).issues × ((in_register frames q).issues ≤ q.issues + 16)
unfolding in_register
cold_joined frames q c = rw c (joins q.issues)

-- the record of a judgement that is measured, and has ColdStartRegister among its issues
cold_record : (expected tones : ℕ) (j : ToneJudgement) (issues : ℕ) → length j.loglik ≡ 8 → (j.measured ≡ cond (eqb issues 0) Full Partial) × (j.issues ≡ issues)
    → Cold issues → issues < 65536 → ColdRecord (judgement_bytes expected tones j)
cold_record expected tones j issues eight m e h =
    let partial : j.measured ≡ Partial = m.0 ∙ rw (some_issue issues e) refl in
    record {
      measured = measured_read expected tones j eight ∙ ap measured_number partial;
      issue = rw (issues_read expected tones j eight (rw m.1 h), m.1) e;
    }

-- ---- a cold query that loads
module _ (s : List ℕ) (q : Query) (loads : load_query s ≡ Ok q) (cold : q.cold ≡ true) where
  abbrev frames : List ℕ
  frames = frames_of s q

  abbrev extent : Extent
  extent = extent_of frames q.count q.start q.end

  abbrev r : Query
  r = in_register frames q

  abbrev shape : ToneShape
  shape = shape_of frames extent r.start r.end r.floor r.ceil

  abbrev issues : ℕ
  issues = united r.issues shape.frames

  holds : Holds s q
  holds = read_holds s q (load_reads s q loads)

  joined : Cold issues × (issues < 65536)
  joined =
      let j = cold_joined frames q cold in
      (cold_united r.issues shape.frames j.0, omega (arith, united_most r.issues shape.frames, j.1, holds.issues))

  module _ (g : Gathering) where
    abbrev tones : ℕ
    tones = length g.listed.inventory.items

    abbrev judged : Tolerance → Targets → ToneJudgement
    judged t a = judgement_of shape g.settings t g.listed a issues

    -- the record, or 13 where a target is not held
    abbrev recorded : Tolerance → Outcome
    recorded t = option_map_or (λ a. written (judgement_bytes q.tone tones (judged t a))) (result_ok (targets_of g.listed.inventory s q.tone q.variants)) (refused UnknownTone 0)

    record_cold : (t : Tolerance) (a : Targets) → 3 ≤ extent.count → ColdRecord (judgement_bytes q.tone tones (judged t a))
    record_cold t a enough =
        let v = enough_found frames q.count q.start q.end holds.count enough in
        let b = query_sound s q loads cold in
        let m = always_measured frames extent r.start r.end r.floor r.ceil v.enough v.counted v.inside b.floor_in b.ceil_in b.apart g.settings t g.listed a issues in
        cold_record q.tone tones (judged t a) issues (eight_logliks shape g.settings t g.listed a issues q.tone tones) m joined.0 joined.1

    by_targets : (t : Tolerance) → 3 ≤ extent.count → (a : Result Targets Targets)
        → Writes ColdRecord (option_map_or (λ a. written (judgement_bytes q.tone tones (judged t a))) (result_ok a) (refused UnknownTone 0))
    by_targets t enough (Err before) = tt
    by_targets t enough (Ok a) = record_cold t a enough

    by_verdict : (v : Result Tolerance Refusal) → query_verdict extent.count g.tolerance g.prev g.listed.inventory s q ≡ v → Writes ColdRecord (unless v recorded)
    by_verdict (Err e) v = tt
    by_verdict (Ok t) v = by_targets t (enough_voiced _ _ _ _ _ _ _ v) (targets_of g.listed.inventory s q.tone q.variants)

    gathered_cold : Writes ColdRecord (judge_gathered g s q)
    unfolding judge_gathered
    gathered_cold = by_verdict (query_verdict extent.count g.tolerance g.prev g.listed.inventory s q) refl

  judgement_cold : (src : Source) → Writes ColdRecord (judgement src s)
  unfolding judgement
  judgement_cold src = rw loads (gathered_cold (gathered src (context_of q)))

  by_pack : (held : List ℕ) (o : Out PackRead) → Writes ColdRecord (on_pack held s o)
  by_pack held (files.refused e place) = tt
  by_pack held (files.loaded st e) = judgement_cold (source_of_pack held st)

  by_sheet : (held : List ℕ) (o : Out sheet.SheetRead) → Writes ColdRecord (on_sheet held s o)
  by_sheet held (files.refused e place) = tt
  by_sheet held (files.loaded st e) = judgement_cold (source_of_sheet held st)

  judge_cold : (held : List ℕ) → Writes ColdRecord (judge_outcome held s)
  unfolding judge_outcome
  judge_cold held = by_pack held (load_pack held)

  judge_sheet_cold : (held : List ℕ) → Writes ColdRecord (judge_sheet_outcome held s)
  unfolding judge_sheet_outcome
  judge_sheet_cold held = by_sheet held (load_sheet held)

  -- the shape record
  abbrev ColdShape : List ℕ → Type 0
  ColdShape bs = Cold (u16_at bs SHAPE_ISSUES)

  issues_of_shape : u16_at (shape_bytes r.start r.end r.issues shape) SHAPE_ISSUES ≡ issues
  unfolding shape_bytes fit_bytes measure_bytes f32s_bytes shape_of list_of
  issues_of_shape = le16_back issues joined.1

  shaped_cold : (b : Bool) → Writes ColdShape (cond b (refused Unvoiced 0) (written (shape_bytes r.start r.end r.issues shape)))
  shaped_cold true = tt
  shaped_cold false = rw issues_of_shape joined.0

  shape_cold : Writes ColdShape (shape_outcome s)
  unfolding shape_outcome
  shape_cold = rw loads (shaped_cold (ltb extent.count 3))

pub cold_measured : ColdMeasured
cold_measured held s bs q loads cold = (λ e. subst (Writes ColdRecord) e (judge_cold s q loads cold held), λ e. subst (Writes ColdRecord) e (judge_sheet_cold s q loads cold held))

pub cold_shaped : ColdShaped
cold_shaped s bs q loads cold e = subst (Writes (ColdShape s q loads cold)) e (shape_cold s q loads cold)
