-- What an outcome of a judgement holds where it is bytes: what holds of the record of every judgement. Assumes nothing.
use Rattle.std.specs.Prelude.{Result, Ok, Err}
use Rattle.std.specs.Option.{option_map_or}
use Rattle.std.specs.Result.{result_ok}
use Rattle.std.proofs.Common.{ℕ, List, length}
use Rattle.tonekit_core.specs.Calls.{Outcome, refused, written}
use Rattle.tonekit_core.proofs.Calls.{Writes}
use Rattle.tonekit_core.specs.declared.Refusal.{Refusal}
use Rattle.tonekit_core.specs.declared.Refusal.TheVariants.{UnknownTone}
use Rattle.tonekit_core.specs.declared.Rejection.{Rejection}
use Rattle.spec_query.specs.Query.{load_query, frames_of}
use Rattle.spec_query.specs.declared.Query.{Query}
use Rattle.spec_arithmetic.specs.Files.{Out}
use Rattle.spec_pack.specs.Pack.{PackRead, load_pack}
use Rattle.spec_arithmetic.specs.Files as files
use Rattle.spec_sheet.specs.Reader.{load_sheet}
use Rattle.spec_sheet.specs.Reader as sheet
use Rattle.spec_sheet.specs.FromSheet.{source_of_sheet}
use Rattle.spec_lookup.specs.Source.{Source, source_of_pack}
use Rattle.spec_shape.specs.Extract.{extent_of, shape_of}
use Rattle.spec_shape.specs.Register.{in_register}
use Rattle.spec_shape.specs.Record.{united}
use Rattle.spec_shape.specs.declared.Extent.{Extent}
use Rattle.spec_shape.specs.declared.ToneShape.{ToneShape}
use Rattle.spec_judgement.specs.declared.Tolerance.{Tolerance}
use Rattle.spec_judgement.specs.Inventory.{Listings, Targets}
use Rattle.spec_judgement.specs.Judge.{judgement_of}
use Rattle.spec_judgement.specs.Record.{judgement_bytes}
use Rattle.spec_judgement.specs.declared.Settings.{Settings}
use Rattle.spec_judgement.specs.Target.{targets_of}
use Rattle.spec_judgement.specs.Gather.{Gathering, gathered}
use Rattle.spec_judgement.specs.Judgement.{query_verdict, unless, judge_gathered, on_query, judgement, on_pack, judge_outcome}
use Rattle.tonekit_station.specs.Asks.{context_of}
use Rattle.tonekit_station.specs.Held.{on_held}
use Rattle.spec_sheet.specs.JudgeSheet.{on_sheet, judge_sheet_outcome}

-- the record of every judgement, of any shape against anything
abbrev pub Records : (List ℕ → Type 0) → Type 0
Records P =
    (x : ToneShape) (settings : Settings) (t : Tolerance) (l : Listings) (g : Targets) (issues expected tones : ℕ)
    → P (judgement_bytes expected tones (judgement_of x settings t l g issues))

-- 13 where a target is not held, or the record
abbrev recorded : Gathering → Tolerance → Query → List ℕ → Extent → Result Targets Targets → Outcome
recorded g t q frames e o =
    let r = in_register frames q in
    let x = shape_of frames e r.start r.end r.floor r.ceil in
    option_map_or
    (λ a. written (judgement_bytes q.tone (length g.listed.inventory.items) (judgement_of x g.settings t g.listed a (united r.issues x.frames))))
    (result_ok o) (refused UnknownTone 0)

module _ (P : List ℕ → Type 0) (records : Records P) where
  recorded_writes : (g : Gathering) (q : Query) (frames : List ℕ) (e : Extent) (t : Tolerance) (a : Result Targets Targets) → Writes P (recorded g t q frames e a)
  recorded_writes g q frames e t (Err before) = tt
  recorded_writes g q frames e t (Ok a) =
      let r = in_register frames q in
      let x = shape_of frames e r.start r.end r.floor r.ceil in
      records x g.settings t g.listed a (united r.issues x.frames) q.tone (length g.listed.inventory.items)

  unless_writes : (v : Result Tolerance Refusal) (o : Tolerance → Outcome) → ((t : Tolerance) → Writes P (o t)) → Writes P (unless v o)
  unless_writes (Err r) o h = tt
  unless_writes (Ok t) o h = h t

  query_writes : (src : Source) (s : List ℕ) (q : Result Query Rejection) → Writes P (on_query src s q)
  unfolding judge_gathered
  query_writes src s (Err r) = tt
  query_writes src s (Ok q) =
      let g = gathered src (context_of q) in
      let frames = frames_of s q in
      let e = extent_of frames q.count q.start q.end in
      let i = g.listed.inventory in
      unless_writes (query_verdict e.count g.tolerance g.prev i s q) _
      (λ t. recorded_writes g q frames e t (targets_of i s q.tone q.variants))

  judgement_writes : (src : Source) (s : List ℕ) → Writes P (judgement src s)
  unfolding judgement
  judgement_writes src s = query_writes src s (load_query s)

  pub held_writes : (r : Result Source Rejection) (s : List ℕ) → Writes P (on_held r s)
  held_writes (Err e) s = tt
  held_writes (Ok src) s = judgement_writes src s

  pack_writes : (p s : List ℕ) (o : Out PackRead) → Writes P (on_pack p s o)
  pack_writes p s (files.refused r place) = tt
  pack_writes p s (files.loaded st e) = judgement_writes (source_of_pack p st) s

  sheet_writes : (p s : List ℕ) (o : files.Out sheet.SheetRead) → Writes P (on_sheet p s o)
  sheet_writes p s (files.refused r place) = tt
  sheet_writes p s (files.loaded st e) = judgement_writes (source_of_sheet p st) s

  pub judge_writes : (p s : List ℕ) → Writes P (judge_outcome p s)
  unfolding judge_outcome
  judge_writes p s = pack_writes p s (load_pack p)

  pub judge_sheet_writes : (p s : List ℕ) → Writes P (judge_sheet_outcome p s)
  unfolding judge_sheet_outcome
  judge_sheet_writes p s = sheet_writes p s (load_sheet p)
