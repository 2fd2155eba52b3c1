-- What a judgement makes of a query, way by way, and that what a pack or a sheet holds is judged as their calls say. Assumes nothing.
use Rattle.std.specs.Prelude.{Option, Some, None, Result, Ok, Err}
use Rattle.std.proofs.Common.{ℕ, ◌≤◌, ◌≡◌, refl, Bool, true, false, List, length, ltb, le-ltb, ltb-false}
use Rattle.tonekit_core.specs.Calls.{refused, written}
use Rattle.tonekit_core.specs.declared.Rejection.{Rejection}
use Rattle.tonekit_core.specs.declared.Refusal.{Refusal}
use Rattle.tonekit_core.specs.declared.Refusal.TheVariants as refusal
use Rattle.spec_query.specs.Query.{load_query, frames_of}
use Rattle.spec_query.specs.declared.Query.{Query}
use Rattle.tonekit_core.proofs.Split.{split}
use Rattle.spec_pack.specs.Pack.{load_pack}
use Rattle.spec_arithmetic.specs.Files as files
use Rattle.spec_pack.specs.Pack as pack
use Rattle.spec_sheet.specs.Reader.{load_sheet}
use Rattle.spec_sheet.specs.Reader as sheet
use Rattle.spec_lookup.specs.Source.{Source}
use Rattle.spec_shape.specs.Extract.{extent_of, shape_of}
use Rattle.spec_shape.specs.Register.{in_register}
use Rattle.spec_shape.specs.Record.{united}
use Rattle.spec_shape.specs.declared.Extent.{Extent}
use Rattle.spec_shape.specs.declared.ToneShape.{ToneShape}
use Rattle.spec_judgement.specs.declared.Tolerance.{Tolerance}
use Rattle.spec_judgement.specs.Inventory.{Inventory, Targets}
use Rattle.spec_judgement.specs.Judge.{judgement_of}
use Rattle.spec_judgement.specs.Record.{judgement_bytes}
use Rattle.spec_judgement.specs.declared.ToneJudgement.{ToneJudgement}
use Rattle.spec_judgement.specs.Target.{variants_good, targets_of}
use Rattle.spec_judgement.specs.Gather.{Gathering, gathered}
use Rattle.tonekit_inventory.specs.OfPack as of-pack
use Rattle.tonekit_sheet_inventory.specs.Look as of-sheet
use Rattle.spec_judgement.specs.Judgement.{tones_verdict, query_verdict, judge_gathered, judgement, on_pack, judge_outcome}
use Rattle.tonekit_station.specs.Asks.{context_of}
use Rattle.tonekit_station.specs.Held.{on_held}
use Rattle.spec_sheet.specs.JudgeSheet.{on_sheet, judge_sheet_outcome}

-- 11 to 15 but for targets, each once those before it are passed
module _ (voiced : ℕ) (i : Inventory) (s : List ℕ) (q : Query) where
  -- what is passed has three voiced frames
  pub enough_voiced : (accent : Option Tolerance) (prev : Bool) (t : Tolerance) → query_verdict voiced accent prev i s q ≡ Ok t → 3 ≤ voiced
  unfolding query_verdict
  enough_voiced accent prev a e =
      split (ltb voiced 3)
      (λ t. let no : ◌≡◌ {A = Result Tolerance Refusal} (Err refusal.Unvoiced) (Ok a) = rw t at e in cc)
      (λ f. ltb-false voiced 3 f)

  module _ (enough : 3 ≤ voiced) (listed : tones_verdict i ≡ Ok tt) where
    pub bad_variant : (t : Tolerance) → variants_good s q.variants ≡ false → query_verdict voiced (Some t) true i s q ≡ Err refusal.BadVariant
    unfolding query_verdict
    bad_variant t f = rw (le-ltb voiced 3 enough, listed, f)

-- a query that loads, by what was gathered: refused, 13 for targets, or the record
module _ (g : Gathering) (s : List ℕ) (q : Query) (e : Extent) (is : e ≡ extent_of (frames_of s q) q.count q.start q.end) where
  pub turned_back_lem : (r : Refusal) → query_verdict e.count g.tolerance g.prev g.listed.inventory s q ≡ Err r → judge_gathered g s q ≡ refused r 0
  unfolding judge_gathered
  turned_back_lem r v = rw (← is, v)

  module _ (t : Tolerance) (fine : query_verdict e.count g.tolerance g.prev g.listed.inventory s q ≡ Ok t) (a : Result Targets Targets)
      (aims : a ≡ targets_of g.listed.inventory s q.tone q.variants) where
    pub target_loose : (before : Targets) → a ≡ Err before → judge_gathered g s q ≡ refused refusal.UnknownTone 0
    unfolding judge_gathered
    target_loose before o = rw (← is, fine, ← aims, o)

    pub target_held : (targets : Targets) → a ≡ Ok targets → (r : Query) → r ≡ in_register (frames_of s q) q
        → (x : ToneShape) → x ≡ shape_of (frames_of s q) e r.start r.end r.floor r.ceil
        → (issues : ℕ) → issues ≡ united r.issues x.frames
        → (j : ToneJudgement) → j ≡ judgement_of x g.settings t g.listed targets issues
        → (bytes : List ℕ) → bytes ≡ judgement_bytes q.tone (length g.listed.inventory.items) j
        → written bytes ≡ judge_gathered g s q
    unfolding judge_gathered
    target_held targets o r r-is x x-is issues i-is j j-is bytes b-is = rw (← is, fine, ← aims, o, ← r-is, ← x-is, ← i-is, ← j-is, ← b-is)

pub query_good : (src : Source) (s : List ℕ) (q : Query) → load_query s ≡ Ok q → judge_gathered (gathered src (context_of q)) s q ≡ judgement src s
unfolding judgement
query_good src s q e = rw e

pub query_bad : (src : Source) (s : List ℕ) (r : Rejection) → load_query s ≡ Err r → judgement src s ≡ refused r.why r.place
unfolding judgement
query_bad src s r e = rw e

-- what a pack or a sheet holds is judged as its call says
module _ (p s : List ℕ) where
  by_pack : (o : files.Out pack.PackRead) → on_held (of-pack.source_or p o) s ≡ on_pack p s o
  by_pack (files.refused r place) = refl
  by_pack (files.loaded st e) = refl

  pub pack_held : on_held (of-pack.load_source p) s ≡ judge_outcome p s
  unfolding judge_outcome
  pack_held = by_pack (load_pack p)

  by_sheet : (o : files.Out sheet.SheetRead) → on_held (of-sheet.source_or p o) s ≡ on_sheet p s o
  by_sheet (files.refused r place) = refl
  by_sheet (files.loaded st e) = refl

  pub sheet_held : on_held (of-sheet.load_source p) s ≡ judge_sheet_outcome p s
  unfolding judge_sheet_outcome
  sheet_held = by_sheet (load_sheet p)
