-- 10,288 bytes of a query are enough to judge it: a query that loads has at most 10,287. And 75,825 bytes of a program's input are enough to answer it: what
-- stands past them is not read. Assumes nothing.
use Rattle.std.proofs.Common.{ℕ, ◌-◌, ◌≤◌, ◌<◌, ◌≡◌, refl, ◌∙◌, ap, List, arith, length, take, take_all}
use Rattle.spec_arithmetic.specs.Fields.{byte_at, u16_at}
use Rattle.spec_judgement.specs.Input.{held_of, query_of}
use Rattle.tonekit_input.proofs.Input.{held_same, query_same, query_enough}
use Rattle.spec_query.specs.Query.{load_query, end_of}
use Rattle.std.specs.Prelude.{Result, Ok, Err}
use Rattle.tonekit_core.specs.declared.Rejection.{Rejection}
use Rattle.spec_query.specs.declared.Query.{Query}
use Rattle.tonekit_query.proofs.Laws.{load_reads, load_length, read_holds}
use Rattle.tonekit_query.proofs.Enough.{from_most, load_enough}
use Rattle.spec_arithmetic.specs.Files.{Out}
use Rattle.spec_pack.specs.Pack.{PackRead, load_pack}
use Rattle.spec_arithmetic.specs.Files as files
use Rattle.spec_sheet.specs.Reader.{load_sheet}
use Rattle.spec_sheet.specs.Reader as sheet
use Rattle.spec_sheet.specs.FromSheet.{source_of_sheet}
use Rattle.spec_lookup.specs.Source.{Source, source_of_pack}
use Rattle.spec_judgement.specs.Judgement.{on_query, judgement, on_pack, judge_outcome, station_outcome}
use Rattle.spec_sheet.specs.JudgeSheet.{on_sheet, judge_sheet_outcome, station_sheet_outcome}

module _ (src : Source) (s : List ℕ) (n : ℕ) (h : 10288 ≤ n) where
  either_way : (r : Result Query Rejection) → load_query s ≡ r → on_query src (take n s) r ≡ on_query src s r
  either_way (Err r) e = refl
  either_way (Ok q) e =
      let l : length s ≡ end_of q = load_length s q e in
      let c : q.count ≤ 1024 = (read_holds s q (load_reads s q e)).count in
      ap (λ (t : List ℕ). on_query src t (Ok q)) (take_all n s (omega (arith, from_most q.cold)))

  pub judgement_enough : judgement src (take n s) ≡ judgement src s
  unfolding judgement
  judgement_enough = ap (on_query src (take n s)) (load_enough s n h) ∙ either_way (load_query s) refl

-- whatever the pack
module _ (p s : List ℕ) (n : ℕ) (h : 10288 ≤ n) where
  each_way : (o : Out PackRead) → on_pack p (take n s) o ≡ on_pack p s o
  each_way (files.refused r place) = refl
  each_way (files.loaded st e) = judgement_enough (source_of_pack p st) s n h

  pub judge_enough : judge_outcome p (take n s) ≡ judge_outcome p s
  unfolding judge_outcome
  judge_enough = each_way (load_pack p)

-- whatever the sheet
module _ (p s : List ℕ) (n : ℕ) (h : 10288 ≤ n) where
  sheet_way : (o : files.Out sheet.SheetRead) → on_sheet p (take n s) o ≡ on_sheet p s o
  sheet_way (files.refused r place) = refl
  sheet_way (files.loaded st e) = judgement_enough (source_of_sheet p st) s n h

  pub judge_sheet_enough : judge_sheet_outcome p (take n s) ≡ judge_sheet_outcome p s
  unfolding judge_sheet_outcome
  judge_sheet_enough = sheet_way (load_sheet p)

-- whatever the input, of bytes
module _ (s : List ℕ) (bytes : (i : ℕ) → byte_at s i < 256) (n : ℕ) (h : 75825 ≤ n) where
  pub station_enough : station_outcome (take n s) ≡ station_outcome s
  station_enough = rw (held_same s bytes n h, query_same s bytes n h) (judge_enough (held_of s) (query_of s) (n - 2 - u16_at s 0) (query_enough s bytes n h))

  pub station_sheet_enough : station_sheet_outcome (take n s) ≡ station_sheet_outcome s
  station_sheet_enough = rw (held_same s bytes n h, query_same s bytes n h) (judge_sheet_enough (held_of s) (query_of s) (n - 2 - u16_at s 0) (query_enough s bytes n h))
