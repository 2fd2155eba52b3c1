-- Document 01's Judgement, from whatever a station holds: what a query's bytes are turned into, a function of a source and of those bytes.
use Rattle.std.specs.Prelude.{ℕ, Bool, cond, not, Option, Some, None, ok_or, Result, Ok, Err, List, eqb, length, ltb}
use Rattle.tonekit_core.specs.Calls.{Outcome, refused, written}
use Rattle.std.specs.List.{list_all}
use Rattle.std.specs.Option.{option_map_or}
use Rattle.std.specs.Result.{result_ok}
use Rattle.tonekit_core.specs.declared.Refusal.{Refusal}
use Rattle.tonekit_core.specs.declared.Refusal.TheVariants as refusal
use Rattle.tonekit_core.specs.declared.Rejection.{Rejection}
use Rattle.spec_query.specs.Query.{load_query, frames_of}
use Rattle.spec_query.specs.declared.Query.{Query}
use Rattle.spec_judgement.specs.Input.{held_of, query_of}
use Rattle.spec_arithmetic.specs.Files.{Out}
use Rattle.spec_pack.specs.Pack.{PackRead, load_pack}
use Rattle.spec_arithmetic.specs.Files as files
use Rattle.spec_pack.specs.Pack as pack
use Rattle.spec_lookup.specs.Source.{Source, source_of_pack}
use Rattle.spec_lookup.specs.declared.Context.{Context}
use Rattle.spec_shape.specs.Extract.{extent_of, shape_of}
use Rattle.spec_shape.specs.Register.{in_register}
use Rattle.spec_shape.specs.Record.{united}
use Rattle.spec_shape.specs.declared.Extent.{Extent}
use Rattle.spec_judgement.specs.declared.Tolerance.{Tolerance}
use Rattle.spec_judgement.specs.Inventory.{Inventory, Targets, count_in}
use Rattle.spec_judgement.specs.Judge.{judgement_of}
use Rattle.spec_judgement.specs.Record.{judgement_bytes}
use Rattle.spec_judgement.specs.Target.{variants_good, targets_of}
use Rattle.spec_judgement.specs.Gather.{Gathering, gathered}

-- "no realisation: some inventory tone has nothing here"
unfoldable pub tones_verdict : Inventory → Result (Unit {0}) Refusal
tones_verdict i = cond (not (list_all (λ e. not (eqb (count_in e.listing) 0)) i.items)) (Err refusal.NoRealisation) (Ok tt)

-- the refusal, or what comes after it where nothing was refused
abbrev pub and_then : {A B : Type 0} → Result A Refusal → (A → Result B Refusal) → Result B Refusal
and_then (Err r) after = Err r
and_then (Ok a) after = after a

-- "Then 11, 12, 13 for prev, 14, 15": of so many voiced frames, the accent's tolerances if it is held, whether what stood before is, the inventory, and the
-- query's bytes and what they say; where nothing is refused, the tolerances
unfoldable pub query_verdict : ℕ → Option Tolerance → Bool → Inventory → List ℕ → Query → Result Tolerance Refusal
query_verdict voiced accent prev i s q =
    cond (ltb voiced 3) (Err refusal.Unvoiced)
    (and_then (ok_or accent refusal.UnknownAccent) (λ t.
    cond (not prev) (Err refusal.UnknownTone)
    (and_then (tones_verdict i) (λ u.
    cond (variants_good s q.variants) (Ok t) (Err refusal.BadVariant)))))

abbrev pub unless : Result Tolerance Refusal → (Tolerance → Outcome) → Outcome
unless (Err r) o = refused r 0
unless (Ok t) o = o t

-- a query that loads, judged by what a station gathered for its context: s is its bytes, q what they say, and r the same in the register that it is measured
-- in. "13 for targets"; or the record: `judge` after `extract`, "issues the union"
unfoldable pub judge_gathered : Gathering → List ℕ → Query → Outcome
judge_gathered g s q =
    let frames = frames_of s q in
    let e = extent_of frames q.count q.start q.end in
    let i = g.listed.inventory in
    let r = in_register frames q in
    let x = shape_of frames e r.start r.end r.floor r.ceil in
    let record_of = λ (t : Tolerance) (a : Targets). judgement_bytes q.tone (length i.items) (judgement_of x g.settings t g.listed a (united r.issues x.frames)) in
    unless (query_verdict e.count g.tolerance g.prev i s q)
    (λ t. option_map_or (λ a. written (record_of t a)) (result_ok (targets_of i s q.tone q.variants)) (refused refusal.UnknownTone 0))

abbrev pub on_query : Source → List ℕ → Result Query Rejection → Outcome
on_query src s (Err e) = refused e.why e.place
on_query src s (Ok q) = judge_gathered (gathered src (record { accent = q.accent; tone = q.tone; prev = q.prev; last = q.last })) s q

-- a query's bytes, judged by what a station holds
unfoldable pub judgement : Source → List ℕ → Outcome
judgement src s = on_query src s (load_query s)

-- of a pack's bytes: "Pack or sheet comes before query."
abbrev pub on_pack : List ℕ → List ℕ → Out PackRead → Outcome
on_pack p s (files.refused r place) = refused r place
on_pack p s (files.loaded st e) = judgement (source_of_pack p st) s

-- the call `judge`: what a pack's and a query's bytes are turned into
unfoldable pub judge_outcome : List ℕ → List ℕ → Outcome
judge_outcome p s = on_pack p s (load_pack p)

-- what the program `station` makes of its input
abbrev pub station_outcome : List ℕ → Outcome
station_outcome s = judge_outcome (held_of s) (query_of s)
