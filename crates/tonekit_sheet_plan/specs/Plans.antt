-- What a plan holds, and what it becomes.
use Rattle.std.specs.Prelude.{Option}
use Rattle.std.specs.Prelude.{ℕ, ◌≡◌, List, []}
use Rattle.std.proofs.Math.Option.{some}
use Rattle.tonekit_pack.specs.Held.{records_of}
use Rattle.tonekit_pack.specs.declared.Pack.{Pack}
use Rattle.spec_lookup.specs.Source.{Carried, carried_of}
use Rattle.spec_lookup.specs.declared.Listing.{Listing}
use Rattle.spec_sheet.specs.Number.{noted}
use Rattle.tonekit_sheet.specs.Parts.{note_turn}
use Rattle.tonekit_sheet_plan.specs.declared.Plan.{Plan}
use Rattle.tonekit_sheet_plan.specs.Rows.{pack_view}
use Rattle.tonekit_sheet_plan.specs.Listings.{carried_by}
use Rattle.tonekit_sheet_plan.specs.Entries.{planned}

-- the lists by number
abbrev pub planned_by : Plan → List (List Carried)
planned_by plan = planned plan.bytes.now plan.lists.items

-- no list yet
pub record Blank (plan : Plan) : Type 0 where
  pub no_lists : plan.lists.items ≡ []
  pub none_known : plan.memo.items ≡ []

-- a plan for these bytes, whose lists are these, by number
pub record PlanOf (its : List (List Carried)) (s : List ℕ) (plan : Plan) : Type 0 where
  pub bytes : plan.bytes.now ≡ s
  pub same : planned_by plan ≡ its

-- the lists of a plan with one more listing's, with what one more lookup gives, and with those of a row
abbrev pub with_listing : Plan → Listing → List (List Carried)
with_listing plan l = noted (planned_by plan) (some (carried_by plan.bytes.now l))

abbrev pub with_look : Plan → Option Listing → List (List Carried)
with_look plan x = noted (planned_by plan) (carried_of plan.bytes.now x)

abbrev pub with_row : Pack → Plan → ℕ → List (List Carried)
with_row p plan row = note_turn (pack_view plan.bytes.now (records_of p)) row (planned_by plan)
