-- From what the pack's reader answers to what the call answers. Assumes nothing.
use Rattle.std.proofs.Common.{ℕ, ◌≡◌, ◌∙◌, sym, ap, List}
use Rattle.std.specs.Prelude.{Result, Ok, Err}
use Rattle.tonekit_core.specs.declared.Rejection.{Rejection}
use Rattle.tonekit_core.specs.Calls.{written}
use Rattle.tonekit_core.specs.Calls as calls
use Rattle.spec_pack.specs.Pack.{load_pack}
use Rattle.tonekit_pack.specs.Held.{records_of, answered}
use Rattle.tonekit_pack.specs.declared.Loaded.{Loaded}
use Rattle.tonekit_pack.specs.declared.Pack.{Pack}
use Rattle.tonekit_pack.proofs.Single.{loads_alone}
use Rattle.spec_lookup.specs.Source.{source_of_pack}
use Rattle.spec_sheet.specs.Sheet.{sheet}
use Rattle.tonekit_sheet_plan.specs.Rows.{Reads}
use Rattle.spec_sheet.specs.Outcome.{sheet_outcome}

module _ (s : List ℕ) (r : Result (Loaded Pack) Rejection) (h : answered r ≡ load_pack s) where
  module _ (l : Loaded Pack) (g : r ≡ Ok l) where
    pub reads : Reads s (records_of l.held)
    reads = let e = (loads_alone s (records_of l.held) l.end (sym h ∙ ap answered g)).0 in record { loads = rw e }

    pub is-written : written (sheet (source_of_pack s (records_of l.held))) ≡ sheet_outcome s
    unfolding sheet_outcome
    is-written = rw (← h, g)

  pub is_refused : (e : Rejection) → r ≡ Err e → calls.refused e.why e.place ≡ sheet_outcome s
  unfolding sheet_outcome
  is_refused e g = rw (← h, g)
