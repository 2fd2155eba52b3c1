-- `look` meets its contract, by the ways through its code.
use Rattle.std.proofs.Common.{◌≡◌, refl, sym, ◌∙◌, ap, ℕ, ◌+◌, ◌≤◌, length, arith}
use Rattle.std.specs.Prelude.{Some}
use Rattle.spec_arithmetic.specs.Fields.{byte_at}
use Rattle.tonekit_bytes.proofs.InOrder.{order_length}
use Rattle.spec_arithmetic.specs.Places.{index_of}
use Rattle.tonekit_bytes.proofs.Searched.{index_found}
use Rattle.spec_sheet.specs.Reader.{row_at, read_sheet}
use Rattle.spec_sheet.specs.FromSheet.{list_numbered, prev_found}
use Rattle.tonekit_sheet_read.specs.Held.{records_of}
use Rattle.tonekit_sheet_inventory.proofs.Lookup.{ReadFrom}
use Rattle.tonekit_sheet.specs.Parts.{row_place, final_place}
use Rattle.tonekit_sheet_inventory.proofs.Rows.{number_held}
use Rattle.tonekit_sheet_inventory.proofs.Lookup.{accent_held, tone_held, prev_inside, prev_held, nothing, no_accent, no_tone, no_prev, number_is, looked, read_from}
use Rattle.tonekit_sheet_inventory.proofs.HeldSheet.look.Goals as goal
use Rattle.tonekit_sheet_inventory.proofs.HeldSheet.look.Goals.{In_ok-p}

pub returns-in_err-a : goal.returns-in_err-a
returns-in_err-a c = rw c.from_residual.ensures (nothing _ _ _ (no_accent _ _ _ (sym c.accent_index.ensures ∙ c.in_err-a.was)))

pub returns-in_err-t : goal.returns-in_err-t
returns-in_err-t c =
    rw c.from_residual-in_err-t.ensures (nothing _ _ _
    (no_tone _ _ _ _ (sym c.accent_index.ensures ∙ c.in_ok-a.was) (sym c.tone_index.ensures ∙ c.in_err-t.was)))

pub returns-in_err-p : goal.returns-in_err-p
returns-in_err-p c =
    rw c.from_residual-in_err-p.ensures (nothing _ _ _
    (no_prev _ _ _ _ (sym c.accent_index.ensures ∙ c.in_ok-a.was) _ (sym c.tone_index.ensures ∙ c.in_ok-t.was)
    (sym c.prev_index.ensures ∙ c.in_err-p.was)))

-- the three places
accent_is : (c : In_ok-p) → let x = c.args in index_of x.self.now.view.bytes.now (records_of x.self.now.view.sheet).accents x.c.accent ≡ Some c.in_ok-a.a
accent_is c = sym c.accent_index.ensures ∙ c.in_ok-a.was

tone_is : (c : In_ok-p) → let x = c.args in index_of x.self.now.view.bytes.now (records_of x.self.now.view.sheet).tones x.c.tone ≡ Some c.in_ok-t.t
tone_is c = sym c.tone_index.ensures ∙ c.in_ok-t.was

prev_is : (c : In_ok-p) → let x = c.args in prev_found x.self.now.view.bytes.now (records_of x.self.now.view.sheet) x.c.prev ≡ Some c.in_ok-p.p
prev_is c = sym c.prev_index.ensures ∙ c.in_ok-p.was

pub list_number-requires : goal.list_number-requires
list_number-requires c =
    (accent_held _ c.args.self.now.view.sheet _ _ (accent_is c), tone_held _ c.args.self.now.view.sheet _ _ (tone_is c), prev_held c.args.self.now.view.bytes.now c.args.self.now.view.sheet c.args.c.prev _ (prev_is c))

-- the sheet was read from the bytes
read : (c : In_ok-p) → ReadFrom c.args.self.now.view.bytes.now c.args.self.now.view.sheet
read c = read_from _ c.args.self.now.view.sheet (read_sheet c.args.self.now.view.bytes.now) refl c.args.self.now.read

few : (k : In_ok-p) → (n : ℕ) → n ≡ byte_at k.args.self.now.view.bytes.now (row_at (records_of k.args.self.now.view.sheet) (row_place (records_of k.args.self.now.view.sheet) k.in_ok-a.a k.in_ok-t.t k.in_ok-p.p) + final_place k.args.c) → n ≤ length (records_of k.args.self.now.view.sheet).lists
few k n e =
    let x = k.args in
    rw e (number_held x.self.now.view.bytes.now (records_of x.self.now.view.sheet) (read k).end (read k).reads x.c _ _ _ (index_found _ _ _ _ (accent_is k)).inside (index_found _ _ _ _ (tone_is k)).inside (prev_inside x.self.now.view.bytes.now (records_of x.self.now.view.sheet) x.c.prev _ (prev_is k)))

pub list_place-requires : goal.list_place-requires
list_place-requires c = omega (arith, few (goal.at.list_place-requires c).In_ok-p _ c.list_number.ensures, order_length c.args.self.now.view.sheet.lists.at c.args.self.now.view.sheet.lists.count)

pub returns : goal.returns
returns c =
    looked c.args.self.now.view.bytes.now (records_of c.args.self.now.view.sheet) (read (goal.at.returns c).In_ok-p).end (read (goal.at.returns c).In_ok-p).reads c.args.c c.list_number.result _
    (number_is c.args.self.now.view.bytes.now (records_of c.args.self.now.view.sheet) c.args.c _ (accent_is (goal.at.returns c).In_ok-p) _ (tone_is (goal.at.returns c).In_ok-p) _ (prev_is (goal.at.returns c).In_ok-p) ∙ ap (list_numbered c.args.self.now.view.bytes.now (records_of c.args.self.now.view.sheet)) (sym c.list_number.ensures))
    (few (goal.at.returns c).In_ok-p _ c.list_number.ensures) c.list_place.ensures
