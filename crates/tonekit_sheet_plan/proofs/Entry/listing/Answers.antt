use Rattle.std.proofs.Common.{add-zero, ◌≡◌, sym, ◌∙◌, ap, eq-eqb, ne_eqb}
use Rattle.tonekit_core.specs.declared.layout.TheConstants.{RULE_KIND}
use Rattle.spec_arithmetic.specs.Fields.{byte_at}
use Rattle.tonekit_sheet_plan.specs.Listings.{listing_from}
use Rattle.tonekit_sheet_plan.proofs.Entry.listing.Goals as goal
use Rattle.tonekit_sheet_plan.proofs.Entry.listing.Goals.{After-byte_at}

-- the byte that was read is the record's kind
kind : (c : After-byte_at) → c.byte_at.result ≡ byte_at c.args.s.now c.args.self.at
kind c = c.byte_at.ensures ∙ ap (byte_at c.args.s.now) (add-zero c.from-o.result ∙ c.from-o.ensures)

pub returns-then-byte_at-eq-RULE_KIND : goal.returns-then-byte_at-eq-RULE_KIND
unfolding listing_from
returns-then-byte_at-eq-RULE_KIND c =
    let k = kind (goal.at.returns-then-byte_at-eq-RULE_KIND c).After-byte_at in
    rw (eq-eqb _ _ (sym k ∙ c.if-byte_at-eq-RULE_KIND.true), ← c.from-o.ensures) c.rule_listing.ensures

pub returns : goal.returns
unfolding listing_from
returns c =
    let k = kind (goal.at.returns c).After-byte_at in
    rw (ne_eqb (byte_at c.args.s.now c.args.self.at) RULE_KIND (λ e. c.if-byte_at-eq-RULE_KIND.false (k ∙ e)), ← c.from-o.ensures) c.citation.ensures
