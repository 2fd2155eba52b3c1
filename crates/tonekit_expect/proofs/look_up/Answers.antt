use Rattle.std.proofs.Common.{rules, arith, ℕ, ◌<◌, sym, ◌∙◌, get_or, ◌≡◌, Fits, w16, lit<}
use Rattle.std.specs.Prelude.{None}
use Rattle.spec_lookup.specs.Lookup.{look_up}
use Rattle.tonekit_bytes.proofs.InOrder.{order_length, order_get}
use Rattle.tonekit_expect.proofs.InOrder.{order_all}
use Rattle.tonekit_bytes.proofs.Searched.{index_found}
use Rattle.tonekit_expect.proofs.Walk.{winner_is, look_found}
use Rattle.tonekit_expect.proofs.look_up.Goals as goal
use Rattle.tonekit_expect.proofs.look_up.Goals.{In_ok-i, In_ok-t, Start}

-- the place that a search gave is one of the pack's
tone-in : (c : In_ok-t) → c.in_ok-t.t < c.args.v.pack.tones.count
tone-in c =
    let p = c.args.v.pack.tones in
    let i = (index_found _ _ _ _ (sym c.tone_index.ensures ∙ c.in_ok-t.was)).inside in
    omega (arith, i, order_length p.at p.count)

accent-in : (c : In_ok-i) → c.in_ok-i.i < c.args.v.pack.accents.count
accent-in c =
    let p = c.args.v.pack.accents in
    let i = (index_found _ _ _ _ (sym c.accent_index.ensures ∙ c.in_ok-i.was)).inside in
    omega (arith, i, order_length p.at p.count)

pub offset_bounds-v-t : goal.offset_bounds-v-t
offset_bounds-v-t c = omega (arith, tone-in c)

pub bounds-v-t : goal.bounds-v-t
bounds-v-t c = omega (arith, tone-in c)

pub find_rule-requires : goal.find_rule-requires
find_rule-requires c = accent-in (goal.at.find_rule-requires c).In_ok-i

-- an offset is held as a u16
near : (c : Start) (k : ℕ) → Fits w16 (get_or c.args.v.pack.rules.at k 0)
near c k = search rules

pub listing_of-requires : goal.listing_of-requires
listing_of-requires c =
    let p = c.args.v.pack.accents in
    let r = c.args.v.pack.rules in
    let n = order_length p.at p.count in
    let small = order_all (λ (r : ℕ). r < 65536) r.at r.count (lit< tt) (λ k. (near (goal.at.listing_of-requires c).Start k).fits) in
    λ w e. let f = winner_is _ _ _ (λ (r : ℕ). r < 65536) (λ j k h. small k) _ w.accent w.rule (omega (arith, n, accent-in (goal.at.listing_of-requires c).In_ok-i)) (sym c.find_rule.ensures ∙ e) in (omega (arith, f.0, n), f.1)

pub returns-in_err-i : goal.returns-in_err-i
unfolding look_up
returns-in_err-i c =
    let none : c.accent_index.result ≡ None = c.in_err-i.was in
    simp (c.from_residual.ensures, ← c.accent_index.ensures, none)

pub returns-in_err-t : goal.returns-in_err-t
unfolding look_up
returns-in_err-t c =
    let none : c.tone_index.result ≡ None = c.in_err-t.was in
    simp (c.from_residual-in_err-t.ensures, ← c.accent_index.ensures, c.in_ok-i.was, ← c.tone_index.ensures, none)

pub returns : goal.returns
returns c =
    let p = c.args.v.pack.tones in
    let accent = sym c.accent_index.ensures ∙ c.in_ok-i.was in
    let tone = sym c.tone_index.ensures ∙ c.in_ok-t.was in
    c.listing_of.ensures ∙ look_found _ _ _ _ _ _ _ accent tone (c.from-o.ensures ∙ sym (order_get p.at p.count _ (tone-in (goal.at.returns c).In_ok-t))) c.find_rule.ensures
