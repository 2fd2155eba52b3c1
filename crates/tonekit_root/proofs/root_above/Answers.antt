-- `root_above` meets its contract.
use Rattle.std.proofs.Common.{ℕ, suc, ◌+◌, ◌-◌, ◌*◌, ◌/◌, ◌%◌, ◌^◌, ◌<◌, ◌≡◌, sym, ◌∙◌, ap, subst, arith, add_comm, T, to_bits}
use lib.Ieee.{binary64, fits}
use Rattle.tonekit_root.proofs.Exact.{root_normal, root_subnormal, even_power, odd_power}
use Rattle.tonekit_root.proofs.Cases.{Above, above, at_subnormal, at_normal, near_pos}
use Rattle.tonekit_float.proofs.Patterns.{units_in}
use Rattle.tonekit_root.proofs.root_above.Goals as goal
use Rattle.tonekit_root.proofs.root_above.Goals.{Start}

held : (c : Start) → T (fits binary64 c.args.x.value)
held c = subst T (sym c.well_formed.0.1.1.0.1) tt

known : (c : Start) → Above c.args.x.value
known c = above c.args.x.value (held c) c.args.x.above c.requires

normal : (c : Start) → (to_bits binary64 c.args.x.value / 2 ^ 52 ≡ 0 → ⊥) → units_in c.args.x.value ≡ (to_bits binary64 c.args.x.value % 2 ^ 52 + 2 ^ 52) * 2 ^ (to_bits binary64 c.args.x.value / 2 ^ 52 - 1)
normal c h =
    let b = to_bits binary64 c.args.x.value in
    at_normal c.args.x.value (b / 2 ^ 52 - 1) (known c) (next (b / 2 ^ 52) h) ∙ ap (λ (n : ℕ). n * 2 ^ (b / 2 ^ 52 - 1)) (add_comm (2 ^ 52) (b % 2 ^ 52))
  where
    next : (n : ℕ) → (n ≡ 0 → ⊥) → n ≡ suc (n - 1)
    next n h = omega arith

pub raised-s-requires : goal.raised-s-requires
raised-s-requires c =
    let k = known (goal.at.raised-s-requires c).Start in
    (subst (λ (n : ℕ). 0 < n) (at_subnormal c.args.x.value k c.if-field-eq0.true) k.some, omega arith)

pub overflow_add-g : goal.overflow_add-g
overflow_add-g c = let k = known (goal.at.overflow_add-g c).Start in omega (arith, k.field)

pub times-requires-then-g-eq0 : goal.times-requires-then-g-eq0
times-requires-then-g-eq0 c =
    let x = c.args.x.value in
    let d = c.digits_root-then-g-eq0 in
    let k = known (goal.at.times-requires-then-g-eq0 c).Start in
    let f = k.field in
    (near_pos ((to_bits binary64 x % 2 ^ 52 + 2 ^ 52) * 2 ^ 52) d.result (omega arith) d.ensures.0, d.ensures.1, omega arith, omega arith)

pub overflow_add-g-else-g-eq0 : goal.overflow_add-g-else-g-eq0
overflow_add-g-else-g-eq0 c = let k = known (goal.at.overflow_add-g-else-g-eq0 c).Start in omega (arith, k.field)

pub times-requires-else-g-eq0 : goal.times-requires-else-g-eq0
times-requires-else-g-eq0 c =
    let x = c.args.x.value in
    let d = c.digits_root-else-g-eq0 in
    let k = known (goal.at.times-requires-else-g-eq0 c).Start in
    let f = k.field in
    (near_pos ((2 * (to_bits binary64 x % 2 ^ 52 + 2 ^ 52)) * 2 ^ 52) d.result (omega arith) d.ensures.0, d.ensures.1, omega arith, omega arith)

pub returns-then-field-eq0 : goal.returns-then-field-eq0
returns-then-field-eq0 c =
    let k = known (goal.at.returns-then-field-eq0 c).Start in
    let x = c.args.x.value in
    let d = c.digits_root in
    let r = c.raised-s in
    let e = r.ensures in
    c.times.ensures
    ∙ root_subnormal (units_in x) r.result.a r.result.n d.result k.some
    (e.0 ∙ ap (λ (n : ℕ). n * 4 ^ r.result.n) (sym (at_subnormal x k c.if-field-eq0.true))) e.3 e.1 e.2 d.ensures.0
    ∙ sym k.is

pub returns-then-g-eq0 : goal.returns-then-g-eq0
returns-then-g-eq0 c =
    let k = known (goal.at.returns-then-g-eq0 c).Start in
    let x = c.args.x.value in
    let g = to_bits binary64 x / 2 ^ 52 - 1 in
    let d = c.digits_root-then-g-eq0 in
    c.times-then-g-eq0.ensures
    ∙ root_normal (units_in x) (to_bits binary64 x % 2 ^ 52 + 2 ^ 52) (g / 2) d.result
    (normal (goal.at.returns-then-g-eq0 c).Start c.if-field-eq0.false ∙ even_power (to_bits binary64 x % 2 ^ 52 + 2 ^ 52) g c.if-g-eq0.true) (omega arith) (omega arith) d.ensures.0
    ∙ sym k.is

pub returns-else-g-eq0 : goal.returns-else-g-eq0
returns-else-g-eq0 c =
    let k = known (goal.at.returns-else-g-eq0 c).Start in
    let x = c.args.x.value in
    let g = to_bits binary64 x / 2 ^ 52 - 1 in
    let d = c.digits_root-else-g-eq0 in
    c.times-else-g-eq0.ensures
    ∙ root_normal (units_in x) (2 * (to_bits binary64 x % 2 ^ 52 + 2 ^ 52)) (g / 2) d.result
    (normal (goal.at.returns-else-g-eq0 c).Start c.if-field-eq0.false ∙ odd_power (to_bits binary64 x % 2 ^ 52 + 2 ^ 52) g c.if-g-eq0.false) (omega arith) (omega arith) d.ensures.0
    ∙ sym k.is
