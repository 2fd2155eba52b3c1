use Rattle.std.proofs.Common.{◌≡◌, sym, subst, rules, ℕ, ◌-◌, Float}
use lib.Ieee.{binary64, add, sub}
use Rattle.spec_arithmetic.specs.Bounds.{In}
use Rattle.tonekit_float.proofs.Monotone.{zero_f}
use Rattle.spec_arithmetic.specs.Constants.{whole64}
use Rattle.spec_arithmetic.specs.Position.{position}
use Rattle.spec_shape.specs.declared.Span.{Span}
use Rattle.spec_shape.specs.Window.{reach, span_at}
use Rattle.tonekit_window.proofs.Within.{low_in, high_in}
use Rattle.tonekit_window.proofs.Point.span.Goals as goal

made : (n k : ℕ) (x w : Float) → x ≡ position k (n - 1) → w ≡ reach n k → ◌≡◌ {A = Span} (record { low = sub binary64 x w; high = add binary64 x w }) (span_at n k)
made n k x w e g = rw (e, g)

pub returns : goal.returns
returns c =
    let n = c.args.self.n in
    let k = c.args.self.k in
    let e = made n k _ _ c.place-x.ensures c.reach-w.ensures in
    record {
      is = e;
      low_in = subst (λ (s : Span). In zero_f (whole64 (n - 1)) s.low) (sym e) (low_in n k (search rules) (search rules));
      high_in = subst (λ (s : Span). In zero_f (whole64 (n - 1)) s.high) (sym e) (high_in n k (search rules) (search rules));
    }
