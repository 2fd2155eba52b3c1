-- What "nearest" means of a root: the root "is proved against whole-number squares".
use Rattle.std.specs.Prelude.{ℕ, ◌+◌, ◌-◌, ◌*◌, ◌^◌, ◌<◌}

-- q is the whole number nearest to the root of n: q - 1/2 < √n < q + 1/2
pub record Near (n q : ℕ) : Type 0 where
  pub lower : (2 * q - 1) * (2 * q - 1) < 4 * n
  pub upper : 4 * n < (2 * q + 1) * (2 * q + 1)

-- R is nearer than Y to the root of X, all in units of 2 ^ -1074: their middle (Y + R) / 2 lies below the root if Y is less, and above it if Y is greater
pub record Nearest (X R Y : ℕ) : Type 0 where
  pub lower : Y < R → (Y + R) * (Y + R) < 4 * (X * 2 ^ 1074)
  pub upper : R < Y → 4 * (X * 2 ^ 1074) < (Y + R) * (Y + R)
