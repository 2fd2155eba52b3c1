-- What the code's contracts ask of an inventory and of targets; no definition speaks of it.
use Rattle.std.specs.Prelude.{ℕ, ◌≤◌, ◌<◌, length, get_or}
use Rattle.std.specs.Float.{nan}
use Rattle.spec_judgement.specs.Inventory.{Inventory, Targets, count_in, entry_at, target_at}

-- at most 8 tones, each with at most 4 components: an inventory that a judgement may be made from
pub record Counted (i : Inventory) : Type 0 where
  pub few : length i.items ≤ 8
  pub each : (t : ℕ) → t < length i.items → count_in (entry_at i t).listing ≤ 4

-- a target is one to five of the inventory's tones
pub record TargetsHeld (tones : ℕ) (g : Targets) : Type 0 where
  pub some : 1 ≤ length g.items
  pub few : length g.items ≤ 5
  pub each : (k : ℕ) → k < length g.items → (target_at g k).place < tones
