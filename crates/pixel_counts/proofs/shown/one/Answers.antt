use Prim.Native.Nat.{ℕ, zero, suc, ◌*◌, ◌%◌, ◌^◌, ◌≤◌, ◌<◌}
use native.Mathlib.Omega.{arith}
use mathlib.Core.Path.{◌≡◌, refl}
use Rattle.pixel_counts.proofs.shown.one.Goals as goal

-- 16 to the power of a value, shifted into place
shifted : (v : ℕ) → v < 4 → (1 * 2 ^ (4 * v) % 2 ^ 16 ≡ 16 ^ v) × (1 * 2 ^ (4 * v) % 2 ^ 16 ≤ 4096)
shifted zero h = (refl, omega arith)
shifted (suc zero) h = (refl, omega arith)
shifted (suc (suc zero)) h = (refl, omega arith)
shifted (suc (suc (suc zero))) h = (refl, omega arith)
shifted (suc (suc (suc (suc v)))) h = absurd (omega (arith, h))

pub returns : goal.returns
returns c =
    record { value = (shifted c.args.value c.requires).0; upper_bound = (shifted c.args.value c.requires).1 }
