-- A test known by its parts.
use mathlib.Core.Path.{◌≡◌}
use mathlib.Core.Bool.{Bool, ◌&&◌}

pub both-tests : (x y p q t : Bool) → x ≡ p → y ≡ q → x && y ≡ t → p && q ≡ t
both-tests x y p q t ex ey h = rw (← ex, ← ey) h
