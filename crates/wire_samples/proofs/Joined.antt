-- Samples in two parts: the events and the wires of the whole.
use mathlib.Core.List.{List, [], ◌∷◌, ◌++◌, append_assoc}
use mathlib.Core.Path.{◌≡◌, refl, sym, ap, ◌∙◌}
use Prim.Native.Nat.{ℕ}
use Rattle.wire_samples.specs.declared.Wires.{Wires}
use Rattle.wire_samples.specs.Feed.{after_sample, events_at, after_all, events_of}

pub after-joined : (w : Wires) (xs ys : List ℕ) → after_all w (xs ++ ys) ≡ after_all (after_all w xs) ys
unfolding after_all
after-joined w [] ys = refl
after-joined w (x ∷ xs) ys = after-joined (after_sample w x) xs ys

pub events-joined : (w : Wires) (xs ys : List ℕ) → events_of w (xs ++ ys) ≡ events_of w xs ++ events_of (after_all w xs) ys
unfolding after_all events_of
events-joined w [] ys = refl
events-joined w (x ∷ xs) ys =
    ap (λ (es : List ℕ). events_at w x ++ es) (events-joined (after_sample w x) xs ys)
    ∙ sym (append_assoc (events_at w x) (events_of (after_sample w x) xs) (events_of (after_all (after_sample w x) xs) ys))
