-- Samples that tell certain events and lead to certain wires, one after the other.
use mathlib.Core.List.{List, ◌++◌}
use mathlib.Core.Path.{◌≡◌, refl, ◌∙◌}
use Prim.Native.Nat.{ℕ}
use Rattle.wire_samples.specs.declared.Wires.{Wires}
use Rattle.wire_samples.specs.Feed.{after_all, events_of}
use Rattle.wire_samples.proofs.Joined.{after-joined, events-joined}

-- from the wires w the samples tell these events, and the wires after them are w'
pub record Tell (w : Wires) (ss es : List ℕ) (w' : Wires) : Type 0 where
  pub events : events_of w ss ≡ es
  pub after : after_all w ss ≡ w'

pub tell-on : {w w' w'' : Wires} {xs ys es fs : List ℕ} → Tell w xs es w' → Tell w' ys fs w'' → Tell w (xs ++ ys) (es ++ fs) w''
tell-on {w} {w'} {w''} {xs} {ys} {es} {fs} p q =
    record {
      events = events-joined w xs ys ∙ rw (p.events, p.after, q.events) refl;
      after = after-joined w xs ys ∙ rw p.after q.after;
    }
