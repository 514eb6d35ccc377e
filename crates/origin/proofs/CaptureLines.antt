-- In which line of a capture an event stands.
use mathlib.Core.List.{List, [], ◌∷◌}
use mathlib.Core.Path.{◌≡◌, refl, ap, ◌∙◌}
use Prim.Native.Nat.{ℕ, zero, suc, ◌+◌, ◌-◌, ◌<◌}
use native.Mathlib.Omega.{arith}
use lib.ListN.{length, get_or}
use Rattle.text.specs.Decimal.{decimal}
use Rattle.text.specs.Text.{split}
use Rattle.text.proofs.Joining.{split-append}
use Rattle.text.proofs.Printing.{decimal-free}
use Rattle.capture.specs.Reading.{first_line, event_lines, capture_text}
use Rattle.capture.proofs.Written.{first-free}
use Rattle.origin.specs.Answer.{text_line}

-- event i of those that follow the first line, from 0
event-piece : (es rest : List ℕ) (i : ℕ) → i < length es → get_or (split 10 (event_lines es rest)) i [] ≡ decimal (get_or es i 0)
event-piece [] rest i h = absurd (omega arith)
event-piece (e ∷ es) rest i h =
    ap (λ (ps : List (List ℕ)). get_or ps i []) (split-append 10 (decimal e) (event_lines es rest) (decimal-free 10 e (omega arith)))
    ∙ go i h (event-piece es rest)
  where
    go :
        (j : ℕ) → j < suc (length es) → ((k : ℕ) → k < length es → get_or (split 10 (event_lines es rest)) k [] ≡ decimal (get_or es k 0))
        → get_or (decimal e ∷ split 10 (event_lines es rest)) j [] ≡ decimal (get_or (e ∷ es) j 0)
    go zero l others = refl
    go (suc j) l others = others j (omega arith)

-- it stands in line i + 2, lines counted from 1
pub event-line : (pins : ℕ) (es text : List ℕ) (i n : ℕ) → text ≡ capture_text pins es → i < length es → n ≡ i + 2 → text_line text n ≡ decimal (get_or es i 0)
event-line pins es text i n e h en =
    let index : n - 1 ≡ suc i = omega arith in
    rw (e, index, split-append 10 (first_line pins) (event_lines es []) (first-free pins)) (event-piece es [] i h)
