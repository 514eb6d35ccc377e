-- Ways through the code, over plain variables: what is printed part by part is the whole line; and which of the texts is printed.
use mathlib.Core.List.{List, [], ◌∷◌, ◌++◌, append_assoc}
use mathlib.Core.Path.{◌≡◌, refl, ap, ◌∙◌}
use Prim.Native.Nat.{ℕ, zero, suc, ◌<◌}
use lib.ListN.{get_or}
use Rattle.std.specs.Prelude.{Result, Ok, Err}
use Rattle.registers.specs.declared.Chip.{Chip}
use Rattle.registers.specs.declared.Registers.{Registers}
use Rattle.registers.specs.Record.{values, names}
use Rattle.registers.proofs.NamePieces.{name-there}
use Rattle.text.specs.Text.{bytes, split, join}
use Rattle.print.specs.Printed.{Output, whole_text}
use Rattle.capture.specs.declared.End.{End}
use Rattle.capture.specs.declared.End.TheVariants as ends
use Rattle.capture.specs.Feeding.{meaning}
use Rattle.capture.specs.Replay.{Replay}
use Rattle.listing.specs.ReplayText.{refused_call}
use Rattle.listing.proofs.CodeWays.{NotWhole}
use Rattle.differences.specs.Comparison.{comparison_of}
use Rattle.differences.specs.Differences.{memories, compared, differences_of, differences_refusal, differences_call}

-- ---- one line

pub cell-fields :
    (a b c d e f : List ℕ)
    → (a ++ (9 ∷ [])) ++ ((b ++ (9 ∷ [])) ++ ((c ++ (9 ∷ [])) ++ ((d ++ (9 ∷ [])) ++ ((e ++ (9 ∷ [])) ++ (f ++ (10 ∷ []))))))
    ≡ (a ++ 9 ∷ (b ++ 9 ∷ (c ++ 9 ∷ (d ++ 9 ∷ (e ++ 9 ∷ f))))) ++ (10 ∷ [])
cell-fields a b c d e f = simp append_assoc

pub register-fields :
    (a b c : List ℕ) → a ++ ((9 ∷ []) ++ ((b ++ (9 ∷ [])) ++ (c ++ (10 ∷ [])))) ≡ (a ++ 9 ∷ (b ++ 9 ∷ c)) ++ (10 ∷ [])
register-fields a b c = simp append_assoc

pub name-found : (all name : List ℕ) (place : ℕ) → all ≡ join 32 names → name ≡ get_or (split 32 all) place [] → name ≡ get_or names place []
name-found all name place is_all is_name = is_name ∙ ap (λ (s : List ℕ). get_or (split 32 s) place []) is_all ∙ name-there place

-- ---- the whole text: v and w are the registers' values, as the code has them

pub text-of-values :
    {v w : List ℕ} (r s : Registers) (m x n y out : List ℕ) {o : Output} → v ≡ values r → w ≡ values s
    → o ≡ whole_text 0 (differences_of (compared v m x) (compared w n y)) out
    → o ≡ whole_text 0 (differences_of (compared (values r) m x) (compared (values s) n y)) out
text-of-values {v} {w} r s m x n y out ev ew h =
    h
    ∙ ap (λ (u : List ℕ). whole_text 0 (differences_of (compared u m x) (compared w n y)) out) ev
    ∙ ap (λ (u : List ℕ). whole_text 0 (differences_of (compared (values r) m x) (compared u n y)) out) ew

-- numbers below b, one by one
abbrev pub AllBelow : ℕ → List ℕ → Type 0
AllBelow b [] = Unit {0}
AllBelow b (x ∷ xs) = (x < b) × AllBelow b xs

pub below-at : (b : ℕ) (xs : List ℕ) → 0 < b → AllBelow b xs → (k : ℕ) → get_or xs k 0 < b
below-at b [] p h k = p
below-at b (x ∷ xs) p h zero = h.0
below-at b (x ∷ xs) p h (suc k) = below-at b xs p h.1 k

-- ---- what is printed of two captures

-- an end that is no whole capture's
pub first-refused-end :
    (e : Result End ℕ) (m w : List ℕ) (second : Replay) (out : List ℕ) → NotWhole e
    → refused_call (bytes "1\t") e out ≡ comparison_of (meaning e m w) second out
unfolding refused_call meaning
first-refused-end (Err k) m w second out t = refl
first-refused-end (Ok ends.BadFirst) m w second out t = refl
first-refused-end (Ok (ends.Bad c k)) m w second out t = refl
first-refused-end (Ok (ends.Whole c k)) m w second out t = absurd (t c k refl)

pub second-refused-end :
    (c : Chip) (k : ℕ) (e : Result End ℕ) (m w : List ℕ) (f : Result End ℕ) (n v out : List ℕ) → e ≡ Ok (ends.Whole c k) → NotWhole f
    → refused_call (bytes "2\t") f out ≡ comparison_of (meaning e m w) (meaning f n v) out
unfolding refused_call meaning
second-refused-end c k e m w (Err j) n v out is t = rw is
second-refused-end c k e m w (Ok ends.BadFirst) n v out is t = rw is
second-refused-end c k e m w (Ok (ends.Bad d j)) n v out is t = rw is
second-refused-end c k e m w (Ok (ends.Whole d j)) n v out is t = absurd (t d j refl)

-- the four memories are passed
pub both-whole :
    (c d : Chip) (k j : ℕ) (e : Result End ℕ) (m w : List ℕ) (f : Result End ℕ) (n v out : List ℕ) → e ≡ Ok (ends.Whole c k) → f ≡ Ok (ends.Whole d j)
    → 0 ≡ differences_refusal (memories m w) (memories n v)
    → differences_call (compared (values c.registers) m w) (compared (values d.registers) n v) out
    ≡ comparison_of (meaning e m w) (meaning f n v) out
unfolding meaning
both-whole c d k j e m w f n v out is is' none = rw (is, is', ← none)
