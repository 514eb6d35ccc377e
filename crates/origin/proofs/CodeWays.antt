-- Ways through the code, over plain variables: what is printed part by part is the whole line; what stands at the place; and which of the texts is printed.
use mathlib.Core.Path.{◌≡◌, refl, sym, ap, ◌∙◌, subst}
use mathlib.Core.List.{List, [], ◌∷◌, ◌++◌, append_assoc, append-nil}
use Prim.Native.Nat.{ℕ, ◌<◌}
use native.Mathlib.Omega.{arith}
use lib.ListN.{length}
use Rattle.std.specs.Prelude.{Result, Ok, Err}
use Rattle.std.specs.Result.{IsErrAnd}
use Rattle.refusals.specs.declared.Refusal.{Refusal}
use Rattle.refusals.specs.Numbers.{number}
use Rattle.registers.specs.declared.Chip.{Chip}
use Rattle.registers.specs.Refusals.{lengths_refusal}
use Rattle.glass.specs.declared.answer.Shown.{Shown}
use Rattle.glass.specs.Glass.{cell_of}
use Rattle.glass.specs.When.{Told, Tells}
use Rattle.glass.proofs.Laws.{place-within, stands-in-byte, tells}
use Rattle.glass.proofs.Refusals.{place-exactly}
use Rattle.glass.proofs.Views.{found-at}
use Rattle.print.specs.declared.Unprinted.{Unprinted}
use Rattle.print.specs.declared.Unprinted.TheVariants as unprinted
use Rattle.print.specs.Chosen.{line}
use Rattle.print.specs.Printed.{Output, output, whole_text}
use Rattle.print.specs.Prints.{written_of}
use Rattle.capture.specs.declared.End.{End}
use Rattle.capture.specs.declared.End.TheVariants as ends
use Rattle.capture.specs.Feeding.{meaning}
use Rattle.capture.proofs.Refusals.{lengths-lent}
use Rattle.listing.specs.ReplayText.{refused_call}
use Rattle.listing.proofs.CodeWays.{NotWhole}
use Rattle.origin.specs.declared.Origin.{Origin}
use Rattle.origin.specs.Origin.{origin_at, origin_text}
use Rattle.origin.specs.Call.{told_at, origin_call, told_of}

-- ---- the last line of several: a name with its tab, words, a newline

pub last-line : (a b : List ℕ) → (a ++ (9 ∷ [])) ++ (b ++ (10 ∷ [])) ≡ line (a ∷ b ∷ []) ++ []
last-line a b = parted ∙ sym (append-nil (line (a ∷ b ∷ [])))
  where
    parted : (a ++ (9 ∷ [])) ++ (b ++ (10 ∷ [])) ≡ (a ++ 9 ∷ b) ++ (10 ∷ [])
    parted = simp append_assoc

-- ---- the place

module _ (c : Chip) (m w : List ℕ) (row column p : ℕ) (same : 0 ≡ lengths_refusal (length m) (length w)) (at : Ok p ≡ cell_of c row column) where
  -- both memories have it
  pub place-there : (p < length m) × (p < length w)
  place-there =
      let lent = lengths-lent m w (sym same) in
      let within = (place-within c row column p (sym at)).0 in
      (omega (arith, lent.memory_long, within), omega (arith, lent.writers_long, within))

  -- and the glass tells what it shows
  pub shown-told : (o : Origin) → o ≡ origin_at c m w row column p → Told o.shows
  unfolding cell_of
  shown-told o e =
      let lent = lengths-lent m w (sym same) in
      let passed = (place-exactly c row column 0).0 (found-at _ _ p (sym at)).0 in
      let shown = stands-in-byte c m row column p lent.memory_long (sym at) in
      subst (λ (s : Shown). Told s) (sym (ap (λ (told : Origin). told.shows) e))
      (subst (λ (s : Result Shown ℕ). Tells s) shown (tells c m row column (lent.memory_long, passed.0, passed.1)))

module _ (c : Chip) (m w : List ℕ) (row column : ℕ) (out : List ℕ) where
  pub told-there :
      (p : ℕ) (told : Origin) {o : Output} → Ok p ≡ cell_of c row column → told ≡ origin_at c m w row column p → o ≡ whole_text 0 (origin_text told) out
      → o ≡ told_at c m w row column (cell_of c row column) out
  told-there p told at e h =
      h ∙ ap (λ (x : Origin). whole_text 0 (origin_text x) out) e ∙ ap (λ (found : Result ℕ ℕ). told_at c m w row column found out) at

  pub place-refused :
      (o : Result ℕ Unprinted) (r : Refusal) → IsErrAnd o (λ (u : Unprinted). u ≡ unprinted.Refused r) → Err (number r) ≡ cell_of c row column
      → output (written_of o) out ≡ told_at c m w row column (cell_of c row column) out
  place-refused (Ok n) r h e = absurd h
  place-refused (Err u) r h e = rw h (ap (λ (found : Result ℕ ℕ). told_at c m w row column found out) e)

-- ---- what is printed of a capture

-- an end that is no whole capture's
pub refused-told :
    (e : Result End ℕ) (m w : List ℕ) (row column : ℕ) (out : List ℕ) → NotWhole e
    → refused_call [] e out ≡ told_of (meaning e m w) row column out
unfolding refused_call meaning
refused-told (Err k) m w row column out t = refl
refused-told (Ok ends.BadFirst) m w row column out t = refl
refused-told (Ok (ends.Bad c n)) m w row column out t = refl
refused-told (Ok (ends.Whole c n)) m w row column out t = absurd (t c n refl)

-- one that is
pub whole-told :
    (c : Chip) (n : ℕ) (e : Result End ℕ) (m w : List ℕ) (row column : ℕ) (out : List ℕ) → e ≡ Ok (ends.Whole c n)
    → origin_call c m w row column out ≡ told_of (meaning e m w) row column out
unfolding meaning
whole-told c n e m w row column out is = rw is
