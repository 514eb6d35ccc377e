-- What 1 lets pass: four memories of the right length.
use mathlib.Core.Logic.{◌⊎◌, inl, inr, ⊎_elim}
use mathlib.Core.Path.{◌≡◌}
use lib.ListN.{length}
use Rattle.registers.specs.Refusals.{lengths_refusal}
use Rattle.registers.proofs.Refusals.{then-zero}
use Rattle.capture.specs.Where.{Lent}
use Rattle.capture.proofs.Refusals.{by-lent, lent-passes, not-lent, lengths-lent}
use Rattle.differences.specs.Differences.{Memories, differences_refusal}

abbrev pub BothLent : Memories → Memories → Type 0
BothLent a b = Lent a.memory a.writers × Lent b.memory b.writers

module _ (a b : Memories) where
  pub by-both-lent : BothLent a b ⊎ (BothLent a b → ⊥)
  by-both-lent = go (by-lent a.memory a.writers) (by-lent b.memory b.writers)
    where
      go :
          Lent a.memory a.writers ⊎ (Lent a.memory a.writers → ⊥) → Lent b.memory b.writers ⊎ (Lent b.memory b.writers → ⊥)
          → BothLent a b ⊎ (BothLent a b → ⊥)
      go (inl x) (inl y) = inl (x, y)
      go (inl x) (inr n) = inr (λ h. n h.1)
      go (inr n) y = inr (λ h. n h.0)

  pub both-pass : BothLent a b → differences_refusal a b ≡ 0
  both-pass h = rw (lent-passes a.memory a.writers h.0, lent-passes b.memory b.writers h.1)

  pub not-both : (BothLent a b → ⊥) → differences_refusal a b ≡ 1
  not-both n = ⊎_elim first (λ x. rw (not-lent a.memory a.writers x)) (by-lent a.memory a.writers)
    where
      first : Lent a.memory a.writers → differences_refusal a b ≡ 1
      first x = rw (lent-passes a.memory a.writers x) (not-lent b.memory b.writers (λ y. n (x, y)))

  pub none-refused : differences_refusal a b ≡ 0 → BothLent a b
  none-refused e =
      let both = then-zero (lengths_refusal (length a.memory) (length a.writers)) (lengths_refusal (length b.memory) (length b.writers)) e in
      (lengths-lent a.memory a.writers both.0, lengths-lent b.memory b.writers both.1)
