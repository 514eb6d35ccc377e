-- Rows of the tables of wrong programs: something to look at, the number that the definition gives there, and the number of a wrong program.
use Rattle.std.specs.Prelude.{◌≡◌, ℕ}

pub record Observation (Program : Type 0) : Type 0 where
  pub observed : Program → ℕ
  pub right : ℕ
  pub wrong : ℕ

infix 80 ◌gives◌not◌
abbrev pub ◌gives◌not◌ : {Program : Type 0} → (Program → ℕ) → ℕ → ℕ → Observation Program
observed gives n not k = record { observed = observed; right = n; wrong = k }

-- the definition gives the right number, and no program that equals it, as its contract says, gives the wrong one
pub record Distinguishes {Program : Type 0} (definition : Program) (o : Observation Program) : Type 0 where
  pub is_right : o.observed definition ≡ o.right
  pub shut_out : (p : Program) → o.observed p ≡ o.wrong → p ≡ definition → ⊥
