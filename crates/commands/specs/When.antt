-- When each answer to a command byte comes, in the data sheet's words (document 02, W5).
use Rattle.std.specs.Prelude.{true, false, ◌⊎◌, ◌≡◌, ℕ, ◌+◌, ◌^◌, ◌<◌, length}
use Rattle.registers.specs.Table.{rows, matches_at}
use Rattle.commands.specs.declared.answer.CommandAnswer.{CommandAnswer}
use Rattle.commands.specs.declared.answer.CommandAnswer.TheVariants.{Taken, Unknown, OutOfRange}

-- no row that stands in page h takes byte b
abbrev pub OfNoRow : ℕ → ℕ → Type 0
OfNoRow h b = (i : ℕ) → i < length rows → matches_at i h b ≡ false

-- one does
abbrev pub OfSomeRow : ℕ → ℕ → Type 0
OfSomeRow h b = (i : ℕ) × (i < length rows) × (matches_at i h b ≡ true)

-- byte b is this code with a number in its lowest bits, and the number is above the limit
pub record TooHigh (limit code width b : ℕ) : Type 0 where
  pub number : ℕ
  pub says : b ≡ code + number
  pub above_limit : limit < number
  pub in_bits : number < 2 ^ width

-- in page 0: a page above 4, a Y above 16 or an X above 100
abbrev pub NoSuchAddress : ℕ → ℕ → Type 0
NoSuchAddress h b = (h ≡ 0) × (TooHigh 4 0b0000_1000 3 b ⊎ (TooHigh 16 0b0100_0000 5 b ⊎ TooHigh 100 0b1000_0000 7 b))

abbrev pub CommandWhen : ℕ → ℕ → CommandAnswer → Type 0
CommandWhen h b Taken = OfSomeRow h b × (NoSuchAddress h b → ⊥)
CommandWhen h b Unknown = OfNoRow h b
CommandWhen h b OutOfRange = NoSuchAddress h b
