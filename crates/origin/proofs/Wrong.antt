-- What wrong answers to the crew's question are shut out.
use mathlib.Core.List.{List}
use mathlib.Core.Logic.{◌⊎◌, inl, inr}
use mathlib.Core.Path.{◌≡◌, ◌∙◌}
use Prim.Native.Nat.{ℕ, ◌+◌, ◌%◌, ◌-◌, ◌<◌}
use native.Mathlib.Omega.{arith}
use lib.ListN.{length, get_or}
use Rattle.registers.specs.State.{State}
use Rattle.glass.specs.Pixel.{value_in}
use Rattle.chip.specs.LastWriter.{StoredAt, before}
use Rattle.capture.specs.Cells.{start}
use Rattle.origin.specs.declared.Origin.{Origin}
use Rattle.origin.specs.Answer.{RowOf, NeverWritten, WrittenLast, Answers}
use Rattle.origin.specs.Origin.{line_of}

module _ (text : List ℕ) (pins : ℕ) (es : List ℕ) (end : State) (row column : ℕ) (o : Origin) (right : Answers text pins es end row column o) where
  -- MY ignored: the glass's row told as the RAM row; in the middle of the glass they are the same
  pub my-not-ignored : end.chip.registers.my ≡ 1 → (row ≡ 33 → ⊥) → o.ram ≡ row → ⊥
  my-not-ignored my away same = go right.stands.row_of
    where
      go : RowOf end.chip.registers row o.ram → ⊥
      go (inl h) = omega (arith, h.0, my)
      go (inr h) = away (omega (arith, h.1, same))

  -- MX applied when showing: the cell told in the column's mirror image
  pub mx-not-applied : (column ≡ 50 → ⊥) → o.place % 101 ≡ 100 - column → ⊥
  mx-not-applied away mirrored = away (omega (arith, right.stands.in_column, mirrored))

  -- the next row's two bits: of byte 167 in the first row of its bank 1, where 3 is right
  pub not-the-next-pair : o.byte ≡ 167 → o.ram % 4 ≡ 0 → o.value ≡ 1 → ⊥
  not-the-next-pair byte first value =
      let is : o.value ≡ value_in 167 0 = right.value ∙ rw (byte, first) in
      omega (arith, is, value)

  -- "never written" told of a cell where event j, counted from 0, was stored
  pub not-unwritten : (j : ℕ) → j < length es → StoredAt (get_or es j 0) (before es j (start pins)) o.place → o.event ≡ 0 → ⊥
  not-unwritten j h stored none = go right.writer
    where
      go : NeverWritten pins es o ⊎ WrittenLast text pins es o → ⊥
      go (inl never) = never.none_stored j h stored
      go (inr last) = omega (arith, last.numbered, none)

  -- an event named after which another byte was stored there
  pub not-an-earlier-one : (j : ℕ) → o.event < j + 1 → j < length es → StoredAt (get_or es j 0) (before es j (start pins)) o.place → ⊥
  not-an-earlier-one j l h stored = go right.writer
    where
      go : NeverWritten pins es o ⊎ WrittenLast text pins es o → ⊥
      go (inl never) = never.none_stored j h stored
      go (inr last) = last.last.is_last j (omega (arith, last.numbered)) h stored

  -- the event's own number told as its line
  pub not-the-number : (o.event ≡ 0 → ⊥) → line_of o.event ≡ o.event → ⊥
  not-the-number some same = go right.writer
    where
      go : NeverWritten pins es o ⊎ WrittenLast text pins es o → ⊥
      go (inl never) = some never.no_event
      go (inr last) = omega (arith, last.next-line, same)
