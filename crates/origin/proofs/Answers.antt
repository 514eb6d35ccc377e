-- What is told of a pixel after a replayed capture, part by part.
use mathlib.Core.Bool.{true}
use mathlib.Core.List.{List}
use mathlib.Core.Logic.{◌⊎◌, inl, inr}
use mathlib.Core.Path.{◌≡◌, refl, sym, ap, ap₂, ◌∙◌, subst}
use Prim.Native.Nat.{ℕ, zero, suc, ◌+◌, ◌%◌, ◌≤◌, ◌<◌}
use Rattle.std.specs.Prelude.{Result, Ok}
use native.Mathlib.Nat.{zero-add}
use native.Mathlib.Omega.{arith}
use borrow.Author.Tests.{eq-eqb, ne_eqb}
use lib.ListN.{length, get_or, get_or-replicate}
use Rattle.registers.specs.declared.Chip.{Chip}
use Rattle.registers.specs.Record.{allowed}
use Rattle.registers.specs.State.{State, places}
use Rattle.glass.specs.declared.answer.Shown.{Shown}
use Rattle.glass.specs.Glass.{ram_row_of, cell_of, glass_of}
use Rattle.glass.specs.Pixel.{ram_row, value_in, place_at}
use Rattle.glass.specs.When.{OnGlass, Tells}
use Rattle.glass.proofs.Laws.{place-shown, place-within, stands-in-byte, tells}
use Rattle.glass.proofs.Views.{my-bound}
use Rattle.chip.specs.LastWriter.{LastStored}
use Rattle.chip.proofs.LastWriter.{same-last, same_byte}
use Rattle.chip.specs.Promised.{Fit}
use Rattle.capture.specs.Cells.{zeros, start, CellAfter}
use Rattle.capture.specs.Where.{Replayed}
use Rattle.capture.proofs.Laws.{end-fit, last-writers}
use Rattle.origin.specs.declared.Origin.{Origin}
use Rattle.origin.specs.Answer.{RowOf, NeverWritten, WrittenLast, Answers}
use Rattle.origin.specs.Origin.{origin_at, line_of}
use Rattle.origin.proofs.CaptureLines.{event-line}

-- ---- where it stands

row_of : (c : Chip) (row : ℕ) → allowed c ≡ true → row ≤ 66 → RowOf c.registers row (ram_row_of c row)
row_of c row a h = go c.registers.my (my-bound c a)
  where
    go : (my : ℕ) → my ≤ 1 → ((my ≡ 0) × (ram_row my row ≡ row)) ⊎ ((my ≡ 1) × (ram_row my row + row ≡ 66))
    go zero l = inl (refl, refl)
    go (suc zero) l = inr (refl, omega arith)
    go (suc (suc my)) l = absurd (omega arith)

-- two bits are 0 to 3
value-bound : (b k : ℕ) → value_in b k ≤ 3
value-bound b k = omega arith

-- ---- which event

line-of : (event : ℕ) → (event ≡ 0 → ⊥) → line_of event ≡ event + 1
line-of event n = simp (ne_eqb event 0 n)

-- of an answer that has what stands in the memories at its place
module _
    (text : List ℕ) (end : State) (r : Replayed text zeros zeros end) (o : Origin) (within : o.place < places)
    (byte : get_or end.memory o.place 0 ≡ o.byte) (event : get_or end.writers o.place 0 ≡ o.event) where
  written-by : NeverWritten r.pins r.events o ⊎ WrittenLast text r.pins r.events o
  written-by = go (last-writers text end r o.place)
    where
      go : CellAfter r.pins r.events end o.place → NeverWritten r.pins r.events o ⊎ WrittenLast text r.pins r.events o
      go (inl u) =
          let none : get_or zeros o.place 0 ≡ 0 = get_or-replicate {A = ℕ} places o.place 0 0 within in
          let no_event : o.event ≡ 0 = sym event ∙ u.writer ∙ none in
          inl (record {
            none_stored = u.none;
            no_byte = sym byte ∙ u.byte ∙ none;
            no_event = no_event;
            no_line = simp (eq-eqb o.event 0 no_event);
          })
      go (inr w) =
          let number : o.event ≡ w.last.event + 1 = sym event ∙ w.writer ∙ zero-add (w.last.event + 1) in
          let next : line_of o.event ≡ o.event + 1 = line-of o.event (λ z. omega (arith, number, z)) in
          inr (record {
            last = w.last;
            numbered = number;
            byte = sym byte ∙ w.byte;
            next-line = next;
            in_line =
                event-line r.pins r.events text w.last.event (line_of o.event) r.written w.last.is_done (omega (arith, next, number));
          })

-- ---- all of it

-- what is told of a row and column after a run that left this state
abbrev pub origin_of : State → ℕ → ℕ → Origin
origin_of end row column = origin_at end.chip end.memory end.writers row column (place_at (ram_row_of end.chip row) column)

module _ (text : List ℕ) (end : State) (r : Replayed text zeros zeros end) (row column : ℕ) (on : OnGlass row column) where
  pub place-told : cell_of end.chip row column ≡ Ok (origin_of end row column).place
  place-told = place-shown end.chip row column ((end-fit text zeros zeros end r).is-allowed, on)

  pub answered : Answers text r.pins r.events end row column (origin_of end row column)
  answered =
      let fit : Fit end = end-fit text zeros zeros end r in
      let p : ℕ = (origin_of end row column).place in
      let inside = place-within end.chip row column p place-told in
      let shown : glass_of end.chip end.memory row column ≡ Ok (origin_of end row column).shows =
      stands-in-byte end.chip end.memory row column p fit.memory_long place-told in
      record {
        row_asked = refl;
        column_asked = refl;
        is_place = place-told;
        within = inside.0;
        stands = record {
          row_of = row_of end.chip row fit.is-allowed on.row_there;
          bank_there = omega (arith, inside.0);
          in_bank = omega (arith, inside.1);
          in_column = inside.2;
          at_place = omega (arith, inside.2);
        };
        shows = shown;
        by_byte = refl;
        told = subst (λ (s : Result Shown ℕ). Tells s) shown (tells end.chip end.memory row column (fit.memory_long, fit.is-allowed, on));
        value = refl;
        value_there = value-bound (get_or end.memory p 0) (ram_row_of end.chip row % 4);
        writer = written-by text end r (origin_of end row column) inside.0 refl refl;
      }

-- ---- no other answer

abbrev made : ℕ → ℕ → Shown → ℕ → ℕ → ℕ → ℕ → ℕ → Origin
made row column s ram p byte value event =
    record { row = row; column = column; shows = s; ram = ram; place = p; byte = byte; value = value; event = event }

same-origin :
    (o q : Origin) → o.row ≡ q.row → o.column ≡ q.column → o.shows ≡ q.shows → o.ram ≡ q.ram → o.place ≡ q.place → o.byte ≡ q.byte
    → o.value ≡ q.value → o.event ≡ q.event → o ≡ q
same-origin o q row column shows ram place byte value event = all
  where
    all :
        made o.row o.column o.shows o.ram o.place o.byte o.value o.event
        ≡ made q.row q.column q.shows q.ram q.place q.byte q.value q.event
    all = rw (row, column, shows, ram, place, byte, value, event)

-- a row of the glass is one RAM row
one-row : (my row a b : ℕ) → ((my ≡ 0) × (a ≡ row)) ⊎ ((my ≡ 1) × (a + row ≡ 66)) → ((my ≡ 0) × (b ≡ row)) ⊎ ((my ≡ 1) × (b + row ≡ 66)) → a ≡ b
one-row my row a b (inl h) (inl l) = h.1 ∙ sym l.1
one-row my row a b (inl h) (inr l) = absurd (omega (arith, h.0, l.0))
one-row my row a b (inr h) (inl l) = absurd (omega (arith, h.0, l.0))
one-row my row a b (inr h) (inr l) = omega (arith, h.1, l.1)

module _ (text : List ℕ) (pins : ℕ) (es : List ℕ) (o q : Origin) (place : o.place ≡ q.place) where
  one_writer :
      NeverWritten pins es o ⊎ WrittenLast text pins es o → NeverWritten pins es q ⊎ WrittenLast text pins es q → (o.byte ≡ q.byte) × (o.event ≡ q.event)
  one_writer (inl a) (inl b) = (a.no_byte ∙ sym b.no_byte, a.no_event ∙ sym b.no_event)
  one_writer (inl a) (inr b) = absurd (a.none_stored b.last.event b.last.is_done (rw place b.last.is_stored))
  one_writer (inr a) (inl b) = absurd (b.none_stored a.last.event a.last.is_done (rw (← place) a.last.is_stored))
  one_writer (inr a) (inr b) =
      let here : LastStored es (length es) (start pins) q.place = record {
        event = a.last.event;
        is_done = a.last.is_done;
        is_stored = rw (← place) a.last.is_stored;
        is_last = λ j after done stored. a.last.is_last j after done (rw place stored);
      } in (
        a.byte ∙ same_byte here b.last ∙ sym b.byte,
        a.numbered ∙ ap (λ (i : ℕ). i + 1) (same-last here b.last) ∙ sym b.numbered,
      )

module _ (text : List ℕ) (pins : ℕ) (es : List ℕ) (end : State) (row column : ℕ) (o q : Origin) where
  pub same_answer : Answers text pins es end row column o → Answers text pins es end row column q → o ≡ q
  same_answer a b =
      let at_one : ◌≡◌ {A = Result ℕ ℕ} (Ok o.place) (Ok q.place) = sym a.is_place ∙ b.is_place in
      let place : o.place ≡ q.place = cc at_one in
      let both_shown : ◌≡◌ {A = Result Shown ℕ} (Ok o.shows) (Ok q.shows) = sym a.shows ∙ b.shows in
      let shows : o.shows ≡ q.shows = cc both_shown in
      let ram : o.ram ≡ q.ram = one-row end.chip.registers.my row o.ram q.ram a.stands.row_of b.stands.row_of in
      let written = one_writer text pins es o q place a.writer b.writer in
      let value : o.value ≡ q.value = a.value ∙ ap₂ value_in written.0 (ap (λ (r : ℕ). r % 4) ram) ∙ sym b.value in
      same-origin o q (a.row_asked ∙ sym b.row_asked) (a.column_asked ∙ sym b.column_asked) shows ram place written.0 value
      written.1
