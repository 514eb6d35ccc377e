-- What is promised of the crew's question, in one place: read this file first, then specs/Answer.antt. The work stands in the files beside it.
use mathlib.Core.List.{List, [], Memᴰ}
use mathlib.Core.Logic.{◌⊎◌, inl, inr, ◌↔◌, ⊎_elim}
use mathlib.Core.Path.{◌≡◌, refl, sym, ap, ◌∙◌, subst}
use Prim.Native.Nat.{ℕ, suc, ◌+◌, ◌*◌, ◌/◌, ◌%◌}
use native.Mathlib.Omega.{arith}
use Rattle.std.specs.Prelude.{Result, Ok, Err}
use lib.ListN.{length, get_or}
use Rattle.registers.specs.declared.Chip.{Chip}
use Rattle.registers.specs.Refusals.{lengths_refusal}
use Rattle.registers.specs.State.{State}
use Rattle.glass.specs.declared.answer.Shown.TheVariants as shown
use Rattle.glass.specs.Glass.{cell_of}
use Rattle.glass.specs.When.{OnGlass, PlaceWhen}
use Rattle.glass.proofs.Laws.{place-refused-when}
use Rattle.text.specs.Text.{bytes}
use Rattle.print.specs.Printed.{Refused, decimal_of, Output, whole_text, NumberSays}
use Rattle.print.proofs.Laws.{number-says, refused-exactly}
use Rattle.chip.specs.Promised.{Fit}
use Rattle.capture.specs.declared.End.{End}
use Rattle.capture.specs.Cells.{zeros}
use Rattle.capture.specs.Feeding.{meaning}
use Rattle.capture.specs.Replay.{Replay, refused_at, replayed, replay_of}
use Rattle.capture.specs.Where.{Lent, Replayed}
use Rattle.capture.proofs.Laws.{is-replayed, end-fit}
use Rattle.capture.proofs.Refusals.{by-lent, lent-passes, not-lent}
use Rattle.listing.specs.Listing.{cell, cells_of, refused_of}
use Rattle.listing.specs.ReplayText.{text_unless}
use Rattle.listing.proofs.Laws.{memories-of, cells_exactly}
use Rattle.origin.specs.declared.Origin.{Origin}
use Rattle.origin.specs.Answer.{Answers, TellsWho}
use Rattle.origin.specs.Call.{told_at, origin_call, origin_number, told_of, origin_text_call}
use Rattle.origin.specs.Origin.{origin_at, shown_text, origin_text}
use Rattle.origin.proofs.Answers.{origin_of, place-told, answered, same_answer}
-- line by line, what stands in the text
pub use Rattle.origin.proofs.TextLines.{eleven-lines}
-- how long the text is at most
pub use Rattle.origin.proofs.Bounds.{origin-bound}

-- ---- which event wrote what I point at?

-- after a capture that is replayed from zeros, of every row and column of the glass: where the pixel stands, what it shows and by which byte, and the
-- last display byte of the capture that was stored there, by its number and its line, or none
pub who : (text : List ℕ) (end : State) (r : Replayed text zeros zeros end) (row column : ℕ) → OnGlass row column
    → Answers text r.pins r.events end row column (origin_of end row column)
who text end r row column on = answered text end r row column on

-- no other answer is right: an answer that says so much of the capture has the same row, column, place, byte, value and event, and shows the same
pub one_answer :
    (text : List ℕ) (pins : ℕ) (es : List ℕ) (end : State) (row column : ℕ) (o q : Origin)
    → Answers text pins es end row column o → Answers text pins es end row column q → o ≡ q
one_answer text pins es end row column o q a b = same_answer text pins es end row column o q a b

-- and that is what is printed of it, whole where there is room
pub who-prints :
    (text m w out : List ℕ) (e : Result End ℕ) (end : State) (row column : ℕ) → OnGlass row column
    → meaning e m w ≡ replay_of text zeros zeros → (h : replay_of text zeros zeros ≡ replayed end)
    → TellsWho text ((is-replayed text zeros zeros end).0 h).pins ((is-replayed text zeros zeros end).0 h).events end row column out
    (origin_text_call e m w row column out)
unfolding origin_text_call origin_call
who-prints text m w out e end row column on same h =
    record { origin = origin_of end row column; is_text = go (memories-of e m w end (same ∙ h)); answers = who text end r row column on }
  where
    r : Replayed text zeros zeros end
    r = (is-replayed text zeros zeros end).0 h

    fit : Fit end
    fit = end-fit text zeros zeros end r

    lent : Lent end.memory end.writers
    lent = record { memory_long = fit.memory_long; writers_long = fit.writers_long }

    go :
        (m ≡ end.memory) × (w ≡ end.writers)
        → text_unless (lengths_refusal (length m) (length w)) out (told_of (meaning e m w) row column out) ≡ whole_text 0 (origin_text (origin_of end row column)) out
    go is =
        ap (λ (q : Replay). text_unless (lengths_refusal (length m) (length w)) out (told_of q row column out)) (same ∙ h)
        ∙ rw (is.0, is.1, lent-passes end.memory end.writers lent, place-told text end r row column on)

-- what is printed of a capture that is refused at a line: that line alone, whatever row and column were asked for
pub refusal-prints :
    (m w out : List ℕ) (e : Result End ℕ) (n : ℕ) (s : State) (row column : ℕ) → Lent m w → meaning e m w ≡ refused_at n s
    → origin_text_call e m w row column out ≡ whole_text 0 (refused_of [] n) out
unfolding origin_text_call
refusal-prints m w out e n s row column lent same = rw (lent-passes m w lent, same)

-- the listing of the same capture has the cell, with this byte and this event, exactly where an event is told
pub as-listed :
    (text : List ℕ) (end : State) (r : Replayed text zeros zeros end) (row column : ℕ) → OnGlass row column → let o = origin_of end row column in
    Memᴰ (cell (o.place % 101) (o.place / 101) o.byte o.event) (cells_of end.memory end.writers) ↔ (o.event ≡ 0 → ⊥)
as-listed text end r row column on =
    let right = who text end r row column on in
    let o : Origin = origin_of end row column in
    let exactly = cells_exactly end.memory end.writers (cell (o.place % 101) (o.place / 101) o.byte o.event) in
    let place : 101 * (o.place / 101) + o.place % 101 ≡ o.place = omega arith in (
      λ listed. (exactly.0 listed).written,
      λ some. exactly.1 (record {
        column_there = omega arith;
        bank_there = right.stands.bank_there;
        written = some;
        writer = ap (λ (p : ℕ). get_or end.writers p 0) place;
        stored = ap (λ (p : ℕ). get_or end.memory p 0) place;
      }),
    )

-- ---- refusals by a number

module _ (c : Chip) (m w : List ℕ) (row column : ℕ) (out : List ℕ) where
  told-refused : (found : Result ℕ ℕ) (k : ℕ) → (told_at c m w row column found out).answer ≡ Refused (suc k) → found ≡ Err (suc k)
  told-refused (Err n) k e = let same : n ≡ suc k = cc e in ap (λ (i : ℕ). Err i) same
  told-refused (Ok p) k e =
      let none = ((refused-exactly 0 (origin_text (origin_at c m w row column p)) out (suc k)).0 e).0 in
      absurd (omega (arith, none))

  -- what is answered where the lengths are refused by x, 0 being none
  abbrev called : ℕ → Output
  called x = text_unless x out (told_at c m w row column (cell_of c row column) out)

  as-the-glass : (k : ℕ) → ((called 0).answer ≡ Refused (suc k)) ↔ PlaceWhen c row column (suc k)
  as-the-glass k =
      (λ e. (place-refused-when c row column k).0 (told-refused (cell_of c row column) k e), λ h. rw ((place-refused-when c row column k).1 h))

  by_length : (k : ℕ) → ((called 1).answer ≡ Refused (suc k)) ↔ (suc k ≡ 1)
  by_length k = (λ e. cc e, λ h. rw h)

  -- 1 exactly where a memory has another length; then 2 and 5 exactly as the glass gives them for the place: a record that is not allowed, a row above
  -- 66 or a column above 100
  pub origin-refused-exactly :
      (k : ℕ)
      → ((origin_call c m w row column out).answer ≡ Refused (suc k))
      ↔ (((suc k ≡ 1) × (Lent m w → ⊥)) ⊎ (Lent m w × PlaceWhen c row column (suc k)))
  unfolding origin_call
  origin-refused-exactly k = (
    λ e. ⊎_elim (λ lent. inr (lent, (as-the-glass k).0 (rw (lent-passes m w lent) at e))) (λ n. inl ((by_length k).0 (rw (not-lent m w n) at e), n)) (by-lent m w),
    ⊎_elim (λ h. rw (not-lent m w h.1) ((by_length k).1 h.0)) (λ h. rw (lent-passes m w h.0) ((as-the-glass k).1 h.1)),
  )

-- the number of what is printed of a replayed capture: 10 exactly where the output is shorter than the text, 0 exactly where the text was written
pub who-number-exactly :
    (text : List ℕ) (pins : ℕ) (es : List ℕ) (end : State) (row column : ℕ) (out : List ℕ) (printed : Output)
    → (tells : TellsWho text pins es end row column out printed) → NumberSays origin_number 10 (origin_text tells.origin) out printed
who-number-exactly text pins es end row column out printed tells =
    subst (λ (o : Output). NumberSays origin_number 10 (origin_text tells.origin) out o) (sym tells.is_text)
    (number-says 10 (λ z. omega arith) (origin_text tells.origin) out)

-- ---- the text to the byte

-- the first marked stream, in the row and column of its cell: dark, since the chip comes up in power-down
pub marked-origin :
    origin_text
    (record { row = 8; column = 5; shows = shown.Dark; ram = 8; place = 207; byte = 167; value = 3; event = 10 })
    ≡ bytes "row\t8\ncolumn\t5\nshows\tdark\nram row\t8\nbank\t2\ncell column\t5\nplace\t207\nbyte\t167\nvalue\t3\nevent\t10\nline\t11\n"
unfolding origin_text decimal_of
marked-origin = refl

-- a cell that no event wrote, on a glass that is turned upside down
pub marked-unwritten :
    origin_text
    (record { row = 58; column = 100; shows = shown.Level 64; ram = 8; place = 302; byte = 0; value = 0; event = 0 })
    ≡ bytes "row\t58\ncolumn\t100\nshows\tlevel 64\nram row\t8\nbank\t2\ncell column\t100\nplace\t302\nbyte\t0\nvalue\t0\nevent\t0\nline\t0\n"
unfolding origin_text decimal_of
marked-unwritten = refl

pub marked-undriven : shown_text shown.Undriven ≡ bytes "undriven"
marked-undriven = refl
