-- What is promised of the listing, in one place: read this file first. The work stands in the files beside it.
use mathlib.Core.Path.{◌≡◌, refl, ap, ◌∙◌}
use mathlib.Core.List.{List, [], ◌∷◌, ◌++◌, Memᴰ}
use mathlib.Core.Logic.{◌↔◌}
use Prim.Native.Nat.{ℕ, ◌+◌, ◌*◌}
use Rattle.std.specs.Prelude.{Result, Ok, Err}
use native.Mathlib.Omega.{arith}
use lib.ListN.{get_or, length}
use Rattle.registers.specs.Refusals.{lengths_refusal}
use Rattle.registers.specs.State.{State, state, places}
use Rattle.text.specs.Text.{bytes}
use Rattle.print.specs.Printed.{Refused, decimal_of, whole_text, NumberSays}
use Rattle.print.specs.Chosen.{chosen_from, InOrder}
use Rattle.print.proofs.Chosen.{so-not-same, so-same, chosen-exactly, one-chosen, chosen-in-order}
use Rattle.print.proofs.Laws.{number-says, refused-by-1}
use Rattle.chip.specs.Promised.{Fit}
use Rattle.capture.specs.declared.End.{End}
use Rattle.capture.specs.declared.End.TheVariants as ends
use Rattle.capture.specs.Cells.{zeros}
use Rattle.capture.specs.Feeding.{meaning}
use Rattle.capture.specs.Replay.{Replay, refused_at, replayed, replay_of}
use Rattle.capture.specs.Where.{Lent, Replayed}
use Rattle.capture.proofs.Laws.{is-replayed, end-fit}
use Rattle.capture.proofs.Refusals.{by-lent, lent-passes, not-lent}
use Rattle.listing.specs.LastWriters.{NamesLastWriter, ListsLastWriters}
use Rattle.listing.specs.Listing.{Cell, cell, cell_at, is_written, cells_of, header, cells_text, listing_of, refused_of, listing_number, listing_call}
use Rattle.listing.specs.Order.{WrittenCell, Before}
use Rattle.listing.specs.ReplayText.{refused_call, text_of_replay, text_unless, replay_text_call}
use Rattle.listing.proofs.LastWriters.{named, listed}
use Rattle.listing.proofs.CodeWays.{refused-by-memories}
use Rattle.listing.proofs.WrittenCells.{place-order, from-chosen, so-chosen}
-- how long the two texts are at most
pub use Rattle.listing.proofs.Lines.{listing-bound, refused-bound}

-- the memories of an end that is a replay's are the replay's
pub memories-of : (e : Result End ℕ) (m w : List ℕ) (end : State) → meaning e m w ≡ replayed end → (m ≡ end.memory) × (w ≡ end.writers)
unfolding meaning
memories-of (Err k) m w end q = absurd (let z : ◌≡◌ {A = ℕ} 0 1 = cc q in omega arith)
memories-of (Ok ends.BadFirst) m w end q = absurd (let z : ◌≡◌ {A = ℕ} 0 1 = cc q in omega arith)
memories-of (Ok (ends.Bad c n)) m w end q = absurd (let z : ◌≡◌ {A = ℕ} 0 1 = cc q in omega arith)
memories-of (Ok (ends.Whole c n)) m w end q =
    let same : state c m w n ≡ end = cc q in
    (ap (λ (s : State). s.memory) same, ap (λ (s : State). s.writers) same)

module _ (memory writers : List ℕ) where
  -- by bank, then column, and no cell twice
  pub cells_in_order : InOrder Before (cells_of memory writers)
  unfolding cells_of
  cells_in_order = chosen-in-order (is_written writers) (cell_at memory writers) Before place-order places 0

  -- a cell is there exactly if it is that of a cell with a writer
  pub cells_exactly : (r : Cell) → Memᴰ r (cells_of memory writers) ↔ WrittenCell memory writers r
  unfolding cells_of
  cells_exactly r = go places refl
    where
      go : (n : ℕ) → n ≡ 1717 → Memᴰ r (chosen_from (is_written writers) (cell_at memory writers) 0 n) ↔ WrittenCell memory writers r
      go n e =
          let chosen = chosen-exactly (is_written writers) (cell_at memory writers) n r in
          (λ m. from-chosen memory writers n r e (chosen.0 m), λ h. chosen.1 (so-chosen memory writers n r e h))

  -- it is refused exactly where a memory has another length, and then by 1
  pub listing-refused-exactly : (k : ℕ) (out : List ℕ) → ((listing_call memory writers out).answer ≡ Refused k) ↔ ((k ≡ 1) × (Lent memory writers → ⊥))
  listing-refused-exactly k out =
      refused-by-1 (Lent memory writers) (lengths_refusal (length memory) (length writers)) (by-lent memory writers) (lent-passes memory writers)
      (not-lent memory writers) (listing_of memory writers) out k

  -- the number of its answer: 1 where a memory has another length; else 10 exactly where the output is shorter than the listing, 0 exactly where the
  -- listing was written
  pub listing-number-exactly :
      (out : List ℕ)
      → (Lent memory writers → NumberSays listing_number 10 (listing_of memory writers) out (listing_call memory writers out))
      × ((Lent memory writers → ⊥) → listing_number (listing_call memory writers out).answer ≡ 1)
  unfolding whole_text
  listing-number-exactly out = (
    λ lent. rw (lent-passes memory writers lent) (number-says 10 (λ z. omega arith) (listing_of memory writers) out),
    λ n. rw (not-lent memory writers n),
  )

-- and so that of the line of a capture that is refused at a line, which nothing else refuses
pub refused-number-exactly :
    (file : List ℕ) (e : Result End ℕ) (n : ℕ) (s : State) (out : List ℕ) → meaning e [] [] ≡ refused_at n s
    → NumberSays listing_number 10 (refused_of file n) out (refused_call file e out)
unfolding refused_call
refused-number-exactly file e n s out same = rw same (number-says 10 (λ z. omega arith) (refused_of file n) out)

-- that line to the byte, of a capture that is bad at line 13, alone and with its file in front
pub marked-refusals : (refused_of [] 13 ≡ bytes "refused\t13\n") × (refused_of (bytes "2\t") 13 ≡ bytes "refused\t2\t13\n")
unfolding refused_of decimal_of
marked-refusals = (refl, refl)

-- the listing that document 01 gives whole: of all cells only that in column 5 of bank 2 has a writer, event 10, and its byte is 167
pub marked-listing :
    (memory writers : List ℕ) → get_or memory (101 * 2 + 5) 0 ≡ 167 → get_or writers (101 * 2 + 5) 0 ≡ 10
    → ((k : ℕ) → (k ≡ 101 * 2 + 5 → ⊥) → get_or writers k 0 ≡ 0)
    → listing_of memory writers ≡ bytes "column\tbank\tbyte\tevent\n5\t2\t167\t10\n"
unfolding listing_of cells_of decimal_of
marked-listing memory writers byte writer others = ap (λ (rs : List Cell). header ++ cells_text rs) (go places refl)
  where
    go : (n : ℕ) → n ≡ 1717 → chosen_from (is_written writers) (cell_at memory writers) 0 n ≡ cell 5 2 167 10 ∷ []
    go n e =
        one-chosen (is_written writers) (cell_at memory writers) n 0 207 (omega arith) (omega arith) (so-not-same (get_or writers 207 0) 0 (λ z. omega (arith, writer)))
        (λ q away. so-same (get_or writers q 0) 0 (others q away))
        ∙ rw (byte, writer)

-- ---- what the listing of a replay says of its capture: which event wrote this cell?

module _ (text : List ℕ) (end : State) (r : Replayed text zeros zeros end) where
  -- it has the cell exactly where the capture's event of that number is the last display byte stored there, with that byte
  pub lists-the-last-writers : (c : Cell) → Memᴰ c (cells_of end.memory end.writers) ↔ NamesLastWriter r.pins r.events c
  lists-the-last-writers c = (
    λ m. named text end r c ((cells_exactly end.memory end.writers c).0 m),
    λ n. (cells_exactly end.memory end.writers c).1 (listed text end r c n),
  )

  -- so the text is the header and those cells, by bank, then column
  pub listing-lists : ListsLastWriters r.pins r.events (listing_of end.memory end.writers)
  unfolding listing_of
  listing-lists =
      record {
        cells = cells_of end.memory end.writers;
        is_text = refl;
        in_order = cells_in_order end.memory end.writers;
        exactly = lists-the-last-writers;
      }

-- what is printed of a capture that is replayed from zeros: that text
pub replay-prints :
    (text m w out : List ℕ) (e : Result End ℕ) (end : State) → meaning e m w ≡ replay_of text zeros zeros → (h : replay_of text zeros zeros ≡ replayed end)
    → (replay_text_call e m w out ≡ whole_text 0 (listing_of end.memory end.writers) out)
    × ListsLastWriters ((is-replayed text zeros zeros end).0 h).pins ((is-replayed text zeros zeros end).0 h).events (listing_of end.memory end.writers)
unfolding replay_text_call
replay-prints text m w out e end same h = (go (memories-of e m w end (same ∙ h)), listing-lists text end r)
  where
    r : Replayed text zeros zeros end
    r = (is-replayed text zeros zeros end).0 h

    fit : Fit end
    fit = end-fit text zeros zeros end r

    go :
        (m ≡ end.memory) × (w ≡ end.writers)
        → text_unless (lengths_refusal (length m) (length w)) out (text_of_replay (meaning e m w) out) ≡ whole_text 0 (listing_of end.memory end.writers) out
    go is =
        let lent : Lent end.memory end.writers = record { memory_long = fit.memory_long; writers_long = fit.writers_long } in
        ap (λ (q : Replay). text_unless (lengths_refusal (length m) (length w)) out (text_of_replay q out)) (same ∙ h)
        ∙ rw (is.0, is.1, lent-passes end.memory end.writers lent)

-- what is printed of one that is refused at a line: that line alone
pub refusal-prints :
    (m w out : List ℕ) (e : Result End ℕ) (n : ℕ) (s : State) → Lent m w → meaning e m w ≡ refused_at n s → replay_text_call e m w out ≡ whole_text 0 (refused_of [] n) out
unfolding replay_text_call
refusal-prints m w out e n s lent same = rw (lent-passes m w lent, same)

-- and of a program that tells its file first, that line with the file in front, whatever the memories
pub refusal-of-a-file :
    (file m w out : List ℕ) (e : Result End ℕ) (n : ℕ) (s : State) → meaning e m w ≡ refused_at n s → refused_call file e out ≡ whole_text 0 (refused_of file n) out
refusal-of-a-file file m w out e n s same = refused-by-memories file e m w out ∙ rw same
