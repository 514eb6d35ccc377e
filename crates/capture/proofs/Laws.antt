-- What is promised of a capture, in one place: read this file first, then specs/Replay.antt and specs/Where.antt. The work stands in the files
-- beside it.
use mathlib.Core.Bool.{Bool, true, false, not}
use mathlib.Core.List.{List, [], ◌∷◌, ◌++◌, append_assoc, append-nil}
use mathlib.Core.Logic.{◌⊎◌, inl, inr, ◌↔◌, ⊎_elim}
use mathlib.Core.Path.{◌≡◌, refl, sym, ap, ◌∙◌, subst}
use Prim.Native.Nat.{ℕ, zero, suc, ◌+◌, ◌<◌, ◌≤◌}
use native.Mathlib.Omega.{arith}
use borrow.Author.Tests.{ne_eqb}
use lib.Dec.{T}
use Rattle.std.specs.Prelude.{Ok, Err}
use Rattle.refusals.specs.declared.Refusal.{Refusal}
use Rattle.refusals.specs.Numbers.{number}
use Rattle.refusals.proofs.Positive.{positive}
use Rattle.registers.specs.declared.Chip.{Chip}
use Rattle.registers.specs.declared.PixelCounts.{PixelCounts}
use Rattle.registers.specs.Record.{reset_chip, with_pixels}
use Rattle.registers.specs.Refusals.{refuse, ◌then◌}
use Rattle.registers.specs.State.{State, state, places}
use Rattle.pixel_counts.proofs.Laws.{zeros-cleared}
use Rattle.chip.specs.LastWriter.{Untouched, Written}
use Rattle.chip.specs.Promised.{Fit, Outcome, run_of, refusal_of, counts_of, TrueCounts}
use Rattle.chip.proofs.Laws.{last-writer, true-never-16}
use Rattle.capture_lines.specs.declared.LineSoFar.{LineSoFar}
use Rattle.capture_lines.specs.declared.LineSoFar.TheVariants.{Empty}
use Rattle.capture.specs.declared.Capture.{Capture}
use Rattle.capture.specs.declared.End.TheVariants as ends
use Rattle.capture.specs.Cells.{zeros, start, CellAfter}
use Rattle.capture.specs.Feeding.{Playing, playing, kept, start_of, played, ended_line, ended_past_entry, bytes_fed, capture_allowed, part_refusal, PartFed, fed, feed_of}
use Rattle.capture.specs.Feeding.{then_fed, feed_parts, all_parts, is_over, is_over_at, is_over_fed, kept_refusal, end_of, end_unless, finish_of, finish_fed, meaning}
use Rattle.capture.specs.Reading.{event_lines, capture_text}
use Rattle.capture.specs.Replay.{Replay, refused_by, refused_at, replayed, left_by, started, replay_by, replay_of}
use Rattle.capture.specs.Where.{Lent, PartWhen, Small, Replayed, NoFirstLine, StoppedAfter}
use Rattle.capture.proofs.CodeWays.{same_ended}
use Rattle.capture.proofs.Courses.{Ended, all-replayed, refused-first, refused-after, ended}
use Rattle.capture.proofs.Feeds.{feed-refused, feed-passed, feed-append, feed-over, fed_result, text-replayed, fed-end}
use Rattle.capture.proofs.Lines.{lines-fed}
use Rattle.capture.proofs.Refusals.{by-lent, replay-not-lent, part-refusal-when, part-when, none-refused}
use Rattle.capture.proofs.Written.{capture-played, so-replayed, so-stopped, all-done-fit, all-done-true}

-- ---- refusals by a number

-- a part is refused exactly when document 01's table says: 1 and then 2
pub part-refused-exactly : (part : List ℕ) (p : Playing) (k : ℕ) → ((feed_of part p).refusal ≡ k) ↔ PartWhen p k
part-refused-exactly part p k = (λ e. subst (λ (n : ℕ). PartWhen p n) (sym number ∙ e) (part-refusal-when p), λ h. number ∙ part-when p k h)
  where
    number : (feed_of part p).refusal ≡ part_refusal p
    number = go (part_refusal p) refl
      where
        go : (n : ℕ) → part_refusal p ≡ n → (feed_of part p).refusal ≡ part_refusal p
        go zero e = ap (λ (f : PartFed). f.refusal) (feed-passed part p (none-refused p e)) ∙ sym e
        go (suc n) e = ap (λ (f : PartFed). f.refusal) (feed-refused part p n e) ∙ sym e

-- and then nothing is changed
pub refused-part-unchanged : (part : List ℕ) (p : Playing) → ((feed_of part p).refusal ≡ 0 → ⊥) → (feed_of part p).after ≡ p
refused-part-unchanged part p n = go (part_refusal p) refl
  where
    go : (k : ℕ) → part_refusal p ≡ k → (feed_of part p).after ≡ p
    go zero e = absurd (n (ap (λ (f : PartFed). f.refusal) (feed-passed part p (none-refused p e))))
    go (suc k) e = ap (λ (f : PartFed). f.after) (feed-refused part p k e)

-- the end is refused exactly where the last part was, by its number, or by 2 where what was kept is not allowed
pub finish-refused-exactly :
    (k : ℕ) (c : Capture) (n : ℕ)
    → (finish_of k c ≡ Err n)
    ↔ (((k ≡ n) × (n ≡ 0 → ⊥)) ⊎ ((k ≡ 0) × (n ≡ 2) × (capture_allowed c.line c.chip ≡ false)))
unfolding finish_of
finish-refused-exactly k c n = go k (capture_allowed c.line c.chip)
  where
    no_end : (l : LineSoFar) → Ok (end_of l c.chip c.count) ≡ Err n → ⊥
    no_end l h = let z : ◌≡◌ {A = ℕ} 0 1 = cc h in omega arith

    go :
        (k : ℕ) (a : Bool)
        → (end_unless (k then refuse (not a) 2) (end_of c.line c.chip c.count) ≡ Err n)
        ↔ (((k ≡ n) × (n ≡ 0 → ⊥)) ⊎ ((k ≡ 0) × (n ≡ 2) × (a ≡ false)))
    go zero true = (λ h. absurd (no_end c.line h), ⊎_elim (λ h. absurd (h.1 (sym h.0))) (λ h. absurd (subst T h.2 tt)))
    go zero false = (λ h. inr (refl, cc h, refl), ⊎_elim (λ h. absurd (h.1 (sym h.0))) (λ h. rw h.1))
    go (suc j) a =
        (λ h. let same : suc j ≡ n = cc h in inl (same, λ z. omega arith), ⊎_elim (λ h. rw h.0) (λ h. absurd (omega (arith, h.0))))

-- of a refused part the end and whether it is over are those of its refusal's number, whatever is kept
pub refused-finish : (r : Refusal) (c : Capture) → finish_fed (Err r) ≡ finish_of (number r) c
unfolding finish_of
refused-finish r c = go (number r) (positive r)
  where
    go : (k : ℕ) → 0 < k → Err k ≡ end_unless (k then kept_refusal c.line c.chip) (end_of c.line c.chip c.count)
    go zero h = absurd (omega arith)
    go (suc k) h = refl

pub refused-over : (r : Refusal) (c : Capture) → is_over_fed (Err r) ≡ is_over_at (number r) c.line
refused-over r c = rw (ne_eqb (number r) 0 (λ z. omega (arith, z, positive r)))

-- a whole text is refused by a number exactly where a memory has another length, and then by 1; both memories are as they were lent
pub replay-refused-exactly :
    (text m w : List ℕ) (k : ℕ) (end : State) → (replay_of text m w ≡ refused_by k end) ↔ ((k ≡ 1) × (Lent m w → ⊥) × (end ≡ started 0 m w))
replay-refused-exactly text m w k end =
    (λ e. ⊎_elim (λ lent. absurd (right e (ended m w lent text))) (wrong e) (by-lent m w), λ h. replay-not-lent text m w h.1 ∙ rw (h.0, h.2))
  where
    wrong : replay_of text m w ≡ refused_by k end → (Lent m w → ⊥) → (k ≡ 1) × (Lent m w → ⊥) × (end ≡ started 0 m w)
    wrong e n =
        let same : refused_by k end ≡ refused_by 1 (started 0 m w) = sym e ∙ replay-not-lent text m w n in
        (cc same, n, cc same)

    right : replay_of text m w ≡ refused_by k end → Ended text m w → ⊥
    right e (all-replayed end r q) = let z : ◌≡◌ {A = ℕ} 0 1 = cc in omega arith
    right e (refused-first n q) = let z : ◌≡◌ {A = ℕ} 0 1 = cc in omega arith
    right e (refused-after n end r q) = let z : ◌≡◌ {A = ℕ} 0 1 = cc in omega arith

-- past the entry, where 1 and 2 let the state pass, a line ends as it does with every test
pub ends-past-entry : (l : LineSoFar) (s : State) → Fit s → ended_past_entry l s ≡ ended_line l s
ends-past-entry l s fit = same_ended l s fit

-- whole event lines may be played in one run: it leaves what their bytes leave one by one, and after a refused event the line is bad
pub lines-in-one-run :
    (es rest : List ℕ) (s : State) → Small es → Fit s → bytes_fed (event_lines es rest) (playing Empty s) ≡ bytes_fed rest (played (run_of es s))
lines-in-one-run es rest s small fit = lines-fed es rest s small fit

-- ---- reading in parts

-- a text may be cut anywhere
pub cut-anywhere : (xs ys : List ℕ) (p : Playing) → feed_of (xs ++ ys) p ≡ then_fed (feed_of xs p) ys
cut-anywhere xs ys p = feed-append xs ys p

-- so any parts come to the same as the whole
pub any-parts : (part : List ℕ) (ps : List (List ℕ)) (p : Playing) → feed_parts (feed_of part p) ps ≡ feed_of (part ++ all_parts ps) p
any-parts part [] p = rw (append-nil part)
any-parts part (q ∷ ps) p =
    ap (λ (f : PartFed). feed_parts f ps) (sym (cut-anywhere part q p))
    ∙ any-parts (part ++ q) ps p
    ∙ ap (λ (text : List ℕ). feed_of text p) (append_assoc part q (all_parts ps))

-- once a capture is refused, no byte that follows changes anything
pub refusal-stays : (xs ys : List ℕ) (p : Playing) → is_over (feed_of xs p) ≡ true → feed_of (xs ++ ys) p ≡ feed_of xs p
refusal-stays xs ys p h = feed-over xs ys p h

-- so nothing depends on what was left unread of a refused capture
pub rest-unread : (text rest m w : List ℕ) → is_over (feed_of text (kept start_of m w)) ≡ true → replay_of (text ++ rest) m w ≡ replay_of text m w
rest-unread text rest m w h =
    sym (text-replayed (text ++ rest) m w) ∙ ap fed_result (refusal-stays text rest (kept start_of m w) h) ∙ text-replayed text m w

-- a capture fed from the start, in any parts, and finished is the replay of its text, whatever the memories
pub fed-is-replayed :
    (part : List ℕ) (ps : List (List ℕ)) (m₀ w₀ : List ℕ) (k : ℕ) (c : Capture) (m w : List ℕ)
    → fed k c m w ≡ feed_parts (feed_of part (kept start_of m₀ w₀)) ps → meaning (finish_of k c) m w ≡ replay_of (part ++ all_parts ps) m₀ w₀
fed-is-replayed part ps m₀ w₀ k c m w h =
    let whole : fed k c m w ≡ feed_of (part ++ all_parts ps) (kept start_of m₀ w₀) = h ∙ any-parts part ps (kept start_of m₀ w₀) in
    fed-end (part ++ all_parts ps) (kept start_of m₀ w₀) k c m w whole ∙ ap fed_result whole ∙ text-replayed (part ++ all_parts ps) m₀ w₀

-- ---- which captures are replayed, and where the others are refused

-- replayed exactly if it is the text of a capture, to the byte, whose events are all done
pub is-replayed : (text m w : List ℕ) (end : State) → (replay_of text m w ≡ replayed end) ↔ Replayed text m w end
is-replayed text m w end = (λ h. ⊎_elim (λ lent. there (ended m w lent text) h) (λ n. absurd (wrong n h)) (by-lent m w), so-replayed text m w end)
  where
    wrong : (Lent m w → ⊥) → replay_of text m w ≡ replayed end → ⊥
    wrong n h = let z : ◌≡◌ {A = ℕ} 0 1 = cc (replay-not-lent text m w n) in omega arith

    there : Ended text m w → replay_of text m w ≡ replayed end → Replayed text m w end
    there (all-replayed e r q) h = let same : e ≡ end = cc in subst (λ (s : State). Replayed text m w s) same r
    there (refused-first n q) h = absurd (let z : ◌≡◌ {A = ℕ} 0 1 = cc in omega arith)
    there (refused-after n e r q) h = absurd (let z : ◌≡◌ {A = ℕ} 0 1 = cc in omega arith)

-- refused at line 1 exactly if it does not begin with a first line
pub is-refused-first :
    (text m w : List ℕ) (end : State) → (replay_of text m w ≡ refused_at 1 end) ↔ Lent m w × NoFirstLine text × (end ≡ started 0 m w)
is-refused-first text m w end =
    (λ h. ⊎_elim (λ lent. there lent (ended m w lent text) h) (λ n. absurd (wrong n h)) (by-lent m w), λ h. back h.1 h.2 (ended m w h.0 text))
  where
    wrong : (Lent m w → ⊥) → replay_of text m w ≡ refused_at 1 end → ⊥
    wrong n h = let z : ◌≡◌ {A = ℕ} 0 1 = cc (replay-not-lent text m w n) in omega arith

    there : Lent m w → Ended text m w → replay_of text m w ≡ refused_at 1 end → Lent m w × NoFirstLine text × (end ≡ started 0 m w)
    there lent (all-replayed e r q) h = absurd (let z : ◌≡◌ {A = ℕ} 0 1 = cc in omega arith)
    there lent (refused-first n q) h = (lent, n, cc)
    there lent (refused-after n e r q) h = absurd (let z : 1 ≡ n + 2 = cc in omega arith)

    back : NoFirstLine text → end ≡ started 0 m w → Ended text m w → replay_of text m w ≡ refused_at 1 end
    back n s (all-replayed e r q) = absurd (n r.pins _ r.pins_allowed r.written)
    back n s (refused-first _ q) = q ∙ rw s
    back n s (refused-after k e r q) = absurd (n r.pins _ r.pins_allowed r.written)

-- refused at line n + 2 exactly if n events stand before it, all done, and that line has no newline, is no number or is an event that is refused
pub is-refused-after : (n : ℕ) (text m w : List ℕ) (end : State) → (replay_of text m w ≡ refused_at (n + 2) end) ↔ StoppedAfter n text m w end
is-refused-after n text m w end =
    (λ h. ⊎_elim (λ lent. there (ended m w lent text) h) (λ n. absurd (wrong n h)) (by-lent m w), so-stopped n text m w end)
  where
    wrong : (Lent m w → ⊥) → replay_of text m w ≡ refused_at (n + 2) end → ⊥
    wrong other h = let z : ◌≡◌ {A = ℕ} 0 1 = cc (replay-not-lent text m w other) in omega arith

    there : Ended text m w → replay_of text m w ≡ refused_at (n + 2) end → StoppedAfter n text m w end
    there (all-replayed e r q) h = absurd (let z : ◌≡◌ {A = ℕ} 0 1 = cc in omega arith)
    there (refused-first _ q) h = absurd (let z : 1 ≡ n + 2 = cc in omega arith)
    there (refused-after k e r q) h =
        let same : e ≡ end = cc in
        let lines : k + 2 ≡ n + 2 = cc in
        let many : k ≡ n = omega arith in
        subst (λ (s : State). StoppedAfter n text m w s) same (subst (λ (i : ℕ). StoppedAfter i text m w e) many r)

-- the text of a capture comes to what the chip's run over its events gives: the end, or a refusal at the line of the first event not done
pub capture-runs :
    (pins : ℕ) (es m w : List ℕ) → pins ≤ 3 → Small es → Lent m w
    → replay_of (capture_text pins es) m w ≡ replay_by (run_of es (started pins m w)) true
capture-runs pins es m w two small lent = capture-played m w lent pins es two small

-- after a capture that is replayed the record is allowed and the memories have their length
pub end-fit : (text m w : List ℕ) (end : State) → Replayed text m w end → Fit end
end-fit text m w end r = all-done-fit r.pins r.events m w end r.pins_allowed r.lent r.done

-- ---- the pixels by value (document 02, W8)

-- after a capture that is replayed, and where one is refused at a line, the chip's counts are true
pub end-true : (text m w : List ℕ) (end : State) → Replayed text m w end → TrueCounts end
end-true text m w end r = all-done-true r.pins r.events m w end r.done

pub stopped-true : (n : ℕ) (text m w : List ℕ) (end : State) → StoppedAfter n text m w end → TrueCounts end
stopped-true n text m w end r = all-done-true r.pins r.events m w end r.done

-- so they are whatever the text and the memories
pub leaves-true : (text m w : List ℕ) → TrueCounts (left_by (replay_of text m w))
leaves-true text m w = ⊎_elim (λ lent. over (ended m w lent text)) (λ n. rw (replay-not-lent text m w n)) (by-lent m w)
  where
    over : Ended text m w → TrueCounts (left_by (replay_of text m w))
    over (all-replayed end r q) = rw q (end-true text m w end r)
    over (refused-first n q) = rw q
    over (refused-after n end r q) = rw q (stopped-true n text m w end r)

-- and so are those of the chip that an end hands out, which `state` prints: they are the counts of the memory as it is then
pub whole-true : (c : Chip) (n : ℕ) (m w text m₀ w₀ : List ℕ) → meaning (Ok (ends.Whole c n)) m w ≡ replay_of text m₀ w₀ → c.pixels ≡ counts_of m
unfolding meaning
whole-true c n m w text m₀ w₀ h = subst (λ (r : Replay). TrueCounts (left_by r)) (sym h) (leaves-true text m₀ w₀)

-- over memories of zeros a capture begins with the chip as a reset leaves it
pub starts-cleared : (pins : ℕ) → start pins ≡ state (reset_chip pins) zeros zeros 0
starts-cleared pins = ap (λ (n : PixelCounts). state (with_pixels (reset_chip pins) n) zeros zeros 0) (zeros-cleared places)

-- no event of a capture is refused by 16
pub never-16 : (n : ℕ) (text m w : List ℕ) (end : State) → StoppedAfter n text m w end → (e : ℕ) → refusal_of e end ≡ 16 → ⊥
never-16 n text m w end r e = true-never-16 e end (stopped-true n text m w end r)

-- ---- the last writer

-- each cell after a capture that is replayed over memories of zeros: no event was stored there and it has no writer, or the last one that was is named
-- by the writer, from 1, and left its byte
pub last-writers : (text : List ℕ) (end : State) (r : Replayed text zeros zeros end) (k : ℕ) → CellAfter r.pins r.events end k
last-writers text end r k =
    let s : State = start r.pins in
    subst (λ (o : Outcome). Untouched r.events o.done s o.state k ⊎ Written r.events o.done s o.state k) r.done
    (last-writer r.events s k)
