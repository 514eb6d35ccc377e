-- What is promised of the compiler, in one place: read this file first, then specs/Demand3.antt. The work stands in the files beside it.
use mathlib.Core.Bool.{Bool, true, false, cond}
use mathlib.Core.List.{List, []}
use mathlib.Core.Logic.{◌↔◌, inl, inr}
use mathlib.Core.Path.{◌≡◌, refl, sym, ap, ◌∙◌, subst}
use Prim.Native.Nat.{ℕ, ◌≤◌, ◌<◌}
use native.Mathlib.Omega.{arith}
use borrow.Author.Tests.{lt-ltb, le-ltb, le-leb, lt-leb, ltb-true, ltb-false, leb-true, leb-false}
use lib.Dec.{leb, ltb}
use lib.ListN.{length}
use lib.Seq.{sets}
use Rattle.registers.specs.declared.Chip.{Chip}
use Rattle.registers.specs.Record.{allowed, blank}
use Rattle.lists.specs.Lists.{Reading, faulty, lines, reading_from, reading_of, newlines}
use Rattle.lists.proofs.Readings.{reading-refused}
use Rattle.drawing.specs.Stream.{stream, clocks_of}
use Rattle.compiler.specs.Answer.{Compiled}
use Rattle.compiler.specs.Answer.{Done, Refused, BadLine, Short}
use Rattle.compiler.specs.Compile.{Result, answered, into_output, from_reading, compile_of, numbers_of}
use Rattle.compiler.specs.Promise.{Promise}
use Rattle.compiler.specs.When.{When, PassesEntry, Streams}
use Rattle.compiler.proofs.Promise.{compile-draws}

-- a bad line's number is 6, 7 or 8
fault-number : (text : List ℕ) (k i : ℕ) → reading_of text ≡ faulty k i → 6 ≤ k
unfolding reading_of
fault-number text k i e = (reading-refused 1 text k i e).least

module _ (c : Chip) (text out : List ℕ) where
  -- demand 3: what was written draws the list on every chip that has that record
  pub demand-3-promised : Promise (compile_of c text out).answer c text (compile_of c text out).out
  demand-3-promised = compile-draws c text out (compile_of c text out).answer (compile_of c text out).out refl

  -- what is known of the answer and the output together
  data AnswerWhen : Result → Type 0 where
    refused : (r : Compiled) → When c text out r → AnswerWhen (answered r out)
    done : (n k : ℕ) (es : List ℕ) → When c text out (Done n k) → AnswerWhen (answered (Done n k) (sets out 0 es))

  into : (es : List ℕ) → PassesEntry c text → Streams c text es → AnswerWhen (into_output es out)
  into es ok streams = go (leb (length es) (length out)) refl
    where
      go :
          (t : Bool) → leb (length es) (length out) ≡ t
          → AnswerWhen (cond t (answered (Done (length es) (clocks_of es)) (sets out 0 es)) (answered (Short (length es)) out))
      go true e = done (length es) (clocks_of es) es (ok, (es, streams, refl, refl, leb-true (length es) (length out) e))
      go false e = refused (Short (length es)) (ok, (es, streams, refl, leb-false (length es) (length out) e))

  from : (r : Reading) → reading_of text ≡ r → PassesEntry c text → AnswerWhen (from_reading c.pins (blank c.registers) r out)
  from (faulty k i) e ok = refused (BadLine k i) (ok, e)
  from (lines ls) e ok = into (stream c.pins ls (blank c.registers)) ok (record { list = ls; reads = e; events = refl })

  answer-when : AnswerWhen (compile_of c text out)
  unfolding compile_of
  answer-when = go (allowed c) refl (ltb 4096 (newlines text)) refl
    where
      go :
          (t : Bool) → allowed c ≡ t → (u : Bool) → ltb 4096 (newlines text) ≡ u
          → AnswerWhen (cond t (cond u (answered (Refused 9) out) (from_reading c.pins (blank c.registers) (reading_of text) out)) (answered (Refused 2) out))
      go false e u d = refused (Refused 2) (inl (refl, e))
      go true e true d = refused (Refused 9) (inr (refl, e, ltb-true 4096 (newlines text) d))
      go true e false d = from (reading_of text) refl (record { allowed_record = e; not_too_long = ltb-false 4096 (newlines text) d })

  when-answered : (r : Result) → AnswerWhen r → When c text out r.answer
  when-answered _ (refused r w) = w
  when-answered _ (done n k es w) = w

  from-reading : PassesEntry c text → compile_of c text out ≡ from_reading c.pins (blank c.registers) (reading_of text) out
  unfolding compile_of
  from-reading ok = rw (ok.allowed_record, le-ltb 4096 (newlines text) ok.not_too_long)

  from-stream : (es : List ℕ) → PassesEntry c text → Streams c text es → compile_of c text out ≡ into_output es out
  from-stream es ok streams =
      from-reading ok
      ∙ ap (λ (r : Reading). from_reading c.pins (blank c.registers) r out) streams.reads
      ∙ ap (λ (l : List ℕ). into_output l out) (sym streams.events)

  so : (r : Compiled) → When c text out r → (compile_of c text out).answer ≡ r
  unfolding compile_of
  so (Refused k) (inl w) = rw (w.1, w.0)
  so (Refused k) (inr w) = rw (w.1, lt-ltb 4096 (newlines text) w.2, w.0)
  so (BadLine k i) w = ap (λ (r : Result). r.answer) (from-reading w.0 ∙ ap (λ (r : Reading). from_reading c.pins (blank c.registers) r out) w.1)
  so (Short n) (ok, (es, streams, count, short)) =
      ap (λ (r : Result). r.answer) (from-stream es ok streams)
      ∙ rw (lt-leb (length es) (length out) (subst (λ (m : ℕ). length out < m) count short), count)
  so (Done n k) (ok, (es, streams, count, clocks, room)) =
      ap (λ (r : Result). r.answer) (from-stream es ok streams)
      ∙ rw (le-leb (length es) (length out) (subst (λ (m : ℕ). m ≤ length out) count room), count, clocks)

  -- each answer comes exactly when document 01's table says
  pub exactly-when : (r : Compiled) → ((compile_of c text out).answer ≡ r) ↔ When c text out r
  exactly-when r = (λ e. subst (When c text out) e (when-answered (compile_of c text out) answer-when), so r)

  -- the length is that of the stream, the clocks are nine for each of its bytes, and the output begins with it and is else as it was
  pub accepted :
      (es : List ℕ) → PassesEntry c text → Streams c text es → length es ≤ length out
      → compile_of c text out ≡ answered (Done (length es) (clocks_of es)) (sets out 0 es)
  accepted es ok streams room = from-stream es ok streams ∙ rw (le-leb (length es) (length out) room)

  -- in document 01's numbers: 2 comes exactly where the record is not allowed
  pub two-exactly : ((numbers_of (compile_of c text out).answer).number ≡ 2) ↔ (allowed c ≡ false)
  two-exactly = (
    λ e. there (compile_of c text out).answer (when-answered (compile_of c text out) answer-when) e,
    λ h. ap (λ (r : Compiled). (numbers_of r).number) (so (Refused 2) (inl (refl, h))),
  )
    where
      there : (r : Compiled) → When c text out r → (numbers_of r).number ≡ 2 → allowed c ≡ false
      there (Refused k) (inl w) e = w.1
      there (Refused k) (inr w) e = absurd (omega (arith, w.0, e))
      there (BadLine k i) w e = absurd (omega (arith, fault-number text k i w.1, e))
      there (Short n) w e = absurd (omega (arith, e))
      there (Done n k) w e = absurd (omega (arith, e))

  -- a refusal changes nothing
  pub refusal-keeps : (r : Compiled) → (compile_of c text out).answer ≡ r → ((n k : ℕ) → r ≡ Done n k → ⊥) → (compile_of c text out).out ≡ out
  refusal-keeps r e not_done = go (compile_of c text out) answer-when e
    where
      go : (x : Result) → AnswerWhen x → x.answer ≡ r → x.out ≡ out
      go _ (refused q w) d = refl
      go _ (done n k es w) d = absurd (not_done n k (sym d))

-- ---- what the stream depends on

-- nothing but the pins and the registers other than H, X and Y
pub same-for-both :
    (c d : Chip) (text out : List ℕ) → allowed c ≡ allowed d → c.pins ≡ d.pins → blank c.registers ≡ blank d.registers
    → compile_of c text out ≡ compile_of d text out
unfolding compile_of
same-for-both c d text out ok pins registers = rw (ok, pins, registers)

-- an empty list compiles to nothing
pub empty-list : (c : Chip) (out : List ℕ) → allowed c ≡ true → compile_of c [] out ≡ answered (Done 0 0) out
unfolding compile_of reading_of reading_from stream
empty-list c out ok = rw (ok, le-leb 0 (length out) (omega arith))
