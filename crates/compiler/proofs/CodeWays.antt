-- The ways through `measure`, `write` and `compile`, over plain variables: the two passes turn by turn, and what is returned.
use Rattle.std.specs.Prelude.{Ok, Err}
use mathlib.Core.Bool.{true, false}
use mathlib.Core.List.{List, [], ◌∷◌, ◌++◌}
use mathlib.Core.Path.{◌≡◌, refl, sym, ap, ◌∙◌, subst}
use Prim.Native.Nat.{ℕ, ◌+◌, ◌*◌, ◌^◌, ◌≤◌, ◌<◌}
use native.Mathlib.Nat.{zero-add, add-zero}
use native.Mathlib.Omega.{arith}
use borrow.Author.Tests.{lt-ltb, le-ltb}
use lib.ListN.{length, drop, length-append}
use lib.Seq.{sets}
use Rattle.registers.specs.declared.Chip.{Chip}
use Rattle.registers.specs.declared.Registers.{Registers}
use Rattle.registers.specs.Record.{allowed, blank}
use Rattle.registers.proofs.Within.{allowed-registers, allowed-pins}
use Rattle.lists.specs.declared.Line.{Line}
use Rattle.lists.specs.Lists.{LineThere, Reading, faulty, lines, also_line, reading_from, reading_of, newlines, line_at}
use Rattle.lists.specs.Syntax.{Valid, AllValid}
use Rattle.lists.proofs.Positions.{reading-bad, reading-good, reading-next, reading-end, reading-whole, line-valid, newlines-left}
use Rattle.lists.proofs.Readings.{Accepted, not-lines, same_lines, reading-accepted}
use Rattle.drawing.specs.Plain.{registers_after}
use Rattle.drawing.specs.Stream.{line_events, stream, byte_events}
use Rattle.drawing.proofs.Fits.{line-fits}
use Rattle.compiler.specs.declared.line.Counts.{Counts}
use Rattle.compiler.specs.Writes.{Wrote, Tracked, counts_of}
use Rattle.compiler.proofs.Clocks.{bytes-append, bytes-limit}
use Rattle.compiler.proofs.Writes.{wrote_then, wrote_none}
use Rattle.compiler.proofs.Lines.{line-limit}
use Rattle.compiler.proofs.Tracked.{after-tracked, blank-tracked}
use Rattle.compiler.specs.Answer.{Compiled}
use Rattle.compiler.specs.Answer.{Refused}
use Rattle.compiler.specs.Answer.{Measured}
use Rattle.compiler.specs.Answer.{Fault, Whole}
use Rattle.compiler.specs.Compile.{answered, from_reading, compile_of, measure_from, measure_of, lines_of}
use Rattle.compiler.specs.Promise.{Promise}
use Rattle.compiler.proofs.Promise.{compile-draws}

-- ---- how many events a list can have

pub stream-limit : (pins : ℕ) (ls : List Line) (q : Registers) → AllValid ls → length (stream pins ls q) ≤ length ls * 2727
unfolding stream AllValid
stream-limit pins [] q s = omega arith
stream-limit pins (l ∷ ls) q s =
    omega (
      arith,
      length-append (line_events pins l q) (stream pins ls (registers_after l q)),
      line-limit pins l q s.0,
      stream-limit pins ls (registers_after l q) s.1,
    )

-- ---- measuring

measure-none : (pins : ℕ) (q : Registers) (r : Reading) → measure_from pins q 0 0 r ≡ measure_of pins q r
measure-none pins q (faulty k i) = refl
measure-none pins q (lines ls) =
    ap (λ (n : ℕ). Whole n (0 + byte_events (stream pins ls q))) (zero-add (length (stream pins ls q)))
    ∙ ap (λ (n : ℕ). Whole (length (stream pins ls q)) n) (zero-add (byte_events (stream pins ls q)))

measure-line :
    (pins : ℕ) (q : Registers) (n b : ℕ) (l : Line) (r : Reading)
    → measure_from pins q n b (also_line l r)
    ≡ measure_from pins (registers_after l q) (n + length (line_events pins l q)) (b + byte_events (line_events pins l q)) r
unfolding stream
measure-line pins q n b l (faulty k i) = refl
measure-line pins q n b l (lines ls) =
    let es = line_events pins l q in
    let rest = stream pins ls (registers_after l q) in
    let hn : n + length (es ++ rest) ≡ n + length es + length rest = omega (arith, length-append es rest) in
    let hb : b + byte_events (es ++ rest) ≡ b + byte_events es + byte_events rest = omega (arith, bytes-append es rest) in
    ap (λ (x : ℕ). Whole x (b + byte_events (es ++ rest))) hn ∙ ap (λ (x : ℕ). Whole (n + length es + length rest) x) hb

-- at a place of the text, before line `number`, with n events and b bytes so far
pub record Measuring (text : List ℕ) (pins : ℕ) (q₀ : Registers) (at number : ℕ) (q : Registers) (n b : ℕ) : Type 0 where
  pub place : at ≤ length text
  pub lines_left : number + newlines (drop at text) ≤ 4097
  pub pins-fit : pins ≤ 3
  pub tracked : Tracked q
  pub limit : n + 2727 ≤ number * 2727
  pub fewer : b ≤ n
  pub same : measure_from pins q n b (reading_from number (drop at text)) ≡ measure_of pins q₀ (reading_of text)

pub measuring-start : (text : List ℕ) (pins : ℕ) (q : Registers) → newlines text ≤ 4096 → Tracked q → pins ≤ 3 → Measuring text pins q 0 1 q 0 0
measuring-start text pins q few tracked hp =
    record {
      place = omega arith;
      lines_left = omega arith;
      pins-fit = hp;
      tracked = tracked;
      limit = omega arith;
      fewer = omega arith;
      same = measure-none pins q (reading_from 1 (drop 0 text)) ∙ ap (measure_of pins q) (sym (reading-whole text));
    }

module _ {text : List ℕ} {pins : ℕ} {q₀ : Registers} {at number : ℕ} {q : Registers} {n b : ℕ} (m : Measuring text pins q₀ at number q n b) where
  pub measuring-end : length text ≤ at → Whole n b ≡ measure_of pins q₀ (reading_of text)
  unfolding stream
  measuring-end h =
      ap (λ (x : ℕ). Whole x b) (sym (add-zero n))
      ∙ ap (λ (x : ℕ). Whole (n + 0) x) (sym (add-zero b))
      ∙ sym (ap (measure_from pins q n b) (reading-end text at number h))
      ∙ m.same

  -- the line at that place
  module _ (l : at < length text) (x : LineThere) (e : x ≡ line_at text at) where
    pub measuring-fault : (k : ℕ) → x.parsed ≡ Err k → Fault k number ≡ measure_of pins q₀ (reading_of text)
    measuring-fault k h = sym (ap (measure_from pins q n b) (reading-bad text at number l x e k h)) ∙ m.same

    module _ (y : Line) (h : x.parsed ≡ Ok y) where
      module _ (k : Counts) (counted : k ≡ counts_of (line_events pins y q)) where
        events : k.events ≡ length (line_events pins y q)
        events = ap (λ (z : Counts). z.events) counted

        bytes : k.bytes ≡ byte_events (line_events pins y q)
        bytes = ap (λ (z : Counts). z.bytes) counted

        -- the sums stay small, whatever the list is
        pub measuring-room : (n + k.events < 2 ^ 32) × (b + k.bytes < 2 ^ 32)
        measuring-room =
            let limit = line-limit pins y q (line-valid text at l x e y h) in
            let fewer = bytes-limit (line_events pins y q) in
            (omega (arith, m.lines_left, m.limit, events, limit), omega (arith, m.lines_left, m.limit, m.fewer, events, bytes, limit, fewer))

        pub measuring-turn :
            (q' : Registers) → q' ≡ registers_after y q → Measuring text pins q₀ x.next (number + 1) q' (n + k.events) (b + k.bytes)
        measuring-turn q' hq =
            let ok = line-valid text at l x e y h in
            let es = line_events pins y q in
            let rest = reading_from (number + 1) (drop x.next text) in
            record {
              place = (reading-next text at number l x e).1;
              lines_left = omega (arith, m.lines_left, newlines-left text at l x e y h);
              pins-fit = m.pins-fit;
              tracked = subst Tracked (sym hq) (after-tracked y q (line-fits y ok) m.tracked);
              limit = omega (arith, m.limit, events, line-limit pins y q ok);
              fewer = omega (arith, m.fewer, events, bytes, bytes-limit es);
              same =
                  ap (λ (z : Registers). measure_from pins z (n + k.events) (b + k.bytes) rest) hq
                  ∙ ap (λ (z : Counts). measure_from pins (registers_after y q) (n + z.events) (b + z.bytes) rest) counted
                  ∙ sym (measure-line pins q n b y rest)
                  ∙ sym (ap (measure_from pins q n b) (reading-good text at number l x e y h))
                  ∙ m.same;
            }

-- ---- writing

-- the lines after the first
record Behind (y : Line) (r : Reading) (ls : List Line) : Type 0 where
  pub rest : List Line
  pub reads : r ≡ lines rest
  pub whole : ls ≡ y ∷ rest

behind : (y : Line) (r : Reading) (ls : List Line) → also_line y r ≡ lines ls → Behind y r ls
behind y (faulty k i) ls e = absurd (not-lines k i ls e)
behind y (lines rest) ls e = record { rest = rest; reads = refl; whole = sym (same_lines (y ∷ rest) ls e) }

-- at a place of the text, with the output written up to `here`
pub record Writing (text : List ℕ) (pins : ℕ) (q₀ : Registers) (out₀ : List ℕ) (at here : ℕ) (q : Registers) (out : List ℕ) : Type 0 where
  pub place : at ≤ length text
  pub number : ℕ
  pub left : List Line
  pub reads : reading_from number (drop at text) ≡ lines left
  pub same_length : length out ≡ length out₀
  pub room : here + length (stream pins left q) ≤ length out
  pub rest : (l : List ℕ) (j : ℕ) → Wrote out here (stream pins left q) l j → Wrote out₀ 0 (stream pins (lines_of (reading_of text)) q₀) l j

pub writing_start :
    (text : List ℕ) (pins : ℕ) (q : Registers) (out : List ℕ)
    → reading_of text ≡ lines (lines_of (reading_of text))
    → length (stream pins (lines_of (reading_of text)) q) ≤ length out
    → Writing text pins q out 0 0 q out
writing_start text pins q out good room =
    record {
      place = omega arith;
      number = 1;
      left = lines_of (reading_of text);
      reads = sym (reading-whole text) ∙ good;
      same_length = refl;
      room = omega arith;
      rest = λ l j w. w;
    }

module _ {text : List ℕ} {pins : ℕ} {q₀ : Registers} {out₀ : List ℕ} {at here : ℕ} {q : Registers} {out : List ℕ}
    (m : Writing text pins q₀ out₀ at here q out)
  where
    pub writing-end : length text ≤ at → out ≡ sets out₀ 0 (stream pins (lines_of (reading_of text)) q₀)
    unfolding stream
    writing-end h =
        let none : m.left ≡ [] = same_lines m.left [] (sym m.reads ∙ reading-end text at m.number h) in
        (m.rest out here (subst (λ (ls : List Line). Wrote out here (stream pins ls q) out here) (sym none) (wrote_none out here))).list

    -- the line at that place
    module _ (l : at < length text) (x : LineThere) (e : x ≡ line_at text at) where
      pub writing-no-fault : (k : ℕ) → x.parsed ≡ Err k → ⊥
      writing-no-fault k h = not-lines k m.number m.left (sym (reading-bad text at m.number l x e k h) ∙ m.reads)

      module _ (y : Line) (h : x.parsed ≡ Ok y) where
        rest_of : Behind y (reading_from (m.number + 1) (drop x.next text)) m.left
        rest_of = behind y _ m.left (sym (reading-good text at m.number l x e y h) ∙ m.reads)

        events-are : stream pins m.left q ≡ line_events pins y q ++ stream pins rest_of.rest (registers_after y q)
        unfolding stream
        events-are = ap (λ (ls : List Line). stream pins ls q) rest_of.whole

        events-count : length (stream pins m.left q) ≡ length (line_events pins y q) + length (stream pins rest_of.rest (registers_after y q))
        events-count = ap length events-are ∙ length-append (line_events pins y q) (stream pins rest_of.rest (registers_after y q))

        pub writing-room : Valid y × (here + length (line_events pins y q) ≤ length out)
        writing-room = (line-valid text at l x e y h, omega (arith, m.room, events-count))

        pub writing-turn :
            (out' : List ℕ) (here' : ℕ) (q' : Registers)
            → length out' ≡ length out
            → Wrote out here (line_events pins y q) out' here'
            → q' ≡ registers_after y q
            → Writing text pins q₀ out₀ x.next here' q' out'
        writing-turn out' here' q' same wrote hq =
            subst (λ (z : Registers). Writing text pins q₀ out₀ x.next here' z out') (sym hq)
            (record {
              place = (reading-next text at m.number l x e).1;
              number = m.number + 1;
              left = rest_of.rest;
              reads = rest_of.reads;
              same_length = same ∙ m.same_length;
              room = omega (arith, m.room, events-count, wrote.next, same);
              rest = λ k j w. m.rest k j (subst (λ (es : List ℕ). Wrote out here es k j) (sym events-are) (wrote_then wrote w));
            })

-- ---- `compile`: the text that neither 2 nor 9 refuses

record Known (pins : ℕ) (q : Registers) (r : Reading) (n b : ℕ) : Type 0 where
  pub good : r ≡ lines (lines_of r)
  pub count : n ≡ length (stream pins (lines_of r) q)
  pub bytes : b ≡ byte_events (stream pins (lines_of r) q)

known : (pins : ℕ) (q : Registers) (r : Reading) (n b : ℕ) → Whole n b ≡ measure_of pins q r → Known pins q r n b
known pins q (faulty k i) n b e = absurd (let z : ◌≡◌ {A = ℕ} 0 1 = cc in omega arith)
known pins q (lines ls) n b e = record { good = refl; count = cc; bytes = cc }

accepted-list : (text : List ℕ) (ls : List Line) → reading_of text ≡ lines ls → Accepted text ls
unfolding reading_of
accepted-list text ls e = reading-accepted 1 text ls e

-- x is what the first pass found

module _ (pins : ℕ) (q : Registers) (text : List ℕ) (x : Measured) (measured : x ≡ measure_of pins q (reading_of text)) where
  module _ (n b : ℕ) (e : x ≡ Whole n b) where
    whole : Known pins q (reading_of text) n b
    whole = known pins q (reading_of text) n b (sym e ∙ measured)

    -- nine times the byte events fit their number
    pub clocks-room : newlines text ≤ 4096 → 9 * b < 2 ^ 64
    clocks-room few =
        let list = accepted-list text (lines_of (reading_of text)) whole.good in
        let limit = stream-limit pins (lines_of (reading_of text)) q list.within in
        omega (arith, few, whole.bytes, list.counted, bytes-limit (stream pins (lines_of (reading_of text)) q), limit)

-- ---- `compile`: 2 and 9

-- `compile_lines` may be called
pub readable :
    (c : Chip) (text : List ℕ) → allowed c ≡ true → {n : ℕ} → n ≡ newlines text → n ≤ 4096 → {q : Registers} → q ≡ blank c.registers
    → (newlines text ≤ 4096) × Tracked q × (c.pins ≤ 3)
readable c text ok counted few blanked = (
  subst (λ (z : ℕ). z ≤ 4096) counted few,
  subst Tracked (sym blanked) (blank-tracked c.registers (allowed-registers c ok)),
  allowed-pins c ok,
)

module _ (c : Chip) (text out : List ℕ) where
  -- what is returned is what the definition says, and so draws the list
  abbrev Compiles : Compiled → List ℕ → Type 0
  Compiles r out' = (answered r out' ≡ compile_of c text out) × Promise r c text out'

  promised : {r : Compiled} {out' : List ℕ} → answered r out' ≡ compile_of c text out → Compiles r out'
  promised {r} {out'} e = (e, compile-draws c text out r out' e)

  pub not_allowed : allowed c ≡ false → Compiles (Refused 2) out
  unfolding compile_of
  not_allowed h = promised (sym (rw h))

  module _ (ok : allowed c ≡ true) {n : ℕ} (counted : n ≡ newlines text) where
    pub too_long : 4096 < n → Compiles (Refused 9) out
    unfolding compile_of
    too_long h = promised (sym (rw (ok, ← counted, lt-ltb 4096 n h)))

    module _ (few : n ≤ 4096) {q : Registers} (blanked : q ≡ blank c.registers) where
      pub read :
          (r : Compiled) (out' : List ℕ) → answered r out' ≡ from_reading c.pins q (reading_of text) out → Compiles r out'
      unfolding compile_of
      read r out' e =
          promised
          (e
          ∙ ap (λ (z : Registers). from_reading c.pins z (reading_of text) out) blanked
          ∙ sym (rw (ok, ← counted, le-ltb 4096 n few)))
