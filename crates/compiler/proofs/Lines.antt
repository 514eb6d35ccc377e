-- One line: the message of a set, how many events and bytes a line has, and the line matched by its kind.
use mathlib.Core.List.{List, [], ◌∷◌, ◌++◌}
use mathlib.Core.Path.{◌≡◌, refl, sym, ap, ◌∙◌, subst}
use Prim.Native.Nat.{ℕ, ◌+◌, ◌*◌, ◌≤◌, ◌<◌}
use native.Mathlib.Omega.{arith}
use lib.ListN.{get_or, length, take, drop, drop_of_length-le, length-take}
use Rattle.registers.specs.declared.Registers.{Registers}
use Rattle.text.proofs.Finding.{drop-next}
use Rattle.chip.proofs.Plays.{singles-length}
use Rattle.chip.specs.Plays.{write_address, singles, message, Bytes}
use Rattle.lists.specs.declared.Line.{Line}
use Rattle.lists.specs.declared.Line.TheVariants.{Fill, Set}
use Rattle.lists.specs.Syntax.{ValidFill, Valid}
use Rattle.drawing.specs.Plain.{set_to, registers_after}
use Rattle.drawing.specs.Stream.{fill, set_commands, line_events, byte_events}
use Rattle.drawing.proofs.Fits.{LineFits, line-fits}
use Rattle.compiler.specs.declared.line.Counts.{Counts}
use Rattle.compiler.specs.Writes.{Wrote, Tracked, counts, counts_of, fill_count, set_length}
use Rattle.compiler.proofs.Clocks.{byte-counts, fill-length, fill-bytes, fill-limit}
use Rattle.compiler.proofs.Writes.{wrote_then, wrote_none}
use Rattle.compiler.proofs.Settings.{set-length, set-length-bound}
use Rattle.compiler.proofs.Tracked.{tracked-bytes}

-- ---- command bytes

singles-next : (bs : List ℕ) (n : ℕ) → n < length bs → singles (drop n bs) [] ≡ 128 ∷ get_or bs n 0 ∷ singles (drop (n + 1) bs) []
singles-next bs n h = ap (λ (l : List ℕ). singles l []) (drop-next bs n h)

singles-none : (bs : List ℕ) (n : ℕ) → length bs ≤ n → singles (drop n bs) [] ≡ []
singles-none bs n h = ap (λ (l : List ℕ). singles l []) (drop_of_length-le bs h)

singles-append : (bs es : List ℕ) → singles bs [] ++ es ≡ singles bs es
singles-append [] es = refl
singles-append (b ∷ bs) es = ap (λ (l : List ℕ). 128 ∷ b ∷ l) (singles-append bs es)

singles-bytes : (bs es : List ℕ) → Bytes bs → byte_events (singles bs es) ≡ 2 * length bs + byte_events es
singles-bytes [] es h = omega arith
singles-bytes (b ∷ bs) es h = omega (arith, byte-counts b h.0, singles-bytes bs es h.1)

module _ {l m r : List ℕ} {i j k : ℕ} where
  pub command-turn :
      (bs : List ℕ) (n : ℕ) → n < length bs → Wrote l i (128 ∷ get_or bs n 0 ∷ []) m j → Wrote m j (singles (drop (n + 1) bs) []) r k
      → Wrote l i (singles (drop n bs) []) r k
  command-turn bs n h a b = subst (λ (es : List ℕ). Wrote l i es r k) (sym (singles-next bs n h)) (wrote_then a b)

pub commands-done : (l : List ℕ) (i : ℕ) (bs : List ℕ) (n : ℕ) → length bs ≤ n → Wrote l i (singles (drop n bs) []) l i
commands-done l i bs n h = subst (λ (es : List ℕ). Wrote l i es l i) (sym (singles-none bs n h)) (wrote_none l i)

pub message-wrote :
    {l m o r : List ℕ} {i j q k : ℕ} (pins a : ℕ) (bs cs : List ℕ)
    → a ≡ write_address pins
    → bs ≡ cs
    → Wrote l i (256 ∷ a ∷ []) m j
    → Wrote m j (singles bs []) o q
    → Wrote o q (257 ∷ []) r k
    → Wrote l i (message pins cs) r k
message-wrote {l} {m} {o} {r} {i} {j} {q} {k} pins a bs cs ha hb started matched stopped =
    subst (λ (es : List ℕ). Wrote l i es r k)
    (ap (λ (es : List ℕ). 256 ∷ a ∷ es) (singles-append bs (257 ∷ []))
    ∙ ap (λ (z : ℕ). 256 ∷ z ∷ singles bs (257 ∷ [])) ha
    ∙ ap (λ (z : List ℕ). message pins z) hb)
    (wrote_then started (wrote_then matched stopped))

-- the first n of the bytes bs are the commands cs
module _ (n : ℕ) (bs cs : List ℕ) (said : (take n bs ≡ cs) × (n ≤ length bs)) where
  pub said-length : (n ≡ length (take n bs)) × (n ≡ length cs)
  said-length = let here : n ≡ length (take n bs) = omega (arith, said.1, length-take n bs) in (here, here ∙ ap length said.0)

  pub said-next : {l m : List ℕ} {i j : ℕ} → Wrote l i (singles (take n bs) []) m j → j ≡ i + 2 * length cs
  said-next w = omega (arith, w.next, singles-length (take n bs) [], said-length)

-- ---- the registers after a line

module _ (l : Line) (r : Registers) where
  pub after-fill : (c0 c1 b0 b1 n : ℕ) → l ≡ Fill c0 c1 b0 b1 n → r ≡ registers_after l r
  after-fill c0 c1 b0 b1 n e = sym (ap (λ (x : Line). registers_after x r) e)

  pub after-set : (f n : ℕ) (q : Registers) → l ≡ Set f n → q ≡ set_to f n r → q ≡ registers_after l r
  after-set f n q e h = h ∙ sym (ap (λ (x : Line). registers_after x r) e)

-- ---- what a line's kind asks of it

module _ (l : Line) (s : Valid l) where
  pub valid-fill : (c0 c1 b0 b1 n : ℕ) → l ≡ Fill c0 c1 b0 b1 n → ValidFill c0 c1 b0 b1 n
  unfolding Valid
  valid-fill c0 c1 b0 b1 n e = subst Valid e s

module _ (pins : ℕ) (l : Line) (q : Registers) where
  pub fill-line-events : (c0 c1 b0 b1 n : ℕ) → l ≡ Fill c0 c1 b0 b1 n → line_events pins l q ≡ fill pins q c0 c1 b0 b1 n
  unfolding line_events
  fill-line-events c0 c1 b0 b1 n e = ap (λ (x : Line). line_events pins x q) e

  pub set-line-events : (f n : ℕ) (t : Registers) → l ≡ Set f n → t ≡ set_to f n q → line_events pins l q ≡ message pins (set_commands f t)
  unfolding line_events
  set-line-events f n t e h = ap (λ (x : Line). line_events pins x q) e ∙ ap (λ (x : Registers). message pins (set_commands f x)) (sym h)

-- ---- how many events and bytes

message-length : (pins : ℕ) (bs : List ℕ) → length (message pins bs) ≡ 3 + 2 * length bs
message-length pins bs = omega (arith, singles-length bs (257 ∷ []))

module _ (pins : ℕ) (l : Line) (q : Registers) where
  pub set_room : (f n : ℕ) (t : Registers) → l ≡ Set f n → t ≡ set_to f n q → length (line_events pins l q) ≡ 3 + 2 * length (set_commands f t)
  set_room f n t e h = ap length (set-line-events pins l q f n t e h) ∙ message-length pins (set_commands f t)

  fill-events : (c0 c1 b0 b1 n x : ℕ) → l ≡ Fill c0 c1 b0 b1 n → x ≡ fill_count 10 q c0 c1 b0 b1 → x ≡ length (line_events pins l q)
  fill-events c0 c1 b0 b1 n x e h = h ∙ sym (ap length (fill-line-events pins l q c0 c1 b0 b1 n e) ∙ fill-length pins q c0 c1 b0 b1 n)

  set-events : (f n x : ℕ) → l ≡ Set f n → x ≡ set_length f → x * 2 + 3 ≡ length (line_events pins l q)
  set-events f n x e h =
      omega (
        arith,
        h,
        set_room f n (set_to f n q) e refl,
        set-length f (set_to f n q),
      )

  fill-byte-events :
      (c0 c1 b0 b1 n x : ℕ) → Valid l → pins ≤ 3 → l ≡ Fill c0 c1 b0 b1 n → x ≡ fill_count 8 q c0 c1 b0 b1 → x ≡ byte_events (line_events pins l q)
  fill-byte-events c0 c1 b0 b1 n x s hp e h =
      let cells = valid-fill l s c0 c1 b0 b1 n e in
      h
      ∙ sym (ap byte_events (fill-line-events pins l q c0 c1 b0 b1 n e)
      ∙ fill-bytes pins q c0 c1 b0 b1 n hp (omega (arith, cells.byte)) cells.columns cells.last_column cells.banks cells.last_bank)

  set-byte-events : (f n x : ℕ) → Valid l → Tracked q → pins ≤ 3 → l ≡ Set f n → x ≡ set_length f → x * 2 + 1 ≡ byte_events (line_events pins l q)
  set-byte-events f n x s tracked hp e h =
      let t = set_to f n q in
      omega (
        arith,
        h,
        ap byte_events (set-line-events pins l q f n t e refl),
        set-length f t,
        byte-counts (write_address pins) (omega arith),
        singles-bytes (set_commands f t) (257 ∷ []) (tracked-bytes f n q (subst LineFits e (line-fits l s)) tracked),
      )

module _ (pins : ℕ) (l : Line) (q : Registers) (s : Valid l) (hp : pins ≤ 3) where
  pub fill-line-counts :
      (c0 c1 b0 b1 n : ℕ) → l ≡ Fill c0 c1 b0 b1 n → {k : Counts} → k ≡ counts (fill_count 10 q c0 c1 b0 b1) (fill_count 8 q c0 c1 b0 b1)
      → k ≡ counts_of (line_events pins l q)
  fill-line-counts c0 c1 b0 b1 n e h =
      h
      ∙ ap (λ (z : ℕ). counts z (fill_count 8 q c0 c1 b0 b1)) (fill-events pins l q c0 c1 b0 b1 n _ e refl)
      ∙ ap (λ (z : ℕ). counts (length (line_events pins l q)) z) (fill-byte-events pins l q c0 c1 b0 b1 n _ s hp e refl)

  pub set-line-counts :
      Tracked q → (f n : ℕ) → l ≡ Set f n → {k : ℕ} → k ≡ set_length f → counts (k * 2 + 3) (k * 2 + 1) ≡ counts_of (line_events pins l q)
  set-line-counts tracked f n e {k} h =
      ap (λ (z : ℕ). counts z (k * 2 + 1)) (set-events pins l q f n k e h)
      ∙ ap (λ (z : ℕ). counts (length (line_events pins l q)) z) (set-byte-events pins l q f n k s tracked hp e h)

-- no line takes more events than a fill of the whole glass by columns
pub line-limit : (pins : ℕ) (l : Line) (q : Registers) → Valid l → length (line_events pins l q) ≤ 2727
unfolding Valid line_events
line-limit pins (Fill c0 c1 b0 b1 n) q s = omega (arith, fill-length pins q c0 c1 b0 b1 n, fill-limit q c0 c1 b0 b1 s.last_column s.last_bank)
line-limit pins (Set f n) q s =
    omega (arith, set_room pins (Set f n) q f n (set_to f n q) refl refl, set-length f (set_to f n q), set-length-bound f)

-- ---- a line's events, written

module _ {o m : List ℕ} {i j : ℕ} (pins : ℕ) (l : Line) (q : Registers) where
  pub fill-line-wrote : (c0 c1 b0 b1 n : ℕ) → l ≡ Fill c0 c1 b0 b1 n → Wrote o i (fill pins q c0 c1 b0 b1 n) m j → Wrote o i (line_events pins l q) m j
  fill-line-wrote c0 c1 b0 b1 n e w = subst (λ (es : List ℕ). Wrote o i es m j) (sym (fill-line-events pins l q c0 c1 b0 b1 n e)) w

  pub set-line-wrote :
      (f n : ℕ) (t : Registers) → l ≡ Set f n → t ≡ set_to f n q → Wrote o i (message pins (set_commands f t)) m j → Wrote o i (line_events pins l q) m j
  set-line-wrote f n t e h w = subst (λ (es : List ℕ). Wrote o i es m j) (sym (set-line-events pins l q f n t e h)) w
