-- A fill's events fill its rectangle, and leave the registers but H, X and Y.
use mathlib.Core.Bool.{Bool, true, false, cond}
use mathlib.Core.List.{List, [], ◌∷◌, ◌++◌}
use mathlib.Core.Path.{◌≡◌, sym, ap, ◌∙◌, subst}
use Prim.Native.Nat.{ℕ, zero, suc, ◌+◌, ◌/◌, ◌%◌, ◌≤◌, ◌<◌}
use native.Mathlib.Nat.{add_assoc}
use native.Mathlib.Decide.{dec_lt}
use native.Mathlib.Omega.{arith}
use lib.Dec.{eqb}
use lib.ListN.{length, replicate, length-append}
use Rattle.registers.specs.declared.Registers.{Registers}
use Rattle.registers.specs.Places.{H, X, Y}
use Rattle.registers.specs.Record.{put, blank, allowed_registers}
use Rattle.registers.specs.Reversed.{reversed_of, ordered}
use Rattle.registers.specs.State.{State, places}
use Rattle.registers.proofs.Within.{register-bound, allowed-registers}
use Rattle.chip.specs.Rectangles.{In, Fills, mirrored_by}
use Rattle.chip.specs.Plays.{Plays, Visible, Bytes, advanced, written}
use Rattle.chip.proofs.Rectangles.{reversed-byte, fills-none, fills-both, in-or-out, across-fills, down-fills}
use Rattle.chip.proofs.Plays.{plays-none, plays-append, plays-weaken, data-message-plays}
use Rattle.chip.proofs.Rows.{address-leads, advanced-blank}
use Rattle.drawing.specs.Stream.{run, across, down}

-- a state that shows these registers but H, X and Y, and the memory m with b inside
pub record Drawn (Inside : ℕ → Type 0) (b : ℕ) (m : List ℕ) (q : Registers) (pins n : ℕ) (s : State) : Type 0 where
  pub memory : List ℕ
  pub fills : Fills Inside b m memory
  pub full : Registers
  pub visible : Visible full memory pins n s
  pub same : blank full ≡ q

bytes-replicate : (n d : ℕ) → d < 256 → Bytes (replicate n d)
bytes-replicate zero d h = tt
bytes-replicate (suc n) d h = (h, bytes-replicate n d h)

pub ordered-byte : (t : Bool) (b : ℕ) → b < 256 → cond t (reversed_of b) b < 256
ordered-byte true b h = reversed-byte b h
ordered-byte false b h = h

-- what a sight of the chip gives
module _ (r : Registers) (m : List ℕ) (pins n : ℕ) (s : State) (see : Visible r m pins n s) where
  pub seen-allowed : allowed_registers r ≡ true
  seen-allowed = subst (λ (x : Registers). allowed_registers x ≡ true) see.registers (allowed-registers s.chip see.fit.is-allowed)

  pub seen-page : r.h ≤ 4
  seen-page = register-bound r seen-allowed H

  pub seen-length : length m ≡ places
  seen-length = ap length (sym see.memory) ∙ see.fit.memory_long

-- one run, of which only the cells that its display bytes fill have to be known
run-plays :
    (r : Registers) (x n y b pins k : ℕ) (m : List ℕ) (s : State) (Inside : ℕ → Type 0) → x ≤ 100 → y ≤ 16 → b < 256
    → Fills Inside b m (written (replicate n (ordered r.data_order b)) (put Y y (put X x (put H 0 r))) m)
    → Visible r m pins (length (run pins (blank r) x y n b) + k) s
    → Plays (run pins (blank r) x y n b) (Drawn Inside b m (blank r) pins k) s
run-plays r x n y b pins k m s Inside hx hy hb fills see =
    let ds = replicate n (ordered r.data_order b) in
    let r' = put Y y (put X x (put H 0 r)) in
    plays-weaken (run pins (blank r) x y n b) (Visible (advanced ds r') (written ds r' m) pins k) (Drawn Inside b m (blank r) pins k) s
    (λ t seen. record { memory = written ds r' m; fills = fills; full = advanced ds r'; visible = seen; same = advanced-blank ds r' })
    (data-message-plays (1 ∷ (128 + x) ∷ (64 + y) ∷ []) ds r r' m pins k (address-leads x y r (seen-page r m pins _ s see) hx hy)
    (bytes-replicate n (ordered r.data_order b) (ordered-byte (eqb r.data_order 1) b hb)) s see)

-- the same, told by the tracked registers q
run-across :
    (r q : Registers) → blank r ≡ q → (x n y b pins k : ℕ) (m : List ℕ) (s : State) → x + n ≤ 101 → x ≤ 100 → y ≤ 16 → b < 256 → (y ≡ 16 → b < 64)
    → q.v ≡ 0 → Visible r m pins (length (run pins q x y n b) + k) s → Plays (run pins q x y n b) (Drawn (In q.mx x n y 1) b m q pins k) s
run-across r q same x n y b pins k m s hn hx hy hb bank =
    subst
    (λ (q : Registers).
    q.v ≡ 0 → Visible r m pins (length (run pins q x y n b) + k) s → Plays (run pins q x y n b) (Drawn (In q.mx x n y 1) b m q pins k) s)
    same
    (λ v see.
    run-plays r x n y b pins k m s (In r.mx x n y 1) hx hy hb
    (across-fills n (put Y y (put X x (put H 0 r))) m b v hn hy (seen-length r m pins _ s see) hb bank) see)

run_down :
    (r q : Registers) → blank r ≡ q → (x n y b pins k : ℕ) (m : List ℕ) (s : State) → x ≤ 100 → y ≤ 16 → y + n ≤ 17 → b < 256 → (y + n ≡ 17 → b < 64)
    → q.v ≡ 1 → Visible r m pins (length (run pins q x y n b) + k) s → Plays (run pins q x y n b) (Drawn (In q.mx x 1 y n) b m q pins k) s
run_down r q same x n y b pins k m s hx hy hn hb bank =
    subst
    (λ (q : Registers).
    q.v ≡ 1 → Visible r m pins (length (run pins q x y n b) + k) s → Plays (run pins q x y n b) (Drawn (In q.mx x 1 y n) b m q pins k) s)
    same
    (λ v see.
    run-plays r x n y b pins k m s (In r.mx x 1 y n) hx hy hb
    (down-fills n (put Y y (put X x (put H 0 r))) m b v hx hn (seen-length r m pins _ s see) hb bank) see)

-- ---- run after run

split-room :
    (r : Registers) (m : List ℕ) (pins n : ℕ) (xs ys : List ℕ) (s : State) → Visible r m pins (length (xs ++ ys) + n) s
    → Visible r m pins (length xs + (length ys + n)) s
split-room r m pins n xs ys s see =
    subst (λ (k : ℕ). Visible r m pins k s) (ap (λ (k : ℕ). k + n) (length-append xs ys) ∙ add_assoc (length xs) (length ys) n) see

-- a first rectangle is drawn by xs, and ys draws a second upon whatever that left: together they draw the third
then-draws :
    (xs ys : List ℕ) (A B C : ℕ → Type 0) (b : ℕ) (m : List ℕ) (q : Registers) (pins n : ℕ) (s : State)
    → ((k : ℕ) → Dec (B k)) → ((k : ℕ) → A k → C k) → ((k : ℕ) → B k → C k) → ((k : ℕ) → C k → (B k → ⊥) → A k)
    → Plays xs (Drawn A b m q pins (length ys + n)) s
    → ((r : Registers) (m₁ : List ℕ) (t : State) → blank r ≡ q → Visible r m₁ pins (length ys + n) t → Plays ys (Drawn B b m₁ q pins n) t)
    → Plays (xs ++ ys) (Drawn C b m q pins n) s
then-draws xs ys A B C b m q pins n s dec ac bc rest first second =
    plays-append xs ys (Drawn C b m q pins n) s
    (plays-weaken xs (Drawn A b m q pins (length ys + n)) (λ (t : State). Plays ys (Drawn C b m q pins n) t) s
    (λ t d.
    plays-weaken ys (Drawn B b d.memory q pins n) (Drawn C b m q pins n) t
    (λ u e.
    record {
      memory = e.memory;
      fills = fills-both A B C b m d.memory e.memory dec ac bc rest d.fills e.fills;
      full = e.full;
      visible = e.visible;
      same = e.same;
    })
    (second d.full d.memory t d.same d.visible))
    first)

-- V = 0: bank after bank
pub across-plays :
    (k : ℕ) (r q : Registers) (x n y b pins room : ℕ) (m : List ℕ) (s : State) → blank r ≡ q → q.v ≡ 0
    → x + n ≤ 101 → x ≤ 100 → y + k ≤ 17 → b < 256 → (y + k ≡ 17 → b < 64)
    → Visible r m pins (length (across pins q x n b y k) + room) s → Plays (across pins q x n b y k) (Drawn (In q.mx x n y k) b m q pins room) s
across-plays zero r q x n y b pins room m s same v hn hx hk hb bank see =
    plays-none (Drawn (In q.mx x n y 0) b m q pins room) s
    (record {
      memory = m;
      fills = fills-none (In q.mx x n y 0) b m (λ k i. omega (arith, i.top, i.bottom));
      full = r;
      visible = subst (λ (k : ℕ). Visible r m pins k s) (omega arith) see;
      same = same;
    })
across-plays (suc k) r q x n y b pins room m s same v hn hx hk hb bank see =
    then-draws (run pins q x y n b) (across pins q x n b (y + 1) k) (In q.mx x n y 1) (In q.mx x n (y + 1) k) (In q.mx x n y (suc k)) b m q pins room s
    (in-or-out q.mx x n (y + 1) k)
    (λ p i. record { left = i.left; right = i.right; top = i.top; bottom = omega (arith, i.bottom) })
    (λ p i. record { left = i.left; right = i.right; top = omega (arith, i.top); bottom = omega (arith, i.bottom) })
    (λ p i o. record { left = i.left; right = i.right; top = i.top; bottom = narrow p i o (dec_lt (p / 101) (y + 1)) })
    (run-across r q same x n y b pins (length (across pins q x n b (y + 1) k) + room) m s hn hx (omega arith) hb (λ e. bank (omega arith)) v
    (split-room r m pins room (run pins q x y n b) (across pins q x n b (y + 1) k) s see))
    (λ r' m₁ t same' see'. across-plays k r' q x n (y + 1) b pins room m₁ t same' v hn hx (omega arith) hb (λ e. bank (omega arith)) see')
  where
    narrow : (p : ℕ) → In q.mx x n y (suc k) p → (In q.mx x n (y + 1) k p → ⊥) → Dec (p / 101 < y + 1) → p / 101 < y + 1
    narrow p i o (yes h) = h
    narrow p i o (no h) = absurd (o (record { left = i.left; right = i.right; top = omega arith; bottom = omega (arith, i.bottom) }))

-- V = 1: column after column
pub down-plays :
    (k : ℕ) (r q : Registers) (x n y b pins room : ℕ) (m : List ℕ) (s : State) → blank r ≡ q → q.v ≡ 1
    → x + k ≤ 101 → y ≤ 16 → y + n ≤ 17 → b < 256 → (y + n ≡ 17 → b < 64)
    → Visible r m pins (length (down pins q y n b x k) + room) s → Plays (down pins q y n b x k) (Drawn (In q.mx x k y n) b m q pins room) s
down-plays zero r q x n y b pins room m s same v hk hy hn hb bank see =
    plays-none (Drawn (In q.mx x 0 y n) b m q pins room) s
    (record {
      memory = m;
      fills = fills-none (In q.mx x 0 y n) b m (λ k i. omega (arith, i.left, i.right));
      full = r;
      visible = subst (λ (k : ℕ). Visible r m pins k s) (omega arith) see;
      same = same;
    })
down-plays (suc k) r q x n y b pins room m s same v hk hy hn hb bank see =
    then-draws (run pins q x y n b) (down pins q y n b (x + 1) k) (In q.mx x 1 y n) (In q.mx (x + 1) k y n) (In q.mx x (suc k) y n) b m q pins room s
    (in-or-out q.mx (x + 1) k y n)
    (λ p i. record { left = i.left; right = omega (arith, i.right); top = i.top; bottom = i.bottom })
    (λ p i. record { left = omega (arith, i.left); right = omega (arith, i.right); top = i.top; bottom = i.bottom })
    (λ p i o. record { left = i.left; right = narrow p i o (dec_lt (mirrored_by q.mx (p % 101)) (x + 1)); top = i.top; bottom = i.bottom })
    (run_down r q same x n y b pins (length (down pins q y n b (x + 1) k) + room) m s (omega arith) hy hn hb bank v
    (split-room r m pins room (run pins q x y n b) (down pins q y n b (x + 1) k) s see))
    (λ r' m₁ t same' see'. down-plays k r' q (x + 1) n y b pins room m₁ t same' v (omega arith) hy hn hb bank see')
  where
    narrow :
        (p : ℕ) → In q.mx x (suc k) y n p → (In q.mx (x + 1) k y n p → ⊥) → Dec (mirrored_by q.mx (p % 101) < x + 1)
        → mirrored_by q.mx (p % 101) < x + 1
    narrow p i o (yes h) = h
    narrow p i o (no h) = absurd (o (record { left = omega arith; right = omega (arith, i.right); top = i.top; bottom = i.bottom }))
