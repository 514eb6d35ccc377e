-- A stretch of display bytes in a run: the run goes on behind it, from what it came to.
use mathlib.Core.Bool.{Bool, true, false, cond, not, ◌&&◌}
use mathlib.Core.List.{List, [], ◌∷◌, ◌++◌}
use mathlib.Core.Path.{◌≡◌, refl, sym, ap, ◌∙◌, subst}
use Prim.Native.Nat.{ℕ, zero, suc, ◌+◌, ◌-◌, ◌^◌, ◌<◌, ◌≤◌}
use native.Mathlib.Numerals.{add-one}
use native.Mathlib.Omega.{arith}
use borrow.Author.Tests.{ltb-true, lt-ltb, le-leb, ne_eqb}
use lib.Dec.{eqb, ltb}
use lib.ListN.{length, get_or, drop, take, set, length-drop}
use lib.Seq.{drop-cons, length-take-le}
use Rattle.registers.specs.declared.PixelCounts.{PixelCounts}
use Rattle.registers.specs.declared.Phase.{Phase}
use Rattle.registers.specs.declared.Phase.TheVariants.{Idle, AddressAwaited, Ignoring, ControlAwaited, OneByte, EndlessBytes, Reading, ReadEnded}
use Rattle.registers.specs.declared.Registers.{Registers}
use Rattle.registers.specs.Record.{phase_rs}
use Rattle.registers.specs.Refusals.{refuse, ◌then◌, is_listed_event}
use Rattle.registers.specs.State.{State, state}
use Rattle.commands.specs.declared.answer.CommandAnswer.{CommandAnswer}
use Rattle.display.specs.Display.{stored_of, place_of, next_address, pixels_fit, pixels_after}
use Rattle.display_bytes.specs.Stretch.{Stretched, stretched, taken, stretch_from}
use Rattle.phases.specs.declared.interface.Interface.{Interface}
use Rattle.phases.specs.Interface.{whole, turned}
use Rattle.phases.specs.Phases.{is_endless, phase_after_content}
use Rattle.engine.specs.Answer.{Acknowledged}
use Rattle.engine.specs.Loop.{content_end}
use Rattle.engine.specs.PastEntry.{refusal_past_entry, run_past_entry, tally_past_entry}
use Rattle.engine.specs.Step.{after, on_byte, applied, accepted, counted, event_refusal, pixel_refusal}
use Rattle.engine.proofs.Events.{byte-event}

pub drop-next : (es : List ℕ) (n : ℕ) → n < length es → drop n es ≡ get_or es n 0 ∷ drop (n + 1) es
drop-next es n h = rw (add-one, drop-cons es n 0)

-- ---- the run goes on: events l from state s, k being done, come to what l' come to from s', k' being done

pub record GoesOn (k : ℕ) (l : List ℕ) (s : State) (k' : ℕ) (l' : List ℕ) (s' : State) : Type 0 where
  pub run : run_past_entry k l s ≡ run_past_entry k' l' s'
  pub tallied : (b : CommandAnswer) → tally_past_entry b l s ≡ tally_past_entry b l' s'

-- ---- a byte that comes as display data

bytes-listed : (e : ℕ) → ltb e 256 ≡ true → is_listed_event e ≡ true
bytes-listed e h = rw (le-leb e 260 (omega (arith, ltb-true e 256 h)))

taken-byte : (e : ℕ) (r : Registers) (n : PixelCounts) (m : List ℕ) (count : ℕ) → taken e r n m count ≡ true → e < 256
unfolding taken
taken-byte e r n m count t = ltb-true e 256 (go (ltb e 256) (not (eqb count (2 ^ 64 - 1)) && pixels_fit r n m e) t)
  where
    go : (b c : Bool) → b && c ≡ true → b ≡ true
    go true c h = refl
    go false c h = cc

-- 3 is out; 4 and 16 are told by whether it is taken
module _ (e : ℕ) (p : Phase) (a b : ℕ) (l : Bool) (r : Registers) (n : PixelCounts) (m w : List ℕ) (count : ℕ) (rs : phase_rs p ≡ true) where
  abbrev before : State
  before = state (whole r (record { pins = a; status = b; last_rs = l; phase = p }) n) m w count

  refusal-here :
      (byte : Bool) → ltb e 256 ≡ byte → byte ≡ true
      → refusal_past_entry e before ≡ refuse (eqb count (2 ^ 64 - 1)) 4 then refuse (not (pixels_fit r n m e)) 16
  unfolding refusal_past_entry event_refusal pixel_refusal
  refusal-here byte q t = rw (bytes-listed e (q ∙ t), q ∙ t, rs)

  pub taken-accepted : taken e r n m count ≡ true → refusal_past_entry e before ≡ 0
  unfolding taken
  taken-accepted t = go (ltb e 256) (eqb count (2 ^ 64 - 1)) (pixels_fit r n m e) refl refl refl t
    where
      go :
          (byte full fit : Bool) → ltb e 256 ≡ byte → eqb count (2 ^ 64 - 1) ≡ full → pixels_fit r n m e ≡ fit → byte && (not full && fit) ≡ true
          → refusal_past_entry e before ≡ 0
      go true false true qb qf qp h = refusal-here true qb refl ∙ rw (qf, qp)
      go true false false qb qf qp h = cc
      go true true fit qb qf qp h = cc
      go false full fit qb qf qp h = cc

  pub not-taken-refused : e < 256 → count + 1 < 2 ^ 64 → taken e r n m count ≡ false → refusal_past_entry e before ≡ 16
  unfolding taken
  not-taken-refused byte room t =
      let small = lt-ltb e 256 byte in
      let free = ne_eqb count (2 ^ 64 - 1) (λ (q : count ≡ 2 ^ 64 - 1). omega (arith, q, room)) in
      refusal-here true small refl ∙ rw (free) (go (pixels_fit r n m e) (sym (rw (small, free)) ∙ t))
    where
      go : (fit : Bool) → fit ≡ false → refuse (not fit) 16 ≡ 16
      go false f = refl
      go true f = cc

  -- what it does
  pub display-accepted :
      e < 256
      → accepted e before
      ≡ after Acknowledged (whole (next_address r) (record { pins = a; status = b; last_rs = l; phase = phase_after_content p }) (pixels_after r n m e))
      (set m (place_of r) (stored_of r e)) (set w (place_of r) (count + 1)) (count + 1)
  unfolding accepted applied
  display-accepted byte = rw (byte-event e byte) (go p rs)
    where
      go :
          (q : Phase) → phase_rs q ≡ true
          → on_byte q e (counted (state (whole r (record { pins = a; status = b; last_rs = l; phase = q }) n) m w count))
          ≡ after Acknowledged (whole (next_address r) (record { pins = a; status = b; last_rs = l; phase = phase_after_content q }) (pixels_after r n m e))
          (set m (place_of r) (stored_of r e)) (set w (place_of r) (count + 1)) (count + 1)
      go Idle h = cc
      go AddressAwaited h = cc
      go Ignoring h = cc
      go ControlAwaited h = cc
      go (OneByte true) h = refl
      go (OneByte false) h = cc
      go (EndlessBytes true) h = refl
      go (EndlessBytes false) h = cc
      go Reading h = cc
      go ReadEnded h = cc

  pub display-goes-on :
      (k : ℕ) (rest : List ℕ) → taken e r n m count ≡ true
      → GoesOn k (e ∷ rest) before (k + 1) rest
      (state (whole (next_address r) (record { pins = a; status = b; last_rs = l; phase = phase_after_content p }) (pixels_after r n m e))
      (set m (place_of r) (stored_of r e)) (set w (place_of r) (count + 1)) (count + 1))
  unfolding run_past_entry tally_past_entry
  display-goes-on k rest t =
      let none = taken-accepted t in
      let done = display-accepted (taken-byte e r n m count t) in
      record {
        run = rw (none, done);
        tallied = λ (c : CommandAnswer). rw (none, done) (omega arith);
      }

-- ---- a stretch of them

-- the state behind a stretch, with this interface
abbrev pub state_of : Interface → Stretched → State
state_of i t = state (whole t.registers i t.pixels) t.memory t.writers t.count

module _ (a b : ℕ) (rs : Bool) (rest : List ℕ) (k : ℕ) where
  abbrev endless : Interface
  endless = record { pins = a; status = b; last_rs = rs; phase = EndlessBytes true }

  -- a byte is taken or not, and t is what comes of the events behind it
  one_more :
      (e : ℕ) (l : List ℕ) (j : ℕ) (r : Registers) (n : PixelCounts) (m w : List ℕ) (count : ℕ) (is-taken : Bool) (t : Stretched)
      → taken e r n m count ≡ is-taken
      → GoesOn (k + (j + 1)) (l ++ rest)
      (state (whole (next_address r) endless (pixels_after r n m e)) (set m (place_of r) (stored_of r e)) (set w (place_of r) (count + 1)) (count + 1))
      (k + t.done) (t.left ++ rest) (state_of endless t)
      → GoesOn (k + j) (e ∷ (l ++ rest)) (state (whole r endless n) m w count) (k + (cond is-taken t (stretched j (e ∷ l) r n m w count)).done)
      ((cond is-taken t (stretched j (e ∷ l) r n m w count)).left ++ rest) (state_of endless (cond is-taken t (stretched j (e ∷ l) r n m w count)))
  one_more e l j r n m w count true t q later =
      let first = display-goes-on e (EndlessBytes true) a b rs r n m w count refl (k + j) (l ++ rest) q in
      let shifted : k + (j + 1) ≡ k + j + 1 = omega arith in
      let next =
      state (whole (next_address r) endless (pixels_after r n m e)) (set m (place_of r) (stored_of r e)) (set w (place_of r) (count + 1)) (count + 1) in
      record {
        run = first.run ∙ ap (λ (x : ℕ). run_past_entry x (l ++ rest) next) (sym shifted) ∙ later.run;
        tallied = λ (c : CommandAnswer). first.tallied c ∙ later.tallied c;
      }
  one_more e l j r n m w count false t q later = record { run = refl; tallied = λ (c : CommandAnswer). refl }

  endless-stretch :
      (l : List ℕ) (j : ℕ) (r : Registers) (n : PixelCounts) (m w : List ℕ) (count : ℕ)
      → GoesOn (k + j) (l ++ rest) (state (whole r endless n) m w count) (k + (stretch_from j l r n m w count).done)
      ((stretch_from j l r n m w count).left ++ rest) (state_of endless (stretch_from j l r n m w count))
  unfolding stretch_from
  endless-stretch [] j r n m w count = record { run = refl; tallied = λ (c : CommandAnswer). refl }
  endless-stretch (e ∷ l) j r n m w count =
      one_more e l j r n m w count (taken e r n m count) _ refl
      (endless-stretch l (j + 1) (next_address r) (pixels_after r n m e) (set m (place_of r) (stored_of r e)) (set w (place_of r) (count + 1)) (count + 1))

  -- a single one
  single-stretch :
      (e : ℕ) (r : Registers) (n : PixelCounts) (m w : List ℕ) (count : ℕ) → ((stretch_from 0 (e ∷ []) r n m w count).done ≡ 0 → ⊥)
      → GoesOn k (e ∷ rest) (state (whole r (record { pins = a; status = b; last_rs = rs; phase = OneByte true }) n) m w count)
      (k + (stretch_from 0 (e ∷ []) r n m w count).done) ((stretch_from 0 (e ∷ []) r n m w count).left ++ rest)
      (state_of (record { pins = a; status = b; last_rs = rs; phase = ControlAwaited }) (stretch_from 0 (e ∷ []) r n m w count))
  unfolding stretch_from
  single-stretch e r n m w count = go (taken e r n m count) refl
    where
      go :
          (is-taken : Bool) → taken e r n m count ≡ is-taken
          → ((cond is-taken (stretched 1 [] (next_address r) (pixels_after r n m e) (set m (place_of r) (stored_of r e)) (set w (place_of r) (count + 1)) (count + 1)) (stretched 0 (e ∷ []) r n m w count)).done ≡ 0 → ⊥)
          → GoesOn k (e ∷ rest) (state (whole r (record { pins = a; status = b; last_rs = rs; phase = OneByte true }) n) m w count)
          (k + (cond is-taken (stretched 1 [] (next_address r) (pixels_after r n m e) (set m (place_of r) (stored_of r e)) (set w (place_of r) (count + 1)) (count + 1)) (stretched 0 (e ∷ []) r n m w count)).done)
          ((cond is-taken (stretched 1 [] (next_address r) (pixels_after r n m e) (set m (place_of r) (stored_of r e)) (set w (place_of r) (count + 1)) (count + 1)) (stretched 0 (e ∷ []) r n m w count)).left ++ rest)
          (state_of (record { pins = a; status = b; last_rs = rs; phase = ControlAwaited }) (cond is-taken (stretched 1 [] (next_address r) (pixels_after r n m e) (set m (place_of r) (stored_of r e)) (set w (place_of r) (count + 1)) (count + 1)) (stretched 0 (e ∷ []) r n m w count)))
      go true q some = display-goes-on e (OneByte true) a b rs r n m w count refl k rest q
      go false q some = absurd (some refl)

not_so : false ≡ true → ⊥
not_so h = omega (arith, ap {B = ℕ} (λ (t : Bool). cond t 1 0) h)

none_done : (r : Registers) (n : PixelCounts) (m w : List ℕ) (count : ℕ) → (stretch_from 0 [] r n m w count).done ≡ 0
unfolding stretch_from
none_done r n m w count = refl

two-long : (x : ℕ) → suc (suc x) ≡ 1 → ⊥
two-long x q = omega (arith, q)

plus-zero : (k : ℕ) → k + 0 ≡ k
plus-zero k = omega arith

not_taken :
    (e : ℕ) (l : List ℕ) (r : Registers) (n : PixelCounts) (m w : List ℕ) (count : ℕ) → taken e r n m count ≡ false
    → stretch_from 0 (e ∷ l) r n m w count ≡ stretched 0 (e ∷ l) r n m w count
unfolding stretch_from
not_taken e l r n m w count f = rw f

-- both kinds of content: endless bytes, or one
pub displayed :
    (i : Interface) (k : ℕ) (part rest : List ℕ) (r : Registers) (n : PixelCounts) (m w : List ℕ) (count : ℕ) → phase_rs i.phase ≡ true
    → (is_endless i.phase ≡ false → length part ≡ 1) → ((stretch_from 0 part r n m w count).done ≡ 0 → ⊥)
    → GoesOn k (part ++ rest) (state (whole r i n) m w count) (k + (stretch_from 0 part r n m w count).done)
    ((stretch_from 0 part r n m w count).left ++ rest) (state_of (turned i (phase_after_content i.phase)) (stretch_from 0 part r n m w count))
displayed i k part rest r n m w count h one some = go i.phase h part one some
  where
    go :
        (p : Phase) → phase_rs p ≡ true → (l : List ℕ) → (is_endless p ≡ false → length l ≡ 1) → ((stretch_from 0 l r n m w count).done ≡ 0 → ⊥)
        → GoesOn k (l ++ rest) (state (whole r (turned i p) n) m w count) (k + (stretch_from 0 l r n m w count).done)
        ((stretch_from 0 l r n m w count).left ++ rest) (state_of (turned i (phase_after_content p)) (stretch_from 0 l r n m w count))
    go Idle t l o x = absurd (not_so t)
    go AddressAwaited t l o x = absurd (not_so t)
    go Ignoring t l o x = absurd (not_so t)
    go ControlAwaited t l o x = absurd (not_so t)
    go (OneByte false) t l o x = absurd (not_so t)
    go (OneByte true) t [] o x = absurd (x (none_done r n m w count))
    go (OneByte true) t (e ∷ []) o x = single-stretch i.pins i.status i.last_rs rest k e r n m w count x
    go (OneByte true) t (e ∷ e' ∷ l) o x = absurd (two-long (length l) (o refl))
    go (EndlessBytes false) t l o x = absurd (not_so t)
    go (EndlessBytes true) t l o x =
        subst (λ (v : ℕ). GoesOn v (l ++ rest) (state (whole r (turned i (EndlessBytes true)) n) m w count) (k + (stretch_from 0 l r n m w count).done)
        ((stretch_from 0 l r n m w count).left ++ rest) (state_of (turned i (EndlessBytes true)) (stretch_from 0 l r n m w count))) (plus-zero k)
        (endless-stretch i.pins i.status i.last_rs rest k l 0 r n m w count)
    go Reading t l o x = absurd (not_so t)
    go ReadEnded t l o x = absurd (not_so t)

-- as many are done as are not left
pub stretch-within : (l : List ℕ) (j : ℕ) (r : Registers) (n : PixelCounts) (m w : List ℕ) (count : ℕ) → (stretch_from j l r n m w count).done ≤ j + length l
unfolding stretch_from
stretch-within [] j r n m w count = omega arith
stretch-within (e ∷ l) j r n m w count =
    go (taken e r n m count) _ (stretch-within l (j + 1) (next_address r) (pixels_after r n m e) (set m (place_of r) (stored_of r e)) (set w (place_of r) (count + 1)) (count + 1))
  where
    go :
        (t : Bool) (s : Stretched) → s.done ≤ j + 1 + length l → (cond t s (stretched j (e ∷ l) r n m w count)).done ≤ j + suc (length l)
    go true s h = omega (arith, h)
    go false s h = omega arith

at_least : (l : List ℕ) (j : ℕ) (r : Registers) (n : PixelCounts) (m w : List ℕ) (count : ℕ) → j ≤ (stretch_from j l r n m w count).done
unfolding stretch_from
at_least [] j r n m w count = omega arith
at_least (e ∷ l) j r n m w count =
    go (taken e r n m count) _ (at_least l (j + 1) (next_address r) (pixels_after r n m e) (set m (place_of r) (stored_of r e)) (set w (place_of r) (count + 1)) (count + 1))
  where
    go : (t : Bool) (s : Stretched) → j + 1 ≤ s.done → j ≤ (cond t s (stretched j (e ∷ l) r n m w count)).done
    go true s h = omega (arith, h)
    go false s h = omega arith

-- where none is done, the first was not taken
pub none-taken :
    (e : ℕ) (l : List ℕ) (r : Registers) (n : PixelCounts) (m w : List ℕ) (count : ℕ) → (stretch_from 0 (e ∷ l) r n m w count).done ≡ 0
    → taken e r n m count ≡ false
unfolding stretch_from
none-taken e l r n m w count = go (taken e r n m count) _ (at_least l 1 (next_address r) (pixels_after r n m e) (set m (place_of r) (stored_of r e)) (set w (place_of r) (count + 1)) (count + 1))
  where
    go : (t : Bool) (s : Stretched) → 1 ≤ s.done → (cond t s (stretched 0 (e ∷ l) r n m w count)).done ≡ 0 → t ≡ false
    go true s h q = absurd (omega (arith, h, q))
    go false s h q = refl

-- what the code made of a stretch goes on as the stretch does
pub stretch-made :
    (i i' : Interface) (p : Phase) (k : ℕ) (part rest : List ℕ) (r : Registers) (n : PixelCounts) (m w : List ℕ) (count d : ℕ) (r' : Registers)
    (n' : PixelCounts) (m' w' : List ℕ) (count' count'' : ℕ) → phase_rs i.phase ≡ true → (is_endless i.phase ≡ false → length part ≡ 1)
    → (d ≡ 0 → ⊥) → p ≡ phase_after_content i.phase → i' ≡ turned i p → count'' ≡ count'
    → stretched d (drop d part) r' n' m' w' count' ≡ stretch_from 0 part r n m w count
    → GoesOn k (part ++ rest) (state (whole r i n) m w count) (k + d) (drop d part ++ rest) (state (whole r' i' n') m' w' count'')
stretch-made i i' p k part rest r n m w count d r' n' m' w' count' count'' rs one some ep ei ec e =
    rw (ei, ep, ec)
    (subst
    (λ (t : Stretched).
    GoesOn k (part ++ rest) (state (whole r i n) m w count) (k + t.done) (t.left ++ rest) (state_of (turned i (phase_after_content i.phase)) t))
    (sym e)
    (displayed i k part rest r n m w count rs one (λ (z : (stretch_from 0 part r n m w count).done ≡ 0). some (ap (λ (t : Stretched). t.done) e ∙ z))))

-- no more are done than there are
pub made-within :
    (part : List ℕ) (r : Registers) (n : PixelCounts) (m w : List ℕ) (count : ℕ) (t : Stretched) → t ≡ stretch_from 0 part r n m w count
    → t.done ≤ length part
made-within part r n m w count t e = rw e (le-through (stretch-within part 0 r n m w count))
  where
    le-through : (stretch_from 0 part r n m w count).done ≤ 0 + length part → (stretch_from 0 part r n m w count).done ≤ length part
    le-through h = omega (arith, h)

-- ---- the part of the events that a stretch is looked for in

pub part_length : (es : List ℕ) (n size : ℕ) → n + size ≤ length es → length (take size (drop n es)) ≡ size
part_length es n size h = length-take-le size (drop n es) (rw (length-drop n es) (omega (arith, h)))

-- it begins with the next event
part-begins : (es : List ℕ) (n size : ℕ) → n < length es → 0 < size → take size (drop n es) ≡ get_or es n 0 ∷ take (size - 1) (drop (n + 1) es)
part-begins es n zero h z = absurd (omega (arith, z))
part-begins es n (suc k) h z =
    rw (drop-next es n h) (ap (λ (x : ℕ). get_or es n 0 ∷ take x (drop (n + 1) es)) less)
  where
    less : k ≡ suc k - 1
    less = omega arith

-- where none of it is done, 16 refuses the next event, and nothing is changed
pub nothing-done :
    (es : List ℕ) (k size : ℕ) (i : Interface) (r : Registers) (n : PixelCounts) (m w : List ℕ) (count : ℕ) (t : Stretched) → k < length es → 0 < size
    → t ≡ stretch_from 0 (take size (drop k es)) r n m w count → t.done ≡ 0 → get_or es k 0 < 256 → phase_rs i.phase ≡ true → count + 1 < 2 ^ 64
    → (refusal_past_entry (get_or es k 0) (state (whole r i n) m w count) ≡ 16) × ((t.memory ≡ m) × (t.writers ≡ w))
nothing-done es k size i r n m w count t h z e none byte rs room =
    let here : t ≡ stretch_from 0 (get_or es k 0 ∷ take (size - 1) (drop (k + 1) es)) r n m w count =
    e ∙ ap (λ (l : List ℕ). stretch_from 0 l r n m w count) (part-begins es k size h z) in
    let refused = none-taken (get_or es k 0) (take (size - 1) (drop (k + 1) es)) r n m w count (sym (ap (λ (x : Stretched). x.done) here) ∙ none) in
    let same : t ≡ stretched 0 (get_or es k 0 ∷ take (size - 1) (drop (k + 1) es)) r n m w count =
    here ∙ not_taken (get_or es k 0) (take (size - 1) (drop (k + 1) es)) r n m w count refused in (
      not-taken-refused (get_or es k 0) i.phase i.pins i.status i.last_rs r n m w count rs byte room refused,
      (ap (λ (x : Stretched). x.memory) same, ap (λ (x : Stretched). x.writers) same),
    )

-- how far it goes
pub content-span :
    (p : Phase) (here end r : ℕ) → r ≡ content_end p here end → here < end → (here < r) × (r ≤ end) × (is_endless p ≡ false → r ≡ here + 1)
content-span p here end r e h = go (is_endless p) e
  where
    go : (t : Bool) → r ≡ cond t end (here + 1) → (here < r) × (r ≤ end) × (t ≡ false → r ≡ here + 1)
    go true q = (omega (arith, q, h), omega (arith, q), λ (z : true ≡ false). absurd (not_so (sym z)))
    go false q = (omega (arith, q), omega (arith, q, h), λ (z : false ≡ false). q)

pub positive : (d : ℕ) → (d ≡ 0 → ⊥) → 0 < d
positive zero n = absurd (n refl)
positive (suc d) n = omega arith
