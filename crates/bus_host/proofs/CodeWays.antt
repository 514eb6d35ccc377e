-- Ways through the code of the host's call for a bus, over plain variables.
use mathlib.Core.Bool.{Bool, true, false, cond, ◌&&◌}
use Rattle.std.specs.Prelude.{Option, None, Some}
use mathlib.Core.List.{List}
use mathlib.Core.Path.{◌≡◌, refl, sym, ap, ◌∙◌}
use Prim.Native.Nat.{ℕ}
use native.Mathlib.Omega.{arith}
use Rattle.registers.specs.declared.Chip.{Chip}
use Rattle.registers.proofs.Below.{and-true, false-true}
use Rattle.engine.specs.Answer.{Answer}
use Rattle.engine.specs.Event.{number_of}
use Rattle.bus.specs.Bus.{bus}
use Rattle.bus.specs.Step.{bus_after, bus_step_of}
use Rattle.bus_refusals.specs.Four.{chip_at, four}
use Rattle.record_words.specs.Words.{stands_for, stored}
use Rattle.record_words.proofs.Laws.{stored-over}
use Rattle.bus_host.specs.Buffers.{lent, four_lent, has_lengths, chips_of, four_read}
use Rattle.bus_host.specs.BusCall.{called, no_record_for, bus_call}

-- ---- four records

read_none : (t : Bool) (c : List Chip) → cond t (Some c) None ≡ None → t ≡ false
read_none true c e = let z : ◌≡◌ {A = ℕ} 0 1 = cc in absurd (omega arith)
read_none false c e = refl

read_all : (t : Bool) (c d : List Chip) → cond t (Some c) None ≡ Some d → (t ≡ true) × (d ≡ c)
read_all true c d e = (refl, cc)
read_all false c d e = let z : ◌≡◌ {A = ℕ} 0 1 = cc in absurd (omega arith)

pub both : (a b : Bool) → a && b ≡ true → (a ≡ true) × (b ≡ true)
both true b h = (refl, h)
both false b h = absurd (false-true h)

-- ---- the call; x is what the words gave

module _ (e k n : ℕ) (ws0 m0 w0 ws1 m1 w1 ws2 m2 w2 ws3 m3 w3 : List ℕ) (x : Option (List Chip)) (ex : x ≡ four_read ws0 ws1 ws2 ws3) where
  pub call-no-record :
      (r : ℕ) → x ≡ None
      → r ≡ no_record_for (has_lengths (lent ws0 m0 w0) && (has_lengths (lent ws1 m1 w1) && (has_lengths (lent ws2 m2 w2) && has_lengths (lent ws3 m3 w3))))
      → called r (four_lent ws0 m0 w0 ws1 m1 w1 ws2 m2 w2 ws3 m3 w3) n ≡ bus_call e k (four_lent ws0 m0 w0 ws1 m1 w1 ws2 m2 w2 ws3 m3 w3) n
  unfolding bus_call four_read
  call-no-record r unread er =
      let none = read_none (stands_for ws0 && (stands_for ws1 && (stands_for ws2 && stands_for ws3))) (chips_of ws0 ws1 ws2 ws3) (sym ex ∙ unread) in
      rw (and-true (stands_for ws3), none, and-true (has_lengths (lent ws3 m3 w3)), er)

  pub call-done :
      (c c' : List Chip) (a : Answer) (r n' : ℕ) (l0 m0' w0' l1 m1' w1' l2 m2' w2' l3 m3' w3' : List ℕ)
      → x ≡ Some c
      → bus_after a (four c' m0' w0' m1' w1' m2' w2' m3' w3') n' ≡ bus_step_of e k (bus (four c m0 w0 m1 w1 m2 w2 m3 w3) n)
      → l0 ≡ stored (chip_at c' 0) ws0 → l1 ≡ stored (chip_at c' 1) ws1 → l2 ≡ stored (chip_at c' 2) ws2 → l3 ≡ stored (chip_at c' 3) ws3
      → r ≡ number_of a
      → called r (four_lent l0 m0' w0' l1 m1' w1' l2 m2' w2' l3 m3' w3') n'
      ≡ bus_call e k (four_lent ws0 m0 w0 ws1 m1 w1 ws2 m2 w2 ws3 m3 w3) n
  unfolding bus_call four_read
  call-done c c' a r n' l0 m0' w0' l1 m1' w1' l2 m2' w2' l3 m3' w3' is ea e0 e1 e2 e3 er =
      let found = read_all (stands_for ws0 && (stands_for ws1 && (stands_for ws2 && stands_for ws3))) (chips_of ws0 ws1 ws2 ws3) c (sym ex ∙ is) in
      let s0 = both (stands_for ws0) (stands_for ws1 && (stands_for ws2 && stands_for ws3)) found.0 in
      let s1 = both (stands_for ws1) (stands_for ws2 && stands_for ws3) s0.1 in
      let s2 = both (stands_for ws2) (stands_for ws3) s1.1 in
      let done = ea ∙ ap (λ (d : List Chip). bus_step_of e k (bus (four d m0 w0 m1 w1 m2 w2 m3 w3) n)) found.1 in
      rw (
        s0.0,
        s1.0,
        s2.0,
        s2.1,
        ← done,
        e0 ∙ stored-over ws0 (chip_at c' 0) s0.0,
        e1 ∙ stored-over ws1 (chip_at c' 1) s1.0,
        e2 ∙ stored-over ws2 (chip_at c' 2) s2.0,
        e3 ∙ stored-over ws3 (chip_at c' 3) s2.1,
        er,
      )
