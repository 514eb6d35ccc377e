-- Steps through the code of the refusals, over plain variables.
use mathlib.Core.Bool.{Bool, true, false, cond, ◌&&◌}
use mathlib.Core.List.{List, [], ◌∷◌}
use mathlib.Core.Path.{◌≡◌, refl, sym, ap, ◌∙◌}
use Prim.Native.Nat.{ℕ, suc, ◌+◌, ◌-◌, ◌≤◌}
use lib.ListN.{length, take, drop}
use Rattle.registers.specs.Refusals.{◌then◌}
use Rattle.registers.proofs.Below.{and-true}
use Rattle.bus.specs.Bus.{Device, device, bus, every, how_many, has_other_pins, pins_differ}
use Rattle.bus.specs.Refusals.{is_long, devices_refusal_for, devices_refusal, sent_refusal, counts_fit, pixels_refusal_for, bus_refusal}
use Rattle.registers.specs.declared.Chip.{Chip}
use Rattle.std.proofs.lemmas.List.{take_all}
use Rattle.std.proofs.lemmas.List.Recursion.{is_count_by}
use native.Mathlib.Omega.{arith}
use Rattle.std.specs.List.{list_all, count_by}
use Rattle.bus_refusals.specs.Four.{chip_at, four, records_of}

-- ---- tests of records

-- a chip with no memories
abbrev record_alone : Chip → Device
record_alone c = device c [] []

pub every-told : (f : Device → Bool) (cs : List Chip) → list_all (λ (c : Chip). f (record_alone c)) cs ≡ every f (records_of cs)
every-told f [] = refl
every-told f (c ∷ cs) = ap (λ (t : Bool). f (record_alone c) && t) (every-told f cs)

pub how-many-told : (f : Device → Bool) (cs : List Chip) → count_by (λ (c : Chip). f (record_alone c)) cs ≡ how_many f (records_of cs)
how-many-told f cs = sym (is_count_by (λ l. how_many f (records_of l)) (λ c. f (record_alone c)) refl (λ c l. one_more (f (record_alone c)) _) cs)
  where
    one_more : (t : Bool) (n : ℕ) → cond t 1 0 + n ≡ cond t (1 + n) n
    one_more true n = refl
    one_more false n = omega arith

-- the first record's pins against those of the others, then the others
pub differ-told :
    (cs os : List Chip) (a b : Bool) → 1 ≤ length cs → os ≡ take (length cs - 1) (drop 1 cs)
    → a ≡ list_all (λ (c : Chip). has_other_pins (chip_at cs 0).pins (record_alone c)) os → b ≡ pins_differ (records_of os)
    → a && b ≡ pins_differ (records_of cs)
differ-told [] os a b l eo ea eb = absurd (omega (arith, l))
differ-told (c ∷ cs) os a b l eo ea eb =
    let others : os ≡ cs = eo ∙ take_all (suc (length cs) - 1) cs (omega arith) in
    rw (ea ∙ every-told (has_other_pins c.pins) os, eb, others)

-- ---- the refusals in their order

-- the tests of four records do not look at the memories
pub records-told :
    (t : Bool) (ts cs : List Chip) (m0 w0 m1 w1 m2 w2 m3 w3 : List ℕ) → ts ≡ chip_at cs 0 ∷ chip_at cs 1 ∷ chip_at cs 2 ∷ chip_at cs 3 ∷ []
    → devices_refusal_for t (records_of ts) ≡ devices_refusal_for t (four cs m0 w0 m1 w1 m2 w2 m3 w3)
records-told t ts cs m0 w0 m1 w1 m2 w2 m3 w3 e = rw e refl

-- what the code found of four chips: whether the memories are long, and whether the counts fit
pub refusal-told :
    (e k n r : ℕ) (l0 l1 l2 l3 fit : Bool) (a b c d : Device) → l0 ≡ is_long a → l1 ≡ is_long b → l2 ≡ is_long c → l3 ≡ is_long d
    → fit ≡ every (counts_fit e) (a ∷ b ∷ c ∷ d ∷ [])
    → r ≡ devices_refusal_for (l0 && (l1 && (l2 && l3))) (a ∷ b ∷ c ∷ d ∷ []) then sent_refusal e k n then pixels_refusal_for fit
    → r ≡ bus_refusal e k (bus (a ∷ b ∷ c ∷ d ∷ []) n)
unfolding bus_refusal devices_refusal
refusal-told e k n r l0 l1 l2 l3 fit a b c d q0 q1 q2 q3 fits told =
    let long : l0 && (l1 && (l2 && l3)) ≡ every is_long (a ∷ b ∷ c ∷ d ∷ []) = simp (q0, q1, q2, q3, and-true) in
    told
    ∙ ap (λ (t : Bool). devices_refusal_for t (a ∷ b ∷ c ∷ d ∷ []) then sent_refusal e k n then pixels_refusal_for fit) long
    ∙ ap (λ (t : Bool). devices_refusal_for (every is_long (a ∷ b ∷ c ∷ d ∷ [])) (a ∷ b ∷ c ∷ d ∷ []) then sent_refusal e k n then pixels_refusal_for t) fits
