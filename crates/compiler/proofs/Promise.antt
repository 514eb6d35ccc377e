-- What `compile` wrote draws the list: its promise from the definition.
use mathlib.Core.Bool.{Bool, true, false, cond}
use mathlib.Core.List.{List}
use mathlib.Core.Path.{◌≡◌, refl, sym, ap, ◌∙◌, subst}
use Prim.Native.Nat.{ℕ, ◌+◌, ◌^◌, ◌≤◌, ◌<◌}
use native.Mathlib.Omega.{arith}
use borrow.Author.Tests.{leb-true}
use lib.Dec.{leb, ltb}
use lib.ListN.{length, take, drop}
use lib.Seq.{sets, sets-eq, take-append_seam}
use Rattle.registers.specs.declared.Chip.{Chip}
use Rattle.registers.specs.Record.{allowed, blank}
use Rattle.registers.specs.State.{state}
use Rattle.lists.specs.declared.Line.{Line}
use Rattle.lists.specs.Lists.{Reading, faulty, lines, reading_of, newlines}
use Rattle.drawing.specs.Demand3.{Demand3, Draws}
use Rattle.drawing.specs.Stream.{stream, clocks_of}
use Rattle.drawing.proofs.Demand3.{text-demand-3}
use Rattle.compiler.specs.Answer.{Compiled}
use Rattle.compiler.specs.Answer.{Done, Refused, BadLine, Short}
use Rattle.compiler.specs.Compile.{Result, answered, from_reading, compile_of}
use Rattle.compiler.specs.Promise.{Promise}

done_refused : (n k j : ℕ) → Done n k ≡ Refused j → ⊥
done_refused n k j e = let z : ◌≡◌ {A = ℕ} 0 1 = cc in omega arith

done-bad : (n k j i : ℕ) → Done n k ≡ BadLine j i → ⊥
done-bad n k j i e = let z : ◌≡◌ {A = ℕ} 0 1 = cc in omega arith

done-short : (n k j : ℕ) → Done n k ≡ Short j → ⊥
done-short n k j e = let z : ◌≡◌ {A = ℕ} 0 1 = cc in omega arith

done-length : (n k m j : ℕ) → Done n k ≡ Done m j → n ≡ m
done-length n k m j e = cc

answers : (r q : Result) → r ≡ q → r.answer ≡ q.answer
answers r q e = ap (λ (z : Result). z.answer) e

written-there : (out es : List ℕ) → length es ≤ length out → take (length es) (sets out 0 es) ≡ es
written-there out es h = ap (take (length es)) (sets-eq es out 0 (omega arith)) ∙ take-append_seam es (drop (0 + length es) out)

module _ (c : Chip) (text out : List ℕ) where
  abbrev events_of : List Line → List ℕ
  events_of ls = stream c.pins ls (blank c.registers)

  from-output :
      (ls : List Line) (n k : ℕ) (out' : List ℕ) (t : Bool) → reading_of text ≡ lines ls
      → leb (length (events_of ls)) (length out) ≡ t
      → answered (Done n k) out'
      ≡ cond t (answered (Done (length (events_of ls)) (clocks_of (events_of ls))) (sets out 0 (events_of ls)))
      (answered (Short (length (events_of ls))) out)
      → Draws c text n out'
  from-output ls n k out' false reads room e = absurd (done-short n k _ (answers _ _ e))
  from-output ls n k out' true reads room e =
      let es = events_of ls in
      let count : n ≡ length es = done-length n k _ _ (answers _ _ e) in
      let is : out' ≡ sets out 0 es = ap (λ (z : Result). z.out) e in
      let first : take n out' ≡ es =
      ap (λ (z : ℕ). take z out') count ∙ ap (take (length es)) is ∙ written-there out es (leb-true (length es) (length out) room)
      in
      record {
        list = ls;
        reads = reads;
        plays = λ m w before fit t more.
            subst (λ (z : List ℕ). Demand3 ls z (state c m w before)) (sym first)
            (text-demand-3 text ls reads (state c m w before) fit t (subst (λ (z : ℕ). before + z < 2 ^ 64) count more));
      }

  from-text :
      (r : Reading) (n k : ℕ) (out' : List ℕ) → reading_of text ≡ r → answered (Done n k) out' ≡ from_reading c.pins (blank c.registers) r out
      → Draws c text n out'
  from-text (faulty j i) n k out' reads e = absurd (done-bad n k j i (answers _ _ e))
  from-text (lines ls) n k out' reads e = from-output ls n k out' (leb (length (events_of ls)) (length out)) reads refl e

  pub compile-draws : (r : Compiled) (out' : List ℕ) → answered r out' ≡ compile_of c text out → Promise r c text out'
  unfolding compile_of
  compile-draws r out' e n k done = go (allowed c) (ltb 4096 (newlines text)) (ap (λ (z : Compiled). answered z out') (sym done) ∙ e)
    where
      go :
          (t u : Bool)
          → answered (Done n k) out'
          ≡ cond t (cond u (answered (Refused 9) out) (from_reading c.pins (blank c.registers) (reading_of text) out)) (answered (Refused 2) out)
          → Draws c text n out'
      go false u h = absurd (done_refused n k 2 (answers _ _ h))
      go true true h = absurd (done_refused n k 9 (answers _ _ h))
      go true false h = from-text (reading_of text) n k out' refl h
