-- The loop over the samples: what holds after i of them, with n events stored, and what it comes to where it ends.
use mathlib.Core.Bool.{true, false, cond}
use mathlib.Core.List.{List, [], ◌∷◌, ◌++◌, append-nil, append_assoc}
use mathlib.Core.Path.{◌≡◌, refl, sym, ap, subst, ◌∙◌}
use Prim.Native.Nat.{ℕ, suc, ◌+◌, ◌-◌, ◌≤◌, ◌<◌}
use native.Mathlib.Nat.{add-zero, zero-add, sub-zero}
use native.Mathlib.Numerals.{add-one}
use native.Mathlib.Omega.{arith}
use borrow.Author.Tests.{eq-eqb, ne_eqb, ltb-true}
use lib.Dec.{eqb}
use lib.ListN.{length, take, drop, get_or, length-append, length-drop, drop_of_length-le}
use lib.Seq.{sets, length-sets, take-suc, set_at, drop-cons}
use Rattle.text.proofs.Finding.{drop-next}
use Rattle.wire_samples.specs.declared.Wires.{Wires}
use Rattle.std.proofs.Common.{Option, None, Some}
use Rattle.wire_samples.specs.declared.sample.Sampled.{Sampled}
use Rattle.wire_samples.specs.Sample.{sampled, sample_of, told_by}
use Rattle.wire_samples.specs.Feed.{events_at, after_all, events_of, fits, fitting, as_much_as_fits, Answer, answer_of, stored}
use Rattle.wire_samples.proofs.Again.{seen-again}
use Rattle.wire_samples.proofs.Joined.{after-joined, events-joined}

-- ---- what has room

-- as many places are left as events are told
pub fits-room : (t : Option ℕ) (room : ℕ) → fits t room ≡ true → length (told_by t) ≤ room
fits-room None room h = omega arith
fits-room (Some e) room h = omega (arith, ltb-true 0 room h)

-- ---- one event more

-- what is told goes behind the events that are stored
pub one-stored :
    (t : Option ℕ) (es out₀ : List ℕ) (n : ℕ) → n ≡ length es → n + length (told_by t) ≤ length out₀
    → sets (es ++ drop n out₀) n (told_by t) ≡ (es ++ told_by t) ++ drop (n + length (told_by t)) out₀
one-stored None es out₀ n p h = rw (add-zero n, append-nil es)
one-stored (Some e) es out₀ n p h =
    rw (drop-cons out₀ n 0 (omega (arith, h))) (set_at es (get_or out₀ n 0) (drop (suc n) out₀) e n (sym p))
    ∙ sym (append_assoc es (e ∷ []) (drop (suc n) out₀))
    ∙ ap (λ (k : ℕ). (es ++ (e ∷ [])) ++ drop k out₀) (sym (add-one n))

abbrev fed : Wires → ℕ → ℕ → ℕ → Answer
fed w i n q = record { wires = w; consumed = i; written = n; refusal = q }

fed-same : {w w' : Wires} {n n' q q' : ℕ} (i : ℕ) → w ≡ w' → n ≡ n' → q ≡ q' → fed w i n q ≡ fed w' i n' q'
fed-same i e f g = rw (e, f, g)

-- ---- the loop

module _ (w₀ : Wires) (ss out₀ : List ℕ) where
  pub record SoFar (i n : ℕ) (w : Wires) (out : List ℕ) : Type 0 where
    pub after : w ≡ after_all w₀ (take i ss)
    pub place : n ≡ length (events_of w₀ (take i ss))
    pub buffer : out ≡ events_of w₀ (take i ss) ++ drop n out₀
    pub room : n ≤ length out₀
    pub left : fitting (length out₀) w₀ ss ≡ i + fitting (length out₀ - n) w (drop i ss)

  pub begins : SoFar 0 0 w₀ out₀
  unfolding after_all events_of
  begins =
      record {
        after = refl;
        place = refl;
        buffer = refl;
        room = omega arith;
        left = ap (λ (k : ℕ). fitting k w₀ ss) (sym (sub-zero (length out₀))) ∙ sym (zero-add _);
      }

  -- what the answer and the buffer are where the loop ends
  pub record Ended (f : Answer) (out : List ℕ) : Type 0 where
    pub answer : f ≡ answer_of (as_much_as_fits (length out₀) w₀ ss)
    pub leaves : out ≡ stored (as_much_as_fits (length out₀) w₀ ss).events out₀

  module _ {i n : ℕ} {w : Wires} {out : List ℕ} (s : SoFar i n w out) where
    pub same_length : length out ≡ length out₀
    same_length =
        omega (
          arith,
          ap length s.buffer,
          length-append (events_of w₀ (take i ss)) (drop n out₀),
          length-drop n out₀,
          s.place,
          s.room,
        )

    ended : (q : ℕ) → fitting (length out₀) w₀ ss ≡ i → q ≡ cond (eqb i (length ss)) 0 15 → Ended (fed w i n q) out
    ended q e h =
        record {
          answer = rw e (fed-same i s.after s.place h);
          leaves = rw e (s.buffer ∙ ap (λ (k : ℕ). events_of w₀ (take i ss) ++ drop k out₀) s.place);
        }

    -- all samples are consumed
    pub all_read : i ≡ length ss → Ended (fed w (length ss) n 0) out
    unfolding fitting
    all_read e =
        let past : length ss ≤ i = omega (arith, e) in
        let none : fitting (length out₀ - n) w (drop i ss) ≡ 0 = rw (drop_of_length-le ss past) refl in
        subst (λ (k : ℕ). Ended (fed w k n 0) out) e (ended 0 (s.left ∙ omega (arith, none)) (rw (eq-eqb i (length ss) e) refl))

    module _ (h : i < length ss) (r : Sampled) (e : r ≡ sample_of w (get_or ss i 0)) where
      next : drop i ss ≡ get_or ss i 0 ∷ drop (i + 1) ss
      next = drop-next ss i h

      one_more : take (i + 1) ss ≡ take i ss ++ (get_or ss i 0 ∷ [])
      one_more = ap (λ (k : ℕ). take k ss) (add-one i) ∙ take-suc ss i 0 h

      -- the next event has no room, and k samples were consumed
      pub short : fits r.told (length out - n) ≡ false → (k : ℕ) → k ≡ i → Ended (fed w k n 15) out
      unfolding fitting
      short f k c =
          let none : fitting (length out₀ - n) w (drop i ss) ≡ 0 = rw (next, ← e, ← same_length, f) refl in
          rw c (ended 15 (s.left ∙ omega (arith, none)) (rw (ne_eqb i (length ss) (λ q. omega (arith, q, h))) refl))

      module _ (f : fits r.told (length out - n) ≡ true) where
        pub has_room : n + length (told_by r.told) ≤ length out
        has_room = omega (arith, fits-room r.told (length out - n) f, same_length, s.room)

        goes_on : SoFar (i + 1) (n + length (told_by r.told)) r.wires (sets out n (told_by r.told))
        unfolding after_all events_of fitting
        goes_on =
            let told : events_at w (get_or ss i 0) ≡ told_by r.told = ap (λ (x : Sampled). told_by x.told) (sym e) in
            let events : events_of w₀ (take (i + 1) ss) ≡ events_of w₀ (take i ss) ++ told_by r.told =
            ap (events_of w₀) one_more
            ∙ events-joined w₀ (take i ss) (get_or ss i 0 ∷ [])
            ∙ rw (← s.after, append-nil (events_at w (get_or ss i 0)), told) refl in
            record {
              after = ap (λ (x : Sampled). x.wires) e ∙ rw s.after (sym (after-joined w₀ (take i ss) (get_or ss i 0 ∷ []))) ∙ sym (ap (after_all w₀) one_more);
              place = omega (arith, s.place, ap length events, length-append (events_of w₀ (take i ss)) (told_by r.told));
              buffer =
                  ap (λ (l : List ℕ). sets l n (told_by r.told)) s.buffer
                  ∙ one-stored r.told (events_of w₀ (take i ss)) out₀ n s.place (omega (arith, has_room, same_length))
                  ∙ ap (λ (l : List ℕ). l ++ drop (n + length (told_by r.told)) out₀) (sym events);
              room = omega (arith, has_room, same_length);
              left =
                  let fitted : fits (sample_of w (get_or ss i 0)).told (length out₀ - n) ≡ true = rw (← e, ← same_length) f in
                  let rest : Sampled → ℕ = λ x. suc (fitting (length out₀ - n - length (told_by x.told)) x.wires (drop (i + 1) ss)) in
                  let one : fitting (length out₀ - n) w (drop i ss) ≡ rest r = rw (next, fitted) (ap rest (sym e)) in
                  let same : length out₀ - n - length (told_by r.told) ≡ length out₀ - (n + length (told_by r.told)) = omega arith in
                  omega (arith, s.left, one, ap (λ (k : ℕ). fitting k r.wires (drop (i + 1) ss)) same);
            }

        pub put_on :
            (n' : ℕ) (out' : List ℕ) → out' ≡ sets out n (told_by r.told) → n' ≡ n + length (told_by r.told)
            → (length out' ≡ length out₀) × SoFar (i + 1) n' r.wires out'
        put_on n' out' p q = rw (p, q) (length-sets out n (told_by r.told) ∙ same_length, goes_on)

  -- ---- the last sample again

  -- one is consumed, and all else is as it was
  pub one_again : {i n : ℕ} {w : Wires} {out : List ℕ} → SoFar i n w out → i < length ss → get_or ss i 0 ≡ w.last → SoFar (i + 1) n w out
  one_again {i} {n} {w} {out} s h e =
      let same : sampled w None ≡ sample_of w (get_or ss i 0) = sym (seen-again w) ∙ ap (sample_of w) (sym e) in
      (put_on s h (sampled w None) same refl n out refl (sym (add-zero n))).1
