-- Demand 3 and the last writer, by calls alone.
use mathlib.Core.Bool.{Bool, true, false}
use mathlib.Core.List.{List}
use mathlib.Core.Logic.{inl, inr}
use mathlib.Core.Path.{◌≡◌, refl, sym, ap, ◌∙◌, subst}
use Prim.Native.Nat.{ℕ, ◌<◌}
use native.Mathlib.Omega.{arith}
use lib.ListN.{get_or, length}
use Rattle.registers.specs.Record.{phase_rs, of_values}
use Rattle.registers.specs.State.{State}
use Rattle.engine.specs.Answer.{Command}
use Rattle.engine.specs.Event.{number_of}
use Rattle.chip.specs.Promised.{CommandAnswer, stored_of}
use Rattle.engine.specs.Step.{After, refusal_of, step_of}
use Rattle.engine.specs.Run.{outcome, run_of}
use Rattle.engine.proofs.Numbers.{no-refusal-number}
use Rattle.chip.specs.LastWriter.{before, LastWriter}
use Rattle.chip.specs.LastWriter as chip
use Rattle.chip.proofs.Refusals.{data-rs}
use Rattle.chip.specs.Plays.{played}
use Rattle.chip.proofs.Laws.{display-law, run-steps, last-writer}
use Rattle.chip.proofs.Events.{answered-command}
use Rattle.lists.specs.declared.Line.{Line}
use Rattle.drawing.specs.Demand3.{Demand3}
use Rattle.drawing.specs.Plain.{picture_of, plain_reading}
use Rattle.record_words.specs.Words.{bit, stands_for, words_of}
use Rattle.host.specs.Calls.{no_record, Stepped, Ran, ran, after_run, run_for, run_call}
use Rattle.host.specs.Playing.{Buffers, buffers, step_on, run_on, upon_event, after_events, picture_in, CommandAwaited, PlayedByCalls, StoredByCall, LastWriterByCalls}
use Rattle.host.proofs.Steps.{acknowledged-number, number-acknowledged}
use Rattle.host.proofs.Steps.{buffers_of, Stands, call-steps, step-answers, Accepted, upon-event, after-events, call-runs}
use Rattle.host.proofs.Steps.{no-record-ran}
use Rattle.host.proofs.Commands.{command-awaited, awaits-command}
use Rattle.host.proofs.Counting.{true-words}
use Rattle.host.specs.Counting.{TrueWords}

-- ---- demand 3

picture-of : (s : State) → picture_in (buffers_of s) ≡ picture_of s
unfolding words_of
picture-of s = refl

pub played-by-calls : (ls : List Line) (es : List ℕ) (s : State) → Stands s → Demand3 ls es s → PlayedByCalls ls es (buffers_of s)
played-by-calls ls es s h d =
    record {
      not_refused = λ i l.
          rw (number i l)
          (no-refusal-number (step_of (get_or es i 0) (before es i s)).answer
          (step-answers (before es i s) (stands i l) (get_or es i 0) (accepted i l)).answered);
      taken = λ i l b awaits.
          number i l ∙ ap number_of ((d.all-good i l).taken b (command-awaited (before es i s) (subst CommandAwaited (upon i l) awaits)));
      acknowledged = λ i l b other. number i l ∙ acknowledged-number _ ((d.all-good i l).acknowledged b) (no-command i l other);
      same-picture = ap picture_in ends ∙ picture-of (played es s) ∙ d.same-picture ∙ ap (plain_reading ls) (sym (picture-of s));
      same_run =
          call-runs es s h ∙ whole ∙ ap (λ (b : Buffers). ran 0 (length es) 0 0 b.words b.memory b.writers b.count) (sym ends);
      true_counts = subst (λ (b : Buffers). TrueWords b.words b.memory) (sym ends) (true-words (played es s) d.true_counts);
    }
  where
    accepted : Accepted es (length es) s
    accepted i l = (d.all-good i l).not_refused

    ends : after_events es (buffers_of s) ≡ buffers_of (played es s)
    ends = after-events es s h accepted

    upon : (i : ℕ) → i < length es → upon_event es i (buffers_of s) ≡ buffers_of (before es i s)
    upon i l = (upon-event es (length es) i s h accepted (omega arith) (omega arith)).0

    whole : run_for es s ≡ after_run (outcome (length es) 0 (played es s)) 0 0
    whole = rw (d.same_run, d.none_unknown, d.none_out_of_range)

    -- where no command is awaited, none is answered
    no-command :
        (i : ℕ) → i < length es → (CommandAwaited (upon_event es i (buffers_of s)) → ⊥)
        → (x : CommandAnswer) → (step_of (get_or es i 0) (before es i s)).answer ≡ Command x → ⊥
    no-command i l other x q =
        other (subst CommandAwaited (sym (upon i l)) (awaits-command (before es i s) (answered-command _ _ (accepted i l) x q).1))

    stands : (i : ℕ) → i < length es → Stands (before es i s)
    stands i l = (upon-event es (length es) i s h accepted (omega arith) (omega arith)).1

    number :
        (i : ℕ) → i < length es
        → (step_on (get_or es i 0) (upon_event es i (buffers_of s))).number ≡ number_of (step_of (get_or es i 0) (before es i s)).answer
    number i l =
        ap (λ (b : Buffers). (step_on (get_or es i 0) b).number) (upon i l)
        ∙ ap (λ (r : Stepped). r.number) (call-steps (before es i s) (stands i l) (get_or es i 0))

-- ---- the last writer

bit-one : (t : Bool) → bit t ≡ 1 → t ≡ true
bit-one true e = refl
bit-one false e = absurd (omega arith)

module _ (e : ℕ) (s : State) (k : ℕ) (h : Stands s) where
  of-call : (step_on e (buffers_of s)).number ≡ number_of (step_of e s).answer
  of-call = ap (λ (r : Stepped). r.number) (call-steps s h e)

  chip-stored : refusal_of e s ≡ 0 → StoredByCall e (buffers_of s) k → chip.StoredAt e s k
  unfolding words_of
  chip-stored r st =
      record {
        is-byte = st.is-byte;
        is_data = data-rs s.chip.phase ∙ bit-one (phase_rs s.chip.phase) st.is_data;
        acknowledged = number-acknowledged _ (step-answers s h e r).answered (sym of-call ∙ st.acknowledged);
        at_place = st.at_place;
      }

  call-stored : refusal_of e s ≡ 0 → chip.StoredAt e s k → StoredByCall e (buffers_of s) k
  unfolding words_of
  call-stored r st =
      record {
        is-byte = st.is-byte;
        is_data = ap bit (sym (data-rs s.chip.phase) ∙ st.is_data);
        acknowledged = of-call ∙ ap (λ (a : After). number_of a.answer) (display-law s e st.is-byte r st.is_data);
        at_place = st.at_place;
      }

module _ (es : List ℕ) (s : State) (k : ℕ) (h : Stands s) where
  abbrev done : ℕ
  done = (run_of es s).done

  did : (run_on es (buffers_of s)).done ≡ done
  did = ap (λ (r : Ran). r.done) (call-runs es s h)

  taken : Accepted es done s
  taken = (run-steps es s).accepted

  upon : (i : ℕ) → i < done → (upon_event es i (buffers_of s) ≡ buffers_of (before es i s)) × Stands (before es i s)
  upon i l = upon-event es done i s h taken (omega arith) (omega (arith, (run-steps es s).no_more))

  stored-by-chip : (i : ℕ) → i < done → StoredByCall (get_or es i 0) (upon_event es i (buffers_of s)) k → chip.StoredAt (get_or es i 0) (before es i s) k
  stored-by-chip i l st =
      chip-stored (get_or es i 0) (before es i s) k (upon i l).1 (taken i l)
      (subst (λ (b : Buffers). StoredByCall (get_or es i 0) b k) (upon i l).0 st)

  memory-byte : get_or (run_on es (buffers_of s)).memory k 0 ≡ get_or (run_of es s).state.memory k 0
  memory-byte = ap (λ (r : Ran). get_or r.memory k 0) (call-runs es s h)

  writer-number : get_or (run_on es (buffers_of s)).writers k 0 ≡ get_or (run_of es s).state.writers k 0
  writer-number = ap (λ (r : Ran). get_or r.writers k 0) (call-runs es s h)

  from-chip : LastWriter es s k → LastWriterByCalls es (buffers_of s) k
  unfolding words_of
  from-chip (inl u) =
      inl
      record {
        none = λ i l st. u.none i (omega (arith, did)) (stored-by-chip i (omega (arith, did)) st);
        byte = memory-byte ∙ u.byte;
        writer = writer-number ∙ u.writer;
      }
  from-chip (inr w) =
      let last = w.last in
      let i = last.event in
      inr
      record {
        event = i;
        is_done = omega (arith, did, last.is_done);
        stored =
            subst (λ (b : Buffers). StoredByCall (get_or es i 0) b k) (sym (upon i last.is_done).0)
            (call-stored (get_or es i 0) (before es i s) k (upon i last.is_done).1 (taken i last.is_done) last.is_stored);
        is_last = λ j later l st. last.is_last j later (omega (arith, did)) (stored-by-chip j (omega (arith, did)) st);
        byte =
            memory-byte ∙ w.byte
            ∙ ap (λ (b : Buffers). stored_of (of_values b.words) (get_or es i 0)) (sym (upon i last.is_done).0);
        writer = writer-number ∙ w.writer;
      }

  pub last-writer-stands : LastWriterByCalls es (buffers_of s) k
  last-writer-stands = from-chip (last-writer es s k)

pub last-writer-none : (es ws m w : List ℕ) (count k : ℕ) → stands_for ws ≡ false → LastWriterByCalls es (buffers ws m w count) k
last-writer-none es ws m w count k h =
    inl
    record {
      none = λ i l st. absurd (omega (arith, ap (λ (r : Ran). r.done) ran-none));
      byte = ap (λ (r : Ran). get_or r.memory k 0) ran-none;
      writer = ap (λ (r : Ran). get_or r.writers k 0) ran-none;
    }
  where
    ran-none : run_call es ws m w count ≡ ran (no_record m w) 0 0 0 ws m w count
    ran-none = no-record-ran es ws m w count h
