-- Samples in several calls, each fed to the state that the one before it handed back: the events and the state are those of one call.
use mathlib.Core.List.{List, [], ◌∷◌, ◌++◌}
use mathlib.Core.Path.{◌≡◌, refl, sym, ap, ◌∙◌}
use Prim.Native.Nat.{ℕ}
use lib.ListN.{length, take, drop, take-append-drop}
use lib.Seq.{take-append_seam}
use Rattle.wire_samples.specs.Feed.{after_all, events_of}
use Rattle.wire_samples.proofs.Joined.{after-joined, events-joined}
use Rattle.wire_traffic.specs.Calls.{Part, joined, Rooms}
use Rattle.wire_traffic.specs.When.{Samples}
use Rattle.wire_traffic.proofs.Cuts.{samples-parts}
use Rattle.wire_traffic.proofs.Ranges.{all-in-ranges}
use Rattle.wire_traffic.proofs.Rooms.{are-samples}
use Rattle.wire_words.specs.Words.{IsState, wires_of, words_of}
use Rattle.wire_words.specs.Calls.{wires_call, turned, in_turn, events_from, words_after}
use Rattle.wire_words.proofs.Stands.{stands-exactly, words-wires-words, wires-words-wires}
use Rattle.wire_words.proofs.Ranges.{in-ranges-state, state-in-ranges}
use Rattle.wire_words.proofs.Outcomes.{outcome-0}
use Rattle.wire_words.proofs.Laws.{written-events, words-after}

module _ (ws xs ys : List ℕ) where
  -- the words after some samples, fed with more
  pub words-joined : words_after ws (xs ++ ys) ≡ words_after (words_after ws xs) ys
  words-joined = rw (wires-words-wires (after_all (wires_of ws) xs)) (ap words_of (after-joined (wires_of ws) xs ys))

  pub told-joined : events_from ws (xs ++ ys) ≡ events_from ws xs ++ events_from (words_after ws xs) ys
  told-joined = rw (wires-words-wires (after_all (wires_of ws) xs)) (events-joined (wires_of ws) xs ys)

-- ---- after one call, whichever samples it consumed

module _ (ws ss out : List ℕ) (s : IsState ws) where
  abbrev rest : List ℕ
  rest = drop (wires_call ws ss out).consumed ss

  -- the events that it wrote, then those that its words tell of the other samples, are those of all,
  pub goes-on-events :
      events_from ws ss ≡ take (wires_call ws ss out).written (wires_call ws ss out).events ++ events_from (wires_call ws ss out).words rest
  goes-on-events =
      let k = (wires_call ws ss out).consumed in
      ap (events_from ws) (sym (take-append-drop k ss))
      ∙ told-joined ws (take k ss) rest
      ∙ rw (written-events ws ss out, words-after ws ss out s) refl

  -- and so are the words at their end
  pub goes-on-words : words_after ws ss ≡ words_after (wires_call ws ss out).words rest
  goes-on-words =
      let k = (wires_call ws ss out).consumed in
      ap (words_after ws) (sym (take-append-drop k ss)) ∙ words-joined ws (take k ss) rest ∙ rw (words-after ws ss out s) refl

-- ---- any number of calls with room

same-turned : {ws ws' es es' : List ℕ} → ws ≡ ws' → es ≡ es' → turned ws es ≡ turned ws' es'
same-turned e f = rw (e, f)

-- however the samples are cut into parts: the events and the words at the end are those of all samples at once
pub in-turn :
    (ps : List Part) (ws : List ℕ) → IsState ws → Samples (joined ps) → Rooms (wires_of ws) ps
    → in_turn ws ps ≡ turned (words_after ws (joined ps)) (events_from ws (joined ps))
unfolding in_turn after_all events_of
in-turn [] ws s all rooms = same-turned (sym (words-wires-words ws s)) refl
in-turn (p ∷ ps) ws s all rooms =
    let xs : List ℕ = p.samples in
    let parts = samples-parts xs (joined ps) all in
    let after : List ℕ = words_after ws xs in
    let told : List ℕ = events_from ws xs in
    let done = outcome-0 ws xs p.buffer ((stands-exactly ws).1 s) (are-samples xs parts.0) rooms.0 in
    let state : IsState after = in-ranges-state _ (all-in-ranges (wires_of ws) (state-in-ranges ws s) xs parts.0) in
    let rest = in-turn ps after state parts.1 (rw (wires-words-wires (after_all (wires_of ws) xs)) rooms.1) in
    rw (done, take-append_seam told (drop (length told) p.buffer), rest)
    (same-turned (sym (words-joined ws xs (joined ps))) (sym (told-joined ws xs (joined ps))))
