-- Whether demand 3 holds of a list's lines, its events and a state: one test that antt computes.
use mathlib.Core.Bool.{Bool, true, false, not, ◌&&◌, ◌||◌}
use mathlib.Core.List.{List, [], ◌∷◌}
use mathlib.Core.Path.{◌≡◌, refl, sym, subst}
use Prim.Native.Nat.{ℕ, suc, ◌<◌, zero-le, suc-le-suc}
use lib.Dec.{T, T_not, eqb, ltb, eqb→eq, eqb_refl, ltb→lt, lt→ltb}
use lib.ListN.{get_or, length}
use Rattle.registers.proofs.Below.{and_left, and_right}
use Rattle.text.proofs.Finding.{same-equal}
use Rattle.chip.proofs.Plays.{plays-good, plays-run, played-true}
use Rattle.chip.proofs.Tallies.{plays-tally}
use Rattle.cases_proved.specs.Cited.{Line, State, values, of_values, Picture, picture_of, plain_reading, Demand3}
use Rattle.cases_proved.specs.Cited.{Fit, TrueCounts, is_acknowledged, refusal_of, step_of}
use Rattle.cases_proved.specs.Cited.{before, played, Good, Plays, same_bytes, awaits_command}
use Rattle.cases_proved.specs.Cited.{Answer, Refused, Nothing, Acknowledged, NotAcknowledged, Command, Read, Taken, Unknown, OutOfRange}

-- ---- the test

abbrev is_taken : Answer → Bool
is_taken (Refused k) = false
is_taken Nothing = false
is_taken Acknowledged = false
is_taken NotAcknowledged = false
is_taken (Command Taken) = true
is_taken (Command Unknown) = false
is_taken (Command OutOfRange) = false
is_taken (Read b) = false

-- of a byte: acknowledged, and taken where it is a command
abbrev is_answered : State → Answer → Bool
is_answered s a = is_acknowledged a && (not (awaits_command s.chip.phase) || is_taken a)

abbrev is_good : ℕ → State → Bool
is_good e s = eqb (refusal_of e s) 0 && (not (ltb e 256) || is_answered s (step_of e s).answer)

abbrev all_good : List ℕ → State → Bool
all_good [] s = true
all_good (e ∷ es) s = is_good e s && all_good es (step_of e s).state

abbrev same_picture : Picture → Picture → Bool
same_picture p q = same_bytes p.cells q.cells && same_bytes (values p.registers) (values q.registers)

abbrev pub meets : List Line → List ℕ → State → Bool
meets ls es s = all_good es s && same_picture (picture_of (played es s)) (plain_reading ls (picture_of s))

-- ---- where demand 3 holds, the test is passed

and_both : (a b : Bool) → T a → T b → T (a && b)
and_both true b t u = u
and_both false b t u = t

same_self : (xs : List ℕ) → T (same_bytes xs xs)
same_self [] = tt
same_self (x ∷ xs) = and_both (eqb x x) (same_bytes xs xs) (eqb_refl x) (same_self xs)

pub not_same : (xs ys : List ℕ) → T (not (same_bytes xs ys)) → xs ≡ ys → ⊥
not_same xs ys t e = T_not (same_bytes xs ys) t (subst (λ (zs : List ℕ). T (same_bytes xs zs)) e (same_self xs))

pub is_true : (b : Bool) → T b → b ≡ true
is_true true t = refl
is_true false t = absurd t

good-holds : (e : ℕ) (s : State) → Good e s → T (is_good e s)
good-holds e s g =
    and_both (eqb (refusal_of e s) 0) _ (subst (λ (n : ℕ). T (eqb n 0)) (sym g.not_refused) tt)
    (either (ltb e 256) _ (λ t. and_both (is_acknowledged (step_of e s).answer) _ (subst T (sym (g.acknowledged (ltb→lt e 256 t))) tt)
    (either (awaits_command s.chip.phase) _ (λ c. subst (λ (a : Answer). T (is_taken a)) (sym (g.taken (ltb→lt e 256 t) (is_true _ c))) tt))))
  where
    either : (a b : Bool) → (T a → T b) → T (not a || b)
    either true b f = f tt
    either false b f = tt

all-good-holds : (es : List ℕ) (s : State) → ((i : ℕ) → i < length es → Good (get_or es i 0) (before es i s)) → T (all_good es s)
all-good-holds [] s f = tt
all-good-holds (e ∷ es) s f =
    and_both (is_good e s) (all_good es (step_of e s).state) (good-holds e s (f 0 (suc-le-suc zero-le)))
    (all-good-holds es (step_of e s).state (λ i h. f (suc i) (suc-le-suc h)))

pub meets-holds : (ls : List Line) (es : List ℕ) (s : State) → Demand3 ls es s → T (meets ls es s)
meets-holds ls es s d =
    let end = picture_of (played es s) in
    and_both (all_good es s) _ (all-good-holds es s d.all-good)
    (subst (λ (p : Picture). T (same_picture end p)) d.same-picture
    (and_both (same_bytes end.cells end.cells) _ (same_self end.cells) (same_self (values end.registers))))

-- ---- and where the test is passed, demand 3 holds

taken_is : (a : Answer) → T (is_taken a) → a ≡ Command Taken
taken_is (Refused k) t = absurd t
taken_is Nothing t = absurd t
taken_is Acknowledged t = absurd t
taken_is NotAcknowledged t = absurd t
taken_is (Command Taken) t = refl
taken_is (Command Unknown) t = absurd t
taken_is (Command OutOfRange) t = absurd t
taken_is (Read b) t = absurd t

good-is : (e : ℕ) (s : State) → T (is_good e s) → Good e s
good-is e s t =
    record {
      not_refused = eqb→eq (refusal_of e s) 0 (and_left (eqb (refusal_of e s) 0) _ t);
      acknowledged = λ h. is_true _ (and_left (is_acknowledged (step_of e s).answer) _ (answered h));
      taken = λ h c. taken_is _ (said (awaits_command s.chip.phase) _ (subst T (sym c) tt) (and_right (is_acknowledged (step_of e s).answer) _ (answered h)));
    }
  where
    said : (a b : Bool) → T a → T (not a || b) → T b
    said true b t u = u
    said false b t u = absurd t

    answered : e < 256 → T (is_answered s (step_of e s).answer)
    answered h = said (ltb e 256) _ (lt→ltb e 256 h) (and_right (eqb (refusal_of e s) 0) _ t)

plays-is : (es : List ℕ) (s : State) → T (all_good es s) → Plays es (λ (t : State). Unit {0}) s
unfolding Plays
plays-is [] s t = tt
plays-is (e ∷ es) s t =
    (good-is e s (and_left (is_good e s) _ t), plays-is es (step_of e s).state (and_right (is_good e s) _ t))

picture-is : (p q : Picture) → T (same_picture p q) → p ≡ q
picture-is p q t =
    let cells = same-equal p.cells q.cells (is_true _ (and_left (same_bytes p.cells q.cells) _ t)) in
    let fields = same-equal (values p.registers) (values q.registers) (is_true _ (and_right (same_bytes p.cells q.cells) _ t)) in
    λ i. record { cells = cells i; registers = of_values (fields i) }

pub meets-is : (ls : List Line) (es : List ℕ) (s : State) → Fit s → TrueCounts s → T (meets ls es s) → Demand3 ls es s
meets-is ls es s fit counted t =
    let plays = plays-is es s (and_left (all_good es s) _ t) in
    record {
      all-good = plays-good es _ s plays;
      same-picture = picture-is _ _ (and_right (all_good es s) _ t);
      same_run = plays-run es _ s fit plays;
      none_unknown = plays-tally Unknown refl es _ s plays;
      none_out_of_range = plays-tally OutOfRange refl es _ s plays;
      true_counts = played-true es s counted;
    }
