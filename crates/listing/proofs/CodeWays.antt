-- Ways through the code, over plain variables: what is printed part by part is the whole line; and which of the texts is printed.
use mathlib.Core.Path.{◌≡◌, refl, sym, ap, ◌∙◌}
use mathlib.Core.List.{List, [], ◌∷◌, ◌++◌, append_assoc, append-nil}
use Prim.Native.Nat.{ℕ, zero, suc, ◌+◌, ◌<◌}
use native.Mathlib.Omega.{arith}
use borrow.Author.Tests.{le-leb}
use lib.ListN.{length}
use Rattle.std.specs.Prelude.{Result, Ok, Err}
use Rattle.std.specs.Result.{IsErrAnd}
use Rattle.refusals.specs.declared.Refusal.{Refusal}
use Rattle.refusals.specs.Numbers.{number, numbered}
use Rattle.refusals.proofs.Positive.{positive}
use Rattle.registers.specs.declared.Chip.{Chip}
use Rattle.print.specs.Printed.{Text, Refused, parts_from, Output, output, whole_text}
use Rattle.print.specs.declared.Unprinted.{Unprinted}
use Rattle.print.specs.declared.Unprinted.TheVariants as unprinted
use Rattle.print.specs.declared.Printout.{Printout}
use Rattle.print.specs.Prints.{Prints, written_of}
use Rattle.print.proofs.Writing.{prints_then, prints-same, parts-split}
use Rattle.capture.specs.declared.End.{End}
use Rattle.capture.specs.declared.End.TheVariants as ends
use Rattle.capture.specs.Feeding.{meaning}
use Rattle.listing.specs.Listing.{listing_call}
use Rattle.listing.specs.ReplayText.{refused_text, refused_call, text_of_replay, text_unless}

-- ---- one line

pub cell-fields :
    (a b c d : List ℕ)
    → (a ++ (9 ∷ [])) ++ ((b ++ (9 ∷ [])) ++ ((c ++ (9 ∷ [])) ++ (d ++ (10 ∷ [])))) ≡ (a ++ 9 ∷ (b ++ 9 ∷ (c ++ 9 ∷ d))) ++ (10 ∷ [])
cell-fields a b c d = simp append_assoc

-- a word with its tab, what tells the file, and the number
pub refused-fields : (word file number : List ℕ) → word ++ (file ++ (number ++ (10 ∷ []))) ≡ word ++ ((file ++ number) ++ (10 ∷ []))
refused-fields word file number = ap (λ (l : List ℕ). word ++ l) (sym (append_assoc file number (10 ∷ [])))

-- ---- lines behind a header: lines 0 to k - 1, and then line k

pub part-after :
    (front : List ℕ) (f : ℕ → List ℕ) (k : ℕ) {p q r : Printout} → Prints p (front ++ parts_from f 0 k) q → Prints q (f k) r
    → Prints p (front ++ parts_from f 0 (k + 1)) r
part-after front f k a b =
    let last : parts_from f 0 (k + 1) ≡ parts_from f 0 k ++ (f k ++ []) = parts-split f k 0 0 k (k + 1) (omega arith) (omega arith) in
    prints-same
    (append_assoc front (parts_from f 0 k) (f k)
    ∙ ap (λ (l : List ℕ). front ++ (parts_from f 0 k ++ l)) (sym (append-nil (f k)))
    ∙ ap (λ (l : List ℕ). front ++ l) (sym last))
    (prints_then a b)

-- ---- which text

-- the memories say nothing of a refusal
pub refused-by-memories : (file : List ℕ) (e : Result End ℕ) (m w out : List ℕ) → refused_call file e out ≡ refused_text file (meaning e m w) out
unfolding refused_call meaning
refused-by-memories file (Err k) m w out = refl
refused-by-memories file (Ok ends.BadFirst) m w out = refl
refused-by-memories file (Ok (ends.Bad c n)) m w out = refl
refused-by-memories file (Ok (ends.Whole c n)) m w out = refl

-- an end that the code knows by its variant
pub ended : {e : Result End Refusal} {x known : End} → e ≡ Ok x → x ≡ known → numbered e ≡ Ok known
ended w is = ap numbered w ∙ ap (λ (x : End). Ok x) is

pub refused-known :
    (known : Result End ℕ) (e : Result End Refusal) (file out : List ℕ) (o : Output) → numbered e ≡ known → o ≡ refused_text file (meaning known [] []) out
    → o ≡ refused_call file (numbered e) out
unfolding refused_call
refused-known known e file out o is h = rw is h

-- a capture that was refused by a number
pub refused-by-number :
    (o : Result ℕ Unprinted) (e : Result End Refusal) (r : Refusal) (file out : List ℕ) → IsErrAnd o (λ (u : Unprinted). u ≡ unprinted.Refused r) → e ≡ Err r
    → output (written_of o) out ≡ refused_call file (numbered e) out
unfolding refused_call meaning
refused-by-number (Ok n) e r file out h is = absurd h
refused-by-number (Err u) e r file out h is = rw (h, is)

-- a text of no bytes always has room, and nothing is stored
pub whole-empty : (out : List ℕ) → output (Text 0) out ≡ whole_text 0 [] out
unfolding whole_text
whole-empty out = rw (le-leb 0 (length out) (omega arith))

-- an end that is no whole capture's
abbrev pub NotWhole : Result End ℕ → Type 0
NotWhole e = (c : Chip) (n : ℕ) → e ≡ Ok (ends.Whole c n) → ⊥

pub not-whole : {e : Result End Refusal} {x : End} → e ≡ Ok x → ((c : Chip) (n : ℕ) → x ≡ ends.Whole c n → ⊥) → NotWhole (numbered e)
not-whole {e} {x} w t c n q =
    let same : ◌≡◌ {A = Result End ℕ} (Ok x) (Ok (ends.Whole c n)) = sym (ap numbered w) ∙ q in
    t c n (cc same)

pub err-not-whole : {e : Result End Refusal} {r : Refusal} → e ≡ Err r → NotWhole (numbered e)
err-not-whole {e} {r} w c n q =
    let same : ◌≡◌ {A = Result End ℕ} (Err (number r)) (Ok (ends.Whole c n)) = sym (ap numbered w) ∙ q in
    let z : ◌≡◌ {A = ℕ} 0 1 = cc same in
    absurd (omega arith)

pub refused_end :
    (e : Result End ℕ) (m w out : List ℕ) → NotWhole e → refused_call [] e out ≡ text_of_replay (meaning e m w) out
unfolding refused_call meaning
refused_end (Err k) m w out t = refl
refused_end (Ok ends.BadFirst) m w out t = refl
refused_end (Ok (ends.Bad c n)) m w out t = refl
refused_end (Ok (ends.Whole c n)) m w out t = absurd (t c n refl)

-- where something refuses the text first, k is its number
unless-number : (n : ℕ) (out : List ℕ) (text : Output) → 0 < n → output (Refused n) out ≡ text_unless n out text
unless-number zero out text h = absurd (omega arith)
unless-number (suc n) out text h = refl

pub unless-refused :
    (o : Result ℕ Unprinted) (r : Refusal) {k : ℕ} (out : List ℕ) (text : Output) → IsErrAnd o (λ (e : Unprinted). e ≡ unprinted.Refused r) → number r ≡ k
    → output (written_of o) out ≡ text_unless k out text
unless-refused (Ok n) r out text h e = absurd h
unless-refused (Err u) r {k} out text h e = rw (h, ← e) (unless-number (number r) out text (positive r))

pub unless-passed : {k : ℕ} (out : List ℕ) {o text : Output} → 0 ≡ k → o ≡ text → o ≡ text_unless k out text
unless-passed out e w = rw (← e) w

-- what is printed of a replay
pub text-whole :
    (c : Chip) (n : ℕ) (e : Result End ℕ) (m w out : List ℕ) → e ≡ Ok (ends.Whole c n) → listing_call m w out ≡ text_of_replay (meaning e m w) out
unfolding meaning
text-whole c n e m w out is = rw is
