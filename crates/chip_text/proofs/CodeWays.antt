-- Ways through the code, over plain variables: what is printed part by part is the whole line; and which of the texts is printed.
use mathlib.Core.List.{List, [], ◌∷◌, ◌++◌, append_assoc}
use mathlib.Core.Path.{◌≡◌, refl, ap, ◌∙◌}
use Prim.Native.Nat.{ℕ}
use lib.ListN.{get_or}
use Rattle.std.specs.Prelude.{Result, Ok, Err}
use Rattle.registers.specs.declared.Chip.{Chip}
use Rattle.registers.specs.Record.{names}
use Rattle.registers.specs.Refusals.{record_refusal}
use Rattle.registers.proofs.NamePieces.{name-there}
use Rattle.text.specs.Text.{split, join}
use Rattle.print.specs.Printed.{whole_text}
use Rattle.capture.specs.declared.End.{End}
use Rattle.capture.specs.declared.End.TheVariants as ends
use Rattle.capture_trace.specs.declared.tally.Tally.{Tally}
use Rattle.listing.specs.ReplayText.{refused_call}
use Rattle.listing.proofs.CodeWays.{NotWhole}
use Rattle.chip_text.specs.ChipText.{chip_text, chip_text_call}

-- ---- one line

pub line-fields : (a b : List ℕ) → (a ++ (9 ∷ [])) ++ (b ++ (10 ∷ [])) ≡ (a ++ 9 ∷ b) ++ (10 ∷ [])
line-fields a b = simp append_assoc

-- the name is a piece of the text of all names
pub name-found : (all name : List ℕ) (place : ℕ) → all ≡ join 32 names → name ≡ get_or (split 32 all) place [] → name ≡ get_or names place []
name-found all name place is_all is_name = is_name ∙ ap (λ (s : List ℕ). get_or (split 32 s) place []) is_all ∙ name-there place

-- ---- what is printed of a capture, by the variant of its end

pub refused_end : (e : Result End ℕ) (t : Tally) (out : List ℕ) → NotWhole e → refused_call [] e out ≡ chip_text_call e t out
unfolding chip_text_call
refused_end (Err k) t out q = refl
refused_end (Ok ends.BadFirst) t out q = refl
refused_end (Ok (ends.Bad c n)) t out q = refl
refused_end (Ok (ends.Whole c n)) t out q = absurd (q c n refl)

pub whole-end :
    (c : Chip) (n : ℕ) (e : Result End ℕ) (t : Tally) (out : List ℕ) → e ≡ Ok (ends.Whole c n)
    → whole_text (record_refusal c) (chip_text c n t) out ≡ chip_text_call e t out
unfolding chip_text_call
whole-end c n e t out is = rw is
