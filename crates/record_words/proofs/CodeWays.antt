-- Ways through the code of this crate, over plain variables.
use mir.Val.{bool_byte}
use mathlib.Core.Path.{◌≡◌, refl, ap, ◌∙◌, subst}
use mathlib.Core.Bool.{Bool, true, false, ◌&&◌}
use mathlib.Core.List.{List, [], ◌∷◌, ◌++◌, append_assoc, append-nil}
use Prim.Native.Nat.{ℕ, suc, ◌+◌, ◌<◌}
use native.Mathlib.Nat.{le_of_lt}
use native.Mathlib.Numerals.{add-one}
use native.Mathlib.Omega.{arith}
use lib.Dec.{leb}
use lib.ListN.{length, get_or, set, take, drop, length-drop}
use lib.Seq.{drop-cons, take-suc, set_at, length-take-le}
use Rattle.registers.specs.declared.Chip.{Chip}
use Rattle.registers.specs.declared.Registers.{Registers}
use Rattle.registers.specs.declared.PixelCounts.{PixelCounts}
use Rattle.registers.specs.declared.Phase.{Phase}
use Rattle.registers.specs.Record.{phase_rs, within, values, of_values}
use Rattle.std.specs.List.{list_all, zip}
use Rattle.record_words.specs.Words.{record_length, pixels_of, chip_of, words_of}
use Rattle.record_words.specs.Words.{phase_of, phase_number, bit, is_set}
use Rattle.record_words.proofs.Stands.{in_words, spelled}

-- ---- the test of the words

-- words and limits in pairs
pub all-within :
    (t : Bool) (ws ls : List ℕ) → length ws ≡ length ls → t && list_all (λ (p : ℕ × ℕ). leb p.0 p.1) (zip ws ls) ≡ within t ws ls
all-within true [] [] e = refl
all-within false [] [] e = refl
all-within t [] (l ∷ ls) e = absurd (omega (arith, e))
all-within t (w ∷ ws) [] e = absurd (omega (arith, e))
all-within t (w ∷ ws) (l ∷ ls) e =
    and_assoc t (leb w l) (list_all (λ (p : ℕ × ℕ). leb p.0 p.1) (zip ws ls)) ∙ all-within (t && leb w l) ws ls (omega (arith, e))
  where
    and_assoc : (a b c : Bool) → a && (b && c) ≡ (a && b) && c
    and_assoc true b c = refl
    and_assoc false b c = refl

-- ---- the bytes of the registers

-- the first i elements of a, then what b has behind them
abbrev pub copied : List ℕ → List ℕ → ℕ → List ℕ
copied a b i = take i a ++ drop i b

copy_more : (a b : List ℕ) (i : ℕ) → i < length a → i < length b → set (copied a b i) i (get_or a i 0) ≡ copied a b (i + 1)
copy_more a b i ha hb =
    rw (add-one, drop-cons b i 0, take-suc a i 0, append_assoc)
    (set_at (take i a) (get_or b i 0) (drop (suc i) b) (get_or a i 0) i (length-take-le i a (le_of_lt ha)))

-- a turn stores v, which is a's element, into the list l
pub copy-turn :
    (a b l : List ℕ) (i v : ℕ) → l ≡ copied a b i → v ≡ get_or a i 0 → i < length a → i < length b → set l i v ≡ copied a b (i + 1)
copy-turn a b l i v el ev ha hb = rw (el, ev) (copy_more a b i ha hb)

pub bytes_read : (ws b z : List ℕ) (i : ℕ) → i ≡ 29 → drop 29 z ≡ [] → b ≡ copied ws z i → b ≡ take 29 ws
bytes_read ws b z i ei ez eb = eb ∙ rw (ei, ez, append-nil)

-- ---- the record that was read

first-registers : (ws : List ℕ) → length ws ≡ record_length → of_values (take 29 ws) ≡ of_values ws
first-registers = in_words (λ (l : List ℕ). of_values (take 29 l) ≡ of_values l) (λ f. refl)

pub chip-read :
    (ws b : List ℕ) (r : Registers) (p : Phase) (n : PixelCounts)
    → length ws ≡ record_length → b ≡ take 29 ws → r ≡ of_values b → p ≡ phase_of (get_or ws 32 0) (is_set (get_or ws 33 0)) → n ≡ pixels_of ws
    → record {
      registers = r;
      pins = get_or ws 29 0;
      status = get_or ws 30 0;
      last_rs = is_set (get_or ws 31 0);
      phase = p;
      pixels = n;
    }
    ≡ chip_of ws
unfolding chip_of
chip-read ws b r p n k eb er ep en = rw (er ∙ ap of_values eb ∙ first-registers ws k, ep, en)

-- ---- the words that were written

pub registers-written : (r : Registers) (b ws l : List ℕ) (i : ℕ) → i ≡ 29 → b ≡ values r → l ≡ copied b ws i → l ≡ values r ++ drop 29 ws
registers-written r b ws l i ei eb el = el ∙ rw (ei, eb)

pub bit_byte : (t : Bool) → bool_byte t ≡ bit t
bit_byte true = refl
bit_byte false = refl

-- nine stores into the words behind the registers
abbrev nine : List ℕ → ℕ → ℕ → ℕ → ℕ → ℕ → ℕ → ℕ → ℕ → ℕ → List ℕ
nine l a b c d e f g h i = set (set (set (set (set (set (set (set (set l 0 a) 1 b) 2 c) 3 d) 4 e) 5 f) 6 g) 7 h) 8 i

nine-stored : (l : List ℕ) → length l ≡ 9 → (a b c d e f g h i : ℕ) → nine l a b c d e f g h i ≡ a ∷ b ∷ c ∷ d ∷ e ∷ f ∷ g ∷ h ∷ i ∷ []
nine-stored l n a b c d e f g h i = subst (λ (m : List ℕ). nine m a b c d e f g h i ≡ a ∷ b ∷ c ∷ d ∷ e ∷ f ∷ g ∷ h ∷ i ∷ []) (spelled 9 l n) refl

-- the registers' words stand, then the nine behind them are stored
pub written :
    (c : Chip) (ws l : List ℕ) (pins status last phase rs n0 n1 n2 n3 : ℕ)
    → length ws ≡ record_length → l ≡ values c.registers ++ drop 29 ws
    → pins ≡ c.pins → status ≡ c.status → last ≡ bit c.last_rs → phase ≡ phase_number c.phase → rs ≡ bit (phase_rs c.phase)
    → n0 ≡ c.pixels.zeros → n1 ≡ c.pixels.ones → n2 ≡ c.pixels.twos → n3 ≡ c.pixels.threes
    → set (set (set (set (set (set (set (set (set l 29 pins) 30 status) 31 last) 32 phase) 33 rs) 34 n0) 35 n1) 36 n2) 37 n3 ≡ words_of c
unfolding words_of
written c ws l pins status last phase rs n0 n1 n2 n3 n el ep es ea eh er e0 e1 e2 e3 =
    rw (el, ep, es, ea, eh, er, e0, e1, e2, e3)
    (ap (λ (k : List ℕ). values c.registers ++ k)
    (nine-stored (drop 29 ws) (rw (length-drop, n)) c.pins c.status (bit c.last_rs) (phase_number c.phase) (bit (phase_rs c.phase))
    c.pixels.zeros c.pixels.ones c.pixels.twos c.pixels.threes))
