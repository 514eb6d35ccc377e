-- What the lines that are accepted keep to.
use mathlib.Core.List.{List, [], ◌∷◌}
use Rattle.lists.specs.declared.Line.{Line}
use Rattle.lists.specs.declared.Line.TheVariants.{Fill, Set}
use Rattle.lists.specs.Syntax.{ValidFill, Valid, AllValid}
use Rattle.drawing.proofs.SetPlays.{SetFits}

-- what a line that is accepted keeps to
abbrev pub LineFits : Line → Type 0
LineFits (Fill c0 c1 b0 b1 n) = ValidFill c0 c1 b0 b1 n
LineFits (Set f n) = SetFits f n

abbrev pub AllFit : List Line → Type 0
AllFit [] = Unit
AllFit (l ∷ ls) = LineFits l × AllFit ls

-- what the grammar lets pass keeps to the limits
pub line-fits : (l : Line) → Valid l → LineFits l
unfolding Valid
line-fits (Fill c0 c1 b0 b1 n) s = s
line-fits (Set f n) s =
    let field = s.field in
    record { place = field.place; not-page = field.not_h; not_x = field.not_x; not_y = field.not_y; value = s.value }

pub all_fit : (ls : List Line) → AllValid ls → AllFit ls
unfolding AllValid
all_fit [] s = tt
all_fit (l ∷ ls) s = (line-fits l s.0, all_fit ls s.1)
