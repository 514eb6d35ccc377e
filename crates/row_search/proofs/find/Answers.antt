use borrow.Author.Rules.{rules}
use Rattle.row_search.specs.declared.Page.TheVariants.{Function, Display, Generator, Grey, Special}
use Rattle.row_search.proofs.CodeWays.{found-in-page}
use Rattle.row_search.proofs.find.Goals as goal

pub returns-in-Function : goal.returns-in-Function
returns-in-Function c = found-in-page _ Function c.in-Function.is _ _ (search rules) c.look.ensures

pub returns-in-Display : goal.returns-in-Display
returns-in-Display c = found-in-page _ Display c.in-Display.is _ _ (search rules) c.look-in-Display.ensures

pub returns-in-Generator : goal.returns-in-Generator
returns-in-Generator c = found-in-page _ Generator c.in-Generator.is _ _ (search rules) c.look-in-Generator.ensures

pub returns-in-Grey : goal.returns-in-Grey
returns-in-Grey c = found-in-page _ Grey c.in-Grey.is _ _ (search rules) c.look-in-Grey.ensures

pub returns-in-Special : goal.returns-in-Special
returns-in-Special c = found-in-page _ Special c.in-Special.is _ _ (search rules) c.look-in-Special.ensures
