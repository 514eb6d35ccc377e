use Rattle.compiler.proofs.Settings.{page-at}
use Rattle.compiler.proofs.setting.page_of.Goals as goal

pub returns : goal.returns
returns c = page-at _ c.args.row c.page.ensures
