use mathlib.Core.Path.{◌∙◌}
use Rattle.capture_lines.proofs.scan.Goals as goal

pub returns : goal.returns
returns c = c.scan_bytes.ensures ∙ c.digits-begun.ensures
