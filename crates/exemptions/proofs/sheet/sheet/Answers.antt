use mathlib.Core.Path.{refl}
use Rattle.wire.specs.Choice.{pick}
use Rattle.wire.specs.Below.{every}
use Rattle.exemptions.specs.Exemption.{known, clause}
use Rattle.exemptions.specs.Sheet.{codes_at, entry_of, sheet_right}
use Rattle.exemptions.proofs.sheet.sheet.Goals as goal

-- the one computed test of the whole table
pub returns : goal.returns
unfolding pick every known clause codes_at entry_of sheet_right
returns c = refl
