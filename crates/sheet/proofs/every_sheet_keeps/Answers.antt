use Rattle.sheet.proofs.Keeps.{every_sheet_keeps_lem}
use Rattle.sheet.proofs.every_sheet_keeps.Goals as goal

pub returns : goal.returns
returns c = every_sheet_keeps_lem
