use Rattle.sheet_rows.proofs.SheetFacts.{read_again}
use Rattle.sheet_rows.proofs.laws.every_sheet_is_read.Goals as goal

pub returns : goal.returns
returns c = read_again
