use Rattle.table_text.proofs.Again.{marked}
use Rattle.table_text.proofs.ReadBack.{read_back}
use Rattle.table_text.proofs.laws.every_written_table_is_read.Goals as goal

pub returns : goal.returns
returns c = record { mark = marked; again = read_back }
