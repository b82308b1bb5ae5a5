use Rattle.in2_reader.proofs.Reread.{written_says, read_back}
use Rattle.in2_reader.proofs.laws.every_written_text_is_read.Goals as goal

pub returns : goal.returns
returns c = record { says = written_says; again = read_back }
