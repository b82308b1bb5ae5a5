use Rattle.alb_reader.proofs.ReadBack.{read_back}
use Rattle.alb_reader.proofs.laws.every_written_text_is_read.Goals as goal

pub returns : goal.returns
returns c = read_back
