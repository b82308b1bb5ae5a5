use Rattle.solution_page.proofs.TextLengths.{bounds_fit, too_long_fits}
use Rattle.solution_page.proofs.laws.certificates_fit.Goals as goal

pub returns : goal.returns
returns c = record { bounds = bounds_fit; too_long = too_long_fits }
