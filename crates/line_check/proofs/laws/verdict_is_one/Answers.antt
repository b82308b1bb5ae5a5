use Rattle.line_check.proofs.OneEntry.{list_one, found_one, checked_one}
use Rattle.line_check.proofs.OneVerdict.{certificate_one, listed_one}
use Rattle.line_check.proofs.laws.verdict_is_one.Goals as goal

pub returns : goal.returns
returns c = record {
  certificate = certificate_one;
  list = λ kind line ranked es trail steps. listed_one kind line ranked es steps trail;
  entries = list_one;
  found = λ kind line ranked earlier e steps. found_one kind line ranked earlier e steps;
  entry = λ kind line ranked earlier e steps. checked_one kind line ranked earlier e steps;
}
