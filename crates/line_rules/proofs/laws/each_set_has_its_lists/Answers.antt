use Rattle.line_rules.proofs.LoadTests.{loads_of, loads_listed, open_of, open_listed}
use Rattle.line_rules.proofs.laws.each_set_has_its_lists.Goals as goal

pub returns : goal.returns
returns a = record {
  loads = λ line ok ranked c mode R set. (
    loads_of line ok.small ranked c R set mode,
    loads_listed line ok.small ranked c R set mode,
  );
  left = λ kind line ok ranked c mode R set most. (
    open_of line ok.small ranked c R set kind mode most,
    open_listed line ok.small ranked c R set kind mode most,
  );
}
