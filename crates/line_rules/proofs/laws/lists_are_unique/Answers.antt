use Rattle.line_rules.specs.Loads.{IsLoad}
use Rattle.line_rules.specs.Order.{UpTo}
use Rattle.line_rules.specs.Entries.{IsOpen}
use Rattle.line_rules.proofs.Unique.{unique}
use Rattle.line_rules.proofs.laws.lists_are_unique.Goals as goal

pub returns : goal.returns
returns c = record {
  loads = λ line c mode R xs ys p q. unique line xs ys (IsLoad line c mode R) p q;
  some = λ line c mode R last xs ys p q. unique line xs ys (λ l. IsLoad line c mode R l × UpTo line last l) p q;
  left = λ kind line c mode R most xs ys p q. unique line xs ys (IsOpen kind line c mode R most) p q;
}
