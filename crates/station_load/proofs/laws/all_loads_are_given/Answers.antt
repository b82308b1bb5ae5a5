use Rattle.std.proofs.Common.{refl}
use Rattle.station_load.proofs.AllLoadsGiven.{given_lists}
use Rattle.station_load.proofs.laws.all_loads_are_given.Goals as goal

pub returns : goal.returns
returns c = record {
  listed = λ line c mode R ls ok ranked g. given_lists line ranked c mode R ls g;
  counted = λ line c mode R ls ok ranked g. record {
    loads = ls;
    listed = given_lists line ranked c mode R ls g;
    long = refl;
  };
}
