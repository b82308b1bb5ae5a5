-- What is said of a question that pairs refute.
use Rattle.std.specs.Prelude.{Bool, List}
use Rattle.pair_search.specs.declared.table.Paired.{Paired}
use Rattle.pair_search.specs.declared.table.Paired.TheVariants.{Refuted, Open}

-- P of the hull and of two, where the answer is Refuted
abbrev pub IfRefuted : Paired → (List Bool → List Bool → Type 0) → Type 0
IfRefuted (Refuted hull two) P = P hull two
IfRefuted Open P = Unit {0}
