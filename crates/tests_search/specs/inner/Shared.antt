-- A part in a book that another caller works on too, as a desk: the searches of tests run at it.
use Rattle.std.specs.Prelude.{ℕ, ◌-◌, false, List, [], ◌++◌, length}
use Rattle.std.specs.List.{range_with_len}
use Rattle.lemma_core.specs.Books.{BookView, desk_of}
use Rattle.lemma_core.specs.Desks.{DeskView}

-- the places of n events, without those from `from` up to below `to`
abbrev pub own_of : ℕ → ℕ → ℕ → List ℕ
own_of from to n = range_with_len 0 from ++ range_with_len to (n - to)

-- the book as a desk that isn't alone: the events from place `from` up to below `to` are another's, and the others its
-- own
abbrev pub part_of : BookView → ℕ → ℕ → DeskView
part_of b from to = record {
  about = b.about;
  opening = b.opening;
  seen = b.events;
  own = own_of from to (length b.events);
  alone = false;
  roomy = (desk_of b).roomy;
  kept = [];
}
