-- What an output holds that remembers its first failure, and what putting a text does to it.
use Rattle.std.specs.Prelude.{◌≡◌, ℕ, ◌≤◌, Bool, true, false, List, ◌++◌, take}
use Rattle.line_io.specs.Outside.{Rises}

-- whether no put has failed, what was put where none has, what is kept of it, how often the outside has failed, and
-- what no put changes
pub record Sent (B : Type 0) : Type 0 where
  pub good : Bool
  pub shown : List ℕ
  pub kept : List ℕ
  pub faults : ℕ
  pub base : B

-- a prefix of a text
abbrev pub IsFront : List ℕ → List ℕ → Type 0
IsFront front text = (k : ℕ) × (front ≡ take k text)

-- a text was put: behind what was put before, where no put has failed
pub record Adds {B : Type 0} (a : Sent B) (text : List ℕ) (b : Sent B) : Type 0 where
  pub before : b.good ≡ true → a.good ≡ true
  pub all : b.good ≡ true → b.shown ≡ a.shown ++ text
  pub front : a.good ≡ true → b.good ≡ false → IsFront b.kept (a.shown ++ text)
  pub stays : a.good ≡ false → b.kept ≡ a.kept

-- a text was put, which is told of an output that tells what it holds; and a put fails only where the outside's
-- failures rose
pub record Puts {B : Type 0} (told : Type 0) (a : Sent B) (text : List ℕ) (b : Sent B) : Type 0 where
  pub base : b.base ≡ a.base
  pub count : a.faults ≤ b.faults
  pub fault : a.good ≡ true → b.good ≡ false → Rises a.faults b.faults
  pub adds : told → Adds a text b
