-- What is left of some marks as they are gone over from the last one down.
use Rattle.std.specs.Prelude.{◌≡◌, ℕ, ◌+◌, ◌^◌, ◌%◌, ◌<◌, ◌≤◌, ◌↔◌, Bool, List}
use Rattle.std.specs.Int.{bit_at}
use Rattle.line_instance.specs.Truths.{In}

-- The marks below `below` are left: those from `base` on, which begins a word of 64, are the bits of the number `word`.
pub record IsLeft (s : List Bool) (below base word : ℕ) : Type 0 where
  pub even : base % 64 ≡ 0
  pub most : base ≤ 1024
  pub low : base ≤ below
  pub high : (p : ℕ) → In s p → p < below → p < base + 64
  pub fits : word < 2 ^ 64
  pub bits : (i : ℕ) → i < 64 → bit_at word i ≡ 1 ↔ In s (base + i) × (base + i < below)
