-- The line of a seed (own): times and arcs that are drawn from the words of a generator, task by task. Tasks are
-- counted from 0 here. The generator is PCG's XSH RR 64/32 (O'Neill), as the crate rand_pcg states it.
use Rattle.std.specs.Prelude.{⊤, ℕ, zero, suc, ◌+◌, ◌/◌, ◌%◌, cond, nat_eq, List, [], ◌∷◌, ◌++◌}
use Rattle.rand_core.specs.Pcg32Seed.{pcg32_seed}
use Rattle.rand_pcg.specs.Lcg.{Lcg}
use Rattle.rand_pcg.specs.Pcg.{pcg32, pcg32_of_seed}
use Rattle.line_instance.specs.Line.{Line}
use Rattle.line_instance.specs.Made.{IsInstanceOf}
use Rattle.line_instance.specs.declared.arcs.Prec.{Prec}
use Rattle.line_generator.specs.declared.drawing.Generated.{Generated}
use Rattle.line_generator.specs.declared.drawing.Generated.TheVariants.{Good, NoMemory}

-- the next word of a generator, and the generator behind it
abbrev pub word : Lcg → ℕ
word g = (pcg32 g).0

abbrev pub next : Lcg → Lcg
next g = (pcg32 g).1

-- The generator in front of task t. The first task takes one word, and each other task two: for its time, and for its
-- arc.
unfoldable pub in_front : ℕ → ℕ → Lcg
in_front seed zero = pcg32_of_seed (pcg32_seed 16 seed)
in_front seed (suc zero) = next (in_front seed zero)
in_front seed (suc (suc t)) = next (next (in_front seed (suc t)))

-- a word is a time of 1 to 100
abbrev pub time_from : ℕ → ℕ
time_from w = 1 + w % 100

-- an even word is an arc to task t from an earlier task
abbrev pub arc_from : ℕ → ℕ → List Prec
arc_from v t = cond (nat_eq (v % 2) 0) (record { first = v / 2 % t; «then» = t } ∷ []) []

-- the time of task t is drawn from its first word, and the arc to it from its second one
abbrev pub time_of : ℕ → ℕ → ℕ
time_of seed t = time_from (word (in_front seed t))

abbrev pub arc_of : ℕ → ℕ → List Prec
arc_of seed t = arc_from (word (next (in_front seed t))) t

-- the times of the first n tasks
unfoldable pub times_of : ℕ → ℕ → List ℕ
times_of seed zero = []
times_of seed (suc t) = times_of seed t ++ time_of seed t ∷ []

-- the arcs of the first n tasks; there is none to the first one
unfoldable pub arcs_of : ℕ → ℕ → List Prec
arcs_of seed zero = []
arcs_of seed (suc zero) = []
arcs_of seed (suc (suc t)) = arcs_of seed (suc t) ++ arc_of seed (suc t)

-- the line of a seed and a number of tasks
abbrev pub IsGenerated : ℕ → ℕ → Line → Type 0
IsGenerated seed n line = IsInstanceOf (times_of seed n) (arcs_of seed n) line

-- the fact holds of the line, where there is one
abbrev pub IfGood : Generated → (Line → Type 0) → Type 0
IfGood (Good line) P = P line
IfGood NoMemory P = ⊤
