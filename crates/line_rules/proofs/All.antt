-- The set of all tasks.
use Rattle.std.proofs.Common.{◌≡◌, ℕ, ◌<◌, ◌≤◌, Bool, List, length}
use Rattle.line_instance.specs.Truths.{In}
use Rattle.line_instance.proofs.Members.{In-full_to, In-full_to_below}
use Rattle.line_instance.proofs.Counts.{same_members}
use Rattle.line_instance.proofs.Fills.{length-full_to}
use Rattle.line_instance.specs.Line.{Line, IsTaskSet, tasks}
use Rattle.line_rules.specs.Balance.{all_tasks}

pub In-all : (line : Line) (i : ℕ) → tasks line ≤ 1024 → i < tasks line → In (all_tasks line) i
In-all line i h l = In-full_to (tasks line) i h l

pub In-all_lt : (line : Line) (i : ℕ) → In (all_tasks line) i → i < tasks line
In-all_lt line i m = In-full_to_below (tasks line) i m

pub length-all : (line : Line) → length (all_tasks line) ≡ 1024
length-all line = length-full_to (tasks line)

-- a set of tasks that has every task is the set of all
pub all_is : (line : Line) (s : List Bool) → tasks line ≤ 1024 → IsTaskSet line s → ((i : ℕ) → i < tasks line → In s i)
    → s ≡ all_tasks line
all_is line s small set each = same_members s (all_tasks line) set.truths (length-all line)
    (λ i. (λ m. In-all line i small (set.tasks i m), λ m. each i (In-all_lt line i m)))
