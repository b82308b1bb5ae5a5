-- The seven tasks of the worked rows: a swap.
use Rattle.std.proofs.Common.{◌≡◌, ◌≤◌, Bool, true, false, List, [], ◌∷◌, length, refl, ap, ◌∙◌, arith}
use Rattle.std.specs.Prelude.{slice_set}
use Rattle.line_instance.specs.Truths.{In, full_to}
use Rattle.line_instance.specs.Line.{IsRanked, IsTaskSet, tasks, has}
use Rattle.line_rules.specs.Balance.{all_tasks}
use Rattle.line_rules.specs.Bounds.{bound, lm1, lm2, lm3, sixths, head, tail, chained}
use Rattle.line_rules.specs.Loads.{rest}
use Rattle.line_rules.specs.Entries.{Follows, IsDerived}
use Rattle.line_rules.specs.Units.{UnitsOf}
use Rattle.worked_lines.specs.Rows.{seven_free, set_of, load_of, SwapOfTheRows}
use Rattle.line_rules.specs.declared.types.LineKind.TheVariants.{Straight}
use Rattle.line_rules.specs.declared.types.Mode.TheVariants.{Fore}
use Rattle.line_rules.specs.declared.types.Entry.{Entry}
use Rattle.line_rules.specs.declared.types.Why.TheVariants as why
use Rattle.worked_lines.proofs.FreeTasks.{free_ranked, no_row}
use Rattle.line_rules.proofs.FreeSets.{all_of}
use Rattle.line_rules.proofs.All.{In-all}
use Rattle.line_rules.proofs.ListFacts.{get_none}
use Rattle.line_rules.proofs.LongerLists.{derived_push}
use Rattle.line_rules.proofs.LoadLists.{with_task, no_tasks}
use Rattle.line_rules.proofs.LoadTests.{loads_of, loads_listed, open_of}
use Rattle.worked_lines.proofs.Branches.{branch_follows}

ranked : IsRanked seven_free
ranked = free_ranked seven_free.times

few : tasks seven_free ≤ 1024
few = omega arith

all : IsTaskSet seven_free (all_tasks seven_free)
all = all_of seven_free

five_set : List Bool
five_set = set_of (2 ∷ 3 ∷ 4 ∷ 5 ∷ 6 ∷ [])

first_set : List Bool
first_set = set_of (0 ∷ 2 ∷ 3 ∷ 4 ∷ 5 ∷ 6 ∷ [])

second_set : List Bool
second_set = set_of (1 ∷ 2 ∷ 3 ∷ 4 ∷ 5 ∷ 6 ∷ [])

five_tasks : IsTaskSet seven_free five_set
unfolding five_set
five_tasks =
    with_task seven_free few ranked (set_of (3 ∷ 4 ∷ 5 ∷ 6 ∷ [])) 2 (omega arith)
    (with_task seven_free few ranked (set_of (4 ∷ 5 ∷ 6 ∷ [])) 3 (omega arith)
    (with_task seven_free few ranked (set_of (5 ∷ 6 ∷ [])) 4 (omega arith)
    (with_task seven_free few ranked (set_of (6 ∷ [])) 5 (omega arith)
    (with_task seven_free few ranked (set_of []) 6 (omega arith) (no_tasks seven_free few ranked)))))

first_tasks : IsTaskSet seven_free first_set
unfolding first_set five_set
first_tasks = with_task seven_free few ranked five_set 0 (omega arith) five_tasks

second_tasks : IsTaskSet seven_free second_set
unfolding second_set five_set
second_tasks = with_task seven_free few ranked five_set 1 (omega arith) five_tasks

five_open : open_of seven_free few ranked 7 five_set five_tasks Straight Fore 2 ≡ []
unfolding full_to five_set bound lm1 lm2 lm3 sixths head tail chained
five_open = refl

first_open : open_of seven_free few ranked 7 first_set first_tasks Straight Fore 3 ≡ load_of (0 ∷ []) ∷ []
unfolding full_to first_set bound lm1 lm2 lm3 sixths head tail chained
first_open = refl

all_open : open_of seven_free few ranked 7 (all_tasks seven_free) all Straight Fore 4
    ≡ load_of (1 ∷ []) ∷ load_of (0 ∷ []) ∷ []
unfolding full_to bound lm1 lm2 lm3 sixths head tail chained
all_open = refl

five_many : length (loads_of seven_free few ranked 7 five_set five_tasks Fore) ≡ 15
unfolding full_to five_set
five_many = refl

first_many : length (loads_of seven_free few ranked 7 first_set first_tasks Fore) ≡ 16
unfolding full_to first_set
first_many = refl

all_many : length (loads_of seven_free few ranked 7 (all_tasks seven_free) all Fore) ≡ 17
unfolding full_to
all_many = refl

first_rest : rest first_set (load_of (0 ∷ [])) ≡ five_set
unfolding full_to first_set five_set
first_rest = refl

all_rest_first : rest (all_tasks seven_free) (load_of (1 ∷ [])) ≡ first_set
unfolding full_to first_set
all_rest_first = refl

all_rest_second : rest (all_tasks seven_free) (load_of (0 ∷ [])) ≡ second_set
unfolding full_to second_set
all_rest_second = refl

swapped : first_set ≡ slice_set (slice_set second_set 1 false) 0 true
unfolding full_to first_set second_set
swapped = refl

two_in : In five_set 2
unfolding full_to five_set
two_in = refl

two_in_first : In first_set 2
unfolding full_to first_set
two_in_first = refl

one_in : In second_set 1
unfolding full_to second_set
one_in = refl

zero_out : has second_set 0 ≡ false
unfolding full_to second_set
zero_out = refl

five_entry : Entry
five_entry = record { set = five_set; most = 2; cycle = 7; why = why.Branch Fore [] }

first_entry : Entry
first_entry = record { set = first_set; most = 3; cycle = 7; why = why.Branch Fore (0 ∷ []) }

second_entry : Entry
second_entry = record { set = second_set; most = 3; cycle = 7; why = why.Swap 1 1 0 }

all_entry : Entry
all_entry = record { set = all_tasks seven_free; most = 4; cycle = 7; why = why.Branch Fore (1 ∷ 2 ∷ []) }

five_follows : Follows Straight seven_free [] five_entry
unfolding five_entry
five_follows = branch_follows Straight seven_free few ranked [] five_set five_tasks 2 7 Fore (2, two_in) (omega arith)
    (omega arith) tt [] [] five_open tt

first_follows : Follows Straight seven_free (five_entry ∷ []) first_entry
unfolding five_entry first_entry
first_follows =
    branch_follows Straight seven_free few ranked (five_entry ∷ []) first_set first_tasks 3 7 Fore (2, two_in_first)
    (omega arith) (omega arith) tt (0 ∷ []) (load_of (0 ∷ []) ∷ []) first_open (
      record {
        entry = five_entry;
        there = refl;
        part = λ i m. ap (λ (s : List Bool). has s i) first_rest ∙ m;
        stations = omega arith;
        cycle = omega arith;
      },
      tt,
    )

second_follows : Follows Straight seven_free (five_entry ∷ first_entry ∷ []) second_entry
unfolding first_entry second_entry
second_follows = record {
  set = second_tasks;
  cycle = omega arith;
  by = record {
    entry = first_entry;
    there = refl;
    stations = omega arith;
    cycle = omega arith;
    out_in = one_in;
    task = omega arith;
    into_out = zero_out;
    set = swapped;
    time = omega arith;
    before = λ i m b. absurd (no_row seven_free.times 0 i b);
    after = λ i m b. absurd (no_row seven_free.times i 0 b);
    apart = λ i m b. absurd (no_row seven_free.times 0 i b);
  };
}

all_follows : Follows Straight seven_free (five_entry ∷ first_entry ∷ second_entry ∷ []) all_entry
unfolding first_entry second_entry all_entry
all_follows =
    branch_follows Straight seven_free few ranked (five_entry ∷ first_entry ∷ second_entry ∷ []) (all_tasks seven_free)
    all 4 7 Fore (0, In-all seven_free 0 few (omega arith)) (omega arith) (omega arith) tt
    (1 ∷ 2 ∷ []) (load_of (1 ∷ []) ∷ load_of (0 ∷ []) ∷ []) all_open (
      record {
        entry = first_entry;
        there = refl;
        part = λ i m. ap (λ (s : List Bool). has s i) all_rest_first ∙ m;
        stations = omega arith;
        cycle = omega arith;
      },
      (
        record {
          entry = second_entry;
          there = refl;
          part = λ i m. ap (λ (s : List Bool). has s i) all_rest_second ∙ m;
          stations = omega arith;
          cycle = omega arith;
        },
        tt,
      ),
    )

derived : IsDerived Straight seven_free (five_entry ∷ first_entry ∷ second_entry ∷ all_entry ∷ [])
derived =
    derived_push Straight seven_free (five_entry ∷ first_entry ∷ second_entry ∷ []) all_entry
    (derived_push Straight seven_free (five_entry ∷ first_entry ∷ []) second_entry
    (derived_push Straight seven_free (five_entry ∷ []) first_entry
    (derived_push Straight seven_free [] five_entry (λ k e h. absurd (get_none k e h)) five_follows) first_follows)
    second_follows) all_follows

units : UnitsOf seven_free (five_entry ∷ first_entry ∷ second_entry ∷ all_entry ∷ []) 48
unfolding five_entry first_entry second_entry all_entry
units = (
  15,
  33,
  (
    record {
      loads = loads_of seven_free few ranked 7 five_set five_tasks Fore;
      listed = loads_listed seven_free few ranked 7 five_set five_tasks Fore;
      long = five_many;
    },
    (
      16,
      17,
      (
        record {
          loads = loads_of seven_free few ranked 7 first_set first_tasks Fore;
          listed = loads_listed seven_free few ranked 7 first_set first_tasks Fore;
          long = first_many;
        },
        (
          0,
          17,
          (
            refl,
            (
              17,
              0,
              (
                record {
                  loads = loads_of seven_free few ranked 7 (all_tasks seven_free) all Fore;
                  listed = loads_listed seven_free few ranked 7 (all_tasks seven_free) all Fore;
                  long = all_many;
                },
                refl,
                refl,
              ),
            ),
            refl,
          ),
        ),
        refl,
      ),
    ),
    refl,
  ),
)

pub swap_of_the_rows : SwapOfTheRows
unfolding five_set first_set second_set five_entry first_entry second_entry all_entry
swap_of_the_rows = record { derived = derived; units = units }
