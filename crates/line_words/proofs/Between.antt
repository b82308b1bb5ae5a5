-- The numbers of a job lie in the ranges of their keys.
use Rattle.std.proofs.Common.{◌≡◌, ◌⊎◌, ◌∙◌, ℕ, zero, suc, ◌<◌, ◌≤◌, Bool, true, false, ◌&&◌, cond, List, [], ◌∷◌}
use Rattle.std.proofs.Common.{length, take, refl, sym, ap, subst, arith, Option, Some, None, codes, inl, inr}
use Rattle.std.specs.Prelude.{slice_index_or, nat_le}
use Rattle.std.specs.Str.{bytes_eq}
use Rattle.std.proofs.lemmas.Bool.{and_parts}
use Rattle.std.proofs.lemmas.Bool.Decides.{nat_tests}
use Rattle.std.proofs.lemmas.Option.{same_Some, none-some}
use Rattle.line_io.specs.Lines.{number_in, is_number, value_of as digits_value}
use Rattle.line_io.specs.declared.text.Num.TheVariants.{Value, NotANumber, Above}
use Rattle.line_words.specs.Words.{Text, setting, value_by, value_of, or_else, sets}
use Rattle.line_words.specs.Table.{takes, is_value, is_least, least_of, most_of, number_up_to, as_value}
use Rattle.line_words.specs.Table.{leads_with_nought}
use Rattle.line_words.specs.Jobs.{setting_fault, fault_by, AreRight, Asks, IsJob, IsPageJob, IsCommanded, job_for}
use Rattle.line_words.specs.Jobs.{number_in_value, number_set, number_or, or_default, are_ordered, ends_agree}
use Rattle.line_words.specs.Ranges.{IsBetween, IsSetBetween, IsInRange}
use Rattle.line_words.specs.declared.command.Command.{Command}
use Rattle.line_words.specs.declared.command.Command.TheVariants as command
use Rattle.line_words.specs.declared.fault.UsageKind.TheVariants.{UnknownKey, RepeatedKey, BadValue}
use Rattle.line_words.specs.declared.job.Job.{Job}
use Rattle.line_words.specs.declared.job.Job.TheVariants.{Page, Search, Check, Line, Mix}
use Rattle.line_io.proofs.ReadFacts.{same_bytes}

-- a setting at some place has the key and the value, which is that of the key in all words up to a place behind it
pub record IsSetAt (words : List Text) (key value : Text) : Type 0 where
  pub place : ℕ
  pub within : place < length words
  pub is : setting (slice_index_or words place []) ≡ Some (key, value)
  pub behind : (j : ℕ) → place < j → value_of (take j words) key ≡ Some value

true_false : true ≡ false → ⊥
true_false e = cc

-- the value of a key stands at some place
pub set_at : (words : List Text) (key value : Text) → value_of words key ≡ Some value → IsSetAt words key value
set_at [] key value e = absurd (none-some value e)
set_at (word ∷ words) key value e = by_setting (set_at words key value) (setting word) refl
  where
    goes_on : (s : IsSetAt words key value) → value_by key (setting word) ≡ None → (j : ℕ) → suc s.place < j
        → value_of (take j (word ∷ words)) key ≡ Some value
    goes_on s n zero h = absurd (omega (arith, h))
    goes_on s n (suc j) h = ap (λ o. or_else o (value_of (take j words) key)) n ∙ s.behind j (omega (arith, h))

    later : (value_of words key ≡ Some value → IsSetAt words key value) → value_by key (setting word) ≡ None
        → or_else None (value_of words key) ≡ Some value → IsSetAt (word ∷ words) key value
    later f n e = (let s = f e in record {
      place = suc s.place;
      within = omega (arith, s.within);
      is = s.is;
      behind = goes_on s n;
    })

    here : (p : Text × Text) → setting word ≡ Some p → bytes_eq p.0 key ≡ true → p.1 ≡ value → (j : ℕ) → 0 < j
        → value_of (take j (word ∷ words)) key ≡ Some value
    here p s b v zero h = absurd (omega (arith, h))
    here p s b v (suc j) h =
        ap (λ o. or_else (value_by key o) (value_of (take j words) key)) s
        ∙ ap (λ t. or_else (cond t (Some p.1) None) (value_of (take j words) key)) b ∙ ap Some v

    by_key : (value_of words key ≡ Some value → IsSetAt words key value) → (p : Text × Text) → setting word ≡ Some p
        → (b : Bool) → bytes_eq p.0 key ≡ b
        → or_else (cond b (Some p.1) None) (value_of words key) ≡ Some value → IsSetAt (word ∷ words) key value
    by_key f p s true b e = record {
      place = 0;
      within = omega arith;
      is = s ∙ ap (λ k. Some (k, p.1)) (same_bytes p.0 key b) ∙ ap (λ v. Some (key, v)) (same_Some p.1 value e);
      behind = here p s b (same_Some p.1 value e);
    }
    by_key f p s false b e = later f (ap (value_by key) s ∙ ap (λ t. cond t (Some p.1) None) b) e

    by_setting : (value_of words key ≡ Some value → IsSetAt words key value) → (o : Option (Text × Text))
        → setting word ≡ o → IsSetAt (word ∷ words) key value
    by_setting f None s = later f (ap (value_by key) s) (sym (ap (λ o. or_else (value_by key o) (value_of words key)) s)
        ∙ e)
    by_setting f (Some p) s = by_key f p s (bytes_eq p.0 key) refl
        (sym (ap (λ o. or_else (value_by key o) (value_of words key)) s) ∙ e)

-- a setting with which nothing is wrong has a value of its key, and the ends of a range of stations agree
setting_right : (command : Command) (before : List Text) (p : Text × Text) → setting_fault command before p ≡ None
    → (is_value command p.0 p.1 && ends_agree command before p) ≡ true
setting_right command before p e = by_key (takes command p.0) e
  where
    right : Bool
    right = is_value command p.0 p.1 && ends_agree command before p

    by_right : (b : Bool) → cond b None (Some BadValue) ≡ None → b ≡ true
    by_right true e = refl
    by_right false e = absurd (none-some BadValue (sym e))

    by_before : (b : Bool) → cond b (Some RepeatedKey) (cond right None (Some BadValue)) ≡ None → right ≡ true
    by_before true e = absurd (none-some RepeatedKey (sym e))
    by_before false e = by_right right e

    by_key : (b : Bool) → cond b (cond (sets before p.0) (Some RepeatedKey) (cond right None (Some BadValue)))
        (Some UnknownKey) ≡ None
        → right ≡ true
    by_key true e = by_before (sets before p.0) e
    by_key false e = absurd (none-some UnknownKey (sym e))

-- where nothing is wrong with the words, what is set at a place is right by the words before it
right_at : (command : Command) (words : List Text) (key value : Text) → AreRight command words
    → (s : IsSetAt words key value)
    → (is_value command key value && ends_agree command (take s.place words) (key, value)) ≡ true
right_at command words key value right s =
    setting_right command (take s.place words) (key, value)
    (sym (ap (fault_by command (take s.place words) (slice_index_or words s.place [])) s.is) ∙ right s.place s.within)

-- where nothing is wrong with the words, the value of a key is one that it takes
pub value_right : (command : Command) (words : List Text) (key value : Text) → AreRight command words
    → value_of words key ≡ Some value → is_value command key value ≡ true
value_right command words key value right e =
    let s = set_at words key value e in
    (and_parts (is_value command key value) (ends_agree command (take s.place words) (key, value))
    (right_at command words key value right s)).0

-- a number that a key takes lies in the key's range
number_most : (most n : ℕ) (text : Text) → number_up_to most text ≡ Some n → n ≤ most
number_most most n text e = by_nought (leads_with_nought text) e
  where
    by_le : (b : Bool) → nat_le (digits_value text) most ≡ b
        → as_value (cond b (Value (digits_value text)) Above) ≡ Some n → n ≤ most
    by_le true l e = (let s : digits_value text ≡ n = same_Some (digits_value text) n e in
        subst (λ k. k ≤ most) s (grind (arith, nat_tests, l)))
    by_le false l e = absurd (none-some n e)

    by_number : (b : Bool) → as_value (cond b (cond (nat_le (digits_value text) most) (Value (digits_value text)) Above)
        NotANumber) ≡ Some n → n ≤ most
    by_number true e = by_le (nat_le (digits_value text) most) refl e
    by_number false e = absurd (none-some n e)

    by_nought : (b : Bool) → cond b None (as_value (number_in most text)) ≡ Some n → n ≤ most
    by_nought true e = absurd (none-some n e)
    by_nought false e = by_number (is_number text) e

by_value : (least most : ℕ) (text : Text) (o : Option ℕ) → number_up_to most text ≡ o → is_least least o ≡ true
    → IsSetBetween least most o
by_value least most text None e h = tt
by_value least most text (Some n) e h = (grind (arith, nat_tests, h), number_most most n text e)

-- where a key of numbers takes a value, the number that the words set it to lies in its range
abbrev pub TakesNumbers : Command → Text → Type 0
TakesNumbers command key = (value : Text) → is_value command key value
    ≡ is_least (least_of key) (number_up_to (most_of command key) value)

pub set_between : (command : Command) (words : List Text) (key : Text) → TakesNumbers command key
    → AreRight command words → IsSetBetween (least_of key) (most_of command key) (number_set command words key)
set_between command words key numbers right = go (value_of words key) refl
  where
    go : (o : Option Text) → value_of words key ≡ o → IsSetBetween (least_of key) (most_of command key)
        (number_in_value command key o)
    go None e = tt
    go (Some value) e = by_value (least_of key) (most_of command key) value (number_up_to (most_of command key) value)
        refl (sym (numbers value) ∙ value_right command words key value right e)

or_between : (least most d : ℕ) (o : Option ℕ) → IsBetween least most d → IsSetBetween least most o
    → IsBetween least most (or_default d o)
or_between least most d None b s = b
or_between least most d (Some n) b s = s

-- the same with a default in the range
pub default_between : (command : Command) (words : List Text) (key : Text) (d : ℕ) → TakesNumbers command key
    → AreRight command words → IsBetween (least_of key) (most_of command key) d
    → IsBetween (least_of key) (most_of command key) (number_or command words key d)
default_between command words key d numbers right b = or_between (least_of key) (most_of command key) d
    (number_set command words key) b (set_between command words key numbers right)

-- two numbers are in order where the test says so
ordered : (least most : ℕ) → are_ordered (Some least) (Some most) ≡ true → least ≤ most
ordered least most h = grind (arith, nat_tests, h)

ends_are : (k i : ℕ) → (k < i) ⊎ (k ≡ i) ⊎ (i < k)
ends_are zero zero = inr (inl refl)
ends_are zero (suc i) = inl (omega arith)
ends_are (suc k) zero = inr (inr (omega arith))
ends_are (suc k) (suc i) = elim (ends_are k i) [
  | inl l ↦ inl (omega (arith, l))
  | inr (inl e) ↦ inr (inl (ap suc e))
  | inr (inr l) ↦ inr (inr (omega (arith, l)))
]

-- where nothing is wrong with the words, the least number of stations that they set isn't above the most
set_in_order : (words : List Text) → AreRight command.Effic words → (v w : Text)
    → value_of words (codes "least") ≡ Some v → value_of words (codes "most") ≡ Some w
    → are_ordered (number_up_to 1024 v) (number_up_to 1024 w) ≡ true
set_in_order words right v w e f = by_places (ends_are s.place t.place)
  where
    s : IsSetAt words (codes "least") v
    s = set_at words (codes "least") v e

    t : IsSetAt words (codes "most") w
    t = set_at words (codes "most") w f

    same_place : s.place ≡ t.place → ⊥
    same_place p = other (same_Some (codes "least", v) (codes "most", w)
        (sym s.is ∙ ap (λ k. setting (slice_index_or words k [])) p ∙ t.is))
      where
        other : ◌≡◌ {A = Text × Text} (codes "least", v) (codes "most", w) → ⊥
        other q = true_false (ap (λ p. bytes_eq p.0 (codes "least")) q)

    by_places : (s.place < t.place) ⊎ (s.place ≡ t.place) ⊎ (t.place < s.place)
        → are_ordered (number_up_to 1024 v) (number_up_to 1024 w) ≡ true
    by_places (inl l) =
        sym (ap (λ o. are_ordered (number_in_value command.Effic (codes "least") o) (number_up_to 1024 w))
        (s.behind t.place l))
        ∙ (and_parts (is_value command.Effic (codes "most") w)
        (ends_agree command.Effic (take t.place words) (codes "most", w))
        (right_at command.Effic words (codes "most") w right t)).1
    by_places (inr (inl p)) = absurd (same_place p)
    by_places (inr (inr l)) =
        sym (ap (λ o. are_ordered (number_up_to 1024 v) (number_in_value command.Effic (codes "most") o))
        (t.behind s.place l))
        ∙ (and_parts (is_value command.Effic (codes "least") v)
        (ends_agree command.Effic (take s.place words) (codes "least", v))
        (right_at command.Effic words (codes "least") v right s)).1

-- where nothing is wrong with the words, the numbers of stations are in order
ends_in_order : (words : List Text) → AreRight command.Effic words
    → number_or command.Effic words (codes "least") 1 ≤ number_or command.Effic words (codes "most") 1024
ends_in_order words right = by_least (value_of words (codes "least")) refl
  where
    least : Option Text → ℕ
    least o = or_default 1 (number_in_value command.Effic (codes "least") o)

    most : Option Text → ℕ
    most o = or_default 1024 (number_in_value command.Effic (codes "most") o)

    by_numbers : (n m : Option ℕ) → IsSetBetween 1 1024 n → IsSetBetween 1 1024 m → are_ordered n m ≡ true
        → or_default 1 n ≤ or_default 1024 m
    by_numbers None None h k o = omega arith
    by_numbers None (Some m) h k o = k.0
    by_numbers (Some n) None h k o = h.1
    by_numbers (Some n) (Some m) h k o = ordered n m o

    of_least : IsSetBetween 1 1024 (number_set command.Effic words (codes "least"))
    of_least = set_between command.Effic words (codes "least") (λ v. refl) right

    of_most : IsSetBetween 1 1024 (number_set command.Effic words (codes "most"))
    of_most = set_between command.Effic words (codes "most") (λ v. refl) right

    without : (n : Option ℕ) → are_ordered n None ≡ true
    without None = refl
    without (Some n) = refl

    by_most : (v : Text) → value_of words (codes "least") ≡ Some v → (o : Option Text)
        → value_of words (codes "most") ≡ o
        → are_ordered (number_up_to 1024 v) (number_in_value command.Effic (codes "most") o) ≡ true
    by_most v e None f = without (number_up_to 1024 v)
    by_most v e (Some w) f = set_in_order words right v w e f

    by_least : (o : Option Text) → value_of words (codes "least") ≡ o
        → number_or command.Effic words (codes "least") 1 ≤ number_or command.Effic words (codes "most") 1024
    by_least None e =
        by_numbers (number_set command.Effic words (codes "least")) (number_set command.Effic words (codes "most"))
        of_least of_most
        (ap (λ o. are_ordered (number_in_value command.Effic (codes "least") o)
        (number_set command.Effic words (codes "most"))) e)
    by_least (Some v) e =
        by_numbers (number_set command.Effic words (codes "least")) (number_set command.Effic words (codes "most"))
        of_least of_most
        (ap (λ o. are_ordered (number_in_value command.Effic (codes "least") o)
        (number_set command.Effic words (codes "most"))) e
        ∙ by_most v e (value_of words (codes "most")) refl)

-- the job of right words is in its ranges
pub job_between : (command : Command) (words : List Text) → AreRight command words → IsInRange (job_for command words)
job_between command.Balance ws r = set_between command.Balance ws (codes "cycle") (λ v. refl) r
job_between command.Solve ws r = (
  set_between command.Solve ws (codes "cycle") (λ v. refl) r,
  default_between command.Solve ws (codes "helpers") 4 (λ v. refl) r (omega arith, omega arith),
  set_between command.Solve ws (codes "units") (λ v. refl) r,
  set_between command.Solve ws (codes "seek") (λ v. refl) r,
)
job_between command.Cycle ws r = (
  default_between command.Cycle ws (codes "stations") 1 (λ v. refl) r (omega arith, omega arith),
  default_between command.Cycle ws (codes "helpers") 4 (λ v. refl) r (omega arith, omega arith),
  default_between command.Cycle ws (codes "units") 1000000 (λ v. refl) r (omega arith, omega arith),
  default_between command.Cycle ws (codes "seek") 0 (λ v. refl) r (omega arith, omega arith),
)
job_between command.Check ws r = default_between command.Check ws (codes "steps") 20000000 (λ v. refl) r
    (omega arith, omega arith)
job_between command.Convert ws r = set_between command.Convert ws (codes "cycle") (λ v. refl) r
job_between command.Combine ws r = tt
job_between command.Utility ws r = (
  default_between command.Utility ws (codes "interval") 1 (λ v. refl) r (omega arith, omega arith),
  default_between command.Utility ws (codes "length") 1 (λ v. refl) r (omega arith, omega arith),
)
job_between command.Timeline ws r = (
  default_between command.Timeline ws (codes "interval") 1 (λ v. refl) r (omega arith, omega arith),
  default_between command.Timeline ws (codes "length") 1 (λ v. refl) r (omega arith, omega arith),
)
job_between command.TimelineDraw ws r = (
  default_between command.TimelineDraw ws (codes "interval") 1 (λ v. refl) r (omega arith, omega arith),
  default_between command.TimelineDraw ws (codes "length") 1 (λ v. refl) r (omega arith, omega arith),
)
job_between command.Try ws r = (
  default_between command.Try ws (codes "seed") 0 (λ v. refl) r (omega arith, omega arith),
  default_between command.Try ws (codes "tasks") 1 (λ v. refl) r (omega arith, omega arith),
  default_between command.Try ws (codes "cycle") 200 (λ v. refl) r (omega arith, omega arith),
  default_between command.Try ws (codes "units") 1000000 (λ v. refl) r (omega arith, omega arith),
)
job_between command.Draw ws r = tt
job_between command.Plan ws r = tt
job_between command.Effic ws r = (
  default_between command.Effic ws (codes "least") 1 (λ v. refl) r (omega arith, omega arith),
  default_between command.Effic ws (codes "most") 1024 (λ v. refl) r (omega arith, omega arith),
  ends_in_order ws r,
  default_between command.Effic ws (codes "helpers") 4 (λ v. refl) r (omega arith, omega arith),
  default_between command.Effic ws (codes "units") 1000000 (λ v. refl) r (omega arith, omega arith),
  default_between command.Effic ws (codes "seek") 0 (λ v. refl) r (omega arith, omega arith),
)
job_between command.EfficCheck ws r = default_between command.EfficCheck ws (codes "steps") 20000000 (λ v. refl) r
    (omega arith, omega arith)
job_between command.Sequence ws r = (
  default_between command.Sequence ws (codes "interval") 1 (λ v. refl) r (omega arith, omega arith),
  default_between command.Sequence ws (codes "length") 1 (λ v. refl) r (omega arith, omega arith),
  default_between command.Sequence ws (codes "units") 1000000 (λ v. refl) r (omega arith, omega arith),
  default_between command.Sequence ws (codes "seek") 0 (λ v. refl) r (omega arith, omega arith),
)
job_between command.SequenceCheck ws r = (
  default_between command.SequenceCheck ws (codes "interval") 1 (λ v. refl) r (omega arith, omega arith),
  default_between command.SequenceCheck ws (codes "length") 1 (λ v. refl) r (omega arith, omega arith),
  default_between command.SequenceCheck ws (codes "steps") 20000000 (λ v. refl) r (omega arith, omega arith),
)

commanded_between : (words : List Text) (job : Job) → IsCommanded words (λ command behind. Asks command behind job)
    → IsInRange job
commanded_between [] job c = absurd c
commanded_between (word ∷ words) job c = subst IsInRange (sym c.2.is) (job_between c.0 words c.2.right)

page_between : (words : List Text) (job : Job) → IsPageJob words job → IsInRange job
page_between words (Page page) p = tt
page_between words (Search job) p = absurd p
page_between words (Check job) p = absurd p
page_between words (Line job) p = absurd p
page_between words (Mix job) p = absurd p

-- each job that words ask for is in its ranges
pub every_job_between : (words : List Text) (job : Job) → IsJob words job → IsInRange job
every_job_between words job (inl p) = page_between words job p
every_job_between words job (inr c) = commanded_between words job c
