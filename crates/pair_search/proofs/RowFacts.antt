-- The long tasks, the row of a task, and the rows put one behind the other.
use Rattle.std.proofs.Common.{◌≡◌, ℕ, ◌+◌, ◌*◌, ◌<◌, ◌≤◌, Bool, false, List, [], ◌∷◌, ◌++◌, length, get_or, set}
use Rattle.std.proofs.Common.{sym, ap, ◌∙◌, subst, inl, inr, arith}
use Rattle.std.proofs.Common.{length-append, replicate}
use Rattle.std.proofs.lemmas.Bool.{cases_lt, false_from_ne_true}
use Rattle.std.proofs.lemmas.List.{get_or_append_left, length-replicate}
use Rattle.std.proofs.Math.Seq.{get_or-append_seam}
use Rattle.line_instance.specs.Truths.{In, full_to, members_of}
use Rattle.line_instance.specs.Line.{Line, IsTaskSet, tasks, time, has}
use Rattle.line_instance.specs.Sums.{sum_where}
use Rattle.line_instance.proofs.Sums.{weigh-none, weigh-one}
use Rattle.line_instance.proofs.Members.{In-clear, In-clear_kept, In-clear_gone, In-full_to, In-full_to_below, In-empty}
use Rattle.line_rules.specs.declared.types.LineKind.{LineKind}
use Rattle.line_rules.specs.declared.types.LineKind.TheVariants.{U}
use Rattle.line_rules.specs.Pairs.{time_between, Conflict}
use Rattle.line_rules.proofs.Between.{none_between}
use Rattle.pair_search.specs.Sharing.{AreLong, IsRowOf}
use Rattle.pair_search.proofs.KeptTasks.{AreKept, kept_start, kept_end, kept_all}

-- no task is a set of tasks, and takes no time
pub no_tasks : (line : Line) (s : List Bool) → s ≡ replicate 1024 false → IsTaskSet line s
no_tasks line s e = record {
  truths = ap length e ∙ length-replicate 1024 false;
  tasks = λ i m. absurd (In-empty 1024 i (let P : List Bool → Type 0 = λ t. In t i in subst P e m));
}

pub nothing_between : (kind : LineKind) → kind ≡ U → (line : Line) (i j : ℕ) (s : List Bool) → s ≡ replicate 1024 false
    → sum_where (has s) line.times ≡ time_between kind line (full_to (tasks line)) i j
nothing_between kind u line i j s e =
    let none : (k : ℕ) → has s k ≡ false = λ k. false_from_ne_true (has s k)
    (λ m. In-empty 1024 k (let P : List Bool → Type 0 = λ t. In t k in subst P e m)) in
    weigh-none (λ t. t) (has s) none line.times ∙ none_between kind u line (full_to (tasks line)) i j

-- two long tasks conflict where a third one lies between them
pub crowded : {line : Line} {c : ℕ} {long : List Bool} (kind : LineKind) (i j : ℕ) (between : List Bool) (k : ℕ)
    → AreLong line c long → In long i → In long j → In long k → In between k
    → sum_where (has between) line.times ≡ time_between kind line (full_to (tasks line)) i j
    → Conflict kind line c (full_to (tasks line)) i j
crowded {line} {c} {long} kind i j between k h mi mj mk m e = inr (omega (
  arith,
  ((h.members i).0 mi).1,
  ((h.members j).0 mj).1,
  ((h.members k).0 mk).1,
  weigh-one (λ t. t) (has between) k line.times ((h.members k).0 mk).0 m,
  e,
))

-- the tasks above a third of a cycle are kept
abbrev pub LongLeft : Line → ℕ → List Bool → List ℕ → Type 0
LongLeft line c now left = AreKept (full_to (tasks line)) (λ j. c < 3 * time line j) (λ j. 3 * time line j ≤ c) now left

pub long_start : (line : Line) (c : ℕ) (now : List Bool) (left : List ℕ) → now ≡ full_to (tasks line)
    → length now ≡ 1024 → left ≡ members_of now → LongLeft line c now left
long_start line c now left e l start =
    kept_start (full_to (tasks line)) (λ j. c < 3 * time line j) (λ j. 3 * time line j ≤ c) now left e l start

pub long_end : {line : Line} {c : ℕ} {now : List Bool} {left : List ℕ} → LongLeft line c now left → left ≡ []
    → tasks line ≤ 1024 → AreLong line c now
long_end {line} {c} {now} {left} h e few = record {
  truths = h.truths;
  members = λ j. (
    λ n. (In-full_to_below (tasks line) j (h.within j n), kept_end h e j n),
    λ p. kept_all h j (In-full_to (tasks line) j few p.0) (λ q. omega (arith, q, p.1)),
  );
}

-- the tasks that share with i are kept
abbrev pub RowLeft : LineKind → Line → ℕ → List Bool → ℕ → List Bool → List ℕ → Type 0
RowLeft kind line c long i now left =
    AreKept (set long i false) (λ j. Conflict kind line c (full_to (tasks line)) i j → ⊥)
    (λ j. Conflict kind line c (full_to (tasks line)) i j) now left

pub row_start : (kind : LineKind) (line : Line) (c : ℕ) (long : List Bool) (i : ℕ) (now : List Bool) (left : List ℕ)
    → now ≡ set long i false → length now ≡ 1024 → left ≡ members_of now → RowLeft kind line c long i now left
row_start kind line c long i now left e l start =
    kept_start (set long i false) (λ j. Conflict kind line c (full_to (tasks line)) i j → ⊥)
    (λ j. Conflict kind line c (full_to (tasks line)) i j) now left e l start

pub row_end : {kind : LineKind} {line : Line} {c : ℕ} {long : List Bool} {i : ℕ} {now : List Bool} {left : List ℕ}
    → RowLeft kind line c long i now left → left ≡ [] → IsRowOf kind line c long i now
row_end {kind} {line} {c} {long} {i} {now} {left} h e = record {
  truths = h.truths;
  within = λ j m. (
    In-clear_kept long i j (h.within j m),
    λ s. In-clear_gone long i (let P : ℕ → Type 0 = λ k. In (set long i false) k in subst P s (h.within j m)),
  );
  share = λ j m. kept_end h e j m;
  conflict = λ j m n k. h.gone j (In-clear long i j m n) k;
}

-- the rows of the long tasks below n
pub record AreRowsBelow (kind : LineKind) (line : Line) (c : ℕ) (long : List Bool) (rows : List (List Bool))
    (n : ℕ) : Type 0 where
  pub many : length rows ≡ n
  pub each : (i : ℕ) → i < n → In long i → IsRowOf kind line c long i (get_or rows i [])

pub no_rows : (kind : LineKind) (line : Line) (c : ℕ) (long : List Bool) (rows : List (List Bool)) → rows ≡ []
    → AreRowsBelow kind line c long rows 0
no_rows kind line c long rows e = record { many = ap length e; each = λ i l m. absurd (omega (arith, l)) }

-- one row more
pub row_more : {kind : LineKind} {line : Line} {c : ℕ} {long : List Bool} {rows : List (List Bool)} {n : ℕ}
    → AreRowsBelow kind line c long rows n → (row : List Bool) → (In long n → IsRowOf kind line c long n row)
    → (now : List (List Bool)) → now ≡ rows ++ row ∷ [] → AreRowsBelow kind line c long now (n + 1)
row_more {kind} {line} {c} {long} {rows} {n} h row new now e =
    let P : List (List Bool) → Type 0 = λ r. AreRowsBelow kind line c long r (n + 1) in
    let R : List Bool → ℕ → Type 0 = λ s i. IsRowOf kind line c long i s in
    subst P (sym e) (record {
      many = omega (arith, length-append rows (row ∷ []), h.many);
      each = λ i l m. elim (cases_lt i n) [
        | inl k ↦ (
            let f : get_or (rows ++ row ∷ []) i [] ≡ get_or rows i [] =
            get_or_append_left rows (row ∷ []) [] i (omega (arith, k, h.many)) in
            let Q : List Bool → Type 0 = λ s. R s i in subst Q (sym f) (h.each i k m)
            )
        | inr g ↦ (
            let same : i ≡ length rows = omega (arith, l, g, h.many) in
            let f : get_or (rows ++ row ∷ []) i [] ≡ row =
            ap (λ k. get_or (rows ++ row ∷ []) k []) same ∙ get_or-append_seam rows row [] [] in
            let at : n ≡ i = omega (arith, l, g) in
            let Q : List Bool → Type 0 = λ s. R s i in
            let S : ℕ → Type 0 = λ k. In long k → IsRowOf kind line c long k row in
            subst Q (sym f) (subst S at new m)
            )
      ];
    })
