-- The two sides of a load, and the places of their tasks in the order of loads.
use Rattle.std.proofs.Common.{◌≡◌, ◌≢◌, ℕ, suc, ◌+◌, ◌-◌, ◌*◌, ◌<◌, Bool, true, false, ◌||◌, List, length, set, refl}
use Rattle.std.proofs.Common.{sym, ap, ◌∙◌, subst, inl, inr, arith}
use Rattle.line_instance.specs.Truths.{In}
use Rattle.line_instance.proofs.Members.{In-union_left, In-union_right, In-union_cases, In-clear_kept}
use Rattle.line_instance.proofs.Bits.{get_or-union}
use Rattle.line_instance.specs.Line.{Line, IsTaskSet, IsRanked, tasks, has, at_rank}
use Rattle.line_rules.specs.Sides.{AreSets}
use Rattle.line_rules.specs.Loads.{Suits, taken}
use Rattle.line_rules.specs.Order.{truth}
use Rattle.line_rules.specs.Sides.{part, with_part, changed, Ahead, fills, spot, task_at}
use Rattle.line_rules.specs.declared.types.Mode.{Mode}
use Rattle.line_rules.specs.declared.types.Mode.TheVariants as mode
use Rattle.line_rules.specs.declared.types.Side.{Side}
use Rattle.line_rules.specs.declared.types.Side.TheVariants.{Front, Back}
use Rattle.line_rules.specs.declared.types.Load.{Load}
use Rattle.line_rules.proofs.Compare.{in_front, in_back}
use Rattle.std.proofs.lemmas.Bool.{cases_eq, cases_lt, false≢true, true≢false}
use Rattle.std.proofs.lemmas.List.{get_or-set_same, get_or-set_other, length-set}

-- what is so of both sides
pub each_side : (P : Side → Type 0) → P Front → P Back → (s : Side) → P s
each_side P f b Front = f
each_side P f b Back = b

pub part_with : (s : Side) (l : Load) (b : List Bool) → part s (with_part s l b) ≡ b
part_with Front l b = refl
part_with Back l b = refl

pub set_of : {line : Line} (s : Side) (l : Load) → AreSets line l → IsTaskSet line (part s l)
set_of Front l h = h.front
set_of Back l h = h.back

pub sets_with : (line : Line) (s : Side) (l : Load) (b : List Bool) → AreSets line l → IsTaskSet line b
    → AreSets line (with_part s l b)
sets_with line Front l b h i = record { front = i; back = h.back }
sets_with line Back l b h i = record { front = h.front; back = i }

pub set_less : (line : Line) (s : List Bool) (i : ℕ) → IsTaskSet line s → IsTaskSet line (set s i false)
set_less line s i h = record {
  truths = length-set s i false ∙ h.truths;
  tasks = λ j m. h.tasks j (In-clear_kept s i j m);
}

pub set_more : (line : Line) (s : List Bool) (i : ℕ) → i < tasks line → IsTaskSet line s → IsTaskSet line (set s i true)
set_more line s i l h = record {
  truths = length-set s i true ∙ h.truths;
  tasks = λ j m. elim (cases_eq j i) [
    | inl e ↦ omega (arith, e, l)
    | inr n ↦ h.tasks j (sym (get_or-set_other s i j true false n) ∙ m)
  ];
}

pub part_taken : (s : Side) (l : Load) (i : ℕ) → In (part s l) i → In (taken l) i
part_taken Front l i m = In-union_left l.front l.back i m
part_taken Back l i m = In-union_right l.front l.back i m

pub taken_part : (l : Load) (i : ℕ) → In (taken l) i → (s : Side) × In (part s l) i
taken_part l i m = elim (In-union_cases l.front l.back i m) [ inl f ↦ (Front, f) | inr b ↦ (Back, b) ]

pub taken_set : {line : Line} (l : Load) → AreSets line l → length (taken l) ≡ 1024 → IsTaskSet line (taken l)
taken_set l h long = record {
  truths = long;
  tasks = λ i m.
      elim (In-union_cases l.front l.back i m) [ inl f ↦ h.front.tasks i f | inr b ↦ h.back.tasks i b ];
}

pub other_taken : (s : Side) (l : Load) (i : ℕ) (b : Bool) (j : ℕ) → j ≢ i
    → has (taken (changed s l i b)) j ≡ has (taken l) j
other_taken Front l i b j n = get_or-union (set l.front i b) l.back j
    ∙ (ap (λ x. x || has l.back j) (get_or-set_other l.front i j b false n) ∙ sym (get_or-union l.front l.back j))
other_taken Back l i b j n = get_or-union l.front (set l.back i b) j
    ∙ (ap (λ x. has l.front j || x) (get_or-set_other l.back i j b false n) ∙ sym (get_or-union l.front l.back j))

-- what isn't filled by loads of the mode is empty
pub unfilled : (mode : Mode) (s : Side) (l : Load) → fills mode s ≡ false → Suits mode l → (i : ℕ) → In (part s l) i → ⊥
unfilled mode.Fore Front l e h i m = true≢false e
unfilled mode.Fore Back l e h i m = h i m
unfilled mode.Back Front l e h i m = h i m
unfilled mode.Back Back l e h i m = true≢false e
unfilled mode.Both s l e h i m = true≢false e

pub suits_with : (mode : Mode) (s : Side) (l : Load) (b : List Bool) → fills mode s ≡ true → Suits mode l
    → Suits mode (with_part s l b)
suits_with mode.Fore Front l b e h = h
suits_with mode.Fore Back l b e h = absurd (false≢true e)
suits_with mode.Back Front l b e h = absurd (false≢true e)
suits_with mode.Back Back l b e h = h
suits_with mode.Both s l b e h = tt

pub spot_suc : (line : Line) (s : Side) (p : ℕ) → spot line s (suc p) ≡ suc (spot line s p)
spot_suc line Front p = refl
spot_suc line Back p = omega arith

pub spot_within : (line : Line) (s : Side) (p : ℕ) → p < tasks line → spot line s p < 2 * tasks line
spot_within line Front p l = omega arith
spot_within line Back p l = omega arith

pub spot_rises : (line : Line) (s : Side) (p q : ℕ) → p < q → spot line s p < spot line s q
spot_rises line Front p q l = l
spot_rises line Back p q l = omega arith

-- each place is one of a side
pub spot_of : (line : Line) (j : ℕ) → j < 2 * tasks line → (s : Side) × (p : ℕ) × (p < tasks line) × (j ≡ spot line s p)
spot_of line j h = elim (cases_lt j (tasks line)) [
  | inl l ↦ (Front, j, l, refl)
  | inr g ↦ (Back, j - tasks line, omega (arith, g, h), omega (arith, g))
]

module _ (line : Line) (ranked : IsRanked line) where
  pub truth_at : (s : Side) (l : Load) (p : ℕ) → p < tasks line
      → truth line l (spot line s p) ≡ has (part s l) (task_at line s p)
  truth_at Front l p h = in_front line ranked l p h
  truth_at Back l p h = ap (λ k. truth line l k) (let e : tasks line + p ≡ 2 * tasks line - 1 - (tasks line - 1 - p) =
      omega arith in e) ∙ in_back line ranked l (tasks line - 1 - p) (omega arith)

  pub task_once : (s : Side) (p q : ℕ) → p < tasks line → q < tasks line → task_at line s p ≡ task_at line s q → p ≡ q
  task_once Front p q l m e = ranked.once p q l m e
  task_once Back p q l m e = let r : tasks line - 1 - p ≡ tasks line - 1 - q =
      ranked.once (tasks line - 1 - p) (tasks line - 1 - q) (omega arith) (omega arith) e in omega arith

  pub task_within : (s : Side) (p : ℕ) → p < tasks line → task_at line s p < tasks line
  task_within Front p l = ranked.task p l
  task_within Back p l = ranked.task (tasks line - 1 - p) (omega arith)

  pub task_placed : (s : Side) (i : ℕ) → i < tasks line → (p : ℕ) × (p < tasks line) × (task_at line s p ≡ i)
  task_placed Front i l = ranked.rank i l
  task_placed Back i l =
      let r : (k : ℕ) × (k < tasks line) × (at_rank line k ≡ i) = ranked.rank i l in (
        tasks line - 1 - r.0,
        omega (arith, r.1),
        ap (λ k. at_rank line k)
            (let e : tasks line - 1 - (tasks line - 1 - r.0) ≡ r.0 = omega (arith, r.1) in e) ∙ r.2,
      )

  -- what has to stand at a side before a task has a lower place there
  pub ahead_below : (s : Side) (p q : ℕ) → p < tasks line → q < tasks line
      → Ahead line s (task_at line s p) (task_at line s q) → p < q
  ahead_below Front p q l m w = ranked.rises p q l m w
  ahead_below Back p q l m w = let r : tasks line - 1 - q < tasks line - 1 - p =
      ranked.rises (tasks line - 1 - q) (tasks line - 1 - p) (omega arith) (omega arith) w in omega arith

  other_side : (s t : Side) (l : Load) (p q : ℕ) (b : Bool) → p < tasks line → q < tasks line
      → spot line t q ≢ spot line s p
      → has (part t (changed s l (task_at line s p) b)) (task_at line t q) ≡ has (part t l) (task_at line t q)
  other_side Front Front l p q b h k n = get_or-set_other l.front (task_at line Front p) (task_at line Front q) b false
      (λ e. n (task_once Front q p k h e))
  other_side Front Back l p q b h k n = refl
  other_side Back Front l p q b h k n = refl
  other_side Back Back l p q b h k n = get_or-set_other l.back (task_at line Back p) (task_at line Back q) b false
      (λ e. n (ap (λ x. tasks line + x) (task_once Back q p k h e)))

  -- a changed truth changes no other one
  pub truth_other : (s : Side) (l : Load) (p : ℕ) (b : Bool) → p < tasks line → (j : ℕ) → j < 2 * tasks line
      → j ≢ spot line s p
      → truth line (changed s l (task_at line s p) b) j ≡ truth line l j
  truth_other s l p b h j w n =
      let r : (t : Side) × (q : ℕ) × (q < tasks line) × (j ≡ spot line t q) = spot_of line j w in
      let P : ℕ → Type 0 = λ x. x ≢ spot line s p in
      ap (λ k. truth line (changed s l (task_at line s p) b) k) r.3
      ∙ (truth_at r.0 (changed s l (task_at line s p) b) r.1 r.2
      ∙ (other_side s r.0 l p r.1 b h r.2 (subst P r.3 n)
      ∙ (sym (truth_at r.0 l r.1 r.2) ∙ ap (λ k. truth line l k) (sym r.3))))

  pub truth_here : (s : Side) (l : Load) (p : ℕ) (b : Bool) → p < tasks line → task_at line s p < length (part s l)
      → truth line (changed s l (task_at line s p) b) (spot line s p) ≡ b
  truth_here s l p b h long =
      truth_at s (changed s l (task_at line s p) b) p h
      ∙ (ap (λ x. has x (task_at line s p)) (part_with s l (set (part s l) (task_at line s p) b))
      ∙ get_or-set_same (part s l) (task_at line s p) b false long)
