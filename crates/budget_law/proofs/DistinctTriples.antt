-- The triples of different families are different, and so they are few.
use Rattle.std.proofs.Common.{◌≡◌, ℕ, suc, ◌+◌, ◌-◌, ◌*◌, ◌^◌, ◌<◌, ◌≤◌, false, Bool, List, [], ◌∷◌, ◌++◌, length, refl}
use Rattle.std.proofs.Common.{sym, ap, ◌∙◌, subst, inl, inr, arith, Some, length-append}
use Rattle.std.specs.Prelude.{slice_get}
use Rattle.std.proofs.Math.Nat.{mul-le-mul_left}
use Rattle.std.proofs.lemmas.Bool.{cases_lt, cases_Bool, false≢true}
use Rattle.std.proofs.lemmas.List.{ext_get_or}
use Rattle.line_instance.specs.Truths.{In}
use Rattle.line_instance.specs.Line.{Line, IsRanked, IsTaskSet, tasks, has, at_rank}
use Rattle.line_rules.specs.Loads.{IsLoad, Belongs}
use Rattle.line_rules.specs.Order.{truth, Precedes}
use Rattle.line_rules.specs.declared.types.LineKind.{LineKind}
use Rattle.line_rules.specs.declared.types.Mode.{Mode}
use Rattle.line_rules.specs.declared.types.Load.{Load}
use Rattle.line_rules.proofs.Compare.{in_front, in_back}
use Rattle.budget_law.specs.Budget.{states}
use Rattle.budget_law.proofs.Families.{Family, IsFamily, AreDifferent, triples_of}
use Rattle.budget_law.proofs.TripleCodes.{low, code, code_same, code_lt, digit, digit_lt, Alike, members_alike}
use Rattle.budget_law.proofs.TripleCodes.{loads_alike, digit_some, zero_code, states_some}
use Rattle.budget_law.proofs.DistinctNumbers.{Has, Differ, has_append, differ_append, few_below}

module _ (kind : LineKind) (line : Line) (ranked : IsRanked line) (X : ℕ) where
  space : ℕ
  space = states kind ^ tasks line

  -- the number that stands for a set and a load of it
  code_of : List Bool → Load → ℕ
  code_of R l = code (states kind) (digit kind R l) (tasks line)

  code_below : (R : List Bool) (l : Load) → code_of R l < space
  unfolding code_of space
  code_below R l = code_lt (states kind) (digit kind R l) (tasks line) (digit_lt kind R l)

  -- the number that stands for a triple
  number : List Bool → ℕ → Load → ℕ
  number R m l = code_of R l + space * m

  numbers : List Bool → ℕ → List Load → List ℕ
  numbers R m [] = []
  numbers R m (l ∷ ls) = number R m l ∷ numbers R m ls

  number_lt : (R : List Bool) (m : ℕ) (l : Load) → m ≤ tasks line → number R m l < (tasks line + 1) * space
  unfolding number
  number_lt R m l h =
      let b : space * m ≤ space * tasks line = mul-le-mul_left space h in
      omega (arith, b, code_below R l)

  -- triples with equal numbers have the number of stations and the digits in common
  number_same : (R S : List Bool) (m o : ℕ) (l k : Load) → number R m l ≡ number S o k
      → (m ≡ o) × ((i : ℕ) → i < tasks line → digit kind R l i ≡ digit kind S k i)
  unfolding number code_of
  number_same R S m o l k e =
      let r : (code_of R l ≡ code_of S k) × (m ≡ o) =
      low space (code_of R l) (code_of S k) m o (code_below R l) (code_below S k) e in
      let d : (i : ℕ) → i < tasks line → digit kind R l i ≡ digit kind S k i =
      code_same (states kind) (digit kind R l) (digit kind S k) (tasks line)
      (digit_lt kind R l) (digit_lt kind S k) r.0 in
      (r.1, d)

  -- 0 stands for no triple whose set has a task
  number_some : (R : List Bool) (m : ℕ) (l : Load) (i : ℕ) → In R i → i < tasks line → number R m l ≡ 0 → ⊥
  unfolding number code_of
  number_some R m l i h less e =
      let none : ℕ → ℕ = λ i. 0 in
      let z : code_of R l ≡ code (states kind) none (tasks line) =
      omega (arith, e, zero_code (states kind) (tasks line)) in
      let d : digit kind R l i ≡ 0 =
      code_same (states kind) (digit kind R l) none (tasks line) (digit_lt kind R l) (λ i. states_some kind) z i less in
      digit_some kind R l i h d

  -- a load of the list with the number z
  record Numbered (R : List Bool) (m : ℕ) (ls : List Load) (z : ℕ) : Type 0 where
    at : ℕ
    load : Load
    there : slice_get ls at ≡ Some load
    same : number R m load ≡ z

  has_number : (R : List Bool) (m : ℕ) (ls : List Load) (z : ℕ) → Has (numbers R m ls) z → Numbered R m ls z
  unfolding numbers
  has_number R m [] z h = absurd h
  has_number R m (l ∷ ls) z (inl e) = record { at = 0; load = l; there = refl; same = e }
  has_number R m (l ∷ ls) z (inr h) = let r : Numbered R m ls z = has_number R m ls z h in
      record { at = suc r.at; load = r.load; there = r.there; same = r.same }

  -- a load and one that it precedes differ at some task
  not_alike : (R : List Bool) (mode : Mode) (a b : Load) → Belongs kind mode → IsLoad line X mode R a
      → IsLoad line X mode R b → Precedes line a b
      → ((i : ℕ) → i < tasks line → digit kind R a i ≡ digit kind R b i) → ⊥
  not_alike R mode a b belongs p q order same = elim (cases_lt order.at (tasks line)) [
    | inl l ↦
        let t : Alike a b (at_rank line order.at) =
        loads_alike line X R a b (at_rank line order.at) kind mode belongs p q
        (same (at_rank line order.at) (ranked.task order.at l)) in
        false≢true (sym order.absent ∙ (in_front line ranked a order.at l
        ∙ (t.front ∙ (sym (in_front line ranked b order.at l) ∙ order.present))))
    | inr g ↦
        let k : ℕ = 2 * tasks line - 1 - order.at in
        let l : k < tasks line = omega (arith, g, order.within) in
        let back : 2 * tasks line - 1 - k ≡ order.at = omega (arith, g, order.within) in
        let t : Alike a b (at_rank line k) = loads_alike line X R a b (at_rank line k) kind mode belongs p q
        (same (at_rank line k) (ranked.task k l)) in
        let at : (x : Load) → truth line x order.at ≡ truth line x (2 * tasks line - 1 - k) =
        λ x. ap (λ (z : ℕ). truth line x z) (sym back) in
        false≢true (sym order.absent ∙ (at a ∙ (in_back line ranked a k l
        ∙ (t.back ∙ (sym (in_back line ranked b k l) ∙ (sym (at b) ∙ order.present))))))
  ]

  -- the numbers of a family differ
  differ_numbers : (R : List Bool) (m : ℕ) (mode : Mode) (ls : List Load) → Belongs kind mode
      → ((j k : ℕ) (a b : Load) → j < k → slice_get ls j ≡ Some a → slice_get ls k ≡ Some b → Precedes line a b)
      → ((k : ℕ) (a : Load) → slice_get ls k ≡ Some a → IsLoad line X mode R a) → Differ (numbers R m ls)
  unfolding numbers
  differ_numbers R m mode [] b rises sound = tt
  differ_numbers R m mode (l ∷ ls) b rises sound = (
    λ h. let r : Numbered R m ls (number R m l) = has_number R m ls (number R m l) h in
        not_alike R mode l r.load b (sound 0 l refl) (sound (suc r.at) r.load r.there)
        (rises 0 (suc r.at) l r.load (omega arith) refl r.there) (number_same R R m m l r.load (sym r.same)).1,
    differ_numbers R m mode ls b (λ j k a c h e f. rises (suc j) (suc k) a c (omega (arith, h)) e f)
        (λ k a e. sound (suc k) a e),
  )

  family_numbers : Family → List ℕ
  family_numbers f = numbers f.set f.number f.loads

  all_numbers : List Family → List ℕ
  all_numbers [] = []
  all_numbers (f ∷ fs) = family_numbers f ++ all_numbers fs

  -- a family of the list that has the number z
  record Among (fs : List Family) (z : ℕ) : Type 0 where
    at : ℕ
    family : Family
    there : slice_get fs at ≡ Some family
    has_it : Has (family_numbers family) z

  has_all : (fs : List Family) (z : ℕ) → Has (all_numbers fs) z → Among fs z
  unfolding all_numbers
  has_all [] z h = absurd h
  has_all (f ∷ fs) z h = elim (has_append (family_numbers f) (all_numbers fs) z h) [
    | inl a ↦ record { at = 0; family = f; there = refl; has_it = a }
    | inr b ↦ (let r : Among fs z = has_all fs z b in
        record { at = suc r.at; family = r.family; there = r.there; has_it = r.has_it })
  ]

  outside : (s : List Bool) → IsTaskSet line s → (i : ℕ) → tasks line ≤ i → has s i ≡ false
  outside s f i n = elim (cases_Bool (has s i)) [ inl t ↦ absurd (omega (arith, f.tasks i t, n)) | inr e ↦ e ]

  -- families with a number in common have the set and the number of stations in common
  same_question : (f g : Family) (z : ℕ) → IsFamily kind line X f → IsFamily kind line X g → Has (family_numbers f) z
      → Has (family_numbers g) z → (f.set ≡ g.set) × (f.number ≡ g.number)
  unfolding family_numbers
  same_question f g z p q a b =
      let r : Numbered f.set f.number f.loads z = has_number f.set f.number f.loads z a in
      let u : Numbered g.set g.number g.loads z = has_number g.set g.number g.loads z b in
      let e : (f.number ≡ g.number) × ((i : ℕ) → i < tasks line
      → digit kind f.set r.load i ≡ digit kind g.set u.load i) =
      number_same f.set g.set f.number g.number r.load u.load (r.same ∙ sym u.same) in (
        ext_get_or false f.set g.set (p.tasks.truths ∙ sym q.tasks.truths) (λ i l. elim (cases_lt i (tasks line)) [
          | inl less ↦ members_alike kind f.set g.set r.load u.load i (e.1 i less)
          | inr out ↦ outside f.set p.tasks i out ∙ sym (outside g.set q.tasks i out)
        ]),
        e.0,
      )

  differ_all : (fs : List Family) → ((k : ℕ) (f : Family) → slice_get fs k ≡ Some f → IsFamily kind line X f)
      → AreDifferent fs → Differ (all_numbers fs)
  unfolding all_numbers family_numbers
  differ_all [] are d = tt
  differ_all (f ∷ fs) are d =
      differ_append (family_numbers f) (all_numbers fs)
      (differ_numbers f.set f.number f.mode f.loads (are 0 f refl).belongs (are 0 f refl).rises (are 0 f refl).sound)
      (differ_all fs (λ k g e. are (suc k) g e) (λ j k a b l p q. d (suc j) (suc k) a b (omega (arith, l)) p q))
      (λ z a b.
      let r : Among fs z = has_all fs z b in
      let q : (f.set ≡ r.family.set) × (f.number ≡ r.family.number) =
      same_question f r.family z (are 0 f refl) (are (suc r.at) r.family r.there) a r.has_it in
      d 0 (suc r.at) f r.family (omega arith) refl r.there q.0 q.1)

  long_numbers : (R : List Bool) (m : ℕ) (ls : List Load) → length (numbers R m ls) ≡ length ls
  unfolding numbers
  long_numbers R m [] = refl
  long_numbers R m (l ∷ ls) = omega (arith, long_numbers R m ls)

  long_all : (fs : List Family) → length (all_numbers fs) ≡ triples_of fs
  unfolding all_numbers family_numbers
  long_all [] = refl
  long_all (f ∷ fs) = omega (
    arith,
    long_all fs,
    long_numbers f.set f.number f.loads,
    length-append (family_numbers f) (all_numbers fs),
  )

  below_all : (fs : List Family) → ((k : ℕ) (f : Family) → slice_get fs k ≡ Some f → IsFamily kind line X f) → (z : ℕ)
      → Has (all_numbers fs) z → (z < (tasks line + 1) * space) × (z ≡ 0 → ⊥)
  unfolding family_numbers
  below_all fs are z h =
      let r : Among fs z = has_all fs z h in
      let u : Numbered r.family.set r.family.number r.family.loads z =
      has_number r.family.set r.family.number r.family.loads z r.has_it in
      let ok : IsFamily kind line X r.family = are r.at r.family r.there in
      let load : IsLoad line X r.family.mode r.family.set u.load = ok.sound u.at u.load u.there in
      let P : ℕ → Type 0 = λ y. y < (tasks line + 1) * space in
      let m : In r.family.set load.some.0 = load.within load.some.0 load.some.1 in (
        subst P u.same (number_lt r.family.set r.family.number u.load ok.few),
        λ e. number_some r.family.set r.family.number u.load load.some.0 m (ok.tasks.tasks load.some.0 m)
            (u.same ∙ e),
      )

  -- different families have few triples: 0 is a number more
  pub few_triples : (fs : List Family) → ((k : ℕ) (f : Family) → slice_get fs k ≡ Some f → IsFamily kind line X f)
      → AreDifferent fs → triples_of fs < (tasks line + 1) * states kind ^ tasks line
  unfolding space
  few_triples fs are d =
      let all : length (0 ∷ all_numbers fs) ≤ (tasks line + 1) * space =
      few_below (0 ∷ all_numbers fs) ((tasks line + 1) * space)
      (λ h. (below_all fs are 0 h).1 refl, differ_all fs are d)
      (λ q h. elim h [
        | inl e ↦ omega (arith, e, code_lt (states kind) (λ i. 0) (tasks line) (λ i. states_some kind))
        | inr a ↦ (below_all fs are q a).0
      ]) in
      omega (arith, all, long_all fs)
