-- The check of an entry, and of a list of entries, has one answer.
use Rattle.std.proofs.Common.{◌≡◌, ℕ, ◌+◌, ◌-◌, ◌<◌, ◌≤◌, List, [], ◌∷◌, length, take, refl, sym, ap, ◌∙◌, subst, ◌⊎◌}
use Rattle.std.proofs.Common.{Bool, inl, inr, arith, Option, Some, None}
use Rattle.std.specs.Prelude.{slice_get}
use Rattle.std.proofs.lemmas.Bool.{cases_order}
use Rattle.std.proofs.lemmas.List.{take-take}
use Rattle.std.proofs.lemmas.Option.{same_Some}
use Rattle.line_instance.specs.Truths.{In}
use Rattle.line_instance.specs.Line.{Line, IsRanked}
use Rattle.line_rules.specs.Bounds.{bound}
use Rattle.line_rules.specs.Loads.{IsLoad, Belongs}
use Rattle.line_rules.specs.Entries.{IsOpen}
use Rattle.line_rules.specs.Units.{UnitsBy, UnitsOf}
use Rattle.line_rules.specs.declared.types.LineKind.{LineKind}
use Rattle.line_rules.specs.declared.types.Mode.{Mode}
use Rattle.line_rules.specs.declared.types.Load.{Load}
use Rattle.line_rules.specs.declared.types.Entry.{Entry}
use Rattle.line_rules.specs.declared.types.Why.{Why}
use Rattle.line_rules.specs.declared.types.Why.TheVariants as why
use Rattle.line_rules.proofs.LoadPlaces.{three_ways}
use Rattle.line_check.specs.Walks.{IsFirstLate, AreBelow}
use Rattle.line_check.specs.Faults.{Branches, Swaps, IsReady, Fails, Ends, IsFound, IsChecked}
use Rattle.line_check.specs.Lists.{AreRightBelow, IsRefusedAt, AreStepsEnded, AreFound}
use Rattle.line_check.specs.declared.types.EntryFault.{EntryFault}
use Rattle.line_check.specs.declared.types.EntryFault.TheVariants as fault
use Rattle.line_check.specs.declared.types.EntryChecked.{EntryChecked}
use Rattle.line_check.specs.declared.types.EntryChecked.TheVariants as checked
use Rattle.line_check.specs.declared.types.Checked.{Checked}
use Rattle.line_check.specs.declared.types.Checked.TheVariants as found
use Rattle.line_check.specs.declared.types.ListFound.{ListFound}
use Rattle.line_check.specs.declared.types.ListFound.TheVariants as list
use Rattle.line_check.proofs.EntryFaults.{not_follows}
use Rattle.line_check.proofs.ListFacts.{refused_not}
use Rattle.line_check.proofs.OneWalk.{same_end, one_late, FailsWalk, one_failure, fails_in_time}
use Rattle.line_check.proofs.UnitFacts.{units_at, ends_more, entries_more}
use Rattle.line_rules.proofs.Monotone.{entries_same}
use Rattle.line_rules.proofs.ListFacts.{get_taken}

-- the fault of a walk
abbrev pub fault_of : Option Load → EntryFault
fault_of None = fault.Spare
fault_of (Some load) = fault.Uncovered load

module _ (kind : LineKind) (line : Line) (ranked : IsRanked line) (earlier : List Entry) (e : Entry) where
  -- this fault was found, and so many loads walked
  abbrev pub Is : EntryFault → ℕ → EntryFault → ℕ → Type 0
  Is f n why units = (why ≡ f) × (units ≡ n)

  is_one : (f : EntryFault) (k : ℕ) (a b : EntryFault) (m n : ℕ) → Is f k a m → Is f k b n → (a ≡ b) × (m ≡ n)
  is_one f k a b m n p q = (p.0 ∙ sym q.0, p.1 ∙ sym q.1)

  -- the walk over the loads of a Branch fails so
  abbrev pub FailsBy : Mode → List ℕ → Option Load → ℕ → Type 0
  FailsBy mode cites = FailsWalk line (IsLoad line e.cycle mode e.set) (IsOpen kind line e.cycle mode e.set e.most)
      (λ k p. p.load) (three_ways line ranked e.cycle mode e.set) earlier e.set e.most e.cycle cites

  abbrev pub HasTasks : Type 0
  HasTasks = (1 ≤ e.most) × ((i : ℕ) × In e.set i)

  -- the tests of a Branch in order: the first that fails, or what fails in the walk
  abbrev pub Tests : Mode → List ℕ → EntryFault → ℕ → Type 0
  Tests mode cites why units =
      ((Belongs kind mode → ⊥) × Is fault.Mode 0 why units)
      ⊎ (Belongs kind mode
      × (((HasTasks → ⊥) × Is fault.Most 0 why units)
      ⊎ (HasTasks
      × (((AreBelow cites (length earlier) → ⊥) × ((x : ℕ) × (IsFirstLate cites (length earlier) x
      × Is (fault.Cite x) 0 why units)))
      ⊎ (AreBelow cites (length earlier) × ((o : Option Load) × ((why ≡ fault_of o) × FailsBy mode cites o units)))))))

  branch_is : (P : Mode → List ℕ → Type 0) (mode : Mode) (cites : List ℕ) → e.why ≡ why.Branch mode cites → Branches e P
      → P mode cites
  branch_is P mode cites is b =
      let both : why.Branch b.0 b.1 ≡ why.Branch mode cites = sym b.2.0 ∙ is in
      let m : b.0 ≡ mode = cc in
      let c : b.1 ≡ cites = cc in
      let Q : Mode → Type 0 = λ z. P z cites in
      subst Q m (subst (P b.0) c b.2.1)

  swap_is : (P : ℕ → ℕ → ℕ → Type 0) (cite out into : ℕ) → e.why ≡ why.Swap cite out into → Swaps e P → P cite out into
  swap_is P cite out into is b =
      let both : why.Swap b.0 b.1 b.2 ≡ why.Swap cite out into = sym b.3.0 ∙ is in
      let c : b.0 ≡ cite = cc in
      let o : b.1 ≡ out = cc in
      let i : b.2 ≡ into = cc in
      let Q : ℕ → Type 0 = λ z. P z out into in
      let S : ℕ → Type 0 = λ z. P b.0 z into in
      subst Q c (subst S o (subst (P b.0 b.1) i b.3.1))

  late_is : (cites : List ℕ) (x : ℕ) → IsFirstLate cites (length earlier) x → AreBelow cites (length earlier) → ⊥
  late_is cites x h b = omega (arith, h.late, b h.place x h.there)

  tests_of : (mode : Mode) (cites : List ℕ) → e.why ≡ why.Branch mode cites → (why : EntryFault) (units : ℕ)
      → Fails kind line earlier e why units → Tests mode cites why units
  tests_of mode cites is (fault.Bound b) units h = let q : e.why ≡ why.Bound = h.0 in absurd (cc)
  tests_of mode cites is fault.Mode units h = inl (branch_is (λ m c. Belongs kind m → ⊥) mode cites is h.0, (refl, h.1))
  tests_of mode cites is fault.Most units h =
      let p : Belongs kind mode × ((e.most ≡ 0) ⊎ ((i : ℕ) → In e.set i → ⊥)) =
      branch_is (λ m c. Belongs kind m × ((e.most ≡ 0) ⊎ ((i : ℕ) → In e.set i → ⊥))) mode cites is h.0 in
      inr (p.0, inl (λ t. elim p.1 [ inl z ↦ omega (arith, z, t.0) | inr n ↦ n t.1.0 t.1.1 ], (refl, h.1)))
  tests_of mode cites is (fault.Cite x) units h = elim h.0 [
    | inl b ↦ (
        let p = branch_is (λ m c. Belongs kind m × (1 ≤ e.most) × ((i : ℕ) × In e.set i)
        × IsFirstLate c (length earlier) x) mode cites is b in
        inr (p.0, inr ((p.1, p.2), inl (late_is cites x p.3, (x, (p.3, (refl, h.1))))))
        )
    | inr s ↦ (let q : e.why ≡ why.Swap s.0 s.1 s.2 = s.3.0 in absurd (cc))
  ]
  tests_of mode cites is (fault.Uncovered load) units h =
      let p = branch_is (λ m c. IsReady kind earlier e m c × FailsBy m c (Some load) units) mode cites is
      (h.0, h.1, (h.2.0, (h.2.1.0, (h.2.1.1, h.2.1.2)))) in
      inr (p.0.belongs, inr ((p.0.stations, p.0.some), inr (p.0.below, (Some load, (refl, p.1)))))
  tests_of mode cites is fault.Spare units h =
      let p = branch_is (λ m c. IsReady kind earlier e m c × FailsBy m c None units) mode cites is
      (h.0, h.1, (h.2.0, (h.2.1.0, (h.2.1.1, h.2.1.2)))) in
      inr (p.0.belongs, inr ((p.0.stations, p.0.some), inr (p.0.below, (None, (refl, p.1)))))
  tests_of mode cites is fault.Swap units h = let q : e.why ≡ why.Swap h.0.0 h.0.1 h.0.2 = h.0.3.0 in absurd (cc)
  tests_of mode cites is fault.Pairs units h = let q : e.why ≡ why.Pairs h.0.0 = h.0.1.0 in absurd (cc)

  late_one : (mode : Mode) (cites : List ℕ) (a b : EntryFault) (m n : ℕ)
      → ((x : ℕ) × (IsFirstLate cites (length earlier) x × Is (fault.Cite x) 0 a m))
      → ((x : ℕ) × (IsFirstLate cites (length earlier) x × Is (fault.Cite x) 0 b n)) → (a ≡ b) × (m ≡ n)
  late_one mode cites a b m n p q =
      let e : p.0 ≡ q.0 = one_late cites (length earlier) p.0 q.0 p.1.0 q.1.0 in
      let P : ℕ → Type 0 = λ x. Is (fault.Cite x) 0 a m in
      is_one (fault.Cite q.0) 0 a b m n (subst P e p.1.1) q.1.1

  walk_one : (mode : Mode) (cites : List ℕ) (a b : EntryFault) (m n : ℕ)
      → ((o : Option Load) × ((a ≡ fault_of o) × FailsBy mode cites o m))
      → ((o : Option Load) × ((b ≡ fault_of o) × FailsBy mode cites o n)) → (a ≡ b) × (m ≡ n)
  walk_one mode cites a b m n p q =
      let e : (p.0 ≡ q.0) × (m ≡ n) = one_failure line (IsLoad line e.cycle mode e.set)
      (IsOpen kind line e.cycle mode e.set e.most) (λ k p. p.load) (three_ways line ranked e.cycle mode e.set)
      earlier e.set e.most e.cycle cites p.0 q.0 m n p.1.1 q.1.1 in
      (p.1.0 ∙ (ap (λ (o : Option Load). fault_of o) e.0 ∙ sym q.1.0), e.1)

  -- one Branch has one fault
  tests_one : (mode : Mode) (cites : List ℕ) (a b : EntryFault) (m n : ℕ) → Tests mode cites a m → Tests mode cites b n
      → (a ≡ b) × (m ≡ n)
  tests_one mode cites a b m n p q = same_end p q (is_one fault.Mode 0 a b m n) (λ p2 q2.
      same_end p2 q2 (is_one fault.Most 0 a b m n) (λ p3 q3.
      same_end p3 q3 (late_one mode cites a b m n) (walk_one mode cites a b m n)))

  bound_of : e.why ≡ why.Bound → (why : EntryFault) (units : ℕ) → Fails kind line earlier e why units
      → Is (fault.Bound (bound kind line e.cycle e.set)) 0 why units
  bound_of is (fault.Bound b) units h = (ap (λ (n : ℕ). fault.Bound n) h.1, h.3)
  bound_of is fault.Mode units h = let q : e.why ≡ why.Branch h.0.0 h.0.1 = h.0.2.0 in absurd (cc)
  bound_of is fault.Most units h = let q : e.why ≡ why.Branch h.0.0 h.0.1 = h.0.2.0 in absurd (cc)
  bound_of is (fault.Cite x) units h = elim h.0 [
    | inl b ↦ (let q : e.why ≡ why.Branch b.0 b.1 = b.2.0 in absurd (cc))
    | inr s ↦ (let q : e.why ≡ why.Swap s.0 s.1 s.2 = s.3.0 in absurd (cc))
  ]
  bound_of is (fault.Uncovered load) units h = let q : e.why ≡ why.Branch h.0 h.1 = h.2.0 in absurd (cc)
  bound_of is fault.Spare units h = let q : e.why ≡ why.Branch h.0 h.1 = h.2.0 in absurd (cc)
  bound_of is fault.Swap units h = let q : e.why ≡ why.Swap h.0.0 h.0.1 h.0.2 = h.0.3.0 in absurd (cc)
  bound_of is fault.Pairs units h = let q : e.why ≡ why.Pairs h.0.0 = h.0.1.0 in absurd (cc)

  -- the test of a Swap
  swap_of : (cite out into : ℕ) → e.why ≡ why.Swap cite out into → (why : EntryFault) (units : ℕ)
      → Fails kind line earlier e why units
      → ((cite < length earlier → ⊥) × Is (fault.Cite cite) 0 why units)
      ⊎ ((cite < length earlier) × Is fault.Swap 0 why units)
  swap_of cite out into is (fault.Bound b) units h = let q : e.why ≡ why.Bound = h.0 in absurd (cc)
  swap_of cite out into is fault.Mode units h = let q : e.why ≡ why.Branch h.0.0 h.0.1 = h.0.2.0 in absurd (cc)
  swap_of cite out into is fault.Most units h = let q : e.why ≡ why.Branch h.0.0 h.0.1 = h.0.2.0 in absurd (cc)
  swap_of cite out into is (fault.Cite x) units h = elim h.0 [
    | inl b ↦ (let q : e.why ≡ why.Branch b.0 b.1 = b.2.0 in absurd (cc))
    | inr s ↦ (
        let p : (cite ≡ x) × (length earlier ≤ x) = swap_is (λ c o i. (c ≡ x) × (length earlier ≤ x)) cite out into is
        s in
        inl (λ l. omega (arith, l, p.0, p.1), (ap (λ (n : ℕ). fault.Cite n) (sym p.0), h.1))
        )
  ]
  swap_of cite out into is (fault.Uncovered load) units h = let q : e.why ≡ why.Branch h.0 h.1 = h.2.0 in absurd (cc)
  swap_of cite out into is fault.Spare units h = let q : e.why ≡ why.Branch h.0 h.1 = h.2.0 in absurd (cc)
  swap_of cite out into is fault.Swap units h =
      let s : Swaps e (λ c o i. c < length earlier) = (h.0.0, h.0.1, h.0.2, (h.0.3.0, h.0.3.1.0)) in
      inr (swap_is (λ c o i. c < length earlier) cite out into is s, (refl, h.1))
  swap_of cite out into is fault.Pairs units h = let q : e.why ≡ why.Pairs h.0.0 = h.0.1.0 in absurd (cc)

  pairs_of : (two : List Bool) → e.why ≡ why.Pairs two → (why : EntryFault) (units : ℕ)
      → Fails kind line earlier e why units → Is fault.Pairs 0 why units
  pairs_of two is (fault.Bound b) units h = let q : e.why ≡ why.Bound = h.0 in absurd (cc)
  pairs_of two is fault.Mode units h = let q : e.why ≡ why.Branch h.0.0 h.0.1 = h.0.2.0 in absurd (cc)
  pairs_of two is fault.Most units h = let q : e.why ≡ why.Branch h.0.0 h.0.1 = h.0.2.0 in absurd (cc)
  pairs_of two is (fault.Cite x) units h = elim h.0 [
    | inl b ↦ (let q : e.why ≡ why.Branch b.0 b.1 = b.2.0 in absurd (cc))
    | inr s ↦ (let q : e.why ≡ why.Swap s.0 s.1 s.2 = s.3.0 in absurd (cc))
  ]
  pairs_of two is (fault.Uncovered load) units h = let q : e.why ≡ why.Branch h.0 h.1 = h.2.0 in absurd (cc)
  pairs_of two is fault.Spare units h = let q : e.why ≡ why.Branch h.0 h.1 = h.2.0 in absurd (cc)
  pairs_of two is fault.Swap units h = let q : e.why ≡ why.Swap h.0.0 h.0.1 h.0.2 = h.0.3.0 in absurd (cc)
  pairs_of two is fault.Pairs units h = (refl, h.1)

  -- one entry has one fault
  fault_one : (w : Why) → e.why ≡ w → (a b : EntryFault) (m n : ℕ) → Fails kind line earlier e a m
      → Fails kind line earlier e b n → (a ≡ b) × (m ≡ n)
  fault_one why.Bound is a b m n p q = is_one (fault.Bound (bound kind line e.cycle e.set)) 0 a b m n
      (bound_of is a m p) (bound_of is b n q)
  fault_one (why.Branch mode cites) is a b m n p q = tests_one mode cites a b m n (tests_of mode cites is a m p)
      (tests_of mode cites is b n q)
  fault_one (why.Swap cite out into) is a b m n p q =
      same_end (swap_of cite out into is a m p) (swap_of cite out into is b n q) (is_one (fault.Cite cite) 0 a b m n)
      (is_one fault.Swap 0 a b m n)
  fault_one (why.Pairs two) is a b m n p q = is_one fault.Pairs 0 a b m n (pairs_of two is a m p) (pairs_of two is b n q)

  pub one_fault : (a b : EntryFault) (m n : ℕ) → Fails kind line earlier e a m → Fails kind line earlier e b n
      → (a ≡ b) × (m ≡ n)
  one_fault a b m n p q = fault_one e.why refl a b m n p q

  -- no fault is found within the steps where they end
  pub fault_in_time : (a : EntryFault) (m steps : ℕ) → Fails kind line earlier e a m → m ≤ steps
      → Ends kind line earlier e steps → ⊥
  fault_in_time a m steps p few h =
      let mode : Mode = h.0 in
      let cites : List ℕ = h.1 in
      let r : IsReady kind earlier e mode cites = h.2.1.0 in
      elim (tests_of mode cites h.2.0 a m p) [
        | inl x ↦ x.0 r.belongs
        | inr y ↦ elim y.1 [
          | inl x ↦ x.0 (r.stations, r.some)
          | inr z ↦ elim z.1 [
            | inl x ↦ x.0 r.below
            | inr w ↦ fails_in_time line (IsLoad line e.cycle mode e.set) (IsOpen kind line e.cycle mode e.set e.most)
                (λ k p. p.load) (three_ways line ranked e.cycle mode e.set) earlier e.set e.most e.cycle cites
                w.1.0 m steps w.1.1.1 few h.2.1.1
          ]
        ]
      ]

  units_one : (m n : ℕ) → UnitsBy line e e.why m → UnitsBy line e e.why n → m ≡ n
  units_one m n p q = entries_same line (e ∷ []) m n (m, 0, (p, refl, omega arith)) (n, 0, (q, refl, omega arith))

  pub found_one : (steps : ℕ) (v w : Checked EntryFault) → IsFound kind line earlier e steps v
      → IsFound kind line earlier e steps w → v ≡ w
  found_one steps (found.Right m) (found.Right n) p q = ap (λ (z : ℕ). found.Right z) (units_one m n p.1 q.1)
  found_one steps (found.Right m) (found.Fails b n) p q = absurd (not_follows kind line earlier e b n q.0 p.0)
  found_one steps (found.Right m) found.StepsEnded p q = absurd
      (omega (arith, p.2, ends_more kind line earlier e steps m q p.1))
  found_one steps (found.Fails a m) (found.Right n) p q = absurd (not_follows kind line earlier e a m p.0 q.0)
  found_one steps (found.Fails a m) (found.Fails b n) p q =
      let s : (a ≡ b) × (m ≡ n) = one_fault a b m n p.0 q.0 in
      let x : a ≡ b = s.0 in
      let y : m ≡ n = s.1 in
      cc
  found_one steps (found.Fails a m) found.StepsEnded p q = absurd (fault_in_time a m steps p.0 p.1 q)
  found_one steps found.StepsEnded (found.Right n) p q = absurd
      (omega (arith, q.2, ends_more kind line earlier e steps n p q.1))
  found_one steps found.StepsEnded (found.Fails b n) p q = absurd (fault_in_time b n steps q.0 q.1 p)
  found_one steps found.StepsEnded found.StepsEnded p q = refl

  pub checked_one : (steps : ℕ) (v w : EntryChecked) → IsChecked kind line earlier e steps v
      → IsChecked kind line earlier e steps w → v ≡ w
  checked_one steps (checked.Right m) (checked.Right n) p q = ap (λ (z : ℕ). checked.Right z) (units_one m n p.1 q.1)
  checked_one steps (checked.Right m) (checked.Fails n) p q = absurd (q.0 p.0)
  checked_one steps (checked.Right m) checked.StepsEnded p q =
      absurd (omega (arith, p.2, ends_more kind line earlier e steps m q p.1))
  checked_one steps (checked.Fails m) (checked.Right n) p q = absurd (p.0 q.0)
  checked_one steps (checked.Fails m) (checked.Fails n) p q =
      ap (λ (z : ℕ). checked.Fails z) (one_fault p.1 q.1 m n p.2 q.2).1
  checked_one steps (checked.Fails m) checked.StepsEnded p q = absurd (fault_in_time p.1 m steps p.2 p.3 q)
  checked_one steps checked.StepsEnded (checked.Right n) p q =
      absurd (omega (arith, q.2, ends_more kind line earlier e steps n p q.1))
  checked_one steps checked.StepsEnded (checked.Fails n) p q = absurd (fault_in_time q.1 n steps q.2 q.3 p)
  checked_one steps checked.StepsEnded checked.StepsEnded p q = refl

module _ (kind : LineKind) (line : Line) (ranked : IsRanked line) (es : List Entry) (steps : ℕ) where
  -- an entry below one that is refused, or that the steps end at, follows
  follows_below : (k at units : ℕ) (e : Entry) (why : EntryFault) (m : ℕ) → k < at → AreRightBelow kind line es at units
      → slice_get es k ≡ Some e → Fails kind line (take k es) e why m → ⊥
  follows_below k at units e why m less b there f = not_follows kind line (take k es) e why m f
      (b.follow k e less there)

  refused_here : (k : ℕ) (a b : EntryFault) → IsRefusedAt kind line es steps k a → IsRefusedAt kind line es steps k b
      → a ≡ b
  refused_here k a b p q =
      let P : Entry → Type 0 = λ z. Fails kind line (take k es) z a p.more in
      (one_fault kind line ranked (take k es) q.entry a b p.more q.more
      (subst P (same_Some p.entry q.entry (sym p.there ∙ q.there)) p.fails) q.fails).0

  pub one_refused : (j k : ℕ) (a b : EntryFault) → IsRefusedAt kind line es steps j a
      → IsRefusedAt kind line es steps k b → (j ≡ k) × (a ≡ b)
  one_refused j k a b p q = elim (cases_order j k) [
    | inl s ↦ (let P : ℕ → Type 0 = λ z. IsRefusedAt kind line es steps z a in (s, refused_here k a b (subst P s p) q))
    | inr d ↦ elim d [
      | inl less ↦ absurd (follows_below j k q.units p.entry a p.more less q.below p.there p.fails)
      | inr more ↦ absurd (follows_below k j p.units q.entry b q.more more p.below q.there q.fails)
    ]
  ]

  -- an entry that is refused within the steps comes before the one that the steps end at
  ends_here : (k : ℕ) (a : EntryFault) → IsRefusedAt kind line es steps k a → (units : ℕ) (e : Entry)
      → UnitsOf line (take k es) units → slice_get es k ≡ Some e → Ends kind line (take k es) e (steps - units) → ⊥
  ends_here k a p units e sum there h =
      let P : Entry → Type 0 = λ z. Fails kind line (take k es) z a p.more in
      let same : p.units ≡ units = entries_same line (take k es) p.units units p.below.sum sum in
      fault_in_time kind line ranked (take k es) e a p.more (steps - units)
      (subst P (same_Some p.entry e (sym p.there ∙ there)) p.fails) (omega (arith, p.few, same)) h

  pub refused_in_time : (k : ℕ) (a : EntryFault) → IsRefusedAt kind line es steps k a → AreStepsEnded kind line es steps
      → ⊥
  refused_in_time k a p h = elim (cases_order k h.at) [
    | inl s ↦ (
        let P : ℕ → Type 0 = λ z. IsRefusedAt kind line es steps z a in
        ends_here h.at a (subst P s p) h.units h.entry h.below.sum h.there h.ends
        )
    | inr d ↦ elim d [
      | inl less ↦ follows_below k h.at h.units p.entry a p.more less h.below p.there p.fails
      | inr more ↦ (
          let U : List Entry → Type 0 = λ z. UnitsOf line z h.units in
          let r : (b : ℕ) × (UnitsBy line h.entry h.entry.why b × (h.units + b ≤ p.units)) =
          units_at line (take k es) h.at h.entry h.units p.units (get_taken es k h.at h.entry more h.there)
          (subst U (sym (take-take h.at k es (omega (arith, more)))) h.below.sum) p.below.sum in
          omega (
            arith,
            r.1.1,
            h.few,
            p.few,
            ends_more kind line (take h.at es) h.entry (steps - h.units) r.0 h.ends
                r.1.0,
          )
          )
    ]
  ]

  pub list_one : (v w : ListFound) → AreFound kind line es steps v → AreFound kind line es steps w → v ≡ w
  list_one (list.Right m) (list.Right n) p q = ap (λ (z : ℕ). list.Right z) (entries_same line es m n p.1 q.1)
  list_one (list.Right m) (list.Refused k b) p q = absurd (refused_not kind line es steps k b q p.0)
  list_one (list.Right m) list.StepsEnded p q = absurd (omega (arith, p.2, entries_more kind line es steps m q p.1))
  list_one (list.Refused j a) (list.Right n) p q = absurd (refused_not kind line es steps j a p q.0)
  list_one (list.Refused j a) (list.Refused k b) p q =
      let s : (j ≡ k) × (a ≡ b) = one_refused j k a b p q in
      let x : j ≡ k = s.0 in
      let y : a ≡ b = s.1 in
      cc
  list_one (list.Refused j a) list.StepsEnded p q = absurd (refused_in_time j a p q)
  list_one list.StepsEnded (list.Right n) p q = absurd (omega (arith, q.2, entries_more kind line es steps n p q.1))
  list_one list.StepsEnded (list.Refused k b) p q = absurd (refused_in_time k b q p)
  list_one list.StepsEnded list.StepsEnded p q = refl
