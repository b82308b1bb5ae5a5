-- Loads, full loads and open loads by tests, and with them the lists of loads.
use Rattle.std.proofs.Common.{◌≡◌, ℕ, zero, suc, ◌+◌, ◌-◌, ◌*◌, ◌<◌, ◌≤◌, Bool, true, false, cond, ◌&&◌, ◌||◌, not}
use Rattle.std.proofs.Common.{nat_lt, List, refl, sym, ap, ◌∙◌, inl, inr, arith}
use Rattle.std.specs.Prelude.{nat_le}
use Rattle.std.proofs.lemmas.Bool.{cases_eq, cases_Bool, false≢true, and_parts, and_from, or_left, or_right, not-true}
use Rattle.std.proofs.lemmas.Bool.{not_from_false, false_from_ne_true, ltb-true, lt-ltb, le-leb, leb-true}
use Rattle.line_instance.specs.Truths.{In}
use Rattle.line_instance.proofs.Members.{In-union_cases}
use Rattle.line_instance.specs.Line.{Line, IsTaskSet, IsRanked, tasks, has, at_rank, is_before, is_apart}
use Rattle.line_instance.specs.Sums.{sum_where}
use Rattle.line_rules.specs.Loads.{IsLoad, IsFull, Suits, taken, rest, with_front, with_back}
use Rattle.line_rules.specs.Order.{Lists}
use Rattle.line_rules.specs.Bounds.{bound}
use Rattle.line_rules.specs.Entries.{IsOpen}
use Rattle.line_rules.specs.declared.types.LineKind.{LineKind}
use Rattle.line_rules.specs.declared.types.Mode.{Mode}
use Rattle.line_rules.specs.declared.types.Mode.TheVariants.{Fore, Back, Both}
use Rattle.line_rules.specs.declared.types.Load.{Load}
use Rattle.line_rules.proofs.LoadLists.{IsPair, Agrees, pick, spread, nothing, listed, front_truth, back_truth}
use Rattle.line_rules.proofs.LoadLists.{nothing_false, with_task}

-- a test of all numbers below n, and one for some number below n
abbrev pub every : ℕ → (ℕ → Bool) → Bool
every zero p = true
every (suc n) p = p n && every n p

abbrev pub any : ℕ → (ℕ → Bool) → Bool
any zero p = false
any (suc n) p = p n || any n p

every_is : (n : ℕ) (p : ℕ → Bool) → every n p ≡ true → (i : ℕ) → i < n → p i ≡ true
every_is zero p h i l = absurd (omega arith)
every_is (suc n) p h i l =
    let q : (p n ≡ true) × (every n p ≡ true) = and_parts (p n) (every n p) h in
    elim (cases_eq i n) [ inl e ↦ (ap p e ∙ q.0) | inr d ↦ every_is n p q.1 i (omega (arith, d, l)) ]

every_so : (n : ℕ) (p : ℕ → Bool) → ((i : ℕ) → i < n → p i ≡ true) → every n p ≡ true
every_so zero p h = refl
every_so (suc n) p h = and_from (p n) (every n p) (h n (omega arith)) (every_so n p (λ i l. h i (omega arith)))

any_is : (n : ℕ) (p : ℕ → Bool) → any n p ≡ true → (i : ℕ) × (p i ≡ true)
any_is zero p h = absurd (false≢true h)
any_is (suc n) p h = elim (cases_Bool (p n)) [
  | inl t ↦ (n, t)
  | inr f ↦
      any_is n p (sym (ap (λ b. b || any n p) f) ∙ h)
]

any_so : (n : ℕ) (p : ℕ → Bool) (i : ℕ) → i < n → p i ≡ true → any n p ≡ true
any_so zero p i l h = absurd (omega arith)
any_so (suc n) p i l h = elim (cases_eq i n) [
  | inl e ↦ or_left (p n) (any n p) (sym (ap p e) ∙ h)
  | inr d ↦ or_right (p n) (any n p) (any_so n p i (omega (arith, d, l)) h)
]

-- b where a
abbrev pub where_so : Bool → Bool → Bool
where_so a b = cond a b true

where_is : (a b : Bool) → where_so a b ≡ true → a ≡ true → b ≡ true
where_is true b h e = h
where_is false b h e = absurd (false≢true e)

so_where : (a b : Bool) → (a ≡ true → b ≡ true) → where_so a b ≡ true
so_where true b h = h refl
so_where false b h = refl

-- the tests of the fields of a load
abbrev pub suits : ℕ → Mode → Load → Bool
suits n Fore l = every n (λ i. not (has l.back i))
suits n Back l = every n (λ i. not (has l.front i))
suits n Both l = true

abbrev pub is_load : Line → ℕ → Mode → List Bool → Load → Bool
is_load line c mode R l =
    suits (tasks line) mode l
    && (every (tasks line) (λ i. where_so (has (taken l) i) (has R i))
    && (every (tasks line) (λ i. where_so (has l.front i) (not (has l.back i)))
    && (any (tasks line) (λ i. has (taken l) i)
    && (nat_le (sum_where (has (taken l)) line.times) c
    && (every (tasks line) (λ i. where_so (has (taken l) i)
    (every (tasks line) (λ j. where_so (has (taken l) j) (not (is_apart line i j)))))
    && (every (tasks line) (λ i. where_so (has R i) (every (tasks line)
    (λ j. where_so (has l.front j) (where_so (is_before line i j) (has l.front i)))))
    && every (tasks line) (λ i. where_so (has l.back i) (every (tasks line)
    (λ j. where_so (has R j) (where_so (is_before line i j) (has l.back j)))))))))))

abbrev pub is_full : Line → ℕ → Mode → List Bool → Load → Bool
is_full line c mode R l =
    every (tasks line) (λ i. where_so (has R i) (where_so (not (has (taken l) i))
    (not (is_load line c mode R (with_front l i)) && not (is_load line c mode R (with_back l i)))))

abbrev pub is_open : LineKind → Line → ℕ → Mode → List Bool → ℕ → Load → Bool
is_open kind line c mode R most l = is_load line c mode R l
    && (is_full line c mode R l && nat_lt (bound kind line c (rest R l)) most)

empty_is : (n : ℕ) (s : List Bool) → ((i : ℕ) → In s i → i < n) → every n (λ i. not (has s i)) ≡ true → (i : ℕ) → In s i
    → ⊥
empty_is n s within h i m = false≢true (sym (not-true (has s i) (every_is n (λ i. not (has s i)) h i (within i m))) ∙ m)

empty_so : (n : ℕ) (s : List Bool) → ((i : ℕ) → In s i → ⊥) → every n (λ i. not (has s i)) ≡ true
empty_so n s h = every_so n (λ i. not (has s i)) (λ i l. not_from_false (has s i)
    (false_from_ne_true (has s i) (λ t. h i t)))

pub not_true : (b : Bool) → (b ≡ true → ⊥) → not b ≡ true
not_true b h = not_from_false b (false_from_ne_true b h)

module _ (line : Line) (small : tasks line ≤ 1024) (ranked : IsRanked line) (c : ℕ) (R : List Bool)
    (set : IsTaskSet line R) where
  taken_task : (l : Load) → IsPair line l → (i : ℕ) → In (taken l) i → i < tasks line
  taken_task l p i m = elim (In-union_cases l.front l.back i m) [ inl f ↦ p.front.tasks i f | inr b ↦ p.back.tasks i b ]

  suits_is : (mode : Mode) (l : Load) → IsPair line l → suits (tasks line) mode l ≡ true → Suits mode l
  suits_is Fore l p h = empty_is (tasks line) l.back p.back.tasks h
  suits_is Back l p h = empty_is (tasks line) l.front p.front.tasks h
  suits_is Both l p h = tt

  suits_so : (mode : Mode) (l : Load) → Suits mode l → suits (tasks line) mode l ≡ true
  suits_so Fore l h = empty_so (tasks line) l.back h
  suits_so Back l h = empty_so (tasks line) l.front h
  suits_so Both l h = refl

  pub load_is : (mode : Mode) (l : Load) → IsPair line l → is_load line c mode R l ≡ true → IsLoad line c mode R l
  load_is mode l p h =
      let b1 : Bool = suits (tasks line) mode l in
      let b2 : Bool = every (tasks line) (λ i. where_so (has (taken l) i) (has R i)) in
      let b3 : Bool = every (tasks line) (λ i. where_so (has l.front i) (not (has l.back i))) in
      let b4 : Bool = any (tasks line) (λ i. has (taken l) i) in
      let b5 : Bool = nat_le (sum_where (has (taken l)) line.times) c in
      let b6 : Bool = every (tasks line) (λ i. where_so (has (taken l) i)
      (every (tasks line) (λ j. where_so (has (taken l) j) (not (is_apart line i j))))) in
      let b7 : Bool = every (tasks line) (λ i. where_so (has R i)
      (every (tasks line) (λ j. where_so (has l.front j) (where_so (is_before line i j) (has l.front i))))) in
      let b8 : Bool = every (tasks line) (λ i. where_so (has l.back i)
      (every (tasks line) (λ j. where_so (has R j) (where_so (is_before line i j) (has l.back j))))) in
      let q1 : (b1 ≡ true) × ((b2 && (b3 && (b4 && (b5 && (b6 && (b7 && b8)))))) ≡ true) =
      and_parts b1 (b2 && (b3 && (b4 && (b5 && (b6 && (b7 && b8)))))) h in
      let q2 : (b2 ≡ true) × ((b3 && (b4 && (b5 && (b6 && (b7 && b8))))) ≡ true) =
      and_parts b2 (b3 && (b4 && (b5 && (b6 && (b7 && b8))))) q1.1 in
      let q3 : (b3 ≡ true) × ((b4 && (b5 && (b6 && (b7 && b8)))) ≡ true) =
      and_parts b3 (b4 && (b5 && (b6 && (b7 && b8)))) q2.1 in
      let q4 : (b4 ≡ true) × ((b5 && (b6 && (b7 && b8))) ≡ true) = and_parts b4 (b5 && (b6 && (b7 && b8))) q3.1 in
      let q5 : (b5 ≡ true) × ((b6 && (b7 && b8)) ≡ true) = and_parts b5 (b6 && (b7 && b8)) q4.1 in
      let q6 : (b6 ≡ true) × ((b7 && b8) ≡ true) = and_parts b6 (b7 && b8) q5.1 in
      let q7 : (b7 ≡ true) × (b8 ≡ true) = and_parts b7 b8 q6.1 in
      record {
        front = p.front;
        back = p.back;
        suits = suits_is mode l p q1.0;
        within = λ i m. where_is (has (taken l) i) (has R i)
            (every_is (tasks line) (λ i. where_so (has (taken l) i) (has R i)) q2.0 i (taken_task l p i m)) m;
        disjoint = λ i f b. false≢true (sym (not-true (has l.back i)
            (where_is (has l.front i) (not (has l.back i)) (every_is (tasks line)
            (λ i. where_so (has l.front i) (not (has l.back i))) q3.0 i (p.front.tasks i f)) f)) ∙ b);
        some = any_is (tasks line) (λ i. has (taken l) i) q4.0;
        fits = leb-true (sum_where (has (taken l)) line.times) c q5.0;
        parted = λ i j a b e.
            let x : every (tasks line) (λ j. where_so (has (taken l) j) (not (is_apart line i j))) ≡ true =
            where_is (has (taken l) i) (every (tasks line) (λ j. where_so (has (taken l) j) (not (is_apart line i j))))
            (every_is (tasks line) (λ i. where_so (has (taken l) i)
            (every (tasks line) (λ j. where_so (has (taken l) j) (not (is_apart line i j))))) q6.0 i
            (taken_task l p i a)) a in
            false≢true (sym (not-true (is_apart line i j) (where_is (has (taken l) j) (not (is_apart line i j))
            (every_is (tasks line) (λ j. where_so (has (taken l) j) (not (is_apart line i j))) x j
            (taken_task l p j b)) b)) ∙ e);
        before = λ i j a b e.
            let x : every (tasks line) (λ j. where_so (has l.front j) (where_so (is_before line i j) (has l.front i)))
            ≡ true =
            where_is (has R i) (every (tasks line) (λ j. where_so (has l.front j)
            (where_so (is_before line i j) (has l.front i))))
            (every_is (tasks line) (λ i. where_so (has R i)
            (every (tasks line) (λ j. where_so (has l.front j) (where_so (is_before line i j) (has l.front i)))))
            q7.0 i (set.tasks i a)) a in
            where_is (is_before line i j) (has l.front i) (where_is (has l.front j)
            (where_so (is_before line i j) (has l.front i))
            (every_is (tasks line) (λ j. where_so (has l.front j) (where_so (is_before line i j) (has l.front i))) x
            j (p.front.tasks j b)) b) e;
        after = λ i j a b e.
            let x : every (tasks line) (λ j. where_so (has R j) (where_so (is_before line i j) (has l.back j))) ≡ true =
            where_is (has l.back i) (every (tasks line) (λ j.
            where_so (has R j) (where_so (is_before line i j) (has l.back j))))
            (every_is (tasks line) (λ i. where_so (has l.back i)
            (every (tasks line) (λ j. where_so (has R j) (where_so (is_before line i j) (has l.back j))))) q7.1 i
            (p.back.tasks i a)) a in
            where_is (is_before line i j) (has l.back j) (where_is (has R j)
            (where_so (is_before line i j) (has l.back j))
            (every_is (tasks line) (λ j. where_so (has R j) (where_so (is_before line i j) (has l.back j))) x j
            (set.tasks j b)) b) e;
      }

  pub load_so : (mode : Mode) (l : Load) → IsLoad line c mode R l → is_load line c mode R l ≡ true
  load_so mode l f =
      let p : IsPair line l = record { front = f.front; back = f.back } in
      let b2 : Bool = every (tasks line) (λ i. where_so (has (taken l) i) (has R i)) in
      let b3 : Bool = every (tasks line) (λ i. where_so (has l.front i) (not (has l.back i))) in
      let b4 : Bool = any (tasks line) (λ i. has (taken l) i) in
      let b5 : Bool = nat_le (sum_where (has (taken l)) line.times) c in
      let b6 : Bool = every (tasks line) (λ i. where_so (has (taken l) i)
      (every (tasks line) (λ j. where_so (has (taken l) j) (not (is_apart line i j))))) in
      let b7 : Bool = every (tasks line) (λ i. where_so (has R i)
      (every (tasks line) (λ j. where_so (has l.front j) (where_so (is_before line i j) (has l.front i))))) in
      let b8 : Bool = every (tasks line) (λ i. where_so (has l.back i)
      (every (tasks line) (λ j. where_so (has R j) (where_so (is_before line i j) (has l.back j))))) in
      and_from (suits (tasks line) mode l) (b2 && (b3 && (b4 && (b5 && (b6 && (b7 && b8)))))) (suits_so mode l f.suits)
      (and_from b2 (b3 && (b4 && (b5 && (b6 && (b7 && b8)))))
      (every_so (tasks line) (λ i. where_so (has (taken l) i) (has R i))
      (λ i w. so_where (has (taken l) i) (has R i) (f.within i)))
      (and_from b3 (b4 && (b5 && (b6 && (b7 && b8)))) (every_so (tasks line)
      (λ i. where_so (has l.front i) (not (has l.back i)))
      (λ i w. so_where (has l.front i) (not (has l.back i)) (λ m. not_true (has l.back i) (f.disjoint i m))))
      (and_from b4 (b5 && (b6 && (b7 && b8))) (any_so (tasks line) (λ i. has (taken l) i) f.some.0
      (taken_task l p f.some.0 f.some.1) f.some.1)
      (and_from b5 (b6 && (b7 && b8)) (le-leb (sum_where (has (taken l)) line.times) c f.fits)
      (and_from b6 (b7 && b8) (every_so (tasks line) (λ i. where_so (has (taken l) i)
      (every (tasks line) (λ j. where_so (has (taken l) j) (not (is_apart line i j)))))
      (λ i w. so_where (has (taken l) i) (every (tasks line)
      (λ j. where_so (has (taken l) j) (not (is_apart line i j))))
      (λ m. every_so (tasks line) (λ j. where_so (has (taken l) j) (not (is_apart line i j)))
      (λ j v. so_where (has (taken l) j) (not (is_apart line i j))
      (λ k. not_true (is_apart line i j) (f.parted i j m k))))))
      (and_from b7 b8 (every_so (tasks line) (λ i. where_so (has R i)
      (every (tasks line) (λ j. where_so (has l.front j) (where_so (is_before line i j) (has l.front i)))))
      (λ i w. so_where (has R i) (every (tasks line) (λ j. where_so (has l.front j)
      (where_so (is_before line i j) (has l.front i))))
      (λ m. every_so (tasks line) (λ j. where_so (has l.front j) (where_so (is_before line i j) (has l.front i)))
      (λ j v. so_where (has l.front j) (where_so (is_before line i j) (has l.front i))
      (λ k. so_where (is_before line i j) (has l.front i) (f.before i j m k))))))
      (every_so (tasks line) (λ i. where_so (has l.back i) (every (tasks line)
      (λ j. where_so (has R j) (where_so (is_before line i j) (has l.back j)))))
      (λ i w. so_where (has l.back i) (every (tasks line) (λ j.
      where_so (has R j) (where_so (is_before line i j) (has l.back j))))
      (λ m. every_so (tasks line) (λ j. where_so (has R j) (where_so (is_before line i j) (has l.back j)))
      (λ j v. so_where (has R j) (where_so (is_before line i j) (has l.back j))
      (λ k. so_where (is_before line i j) (has l.back j) (f.after i j m k))))))))))))

  pub full_is : (mode : Mode) (l : Load) → is_full line c mode R l ≡ true → IsFull line c mode R l
  full_is mode l h =
      let x : (i : ℕ) → In R i → has (taken l) i ≡ false → (not (is_load line c mode R (with_front l i)) ≡ true)
      × (not (is_load line c mode R (with_back l i)) ≡ true) = λ i m o.
      and_parts (not (is_load line c mode R (with_front l i))) (not (is_load line c mode R (with_back l i)))
      (where_is (not (has (taken l) i)) (not (is_load line c mode R (with_front l i))
      && not (is_load line c mode R (with_back l i)))
      (where_is (has R i) (where_so (not (has (taken l) i))
      (not (is_load line c mode R (with_front l i)) && not (is_load line c mode R (with_back l i))))
      (every_is (tasks line) (λ i. where_so (has R i) (where_so (not (has (taken l) i))
      (not (is_load line c mode R (with_front l i)) && not (is_load line c mode R (with_back l i))))) h i
      (set.tasks i m)) m)
      (not_from_false (has (taken l) i) o)) in
      record {
        front = λ i m o f. false≢true (sym (not-true (is_load line c mode R (with_front l i)) (x i m o).0)
            ∙ load_so mode (with_front l i) f);
        back = λ i m o f. false≢true (sym (not-true (is_load line c mode R (with_back l i)) (x i m o).1)
            ∙ load_so mode (with_back l i) f);
      }

  pub full_so : (mode : Mode) (l : Load) → IsPair line l → IsFull line c mode R l → is_full line c mode R l ≡ true
  full_so mode l p f =
      every_so (tasks line) (λ i. where_so (has R i) (where_so (not (has (taken l) i))
      (not (is_load line c mode R (with_front l i)) && not (is_load line c mode R (with_back l i)))))
      (λ i w. so_where (has R i) (where_so (not (has (taken l) i))
      (not (is_load line c mode R (with_front l i)) && not (is_load line c mode R (with_back l i))))
      (λ m. so_where (not (has (taken l) i)) (not (is_load line c mode R (with_front l i))
      && not (is_load line c mode R (with_back l i)))
      (λ o. and_from (not (is_load line c mode R (with_front l i))) (not (is_load line c mode R (with_back l i)))
      (not_true (is_load line c mode R (with_front l i)) (λ t.
      f.front i m (not-true (has (taken l) i) o) (load_is mode (with_front l i)
      (record { front = with_task line small ranked l.front i w p.front; back = p.back }) t)))
      (not_true (is_load line c mode R (with_back l i)) (λ t.
      f.back i m (not-true (has (taken l) i) o) (load_is mode (with_back l i)
      (record { front = p.front; back = with_task line small ranked l.back i w p.back }) t))))))

  -- the places of the truths that a load of the mode may have
  abbrev pub first_place : Mode → ℕ
  first_place Fore = 0
  first_place Back = tasks line
  first_place Both = 0

  abbrev pub many_places : Mode → ℕ
  many_places Fore = tasks line
  many_places Back = tasks line
  many_places Both = 2 * tasks line

  places_within : (mode : Mode) → first_place mode + many_places mode ≤ 2 * tasks line
  places_within Fore = omega arith
  places_within Back = omega arith
  places_within Both = omega arith

  none_of : (s : List Bool) → ((i : ℕ) → In s i → ⊥) → (i : ℕ) → has s i ≡ false
  none_of s h i = false_from_ne_true (has s i) (λ t. h i t)

  -- a load of the mode has nothing at other places
  agrees : (mode : Mode) (l : Load) → IsLoad line c mode R l
      → Agrees line small ranked (first_place mode) (many_places mode) nothing l
  agrees Fore l f = record {
    pair = record { front = f.front; back = f.back };
    before = λ j x y. absurd (omega (arith, y));
    behind = λ j x y. back_truth line small ranked l j (omega (arith, y))
        ∙ (none_of l.back f.suits (at_rank line (2 * tasks line - 1 - j)) ∙ sym (nothing_false line small ranked j));
  }
  agrees Back l f = record {
    pair = record { front = f.front; back = f.back };
    before = λ j x y. front_truth line small ranked l j y ∙ (none_of l.front f.suits (at_rank line j)
        ∙ sym (nothing_false line small ranked j));
    behind = λ j x y. absurd (omega (arith, x, y));
  }
  agrees Both l f = record {
    pair = record { front = f.front; back = f.back };
    before = λ j x y. absurd (omega (arith, y));
    behind = λ j x y. absurd (omega (arith, x, y));
  }

  abbrev pub loads_of : Mode → List Load
  loads_of mode = pick (λ l. is_load line c mode R l) (spread line (first_place mode) (many_places mode) nothing)

  abbrev pub open_of : LineKind → Mode → ℕ → List Load
  open_of kind mode most = pick (λ l. is_open kind line c mode R most l)
      (spread line (first_place mode) (many_places mode) nothing)

  pub loads_listed : (mode : Mode) → Lists line (IsLoad line c mode R) (loads_of mode)
  loads_listed mode =
      listed line small ranked (first_place mode) (many_places mode) (places_within mode) (IsLoad line c mode R)
      (λ l. is_load line c mode R l) (load_is mode) (load_so mode) (agrees mode)

  abbrev pub full_of : Mode → List Load
  full_of mode = pick (λ l. is_load line c mode R l && is_full line c mode R l)
      (spread line (first_place mode) (many_places mode) nothing)

  pub full_listed : (mode : Mode) → Lists line (λ l. IsLoad line c mode R l × IsFull line c mode R l) (full_of mode)
  full_listed mode =
      listed line small ranked (first_place mode) (many_places mode) (places_within mode)
      (λ l. IsLoad line c mode R l × IsFull line c mode R l)
      (λ l. is_load line c mode R l && is_full line c mode R l)
      (λ l p h. (
        load_is mode l p (and_parts (is_load line c mode R l) (is_full line c mode R l) h).0,
        full_is mode l (and_parts (is_load line c mode R l) (is_full line c mode R l) h).1,
      ))
      (λ l f. and_from (is_load line c mode R l) (is_full line c mode R l) (load_so mode l f.0)
      (full_so mode l (record { front = f.0.front; back = f.0.back }) f.1))
      (λ l f. agrees mode l f.0)

  open_is : (kind : LineKind) (mode : Mode) (most : ℕ) (l : Load) → IsPair line l
      → is_open kind line c mode R most l ≡ true → IsOpen kind line c mode R most l
  open_is kind mode most l p h =
      let q : (is_load line c mode R l ≡ true) × ((is_full line c mode R l
      && nat_lt (bound kind line c (rest R l)) most) ≡ true) =
      and_parts (is_load line c mode R l) (is_full line c mode R l && nat_lt (bound kind line c (rest R l)) most)
      h in
      let r : (is_full line c mode R l ≡ true) × (nat_lt (bound kind line c (rest R l)) most ≡ true) =
      and_parts (is_full line c mode R l) (nat_lt (bound kind line c (rest R l)) most) q.1 in
      record {
        load = load_is mode l p q.0;
        full = full_is mode l r.0;
        bound = ltb-true (bound kind line c (rest R l)) most r.1;
      }

  open_so : (kind : LineKind) (mode : Mode) (most : ℕ) (l : Load) → IsOpen kind line c mode R most l
      → is_open kind line c mode R most l ≡ true
  open_so kind mode most l f =
      and_from (is_load line c mode R l) (is_full line c mode R l && nat_lt (bound kind line c (rest R l)) most)
      (load_so mode l f.load)
      (and_from (is_full line c mode R l) (nat_lt (bound kind line c (rest R l)) most)
      (full_so mode l (record { front = f.load.front; back = f.load.back }) f.full)
      (lt-ltb (bound kind line c (rest R l)) most f.bound))

  pub open_listed : (kind : LineKind) (mode : Mode) (most : ℕ)
      → Lists line (IsOpen kind line c mode R most) (open_of kind mode most)
  open_listed kind mode most =
      listed line small ranked (first_place mode) (many_places mode) (places_within mode)
      (IsOpen kind line c mode R most) (λ l. is_open kind line c mode R most l)
      (open_is kind mode most) (open_so kind mode most) (λ l f. agrees mode l f.load)
