-- Each kind of step keeps the rule of a tally.
use Rattle.std.proofs.Common.{◌≡◌, ℕ, suc, ◌+◌, ◌-◌, ◌%◌, ◌^◌, ◌<◌, ◌≤◌, Bool, true, false, cond, true≢false, List, []}
use Rattle.std.proofs.Common.{◌∷◌, ◌++◌, set, refl, sym, ap, ◌∙◌, subst, arith}
use Rattle.std.specs.Prelude.{nat_eq, slice_index, slice_set}
use Rattle.std.proofs.lemmas.Bool.Decides.{nat_tests}
use mathlib.Core.Option.{some, none}
use lib.ListN.{get_elem?}
use Rattle.atomic_table.specs.Table.{State, Act, Valid, stepped, carried_after, step, keeps, Allows, Splits, Joins}
use Rattle.atomic_table.specs.Table.{opening}
use Rattle.atomic_table.proofs.Lists.{set_else}
use Rattle.steal_pool.specs.Deques.{Tally, Fits, reported, IsTallied}
use Rattle.steal_pool.specs.Steps.{Mine, first_tally, no_tally, announced, reports, found_empty, Announces, Reports}
use Rattle.steal_pool.specs.Steps.{Looks, Settles, tally_left, tally_right, tally_both}
use Rattle.steal_pool.proofs.Sums.{sum_set, sum_last, sum_whole, each_set, each_last, each_one}

abbrev Room : Type 0
Room = State (Unit {0}) Tally

gone_of : Tally → ℕ
gone_of u = u.gone

one_more : (a r p : ℕ) → (a + r) % 2 ^ 64 ≡ p → p + 1 < 2 ^ 64 → ((a + 1) % 2 ^ 64 + r) % 2 ^ 64 ≡ p + 1
one_more a r p e l = omega arith

one_gone : (a r p : ℕ) → (a + r) % 2 ^ 64 ≡ p → ((a + (2 ^ 64 - 1)) % 2 ^ 64 + (r + 1)) % 2 ^ 64 ≡ p
one_gone a r p e = omega arith

none_left : (r p : ℕ) → (0 + r) % 2 ^ 64 ≡ p → p ≤ r
none_left r p e = omega arith

pub begins : IsTallied (opening (0 ∷ []) [] first_tally)
begins = record {
  left = 0;
  put = 0;
  owner = 0;
  word = refl;
  difference = refl;
  parts = refl;
  each = each_one (Fits 0 0 0) first_tally (record {
    boss = λ _. (refl, refl);
    mark = λ m. absurd (true≢false (sym m));
    idle = λ _. refl;
  });
}

-- more was reported
fits_more : (owner put gone more seat : ℕ) (v : Tally) → gone ≤ more → Fits owner put gone seat v
    → Fits owner put more seat v
fits_more owner put gone more seat v l f = record {
  boss = f.boss;
  mark = λ m. ((f.mark m).0, omega (arith, (f.mark m).1));
  idle = f.idle;
}

pub announces : (n id : ℕ) (v : Tally) (c : List (ℕ × Unit {0})) → v.boss ≡ true → 0 < v.parts → v.put + 1 < 2 ^ 64
    → Allows IsTallied n id (v, c) 0 (λ m. (m + 1) % 2 ^ 64) (Announces (step n 0 1 0 none) (v, c))
announces n id v c boss part few s k wide at small =
    let w : Tally = announced v in
    let mine = k.each id v at in
    let here = mine.boss boss in
    let same : reported (set s.views id w) ≡ reported s.views =
    omega (arith, sum_set (λ (u : Tally). u.gone) s.views id v w at) in (
      w,
      keeps,
      tt,
      record {
        left = (k.left + 1) % 2 ^ 64;
        put = suc k.put;
        owner = k.owner;
        word = ap (λ (l : List ℕ). slice_set l 0 ((slice_index l 0 + 1) % 2 ^ 64)) k.word;
        difference = ap (λ (r : ℕ). ((k.left + 1) % 2 ^ 64 + r) % 2 ^ 64) same
            ∙ omega (arith, one_more k.left (reported s.views) k.put k.difference (omega (arith, here.1)));
        parts = omega (arith, sum_set (λ (u : Tally). u.parts) s.views id v w at, k.parts);
        each = each_set (Fits k.owner (suc k.put) (reported (set s.views id w))) s.views id w
            (record {
              boss = λ _. (here.0, ap suc here.1);
              mark = λ m. absurd (true≢false (sym m));
              idle = λ z. absurd (omega arith);
            })
            (λ j u other e. let f = k.each j u e in let alone : u.boss ≡ true
            → ⊥ = λ b. other ((f.boss b).0 ∙ sym here.0) in
            record { boss = λ b. absurd (alone b); mark = λ m. absurd (alone (f.mark m).0); idle = f.idle });
      },
      refl,
    )

pub reports_one : (n id : ℕ) (v : Tally) (c : List (ℕ × Unit {0})) → 0 < v.parts
    → Allows IsTallied n id (v, c) 0 (λ m. (m + (2 ^ 64 - 1)) % 2 ^ 64) (Reports (step n 0 1 0 none) (v, c))
reports_one n id v c part s k wide at small =
    let w : Tally = reports v in
    let mine = k.each id v at in
    let more : reported (set s.views id w) ≡ reported s.views + 1 =
    omega (arith, sum_set (λ (u : Tally). u.gone) s.views id v w at) in (
      w,
      keeps,
      tt,
      record {
        left = (k.left + (2 ^ 64 - 1)) % 2 ^ 64;
        put = k.put;
        owner = k.owner;
        word = ap (λ (l : List ℕ). slice_set l 0 ((slice_index l 0 + (2 ^ 64 - 1)) % 2 ^ 64)) k.word;
        difference = ap (λ (r : ℕ). ((k.left + (2 ^ 64 - 1)) % 2 ^ 64 + r) % 2 ^ 64) more
            ∙ one_gone k.left (reported s.views) k.put k.difference;
        parts = omega (arith, sum_set (λ (u : Tally). u.parts) s.views id v w at, k.parts);
        each = each_set (Fits k.owner k.put (reported (set s.views id w))) s.views id w
            (record {
              boss = mine.boss;
              mark = λ m. ((mine.mark m).0, omega (arith, (mine.mark m).1, more));
              idle = λ z. absurd (omega arith);
            })
            (λ j u other e. fits_more k.owner k.put (reported s.views) (reported (set s.views id w)) j u
            (omega (arith, more)) (k.each j u e));
      },
      refl,
    )

-- a load, after which this seat knows w
loaded : (s : Room) (k : IsTallied s) (id : ℕ) (v w : Tally) → get_elem? s.views id ≡ some v → w.parts ≡ v.parts
    → w.gone ≡ v.gone → Fits k.owner k.put (reported s.views) id w
    → IsTallied (record {
      words = slice_set s.words 0 (slice_index s.words 0);
      homes = s.homes;
      views = slice_set s.views id w;
    })
loaded s k id v w at parts gone fits =
    let same : reported (set s.views id w) ≡ reported s.views =
    omega (arith, sum_set (λ (u : Tally). u.gone) s.views id v w at) in record {
      left = k.left;
      put = k.put;
      owner = k.owner;
      word = ap (λ (l : List ℕ). slice_set l 0 (slice_index l 0)) k.word;
      difference = ap (λ (r : ℕ). (k.left + r) % 2 ^ 64) same ∙ k.difference;
      parts = omega (arith, sum_set (λ (u : Tally). u.parts) s.views id v w at, k.parts);
      each = each_set (Fits k.owner k.put (reported (set s.views id w))) s.views id w
          (subst (λ (r : ℕ). Fits k.owner k.put r id w) (sym same) fits)
          (λ j u other e. subst (λ (r : ℕ). Fits k.owner k.put r j u) (sym same) (k.each j u e));
    }

pub looks : (n id : ℕ) (v : Tally) (c : List (ℕ × Unit {0}))
    → Allows IsTallied n id (v, c) 0 (λ m. m) (Looks (step n 0 0 0 none) (v, c))
looks n id v c s k wide at small = by (nat_eq (slice_index s.words 0) 0) refl
  where
    mine : Fits k.owner k.put (reported s.views) id v
    mine = k.each id v at

    by : (b : Bool) → nat_eq (slice_index s.words 0) 0 ≡ b → (w : Tally) × (a : Act (Unit {0})) × Valid s.homes c a
        × IsTallied (stepped s 0 (slice_index s.words 0) id c w a)
        × (◌≡◌ {A = Mine} (w, carried_after c a) (cond b (found_empty v) v, c))
    by true e =
        let zero_left : k.left ≡ 0 = sym (ap (λ (l : List ℕ). slice_index l 0) k.word) ∙ same_nat e in (
          found_empty v,
          keeps,
          tt,
          loaded s k id v (found_empty v) at refl refl (record {
            boss = mine.boss;
            mark = λ b. (
              b,
              none_left (reported s.views) k.put
                  (ap (λ (z : ℕ). (z + reported s.views) % 2 ^ 64) (sym zero_left) ∙ k.difference),
            );
            idle = mine.idle;
          }),
          refl,
        )
      where
        same_nat : nat_eq (slice_index s.words 0) 0 ≡ true → slice_index s.words 0 ≡ 0
        same_nat q = grind (arith, nat_tests)
    by false e = (v, keeps, tt, loaded s k id v v at refl refl mine, refl)

pub settles : (n id : ℕ) (v : Tally) (c : List (ℕ × Unit {0}))
    → Allows IsTallied n id (v, c) 0 (λ m. m) (Settles (step n 0 0 0 none) (v, c))
settles n id v c s k wide at small = (
  v,
  keeps,
  tt,
  loaded s k id v v at refl refl (k.each id v at),
  (
    refl,
    λ all mark.
        let r : reported s.views ≡ v.gone = sum_whole (λ (u : Tally). u.parts) (λ (u : Tally). u.gone) s.views id v at
        (k.parts ∙ sym all) (λ j u e z. (k.each j u e).idle z) in
        let f = k.each id v at in
        let m = f.mark mark in
        omega (arith, m.1, (f.boss m.0).1, r),
  ),
)

pub splits : (id : ℕ) (v : Tally) → 1 < v.parts → Splits IsTallied id v (tally_left v) (tally_right v)
splits id v two s k at =
    let l : Tally = tally_left v in
    let r : Tally = tally_right v in
    let vs : List Tally = set s.views id l in
    let mine = k.each id v at in
    let same : reported (vs ++ r ∷ []) ≡ reported s.views =
    omega (arith, sum_last (λ (u : Tally). u.gone) vs r, sum_set (λ (u : Tally). u.gone) s.views id v l at) in
    record {
      left = k.left;
      put = k.put;
      owner = k.owner;
      word = k.word;
      difference = ap (λ (z : ℕ). (k.left + z) % 2 ^ 64) same ∙ k.difference;
      parts = omega (
        arith,
        sum_last (λ (u : Tally). u.parts) vs r,
        sum_set (λ (u : Tally). u.parts) s.views id v l at,
        k.parts,
      );
      each = subst (λ (z : ℕ). (j : ℕ) (u : Tally) → get_elem? (vs ++ r ∷ []) j ≡ some u → Fits k.owner k.put z j u)
          (sym same)
          (each_last (Fits k.owner k.put (reported s.views)) vs r
          (λ j. record {
            boss = λ b. absurd (true≢false (sym b));
            mark = λ b. absurd (true≢false (sym b));
            idle = λ _. refl;
          })
          (each_set (Fits k.owner k.put (reported s.views)) s.views id l
          (record { boss = mine.boss; mark = mine.mark; idle = λ z. absurd (omega arith) })
          (λ j u other e. k.each j u e)));
    }

pub joins : (id other : ℕ) (v w : Tally) → Joins IsTallied id v other w (tally_both v w) no_tally
joins id other v w s k at apart there =
    let b : Tally = tally_both v w in
    let vs : List Tally = set s.views id b in
    let after : List Tally = set vs other no_tally in
    let mine = k.each id v at in
    let same : reported after ≡ reported s.views = omega (
      arith,
      sum_set (λ (u : Tally). u.gone) s.views id v b at,
      sum_set (λ (u : Tally). u.gone) vs other w no_tally there,
    ) in record {
      left = k.left;
      put = k.put;
      owner = k.owner;
      word = k.word;
      difference = ap (λ (z : ℕ). (k.left + z) % 2 ^ 64) same ∙ k.difference;
      parts = omega (
        arith,
        sum_set (λ (u : Tally). u.parts) s.views id v b at,
        sum_set (λ (u : Tally). u.parts) vs other w no_tally there,
        k.parts,
      );
      each = subst (λ (z : ℕ). (j : ℕ) (u : Tally) → get_elem? after j ≡ some u → Fits k.owner k.put z j u) (sym same)
          (each_set (Fits k.owner k.put (reported s.views)) vs other no_tally
          (record {
            boss = λ q. absurd (true≢false (sym q));
            mark = λ q. absurd (true≢false (sym q));
            idle = λ _. refl;
          })
          (λ j u far e. each_set (Fits k.owner k.put (reported s.views)) s.views id b
          (record {
            boss = mine.boss;
            mark = mine.mark;
            idle =
                λ z. omega (
                  arith,
                  mine.idle (omega arith),
                  (k.each other w
                      (sym (set_else s.views id other b apart) ∙ there)).idle (omega arith),
                );
          })
          (λ i y _ f. k.each i y f) j u e));
    }
