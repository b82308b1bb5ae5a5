-- The kept partners of a task, one task after the other.
use Rattle.std.proofs.Common.{◌≡◌, ℕ, zero, suc, ◌+◌, ◌<◌, ◌≤◌, Bool, false, Some, List, [], ◌∷◌, length, set, take}
use Rattle.std.proofs.Common.{refl, sym, ap, ◌∙◌, subst, ◌⊎◌, inl, inr, arith}
use Rattle.std.specs.List.{slice_get}
use Rattle.std.proofs.Math.ListN.{length-set}
use Rattle.std.proofs.lemmas.List.{get_or-set_same, get_or-set_other, get_or-take, get_or_past, length-take-le}
use Rattle.std.proofs.lemmas.Bool.{cases_eq, cases_lt, false≢true}
use Rattle.std.proofs.lemmas.Option.{slice_get_within}
use Rattle.line_instance.specs.Truths.{In}
use Rattle.line_instance.specs.Line.{Line, tasks}
use Rattle.line_instance.specs.Walks.{at}
use Rattle.line_instance.specs.Partners.{IsPartner, AreKept}
use Rattle.line_instance.specs.inner.Inside.{kept_of, ArePartners, of_rows}
use Rattle.line_instance.specs.declared.partners.Kept.{Kept}

-- a set without one member
pub In-without : (s : List Bool) (i k : ℕ) → In s k → (k ≡ i → ⊥) → In (set s i false) k
In-without s i k m n = get_or-set_other s i k false false n ∙ m

pub In-without_parts : (s : List Bool) (i k : ℕ) → In (set s i false) k → In s k × (k ≡ i → ⊥)
In-without_parts s i k m =
    let gone : k ≡ i → ⊥ = λ e. (let P : ℕ → Type 0 = λ x. In (set s i false) x in elim (cases_lt i (length s)) [
      | inl l ↦ false≢true (sym (get_or-set_same s i false false l) ∙ subst P e m)
      | inr g ↦ false≢true (sym (get_or_past (set s i false) i false (omega (arith, length-set s i false)))
          ∙ subst P e m)
    ]) in
    (sym (get_or-set_other s i k false false gone) ∙ m, gone)

-- the kept partners below j
pub record IsKeeping (line : Line) (i : ℕ) (kept : Kept) (j : ℕ) : Type 0 where
  pub room : length kept.tasks ≡ 8
  pub few : kept.many ≤ 8
  pub rises : (k : ℕ) → k + 1 < kept.many → at kept.tasks k < at kept.tasks (k + 1)
  pub right : (k : ℕ) → k < kept.many → IsPartner line i (at kept.tasks k)
  pub below : (k : ℕ) → k < kept.many → at kept.tasks k < j
  pub first : (p : ℕ) → p < j → IsPartner line i p → ((k : ℕ) × (k < kept.many) × (at kept.tasks k ≡ p))
      ⊎ ((kept.many ≡ 8) × ((k : ℕ) → k < kept.many → at kept.tasks k < p))

pub none_kept : (line : Line) (i : ℕ) (kept : Kept) → length kept.tasks ≡ 8 → kept.many ≡ 0 → IsKeeping line i kept 0
none_kept line i kept l e = record {
  room = l;
  few = omega arith;
  rises = λ k h. absurd (omega arith);
  right = λ k h. absurd (omega arith);
  below = λ k h. absurd (omega arith);
  first = λ p h q. absurd (omega arith);
}

pub one_kept : (line : Line) (i : ℕ) (kept : Kept) (j : ℕ) → kept.many < 8 → IsPartner line i j
    → IsKeeping line i kept j → IsKeeping line i (record { tasks = set kept.tasks kept.many j; many = kept.many + 1 })
    (j + 1)
one_kept line i kept j room p f =
    let new : List ℕ = set kept.tasks kept.many j in
    let here : at new kept.many ≡ j = get_or-set_same kept.tasks kept.many j 0 (omega (arith, f.room)) in
    let there : (k : ℕ) → k < kept.many → at new k ≡ at kept.tasks k =
    λ k l. get_or-set_other kept.tasks kept.many k j 0 (λ e. omega arith) in
    let last : (k : ℕ) → k ≡ kept.many → at new k ≡ j = λ k e. ap (at new) e ∙ here in
    record {
      room = length-set kept.tasks kept.many j ∙ f.room;
      few = omega arith;
      rises = λ k l. elim (cases_lt (k + 1) kept.many) [
        | inl h ↦ omega (arith, there k (omega arith), there (k + 1) h, f.rises k h)
        | inr h ↦ omega (arith, there k (omega arith), last (k + 1) (omega arith), f.below k (omega arith))
      ];
      right = λ k l. let P : ℕ → Type 0 = λ x. IsPartner line i x in elim (cases_lt k kept.many) [
        | inl h ↦ subst P (sym (there k h)) (f.right k h)
        | inr h ↦ subst P (sym (last k (omega arith))) p
      ];
      below = λ k l. elim (cases_lt k kept.many) [
        | inl h ↦ omega (arith, there k h, f.below k h)
        | inr h ↦ omega (arith, last k (omega arith))
      ];
      first = λ q l r. elim (cases_eq q j) [
        | inl e ↦ inl (kept.many, omega arith, here ∙ sym e)
        | inr n ↦ elim (f.first q (omega arith) r) [
          | inl s ↦ inl (s.0, omega (arith, s.1), there s.0 s.1 ∙ s.2)
          | inr s ↦ absurd (omega (arith, s.0))
        ]
      ];
    }

pub same_kept : (line : Line) (i : ℕ) (kept : Kept) (j : ℕ) → (IsPartner line i j → 8 ≤ kept.many)
    → IsKeeping line i kept j → IsKeeping line i kept (j + 1)
same_kept line i kept j n f = record {
  room = f.room;
  few = f.few;
  rises = f.rises;
  right = f.right;
  below = λ k l. omega (arith, f.below k l);
  first = λ q l r. elim (cases_eq q j) [
    | inl e ↦ (let P : ℕ → Type 0 = λ x. IsPartner line i x in
        inr (omega (arith, n (subst P e r), f.few), λ k h. omega (arith, e, f.below k h)))
    | inr d ↦ f.first q (omega arith) r
  ];
}

pub all_kept : (line : Line) (i : ℕ) (kept : Kept) → IsKeeping line i kept (tasks line) → AreKept line i (kept_of kept)
all_kept line i kept f =
    let long : length (take kept.many kept.tasks) ≡ kept.many =
    length-take-le kept.many kept.tasks (omega (arith, f.room, f.few)) in
    let same : (k : ℕ) → k < kept.many → at (take kept.many kept.tasks) k ≡ at kept.tasks k =
    λ k l. get_or-take kept.many kept.tasks k 0 l in
    record {
      few = omega (arith, long, f.few);
      rises = λ k l. omega (
        arith,
        long,
        same k (omega (arith, long)),
        same (k + 1) (omega (arith, long)),
        f.rises k (omega (arith, long)),
      );
      right = λ k l. (let P : ℕ → Type 0 = λ x. IsPartner line i x in
          subst P (sym (same k (omega (arith, long)))) (f.right k (omega (arith, long))));
      first = λ q r. elim (f.first q r.task r) [
        | inl s ↦ inl (s.0, omega (arith, long, s.1), same s.0 s.1 ∙ s.2)
        | inr s ↦ inr (
          long ∙ s.0,
          λ k l. omega (
            arith,
            long,
            same k (omega (arith, long)),
            s.1 k (omega (arith, long)),
          ),
        )
      ];
    }

-- what stands where it was written, and elsewhere
written_at : (xs : List Kept) (i : ℕ) (v x : Kept) → slice_get (set xs i v) i ≡ Some x → v ≡ x
written_at [] i v x e = absurd (cc)
written_at (y ∷ ys) zero v x e = cc
written_at (y ∷ ys) (suc i) v x e = written_at ys i v x e

unwritten_at : (xs : List Kept) (i k : ℕ) (v x : Kept) → (k ≡ i → ⊥) → slice_get (set xs i v) k ≡ Some x
    → slice_get xs k ≡ Some x
unwritten_at [] i k v x n e = e
unwritten_at (y ∷ ys) zero zero v x n e = absurd (n refl)
unwritten_at (y ∷ ys) zero (suc k) v x n e = e
unwritten_at (y ∷ ys) (suc i) zero v x n e = e
unwritten_at (y ∷ ys) (suc i) (suc k) v x n e = unwritten_at ys i k v x (λ h. n (ap suc h)) e

-- the partners of the tasks below i are kept
pub record IsTabling (line : Line) (partners : List Kept) (i : ℕ) : Type 0 where
  pub many : length partners ≡ tasks line
  pub room : (k : ℕ) (kept : Kept) → k < i → slice_get partners k ≡ Some kept
      → (length kept.tasks ≡ 8) × (kept.many ≤ 8)
  pub right : (k : ℕ) (kept : Kept) → k < i → slice_get partners k ≡ Some kept → AreKept line k (kept_of kept)

pub none_tabled : (line : Line) (partners : List Kept) → length partners ≡ tasks line → IsTabling line partners 0
none_tabled line partners e = record {
  many = e;
  room = λ k kept l s. absurd (omega arith);
  right = λ k kept l s. absurd (omega arith);
}

pub one_tabled : (line : Line) (partners : List Kept) (i : ℕ) (new : Kept) → length new.tasks ≡ 8 → new.many ≤ 8
    → AreKept line i (kept_of new) → IsTabling line partners i → IsTabling line (set partners i new) (i + 1)
one_tabled line partners i new long few h f = record {
  many = length-set partners i new ∙ f.many;
  room = λ k kept l s. let P : Kept → Type 0 = λ x. (length x.tasks ≡ 8) × (x.many ≤ 8) in elim (cases_eq k i) [
    | inl e ↦ subst P (written_at partners i new kept (let S : ℕ
        → Type 0 = λ x. slice_get (set partners i new) x ≡ Some kept in subst S e s)) (long, few)
    | inr n ↦ f.room k kept (omega arith) (unwritten_at partners i k new kept n s)
  ];
  right = λ k kept l s. let P : Kept → Type 0 = λ x. AreKept line k (kept_of x) in let Q : ℕ
      → Type 0 = λ x. AreKept line x (kept_of new) in elim (cases_eq k i) [
        | inl e ↦ subst P (written_at partners i new kept (let S : ℕ
            → Type 0 = λ x. slice_get (set partners i new) x ≡ Some kept in subst S e s)) (subst Q (sym e) h)
        | inr n ↦ f.right k kept (omega arith) (unwritten_at partners i k new kept n s)
      ];
}

pub all_tabled : (line : Line) (partners : List Kept) → IsTabling line partners (tasks line) → ArePartners line partners
all_tabled line partners f = record {
  many = f.many;
  room = λ k kept s. f.room k kept (omega (arith, f.many, slice_get_within partners k kept s)) s;
  right = λ k kept s. f.right k kept (omega (arith, f.many, slice_get_within partners k kept s)) s;
}

-- partners don't ask for ranks
partner_along : (line : Line) (i j : ℕ) → IsPartner (of_rows line.times line.before line.apart) i j → IsPartner line i j
partner_along line i j p = record {
  task = p.task;
  other = p.other;
  no_longer = p.no_longer;
  before = p.before;
  after = p.after;
  apart = p.apart;
}

partner_back : (line : Line) (i j : ℕ) → IsPartner line i j → IsPartner (of_rows line.times line.before line.apart) i j
partner_back line i j p = record {
  task = p.task;
  other = p.other;
  no_longer = p.no_longer;
  before = p.before;
  after = p.after;
  apart = p.apart;
}

pub partners_along : (line : Line) (partners : List Kept) → ArePartners (of_rows line.times line.before line.apart)
    partners → ArePartners line partners
partners_along line partners f = record {
  many = f.many;
  room = f.room;
  right = λ i kept s.
      let a : AreKept (of_rows line.times line.before line.apart) i (kept_of kept) = f.right i kept s in
      record {
        few = a.few;
        rises = a.rises;
        right = λ k l. partner_along line i (at (kept_of kept) k) (a.right k l);
        first = λ j p. a.first j (partner_back line i j p);
      };
}
