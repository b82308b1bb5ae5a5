-- Each kind of step keeps the rule of a deque.
use Rattle.std.proofs.Common.{◌≡◌, ℕ, ◌<◌, List, [], ◌∷◌, ◌++◌, set, refl, sym, ap, ◌∙◌, arith, ◌+◌}
use Rattle.std.specs.Prelude.{sum_by}
use mathlib.Core.Option.{some}
use lib.ListN.{get_elem?}
use Rattle.std.proofs.lemmas.List.Sums.{sum_by-append}
use Rattle.crossbeam_deque.specs.Tasks.{Pushes, Takes, Forks, Merges, Learns}
use Rattle.atomic_table.proofs.Lists.{set_else}
use Rattle.steal_pool.specs.declared.piece.Piece.{Piece}
use Rattle.steal_pool.specs.Deques.{Log, IsShared}
use Rattle.steal_pool.specs.Steps.{newcomer, nobody, pushed, taken, log_left, log_right, log_both, IsWhole}
use Rattle.steal_pool.proofs.Sums.{sum_set, sum_last, sum_whole, each_set, each_last, each_one}

abbrev Idle : ℕ → Log → Type 0
Idle j v = v.parts ≡ 0 → (v.own ≡ []) × (v.got ≡ [])

pub begins : IsShared [] (newcomer ∷ [])
begins = record {
  parts = refl;
  pieces = λ h. refl;
  idle = each_one Idle newcomer (λ none. absurd (omega arith));
}

-- A step of one pass, by which the deque holds `after`: where what it put and took weighs as the difference, the rule
-- stays.
stays : (port : ℕ) (v w : Log) (items after : List Piece) (views : List Log) → IsShared items views
    → get_elem? views port ≡ some v → 0 < v.parts → w.parts ≡ v.parts
    → ((h : Piece → ℕ) → sum_by h w.own + sum_by h v.got + sum_by h items
    ≡ sum_by h v.own + sum_by h w.got + sum_by h after) → IsShared after (set views port w)
stays port v w items after views k at part same weighs = record {
  parts = omega (arith, sum_set (λ (u : Log). u.parts) views port v w at, k.parts);
  pieces = λ h. omega (
    arith,
    k.pieces h,
    sum_set (λ (u : Log). sum_by h u.own) views port v w at,
    sum_set (λ (u : Log). sum_by h u.got) views port v w at,
    weighs h,
  );
  idle = each_set Idle views port w (λ none. absurd (omega arith)) (λ j u other e. k.idle j u e);
}

pub pushes : (port : ℕ) (v : Log) (xs : List Piece) → 0 < v.parts → Pushes IsShared port v xs (λ w. w ≡ pushed v xs)
pushes port v xs part items views k at =
    let weighs : (h : Piece → ℕ) → sum_by h (v.own ++ xs) + sum_by h v.got + sum_by h items
    ≡ sum_by h v.own + sum_by h v.got + sum_by h (items ++ xs) = λ h.
    omega (arith, sum_by-append h v.own xs, sum_by-append h items xs) in
    (pushed v xs, stays port v (pushed v xs) items (items ++ xs) views k at part refl weighs, refl)

pub takes : (port : ℕ) (v : Log) → 0 < v.parts → Takes IsShared port v 1 (λ xs w. w ≡ taken v xs)
takes port v part xs items views some_task one k at =
    let weighs : (h : Piece → ℕ) → sum_by h v.own + sum_by h v.got + sum_by h (xs ++ items)
    ≡ sum_by h v.own + sum_by h (v.got ++ xs) + sum_by h items = λ h.
    omega (arith, sum_by-append h v.got xs, sum_by-append h xs items) in
    (taken v xs, stays port v (taken v xs) (xs ++ items) items views k at part refl weighs, refl)

pub forks : (port : ℕ) (v : Log) → 1 < v.parts → Forks IsShared port v (log_left v) (log_right v)
forks port v two items views k at =
    let l : Log = log_left v in
    let r : Log = log_right v in
    let vs : List Log = set views port l in record {
      parts = omega (
        arith,
        sum_last (λ (u : Log). u.parts) vs r,
        sum_set (λ (u : Log). u.parts) views port v l at,
        k.parts,
      );
      pieces = λ h. omega (
        arith,
        k.pieces h,
        sum_last (λ (u : Log). sum_by h u.own) vs r,
        sum_last (λ (u : Log). sum_by h u.got) vs r,
        sum_set (λ (u : Log). sum_by h u.own) views port v l at,
        sum_set (λ (u : Log). sum_by h u.got) views port v l at,
      );
      idle = each_last Idle vs r (λ j none. absurd (omega arith))
          (each_set Idle views port l (λ none. absurd (omega arith)) (λ j u other e. k.idle j u e));
    }

pub merges : (port : ℕ) (v : Log) (other : ℕ) (w : Log) → Merges IsShared port v other w (log_both v w) nobody
merges port v other w items views k at apart there =
    let b : Log = log_both v w in
    let vs : List Log = set views port b in record {
      parts = omega (
        arith,
        sum_set (λ (u : Log). u.parts) views port v b at,
        sum_set (λ (u : Log). u.parts) vs other w nobody there,
        k.parts,
      );
      pieces = λ h. omega (
        arith,
        k.pieces h,
        sum_set (λ (u : Log). sum_by h u.own) views port v b at,
        sum_set (λ (u : Log). sum_by h u.got) views port v b at,
        sum_set (λ (u : Log). sum_by h u.own) vs other w nobody there,
        sum_set (λ (u : Log). sum_by h u.got) vs other w nobody there,
        sum_by-append h v.own w.own,
        sum_by-append h v.got w.got,
      );
      idle = each_set Idle vs other nobody (λ _. (refl, refl)) (λ j u far e. each_set Idle views port b
          (λ none.
          let x = k.idle port v at (omega arith) in
          let y = k.idle other w (sym (set_else views port other b apart) ∙ there) (omega arith) in
          ((λ i. x.0 i ++ y.0 i), (λ i. x.1 i ++ y.1 i)))
          (λ i y _ f. k.idle i y f) j u e);
    }

pub learns : (port : ℕ) (v : Log) → v.parts ≡ 1024 → Learns IsShared port v (IsWhole v)
learns port v all items views k at = λ h.
    let full : sum_by (λ (u : Log). u.parts) views ≡ v.parts = k.parts ∙ sym all in
    omega (
      arith,
      k.pieces h,
      sum_whole (λ (u : Log). u.parts) (λ (u : Log). sum_by h u.own) views port v at full
          (λ j u e none. ap (λ l. sum_by h l) (k.idle j u e none).0),
      sum_whole (λ (u : Log). u.parts) (λ (u : Log). sum_by h u.got) views port v at full
          (λ j u e none. ap (λ l. sum_by h l) (k.idle j u e none).1),
    )
