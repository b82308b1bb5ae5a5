-- The hands of a pool, lent out and given back.
use Rattle.std.proofs.Common.{◌≡◌, ℕ, ◌<◌, List, ◌++◌, length, length-set, get_or, set, take, drop, refl, sym, ap, ◌∙◌}
use Rattle.std.proofs.Common.{subst, inl, inr, arith}
use Rattle.std.proofs.lemmas.List.{take_at}
use Rattle.std.proofs.lemmas.Option.{slice_get_read, slice_get_within, slice_get-get_or, same_Some}
use Rattle.steal_pool.specs.Hands.{DequeId, HandView, IsHandOf, AreHandsOf}
use Rattle.steal_pool.proofs.ClosingFacts.{set_there}

-- the hand at a place
pub hand_at : (pool : List DequeId) (hs : List HandView) (k : ℕ) (v : HandView) → AreHandsOf pool hs → k < length pool
    → v ≡ get_or hs k v → (v.name ≡ k) × IsHandOf pool v
hand_at pool hs k v a b at = a.each k v (slice_get_read hs (length hs) k v refl (omega (arith, b, a.count)) at)

-- one of them is changed, and is a hand of the same number
pub hands_set : (pool : List DequeId) (hs : List HandView) (k : ℕ) (v w : HandView) → AreHandsOf pool hs
    → k < length pool → v ≡ get_or hs k v → IsHandOf pool w → w.name ≡ v.name → AreHandsOf pool (set hs k w)
hands_set pool hs k v w a b at h e = record {
  few = a.few;
  count = length-set hs k w ∙ a.count;
  each = λ i u au. elim (set_there hs k i u w au) [
    | inl s ↦ subst (λ (z : HandView). (z.name ≡ i) × IsHandOf pool z) (sym s.1)
        (e ∙ ((hand_at pool hs k v a b at).0 ∙ sym s.0), h)
    | inr s ↦ a.each i u s.1
  ];
}

-- as many hands as were lent are given back
pub given_back : (s w : List HandView) → length w ≡ length s → take (length s) (w ++ drop (length w) s) ≡ w
given_back s w e = take_at w (drop (length w) s) (length s) e

-- the hands lent out are s, of which one was changed
pub hands_after : (pool : List DequeId) (s each : List HandView) (k : ℕ) (v w : HandView) → AreHandsOf pool s → each ≡ s
    → k < length pool → v ≡ get_or each k v → IsHandOf pool w × (w.name ≡ v.name)
    → AreHandsOf pool (take (length s) (set each k w ++ drop (length (set each k w)) s))
hands_after pool s each k v w a e b at h =
    subst (λ (z : List HandView). AreHandsOf pool z) (sym (given_back s (set each k w)
    (length-set each k w ∙ ap (λ (l : List HandView). length l) e)))
    (hands_set pool each k v w (subst (λ (z : List HandView). AreHandsOf pool z) (sym e) a) b at h.0 h.1)

-- each of them is changed, and is a hand of the same number
pub hands_each : (pool : List DequeId) (hs ws : List HandView) → AreHandsOf pool hs → length ws ≡ length hs
    → ((i : ℕ) (d : HandView) → i < length hs → IsHandOf pool (get_or ws i d)
    × ((get_or ws i d).name ≡ (get_or hs i d).name)) → AreHandsOf pool ws
hands_each pool hs ws a n h = record {
  few = a.few;
  count = n ∙ a.count;
  each = λ i u au.
      let b : i < length hs = omega (arith, slice_get_within ws i u au, n) in
      let e : get_or ws i u ≡ u = same_Some (get_or ws i u) u
      (sym (slice_get-get_or ws i u (slice_get_within ws i u au)) ∙ au) in
      let o = a.each i (get_or hs i u) (slice_get-get_or hs i u b) in
      let p = h i u b in
      subst (λ (z : HandView). (z.name ≡ i) × IsHandOf pool z) e (p.1 ∙ o.0, p.0);
}
