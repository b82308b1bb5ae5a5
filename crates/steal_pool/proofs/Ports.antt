-- The ports of a hand, of which one changes.
use Rattle.std.proofs.Common.{◌≡◌, ℕ, zero, suc, ◌+◌, ◌<◌, ◌≤◌, List, [], ◌∷◌, ◌++◌, length, map, get_or, set, refl}
use Rattle.std.proofs.Common.{sym, ap, ◌∙◌, subst, arith, length-append, Option, Some, None, IfSome, IfNone, ◌⊎◌, ◌*◌}
use Rattle.std.proofs.Common.{◌^◌, ◌-◌, inl, inr}
use Rattle.std.specs.Prelude.{slice_get}
use Rattle.std.proofs.lemmas.List.{get_or-map, length-map, set-get_or}
use Rattle.std.proofs.lemmas.Simd.{map-map}
use Rattle.std.proofs.lemmas.Option.{slice_get-get_or, same_Some}
use Rattle.steal_pool.specs.declared.piece.Piece.{Piece}
use Rattle.steal_pool.specs.Hands.{IsNumberOf, DequeId, PortView, HandView, own_of, next_number, Rise, standing}
use Rattle.steal_pool.specs.Hands.{at_deque, IsHandOf, took_port, looked_port, put_home}
use Rattle.steal_pool.specs.Calls.{change, change_below, took_from, found_at, looked_before, found_all, GetsOne}
use Rattle.steal_pool.specs.Calls.{FindsNone}

pub change_at : {A : Type 0} (f : A → A) (l : List A) (k : ℕ) (x : A) → k < length l → x ≡ get_or l k x
    → set l k (f x) ≡ change f k l
change_at f [] k x b e = refl
change_at f (y ∷ ys) zero x b e = ap (λ z. f z ∷ ys) e
change_at f (y ∷ ys) (suc k) x b e = ap (λ z. y ∷ z) (change_at f ys k x (omega arith) e)

-- where the function keeps what g tells, so does the change
pub map_change : {A B : Type 0} (g : A → B) (f : A → A) → ((x : A) → g (f x) ≡ g x) → (k : ℕ) (l : List A)
    → map g (change f k l) ≡ map g l
map_change g f same k [] = refl
map_change g f same zero (x ∷ xs) = ap (λ y. y ∷ map g xs) (same x)
map_change g f same (suc k) (x ∷ xs) = ap (λ y. g x ∷ y) (map_change g f same k xs)

pub map_below : {A B : Type 0} (g : A → B) (f : A → A) → ((x : A) → g (f x) ≡ g x) → (k : ℕ) (l : List A)
    → map g (change_below f k l) ≡ map g l
map_below g f same zero l = refl
map_below g f same (suc k) [] = refl
map_below g f same (suc k) (x ∷ xs) = (λ i. same x i ∷ map_below g f same k xs i)

pub below_next : {A : Type 0} (f : A → A) (k : ℕ) (l : List A)
    → change f k (change_below f k l) ≡ change_below f (suc k) l
below_next f zero [] = refl
below_next f zero (x ∷ xs) = refl
below_next f (suc k) [] = refl
below_next f (suc k) (x ∷ xs) = ap (λ y. f x ∷ y) (below_next f k xs)

pub below_all : {A : Type 0} (f : A → A) (l : List A) → change_below f (length l) l ≡ map f l
below_all f [] = refl
below_all f (x ∷ xs) = ap (λ y. f x ∷ y) (below_all f xs)

-- the first item that isn't changed yet
pub below_at : {A : Type 0} (f : A → A) (k : ℕ) (l : List A) (d : A) → get_or (change_below f k l) k d ≡ get_or l k d
below_at f zero l d = refl
below_at f (suc k) [] d = refl
below_at f (suc k) (x ∷ xs) d = below_at f k xs d

-- a port of a hand at its deque
pub standing_at : (ps : List PortView) (ds : List DequeId) (k : ℕ) (p : PortView) (d : DequeId)
    → map standing ps ≡ map at_deque ds → k < length ds
    → p ≡ get_or ps k p → d ≡ get_or ds k d → standing p ≡ at_deque d
standing_at ps ds k p d e b at at' =
    let n : length ps ≡ length ds = sym (length-map ps standing) ∙ ap (λ l. length l) e ∙ length-map ds at_deque in
    ap standing at ∙ sym (get_or-map standing ps k p (at_deque d) (omega arith)) ∙ ap (λ l. get_or l k (at_deque d)) e
    ∙ get_or-map at_deque ds k d (at_deque d) b ∙ ap at_deque (sym at')

-- so a hand may take from it
pub may_take : (p : PortView) (d : DequeId) → standing p ≡ at_deque d
    → (p.deque ≡ d) × (0 < p.log.parts) × (0 < p.tally.parts)
may_take p d e =
    let a : p.log.parts ≡ 1 = ap (λ (x : DequeId × ℕ × ℕ). x.1) e in
    let b : p.tally.parts ≡ 1 = ap (λ (x : DequeId × ℕ × ℕ). x.2) e in
    (ap (λ (x : DequeId × ℕ × ℕ). x.0) e, omega arith, omega arith)

pub as_many : (ps : List PortView) (ds : List DequeId) → map standing ps ≡ map at_deque ds → length ps ≡ length ds
as_many ps ds e = sym (length-map ps standing) ∙ ap (λ l. length l) e ∙ length-map ds at_deque

pub rise_more : (low a b : ℕ) (xs : List Piece) → a ≤ b → Rise low xs a → Rise low xs b
rise_more low a b [] l r = omega arith
rise_more low a b (x ∷ xs) l r = (r.0, rise_more (suc x.number) a b xs l r.1)

pub rise_push : (low high : ℕ) (xs : List Piece) (x : Piece) → Rise low xs high → high ≤ x.number
    → Rise low (xs ++ x ∷ []) (suc x.number)
rise_push low high [] x r l = (omega arith, omega arith)
rise_push low high (y ∷ ys) x r l = (r.0, rise_push (suc y.number) high ys x r.1 l)

pub get_push : {A : Type 0} (l : List A) (x y : A) (i : ℕ) → slice_get (l ++ x ∷ []) i ≡ Some y
    → (slice_get l i ≡ Some y) ⊎ ((i ≡ length l) × (x ≡ y))
get_push [] x y zero at = inr (refl, same_Some x y at)
get_push [] x y (suc i) at = absurd (cc)
get_push (z ∷ zs) x y zero at = inl at
get_push (z ∷ zs) x y (suc i) at = elim (get_push zs x y i at) [
  | inl s ↦ inl s
  | inr s ↦ inr (ap suc s.0, s.1)
]

put_tells : (hands name p n : ℕ) → n ≡ (name + 1) * 2 ^ 32 + p → p < 4096 → IsNumberOf hands name n
put_tells hands name p n e l = inr (omega arith)

pub takes_one : (pool : List DequeId) (v : HandView) (k : ℕ) (x : Piece) → IsHandOf pool v
    → IsHandOf pool (took_from k x v)
takes_one pool v k x h = record {
  ports = map_change standing (took_port x) (λ p. refl) k v.ports ∙ h.ports;
  few = h.few;
  below = h.below;
  deque = h.deque;
  count = h.count;
  most = h.most;
  boss = h.boss;
  put = h.put;
  parts = h.parts;
  none = h.none;
  numbers = h.numbers;
  tell = h.tell;
}

pub looks_before : (pool : List DequeId) (v : HandView) (k : ℕ) → IsHandOf pool v → IsHandOf pool (looked_before k v)
looks_before pool v k h = record {
  ports = map_below standing looked_port (λ p. refl) k v.ports ∙ h.ports;
  few = h.few;
  below = h.below;
  deque = h.deque;
  count = h.count;
  most = h.most;
  boss = h.boss;
  put = h.put;
  parts = h.parts;
  none = h.none;
  numbers = h.numbers;
  tell = h.tell;
}

pub puts_one : (pool : List DequeId) (v : HandView) (x : Piece) → IsHandOf pool v → length (own_of v) < 4096
    → x.number ≡ next_number v → IsHandOf pool (record v { home = put_home v.home x })
puts_one pool v x h room e =
    let n : length (own_of v ++ x ∷ []) ≡ length (own_of v) + 1 = length-append (own_of v) (x ∷ []) in
    let c = h.count in record {
      ports = h.ports;
      few = h.few;
      below = h.below;
      deque = h.deque;
      count = omega arith;
      most = omega arith;
      boss = h.boss;
      put = omega (arith, h.put);
      parts = h.parts;
      none = h.none;
      numbers = subst (λ (z : ℕ). Rise 0 (own_of v ++ x ∷ []) z) (omega arith)
          (rise_push 0 (next_number v) (own_of v) x h.numbers (omega arith));
      tell = λ i y ay. elim (get_push (own_of v) x y i ay) [
        | inl s ↦ h.tell i y s
        | inr s ↦ subst (λ (z : Piece). IsNumberOf (length pool) v.name z.number) s.1
            (put_tells (length pool) v.name (length (own_of v) - v.count) x.number e (omega arith))
      ];
    }

-- what a call on one port does to all
pub some_at : (r : Option Piece) (ps : List PortView) (k : ℕ) (p q : PortView) → k < length ps → p ≡ get_or ps k p
    → IfSome r (λ x. q ≡ took_port x p) → IfSome r (λ x. set ps k q ≡ change (took_port x) k ps)
some_at (Some x) ps k p q b at e = ap (λ z. set ps k z) e ∙ change_at (took_port x) ps k p b at
some_at None ps k p q b at e = tt

pub none_at : (r : Option Piece) (ps : List PortView) (k : ℕ) (p q : PortView) → k < length ps → p ≡ get_or ps k p
    → IfNone r (q ≡ looked_port p) → IfNone r (set ps k q ≡ change looked_port k ps)
none_at (Some x) ps k p q b at e = tt
none_at None ps k p q b at e = ap (λ z. set ps k z) e ∙ change_at looked_port ps k p b at

pub some_home : (r : Option Piece) (h h' : PortView) (ps : List PortView) (k : ℕ) (p q : PortView) → k < length ps
    → p ≡ get_or ps k p → IfSome r (λ x. (h' ≡ h) × (q ≡ took_port x p))
    → IfSome r (λ x. (h' ≡ h) × (set ps k q ≡ change (took_port x) k ps))
some_home (Some x) h h' ps k p q b at e = (e.0, ap (λ z. set ps k z) e.1 ∙ change_at (took_port x) ps k p b at)
some_home None h h' ps k p q b at e = tt

pub none_home : (r : Option Piece) (h h' : PortView) (ps : List PortView) (k : ℕ) (p q : PortView) → k < length ps
    → p ≡ get_or ps k p → IfNone r ((h' ≡ looked_port h) × (q ≡ p))
    → IfNone r ((h' ≡ looked_port h) × (set ps k q ≡ ps))
none_home (Some x) h h' ps k p q b at e = tt
none_home None h h' ps k p q b at e = (e.0, ap (λ z. set ps k z) (e.1 ∙ at) ∙ set-get_or ps k p)

pub home_at : (ds : List DequeId) (k : ℕ) (d e : DequeId) → k < length ds → slice_get ds k ≡ Some d → e ≡ get_or ds k e
    → d ≡ e
home_at ds k d e b at is = same_Some d (get_or ds k e) (sym at ∙ slice_get-get_or ds k e b) ∙ sym is

pub looks_next : (j k : ℕ) (v : HandView) → j ≡ suc k → found_at k (looked_before k v) ≡ looked_before j v
looks_next j k v e = ap (λ (z : List PortView). record {
  name = v.name;
  count = v.count;
  home = looked_port v.home;
  ports = z;
}) (below_next looked_port k v.ports ∙ ap (λ n. change_below looked_port n v.ports) (sym e))

pub looks_all : (k : ℕ) (v : HandView) → k ≡ length v.ports → looked_before k v ≡ found_all v
looks_all k v e = ap (λ (z : List PortView). record {
  name = v.name;
  count = v.count;
  home = looked_port v.home;
  ports = z;
}) (ap (λ n. change_below looked_port n v.ports) e ∙ below_all looked_port v.ports)

change_map : {A B : Type 0} (g : A → B) (f : A → A) (h : B → B) → ((x : A) → g (f x) ≡ h (g x)) → (k : ℕ) (l : List A)
    → map g (change f k l) ≡ change h k (map g l)
change_map g f h same k [] = refl
change_map g f h same zero (x ∷ xs) = ap (λ y. y ∷ map g xs) (same x)
change_map g f h same (suc k) (x ∷ xs) = ap (λ y. g x ∷ y) (change_map g f h same k xs)

-- a piece was taken from the hand's own deque
pub gets_own : (pool : List DequeId) (v w : HandView) (x : Piece) → IsHandOf pool v → w ≡ took_from v.name x v
    → GetsOne x v w
gets_own pool v w x h e = subst (λ (z : HandView). GetsOne x v z) (sym e) (record {
  deque = v.name;
  there = omega (arith, h.below, as_many v.ports pool h.ports);
  lists = change_map (λ (p : PortView). p.log.got) (took_port x) (λ (l : List Piece). l ++ x ∷ []) (λ p. refl) v.name
      v.ports;
  own = refl;
})

-- a piece was taken from the deque k, behind others that were found empty
pub gets_one : (v w : HandView) (k : ℕ) (x : Piece) → k < length v.ports → w ≡ took_from k x (looked_before k v)
    → GetsOne x v w
gets_one v w k x b e = subst (λ (z : HandView). GetsOne x v z) (sym e) (record {
  deque = k;
  there = b;
  lists = change_map (λ (p : PortView). p.log.got) (took_port x) (λ (l : List Piece). l ++ x ∷ []) (λ p. refl) k
      (change_below looked_port k v.ports)
      ∙ ap (λ (l : List (List Piece)). change (λ (y : List Piece). y ++ x ∷ []) k l)
      (map_below (λ (p : PortView). p.log.got) looked_port (λ p. refl) k v.ports);
  own = refl;
})

pub finds_none : (pool : List DequeId) (v w : HandView) → IsHandOf pool v → w ≡ found_all v → FindsNone v w
finds_none pool v w h e = subst (λ (z : HandView). FindsNone v z) (sym e) (record {
  counts = map-map (λ (p : PortView). p.tally.found) looked_port v.ports
      ∙ sym (map-map suc (λ (p : PortView). p.tally.found) v.ports);
  lists = map-map (λ (p : PortView). p.log.got) looked_port v.ports;
  own = refl;
  mark = h.boss;
})
