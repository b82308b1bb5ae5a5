-- The steps of closing a pool.
use Rattle.std.proofs.Common.{◌≡◌, ◌≢◌, ◌⊎◌, ℕ, zero, suc, ◌+◌, ◌-◌, ◌<◌, ◌≤◌, Bool, true, false, cond, List, [], ◌∷◌}
use Rattle.std.proofs.Common.{◌++◌, length, map, get_or, set, take, drop, refl, sym, ap, ◌∙◌, subst, inl, inr, arith}
use Rattle.std.proofs.Common.{length-append, length-set, append-nil, append_assoc, Some}
use Rattle.std.specs.Prelude.{slice_get, nat_eq, sum_by}
use Rattle.std.proofs.lemmas.Bool.Decides.{nat_tests}
use Rattle.std.proofs.lemmas.List.{get_or-map, length-map, take_more, take_at}
use Rattle.std.proofs.lemmas.List.Sums.{sum_by-append, sum_by-cons}
use Rattle.std.proofs.lemmas.Option.{slice_get_read, slice_get_within, slice_get-get_or, same_Some}
use Rattle.steal_pool.specs.declared.piece.Piece.{Piece}
use Rattle.steal_pool.specs.Hands.{IsNumberOf, IsHandOf, DequeId, PortView, HandView, own_of, standing, at_deque}
use Rattle.steal_pool.specs.Hands.{joined, Rise, AreHandsOf}
use Rattle.steal_pool.specs.Calls.{change}
use Rattle.steal_pool.specs.Closing.{got_at, took_at, times, IsClosed, joined_one, joined_hands, HasReported}
use Rattle.steal_pool.specs.Closing.{HaveReported, AreMarked, IsGathered, AreGathered, IsLeft, AreWhole, AreCounted}
use Rattle.steal_pool.proofs.Ports.{get_push, change_at}

pub joined_none : (hs : List HandView) → joined_hands hs [] ≡ hs
joined_none [] = refl
joined_none (v ∷ vs) = refl

pub joined_push : (hs : List HandView) (done : List PortView) (p : PortView)
    → change (joined_one p) (length done) (joined_hands hs done) ≡ joined_hands hs (done ++ p ∷ [])
joined_push [] done p = refl
joined_push (v ∷ vs) [] p = ap (λ l. joined_one p v ∷ l) (sym (joined_none vs))
joined_push (v ∷ vs) (q ∷ qs) p = ap (λ l. joined_one q v ∷ l) (joined_push vs qs p)

pub joined_next : (hs : List HandView) (done : List PortView) (d : HandView)
    → get_or (joined_hands hs done) (length done) d ≡ get_or hs (length done) d
joined_next [] done d = refl
joined_next (v ∷ vs) [] d = refl
joined_next (v ∷ vs) (q ∷ qs) d = joined_next vs qs d

pub length_joined : (hs : List HandView) (ps : List PortView) → length (joined_hands hs ps) ≡ length hs
length_joined [] ps = refl
length_joined (v ∷ vs) [] = refl
length_joined (v ∷ vs) (p ∷ ps) = ap suc (length_joined vs ps)

pub deques_joined : (hs : List HandView) (ps : List PortView)
    → map (λ (v : HandView). v.home.deque) (joined_hands hs ps) ≡ map (λ (v : HandView). v.home.deque) hs
deques_joined [] ps = refl
deques_joined (v ∷ vs) [] = refl
deques_joined (v ∷ vs) (p ∷ ps) = ap (λ l. v.home.deque ∷ l) (deques_joined vs ps)

-- an owner after its port is joined
pub joined_there : (hs : List HandView) (ps : List PortView) (k : ℕ) (u : HandView) → length hs ≡ length ps
    → slice_get (joined_hands hs ps) k ≡ Some u
    → (v : HandView) × (p : PortView) × (slice_get hs k ≡ Some v) × (slice_get ps k ≡ Some p) × (u ≡ joined_one p v)
joined_there [] ps k u e at = absurd (cc)
joined_there (v ∷ vs) [] k u e at = absurd (omega arith)
joined_there (v ∷ vs) (p ∷ ps) zero u e at = (v, p, refl, refl, sym (same_Some (joined_one p v) u at))
joined_there (v ∷ vs) (p ∷ ps) (suc k) u e at = joined_there vs ps k u (omega arith) at

pub map_set : {A B : Type 0} (g : A → B) (l : List A) (k : ℕ) (x y : A) → x ≡ get_or l k x → g y ≡ g x
    → map g (set l k y) ≡ map g l
map_set g [] k x y at e = refl
map_set g (z ∷ zs) zero x y at e = ap (λ w. w ∷ map g zs) (e ∙ ap g at)
map_set g (z ∷ zs) (suc k) x y at e = ap (λ w. g z ∷ w) (map_set g zs k x y at e)

-- an item after one was set
pub set_there : {A : Type 0} (l : List A) (k i : ℕ) (x y : A) → slice_get (set l k y) i ≡ Some x
    → ((i ≡ k) × (x ≡ y)) ⊎ ((i ≢ k) × (slice_get l i ≡ Some x))
set_there [] k i x y at = absurd (cc)
set_there (z ∷ zs) zero zero x y at = inl (refl, sym (same_Some y x at))
set_there (z ∷ zs) zero (suc i) x y at = inr ((λ p. omega arith), at)
set_there (z ∷ zs) (suc k) zero x y at = inr ((λ p. omega arith), at)
set_there (z ∷ zs) (suc k) (suc i) x y at = elim (set_there zs k i x y at) [
  | inl s ↦ inl (ap suc s.0, s.1)
  | inr s ↦ inr ((λ p. s.0 (omega arith)), s.1)
]

pub got_there : (ps : List PortView) (k : ℕ) (p : PortView) → slice_get ps k ≡ Some p → got_at k ps ≡ p.log.got
got_there [] k p at = absurd (cc)
got_there (q ∷ qs) zero p at = ap (λ (z : PortView). z.log.got) (same_Some q p at)
got_there (q ∷ qs) (suc k) p at = got_there qs k p at

parts_there : (ps : List PortView) (ds : List DequeId) (k : ℕ) (p : PortView) → map standing ps ≡ map at_deque ds
    → slice_get ps k ≡ Some p → (p.log.parts ≡ 1) × (p.tally.parts ≡ 1)
parts_there [] ds k p e at = absurd (cc)
parts_there (q ∷ qs) [] k p e at = absurd (cc)
parts_there (q ∷ qs) (d ∷ ds) zero p e at =
    let h : standing q ≡ at_deque d = ap (λ (l : List (DequeId × ℕ × ℕ)). get_or l 0 (standing q)) e in
    let s = same_Some q p at in (
      sym (ap (λ (z : PortView). z.log.parts) s) ∙ ap (λ (z : DequeId × ℕ × ℕ). z.1) h,
      sym (ap (λ (z : PortView). z.tally.parts) s) ∙ ap (λ (z : DequeId × ℕ × ℕ). z.2) h,
    )
parts_there (q ∷ qs) (d ∷ ds) (suc k) p e at = parts_there qs ds k p (ap (λ (l : List (DequeId × ℕ × ℕ)). drop 1 l) e)
    at

deques_same : (hs : List HandView) (ds : List DequeId) → length hs ≡ length ds
    → ((k : ℕ) (v : HandView) → slice_get hs k ≡ Some v → slice_get ds k ≡ Some v.home.deque)
    → map (λ (v : HandView). v.home.deque) hs ≡ ds
deques_same [] [] e h = refl
deques_same [] (d ∷ ds) e h = absurd (omega arith)
deques_same (v ∷ vs) [] e h = absurd (omega arith)
deques_same (v ∷ vs) (d ∷ ds) e h = (λ i. sym (same_Some d v.home.deque (h 0 v refl)) i ∷ deques_same vs ds
    (omega arith) (λ k u at. h (suc k) u at) i)

-- at the start no hand is joined
pub gathers_none : (pool : List DequeId) (hs : List HandView) → AreHandsOf pool hs → AreGathered pool hs 0 hs
gathers_none pool hs a = record {
  count = refl;
  deques = deques_same hs pool a.count (λ k v at. let o = a.each k v at in
      subst (λ (n : ℕ). slice_get pool n ≡ Some v.home.deque) o.0 o.1.deque);
  ports = λ i v u low at at'. ap (λ (z : HandView). z.ports) (same_Some u v (sym at' ∙ at));
  each = λ k v u at at'.
      let s = same_Some u v (sym at' ∙ at) in
      let o = (a.each k v at).1 in
      let n = a.count in
      subst (λ (z : HandView). IsGathered hs 0 k v z) (sym s) (record {
        own = refl;
        put = refl;
        mark = refl;
        log_parts = omega (arith, o.parts.0, n);
        tally_parts = omega (arith, o.parts.1, n);
        got = λ h. ap (λ (l : List Piece). sum_by h l) o.none.0;
        gone = o.none.1;
      });
}

take_sum : (f : HandView → ℕ) (hs : List HandView) (j : ℕ) (v : HandView) → slice_get hs j ≡ Some v
    → sum_by f (take (j + 1) hs) ≡ sum_by f (take j hs) + f v
take_sum f hs j v at =
    let b = slice_get_within hs j v at in
    let e : get_or hs j v ≡ v = same_Some (get_or hs j v) v (sym (slice_get-get_or hs j v b) ∙ at) in
    ap (λ (l : List HandView). sum_by f l) (take_more hs j v b) ∙ sum_by-append f (take j hs) (get_or hs j v ∷ [])
    ∙ omega (arith, sum_by-cons f (get_or hs j v) [], ap f e)

-- the owner y has what u had, and the port p of the hand j, who was v
gathers_port : (hs : List HandView) (j k : ℕ) (x u z y v : HandView) (ps : List PortView) (p : PortView)
    → IsGathered hs j k x u → slice_get hs j ≡ Some v → y ≡ joined_one p z → z.home ≡ u.home
    → (p.log.parts ≡ 1) × (p.tally.parts ≡ 1) → ps ≡ v.ports → slice_get ps k ≡ Some p → HasReported p
    → IsGathered hs (j + 1) k x y
gathers_port hs j k x u z y v ps p d at is same one mine there told =
    let e : y.home ≡ joined u.home p = ap (λ (q : HandView). q.home) is ∙ ap (λ (q : PortView). joined q p) same in
    let got : took_at k v ≡ p.log.got = ap (λ (l : List PortView). got_at k l) (sym mine) ∙ got_there ps k p there in
    record {
      own = ap (λ (q : PortView). q.log.own) e ∙ d.own;
      put = ap (λ (q : PortView). q.tally.put) e ∙ d.put;
      mark = ap (λ (q : PortView). q.tally.mark) e ∙ d.mark;
      log_parts = omega (arith, ap (λ (q : PortView). q.log.parts) e, d.log_parts, one.0);
      tally_parts = omega (arith, ap (λ (q : PortView). q.tally.parts) e, d.tally_parts, one.1);
      got = λ h. omega (
        arith,
        ap (λ (q : PortView). sum_by h q.log.got) e,
        sum_by-append h u.home.log.got p.log.got,
        d.got h,
        take_sum (λ (q : HandView). sum_by h (took_at k q)) hs j v at,
        ap (λ (l : List Piece). sum_by h l) got,
      );
      gone = omega (
        arith,
        ap (λ (q : PortView). q.tally.gone) e,
        d.gone,
        take_sum (λ (q : HandView). length (took_at k q)) hs j v at,
        ap (λ (l : List Piece). length l) got,
        told,
      );
    }

-- the owner z at k, after the hand u at j gave its ports away, has what the owner there had
home_there : (us : List HandView) (j k : ℕ) (u w z : HandView) → slice_get us j ≡ Some u → w.home ≡ u.home
    → slice_get (set us j w) k ≡ Some z → (q : HandView) × (slice_get us k ≡ Some q) × (z.home ≡ q.home)
home_there us j k u w z there was at = elim (set_there us j k z w at) [
  | inl s ↦ (u, subst (λ (i : ℕ). slice_get us i ≡ Some u) (sym s.0) there, ap (λ (q : HandView). q.home) s.1 ∙ was)
  | inr s ↦ (z, s.1, refl)
]

ports_there : (us : List HandView) (j i : ℕ) (w z x y : HandView) (p : PortView) → j + 1 ≤ i → y ≡ joined_one p z
    → slice_get (set us j w) i ≡ Some z → (slice_get us i ≡ Some z → z.ports ≡ x.ports) → y.ports ≡ x.ports
ports_there us j i w z x y p low e at old = ap (λ (q : HandView). q.ports) e ∙ elim (set_there us j i z w at) [
  | inl s ↦ absurd (omega (arith, s.0, low))
  | inr s ↦ old s.1
]

-- the hand j is joined: its ports, which are taken from it first
pub gathers_next : (pool : List DequeId) (hs us : List HandView) (j : ℕ) (v u w : HandView) (ps : List PortView)
    → AreHandsOf pool hs → AreGathered pool hs j us → slice_get hs j ≡ Some v → u ≡ get_or us j u → j < length us
    → ps ≡ u.ports → w ≡ record u { ports = [] } → HaveReported ps
    → AreGathered pool hs (j + 1) (joined_hands (set us j w) ps)
gathers_next pool hs us j v u w ps a g at at' b is was told =
    let there : slice_get us j ≡ Some u = slice_get_read us (length us) j u refl b at' in
    let mine : ps ≡ v.ports = is ∙ g.ports j v u (omega arith) at there in
    let o = (a.each j v at).1 in
    let fits : map standing ps ≡ map at_deque pool = ap (λ (l : List PortView). map standing l) mine ∙ o.ports in
    let n : length (set us j w) ≡ length us = length-set us j w in
    let m : length ps ≡ length pool = sym (length-map ps standing) ∙ ap (λ (l : List (DequeId × ℕ × ℕ)). length l) fits
    ∙ length-map pool at_deque in
    let all : length (set us j w) ≡ length ps = omega (arith, n, m, g.count, a.count) in record {
      count = length_joined (set us j w) ps ∙ n ∙ g.count;
      deques = deques_joined (set us j w) ps ∙ map_set (λ (z : HandView). z.home.deque) us j u w at'
          (ap (λ (z : HandView). z.home.deque) was) ∙ g.deques;
      ports = λ i x y low ax ay.
          let z = joined_there (set us j w) ps i y all ay in
          ports_there us j i w z.0 x y z.1 low z.4 z.2 (λ k. g.ports i x z.0 (omega (arith, low)) ax k);
      each = λ k x y ax ay.
          let z = joined_there (set us j w) ps k y all ay in
          let home = home_there us j k u w z.0 there (ap (λ (q : HandView). q.home) was) z.2 in
          gathers_port hs j k x home.0 z.0 y v ps z.1 (g.each k x home.0 ax home.1) at z.4 home.2
          (parts_there ps pool k z.1 fits z.3) mine z.3 (told k z.1 z.3);
    }

take_all : {A : Type 0} (l : List A) → take (length l) l ≡ l
take_all l = ap (λ z. take (length l) z) (sym (append-nil l)) ∙ take_at l [] (length l) refl

ones : (xs : List Piece) → sum_by (λ (x : Piece). 1) xs ≡ length xs
ones [] = refl
ones (x ∷ xs) = omega (arith, sum_by-cons (λ (y : Piece). 1) x xs, ones xs)

pub are_whole : (pool : List DequeId) (hs us : List HandView) → AreHandsOf pool hs → AreGathered pool hs (length hs) us
    → AreWhole pool us
are_whole pool hs us a g = record {
  few = a.few;
  deques = g.deques;
  parts = λ k u at.
      let b = slice_get_within us k u at in
      let v = get_or hs k u in
      let there : slice_get hs k ≡ Some v = slice_get-get_or hs k u (omega (arith, g.count)) in
      let d = g.each k v u there at in
      let o = (a.each k v there).1 in (
        omega (arith, d.log_parts, a.count, o.few),
        omega (arith, d.tally_parts, a.count, o.few),
        omega (arith, ap (λ (l : List Piece). length l) d.own, o.most),
      );
}

pub counts_none : (hs : List HandView) → AreCounted hs 0 0 0
counts_none hs = record {
  lefts = [];
  count = refl;
  put_is = refl;
  left_is = refl;
  less = omega arith;
  few = omega arith;
  each = λ i v xs at at'. absurd (cc);
}

pub whole_count : (v : HandView) (xs : List Piece) → IsLeft v xs → length xs ≤ length (own_of v)
whole_count v xs l = omega (arith, l.whole (λ (x : Piece). 1), ones (own_of v), ones v.home.log.got, ones xs)

pub counts_next : (hs : List HandView) (k put left own rest : ℕ) (v : HandView) (xs : List Piece)
    → AreCounted hs k put left → slice_get hs k ≡ Some v → length (own_of v) ≤ 4096 → own ≡ length (own_of v)
    → length xs ≡ rest → IsLeft v xs
    → AreCounted hs (k + 1) (put + own) (left + rest)
counts_next hs k put left own rest v xs c at few is size l =
    let w = whole_count v xs l in record {
      lefts = c.lefts ++ xs ∷ [];
      count = omega (arith, length-append c.lefts (xs ∷ []), c.count);
      put_is = omega (arith, c.put_is, take_sum (λ (z : HandView). length (own_of z)) hs k v at);
      left_is = omega (
        arith,
        c.left_is,
        sum_by-append (λ (z : List Piece). length z) c.lefts (xs ∷ []),
        sum_by-cons (λ (z : List Piece). length z) xs [],
      );
      less = omega (arith, c.less, w);
      few = omega (arith, c.few);
      each = λ i u ys au ay. elim (get_push c.lefts xs ys i ay) [
        | inl s ↦ c.each i u ys au s
        | inr s ↦
            let same : v ≡ u = same_Some v u (sym at ∙ subst (λ (n : ℕ). slice_get hs n ≡ Some u) (s.0 ∙ c.count) au) in
            subst (λ (z : HandView × List Piece). IsLeft z.0 z.1) (λ j. (same j, s.1 j)) l
      ];
    }

sum_nothing : (ls : List (List Piece)) → ((i : ℕ) (xs : List Piece) → slice_get ls i ≡ Some xs → length xs ≡ 0)
    → sum_by (λ (xs : List Piece). length xs) ls ≡ 0
sum_nothing [] h = refl
sum_nothing (xs ∷ more) h = omega (
  arith,
  sum_by-cons (λ (z : List Piece). length z) xs more,
  h 0 xs refl,
  sum_nothing more (λ i ys at. h (suc i) ys at),
)

none_above : (low high n : ℕ) (xs : List Piece) → Rise low xs high → n < low → times n xs ≡ 0
none_above low high n [] r l = refl
none_above low high n (x ∷ xs) r l =
    let q : nat_eq x.number n ≡ false = grind (arith, nat_tests, r.0) in
    omega (
      arith,
      sum_by-cons (λ (y : Piece). cond (nat_eq y.number n) 1 0) x xs,
      ap (λ (b : Bool). cond {A = ℕ} b 1 0) q,
      none_above (suc x.number) high n xs r.1 (omega (arith, r.0)),
    )

rise_once : (low high n : ℕ) (xs : List Piece) → Rise low xs high → times n xs ≤ 1
rise_once low high n [] r = omega arith
rise_once low high n (x ∷ xs) r = by (nat_eq x.number n) refl (rise_once (suc x.number) high n xs r.1)
    (λ l. none_above (suc x.number) high n xs r.1 l)
  where
    by : (b : Bool) → nat_eq x.number n ≡ b → times n xs ≤ 1 → (n < suc x.number → times n xs ≡ 0)
        → times n (x ∷ xs) ≤ 1
    by true e more none =
        let s : x.number ≡ n = grind (arith, nat_tests) in
        omega (
          arith,
          sum_by-cons (λ (y : Piece). cond (nat_eq y.number n) 1 0) x xs,
          ap (λ (b : Bool). cond {A = ℕ} b 1 0) e,
          none (omega arith),
        )
    by false e more none = omega (
      arith,
      sum_by-cons (λ (y : Piece). cond (nat_eq y.number n) 1 0) x xs,
      ap (λ (b : Bool). cond {A = ℕ} b 1 0) e,
      more,
    )

there_is : {A : Type 0} (l : List A) (k : ℕ) → k < length l → (x : A) × (slice_get l k ≡ Some x)
there_is [] k b = absurd (omega arith)
there_is (x ∷ xs) zero b = (x, refl)
there_is (x ∷ xs) (suc k) b = there_is xs k (omega arith)

took_ones : (k : ℕ) (hs : List HandView) → sum_by (λ (w : HandView). sum_by (λ (x : Piece). 1) (took_at k w)) hs
    ≡ sum_by (λ (w : HandView). length (took_at k w)) hs
took_ones k [] = refl
took_ones k (v ∷ vs) = omega (
  arith,
  sum_by-cons (λ (w : HandView). sum_by (λ (x : Piece). 1) (took_at k w)) v vs,
  sum_by-cons (λ (w : HandView). length (took_at k w)) v vs,
  ones (took_at k v),
  took_ones k vs,
)

-- where the mark of an owner stands, nothing is left on its deque
nothing : (pool : List DequeId) (hs us : List HandView) (put left k : ℕ) (xs : List Piece) (a : AreHandsOf pool hs)
    (g : AreGathered pool hs (length hs) us) (c : AreCounted us (length us) put left) → AreMarked hs
    → slice_get c.lefts k ≡ Some xs
    → length xs ≡ 0
nothing pool hs us put left k xs a g c marks ax =
    let b : k < length hs = omega (arith, slice_get_within c.lefts k xs ax, c.count, g.count) in
    let v = there_is hs k b in
    let u = there_is us k (omega (arith, b, g.count)) in
    let d = g.each k v.0 u.0 v.1 u.1 in
    let o = (a.each k v.0 v.1).1 in
    let l = c.each k u.0 xs u.1 ax in
    let m = l.mark (d.mark ∙ marks k v.0 v.1) in
    omega (
      arith,
      m,
      d.put,
      o.put,
      d.gone,
      l.whole (λ (x : Piece). 1),
      ap (λ (z : List Piece). sum_by (λ (x : Piece). 1) z) d.own,
      ones (own_of v.0),
      ones xs,
      d.got (λ (x : Piece). 1),
      took_ones k (take (length hs) hs),
    )

own_sums : (hs us : List HandView) → length us ≡ length hs → ((k : ℕ) (v u : HandView) → slice_get hs k ≡ Some v
    → slice_get us k ≡ Some u → length (own_of u) ≡ length (own_of v))
    → sum_by (λ (z : HandView). length (own_of z)) us ≡ sum_by (λ (z : HandView). length (own_of z)) hs
own_sums [] [] e h = refl
own_sums [] (u ∷ us) e h = absurd (omega arith)
own_sums (v ∷ vs) [] e h = absurd (omega arith)
own_sums (v ∷ vs) (u ∷ us) e h = omega (
  arith,
  sum_by-cons (λ (z : HandView). length (own_of z)) v vs,
  sum_by-cons (λ (z : HandView). length (own_of z)) u us,
  h 0 v u refl refl,
  own_sums vs us (omega arith) (λ k x y at at'. h (suc k) x y at at'),
)

pub closes : (pool : List DequeId) (hs us : List HandView) (put left : ℕ) → AreHandsOf pool hs
    → AreGathered pool hs (length hs) us → AreCounted us (length us) put left
    → IsClosed hs (record { put = put; taken = put - left; left = left })
closes pool hs us put left a g c =
    let whole : (k : ℕ) (v u : HandView) (xs : List Piece) → slice_get hs k ≡ Some v → slice_get us k ≡ Some u
    → slice_get c.lefts k ≡ Some xs
    → (h : Piece → ℕ) → sum_by h (own_of v) ≡ sum_by (λ (w : HandView). sum_by h (took_at k w)) hs + sum_by h xs =
    λ k v u xs av au ax h.
    let d = g.each k v u av au in
    omega (
      arith,
      (c.each k u xs au ax).whole h,
      ap (λ (l : List Piece). sum_by h l) d.own,
      d.got h,
      ap (λ (l : List HandView). sum_by (λ (w : HandView). sum_by h (took_at k w)) l) (take_all hs),
    ) in
    let at_us : (k : ℕ) (d : HandView) → k < length hs → slice_get us k ≡ Some (get_or us k d) =
    λ k d b. slice_get-get_or us k d (omega (arith, g.count)) in
    record {
      lefts = c.lefts;
      count = c.count ∙ g.count;
      each = λ k v xs av ax h. whole k v (get_or us k v) xs av (at_us k v (slice_get_within hs k v av)) ax h;
      taken_once = λ k n b.
          let v = there_is hs k b in
          let u = there_is us k (omega (arith, b, g.count)) in
          let xs = there_is c.lefts k (omega (arith, b, g.count, c.count)) in
          omega (
            arith,
            whole k v.0 u.0 xs.0 v.1 u.1 xs.1 (λ (x : Piece). cond (nat_eq x.number n) 1 0),
            rise_once 0 _ n (own_of v.0) (a.each k v.0 v.1).1.numbers,
          );
      tell = λ k v i x av ax. (λ (o : (v.name ≡ k) × IsHandOf pool v).
          subst (λ (z : ℕ × ℕ). IsNumberOf z.0 z.1 x.number) (λ j. (sym a.count j, o.0 j)) (o.1.tell i x ax))
          (a.each k v av);
      once = λ k v av n. rise_once 0 _ n (own_of v) (a.each k v av).1.numbers;
      put = omega (
        arith,
        c.put_is,
        ap (λ (l : List HandView). sum_by (λ (z : HandView). length (own_of z)) l) (take_all us),
        own_sums hs us g.count (λ k v u av au. ap (λ (l : List Piece). length l) (g.each k v u av au).own),
      );
      left = c.left_is;
      total = omega (arith, c.less);
      none = λ marks. c.left_is ∙ sum_nothing c.lefts (λ k xs ax. nothing pool hs us put left k xs a g c marks ax);
    }

-- the ports `done` are joined, k of them, and the ports `left` are not
pub record IsJoining (hs : List HandView) (all left : List PortView) (k : ℕ) (now : List HandView) : Type 0 where
  pub done : List PortView
  pub whole : done ++ left ≡ all
  pub count : k ≡ length done
  pub joined : now ≡ joined_hands hs done
  pub told : HaveReported done

pub joins_start : (hs : List HandView) (all : List PortView) → IsJoining hs all all 0 hs
joins_start hs all = record {
  done = [];
  whole = refl;
  count = refl;
  joined = sym (joined_none hs);
  told = λ k p at. absurd (cc);
}

get_first : {A : Type 0} (l : List A) (x : A) (more : List A) → slice_get (l ++ x ∷ more) (length l) ≡ Some x
get_first [] x more = refl
get_first (y ∷ ys) x more = get_first ys x more

-- the next port stands at k
pub joins_at : (hs : List HandView) (all left : List PortView) (k : ℕ) (now : List HandView) (p : PortView)
    → IsJoining hs all (p ∷ left) k now → slice_get all k ≡ Some p
joins_at hs all left k now p j = (λ i. slice_get (sym j.whole i) (j.count i)) ∙ get_first j.done p left

deque_there : (ps : List PortView) (ds : List DequeId) (k : ℕ) (p : PortView) → map standing ps ≡ map at_deque ds
    → slice_get ps k ≡ Some p → slice_get ds k ≡ Some p.deque
deque_there [] ds k p e at = absurd (cc)
deque_there (q ∷ qs) [] k p e at = absurd (cc)
deque_there (q ∷ qs) (d ∷ ds) zero p e at =
    let h : standing q ≡ at_deque d = ap (λ (l : List (DequeId × ℕ × ℕ)). get_or l 0 (standing q)) e in
    ap Some (sym (ap (λ (z : DequeId × ℕ × ℕ). z.0) h) ∙ ap (λ (z : PortView). z.deque) (same_Some q p at))
deque_there (q ∷ qs) (d ∷ ds) (suc k) p e at = deque_there qs ds k p (ap (λ (l : List (DequeId × ℕ × ℕ)). drop 1 l) e)
    at

pub joins_count : (hs : List HandView) (all left : List PortView) (k : ℕ) (now : List HandView)
    → IsJoining hs all left k now → length now ≡ length hs
joins_count hs all left k now j = ap (λ (l : List HandView). length l) j.joined ∙ length_joined hs j.done

-- the next port and the hand at its place are of the deque
pub may_join : (hs : List HandView) (ds : List DequeId) (all left : List PortView) (k : ℕ) (now : List HandView)
    (p : PortView) (v : HandView) (d : DequeId) → IsJoining hs all (p ∷ left) k now
    → map (λ (z : HandView). z.home.deque) hs ≡ ds
    → map standing all ≡ map at_deque ds → v ≡ get_or now k v → d ≡ get_or ds k d → (v.home.deque ≡ d) × (p.deque ≡ d)
may_join hs ds all left k now p v d j deqs fits at at' =
    let there = deque_there all ds k p fits (joins_at hs all left k now p j) in
    let b = slice_get_within ds k p.deque there in
    let n : length hs ≡ length ds = sym (length-map hs (λ (z : HandView). z.home.deque))
    ∙ ap (λ (l : List DequeId). length l) deqs in
    let old : v ≡ get_or hs k v = at ∙ ap (λ (l : List HandView). get_or l k v) j.joined
    ∙ ap (λ (i : ℕ). get_or (joined_hands hs j.done) i v) j.count ∙ joined_next hs j.done v
    ∙ ap (λ (i : ℕ). get_or hs i v) (sym j.count) in
    let is : slice_get ds k ≡ Some d = slice_get_read ds (length ds) k d refl b at' in (
      ap (λ (z : HandView). z.home.deque) old ∙ sym (get_or-map (λ (z : HandView). z.home.deque) hs k v d
          (omega (arith, b, n))) ∙ ap (λ (l : List DequeId). get_or l k d) deqs ∙ sym at',
      same_Some p.deque d (sym there ∙ is),
    )

pub joins_below : (hs : List HandView) (ds : List DequeId) (all left : List PortView) (k : ℕ) (now : List HandView)
    (p : PortView) → IsJoining hs all (p ∷ left) k now → map standing all ≡ map at_deque ds → k < length ds
joins_below hs ds all left k now p j fits = slice_get_within ds k p.deque
    (deque_there all ds k p fits (joins_at hs all left k now p j))

pub joins_next : (hs : List HandView) (all left : List PortView) (k : ℕ) (now : List HandView) (p : PortView)
    (v w : HandView) → IsJoining hs all (p ∷ left) k now → k < length now → v ≡ get_or now k v → w ≡ joined_one p v
    → HasReported p
    → IsJoining hs all left (k + 1) (set now k w)
joins_next hs all left k now p v w j b at e told = record {
  done = j.done ++ p ∷ [];
  whole = append_assoc j.done (p ∷ []) left ∙ j.whole;
  count = omega (arith, j.count, length-append j.done (p ∷ []));
  joined = ap (λ (z : HandView). set now k z) e ∙ change_at (joined_one p) now k v b at
      ∙ (λ i. change (joined_one p) (j.count i) (j.joined i)) ∙ joined_push hs j.done p;
  told = λ i q aq. elim (get_push j.done p q i aq) [
    | inl s ↦ j.told i q s
    | inr s ↦ subst HasReported s.1 told
  ];
}

-- the ports of the hand j, and the owners once they are taken
pub may_join_all : (pool : List DequeId) (hs us : List HandView) (j : ℕ) (u w : HandView) (ps : List PortView)
    → AreHandsOf pool hs → AreGathered pool hs j us → j < length us → u ≡ get_or us j u → ps ≡ u.ports
    → w ≡ record u { ports = [] }
    → (map (λ (v : HandView). v.home.deque) (set us j w) ≡ pool) × (map standing ps ≡ map at_deque pool)
may_join_all pool hs us j u w ps a g b at is was =
    let v = there_is hs j (omega (arith, b, g.count)) in
    let there : slice_get us j ≡ Some u = slice_get_read us (length us) j u refl b at in (
      map_set (λ (z : HandView). z.home.deque) us j u w at (ap (λ (z : HandView). z.home.deque) was) ∙ g.deques,
      ap (λ (l : List PortView). map standing l) (is ∙ g.ports j v.0 u (omega arith) v.1 there)
          ∙ (a.each j v.0 v.1).1.ports,
    )

pub gathers_one : (pool : List DequeId) (hs us : List HandView) (j : ℕ) (u w : HandView) (ps : List PortView)
    → AreHandsOf pool hs → AreGathered pool hs j us → j < length us → u ≡ get_or us j u → ps ≡ u.ports
    → w ≡ record u { ports = [] } → HaveReported ps
    → AreGathered pool hs (j + 1) (joined_hands (set us j w) ps)
gathers_one pool hs us j u w ps a g b at is was told =
    let v = there_is hs j (omega (arith, b, g.count)) in
    gathers_next pool hs us j v.0 u w ps a g v.1 at b is was told

pub whole_at : (pool : List DequeId) (hs : List HandView) (k : ℕ) (v : HandView) → AreWhole pool hs → k < length pool
    → v ≡ get_or hs k v
    → (slice_get hs k ≡ Some v) × (v.home.log.parts ≡ 1024) × (v.home.tally.parts ≡ 1024) × (length (own_of v) ≤ 4096)
whole_at pool hs k v a b at =
    let n : length hs ≡ length pool = sym (length-map hs (λ (z : HandView). z.home.deque))
    ∙ ap (λ (l : List DequeId). length l) a.deques in
    let there : slice_get hs k ≡ Some v = slice_get_read hs (length hs) k v refl (omega (arith, b, n)) at in
    let p = a.parts k v there in
    (there, p.0, p.1, p.2)

pub hands_at : (hs : List HandView) (ds : List DequeId) → map (λ (z : HandView). z.home.deque) hs ≡ ds
    → length hs ≡ length ds
hands_at hs ds e = sym (length-map hs (λ (z : HandView). z.home.deque)) ∙ ap (λ (l : List DequeId). length l) e
