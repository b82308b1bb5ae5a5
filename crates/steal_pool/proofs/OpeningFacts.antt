-- The steps of opening a pool.
use Rattle.std.proofs.Common.{◌≡◌, ◌≢◌, ℕ, zero, suc, ◌+◌, ◌-◌, ◌*◌, ◌%◌, ◌^◌, ◌<◌, ◌≤◌, Bool, true, false, cond, List}
use Rattle.std.proofs.Common.{[], ◌∷◌, ◌++◌, length, map, get_or, set, take, refl, sym, ap, ◌∙◌, subst, arith}
use Rattle.std.proofs.Common.{length-append, append-nil, append_assoc, Some, inl}
use Rattle.std.specs.Prelude.{slice_get, nat_eq, nat_lt, filter}
use Rattle.std.proofs.lemmas.Bool.Decides.{nat_tests}
use Rattle.std.proofs.lemmas.List.{get_or-map, length-map, map-append, take_more, take_at}
use Rattle.std.proofs.lemmas.Simd.{map-map}
use Rattle.std.proofs.lemmas.List.Elements.{filter-append}
use Rattle.std.proofs.lemmas.List.Sums.{length-filter, count_by-le-length}
use Rattle.std.proofs.lemmas.Option.{slice_get_read, slice_get_within, same_Some}
use Rattle.std.proofs.lemmas.Bool.{eqb-true, lt-ltb}
use Rattle.steal_pool.specs.declared.piece.Piece.{Piece}
use Rattle.steal_pool.specs.Hands.{DequeId, PortView, HandView, fresh_port, standing, dealt_to, new_hand, new_hands}
use Rattle.steal_pool.specs.Hands.{AreNumbered, Rise, IsHandOf, AreHandsOf}
use Rattle.steal_pool.specs.Opening.{seated, bare_hands, seated_below, seated_hands, CanLeave, left_hand, CanDeal}
use Rattle.steal_pool.specs.Opening.{dealt_one}
use Rattle.steal_pool.specs.Calls.{change, change_below}
use Rattle.steal_pool.proofs.Ports.{change_at, below_next, below_at, rise_more}
use Rattle.steal_pool.proofs.Each.{length_each, each_push, each_get, each_same, each_map, each_change, each_there}
use Rattle.steal_pool.proofs.Each.{map_each}

pub bare_push : (ds : List DequeId) (d : DequeId) (k : ℕ) → k ≡ length ds
    → bare_hands ds ++ seated 1024 [] k d ∷ [] ≡ bare_hands (ds ++ d ∷ [])
bare_push ds d k e = sym (each_push (seated 1024 []) 0 k ds d (omega arith))

pub length_below : {A : Type 0} (f : A → A) (k : ℕ) (l : List A) → length (change_below f k l) ≡ length l
length_below f zero l = refl
length_below f (suc k) [] = refl
length_below f (suc k) (x ∷ xs) = ap suc (length_below f k xs)

pub hands_count : (ds : List DequeId) (hs : List HandView) → CanLeave ds hs → length hs ≡ length ds
hands_count ds hs c = sym (length-map hs (λ (v : HandView). v.home.deque))
    ∙ ap (λ (l : List DequeId). length l) c.deques

pub leaves_at : (ds : List DequeId) (hs : List HandView) (k : ℕ) (v : HandView) (d : DequeId) → CanLeave ds hs
    → k < length ds → v ≡ get_or (change_below left_hand k hs) k v → d ≡ get_or ds k d
    → (v.home.deque ≡ d) × (1 < v.home.log.parts) × (1 < v.home.tally.parts)
leaves_at ds hs k v d c b at at' =
    let same : v ≡ get_or hs k v = at ∙ below_at left_hand k hs v in
    let n = hands_count ds hs c in
    let p = c.parts k v (slice_get_read hs (length hs) k v refl (omega arith) same) in (
      ap (λ (u : HandView). u.home.deque) same ∙ sym (get_or-map (λ (u : HandView). u.home.deque) hs k v d
          (omega arith))
          ∙ ap (λ (l : List DequeId). get_or l k d) c.deques ∙ sym at',
      p.0,
      p.1,
    )

pub leaves_next : (hs : List HandView) (k : ℕ) (v w : HandView) → k < length hs
    → v ≡ get_or (change_below left_hand k hs) k v → w ≡ left_hand v
    → set (change_below left_hand k hs) k w ≡ change_below left_hand (k + 1) hs
leaves_next hs k v w b at e =
    let n = length_below left_hand k hs in
    ap (λ (z : HandView). set (change_below left_hand k hs) k z) e
    ∙ change_at left_hand (change_below left_hand k hs) k v (omega arith) at ∙ below_next left_hand k hs
    ∙ ap (λ (z : ℕ). change_below left_hand z hs) ((λ (p : suc k ≡ k + 1). p) (omega arith))

pub ports_next : (ds : List DequeId) (k : ℕ) (d : DequeId) → k < length ds → d ≡ get_or ds k d
    → map fresh_port (take k ds) ++ fresh_port d ∷ [] ≡ map fresh_port (take (k + 1) ds)
ports_next ds k d b at =
    ap (λ (x : DequeId). map fresh_port (take k ds) ++ fresh_port x ∷ []) at
    ∙ sym (map-append fresh_port (take k ds) (get_or ds k d ∷ []))
    ∙ sym (ap (λ (l : List DequeId). map fresh_port l) (take_more ds k d b))

take_all : {A : Type 0} (l : List A) (k : ℕ) → length l ≡ k → take k l ≡ l
take_all l k e = ap (λ z. take k z) (sym (append-nil l)) ∙ take_at l [] k e

pub ports_all : (ds : List DequeId) (k : ℕ) → length ds ≡ k → map fresh_port (take k ds) ≡ map fresh_port ds
ports_all ds k e = ap (λ (l : List DequeId). map fresh_port l) (take_all ds k e)

pub can_leave : (ds : List DequeId) (j : ℕ) → j < length ds → length ds ≤ 64 → CanLeave ds (seated_below j ds)
can_leave ds j b few =
    let f : ℕ → DequeId → HandView = λ k d. seated (1024 - j) (cond (nat_lt k j) (map fresh_port ds) []) k d in record {
      deques = each_map (λ (v : HandView). v.home.deque) f 0 ds ∙ map_each 0 ds;
      parts = λ k v at.
          let x = each_there f 0 k k ds v (omega arith) at in
          let p : v.home.log.parts ≡ 1024 - j = ap (λ (z : HandView). z.home.log.parts) x.2 in
          let q : v.home.tally.parts ≡ 1024 - j = ap (λ (z : HandView). z.home.tally.parts) x.2 in
          (omega arith, omega arith);
    }

less_next : (k j : ℕ) → k ≢ j → nat_lt k (j + 1) ≡ nat_lt k j
less_next k j n = grind (arith, nat_tests)

pub seats_next : (ds : List DequeId) (j : ℕ) (v w : HandView) → j < length ds
    → v ≡ get_or (map left_hand (seated_below j ds)) j v → w ≡ record v { ports = map fresh_port ds }
    → set (map left_hand (seated_below j ds)) j w ≡ seated_below (j + 1) ds
seats_next ds j v w b at e =
    let full : List PortView = map fresh_port ds in
    let f : ℕ → DequeId → HandView = λ k d. seated (1024 - j) (cond (nat_lt k j) full []) k d in
    let l : ℕ → DequeId → HandView = λ k d. left_hand (f k d) in
    let g : ℕ → DequeId → HandView = λ k d. seated (1024 - (j + 1)) (cond (nat_lt k (j + 1)) full []) k d in
    let c : HandView → HandView = λ u. record u { ports = full } in
    let n : length (map left_hand (seated_below j ds)) ≡ length ds =
    length-map (seated_below j ds) left_hand ∙ length_each f 0 ds in
    let p : 1024 - (j + 1) ≡ 1024 - j - 1 = omega arith in
    let q : nat_lt j (j + 1) ≡ true = lt-ltb j (j + 1) (omega arith) in
    ap (λ (z : HandView). set (map left_hand (seated_below j ds)) j z) e
    ∙ change_at c (map left_hand (seated_below j ds)) j v (omega arith) at
    ∙ ap (λ (z : List HandView). change c j z) (each_map left_hand f 0 ds)
    ∙ each_change c l g 0 j j ds (omega arith) (λ x. (λ i. seated (p i) (cond (q i) full []) j x))
    (λ k x away. let r = less_next k j away in (λ i. seated (p i) (cond (r i) full []) k x))

pub seats_all : (ds : List DequeId) (j : ℕ) → j ≡ length ds → seated_below j ds ≡ seated_hands ds
seats_all ds j e = each_same (λ k d. seated (1024 - j) (cond (nat_lt k j) (map fresh_port ds) []) k d)
    (seated (1024 - length ds) (map fresh_port ds)) 0 ds
    (λ k x low b. let q = lt-ltb k j (omega arith) in (λ i.
    seated (1024 - e i) (cond (q i) (map fresh_port ds) []) k x))

goes : ℕ → ℕ → Piece → Bool
goes hands k x = nat_eq (x.number % hands) k

dealt_here : (hands n : ℕ) (xs : List Piece) (x : Piece) → n ≡ x.number % hands
    → dealt_to hands n (xs ++ x ∷ []) ≡ dealt_to hands n xs ++ x ∷ []
dealt_here hands n xs x e =
    let q : nat_eq (x.number % hands) n ≡ true = grind (arith, nat_tests) in
    filter-append (λ (y : Piece). nat_eq (y.number % hands) n) xs (x ∷ [])
    ∙ (λ i. dealt_to hands n xs ++ cond (q i) (x ∷ []) [])

dealt_else : (hands n : ℕ) (xs : List Piece) (x : Piece) → n ≢ x.number % hands
    → dealt_to hands n (xs ++ x ∷ []) ≡ dealt_to hands n xs
dealt_else hands n xs x e =
    let q : nat_eq (x.number % hands) n ≡ false = grind (arith, nat_tests) in
    filter-append (λ (y : Piece). nat_eq (y.number % hands) n) xs (x ∷ [])
    ∙ (λ i. dealt_to hands n xs ++ cond (q i) (x ∷ []) []) ∙ append-nil (dealt_to hands n xs)

few_dealt : (hands k : ℕ) (xs : List Piece) → length (dealt_to hands k xs) ≤ length xs
few_dealt hands k xs = omega (
  arith,
  length-filter (λ (y : Piece). nat_eq (y.number % hands) k) xs,
  count_by-le-length (λ (y : Piece). nat_eq (y.number % hands) k) xs,
)

new_at : List DequeId → List Piece → ℕ → DequeId → HandView
new_at ds done k d = new_hand ds k d (dealt_to (length ds) k done)

pub deals_at : (ds : List DequeId) (done : List Piece) (k : ℕ) (v : HandView) (d : DequeId) → k < length ds
    → length ds ≤ 64 → length done < 4096 → v ≡ get_or (new_hands ds done) k v → d ≡ get_or ds k d → CanDeal d v
deals_at ds done k v d b few room at at' =
    let e : v ≡ new_hand ds k d (dealt_to (length ds) k done) =
    at ∙ each_get (λ n x. new_hand ds n x (dealt_to (length ds) n done)) 0 k k ds d v (omega arith) b at' in
    subst (λ (z : HandView). CanDeal d z) (sym e) (record {
      deque_is = refl;
      boss = refl;
      put = refl;
      parts = (omega arith, omega arith);
      room = omega (arith, few_dealt (length ds) k done);
      count = refl;
    })

push_dealt : (ds : List DequeId) (k : ℕ) (d : DequeId) (xs : List Piece) (x : Piece)
    → new_hand ds k d (xs ++ x ∷ []) ≡ dealt_one x (new_hand ds k d xs)
push_dealt ds k d xs x =
    let n : length (xs ++ x ∷ []) ≡ suc (length xs) = omega (arith, length-append xs (x ∷ [])) in
    (λ i. record {
      name = k;
      count = n i;
      home = record {
        deque = d;
        log = record { parts = 1024 - length ds; own = xs ++ x ∷ []; got = [] };
        tally = record { parts = 1024 - length ds; boss = true; put = n i; gone = 0; found = 0; mark = false };
      };
      ports = map fresh_port ds;
    })

pub deals_next : (ds : List DequeId) (done : List Piece) (x : Piece) (k : ℕ) (v w : HandView) → k ≡ x.number % length ds
    → k < length ds → v ≡ get_or (new_hands ds done) k v → w ≡ dealt_one x v
    → set (new_hands ds done) k w ≡ new_hands ds (done ++ x ∷ [])
deals_next ds done x k v w e b at is =
    let f : ℕ → DequeId → HandView = λ n y. new_hand ds n y (dealt_to (length ds) n done) in
    let g : ℕ → DequeId → HandView = λ n y. new_hand ds n y (dealt_to (length ds) n (done ++ x ∷ [])) in
    let n : length (new_hands ds done) ≡ length ds = length_each f 0 ds in
    ap (λ (z : HandView). set (new_hands ds done) k z) is ∙ change_at (dealt_one x) (new_hands ds done) k v
    (omega arith) at
    ∙ each_change (dealt_one x) f g 0 k k ds (omega arith)
    (λ y. ap (λ (l : List Piece). new_hand ds k y l) (dealt_here (length ds) k done x e)
    ∙ push_dealt ds k y (dealt_to (length ds) k done) x)
    (λ j y away. ap (λ (l : List Piece). new_hand ds j y l) (dealt_else (length ds) j done x (λ p. away (p ∙ sym e))))

rise_numbered : (i : ℕ) (xs : List Piece) → ((k : ℕ) (x : Piece) → slice_get xs k ≡ Some x → x.number ≡ i + k)
    → Rise i xs (i + length xs)
rise_numbered i [] h = omega arith
rise_numbered i (x ∷ xs) h =
    let e : x.number ≡ i = omega (arith, h 0 x refl) in (
      omega arith,
      subst (λ (z : ℕ). Rise (suc x.number) xs z) (omega arith)
          (rise_numbered (suc x.number) xs (λ k y at. omega (arith, h (suc k) y at))),
    )

rise_lower : (a b high : ℕ) (xs : List Piece) → a ≤ b → Rise b xs high → Rise a xs high
rise_lower a b high [] l r = omega arith
rise_lower a b high (x ∷ xs) l r = (omega (arith, r.0), r.1)

rise_filter : (p : Piece → Bool) (low high : ℕ) (xs : List Piece) → Rise low xs high → Rise low (filter p xs) high
rise_filter p low high [] r = r
rise_filter p low high (x ∷ xs) r = by (rise_filter p (suc x.number) high xs r.1) (p x)
  where
    by : Rise (suc x.number) (filter p xs) high → (b : Bool) → Rise low (cond b (x ∷ filter p xs) (filter p xs)) high
    by more true = (r.0, more)
    by more false = rise_lower low (suc x.number) high (filter p xs) (omega (arith, r.0)) more

-- what passes a filter stood in the list, and passes the test
filter_there : (p : Piece → Bool) (xs : List Piece) (i : ℕ) (x : Piece) → slice_get (filter p xs) i ≡ Some x
    → (p x ≡ true) × ((j : ℕ) × (slice_get xs j ≡ Some x))
filter_there p [] i x at = absurd (cc)
filter_there p (y ∷ ys) i x at = by (λ k e. filter_there p ys k x e) (p y) refl i at
  where
    by : ((k : ℕ) → slice_get (filter p ys) k ≡ Some x → (p x ≡ true) × ((j : ℕ) × (slice_get ys j ≡ Some x)))
        → (b : Bool) → p y ≡ b → (i : ℕ) → slice_get (cond b (y ∷ filter p ys) (filter p ys)) i ≡ Some x
        → (p x ≡ true) × ((j : ℕ) × (slice_get (y ∷ ys) j ≡ Some x))
    by more true e zero at = (sym (ap p (same_Some y x at)) ∙ e, (0, at))
    by more true e (suc i) at = let r = more i at in (r.0, (suc r.1.0, r.1.1))
    by more false e i at = let r = more i at in (r.0, (suc r.1.0, r.1.1))

pub are_hands : (pool : List DequeId) (pieces : List Piece) → AreNumbered pieces → length pieces ≤ 4096
    → length pool ≤ 64 → AreHandsOf pool (new_hands pool pieces)
are_hands pool pieces numbered few small =
    let f : ℕ → DequeId → HandView = λ n y. new_hand pool n y (dealt_to (length pool) n pieces) in record {
      few = small;
      count = length_each f 0 pool;
      each = λ k v at.
          let x = each_there f 0 k k pool v (omega arith) at in
          let xs : List Piece = dealt_to (length pool) k pieces in (
            ap (λ (z : HandView). z.name) x.2,
            subst (λ (z : HandView). IsHandOf pool z) (sym x.2) (record {
              ports = map-map standing fresh_port pool;
              few = small;
              below = slice_get_within pool k x.0 x.1;
              deque = x.1;
              count = omega arith;
              most = omega (arith, few_dealt (length pool) k pieces);
              boss = refl;
              put = refl;
              parts = (refl, refl);
              none = (refl, refl);
              tell = λ i y ay.
                  let r = filter_there (λ (z : Piece). nat_eq (z.number % length pool) k) pieces i y ay in
                  let n : y.number ≡ r.1.0 = numbered r.1.0 y r.1.1 in
                  let e : y.number % length pool ≡ k = eqb-true (y.number % length pool) k r.0 in
                  inl (omega (arith, n, slice_get_within pieces r.1.0 y r.1.1, few), e);
              numbers = rise_more 0 (0 + length pieces) ((k + 1) * 2 ^ 32 + (length xs - length xs)) xs (omega arith)
                  (rise_filter (λ (y : Piece). nat_eq (y.number % length pool) k) 0 (0 + length pieces) pieces
                  (rise_numbered 0 pieces (λ j y a. omega (arith, numbered j y a))));
            }),
          );
    }

-- the pieces `done` are dealt, and the pieces `left` are not
pub record IsDealing (ds : List DequeId) (all left : List Piece) (hands : List HandView) : Type 0 where
  pub done : List Piece
  pub whole : done ++ left ≡ all
  pub dealt : hands ≡ new_hands ds done

-- the next piece is dealt to the hand k
pub deals_one : (ds : List DequeId) (all left : List Piece) (hands : List HandView) (x : Piece) (k : ℕ) (v w : HandView)
    → IsDealing ds all (x ∷ left) hands → k ≡ x.number % length ds → k < length ds → v ≡ get_or hands k v
    → w ≡ dealt_one x v
    → IsDealing ds all left (set hands k w)
deals_one ds all left hands x k v w j e b at is = record {
  done = j.done ++ x ∷ [];
  whole = append_assoc j.done (x ∷ []) left ∙ j.whole;
  dealt = ap (λ (l : List HandView). set l k w) j.dealt ∙ deals_next ds j.done x k v w e b
      (at ∙ ap (λ (l : List HandView). get_or l k v) j.dealt) is;
}

pub may_deal : (ds : List DequeId) (all left : List Piece) (hands : List HandView) (x : Piece) (k : ℕ) (v : HandView)
    (d : DequeId) → IsDealing ds all (x ∷ left) hands → k < length ds → length ds ≤ 64 → length all ≤ 4096
    → v ≡ get_or hands k v → d ≡ get_or ds k d → CanDeal d v
may_deal ds all left hands x k v d j b few most at at' =
    let n : length j.done + length (x ∷ left) ≡ length all =
    sym (length-append j.done (x ∷ left)) ∙ ap (λ (l : List Piece). length l) j.whole in
    let m : length (x ∷ left) ≡ suc (length left) = refl in
    deals_at ds j.done k v d b few (omega (arith, n, m, most)) (at ∙ ap (λ (l : List HandView). get_or l k v) j.dealt)
    at'

pub hands_dealing : (ds : List DequeId) (all left : List Piece) (hands : List HandView) → IsDealing ds all left hands
    → length hands ≡ length ds
hands_dealing ds all left hands j = ap (λ (l : List HandView). length l) j.dealt
    ∙ length_each (λ n y. new_hand ds n y (dealt_to (length ds) n j.done)) 0 ds

pub deals_all : (ds : List DequeId) (all : List Piece) (hands : List HandView) → IsDealing ds all [] hands
    → hands ≡ new_hands ds all
deals_all ds all hands j = j.dealt ∙ ap (λ (l : List Piece). new_hands ds l) (sym (append-nil j.done) ∙ j.whole)

pub seats_one : (ds : List DequeId) (j : ℕ) (before now : List HandView) (v w : HandView) → j < length ds
    → before ≡ seated_below j ds → now ≡ map left_hand before → v ≡ get_or now j v
    → w ≡ record v { ports = map fresh_port ds }
    → set now j w ≡ seated_below (j + 1) ds
seats_one ds j before now v w b e left at is =
    let all : now ≡ map left_hand (seated_below j ds) = left ∙ ap (λ (l : List HandView). map left_hand l) e in
    ap (λ (l : List HandView). set l j w) all ∙ seats_next ds j v w b
    (at ∙ ap (λ (l : List HandView). get_or l j v) all) is

pub seats_count : (ds : List DequeId) (j : ℕ) (before now : List HandView) → before ≡ seated_below j ds
    → now ≡ map left_hand before → length now ≡ length ds
seats_count ds j before now e left =
    ap (λ (l : List HandView). length l) (left ∙ ap (λ (l : List HandView). map left_hand l) e)
    ∙ length-map (seated_below j ds) left_hand
    ∙ length_each (λ k d. seated (1024 - j) (cond (nat_lt k j) (map fresh_port ds) []) k d) 0 ds
