-- What the calls of a book do, seen as those of a desk that isn't alone.
use Rattle.std.proofs.Common.{◌≡◌, ℕ, zero, suc, ◌+◌, ◌-◌, ◌<◌, ◌≤◌, List, [], ◌∷◌, ◌++◌, length, refl, sym, ap, ◌∙◌}
use Rattle.std.proofs.Common.{subst, ◌⊎◌, inl, inr, arith, Some, append_assoc, length-append}
use Rattle.std.proofs.lemmas.Option.{same_Some}
use Rattle.std.specs.List.{range_with_len}
use Rattle.std.specs.Prelude.{slice_get}
use Rattle.line_rules.specs.Entries.{IsLastAnswer, IsUnanswered}
use Rattle.line_rules.specs.declared.types.Entry.{Entry}
use Rattle.lemma_core.specs.History.{Item, added, known, better, Standing, replay, Begins}
use Rattle.lemma_core.specs.Books.{BookView, desk_of}
use Rattle.lemma_core.specs.Desks.{Keeps, Waits, Adds, Publishes, Offers, Tells, HasOwn}
use Rattle.lemma_core.specs.declared.types.Published.{Published}
use Rattle.lemma_core.specs.declared.types.Published.TheVariants as published
use Rattle.lemma_core.specs.declared.types.Offered.{Offered}
use Rattle.lemma_core.specs.declared.types.Offered.TheVariants as offered
use Rattle.lemma_core.proofs.HistoryGrows.{keeps_none, keeps_both}
use Rattle.tests_search.specs.inner.Shared.{own_of, part_of}
use Rattle.lemma_core.proofs.BookAsDesk.{range_push, range_at}

after_range : (ys : List ℕ) (a from k x : ℕ) → slice_get (range_with_len a from ++ ys) k ≡ Some x
    → ((x ≡ a + k) × (k < from)) ⊎ ((j : ℕ) × (k ≡ from + j) × (slice_get ys j ≡ Some x))
after_range ys a zero k x e = inr (k, omega arith, e)
after_range ys a (suc from) zero x e = let same : a ≡ x = same_Some a x e in inl (omega (arith, same), omega arith)
after_range ys a (suc from) (suc k) x e = elim (after_range ys (a + 1) from k x e) [
  | inl p ↦ inl (omega (arith, p.0), omega (arith, p.1))
  | inr q ↦ inr (q.0, omega (arith, q.1), q.2)
]

own_at : (from to n k x : ℕ) → slice_get (own_of from to n) k ≡ Some x
    → ((x ≡ k) × (k < from)) ⊎ ((from ≤ k) × (x + from ≡ to + k) × (x < n))
own_at from to n k x e = elim (after_range (range_with_len to (n - to)) 0 from k x e) [
  | inl p ↦ inl (omega (arith, p.0), p.1)
  | inr q ↦ (let h : (x ≡ to + q.0) × (q.0 < n - to) = range_at to (n - to) q.0 x q.2 in
      inr (omega (arith, q.1), omega (arith, h.0, q.1), omega (arith, h.0, h.1)))
]

has_own : (b : BookView) (from to : ℕ) → from ≤ to → to ≤ length b.events → HasOwn (part_of b from to)
has_own b from to f t = record {
  rises = λ k x y e g. elim (own_at from to (length b.events) k x e) [
    | inl p ↦ elim (own_at from to (length b.events) (suc k) y g)
        [ inl q ↦ omega (arith, p.0, q.0) | inr q ↦ omega (arith, p.0, p.1, q.0, q.1, f) ]
    | inr p ↦ elim (own_at from to (length b.events) (suc k) y g)
        [ inl q ↦ omega (arith, p.0, q.1) | inr q ↦ omega (arith, p.1, q.1) ]
  ];
  within = λ k x e. elim (own_at from to (length b.events) k x e)
      [ inl p ↦ omega (arith, p.0, p.1, f, t) | inr p ↦ p.2 ];
}

own_push : (from to n : ℕ) → to ≤ n → own_of from to (suc n) ≡ own_of from to n ++ n ∷ []
own_push from to n h =
    let m : suc n - to ≡ suc (n - to) = omega (arith, h) in
    let e : to + (n - to) ≡ n = omega (arith, h) in
    ap (λ (k : ℕ). range_with_len 0 from ++ range_with_len to k) m
    ∙ (ap (λ (xs : List ℕ). range_with_len 0 from ++ xs) (range_push to (n - to)
    ∙ ap (λ (x : ℕ). range_with_len to (n - to) ++ x ∷ []) e)
    ∙ sym (append_assoc (range_with_len 0 from) (range_with_len to (n - to)) (n ∷ [])))

-- what a book keeps, a part in it keeps
keeps_too : (a b : BookView) (f t g u : ℕ) → Keeps (desk_of a) (desk_of b) → Keeps (part_of a f t) (part_of b g u)
keeps_too a b f t g u k = record {
  about = k.about;
  opening = k.opening;
  alone = refl;
  roomy = k.roomy;
  kept = refl;
  seen = k.seen;
}

-- no call, no event
part_waits : (b : BookView) (from to : ℕ) → Waits (part_of b from to) (part_of b from to)
part_waits b from to = record { keeps = keeps_none (part_of b from to); own = refl; still = λ t. absurd (cc) }

-- a call of the book that adds an event adds it for the part
adds_too : (a b n : BookView) (f t from to : ℕ) (before : List Item) (item : Item)
    → Waits (part_of a f t) (part_of b from to) → to ≤ length b.events
    → Adds (desk_of b) (desk_of n) before item → Adds (part_of a f t) (part_of n from to) before item
adds_too a b n f t from to before item w h d =
    let same : before ≡ b.events = d.still refl in
    let long : length n.events ≡ suc (length before) = omega
    (arith, ap (λ (xs : List Item). length xs) d.last, length-append before (item ∷ [])) in
    let at : length before ≡ length b.events = ap (λ (xs : List Item). length xs) same in
    record {
      keeps = keeps_both (part_of a f t) (part_of b from to) (part_of n from to) w.keeps
          (keeps_too b n from to from to d.keeps);
      last = d.last;
      since = let P : List Item → Type 0 = λ xs. Begins a.events xs in subst P (sym same) w.keeps.seen;
      own =
          ap (λ (m : ℕ). own_of from to m) long
          ∙ (own_push from to (length before) (omega (arith, h, at))
          ∙ ap (λ (xs : List ℕ). xs ++ length before ∷ []) (ap (λ (m : ℕ). own_of from to m) at ∙ w.own));
      still = λ e. absurd (cc);
    }

-- a call of the book that adds none adds none for the part
waits_too : (a b n : BookView) (f t from to : ℕ) → Waits (part_of a f t) (part_of b from to)
    → Waits (desk_of b) (desk_of n) → Waits (part_of a f t) (part_of n from to)
waits_too a b n f t from to w d = record {
  keeps = keeps_both (part_of a f t) (part_of b from to) (part_of n from to) w.keeps
      (keeps_too b n from to from to d.keeps);
  own = ap (λ (xs : List Item). own_of from to (length xs)) (d.still refl) ∙ w.own;
  still = λ e. absurd (cc);
}

pub publishes_too : (a b n : BookView) (f t from to : ℕ) (e : Entry) (r : Published)
    → Waits (part_of a f t) (part_of b from to) → to ≤ length b.events
    → Publishes (desk_of b) (desk_of n) e r → Publishes (part_of a f t) (part_of n from to) e r
publishes_too a b n f t from to e (published.Known id) w h p =
    let P : Standing → Type 0 = λ s. IsLastAnswer (replay s p.0).entries e.set e.most e.cycle id in
    (p.0, adds_too a b n f t from to p.0 (known id e.most) w h p.1, subst P w.keeps.opening p.2)
publishes_too a b n f t from to e (published.Added id) w h p =
    let P : Standing → Type 0 = λ s. IsUnanswered (replay s p.0).entries e.set e.most e.cycle in
    let Q : Standing → Type 0 = λ s. id ≡ length (replay s p.0).entries in
    (p.0, adds_too a b n f t from to p.0 (added id e) w h p.1, subst P w.keeps.opening p.2, subst Q w.keeps.opening p.3)
publishes_too a b n f t from to e published.NoMemory w h p = waits_too a b n f t from to w p

pub offers_too : (b n : BookView) (from to m : ℕ) (r : Offered) → to ≤ length b.events
    → Offers (desk_of b) (desk_of n) m r → Offers (part_of b from to) (part_of n from to) m r
offers_too b n from to m offered.Better h p = (
  p.0,
  adds_too b b n from to from to p.0 (better m) (part_waits b from to)
      h p.1,
  p.2,
)
offers_too b n from to m offered.NotBetter h p = (waits_too b b n from to from to (part_waits b from to) p.0, p.1)

pub tells_too : (b n : BookView) (from to m : ℕ) → Tells (desk_of b) (desk_of n) m
    → Tells (part_of b from to) (part_of n from to) m
tells_too b n from to m p = record {
  waits = waits_too b b n from to from to (part_waits b from to) p.waits;
  history = p.history;
  begins = p.begins;
  stations = p.stations;
  balance = p.balance;
  fewest = p.fewest;
  still = λ e. absurd (cc);
}

-- what an event more leaves of the book's list
publish_keeps : (b n : BookView) (e : Entry) (r : Published) → Publishes (desk_of b) (desk_of n) e r
    → Begins b.events n.events
publish_keeps b n e (published.Known id) p = p.1.keeps.seen
publish_keeps b n e (published.Added id) p = p.1.keeps.seen
publish_keeps b n e published.NoMemory p = p.keeps.seen

offer_keeps : (b n : BookView) (m : ℕ) (r : Offered) → Offers (desk_of b) (desk_of n) m r → Begins b.events n.events
offer_keeps b n m offered.Better p = p.1.keeps.seen
offer_keeps b n m offered.NotBetter p = p.0.keeps.seen

own_since : (b n : BookView) (from to : ℕ) → from ≤ to → to ≤ length b.events → Begins b.events n.events
    → HasOwn (part_of n from to)
own_since b n from to f t g = has_own n from to f (omega (
  arith,
  t,
  length-append b.events g.0,
  ap (λ (xs : List Item). length xs) g.1,
))

pub own_kept : (b n : BookView) (from to : ℕ) → from ≤ to → to ≤ length b.events → Waits (desk_of b) (desk_of n)
    → HasOwn (part_of n from to)
own_kept b n from to f t w = own_since b n from to f t w.keeps.seen

pub own_published : (b n : BookView) (from to : ℕ) (e : Entry) (r : Published) → from ≤ to → to ≤ length b.events
    → Publishes (desk_of b) (desk_of n) e r → HasOwn (part_of n from to)
own_published b n from to e r f t p = own_since b n from to f t (publish_keeps b n e r p)

pub own_offered : (b n : BookView) (from to m : ℕ) (r : Offered) → from ≤ to → to ≤ length b.events
    → Offers (desk_of b) (desk_of n) m r → HasOwn (part_of n from to)
own_offered b n from to m r f t p = own_since b n from to f t (offer_keeps b n m r p)
