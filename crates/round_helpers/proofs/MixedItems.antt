-- The items at two lists of places that are merged: they are those of both, in another order.
use Rattle.std.proofs.Common.{◌≡◌, ℕ, suc, ◌+◌, Bool, true, false, cond, List, [], ◌∷◌, ◌++◌, length, length-append}
use Rattle.std.proofs.Common.{refl, sym, ap, ◌∙◌, subst, arith, Some}
use Rattle.std.proofs.lemmas.List.{append-nil}
use Rattle.std.specs.Prelude.{slice_get, nat_lt}
use Rattle.line_instance.specs.Line.{Line}
use Rattle.line_rules.specs.Units.{UnitsOf}
use Rattle.line_rules.specs.declared.types.Entry.{Entry}
use Rattle.line_rules.proofs.ListFacts.{get_longer}
use Rattle.lemma_core.specs.History.{Item, Begins}
use Rattle.lemma_core.specs.Own.{AreAt, added_of}
use Rattle.lemma_core.proofs.OwnFacts.{at_longer}
use Rattle.station_search.proofs.Events.{added_both}
use Rattle.book_share.specs.Passes.{PassView}
use Rattle.book_share.specs.Places.{put_in, merged}
use Rattle.round_helpers.specs.Growth.{AreAtCycle}
use Rattle.round_helpers.specs.inner.Seats.{HasAdded}
use Rattle.round_helpers.proofs.AddedEntries.{cycles_both}
use Rattle.line_rules.proofs.ListUnits.{units_both}

units_apart : (line : Line) (xs ys : List Entry) (n : ℕ) → UnitsOf line (xs ++ ys) n
    → (a : ℕ) × (b : ℕ) × (UnitsOf line xs a × UnitsOf line ys b × (n ≡ a + b))
units_apart line [] ys n h = (0, n, (refl, h, omega arith))
units_apart line (x ∷ xs) ys n h =
    let r = units_apart line xs ys h.1 h.2.1 in
    (h.0 + r.0, r.1, ((h.0, r.0, (h.2.0, r.2.0, refl)), r.2.1, omega (arith, h.2.2, r.2.2)))

cycles_left : (X : ℕ) (xs ys : List Entry) → AreAtCycle X (xs ++ ys) → AreAtCycle X xs
cycles_left X xs ys h k e g = h k e (get_longer xs ys k e g)

cycles_right : (X : ℕ) (xs ys : List Entry) → AreAtCycle X (xs ++ ys) → AreAtCycle X ys
cycles_right X [] ys h = h
cycles_right X (x ∷ xs) ys h = cycles_right X xs ys (λ k e g. h (suc k) e g)

module _ (line : Line) (X : ℕ) where
  -- the second list is ds long ds the first one, at the same cycle, and with the same units
  record IsLike (es gs : List Entry) : Type 0 where
    long : length gs ≡ length es
    cycles : AreAtCycle X es → AreAtCycle X gs
    units : (n : ℕ) → UnitsOf line es n → UnitsOf line gs n

  like_same : (es gs : List Entry) → es ≡ gs → IsLike es gs
  like_same es gs e =
      let P : List Entry → Type 0 = λ z. IsLike es z in
      subst P e (record { long = refl; cycles = λ c. c; units = λ n u. u })

  like_then : (es gs hs : List Entry) → IsLike es gs → IsLike gs hs → IsLike es hs
  like_then es gs hs a b = record {
    long = b.long ∙ a.long;
    cycles = λ c. b.cycles (a.cycles c);
    units = λ n u. b.units n (a.units n u);
  }

  like_behind : (ds es gs : List Entry) → IsLike es gs → IsLike (ds ++ es) (ds ++ gs)
  like_behind ds es gs l = record {
    long = omega (arith, length-append ds es, length-append ds gs, l.long);
    cycles = λ c. cycles_both X ds gs (cycles_left X ds es c) (l.cycles (cycles_right X ds es c));
    units = λ n u.
        let r = units_apart line ds es n u in
        let P : ℕ → Type 0 = λ z. UnitsOf line (ds ++ gs) z in
        subst P (sym r.2.2) (units_both line ds gs r.0 r.1 r.2.0 (l.units r.1 r.2.1));
  }

  -- two lists in front of a third change places
  like_turned : (ds bs cs : List Entry) → IsLike (ds ++ (bs ++ cs)) (bs ++ (ds ++ cs))
  like_turned ds bs cs = record {
    long = omega (
      arith,
      length-append ds (bs ++ cs),
      length-append bs cs,
      length-append bs (ds ++ cs),
      length-append ds cs,
    );
    cycles = λ c.
        let r : AreAtCycle X (bs ++ cs) = cycles_right X ds (bs ++ cs) c in
        cycles_both X bs (ds ++ cs) (cycles_left X bs cs r)
        (cycles_both X ds cs (cycles_left X ds (bs ++ cs) c) (cycles_right X bs cs r));
    units = λ n u.
        let r = units_apart line ds (bs ++ cs) n u in
        let s = units_apart line bs cs r.1 r.2.1 in
        let P : ℕ → Type 0 = λ z. UnitsOf line (bs ++ (ds ++ cs)) z in
        let e : s.0 + (r.0 + s.1) ≡ n = omega (arith, r.2.2, s.2.2) in
        subst P e (units_both line bs (ds ++ cs) s.0 (r.0 + s.1) s.2.0 (units_both line ds cs r.0 s.1 r.2.0 s.2.1));
  }

  -- items, and the same in another order
  IsMix : List Item → List Item → Type 0
  IsMix is zs = IsLike (added_of is) (added_of zs)

  mix_behind : (i : Item) (is zs : List Item) → IsLike (added_of is) (added_of zs)
      → IsLike (added_of (i ∷ is)) (added_of (i ∷ zs))
  mix_behind i is zs l =
      let a : added_of (i ∷ is) ≡ added_of (i ∷ []) ++ added_of is = added_both (i ∷ []) is in
      let b : added_of (i ∷ zs) ≡ added_of (i ∷ []) ++ added_of zs = added_both (i ∷ []) zs in
      like_then (added_of (i ∷ is)) (added_of (i ∷ []) ++ added_of is) (added_of (i ∷ zs))
      (like_same (added_of (i ∷ is)) (added_of (i ∷ []) ++ added_of is) a)
      (like_then (added_of (i ∷ []) ++ added_of is) (added_of (i ∷ []) ++ added_of zs) (added_of (i ∷ zs))
      (like_behind (added_of (i ∷ [])) (added_of is) (added_of zs) l)
      (like_same (added_of (i ∷ []) ++ added_of zs) (added_of (i ∷ zs)) (sym b)))

  -- items, and then one more, is that one and then the items
  mix_turned : (is js : List Item) (j : Item) → IsLike (added_of (is ++ j ∷ js)) (added_of (j ∷ (is ++ js)))
  mix_turned is js j =
      let A : List Entry = added_of is in
      let B : List Entry = added_of (j ∷ []) in
      let C : List Entry = added_of js in
      let a : added_of (is ++ j ∷ js) ≡ A ++ (B ++ C) =
      added_both is (j ∷ js) ∙ ap (λ (z : List Entry). A ++ z) (added_both (j ∷ []) js) in
      let b : added_of (j ∷ (is ++ js)) ≡ B ++ (A ++ C) =
      added_both (j ∷ []) (is ++ js) ∙ ap (λ (z : List Entry). B ++ z) (added_both is js) in
      like_then (added_of (is ++ j ∷ js)) (A ++ (B ++ C)) (added_of (j ∷ (is ++ js)))
      (like_same (added_of (is ++ j ∷ js)) (A ++ (B ++ C)) a)
      (like_then (A ++ (B ++ C)) (B ++ (A ++ C)) (added_of (j ∷ (is ++ js)))
      (like_turned A B C)
      (like_same (B ++ (A ++ C)) (added_of (j ∷ (is ++ js))) (sym b)))

  -- items at these places that are those, in another order
  record HasMix (h : List Item) (ps : List ℕ) (is : List Item) : Type 0 where
    mix : List Item
    there : AreAt h ps mix
    like : IsLike (added_of is) (added_of mix)

  put_case : (h : List Item) (y p : ℕ) (ps : List ℕ) (j i : Item) (is : List Item) (b : Bool) → slice_get h y ≡ Some j
      → AreAt h (p ∷ ps) (i ∷ is)
      → HasMix h (put_in y ps) (j ∷ is)
      → HasMix h (cond b (y ∷ p ∷ ps) (p ∷ put_in y ps)) (j ∷ i ∷ is)
  put_case h y p ps j i is true e a m = record {
    mix = j ∷ i ∷ is;
    there = (e, a);
    like = like_same (added_of (j ∷ i ∷ is)) (added_of (j ∷ i ∷ is)) refl;
  }
  put_case h y p ps j i is false e a m = record {
    mix = i ∷ m.mix;
    there = (a.0, m.there);
    like = like_then (added_of (j ∷ i ∷ is)) (added_of (i ∷ j ∷ is)) (added_of (i ∷ m.mix))
        (mix_turned (j ∷ []) is i)
        (mix_behind i (j ∷ is) m.mix m.like);
  }

  put_items : (h : List Item) (y : ℕ) (j : Item) (ps : List ℕ) (is : List Item) → slice_get h y ≡ Some j → AreAt h ps is
      → HasMix h (put_in y ps) (j ∷ is)
  put_items h y j [] [] e a = record {
    mix = j ∷ [];
    there = (e, tt);
    like = like_same (added_of (j ∷ [])) (added_of (j ∷ [])) refl;
  }
  put_items h y j [] (i ∷ is) e a = absurd a
  put_items h y j (p ∷ ps) [] e a = absurd a
  put_items h y j (p ∷ ps) (i ∷ is) e a = put_case h y p ps j i is (nat_lt y p) e a (put_items h y j ps is e a.1)

  merged_items : (h : List Item) (ps qs : List ℕ) (is js : List Item) → AreAt h ps is → AreAt h qs js
      → HasMix h (merged ps qs) (is ++ js)
  merged_items h ps [] is [] a b = record {
    mix = is;
    there = a;
    like = like_same (added_of (is ++ [])) (added_of is) (ap (λ (z : List Item). added_of z) (append-nil is));
  }
  merged_items h ps [] is (j ∷ js) a b = absurd b
  merged_items h ps (q ∷ qs) is [] a b = absurd b
  merged_items h ps (q ∷ qs) is (j ∷ js) a b =
      let m : HasMix h (merged ps qs) (is ++ js) = merged_items h ps qs is js a b.1 in
      let n : HasMix h (put_in q (merged ps qs)) (j ∷ m.mix) = put_items h q j (merged ps qs) m.mix b.0 m.there in
      record {
        mix = n.mix;
        there = n.there;
        like = like_then (added_of (is ++ j ∷ js)) (added_of (j ∷ (is ++ js))) (added_of n.mix) (mix_turned is js j)
            (like_then (added_of (j ∷ (is ++ js))) (added_of (j ∷ m.mix)) (added_of n.mix)
            (mix_behind j (is ++ js) m.mix m.like) n.like);
      }

  -- what two passes added is what the pass added that has the places of both and has seen what either has
  pub added_joined : (v w z : PassView) (s t : ℕ) → HasAdded line X v s → HasAdded line X w t → Begins v.seen z.seen
      → Begins w.seen z.seen → z.own ≡ merged v.own w.own
      → HasAdded line X z (s + t)
  added_joined v w z s t a b from_v from_w own =
      let m : HasMix z.seen (merged v.own w.own) (a.items ++ b.items) =
      merged_items z.seen v.own w.own a.items b.items (at_longer v.seen z.seen v.own a.items from_v a.there)
      (at_longer w.seen z.seen w.own b.items from_w b.there) in
      let e : added_of (a.items ++ b.items) ≡ added_of a.items ++ added_of b.items = added_both a.items b.items in
      let P : List ℕ → Type 0 = λ ps. AreAt z.seen ps m.mix in
      let C : List Entry → Type 0 = λ es. AreAtCycle X es in
      let U : List Entry → Type 0 = λ es. UnitsOf line es (a.published + b.published) in
      record {
        items = m.mix;
        there = subst P (sym own) m.there;
        cycles = m.like.cycles
            (subst C (sym e) (cycles_both X (added_of a.items) (added_of b.items) a.cycles b.cycles));
        few = omega (
          arith,
          m.like.long,
          ap (λ (es : List Entry). length es) e,
          length-append (added_of a.items) (added_of b.items),
          a.few,
          b.few,
        );
        published = a.published + b.published;
        units = m.like.units (a.published + b.published)
            (subst U (sym e)
            (units_both line (added_of a.items) (added_of b.items) a.published b.published a.units b.units));
        within = omega (arith, a.within, b.within);
      }
