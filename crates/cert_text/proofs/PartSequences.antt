-- Parts one behind the other: whose lines are a value's, and the faults of each part.
use Rattle.std.proofs.Common.{◌≡◌, ℕ, zero, suc, ◌+◌, ◌<◌, ◌≤◌, List, [], ◌∷◌, ◌++◌, length, map, refl, sym, ◌∙◌, ap}
use Rattle.std.proofs.Common.{subst, arith, Some, Ok, Err, ◌⊎◌, inl, inr, append_assoc, length-append}
use Rattle.std.specs.Prelude.{slice_get}
use Rattle.std.proofs.lemmas.List.{append-nil, map-append, length-map, append_cancel_left}
use Rattle.std.proofs.lemmas.Bool.{cases_lt}
use Rattle.cert_lines.specs.Rows.{Row, row_text, rows_text}
use Rattle.cert_lines.specs.Faults.{Grammar, Next}
use Rattle.cert_lines.specs.Pattern.{one, each, IsRead, then_}
use Rattle.cert_lines.specs.declared.fault.ReadError.{ReadError}
use Rattle.cert_lines.specs.declared.fault.ReadError.TheVariants as errors
pub use Rattle.cert_lines.specs.Telling.{texts, Unique}
use Rattle.cert_lines.proofs.TextParts.{Continues, fault_behind, rows_lines, rows_append}

pub unique_one : {V : Type 0} (row : V → Row) (ranged : V → Type 0)
    → ((v w : V) → ranged v → ranged w → row_text (row v) ≡ row_text (row w) → v ≡ w) → Unique (one row ranged)
unique_one row ranged h v w a b x y e =
    let t : row_text (row v) ≡ row_text (row w) = cc in
    let r : x ≡ y = cc in
    (h v w a b t, r)

unique_lists : {V : Type 0} (row : V → Row) (ranged : V → Type 0)
    → ((v w : V) → ranged v → ranged w → row_text (row v) ≡ row_text (row w) → v ≡ w) → (vs ws : List V)
    → ((k : ℕ) (v : V) → slice_get vs k ≡ Some v → ranged v) → ((k : ℕ) (v : V) → slice_get ws k ≡ Some v → ranged v)
    → length vs ≡ length ws → (x y : List (List ℕ)) → texts (map row vs) ++ x ≡ texts (map row ws) ++ y
    → (vs ≡ ws) × (x ≡ y)
unique_lists row ranged h [] [] a b l x y e = (refl, e)
unique_lists row ranged h [] (w ∷ ws) a b l x y e = absurd (omega arith)
unique_lists row ranged h (v ∷ vs) [] a b l x y e = absurd (omega arith)
unique_lists row ranged h (v ∷ vs) (w ∷ ws) a b l x y e =
    let t : row_text (row v) ≡ row_text (row w) = cc in
    let r : texts (map row vs) ++ x ≡ texts (map row ws) ++ y = cc in
    let i = unique_lists row ranged h vs ws (λ k u f. a (suc k) u f) (λ k u f. b (suc k) u f) (omega arith) x y r in
    (ap (λ z. z ∷ vs) (h v w (a zero v refl) (b zero w refl) t) ∙ ap (λ z. w ∷ z) i.0, i.1)

pub unique_each : {V : Type 0} (row : V → Row) (ranged : V → Type 0) (count : ℕ)
    → ((v w : V) → ranged v → ranged w → row_text (row v) ≡ row_text (row w) → v ≡ w) → Unique (each row ranged count)
unique_each row ranged count h v w a b x y e = unique_lists row ranged h v w a.each b.each (a.many ∙ sym b.many) x y e

regroup : (a b : List Row) (x : List (List ℕ)) → texts (a ++ b) ++ x ≡ texts a ++ (texts b ++ x)
regroup a b x = ap (λ z. z ++ x) (map-append row_text a b) ∙ append_assoc (texts a) (texts b) x

pub unique_then : {A B : Type 0} (g : Grammar A) (h : A → Grammar B) → Unique g → ((a : A) → g.ranged a → Unique (h a))
    → Unique (then_ g h)
unique_then {B = B} g h p q v w a b x y e =
    let f = p v.0 w.0 a.0 b.0 (texts ((h v.0).rows v.1) ++ x) (texts ((h w.0).rows w.1) ++ y)
    (sym (regroup (g.rows v.0) ((h v.0).rows v.1) x) ∙ e ∙ regroup (g.rows w.0) ((h w.0).rows w.1) y) in
    let P : _ → Type 0 = λ z. (u : B) → (h z).ranged u → texts ((h v.0).rows v.1) ++ x ≡ texts ((h z).rows u) ++ y
    → (v.1 ≡ u) × (x ≡ y) in
    let r : (v.1 ≡ w.1) × (x ≡ y) = subst P f.0 (λ u k m. q v.0 a.0 v.1 u a.1 k x y m) w.1 b.1 f.1 in
    (ap (λ z. (z, v.1)) f.0 ∙ ap (λ z. (w.0, z)) r.0, r.1)

split_long : (xs ys zs ws : List Row) → xs ++ ys ≡ zs ++ ws → length xs ≤ length zs
    → (t : List Row) × (zs ≡ xs ++ t) × (ys ≡ t ++ ws)
split_long [] ys zs ws e l = (zs, refl, e)
split_long (x ∷ xs) ys [] ws e l = absurd (omega arith)
split_long (x ∷ xs) ys (z ∷ zs) ws e l =
    let i = split_long xs ys zs ws (cc) (omega arith) in
    let h : x ≡ z = cc in
    (i.0, ap (λ w. w ∷ zs) (sym h) ∙ ap (λ w. x ∷ w) i.1, i.2)

split_short : (xs ys zs ws : List Row) (r : Row) → xs ++ ys ≡ zs ++ r ∷ ws → length zs < length xs
    → (t : List Row) × (xs ≡ zs ++ r ∷ t)
split_short [] ys zs ws r e l = absurd (omega arith)
split_short (x ∷ xs) ys [] ws r e l = let h : x ≡ r = cc in (xs, ap (λ w. w ∷ xs) h)
split_short (x ∷ xs) ys (z ∷ zs) ws r e l =
    let i = split_short xs ys zs ws r (cc) (omega arith) in
    let h : x ≡ z = cc in
    (i.0, ap (λ w. w ∷ xs) h ∙ ap (λ w. z ∷ w) i.1)

-- lines with one more have a line
pub none : (x : List (List ℕ)) (l : List ℕ) (y : List (List ℕ)) → x ++ l ∷ y ≡ [] → ⊥
none [] l y e = (cc)
none (z ∷ x) l y e = (cc)

-- the first part goes on as the whole does
pub first_continues : {A B : Type 0} (g : Grammar A) (h : A → Grammar B) → Unique g
    → ((a : A) → g.ranged a → (b : B) × (h a).ranged b) → Continues g (then_ g h) []
first_continues {A = A} {B = B} g h u some = record {
  to = λ b r n.
      let s = some n.value n.ranged in
      record {
        value = (n.value, s.0);
        ranged = (n.ranged, s.1);
        passed = n.passed;
        more = n.more ++ (h n.value).rows s.0;
        rows = ap (λ z. z ++ (h n.value).rows s.0) n.rows ∙ append_assoc n.passed (r ∷ n.more) ((h n.value).rows s.0);
        same = n.same;
      };
  from = λ b r r' n m. here b r r' n m (cases_lt (length m.passed) (length (g.rows m.value.0)));
}
  where
    here : (b : List (List ℕ)) (r r' : Row) (n : Next g b r') (m : Next (then_ g h) b r)
        → (length m.passed < length (g.rows m.value.0)) ⊎ (length (g.rows m.value.0) ≤ length m.passed) → Next g b r
    here b r r' n m (inl l) =
        let s = split_short (g.rows m.value.0) ((h m.value.0).rows m.value.1) m.passed m.more r m.rows l in
        record { value = m.value.0; ranged = m.ranged.0; passed = m.passed; more = s.0; rows = s.1; same = m.same }
    here b r r' n m (inr l) =
        let s = split_long (g.rows m.value.0) ((h m.value.0).rows m.value.1) m.passed (r ∷ m.more) m.rows l in
        let t : texts (g.rows n.value) ≡ texts (g.rows m.value.0) ++ (texts s.0 ++ row_text r' ∷ texts n.more) =
        ap texts n.rows ∙ map-append row_text n.passed (r' ∷ n.more)
        ∙ ap (λ z. z ++ row_text r' ∷ texts n.more) (n.same ∙ sym m.same ∙ ap texts s.1
        ∙ map-append row_text (g.rows m.value.0) s.0)
        ∙ append_assoc (texts (g.rows m.value.0)) (texts s.0) (row_text r' ∷ texts n.more) in
        absurd (none (texts s.0) (row_text r') (texts n.more)
        (u m.value.0 n.value m.ranged.0 n.ranged (texts s.0 ++ row_text r' ∷ texts n.more) []
        (sym t ∙ sym (append-nil (texts (g.rows n.value))))).1)

-- behind the lines of a first value the second part goes on
pub second_continues : {A B : Type 0} (g : Grammar A) (h : A → Grammar B) (a : A) → Unique g → g.ranged a
    → Continues (h a) (then_ g h) (texts (g.rows a))
second_continues {A = A} {B = B} g h a u k = record {
  to = λ b r n. record {
    value = (a, n.value);
    ranged = (k, n.ranged);
    passed = g.rows a ++ n.passed;
    more = n.more;
    rows = ap (λ z. g.rows a ++ z) n.rows ∙ sym (append_assoc (g.rows a) n.passed (r ∷ n.more));
    same = map-append row_text (g.rows a) n.passed ∙ ap (λ z. texts (g.rows a) ++ z) n.same;
  };
  from = λ b r r' n m. here b r m.value.0 m.value.1 m.passed m.more m.ranged.0 m.ranged.1 m.rows m.same;
}
  where
    here : (b : List (List ℕ)) (r : Row) (c : A) (d : B) (passed more : List Row) → g.ranged c → (h c).ranged d
        → g.rows c ++ (h c).rows d ≡ passed ++ r ∷ more → texts passed ≡ texts (g.rows a) ++ b → Next (h a) b r
    here b r c d passed more e f t s =
        let w : texts (g.rows c) ++ texts ((h c).rows d) ≡ texts (g.rows a) ++ (b ++ row_text r ∷ texts more) =
        sym (map-append row_text (g.rows c) ((h c).rows d)) ∙ ap texts t ∙ map-append row_text passed (r ∷ more)
        ∙ ap (λ z. z ++ row_text r ∷ texts more) s ∙ append_assoc (texts (g.rows a)) b (row_text r ∷ texts more) in
        let v = u c a e k (texts ((h c).rows d)) (b ++ row_text r ∷ texts more) w in
        let P : A → Type 0 = λ z. (h z).ranged d × (g.rows z ++ (h z).rows d ≡ passed ++ r ∷ more) in
        let q : (h a).ranged d × (g.rows a ++ (h a).rows d ≡ passed ++ r ∷ more) = subst P v.0 (f, t) in
        let long : length (g.rows a) ≤ length passed = omega (
          arith,
          sym (length-map passed row_text) ∙ ap length s ∙ length-append (texts (g.rows a)) b
              ∙ ap (λ n. n + length b) (length-map (g.rows a) row_text),
        ) in
        let x = split_long (g.rows a) ((h a).rows d) passed (r ∷ more) q.1 long in
        record {
          value = d;
          ranged = q.0;
          passed = x.0;
          more = more;
          rows = x.2;
          same = append_cancel_left (texts (g.rows a)) (texts x.0) b
              (sym (map-append row_text (g.rows a) x.0) ∙ ap texts (sym x.1) ∙ s);
        }

-- the errors of the first part, and those of the second
pub first_error : {A B : Type 0} (g : Grammar A) (h : A → Grammar B) (passed after after' : ℕ)
    (text rest rest' : List ℕ) (e : ReadError) → Unique g → ((a : A) → g.ranged a → (b : B) × (h a).ranged b)
    → IsRead g passed text rest after (Err e) → IsRead (then_ g h) passed text rest' after' (Err e)
first_error g h passed after after' text rest rest' (errors.Fault f) u some x =
    fault_behind g (then_ g h) [] passed passed text text f (first_continues g h u some) (omega arith) refl x
first_error g h passed after after' text rest rest' errors.Stopped u some x = tt

pub second_error : {A B : Type 0} (g : Grammar A) (h : A → Grammar B) (a : A) (passed middle after after' : ℕ)
    (text left rest rest' : List ℕ) (e : ReadError) → Unique g
    → IsRead g passed text left middle (Ok a) → IsRead (h a) middle left rest after (Err e)
    → IsRead (then_ g h) passed text rest' after' (Err e)
second_error g h a passed middle after after' text left rest rest' (errors.Fault f) u x y =
    fault_behind (h a) (then_ g h) (texts (g.rows a)) passed middle text left f (second_continues g h a u x.0)
    (x.2 ∙ ap (λ n. passed + n) (sym (length-map (g.rows a) row_text)))
    (x.1 ∙ ap (λ t. t ++ left) (sym (rows_lines (g.rows a)))) y
second_error g h a passed middle after after' text left rest rest' errors.Stopped u x y = tt

pub both_read : {A B : Type 0} (g : Grammar A) (h : A → Grammar B) (a : A) (b : B) (passed middle after : ℕ)
    (text left rest : List ℕ)
    → IsRead g passed text left middle (Ok a) → IsRead (h a) middle left rest after (Ok b)
    → IsRead (then_ g h) passed text rest after (Ok (a, b))
both_read g h a b passed middle after text left rest x y = (
  (x.0, y.0),
  x.1 ∙ ap (λ t. rows_text (g.rows a) ++ t) y.1 ∙ sym (append_assoc (rows_text (g.rows a)) (rows_text ((h a).rows b))
      rest) ∙ ap (λ t. t ++ rest) (sym (rows_append (g.rows a) ((h a).rows b))),
  omega (arith, x.2, y.2, length-append (g.rows a) ((h a).rows b)),
)

-- two grammars with the same texts
pub record Same {V W : Type 0} (g : Grammar V) (h : Grammar W) : Type 0 where
  pub to : V → W
  pub from : W → V
  pub to_ranged : (v : V) → g.ranged v → h.ranged (to v)
  pub from_ranged : (w : W) → h.ranged w → g.ranged (from w)
  pub to_rows : (v : V) → g.ranged v → h.rows (to v) ≡ g.rows v
  pub from_rows : (w : W) → h.ranged w → g.rows (from w) ≡ h.rows w

pub same_continues : {V W : Type 0} (g : Grammar V) (h : Grammar W) → Same g h → Continues g h []
same_continues g h s = record {
  to = λ b r n. record {
    value = s.to n.value;
    ranged = s.to_ranged n.value n.ranged;
    passed = n.passed;
    more = n.more;
    rows = s.to_rows n.value n.ranged ∙ n.rows;
    same = n.same;
  };
  from = λ b r r' m n. record {
    value = s.from n.value;
    ranged = s.from_ranged n.value n.ranged;
    passed = n.passed;
    more = n.more;
    rows = s.from_rows n.value n.ranged ∙ n.rows;
    same = n.same;
  };
}

pub same_error : {V W : Type 0} (g : Grammar V) (h : Grammar W) (passed after after' : ℕ) (text rest rest' : List ℕ)
    (e : ReadError) → Same g h → IsRead g passed text rest after (Err e) → IsRead h passed text rest' after' (Err e)
same_error g h passed after after' text rest rest' (errors.Fault f) s x =
    fault_behind g h [] passed passed text text f (same_continues g h s) (omega arith) refl x
same_error g h passed after after' text rest rest' errors.Stopped s x = tt

pub same_read : {V W : Type 0} (g : Grammar V) (h : Grammar W) (passed after : ℕ) (text rest : List ℕ) (v : V)
    (s : Same g h) → IsRead g passed text rest after (Ok v) → IsRead h passed text rest after (Ok (s.to v))
same_read g h passed after text rest v s x = (
  s.to_ranged v x.0,
  x.1
      ∙ ap (λ r. rows_text r ++ rest) (sym (s.to_rows v x.0)),
  x.2 ∙ ap (λ r. passed + length r) (sym (s.to_rows v x.0)),
)
