-- Texts in parts: the faults of a part are faults of the whole.
use Rattle.std.proofs.Common.{◌≡◌, ◌≢◌, ℕ, zero, suc, ◌+◌, ◌-◌, ◌<◌, List, [], ◌∷◌, ◌++◌, length, map, replicate, refl}
use Rattle.std.proofs.Common.{sym, ◌∙◌, ap, subst, arith, Some, Ok, Err, Result, inl, inr, append_assoc, length-append}
use Rattle.std.specs.Prelude.{slice_get, MatchResult}
use Rattle.std.specs.Result.{IsErrAnd}
use Rattle.std.proofs.lemmas.List.{append-nil, map-append, length-map, length-replicate}
use Rattle.std.proofs.lemmas.Option.{same_Some, none-some}
use Rattle.cert_lines.specs.Rows.{Row, form_of, row_text, line_text, rows_text, lines_text}
use Rattle.cert_lines.specs.Faults.{IsLine, Grammar, Next, HasForm, IsWrong, IsFault}
use Rattle.cert_lines.specs.Pattern.{HasFormOf, IsJudged, one, AreSaid, each, IsRead}
use Rattle.cert_lines.specs.inner.Answering.{error_at}
use Rattle.cert_lines.specs.declared.fault.LineError.{LineError}
use Rattle.cert_lines.specs.declared.fault.LineError.TheVariants as lines
use Rattle.cert_lines.specs.declared.fault.ReadError.{ReadError}
use Rattle.cert_lines.specs.declared.fault.ReadError.TheVariants as errors
use Rattle.cert_lines.specs.Taking.{IsTaken}
use Rattle.cert_lines.specs.declared.fault.CertFault.{CertFault}
use Rattle.cert_lines.specs.declared.fault.CertKind.{CertKind}
use Rattle.cert_lines.specs.declared.fault.CertKind.TheVariants.{Ended, Form as NoForm, Range, Trailing}

-- the texts of lines, with an LF each, are the text of rows
pub rows_lines : (rows : List Row) → lines_text (map row_text rows) ≡ rows_text rows
rows_lines [] = refl
rows_lines (r ∷ rows) = ap (λ t. line_text r ++ t) (rows_lines rows)

pub lines_append : (a b : List (List ℕ)) → lines_text (a ++ b) ≡ lines_text a ++ lines_text b
lines_append [] b = refl
lines_append (l ∷ a) b = ap (λ t. (l ++ 10 ∷ []) ++ t) (lines_append a b)
    ∙ sym (append_assoc (l ++ 10 ∷ []) (lines_text a) (lines_text b))

-- behind `before` the grammar h goes on as g does from the front
pub record Continues {V W : Type 0} (g : Grammar V) (h : Grammar W) (before : List (List ℕ)) : Type 0 where
  pub to : (b : List (List ℕ)) (r : Row) → Next g b r → Next h (before ++ b) r
  pub from : (b : List (List ℕ)) (r r' : Row) → Next g b r' → Next h (before ++ b) r → Next g b r

form_to : {V W : Type 0} (g : Grammar V) (h : Grammar W) (before b : List (List ℕ)) (line : List ℕ)
    → Continues g h before → HasForm g b line → HasForm h (before ++ b) line
form_to g h before b line c f = (f.0, c.to b f.0 f.1, f.2, f.3, f.4)

form_from : {V W : Type 0} (g : Grammar V) (h : Grammar W) (before b : List (List ℕ)) (line : List ℕ) (r : Row)
    → Continues g h before → Next g b r → HasForm h (before ++ b) line → HasForm g b line
form_from g h before b line r c n f = (f.0, c.from b f.0 r n f.1, f.2, f.3, f.4)

wrong_to : {V W : Type 0} (g : Grammar V) (h : Grammar W) (before b : List (List ℕ)) (line : List ℕ) (r : Row)
    (kind : CertKind) → Continues g h before → Next g b r → IsWrong g b line kind → IsWrong h (before ++ b) line kind
wrong_to g h before b line r NoForm c n w = λ f. w (form_from g h before b line r c n f)
wrong_to g h before b line r Range c n w = form_to g h before b line c w
wrong_to g h before b line r Ended c n w = w
wrong_to g h before b line r Trailing c n w = w

moved : (before b : List (List ℕ)) (text rest whole : List ℕ) → whole ≡ lines_text before ++ text
    → text ≡ lines_text b ++ rest → whole ≡ lines_text (before ++ b) ++ rest
moved before b text rest whole e f = e ∙ ap (λ t. lines_text before ++ t) f
    ∙ sym (append_assoc (lines_text before) (lines_text b) rest) ∙ ap (λ t. t ++ rest) (sym (lines_append before b))

-- a fault of what is left is a fault of the whole
pub fault_behind : {V W : Type 0} (g : Grammar V) (h : Grammar W) (before : List (List ℕ)) (passed after : ℕ)
    (whole text : List ℕ) (f : CertFault) → Continues g h before → after ≡ passed + length before
    → whole ≡ lines_text before ++ text
    → IsFault g after text f → IsFault h passed whole f
fault_behind g h before passed after whole text f c l e (inl x) = inl (record {
  before = before ++ x.before;
  at = x.at;
  after = x.after;
  all = moved before x.before text (x.at ++ 10 ∷ x.after) whole e x.all;
  is_line = x.is_line;
  line = x.line ∙ omega (arith, length-append before x.before);
  some = (x.some.0, c.to x.before x.some.0 x.some.1);
  stops = λ r n. x.stops r (c.from x.before r x.some.0 x.some.1 n);
  kind = wrong_to g h before x.before x.at x.some.0 f.kind c x.some.1 x.kind;
})
fault_behind g h before passed after whole text f c l e (inr x) = inr (record {
  before = before ++ x.before;
  rest = x.rest;
  all = moved before x.before text x.rest whole e x.all;
  is_line = x.is_line;
  line = x.line ∙ omega (arith, length-append before x.before);
  some = (x.some.0, c.to x.before x.some.0 x.some.1);
  kind = x.kind;
})

-- what may stand at the front of one line
pub next_one : {V : Type 0} (row : V → Row) (ranged : V → Type 0) (v : V) → ranged v → Next (one row ranged) [] (row v)
next_one row ranged v h = record { value = v; ranged = h; passed = []; more = []; rows = refl; same = refl }

pub one_next : {V : Type 0} (row : V → Row) (ranged : V → Type 0) (b : List (List ℕ)) (r : Row)
    → Next (one row ranged) b r → (v : V) × ranged v × (r ≡ row v) × (b ≡ [])
one_next row ranged b r n = I n.passed n.rows n.same
  where
    I : (passed : List Row) → row n.value ∷ [] ≡ passed ++ r ∷ n.more → map row_text passed ≡ b
        → (v : _) × ranged v × (r ≡ row v) × (b ≡ [])
    I [] e s = (n.value, n.ranged, cc, sym s)
    I (x ∷ []) e s = (cc)
    I (x ∷ y ∷ passed) e s = (cc)

-- the text ends where a line is wanted
pub one_ends : {V : Type 0} (row : V → Row) (ranged : V → Type 0) (v : V) (passed number : ℕ) (text : List ℕ) → ranged v
    → IsLine text → number ≡ suc passed
    → IsFault (one row ranged) passed text (record { line = number; kind = Ended })
one_ends row ranged v passed number text h l e = inr (record {
  before = [];
  rest = text;
  all = refl;
  is_line = l;
  line = e ∙ omega arith;
  some = (row v, next_one row ranged v h);
  kind = refl;
})

one_form : {V : Type 0} (row : V → Row) (ranged : V → Type 0) (line : List ℕ) → HasForm (one row ranged) [] line
    → HasFormOf row ranged line
one_form row ranged line f =
    let n = one_next row ranged [] f.0 f.1 in
    (n.0, n.1, f.2, f.3 ∙ ap form_of n.2, f.4)

form_one : {V : Type 0} (row : V → Row) (ranged : V → Type 0) (line : List ℕ) → HasFormOf row ranged line
    → HasForm (one row ranged) [] line
form_one row ranged line f = (row f.0, next_one row ranged f.0 f.1, f.2, f.3, f.4)

-- a line hasn't the form of what is wanted
pub one_no_form : {V : Type 0} (row : V → Row) (ranged : V → Type 0) (v : V) (passed number : ℕ)
    (text line rest : List ℕ) → ranged v → IsTaken text line rest → number ≡ suc passed → ¬ HasFormOf row ranged line
    → IsFault (one row ranged) passed text (record { line = number; kind = NoForm })
one_no_form row ranged v passed number text line rest h t e f = inl (record {
  before = [];
  at = line;
  after = rest;
  all = t.all;
  is_line = t.is_line;
  line = e ∙ omega arith;
  some = (row v, next_one row ranged v h);
  stops = λ r n s. let x = one_next row ranged [] r n in f (x.0, x.1, r, ap form_of x.2, s);
  kind = λ g. f (one_form row ranged line g);
})

-- a line has the form, and is that of no value that may be said
pub one_no_range : {V : Type 0} (row : V → Row) (ranged : V → Type 0) (v : V) (passed number : ℕ)
    (text line rest : List ℕ) → ranged v → IsTaken text line rest → number ≡ suc passed
    → HasFormOf row ranged line → ((w : V) → ranged w → row_text (row w) ≢ line)
    → IsFault (one row ranged) passed text (record { line = number; kind = Range })
one_no_range row ranged v passed number text line rest h t e f g = inl (record {
  before = [];
  at = line;
  after = rest;
  all = t.all;
  is_line = t.is_line;
  line = e ∙ omega arith;
  some = (row v, next_one row ranged v h);
  stops = λ r n s. let x = one_next row ranged [] r n in g x.0 x.1 (ap row_text (sym x.2) ∙ s);
  kind = form_one row ranged line f;
})

-- a line says a value
pub one_said : (row : Row) (text line rest : List ℕ) → IsTaken text line rest → row_text row ≡ line
    → text ≡ rows_text (row ∷ []) ++ rest
one_said row text line rest t e = t.all ∙ ap (λ l. l ++ 10 ∷ rest) (sym e)
    ∙ sym (ap (λ x. x ++ rest) (append-nil (line_text row)) ∙ append_assoc (row_text row) (10 ∷ []) rest)

pub line_error : {V : Type 0} (row : V → Row) (ranged : V → Type 0) (v : V) (passed number after : ℕ)
    (text line rest left : List ℕ) (error : LineError) → ranged v → IsTaken text line rest → number ≡ suc passed
    → IsJudged row ranged line (Err error) → IsRead (one row ranged) passed text left after
    (Err (error_at error number))
line_error row ranged v passed number after text line rest left lines.Memory h t e j = tt
line_error row ranged v passed number after text line rest left lines.Form h t e j =
    one_no_form row ranged v passed number text line rest h t e j
line_error row ranged v passed number after text line rest left lines.Range h t e j =
    one_no_range row ranged v passed number text line rest h t e j.0 j.1

pub error_is : {V : Type 0} (g : Grammar V) (passed after : ℕ) (text rest : List ℕ) (a b : ReadError) → a ≡ b
    → IsRead g passed text rest after (Err b) → IsRead g passed text rest after (Err a)
error_is g passed after text rest a b e h = let P : ReadError → Type 0 = λ x. IsRead g passed text rest after (Err x) in
    subst P (sym e) h

-- values whose lines stand behind each other, so far
pub record SoFar {V : Type 0} (row : V → Row) (ranged : V → Type 0) (passed : ℕ) (whole : List ℕ) (vs : List V)
    (left : List ℕ) (number : ℕ) : Type 0 where
  pub said : (k : ℕ) (v : V) → slice_get vs k ≡ Some v → ranged v
  pub text : whole ≡ rows_text (map row vs) ++ left
  pub count : number ≡ passed + length vs

pub none_so_far : {V : Type 0} (row : V → Row) (ranged : V → Type 0) (passed : ℕ) (whole : List ℕ) (vs : List V)
    → vs ≡ [] → SoFar row ranged passed whole vs whole passed
none_so_far {V = V} row ranged passed whole vs e =
    let P : List V → Type 0 = λ x. SoFar row ranged passed whole x whole passed in
    subst P (sym e) (record { said = λ k v h. (cc); text = refl; count = omega arith })

pub said_more : {V : Type 0} (ranged : V → Type 0) (vs : List V) (w : V)
    → ((k : ℕ) (v : V) → slice_get vs k ≡ Some v → ranged v) → ranged w → (k : ℕ) (v : V)
    → slice_get (vs ++ w ∷ []) k ≡ Some v → ranged v
said_more {V = V} ranged [] w h r zero v e = let P : V → Type 0 = ranged in subst P (same_Some w v e) r
said_more ranged [] w h r (suc k) v e = absurd (none-some v e)
said_more {V = V} ranged (x ∷ vs) w h r zero v e = h zero v e
said_more ranged (x ∷ vs) w h r (suc k) v e = said_more ranged vs w (λ j u f. h (suc j) u f) r k v e

pub rows_append : (a b : List Row) → rows_text (a ++ b) ≡ rows_text a ++ rows_text b
rows_append [] b = refl
rows_append (r ∷ a) b = ap (λ t. line_text r ++ t) (rows_append a b)
    ∙ sym (append_assoc (line_text r) (rows_text a) (rows_text b))

pub one_more : {V : Type 0} (row : V → Row) (ranged : V → Type 0) (passed : ℕ) (whole : List ℕ) (vs us : List V) (w : V)
    (left rest : List ℕ) (number after : ℕ) → SoFar row ranged passed whole vs left number
    → IsRead (one row ranged) number left rest after (Ok w) → us ≡ vs ++ w ∷ []
    → SoFar row ranged passed whole us rest after
one_more {V = V} row ranged passed whole vs us w left rest number after s r e =
    let P : List V → Type 0 = λ x. SoFar row ranged passed whole x rest after in
    subst P (sym e) (record {
      said = said_more ranged vs w s.said r.0;
      text = s.text ∙ ap (λ t. rows_text (map row vs) ++ t) r.1
          ∙ sym (append_assoc (rows_text (map row vs)) (rows_text (row w ∷ [])) rest)
          ∙ ap (λ t. t ++ rest) (sym (rows_append (map row vs) (row w ∷ []))
          ∙ ap rows_text (sym (map-append row vs (w ∷ []))));
      count = r.2 ∙ omega (arith, s.count, length-append vs (w ∷ []));
    })

-- the value whose row stands at a place
row_at : {V : Type 0} (row : V → Row) (ranged : V → Type 0) (vs : List V) (passed more : List Row) (r : Row)
    → ((k : ℕ) (v : V) → slice_get vs k ≡ Some v → ranged v) → map row vs ≡ passed ++ r ∷ more
    → (v : V) × ranged v × (r ≡ row v)
row_at row ranged [] [] more r h e = (cc)
row_at row ranged [] (x ∷ passed) more r h e = (cc)
row_at row ranged (v ∷ vs) [] more r h e = (v, h zero v refl, cc)
row_at row ranged (v ∷ vs) (x ∷ passed) more r h e = row_at row ranged vs passed more r (λ k w f. h (suc k) w f) (cc)

said_copies : {V : Type 0} (ranged : V → Type 0) (vs : List V) (w : V) (n : ℕ)
    → ((k : ℕ) (v : V) → slice_get vs k ≡ Some v → ranged v) → ranged w → (k : ℕ) (v : V)
    → slice_get (vs ++ replicate n w) k ≡ Some v → ranged v
said_copies ranged [] w zero h r k v e = absurd (none-some v e)
said_copies {V = V} ranged [] w (suc n) h r zero v e = let P : V → Type 0 = ranged in subst P (same_Some w v e) r
said_copies ranged [] w (suc n) h r (suc k) v e = said_copies ranged [] w n (λ j u f. absurd (none-some u f)) r k v e
said_copies ranged (x ∷ vs) w n h r zero v e = h zero v e
said_copies ranged (x ∷ vs) w n h r (suc k) v e = said_copies ranged vs w n (λ j u f. h (suc j) u f) r k v e

-- behind some of so many lines one more is wanted
one_continues : {V : Type 0} (row : V → Row) (ranged : V → Type 0) (count : ℕ) (vs : List V)
    → ((k : ℕ) (v : V) → slice_get vs k ≡ Some v → ranged v) → length vs < count
    → Continues (one row ranged) (each row ranged count) (map row_text (map row vs))
one_continues {V = V} row ranged count vs h l = record {
  to = λ b r n. there b r (one_next row ranged b r n);
  from = λ b r r' n m. here b r r' (one_next row ranged b r' n) m;
}
  where
    there : (b : List (List ℕ)) (r : Row) → ((v : V) × ranged v × (r ≡ row v) × (b ≡ []))
        → Next (each row ranged count) (map row_text (map row vs) ++ b) r
    there b r x =
        let rest : ℕ = count - suc (length vs) in
        let all : List V = vs ++ replicate (suc rest) x.0 in
        record {
          value = all;
          ranged = record {
            many = length-append vs (replicate (suc rest) x.0)
                ∙ omega (arith, length-replicate (suc rest) x.0);
            each = said_copies ranged vs x.0 (suc rest) h x.1;
          };
          passed = map row vs;
          more = map row (replicate rest x.0);
          rows = map-append row vs (replicate (suc rest) x.0)
              ∙ ap (λ y. map row vs ++ y ∷ map row (replicate rest x.0)) (sym x.2);
          same = sym (append-nil (map row_text (map row vs))) ∙ ap (λ y. map row_text (map row vs) ++ y) (sym x.3);
        }

    here : (b : List (List ℕ)) (r r' : Row) → ((v : V) × ranged v × (r' ≡ row v) × (b ≡ []))
        → Next (each row ranged count) (map row_text (map row vs) ++ b) r → Next (one row ranged) b r
    here b r r' x m =
        let y = row_at row ranged m.value m.passed m.more r m.ranged.each m.rows in
        record { value = y.0; ranged = y.1; passed = []; more = []; rows = ap (λ z. z ∷ []) (sym y.2); same = sym x.3 }

pub each_fault : {V : Type 0} (row : V → Row) (ranged : V → Type 0) (count passed number : ℕ) (whole left : List ℕ)
    (vs : List V) (f : CertFault) → SoFar row ranged passed whole vs left number → length vs < count
    → IsFault (one row ranged) number left f → IsFault (each row ranged count) passed whole f
each_fault row ranged count passed number whole left vs f s l x =
    fault_behind (one row ranged) (each row ranged count) (map row_text (map row vs)) passed number whole left f
    (one_continues row ranged count vs s.said l)
    (s.count ∙ ap (λ n. passed + n) (sym (length-map (map row vs) row_text ∙ length-map vs row)))
    (s.text ∙ ap (λ t. t ++ left) (sym (rows_lines (map row vs)))) x

pub each_error : {V : Type 0} (row : V → Row) (ranged : V → Type 0) (count passed number after after' : ℕ)
    (whole left rest rest' : List ℕ) (vs : List V) (e : ReadError) → SoFar row ranged passed whole vs left number
    → length vs < count
    → IsRead (one row ranged) number left rest after (Err e)
    → IsRead (each row ranged count) passed whole rest' after' (Err e)
each_error row ranged count passed number after after' whole left rest rest' vs (errors.Fault f) s l x =
    each_fault row ranged count passed number whole left vs f s l x
each_error row ranged count passed number after after' whole left rest rest' vs errors.Stopped s l x = tt

-- an error that is handed on
pub handed_on : {T : Type 0} (r : Result T ReadError) (e : ReadError) (P : T → Type 0) (Q : ReadError → Type 0)
    → IsErrAnd r (λ y. y ≡ e) → Q e → MatchResult r P Q
handed_on (Ok v) e P Q h q = absurd h
handed_on (Err y) e P Q h q = subst Q (sym h) q

pub read_error : {V : Type 0} (g : Grammar V) (passed after : ℕ) (text rest : List ℕ) (r : Result V ReadError)
    (e : ReadError) → IsErrAnd r (λ y. y ≡ e) → IsRead g passed text rest after (Err e)
    → IsRead g passed text rest after r
read_error g passed after text rest (Ok v) e h q = absurd h
read_error g passed after text rest (Err y) e h q = error_is g passed after text rest y e h q

pub none_said : {V : Type 0} (ranged : V → Type 0) (vs : List V) → vs ≡ [] → AreSaid ranged 0 vs
none_said {V = V} ranged vs e = let P : List V → Type 0 = λ x. AreSaid ranged 0 x in
    subst P (sym e) (record { many = refl; each = λ k v h. absurd (none-some v h) })

pub one_more_said : {V : Type 0} (ranged : V → Type 0) (n : ℕ) (vs us : List V) (w : V) → AreSaid ranged n vs → ranged w
    → us ≡ vs ++ w ∷ [] → AreSaid ranged (n + 1) us
one_more_said {V = V} ranged n vs us w s r e =
    let P : List V → Type 0 = λ x. AreSaid ranged (n + 1) x in
    subst P (sym e) (record {
      many = length-append vs (w ∷ []) ∙ ap (λ k. k + 1) s.many;
      each = said_more ranged vs w s.each r;
    })

pub all_said : {V : Type 0} (ranged : V → Type 0) (n m : ℕ) (vs : List V) → AreSaid ranged n vs → n ≡ m
    → AreSaid ranged m vs
all_said ranged n m vs s e = record { many = s.many ∙ e; each = s.each }
