-- What is read of a line decides what it says.
use Rattle.std.proofs.Common.{◌≡◌, ◌≢◌, ℕ, suc, ◌+◌, ◌<◌, ◌≤◌, true, false, List, length, take, get_or, refl, sym, ◌∙◌}
use Rattle.std.proofs.Common.{ap, subst, arith, Some, None, Err, lit≤}
use Rattle.std.specs.Prelude.{codes, bytes_eq}
use Rattle.std.proofs.lemmas.Slice.Eq.{bytes_eq-Decides}
use Rattle.std.proofs.lemmas.Option.{same_Some, none-some, slice_get-get_or}
use Rattle.std.proofs.lemmas.List.{take_more, take_all}
use Rattle.cert_lines.proofs.TextParts.{said_more}
use Rattle.cert_lines.specs.declared.line_forms.Key.{Key}
use Rattle.cert_lines.specs.declared.line_forms.Key.TheVariants as keys
use Rattle.line_rules.specs.Ranges.{IsCycle, IsAsked, AreCites}
use Rattle.line_rules.specs.declared.types.LineKind.TheVariants.{Straight, U}
use Rattle.line_rules.specs.declared.types.Ask.{Ask}
use Rattle.line_rules.specs.declared.types.Ask.TheVariants as ask
use Rattle.std.proofs.lemmas.Bool.{false≢true}
use Rattle.cert_lines.specs.Numbers.{number_text}
use Rattle.cert_lines.specs.Rows.{Row, fixed, keyed, span, seat, bound, branch, swap, pairs, trail, frame}
use Rattle.cert_lines.specs.Rows.{state_entry, state_frame, row_entry, joined, number, text, form_of, row_text}
use Rattle.cert_lines.specs.Words.{greatest, parts_at}
use Rattle.cert_lines.specs.inner.LineReading.{keyed_in}
use Rattle.cert_lines.specs.ValueRows.{ask_row, kind_row}
use Rattle.cert_lines.specs.Pattern.{HasFormOf, IsJudged}
use Rattle.cert_lines.specs.LineForms.{key_text, version_row, opening_row, IsOpening}
use Rattle.cert_lines.specs.declared.line_forms.Version.TheVariants as versions
use Rattle.cert_lines.specs.declared.line_forms.Opening.{Opening}
use Rattle.cert_lines.specs.declared.line_forms.Opening.TheVariants as opening
use Rattle.cert_lines.specs.declared.fault.LineError.{LineError}
use Rattle.cert_lines.specs.declared.fault.LineError.TheVariants as lines
use Rattle.cert_lines.proofs.NumberWords.{lacks, split_again}
use Rattle.cert_lines.proofs.CiteWords.{sat}
use Rattle.cert_lines.proofs.PlainLines.{keyed_again, keyed_found}

pub small : (n x : ℕ) → sat n ≡ x → x < greatest → n ≡ x
small n x e h = omega (arith, e, h)

pub small_is : (n : ℕ) → n < greatest → sat n ≡ n
small_is n h = omega (arith, h)

pub keyed_only : (r : Row) (key : List ℕ) → form_of r ≡ number key → (n : ℕ) × (r ≡ keyed key n)
keyed_only (keyed k v) key e = let s : k ≡ key = cc in (v, ap (λ z. keyed z v) s)
keyed_only (fixed t) key e = (cc)
keyed_only (span k v w) key e = (cc)
keyed_only (seat kind station side) key e = (cc)
keyed_only (bound n c s m) key e = (cc)
keyed_only (branch n c mode s m cites) key e = (cc)
keyed_only (swap n c s m cite out into) key e = (cc)
keyed_only (pairs n c s m two) key e = (cc)
keyed_only (trail t) key e = (cc)
keyed_only (frame n mode s m last cites) key e = (cc)
keyed_only (state_entry rem starts least cites) key e = (cc)
keyed_only (state_frame rem starts need last cites) key e = (cc)
keyed_only (row_entry units starts base cites) key e = (cc)
keyed_only (joined k ns) key e = (cc)

pub keyed_none : (key line : List ℕ) (r : Row) → lacks 32 key ≡ true → keyed_in key line ≡ None → form_of r ≡ number key
    → row_text r ≡ line → ⊥
keyed_none key line r l e f t =
    let o = keyed_only r key f in
    none-some (sat o.0) (sym e ∙ ap (keyed_in key) (sym t ∙ ap row_text o.1) ∙ keyed_again key o.0 l)

pub keyed_line : (key line : List ℕ) (x : ℕ) → keyed_in key line ≡ Some x → x < greatest → row_text (keyed key x) ≡ line
keyed_line key line x e h = let f = keyed_found key line x e in
    ap (λ n. row_text (keyed key n)) (sym (small f.0 x f.2 h)) ∙ f.1

pub keyed_value : (key line : List ℕ) (v x : ℕ) → lacks 32 key ≡ true → row_text (keyed key v) ≡ line → v < greatest
    → keyed_in key line ≡ Some x → x ≡ v
keyed_value key line v x l t h e = same_Some x v (sym e ∙ ap (keyed_in key) (sym t) ∙ keyed_again key v l
    ∙ ap (λ z. Some z) (small_is v h))

unspaced : (key : List ℕ) (v : ℕ) → lacks 32 key ≡ true → (rest : List ℕ)
    × (parts_at 32 (row_text (keyed key v)) ≡ Some (key, rest))
unfolding row_text
unspaced key v l = (number_text v, split_again 32 key (number_text v) l)

pub keyed_other : (key other line : List ℕ) (v x : ℕ) → lacks 32 key ≡ true → lacks 32 other ≡ true
    → row_text (keyed key v) ≡ line → keyed_in other line ≡ Some x → key ≡ other
keyed_other key other line v x l m t e =
    let f = keyed_found other line x e in
    let a = unspaced key v l in
    let b = unspaced other f.0 m in
    ap (λ p. p.0) (same_Some (key, a.0) (other, b.0) (sym a.1 ∙ ap (parts_at 32) (t ∙ sym f.1) ∙ b.1))

-- a range that is left
pub out_of_range : {V : Type 0} (row : V → Row) (ranged : V → Type 0) (line : List ℕ) (error : LineError)
    → error ≡ lines.Range → HasFormOf row ranged line → ((v : V) → ranged v → row_text (row v) ≢ line)
    → IsJudged row ranged line (Err error)
out_of_range row ranged line error e f g = let P : LineError → Type 0 = λ x. IsJudged row ranged line (Err x) in
    subst P (sym e) (f, g)

-- numbers
pub number_form : (key : List ℕ) (low high : ℕ) (line : List ℕ) → lacks 32 key ≡ true → keyed_in key line ≡ None
    → HasFormOf (keyed key) (λ v. (low ≤ v) × (v ≤ high)) line → ⊥
number_form key low high line l e f = keyed_none key line f.2 l e f.3 f.4

pub number_range : (key : List ℕ) (low high : ℕ) (line : List ℕ) (x : ℕ) → lacks 32 key ≡ true → low ≤ high
    → high < greatest → keyed_in key line ≡ Some x → ((low ≤ x) × (x ≤ high) → ⊥)
    → HasFormOf (keyed key) (λ v. (low ≤ v) × (v ≤ high)) line
    × ((v : ℕ) → (low ≤ v) × (v ≤ high) → row_text (keyed key v) ≢ line)
number_range key low high line x l a b e n =
    let f = keyed_found key line x e in (
      (low, (omega arith, a), keyed key f.0, refl, f.1),
      λ v r t.
          n (let P : ℕ → Type 0 = λ z. (low ≤ z) × (z ≤ high) in
          subst P (sym (keyed_value key line v x l t (omega (arith, r.1, b)) e)) r),
    )

-- fixed texts
pub fixed_text : (t : List ℕ) → row_text (fixed t) ≡ t
unfolding row_text
fixed_text t = refl

pub fixed_is : (line t u : List ℕ) → true ≡ bytes_eq line u → u ≡ t → row_text (fixed t) ≡ line
fixed_is line t u e s = fixed_text t ∙ sym s ∙ sym ((bytes_eq-Decides line u).0 (sym e))

fixed_only : (r : Row) (t : List ℕ) → form_of r ≡ text t → r ≡ fixed t
fixed_only (fixed u) t e = let s : u ≡ t = cc in ap fixed s
fixed_only (keyed key v) t e = (cc)
fixed_only (span key v w) t e = (cc)
fixed_only (seat kind station side) t e = (cc)
fixed_only (bound n c s m) t e = (cc)
fixed_only (branch n c mode s m cites) t e = (cc)
fixed_only (swap n c s m cite out into) t e = (cc)
fixed_only (pairs n c s m two) t e = (cc)
fixed_only (trail x) t e = (cc)
fixed_only (frame n mode s m last cites) t e = (cc)
fixed_only (state_entry rem starts least cites) t e = (cc)
fixed_only (state_frame rem starts need last cites) t e = (cc)
fixed_only (row_entry units starts base cites) t e = (cc)
fixed_only (joined key ns) t e = (cc)

pub fixed_not : (line t u : List ℕ) (r : Row) → false ≡ bytes_eq line u → u ≡ t → form_of r ≡ text t → row_text r ≡ line
    → ⊥
fixed_not line t u r e s f g =
    let w : line ≡ u = sym g ∙ ap row_text (fixed_only r t f) ∙ fixed_text t ∙ sym s in
    false≢true (e ∙ (bytes_eq-Decides line u).1 w)

pub end_not : (line u : List ℕ) → false ≡ bytes_eq line u → u ≡ codes "end"
    → HasFormOf {V = Unit {0}} (λ v. fixed (codes "end")) (λ v. Unit {0}) line → ⊥
end_not line u e s f = fixed_not line (codes "end") u f.2 e s f.3 f.4

pub kind_not : (line u w : List ℕ) → false ≡ bytes_eq line u → u ≡ codes "line straight" → false ≡ bytes_eq line w
    → w ≡ codes "line u" → HasFormOf kind_row (λ v. Unit {0}) line → ⊥
kind_not line u w e s f t (Straight, h, r, a, b) = fixed_not line (codes "line straight") u r e s a b
kind_not line u w e s f t (U, h, r, a, b) = fixed_not line (codes "line u") w r f t a b

pub version_not : (line u w x : List ℕ) → false ≡ bytes_eq line u → u ≡ codes "line balance certificate 2"
    → false ≡ bytes_eq line w → w ≡ codes "line balance certificate 1" → false ≡ bytes_eq line x
    → x ≡ codes "line balance certificate 3" → HasFormOf version_row (λ v. Unit {0}) line → ⊥
version_not line u w x e s f t g i (versions.Two, h, r, a, b) =
    fixed_not line (codes "line balance certificate 2") u r e s a b
version_not line u w x e s f t g i (versions.One, h, r, a, b) =
    fixed_not line (codes "line balance certificate 1") w r f t a b
version_not line u w x e s f t g i (versions.Three, h, r, a, b) =
    fixed_not line (codes "line balance certificate 3") x r g i a b

-- questions
pub ask_cycle : (line : List ℕ) (x : ℕ) → keyed_in (codes "cycle") line ≡ Some x → IsCycle x
    → row_text (ask_row (ask.Stations x)) ≡ line
ask_cycle line x e h = keyed_line (codes "cycle") line x e (omega (arith, h.limit))

pub ask_stations : (line : List ℕ) (x : ℕ) → keyed_in (codes "stations") line ≡ Some x → x ≤ 1024
    → row_text (ask_row (ask.Cycle x)) ≡ line
ask_stations line x e h = keyed_line (codes "stations") line x e (omega arith)

one_cycle : IsCycle 1
one_cycle = record { some = lit≤ tt; limit = lit≤ tt }

pub no_cycle : (line : List ℕ) (x : ℕ) → keyed_in (codes "cycle") line ≡ Some x → (IsCycle x → ⊥)
    → HasFormOf ask_row IsAsked line × ((v : Ask) → IsAsked v → row_text (ask_row v) ≢ line)
no_cycle line x e n = let f = keyed_found (codes "cycle") line x e in
    ((ask.Stations 1, one_cycle, keyed (codes "cycle") f.0, refl, f.1), none)
  where
    none : (v : Ask) → IsAsked v → row_text (ask_row v) ≢ line
    none (ask.Stations c) h t = n (let P : ℕ → Type 0 = IsCycle in
        subst P (sym (keyed_value (codes "cycle") line c x refl t (omega (arith, h.limit)) e)) h)
    none (ask.Cycle m) h t = (let w : codes "stations" ≡ codes "cycle" =
        keyed_other (codes "stations") (codes "cycle") line m x refl refl t e in (cc))

pub no_stations : (line : List ℕ) (x : ℕ) → keyed_in (codes "stations") line ≡ Some x → ((1 ≤ x) × (x ≤ 1024) → ⊥)
    → HasFormOf ask_row IsAsked line × ((v : Ask) → IsAsked v → row_text (ask_row v) ≢ line)
no_stations line x e n = let f = keyed_found (codes "stations") line x e in
    ((ask.Cycle 1, (lit≤ tt, lit≤ tt), keyed (codes "stations") f.0, refl, f.1), none)
  where
    none : (v : Ask) → IsAsked v → row_text (ask_row v) ≢ line
    none (ask.Stations c) h t = (let w : codes "cycle" ≡ codes "stations" =
        keyed_other (codes "cycle") (codes "stations") line c x refl refl t e in (cc))
    none (ask.Cycle m) h t = n (let P : ℕ → Type 0 = λ z. (1 ≤ z) × (z ≤ 1024) in
        subst P (sym (keyed_value (codes "stations") line m x refl t (omega (arith, h.1)) e)) h)

pub no_ask : (line : List ℕ) → keyed_in (codes "cycle") line ≡ None → keyed_in (codes "stations") line ≡ None
    → HasFormOf ask_row IsAsked line → ⊥
no_ask line e f (ask.Stations c, h, r, a, b) = keyed_none (codes "cycle") line r refl e a b
no_ask line e f (ask.Cycle m, h, r, a, b) = keyed_none (codes "stations") line r refl f a b

-- openings
pub lower_is : (line : List ℕ) (x : ℕ) → keyed_in (codes "lower") line ≡ Some x → IsCycle x
    → row_text (opening_row (opening.Lower x)) ≡ line
lower_is line x e h = keyed_line (codes "lower") line x e (omega (arith, h.limit))

pub lower_said : (a : Ask) (n x : ℕ) → IsCycle x → IsOpening a n (opening.Lower x)
lower_said (ask.Stations c) n x h = h
lower_said (ask.Cycle m) n x h = h

pub said_lower : (a : Ask) (n x : ℕ) → IsOpening a n (opening.Lower x) → IsCycle x
said_lower (ask.Stations c) n x h = h
said_lower (ask.Cycle m) n x h = h

pub lower_read : (line : List ℕ) (a : Ask) (n x : ℕ) → keyed_in (codes "lower") line ≡ Some x → IsCycle x
    → IsOpening a n (opening.Lower x) × (row_text (opening_row (opening.Lower x)) ≡ line)
lower_read line a n x e h = (lower_said a n x h, lower_is line x e h)

pub no_lower : (line : List ℕ) (a : Ask) (n x : ℕ) → n ≤ 1024 → keyed_in (codes "lower") line ≡ Some x → (IsCycle x → ⊥)
    → HasFormOf opening_row (IsOpening a n) line × ((v : Opening) → IsOpening a n v → row_text (opening_row v) ≢ line)
no_lower line a n x m e k = let f = keyed_found (codes "lower") line x e in
    ((opening.Lower 1, lower_said a n 1 one_cycle, keyed (codes "lower") f.0, refl, f.1), none)
  where
    none : (v : Opening) → IsOpening a n v → row_text (opening_row v) ≢ line
    none (opening.Lower c) h t =
        let g = said_lower a n c h in
        k (let P : ℕ → Type 0 = IsCycle in subst P (sym (keyed_value (codes "lower") line c x refl t
        (omega (arith, g.limit)) e)) g)
    none (opening.TooLong task) h t = (let w : codes "infeasible" ≡ codes "lower" =
        keyed_other (codes "infeasible") (codes "lower") line (suc task) x refl refl t e in (cc))

pub task_read : (line : List ℕ) (n x t : ℕ) → n ≤ 1024 → keyed_in (codes "infeasible") line ≡ Some x → t + 1 ≡ x → t < n
    → row_text (opening_row (opening.TooLong t)) ≡ line
task_read line n x t m e f h = ap (λ z. row_text (keyed (codes "infeasible") z)) (omega arith)
    ∙ keyed_line (codes "infeasible") line x e (omega arith)

pub no_task : (line : List ℕ) (a : Ask) (c n x : ℕ) → a ≡ ask.Stations c → 1 ≤ n → n ≤ 1024
    → keyed_in (codes "infeasible") line ≡ Some x → ((1 ≤ x) × (x ≤ n) → ⊥)
    → HasFormOf opening_row (IsOpening a n) line × ((v : Opening) → IsOpening a n v → row_text (opening_row v) ≢ line)
no_task line a c n x s l m e k =
    let f = keyed_found (codes "infeasible") line x e in
    let P : Ask → Type 0 = λ z. HasFormOf opening_row (IsOpening z n) line
    × ((v : Opening) → IsOpening z n v → row_text (opening_row v) ≢ line) in
    subst P (sym s) ((opening.TooLong 0, omega arith, keyed (codes "infeasible") f.0, refl, f.1), none)
  where
    none : (v : Opening) → IsOpening (ask.Stations c) n v → row_text (opening_row v) ≢ line
    none (opening.TooLong task) h t =
        let w : x ≡ suc task = keyed_value (codes "infeasible") line (suc task) x refl t (omega arith) e in
        k (omega arith, omega arith)
    none (opening.Lower b) h t = (let w : codes "lower" ≡ codes "infeasible" =
        keyed_other (codes "lower") (codes "infeasible") line b x refl refl t e in (cc))

pub no_opening : (line : List ℕ) (a : Ask) (c n : ℕ) → a ≡ ask.Stations c → keyed_in (codes "lower") line ≡ None
    → keyed_in (codes "infeasible") line ≡ None → HasFormOf opening_row (IsOpening a n) line → ⊥
no_opening line a c n s e f (opening.TooLong task, h, r, x, y) = keyed_none (codes "infeasible") line r refl f x y
no_opening line a c n s e f (opening.Lower l, h, r, x, y) = keyed_none (codes "lower") line r refl e x y

pub no_bound : (line : List ℕ) (a : Ask) (m n : ℕ) → a ≡ ask.Cycle m → keyed_in (codes "lower") line ≡ None
    → HasFormOf opening_row (IsOpening a n) line → ⊥
no_bound line a m n s e (opening.TooLong task, h, r, x, y) =
    (let P : Ask → Type 0 = λ z. IsOpening z n (opening.TooLong task) in subst P s h)
no_bound line a m n s e (opening.Lower l, h, r, x, y) = keyed_none (codes "lower") line r refl e x y

pub key_lacks : (k : Key) → lacks 32 (key_text k) ≡ true
key_lacks keys.Tasks = refl
key_lacks keys.Cycle = refl
key_lacks keys.Stations = refl
key_lacks keys.Infeasible = refl
key_lacks keys.Lower = refl
key_lacks keys.Upper = refl
key_lacks keys.Balance = refl
key_lacks keys.Entries = refl
key_lacks keys.Parts = refl
key_lacks keys.Part = refl
key_lacks keys.Trail = refl
key_lacks keys.Models = refl
key_lacks keys.Units = refl

-- cites below a number
pub cites_more : (count : ℕ) (cites : List ℕ) (k : ℕ) → k < length cites → get_or cites k 0 < count
    → AreCites count (take k cites) → AreCites count (take (k + 1) cites)
cites_more count cites k h l a =
    let P : List ℕ → Type 0 = λ x. AreCites count x in
    subst P (sym (take_more cites k 0 h)) (said_more (λ c. c < count) (take k cites) (get_or cites k 0) a l)

pub cites_all : (count : ℕ) (cites : List ℕ) (k : ℕ) → length cites ≤ k → AreCites count (take k cites)
    → AreCites count cites
cites_all count cites k h a = let P : List ℕ → Type 0 = λ x. AreCites count x in subst P (take_all k cites h) a

pub cites_fail : (count : ℕ) (cites : List ℕ) (k : ℕ) → k < length cites → count ≤ get_or cites k 0
    → AreCites count cites → ⊥
cites_fail count cites k h l a = let m : get_or cites k 0 < count =
    a k (get_or cites k 0) (slice_get-get_or cites k 0 h) in absurd (omega arith)
