-- In a derived list every entry says what is so, and the bounds of an accepted certificate are true.
use Rattle.std.proofs.Common.{◌≡◌, ℕ, zero, suc, ◌+◌, ◌-◌, ◌<◌, ◌≤◌, Bool, true, cond, nat_lt, List, [], ◌∷◌, ◌++◌}
use Rattle.std.proofs.Common.{length, take, get_or, sym, ap, ◌∙◌, subst, inl, inr, arith, Some}
use Rattle.std.specs.Prelude.{slice_get}
use Rattle.std.proofs.lemmas.Bool.{cases_lt, lt-ltb, and_from}
use Rattle.std.proofs.lemmas.Option.{slice_get_within}
use Rattle.line_rules.proofs.ListFacts.{get_take, get_longer, get_last, get_some}
use Rattle.sequence_values.specs.declared.types.Times.{Times}
use Rattle.sequence_values.specs.declared.types.SeqEntry.{SeqEntry}
use Rattle.sequence_values.specs.declared.types.SeqWhy.{SeqWhy}
use Rattle.sequence_values.specs.declared.types.SeqWhy.TheVariants as why
use Rattle.sequence_values.specs.declared.types.SeqCert.{SeqCert}
use Rattle.sequence_rules.specs.States.{step_cost, next_starts, less_one, state_bound, IsSequenceOf, cost, Holds}
use Rattle.sequence_rules.specs.States.{root_starts}
use Rattle.sequence_rules.specs.Charges.{listed_charges, IsRow, HoldsCharged, charged_cost, unit_cost}
use Rattle.sequence_rules.specs.Entries.{Says, SaysBy, Answers, AnswersBy, AnswersState, AnswersCharged, IsCited}
use Rattle.sequence_rules.specs.Entries.{IsByCharge, IsServed, row_units, is_left, needs_cite, is_light, passing}
use Rattle.sequence_rules.specs.Entries.{FollowsByBranch, FollowsByCharge, FollowsBy, Follows, IsDerived, HasAnswer}
use Rattle.sequence_rules.specs.Accepted.{IsAccepted}
use Rattle.sequence_rules.specs.Laws.{IsProved}
use Rattle.sequence_rules.proofs.CostFacts.{cost_steps, later_starts, first_is_left, left_within, rest_is_sequence}
use Rattle.sequence_rules.proofs.CostFacts.{as_many_left, bound_holds}
use Rattle.sequence_rules.proofs.RowFacts.{charged_steps, later_charged, models_within, owed}

-- a number below n that passes stands in the list of those that pass, behind those below it
pub passing_at : (test : ℕ → Bool) (n m : ℕ) → m < n → test m ≡ true
    → slice_get (passing test n) (length (passing test m)) ≡ Some m
passing_at test zero m l e = absurd (omega (arith, l))
passing_at test (suc n) m l e = elim (cases_lt m n) [
  | inl below ↦ get_longer (passing test n) (cond (test n) (n ∷ []) []) (length (passing test m)) m
      (passing_at test n m below e)
  | inr above ↦
      let is : m ≡ n = omega (arith, l, above) in
      let here : cond (test n) (n ∷ []) [] ≡ n ∷ [] = ap (λ k. cond (test k) (n ∷ []) []) (sym is)
      ∙ ap (λ b. cond b (n ∷ []) []) e in
      let P : List ℕ → Type 0 = λ ys. slice_get (passing test n ++ ys) (length (passing test n)) ≡ Some n in
      let Q : ℕ → Type 0 = λ k. slice_get (passing test (suc n)) (length (passing test k)) ≡ Some k in
      subst Q (sym is) (subst P (sym here) (get_last (passing test n) n))
]

-- each entry of a list says what is so
abbrev pub AllSay : Times → ℕ → ℕ → List ℕ → List SeqEntry → Type 0
AllSay t interval reach charges es = (k : ℕ) (e : SeqEntry) → slice_get es k ≡ Some e → Says t interval reach charges e

-- an entry by Bound or Branch that holds, holds of the state and the need that it answers
state_holds : (t : Times) (interval reach : ℕ) (e : SeqEntry) (rem starts : List ℕ) (need : ℕ)
    → Holds t interval reach e.rem e.starts e.least → AnswersState e rem starts need
    → Holds t interval reach rem starts need
state_holds t interval reach e rem starts need holds a units s =
    let P : List ℕ → Type 0 = λ r. IsSequenceOf r units in
    let own : e.least ≤ cost t interval reach e.starts units = holds units (subst P (sym a.same) s) in
    omega (arith, own, a.least, later_starts t interval reach e.starts starts units a.no_later)

-- so does one by Charge: a sequence of what is left is a row, and its charges are those of what is left
row_holds : (t : Times) (interval reach : ℕ) (charges : List ℕ) (e : SeqEntry) (rem starts : List ℕ) (need : ℕ)
    → HoldsCharged t interval reach charges (row_units e) e.starts e.least → AnswersCharged charges e rem starts need
    → Holds t interval reach rem starts need
row_holds t interval reach charges e rem starts need holds a units s =
    let row : IsRow charges (row_units e) units = record {
      many = as_many_left rem units s ∙ a.units;
      models = models_within rem units (length charges) (omega (arith, a.each)) s;
    } in
    let own : e.least ≤ charged_cost t interval reach charges e.starts units = holds units row in
    omega (
      arith,
      a.above,
      own,
      later_charged t interval reach charges e.starts starts units a.no_later,
      owed charges rem units s,
    )

by_reason : (t : Times) (interval reach : ℕ) (charges : List ℕ) (e : SeqEntry) (w : SeqWhy) (rem starts : List ℕ)
    (need : ℕ)
    → SaysBy t interval reach charges e w → AnswersBy charges e w rem starts need
    → Holds t interval reach rem starts need
by_reason t interval reach charges e why.Bound rem starts need says a =
    state_holds t interval reach e rem starts need says a
by_reason t interval reach charges e (why.Branch cites) rem starts need says a =
    state_holds t interval reach e rem starts need says a
by_reason t interval reach charges e (why.Charge cites) rem starts need says a =
    row_holds t interval reach charges e rem starts need says a

pub answers_hold : (t : Times) (interval reach : ℕ) (charges : List ℕ) (e : SeqEntry) (rem starts : List ℕ) (need : ℕ)
    → Says t interval reach charges e → Answers charges e rem starts need → Holds t interval reach rem starts need
answers_hold t interval reach charges e rem starts need says a =
    by_reason t interval reach charges e e.why rem starts need says a

-- what a cited entry says holds of the state and the need that it answers
pub cited_holds : (t : Times) (interval reach : ℕ) (charges : List ℕ) (es : List SeqEntry) (cite : ℕ)
    (rem starts : List ℕ) (need : ℕ)
    → AllSay t interval reach charges es → IsCited charges es cite rem starts need
    → Holds t interval reach rem starts need
cited_holds t interval reach charges es cite rem starts need say c =
    answers_hold t interval reach charges c.entry rem starts need (say cite c.entry c.there) c.answers

-- an entry by Charge that says what is so
charged_says : (t : Times) (interval reach : ℕ) (charges : List ℕ) (e : SeqEntry) (w : SeqWhy)
    → IsByCharge w → SaysBy t interval reach charges e w
    → HoldsCharged t interval reach charges (row_units e) e.starts e.least
charged_says t interval reach charges e why.Bound c says = absurd c
charged_says t interval reach charges e (why.Branch cites) c says = absurd c
charged_says t interval reach charges e (why.Charge cites) c says = says

-- what an entry that says what is so serves, is so
served_holds : (t : Times) (interval reach : ℕ) (charges : List ℕ) (es : List SeqEntry) (cite units : ℕ)
    (starts : List ℕ) (need : ℕ)
    → AllSay t interval reach charges es → IsServed es cite units starts need
    → HoldsCharged t interval reach charges units starts need
served_holds t interval reach charges es cite units starts need say s row r =
    let holds : HoldsCharged t interval reach charges (row_units s.entry) s.entry.starts s.entry.least =
    charged_says t interval reach charges s.entry s.entry.why s.serves.charged (say cite s.entry s.there) in
    let own : s.entry.least ≤ charged_cost t interval reach charges s.entry.starts row =
    holds row (record { many = r.many ∙ sym s.serves.same; models = r.models }) in
    omega (
      arith,
      own,
      s.serves.least,
      later_charged t interval reach charges s.entry.starts starts row s.serves.no_later,
    )

-- Branch: the entries before it hold
by_branch : (t : Times) (interval reach : ℕ) (charges : List ℕ) (earlier : List SeqEntry) (e : SeqEntry) (cites : List ℕ)
    → AllSay t interval reach charges earlier
    → FollowsByBranch t interval reach charges earlier e cites → Holds t interval reach e.rem e.starts e.least
by_branch t interval reach charges earlier e cites held f [] s = absurd (omega (arith, f.some, as_many_left e.rem [] s))
by_branch t interval reach charges earlier e cites held f (m ∷ units) s =
    let left : 0 < get_or e.rem m 0 = first_is_left e.rem m units s in
    let rest : IsSequenceOf (less_one e.rem m) units = rest_is_sequence e.rem m units s in
    let next : List ℕ = next_starts t interval reach m e.starts in
    let split : cost t interval reach e.starts (m ∷ units) ≡ step_cost t reach m e.starts + cost t interval reach next
    units = cost_steps t interval reach e.starts m units in
    elim (cases_lt (step_cost t reach m e.starts) e.least) [
      | inr dear ↦ omega (arith, split, dear)
      | inl cheap ↦ elim (cases_lt (state_bound t interval reach (less_one e.rem m) next)
          (e.least - step_cost t reach m e.starts)) [
            | inr closed ↦ omega (arith, split, closed, bound_holds t interval reach (less_one e.rem m) next units rest)
            | inl open_one ↦
                let test : ℕ → Bool = needs_cite t interval reach e.rem e.starts e.least in
                let needs : test m ≡ true = and_from (is_left e.rem m) _ (lt-ltb 0 (get_or e.rem m 0) left)
                (and_from (nat_lt (step_cost t reach m e.starts) e.least) _
                (lt-ltb (step_cost t reach m e.starts) e.least cheap)
                (lt-ltb (state_bound t interval reach (less_one e.rem m) next) (e.least - step_cost t reach m e.starts)
                open_one)) in
                let p : ℕ = length (passing test m) in
                let there : slice_get (passing test (length e.rem)) p ≡ Some m =
                passing_at test (length e.rem) m (left_within e.rem m left) needs in
                let q : (x : ℕ) × (slice_get cites p ≡ Some x) =
                get_some cites p (omega (
                  arith,
                  f.covers.as_many,
                  slice_get_within (passing test (length e.rem)) p m there,
                )) in
                omega (
                  arith,
                  split,
                  cited_holds t interval reach charges earlier q.0 (less_one e.rem m) next
                      (e.least - step_cost t reach m e.starts) held (f.covers.cited p m q.0 there q.1) units rest,
                )
          ]
    ]

-- Charge: the entries before it say what is so
by_charge : (t : Times) (interval reach : ℕ) (charges : List ℕ) (earlier : List SeqEntry) (e : SeqEntry) (cites : List ℕ)
    → AllSay t interval reach charges earlier → FollowsByCharge t interval reach charges earlier e cites
    → HoldsCharged t interval reach charges (row_units e) e.starts e.least
by_charge t interval reach charges earlier e cites say f [] r = absurd (omega (arith, f.some, r.many))
by_charge t interval reach charges earlier e cites say f (m ∷ row) r =
    let within : m < length charges = r.models 0 0 (omega arith) in
    let rest : IsRow charges (row_units e - 1) row = record {
      many = omega (arith, r.many, f.some);
      models = λ k d l. r.models (suc k) d (omega (arith, l));
    } in
    let split : charged_cost t interval reach charges e.starts (m ∷ row)
    ≡ unit_cost t reach charges e.starts m
    + charged_cost t interval reach charges (next_starts t interval reach m e.starts) row =
    charged_steps t interval reach charges e.starts m row in
    elim (cases_lt (unit_cost t reach charges e.starts m) e.least) [
      | inr dear ↦ omega (arith, split, dear)
      | inl cheap ↦
          let test : ℕ → Bool = is_light t reach charges e.starts e.least in
          let needs : test m ≡ true = lt-ltb (unit_cost t reach charges e.starts m) e.least cheap in
          let p : ℕ = length (passing test m) in
          let there : slice_get (passing test (length charges)) p ≡ Some m =
          passing_at test (length charges) m within needs in
          let q : (x : ℕ) × (slice_get cites p ≡ Some x) =
          get_some cites p (omega (
            arith,
            f.as_many,
            slice_get_within (passing test (length charges)) p m there,
          )) in
          omega (
            arith,
            split,
            served_holds t interval reach charges earlier q.0 (row_units e - 1)
                (next_starts t interval reach m e.starts)
                (e.least - unit_cost t reach charges e.starts m) say
                (f.cited p m q.0 there q.1) row rest,
          )
    ]

by_why : (t : Times) (interval reach : ℕ) (charges : List ℕ) (earlier : List SeqEntry) (e : SeqEntry) (w : SeqWhy)
    → AllSay t interval reach charges earlier → FollowsBy t interval reach charges earlier e w
    → SaysBy t interval reach charges e w
by_why t interval reach charges earlier e why.Bound say f = λ units s.
    omega (arith, f, bound_holds t interval reach e.rem e.starts units s)
by_why t interval reach charges earlier e (why.Branch cites) say f =
    by_branch t interval reach charges earlier e cites say f
by_why t interval reach charges earlier e (why.Charge cites) say f =
    by_charge t interval reach charges earlier e cites say f

pub by_any : (t : Times) (interval reach : ℕ) (charges : List ℕ) (earlier : List SeqEntry) (e : SeqEntry)
    → AllSay t interval reach charges earlier → Follows t interval reach charges earlier e
    → Says t interval reach charges e
by_any t interval reach charges earlier e say f = by_why t interval reach charges earlier e e.why say f

-- the entries below n say what is so
sound_below : (t : Times) (interval reach : ℕ) (charges : List ℕ) (es : List SeqEntry)
    → IsDerived t interval reach charges es
    → (n k : ℕ) (e : SeqEntry) → k < n → slice_get es k ≡ Some e → Says t interval reach charges e
sound_below t interval reach charges es d zero k e l g = absurd (omega arith)
sound_below t interval reach charges es d (suc n) k e l g =
    by_any t interval reach charges (take k es) e
    (λ j h q. let p : (j < k) × (slice_get es j ≡ Some h) = get_take es k j h q in
    sound_below t interval reach charges es d n j h (omega (arith, p.0)) p.1)
    (d k e g)

pub sound : (t : Times) (interval reach : ℕ) (charges : List ℕ) (es : List SeqEntry)
    → IsDerived t interval reach charges es → AllSay t interval reach charges es
sound t interval reach charges es d k e g = sound_below t interval reach charges es d (suc k) k e (omega arith) g

-- the lower bound of an accepted certificate is true
pub proved : (t : Times) (interval reach : ℕ) (cert : SeqCert) → IsAccepted t interval reach cert
    → IsProved t interval reach cert
proved t interval reach cert a = record {
  sequence = a.sequence;
  total = a.total;
  least = λ units s. elim (cases_lt 0 cert.lower) [
    | inr none ↦ omega (arith, none)
    | inl some ↦
        let charges : List ℕ = listed_charges cert.charges in
        let h : HasAnswer charges cert.entries t.demands (root_starts t) cert.lower = a.goal some in
        cited_holds t interval reach charges cert.entries h.0 t.demands (root_starts t) cert.lower
        (sound t interval reach charges cert.entries a.derived) h.1 units s
  ];
}
