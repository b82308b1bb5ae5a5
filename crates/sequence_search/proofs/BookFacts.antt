-- Entries with one more of them.
use Rattle.std.proofs.Common.{◌≡◌, ℕ, ◌+◌, ◌<◌, ◌≤◌, Some, List, [], ◌∷◌, ◌++◌, length, take, refl, sym, ap, ◌∙◌, subst, inl, inr}
use Rattle.std.proofs.Common.{arith, length-append, append_assoc}
use Rattle.std.specs.List.{AllZip}
use Rattle.std.proofs.lemmas.List.{take-append-le, append-nil}
use Rattle.std.proofs.lemmas.Option.{slice_get_within}
use Rattle.std.specs.Prelude.{slice_get}
use Rattle.std.proofs.lemmas.List.Sums.{sum_by_push}
use Rattle.line_rules.proofs.ListFacts.{get_push_cases, get_last, get_longer}
use Rattle.sequence_values.specs.declared.types.Times.{Times}
use Rattle.sequence_values.specs.declared.types.SeqEntry.{SeqEntry}
use Rattle.sequence_values.specs.declared.types.SeqWhy.{SeqWhy}
use Rattle.sequence_values.specs.declared.types.SeqWhy.TheVariants as why
use Rattle.sequence_rules.specs.States.{root_starts}
use Rattle.sequence_rules.specs.Entries.{Answers, AnswersBy, AnswersState, AnswersPlainly, IsByCharge, IsCited, Follows}
use Rattle.sequence_rules.specs.Entries.{IsDerived, HasAnswer, entry_units, units_of}
use Rattle.sequence_rules.specs.Ranges.{IsEntry}
use Rattle.sequence_search.specs.About.{About, charges_of, IsFront}
use Rattle.sequence_search.specs.Steps.{IsPlainlyCited, HasPlainAnswer}
use Rattle.sequence_search.specs.inner.Paths.{IsBook}
use Rattle.sequence_search.specs.inner.Tries.{KeepsRoots}

-- all but the last item of a list
pub take_front : {X : Type 0} (xs : List X) (x : X) → take (length xs) (xs ++ x ∷ []) ≡ xs
take_front [] x = refl
take_front (y ∷ xs) x = ap (λ ys. y ∷ ys) (take_front xs x)

-- no entry of a longer list answers what neither an earlier one nor the last answers
pub unanswered_more : (es : List SeqEntry) (e : SeqEntry) (rem starts : List ℕ) (need : ℕ)
    → (HasPlainAnswer es rem starts need → ⊥) → (e.rem ≡ rem → ⊥) → HasPlainAnswer (es ++ e ∷ []) rem starts need → ⊥
unanswered_more es e rem starts need before other h = elim (get_push_cases es e h.1.entry h.0 h.1.there) [
  | inl u ↦ before (h.0, record { entry = h.1.entry; there = u.1; answers = h.1.answers })
  | inr u ↦ other (ap (λ (z : SeqEntry). z.rem) u.1 ∙ h.1.answers.answers.same)
]

-- the entry at the end answers its own state and value
no_later : (xs : List ℕ) → AllZip (λ a b. a ≤ b) xs xs
no_later [] = tt
no_later (x ∷ xs) = (omega arith, no_later xs)

-- an entry by Bound or Branch that answers a state and a need does so whatever the charges are
plain_answers : (charges : List ℕ) (e : SeqEntry) (w : SeqWhy) (rem starts : List ℕ) (need : ℕ) → (IsByCharge w → ⊥)
    → AnswersState e rem starts need → AnswersBy charges e w rem starts need
plain_answers charges e why.Bound rem starts need plain a = a
plain_answers charges e (why.Branch cites) rem starts need plain a = a
plain_answers charges e (why.Charge cites) rem starts need plain a = absurd (plain tt)

pub plainly : (charges : List ℕ) (e : SeqEntry) (rem starts : List ℕ) (need : ℕ) → AnswersPlainly e rem starts need
    → Answers charges e rem starts need
plainly charges e rem starts need a = plain_answers charges e e.why rem starts need a.plain a.answers

pub plainly_cited : (charges : List ℕ) (es : List SeqEntry) (id : ℕ) (rem starts : List ℕ) (need : ℕ)
    → IsPlainlyCited es id rem starts need → IsCited charges es id rem starts need
plainly_cited charges es id rem starts need c = record {
  entry = c.entry;
  there = c.there;
  answers = plainly charges c.entry rem starts need c.answers;
}

pub last_answers : (charges : List ℕ) (es : List SeqEntry) (e : SeqEntry) (rem starts : List ℕ) (need : ℕ)
    → (IsByCharge e.why → ⊥) → e.rem ≡ rem → e.starts ≡ starts → need ≤ e.least
    → IsCited charges (es ++ e ∷ []) (length es) rem starts need
last_answers charges es e rem starts need plain r s l =
    let P : List ℕ → Type 0 = λ z. AllZip (λ a b. a ≤ b) e.starts z in
    record {
      entry = e;
      there = get_last es e;
      answers = plainly charges e rem starts need (record {
        plain = plain;
        answers = record { same = r; no_later = subst P s (no_later e.starts); least = l };
      });
    }

-- an entry more, behind the kept ones
front_more : (kept es : List SeqEntry) (e : SeqEntry) → IsFront kept es → IsFront kept (es ++ e ∷ [])
front_more kept es e f = (
  f.0 ++ e ∷ [],
  ap (λ (xs : List SeqEntry). xs ++ e ∷ []) f.1 ∙ append_assoc kept f.0 (e ∷ []),
)

-- what answers a need answers a lower one
lower_need : (e : SeqEntry) (rem starts : List ℕ) (low need : ℕ) → low ≤ need → AnswersPlainly e rem starts need
    → AnswersPlainly e rem starts low
lower_need e rem starts low need l a = record {
  plain = a.plain;
  answers = record { same = a.answers.same; no_later = a.answers.no_later; least = omega (arith, l, a.answers.least) };
}

pub book_more : (t : Times) (interval reach : ℕ) (about : About) (es : List SeqEntry) (below more : ℕ) (e : SeqEntry)
    → IsBook t interval reach about es below → Follows t interval reach (charges_of about) es e
    → (HasPlainAnswer es e.rem e.starts e.least → ⊥)
    → below ≤ more → (e.rem ≡ t.demands → e.least < more)
    → IsEntry (length t.demands) t.stations about.charges e
    → length es + 1 + units_of (charges_of about) about.kept
    ≤ length about.kept + (units_of (charges_of about) es + entry_units (charges_of about) e) + 1
    → IsBook t interval reach about (es ++ e ∷ []) more
book_more t interval reach about es below more e b follows unanswered l root range some = record {
  derived = λ k x g. elim (get_push_cases es e x k g) [
    | inl u ↦
        let P : List SeqEntry → Type 0 = λ ys. Follows t interval reach (charges_of about) ys x in
        subst P (sym (take-append-le k es (e ∷ []) (omega (arith, u.0)))) (b.derived k x u.1)
    | inr u ↦
        let P : List SeqEntry → Type 0 = λ ys. Follows t interval reach (charges_of about) ys e in
        let Q : SeqEntry → Type 0 = λ z. Follows t interval reach (charges_of about) (take k (es ++ e ∷ [])) z in
        subst Q u.1 (subst P (sym (ap (λ n. take n (es ++ e ∷ [])) u.0 ∙ take_front es e)) follows)
  ];
  front = front_more about.kept es e b.front;
  fresh = λ j k x y n less gx gy own a. elim (get_push_cases es e y k gy) [
    | inl u ↦ elim (get_push_cases es e x j gx) [
      | inl v ↦ b.fresh j k x y n less v.1 u.1 own a
      | inr v ↦
          absurd (omega (arith, less, u.0, v.0))
    ]
    | inr u ↦ elim (get_push_cases es e x j gx) [
      | inl v ↦
          let P : SeqEntry → Type 0 = λ z. AnswersPlainly x z.rem z.starts z.least in
          unanswered (j, record { entry = x; there = v.1; answers = subst P (sym u.1) a })
      | inr v ↦ absurd (omega (arith, less, u.0, v.0))
    ]
  ];
  root = λ h. elim (get_push_cases es e h.1.entry h.0 h.1.there) [
    | inl u ↦ b.root (
      h.0,
      record {
        entry = h.1.entry;
        there = u.1;
        answers = lower_need h.1.entry t.demands
            (root_starts t) below more l h.1.answers;
      },
    )
    | inr u ↦
        let P : SeqEntry → Type 0 = λ z. AnswersPlainly z t.demands (root_starts t) more in
        let a : AnswersPlainly e t.demands (root_starts t) more = subst P (sym u.1) h.1.answers in
        absurd (omega (arith, root a.answers.same, a.answers.least))
  ];
  range = λ k x g. elim (get_push_cases es e x k g) [
    | inl u ↦ b.range k x u.1
    | inr u ↦
        let P : SeqEntry → Type 0 = λ z. IsEntry (length t.demands) t.stations about.charges z in
        subst P u.1 range
  ];
  few = omega (arith, some, length-append es (e ∷ []), sum_by_push (entry_units (charges_of about)) es e);
}

-- an entry more that isn't of the root
pub roots_more : (t : Times) (old es : List SeqEntry) (e : SeqEntry) → KeepsRoots t old es → (e.rem ≡ t.demands → ⊥)
    → KeepsRoots t old (es ++ e ∷ [])
roots_more t old es e keeps other = (
  λ k x g d. elim (get_push_cases es e x k g) [
    | inl u ↦ keeps.0 k x u.1 d
    | inr u ↦ absurd (other (ap (λ (z : SeqEntry). z.rem) u.1 ∙ d))
  ],
  λ k x g. get_longer es (e ∷ []) k x (keeps.1 k x g),
)

-- what an old entry answers is answered still
pub answered_still : (charges : List ℕ) (t : Times) (old new : List SeqEntry) (rem starts : List ℕ) (need : ℕ)
    → KeepsRoots t old new → HasAnswer charges old rem starts need → HasAnswer charges new rem starts need
answered_still charges t old new rem starts need keeps h = (
  h.0,
  record {
    entry = h.1.entry;
    there = keeps.1 h.0 h.1.entry h.1.there;
    answers = h.1.answers;
  },
)

-- a book whose entries of the root are those of another one
pub book_as : (t : Times) (interval reach : ℕ) (about : About) (old new : List SeqEntry) (below more : ℕ)
    → IsBook t interval reach about old below → IsBook t interval reach about new more → KeepsRoots t old new
    → IsBook t interval reach about new below
book_as t interval reach about old new below more b n keeps = record {
  derived = n.derived;
  front = n.front;
  fresh = n.fresh;
  root = λ h. b.root (
    h.0,
    record {
      entry = h.1.entry;
      there = keeps.0 h.0 h.1.entry h.1.there h.1.answers.answers.same;
      answers = h.1.answers;
    },
  );
  range = n.range;
  few = n.few;
}

-- a book where a greater need of the root isn't answered either
pub book_wide : (t : Times) (interval reach : ℕ) (about : About) (es : List SeqEntry) (below more : ℕ) → below ≤ more
    → IsBook t interval reach about es below → IsBook t interval reach about es more
book_wide t interval reach about es below more l b = record {
  derived = b.derived;
  front = b.front;
  fresh = b.fresh;
  root = λ h. b.root (
    h.0,
    record {
      entry = h.1.entry;
      there = h.1.there;
      answers = lower_need h.1.entry t.demands (root_starts t) below more l h.1.answers;
    },
  );
  range = b.range;
  few = b.few;
}

-- the kept entries alone
pub book_kept : (t : Times) (interval reach : ℕ) (about : About) (es : List SeqEntry) (lower : ℕ) → es ≡ about.kept
    → IsDerived t interval reach (charges_of about) about.kept
    → ((k : ℕ) (e : SeqEntry) → slice_get about.kept k ≡ Some e
    → IsEntry (length t.demands) t.stations about.charges e)
    → ((need : ℕ) → HasAnswer (charges_of about) about.kept t.demands (root_starts t) need → need ≤ lower)
    → IsBook t interval reach about es (lower + 1)
book_kept t interval reach about es lower is derived range most =
    let P : List SeqEntry → Type 0 = λ z. IsBook t interval reach about z (lower + 1) in
    subst P (sym is) (record {
      derived = derived;
      front = ([], sym (append-nil about.kept));
      fresh = λ j k a b n less there_a there_b.
          absurd (omega (arith, n, slice_get_within about.kept k b there_b));
      root = λ h. omega (
        arith,
        most (lower + 1)
            (h.0, plainly_cited (charges_of about) about.kept h.0 t.demands (root_starts t) (lower + 1) h.1),
      );
      range = range;
      few = omega arith;
    })
