-- One more line behind others: its section, and what stands under each heading.
use Rattle.std.proofs.Common.{◌≡◌, ◌∙◌, ℕ, ◌<◌, Bool, true, false, ◌||◌, cond, List, [], ◌∷◌, ◌++◌, map, Option, Some}
use Rattle.std.proofs.Common.{None, refl, sym, ap, subst}
use Rattle.std.specs.Option.{is_some as is_there}
use Rattle.in2_reader.specs.Contents.{Lines}
use Rattle.alb_reader.specs.Sections.{mark_of, section_by, section_after, kept, filed, under, is_heading, has_heading}
use Rattle.alb_reader.specs.Sections.{is_in, is_same}
use Rattle.std.specs.Result.{MatchResult, OnOk, OnErr, IfErr}
use Rattle.std.specs.declared.result.Result.{Result}
use Rattle.std.specs.declared.result.Result.TheVariants.{Ok, Err}
use Rattle.alb_reader.specs.Faults.{line_fault, mark_fault}
use Rattle.alb_reader.specs.declared.fault.LineError.{LineError}
use Rattle.alb_reader.specs.declared.fault.LineError.TheVariants.{Fault}
use Rattle.alb_reader.specs.declared.fault.AlbKind.TheVariants.{RepeatedHeading}
use Rattle.alb_reader.specs.Instance.{first_number}
use Rattle.alb_reader.specs.inner.Drafts.{IsDraft, heading_seen, is_some, time_line, pair_line, opened, IsWrong}
use Rattle.alb_reader.specs.declared.draft.Draft.{Draft}
use Rattle.alb_reader.specs.declared.draft.Headings.{Headings}
use Rattle.alb_reader.specs.declared.mark.Section.{Section}
use Rattle.alb_reader.specs.declared.mark.Section.TheVariants.{Tasks, Cycle, Strength, Times, Pairs}
use Rattle.alb_reader.specs.declared.mark.Mark.{Mark}
use Rattle.alb_reader.specs.declared.mark.Mark.TheVariants.{Heading, End, Unknown, Body}

pub append_nil : {A : Type 0} (xs : List A) → xs ++ [] ≡ xs
append_nil [] = refl
append_nil (x ∷ xs) = ap (λ t. x ∷ t) (append_nil xs)

pub map_append : {A B : Type 0} (f : A → B) (xs ys : List A) → map f (xs ++ ys) ≡ map f xs ++ map f ys
map_append f [] ys = refl
map_append f (x ∷ xs) ys = ap (λ t. f x ∷ t) (map_append f xs ys)

pub section_snoc : (now : Option Section) (xs : Lines) (l : ℕ × List ℕ)
    → section_after now (xs ++ l ∷ []) ≡ section_by (section_after now xs) (mark_of l.1)
section_snoc now [] l = refl
section_snoc now (x ∷ xs) l = section_snoc (section_by now (mark_of x.1)) xs l

pub kept_front : (here : Bool) (x : ℕ × List ℕ) (m : Mark) (ys zs : Lines)
    → kept here x m (ys ++ zs) ≡ kept here x m ys ++ zs
kept_front here x (Heading s) ys zs = refl
kept_front here x End ys zs = refl
kept_front here x Unknown ys zs = refl
kept_front true x Body ys zs = refl
kept_front false x Body ys zs = refl

pub filed_snoc : (s : Section) (now : Option Section) (xs : Lines) (l : ℕ × List ℕ)
    → filed s now (xs ++ l ∷ []) ≡ filed s now xs ++ kept (is_in s (section_after now xs)) l (mark_of l.1) []
filed_snoc s now [] l = refl
filed_snoc s now (x ∷ xs) l =
    let next : Option Section = section_by now (mark_of x.1) in
    ap (kept (is_in s now) x (mark_of x.1)) (filed_snoc s next xs l)
    ∙ kept_front (is_in s now) x (mark_of x.1) (filed s next xs)
    (kept (is_in s (section_after next xs)) l (mark_of l.1) [])

pub or_assoc : (a b c : Bool) → (a || (b || c)) ≡ ((a || b) || c)
or_assoc true b c = refl
or_assoc false b c = refl

pub or_false : (a : Bool) → (a || false) ≡ a
or_false true = refl
or_false false = refl

or_swap : (a b : Bool) → (a || b) ≡ (b || a)
or_swap true true = refl
or_swap true false = refl
or_swap false true = refl
or_swap false false = refl

pub has_snoc : (s : Section) (xs : Lines) (l : ℕ × List ℕ) → has_heading s (xs ++ l ∷ [])
    ≡ (is_heading s (mark_of l.1) || has_heading s xs)
has_snoc s [] l = refl
has_snoc s (x ∷ xs) l =
    ap (λ b. is_heading s (mark_of x.1) || b) (has_snoc s xs l)
    ∙ or_assoc (is_heading s (mark_of x.1)) (is_heading s (mark_of l.1)) (has_heading s xs)
    ∙ ap (λ b. b || has_heading s xs) (or_swap (is_heading s (mark_of x.1)) (is_heading s (mark_of l.1)))
    ∙ sym (or_assoc (is_heading s (mark_of l.1)) (is_heading s (mark_of x.1)) (has_heading s xs))

module _ (before : Lines) (l : ℕ × List ℕ) where
  -- what stands under a heading, with one line more in a section
  abbrev pub with_line : Section → Section → Lines
  with_line s now = under s before ++ cond (is_same s now) (l ∷ []) []

  under_body : (s now : Section) → section_after None before ≡ Some now → mark_of l.1 ≡ Body
      → under s (before ++ l ∷ []) ≡ with_line s now
  under_body s now e m =
      filed_snoc s None before l
      ∙ ap (λ x. under s before ++ kept (is_in s x) l (mark_of l.1) []) e
      ∙ ap (λ x. under s before ++ kept (is_same s now) l x []) m

  under_mark : (s : Section) (m : Mark) → mark_of l.1 ≡ m → kept (is_in s (section_after None before)) l m [] ≡ []
      → under s (before ++ l ∷ []) ≡ under s before
  under_mark s m e k = filed_snoc s None before l ∙ ap (λ x. under s before
      ++ kept (is_in s (section_after None before)) l x []) e ∙ ap (λ x. under s before ++ x) k
      ∙ append_nil (under s before)

  -- a line of a section
  pub body_draft : (now : Section) (d e : Draft) → IsDraft before d → section_after None before ≡ Some now
      → mark_of l.1 ≡ Body
      → e.section ≡ d.section → e.seen ≡ d.seen
      → is_there e.tasks ≡ is_some (with_line Tasks now) → e.tasks ≡ first_number 1024 (with_line Tasks now)
      → is_there e.cycle ≡ is_some (with_line Cycle now) → e.cycle
      ≡ first_number 1000000000000000000 (with_line Cycle now)
      → ((n : ℕ) → e.tasks ≡ Some n → 0 < n) → ((c : ℕ) → e.cycle ≡ Some c → 0 < c)
      → e.strength ≡ is_some (with_line Strength now)
      → e.times.items ≡ map time_line (with_line Times now) → e.pairs.items ≡ map pair_line (with_line Pairs now)
      → IsDraft (before ++ l ∷ []) e
  body_draft now d e h s m section seen counted tasks timed cycle some long strength times pairs = record {
    section = section ∙ h.section ∙ sym (section_snoc None before l ∙ ap (section_by (section_after None before)) m);
    seen = λ t. ap (λ x. heading_seen x t) seen ∙ h.seen t ∙ sym
        (has_snoc t before l ∙ ap (λ x. is_heading t x || has_heading t before) m);
    counted = counted ∙ ap is_some (sym (under_body Tasks now s m));
    tasks = tasks ∙ ap (first_number 1024) (sym (under_body Tasks now s m));
    timed = timed ∙ ap is_some (sym (under_body Cycle now s m));
    cycle = cycle ∙ ap (first_number 1000000000000000000) (sym (under_body Cycle now s m));
    some = some;
    long = long;
    strength = strength ∙ ap is_some (sym (under_body Strength now s m));
    times = times ∙ ap (map time_line) (sym (under_body Times now s m));
    pairs = pairs ∙ ap (map pair_line) (sym (under_body Pairs now s m));
  }

  -- a heading
  pub heading_draft : (s : Section) (d : Draft) (seen : Headings) → IsDraft before d → mark_of l.1 ≡ Heading s
      → ((t : Section) → heading_seen seen t ≡ (is_same t s || heading_seen d.seen t))
      → IsDraft (before ++ l ∷ []) (opened d s seen)
  heading_draft s d seen h m noted = (let same : (t : Section)
      → under t (before ++ l ∷ []) ≡ under t before = λ t. under_mark t (Heading s) m refl in record {
        section = sym (section_snoc None before l ∙ ap (section_by (section_after None before)) m);
        seen = λ t. noted t ∙ ap (λ x. is_same t s || x) (h.seen t)
            ∙ sym (has_snoc t before l ∙ ap (λ x. is_heading t x || has_heading t before) m);
        counted = h.counted ∙ ap is_some (sym (same Tasks));
        tasks = h.tasks ∙ ap (first_number 1024) (sym (same Tasks));
        timed = h.timed ∙ ap is_some (sym (same Cycle));
        cycle = h.cycle ∙ ap (first_number 1000000000000000000) (sym (same Cycle));
        some = h.some;
        long = h.long;
        strength = h.strength ∙ ap is_some (sym (same Strength));
        times = h.times ∙ ap (map time_line) (sym (same Times));
        pairs = h.pairs ∙ ap (map pair_line) (sym (same Pairs));
      })

  -- an end mark
  pub end_draft : (d : Draft) → IsDraft before d → mark_of l.1 ≡ End → IsDraft (before ++ l ∷ []) d
  end_draft d h m = (let same : (t : Section) → under t (before ++ l ∷ []) ≡ under t before =
      λ t. under_mark t End m refl in record {
        section = h.section ∙ sym (section_snoc None before l ∙ ap (section_by (section_after None before)) m);
        seen = λ t. h.seen t ∙ sym (has_snoc t before l ∙ ap (λ x. is_heading t x || has_heading t before) m);
        counted = h.counted ∙ ap is_some (sym (same Tasks));
        tasks = h.tasks ∙ ap (first_number 1024) (sym (same Tasks));
        timed = h.timed ∙ ap is_some (sym (same Cycle));
        cycle = h.cycle ∙ ap (first_number 1000000000000000000) (sym (same Cycle));
        some = h.some;
        long = h.long;
        strength = h.strength ∙ ap is_some (sym (same Strength));
        times = h.times ∙ ap (map time_line) (sym (same Times));
        pairs = h.pairs ∙ ap (map pair_line) (sym (same Pairs));
      })

  -- the parts of a draft that a line of another section leaves
  pub still : {A : Type 0} (f : Lines → A) (s : Section) (x : A) → x ≡ f (under s before) → x ≡ f (under s before ++ [])
  still f s x e = e ∙ ap f (sym (append_nil (under s before)))

  -- what beginning a section answers
  pub heading_taken : (s : Section) (d e : Draft) (r : Result (Unit {0}) LineError) → IsDraft before d
      → mark_of l.1 ≡ Heading s
      → OnOk r ((heading_seen d.seen s ≡ false) × (e ≡ opened d s e.seen))
      → OnOk r ((t : Section) → heading_seen e.seen t ≡ (is_same t s || heading_seen d.seen t))
      → OnErr r (heading_seen d.seen s ≡ true) → IfErr r (λ x. x ≡ Fault RepeatedHeading)
      → MatchResult r (λ _. (line_fault before l.1 ≡ None) × IsDraft (before ++ l ∷ []) e)
      (IsWrong (line_fault before l.1))
  heading_taken s d e (Ok u) h m opened noted again kind = (
    ap (mark_fault before l.1) m ∙ ap (λ b. cond b (Some RepeatedHeading) None) (sym (h.seen s) ∙ opened.0),
    subst (IsDraft (before ++ l ∷ [])) (sym opened.1) (heading_draft s d e.seen h m noted),
  )
  heading_taken s d e (Err x) h m opened noted again kind =
      subst (IsWrong (line_fault before l.1)) (sym kind) (ap (mark_fault before l.1) m
      ∙ ap (λ b. cond b (Some RepeatedHeading) None) (sym (h.seen s) ∙ again))
