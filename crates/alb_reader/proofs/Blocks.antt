-- Headings, each with the lines that stand under it, one block after another.
use Rattle.std.proofs.Common.{◌≡◌, ◌∙◌, ℕ, suc, ◌+◌, ◌<◌, ◌≤◌, Bool, true, false, ◌||◌, cond, nat_eq, List, [], ◌∷◌}
use Rattle.std.proofs.Common.{◌++◌, length, Option, Some, None, refl, ap, subst, arith}
use Rattle.std.proofs.lemmas.Bool.Decides.{nat_tests}
use Rattle.in2_reader.specs.Contents.{Lines}
use Rattle.in2_reader.specs.Pairs.{pair_in}
use Rattle.in2_reader.specs.declared.pair.Pair.TheVariants.{Arc}
use Rattle.line_instance.specs.declared.arcs.Prec.{Prec}
use Rattle.alb_reader.specs.Sections.{mark_of, section_by, section_after, kept, filed, under, is_heading, has_heading}
use Rattle.alb_reader.specs.Sections.{is_in, is_same, is_end, is_end_mark, before_end, end_line}
use Rattle.alb_reader.specs.Faults.{line_fault, mark_fault, body_fault, pair_fault, timed, timed_fault, AreRightFrom}
use Rattle.alb_reader.specs.declared.mark.Section.{Section}
use Rattle.alb_reader.specs.declared.mark.Section.TheVariants.{Times, Pairs}
use Rattle.alb_reader.specs.declared.mark.Mark.TheVariants.{Heading, Body}
use Rattle.alb_reader.specs.declared.fault.AlbKind.{AlbKind}
use Rattle.alb_reader.specs.declared.fault.AlbKind.TheVariants.{RepeatedHeading}
use Rattle.alb_reader.proofs.SectionFacts.{append_nil, kept_front, or_assoc, section_snoc, filed_snoc, or_false}
use Rattle.alb_reader.proofs.UpToEnd.{append_assoc, NoEnd, before_append, end_append}

pub section_append : (now : Option Section) (xs ys : Lines)
    → section_after now (xs ++ ys) ≡ section_after (section_after now xs) ys
section_append now [] ys = refl
section_append now (x ∷ xs) ys = section_append (section_by now (mark_of x.1)) xs ys

pub filed_append : (s : Section) (now : Option Section) (xs ys : Lines)
    → filed s now (xs ++ ys) ≡ filed s now xs ++ filed s (section_after now xs) ys
filed_append s now [] ys = refl
filed_append s now (x ∷ xs) ys =
    let next : Option Section = section_by now (mark_of x.1) in
    ap (kept (is_in s now) x (mark_of x.1)) (filed_append s next xs ys)
    ∙ kept_front (is_in s now) x (mark_of x.1) (filed s next xs) (filed s (section_after next xs) ys)

pub has_append : (s : Section) (xs ys : Lines) → has_heading s (xs ++ ys) ≡ (has_heading s xs || has_heading s ys)
has_append s [] ys = refl
has_append s (x ∷ xs) ys = ap (λ b. is_heading s (mark_of x.1) || b) (has_append s xs ys)
    ∙ or_assoc (is_heading s (mark_of x.1)) (has_heading s xs) (has_heading s ys)

-- lines of a section alone
abbrev pub AreBodies : Lines → Type 0
AreBodies [] = Unit {0}
AreBodies (l ∷ lines) = (mark_of l.1 ≡ Body) × AreBodies lines

pub body_section : (now : Option Section) (xs : Lines) → AreBodies xs → section_after now xs ≡ now
body_section now [] b = refl
body_section now (x ∷ xs) b = ap (λ m. section_after (section_by now m) xs) b.0 ∙ body_section now xs b.1

keep_all : (here : Bool) (x : ℕ × List ℕ) (xs : Lines) → cond here (x ∷ cond here xs []) (cond here xs [])
    ≡ cond here (x ∷ xs) []
keep_all true x xs = refl
keep_all false x xs = refl

pub body_filed : (s : Section) (now : Option Section) (xs : Lines) → AreBodies xs
    → filed s now xs ≡ cond (is_in s now) xs []
body_filed s now [] b = both_none (is_in s now)
  where
    both_none : (t : Bool) → [] ≡ cond {A = Lines} t [] []
    both_none true = refl
    both_none false = refl
body_filed s now (x ∷ xs) b =
    ap (λ m. kept (is_in s now) x m (filed s (section_by now m) xs)) b.0
    ∙ ap (λ t. cond (is_in s now) (x ∷ t) t) (body_filed s now xs b.1) ∙ keep_all (is_in s now) x xs

pub body_has : (s : Section) (xs : Lines) → AreBodies xs → has_heading s xs ≡ false
body_has s [] b = refl
body_has s (x ∷ xs) b = ap (λ m. is_heading s m || has_heading s xs) b.0 ∙ body_has s xs b.1

no_end_cons : (x : ℕ × List ℕ) (xs : Lines) → is_end x.1 ≡ false → NoEnd xs → NoEnd (x ∷ xs)
no_end_cons x xs e n = (
  ap (λ b. cond b [] (x ∷ before_end xs)) e ∙ ap (λ t. x ∷ t) n.0,
  ap (λ b. cond b (Some x.0) (end_line xs)) e ∙ n.1,
)

pub body_ahead : (xs : Lines) → AreBodies xs → NoEnd xs
body_ahead [] b = (refl, refl)
body_ahead (x ∷ xs) b = no_end_cons x xs (ap is_end_mark b.0) (body_ahead xs b.1)

-- a heading and the lines under it
module _ (s : Section) (h : ℕ × List ℕ) (body : Lines) (m : mark_of h.1 ≡ Heading s) (b : AreBodies body) where
  pub block_section : (now : Option Section) → section_after now (h ∷ body) ≡ Some s
  block_section now = ap (λ x. section_after (section_by now x) body) m ∙ body_section (Some s) body b

  pub block_filed : (t : Section) (now : Option Section) → filed t now (h ∷ body) ≡ cond (is_same t s) body []
  block_filed t now = ap (λ x. kept (is_in t now) h x (filed t (section_by now x) body)) m
      ∙ body_filed t (Some s) body b

  pub block_has : (t : Section) → has_heading t (h ∷ body) ≡ is_same t s
  block_has t = ap (λ x. is_heading t x || has_heading t body) m ∙ ap (λ x. is_same t s || x) (body_has t body b)
      ∙ or_false (is_same t s)

  pub block_ahead : NoEnd (h ∷ body)
  block_ahead = no_end_cons h body (ap is_end_mark m) (body_ahead body b)

pub ahead_append : (xs ys : Lines) → NoEnd xs → NoEnd ys → NoEnd (xs ++ ys)
ahead_append xs ys n k = (before_append xs ys n ∙ ap (λ t. xs ++ t) k.0, end_append xs ys n ∙ k.1)

pub right_append : (fault : Lines → List ℕ → Option AlbKind) (before xs ys : Lines) → AreRightFrom fault before xs
    → AreRightFrom fault (before ++ xs) ys → AreRightFrom fault before (xs ++ ys)
right_append fault before [] ys r q = subst (λ b. AreRightFrom fault b ys) (append_nil before) q
right_append fault before (x ∷ xs) ys r q = (
  r.0,
  right_append fault (before ++ x ∷ []) xs ys r.1
      (subst (λ b. AreRightFrom fault b ys) (append_assoc before (x ∷ []) xs) q),
)

-- a heading that didn't stand before is right
pub heading_right : (s : Section) (before : Lines) (h : ℕ × List ℕ) → has_heading s before ≡ false
    → mark_of h.1 ≡ Heading s → line_fault before h.1 ≡ None
heading_right s before h n m = ap (mark_fault before h.1) m ∙ ap (λ b. cond b (Some RepeatedHeading) None) n

pub body_line : (s : Section) (before : Lines) (l : ℕ × List ℕ) → section_after None before ≡ Some s
    → mark_of l.1 ≡ Body → line_fault before l.1 ≡ body_fault before l.1 (Some s)
body_line s before l e m = ap (mark_fault before l.1) m ∙ ap (body_fault before l.1) e

next_section : (s : Section) (before : Lines) (l : ℕ × List ℕ) → section_after None before ≡ Some s → mark_of l.1 ≡ Body
    → section_after None (before ++ l ∷ []) ≡ Some s
next_section s before l e m = section_snoc None before l ∙ ap (section_by (section_after None before)) m ∙ e

-- lines of task times are right
abbrev pub AreTimed : Lines → Type 0
AreTimed [] = Unit {0}
AreTimed (l ∷ lines) = (timed_fault (timed l.1).0 (timed l.1).1 ≡ None) × AreTimed lines

pub times_are_right : (before xs : Lines) → section_after None before ≡ Some Times → AreBodies xs → AreTimed xs
    → AreRightFrom line_fault before xs
times_are_right before [] e b t = tt
times_are_right before (x ∷ xs) e b t = (
  body_line Times before x e b.0 ∙ t.0,
  times_are_right (before ++ x ∷ []) xs (next_section Times before x e b.0) b.1
      t.1,
)

-- lines of pairs are right, so many as there may be
abbrev pub ArePaired : Lines → Type 0
ArePaired [] = Unit {0}
ArePaired (l ∷ lines) = ((a : Prec) × (pair_in 1024 l.1 ≡ Arc a)) × ArePaired lines

room_left : (n : ℕ) → n < 524288 → nat_eq n 524288 ≡ false
room_left n h = grind (arith, nat_tests, h)

pub pairs_are_right : (before xs : Lines) → section_after None before ≡ Some Pairs → AreBodies xs → ArePaired xs
    → length (under Pairs before) + length xs ≤ 524288 → AreRightFrom line_fault before xs
pairs_are_right before [] e b p few = tt
pairs_are_right before (x ∷ xs) e b p few =
    let more : under Pairs (before ++ x ∷ []) ≡ under Pairs before ++ x ∷ [] =
    filed_snoc Pairs None before x ∙ ap (λ t. under Pairs before ++ kept (is_in Pairs t) x (mark_of x.1) []) e
    ∙ ap (λ m. under Pairs before ++ kept true x m []) b.0 in
    let long : length (under Pairs (before ++ x ∷ [])) ≡ suc (length (under Pairs before)) =
    ap length more ∙ longer (under Pairs before) x in (
      body_line Pairs before x e b.0 ∙ ap (λ t. pair_fault t (pair_in 1024 x.1))
          (room_left (length (under Pairs before)) (omega (arith, few))) ∙ ap (pair_fault false) p.0.1,
      pairs_are_right (before ++ x ∷ []) xs (next_section Pairs before x e b.0) b.1 p.1 (omega (arith, few, long)),
    )
  where
    longer : (ys : Lines) (x : ℕ × List ℕ) → length (ys ++ x ∷ []) ≡ suc (length ys)
    longer [] x = refl
    longer (y ∷ ys) x = ap suc (longer ys x)
