-- The cycle time that an ALB text says is within its limits.
use Rattle.std.proofs.Common.{◌≡◌, ◌∙◌, ℕ, ◌≤◌, Bool, true, false, cond, nat_eq, List, [], ◌∷◌, ◌++◌, Option, Some}
use Rattle.std.proofs.Common.{None, refl, sym, ap, arith}
use Rattle.std.proofs.lemmas.Bool.Decides.{nat_tests}
use Rattle.std.proofs.lemmas.Option.{same_Some}
use Rattle.line_io.specs.Lines.{number_in}
use Rattle.line_io.specs.declared.text.Num.{Num}
use Rattle.line_io.specs.declared.text.Num.TheVariants.{Value, NotANumber, Above}
use Rattle.line_instance.specs.Line.{Line}
use Rattle.in2_reader.specs.Contents.{Lines, contents_from}
use Rattle.alb_reader.specs.Sections.{mark_of, section_by, section_after, kept, filed, under, is_in, before_end}
use Rattle.alb_reader.specs.Faults.{line_fault, mark_fault, body_fault, some_fault, single, AreRightFrom}
use Rattle.alb_reader.specs.Instance.{value, first_number, cycle_said, IsAlbReading}
use Rattle.alb_reader.specs.Written.{IsGivenCycle}
use Rattle.alb_reader.specs.declared.mark.Section.{Section}
use Rattle.alb_reader.specs.declared.mark.Section.TheVariants.{Tasks, Cycle, Strength, Times, Pairs}
use Rattle.alb_reader.specs.declared.mark.Mark.{Mark}
use Rattle.alb_reader.specs.declared.mark.Mark.TheVariants.{Heading, End, Unknown, Body}
use Rattle.alb_reader.specs.declared.fault.AlbKind.TheVariants.{Range}
use Rattle.alb_reader.proofs.DraftToLine.{first_most}
use Rattle.alb_reader.proofs.SectionFacts.{append_nil, section_snoc, filed_snoc}

abbrev most : ℕ
most = 1000000000000000000

-- a number with which nothing is wrong isn't 0
some_right : (n : Num) (c : ℕ) → some_fault n ≡ None → value n ≡ Some c → 1 ≤ c
some_right NotANumber c right e = cc e
some_right Above c right e = cc e
some_right (Value v) c right e = by (nat_eq v 0) refl right
  where
    by : (zero : Bool) → nat_eq v 0 ≡ zero → cond zero (Some Range) None ≡ None → 1 ≤ c
    by true is r = cc r
    by false is r = (let same : v ≡ c = same_Some v c e in grind (arith, nat_tests, is, same))

in_cycle : (now : Option Section) → is_in Cycle now ≡ true → now ≡ Some Cycle
in_cycle None e = cc e
in_cycle (Some Tasks) e = cc e
in_cycle (Some Cycle) e = refl
in_cycle (Some Strength) e = cc e
in_cycle (Some Times) e = cc e
in_cycle (Some Pairs) e = cc e

-- the first line of the section of the cycle time is right, whatever stands before it in other sections
module _ (before : Lines) (l : ℕ × List ℕ) (lines : Lines) (c : ℕ) (right : line_fault before l.1 ≡ None)
    (none : under Cycle before ≡ []) where
  abbrev now : Option Section
  now = section_after None before

  -- the next line, where this one is none of the section
  abbrev Next : Type 0
  Next = under Cycle (before ++ l ∷ []) ≡ []
      → first_number most (filed Cycle (section_after None (before ++ l ∷ [])) lines) ≡ Some c → 1 ≤ c

  passed : Next → (m : Mark) → mark_of l.1 ≡ m → kept (is_in Cycle now) l m [] ≡ []
      → first_number most (filed Cycle (section_by now m) lines) ≡ Some c → 1 ≤ c
  passed next m is gone says = next
      (filed_snoc Cycle None before l
      ∙ ap (λ x. under Cycle before ++ kept (is_in Cycle now) l x []) is
      ∙ ap (λ x. under Cycle before ++ x) gone
      ∙ append_nil (under Cycle before)
      ∙ none)
      (ap (λ s. first_number most (filed Cycle s lines)) (section_snoc None before l ∙ ap (section_by now) is) ∙ says)

  body_right : mark_of l.1 ≡ Body → is_in Cycle now ≡ true → some_fault (number_in most l.1) ≡ None
  body_right is here =
      sym (ap (mark_fault before l.1) is
      ∙ ap (body_fault before l.1) (in_cycle now here)
      ∙ ap (λ x. single x (some_fault (number_in most l.1))) none)
      ∙ right

  at_line : Next → (m : Mark) → mark_of l.1 ≡ m → (here : Bool) → is_in Cycle now ≡ here
      → first_number most (kept here l m (filed Cycle (section_by now m) lines)) ≡ Some c → 1 ≤ c
  at_line next (Heading s) is here e says = passed next (Heading s) is refl says
  at_line next End is here e says = passed next End is refl says
  at_line next Unknown is here e says = passed next Unknown is refl says
  at_line next Body is true e says = some_right (number_in most l.1) c (body_right is e) says
  at_line next Body is false e says = passed next Body is (ap (λ b. cond b (l ∷ []) []) e) says

first_cycle : (before lines : Lines) (c : ℕ) → AreRightFrom line_fault before lines → under Cycle before ≡ []
    → first_number most (filed Cycle (section_after None before) lines) ≡ Some c → 1 ≤ c
first_cycle before [] c right none says = cc says
first_cycle before (l ∷ lines) c right none says =
    at_line before l lines c right.0 none (first_cycle (before ++ l ∷ []) lines c right.1) (mark_of l.1) refl
    (is_in Cycle (section_after None before)) refl says

pub cycle_within : (bytes : List ℕ) (line : Line) (given : Option ℕ) → IsAlbReading bytes line given
    → IsGivenCycle given
cycle_within bytes line given a = by given a.timed
  where
    by : (g : Option ℕ) → g ≡ cycle_said (before_end (contents_from 1 bytes)) → IsGivenCycle g
    by None e = tt
    by (Some c) e = (
      first_cycle [] (before_end (contents_from 1 bytes)) c a.formed.right refl (sym e),
      first_most most c (under Cycle (before_end (contents_from 1 bytes))) (sym e),
    )
