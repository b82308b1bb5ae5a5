-- A text with a fault has no reading.
use Rattle.std.proofs.Common.{◌≡◌, ◌∙◌, ℕ, List, [], ◌∷◌, ◌++◌, length, Option, Some, None, sym, ap, subst, arith, inl}
use Rattle.std.proofs.Common.{inr}
use Rattle.std.proofs.lemmas.Bool.{false≢true}
use Rattle.std.proofs.lemmas.Option.{same_Some, none-some}
use Rattle.line_instance.specs.Line.{Line}
use Rattle.line_instance.specs.Walks.{IsRing}
use Rattle.in2_reader.specs.Contents.{Lines, contents_from, lines_in}
use Rattle.alb_reader.specs.Sections.{under, before_end}
use Rattle.alb_reader.specs.Faults.{line_fault, task_fault, arc_fault, AreRightFrom, AreRight, IsFirstWrong}
use Rattle.alb_reader.specs.Instance.{first_number, times_said, arcs_said, IsFormed, IsFormFault, IsFilled, IsFillFault}
use Rattle.alb_reader.specs.Instance.{IsAlbReading, IsAlbFault, IsAlbRead}
use Rattle.alb_reader.specs.declared.instance.AlbRead.{AlbRead}
use Rattle.alb_reader.specs.declared.instance.AlbRead.TheVariants as reads
use Rattle.alb_reader.specs.declared.mark.Section.TheVariants.{Tasks, Times, Pairs}
use Rattle.alb_reader.specs.declared.fault.AlbFault.{AlbFault}
use Rattle.alb_reader.specs.declared.fault.AlbKind.{AlbKind}
use Rattle.in2_reader.proofs.Acyclic.{no_ring}
use Rattle.alb_reader.proofs.SectionFacts.{append_nil}
use Rattle.alb_reader.proofs.UpToEnd.{append_assoc}

right_at : (fault : Lines → List ℕ → Option AlbKind) (before xs : Lines) (l : ℕ × List ℕ) (ys : Lines)
    → AreRightFrom fault before (xs ++ l ∷ ys) → fault (before ++ xs) l.1 ≡ None
right_at fault before [] l ys r = ap (λ b. fault b l.1) (append_nil before) ∙ r.0
right_at fault before (x ∷ xs) l ys r = ap (λ b. fault b l.1) (append_assoc before (x ∷ []) xs)
    ∙ right_at fault (before ++ x ∷ []) xs l ys r.1

wrong_is_wrong : (fault : Lines → List ℕ → Option AlbKind) (lines : Lines) (number : ℕ) (kind : AlbKind)
    → IsFirstWrong fault lines number kind → AreRight fault lines → ⊥
wrong_is_wrong fault lines number kind w r = none-some kind (sym
    (right_at fault [] w.before w.at w.after (subst (AreRight fault) w.all r)) ∙ w.wrong)

empty_says : (lines : Lines) (n : ℕ) → length lines ≡ 0 → first_number 1024 lines ≡ Some n → ⊥
empty_says [] n e f = none-some n f
empty_says (l ∷ lines) n e f = omega (arith, e)

pub form_excluded : (lines : Lines) (last end n : ℕ) (f : AlbFault) → IsFormFault lines last f → IsFormed lines end n
    → ⊥
form_excluded lines last end n f (IsFormFault.at_line w) r =
    wrong_is_wrong line_fault (before_end lines) f.line f.kind w r.right
form_excluded lines last end n f (IsFormFault.open_ended right none l k) r = none-some end (sym none ∙ r.marked)
form_excluded lines last end n f (IsFormFault.no_section right marked k (inl e)) r =
    empty_says (under Tasks (before_end lines)) n e r.tasks
form_excluded lines last end n f (IsFormFault.no_section right marked k (inr e)) r = omega (arith, e, r.times)

pub fill_excluded : (head : Lines) (end n : ℕ) (f : AlbFault) → IsFillFault head end n f → IsFilled head n
    → ((ring : List ℕ) → IsRing (arcs_said head) ring → ⊥) → ⊥
fill_excluded head end n f (IsFillFault.at_task w) r i = wrong_is_wrong (task_fault n) (under Times head) f.line f.kind
    w r.timed
fill_excluded head end n f (IsFillFault.unnamed j right u l k) r i = false≢true (sym u.unnamed ∙ r.named j u.task)
fill_excluded head end n f (IsFillFault.at_pair right named w) r i =
    wrong_is_wrong (arc_fault n) (under Pairs head) f.line f.kind w r.paired
fill_excluded head end n f (IsFillFault.closed ring filled is_ring l k) r i = i ring is_ring

pub fault_excludes : (bytes : List ℕ) (f : AlbFault) (line : Line) (c : Option ℕ) → IsAlbFault bytes f
    → IsAlbReading bytes line c → ⊥
fault_excludes bytes f line c (inl w) r = form_excluded (contents_from 1 bytes) (lines_in 1 bytes) r.end r.n f w
    r.formed
fault_excludes bytes f line c (inr q) r =
    let head : Lines = before_end (contents_from 1 bytes) in
    let same : q.1 ≡ r.n = same_Some q.1 r.n (sym q.2.tasks ∙ r.formed.tasks) in
    fill_excluded head q.0 r.n f (subst (λ n. IsFillFault head q.0 n f) same q.3) r.filled
    (λ ring s. no_ring (times_said r.n head) (arcs_said head) line ring r.is s)

pub read_excludes : (bytes : List ℕ) (r : AlbRead) → IsAlbRead bytes r → (f : AlbFault) → r ≡ reads.Fault f
    → (line : Line) (c : Option ℕ) → IsAlbReading bytes line c → ⊥
read_excludes bytes r h f e line c g = fault_excludes bytes f line c (subst (IsAlbRead bytes) e h) g
