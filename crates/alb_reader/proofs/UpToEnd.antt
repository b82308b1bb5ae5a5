-- The lines up to the end mark, one after another.
use Rattle.std.proofs.Common.{◌≡◌, ◌∙◌, ℕ, Bool, true, false, cond, List, [], ◌∷◌, ◌++◌, Option, Some, None, refl, sym}
use Rattle.std.proofs.Common.{ap, subst}
use Rattle.in2_reader.specs.Contents.{Lines}
use Rattle.alb_reader.specs.Sections.{mark_of, before_end, end_line, is_end, is_end_mark}
use Rattle.alb_reader.specs.Faults.{AreRightFrom, AreRight, line_fault}
use Rattle.std.specs.Prelude.{Err}
use Rattle.alb_reader.specs.Instance.{IsFormFault}
use Rattle.alb_reader.specs.inner.Drafts.{IsDraft, IsDrafted, IsWhole, IsAmid, IsWrong, error_at}
use Rattle.alb_reader.specs.declared.draft.Draft.{Draft}
use Rattle.alb_reader.specs.declared.fault.LineError.{LineError}
use Rattle.alb_reader.specs.declared.fault.LineError.TheVariants.{Memory, Fault}
use Rattle.alb_reader.specs.declared.fault.AlbFault.{AlbFault}
use Rattle.alb_reader.specs.declared.fault.AlbKind.{AlbKind}
use Rattle.alb_reader.specs.declared.fault.AlbKind.TheVariants.{MissingEnd}
use Rattle.alb_reader.specs.declared.mark.Mark.{Mark}
use Rattle.alb_reader.specs.declared.mark.Mark.TheVariants.{Heading, End, Unknown, Body}
use Rattle.alb_reader.proofs.SectionFacts.{append_nil}

pub append_assoc : {A : Type 0} (xs ys zs : List A) → xs ++ (ys ++ zs) ≡ (xs ++ ys) ++ zs
append_assoc [] ys zs = refl
append_assoc (x ∷ xs) ys zs = ap (λ t. x ∷ t) (append_assoc xs ys zs)

-- one line more is right
right_snoc_from : (fault : Lines → List ℕ → Option AlbKind) (before xs : Lines) (l : ℕ × List ℕ)
    → AreRightFrom fault before xs → fault (before ++ xs) l.1 ≡ None → AreRightFrom fault before (xs ++ l ∷ [])
right_snoc_from fault before [] l r n = (ap (λ b. fault b l.1) (sym (append_nil before)) ∙ n, tt)
right_snoc_from fault before (x ∷ xs) l r n = (
  r.0,
  right_snoc_from fault (before ++ x ∷ []) xs l r.1
      (ap (λ b. fault b l.1) (sym (append_assoc before (x ∷ []) xs)) ∙ n),
)

pub right_snoc : (fault : Lines → List ℕ → Option AlbKind) (xs : Lines) (l : ℕ × List ℕ) → AreRight fault xs
    → fault xs l.1 ≡ None → AreRight fault (xs ++ l ∷ [])
right_snoc fault xs l r n = right_snoc_from fault [] xs l r n

-- no end mark stands among the lines
abbrev pub NoEnd : Lines → Type 0
NoEnd lines = (before_end lines ≡ lines) × (end_line lines ≡ None)

no_end_mark : (m : Mark) → (m ≡ End → ⊥) → is_end_mark m ≡ false
no_end_mark (Heading s) n = refl
no_end_mark End n = absurd (n refl)
no_end_mark Unknown n = refl
no_end_mark Body n = refl

cons_tail : {A : Type 0} (x : A) (xs ys : List A) → x ∷ xs ≡ x ∷ ys → xs ≡ ys
cons_tail x xs ys e = cc

-- what stands behind such lines
behind_from : (b : Bool) (x : ℕ × List ℕ) (xs ys : Lines) → cond b [] (x ∷ before_end xs) ≡ x ∷ xs
    → cond b (Some x.0) (end_line xs) ≡ None → (b ≡ false) × NoEnd xs
behind_from true x xs ys e n = absurd (nil_cons x xs e)
  where
    nil_cons : (x : ℕ × List ℕ) (xs : Lines) → [] ≡ x ∷ xs → ⊥
    nil_cons x xs e = cc
behind_from false x xs ys e n = (refl, (cons_tail x (before_end xs) xs e, n))

pub before_append : (xs ys : Lines) → NoEnd xs → before_end (xs ++ ys) ≡ xs ++ before_end ys
before_append [] ys n = refl
before_append (x ∷ xs) ys n =
    let q : (is_end x.1 ≡ false) × NoEnd xs = behind_from (is_end x.1) x xs ys n.0 n.1 in
    ap (λ b. cond b [] (x ∷ before_end (xs ++ ys))) q.0 ∙ ap (λ t. x ∷ t) (before_append xs ys q.1)

pub end_append : (xs ys : Lines) → NoEnd xs → end_line (xs ++ ys) ≡ end_line ys
end_append [] ys n = refl
end_append (x ∷ xs) ys n =
    let q : (is_end x.1 ≡ false) × NoEnd xs = behind_from (is_end x.1) x xs ys n.0 n.1 in
    ap (λ b. cond b (Some x.0) (end_line (xs ++ ys))) q.0 ∙ end_append xs ys q.1

one_more : (l : ℕ × List ℕ) → (mark_of l.1 ≡ End → ⊥) → NoEnd (l ∷ [])
one_more l n = (
  ap (λ b. cond b [] (l ∷ [])) (no_end_mark (mark_of l.1) n),
  ap (λ b. cond b (Some l.0) None) (no_end_mark (mark_of l.1) n),
)

pub no_end_snoc : (xs : Lines) (l : ℕ × List ℕ) → NoEnd xs → (mark_of l.1 ≡ End → ⊥) → NoEnd (xs ++ l ∷ [])
no_end_snoc xs l n m = (
  before_append xs (l ∷ []) n ∙ ap (λ t. xs ++ t) (one_more l m).0,
  end_append xs (l ∷ []) n
      ∙ (one_more l m).1,
)

-- an end mark behind such lines
pub marked : (xs : Lines) (l : ℕ × List ℕ) (ys : Lines) → NoEnd xs → mark_of l.1 ≡ End
    → (before_end (xs ++ l ∷ ys) ≡ xs) × (end_line (xs ++ l ∷ ys) ≡ Some l.0)
marked xs l ys n m = (
  before_append xs (l ∷ ys) n ∙ ap (λ t. xs ++ t) (ap (λ k. cond (is_end_mark k) [] (l ∷ before_end ys)) m)
      ∙ append_nil xs,
  end_append xs (l ∷ ys) n ∙ ap (λ k. cond (is_end_mark k) (Some l.0) (end_line ys)) m,
)

-- the first line at fault
pub first_wrong : (all xs : Lines) (l : ℕ × List ℕ) (ys : Lines) (last : ℕ) (f : AlbFault) → all ≡ xs ++ l ∷ ys
    → NoEnd xs → (mark_of l.1 ≡ End → ⊥) → AreRight line_fault xs
    → line_fault xs l.1 ≡ Some f.kind → f.line ≡ l.0 → IsFormFault all last f
first_wrong all xs l ys last f e n m r w k = IsFormFault.at_line (record {
  before = xs;
  at = l;
  after = before_end ys;
  all = ap before_end e ∙ before_append xs (l ∷ ys) n ∙ ap (λ t. xs ++ t)
      (ap (λ b. cond b [] (l ∷ before_end ys)) (no_end_mark (mark_of l.1) m));
  right = r;
  wrong = w;
  line = k;
})

-- no end mark at all
pub never_ended : (all xs : Lines) (last : ℕ) (f : AlbFault) → all ≡ xs ++ [] → NoEnd xs → AreRight line_fault xs
    → f.line ≡ last → f.kind ≡ MissingEnd → IsFormFault all last f
never_ended all xs last f e n r k m =
    let same : all ≡ xs = e ∙ append_nil xs in
    IsFormFault.open_ended (subst (AreRight line_fault) (sym same) r) (ap end_line same ∙ n.1) k m

module _ (all : Lines) (d : Draft) (left : Lines) (l : ℕ × List ℕ) (rest : Lines) (a : IsAmid all d left)
    (e : left ≡ l ∷ rest) where
  split : all ≡ a.done ++ l ∷ rest
  split = a.all ∙ ap (λ t. a.done ++ t) e

  pub amid_marked : mark_of l.1 ≡ End → IsWhole all d l.0
  amid_marked m =
      let q : (before_end (a.done ++ l ∷ rest) ≡ a.done) × (end_line (a.done ++ l ∷ rest) ≡ Some l.0) =
      marked a.done l rest (a.ahead, a.unmarked) m in
      let same : before_end all ≡ a.done = ap before_end split ∙ q.0 in
      record {
        marked = ap end_line split ∙ q.1;
        right = subst (AreRight line_fault) (sym same) a.right;
        draft = subst (λ t. IsDraft t d) (sym same) a.draft;
      }

  pub amid_wrong : (last : ℕ) (x : LineError) → (mark_of l.1 ≡ End → ⊥)
      → ((before : Lines) → IsDraft before d → IsWrong (line_fault before l.1) x)
      → IsDrafted all last (Err (error_at l.0 x))
  amid_wrong last Memory m w = tt
  amid_wrong last (Fault kind) m w = first_wrong all a.done l rest last (record { line = l.0; kind = kind }) split
      (a.ahead, a.unmarked) m a.right (w a.done a.draft) refl

  pub amid_on : (f : Draft) → (mark_of l.1 ≡ End → ⊥) → ((before : Lines) → IsDraft before d
      → (line_fault before l.1 ≡ None) × IsDraft (before ++ l ∷ []) f) → IsAmid all f rest
  amid_on f m t =
      let n : NoEnd (a.done ++ l ∷ []) = no_end_snoc a.done l (a.ahead, a.unmarked) m in
      record {
        done = a.done ++ l ∷ [];
        all = split ∙ append_assoc a.done (l ∷ []) rest;
        ahead = n.0;
        unmarked = n.1;
        right = right_snoc line_fault a.done l a.right (t a.done a.draft).0;
        draft = (t a.done a.draft).1;
      }
