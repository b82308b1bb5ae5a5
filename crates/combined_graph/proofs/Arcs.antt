-- The arcs of all models, and what can come of making an instance of right times and arcs.
use Rattle.std.proofs.Common.{◌≡◌, ℕ, zero, suc, List, [], ◌∷◌, ◌++◌, length, refl, sym, ◌∙◌, ap, subst, arith}
use Rattle.std.specs.Prelude.{All}
use Rattle.line_instance.specs.Line.{Line}
use Rattle.line_instance.specs.Made.{AreTimes, IsMade}
use Rattle.line_instance.specs.Walks.{AreArcs}
use Rattle.line_instance.specs.declared.arcs.Prec.{Prec}
use Rattle.line_instance.specs.declared.making.Made.{Made}
use Rattle.line_instance.specs.declared.making.Made.TheVariants.{Good, NoTasks, TooManyTasks, BadTime, BadArc, Cycle}
use Rattle.line_instance.specs.declared.making.Made.TheVariants.{NoMemory}
use Rattle.combined_graph.specs.Mixes.{LineModel, MixedLine, IsModel, IsMix}
use Rattle.combined_graph.specs.Combined.{all_arcs}

arcs_append : (n : ℕ) (xs ys : List Prec) → AreArcs n xs → AreArcs n ys → AreArcs n (xs ++ ys)
arcs_append n [] ys a b k h = b k h
arcs_append n (x ∷ xs) ys a b zero h = a zero (omega arith)
arcs_append n (x ∷ xs) ys a b (suc k) h = arcs_append n xs ys (λ j g. a (suc j) (omega (arith, g))) b k
    (omega (arith, h))

all_named : (n : ℕ) (models : List LineModel) → All (IsModel n) models → AreArcs n (all_arcs models)
all_named n [] h = λ k less. absurd (omega (arith, less))
all_named n (m ∷ ms) h =
    arcs_append n m.arcs (all_arcs ms) (h zero m (omega arith)).arcs
    (all_named n ms (λ k d less. h (suc k) d (omega (arith, less))))

-- the arcs that a mix combines to are of its tasks
pub combined_arcs : (mix : MixedLine) (models : List LineModel) (arcs given : List Prec) (n : ℕ) → IsMix mix
    → models ≡ mix.models → n ≡ mix.tasks
    → arcs ≡ all_arcs models → given ≡ arcs → AreArcs n given
combined_arcs mix models arcs given n d m t a g =
    let P : List Prec → Type 0 = AreArcs n in
    let Q : ℕ → Type 0 = λ n. AreArcs n (all_arcs mix.models) in
    subst P (sym (g ∙ a ∙ ap all_arcs m)) (subst Q (sym t) (all_named mix.tasks mix.models d.draft.each))

-- right times and arcs make an instance, or they have a cycle, or memory ran out
pub nothing_else : (times : List ℕ) (arcs : List Prec) (made : Made) → AreTimes times → AreArcs (length times) arcs
    → IsMade times arcs made
    → ((x : Line) → made ≡ Good x → ⊥) → ((x : List ℕ) → made ≡ Cycle x → ⊥) → (made ≡ NoMemory → ⊥) → ⊥
nothing_else times arcs (Good line) a b h good cycle memory = good line refl
nothing_else times arcs (Cycle ring) a b h good cycle memory = cycle ring refl
nothing_else times arcs NoMemory a b h good cycle memory = memory refl
nothing_else times arcs NoTasks a b h good cycle memory = omega (arith, a.some, ap length h)
nothing_else times arcs (TooManyTasks n) a b h good cycle memory = omega (arith, a.few, h.0, h.1)
nothing_else times arcs (BadTime i) a b h good cycle memory = omega (arith, a.limit i, h.2.above)
nothing_else times arcs (BadArc k) a b h good cycle memory = h.1.bad (b k h.1.place)
