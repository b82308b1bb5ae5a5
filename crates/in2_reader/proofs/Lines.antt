-- The parts of written lines.
use Rattle.std.proofs.Common.{◌≡◌, ℕ, ◌+◌, [], ◌∷◌, ◌++◌, sym, ◌∙◌, ap, append_assoc}
use Rattle.std.specs.Prelude.{decimal, codes}
use Rattle.line_instance.specs.declared.arcs.Prec.{Prec}
use Rattle.in2_reader.specs.Written.{pair_line}

-- a pair's line, its parts joined from the last one on
pub pair_parts : (i j : ℕ) → ((decimal i ++ codes ",") ++ decimal j) ++ codes "\n" ≡ decimal i
    ++ 44 ∷ (decimal j ++ 10 ∷ [])
pair_parts i j = append_assoc (decimal i ++ codes ",") (decimal j) (codes "\n")
    ∙ append_assoc (decimal i) (codes ",") (decimal j ++ codes "\n")

pub pair_part : (a : Prec) (i j : ℕ) → i ≡ a.first → j ≡ a.«then»
    → pair_line a ≡ decimal (i + 1) ++ 44 ∷ (decimal (j + 1) ++ 10 ∷ [])
pair_part a i j e f = pair_parts (a.first + 1) (a.«then» + 1)
    ∙ ap (λ x. decimal (x + 1) ++ 44 ∷ (decimal (a.«then» + 1) ++ 10 ∷ [])) (sym e)
    ∙ ap (λ x. decimal (i + 1) ++ 44 ∷ (decimal (x + 1) ++ 10 ∷ [])) (sym f)
