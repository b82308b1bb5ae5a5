-- The lines as they are put, piece by piece.
use Rattle.std.proofs.Common.{◌≡◌, ℕ, suc, List, [], ◌∷◌, ◌++◌, length, refl, sym, ◌∙◌, ap, append_assoc, map, take}
use Rattle.std.proofs.Common.{get_or, ◌<◌, ◌≤◌, ◌+◌, Bool, Some, None}
use Rattle.std.specs.Prelude.{codes}
use Rattle.std.proofs.lemmas.List.{take_more, take_all, append-nil, map-append}
use Rattle.line_rules.specs.declared.types.Entry.{Entry}
use Rattle.line_rules.specs.declared.types.Mode.{Mode}
use Rattle.line_rules.specs.declared.types.OpenFrame.{OpenFrame}
use Rattle.cert_lines.specs.Numbers.{number_text, set_text, cites_text, mode_letter, last_text}
use Rattle.cert_text.specs.inner.Pieces.{question_text, swap_text}
use Rattle.cert_lines.specs.Rows.{Row, row_text, line_text, rows_text, bound, branch, swap, pairs, trail}
use Rattle.cert_lines.specs.ValueRows.{frame_row}

pub bound_spelled : (n : ℕ) (e : Entry) → line_text (bound n (Some e.cycle) e.set e.most) ≡ codes "bound"
    ++ (question_text n e ++ 10 ∷ [])
unfolding row_text
bound_spelled n e = simp append_assoc

pub branch_spelled : (n : ℕ) (e : Entry) (mode : Mode) (cites : List ℕ)
    → line_text (branch n (Some e.cycle) mode e.set e.most cites)
    ≡ codes "branch " ++ (mode_letter mode ∷ (question_text n e ++ (32 ∷ (cites_text cites ++ 10 ∷ []))))
unfolding row_text
branch_spelled n e mode cites = simp append_assoc

swap_tail : (cite out into : ℕ) → swap_text cite out into ++ 10 ∷ []
    ≡ 32 ∷ (number_text cite ++ 32 ∷ (number_text (suc out) ++ 32 ∷ (number_text (suc into) ++ 10 ∷ [])))
swap_tail cite out into = simp append_assoc

question_before : (n : ℕ) (e : Entry) (t : List ℕ) → question_text n e
    ++ t ≡ 32 ∷ (number_text e.cycle ++ 32 ∷ (set_text n e.set ++ 32 ∷ (number_text e.most ++ t)))
question_before n e t = simp append_assoc

pub swap_spelled : (n : ℕ) (e : Entry) (cite out into : ℕ) → line_text
    (swap n (Some e.cycle) e.set e.most cite (suc out) (suc into))
    ≡ codes "swap" ++ (question_text n e ++ (swap_text cite out into ++ 10 ∷ []))
unfolding row_text
swap_spelled n e cite out into =
    let l : line_text (swap n (Some e.cycle) e.set e.most cite (suc out) (suc into))
    ≡ codes "swap" ++ (32 ∷ (number_text e.cycle ++ 32 ∷ (set_text n e.set
    ++ 32 ∷ (number_text e.most ++ (32 ∷ (number_text cite
    ++ 32 ∷ (number_text (suc out) ++ 32 ∷ (number_text (suc into) ++ 10 ∷ []))))))))
    = simp append_assoc in
    l ∙ ap (λ t. codes "swap" ++ t)
    (sym (question_before n e (32 ∷ (number_text cite ++ 32 ∷ (number_text (suc out)
    ++ 32 ∷ (number_text (suc into) ++ 10 ∷ []))))) ∙ ap (λ t. question_text n e ++ t)
    (sym (swap_tail cite out into)))

pub pairs_spelled : (n : ℕ) (e : Entry) (two : List Bool) → line_text (pairs n (Some e.cycle) e.set e.most two)
    ≡ codes "pairs" ++ (question_text n e ++ (32 ∷ (set_text n two ++ 10 ∷ [])))
unfolding row_text
pairs_spelled n e two = simp append_assoc

pub frame_spelled : (n : ℕ) (f : OpenFrame) → line_text (frame_row n f)
    ≡ codes "open " ++ (mode_letter f.mode ∷ 32 ∷ (set_text n f.set
    ++ (32 ∷ (number_text f.most ++ (32 ∷ (last_text n f.mode f.last ++ (32 ∷ (cites_text f.cites ++ 10 ∷ []))))))))
unfolding row_text
frame_spelled n f = simp append_assoc

pub trail_spelled : (count cycle : ℕ) → line_text (trail (Some (count, cycle))) ≡ codes "trail "
    ++ (number_text count ++ (codes " at " ++ (number_text cycle ++ 10 ∷ [])))
unfolding row_text
trail_spelled count cycle = simp append_assoc

pub no_trail_spelled : line_text (trail None) ≡ codes "trail 0\n"
unfolding row_text
no_trail_spelled = refl

more_rows : (a : List Row) (r : Row) → rows_text (a ++ r ∷ []) ≡ rows_text a ++ line_text r
more_rows [] r = append-nil (line_text r)
more_rows (x ∷ a) r = ap (λ t. line_text x ++ t) (more_rows a r)
    ∙ sym (append_assoc (line_text x) (rows_text a) (line_text r))

-- one more line of a list's members
pub next_line : {X : Type 0} (row : X → Row) (xs : List X) (k : ℕ) (d : X) (r : Row) → k < length xs
    → row (get_or xs k d) ≡ r
    → rows_text (map row (take (k + 1) xs)) ≡ rows_text (map row (take k xs)) ++ line_text r
next_line row xs k d r h e =
    ap (λ ys. rows_text (map row ys)) (take_more xs k d h) ∙ ap rows_text
    (map-append row (take k xs) (get_or xs k d ∷ []))
    ∙ more_rows (map row (take k xs)) (row (get_or xs k d)) ∙ ap (λ x. rows_text (map row (take k xs)) ++ line_text x) e

-- all lines of a list's members
pub all_lines : {X : Type 0} (row : X → Row) (xs : List X) (k : ℕ) → length xs ≤ k
    → rows_text (map row xs) ≡ rows_text (map row (take k xs))
all_lines row xs k h = ap (λ ys. rows_text (map row ys)) (sym (take_all k xs h))
