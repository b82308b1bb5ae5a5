-- The best blank of a text, as it is found in one pass.
use Rattle.std.proofs.Common.{◌≡◌, ℕ, zero, suc, ◌≤◌, Bool, true, false, cond, ◌&&◌, nat_le, nat_lt}
use Rattle.std.proofs.Common.{List, length, get_or, refl, sym, ap, ◌∙◌, arith, Option, Some, None}
use Rattle.std.proofs.lemmas.Bool.{ltb-true, ltb-false, leb-true, le-leb}
use Rattle.named_drawing.specs.declared.widths.Split.{Split}
use Rattle.named_drawing.specs.Widths.{best_below, best_blank, fits, better_place, is_blank_at, wider_part}
use Rattle.named_drawing.specs.inner.Splits.{measured, narrower, turned}
use Rattle.named_drawing.specs.inner.Cuts.{IsCut, IsCutAt, IsCutLabel}
use Rattle.line_drawing.specs.Notes.{is_narrow}
use Rattle.line_drawing.specs.declared.segments.Segment.{Segment}
use Rattle.named_drawing.specs.Labels.{label_of, number_label, parts_fit, parts_label}
use Rattle.named_drawing.specs.declared.labels.Label.TheVariants.{Name, Parts, Number, Nothing}

-- which of two widths is less
not_less : (a b : ℕ) → nat_lt b a ≡ cond (nat_le a b) false true
not_less a b = by (nat_le a b) (nat_lt b a) refl refl
  where
    by : (p q : Bool) → nat_le a b ≡ p → nat_lt b a ≡ q → q ≡ cond p false true
    by true true e f = absurd (omega (arith, leb-true a b e, ltb-true b a f))
    by true false e f = refl
    by false true e f = refl
    by false false e f = sym e ∙ le-leb a b (ltb-false b a f)

-- one byte more is gone over
pub split_turn : (text : List ℕ) (k : ℕ) (best new : Option Split) (byte wider : ℕ) → byte ≡ get_or text k 0
    → wider ≡ wider_part text k → best ≡ measured text (best_below text k)
    → new ≡ turned best byte (record { at = k; wider = wider })
    → new ≡ measured text (best_below text (suc k))
split_turn text k best new byte wider is wide so_far turn =
    turn
    ∙ ap (λ b. turned best b (record { at = k; wider = wider })) is
    ∙ ap (λ w. turned best (get_or text k 0) (record { at = k; wider = w })) wide
    ∙ ap (λ s. turned s (get_or text k 0) (record { at = k; wider = wider_part text k })) so_far
    ∙ by (best_below text k)
  where
    here : Split
    here = record { at = k; wider = wider_part text k }

    there : ℕ → Split
    there j = record { at = j; wider = wider_part text j }

    first : (blank : Bool) → cond blank (Some here) None ≡ measured text (cond blank (Some k) None)
    first true = refl
    first false = refl

    one : (j : ℕ) (less more : Bool) → more ≡ cond less false true
        → Some (cond less (there j) here) ≡ measured text (cond more (Some k) (Some j))
    one j true more e = ap (λ m. measured text (cond m (Some k) (Some j))) (sym e)
    one j false more e = ap (λ m. measured text (cond m (Some k) (Some j))) (sym e)

    later : (j : ℕ) (blank : Bool) → cond blank (Some (narrower (Some (there j)) here)) (Some (there j))
        ≡ measured text (cond (blank && nat_lt (wider_part text k) (wider_part text j)) (Some k) (Some j))
    later j true = one j (nat_le (wider_part text j) (wider_part text k))
        (nat_lt (wider_part text k) (wider_part text j)) (not_less (wider_part text j) (wider_part text k))
    later j false = refl

    by : (found : Option ℕ) → turned (measured text found) (get_or text k 0) here
        ≡ measured text (better_place text found k)
    by None = first (is_blank_at text k)
    by (Some j) = later j (is_blank_at text k)

-- a blank stands at the best place
pub best_is_cut : (text : List ℕ) (k : ℕ) → k ≤ length text → IsCut text (best_below text k)
best_is_cut text zero h = tt
best_is_cut text (suc k) h = by (best_below text k) (best_is_cut text k (omega (arith, h)))
  where
    first : (b : Bool) → is_blank_at text k ≡ b → IsCut text (cond b (Some k) None)
    first true e = record { within = omega (arith, h); blank = e }
    first false e = tt

    later : (b less : Bool) (j : ℕ) → is_blank_at text k ≡ b → IsCutAt text j
        → IsCut text (cond (b && less) (Some k) (Some j))
    later true true j e cut = record { within = omega (arith, h); blank = e }
    later true false j e cut = cut
    later false less j e cut = cut

    by : (found : Option ℕ) → IsCut text found → IsCut text (better_place text found k)
    by None cut = first (is_blank_at text k) refl
    by (Some j) cut = later (is_blank_at text k) (nat_lt (wider_part text k) (wider_part text j)) j refl cut

-- so does one at the parts of a label
pub cut_label : (name : List ℕ) (s : Segment) (found : Option ℕ) → IsCut name found
    → IsCutLabel name (parts_label name s found)
cut_label name s found cut = by found cut
  where
    number : (b : Bool) → IsCutLabel name (cond b Nothing Number)
    number true = tt
    number false = tt

    parts : (b : Bool) (at : ℕ) → IsCutAt name at → IsCutLabel name (cond b (Parts at) (number_label s))
    parts true at c = c
    parts false at c = number (is_narrow s)

    by : (o : Option ℕ) → IsCut name o → IsCutLabel name (parts_label name s o)
    by None c = number (is_narrow s)
    by (Some at) c = parts (parts_fit s.width name at) at c

pub label_cut : (name : List ℕ) (s : Segment) → IsCutLabel name (label_of name s)
label_cut name s = by (fits s.width name)
  where
    by : (b : Bool) → IsCutLabel name (cond b Name (parts_label name s (best_blank name)))
    by true = tt
    by false = cut_label name s (best_blank name) (best_is_cut name (length name) (omega arith))
