-- The tasks outside two are gone over, and those that aren't of `one` are taken out.
use Rattle.std.proofs.Common.{◌≡◌, ℕ, Bool, false, List, [], ◌∷◌, length, set, sym, ap, ◌∙◌, subst}
use Rattle.std.proofs.lemmas.List.{length-set}
use Rattle.std.proofs.lemmas.Bool.{false≢true, false_from_ne_true}
use Rattle.line_instance.specs.Truths.{In, minus, members_of}
use Rattle.line_instance.specs.Line.{Line, has}
use Rattle.line_instance.proofs.Members.{In-clear, In-clear_kept, In-clear_gone, In-minus, In-minus_parts}
use Rattle.line_rules.specs.declared.types.LineKind.{LineKind}
use Rattle.line_rules.specs.Pairs.{IsOne, AreOne}
use Rattle.line_rules.proofs.GoneOver.{AreOver, over_start, next_in, over_turn, over_end}

-- `one` has all of them, and what else it has is left
pub record AreLeft (kind : LineKind) (line : Line) (c : ℕ) (R two one : List Bool) (left : List ℕ) : Type 0 where
  pub truths : length one ≡ 1024
  pub over : AreOver (minus R two) (In one) (IsOne kind line c R two) left
  pub kept : (j : ℕ) → IsOne kind line c R two j → In one j

pub ones_start : {kind : LineKind} {line : Line} {c : ℕ} {R two : List Bool} {left : List ℕ} (rest : List Bool)
    → rest ≡ minus R two → length rest ≡ 1024 → left ≡ members_of rest → AreLeft kind line c R two rest left
ones_start {kind} {line} {c} {R} {two} {left} rest e l start =
    let P : List Bool → Type 0 = λ s. AreLeft kind line c R two s left in
    let long : length (minus R two) ≡ 1024 = ap length (sym e) ∙ l in
    subst P (sym e) (record {
      truths = long;
      over = over_start (minus R two) (In (minus R two)) (IsOne kind line c R two) left (λ j m. m)
          (start ∙ ap members_of e);
      kept = λ j o. In-minus R two j o.member (false_from_ne_true (has two j) o.outside);
    })

module _ {kind : LineKind} {line : Line} {c : ℕ} {R two one : List Bool} {left more : List ℕ} {i : ℕ}
    (h : AreLeft kind line c R two one left) (e : left ≡ i ∷ more) where
  -- the next one is of `one`, and stays
  pub ones_stay : IsOne kind line c R two i → AreLeft kind line c R two one more
  ones_stay o = record {
    truths = h.truths;
    over = over_turn h.over e (In one) (λ j m. m) (λ m. o);
    kept = h.kept;
  }

  -- or it isn't, and goes
  pub ones_go : (IsOne kind line c R two i → ⊥) → (now : List Bool) → now ≡ set one i false
      → AreLeft kind line c R two now more
  ones_go n now f =
      let P : List Bool → Type 0 = λ s. AreLeft kind line c R two s more in
      subst P (sym f) (record {
        truths = length-set one i false ∙ h.truths;
        over = over_turn h.over e (In (set one i false)) (λ j m. In-clear_kept one i j m)
            (λ m. absurd (In-clear_gone one i m));
        kept = λ j o. In-clear one i j (h.kept j o)
            (λ s. n (let Q : ℕ → Type 0 = λ k. IsOne kind line c R two k in subst Q s o));
      })

pub ones_end : {kind : LineKind} {line : Line} {c : ℕ} {R two one : List Bool} {left : List ℕ}
    → AreLeft kind line c R two one left → left ≡ [] → AreOne kind line c R two one
ones_end h e = record { truths = h.truths; members = λ j. (λ m. over_end h.over e j m, λ o. h.kept j o) }

-- the next one is outside two
pub ones_next : {kind : LineKind} {line : Line} {c : ℕ} {R two one : List Bool} {left more : List ℕ} {i : ℕ}
    → AreLeft kind line c R two one left → left ≡ i ∷ more → In R i × (In two i → ⊥)
ones_next {kind} {line} {c} {R} {two} {one} {left} {more} {i} h e =
    let q : In R i × (has two i ≡ false) = In-minus_parts R two i (next_in h.over e) in
    (q.0, λ m. false≢true (sym q.1 ∙ m))
