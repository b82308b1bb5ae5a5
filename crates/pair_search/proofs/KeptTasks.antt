-- The members of a set are gone over, and those that don't pass are taken out.
use Rattle.std.proofs.Common.{◌≡◌, ℕ, Bool, false, List, [], ◌∷◌, length, set, sym, ap, ◌∙◌, subst, inl, inr}
use Rattle.std.proofs.lemmas.List.{length-set}
use Rattle.std.proofs.lemmas.Bool.{false≢true, cases_Bool, cases_eq}
use Rattle.line_instance.specs.Truths.{In, members_of}
use Rattle.line_instance.specs.Line.{has}
use Rattle.line_instance.proofs.Members.{In-clear, In-clear_kept, In-clear_gone}
use Rattle.line_rules.proofs.GoneOver.{AreOver, over_start, next_in, over_turn, over_end}

-- now has members of s, of which each is to come or passes P; each other member of s passes Q
pub record AreKept (s : List Bool) (P Q : ℕ → Type 0) (now : List Bool) (left : List ℕ) : Type 0 where
  pub truths : length now ≡ 1024
  pub within : (j : ℕ) → In now j → In s j
  pub over : AreOver s (In now) P left
  pub gone : (j : ℕ) → In s j → (In now j → ⊥) → Q j

pub kept_start : (s : List Bool) (P Q : ℕ → Type 0) (now : List Bool) (left : List ℕ) → now ≡ s → length now ≡ 1024
    → left ≡ members_of now → AreKept s P Q now left
kept_start s P Q now left e l start = record {
  truths = l;
  within = λ j m. let R : List Bool → Type 0 = λ t. In t j in subst R e m;
  over = over_start s (In now) P left (λ j m. let R : List Bool → Type 0 = λ t. In t j in subst R e m)
      (start ∙ ap members_of e);
  gone = λ j m n. absurd (n (let R : List Bool → Type 0 = λ t. In t j in subst R (sym e) m));
}

module _ {s : List Bool} {P Q : ℕ → Type 0} {now : List Bool} {left more : List ℕ} {i : ℕ}
    (h : AreKept s P Q now left) (e : left ≡ i ∷ more) where
  pub kept_next : In s i
  kept_next = next_in h.over e

  -- the next one passes P, and stays
  pub kept_stay : P i → AreKept s P Q now more
  kept_stay p = record {
    truths = h.truths;
    within = h.within;
    over = over_turn h.over e (In now) (λ j m. m) (λ m. p);
    gone = h.gone;
  }

  -- or it passes Q, and goes
  pub kept_go : Q i → (after : List Bool) → after ≡ set now i false → AreKept s P Q after more
  kept_go q after f =
      let R : List Bool → Type 0 = λ t. AreKept s P Q t more in
      subst R (sym f) (record {
        truths = length-set now i false ∙ h.truths;
        within = λ j m. h.within j (In-clear_kept now i j m);
        over = over_turn h.over e (In (set now i false)) (λ j m. In-clear_kept now i j m)
            (λ m. absurd (In-clear_gone now i m));
        gone = λ j m n. elim (cases_eq j i) [
          | inl same ↦ subst Q (sym same) q
          | inr other ↦ h.gone j m (λ k. n (In-clear now i j k other))
        ];
      })

-- at the end each member passes P
pub kept_end : {s : List Bool} {P Q : ℕ → Type 0} {now : List Bool} {left : List ℕ} → AreKept s P Q now left → left ≡ []
    → (j : ℕ) → In now j → P j
kept_end h e j m = over_end h.over e j m

-- and each member of s that passes P and not Q was kept
pub kept_all : {s : List Bool} {P Q : ℕ → Type 0} {now : List Bool} {left : List ℕ} → AreKept s P Q now left → (j : ℕ)
    → In s j → (Q j → ⊥) → In now j
kept_all {s} {P} {Q} {now} {left} h j m n = elim (cases_Bool (has now j)) [
  | inl t ↦ t
  | inr f ↦ absurd (n (h.gone j m (λ t. false≢true (sym f ∙ t))))
]
