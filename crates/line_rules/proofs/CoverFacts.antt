-- A list of the loads that pass a test grows by the next one, and so do the cites that cover them.
use Rattle.std.proofs.Common.{◌≡◌, ℕ, suc, ◌-◌, ◌+◌, Bool, List, [], ◌∷◌, ◌++◌, length, refl, sym, ap, ◌∙◌, subst, ◌⊎◌}
use Rattle.std.proofs.Common.{inl, inr, arith, Some, length-append}
use Rattle.std.specs.Prelude.{slice_get}
use Rattle.line_instance.specs.Line.{Line}
use Rattle.line_rules.specs.Loads.{rest}
use Rattle.line_rules.specs.Order.{Precedes, Lists, Counts}
use Rattle.line_rules.specs.Entries.{Cites, Covers}
use Rattle.line_rules.specs.declared.types.Load.{Load}
use Rattle.line_rules.specs.declared.types.Entry.{Entry}
use Rattle.line_rules.proofs.ListFacts.{get_longer, get_push_cases, get_last, get_none}

pub lists_same : (line : Line) (P Q : Load → Type 0) (ls : List Load) → ((l : Load) → P l → Q l)
    → ((l : Load) → Q l → P l) → Lists line P ls → Lists line Q ls
lists_same line P Q ls f g h = record {
  rises = h.rises;
  sound = λ k a e. f a (h.sound k a e);
  complete = λ a q. h.complete a (g a q);
}

-- Q has one load more than P, and it stands above them
lists_push : (line : Line) (P Q : Load → Type 0) (ls : List Load) (new : Load) → ((l : Load) → P l → Q l) → Q new
    → ((l : Load) → P l → Precedes line l new) → ((l : Load) → Q l → P l ⊎ (l ≡ new))
    → Lists line P ls → Lists line Q (ls ++ new ∷ [])
lists_push line P Q ls new f q above g h = record {
  rises = λ k a b e d. elim (get_push_cases ls new b (suc k) d) [
    | inl i ↦ elim (get_push_cases ls new a k e) [
      | inl j ↦ h.rises k a b j.1 i.1
      | inr j ↦ absurd (omega (arith, i.0, j.0))
    ]
    | inr i ↦ elim (get_push_cases ls new a k e) [
      | inl j ↦ (let R : Load → Type 0 = λ z. Precedes line a z in subst R i.1 (above a (h.sound k a j.1)))
      | inr j ↦ absurd (omega (arith, i.0, j.0))
    ]
  ];
  sound = λ k a e. elim (get_push_cases ls new a k e) [
    | inl i ↦ f a (h.sound k a i.1)
    | inr i ↦ subst Q i.1 q
  ];
  complete = λ a x. elim (g a x) [
    | inl p ↦ let r : (k : ℕ) × (slice_get ls k ≡ Some a) = h.complete a p in (r.0, get_longer ls (new ∷ []) r.0 a r.1)
    | inr e ↦ (length ls, get_last ls new ∙ ap Some (sym e))
  ];
}

lists_none : (line : Line) (P : Load → Type 0) → ((l : Load) → P l → ⊥) → Lists line P []
lists_none line P nope = record {
  rises = λ k a b e d. absurd (get_none k a e);
  sound = λ k a e. absurd (get_none k a e);
  complete = λ a p. absurd (nope a p);
}

pub counts_same : (line : Line) (P Q : Load → Type 0) (n : ℕ) → ((l : Load) → P l → Q l) → ((l : Load) → Q l → P l)
    → Counts line P n → Counts line Q n
counts_same line P Q n f g h = record {
  loads = h.loads;
  listed = lists_same line P Q h.loads f g h.listed;
  long = h.long;
}

pub counts_push : (line : Line) (P Q : Load → Type 0) (n : ℕ) (new : Load) → ((l : Load) → P l → Q l) → Q new
    → ((l : Load) → P l → Precedes line l new) → ((l : Load) → Q l → P l ⊎ (l ≡ new))
    → Counts line P n → Counts line Q (n + 1)
counts_push line P Q n new f q above g h = record {
  loads = h.loads ++ new ∷ [];
  listed = lists_push line P Q h.loads new f q above g h.listed;
  long = omega (arith, h.long, length-append h.loads (new ∷ []));
}

pub counts_none : (line : Line) (P : Load → Type 0) → ((l : Load) → P l → ⊥) → Counts line P 0
counts_none line P nope = record { loads = []; listed = lists_none line P nope; long = refl }

pub covers_same : (line : Line) (P Q : Load → Type 0) (es : List Entry) (R : List Bool) (most c : ℕ) (cites : List ℕ)
    → ((l : Load) → P l → Q l) → ((l : Load) → Q l → P l)
    → Covers line P es R most c cites → Covers line Q es R most c cites
covers_same line P Q es R most c cites f g h = record {
  loads = h.loads;
  listed = lists_same line P Q h.loads f g h.listed;
  as_many = h.as_many;
  cited = h.cited;
}

pub covers_push : (line : Line) (P Q : Load → Type 0) (es : List Entry) (R : List Bool) (most c : ℕ) (cites : List ℕ)
    (new : Load) (cite : ℕ)
    → ((l : Load) → P l → Q l) → Q new → ((l : Load) → P l → Precedes line l new) → ((l : Load) → Q l → P l ⊎ (l ≡ new))
    → Cites es cite (rest R new) (most - 1) c
    → Covers line P es R most c cites → Covers line Q es R most c (cites ++ cite ∷ [])
covers_push line P Q es R most c cites new cite f q above g y h = record {
  loads = h.loads ++ new ∷ [];
  listed = lists_push line P Q h.loads new f q above g h.listed;
  as_many = omega (arith, h.as_many, length-append h.loads (new ∷ []), length-append cites (cite ∷ []));
  cited = λ p x l a b. elim (get_push_cases cites cite x p a) [
    | inl i ↦ elim (get_push_cases h.loads new l p b) [
      | inl j ↦ h.cited p x l i.1 j.1
      | inr j ↦ absurd (omega (arith, h.as_many, i.0, j.0))
    ]
    | inr i ↦ elim (get_push_cases h.loads new l p b) [
      | inl j ↦ absurd (omega (arith, h.as_many, i.0, j.0))
      | inr j ↦ (let A : ℕ → Type 0 = λ z. Cites es z (rest R l) (most - 1) c in let B : Load
          → Type 0 = λ z. Cites es cite (rest R z) (most - 1) c in subst A i.1 (subst B j.1 y))
    ]
  ];
}

pub covers_none : (line : Line) (P : Load → Type 0) (es : List Entry) (R : List Bool) (most c : ℕ)
    → ((l : Load) → P l → ⊥) → Covers line P es R most c []
covers_none line P es R most c nope = record {
  loads = [];
  listed = lists_none line P nope;
  as_many = refl;
  cited = λ p cite l a b. absurd (get_none p cite a);
}
