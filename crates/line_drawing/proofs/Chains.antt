-- Texts that are pushed one behind the other.
use Rattle.std.proofs.Common.{◌≡◌, ℕ, List, ◌++◌, ap, ◌∙◌, append_assoc}

-- a text behind one that was pushed
pub behind : (old a b : List ℕ) {mid new : List ℕ} → mid ≡ old ++ a → new ≡ mid ++ b → new ≡ old ++ (a ++ b)
behind old a b p q = q ∙ ap (λ t. t ++ b) p ∙ append_assoc old a b

pub three : (old a b c : List ℕ) {t u v : List ℕ} → t ≡ old ++ a → u ≡ t ++ b → v ≡ u ++ c → v ≡ old ++ (a ++ b ++ c)
three old a b c p q r = behind old (a ++ b) c (behind old a b p q) r

pub six : (old a b c d e f : List ℕ) {t u v w x y : List ℕ} → t ≡ old ++ a → u ≡ t ++ b → v ≡ u ++ c → w ≡ v ++ d
    → x ≡ w ++ e → y ≡ x ++ f
    → y ≡ old ++ (a ++ b ++ c ++ d ++ e ++ f)
six old a b c d e f p q r s t u = three old (a ++ b ++ c ++ d) e f
    (behind old (a ++ b ++ c) d (three old a b c p q r) s) t u

pub eight : (old a b c d e f g h : List ℕ) {t u v w x y z k : List ℕ} → t ≡ old ++ a → u ≡ t ++ b → v ≡ u ++ c
    → w ≡ v ++ d → x ≡ w ++ e → y ≡ x ++ f → z ≡ y ++ g → k ≡ z ++ h
    → k ≡ old ++ (a ++ b ++ c ++ d ++ e ++ f ++ g ++ h)
eight old a b c d e f g h p q r s t u v w = three old (a ++ b ++ c ++ d ++ e ++ f) g h (six old a b c d e f p q r s t u)
    v w
