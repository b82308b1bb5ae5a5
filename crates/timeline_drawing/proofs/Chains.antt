-- Texts that are pushed one behind the other.
use Rattle.std.proofs.Common.{◌≡◌, ℕ, List, ◌++◌, ap, ◌∙◌, append_assoc}

-- a text behind one that was pushed
pub behind : (old a b : List ℕ) {mid new : List ℕ} → mid ≡ old ++ a → new ≡ mid ++ b → new ≡ old ++ (a ++ b)
behind old a b p q = q ∙ ap (λ t. t ++ b) p ∙ append_assoc old a b

pub three : (old a b c : List ℕ) {t u v : List ℕ} → t ≡ old ++ a → u ≡ t ++ b → v ≡ u ++ c → v ≡ old ++ (a ++ b ++ c)
three old a b c p q r = behind old (a ++ b) c (behind old a b p q) r

pub five : (old a b c d e : List ℕ) {t u v w x : List ℕ} → t ≡ old ++ a → u ≡ t ++ b → v ≡ u ++ c → w ≡ v ++ d
    → x ≡ w ++ e
    → x ≡ old ++ (a ++ b ++ c ++ d ++ e)
five old a b c d e p q r s t = three old (a ++ b ++ c) d e (three old a b c p q r) s t

pub seven : (old a b c d e f g : List ℕ) {t u v w x y z : List ℕ} → t ≡ old ++ a → u ≡ t ++ b → v ≡ u ++ c
    → w ≡ v ++ d → x ≡ w ++ e → y ≡ x ++ f → z ≡ y ++ g
    → z ≡ old ++ (a ++ b ++ c ++ d ++ e ++ f ++ g)
seven old a b c d e f g p q r s t u v = three old (a ++ b ++ c ++ d ++ e) f g (five old a b c d e p q r s t) u v
