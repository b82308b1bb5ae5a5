-- Where the file of a name is.
use Rattle.std.proofs.Common.{◌≡◌, ℕ, zero, suc, ◌<◌, Bool, true, false, cond, List, [], ◌∷◌, ◌++◌, length, get_or, set}
use Rattle.std.proofs.Common.{Some, None, refl, sym, ◌∙◌, ap, arith, bytes_eq}
use Rattle.std.proofs.lemmas.Slice.Eq.{bytes_eq-Decides}
use Rattle.std.proofs.lemmas.List.{get_or_default}
use Rattle.line_io.specs.Kept.{NamedFile, file_in, name_at}
use Rattle.line_io.specs.inner.Places.{IsPlace}

alike : (a b : List ℕ) → a ≡ b → bytes_eq a b ≡ true
alike a b e = (bytes_eq-Decides a b).1 e

pub unlike : (a b : List ℕ) → (a ≡ b → ⊥) → bytes_eq a b ≡ false
unlike a b n =
    let I : (t : Bool) → bytes_eq a b ≡ t → bytes_eq a b ≡ false =
    elim [ true ↦ (λ e. absurd (n ((bytes_eq-Decides a b).0 e))) | false ↦ (λ e. e) ] in
    I (bytes_eq a b) refl

hit : (f : NamedFile) (fs : List NamedFile) (q : List ℕ) → f.name ≡ q → file_in (f ∷ fs) q ≡ Some f.bytes
hit f fs q e = ap (λ t. cond t (Some f.bytes) (file_in fs q)) (alike f.name q e)

miss : (f : NamedFile) (fs : List NamedFile) (q : List ℕ) → (f.name ≡ q → ⊥) → file_in (f ∷ fs) q ≡ file_in fs q
miss f fs q n = ap (λ t. cond t (Some f.bytes) (file_in fs q)) (unlike f.name q n)

same_rest : (f : NamedFile) (fs gs : List NamedFile) (q : List ℕ) → file_in fs q ≡ file_in gs q
    → file_in (f ∷ fs) q ≡ file_in (f ∷ gs) q
same_rest f fs gs q e = ap (cond (bytes_eq f.name q) (Some f.bytes)) e

-- no file before k has the name
abbrev pub NoneBefore : List NamedFile → List ℕ → ℕ → Type 0
NoneBefore fs q k = (j : ℕ) (d : NamedFile) → j < k → (get_or fs j d).name ≡ q → ⊥

after_head : (f : NamedFile) (fs : List NamedFile) (q : List ℕ) (k : ℕ) → NoneBefore (f ∷ fs) q (suc k)
    → NoneBefore fs q k
after_head f fs q k b j d h e = b (suc j) d (omega arith) e

read_at : (fs : List NamedFile) (q : List ℕ) (k : ℕ) (d : NamedFile) → k < length fs → NoneBefore fs q k
    → (get_or fs k d).name ≡ q → file_in fs q ≡ Some (get_or fs k d).bytes
read_at [] q k d h b e = absurd (omega arith)
read_at (f ∷ fs) q zero d h b e = hit f fs q e
read_at (f ∷ fs) q (suc k) d h b e = miss f fs q (λ n. b 0 d (omega arith) n)
    ∙ read_at fs q k d (omega arith) (after_head f fs q k b) e

written_at : (fs : List NamedFile) (q : List ℕ) (k : ℕ) (g : NamedFile) → k < length fs → NoneBefore fs q k → g.name ≡ q
    → file_in (set fs k g) q ≡ Some g.bytes
written_at [] q k g h b e = absurd (omega arith)
written_at (f ∷ fs) q zero g h b e = hit g fs q e
written_at (f ∷ fs) q (suc k) g h b e = miss f (set fs k g) q (λ n. b 0 f (omega arith) n)
    ∙ written_at fs q k g (omega arith) (after_head f fs q k b) e

others_at : (fs : List NamedFile) (q : List ℕ) (k : ℕ) (g d : NamedFile) → k < length fs → (get_or fs k d).name ≡ q
    → g.name ≡ q → (r : List ℕ) → (r ≡ q → ⊥) → file_in (set fs k g) r ≡ file_in fs r
others_at [] q k g d h e i r n = absurd (omega arith)
others_at (f ∷ fs) q zero g d h e i r n = miss g fs r (λ m. n (sym m ∙ i)) ∙ sym (miss f fs r (λ m. n (sym m ∙ e)))
others_at (f ∷ fs) q (suc k) g d h e i r n = same_rest f (set fs k g) fs r (others_at fs q k g d (omega arith) e i r n)

abbrev nameless : NamedFile
nameless = record { name = []; bytes = [] }

set_there : (fs : List NamedFile) (k : ℕ) (f d : NamedFile) → k < length fs → get_or (set fs k f) k d ≡ f
set_there [] k f d h = absurd (omega arith)
set_there (g ∷ fs) zero f d h = refl
set_there (g ∷ fs) (suc k) f d h = set_there fs k f d (omega arith)

pub place : (fs : List NamedFile) (q : List ℕ) (k : ℕ) (c : NamedFile) → k < length fs → NoneBefore fs q k
    → (get_or fs k c).name ≡ q → IsPlace fs q k
place fs q k c h b e =
    let named : (d : NamedFile) → (get_or fs k d).name ≡ q = λ d. ap (λ f. f.name) (get_or_default fs k d c h) ∙ e in
    record {
      within = h;
      name = named;
      blame = alike (name_at fs k) q (named nameless);
      alone = λ r m. sym ((bytes_eq-Decides (name_at fs k) r).0 m) ∙ named nameless;
      kept = λ f i. alike (name_at (set fs k f) k) q (ap (λ g. g.name) (set_there fs k f nameless h) ∙ i);
      kept_alone = λ f i r m. sym ((bytes_eq-Decides (name_at (set fs k f) k) r).0 m)
          ∙ ap (λ g. g.name) (set_there fs k f nameless h) ∙ i;
      read = λ d. read_at fs q k d h b (named d);
      written = λ f i. written_at fs q k f h b i;
      others = λ f i r n. others_at fs q k f c h e i r n;
    }

pub missing : (fs : List NamedFile) (q : List ℕ) → NoneBefore fs q (length fs) → file_in fs q ≡ None
missing [] q b = refl
missing (f ∷ fs) q b = miss f fs q (λ n. b 0 f (omega arith) n) ∙ missing fs q (after_head f fs q (length fs) b)

-- a new file at the end
pub pushed_here : (fs : List NamedFile) (q : List ℕ) (f : NamedFile) → file_in fs q ≡ None → f.name ≡ q
    → file_in (fs ++ f ∷ []) q ≡ Some f.bytes
pushed_here [] q f n e = hit f [] q e
pushed_here (g ∷ fs) q f n e =
    let no : g.name ≡ q → ⊥ = λ m. (let a : Some g.bytes ≡ None = sym (hit g fs q m) ∙ n in cc) in
    miss g (fs ++ f ∷ []) q no ∙ pushed_here fs q f (sym (miss g fs q no) ∙ n) e

pub pushed_others : (fs : List NamedFile) (q r : List ℕ) (f : NamedFile) → f.name ≡ q → (r ≡ q → ⊥)
    → file_in (fs ++ f ∷ []) r ≡ file_in fs r
pushed_others [] q r f e n = miss f [] r (λ m. n (sym m ∙ e))
pushed_others (g ∷ fs) q r f e n = same_rest g (fs ++ f ∷ []) fs r (pushed_others fs q r f e n)
