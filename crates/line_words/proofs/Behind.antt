-- The reading of the words behind a command.
use Rattle.std.proofs.Common.{◌≡◌, ◌⊎◌, ◌∙◌, ℕ, zero, suc, ◌+◌, ◌-◌, ◌<◌, ◌==◌, Bool, true, List, [], ◌∷◌, length}
use Rattle.std.proofs.Common.{get_or, take, drop, refl, sym, ap, subst, arith, Option, Some, None, string_bytes, inl}
use Rattle.std.proofs.Common.{inr}
use Rattle.std.specs.declared.string.String.{String}
use Rattle.std.specs.declared.alloc.Global.{Global}
use Rattle.std.proofs.lemmas.List.{take-map, take_all}
use Rattle.std.proofs.lemmas.Bool.Decides.{nat_tests}
use Rattle.line_words.specs.Words.{Text, texts}
use Rattle.line_words.specs.Table.{command_named}
use Rattle.line_words.specs.Jobs.{fault_at, word_fault, IsFirstFault, IsBehind, IsJobRead}
use Rattle.line_words.specs.declared.command.Command.{Command}
use Rattle.line_words.specs.declared.fault.UsageKind.{UsageKind}
use Rattle.line_words.specs.declared.reading.JobRead.{JobRead}
use Rattle.line_words.specs.declared.reading.JobRead.TheVariants.{Good, Usage, NoMemory}
use Rattle.line_words.proofs.Splits.{text_is, length-texts}

-- the fault at a place, in the words of the code
pub fault_is : (command : Command) (ws : List (String Global)) (i : ℕ) (w : String Global) (b : Text)
    (o : Option UsageKind)
    → i < length ws → w ≡ get_or ws i w → b ≡ string_bytes w → o ≡ word_fault command (texts (take i ws)) b
    → fault_at command (texts ws) i ≡ o
fault_is command ws i w b o h e f r =
    ap (λ t. word_fault command t (get_or (texts ws) i [])) (take-map string_bytes i ws)
    ∙ ap (word_fault command (texts (take i ws))) (text_is ws i w h e ∙ sym f) ∙ sym r

below_next : (k i : ℕ) → k < suc i → (k < i) ⊎ (k ≡ i)
below_next zero zero h = inr refl
below_next zero (suc i) h = inl (omega arith)
below_next (suc k) zero h = absurd (omega (arith, h))
below_next (suc k) (suc i) h = elim (below_next k i (omega (arith, h)))
    [ inl l ↦ inl (omega (arith, l)) | inr e ↦ inr (ap suc e) ]

-- no fault below a place, and none at it
pub none_up_to : (command : Command) (words : List Text) (i : ℕ) → ((k : ℕ) → k < i → fault_at command words k ≡ None)
    → fault_at command words i ≡ None
    → (k : ℕ) → k < i + 1 → fault_at command words k ≡ None
none_up_to command words i inv at k h =
    elim (below_next k i (omega (arith, h))) [ inl l ↦ inv k l | inr e ↦ ap (fault_at command words) e ∙ at ]

pub first_at : (command : Command) (ws : List (String Global)) (i : ℕ) (kind : UsageKind) → i < length ws
    → ((k : ℕ) → k < i → fault_at command (texts ws) k ≡ None) → fault_at command (texts ws) i ≡ Some kind
    → IsFirstFault command (texts ws) i kind
first_at command ws i kind h inv at = let l = length-texts ws in
    record { within = omega (arith, h, l); before = inv; wrong = at }

-- what holds of the words behind a command holds of all
pub answered : (words : List Text) (w : Text) (rest : List Text) (command : Command) (r : JobRead)
    → words ≡ w ∷ rest → command_named w ≡ Some command → IsBehind command rest r → IsJobRead words r
answered words w rest command r e n h = subst (λ ws. IsJobRead ws r) (sym e) (go r h)
  where
    go : (r : JobRead) → IsBehind command rest r → IsJobRead (w ∷ rest) r
    go (Good job) b = inr (command, n, b)
    go (Usage index kind) b = inr (command, n, b)
    go NoMemory b = tt

-- the first word, and those behind it
pub first_text : (ws : List (String Global)) (w : String Global) → 0 < length ws → w ≡ get_or ws 0 w
    → texts ws ≡ string_bytes w ∷ texts (drop 1 ws)
first_text [] w h e = absurd (omega (arith, h))
first_text (x ∷ ws) w h e = ap (λ t. string_bytes t ∷ texts ws) (sym e)

pub alone : (ws : List (String Global)) (w : String Global) → length ws ≡ 1 → w ≡ get_or ws 0 w
    → texts ws ≡ string_bytes w ∷ []
alone [] w h e = absurd (omega (arith, h))
alone (x ∷ []) w h e = ap (λ t. string_bytes t ∷ []) (sym e)
alone (x ∷ y ∷ ws) w h e = absurd (omega (arith, h))

-- all words but the first
pub rest_is : (ws : List (String Global)) → take (length ws - 1) (drop 1 ws) ≡ drop 1 ws
rest_is [] = refl
rest_is (x ∷ ws) = take_all (length (x ∷ ws) - 1) ws (omega arith)

is_nought : (n : ℕ) → (n == 0) ≡ true → n ≡ 0
is_nought n h = grind (arith, nat_tests)

-- there is one word where no others are left
pub one_word : (ws : List (String Global)) (b : Bool) → b ≡ (length (take (length ws - 1) (drop 1 ws)) == 0) → b ≡ true
    → 0 < length ws → length ws ≡ 1
one_word [] b e t h = absurd (omega (arith, h))
one_word (x ∷ ws) b e t h =
    let l : length (take (length (x ∷ ws) - 1) ws) ≡ 0 = is_nought (length (take (length (x ∷ ws) - 1) ws))
    (sym e ∙ t) in
    let r : length (take (length (x ∷ ws) - 1) ws) ≡ length ws = ap length (rest_is (x ∷ ws)) in
    omega (arith, l, r)
