-- A text that is made of the texts of a list's members, a member at a time.
use Rattle.std.proofs.Common.{◌≡◌, ℕ, ◌+◌, ◌<◌, List, [], ◌++◌, length, take, get_or, sym, ◌∙◌, ap, append_assoc}
use Rattle.std.specs.List.{flat_map}
use Rattle.std.proofs.lemmas.List.{take_more, flat_map_more}

pub next_text : {X : Type 0} (f : X → List ℕ) (xs : List X) (k : ℕ) (d : X) (part : List ℕ) → k < length xs
    → f (get_or xs k d) ≡ part → flat_map f (take k xs) ++ part ≡ flat_map f (take (k + 1) xs)
next_text f xs k d part h p =
    ap (λ r. flat_map f (take k xs) ++ r) (sym p) ∙ flat_map_more f [] (take k xs) (get_or xs k d)
    ∙ ap (flat_map f) (sym (take_more xs k d h))

pub next_written : {X : Type 0} (f : X → List ℕ) (xs : List X) (k : ℕ) (d : X) (text old new part : List ℕ)
    → k < length xs → f (get_or xs k d) ≡ part → old ≡ text ++ flat_map f (take k xs) → new ≡ old ++ part
    → new ≡ text ++ flat_map f (take (k + 1) xs)
next_written f xs k d text old new part h p o w =
    w ∙ ap (λ r. r ++ part) o ∙ append_assoc text (flat_map f (take k xs)) part
    ∙ ap (λ r. text ++ r) (next_text f xs k d part h p)
