-- The fields of a record, one by one.
use Rattle.std.proofs.Common.{◌≡◌, ◌≤◌, ◌<◌, ◌+◌, ℕ, zero, suc, false, ◌||◌, nat_lt, List, [], ◌∷◌, length, drop}
use Rattle.std.proofs.Common.{Option, Some, None, refl, sym, ◌∙◌, ap, add-one, drop-cons}
use Rattle.std.specs.Prelude.{option_map, unwrap_or}
use Rattle.std.specs.Borrow.{Bor}
use Rattle.std.proofs.lemmas.List.{drop_all}
use Rattle.csv.specs.Records.{field_at}
use Rattle.task_table.specs.Records.{Fields, field, says}

some_field : (fields : Fields) (k : ℕ) (f : List ℕ) → field_at fields k ≡ Some f → f ≡ field fields k
unfolding field_at
some_field [] k f h = cc h
some_field (x ∷ fields) zero f h = cc h
some_field (x ∷ fields) (suc k) f h = some_field fields k f h

no_field : (fields : Fields) (k : ℕ) → field_at fields k ≡ None → [] ≡ field fields k
unfolding field_at
no_field [] k h = refl
no_field (x ∷ fields) zero h = cc h
no_field (x ∷ fields) (suc k) h = no_field fields k h

-- a field that a record gives, or the empty one in its place
pub given_field : (fields : Fields) (k : ℕ) (given : Option (Bor (List ℕ))) (empty : Bor (List ℕ))
    → option_map (λ s. s.now) given ≡ field_at fields k → empty.now ≡ [] → (unwrap_or given empty).now ≡ field fields k
given_field fields k None empty h e = e ∙ no_field fields k (sym h)
given_field fields k (Some f) empty h e = some_field fields k f.now (sym h)

-- the fields from a place on say something where the one there does, or those behind it do
pub says_more : (fields : Fields) (k : ℕ) → k < length fields
    → says (drop k fields) ≡ (nat_lt 0 (length (field fields k)) || says (drop (k + 1) fields))
says_more fields k h = ap says (drop-cons fields k [] h)
    ∙ ap (λ j. nat_lt 0 (length (field fields k)) || says (drop j fields)) (sym (add-one k))

pub says_nothing : (fields : Fields) (k : ℕ) → length fields ≤ k → says (drop k fields) ≡ false
says_nothing fields k h = ap says (drop_all k fields h)
