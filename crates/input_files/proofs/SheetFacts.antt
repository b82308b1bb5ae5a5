-- What the bytes of a file say is what the file says.
use Rattle.std.proofs.Common.{◌≡◌, ℕ, ◌≤◌, List, [], ◌∷◌, length, Option, Some, None, sym, subst, refl}
use Rattle.std.specs.Prelude.{cond, Bool, true, false}
use Rattle.std.specs.List.{cons_option}
use Rattle.std.proofs.lemmas.Option.{none-some}
use Rattle.line_instance.specs.declared.arcs.Prec.{Prec}
use Rattle.task_table.specs.Lists.{Member, first_pair, pairs_of, place_of}
use Rattle.input_files.specs.InputFile.{max_file}
use Rattle.input_files.specs.Sheet.{IsSheetFrom, IsSheetIn}
use Rattle.input_files.specs.declared.sheets.Sheet.{Sheet}

-- what the bytes of a file say of its sheet
pub sheet_from : (file : Option (List ℕ)) (bytes : List ℕ) (s : Sheet) → file ≡ Some bytes → length bytes ≤ max_file
    → IsSheetIn bytes s → IsSheetFrom file s
sheet_from file bytes s e w h =
    let P : Option (List ℕ) → Type 0 = λ f. IsSheetFrom f s in
    subst P (sym e) (record { naming = h.naming; mark = h.mark; bom = h.bom; listed = (w, h.listed) })

-- one member more
none_more : (b : Bool) (row : ℕ) (pair : Prec) (first : Option ℕ) (rest : List Prec) → (first ≡ None → rest ≡ [])
    → cond b (Some row) first ≡ None → cons_option (cond b (Some pair) None) rest ≡ []
none_more true row pair first rest go h = absurd (none-some row (sym h))
none_more false row pair first rest go h = go h

-- where no record lists a task that is apart, no pairs are listed
pub none_listed : (names : List (List ℕ)) (members : List Member) → first_pair members ≡ None
    → pairs_of names members ≡ []
none_listed names [] h = refl
none_listed names (m ∷ members) h =
    none_more m.apart m.row (record { first = m.task; «then» = place_of names m.name }) (first_pair members)
    (pairs_of names members) (none_listed names members) h
