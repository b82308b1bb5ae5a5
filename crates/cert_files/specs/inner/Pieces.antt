-- A text that is put into a file piece by piece.
use Rattle.std.specs.Prelude.{ℕ, Bool, not, cond, bytes_eq, List, [], ◌++◌, Option, Some, None}
use Rattle.cert_text.specs.Sent.{Sent}

-- the bytes of a file, none where it is missing
abbrev pub bytes_of : Option (List ℕ) → List ℕ
bytes_of None = []
bytes_of (Some bytes) = bytes

-- a file as if it were empty, where it is there
abbrev pub emptied : Option (List ℕ) → Option (List ℕ)
emptied None = None
emptied (Some bytes) = Some []

-- the files, that of one name as if it were empty
abbrev pub beside : List ℕ → (List ℕ → Option (List ℕ)) → List ℕ → Option (List ℕ)
beside name files q = cond (bytes_eq q name) (emptied (files q)) (files q)

-- what stays as it is: the reference to the shelf, the name of the file, and the other files, where they are told
abbrev pub Staying : Type 0 → Type 0
Staying tells = ℕ × List ℕ × (tells → List ℕ → Option (List ℕ))

-- what is put stands in the file of this name and behind its bytes in the buffer; what is kept of it is in the file
abbrev pub sent_into : (tells : Type 0) → Bool → List ℕ → ℕ → List ℕ → (List ℕ → Option (List ℕ)) → ℕ
    → Sent (Staying tells)
sent_into tells failed buffer reference name files faults = record {
  good = not failed;
  shown = bytes_of (files name) ++ buffer;
  kept = bytes_of (files name);
  faults = faults;
  base = (reference, name, λ told. beside name files);
}
