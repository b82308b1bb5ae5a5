-- What is left of a file that is read line by line, and why that stops.
use Rattle.std.specs.Prelude.{◌≡◌, ℕ, ◌+◌, ◌<◌, ◌≤◌, List, ◌++◌, length, drop, Option, Some}
use Rattle.line_io.specs.Outside.{up}
use Rattle.cert_files.specs.inner.Pieces.{bytes_of}
use Rattle.cert_files.specs.declared.stop.Stop.{Stop}
use Rattle.cert_files.specs.declared.stop.Stop.TheVariants.{Going, Failed, TooLong, Memory}

-- the bytes of a file from a place on
abbrev pub bytes_from : ℕ → Option (List ℕ) → List ℕ
bytes_from at file = drop at (bytes_of file)

-- how often the outside has failed at least once a fetch fails
abbrev pub least_of : Stop → ℕ → ℕ
least_of Going faults = up faults
least_of Failed faults = faults
least_of TooLong faults = up faults
least_of Memory faults = up faults

-- the piece that came has the bytes of the file from a place on, at least one
pub record IsNext (file : Option (List ℕ)) (at : ℕ) (piece : List ℕ) : Type 0 where
  pub some : 0 < length piece
  pub all : bytes_from at file ≡ piece ++ bytes_from (at + length piece) file

-- the file is there, and ends at a place or before it
pub record IsEnd (file : Option (List ℕ)) (at : ℕ) : Type 0 where
  pub there : file ≡ Some (bytes_of file)
  pub ends : length (bytes_of file) ≤ at

-- what taking lines doesn't change: the reference to the shelf, the name of the file, the limit, how often a write has
-- failed, and the files, where they are told
abbrev pub Reading : Type 0 → Type 0
Reading tells = ℕ × List ℕ × ℕ × ℕ × (tells → List ℕ → Option (List ℕ))

-- the file is there, within the limit
pub record IsWithin (file : Option (List ℕ)) (limit : ℕ) : Type 0 where
  pub there : file ≡ Some (bytes_of file)
  pub within : length (bytes_of file) ≤ limit
