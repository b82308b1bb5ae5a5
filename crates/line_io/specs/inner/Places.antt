-- Where the file of a name is kept.
use Rattle.std.specs.Prelude.{◌≡◌, ◌≢◌, ℕ, ◌<◌, List, length, slice_index_or, slice_set, Some, true}
use Rattle.line_io.specs.Kept.{NamedFile, file_in, blames}
use Rattle.line_io.specs.declared.kept_files.Blame.TheVariants.{File}

-- k is the place of the name's file: it is read there, and written there
pub record IsPlace (fs : List NamedFile) (q : List ℕ) (k : ℕ) : Type 0 where
  pub within : k < length fs
  pub name : (d : NamedFile) → (slice_index_or fs k d).name ≡ q
  pub blame : blames fs (File k) q ≡ true
  pub alone : (r : List ℕ) → blames fs (File k) r ≡ true → r ≡ q
  pub kept : (f : NamedFile) → f.name ≡ q → blames (slice_set fs k f) (File k) q ≡ true
  pub kept_alone : (f : NamedFile) → f.name ≡ q → (r : List ℕ) → blames (slice_set fs k f) (File k) r ≡ true → r ≡ q
  pub read : (d : NamedFile) → file_in fs q ≡ Some (slice_index_or fs k d).bytes
  pub written : (f : NamedFile) → f.name ≡ q → file_in (slice_set fs k f) q ≡ Some f.bytes
  pub others : (f : NamedFile) → f.name ≡ q → (r : List ℕ) → r ≢ q → file_in (slice_set fs k f) r ≡ file_in fs r
