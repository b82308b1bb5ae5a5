-- How the lines of charges, of units, of entries and of frames are read (own). Numbers are read up to 2^64 - 1, which
-- is above each range.
use Rattle.std.specs.Prelude.{ℕ, ◌-◌, cond, nat_eq, bytes_eq, List, length, Option, Some, None, codes}
use Rattle.cert_lines.specs.Words.{◌>>=◌, parts_at, number_in, number_first, cites_in, is_none}
use Rattle.sequence_values.specs.declared.types.SeqEntry.{SeqEntry}
use Rattle.sequence_values.specs.declared.types.SeqWhy.{SeqWhy}
use Rattle.sequence_values.specs.declared.types.SeqWhy.TheVariants as why
use Rattle.sequence_values.specs.declared.types.SeqFrame.{SeqFrame}
use Rattle.sequence_cert.specs.declared.version.Version.{Version}
use Rattle.sequence_cert.specs.declared.version.Version.TheVariants as version
use Rattle.sequence_cert.specs.declared.words.FrameDraft.{FrameDraft}
use Rattle.sequence_cert.specs.declared.words.Citing.{Citing}
use Rattle.sequence_cert.specs.declared.words.Citing.TheVariants as citing

-- so many numbers with a comma between
unfoldable pub many_in : ℕ → List ℕ → Option (List ℕ)
many_in n word = do
  ns ← cites_in word
  cond (nat_eq (length ns) n) (Some ns) None

-- the charges of so many models
unfoldable pub charges_in : ℕ → List ℕ → Option (List ℕ)
charges_in models line = do
  k ← parts_at 32 line
  cond (bytes_eq k.0 (codes "charges")) (many_in models k.1) None

-- what is left of so many models and the starts at so many stations, and what stands behind them
unfoldable pub state_in : ℕ → ℕ → List ℕ → Option ((List ℕ × List ℕ) × List ℕ)
state_in models stations bytes = do
  r ← parts_at 32 bytes
  rem ← many_in models r.0
  s ← parts_at 32 r.1
  starts ← many_in stations s.0
  Some ((rem, starts), s.1)

-- what an entry says behind its first word
unfoldable pub bound_in : ℕ → ℕ → List ℕ → Option SeqEntry
bound_in models stations bytes = do
  s ← state_in models stations bytes
  least ← number_in s.1
  Some (record { rem = s.0.0; starts = s.0.1; least = least; why = why.Bound })

-- the reason with these cites
abbrev pub why_of : Citing → List ℕ → SeqWhy
why_of citing.Branch cites = why.Branch cites
why_of citing.Charge cites = why.Charge cites

unfoldable pub cited_in : Citing → ℕ → ℕ → List ℕ → Option SeqEntry
cited_in kind models stations bytes = do
  s ← state_in models stations bytes
  least ← number_first s.1
  cites ← cites_in least.1
  Some (record { rem = s.0.0; starts = s.0.1; least = least.0; why = why_of kind cites })

-- the line of an entry by Charge, which stands in version 2 alone and has one number of units
abbrev pub charge_in : Version → ℕ → List ℕ → List ℕ → Option SeqEntry
charge_in version.One stations word bytes = None
charge_in version.Two stations word bytes =
    cond (bytes_eq word (codes "charge")) (cited_in citing.Charge 1 stations bytes) None

-- the line of an entry over so many models and stations, in a text of this version
unfoldable pub entry_in : Version → ℕ → ℕ → List ℕ → Option SeqEntry
entry_in v models stations line = do
  k ← parts_at 32 line
  cond (bytes_eq k.0 (codes "bound")) (bound_in models stations k.1)
      (cond (bytes_eq k.0 (codes "branch")) (cited_in citing.Branch models stations k.1)
      (charge_in v stations k.0 k.1))

-- the last model that a word is, counted from 1, or the mark of none
unfoldable pub last_in : List ℕ → Option (Option ℕ)
last_in word = cond (is_none word) (Some None) (number_in word >>= λ n. Some (Some n))

-- what a frame says behind its first word
unfoldable pub open_in : ℕ → ℕ → List ℕ → Option FrameDraft
open_in models stations bytes = do
  s ← state_in models stations bytes
  need ← number_first s.1
  w ← parts_at 32 need.1
  last ← last_in w.0
  cites ← cites_in w.1
  Some (record { rem = s.0.0; starts = s.0.1; need = need.0; last = last; cites = cites })

-- the line of a frame over so many models and stations
unfoldable pub frame_in : ℕ → ℕ → List ℕ → Option FrameDraft
frame_in models stations line = do
  k ← parts_at 32 line
  cond (bytes_eq k.0 (codes "open")) (open_in models stations k.1) None

-- a model that is counted from 1, where there is one, counted from 0
abbrev pub indexed : Option ℕ → Option ℕ
indexed None = None
indexed (Some n) = Some (n - 1)

-- the frame of a line
abbrev pub frame_of : FrameDraft → SeqFrame
frame_of d = record { rem = d.rem; starts = d.starts; need = d.need; last = indexed d.last; cites = d.cites }
