-- How lines are read.
use Rattle.std.specs.Prelude.{ℕ, Bool, false, cond, ◌&&◌, nat_eq, List, [], ◌∷◌, Option, Some, None, bytes_eq, codes}
use Rattle.std.specs.Prelude.{replicate}
use Rattle.line_rules.specs.declared.types.LineKind.{LineKind}
use Rattle.line_rules.specs.declared.types.LineKind.TheVariants.{Straight, U}
use Rattle.line_rules.specs.declared.types.Side.{Side}
use Rattle.line_rules.specs.declared.types.Side.TheVariants.{Front, Back as AtBack}
use Rattle.line_rules.specs.declared.types.Mode.{Mode}
use Rattle.line_rules.specs.declared.types.Mode.TheVariants.{Fore, Back, Both}
use Rattle.line_rules.specs.declared.types.Load.{Load}
use Rattle.cert_lines.specs.declared.draft.Draft.{Draft}
use Rattle.cert_lines.specs.declared.draft.DraftWhy.TheVariants as why
use Rattle.cert_lines.specs.declared.draft.FrameDraft.{FrameDraft}
use Rattle.cert_lines.specs.Words.{◌>>=◌, parts_at, number_in, number_first, set_in, mode_in, cites_in, is_none}

-- the number behind a word
unfoldable pub keyed_in : List ℕ → List ℕ → Option ℕ
keyed_in key line = do
  p ← parts_at 32 line
  cond (bytes_eq p.0 key) (number_in p.1) None

-- the side of a letter
abbrev pub side_of_letter : ℕ → Option Side
side_of_letter b = cond (nat_eq b 102) (Some Front) (cond (nat_eq b 98) (Some AtBack) None)

-- the side that a word is
abbrev pub side_in : List ℕ → Option Side
side_in [] = None
side_in (b ∷ []) = side_of_letter b
side_in (b ∷ c ∷ bytes) = None

-- the station and the side of a place
unfoldable pub seat_in : LineKind → List ℕ → Option (ℕ × Side)
seat_in Straight line = do
  s ← number_in line
  Some (s, Front)
seat_in U line = do
  s ← number_first line
  side ← side_in s.1
  Some (s.0, side)

-- the cycle that is given, or the one in front, and what stands behind it
unfoldable pub cycle_first : Option ℕ → List ℕ → Option (ℕ × List ℕ)
cycle_first (Some c) bytes = Some (c, bytes)
cycle_first None bytes = number_first bytes

-- what a line says behind its first word
unfoldable pub bound_in : ℕ → Option ℕ → List ℕ → Option Draft
bound_in n given bytes = do
  c ← cycle_first given bytes
  p ← parts_at 32 c.1
  s ← set_in n p.0
  m ← number_in p.1
  Some (record { cycle = c.0; set = s; most = m; why = why.Bound })

unfoldable pub branch_in : ℕ → Option ℕ → List ℕ → Option Draft
branch_in n given bytes = do
  l ← parts_at 32 bytes
  mode ← mode_in l.0
  c ← cycle_first given l.1
  p ← parts_at 32 c.1
  s ← set_in n p.0
  m ← number_first p.1
  cites ← cites_in m.1
  Some (record { cycle = c.0; set = s; most = m.0; why = why.Branch mode cites })

unfoldable pub swap_in : ℕ → Option ℕ → List ℕ → Option Draft
swap_in n given bytes = do
  c ← cycle_first given bytes
  p ← parts_at 32 c.1
  s ← set_in n p.0
  m ← number_first p.1
  cite ← number_first m.1
  out ← number_first cite.1
  into ← number_in out.1
  Some (record { cycle = c.0; set = s; most = m.0; why = why.Swap cite.0 out.0 into })

unfoldable pub pairs_in : ℕ → Option ℕ → List ℕ → Option Draft
pairs_in n given bytes = do
  c ← cycle_first given bytes
  p ← parts_at 32 c.1
  s ← set_in n p.0
  m ← number_first p.1
  two ← set_in n m.1
  Some (record { cycle = c.0; set = s; most = m.0; why = why.Pairs two })

-- the line of an entry over n tasks, whose cycle may be given, of a text with entries by pairs or without
unfoldable pub entry_in : ℕ → Option ℕ → Bool → List ℕ → Option Draft
entry_in n given pairs line = do
  k ← parts_at 32 line
  cond (bytes_eq k.0 (codes "bound")) (bound_in n given k.1)
      (cond (bytes_eq k.0 (codes "branch")) (branch_in n given k.1)
      (cond (bytes_eq k.0 (codes "swap")) (swap_in n given k.1)
      (cond (pairs && bytes_eq k.0 (codes "pairs")) (pairs_in n given k.1) None)))

-- the load of a mode that a word is
unfoldable pub load_in : ℕ → Mode → List ℕ → Option Load
load_in n Fore word = do
  s ← set_in n word
  Some (record { front = s; back = replicate 1024 false })
load_in n Back word = do
  s ← set_in n word
  Some (record { front = replicate 1024 false; back = s })
load_in n Both word = do
  p ← parts_at 47 word
  s ← set_in n p.0
  t ← set_in n p.1
  Some (record { front = s; back = t })

-- the last load that a word is, or the mark of none
unfoldable pub last_in : ℕ → Mode → List ℕ → Option (Option Load)
last_in n mode word = cond (is_none word) (Some None) (load_in n mode word >>= λ l. Some (Some l))

-- what a frame says behind its set
unfoldable pub frame_rest_in : ℕ → Mode → List Bool → List ℕ → Option FrameDraft
frame_rest_in n mode s bytes = do
  m ← number_first bytes
  w ← parts_at 32 m.1
  last ← last_in n mode w.0
  cites ← cites_in w.1
  Some (record { mode = mode; set = s; most = m.0; last = last; cites = cites })

-- the line of a frame over n tasks
unfoldable pub frame_in : ℕ → List ℕ → Option FrameDraft
frame_in n line = do
  k ← parts_at 32 line
  l ← cond (bytes_eq k.0 (codes "open")) (parts_at 32 k.1) None
  mode ← mode_in l.0
  p ← parts_at 32 l.1
  s ← set_in n p.0
  frame_rest_in n mode s p.1

-- the numbers of frames and the cycle of a trail
unfoldable pub trail_numbers : List ℕ → Option (Option (ℕ × ℕ))
trail_numbers bytes = do
  f ← number_first bytes
  a ← parts_at 32 f.1
  c ← cond (bytes_eq a.0 (codes "at")) (number_in a.1) None
  Some (Some (f.0, c))

-- the head of a trail: its number of frames and its cycle, where it has frames
unfoldable pub trail_in : List ℕ → Option (Option (ℕ × ℕ))
trail_in line = do
  k ← parts_at 32 line
  cond (bytes_eq k.0 (codes "trail")) (cond (bytes_eq k.1 (codes "0")) (Some None) (trail_numbers k.1)) None
