-- Lines of tasks of which no one is before or apart from another.
use Rattle.std.proofs.Common.{◌≡◌, ℕ, zero, suc, ◌<◌, ◌≤◌, List, [], ◌∷◌, length, map, refl, sym, ap, ◌∙◌, arith}
use Rattle.std.specs.Prelude.{slice_index_or}
use Rattle.std.proofs.lemmas.Bool.{false≢true}
use Rattle.std.proofs.lemmas.List.FromFn.{get_or-range_with_len, length-range_with_len}
use Rattle.line_instance.specs.Truths.{In, full_to}
use Rattle.line_instance.proofs.Members.{In-full_to_below}
use Rattle.line_instance.proofs.Fills.{length-full_to}
use Rattle.line_instance.specs.Line.{IsLine, IsRanked, at_rank}
use Rattle.worked_lines.specs.Rows.{free}

pub no_member : (i : ℕ) → In (full_to 0) i → ⊥
no_member i m = omega (arith, In-full_to_below 0 i m)

-- no task is before another, and none is apart from another
pub no_row : (ts : List ℕ) (j i : ℕ) → In (slice_index_or (map (λ t. full_to 0) ts) j []) i → ⊥
no_row [] j i m = absurd (false≢true m)
no_row (t ∷ ts) zero i m = no_member i m
no_row (t ∷ ts) (suc j) i m = no_row ts j i m

row_truths : (ts : List ℕ) (j : ℕ) → j < length ts → length (slice_index_or (map (λ t. full_to 0) ts) j []) ≡ 1024
row_truths [] j l = absurd (omega arith)
row_truths (t ∷ ts) zero l = length-full_to 0
row_truths (t ∷ ts) (suc j) l = row_truths ts j (omega arith)

rows_many : (ts : List ℕ) → length (map (λ t. full_to 0) ts) ≡ length ts
rows_many [] = refl
rows_many (t ∷ ts) = ap suc (rows_many ts)

abbrev pub AreShort : List ℕ → Type 0
AreShort [] = Unit {0}
AreShort (t ∷ ts) = (t ≤ 200000000000000) × AreShort ts

short_at : (ts : List ℕ) → AreShort ts → (i : ℕ) → slice_index_or ts i 0 ≤ 200000000000000
short_at [] s i = omega arith
short_at (t ∷ ts) s zero = s.0
short_at (t ∷ ts) s (suc i) = short_at ts s.1 i

same_rank : (ts : List ℕ) (k : ℕ) → k < length ts → at_rank (free ts) k ≡ k
same_rank ts k l = omega (arith, get_or-range_with_len 0 (length ts) k 0 l)

pub free_line : (ts : List ℕ) → 0 < length ts → length ts ≤ 1024 → AreShort ts → IsLine (free ts)
free_line ts some small short = record {
  some = some;
  small = small;
  times = short_at ts short;
  before_rows = rows_many ts;
  before = λ j l. record { truths = row_truths ts j l; tasks = λ i m. absurd (no_row ts j i m) };
  leads_on = λ i j k m n. absurd (no_row ts j i m);
  not_itself = λ i m. no_row ts i i m;
  apart_rows = rows_many ts;
  apart = λ j l. record { truths = row_truths ts j l; tasks = λ i m. absurd (no_row ts j i m) };
  both_ways = λ i j m. absurd (no_row ts j i m);
  of_two = λ i m. no_row ts i i m;
}

pub free_ranked : (ts : List ℕ) → IsRanked (free ts)
free_ranked ts = record {
  many = length-range_with_len 0 (length ts);
  task = λ k l. omega (arith, same_rank ts k l, l);
  rank = λ i l. (i, l, same_rank ts i l);
  once = λ k m l h e. sym (same_rank ts k l) ∙ (e ∙ same_rank ts m h);
  rises = λ k m l h b. absurd (no_row ts (at_rank (free ts) m) (at_rank (free ts) k) b);
}
