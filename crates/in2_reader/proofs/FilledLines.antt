-- Lines that begin a text are filled up to contents that are read.
use Rattle.std.proofs.Common.{◌≡◌, ℕ, zero, suc, ◌≤◌, ◌-◌, List, [], ◌∷◌, ◌++◌, length, map, refl, sym, ◌∙◌, ap, subst}
use Rattle.std.proofs.Common.{arith, append_assoc, length-append}
use Rattle.std.proofs.lemmas.List.{map-append, append-nil}
use Rattle.line_io.specs.declared.text.Num.TheVariants.{Value}
use Rattle.line_instance.specs.declared.arcs.Prec.{Prec}
use Rattle.in2_reader.specs.Contents.{Lines}
use Rattle.in2_reader.specs.declared.pair.Meaning.TheVariants.{Before}
use Rattle.in2_reader.specs.declared.pair.Pair.TheVariants.{Arc}
use Rattle.in2_reader.specs.Grammar.{In2, Spells}
use Rattle.in2_reader.specs.Faults.{IsBeginning, IsRead, Begins}
use Rattle.in2_reader.proofs.GrammarFacts.{time_at, pair_at}

-- so many lines with the time 0, and so many times 0
zero_lines : ℕ → Lines
zero_lines zero = []
zero_lines (suc k) = (0, 48 ∷ []) ∷ zero_lines k

zeros : ℕ → List ℕ
zeros zero = []
zeros (suc k) = 0 ∷ zeros k

zeros_read : (k : ℕ) → map time_at (zero_lines k) ≡ map Value (zeros k)
unfolding zero_lines zeros
zeros_read zero = refl
zeros_read (suc k) = ap (λ r. Value 0 ∷ r) (zeros_read k)

length-zeros : (k : ℕ) → length (zeros k) ≡ k
unfolding zeros
length-zeros zero = refl
length-zeros (suc k) = ap suc (length-zeros k)

-- a line with the end mark
abbrev pub end_line : ℕ × List ℕ
end_line = (0, 45 ∷ 49 ∷ 44 ∷ 45 ∷ 49 ∷ [])

no_pairs : (n : ℕ) (pl : Lines) → map (pair_at Before n) pl ≡ map Arc [] → pl ≡ []
no_pairs n [] e = refl
no_pairs n (l ∷ pl) e = (cc)

pub pairs_begin : (lines : Lines) (n : ℕ) (ts : List ℕ) (ps : List Prec) → Begins lines n ts ps → length ts ≡ n
    → IsBeginning IsRead lines
pairs_begin lines n ts ps b e =
    let x : In2 = record { times = ts; arcs = ps; last = 0 } in (
      end_line ∷ [],
      (
        x,
        record {
          head = b.head;
          timed = b.timed;
          paired = b.paired;
          mark = end_line;
          rest = [];
          all = ap (λ r. r ++ end_line ∷ []) b.all ∙ ap (λ r. b.head ∷ r)
              (append_assoc b.timed b.paired (end_line ∷ []));
          count = b.count ∙ ap Value (sym e);
          some = omega (arith, b.some);
          times = b.times;
          arcs = ap (λ k. map (pair_at Before k) b.paired) e ∙ b.arcs;
          few = b.few;
          ends = refl;
          last = refl;
        },
      ),
    )

-- one more time 0 for each that is wanted
filled : (lines : Lines) (n : ℕ) (ts : List ℕ) → Begins lines n ts []
    → Begins (lines ++ zero_lines (n - length ts)) n (ts ++ zeros (n - length ts)) []
filled lines n ts b =
    let none : b.paired ≡ [] = no_pairs n b.paired b.arcs in
    let front : lines ≡ b.head ∷ b.timed = b.all ∙ ap (λ r. b.head ∷ (b.timed ++ r)) none
    ∙ ap (λ r. b.head ∷ r) (append-nil b.timed) in
    record {
      head = b.head;
      timed = b.timed ++ zero_lines (n - length ts);
      paired = [];
      all = ap (λ r. r ++ zero_lines (n - length ts)) front
          ∙ ap (λ r. b.head ∷ r) (sym (append-nil (b.timed ++ zero_lines (n - length ts))));
      count = b.count;
      some = b.some;
      times = map-append time_at b.timed (zero_lines (n - length ts))
          ∙ ap (λ r. r ++ map time_at (zero_lines (n - length ts))) b.times
          ∙ ap (λ r. map Value ts ++ r) (zeros_read (n - length ts))
          ∙ sym (map-append Value ts (zeros (n - length ts)));
      arcs = refl;
      few = omega arith;
    }

pub times_begin : (lines : Lines) (n : ℕ) (ts : List ℕ) → Begins lines n ts [] → length ts ≤ n
    → IsBeginning IsRead lines
times_begin lines n ts b h =
    let more : Lines = zero_lines (n - length ts) in
    let many : length (ts ++ zeros (n - length ts)) ≡ n = omega
    (arith, length-append ts (zeros (n - length ts)), length-zeros (n - length ts)) in
    let p : IsBeginning IsRead (lines ++ more) = pairs_begin (lines ++ more) n (ts ++ zeros (n - length ts)) []
    (filled lines n ts b) many in
    let P : Lines → Type 0 = λ r. Spells r p.1.0 in
    (more ++ p.0, (p.1.0, subst P (append_assoc lines more p.0) p.1.1))

-- no line yet: a text of one task begins so
pub nothing_begins : IsBeginning IsRead []
nothing_begins =
    let x : In2 = record { times = 0 ∷ []; arcs = []; last = 0 } in (
      (0, 49 ∷ []) ∷ (0, 48 ∷ []) ∷ end_line ∷ [],
      (
        x,
        record {
          head = (0, 49 ∷ []);
          timed = (0, 48 ∷ []) ∷ [];
          paired = [];
          mark = end_line;
          rest = [];
          all = refl;
          count = refl;
          some = omega arith;
          times = refl;
          arcs = refl;
          few = omega arith;
          ends = refl;
          last = refl;
        },
      ),
    )
