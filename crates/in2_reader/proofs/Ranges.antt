-- What a text says is in range.
use Rattle.std.proofs.Common.{◌≡◌, ℕ, zero, suc, ◌<◌, ◌≤◌, ◌-◌, ◌||◌, ◌&&◌, Bool, true, false, cond, nat_eq, nat_le}
use Rattle.std.proofs.Common.{List, [], ◌∷◌, length, map, get_or, refl, ap, arith, Option, Some, None}
use Rattle.std.proofs.lemmas.Bool.Decides.{nat_tests}
use Rattle.line_io.specs.Lines.{number_in, is_number, value_of}
use Rattle.line_io.specs.declared.text.Num.{Num}
use Rattle.line_io.specs.declared.text.Num.TheVariants.{Value, NotANumber as NoNumber, Above}
use Rattle.line_instance.specs.declared.arcs.Prec.{Prec}
use Rattle.line_instance.specs.Walks.{AreArcs, Names}
use Rattle.line_instance.specs.Made.{AreTimes}
use Rattle.in2_reader.specs.Contents.{Lines}
use Rattle.in2_reader.specs.Pairs.{pair_in, parts_in, comma_split, arc_in, is_minus_one, without_gaps_front}
use Rattle.in2_reader.specs.Pairs.{without_gaps_back}
use Rattle.in2_reader.specs.declared.pair.Meaning.TheVariants.{Before}
use Rattle.in2_reader.specs.declared.pair.Pair.TheVariants.{Arc, BadArc, End}
use Rattle.in2_reader.specs.Grammar.{In2, Spells}
use Rattle.in2_reader.proofs.GrammarFacts.{time_at, pair_at}

at_most : (number : Bool) (v most w : ℕ) → cond number (cond (nat_le v most) (Value v) Above) NoNumber ≡ Value w
    → w ≤ most
at_most false v most w e = (cc)
at_most true v most w e =
    let I : (b : Bool) → nat_le v most ≡ b → cond b (Value v) Above ≡ Value w → w ≤ most =
    elim [
      | true ↦ (λ z h. let same : Value v ≡ Value w = h in let i : v ≡ w = cc in
          let l : v ≤ most = grind (arith, nat_tests) in omega arith)
      | false ↦
          (λ z h. absurd (let same : Above ≡ Value w = h in (cc)))
    ] in
    I (nat_le v most) refl e

pub number_most : (most : ℕ) (bytes : List ℕ) (v : ℕ) → number_in most bytes ≡ Value v → v ≤ most
number_most most bytes v e = at_most (is_number bytes) (value_of bytes) most v e

named : (tasks : ℕ) (x y : Num) (a : Prec) → ((v : ℕ) → x ≡ Value v → v ≤ tasks) → ((v : ℕ) → y ≡ Value v → v ≤ tasks)
    → arc_in x y ≡ Arc a → Names tasks a
named tasks NoNumber y a h k e = (cc)
named tasks Above NoNumber a h k e = (cc)
named tasks Above Above a h k e = (cc)
named tasks Above (Value j) a h k e = (cc)
named tasks (Value i) NoNumber a h k e = (cc)
named tasks (Value i) Above a h k e = (cc)
named tasks (Value i) (Value j) a h k e =
    let I : (b : Bool) → (nat_eq i 0 || nat_eq j 0) ≡ b → cond b BadArc (Arc (record { first = i - 1; «then» = j - 1 }))
    ≡ Arc a → Names tasks a =
    elim [
      | true ↦ (λ z g. absurd (let same : BadArc ≡ Arc a = g in (cc)))
      | false ↦ (λ z g. let same : Arc (record { first = i - 1; «then» = j - 1 }) ≡ Arc a = g in
          let is : record { first = i - 1; «then» = j - 1 } ≡ a = cc in
          let first : i - 1 ≡ a.first = ap (λ p. p.first) is in
          let last : j - 1 ≡ a.«then» = ap (λ p. p.«then») is in
          let low : 0 < i = grind (arith, nat_tests, z) in
          let high : 0 < j = grind (arith, nat_tests, z) in
          (omega (arith, h i refl), omega (arith, k j refl)))
    ] in
    I (nat_eq i 0 || nat_eq j 0) refl e

parts_named : (tasks : ℕ) (o : Option (List ℕ × List ℕ)) (a : Prec) → parts_in tasks o ≡ Arc a → Names tasks a
parts_named tasks None a e = (cc)
parts_named tasks (Some p) a e =
    let front : List ℕ = without_gaps_back p.0 in
    let back : List ℕ = without_gaps_front p.1 in
    let I : (b : Bool) → cond b End (arc_in (number_in tasks front) (number_in tasks back)) ≡ Arc a → Names tasks a =
    elim [
      | true ↦ (λ g. absurd (let same : End ≡ Arc a = g in (cc)))
      | false ↦ (λ g. named tasks (number_in tasks front) (number_in tasks back) a (number_most tasks front)
          (number_most tasks back) g)
    ] in
    I (is_minus_one front && is_minus_one back) e

pub pair_named : (tasks : ℕ) (content : List ℕ) (a : Prec) → pair_in tasks content ≡ Arc a → Names tasks a
pair_named tasks content a e = parts_named tasks (comma_split content) a e

times_below : (tl : Lines) (ts : List ℕ) → map time_at tl ≡ map Value ts → (i : ℕ) → get_or ts i 0 ≤ 200000000000000
times_below [] [] e i = omega arith
times_below [] (t ∷ ts) e i = (cc)
times_below (l ∷ tl) [] e i = (cc)
times_below (l ∷ tl) (t ∷ ts) e zero = let head : time_at l ≡ Value t = cc in number_most 200000000000000 l.1 t head
times_below (l ∷ tl) (t ∷ ts) e (suc i) = let tail : map time_at tl ≡ map Value ts = cc in times_below tl ts tail i

arcs_named : (n : ℕ) (pl : Lines) (ps : List Prec) → map (pair_at Before n) pl ≡ map Arc ps → AreArcs n ps
arcs_named n [] [] e k h = absurd (omega arith)
arcs_named n [] (p ∷ ps) e k h = (cc)
arcs_named n (l ∷ pl) [] e k h = (cc)
arcs_named n (l ∷ pl) (p ∷ ps) e zero h = let head : pair_at Before n l ≡ Arc p = cc in pair_named n l.1 p head
arcs_named n (l ∷ pl) (p ∷ ps) e (suc k) h = let tail : map (pair_at Before n) pl ≡ map Arc ps = cc in
    arcs_named n pl ps tail k (omega arith)

pub times_in_range : (lines : Lines) (x : In2) → Spells lines x → AreTimes x.times
times_in_range lines x s = record {
  some = s.some;
  few = number_most 1024 s.head.1 (length x.times) s.count;
  limit = times_below s.timed x.times s.times;
}

pub arcs_in_range : (lines : Lines) (x : In2) → Spells lines x → AreArcs (length x.times) x.arcs
arcs_in_range lines x s = arcs_named (length x.times) s.paired x.arcs s.arcs
