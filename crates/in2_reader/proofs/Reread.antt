-- The canonical text of a line is read as that line.
use Rattle.std.proofs.Common.{◌≡◌, ℕ, suc, ◌+◌, ◌<◌, ◌≤◌, ◌^◌, List, [], ◌∷◌, ◌++◌, length, map, get_or, refl, sym, ◌∙◌}
use Rattle.std.proofs.Common.{ap, subst, arith, append_assoc, inl, inr, length-append}
use Rattle.std.specs.Prelude.{decimal, codes, ◌↔◌}
use Rattle.std.specs.List.{flat_map}
use Rattle.line_io.specs.declared.text.Num.TheVariants.{Value}
use Rattle.line_instance.specs.declared.arcs.Prec.{Prec}
use Rattle.line_instance.specs.Line.{Line, IsLine, IsRanked, tasks, Before}
use Rattle.line_instance.specs.Walks.{Walk, AreArcs, Names, arc_at}
use Rattle.in2_reader.specs.Contents.{Lines, contents_from}
use Rattle.in2_reader.specs.Grammar.{In2}
use Rattle.in2_reader.specs.Instance.{IsIn2Read}
use Rattle.in2_reader.specs.Written.{number_line, pair_line, in2_text, IsIn2Text, IsReread, IsReadBack}
use Rattle.in2_reader.specs.declared.pair.Meaning.TheVariants.{Before as Ordered}
use Rattle.in2_reader.specs.declared.pair.Pair.TheVariants.{Arc}
use Rattle.in2_reader.specs.declared.instance.In2Read.{In2Read}
use Rattle.in2_reader.specs.declared.instance.In2Read.TheVariants.{Good, Fault, NoMemory}
use Rattle.in2_reader.proofs.Lines.{pair_parts}
use Rattle.in2_reader.proofs.GrammarFacts.{time_at, pair_at}
use Rattle.in2_reader.proofs.Digits.{decimal_spells, digits_solid, solid_append, content_read, number_read, pair_read}
use Rattle.in2_reader.proofs.CollectedPairs.{first_task, last_task}
use Rattle.in2_reader.proofs.PairCounts.{few_covers}
use Rattle.in2_reader.proofs.CoverWalks.{walk_of, before_of}
use Rattle.in2_reader.proofs.Acyclic.{one_reading, round, form_fault_has_none}

-- the contents of the lines of numbers, and of pairs, from a line number on
number_lines : ℕ → List ℕ → Lines
number_lines k [] = []
number_lines k (t ∷ ts) = (k, decimal t) ∷ number_lines (suc k) ts

unfoldable pub pair_lines : ℕ → List Prec → Lines
pair_lines k [] = []
pair_lines k (a ∷ ps) = (k, decimal (a.first + 1) ++ 44 ∷ decimal (a.«then» + 1)) ∷ pair_lines (suc k) ps

-- the number of the line behind these
unfoldable pub after : {X : Type 0} → ℕ → List X → ℕ
after k [] = k
after k (x ∷ xs) = after (suc k) xs

one_number : (k n : ℕ) (rest : List ℕ) → n < 2 ^ 64 → contents_from k (number_line n ++ rest)
    ≡ (k, decimal n) ∷ contents_from (suc k) rest
one_number k n rest h =
    let s = decimal_spells n h in
    ap (contents_from k) (append_assoc (decimal n) (codes "\n") rest)
    ∙ content_read k (decimal n) rest (digits_solid (decimal n) s.digits) s.some

numbers_text : (k : ℕ) (ts rest : List ℕ) → ((i : ℕ) → get_or ts i 0 ≤ 200000000000000)
    → contents_from k (flat_map number_line ts ++ rest) ≡ number_lines k ts ++ contents_from (after k ts) rest
unfolding number_lines after
numbers_text k [] rest h = refl
numbers_text k (t ∷ ts) rest h =
    ap (contents_from k) (append_assoc (number_line t) (flat_map number_line ts) rest)
    ∙ one_number k t (flat_map number_line ts ++ rest) (let small = h 0 in omega arith)
    ∙ ap (λ r. (k, decimal t) ∷ r) (numbers_text (suc k) ts rest (λ i. h (suc i)))

numbers_are : (k : ℕ) (ts : List ℕ) → ((i : ℕ) → get_or ts i 0 ≤ 200000000000000)
    → map time_at (number_lines k ts) ≡ map Value ts
unfolding number_lines
numbers_are k [] h = refl
numbers_are k (t ∷ ts) h =
    let small = h 0 in
    ap (λ v. v ∷ map time_at (number_lines (suc k) ts)) (number_read 200000000000000 t (decimal t)
    (decimal_spells t (omega arith)) small) ∙ ap (λ r. Value t ∷ r) (numbers_are (suc k) ts (λ i. h (suc i)))

one_pair : (k : ℕ) (a : Prec) (rest : List ℕ) → a.first < 1024 → a.«then» < 1024
    → contents_from k (pair_line a ++ rest) ≡ (k, decimal (a.first + 1) ++ 44 ∷ decimal (a.«then» + 1)) ∷ contents_from
    (suc k) rest
one_pair k a rest h l =
    let s = decimal_spells (a.first + 1) (omega arith) in
    let t = decimal_spells (a.«then» + 1) (omega arith) in
    let i : List ℕ = decimal (a.first + 1) in
    let j : List ℕ = decimal (a.«then» + 1) in
    let solid = solid_append i (44 ∷ j) (digits_solid i s.digits) (digits_solid j t.digits) in
    let text : pair_line a ++ rest ≡ (i ++ 44 ∷ j) ++ 10 ∷ rest =
    ap (λ r. r ++ rest) (pair_parts (a.first + 1) (a.«then» + 1) ∙ sym (append_assoc i (44 ∷ j) (10 ∷ [])))
    ∙ append_assoc (i ++ 44 ∷ j) (10 ∷ []) rest in
    ap (contents_from k) text ∙ content_read k (i ++ 44 ∷ j) rest solid (omega (arith, length-append i (44 ∷ j)))

pub pairs_text : (k n : ℕ) (ps : List Prec) (rest : List ℕ) → n ≤ 1024 → AreArcs n ps
    → contents_from k (flat_map pair_line ps ++ rest) ≡ pair_lines k ps ++ contents_from (after k ps) rest
unfolding pair_lines after
pairs_text k n [] rest m h = refl
pairs_text k n (a ∷ ps) rest m h =
    let two : Names n a = h 0 (omega arith) in
    ap (contents_from k) (append_assoc (pair_line a) (flat_map pair_line ps) rest)
    ∙ one_pair k a (flat_map pair_line ps ++ rest) (omega (arith, two.0)) (omega (arith, two.1))
    ∙ ap (λ r. (k, decimal (a.first + 1) ++ 44 ∷ decimal (a.«then» + 1)) ∷ r)
    (pairs_text (suc k) n ps rest m (λ i l. h (suc i) (omega arith)))

pub pairs_are : (k n : ℕ) (ps : List Prec) → n ≤ 1024 → AreArcs n ps
    → map (pair_at Ordered n) (pair_lines k ps) ≡ map Arc ps
unfolding pair_lines
pairs_are k n [] m h = refl
pairs_are k n (a ∷ ps) m h =
    let two : Names n a = h 0 (omega arith) in
    let first : a.first < n = two.0 in
    let last : a.«then» < n = two.1 in
    let s = decimal_spells (a.first + 1) (omega arith) in
    let t = decimal_spells (a.«then» + 1) (omega arith) in
    ap (λ v. v ∷ map (pair_at Ordered n) (pair_lines (suc k) ps))
    (pair_read n a.first a.«then» (decimal (a.first + 1)) (decimal (a.«then» + 1)) s t first last)
    ∙ ap (λ r. Arc a ∷ r) (pairs_are (suc k) n ps m (λ i l. h (suc i) (omega arith)))

-- the text, its parts joined from the last one on
joined : (times : List ℕ) (ps : List Prec) → in2_text times ps ≡ number_line (length times)
    ++ (flat_map number_line times ++ (flat_map pair_line ps ++ codes "-1,-1\n"))
joined times ps =
    append_assoc (number_line (length times) ++ flat_map number_line times) (flat_map pair_line ps) (codes "-1,-1\n")
    ∙ append_assoc (number_line (length times)) (flat_map number_line times) (flat_map pair_line ps ++ codes "-1,-1\n")

abbrev mark : List ℕ
mark = 45 ∷ 49 ∷ 44 ∷ 45 ∷ 49 ∷ []

text_contents : (times : List ℕ) (ps : List Prec) → length times ≤ 1024 → ((i : ℕ) → get_or times i 0 ≤ 200000000000000)
    → AreArcs (length times) ps
    → contents_from 1 (in2_text times ps) ≡ (1, decimal (length times)) ∷ (number_lines 2 times
    ++ (pair_lines (after 2 times) ps ++ (after (after 2 times) ps, mark) ∷ []))
text_contents times ps few limit named =
    ap (contents_from 1) (joined times ps)
    ∙ one_number 1 (length times) (flat_map number_line times ++ (flat_map pair_line ps ++ codes "-1,-1\n"))
    (omega arith)
    ∙ ap (λ r. (1, decimal (length times)) ∷ r)
    (numbers_text 2 times (flat_map pair_line ps ++ codes "-1,-1\n") limit
    ∙ ap (λ r. number_lines 2 times ++ r) (pairs_text (after 2 times) (length times) ps (codes "-1,-1\n") few named
    ∙ ap (λ r. pair_lines (after 2 times) ps ++ r) (content_read (after (after 2 times) ps) mark [] refl
    (omega arith))))

pub written_says : (line : Line) (bytes : List ℕ) → IsLine line → IsRanked line → IsIn2Text line bytes
    → IsReread line bytes
written_says line bytes s r t =
    let ps : List Prec = t.ps in
    let n : ℕ = tasks line in
    let small : length line.times ≤ 1024 = s.small in
    let named : AreArcs n ps = λ k l. (
      first_task line (arc_at ps k).first (arc_at ps k).«then» s
          (t.covers.right k l).before,
      last_task line (arc_at ps k).first (arc_at ps k).«then» s
          (t.covers.right k l).before,
    ) in
    record {
      x = record { times = line.times; arcs = ps; last = after (after 2 line.times) ps };
      reads = record {
        head = (1, decimal n);
        timed = number_lines 2 line.times;
        paired = pair_lines (after 2 line.times) ps;
        mark = (after (after 2 line.times) ps, mark);
        rest = [];
        all = ap (contents_from 1) t.text ∙ text_contents line.times ps s.small s.times named;
        count = number_read 1024 n (decimal n) (decimal_spells n (omega arith)) s.small;
        some = s.some;
        times = numbers_are 2 line.times s.times;
        arcs = pairs_are (after 2 line.times) n ps s.small named;
        few = few_covers line ps s t.covers;
        ends = refl;
        last = refl;
      };
      times = refl;
      walks = λ i j. (walk_of line ps s r t.covers i j, λ w. before_of line ps s r t.covers w);
    }

pub read_back : (line : Line) (bytes : List ℕ) (answer : In2Read) → IsLine line → IsRanked line → IsIn2Text line bytes
    → IsIn2Read bytes answer → IsReadBack line answer
read_back line bytes NoMemory s r t a = tt
read_back line bytes (Fault f) s r t a =
    let w : IsReread line bytes = written_says line bytes s r t in
    elim a [
      | inl o ↦ form_fault_has_none bytes f w.x o w.reads
      | inr o ↦ (let same : o.x ≡ w.x = one_reading (contents_from 1 bytes) o.x w.x o.reads w.reads in
          let P : In2 → Type 0 = λ x. Walk x.arcs (get_or o.ring 0 0) (get_or o.ring 0 0) in
          s.not_itself (get_or o.ring 0 0) ((w.walks (get_or o.ring 0 0) (get_or o.ring 0 0)).1
          (subst P same (round o.x.arcs o.ring o.is_ring))))
    ]
read_back line bytes (Good l) s r t a =
    let w : IsReread line bytes = written_says line bytes s r t in
    let same : a.x ≡ w.x = one_reading (contents_from 1 bytes) a.x w.x a.reads w.reads in
    let times : l.times ≡ line.times = a.is.times ∙ ap (λ x. x.times) same ∙ w.times in
    let P : In2 → Type 0 = λ x. (i j : ℕ) → Walk x.arcs i j ↔ Before line i j in
    let walks : (i j : ℕ) → Walk a.x.arcs i j ↔ Before line i j =
    subst P (sym same) (λ i j. ((w.walks i j).1, (w.walks i j).0)) in (
      times,
      λ i j h. (
          let row = a.is.before j (omega (arith, ap length times)) in
          (λ b. (walks i j).0 (row.walks i b), λ b. row.all i ((walks i j).1 b))),
    )
