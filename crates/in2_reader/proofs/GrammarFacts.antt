-- Reading and the grammar.
use Rattle.std.proofs.Common.{◌≡◌, ℕ, zero, suc, ◌≤◌, Bool, true, false, cond, nat_eq, List, [], ◌∷◌, ◌++◌, length, map}
use Rattle.std.proofs.Common.{refl, sym, ◌∙◌, ap, arith, Ok, Err, Result, ◌⊎◌, inl, inr}
use Rattle.std.proofs.lemmas.Bool.{false≢true}
use Rattle.std.proofs.lemmas.Bool.Decides.{nat_tests}
use Rattle.line_io.specs.Lines.{number_in}
use Rattle.line_io.specs.declared.text.Num.{Num}
use Rattle.line_io.specs.declared.text.Num.TheVariants.{Value, NotANumber as NoNumber, Above}
use Rattle.line_instance.specs.declared.arcs.Prec.{Prec}
use Rattle.in2_reader.specs.Pairs.{pair_in, pair_for}
use Rattle.in2_reader.specs.declared.pair.Meaning.{Meaning}
use Rattle.in2_reader.specs.declared.pair.Meaning.TheVariants.{Before}
use Rattle.in2_reader.specs.declared.pair.Pair.{Pair}
use Rattle.in2_reader.specs.declared.pair.Pair.TheVariants.{Arc, BadArc as NoTasks, End, Other}
use Rattle.in2_reader.specs.declared.fault.In2Fault.{In2Fault}
use Rattle.in2_reader.specs.declared.fault.In2Kind.TheVariants.{Range, MissingEnd}
use Rattle.in2_reader.specs.Contents.{Lines}
use Rattle.in2_reader.specs.inner.Draft.{times_in, pairs_in, timed, paired, with_time, with_arc, with_times}
use Rattle.in2_reader.specs.inner.Draft.{then_pairs, counted, lines_said}
use Rattle.in2_reader.specs.Grammar.{In2, Spells}

-- what a line is where a time is wanted, and where a pair is
abbrev pub time_at : ℕ × List ℕ → Num
time_at l = number_in 200000000000000 l.1

abbrev pub pair_at : Meaning → ℕ → ℕ × List ℕ → Pair
pair_at meaning tasks l = pair_for meaning tasks l.1

pub times_read : (end : ℕ) (tl : Lines) (ts : List ℕ) (rest : Lines) → map time_at tl ≡ map Value ts
    → times_in end (length ts) (tl ++ rest) ≡ Ok (ts, rest)
times_read end [] [] rest e = refl
times_read end [] (t ∷ ts) rest e = (cc)
times_read end (l ∷ tl) [] rest e = (cc)
times_read end (l ∷ tl) (t ∷ ts) rest e =
    let head : time_at l ≡ Value t = cc in
    let tail : map time_at tl ≡ map Value ts = cc in
    ap (λ x. timed l.0 x (times_in end (length ts) (tl ++ rest))) head
    ∙ ap (with_time t) (times_read end tl ts rest tail)

pub pairs_read : (end : ℕ) (meaning : Meaning) (tasks room : ℕ) (pl : Lines) (ps : List Prec) (mark : ℕ × List ℕ)
    (rest : Lines) → map (λ l. pair_for meaning tasks l.1) pl ≡ map Arc ps → length ps ≤ room
    → pair_for meaning tasks mark.1 ≡ End → pairs_in end meaning tasks room (pl ++ mark ∷ rest) ≡ Ok (ps, mark.0)
pairs_read end meaning tasks zero [] [] mark rest e h m = ap
    (λ x. paired mark.0 true x (Err (record { line = end; kind = MissingEnd }))) m
pairs_read end meaning tasks (suc room) [] [] mark rest e h m =
    ap (λ x. paired mark.0 false x (pairs_in end meaning tasks room rest)) m
pairs_read end meaning tasks room [] (a ∷ ps) mark rest e h m = (cc)
pairs_read end meaning tasks room (l ∷ pl) [] mark rest e h m = (cc)
pairs_read end meaning tasks zero (l ∷ pl) (a ∷ ps) mark rest e h m = absurd (omega arith)
pairs_read end meaning tasks (suc room) (l ∷ pl) (a ∷ ps) mark rest e h m =
    let head : pair_for meaning tasks l.1 ≡ Arc a = cc in
    let tail : map (λ l. pair_for meaning tasks l.1) pl ≡ map Arc ps = cc in
    ap (λ x. paired l.0 false x (pairs_in end meaning tasks room (pl ++ mark ∷ rest))) head
    ∙ ap (with_arc a) (pairs_read end meaning tasks room pl ps mark rest tail (omega arith) m)

pub spelled_is_read : (end : ℕ) (lines : Lines) (x : In2) → Spells lines x → lines_said end lines ≡ Ok x
spelled_is_read end lines x s =
    let n : ℕ = length x.times in
    let some : nat_eq n 0 ≡ false = grind (arith, nat_tests, s.some) in
    ap (lines_said end) s.all
    ∙ ap (λ v. counted end s.head.0 v (s.timed ++ (s.paired ++ s.mark ∷ s.rest))) s.count
    ∙ ap (λ b. cond b (Err (record { line = s.head.0; kind = Range }))
    (then_pairs end n (times_in end n (s.timed ++ (s.paired ++ s.mark ∷ s.rest))))) some
    ∙ ap (then_pairs end n) (times_read end s.timed x.times (s.paired ++ s.mark ∷ s.rest) s.times)
    ∙ ap (with_times x.times) (pairs_read end Before n 524288 s.paired x.arcs s.mark s.rest s.arcs s.few s.ends)
    ∙ ap (λ k. Ok (record { times = x.times; arcs = x.arcs; last = k })) (sym s.last)

-- how one line came to be read
timed_ok : (k : ℕ) (v : Num) (r : Result (List ℕ × Lines) In2Fault) (x : List ℕ × Lines) → timed k v r ≡ Ok x
    → (t : ℕ) × (y : List ℕ × Lines) × (v ≡ Value t) × (r ≡ Ok y) × (x ≡ (t ∷ y.0, y.1))
timed_ok k NoNumber r x e = (cc)
timed_ok k Above r x e = (cc)
timed_ok k (Value t) (Err f) x e = (cc)
timed_ok k (Value t) (Ok y) x e = (t, y, refl, refl, (let i : x ≡ (t ∷ y.0, y.1) = cc in i))

paired_ok : (k : ℕ) (full : Bool) (p : Pair) (r : Result (List Prec × ℕ) In2Fault) (x : List Prec × ℕ)
    → paired k full p r ≡ Ok x → ((p ≡ End) × (x ≡ ([], k)))
    ⊎ ((a : Prec) × (y : List Prec × ℕ) × (p ≡ Arc a) × (full ≡ false) × (r ≡ Ok y) × (x ≡ (a ∷ y.0, y.1)))
paired_ok k full Other r x e = (cc)
paired_ok k full End r x e = inl (refl, (let i : x ≡ ([], k) = cc in i))
paired_ok k true NoTasks r x e = (cc)
paired_ok k false NoTasks r x e = (cc)
paired_ok k true (Arc a) r x e = (cc)
paired_ok k false (Arc a) (Err f) x e = (cc)
paired_ok k false (Arc a) (Ok y) x e = inr (a, y, refl, refl, refl, (let i : x ≡ (a ∷ y.0, y.1) = cc in i))

pub times_spelled : (end n : ℕ) (ls : Lines) (x : List ℕ × Lines) → times_in end n ls ≡ Ok x
    → (tl : Lines) × (ls ≡ tl ++ x.1) × (map time_at tl ≡ map Value x.0) × (length x.0 ≡ n)
times_spelled end zero ls x e =
    let i : x ≡ ([], ls) = cc in
    ([], ap (λ p. p.1) (sym i), ap (λ p. map Value p.0) (sym i), ap (λ p. length p.0) i)
times_spelled end (suc n) [] x e = (cc)
times_spelled end (suc n) (l ∷ ls) x e =
    let o = timed_ok l.0 (time_at l) (times_in end n ls) x e in
    let more = times_spelled end n ls o.1 o.3 in (
      l ∷ more.0,
      ap (λ t. l ∷ t) more.1 ∙ ap (λ p. l ∷ (more.0 ++ p.1)) (sym o.4),
      ap (λ v. v ∷ map time_at more.0) o.2 ∙ ap (λ t. Value o.0 ∷ t) more.2 ∙ ap (λ p. map Value p.0) (sym o.4),
      ap (λ p. length p.0) o.4 ∙ ap suc more.3,
    )

pub pairs_spelled : (end : ℕ) (meaning : Meaning) (tasks room : ℕ) (ls : Lines) (x : List Prec × ℕ)
    → pairs_in end meaning tasks room ls ≡ Ok x
    → (pl : Lines) × (mark : ℕ × List ℕ) × (rest : Lines) × (ls ≡ pl ++ mark ∷ rest)
    × (map (λ l. pair_for meaning tasks l.1) pl ≡ map Arc x.0) × (length x.0 ≤ room)
    × (pair_for meaning tasks mark.1 ≡ End) × (x.1 ≡ mark.0)
pairs_spelled end meaning tasks room [] x e = (cc)
pairs_spelled end meaning tasks zero (l ∷ ls) x e = elim (paired_ok l.0 true (pair_for meaning tasks l.1)
    (Err (record { line = end; kind = MissingEnd })) x e) [
      | inl o ↦ (
        [],
        l,
        ls,
        refl,
        ap (λ p. map Arc p.0) (sym o.1),
        omega (arith, ap (λ p. length p.0) o.1),
        o.0,
        ap (λ p. p.1) o.1,
      )
      | inr o ↦ absurd (false≢true (sym o.3))
    ]
pairs_spelled end meaning tasks (suc room) (l ∷ ls) x e = elim
    (paired_ok l.0 false (pair_for meaning tasks l.1) (pairs_in end meaning tasks room ls) x e) [
      | inl o ↦ (
        [],
        l,
        ls,
        refl,
        ap (λ p. map Arc p.0) (sym o.1),
        omega (arith, ap (λ p. length p.0) o.1),
        o.0,
        ap (λ p. p.1) o.1,
      )
      | inr o ↦ (let more = pairs_spelled end meaning tasks room ls o.1 o.4 in (
        l ∷ more.0,
        more.1,
        more.2,
        ap (λ t. l ∷ t) more.3,
        ap (λ v. v ∷ map (λ l. pair_for meaning tasks l.1) more.0) o.2 ∙ ap (λ t. Arc o.0 ∷ t) more.4
            ∙ ap (λ p. map Arc p.0) (sym o.5),
        omega (arith, ap (λ p. length p.0) o.5, more.5),
        more.6,
        ap (λ p. p.1) o.5 ∙ more.7,
      ))
    ]

both_ok : (end n : ℕ) (ls : Lines) (x : In2) → nat_eq n 0 ≡ false → then_pairs end n (times_in end n ls) ≡ Ok x
    → (m : ℕ) × (t : List ℕ × Lines) × (p : List Prec × ℕ) × (Value n ≡ Value m) × (nat_eq m 0 ≡ false)
    × (times_in end m ls ≡ Ok t) × (pairs_in end Before m 524288 t.1 ≡ Ok p)
    × (x ≡ record { times = t.0; arcs = p.0; last = p.1 })
both_ok end n ls x z h =
    let J : (p : Result (List Prec × ℕ) In2Fault) (t : List ℕ × Lines) → times_in end n ls ≡ Ok t
    → pairs_in end Before n 524288 t.1 ≡ p → with_times t.0 p ≡ Ok x
    → (m : ℕ) × (t : List ℕ × Lines) × (p : List Prec × ℕ) × (Value n ≡ Value m) × (nat_eq m 0 ≡ false)
    × (times_in end m ls ≡ Ok t) × (pairs_in end Before m 524288 t.1 ≡ Ok p)
    × (x ≡ record { times = t.0; arcs = p.0; last = p.1 }) =
    elim [
      | Err f ↦ (λ t a b g. absurd (let w : Err f ≡ Ok x = g in (cc)))
      | Ok q ↦
          (λ t a b g. (
            n,
            t,
            q,
            refl,
            z,
            a,
            b,
            (let i : x ≡ record { times = t.0; arcs = q.0; last = q.1 } = cc in
                i),
          ))
    ] in
    let K : (r : Result (List ℕ × Lines) In2Fault) → times_in end n ls ≡ r → then_pairs end n r ≡ Ok x
    → (m : ℕ) × (t : List ℕ × Lines) × (p : List Prec × ℕ) × (Value n ≡ Value m) × (nat_eq m 0 ≡ false)
    × (times_in end m ls ≡ Ok t) × (pairs_in end Before m 524288 t.1 ≡ Ok p)
    × (x ≡ record { times = t.0; arcs = p.0; last = p.1 }) =
    elim [
      | Err f ↦ (λ a g. absurd (let w : Err f ≡ Ok x = g in (cc)))
      | Ok t ↦
          (λ a g. J (pairs_in end Before n 524288 t.1) t a refl g)
    ] in
    K (times_in end n ls) refl h

-- what the head line and the parts behind it came from
counted_ok : (end k : ℕ) (v : Num) (ls : Lines) (x : In2) → counted end k v ls ≡ Ok x
    → (n : ℕ) × (t : List ℕ × Lines) × (p : List Prec × ℕ) × (v ≡ Value n) × (nat_eq n 0 ≡ false)
    × (times_in end n ls ≡ Ok t) × (pairs_in end Before n 524288 t.1 ≡ Ok p)
    × (x ≡ record { times = t.0; arcs = p.0; last = p.1 })
counted_ok end k NoNumber ls x e = (cc)
counted_ok end k Above ls x e = (cc)
counted_ok end k (Value n) ls x e =
    let I : (b : Bool) → nat_eq n 0 ≡ b → cond b (Err (record { line = k; kind = Range }))
    (then_pairs end n (times_in end n ls)) ≡ Ok x
    → (m : ℕ) × (t : List ℕ × Lines) × (p : List Prec × ℕ) × (Value n ≡ Value m) × (nat_eq m 0 ≡ false)
    × (times_in end m ls ≡ Ok t) × (pairs_in end Before m 524288 t.1 ≡ Ok p)
    × (x ≡ record { times = t.0; arcs = p.0; last = p.1 }) =
    elim [
      | true ↦ (λ z h. absurd (let w : Err (record { line = k; kind = Range }) ≡ Ok x = h in (cc)))
      | false ↦
          (λ z h. both_ok end n ls x z h)
    ] in
    I (nat_eq n 0) refl e

pub read_is_spelled : (end : ℕ) (lines : Lines) (x : In2) → lines_said end lines ≡ Ok x → Spells lines x
read_is_spelled end [] x e = (cc)
read_is_spelled end (l ∷ ls) x e =
    let o = counted_ok end l.0 (number_in 1024 l.1) ls x e in
    let t = times_spelled end o.0 ls o.1 o.5 in
    let p = pairs_spelled end Before o.0 524288 o.1.1 o.2 o.6 in
    let n : length x.times ≡ o.0 = ap (λ y. length y.times) o.7 ∙ t.3 in
    record {
      head = l;
      timed = t.0;
      paired = p.0;
      mark = p.1;
      rest = p.2;
      all = ap (λ r. l ∷ r) (t.1 ∙ ap (λ r. t.0 ++ r) p.3);
      count = o.3 ∙ ap Value (sym n);
      some = grind (arith, nat_tests, o.4, n);
      times = t.2 ∙ ap (λ y. map Value y.times) (sym o.7);
      arcs = ap (λ k. map (λ l. pair_in k l.1) p.0) n ∙ p.4 ∙ ap (λ y. map Arc y.arcs) (sym o.7);
      few = omega (arith, ap (λ y. length y.arcs) o.7, p.5);
      ends = ap (λ k. pair_in k p.1.1) n ∙ p.6;
      last = ap (λ y. y.last) o.7 ∙ p.7;
    }
