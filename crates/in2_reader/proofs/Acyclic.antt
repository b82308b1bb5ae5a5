-- A text with a fault has no instance.
use Rattle.std.proofs.Common.{◌≡◌, ℕ, zero, suc, ◌+◌, ◌-◌, ◌<◌, ◌||◌, Bool, true, false, List, [], ◌∷◌, length, get_or}
use Rattle.std.proofs.Common.{refl, sym, ◌∙◌, ap, subst, arith, inl, inr, append_assoc, Ok}
use Rattle.std.proofs.lemmas.Map.Steps.{length-le_from_distinct_below}
use Rattle.std.proofs.lemmas.Map.Made.{IsDistinct-from_AllPairs}
use Rattle.std.proofs.lemmas.Bool.Decides.{Decides-eqb, nat_tests}
use Rattle.std.proofs.lemmas.List.{get_or_read, get_or_default}
use Rattle.std.proofs.Math.Dec.{eqb}
use Rattle.std.specs.List.{IsDistinct, list_any, AllPairs}
use Rattle.line_instance.specs.declared.arcs.Prec.{Prec}
use Rattle.line_instance.specs.Line.{Line, tasks, at_rank, Before}
use Rattle.line_instance.specs.Ranks.{AreRanks, IsPlaced}
use Rattle.line_instance.specs.Walks.{Leads, Walk, arc, on, AreArcs, arc_at, IsRing, at}
use Rattle.line_instance.specs.Made.{IsInstanceOf}
use Rattle.in2_reader.specs.Contents.{Lines, contents_from, lines_in}
use Rattle.in2_reader.specs.Grammar.{In2, Spells, IsIn2}
use Rattle.in2_reader.specs.Faults.{IsFormFault, IsIn2Fault}
use Rattle.in2_reader.specs.Instance.{IsReading, IsIn2Read}
use Rattle.in2_reader.specs.declared.fault.In2Fault.{In2Fault}
use Rattle.in2_reader.specs.declared.instance.In2Read.{In2Read}
use Rattle.in2_reader.specs.declared.instance.In2Read.TheVariants.{Fault}
use Rattle.in2_reader.proofs.GrammarFacts.{spelled_is_read}

pub any_below : (xs : List ℕ) (n : ℕ) → ((k : ℕ) → k < length xs → get_or xs k 0 < n) → (q : ℕ)
    → list_any (eqb q) xs ≡ true → q < n
any_below [] n h q e = (cc)
any_below (x ∷ xs) n h q e =
    let I : (b : Bool) → eqb q x ≡ b → (b || list_any (eqb q) xs) ≡ true → q < n =
    elim [
      | true ↦ (λ z g. let same : q ≡ x = grind (arith, nat_tests) in omega (arith, h 0 (omega arith)))
      | false ↦
          (λ z g. any_below xs n (λ k l. h (suc k) (omega arith)) q g)
    ] in
    I (eqb q x) refl e

-- more numbers than there are below n can't all be below n and differ
crowded : (xs : List ℕ) (n : ℕ) → n < length xs → ((k : ℕ) → k < length xs → get_or xs k 0 < n)
    → ((k m : ℕ) → k < m → m < length xs → get_or xs k 0 ≡ get_or xs m 0 → ⊥) → ⊥
crowded xs n h below apart =
    let pairs : AllPairs (λ x y. x ≡ y → ⊥) xs = λ i j d l m e.
    apart i j l m (get_or_default xs i 0 d (omega arith) ∙ e ∙ get_or_default xs j d 0 m) in
    let distinct : IsDistinct eqb xs = IsDistinct-from_AllPairs Decides-eqb xs pairs in
    omega (arith, length-le_from_distinct_below xs n distinct (any_below xs n below))

-- a walk along a ring from its first task
walk_to : (arcs : List Prec) (ring : List ℕ) (k : ℕ) → IsRing arcs ring → suc k < length ring
    → Walk arcs (at ring 0) (at ring (suc k))
walk_to arcs ring zero r l = arc (r.leads 0 (omega arith))
walk_to arcs ring (suc k) r l =
    let P : ℕ → Type 0 = λ m. Leads arcs (at ring (suc k)) (at ring m) in
    let next : suc k + 1 ≡ suc (suc k) = omega arith in
    on (walk_to arcs ring k r (omega arith)) (subst P next (r.leads (suc k) (omega arith)))

round_from : (arcs : List Prec) (ring : List ℕ) (n : ℕ) → length ring ≡ suc n → IsRing arcs ring
    → Walk arcs (at ring 0) (at ring 0)
round_from arcs ring zero e r = arc (r.closes 0 (omega arith))
round_from arcs ring (suc n) e r = on (walk_to arcs ring n r (omega arith)) (r.closes (suc n) (omega arith))

pub round : (arcs : List Prec) (ring : List ℕ) → IsRing arcs ring → Walk arcs (at ring 0) (at ring 0)
round arcs ring r = let some = r.some in round_from arcs ring (length ring - 1) (omega arith) r

last_arc : (arcs : List Prec) (n i j : ℕ) → AreArcs n arcs → Walk arcs i j → j < n
last_arc arcs n i j a (arc l) =
    let is : record { first = i; «then» = j } ≡ arc_at arcs l.0 =
    get_or_read arcs l.0 (record { first = i; «then» = j }) l.1 (sym l.2) (record { first = 0; «then» = 0 }) in
    omega (arith, (a l.0 l.1).1, ap (λ p. p.«then») is)
last_arc arcs n i j a (on {j = m} w l) =
    let is : record { first = m; «then» = j } ≡ arc_at arcs l.0 =
    get_or_read arcs l.0 (record { first = m; «then» = j }) l.1 (sym l.2) (record { first = 0; «then» = 0 }) in
    omega (arith, (a l.0 l.1).1, ap (λ p. p.«then») is)

-- in ranks, no task is before itself
unranked : (line : Line) (t : ℕ) → AreRanks line → t < tasks line → Before line t t → ⊥
unranked line t r h b =
    let n : ℕ = tasks line in
    let many : length line.order ≡ n = r.many in
    let other : (k : ℕ) → k < n → t ≡ at_rank line k → ⊥ = λ k l e.
    (let P : ℕ → Type 0 = λ x. Before line t x in
    let Q : ℕ → Type 0 = λ x. IsPlaced line k x in
    (r.free k l).new (subst Q e ((r.free k l).ready t (subst P e b)))) in
    let below : (k : ℕ) → k < length (t ∷ line.order) → get_or (t ∷ line.order) k 0 < n =
    elim [ zero ↦ (λ l. h) | suc k ↦ (λ l. (r.free k (omega arith)).task) ] in
    let apart : (k m : ℕ) → k < m → m < length (t ∷ line.order)
    → get_or (t ∷ line.order) k 0 ≡ get_or (t ∷ line.order) m 0 → ⊥ =
    elim [
      | zero ↦ (elim [ zero ↦ (λ l g e. omega arith) | suc m ↦ (λ l g e. other m (omega arith) e) ])
      | suc k ↦ (elim [
        | zero ↦ (λ l g e. omega arith)
        | suc m ↦
            (λ l g e. (r.free m (omega arith)).new (k, omega arith, e))
      ])
    ] in
    crowded (t ∷ line.order) n (omega arith) below apart

pub no_ring : (ts : List ℕ) (arcs : List Prec) (line : Line) (ring : List ℕ) → IsInstanceOf ts arcs line
    → IsRing arcs ring → ⊥
no_ring ts arcs line ring i r =
    let w : Walk arcs (at ring 0) (at ring 0) = round arcs ring r in
    let task : at ring 0 < tasks line = omega (
      arith,
      last_arc arcs (length ts) (at ring 0) (at ring 0) i.named w,
      ap length i.times,
    ) in
    unranked line (at ring 0) i.ranks task ((i.before (at ring 0) task).all (at ring 0) w)

pub one_reading : (lines : Lines) (x y : In2) → Spells lines x → Spells lines y → x ≡ y
one_reading lines x y s t = let e : Ok x ≡ Ok y = sym (spelled_is_read 0 lines x s) ∙ spelled_is_read 0 lines y t in
    (cc)

-- a text with a fault of its form says nothing
pub form_fault_has_none : (bytes : List ℕ) (f : In2Fault) (x : In2)
    → IsFormFault (lines_in 1 bytes) (contents_from 1 bytes) f → IsIn2 bytes x → ⊥
form_fault_has_none bytes f x (inl o) r =
    let P : Lines → Type 0 = λ ls. Spells ls x in
    o.stops (o.after, (x, subst P (o.all ∙ sym (append_assoc o.before (o.at ∷ []) o.after)) r))
form_fault_has_none bytes f x (inr o) r = o.ends (x, r)

pub no_instance : (bytes : List ℕ) (f : In2Fault) (line : Line) → IsIn2Fault bytes f → IsReading bytes line → ⊥
no_instance bytes f line (inl o) r = form_fault_has_none bytes f r.x o r.reads
no_instance bytes f line (inr o) r =
    let same : o.x ≡ r.x = one_reading (contents_from 1 bytes) o.x r.x o.reads r.reads in
    let P : In2 → Type 0 = λ x. IsRing x.arcs o.ring in
    no_ring r.x.times r.x.arcs line o.ring r.is (subst P same o.is_ring)

pub fault_has_none : (bytes : List ℕ) (r : In2Read) → IsIn2Read bytes r → (f : In2Fault) → r ≡ Fault f → (line : Line)
    → IsReading bytes line → ⊥
fault_has_none bytes r h f e line g = no_instance bytes f line (subst (IsIn2Read bytes) e h) g
