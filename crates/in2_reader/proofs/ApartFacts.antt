-- What the reading of pairs apart answers.
use Rattle.std.proofs.Common.{◌≡◌, ℕ, zero, suc, Bool, true, false, cond, nat_eq, List, [], ◌∷◌, ◌++◌, map, refl, sym}
use Rattle.std.proofs.Common.{◌∙◌, ap, subst, arith, Ok, Err, Result, inl, inr, append_assoc}
use Rattle.std.proofs.lemmas.Bool.Decides.{nat_tests}
use Rattle.line_instance.specs.declared.arcs.Prec.{Prec}
use Rattle.line_instance.specs.Walks.{ArePairs, Names}
use Rattle.in2_reader.specs.Contents.{Lines, contents_from, lines_in}
use Rattle.in2_reader.specs.Pairs.{pair_in, of_two}
use Rattle.in2_reader.specs.Faults.{IsBeginning}
use Rattle.in2_reader.specs.ApartFile.{ArePaired, SpellsApart, IsApartFile, IsApartRead, IsApartFault, IsApartAnswer}
use Rattle.in2_reader.specs.ApartFile.{apart_refusal}
use Rattle.in2_reader.specs.inner.Draft.{pairs_in, apart_said, Fails}
use Rattle.in2_reader.specs.declared.pair.Meaning.TheVariants.{Apart}
use Rattle.in2_reader.specs.declared.pair.Pair.{Pair}
use Rattle.in2_reader.specs.declared.pair.Pair.TheVariants.{Arc, BadArc, End, Other}
use Rattle.in2_reader.specs.declared.fault.In2Fault.{In2Fault}
use Rattle.in2_reader.specs.declared.fault.ReadError.{ReadError}
use Rattle.in2_reader.specs.declared.fault.ReadError.TheVariants as errors
use Rattle.in2_reader.specs.declared.apart.ApartRead.{ApartRead}
use Rattle.in2_reader.specs.declared.apart.ApartRead.TheVariants.{Fault}
use Rattle.in2_reader.proofs.GrammarFacts.{pair_at, pairs_read, pairs_spelled}
use Rattle.in2_reader.proofs.FaultFacts.{pairs_faulty}
use Rattle.in2_reader.proofs.FilledLines.{end_line}
use Rattle.in2_reader.proofs.Ranges.{pair_named}

apart_is_read : (end tasks : ℕ) (lines : Lines) (ps : List Prec) (s : SpellsApart tasks lines ps)
    → pairs_in end Apart tasks 524288 lines ≡ Ok (ps, s.mark.0)
apart_is_read end tasks lines ps s = ap (pairs_in end Apart tasks 524288) s.all
    ∙ pairs_read end Apart tasks 524288 s.paired ps s.mark s.rest s.are.pairs s.are.few s.ends

read_is_apart : (end tasks : ℕ) (lines : Lines) (x : List Prec × ℕ) → pairs_in end Apart tasks 524288 lines ≡ Ok x
    → SpellsApart tasks lines x.0
read_is_apart end tasks lines x e =
    let s = pairs_spelled end Apart tasks 524288 lines x e in
    record { paired = s.0; mark = s.1; rest = s.2; all = s.3; are = record { pairs = s.4; few = s.5 }; ends = s.6 }

two_named : (tasks : ℕ) (p : Pair) (a : Prec) → ((b : Prec) → p ≡ Arc b → Names tasks b) → of_two p ≡ Arc a
    → Names tasks a × (a.first ≡ a.«then» → ⊥)
two_named tasks BadArc a h e = (cc)
two_named tasks End a h e = (cc)
two_named tasks Other a h e = (cc)
two_named tasks (Arc b) a h e =
    let I : (same : Bool) → nat_eq b.first b.«then» ≡ same → cond same BadArc (Arc b) ≡ Arc a
    → Names tasks a × (a.first ≡ a.«then» → ⊥) =
    elim [
      | true ↦ (λ z g. absurd (let w : BadArc ≡ Arc a = g in (cc)))
      | false ↦ (λ z g. let w : Arc b ≡ Arc a = g in
          let is : b ≡ a = cc in
          let P : Prec → Type 0 = λ x. Names tasks x × (x.first ≡ x.«then» → ⊥) in
          let differ : b.first ≡ b.«then» → ⊥ = λ s. (let t : nat_eq b.first b.«then» ≡ true =
          grind (arith, nat_tests) in (cc)) in
          subst P is (h b refl, differ))
    ] in
    I (nat_eq b.first b.«then») refl e

pub are_pairs : (tasks : ℕ) (pl : Lines) (ps : List Prec) → map (pair_at Apart tasks) pl ≡ map Arc ps
    → ArePairs tasks ps
are_pairs tasks [] [] e k h = absurd (omega arith)
are_pairs tasks [] (p ∷ ps) e k h = (cc)
are_pairs tasks (l ∷ pl) [] e k h = (cc)
are_pairs tasks (l ∷ pl) (p ∷ ps) e zero h = let head : pair_at Apart tasks l ≡ Arc p = cc in
    two_named tasks (pair_in tasks l.1) p (pair_named tasks l.1) head
are_pairs tasks (l ∷ pl) (p ∷ ps) e (suc k) h = let tail : map (pair_at Apart tasks) pl ≡ map Arc ps = cc in
    are_pairs tasks pl ps tail k (omega arith)

pub pairs_said : (tasks : ℕ) (bytes : List ℕ) (x : List Prec × ℕ) → apart_said tasks bytes ≡ Ok x
    → IsApartFile tasks bytes x.0 × ArePairs tasks x.0
pairs_said tasks bytes x e =
    let s : IsApartFile tasks bytes x.0 = read_is_apart (lines_in 1 bytes) tasks (contents_from 1 bytes) x e in
    (s, are_pairs tasks s.paired x.0 s.are.pairs)

-- pairs begin contents that are read: the end mark may follow
pairs_passed : (tasks : ℕ) (lines : Lines) (ps : List Prec) → ArePaired tasks lines ps
    → IsBeginning (IsApartRead tasks) lines
pairs_passed tasks lines ps a = (
  end_line ∷ [],
  (
    ps,
    record {
      paired = lines;
      mark = end_line;
      rest = [];
      all = refl;
      are = a;
      ends = refl;
    },
  ),
)

not_apart : (end tasks : ℕ) (lines : Lines) (f : In2Fault) (ps : List Prec)
    → pairs_in end Apart tasks 524288 lines ≡ Err f → SpellsApart tasks lines ps → ⊥
not_apart end tasks lines f ps e s = let w : ◌≡◌ {A = Result (List Prec × ℕ) In2Fault} (Err f) (Ok (ps, s.mark.0)) =
    sym e ∙ apart_is_read end tasks lines ps s in (cc)

pub apart_fault : (tasks : ℕ) (bytes : List ℕ) (f : In2Fault) → apart_said tasks bytes ≡ Err f
    → IsApartFault tasks bytes f
apart_fault tasks bytes f e = elim (pairs_faulty (lines_in 1 bytes) Apart tasks 524288 (contents_from 1 bytes) f e) [
  | inl i ↦ inl (record {
    before = i.before;
    at = i.at;
    after = i.after;
    all = i.all;
    line = i.line;
    passes = pairs_passed tasks i.before i.ps (record { pairs = i.read; few = i.few });
    stops = λ b. not_apart 0 tasks (i.before ++ i.at ∷ b.0) f b.1.0 (i.stays 0 b.0)
        (let P : Lines → Type 0 = λ r. SpellsApart tasks r b.1.0 in
        subst P (append_assoc i.before (i.at ∷ []) b.0) b.1.1);
    kind = record { ps = i.ps; are = record { pairs = i.read; few = i.few }; wrong = i.wrong };
  })
  | inr i ↦ inr (record {
    line = i.line;
    passes = pairs_passed tasks (contents_from 1 bytes) i.ps (record { pairs = i.read; few = i.few });
    ends = λ r. not_apart (lines_in 1 bytes) tasks (contents_from 1 bytes) f r.0 e r.1;
    kind = i.kind;
  })
]

pub apart_not_read : (tasks : ℕ) (bytes : List ℕ) (e : ReadError) (r : ApartRead) → Fails e (apart_said tasks bytes)
    → r ≡ apart_refusal e → IsApartAnswer tasks bytes r
apart_not_read tasks bytes errors.Memory r h w = subst (IsApartAnswer tasks bytes) (sym w) tt
apart_not_read tasks bytes (errors.Fault f) r h w = subst (IsApartAnswer tasks bytes) (sym w)
    (apart_fault tasks bytes f h)

no_pairs : (tasks : ℕ) (bytes : List ℕ) (f : In2Fault) (ps : List Prec) → IsApartFault tasks bytes f
    → IsApartFile tasks bytes ps → ⊥
no_pairs tasks bytes f ps (inl o) s =
    let P : Lines → Type 0 = λ ls. SpellsApart tasks ls ps in
    o.stops (o.after, (ps, subst P (o.all ∙ sym (append_assoc o.before (o.at ∷ []) o.after)) s))
no_pairs tasks bytes f ps (inr o) s = o.ends (ps, s)

pub fault_has_no_pairs : (tasks : ℕ) (bytes : List ℕ) (r : ApartRead) → IsApartAnswer tasks bytes r → (f : In2Fault)
    → r ≡ Fault f → (ps : List Prec) → IsApartFile tasks bytes ps → ⊥
fault_has_no_pairs tasks bytes r h f e ps s = no_pairs tasks bytes f ps (subst (IsApartAnswer tasks bytes) e h) s
