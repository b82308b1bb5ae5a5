-- What is read so far, before what is read from what is left.
use Rattle.std.proofs.Common.{◌≡◌, ℕ, suc, ◌+◌, ◌-◌, ◌<◌, List, [], ◌∷◌, ◌++◌, refl, sym, ◌∙◌, ap, subst, arith, Ok}
use Rattle.std.proofs.Common.{Err, Result, append_assoc}
use Rattle.in2_reader.specs.Contents.{Lines}
use Rattle.in2_reader.specs.inner.Draft.{times_in, timed, with_time, with_arc, Fails}
use Rattle.in2_reader.specs.declared.fault.In2Fault.{In2Fault}
use Rattle.line_instance.specs.declared.arcs.Prec.{Prec}
use Rattle.in2_reader.specs.declared.fault.In2Kind.{In2Kind}
use Rattle.in2_reader.specs.declared.fault.In2Kind.TheVariants.{MissingTimes}
use Rattle.in2_reader.specs.declared.fault.ReadError.{ReadError}
use Rattle.in2_reader.specs.declared.fault.ReadError.TheVariants as errors
use Rattle.line_io.specs.Lines.{number_in}
use Rattle.line_io.specs.declared.text.Num.{Num}

abbrev pub with_front : {X Y : Type 0} → List X → Result (List X × Y) In2Fault → Result (List X × Y) In2Fault
with_front xs (Err e) = Err e
with_front xs (Ok x) = Ok (xs ++ x.0, x.1)

pub front_time : (ts : List ℕ) (t : ℕ) (r : Result (List ℕ × Lines) In2Fault)
    → with_front ts (with_time t r) ≡ with_front (ts ++ t ∷ []) r
front_time ts t (Err e) = refl
front_time ts t (Ok x) = ap (λ l. Ok (l, x.1)) (sym (append_assoc ts (t ∷ []) x.0))

pub front_arc : (ps : List Prec) (a : Prec) (r : Result (List Prec × ℕ) In2Fault)
    → with_front ps (with_arc a r) ≡ with_front (ps ++ a ∷ []) r
front_arc ps a (Err e) = refl
front_arc ps a (Ok x) = ap (λ l. Ok (l, x.1)) (sym (append_assoc ps (a ∷ []) x.0))

pub front_none : {X Y : Type 0} (r : Result (List X × Y) In2Fault) → with_front [] r ≡ r
front_none (Err e) = refl
front_none (Ok x) = refl

pub fails : {Y : Type 0} (r : ReadError) (line real : ℕ) (kind : In2Kind) (read : Result Y In2Fault)
    → r ≡ errors.Fault (record { line = line; kind = kind }) → line ≡ real
    → read ≡ Err (record { line = real; kind = kind }) → Fails r read
fails r line real kind read e l h =
    let P : ReadError → Type 0 = λ x. Fails x read in
    subst P (sym e) (h ∙ ap (λ k. Err (record { line = k; kind = kind })) (sym l))

-- one time is wanted still, and no content is left
pub none_left : (end n i : ℕ) (ts : List ℕ) (lines : Lines) (want : Result (List ℕ × Lines) In2Fault) → i < n
    → lines ≡ [] → with_front ts (times_in end (n - i) lines) ≡ want
    → want ≡ Err (record { line = end; kind = MissingTimes })
none_left end n i ts lines want h e w =
    let one : n - i ≡ suc (n - (i + 1)) = omega arith in
    sym w ∙ ap (λ k. with_front ts (times_in end k lines)) one
    ∙ ap (λ ls. with_front ts (times_in end (suc (n - (i + 1))) ls)) e

-- one time is wanted still, and this is the next content
pub next_time : (end n i : ℕ) (ts : List ℕ) (lines rest : Lines) (l : ℕ × List ℕ) (x : Num)
    (want : Result (List ℕ × Lines) In2Fault) → i < n → lines ≡ l ∷ rest → x ≡ number_in 200000000000000 l.1
    → with_front ts (times_in end (n - i) lines) ≡ want → want
    ≡ with_front ts (timed l.0 x (times_in end (n - (i + 1)) rest))
next_time end n i ts lines rest l x want h e s w =
    let one : n - i ≡ suc (n - (i + 1)) = omega arith in
    sym w ∙ ap (λ k. with_front ts (times_in end k lines)) one
    ∙ ap (λ ls. with_front ts (times_in end (suc (n - (i + 1))) ls)) e
    ∙ ap (λ y. with_front ts (timed l.0 y (times_in end (n - (i + 1)) rest))) (sym s)
