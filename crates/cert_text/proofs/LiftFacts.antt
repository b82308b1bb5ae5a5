-- The lift of parts: lists mapped one by one, and what a first part keeps.
use Rattle.std.proofs.Common.{◌≡◌, ℕ, zero, suc, ◌+◌, ◌<◌, ◌≤◌, List, [], ◌∷◌, ◌++◌, length, map, take, get_or, refl}
use Rattle.std.proofs.Common.{sym, ◌∙◌, ap, subst, arith, Some, None, Option, append_assoc}
use Rattle.std.specs.Prelude.{slice_get}
use Rattle.std.proofs.lemmas.List.{append-nil, map-append, take_more, take_all}
use Rattle.std.proofs.lemmas.Option.{slice_get-get_or}
use Rattle.line_rules.specs.Ranges.{IsEntry, IsFrame}
use Rattle.line_rules.specs.declared.types.Entry.{Entry}
use Rattle.line_rules.specs.declared.types.OpenFrame.{OpenFrame}
use Rattle.line_rules.specs.declared.types.Trail.{Trail}
use Rattle.entry_lists.specs.Lift.{lifted_entry, lifted_frame, lifted_entries, trail_at, trail_or, lifted_trail}
use Rattle.entry_lists.specs.OldRanges.{IsPart}
use Rattle.entry_lists.specs.declared.version_one.Part.{Part}
use Rattle.entry_lists.proofs.RaisedFacts.{entries_none, frames_none}

-- one item more of a list that is mapped behind others
pub map_next : {A B : Type 0} (f : A → B) (xs : List A) (front ys zs : List B) (i : ℕ) (x : A) (y : B)
    → ys ≡ front ++ map f (take i xs) → i < length xs → x ≡ get_or xs i x → y ≡ f x → zs ≡ ys ++ y ∷ []
    → zs ≡ front ++ map f (take (i + 1) xs)
map_next f xs front ys zs i x y h l e g n =
    n ∙ ap (λ z. z ++ y ∷ []) h ∙ append_assoc front (map f (take i xs)) (y ∷ [])
    ∙ ap (λ z. front ++ z) (ap (λ z. map f (take i xs) ++ z ∷ []) (g ∙ ap f e)
    ∙ sym (map-append f (take i xs) (get_or xs i x ∷ [])) ∙ ap (map f) (sym (take_more xs i x l)))

-- all of it
pub map_end : {A B : Type 0} (f : A → B) (xs us : List A) (front ys : List B) (i : ℕ) → ys ≡ front ++ map f (take i xs)
    → length xs ≤ i → xs ≡ us → ys ≡ front ++ map f us
map_end f xs us front ys i h l e = h ∙ ap (λ z. front ++ map f z) (take_all i xs l ∙ e)

-- the entries of a first part are as they are
pub first_entries : (n : ℕ) (p : Part) → IsPart n p → map (lifted_entry p.cycle 0) p.entries ≡ p.entries
first_entries n p h = entries_none p.cycle p.entries (λ k e q. (h.each k e q).1)

or_none : (t : Option Trail) → trail_or t None ≡ t
or_none None = refl
or_none (Some t) = refl

-- one part
pub single_entries : (n : ℕ) (p : Part) → IsPart n p → p.entries ≡ lifted_entries 0 (p ∷ [])
single_entries n p h = sym (first_entries n p h) ∙ sym (append-nil (map (lifted_entry p.cycle 0) p.entries))

pub single_trail : (p : Part) (t : Option Trail) → t ≡ trail_at p.cycle p.frames → t ≡ lifted_trail 0 (p ∷ [])
single_trail p t e = e ∙ ap (trail_at p.cycle) (sym (frames_none p.frames))
    ∙ sym (or_none (trail_at p.cycle (map (lifted_frame 0) p.frames)))

-- two parts
pub joined_entries : (n : ℕ) (p q : Part) (es : List Entry) → IsPart n p
    → es ≡ p.entries ++ map (lifted_entry q.cycle (length p.entries)) q.entries → es ≡ lifted_entries 0 (p ∷ q ∷ [])
joined_entries n p q es h e =
    let k : length p.entries ≡ 0 + length p.entries = omega arith in
    let P : ℕ → Type 0 = λ m. es ≡ map (lifted_entry p.cycle 0) p.entries
    ++ (map (lifted_entry q.cycle m) q.entries ++ []) in
    subst P k
    (e ∙ ap (λ z. z ++ map (lifted_entry q.cycle (length p.entries)) q.entries) (sym (first_entries n p h))
    ∙ ap (λ z. map (lifted_entry p.cycle 0) p.entries ++ z)
    (sym (append-nil (map (lifted_entry q.cycle (length p.entries)) q.entries))))

pub joined_trail : (p q : Part) (t a b : Option Trail) (fs : List OpenFrame) → a ≡ trail_at p.cycle p.frames
    → fs ≡ map (lifted_frame (length p.entries)) q.frames → b ≡ trail_at q.cycle fs → t ≡ trail_or a b
    → t ≡ lifted_trail 0 (p ∷ q ∷ [])
joined_trail p q t a b fs f g h e =
    let k : length p.entries ≡ 0 + length p.entries = omega arith in
    let P : ℕ → Type 0 = λ m. t ≡ trail_or (trail_at p.cycle (map (lifted_frame 0) p.frames))
    (trail_or (trail_at q.cycle (map (lifted_frame m) q.frames)) None) in
    subst P k
    (e ∙ ap (λ z. trail_or z b) (f ∙ ap (trail_at p.cycle) (sym (frames_none p.frames)))
    ∙ ap (λ z. trail_or (trail_at p.cycle (map (lifted_frame 0) p.frames)) z)
    (h ∙ ap (trail_at q.cycle) g ∙ sym (or_none (trail_at q.cycle
    (map (lifted_frame (length p.entries)) q.frames)))))

-- an entry and a frame of a part
pub entry_of_part : (n count i : ℕ) (p : Part) (es : List Entry) (e : Entry) → IsPart n p → es ≡ p.entries
    → count ≡ length p.entries → i < length es → e ≡ get_or es i e → (m : ℕ) × IsEntry m count e
entry_of_part n count i p es e h s c l q =
    let P : ℕ → Type 0 = λ k. IsEntry n k e in (
      n,
      subst P (sym c) (h.each i e (ap (λ z. slice_get z i) (sym s) ∙ slice_get-get_or es i e l
          ∙ ap (λ z. Some z) (sym q))).0,
    )

pub frame_of_part : (n count i : ℕ) (p : Part) (fs : List OpenFrame) (f : OpenFrame) → IsPart n p → fs ≡ p.frames
    → count ≡ length p.entries → i < length fs → f ≡ get_or fs i f → (m : ℕ) × IsFrame m count f
frame_of_part n count i p fs f h s c l q =
    let P : ℕ → Type 0 = λ k. IsFrame n k f in (
      n,
      subst P (sym c) (h.frames i f (ap (λ z. slice_get z i) (sym s) ∙ slice_get-get_or fs i f l
          ∙ ap (λ z. Some z) (sym q))),
    )
