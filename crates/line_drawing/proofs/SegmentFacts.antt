-- Where the segments of listed tasks stand, by their places in the lists.
use Rattle.std.proofs.Common.{◌≡◌, ℕ, zero, suc, ◌+◌, ◌-◌, ◌<◌, ◌≤◌, List, [], ◌∷◌, ◌++◌, length, take, drop}
use Rattle.std.proofs.Common.{Some, refl, sym, ap, ◌∙◌, subst, ◌⊎◌, inl, inr, arith, add-one}
use Rattle.std.specs.Prelude.{All, filter, slice_get}
use Rattle.std.proofs.lemmas.Option.{slice_get-get_or, same_Some}
use Rattle.line_instance.specs.Line.{Line, time}
use Rattle.line_rules.specs.declared.types.Side.TheVariants.{Front, Back}
use Rattle.line_drawing.specs.declared.segments.Segment.{Segment}
use Rattle.line_drawing.specs.Segments.{backs_of, end_of, fronts_from, position, times_of}
use Rattle.line_drawing.specs.Rows.{is_of}
use Rattle.line_drawing.specs.Facts.{IsTrueLength}
use Rattle.line_drawing.proofs.Positions.{rises, most, start, both_fit, between_above, between_below}

-- an item of two lists together is one of the first, or one of the second
pub get_cases : {X : Type 0} (xs ys : List X) (p : ℕ) (x : X) → slice_get (xs ++ ys) p ≡ Some x
    → (slice_get xs p ≡ Some x) ⊎ ((q : ℕ) × (p ≡ length xs + q) × (slice_get ys q ≡ Some x))
get_cases [] ys p x e = inr (p, omega arith, e)
get_cases (z ∷ xs) ys zero x e = inl e
get_cases (z ∷ xs) ys (suc p) x e = elim (get_cases xs ys p x e) [
  | inl a ↦ inl a
  | inr b ↦ inr (b.0, omega (arith, b.1), b.2)
]

pub get_behind : {X : Type 0} (xs ys : List X) (q : ℕ) (x : X) → slice_get ys q ≡ Some x
    → slice_get (xs ++ ys) (length xs + q) ≡ Some x
get_behind [] ys q x e = let P : ℕ → Type 0 = λ k. slice_get ys k ≡ Some x in let same : q ≡ 0 + q = omega arith in
    subst P same e
get_behind (z ∷ xs) ys q x e = let P : ℕ → Type 0 = λ k. slice_get (z ∷ (xs ++ ys)) k ≡ Some x in
    let same : suc (length xs + q) ≡ suc (length xs) + q = omega arith in subst P same (get_behind xs ys q x e)

module _ (line : Line) where
  times_split : (is : List ℕ) (p : ℕ) → times_of line (take p is) + times_of line (drop p is) ≡ times_of line is
  times_split [] zero = omega arith
  times_split [] (suc p) = omega arith
  times_split (i ∷ is) zero = omega arith
  times_split (i ∷ is) (suc p) = omega (arith, times_split is p)

  times_take : (is : List ℕ) (p q : ℕ) → p ≤ q → times_of line (take p is) ≤ times_of line (take q is)
  times_take [] zero q h = omega arith
  times_take [] (suc p) zero h = omega arith
  times_take [] (suc p) (suc q) h = omega arith
  times_take (i ∷ is) zero q h = omega arith
  times_take (i ∷ is) (suc p) zero h = absurd (omega arith)
  times_take (i ∷ is) (suc p) (suc q) h = omega (arith, times_take is p q (omega (arith, h)))

  pub taken_most : (is : List ℕ) (p : ℕ) → times_of line (take p is) ≤ times_of line is
  taken_most is p = omega (arith, times_split is p)

  pub left_most : (is : List ℕ) (p : ℕ) → times_of line (drop p is) ≤ times_of line is
  left_most is p = omega (arith, times_split is p)

  times_drop : (is : List ℕ) (p q : ℕ) → p ≤ q → times_of line (drop q is) ≤ times_of line (drop p is)
  times_drop is p q h = omega (arith, times_split is p, times_split is q, times_take is p q h)

module _ (line : Line) (c : ℕ) where
  -- the segment at place p of tasks in front, behind tasks of a sum
  pub record IsFrontAt (sum : ℕ) (is : List ℕ) (p : ℕ) (s : Segment) : Type 0 where
    pub from : ℕ
    pub to : ℕ
    pub task : slice_get is p ≡ Some s.task
    pub side : s.side ≡ Front
    pub lasts : s.time ≡ time line s.task
    pub begins : from ≡ sum + times_of line (take p is)
    pub after : to ≡ sum + times_of line (take (suc p) is)
    pub ends : to ≡ from + time line s.task
    pub x : s.x ≡ position c from
    pub width : s.width ≡ position c to - position c from

  pub front_at : (sum : ℕ) (is : List ℕ) (p : ℕ) (s : Segment) → slice_get (fronts_from line c sum is) p ≡ Some s
      → IsFrontAt sum is p s
  front_at sum [] p s e = absurd (cc)
  front_at sum (i ∷ is) zero s e =
      subst (λ r. IsFrontAt sum (i ∷ is) zero r) (same_Some _ s e)
      (record {
        from = sum;
        to = sum + time line i;
        task = refl;
        side = refl;
        lasts = refl;
        begins = omega arith;
        after = omega arith;
        ends = refl;
        x = refl;
        width = refl;
      })
  front_at sum (i ∷ is) (suc p) s e =
      let h = front_at (sum + time line i) is p s e in
      record {
        from = h.from;
        to = h.to;
        task = h.task;
        side = h.side;
        lasts = h.lasts;
        begins = omega (arith, h.begins);
        after = omega (arith, h.after);
        ends = h.ends;
        x = h.x;
        width = h.width;
      }

  pub front_has : (sum : ℕ) (is : List ℕ) (p i : ℕ) → slice_get is p ≡ Some i
      → (s : Segment) × ((slice_get (fronts_from line c sum is) p ≡ Some s) × (s.task ≡ i))
  front_has sum [] p i e = absurd (cc)
  front_has sum (j ∷ is) zero i e = (_, (refl, same_Some j i e))
  front_has sum (j ∷ is) (suc p) i e = front_has (sum + time line j) is p i e

  pub length-fronts : (sum : ℕ) (is : List ℕ) → length (fronts_from line c sum is) ≡ length is
  length-fronts sum [] = refl
  length-fronts sum (i ∷ is) = ap suc (length-fronts (sum + time line i) is)

  -- the segment at place p of tasks at the back
  pub record IsBackAt (is : List ℕ) (p : ℕ) (s : Segment) : Type 0 where
    pub from : ℕ
    pub to : ℕ
    pub task : slice_get is p ≡ Some s.task
    pub side : s.side ≡ Back
    pub lasts : s.time ≡ time line s.task
    pub begins : from ≡ times_of line (drop p is)
    pub after : to ≡ times_of line (drop (suc p) is)
    pub ends : from ≡ to + time line s.task
    pub x : s.x ≡ 800 - position c from
    pub width : s.width ≡ position c from - position c to

  pub back_at : (is : List ℕ) (p : ℕ) (s : Segment) → slice_get (backs_of line c is) p ≡ Some s → IsBackAt is p s
  back_at [] p s e = absurd (cc)
  back_at (i ∷ is) zero s e =
      subst (λ r. IsBackAt (i ∷ is) zero r) (same_Some _ s e)
      (record {
        from = time line i + times_of line is;
        to = times_of line is;
        task = refl;
        side = refl;
        lasts = refl;
        begins = refl;
        after = refl;
        ends = omega arith;
        x = refl;
        width = refl;
      })
  back_at (i ∷ is) (suc p) s e =
      let h = back_at is p s e in
      record {
        from = h.from;
        to = h.to;
        task = h.task;
        side = h.side;
        lasts = h.lasts;
        begins = h.begins;
        after = h.after;
        ends = h.ends;
        x = h.x;
        width = h.width;
      }

  pub back_has : (is : List ℕ) (p i : ℕ) → slice_get is p ≡ Some i
      → (s : Segment) × ((slice_get (backs_of line c is) p ≡ Some s) × (s.task ≡ i))
  back_has [] p i e = absurd (cc)
  back_has (j ∷ is) zero i e = (_, (refl, same_Some j i e))
  back_has (j ∷ is) (suc p) i e = back_has is p i e

  pub length-backs : (is : List ℕ) → length (backs_of line c is) ≡ length is
  length-backs [] = refl
  length-backs (i ∷ is) = ap suc (length-backs is)

  -- the segments of a side are those of its tasks
  pub front_fronts : (sum : ℕ) (is : List ℕ) → filter (is_of Front) (fronts_from line c sum is)
      ≡ fronts_from line c sum is
  front_fronts sum [] = refl
  front_fronts sum (i ∷ is) =
      ap (λ (t : List Segment). record {
        task = i;
        side = Front;
        time = time line i;
        x = position c sum;
        width = position c (sum + time line i) - position c sum;
      } ∷ t) (front_fronts (sum + time line i) is)

  pub back_fronts : (sum : ℕ) (is : List ℕ) → filter (is_of Back) (fronts_from line c sum is) ≡ []
  back_fronts sum [] = refl
  back_fronts sum (i ∷ is) = back_fronts (sum + time line i) is

  pub front_backs : (is : List ℕ) → filter (is_of Front) (backs_of line c is) ≡ []
  front_backs [] = refl
  front_backs (i ∷ is) = front_backs is

  pub back_backs : (is : List ℕ) → filter (is_of Back) (backs_of line c is) ≡ backs_of line c is
  back_backs [] = refl
  back_backs (i ∷ is) =
      ap (λ (t : List Segment). record {
        task = i;
        side = Back;
        time = time line i;
        x = 800 - position c (time line i + times_of line is);
        width = position c (time line i + times_of line is) - position c (times_of line is);
      } ∷ t) (back_backs is)

  module _ (some : 1 ≤ c) (fs bs : List ℕ) (fit : times_of line fs + times_of line bs ≤ c) where
    front_end : (p : ℕ) (s : Segment) (h : IsFrontAt 0 fs p s) → end_of s ≡ position c h.to
    front_end p s h = omega (arith, h.x, h.width, rises c some h.from h.to (omega (arith, h.ends)))

    front_to : (p : ℕ) (s : Segment) (h : IsFrontAt 0 fs p s) → h.to ≤ times_of line fs
    front_to p s h = omega (arith, h.after, taken_most line fs (suc p))

    back_from : (p : ℕ) (s : Segment) (h : IsBackAt bs p s) → h.from ≤ times_of line bs
    back_from p s h = omega (arith, h.begins, left_most line bs p)

    back_end : (p : ℕ) (s : Segment) (h : IsBackAt bs p s) → end_of s ≡ 800 - position c h.to
    back_end p s h = omega (
      arith,
      h.x,
      h.width,
      rises c some h.to h.from (omega (arith, h.ends)),
      most c some h.from (omega (arith, back_from p s h, fit)),
    )

    -- a segment in front ends where, or before, one further on begins
    pub front_clear : (p q : ℕ) (s r : Segment) → IsFrontAt 0 fs p s → IsFrontAt 0 fs q r → p < q → end_of s ≤ r.x
    front_clear p q s r h k l = omega (
      arith,
      front_end p s h,
      k.x,
      rises c some h.to k.from (omega (arith, h.after, k.begins, times_take line fs (suc p) q (omega (arith, l)))),
    )

    pub back_clear : (p q : ℕ) (s r : Segment) → IsBackAt bs p s → IsBackAt bs q r → p < q → end_of s ≤ r.x
    back_clear p q s r h k l = omega (
      arith,
      back_end p s h,
      k.x,
      rises c some k.from h.to (omega (arith, h.after, k.begins, times_drop line bs (suc p) q (omega (arith, l)))),
    )

    pub both_clear : (p q : ℕ) (s r : Segment) → IsFrontAt 0 fs p s → IsBackAt bs q r → end_of s ≤ r.x
    both_clear p q s r h k = omega (
      arith,
      front_end p s h,
      k.x,
      both_fit c some h.to k.from (omega (arith, front_to p s h, back_from q r k, fit)),
    )

    pub front_within : (p : ℕ) (s : Segment) → IsFrontAt 0 fs p s → end_of s ≤ 800
    front_within p s h = omega (arith, front_end p s h, most c some h.to (omega (arith, front_to p s h, fit)))

    pub back_within : (p : ℕ) (s : Segment) → IsBackAt bs p s → end_of s ≤ 800
    back_within p s h = omega (arith, back_end p s h)

    pub front_meet : (p : ℕ) (s r : Segment) → IsFrontAt 0 fs p s → IsFrontAt 0 fs (p + 1) r → end_of s ≡ r.x
    front_meet p s r h k =
        let same : h.to ≡ k.from = h.after ∙ sym (k.begins ∙ ap (λ n. 0 + times_of line (take n fs)) (add-one p)) in
        front_end p s h ∙ ap (position c) same ∙ sym k.x

    pub back_meet : (p : ℕ) (s r : Segment) → IsBackAt bs p s → IsBackAt bs (p + 1) r → end_of s ≡ r.x
    back_meet p s r h k =
        let same : h.to ≡ k.from = h.after ∙ sym (k.begins ∙ ap (λ n. times_of line (drop n bs)) (add-one p)) in
        back_end p s h ∙ ap (λ n. 800 - position c n) same ∙ sym k.x

    pub front_first : (s : Segment) → IsFrontAt 0 fs 0 s → s.x ≡ 0
    front_first s h =
        let none : h.from ≡ 0 = omega (arith, h.begins) in
        h.x ∙ ap (position c) none ∙ start c some

    pub back_last : (p : ℕ) (s : Segment) → IsBackAt bs p s → p + 1 ≡ length bs → end_of s ≡ 800
    back_last p s h e =
        let none : h.to ≡ 0 = omega (arith, h.after, none_left bs (suc p) (omega (arith, e))) in
        back_end p s h ∙ ap (λ n. 800 - position c n) none ∙ ap (λ n. 800 - n) (start c some)
      where
        none_left : (is : List ℕ) (n : ℕ) → length is ≤ n → times_of line (drop n is) ≡ 0
        none_left [] zero l = refl
        none_left [] (suc n) l = refl
        none_left (i ∷ is) zero l = absurd (omega arith)
        none_left (i ∷ is) (suc n) l = none_left is n (omega (arith, l))

    pub front_length : (p : ℕ) (s : Segment) → IsFrontAt 0 fs p s → IsTrueLength c s
    front_length p s h =
        let same : h.from + s.time ≡ h.to = omega (arith, h.ends, h.lasts) in
        let there : position c (h.from + s.time) ≡ position c h.from + s.width =
        ap (position c) same ∙ omega (arith, h.width, rises c some h.from h.to (omega (arith, h.ends))) in
        record {
          above = between_above c some h.from s.time s.width there;
          below = between_below c some h.from s.time s.width there;
        }

    pub back_length : (p : ℕ) (s : Segment) → IsBackAt bs p s → IsTrueLength c s
    back_length p s h =
        let same : h.to + s.time ≡ h.from = omega (arith, h.ends, h.lasts) in
        let there : position c (h.to + s.time) ≡ position c h.to + s.width =
        ap (position c) same ∙ omega (arith, h.width, rises c some h.to h.from (omega (arith, h.ends))) in
        record {
          above = between_above c some h.to s.time s.width there;
          below = between_below c some h.to s.time s.width there;
        }

    -- each segment ends within the row
    pub within_at : (p : ℕ) (s : Segment) → slice_get (fronts_from line c 0 fs ++ backs_of line c bs) p ≡ Some s
        → end_of s ≤ 800
    within_at p s e = elim (get_cases (fronts_from line c 0 fs) (backs_of line c bs) p s e) [
      | inl h ↦ front_within p s (front_at 0 fs p s h)
      | inr h ↦ back_within h.0 s (back_at bs h.0 s h.2)
    ]

    pub all_within : All (λ s. end_of s ≤ 800) (fronts_from line c 0 fs ++ backs_of line c bs)
    all_within = λ p d l. within_at p _ (slice_get-get_or (fronts_from line c 0 fs ++ backs_of line c bs) p d l)
