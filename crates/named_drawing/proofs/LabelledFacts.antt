-- Each segment has a label that fits, or its task is noted.
use Rattle.std.proofs.Common.{◌≡◌, ℕ, zero, suc, ◌+◌, ◌*◌, ◌<◌, ◌≤◌, Bool, true, false, cond, List, [], ◌∷◌}
use Rattle.std.proofs.Common.{◌++◌, length, refl, sym, ap, ◌∙◌, subst, arith, Option, Some, None, append_assoc}
use Rattle.std.proofs.Common.{append-nil, codes, nat_eq}
use Rattle.std.proofs.Common.{decimal}
use Rattle.std.specs.Prelude.{filter, slice_get}
use Rattle.std.proofs.lemmas.Bool.{and_parts, eqb-true, false≢true, ltb-false}
use Rattle.std.proofs.lemmas.Bool.Decides.{nat_tests}
use Rattle.task_names.specs.TaskNames.{name_at}
use Rattle.line_instance.specs.Line.{Line}
use Rattle.line_rules.specs.Accepted.{upper_cycle}
use Rattle.line_rules.specs.declared.types.LineKind.{LineKind}
use Rattle.line_rules.specs.declared.types.Seatplace.{Seatplace}
use Rattle.line_rules.specs.declared.types.Balance.{Balance as Assignment}
use Rattle.line_rules.specs.declared.types.Ask.{Ask}
use Rattle.line_rules.specs.declared.types.Claim.{Claim}
use Rattle.line_rules.specs.declared.types.Claim.TheVariants.{TooLong, Bounds}
use Rattle.line_rules.specs.declared.types.Certificate.{Certificate}
use Rattle.line_rules.proofs.ListFacts.{get_map}
use Rattle.line_drawing.specs.declared.figures.Figures.{Figures}
use Rattle.line_drawing.specs.declared.segments.Segment.{Segment}
use Rattle.line_drawing.specs.Segments.{segments_at}
use Rattle.line_drawing.specs.Figures.{sum_at}
use Rattle.line_drawing.specs.Notes.{is_narrow, number_of}
use Rattle.line_drawing.specs.Rows.{columns_text, margin_text, slowest_text}
use Rattle.named_drawing.specs.declared.labels.Label.{Label}
use Rattle.named_drawing.specs.declared.labels.Label.TheVariants.{Name, Parts, Number, Nothing}
use Rattle.named_drawing.specs.declared.page.Page.{Page}
use Rattle.named_drawing.specs.Widths.{best_blank, fits, part_before, part_behind}
use Rattle.named_drawing.specs.Labels.{is_nothing, is_unlabelled, label_of, named_note, number_label, parts_fit}
use Rattle.named_drawing.specs.Labels.{parts_label, unlabelled}
use Rattle.named_drawing.specs.Page.{page_of}
use Rattle.named_drawing.specs.NamedRows.{back_text, front_text, labels_text, named_row, opening_text}
use Rattle.named_drawing.specs.TaskList.{list_text}
use Rattle.named_drawing.specs.NamedDrawing.{above_text, end_text, named_claim, named_picture, rows_from, station_text}
use Rattle.named_drawing.specs.NamedFacts.{ArePartsThatFit, HasLabels, IsLabel, IsNumberThatFits, LabelsEachTask}
use Rattle.named_drawing.specs.NamedFacts.{LabelsOfClaim, StandsIn}
use Rattle.named_drawing.proofs.BlankFacts.{best_of_all}

-- a segment that passes is among those that do
filter_has : (f : Segment → Bool) (xs : List Segment) (k : ℕ) (x : Segment) → slice_get xs k ≡ Some x → f x ≡ true
    → (p : ℕ) × (slice_get (filter f xs) p ≡ Some x)
filter_has f [] k x e t = absurd (cc)
filter_has f (y ∷ ys) zero x e t = by (f y) refl
  where
    same : y ≡ x
    same = cc e

    by : (b : Bool) → f y ≡ b → (p : ℕ) × (slice_get (cond b (y ∷ filter f ys) (filter f ys)) p ≡ Some x)
    by true g = (0, e)
    by false g = absurd (false≢true (sym g ∙ ap f same ∙ t))
filter_has f (y ∷ ys) (suc k) x e t = by (f y) (filter_has f ys k x e t)
  where
    by : (b : Bool) → (p : ℕ) × (slice_get (filter f ys) p ≡ Some x)
        → (p : ℕ) × (slice_get (cond b (y ∷ filter f ys) (filter f ys)) p ≡ Some x)
    by true h = (suc h.0, h.1)
    by false h = h

-- what a label says of what fits
abbrev Says : List ℕ → Segment → Label → Type 0
Says name s Name = fits s.width name ≡ true
Says name s (Parts at) = ArePartsThatFit name s.width at
Says name s Number = IsNumberThatFits name s
Says name s Nothing = Unit {0}

module _ (name : List ℕ) (s : Segment) where
  number_says : (b : Bool) → is_narrow s ≡ b → fits s.width name ≡ false → Says name s (cond b Nothing Number)
  number_says true e wide = tt
  number_says false e wide = record {
    too_wide = wide;
    fits = ltb-false s.width (8 * length (decimal (number_of s)) + 2) e;
  }

  parts_say : (b : Bool) (at : ℕ) → parts_fit s.width name at ≡ b → best_blank name ≡ Some at
      → fits s.width name ≡ false
      → Says name s (cond b (Parts at) (number_label s))
  parts_say true at e best wide =
      let both : (fits s.width (part_before name at) ≡ true) × (fits s.width (part_behind name at) ≡ true) =
      and_parts (fits s.width (part_before name at)) (fits s.width (part_behind name at)) e in
      record { too_wide = wide; best = best_of_all name at best; before = both.0; behind = both.1 }
  parts_say false at e best wide = number_says (is_narrow s) refl wide

  blank_says : (found : Option ℕ) → best_blank name ≡ found → fits s.width name ≡ false
      → Says name s (parts_label name s found)
  blank_says None e wide = number_says (is_narrow s) refl wide
  blank_says (Some at) e wide = parts_say (parts_fit s.width name at) at refl e wide

  says : (b : Bool) → fits s.width name ≡ b → Says name s (cond b Name (parts_label name s (best_blank name)))
  says true e = e
  says false e = blank_says (best_blank name) refl e

module _ (names : List (List ℕ)) (segments : List Segment) (p : ℕ) (s : Segment)
    (here : slice_get segments p ≡ Some s) where
  -- a task without a label is noted
  noted : is_unlabelled names s ≡ true → (q : ℕ) × (slice_get (unlabelled names segments) q ≡ Some (number_of s))
  noted e =
      let q = filter_has (is_unlabelled names) segments p s here e in
      (q.0, get_map number_of _ q.0 s q.1)

  is_label : (label : Label) → label_of (name_at names s.task) s ≡ label → Says (name_at names s.task) s label
      → IsLabel names segments s label
  is_label Name e h = h
  is_label (Parts at) e h = h
  is_label Number e h = h
  is_label Nothing e h = noted (ap is_nothing e)

  pub labelled : IsLabel names segments s (label_of (name_at names s.task) s)
  labelled = is_label (label_of (name_at names s.task) s) refl
      (says (name_at names s.task) s (fits s.width (name_at names s.task)) refl)

-- texts in longer ones
in_front : (part text more : List ℕ) → StandsIn part text → StandsIn part (text ++ more)
in_front part text more h = (h.0, (h.1.0 ++ more, ap (λ t. t ++ more) h.1.1 ∙ append_assoc (h.0 ++ part) h.1.0 more))

in_back : (part text more : List ℕ) → StandsIn part text → StandsIn part (more ++ text)
in_back part text more h = (
  more ++ h.0,
  (
    h.1.0,
    ap (λ t. more ++ t) h.1.1
        ∙ sym (append_assoc more (h.0 ++ part) h.1.0)
        ∙ ap (λ t. t ++ h.1.0) (sym (append_assoc more h.0 part)),
  ),
)

last_in : (part more : List ℕ) → StandsIn part (more ++ part)
last_in part more = (more, ([], sym (append-nil (more ++ part))))

module _ (line : Line) (f : Figures) (names : List (List ℕ)) (places : List Seatplace) where
  -- the labels stand in their row
  in_row : (k sum : ℕ) (segments : List Segment) (note : List ℕ)
      → StandsIn (labels_text names segments) (named_row f names k sum segments note)
  in_row k sum segments note =
      let labels : List ℕ = labels_text names segments in
      let before : List ℕ = opening_text f names k sum segments ++ front_text names segments
      ++ back_text f.kind names segments in
      in_front labels _ (codes "</g>\n")
      (in_front labels _ (margin_text f note)
      (in_front labels _ (slowest_text f sum)
      (in_front labels _ (columns_text f k sum) (last_in labels before))))

  -- the note stands in its row
  note_in_row : (k sum : ℕ) (segments : List Segment) (note : List ℕ)
      → StandsIn (margin_text f note) (named_row f names k sum segments note)
  note_in_row k sum segments note =
      let before : List ℕ = opening_text f names k sum segments ++ front_text names segments
      ++ back_text f.kind names segments ++ labels_text names segments ++ columns_text f k sum ++ slowest_text f sum in
      in_front (margin_text f note) _ (codes "</g>\n") (last_in (margin_text f note) before)

  -- what stands in a row stands among the rows
  in_rows : (part : List ℕ) (n from k : ℕ) → from ≤ k → k < from + n
      → StandsIn part (station_text line f names places k)
      → StandsIn part (rows_from line f names places from n)
  in_rows part zero from k l h here = absurd (omega arith)
  in_rows part (suc n) from k l h here = by (nat_eq from k) refl
      (λ m. in_rows part n (suc from) k m (omega (arith, h)) here)
    where
      rest : List ℕ
      rest = rows_from line f names places (suc from) n

      by : (b : Bool) → nat_eq from k ≡ b → (suc from ≤ k → StandsIn part rest)
          → StandsIn part (rows_from line f names places from (suc n))
      by true e later =
          let same : k ≡ from = sym (eqb-true from k e) in
          let P : ℕ → Type 0 = λ j. StandsIn part (station_text line f names places j ++ rest) in
          subst P same (in_front part (station_text line f names places k) rest here)
      by false e later = in_back part rest (station_text line f names places from)
          (later (grind (arith, nat_tests, e, l)))

picture_labels : (line : Line) (p : Page) (names : List (List ℕ)) (a : Ask) (lower upper : ℕ) (b : Assignment)
    → HasLabels line names p.figures.cycle b.place b.stations (named_picture line p names a lower upper b)
picture_labels line p names a lower upper b =
    let f : Figures = p.figures in
    let segments : ℕ → List Segment = λ k. segments_at line f.cycle b.place k in
    let rows : List ℕ = rows_from line f names b.place 1 b.stations in
    let among : (part : List ℕ) → StandsIn part rows → StandsIn part (named_picture line p names a lower upper b) =
    λ part h. in_front part _ (list_text line p names b.place)
    (in_front part _ (end_text f) (in_back part rows (above_text p a lower upper) h)) in
    record {
      figures = f;
      drawn = λ k l h. among (labels_text names (segments k))
          (in_rows line f names b.place (labels_text names (segments k)) b.stations 1 k l (omega (arith, h))
          (in_row line f names b.place k (sum_at line b.place k) (segments k) (named_note names (segments k))));
      noted = λ k l h. among (margin_text f (named_note names (segments k)))
          (in_rows line f names b.place (margin_text f (named_note names (segments k))) b.stations 1 k l
          (omega (arith, h))
          (note_in_row line f names b.place k (sum_at line b.place k) (segments k)
          (named_note names (segments k))));
      each = λ k q s e. labelled names (segments k) q s e;
    }

claim_labels : (line : Line) (names : List (List ℕ)) (kind : LineKind) (a : Ask) (claim : Claim)
    → LabelsOfClaim line names a claim (named_claim line names kind a claim)
claim_labels line names kind a (TooLong task) = tt
claim_labels line names kind a (Bounds lower upper b es trail) = picture_labels line
    (page_of line kind (upper_cycle a upper) names b) names a lower upper b

pub drawing_labels : (line : Line) (names : List (List ℕ)) (cert : Certificate) → LabelsEachTask line names cert
drawing_labels line names cert = claim_labels line names cert.kind cert.ask cert.claim
