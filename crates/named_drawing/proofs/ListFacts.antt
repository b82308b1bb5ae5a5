-- A picture has one entry of the list for each task.
use Rattle.std.proofs.Common.{◌≡◌, ℕ, zero, suc, ◌+◌, ◌<◌, ◌≤◌, List, [], ◌∷◌, ◌++◌, length, drop, Some, true, false}
use Rattle.std.proofs.Common.{refl}
use Rattle.std.proofs.Common.{sym, ap, ◌∙◌, arith, append_assoc, codes, decimal}
use Rattle.std.specs.Prelude.{slice_get}
use Rattle.std.specs.List.{list_all}
use Rattle.std.proofs.lemmas.Bool.{and_parts, false≢true}
use Rattle.std.proofs.lemmas.Fmt.{decimal_injective}
use Rattle.task_names.specs.TaskNames.{name_at}
use Rattle.line_instance.specs.Line.{Line, tasks, time}
use Rattle.line_rules.specs.Balance.{seat}
use Rattle.line_drawing.specs.Parts.{text_of}
use Rattle.line_rules.specs.Accepted.{upper_cycle}
use Rattle.line_rules.specs.declared.types.LineKind.{LineKind}
use Rattle.line_rules.specs.declared.types.Seatplace.{Seatplace}
use Rattle.line_rules.specs.declared.types.Balance.{Balance as Assignment}
use Rattle.line_rules.specs.declared.types.Ask.{Ask}
use Rattle.line_rules.specs.declared.types.Claim.{Claim}
use Rattle.line_rules.specs.declared.types.Claim.TheVariants.{TooLong, Bounds}
use Rattle.line_rules.specs.declared.types.Certificate.{Certificate}
use Rattle.named_drawing.specs.declared.page.Page.{Page}
use Rattle.named_drawing.specs.Escapes.{escaped}
use Rattle.named_drawing.specs.Page.{entry_x, entry_y, filled_columns, page_of}
use Rattle.named_drawing.specs.TaskList.{entries_from, entries_text, entry_of, headings_from, number_parts, start_parts}
use Rattle.named_drawing.specs.TaskList.{station_parts, time_parts}
use Rattle.named_drawing.specs.NamedDrawing.{above_text, end_text, named_claim, named_picture, rows_from}
use Rattle.named_drawing.specs.NamedFacts.{HasList, ListsEachTask, ListsOfClaim}
use Rattle.named_drawing.proofs.XmlTexts.{is_digit, number_digits}
use Rattle.named_drawing.proofs.XmlPieces.{Shape, flat, shape_flat}
use Rattle.named_drawing.proofs.XmlPieces.Shape.{Single, Several, Joined}

module _ (line : Line) (p : Page) (names : List (List ℕ)) (places : List Seatplace) where
  length-entries : (n k : ℕ) → length (entries_from line p names places k n) ≡ n
  length-entries zero k = refl
  length-entries (suc n) k = omega (arith, length-entries n (suc k))

  entry_at : (n k i : ℕ) → i < n → slice_get (entries_from line p names places k n) i
      ≡ Some (entry_of line p names places (k + i))
  entry_at zero k i l = absurd (omega arith)
  entry_at (suc n) k zero l =
      let same : k ≡ k + 0 = omega arith in
      ap (λ j. Some (entry_of line p names places j)) same
  entry_at (suc n) k (suc i) l =
      let same : suc k + i ≡ k + suc i = omega arith in
      entry_at n (suc k) i (omega (arith, l)) ∙ ap (λ j. Some (entry_of line p names places j)) same

-- digits end where something else stands
same_digits : (a b r s : List ℕ) (q : ℕ) → is_digit q ≡ false → list_all is_digit a ≡ true → list_all is_digit b ≡ true
    → a ++ (q ∷ r) ≡ b ++ (q ∷ s)
    → (a ≡ b) × (r ≡ s)
same_digits [] [] r s q other x y e = (refl, (cc e))
same_digits [] (d ∷ b) r s q other x y e =
    let same : q ≡ d = cc e in
    absurd (false≢true (sym other ∙ ap is_digit same ∙ (and_parts (is_digit d) (list_all is_digit b) y).0))
same_digits (c ∷ a) [] r s q other x y e =
    let same : c ≡ q = cc e in
    absurd (false≢true (sym other ∙ ap is_digit (sym same) ∙ (and_parts (is_digit c) (list_all is_digit a) x).0))
same_digits (c ∷ a) (d ∷ b) r s q other x y e =
    let first : c ≡ d = cc e in
    let rest : a ++ (q ∷ r) ≡ b ++ (q ∷ s) = cc e in
    let h = same_digits a b r s q other (and_parts (is_digit c) (list_all is_digit a) x).1
    (and_parts (is_digit d) (list_all is_digit b) y).1 rest in
    (ap (λ t. t ∷ a) first ∙ ap (λ t. d ∷ t) h.0, h.1)

-- a number in front of something else
same_number : (m n q : ℕ) (r s : List ℕ) → is_digit q ≡ false → decimal m ++ (q ∷ r) ≡ decimal n ++ (q ∷ s)
    → (decimal m ≡ decimal n) × (r ≡ s)
same_number m n q r s other e = same_digits (decimal m) (decimal n) r s q other (number_digits m) (number_digits n) e

-- entries of different tasks differ: by their numbers
module _ (line : Line) (p : Page) (names : List (List ℕ)) (places : List Seatplace) where
  abbrev shape : ℕ → Shape
  shape i = Joined
      (Joined
      (Joined
      (Joined (Several (number_parts p i)) (Several (start_parts p i)))
      (Single (escaped (name_at names i))))
      (Several (time_parts p i (time line i))))
      (Several (station_parts p i (seat places i).station))

  once : (i j : ℕ) → i < 1024 → j < 1024 → entry_of line p names places i ≡ entry_of line p names places j → i ≡ j
  once i j l m e =
      let flat_same : text_of (flat (shape i)) ≡ text_of (flat (shape j)) =
      sym (shape_flat (shape i)) ∙ e ∙ shape_flat (shape j) in
      let x = same_number (entry_x p i + 32) (entry_x p j + 32) 34 _ _ refl (ap (drop 9) flat_same) in
      let y = same_number (entry_y p i) (entry_y p j) 34 _ _ refl (ap (drop 4) x.1) in
      let number = same_number (i + 1) (j + 1) 60 _ _ refl (ap (drop 21) y.1) in
      omega (
        arith,
        decimal_injective (i + 1) (j + 1) (omega (arith, l)) (omega (arith, m)) number.0,
      )

regroup : (a g e z : List ℕ) → a ++ (g ++ e ++ z) ≡ (a ++ g) ++ e ++ z
regroup a g e z = sym (append_assoc a (g ++ e) z) ∙ ap (λ t. t ++ z) (sym (append_assoc a g e))

picture_lists : (line : Line) → tasks line ≤ 1024
    → (p : Page) (names : List (List ℕ)) (a : Ask) (lower upper : ℕ) (b : Assignment)
    → HasList line names b.place (named_picture line p names a lower upper b)
picture_lists line small p names a lower upper b =
    let above : List ℕ = above_text p a lower upper ++ rows_from line p.figures names b.place 1 b.stations
    ++ end_text p.figures in
    let heads : List ℕ = codes "<g text-anchor=\"end\">\n" ++ headings_from p 0 (filled_columns p (tasks line)) in
    record {
      page = p;
      before = above ++ heads;
      entries = entries_from line p names b.place 0 (tasks line);
      behind = codes "</g>\n</svg>\n";
      whole = regroup above heads (entries_text line p names b.place) (codes "</g>\n</svg>\n");
      many = length-entries line p names b.place (tasks line) 0;
      each = λ i l.
          let same : 0 + i ≡ i = omega arith in
          entry_at line p names b.place (tasks line) 0 i l
          ∙ ap (λ j. Some (entry_of line p names b.place j)) same;
      once = λ i j l m e. once line p names b.place i j (omega (arith, l, small)) (omega (arith, m, small)) e;
    }

claim_lists : (line : Line) → tasks line ≤ 1024 → (names : List (List ℕ)) (kind : LineKind) (a : Ask) (claim : Claim)
    → ListsOfClaim line names claim (named_claim line names kind a claim)
claim_lists line small names kind a (TooLong task) = tt
claim_lists line small names kind a (Bounds lower upper b es trail) = picture_lists line small
    (page_of line kind (upper_cycle a upper) names b) names a lower upper b

pub drawing_lists : (line : Line) → tasks line ≤ 1024 → (names : List (List ℕ)) (cert : Certificate)
    → ListsEachTask line names cert
drawing_lists line small names cert = claim_lists line small names cert.kind cert.ask cert.claim
