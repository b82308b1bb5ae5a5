-- The parts of a text of version 1, and that each part's lines say one value at most.
use Rattle.std.proofs.Common.{◌≡◌, ◌≢◌, ℕ, zero, suc, ◌≤◌, List, [], ◌∷◌, ◌++◌, length, map, refl, sym, ap, subst}
use Rattle.std.proofs.Common.{arith, Some, Ok, ◌⊎◌, inl, inr, lit≤, lit<, false}
use Rattle.std.specs.Prelude.{codes, slice_get}
use Rattle.std.proofs.lemmas.Option.{none-some}
use Rattle.std.proofs.lemmas.List.{append-nil}
use Rattle.line_rules.specs.Ranges.{IsCycle, IsEntry, IsFrame}
use Rattle.line_rules.specs.declared.types.Entry.{Entry}
use Rattle.line_rules.specs.declared.types.OpenFrame.{OpenFrame}
use Rattle.cert_lines.specs.Rows.{keyed}
use Rattle.cert_lines.specs.ValueRows.{frame_row}
use Rattle.cert_lines.specs.Faults.{Grammar}
use Rattle.cert_lines.specs.Pattern.{AreSaid, each, then_, IsRead}
use Rattle.cert_lines.specs.LineForms.{IsSaid, given_row}
use Rattle.entry_lists.specs.OldRanges.{IsPart, AreParts}
use Rattle.entry_lists.specs.declared.version_one.Part.{Part}
use Rattle.cert_text.specs.OldCert.{part_rows, parts_rows}
use Rattle.cert_text.specs.inner.OldParts.{AreFrames, old_trails, room_of, room_left, one_part, so_many, counted}
use Rattle.cert_lines.proofs.JudgedEntry.{some_entry}
use Rattle.cert_lines.specs.declared.fault.ReadError.{ReadError}
use Rattle.cert_text.proofs.PartErrors.{Fails, first, second, same}
use Rattle.cert_text.proofs.PartSequences.{Unique, unique_each, unique_then, Same, same_read, both_read}
use Rattle.cert_text.proofs.CertificateParts.{numbers, some_copies, unique_number, unique_same, frames_of, unique_given}
use Rattle.cert_text.proofs.CertificateParts.{same_frame}
use Rattle.cert_text.proofs.PairFacts.{may_have, may_stand}

-- frames behind their number
abbrev pub trail_numbers : ℕ → Grammar ℕ
trail_numbers room = numbers (codes "trail") 0 room

abbrev pub old_trail_parts : ℕ → ℕ → ℕ → Grammar (ℕ × List OpenFrame)
old_trail_parts n count room = then_ (trail_numbers room) (frames_of n count)

pub unique_trail_number : (room : ℕ) → room ≤ 1024 → Unique (trail_numbers room)
unique_trail_number room l = unique_number (codes "trail") 0 room refl (omega arith)

pub same_old_trails : (n count room : ℕ) → Same (old_trail_parts n count room) (old_trails n count room)
same_old_trails n count room = record {
  to = λ v. v.1;
  from = λ fs. (length fs, fs);
  to_ranged = λ v r. record { few = omega (arith, r.1.many, r.0.1); each = r.1.each };
  from_ranged = λ fs r. ((omega arith, r.few), record { many = refl; each = r.each });
  to_rows = λ v r. ap (λ k. keyed (codes "trail") k ∷ map (frame_row n) v.1) r.1.many;
  from_rows = λ fs r. refl;
}

pub old_trail_read : (n count room k : ℕ) (fs : List OpenFrame) (passed after : ℕ) (text rest : List ℕ)
    → IsRead (old_trail_parts n count room) passed text rest after (Ok (k, fs))
    → IsRead (old_trails n count room) passed text rest after (Ok fs)
unfolding same_old_trails
old_trail_read n count room k fs passed after text rest h =
    same_read (old_trail_parts n count room) (old_trails n count room) passed after text rest (k, fs)
    (same_old_trails n count room) h

pub old_trail_said : (n count room k : ℕ) (fs : List OpenFrame) → k ≤ room → AreSaid (IsFrame n count) k fs
    → AreFrames n count room fs
old_trail_said n count room k fs l a = record { few = omega (arith, a.many); each = a.each }

pub unique_old_trails : (n count room : ℕ) → n ≤ 1024 → count ≤ 10000000 → room ≤ 1024
    → Unique (old_trails n count room)
unfolding same_old_trails
unique_old_trails n count room a b l = unique_same (old_trail_parts n count room) (old_trails n count room)
    (same_old_trails n count room)
    (unique_then (trail_numbers room) (frames_of n count) (unique_trail_number room l)
    (λ k r. unique_each (frame_row n) (IsFrame n count) k (same_frame n count a (omega arith))))
    (λ fs r. refl)

-- a part
abbrev pub part_cycles : Grammar ℕ
part_cycles = numbers (codes "part") 1 1000000000000000000

abbrev pub part_counts : Grammar ℕ
part_counts = numbers (codes "entries") 0 10000000

abbrev pub short_entries : ℕ → ℕ → ℕ → Grammar (List Entry)
short_entries n c count = each (given_row n (Some c)) (IsSaid n count (Some c) false) count

abbrev pub part_rest : ℕ → ℕ → ℕ → ℕ → Grammar (List Entry × List OpenFrame)
part_rest n room c count = then_ (short_entries n c count) (λ es. old_trails n count room)

abbrev pub part_behind : ℕ → ℕ → ℕ → Grammar (ℕ × (List Entry × List OpenFrame))
part_behind n room c = then_ part_counts (part_rest n room c)

abbrev pub part_parts : ℕ → ℕ → Grammar (ℕ × (ℕ × (List Entry × List OpenFrame)))
part_parts n room = then_ part_cycles (part_behind n room)

pub unique_part_cycle : Unique part_cycles
unique_part_cycle = unique_number (codes "part") 1 1000000000000000000 refl (lit< tt)

pub unique_part_count : Unique part_counts
unique_part_count = unique_number (codes "entries") 0 10000000 refl (lit< tt)

pub cycle_is : (c : ℕ) → 1 ≤ c → c ≤ 1000000000000000000 → IsCycle c
cycle_is c a b = record { some = a; limit = b }

pub few_entries : (k : ℕ) → k ≤ 10000000 → k ≤ 20000000
few_entries k h = omega arith

pub no_frames : (n count room : ℕ) → AreFrames n count room []
no_frames n count room = record { few = omega arith; each = λ k f q. absurd (none-some f q) }

pub some_part_rest : (n room c count : ℕ) → IsCycle c → (b : List Entry × List OpenFrame)
    × (part_rest n room c count).ranged b
some_part_rest n room c count h =
    let e = some_entry n count (Some c) false h in
    let es = some_copies (IsSaid n count (Some c) false) count e.0 e.1 in
    ((es.0, []), (es.1, no_frames n count room))

pub some_part_behind : (n room c : ℕ) → IsCycle c → (b : ℕ × (List Entry × List OpenFrame))
    × (part_behind n room c).ranged b
some_part_behind n room c h = let r = some_part_rest n room c 0 h in ((0, r.0), ((lit≤ tt, lit≤ tt), r.1))

pub part_said : (n room c count : ℕ) (es : List Entry) (fs : List OpenFrame) → room ≤ 1024 → IsCycle c
    → count ≤ 10000000 → AreSaid (IsSaid n count (Some c) false) count es → AreFrames n count room fs
    → IsPart n (record { cycle = c; entries = es; frames = fs }) × (length fs ≤ room)
part_said n room c count es fs l h k a b =
    let P : ℕ → Type 0 = λ m. (j : ℕ) (e : Entry) → slice_get es j ≡ Some e → IsEntry n m e × (e.cycle ≡ c) in
    let Q : ℕ → Type 0 = λ m. (j : ℕ) (f : OpenFrame) → slice_get fs j ≡ Some f → IsFrame n m f in (
      record {
        cycle = h;
        many = omega (arith, a.many);
        each = subst P (sym a.many) (λ j e q. ((a.each j e q).0, (a.each j e q).1));
        plain = may_have false es (λ j e q. (a.each j e q).2);
        few = omega (arith, b.few);
        frames = subst Q (sym a.many) b.each;
      },
      b.few,
    )

pub same_part : (n room : ℕ) → room ≤ 1024 → Same (part_parts n room) (one_part n room)
same_part n room l = record {
  to = λ v. record { cycle = v.0; entries = v.1.1.0; frames = v.1.1.1 };
  from = λ p. (p.cycle, (length p.entries, (p.entries, p.frames)));
  to_ranged = λ v r. part_said n room v.0 v.1.0 v.1.1.0 v.1.1.1 l (record { some = r.0.0; limit = r.0.1 }) r.1.0.1
      r.1.1.0 r.1.1.1;
  from_ranged = λ p r. (
    (r.0.cycle.some, r.0.cycle.limit),
    (
      (omega arith, r.0.many),
      (
        record {
          many = refl;
          each = λ k e q. ((r.0.each k e q).0, (r.0.each k e q).1, may_stand false p.entries r.0.plain k e q);
        },
        record { few = r.1; each = r.0.frames },
      ),
    ),
  );
  to_rows = λ v r. ap (λ k. keyed (codes "part") v.0 ∷ keyed (codes "entries")
      k ∷ (map (given_row n (Some v.0)) v.1.1.0 ++ (old_trails n 0 0).rows v.1.1.1)) r.1.1.0.many;
  from_rows = λ p r. refl;
}

pub part_read : (n room c count : ℕ) (es : List Entry) (fs : List OpenFrame) (passed after : ℕ) (text rest : List ℕ)
    → room ≤ 1024 → IsRead (part_parts n room) passed text rest after (Ok (c, (count, (es, fs))))
    → IsRead (one_part n room) passed text rest after (Ok (record { cycle = c; entries = es; frames = fs }))
unfolding same_part
part_read n room c count es fs passed after text rest l h =
    same_read (part_parts n room) (one_part n room) passed after text rest (c, (count, (es, fs))) (same_part n room l) h

pub unique_part : (n room : ℕ) → n ≤ 1024 → room ≤ 1024 → Unique (one_part n room)
unfolding same_part
unique_part n room a l = unique_same (part_parts n room) (one_part n room) (same_part n room l)
    (unique_then part_cycles (part_behind n room) unique_part_cycle
    (λ c h. unique_then part_counts (part_rest n room c) unique_part_count
    (λ k r. unique_then (short_entries n c k) (λ es. old_trails n k room)
    (unique_given n k (Some c) false a (omega (arith, r.1))) (λ es s. unique_old_trails n k room a r.1 l))))
    (λ p r. refl)

-- one part
abbrev no_part : Part
no_part = record { cycle = 0; entries = []; frames = [] }

abbrev first_of : List Part → Part
first_of [] = no_part
first_of (p ∷ ps) = p

pub same_single : (n : ℕ) → Same (one_part n 1024) (so_many n 1)
same_single n = record {
  to = λ p. p ∷ [];
  from = first_of;
  to_ranged = λ p r. (r.0, refl);
  from_ranged = from_range;
  to_rows = λ p r. append-nil (part_rows n p);
  from_rows = from_row;
}
  where
    from_range : (ps : List Part) → AreParts n ps × (length ps ≡ 1)
        → IsPart n (first_of ps) × (length (first_of ps).frames ≤ 1024)
    from_range [] r = absurd (omega (arith, r.1))
    from_range (p ∷ []) r = (r.0, r.0.few)
    from_range (p ∷ q ∷ ps) r = absurd (omega (arith, r.1))

    from_row : (ps : List Part) → AreParts n ps × (length ps ≡ 1) → part_rows n (first_of ps) ≡ parts_rows n ps
    from_row [] r = absurd (omega (arith, r.1))
    from_row (p ∷ []) r = sym (append-nil (part_rows n p))
    from_row (p ∷ q ∷ ps) r = absurd (omega (arith, r.1))

-- two parts, of which at most one has frames
abbrev pub pair_parts : ℕ → Grammar (Part × Part)
pair_parts n = then_ (one_part n 1024) (λ p. one_part n (room_left p))

abbrev second_of : List Part → Part
second_of [] = no_part
second_of (p ∷ ps) = first_of ps

one_trail : (fs gs : List OpenFrame) → length gs ≤ room_of fs → (fs ≡ []) ⊎ (gs ≡ [])
one_trail [] gs l = inl refl
one_trail (f ∷ fs) [] l = inr refl
one_trail (f ∷ fs) (g ∷ gs) l = absurd (omega arith)

room_there : (fs gs : List OpenFrame) → (fs ≡ []) ⊎ (gs ≡ []) → length gs ≤ 1024 → length gs ≤ room_of fs
room_there [] gs h l = l
room_there (f ∷ fs) [] h l = omega arith
room_there (f ∷ fs) (g ∷ gs) (inl e) l = (cc)
room_there (f ∷ fs) (g ∷ gs) (inr e) l = (cc)

pub room_few : (fs : List OpenFrame) → room_of fs ≤ 1024
room_few [] = lit≤ tt
room_few (f ∷ fs) = lit≤ tt

pub pair_said : (n : ℕ) (p q : Part) → IsPart n p → IsPart n q × (length q.frames ≤ room_left p)
    → AreParts n (p ∷ q ∷ [])
pair_said n p q a b = ((a, b.0), one_trail p.frames q.frames b.1)

pub same_pair : (n : ℕ) → Same (pair_parts n) (so_many n 2)
same_pair n = record {
  to = λ v. v.0 ∷ v.1 ∷ [];
  from = λ ps. (first_of ps, second_of ps);
  to_ranged = λ v r. (pair_said n v.0 v.1 r.0.0 r.1, refl);
  from_ranged = from_range;
  to_rows = λ v r. ap (λ z. part_rows n v.0 ++ z) (append-nil (part_rows n v.1));
  from_rows = from_row;
}
  where
    from_range : (ps : List Part) → AreParts n ps × (length ps ≡ 2) → (pair_parts n).ranged (first_of ps, second_of ps)
    from_range [] r = absurd (omega (arith, r.1))
    from_range (p ∷ []) r = absurd (omega (arith, r.1))
    from_range (p ∷ q ∷ []) r = ((r.0.0.0, r.0.0.0.few), (r.0.0.1, room_there p.frames q.frames r.0.1 r.0.0.1.few))
    from_range (p ∷ q ∷ s ∷ ps) r = absurd r.0

    from_row : (ps : List Part) → AreParts n ps × (length ps ≡ 2)
        → (pair_parts n).rows (first_of ps, second_of ps) ≡ parts_rows n ps
    from_row [] r = absurd (omega (arith, r.1))
    from_row (p ∷ []) r = absurd (omega (arith, r.1))
    from_row (p ∷ q ∷ []) r = ap (λ z. part_rows n p ++ z) (sym (append-nil (part_rows n q)))
    from_row (p ∷ q ∷ s ∷ ps) r = absurd r.0

-- some part with room for so many frames
pub some_part : (n room : ℕ) → room ≤ 1024 → (p : Part) × (one_part n room).ranged p
some_part n room l =
    let c : IsCycle 1 = record { some = lit≤ tt; limit = lit≤ tt } in (
      record { cycle = 1; entries = []; frames = [] },
      part_said n room 1 0 [] [] l c (lit≤ tt)
          (record { many = refl; each = λ k e q. absurd (none-some e q) }) (no_frames n 0 room),
    )

pub unique_so_many : (n k : ℕ) → n ≤ 1024 → k ≤ 2 → Unique (so_many n k)
unfolding same_single same_pair
unique_so_many n zero a l [] [] r s x y e = (refl, e)
unique_so_many n zero a l (p ∷ ps) w r s x y e = absurd (omega (arith, r.1))
unique_so_many n zero a l [] (p ∷ ps) r s x y e = absurd (omega (arith, s.1))
unique_so_many n (suc zero) a l v w r s x y e = unique_same (one_part n 1024) (so_many n 1) (same_single n)
    (unique_part n 1024 a (lit≤ tt)) back v w r s x y e
  where
    back : (ps : List Part) → AreParts n ps × (length ps ≡ 1) → first_of ps ∷ [] ≡ ps
    back [] r = absurd (omega (arith, r.1))
    back (p ∷ []) r = refl
    back (p ∷ q ∷ ps) r = absurd (omega (arith, r.1))
unique_so_many n (suc (suc zero)) a l v w r s x y e =
    unique_same (pair_parts n) (so_many n 2) (same_pair n) (unique_then (one_part n 1024)
    (λ p. one_part n (room_left p)) (unique_part n 1024 a (lit≤ tt))
    (λ p h. unique_part n (room_left p) a (room_few p.frames))) back v w r s x y e
  where
    back : (ps : List Part) → AreParts n ps × (length ps ≡ 2) → first_of ps ∷ second_of ps ∷ [] ≡ ps
    back [] r = absurd (omega (arith, r.1))
    back (p ∷ []) r = absurd (omega (arith, r.1))
    back (p ∷ q ∷ []) r = refl
    back (p ∷ q ∷ s ∷ ps) r = absurd r.0
unique_so_many n (suc (suc (suc k))) a l v w r s x y e = absurd (omega arith)

-- parts behind their number
abbrev pub part_numbers : Grammar ℕ
part_numbers = numbers (codes "parts") 0 2

abbrev pub counted_parts : ℕ → Grammar (ℕ × List Part)
counted_parts n = then_ part_numbers (so_many n)

pub unique_part_number : Unique part_numbers
unique_part_number = unique_number (codes "parts") 0 2 refl (lit< tt)

two_parts : (n : ℕ) (ps : List Part) → AreParts n ps → length ps ≤ 2
two_parts n [] h = lit≤ tt
two_parts n (p ∷ []) h = lit≤ tt
two_parts n (p ∷ q ∷ []) h = lit≤ tt
two_parts n (p ∷ q ∷ s ∷ ps) h = absurd h

pub same_counted : (n : ℕ) → Same (counted_parts n) (counted n)
same_counted n = record {
  to = λ v. v.1;
  from = λ ps. (length ps, ps);
  to_ranged = λ v r. r.1.0;
  from_ranged = λ ps r. ((omega arith, two_parts n ps r), (r, refl));
  to_rows = λ v r. ap (λ k. keyed (codes "parts") k ∷ parts_rows n v.1) r.1.1;
  from_rows = λ ps r. refl;
}

pub some_so_many : (n k : ℕ) → k ≤ 2 → (ps : List Part) × (so_many n k).ranged ps
some_so_many n zero l = ([], (tt, refl))
some_so_many n (suc zero) l = let p = some_part n 1024 (lit≤ tt) in (p.0 ∷ [], (p.1.0, refl))
some_so_many n (suc (suc zero)) l = let p = some_part n 0 (lit≤ tt) in
    (p.0 ∷ p.0 ∷ [], (((p.1.0, p.1.0), one_trail p.0.frames p.0.frames (omega (arith, p.1.1))), refl))
some_so_many n (suc (suc (suc k))) l = absurd (omega arith)

pub unique_counted : (n : ℕ) → n ≤ 1024 → Unique (counted n)
unfolding same_counted
unique_counted n a = unique_same (counted_parts n) (counted n) (same_counted n)
    (unique_then part_numbers (so_many n) unique_part_number (λ k r. unique_so_many n k a r.1)) (λ ps r. refl)

-- parts behind their number, as they are read
parts_read : (n k : ℕ) (ps qs : List Part) (passed middle after : ℕ) (text left rest : List ℕ) → qs ≡ ps
    → IsRead part_numbers passed text left middle (Ok k)
    → IsRead (so_many n k) middle left rest after (Ok ps) → IsRead (counted n) passed text rest after (Ok qs)
unfolding same_counted
parts_read n k ps qs passed middle after text left rest e x y =
    let Q : List Part → Type 0 = λ z. IsRead (counted n) passed text rest after (Ok z) in
    subst Q (sym e) (same_read (counted_parts n) (counted n) passed after text rest (k, ps) (same_counted n)
    (both_read part_numbers (so_many n) k ps passed middle after text left rest x y))

pub none_read : (n k : ℕ) (qs : List Part) (passed after : ℕ) (text rest : List ℕ) → qs ≡ [] → k ≡ 0
    → IsRead part_numbers passed text rest after (Ok k) → IsRead (counted n) passed text rest after (Ok qs)
none_read n k qs passed after text rest e f x =
    let P : ℕ → Type 0 = λ z. IsRead (so_many n z) after rest rest after (Ok []) in
    parts_read n k [] qs passed after after text rest rest e x (subst P (sym f) ((tt, refl), refl, omega arith))

pub single_read : (n k : ℕ) (p : Part) (qs : List Part) (passed middle after : ℕ) (text left rest : List ℕ)
    → qs ≡ p ∷ [] → k ≡ 1 → IsRead part_numbers passed text left middle (Ok k)
    → IsRead (one_part n 1024) middle left rest after (Ok p) → IsRead (counted n) passed text rest after (Ok qs)
unfolding same_single
single_read n k p qs passed middle after text left rest e f x y =
    let P : ℕ → Type 0 = λ z. IsRead (so_many n z) middle left rest after (Ok (p ∷ [])) in
    parts_read n k (p ∷ []) qs passed middle after text left rest e x
    (subst P (sym f) (same_read (one_part n 1024) (so_many n 1) middle after left rest p (same_single n) y))

pub pair_read : (n k room : ℕ) (p q : Part) (qs : List Part) (passed middle third after : ℕ)
    (text left behind rest : List ℕ) → qs ≡ p ∷ q ∷ [] → k ≡ 2 → room ≡ room_left p
    → IsRead part_numbers passed text left middle (Ok k) → IsRead (one_part n 1024) middle left behind third (Ok p)
    → IsRead (one_part n room) third behind rest after (Ok q) → IsRead (counted n) passed text rest after (Ok qs)
unfolding same_pair
pair_read n k room p q qs passed middle third after text left behind rest e f g x y z =
    let P : ℕ → Type 0 = λ z. IsRead (so_many n z) middle left rest after (Ok (p ∷ q ∷ [])) in
    let R : ℕ → Type 0 = λ r. IsRead (one_part n r) third behind rest after (Ok q) in
    parts_read n k (p ∷ q ∷ []) qs passed middle after text left rest e x
    (subst P (sym f) (same_read (pair_parts n) (so_many n 2) middle after left rest (p, q) (same_pair n)
    (both_read (one_part n 1024) (λ p. one_part n (room_left p)) p q middle third after left behind rest y
    (subst R g z))))

-- a fault of the first part, and one of the second
pub first_fails : (n k passed middle : ℕ) (text left : List ℕ) {e : ReadError} → n ≤ 1024 → k ≢ 0 → k ≤ 2
    → IsRead part_numbers passed text left middle (Ok k) → Fails (one_part n 1024) middle left e
    → Fails (counted n) passed text e
first_fails n zero passed middle text left a b l x f = absurd (b refl)
first_fails n (suc zero) passed middle text left a b l x f =
    same (counted_parts n) (counted n) (same_counted n) (second part_numbers (so_many n) 1 passed middle text left
    unique_part_number x (same (one_part n 1024) (so_many n 1) (same_single n) f))
first_fails n (suc (suc zero)) passed middle text left a b l x f =
    same (counted_parts n) (counted n) (same_counted n) (second part_numbers (so_many n) 2 passed middle text left
    unique_part_number x (same (pair_parts n) (so_many n 2) (same_pair n)
    (first (one_part n 1024) (λ p. one_part n (room_left p)) (unique_part n 1024 a (lit≤ tt))
    (λ p r. some_part n (room_left p) (room_few p.frames)) f)))
first_fails n (suc (suc (suc k))) passed middle text left a b l x f = absurd (omega arith)

pub second_fails : (n k room : ℕ) (p : Part) (passed middle third : ℕ) (text left behind : List ℕ) {e : ReadError}
    → n ≤ 1024 → k ≡ 2 → room ≡ room_left p → IsRead part_numbers passed text left middle (Ok k)
    → IsRead (one_part n 1024) middle left behind third (Ok p) → Fails (one_part n room) third behind e
    → Fails (counted n) passed text e
second_fails n k room p passed middle third text left behind {e = e} a f g x y z =
    let K : ℕ → Type 0 = λ j. IsRead part_numbers passed text left middle (Ok j) in
    let R : ℕ → Type 0 = λ r. Fails (one_part n r) third behind e in
    same (counted_parts n) (counted n) (same_counted n) (second part_numbers (so_many n) 2 passed middle text left
    unique_part_number (subst K f x) (same (pair_parts n) (so_many n 2) (same_pair n)
    (second (one_part n 1024) (λ p. one_part n (room_left p)) p middle third left behind
    (unique_part n 1024 a (lit≤ tt)) y (subst R g z))))
