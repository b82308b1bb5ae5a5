-- The parts of a certificate's text, and that each part's lines say one value at most.
use Rattle.std.proofs.Common.{◌≡◌, ℕ, zero, suc, ◌-◌, ◌<◌, ◌≤◌, List, [], ◌∷◌, ◌++◌, Bool, true, false, replicate}
use Rattle.std.proofs.Common.{get_or, length, map, refl, sym, ◌∙◌, ap, subst, arith, Some, None, Option, Ok, lit≤, lit<}
use Rattle.std.specs.Prelude.{codes, slice_get}
use Rattle.std.proofs.lemmas.Option.{same_Some, none-some}
use Rattle.std.proofs.lemmas.List.{ext_get_or, get_or-replicate, length-replicate, nil_from_length}
use Rattle.line_rules.specs.Ranges.{IsCycle, IsAsked, IsPlaced, IsPlacing, AreEntries, IsEntry, IsWhy, IsFrame, IsLast}
use Rattle.line_rules.specs.Ranges.{IsLoadLike, IsTrailOrNone}
use Rattle.cert_lines.specs.Numbers.{IsEmpty}
use Rattle.line_rules.specs.Balance.{IsSide}
use Rattle.line_rules.specs.declared.types.LineKind.{LineKind}
use Rattle.line_rules.specs.declared.types.LineKind.TheVariants.{Straight, U}
use Rattle.line_rules.specs.declared.types.Mode.{Mode}
use Rattle.line_rules.specs.declared.types.Mode.TheVariants.{Fore, Back, Both}
use Rattle.line_rules.specs.declared.types.Load.{Load}
use Rattle.line_rules.specs.declared.types.Side.{Side}
use Rattle.line_rules.specs.declared.types.Side.TheVariants.{Front}
use Rattle.line_rules.specs.declared.types.Seatplace.{Seatplace}
use Rattle.line_rules.specs.declared.types.Balance.{Balance as Assignment}
use Rattle.line_rules.specs.declared.types.Entry.{Entry}
use Rattle.line_rules.specs.declared.types.Why.{Why}
use Rattle.line_rules.specs.declared.types.Why.TheVariants as whys
use Rattle.line_rules.specs.declared.types.OpenFrame.{OpenFrame}
use Rattle.line_rules.specs.declared.types.Trail.{Trail}
use Rattle.line_rules.specs.declared.types.Ask.{Ask}
use Rattle.line_rules.specs.declared.types.Ask.TheVariants as ask
use Rattle.cert_lines.specs.Rows.{keyed, trail, row_text}
use Rattle.cert_lines.specs.ValueRows.{kind_row, ask_row, seat_row, why_row, entry_row, frame_row}
use Rattle.cert_text.specs.Cert.{trail_rows}
use Rattle.cert_lines.specs.Words.{greatest}
use Rattle.cert_lines.specs.inner.LineReading.{keyed_in, seat_in, trail_in, entry_in, frame_in}
use Rattle.cert_lines.specs.Faults.{Grammar}
use Rattle.cert_lines.specs.Pattern.{one, AreSaid, each, then_, IsRead}
use Rattle.cert_lines.specs.LineForms.{IsHead, IsGiven, IsSaid, written, given_row, entry_of, frame_of}
use Rattle.cert_text.specs.Parts.{IsPlacedOf, MayHave, heads, trails, lists, seatings, placings}
use Rattle.cert_text.proofs.PairFacts.{may_have, may_stand}
use Rattle.cert_lines.proofs.NumberWords.{lacks}
use Rattle.cert_lines.proofs.SetText.{clip, clip_same}
use Rattle.cert_lines.proofs.CiteWords.{sat}
use Rattle.cert_lines.proofs.JudgedLine.{fixed_text, small_is, keyed_value, keyed_other}
use Rattle.cert_lines.proofs.JudgedEntry.{small_cites, entry_is, some_frame}
use Rattle.cert_lines.proofs.PlainLines.{keyed_again, trail_again, sat_trail, seat_again, side_read}
use Rattle.cert_lines.proofs.EntryLines.{cycle_of, draft_of, entry_again}
use Rattle.cert_lines.proofs.FrameLines.{load_read, last_read, the_frame, frame_again}
use Rattle.cert_text.proofs.PartSequences.{Unique, unique_one, unique_each, unique_then, texts, Same, same_read}
use Rattle.cert_lines.proofs.JudgedSeat.{small_trail}

-- a number within a range
abbrev pub within : ℕ → ℕ → ℕ → Type 0
within low high v = (low ≤ v) × (v ≤ high)

abbrev pub numbers : List ℕ → ℕ → ℕ → Grammar ℕ
numbers key low high = one (keyed key) (within low high)

-- so many equal values
pub some_copies : {V : Type 0} (ranged : V → Type 0) (k : ℕ) (v : V) → ranged v → (vs : List V) × AreSaid ranged k vs
some_copies {V = V} ranged k v r = (copies k, record { many = copies_length k; each = said k })
  where
    copies : ℕ → List V
    copies zero = []
    copies (suc k) = v ∷ copies k

    copies_length : (k : ℕ) → length (copies k) ≡ k
    copies_length zero = refl
    copies_length (suc k) = omega (arith, copies_length k)

    said : (k j : ℕ) (w : V) → slice_get (copies k) j ≡ Some w → ranged w
    said zero j w q = absurd (none-some w q)
    said (suc k) zero w q = let P : V → Type 0 = ranged in subst P (same_Some v w q) r
    said (suc k) (suc j) w q = said k j w q

-- what is read twice is the same
twice : {D : Type 0} (reads : List ℕ → Option D) (a b : List ℕ) (x y : D) → reads a ≡ Some x → reads b ≡ Some y → a ≡ b
    → x ≡ y
twice reads a b x y p q e = same_Some x y (sym p ∙ ap reads e ∙ q)

pub unique_number : (key : List ℕ) (low high : ℕ) → lacks 32 key ≡ true → high < greatest
    → Unique (numbers key low high)
unique_number key low high l h = unique_one (keyed key) (within low high)
    (λ v w a b e. sym (small_is v (omega (arith, a.1))) ∙ twice (keyed_in key) (row_text (keyed key v))
    (row_text (keyed key w)) (sat v) (sat w) (keyed_again key v l) (keyed_again key w l) e
    ∙ small_is w (omega (arith, b.1)))

abbrev pub kinds : Grammar LineKind
kinds = one kind_row (λ k. Unit {0})

same_kind : (v w : LineKind) → row_text (kind_row v) ≡ row_text (kind_row w) → v ≡ w
same_kind Straight Straight e = refl
same_kind U U e = refl
same_kind Straight U e = (let f : codes "line straight" ≡ codes "line u" =
    sym (fixed_text (codes "line straight")) ∙ e ∙ fixed_text (codes "line u") in (cc))
same_kind U Straight e = (let f : codes "line u" ≡ codes "line straight" =
    sym (fixed_text (codes "line u")) ∙ e ∙ fixed_text (codes "line straight") in (cc))

pub unique_kind : Unique kinds
unique_kind = unique_one kind_row (λ k. Unit {0}) (λ v w a b e. same_kind v w e)

abbrev pub tasks_grammar : Grammar ℕ
tasks_grammar = numbers (codes "tasks") 1 1024

pub unique_tasks : Unique tasks_grammar
unique_tasks = unique_number (codes "tasks") 1 1024 refl (lit< tt)

abbrev pub asks : Grammar Ask
asks = one ask_row IsAsked

abbrev pub tasks_ask : LineKind → Grammar (ℕ × Ask)
tasks_ask k = then_ tasks_grammar (λ n. asks)

abbrev pub head_parts : Grammar (LineKind × (ℕ × Ask))
head_parts = then_ kinds tasks_ask

pub one_cycle : IsCycle 1
one_cycle = record { some = lit≤ tt; limit = lit≤ tt }

pub some_ask : (a : Ask) × IsAsked a
some_ask = (ask.Stations 1, one_cycle)

pub some_tasks_ask : (k : LineKind) → Unit {0} → (b : ℕ × Ask) × (tasks_ask k).ranged b
some_tasks_ask k t = ((1, ask.Stations 1), ((lit≤ tt, lit≤ tt), one_cycle))

pub same_heads : Same head_parts heads
same_heads = record {
  to = λ v. record { kind = v.0; tasks = v.1.0; ask = v.1.1 };
  from = λ h. (h.kind, (h.tasks, h.ask));
  to_ranged = λ v r. record { some = r.1.0.0; few = r.1.0.1; ask = r.1.1 };
  from_ranged = λ h r. (tt, ((r.some, r.few), r.ask));
  to_rows = λ v r. refl;
  from_rows = λ h r. refl;
}

-- heads of trails
abbrev pub trail_heads : Grammar (Option (ℕ × ℕ))
trail_heads = one trail IsHead

pub unique_trail_head : Unique trail_heads
unique_trail_head = unique_one trail IsHead
    (λ v w a b e. sym (small_trail v a) ∙ twice trail_in (row_text (trail v)) (row_text (trail w)) (sat_trail v)
    (sat_trail w) (trail_again v) (trail_again w) e ∙ small_trail w b)

-- how many frames the head of a trail says
abbrev pub frames_said : Option (ℕ × ℕ) → ℕ
frames_said None = 0
frames_said (Some t) = t.0

abbrev pub frames_of : ℕ → ℕ → ℕ → Grammar (List OpenFrame)
frames_of n count k = each (frame_row n) (IsFrame n count) k

abbrev pub trail_parts : ℕ → ℕ → Grammar (Option (ℕ × ℕ) × List OpenFrame)
trail_parts n count = then_ trail_heads (λ h. frames_of n count (frames_said h))

abbrev to_trail : Option (ℕ × ℕ) → List OpenFrame → Option Trail
to_trail None fs = None
to_trail (Some t) fs = Some (record { cycle = t.1; frames = fs })

abbrev from_trail : Option Trail → Option (ℕ × ℕ) × List OpenFrame
from_trail None = (None, [])
from_trail (Some t) = (Some (length t.frames, t.cycle), t.frames)

pub same_trails : (n count : ℕ) → Same (trail_parts n count) (trails n count)
same_trails n count = record {
  to = λ v. to_trail v.0 v.1;
  from = from_trail;
  to_ranged = λ v r. to_range v.0 v.1 r.0 r.1;
  from_ranged = from_range;
  to_rows = λ v r. to_row v.0 v.1 r.1;
  from_rows = λ w r. from_row w;
}
  where
    to_range : (h : Option (ℕ × ℕ)) (fs : List OpenFrame) → IsHead h → AreSaid (IsFrame n count) (frames_said h) fs
        → IsTrailOrNone n count (to_trail h fs)
    to_range None fs a b = tt
    to_range (Some t) fs a b = record {
      cycle = a.2;
      some = omega (arith, a.0, b.many);
      few = omega (arith, a.1, b.many);
      each = b.each;
    }

    from_range : (w : Option Trail) → IsTrailOrNone n count w → (trail_parts n count).ranged (from_trail w)
    from_range None r = (tt, record { many = refl; each = λ k f e. absurd (none-some f e) })
    from_range (Some t) r = ((r.some, r.few, r.cycle), record { many = refl; each = r.each })

    to_row : (h : Option (ℕ × ℕ)) (fs : List OpenFrame) → AreSaid (IsFrame n count) (frames_said h) fs
        → trail_rows n (to_trail h fs) ≡ trail h ∷ map (frame_row n) fs
    to_row None fs b = ap (λ x. trail None ∷ map (frame_row n) x) (sym (nil_from_length fs b.many))
    to_row (Some t) fs b = ap (λ x. trail (Some (x, t.1)) ∷ map (frame_row n) fs) b.many

    from_row : (w : Option Trail) → (trail_parts n count).rows (from_trail w) ≡ trail_rows n w
    from_row None = refl
    from_row (Some t) = refl

-- so many entries
abbrev pub entries_of : ℕ → Bool → ℕ → Grammar (List Entry)
entries_of n p count = each (given_row n None) (IsSaid n count None p) count

abbrev pub entry_rest : ℕ → Bool → ℕ → Grammar (List Entry × Option Trail)
entry_rest n p count = then_ (entries_of n p count) (λ es. trails n count)

abbrev pub list_parts : ℕ → Bool → Grammar (ℕ × (List Entry × Option Trail))
list_parts n p = then_ (numbers (codes "entries") 0 20000000) (entry_rest n p)

pub unique_count : Unique (numbers (codes "entries") 0 20000000)
unique_count = unique_number (codes "entries") 0 20000000 refl (lit< tt)

pub some_rest : (n : ℕ) (p : Bool) (count : ℕ) → ((e : Entry) × IsSaid n count None p e)
    → (b : List Entry × Option Trail) × (entry_rest n p count).ranged b
some_rest n p count s = let es = some_copies (IsSaid n count None p) count s.0 s.1 in ((es.0, None), (es.1, tt))

pub same_lists : (n : ℕ) (p : Bool) → Same (list_parts n p) (lists n p)
same_lists n p = record {
  to = λ v. record { entries = v.1.0; trail = v.1.1 };
  from = λ x. (length x.entries, (x.entries, x.trail));
  to_ranged = λ v r. to_range v.0 v.1.0 v.1.1 r.0.1 r.1.0 r.1.1;
  from_ranged = λ x r. (
    (omega arith, r.0.many),
    (record { many = refl; each = λ k e q. (r.0.each k e q, tt, may_stand p x.entries r.2 k e q) }, r.1),
  );
  to_rows = λ v r. ap (λ k. keyed (codes "entries") k ∷ (map (entry_row n) v.1.0 ++ trail_rows n v.1.1)) r.1.0.many;
  from_rows = λ x r. refl;
}
  where
    to_range : (count : ℕ) (es : List Entry) (t : Option Trail) → count ≤ 20000000
        → AreSaid (IsSaid n count None p) count es → IsTrailOrNone n count t
        → AreEntries n es × IsTrailOrNone n (length es) t × MayHave p es
    to_range count es t a b c =
        let P : ℕ → Type 0 = λ k. AreEntries n es × IsTrailOrNone n k t × MayHave p es in
        let Q : ℕ → Type 0 = λ k. (j : ℕ) (e : Entry) → slice_get es j ≡ Some e → IsEntry n k e in
        subst P (sym b.many) (
          record {
            many = omega (arith, b.many);
            each = subst Q (sym b.many) (λ j e q. (b.each j e q).0);
          },
          c,
          may_have p es (λ j e q. (b.each j e q).2),
        )

pub some_frames : (n count k : ℕ) → (fs : List OpenFrame) × AreSaid (IsFrame n count) k fs
some_frames n count k = let f = some_frame n count in some_copies (IsFrame n count) k f.0 f.1

pub trail_said : (n count : ℕ) (t : ℕ × ℕ) (fs : List OpenFrame) → IsHead (Some t) → AreSaid (IsFrame n count) t.0 fs
    → IsTrailOrNone n count (Some (record { cycle = t.1; frames = fs }))
trail_said n count t fs a b = record {
  cycle = a.2;
  some = omega (arith, a.0, b.many);
  few = omega (arith, a.1, b.many);
  each = b.each;
}

pub list_said : (n : ℕ) (p : Bool) (count : ℕ) (es : List Entry) (t : Option Trail) → count ≤ 20000000
    → AreSaid (IsSaid n count None p) count es → IsTrailOrNone n count t
    → AreEntries n es × IsTrailOrNone n (length es) t × MayHave p es
unfolding same_lists
list_said n p count es t a b c = (same_lists n p).to_ranged (count, (es, t)) ((omega arith, a), (b, c))

-- an entry, whose cycle may be given, is read as it was
said_back : (n count : ℕ) (g : Option ℕ) (p : Bool) (e : Entry) (w : Why) → n ≤ 1024 → count ≤ 20000000
    → IsSaid n count g p e → IsWhy n count w
    → entry_of (draft_of g (why_row n (written g e.cycle) e w))
    ≡ record { set = e.set; most = e.most; cycle = e.cycle; why = w }
said_back n count g p e w a b h k =
    parts w k
  where
    the : List Bool → ℕ → ℕ → Why → Entry
    the s m c w = record { set = s; most = m; cycle = c; why = w }

    cycle_back : (g : Option ℕ) → IsGiven g e.cycle → cycle_of g (written g e.cycle) ≡ e.cycle
    cycle_back None q = small_is e.cycle (omega (arith, h.0.cycle.limit))
    cycle_back (Some c) q = sym q

    up_to : (v w : Why) → v ≡ w → the (clip n e.set) (sat e.most) (cycle_of g (written g e.cycle)) v
        ≡ the e.set e.most e.cycle w
    up_to v w q =
        ap (λ z. the z (sat e.most) (cycle_of g (written g e.cycle)) v) (clip_same n e.set a h.0.set)
        ∙ ap (λ z. the e.set z (cycle_of g (written g e.cycle)) v) (small_is e.most (omega (arith, h.0.most)))
        ∙ ap (λ z. the e.set e.most z v) (cycle_back g h.1) ∙ ap (λ z. the e.set e.most e.cycle z) q

    parts : (w : Why) → IsWhy n count w → entry_of (draft_of g (why_row n (written g e.cycle) e w))
        ≡ the e.set e.most e.cycle w
    parts whys.Bound k = up_to whys.Bound whys.Bound refl
    parts (whys.Branch mode cites) k = up_to (whys.Branch mode (map sat cites)) (whys.Branch mode cites)
        (ap (whys.Branch mode) (small_cites count cites (omega arith) k))
    parts (whys.Swap cite out into) k =
        up_to (whys.Swap (sat cite) (sat (suc out) - 1) (sat (suc into) - 1)) (whys.Swap cite out into)
        (ap (λ z. whys.Swap z (sat (suc out) - 1) (sat (suc into) - 1)) (small_is cite (omega (arith, k.0)))
        ∙ ap (λ z. whys.Swap cite z (sat (suc into) - 1)) (omega (arith, k.1.0))
        ∙ ap (λ z. whys.Swap cite out z) (omega (arith, k.1.1)))
    parts (whys.Pairs two) k = up_to (whys.Pairs (clip n two)) (whys.Pairs two)
        (ap (λ z. whys.Pairs z) (clip_same n two a k))

pub unique_given : (n count : ℕ) (g : Option ℕ) (p : Bool) → n ≤ 1024 → count ≤ 20000000
    → Unique (each (given_row n g) (IsSaid n count g p) count)
unique_given n count g p a b = unique_each (given_row n g) (IsSaid n count g p) count
    (λ v w q r e.
    sym (said_back n count g p v v.why a b q q.0.why)
    ∙ ap entry_of (twice (entry_in n g p) (row_text (given_row n g v)) (row_text (given_row n g w))
    (draft_of g (given_row n g v)) (draft_of g (given_row n g w))
    (entry_again n g p (given_row n g v) (entry_is n g p v v.why q.2))
    (entry_again n g p (given_row n g w) (entry_is n g p w w.why r.2)) e)
    ∙ said_back n count g p w w.why a b r r.0.why)

pub list_read : (n : ℕ) (p : Bool) (count : ℕ) (es : List Entry) (t : Option Trail) (passed after : ℕ)
    (text rest : List ℕ) → IsRead (list_parts n p) passed text rest after (Ok (count, (es, t)))
    → IsRead (lists n p) passed text rest after (Ok (record { entries = es; trail = t }))
unfolding same_lists
list_read n p count es t passed after text rest h = same_read (list_parts n p) (lists n p) passed after text rest
    (count, (es, t)) (same_lists n p) h

pub trail_read : (n count : ℕ) (t : ℕ × ℕ) (fs : List OpenFrame) (passed after : ℕ) (text rest : List ℕ)
    → IsRead (trail_parts n count) passed text rest after (Ok (Some t, fs))
    → IsRead (trails n count) passed text rest after (Ok (Some (record { cycle = t.1; frames = fs })))
unfolding same_trails
trail_read n count t fs passed after text rest h = same_read (trail_parts n count) (trails n count) passed after text
    rest (Some t, fs) (same_trails n count) h

-- the bounds behind the lower one
abbrev pub uppers : Grammar ℕ
uppers = numbers (codes "upper") 1 1000000000000000000

abbrev pub station_numbers : Grammar ℕ
station_numbers = numbers (codes "balance") 1 1024

abbrev pub seats_of : LineKind → ℕ → ℕ → Grammar (List Seatplace)
seats_of kind n m = each (seat_row kind) (IsPlaced kind m) n

abbrev pub seats_behind : LineKind → ℕ → Grammar (ℕ × List Seatplace)
seats_behind kind n = then_ station_numbers (seats_of kind n)

abbrev pub placing_parts : LineKind → ℕ → Grammar (ℕ × Assignment)
placing_parts kind n = then_ uppers (λ u. seatings kind n)

pub unique_upper : Unique uppers
unique_upper = unique_number (codes "upper") 1 1000000000000000000 refl (lit< tt)

pub unique_stations : Unique station_numbers
unique_stations = unique_number (codes "balance") 1 1024 refl (lit< tt)

pub some_seat : (kind : LineKind) (m : ℕ) → 1 ≤ m → (s : Seatplace) × IsPlaced kind m s
some_seat Straight m h = (record { station = 1; side = Front }, record { first = lit≤ tt; last = h; side = refl })
some_seat U m h = (record { station = 1; side = Front }, record { first = lit≤ tt; last = h; side = tt })

pub some_seats : (kind : LineKind) (n m : ℕ) → within 1 1024 m → (b : List Seatplace) × (seats_of kind n m).ranged b
some_seats kind n m h = let s = some_seat kind m h.0 in some_copies (IsPlaced kind m) n s.0 s.1

pub seating_said : (kind : LineKind) (n m : ℕ) (ps : List Seatplace) → within 1 1024 m → AreSaid (IsPlaced kind m) n ps
    → IsPlacing kind n (record { stations = m; place = ps })
seating_said kind n m ps b c = record { some = b.0; few = b.1; each = c.many; placed = c.each }

pub same_seatings : (kind : LineKind) (n : ℕ) → Same (seats_behind kind n) (seatings kind n)
same_seatings kind n = record {
  to = λ v. record { stations = v.0; place = v.1 };
  from = λ b. (b.stations, b.place);
  to_ranged = λ v r. seating_said kind n v.0 v.1 r.0 r.1;
  from_ranged = λ b r. ((r.some, r.few), record { many = r.each; each = r.placed });
  to_rows = λ v r. refl;
  from_rows = λ b r. refl;
}

pub seating_read : (kind : LineKind) (n m : ℕ) (ps : List Seatplace) (passed after : ℕ) (text rest : List ℕ)
    → IsRead (seats_behind kind n) passed text rest after (Ok (m, ps))
    → IsRead (seatings kind n) passed text rest after (Ok (record { stations = m; place = ps }))
unfolding same_seatings
seating_read kind n m ps passed after text rest h = same_read (seats_behind kind n) (seatings kind n) passed after text
    rest (m, ps) (same_seatings kind n) h

pub some_seating : (kind : LineKind) (n : ℕ) → (b : Assignment) × IsPlacing kind n b
some_seating kind n =
    let s = some_seats kind n 1 (lit≤ tt, lit≤ tt) in
    (record { stations = 1; place = s.0 }, seating_said kind n 1 s.0 (lit≤ tt, lit≤ tt) s.1)

pub placing_said : (kind : LineKind) (n u : ℕ) (b : Assignment) → within 1 1000000000000000000 u → IsPlacing kind n b
    → IsPlacedOf kind n (record { upper = u; balance = b })
placing_said kind n u b a c = record { upper = record { some = a.0; limit = a.1 }; balance = c }

pub same_placings : (kind : LineKind) (n : ℕ) → Same (placing_parts kind n) (placings kind n)
same_placings kind n = record {
  to = λ v. record { upper = v.0; balance = v.1 };
  from = λ p. (p.upper, p.balance);
  to_ranged = λ v r. placing_said kind n v.0 v.1 r.0 r.1;
  from_ranged = λ p r. ((r.upper.some, r.upper.limit), r.balance);
  to_rows = λ v r. refl;
  from_rows = λ p r. refl;
}

pub placing_read : (kind : LineKind) (n u : ℕ) (b : Assignment) (passed after : ℕ) (text rest : List ℕ)
    → IsRead (placing_parts kind n) passed text rest after (Ok (u, b))
    → IsRead (placings kind n) passed text rest after (Ok (record { upper = u; balance = b }))
unfolding same_placings
placing_read kind n u b passed after text rest h = same_read (placing_parts kind n) (placings kind n) passed after text
    rest (u, b) (same_placings kind n) h

-- lines of a whole are those of one value at most, where those of its parts are
pub unique_same : {V W : Type 0} (g : Grammar V) (h : Grammar W) (s : Same g h) → Unique g
    → ((w : W) → h.ranged w → s.to (s.from w) ≡ w) → Unique h
unique_same g h s u back v w a b x y e =
    let f = u (s.from v) (s.from w) (s.from_ranged v a) (s.from_ranged w b) x y
    (ap (λ r. texts r ++ x) (s.from_rows v a) ∙ e ∙ ap (λ r. texts r ++ y) (sym (s.from_rows w b))) in
    (sym (back v a) ∙ ap s.to f.0 ∙ back w b, f.1)

pub unique_heads : Unique heads
unfolding same_heads
unique_heads = unique_same head_parts heads same_heads (unique_then kinds tasks_ask unique_kind
    (λ k t. unique_then tasks_grammar (λ n. asks) unique_tasks (λ n r. unique_asks))) (λ h r. refl)
  where
    same_ask : (v w : Ask) → IsAsked v → IsAsked w → row_text (ask_row v) ≡ row_text (ask_row w) → v ≡ w
    same_ask (ask.Stations a) (ask.Stations b) p q e = ap (λ z. ask.Stations z)
        (keyed_value (codes "cycle") (row_text (keyed (codes "cycle") a)) b a refl (sym e) (omega (arith, q.limit))
        (keyed_again (codes "cycle") a refl ∙ ap (λ z. Some z) (small_is a (omega (arith, p.limit)))))
    same_ask (ask.Cycle a) (ask.Cycle b) p q e = ap (λ z. ask.Cycle z)
        (keyed_value (codes "stations") (row_text (keyed (codes "stations") a)) b a refl (sym e) (omega (arith, q.1))
        (keyed_again (codes "stations") a refl ∙ ap (λ z. Some z) (small_is a (omega (arith, p.1)))))
    same_ask (ask.Stations a) (ask.Cycle b) p q e = (let w : codes "stations" ≡ codes "cycle" =
        keyed_other (codes "stations") (codes "cycle") (row_text (keyed (codes "cycle") a)) b (sat a) refl refl (sym e)
        (keyed_again (codes "cycle") a refl) in (cc))
    same_ask (ask.Cycle a) (ask.Stations b) p q e = (let w : codes "cycle" ≡ codes "stations" =
        keyed_other (codes "cycle") (codes "stations") (row_text (keyed (codes "stations") a)) b (sat a) refl refl
        (sym e) (keyed_again (codes "stations") a refl) in (cc))

    unique_asks : Unique asks
    unique_asks = unique_one ask_row IsAsked same_ask

same_seat : (kind : LineKind) (m : ℕ) → m ≤ 1024 → (v w : Seatplace) → IsPlaced kind m v → IsPlaced kind m w
    → row_text (seat_row kind v) ≡ row_text (seat_row kind w) → v ≡ w
same_seat kind m l v w a b e =
    let f : (sat v.station, side_read kind v.side) ≡ (sat w.station, side_read kind w.side) =
    twice (seat_in kind) (row_text (seat_row kind v)) (row_text (seat_row kind w))
    (sat v.station, side_read kind v.side) (sat w.station, side_read kind w.side) (seat_again kind v.station v.side)
    (seat_again kind w.station w.side) e in
    let n : v.station ≡ w.station = sym (small_is v.station (omega (arith, a.last))) ∙ ap (λ z. z.0) f
    ∙ small_is w.station (omega (arith, b.last)) in
    let s : v.side ≡ w.side = sym (side_same kind v.side a.side) ∙ ap (λ z. z.1) f ∙ side_same kind w.side b.side in
    ap (λ z. record { station = z; side = v.side }) n ∙ ap (λ z. record { station = w.station; side = z }) s
  where
    side_same : (kind : LineKind) (side : Side) → IsSide kind side → side_read kind side ≡ side
    side_same Straight side h = sym h
    side_same U side h = refl

pub unique_seatings : (kind : LineKind) (n : ℕ) → Unique (seatings kind n)
unfolding same_seatings
unique_seatings kind n = unique_same (seats_behind kind n) (seatings kind n) (same_seatings kind n)
    (unique_then station_numbers (seats_of kind n) unique_stations
    (λ m s. unique_each (seat_row kind) (IsPlaced kind m) n (same_seat kind m s.1))) (λ b r. refl)

pub unique_placings : (kind : LineKind) (n : ℕ) → Unique (placings kind n)
unfolding same_placings
unique_placings kind n = unique_same (placing_parts kind n) (placings kind n) (same_placings kind n)
    (unique_then uppers (λ u. seatings kind n) unique_upper (λ u r. unique_seatings kind n)) (λ p r. refl)

-- a set without members
empty_is : (s : List Bool) → length s ≡ 1024 → IsEmpty s → replicate 1024 false ≡ s
empty_is s l h = ext_get_or false (replicate 1024 false) s (length-replicate 1024 false ∙ sym l)
    (λ i k. get_or-replicate 1024 i false false (omega (arith, length-replicate 1024 false))
    ∙ out i (get_or s i false) refl)
  where
    out : (i : ℕ) (t : Bool) → get_or s i false ≡ t → false ≡ get_or s i false
    out i true e = absurd (h i e)
    out i false e = sym e

last_back : (n : ℕ) (mode : Mode) (last : Option Load) → n ≤ 1024 → IsLast n mode last → last_read n mode last ≡ last
last_back n mode None a h = refl
last_back n mode (Some l) a h = ap (λ z. Some z) (part mode h)
  where
    part : (mode : Mode) → IsLoadLike n mode l → load_read n mode l ≡ l
    part Fore h = ap (λ z. record { front = z; back = replicate 1024 false }) (clip_same n l.front a h.front)
        ∙ ap (λ z. record { front = l.front; back = z }) (empty_is l.back h.back.truths h.suits)
    part Back h = ap (λ z. record { front = z; back = clip n l.back }) (empty_is l.front h.front.truths h.suits)
        ∙ ap (λ z. record { front = l.front; back = z }) (clip_same n l.back a h.back)
    part Both h = ap (λ z. record { front = z; back = clip n l.back }) (clip_same n l.front a h.front)
        ∙ ap (λ z. record { front = l.front; back = z }) (clip_same n l.back a h.back)

frame_back : (n count : ℕ) (f : OpenFrame) → n ≤ 1024 → count ≤ 20000000 → IsFrame n count f
    → frame_of (the_frame f.mode (clip n f.set) (sat f.most) (last_read n f.mode f.last) (map sat f.cites)) ≡ f
frame_back n count f a b h =
    ap (λ z. frame_of (the_frame f.mode z (sat f.most) (last_read n f.mode f.last) (map sat f.cites)))
    (clip_same n f.set a h.set)
    ∙ ap (λ z. frame_of (the_frame f.mode f.set z (last_read n f.mode f.last) (map sat f.cites)))
    (small_is f.most (omega (arith, h.most)))
    ∙ ap (λ z. frame_of (the_frame f.mode f.set f.most z (map sat f.cites))) (last_back n f.mode f.last a h.last)
    ∙ ap (λ z. frame_of (the_frame f.mode f.set f.most f.last z)) (small_cites count f.cites (omega arith) h.cites)

pub same_frame : (n count : ℕ) → n ≤ 1024 → count ≤ 20000000 → (v w : OpenFrame) → IsFrame n count v → IsFrame n count w
    → row_text (frame_row n v) ≡ row_text (frame_row n w) → v ≡ w
same_frame n count a b v w p q e =
    sym (frame_back n count v a b p)
    ∙ ap frame_of (twice (frame_in n) (row_text (frame_row n v)) (row_text (frame_row n w))
    (the_frame v.mode (clip n v.set) (sat v.most) (last_read n v.mode v.last) (map sat v.cites))
    (the_frame w.mode (clip n w.set) (sat w.most) (last_read n w.mode w.last) (map sat w.cites))
    (frame_again n v.mode v.set v.most v.last v.cites) (frame_again n w.mode w.set w.most w.last w.cites) e)
    ∙ frame_back n count w a b q

pub unique_trails : (n count : ℕ) → n ≤ 1024 → count ≤ 20000000 → Unique (trails n count)
unfolding same_trails
unique_trails n count a b = unique_same (trail_parts n count) (trails n count) (same_trails n count)
    (unique_then trail_heads (λ h. frames_of n count (frames_said h)) unique_trail_head
    (λ h r. unique_each (frame_row n) (IsFrame n count) (frames_said h) (same_frame n count a b))) back
  where
    back : (w : Option Trail) → IsTrailOrNone n count w → to_trail (from_trail w).0 (from_trail w).1 ≡ w
    back None r = refl
    back (Some t) r = refl

pub unique_lists : (n : ℕ) (p : Bool) → n ≤ 1024 → Unique (lists n p)
unfolding same_lists
unique_lists n p a = unique_same (list_parts n p) (lists n p) (same_lists n p)
    (unique_then (numbers (codes "entries") 0 20000000) (entry_rest n p) unique_count
    (λ c r. unique_then (entries_of n p c) (λ es. trails n c) (unique_given n c None p a r.1)
    (λ es s. unique_trails n c a r.1))) (λ x r. refl)
