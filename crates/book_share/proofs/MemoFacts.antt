-- What a pass keeps of entries: with one entry more, in a longer list, and what it tells of a question.
use Rattle.std.proofs.Common.{◌≡◌, ◌≢◌, ℕ, zero, suc, ◌+◌, ◌-◌, ◌/◌, ◌<◌, ◌≤◌, inl, inr, List, [], ◌∷◌, ◌++◌}
use Rattle.std.proofs.Common.{Bool, length}
use Rattle.std.proofs.Common.{take, length-append, length-set, refl, sym, ap, ◌∙◌, subst, arith, Option, Some, None}
use Rattle.std.proofs.Common.{bit_or, replicate, Vec, Global}
use Rattle.std.specs.Prelude.{slice_get, slice_index, slice_set, IfSome}
use Rattle.std.proofs.lemmas.List.{map-append, take-append-le, take_all}
use Rattle.std.proofs.lemmas.Nat.{and_le_r}
use Rattle.std.proofs.lemmas.Option.{none-some, same_Some}
use Rattle.line_rules.proofs.ListFacts.{get_longer, get_last, get_none, get_taken, get_push_cases, take_next}
use Rattle.line_rules.specs.Entries.{IsUnanswered, IsDerived}
use Rattle.line_rules.specs.declared.types.Entry.{Entry}
use Rattle.line_instance.specs.Tags.{tag_of}
use Rattle.lemma_core.specs.Sieves.{IsSieve, HasMark, word_in, mark_of}
use Rattle.lemma_core.specs.inner.Chains.{tags_of}
use Rattle.lemma_core.proofs.ChainFacts.{sieve_push, tag-at}
use Rattle.lemma_core.specs.Machine.{About}
use Rattle.lemma_core.specs.History.{Item, added, known, Standing, standing, replay}
use Rattle.lemma_core.specs.Books.{BookView, desk_of}
use Rattle.lemma_core.specs.Desks.{DeskView, entries, HasDerived, Keeps, Publishes, Offers}
use Rattle.lemma_core.specs.declared.types.Published.{Published}
use Rattle.lemma_core.specs.declared.types.Published.TheVariants as published
use Rattle.lemma_core.specs.declared.types.Offered.{Offered}
use Rattle.lemma_core.specs.declared.types.Offered.TheVariants as offered
use Rattle.lemma_core.proofs.Runs.{replay-append}
use Rattle.lemma_core.proofs.HistoryGrows.{entries_go_on}
use Rattle.lemma_core.proofs.BookAsDesk.{is_roomy, roomy_is}
use Rattle.book_share.specs.declared.marks.Marks.{Marks}
use Rattle.book_share.specs.declared.lemma_rows.LemmaRow.{LemmaRow}
use Rattle.book_share.specs.declared.lemma_rows.LemmaRows.{LemmaRows}
use Rattle.book_share.specs.declared.memo.Memo.{Memo}
use Rattle.book_share.specs.declared.memo.OwnEntry.{OwnEntry}
use Rattle.book_share.specs.inner.Memo.{second_of, HasMarks, AreMarksOf, AreMarks, Lacks, IsRowOf, AreRowsOf, AreRows}
use Rattle.book_share.specs.inner.Memo.{HasKept, IsMemoOf, IsMemoOfAll, IsMemoOfBook, IsMemoOfSeen, IsMemoBy}
use Rattle.book_share.specs.inner.Memo.{WasMemoBy, IsOwn, LacksLast, IsMemoBut}
use Rattle.book_share.specs.Passes.{PassView, desk_by}
use Rattle.book_share.specs.Rule.{IsFor}
use Rattle.book_share.specs.Steps.{Mine, given}
use Rattle.book_share.specs.inner.Turning.{Holds, noted}

-- the word of a tag is one of the words
pub word_within : (count tag : ℕ) → 0 < count → word_in count tag < count
word_within count tag some = omega (arith, some, and_le_r (tag / 64) (count - 1))

-- the words after a mark was put into them
abbrev pub IsPut : List ℕ → ℕ → List ℕ → Type 0
IsPut words tag now = now ≡ slice_set words (word_in (length words) tag)
    (bit_or (slice_index words (word_in (length words) tag)) (mark_of tag))

pub put_length : (words now : List ℕ) (tag : ℕ) → IsPut words tag now → length now ≡ length words
put_length words now tag is = let w : ℕ = word_in (length words) tag in ap (λ (xs : List ℕ). length xs) is
    ∙ length-set words w (bit_or (slice_index words w) (mark_of tag))

-- a mark that was put is there, and each that was there stays
sieve_of : (words now : List ℕ) (tags : List ℕ) (tag : ℕ) → 0 < length words → IsPut words tag now
    → IsSieve (word_in (length words)) mark_of tags words
    → IsSieve (word_in (length now)) mark_of (tags ++ tag ∷ []) now
sieve_of words now tags tag some is h =
    subst (λ (n : ℕ). IsSieve (word_in n) mark_of (tags ++ tag ∷ []) now) (sym (put_length words now tag is))
    (sieve_push (word_in (length words)) mark_of tags tag words now (word_within (length words) tag some) is h)

pub is_put : (words now : List ℕ) (tag : ℕ) → 0 < length words → IsPut words tag now → HasMark now tag
is_put words now tag some is = sieve_of words now [] tag some is (λ k t e. absurd (get_none k t e)) 0 tag refl

pub stays_put : (words now : List ℕ) (tag there : ℕ) → 0 < length words → IsPut words tag now → HasMark words there
    → HasMark now there
stays_put words now tag there some is h =
    sieve_of words now (there ∷ []) tag some is
    (λ k t e. subst (λ (x : ℕ). HasMark words x) (only k t e) h) 0 there refl
  where
    only : (k t : ℕ) → slice_get (there ∷ []) k ≡ Some t → there ≡ t
    only zero t e = same_Some there t e
    only (suc k) t e = absurd (cc)

-- both marks of one tag more
pub two_more : (words mid now : List ℕ) (tags : List ℕ) (tag : ℕ) → AreMarksOf words tags → IsPut words tag mid
    → IsPut mid (second_of tag) now → AreMarksOf now (tags ++ tag ∷ [])
two_more words mid now tags tag h first second =
    let l : length mid ≡ length words = put_length words mid tag first in
    let m : length now ≡ length mid = put_length mid now (second_of tag) second in
    let some : 0 < length mid = omega (arith, l, h.some) in
    let stays : (t : ℕ) → HasMark words t → HasMark now t = λ t g. stays_put mid now (second_of tag) t some second
    (stays_put words mid tag t h.some first g) in
    let new : HasMarks now tag = record {
      first = stays_put mid now (second_of tag) tag some second (is_put words mid tag h.some first);
      second = is_put mid now (second_of tag) some second;
    } in
    record {
      some = omega (arith, m, some);
      each = λ k t e. elim (get_push_cases tags tag t k e) [
        | inl old ↦ (
            let g : HasMarks words t = h.each k t old.1 in
            record { first = stays t g.first; second = stays (second_of t) g.second })
        | inr last ↦ subst (λ (x : ℕ). HasMarks now x) last.1 new
      ];
    }

-- where the tag of a set isn't among those of entries, no entry answers for the set
pub lacks : (es : List Entry) (set : List Bool) → Lacks (tags_of es) (tag_of set) → (most cycle : ℕ)
    → IsUnanswered es set most cycle
lacks es set none most cycle k e g a = none k
    (tag-at es k e g ∙ ap (λ (s : List Bool). Some (tag_of s)) a.same)

-- rows of some entries are rows of more
pub row_longer : (r : LemmaRow) (cycle : ℕ) (es more : List Entry) → IsRowOf r cycle es → IsRowOf r cycle (es ++ more)
row_longer r cycle es more h = record {
  entry = h.entry;
  there = get_longer es more r.id h.entry h.there;
  set = h.set;
  most = h.most;
  long = h.long;
}

pub rows_longer : (t : LemmaRows) (cycle : ℕ) (es more : List Entry) → AreRows t cycle es → AreRows t cycle (es ++ more)
rows_longer t cycle es more h = by t.rows h
  where
    by : (rows : Option (Vec (Option LemmaRow) Global)) → IfSome rows (λ rs. AreRowsOf rs.items cycle es)
        → IfSome rows (λ rs. AreRowsOf rs.items cycle (es ++ more))
    by None g = tt
    by (Some rs) g = λ k r e. row_longer r cycle es more (g k r e)

-- the first k entries and the next one
pub one_more : (es : List Entry) (k : ℕ) (e : Entry) → slice_get es k ≡ Some e → take (k + 1) es ≡ take k es ++ e ∷ []
one_more es k e there = let up : k + 1 ≡ suc k = omega arith in ap (λ (n : ℕ). take n es) up ∙ take_next es k e there

pub tag_more : (es : List Entry) (e : Entry) → tags_of (es ++ e ∷ []) ≡ tags_of es ++ tag_of e.set ∷ []
tag_more es e = map-append (λ (x : Entry). tag_of x.set) es (e ∷ [])

-- where nothing stands in rows, no entry does
pub none_there : (n k : ℕ) (r : LemmaRow) → slice_get (replicate {A = Option LemmaRow} n None) k ≡ Some (Some r) → ⊥
none_there zero k r e = absurd (cc)
none_there (suc n) zero r e = none-some r (same_Some None (Some r) e)
none_there (suc n) (suc k) r e = none_there n k r e

-- what is kept with the next entry: its marks, its row, and the rows that stay
pub marks_more : (m : Marks) (es : List Entry) (k tag : ℕ) (e : Entry) → slice_get es k ≡ Some e → tag ≡ tag_of e.set
    → AreMarks m (tags_of (take k es) ++ tag ∷ []) → AreMarks m (tags_of (take (k + 1) es))
marks_more m es k tag e there is h =
    let all : tags_of (take (k + 1) es) ≡ tags_of (take k es) ++ tag_of e.set ∷ [] =
    ap (λ (xs : List Entry). tags_of xs) (one_more es k e there) ∙ tag_more (take k es) e in
    subst (λ (ts : List ℕ). AreMarks m ts) (ap (λ (t : ℕ). tags_of (take k es) ++ t ∷ []) is ∙ sym all) h

pub rows_more : (t : LemmaRows) (cycle : ℕ) (es : List Entry) (k : ℕ) (e : Entry) → slice_get es k ≡ Some e
    → AreRows t cycle (take k es) → AreRows t cycle (take (k + 1) es)
rows_more t cycle es k e there h = subst (λ (xs : List Entry). AreRows t cycle xs) (sym (one_more es k e there))
    (rows_longer t cycle (take k es) (e ∷ []) h)

pub row_of : (es : List Entry) (k cycle : ℕ) (e : Entry) → slice_get es k ≡ Some e → cycle ≤ e.cycle
    → IsRowOf (record { set = e.set; most = e.most; id = k }) cycle (take (k + 1) es)
row_of es k cycle e there long = record {
  entry = e;
  there = get_taken es (k + 1) k e (omega arith) there;
  set = refl;
  most = refl;
  long = long;
}

-- where the marks of all entries show that a tag isn't there, no entry answers for a set of that tag
pub none_kept : (es : List Entry) (count tag : ℕ) (set : List Bool) → count ≡ length es → tag ≡ tag_of set
    → Lacks (tags_of (take count es)) tag → (most cycle : ℕ) → IsUnanswered es set most cycle
none_kept es count tag set all is none =
    lacks es set (subst (λ (t : ℕ). Lacks (tags_of es) t) is
    (subst (λ (xs : List Entry). Lacks (tags_of xs) tag) (take_all count es (omega (arith, all))) none))

-- a memo of some of these entries is one of some of more
pub memo_longer : (m : Memo) (cycle : ℕ) (es more : List Entry) → IsMemoOf m cycle es → IsMemoOf m cycle (es ++ more)
memo_longer m cycle es more h = record {
  few = omega (arith, h.few, length-append es more);
  kept = subst (λ (xs : List Entry). HasKept m cycle xs) (sym (take-append-le m.count es more h.few)) h.kept;
}

-- what a memo of all entries keeps
pub kept_all : (m : Memo) (cycle : ℕ) (es : List Entry) → IsMemoOfAll m cycle es → HasKept m cycle es
kept_all m cycle es h = subst (λ (xs : List Entry). HasKept m cycle xs) (take_all m.count es (omega (arith, h.all)))
    h.memo.kept

-- an own entry in a row, and a memo with one
pub own_row : (o : OwnEntry) (e : Entry) (id cycle : ℕ) (es : List Entry) → IsOwn o e → id ≡ length es → cycle ≤ o.cycle
    → IsRowOf (record { set = o.set; most = o.most; id = id }) cycle (es ++ e ∷ [])
own_row o e id cycle es own number long = record {
  entry = e;
  there = subst (λ (k : ℕ). slice_get (es ++ e ∷ []) k ≡ Some e) (sym number) (get_last es e);
  set = own.set;
  most = own.most;
  long = omega (arith, own.cycle, long);
}

pub own_more : (marks : Marks) (rows : LemmaRows) (cycle id tag : ℕ) (o : OwnEntry) (e : Entry) (es : List Entry)
    (ready : Bool) → IsOwn o e → id ≡ length es → tag ≡ tag_of o.set → AreMarks marks (tags_of es ++ tag ∷ [])
    → AreRows rows cycle (es ++ e ∷ []) → (asked : ℕ) → asked ≡ cycle
    → IsMemoOfAll (record { marks = marks; rows = rows; cycle = asked; count = id + 1; ready = ready }) cycle
    (es ++ e ∷ [])
own_more marks rows cycle id tag o e es ready own number is m r asked same =
    let long : id + 1 ≡ length (es ++ e ∷ []) = omega (arith, number, length-append es (e ∷ [])) in
    let t : tag ≡ tag_of e.set = is ∙ ap (λ (s : List Bool). tag_of s) (sym own.set) in
    let whole : es ++ e ∷ [] ≡ take (id + 1) (es ++ e ∷ []) =
    sym (take_all (id + 1) (es ++ e ∷ []) (omega (arith, long))) in
    let memo : Memo = record { marks = marks; rows = rows; cycle = asked; count = id + 1; ready = ready } in
    let kept : HasKept memo cycle (es ++ e ∷ []) = record {
      marks = subst (λ (ts : List ℕ). AreMarks marks ts)
          (ap (λ (x : ℕ). tags_of es ++ x ∷ []) t ∙ sym (tag_more es e)) m;
      rows = r;
    } in
    record {
      memo = record {
        few = omega (arith, long);
        kept = subst (λ (xs : List Entry). HasKept memo cycle xs) whole kept;
      };
      all = long;
      asked = same;
    }

-- with its last entry a memo is one of all that the desk has seen
pub seen_last : (m n : Memo) (d : DeskView) (e : Entry) (id : ℕ) (h : LacksLast m d e id)
    → IsMemoOfAll n d.about.cycle (h.front ++ e ∷ []) → IsMemoOfSeen n d
seen_last m n d e id h w = record {
  memo = subst (λ (es : List Entry). IsMemoOf n d.about.cycle es) (sym h.last) w.memo;
  all = λ r. w.all ∙ ap (λ (es : List Entry). length es) (sym h.last);
  derived = λ r. h.derived;
}

-- what a book says of its entries
abbrev pub Replays : BookView → Type 0
Replays b = replay b.opening b.events ≡ standing b.state

-- a memo of a book is that of a pass that has seen its log
pub seen_by : (m : Memo) (v : PassView) (b : BookView) → IsFor v.base v.seen b → Replays b → IsMemoOfBook m b
    → IsMemoOfSeen m (desk_by v)
seen_by m v b is replays h =
    let e : b.state.entries ≡ entries (desk_by v) = ap (λ (s : Standing). s.entries) (sym replays)
    ∙ (λ i. (replay (is.opening i) (is.events i)).entries) in
    let derived : IsDerived v.base.about.kind v.base.about.line b.state.entries =
    subst (λ (a : About). IsDerived a.kind a.line b.state.entries) is.about h.derived in
    record {
      memo = subst (λ (es : List Entry). IsMemoOf m v.base.about.cycle es) e
          (subst (λ (a : About). IsMemoOf m a.cycle b.state.entries) is.about h.whole.memo);
      all = λ r. h.whole.all ∙ ap (λ (es : List Entry). length es) e;
      derived = λ r. subst (λ (es : List Entry). IsDerived v.base.about.kind v.base.about.line es) e derived;
    }

pub memo_by : (m : Option Memo) (v : PassView) (b : BookView) → IsFor v.base v.seen b → Replays b
    → IfSome m (λ x. IsMemoOfBook x b) → IsMemoBy m (desk_by v)
memo_by None v b is replays h = tt
memo_by (Some m) v b is replays h = seen_by m v b is replays h

-- a memo of what a desk had seen is one of some of what a later one has seen
pub was_memo : (m : Option Memo) (d e : DeskView) → Keeps d e → IsMemoBy m d → WasMemoBy m e
was_memo None d e k h = tt
was_memo (Some m) d e k h =
    let g : (more : List Entry) × ((replay d.opening e.seen).entries ≡ (replay d.opening d.seen).entries ++ more) =
    entries_go_on d.opening d.seen e.seen k.seen in
    let now : entries e ≡ entries d ++ g.0 = ap (λ (s : Standing). (replay s e.seen).entries) k.opening ∙ g.1 in
    subst (λ (es : List Entry). IsMemoOf m e.about.cycle es) (sym now)
    (subst (λ (a : About). IsMemoOf m a.cycle (entries d ++ g.0)) (sym k.about)
    (memo_longer m d.about.cycle (entries d) g.0 h.memo))

-- a memo of some of what a pass had seen is one of some entries of the book in hand, also after an event
pub behind : (m : Option Memo) (v : PassView) (b b' : BookView) → IsFor v.base v.seen b
    → Keeps (desk_of b) (desk_of b') → Replays b' → WasMemoBy m (desk_by v)
    → IfSome m (λ x. IsMemoOf x b'.about.cycle b'.state.entries)
behind None v b b' is k replays w = tt
behind (Some m) v b b' is k replays w =
    let g : (more : List Entry) × ((replay b.opening b'.events).entries ≡ (replay b.opening b.events).entries ++ more) =
    entries_go_on b.opening b.events b'.events k.seen in
    let now : b'.state.entries ≡ (replay b.opening b'.events).entries =
    ap (λ (s : Standing). s.entries) (sym replays) ∙ ap (λ (s : Standing). (replay s b'.events).entries)
    k.opening in
    let was : (replay b.opening b.events).entries ≡ entries (desk_by v) =
    (λ i. (replay (is.opening i) (is.events i)).entries) in
    let all : b'.state.entries ≡ entries (desk_by v) ++ g.0 =
    now ∙ (g.1 ∙ ap (λ (es : List Entry). es ++ g.0) was) in
    subst (λ (es : List Entry). IsMemoOf m b'.about.cycle es) (sym all)
    (subst (λ (a : About). IsMemoOf m a.cycle (entries (desk_by v) ++ g.0)) (sym (k.about ∙ is.about))
    (memo_longer m v.base.about.cycle (entries (desk_by v)) g.0 w))

-- what an offer keeps
pub keeps_offer : (old new : DeskView) (n : ℕ) (r : Offered) → Offers old new n r → Keeps old new
keeps_offer old new n offered.Better p = p.1.keeps
keeps_offer old new n offered.NotBetter p = p.0.keeps

-- the book after a call, with the log that it has then
for_next : (v : PassView) (b b' : BookView) → IsFor v.base v.seen b → Keeps (desk_of b) (desk_of b')
    → IsFor v.base b'.events b'
for_next v b b' is k = record {
  about = k.about ∙ is.about;
  opening = k.opening ∙ is.opening;
  events = refl;
  reserved = is_roomy b' (k.roomy (roomy_is b is.reserved));
}

-- the turn is over: the pass has seen the log of the book, of which the memo is
pub memo_after : (m : Option Memo) (x w : Mine) (b b' : BookView) → Holds x b → Keeps (desk_of b) (desk_of b')
    → Replays b' → IfSome m (λ y. IsMemoOfBook y b') → w ≡ (noted x.0 b'.events, []) → IsMemoBy m (desk_by w.0)
memo_after m x w b b' h k replays of is =
    subst (λ (y : Mine). IsMemoBy m (desk_by y.0)) (sym is)
    (memo_by m (noted x.0 b'.events) b' (for_next x.0 b b' h.book k) replays of)

-- the same where nothing was recorded
pub memo_still : (m : Option Memo) (x w : Mine) (b : BookView) → Holds x b → Replays b
    → IfSome m (λ y. IsMemoOfBook y b) → w ≡ (given x.0, []) → IsMemoBy m (desk_by w.0)
memo_still m x w b h replays of is =
    subst (λ (y : Mine). IsMemoBy m (desk_by y.0)) (sym is) (memo_by m (given x.0) b h.book replays of)

-- the memo after a turn in which an entry was published, of which the book knew nothing when the memo caught up
pub memo_but : (m : Option Memo) (x w : Mine) (b b' : BookView) (e : Entry) (r : Published) (n : ℕ) → Holds x b
    → Replays b → IfSome m (λ y. IsMemoOfBook y b) → Publishes (desk_of b) (desk_of b') e r → r ≢ published.NoMemory
    → n ≡ length b'.state.entries → n < 18446744073709551616 → Replays b' → HasDerived (desk_by w.0)
    → w ≡ (noted x.0 b'.events, []) → IsMemoBut m (desk_by w.0) e r
memo_but m x w b b' e r n h replays of p done long small replays' derived is =
    subst (λ (y : Mine). IsMemoBut m (desk_by y.0) e r) (sym is)
    (by m r of p done (subst (λ (y : Mine). HasDerived (desk_by y.0)) is derived))
  where
    d : DeskView
    d = desk_by (noted x.0 b'.events)

    s : Standing
    s = x.0.base.opening

    front : (replay s b.events).entries ≡ b.state.entries
    front = ap (λ (t : Standing). (replay t b.events).entries) (sym h.book.opening)
        ∙ ap (λ (t : Standing). t.entries) replays

    grown : (i : Item) → b'.events ≡ b.events ++ i ∷ [] → entries d ≡ (replay (replay s b.events) (i ∷ [])).entries
    grown i events = ap (λ (l : List Item). (replay s l).entries) events
        ∙ ap (λ (t : Standing). t.entries) (replay-append s b.events (i ∷ []))

    about_now : (y : Memo) → IsMemoOfBook y b → IsMemoOfAll y d.about.cycle b.state.entries
    about_now y k = subst (λ (a : About). IsMemoOfAll y a.cycle b.state.entries) h.book.about k.whole

    by : (m : Option Memo) (r : Published) → IfSome m (λ y. IsMemoOfBook y b) → Publishes (desk_of b) (desk_of b') e r
        → r ≢ published.NoMemory → HasDerived d → IsMemoBut m d e r
    by None (published.Known id) k p done derived = tt
    by None (published.Added id) k p done derived = tt
    by m published.NoMemory k p done derived = absurd (done refl)
    by (Some y) (published.Known id) k p done derived =
        let all : entries d ≡ b.state.entries = grown (known id e.most)
        (p.1.last ∙ ap (λ (l : List Item). l ++ known id e.most ∷ []) (p.1.still refl)) ∙ front in
        let now = about_now y k in
        record {
          memo = subst (λ (es : List Entry). IsMemoOf y d.about.cycle es) (sym all) now.memo;
          all = λ t. now.all ∙ ap (λ (es : List Entry). length es) (sym all);
          derived = λ t. derived;
        }
    by (Some y) (published.Added id) k p done derived =
        let last : entries d ≡ b.state.entries ++ e ∷ [] = grown (added id e)
        (p.1.last ∙ ap (λ (l : List Item). l ++ added id e ∷ []) (p.1.still refl))
        ∙ ap (λ (es : List Entry). es ++ e ∷ []) front in
        let number : id ≡ length b.state.entries =
        p.3 ∙ ap (λ (l : List Item). length ((replay b.opening l).entries)) (p.1.still refl)
        ∙ ap (λ (t : Standing). length t.entries) replays in
        let after : b'.state.entries ≡ entries d = ap (λ (t : Standing). t.entries) (sym replays')
        ∙ ap (λ (t : Standing). (replay t b'.events).entries) (p.1.keeps.opening ∙ h.book.opening) in
        let count : length b'.state.entries ≡ length (b.state.entries ++ e ∷ []) =
        ap (λ (es : List Entry). length es) (after ∙ last) in
        record {
          front = b.state.entries;
          last = last;
          number = number;
          fits = omega (arith, number, count, length-append b.state.entries (e ∷ []), long, small);
          whole = about_now y k;
          derived = derived;
        }
