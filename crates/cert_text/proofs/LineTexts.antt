-- A text is the text of its lines alone, and so no text with a fault is that of a value.
use Rattle.std.proofs.Common.{◌≡◌, ℕ, zero, suc, ◌≤◌, Bool, true, false, not, ◌&&◌, nat_eq, List, [], ◌∷◌, ◌++◌, length}
use Rattle.std.proofs.Common.{map, refl, sym, ◌∙◌, ap, subst, arith, Some, None, Option, Ok, Err, ◌+◌, ◌⊎◌, inl, inr}
use Rattle.std.proofs.Common.{append_assoc}
use Rattle.std.specs.Prelude.{codes}
use Rattle.std.specs.List.{flat_map}
use Rattle.std.proofs.lemmas.Bool.Decides.{nat_tests}
use Rattle.std.proofs.lemmas.Option.{same_Some}
use Rattle.std.proofs.lemmas.List.{append-nil, map-append}
use Rattle.std.proofs.lemmas.Bool.{and_from}
use Rattle.line_rules.specs.Ranges.{IsInRange, AreEntries, IsTrailOrNone}
use Rattle.line_rules.specs.declared.types.LineKind.{LineKind}
use Rattle.line_rules.specs.declared.types.LineKind.TheVariants.{Straight, U}
use Rattle.line_rules.specs.declared.types.Side.TheVariants.{Front, Back as AtBack}
use Rattle.line_rules.specs.declared.types.Mode.{Mode}
use Rattle.line_rules.specs.declared.types.Mode.TheVariants.{Fore, Back, Both}
use Rattle.line_rules.specs.declared.types.Load.{Load}
use Rattle.line_rules.specs.declared.types.Entry.{Entry}
use Rattle.line_rules.specs.declared.types.Why.{Why}
use Rattle.line_rules.specs.declared.types.Why.TheVariants as whys
use Rattle.line_rules.specs.declared.types.Trail.{Trail}
use Rattle.line_rules.specs.declared.types.Ask.{Ask}
use Rattle.line_rules.specs.declared.types.Ask.TheVariants as ask
use Rattle.line_rules.specs.declared.types.Claim.{Claim}
use Rattle.line_rules.specs.declared.types.Claim.TheVariants as claim
use Rattle.line_rules.specs.declared.types.Certificate.{Certificate}
use Rattle.line_io.proofs.ReadFacts.{right, left}
use Rattle.line_rules.proofs.LoadTests.{not_true}
pub use Rattle.cert_lines.specs.Telling.{AllLack}
use Rattle.cert_lines.specs.Numbers.{number_text, set_text, cites_text, mode_letter, last_text}
use Rattle.cert_lines.specs.Rows.{Row, fixed, keyed, span, seat, bound, branch, swap, pairs, trail, frame}
use Rattle.cert_lines.specs.Rows.{state_entry, state_frame, row_entry, joined, spaced, number_or_none, row_text}
use Rattle.cert_lines.specs.Rows.{rows_text}
use Rattle.cert_lines.specs.Rows.{lines_text}
use Rattle.cert_lines.specs.ValueRows.{kind_row, ask_row, seat_row, why_row, entry_row, frame_row}
use Rattle.cert_lines.specs.LineForms.{version_row}
use Rattle.cert_lines.specs.declared.line_forms.Version.{Version}
use Rattle.cert_lines.specs.declared.line_forms.Version.TheVariants as version
use Rattle.cert_text.specs.Cert.{trail_rows, list_rows, head_rows, claim_rows, rows_in, cert_rows, cert_text}
use Rattle.cert_text.specs.Cert.{least_version, newest_text}
use Rattle.cert_text.specs.OldCert.{short_row, old_trail_rows, part_rows, parts_rows, counted_rows, old_claim_rows}
use Rattle.cert_text.specs.OldCert.{old_rows}
use Rattle.cert_text.specs.Versions.{AnyCertificate, newer, newest, older, IsAnyInRange, any_rows, any_text, lifted}
use Rattle.cert_text.specs.Versions.{both as both_versions}
use Rattle.entry_lists.specs.declared.version_one.Part.{Part}
use Rattle.entry_lists.specs.declared.version_one.OldClaim.{OldClaim}
use Rattle.entry_lists.specs.declared.version_one.OldClaim.TheVariants as old_claim
use Rattle.cert_lines.specs.Faults.{IsLine, Grammar, Next, IsFault}
use Rattle.cert_text.specs.Parts.{MayHave, lists}
use Rattle.cert_text.specs.WholeText.{IsAnyRead, IsCertFault, IsSaidBy, IsCertRead, IsEnded}
use Rattle.cert_lines.specs.Pattern.{IsRead}
use Rattle.cert_text.specs.Laws.{NoTextBeginsAnother}
use Rattle.cert_lines.specs.declared.fault.ReadError.{ReadError}
use Rattle.cert_lines.specs.declared.fault.ReadError.TheVariants as errors
use Rattle.cert_text.specs.declared.whole_text.CertRead.{CertRead}
use Rattle.cert_text.specs.declared.whole_text.CertRead.TheVariants.{Good, Fault, NoMemory}
use Rattle.cert_lines.specs.Words.{parts_at}
use Rattle.cert_lines.specs.declared.fault.CertFault.{CertFault}
use Rattle.cert_lines.proofs.NumberWords.{lacks, high_lacks, number_high, split_again}
use Rattle.cert_lines.proofs.SetText.{set_high}
use Rattle.cert_lines.proofs.TextParts.{rows_lines}
use Rattle.cert_text.proofs.PartSequences.{texts, Unique, none}
use Rattle.cert_text.proofs.CertificateParts.{unique_lists}
use Rattle.cert_text.proofs.Claims.{unique_both}
use Rattle.cert_text.proofs.PairFacts.{least_not_one}

lacks_append : (m : ℕ) (a b : List ℕ) → lacks m a ≡ true → lacks m b ≡ true → lacks m (a ++ b) ≡ true
lacks_append m [] b e f = f
lacks_append m (x ∷ a) b e f = and_from (not (nat_eq x m)) (lacks m (a ++ b)) (left (not (nat_eq x m)) (lacks m a) e)
    (lacks_append m a b (right (not (nat_eq x m)) (lacks m a) e) f)

-- a word, a blank and more
spaced_lacks : (a b : List ℕ) → lacks 10 a ≡ true → lacks 10 b ≡ true → lacks 10 (a ++ 32 ∷ b) ≡ true
spaced_lacks a b e f = lacks_append 10 a (32 ∷ b) e f

number_lacks : (n : ℕ) → lacks 10 (number_text n) ≡ true
number_lacks n = high_lacks 10 (number_text n) (omega arith) (number_high n)

set_lacks : (n : ℕ) (s : List Bool) → lacks 10 (set_text n s) ≡ true
set_lacks n s = high_lacks 10 (set_text n s) (omega arith) (set_high n s)

mode_lacks : (m : Mode) → lacks 10 (mode_letter m ∷ []) ≡ true
mode_lacks Fore = refl
mode_lacks Back = refl
mode_lacks Both = refl

tail_lacks : (cs : List ℕ) → lacks 10 (flat_map (λ d. 44 ∷ number_text d) cs) ≡ true
tail_lacks [] = refl
tail_lacks (c ∷ cs) = lacks_append 10 (number_text c) (flat_map (λ d. 44 ∷ number_text d) cs) (number_lacks c)
    (tail_lacks cs)

cites_lacks : (cs : List ℕ) → lacks 10 (cites_text cs) ≡ true
cites_lacks [] = refl
cites_lacks (c ∷ cs) = lacks_append 10 (number_text c) (flat_map (λ d. 44 ∷ number_text d) cs) (number_lacks c)
    (tail_lacks cs)

last_lacks : (n : ℕ) (m : Mode) (l : Option Load) → lacks 10 (last_text n m l) ≡ true
last_lacks n m None = refl
last_lacks n Fore (Some l) = set_lacks n l.front
last_lacks n Back (Some l) = set_lacks n l.back
last_lacks n Both (Some l) = lacks_append 10 (set_text n l.front) (47 ∷ set_text n l.back) (set_lacks n l.front)
    (set_lacks n l.back)

marked_lacks : (n : Option ℕ) → lacks 10 (number_or_none n) ≡ true
marked_lacks None = refl
marked_lacks (Some n) = number_lacks n

-- a fixed text and a word without an LF
abbrev pub IsPlain : Row → Type 0
IsPlain (fixed t) = lacks 10 t ≡ true
IsPlain (keyed key v) = lacks 10 key ≡ true
IsPlain (span key v w) = lacks 10 key ≡ true
IsPlain (seat kind n side) = Unit {0}
IsPlain (bound n c s m) = Unit {0}
IsPlain (branch n c mode s m cites) = Unit {0}
IsPlain (swap n c s m cite out into) = Unit {0}
IsPlain (pairs n c s m two) = Unit {0}
IsPlain (trail t) = Unit {0}
IsPlain (frame n mode s m last cites) = Unit {0}
IsPlain (state_entry rem starts least cites) = Unit {0}
IsPlain (state_frame rem starts need last cites) = Unit {0}
IsPlain (row_entry units starts base cites) = Unit {0}
IsPlain (joined key ns) = lacks 10 key ≡ true

words_lack : (ws : List (List ℕ)) → AllLack ws → lacks 10 (spaced ws) ≡ true
words_lack [] h = refl
words_lack (w ∷ []) h = h.0
words_lack (w ∷ v ∷ ws) h = spaced_lacks w (spaced (v ∷ ws)) h.0 (words_lack (v ∷ ws) h.1)

pub row_lacks : (r : Row) → IsPlain r → lacks 10 (row_text r) ≡ true
unfolding row_text
row_lacks (fixed t) h = h
row_lacks (keyed key v) h = spaced_lacks key (number_text v) h (number_lacks v)
row_lacks (span key v w) h = words_lack (key ∷ number_text v ∷ number_text w ∷ [])
    (h, (number_lacks v, (number_lacks w, tt)))
row_lacks (seat Straight n side) h = number_lacks n
row_lacks (seat U n Front) h = spaced_lacks (number_text n) (codes "f") (number_lacks n) refl
row_lacks (seat U n AtBack) h = spaced_lacks (number_text n) (codes "b") (number_lacks n) refl
row_lacks (bound n None s m) h = words_lack (codes "bound" ∷ set_text n s ∷ number_text m ∷ [])
    (refl, (set_lacks n s, (number_lacks m, tt)))
row_lacks (bound n (Some c) s m) h = words_lack (codes "bound" ∷ number_text c ∷ set_text n s ∷ number_text m ∷ [])
    (refl, (number_lacks c, (set_lacks n s, (number_lacks m, tt))))
row_lacks (branch n None mode s m cites) h =
    words_lack (codes "branch" ∷ (mode_letter mode ∷ []) ∷ set_text n s ∷ number_text m ∷ cites_text cites ∷ [])
    (refl, (mode_lacks mode, (set_lacks n s, (number_lacks m, (cites_lacks cites, tt)))))
row_lacks (branch n (Some c) mode s m cites) h =
    words_lack (codes "branch" ∷ (mode_letter mode ∷ []) ∷ number_text c ∷ set_text n s ∷ number_text m ∷ cites_text
    cites ∷ []) (
      refl,
      (
        mode_lacks mode,
        (
          number_lacks c,
          (set_lacks n s, (number_lacks m, (cites_lacks cites, tt))),
        ),
      ),
    )
row_lacks (swap n None s m cite out into) h =
    words_lack (codes "swap" ∷ set_text n s ∷ number_text m ∷ number_text cite ∷ number_text out ∷ number_text
    into ∷ []) (
      refl,
      (
        set_lacks n s,
        (
          number_lacks m,
          (
            number_lacks cite,
            (number_lacks out, (number_lacks into, tt)),
          ),
        ),
      ),
    )
row_lacks (swap n (Some c) s m cite out into) h =
    words_lack (codes "swap" ∷ number_text c ∷ set_text n s ∷ number_text m ∷ number_text cite ∷ number_text
    out ∷ number_text into ∷ []) (
      refl,
      (
        number_lacks c,
        (
          set_lacks n s,
          (
            number_lacks m,
            (number_lacks cite, (number_lacks out, (number_lacks into, tt))),
          ),
        ),
      ),
    )
row_lacks (pairs n None s m two) h = words_lack (codes "pairs" ∷ set_text n s ∷ number_text m ∷ set_text n two ∷ [])
    (refl, (set_lacks n s, (number_lacks m, (set_lacks n two, tt))))
row_lacks (pairs n (Some c) s m two) h =
    words_lack (codes "pairs" ∷ number_text c ∷ set_text n s ∷ number_text m ∷ set_text n two ∷ [])
    (refl, (number_lacks c, (set_lacks n s, (number_lacks m, (set_lacks n two, tt)))))
row_lacks (trail None) h = refl
row_lacks (trail (Some t)) h = words_lack (codes "trail" ∷ number_text t.0 ∷ codes "at" ∷ number_text t.1 ∷ [])
    (refl, (number_lacks t.0, (refl, (number_lacks t.1, tt))))
row_lacks (frame n mode s m last cites) h =
    words_lack (codes "open" ∷ (mode_letter mode ∷ []) ∷ set_text n s ∷ number_text m ∷ last_text n mode
    last ∷ cites_text cites ∷ [])
    (refl, (mode_lacks mode, (set_lacks n s, (number_lacks m, (last_lacks n mode last, (cites_lacks cites, tt))))))
row_lacks (state_entry rem starts least None) h =
    words_lack (codes "bound" ∷ cites_text rem ∷ cites_text starts ∷ number_text least ∷ [])
    (refl, (cites_lacks rem, (cites_lacks starts, (number_lacks least, tt))))
row_lacks (state_entry rem starts least (Some cites)) h =
    words_lack (codes "branch" ∷ cites_text rem ∷ cites_text starts ∷ number_text least ∷ cites_text cites ∷ [])
    (refl, (cites_lacks rem, (cites_lacks starts, (number_lacks least, (cites_lacks cites, tt)))))
row_lacks (state_frame rem starts need last cites) h =
    words_lack (codes "open" ∷ cites_text rem ∷ cites_text starts ∷ number_text need ∷ number_or_none last ∷ cites_text
    cites ∷ [])
    (refl, (cites_lacks rem, (cites_lacks starts, (number_lacks need, (marked_lacks last, (cites_lacks cites, tt))))))
row_lacks (row_entry units starts base cites) h =
    words_lack (codes "charge" ∷ cites_text units ∷ cites_text starts ∷ number_text base ∷ cites_text cites ∷ [])
    (refl, (cites_lacks units, (cites_lacks starts, (number_lacks base, (cites_lacks cites, tt)))))
row_lacks (joined key ns) h = spaced_lacks key (cites_text ns) h (cites_lacks ns)

lack_append : (a b : List (List ℕ)) → AllLack a → AllLack b → AllLack (a ++ b)
lack_append [] b e f = f
lack_append (l ∷ a) b e f = (e.0, lack_append a b e.1 f)

lack_front : (a b : List (List ℕ)) → AllLack (a ++ b) → AllLack a
lack_front [] b e = tt
lack_front (l ∷ a) b e = (e.0, lack_front a b e.1)

pub lack_map : {X : Type 0} (row : X → Row) (xs : List X) → ((x : X) → lacks 10 (row_text (row x)) ≡ true)
    → AllLack (texts (map row xs))
lack_map row [] h = tt
lack_map row (x ∷ xs) h = (h x, lack_map row xs h)

why_lacks : (n c : ℕ) (e : Entry) (w : Why) → lacks 10 (row_text (why_row n (Some c) e w)) ≡ true
why_lacks n c e whys.Bound = row_lacks (bound n (Some c) e.set e.most) tt
why_lacks n c e (whys.Branch mode cites) = row_lacks (branch n (Some c) mode e.set e.most cites) tt
why_lacks n c e (whys.Swap cite out into) = row_lacks (swap n (Some c) e.set e.most cite (suc out) (suc into)) tt
why_lacks n c e (whys.Pairs two) = row_lacks (pairs n (Some c) e.set e.most two) tt

trail_lacks : (n : ℕ) (t : Option Trail) → AllLack (texts (trail_rows n t))
trail_lacks n None = (row_lacks (trail None) tt, tt)
trail_lacks n (Some t) = (
  row_lacks (trail (Some (length t.frames, t.cycle))) tt,
  lack_map (frame_row n) t.frames (λ f. row_lacks (frame_row n f) tt),
)

pub lack_both : (a b : List Row) → AllLack (texts a) → AllLack (texts b) → AllLack (texts (a ++ b))
lack_both a b e f = let P : List (List ℕ) → Type 0 = AllLack in
    subst P (sym (map-append row_text a b)) (lack_append (texts a) (texts b) e f)

pub list_lacks : (n : ℕ) (es : List Entry) (t : Option Trail) → AllLack (texts (list_rows n es t))
list_lacks n es t = (
  row_lacks (keyed (codes "entries") (length es)) refl,
  lack_both (map (entry_row n) es) (trail_rows n t)
      (lack_map (entry_row n) es (λ e. why_lacks n e.cycle e e.why)) (trail_lacks n t),
)

claim_lacks : (kind : LineKind) (n : ℕ) (c : Claim) → AllLack (texts (claim_rows kind n c))
claim_lacks kind n (claim.TooLong t) = (
  row_lacks (keyed (codes "infeasible") (suc t)) refl,
  (row_lacks (fixed (codes "end")) refl, tt),
)
claim_lacks kind n (claim.Bounds l u b es t) = (
  row_lacks (keyed (codes "lower") l) refl,
  (
    row_lacks (keyed (codes "upper") u) refl,
    (
      row_lacks (keyed (codes "balance") b.stations) refl,
      lack_both (map (seat_row kind) b.place) (list_rows n es t ++ fixed (codes "end") ∷ [])
          (lack_map (seat_row kind) b.place (λ p. row_lacks (seat_row kind p) tt))
          (lack_both (list_rows n es t) (fixed (codes "end") ∷ []) (list_lacks n es t)
          (row_lacks (fixed (codes "end")) refl, tt)),
    ),
  ),
)

pub kind_lacks : (k : LineKind) → lacks 10 (row_text (kind_row k)) ≡ true
kind_lacks Straight = row_lacks (fixed (codes "line straight")) refl
kind_lacks U = row_lacks (fixed (codes "line u")) refl

head_lacks : (kind : LineKind) (n : ℕ) (a : Ask) → AllLack (texts (head_rows kind n a))
head_lacks kind n a = (kind_lacks kind, (row_lacks (keyed (codes "tasks") n) refl, (ask_lacks a, tt)))
  where
    ask_lacks : (a : Ask) → lacks 10 (row_text (ask_row a)) ≡ true
    ask_lacks (ask.Stations x) = row_lacks (keyed (codes "cycle") x) refl
    ask_lacks (ask.Cycle x) = row_lacks (keyed (codes "stations") x) refl

short_lacks : (n : ℕ) (e : Entry) (w : Why) → lacks 10 (row_text (why_row n None e w)) ≡ true
short_lacks n e whys.Bound = row_lacks (bound n None e.set e.most) tt
short_lacks n e (whys.Branch mode cites) = row_lacks (branch n None mode e.set e.most cites) tt
short_lacks n e (whys.Swap cite out into) = row_lacks (swap n None e.set e.most cite (suc out) (suc into)) tt
short_lacks n e (whys.Pairs two) = row_lacks (pairs n None e.set e.most two) tt

part_lacks : (n : ℕ) (p : Part) → AllLack (texts (part_rows n p))
part_lacks n p = (
  row_lacks (keyed (codes "part") p.cycle) refl,
  (
    row_lacks (keyed (codes "entries") (length p.entries)) refl,
    lack_both (map (short_row n) p.entries) (old_trail_rows n p.frames)
        (lack_map (short_row n) p.entries (λ e. short_lacks n e e.why)) (
          row_lacks (keyed (codes "trail") (length p.frames)) refl,
          lack_map (frame_row n) p.frames (λ f. row_lacks (frame_row n f) tt),
        ),
  ),
)

parts_lack : (n : ℕ) (ps : List Part) → AllLack (texts (parts_rows n ps))
parts_lack n [] = tt
parts_lack n (p ∷ ps) = lack_both (part_rows n p) (parts_rows n ps) (part_lacks n p) (parts_lack n ps)

old_claim_lacks : (kind : LineKind) (n : ℕ) (c : OldClaim) → AllLack (texts (old_claim_rows kind n c))
old_claim_lacks kind n (old_claim.TooLong t) = (
  row_lacks (keyed (codes "infeasible") (suc t)) refl,
  (row_lacks (fixed (codes "end")) refl, tt),
)
old_claim_lacks kind n (old_claim.Bounds l u b ps) = (
  row_lacks (keyed (codes "lower") l) refl,
  (
    row_lacks (keyed (codes "upper") u) refl,
    (
      row_lacks (keyed (codes "balance") b.stations) refl,
      lack_both (map (seat_row kind) b.place) (counted_rows n ps ++ fixed (codes "end") ∷ [])
          (lack_map (seat_row kind) b.place (λ p. row_lacks (seat_row kind p) tt))
          (lack_both (counted_rows n ps) (fixed (codes "end") ∷ [])
          (row_lacks (keyed (codes "parts") (length ps)) refl, parts_lack n ps)
          (row_lacks (fixed (codes "end")) refl, tt)),
    ),
  ),
)

version_lacks : (v : Version) → lacks 10 (row_text (version_row v)) ≡ true
version_lacks version.One = row_lacks (version_row version.One) refl
version_lacks version.Two = row_lacks (version_row version.Two) refl
version_lacks version.Three = row_lacks (version_row version.Three) refl

rows_lack : (v : Version) (c : Certificate) → AllLack (texts (rows_in v c))
rows_lack v c = (
  version_lacks v,
  lack_both (head_rows c.kind c.tasks c.ask) (claim_rows c.kind c.tasks c.claim) (head_lacks c.kind c.tasks c.ask)
      (claim_lacks c.kind c.tasks c.claim),
)

any_lacks : (x : AnyCertificate) → AllLack (texts (any_rows x))
unfolding old_rows
any_lacks (newer c) = rows_lack version.Two c
any_lacks (newest c) = rows_lack version.Three c
any_lacks (older c) = (
  row_lacks (fixed (codes "line balance certificate 1")) refl,
  lack_both (head_rows c.kind c.tasks c.ask) (old_claim_rows c.kind c.tasks c.claim) (head_lacks c.kind c.tasks c.ask)
      (old_claim_lacks c.kind c.tasks c.claim),
)

-- a line without an LF is told from what follows
same_line : (a b x y : List ℕ) → lacks 10 a ≡ true → lacks 10 b ≡ true → a ++ 10 ∷ x ≡ b ++ 10 ∷ y → (a ≡ b) × (x ≡ y)
same_line a b x y e f t =
    let s : (a, x) ≡ (b, y) = same_Some (a, x) (b, y) (sym (split_again 10 a x e) ∙ ap (parts_at 10) t
    ∙ split_again 10 b y f) in
    (ap (λ z. z.0) s, ap (λ z. z.1) s)

no_lf : (line : List ℕ) → IsLine line → lacks 10 line ≡ true
no_lf [] h = refl
no_lf (b ∷ line) h =
    let n : not (nat_eq b 10) ≡ true = not_true (nat_eq b 10)
    (λ e. h zero 0 (omega arith) (grind (arith, nat_tests))) in
    and_from (not (nat_eq b 10)) (lacks 10 line) n (no_lf line (λ k d l t. h (suc k) d (omega arith) t))

nothing_left : (a x : List ℕ) → a ++ 10 ∷ x ≡ [] → ⊥
nothing_left [] x e = (cc)
nothing_left (b ∷ a) x e = (cc)

front_line : (l : List ℕ) (rest : List ℕ) → (l ++ 10 ∷ []) ++ rest ≡ l ++ 10 ∷ rest
front_line l rest = append_assoc l (10 ∷ []) rest

long_front : (l x y : List ℕ) (lines : List (List ℕ)) → ((l ++ 10 ∷ []) ++ x) ++ y ≡ l ++ 10 ∷ (x ++ y)
long_front l x y lines = append_assoc (l ++ 10 ∷ []) x y ∙ front_line l (x ++ y)

-- lines and more, whose text goes on with a line behind other lines: they have that line there, or they end before it
decode : (lines before : List (List ℕ)) (rest at after : List ℕ) → AllLack lines → AllLack before → lacks 10 at ≡ true
    → lines_text lines ++ rest ≡ lines_text before ++ (at ++ 10 ∷ after)
    → ((more : List (List ℕ)) × (lines ≡ before ++ at ∷ more)) ⊎ ((more : List (List ℕ)) × (before ≡ lines ++ more))
decode [] before rest at after a b c e = inr (before, refl)
decode (l ∷ lines) [] rest at after a b c e =
    let s = same_line l at (lines_text lines ++ rest) after a.0 c
    (sym (long_front l (lines_text lines) rest lines) ∙ e) in
    inl (lines, ap (λ z. z ∷ lines) s.0)
decode (l ∷ lines) (k ∷ before) rest at after a b c e =
    let s = same_line l k (lines_text lines ++ rest) (lines_text before ++ (at ++ 10 ∷ after)) a.0 b.0
    (sym (long_front l (lines_text lines) rest lines) ∙ e ∙ append_assoc (k ++ 10 ∷ []) (lines_text before)
    (at ++ 10 ∷ after) ∙ front_line k (lines_text before ++ (at ++ 10 ∷ after))) in
    elim (decode lines before rest at after a.1 b.1 c s.1) [
      | inl d ↦ inl (d.0, ap (λ z. z ∷ lines) s.0 ∙ ap (λ z. k ∷ z) d.1)
      | inr d ↦ inr (d.0, ap (λ z. k ∷ z) d.1 ∙ ap (λ z. z ∷ (lines ++ d.0)) (sym s.0))
    ]

-- lines and more, whose text goes on with no further line behind other lines: they end there or before
decode_end : (lines before : List (List ℕ)) (rest left : List ℕ) → AllLack lines → AllLack before → lacks 10 left ≡ true
    → lines_text lines ++ rest ≡ lines_text before ++ left → (more : List (List ℕ)) × (before ≡ lines ++ more)
decode_end [] before rest left a b c e = (before, refl)
decode_end (l ∷ lines) [] rest left a b c e = (let w : true ≡ false =
    sym c ∙ ap (lacks 10) (sym e ∙ long_front l (lines_text lines) rest lines) ∙ has l (lines_text lines ++ rest) in
    (cc))
  where
    has : (l x : List ℕ) → lacks 10 (l ++ 10 ∷ x) ≡ false
    has [] x = refl
    has (b ∷ l) x = ap (λ z. not (nat_eq b 10) && z) (has l x) ∙ off (not (nat_eq b 10))
      where
        off : (t : Bool) → (t && false) ≡ false
        off true = refl
        off false = refl
decode_end (l ∷ lines) (k ∷ before) rest left a b c e =
    let s = same_line l k (lines_text lines ++ rest) (lines_text before ++ left) a.0 b.0
    (sym (long_front l (lines_text lines) rest lines) ∙ e ∙ append_assoc (k ++ 10 ∷ []) (lines_text before) left
    ∙ front_line k (lines_text before ++ left)) in
    let d = decode_end lines before rest left a.1 b.1 c s.1 in
    (d.0, ap (λ z. k ∷ z) d.1 ∙ ap (λ z. z ∷ (lines ++ d.0)) (sym s.0))

-- lines whose text begins with that of lines
decode_front : (lines before : List (List ℕ)) (rest : List ℕ) → AllLack lines → AllLack before
    → lines_text lines ≡ lines_text before ++ rest → (more : List (List ℕ)) × (lines ≡ before ++ more)
    × (lines_text more ≡ rest)
decode_front lines [] rest a b e = (lines, refl, e)
decode_front [] (l ∷ before) rest a b e = absurd (nothing_left l (lines_text before ++ rest)
    (sym (e ∙ append_assoc (l ++ 10 ∷ []) (lines_text before) rest ∙ front_line l (lines_text before ++ rest))))
decode_front (l ∷ lines) (k ∷ before) rest a b e =
    let s = same_line l k (lines_text lines) (lines_text before ++ rest) a.0 b.0
    (sym (front_line l (lines_text lines)) ∙ e ∙ append_assoc (k ++ 10 ∷ []) (lines_text before) rest
    ∙ front_line k (lines_text before ++ rest)) in
    let i = decode_front lines before rest a.1 b.1 s.1 in
    (i.0, ap (λ z. z ∷ lines) s.0 ∙ ap (λ z. k ∷ z) i.1, i.2)

before_lacks : {V : Type 0} (g : Grammar V) (before : List (List ℕ)) (r : Row) → ((v : V) → AllLack (texts (g.rows v)))
    → Next g before r → AllLack before
before_lacks g before r h n =
    let P : List (List ℕ) → Type 0 = AllLack in
    subst P n.same (lack_front (texts n.passed) (texts (r ∷ n.more))
    (subst P (ap texts n.rows ∙ map-append row_text n.passed (r ∷ n.more)) (h n.value)))

-- rows whose texts are split
split_rows : (rows : List Row) (before : List (List ℕ)) (at : List ℕ) (more : List (List ℕ))
    → texts rows ≡ before ++ at ∷ more → (passed : List Row) × (r : Row) × (rest : List Row)
    × (rows ≡ passed ++ r ∷ rest) × (texts passed ≡ before) × (row_text r ≡ at)
split_rows [] [] at more e = (cc)
split_rows [] (l ∷ before) at more e = (cc)
split_rows (r ∷ rows) [] at more e = ([], r, rows, refl, refl, cc)
split_rows (r ∷ rows) (l ∷ before) at more e =
    let i = split_rows rows before at more (cc) in
    let h : row_text r ≡ l = cc in
    (r ∷ i.0, i.1, i.2, ap (λ z. r ∷ z) i.3, ap (λ z. row_text r ∷ z) i.4 ∙ ap (λ z. z ∷ before) h, i.5)

-- lines of a value don't go on
no_more : {V : Type 0} (g : Grammar V) (v : V) (before more : List (List ℕ)) (r : Row) → Unique g → g.ranged v
    → before ≡ texts (g.rows v) ++ more → Next g before r → ⊥
no_more g v before more r u h e n =
    let w : texts (g.rows n.value) ≡ texts (g.rows v) ++ (more ++ row_text r ∷ texts n.more) =
    ap texts n.rows ∙ map-append row_text n.passed (r ∷ n.more) ∙ ap (λ z. z ++ row_text r ∷ texts n.more) (n.same ∙ e)
    ∙ append_assoc (texts (g.rows v)) more (row_text r ∷ texts n.more) in
    none more (row_text r) (texts n.more) (u v n.value h n.ranged (more ++ row_text r ∷ texts n.more) []
    (sym w ∙ sym (append-nil (texts (g.rows n.value))))).1

-- no text with a fault begins with that of a value
pub fault_has_none : {V : Type 0} (g : Grammar V) (passed : ℕ) (text rest : List ℕ) (f : CertFault) (v : V) → Unique g
    → ((v : V) → AllLack (texts (g.rows v))) → IsFault g passed text f → g.ranged v
    → text ≡ rows_text (g.rows v) ++ rest → ⊥
fault_has_none g passed text rest f v u l (inl x) h e =
    elim (decode (texts (g.rows v)) x.before rest x.at x.after (l v) (before_lacks g x.before x.some.0 l x.some.1)
    (no_lf x.at x.is_line) (ap (λ z. z ++ rest) (rows_lines (g.rows v)) ∙ sym e ∙ x.all)) [
      | inl d ↦ (let s = split_rows (g.rows v) x.before x.at d.0 d.1 in
          x.stops s.1 (record { value = v; ranged = h; passed = s.0; more = s.2; rows = s.3; same = s.4 }) s.5)
      | inr d ↦ no_more g v x.before d.0 x.some.0 u h d.1 x.some.1
    ]
fault_has_none g passed text rest f v u l (inr x) h e =
    let d = decode_end (texts (g.rows v)) x.before rest x.rest (l v) (before_lacks g x.before x.some.0 l x.some.1)
    (no_lf x.rest x.is_line) (ap (λ z. z ++ rest) (rows_lines (g.rows v)) ∙ sym e ∙ x.all) in
    no_more g v x.before d.0 x.some.0 u h d.1 x.some.1

-- no text of a value begins that of another
pub begins_one : {V : Type 0} (g : Grammar V) (v w : V) (rest : List ℕ) → Unique g
    → ((v : V) → AllLack (texts (g.rows v))) → g.ranged v → g.ranged w
    → rows_text (g.rows v) ++ rest ≡ rows_text (g.rows w) → (v ≡ w) × (rest ≡ [])
begins_one g v w rest u l h k e =
    let t : lines_text (texts (g.rows w)) ≡ lines_text (texts (g.rows v)) ++ rest =
    rows_lines (g.rows w) ∙ sym e ∙ ap (λ z. z ++ rest) (sym (rows_lines (g.rows v))) in
    let x = decode_front (texts (g.rows w)) (texts (g.rows v)) rest (l w) (l v) t in
    let y = u v w h k x.0 [] (sym x.1 ∙ sym (append-nil (texts (g.rows w)))) in
    (y.0, sym x.2 ∙ ap lines_text y.1)

-- no text of a certificate begins that of another
pub begins_none : NoTextBeginsAnother
begins_none c d rest h k e = begins_one both_versions c d rest unique_both any_lacks h k e

-- no text with a fault is a certificate's
any_has_none : (bytes : List ℕ) (f : CertFault) (c : AnyCertificate) → IsCertFault bytes f → IsAnyInRange c
    → bytes ≡ any_text c → ⊥
any_has_none bytes f c (inl x) h e = fault_has_none both_versions 0 bytes [] f c unique_both any_lacks x h
    (e ∙ sym (append-nil (any_text c)))
any_has_none bytes f c (inr x) h e =
    let z : x.rest ≡ [] = (begins_one both_versions x.whole c x.rest unique_both any_lacks x.in_range h
    (sym x.all ∙ e)).1 in
    absurd (omega (arith, x.some, ap length z))

-- the certificate that the lines say, of any version
said_by : (bytes : List ℕ) (x : AnyCertificate) (cert : Certificate) → IsAnyInRange x → bytes ≡ any_text x
    → cert ≡ lifted x → IsSaidBy bytes cert
unfolding cert_rows
said_by bytes (newer c) cert h e q =
    let P : Certificate → Type 0 = λ z. IsInRange z × ((bytes ≡ cert_text z) ⊎ (bytes ≡ newest_text z)) in
    inl (subst P (sym q) (h.0, inl (e ∙ ap (λ v. rows_text (rows_in v c)) (sym h.1))))
said_by bytes (newest c) cert h e q =
    let P : Certificate → Type 0 = λ z. IsInRange z × ((bytes ≡ cert_text z) ⊎ (bytes ≡ newest_text z)) in
    inl (subst P (sym q) (h, inr e))
said_by bytes (older o) cert h e q = inr (o, h, e, q)

-- what stands behind a certificate that was read decides the answer
pub ended_read : (bytes left : List ℕ) (number : ℕ) (cert : Certificate) (r : CertRead)
    → IsAnyRead 0 bytes left number (Ok cert) → IsEnded cert left number r → IsCertRead bytes r
ended_read bytes left number cert (Good c) h e = said_by bytes h.0 c h.2.0
    (h.2.1 ∙ ap (λ z. any_text h.0 ++ z) e.1 ∙ append-nil (any_text h.0)) (e.0 ∙ h.1)
ended_read bytes left number cert (Fault f) h e =
    inr (record {
      whole = h.0;
      in_range = h.2.0;
      rest = left;
      some = e.0;
      all = h.2.1;
      line = ap (λ z. z.line) e.1 ∙ ap suc h.2.2 ∙ omega arith;
      kind = ap (λ z. z.kind) e.1;
    })
ended_read bytes left number cert NoMemory h e = tt

-- an answer that is a fault, of a text that is no certificate's
pub no_text : (bytes : List ℕ) (r : CertRead) (f : CertFault) (c : AnyCertificate) → IsCertRead bytes r → r ≡ Fault f
    → IsAnyInRange c → bytes ≡ any_text c → ⊥
no_text bytes r f c h e k t = let P : CertRead → Type 0 = IsCertRead bytes in any_has_none bytes f c (subst P e h) k t

-- the text that is written is that of version 2 or of version 3
written_in : (cert : Certificate) → IsInRange cert
    → (x : AnyCertificate) × IsAnyInRange x × (any_text x ≡ cert_text cert)
unfolding cert_rows
written_in cert h = in_version (least_version cert.claim) refl
  where
    in_version : (v : Version) → least_version cert.claim ≡ v
        → (x : AnyCertificate) × IsAnyInRange x × (any_text x ≡ cert_text cert)
    in_version version.One e = absurd (least_not_one cert.claim e)
    in_version version.Two e = (newer cert, (h, e), ap (λ v. rows_text (rows_in v cert)) (sym e))
    in_version version.Three e = (newest cert, h, ap (λ v. rows_text (rows_in v cert)) (sym e))

-- an answer that is a fault, of a text that isn't the one of a certificate that is written
pub no_cert : (bytes : List ℕ) (r : CertRead) (f : CertFault) (c : Certificate) → IsCertRead bytes r → r ≡ Fault f
    → IsInRange c → bytes ≡ cert_text c → ⊥
no_cert bytes r f c h e k t = let x = written_in c k in no_text bytes r f x.0 h e x.1 (t ∙ sym x.2)

-- what was read from the front of a text is what was read of it
pub read_whole : (bytes text left : List ℕ) (n number : ℕ) (cert : Certificate) → IsAnyRead n text left number (Ok cert)
    → n ≡ 0 → text ≡ bytes → IsAnyRead 0 bytes left number (Ok cert)
read_whole bytes text left n number cert h e f = (
  h.0,
  h.1,
  (h.2.0, sym f ∙ h.2.1, h.2.2 ∙ ap (λ z. z + length (any_rows h.0)) e),
)

pub fault_whole : (bytes text rest : List ℕ) (n after : ℕ) (e : ReadError) (f g : CertFault)
    → IsAnyRead n text rest after (Err e) → e ≡ errors.Fault f → n ≡ 0 → text ≡ bytes → g ≡ f → IsCertFault bytes g
fault_whole bytes text rest n after e f g h i a b c =
    let P : ReadError → Type 0 = λ z. IsRead both_versions n text rest after (Err z) in
    let x : IsFault both_versions n text f = subst P i h in
    let Q : ℕ → Type 0 = λ z. IsFault both_versions z text f in
    let R : List ℕ → Type 0 = λ z. IsFault both_versions 0 z f in
    let S : CertFault → Type 0 = λ z. IsFault both_versions 0 bytes z in
    inl (subst S (sym c) (subst R b (subst Q a x)))

-- no text with a fault begins with that of entries and a trail
pub list_has_none : (n : ℕ) (p : Bool) (passed : ℕ) (text rest : List ℕ) (f : CertFault) (es : List Entry)
    (t : Option Trail) → n ≤ 1024 → IsFault (lists n p) passed text f → AreEntries n es → IsTrailOrNone n (length es) t
    → MayHave p es → text ≡ rows_text (list_rows n es t) ++ rest → ⊥
list_has_none n p passed text rest f es t a x h k m e =
    fault_has_none (lists n p) passed text rest f (record { entries = es; trail = t }) (unique_lists n p a)
    (λ v. list_lacks n v.entries v.trail) x (h, k, m) e
