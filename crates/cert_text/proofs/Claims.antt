-- Claims and certificates of all versions as parts, and that their lines say one value at most.
use Rattle.std.proofs.Common.{◌≡◌, ℕ, suc, ◌<◌, ◌≤◌, Bool, false, true, List, [], ◌∷◌, ◌++◌, length, refl, sym, ◌∙◌, ap}
use Rattle.std.proofs.Common.{subst, arith, Some, None, Option, Ok, Err, Result, lit≤}
use Rattle.std.specs.Prelude.{codes, bytes_eq}
use Rattle.std.specs.Result.{IsErrAnd}
use Rattle.std.proofs.lemmas.Bool.{false≢true}
use Rattle.std.proofs.lemmas.Option.{none-some}
use Rattle.std.proofs.lemmas.Slice.Eq.{bytes_eq-Decides}
use Rattle.line_rules.specs.Ranges.{IsCycle, NamesCycle, AreEntries, IsTrailOrNone, IsClaim, IsInRange}
use Rattle.line_rules.specs.declared.types.LineKind.{LineKind}
use Rattle.line_rules.specs.declared.types.LineKind.TheVariants.{Straight}
use Rattle.line_rules.specs.declared.types.Ask.{Ask}
use Rattle.line_rules.specs.declared.types.Entry.{Entry}
use Rattle.line_rules.specs.declared.types.Ask.TheVariants as ask
use Rattle.line_rules.specs.declared.types.Claim.{Claim}
use Rattle.line_rules.specs.declared.types.Claim.TheVariants as new
use Rattle.line_rules.specs.declared.types.Certificate.{Certificate}
use Rattle.cert_lines.specs.Rows.{fixed, keyed, row_text}
use Rattle.cert_lines.specs.Faults.{Grammar}
use Rattle.cert_lines.specs.Pattern.{one, then_, IsRead}
use Rattle.cert_lines.specs.LineForms.{opening_row, IsOpening, version_row}
use Rattle.entry_lists.specs.OldRanges.{IsOldClaim, IsOldInRange}
use Rattle.cert_lines.specs.declared.line_forms.Opening.{Opening}
use Rattle.cert_lines.specs.declared.line_forms.Opening.TheVariants as opening
use Rattle.cert_lines.specs.declared.line_forms.Version.{Version}
use Rattle.cert_lines.specs.declared.line_forms.Version.TheVariants as version
use Rattle.entry_lists.specs.declared.version_one.OldClaim.{OldClaim}
use Rattle.entry_lists.specs.declared.version_one.OldClaim.TheVariants as old
use Rattle.entry_lists.specs.declared.version_one.Part.{Part}
use Rattle.cert_lines.specs.declared.fault.ReadError.{ReadError}
use Rattle.cert_lines.specs.declared.fault.ReadError.TheVariants as errors
use Rattle.cert_text.specs.Cert.{head_rows, claim_rows, least_version}
use Rattle.cert_text.specs.OldCert.{old_claim_rows, old_rows}
use Rattle.cert_text.specs.Parts.{IsHeadOf, heads, lists, IsPlacedOf, placings, behind_rows, opening_of, IsOpened}
use Rattle.cert_text.specs.Parts.{opened, IsClaimOf, claims, MayHave, MayHold, pairs_of}
use Rattle.cert_text.specs.inner.OldParts.{counted}
use Rattle.cert_text.specs.Versions.{AnyCertificate, newer, newest, older, IsAnyInRange, any_rows, lifted, both}
use Rattle.cert_text.specs.Versions.{certificate_of}
use Rattle.cert_text.specs.WholeText.{IsAnyRead}
use Rattle.cert_text.specs.declared.parts.Head.{Head}
use Rattle.cert_text.specs.declared.parts.EntryList.{EntryList}
use Rattle.cert_text.specs.declared.parts.Placed.{Placed}
use Rattle.cert_text.specs.declared.parts.AnyClaim.{AnyClaim}
use Rattle.cert_text.specs.declared.parts.AnyClaim.TheVariants as any
use Rattle.cert_lines.proofs.CiteWords.{sat}
use Rattle.cert_lines.proofs.JudgedLine.{fixed_text, small_is, keyed_value, keyed_other, lower_said, said_lower}
use Rattle.cert_lines.proofs.PlainLines.{keyed_again}
use Rattle.cert_text.proofs.LiftRanges.{lifted_in}
use Rattle.cert_text.proofs.PartErrors.{Fails, first, second, same, hand}
use Rattle.cert_text.proofs.PartSequences.{unique_then, Unique, unique_one, Same, same_read, same_error, both_read}
use Rattle.cert_text.proofs.PartSequences.{second_error}
use Rattle.cert_text.proofs.CertificateParts.{unique_same, unique_placings, unique_lists, unique_heads, one_cycle}
use Rattle.cert_text.proofs.CertificateParts.{some_seating}
use Rattle.cert_text.proofs.CertificateParts.{placing_said, within}
use Rattle.cert_text.proofs.PairFacts.{none_may, plain_entries, plain_least}
use Rattle.cert_text.proofs.VersionOneParts.{unique_counted}

-- the end
abbrev pub end_grammar : Grammar (Unit {0})
end_grammar = one (λ u. fixed (codes "end")) (λ u. Unit {0})

pub unique_end : Unique end_grammar
unique_end = unique_one (λ u. fixed (codes "end")) (λ u. Unit {0}) (λ v w a b e. refl)

abbrev no_list : EntryList
no_list = record { entries = []; trail = None }

pub some_list : (n : ℕ) (p : Bool) → (l : EntryList)
    × (AreEntries n l.entries × IsTrailOrNone n (length l.entries) l.trail × MayHave p l.entries)
some_list n p = (no_list, (record { many = lit≤ tt; each = λ k e q. absurd (none-some e q) }, tt, none_may p))

-- bounds behind the lower one, which a list shows, and the end
abbrev pub bounds_parts : {L : Type 0} → Grammar L → Head → Grammar (Placed × (L × Unit {0}))
bounds_parts g h = then_ (placings h.kind h.tasks) (λ p. then_ g (λ l. end_grammar))

unique_bounds : {L : Type 0} (g : Grammar L) (h : Head) → Unique g → Unique (bounds_parts g h)
unique_bounds g h u = unique_then (placings h.kind h.tasks) (λ p. then_ g (λ l. end_grammar))
    (unique_placings h.kind h.tasks) (λ p r. unique_then g (λ l. end_grammar) u (λ l s. unique_end))

pub list_fails : {L : Type 0} (g : Grammar L) (h : Head) (p : Placed) (passed middle : ℕ) (text left : List ℕ)
    {e : ReadError} → Unique g → IsRead (placings h.kind h.tasks) passed text left middle (Ok p)
    → Fails g middle left e → Fails (bounds_parts g h) passed text e
list_fails g h p passed middle text left u x f =
    second (placings h.kind h.tasks) (λ p. then_ g (λ l. end_grammar)) p passed middle text left
    (unique_placings h.kind h.tasks) x (first g (λ l. end_grammar) u (λ l r. (tt, tt)) f)

pub end_fails : {L : Type 0} (g : Grammar L) (h : Head) (p : Placed) (l : L) (passed middle third : ℕ)
    (text left behind : List ℕ) {e : ReadError} → Unique g → IsRead (placings h.kind h.tasks) passed text left middle
    (Ok p)
    → IsRead g middle left behind third (Ok l) → Fails end_grammar third behind e
    → Fails (bounds_parts g h) passed text e
end_fails g h p l passed middle third text left behind u x y f =
    second (placings h.kind h.tasks) (λ p. then_ g (λ l. end_grammar)) p passed middle text left
    (unique_placings h.kind h.tasks) x (second g (λ l. end_grammar) l middle third left behind u y f)

bounds_read : {L : Type 0} (g : Grammar L) (h : Head) (p : Placed) (l : L) (passed middle third after : ℕ)
    (text left behind rest : List ℕ) → IsRead (placings h.kind h.tasks) passed text left middle (Ok p)
    → IsRead g middle left behind third (Ok l) → IsRead end_grammar third behind rest after (Ok tt)
    → IsRead (bounds_parts g h) passed text rest after (Ok (p, (l, tt)))
bounds_read g h p l passed middle third after text left behind rest x y z =
    both_read (placings h.kind h.tasks) (λ p. then_ g (λ l. end_grammar)) p (l, tt) passed middle after text left rest x
    (both_read g (λ l. end_grammar) l tt middle third after left behind rest y z)

abbrev no_places : Placed
no_places = record { upper = 0; balance = record { stations = 0; place = [] } }

from_new : AnyClaim → Placed × (EntryList × Unit {0})
from_new (any.New (new.TooLong t)) = (no_places, (no_list, tt))
from_new (any.New (new.Bounds x u b es t)) = (
  record { upper = u; balance = b },
  (record { entries = es; trail = t }, tt),
)
from_new (any.Old c) = (no_places, (no_list, tt))

-- entries that a version may have
holds : (v : Version) (p : Bool) (es : List Entry) → pairs_of v ≡ Some p → MayHave p es → MayHold (pairs_of v) es
holds v p es q m = let P : Option Bool → Type 0 = λ o. MayHold o es in subst P (sym q) m

held : (v : Version) (p : Bool) (es : List Entry) → pairs_of v ≡ Some p → MayHold (pairs_of v) es → MayHave p es
held v p es q m = let P : Option Bool → Type 0 = λ o. MayHold o es in subst P q m

not_old : (v : Version) (p : Bool) → pairs_of v ≡ Some p → v ≡ version.One → ⊥
not_old v p q e = none-some p (ap pairs_of (sym e) ∙ q)

same_new : (v : Version) (p : Bool) (h : Head) (x : ℕ) → pairs_of v ≡ Some p → IsCycle x
    → Same (bounds_parts (lists h.tasks p) h) (opened v h (opening.Lower x))
unfolding from_new
same_new v p h x q c = record {
  to = λ v. any.New (new.Bounds x v.0.upper v.0.balance v.1.0.entries v.1.0.trail);
  from = from_new;
  to_ranged = λ w r. (
    (
      holds v p w.1.0.entries q r.1.0.2,
      record {
        from = c;
        up_to = r.0.upper;
        balance = r.0.balance;
        entries = r.1.0.0;
        trail = r.1.0.1;
      },
    ),
    refl,
  );
  from_ranged = from_range;
  to_rows = λ w r. refl;
  from_rows = from_row;
}
  where
    from_range : (w : AnyClaim) → IsOpened v h (opening.Lower x) w
        → (bounds_parts (lists h.tasks p) h).ranged (from_new w)
    from_range (any.New (new.TooLong t)) r = absurd (cc (r.1))
    from_range (any.New (new.Bounds y u b es t)) r = (
      record { upper = r.0.1.up_to; balance = r.0.1.balance },
      ((r.0.1.entries, r.0.1.trail, held v p es q r.0.0), tt),
    )
    from_range (any.Old (old.TooLong t)) r = absurd r.0
    from_range (any.Old (old.Bounds y u b ps)) r = absurd (not_old v p q r.0.0)

    from_row : (w : AnyClaim) → IsOpened v h (opening.Lower x) w
        → (bounds_parts (lists h.tasks p) h).rows (from_new w) ≡ behind_rows h w
    from_row (any.New (new.TooLong t)) r = absurd (cc (r.1))
    from_row (any.New (new.Bounds y u b es t)) r = refl
    from_row (any.Old (old.TooLong t)) r = absurd r.0
    from_row (any.Old (old.Bounds y u b ps)) r = absurd (not_old v p q r.0.0)

from_old : AnyClaim → Placed × (List Part × Unit {0})
from_old (any.New c) = (no_places, ([], tt))
from_old (any.Old (old.TooLong t)) = (no_places, ([], tt))
from_old (any.Old (old.Bounds x u b ps)) = (record { upper = u; balance = b }, (ps, tt))

same_old : (h : Head) (x : ℕ) → IsCycle x → Same (bounds_parts (counted h.tasks) h)
    (opened version.One h (opening.Lower x))
unfolding from_old
same_old h x c = record {
  to = λ v. any.Old (old.Bounds x v.0.upper v.0.balance v.1.0);
  from = from_old;
  to_ranged = λ v r. ((refl, record { from = c; up_to = r.0.upper; balance = r.0.balance; parts = r.1.0 }), refl);
  from_ranged = from_range;
  to_rows = λ v r. refl;
  from_rows = from_row;
}
  where
    from_range : (w : AnyClaim) → IsOpened version.One h (opening.Lower x) w
        → (bounds_parts (counted h.tasks) h).ranged (from_old w)
    from_range (any.New (new.TooLong t)) r = absurd (cc (r.1))
    from_range (any.New (new.Bounds y u b es t)) r = absurd r.0.0
    from_range (any.Old (old.TooLong t)) r = absurd r.0
    from_range (any.Old (old.Bounds y u b ps)) r = (
      record { upper = r.0.1.up_to; balance = r.0.1.balance },
      (r.0.1.parts, tt),
    )

    from_row : (w : AnyClaim) → IsOpened version.One h (opening.Lower x) w
        → (bounds_parts (counted h.tasks) h).rows (from_old w) ≡ behind_rows h w
    from_row (any.New (new.TooLong t)) r = absurd (cc (r.1))
    from_row (any.New (new.Bounds y u b es t)) r = absurd r.0.0
    from_row (any.Old (old.TooLong t)) r = absurd r.0
    from_row (any.Old (old.Bounds y u b ps)) r = refl

-- what fails in the bounds of a version
pub new_fails : (v : Version) (p : Bool) (h : Head) (x : ℕ) {passed : ℕ} {text : List ℕ} {e : ReadError}
    → pairs_of v ≡ Some p → IsCycle x → Fails (bounds_parts (lists h.tasks p) h) passed text e
    → Fails (opened v h (opening.Lower x)) passed text e
new_fails v p h x q c f =
    same (bounds_parts (lists h.tasks p) h) (opened v h (opening.Lower x)) (same_new v p h x q c) f

pub old_fails : {v : Version} (h : Head) (x : ℕ) {passed : ℕ} {text : List ℕ} {e : ReadError} → v ≡ version.One
    → IsCycle x → Fails (bounds_parts (counted h.tasks) h) passed text e
    → Fails (opened v h (opening.Lower x)) passed text e
old_fails h x {passed = passed} {text = text} {e = e} q c f =
    let P : Version → Type 0 = λ w. Fails (opened w h (opening.Lower x)) passed text e in
    subst P (sym q) (same (bounds_parts (counted h.tasks) h) (opened version.One h (opening.Lower x)) (same_old h x c)
    f)

-- what is read of them
pub new_read : (v : Version) (w : Bool) (h : Head) (x : ℕ) (p : Placed) (l : EntryList)
    (passed middle third after : ℕ) (text left behind rest : List ℕ) → pairs_of v ≡ Some w → IsCycle x
    → IsRead (placings h.kind h.tasks) passed text left middle (Ok p)
    → IsRead (lists h.tasks w) middle left behind third (Ok l) → IsRead end_grammar third behind rest after (Ok tt)
    → IsRead (opened v h (opening.Lower x)) passed text rest after
    (Ok (any.New (new.Bounds x p.upper p.balance l.entries l.trail)))
unfolding same_new
new_read v w h x p l passed middle third after text left behind rest q c a b e =
    same_read (bounds_parts (lists h.tasks w) h) (opened v h (opening.Lower x)) passed after text rest (p, (l, tt))
    (same_new v w h x q c) (bounds_read (lists h.tasks w) h p l passed middle third after text left behind rest a b e)

pub old_read : (v : Version) (h : Head) (x : ℕ) (p : Placed) (ps : List Part) (passed middle third after : ℕ)
    (text left behind rest : List ℕ) → v ≡ version.One → IsCycle x
    → IsRead (placings h.kind h.tasks) passed text left middle (Ok p)
    → IsRead (counted h.tasks) middle left behind third (Ok ps) → IsRead end_grammar third behind rest after (Ok tt)
    → IsRead (opened v h (opening.Lower x)) passed text rest after (Ok (any.Old (old.Bounds x p.upper p.balance ps)))
unfolding same_old
old_read v h x p ps passed middle third after text left behind rest q c a b e =
    let P : Version → Type 0 = λ w. IsRead (opened w h (opening.Lower x)) passed text rest after
    (Ok (any.Old (old.Bounds x p.upper p.balance ps))) in
    subst P (sym q) (same_read (bounds_parts (counted h.tasks) h) (opened version.One h (opening.Lower x)) passed after
    text rest (p, (ps, tt)) (same_old h x c)
    (bounds_read (counted h.tasks) h p ps passed middle third after text left behind rest a b e))

new_placed_fails : (v : Version) (p : Bool) (h : Head) (x : ℕ) {passed : ℕ} {text : List ℕ} {e : ReadError}
    → pairs_of v ≡ Some p → IsCycle x → Fails (placings h.kind h.tasks) passed text e
    → Fails (opened v h (opening.Lower x)) passed text e
new_placed_fails v p h x q c f =
    let l = some_list h.tasks p in
    new_fails v p h x q c (first (placings h.kind h.tasks) (λ b. then_ (lists h.tasks p) (λ l. end_grammar))
    (unique_placings h.kind h.tasks) (λ b r. ((l.0, tt), (l.1, tt))) f)

pub placed_fails : (v : Version) (h : Head) (x : ℕ) {passed : ℕ} {text : List ℕ} {e : ReadError} → IsCycle x
    → Fails (placings h.kind h.tasks) passed text e → Fails (opened v h (opening.Lower x)) passed text e
placed_fails version.Two h x c f = new_placed_fails version.Two false h x refl c f
placed_fails version.Three h x c f = new_placed_fails version.Three true h x refl c f
placed_fails version.One h x c f =
    old_fails h x refl c (first (placings h.kind h.tasks) (λ p. then_ (counted h.tasks) (λ l. end_grammar))
    (unique_placings h.kind h.tasks) (λ p r. (([], tt), (tt, tt))) f)

-- claims
abbrev pub openings : Ask → ℕ → Grammar Opening
openings a n = one opening_row (IsOpening a n)

abbrev pub claim_parts : Version → Head → Grammar (Opening × AnyClaim)
claim_parts v h = then_ (openings h.ask h.tasks) (opened v h)

pub opening_task : (a : Ask) (n t : ℕ) → IsOpening a n (opening.TooLong t) → NamesCycle a × (t < n)
opening_task (ask.Stations c) n t h = (tt, h)
opening_task (ask.Cycle m) n t h = absurd h

task_opens : (a : Ask) (n t : ℕ) → NamesCycle a × (t < n) → IsOpening a n (opening.TooLong t)
task_opens (ask.Stations c) n t h = h.1
task_opens (ask.Cycle m) n t h = absurd h.0

same_opening : (a : Ask) (n : ℕ) → n ≤ 1024 → (v w : Opening) → IsOpening a n v → IsOpening a n w
    → row_text (opening_row v) ≡ row_text (opening_row w) → v ≡ w
same_opening a n l (opening.TooLong x) (opening.TooLong y) p q e =
    let f : suc x ≡ suc y = keyed_value (codes "infeasible") (row_text (keyed (codes "infeasible") (suc x))) (suc y)
    (suc x) refl (sym e) (omega (arith, (opening_task a n y q).1))
    (keyed_again (codes "infeasible") (suc x) refl ∙ ap (λ z. Some z)
    (small_is (suc x) (omega (arith, (opening_task a n x p).1)))) in
    ap (λ z. opening.TooLong z) (omega arith)
same_opening a n l (opening.Lower x) (opening.Lower y) p q e =
    ap (λ z. opening.Lower z) (keyed_value (codes "lower") (row_text (keyed (codes "lower") x)) y x refl (sym e)
    (omega (arith, (said_lower a n y q).limit)) (keyed_again (codes "lower") x refl
    ∙ ap (λ z. Some z) (small_is x (omega (arith, (said_lower a n x p).limit)))))
same_opening a n l (opening.TooLong x) (opening.Lower y) p q e =
    (let w : codes "lower" ≡ codes "infeasible" = keyed_other (codes "lower") (codes "infeasible")
    (row_text (keyed (codes "infeasible") (suc x))) y (sat (suc x)) refl refl (sym e)
    (keyed_again (codes "infeasible") (suc x) refl) in (cc))
same_opening a n l (opening.Lower x) (opening.TooLong y) p q e =
    (let w : codes "infeasible" ≡ codes "lower" = keyed_other (codes "infeasible") (codes "lower")
    (row_text (keyed (codes "lower") x)) (suc y) (sat x) refl refl (sym e) (keyed_again (codes "lower") x refl) in (cc))

pub unique_opening : (a : Ask) (n : ℕ) → n ≤ 1024 → Unique (openings a n)
unique_opening a n l = unique_one opening_row (IsOpening a n) (same_opening a n l)

pub some_opening : (a : Ask) (n : ℕ) → (o : Opening) × IsOpening a n o
some_opening (ask.Stations c) n = (opening.Lower 1, one_cycle)
some_opening (ask.Cycle m) n = (opening.Lower 1, one_cycle)

-- a claim behind what opens it
some_placing : (kind : LineKind) (n : ℕ) → (p : Placed) × IsPlacedOf kind n p
some_placing kind n =
    let u : within 1 1000000000000000000 1 = (lit≤ tt, lit≤ tt) in
    let s = some_seating kind n in
    (record { upper = 1; balance = s.0 }, placing_said kind n 1 s.0 u s.1)

some_bounds : (v : Version) (w : Bool) (h : Head) (x : ℕ) → pairs_of v ≡ Some w
    → IsOpening h.ask h.tasks (opening.Lower x) → (c : AnyClaim) × IsOpened v h (opening.Lower x) c
some_bounds v w h x q r =
    let p = some_placing h.kind h.tasks in
    let l = some_list h.tasks w in (
      any.New (new.Bounds x p.0.upper p.0.balance l.0.entries l.0.trail),
      (
        (
          holds v w l.0.entries q l.1.2,
          record {
            from = said_lower h.ask h.tasks x r;
            up_to = p.1.upper;
            balance = p.1.balance;
            entries = l.1.0;
            trail = l.1.1;
          },
        ),
        refl,
      ),
    )

pub some_opened : (v : Version) (h : Head) (o : Opening) → IsOpening h.ask h.tasks o → (c : AnyClaim) × IsOpened v h o c
some_opened v h (opening.TooLong t) r = (any.New (new.TooLong t), (opening_task h.ask h.tasks t r, refl))
some_opened version.Two h (opening.Lower x) r = some_bounds version.Two false h x refl r
some_opened version.Three h (opening.Lower x) r = some_bounds version.Three true h x refl r
some_opened version.One h (opening.Lower x) r =
    let p = some_placing h.kind h.tasks in (
      any.Old (old.Bounds x p.0.upper p.0.balance []),
      (
        (refl, record { from = said_lower h.ask h.tasks x r; up_to = p.1.upper; balance = p.1.balance; parts = tt }),
        refl,
      ),
    )

claim_opens : (v : Version) (h : Head) (c : AnyClaim) → IsClaimOf v h c → IsOpening h.ask h.tasks (opening_of c)
claim_opens v h (any.New (new.TooLong t)) r = task_opens h.ask h.tasks t r
claim_opens v h (any.New (new.Bounds x u b es t)) r = lower_said h.ask h.tasks x r.1.from
claim_opens v h (any.Old (old.TooLong t)) r = absurd r
claim_opens v h (any.Old (old.Bounds x u b ps)) r = lower_said h.ask h.tasks x r.1.from

pub same_claims : (v : Version) (h : Head) → Same (claim_parts v h) (claims v h)
same_claims v h = record {
  to = λ x. x.1;
  from = λ c. (opening_of c, c);
  to_ranged = λ x r. r.1.0;
  from_ranged = λ c r. (claim_opens v h c r, (r, refl));
  to_rows = λ x r. ap (λ o. opening_row o ∷ behind_rows h x.1) r.1.1;
  from_rows = λ c r. refl;
}

pub some_claim : (v : Version) (h : Head) → (c : AnyClaim) × IsClaimOf v h c
some_claim v h =
    let o = some_opening h.ask h.tasks in
    let c = some_opened v h o.0 o.1 in
    (c.0, c.1.0)

-- what is read behind the first line of a claim gives what the claim is
pub claim_result : (v : Version) (h : Head) (o : Opening) (r : Result AnyClaim ReadError) (passed middle after : ℕ)
    (text left rest : List ℕ) → h.tasks ≤ 1024 → IsRead (openings h.ask h.tasks) passed text left middle (Ok o)
    → IsRead (opened v h o) middle left rest after r → IsRead (claims v h) passed text rest after r
unfolding same_claims
claim_result v h o (Ok c) passed middle after text left rest l x y =
    same_read (claim_parts v h) (claims v h) passed after text rest (o, c) (same_claims v h)
    (both_read (openings h.ask h.tasks) (opened v h) o c passed middle after text left rest x y)
claim_result v h o (Err (errors.Fault f)) passed middle after text left rest l x y =
    same_error (claim_parts v h) (claims v h) passed after after text rest rest (errors.Fault f) (same_claims v h)
    (second_error (openings h.ask h.tasks) (opened v h) o passed middle after after text left rest rest (errors.Fault f)
    (unique_opening h.ask h.tasks l) x y)
claim_result v h o (Err errors.Stopped) passed middle after text left rest l x y = tt

-- the end of a claim that a task is too long
pub same_end : (v : Version) (h : Head) (t : ℕ) → IsOpening h.ask h.tasks (opening.TooLong t)
    → Same end_grammar (opened v h (opening.TooLong t))
same_end v h t q = record {
  to = λ u. any.New (new.TooLong t);
  from = λ c. tt;
  to_ranged = λ u r. (opening_task h.ask h.tasks t q, refl);
  from_ranged = λ c r. tt;
  to_rows = λ u r. refl;
  from_rows = from_row;
}
  where
    from_row : (w : AnyClaim) → IsOpened v h (opening.TooLong t) w → fixed (codes "end") ∷ [] ≡ behind_rows h w
    from_row (any.New (new.TooLong x)) r = refl
    from_row (any.New (new.Bounds x u b es l)) r = absurd (cc (r.1))
    from_row (any.Old (old.TooLong x)) r = refl
    from_row (any.Old (old.Bounds x u b ps)) r = absurd (cc (r.1))

unique_new : (v : Version) (p : Bool) (h : Head) (y : ℕ) → pairs_of v ≡ Some p → h.tasks ≤ 1024
    → IsOpening h.ask h.tasks (opening.Lower y) → Unique (opened v h (opening.Lower y))
unfolding same_new from_new
unique_new v p h y s m q =
    unique_same (bounds_parts (lists h.tasks p) h) (opened v h (opening.Lower y))
    (same_new v p h y s (said_lower h.ask h.tasks y q)) (unique_bounds (lists h.tasks p) h (unique_lists h.tasks p m))
    back
  where
    back : (w : AnyClaim) → IsOpened v h (opening.Lower y) w
        → any.New (new.Bounds y (from_new w).0.upper (from_new w).0.balance (from_new w).1.0.entries
        (from_new w).1.0.trail) ≡ w
    back (any.New (new.TooLong x)) r = absurd (cc (r.1))
    back (any.New (new.Bounds x u b es l)) r = (cc (r.1))
    back (any.Old (old.TooLong x)) r = absurd r.0
    back (any.Old (old.Bounds x u b ps)) r = absurd (not_old v p s r.0.0)

unique_opened : (v : Version) (h : Head) (o : Opening) → h.tasks ≤ 1024 → IsOpening h.ask h.tasks o
    → Unique (opened v h o)
unfolding same_end same_old from_old
unique_opened v h (opening.TooLong t) m q = unique_same end_grammar (opened v h (opening.TooLong t)) (same_end v h t q)
    unique_end back
  where
    back : (w : AnyClaim) → IsOpened v h (opening.TooLong t) w → any.New (new.TooLong t) ≡ w
    back (any.New (new.TooLong x)) r = (cc (r.1))
    back (any.New (new.Bounds x u b es l)) r = absurd (cc (r.1))
    back (any.Old (old.TooLong x)) r = absurd r.0
    back (any.Old (old.Bounds x u b ps)) r = absurd (cc (r.1))
unique_opened version.Two h (opening.Lower y) m q = unique_new version.Two false h y refl m q
unique_opened version.Three h (opening.Lower y) m q = unique_new version.Three true h y refl m q
unique_opened version.One h (opening.Lower y) m q =
    unique_same (bounds_parts (counted h.tasks) h) (opened version.One h (opening.Lower y))
    (same_old h y (said_lower h.ask h.tasks y q)) (unique_bounds (counted h.tasks) h (unique_counted h.tasks m))
    back
  where
    back : (w : AnyClaim) → IsOpened version.One h (opening.Lower y) w
        → any.Old (old.Bounds y (from_old w).0.upper (from_old w).0.balance (from_old w).1.0) ≡ w
    back (any.New (new.TooLong x)) r = absurd (cc (r.1))
    back (any.New (new.Bounds x u b es l)) r = absurd r.0.0
    back (any.Old (old.TooLong x)) r = absurd r.0
    back (any.Old (old.Bounds x u b ps)) r = (cc (r.1))

unique_claims : (v : Version) (h : Head) → IsHeadOf h → Unique (claims v h)
unfolding same_claims
unique_claims v h r =
    unique_same (claim_parts v h) (claims v h) (same_claims v h)
    (unique_then (openings h.ask h.tasks) (opened v h) (unique_opening h.ask h.tasks r.few)
    (λ o s. unique_opened v h o r.few s)) (λ c q. refl)

-- all versions
abbrev pub versions : Grammar Version
versions = one version_row (λ v. Unit {0})

-- two texts that differ
pub other_text : (a b : List ℕ) → bytes_eq a b ≡ false → row_text (fixed a) ≡ row_text (fixed b) → ⊥
other_text a b d e =
    false≢true (sym d ∙ (bytes_eq-Decides a b).1 (sym (fixed_text a) ∙ e ∙ fixed_text b))

same_version : (v w : Version) → row_text (version_row v) ≡ row_text (version_row w) → v ≡ w
same_version version.One version.One e = refl
same_version version.Two version.Two e = refl
same_version version.Three version.Three e = refl
same_version version.One version.Two e =
    absurd (other_text (codes "line balance certificate 1") (codes "line balance certificate 2") refl e)
same_version version.One version.Three e =
    absurd (other_text (codes "line balance certificate 1") (codes "line balance certificate 3") refl e)
same_version version.Two version.One e =
    absurd (other_text (codes "line balance certificate 2") (codes "line balance certificate 1") refl e)
same_version version.Two version.Three e =
    absurd (other_text (codes "line balance certificate 2") (codes "line balance certificate 3") refl e)
same_version version.Three version.One e =
    absurd (other_text (codes "line balance certificate 3") (codes "line balance certificate 1") refl e)
same_version version.Three version.Two e =
    absurd (other_text (codes "line balance certificate 3") (codes "line balance certificate 2") refl e)

pub unique_version : Unique versions
unique_version = unique_one version_row (λ v. Unit {0}) (λ v w a b e. same_version v w e)

-- what stands behind the first line of a version
abbrev pub body_parts : Version → Grammar (Head × AnyClaim)
body_parts v = then_ heads (claims v)

abbrev pub any_parts : Grammar (Version × (Head × AnyClaim))
any_parts = then_ versions body_parts

some_head : (h : Head) × IsHeadOf h
some_head = (
  record { kind = Straight; tasks = 1; ask = ask.Stations 1 },
  record { some = lit≤ tt; few = lit≤ tt; ask = one_cycle },
)

pub some_body : (v : Version) → Unit {0} → (b : Head × AnyClaim) × (body_parts v).ranged b
some_body v t = let h = some_head in let c = some_claim v h.0 in ((h.0, c.0), (h.1, c.1))

-- the certificate with one list of entries in a version
abbrev listed : Version → Certificate → AnyCertificate
listed version.One c = newer c
listed version.Two c = newer c
listed version.Three c = newest c

-- the certificate that a version, a head and a claim say
abbrev any_of : AnyClaim → Head → Version → AnyCertificate
any_of (any.New (new.TooLong t)) h version.Two = newer (record {
  kind = h.kind;
  tasks = h.tasks;
  ask = h.ask;
  claim = new.TooLong t;
})
any_of (any.New (new.TooLong t)) h version.Three = newest (record {
  kind = h.kind;
  tasks = h.tasks;
  ask = h.ask;
  claim = new.TooLong t;
})
any_of (any.New (new.TooLong t)) h version.One = older (record {
  kind = h.kind;
  tasks = h.tasks;
  ask = h.ask;
  claim = old.TooLong t;
})
any_of (any.New (new.Bounds x u b es t)) h v = listed v (record {
  kind = h.kind;
  tasks = h.tasks;
  ask = h.ask;
  claim = new.Bounds x u b es t;
})
any_of (any.Old c) h v = older (record { kind = h.kind; tasks = h.tasks; ask = h.ask; claim = c })

abbrev any_claim : OldClaim → AnyClaim
any_claim (old.TooLong t) = any.New (new.TooLong t)
any_claim (old.Bounds x u b ps) = any.Old (old.Bounds x u b ps)

from_any : AnyCertificate → Version × (Head × AnyClaim)
from_any (newer c) = (version.Two, (record { kind = c.kind; tasks = c.tasks; ask = c.ask }, any.New c.claim))
from_any (newest c) = (version.Three, (record { kind = c.kind; tasks = c.tasks; ask = c.ask }, any.New c.claim))
from_any (older o) = (version.One, (record { kind = o.kind; tasks = o.tasks; ask = o.ask }, any_claim o.claim))

any_in_range : (v : Version) (h : Head) (c : AnyClaim) → IsHeadOf h → IsClaimOf v h c → IsAnyInRange (any_of c h v)
any_in_range version.Two h (any.New (new.TooLong t)) r s = (
  record { some = r.some; few = r.few; ask = r.ask; claim = s },
  refl,
)
any_in_range version.Three h (any.New (new.TooLong t)) r s = record {
  some = r.some;
  few = r.few;
  ask = r.ask;
  claim = s;
}
any_in_range version.One h (any.New (new.TooLong t)) r s = record { some = r.some; few = r.few; ask = r.ask; claim = s }
any_in_range version.Two h (any.New (new.Bounds x u b es t)) r s = (
  record { some = r.some; few = r.few; ask = r.ask; claim = s.1 },
  plain_least es s.0,
)
any_in_range version.Three h (any.New (new.Bounds x u b es t)) r s = record {
  some = r.some;
  few = r.few;
  ask = r.ask;
  claim = s.1;
}
any_in_range version.One h (any.New (new.Bounds x u b es t)) r s = absurd s.0
any_in_range v h (any.Old (old.TooLong t)) r s = absurd s
any_in_range v h (any.Old (old.Bounds x u b ps)) r s = record { some = r.some; few = r.few; ask = r.ask; claim = s.1 }

pub same_any : Same any_parts both
unfolding from_any old_rows
same_any = record {
  to = λ x. any_of x.1.1 x.1.0 x.0;
  from = from_any;
  to_ranged = λ x r. any_in_range x.0 x.1.0 x.1.1 r.1.0 r.1.1;
  from_ranged = from_range;
  to_rows = λ x r. to_row x.0 x.1.0 x.1.1 r.1.1;
  from_rows = λ x r. from_row x;
}
  where
    new_range : (h : Head) (c : Claim) → IsClaim h.kind h.tasks h.ask c → least_version c ≡ version.Two
        → IsClaimOf version.Two h (any.New c)
    new_range h (new.TooLong t) r e = r
    new_range h (new.Bounds x u b es t) r e = (plain_entries es e, r)

    newest_range : (h : Head) (c : Claim) → IsClaim h.kind h.tasks h.ask c → IsClaimOf version.Three h (any.New c)
    newest_range h (new.TooLong t) r = r
    newest_range h (new.Bounds x u b es t) r = (tt, r)

    old_range : (h : Head) (c : OldClaim) → IsOldClaim h.kind h.tasks h.ask c → IsClaimOf version.One h (any_claim c)
    old_range h (old.TooLong t) r = r
    old_range h (old.Bounds x u b ps) r = (refl, r)

    from_range : (x : AnyCertificate) → IsAnyInRange x → any_parts.ranged (from_any x)
    from_range (newer c) r = (
      tt,
      (
        record { some = r.0.some; few = r.0.few; ask = r.0.ask },
        new_range (from_any (newer c)).1.0 c.claim r.0.claim r.1,
      ),
    )
    from_range (newest c) r = (
      tt,
      (
        record { some = r.some; few = r.few; ask = r.ask },
        newest_range (from_any (newest c)).1.0 c.claim r.claim,
      ),
    )
    from_range (older o) r = (
      tt,
      (
        record { some = r.some; few = r.few; ask = r.ask },
        old_range (from_any (older o)).1.0 o.claim r.claim,
      ),
    )

    to_row : (v : Version) (h : Head) (c : AnyClaim) → IsClaimOf v h c
        → any_rows (any_of c h v) ≡ any_parts.rows (v, (h, c))
    to_row version.Two h (any.New (new.TooLong t)) s = refl
    to_row version.Three h (any.New (new.TooLong t)) s = refl
    to_row version.One h (any.New (new.TooLong t)) s = refl
    to_row version.Two h (any.New (new.Bounds x u b es t)) s = refl
    to_row version.Three h (any.New (new.Bounds x u b es t)) s = refl
    to_row version.One h (any.New (new.Bounds x u b es t)) s = absurd s.0
    to_row v h (any.Old (old.TooLong t)) s = absurd s
    to_row version.Two h (any.Old (old.Bounds x u b ps)) s = absurd (cc (s.0))
    to_row version.Three h (any.Old (old.Bounds x u b ps)) s = absurd (cc (s.0))
    to_row version.One h (any.Old (old.Bounds x u b ps)) s = refl

    new_row : (v : Version) (h : Head) (c : Claim) → (claims v h).rows (any.New c) ≡ claim_rows h.kind h.tasks c
    new_row v h (new.TooLong t) = refl
    new_row v h (new.Bounds x u b es t) = refl

    old_row : (h : Head) (c : OldClaim) → (claims version.One h).rows (any_claim c) ≡ old_claim_rows h.kind h.tasks c
    old_row h (old.TooLong t) = refl
    old_row h (old.Bounds x u b ps) = refl

    from_row : (x : AnyCertificate) → any_parts.rows (from_any x) ≡ any_rows x
    from_row (newer c) = ap (λ z. version_row version.Two ∷ (head_rows c.kind c.tasks c.ask ++ z))
        (new_row version.Two (from_any (newer c)).1.0 c.claim)
    from_row (newest c) = ap (λ z. version_row version.Three ∷ (head_rows c.kind c.tasks c.ask ++ z))
        (new_row version.Three (from_any (newest c)).1.0 c.claim)
    from_row (older o) = ap (λ z. version_row version.One ∷ (head_rows o.kind o.tasks o.ask ++ z))
        (old_row (from_any (older o)).1.0 o.claim)

-- the lines of a certificate of any version begin those of no other
pub unique_both : Unique both
unfolding same_any from_any
unique_both = unique_same any_parts both same_any (unique_then versions body_parts unique_version
    (λ v t. unique_then heads (claims v) unique_heads (λ h r. unique_claims v h r))) back
  where
    new_back : (h : Head) (c : Claim) → any_of (any.New c) h version.Two
        ≡ newer (record { kind = h.kind; tasks = h.tasks; ask = h.ask; claim = c })
    new_back h (new.TooLong t) = refl
    new_back h (new.Bounds x u b es t) = refl

    newest_back : (h : Head) (c : Claim) → any_of (any.New c) h version.Three
        ≡ newest (record { kind = h.kind; tasks = h.tasks; ask = h.ask; claim = c })
    newest_back h (new.TooLong t) = refl
    newest_back h (new.Bounds x u b es t) = refl

    old_back : (h : Head) (c : OldClaim) → any_of (any_claim c) h version.One
        ≡ older (record { kind = h.kind; tasks = h.tasks; ask = h.ask; claim = c })
    old_back h (old.TooLong t) = refl
    old_back h (old.Bounds x u b ps) = refl

    back : (x : AnyCertificate) → IsAnyInRange x → any_of (from_any x).1.1 (from_any x).1.0 (from_any x).0 ≡ x
    back (newer c) r = new_back (from_any (newer c)).1.0 c.claim
    back (newest c) r = newest_back (from_any (newest c)).1.0 c.claim
    back (older o) r = old_back (from_any (older o)).1.0 o.claim

-- a certificate of the parts is within its ranges, and is what they say, or its lift
certificate_is : (v : Version) (h : Head) (c : AnyClaim) → certificate_of h c ≡ lifted (any_of c h v)
certificate_is version.Two h (any.New (new.TooLong t)) = refl
certificate_is version.Three h (any.New (new.TooLong t)) = refl
certificate_is version.One h (any.New (new.TooLong t)) = refl
certificate_is version.Two h (any.New (new.Bounds x u b es t)) = refl
certificate_is version.Three h (any.New (new.Bounds x u b es t)) = refl
certificate_is version.One h (any.New (new.Bounds x u b es t)) = refl
certificate_is v h (any.Old c) = refl

pub old_in_range : (v : Version) (h : Head) (c : OldClaim) → IsHeadOf h → IsClaimOf v h (any.Old c)
    → IsOldInRange (record { kind = h.kind; tasks = h.tasks; ask = h.ask; claim = c })
old_in_range v h (old.TooLong t) r s = absurd s
old_in_range v h (old.Bounds x u b ps) r s = any_in_range v h (any.Old (old.Bounds x u b ps)) r s

pub all_said : (v : Version) (h : Head) (c : AnyClaim) (cert : Certificate) → IsHeadOf h → IsClaimOf v h c
    → cert ≡ certificate_of h c → IsInRange cert
all_said v h c cert r s e = let P : Certificate → Type 0 = IsInRange in
    subst P (sym (e ∙ certificate_is v h c)) (said (any_of c h v) (any_in_range v h c r s))
  where
    said : (x : AnyCertificate) → IsAnyInRange x → IsInRange (lifted x)
    said (newer c) r = r.0
    said (newest c) r = r
    said (older o) r = lifted_in o (lifted (older o)) refl r

pub all_read : (v : Version) (h : Head) (c : AnyClaim) (cert : Certificate) (passed second third after : ℕ)
    (text left behind rest : List ℕ) → IsRead versions passed text left second (Ok v)
    → IsRead heads second left behind third (Ok h) → IsRead (claims v h) third behind rest after (Ok c)
    → cert ≡ certificate_of h c → IsAnyRead passed text rest after (Ok cert)
unfolding same_any
all_read v h c cert passed second third after text left behind rest x y z e = (
  any_of c h v,
  e ∙ certificate_is v h c,
  same_read any_parts both passed after text rest (v, (h, c)) same_any
      (both_read versions body_parts v (h, c) passed second after text left rest x
      (both_read heads (claims v) h c second third after left behind rest y z)),
)

-- an error is handed on
pub any_hand : (passed after : ℕ) (text rest : List ℕ) (r : Result Certificate ReadError) (e : ReadError)
    → IsErrAnd r (λ y. y ≡ e) → Fails both passed text e → IsAnyRead passed text rest after r
any_hand passed after text rest (Ok c) e h f = absurd h
any_hand passed after text rest (Err x) e h f = hand both passed after text rest (Err x) e h f
