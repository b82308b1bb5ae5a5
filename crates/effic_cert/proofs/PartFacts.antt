-- The parts of the text of a certificate of a product, and that the whole of them says one certificate at most.
use Rattle.std.proofs.Common.{◌≡◌, ℕ, ◌≤◌, Bool, true, false, cond, List, refl, sym, subst, lit<, lit≤}
use Rattle.std.specs.Prelude.{codes}
use Rattle.line_rules.specs.declared.types.LineKind.{LineKind}
use Rattle.line_rules.specs.declared.types.Balance.{Balance as Assignment}
use Rattle.cert_lines.specs.Faults.{Grammar}
use Rattle.cert_lines.specs.Pattern.{one, then_}
use Rattle.cert_lines.specs.Rows.{keyed, row_text}
use Rattle.cert_lines.proofs.NumberWords.{lacks}
use Rattle.line_rules.specs.declared.types.Entry.{Entry}
use Rattle.line_rules.specs.declared.products.EfficCert.{EfficCert}
use Rattle.cert_lines.specs.declared.line_forms.Key.TheVariants as keys
use Rattle.cert_text.specs.Parts.{MayHave, seatings, lists}
use Rattle.cert_text.specs.Cert.{has_pairs}
use Rattle.cert_text.specs.declared.parts.EntryList.{EntryList}
use Rattle.cert_text.proofs.PartSequences.{Same, texts}
use Rattle.cert_text.proofs.LineTexts.{AllLack, row_lacks, lack_both, list_lacks}
use Rattle.cert_text.proofs.CertificateParts.{numbers, kinds, tasks_grammar}
use Rattle.cert_text.proofs.Claims.{end_grammar}
use Rattle.text_grammar.specs.Texts.{Tells, TellsLine}
use Rattle.text_grammar.proofs.TextFacts.{one_tells, led_tells, same_tells, none_begins}
use Rattle.text_grammar.proofs.LineFacts.{Ready, line_ready, kind_ready, number_ready, end_ready, both_ready, end_tells}
use Rattle.text_grammar.proofs.TwoParts.{TwoParts, parted}
use Rattle.line_rules.specs.Products.{IsProduct}
use Rattle.effic_cert.specs.Product.{may_have_pairs, least_version}
use Rattle.effic_cert.specs.Faults.{products}
use Rattle.effic_cert.specs.inner.Parts.{bound_text, AreEnds, ends_row, version_row, bodies}
use Rattle.effic_cert.specs.declared.version.Version.{Version}
use Rattle.effic_cert.specs.declared.version.Version.TheVariants as version
use Rattle.effic_cert.proofs.VersionLines.{version_one}
use Rattle.effic_cert.specs.Laws.{NoProductTextBeginsAnother}
use Rattle.effic_cert.specs.declared.lines.Bound.{Bound}
use Rattle.effic_cert.specs.declared.lines.Bound.TheVariants as sides
use Rattle.effic_cert.proofs.LineFacts.{stations_tell, bound_tells}
use Rattle.effic_cert.proofs.ListFacts.{seats_plain, seats_ready, lists_ready}

-- what is asked
abbrev ends : Grammar (ℕ × ℕ)
ends = one ends_row AreEnds

abbrev tasks_ends : Grammar (ℕ × (ℕ × ℕ))
tasks_ends = then_ tasks_grammar (λ n. ends)

abbrev asked : Grammar (LineKind × (ℕ × (ℕ × ℕ)))
asked = then_ kinds (λ k. tasks_ends)

-- the cycle and the bounds
abbrev cycles : Grammar ℕ
cycles = numbers (codes "cycle") 1 1000000000000000000

abbrev lowers : Grammar ℕ
lowers = one (keyed (codes "lower")) IsProduct

abbrev uppers : Grammar ℕ
uppers = one (keyed (codes "upper")) IsProduct

abbrev both : Grammar (ℕ × ℕ)
both = then_ lowers (λ l. uppers)

abbrev bounds : Grammar (ℕ × (ℕ × ℕ))
bounds = then_ cycles (λ c. both)

-- all that stands in front of the balance
abbrev pub Head : Type 0
Head = (LineKind × (ℕ × (ℕ × ℕ))) × (ℕ × (ℕ × ℕ))

abbrev pub heads : Grammar Head
heads = then_ asked (λ a. bounds)

abbrev bound_ready : (b : Bound) → Ready (one (keyed (bound_text b)) IsProduct)
bound_ready b = line_ready (keyed (bound_text b)) IsProduct (Unit {0}) tt (bound_tells b)

abbrev pub head_ready : Ready heads
head_ready =
    both_ready asked bounds
    (both_ready kinds tasks_ends kind_ready
    (both_ready tasks_grammar ends (number_ready keys.Tasks 1 1024 (lit≤ tt) (lit< tt))
    (line_ready ends_row AreEnds (Unit {0}) tt stations_tell)))
    (both_ready cycles both (number_ready keys.Cycle 1 1000000000000000000 (lit≤ tt) (lit< tt))
    (both_ready lowers uppers (bound_ready sides.Lower) (bound_ready sides.Upper)))

-- what shows the bounds
abbrev pub list_end : ℕ → Bool → Grammar (EntryList × Unit {0})
list_end n p = then_ (lists n p) (λ l. end_grammar)

abbrev pub showns : LineKind → ℕ → Bool → Grammar (Assignment × (EntryList × Unit {0}))
showns kind n p = then_ (seatings kind n) (λ b. list_end n p)

abbrev pub shown_ready : (kind : LineKind) (n : ℕ) (p : Bool) → 1 ≤ n → n ≤ 1024 → Ready (showns kind n p)
shown_ready kind n p some few =
    both_ready (seatings kind n) (list_end n p) (seats_ready kind n some few)
    (both_ready (lists n p) end_grammar (lists_ready n p some few) end_ready)

-- what stands behind the first line
abbrev pub behind : Bool → Head → Grammar (Assignment × (EntryList × Unit {0}))
behind p h = showns h.0.0 h.0.1.0 p

abbrev pub body_parts : Bool → Grammar (Head × (Assignment × (EntryList × Unit {0})))
body_parts p = then_ heads (behind p)

unfoldable pub same_bodies : (p : Bool) → Same (body_parts p) (bodies p)
same_bodies p = record {
  to = λ v. record {
    kind = v.0.0.0;
    tasks = v.0.0.1.0;
    least_m = v.0.0.1.1.0;
    most_m = v.0.0.1.1.1;
    cycle = v.0.1.0;
    lower = v.0.1.1.0;
    upper = v.0.1.1.1;
    balance = v.1.0;
    entries = v.1.1.0.entries;
    trail = v.1.1.0.trail;
  };
  from = λ c. (
    ((c.kind, (c.tasks, (c.least_m, c.most_m))), (c.cycle, (c.lower, c.upper))),
    (c.balance, (record { entries = c.entries; trail = c.trail }, tt)),
  );
  to_ranged = λ v r. (
    record {
      some = r.0.0.1.0.0;
      few = r.0.0.1.0.1;
      least = r.0.0.1.1.0;
      most = r.0.0.1.1.1;
      cycle = record { some = r.0.1.0.0; limit = r.0.1.0.1 };
      lower = r.0.1.1.0;
      upper = r.0.1.1.1;
      balance = r.1.0;
      entries = r.1.1.0.0;
      trail = r.1.1.0.1;
    },
    r.1.1.0.2,
  );
  from_ranged = λ c r. (
    (
      (tt, ((r.0.some, r.0.few), (r.0.least, r.0.most))),
      ((r.0.cycle.some, r.0.cycle.limit), (r.0.lower, r.0.upper)),
    ),
    (r.0.balance, ((r.0.entries, r.0.trail, r.1), tt)),
  );
  to_rows = λ v r. refl;
  from_rows = λ c r. refl;
}

pub behind_tells : (p : Bool) (h : Head) → heads.ranged h → Tells (behind p h)
behind_tells p h r = (shown_ready h.0.0 h.0.1.0 p r.0.1.0.0 r.0.1.0.1).tells

-- lines without an LF, whatever is said
behind_plain : (p : Bool) (h : Head) (v : Assignment × (EntryList × Unit {0})) → AllLack (texts ((behind p h).rows v))
behind_plain p h v =
    lack_both ((seatings h.0.0 h.0.1.0).rows v.0) ((list_end h.0.1.0 p).rows v.1) (seats_plain h.0.0 v.0)
    (lack_both ((lists h.0.1.0 p).rows v.1.0) (end_grammar.rows v.1.1) (list_lacks h.0.1.0 v.1.0.entries v.1.0.trail)
    (end_tells.plain v.1.1, tt))

-- both parts of what stands behind the first line
abbrev pub body : (p : Bool) → TwoParts heads (behind p) (bodies p)
body p = parted head_ready.tells (behind_tells p) (same_bodies p)

pub bodies_tell : (p : Bool) → Tells (bodies p)
unfolding same_bodies
bodies_tell p = same_tells (body_parts p) (bodies p) (same_bodies p) (λ c r. refl) (λ c. refl)
    (led_tells heads (behind p) head_ready.tells (behind_tells p) (behind_plain p))

-- the first line, which tells the version
abbrev pub versions : Grammar Version
versions = one version_row (λ v. Unit {0})

line_plain : (v : Version) → lacks 10 (row_text (version_row v)) ≡ true
line_plain version.One = row_lacks (version_row version.One) refl
line_plain version.Two = row_lacks (version_row version.Two) refl

pub version_tells : TellsLine version_row (λ v. Unit {0})
version_tells = record { one = λ v w a b e. version_one v w e; some = (version.One, tt); plain = line_plain }

abbrev pub bodies_of : Version → Grammar EfficCert
bodies_of v = bodies (may_have_pairs v)

abbrev pub text_parts : Grammar (Version × EfficCert)
text_parts = then_ versions bodies_of

unfoldable pub same_texts : Same text_parts products
same_texts = record {
  to = λ x. record { version = x.0; cert = x.1 };
  from = λ c. (c.version, c.cert);
  to_ranged = λ x r. r.1;
  from_ranged = λ c r. (tt, r);
  to_rows = λ x r. refl;
  from_rows = λ c r. refl;
}

-- the first line, and what stands behind it
abbrev pub text : TwoParts versions bodies_of products
text = parted (one_tells version_row (λ v. Unit {0}) version_tells) (λ v r. bodies_tell (may_have_pairs v)) same_texts

-- the lines of a certificate as they are told apart
pub products_tell : Tells products
unfolding same_texts
products_tell = same_tells text_parts products same_texts (λ c r. refl) (λ c. refl)
    (led_tells versions bodies_of (one_tells version_row (λ v. Unit {0}) version_tells)
    (λ v r. bodies_tell (may_have_pairs v)) (λ v c. (bodies_tell (may_have_pairs v)).plain c))

-- the version that is written can hold the entries
pub written_may : (es : List Entry) → MayHave (may_have_pairs (least_version es)) es
written_may es = may (has_pairs es) refl
  where
    may : (t : Bool) → has_pairs es ≡ t → MayHave (may_have_pairs (least_version es)) es
    may t e = let P : Bool → Type 0 = λ b. MayHave (may_have_pairs (cond b version.Two version.One)) es in
        subst P (sym e) (held t e)
      where
        held : (t : Bool) → has_pairs es ≡ t → MayHave (may_have_pairs (cond t version.Two version.One)) es
        held true e = tt
        held false e = e

-- no text of a certificate begins that of another
pub begins_none : NoProductTextBeginsAnother
begins_none = none_begins products products_tell
