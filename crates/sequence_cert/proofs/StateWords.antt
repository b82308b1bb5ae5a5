-- Lines of charges and of states that are written are read, and what is read is how they are written.
use Rattle.std.proofs.Common.{◌≡◌, ℕ, true, cond, nat_eq, List, [], ◌∷◌, ◌++◌, length, map, refl}
use Rattle.std.proofs.Common.{sym, ◌∙◌, ap, arith, Some, None, Option, inl, inr}
use Rattle.std.specs.Prelude.{codes, bytes_eq}
use Rattle.std.specs.List.{flat_map}
use Rattle.std.proofs.lemmas.List.{length-map}
use Rattle.std.proofs.lemmas.Option.{same_Some, none-some}
use Rattle.std.proofs.lemmas.Bool.{eqb-true, eq-eqb}
use Rattle.line_io.specs.Lines.{value_of}
use Rattle.cert_lines.specs.Numbers.{number_text, cites_text}
use Rattle.cert_lines.specs.Rows.{state_frame, number_or_none, row_text}
use Rattle.cert_lines.specs.Words.{◌>>=◌, parts_at, number_in, number_first, cites_in, is_none}
use Rattle.cert_lines.proofs.NumberWords.{lacks, high_lacks, number_high, number_again}
use Rattle.cert_lines.proofs.NumberWords.{number_found, number_first_again, split_again, bind_some, lacks_append}
use Rattle.cert_lines.proofs.CiteWords.{sat, cites_again, cites_found, is_none_word, none_of_high}
use Rattle.cert_lines.proofs.EntryLines.{number_first_found}
use Rattle.cert_lines.proofs.Lists.{split_parts, chosen}
use Rattle.sequence_rules.specs.Ranges.{HasCharges, numbers_by}
use Rattle.sequence_values.specs.declared.types.SeqEntry.{SeqEntry}
use Rattle.sequence_values.specs.declared.types.SeqWhy.{SeqWhy}
use Rattle.sequence_values.specs.declared.types.SeqWhy.TheVariants as why
use Rattle.sequence_cert.specs.SequenceText.{charges_row, row_by, entry_row}
use Rattle.sequence_cert.specs.inner.Versions.{mark_of}
use Rattle.sequence_cert.specs.inner.StateReading.{many_in, charges_in, state_in, bound_in, why_of, cited_in, charge_in}
use Rattle.sequence_cert.specs.inner.StateReading.{entry_in, last_in, open_in, frame_in}
use Rattle.sequence_cert.specs.declared.version.Version.{Version}
use Rattle.sequence_cert.specs.declared.version.Version.TheVariants as version
use Rattle.sequence_cert.specs.declared.words.FrameDraft.{FrameDraft}
use Rattle.sequence_cert.specs.declared.words.Citing.{Citing}
use Rattle.sequence_cert.specs.declared.words.Citing.TheVariants as citing
use Rattle.line_io.proofs.ReadFacts.{same_bytes}

-- words without a blank
number_lacks : (n : ℕ) → lacks 32 (number_text n) ≡ true
number_lacks n = high_lacks 32 (number_text n) (omega arith) (number_high n)

tail_lacks : (cs : List ℕ) → lacks 32 (flat_map (λ d. 44 ∷ number_text d) cs) ≡ true
tail_lacks [] = refl
tail_lacks (c ∷ cs) = lacks_append (number_text c) (flat_map (λ d. 44 ∷ number_text d) cs) (number_lacks c)
    (tail_lacks cs)

cites_lack : (cs : List ℕ) → lacks 32 (cites_text cs) ≡ true
cites_lack [] = refl
cites_lack (c ∷ cs) = lacks_append (number_text c) (flat_map (λ d. 44 ∷ number_text d) cs) (number_lacks c)
    (tail_lacks cs)

last_lacks : (l : Option ℕ) → lacks 32 (number_or_none l) ≡ true
last_lacks None = refl
last_lacks (Some n) = number_lacks n

many_again : (n : ℕ) (ns : List ℕ) → length ns ≡ n → many_in n (cites_text ns) ≡ Some (map sat ns)
unfolding many_in
many_again n ns l =
    ap (λ o. o >>= λ ms. cond (nat_eq (length ms) n) (Some ms) None) (cites_again ns)
    ∙ ap (λ b. cond b (Some (map sat ns)) None) (eq-eqb (length (map sat ns)) n (length-map ns sat ∙ l))

many_found : (n : ℕ) (word ns : List ℕ) → many_in n word ≡ Some ns
    → (cs : List ℕ) × (cites_text cs ≡ word) × (map sat cs ≡ ns) × (length cs ≡ n)
unfolding many_in
many_found n word ns e =
    let a = bind_some (cites_in word) (λ ms. cond (nat_eq (length ms) n) (Some ms) None) ns e in
    let f = cites_found word a.0 a.1 in
    elim (chosen (nat_eq (length a.0) n) (Some a.0) None (Some ns) a.2) [
      | inl h ↦ (
        f.0,
        f.1,
        f.2 ∙ same_Some a.0 ns h.1,
        sym (length-map f.0 sat) ∙ ap length f.2 ∙ eqb-true
            (length a.0) n h.0,
      )
      | inr h ↦ absurd (none-some ns h.1)
    ]

-- the line of the charges
pub charges_again : (m : ℕ) (ns : List ℕ) → length ns ≡ m → charges_in m (row_text (charges_row ns)) ≡ Some (map sat ns)
unfolding row_text charges_in
charges_again m ns l =
    ap (λ o. o >>= λ k. cond (bytes_eq k.0 (codes "charges")) (many_in m k.1) None)
    (split_again 32 (codes "charges") (cites_text ns) refl)
    ∙ many_again m ns l

pub charges_found : (m : ℕ) (line ns : List ℕ) → charges_in m line ≡ Some ns
    → (cs : List ℕ) × (row_text (charges_row cs) ≡ line) × (map sat cs ≡ ns) × (length cs ≡ m)
unfolding row_text charges_in
charges_found m line ns e =
    let k = bind_some (parts_at 32 line) (λ k. cond (bytes_eq k.0 (codes "charges")) (many_in m k.1) None) ns e in
    elim (chosen (bytes_eq k.0.0 (codes "charges")) (many_in m k.0.1) None (Some ns) k.2) [
      | inl a ↦ (let f = many_found m k.0.1 ns a.1 in (
        f.0,
        ap (λ w. codes "charges" ++ 32 ∷ w) f.1
            ∙ ap (λ w. w ++ 32 ∷ k.0.1) (sym (same_bytes k.0.0 (codes "charges") a.0))
            ∙ sym (split_parts 32 line k.0 k.1),
        f.2,
        f.3,
      ))
      | inr a ↦ absurd (none-some ns a.1)
    ]

-- the text of a state, and more
abbrev pub stated : List ℕ → List ℕ → List ℕ → List ℕ
stated rem starts rest = cites_text rem ++ 32 ∷ (cites_text starts ++ 32 ∷ rest)

state_again : (m n : ℕ) (rem starts rest : List ℕ) → length rem ≡ m → length starts ≡ n
    → state_in m n (stated rem starts rest) ≡ Some ((map sat rem, map sat starts), rest)
unfolding state_in
state_again m n rem starts rest p q =
    ap (λ o. o >>= λ r. many_in m r.0 >>= λ xs. parts_at 32 r.1 >>= λ s. many_in n s.0 >>= λ ys. Some ((xs, ys), s.1))
    (split_again 32 (cites_text rem) (cites_text starts ++ 32 ∷ rest) (cites_lack rem))
    ∙ ap (λ o. o >>= λ xs. parts_at 32 (cites_text starts ++ 32 ∷ rest) >>= λ s. many_in n s.0 >>= λ ys. Some
    ((xs, ys), s.1))
    (many_again m rem p)
    ∙ ap (λ o. o >>= λ s. many_in n s.0 >>= λ ys. Some ((map sat rem, ys), s.1))
    (split_again 32 (cites_text starts) rest (cites_lack starts))
    ∙ ap (λ o. o >>= λ ys. Some ((map sat rem, ys), rest)) (many_again n starts q)

-- a state that was read
pub record StateFound (models stations : ℕ) (bytes : List ℕ) (x : (List ℕ × List ℕ) × List ℕ) : Type 0 where
  pub rem : List ℕ
  pub starts : List ℕ
  pub text : bytes ≡ stated rem starts x.1
  pub many : length rem ≡ models
  pub wide : length starts ≡ stations
  pub left : map sat rem ≡ x.0.0
  pub begun : map sat starts ≡ x.0.1

state_found : (models stations : ℕ) (bytes : List ℕ) (x : (List ℕ × List ℕ) × List ℕ)
    → state_in models stations bytes ≡ Some x
    → StateFound models stations bytes x
unfolding state_in
state_found models stations bytes x e =
    let r = bind_some (parts_at 32 bytes)
    (λ r. many_in models r.0 >>= λ xs. parts_at 32 r.1 >>= λ s. many_in stations s.0 >>= λ ys. Some
    ((xs, ys), s.1)) x e in
    let a = bind_some (many_in models r.0.0)
    (λ xs. parts_at 32 r.0.1 >>= λ s. many_in stations s.0 >>= λ ys. Some ((xs, ys), s.1)) x r.2 in
    let s = bind_some (parts_at 32 r.0.1) (λ s. many_in stations s.0 >>= λ ys. Some ((a.0, ys), s.1)) x a.2 in
    let b = bind_some (many_in stations s.0.0) (λ ys. Some ((a.0, ys), s.0.1)) x s.2 in
    let f = many_found models r.0.0 a.0 a.1 in
    let g = many_found stations s.0.0 b.0 b.1 in
    let y : ((a.0, b.0), s.0.1) ≡ x = same_Some ((a.0, b.0), s.0.1) x b.2 in
    record {
      rem = f.0;
      starts = g.0;
      text = split_parts 32 bytes r.0 r.1 ∙ ap (λ w. w ++ 32 ∷ r.0.1) (sym f.1)
          ∙ ap (λ w. cites_text f.0 ++ 32 ∷ w) (split_parts 32 r.0.1 s.0 s.1 ∙ ap (λ w. w ++ 32 ∷ s.0.1) (sym g.1))
          ∙ ap (λ z. stated f.0 g.0 z.1) y;
      many = f.3;
      wide = g.3;
      left = f.2 ∙ ap (λ z. z.0.0) y;
      begun = g.2 ∙ ap (λ z. z.0.1) y;
    }

-- entries
abbrev pub the_entry : List ℕ → List ℕ → ℕ → SeqWhy → SeqEntry
the_entry rem starts least w = record { rem = rem; starts = starts; least = least; why = w }

-- what is read of a reason, and of an entry
abbrev pub sat_why : SeqWhy → SeqWhy
sat_why why.Bound = why.Bound
sat_why (why.Branch cites) = why.Branch (map sat cites)
sat_why (why.Charge cites) = why.Charge (map sat cites)

abbrev pub sat_entry : SeqEntry → SeqEntry
sat_entry e = the_entry (map sat e.rem) (map sat e.starts) (sat e.least) (sat_why e.why)

-- Charge is a reason in version 2 alone
abbrev pub MayStand : Version → SeqWhy → Type 0
MayStand v why.Bound = Unit {0}
MayStand v (why.Branch cites) = Unit {0}
MayStand v (why.Charge cites) = HasCharges (mark_of v)

-- an entry that may be written, its numbers of any size
pub record IsWritten (v : Version) (models stations : ℕ) (e : SeqEntry) : Type 0 where
  pub stands : MayStand v e.why
  pub many : length e.rem ≡ numbers_by models e.why
  pub wide : length e.starts ≡ stations

-- the line of an entry by its first word
abbrev by_word : Version → ℕ → ℕ → List ℕ → List ℕ → Option SeqEntry
by_word v models stations word rest =
    cond (bytes_eq word (codes "bound")) (bound_in models stations rest)
    (cond (bytes_eq word (codes "branch")) (cited_in citing.Branch models stations rest)
    (charge_in v stations word rest))

split_word : (v : Version) (models stations : ℕ) (word rest : List ℕ) → lacks 32 word ≡ true
    → entry_in v models stations (word ++ 32 ∷ rest) ≡ by_word v models stations word rest
unfolding entry_in
split_word v models stations word rest e = ap (λ o. o >>= λ k. by_word v models stations k.0 k.1)
    (split_again 32 word rest e)

bound_again : (m n : ℕ) (rem starts : List ℕ) (least : ℕ) → length rem ≡ m → length starts ≡ n
    → bound_in m n (stated rem starts (number_text least))
    ≡ Some (the_entry (map sat rem) (map sat starts) (sat least) why.Bound)
unfolding bound_in
bound_again m n rem starts least p q =
    ap (λ o. o >>= λ s. number_in s.1 >>= λ l. Some (the_entry s.0.0 s.0.1 l why.Bound))
    (state_again m n rem starts (number_text least) p q)
    ∙ ap (λ o. o >>= λ l. Some (the_entry (map sat rem) (map sat starts) l why.Bound)) (number_again least)

cited_again : (kind : Citing) (m n : ℕ) (rem starts : List ℕ) (least : ℕ) (cites : List ℕ) → length rem ≡ m
    → length starts ≡ n
    → cited_in kind m n (stated rem starts (number_text least ++ 32 ∷ cites_text cites))
    ≡ Some (the_entry (map sat rem) (map sat starts) (sat least) (why_of kind (map sat cites)))
unfolding cited_in
cited_again kind m n rem starts least cites p q =
    ap (λ o. o >>= λ s. number_first s.1 >>= λ l. cites_in l.1 >>= λ cs. Some
    (the_entry s.0.0 s.0.1 l.0 (why_of kind cs)))
    (state_again m n rem starts (number_text least ++ 32 ∷ cites_text cites) p q)
    ∙ ap (λ o. o >>= λ l. cites_in l.1 >>= λ cs. Some
    (the_entry (map sat rem) (map sat starts) l.0 (why_of kind cs)))
    (number_first_again least (cites_text cites))
    ∙ ap (λ o. o >>= λ cs. Some (the_entry (map sat rem) (map sat starts) (sat least) (why_of kind cs)))
    (cites_again cites)

written_again : (v : Version) (m n : ℕ) (rem starts : List ℕ) (least : ℕ) (w : SeqWhy) → MayStand v w
    → length rem ≡ numbers_by m w → length starts ≡ n
    → entry_in v m n (row_text (row_by (the_entry rem starts least w) w))
    ≡ Some (the_entry (map sat rem) (map sat starts) (sat least) (sat_why w))
unfolding row_text
written_again v m n rem starts least why.Bound h p q =
    split_word v m n (codes "bound") (stated rem starts (number_text least)) refl
    ∙ bound_again m n rem starts least p q
written_again v m n rem starts least (why.Branch cites) h p q =
    split_word v m n (codes "branch") (stated rem starts (number_text least ++ 32 ∷ cites_text cites)) refl
    ∙ cited_again citing.Branch m n rem starts least cites p q
written_again version.One m n rem starts least (why.Charge cites) h p q = absurd h
written_again version.Two m n rem starts least (why.Charge cites) h p q =
    split_word version.Two m n (codes "charge") (stated rem starts (number_text least ++ 32 ∷ cites_text cites)) refl
    ∙ cited_again citing.Charge 1 n rem starts least cites p q

pub entry_again : (v : Version) (m n : ℕ) (e : SeqEntry) → IsWritten v m n e
    → entry_in v m n (row_text (entry_row e)) ≡ Some (sat_entry e)
entry_again v m n e h = written_again v m n e.rem e.starts e.least e.why h.stands h.many h.wide

-- an entry that was read
pub record EntryFound (v : Version) (models stations : ℕ) (line : List ℕ) (e : SeqEntry) : Type 0 where
  pub written : SeqEntry
  pub may : IsWritten v models stations written
  pub text : row_text (entry_row written) ≡ line
  pub is : sat_entry written ≡ e

-- entries whose parts are equal
pub same_parts : (a b c d : List ℕ) (m n : ℕ) (v w : SeqWhy) → a ≡ b → c ≡ d → m ≡ n → v ≡ w
    → the_entry a c m v ≡ the_entry b d n w
same_parts a b c d m n v w e f g h =
    ap (λ z. the_entry z c m v) e ∙ ap (λ z. the_entry b z m v) f ∙ ap (λ z. the_entry b d z v) g
    ∙ ap (λ z. the_entry b d n z) h

bound_found : (v : Version) (models stations : ℕ) (bytes : List ℕ) (e : SeqEntry)
    → bound_in models stations bytes ≡ Some e
    → EntryFound v models stations (codes "bound" ++ 32 ∷ bytes) e
unfolding bound_in row_text
bound_found v models stations bytes e h =
    let a = bind_some (state_in models stations bytes)
    (λ s. number_in s.1 >>= λ l. Some (the_entry s.0.0 s.0.1 l why.Bound)) e h in
    let b = bind_some (number_in a.0.1) (λ l. Some (the_entry a.0.0.0 a.0.0.1 l why.Bound)) e a.2 in
    let s = state_found models stations bytes a.0 a.1 in
    let f = number_found a.0.1 b.0 b.1 in
    record {
      written = the_entry s.rem s.starts (value_of a.0.1) why.Bound;
      may = record { stands = tt; many = s.many; wide = s.wide };
      text = ap (λ w. codes "bound" ++ 32 ∷ stated s.rem s.starts w) f.0
          ∙ ap (λ w. codes "bound" ++ 32 ∷ w) (sym s.text);
      is = same_parts (map sat s.rem) a.0.0.0 (map sat s.starts) a.0.0.1
          (sat (value_of a.0.1)) b.0 why.Bound why.Bound s.left s.begun (sym f.1) refl
          ∙ same_Some (the_entry a.0.0.0 a.0.0.1 b.0 why.Bound) e b.2;
    }

-- what stands behind the first word of an entry with cites that was read
record CitedFound (kind : Citing) (models stations : ℕ) (bytes : List ℕ) (e : SeqEntry) : Type 0 where
  rem : List ℕ
  starts : List ℕ
  least : ℕ
  cites : List ℕ
  many : length rem ≡ models
  wide : length starts ≡ stations
  text : stated rem starts (number_text least ++ 32 ∷ cites_text cites) ≡ bytes
  is : the_entry (map sat rem) (map sat starts) (sat least) (why_of kind (map sat cites)) ≡ e

cited_found : (kind : Citing) (models stations : ℕ) (bytes : List ℕ) (e : SeqEntry)
    → cited_in kind models stations bytes ≡ Some e → CitedFound kind models stations bytes e
unfolding cited_in
cited_found kind models stations bytes e h =
    let a = bind_some (state_in models stations bytes)
    (λ s. number_first s.1 >>= λ l. cites_in l.1 >>= λ cs. Some (the_entry s.0.0 s.0.1 l.0 (why_of kind cs))) e h in
    let b = bind_some (number_first a.0.1)
    (λ l. cites_in l.1 >>= λ cs. Some (the_entry a.0.0.0 a.0.0.1 l.0 (why_of kind cs))) e a.2 in
    let c = bind_some (cites_in b.0.1) (λ cs. Some (the_entry a.0.0.0 a.0.0.1 b.0.0 (why_of kind cs))) e b.2 in
    let s = state_found models stations bytes a.0 a.1 in
    let f = number_first_found a.0.1 b.0 b.1 in
    let g = cites_found b.0.1 c.0 c.1 in
    record {
      rem = s.rem;
      starts = s.starts;
      least = f.0;
      cites = g.0;
      many = s.many;
      wide = s.wide;
      text = ap (λ w. stated s.rem s.starts (number_text f.0 ++ 32 ∷ w)) g.1
          ∙ ap (λ w. stated s.rem s.starts w) (sym f.1) ∙ sym s.text;
      is = same_parts (map sat s.rem) a.0.0.0 (map sat s.starts) a.0.0.1 (sat f.0) b.0.0 (why_of kind (map sat g.0))
          (why_of kind c.0) s.left s.begun f.2 (ap (λ z. why_of kind z) g.2)
          ∙ same_Some (the_entry a.0.0.0 a.0.0.1 b.0.0 (why_of kind c.0)) e c.2;
    }

branch_found : (v : Version) (models stations : ℕ) (bytes : List ℕ) (e : SeqEntry)
    → cited_in citing.Branch models stations bytes ≡ Some e
    → EntryFound v models stations (codes "branch" ++ 32 ∷ bytes) e
unfolding row_text
branch_found v models stations bytes e h =
    let x = cited_found citing.Branch models stations bytes e h in
    record {
      written = the_entry x.rem x.starts x.least (why.Branch x.cites);
      may = record { stands = tt; many = x.many; wide = x.wide };
      text = ap (λ w. codes "branch" ++ 32 ∷ w) x.text;
      is = x.is;
    }

charge_found : (models stations : ℕ) (bytes : List ℕ) (e : SeqEntry) → cited_in citing.Charge 1 stations bytes ≡ Some e
    → EntryFound version.Two models stations (codes "charge" ++ 32 ∷ bytes) e
unfolding row_text
charge_found models stations bytes e h =
    let x = cited_found citing.Charge 1 stations bytes e h in
    record {
      written = the_entry x.rem x.starts x.least (why.Charge x.cites);
      may = record { stands = tt; many = x.many; wide = x.wide };
      text = ap (λ w. codes "charge" ++ 32 ∷ w) x.text;
      is = x.is;
    }

-- an entry that was found behind a word
entry_behind : (v : Version) (models stations : ℕ) (line key rest word : List ℕ) (e : SeqEntry)
    → line ≡ word ++ 32 ∷ rest → word ≡ key
    → EntryFound v models stations (key ++ 32 ∷ rest) e → EntryFound v models stations line e
entry_behind v models stations line key rest word e p q x = record {
  written = x.written;
  may = x.may;
  text = x.text ∙ ap (λ w. w ++ 32 ∷ rest) (sym q) ∙ sym p;
  is = x.is;
}

charge_behind : (v : Version) (models stations : ℕ) (line rest word : List ℕ) (e : SeqEntry)
    → line ≡ word ++ 32 ∷ rest → charge_in v stations word rest ≡ Some e → EntryFound v models stations line e
charge_behind version.One models stations line rest word e p h = absurd (none-some e h)
charge_behind version.Two models stations line rest word e p h =
    elim (chosen (bytes_eq word (codes "charge")) (cited_in citing.Charge 1 stations rest) None (Some e) h) [
      | inl a ↦ entry_behind version.Two models stations line (codes "charge") rest word e p
          (same_bytes word (codes "charge") a.0) (charge_found models stations rest e a.1)
      | inr a ↦ absurd (none-some e a.1)
    ]

pub entry_found : (v : Version) (models stations : ℕ) (line : List ℕ) (e : SeqEntry)
    → entry_in v models stations line ≡ Some e → EntryFound v models stations line e
unfolding entry_in
entry_found v models stations line e h =
    let k = bind_some (parts_at 32 line) (λ k. by_word v models stations k.0 k.1) e h in
    let p = split_parts 32 line k.0 k.1 in
    elim (chosen (bytes_eq k.0.0 (codes "bound")) (bound_in models stations k.0.1)
    (cond (bytes_eq k.0.0 (codes "branch")) (cited_in citing.Branch models stations k.0.1)
    (charge_in v stations k.0.0 k.0.1)) (Some e) k.2) [
      | inl a ↦ entry_behind v models stations line (codes "bound") k.0.1 k.0.0 e p
          (same_bytes k.0.0 (codes "bound") a.0)
          (bound_found v models stations k.0.1 e a.1)
      | inr a ↦ elim (chosen (bytes_eq k.0.0 (codes "branch")) (cited_in citing.Branch models stations k.0.1)
          (charge_in v stations k.0.0 k.0.1) (Some e) a.1) [
            | inl b ↦ entry_behind v models stations line (codes "branch") k.0.1 k.0.0 e p
                (same_bytes k.0.0 (codes "branch") b.0)
                (branch_found v models stations k.0.1 e b.1)
            | inr b ↦ charge_behind v models stations line k.0.1 k.0.0 e p b.1
          ]
    ]

-- last models
abbrev pub last_read : Option ℕ → Option ℕ
last_read None = None
last_read (Some n) = Some (sat n)

last_again : (l : Option ℕ) → last_in (number_or_none l) ≡ Some (last_read l)
unfolding last_in
last_again None = refl
last_again (Some n) =
    ap (λ b. cond b (Some None) (number_in (number_text n) >>= λ m. Some (Some m)))
    (none_of_high (number_text n) (number_high n))
    ∙ ap (λ o. o >>= λ m. Some (Some m)) (number_again n)

last_found : (word : List ℕ) (l : Option ℕ) → last_in word ≡ Some l
    → (k : Option ℕ) × (number_or_none k ≡ word) × (last_read k ≡ l)
unfolding last_in
last_found word l e = elim (chosen (is_none word) (Some None) (number_in word >>= λ n. Some (Some n)) (Some l) e) [
  | inl h ↦ (None, sym (is_none_word word h.0), same_Some None l h.1)
  | inr h ↦ (let b = bind_some (number_in word) (λ n. Some (Some n)) l h.1 in
      let f = number_found word b.0 b.1 in
      (Some (value_of word), f.0, ap (λ z. Some z) (sym f.1) ∙ same_Some (Some b.0) l b.2))
]

-- frames
abbrev pub the_frame : List ℕ → List ℕ → ℕ → Option ℕ → List ℕ → FrameDraft
the_frame rem starts need last cites = record { rem = rem; starts = starts; need = need; last = last; cites = cites }

open_again : (rem starts : List ℕ) (need : ℕ) (last : Option ℕ) (cites : List ℕ)
    → open_in (length rem) (length starts)
    (stated rem starts (number_text need ++ 32 ∷ (number_or_none last ++ 32 ∷ cites_text cites)))
    ≡ Some (the_frame (map sat rem) (map sat starts) (sat need) (last_read last) (map sat cites))
unfolding open_in
open_again rem starts need last cites =
    let r : List ℕ = number_or_none last ++ 32 ∷ cites_text cites in
    ap (λ o. o >>= λ s. number_first s.1 >>= λ l. parts_at 32 l.1 >>= λ w. last_in w.0 >>= λ k. cites_in
    w.1 >>= λ cs. Some (the_frame s.0.0 s.0.1 l.0 k cs))
    (state_again (length rem) (length starts) rem starts (number_text need ++ 32 ∷ r) refl refl)
    ∙ ap (λ o. o >>= λ l. parts_at 32 l.1 >>= λ w. last_in w.0 >>= λ k. cites_in w.1 >>= λ cs. Some
    (the_frame (map sat rem) (map sat starts) l.0 k cs))
    (number_first_again need r)
    ∙ ap (λ o. o >>= λ w. last_in w.0 >>= λ k. cites_in w.1 >>= λ cs. Some
    (the_frame (map sat rem) (map sat starts) (sat need) k cs))
    (split_again 32 (number_or_none last) (cites_text cites) (last_lacks last))
    ∙ ap (λ o. o >>= λ k. cites_in (cites_text cites) >>= λ cs. Some
    (the_frame (map sat rem) (map sat starts) (sat need) k cs)) (last_again last)
    ∙ ap (λ o. o >>= λ cs. Some (the_frame (map sat rem) (map sat starts) (sat need) (last_read last) cs))
    (cites_again cites)

pub frame_again : (rem starts : List ℕ) (need : ℕ) (last : Option ℕ) (cites : List ℕ)
    → frame_in (length rem) (length starts) (row_text (state_frame rem starts need last cites))
    ≡ Some (the_frame (map sat rem) (map sat starts) (sat need) (last_read last) (map sat cites))
unfolding frame_in row_text
frame_again rem starts need last cites =
    ap (λ o. o >>= λ k. cond (bytes_eq k.0 (codes "open")) (open_in (length rem) (length starts) k.1) None)
    (split_again 32 (codes "open")
    (stated rem starts (number_text need ++ 32 ∷ (number_or_none last ++ 32 ∷ cites_text cites))) refl)
    ∙ open_again rem starts need last cites

-- a frame that was read
pub record FrameFound (models stations : ℕ) (line : List ℕ) (d : FrameDraft) : Type 0 where
  pub rem : List ℕ
  pub starts : List ℕ
  pub need : ℕ
  pub last : Option ℕ
  pub cites : List ℕ
  pub many : length rem ≡ models
  pub wide : length starts ≡ stations
  pub text : row_text (state_frame rem starts need last cites) ≡ line
  pub is : the_frame (map sat rem) (map sat starts) (sat need) (last_read last) (map sat cites) ≡ d

same_frames : (a b c d : List ℕ) (m n : ℕ) (k l : Option ℕ) (v w : List ℕ) → a ≡ b → c ≡ d → m ≡ n → k ≡ l → v ≡ w
    → the_frame a c m k v ≡ the_frame b d n l w
same_frames a b c d m n k l v w e f g i h =
    ap (λ z. the_frame z c m k v) e ∙ ap (λ z. the_frame b z m k v) f ∙ ap (λ z. the_frame b d z k v) g
    ∙ ap (λ z. the_frame b d n z v) i ∙ ap (λ z. the_frame b d n l z) h

open_found : (models stations : ℕ) (bytes : List ℕ) (d : FrameDraft) → open_in models stations bytes ≡ Some d
    → FrameFound models stations (codes "open" ++ 32 ∷ bytes) d
unfolding open_in row_text
open_found models stations bytes d h =
    let a = bind_some (state_in models stations bytes)
    (λ s. number_first s.1 >>= λ l. parts_at 32 l.1 >>= λ w. last_in w.0 >>= λ k. cites_in w.1 >>= λ cs. Some
    (the_frame s.0.0 s.0.1 l.0 k cs)) d h in
    let b = bind_some (number_first a.0.1)
    (λ l. parts_at 32 l.1 >>= λ w. last_in w.0 >>= λ k. cites_in w.1 >>= λ cs. Some
    (the_frame a.0.0.0 a.0.0.1 l.0 k cs)) d a.2 in
    let w = bind_some (parts_at 32 b.0.1)
    (λ w. last_in w.0 >>= λ k. cites_in w.1 >>= λ cs. Some (the_frame a.0.0.0 a.0.0.1 b.0.0 k cs)) d b.2 in
    let l = bind_some (last_in w.0.0)
    (λ k. cites_in w.0.1 >>= λ cs. Some (the_frame a.0.0.0 a.0.0.1 b.0.0 k cs)) d w.2 in
    let c = bind_some (cites_in w.0.1) (λ cs. Some (the_frame a.0.0.0 a.0.0.1 b.0.0 l.0 cs)) d l.2 in
    let s = state_found models stations bytes a.0 a.1 in
    let f = number_first_found a.0.1 b.0 b.1 in
    let i = last_found w.0.0 l.0 l.1 in
    let g = cites_found w.0.1 c.0 c.1 in
    record {
      rem = s.rem;
      starts = s.starts;
      need = f.0;
      last = i.0;
      cites = g.0;
      many = s.many;
      wide = s.wide;
      text = ap (λ z. codes "open" ++ 32 ∷ stated s.rem s.starts
          (number_text f.0 ++ 32 ∷ (number_or_none i.0 ++ 32 ∷ z))) g.1
          ∙ ap (λ z. codes "open" ++ 32 ∷ stated s.rem s.starts (number_text f.0 ++ 32 ∷ (z ++ 32 ∷ w.0.1))) i.1
          ∙ ap (λ z. codes "open" ++ 32 ∷ stated s.rem s.starts (number_text f.0 ++ 32 ∷ z))
          (sym (split_parts 32 b.0.1 w.0 w.1))
          ∙ ap (λ z. codes "open" ++ 32 ∷ stated s.rem s.starts z) (sym f.1)
          ∙ ap (λ z. codes "open" ++ 32 ∷ z) (sym s.text);
      is = same_frames (map sat s.rem) a.0.0.0 (map sat s.starts) a.0.0.1 (sat f.0) b.0.0 (last_read i.0) l.0
          (map sat g.0) c.0 s.left s.begun f.2 i.2 g.2
          ∙ same_Some (the_frame a.0.0.0 a.0.0.1 b.0.0 l.0 c.0) d c.2;
    }

pub frame_found : (models stations : ℕ) (line : List ℕ) (d : FrameDraft) → frame_in models stations line ≡ Some d
    → FrameFound models stations line d
unfolding frame_in
frame_found models stations line d h =
    let k = bind_some (parts_at 32 line)
    (λ k. cond (bytes_eq k.0 (codes "open")) (open_in models stations k.1) None) d h in
    elim (chosen (bytes_eq k.0.0 (codes "open")) (open_in models stations k.0.1) None (Some d) k.2) [
      | inl a ↦ (let x = open_found models stations k.0.1 d a.1 in record {
        rem = x.rem;
        starts = x.starts;
        need = x.need;
        last = x.last;
        cites = x.cites;
        many = x.many;
        wide = x.wide;
        text = x.text ∙ ap (λ w. w ++ 32 ∷ k.0.1) (sym (same_bytes k.0.0 (codes "open") a.0))
            ∙ sym (split_parts 32 line k.0 k.1);
        is = x.is;
      })
      | inr a ↦ absurd (none-some d a.1)
    ]
