-- What was read of a file, by what its lines said and by what stands behind them.
use Rattle.std.proofs.Common.{◌≡◌, ℕ, suc, ◌<◌, List, [], ◌++◌, length, Option, Some, None, Result, Ok, Err, refl, sym}
use Rattle.std.proofs.Common.{ap, ◌∙◌, subst, inl, inr, arith}
use Rattle.std.proofs.lemmas.Option.{same_Some}
use Rattle.line_rules.specs.Ranges.{IsInRange}
use Rattle.line_rules.specs.declared.types.Certificate.{Certificate}
use Rattle.entry_lists.specs.OldRanges.{IsOldInRange}
use Rattle.entry_lists.specs.declared.version_one.OldCertificate.{OldCertificate}
use Rattle.cert_lines.specs.declared.fault.CertFault.{CertFault}
use Rattle.cert_lines.specs.declared.fault.CertKind.TheVariants.{Trailing}
use Rattle.cert_lines.specs.declared.fault.ReadError.{ReadError}
use Rattle.cert_lines.specs.declared.fault.ReadError.TheVariants as errors
use Rattle.cert_text.specs.WholeText.{IsAnyRead, IsCertRead, IsCertFault}
use Rattle.cert_text.specs.Cert.{cert_text, newest_text}
use Rattle.cert_text.specs.OldCert.{old_text}
use Rattle.cert_text.specs.Versions.{newest, older}
use Rattle.cert_text.specs.declared.whole_text.CertRead.{CertRead}
use Rattle.cert_text.specs.declared.whole_text.CertRead.TheVariants as reads
use Rattle.cert_text.proofs.LineTexts.{ended_read, no_text, no_cert, fault_whole}
use Rattle.cert_files.specs.From.{IsReadWithin, IsLonger, IsCertFrom, stopped_from, fault_from, IsGoodFrom}
use Rattle.cert_files.specs.inner.Pieces.{bytes_of}
use Rattle.cert_files.specs.inner.Rest.{Reading, bytes_from, IsWithin}
use Rattle.cert_files.specs.declared.stop.Stop.{Stop}
use Rattle.cert_files.specs.declared.stop.Stop.TheVariants as stops
use Rattle.cert_files.specs.declared.stop.Rest.{Rest}
use Rattle.cert_files.specs.declared.stop.Rest.TheVariants as rests
use Rattle.cert_files.specs.declared.fetching.CertFrom.{CertFrom}
use Rattle.cert_files.specs.declared.fetching.CertFrom.TheVariants.{Fault}

longer : (file : Option (List ℕ)) (limit : ℕ) → limit < length (bytes_of file) → IsLonger file limit
longer None limit l = absurd (omega arith)
longer (Some bytes) limit l = record { bytes = bytes; there = refl; longer = l }

within : (file : Option (List ℕ)) (limit : ℕ) (answer : CertRead) → IsWithin file limit
    → IsCertRead (bytes_of file) answer → IsReadWithin file limit answer
within file limit answer w r = record { bytes = bytes_of file; there = w.there; within = w.within; read = r }

-- the lines couldn't go on
stopped_is : (file : Option (List ℕ)) (limit : ℕ) (stop : Stop)
    → (stop ≡ stops.TooLong → limit < length (bytes_of file)) → IsCertFrom file limit (stopped_from stop)
stopped_is file limit stops.Going h = tt
stopped_is file limit stops.Failed h = tt
stopped_is file limit stops.TooLong h = longer file limit (h refl)
stopped_is file limit stops.Memory h = tt

-- the text has a fault
fault_is : (file : Option (List ℕ)) (limit : ℕ) (rest : Rest) (f : CertFault) → IsCertFault (bytes_of file) f
    → (rest ≡ rests.Nothing → IsWithin file limit) → (rest ≡ rests.More → IsWithin file limit)
    → (rest ≡ rests.TooLong → limit < length (bytes_of file))
    → IsCertFrom file limit (fault_from rest f)
fault_is file limit rests.Nothing f r n m l = within file limit (reads.Fault f) (n refl) r
fault_is file limit rests.More f r n m l = within file limit (reads.Fault f) (m refl) r
fault_is file limit rests.TooLong f r n m l = longer file limit (l refl)
fault_is file limit rests.Failed f r n m l = tt

-- a certificate was read
good_is : (file : Option (List ℕ)) (limit : ℕ) (rest : Rest) (cert : Certificate) (left : List ℕ) (lines : ℕ)
    (answer : CertFrom) → IsAnyRead 0 (bytes_of file) left lines (Ok cert) → IsGoodFrom rest cert lines answer
    → (rest ≡ rests.Nothing → left ≡ []) → (rest ≡ rests.More → 0 < length left)
    → (rest ≡ rests.Nothing → IsWithin file limit) → (rest ≡ rests.More → IsWithin file limit)
    → (rest ≡ rests.TooLong → limit < length (bytes_of file))
    → IsCertFrom file limit answer
good_is file limit rests.Nothing cert left lines answer r g none more n m l =
    let P : CertFrom → Type 0 = λ a. IsCertFrom file limit a in
    subst P (sym g) (within file limit (reads.Good cert) (n refl)
    (ended_read (bytes_of file) left lines cert (reads.Good cert) r (refl, none refl)))
good_is file limit rests.More cert left lines answer r g none more n m l =
    let P : CertFrom → Type 0 = λ a. IsCertFrom file limit a in
    elim g [
      | inl f ↦ subst P (sym f) (within file limit (reads.Fault (record { line = suc lines; kind = Trailing })) (m refl)
          (ended_read (bytes_of file) left lines cert (reads.Fault (record { line = suc lines; kind = Trailing })) r
          (more refl, refl)))
      | inr w ↦ subst P (sym w) tt
    ]
good_is file limit rests.TooLong cert left lines answer r g none more n m l = let P : CertFrom
    → Type 0 = λ a. IsCertFrom file limit a in subst P (sym g) (longer file limit (l refl))
good_is file limit rests.Failed cert left lines answer r g none more n m l = let P : CertFrom
    → Type 0 = λ a. IsCertFrom file limit a in subst P (sym g) tt

some_bytes : (file : Option (List ℕ)) (a b : List ℕ) → file ≡ Some a → file ≡ Some b → a ≡ b
some_bytes file a b e f = same_Some a b (sym e ∙ f)

-- a fault excludes that the bytes are a certificate's text
pub none_of : (file : Option (List ℕ)) (limit : ℕ) (answer : CertFrom) → IsCertFrom file limit answer
    → (fault : CertFault) → answer ≡ Fault fault → (cert : Certificate) → IsInRange cert → file ≡ Some (cert_text cert)
    → ⊥
none_of file limit answer h fault e cert i t =
    let P : CertFrom → Type 0 = λ a. IsCertFrom file limit a in
    let r : IsReadWithin file limit (reads.Fault fault) = subst P e h in
    no_cert r.bytes (reads.Fault fault) fault cert r.read refl i (some_bytes file r.bytes (cert_text cert) r.there t)

pub none_of_newest : (file : Option (List ℕ)) (limit : ℕ) (answer : CertFrom) → IsCertFrom file limit answer
    → (fault : CertFault) → answer ≡ Fault fault → (cert : Certificate) → IsInRange cert
    → file ≡ Some (newest_text cert) → ⊥
none_of_newest file limit answer h fault e cert i t =
    let P : CertFrom → Type 0 = λ a. IsCertFrom file limit a in
    let r : IsReadWithin file limit (reads.Fault fault) = subst P e h in
    no_text r.bytes (reads.Fault fault) fault (newest cert) r.read refl i
    (some_bytes file r.bytes (newest_text cert) r.there t)

pub none_of_old : (file : Option (List ℕ)) (limit : ℕ) (answer : CertFrom) → IsCertFrom file limit answer
    → (fault : CertFault) → answer ≡ Fault fault → (old : OldCertificate) → IsOldInRange old
    → file ≡ Some (old_text old) → ⊥
none_of_old file limit answer h fault e old i t =
    let P : CertFrom → Type 0 = λ a. IsCertFrom file limit a in
    let r : IsReadWithin file limit (reads.Fault fault) = subst P e h in
    no_text r.bytes (reads.Fault fault) fault (older old) r.read refl i
    (some_bytes file r.bytes (old_text old) r.there t)

module _ (tells : Type 0) (r r' : ℕ) (name name' : List ℕ) (limit limit' lost lost' : ℕ)
    (files new : List ℕ → Option (List ℕ)) where
  pub same_files : ◌≡◌ {A = Reading tells} (r', name', limit', lost', λ told. new)
      (r, name, limit, lost, λ told. files) → tells
      → (q : List ℕ) → new q ≡ files q
  same_files p told q = ap (λ b. b.4 told q) p

  pub stopped_read : ◌≡◌ {A = Reading tells} (r', name', limit', lost', λ told. new)
      (r, name, limit, lost, λ told. files) → tells
      → (stop : Stop) (answer : CertFrom) → answer ≡ stopped_from stop
      → (tells → stop ≡ stops.TooLong → limit' < length (bytes_of (new name')))
      → IsCertFrom (files name) limit answer
  stopped_read p told stop answer e h =
      let P : CertFrom → Type 0 = λ a. IsCertFrom (files name) limit a in
      let Q : ℕ → Type 0 = λ m. (stop ≡ stops.TooLong → m < length (bytes_of (files name))) in
      let N : List ℕ → Type 0 = λ n. (stop ≡ stops.TooLong → limit' < length (bytes_of (files n))) in
      let O : Option (List ℕ) → Type 0 = λ o. (stop ≡ stops.TooLong → limit' < length (bytes_of o)) in
      subst P (sym e) (stopped_is (files name) limit stop (subst Q (ap (λ b. b.2) p)
      (subst N (ap (λ b. b.1) p) (subst O (same_files p told name') (h told)))))

  pub fault_read : ◌≡◌ {A = Reading tells} (r', name', limit', lost', λ told. new)
      (r, name, limit, lost, λ told. files) → tells
      → (rest : Rest) (left : List ℕ) (lines : ℕ) (result : Result Certificate ReadError) (e : ReadError)
      (f : CertFault) (answer : CertFrom)
      → IsAnyRead 0 (bytes_of (files name)) left lines result → result ≡ Err e → e ≡ errors.Fault f
      → answer ≡ fault_from rest f
      → (rest ≡ rests.Nothing → IsWithin (new name) limit) → (rest ≡ rests.More → IsWithin (new name) limit)
      → (rest ≡ rests.TooLong → limit < length (bytes_of (new name)))
      → IsCertFrom (files name) limit answer
  fault_read p told rest left lines result e f answer read is fault a n m l =
      let P : CertFrom → Type 0 = λ x. IsCertFrom (files name) limit x in
      let R : Result Certificate ReadError → Type 0 = λ x. IsAnyRead 0 (bytes_of (files name)) left lines x in
      let O : Option (List ℕ) → Type 0 = λ o. IsWithin o limit in
      let L : Option (List ℕ) → Type 0 = λ o. limit < length (bytes_of o) in
      let s : new name ≡ files name = same_files p told name in
      subst P (sym a) (fault_is (files name) limit rest f (fault_whole (bytes_of (files name)) (bytes_of (files name))
      left 0 lines e f f (subst R is read) fault refl refl refl) (λ x. subst O s (n x)) (λ x. subst O s (m x))
      (λ x. subst L s (l x)))

  pub good_read : ◌≡◌ {A = Reading tells} (r', name', limit', lost', λ told. new)
      (r, name, limit, lost, λ told. files) → tells
      → (rest : Rest) (window : List ℕ) (at lines : ℕ) (result : Result Certificate ReadError) (cert : Certificate)
      (answer : CertFrom)
      → IsAnyRead 0 (bytes_of (files name)) (window ++ bytes_from at (new name')) lines (Ok cert)
      → IsGoodFrom rest cert lines answer
      → (rest ≡ rests.Nothing → window ++ bytes_from at (new name) ≡ [])
      → (rest ≡ rests.More → 0 < length (window ++ bytes_from at (new name)))
      → (rest ≡ rests.Nothing → IsWithin (new name) limit) → (rest ≡ rests.More → IsWithin (new name) limit)
      → (rest ≡ rests.TooLong → limit < length (bytes_of (new name)))
      → IsCertFrom (files name) limit answer
  good_read p told rest window at lines result cert answer read g none more n m l =
      let R : List ℕ → Type 0 = λ x. IsAnyRead 0 (bytes_of (files name)) (window ++ bytes_from at (new x)) lines
      (Ok cert) in
      let O : Option (List ℕ) → Type 0 = λ o. IsWithin o limit in
      let L : Option (List ℕ) → Type 0 = λ o. limit < length (bytes_of o) in
      let s : new name ≡ files name = same_files p told name in
      good_is (files name) limit rest cert (window ++ bytes_from at (new name)) lines answer
      (subst R (ap (λ b. b.1) p) read) g none more (λ x. subst O s (n x)) (λ x. subst O s (m x))
      (λ x. subst L s (l x))
