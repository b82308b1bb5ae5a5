-- What is read in the bytes of a file, and files that are the same.
use Rattle.std.proofs.Common.{◌≡◌, ◌≢◌, ◌∙◌, ℕ, ◌≤◌, List, length, Option, Some, None, Bor, sym, subst, ap, ◌↔◌, ◌⊎◌}
use Rattle.std.proofs.Common.{inl}
use Rattle.std.proofs.Common.{inr}
use Rattle.line_instance.specs.Line.{Line, Apart, tasks}
use Rattle.line_instance.specs.Walks.{IsGiven}
use Rattle.line_instance.specs.declared.arcs.Prec.{Prec}
use Rattle.line_rules.specs.Ranges.{IsInRange}
use Rattle.line_rules.specs.declared.types.Certificate.{Certificate}
use Rattle.in2_reader.specs.ApartFile.{IsApartFile}
use Rattle.cert_text.specs.Cert.{cert_text, newest_text}
use Rattle.cert_text.specs.OldCert.{OldCertificate, IsOldInRange, old_text}
use Rattle.cert_lines.specs.declared.fault.CertFault.{CertFault}
use Rattle.cert_files.specs.From.{IsCertFrom}
use Rattle.cert_files.specs.declared.fetching.CertFrom.TheVariants.{Fault}
use Rattle.command_outcome.specs.Outcome.{Files, told}
use Rattle.command_outcome.specs.declared.status.Status.TheVariants as ends
use Rattle.input_files.specs.InputFile.{Reads}
use Rattle.input_files.specs.Instance.{Parts}
use Rattle.input_files.specs.Certificate.{IsFaultyCertificate, IsTextOf, cert_fault_line}

-- a file of these bytes reads as they do
pub reads : (limit : ℕ) (file : Option (List ℕ)) (bytes : List ℕ) (P : List ℕ → Type 0) → file ≡ Some bytes
    → length bytes ≤ limit → P bytes → Reads limit file P
reads limit file bytes P e w p = (let Q : Option (List ℕ) → Type 0 = λ f. Reads limit f P in subst Q (sym e) (w, p))

pub reads_as : (limit : ℕ) (file : Option (List ℕ)) (P Q : List ℕ → Type 0) → ((bytes : List ℕ) → P bytes → Q bytes)
    → Reads limit file P → Reads limit file Q
reads_as limit None P Q f r = r
reads_as limit (Some bytes) P Q f r = (r.0, f bytes r.1)

-- the file says the pairs that part the line
pub parted_by : (limit : ℕ) (files : Files) (apart : Option (Bor (List ℕ))) (a : Bor (List ℕ)) (whole line : Line)
    (n : ℕ) (pairs : List Prec)
    → apart ≡ Some a → Reads limit (files a.now) (λ bytes. IsApartFile n bytes pairs) → n ≡ tasks whole
    → line.times ≡ whole.times → line.before ≡ whole.before → line.order ≡ whole.order
    → ((i j : ℕ) → Apart line i j ↔ (Apart whole i j ⊎ IsGiven pairs i j))
    → Reads limit (files a.now) (Parts whole line)
parted_by limit files apart a whole line n pairs e s k t b o parted =
    let N : (bytes : List ℕ) → ℕ → Type 0 = λ bytes x. IsApartFile x bytes pairs in
    reads_as limit (files a.now) (λ bytes. IsApartFile n bytes pairs) (Parts whole line)
    (λ bytes x. (pairs, subst (N bytes) k x, record { times = t; before = b; order = o; apart = parted })) s

-- the file's bytes have a fault, and no certificate says them
pub faulty_certificate : (file : Option (List ℕ)) (limit : ℕ) (fault : CertFault) (text : List ℕ)
    → IsCertFrom file limit (Fault fault)
    → ((cert : Certificate) → IsInRange cert → file ≢ Some (cert_text cert))
    → ((cert : Certificate) → IsInRange cert → file ≢ Some (newest_text cert))
    → ((old : OldCertificate) → IsOldInRange old → file ≢ Some (old_text old))
    → text ≡ cert_fault_line fault → Reads limit file (λ bytes. IsFaultyCertificate bytes (told ends.Refused text))
faulty_certificate file limit fault text r none none_newest none_old shown =
    reads limit file r.bytes (λ bytes. IsFaultyCertificate bytes (told ends.Refused text)) r.there r.within
    (record { fault = fault; first = r.read; unread = unread; shown = ap (told ends.Refused) shown })
  where
    unwritten : (cert : Certificate) → IsInRange cert → (r.bytes ≡ cert_text cert) ⊎ (r.bytes ≡ newest_text cert) → ⊥
    unwritten cert h (inl e) = none cert h (r.there ∙ ap Some e)
    unwritten cert h (inr e) = none_newest cert h (r.there ∙ ap Some e)

    unread : (cert : Certificate) → IsTextOf cert r.bytes → ⊥
    unread cert (inl s) = unwritten cert s.0 s.1
    unread cert (inr s) = none_old s.0 s.1 (r.there ∙ ap Some s.2)
