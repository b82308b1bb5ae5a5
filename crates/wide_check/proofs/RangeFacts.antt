-- What is found of each number of a range, as a list.
use Rattle.std.proofs.Common.{◌≡◌, ℕ, zero, suc, ◌+◌, ◌-◌, List, [], ◌∷◌, sym, ◌∙◌, subst, arith}
use Rattle.std.proofs.Common.{Some}
use Rattle.std.specs.Prelude.{slice_get}
use Rattle.std.specs.List.{AllZip, range_with_len}
use Rattle.std.proofs.lemmas.List.FromFn.{length-range_with_len}
use Rattle.std.proofs.lemmas.Slice.Zip.{AllZip-long}
use Rattle.line_instance.specs.Line.{Line}
use Rattle.line_rules.specs.declared.types.LineKind.{LineKind}
use Rattle.line_rules.specs.declared.types.Entry.{Entry}
use Rattle.line_check.specs.declared.types.Checked.{Checked}
use Rattle.line_check.specs.declared.types.EntryFault.{EntryFault}
use Rattle.wide_check.specs.inner.Batches.{IsFoundAt, AreChecked}

zip_at : {Y : Type 0} (R : ℕ → Y → Type 0) (a n : ℕ) (ys : List Y) → AllZip R (range_with_len a n) ys → (j : ℕ) (y : Y)
    → slice_get ys j ≡ Some y → R (a + j) y
zip_at R a n [] z j y e = absurd (cc)
zip_at R a zero (x ∷ ys) z j y e = absurd z
zip_at R a (suc n) (x ∷ ys) z zero y e =
    let s : a ≡ a + 0 = omega arith in
    let q : x ≡ y = cc in
    subst (λ k. R k y) s (subst (λ v. R a v) q z.0)
zip_at R a (suc n) (x ∷ ys) z (suc j) y e =
    let s : (a + 1) + j ≡ a + suc j = omega arith in
    subst (λ k. R k y) s (zip_at R (a + 1) n ys z.1 j y e)

pub checked_range : (kind : LineKind) (line : Line) (es : List Entry) (from to steps : ℕ) (places : List ℕ)
    (fs vs : List (Checked EntryFault)) → vs ≡ fs → places ≡ range_with_len from (to - from)
    → AllZip (λ k f. IsFoundAt kind line es k steps f) places fs → AreChecked kind line es from to steps vs
checked_range kind line es from to steps places fs vs same range z =
    let R : ℕ → Checked EntryFault → Type 0 = λ k f. IsFoundAt kind line es k steps f in
    let zipped : AllZip R (range_with_len from (to - from)) fs = subst (λ p. AllZip R p fs) range z in
    let P : List (Checked EntryFault) → Type 0 = λ l. AreChecked kind line es from to steps l in
    subst P (sym same) (record {
      many = AllZip-long R (range_with_len from (to - from)) fs zipped
          ∙ length-range_with_len from (to - from);
      each = zip_at R from (to - from) fs zipped;
    })
