-- The lift of a certificate within the ranges of version 1 is within those of version 2.
use Rattle.std.proofs.Common.{◌≡◌, ℕ, zero, suc, ◌+◌, ◌<◌, ◌≤◌, List, [], ◌∷◌, ◌++◌, length, map, refl, sym, ◌∙◌, subst}
use Rattle.std.proofs.Common.{arith, Some, None, Option, length-append, lit≤}
use Rattle.std.specs.Prelude.{slice_get}
use Rattle.std.proofs.lemmas.List.{length-map}
use Rattle.std.proofs.lemmas.Option.{same_Some, none-some}
use Rattle.line_rules.specs.Ranges.{IsCycle, AreCites, IsWhy, IsEntry, AreEntries, IsFrame, IsTrailOrNone, IsClaim}
use Rattle.line_rules.specs.Ranges.{IsInRange}
use Rattle.line_rules.specs.declared.types.LineKind.{LineKind}
use Rattle.line_rules.specs.declared.types.Ask.{Ask}
use Rattle.line_rules.specs.declared.types.Entry.{Entry}
use Rattle.line_rules.specs.declared.types.Why.{Why}
use Rattle.line_rules.specs.declared.types.Why.TheVariants as whys
use Rattle.line_rules.specs.declared.types.OpenFrame.{OpenFrame}
use Rattle.line_rules.specs.declared.types.Trail.{Trail}
use Rattle.line_rules.specs.declared.types.Certificate.{Certificate}
use Rattle.entry_lists.specs.Lift.{raised, lifted_why, lifted_entry, lifted_frame, lifted_entries, trail_at, trail_or}
use Rattle.entry_lists.specs.Lift.{lifted_trail, lifted_claim, lift}
use Rattle.entry_lists.specs.OldRanges.{IsPart, AreParts, IsOldClaim, IsOldInRange}
use Rattle.entry_lists.specs.declared.version_one.Part.{Part}
use Rattle.entry_lists.specs.declared.version_one.OldClaim.{OldClaim}
use Rattle.entry_lists.specs.declared.version_one.OldClaim.TheVariants as old_claim
use Rattle.entry_lists.specs.declared.version_one.OldCertificate.{OldCertificate}

-- each item of a list
abbrev EachOf : {A : Type 0} → (A → Type 0) → List A → Type 0
EachOf {A} P xs = (k : ℕ) (x : A) → slice_get xs k ≡ Some x → P x

each_map : {A B : Type 0} (f : A → B) (P : A → Type 0) (Q : B → Type 0) (xs : List A) → ((x : A) → P x → Q (f x))
    → EachOf P xs → EachOf Q (map f xs)
each_map f P Q [] g h k y e = absurd (none-some y e)
each_map f P Q (x ∷ xs) g h zero y e = subst Q (same_Some (f x) y e) (g x (h zero x refl))
each_map f P Q (x ∷ xs) g h (suc k) y e = each_map f P Q xs g (λ j z q. h (suc j) z q) k y e

each_append : {A : Type 0} (P : A → Type 0) (xs ys : List A) → EachOf P xs → EachOf P ys → EachOf P (xs ++ ys)
each_append P [] ys a b k x e = b k x e
each_append P (x ∷ xs) ys a b zero y e = subst P (same_Some x y e) (a zero x refl)
each_append P (x ∷ xs) ys a b (suc k) y e = each_append P xs ys (λ j z q. a (suc j) z q) b k y e

each_none : {A : Type 0} (P : A → Type 0) → EachOf P []
each_none P k x e = absurd (none-some x e)

raised_in : (count earlier total : ℕ) (cites : List ℕ) → count + earlier ≤ total → AreCites count cites
    → AreCites total (raised earlier cites)
raised_in count earlier total cites l h = each_map (λ c. c + earlier) (λ c. c < count) (λ c. c < total) cites
    (λ c m. omega arith) h

why_in : (n count earlier total : ℕ) (w : Why) → count + earlier ≤ total → IsWhy n count w
    → IsWhy n total (lifted_why earlier w)
why_in n count earlier total whys.Bound l h = tt
why_in n count earlier total (whys.Branch mode cites) l h = raised_in count earlier total cites l h
why_in n count earlier total (whys.Swap cite out into) l h = (omega (arith, h.0), h.1)
why_in n count earlier total (whys.Pairs two) l h = h

entry_in : (n count earlier total cycle : ℕ) (e : Entry) → count + earlier ≤ total → IsCycle cycle → IsEntry n count e
    → IsEntry n total (lifted_entry cycle earlier e)
entry_in n count earlier total cycle e l c h = record {
  set = h.set;
  most = h.most;
  cycle = c;
  why = why_in n count earlier total e.why l h.why;
}

frame_in : (n count earlier total : ℕ) (f : OpenFrame) → count + earlier ≤ total → IsFrame n count f
    → IsFrame n total (lifted_frame earlier f)
frame_in n count earlier total f l h = record {
  set = h.set;
  most = h.most;
  last = h.last;
  cites = raised_in count earlier total f.cites l h.cites;
}

-- the entries of a part
entries_in : (n earlier total : ℕ) (p : Part) → length p.entries + earlier ≤ total → IsPart n p
    → EachOf (IsEntry n total) (map (lifted_entry p.cycle earlier) p.entries)
entries_in n earlier total p l h = each_map (lifted_entry p.cycle earlier) (IsEntry n (length p.entries))
    (IsEntry n total) p.entries (λ e r. entry_in n (length p.entries) earlier total p.cycle e l h.cycle r)
    (λ k e q. (h.each k e q).0)

-- the trail of a part
trail_in : (n total cycle : ℕ) (fs : List OpenFrame) → IsCycle cycle → length fs ≤ 1024 → EachOf (IsFrame n total) fs
    → IsTrailOrNone n total (trail_at cycle fs)
trail_in n total cycle [] c l h = tt
trail_in n total cycle (f ∷ fs) c l h = record { cycle = c; some = omega arith; few = l; each = h }

part_trail : (n earlier total : ℕ) (p : Part) → length p.entries + earlier ≤ total → IsPart n p
    → IsTrailOrNone n total (trail_at p.cycle (map (lifted_frame earlier) p.frames))
part_trail n earlier total p l h =
    trail_in n total p.cycle (map (lifted_frame earlier) p.frames) h.cycle
    (omega (arith, length-map p.frames (lifted_frame earlier), h.few))
    (each_map (lifted_frame earlier) (IsFrame n (length p.entries)) (IsFrame n total) p.frames
    (λ f r. frame_in n (length p.entries) earlier total f l r) h.frames)

or_in : (n total : ℕ) (a b : Option Trail) → IsTrailOrNone n total a → IsTrailOrNone n total b
    → IsTrailOrNone n total (trail_or a b)
or_in n total None b h k = k
or_in n total (Some t) b h k = h

-- entries and a trail of parts
abbrev AreLifted : ℕ → List Entry → Option Trail → Type 0
AreLifted n es t = AreEntries n es × IsTrailOrNone n (length es) t

single_length : (p : Part) → length (lifted_entries 0 (p ∷ [])) ≡ length p.entries
single_length p = length-append (map (lifted_entry p.cycle 0) p.entries) []
    ∙ omega (arith, length-map p.entries (lifted_entry p.cycle 0))

pair_length : (p q : Part) → length (lifted_entries 0 (p ∷ q ∷ [])) ≡ length p.entries + length q.entries
pair_length p q =
    length-append (map (lifted_entry p.cycle 0) p.entries) (lifted_entries (0 + length p.entries) (q ∷ []))
    ∙ omega (
      arith,
      length-map p.entries (lifted_entry p.cycle 0),
      length-append (map (lifted_entry q.cycle (0 + length p.entries)) q.entries) [],
      length-map q.entries (lifted_entry q.cycle (0 + length p.entries)),
    )

parts_in : (n : ℕ) (ps : List Part) → AreParts n ps → AreLifted n (lifted_entries 0 ps) (lifted_trail 0 ps)
parts_in n [] h = (record { many = lit≤ tt; each = each_none (IsEntry n 0) }, tt)
parts_in n (p ∷ []) h =
    let total : ℕ = length (lifted_entries 0 (p ∷ [])) in
    let l : length p.entries + 0 ≤ total = omega (arith, single_length p) in (
      record {
        many = omega (arith, single_length p, h.many);
        each = each_append (IsEntry n total) (map (lifted_entry p.cycle 0) p.entries) [] (entries_in n 0 total p l h)
            (each_none (IsEntry n total));
      },
      or_in n total (trail_at p.cycle (map (lifted_frame 0) p.frames)) None (part_trail n 0 total p l h) tt,
    )
parts_in n (p ∷ q ∷ []) h =
    let total : ℕ = length (lifted_entries 0 (p ∷ q ∷ [])) in
    let l : length p.entries + 0 ≤ total = omega (arith, pair_length p q) in
    let m : length q.entries + (0 + length p.entries) ≤ total = omega (arith, pair_length p q) in (
      record {
        many = omega (arith, pair_length p q, h.0.0.many, h.0.1.many);
        each = each_append (IsEntry n total) (map (lifted_entry p.cycle 0) p.entries)
            (lifted_entries (0 + length p.entries) (q ∷ [])) (entries_in n 0 total p l h.0.0)
            (each_append (IsEntry n total) (map (lifted_entry q.cycle (0 + length p.entries)) q.entries) []
            (entries_in n (0 + length p.entries) total q m h.0.1) (each_none (IsEntry n total)));
      },
      or_in n total (trail_at p.cycle (map (lifted_frame 0) p.frames)) (lifted_trail (0 + length p.entries) (q ∷ []))
          (part_trail n 0 total p l h.0.0)
          (or_in n total (trail_at q.cycle (map (lifted_frame (0 + length p.entries)) q.frames)) None
          (part_trail n (0 + length p.entries) total q m h.0.1) tt),
    )
parts_in n (p ∷ q ∷ r ∷ ps) h = absurd h

claim_in : (kind : LineKind) (n : ℕ) (a : Ask) (c : OldClaim) → IsOldClaim kind n a c
    → IsClaim kind n a (lifted_claim c)
claim_in kind n a (old_claim.TooLong task) h = h
claim_in kind n a (old_claim.Bounds lower upper b ps) h = let x = parts_in n ps h.parts in
    record { from = h.from; up_to = h.up_to; balance = h.balance; entries = x.0; trail = x.1 }

lift_in : (old : OldCertificate) → IsOldInRange old → IsInRange (lift old)
lift_in old h = record {
  some = h.some;
  few = h.few;
  ask = h.ask;
  claim = claim_in old.kind old.tasks old.ask old.claim h.claim;
}

-- what is lifted is within the ranges
pub lifted_in : (old : OldCertificate) (cert : Certificate) → cert ≡ lift old → IsOldInRange old → IsInRange cert
lifted_in old cert e h = let P : Certificate → Type 0 = IsInRange in subst P (sym e) (lift_in old h)
