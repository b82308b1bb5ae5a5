-- How long the lines of entries and of frames are: each has at most as many cites as units.
use Rattle.std.proofs.Common.{◌≡◌, inr, ℕ, suc, ◌+◌, ◌*◌, ◌≤◌, ◌-◌, List, [], ◌∷◌, ◌++◌, length, refl, map}
use Rattle.std.proofs.Common.{arith, length-append, Option, Some, subst, sym, Bool}
use Rattle.std.specs.Prelude.{slice_get, codes}
use Rattle.line_rules.specs.lines.Line.{Line}
use Rattle.line_rules.specs.Entries.{IsOpen, Follows, FollowsBy}
use Rattle.line_rules.specs.Loads.{IsLoad, rest}
use Rattle.line_rules.specs.Order.{UpTo, Precedes}
use Rattle.line_rules.specs.Ranges.{IsEntry, IsWhy, IsFrame}
use Rattle.line_rules.specs.Trails.{IsPassed, IsDeepest, Leads, IsTrail}
use Rattle.line_rules.specs.Units.{UnitsBy, UnitsOf, FrameUnits, UnitsIn}
use Rattle.line_rules.specs.declared.types.LineKind.{LineKind}
use Rattle.line_rules.specs.declared.types.Load.{Load}
use Rattle.line_rules.specs.declared.types.Entry.{Entry}
use Rattle.line_rules.specs.declared.types.OpenFrame.{OpenFrame}
use Rattle.line_rules.specs.declared.types.Why.{Why}
use Rattle.line_rules.specs.declared.types.Why.TheVariants as why
use Rattle.line_rules.specs.declared.types.Mode.{Mode}
use Rattle.cert_lines.specs.Numbers.{number_text, set_text, cites_text, mode_letter, last_text}
use Rattle.cert_lines.specs.Rows.{row_text, line_text, rows_text, bound, branch, swap, pairs}
use Rattle.cert_lines.specs.ValueRows.{why_row, entry_row, frame_row}
use Rattle.solution_page.proofs.CiteCounts.{fewer}
use Rattle.solution_page.proofs.WordLengths.{count_length, cycle_length, cite_length, set_length, cites_length, last_length}
use Rattle.solution_page.proofs.WordLengths.{line_length}

module _ (n count : ℕ) (few : n ≤ 1024) (many : count ≤ 20000000) where
  -- an entry in each of the ways in which it follows
  bound_length : (e : Entry) → IsEntry n count e → length (line_text (bound n (Some e.cycle) e.set e.most)) ≤ 545
  unfolding row_text
  bound_length e r = omega (
    arith,
    line_length (bound n (Some e.cycle) e.set e.most) (codes "bound")
        (number_text e.cycle ∷ set_text n e.set ∷ number_text e.most ∷ []) refl,
    cycle_length e.cycle r.cycle,
    set_length n e.set few,
    count_length e.most r.most,
  )

  branch_length : (e : Entry) (mode : Mode) (cites : List ℕ) → IsEntry n count e → IsWhy n count (why.Branch mode cites)
      → length (line_text (branch n (Some e.cycle) mode e.set e.most cites)) ≤ 545 + 9 * length cites
  unfolding row_text
  branch_length e mode cites r are = omega (
    arith,
    line_length (branch n (Some e.cycle) mode e.set e.most cites) (codes "branch")
        ((mode_letter mode ∷ []) ∷ number_text e.cycle ∷ set_text n e.set ∷ number_text e.most ∷ cites_text cites ∷ []) refl,
    cycle_length e.cycle r.cycle,
    set_length n e.set few,
    count_length e.most r.most,
    cites_length count cites many are,
  )

  swap_length : (e : Entry) (cite out into : ℕ) → IsEntry n count e → IsWhy n count (why.Swap cite out into)
      → length (line_text (swap n (Some e.cycle) e.set e.most cite (suc out) (suc into))) ≤ 545
  unfolding row_text
  swap_length e cite out into r w = omega (
    arith,
    line_length (swap n (Some e.cycle) e.set e.most cite (suc out) (suc into)) (codes "swap")
        (number_text e.cycle ∷ set_text n e.set ∷ number_text e.most ∷ number_text cite ∷ number_text (suc out)
        ∷ number_text (suc into) ∷ []) refl,
    cycle_length e.cycle r.cycle,
    set_length n e.set few,
    count_length e.most r.most,
    cite_length cite (omega (arith, w.0, many)),
    count_length (suc out) (omega (arith, w.1.0, few)),
    count_length (suc into) (omega (arith, w.1.1, few)),
  )

  pairs_length : (e : Entry) (two : List Bool) → IsEntry n count e
      → length (line_text (pairs n (Some e.cycle) e.set e.most two)) ≤ 545
  unfolding row_text
  pairs_length e two r = omega (
    arith,
    line_length (pairs n (Some e.cycle) e.set e.most two) (codes "pairs")
        (number_text e.cycle ∷ set_text n e.set ∷ number_text e.most ∷ set_text n two ∷ []) refl,
    cycle_length e.cycle r.cycle,
    set_length n e.set few,
    set_length n two few,
    count_length e.most r.most,
  )

  module _ (kind : LineKind) (line : Line) where
    -- an entry by Branch has at most as many cites as units
    why_length : (earlier : List Entry) (e : Entry) (w : Why) (units : ℕ) → IsEntry n count e → IsWhy n count w
        → FollowsBy kind line earlier e w → UnitsBy line e w units
        → length (line_text (why_row n (Some e.cycle) e w)) ≤ 545 + 9 * units
    why_length earlier e why.Bound units r w f u = omega (arith, bound_length e r)
    why_length earlier e (why.Branch mode cites) units r w f u =
        let less : length f.covers.loads ≤ length u.loads =
        fewer line (IsOpen kind line e.cycle mode e.set e.most) (IsLoad line e.cycle mode e.set) f.covers.loads u.loads
        (λ l o. o.load) f.covers.listed u.listed in
        omega (arith, branch_length e mode cites r w, less, f.covers.as_many, u.long)
    why_length earlier e (why.Swap cite out into) units r w f u = omega (arith, swap_length e cite out into r w)
    why_length earlier e (why.Pairs two) units r w f u = omega (arith, pairs_length e two r)

    -- entries that follow, each from some earlier ones
    pub entries_length : (es : List Entry) (units : ℕ)
        → ((k : ℕ) (e : Entry) → slice_get es k ≡ Some e → IsEntry n count e)
        → ((k : ℕ) (e : Entry) → slice_get es k ≡ Some e → (earlier : List Entry) × Follows kind line earlier e)
        → UnitsOf line es units → length (rows_text (map (entry_row n) es)) ≤ 545 * length es + 9 * units
    entries_length [] units are follow u = omega arith
    entries_length (e ∷ es) units are follow u =
        let r : IsEntry n count e = are 0 e refl in
        let f : (earlier : List Entry) × Follows kind line earlier e = follow 0 e refl in
        let first : length (line_text (entry_row n e)) ≤ 545 + 9 * u.0 = why_length f.0 e e.why u.0 r r.why f.1.by u.2.0 in
        let further : length (rows_text (map (entry_row n) es)) ≤ 545 * length es + 9 * u.1 =
        entries_length es u.1 (λ k x g. are (suc k) x g) (λ k x g. follow (suc k) x g) u.2.1 in
        omega (arith, first, further, u.2.2, length-append (line_text (entry_row n e)) (rows_text (map (entry_row n) es)))

    module _ (X : ℕ) where
      -- a frame has at most as many cites as units
      abbrev IsPaid : OpenFrame → Type 0
      IsPaid f = (units : ℕ) → FrameUnits line X f units → length f.cites ≤ units

      abbrev pub ArePaid : List OpenFrame → Type 0
      ArePaid [] = Unit {0}
      ArePaid (f ∷ fs) = IsPaid f × ArePaid fs

      passed_paid : (es : List Entry) (f : OpenFrame) (l : Load) → IsPassed kind line X es f l → IsPaid f
      passed_paid es f l p units u =
          let U : Option Load → Type 0 = λ z. (k : Load) → Precedes line k l → UpTo line z k in
          let up : (k : Load) → Precedes line k l → UpTo line f.last k = subst U (sym p.last) (λ k b. inr b) in
          omega (
            arith,
            p.covers.as_many,
            u.long,
            fewer line (λ k. IsOpen kind line X f.mode f.set f.most k × Precedes line k l)
                (λ k. IsLoad line X f.mode f.set k × UpTo line f.last k) p.covers.loads u.loads
                (λ k o. (o.0.load, up k o.1)) p.covers.listed u.listed,
          )

      deepest_paid : (es : List Entry) (f : OpenFrame) → IsDeepest kind line X es f → IsPaid f
      deepest_paid es f d units u = omega (
        arith,
        d.covers.as_many,
        u.long,
        fewer line (λ k. IsOpen kind line X f.mode f.set f.most k × UpTo line f.last k)
            (λ k. IsLoad line X f.mode f.set k × UpTo line f.last k) d.covers.loads u.loads
            (λ k o. (o.0.load, o.1)) d.covers.listed u.listed,
      )

      leads_paid : (es : List Entry) (R : List Bool) (most : ℕ) (passed : List OpenFrame) (deepest : OpenFrame)
          → Leads kind line X es R most passed deepest.set deepest.most → IsDeepest kind line X es deepest
          → ArePaid (passed ++ deepest ∷ [])
      leads_paid es R most [] deepest h d = (deepest_paid es deepest d, tt)
      leads_paid es R most (f ∷ fs) deepest h d =
          (passed_paid es f h.0 h.1.2, leads_paid es (rest f.set h.0) (f.most - 1) fs deepest h.1.3 d)

      pub trail_paid : (es : List Entry) (R : List Bool) (most : ℕ) (frames : List OpenFrame)
          → IsTrail kind line X es R most frames → ArePaid frames
      trail_paid es R most frames t = subst ArePaid (sym t.all) (leads_paid es R most t.passed t.deepest t.leads t.deep)

      frame_length : (f : OpenFrame) → IsFrame n count f
          → length (line_text (frame_row n f)) ≤ 785 + 9 * length f.cites
      unfolding row_text
      frame_length f r = omega (
        arith,
        line_length (frame_row n f) (codes "open")
            ((mode_letter f.mode ∷ []) ∷ set_text n f.set ∷ number_text f.most ∷ last_text n f.mode f.last
            ∷ cites_text f.cites ∷ []) refl,
        set_length n f.set few,
        count_length f.most r.most,
        last_length n f.mode f.last few,
        cites_length count f.cites many r.cites,
      )

      pub frames_length : (fs : List OpenFrame) (units : ℕ)
          → ((k : ℕ) (f : OpenFrame) → slice_get fs k ≡ Some f → IsFrame n count f) → ArePaid fs
          → UnitsIn line X fs units → length (rows_text (map (frame_row n) fs)) ≤ 785 * length fs + 9 * units
      frames_length [] units are paid u = omega arith
      frames_length (f ∷ fs) units are paid u =
          let first : length (line_text (frame_row n f)) ≤ 785 + 9 * length f.cites = frame_length f (are 0 f refl) in
          let further : length (rows_text (map (frame_row n) fs)) ≤ 785 * length fs + 9 * u.1 =
          frames_length fs u.1 (λ k x g. are (suc k) x g) paid.1 u.2.1 in
          omega (
            arith,
            first,
            further,
            paid.0 u.0 u.2.0,
            u.2.2,
            length-append (line_text (frame_row n f)) (rows_text (map (frame_row n) fs)),
          )
