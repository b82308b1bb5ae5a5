-- What is read of an entry and of a frame decides what they say.
use Rattle.std.proofs.Common.{◌≡◌, ◌≢◌, ℕ, zero, suc, ◌-◌, ◌<◌, ◌≤◌, Bool, true, false, not, List, [], ◌∷◌, ◌++◌, map}
use Rattle.std.proofs.Common.{replicate, get_or, refl, sym, ◌∙◌, ap, subst, arith, Some, None, Option, lit≤}
use Rattle.std.specs.Prelude.{codes}
use Rattle.std.proofs.lemmas.Option.{same_Some, none-some}
use Rattle.std.proofs.lemmas.List.{length-replicate}
use Rattle.line_rules.specs.Ranges.{IsCycle, IsOf, AreCites, IsWhy, IsFrame, IsLast, IsLoadLike}
use Rattle.line_rules.specs.declared.types.Mode.{Mode}
use Rattle.line_rules.specs.declared.types.Mode.TheVariants.{Fore, Back, Both}
use Rattle.line_rules.specs.declared.types.Load.{Load}
use Rattle.line_rules.specs.declared.types.Entry.{Entry}
use Rattle.line_rules.specs.declared.types.Why.{Why}
use Rattle.line_rules.specs.declared.types.Why.TheVariants as whys
use Rattle.line_rules.specs.declared.types.OpenFrame.{OpenFrame}
use Rattle.cert_lines.specs.Numbers.{number_text, set_text, cites_text, mode_letter}
use Rattle.cert_lines.specs.Rows.{Row, fixed, keyed, span, seat, bound, branch, swap, pairs, trail, frame}
use Rattle.cert_lines.specs.Rows.{state_entry, state_frame, row_entry, joined, entry, entry_by_pairs, open_frame, given}
use Rattle.cert_lines.specs.Rows.{Form, text, number, two_numbers, place, head, entry_of_state, frame_of_state}
use Rattle.cert_lines.specs.Rows.{entry_of_rows, many_numbers, form_of, row_text}
use Rattle.cert_lines.specs.ValueRows.{frame_row, why_row}
use Rattle.cert_lines.specs.Words.{greatest}
use Rattle.cert_lines.specs.inner.LineReading.{entry_in, frame_in}
use Rattle.cert_lines.specs.Pattern.{HasFormOf}
use Rattle.cert_lines.specs.LineForms.{IsWithin, entry_of, IsFrameWithin, frame_of, written, IsGiven, IsSaid, given_row}
use Rattle.cert_lines.specs.LineForms.{IsGivenCycle, MayStand}
use Rattle.cert_lines.specs.declared.draft.Draft.{Draft}
use Rattle.cert_lines.specs.declared.draft.FrameDraft.{FrameDraft}
use Rattle.cert_lines.proofs.SetText.{clip, clip_same, set_again, set_found}
use Rattle.cert_lines.proofs.CiteWords.{sat}
use Rattle.cert_lines.proofs.JudgedLine.{small, small_is}
use Rattle.cert_lines.proofs.EntryLines.{cycle_of, front, draft_of, bound_text, branch_text, swap_text, pairs_text}
use Rattle.cert_lines.proofs.EntryLines.{IsEntryForm}
use Rattle.cert_lines.proofs.EntryLines.{entry_again, entry_found}
use Rattle.cert_lines.proofs.FrameLines.{load_read, last_read, the_frame, frame_again, frame_found}
use Rattle.line_rules.proofs.about_lines.Members.{In-empty}

-- cites below a number that is itself small are read as they are
pub small_cites : (count : ℕ) (cites : List ℕ) → count < greatest → AreCites count cites → map sat cites ≡ cites
small_cites count [] l h = refl
small_cites count (c ∷ cs) l h =
    let a : c < count = h zero c refl in
    ap (λ z. z ∷ map sat cs) (small_is c (omega arith)) ∙ ap (λ z. c ∷ z)
    (small_cites count cs l (λ p x e. h (suc p) x e))

-- the cites that were read are small, so they are what the line says
pub cites_small : (count : ℕ) (cs xs : List ℕ) → count < greatest → map sat cs ≡ xs → AreCites count xs → cs ≡ xs
cites_small count [] [] l e h = refl
cites_small count [] (x ∷ xs) l e h = (cc)
cites_small count (c ∷ cs) [] l e h = (cc)
cites_small count (c ∷ cs) (x ∷ xs) l e h =
    let a : x < count = h zero x refl in
    let s : sat c ≡ x = cc in
    let t : map sat cs ≡ xs = cc in
    ap (λ z. z ∷ cs) (small c x s (omega arith)) ∙ ap (λ z. x ∷ z)
    (cites_small count cs xs l t (λ p y f. h (suc p) y f))

-- the text of a set and that of its tasks alone
pub clip_text : (n : ℕ) (s : List Bool) → n ≤ 1024 → (set_text n (clip n s) ≡ set_text n s) × IsOf n (clip n s)
clip_text n s h = set_found n (set_text n s) (clip n s) h (set_again n s)

cycle_given : (g : Option ℕ) (c : ℕ) → given (written g c) ≡ not (given g)
cycle_given None c = refl
cycle_given (Some x) c = refl

pub entry_is : (n : ℕ) (g : Option ℕ) (b : Bool) (e : Entry) (w : Why) → MayStand b w
    → IsEntryForm n (not (given g)) b (form_of (why_row n (written g e.cycle) e w))
entry_is n g b e whys.Bound m = (refl, cycle_given g e.cycle)
entry_is n g b e (whys.Branch mode cites) m = (refl, cycle_given g e.cycle)
entry_is n g b e (whys.Swap cite out into) m = (refl, cycle_given g e.cycle)
entry_is n g b e (whys.Pairs two) m = (refl, cycle_given g e.cycle, m)

pub entry_none : (n count : ℕ) (g : Option ℕ) (b : Bool) (line : List ℕ) → entry_in n g b line ≡ None
    → HasFormOf (given_row n g) (IsSaid n count g b) line → ⊥
entry_none n count g b line e f =
    let P : Form → Type 0 = IsEntryForm n (not (given g)) b in
    none-some (draft_of g f.2) (sym e ∙ ap (entry_in n g b) (sym f.4)
    ∙ entry_again n g b f.2 (subst P (sym f.3) (entry_is n g b f.0 f.0.why f.1.2)))

-- an entry of no task by the bound
abbrev nothing : ℕ → Entry
nothing c = record { set = replicate 1024 false; most = 0; cycle = c; why = whys.Bound }

pub no_task : (n : ℕ) → IsOf n (replicate 1024 false)
no_task n = record { truths = length-replicate 1024 false; tasks = λ i h. absurd (In-empty 1024 i h) }

one_cycle : IsCycle 1
one_cycle = record { some = lit≤ tt; limit = lit≤ tt }

some_bound : (n count : ℕ) (g : Option ℕ) (p : Bool) → IsGivenCycle g → (c : ℕ) × IsSaid n count g p (nothing c)
some_bound n count None p h = (
  1,
  (record { set = no_task n; most = lit≤ tt; cycle = one_cycle; why = tt }, tt, tt),
)
some_bound n count (Some c) p h = (
  c,
  (record { set = no_task n; most = lit≤ tt; cycle = h; why = tt }, refl, tt),
)

pub some_entry : (n count : ℕ) (g : Option ℕ) (p : Bool) → IsGivenCycle g → (e : Entry) × IsSaid n count g p e
some_entry n count g p h = let s = some_bound n count g p h in (nothing s.0, s.1)

-- an entry of no task by pairs
abbrev no_pairs : ℕ → Entry
no_pairs c = record { set = replicate 1024 false; most = 0; cycle = c; why = whys.Pairs (replicate 1024 false) }

some_pairs : (n count : ℕ) (g : Option ℕ) (p : Bool) → IsGivenCycle g → p ≡ true → (c : ℕ)
    × IsSaid n count g p (no_pairs c)
some_pairs n count None p h e = (
  1,
  (record { set = no_task n; most = lit≤ tt; cycle = one_cycle; why = no_task n }, tt, e),
)
some_pairs n count (Some c) p h e = (
  c,
  (record { set = no_task n; most = lit≤ tt; cycle = h; why = no_task n }, refl, e),
)

-- an entry whose line has such a form
some_like : (n count : ℕ) (g : Option ℕ) (p : Bool) (f : Form) → IsGivenCycle g → IsEntryForm n (not (given g)) p f
    → (e : Entry) × IsSaid n count g p e × (f ≡ form_of (given_row n g e))
some_like n count g p (entry k x) h e =
    let s = some_bound n count g p h in
    (nothing s.0, s.1, ap (λ z. entry z x) e.0 ∙ ap (λ z. entry n z) (e.1 ∙ sym (cycle_given g s.0)))
some_like n count g p (entry_by_pairs k x) h e =
    let s = some_pairs n count g p h e.2 in (
      no_pairs s.0,
      s.1,
      ap (λ z. entry_by_pairs z x) e.0 ∙ ap (λ z. entry_by_pairs n z) (e.1 ∙ sym (cycle_given g s.0)),
    )
some_like n count g p (text t) h e = absurd e
some_like n count g p (number key) h e = absurd e
some_like n count g p (two_numbers key) h e = absurd e
some_like n count g p (place kind) h e = absurd e
some_like n count g p head h e = absurd e
some_like n count g p (open_frame k) h e = absurd e
some_like n count g p (entry_of_state k j) h e = absurd e
some_like n count g p (frame_of_state k j) h e = absurd e
some_like n count g p (entry_of_rows k j) h e = absurd e
some_like n count g p (many_numbers key k) h e = absurd e

-- an entry that may be said is read within the ranges
within_said : (n count : ℕ) (g : Option ℕ) (p : Bool) (e : Entry) (w : Why) → n ≤ 1024 → count ≤ 20000000
    → IsSaid n count g p e → IsWhy n count w → IsWithin n count (draft_of g (why_row n (written g e.cycle) e w))
within_said n count None p e w a b h k = part w k
  where
    cyc : sat e.cycle ≡ e.cycle
    cyc = small_is e.cycle (omega (arith, h.0.cycle.limit))

    c : IsCycle (sat e.cycle)
    c = let P : ℕ → Type 0 = IsCycle in subst P (sym cyc) h.0.cycle

    m : sat e.most ≤ 1024
    m = omega (arith, h.0.most)

    part : (w : Why) → IsWhy n count w → IsWithin n count (draft_of None (why_row n (Some e.cycle) e w))
    part whys.Bound k = record { cycle = c; most = m; why = tt }
    part (whys.Branch mode cites) k = record {
      cycle = c;
      most = m;
      why = (let P : List ℕ → Type 0 = λ x. AreCites count x in
          subst P (sym (small_cites count cites (omega arith) k)) k);
    }
    part (whys.Swap cite out into) k = record {
      cycle = c;
      most = m;
      why = (
        omega (arith, k.0),
        (omega (arith, k.1.0), omega (arith, k.1.0)),
        (omega (arith, k.1.1), omega (arith, k.1.1)),
      );
    }
    part (whys.Pairs two) k = record { cycle = c; most = m; why = tt }
within_said n count (Some x) p e w a b h k = part w k
  where
    c : IsCycle x
    c = let P : ℕ → Type 0 = IsCycle in subst P h.1 h.0.cycle

    m : sat e.most ≤ 1024
    m = omega (arith, h.0.most)

    part : (w : Why) → IsWhy n count w → IsWithin n count (draft_of (Some x) (why_row n None e w))
    part whys.Bound k = record { cycle = c; most = m; why = tt }
    part (whys.Branch mode cites) k = record {
      cycle = c;
      most = m;
      why = (let P : List ℕ → Type 0 = λ x. AreCites count x in
          subst P (sym (small_cites count cites (omega arith) k)) k);
    }
    part (whys.Swap cite out into) k = record {
      cycle = c;
      most = m;
      why = (
        omega (arith, k.0),
        (omega (arith, k.1.0), omega (arith, k.1.0)),
        (omega (arith, k.1.1), omega (arith, k.1.1)),
      );
    }
    part (whys.Pairs two) k = record { cycle = c; most = m; why = tt }

pub entry_range : (n count : ℕ) (g : Option ℕ) (p : Bool) (line : List ℕ) (d : Draft) → n ≤ 1024 → count ≤ 20000000
    → IsGivenCycle g → entry_in n g p line ≡ Some d → (IsWithin n count d → ⊥)
    → HasFormOf (given_row n g) (IsSaid n count g p) line × ((v : Entry) → IsSaid n count g p v
    → row_text (given_row n g v) ≢ line)
entry_range n count g p line d a b h e k =
    let f = entry_found n g p line d a e in
    let s = some_like n count g p (form_of f.row) h f.form in (
      (s.0, s.1, f.row, s.2, f.text),
      λ v u t.
          let w : draft_of g (given_row n g v) ≡ d = same_Some (draft_of g (given_row n g v)) d
          (sym (entry_again n g p (given_row n g v) (entry_is n g p v v.why u.2)) ∙ ap (entry_in n g p) t ∙ e) in
          let P : Draft → Type 0 = λ z. IsWithin n count z in
          k (subst P w (within_said n count g p v v.why a b u u.0.why)),
    )

-- the line of what was read, within the ranges
abbrev Says : ℕ → ℕ → Option ℕ → Bool → List ℕ → Draft → Type 0
Says n count g p line d = IsSaid n count g p (entry_of d) × (row_text (given_row n g (entry_of d)) ≡ line)

cycle_said : (g c : Option ℕ) (x : ℕ) → given c ≡ not (given g) → cycle_of g c ≡ x → x < greatest
    → (written g x ≡ c) × IsGiven g x
cycle_said None None x e f l = (cc)
cycle_said None (Some c) x e f l = (ap (λ z. Some z) (sym (small c x f l)), tt)
cycle_said (Some y) None x e f l = (refl, sym f)
cycle_said (Some y) (Some c) x e f l = (cc)

bound_said : (n count : ℕ) (g c : Option ℕ) (p : Bool) (s : List Bool) (m : ℕ) → n ≤ 1024 → given c ≡ not (given g)
    → IsWithin n count (draft_of g (bound n c s m)) → Says n count g p (row_text (bound n c s m))
    (draft_of g (bound n c s m))
bound_said n count g c p s m a e w =
    let y = cycle_said g c (cycle_of g c) e refl (omega (arith, w.cycle.limit)) in
    let t = clip_text n s a in
    let q : m ≡ sat m = small m (sat m) refl (omega (arith, w.most)) in (
      (record { set = t.1; most = w.most; cycle = w.cycle; why = tt }, y.1, tt),
      ap (λ z. row_text (bound n z (clip n s) (sat m))) y.0 ∙ ap (λ z. row_text (bound n c (clip n s) z)) (sym q)
          ∙ bound_text n c (clip n s) m
          ∙ ap (λ z. codes "bound" ++ 32 ∷ front c (z ++ 32 ∷ number_text m)) t.0 ∙ sym (bound_text n c s m),
    )

branch_said : (n count : ℕ) (g c : Option ℕ) (p : Bool) (mode : Mode) (s : List Bool) (m : ℕ) (cites : List ℕ)
    → n ≤ 1024 → count ≤ 20000000 → given c ≡ not (given g) → IsWithin n count (draft_of g (branch n c mode s m cites))
    → Says n count g p (row_text (branch n c mode s m cites)) (draft_of g (branch n c mode s m cites))
branch_said n count g c p mode s m cites a b e w =
    let y = cycle_said g c (cycle_of g c) e refl (omega (arith, w.cycle.limit)) in
    let t = clip_text n s a in
    let q : m ≡ sat m = small m (sat m) refl (omega (arith, w.most)) in
    let r : cites ≡ map sat cites = cites_small count cites (map sat cites) (omega arith) refl w.why in (
      (record { set = t.1; most = w.most; cycle = w.cycle; why = w.why }, y.1, tt),
      ap (λ z. row_text (branch n z mode (clip n s) (sat m) (map sat cites))) y.0
          ∙ ap (λ z. row_text (branch n c mode (clip n s) z (map sat cites))) (sym q)
          ∙ ap (λ z. row_text (branch n c mode (clip n s) m z)) (sym r)
          ∙ branch_text n c mode (clip n s) m cites
          ∙ ap (λ z. codes "branch" ++ 32 ∷ ((mode_letter mode ∷ [])
          ++ 32 ∷ front c (z ++ 32 ∷ (number_text m ++ 32 ∷ cites_text cites)))) t.0
          ∙ sym (branch_text n c mode s m cites),
    )

swap_said : (n count : ℕ) (g c : Option ℕ) (p : Bool) (s : List Bool) (m cite out into : ℕ) → n ≤ 1024
    → count ≤ 20000000 → given c ≡ not (given g) → IsWithin n count (draft_of g (swap n c s m cite out into))
    → Says n count g p (row_text (swap n c s m cite out into)) (draft_of g (swap n c s m cite out into))
swap_said n count g c p s m cite out into a b e w =
    let y = cycle_said g c (cycle_of g c) e refl (omega (arith, w.cycle.limit)) in
    let t = clip_text n s a in
    let q : m ≡ sat m = small m (sat m) refl (omega (arith, w.most)) in
    let x : cite ≡ sat cite = small cite (sat cite) refl (omega (arith, w.why.0)) in
    let o : out ≡ suc (sat out - 1) = omega (arith, w.why.1) in
    let i : into ≡ suc (sat into - 1) = omega (arith, w.why.2) in (
      (
        record {
          set = t.1;
          most = w.most;
          cycle = w.cycle;
          why =
              (w.why.0, (omega (arith, w.why.1), omega (arith, w.why.2)));
        },
        y.1,
        tt,
      ),
      ap (λ z. row_text (swap n z (clip n s) (sat m) (sat cite) (suc (sat out - 1)) (suc (sat into - 1)))) y.0
          ∙ ap (λ z. row_text (swap n c (clip n s) z (sat cite) (suc (sat out - 1)) (suc (sat into - 1)))) (sym q)
          ∙ ap (λ z. row_text (swap n c (clip n s) m z (suc (sat out - 1)) (suc (sat into - 1)))) (sym x)
          ∙ ap (λ z. row_text (swap n c (clip n s) m cite z (suc (sat into - 1)))) (sym o)
          ∙ ap (λ z. row_text (swap n c (clip n s) m cite out z)) (sym i) ∙ swap_text n c (clip n s) m cite out into
          ∙ ap (λ z. codes "swap" ++ 32 ∷ front c (z ++ 32 ∷ (number_text m
          ++ 32 ∷ (number_text cite ++ 32 ∷ (number_text out ++ 32 ∷ number_text into))))) t.0
          ∙ sym (swap_text n c s m cite out into),
    )

pairs_said : (n count : ℕ) (g c : Option ℕ) (p : Bool) (s : List Bool) (m : ℕ) (two : List Bool) → n ≤ 1024
    → given c ≡ not (given g) → p ≡ true → IsWithin n count (draft_of g (pairs n c s m two))
    → Says n count g p (row_text (pairs n c s m two)) (draft_of g (pairs n c s m two))
pairs_said n count g c p s m two a e may w =
    let y = cycle_said g c (cycle_of g c) e refl (omega (arith, w.cycle.limit)) in
    let t = clip_text n s a in
    let u = clip_text n two a in
    let q : m ≡ sat m = small m (sat m) refl (omega (arith, w.most)) in (
      (record { set = t.1; most = w.most; cycle = w.cycle; why = u.1 }, y.1, may),
      ap (λ z. row_text (pairs n z (clip n s) (sat m) (clip n two))) y.0
          ∙ ap (λ z. row_text (pairs n c (clip n s) z (clip n two))) (sym q)
          ∙ pairs_text n c (clip n s) m (clip n two)
          ∙ ap (λ z. codes "pairs" ++ 32 ∷ front c (z ++ 32 ∷ (number_text m ++ 32 ∷ set_text n (clip n two)))) t.0
          ∙ ap (λ z. codes "pairs" ++ 32 ∷ front c (set_text n s ++ 32 ∷ (number_text m ++ 32 ∷ z))) u.0
          ∙ sym (pairs_text n c s m two),
    )

row_said : (n count : ℕ) (g : Option ℕ) (p : Bool) (r : Row) → n ≤ 1024 → count ≤ 20000000
    → IsEntryForm n (not (given g)) p (form_of r) → IsWithin n count (draft_of g r)
    → Says n count g p (row_text r) (draft_of g r)
row_said n count g p (bound k c s m) a b f w =
    let P : ℕ → Type 0 = λ z. z ≤ 1024 → IsWithin z count (draft_of g (bound k c s m))
    → Says z count g p (row_text (bound k c s m)) (draft_of g (bound k c s m)) in
    subst P f.0 (λ l v. bound_said k count g c p s m l f.1 v) a w
row_said n count g p (branch k c mode s m cites) a b f w =
    let P : ℕ → Type 0 = λ z. z ≤ 1024 → IsWithin z count (draft_of g (branch k c mode s m cites))
    → Says z count g p (row_text (branch k c mode s m cites)) (draft_of g (branch k c mode s m cites)) in
    subst P f.0 (λ l v. branch_said k count g c p mode s m cites l b f.1 v) a w
row_said n count g p (swap k c s m cite out into) a b f w =
    let P : ℕ → Type 0 = λ z. z ≤ 1024 → IsWithin z count (draft_of g (swap k c s m cite out into))
    → Says z count g p (row_text (swap k c s m cite out into)) (draft_of g (swap k c s m cite out into)) in
    subst P f.0 (λ l v. swap_said k count g c p s m cite out into l b f.1 v) a w
row_said n count g p (pairs k c s m two) a b f w =
    let P : ℕ → Type 0 = λ z. z ≤ 1024 → IsWithin z count (draft_of g (pairs k c s m two))
    → Says z count g p (row_text (pairs k c s m two)) (draft_of g (pairs k c s m two)) in
    subst P f.0 (λ l v. pairs_said k count g c p s m two l f.1 f.2 v) a w
row_said n count g p (fixed t) a b f w = absurd f
row_said n count g p (keyed key v) a b f w = absurd f
row_said n count g p (span key x y) a b f w = absurd f
row_said n count g p (seat kind station side) a b f w = absurd f
row_said n count g p (trail t) a b f w = absurd f
row_said n count g p (frame k mode s m last cites) a b f w = absurd f
row_said n count g p (state_entry rem starts least cites) a b f w = absurd f
row_said n count g p (state_frame rem starts need last cites) a b f w = absurd f
row_said n count g p (row_entry units starts base cites) a b f w = absurd f
row_said n count g p (joined key ns) a b f w = absurd f

pub entry_said : (n count : ℕ) (g : Option ℕ) (p : Bool) (line : List ℕ) (d : Draft) → n ≤ 1024 → count ≤ 20000000
    → entry_in n g p line ≡ Some d → IsWithin n count d → IsSaid n count g p (entry_of d)
    × (row_text (given_row n g (entry_of d)) ≡ line)
entry_said n count g p line d a b e w =
    let f = entry_found n g p line d a e in
    let P : Draft → Type 0 = λ z. IsWithin n count z → Says n count g p (row_text f.row) z in
    let r = subst P f.draft (row_said n count g p f.row a b f.form) w in
    (r.0, r.1 ∙ f.text)

-- frames
frame_only : (r : Row) (n : ℕ) → form_of r ≡ open_frame n → (mode : Mode) × (s : List Bool) × (m : ℕ)
    × (last : Option Load) × (cites : List ℕ) × (r ≡ frame n mode s m last cites)
frame_only (frame k mode s m last cites) n e = let q : k ≡ n = cc in
    (mode, s, m, last, cites, ap (λ z. frame z mode s m last cites) q)
frame_only (fixed t) n e = (cc)
frame_only (keyed key v) n e = (cc)
frame_only (span key v w) n e = (cc)
frame_only (seat kind station side) n e = (cc)
frame_only (bound k c s m) n e = (cc)
frame_only (branch k c mode s m cites) n e = (cc)
frame_only (swap k c s m cite out into) n e = (cc)
frame_only (pairs k c s m two) n e = (cc)
frame_only (trail t) n e = (cc)
frame_only (state_entry rem starts least cites) n e = (cc)
frame_only (state_frame rem starts need last cites) n e = (cc)
frame_only (row_entry units starts base cites) n e = (cc)
frame_only (joined key ns) n e = (cc)

pub frame_none : (n count : ℕ) (line : List ℕ) → frame_in n line ≡ None → HasFormOf (frame_row n) (IsFrame n count) line
    → ⊥
frame_none n count line e f =
    let o = frame_only f.2 n f.3 in
    none-some (the_frame o.0 (clip n o.1) (sat o.2) (last_read n o.0 o.3) (map sat o.4))
    (sym e ∙ ap (frame_in n) (sym f.4 ∙ ap row_text o.5) ∙ frame_again n o.0 o.1 o.2 o.3 o.4)

pub some_frame : (n count : ℕ) → (f : OpenFrame) × IsFrame n count f
some_frame n count = (
  record { set = replicate 1024 false; most = 0; mode = Both; last = None; cites = [] },
  record { set = no_task n; most = lit≤ tt; last = tt; cites = λ p c e. absurd (none-some c e) },
)

pub frame_range : (n count : ℕ) (line : List ℕ) (d : FrameDraft) → n ≤ 1024 → count ≤ 20000000
    → frame_in n line ≡ Some d → (IsFrameWithin count d → ⊥)
    → HasFormOf (frame_row n) (IsFrame n count) line × ((v : OpenFrame) → IsFrame n count v
    → row_text (frame_row n v) ≢ line)
frame_range n count line d a b e k =
    let f = frame_found n line d a e in
    let s = some_frame n count in (
      (s.0, s.1, frame n d.mode d.set f.most d.last f.cites, refl, f.text),
      λ v u t.
          let w : the_frame v.mode (clip n v.set) (sat v.most) (last_read n v.mode v.last) (map sat v.cites) ≡ d =
          same_Some (the_frame v.mode (clip n v.set) (sat v.most) (last_read n v.mode v.last) (map sat v.cites)) d
          (sym (frame_again n v.mode v.set v.most v.last v.cites) ∙ ap (frame_in n) t ∙ e) in
          let P : FrameDraft → Type 0 = λ z. IsFrameWithin count z in
          let Q : List ℕ → Type 0 = λ x. AreCites count x in
          k (subst P w (record {
            most = omega (arith, u.most);
            cites = subst Q (sym (small_cites count v.cites (omega arith) u.cites)) u.cites;
          })),
    )

none_at : (j : ℕ) → get_or (replicate 1024 false) j false ≢ true
none_at j = In-empty 1024 j

-- a last load that was read is one of sets of tasks
last_said : (n : ℕ) (mode : Mode) (last : Option Load) → n ≤ 1024 → last_read n mode last ≡ last → IsLast n mode last
last_said n mode None a e = tt
last_said n mode (Some l) a e = let P : Load → Type 0 = λ z. IsLoadLike n mode z in
    subst P (same_Some (load_read n mode l) l e) (like mode)
  where
    like : (mode : Mode) → IsLoadLike n mode (load_read n mode l)
    like Fore = record { front = (clip_text n l.front a).1; back = no_task n; suits = none_at }
    like Back = record { front = no_task n; back = (clip_text n l.back a).1; suits = none_at }
    like Both = record { front = (clip_text n l.front a).1; back = (clip_text n l.back a).1; suits = tt }

pub frame_said : (n count : ℕ) (line : List ℕ) (d : FrameDraft) → n ≤ 1024 → count ≤ 20000000 → frame_in n line ≡ Some d
    → IsFrameWithin count d → IsFrame n count (frame_of d) × (row_text (frame_row n (frame_of d)) ≡ line)
frame_said n count line d a b e w =
    let f = frame_found n line d a e in
    let P : List Bool → Type 0 = λ z. IsOf n z in (
      record {
        set = subst P f.set (clip_text n d.set a).1;
        most = w.most;
        last = last_said n d.mode d.last a f.last;
        cites = w.cites;
      },
      ap (λ z. row_text (frame n d.mode d.set z d.last d.cites))
          (sym (small f.most d.most f.few (omega (arith, w.most))))
          ∙ ap (λ z. row_text (frame n d.mode d.set f.most d.last z))
          (sym (cites_small count f.cites d.cites (omega arith) f.cited w.cites)) ∙ f.text,
    )
