-- Tables: node 0 alone, a next node that is changed, and a node more.
use Rattle.std.proofs.Common.{◌≡◌, ℕ, ◌+◌, ◌<◌, ◌≤◌, List, [], ◌∷◌, ◌++◌, length, get_or, set}
use Rattle.std.proofs.Common.{refl, sym, ap, ◌∙◌, subst, inl, inr, arith, Some, length-append, ◌⊎◌}
use Rattle.std.specs.Prelude.{slice_get}
use Rattle.std.specs.List.{AllZip}
use Rattle.std.proofs.lemmas.Bool.{cases_lt, cases_eq}
use Rattle.std.proofs.lemmas.Option.{slice_get-get_or, get_or_from_slice_get, slice_get_within}
use Rattle.std.proofs.lemmas.List.{length-set, get_or-set_same, get_or-set_other}
use Rattle.std.proofs.lemmas.List.{get_or_append_left, get_or_push}
use Rattle.line_rules.proofs.ListFacts.{get_longer}
use Rattle.sequence_rules.specs.States.{next_starts, root_starts}
use Rattle.sequence_table.specs.Nodes.{Nodes, starts_of, next_of}
use Rattle.sequence_table.specs.Tables.{IsTable, Leads, AreWithin, led_to, led_by, with_like, HasNone, most_nodes}
use Rattle.sequence_table.specs.inner.Kept.{nodes_of, rows_with}
use Rattle.sequence_table.proofs.StepFacts.{no_later_same, no_later_both, next_later}

-- the next node after a change of one
next_changed : (t : Nodes) (x model y z k : ℕ) → x < length t.nexts → model < length (get_or t.nexts x [])
    → ((z ≡ x) × (k ≡ model) × (next_of (led_by t x model y) z k ≡ y))
    ⊎ (next_of (led_by t x model y) z k ≡ next_of t z k)
next_changed t x model y z k l m =
    let row : List ℕ = get_or t.nexts x [] in
    elim (cases_eq z x) [
      | inr other ↦
          inr (ap (λ (r : List ℕ). get_or r k 0)
          (get_or-set_other t.nexts x z (set row model y) [] other))
      | inl is ↦
          let here : get_or (set t.nexts x (set row model y)) z [] ≡ set row model y =
          ap (λ i. get_or (set t.nexts x (set row model y)) i []) is
          ∙ get_or-set_same t.nexts x (set row model y) [] l in
          elim (cases_eq k model) [
            | inr differs ↦
                inr (ap (λ (r : List ℕ). get_or r k 0) here ∙ get_or-set_other row model k y 0 differs
                ∙ ap (λ i. get_or (get_or t.nexts i []) k 0) (sym is))
            | inl same ↦
                inl (
                  is,
                  same,
                  ap (λ (r : List ℕ). get_or r k 0) here ∙ ap (λ i. get_or (set row model y) i 0) same
                      ∙ get_or-set_same row model y 0 m,
                )
          ]
    ]

-- each row of next nodes has sixteen after a change of one
rows_kept : (t : Nodes) (x model y z : ℕ) → IsTable t → x < length t.starts → z < length t.starts
    → length (get_or (led_by t x model y).nexts z []) ≡ 16
rows_kept t x model y z h l m =
    let row : List ℕ = get_or t.nexts x [] in
    elim (cases_eq z x) [
      | inr other ↦
          ap (λ (r : List ℕ). length r) (get_or-set_other t.nexts x z (set row model y) [] other) ∙ h.each z m
      | inl is ↦
          ap (λ (r : List ℕ). length r) (ap (λ i. get_or (set t.nexts x (set row model y)) i []) is
          ∙ get_or-set_same t.nexts x (set row model y) [] (omega (arith, h.both, l)))
          ∙ length-set row model y ∙ h.each x l
    ]

-- a table in which a model leads to a node that serves the step
pub table_led : (t : Nodes) (x model y : ℕ) → IsTable t → x < length t.starts → model < length t.times.demands
    → Leads t x model y → IsTable (led_by t x model y)
table_led t x model y h l m lead = record {
  times = h.times;
  light = h.light;
  interval = h.interval;
  reach = h.reach;
  root = h.root;
  begun = h.begun;
  apart = h.apart;
  both = length-set t.nexts x (set (get_or t.nexts x []) model y) ∙ h.both;
  each = λ z g. rows_kept t x model y z h l g;
  leads = λ z k g n. elim (next_changed t x model y z k (omega (arith, h.both, l))
      (omega (arith, h.each x l, h.times.models, m))) [
        | inr same ↦
            let old : Leads t z k (next_of t z k) = h.leads z k g n in
            let P : ℕ → Type 0 = λ w. Leads (led_by t x model y) z k w in
            subst P (sym same) (record { within = old.within; no_later = old.no_later })
        | inl new ↦
            let P : ℕ → Type 0 = λ w. Leads (led_by t x model y) z k w in
            let Q : ℕ → Type 0 = λ w. Leads (led_by t x model y) w k y in
            let R : ℕ → Type 0 = λ w. Leads (led_by t x model y) x w y in
            subst P (sym new.2) (subst Q (sym new.0)
            (subst R (sym new.1) (record { within = lead.within; no_later = lead.no_later })))
      ];
  few = h.few;
}

-- a node leads right, where what it leads to is known by equations
leads_from : (t : Nodes) (w k v : ℕ) (a b : List ℕ) → next_of t w k ≡ v → v < length t.starts → starts_of t v ≡ a
    → starts_of t w ≡ b → AllZip (λ p q. p ≤ q) a (next_starts t.times t.interval t.reach k b)
    → Leads t w k (next_of t w k)
leads_from t w k v a b next l at from z =
    let A : List ℕ → Type 0 = λ s. AllZip (λ p q. p ≤ q) s (next_starts t.times t.interval t.reach k b) in
    let B : List ℕ → Type 0 = λ s. AllZip (λ p q. p ≤ q) (starts_of t v) (next_starts t.times t.interval t.reach k s) in
    let P : ℕ → Type 0 = λ i. Leads t w k i in
    subst P (sym next) (record { within = l; no_later = subst B (sym from) (subst A (sym at) z) })

-- a table with one node more, which a model leads to and which is like the node that the model led to before
module _ (t : Nodes) (x model : ℕ) (h : IsTable t) (l : x < length t.starts) (m : model < length t.times.demands)
    (within : AreWithin t.times t.reach (led_to t x model)) (none : HasNone t (led_to t x model))
    (room : length t.starts < most_nodes t.times) where
  abbrev y : ℕ
  y = length t.starts

  abbrev z : ℕ
  z = next_of t x model

  abbrev s : List ℕ
  s = led_to t x model

  abbrev one : Nodes
  one = led_by t x model y

  abbrev two : Nodes
  two = with_like one s z

  low : z < y
  low = (h.leads x model l m).within

  rows : length one.nexts ≡ y
  rows = length-set t.nexts x (set (get_or t.nexts x []) model y) ∙ h.both

  many : length two.starts ≡ y + 1
  many = length-append t.starts (s ∷ [])

  front : (w : ℕ) → w < y → starts_of two w ≡ starts_of t w
  front w g = get_or_append_left t.starts (s ∷ []) [] w g

  last : starts_of two y ≡ s
  last = get_or_push t.starts s [] y refl

  next_front : (w k : ℕ) → w < y → next_of two w k ≡ next_of one w k
  next_front w k g = ap (λ (r : List ℕ). get_or r k 0)
      (get_or_append_left one.nexts (get_or one.nexts z [] ∷ []) [] w (omega (arith, rows, g)))

  next_last : (k : ℕ) → next_of two y k ≡ next_of one z k
  next_last k = ap (λ (r : List ℕ). get_or r k 0) (get_or_push one.nexts (get_or one.nexts z []) [] y rows)

  -- a node that was there
  leads_front : (w k : ℕ) → w < y → k < length t.times.demands → Leads two w k (next_of two w k)
  leads_front w k g n = elim (next_changed t x model y w k (omega (arith, h.both, l))
      (omega (arith, h.each x l, h.times.models, m))) [
        | inr same ↦
            let old : Leads t w k (next_of t w k) = h.leads w k g n in
            leads_from two w k (next_of t w k) (starts_of t (next_of t w k)) (starts_of t w)
            (next_front w k g ∙ same) (omega (arith, many, old.within))
            (front (next_of t w k) old.within) (front w g) old.no_later
        | inl new ↦
            let to : starts_of two w ≡ starts_of t x = front w g ∙ ap (λ i. starts_of t i) new.0 in
            let P : ℕ → Type 0 = λ i. AllZip (λ p q. p ≤ q) s (led_to t x i) in
            leads_from two w k y s (starts_of t x) (next_front w k g ∙ new.2) (omega (arith, many)) last to
            (subst P (sym new.1) (no_later_same s))
      ]

  -- the node that is added
  leads_last : (k : ℕ) → k < length t.times.demands → Leads two y k (next_of two y k)
  leads_last k n =
      let like : AllZip (λ p q. p ≤ q) (starts_of t z) s = (h.leads x model l m).no_later in
      elim (next_changed t x model y z k (omega (arith, h.both, l))
      (omega (arith, h.each x l, h.times.models, m))) [
        | inr same ↦
            let old : Leads t z k (next_of t z k) = h.leads z k low n in
            leads_from two y k (next_of t z k) (starts_of t (next_of t z k)) s
            (next_last k ∙ same) (omega (arith, many, old.within))
            (front (next_of t z k) old.within) last
            (no_later_both (starts_of t (next_of t z k)) (led_to t z k)
            (next_starts t.times t.interval t.reach k s) old.no_later
            (next_later t.times t.interval t.reach k (starts_of t z) s like))
        | inl new ↦
            let P : ℕ → Type 0 = λ i. AllZip (λ p q. p ≤ q) (starts_of t i) s in
            let Q : ℕ → Type 0 = λ i. AllZip (λ p q. p ≤ q) s (next_starts t.times t.interval t.reach i s) in
            leads_from two y k y s s (next_last k ∙ new.2) (omega (arith, many)) last last
            (subst Q (sym new.1)
            (next_later t.times t.interval t.reach model (starts_of t x) s (subst P new.0 like)))
      ]

  -- no node that was there has the starts of the one that is added
  differs : (w : ℕ) → w < y → starts_of t w ≡ s → ⊥
  differs w g e = none w (slice_get-get_or t.starts w [] g ∙ ap (λ (r : List ℕ). Some r) e)

  apart_two : (w v : ℕ) → w < length two.starts → v < length two.starts → starts_of two w ≡ starts_of two v → w ≡ v
  apart_two w v a b e = elim (cases_lt w y) [
    | inl wl ↦ elim (cases_lt v y) [
      | inl vl ↦ h.apart w v wl vl (sym (front w wl) ∙ e ∙ front v vl)
      | inr vr ↦
          let is : v ≡ y = omega (arith, many, b, vr) in
          absurd (differs w wl (sym (front w wl) ∙ e ∙ ap (λ i. starts_of two i) is ∙ last))
    ]
    | inr wr ↦
        let wis : w ≡ y = omega (arith, many, a, wr) in
        elim (cases_lt v y) [
          | inl vl ↦ absurd (differs v vl (sym (front v vl) ∙ sym e ∙ ap (λ i. starts_of two i) wis ∙ last))
          | inr vr ↦ omega (arith, many, b, vr, wis)
        ]
  ]

  rows_two : (w : ℕ) → w < length two.starts → length (get_or two.nexts w []) ≡ 16
  rows_two w a = elim (cases_lt w y) [
    | inl wl ↦
        ap (λ (r : List ℕ). length r)
        (get_or_append_left one.nexts (get_or one.nexts z [] ∷ []) [] w (omega (arith, rows, wl)))
        ∙ rows_kept t x model y w h l wl
    | inr wr ↦
        let is : w ≡ y = omega (arith, many, a, wr) in
        ap (λ (r : List ℕ). length r) (ap (λ i. get_or two.nexts i []) is
        ∙ get_or_push one.nexts (get_or one.nexts z []) [] y rows) ∙ rows_kept t x model y z h l low
  ]

  begun_two : (w : ℕ) → w < length two.starts → AreWithin t.times t.reach (starts_of two w)
  begun_two w a =
      let P : List ℕ → Type 0 = λ r. AreWithin t.times t.reach r in
      elim (cases_lt w y) [
        | inl wl ↦ subst P (sym (front w wl)) (h.begun w wl)
        | inr wr ↦
            let is : w ≡ y = omega (arith, many, a, wr) in
            subst P (sym (ap (λ i. starts_of two i) is ∙ last)) within
      ]

  leads_two : (w k : ℕ) → w < length two.starts → k < length t.times.demands → Leads two w k (next_of two w k)
  leads_two w k a n = elim (cases_lt w y) [
    | inl wl ↦ leads_front w k wl n
    | inr wr ↦
        let is : y ≡ w = omega (arith, many, a, wr) in
        let P : ℕ → Type 0 = λ i. Leads two i k (next_of two i k) in
        subst P is (leads_last k n)
  ]

  pub table_like : IsTable (with_like (led_by t x model (length t.starts)) (led_to t x model) (next_of t x model))
  table_like = record {
    times = h.times;
    light = h.light;
    interval = h.interval;
    reach = h.reach;
    root = get_longer t.starts (s ∷ []) 0 (root_starts t.times) h.root;
    begun = begun_two;
    apart = apart_two;
    both = length-append one.nexts (get_or one.nexts z [] ∷ []) ∙ omega (arith, rows, many);
    each = rows_two;
    leads = leads_two;
    few = omega (arith, many, room);
  }

-- a node with the starts that a step leads to serves the step
pub leads_known : (t : Nodes) (x model y : ℕ) (led : List ℕ) → slice_get t.starts y ≡ Some led → led ≡ led_to t x model
    → Leads t x model y
leads_known t x model y led there is =
    let P : List ℕ → Type 0 = λ s. AllZip (λ a b. a ≤ b) s (led_to t x model) in
    record {
      within = slice_get_within t.starts y led there;
      no_later = subst P (sym (get_or_from_slice_get t.starts y led [] there ∙ is)) (no_later_same (led_to t x model));
    }

-- the table of fields that are known by equations has a node more
like_here : (t : Nodes) (x model : ℕ) (led : List ℕ) (S N : List (List ℕ)) → IsTable t → x < length t.starts
    → model < length t.times.demands → led ≡ led_to t x model → AreWithin t.times t.reach led → HasNone t led
    → length t.starts < most_nodes t.times
    → S ≡ t.starts ++ led ∷ [] → N ≡ (with_like (led_by t x model (length t.starts)) led (next_of t x model)).nexts
    → IsTable (nodes_of t.times t.interval t.reach S N)
like_here t x model led S N h l m is within none room s n =
    let W : List ℕ → Type 0 = λ q. AreWithin t.times t.reach q in
    let H : List ℕ → Type 0 = λ q. HasNone t q in
    let rows : List (List ℕ) = (with_like (led_by t x model (length t.starts)) led (next_of t x model)).nexts in
    let A : List (List ℕ) → Type 0 = λ q. IsTable (nodes_of t.times t.interval t.reach q rows) in
    let B : List (List ℕ) → Type 0 = λ q. IsTable (nodes_of t.times t.interval t.reach S q) in
    subst B (sym n) (subst A (sym (s ∙ ap (λ (q : List ℕ). t.starts ++ q ∷ []) is))
    (table_like t x model h l m (subst W is within) (subst H is none) room))

pub like_from : (t now : Nodes) (x model : ℕ) (led : List ℕ) (S N : List (List ℕ)) → t ≡ now → IsTable t
    → x < length now.starts → model < length now.times.demands → led ≡ led_to now x model
    → AreWithin now.times now.reach led → HasNone now led → length now.starts < most_nodes now.times
    → S ≡ t.starts ++ led ∷ [] → N ≡ (with_like (led_by t x model (length t.starts)) led (next_of t x model)).nexts
    → IsTable (nodes_of t.times t.interval t.reach S N)
like_from t now x model led S N e h l m is within none room s n =
    let G : Nodes → Type 0 = λ w. x < length w.starts → model < length w.times.demands → led ≡ led_to w x model
    → AreWithin w.times w.reach led → HasNone w led → length w.starts < most_nodes w.times
    → IsTable (nodes_of t.times t.interval t.reach S N) in
    subst G e (λ l m is within none room. like_here t x model led S N h l m is within none room s n) l m is within none
    room

-- the same of what is put together step by step
pub like_pushed : (t now : Nodes) (x model added : ℕ) (led item items : List ℕ) (S N R : List (List ℕ)) → t ≡ now
    → IsTable t → x < length now.starts → model < length now.times.demands → led ≡ led_to now x model
    → AreWithin now.times now.reach led → HasNone now led → length now.starts < most_nodes now.times
    → S ≡ t.starts ++ item ∷ [] → item ≡ items → items ≡ led → R ≡ t.nexts → added ≡ length t.starts
    → N ≡ rows_with R x model added → IsTable (nodes_of t.times t.interval t.reach S N)
like_pushed t now x model added led item items S N R e h l m is within none room s i j r a n =
    like_from t now x model led S N e h l m is within none room
    (s ∙ ap (λ (q : List ℕ). t.starts ++ q ∷ []) (i ∙ j))
    (n ∙ ap (λ (q : List (List ℕ)). rows_with q x model added) r ∙ ap (λ y. rows_with t.nexts x model y) a)
