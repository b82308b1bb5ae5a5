-- A task comes to a side or goes from it: what is free to join, and what the places are, afterwards.
use Rattle.std.proofs.Common.{◌≡◌, ◌≢◌, ℕ, ◌<◌, ◌↔◌, Bool, true, false, List, length, set, refl, sym, ap, ◌∙◌, subst}
use Rattle.std.proofs.Common.{◌⊎◌, inl, inr, arith}
use Rattle.std.proofs.lemmas.Bool.{cases_Bool, false≢true}
use Rattle.line_instance.specs.Truths.{In, IsEmpty, meet, minus}
use Rattle.line_instance.proofs.Members.{In-meet, In-meet_parts, members}
use Rattle.line_instance.specs.Line.{Line, IsLine, IsRanked, IsTaskSet, tasks, has}
use Rattle.line_rules.specs.declared.types.Side.{Side}
use Rattle.line_rules.proofs.MembersInOrder.{members_less}
use Rattle.line_rules.specs.Sides.{Ahead, AreReady, IsReady, task_at}
use Rattle.line_rules.specs.Ends.{AreMarked, IsEnd}
use Rattle.line_rules.proofs.SideFacts.{set_more}
use Rattle.line_rules.proofs.ReadyFacts.{Adding, add_turn, ready_test, ready_more, waiting_new}
use Rattle.line_rules.proofs.SidePlaces.{clear_in, mark_free, move_in, set_in, swap, unmark}

-- a part of a side with all that is ready for it
pub end_made : {line : Line} {s : Side} {R T N F P : List Bool} (O K : List Bool) → IsTaskSet line T → N ≡ T
    → ((i : ℕ) → In O i → ⊥) → ((i : ℕ) → In R i → has T i ≡ false → In K i)
    → ((i : ℕ) → In F i ↔ In O i ⊎ (In K i × IsReady line s R T i)) → AreMarked line s N F P → IsEnd line s R N F P
end_made {line} {s} {R} {T} {N} {F} {P} O K set w none all free marked =
    let S : List Bool → Type 0 = λ b. IsTaskSet line b in
    let Q : ℕ → List Bool → Type 0 = λ i b. IsReady line s R b i in
    record {
      set = subst S (sym w) set;
      ready = record {
        is = λ i. (
          λ m. elim ((free i).0 m) [ inl o ↦ absurd (none i o) | inr r ↦ subst (Q i) (sym w) r.1 ],
          λ r. let q : IsReady line s R T i = subst (Q i) w r in (free i).1 (inr (all i q.within q.new, q)),
        );
      };
      marked = marked;
    }

-- A free task joins: what waits for it in R is looked at.
module _ {line : Line} {s : Side} {R here free places : List Bool} (end : IsEnd line s R here free places)
    (ok : IsLine line) (of_tasks : IsTaskSet line R) (t : ℕ) (mine : In free t)
    (W : List Bool) {T K : List Bool} (is_T : T ≡ set here t true) (waits : (i : ℕ) → In W i ↔ Ahead line s t i)
    (is_K : K ≡ meet W R) where
  ready_now : IsReady line s R here t
  ready_now = (end.ready.is t).0 mine

  pub waiting_absent : ((i j : ℕ) → In R i → In here j → Ahead line s i j → In here i) → (i : ℕ) → In K i
      → In R i × (has T i ≡ false)
  waiting_absent closed i m =
      let r : IsReady line s R here t = ready_now in
      let q : In R i × (has (set here t true) i ≡ false) = waiting_new line ok s R here free W t end.ready waits closed
      r.within r.new i (ap (λ b. has b i) (sym is_K) ∙ m) in
      (q.0, ap (λ b. has b i) is_T ∙ q.1)

  pub end_grown : {O N F P : List Bool} → O ≡ set free t false → N ≡ T
      → ((i : ℕ) → In F i ↔ In O i ⊎ (In K i × IsReady line s R T i)) → AreMarked line s N F P → IsEnd line s R N F P
  end_grown {O} {N} {F} {P} is_O w found marked =
      let r : IsReady line s R here t = ready_now in
      let is_task : t < tasks line = of_tasks.tasks t r.within in
      let now : N ≡ set here t true = w ∙ is_T in
      let S : List Bool → Type 0 = λ b. IsTaskSet line b in
      let A : List Bool → Type 0 = λ b. AreReady line s R b F in
      let Q : ℕ → List Bool → Type 0 = λ i b. IsReady line s R b i in
      record {
        set = subst S (sym now) (set_more line here t is_task end.set);
        ready = subst A (sym now) (ready_more line ok s R here free W t end.ready waits F r.within r.new
            (omega (arith, is_task, ok.small, end.set.truths)) (λ i. (
              λ m. elim ((found i).0 m) [
                | inl o ↦ inl (ap (λ b. has b i) (sym is_O) ∙ o)
                | inr p ↦ inr (ap (λ b. has b i) (sym is_K) ∙ p.0, subst (Q i) is_T p.1)
              ],
              λ m. (found i).1 (elim m [
                | inl o ↦ inl (ap (λ b. has b i) is_O ∙ o)
                | inr p ↦ inr (ap (λ b. has b i) is_K ∙ p.0, subst (Q i) (sym is_T) p.1)
              ]),
            )));
        marked = marked;
      }

-- Task t has left the side, where `first` stood and `old` was free, and what waits for it is shut out one by one: these
-- are left of it.
pub record Shutting (line : Line) (s : Side) (t : ℕ) (first old shut here free places : List Bool) : Type 0 where
  pub marked : AreMarked line s here free places
  pub stand : here ≡ set first t false
  pub known : (i : ℕ) → In shut i → i < tasks line
  pub gone : (i : ℕ) → In shut i → In here i → ⊥
  pub left : (i : ℕ) → In shut i → Ahead line s t i
  pub only : (i : ℕ) → In free i → (In old i ⊎ (i ≡ t)) × (In shut i ⊎ (Ahead line s t i → ⊥))
  pub kept : (i : ℕ) → In old i ⊎ (i ≡ t) → (Ahead line s t i → ⊥) → In free i

pub shut_start : {line : Line} {s : Side} {t : ℕ} {here free places T S W K : List Bool} → IsLine line → IsRanked line
    → AreMarked line s here free places → ((i : ℕ) → In free i → has here i ≡ false) → In here t → t < tasks line
    → T ≡ set here t false → S ≡ set free t true → length S ≡ 1024 → ((i : ℕ) → In W i ↔ Ahead line s t i)
    → IsTaskSet line W → K ≡ meet S W → Shutting line s t here free K T S places
shut_start {line} {s} {t} {here} {free} {places} {T} {S} {W} {K} ok ranked marked apart mine within is_T is_S long waits
    of_tasks is_K =
    let inS : (j : ℕ) → In S j ↔ In free j ⊎ (j ≡ t) = set_in free S t is_S long (omega (arith, within, ok.small)) in
    let inT : (j : ℕ) → In T j ↔ In here j × (j ≢ t) = clear_in here T t is_T in
    let met : (j : ℕ) → In K j → In S j × In W j = λ j m. In-meet_parts S W j (ap (λ b. has b j) (sym is_K) ∙ m) in
    record {
      marked = swap line s S T places (move_in line ranked s free here places (swap line s here free places marked) S T
          t mine inS inT);
      stand = is_T;
      known = λ i m. of_tasks.tasks i (met i m).1;
      gone = λ i m x.
          let r : In here i × (i ≢ t) = (inT i).0 x in
          elim ((inS i).0 (met i m).0) [ inl f ↦ false≢true (sym (apart i f) ∙ r.0) | inr e ↦ r.1 e ];
      left = λ i m. (waits i).0 (met i m).1;
      only = λ i m. (
        (inS i).0 m,
        elim (cases_Bool (has W i)) [
          | inl w ↦ inl (ap (λ b. has b i) is_K ∙ In-meet S W i m w)
          | inr n ↦ inr (λ a. false≢true (sym n ∙ (waits i).1 a))
        ],
      );
      kept = λ i m n. (inS i).1 m;
    }

pub fewer_shut : {K : List Bool} (shut : List Bool) (i : ℕ) → In shut i → K ≡ set shut i false
    → members K < members shut
fewer_shut {K} shut i m is_K = let P : List Bool → Type 0 = λ b. members b < members shut in
    subst P (sym is_K) (members_less shut i m)

module _ {line : Line} {s : Side} {t : ℕ} {first old shut here free places : List Bool}
    (h : Shutting line s t first old shut here free places) where
  pub shut_turn : {K F P : List Bool} {i q : ℕ} → IsRanked line → In shut i → q < tasks line → task_at line s q ≡ i
      → K ≡ set shut i false → F ≡ set free i false → P ≡ set places q false → Shutting line s t first old K here F P
  shut_turn {K} {F} {P} {i} {q} ranked mine w at is_K is_F is_P =
      let inK : (j : ℕ) → In K j ↔ In shut j × (j ≢ i) = clear_in shut K i is_K in
      let inF : (j : ℕ) → In F j ↔ In free j × (j ≢ i) = clear_in free F i is_F in
      record {
        marked = unmark line ranked s here free places h.marked F P q i w at (h.gone i mine) inF
            (clear_in places P q is_P);
        stand = h.stand;
        known = λ j m. h.known j ((inK j).0 m).0;
        gone = λ j m x. h.gone j ((inK j).0 m).0 x;
        left = λ j m. h.left j ((inK j).0 m).0;
        only = λ j m.
            let r : In free j × (j ≢ i) = (inF j).0 m in
            let o : (In old j ⊎ (j ≡ t)) × (In shut j ⊎ (Ahead line s t j → ⊥)) = h.only j r.0 in
            (o.0, elim o.1 [ inl x ↦ inl ((inK j).1 (x, r.1)) | inr n ↦ inr n ]);
        kept = λ j m n. (inF j).1 (
          h.kept j m n,
          λ e. n (let Q : ℕ → Type 0 = λ k. Ahead line s t k in
              subst Q (sym e) (h.left i mine)),
        );
      }

  pub shut_end : IsEmpty shut → (i : ℕ) → In free i ↔ (In old i ⊎ (i ≡ t)) × (Ahead line s t i → ⊥)
  shut_end none i = (
    λ m.
        let o : (In old i ⊎ (i ≡ t)) × (In shut i ⊎ (Ahead line s t i → ⊥)) = h.only i m in
        (o.0, λ a. elim o.1 [ inl x ↦ none i x | inr n ↦ n a ]),
    λ m. h.kept i m.0 m.1,
  )

-- Candidates are gone over, and those that are ready come to the free tasks and to the places.
pub record Freeing (line : Line) (s : Side) (R first start old left here free places : List Bool) : Type 0 where
  pub marked : AreMarked line s here free places
  pub stand : here ≡ first
  pub adding : Adding line s R first start old left free

-- a candidate that was looked at comes free, or stays shut out
pub record CandidateTurn (line : Line) (s : Side) (R first start old both L here free places : List Bool)
    (i : ℕ) : Type 0 where
  pub comes_free : {F P : List Bool} {q : ℕ} → IsLine line → IsRanked line → IsEmpty both → i < 1024
      → F ≡ set free i true → length F ≡ 1024 → q < tasks line → task_at line s q ≡ i → P ≡ set places q true
      → length P ≡ 1024
      → Freeing line s R first start old L here F P
  pub stays_shut : (IsEmpty both → ⊥) → Freeing line s R first start old L here free places

module _ {line : Line} {s : Side} {R first start old left here free places : List Bool}
    (h : Freeing line s R first start old left here free places)
    (sound : (j : ℕ) → In start j → In R j × (has first j ≡ false))
    (i : ℕ) (mine : In left i) (A W : List Bool) {absent both rest L : List Bool}
    (ahead : (j : ℕ) → In A j ↔ Ahead line s j i) (is_absent : absent ≡ minus R first)
    (is_both : both ≡ meet A absent) (waits : (j : ℕ) → In W j ↔ Ahead line s i j)
    (is_rest : rest ≡ set left i false) (is_L : L ≡ minus rest W) where
  test : IsEmpty both ↔ IsReady line s R first i
  test = let q : In R i × (has first i ≡ false) = sound i (h.adding.within i mine) in
      ready_test line s R first A absent both i ahead is_absent is_both q.0 q.1

  turn : (F : List Bool) → ((j : ℕ) → In F j → In free j ⊎ ((j ≡ i) × IsReady line s R first i))
      → ((j : ℕ) → In free j → In F j) → (IsReady line s R first i → In F i) → Adding line s R first start old L F
  turn F new kept ready =
      let P : List Bool → Type 0 = λ b. Adding line s R first start old b F in
      subst P (sym (is_L ∙ ap (λ b. minus b W) is_rest)) (add_turn line s R first start old left free W i h.adding sound
      mine waits F new kept ready)

  -- nothing that is ahead of the candidate is absent: it comes free, and its place is marked
  comes_free : {F P : List Bool} {q : ℕ} → IsLine line → IsRanked line → IsEmpty both → i < 1024 → F ≡ set free i true
      → length F ≡ 1024 → q < tasks line → task_at line s q ≡ i → P ≡ set places q true → length P ≡ 1024
      → Freeing line s R first start old L here F P
  comes_free {F} {P} {q} ok ranked none small is_F long w at is_P wide =
      let inF : (j : ℕ) → In F j ↔ In free j ⊎ (j ≡ i) = set_in free F i is_F long small in
      record {
        marked = mark_free line ranked s here free places h.marked F P q i w at inF
            (set_in places P q is_P wide (omega (arith, w, ok.small)));
        stand = h.stand;
        adding = turn F (λ j m. elim ((inF j).0 m) [ inl o ↦ inl o | inr e ↦ inr (e, test.0 none) ])
            (λ j m. (inF j).1 (inl m)) (λ r. (inF i).1 (inr refl));
      }

  -- something is
  stays_shut : (IsEmpty both → ⊥) → Freeing line s R first start old L here free places
  stays_shut some = record {
    marked = h.marked;
    stand = h.stand;
    adding = turn free (λ j m. inl m) (λ j m. m) (λ r. absurd (some (test.1 r)));
  }

  pub candidate_turn : CandidateTurn line s R first start old both L here free places i
  candidate_turn = record { comes_free = comes_free; stays_shut = stays_shut }
