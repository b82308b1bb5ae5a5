-- A helper's pass is known again by the numbers of its desk, and what was done at the desk is what the pass added.
use Rattle.std.proofs.Common.{◌≡◌, ℕ, List, [], ◌++◌, drop, sym, ap, ◌∙◌, subst}
use Rattle.std.specs.Prelude.{slice_index_or}
use Rattle.atomic_table.specs.Seated.{TableId}
use Rattle.line_instance.specs.Line.{Line}
use Rattle.lemma_core.specs.Desks.{Keeps}
use Rattle.lemma_core.specs.Own.{AreAt}
use Rattle.book_share.specs.Passes.{PassView}
use Rattle.round_helpers.specs.inner.Seats.{helper_desk, HasAdded}
use Rattle.round_helpers.specs.inner.Works.{Works}

-- what a desk that kept its numbers is about, of which share its pass is, and which loan it holds
module _ (l m : ℕ) (s t : TableId) (v w : PassView) (k : Keeps (helper_desk l s v) (helper_desk m t w)) where
  pub same_loan : m ≡ l
  same_loan = ap (λ (z : List ℕ). slice_index_or z 0 0) k.kept

  pub same_share : t ≡ s
  same_share = λ i. record {
    words = ap (λ (z : List ℕ). slice_index_or z 3 0) k.kept i;
    slots = ap (λ (z : List ℕ). slice_index_or z 4 0) k.kept i;
    views_name = ap (λ (z : List ℕ). slice_index_or z 5 0) k.kept i;
    atom = ap (λ (z : List ℕ). slice_index_or z 6 0) k.kept i;
    block = ap (λ (z : List ℕ). slice_index_or z 7 0) k.kept i;
    offset = ap (λ (z : List ℕ). slice_index_or z 8 0) k.kept i;
    slot_names = ap (λ (z : List ℕ). drop 9 z) k.kept i;
  }

  pub same_parts : w.parts ≡ v.parts
  same_parts = ap (λ (z : List ℕ). slice_index_or z 2 0) k.kept

  pub same_base : w.base ≡ v.base
  same_base = λ i. record {
    about = k.about i;
    opening = k.opening i;
    from = ap (λ (z : List ℕ). slice_index_or z 1 0) k.kept i;
  }

-- what was done at a helper's desk is what its pass added, where that had no places before
pub added_by : (line : Line) (X l m : ℕ) (s t : TableId) (v w : PassView) (used : ℕ) → v.own ≡ []
    → Works line X (helper_desk l s v) (helper_desk m t w) used used
    → HasAdded line X w used
added_by line X l m s t v w used none d =
    let own : w.own ≡ d.did.places = d.did.own ∙ ap (λ (z : List ℕ). z ++ d.did.places) none in
    let P : List ℕ → Type 0 = λ z. AreAt w.seen z d.items in
    record {
      items = d.items;
      there = subst P (sym own) d.did.there;
      cycles = d.cycles;
      few = d.few;
      published = d.published;
      units = d.units;
      within = d.within;
    }
