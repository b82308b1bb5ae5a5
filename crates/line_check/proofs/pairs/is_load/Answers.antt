use Rattle.std.proofs.Common.{ℕ, ◌≡◌, List, Bool, ◌∙◌, sym, ap, subst, arith, length}
use Rattle.std.proofs.lemmas.Bool.{false≢true}
use Rattle.line_instance.specs.Truths.{In, IsSubset, IsEmpty}
use Rattle.line_instance.proofs.Members.{In-empty}
use Rattle.line_instance.specs.Line.{IsTaskSet, has}
use Rattle.line_instance.specs.Sums.{sum_where}
use Rattle.line_rules.specs.Loads.{taken}
use Rattle.line_rules.proofs.SideFacts.{taken_set}
use Rattle.line_check.proofs.EntryFaults.{some_task}
use Rattle.line_check.proofs.pairs.is_load.Goals as goal

pub sum-requires : goal.sum-requires
sum-requires c =
    let P : List Bool → Type 0 = λ b. IsTaskSet c.args.inst.now b in
    subst P (sym c.union-taken.ensures.value) (taken_set c.args.load.now (record {
      front = record { truths = c.requires.like.front.truths; tasks = c.requires.like.front.tasks };
      back = record { truths = c.requires.like.back.truths; tasks = c.requires.like.back.tasks };
    }) (sym (ap (λ (b : List Bool). length b) c.union-taken.ensures.value) ∙ c.union-taken.ensures.truths))

pub returns : goal.returns
returns c =
    let both : c.union-taken.result ≡ taken c.args.load.now = c.union-taken.ensures.value in
    let P : List Bool → Type 0 = λ b. IsTaskSet c.args.inst.now b in
    let tasks_of : IsTaskSet c.args.inst.now (taken c.args.load.now) = taken_set c.args.load.now (record {
      front = record { truths = c.requires.like.front.truths; tasks = c.requires.like.front.tasks };
      back = record { truths = c.requires.like.back.truths; tasks = c.requires.like.back.tasks };
    }) (sym (ap (λ (b : List Bool). length b) both) ∙ c.union-taken.ensures.truths) in
    let S : ℕ → List Bool → Type 0 = λ j b. In b j in
    let Q : List Bool → Type 0 = λ b. IsSubset b c.args.set.now in
    let E : List Bool → Type 0 = λ b. IsEmpty b in
    let sum : sum_where (has c.union-taken.result) c.args.inst.now.times
    ≡ sum_where (has (taken c.args.load.now)) c.args.inst.now.times =
    ap (λ (b : List Bool). sum_where (has b) c.args.inst.now.times) both in (
      λ e. record {
        front = record { truths = c.requires.like.front.truths; tasks = c.requires.like.front.tasks };
        back = record { truths = c.requires.like.back.truths; tasks = c.requires.like.back.tasks };
        suits = c.requires.like.suits;
        within = subst Q both (c.is_subset.ensures.0 c.if-not-is_subset.false);
        disjoint = λ i f b. In-empty 1024 i (subst (S i) c.empty.ensures.value
            (c.is_met.ensures.0 c.if-not-is_met.false i f b));
        some = some_task (taken c.args.load.now) (λ h. false≢true
            (sym c.if-is_empty.false ∙ c.is_empty.ensures.1 (subst E (sym both) h)));
        fits = omega (arith, c.if-sum-cycle.false, c.sum.ensures.sum, sum);
        parted = λ i j a b p. let w = c.is_closed.ensures.0 e j (tasks_of.tasks j b) in
            w.parted (subst (S j) (sym both) b) i (subst (S i) (sym both) a) p;
        before = λ i j a b p. let w = c.is_closed.ensures.0 e j (c.requires.like.front.tasks j b) in w.before b i a p;
        after = λ i j a b p. let w = c.is_closed.ensures.0 e i (c.requires.like.back.tasks i a) in w.after a j b p;
      },
      λ f. c.is_closed.ensures.1 (λ i l. record {
        parted = λ m j n p. f.parted j i (subst (S j) both n) (subst (S i) both m) p;
        before = λ m j n p. f.before j i n m p;
        after = λ m j n p. f.after i j m n p;
      }),
    )
