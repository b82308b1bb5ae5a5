-- The pieces of the jobs, as they are put together.
use Rattle.std.proofs.Common.{◌≡◌, ℕ, suc, ◌+◌, ◌<◌, ◌≤◌, List, [], ◌∷◌, ◌++◌, length, take, get_or, refl, sym, ap, ◌∙◌}
use Rattle.std.proofs.Common.{subst, arith, Some}
use Rattle.std.specs.Prelude.{slice_get}
use Rattle.std.proofs.lemmas.List.{length-map, length-take, length-take-le, take_all}
use Rattle.std.proofs.Math.Seq.{take-suc}
use Rattle.line_instance.specs.Line.{Line}
use Rattle.line_rules.specs.Balance.{all_tasks}
use Rattle.line_rules.specs.declared.types.LineKind.{LineKind}
use Rattle.line_rules.specs.declared.types.Load.{Load}
use Rattle.steal_pool.specs.declared.piece.Piece.{Piece}
use Rattle.steal_pool.specs.Hands.{AreNumbered}
use Rattle.steal_pool.proofs.Each.{length_each, each_push, each_there}
use Rattle.round_helpers.specs.Jobs.{AreJobs, job_of, max_jobs}
use Rattle.round_helpers.specs.inner.Pieces.{piece_of, pieces_of}
use Rattle.round_helpers.specs.declared.job_list.Job.{Job}

-- there are at most 4,096 jobs
pub few_jobs : (kind : LineKind) (line : Line) (c most : ℕ) (jobs : List Job) → AreJobs kind line c most jobs
    → length jobs ≤ 4096
unfolding max_jobs
few_jobs kind line c most jobs are = omega (
  arith,
  ap (λ (z : List Job). length z) are.each,
  length-map are.firsts (job_of (all_tasks line)),
  ap (λ (z : List Load). length z) are.are.first,
  length-take 4096 are.are.left,
)

pub pieces_all : (most k : ℕ) (jobs : List Job) (pieces : List Piece) → pieces ≡ pieces_of most (take k jobs)
    → length jobs ≤ k → pieces ≡ pieces_of most jobs
pieces_all most k jobs pieces e l = e ∙ ap (λ (z : List Job). pieces_of most z) (take_all k jobs l)

-- the pieces so far
pub pieces_none : (most : ℕ) (jobs : List Job) → [] ≡ pieces_of most (take 0 jobs)
pieces_none most [] = refl
pieces_none most (j ∷ js) = refl

pub pieces_count : (most k : ℕ) (jobs : List Job) (pieces : List Piece) → pieces ≡ pieces_of most (take k jobs)
    → k ≤ length jobs → length pieces ≡ k
pieces_count most k jobs pieces e l = omega (
  arith,
  ap (λ (z : List Piece). length z) e,
  length_each (piece_of most) 0 (take k jobs),
  length-take-le k jobs l,
)

pub pieces_next : (most k : ℕ) (jobs : List Job) (d : Job) (pieces more : List Piece)
    → pieces ≡ pieces_of most (take k jobs) → k < length jobs
    → more ≡ pieces ++ piece_of most k (get_or jobs k d) ∷ [] → more ≡ pieces_of most (take (k + 1) jobs)
pieces_next most k jobs d pieces more e l grown =
    let n : suc k ≡ k + 1 = omega arith in
    let j : Job = get_or jobs k d in
    let here : take (k + 1) jobs ≡ take k jobs ++ j ∷ [] =
    sym (ap (λ (z : ℕ). take z jobs) n) ∙ take-suc jobs k d l in
    grown ∙ (ap (λ (z : List Piece). z ++ piece_of most k j ∷ []) e
    ∙ (sym (each_push (piece_of most) 0 k (take k jobs) j (omega (arith, length-take-le k jobs (omega (arith, l)))))
    ∙ ap (λ (z : List Job). pieces_of most z) (sym here)))

pub pieces_numbered : (most : ℕ) (jobs : List Job) (pieces : List Piece) → pieces ≡ pieces_of most jobs
    → AreNumbered pieces
pieces_numbered most jobs pieces e k x at =
    let t = each_there (piece_of most) 0 k k jobs x (omega arith)
    (subst (λ (z : List Piece). slice_get z k ≡ Some x) e at) in
    ap (λ (z : Piece). z.number) t.2
