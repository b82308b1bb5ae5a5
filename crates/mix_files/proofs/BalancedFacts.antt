-- What the files of a mix and of a certificate say where the second is refused, over the files as they were before.
use Rattle.std.proofs.Common.{◌≡◌, ◌*◌, ◌≤◌, ℕ, Bool, List, inr, subst, arith}
use Rattle.line_instance.specs.Truths.{In}
use Rattle.line_instance.proofs.Members.{In-full_to}
use Rattle.line_instance.specs.Line.{Line, IsLine, tasks}
use Rattle.line_rules.specs.Balance.{IsRight, all_tasks}
use Rattle.line_rules.specs.declared.types.LineKind.{LineKind}
use Rattle.line_rules.specs.declared.types.Balance.{Balance as Assignment}
use Rattle.combined_graph.specs.Mixes.{MixedLine}
use Rattle.combined_graph.specs.Combined.{total_demand}
use Rattle.command_outcome.specs.Outcome.{Files, Outcome, outside}
use Rattle.mix_files.specs.MixFile.{IsCombinedFile}
use Rattle.mix_files.specs.BalanceFile.{IsBalanceFile, IsNoBalance}
use Rattle.mix_files.specs.Balanced.{IsBalanced, IsUnbalanced}

-- a right balance has a station, since there is a task
pub some_station : (kind : LineKind) (line : Line) (c : ℕ) (b : Assignment) → IsLine line → IsRight kind line c b
    → 1 ≤ b.stations
some_station kind line c b ok right =
    let first : In (all_tasks line) 0 = In-full_to (tasks line) 0 ok.small ok.some in
    omega (arith, right.balance.first 0 first, right.balance.last 0 first)

-- files that are the same at each name are the same
pub same_files : (f g : Files) → ((q : List ℕ) → f q ≡ g q) → f ≡ g
same_files f g h = λ i q. h q i

module _ (files mid : Files) (mix_name cert_name : List ℕ) (interval demand : ℕ) (mix : MixedLine) (line : Line)
    (same : (q : List ℕ) → mid q ≡ files q) (combined : IsCombinedFile files mix_name mix line)
    (total : demand ≡ total_demand mix.models) where
  -- the second file says no right balance
  pub unbalanced : (blames : List ℕ → Bool) (out : Outcome)
      → IsNoBalance (outside mid blames) cert_name line (interval * demand) out
      → IsUnbalanced (outside files blames) mix_name cert_name interval out
  unbalanced blames out none =
      let F : Files → Type 0 = λ f. IsNoBalance (outside f blames) cert_name line (interval * demand) out in
      let D : ℕ → Type 0 = λ d. IsNoBalance (outside files blames) cert_name line (interval * d) out in
      inr (record {
        mix = mix;
        line = line;
        combined = combined;
        unbalanced = subst D total (subst F (same_files mid files same) none);
      })

  -- the second file says one
  pub balanced : (balance : Assignment) → IsBalanceFile mid cert_name line (interval * demand) balance
      → IsBalanced files mix_name cert_name interval mix balance
  balanced balance said =
      let F : Files → Type 0 = λ f. IsBalanceFile f cert_name line (interval * demand) balance in
      let D : ℕ → Type 0 = λ d. IsBalanceFile files cert_name line (interval * d) balance in
      record {
        line = line;
        combined = combined;
        balanced = subst D total (subst F (same_files mid files same) said);
      }
