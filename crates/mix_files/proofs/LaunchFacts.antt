-- What the files say where the third is refused, over the files as they were before.
use Rattle.std.proofs.Common.{◌≡◌, ℕ, Bool, List, inr, subst}
use Rattle.line_rules.specs.declared.types.Balance.{Balance as Assignment}
use Rattle.combined_graph.specs.Mixes.{MixedLine}
use Rattle.command_outcome.specs.Outcome.{Files, Outcome, outside}
use Rattle.mix_files.specs.SequenceFile.{IsSequenceFile, IsNoSequence}
use Rattle.mix_files.specs.Balanced.{IsBalanced}
use Rattle.mix_files.specs.Launch.{Names, IsLaunch, IsUnlaunched}
use Rattle.mix_files.proofs.BalancedFacts.{same_files}

module _ (files late : Files) (names : Names) (interval : ℕ) (mix : MixedLine) (balance : Assignment)
    (same : (q : List ℕ) → late q ≡ files q) (balanced : IsBalanced files names.mix names.cert interval mix
    balance) where
  -- the third file says no units
  pub unsequenced : (blames : List ℕ → Bool) (out : Outcome)
      → IsNoSequence (outside late blames) names.seq mix.models out
      → IsUnlaunched (outside files blames) names interval out
  unsequenced blames out none =
      let F : Files → Type 0 = λ f. IsNoSequence (outside f blames) names.seq mix.models out in
      inr (record {
        mix = mix;
        balance = balance;
        balanced = balanced;
        unsequenced = subst F (same_files late files same) none;
      })

  -- the third file says units
  pub launched : (units : List ℕ) → IsSequenceFile late names.seq mix.models units
      → IsLaunch files names interval mix balance units
  launched units said =
      let F : Files → Type 0 = λ f. IsSequenceFile f names.seq mix.models units in
      record { balanced = balanced; sequence = subst F (same_files late files same) said }
