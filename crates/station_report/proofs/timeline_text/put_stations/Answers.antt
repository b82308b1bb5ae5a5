use Rattle.std.proofs.Common.{◌≡◌, ◌∙◌, ◌+◌, ◌-◌, ◌++◌, ℕ, List, ap, sym, arith, suc, add-one, append_assoc, get_or}
use Rattle.combined_graph.specs.Mixes.{model_at}
use Rattle.utility_work.specs.Utility.{work_at}
use Rattle.station_report.specs.TimelineText.{rows_from, station_rows}
use Rattle.station_report.proofs.RowFacts.{same_rows}
use Rattle.station_report.proofs.timeline_text.put_stations.Goals as goal

pub loop-k-preserved : goal.loop-k-preserved
loop-k-preserved c =
    let mix = c.args.mix.now in
    let places = c.args.balance.now.place in
    let units : List ℕ = c.args.sequence.now in
    let interval : ℕ = c.args.interval in
    let reach : ℕ = c.args.reach in
    let k : ℕ = c.loop-k.k + 1 in
    let n : ℕ = c.args.balance.now.stations - (c.loop-k.k + 1) in
    let old : List ℕ = c.loop-k.table.wtr.inner.items ++ c.loop-k.table.wtr.buf in
    let one : c.args.balance.now.stations - c.loop-k.k ≡ suc n = omega (arith, c.loop-k-test.true) in
    let rows : List ℕ = station_rows mix places units interval reach k in
    let told = c.in_ok-put_units.ensures.text ∙ ap (λ (t : List ℕ). old ++ t)
    (same_rows mix.models (λ m. get_or c.works_at-works.result m 0) (λ m. work_at places k (model_at mix.models m)) k
    interval reach c.works_at-works.ensures.each 1 0 units c.requires.models) in
    record {
      table = c.in_ok-put_units.ensures.table;
      text =
          ap (λ (t : List ℕ). t ++ rows_from mix places units interval reach (k + 1) n) told
          ∙ append_assoc old rows (rows_from mix places units interval reach (k + 1) n)
          ∙ ap (λ (j : ℕ). old ++ (rows ++ rows_from mix places units interval reach j n)) (add-one k)
          ∙ sym (ap (λ (m : ℕ). old ++ rows_from mix places units interval reach k m) one)
          ∙ c.loop-k.invariant.text;
    }
