-- The lines of a balance, and those of entries and a trail, say one value at most.
use Rattle.std.proofs.Common.{ℕ, ◌≤◌, Bool, ◌∷◌, map, refl}
use Rattle.std.specs.Prelude.{codes}
use Rattle.line_rules.specs.declared.types.LineKind.{LineKind}
use Rattle.line_rules.specs.declared.types.Balance.{Balance as Assignment}
use Rattle.cert_lines.specs.Rows.{keyed}
use Rattle.cert_lines.specs.ValueRows.{seat_row}
use Rattle.cert_text.specs.Parts.{seatings, lists}
use Rattle.cert_text.proofs.PartSequences.{texts}
use Rattle.cert_text.proofs.CertificateParts.{some_seating, unique_seatings, unique_lists}
use Rattle.cert_text.proofs.Claims.{some_list}
use Rattle.cert_text.proofs.LineTexts.{AllLack, row_lacks, lack_map, list_lacks}
use Rattle.text_grammar.proofs.LineFacts.{Ready}

pub seats_plain : (kind : LineKind) (b : Assignment) → AllLack (texts (keyed (codes "balance") b.stations
    ∷ map (seat_row kind) b.place))
seats_plain kind b = (
  row_lacks (keyed (codes "balance") b.stations) refl,
  lack_map (seat_row kind) b.place (λ p. row_lacks (seat_row kind p) tt),
)

abbrev pub seats_ready : (kind : LineKind) (n : ℕ) → 1 ≤ n → n ≤ 1024 → Ready (seatings kind n)
seats_ready kind n some few = record {
  can = (1 ≤ n) × (n ≤ 1024);
  is = (some, few);
  tells = record { unique = unique_seatings kind n; some = some_seating kind n; plain = seats_plain kind };
}

abbrev pub lists_ready : (n : ℕ) (p : Bool) → 1 ≤ n → n ≤ 1024 → Ready (lists n p)
lists_ready n p some few = record {
  can = (1 ≤ n) × (n ≤ 1024);
  is = (some, few);
  tells = record {
    unique = unique_lists n p few;
    some = some_list n p;
    plain = λ l. list_lacks n l.entries l.trail;
  };
}
