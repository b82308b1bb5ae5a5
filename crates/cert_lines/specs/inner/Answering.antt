-- The error of a line, with its number.
use Rattle.std.specs.Prelude.{ℕ}
use Rattle.cert_lines.specs.declared.fault.LineError.{LineError}
use Rattle.cert_lines.specs.declared.fault.LineError.TheVariants as lines
use Rattle.cert_lines.specs.declared.fault.ReadError.{ReadError}
use Rattle.cert_lines.specs.declared.fault.ReadError.TheVariants as errors
use Rattle.cert_lines.specs.declared.fault.CertKind.TheVariants.{Form, Range}

abbrev pub error_at : LineError → ℕ → ReadError
error_at lines.Memory line = errors.Stopped
error_at lines.Form line = errors.Fault (record { line = line; kind = Form })
error_at lines.Range line = errors.Fault (record { line = line; kind = Range })
