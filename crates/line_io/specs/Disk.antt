-- What contracts see of the system's files and of standard output.
use Rattle.std.specs.Prelude.{ℕ}

-- how many fetches have failed, how many writes, and how many bytes were read; each ends at 2^64 - 1
pub record DiskCounts : Type 0 where
  pub fetch_faults : ℕ
  pub write_faults : ℕ
  pub given : ℕ

-- before the first call
abbrev pub no_call_yet : DiskCounts
no_call_yet = record { fetch_faults = 0; write_faults = 0; given = 0 }

-- how often something was put to the standard output, and how many of these calls failed; both end at 2^64 - 1
pub record OutCounts : Type 0 where
  pub faults : ℕ
  pub puts : ℕ

-- before the first put
abbrev pub no_put_yet : OutCounts
no_put_yet = record { faults = 0; puts = 0 }
