-- What a job has done, from what its command's report is.
use Rattle.std.proofs.Common.{IfOk, MatchResult, ◌≡◌, ◌≢◌, ◌∙◌, inl, inr, ℕ, Bool, List, Option}
use Rattle.std.proofs.Common.{Some, None, refl, sym}
use Rattle.std.specs.declared.result.Result.{Result}
use Rattle.std.specs.declared.result.Result.TheVariants.{Ok, Err}
use Rattle.line_io.specs.Outside.{Rises}
use Rattle.line_words.specs.Words.{Text}
use Rattle.command_outcome.specs.Outcome.{Files, Outside, Outcome, Ends, MayStop, MayEnd, outcome_of}
use Rattle.command_outcome.specs.Output.{kept_of, status_of}
use Rattle.command_outcome.specs.Found.{IsSearchStatus}
use Rattle.command_outcome.specs.declared.report.Kept.{Kept}
use Rattle.command_outcome.specs.declared.report.Kept.TheVariants.{Nothing}
use Rattle.command_outcome.specs.declared.report.Report.{Report}
use Rattle.command_outcome.specs.declared.report.EarlyEnd.{EarlyEnd}
use Rattle.command_outcome.specs.declared.report.EarlyEnd.TheVariants as stop
use Rattle.command_outcome.specs.declared.status.Status.{Status}
use Rattle.command_outcome.specs.declared.status.Status.TheVariants as ends
use Rattle.command_sequence.specs.VerdictText.{IsVerdictStatus}
use Rattle.line_run.specs.Run.{IsPlainEnd, telling, promising, answering, checking}
use Rattle.line_run.specs.Ran.{ShelfSeen, shelf_seen, shown_by, Does}
use Rattle.line_run.proofs.HeadlineFacts.{reports_so}

-- the status of a report is none of a fault, and it keeps a certificate only where it answers
record IsFair (x : Report) : Type 0 where
  usage : x.status ≢ ends.Usage
  read : x.status ≢ ends.ReadFault
  write : x.status ≢ ends.WriteFault
  kept : x.status ≢ ends.Done → x.status ≢ ends.Stopped → x.kept ≡ Nothing

fair_done : (x : Report) → x.status ≡ ends.Done → IsFair x
fair_done x e = record {
  usage = λ f. (let h : ends.Done ≡ ends.Usage = sym e ∙ f in cc);
  read = λ f. (let h : ends.Done ≡ ends.ReadFault = sym e ∙ f in cc);
  write = λ f. (let h : ends.Done ≡ ends.WriteFault = sym e ∙ f in cc);
  kept = λ d s. absurd (d e);
}

fair_stopped : (x : Report) → x.status ≡ ends.Stopped → IsFair x
fair_stopped x e = record {
  usage = λ f. (let h : ends.Stopped ≡ ends.Usage = sym e ∙ f in cc);
  read = λ f. (let h : ends.Stopped ≡ ends.ReadFault = sym e ∙ f in cc);
  write = λ f. (let h : ends.Stopped ≡ ends.WriteFault = sym e ∙ f in cc);
  kept = λ d s. absurd (s e);
}

fair_refused : (x : Report) → x.status ≡ ends.Refused → x.kept ≡ Nothing → IsFair x
fair_refused x e k = record {
  usage = λ f. (let h : ends.Refused ≡ ends.Usage = sym e ∙ f in cc);
  read = λ f. (let h : ends.Refused ≡ ends.ReadFault = sym e ∙ f in cc);
  write = λ f. (let h : ends.Refused ≡ ends.WriteFault = sym e ∙ f in cc);
  kept = λ d s. k;
}

fair_steps : (x : Report) → x.status ≡ ends.Steps → x.kept ≡ Nothing → IsFair x
fair_steps x e k = record {
  usage = λ f. (let h : ends.Steps ≡ ends.Usage = sym e ∙ f in cc);
  read = λ f. (let h : ends.Steps ≡ ends.ReadFault = sym e ∙ f in cc);
  write = λ f. (let h : ends.Steps ≡ ends.WriteFault = sym e ∙ f in cc);
  kept = λ d s. k;
}

-- reports of searches, of commands that are done, and of verdicts are fair
fair_search : (r : Result Report EarlyEnd) → IfOk r (λ x. IsSearchStatus x.status) → IfOk r IsFair
fair_search (Ok x) (inl e) = fair_done x e
fair_search (Ok x) (inr e) = fair_stopped x e
fair_search (Err s) h = h

fair_told : (r : Result Report EarlyEnd) → IfOk r (λ x. x.status ≡ ends.Done) → IfOk r IsFair
fair_told (Ok x) e = fair_done x e
fair_told (Err s) h = h

fair_verdict : (r : Result Report EarlyEnd) → IfOk r (λ x. IsVerdictStatus x.status) → IfOk r (λ x. x.kept ≡ Nothing)
    → IfOk r IsFair
fair_verdict (Ok x) (inl e) k = fair_done x e
fair_verdict (Ok x) (inr (inl e)) k = fair_refused x e k
fair_verdict (Ok x) (inr (inr e)) k = fair_steps x e k
fair_verdict (Err s) h k = h

-- a command that writes no file may end as one that writes one
pub may_end : (R W : Type 0) (r : Result Report EarlyEnd) → MatchResult r (λ _. Unit {0}) (MayStop R)
    → MatchResult r (λ _. Unit {0}) (MayEnd R W)
may_end R W (Ok x) m = tt
may_end R W (Err (stop.Report x)) m = m
may_end R W (Err stop.Memory) m = tt
may_end R W (Err stop.Unwritten) m = absurd m

-- and it never ends with a file that could not be written
never_unwritten : (R V : Type 0) (r : Result Report EarlyEnd) → MatchResult r (λ _. Unit {0}) (MayStop R)
    → r ≡ Err stop.Unwritten → V
never_unwritten R V (Ok x) m e = absurd (cc)
never_unwritten R V (Err (stop.Report x)) m e = absurd (cc)
never_unwritten R V (Err stop.Memory) m e = absurd (cc)
never_unwritten R V (Err stop.Unwritten) m e = absurd m

-- what the status of an end says of it
module _ (R W : Type 0) where
  usage_so : (r : Result Report EarlyEnd) → IfOk r IsFair → MatchResult r (λ _. Unit {0}) (MayEnd R W)
      → status_of r ≢ ends.Usage
  usage_so (Ok x) f m = f.usage
  usage_so (Err (stop.Report x)) f m = m.usage
  usage_so (Err stop.Memory) f m = λ e. cc
  usage_so (Err stop.Unwritten) f m = λ e. cc

  read_so : (r : Result Report EarlyEnd) → IfOk r IsFair → MatchResult r (λ _. Unit {0}) (MayEnd R W)
      → status_of r ≡ ends.ReadFault → R
  read_so (Ok x) f m = λ e. absurd (f.read e)
  read_so (Err (stop.Report x)) f m = m.read
  read_so (Err stop.Memory) f m = λ e. absurd (cc)
  read_so (Err stop.Unwritten) f m = λ e. absurd (cc)

  write_so : (r : Result Report EarlyEnd) → IfOk r IsFair → MatchResult r (λ _. Unit {0}) (MayEnd R W)
      → status_of r ≡ ends.WriteFault → r ≡ Err stop.Unwritten
  write_so (Ok x) f m = λ e. absurd (f.write e)
  write_so (Err (stop.Report x)) f m = λ e. absurd (m.write e)
  write_so (Err stop.Memory) f m = λ e. absurd (cc)
  write_so (Err stop.Unwritten) f m = λ e. refl

  rises_so : (r : Result Report EarlyEnd) → MatchResult r (λ _. Unit {0}) (MayEnd R W) → r ≡ Err stop.Unwritten → W
  rises_so (Ok x) m e = absurd (cc)
  rises_so (Err (stop.Report x)) m e = absurd (cc)
  rises_so (Err stop.Memory) m e = absurd (cc)
  rises_so (Err stop.Unwritten) m e = m

  kept_so : (r : Result Report EarlyEnd) → IfOk r IsFair → MatchResult r (λ _. Unit {0}) (MayEnd R W)
      → status_of r ≢ ends.Done → status_of r ≢ ends.Stopped → kept_of r ≡ Nothing
  kept_so (Ok x) f m = f.kept
  kept_so (Err (stop.Report x)) f m = λ d s. m.kept
  kept_so (Err stop.Memory) f m = λ d s. refl
  kept_so (Err stop.Unwritten) f m = λ d s. refl

  true_so : (T : Type 0) (r : Result Report EarlyEnd) → IfOk r (λ x. x.status ≡ ends.Done → T)
      → MatchResult r (λ _. Unit {0}) (MayEnd R W) → status_of r ≡ ends.Done → T
  true_so T (Ok x) p m = p
  true_so T (Err (stop.Report x)) p m = λ e. absurd (m.done e)
  true_so T (Err stop.Memory) p m = λ e. absurd (cc)
  true_so T (Err stop.Unwritten) p m = λ e. absurd (cc)

-- where nothing is promised, it is so
pub nothing_promised : (r : Result Report EarlyEnd) → IfOk r (λ _. Unit {0})
nothing_promised (Ok x) = tt
nothing_promised (Err s) = tt

-- a job of these parts, which reads files
module _ (shelf : ShelfSeen) (outcome : Outside → Outcome → Type 0) (r : Result Report EarlyEnd)
    (comes : shelf.tells → Ends (shown_by shelf) (outcome (shown_by shelf)) shelf.after r) where
  abbrev Reads : Type 0
  Reads = Rises shelf.fetch_faults_before shelf.fetch_faults

  abbrev Writes : Type 0
  Writes = Rises shelf.write_faults_before shelf.write_faults

  fair_does : (name : Option Text) (promise : Files → Files → Status → List ℕ → Kept → Type 0) → IfOk r IsFair
      → MatchResult r (λ _. Unit {0}) (MayEnd Reads Writes)
      → (r ≡ Err stop.Unwritten → (n : Text) × (name ≡ Some n))
      → (shelf.tells → IfOk r (λ x. promise shelf.files shelf.after x.status x.text.items x.kept))
      → Does shelf (promising outcome name promise) r
  fair_does name promise fair fault writes so = record {
    ends = comes;
    plain = inl tt;
    usage = usage_so Reads Writes r fair fault;
    read = read_so Reads Writes r fair fault;
    write = write_so Reads Writes r fair fault;
    unwritten = λ e. (writes e, rises_so Reads Writes r fault e);
    kept = kept_so Reads Writes r fair fault;
    true_bounds = λ t e. tt;
    promise = λ t a. reports_so Reads Writes
        (λ x. promise shelf.files shelf.after x.status x.text.items x.kept) r (so t) fault a;
  }

  -- a search, which writes its certificate where the words name a file
  pub search_done : (name : Option Text) (promise : Files → Files → Status → List ℕ → Kept → Type 0)
      → IfOk r (λ x. IsSearchStatus x.status) → MatchResult r (λ _. Unit {0}) (MayEnd Reads Writes)
      → (r ≡ Err stop.Unwritten → (n : Text) × (name ≡ Some n))
      → (shelf.tells → IfOk r (λ x. promise shelf.files shelf.after x.status x.text.items x.kept))
      → Does shelf (promising outcome name promise) r
  search_done name promise good fault writes so = fair_does name promise (fair_search r good) fault writes so

  -- a command that writes a file, and what is so of it
  pub page_written : (name : Text) (promise : Files → Files → Status → List ℕ → Kept → Type 0)
      → IfOk r (λ x. x.status ≡ ends.Done) → MatchResult r (λ _. Unit {0}) (MayEnd Reads Writes)
      → (shelf.tells → IfOk r (λ x. promise shelf.files shelf.after x.status x.text.items x.kept))
      → Does shelf (promising outcome (Some name) promise) r
  page_written name promise good fault so =
      fair_does (Some name) promise (fair_told r good) fault (λ e. (name, refl)) so

  -- a command that tells what is so
  pub text_told : (promise : Files → Files → Status → List ℕ → Kept → Type 0) → IfOk r (λ x. x.status ≡ ends.Done)
      → MatchResult r (λ _. Unit {0}) (MayStop Reads)
      → (shelf.tells → IfOk r (λ x. promise shelf.files shelf.after x.status x.text.items x.kept))
      → Does shelf (promising outcome None promise) r
  text_told promise good fault so =
      fair_does None promise (fair_told r good) (may_end Reads Writes r fault)
      (never_unwritten Reads ((n : Text) × (None ≡ Some n)) r fault) so

  -- one that writes a file, and promises nothing more
  pub page_alone_written : (name : Text) → IfOk r (λ x. x.status ≡ ends.Done)
      → MatchResult r (λ _. Unit {0}) (MayEnd Reads Writes) → Does shelf (answering outcome (Some name)) r
  page_alone_written name good fault =
      page_written name (λ files after status text kept. Unit {0}) good fault (λ t. nothing_promised r)

  -- one that tells, and promises nothing more
  pub text_alone_told : IfOk r (λ x. x.status ≡ ends.Done) → MatchResult r (λ _. Unit {0}) (MayStop Reads)
      → Does shelf (answering outcome None) r
  text_alone_told good fault =
      text_told (λ files after status text kept. Unit {0}) good fault (λ t. nothing_promised r)

  -- the test of a certificate
  pub check_done : (truth : Files → Type 0) → IfOk r (λ x. IsVerdictStatus x.status) → IfOk r (λ x. x.kept ≡ Nothing)
      → (shelf.tells → IfOk r (λ x. x.status ≡ ends.Done → truth shelf.files))
      → MatchResult r (λ _. Unit {0}) (MayStop Reads) → Does shelf (checking outcome truth) r
  check_done truth good kept holds stops =
      let fair = fair_verdict r good kept in
      let fault = may_end Reads Writes r stops in
      record {
        ends = comes;
        plain = inl tt;
        usage = usage_so Reads Writes r fair fault;
        read = read_so Reads Writes r fair fault;
        write = write_so Reads Writes r fair fault;
        unwritten = λ e. (
          never_unwritten Reads ((n : Text) × (None ≡ Some n)) r stops e,
          rises_so Reads Writes r fault e,
        );
        kept = kept_so Reads Writes r fair fault;
        true_bounds = λ t. true_so Reads Writes (truth shelf.files) r (holds t) fault;
        promise = λ t a. reports_so Reads Writes (λ x. x.status ≡ ends.Done → truth shelf.files) r (holds t) fault a;
      }

-- a report, or out of memory
abbrev pub OnlyMemory : Result Report EarlyEnd → Type 0
OnlyMemory r = MatchResult r (λ (_ : Report). Unit {0}) (λ s. s ≡ stop.Memory)

only_memory : (R W : Type 0) (r : Result Report EarlyEnd) → OnlyMemory r → MatchResult r (λ _. Unit {0}) (MayEnd R W)
only_memory R W (Ok x) m = tt
only_memory R W (Err (stop.Report x)) m = absurd (cc)
only_memory R W (Err stop.Memory) m = tt
only_memory R W (Err stop.Unwritten) m = absurd (cc)

-- a job that reads no file, over files that stay
module _ (tells : Type 0) (files : Files) (blames : List ℕ → Bool) (fetches_before fetches writes_before writes : ℕ)
    (page : Outcome → Type 0) (promise : Files → Files → Status → List ℕ → Kept → Type 0) where
  abbrev still : ShelfSeen
  still = shelf_seen tells files files blames fetches_before fetches writes_before writes

  still_ends : (r : Result Report EarlyEnd) → IfOk r (λ x. page (outcome_of x None)) → OnlyMemory r
      → Ends (shown_by still) page files r
  still_ends (Ok x) p m = record { page = None; reached = p; written = λ q. refl }
  still_ends (Err (stop.Report x)) p m = absurd (cc)
  still_ends (Err stop.Memory) p m = λ q. refl
  still_ends (Err stop.Unwritten) p m = absurd (cc)

  plain_end : (r : Result Report EarlyEnd) → IfOk r (λ x. page (outcome_of x None)) → OnlyMemory r → IsPlainEnd page r
  plain_end (Ok x) p m = p
  plain_end (Err (stop.Report x)) p m = absurd (cc)
  plain_end (Err stop.Memory) p m = tt
  plain_end (Err stop.Unwritten) p m = absurd (cc)

  never : (V : Type 0) (r : Result Report EarlyEnd) → OnlyMemory r → r ≡ Err stop.Unwritten → V
  never V (Ok x) m e = absurd (cc)
  never V (Err (stop.Report x)) m e = absurd (cc)
  never V (Err stop.Memory) m e = absurd (cc)
  never V (Err stop.Unwritten) m e = absurd (cc)

  pub page_told : (r : Result Report EarlyEnd) → IfOk r (λ x. page (outcome_of x None))
      → IfOk r (λ x. IsSearchStatus x.status) → OnlyMemory r
      → IfOk r (λ x. promise files files x.status x.text.items x.kept) → Does still (telling page promise) r
  page_told r p good m so =
      let fair = fair_search r good in
      let fault = only_memory ⊥ ⊥ r m in
      record {
        ends = λ t. still_ends r p m;
        plain = inr (plain_end r p m);
        usage = usage_so ⊥ ⊥ r fair fault;
        read = λ e. absurd (read_so ⊥ ⊥ r fair fault e);
        write = write_so ⊥ ⊥ r fair fault;
        unwritten = λ e. absurd (never ⊥ r m e);
        kept = kept_so ⊥ ⊥ r fair fault;
        true_bounds = λ t e. tt;
        promise = λ t a. reports_so ⊥ ⊥ (λ x. promise files files x.status x.text.items x.kept) r so fault a;
      }
