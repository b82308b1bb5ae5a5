-- What the closing pass of a round keeps.
use Rattle.std.proofs.Common.{◌≡◌, ℕ, ◌<◌, ◌≤◌, Bool, List, sym, subst}
use Rattle.line_instance.specs.Line.{Line}
use Rattle.line_rules.specs.Balance.{all_tasks}
use Rattle.line_rules.specs.Bounds.{bound}
use Rattle.line_rules.specs.Entries.{HasAnswer, IsUnanswered}
use Rattle.line_rules.specs.declared.types.LineKind.{LineKind}
use Rattle.line_rules.specs.declared.types.Entry.{Entry}
use Rattle.line_rules.specs.declared.types.OpenFrame.{OpenFrame}
use Rattle.lemma_core.specs.Books.{BookView, IsBook, desk_of}
use Rattle.lemma_core.specs.Desks.{entries}
use Rattle.lemma_core.proofs.BookAsDesk.{entries_seen}
use Rattle.station_search.specs.Decide.{IsByEntry}
use Rattle.station_search.specs.declared.answers.Decided.{Decided}
use Rattle.station_search.specs.declared.answers.Decided.TheVariants as decided
use Rattle.round_run.specs.Rounds.{StaysAbove, WasOpen}
use Rattle.round_run.specs.declared.closing.Verdict.{Verdict}
use Rattle.round_run.specs.declared.closing.Verdict.TheVariants as verdict

-- a closing pass that begins with a best balance of too many stations keeps that, whatever the book was before
pub above_any : (most : ℕ) (old mid new : BookView) (v : Verdict) → most < mid.state.best.stations
    → StaysAbove most mid new v → StaysAbove most old new v
above_any most old mid new verdict.Refuted l s = λ before. s l
above_any most old mid new verdict.Found l s = tt
above_any most old mid new (verdict.Spent frames) l s = λ before. s l
above_any most old mid new (verdict.NoMemory frames) l s = λ before. s l

-- a search of a question that an entry of the book answers is refuted by it, and uses no unit
known_before : (kind : LineKind) (line : Line) (book : BookView) (all : List Bool) (most c n u : ℕ) (r : Decided)
    → IsBook book → kind ≡ book.about.kind → all ≡ all_tasks line → c ≡ book.about.cycle
    → bound book.about.kind line book.about.cycle (all_tasks line) ≤ most
    → (bound kind line c all ≤ most → HasAnswer (entries (desk_of book)) all most c → IsByEntry r × (n ≡ u))
    → HasAnswer book.state.entries (all_tasks line) most book.about.cycle → IsByEntry r × (n ≡ u)
known_before kind line book all most c n u r ok kind_is all_is cycle_is bounded known a =
    let E : List Entry → Type 0 = λ z. HasAnswer z all most c in
    let S : List Bool → Type 0 = λ z. HasAnswer book.state.entries z most c in
    let X : ℕ → Type 0 = λ z. HasAnswer book.state.entries (all_tasks line) most z in
    let K : LineKind → Type 0 = λ z. bound z line c all ≤ most in
    let C : ℕ → Type 0 = λ z. bound book.about.kind line z all ≤ most in
    let R : List Bool → Type 0 = λ z. bound book.about.kind line book.about.cycle z ≤ most in
    known (subst K (sym kind_is) (subst C (sym cycle_is) (subst R (sym all_is) bounded)))
    (subst E (sym (entries_seen book ok)) (subst S (sym all_is) (subst X (sym cycle_is) a)))

pub none_used : (kind : LineKind) (line : Line) (book : BookView) (all : List Bool) (most c n u : ℕ) (r : Decided)
    → IsBook book → kind ≡ book.about.kind → all ≡ all_tasks line → c ≡ book.about.cycle
    → bound book.about.kind line book.about.cycle (all_tasks line) ≤ most
    → (bound kind line c all ≤ most → HasAnswer (entries (desk_of book)) all most c → IsByEntry r × (n ≡ u))
    → HasAnswer book.state.entries (all_tasks line) most book.about.cycle → n ≡ u
none_used kind line book all most c n u r ok kind_is all_is cycle_is bounded known a =
    (known_before kind line book all most c n u r ok kind_is all_is cycle_is bounded known a).1

-- a search whose units ended began with a book that doesn't answer its question
pub was_open : (kind : LineKind) (line : Line) (book : BookView) (all : List Bool) (most c n u : ℕ)
    (frames : List OpenFrame) → IsBook book → book.about.line ≡ line → kind ≡ book.about.kind → all ≡ all_tasks line
    → c ≡ book.about.cycle → bound book.about.kind line book.about.cycle (all_tasks line) ≤ most
    → (bound kind line c all ≤ most → HasAnswer (entries (desk_of book)) all most c
    → IsByEntry (decided.Spent frames) × (n ≡ u))
    → WasOpen book most (verdict.Spent frames)
was_open kind line book all most c n u frames ok same kind_is all_is cycle_is bounded known =
    let W : Line → Type 0 = λ z. IsUnanswered book.state.entries (all_tasks z) most book.about.cycle in
    subst W (sym same) (λ k e g a. (known_before kind line book all most c n u (decided.Spent frames) ok kind_is all_is
    cycle_is bounded known (k, e, (g, a))).0)
