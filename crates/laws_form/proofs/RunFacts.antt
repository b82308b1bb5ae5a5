-- What a run of `convert` writes is the canonical text of the line that its first file says; so runs keep the line.
use Rattle.std.proofs.Common.{◌≡◌, ◌∙◌, ℕ, List, [], length, Option, Some, refl, sym, ap, subst}
use Rattle.std.proofs.lemmas.Option.{same_Some}
use Rattle.line_instance.specs.Line.{Line, Covers, tasks}
use Rattle.in2_reader.specs.Written.{AreCovers, IsIn2Text, in2_text}
use Rattle.alb_reader.specs.Written.{IsAlbText, alb_text}
use Rattle.line_instance.specs.declared.arcs.Prec.{Prec}
use Rattle.task_names.specs.Naming.{names_for}
use Rattle.table_text.proofs.SameText.{same_text}
use Rattle.laws_form.specs.Laws.{AreNamesOf, AreRuns, one, more, EveryChainKeepsItsLine, IsCanonical, IsRun, IsSameLine}
use Rattle.line_words.specs.declared.job.FormWord.{FormWord}
use Rattle.line_words.specs.declared.job.FormWord.TheVariants.{Alb, Cert, Csv, In2}
use Rattle.command_outcome.specs.Outcome.{Outcome, Page}
use Rattle.input_files.specs.InputFile.{max_file, Reads}
use Rattle.input_files.specs.Instance.{cycle_of, IsFaulty, naming_in, Says}
use Rattle.command_convert.specs.Convert.{IsTextIn}
use Rattle.laws_form.proofs.FormFacts.{form_right, form_same}
use Rattle.laws_form.proofs.OneLine.{cycle_given, same_of, same_on, says_cycle, says_names, says_one}
use Rattle.laws_form.proofs.OneText.{one_in2_text}
use Rattle.laws_form.proofs.SoundLines.{IsLeft, IsNear, fitted, fitted_line, fitted_ranked, left_by, same_apart}
use Rattle.laws_form.proofs.SoundLines.{says_near}

-- the same line has the same covering pairs, and so the same texts
same_covers : (line other : Line) (ps : List Prec) → IsSameLine line other → AreCovers other ps → AreCovers line ps
same_covers line other ps s a =
    let there : (i j : ℕ) → Covers other i j → Covers line i j = λ i j c. record {
      before = (s.before i j).0 c.before;
      between = λ k x y. c.between k ((s.before i k).1 x) ((s.before k j).1 y);
    } in
    let back : (i j : ℕ) → Covers line i j → Covers other i j = λ i j c. record {
      before = (s.before i j).1 c.before;
      between = λ k x y. c.between k ((s.before i k).0 x) ((s.before k j).0 y);
    } in
    record {
      rises = a.rises;
      right = λ k l. there _ _ (a.right k l);
      all = λ i j c. a.all i j (back i j c);
    }

same_in2_text : (line other : Line) (bytes : List ℕ) → IsSameLine line other → IsIn2Text other bytes
    → IsIn2Text line bytes
same_in2_text line other bytes same t = record {
  ps = t.ps;
  covers = same_covers line other t.ps same t.covers;
  text = t.text ∙ ap (λ ts. in2_text ts t.ps) same.times;
}

same_alb_text : (line other : Line) (cycle : Option ℕ) (bytes : List ℕ) → IsSameLine line other
    → IsAlbText other cycle bytes → IsAlbText line cycle bytes
same_alb_text line other cycle bytes same t = record {
  ps = t.ps;
  covers = same_covers line other t.ps same t.covers;
  text = t.text
      ∙ ap (λ ts. alb_text (record { times = ts; before = []; apart = []; order = [] }) t.ps cycle) same.times;
}

-- the text of a line is that of the instance at hand
fitted_text : (to : FormWord) (line : Line) (near : IsNear line) (names : List (List ℕ)) (cycle : Option ℕ)
    (bytes : List ℕ) → IsTextIn to line names cycle bytes → IsTextIn to (fitted line near) names cycle bytes
fitted_text In2 line near names cycle bytes t =
    same_in2_text (fitted line near) line bytes (same_of (fitted line near) line refl refl) t
fitted_text Alb line near names cycle bytes t =
    same_alb_text (fitted line near) line cycle bytes (same_of (fitted line near) line refl refl) t
fitted_text Csv line near names cycle bytes t =
    t ∙ sym (same_text (fitted line near) line names names refl (λ i j. (λ b. b, λ b. b)) (same_apart line near) refl)
fitted_text Cert line near names cycle bytes t = t

-- what a run reads and writes
record IsStep (first : List ℕ) (to : FormWord) (last : List ℕ) : Type 0 where
  whole : Line
  given : Option ℕ
  said : Says first whole given
  line : Line
  cycle : Option ℕ
  same : IsSameLine whole line
  canonical : IsCanonical to line cycle last

read_of : (file : Option (List ℕ)) (first : List ℕ) (line : Line) (given : Option ℕ) → file ≡ Some first
    → Reads max_file file (λ bytes. Says bytes line given) → Says first line given
read_of file first line given is r =
    let P : Option (List ℕ) → Type 0 = λ f. Reads max_file f (λ bytes. Says bytes line given) in
    (subst P is r).1

page_bytes : (a b : Page) → Some a ≡ Some b → a.bytes ≡ b.bytes
page_bytes a b e = ap (λ p. p.bytes) (same_Some a b e)

step_of : (first last : List ℕ) (to : FormWord) → IsRun first to last → IsStep first to last
step_of first last to run =
    let c = run.converted in
    let whole : Line = c.said.whole in
    let said : Says first whole c.given = read_of (run.files run.name) first whole c.given run.file c.said.instance in
    let left : IsLeft whole c.line =
    left_by run.files run.apart whole c.line (says_near first whole c.given said) c.said.parted in
    let many : tasks whole ≡ tasks c.line = ap length (sym left.times) in
    let N : ℕ → Type 0 = λ n. AreNamesOf n (names_for (naming_in (Some first)) n) in
    let F : Option (List ℕ) → Type 0 = λ f.
    AreNamesOf (tasks c.line) (names_for (naming_in f) (tasks c.line)) in
    let called = subst F (sym run.file) (subst N many (says_names first whole c.given said)) in
    let page : c.bytes ≡ last = page_bytes _ _ (sym (ap (λ (o : Outcome). o.page) c.shown) ∙ run.page) in
    let T : List ℕ → Type 0 = λ bytes. IsTextIn to (fitted c.line left.near)
    (names_for (naming_in (run.files run.name)) (tasks c.line)) (cycle_of run.word c.given) bytes in
    record {
      whole = whole;
      given = c.given;
      said = said;
      line = fitted c.line left.near;
      cycle = cycle_of run.word c.given;
      same = same_of whole (fitted c.line left.near) left.times left.before;
      canonical = record {
        line_is = fitted_line c.line left.near;
        ranked = fitted_ranked c.line left.near;
        names = names_for (naming_in (run.files run.name)) (tasks c.line);
        called = called;
        limit = cycle_given run.word c.given run.limit (says_cycle first whole c.given said);
        text = subst T page (fitted_text to c.line left.near _ (cycle_of run.word c.given) c.bytes c.written);
      };
    }

-- what runs have read and written, one after the other
kept : (first last : List ℕ) (to : FormWord) → AreRuns first to last → IsStep first to last
kept first last to (one run) = step_of first last to run
kept first last to (more {way = way} {mid = mid} runs run) =
    let old = kept first mid way runs in
    let new = step_of mid last to run in
    record {
      whole = old.whole;
      given = old.given;
      said = old.said;
      line = new.line;
      cycle = new.cycle;
      same = same_on old.whole old.line new.line old.same (same_on old.line new.whole new.line
          (form_same way old.line new.whole old.cycle new.given mid old.canonical new.said) new.same);
      canonical = new.canonical;
    }

-- the line that the first text says is the same as that of the canonical text
same_kept : (first last : List ℕ) (to : FormWord) (k : IsStep first to last) (line : Line) (given : Option ℕ)
    → Says first line given → IsSameLine line k.line
same_kept first last to k line given s =
    same_on line k.whole k.line (says_one first line k.whole given k.given s k.said) k.same

runs_right : (first last name : List ℕ) (to : FormWord) (out : Outcome) → AreRuns first to last
    → IsFaulty name last out → ⊥
runs_right first last name to out runs f =
    let k = kept first last to runs in
    form_right to k.line k.cycle last name out k.canonical f

runs_same : (first last : List ℕ) (to : FormWord) (line other : Line) (given again : Option ℕ)
    → AreRuns first to last → Says first line given → Says last other again → IsSameLine line other
runs_same first last to line other given again runs s t =
    let k = kept first last to runs in
    same_on line k.line other (same_kept first last to k line given s)
    (form_same to k.line other k.cycle again last k.canonical t)

runs_in2 : (first last : List ℕ) (line : Line) (given : Option ℕ) → AreRuns first In2 last → Says first line given
    → IsIn2Text line last
runs_in2 first last line given runs said =
    let k = kept first last In2 runs in
    same_in2_text line k.line last (same_kept first last In2 k line given said) k.canonical.text

runs_alb : (first last : List ℕ) (line : Line) (given : Option ℕ) → AreRuns first Alb last → Says first line given
    → (cycle : Option ℕ) × IsAlbText line cycle last
runs_alb first last line given runs said =
    let k = kept first last Alb runs in
    (k.cycle, same_alb_text line k.line k.cycle last (same_kept first last Alb k line given said) k.canonical.text)

runs_back : (first last : List ℕ) (line : Line) (cycle : Option ℕ) → IsCanonical In2 line cycle first
    → AreRuns first In2 last → last ≡ first
runs_back first last line cycle c runs =
    let k = kept first last In2 runs in
    let there : IsSameLine line k.line =
    same_on line k.whole k.line (form_same In2 line k.whole cycle k.given first c k.said) k.same in
    one_in2_text line last first (same_in2_text line k.line last there k.canonical.text) c.text

pub every_chain : EveryChainKeepsItsLine
every_chain = record { right = runs_right; same = runs_same; in2 = runs_in2; alb = runs_alb; back = runs_back }
