-- What `effic` found, in its report, and of the line that a file says.
use Rattle.std.proofs.Common.{◌≡◌, ◌∙◌, ◌++◌, inl, inr, ℕ, List, Option, Some, sym, ap, subst}
use Rattle.line_instance.specs.Line.{Line}
use Rattle.line_rules.specs.Products.{IsSayable}
use Rattle.line_rules.specs.declared.types.LineKind.{LineKind}
use Rattle.line_rules.specs.declared.products.EfficCert.{EfficCert}
use Rattle.effic_search.specs.rounds.declared.plans.Plan.{Plan}
use Rattle.effic_search.proofs.CertFacts.{stopped_certified}
use Rattle.effic_cert.specs.Product.{product_text}
use Rattle.command_outcome.specs.Found.{IsAnswer, IsFiled, IsFound, page_of}
use Rattle.command_outcome.specs.Outcome.{Files, Outcome, outcome_of}
use Rattle.command_outcome.specs.declared.report.Kept.{Kept}
use Rattle.command_outcome.specs.declared.report.Kept.TheVariants.{Product as Certified}
use Rattle.command_outcome.specs.declared.report.Report.{Report}
use Rattle.command_outcome.specs.declared.status.Status.{Status}
use Rattle.input_files.specs.Instance.{IsPlainLine, naming_of}
use Rattle.command_effic.specs.EfficFound.{least_product, IsAnswered, IsEfficPromised}
use Rattle.task_names.specs.declared.naming.Naming.{Naming}

-- a text behind a first one, where that and the number that it tells are known
pub told_behind : {text first lines : List ℕ} {given idle : ℕ} (said : ℕ → List ℕ) → given ≡ idle → first ≡ lines
    → text ≡ first ++ said given → text ≡ lines ++ said idle
told_behind {lines = lines} {given = given} said is begins told =
    told ∙ ap (λ (x : List ℕ). x ++ said given) begins ∙ ap (λ (x : ℕ). lines ++ said x) is

one : (a b : EfficCert) → Certified a ≡ Certified b → a ≡ b
one a b e = cc

-- the text of a certificate is that of the one that is kept
pub same_text : (kept : Kept) (a b : EfficCert) → kept ≡ Certified a → kept ≡ Certified b
    → product_text a ≡ product_text b
same_text kept a b is kept_is = ap (λ (x : EfficCert). product_text x) (one a b (sym is ∙ kept_is))

-- its page is that of the one that is kept
pub same_page : (name : List ℕ) (r : Report) (a b : EfficCert) → r.kept ≡ Certified a → r.kept ≡ Certified b
    → outcome_of r (page_of (Some name) (product_text a)) ≡ outcome_of r (page_of (Some name) (product_text b))
same_page name r a b is kept =
    ap (λ (x : List ℕ). outcome_of r (page_of (Some name) x)) (same_text r.kept a b is kept)

module _ (naming : Naming) (kind : LineKind) (line : Line) (least most : ℕ) (plan : Plan) where
  -- a text can say the certificate of what is found
  pub sayable : (status : Status) (text : List ℕ) (kept : Kept)
      → IsFound (least_product naming kind line least most plan) status text kept
      → (cert : EfficCert) → kept ≡ Certified cert → IsSayable cert
  sayable status text kept f cert is =
      let R : EfficCert → Type 0 = IsSayable in
      subst R (one f.certificate cert (sym f.keeps ∙ is)) (elim f.answer [
        | inl a ↦ a.1.solved.certified.sayable
        | inr a ↦ (stopped_certified a.1.why kind line least most plan f.certificate a.1.closing_from a.1.seeks.kept
            a.1.stopped).sayable
      ])

  module _ (files : Files) (file : List ℕ) (name : Option (List ℕ)) (said : IsPlainLine files file line)
      (is : naming ≡ naming_of files file) where
    -- what the search comes to is answered of the line that the file says
    pub answered : (out : Outcome) → IsAnswer (least_product naming kind line least most plan) name out
        → IsAnswered files file kind least most plan name out
    answered out x =
        let A : Naming → Type 0 = λ n. IsAnswer (least_product n kind line least most plan) name out in
        record { line = line; said = said; answer = subst A is x }

    -- what is filed of it is promised
    pub promised : (after : Files) (status : Status) (text : List ℕ) (kept : Kept)
        → IsFiled (least_product naming kind line least most plan) name after status text kept
        → IsEfficPromised files after file kind least most plan name status text kept
    promised after status text kept x =
        let F : Naming → Type 0 =
        λ n. IsFiled (least_product n kind line least most plan) name after status text kept in
        record { line = line; said = said; filed = subst F is x }
