use Rattle.std.proofs.Common.{◌∙◌, ap, ◌++◌}
use Rattle.line_run.specs.Pages.{planning_text, proof_text, mix_text, other_text}
use Rattle.line_run.proofs.pages.help_page.Goals as goal

pub returns : goal.returns
returns c =
    ap (λ v. v.items) c.into_bytes.ensures.value ∙ c.in_ok-push_str-4.ensures.bytes
    ∙ ap (λ t. t ++ other_text) (c.in_ok-push_str-3.ensures.bytes
    ∙ ap (λ t. t ++ mix_text) (c.in_ok-push_str-2.ensures.bytes
    ∙ ap (λ t. t ++ proof_text) (c.in_ok-push_str.ensures.bytes
    ∙ ap (λ t. t ++ planning_text) c.new-text.ensures.bytes)))
