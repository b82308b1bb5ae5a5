use Rattle.std.proofs.Common.{◌∙◌, ◌++◌, ap, append_assoc, codes, string_bytes, List, ℕ}
use Rattle.input_files.proofs.table_texts.push_unknown.Goals as goal

pub returns : goal.returns
returns c =
    c.in_ok-push_str-2.ensures.bytes ∙ ap (λ (x : List ℕ). string_bytes c.push_str.new.self ++ x) c.text.ensures.text
    ∙ ap (λ (t : List ℕ). t ++ c.args.name.now) c.in_ok-push_str.ensures.bytes
    ∙ append_assoc (string_bytes c.args.text.now) (codes "unknown task ") c.args.name.now
