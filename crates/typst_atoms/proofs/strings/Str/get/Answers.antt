use Rattle.std.proofs.Common.{◌≡◌, ◌∙◌, ◌==◌, false}
use Rattle.std.specs.List.{list_any}
use Rattle.std.proofs.lemmas.Result.{IfOk-weaker}
use Rattle.typst_atoms.proofs.Unescaping.{body_value_plain}
use Rattle.typst_atoms.proofs.strings.Str.get.Goals as goal

pub returns-then-not-contains : goal.returns-then-not-contains
returns-then-not-contains c =
    let none : list_any (λ b. b == 92) c.string_body-body.result.now ≡ false =
    rw (← c.as_bytes.ensures.value, ← c.contains.ensures.value) c.if-not-contains.true in
    let body = rw c.leaf_text.ensures at c.string_body-body.ensures in
    IfOk-weaker c.from_str.result _ _ (λ value h. (c.string_body-body.result.now, body, h ∙ body_value_plain _ c.string_body-body.utf8 none)) c.from_str.ensures.ok
