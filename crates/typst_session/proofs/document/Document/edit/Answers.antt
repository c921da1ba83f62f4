use Rattle.std.proofs.Common.{ap, subst}
use Rattle.typst_language.specs.Block.{first}
use Rattle.typst_source.specs.Edited.{IsEdited}
use Rattle.typst_session.specs.LinedText.{LinedText}
use Rattle.typst_session.proofs.document.Document.edit.Goals as goal

pub returns-in-Ok-clause-edited : goal.returns-in-Ok-clause-edited
returns-in-Ok-clause-edited c =
    subst (λ t. IsEdited first t c.args.range c.args.with.now c.in-Ok.done c.edit-2.new.self) (ap (λ (d : LinedText). d.tree) c.self.view_is) c.in-Ok.ensures.edited
