use Rattle.std.proofs.Common.{◌≡◌, true, false, [], refl, sym, ap, ◌∙◌}
use Rattle.std.specs.Prelude.{is_some}
use Rattle.typst_node.specs.Edit.{Fits, edit_of}
use Rattle.typst_node.proofs.Edited.{whole_frame, IfOk_map}
use Rattle.typst_node.proofs.Decided.{accepted, refused}
use Rattle.typst_node.proofs.node.SyntaxNode.replace_children.Goals as goal

pub returns-in-Some-clause-accepted : goal.returns-in-Some-clause-accepted
returns-in-Some-clause-accepted c =
    let t = c.args.self.now in
    let new = c.replace_range-answer.new.self in
    let e = edit_of [] c.args.range c.args.replacement.items in
    let fit : Fits e t = c.in-Some.ensures.fits.0 refl in
    let made = accepted e c.growth.result t new fit c.growth.ensures c.in-Some.answer c.in-Some.ensures.made c.requires.numbered_ask_is_numbered
    (whole_frame t new c.in-Some.ensures.made.label) in
    IfOk_map c.in-Some.answer made (λ x h is. h)

pub returns-in-Some-clause-refused : goal.returns-in-Some-clause-refused
returns-in-Some-clause-refused c =
    let t = c.args.self.now in
    let e = edit_of [] c.args.range c.args.replacement.items in
    let fit : Fits e t = c.in-Some.ensures.fits.0 refl in
    refused e c.growth.result t c.replace_range-answer.new.self fit c.growth.ensures c.in-Some.answer c.in-Some.ensures.made (c.in-Some.ensures.memory refl)

pub returns-clause-accepted : goal.returns-clause-accepted
returns-clause-accepted c inner =
    let range = c.requires.fits_ask_edit_fits inner in
    let fit : Fits (edit_of [] c.args.range c.args.replacement.items) c.args.self.now = (tt, inner, range.0, range.1) in
    let some = c.replace_range-answer.ensures.fits.1 fit in
    let no : false ≡ true = ap is_some (sym c.in_default.is) ∙ some in
    cc
