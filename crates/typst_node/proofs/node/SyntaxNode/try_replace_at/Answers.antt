use Rattle.std.proofs.Common.{refl, ◌≤◌, ◌-◌, length}
use Rattle.std.specs.Prelude.{Option, None, Some, IfErr, IfOk, IfSome, IsErrOf, IsSome}
use Rattle.typst_node.specs.declared.node.replace.ReplaceError.TheVariants.{Memory}
use Rattle.typst_node.specs.Paths.{tree_at}
use Rattle.typst_node.specs.Edit.{Fits, edit_of}
use Rattle.typst_node.specs.Accepted.{IsAccepted}
use Rattle.typst_node.specs.Refusals.{IsRefusedBy}
use Rattle.typst_node.specs.EditBelow.{IsReplacement}
use Rattle.typst_node.proofs.Decided.{accepted, refused}
use Rattle.typst_node.proofs.node.SyntaxNode.try_replace_at.Goals as goal

if_some : {A : Type 0} (P Q : A → Type 0) (o : Option A) → (IsSome o → (a : A) → P a → Q a) → IfSome o P → IfSome o Q
if_some P Q None f h = tt
if_some P Q (Some a) f h = f refl a h

if_both : {A : Type 0} (X : Type 0) (P Q R : A → Type 0) (o : Option A) → (IsSome o → (a : A) → P a → (X → Q a) → R a) → IfSome o P → (X → IfSome o Q) → IfSome o R
if_both X P Q R None f h k = tt
if_both X P Q R (Some a) f h k = f refl a h k

pub returns-clause-accepted : goal.returns-clause-accepted
returns-clause-accepted c =
    let t = c.args.self.now in
    let new = c.replace_below.new.self in
    let e = edit_of c.args.path.now c.args.range c.args.replacement.items in
    if_some (IsReplacement e.from e.to e.others c.growth.result (tree_at e.path t) (tree_at e.path new)) (λ answer. IfOk answer (λ r. IsAccepted e t r new)) c.replace_below.new.errand.answer
    (λ yes answer made.
    let fit : Fits e t = c.replace_below.ensures.fits.0 yes in
    accepted e c.growth.result t new fit c.growth.ensures answer made c.requires.numbered_ask_is_numbered c.replace_below.ensures.frame)
    c.replace_below.ensures.at

pub returns-clause-refused : goal.returns-clause-refused
returns-clause-refused c =
    let t = c.args.self.now in
    let new = c.replace_below.new.self in
    let e = edit_of c.args.path.now c.args.range c.args.replacement.items in
    if_both (length e.others ≤ e.to - e.from) (IsReplacement e.from e.to e.others c.growth.result (tree_at e.path t) (tree_at e.path new)) (λ answer. ¬ (IsErrOf answer Memory)) (λ answer. IfErr answer (λ why. IsRefusedBy why e t)) c.replace_below.new.errand.answer
    (λ yes answer made sparing.
    let fit : Fits e t = c.replace_below.ensures.fits.0 yes in
    refused e c.growth.result t new fit c.growth.ensures answer made sparing)
    c.replace_below.ensures.at (c.replace_below.ensures.sparing refl)
