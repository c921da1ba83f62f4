use Rattle.std.proofs.Common.{ℕ, List, sym, subst, Some, None}
use Rattle.typst_node.specs.Edit.{Fits}
use Rattle.typst_node.specs.Accepted.{IsAccepted}
use Rattle.typst_node.specs.Refusals.{IsRefusedFollowing}
use Rattle.typst_node.specs.Following.{IsFollowed}
use Rattle.typst_node.specs.Narrowing.{edit_in, IsNarrowedTo}
use Rattle.typst_node.proofs.Narrowed.{refused_before}
use Rattle.typst_node.proofs.AtNarrowest.{fits_narrow, fits_low, accepted_there, kept_if_ok, leaf_refused}
use Rattle.typst_node.proofs.node.SyntaxNode.reconcile.Goals as goal

pub put_leaf-requires-clause-fits : goal.put_leaf-requires-clause-fits
put_leaf-requires-clause-fits c =
    let e = edit_in c.args.edit in
    let f = edit_in c.narrow.new.edit in
    let found : IsNarrowedTo e c.args.self.now f (Some c.in-Some.pair) = subst (IsNarrowedTo e c.args.self.now f) c.in-Some.is c.in_ok-pair.ensures in
    fits_low e c.args.self.now f c.requires.fits found.0

pub put_leaf-requires-clause-pair : goal.put_leaf-requires-clause-pair
put_leaf-requires-clause-pair c =
    let e = edit_in c.args.edit in
    let f = edit_in c.narrow.new.edit in
    let found : IsNarrowedTo e c.args.self.now f (Some c.in-Some.pair) = subst (IsNarrowedTo e c.args.self.now f) c.in-Some.is c.in_ok-pair.ensures in
    found.1

pub returns-in-Some-clause-reconciled : goal.returns-in-Some-clause-reconciled
returns-in-Some-clause-reconciled c =
    let e = edit_in c.args.edit in
    let f = edit_in c.narrow.new.edit in
    let found : IsNarrowedTo e c.args.self.now f (Some c.in-Some.pair) = subst (IsNarrowedTo e c.args.self.now f) c.in-Some.is c.in_ok-pair.ensures in
    kept_if_ok e c.args.self.now f c.requires.fits found.0 c.put_leaf.result _ c.put_leaf.new.self c.requires.numbered c.put_leaf.ensures.path c.put_leaf.ensures.leaf c.put_leaf.ensures.sums c.put_leaf.ensures.kept c.put_leaf.ensures.still

pub returns-in-Some-clause-refused : goal.returns-in-Some-clause-refused
returns-in-Some-clause-refused c =
    let e = edit_in c.args.edit in
    let f = edit_in c.narrow.new.edit in
    let found : IsNarrowedTo e c.args.self.now f (Some c.in-Some.pair) = subst (IsNarrowedTo e c.args.self.now f) c.in-Some.is c.in_ok-pair.ensures in
    leaf_refused e c.args.self.now f c.requires.fits found.0 c.put_leaf.result c.put_leaf.ensures.numberable c.put_leaf.ensures.overflow

pub replace_following-requires-clause-fits : goal.replace_following-requires-clause-fits
replace_following-requires-clause-fits c =
    let e = edit_in c.args.edit in
    let f = edit_in c.narrow.new.edit in
    let found : IsNarrowedTo e c.args.self.now f None = subst (IsNarrowedTo e c.args.self.now f) c.in_default.is c.in_ok-pair.ensures in
    let there = fits_narrow e c.args.self.now f c.requires.fits found.0 in
    subst (λ (p : List ℕ). Fits (record { path = p; from = f.from; to = f.to; others = f.others }) c.args.self.now) (sym c.deref.ensures.value) there

pub returns-in-Err-clause-refused : goal.returns-in-Err-clause-refused
returns-in-Err-clause-refused c =
    let e = edit_in c.args.edit in
    let f = edit_in c.narrow.new.edit in
    let t = c.args.self.now in
    let found : IsNarrowedTo e t f None = subst (IsNarrowedTo e t f) c.in_default.is c.in_ok-pair.ensures in
    let why = subst (λ (p : List ℕ). IsRefusedFollowing c.in-Err.why (record { path = p; from = f.from; to = f.to; others = f.others }) t) c.deref.ensures.value c.in-Err.ensures.refused in
    refused_before found.0.steps e t f c.in-Err.why c.requires.fits c.requires.numbered found.0.leads why

pub returns-in-Ok-clause-reconciled : goal.returns-in-Ok-clause-reconciled
returns-in-Ok-clause-reconciled c =
    let e = edit_in c.args.edit in
    let f = edit_in c.narrow.new.edit in
    let t = c.args.self.now in
    let found : IsNarrowedTo e t f None = subst (IsNarrowedTo e t f) c.in_default.is c.in_ok-pair.ensures in
    let accepted : IsAccepted f t c.in-Ok.done.renumbered c.replace_following.new.self =
    subst (λ (p : List ℕ). IsAccepted (record { path = p; from = f.from; to = f.to; others = f.others }) t c.in-Ok.done.renumbered c.replace_following.new.self) c.deref.ensures.value c.in-Ok.ensures.accepted in
    let moves : IsFollowed f t c.replace_following.new.self c.in-Ok.done.moves =
    subst (λ (p : List ℕ). IsFollowed (record { path = p; from = f.from; to = f.to; others = f.others }) t c.replace_following.new.self c.in-Ok.done.moves) c.deref.ensures.value c.in-Ok.ensures.followed in
    accepted_there e t f c.requires.fits c.in-Ok.done.renumbered c.in-Ok.done.moves c.replace_following.new.self c.in-Ok.ensures.file c.requires.numbered found.0 found.1 accepted moves
