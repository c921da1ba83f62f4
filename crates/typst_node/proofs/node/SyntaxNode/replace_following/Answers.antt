use Rattle.std.proofs.Common.{◌≡◌, arith, inr, sym, ap, subst, ◌∙◌}
use Rattle.std.specs.Prelude.{Option, Some, Result, Ok, Err, IfSome}
use Rattle.typst_node.specs.Tree.{Tree}
use Rattle.typst_node.specs.Paths.{tree_at, trees_at}
use Rattle.typst_node.specs.Edit.{Edit, edit_of, site_by}
use Rattle.typst_node.specs.Accepted.{IsAccepted}
use Rattle.typst_node.specs.EditBelow.{IsReplacement}
use Rattle.typst_node.specs.Moves.{AreNoted, AreNotedFor, AreMoves, NumberMoves}
use Rattle.typst_node.specs.declared.node.moves.Noted.{Noted}
use Rattle.typst_node.specs.declared.node.replace.Renumbered.{Renumbered}
use Rattle.typst_node.specs.declared.node.replace.ReplaceError.{ReplaceError}
use Rattle.typst_node.proofs.Decided.{accepted, refused_following}
use Rattle.typst_node.proofs.Edited.{file_within}
use Rattle.typst_node.proofs.Renewed.{path_there, rows_fit, window_fits, room_there, moves_there}
use Rattle.typst_node.proofs.WholeMoved.{is_followed}
use Rattle.typst_node.proofs.node.SyntaxNode.replace_following.Goals as goal

-- what holds of an answer that is there
answered : (P : Result Renumbered ReplaceError → Type 0) (o : Option (Result Renumbered ReplaceError)) (a : Result Renumbered ReplaceError) → o ≡ Some a → IfSome o P → P a
answered P o a is h = subst (λ b. IfSome b P) is h

noted_there : (e : Edit) (old : Tree) (o : Option (Result Renumbered ReplaceError)) (n : Option Noted) (r : Renumbered) (m : Noted) → o ≡ Some (Ok r) → n ≡ Some m → IfSome o (AreNotedFor e.from e.to e.others (tree_at e.path old) n) → AreNoted (site_by e old) r.window m
noted_there e old o n r m is some h =
    subst (λ k. IfSome k (AreNoted (site_by e old) r.window)) some (answered (AreNotedFor e.from e.to e.others (tree_at e.path old) n) o (Ok r) is h)

pub moves_at-moves-requires-clause-path : goal.moves_at-moves-requires-clause-path
moves_at-moves-requires-clause-path c =
    let t = c.args.self.now in
    let new = c.replace_below.new.self in
    let e = edit_of c.args.path.now c.args.range c.args.replacement.items in
    let answer = c.replace_below.new.errand.answer in
    let is : answer ≡ Some (Ok c.in-Ok.renumbered) = c.unwrap.ensures ∙ ap Some c.in-Ok.is in
    let made = answered (IsReplacement e.from e.to e.others c.growth.result (tree_at e.path t) (tree_at e.path new)) answer (Ok c.in-Ok.renumbered) is c.replace_below.ensures.at in
    let done : IsAccepted e t c.in-Ok.renumbered new = accepted e c.growth.result t new c.requires.fits c.growth.ensures (Ok c.in-Ok.renumbered) made (inr c.requires.numbered) c.replace_below.ensures.frame in
    let noted = noted_there e t answer c.replace_below.new.errand.noted c.in-Ok.renumbered c.unwrap-noted.result is c.unwrap-noted.ensures c.replace_below.ensures.noted in
    path_there e t new c.in-Ok.renumbered c.unwrap-noted.result done made.plain noted

pub moves_at-moves-requires-clause-numbered : goal.moves_at-moves-requires-clause-numbered
moves_at-moves-requires-clause-numbered c =
    let t = c.args.self.now in
    let new = c.replace_below.new.self in
    let e = edit_of c.args.path.now c.args.range c.args.replacement.items in
    let answer = c.replace_below.new.errand.answer in
    let is : answer ≡ Some (Ok c.in-Ok.renumbered) = c.unwrap.ensures ∙ ap Some c.in-Ok.is in
    let made = answered (IsReplacement e.from e.to e.others c.growth.result (tree_at e.path t) (tree_at e.path new)) answer (Ok c.in-Ok.renumbered) is c.replace_below.ensures.at in
    let done : IsAccepted e t c.in-Ok.renumbered new = accepted e c.growth.result t new c.requires.fits c.growth.ensures (Ok c.in-Ok.renumbered) made (inr c.requires.numbered) c.replace_below.ensures.frame in
    let is_file : t.label.span.file ≡ c.requires.numbered.0 = file_within c.requires.numbered.0 t c.requires.numbered.2 in
    (t.label.span.file, omega (arith, is_file, c.requires.numbered.1), done.numbered)

pub moves_at-moves-requires-clause-ahead : goal.moves_at-moves-requires-clause-ahead
moves_at-moves-requires-clause-ahead c =
    let t = c.args.self.now in
    let new = c.replace_below.new.self in
    let e = edit_of c.args.path.now c.args.range c.args.replacement.items in
    let answer = c.replace_below.new.errand.answer in
    let is : answer ≡ Some (Ok c.in-Ok.renumbered) = c.unwrap.ensures ∙ ap Some c.in-Ok.is in
    let made = answered (IsReplacement e.from e.to e.others c.growth.result (tree_at e.path t) (tree_at e.path new)) answer (Ok c.in-Ok.renumbered) is c.replace_below.ensures.at in
    let done : IsAccepted e t c.in-Ok.renumbered new = accepted e c.growth.result t new c.requires.fits c.growth.ensures (Ok c.in-Ok.renumbered) made (inr c.requires.numbered) c.replace_below.ensures.frame in
    let noted = noted_there e t answer c.replace_below.new.errand.noted c.in-Ok.renumbered c.unwrap-noted.result is c.unwrap-noted.ensures c.replace_below.ensures.noted in
    rows_fit e t new c.in-Ok.renumbered c.unwrap-noted.result done made.plain noted

pub moves_at-moves-requires-clause-end : goal.moves_at-moves-requires-clause-end
moves_at-moves-requires-clause-end c =
    let t = c.args.self.now in
    let new = c.replace_below.new.self in
    let e = edit_of c.args.path.now c.args.range c.args.replacement.items in
    let answer = c.replace_below.new.errand.answer in
    let is : answer ≡ Some (Ok c.in-Ok.renumbered) = c.unwrap.ensures ∙ ap Some c.in-Ok.is in
    let made = answered (IsReplacement e.from e.to e.others c.growth.result (tree_at e.path t) (tree_at e.path new)) answer (Ok c.in-Ok.renumbered) is c.replace_below.ensures.at in
    let done : IsAccepted e t c.in-Ok.renumbered new = accepted e c.growth.result t new c.requires.fits c.growth.ensures (Ok c.in-Ok.renumbered) made (inr c.requires.numbered) c.replace_below.ensures.frame in
    let noted = noted_there e t answer c.replace_below.new.errand.noted c.in-Ok.renumbered c.unwrap-noted.result is c.unwrap-noted.ensures c.replace_below.ensures.noted in
    window_fits e t new c.in-Ok.renumbered c.unwrap-noted.result done made.plain noted

pub moves_at-moves-requires-clause-room : goal.moves_at-moves-requires-clause-room
moves_at-moves-requires-clause-room c =
    let t = c.args.self.now in
    let new = c.replace_below.new.self in
    let e = edit_of c.args.path.now c.args.range c.args.replacement.items in
    let answer = c.replace_below.new.errand.answer in
    let is : answer ≡ Some (Ok c.in-Ok.renumbered) = c.unwrap.ensures ∙ ap Some c.in-Ok.is in
    let made = answered (IsReplacement e.from e.to e.others c.growth.result (tree_at e.path t) (tree_at e.path new)) answer (Ok c.in-Ok.renumbered) is c.replace_below.ensures.at in
    let done : IsAccepted e t c.in-Ok.renumbered new = accepted e c.growth.result t new c.requires.fits c.growth.ensures (Ok c.in-Ok.renumbered) made (inr c.requires.numbered) c.replace_below.ensures.frame in
    let noted = noted_there e t answer c.replace_below.new.errand.noted c.in-Ok.renumbered c.unwrap-noted.result is c.unwrap-noted.ensures c.replace_below.ensures.noted in
    room_there e t new c.in-Ok.renumbered c.unwrap-noted.result done made.plain noted

pub returns-in-Ok-clause-accepted : goal.returns-in-Ok-clause-accepted
returns-in-Ok-clause-accepted c =
    let t = c.args.self.now in
    let new = c.replace_below.new.self in
    let e = edit_of c.args.path.now c.args.range c.args.replacement.items in
    let answer = c.replace_below.new.errand.answer in
    let is : answer ≡ Some (Ok c.in-Ok.renumbered) = c.unwrap.ensures ∙ ap Some c.in-Ok.is in
    let made = answered (IsReplacement e.from e.to e.others c.growth.result (tree_at e.path t) (tree_at e.path new)) answer (Ok c.in-Ok.renumbered) is c.replace_below.ensures.at in
    let done : IsAccepted e t c.in-Ok.renumbered new = accepted e c.growth.result t new c.requires.fits c.growth.ensures (Ok c.in-Ok.renumbered) made (inr c.requires.numbered) c.replace_below.ensures.frame in
    done

pub returns-in-Ok-clause-followed : goal.returns-in-Ok-clause-followed
returns-in-Ok-clause-followed c =
    let t = c.args.self.now in
    let new = c.replace_below.new.self in
    let e = edit_of c.args.path.now c.args.range c.args.replacement.items in
    let answer = c.replace_below.new.errand.answer in
    let is : answer ≡ Some (Ok c.in-Ok.renumbered) = c.unwrap.ensures ∙ ap Some c.in-Ok.is in
    let made = answered (IsReplacement e.from e.to e.others c.growth.result (tree_at e.path t) (tree_at e.path new)) answer (Ok c.in-Ok.renumbered) is c.replace_below.ensures.at in
    let done : IsAccepted e t c.in-Ok.renumbered new = accepted e c.growth.result t new c.requires.fits c.growth.ensures (Ok c.in-Ok.renumbered) made (inr c.requires.numbered) c.replace_below.ensures.frame in
    let noted = noted_there e t answer c.replace_below.new.errand.noted c.in-Ok.renumbered c.unwrap-noted.result is c.unwrap-noted.ensures c.replace_below.ensures.noted in
    let moves : AreMoves (site_by e t) c.in-Ok.renumbered.window (trees_at e.path new) c.moves_at-moves.result =
    subst (AreMoves (site_by e t) c.in-Ok.renumbered.window (trees_at e.path new)) (sym c.moves_at-moves.ensures) (moves_there e t new c.in-Ok.renumbered c.unwrap-noted.result done made.plain noted (Some new.label.span.file)) in
    is_followed e t new c.in-Ok.renumbered c.moves_at-moves.result c.requires.numbered.0 c.requires.numbered.2 done made.plain moves

pub returns-in-Ok-clause-file : goal.returns-in-Ok-clause-file
returns-in-Ok-clause-file c =
    let t = c.args.self.now in
    let new = c.replace_below.new.self in
    let e = edit_of c.args.path.now c.args.range c.args.replacement.items in
    let answer = c.replace_below.new.errand.answer in
    let is : answer ≡ Some (Ok c.in-Ok.renumbered) = c.unwrap.ensures ∙ ap Some c.in-Ok.is in
    let made = answered (IsReplacement e.from e.to e.others c.growth.result (tree_at e.path t) (tree_at e.path new)) answer (Ok c.in-Ok.renumbered) is c.replace_below.ensures.at in
    let done : IsAccepted e t c.in-Ok.renumbered new = accepted e c.growth.result t new c.requires.fits c.growth.ensures (Ok c.in-Ok.renumbered) made (inr c.requires.numbered) c.replace_below.ensures.frame in
    ap (λ (m : NumberMoves). m.file) c.moves_at-moves.ensures ∙ ap Some (file_within t.label.span.file new done.numbered)

pub returns-clause-refused : goal.returns-clause-refused
returns-clause-refused c =
    let t = c.args.self.now in
    let new = c.replace_below.new.self in
    let e = edit_of c.args.path.now c.args.range c.args.replacement.items in
    let answer = c.replace_below.new.errand.answer in
    let is : answer ≡ Some (Err c.in-Err.why) = c.unwrap.ensures ∙ ap Some c.in-Err.is in
    let made = answered (IsReplacement e.from e.to e.others c.growth.result (tree_at e.path t) (tree_at e.path new)) answer (Err c.in-Err.why) is c.replace_below.ensures.at in
    refused_following e c.growth.result t new c.requires.fits c.growth.ensures (Err c.in-Err.why) made
