use Rattle.std.proofs.Common.{◌≡◌, ◌++◌, ◌==◌, ◌∷◌, [], List, length, ℕ, ap, sym, ◌∙◌}
use Rattle.std.proofs.lemmas.Bool.{eqb-true}
use Rattle.std.proofs.lemmas.List.{nil_from_length}
use Rattle.typst_ast.proofs.PathParts.{around_last_dot, no_dot_behind, stem_before_dot, stem_behind_dot, stem_without_dot}
use Rattle.typst_ast.proofs.paths.stem_of.Goals as goal

pub returns-then-is_empty : goal.returns-then-is_empty
returns-then-is_empty c =
    let m = c.in-Some.ensures.cases in
    let none : c.in-Some.stem.now ≡ [] = nil_from_length _ (eqb-true _ 0 (sym c.is_empty.ensures ∙ c.if-is_empty.true)) in
    stem_behind_dot _ _
    (around_last_dot _ _ _ m.0 m.1 m.2 m.3 m.4 ∙ ap (λ (s : List ℕ). s ++ 46 ∷ c.in-Some.field-0-1.now) none)
    (no_dot_behind c.args.part.now c.in-Some.stem.now _ m.0 m.1 m.2 m.3 m.4)

pub returns-else-is_empty : goal.returns-else-is_empty
returns-else-is_empty c =
    let m = c.in-Some.ensures.cases in
    stem_before_dot _ _ c.in-Some.field-0-1.now
    (around_last_dot _ _ _ m.0 m.1 m.2 m.3 m.4)
    (no_dot_behind c.args.part.now c.in-Some.stem.now _ m.0 m.1 m.2 m.3 m.4)
    (λ e. let test = ap (λ (s : List ℕ). length s == 0) e in cc)

pub returns-in-None : goal.returns-in-None
returns-in-None c = stem_without_dot c.args.part.now c.in-None.ensures.cases
