-- The laws of the parser of lines. These lemmas stand here since the laws of a trait cite them.
use Rattle.std.specs.Prelude.{ℕ, suc, ◌≡◌, ◌+◌, ◌<◌, ◌≤◌, ◌==◌, ◌++◌, nat_lt, get_or, Bool, true, false, List, [], ◌∷◌, length, take, if◌then◌else◌}
use Rattle.std.proofs.Common.{refl, sym, ap, subst, ◌∙◌, arith}
use Rattle.std.proofs.lemmas.Bool.{eqb-true}
use Rattle.std.proofs.lemmas.List.{append-nil, take-take}
use Rattle.std.proofs.lemmas.Str.{IsCharBoundary-end, IsCharBoundary-after_ascii}
use Rattle.std.specs.Str.{IsUtf8, IsCharBoundary}
use Rattle.typst_base.specs.declared.kind.SyntaxKind.TheVariants as kinds
use Rattle.typst_node.specs.Text.{text_of_all}
use Rattle.typst_node.specs.Tree.{leaf_tree}
use Rattle.typst_node.proofs.Trees.{text_of_all-cons}
use Rattle.typst_source_tests.specs.Lines.{line_len, line_reach, trees_of_line, first_line}

-- a text that isn't empty has a first line that isn't empty
pub lines_positive : (text : List ℕ) → 0 < length text → 0 < (first_line text).len
lines_positive [] some = absurd (omega arith)
lines_positive (b ∷ bs) some = by_case (b == 10)
  where
    by_case : (v : Bool) → 0 < (if v then 1 else suc (line_len bs))
    by_case true = omega arith
    by_case false = omega arith

-- the first line is not longer than the text
pub lines_within : (text : List ℕ) → (first_line text).len ≤ length text
lines_within [] = omega arith
lines_within (b ∷ bs) = by_case (b == 10) (lines_within bs)
  where
    by_case : (v : Bool) → line_len bs ≤ length bs → (if v then 1 else suc (line_len bs)) ≤ suc (length bs)
    by_case true h = omega arith
    by_case false h = omega arith

-- the parser looks at all bytes of the line
pub lines_looked : (text : List ℕ) → (first_line text).len ≤ (first_line text).reach
lines_looked [] = omega arith
lines_looked (b ∷ bs) = by_case (b == 10) (lines_looked bs)
  where
    by_case : (v : Bool) → line_len bs ≤ line_reach bs → (if v then 1 else suc (line_len bs)) ≤ (if v then 1 else suc (line_reach bs))
    by_case true h = omega arith
    by_case false h = omega arith

-- the line is the whole text, or its last byte is a line feed
pub data Ends (text : List ℕ) (len : ℕ) : Type 0 where
  Whole : len ≡ length text → Ends text len
  Fed : (before : ℕ) → len ≡ before + 1 → before < length text → get_or text before 0 ≡ 10 → Ends text len

ends : (text : List ℕ) → Ends text (line_len text)
ends [] = Whole refl
ends (b ∷ bs) = by_case (b == 10) refl (ends bs)
  where
    by_case : (v : Bool) → (b == 10) ≡ v → Ends bs (line_len bs) → Ends (b ∷ bs) (if v then 1 else suc (line_len bs))
    by_case true e rest = Fed 0 (omega arith) (omega arith) (eqb-true b 10 e)
    by_case false e rest = elim rest as (λ _. Ends (b ∷ bs) (suc (line_len bs))) [
      | Whole all ↦ Whole (ap suc all)
      | Fed before is inside feed ↦ Fed (suc before) (omega (arith, is)) (omega arith) feed
    ]

-- the first line of a text that is valid UTF-8 ends at a character boundary
pub lines_boundary : (text : List ℕ) → IsUtf8 text → IsCharBoundary text (first_line text).len
lines_boundary text u = elim (ends text) as (λ _. IsCharBoundary text (line_len text)) [
  | Whole all ↦ subst (IsCharBoundary text) (sym all) (IsCharBoundary-end text)
  | Fed before is inside feed ↦ subst (IsCharBoundary text) (sym is) (IsCharBoundary-after_ascii text before u inside (omega (arith, feed)))
]

-- the trees of the line have all of its text
pub lines_keep_text : (text : List ℕ) → text_of_all (first_line text).trees ≡ take (first_line text).len text
lines_keep_text text = by_case (nat_lt (line_len text) (line_reach text)) (take (line_len text) text)
  where
    by_case : (v : Bool) (line : List ℕ) → text_of_all (trees_of_line v line) ≡ line
    by_case true line = text_of_all-cons (leaf_tree kinds.Text line) (leaf_tree kinds.End [] ∷ []) ∙ append-nil (line ++ []) ∙ append-nil line
    by_case false line = text_of_all-cons (leaf_tree kinds.Text line) [] ∙ append-nil (line ++ []) ∙ append-nil line

-- a text that is the same as far as the parser looks has a first line of the same length and reach
same_reach : (text other : List ℕ) → take (line_reach text) text ≡ take (line_reach text) other → (line_reach text ≡ line_reach other) × (line_len text ≡ line_len other)
same_reach [] [] e = (refl, refl)
same_reach [] (c ∷ cs) e = let len : 0 ≡ length (take 1 (c ∷ cs)) = ap length e in absurd (omega (arith, len))
same_reach (b ∷ bs) [] e = absurd (by_case (b == 10) e)
  where
    by_case : (v : Bool) → take (if v then 1 else suc (line_reach bs)) (b ∷ bs) ≡ take (if v then 1 else suc (line_reach bs)) [] → ⊥
    by_case true e = cc
    by_case false e = cc
same_reach (b ∷ bs) (c ∷ cs) e =
    let h : b ≡ c = head (b == 10) e in
    subst (λ d. (line_reach (b ∷ bs) ≡ line_reach (d ∷ cs)) × (line_len (b ∷ bs) ≡ line_len (d ∷ cs))) h (by_case (b == 10) (same_reach bs cs) e)
  where
    head : (v : Bool) → take (if v then 1 else suc (line_reach bs)) (b ∷ bs) ≡ take (if v then 1 else suc (line_reach bs)) (c ∷ cs) → b ≡ c
    head true e = cc
    head false e = cc

    by_case : (v : Bool) → (take (line_reach bs) bs ≡ take (line_reach bs) cs → (line_reach bs ≡ line_reach cs) × (line_len bs ≡ line_len cs))
        → take (if v then 1 else suc (line_reach bs)) (b ∷ bs) ≡ take (if v then 1 else suc (line_reach bs)) (c ∷ cs)
        → ((if v then 1 else suc (line_reach bs)) ≡ (if v then 1 else suc (line_reach cs))) × ((if v then 1 else suc (line_len bs)) ≡ (if v then 1 else suc (line_len cs)))
    by_case true ih e = (refl, refl)
    by_case false ih e =
        let rest : take (line_reach bs) bs ≡ take (line_reach bs) cs = cc in
        let same = ih rest in
        (ap suc same.0, ap suc same.1)

-- a text that is the same as far as the parser looks has the same first line
pub lines_local : (text other : List ℕ) → take (first_line text).reach text ≡ take (first_line text).reach other → first_line text ≡ first_line other
lines_local text other e =
    let same = same_reach text other e in
    let line : take (line_len text) text ≡ take (line_len other) other =
    sym (take-take (line_len text) (line_reach text) text (lines_looked text)) ∙ ap (take (line_len text)) e
    ∙ take-take (line_len text) (line_reach text) other (lines_looked text) ∙ ap (λ n. take n other) same.1 in
    λ i. record { len = same.1 i; reach = same.0 i; trees = trees_of_line (nat_lt (same.1 i) (same.0 i)) (line i) }
