-- The names that patterns bind meet the rule, and no others do.
use Rattle.std.proofs.Common.{◌≡◌, ◌≤◌, ℕ, zero, suc, List, Option, Some, None, sym, ◌∙◌, arith}
use Rattle.typst_ast.specs.BindingRule.{ByRule, MeetsRule}
use Rattle.typst_ast.specs.Bindings.{destructuring_names, destructuring_names_by, let_names, let_names_by, pattern_names, pattern_names_by}
use Rattle.typst_ast.specs.declared.lets.LetBindingKind.{LetBindingKind}
use Rattle.typst_ast.specs.declared.pattern.Pattern.{Pattern}
use Rattle.typst_atoms.proofs.BoundNames.{names_rule, pattern_same}
use Rattle.typst_atoms.specs.Bindings.{count_in, names_bound}
use Rattle.typst_node.specs.Tree.{Tree}

-- names that meet the rule are the same for the patterns with at most n nodes
rule_fixes_names : (f g : Option Tree → List Tree) → MeetsRule f → MeetsRule g → (n : ℕ) (o : Option Tree) → count_in o ≤ n → f o ≡ g o
rule_fixes_names f g p q zero None h = p None ∙ sym (q None)
rule_fixes_names f g p q zero (Some t) h = absurd (omega arith)
rule_fixes_names f g p q (suc n) o h = p o ∙ pattern_same f g n (λ u k. rule_fixes_names f g p q n u k) o h ∙ sym (q o)

by_rule : (Holds : (Option Tree → List Tree) → Type 0) → Holds names_bound → ByRule Holds
by_rule Holds h =
    (names_bound, names_rule, (λ others p o. rule_fixes_names others names_bound p names_rule (count_in o) o (omega arith)), h)

pub pattern_by_rule : (v : Pattern) (ns : List (Option Tree)) → ns ≡ pattern_names v → ByRule (λ names. ns ≡ pattern_names_by names v)
pattern_by_rule v ns h = by_rule (λ names. ns ≡ pattern_names_by names v) h

pub parts_by_rule : (parts : Option Tree) (ns : List (Option Tree)) → ns ≡ destructuring_names parts → ByRule (λ names. ns ≡ destructuring_names_by names parts)
parts_by_rule parts ns h = by_rule (λ names. ns ≡ destructuring_names_by names parts) h

pub let_by_rule : (v : LetBindingKind) (ns : List (Option Tree)) → ns ≡ let_names v → ByRule (λ names. ns ≡ let_names_by names v)
let_by_rule v ns h = by_rule (λ names. ns ≡ let_names_by names v) h
