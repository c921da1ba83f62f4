-- Written by bench/kinds.py from crates/kinds.txt: change that and run it.
use Rattle.std.proofs.Common.{◌≡◌, ◌⊎◌, inl, inr, true, refl, sym, ap, ◌∙◌}
use Rattle.typst_atoms.specs.ExprKinds.{is_expr_kind}
use Rattle.typst_base.specs.declared.kind.SyntaxKind.{SyntaxKind}
use Rattle.typst_base.specs.declared.kind.SyntaxKind.TheVariants as kinds
use Rattle.typst_atoms.proofs.expr_kinds.is_expr.Goals as goal

either : {A B P : Type 0} → (A → P) → (B → P) → A ⊎ B → P
either f g (inl a) = f a
either f g (inr b) = g b

-- by cases: the kind is one of those that the pattern lists
pub returns-in-Text : goal.returns-in-Text
returns-in-Text c =
    let is : (listed : SyntaxKind) → true ≡ is_expr_kind listed → c.args.kind ≡ listed → true ≡ is_expr_kind c.args.kind =
    λ listed h e. h ∙ ap is_expr_kind (sym e) in
    either (is kinds.Text refl) (
    either (is kinds.Linebreak refl) (
    either (is kinds.Parbreak refl) (
    either (is kinds.Escape refl) (
    either (is kinds.Shorthand refl) (
    either (is kinds.SmartQuote refl) (
    either (is kinds.Strong refl) (
    either (is kinds.Emph refl) (
    either (is kinds.Raw refl) (
    either (is kinds.Link refl) (
    either (is kinds.Label refl) (
    either (is kinds.Ref refl) (
    either (is kinds.Heading refl) (
    either (is kinds.ListItem refl) (
    either (is kinds.EnumItem refl) (
    either (is kinds.TermItem refl) (
    either (is kinds.Equation refl) (
    either (is kinds.Math refl) (
    either (is kinds.MathText refl) (
    either (is kinds.MathIdent refl) (
    either (is kinds.MathFieldAccess refl) (
    either (is kinds.MathShorthand refl) (
    either (is kinds.MathAlignPoint refl) (
    either (is kinds.MathCall refl) (
    either (is kinds.MathDelimited refl) (
    either (is kinds.MathAttach refl) (
    either (is kinds.MathPrimes refl) (
    either (is kinds.MathFrac refl) (
    either (is kinds.MathRoot refl) (
    either (is kinds.None refl) (
    either (is kinds.Auto refl) (
    either (is kinds.Ident refl) (
    either (is kinds.Bool refl) (
    either (is kinds.Int refl) (
    either (is kinds.Float refl) (
    either (is kinds.Numeric refl) (
    either (is kinds.Str refl) (
    either (is kinds.CodeBlock refl) (
    either (is kinds.ContentBlock refl) (
    either (is kinds.Parenthesized refl) (
    either (is kinds.Array refl) (
    either (is kinds.Dict refl) (
    either (is kinds.Unary refl) (
    either (is kinds.Binary refl) (
    either (is kinds.FieldAccess refl) (
    either (is kinds.FuncCall refl) (
    either (is kinds.Closure refl) (
    either (is kinds.LetBinding refl) (
    either (is kinds.SetRule refl) (
    either (is kinds.ShowRule refl) (
    either (is kinds.Contextual refl) (
    either (is kinds.Conditional refl) (
    either (is kinds.WhileLoop refl) (
    either (is kinds.ForLoop refl) (
    either (is kinds.ModuleImport refl) (
    either (is kinds.ModuleInclude refl) (
    either (is kinds.LoopBreak refl) (
    either (is kinds.LoopContinue refl) (
    either (is kinds.FuncReturn refl) (
    is kinds.DestructAssignment refl))))))))))))))))))))))))))))))))))))))))))))))))))))))))))) c.in-Text.is
