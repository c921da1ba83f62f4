use Rattle.std.proofs.Common.{sym, ◌∙◌}
use Rattle.typst_lexer.proofs.QuickArguments.{nameless, short_name}
use Rattle.typst_lexer.proofs.quick_math.is_nameless.Goals as goal

pub returns-then-not-is_name_start : goal.returns-then-not-is_name_start
returns-then-not-is_name_start c e =
    nameless c.args.byte c.args.next c.if-byte-ge128.false c.if-byte-eq46.false (sym c.is_name_start.ensures ∙ c.if-not-is_name_start.true)

pub returns : goal.returns
returns c e =
    short_name c.args.byte c.args.next c.if-byte-ge128.false c.if-byte-eq46.false (sym c.is_name_start.ensures ∙ c.if-not-is_name_start.false)
    c.if-next-ge128.false (sym c.is_name.ensures ∙ c.if-is_name.false) e
