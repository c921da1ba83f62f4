use Rattle.std.proofs.Common.{◌∙◌, length, sym, arith}
use Rattle.std.proofs.lemmas.List.{take_rest}
use Rattle.typst_parser.proofs.RawLines.{indent_next, indent_stop}
use Rattle.typst_parser.proofs.lines.indent.Goals as goal

pub returns-then-len-eq0 : goal.returns-then-len-eq0
returns-then-len-eq0 c = indent_stop (length c.args.bytes.now) c.loop-n.n c.loop-n.rest.now _ (sym c.white_len-len.ensures.len ∙ c.if-len-eq0.true) c.loop-n.invariant

pub loop-n-preserved : goal.loop-n-preserved
loop-n-preserved c =
    indent_next (length c.args.bytes.now) c.loop-n.n c.white_len-len.result c.loop-n.rest.now _ _ c.loop-n-test.true c.white_len-len.ensures.len (omega arith)
    (take_rest c.loop-n.rest.now c.white_len-len.result) c.loop-n.invariant
