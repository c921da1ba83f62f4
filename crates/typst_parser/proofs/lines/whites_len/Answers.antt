use Rattle.std.proofs.Common.{◌∙◌, ap, length, sym, arith}
use Rattle.std.proofs.lemmas.List.{length-drop, take_rest}
use Rattle.typst_parser.specs.Lines.{white_len}
use Rattle.typst_parser.proofs.RawLines.{whites_next, whites_stop}
use Rattle.typst_parser.proofs.lines.whites_len.Goals as goal

pub returns-then-len-eq0-clause-len : goal.returns-then-len-eq0-clause-len
returns-then-len-eq0-clause-len c =
    let bs = c.args.bytes.now in
    let len = c.white_len-len.ensures.len ∙ ap white_len (take_rest bs c.loop.at) in
    whites_stop c.args.most c.loop.counter c.loop.at bs _ (sym len ∙ c.if-len-eq0.true) c.loop.invariant.so_far

pub loop-preserved : goal.loop-preserved
loop-preserved c =
    let bs = c.args.bytes.now in
    let len = c.white_len-len.ensures.len ∙ ap white_len (take_rest bs c.loop.at) in
    record {
      within = omega (arith, c.white_len-len.ensures.within, ap length (take_rest bs c.loop.at), length-drop c.loop.at bs, c.loop.invariant.within);
      so_far = whites_next c.args.most c.loop.counter c.loop.at _ c.white_len-len.result bs _ c.loop-test.true len (omega arith) (omega arith) c.loop.invariant.so_far;
    }
