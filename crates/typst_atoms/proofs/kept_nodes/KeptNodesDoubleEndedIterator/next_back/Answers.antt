use Rattle.std.proofs.Common.{rules}
use Rattle.typst_atoms.proofs.KeptLists.{back_none, back_some, back_shorter}
use Rattle.typst_atoms.proofs.kept_nodes.KeptNodesDoubleEndedIterator.next_back.Goals as goal

pub returns-then-not-is_dropped-clause-steps : goal.returns-then-not-is_dropped-clause-steps
returns-then-not-is_dropped-clause-steps c =
    back_some _ _ _ _ _ _ _ _ c.loop-last.invariant c.in-Some.ensures.cases.0 c.is_behind_stmt-behind_stmt.ensures c.is_dropped.ensures c.if-not-is_dropped.true

pub returns-then-not-is_dropped-clause-goes : goal.returns-then-not-is_dropped-clause-goes
returns-then-not-is_dropped-clause-goes c =
    let h = back_shorter _ _ _ _ _ _ _ _ c.loop-last.invariant c.in-Some.ensures.cases.0 c.is_behind_stmt-behind_stmt.ensures c.is_dropped.ensures c.if-not-is_dropped.true in
    search rules

pub loop-last-preserved : goal.loop-last-preserved
loop-last-preserved c = search (rules, back_none)
