use Rattle.typst_parser.proofs.unique.see.Goals as goal

pub returns-then-branch-clause-seen : goal.returns-then-branch-clause-seen
returns-then-branch-clause-seen c = λ q. c.in_ok-insert.ensures.updates.0 (q.list, q.name)

pub returns-else-branch-clause-seen : goal.returns-else-branch-clause-seen
returns-else-branch-clause-seen c = λ q. c.in_ok-insert.ensures.updates.0 (q.list, q.name)
