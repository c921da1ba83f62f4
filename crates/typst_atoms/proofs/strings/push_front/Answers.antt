use Rattle.typst_atoms.proofs.Unescaping.{escape_more}
use Rattle.typst_atoms.proofs.strings.push_front.Goals as goal

pub returns-clause-reads : goal.returns-clause-reads
returns-clause-reads c =
    escape_more _ _ _ _ _ _ _ _ c.if-first-ne92.false c.escape_len.ensures.value c.split_at.ensures.front c.split_at.ensures.back c.escape_char.ensures c.in_ok-push_escape.ensures
