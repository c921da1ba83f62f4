use Rattle.std.proofs.Common.{◌≡◌, take, drop}
use Rattle.typst_node.specs.Numbered.{IsNumberedFor}
use Rattle.typst_node.specs.Plain.{plain}
use Rattle.typst_tree.specs.Run.{Run, edited_by}
use Rattle.typst_tree.proofs.session.run.Given as goal

abbrev pub invariant-loop-slot : goal.invariant-loop-slot
invariant-loop-slot l = record {
  run : Run l.fn.root (take l.slot-index l.fn.slots) (take l.slot-index l.slots) l.root;
  rest : drop l.slot-index l.slots ≡ drop l.slot-index l.fn.slots;
  numbered : IsNumberedFor l.fn.root.label.span.file l.root;
  plain : plain l.root ≡ plain (edited_by (take l.slot-index l.fn.slots) (take l.slot-index l.slots) l.fn.root);
}
