-- Trees with one plain tree read the same.
use Rattle.std.proofs.Common.{◌≡◌}
use Rattle.typst_ast.proofs.PlainReads.{reads_alike}
use Rattle.typst_node.specs.Tree.{Tree}
use Rattle.typst_node.specs.Preorder.{at}
use Rattle.typst_node.specs.Plain.{plain}
use Rattle.typst_node.proofs.TellAlike.{tells_alike}
use Rattle.typst_tree.specs.Reads.{ReadsAs}

pub reads_as : (t u : Tree) → plain t ≡ plain u → ReadsAs t u
reads_as t u same =
    let tells = tells_alike t u same in
    record { tells = tells; views = λ path. reads_alike (at path t) (at path u) (tells.nodes path) }
