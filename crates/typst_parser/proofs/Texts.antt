-- Texts and counts of lists of trees.
use Rattle.std.proofs.Common.{◌≡◌, ℕ, ◌≤◌, List, [], ◌∷◌, ◌++◌, length, Option, Some, None, refl, sym, ap, ◌∙◌, append_assoc, length-append, arith}
use Rattle.std.proofs.lemmas.List.{append-nil}
use Rattle.typst_base.specs.declared.kind.SyntaxKind.{SyntaxKind}
use Rattle.typst_node.specs.Count.{count, count_of_all, SumsFit}
use Rattle.typst_node.specs.Text.{text, text_of_all}
use Rattle.typst_node.specs.Tree.{Tree, inner_tree}
use Rattle.typst_node.proofs.Opens.{count_append}
use Rattle.typst_node.proofs.Trees.{count_of_all-cons, text_of_all-cons}
use Rattle.typst_parser.specs.Growth.{node_tree}
use Rattle.typst_parser.specs.Warnings.{warned_by, warning_for}
use Rattle.typst_parser.specs.declared.warning.Warning.{Warning}

-- a warning changes neither the text nor the number of nodes
warned_text : (w : Option Warning) (t : Tree) → text (warned_by w t) ≡ text t
warned_text None t = refl
warned_text (Some w) t = refl

warned_count : (w : Option Warning) (t : Tree) → count (warned_by w t) ≡ count t
warned_count None t = refl
warned_count (Some w) t = refl

pub text-append : (ts us : List Tree) → text_of_all (ts ++ us) ≡ text_of_all ts ++ text_of_all us
text-append [] us = refl
text-append (t ∷ ts) us =
    text_of_all-cons t (ts ++ us) ∙ ap (λ s. text t ++ s) (text-append ts us)
    ∙ sym (append_assoc (text t) (text_of_all ts) (text_of_all us)) ∙ ap (λ s. s ++ text_of_all us) (sym (text_of_all-cons t ts))

pub text_one : (t : Tree) → text_of_all (t ∷ []) ≡ text t
text_one t = text_of_all-cons t [] ∙ append-nil (text t)

pub text-push : (ts : List Tree) (t : Tree) → text_of_all (ts ++ t ∷ []) ≡ text_of_all ts ++ text t
text-push ts t = text-append ts (t ∷ []) ∙ ap (λ s. text_of_all ts ++ s) (text_one t)

-- the text has these bytes more, and there are no fewer nodes
pub record Gains (bytes : List ℕ) (ts us : List Tree) : Type 0 where
  pub text : text_of_all us ≡ text_of_all ts ++ bytes
  pub nodes : count_of_all ts ≤ count_of_all us

pub gains_fits : (bytes : List ℕ) (ts us : List Tree) → Gains bytes ts us → SumsFit us → SumsFit ts
gains_fits bytes ts us p fits = (omega (arith, ap length p.text, length-append (text_of_all ts) bytes, fits.0), omega (arith, p.nodes, fits.1))

pub gains_gains : (one two : List ℕ) (ts us vs : List Tree) → Gains one ts us → Gains two us vs → Gains (one ++ two) ts vs
gains_gains one two ts us vs p q = record {
  text = q.text ∙ ap (λ s. s ++ two) p.text ∙ append_assoc (text_of_all ts) one two;
  nodes = omega (arith, p.nodes, q.nodes);
}

-- a tree more
pub push_gains : (ts : List Tree) (t : Tree) (bytes : List ℕ) → text t ≡ bytes → Gains bytes ts (ts ++ t ∷ [])
push_gains ts t bytes is = record {
  text = text-push ts t ∙ ap (λ s. text_of_all ts ++ s) is;
  nodes = omega (arith, count_append ts (t ∷ []));
}

-- the last trees become one node
pub node_gains : (kind : SyntaxKind) (before inside : List Tree) → Gains [] (before ++ inside) (before ++ node_tree kind inside ∷ [])
node_gains kind before inside =
    let node : Tree = node_tree kind inside in
    let w : Option Warning = warning_for kind inside in
    record {
      text = text-append before (node ∷ []) ∙ ap (λ s. text_of_all before ++ s) (text_one node ∙ warned_text w (inner_tree kind inside)) ∙ sym (text-append before inside) ∙ sym (append-nil (text_of_all (before ++ inside)));
      nodes = omega (
        arith,
        count_append before inside,
        count_append before (node ∷ []),
        count_of_all-cons node [],
        warned_count w (inner_tree kind inside),
      );
    }

-- what becomes a node fits, if the whole does
pub inside_fits : (kind : SyntaxKind) (before inside : List Tree) → SumsFit (before ++ node_tree kind inside ∷ []) → SumsFit inside
inside_fits kind before inside fits =
    let node : Tree = node_tree kind inside in
    let w : Option Warning = warning_for kind inside in
    let one : text_of_all (node ∷ []) ≡ text_of_all inside = text_one node ∙ warned_text w (inner_tree kind inside) in (
      omega (
        arith,
        fits.0,
        ap length (text-append before (node ∷ [])),
        length-append (text_of_all before) (text_of_all (node ∷ [])),
        ap length one,
      ),
      omega (
        arith,
        fits.1,
        count_append before (node ∷ []),
        count_of_all-cons node [],
        warned_count w (inner_tree kind inside),
      ),
    )
