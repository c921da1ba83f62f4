-- Trees before and after their nodes get the places of mapped bytes.
use Rattle.std.proofs.Common.{◌≡◌, ℕ, zero, suc, ◌+◌, ◌-◌, ◌^◌, ◌<◌, ◌≤◌, List, [], ◌∷◌, ◌++◌, length, map, take, drop, get_or, Option, Some, None, refl, sym, ap, ◌∙◌, arith, add-one, Box, Global}
use Rattle.std.proofs.Math.ListN.{set}
use Rattle.std.specs.declared.ops.Range.{Range}
use Rattle.std.proofs.lemmas.Bool.Decides.{nat_tests}
use Rattle.typst_base.specs.Mapping.{Mapping}
use Rattle.typst_base.specs.Span.{SpanParts, detached}
use Rattle.typst_base.specs.SubRange.{interval, cut_sub_end, MakesSubRange}
use Rattle.typst_base.specs.declared.kind.SyntaxKind.{SyntaxKind}
use Rattle.typst_node.specs.Tree.{HintText, WarningText, Content, AsLeaf, AsError, AsInner, Label, Forest, none, tree, Tree, forest}
use Rattle.typst_node.specs.Text.{own_text, text, text_of_all}
use Rattle.typst_node.specs.Synthesized.{whole_hint, whole_warning, synthesized_content}
use Rattle.typst_node.specs.Mapped.{part_between, mapped_hint, mapped_warning, mapped_content, mapped_label, bytes_from}
use Rattle.typst_node.specs.MappedForest.{mapped_forest, mapped_tree, mapped_trees}
use Rattle.typst_node.specs.View.{tree_of, shown_warnings}
use Rattle.typst_node.specs.declared.node.InnerNode.{InnerNode}
use Rattle.typst_node.specs.declared.node.Node.TheVariants.{Inner}
use Rattle.typst_node.specs.declared.node.SyntaxNode.TheInside.{Inside}
use Rattle.typst_node.proofs.Relabelled.{relabelled, relabelled_forest}
use Rattle.typst_node.proofs.SynthesizedLemmas.{bare}
use Rattle.typst_node.proofs.Trees.{drop_next, length-text_of_all-cons}

whole_hints_mapped : (m : Mapping) (bytes : Range ℕ) (hs : List HintText) → map whole_hint (map (mapped_hint m bytes) hs) ≡ map whole_hint hs
whole_hints_mapped m bytes [] = refl
whole_hints_mapped m bytes (h ∷ hs) = ap (λ ks. whole_hint h ∷ ks) (whole_hints_mapped m bytes hs)

whole_warnings_mapped : (m : Mapping) (bytes : Range ℕ) (ws : List WarningText) → map whole_warning (map (mapped_warning m bytes) ws) ≡ map whole_warning ws
whole_warnings_mapped m bytes [] = refl
whole_warnings_mapped m bytes (w ∷ ws) =
    λ i. record { sub_range = (whole_warning w).sub_range; message = w.message; hints = whole_hints_mapped m bytes w.hints i } ∷ whole_warnings_mapped m bytes ws i

whole_content_mapped : (m : Mapping) (bytes : Range ℕ) (n k : ℕ) (c : Content) → synthesized_content k (mapped_content m bytes n c) ≡ synthesized_content k c
whole_content_mapped m bytes n k (AsLeaf kind text) = refl
whole_content_mapped m bytes n k (AsError text message hints) = ap (λ hs. AsError text message hs) (whole_hints_mapped m bytes hints)
whole_content_mapped m bytes n k (AsInner kind bound) = refl

bare_of_label : (m : Mapping) (id : ℕ) (bytes : Range ℕ) (l : Label) → bare (mapped_label m id bytes l) ≡ bare l
bare_of_label m id bytes l =
    λ i. record { span = detached; warnings = whole_warnings_mapped m bytes l.warnings i; content = whole_content_mapped m bytes (mapped_label m id bytes l).span.low 1 l.content i }

bare_of_forest : (m : Mapping) (id at : ℕ) (f : Forest) → relabelled_forest bare (mapped_forest m id at f) ≡ relabelled_forest bare f
bare_of_forest m id at none = refl
bare_of_forest m id at (tree l c r) =
    let bytes = bytes_from at record { label = l; children = c } in
    λ i. tree (bare_of_label m id bytes l i) (bare_of_forest m id (at + length (own_text l)) c i) (bare_of_forest m id bytes.end r i)

-- the places change nothing else
pub bare_of_mapped : (m : Mapping) (id at : ℕ) (t : Tree) → relabelled bare (mapped_tree m id at t) ≡ relabelled bare t
bare_of_mapped m id at t = λ i. record { label = bare_of_label m id (bytes_from at t) t.label i; children = bare_of_forest m id (at + length (own_text t.label)) t.children i }

pub forest_mapped : (m : Mapping) (id at : ℕ) (ts : List Tree) → forest (mapped_trees m id at ts) ≡ mapped_forest m id at (forest ts)
forest_mapped m id at [] = refl
forest_mapped m id at (t ∷ ts) = ap (λ f. tree (mapped_label m id (bytes_from at t) t.label) (mapped_forest m id (at + length (own_text t.label)) t.children) f) (forest_mapped m id (at + length (text t)) ts)

-- an inner node, after its children get their places
pub mapped_inner : (m : Mapping) (id at : ℕ) (span : SpanParts) (a : Inside) (k : SyntaxKind) (n : ℕ) (b : Box InnerNode Global) (t : Tree) (new : InnerNode) (ws : List WarningText) → a.node ≡ Inner k n b → tree_of a ≡ t
    → span ≡ (mapped_label m id (bytes_from at t) t.label).span → new.upper ≡ span.low
    → ws ≡ map (mapped_warning m (interval at (at + length (text_of_all b.value.children.items)))) (shown_warnings b.value.extras.warnings) → new.children.items ≡ mapped_trees m id at b.value.children.items
    → record { label = record { span = span; warnings = ws; content = AsInner k new.upper }; children = forest new.children.items } ≡ mapped_tree m id at t
mapped_inner m id at span a k n b t new ws is view place upper warned below =
    let whole : tree_of record { node = Inner k n b; span = a.span } ≡ t = sym (ap (λ n. tree_of record { node = n; span = a.span }) is) ∙ view in
    let here : ws ≡ map (mapped_warning m (bytes_from at t)) (shown_warnings b.value.extras.warnings) = warned ∙ ap (λ u. map (mapped_warning m (bytes_from at u)) (shown_warnings b.value.extras.warnings)) whole in
    let start : at ≡ at + 0 = omega arith in
    (λ i. record { label = record { span = place i; warnings = here i; content = AsInner k ((upper ∙ ap (λ s. s.low) place) i) }; children = (ap forest below ∙ (forest_mapped m id at b.value.children.items ∙ ap (λ n. mapped_forest m id n (forest b.value.children.items)) start)) i })
    ∙ ap (λ u. record { label = record { span = (mapped_label m id (bytes_from at t) t.label).span; warnings = map (mapped_warning m (bytes_from at t)) u.label.warnings; content = mapped_content m (bytes_from at t) (mapped_label m id (bytes_from at t) t.label).span.low u.label.content }; children = mapped_forest m id (at + length (own_text u.label)) u.children }) whole

-- the trees before a place have their places, and those from it on are to get them
abbrev pub so_far : Mapping → ℕ → ℕ → ℕ → List Tree → List Tree
so_far m id at i ts = take i ts ++ mapped_trees m id at (drop i ts)

next : (m : Mapping) (id at : ℕ) (ts : List Tree) (i : ℕ) (u d : Tree) → i < length ts → u ≡ mapped_tree m id at (get_or ts i d)
    → so_far m id (at + length (text (get_or ts i d))) (suc i) (set ts i u) ≡ so_far m id at i ts
next m id at [] i u d h e = absurd (omega arith)
next m id at (t ∷ ts) zero u d h e = ap (λ v. v ∷ mapped_trees m id (at + length (text t)) ts) e
next m id at (t ∷ ts) (suc i) u d h e = ap (λ vs. t ∷ vs) (next m id at ts i u d (omega arith) e)

-- one more tree gets its places
pub mapped_next : (m : Mapping) (id at : ℕ) (ts : List Tree) (i : ℕ) (u d : Tree) → i < length ts → u ≡ mapped_tree m id at (get_or ts i d)
    → so_far m id (at + length (text (get_or ts i d))) (i + 1) (set ts i u) ≡ so_far m id at i ts
mapped_next m id at ts i u d h e = rw add-one (next m id at ts i u d h e)

-- all trees have their places
pub mapped_all : (m : Mapping) (id at : ℕ) (ts : List Tree) (i : ℕ) → length ts ≤ i → so_far m id at i ts ≡ ts
mapped_all m id at [] zero h = refl
mapped_all m id at [] (suc i) h = refl
mapped_all m id at (t ∷ ts) zero h = absurd (omega arith)
mapped_all m id at (t ∷ ts) (suc i) h = ap (λ vs. t ∷ vs) (mapped_all m id at ts i (omega arith))

-- the length of the text from a place on
pub length_from : (ts : List Tree) (i : ℕ) (d : Tree) → i < length ts → length (text_of_all (drop i ts)) ≡ length (text (get_or ts i d)) + length (text_of_all (drop (i + 1) ts))
length_from ts i d h = ap (λ us. length (text_of_all us)) (drop_next ts i d h) ∙ length-text_of_all-cons (get_or ts i d) (drop (i + 1) ts)

none_made : (s e : ℕ) → ¬ ((s < e) × (s < 2 ^ 32 - 1)) → None ≡ part_between s e
none_made s e h = grind (arith, nat_tests)

some_made : (s e : ℕ) → s < e → s < 2 ^ 32 - 1 → Some (interval s (cut_sub_end e)) ≡ part_between s e
some_made s e some small = grind (arith, nat_tests)

pub part_made : (answer : Option (Range ℕ)) (s e : ℕ) → MakesSubRange answer s e → answer ≡ part_between s e
part_made None s e h = none_made s e h
part_made (Some part) s e h = ap (λ r. Some r) h.1 ∙ some_made s e h.0.0 h.0.1
