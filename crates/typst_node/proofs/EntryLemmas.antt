-- The lists of diagnostics are what the nodes report, and trees with one plain tree have the same.
use Rattle.std.proofs.Common.{◌≡◌, ℕ, ◌+◌, List, [], ◌∷◌, ◌++◌, map, Option, Some, None, refl, sym, ap, ◌∙◌, slice_get}
use Rattle.std.specs.List.{flat_map}
use Rattle.std.specs.Option.{option_map}
use Rattle.std.proofs.lemmas.List.Folds.{flat_map-map}
use Rattle.std.proofs.lemmas.Option.{slice_get-map}
use Rattle.typst_base.specs.Span.{SpanParts}
use Rattle.typst_node.specs.Tree.{WarningText, Content, AsLeaf, AsError, AsInner, Label, Forest, none, tree, Tree, trees}
use Rattle.typst_node.specs.Preorder.{nodes, paths, paths_from, subtrees, at, if_some}
use Rattle.typst_node.specs.Plain.{unbounded, plain_forest, plain}
use Rattle.typst_node.specs.Diagnostics.{errors_at, warnings_at, error_report, error_reports, warning_report, errors_of, warnings_of}
use Rattle.typst_node.specs.Entries.{warning_entry, content_entries, error_there, warnings_there, error_entries, warning_entries, span_there, told}
use Rattle.typst_node.proofs.PathsInPreorder.{at-paths, labels-subtrees}

flat_same : {A B : Type 0} (f g : A → List B) → ((x : A) → f x ≡ g x) → (xs : List A) → flat_map f xs ≡ flat_map g xs
flat_same f g same [] = refl
flat_same f g same (x ∷ xs) = λ i. same x i ++ flat_same f g same xs i

-- what is listed of the node at a path, where there is one
abbrev if_there : {X : Type 0} → (Label → List X) → Option Tree → List X
if_there list None = []
if_there list (Some t) = list t.label

-- over the paths it is listed as over the nodes
over_nodes : {X : Type 0} (list : Label → List X) (t : Tree) → flat_map (λ path. if_there list (at path t)) (paths t) ≡ flat_map list (nodes t)
over_nodes list t =
    sym (flat_map-map (if_there list) (λ path. at path t) (paths t))
    ∙ ap (flat_map (if_there list)) (at-paths t)
    ∙ flat_map-map (if_there list) Some (subtrees t)
    ∙ sym (flat_map-map list (λ (s : Tree). s.label) (subtrees t))
    ∙ ap (flat_map list) (labels-subtrees t)

map_flat : {A B C : Type 0} (g : B → C) (f : A → List B) (xs : List A) → map g (flat_map f xs) ≡ flat_map (λ x. map g (f x)) xs
map_flat g f [] = refl
map_flat g f (x ∷ xs) = map_joined g (f x) (flat_map f xs) ∙ ap (λ ys. map g (f x) ++ ys) (map_flat g f xs)
  where
    map_joined : {B C : Type 0} (g : B → C) (xs ys : List B) → map g (xs ++ ys) ≡ map g xs ++ map g ys
    map_joined g [] ys = refl
    map_joined g (x ∷ xs) ys = ap (λ zs. g x ∷ zs) (map_joined g xs ys)

told_content : (t : Tree) (path : List ℕ) (span : SpanParts) (c : Content) → span_there (at path t) ≡ span → map (told t) (content_entries path c) ≡ error_reports span c
told_content t path span (AsLeaf kind text) s = refl
told_content t path span (AsError text message hints) s = λ i. error_report (s i) message hints ∷ []
told_content t path span (AsInner kind bound) s = refl

told_error : (t : Tree) (path : List ℕ) (o : Option Tree) → at path t ≡ o → map (told t) (error_there path o) ≡ if_there errors_at o
told_error t path None e = refl
told_error t path (Some u) e = told_content t path u.label.span u.label.content (ap span_there e)

told_warnings : (t : Tree) (path : List ℕ) (span : SpanParts) → span_there (at path t) ≡ span → (ws : List WarningText) → map (told t) (map (warning_entry path) ws) ≡ map (warning_report span) ws
told_warnings t path span s [] = refl
told_warnings t path span s (w ∷ ws) = λ i. warning_report (s i) w ∷ told_warnings t path span s ws i

told_warned : (t : Tree) (path : List ℕ) (o : Option Tree) → at path t ≡ o → map (told t) (warnings_there path o) ≡ if_there warnings_at o
told_warned t path None e = refl
told_warned t path (Some u) e = told_warnings t path u.label.span (ap span_there e) u.label.warnings

-- what the entries tell is what the nodes report
pub errors_told_of : (t : Tree) → errors_of t ≡ map (told t) (error_entries t)
errors_told_of t = sym (map_flat (told t) (λ path. error_there path (at path t)) (paths t)
    ∙ flat_same _ _ (λ path. told_error t path (at path t) refl) (paths t)
    ∙ over_nodes errors_at t)

pub warnings_told_of : (t : Tree) → warnings_of t ≡ map (told t) (warning_entries t)
warnings_told_of t = sym (map_flat (told t) (λ path. warnings_there path (at path t)) (paths t)
    ∙ flat_same _ _ (λ path. told_warned t path (at path t) refl) (paths t)
    ∙ over_nodes warnings_at t)

-- ---- trees with one plain tree

paths_plain_from : (i : ℕ) (f : Forest) → paths_from i (plain_forest f) ≡ paths_from i f
paths_plain_from i none = refl
paths_plain_from i (tree l c r) = λ k. map (λ path. i ∷ path) ([] ∷ paths_plain_from 0 c k) ++ paths_plain_from (i + 1) r k

pub paths_plain : (t : Tree) → paths (plain t) ≡ paths t
paths_plain t = ap (λ ps. [] ∷ ps) (paths_plain_from 0 t.children)

trees_plain : (f : Forest) → trees (plain_forest f) ≡ map plain (trees f)
trees_plain none = refl
trees_plain (tree l c r) = ap (λ ts. plain (record { label = l; children = c }) ∷ ts) (trees_plain r)

below_plain : (at_path : Tree → Option Tree) → ((t : Tree) → at_path (plain t) ≡ option_map plain (at_path t)) → (o : Option Tree) → if_some at_path (option_map plain o) ≡ option_map plain (if_some at_path o)
below_plain at_path same None = refl
below_plain at_path same (Some u) = same u

pub at_plain : (path : List ℕ) (t : Tree) → at path (plain t) ≡ option_map plain (at path t)
at_plain [] t = refl
at_plain (i ∷ path) t =
    ap (λ ts. if_some (at path) (slice_get ts i)) (trees_plain t.children)
    ∙ ap (if_some (at path)) (slice_get-map plain (trees t.children) i)
    ∙ below_plain (at path) (at_plain path) (slice_get (trees t.children) i)

content_unbounded : (path : List ℕ) (c : Content) → content_entries path (unbounded c) ≡ content_entries path c
content_unbounded path (AsLeaf kind text) = refl
content_unbounded path (AsError text message hints) = refl
content_unbounded path (AsInner kind bound) = refl

error_plain : (path : List ℕ) (o : Option Tree) → error_there path (option_map plain o) ≡ error_there path o
error_plain path None = refl
error_plain path (Some u) = content_unbounded path u.label.content

warned_plain : (path : List ℕ) (o : Option Tree) → warnings_there path (option_map plain o) ≡ warnings_there path o
warned_plain path None = refl
warned_plain path (Some u) = refl

error_entries_plain : (t : Tree) → error_entries (plain t) ≡ error_entries t
error_entries_plain t =
    flat_same _ (λ path. error_there path (at path t)) (λ path. ap (error_there path) (at_plain path t) ∙ error_plain path (at path t)) (paths (plain t))
    ∙ ap (flat_map (λ path. error_there path (at path t))) (paths_plain t)

warning_entries_plain : (t : Tree) → warning_entries (plain t) ≡ warning_entries t
warning_entries_plain t =
    flat_same _ (λ path. warnings_there path (at path t)) (λ path. ap (warnings_there path) (at_plain path t) ∙ warned_plain path (at path t)) (paths (plain t))
    ∙ ap (flat_map (λ path. warnings_there path (at path t))) (paths_plain t)

-- they have the same lists of diagnostics
pub error_entries_alike : (t u : Tree) → plain t ≡ plain u → error_entries t ≡ error_entries u
error_entries_alike t u same = sym (error_entries_plain t) ∙ (ap error_entries same ∙ error_entries_plain u)

pub warning_entries_alike : (t u : Tree) → plain t ≡ plain u → warning_entries t ≡ warning_entries u
warning_entries_alike t u same = sym (warning_entries_plain t) ∙ (ap warning_entries same ∙ warning_entries_plain u)
