-- A search by a number on its way down from a root, with where the node's text begins.
use Rattle.std.proofs.Common.{◌≡◌, ◌∙◌, ℕ, ◌+◌, ◌<◌, ◌≤◌, ◌^◌, length, take, List, [], ◌∷◌, Option, Some, None, get_or, ap, sym, refl, subst, arith, zero, suc}
use Rattle.std.specs.Prelude.{slice_get}
use Rattle.std.specs.Option.{option_map}
use Rattle.std.specs.declared.ops.Range.{Range}
use Rattle.typst_node.specs.Tree.{Tree, trees, IsInner}
use Rattle.typst_node.specs.Preorder.{at}
use Rattle.typst_node.specs.Count.{count}
use Rattle.typst_node.specs.Text.{text, text_of_all, offset}
use Rattle.typst_node.specs.Labels.{number}
use Rattle.typst_node.specs.Numbered.{IsNumbered}
use Rattle.typst_node.specs.Paths.{no_tree, tree_at}
use Rattle.typst_node.proofs.PathSteps.{if_some_value}
use Rattle.typst_linked.specs.Place.{Place, subtree, below}
use Rattle.typst_node.specs.BinaryDigits.{binary_digits}
use Rattle.typst_linked.specs.Search.{with_number}
use Rattle.typst_linked.specs.Linked.{IsAt}
use Rattle.typst_linked.specs.DiagPlaces.{node_range}
use Rattle.typst_node.proofs.Offsets.{offset-root, length-text, text_of_all-take}
use Rattle.typst_linked.specs.Floor.{NumbersRise, AreAbove}
use Rattle.typst_linked.specs.Place.{child_place}
use Rattle.typst_linked.proofs.Child.{child_is_at}
use Rattle.typst_linked.proofs.Searching.{Searching, searching_first, searching_below, searching_found, searching_here, searching_none, searching_room, next_turn}

-- the place of a root
abbrev pub top : Tree → Place
top root = record { root = root; path = [] }

-- The search is at this place, whose node's text begins here.
pub record Descent (root node : Tree) (begin wanted looks : ℕ) : Type 0 where
  pub here : Place
  pub search : Searching binary_digits root (top root) here wanted looks
  pub stands : IsAt here node begin

get_or_there : (ts : List Tree) (i : ℕ) (c : Tree) → slice_get ts i ≡ Some c → get_or ts i no_tree ≡ c
get_or_there [] i c s = absurd (let s : None ≡ Some c = s in cc)
get_or_there (t ∷ ts) zero c s = let s : Some t ≡ Some c = s in cc
get_or_there (t ∷ ts) (suc i) c s = get_or_there ts i c s

-- the subtree that is read at a path is the one that is there
there : (path : List ℕ) (t m : Tree) → at path t ≡ Some m → tree_at path t ≡ m
there [] t m e = let e : Some t ≡ Some m = e in cc
there (i ∷ path) t m e =
    let x = if_some_value (at path) (slice_get (trees t.children) i) m e in
    ap (tree_at path) (get_or_there (trees t.children) i x.0 x.1) ∙ there path x.0 m x.2

only_path : (root : Tree) (here : Place) (done : List ℕ) (o : Option (List ℕ)) → here ≡ below (top root) done → Some here ≡ option_map (below (top root)) o → o ≡ Some done
only_path root here done None e h = absurd (let h : Some here ≡ None = h in cc)
only_path root here done (Some p) e h =
    let h : Some here ≡ Some (below (top root) p) = h in
    let same : below (top root) done ≡ below (top root) p = sym e ∙ (cc) in
    ap Some (sym (ap (λ (q : Place). q.path) same))

-- the root itself
pub descent_start : (root : Tree) (wanted looks len many n : ℕ) → looks ≡ 1 → n ≡ number root.label → n ≤ wanted → len ≡ length (text root) → len < 2 ^ 64 → many ≡ count root → many < 2 ^ 64
    → (number root.label ≡ n) × Descent root root 0 wanted looks
descent_start root wanted looks len many n l is low long lf all mf = (
  sym is,
  record {
    here = top root;
    search = searching_first binary_digits root (top root) (top root) wanted looks refl l (omega (arith, is));
    stands = record {
      node_is = refl;
      offset_is = sym (offset-root root);
      bare = λ t e. absurd (let no : None ≡ Some t = e in cc);
      within = omega arith;
      fits = omega (arith, long);
      counted = omega (arith, all);
    };
  },
)

-- there is room for the looks at the children
pub descent_room : (root node : Tree) (begin wanted looks : ℕ) (kids : List Tree) → kids ≡ trees node.children → Descent root node begin wanted looks → looks + length kids < 2 ^ 64
descent_room root node begin wanted looks kids hk d =
    let counted : count root < 2 ^ 64 = subst (λ (p : Place). count p.root < 2 ^ 64) d.search.place_is d.stands.counted in
    searching_room binary_digits root node (top root) d.here wanted looks kids refl d.stands.node_is hk counted d.search

-- a child's text ends within a usize
pub descent_fits : (root node c : Tree) (begin wanted looks i b : ℕ) (kids : List Tree) → kids ≡ trees node.children → slice_get kids i ≡ Some c → b ≡ length (text_of_all (take i (trees node.children))) → Descent root node begin wanted looks → begin + b < 2 ^ 64
descent_fits root node c begin wanted looks i b kids hk s e d =
    omega (arith, e, d.stands.within, d.stands.fits, length-text node, text_of_all-take (trees node.children) i)

-- the child where the wanted number may be
pub descent_next : (root node c : Tree) (begin wanted looks looks' i there b : ℕ) (kids : List Tree) → kids ≡ trees node.children → (¬ (IsInner node.label.content) → kids ≡ []) → slice_get kids i ≡ Some c
    → (there ≤ wanted) × ((t : Tree) × (slice_get kids i ≡ Some t) × (number t.label ≡ there)) → (NumbersRise kids → AreAbove kids wanted (i + 1))
    → looks' ≤ looks + binary_digits (length kids) → looks' ≤ looks + length kids → looks < looks' → b ≡ length (text_of_all (take i (trees node.children)))
    → Descent root node begin wanted looks → (number c.label ≡ there) × Descent root c (begin + b) wanted looks'
descent_next root node c begin wanted looks looks' i there b kids hk inner s found later cost few least e d =
    let both : Some c ≡ Some found.1.0 = sym s ∙ found.1.1 in
    let same : c ≡ found.1.0 = cc in
    let s' : slice_get (trees node.children) i ≡ Some c = ap (λ (ks : List Tree). slice_get ks i) (sym hk) ∙ s in (
      ap (λ (t : Tree). number t.label) same ∙ found.1.2,
      record {
        here = child_place d.here i;
        search = (next_turn binary_digits root node (top root) d.here wanted looks looks' i there kids refl d.stands.node_is hk d.search found later cost few least).0;
        stands = child_is_at d.here node c begin (begin + b) i kids d.stands s' hk inner (omega (arith, e));
      },
    )

no_other : (f g : List ℕ → Place) (h : List ℕ → Range ℕ) (o : Option (List ℕ)) → None ≡ option_map f o → (let r : Option (Range ℕ) = None in r) ≡ option_map h o
no_other f g h None e = refl
no_other f g h (Some p) e = absurd (let e : None ≡ Some (f p) = e in cc)

-- no node has a number below the root's
pub descent_below : (root : Tree) (wanted n : ℕ) → n ≡ number root.label → wanted < n → IsNumbered root → (let r : Option (Range ℕ) = None in r) ≡ option_map (λ path. node_range path root) (with_number wanted root)
descent_below root wanted n is l num =
    no_other (below (top root)) (below (top root)) (λ path. node_range path root) (with_number wanted root) (searching_below root (top root) wanted refl (omega (arith, is)) num)

-- no child of the node where the search stands has the number, nor a node below it
pub descent_none : (root node : Tree) (begin wanted looks n : ℕ) (kids : List Tree) → kids ≡ trees node.children → Descent root node begin wanted looks → number node.label ≡ n → (n ≡ wanted → ⊥) → (NumbersRise kids → AreAbove kids wanted 0) → IsNumbered root
    → (let r : Option (Range ℕ) = None in r) ≡ option_map (λ path. node_range path root) (with_number wanted root)
descent_none root node begin wanted looks n kids hk d is ne later num =
    let here = searching_here binary_digits root node (top root) d.here wanted looks refl d.stands.node_is d.search in
    let e : kids ≡ trees d.search.node.children = hk ∙ sym (ap (λ (t : Tree). trees t.children) here) in
    let l = subst (λ (ks : List Tree). NumbersRise ks → AreAbove ks wanted 0) e later in
    no_other (below (top root)) (below (top root)) (λ path. node_range path root) (with_number wanted root)
    (searching_none binary_digits root (top root) d.here wanted looks refl d.search (λ same. ne (sym is ∙ sym (ap (λ (t : Tree). number t.label) here) ∙ same)) l num)

-- the node that was found
pub descent_found : (root node : Tree) (begin wanted looks len : ℕ) (d : Descent root node begin wanted looks) → number node.label ≡ wanted → len ≡ length (text node) → IsNumbered root
    → (let r : Option (Range ℕ) = Some (record { start = begin; end = begin + len }) in r) ≡ option_map (λ path. node_range path root) (with_number wanted root)
descent_found root node begin wanted looks len d is same num =
    let x = d.search in
    let node_here : Some x.node ≡ Some node = sym (ap subtree x.place_is ∙ x.node_is) ∙ d.stands.node_is in
    let nodes : x.node ≡ node = cc in
    let found = searching_found binary_digits root (top root) d.here wanted looks refl x (ap (λ (t : Tree). number t.label) nodes ∙ is) num in
    let path : with_number wanted root ≡ Some x.done = only_path root d.here x.done (with_number wanted root) x.place_is found in
    let start : begin ≡ offset x.done root = d.stands.offset_is ∙ ap (λ (p : Place). offset p.path p.root) x.place_is in
    let long : len ≡ length (text (tree_at x.done root)) = same ∙ ap (λ (t : Tree). length (text t)) (sym nodes ∙ sym (there x.done root x.node x.node_is)) in
    (λ i. Some (record { start = start i; end = start i + long i })) ∙ sym (ap (option_map (λ path. node_range path root)) path)
