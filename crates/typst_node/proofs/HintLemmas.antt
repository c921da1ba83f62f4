-- How hints are added.
use Rattle.std.proofs.Common.{◌≡◌, ℕ, zero, suc, ◌<◌, List, [], ◌∷◌, ◌++◌, length, map, get_or, refl, sym, ap, ◌∙◌, arith, append_assoc, length-append, string_bytes, Vec, Global}
use Rattle.std.proofs.Math.ListN.{set}
use Rattle.std.proofs.lemmas.List.{map-append, reverse-append}
use Rattle.typst_base.specs.Span.{SpanParts}
use Rattle.typst_node.specs.Tree.{HintText, WarningText, Content, AsLeaf, AsError, AsInner, Forest, Tree}
use Rattle.typst_node.specs.Hints.{hint_one, hint_outermost, hinted, CanHint}
use Rattle.typst_node.specs.View.{hint_text, warning_text, shown_warnings}
use Rattle.typst_node.specs.declared.node.Hint.{Hint}
use Rattle.typst_node.specs.declared.node.Warning.{Warning}

abbrev tree_with : SpanParts → List WarningText → Content → Forest → Tree
tree_with span ws content below = record { label = record { span = span; warnings = ws; content = content }; children = below }

hinted_twice : (a b : List HintText) (s : SpanParts) (ws : List WarningText) (c : Content) (f : Forest)
    → hinted b (hinted a (tree_with s ws c f)) ≡ hinted (a ++ b) (tree_with s ws c f)
hinted_twice a b s [] (AsLeaf kind text) f = refl
hinted_twice a b s [] (AsError text message hints) f = ap (λ hs. tree_with s [] (AsError text message hs) f) (append_assoc hints a b)
hinted_twice a b s [] (AsInner kind bound) f = refl
hinted_twice a b s (w ∷ ws) c f = ap (λ hs. tree_with s (record { sub_range = w.sub_range; message = w.message; hints = hs } ∷ ws) c f) (append_assoc w.hints a b)

-- hints that are added one after the other
pub hinted_append : (a b : List HintText) (t : Tree) → hinted b (hinted a t) ≡ hinted (a ++ b) t
hinted_append a b t = hinted_twice a b t.label.span t.label.warnings t.label.content t.children

can_hint_with : (more : List HintText) (s : SpanParts) (ws : List WarningText) (c : Content) (f : Forest)
    → CanHint (tree_with s ws c f).label → CanHint (hinted more (tree_with s ws c f)).label
can_hint_with more s [] (AsLeaf kind text) f h = h
can_hint_with more s [] (AsError text message hints) f h = h
can_hint_with more s [] (AsInner kind bound) f h = h
can_hint_with more s (w ∷ ws) c f h = h

pub can_hint_again : (more : List HintText) (t : Tree) → CanHint t.label → CanHint (hinted more t).label
can_hint_again more t h = can_hint_with more t.label.span t.label.warnings t.label.content t.children h

hint_outermost-append : (more : List HintText) (xs ys : List WarningText) → 0 < length xs → hint_outermost more (xs ++ ys) ≡ hint_outermost more xs ++ ys
hint_outermost-append more [] ys h = absurd (omega arith)
hint_outermost-append more (x ∷ xs) ys h = refl

shown-cons : (x : Warning) (xs : List Warning) → shown_warnings (x ∷ xs) ≡ shown_warnings xs ++ (warning_text x ∷ [])
shown-cons x xs = reverse-append (warning_text x ∷ []) (map warning_text xs)

some_shown : (x : Warning) (xs : List Warning) → 0 < length (shown_warnings (x ∷ xs))
some_shown x xs = omega (arith, ap length (shown-cons x xs), length-append (shown_warnings xs) (warning_text x ∷ []))

-- the outermost warning is the last one that is kept
pub shown_set_last : (ws : List Warning) (i : ℕ) (w d : Warning) (more : List HintText) → suc i ≡ length ws → warning_text w ≡ hint_one more (warning_text (get_or ws i d))
    → shown_warnings (set ws i w) ≡ hint_outermost more (shown_warnings ws)
shown_set_last [] i w d more last e = absurd (omega arith)
shown_set_last (x ∷ []) zero w d more last e = ap (λ v. v ∷ []) e
shown_set_last (x ∷ []) (suc i) w d more last e = absurd (omega arith)
shown_set_last (x ∷ (y ∷ ys)) zero w d more last e = absurd (omega arith)
shown_set_last (x ∷ (y ∷ ys)) (suc i) w d more last e =
    shown-cons x (set (y ∷ ys) i w) ∙ ap (λ s. s ++ (warning_text x ∷ [])) (shown_set_last (y ∷ ys) i w d more (omega arith) e)
    ∙ sym (hint_outermost-append more (shown_warnings (y ∷ ys)) (warning_text x ∷ []) (some_shown y ys)) ∙ ap (hint_outermost more) (sym (shown-cons x (y ∷ ys)))

-- a warning that gets one more hint
pub pushed_hint : (w : Warning) (hints : Vec Hint Global) (h : Hint) → hints.items ≡ w.hints.items ++ (h ∷ [])
    → warning_text record { sub_range = w.sub_range; message = w.message; hints = hints } ≡ hint_one (hint_text h ∷ []) (warning_text w)
pushed_hint w hints h e = ap (λ hs. record { sub_range = w.sub_range; message = string_bytes w.message; hints = hs }) (ap (map hint_text) e ∙ map-append hint_text w.hints.items (h ∷ []))

-- a warning whose list of hints holds the same
pub same_hints : (w : Warning) (hints : Vec Hint Global) → hints.items ≡ w.hints.items → warning_text record { sub_range = w.sub_range; message = w.message; hints = hints } ≡ warning_text w
same_hints w hints e = ap (λ hs. record { sub_range = w.sub_range; message = string_bytes w.message; hints = map hint_text hs }) e
