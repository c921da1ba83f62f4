use Rattle.std.proofs.Common.{arith, ◌≡◌, ℕ, List, ◌++◌, map, take, drop, length, refl, sym, ap, ◌∙◌, ◌-◌}
use Rattle.std.proofs.lemmas.List.{length-map, map-append, take-append-drop, with_items_is}
use Rattle.std.proofs.lemmas.Slice.{drop-put_mid}
use Rattle.std.proofs.lemmas.Grind.{common_steps}
use borrow.Rule.Slice.PartMut.{put_mid, mid_of, post_of}
use Rattle.typst_node.specs.Plain.{plain}
use Rattle.typst_node.proofs.Plain.{measured_by_plain}
use Rattle.typst_node.proofs.node.InnerNode.renumber.Goals as goal

map_put_mid : {X Y : Type 0} (f : X → Y) (a k : ℕ) (xs ys : List X) → map f ys ≡ map f (mid_of a k xs) → map f (put_mid a k xs ys) ≡ map f xs
map_put_mid f a k xs ys same =
    map-append f (take a xs) (ys ++ post_of a k xs) ∙ ap (λ zs. map f (take a xs) ++ zs) (map-append f ys (post_of a k xs) ∙ ap (λ zs. zs ++ map f (post_of a k xs)) same ∙ sym (map-append f (mid_of a k xs) (post_of a k xs)))
    ∙ sym (map-append f (take a xs) (mid_of a k xs ++ post_of a k xs)) ∙ ap (map f) (ap (λ zs. take a xs ++ zs) (take-append-drop k (drop a xs)) ∙ take-append-drop a xs)

pub returns-clause-measured : goal.returns-clause-measured
returns-clause-measured c =
    let start = c.args.window.start in
    let news = put_mid start (c.args.window.end - start) c.deref_mut.result.now c.number_all.new.nodes in
    let items = c.args.self.now.children.items in
    let same : map plain news ≡ map plain items = map_put_mid plain start (c.args.window.end - start) c.deref_mut.result.now c.number_all.new.nodes c.number_all.ensures.plain ∙ ap (map plain) c.deref_mut.ensures.value in
    let many : length news ≡ c.args.self.now.children.len = omega (arith, sym (length-map news plain) ∙ (ap length same ∙ length-map items plain)) in
    measured_by_plain news items same c.args.self.now _ refl (with_items_is c.args.self.now.children news many) refl refl refl c.requires.measured

pub returns-clause-behind : goal.returns-clause-behind
returns-clause-behind c =
    let start = c.args.window.start in
    let end = c.args.window.end in
    let news = put_mid start (end - start) c.deref_mut.result.now c.number_all.new.nodes in
    let items = c.args.self.now.children.items in
    let same : map plain news ≡ map plain items = map_put_mid plain start (end - start) c.deref_mut.result.now c.number_all.new.nodes c.number_all.ensures.plain ∙ ap (map plain) c.deref_mut.ensures.value in
    let many : length news ≡ c.args.self.now.children.len = omega (arith, sym (length-map news plain) ∙ (ap length same ∙ length-map items plain)) in
    ap (drop end) (with_items_is c.args.self.now.children news many)
    ∙ (drop-put_mid start (end - start) c.deref_mut.result.now c.number_all.new.nodes end (omega arith) (omega arith) (grind (arith, common_steps)) ∙ ap (drop end) c.deref_mut.ensures.value)

pub returns-clause-plain : goal.returns-clause-plain
returns-clause-plain c =
    let start = c.args.window.start in
    let news = put_mid start (c.args.window.end - start) c.deref_mut.result.now c.number_all.new.nodes in
    let items = c.args.self.now.children.items in
    let same : map plain news ≡ map plain items = map_put_mid plain start (c.args.window.end - start) c.deref_mut.result.now c.number_all.new.nodes c.number_all.ensures.plain ∙ ap (map plain) c.deref_mut.ensures.value in
    let many : length news ≡ c.args.self.now.children.len = omega (arith, sym (length-map news plain) ∙ (ap length same ∙ length-map items plain)) in
    ap (map plain) (with_items_is c.args.self.now.children news many) ∙ same
