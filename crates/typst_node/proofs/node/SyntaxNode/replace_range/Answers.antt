use Rattle.std.proofs.Common.{◌≡◌, ◌+◌, ◌≤◌, List, [], length, map, refl, sym, ap, subst, ◌∙◌, arith, rules, None}
use Rattle.std.specs.List.{splice}
use Rattle.std.specs.Box.{with_value}
use Rattle.std.proofs.lemmas.Result.{IfOk-weaker}
use Rattle.typst_node.specs.View.{tree_of}
use Rattle.typst_node.specs.declared.node.Node.TheVariants.{Inner}
use Rattle.typst_node.specs.Tree.{Tree, trees, forest}
use Rattle.typst_node.specs.Labels.{number, bound}
use Rattle.typst_node.specs.Plain.{plain}
use Rattle.typst_node.specs.PlainEdit.{spliced, FitsInner}
use Rattle.typst_node.specs.Edit.{IsNumberedOrUnfiled}
use Rattle.typst_node.specs.Window.{Site, site_of, site_among}
use Rattle.typst_node.specs.Renumbering.{IsRenumbering}
use Rattle.typst_node.specs.FirstWindow.{HasNoFirst}
use Rattle.std.specs.Prelude.{IfOk, IfSome}
use Rattle.typst_node.specs.Moves.{AreNoted}
use Rattle.typst_node.specs.Growth.{ChildrenCanGrow, GrowWithin}
use Rattle.typst_node.specs.EditBelow.{AreReplaced, all_at}
use Rattle.typst_node.proofs.Trees.{trees_of_forest}
use Rattle.typst_node.proofs.Trimmed.{trimmed_plain, within_same}
use Rattle.typst_node.proofs.WholeTreeEdited.{children_can_grow}
use Rattle.typst_node.proofs.Edited.{inner_kids, inner_forest, inner_bound, inner_number, inner_file, is_inner, if_numbered, inner_label, inner_edited, numbered_after, none_file, file_none, or_left}
use Rattle.typst_node.proofs.node.SyntaxNode.replace_range.Goals as goal

pub replace-requires-clause-number : goal.replace-requires-clause-number
replace-requires-clause-number c =
    let kids : trees c.args.self.now.children ≡ c.in-Inner.inner.value.children.items = inner_kids c.self.inside _ _ c.in-Inner.inner c.args.self.now c.in-Inner.is c.self.view_is in
    let range : (c.args.edit.from ≤ c.args.edit.to) × (c.args.edit.to ≤ length c.deref.result.now.children.items) = search rules in
    let fit : FitsInner [] c.args.edit.from c.args.edit.to c.args.self.now =
    (tt, is_inner c.self.inside _ _ c.in-Inner.inner c.args.self.now c.in-Inner.is c.self.view_is, range.0, omega (arith, range.1, ap length kids, ap (λ b. length b.children.items) c.deref.ensures)) in
    let numbered : IsNumberedOrUnfiled [] c.args.self.now = c.requires.numbered fit in
    search (rules, numbered)

pub replace-requires-clause-growth : goal.replace-requires-clause-growth
replace-requires-clause-growth c =
    let kids : trees c.args.self.now.children ≡ c.deref_mut.result.now.children.items = inner_kids c.self.inside _ _ c.in-Inner.inner c.args.self.now c.in-Inner.is c.self.view_is ∙ sym (ap (λ b. b.children.items) c.deref_mut.ensures.value) in
    subst (ChildrenCanGrow c.args.edit.growth) kids (children_can_grow c.args.edit.growth c.args.self.now c.requires.growth)

pub replace-requires-clause-upper : goal.replace-requires-clause-upper
replace-requires-clause-upper c =
    let kids : trees c.args.self.now.children ≡ c.in-Inner.inner.value.children.items = inner_kids c.self.inside _ _ c.in-Inner.inner c.args.self.now c.in-Inner.is c.self.view_is in
    let range : (c.args.edit.from ≤ c.args.edit.to) × (c.args.edit.to ≤ length c.deref.result.now.children.items) = search rules in
    let fit : FitsInner [] c.args.edit.from c.args.edit.to c.args.self.now =
    (tt, is_inner c.self.inside _ _ c.in-Inner.inner c.args.self.now c.in-Inner.is c.self.view_is, range.0, omega (arith, range.1, ap length kids, ap (λ b. length b.children.items) c.deref.ensures)) in
    let numbered : IsNumberedOrUnfiled [] c.args.self.now = c.requires.numbered fit in
    search (rules, numbered)

pub replace-requires-clause-within : goal.replace-requires-clause-within
replace-requires-clause-within c =
    let here : trees c.args.self.now.children ≡ c.in-Inner.inner.value.children.items = inner_kids c.self.inside _ _ c.in-Inner.inner c.args.self.now c.in-Inner.is c.self.view_is in
    let range : (c.args.edit.from ≤ c.args.edit.to) × (c.args.edit.to ≤ length c.deref.result.now.children.items) = search rules in
    let fit : FitsInner [] c.args.edit.from c.args.edit.to c.args.self.now =
    (tt, is_inner c.self.inside _ _ c.in-Inner.inner c.args.self.now c.in-Inner.is c.self.view_is, range.0, omega (arith, range.1, ap length here, ap (λ b. length b.children.items) c.deref.ensures)) in
    let num : number c.args.self.now.label ≡ c.number-number.result = inner_number c.self.inside _ _ c.in-Inner.inner c.args.self.now c.in-Inner.is c.self.view_is ∙ sym c.number-number.ensures.is in
    let up : bound c.args.self.now.label ≡ c.deref_mut.result.now.upper = inner_bound c.self.inside _ _ c.in-Inner.inner c.args.self.now c.in-Inner.is c.self.view_is ∙ sym (ap (λ b. b.upper) c.deref_mut.ensures.value) in
    let kids : c.args.self.now.children ≡ forest c.deref_mut.result.now.children.items = inner_forest c.self.inside _ _ c.in-Inner.inner c.args.self.now c.in-Inner.is c.self.view_is ∙ sym (ap (λ b. forest b.children.items) c.deref_mut.ensures.value) in
    let file : c.args.self.now.label.span.file ≡ c.self.inside.span.file = inner_file c.self.inside _ _ c.in-Inner.inner c.args.self.now c.in-Inner.is c.self.view_is in
    if_numbered c.id-id.result c.args.self.now c.number-number.result c.deref_mut.result.now.upper (forest c.deref_mut.result.now.children.items) (rw file c.id-id.ensures) (c.requires.numbered fit) num up kids

pub returns-then-not-holds-clause-fits : goal.returns-then-not-holds-clause-fits
returns-then-not-holds-clause-fits c =
    let kids : trees c.args.self.now.children ≡ c.in-Inner.inner.value.children.items = inner_kids c.self.inside _ _ c.in-Inner.inner c.args.self.now c.in-Inner.is c.self.view_is in
    let out : ¬ ((c.args.edit.from ≤ c.args.edit.to) × (c.args.edit.to ≤ length c.deref.result.now.children.items)) = search rules in
    ((λ no. cc), (λ fit. absurd (out (fit.2, omega (arith, fit.3, ap length kids, ap (λ b. length b.children.items) c.deref.ensures)))))

pub returns-in-Inner-clause-fits : goal.returns-in-Inner-clause-fits
returns-in-Inner-clause-fits c =
    let kids : trees c.args.self.now.children ≡ c.in-Inner.inner.value.children.items = inner_kids c.self.inside _ _ c.in-Inner.inner c.args.self.now c.in-Inner.is c.self.view_is in
    let range : (c.args.edit.from ≤ c.args.edit.to) × (c.args.edit.to ≤ length c.deref.result.now.children.items) = search rules in
    let fit : FitsInner [] c.args.edit.from c.args.edit.to c.args.self.now =
    (tt, is_inner c.self.inside _ _ c.in-Inner.inner c.args.self.now c.in-Inner.is c.self.view_is, range.0, omega (arith, range.1, ap length kids, ap (λ b. length b.children.items) c.deref.ensures)) in
    ((λ some. fit), (λ inner. refl))

pub returns-in-Inner-clause-made : goal.returns-in-Inner-clause-made
returns-in-Inner-clause-made c =
    let here : trees c.args.self.now.children ≡ c.in-Inner.inner.value.children.items = inner_kids c.self.inside _ _ c.in-Inner.inner c.args.self.now c.in-Inner.is c.self.view_is in
    let range : (c.args.edit.from ≤ c.args.edit.to) × (c.args.edit.to ≤ length c.deref.result.now.children.items) = search rules in
    let fit : FitsInner [] c.args.edit.from c.args.edit.to c.args.self.now =
    (tt, is_inner c.self.inside _ _ c.in-Inner.inner c.args.self.now c.in-Inner.is c.self.view_is, range.0, omega (arith, range.1, ap length here, ap (λ b. length b.children.items) c.deref.ensures)) in
    let t = c.args.self.now in
    let inner = is_inner c.self.inside _ _ c.in-Inner.inner t c.in-Inner.is c.self.view_is in
    let items : trees t.children ≡ c.in-Inner.inner.value.children.items = inner_kids c.self.inside _ _ c.in-Inner.inner t c.in-Inner.is c.self.view_is in
    let kids : trees t.children ≡ c.deref_mut.result.now.children.items = items ∙ sym (ap (λ b. b.children.items) c.deref_mut.ensures.value) in
    let num : number t.label ≡ c.number-number.result = inner_number c.self.inside _ _ c.in-Inner.inner t c.in-Inner.is c.self.view_is ∙ sym c.number-number.ensures.is in
    let up : bound t.label ≡ c.deref_mut.result.now.upper = inner_bound c.self.inside _ _ c.in-Inner.inner t c.in-Inner.is c.self.view_is ∙ sym (ap (λ b. b.upper) c.deref_mut.ensures.value) in
    let file : t.label.span.file ≡ c.self.inside.span.file = inner_file c.self.inside _ _ c.in-Inner.inner t c.in-Inner.is c.self.view_is in
    let id = rw (← file) at c.id-id.ensures in
    let a = c.args.edit.from in
    let b = c.args.edit.to in
    let ys = c.args.edit.others.items in
    let s = site_of a b ys t in
    let g = c.args.edit.growth in
    let result = c.replace.result in
    let new = c.replace.new.self in
    let into : (ts : List Tree) → GrowWithin g c.deref_mut.result.now.children.items ts → GrowWithin g (trees t.children) ts = λ ts. subst (λ olds. GrowWithin g olds ts) (sym kids) in
    let from : (ts : List Tree) → GrowWithin g (trees t.children) ts → GrowWithin g c.deref_mut.result.now.children.items ts = λ ts. subst (λ olds. GrowWithin g olds ts) kids in
    let at : site_among (c.number-number.result + 1) c.deref_mut.result.now.upper a b ys c.deref_mut.result.now.children.items ≡ s = λ i. site_among (sym num i + 1) (sym up i) a b ys (sym kids i) in
    let e : AreReplaced s c.args.edit.growth c.id-id.result c.deref_mut.result.now new c.replace.new.len result = subst (λ (z : Site). AreReplaced z c.args.edit.growth c.id-id.result c.deref_mut.result.now new c.replace.new.len result) at c.replace.ensures.made in
    let numbered = c.requires.numbered fit in
    let alike : map plain (all_at s) ≡ map plain (spliced a b ys t) = trimmed_plain (trees t.children) ys a b fit.2 fit.3 in
    let label = inner_label c.self.inside _ _ c.in-Inner.inner t c.in-Inner.is c.self.view_is new
    (e.upper ∙ ap (λ b. b.upper) c.deref_mut.ensures.value) (e.warnings ∙ ap (λ b. b.extras.warnings) c.deref_mut.ensures.value) in
    record {
      unnumberable = (
        λ h.
            let r = e.unnumberable.0 h in (
              within_same g (trees t.children) (all_at s) (spliced a b ys t) alike (into (all_at s) r.0),
              or_left (c.id-id.result ≡ None) (t.label.span.file ≡ 0) (HasNoFirst s) (none_file c.id-id.result t.label.span.file id) r.1,
            ),
        λ h. e.unnumberable.1 (
          from (all_at s) (within_same g (trees t.children) (spliced a b ys t) (all_at s) (sym alike) h.0),
          or_left (t.label.span.file ≡ 0) (c.id-id.result ≡ None) (HasNoFirst s) (file_none c.id-id.result t.label.span.file id) h.1,
        ),
      );
      overflow = (
        λ h fits. e.overflow.0 h (from (all_at s) (within_same g (trees t.children) (spliced a b ys t) (all_at s) (sym alike) fits)),
        λ n. e.overflow.1 (λ fits. n (within_same g (trees t.children) (all_at s) (spliced a b ys t) alike (into (all_at s) fits))),
      );
      ok = IfOk-weaker result _ _ (λ r h. coe 0 1 (i. IsRenumbering s r (sym (trees_of_forest new.children.items) i)) h) e.ok;
      label = label;
      plain = IfOk-weaker result _ _
          (λ r h. inner_edited c.self.inside _ _ c.in-Inner.inner t c.in-Inner.is c.self.view_is new a b ys
          (e.upper ∙ ap (λ b. b.upper) c.deref_mut.ensures.value) (e.warnings ∙ ap (λ b. b.extras.warnings) c.deref_mut.ensures.value)
          (h ∙ alike ∙ ap (λ ts. map plain (splice ts a b ys)) items)) e.plain;
      numbered = IfOk-weaker result _ _
          (λ r h. numbered_after c.id-id.result t (tree_of record { node = Inner _ c.in-Inner.len (with_value c.in-Inner.inner new); span = c.self.inside.span }) (number t.label) (bound t.label)
          id numbered refl refl label h) e.within;
    }

pub returns-in-Inner-clause-noted : goal.returns-in-Inner-clause-noted
returns-in-Inner-clause-noted c =
    let t = c.args.self.now in
    let items : trees t.children ≡ c.in-Inner.inner.value.children.items = inner_kids c.self.inside _ _ c.in-Inner.inner t c.in-Inner.is c.self.view_is in
    let kids : trees t.children ≡ c.deref_mut.result.now.children.items = items ∙ sym (ap (λ b. b.children.items) c.deref_mut.ensures.value) in
    let num : number t.label ≡ c.number-number.result = inner_number c.self.inside _ _ c.in-Inner.inner t c.in-Inner.is c.self.view_is ∙ sym c.number-number.ensures.is in
    let up : bound t.label ≡ c.deref_mut.result.now.upper = inner_bound c.self.inside _ _ c.in-Inner.inner t c.in-Inner.is c.self.view_is ∙ sym (ap (λ b. b.upper) c.deref_mut.ensures.value) in
    let a = c.args.edit.from in
    let b = c.args.edit.to in
    let ys = c.args.edit.others.items in
    let at : site_among (c.number-number.result + 1) c.deref_mut.result.now.upper a b ys c.deref_mut.result.now.children.items ≡ site_of a b ys t = λ i. site_among (sym num i + 1) (sym up i) a b ys (sym kids i) in
    subst (λ (s : Site). IfOk c.replace.result (λ r. IfSome c.replace.new.noted (AreNoted s r.window))) at c.replace.ensures.noted
