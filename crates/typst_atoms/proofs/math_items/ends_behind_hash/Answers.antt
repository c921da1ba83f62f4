use Rattle.std.proofs.Common.{◌≡◌, ◌∙◌, ap, not, rules, sym, tests}
use Rattle.std.proofs.lemmas.Iterator.Adapters.{YieldsList-from_rev_slice}
use Rattle.std.proofs.lemmas.Iterator.Search.{find_from_yields_List}
use Rattle.std.specs.Option.{option_copied, option_map_or}
use Rattle.typst_atoms.proofs.Finds.{find_back_is_last}
use Rattle.typst_atoms.proofs.ItemLists.{ends_by_last}
use Rattle.typst_atoms.specs.Classes.{is_arg_kind}
use Rattle.typst_atoms.specs.Kinds.{is_kind}
use Rattle.typst_base.specs.declared.kind.SyntaxKind.TheVariants as kinds
use Rattle.typst_node.specs.Children.{all_in, last_of}
use Rattle.typst_node.specs.Views.{node_kind}
use Rattle.typst_atoms.proofs.math_items.ends_behind_hash.Goals as goal

pub returns-in-Some : goal.returns-in-Some
returns-in-Some c =
    let nodes = c.args.nodes.now in
    let found : option_copied c.find.result ≡ last_of (all_in (λ k. not (is_arg_kind k)) nodes) =
    find_from_yields_List (λ t. not (is_arg_kind (node_kind t))) _ _ c.find.result c.find.ensures.ran (YieldsList-from_rev_slice nodes cc) (λ x b q k. search (rules, tests))
    ∙ find_back_is_last (λ t. not (is_arg_kind (node_kind t))) nodes in
    c.is_hash.ensures
    ∙ ap (λ o. option_map_or (λ t. is_kind kinds.Hash (node_kind t)) o c.args.behind_hash) (ap option_copied (sym c.in-Some.is) ∙ found)
    ∙ sym (ends_by_last c.args.behind_hash nodes)

pub returns-in-None : goal.returns-in-None
returns-in-None c =
    let nodes = c.args.nodes.now in
    let found : option_copied c.find.result ≡ last_of (all_in (λ k. not (is_arg_kind k)) nodes) =
    find_from_yields_List (λ t. not (is_arg_kind (node_kind t))) _ _ c.find.result c.find.ensures.ran (YieldsList-from_rev_slice nodes cc) (λ x b q k. search (rules, tests))
    ∙ find_back_is_last (λ t. not (is_arg_kind (node_kind t))) nodes in
    ap (λ o. option_map_or (λ t. is_kind kinds.Hash (node_kind t)) o c.args.behind_hash) (ap option_copied (sym c.in-None.is) ∙ found)
    ∙ sym (ends_by_last c.args.behind_hash nodes)
