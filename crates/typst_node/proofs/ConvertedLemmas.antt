-- The hint at a keyword in place of a name.
use Rattle.std.proofs.Common.{◌≡◌, ◌&&◌, ℕ, true, false, List, [], ◌∷◌, None, if◌then◌else◌, ap}
use Rattle.typst_base.specs.KindClasses.{is_keyword_kind}
use Rattle.typst_base.specs.declared.kind.SyntaxKind.{SyntaxKind}
use Rattle.typst_node.specs.Hints.{hint_for}
use Rattle.typst_node.specs.Converted.{keyword_hints, keyword_message, wants_name}

pub no_hint : (what : List ℕ) (kind : SyntaxKind) (text : List ℕ) → is_keyword_kind kind && wants_name what ≡ false → keyword_hints what kind text ≡ []
no_hint what kind text h = ap (λ b. if b then hint_for None (keyword_message text) ∷ [] else []) h

pub one_hint : (what : List ℕ) (kind : SyntaxKind) (text : List ℕ) → is_keyword_kind kind && wants_name what ≡ true → keyword_hints what kind text ≡ hint_for None (keyword_message text) ∷ []
one_hint what kind text h = ap (λ b. if b then hint_for None (keyword_message text) ∷ [] else []) h
