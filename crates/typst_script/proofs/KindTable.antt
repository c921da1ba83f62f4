-- Each number below 137 is the number of a kind.
use Rattle.std.specs.Prelude.{ℕ, ◌≡◌, ◌<◌, ◌≤◌, ◌↔◌, ◌+◌, Option, Some, IsNone, map}
use Rattle.std.proofs.Common.{arith, ◌∙◌, sym, ap, get_or}
use Rattle.std.proofs.lemmas.List.{get_or-map}
use Rattle.std.proofs.lemmas.List.FromFn.{get_or-range_with_len}
use Rattle.typst_base.specs.AllKinds.{all_kinds}
use Rattle.typst_base.specs.KindList.{numbers-all_kinds}
use Rattle.typst_base.specs.KindNumber.{number_of}
use Rattle.typst_base.specs.declared.kind.SyntaxKind.{SyntaxKind}
use Rattle.typst_base.specs.declared.kind.SyntaxKind.TheVariants.{End}

-- the table holds the kinds by their numbers
number_at : (n : ℕ) → n < 137 → number_of (get_or all_kinds n End) ≡ n
unfolding all_kinds
number_at n h =
    let there : get_or (map number_of all_kinds) n 0 ≡ 0 + n =
    ap (λ numbers. get_or numbers n 0) numbers-all_kinds ∙ get_or-range_with_len 0 137 n 0 h in
    omega (arith, there, get_or-map number_of all_kinds n End 0 h)

-- a function that reads each kind by its number, and nothing from 137 on, reads a kind with that number
pub number_of_read : (raw : ℕ) (read : Option SyntaxKind) (kind : SyntaxKind)
    → ((k : SyntaxKind) → number_of k ≡ raw → read ≡ Some k) → (IsNone read ↔ 137 ≤ raw) → read ≡ Some kind
    → number_of kind ≡ raw
number_of_read raw read kind of_its_number none is =
    let not_large : ¬ (137 ≤ raw) = λ h. grind (arith, none.1 h, is) in
    let small : raw < 137 = grind (arith, not_large) in
    let there : Some (get_or all_kinds raw End) ≡ Some kind = sym (of_its_number (get_or all_kinds raw End) (number_at raw small)) ∙ is in
    let same : get_or all_kinds raw End ≡ kind = cc in
    ap number_of (sym same) ∙ number_at raw small
