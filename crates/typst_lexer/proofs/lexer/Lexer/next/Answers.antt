use Rattle.std.proofs.Common.{◌≡◌, ℕ, ◌<◌, ◌++◌, false, List, [], ◌∷◌, length, take, drop, sym, ap, ◌∙◌, arith}
use Rattle.std.specs.Prelude.{◌==◌}
use Rattle.typst_lexer.specs.declared.head.FirstToken.{FirstToken}
use Rattle.typst_lexer.specs.FirstToken.{first}
use Rattle.typst_lexer.specs.Left.{Rest}
use Rattle.typst_lexer.specs.Tokens.{found_in, tokens}
use Rattle.typst_lexer.proofs.Tokens.{front_and_back, tokens_step}
use Rattle.typst_lexer.proofs.lexer.Lexer.next.Goals as goal

has_byte : (text : List ℕ) → (length text == 0) ≡ false → 0 < length text
has_byte [] e = cc
has_byte (b ∷ bs) e = omega arith

pub returns-clause-tokens : goal.returns-clause-tokens
returns-clause-tokens c =
    let how = c.args.self.now.mode in
    let k = c.args.self.now.behind in
    let t = c.args.self.now.text.now in
    let some : 0 < length t = has_byte t (sym c.is_empty.ensures ∙ c.if-is_empty.false) in
    let found = c.first_token-first.result in
    let same : first how k t ≡ found = sym c.first_token-first.ensures.token in
    let front : take found.len t ≡ c.split_at.result.0.now = sym c.split_at.ensures.front in
    let back : drop found.len t ≡ c.split_at.result.1.now = sym c.split_at.ensures.back in
    tokens_step how k t some
    ∙ ap (λ (f : FirstToken). found_in t f ∷ tokens how f.behind (drop f.len t)) same
    ∙ (λ i. record { kind = found.kind; bytes = front i } ∷ tokens how found.behind (back i))

pub returns-clause-text : goal.returns-clause-text
returns-clause-text c =
    let t = c.args.self.now.text.now in
    let len = c.first_token-first.result.len in
    let front : take len t ≡ c.split_at.result.0.now = sym c.split_at.ensures.front in
    let back : drop len t ≡ c.split_at.result.1.now = sym c.split_at.ensures.back in
    sym (front_and_back len t) ∙ (λ i. front i ++ back i)

pub returns-clause-left : goal.returns-clause-left
returns-clause-left c =
    let how = c.args.self.now.mode in
    let t = c.args.self.now.text.now in
    let found = c.first_token-first.result in
    ap (λ (rest : List ℕ). (let r : Rest = record { mode = how; before = found.behind; text = rest } in r)) c.split_at.ensures.back
    ∙ ap (λ (f : FirstToken). (let r : Rest = record { mode = how; before = f.behind; text = drop f.len t } in r)) c.first_token-first.ensures.token
