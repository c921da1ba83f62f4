-- Written by bench/grammar_crate.py from crates/grammar.table: change that and run it.
-- What the machine may expect.
use Rattle.std.specs.Prelude.{ℕ, List, codes}
use Rattle.typst_grammar.specs.declared.expectation.Expectation.{Expectation}
use Rattle.typst_grammar.specs.declared.expectation.Expectation.TheVariants as expectations

-- the text of the error where it is missing
abbrev pub expectation_text : Expectation → List ℕ
expectation_text expectations.Colon = codes "expected colon"
expectation_text expectations.Expression = codes "expected expression"
expectation_text expectations.SemicolonOrLineBreak = codes "expected semicolon or line break"
expectation_text expectations.KeywordIn = codes "expected keyword `in`"
expectation_text expectations.Identifier = codes "expected identifier"
expectation_text expectations.Comma = codes "expected comma"
expectation_text expectations.Pattern = codes "expected pattern"
expectation_text expectations.EqualsSign = codes "expected equals sign"
expectation_text expectations.ArgumentList = codes "expected argument list"
expectation_text expectations.Block = codes "expected block"
expectation_text expectations.NamedOrKeyedPair = codes "expected named or keyed pair"

-- what is expected
abbrev pub expectation_what : Expectation → List ℕ
expectation_what expectations.Colon = codes "colon"
expectation_what expectations.Expression = codes "expression"
expectation_what expectations.SemicolonOrLineBreak = codes "semicolon or line break"
expectation_what expectations.KeywordIn = codes "keyword `in`"
expectation_what expectations.Identifier = codes "identifier"
expectation_what expectations.Comma = codes "comma"
expectation_what expectations.Pattern = codes "pattern"
expectation_what expectations.EqualsSign = codes "equals sign"
expectation_what expectations.ArgumentList = codes "argument list"
expectation_what expectations.Block = codes "block"
expectation_what expectations.NamedOrKeyedPair = codes "named or keyed pair"
