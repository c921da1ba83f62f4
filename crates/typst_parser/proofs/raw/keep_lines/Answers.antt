use Rattle.std.proofs.Common.{rules, ◌≡◌, ◌++◌, ◌∷◌, [], false, true, sym}
use Rattle.typst_parser.specs.LineViews.{line_of}
use Rattle.typst_parser.specs.Lines.{is_blank}
use Rattle.typst_parser.specs.Raw.{shortened, trimmed_end}
use Rattle.typst_parser.proofs.RawLines.{kept_is, kept_push}
use Rattle.typst_parser.proofs.raw.keep_lines.Goals as goal

pub returns-in_ok-push : goal.returns-in_ok-push
returns-in_ok-push c =
    let l = c.in-Some.last in
    let old = c.args.lines.now.items in
    let front = c.pop.new.self.items in
    let is : old ≡ front ++ l ∷ [] = c.in-Some.ensures.items in
    let blank : is_blank l.text.now ≡ false = search rules in
    let more : c.push.new.self.items ≡ front ++ c.shortened.result ∷ [] = search rules in
    let short : line_of c.shortened.result ≡ shortened (trimmed_end l.text.now) (line_of l) = search rules in
    kept_push old front c.push.new.self.items l c.shortened.result is blank more short

pub returns-else-not-is_blank : goal.returns-else-not-is_blank
returns-else-not-is_blank c =
    let l = c.in-Some.last in
    let old = c.args.lines.now.items in
    let front = c.pop.new.self.items in
    let is : old ≡ front ++ l ∷ [] = c.in-Some.ensures.items in
    let blank : is_blank l.text.now ≡ true = search rules in
    sym (kept_is old front l true is blank)
